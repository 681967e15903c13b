use Rattle.std.proofs.Common.{◌≤◌, arith, false}
use Rattle.std.proofs.lemmas.Bool.{OnTrue_at}
use Rattle.span_core.specs.Span.{number_of}
use Rattle.span_store.specs.declared.stack.Entry.{Entry}
use Rattle.span_store.specs.private.Index.{times}
use Rattle.span_store.specs.private.Marks.{ids_down}
use Rattle.span_store.proofs.Marks.{last_alone}
use Rattle.span_store.proofs.stack.sole_place.Goals as goal

pub returns : goal.returns
returns c =
    let es = c.args.entries.now in
    let x = number_of c.args.id in
    let d : Entry = record { id = c.args.id; duplicate = false; before = record { bits = 0 } } in
    let within = OnTrue_at c.if-not-is_entry_at.false c.is_entry_at.ensures.within in
    let there = OnTrue_at c.if-not-is_entry_at.false c.is_entry_at.ensures.there in
    let once = c.in_ok-place.ensures (ids_down es) c.requires in
    let few : times x (ids_down es) ≤ 1 = omega arith in
    record { within = within; there = there; apart = last_alone es x c.in_ok-place.place d within (there d) few }
