use Rattle.std.proofs.Common.{◌≡◌, ◌≤◌, ◌∙◌, List, ap, false, map, sym, subst}
use Rattle.span_core.specs.Span.{number_of}
use Rattle.span_core.specs.declared.span.Id.{Id}
use Rattle.span_store.specs.LaneStack.{stands}
use Rattle.span_store.specs.private.Index.{times}
use Rattle.span_store.specs.private.Marks.{IsLastIdOf, numbers_down}
use Rattle.span_store.proofs.Distinct.{none_taken, taken}
use Rattle.span_store.proofs.stack.take_out.Goals as goal

pub place_in-requires : goal.place_in-requires
place_in-requires c = subst (λ (us : List Id). times (number_of c.args.id) (numbers_down us) ≤ 1) (sym c.deref.ensures.value) c.requires

pub returns-in-Some-clause-left : goal.returns-in-Some-clause-left
returns-in-Some-clause-left c =
    let x = number_of c.args.id in
    let i = c.in-Some.place in
    let xs = c.args.spans.now.items in
    let h = subst (λ (us : List Id). IsLastIdOf us x i) c.deref.ensures.value c.in-Some.ensures in
    ap numbers_down c.remove.ensures.by_index.2 ∙ taken x i xs c.remove.result h.within (h.there c.remove.result) h.apart

pub returns-in-None-clause-left : goal.returns-in-None-clause-left
returns-in-None-clause-left c =
    let x = number_of c.args.id in
    none_taken x c.args.spans.now.items (subst (λ (us : List Id). stands x (map number_of us) ≡ false) c.deref.ensures.value c.in-None.ensures)
