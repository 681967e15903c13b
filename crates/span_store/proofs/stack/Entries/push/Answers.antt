use Rattle.std.proofs.Common.{◌∙◌, ap, sym, subst, arith, List}
use Rattle.span_core.specs.Span.{number_of}
use Rattle.span_store.specs.LaneStack.{HeldStack, stands}
use Rattle.span_store.specs.declared.stack.Entry.{Entry}
use Rattle.span_store.specs.private.Index.{Indexes}
use Rattle.span_store.specs.private.Marks.{ids, ids_down}
use Rattle.span_store.proofs.Marks.{below_pushed, holds_pushed, marked_pushed, pushed_down}
use Rattle.span_store.proofs.stack.Entries.push.Goals as goal

pub invariant_of-self-2 : goal.invariant_of-self-2
invariant_of-self-2 c =
    let es = c.self.inside.entries.items in
    let e : Entry = record { id = c.args.id; duplicate = c.args.duplicate; before = c.self.inside.held } in
    let mark = c.requires ∙ sym (ap (λ (s : HeldStack). stands (number_of c.args.id) s.spans) c.self.view_is) in (
      rw c.in_ok-push.ensures.items (record {
        marked = marked_pushed es e c.self.invariant.0.marked mark;
        held = holds_pushed c.self.inside.held c.insert.new.self es e c.self.invariant.0.held c.insert.ensures.kept c.insert.ensures.put;
        before = below_pushed es e c.self.invariant.0.held c.self.invariant.0.before;
      }),
      let room = c.self.invariant.1 in let kept = c.push.ensures.capacity in omega arith,
      rw c.in_ok-push.ensures.items
          (subst (λ (us : List Entry). Indexes c.add.new.self (ids us)) (sym (pushed_down es e)) (c.add.ensures (ids_down es) mark c.self.invariant.2)),
    )
