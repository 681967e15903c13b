use Rattle.std.proofs.Common.{◌∙◌, ◌<◌, Err, Ok, ap, arith, get_or, is_ok, length, subst, sym}
use Rattle.std.proofs.Math.Seq.{map-set_same}
use Rattle.std.specs.List.Sorted.{IsBinarySearchResult}
use Rattle.span_targets.proofs.ByLength.{tied}
use Rattle.span_targets.proofs.Edits.{IsPlace, rises}
use Rattle.span_targets.proofs.Places.{names_insert, names_set, sorted_after}
use Rattle.span_targets.proofs.targets.Targets.add.Goals as goal
use Rattle.span_targets.specs.Directive.{target_of}
use Rattle.span_targets.specs.private.Order.{is_longest_first, order_to}

pub invariant_of-self : goal.invariant_of-self
invariant_of-self c =
    let kept = c.set_level.ensures.target ∙ ap target_of c.index_mut.ensures.value in
    record {
      ordered =
          ap is_longest_first (map-set_same target_of c.args.self.now.directives.items c.in-Ok.place c.set_level.new.self _ kept) ∙ c.args.self.now.ordered;
    }

pub invariant_of-self-in-Err : goal.invariant_of-self-in-Err
invariant_of-self-in-Err c =
    let f = c.args.self.now in
    let ds = f.directives.items in
    let t = c.args.target.now in
    let found = subst (λ es. IsBinarySearchResult (order_to t) es (Err c.in-Err.place)) c.deref.ensures.value c.in-Err.ensures.place in
    let at : IsPlace t ds c.in-Err.place = found (rises ds t f.ordered) in
    record {
      ordered = sorted_after (is_ok c.insert.result) ds c.insert.new.self.items
          c.in-Err.place t c.in_ok-directive-in-Err.directive c.insert.ensures.items at c.in_ok-directive-in-Err.ensures.0 f.ordered;
    }

pub returns-in-Ok-clause-ok : goal.returns-in-Ok-clause-ok
returns-in-Ok-clause-ok c =
    let f = c.args.self.now in
    let ds = f.directives.items in
    let t = c.args.target.now in
    let place = c.in-Ok.place in
    let found = subst (λ es. IsBinarySearchResult (order_to t) es (Ok place)) c.deref.ensures.value c.in-Ok.ensures.place in
    let below : place < length ds = omega (arith, c.in-Ok.ensures.bound, c.deref.ensures.len, ap length c.deref.ensures.value) in
    let there = sym (tied t (target_of (get_or ds place _)) (found _)) in
    names_set ds f.default place t c.set_level.new.self _ c.args.level f.ordered below there
    (c.set_level.ensures.target ∙ ap target_of c.index_mut.ensures.value) c.set_level.ensures.level

pub returns-in_ok-insert-in-Err-clause-ok : goal.returns-in_ok-insert-in-Err-clause-ok
returns-in_ok-insert-in-Err-clause-ok c =
    let f = c.args.self.now in
    let ds = f.directives.items in
    let t = c.args.target.now in
    let found = subst (λ es. IsBinarySearchResult (order_to t) es (Err c.in-Err.place)) c.deref.ensures.value c.in-Err.ensures.place in
    names_insert ds c.insert.new.self.items f.default c.in-Err.place t c.in_ok-directive-in-Err.directive c.args.level
    c.in_ok-insert-in-Err.ensures.items (found (rises ds t f.ordered)) c.in_ok-directive-in-Err.ensures.0 c.in_ok-directive-in-Err.ensures.1
