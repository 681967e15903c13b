use Rattle.std.proofs.Common.{arith, ◌≡◌, ◌+◌, ◌<◌, refl, sym, subst, None, true}
use Rattle.span_core.specs.declared.filter.TheConstants.FilterId.{LIMIT}
use Rattle.span_filters.specs.Level.{level_answers}
use Rattle.span_layers.specs.Observe.{open_answers}
use Rattle.span_registry.specs.Form.{Filtered, Leaf}
use Rattle.span_examples.proofs.Counter.{starts}
use Rattle.span_examples.proofs.stack.count_under.Goals as goal

pub returns-in-Ok-clause-made : goal.returns-in-Ok-clause-made
returns-in-Ok-clause-made c =
    let a = c.in-Ok.ensures.attached in
    starts _ _ _ _ _ _ c.new.ensures.opened c.new-2.ensures c.with_filter-layer.ensures a.numbers.form a.room a.layer_as_it_was

pub returns-in-Err-clause-refused : goal.returns-in-Err-clause-refused
returns-in-Err-clause-refused c =
    let back = c.in-Err.ensures.refused in
    let more : LIMIT < c.args.registry.filters + 1 = back.full (Filtered None (level_answers c.args.level) (Leaf true open_answers))
    (c.with_filter-layer.ensures.id, subst (λ f. level_answers c.args.level ≡ level_answers f) (sym c.with_filter-layer.ensures.own) refl, refl) in
    record { full = omega (arith, more); reason = back.error }
