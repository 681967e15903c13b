use Rattle.std.proofs.Common.{None, refl, rules}
use Rattle.std.specs.Prelude.{true}
use Rattle.span_boxed.proofs.CallerLemmas.{form_in_a_box}
use Rattle.span_boxed.proofs.FilterCallerLemmas.{in_a_box}
use Rattle.span_filters.specs.Level.{level_answers}
use Rattle.span_layers.specs.Observe.{open_answers}
use Rattle.span_registry.specs.Form.{Filtered, Leaf}
use Rattle.span_examples.proofs.boxed.hint_boxed.Goals as goal
use Rattle.span_examples.proofs.boxed.hint_boxed.OwnLists.{own-1, at-1-1}

pub max_level_hint-requires : goal.max_level_hint-requires
max_level_hint-requires c = rw c.new-layer.ensures (in_a_box own-1 at-1-1 (λ j x. j.1.dyn_usable x) c.into_dyn_box.ensures.1 (tt, tt))

pub returns : goal.returns
returns c =
    let form = Filtered None (level_answers c.args.level) (Leaf true open_answers) in
    c.max_level_hint.ensures form (form_in_a_box own-1 at-1-1 (λ j. j.1.dyn_form) c.new-layer.result c.in_ok-new.field-0.value
    form (rw c.new-layer.ensures c.into_dyn_box.ensures.1) (rw (c.in_ok-new.ensures.ok) c.with_filter-inside.ensures.id, search rules, refl))
