use Rattle.std.proofs.Common.{ap, refl, ◌∙◌}
use Rattle.span_core.specs.Level.{passes_level}
use Rattle.span_core.specs.Metadata.{level_of}
use Rattle.span_boxed.proofs.FilterCallerLemmas.{answers_in_a_box, in_a_box}
use Rattle.span_filters.specs.laws.Filter.{settled_laws}
use Rattle.span_filters.specs.Level.{level_answers}
use Rattle.span_filters.specs.laws.Level.{level_honest}
use Rattle.span_examples.proofs.filter.wants_boxed.OwnLists.{own-1, at-1-1}
use Rattle.span_examples.proofs.filter.wants_boxed.Goals as goal

pub enabled-requires : goal.enabled-requires
enabled-requires c = rw c.new-filter.ensures (in_a_box own-1 at-1-1 (λ j f. j.1.dyn_usable f) c.into_dyn_box.ensures.1 tt)

pub returns : goal.returns
returns c =
    let level = c.in_ok-new.field-0.value in
    let laws = settled_laws level_answers level_honest in
    let answered = answers_in_a_box own-1 at-1-1 (λ j. j.1.dyn_answers) laws c.into_dyn_box.ensures.1 (level_answers level) refl in
    c.enabled.ensures (level_answers level) (rw c.new-filter.ensures answered) ∙ ap (λ f. passes_level f (level_of c.args.meta.now)) c.in_ok-new.ensures.ok
