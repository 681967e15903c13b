use Rattle.std.proofs.Common.{◌∙◌, [], ◌∷◌, Some, refl, subst, sym}
use Rattle.span_dispatch.proofs.CallerLemmas.{heard_records}
use Rattle.span_stacks.specs.Filtered.{IsNumber}
use Rattle.span_registry.specs.Position.{Here, Outer, Under}
use Rattle.span_examples.proofs.Standing.{finds_room, fits, put_on, records_alone, takes_first}
use Rattle.span_examples.specs.Kinds.{recorder_under}
use Rattle.span_examples.proofs.conducts.put_filtered.Goals as goal

pub returns-in-Err-clause-memory : goal.returns-in-Err-clause-memory
returns-in-Err-clause-memory g c =
    let fit = fits g.met.F.Filter.laws c.numbers_are_own.ensures c.args.filter c.requires.answers.0 c.requires.answers.1 _ _ c.with_filter-layer.ensures in
    absurd (finds_room c.numbers_are_own.ensures _ fit _ _ c.new-2.ensures c.in-Err.ensures.refused.full)

pub returns-in-Ok-clause-stands : goal.returns-in-Ok-clause-stands
returns-in-Ok-clause-stands g c =
    let fit = fits g.met.F.Filter.laws c.numbers_are_own.ensures c.args.filter c.requires.answers.0 c.requires.answers.1 _ _ c.with_filter-layer.ensures in
    (_, _, put_on c.numbers_are_own.ensures _ fit _ _ c.new-2.ensures _ c.in-Ok.ensures.attached)

pub returns-in-Ok-clause-records : goal.returns-in-Ok-clause-records
returns-in-Ok-clause-records g c b acts =
    let put = c.in-Ok.ensures.attached in
    let made = c.with_filter-layer.ensures in
    let number =
    takes_first g.met.F.Filter.laws c.numbers_are_own.ensures c.args.filter c.requires.answers.0 c.requires.answers.1 _ _ made _ _ c.new-2.ensures _ put in
    records_alone _ c.other_layers_make_no_difference.ensures.of_requests.requests_alone
    (Outer (Under Here)) recorder_under ((Some 0, b) ∷ []) _ (put.layer_as_it_was.1 ∙ made.inner ∙ c.new.ensures)
    (λ y used. (
      used.0.2,
      (subst (λ i. IsNumber i (Some 0)) (sym used.0.0) number, subst (λ f. g.F.Filter.acts f b) (sym (used.0.1 ∙ put.layer_as_it_was.0 ∙ made.own)) acts, refl),
    ))
    (λ y z h k. heard_records h (recorder_under y) (recorder_under z) k)
