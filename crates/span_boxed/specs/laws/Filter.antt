-- What answers honestly, acts plainly and goes on lawfully keeps the law; a box with it keeps it
-- too.
use Rattle.span_boxed.specs.Filter.{ActsPlainly, AnswersHonestly, ReloadsLawfully, StepsLawfully}
use Rattle.span_filters.specs.Filter.{FilterLaws, FilterReloadLaws, FilterReloadSteps, FilterSteps}
use Rattle.span_registry.specs.Behaviour.{Behaviour, Conduct}

-- an object that is reloaded lawfully keeps the law of reloading
pub object_reloads : {F : Type 0} {has : F → Behaviour → Type 0} {reloaded : FilterReloadSteps F}
    {acts : F → Conduct → Type 0}
    → FilterReloadLaws (λ f. AnswersHonestly (has f)) (ReloadsLawfully has reloaded acts)
    (λ f. ActsPlainly (has f) (acts f))
object_reloads = record {
  answers = λ f l g a s h. s.law.answers a h.answered;
  goes_on = λ f l g b s h. s.law.conduct b h.acted;
}

-- an object that answers honestly, acts plainly and goes on lawfully keeps the law of filters
pub object_laws : {F : Type 0} {has : F → Behaviour → Type 0} {steps : FilterSteps F}
    {acts : F → Conduct → Type 0}
    → FilterLaws (λ f. AnswersHonestly (has f)) (StepsLawfully has steps acts)
    (λ f. ActsPlainly (has f) (acts f))
object_laws = record {
  honest = λ f a h. h.honest;
  keeps = λ f e lane under v g w a s h. s.law.answers a h.answered;
  plain = λ f b h. h.plain;
  now = λ f b h. h.now;
  only = λ f a b d h. h.only a d.answered;
  goes_on = λ f e lane under v g w b h s. s.law.conduct b h.acted;
}
