-- An optional filter keeps the law, since the filter that it holds does.
use Rattle.std.specs.Prelude.{ℕ, [], ◌∷◌, Option, Some, None, refl, IfSome}
use Rattle.std.proofs.Common.{ap, sym, subst, ◌∙◌}
use Rattle.span_core.specs.Filters.{FilterSet}
use Rattle.span_filters.specs.Combinator.{ActsPart, HasPart, ReloadsPart, StepsPart, all_answers}
use Rattle.span_filters.specs.Filter.{FilterLaws, FilterReloadLaws, FilterReloadSteps, FilterSteps, KeepsInterestAndHint}
use Rattle.span_filters.specs.laws.Filter.{equal_alike, after}
use Rattle.span_store.specs.Store.{RegistryState}
use Rattle.span_registry.specs.Behaviour.{AnswerAlike, Behaviour, AreHonest, Conduct, IsPlain, Notice, OfNotice}
use Rattle.span_registry.specs.Conducts.{after_reload}
use Rattle.span_registry.specs.View.{view_of}
use Rattle.span_targets.specs.declared.setting.Setting.{Setting}

all_honest : AreHonest all_answers
all_honest = record {
  always = λ m v e. refl;
  never = λ m v e. absurd (cc);
  above = λ m v e. absurd (cc);
  alike = λ m k e. refl;
}

all_plain : IsPlain (λ h. all_answers)
all_plain = record {
  answers = λ h. record { enabled = λ m v w e. refl; event = λ e v w d. refl };
  history = λ h k e. refl;
}

module _ {F : Type 0} {has : F → Behaviour → Type 0} {steps : FilterSteps F}
    {acts : F → Conduct → Type 0} (laws : FilterLaws has steps acts) where
  part_honest : (f : Option F) (a : Behaviour) → HasPart has f a → AreHonest a
  part_honest (Some f) a h = laws.honest f a h
  part_honest None a h = subst AreHonest (sym h) all_honest

  part_keeps : (f : Option F) (e : Notice) (lane : ℕ) (under : FilterSet) (v : RegistryState)
      (g : Option F) (w : RegistryState) (a : Behaviour) → StepsPart steps f e lane under v g w
      → HasPart has f a → KeepsInterestAndHint (HasPart has g) a
  part_keeps (Some f) e lane under v (Some g) w a s h = laws.keeps f e lane under v g w a s h
  part_keeps (Some f) e lane under v None w a s h = absurd s
  part_keeps None e lane under v (Some g) w a s h = absurd s
  part_keeps None e lane under v None w a s h = (a, h, record { interest = refl; hint = refl })

  part_plain : (f : Option F) (b : Conduct) → ActsPart acts f b → IsPlain b
  part_plain (Some f) b h = laws.plain f b h
  part_plain None b h = subst IsPlain (sym h) all_plain

  part_now : (f : Option F) (b : Conduct) → ActsPart acts f b → HasPart has f (b [])
  part_now (Some f) b h = laws.now f b h
  part_now None b h = ap (λ (c : Conduct). c []) h

  part_only : (f : Option F) (a : Behaviour) (b : Conduct) → HasPart has f a → ActsPart acts f b
      → AnswerAlike a (b [])
  part_only (Some f) a b d h = laws.only f a b d h
  part_only None a b d h = equal_alike a (b []) (d ∙ sym (ap (λ (c : Conduct). c []) h))

  part_goes_on : (f : Option F) (e : Notice) (lane : ℕ) (under : FilterSet) (v : RegistryState)
      (g : Option F) (w : RegistryState) (b : Conduct) → ActsPart acts f b
      → StepsPart steps f e lane under v g w
      → ActsPart acts g (λ h. b (OfNotice e (view_of v.store lane under) ∷ h))
  part_goes_on (Some f) e lane under v (Some g) w b h s = laws.goes_on f e lane under v g w b h s
  part_goes_on (Some f) e lane under v None w b h s = absurd s
  part_goes_on None e lane under v (Some g) w b h s = absurd s
  part_goes_on None e lane under v None w b h s = ap (after e (view_of v.store lane under)) h

  -- an optional filter keeps the law, since the filter that it holds does
  pub part_laws : FilterLaws (HasPart has) (StepsPart steps) (ActsPart acts)
  part_laws = record {
    honest = part_honest;
    keeps = part_keeps;
    plain = part_plain;
    now = part_now;
    only = part_only;
    goes_on = part_goes_on;
  }

module _ {F : Type 0} {has : F → Behaviour → Type 0} {reloaded : FilterReloadSteps F}
    {acts : F → Conduct → Type 0} (laws : FilterReloadLaws has reloaded acts) where
  part_reloads_answer : (f : Option F) (l : Setting) (g : Option F) (a : Behaviour)
      → ReloadsPart reloaded f l g → HasPart has f a → (b : Behaviour) × HasPart has g b
  part_reloads_answer (Some f) l (Some g) a s h = laws.answers f l g a s h
  part_reloads_answer None l None a s h = (a, h)
  part_reloads_answer (Some f) l None a s h = absurd s
  part_reloads_answer None l (Some g) a s h = absurd s

  part_reloads_act : (f : Option F) (l : Setting) (g : Option F) (b : Conduct)
      → ReloadsPart reloaded f l g → ActsPart acts f b → ActsPart acts g (after_reload l b)
  part_reloads_act (Some f) l (Some g) b s h = laws.goes_on f l g b s h
  part_reloads_act None l None b s h = ap (after_reload l) h
  part_reloads_act (Some f) l None b s h = absurd s
  part_reloads_act None l (Some g) b s h = absurd s

  -- an optional filter keeps the law of reloading, since the filter that it holds does
  pub part_reloads : FilterReloadLaws (HasPart has) (ReloadsPart reloaded) (ActsPart acts)
  part_reloads = record { answers = part_reloads_answer; goes_on = part_reloads_act }

-- what holds of every value holds of the value that an option holds, if any
pub each_part : {T : Type 0} {P : T → Type 0} → ((x : T) → P x) → (o : Option T) → IfSome o P
each_part always None = tt
each_part always (Some x) = always x
