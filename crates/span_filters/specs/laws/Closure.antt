-- Filters made of closures keep the law.
use Rattle.std.specs.Prelude.{Bool, Option, None, refl}
use Rattle.std.proofs.Common.{ap, sym, subst, ◌∙◌}
use Rattle.span_core.specs.declared.interest.Interest.{Interest}
use Rattle.span_core.specs.declared.level.LevelFilter.{LevelFilter}
use Rattle.span_core.specs.declared.metadata.Metadata.{Metadata}
use Rattle.span_filters.specs.Closure.{AnswersAllIn, ComputesIn, GoesByWhatShows, HasInterest, HasTestAnswers, HasViewAnswers, RefusesAbove, TestsInBy, interest_under, test_answers, view_answers}
use Rattle.span_filters.specs.Filter.{FilterLaws, ActsSteadily, HasOnly, unmoved}
use Rattle.span_filters.specs.Level.{interest_by}
use Rattle.span_filters.specs.declared.closure.DynFilterFn.{DynFilterFn}
use Rattle.span_filters.specs.declared.closure.FilterFn.{FilterFn}
use Rattle.span_filters.specs.laws.Filter.{still_laws}
use Rattle.span_filters.specs.laws.Level.{always_passes, never_passes}
use Rattle.span_store.specs.Store.{RegistryState}
use Rattle.span_registry.specs.Behaviour.{Behaviour, AreHonest, ArePlain}
use Rattle.span_registry.specs.View.{View, view_of}
use Rattle.span_registry.specs.declared.context.Context.{Context}

-- the answers of a test are honest if it goes by what metadata show and refuses every level above
-- the hint
pub test_answers_honest : (p : Metadata → Bool) (hint : Option LevelFilter) → GoesByWhatShows p
    → RefusesAbove p hint → AreHonest (test_answers p hint)
test_answers_honest p hint shown refuses = record {
  always = λ m v e. always_passes _ e;
  never = λ m v e. never_passes _ e;
  above = λ m v e. refuses m e;
  alike = λ m k e. ap interest_by (shown m k e);
}

none_above : (p : Metadata → Bool) → RefusesAbove p None
none_above p m e = absurd (cc)

-- the answers of a test without a hint are honest if it goes by what metadata show
pub unhinted_honest : (p : Metadata → Bool) → GoesByWhatShows p → AreHonest (test_answers p None)
unhinted_honest p shown = test_answers_honest p None shown (none_above p)

test_honest : {F : Type 0} (gives : F → Metadata → Bool → Type 0) (f : FilterFn F) (a : Behaviour)
    → HasTestAnswers gives f a → AreHonest a
test_honest gives f a h =
    subst AreHonest (sym h.answers) (test_answers_honest h.test f.max_level_hint h.shown h.refuses)

-- a filter by a test of metadata keeps the law
pub test_laws : {F : Type 0} (gives : F → Metadata → Bool → Type 0)
    → FilterLaws (HasTestAnswers gives) unmoved (ActsSteadily (HasTestAnswers gives))
test_laws gives = still_laws (HasTestAnswers gives) (test_honest gives)

-- a filter by a test of metadata and view keeps the law
pub view_laws : {S F R : Type 0} (registry : S → RegistryState)
    (gives : F → Metadata → Context S → Bool → Type 0)
    (registered : R → Metadata → Interest → Type 0)
    → FilterLaws (HasViewAnswers registry gives registered) unmoved
    (ActsSteadily (HasViewAnswers registry gives registered))
view_laws registry gives registered =
    still_laws (HasViewAnswers registry gives registered) (λ f a h. h.honest)

-- a filter by a test that answers all metadata has but one test
pub one_test : {F : Type 0} (gives : F → Metadata → Bool → Type 0) (f : FilterFn F)
    → HasOnly (HasTestAnswers gives) f
one_test gives f a b h k = record {
  enabled = λ m s lane mask.
      let r = h.all m in
      (λ i. (h.answers i).enabled m (view_of s lane mask)) ∙ sym (h.computed m r.0 r.1)
      ∙ k.computed m r.0 r.1 ∙ sym (λ i. (k.answers i).enabled m (view_of s lane mask));
  event =
      λ e s lane mask. (λ i. (h.answers i).event e (view_of s lane mask))
      ∙ sym (λ i. (k.answers i).event e (view_of s lane mask));
}

-- a filter by a test of metadata and view that answers on all that a store shows has but one test
pub one_view_test : {S F R : Type 0} (registry : S → RegistryState)
    (gives : F → Metadata → Context S → Bool → Type 0)
    (registered : R → Metadata → Interest → Type 0) (f : DynFilterFn F R)
    → AnswersAllIn registry gives f.enabled → HasOnly (HasViewAnswers registry gives registered) f
one_view_test registry gives registered f all a b h k = record {
  enabled = λ m s lane mask.
      let c = all m s lane mask in
      (λ i. (h.answers i).enabled m (view_of s lane mask)) ∙ sym (ap (h.test m) c.1)
      ∙ sym (h.computed m c.0 c.2.0 c.2.1)
      ∙ k.computed m c.0 c.2.0 c.2.1 ∙ ap (k.test m) c.1
      ∙ sym (λ i. (k.answers i).enabled m (view_of s lane mask));
  event =
      λ e s lane mask. (λ i. (h.answers i).event e (view_of s lane mask))
      ∙ sym (λ i. (k.answers i).event e (view_of s lane mask));
}

-- the answers of a test of metadata are plain, since they look at no view
pub test_plain : {F : Type 0} (gives : F → Metadata → Bool → Type 0) (f : FilterFn F)
    (a : Behaviour) → HasTestAnswers gives f a → ActsSteadily (HasTestAnswers gives) f (λ h. a)
test_plain gives f a h =
    record {
      always = a;
      answered = h;
      only = λ b k. one_test gives f b a k h;
      plain = subst ArePlain (sym h.answers)
          (record { enabled = λ m v w e. refl; event = λ e v w d. refl });
      steady = refl;
    }

-- the answers of a test of metadata and view are plain where views that differ in extensions alone
-- get equal answers
pub view_plain : {S F R : Type 0} (registry : S → RegistryState)
    (gives : F → Metadata → Context S → Bool → Type 0)
    (registered : R → Metadata → Interest → Type 0) (f : DynFilterFn F R) (a : Behaviour)
    → AnswersAllIn registry gives f.enabled → HasViewAnswers registry gives registered f a
    → ArePlain a → ActsSteadily (HasViewAnswers registry gives registered) f (λ h. a)
view_plain registry gives registered f a all h p = record {
  always = a;
  answered = h;
  only = λ b k. one_view_test registry gives registered f all b a k h;
  plain = p;
  steady = refl;
}

-- a test of metadata and view without an interest of its own and without a hint is honest whatever
-- it says
pub unhinted_view_honest : (p : Metadata → View → Bool)
    → AreHonest (view_answers p (interest_under None) None)
unhinted_view_honest p = record {
  always = λ m v e. absurd (cc);
  never = λ m v e. absurd (cc);
  above = λ m v e. absurd (cc);
  alike = λ m k e. refl;
}

-- a filter that was made of a closure alone has the answers of the test that the closure computes
pub made_of_test : {S F R : Type 0} (registry : S → RegistryState)
    (gives : F → Metadata → Context S → Bool → Type 0)
    (registered : R → Metadata → Interest → Type 0) (f : DynFilterFn F R) (test : F)
    (p : Metadata → View → Bool) → TestsInBy f test None None → ComputesIn registry gives test p
    → HasViewAnswers registry gives registered f (view_answers p (interest_under None) None)
made_of_test {R} registry gives registered f test p made computes = record {
  test = p;
  interest = interest_under None;
  computed = subst (λ t. ComputesIn registry gives t p) (sym made.enabled) computes;
  settled =
      subst (λ (o : Option R). HasInterest registered o f.max_level_hint (interest_under None))
      (sym made.register_callsite) (ap interest_under (sym made.max_level_hint));
  answers = ap (view_answers p (interest_under None)) (sym made.max_level_hint);
  honest = unhinted_view_honest p;
}
