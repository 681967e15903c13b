-- A counter under a level: what a new span makes of it.
use Rattle.std.proofs.Common.{◌≡◌, ◌+◌, ◌≤◌, ℕ, Bool, true, false, refl, ap, subst, ◌∙◌, Result, Ok, Err}
use Rattle.std.specs.Prelude.{if◌then◌else◌, IfOk, OnErr, Some}
use Rattle.span_core.specs.Filters.{FilterSet, IsEmpty}
use Rattle.span_core.specs.Level.{passes_level}
use Rattle.span_core.specs.Metadata.{level_of}
use Rattle.span_core.specs.Span.{metadata_of}
use Rattle.span_core.specs.declared.level.LevelFilter.{LevelFilter}
use Rattle.span_core.specs.declared.metadata.Metadata.{Metadata}
use Rattle.span_core.specs.declared.pass.Pass.{Pass}
use Rattle.span_core.specs.declared.span.Attributes.{Attributes}
use Rattle.span_core.specs.declared.span.Id.{Id}
use Rattle.span_core.specs.declared.span.Lane.{Lane}
use Rattle.span_filters.specs.Filter.{settled_answers, unmoved}
use Rattle.span_filters.specs.Level.{level_answers}
use Rattle.span_core.specs.declared.filter.TheConstants.FilterId.{LIMIT}
use Rattle.span_layers.specs.Number.{filters_in, numbered}
use Rattle.span_stacks.specs.Filtered.{FilteredForm, FilteredSteps, IsUnnumbered, filter_of, id_of, layer_of}
use Rattle.span_layers.specs.Layer.{LayerSteps}
use Rattle.span_layers.specs.Parts.{PartsForm}
use Rattle.span_stacks.specs.Layered.{LayeredSteps, inner_of, outer_of}
use Rattle.span_layers.specs.Observe.{observer_of, open_answers}
use Rattle.span_stacks.specs.Verdict.{NewSpansAreFresh, VetoesAloneRefuse}
use Rattle.span_stacks.proofs.CallerLemmas.{asked_with_new_pass}
use Rattle.span_stacks.specs.declared.filtered.Filtered.{Filtered as FilteredLayer}
use Rattle.span_layers.specs.declared.observe.Observer.{Observer}
use Rattle.span_store.specs.Store.{RegistryState}
use Rattle.span_registry.specs.Behaviour.{OnNewSpan}
use Rattle.span_registry.specs.Form.{Terminal, Base, Filtered, Form, Leaf, OnSubscriber, Parts}
use Rattle.span_registry.specs.Hooks.{AnswersEnabled, OpensAndNotifies, StackSteps, no_filter}
use Rattle.span_registry.specs.Plan.{Itself, Nobody, Through}
use Rattle.span_registry.specs.Question.{refusals}
use Rattle.span_examples.proofs.Level.{has_room, leaf_under, took}
use Rattle.span_examples.specs.Layers.{counted, opened_by}
use Rattle.span_examples.specs.Stacks.{Counted, CountsWhatPasses, IsNumbered, StartsToCount, level_in}
use Rattle.span_examples.specs.declared.layer.SpanCounter.{SpanCounter}

-- ---- this form

-- the form of the stack
abbrev pub form_of : LevelFilter → ℕ → Form
form_of level n = Parts OnSubscriber (Filtered (Some n) (level_answers level) (Leaf true open_answers)) (Terminal Base)

abbrev pub HasForm : Counted → Form → Type 0
HasForm x = PartsForm OnSubscriber
    (FilteredForm (id_of (outer_of x)) (settled_answers level_answers (level_in x)) (λ f. f ≡ Leaf true open_answers)) (λ f. f ≡ Terminal Base)

-- how its parts go on, as their types say
abbrev pub counter_steps : LayerSteps (Observer SpanCounter)
counter_steps x p e lane under v y w = (p ≡ Itself) × ((observer_of y ≡ counted e (observer_of x)) × (w ≡ v))

abbrev pub under_level : LayerSteps (FilteredLayer (Observer SpanCounter) LevelFilter)
under_level x p e lane under v y w =
    (id_of y ≡ id_of x) × FilteredSteps unmoved counter_steps (id_of x) (filter_of x) (layer_of x) p e lane under v (filter_of y) (layer_of y) w

abbrev pub stack_steps : StackSteps Counted
stack_steps x p e lane v y w =
    LayeredSteps (λ (s t : RegistryState). t) under_level (λ x p e lane v y w. w ≡ v) (outer_of x) (inner_of x) p e lane v (outer_of y) (inner_of y) w

-- a counter under a level is notified, or it isn't
went : (passed : Bool) (attrs : Attributes)
    (id : Id) (x y : FilteredLayer (Observer SpanCounter) LevelFilter) (lane : ℕ) (under : FilterSet) (v w : RegistryState)
    → FilteredSteps unmoved counter_steps
    (id_of x) (filter_of x) (layer_of x) (if passed then Through Itself else Nobody) (OnNewSpan attrs id) lane under v (filter_of y) (layer_of y) w
    → (observer_of (layer_of y) ≡ (if passed then counted (OnNewSpan attrs id) (observer_of (layer_of x)) else observer_of (layer_of x)))
    × (filter_of y ≡ filter_of x)
went true attrs id x y lane under v w h = (h.layer.1.0, h.filter.0)
went false attrs id x y lane under v w h = (ap observer_of h.1, h.0)

-- what a new span makes of the stack
pub record Goes (attrs : Attributes) (old new : Counted) (id : Id) : Type 0 where
  pub counts : CountsWhatPasses attrs old new id
  pub number : id_of (outer_of new) ≡ id_of (outer_of old)
  pub level : level_in new ≡ level_in old

pub goes : (old new : Counted) (lane : Lane) (attrs : Attributes) (fresh pass : Pass) (said : Bool) (m : Metadata)
    → NewSpansAreFresh → VetoesAloneRefuse → IsNumbered old → m ≡ metadata_of attrs → IsEmpty (refusals fresh)
    → AnswersEnabled inner_of HasForm old lane m fresh said pass
    → (id : Id) → OpensAndNotifies inner_of HasForm stack_steps lane attrs pass old new id → Goes attrs old new id
goes old new lane attrs fresh pass said m pass_law veto_law numbered same empty answer id h =
    let f = form_of (level_in old) numbered.0 in
    let s = (inner_of old).store in
    let has : HasForm old f = (refl, (numbered.1, refl, refl), refl) in
    let true_of_all = veto_law f (metadata_of attrs) s lane.0 no_filter (record { enabled = λ m v. refl; event = λ e v. refl }, tt) in
    let law = pass_law f attrs id s lane.0 ((refl, tt), tt, λ k h. refl) true_of_all in
    let plan = asked_with_new_pass f attrs id s lane.0 fresh pass said m same empty law (answer f has) h.left.store.spans in
    let steps = subst (λ p. stack_steps old p (OnNewSpan attrs id) lane.0 h.left new (inner_of new)) plan (h.notified f has (refl, tt)) in
    let outer = steps.second in
    let both = went (passes_level (level_in old) (level_of (metadata_of attrs)))
    attrs id (outer_of old) (outer_of new) lane.0 no_filter steps.between (inner_of new) outer.1 in
    record { counts = both.0; number = outer.0; level = both.1 }

-- ---- the new stack

abbrev pub UnderLevel : FilteredLayer (Observer SpanCounter) LevelFilter → Form → Type 0
UnderLevel x = FilteredForm (id_of x) (settled_answers level_answers (filter_of x)) (λ f. f ≡ Leaf true open_answers)

-- a counter that took the next number counts from nothing
pub starts : (level : LevelFilter) (n : ℕ) (counter : SpanCounter) (layer : Observer SpanCounter)
    (u : FilteredLayer (Observer SpanCounter) LevelFilter) (x : Counted) → opened_by counter ≡ 0 → observer_of layer ≡ counter → IsUnnumbered u layer level
    → ((f : Form) → UnderLevel u f → UnderLevel (outer_of x) (numbered f n).0) → ((f : Form) → UnderLevel u f → n + filters_in f ≤ LIMIT)
    → (filter_of (outer_of x) ≡ filter_of u) × (layer_of (outer_of x) ≡ layer_of u) → StartsToCount level x
starts level n counter layer u x opened observer unnumbered form room attached =
    let a = level_answers (filter_of u) in
    let f = leaf_under a in
    let has : UnderLevel u f = (unnumbered.id, refl, refl) in
    let r : n + 1 ≤ LIMIT = room f has in
    let given = subst (λ b. UnderLevel (outer_of x) (took a n b).0) (has_room n r) (form f has) in
    record {
      number = (n, given.0);
      under = attached.0 ∙ unnumbered.own;
      opened = ap (λ l. opened_by (observer_of l)) (attached.1 ∙ unnumbered.inner) ∙ ap opened_by observer ∙ opened;
    }

-- ---- a call that may be refused

pub on_ok : {A E : Type 0} {P Q : A → Type 0} (r : Result A E) → ((a : A) → P a → Q a) → IfOk r P → IfOk r Q
on_ok (Ok a) f h = f a h
on_ok (Err e) f h = tt

pub either_way : {A E : Type 0} {P : A → Type 0} {R G : Type 0} (r : Result A E) → IfOk r P → OnErr r R → ((a : A) → P a → G) → (R → G) → G
either_way (Ok a) p q f g = f a p
either_way (Err e) p q f g = g q
