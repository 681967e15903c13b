-- For the proofs of callers: a stack that was asked with a new pass notifies whom the filters let by when they are asked afresh; and an honest layer on an
-- honest stack makes one.
use Rattle.std.proofs.Common.{◌≡◌, inl, inr, ℕ, ◌+◌, ◌≤◌, nat_lt, Bool, true, false, Some, refl, sym, ap, subst, ◌∙◌, ⊎_elim}
use Rattle.std.proofs.lemmas.Bool.{false≢true}
use Rattle.std.specs.Prelude.{if◌then◌else◌}
use Rattle.span_core.specs.Event.{event_metadata}
use Rattle.span_core.specs.Filters.{FilterSet, IsEmpty}
use Rattle.span_core.specs.Span.{metadata_of}
use Rattle.span_core.specs.declared.event.Event.{Event}
use Rattle.span_core.specs.declared.filter.TheConstants.FilterId.{LIMIT}
use Rattle.span_core.specs.declared.metadata.Metadata.{Metadata}
use Rattle.span_core.specs.declared.pass.Pass.{Pass}
use Rattle.span_core.specs.declared.span.Attributes.{Attributes}
use Rattle.span_core.specs.declared.span.Id.{Id}
use Rattle.span_stacks.specs.Attach.{Attaches}
use Rattle.span_stacks.specs.Honest.{IsBuiltLayer, IsHonestLayer, IsHonestStack}
use Rattle.span_stacks.specs.Layered.{inner_of, outer_of}
use Rattle.span_layers.specs.Number.{filters_in, numbered}
use Rattle.span_stacks.specs.Stands.{Stands, base_form, itself, registry_on, stack_form}
use Rattle.span_stacks.specs.Verdict.{IsFresh, NewSpanIsFresh, NumbersStayOwn}
use Rattle.span_stacks.specs.declared.layered.Layered.{Layered}
use Rattle.span_store.specs.Store.{RegistryState, Store, new_registry}
use Rattle.span_store.specs.declared.limits.Limits.{Limits}
use Rattle.span_registry.specs.Behaviour.{OnEvent, OnNewSpan}
use Rattle.span_registry.specs.Form.{Absent, Terminal, Base, End, Filtered, Form, InList, InPair, Leaf, OnSubscriber, Parts}
use Rattle.span_registry.specs.Hooks.{no_filter}
use Rattle.span_registry.specs.Question.{AnswersSo, asked, event_asked, refusals}

-- what is asked with a new pass is asked where no filter refuses
pub asked_by_nobody : (f : Form) (s : Store) (lane : ℕ) (fresh : Pass) (m meta : Metadata)
    → m ≡ meta → IsEmpty (refusals fresh) → (asked f m s lane no_filter (refusals fresh)).1 ≡ (asked f meta s lane no_filter no_filter).1
asked_by_nobody f s lane fresh m meta same empty = λ k. (asked f (same k) s lane no_filter (λ n. empty n k)).1

-- of a new span
pub asked_with_new_pass : (f : Form) (attrs : Attributes) (id : Id) (s : Store) (lane : ℕ) (fresh pass : Pass) (said : Bool) (m : Metadata)
    → m ≡ metadata_of attrs → IsEmpty (refusals fresh)
    → NewSpanIsFresh f attrs id s lane (asked f (metadata_of attrs) s lane no_filter no_filter).1
    → AnswersSo (asked f m s lane no_filter (refusals fresh)) fresh said pass → IsFresh f (OnNewSpan attrs id) (refusals pass) s lane
asked_with_new_pass f attrs id s lane fresh pass said m same empty law answer =
    subst (λ r. IsFresh f (OnNewSpan attrs id) r s lane) (sym (answer.refused ∙ asked_by_nobody f s lane fresh m (metadata_of attrs) same empty)) law.plan

-- of an event, with both questions
pub event_asked_with_new_pass : (f : Form) (e : Event) (s : Store) (lane : ℕ) (fresh first second : Pass) (said wanted : Bool) (m : Metadata)
    → m ≡ event_metadata e → IsEmpty (refusals fresh)
    → IsFresh f (OnEvent e) (event_asked f e s lane no_filter (asked f (event_metadata e) s lane no_filter no_filter).1).1 s lane
    → AnswersSo (asked f m s lane no_filter (refusals fresh)) fresh said first
    → AnswersSo (event_asked f e s lane no_filter (refusals first)) first wanted second → IsFresh f (OnEvent e) (refusals second) s lane
event_asked_with_new_pass f e s lane fresh first second said wanted m same empty law answer more =
    let before = answer.refused ∙ asked_by_nobody f s lane fresh m (event_metadata e) same empty in
    subst (λ r. IsFresh f (OnEvent e) r s lane) (sym (more.refused ∙ ap (λ (r : FilterSet). (event_asked f e s lane no_filter r).1) before)) law

-- ---- an honest layer on an honest stack

-- what holds of a form that took a number, and of one that found no room, holds by whether there is room
by_room : (P : Form → Type 0) (b : Bool) (x y : Form × ℕ) → P x.0 → P y.0 → P (if b then x else y).0
by_room P true x y p q = p
by_room P false x y p q = q

-- a layer whose filters took numbers is built as it was
layer_numbered : (within : Bool) (f : Form) (n : ℕ) → IsBuiltLayer within f → IsBuiltLayer within (numbered f n).0
layer_numbered within (Leaf still a) n h = h
layer_numbered within (Filtered m a f) n h =
    by_room (IsBuiltLayer within)
    (nat_lt n LIMIT) (Filtered (Some n) a (numbered f (n + 1)).0, (numbered f (n + 1)).1) (Filtered m a (numbered f n).0, (numbered f n).1)
    (h.0, layer_numbered true f (n + 1) h.1) (h.0, layer_numbered true f n h.1)
layer_numbered within (Parts InPair o i) n h = (layer_numbered within o n h.0, layer_numbered within i (numbered o n).1 h.1)
layer_numbered within (Parts InList o i) n h =
    let m = (numbered o n).1 in
    (layer_numbered true o n h.0, ⊎_elim (λ (e : i ≡ Terminal End). inl (ap (λ z. (numbered z m).0) e)) (λ b. inr (layer_numbered true i m b)) h.1)
layer_numbered within other n h = absurd h

-- where there is room for its filters, a layer that keeps stacks honest, with the next numbers taken, makes an honest stack
pub honest_on : NumbersStayOwn → (g f : Form) (n : ℕ)
    → n + filters_in g ≤ LIMIT → IsHonestLayer g → IsHonestStack f n → IsHonestStack (Parts OnSubscriber (numbered g n).0 f) (numbered g n).1
honest_on law g f n room layer below = record {
  numbers = (law g n room).stack f below.numbers;
  built = (⊎_elim (λ (e : g ≡ Terminal Absent). inl (ap (λ z. (numbered z n).0) e)) (λ b. inr (layer_numbered false g n b)) layer, below.built);
}

-- a new registry stands so
pub bare_stands : (l : Limits) (s : RegistryState) → s ≡ new_registry l → Stands itself base_form (Terminal Base) 0 s
bare_stands l s new = record {
  has = refl;
  rules = record { numbers = record { distinct = tt; handed_out = λ k e. absurd (false≢true e) }; built = tt };
  filters = ap (λ (t : RegistryState). t.filters) new;
  empty = ap (λ (t : RegistryState). t.store) new;
}

-- and so does what such a layer was put on: its filters took the next numbers
pub stands_on : {L S : Type 0} {registry : S → RegistryState} {with_registry : S → RegistryState → S}
    {inner_usable : S → Type 0} {has_form : S → Form → Type 0} {usable : L → Type 0} {layer_form : L → Form → Type 0} {attached : L → L → Type 0}
    → NumbersStayOwn → ((s : S) (w : RegistryState) → registry (with_registry s w) ≡ w)
    → ((s : S) (w : RegistryState) (f : Form) → has_form s f → has_form (with_registry s w) f) → (g f : Form) (n : ℕ) (layer : L) (s : S) (x : Layered L S)
    → layer_form layer g → IsHonestLayer g → Stands registry has_form f n s → Attaches registry with_registry inner_usable usable layer_form attached layer s x
    → Stands (registry_on registry) (stack_form layer_form has_form) (Parts OnSubscriber (numbered g n).0 f) (numbered g n).1 x
stands_on {registry = registry} {has_form = has_form} {layer_form = layer_form} law shows keeps g f n layer s x has honest below put =
    let room = subst (λ k. k + filters_in g ≤ LIMIT) below.filters (put.room g has) in
    record {
      has = (
        refl,
        subst (λ k. layer_form (outer_of x) (numbered g k).0) below.filters (put.numbers.form g has),
        subst (λ i. has_form i f) (sym put.numbers.alone) (keeps s _ f below.has),
      );
      rules = honest_on law g f n room honest below.rules;
      filters = subst (λ k. (registry (inner_of x)).filters ≡ (numbered g k).1) below.filters (put.numbers.next g has);
      empty = ap (λ i. (registry i).store) put.numbers.alone ∙ ap (λ (t : RegistryState). t.store) (shows s _) ∙ below.empty;
    }
