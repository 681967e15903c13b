-- What comes of a request: notices, quiet changes of the store, and settings that filters take; and
-- what each does to a store, and to a stack.
use Rattle.std.specs.Prelude.{◌≡◌, ◌≤◌, ◌+◌, ℕ, true, false, Option}
use Rattle.std.specs.{FinMap.insert, FinMap.remove, FinSet.contains, FinSet.insert as add}
use Rattle.span_core.specs.{Filters.refuses, Span.asked_parent, Span.metadata_of, Span.number_of}
use Rattle.span_core.specs.declared.{filter.FilterMap.FilterMap, metadata.Metadata.Metadata}
use Rattle.span_targets.specs.declared.setting.Setting.{Setting}
use Rattle.span_core.specs.declared.span.{Attributes.Attributes, Lane.Lane, Id.Id}
use Rattle.span_stacks.specs.{Honest.IsHonestStack, Verdict.in_verdict}
use Rattle.span_extensions.specs.Extensions.{no_values}
use Rattle.span_store.specs.Step.{IsParentFor, RetiresLate, entered, exited}
use Rattle.span_store.specs.Store.{IsClosing, IsHeld, IsOpen, RegistryState, Span, Store, add_handle, take_handle}
use Rattle.span_registry.specs.Behaviour.{Notice, OnClose, OnEnter, OnExit, OnFollows, OnIdChange, OnNewSpan, OnRecord}
use Rattle.span_registry.specs.{Form.Form, Hooks.StackSteps, Hooks.no_filter}
use Rattle.span_registry.specs.{Reload.ReloadSteps, Reload.takes_setting, Plan.asked_afresh}

-- a change of the store that no layer is notified of: a span has a handle more, or a handle less,
-- or a lane leaves a span that isn't open
pub data Change : Type 0 where
  HandleAdded : Id → Change
  HandleTaken : Id → Change
  GoneLeft : Lane → Id → Change

-- one thing that comes of a request: a notice from a lane, a quiet change, or a setting
-- that the filter with a number takes
pub data Outcome : Type 0 where
  Noticed : Lane → Notice → Outcome
  Quiet : Change → Outcome
  Reloaded : ℕ → Setting → Outcome

-- the verdict of a new span: the filters that refuse it while every filter round them passes it
abbrev pub IsVerdict : Form → Metadata → Store → Lane → FilterMap → Type 0
IsVerdict f m s lane v = (k : ℕ) → refuses v k ≡ in_verdict f m s lane.0 no_filter k

-- the store with one span more, without extensions, whose number is issued by that
abbrev pub with_new : Store → ℕ → Span → Store
with_new s x r = record s {
  spans = insert s.spans x r;
  extensions = insert s.extensions x no_values;
  issued = add s.issued x;
}

-- a new span is in the store: under an id other than 0 that was never issued, with its metadata,
-- one handle, the parent that it gets there and this form's verdict
pub record Opened (f : Form) (lane : Lane) (a : Attributes) (id : Id) (s t : Store) : Type 0 where
  pub parent : Option ℕ
  pub chosen : IsParentFor s lane (asked_parent a) parent
  pub verdict : FilterMap
  pub refused : (k : ℕ)
      → refuses verdict k ≡ in_verdict f (metadata_of a) s lane.0 no_filter k
  pub fresh : contains s.issued (number_of id) ≡ false
  pub other : ¬ (number_of id ≡ 0)
  pub state : t ≡ with_new s (number_of id)
      (record { metadata = metadata_of a; parent = parent; handles = 1; verdict = verdict })

-- the store without this span and its extensions
abbrev pub without_span : Store → ℕ → Store
without_span s x = record s { spans = remove s.spans x; extensions = remove s.extensions x }

-- what an outcome makes of the store of a stack of this form
abbrev pub Steps : Form → Outcome → Store → Store → Type 0
Steps f (Noticed lane (OnNewSpan attrs id)) s t = Opened f lane attrs id s t
Steps f (Noticed lane (OnRecord id values)) s t = IsOpen s.spans (number_of id) × (t ≡ s)
Steps f (Noticed lane (OnFollows id other)) s t = IsOpen s.spans (number_of id) × (t ≡ s)
Steps f (Noticed lane (OnEnter id)) s t =
    IsOpen s.spans (number_of id) × (t ≡ entered s lane.0 (number_of id))
Steps f (Noticed lane (OnExit id)) s t =
    IsOpen s.spans (number_of id) × (t ≡ exited s lane.0 (number_of id))
Steps f (Noticed lane (OnIdChange id other)) s t = ⊥
Steps f (Noticed lane (OnClose id)) s t =
    IsClosing s.spans (number_of id) × (t ≡ without_span s (number_of id))
Steps f (Quiet (HandleAdded id)) s t =
    IsOpen s.spans (number_of id) × (t ≡ record s { spans = add_handle s.spans (number_of id) })
Steps f (Quiet (HandleTaken id)) s t =
    IsHeld s.spans (number_of id) × (t ≡ record s { spans = take_handle s.spans (number_of id) })
Steps f (Quiet (GoneLeft lane id)) s t =
    ¬ (IsOpen s.spans (number_of id)) × (t ≡ exited s lane.0 (number_of id))
Steps f o s t = t ≡ s

-- the store that a notice is given in: the one after its step; for a close the one before, which
-- still has the span
abbrev pub given_in : Notice → Store → Store → Store
given_in (OnClose id) s t = s
given_in e s t = t

-- what was made: an outcome of a stack that had this form, with the store before it and the one
-- after
pub record OutcomeAt : Type 0 where
  pub form : Form
  pub before : Store
  pub after : Store
  pub outcome : Outcome

-- what the registry does at the end of a notice: for a close, it takes the span out, and may retire
-- one place by that, yet no more than their generations allow, if that held before; else it is
-- unchanged
abbrev pub Ends : Notice → RegistryState → RegistryState → Type 0
Ends (OnClose id) s t =
    (t ≡ record s { store = without_span s.store (number_of id); retired = t.retired })
    × (s.retired ≤ t.retired) × (t.retired ≤ s.retired + 1) × (RetiresLate s → RetiresLate t)
Ends e s t = t ≡ s

module _ {S : Type 0} (registry : S → RegistryState) (with_registry : S → RegistryState → S)
    (has_form : S → Form → Type 0) (stepped : StackSteps S) (reloaded : ReloadSteps S) where
  -- a notice is given in a store: each filter and leaf whose path passes it, asked afresh on the
  -- store before it, goes on by its own step, and may write extensions
  pub record Notices (f : Form) (lane : Lane) (e : Notice) (s t : Store) (x y : S) : Type 0 where
    pub left : RegistryState
    pub given : left ≡ record (registry x) { store = given_in e s t }
    pub notified : S
    pub layers : stepped x (asked_afresh f e s lane.0 no_filter) e lane.0 left notified
        (registry notified)
    pub hooks : registry notified ≡ record left {
      store = record left.store { extensions = (registry notified).store.extensions };
    }
    pub ends : Ends e (registry notified) (registry y)
    pub rest : y ≡ with_registry notified (registry y)

  -- how a stack of this form goes on by an outcome between two stores: it is notified; or only its
  -- registry's store changes; or its layers go on by a setting that a filter takes, with the
  -- registry unchanged
  abbrev pub LayersGo : Form → Outcome → Store → Store → S → S → Type 0
  LayersGo f (Noticed lane e) s t x y = Notices f lane e s t x y
  LayersGo f (Quiet c) s t x y =
      (registry y ≡ record (registry x) { store = t }) × (y ≡ with_registry x (registry y))
  LayersGo f (Reloaded n w) s t x y =
      (takes_setting f n w ≡ true) × reloaded x n w y × (registry y ≡ registry x)

  -- a stack has this form, and is honest
  pub record IsHonest (f : Form) (x : S) : Type 0 where
    pub has : has_form x f
    pub rules : IsHonestStack f (registry x).filters

  -- this outcome was made of an honest stack, which became the second
  pub record Makes (x : S) (m : OutcomeAt) (y : S) : Type 0 where
    pub honest : IsHonest m.form x
    pub before : m.before ≡ (registry x).store
    pub steps : Steps m.form m.outcome m.before m.after
    pub layers : LayersGo m.form m.outcome m.before m.after x y
