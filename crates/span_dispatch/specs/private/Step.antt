-- Steps of a dispatcher's calls.
use Rattle.std.specs.Prelude.{◌≡◌, ◌⊎◌, ℕ, List, map, None, Bool, true, Result, Ok, Err}
use Rattle.std.specs.List.{FoldsTo}
use Rattle.span_core.specs.Span.{id_of}
use Rattle.span_core.specs.declared.span.Id.{Id}
use Rattle.span_dispatch.specs.Cache.{KeptCallsites, RefusesInterest}
use Rattle.span_dispatch.specs.Outcome.{IsHonest, OutcomeAt, Makes, Noticed, Outcome}
use Rattle.span_dispatch.specs.declared.dispatch.Dispatch.{Dispatch}
use Rattle.span_dispatch.specs.declared.request.Answer.{Answer}
use Rattle.span_dispatch.specs.declared.request.Request.{Request}
use Rattle.span_store.specs.Step.{RefusesNew, Removal}
use Rattle.span_store.specs.Store.{RegistryState}
use Rattle.span_core.specs.declared.span.Lane.{Lane}
use Rattle.span_registry.specs.Behaviour.{OnClose}
use Rattle.span_registry.specs.KeptForm.{KeepsForm}
use Rattle.span_registry.specs.Form.{Form}
use Rattle.span_registry.specs.Hooks.{StackSteps, no_filter}
use Rattle.span_registry.specs.Reload.{ReloadSteps}
use Rattle.span_registry.specs.Subscriber.{SameButExtensions}
use Rattle.span_core.specs.Filters.{FilterSet}
use Rattle.span_core.specs.declared.error.TraceError.{TraceError}
use Rattle.span_core.specs.declared.metadata.Metadata.{Metadata}
use Rattle.span_core.specs.declared.pass.Pass.{Pass}
use Rattle.span_dispatch.specs.Admission.{decided, IsDecided, IsUnknown}
use Rattle.span_dispatch.specs.Serve.{IsReadySomehow, kept_by, stack_of, outcome_of, ServesAsked, call_of}
use Rattle.span_registry.specs.Question.{asked, refusals}
use Rattle.span_stacks.specs.Verdict.{vetoes}
use Rattle.span_dispatch.specs.Contract.{CurrentBy, HonestBy, PassesKept, SubscriberOf, registry_of}
use Rattle.span_core.specs.declared.span.Parent.{Parent}

-- the outcomes of closes: a notice for each of these spans
abbrev pub closes_of : Lane → List ℕ → List Outcome
closes_of lane closed = map (λ x. Noticed lane (OnClose (id_of x))) closed

-- what comes of the question whether metadata are enabled: where they are, the pass is what a new
-- one becomes once every filter was asked
abbrev pub IsAdmitted : KeptCallsites → Form → RegistryState → Lane → Metadata → Pass
    → KeptCallsites → Result Bool TraceError → Type 0
IsAdmitted memory f s lane m pass after (Ok said) =
    IsDecided memory f s lane m (vetoes f m s.store lane.0) said after
    × (said ≡ true → asked f m s.store lane.0 no_filter no_filter ≡ (true, refusals pass))
IsAdmitted memory f s lane m pass after (Err e) = IsUnknown memory f m e after

-- why a new span with these metadata and this parent is refused: their level isn't above the cached
-- hint, and either their interest can't be had, or the registry has no room or no such parent
abbrev pub RefusesOpening : {S : Type 0} → (S → RegistryState) → Lane → Metadata → Parent
    → Dispatch S → TraceError → Type 0
RefusesOpening registry lane m p d e =
    PassesKept m d × (RefusesInterest (kept_by d) m e ⊎ RefusesNew (registry (stack_of d)) lane p e)

module _ {S : Type 0} (registry : S → RegistryState) (with_registry : S → RegistryState → S)
    (has_form : S → Form → Type 0) (stepped : StackSteps S) (reloaded : ReloadSteps S) where
  -- one request is served as the call that it asks for, given the answers so far
  abbrev pub ServesRequest : List Answer → Request → KeptCallsites → S → Answer → List OutcomeAt
      → KeptCallsites → S → Type 0
  ServesRequest past r kept x a made after y =
      ServesAsked registry with_registry has_form stepped reloaded (call_of past r) kept x a made
      after y

  -- a span that is closing is taken out, and then each parent that closes by that; before each is,
  -- a notice of its close is given
  pub record ClosesEach (lane : Lane) (id : Id) (x y : S) : Type 0 where
    pub closed : List ℕ
    pub removal : Removal SameButExtensions (registry x) id closed None (registry y)
    pub notices : (f : Form) → IsHonest registry with_registry has_form stepped reloaded f x
        → (made : List OutcomeAt)
        × FoldsTo (Makes registry with_registry has_form stepped reloaded) x made y
        × (map outcome_of made ≡ closes_of lane closed)
        × ((g : Form) × IsHonest registry with_registry has_form stepped reloaded g y
        × KeepsForm f g
        × ((registry y).filters ≡ (registry x).filters))

module _ {S : Type 0} (s : SubscriberOf S) where
  -- what comes of asking an honest stack with a cache up to date whether metadata are enabled
  abbrev pub Admits : Lane → Metadata → Dispatch S → Pass → Result Bool TraceError → Dispatch S
      → Type 0
  Admits lane m old pass said new =
      (f : Form) → HonestBy s f old → CurrentBy s f old
      → IsAdmitted (kept_by old) f (registry_of s old) lane m pass (kept_by new) said

  -- a dispatcher that is ready serves the next request with this answer
  pub record ServesNext (past : List Answer) (r : Request) (a : Answer)
      (old new : Dispatch S) : Type 0 where
    pub served : IsReadySomehow s.registry s.with_registry s.has_form s.stepped s.reloaded old
        → (made : List OutcomeAt)
        × ServesRequest s.registry s.with_registry s.has_form s.stepped s.reloaded past r
        (kept_by old) (stack_of old) a made (kept_by new) (stack_of new)

  -- metadata are decided so, with these filters that refuse them, by each form that the stack has
  -- and by which the cache is up to date
  abbrev pub Decides : Lane → Metadata → Dispatch S → Bool × FilterSet → Type 0
  Decides lane m d answer =
      (f : Form) → s.has_form (stack_of d) f → CurrentBy s f d
      → answer ≡ decided (kept_by d) f (registry_of s d) lane m
