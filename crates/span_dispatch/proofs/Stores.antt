-- What each call does to the store, whatever the stack answers.
use Rattle.std.proofs.Common.{◌≡◌, ◌<◌, ℕ, Bool, true, false, ◌&&◌, List, [], Option, Some, None, MatchOption, Result, Ok, Err, IfOk, OnOk, refl, sym, ap}
use Rattle.std.proofs.Common.{subst, ◌∙◌}
use Rattle.std.proofs.lemmas.Bool.{and_from, true≢false}
use Rattle.span_core.specs.Span.{asked_parent, number_of}
use Rattle.span_core.specs.declared.error.TraceError.{TraceError}
use Rattle.span_core.specs.Pass.{refused_of}
use Rattle.span_core.specs.declared.span.Attributes.{Attributes}
use Rattle.span_core.specs.declared.span.Id.{Id}
use Rattle.span_core.specs.declared.span.Lane.{Lane}
use Rattle.span_dispatch.specs.Admission.{decided}
use Rattle.span_dispatch.specs.Cache.{KeptCallsites}
use Rattle.span_dispatch.specs.Call.{DropsSpan, FindsOpen, HasRoomFor, OpensFor}
use Rattle.span_dispatch.specs.Contract.{OpensSpan, OpensSpanWith, SubscriberOf}
use Rattle.span_dispatch.specs.Serve.{stack_of}
use Rattle.span_dispatch.specs.private.Step.{ClosesEach}
use Rattle.span_dispatch.specs.declared.dispatch.Dispatch.{Dispatch}
use Rattle.span_store.specs.Closes.{HasNoClosing}
use Rattle.span_store.specs.Step.{Clones, Exits, Opens, Releases, Removal}
use Rattle.span_store.specs.Step as step
use Rattle.span_store.specs.Store.{IsForest, IsOpen, RegistryState, handles_of}
use Rattle.span_store.specs.declared.registry.Released.TheVariants.{Closing, StillOpen}
use Rattle.span_store.specs.declared.registry.Released.{Released}
use Rattle.span_core.specs.Event.{event_metadata}
use Rattle.span_core.specs.Filters.{FilterSet}
use Rattle.span_core.specs.declared.event.Event.{Event}
use Rattle.span_core.specs.declared.metadata.Metadata.{Metadata}
use Rattle.span_core.specs.declared.pass.Pass.{Pass}
use Rattle.span_registry.proofs.CallerLemmas.{closes_itself, closes_with_hooks, drops_open, same_itself, settled_closed, settled_still}
use Rattle.span_registry.specs.Form.{Form}
use Rattle.span_registry.specs.Hooks.{AnswersEvent, OpensAndNotifies, StackSteps, Stays, no_filter}
use Rattle.span_registry.specs.Reload.{ReloadSteps}
use Rattle.span_registry.specs.Question.{event_asked, refusals}
use Rattle.span_registry.specs.Law.{ClosesAll}
use Rattle.span_registry.specs.Subscriber.{AndHooks, SameButExtensions}

pub on_ok : {A : Type 0} {P Q : Type 0} (r : Result A TraceError) → (A → P → Q) → OnOk r P → OnOk r Q
on_ok (Ok a) f h = f a h
on_ok (Err e) f h = tt

first_false : (p q : Bool) → p ≡ false → false ≡ p && q
first_false true q a = absurd (true≢false a)
first_false false q a = refl

second_false : (p q : Bool) → q ≡ false → false ≡ p && q
second_false true q a = sym a
second_false false q a = refl

-- ---- what is wanted

module _ {S : Type 0} (registry : S → RegistryState) (has_form : S → Form → Type 0) (lane : Lane) (x : S) (kept : KeptCallsites)
    (current : Form → Type 0) where
  -- what `Decides`, `WantsMetadata` and `WantsEvent` say of a dispatcher that caches this and has this stack
  abbrev pub Decided : Metadata → Bool → Pass → Type 0
  Decided m said pass = (f : Form) → has_form x f → current f → (said, refusals pass) ≡ decided kept f (registry x) lane m

  abbrev pub Wanted : Metadata → Bool → Type 0
  Wanted m wanted = (f : Form) → has_form x f → current f → wanted ≡ (decided kept f (registry x) lane m).0

  abbrev pub WantedEvent : Event → Bool → Type 0
  WantedEvent e wanted =
      (f : Form) → has_form x f → current f
      → let first = decided kept f (registry x) lane (event_metadata e) in
      wanted ≡ first.0 && (event_asked f e (registry x).store lane.0 no_filter first.1).0

  pub metadata_wanted : (m meta : Metadata) (pass : Pass) (said : Bool) → m ≡ meta → Decided m said pass → Wanted meta said
  metadata_wanted m meta pass said same a = λ f d u. ap (λ (p : Bool × FilterSet). p.0) (a f d u ∙ ap (decided kept f (registry x) lane) same)

  pub asked_of : (m : Metadata) (pass : Pass) (said : Result Bool TraceError) → IfOk said (λ b. Decided m b pass) → IfOk said (Wanted m)
  asked_of m pass (Ok said) a = metadata_wanted m m pass said refl a
  asked_of m pass (Err e) a = tt

  -- an event whose metadata aren't wanted isn't
  pub event_unwanted : (e : Event) (m : Metadata) (pass : Pass) (said : Bool)
      → m ≡ event_metadata e → said ≡ false → Decided m said pass → WantedEvent e false
  event_unwanted e m pass said same no_one a = λ f d u. first_false _ _ (sym (metadata_wanted m (event_metadata e) pass said same a f d u) ∙ no_one)

  -- of one whose metadata are wanted, the second question says
  asked_second : (f : Form) (e : Event) (m : Metadata) (first second : Pass) (said wanted : Bool) → has_form x f → current f → m ≡ event_metadata e
      → Decided m said first → AnswersEvent registry has_form x lane e first wanted second
      → (event_asked f e (registry x).store lane.0 no_filter (decided kept f (registry x) lane (event_metadata e)).1).0 ≡ wanted
  asked_second f e m first second said wanted d u same a b =
      sym (ap (λ (p : Bool × FilterSet). (event_asked f e (registry x).store lane.0 no_filter p.1).0) (a f d u ∙ ap (decided kept f (registry x) lane) same))
      ∙ sym (b f d).answer

  pub event_refused : (e : Event) (m : Metadata) (first second : Pass) (said wanted : Bool) → m ≡ event_metadata e → wanted ≡ false
      → Decided m said first → AnswersEvent registry has_form x lane e first wanted second → WantedEvent e false
  event_refused e m first second said wanted same no_one a b =
      λ f d u. second_false _ _ (asked_second f e m first second said wanted d u same a b ∙ no_one)

  pub event_wanted : (e : Event) (m : Metadata) (first second : Pass) (said wanted : Bool) → m ≡ event_metadata e → said ≡ true → wanted ≡ true
      → Decided m said first → AnswersEvent registry has_form x lane e first wanted second → WantedEvent e true
  event_wanted e m first second said wanted same agreed more a b = λ f d u.
      sym (and_from _ _ (sym (metadata_wanted m (event_metadata e) first said same a f d u) ∙ agreed)
      (asked_second f e m first second said wanted d u same a b ∙ more))

-- a handle was added where there was room for it
pub room_to_clone : (lane : Lane) (id : Id) (r : Result Id TraceError) (s t : RegistryState)
    → OnOk r (Clones id s t) → IfOk r (λ other. handles_of s.store.spans (number_of id) < s.limits.count)
room_to_clone lane id (Ok other) s t n = n.room
room_to_clone lane id (Err e) s t n = tt

module _ {S : Type 0} (registry : S → RegistryState) where
  -- the same, with the verdict named
  pub opened_by : {has_form : S → Form → Type 0} {stepped : StackSteps S} (lane : Lane) (attrs : Attributes) (pass : Pass) (x y : S) (id : Id)
      → OpensAndNotifies registry has_form stepped lane attrs pass x y id → AndHooks registry (Opens lane (step.asked attrs pass) id) x y
  opened_by lane attrs pass x y id n = record { stepped = n.left; taken = n.taken; hooks = n.extensions }

  -- so there was room for it
  pub room_for : {has_form : S → Form → Type 0} {stepped : StackSteps S} (lane : Lane) (attrs : Attributes) (pass : Pass) (x y : S) (id : Id)
      → OpensAndNotifies registry has_form stepped lane attrs pass x y id → HasRoomFor (registry x) lane (asked_parent attrs)
  room_for lane attrs pass x y id n = ((n.taken.parent, n.taken.finds), n.taken.place)

  pub opened_by_pass : (lane : Lane) (attrs : Attributes) (pass : Pass) (old new : Dispatch S) (r : Result (Option Id) TraceError)
      → IfOk r
      (λ made. MatchOption made (stack_of new ≡ stack_of old) (λ id. AndHooks registry (Opens lane (step.asked attrs pass) id) (stack_of old) (stack_of new)))
      → IfOk r (λ made. MatchOption made (stack_of new ≡ stack_of old) (λ id. AndHooks registry (OpensFor lane attrs id) (stack_of old) (stack_of new)))
  opened_by_pass lane attrs pass old new (Ok None) h = h
  opened_by_pass lane attrs pass old new (Ok (Some id)) h = record { stepped = h.stepped; taken = (refused_of pass, h.taken); hooks = h.hooks }
  opened_by_pass lane attrs pass old new (Err e) h = tt

  pub no_step : (x : S) → AndHooks registry Stays x x
  no_step x = record { stepped = registry x; taken = refl; hooks = same_itself (registry x) }

  pub found_store : (id : Id) (x y : S) → IsOpen (registry x).store.spans (number_of id) → AndHooks registry Stays x y → AndHooks registry (FindsOpen id) x y
  found_store id x y there h = record { stepped = h.stepped; taken = (there, h.taken); hooks = h.hooks }

  module _ (with_registry : S → RegistryState → S) where
    -- what `TakesStepAlone` and `TakesHandle` say
    abbrev StepAlone : (RegistryState → RegistryState → Type 0) → Dispatch S → Dispatch S → Type 0
    StepAlone step old new = step (registry (stack_of old)) (registry (stack_of new)) × (stack_of new ≡ with_registry (stack_of old) (registry (stack_of new)))

    abbrev TakenAndClosed : Id → Dispatch S → Dispatch S → Type 0
    TakenAndClosed id old new = (released : RegistryState) × Releases id Closing (registry (stack_of old)) released
        × ((closed : List ℕ) × Removal SameButExtensions released id closed None (registry (stack_of new)))

    pub cloned_store : (id : Id) (r : Result Id TraceError) (old new : Dispatch S) → OnOk r (Clones id (registry (stack_of old)) (registry (stack_of new)))
        → stack_of new ≡ with_registry (stack_of old) (registry (stack_of new)) → OnOk r (StepAlone (Clones id) old new)
    cloned_store id (Ok other) old new taken alone = (taken, alone)
    cloned_store id (Err e) old new taken alone = tt

    module _ (registry_with : (s : S) (w : RegistryState) → registry (with_registry s w) ≡ w) where
      pub gone_store : (lane : Lane) (id : Id) (x : S) (w : RegistryState)
          → Exits lane id (registry x) w → AndHooks registry (Exits lane id) x (with_registry x w)
      gone_store lane id x w e =
          record { stepped = registry (with_registry x w); taken = registry_with x w ∙ e; hooks = same_itself (registry (with_registry x w)) }

      -- the registry alone took a step
      pub alone : (step : RegistryState → RegistryState → Type 0) (x : S) (w : RegistryState)
          → step (registry x) w → step (registry x) (registry (with_registry x w)) × (with_registry x w ≡ with_registry x (registry (with_registry x w)))
      alone step x w taken = (subst (λ t. step (registry x) t) (sym (registry_with x w)) taken, ap (λ t. with_registry x t) (sym (registry_with x w)))

      pub still_open_taken : (id : Id) (a : Released) (old new : Dispatch S) (w : RegistryState) → stack_of new ≡ with_registry (stack_of old) w
          → Releases id a (registry (stack_of old)) w → a ≡ StillOpen → StepAlone (Releases id StillOpen) old new
      still_open_taken id a old new w by r same =
          subst (λ y. Releases id StillOpen (registry (stack_of old)) (registry y) × (y ≡ with_registry (stack_of old) (registry y)))
          (sym by) (alone (Releases id StillOpen) (stack_of old) w (subst (λ b. Releases id b (registry (stack_of old)) w) same r))

      pub still_open_store : (id : Id) (a : Released) (x : S) (w : RegistryState)
          → Releases id a (registry x) w → a ≡ StillOpen → IsForest (registry x).store.spans → HasNoClosing (registry x).store.spans
          → AndHooks registry (DropsSpan id false) x (with_registry x w) × HasNoClosing (registry (with_registry x w)).store.spans
      still_open_store id a x w r same forest h =
          let drops = drops_open forest h r same in
          let step : DropsSpan id false (registry x) w = (r.held, ([], drops, (λ t. absurd (true≢false (sym t)), λ n. absurd n))) in (
            record {
              stepped = registry (with_registry x w);
              taken = subst (λ t. DropsSpan id false (registry x) t) (sym (registry_with x w)) step;
              hooks = same_itself (registry (with_registry x w));
            },
            subst (λ (t : RegistryState). HasNoClosing t.store.spans) (sym (registry_with x w)) (settled_still h r same),
          )

    -- and then each was taken out that closed by that
    pub closed_taken : (has_form : S → Form → Type 0) (stepped : StackSteps S) (reloaded : ReloadSteps S)
        → ((s : S) (w : RegistryState) → registry (with_registry s w) ≡ w)
        → (lane : Lane) (id : Id) (a : Released) (old new : Dispatch S) (w : RegistryState) → Releases id a (registry (stack_of old)) w → a ≡ Closing
        → ClosesEach registry with_registry has_form stepped reloaded lane id (with_registry (stack_of old) w) (stack_of new) → TakenAndClosed id old new
    closed_taken has_form stepped reloaded registry_with lane id a old new w r same k =
        let z = with_registry (stack_of old) w in (
          registry z,
          subst (λ t. Releases id Closing (registry (stack_of old)) t)
              (sym (registry_with (stack_of old) w)) (subst (λ b. Releases id b (registry (stack_of old)) w) same r),
          (k.closed, k.removal),
        )

    pub closed_store : (has_form : S → Form → Type 0) (stepped : StackSteps S) (reloaded : ReloadSteps S)
        → ((s : S) (w : RegistryState) → registry (with_registry s w) ≡ w)
        → (lane : Lane) (id : Id) (a : Released) (x y : S) (w : RegistryState) → Releases id a (registry x) w → a ≡ Closing
        → IsForest (registry x).store.spans → ClosesEach registry with_registry has_form stepped reloaded lane id (with_registry x w) y
        → HasNoClosing (registry x).store.spans → AndHooks registry (DropsSpan id true) x y × HasNoClosing (registry y).store.spans
    closed_store has_form stepped reloaded registry_with lane id a x y w r same forest k h =
        let z = with_registry x w in
        let release : Releases id Closing (registry x) (registry z) =
        subst (λ t. Releases id Closing (registry x) t) (sym (registry_with x w)) (subst (λ b. Releases id b (registry x) w) same r) in
        let all : ClosesAll SameButExtensions (registry x) id k.closed (registry y) =
        record { released = registry z; is_forest = forest; settled = h; release = release; removal = k.removal } in
        let drops = closes_with_hooks (registry x) (registry y) id k.closed all in
        let itself = closes_itself id (registry x) (registry z) k.closed release drops.taken.closes in (
          record { stepped = drops.stepped; taken = (r.held, (k.closed, drops.taken, (λ _. itself, λ _. refl))); hooks = drops.hooks },
          settled_closed (registry x) (registry y) id k.closed all,
        )

-- a span that was opened with a pass's verdict was opened
pub opens_span : {S : Type 0} {s : SubscriberOf S} {lane : Lane} {attrs : Attributes} {given : Result (Option Id) TraceError}
    {old new : Dispatch S} (pass : Pass) → OpensSpanWith s pass lane attrs given old new → OpensSpan s lane attrs given old new
opens_span {s = s} {lane = lane} {attrs = attrs} {given = given} {old = old} {new = new} pass h = record {
  served = h.served;
  kept = h.kept;
  up_to_date = h.up_to_date;
  asked = h.asked;
  store = opened_by_pass s.registry lane attrs pass old new given h.store;
  unchanged = h.unchanged;
}
