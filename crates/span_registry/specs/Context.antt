-- What a context shows of the subscriber that it looks at.
use Rattle.std.specs.Prelude.{◌≡◌, ⊤, ℕ, Bool, ◌&&◌, false, is_some, IfSome, IsTrue, Option, None, Some}
use Rattle.std.specs.Borrow.{Bor, GName}
use Rattle.std.specs.FinMap.{get}
use Rattle.std.specs.Option.{option_copied, option_map, option_map_or}
use Rattle.span_core.specs.Filters.{FilterSet, IsEmpty, is_attached, is_enabled, refuses, union}
use Rattle.span_core.specs.Span.{number_of}
use Rattle.span_core.specs.declared.event.Event.{Event}
use Rattle.span_core.specs.declared.filter.FilterId.{FilterId}
use Rattle.span_core.specs.declared.filter.FilterMap.{FilterMap}
use Rattle.span_core.specs.declared.metadata.Metadata.{Metadata}
use Rattle.span_core.specs.declared.span.Id.{Id}
use Rattle.span_core.specs.declared.span.Lane.{Lane}
use Rattle.span_extensions.specs.declared.extensions.ExtensionMap.{ExtensionMap}
use Rattle.span_store.specs.Store.{RegistryState, Store, empty_store}
use Rattle.span_registry.specs.Behaviour.{Notice, OnClose, OnEnter, OnEvent, OnExit, OnFollows, OnIdChange, OnNewSpan, OnRecord}
use Rattle.span_registry.specs.Form.{Form}
use Rattle.span_registry.specs.Hooks.{Notifies, StackSteps, Stays, no_filter}
use Rattle.span_registry.specs.Question.{ShowsBy, asked}
use Rattle.span_registry.specs.Mask.{filters_of}
use Rattle.span_registry.specs.References.{id_of_reference, reference_of, reference_to, references_to, subscriber_of, to_give}
use Rattle.span_registry.specs.Subscriber.{SameButExtensions}
use Rattle.span_registry.specs.View.{View, extensions_shown, is_shown, view_of}
use Rattle.span_registry.specs.declared.context.Context.{Context}
use Rattle.span_registry.specs.declared.context.ContextMut.{ContextMut}
use Rattle.span_registry.specs.declared.mask.Mask.{Mask}
use Rattle.span_registry.specs.declared.scope.Scope.{Scope}
use Rattle.span_registry.specs.declared.scope.SpanRef.{SpanRef}

-- whether the id is attached, a span of the store is shown in the view, and none of the id's
-- filters refused it
abbrev pub is_enabled_in : Store → View → FilterId → ℕ → Bool
is_enabled_in s v filter x =
    is_shown v.spans x && option_map_or (λ r. is_enabled r.verdict filter) (get s.spans x) false

-- the store of a subscriber, and an empty one where there is none
abbrev pub store_at : {S : Type 0} → (S → RegistryState) → Option (Bor S) → Store
store_at registry None = empty_store
store_at registry (Some s) = (registry s.now).store

module _ {S : Type 0} where
  -- the subscriber that is looked at, if there is one
  abbrev pub subscriber_in : Context S → Option S
  subscriber_in c = option_copied c.subscriber

  -- the lane that one looks from
  abbrev pub lane_in : Context S → Lane
  lane_in c = c.lane

  -- the mask that one looks under
  abbrev pub mask_in : Context S → FilterId
  mask_in c = c.mask.filters

  -- the filters of that mask
  abbrev pub filters_in : Context S → FilterSet
  filters_in c = filters_of c.mask

  -- a look at this subscriber, if there is one, from this lane, under these filters, and the mask
  -- is attached
  pub record LooksAt (c : Context S) (s : Option S) (from : ℕ) (under : FilterSet) : Type 0 where
    pub subscriber : subscriber_in c ≡ s
    pub lane : (lane_in c).0 ≡ from
    pub filters : filters_in c ≡ under
    pub attached : IsTrue (is_attached (mask_in c))

  -- a context that looks at what the old one does, under these filters too
  abbrev pub Narrows : Context S → FilterSet → Context S → Type 0
  Narrows old more new =
      LooksAt new (subscriber_in old) (lane_in old).0 (union (filters_in old) more)

module _ {S : Type 0} (registry : S → RegistryState) where
  -- the store that is looked at
  abbrev pub store_in : Context S → Store
  store_in c = store_at registry c.subscriber

  -- the view of a context
  abbrev pub view_in : Context S → View
  view_in c = view_of (store_in c) (lane_in c).0 (filters_in c)

  -- root looks at the registry that the subscriber of c stands on, from c's lane and under its mask
  pub record LooksAtRoot (c : Context S) (root : Context RegistryState) : Type 0 where
    pub subscriber : subscriber_in root ≡ option_map registry (subscriber_in c)
    pub lane : lane_in root ≡ lane_in c
    pub mask : mask_in root ≡ mask_in c

  -- whether a span that a context looks at is enabled for a filter
  abbrev pub enabled_in : Context S → FilterId → ℕ → Bool
  enabled_in c filter x = is_enabled_in (store_in c) (view_in c) filter x

  -- what is found is the reference to the span that the view shows in this way, if there is one, in
  -- the context's subscriber and under its mask
  pub record RefersTo (c : Context S) (which : View → Option ℕ) (found : Option (SpanRef S)) : Type
      0 where
    pub span : option_map (λ r. number_of (id_of_reference r)) found ≡ which (view_in c)
    pub subscriber : IfSome found (λ r. subscriber_in c ≡ Some (subscriber_of r))
    pub reference : IfSome found
        (λ r. reference_of r
        ≡ reference_to registry (subscriber_of r) (filters_in c)
        (number_of (id_of_reference r)))

  -- what is found is the scope of the span that the view shows in this way, if there is one, in the
  -- context's subscriber and under its mask
  pub record GivesScope (c : Context S) (which : View → Option ℕ) (found : Option (Scope S)) : Type
      0 where
    pub there : is_some found ≡ is_some (which (view_in c))
    pub scope : IfSome found
        (λ f. IfSome (subscriber_in c)
        (λ s. to_give registry f ≡ references_to registry s (filters_in c) (which (view_in c))))

module _ {S : Type 0} where
  -- the name of the borrow that a subscriber is lent by
  abbrev pub loan_of : ContextMut S → GName
  loan_of c = c.subscriber.ghost_name

  -- a subscriber is lent by the borrow of this name
  abbrev pub Borrows : ContextMut S → GName → Type 0
  Borrows c name = loan_of c ≡ name

  -- the subscriber that is lent
  abbrev pub subscriber_lent : ContextMut S → S
  subscriber_lent c = c.subscriber.now

  -- a context with another subscriber lent
  abbrev pub with_subscriber : ContextMut S → S → ContextMut S
  with_subscriber c s = record c { subscriber = record c.subscriber { now = s } }

  -- the mask of a loan, as code has it
  abbrev pub mask_of_loan : ContextMut S → Mask
  mask_of_loan c = c.mask

  -- a context with another mask
  abbrev pub with_mask : ContextMut S → Mask → ContextMut S
  with_mask c mask = record c { mask = mask }

  -- the lane that the subscriber is lent from
  abbrev pub lane_lent : ContextMut S → Lane
  lane_lent c = c.lane

  -- the mask that the subscriber is lent under, as an id
  abbrev pub mask_lent : ContextMut S → FilterId
  mask_lent c = c.mask.filters

  -- the filters of that mask
  abbrev pub filters_lent : ContextMut S → FilterSet
  filters_lent c = filters_of c.mask

  -- the filters that refused during the request
  abbrev pub refused_lent : ContextMut S → FilterMap
  refused_lent c = c.refused

  -- the context has no refusals: no filter refused during the request
  abbrev pub HasNoRefusals : ContextMut S → Type 0
  HasNoRefusals c = IsEmpty (refuses (refused_lent c))

  -- a context lends this subscriber, from this lane, under these filters, with an attached mask and
  -- these refusals
  pub record IsLent (c : ContextMut S) (s : S) (from : ℕ) (under : FilterSet)
      (refusals : FilterMap) : Type 0 where
    pub subscriber : subscriber_lent c ≡ s
    pub lane : (lane_lent c).0 ≡ from
    pub filters : filters_lent c ≡ under
    pub attached : IsTrue (is_attached (mask_lent c))
    pub refused : refused_lent c ≡ refusals

  -- c has become d: these filters are in its mask too, which is attached, and nothing else of it is
  -- another
  pub record MasksMore (c : ContextMut S) (more : FilterSet) (d : ContextMut S) : Type 0 where
    pub rest : d ≡ with_mask c (mask_of_loan d)
    pub filters : filters_lent d ≡ union (filters_lent c) more

  -- a shared look at the same subscriber, from the same lane and under the same mask
  pub record LooksAtLent (c : ContextMut S) (look : Context S) : Type 0 where
    pub subscriber : subscriber_in look ≡ Some (subscriber_lent c)
    pub lane : lane_in look ≡ lane_lent c
    pub mask : mask_in look ≡ mask_lent c

  -- two contexts are of one loan, from one lane, under one mask and with the same refusals,
  -- whatever became of the subscriber
  pub record SameLoan (c d : ContextMut S) : Type 0 where
    pub loan : loan_of d ≡ loan_of c
    pub lane : lane_lent d ≡ lane_lent c
    pub mask : mask_lent d ≡ mask_lent c
    pub refused : refused_lent d ≡ refused_lent c

module _ {S : Type 0} (registry : S → RegistryState) where
  -- the view that a hook has
  abbrev pub view_lent : ContextMut S → View
  view_lent c = view_of (registry (subscriber_lent c)).store (lane_lent c).0 (filters_lent c)

  -- whether a span is shown to a hook
  abbrev pub is_shown_to : ContextMut S → Id → Bool
  is_shown_to c id = is_shown (view_lent c).spans (number_of id)

  -- the extensions of a span that is shown to a hook
  abbrev pub extensions_lent : ContextMut S → Id → Option ExtensionMap
  extensions_lent c id = extensions_shown (number_of id) (view_lent c)

  -- what is found is the reference to the span that a hook is shown in this way, if there is one,
  -- in the subscriber that is lent and under its mask
  abbrev pub RefersToLent : ContextMut S → (View → Option ℕ) → Option (SpanRef S) → Type 0
  RefersToLent c which found =
      option_map reference_of found
      ≡ option_map (reference_to registry (subscriber_lent c) (filters_lent c))
      (which (view_lent c))

  -- whether a span that a hook is shown is enabled for a filter
  abbrev pub enabled_lent : ContextMut S → FilterId → Id → Bool
  enabled_lent c filter id =
      is_enabled_in (registry (subscriber_lent c)).store (view_lent c) filter (number_of id)

-- only of a new span and of an event filters are asked: of all else no filter refused
abbrev pub HasNoRefusalsUnlessAsked : {S : Type 0} → Notice → ContextMut S → Type 0
HasNoRefusalsUnlessAsked (OnNewSpan attrs id) c = ⊤
HasNoRefusalsUnlessAsked (OnEvent e) c = ⊤
HasNoRefusalsUnlessAsked (OnRecord id values) c = HasNoRefusals c
HasNoRefusalsUnlessAsked (OnFollows id other) c = HasNoRefusals c
HasNoRefusalsUnlessAsked (OnEnter id) c = HasNoRefusals c
HasNoRefusalsUnlessAsked (OnExit id) c = HasNoRefusals c
HasNoRefusalsUnlessAsked (OnIdChange id other) c = HasNoRefusals c
HasNoRefusalsUnlessAsked (OnClose id) c = HasNoRefusals c

-- a context that lends what the old one does, under these filters too
abbrev pub NarrowsLent : {S : Type 0} → ContextMut S → FilterSet → ContextMut S → Type 0
NarrowsLent old more new =
    IsLent new (subscriber_lent old) (lane_lent old).0 (union (filters_lent old) more)
    (refused_lent old)

-- a context that lends another subscriber, from the same lane, under the same mask and with the
-- same refusals
pub record LendsOver {S T : Type 0} (c : ContextMut S) (s : T) (d : ContextMut T) : Type 0 where
  pub subscriber : subscriber_lent d ≡ s
  pub lane : lane_lent d ≡ lane_lent c
  pub mask : mask_lent d ≡ mask_lent c
  pub refused : refused_lent d ≡ refused_lent c

-- a context that lends the old one's subscriber on
abbrev pub LentOn : {S : Type 0} → ContextMut S → ContextMut S → Type 0
LentOn c d = LendsOver c (subscriber_lent c) d

-- c has become d: its subscriber now stands on this registry, and nothing else of it is another
pub record Exchanges {S : Type 0} (with_registry : S → RegistryState → S) (root : RegistryState)
    (c d : ContextMut S) : Type 0 where
  pub loan : SameLoan c d
  pub subscriber : subscriber_lent d ≡ with_registry (subscriber_lent c) root

-- a hook that was given c has left d: it may have written extensions, and nothing else
pub record WritesExtensions {S : Type 0} (registry : S → RegistryState)
    (with_registry : S → RegistryState → S) (c d : ContextMut S) : Type 0 where
  pub loan : SameLoan c d
  pub alone : subscriber_lent d ≡ with_registry (subscriber_lent c) (registry (subscriber_lent d))
  pub extensions : SameButExtensions (registry (subscriber_lent c)) (registry (subscriber_lent d))

-- c has become d: of the registry that its subscriber stands on only extensions may differ
pub record HandsOn {S : Type 0} (registry : S → RegistryState) (c d : ContextMut S) : Type 0 where
  pub loan : SameLoan c d
  pub extensions : SameButExtensions (registry (subscriber_lent c)) (registry (subscriber_lent d))

-- whatever form the subscriber that is looked at has, if there is one, the answer is what that form
-- answers where no filter refused before
abbrev pub AnswersProbe : {S : Type 0} → (S → RegistryState) → (S → Form → Type 0) → Context S
    → Metadata → Bool → Type 0
AnswersProbe registry has_form c m answer =
    IfSome (subscriber_in c)
    (λ s. ShowsBy (has_form s)
    (λ f. (asked f m (registry s).store (lane_in c).0 no_filter no_filter).0) answer)

-- c has become d: its subscriber was notified of an event that no filter refused
pub record SendsEvent {S : Type 0} (registry : S → RegistryState) (has_form : S → Form → Type 0)
    (stepped : StackSteps S) (e : Event) (c d : ContextMut S) : Type 0 where
  pub loan : SameLoan c d
  pub hooks : Notifies registry has_form stepped (lane_lent c) no_filter (OnEvent e) Stays
      (subscriber_lent c) (subscriber_lent d)
