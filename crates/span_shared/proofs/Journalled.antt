-- A journal that is one entry longer.
use Rattle.std.proofs.Common.{◌⊎◌, ◌≡◌, ℕ, Bool, List, [], ◌∷◌, ◌++◌, Option, Some, None, MatchOption, Result, Ok, Err, IsErrAnd, inl, inr, refl, ap, sym, ◌∙◌}
use Rattle.std.proofs.Common.{subst, ◌+◌, length}
use Rattle.std.proofs.lemmas.Fn.{FoldsTo-push}
use Rattle.std.proofs.lemmas.List.{length_push}
use Rattle.std.specs.Cmp.{eq_by_cmp_equiv, nat_cmp_total}
use Rattle.std.specs.FinMap.{FinMap, empty, get, get-insert, insert}
use Rattle.std.specs.Ordering.{nat_cmp}
use Rattle.std.specs.Prelude.{cond}
use Rattle.std.specs.Option.{option_map}
use Rattle.span_core.specs.Span.{current_span, number_of}
use Rattle.span_core.specs.declared.error.TraceError.TheVariants.{OutOfMemory}
use Rattle.span_core.specs.declared.error.TraceError.{TraceError}
use Rattle.span_core.specs.declared.metadata.Metadata.{Metadata}
use Rattle.span_core.specs.declared.span.Current.{Current}
use Rattle.span_core.specs.declared.span.Id.{Id}
use Rattle.span_core.specs.declared.span.Lane.{Lane}
use Rattle.span_dispatch.specs.Call.{DropsSpan, FindsOpen, done_answer, event_answer, look_answer, span_answer, yes_answer}
use Rattle.span_dispatch.specs.Contract.{SubscriberOf}
use Rattle.span_dispatch.specs.declared.call.Call.TheVariants.{AddHandle, AskCurrent, DropHandle, Enter, Exit, Follow, OpenSpan, Probe, RecordValues, SendEvent}
use Rattle.span_dispatch.specs.declared.call.Call.TheVariants.{Reload}
use Rattle.span_dispatch.specs.declared.call.Call.{Call}
use Rattle.span_dispatch.specs.declared.request.Answer.{Answer}
use Rattle.span_shared.specs.Journal.{Adds, Entry, Happens, KeepsJournal, Leaves, LoggedState, Placed, bare}
use Rattle.span_shared.specs.Logged.{AddsNewSpan, Answered, Logs, LogsAs, LogsCall}
use Rattle.span_shared.specs.Worker.{SomeLogged}
use Rattle.span_dispatch.specs.Serve.{stack_of}
use Rattle.span_dispatch.specs.declared.dispatch.Dispatch.{Dispatch}
use Rattle.span_shared.specs.declared.entry.EntryWith.TheVariants as entry
use Rattle.span_store.specs.Closes.{HasNoClosing}
use Rattle.span_store.specs.Step.{AskedSpan, Clones, Enters, Exits, Opens, ShowsCurrent, begun}
use Rattle.span_store.specs.Store.{RegistryState, Span, Spans, Store, empty_store}
use Rattle.span_registry.proofs.CallerLemmas.{settled_aside, settled_cloned, settled_entered, settled_exited, settled_new, settled_opened}
use Rattle.span_registry.specs.Subscriber.{AndHooks, SameButExtensions}

module _ {D A : Type 0} {serves : Result A TraceError → D → D → Type 0}
    {adds : A × Placed → LoggedState D → LoggedState D → Type 0} {inside now new : LoggedState D} (same : inside ≡ now) where
  -- what the dispatcher refuses is refused here, and adds no entry
  pub logs_refused : (e : TraceError) (r : Answered A)
      → IsErrAnd r (λ y. y ≡ e) → serves (Err e) inside.dispatch new.dispatch → new.journal ≡ inside.journal → Logs serves adds r now new
  logs_refused e (Ok x) h k j = absurd h
  logs_refused e (Err y) h k j = record {
    done = tt;
    refused = inr (
      subst (λ (l : LoggedState D). serves (Err y) l.dispatch new.dispatch) same (subst (λ z. serves (Err z) inside.dispatch new.dispatch) (sym h) k),
      j ∙ ap (λ (l : LoggedState D). l.journal) same,
    );
  }

  -- what it serves is served here, and adds its entry
  pub logs_done : (a b : A) (receipt : Placed)
      → a ≡ b → serves (Ok a) inside.dispatch new.dispatch → adds (b, receipt) now new → Logs serves adds (Ok (b, receipt)) now new
  logs_done a b receipt given k added = record {
    done = (subst (λ (l : LoggedState D). serves (Ok b) l.dispatch new.dispatch) same (subst (λ z. serves (Ok z) inside.dispatch new.dispatch) given k), added);
    refused = tt;
  }

-- a journal grows by one entry, unless the call is refused
abbrev pub GrowsBy : Answered Answer → List Entry → List Entry → Type 0
GrowsBy (Ok r) old new = length new ≡ length old + 1
GrowsBy (Err e) old new = new ≡ old

longer : (e : Entry) (old : List Entry) (receipt : Placed) (new : List Entry) → Adds e old receipt new → length new ≡ length old + 1
longer e old receipt new h = ap length h.journal ∙ length_push old e

module _ {D A : Type 0} {serves : Result A TraceError → D → D → Type 0} {adds : A × Placed → LoggedState D → LoggedState D → Type 0}
    (answer_of : Result A TraceError → Answer) (old new : LoggedState D) (a : Answered Answer) where
  -- what was logged so made the journal longer by one entry, unless it was refused
  grew : LogsAs answer_of serves adds a old new → ((r : A × Placed) → adds r old new → length new.journal ≡ length old.journal + 1)
      → GrowsBy a old.journal new.journal
  grew (Ok r, e, l) more = subst (λ b. GrowsBy b old.journal new.journal) (sym e) (more r l.done.1)
  grew (Err x, e, l) more = subst (λ b. GrowsBy b old.journal new.journal) (sym e) (same l.refused)
    where
      same : ((x ≡ OutOfMemory) × (new ≡ old)) ⊎ (serves (Err x) old.dispatch new.dispatch × (new.journal ≡ old.journal)) → new.journal ≡ old.journal
      same (inl m) = ap (λ (k : LoggedState D). k.journal) m.1
      same (inr q) = q.1

module _ {S : Type 0} (s : SubscriberOf S) where
  -- a call that was logged so made the journal longer by one entry, unless it was refused
  pub call_grows : (lane : Lane) (call : Call) (a : Answered Answer) (old new : LoggedState (Dispatch S))
      → LogsCall s lane call a old new → GrowsBy a old.journal new.journal
  call_grows lane (OpenSpan l attrs) a old new h = grew span_answer old new a h more
    where
      more : (r : Option Id × Placed) → AddsNewSpan s lane attrs r old new → length new.journal ≡ length old.journal + 1
      more (None, receipt) k = longer _ old.journal receipt new.journal k
      more (Some id, receipt) k = longer _ old.journal receipt new.journal k.2
  call_grows lane (SendEvent l e) a old new h = grew event_answer old new a h (λ r k. longer _ old.journal r.1 new.journal k)
  call_grows lane (Enter l id) a old new h = grew done_answer old new a h (λ r k. longer _ old.journal r.1 new.journal k)
  call_grows lane (Exit l id) a old new h = grew done_answer old new a h (λ r k. longer _ old.journal r.1 new.journal k)
  call_grows lane (RecordValues l id values) a old new h = grew done_answer old new a h (λ r k. longer _ old.journal r.1 new.journal k)
  call_grows lane (Follow l id other) a old new h = grew done_answer old new a h (λ r k. longer _ old.journal r.1 new.journal k)
  call_grows lane (AddHandle l id) a old new h = grew done_answer old new a h (λ r k. longer _ old.journal r.1 new.journal k)
  call_grows lane (DropHandle l id) a old new h = grew yes_answer old new a h (λ r k. longer _ old.journal r.1 new.journal k)
  call_grows lane (Probe l m) a old new h = grew yes_answer old new a h (λ r k. longer _ old.journal r.1 new.journal k)
  call_grows lane (AskCurrent l) a old new h = grew look_answer old new a h (λ r k. longer _ old.journal r.1 new.journal k)
  call_grows lane (Reload n level) a old new h = grew done_answer old new a h (λ r k. longer _ old.journal r.1 new.journal k)

-- of a call that is the same
pub logs_as : {S : Type 0} (s : SubscriberOf S) (lane : Lane) (call other : Call) (a : Answered Answer) (old new : LoggedState (Dispatch S))
    → call ≡ other → LogsCall s lane other a old new → LogsCall s lane call a old new
logs_as s lane call other a old new e h = subst (λ c. LogsCall s lane c a old new) (sym e) h

module _ {S A : Type 0} (s : SubscriberOf S) (holds : SubscriberOf S → Lane → Answered A → LoggedState (Dispatch S) → LoggedState (Dispatch S) → Type 0)
    (lane other : Lane) (old new : LoggedState (Dispatch S)) where
  -- what a dispatcher with a journal did for a lane, some one did for a lane that is the same
  pub some_did : (r : Answered A) → holds s lane r old new → lane ≡ other → KeepsJournal s.registry s.usable old.dispatch old.journal
      → SomeLogged s (holds s other r)
  some_did r h same kept = (old, new, kept, subst (λ l. holds s l r old new) same h)

  -- what it refused, some one refused
  pub some_refused : (e : TraceError) (r : Answered A) → IsErrAnd r (λ y. y ≡ e) → holds s lane (Err e) old new → lane ≡ other
      → KeepsJournal s.registry s.usable old.dispatch old.journal → SomeLogged s (holds s other r)
  some_refused e (Ok x) is h same kept = absurd is
  some_refused e (Err y) is h same kept = some_did (Err y) (subst (λ z. holds s lane (Err z) old new) (sym is) h) same kept

-- where extensions alone differ, the two are the same, extensions aside
pub bare_same : (s t : RegistryState) → SameButExtensions s t → bare t.store ≡ bare s.store
bare_same s t h = λ i. record { spans = h.spans i; extensions = empty; issued = h.issued i; stacks = h.stacks i }

-- what a step is, as an entry, and that no span is closing after it where none was before
abbrev pub Goes : RegistryState → Entry → RegistryState → Type 0
Goes s e t = Happens (bare s.store) e (bare t.store) × (HasNoClosing s.store.spans → HasNoClosing t.store.spans)

-- hooks may write extensions after it
pub goes_aside : (s t u : RegistryState) (e : Entry) → Goes s e t → SameButExtensions t u → Goes s e u
goes_aside s t u e g h = (subst (λ v. Happens (bare s.store) e v) (sym (bare_same t u h)) g.0, λ k. settled_aside h (g.1 k))

pub goes_on : {S : Type 0} (registry : S → RegistryState) (step : RegistryState → RegistryState → Type 0) (x y : S) (e : Entry)
    → AndHooks registry step x y → ((s t : RegistryState) → step s t → Goes s e t) → Goes (registry x) e (registry y)
goes_on registry step x y e h go = goes_aside (registry x) h.stepped (registry y) e (go (registry x) h.stepped h.taken) h.hooks

pub enters : (lane : Lane) (id : Id) (s t : RegistryState) → Enters lane id s t → Goes s (entry.Enter lane id) t
enters lane id s t h = ((h.is_open, ap (λ (r : RegistryState). bare r.store) h.state), settled_entered lane id s t h)

pub exits : (lane : Lane) (id : Id) (s t : RegistryState) → Exits lane id s t → Goes s (entry.Exit lane id) t
exits lane id s t h = (ap (λ (r : RegistryState). bare r.store) h, settled_exited lane id s t h)

pub stays : (s t : RegistryState) → t ≡ s → (bare t.store ≡ bare s.store) × (HasNoClosing s.store.spans → HasNoClosing t.store.spans)
stays s t e = (ap (λ (r : RegistryState). bare r.store) e, λ k. subst (λ (r : RegistryState). HasNoClosing r.store.spans) (sym e) k)

pub records : (lane : Lane) (id : Id) (s t : RegistryState) → FindsOpen id s t → Goes s (entry.Record lane id) t
records lane id s t h = ((h.0, (stays s t h.1).0), (stays s t h.1).1)

pub follows : (lane : Lane) (id other : Id) (s t : RegistryState) → FindsOpen id s t → Goes s (entry.Follows lane id other) t
follows lane id other s t h = ((h.0, (stays s t h.1).0), (stays s t h.1).1)

pub clones : (lane : Lane) (id : Id) (s t : RegistryState) → Clones id s t → Goes s (entry.Clone lane id) t
clones lane id s t h = ((h.is_open, ap (λ (r : RegistryState). bare r.store) h.state), settled_cloned id s t h)

pub opens : (lane : Lane) (span : AskedSpan) (id : Id) (s t : RegistryState)
    → Opens lane span id s t → Goes s (entry.New lane span.metadata span.parent span.verdict id) t
opens lane span id s t h = (
  record { parent = h.parent; chosen = h.finds.chosen; other = h.other; fresh = h.fresh; store = ap (λ (r : RegistryState). bare r.store) h.state },
  settled_opened lane span id s t h,
)

get_inserted : {X : Type 0} (m : FinMap nat_cmp X) (k : ℕ) (v : X) → get (insert m k v) k ≡ Some v
get_inserted m k v = get-insert nat_cmp_total m k v k ∙ ap (λ b. cond b (Some v) (get m k)) ((eq_by_cmp_equiv nat_cmp_total).refl k)

-- the store keeps the verdict of a span that was opened
pub kept_verdict : {S : Type 0} (registry : S → RegistryState) (x y : S) (lane : Lane) (span : AskedSpan) (id : Id)
    → AndHooks registry (Opens lane span id) x y → (kept : Span) × (get (registry y).store.spans (number_of id) ≡ Some kept) × (kept.verdict ≡ span.verdict)
kept_verdict registry x y lane span id h =
    let opened : Span = begun span h.taken.parent in (
      opened,
      ap (λ (m : Spans). get m (number_of id)) (h.hooks.spans ∙ ap (λ (r : RegistryState). r.store.spans) h.taken.state)
          ∙ get_inserted (registry x).store.spans (number_of id) opened,
      refl,
    )

-- a drop, from a store where no span is closing
pub drops : (id : Id) (closes : Bool) (lane : Lane) (s t : RegistryState)
    → DropsSpan id closes s t → Happens (bare s.store) (entry.Drop lane id closes) (bare t.store)
drops id closes lane s t h =
    record { held = h.0; closed = h.1.0; exact = h.1.1.closes; itself = h.1.2; store = ap bare h.1.1.taken.store }

-- the span that a lane is in
pub shows : (lane : Lane) (c : Current) (s : RegistryState)
    → ShowsCurrent s.store lane c → (o : Option Id) → o ≡ option_map (λ p. p.0) (current_span c) → Goes s (entry.Current lane o) s
shows lane c s h o e = ((subst (λ n. IsCurrentOf n) (sym (ap (λ p. option_map number_of p) e ∙ twice (current_span c))) h.span, refl), λ k. k)
  where
    IsCurrentOf : Option ℕ → Type 0
    IsCurrentOf n = Rattle.span_store.specs.Step.IsCurrent s.store lane.0 n

    twice : (p : Option (Id × Metadata)) → option_map number_of (option_map (λ q. q.0) p) ≡ option_map (λ q. number_of q.0) p
    twice (Some q) = refl
    twice None = refl

pub drops_on : {S : Type 0} (registry : S → RegistryState) (x y : S) (lane : Lane) (id : Id) (closes : Bool) → AndHooks registry (DropsSpan id closes) x y
    → (HasNoClosing (registry x).store.spans → HasNoClosing (registry y).store.spans) → Goes (registry x) (entry.Drop lane id closes) (registry y)
drops_on registry x y lane id closes h k = (
  subst (λ v. Happens (bare (registry x).store) (entry.Drop lane id closes) v)
      (sym (bare_same h.stepped (registry y) h.hooks)) (drops id closes lane (registry x) h.stepped h.taken),
  k,
)

pub none_of : (o : Option Id) (A : Type 0) (B : Id → Type 0) → o ≡ None → MatchOption o A B → A
none_of o A B e h = subst (λ p. MatchOption p A B) e h

pub some_of : (o : Option Id) (A : Type 0) (B : Id → Type 0) (id : Id) → o ≡ Some id → MatchOption o A B → B id
some_of o A B id e h = subst (λ p. MatchOption p A B) e h

module _ {S : Type 0} (registry : S → RegistryState) (usable : S → Type 0) where
  -- a fresh registry, and no entry yet
  pub begun_journal : (d : Dispatch S) → usable (stack_of d) → (registry (stack_of d)).store ≡ empty_store → KeepsJournal registry usable d []
  begun_journal d may fresh = record {
    may = may;
    leaves = sym (ap bare fresh);
    settled = subst (λ (s : Store). HasNoClosing s.spans) (sym fresh) (settled_new (registry (stack_of d)).limits);
  }

  -- an entry that is what the dispatcher did, put behind those that were reserved room for
  pub grown : (old new : Dispatch S) (es rs fs : List Entry) (e : Entry) → KeepsJournal registry usable old es
      → fs ≡ rs ++ e ∷ [] → rs ≡ es → usable (stack_of new) → Goes (registry (stack_of old)) e (registry (stack_of new)) → KeepsJournal registry usable new fs
  grown old new es rs fs e k added same may go = record {
    may = may;
    leaves = subst (λ l. Leaves l (registry (stack_of new)).store) (sym (added ∙ ap (λ (l : List Entry). l ++ e ∷ []) same))
        (FoldsTo-push Happens empty_store es (bare (registry (stack_of old)).store) e (bare (registry (stack_of new)).store) k.leaves go.0);
    settled = go.1 k.settled;
  }

  -- nothing but what is kept of callsites changed
  pub kept_same : (old new : Dispatch S) (es fs : List Entry)
      → KeepsJournal registry usable old es → fs ≡ es → stack_of new ≡ stack_of old → KeepsJournal registry usable new fs
  kept_same old new es fs k is same = record {
    may = subst usable (sym same) k.may;
    leaves = subst (λ l. Leaves l (registry (stack_of new)).store) (sym is) (subst (λ (x : S). Leaves es (registry x).store) (sym same) k.leaves);
    settled = subst (λ (x : S). HasNoClosing (registry x).store.spans) (sym same) k.settled;
  }
