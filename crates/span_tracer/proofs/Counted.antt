-- A journal that isn't kept, one entry longer.
use Rattle.std.proofs.Common.{◌≡◌, ◌+◌, ℕ, List, [], ◌∷◌, ◌++◌, MatchOption, Option, Some, None, Result, Ok, Err, ap, arith, length, min, refl, subst, sym}
use Rattle.std.proofs.lemmas.List.{length_push}
use Rattle.std.specs.Prelude.{IfOk, OnErr, OnOk}
use Rattle.span_core.specs.declared.error.TraceError.{TraceError}
use Rattle.span_core.specs.Span.{asked_parent, metadata_of}
use Rattle.span_core.specs.declared.span.Attributes.{Attributes}
use Rattle.span_core.specs.declared.span.Id.{Id}
use Rattle.span_core.specs.declared.span.Lane.{Lane}
use Rattle.span_dispatch.specs.Call.{OpensFor}
use Rattle.span_registry.specs.Subscriber.{AndHooks}
use Rattle.span_store.specs.Step.{AskedSpan}
use Rattle.span_dispatch.specs.Contract.{SameStack}
use Rattle.span_dispatch.specs.Registration.{KeepsRegistered}
use Rattle.span_dispatch.specs.Serve.{stack_of}
use Rattle.span_dispatch.specs.declared.dispatch.Dispatch.{Dispatch}
use Rattle.span_dispatch.specs.declared.registration.Registration.{Registration}
use Rattle.span_shared.proofs.Journalled.{Goes, begun_journal, goes_aside, grown, kept_same, opens, stays}
use Rattle.span_shared.specs.declared.entry.EntryWith.TheVariants as entry
use Rattle.span_shared.specs.Journal.{Entry, Leaves}
use Rattle.span_store.specs.Closes.{HasNoClosing}
use Rattle.span_store.specs.Store.{RegistryState, empty_store}
use Rattle.span_tracer.specs.Receiver.{Journalled, count_of, last_count}
use Rattle.span_tracer.specs.private.Callsite.{AreRegistered}
use Rattle.span_tracer.specs.private.Served.{count_after}

-- one entry more is counted, up to the last number
counted : (journal : List Entry) (e : Entry) (calls : ℕ) → calls ≡ count_of journal
    → min (calls + 1) last_count ≡ count_of (journal ++ e ∷ [])
counted journal e calls is = more (length journal) (length (journal ++ e ∷ [])) calls is (length_push journal e)
  where
    more : (n m c : ℕ) → c ≡ min n last_count → m ≡ n + 1 → min (c + 1) last_count ≡ min m last_count
    more n m c a b = grind (arith)

-- what was registered stays so
pub still_registered : {S : Type 0} (old new : Dispatch S) (table : List (Option Registration))
    → KeepsRegistered old new → AreRegistered old table → AreRegistered new table
still_registered old new table keeps h place r at = keeps r (h place r at)

module _ {S : Type 0} (registry : S → RegistryState) (usable : S → Type 0) where
  -- a fresh registry, and no call yet
  pub no_call : (d : Dispatch S) → usable (stack_of d) → (registry (stack_of d)).store ≡ empty_store → Journalled registry usable d 0
  no_call d may fresh = ([], begun_journal registry usable d may fresh, refl)

  -- a call that was accepted
  pub one_more : (old new : Dispatch S) (calls : ℕ) (e : Entry) → Journalled registry usable old calls → usable (stack_of new)
      → Goes (registry (stack_of old)) e (registry (stack_of new)) → Journalled registry usable new (min (calls + 1) last_count)
  one_more old new calls e j may go = (
    j.0 ++ e ∷ [],
    grown registry usable old new j.0 j.0 (j.0 ++ e ∷ []) e j.1 refl refl may go,
    counted j.0 e calls j.2,
  )

  -- a call that changed the cache alone
  pub no_more : (old new : Dispatch S) (calls : ℕ) → Journalled registry usable old calls → SameStack old new → Journalled registry usable new calls
  no_more old new calls j same = (j.0, kept_same registry usable old new j.0 j.0 j.1 refl same, j.2)

  -- a stack that was changed beside its registry
  pub changed : (old new : Dispatch S) (calls : ℕ) → Journalled registry usable old calls → usable (stack_of new)
      → registry (stack_of new) ≡ registry (stack_of old) → Journalled registry usable new calls
  changed old new calls j may same = (
    j.0,
    record {
      may = may;
      leaves = subst (λ (r : RegistryState). Leaves j.0 r.store) (sym same) j.1.leaves;
      settled = subst (λ (r : RegistryState). HasNoClosing r.store.spans) (sym same) j.1.settled;
    },
    j.2,
  )

  -- what a call did is some entry
  abbrev pub Grows : Dispatch S → Dispatch S → Type 0
  Grows old new = (e : Entry) × Goes (registry (stack_of old)) e (registry (stack_of new))

  -- a call with this result: where it is accepted, what it did is an entry; else the stack is unchanged
  pub after_call : {A : Type 0} (old new : Dispatch S) (calls : ℕ) (given : Result A TraceError)
      → Journalled registry usable old calls → usable (stack_of new) → IfOk given (λ a. Grows old new) → OnErr given (SameStack old new)
      → Journalled registry usable new (count_after given calls)
  after_call old new calls (Ok a) j may went same = one_more old new calls went.0 j may went.1
  after_call old new calls (Err x) j may went same = no_more old new calls j same

  -- a span that was opened, or none, is an entry
  pub opened_grows : (old new : Dispatch S) (lane : Lane) (attrs : Attributes) (made : Option Id)
      → MatchOption made (stack_of new ≡ stack_of old) (λ id. AndHooks registry (OpensFor lane attrs id) (stack_of old) (stack_of new)) → Grows old new
  opened_grows old new lane attrs None same = (
    entry.Unmade lane (metadata_of attrs),
    stays (registry (stack_of old)) (registry (stack_of new)) (ap registry same),
  )
  opened_grows old new lane attrs (Some id) h =
      let span : AskedSpan = record { metadata = metadata_of attrs; parent = asked_parent attrs; verdict = h.taken.0 } in
      let e : Entry = entry.New lane span.metadata span.parent span.verdict id in (
        e,
        goes_aside (registry (stack_of old)) h.stepped (registry (stack_of new)) e
            (opens lane span id (registry (stack_of old)) h.stepped h.taken.1) h.hooks,
      )

-- of what holds where there is no refusal
pub on_ok : {A P : Type 0} {Q : A → Type 0} (given : Result A TraceError) → ((a : A) → P → Q a) → OnOk given P → IfOk given Q
on_ok (Ok a) to h = to a h
on_ok (Err x) to h = tt

pub if_ok : {A : Type 0} {P Q : A → Type 0} (given : Result A TraceError) → ((a : A) → P a → Q a) → IfOk given P → IfOk given Q
if_ok (Ok a) to h = to a h
if_ok (Err x) to h = tt

-- and where there is one
pub on_err : {A P Q : Type 0} (given : Result A TraceError) → (P → Q) → OnErr given P → OnErr given Q
on_err (Ok a) to h = tt
on_err (Err x) to h = to h

-- what holds anyway
pub all_ok : {A : Type 0} {Q : A → Type 0} (given : Result A TraceError) → ((a : A) → Q a) → IfOk given Q
all_ok (Ok a) h = h a
all_ok (Err x) h = tt

pub all_err : {A Q : Type 0} (given : Result A TraceError) → Q → OnErr given Q
all_err (Ok a) h = tt
all_err (Err x) h = h
