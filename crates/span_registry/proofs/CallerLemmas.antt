-- What a caller's proof may need: registries that are the same extensions aside, and drops with their removals.
use Rattle.std.proofs.Common.{◌≡◌, ℕ, Bool, true, false, cond, map, ◌<◌, ◌⊎◌, inl, inr, ◌∷◌, [], ◌++◌, List, Option, Some, None, IfSome, refl, sym, ap, subst}
use Rattle.std.proofs.Common.{◌∙◌, arith}
use Rattle.std.specs.Prelude.{if◌then◌else◌}
use Rattle.std.specs.FinMap.{get, get-insert, len, remove}
use Rattle.std.specs.Cmp.{nat_cmp_total}
use Rattle.std.specs.List.{find}
use Rattle.std.specs.Borrow.{Bor}
use Rattle.std.specs.Option.{option_and_then, option_copied, option_map}
use Rattle.span_core.specs.Filters.{FilterSet, IsEmpty, has_filter, refuses}
use Rattle.span_core.specs.Span.{number_of}
use Rattle.span_core.specs.declared.filter.FilterMap.{FilterMap}
use Rattle.span_core.specs.declared.span.Id.{Id}
use Rattle.span_core.specs.declared.span.Lane.{Lane}
use Rattle.span_extensions.specs.Extensions.{Place, value_under, with_value}
use Rattle.span_extensions.specs.declared.extensions.ExtensionMap.{ExtensionMap}
use Rattle.span_extensions.specs.declared.tag.Tag.{Tag}
use Rattle.span_store.specs.Closes.{AreUnheld, HasNoClosing, HasNoClosingBut, Member}
use Rattle.span_store.specs.Step.{Clones, Enters, Exits, Removal, Begun, Between, Removed, AskedSpan, Drops, Opens, Releases, Removes, TakesOut, begun}
use Rattle.span_store.specs.Store.{IsChain, IsClosing, IsForest, IsOpen, RegistryState, Span, Spans, Stacks, Store, new_registry, parent_of, stack_on}
use Rattle.span_store.specs.Store.{take_handle, with_extensions, with_stack_on}
use Rattle.span_store.specs.declared.limits.Limits.{Limits}
use Rattle.span_store.specs.LaneStack.{leave, without_duplicates}
use Rattle.span_store.specs.declared.registry.Released.{Released}
use Rattle.span_store.specs.declared.registry.Released.TheVariants.{StillOpen, Closing}
use Rattle.span_store.proofs.Chains.{same_test}
use Rattle.span_store.proofs.StoreLaws.{stacks_restored}
use Rattle.span_store.proofs.Drops.{Progress, begins, forest_taken, none_dropped, progress_first, progress_last, progress_more, settled_added, settled_none}
use Rattle.span_store.proofs.Drops.{settled_now, settled_open, settled_raised, settled_taken, taken_more}
use Rattle.span_registry.specs.Law.{ClosesAll}
use Rattle.span_registry.specs.Form.{Form}
use Rattle.span_registry.specs.Hooks.{Notifies, StackSteps, Stays}
use Rattle.span_registry.specs.Subscriber.{AndHooks, SameButExtensions}
use Rattle.span_registry.specs.Context.{HasNoRefusals, IsLent, LendsOver, LooksAt, LooksAtLent, LooksAtRoot, MasksMore, RefersTo, RefersToLent, SameLoan}
use Rattle.span_registry.specs.Context.{filters_in, filters_lent, lane_in, lane_lent, store_at, store_in, subscriber_lent, view_in, view_lent}
use Rattle.span_registry.specs.Behaviour.{AreAlike, AreAlikeHistories, History, OfReload, Notice, OfNotice, notices_of, unextended}
use Rattle.span_registry.specs.View.{SeenSpans, View, current_among, current_shown, extensions_shown, is_shown, see, shown, view_of}
use Rattle.span_registry.specs.declared.context.Context.{Context}
use Rattle.span_registry.specs.declared.context.ContextMut.{ContextMut}
use Rattle.span_registry.specs.References.{FindsSpan, Reference, extensions_of_reference, id_of_reference, reference_of, reference_to, references_to}
use Rattle.span_registry.specs.References.{scope_of_reference, subscriber_of}
use Rattle.span_registry.specs.declared.scope.SpanRef.{SpanRef}
use Rattle.span_registry.proofs.Ancestry.{seen_at}
use Rattle.span_registry.proofs.Finds.{store_found}
use Rattle.span_registry.proofs.LookupLaws.{whole_chain}
use Rattle.span_registry.proofs.View.{extensions_by}

-- ---- the same, extensions aside
-- a registry that nobody wrote to is the same

pub same_itself : (s : RegistryState) → SameButExtensions s s
same_itself s = record { spans = refl; issued = refl; stacks = refl; limits = refl; filters = refl; retired = refl; reserved = refl }

-- what two hooks leave, one after the other
pub same_further : (s t u : RegistryState) → SameButExtensions s t → SameButExtensions t u → SameButExtensions s u
same_further s t u a b = record {
  spans = b.spans ∙ a.spans;
  issued = b.issued ∙ a.issued;
  stacks = b.stacks ∙ a.stacks;
  limits = b.limits ∙ a.limits;
  filters = b.filters ∙ a.filters;
  retired = b.retired ∙ a.retired;
  reserved = b.reserved ∙ a.reserved;
}

-- a step that no hook follows
pub no_hooks : (step : RegistryState → RegistryState → Type 0) (old new : RegistryState) → step old new → AndHooks (λ s. s) step old new
no_hooks step old new h = record { stepped = new; taken = h; hooks = same_itself new }

-- ---- no span is closing between two requests
-- in an empty registry

pub settled_new : (l : Limits) → HasNoClosing (new_registry l).store.spans
settled_new l = settled_none _ refl

-- after a span is opened
pub settled_opened : (lane : Lane) (span : AskedSpan) (id : Id) (old new : RegistryState)
    → Opens lane span id old new → HasNoClosing old.store.spans → HasNoClosing new.store.spans
settled_opened lane span id old new o s =
    subst HasNoClosing
    (sym (ap (λ (r : RegistryState). r.store.spans) o.state)) (settled_added old.store.spans (number_of id) (begun span o.parent) o.unused (omega arith) s)

-- after a handle is added
pub settled_cloned : (id : Id) (old new : RegistryState) → Clones id old new → HasNoClosing old.store.spans → HasNoClosing new.store.spans
settled_cloned id old new c s =
    subst HasNoClosing (sym (ap (λ (r : RegistryState). r.store.spans) c.state)) (settled_raised old.store.spans (number_of id) s c.is_open)

-- after a handle was released by which its span isn't closing
pub settled_released : (id : Id) (old new : RegistryState) → Releases id StillOpen old new → HasNoClosing old.store.spans → HasNoClosing new.store.spans
settled_released id old new r s =
    let m = old.store.spans in
    let x = number_of id in
    let taken = ap (λ (t : RegistryState). t.store.spans) r.state in
    subst HasNoClosing
    (sym taken) (settled_open (take_handle m x) x (settled_taken m x s r.held) (subst (λ (n : Spans). IsOpen n x) taken (r.still_open.0 refl)))

-- ---- what a drop closes
-- such a drop closes nothing

pub closes_nothing : (id : Id) (old new : RegistryState)
    → Releases id StillOpen old new → IsForest old.store.spans → HasNoClosing old.store.spans → Drops old (number_of id) [] new
closes_nothing id old new r f s =
    let x = number_of id in
    let o = subst (λ (t : RegistryState). IsOpen t.store.spans x) r.state (r.still_open.0 refl) in
    subst (Drops old x []) (sym r.state) (none_dropped old x f s r.held o)

if_closing : (m : Spans) (o : Option Id) (P : Id → Type 0)
    → ((p : Id) → P p → IsClosing m (number_of p)) → IfSome o P → IfSome o (λ p. IsClosing m (number_of p))
if_closing m None P f h = tt
if_closing m (Some p) P f h = f p h

-- in a loop of removals, the span that is next is closing
pub next_is_closing : (between : RegistryState → RegistryState → Type 0) (first : RegistryState) (id : Id)
    → ((s t : RegistryState) → between s t → SameButExtensions s t) → IsClosing first.store.spans (number_of id)
    → {xs : List ℕ} {o : Option Id} {now : RegistryState} → Removal between first id xs o now → IfSome o (λ p. IsClosing now.store.spans (number_of p))
next_is_closing between first id same k Begun = k
next_is_closing between first id same k (Between {xs} {o} {now} {new} r b) =
    subst (λ (m : Spans). IfSome o (λ p. IsClosing m (number_of p))) (sym (same now new b).spans) (next_is_closing between first id same k r)
next_is_closing between first id same k (Removed {xs} {o} {next} {now} {new} r e) = if_closing new.store.spans o _ (λ p h. h.1) e.closing

-- where a loop of removals stands, if nothing else happens in between
progress : (first : RegistryState) (id : Id)
    → IsForest first.store.spans → HasNoClosingBut first.store.spans (Some (number_of id)) → IsClosing first.store.spans (number_of id)
    → {xs : List ℕ} {o : Option Id} {now : RegistryState} → Removal (λ _ _. ⊥) first id xs o now → Progress first now (option_map number_of o) xs
progress first id f s k Begun = progress_first first (number_of id) f s k
progress first id f s k (Between {xs} {o} {now} {new} r b) = absurd b
progress first id f s k (Removed {xs} {o} {next} {now} {new} r e) = progress_more first now new next xs o (progress first id f s k r) e

-- a removal without the hooks before it
removes_aside : (id : Id) (o : Option Id) (aside now new : RegistryState)
    → SameButExtensions aside now → Removes id o now new → (s : RegistryState) × Removes id o aside s × SameButExtensions s new
removes_aside id o aside now new h r =
    let x = number_of id in
    let gone = r.taken in
    let spans : new.store.spans ≡ remove aside.store.spans x = ap (λ (s : Store). s.spans) gone.store ∙ ap (λ (m : Spans). remove m x) h.spans in
    let issued = ap (λ (s : Store). s.issued) gone.store ∙ h.issued in
    let stacks = ap (λ (s : Store). s.stacks) gone.store ∙ h.stacks in
    let here : RegistryState = record new { store = record new.store { extensions = remove aside.store.extensions x } } in (
      here,
      record {
        taken = record {
          store = λ i. record { spans = spans i; extensions = remove aside.store.extensions x; issued = issued i; stacks = stacks i };
          limits = gone.limits ∙ h.limits;
          filters = gone.filters ∙ h.filters;
          reserved = gone.reserved ∙ h.reserved;
          retired = (let a = gone.retired in let b = h.retired in omega arith);
          no_other = (let a = gone.no_other in let b = h.retired in omega arith);
          late = λ _. r.late;
        };
        late = r.late;
        fewer = subst (λ (m : Spans). len new.store.spans < len m) h.spans r.fewer;
        closing = subst (λ (m : Spans). IfSome o (λ p. (parent_of m x ≡ Some (number_of p)) × IsClosing new.store.spans (number_of p))) h.spans r.closing;
        still_open = subst (λ (m : Spans). o ≡ None → (p : ℕ) → parent_of m x ≡ Some p → IsOpen new.store.spans p) h.spans r.still_open;
      },
      record { spans = refl; issued = refl; stacks = refl; limits = refl; filters = refl; retired = refl; reserved = refl },
    )

-- a loop of removals without the hooks in between
aside : (first : RegistryState) (id : Id) {xs : List ℕ} {o : Option Id} {now : RegistryState}
    → Removal SameButExtensions first id xs o now → (s : RegistryState) × Removal (λ _ _. ⊥) first id xs o s × SameButExtensions s now
aside first id Begun = (first, Begun, same_itself first)
aside first id (Between {xs} {o} {now} {new} r b) = let u = aside first id r in (u.0, u.1, same_further u.0 now new u.2 b)
aside first id (Removed {xs} {o} {next} {now} {new} r e) =
    let u = aside first id r in
    let v = removes_aside next o u.0 now new u.2 e in
    (v.0, Removed u.1 v.1, v.2)

pub nothing_taken : (s : RegistryState) → TakesOut s [] s
nothing_taken s = record { store = refl; limits = refl; filters = refl; reserved = refl; retired = omega arith; no_other = omega arith; late = λ h. h }

taken_alone : (first : RegistryState) (id : Id) {xs : List ℕ} {o : Option Id} {now : RegistryState}
    → Removal (λ _ _. ⊥) first id xs o now → TakesOut first xs now
taken_alone first id Begun = nothing_taken first
taken_alone first id (Between {xs} {o} {now} {new} r b) = absurd b
taken_alone first id (Removed {xs} {o} {next} {now} {new} r e) = taken_more first now new next xs o (taken_alone first id r) e

-- a loop of removals, with hooks in between, takes out what was removed, and nothing else, whatever store it began in
pub taken_out : (first : RegistryState) (id : Id) (xs : List ℕ) (o : Option Id) (now : RegistryState)
    → Removal SameButExtensions first id xs o now → (s : RegistryState) × TakesOut first xs s × SameButExtensions s now
taken_out first id xs o now r = let u = aside first id r in (u.0, taken_alone first id u.1, u.2)

member_before : (x : ℕ) (xs ys : List ℕ) → Member x xs → Member x (xs ++ ys)
member_before x [] ys h = absurd h
member_before x (y ∷ xs) ys (inl e) = inl e
member_before x (y ∷ xs) ys (inr h) = inr (member_before x xs ys h)

member_last : (x : ℕ) (xs : List ℕ) → Member x (xs ++ (x ∷ []))
member_last x [] = inl refl
member_last x (y ∷ xs) = inr (member_last x xs)

same_next : (id next : Id) → Some next ≡ Some id → number_of id ≡ number_of next
same_next id next e = let f : next ≡ id = cc in sym (ap number_of f)

first_or_removed : (between : RegistryState → RegistryState → Type 0) (first : RegistryState) (id : Id) {xs : List ℕ} {o : Option Id} {now : RegistryState}
    → Removal between first id xs o now → ((xs ≡ []) × (o ≡ Some id)) ⊎ Member (number_of id) xs
first_or_removed between first id Begun = inl (refl, refl)
first_or_removed between first id (Between r b) = first_or_removed between first id r
first_or_removed between first id (Removed {xs} {o} {next} r e) = elim (first_or_removed between first id r) [
  | inl both ↦ inr (subst (λ (n : ℕ). Member n (xs ++ (number_of next ∷ []))) (sym (same_next id next both.1)) (member_last (number_of next) xs))
  | inr h ↦ inr (member_before (number_of id) xs (number_of next ∷ []) h)
]

-- a loop of removals that ended removed the span that it began with
pub begins_with : (between : RegistryState → RegistryState → Type 0) (first : RegistryState) (id : Id) (xs : List ℕ) (now : RegistryState)
    → Removal between first id xs None now → Member (number_of id) xs
begins_with between first id xs now r = elim (first_or_removed between first id r) [ inl both ↦ let e = both.1 in absurd (cc) | inr h ↦ h ]

whole : (between : RegistryState → RegistryState → Type 0) (old : RegistryState) (id : Id) (xs : List ℕ) (new s : RegistryState)
    → (c : ClosesAll between old id xs new) → Removal (λ _ _. ⊥) c.released id xs None s → Progress c.released s None xs
whole between old id xs new s c r =
    let m = old.store.spans in
    let x = number_of id in
    let taken = ap (λ (t : RegistryState). t.store.spans) c.release.state in
    progress c.released id (subst IsForest (sym taken) (forest_taken m x c.is_forest c.release.held))
    (subst (λ (n : Spans). HasNoClosingBut n (Some x)) (sym taken) (settled_taken m x c.settled c.release.held)) (c.release.closing.0 refl) r

drops : (between : RegistryState → RegistryState → Type 0) (old : RegistryState) (id : Id) (xs : List ℕ) (new s : RegistryState)
    → (c : ClosesAll between old id xs new) → Progress c.released s None xs → Drops old (number_of id) xs s
drops between old id xs new s c p = record {
  closes = subst (λ (t : RegistryState). AreUnheld t.store.spans xs) c.release.state (progress_last c.released s xs p);
  taken = subst (λ (t : RegistryState). TakesOut t xs s) c.release.state p.taken;
}

-- a drop and its removals, if nothing else happens in between: they are what the drop's definition says
pub closes_alone : (old new : RegistryState) (id : Id) (xs : List ℕ) → ClosesAll (λ _ _. ⊥) old id xs new → Drops old (number_of id) xs new
closes_alone old new id xs c = drops _ old id xs new new c (whole _ old id xs new new c c.removal)

-- the same where hooks write extensions in between
pub closes_with_hooks : (old new : RegistryState) (id : Id) (xs : List ℕ)
    → ClosesAll SameButExtensions old id xs new → AndHooks (λ s. s) (λ s t. Drops s (number_of id) xs t) old new
closes_with_hooks old new id xs c =
    let u = aside c.released id c.removal in
    record { stepped = u.0; taken = drops _ old id xs new u.0 c (whole _ old id xs new u.0 c u.1); hooks = u.2 }

-- no span is closing after such a drop
pub settled_alone : (old new : RegistryState) (id : Id) (xs : List ℕ) → ClosesAll (λ _ _. ⊥) old id xs new → HasNoClosing new.store.spans
settled_alone old new id xs c = settled_now new.store.spans (whole _ old id xs new new c c.removal).settled

-- the same with hooks
pub settled_closed : (old new : RegistryState) (id : Id) (xs : List ℕ) → ClosesAll SameButExtensions old id xs new → HasNoClosing new.store.spans
settled_closed old new id xs c =
    let u = aside c.released id c.removal in
    subst HasNoClosing (sym u.2.spans) (settled_now u.0.store.spans (whole _ old id xs new u.0 c u.1).settled)

-- the dropped span is one of those that close
pub closes_itself : (id : Id) (old released : RegistryState) (xs : List ℕ)
    → Releases id Closing old released → AreUnheld (take_handle old.store.spans (number_of id)) xs → Member (number_of id) xs
closes_itself id old released xs r u =
    begins released (number_of id) xs (r.closing.0 refl) (subst (λ (t : RegistryState). AreUnheld t.store.spans xs) (sym r.state) u)

-- ---- the same, from the clauses of the calls as they stand
-- what a release answers when it is closing

pub closing_now : {old new : RegistryState} {id : Id} {answer : Released}
    → Releases id answer old new → answer ≡ Closing → IsClosing new.store.spans (number_of id)
closing_now r e = r.closing.0 e

-- in a loop of removals and nothing else, the span that is next is closing
pub next_closing : {first now : RegistryState} {id next : Id} {xs : List ℕ} {o : Option Id}
    → IsClosing first.store.spans (number_of id) → Removal (λ _ _. ⊥) first id xs o now → o ≡ Some next → IsClosing now.store.spans (number_of next)
next_closing {first} {now} {id} {next} {xs} {o} k r e =
    subst (λ (p : Option Id). IfSome p (λ q. IsClosing now.store.spans (number_of q))) e (next_is_closing (λ _ _. ⊥) first id (λ s t no. absurd no) k r)

-- and it is removed
pub removed_next : {between : RegistryState → RegistryState → Type 0} {first now new : RegistryState} {id next : Id} {xs : List ℕ} {o p : Option Id}
    → Removal between first id xs o now → o ≡ Some next → Removes next p now new → Removal between first id (xs ++ (number_of next ∷ [])) p new
removed_next {between} {first} {now} {new} {id} {next} {xs} {o} {p} r e h = Removed (subst (λ (q : Option Id). Removal between first id xs q now) e r) h

-- what closes by a release and the removals after it
pub drops_closing : {old released new : RegistryState} {id : Id} {answer : Released} {xs : List ℕ} → IsForest old.store.spans → HasNoClosing old.store.spans
    → Releases id answer old released → answer ≡ Closing → Removal (λ _ _. ⊥) released id xs None new → Drops old (number_of id) xs new
drops_closing {old} {released} {new} {id} {answer} {xs} f s r e h =
    closes_alone old
    new id xs (record { released = released; is_forest = f; settled = s; release = subst (λ (a : Released). Releases id a old released) e r; removal = h })

-- and then no span is closing
pub settled_closing : {old released new : RegistryState} {id : Id} {answer : Released} {xs : List ℕ} → IsForest old.store.spans → HasNoClosing old.store.spans
    → Releases id answer old released → answer ≡ Closing → Removal (λ _ _. ⊥) released id xs None new → HasNoClosing new.store.spans
settled_closing {old} {released} {new} {id} {answer} {xs} f s r e h =
    settled_alone old
    new id xs (record { released = released; is_forest = f; settled = s; release = subst (λ (a : Released). Releases id a old released) e r; removal = h })

-- a release by which the span stays open closes nothing
pub drops_open : {old new : RegistryState} {id : Id} {answer : Released}
    → IsForest old.store.spans → HasNoClosing old.store.spans → Releases id answer old new → answer ≡ StillOpen → Drops old (number_of id) [] new
drops_open {old} {new} {id} {answer} f s r e = closes_nothing id old new (subst (λ (a : Released). Releases id a old new) e r) f s

-- and then no span is closing
pub settled_still : {old new : RegistryState} {id : Id} {answer : Released}
    → HasNoClosing old.store.spans → Releases id answer old new → answer ≡ StillOpen → HasNoClosing new.store.spans
settled_still {old} {new} {id} {answer} s r e = settled_released id old new (subst (λ (a : Released). Releases id a old new) e r) s

-- nor in a registry that is the same
pub settled_same : {old new : RegistryState} → new ≡ old → HasNoClosing old.store.spans → HasNoClosing new.store.spans
settled_same e s = subst (λ (r : RegistryState). HasNoClosing r.store.spans) (sym e) s

-- nor in one that is the same, extensions aside
pub settled_aside : {old new : RegistryState} → SameButExtensions old new → HasNoClosing old.store.spans → HasNoClosing new.store.spans
settled_aside h s = subst HasNoClosing (sym h.spans) s

-- nor after a lane has entered a span
pub settled_entered : (lane : Lane) (id : Id) (old new : RegistryState) → Enters lane id old new → HasNoClosing old.store.spans → HasNoClosing new.store.spans
settled_entered lane id old new h s = subst HasNoClosing (sym (ap (λ (r : RegistryState). r.store.spans) h.state)) s

-- nor after a lane has left a span
pub settled_exited : (lane : Lane) (id : Id) (old new : RegistryState) → Exits lane id old new → HasNoClosing old.store.spans → HasNoClosing new.store.spans
settled_exited lane id old new h s = subst HasNoClosing (sym (ap (λ (r : RegistryState). r.store.spans) h)) s

-- ---- what is looked up
-- the scope of a span that was found is the chain of its parents

pub scope_found : {R : Type 0} (registry : R → RegistryState) (s : R) (id : Id) (r : SpanRef R) (o : Option (SpanRef R)) (chain : List ℕ)
    → FindsSpan registry s id o → o ≡ Some r
    → IsChain (registry s).store.spans (Some (number_of id)) chain → scope_of_reference registry r ≡ map (reference_to registry s (λ n. false)) chain
scope_found {R} registry s id r o chain h e c =
    let f : FindsSpan registry s id (Some r) = subst (FindsSpan registry s id) e h in
    ap (λ (q : Reference R). references_to registry q.subscriber q.mask (Some q.id)) f.reference
    ∙ ap (map (reference_to registry s (λ n. false))) (whole_chain (registry s).store (λ n. false) (Some (number_of id)) chain (λ n. refl) c)

-- a context that looks at a subscriber shows the view of that lane of its store, under these filters
pub view_looked_at : {S : Type 0} (registry : S → RegistryState) (c : Context S) (s : S) (lane : ℕ) (under : FilterSet)
    → LooksAt c (Some s) lane under → view_in registry c ≡ view_of (registry s).store lane under
view_looked_at registry c s lane under h = λ i. view_of (store_found registry c.subscriber s h.subscriber i) (h.lane i) (h.filters i)

-- a look at what a hook is lent sees what the hook sees
pub view_lent_on : {S : Type 0} (registry : S → RegistryState) (c : ContextMut S) (look : Context S)
    → LooksAtLent c look → view_in registry look ≡ view_lent registry c
view_lent_on registry c look h = λ i. view_of (store_found registry look.subscriber c.subscriber.now h.subscriber i) (h.lane i).0 (has_filter (h.mask i))

store_at_root : {S : Type 0} (registry : S → RegistryState) (o : Option (Bor S)) (p : Option (Bor RegistryState))
    → option_copied p ≡ option_map registry (option_copied o) → store_at (λ r. r) p ≡ store_at registry o
store_at_root registry None None e = refl
store_at_root registry None (Some b) e = absurd (cc)
store_at_root registry (Some b) p e = store_found (λ r. r) p (registry b.now) e

-- and one that looks at its registry alone shows the same
pub view_at_root : {S : Type 0} (registry : S → RegistryState) (c : Context S) (root : Context RegistryState)
    → LooksAtRoot registry c root → view_in (λ r. r) root ≡ view_in registry c
view_at_root registry c root h = λ i. view_of (store_at_root registry c.subscriber root.subscriber h.subscriber i) (h.lane i).0 (has_filter (h.mask i))

-- what is found so is shown: it is in the store and isn't hidden
abbrev pub GivesShown : (View → Option ℕ) → Type 0
GivesShown which = (v : View) (x : ℕ) → which v ≡ Some x → is_shown v.spans x ≡ true

held : {X : Type 0} (b : Bool) (o : Option X) (x : X) → cond b o None ≡ Some x → o ≡ Some x
held true o x e = e
held false o x e = absurd (cc)

picked : (p : ℕ → Bool) (y : ℕ) (o : Option ℕ) (x : ℕ) (b : Bool) → p y ≡ b → cond b (Some y) o ≡ Some x → (o ≡ Some x → p x ≡ true) → p x ≡ true
picked p y o x true h e k = let same : y ≡ x = cc in subst (λ (z : ℕ). p z ≡ true) same h
picked p y o x false h e k = k e

first_passes : (p : ℕ → Bool) (xs : List ℕ) (x : ℕ) → find p xs ≡ Some x → p x ≡ true
first_passes p [] x e = absurd (cc)
first_passes p (y ∷ ys) x e = picked p y (find p ys) x (p y) refl e (first_passes p ys x)

current_passes : (m : SeenSpans) (xs : List ℕ) (x : ℕ) → current_among m xs ≡ Some x → is_shown m x ≡ true
current_passes m [] x e = absurd (cc)
current_passes m (y ∷ ys) x e = first_passes (is_shown m) (y ∷ ys) x (held _ _ x e)

-- the span that a lane is in is shown
pub current_is_shown : GivesShown current_shown
current_is_shown v x e = current_passes v.spans (without_duplicates v.stack) x e

-- a span that is looked up by its number is shown
pub named_is_shown : (n : ℕ) → GivesShown (shown n)
named_is_shown n v x e = by_test (is_shown v.spans n) refl e
  where
    same : Some n ≡ Some x → n ≡ x
    same k = cc

    by_test : (b : Bool) → is_shown v.spans n ≡ b → (if b then Some n else None) ≡ Some x → is_shown v.spans x ≡ true
    by_test true h k = ap (is_shown v.spans) (sym (same k)) ∙ h
    by_test false h k = absurd (cc)

-- what is found through a context has the extensions that the view shows, and where nothing is found there are none
pub extensions_found : {S : Type 0} (registry : S → RegistryState) (c : Context S) (which : View → Option ℕ) (found : Option (SpanRef S))
    → GivesShown which → RefersTo registry c which found
    → option_map extensions_of_reference found ≡ option_and_then (λ x. extensions_shown x (view_in registry c)) (which (view_in registry c))
extensions_found registry c which None shows h = ap (option_and_then (λ x. extensions_shown x (view_in registry c))) h.span
extensions_found {S} registry c which (Some r) shows h =
    let n = number_of (id_of_reference r) in
    let v = view_in registry c in
    let kept : get (store_in registry c).extensions n ≡ Some (extensions_of_reference r) =
    ap (λ (t : Store). get t.extensions n) (store_found registry c.subscriber (subscriber_of r) h.subscriber)
    ∙ sym (ap (λ (q : Reference S). q.extensions) h.reference) in
    sym (ap (option_and_then (λ x. extensions_shown x v)) (sym h.span)
    ∙ extensions_by (store_in registry c) (lane_in c).0 (filters_in c) n true (shows v n (sym h.span)) ∙ kept)

extensions_referred : {S : Type 0} (registry : S → RegistryState) (c : ContextMut S) (o : Option ℕ) (found : Option (SpanRef S))
    → ((x : ℕ) → o ≡ Some x → is_shown (view_lent registry c).spans x ≡ true)
    → option_map reference_of found ≡ option_map (reference_to registry (subscriber_lent c) (filters_lent c)) o
    → option_map extensions_of_reference found ≡ option_and_then (λ x. extensions_shown x (view_lent registry c)) o
extensions_referred registry c None None shows h = refl
extensions_referred registry c (Some x) None shows h = absurd (cc)
extensions_referred registry c None (Some r) shows h = absurd (cc)
extensions_referred {S} registry c (Some x) (Some r) shows h =
    let same : reference_of r ≡ reference_to registry (subscriber_lent c) (filters_lent c) x = cc in
    ap (λ (q : Reference S). q.extensions) same
    ∙ sym (extensions_by (registry (subscriber_lent c)).store (lane_lent c).0 (filters_lent c) x true (shows x refl))

-- and so has what a hook finds through what it is lent
pub extensions_found_lent : {S : Type 0} (registry : S → RegistryState) (c : ContextMut S) (which : View → Option ℕ) (found : Option (SpanRef S))
    → GivesShown which → RefersToLent registry c which found
    → option_map extensions_of_reference found ≡ option_and_then (λ x. extensions_shown x (view_lent registry c)) (which (view_lent registry c))
extensions_found_lent registry c which found shows h =
    extensions_referred registry c (which (view_lent registry c)) found (shows (view_lent registry c)) h

-- where only extensions differ, the views do in extensions alone
forgotten : (o : Option Span) (under : FilterSet) (e f : Option ExtensionMap)
    → option_map unextended (option_map (λ r. see under r e) o) ≡ option_map unextended (option_map (λ r. see under r f) o)
forgotten None under e f = refl
forgotten (Some r) under e f = refl

pub views_alike : (v w : RegistryState) (lane : ℕ) (under : FilterSet)
    → SameButExtensions v w → AreAlike (view_of v.store lane under) (view_of w.store lane under)
views_alike v w lane under h = record {
  lane = refl;
  stack = ap (λ (k : Stacks). stack_on k lane) (sym h.stacks);
  spans = λ x.
      ap (option_map unextended) (seen_at v.store under x)
      ∙ forgotten (get v.store.spans x) under (get v.store.extensions x) (get w.store.extensions x)
      ∙ ap (λ (m : Spans). option_map unextended (option_map (λ r. see under r (get w.store.extensions x)) (get m x))) (sym h.spans)
      ∙ sym (ap (option_map unextended) (seen_at w.store under x));
}

-- every history is like itself
pub histories_alike : (h : History) → AreAlikeHistories h h
histories_alike [] = tt
histories_alike (OfNotice e v ∷ h) = (refl, record { lane = refl; stack = refl; spans = λ x. refl }, histories_alike h)
histories_alike (OfReload l ∷ h) = (refl, histories_alike h)

-- histories that are alike have notices that are
pub notices_alike : (h k : History) → AreAlikeHistories h k → AreAlikeHistories (notices_of h) (notices_of k)
notices_alike [] [] a = tt
notices_alike (OfNotice e v ∷ h) (OfNotice d w ∷ k) a = (a.0, a.1, notices_alike h k a.2)
notices_alike (OfReload l ∷ h) (OfReload m ∷ k) a = notices_alike h k a.1
notices_alike h k a = absurd a

-- a span has the extensions that were written last
pub extensions_written : (s : RegistryState) (x : ℕ) (e : ExtensionMap) → get (with_extensions s x e).store.extensions x ≡ Some e
extensions_written s x e =
    get-insert nat_cmp_total s.store.extensions x e x ∙ ap (λ (b : Bool). cond b (Some e) (get s.store.extensions x)) (same_test x x refl)

-- a value that was put under a tag of a span's extensions is read there
pub value_written : {T : Type 0} (place : Place T) (s : RegistryState) (x : ℕ) (tag : Tag T) (v : T) (old new : ExtensionMap)
    → new ≡ with_value place old tag v → value_under place (with_value place old tag v) tag ≡ Some v
    → option_and_then (λ m. value_under place m tag) (get (with_extensions s x new).store.extensions x) ≡ Some v
value_written place s x tag v old new e law =
    ap (option_and_then (λ m. value_under place m tag)) (extensions_written s x new) ∙ ap (λ (m : ExtensionMap). value_under place m tag) e ∙ law

-- ---- notified stacks
-- a registry takes a step, and then the stack's layers are notified: so hooks may write extensions after it

pub and_hooks : {S : Type 0} {registry : S → RegistryState} {has_form : S → Form → Type 0}
    {stepped : StackSteps S} {lane : Lane} {refused : FilterSet} {e : Notice} {step : RegistryState → RegistryState → Type 0} {old new : S}
    → Notifies registry has_form stepped lane refused e step old new → AndHooks registry step old new
and_hooks h = record { stepped = h.left; taken = h.taken; hooks = h.extensions }

-- layers are notified where the registry takes no step: only extensions may differ
pub hooks_alone : {S : Type 0} {registry : S → RegistryState} {has_form : S → Form → Type 0} {stepped : StackSteps S} {lane : Lane} {refused : FilterSet}
    {e : Notice} {old new : S} → Notifies registry has_form stepped lane refused e Stays old new → SameButExtensions (registry old) (registry new)
hooks_alone {registry = registry} {new = new} h = subst (λ v. SameButExtensions v (registry new)) h.taken h.extensions

-- ---- entering and leaving
-- a lane enters a span and leaves it, and hooks write extensions: each lane has the stack that it had

pub stacks_restored_after : {S : Type 0} (registry : S → RegistryState) (r s t u : S) (lane : Lane) (id : Id)
    → AndHooks registry (Enters lane id) r s → SameButExtensions (registry s) (registry t)
    → AndHooks registry (Exits lane id) t u → (any : ℕ) → stack_on (registry u).store.stacks any ≡ stack_on (registry r).store.stacks any
stacks_restored_after registry r s t u lane id a b c any =
    ap (λ (m : Stacks). stack_on m any) (c.hooks.stacks ∙ ap (λ (w : RegistryState). w.store.stacks) c.taken)
    ∙ ap (λ (m : Stacks). stack_on (with_stack_on m lane.0 (leave (number_of id) (stack_on m lane.0))) any)
    (b.stacks ∙ a.hooks.stacks ∙ ap (λ (w : RegistryState). w.store.stacks) a.taken.state)
    ∙ stacks_restored (registry r).store lane.0 (number_of id) any

-- ---- lent no refusals
-- with a pass in which no filter refused

pub unrefused_lent : {S : Type 0} {c : ContextMut S} {s : S} {from : ℕ} {under : FilterSet} {v : FilterMap}
    → IsLent c s from under v → IsEmpty (refuses v) → HasNoRefusals c
unrefused_lent h k = subst (λ (v : FilterMap). IsEmpty (refuses v)) (sym h.refused) k

-- handed on
pub unrefused_on : {S : Type 0} {c d : ContextMut S} → SameLoan c d → HasNoRefusals c → HasNoRefusals d
unrefused_on h k = subst (λ (v : FilterMap). IsEmpty (refuses v)) (sym h.refused) k

-- with more filters in the mask
pub unrefused_masked : {S : Type 0} {c d : ContextMut S} {more : FilterSet} → MasksMore c more d → HasNoRefusals c → HasNoRefusals d
unrefused_masked h k = subst HasNoRefusals (sym h.rest) k

-- over another subscriber
pub unrefused_over : {S T : Type 0} {c : ContextMut S} {s : T} {d : ContextMut T} → LendsOver c s d → HasNoRefusals c → HasNoRefusals d
unrefused_over h k = subst (λ (v : FilterMap). IsEmpty (refuses v)) (sym h.refused) k
