-- Of what was made of requests: what closes, in which order, and that a parent outlives its child.
use Rattle.std.proofs.Common.{inl, inr, ◌⊎◌, ◌≡◌, ◌∙◌, ℕ, Bool, true, false, List, [], ◌∷◌, ◌++◌, map, Option, Some, None, ap, refl, subst, sym}
use Rattle.std.proofs.lemmas.Bool.{true≢false}
use Rattle.std.specs.FinMap.{get, insert}
use Rattle.std.specs.FinSet.{contains}
use Rattle.std.specs.List.{FoldsTo}
use Rattle.std.specs.Option.{option_and_then, option_map_or}
use Rattle.std.specs.Ordering.{eq_by_cmp, nat_cmp}
use Rattle.span_core.specs.Span.{asked_parent, attributes_of, metadata_of, number_of}
use Rattle.span_core.specs.declared.span.Id.{Id}
use Rattle.span_core.specs.declared.span.Attributes.{Attributes}
use Rattle.span_core.specs.declared.span.Lane.{Lane}
use Rattle.span_core.specs.declared.span.Parent.TheVariants as parent
use Rattle.span_core.specs.declared.span.Parent.{Parent}
use Rattle.span_dispatch.proofs.Goes.{left_aside}
use Rattle.span_dispatch.proofs.Once.{closed_in, closing_on, never_again, onward_on}
use Rattle.span_dispatch.specs.Cache.{KeptCallsites}
use Rattle.span_dispatch.specs.Outcome.{HandleAdded, HandleTaken, Reloaded, Makes, Noticed, Opened, Outcome, OutcomeAt, Quiet, Steps}
use Rattle.span_dispatch.specs.Serve.{Run, StandOnce, closed_by, flat, resolved_parent}
use Rattle.span_dispatch.specs.private.Step.{ServesRequest}
use Rattle.span_dispatch.specs.declared.request.Answer.TheVariants as answer
use Rattle.span_dispatch.specs.declared.request.Answer.{Answer}
use Rattle.span_dispatch.specs.declared.request.Request.TheVariants as request
use Rattle.span_dispatch.specs.declared.request.Request.{Request}
use Rattle.span_dispatch.specs.declared.request.WhichParent.TheVariants as asked
use Rattle.span_store.proofs.Chains.{get_beside, get_kept, get_put, same_test, test_same}
use Rattle.span_store.specs.Closes.{Member}
use Rattle.span_store.specs.Step.{IsParentFor}
use Rattle.span_store.specs.Store.{AreIssued, IsInStore, RegistryState, Span, Spans, Store, parent_of, with_handles}
use Rattle.span_registry.specs.Behaviour.{OnClose, OnEvent, OnIdChange, OnNewSpan}
use Rattle.span_registry.specs.Form.{Form}
use Rattle.span_registry.specs.Hooks.{StackSteps}
use Rattle.span_registry.specs.Reload.{ReloadSteps}
use Rattle.span_promises.specs.Parents.{IsChildIn, StandsBefore, opened_by}
use Rattle.span_promises.specs.Promises.{OpensNow, OpensUnder}

-- ---- lists of closes

before_member : (x y : ℕ) (zs : List ℕ) → StandsBefore x y zs → Member y zs
before_member x y [] h = h
before_member x y (z ∷ zs) (inl h) = inr h.1
before_member x y (z ∷ zs) (inr h) = inr (before_member x y zs h)

before_first : (x y : ℕ) (zs : List ℕ) → StandsBefore x y zs → Member x zs
before_first x y [] h = h
before_first x y (z ∷ zs) (inl h) = inl (sym h.0)
before_first x y (z ∷ zs) (inr h) = inr (before_first x y zs h)

-- what stands once doesn't stand before itself
pub once_apart : (x : ℕ) (zs : List ℕ) → StandOnce zs → StandsBefore x x zs → ⊥
once_apart x [] once h = h
once_apart x (z ∷ zs) once (inl h) = once.0 (subst (λ y. Member y zs) (sym h.0) h.1)
once_apart x (z ∷ zs) once (inr h) = once_apart x zs once.1 h

-- of an outcome's closes and those behind it
before_head : (o : Outcome) (x y : ℕ) (zs : List ℕ) → StandsBefore x y (closed_by o ++ zs) → (Member x (closed_by o) × Member y zs) ⊎ StandsBefore x y zs
before_head (Noticed lane (OnClose id)) x y zs (inl h) = inl (inl (sym h.0), h.1)
before_head (Noticed lane (OnClose id)) x y zs (inr h) = inr h
before_head other x y zs h = inr h

closes_or_not : (o : Outcome) (c : ℕ) → Member c (closed_by o) ⊎ (Member c (closed_by o) → ⊥)
closes_or_not (Noticed lane (OnClose id)) c = by_test (eq_by_cmp nat_cmp c (number_of id)) refl
  where
    by_test : (b : Bool) → eq_by_cmp nat_cmp c (number_of id) ≡ b → Member c (number_of id ∷ []) ⊎ (Member c (number_of id ∷ []) → ⊥)
    by_test true e = inl (inl (test_same c (number_of id) e))
    by_test false e = inr (λ h. elim h [ inl s ↦ true≢false (sym (same_test c (number_of id) s) ∙ e) | inr never ↦ never ])
closes_or_not other c = inr (λ h. h)

-- ---- a child in the store

-- c is in the store, and p is its parent
abbrev HasParent : Spans → ℕ → ℕ → Type 0
HasParent m c p = (r : Span) × (get m c ≡ Some r) × (r.parent ≡ Some p)

child_with_handles : (f : ℕ → ℕ) (m : Spans) (x c p : ℕ) (o : Option Span) → get m x ≡ o → HasParent m c p → HasParent (with_handles f m x o) c p
child_with_handles f m x c p None e h = h
child_with_handles f m x c p (Some r) e h = by_test (eq_by_cmp nat_cmp c x) refl
  where
    by_test : (b : Bool) → eq_by_cmp nat_cmp c x ≡ b → HasParent (insert m x (record r { handles = f r.handles })) c p
    by_test true t =
        let same = test_same c x t in
        let it : Some h.0 ≡ Some r = sym h.1 ∙ ap (get m) same ∙ e in
        let one : h.0 ≡ r = cc in (
          record r { handles = f r.handles },
          ap (get (insert m x (record r { handles = f r.handles }))) same
              ∙ get_put m x (record r { handles = f r.handles }),
          ap (λ (s : Span). s.parent) (sym one) ∙ h.2,
        )
    by_test false t = (h.0, get_beside m x (record r { handles = f r.handles }) c (λ same. true≢false (sym (same_test c x same) ∙ t)) ∙ h.1, h.2)

child_same : (s t : Store) (c p : ℕ) → t.spans ≡ s.spans → HasParent s.spans c p → HasParent t.spans c p
child_same s t c p e h = subst (λ (m : Spans). HasParent m c p) (sym e) h

-- what doesn't close it leaves it there
child_stays : (f : Form) (o : Outcome) (s t : Store) (c p : ℕ) → Steps f o s t → AreIssued s → (Member c (closed_by o) → ⊥) → HasParent s.spans c p
    → HasParent t.spans c p
child_stays f (Noticed lane (OnNewSpan attrs id)) s t c p b issued not h =
    let x = number_of id in
    let other : c ≡ x → ⊥ = λ e. true≢false (sym (issued c (h.0, h.1)) ∙ ap (contains s.issued) e ∙ b.fresh) in
    (h.0, ap (λ (r : Store). get r.spans c) b.state ∙ get_beside s.spans x _ c other ∙ h.1, h.2)
child_stays f (Noticed lane (OnEvent e)) s t c p b issued not h = child_same s t c p (ap (λ (r : Store). r.spans) b) h
child_stays f (Noticed lane (OnIdChange id other)) s t c p b issued not h = absurd b
child_stays f (Noticed lane (OnClose id)) s t c p b issued not h =
    (h.0, ap (λ (r : Store). get r.spans c) b.1 ∙ get_kept s.spans (number_of id) c (λ e. not (inl e)) ∙ h.1, h.2)
child_stays f (Quiet (HandleAdded id)) s t c p b issued not h =
    subst (λ (m : Spans). HasParent m c p) (sym (ap (λ (r : Store). r.spans) b.1))
    (child_with_handles _ s.spans (number_of id) c p (get s.spans (number_of id)) refl h)
child_stays f (Quiet (HandleTaken id)) s t c p b issued not h =
    subst (λ (m : Spans). HasParent m c p) (sym (ap (λ (r : Store). r.spans) b.1))
    (child_with_handles _ s.spans (number_of id) c p (get s.spans (number_of id)) refl h)
child_stays f (Reloaded n l) s t c p b issued not h = child_same s t c p (ap (λ (r : Store). r.spans) b) h
child_stays f other s t c p b issued not h = child_same s t c p (ap (λ (r : Store). r.spans) b.1) h

-- a span that closes has no child in the store
childless : (f : Form) (o : Outcome) (s t : Store) (c p : ℕ) → Steps f o s t → Member p (closed_by o) → HasParent s.spans c p → ⊥
childless f (Noticed lane (OnClose id)) s t c p b k h = elim k [
  | inl e ↦ b.0.3 (c, h.0, h.1, h.2 ∙ ap (λ q. Some q) e)
  | inr never ↦ never
]
childless f other s t c p b k h = k

-- ---- opened under a parent

-- what has a parent is in the store
parent_there : (m : Spans) (c p : ℕ) → parent_of m c ≡ Some p → HasParent m c p
parent_there m c p e = by_place (get m c) refl e
  where
    by_place : (o : Option Span) → get m c ≡ o → option_and_then (λ r. r.parent) o ≡ Some p → HasParent m c p
    by_place None at h = let no : ⊥ = cc in absurd no
    by_place (Some r) at h = (r, at, h)

-- a parent that a new span gets is in the store
parent_open : (s : Store) (lane : Lane) (wanted : Parent) (p : ℕ) → IsParentFor s lane wanted (Some p) → IsInStore s.spans p
parent_open s lane parent.Root p h = let no : ⊥ = cc in absurd no
parent_open s lane parent.Contextual p h = (h.1.0, h.1.1)
parent_open s lane (parent.Explicit x) p h = let same : p ≡ number_of x = cc in subst (IsInStore s.spans) (sym same) (h.1.0, h.1.1)

-- a new span has the parent that it got
opened_parent : (f : Form) (lane : Lane) (attrs : Attributes) (id : Id) (s t : Store) (b : Opened f lane attrs id s t)
    → parent_of t.spans (number_of id) ≡ b.parent
opened_parent f lane attrs id s t b =
    let r : Span = record { metadata = metadata_of attrs; parent = b.parent; handles = 1; verdict = b.verdict } in
    ap (λ (u : Store). parent_of u.spans (number_of id)) b.state
    ∙ ap (λ (q : Option Span). option_and_then (λ z. z.parent) q) (get_put s.spans (number_of id) r)

-- which was in the store
names_parent : (f : Form) (o : Outcome) (s t : Store) (c p : ℕ) → Steps f o s t → Member c (opened_by o) → parent_of t.spans c ≡ Some p
    → IsInStore s.spans p
names_parent f (Noticed lane (OnNewSpan attrs id)) s t c p b k h = elim k [
  | inl same ↦
      let it : b.parent ≡ Some p = sym (opened_parent f lane attrs id s t b) ∙ ap (parent_of t.spans) (sym same) ∙ h in
      parent_open s lane (asked_parent attrs) p (subst (IsParentFor s lane (asked_parent attrs)) it b.chosen)
  | inr never ↦ absurd never
]
names_parent f other s t c p b k h = absurd k

-- what opens a span closes none
opens_alone : (o : Outcome) (c : ℕ) (zs : List ℕ) → Member c (opened_by o) → (closed_by o ++ zs) ≡ zs
opens_alone (Noticed lane (OnNewSpan attrs id)) c zs h = refl
opens_alone other c zs h = absurd h

opens_more : (c p : ℕ) (ms ns : List OutcomeAt) → IsChildIn c p ns → IsChildIn c p (ms ++ ns)
opens_more c p [] ns h = h
opens_more c p (m ∷ ms) ns h = inr (opens_more c p ms ns h)

opens_first : (c p : ℕ) (ms ns : List OutcomeAt) → IsChildIn c p ms → IsChildIn c p (ms ++ ns)
opens_first c p [] ns h = absurd h
opens_first c p (m ∷ ms) ns (inl h) = inl h
opens_first c p (m ∷ ms) ns (inr h) = inr (opens_first c p ms ns h)

module _ {S : Type 0} (registry : S → RegistryState) (with_registry : S → RegistryState → S) (has_form : S → Form → Type 0) (stepped : StackSteps S)
    (reloaded : ReloadSteps S) where
  abbrev Goes : S → List OutcomeAt → S → Type 0
  Goes x ms y = FoldsTo (Makes registry with_registry has_form stepped reloaded) x ms y

  -- a child in the store closes before its parent
  child_first : (c p : ℕ) (x : S) (ms : List OutcomeAt) (y : S) → Goes x ms y → AreIssued (registry x).store → HasParent (registry x).store.spans c p
      → StandsBefore p c (closed_in ms) → ⊥
  child_first c p x [] y h issued has b = b
  child_first c p x (m ∷ ms) y h issued has b =
      let on = onward_on registry with_registry has_form stepped reloaded x m h.0 h.1 in
      let has_now = subst (λ (u : Store). HasParent u.spans c p) (sym h.1.before) has in
      let issued_now = subst (λ (u : Store). AreIssued u) (sym h.1.before) issued in
      elim (before_head m.outcome p c (closed_in ms) b) [
        | inl now ↦ childless m.form m.outcome m.before m.after c p h.1.steps now.0 has_now
        | inr later ↦ elim (closes_or_not m.outcome c) [
          | inl gone ↦
              let out = closing_on registry with_registry has_form stepped reloaded x m h.0 c h.1 gone in
              never_again registry with_registry has_form stepped reloaded h.0 ms y c h.2 (on.issued c (issued c out.0)) out.1
              (before_member p c (closed_in ms) later)
          | inr stays ↦
              let after = child_stays m.form m.outcome m.before m.after c p h.1.steps issued_now stays has_now in
              child_first c p h.0 ms y h.2 (on.sound issued)
              (child_same m.after (registry h.0).store c p (left_aside registry with_registry has_form stepped reloaded x m h.0 h.1).spans after) later
        ]
      ]

  -- under a span that was issued and isn't in the store none is opened any more
  gone_parent : (c p : ℕ) (x : S) (ms : List OutcomeAt) (y : S) → Goes x ms y → contains (registry x).store.issued p ≡ true
      → (IsInStore (registry x).store.spans p → ⊥) → IsChildIn c p ms → ⊥
  gone_parent c p x [] y h issued out o = o
  gone_parent c p x (m ∷ ms) y h issued out (inl o) =
      out (subst (λ (u : Store). IsInStore u.spans p) h.1.before (names_parent m.form m.outcome m.before m.after c p h.1.steps o.0 o.1))
  gone_parent c p x (m ∷ ms) y h issued out (inr o) =
      let on = onward_on registry with_registry has_form stepped reloaded x m h.0 h.1 in
      gone_parent c p h.0 ms y h.2 (on.issued p issued) (λ there. out (on.back p there issued)) o

  -- so of what was opened under a parent the close comes before the parent's
  pub parent_last : (c p : ℕ) (x : S) (ms : List OutcomeAt) (y : S) → Goes x ms y → AreIssued (registry x).store → IsChildIn c p ms
      → StandsBefore p c (closed_in ms) → ⊥
  parent_last c p x [] y h issued o b = o
  parent_last c p x (m ∷ ms) y h issued (inl o) b =
      let on = onward_on registry with_registry has_form stepped reloaded x m h.0 h.1 in
      let there = parent_there m.after.spans c p o.1 in
      child_first c p h.0 ms y h.2 (on.sound issued)
      (child_same m.after (registry h.0).store c p (left_aside registry with_registry has_form stepped reloaded x m h.0 h.1).spans there)
      (subst (StandsBefore p c) (opens_alone m.outcome c (closed_in ms) o.0) b)
  parent_last c p x (m ∷ ms) y h issued (inr o) b =
      let on = onward_on registry with_registry has_form stepped reloaded x m h.0 h.1 in
      elim (before_head m.outcome p c (closed_in ms) b) [
        | inl now ↦
            let out = closing_on registry with_registry has_form stepped reloaded x m h.0 p h.1 now.0 in
            gone_parent c p h.0 ms y h.2 (on.issued p (issued p out.0)) out.1 o
        | inr later ↦ parent_last c p h.0 ms y h.2 (on.sound issued) o later
      ]

  opens_one : (x : S) (ms : List OutcomeAt) (y : S) (lane : Lane) (attrs : Attributes) (id pid : Id)
      → map (λ m. m.outcome) ms ≡ Noticed lane (OnNewSpan attrs id) ∷ []
      → Goes x ms y → asked_parent attrs ≡ parent.Explicit pid → IsChildIn (number_of id) (number_of pid) ms
  opens_one x [] y lane attrs id pid is h e = let no : ⊥ = cc in absurd no
  opens_one x (m ∷ ms) y lane attrs id pid is h e =
      let same : m.outcome ≡ Noticed lane (OnNewSpan attrs id) = cc in
      let b : Opened m.form lane attrs id m.before m.after = subst (λ o. Steps m.form o m.before m.after) same h.1.steps in
      let chosen = subst (λ (a : Parent). IsParentFor m.before lane a b.parent) e b.chosen in
      inl (subst (λ o. Member (number_of id) (opened_by o)) (sym same) (inl refl), opened_parent m.form lane attrs id m.before m.after b ∙ chosen.0)

  opens_now : (past : List Answer) (r : Request) (a : Answer) (ms : List OutcomeAt) (kept : KeptCallsites) (x : S) (after : KeptCallsites) (y : S)
      (child pid : Id)
      → ServesRequest registry with_registry has_form stepped reloaded past r kept x a ms after y → OpensNow past r a child pid
      → IsChildIn (number_of child) (number_of pid) ms
  opens_now past (request.NewSpan lane m (asked.Explicit which) values) (answer.Made id) ms kept x after y child pid h o =
      subst (λ c. IsChildIn c (number_of pid) ms) (ap number_of o.0)
      (opens_one x ms y lane (attributes_of m values (resolved_parent past (asked.Explicit which))) id pid h.2.says h.2.goes
      (ap (λ w. option_map_or (λ z. parent.Explicit z) w parent.Root) o.1))
  opens_now past r a ms kept x after y child pid h o = absurd o

  -- what requests name as a parent is so in what was made of them
  pub opens_made : (past : List Answer) (rs : List Request) (answers : List Answer) (made : List (List OutcomeAt)) (kept : KeptCallsites) (x : S)
      (after : KeptCallsites) (y : S) (child pid : Id)
      → Run registry with_registry has_form stepped reloaded past rs answers made kept x after y → OpensUnder past rs answers child pid
      → IsChildIn (number_of child) (number_of pid) (flat made)
  opens_made past (r ∷ rs) (a ∷ answers) (ms ∷ made) kept x after y child pid h (inl now) =
      opens_first (number_of child) (number_of pid) ms (flat made) (opens_now past r a ms kept x h.0 h.1 child pid h.2 now)
  opens_made past (r ∷ rs) (a ∷ answers) (ms ∷ made) kept x after y child pid h (inr later) =
      opens_more (number_of child) (number_of pid) ms (flat made) (opens_made (past ++ (a ∷ [])) rs answers made h.0 h.1 after y child pid h.3 later)
  opens_made past (r ∷ rs) (a ∷ answers) [] kept x after y child pid h o = absurd h
  opens_made past rs answers made kept x after y child pid h o = absurd o
