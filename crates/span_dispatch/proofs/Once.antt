-- No span closes twice: a closed span's id was issued, and an issued id that isn't in the store never is again.
use Rattle.std.proofs.Common.{◌≡◌, ℕ, ◌⊎◌, inl, inr, Bool, true, false, ◌||◌, List, [], ◌∷◌, ◌++◌, Option, Some, None, refl, sym, ap, subst, ◌∙◌}
use Rattle.std.proofs.lemmas.Bool.{true≢false, or_right}
use Rattle.std.specs.Cmp.{nat_cmp_total}
use Rattle.std.specs.FinMap.{get, insert, remove}
use Rattle.std.specs.FinSet.{contains, contains-insert}
use Rattle.std.specs.List.{flat_map, FoldsTo}
use Rattle.std.specs.Ordering.{eq_by_cmp, nat_cmp}
use Rattle.span_core.specs.Span.{number_of}
use Rattle.span_core.specs.declared.span.Id.{Id}
use Rattle.span_core.specs.declared.span.Lane.{Lane}
use Rattle.span_dispatch.proofs.Goes.{left_aside}
use Rattle.span_dispatch.specs.Outcome.{GoneLeft, HandleAdded, HandleTaken, Reloaded, OutcomeAt, Makes, Noticed, Opened, Outcome, Quiet, Steps}
use Rattle.span_core.specs.declared.span.Attributes.{Attributes}
use Rattle.span_dispatch.specs.Serve.{StandOnce, closed_by}
use Rattle.span_store.proofs.Chains.{get_beside, get_kept, get_removed, same_test, test_same}
use Rattle.span_store.specs.Closes.{Member}
use Rattle.span_store.specs.Store.{AreIssued, IsInStore, RegistryState, Span, Spans, Store, with_handles}
use Rattle.span_registry.specs.Behaviour.{OnClose, OnEnter, OnEvent, OnExit, OnIdChange, OnNewSpan}
use Rattle.span_registry.specs.Form.{Form}
use Rattle.span_registry.specs.Hooks.{StackSteps}
use Rattle.span_registry.specs.Reload.{ReloadSteps}

-- the spans that close by what was made, in order
abbrev pub closed_in : List OutcomeAt → List ℕ
closed_in made = flat_map (λ m. closed_by m.outcome) made

-- from one store to the next: issued ids stay issued, one that isn't in the store stays out of it, and all in it are issued
pub record Onward (s t : Store) : Type 0 where
  pub issued : (c : ℕ) → contains s.issued c ≡ true → contains t.issued c ≡ true
  pub back : (c : ℕ) → IsInStore t.spans c → contains s.issued c ≡ true → IsInStore s.spans c
  pub sound : AreIssued s → AreIssued t

onward_further : (s t u : Store) → Onward s t → Onward t u → Onward s u
onward_further s t u a b =
    record { issued = λ c h. b.issued c (a.issued c h); back = λ c h k. a.back c (b.back c h (a.issued c k)) k; sound = λ h. b.sound (a.sound h) }

-- no id is issued, and no span comes in
onward_shrinks : (s t : Store) → t.issued ≡ s.issued → ((c : ℕ) → IsInStore t.spans c → IsInStore s.spans c) → Onward s t
onward_shrinks s t e back =
    let kept : (c : ℕ) → contains s.issued c ≡ true → contains t.issued c ≡ true = λ c h. ap (λ i. contains i c) e ∙ h in
    record { issued = kept; back = λ c h k. back c h; sound = λ h c k. kept c (h c (back c k)) }

onward_same : (s t : Store) → t.issued ≡ s.issued → t.spans ≡ s.spans → Onward s t
onward_same s t e f = onward_shrinks s t e (λ c h. subst (λ (m : Spans). IsInStore m c) f h)

store_same : (s t : Store) → t ≡ s → Onward s t
store_same s t e = onward_same s t (ap (λ (r : Store). r.issued) e) (ap (λ (r : Store). r.spans) e)

-- a span is opened under an id that was never issued
opened_back : (s : Store) (x : ℕ) (r : Span) (c : ℕ)
    → contains s.issued x ≡ false → IsInStore (insert s.spans x r) c → contains s.issued c ≡ true → IsInStore s.spans c
opened_back s x r c fresh h k =
    let other : c ≡ x → ⊥ = λ e. true≢false (sym k ∙ ap (contains s.issued) e ∙ fresh) in
    (h.0, sym (get_beside s.spans x r c other) ∙ h.1)

issued_itself : (s : Store) (x c : ℕ) → contains (Rattle.std.specs.FinSet.insert s.issued x) c ≡ (eq_by_cmp nat_cmp c x || contains s.issued c)
issued_itself s x c = contains-insert nat_cmp_total s.issued x c

opened_sound : (s : Store) (x : ℕ) (r : Span)
    → AreIssued s → (c : ℕ) → IsInStore (insert s.spans x r) c → contains (Rattle.std.specs.FinSet.insert s.issued x) c ≡ true
opened_sound s x r sound c h = issued_itself s x c ∙ by_test (eq_by_cmp nat_cmp c x) refl
  where
    by_test : (b : Bool) → eq_by_cmp nat_cmp c x ≡ b → (b || contains s.issued c) ≡ true
    by_test true e = refl
    by_test false e = sound c (h.0, sym (get_beside s.spans x r c (λ same. true≢false (sym (same_test c x same) ∙ e))) ∙ h.1)

onward_opened : (f : Form) (lane : Lane) (attrs : Attributes) (id : Id) (s t : Store) → Opened f lane attrs id s t → Onward s t
onward_opened f lane attrs id s t o =
    let x = number_of id in
    let spans = ap (λ (r : Store). r.spans) o.state in
    let issued = ap (λ (r : Store). r.issued) o.state in
    record {
      issued = λ c h. ap (λ i. contains i c) issued ∙ issued_itself s x c ∙ or_right (eq_by_cmp nat_cmp c x) _ h;
      back = λ c h k. opened_back s x _ c o.fresh (subst (λ (m : Spans). IsInStore m c) spans h) k;
      sound = λ h c k. ap (λ i. contains i c) issued ∙ opened_sound s x _ h c (subst (λ (m : Spans). IsInStore m c) spans k);
    }

-- a span's handles make no difference to which are in the store
handles_back : (f : ℕ → ℕ) (m : Spans) (x c : ℕ) (o : Option Span) → get m x ≡ o → IsInStore (with_handles f m x o) c → IsInStore m c
handles_back f m x c None e h = h
handles_back f m x c (Some r) e h = by_test (eq_by_cmp nat_cmp c x) refl
  where
    by_test : (b : Bool) → eq_by_cmp nat_cmp c x ≡ b → IsInStore m c
    by_test true t = (r, ap (get m) (test_same c x t) ∙ e)
    by_test false t = (h.0, sym (get_beside m x (record r { handles = f r.handles }) c (λ same. true≢false (sym (same_test c x same) ∙ t))) ∙ h.1)

removed_back : (m : Spans) (x c : ℕ) → IsInStore (remove m x) c → IsInStore m c
removed_back m x c h = by_test (eq_by_cmp nat_cmp c x) refl
  where
    by_test : (b : Bool) → eq_by_cmp nat_cmp c x ≡ b → IsInStore m c
    by_test true t =
        let gone : Some h.0 ≡ None = sym h.1 ∙ ap (get (remove m x)) (test_same c x t) ∙ get_removed m x in
        let no : ⊥ = cc in
        absurd no
    by_test false t = (h.0, sym (get_kept m x c (λ same. true≢false (sym (same_test c x same) ∙ t))) ∙ h.1)

onward_steps : (f : Form) (o : Outcome) (s t : Store) → Steps f o s t → Onward s t
onward_steps f (Noticed lane (OnNewSpan attrs id)) s t b = onward_opened f lane attrs id s t b
onward_steps f (Noticed lane (OnEvent e)) s t b = store_same s t b
onward_steps f (Noticed lane (OnEnter id)) s t b = onward_same s t (ap (λ (r : Store). r.issued) b.1) (ap (λ (r : Store). r.spans) b.1)
onward_steps f (Noticed lane (OnExit id)) s t b = onward_same s t (ap (λ (r : Store). r.issued) b.1) (ap (λ (r : Store). r.spans) b.1)
onward_steps f (Noticed lane (OnIdChange id other)) s t b = absurd b
onward_steps f (Noticed lane (OnClose id)) s t b =
    onward_shrinks s t
    (ap (λ (u : Store). u.issued) b.1) (λ c h. removed_back s.spans (number_of id) c (subst (λ (m : Spans). IsInStore m c) (ap (λ (u : Store). u.spans) b.1) h))
onward_steps f (Quiet (HandleAdded id)) s t b =
    onward_shrinks s t (ap (λ (r : Store). r.issued) b.1) (λ y h.
    handles_back _ s.spans (number_of id) y (get s.spans (number_of id)) refl (subst (λ (m : Spans). IsInStore m y) (ap (λ (r : Store). r.spans) b.1) h))
onward_steps f (Quiet (HandleTaken id)) s t b =
    onward_shrinks s t (ap (λ (r : Store). r.issued) b.1) (λ y h.
    handles_back _ s.spans (number_of id) y (get s.spans (number_of id)) refl (subst (λ (m : Spans). IsInStore m y) (ap (λ (r : Store). r.spans) b.1) h))
onward_steps f (Quiet (GoneLeft lane id)) s t b = onward_same s t (ap (λ (r : Store). r.issued) b.1) (ap (λ (r : Store). r.spans) b.1)
onward_steps f (Reloaded n l) s t b = store_same s t b
onward_steps f other s t b = store_same s t b.1

-- ---- lists of closes

pub member_split : (xs ys : List ℕ) (c : ℕ) → Member c (xs ++ ys) → Member c xs ⊎ Member c ys
member_split [] ys c h = inr h
member_split (x ∷ xs) ys c (inl e) = inl (inl e)
member_split (x ∷ xs) ys c (inr h) = elim (member_split xs ys c h) [ inl a ↦ inl (inr a) | inr b ↦ inr b ]

-- at most one span closes by an outcome
closes_join : (o : Outcome) (ys : List ℕ) → StandOnce ys → ((c : ℕ) → Member c (closed_by o) → Member c ys → ⊥) → StandOnce (closed_by o ++ ys)
closes_join (Noticed lane (OnClose id)) ys h k = (k (number_of id) (inl refl), h)
closes_join other ys h k = h

module _ {S : Type 0} (registry : S → RegistryState)
    (with_registry : S → RegistryState → S) (has_form : S → Form → Type 0) (stepped : StackSteps S) (reloaded : ReloadSteps S) where
  pub onward_on : (x : S) (m : OutcomeAt) (y : S) → Makes registry with_registry has_form stepped reloaded x m y → Onward (registry x).store (registry y).store
  onward_on x m y h =
      let aside = left_aside registry with_registry has_form stepped reloaded x m y h in
      subst (λ (u : Store). Onward u (registry y).store) h.before
      (onward_further m.before
      m.after (registry y).store (onward_steps m.form m.outcome m.before m.after h.steps) (onward_same m.after (registry y).store aside.issued aside.spans))

  -- what closes by an outcome was in the store, and isn't any more
  closing_step : (f : Form) (o : Outcome) (s t : Store) (c : ℕ) → Steps f o s t → Member c (closed_by o) → IsInStore s.spans c × (IsInStore t.spans c → ⊥)
  closing_step f (Noticed lane (OnClose id)) s t c g (inr h) = absurd h
  closing_step f (Noticed lane (OnClose id)) s t c g (inl e) =
      let gone : get t.spans (number_of id) ≡ None = ap (λ (u : Store). get u.spans (number_of id)) g.1 ∙ get_removed s.spans (number_of id) in (
        subst (IsInStore s.spans) (sym e) (g.0.0, g.0.1),
        λ h. let there : Some h.0 ≡ None = sym h.1 ∙ ap (get t.spans) e ∙ gone in let no : ⊥ = cc in no,
      )
  closing_step f other s t c g h = absurd h

  pub closing_on : (x : S) (m : OutcomeAt) (y : S) (c : ℕ) → Makes registry with_registry has_form stepped reloaded x m y
      → Member c (closed_by m.outcome) → IsInStore (registry x).store.spans c × (IsInStore (registry y).store.spans c → ⊥)
  closing_on x m y c h k =
      let both = closing_step m.form m.outcome m.before m.after c h.steps k in (
        subst (λ (u : Store). IsInStore u.spans c) h.before both.0,
        λ there. both.1 (subst (λ (v : Spans). IsInStore v c) (left_aside registry with_registry has_form stepped reloaded x m y h).spans there),
      )

  -- an issued id that isn't in the store closes no more
  pub never_again : (x : S) (ms : List OutcomeAt) (y : S) (c : ℕ) → FoldsTo (Makes registry with_registry has_form stepped reloaded) x ms y
      → contains (registry x).store.issued c ≡ true → (IsInStore (registry x).store.spans c → ⊥) → Member c (closed_in ms) → ⊥
  never_again x [] y c h issued out k = k
  never_again x (m ∷ ms) y c h issued out k =
      let on = onward_on x m h.0 h.1 in
      elim (member_split (closed_by m.outcome) (closed_in ms) c k) [
        | inl now ↦ out (closing_on x m h.0 c h.1 now).0
        | inr later ↦ never_again h.0 ms y c h.2 (on.issued c issued) (λ k. out (on.back c k issued)) later
      ]

  -- over a whole run no span closes twice
  pub closed_once : (x : S) (ms : List OutcomeAt) (y : S)
      → AreIssued (registry x).store → FoldsTo (Makes registry with_registry has_form stepped reloaded) x ms y → StandOnce (closed_in ms)
  closed_once x [] y sound h = tt
  closed_once x (m ∷ ms) y sound h =
      let on = onward_on x m h.0 h.1 in
      closes_join m.outcome (closed_in ms) (closed_once h.0 ms y (on.sound sound) h.2)
      (λ c now later. let both = closing_on x m h.0 c h.1 now in never_again h.0 ms y c h.2 (on.issued c (sound c both.0)) both.1 later)
