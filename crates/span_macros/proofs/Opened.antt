-- A new span has one handle and no child, so it closes with that handle.
use Rattle.std.proofs.Common.{◌≡◌, ◌∙◌, ◌-◌, ◌<◌, inl, inr, ℕ, Bool, true, false, Some, None, Result, Ok, Err, IfErr, IfOk, refl, sym, ap, subst, arith}
use Rattle.std.proofs.lemmas.Bool.{cases_eq}
use Rattle.std.specs.FinMap.{get, insert}
use Rattle.std.specs.Option.{option_and_then}
use Rattle.span_core.specs.Span.{asked_parent, metadata_of, number_of}
use Rattle.span_core.specs.declared.error.TraceError.TheVariants.{OutOfMemory}
use Rattle.span_core.specs.declared.error.TraceError.{TraceError}
use Rattle.span_core.specs.declared.span.Attributes.{Attributes}
use Rattle.span_core.specs.declared.span.Id.{Id}
use Rattle.span_core.specs.declared.span.Lane.{Lane}
use Rattle.span_core.specs.declared.span.Parent.TheVariants.{Root, Contextual, Explicit}
use Rattle.span_core.specs.declared.span.Parent.{Parent}
use Rattle.span_dispatch.specs.Call.{OpensFor}
use Rattle.span_store.proofs.Chains.{get_beside, get_put}
use Rattle.span_store.specs.Step.{IsParentFor, RefusesEnter, RefusesRelease, Releases, begun}
use Rattle.span_store.specs.Store.{HasChild, IsForest, IsHeld, IsOpen, RegistryState, Span, Spans, Store, parent_of, take_handle, with_handles}
use Rattle.span_store.specs.declared.registry.Released.TheVariants.{StillOpen}
use Rattle.span_registry.specs.Subscriber.{AndHooks}

-- what is open is in the store
not_open : (m : Spans) (x : ℕ) → get m x ≡ None → IsOpen m x → ⊥
not_open m x none o = let both : None ≡ Some o.0 = sym none ∙ o.1 in cc

-- the parent that a new span gets is open
parent_open : (s : Store) (lane : Lane) (asked : Parent) (p : ℕ) → IsParentFor s lane asked (Some p) → IsOpen s.spans p
parent_open s lane Root p h = let no : ⊥ = cc in absurd no
parent_open s lane Contextual p h = h.1
parent_open s lane (Explicit x) p h =
    let same : number_of x ≡ p = (let e = h.0 in cc) in
    subst (λ (q : ℕ). IsOpen s.spans q) same h.1

-- in a store in which a span with this parent was put under a new number, whatever its handles are
module _
    (m : Spans) (x : ℕ) (begun other : Span) (own : begun.parent ≡ Some x → ⊥) (beside : (c : ℕ) (r : Span) → get m c ≡ Some r → r.parent ≡ Some x → ⊥) where
  -- it has no child
  no_child : begun.parent ≡ other.parent → HasChild (insert (insert m x begun) x other) x → ⊥
  no_child same c = elim (cases_eq c.0 x) [
    | inl is ↦
        let both : Some c.1 ≡ Some other = sym c.2 ∙ ap (get (insert (insert m x begun) x other)) is ∙ get_put (insert m x begun) x other in
        let that : c.1 ≡ other = cc in
        own (same ∙ ap (λ (r : Span). r.parent) (sym that) ∙ c.3)
    | inr ne ↦ beside c.0 c.1 (sym (get_beside m x begun c.0 ne) ∙ sym (get_beside (insert m x begun) x other c.0 ne) ∙ c.2) c.3
  ]

  -- without a handle it is open no more
  closed_then : begun.parent ≡ other.parent → other.handles ≡ 0 → IsOpen (insert (insert m x begun) x other) x → ⊥
  closed_then same empty o = elim o.2 [
    | inl held ↦
        let both : Some o.0 ≡ Some other = sym o.1 ∙ get_put (insert m x begun) x other in
        let that : o.0 ≡ other = cc in
        let handles : 0 < other.handles = subst (λ (r : Span). 0 < r.handles) that held in
        omega arith
    | inr child ↦ no_child same child
  ]

-- with its one handle taken
taken_once : (m : Spans) (x : ℕ) (r : Span) → take_handle (insert m x r) x ≡ insert (insert m x r) x (record r { handles = r.handles - 1 })
taken_once m x r = ap (with_handles (λ n. n - 1) (insert m x r) x) (get_put m x r)

-- a parent in the store is open
abbrev pub ParentsAreOpen : Type 0
ParentsAreOpen = (m : Spans) (x p : ℕ) → IsForest m → parent_of m x ≡ Some p → IsOpen m p

module _ {S : Type 0}
    (registry : S → RegistryState) (lane : Lane) (attrs : Attributes) (id : Id) (x y : S) (opened : AndHooks registry (OpensFor lane attrs id) x y) where
  -- the spans before, and the new one
  abbrev spans : Spans
  spans = (registry x).store.spans

  abbrev new_span : Span
  new_span = begun (record { metadata = metadata_of attrs; parent = asked_parent attrs; verdict = opened.taken.0 }) opened.taken.1.parent

  spans_then : (registry y).store.spans ≡ insert spans (number_of id) new_span
  spans_then = opened.hooks.spans ∙ ap (λ (t : RegistryState). t.store.spans) opened.taken.1.state

  is_held : IsHeld (registry y).store.spans (number_of id)
  is_held = (new_span, ap (λ (m : Spans). get m (number_of id)) spans_then ∙ get_put spans (number_of id) new_span, omega arith)

  is_open : IsOpen (registry y).store.spans (number_of id)
  is_open = (is_held.0, is_held.1, inl is_held.2)

  -- so memory alone can be why it isn't entered
  pub no_memory : (e : TraceError) → RefusesEnter (registry y) lane id e → e ≡ OutOfMemory
  no_memory e (inl unknown) = absurd (unknown.1 is_open)
  no_memory e (inr memory) = memory.0

  -- and its handle can be taken
  not_refused : (e : TraceError) → RefusesRelease (registry y) id e → ⊥
  not_refused e (inl unknown) = unknown.1 is_open
  not_refused e (inr empty) = empty.2 is_held

  module _ (parents : ParentsAreOpen) (forest : IsForest spans) where
    no_parent : (c : ℕ) (r : Span) → get spans c ≡ Some r → r.parent ≡ Some (number_of id) → ⊥
    no_parent c r there is =
        not_open spans (number_of id) opened.taken.1.unused (parents spans c (number_of id) forest (ap (option_and_then (λ t. t.parent)) there ∙ is))

    own_parent : opened.taken.1.parent ≡ Some (number_of id) → ⊥
    own_parent is =
        let chosen = subst (IsParentFor (registry x).store lane (asked_parent attrs)) is opened.taken.1.finds.chosen in
        not_open spans (number_of id) opened.taken.1.unused (parent_open (registry x).store lane (asked_parent attrs) (number_of id) chosen)

    still_open : (t : RegistryState) → Releases id StillOpen (registry y) t → ⊥
    still_open t released =
        let n = number_of id in
        let less : Span = record new_span { handles = new_span.handles - 1 } in
        let there : t.store.spans ≡ insert (insert spans n new_span) n less =
        ap (λ (u : RegistryState). u.store.spans) released.state ∙ ap (λ (m : Spans). take_handle m n) spans_then ∙ taken_once spans n new_span in
        closed_then spans n new_span less own_parent no_parent refl (omega arith) (subst (λ (m : Spans). IsOpen m n) there (released.still_open.0 refl))

    -- so it closes where its one handle is taken
    pub closes : (Takes : Bool → Type 0) (t : RegistryState) → (Takes false → Releases id StillOpen (registry y) t)
        → (given : Result Bool TraceError) → IfOk given Takes → IfErr given (RefusesRelease (registry y) id) → given ≡ Ok true
    closes Takes t releases (Ok true) taken refused = refl
    closes Takes t releases (Ok false) taken refused = absurd (still_open t (releases taken))
    closes Takes t releases (Err e) taken refused = absurd (not_refused e refused)
