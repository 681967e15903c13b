-- How the filters in a list's members get their numbers, one member after another.
use Rattle.std.proofs.Common.{◌≡◌, ℕ, List, [], ◌∷◌, ◌++◌, append-nil, append_assoc, refl, sym, ap, subst, ◌∙◌}
use Rattle.span_layers.specs.Members.{ListForm}
use Rattle.span_layers.specs.Number.{numbered}
use Rattle.span_store.specs.Store.{RegistryState}
use Rattle.span_registry.specs.Form.{Terminal, End, Form, InList, Parts}

module _ {L : Type 0} (has : L → Form → Type 0) (first now : ℕ) where
  -- what is left takes the next number from now on, and the whole then has taken its numbers from the first on
  pub record TakesOn (done : List L) (f r : Form) : Type 0 where
    pub form : (rest : List L) → ListForm has rest (numbered r now).0 → ListForm has (done ++ rest) (numbered f first).0
    pub next : (numbered f first).1 ≡ (numbered r now).1

module _ {L : Type 0} (has : L → Form → Type 0) (first : ℕ) where
  -- nothing was numbered yet
  pub none_numbered : (f : Form) → TakesOn has first first [] f f
  none_numbered f = record { form = λ rest h. h; next = refl }

  -- one member more took its numbers
  pub one_numbered : (now then : ℕ) (done : List L) (y : L) (f o r : Form)
      → has y (numbered o now).0 → then ≡ (numbered o now).1 → TakesOn has first now done f (Parts InList o r) → TakesOn has first then (done ++ y ∷ []) f r
  one_numbered now then done y f o r form next h = record {
    form = λ rest k. subst (λ l. ListForm has l (numbered f first).0)
        (sym (append_assoc done (y ∷ []) rest)) (h.form (y ∷ rest) (refl, form, subst (λ n. ListForm has rest (numbered r n).0) next k));
    next = h.next ∙ ap (λ n. (numbered r n).1) (sym next);
  }

  -- all did
  pub all_numbered : (now : ℕ) (done : List L) (f : Form) → TakesOn has first now done f (Terminal End) → ListForm has done (numbered f first).0
  all_numbered now done f h = subst (λ l. ListForm has l (numbered f first).0) (append-nil done) (h.form [] refl)

-- ---- a subscriber of which only the number of its filters is another

module _ {S : Type 0} (registry : S → RegistryState) (with_registry : S → RegistryState → S) (registry_with : (s : S) (w : RegistryState)
    → registry (with_registry s w) ≡ w) (with_twice : (s : S) (v w : RegistryState) → with_registry (with_registry s v) w ≡ with_registry s w) where
  -- one subscriber, and one that was made of it
  abbrev pub FiltersAlone : S → S → Type 0
  FiltersAlone s t = t ≡ with_registry s (record (registry s) { filters = (registry t).filters })

  -- once, and once more
  pub filters_further : (s t u : S) → FiltersAlone s t → FiltersAlone t u → FiltersAlone s u
  filters_further s t u a b =
      let number = (registry u).filters in
      let same : registry t ≡ record (registry s) { filters = (registry t).filters } = ap registry a ∙ registry_with s _ in
      b ∙ ap (λ (w : RegistryState). with_registry t (record w { filters = number })) same
      ∙ ap (λ z. with_registry z (record (registry s) { filters = number })) a ∙ with_twice s _ _
