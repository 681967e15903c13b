-- What is written of boxes, one after the other.
use Rattle.std.proofs.Common.{◌≡◌, ◌∙◌, ◌<◌, ◌+◌, ℕ, Bool, true, false, List, [], ◌∷◌, ◌++◌, ap, append_assoc, drop, filter, flat_map, get_or, if◌then◌else◌}
use Rattle.std.proofs.Common.{length, map, not, reverse, sym, take}
use Rattle.std.specs.Prelude.{◌==◌, ◌&&◌}
use Rattle.std.specs.List.{list_any}
use Rattle.std.proofs.lemmas.List.{append-nil, drop_more, map-append, reverse-append}
use Rattle.std.proofs.lemmas.List.Elements.{filter_more}
use Rattle.serde_json.specs.Data.{Data}
use Rattle.span_export.specs.Chrome.{Change, lanes_in, redrawn}
use Rattle.span_export.specs.Chrome.Change.{Begins, Ends}
use Rattle.span_export.specs.Entry.{is_into, is_of}
use Rattle.span_export.specs.declared.entry.Entry.{Entry}

module _ (f : Change → Data) (lane : ℕ) where
  -- one more box ended, that before those
  pub one_more_ended : (xs : List ℕ) (i x : ℕ) (start old new : List Data)
      → i < length xs → x ≡ get_or xs i 0 → old ≡ start ++ map f (map (Ends lane) (reverse (drop (i + 1) xs))) → new ≡ old ++ f (Ends lane x) ∷ []
      → new ≡ start ++ map f (map (Ends lane) (reverse (drop i xs)))
  one_more_ended xs i x start old new within this so_far grew =
      let rest = reverse (drop (i + 1) xs) in
      let split = ap reverse (drop_more xs i 0 within ∙ ap (λ y. y ∷ drop (i + 1) xs) (sym this)) ∙ reverse-append (x ∷ []) (drop (i + 1) xs) in
      grew ∙ ap (λ t. t ++ f (Ends lane x) ∷ []) so_far
      ∙ append_assoc start (map f (map (Ends lane) rest)) (f (Ends lane x) ∷ [])
      ∙ ap (λ t. start ++ t) (sym (ap (λ ys. map f (map (Ends lane) ys)) split
      ∙ ap (map f) (map-append (Ends lane) rest (x ∷ [])) ∙ map-append f (map (Ends lane) rest) (Ends lane x ∷ [])))

  -- one more box began, unless it is of the span
  pub one_more_begun : (p : ℕ → Bool) (xs : List ℕ) (i x : ℕ) (start old new : List Data) (other : Bool)
      → i < length xs → x ≡ get_or xs i 0 → p x ≡ other → new ≡ (if other then old ++ f (Begins lane x) ∷ [] else old)
      → old ≡ start ++ map f (map (Begins lane) (filter p (take i xs))) → new ≡ start ++ map f (map (Begins lane) (filter p (take (i + 1) xs)))
  one_more_begun p xs i x start old new true within this is grew so_far =
      let before = filter p (take i xs) in
      let split : filter p (take (i + 1) xs) ≡ before ++ x ∷ [] =
      filter_more p xs i 0 within ∙ ap (λ y. before ++ (if p y then y ∷ [] else [])) (sym this) ∙ ap (λ b. before ++ (if b then x ∷ [] else [])) is in
      grew ∙ ap (λ t. t ++ f (Begins lane x) ∷ []) so_far
      ∙ append_assoc start (map f (map (Begins lane) before)) (f (Begins lane x) ∷ [])
      ∙ ap (λ t. start ++ t) (sym (ap (λ ys. map f (map (Begins lane) ys)) split
      ∙ ap (map f) (map-append (Begins lane) before (x ∷ [])) ∙ map-append f (map (Begins lane) before) (Begins lane x ∷ [])))
  one_more_begun p xs i x start old new false within this is grew so_far =
      let before = filter p (take i xs) in
      let split : filter p (take (i + 1) xs) ≡ before =
      filter_more p xs i 0 within
      ∙ ap (λ y. before ++ (if p y then y ∷ [] else [])) (sym this) ∙ ap (λ b. before ++ (if b then x ∷ [] else [])) is ∙ append-nil before in
      grew ∙ so_far ∙ ap (λ ys. start ++ map f (map (Begins lane) ys)) (sym split)

  -- what ends and what begins again
  pub both_drawn : (x : ℕ) (xs : List ℕ) (start mid new : List Data)
      → mid ≡ start ++ map f (map (Ends lane) (reverse xs)) → new ≡ mid ++ map f (map (Begins lane) (filter (λ y. not (y == x)) xs))
      → new ≡ start ++ map f (redrawn x lane xs)
  both_drawn x xs start mid new first second =
      let ended = map (Ends lane) (reverse xs) in
      let begun = map (Begins lane) (filter (λ y. not (y == x)) xs) in
      second ∙ ap (λ t. t ++ map f begun) first ∙ append_assoc start (map f ended) (map f begun) ∙ ap (λ t. start ++ t) (sym (map-append f ended begun))

lanes_by : ℕ → Entry → List Entry → Bool → List ℕ
lanes_by x e es is = if is then e.lane.0 ∷ lanes_in x es else lanes_in x es

-- one more entry, whose lane is drawn or not
pub one_more_closed : (f : Change → Data) (x : ℕ) (g : ℕ → List Change) (es : List Entry) (i : ℕ) (e : Entry) (old new whole : List Data) (is : Bool)
    → i < length es → drop i es ≡ e ∷ drop (i + 1) es → is_into x e && not (list_any (is_of e.lane.0 x) (drop (i + 1) es)) ≡ is
    → new ≡ (if is then old ++ map f (g e.lane.0) else old) → old ++ map f (flat_map g (lanes_in x (drop i es))) ≡ whole
    → new ++ map f (flat_map g (lanes_in x (drop (i + 1) es))) ≡ whole
unfolding lanes_by
one_more_closed f x g es i e old new whole true within split test grew so_far =
    let rest = lanes_in x (drop (i + 1) es) in
    ap (λ t. t ++ map f (flat_map g rest)) grew
    ∙ append_assoc old (map f (g e.lane.0)) (map f (flat_map g rest))
    ∙ ap (λ t. old ++ t) (sym (map-append f (g e.lane.0) (flat_map g rest)))
    ∙ sym (ap (λ ys. old ++ map f (flat_map g (lanes_in x ys))) split ∙ ap (λ b. old ++ map f (flat_map g (lanes_by x e (drop (i + 1) es) b))) test) ∙ so_far
one_more_closed f x g es i e old new whole false within split test grew so_far =
    ap (λ t. t ++ map f (flat_map g (lanes_in x (drop (i + 1) es)))) grew
    ∙ sym (ap (λ ys. old ++ map f (flat_map g (lanes_in x ys))) split ∙ ap (λ b. old ++ map f (flat_map g (lanes_by x e (drop (i + 1) es) b))) test) ∙ so_far
