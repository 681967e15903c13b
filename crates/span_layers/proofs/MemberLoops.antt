-- Loops over the members of a list: what is left of it, and how its form stands to the whole one's.
use Rattle.std.proofs.Common.{◌≡◌, ℕ, Bool, true, false, refl, ◌||◌, ◌+◌, ◌<◌, ◌≤◌, List, [], ◌∷◌, ◌++◌, length, get_or, set, take, drop, arith, sym, ap, subst}
use Rattle.std.proofs.Common.{◌∙◌}
use Rattle.std.proofs.lemmas.List.Elements.{AllZip-push}
use Rattle.std.proofs.lemmas.List.{drop-drop, drop-set-lt, drop_all, drop_more, take_all, take_more, take_more_set}
use Rattle.std.specs.List.{AllZip}
use Rattle.span_layers.specs.Members.{ListForm}
use Rattle.span_registry.specs.Form.{Terminal, End, Filtered, Form, InList, Leaf, Parts}

-- whatever form a list has, what is left of it has one that stands so to that
abbrev pub Left : {L : Type 0} → (L → Form → Type 0) → List L → List L → (Form → Form → Type 0) → Type 0
Left has all rest so = (f : Form) → ListForm has all f → (r : Form) × ListForm has rest r × so f r

-- the member at hand and the rest after it
pub here : {L : Type 0} (xs : List L) (i : ℕ) (x : L) → i < length xs → x ≡ get_or xs i x → drop i xs ≡ x ∷ drop (i + 1) xs
here xs i x lt is = drop_more xs i x lt ∙ ap (λ y. y ∷ drop (i + 1) xs) (sym is)

module _ {L : Type 0} (has : L → Form → Type 0) where
  -- the first member's form and the rest's
  first_of : (P : Form → Type 0) (x : L) (rest : List L) (r : Form)
      → ListForm has (x ∷ rest) r → P r → (o : Form) × (i : Form) × has x o × ListForm has rest i × P (Parts InList o i)
  first_of P x rest (Parts k o i) h p = (o, i, h.1, h.2, subst (λ j. P (Parts j o i)) h.0 p)
  first_of P x rest (Leaf still a) h p = absurd h
  first_of P x rest (Filtered n a f) h p = absurd h
  first_of P x rest (Terminal v) h p = absurd h

  -- at first the whole is left
  pub whole_left : (all : List L) (so : Form → Form → Type 0) → ((f : Form) → so f f) → Left has all all so
  whole_left all so start f h = (f, h, start f)

  module _ (all : List L) (so : Form → Form → Type 0) (xs : List L) (i : ℕ) where
    module _ (x : L) (lt : i < length xs) (is : x ≡ get_or xs i x) where
      -- one member less is left
      pub less_left : (then : Form → Form → Type 0)
          → ((f o r : Form) → has x o → so f (Parts InList o r) → then f r) → Left has all (drop i xs) so → Left has all (drop (i + 1) xs) then
      less_left then step left f h =
          let before = left f h in
          let both = first_of (so f) x (drop (i + 1) xs) before.0 (subst (λ l. ListForm has l before.0) (here xs i x lt is) before.1) before.2 in
          (both.1, both.3, step f both.0 both.1 both.2 both.4)

      -- the loop ends at a member
      pub ends_at : (P : Form → Type 0)
          → ((f o r : Form) → has x o → so f (Parts InList o r) → P f) → Left has all (drop i xs) so → (f : Form) → ListForm has all f → P f
      ends_at P step left f h =
          let before = left f h in
          let both = first_of (so f) x (drop (i + 1) xs) before.0 (subst (λ l. ListForm has l before.0) (here xs i x lt is) before.1) before.2 in
          step f both.0 both.1 both.2 both.4

    -- nothing is left
    pub none_left : (P : Form → Type 0)
        → length xs ≤ i → ((f : Form) → so f (Terminal End) → P f) → Left has all (drop i xs) so → (f : Form) → ListForm has all f → P f
    none_left P end step left f h =
        let before = left f h in
        step f (subst (so f) (subst (λ l. ListForm has l before.0) (drop_all i xs end) before.1) before.2)

-- ---- lists that a loop writes, of which the rest is as it was

module _ {L : Type 0} (all xs : List L) (i : ℕ) (same : drop i xs ≡ drop i all) (lt : i < length xs) where
  -- the member at hand is as it was
  pub same_here : (d e : L) → i < length all → get_or xs i d ≡ get_or all i e
  same_here d e in_all = ap (λ l. get_or l 0 d) (sym (drop_more xs i d lt) ∙ same ∙ drop_more all i e in_all)

  -- and so is the rest after it
  pub same_rest : (y : L) → drop (i + 1) (set xs i y) ≡ drop (i + 1) all
  same_rest y = drop-set-lt (i + 1) xs i y (omega arith) ∙ sym (drop-drop 1 i xs) ∙ ap (drop 1) same ∙ drop-drop 1 i all

  -- one member more has become another
  pub zip_more : (R : L → L → Type 0) (d y : L)
      → i < length all → AllZip R (take i all) (take i xs) → R (get_or xs i d) y → AllZip R (take (i + 1) all) (take (i + 1) (set xs i y))
  zip_more R d y in_all before one =
      subst (λ l. AllZip R l (take (i + 1) (set xs i y))) (sym (take_more all i d in_all))
      (subst (λ l. AllZip R (take i all ++ get_or all i d ∷ []) l) (sym (take_more_set xs i y lt))
      (AllZip-push R (take i all) (take i xs) (get_or all i d) y before (subst (λ x. R x y) (same_here d d in_all) one)))

-- all members have
pub zip_all : {L : Type 0} (R : L → L → Type 0) (all xs : List L) (i : ℕ) → length all ≤ i → length xs ≤ i → AllZip R (take i all) (take i xs) → AllZip R all xs
zip_all R all xs i a b h = subst (λ l. AllZip R l xs) (take_all i all a) (subst (λ l. AllZip R (take i all) l) (take_all i xs b) h)

-- ---- whether a member says yes

-- one member more is asked: f is what the whole says, t what those before said, o what this one says, r what the rest says
pub one_more : (t o r one both f : Bool) → one ≡ o → both ≡ (one || t) → f ≡ (t || (o || r)) → f ≡ (both || r)
one_more true true r one both f a b e = e ∙ ap (λ k. k || r) (sym (b ∙ ap (λ k. k || true) a))
one_more true false r one both f a b e = e ∙ ap (λ k. k || r) (sym (b ∙ ap (λ k. k || true) a))
one_more false true r one both f a b e = e ∙ ap (λ k. k || r) (sym (b ∙ ap (λ k. k || false) a))
one_more false false r one both f a b e = e ∙ ap (λ k. k || r) (sym (b ∙ ap (λ k. k || false) a))

-- none is left
pub none_more : (t f : Bool) → f ≡ (t || false) → t ≡ f
none_more true f e = sym e
none_more false f e = sym e

-- neither of two says yes
pub neither : (a b : Bool) → (a || b) ≡ false → (a ≡ false) × (b ≡ false)
neither true b e = absurd (cc)
neither false b e = (refl, e)
