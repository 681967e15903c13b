-- Fields by their names.
use Rattle.std.proofs.Common.{◌≡◌, ℕ, ◌+◌, ◌<◌, ◌≤◌, Bool, true, false, cond, List, ◌∷◌, All, drop, get_or, length, map, refl, ap, sym, ◌∙◌, add-one, drop-cons}
use Rattle.std.proofs.Common.{arith, Option, None, Some}
use Rattle.std.proofs.lemmas.Slice.Eq.{bytes_eq-Decides}
use Rattle.std.specs.Borrow.{Bor}
use Rattle.std.specs.Char.{to_ascii_lowercase}
use Rattle.httparse.specs.Spans.{IsHeaderWithin, header_bytes}
use Rattle.httparse.specs.declared.spans.HeaderSpan.{HeaderSpan}
use Rattle.httparse.specs.Grammar.{ResponseHead}
use Rattle.httparse.specs.Spans.{name_and_value}
use Rattle.span_sender.specs.Reply.{is_named, number_in, number_named, value_named}
use Rattle.std.specs.Prelude.{is_some, option_and_then, option_copied, option_map}

not_true : (b : Bool) → ¬ (b ≡ true) → b ≡ false
not_true true h = absurd (h refl)
not_true false h = refl

on_true : {X : Type 0} (b : Bool) (x y : X) → b ≡ true → cond b x y ≡ x
on_true b x y h = rw h refl

on_false : {X : Type 0} (b : Bool) (x y : X) → b ≡ false → cond b x y ≡ y
on_false b x y h = rw h refl

-- the field that is looked at, and those behind it
looked_at : (bytes : List ℕ) (fields : List HeaderSpan) (i : ℕ) (d : HeaderSpan) → i < length fields
    → map (header_bytes bytes) (drop i fields)
    ≡ header_bytes bytes (get_or fields i d) ∷ map (header_bytes bytes) (drop (i + 1) fields)
looked_at bytes fields i d h =
    let e : drop i fields ≡ get_or fields i d ∷ drop (i + 1) fields = rw add-one (drop-cons fields i d h) in
    ap (λ (l : List HeaderSpan). map (header_bytes bytes) l) e

-- it has the name
pub found : (bytes name : List ℕ) (fields : List HeaderSpan) (i : ℕ) (d : HeaderSpan) → i < length fields
    → map to_ascii_lowercase (header_bytes bytes (get_or fields i d)).0 ≡ map to_ascii_lowercase name
    → value_named name (map (header_bytes bytes) (drop i fields)) ≡ Some (header_bytes bytes (get_or fields i d)).1
found bytes name fields i d h e =
    let field = header_bytes bytes (get_or fields i d) in
    ap (λ (l : List (List ℕ × List ℕ)). value_named name l) (looked_at bytes fields i d h)
    ∙ ap (λ (o : Option (List ℕ × List ℕ)). option_map (λ f. f.1) o)
    (on_true (is_named name field) (Some field) _ ((bytes_eq-Decides _ _).1 e))

-- it hasn't
pub passed : (bytes name : List ℕ) (fields : List HeaderSpan) (i : ℕ) (d : HeaderSpan) → i < length fields
    → ¬ (map to_ascii_lowercase (header_bytes bytes (get_or fields i d)).0 ≡ map to_ascii_lowercase name)
    → value_named name (map (header_bytes bytes) (drop (i + 1) fields)) ≡ value_named name (map (header_bytes bytes) (drop i fields))
passed bytes name fields i d h e =
    let field = header_bytes bytes (get_or fields i d) in
    sym (ap (λ (l : List (List ℕ × List ℕ)). value_named name l) (looked_at bytes fields i d h)
    ∙ ap (λ (o : Option (List ℕ × List ℕ)). option_map (λ f. f.1) o)
    (on_false (is_named name field) (Some field) _ (not_true _ (λ t. e ((bytes_eq-Decides _ _).0 t)))))

-- what lies in the head lies in all that came
pub within_all : (n m : ℕ) (fields : List HeaderSpan) → n ≤ m → All (IsHeaderWithin n) fields → All (IsHeaderWithin m) fields
within_all n m fields h all = λ k d i.
    let w = all k d i in
    ((w.0.0, omega (arith, w.0.1, h)), (w.1.0, omega (arith, w.1.1, h)))

-- a number that was found in spans is that of the head
pub named : (name bytes : List ℕ) (xs ys : List HeaderSpan) (head : ResponseHead) (r : Option ℕ) → xs ≡ ys
    → map (header_bytes bytes) ys ≡ map name_and_value head.fields
    → r ≡ option_and_then number_in (value_named name (map (header_bytes bytes) xs)) → r ≡ number_named name head
named name bytes xs ys head r e f g =
    g ∙ ap (λ (l : List (List ℕ × List ℕ)). option_and_then number_in (value_named name l))
    (ap (λ (l : List HeaderSpan). map (header_bytes bytes) l) e ∙ f)

some_copied : (o : Option (Bor (List ℕ))) → is_some o ≡ is_some (option_copied o)
some_copied None = refl
some_copied (Some x) = refl

-- so is whether a field is there
pub there : (name bytes : List ℕ) (xs ys : List HeaderSpan) (head : ResponseHead) (o : Option (Bor (List ℕ))) → xs ≡ ys
    → map (header_bytes bytes) ys ≡ map name_and_value head.fields
    → option_copied o ≡ value_named name (map (header_bytes bytes) xs)
    → is_some o ≡ is_some (value_named name (map name_and_value head.fields))
there name bytes xs ys head o e f g =
    some_copied o
    ∙ ap (λ (x : Option (List ℕ)). is_some x) (g ∙ ap (λ (l : List (List ℕ × List ℕ)). value_named name l)
    (ap (λ (l : List HeaderSpan). map (header_bytes bytes) l) e ∙ f))
