-- The columns that words begin at.
use Rattle.std.proofs.Common.{◌≡◌, ℕ, suc, zero, ◌+◌, ◌-◌, ◌<◌, ◌≤◌, ◌∙◌, List, [], ◌∷◌, ◌++◌, length, get_or, take, Some, refl, sym, ap, subst, add-one, arith}
use Rattle.std.proofs.Common.{inl, inr}
use Rattle.std.specs.Borrow.{Bor}
use Rattle.std.specs.Prelude.{Bool, true, false, cond, slice_get, ◌==◌}
use Rattle.std.specs.List.{onto_first}
use Rattle.std.proofs.lemmas.List.{length-append, length-map, take-map}
use Rattle.std.proofs.lemmas.List.Splits.{length-slice_split}
use Rattle.span_script.specs.Misfit.{column_after, column_of, IsFault, IsMisfit, IsSaid}
use Rattle.span_script.specs.Script.{cut, texts_in}
use Rattle.span_script.specs.declared.misfit.Misfit.{Misfit}
use Rattle.span_script.specs.declared.reason.Reason.{Reason}
use Rattle.span_script.proofs.Misfits.{Rule}

-- columns are counted from 1
pub column-positive : (words : List (List ℕ)) → 1 ≤ column_after words
column-positive [] = omega arith
column-positive (word ∷ words) = let rest = column-positive words in omega arith

-- one word more
column-suc : (xs : List (Bor (List ℕ))) (k : ℕ) (d : Bor (List ℕ)) → k < length xs
    → column_after (texts_in (take (suc k) xs)) ≡ column_after (texts_in (take k xs)) + (length (get_or xs k d).now + 1)
column-suc [] k d h = absurd (omega arith)
column-suc (x ∷ xs) zero d h = omega arith
column-suc (x ∷ xs) (suc k) d h = let rest = column-suc xs k d (omega arith) in omega arith

pub column-step : (xs : List (Bor (List ℕ))) (k : ℕ) (d : Bor (List ℕ)) → k < length xs
    → column_after (texts_in (take (k + 1) xs)) ≡ column_after (texts_in (take k xs)) + (length (get_or xs k d).now + 1)
column-step xs k d h = rw add-one (column-suc xs k d h)

-- words begin within their line
pub column-within : (xs : List (Bor (List ℕ))) (k : ℕ) → column_after (texts_in (take k xs)) ≤ column_after (texts_in xs)
column-within [] zero = omega arith
column-within [] (suc k) = omega arith
column-within (x ∷ xs) zero = let rest = column-positive (texts_in xs) in omega arith
column-within (x ∷ xs) (suc k) = let rest = column-within xs k in omega arith

-- texts are as many as the borrows of them
pub column-same : (xs : List (Bor (List ℕ))) (m : Misfit) → column_after (texts_in (take (length xs - m.left) xs)) + m.offset ≡ column_of (texts_in xs) m
column-same xs m = ap (λ ws. column_after ws + m.offset)
    (sym (take-map (λ t. t.now) (length xs - m.left) xs) ∙ ap (λ n. take (n - m.left) (texts_in xs)) (sym (length-map xs (λ t. t.now))))

column-onto : (x : ℕ) (parts : List (List ℕ)) → 0 < length parts → column_after (onto_first x parts) ≡ column_after parts + 1
column-onto x [] h = absurd (omega arith)
column-onto x (part ∷ parts) h = omega arith

-- a line ends a column before the word that would be its next
pub column-cut : (text : List ℕ) → column_after (cut 32 text) ≡ length text + 2
column-cut [] = refl
column-cut (x ∷ text) = go (x == 32) (column-cut text)
  where
    go : (b : Bool)
        → column_after (cut 32 text) ≡ length text + 2 → column_after (cond b ([] ∷ cut 32 text) (onto_first x (cut 32 text))) ≡ suc (length text) + 2
    go true rest = omega arith
    go false rest =
        let some = length-slice_split (λ b. b == 32) text in
        let onto = column-onto x (cut 32 text) (omega (arith, some)) in
        omega (arith, onto, rest)

-- Below: what is wrong stands within its line.

take-self : {X : Type 0} (xs ys : List X) → take (length xs) (xs ++ ys) ≡ xs
take-self [] ys = refl
take-self (x ∷ xs) ys = ap (λ zs. x ∷ zs) (take-self xs ys)

index-within : (word : List ℕ) (k c : ℕ) → slice_get word k ≡ Some c → k ≤ length word
index-within [] k c e = cc
index-within (x ∷ word) zero c e = omega arith
index-within (x ∷ word) (suc k) c e = let rest = index-within word k c e in omega arith

fault-within : (otherwise : Reason) (word : List ℕ) (offset : ℕ) (reason : Reason) → IsFault otherwise word offset reason → offset ≤ length word
fault-within otherwise word offset reason (inl h) = index-within word offset 13 h.1.0
fault-within otherwise word offset reason (inr (inl h)) = let none = h.1 in omega arith
fault-within otherwise word offset reason (inr (inr h)) = let none = h.1 in omega arith

said-left : (otherwise : Reason) (rest : List (List ℕ)) (m : Misfit) → IsSaid otherwise rest m → m.left ≡ length rest
said-left otherwise [] m h = h.0
said-left otherwise (word ∷ rest) m h = h.0

said-within : (otherwise : Reason) (rest : List (List ℕ)) (m : Misfit) → IsSaid otherwise rest m → 1 + m.offset ≤ column_after rest
said-within otherwise [] m h = let none = h.1 in omega arith
said-within otherwise (word ∷ rest) m h = let within = fault-within otherwise word m.offset m.reason h.1 in omega arith

column-append : (before rest : List (List ℕ)) (k : ℕ) → 1 + k ≤ column_after rest → column_after before + k ≤ column_after (before ++ rest)
column-append [] rest k h = omega arith
column-append (word ∷ before) rest k h = let more = column-append before rest k h in omega arith

front : (before rest : List (List ℕ)) (n : ℕ) → n ≡ length rest → take (length (before ++ rest) - n) (before ++ rest) ≡ before
front before rest n e =
    let all = length-append before rest in
    let some : length (before ++ rest) - n ≡ length before = omega (arith, all, e) in
    ap (λ k. take k (before ++ rest)) some ∙ take-self before rest

pub misfit-left : (P : Rule) (words : List (List ℕ)) (m : Misfit) → IsMisfit P words m → m.left ≤ length words
misfit-left P words m h =
    let left = said-left h.otherwise h.rest m h.said in
    let all = length-append h.before h.rest in
    let same : length words ≡ length (h.before ++ h.rest) = ap (λ ws. length ws) h.are in
    omega (arith, left, all, same)

pub misfit-within : (P : Rule) (words : List (List ℕ)) (m : Misfit) → IsMisfit P words m → column_of words m ≤ column_after words
misfit-within P words m h = subst (λ ws. column_of ws m ≤ column_after ws) (sym h.are)
    (subst (λ ws. column_after ws + m.offset ≤ column_after (h.before ++ h.rest)) (sym (front h.before h.rest m.left (said-left h.otherwise h.rest m h.said)))
    (column-append h.before h.rest m.offset (said-within h.otherwise h.rest m h.said)))

-- where the words of a text are wrong, by any borrow of them
pub misfit-in : (P : Rule) (xs ys items : List (Bor (List ℕ))) (text : List ℕ) (m : Misfit)
    → IsMisfit P (texts_in xs) m → xs ≡ items → ys ≡ items → texts_in items ≡ cut 32 text
    → (m.left ≤ length ys) × (column_of (texts_in ys) m ≤ length text + 2) × IsMisfit P (texts_in ys) m × (texts_in ys ≡ cut 32 text)
misfit-in P xs ys items text m h x y cuts =
    let here : IsMisfit P (texts_in ys) m = subst (λ zs. IsMisfit P (texts_in zs) m) (x ∙ sym y) h in
    let all : texts_in ys ≡ cut 32 text = ap (λ zs. texts_in zs) y ∙ cuts in
    let left = misfit-left P (texts_in ys) m here in
    let same : length (texts_in ys) ≡ length ys = length-map ys (λ t. t.now) in
    let within = misfit-within P (texts_in ys) m here in
    let end : column_after (texts_in ys) ≡ length text + 2 = ap (λ ws. column_after ws) all ∙ column-cut text in
    (omega (arith, left, same), omega (arith, within, end), here, all)
