-- How a filter takes directives one by one.
use Rattle.std.proofs.Common.{◌≡◌, ◌∙◌, ℕ, zero, suc, ◌+◌, ◌<◌, ◌≤◌, List, [], ◌∷◌, ◌++◌, true, false, Some, Result, Ok, Err, length, take, get_or, refl, sym}
use Rattle.std.proofs.Common.{ap, arith, append_assoc, append-nil, add-one}
use Rattle.std.proofs.lemmas.Bool.{cond-false, cond-true, false_from_ne_true, lt-ltb, ltb-true}
use Rattle.std.specs.Borrow.{Bor}
use Rattle.std.specs.Prelude.{OnErr, nat_lt}
use Rattle.span_core.specs.declared.level.LevelFilter.{LevelFilter}
use Rattle.span_targets.proofs.Reading.{some_directive}
use Rattle.span_targets.specs.Directive.{named_in}
use Rattle.span_targets.specs.Names.{Names, naming, naming_each}
use Rattle.span_targets.specs.Targets.{IsSame, names_of}
use Rattle.span_targets.specs.Text.{Meaning, directives_in, meaning, named_from, with_meaning, wrong_by, wrong_from}
use Rattle.span_targets.specs.private.Take.{Takes}
use Rattle.span_targets.specs.declared.error.Fault.{Fault}
use Rattle.span_targets.specs.declared.error.Fault.TheVariants.{TooMany}
use Rattle.span_targets.specs.declared.error.WrongDirective.{WrongDirective}
use Rattle.span_targets.specs.declared.parse.TheConstants.{MAX_DIRECTIVES}
use Rattle.span_targets.specs.declared.targets.Targets.{Targets}

-- one more target
each_suc : (xs : List (Bor (List ℕ) × LevelFilter)) (n : ℕ) (x : Bor (List ℕ) × LevelFilter) (m : Names) → n < length xs
    → naming_each (take (suc n) xs) m ≡ naming (Some (get_or xs n x).0.now) (get_or xs n x).1 (naming_each (take n xs) m)
each_suc [] n x m l = absurd (omega arith)
each_suc (y ∷ ys) zero x m l = refl
each_suc (y ∷ ys) (suc n) x m l = each_suc ys n x (naming (Some y.0.now) y.1 m) (omega arith)

each_more : (xs : List (Bor (List ℕ) × LevelFilter)) (n : ℕ) (x : Bor (List ℕ) × LevelFilter) (m : Names) → n < length xs
    → naming_each (take (n + 1) xs) m ≡ naming (Some (get_or xs n x).0.now) (get_or xs n x).1 (naming_each (take n xs) m)
each_more xs n x m l = ap (λ k. naming_each (take k xs) m) (add-one n) ∙ each_suc xs n x m l

-- the targets so far, and one more
pub grown : (xs : List (Bor (List ℕ) × LevelFilter)) (n : ℕ) (x : Bor (List ℕ) × LevelFilter) (m k new : Names) → n < length xs
    → new ≡ naming (Some (get_or xs n x).0.now) (get_or xs n x).1 k → k ≡ naming_each (take n xs) m → new ≡ naming_each (take (n + 1) xs) m
grown xs n x m k new l h e = h ∙ ap (naming (Some (get_or xs n x).0.now) (get_or xs n x).1) e ∙ sym (each_more xs n x m l)

pub same_names : (f g : Targets) → IsSame f g → names_of f ≡ names_of g
same_names f g h = λ i. named_in (h.0 i) (h.1 i)

pub on_err : {T E P : Type 0} (r : Result T E) → P → OnErr r P
on_err (Ok x) p = tt
on_err (Err e) p = p

-- ---- a directive that is meant, or wrong

pub meant : (n : ℕ) (r : Result Meaning Fault) (d : Meaning) (f g : Targets) (ws : List WrongDirective)
    → r ≡ Ok d → names_of g ≡ naming d.0 d.1 (names_of f) → Takes n r f ws g ws
meant n r d f g ws e names = record {
  names = names ∙ ap (λ q. with_meaning q (names_of f)) (sym e);
  wrong = sym (append-nil ws) ∙ ap (λ q. ws ++ wrong_by n q) (sym e);
}

pub wrong : (n : ℕ) (r : Result Meaning Fault) (fault : Fault) (f : Targets) (ws vs : List WrongDirective)
    → r ≡ Err fault → vs ≡ ws ++ (record { number = n; fault = fault } ∷ []) → Takes n r f ws f vs
wrong n r fault f ws vs e items = record {
  names = ap (λ q. with_meaning q (names_of f)) (sym e);
  wrong = items ∙ ap (λ q. ws ++ wrong_by n q) (sym e);
}

-- ---- directives in a row

pub within : (n : ℕ) → n ≤ MAX_DIRECTIVES → nat_lt MAX_DIRECTIVES n ≡ false
within n l = false_from_ne_true _ (λ e. omega (arith, ltb-true _ _ e))

pub behind : (n : ℕ) → MAX_DIRECTIVES < n → nat_lt MAX_DIRECTIVES n ≡ true
behind n l = lt-ltb _ _ l

pub named_more : (n : ℕ) (p : List ℕ) (ps : List (List ℕ)) (m : Names)
    → n ≤ MAX_DIRECTIVES → named_from n (p ∷ ps) m ≡ named_from (n + 1) ps (with_meaning (meaning p) m)
named_more n p ps m l = cond-false (nat_lt MAX_DIRECTIVES n) _ _ (within n l)

pub wrong_more : (n : ℕ) (p : List ℕ) (ps : List (List ℕ)) → n ≤ MAX_DIRECTIVES → wrong_from n (p ∷ ps) ≡ wrong_by n (meaning p) ++ wrong_from (n + 1) ps
wrong_more n p ps l = cond-false (nat_lt MAX_DIRECTIVES n) _ _ (within n l)

-- the first of several is taken
pub names_on : (n : ℕ) (s front back : List ℕ) (f g : Targets) (ws vs : List WrongDirective) (all : Names)
    → n ≤ MAX_DIRECTIVES → directives_in s ≡ front ∷ directives_in back → Takes n (meaning front) f ws g vs
    → named_from n (directives_in s) (names_of f) ≡ all → named_from (n + 1) (directives_in back) (names_of g) ≡ all
names_on n s front back f g ws vs all l parts h e =
    ap (named_from (n + 1) (directives_in back)) h.names
    ∙ sym (named_more n front (directives_in back) (names_of f) l)
    ∙ sym (ap (λ ps. named_from n ps (names_of f)) parts)
    ∙ e

pub wrong_on : (n : ℕ) (s front back : List ℕ) (f g : Targets) (ws vs all : List WrongDirective)
    → n ≤ MAX_DIRECTIVES → directives_in s ≡ front ∷ directives_in back → Takes n (meaning front) f ws g vs
    → ws ++ wrong_from n (directives_in s) ≡ all → vs ++ wrong_from (n + 1) (directives_in back) ≡ all
wrong_on n s front back f g ws vs all l parts h e =
    ap (λ us. us ++ wrong_from (n + 1) (directives_in back)) h.wrong
    ∙ append_assoc ws (wrong_by n (meaning front)) (wrong_from (n + 1) (directives_in back))
    ∙ ap (λ us. ws ++ us) (sym (ap (wrong_from n) parts ∙ wrong_more n front (directives_in back) l))
    ∙ e

-- the last one is taken
pub names_last : (n : ℕ) (s : List ℕ) (f g : Targets) (ws vs : List WrongDirective) (all : Names)
    → n ≤ MAX_DIRECTIVES → directives_in s ≡ s ∷ [] → Takes n (meaning s) f ws g vs
    → named_from n (directives_in s) (names_of f) ≡ all → names_of g ≡ all
names_last n s f g ws vs all l parts h e =
    h.names ∙ sym (named_more n s [] (names_of f) l) ∙ sym (ap (λ ps. named_from n ps (names_of f)) parts) ∙ e

pub wrong_last : (n : ℕ) (s : List ℕ) (f g : Targets) (ws vs all : List WrongDirective)
    → n ≤ MAX_DIRECTIVES → directives_in s ≡ s ∷ [] → Takes n (meaning s) f ws g vs
    → ws ++ wrong_from n (directives_in s) ≡ all → vs ≡ all
wrong_last n s f g ws vs all l parts h e =
    h.wrong
    ∙ ap (λ us. ws ++ us) (sym (append-nil (wrong_by n (meaning s))) ∙ sym (ap (wrong_from n) parts ∙ wrong_more n s [] l))
    ∙ e

-- there are more than are read
names_behind : (n : ℕ) (ps : List (List ℕ)) (m : Names) → MAX_DIRECTIVES < n → named_from n ps m ≡ m
names_behind n [] m l = refl
names_behind n (p ∷ ps) m l = cond-true (nat_lt MAX_DIRECTIVES n) _ _ (behind n l)

pub names_end : (n : ℕ) (s : List ℕ) (m all : Names) → MAX_DIRECTIVES < n → named_from n (directives_in s) m ≡ all → m ≡ all
names_end n s m all l e = sym (names_behind n (directives_in s) m l) ∙ e

wrong_behind : (n : ℕ) (s : List ℕ) → MAX_DIRECTIVES < n → wrong_from n (directives_in s) ≡ record { number = n; fault = TooMany } ∷ []
wrong_behind n s l =
    let some = some_directive s in
    ap (wrong_from n) some.2 ∙ cond-true (nat_lt MAX_DIRECTIVES n) _ _ (behind n l)

pub wrong_end : (n : ℕ) (s : List ℕ) (ws vs all : List WrongDirective)
    → n ≡ MAX_DIRECTIVES + 1 → vs ≡ ws ++ (record { number = MAX_DIRECTIVES + 1; fault = TooMany } ∷ [])
    → ws ++ wrong_from n (directives_in s) ≡ all → vs ≡ all
wrong_end n s ws vs all e items h =
    items
    ∙ ap (λ k. ws ++ (record { number = k; fault = TooMany } ∷ [])) (sym e)
    ∙ ap (λ us. ws ++ us) (sym (wrong_behind n s (omega arith)))
    ∙ h
