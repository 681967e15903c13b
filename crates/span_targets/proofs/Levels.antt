-- The levels that a text names are those that `span_core` reads of it.
use Rattle.std.proofs.Common.{◌≡◌, ◌∙◌, ℕ, ◌≤◌, List, [], ◌∷◌, Bool, true, false, cond, ◌&&◌, map, inl, inr, Option, Some, None, Result, Ok, Err, length, drop}
use Rattle.std.proofs.Common.{refl, sym, subst, ap, arith}
use Rattle.std.proofs.lemmas.Bool.{and_from, and_parts, cond-true, eqb-true, lt-ltb, ltb-true}
use Rattle.std.proofs.lemmas.Bool.Decides.{nat_tests}
use Rattle.std.specs.Char.{digit_value, to_ascii_lowercase}
use Rattle.std.specs.List.{list_all}
use Rattle.std.specs.Option.{option_or}
use Rattle.std.specs.Prelude.{◌==◌, bytes_eq, codes, nat_lt}
use Rattle.std.specs.Result.{result_ok}
use Rattle.std.specs.Str.Parse.{AllDigits, IsNumeral, digits_value, without_leading_plus}
use Rattle.span_core.specs.Level.{filter_number}
use Rattle.span_core.specs.LevelText.{IsFilterLevelText, IsFilterText, IsLevelText, IsNumeralOf, Reads}
use Rattle.span_core.specs.declared.level.Level.{Level}
use Rattle.span_core.specs.declared.level.LevelFilter.{LevelFilter}
use Rattle.span_core.specs.declared.level.TheConstants.LevelFilter.{DEBUG, ERROR, INFO, OFF, TRACE, WARN}
use Rattle.span_core.specs.declared.level.Verbosity.TheVariants.{Debug, Error, Info, Trace, Warn}
use Rattle.span_core.specs.declared.level.Verbosity.{Verbosity}
use Rattle.span_targets.proofs.Texts.{same}
use Rattle.span_targets.specs.Text.{NamesLevels, is_numeral, level_called, level_counted, level_named, level_numbered}

-- ---- numerals

all_digits : (s : List ℕ) → list_all (λ b. nat_lt (digit_value b) 10) s ≡ true → AllDigits 10 s
all_digits [] e = tt
all_digits (c ∷ s) e = let w = and_parts _ _ e in (ltb-true _ _ w.0, all_digits s w.1)

each_digit : (s : List ℕ) → AllDigits 10 s → list_all (λ b. nat_lt (digit_value b) 10) s ≡ true
each_digit [] h = refl
each_digit (c ∷ s) h = and_from _ _ (lt-ltb _ _ h.0) (each_digit s h.1)

numeral : (s : List ℕ) → is_numeral s ≡ true → IsNumeral 10 s
numeral [] e = absurd (cc)
numeral (c ∷ s) e = (omega arith, all_digits (c ∷ s) e)

tested_numeral : (s : List ℕ) → IsNumeral 10 s → is_numeral s ≡ true
tested_numeral [] h = absurd (omega (arith, h.0))
tested_numeral (c ∷ s) h = each_digit (c ∷ s) h.1

-- ---- of which levels a choice is

guarded : (b : Bool) (o : Option LevelFilter) (l : LevelFilter) → cond b o None ≡ Some l → (b ≡ true) × (o ≡ Some l)
guarded true o l e = (refl, e)
guarded false o l e = absurd (cc)

some_is : (x l : LevelFilter) → Some x ≡ Some l → x ≡ l
some_is x l e = cc

pick : {P : Type 0} (b : Bool) (x : LevelFilter) (rest : Option LevelFilter) (l : LevelFilter)
    → (b ≡ true → x ≡ l → P) → (rest ≡ Some l → P) → cond b (Some x) rest ≡ Some l → P
pick true x rest l h g e = h refl (some_is x l e)
pick false x rest l h g e = g e

nothing_is : {P : Type 0} (l : LevelFilter) → None ≡ Some l → P
nothing_is l e = absurd (cc)

-- ---- what a text is of, if it names levels

numbered : (n : ℕ) (l : LevelFilter) → level_numbered n ≡ Some l → n ≡ filter_number l
numbered n l =
    pick (n == 0) OFF _ l (λ e i. eqb-true n 0 e ∙ ap filter_number i)
    (pick (n == 1) ERROR _ l (λ e i. eqb-true n 1 e ∙ ap filter_number i)
    (pick (n == 2) WARN _ l (λ e i. eqb-true n 2 e ∙ ap filter_number i)
    (pick (n == 3) INFO _ l (λ e i. eqb-true n 3 e ∙ ap filter_number i)
    (pick (n == 4) DEBUG _ l (λ e i. eqb-true n 4 e ∙ ap filter_number i)
    (pick (n == 5) TRACE None l (λ e i. eqb-true n 5 e ∙ ap filter_number i) (nothing_is l))))))

of_number : (s : List ℕ) (l : LevelFilter) → IsNumeralOf (filter_number l) s → IsFilterText s l
of_number s l = by l.0
  where
    by : (o : Option Level) → IsNumeralOf (filter_number (record { 0 = o })) s → IsFilterText s (record { 0 = o })
    by None h = inl (inl h)
    by (Some level) h = inl (inl h)

no_text : (s : List ℕ) → map to_ascii_lowercase s ≡ [] → s ≡ []
no_text [] e = refl
no_text (c ∷ s) e = absurd (omega (arith, ap length e))

called : (s : List ℕ) (l : LevelFilter) → level_called (map to_ascii_lowercase s) ≡ Some l → IsFilterText s l
called s l =
    let w = map to_ascii_lowercase s in
    pick (bytes_eq w (codes "off")) OFF _ l (λ e i. subst (IsFilterText s) i (inl (inr (same w _ e))))
    (pick (bytes_eq w (codes "error")) ERROR _ l (λ e i. subst (IsFilterText s) i (inl (inr (same w _ e))))
    (pick (bytes_eq w (codes "warn")) WARN _ l (λ e i. subst (IsFilterText s) i (inl (inr (same w _ e))))
    (pick (bytes_eq w (codes "info")) INFO _ l (λ e i. subst (IsFilterText s) i (inl (inr (same w _ e))))
    (pick (bytes_eq w (codes "debug")) DEBUG _ l (λ e i. subst (IsFilterText s) i (inl (inr (same w _ e))))
    (pick (bytes_eq w (codes "trace")) TRACE _ l (λ e i. subst (IsFilterText s) i (inl (inr (same w _ e))))
    (pick (bytes_eq w []) ERROR None l (λ e i. subst (IsFilterText s) i (inr (no_text s (same w [] e), refl))) (nothing_is l)))))))

counted : (s : List ℕ) (l : LevelFilter) → level_counted (without_leading_plus s) ≡ Some l → IsFilterText s l
counted s l e =
    let t = without_leading_plus s in
    let w = guarded (is_numeral t) (level_numbered (digits_value 10 t)) l e in
    of_number s l (numeral t w.0, numbered (digits_value 10 t) l w.1)

either : (s : List ℕ) (l : LevelFilter) (o p : Option LevelFilter)
    → (o ≡ Some l → IsFilterText s l) → (p ≡ Some l → IsFilterText s l) → option_or o p ≡ Some l → IsFilterText s l
either s l None p h g e = g e
either s l (Some x) p h g e = h e

text_if : (s : List ℕ) (l : LevelFilter) → level_named s ≡ Some l → IsFilterText s l
text_if s l = either s l (level_counted (without_leading_plus s)) (level_called (map to_ascii_lowercase s)) (counted s l) (called s l)

-- ---- which levels a text names, if it is of some

number_named : (l : LevelFilter) → level_numbered (filter_number l) ≡ Some l
number_named l = by l.0
  where
    named : (v : Verbosity) → level_numbered (filter_number (record { 0 = Some (record { 0 = v }) })) ≡ Some (record { 0 = Some (record { 0 = v }) })
    named Error = refl
    named Warn = refl
    named Info = refl
    named Debug = refl
    named Trace = refl

    by : (o : Option Level) → level_numbered (filter_number (record { 0 = o })) ≡ Some (record { 0 = o })
    by None = refl
    by (Some level) = named level.0

by_number : (s : List ℕ) (l : LevelFilter) → IsNumeralOf (filter_number l) s → level_named s ≡ Some l
by_number s l h =
    let t = without_leading_plus s in
    let is : level_counted t ≡ Some l = cond-true (is_numeral t) _ _ (tested_numeral t h.0) ∙ ap level_numbered h.1 ∙ number_named l in
    ap (λ o. option_or o (level_called (map to_ascii_lowercase s))) is

low : (c : ℕ) → 97 ≤ to_ascii_lowercase c → 65 ≤ c
low c h = grind (arith, nat_tests)

no_digit : (c : ℕ) → 65 ≤ c → nat_lt (digit_value c) 10 ≡ false
no_digit c h = grind (arith, nat_tests)

no_plus : (c : ℕ) → 65 ≤ c → (c == 43) ≡ false
no_plus c h = grind (arith, nat_tests)

first_is : (a b : ℕ) (s t : List ℕ) → (a ∷ s) ≡ (b ∷ t) → a ≡ b
first_is a b s t e = cc

no_numeral : (s : List ℕ) (b : ℕ) (w : List ℕ) → map to_ascii_lowercase s ≡ b ∷ w → 97 ≤ b → level_counted (without_leading_plus s) ≡ None
no_numeral [] b w e h = absurd (omega (arith, ap length e))
no_numeral (c ∷ s) b w e h =
    let is : to_ascii_lowercase c ≡ b = first_is _ _ _ _ e in
    let letter : 65 ≤ c = low c (omega (arith, is, h)) in
    ap (λ plus. level_counted (drop (cond plus 1 0) (c ∷ s))) (no_plus c letter)
    ∙ ap (λ digit. cond (digit && list_all (λ d. nat_lt (digit_value d) 10) s) (level_numbered (digits_value 10 (c ∷ s))) None) (no_digit c letter)

by_name : (s : List ℕ) (b : ℕ) (w : List ℕ) (l : LevelFilter)
    → map to_ascii_lowercase s ≡ b ∷ w → 97 ≤ b → level_called (b ∷ w) ≡ Some l → level_named s ≡ Some l
by_name s b w l e h is =
    (λ i. option_or (no_numeral s b w e h i) (level_called (e i))) ∙ is

error_is : (l : LevelFilter) → filter_number l ≡ 1 → ERROR ≡ l
error_is l = by l.0
  where
    named : (v : Verbosity) → filter_number (record { 0 = Some (record { 0 = v }) }) ≡ 1 → ERROR ≡ record { 0 = Some (record { 0 = v }) }
    named Error e = refl
    named Warn e = absurd (omega (arith, e))
    named Info e = absurd (omega (arith, e))
    named Debug e = absurd (omega (arith, e))
    named Trace e = absurd (omega (arith, e))

    by : (o : Option Level) → filter_number (record { 0 = o }) ≡ 1 → ERROR ≡ record { 0 = o }
    by None e = absurd (omega (arith, e))
    by (Some level) e = named level.0 e

of_level : (s : List ℕ) (v : Verbosity) → IsLevelText s (record { 0 = v }) → level_named s ≡ Some (record { 0 = Some (record { 0 = v }) })
of_level s v (inl h) = by_number s (record { 0 = Some (record { 0 = v }) }) h
of_level s Error (inr e) = by_name s 101 _ ERROR e (omega arith) refl
of_level s Warn (inr e) = by_name s 119 _ WARN e (omega arith) refl
of_level s Info (inr e) = by_name s 105 _ INFO e (omega arith) refl
of_level s Debug (inr e) = by_name s 100 _ DEBUG e (omega arith) refl
of_level s Trace (inr e) = by_name s 116 _ TRACE e (omega arith) refl

of_filter : (s : List ℕ) (o : Option Level) → IsFilterLevelText s o → level_named s ≡ Some (record { 0 = o })
of_filter s None (inl h) = by_number s OFF h
of_filter s None (inr e) = by_name s 111 _ OFF e (omega arith) refl
of_filter s (Some level) h = of_level s level.0 h

named_if : (s : List ℕ) (l : LevelFilter) → IsFilterText s l → level_named s ≡ Some l
named_if s l (inl h) = of_filter s l.0 h
named_if s l (inr h) = ap level_named h.0 ∙ ap (λ (x : LevelFilter). Some x) (error_is l h.1)

pub names_levels : (s : List ℕ) → NamesLevels s
names_levels s l = (text_if s l, named_if s l)

pub levels_read : {E : Type 0} (s : List ℕ) (r : Result LevelFilter E) → Reads (IsFilterText s) r → result_ok r ≡ level_named s
levels_read s (Ok l) h = sym (named_if s l h)
levels_read s (Err e) h = by (level_named s) refl
  where
    by : (o : Option LevelFilter) → level_named s ≡ o → None ≡ o
    by None e = refl
    by (Some l) e = absurd (h l (text_if s l e))
