-- What is written of a filter is read again.
use Rattle.std.proofs.Common.{◌≡◌, ◌∙◌, ℕ, zero, suc, ◌+◌, ◌≤◌, List, [], ◌∷◌, ◌++◌, Bool, true, false, cond, not, map, Option, Some, None, Ok, length, take}
use Rattle.std.proofs.Common.{drop, refl, ap, arith}
use Rattle.std.proofs.Math.Seq.{take-length}
use Rattle.std.proofs.lemmas.Bool.{and_from, and_parts, cond-false, cond-true, not-true, not_from_false, or_from, or_parts, or_right}
use Rattle.std.proofs.lemmas.List.{take-append-le}
use Rattle.std.proofs.lemmas.List.Folds.{list_any-append}
use Rattle.std.proofs.lemmas.List.Splits.{slice_split_at, slice_split_none}
use Rattle.std.specs.List.{All, after_first, before_first, join_with_byte, list_all, list_any, position_or_len, slice_split}
use Rattle.std.specs.Option.{option_or}
use Rattle.std.specs.Prelude.{◌==◌, codes}
use Rattle.span_core.specs.declared.level.Level.{Level}
use Rattle.span_core.specs.declared.level.LevelFilter.{LevelFilter}
use Rattle.span_core.specs.declared.level.Verbosity.{Verbosity}
use Rattle.span_core.specs.declared.level.Verbosity.TheVariants.{Error, Warn, Info, Debug, Trace}
use Rattle.span_targets.proofs.Edits.{Sorted}
use Rattle.span_targets.proofs.Most.{none_after}
use Rattle.span_targets.proofs.Reading.{comma}
use Rattle.span_targets.proofs.Takes.{named_more, wrong_more}
use Rattle.span_targets.proofs.Texts.{same}
use Rattle.span_targets.specs.Back.{CanBeWritten, IsReadBack, is_plain, or_off}
use Rattle.span_targets.specs.Directive.{directive_text, has_target, level_by, listed, named_in, target_of, word_of}
use Rattle.span_targets.specs.Names.{Names, naming, nothing}
use Rattle.span_targets.specs.Targets.{default_of, default_pieces, directives_of, joined, names_of, pieces_of}
use Rattle.span_targets.specs.Text.{Meaning, alone, assigned, has, level_named, meaning, named_from, reading, sides, unless_wrong, with_meaning, wrong_by}
use Rattle.span_targets.specs.Text.{wrong_from}
use Rattle.span_targets.specs.private.Order.{precedes}
use Rattle.span_targets.specs.declared.directive.Directive.{Directive}
use Rattle.span_targets.specs.declared.parse.TheConstants.{MAX_DIRECTIVES}
use Rattle.span_targets.specs.declared.targets.Targets.{Targets}

-- ---- the words of levels

word_named : (l : LevelFilter) → level_named (word_of l) ≡ Some l
word_named l = by l.0
  where
    named : (v : Verbosity) → level_named (word_of (record { 0 = Some (record { 0 = v }) })) ≡ Some (record { 0 = Some (record { 0 = v }) })
    named Error = refl
    named Warn = refl
    named Info = refl
    named Debug = refl
    named Trace = refl

    by : (o : Option Level) → level_named (word_of (record { 0 = o })) ≡ Some (record { 0 = o })
    by None = refl
    by (Some level) = named level.0

word_lacks : (b : ℕ) → ((v : Verbosity) → has b (word_of (record { 0 = Some (record { 0 = v }) })) ≡ false)
    → has b (codes "off") ≡ false → (l : LevelFilter) → has b (word_of l) ≡ false
word_lacks b each none l = by l.0
  where
    by : (o : Option Level) → has b (word_of (record { 0 = o })) ≡ false
    by None = none
    by (Some level) = each level.0

no_equals : (l : LevelFilter) → has 61 (word_of l) ≡ false
no_equals = word_lacks 61 each refl
  where
    each : (v : Verbosity) → has 61 (word_of (record { 0 = Some (record { 0 = v }) })) ≡ false
    each Error = refl
    each Warn = refl
    each Info = refl
    each Debug = refl
    each Trace = refl

no_comma : (l : LevelFilter) → has 44 (word_of l) ≡ false
no_comma = word_lacks 44 each refl
  where
    each : (v : Verbosity) → has 44 (word_of (record { 0 = Some (record { 0 = v }) })) ≡ false
    each Error = refl
    each Warn = refl
    each Info = refl
    each Debug = refl
    each Trace = refl

-- ---- a text cut at its first `=`

abbrev equals : ℕ → Bool
equals b = b == 61

cut_at : (t w : List ℕ) → has 61 t ≡ false → position_or_len equals (t ++ (61 ∷ w)) ≡ length t
cut_at [] w none = refl
cut_at (b ∷ t) w none =
    let parts = or_parts (b == 61) (has 61 t) none in
    let there : position_or_len equals (t ++ (61 ∷ w)) ≡ length t = cut_at t w parts.1 in
    let more : 1 + position_or_len equals (t ++ (61 ∷ w)) ≡ length (b ∷ t) = omega arith in
    ap (λ c. cond (not c) (1 + position_or_len equals (t ++ (61 ∷ w))) 0) parts.0 ∙ more

cut_before : (t w : List ℕ) → has 61 t ≡ false → before_first equals (t ++ (61 ∷ w)) ≡ t
cut_before t w none =
    ap (λ n. take n (t ++ (61 ∷ w))) (cut_at t w none) ∙ take-append-le (length t) t (61 ∷ w) (omega arith) ∙ take-length t

dropped : (t w : List ℕ) → drop (length t + 1) (t ++ (61 ∷ w)) ≡ w
dropped [] w = refl
dropped (b ∷ t) w =
    let more : length (b ∷ t) + 1 ≡ suc (length t + 1) = omega arith in
    ap (λ n. drop n (b ∷ (t ++ (61 ∷ w)))) more ∙ dropped t w

cut_after : (t w : List ℕ) → has 61 t ≡ false → after_first equals (t ++ (61 ∷ w)) ≡ w
cut_after t w none = ap (λ n. drop (n + 1) (t ++ (61 ∷ w))) (cut_at t w none) ∙ dropped t w

has_one : (t w : List ℕ) → has 61 (t ++ (61 ∷ w)) ≡ true
has_one [] w = refl
has_one (b ∷ t) w = or_right (b == 61) _ (has_one t w)

-- ---- what directives say

directive_says : (d : Directive) → is_plain (target_of d) ≡ true → meaning (directive_text d) ≡ Ok (Some (target_of d), level_by d)
directive_says d plain =
    let t = target_of d in
    let w = word_of (level_by d) in
    let parts = and_parts _ _ plain in
    let more = and_parts _ _ parts.1 in
    let none : has 61 t ≡ false = not-true _ more.0 in
    let bracket : has 91 t ≡ false = not-true _ more.1 in
    cond-true _ _ _ (has_one t w)
    ∙ (λ i. sides (cut_before t w none i) (cut_after t w none i))
    ∙ cond-false _ _ _ (no_equals (level_by d))
    ∙ cond-false _ _ _ bracket
    ∙ ap (assigned t) (word_named (level_by d))

default_says : (l : LevelFilter) → meaning (word_of l) ≡ Ok (None, l)
default_says l = cond-false _ _ _ (no_equals l) ∙ ap (alone (word_of l)) (word_named l)

-- ---- what they name together

-- what directives name over what was named before
abbrev over : List Directive → Names → Names
over ds m (Some u) = option_or (listed ds u) (m (Some u))
over ds m None = m None

abbrev by_default : Option LevelFilter → Names → Names
by_default None m = m
by_default (Some l) m = naming None l m

over_nothing : (m : Names) (o : Option (List ℕ)) → m o ≡ over [] m o
over_nothing m None = refl
over_nothing m (Some u) = refl

either_first : (b : Bool) (l : LevelFilter) (o p : Option LevelFilter)
    → (b ≡ true → o ≡ None) → option_or o (cond b (Some l) p) ≡ option_or (cond b (Some l) o) p
either_first true l o p h = ap (λ x. option_or x (Some l)) (h refl)
either_first false l o p h = refl

over_more : (d : Directive) (ds : List Directive) (m : Names) → list_all (precedes (target_of d)) (map target_of ds) ≡ true → (o : Option (List ℕ))
    → over ds (naming (Some (target_of d)) (level_by d) m) o ≡ over (d ∷ ds) m o
over_more d ds m h None = refl
over_more d ds m h (Some u) =
    either_first (has_target u d) (level_by d) (listed ds u) (m (Some u)) (λ e. none_after (target_of d) u ds h (same (target_of d) u e))

abbrev ArePlain : List Directive → Type 0
ArePlain ds = list_all (λ d. is_plain (target_of d)) ds ≡ true

next : (n : ℕ) (p : List ℕ) (ps : List (List ℕ)) (m : Names) (d : Meaning)
    → n ≤ MAX_DIRECTIVES → meaning p ≡ Ok d → named_from n (p ∷ ps) m ≡ named_from (n + 1) ps (naming d.0 d.1 m)
next n p ps m d l e = named_more n p ps m l ∙ ap (λ r. named_from (n + 1) ps (with_meaning r m)) e

right : (n : ℕ) (p : List ℕ) (ps : List (List ℕ)) (d : Meaning)
    → n ≤ MAX_DIRECTIVES → meaning p ≡ Ok d → wrong_from (n + 1) ps ≡ [] → wrong_from n (p ∷ ps) ≡ []
right n p ps d l e rest = wrong_more n p ps l ∙ ap (λ r. wrong_by n r ++ wrong_from (n + 1) ps) e ∙ rest

abbrev pieces : List Directive → Option LevelFilter → List (List ℕ)
pieces ds l = map directive_text ds ++ default_pieces l

named_pieces : (n : ℕ) (ds : List Directive) (l : Option LevelFilter) (m : Names) → ArePlain ds → Sorted ds → length (pieces ds l) + n ≤ MAX_DIRECTIVES + 1
    → named_from n (pieces ds l) m ≡ by_default l (over ds m)
named_pieces n [] None m plain h few = λ i o. over_nothing m o i
named_pieces n [] (Some l) m plain h few =
    next n (word_of l) [] m (None, l) (omega (arith, few)) (default_says l) ∙ (λ i. naming None l (λ o. over_nothing m o i))
named_pieces n (d ∷ ds) l m plain h few =
    let p = and_parts _ _ plain in
    let w = and_parts _ _ h in
    next n (directive_text d) (pieces ds l) m (Some (target_of d), level_by d) (omega (arith, few)) (directive_says d p.0)
    ∙ named_pieces (n + 1) ds l (naming (Some (target_of d)) (level_by d) m) p.1 w.1 (omega (arith, few))
    ∙ (λ i. by_default l (λ o. over_more d ds m w.0 o i))

no_wrong : (n : ℕ) (ds : List Directive) (l : Option LevelFilter)
    → ArePlain ds → length (pieces ds l) + n ≤ MAX_DIRECTIVES + 1 → wrong_from n (pieces ds l) ≡ []
no_wrong n [] None plain few = refl
no_wrong n [] (Some l) plain few = right n (word_of l) [] (None, l) (omega (arith, few)) (default_says l) refl
no_wrong n (d ∷ ds) l plain few =
    let p = and_parts _ _ plain in
    right n (directive_text d) (pieces ds l) (Some (target_of d), level_by d) (omega (arith, few)) (directive_says d p.0)
    (no_wrong (n + 1) ds l p.1 (omega (arith, few)))

or_nothing : (o : Option LevelFilter) → option_or o None ≡ o
or_nothing None = refl
or_nothing (Some l) = refl

all_named : (ds : List Directive) (l : Option LevelFilter) (o : Option (List ℕ)) → by_default l (over ds nothing) o ≡ named_in ds l o
all_named ds None None = refl
all_named ds None (Some u) = or_nothing (listed ds u)
all_named ds (Some l) None = refl
all_named ds (Some l) (Some u) = or_nothing (listed ds u)

-- ---- no comma stands in them

abbrev HaveNoComma : List (List ℕ) → Type 0
HaveNoComma ps = list_all (λ p. not (has 44 p)) ps ≡ true

lacks_each : (p : ℕ → Bool) (s : List ℕ) → list_any p s ≡ false → All (λ b. p b ≡ false) s
lacks_each p [] e k d l = absurd (omega arith)
lacks_each p (b ∷ s) e zero d l = (or_parts (p b) (list_any p s) e).0
lacks_each p (b ∷ s) e (suc k) d l = lacks_each p s (or_parts (p b) (list_any p s) e).1 k d (omega arith)

pieces_clean : (ds : List Directive) (l : Option LevelFilter) → ArePlain ds → HaveNoComma (map directive_text ds ++ default_pieces l)
pieces_clean [] None plain = refl
pieces_clean [] (Some l) plain = and_from _ _ (not_from_false _ (no_comma l)) refl
pieces_clean (d ∷ ds) l plain =
    let p = and_parts _ _ plain in
    let clean : has 44 (target_of d) ≡ false = not-true _ (and_parts _ _ p.0).0 in
    let whole : has 44 (directive_text d) ≡ false =
    list_any-append comma (target_of d) (61 ∷ word_of (level_by d)) ∙ or_from _ _ clean (no_comma (level_by d)) in
    and_from _ _ (not_from_false _ whole) (pieces_clean ds l p.1)

cut_again : (p : List ℕ) (ps : List (List ℕ)) → HaveNoComma (p ∷ ps) → slice_split comma (join_with_byte 44 (p ∷ ps)) ≡ p ∷ ps
cut_again p [] h = slice_split_none comma p (lacks_each comma p (not-true _ (and_parts _ _ h).0))
cut_again p (q ∷ ps) h =
    let w = and_parts _ _ h in
    slice_split_at comma p 44 (join_with_byte 44 (q ∷ ps)) (lacks_each comma p (not-true _ w.0)) refl
    ∙ ap (λ rest. p ∷ rest) (cut_again q ps w.1)

read_joined : (ps : List (List ℕ)) (m : Names) → HaveNoComma ps → wrong_from 1 ps ≡ [] → named_from 1 ps nothing ≡ m → reading (joined ps) ≡ Ok (or_off ps m)
read_joined [] m h w e = refl
read_joined (p ∷ ps) m h w e =
    (λ i. unless_wrong (wrong_from 1 (cut_again p ps h i)) (named_from 1 (cut_again p ps h i) nothing)) ∙ (λ i. unless_wrong (w i) (e i))

pub read_back : (f : Targets) → CanBeWritten f → IsReadBack f
read_back f can =
    let ds = directives_of f in
    let l = default_of f in
    let few : length (pieces ds l) + 1 ≤ MAX_DIRECTIVES + 1 = omega (arith, can.few) in
    read_joined (pieces_of f) (names_of f) (pieces_clean ds l can.plain) (no_wrong 1 ds l can.plain few)
    (named_pieces 1 ds l nothing can.plain f.ordered few ∙ (λ i o. all_named ds l o i))
