-- What a filter is written as, directive by directive.
use Rattle.std.proofs.Common.{◌≡◌, ◌∙◌, ℕ, zero, suc, ◌+◌, ◌<◌, List, [], ◌∷◌, ◌++◌, true, false, map, Option, Some, None, length, take, get_or, refl, sym, ap}
use Rattle.std.proofs.Common.{arith, add-one, append_assoc, append-nil}
use Rattle.std.proofs.lemmas.Bool.{both_ways}
use Rattle.std.specs.List.{join_with_byte}
use Rattle.std.specs.Prelude.{◌==◌}
use Rattle.span_core.specs.declared.level.LevelFilter.{LevelFilter}
use Rattle.span_targets.specs.Directive.{directive_text, word_of}
use Rattle.span_targets.specs.Targets.{default_pieces, joined}
use Rattle.span_targets.specs.declared.directive.Directive.{Directive}

abbrev pub comma_text : List ℕ
comma_text = 44 ∷ []

-- what stands between what was written and what follows, if this stood before
abbrev pub after : List ℕ → List Directive → List ℕ
after b [] = b
after b (d ∷ ds) = comma_text

-- directives, the first behind this text, the others behind commas
abbrev pub run : List ℕ → List Directive → List ℕ
run b [] = []
run b (d ∷ ds) = b ++ (directive_text d ++ run comma_text ds)

comma_after : (ds : List Directive) → after comma_text ds ≡ comma_text
comma_after [] = refl
comma_after (d ∷ ds) = refl

pub after_more : (b : List ℕ) (ds : List Directive) (n : ℕ) → n < length ds → after b (take (n + 1) ds) ≡ comma_text
after_more b ds n l = ap (λ k. after b (take k ds)) (add-one n) ∙ by ds l
  where
    by : (es : List Directive) → n < length es → after b (take (suc n) es) ≡ comma_text
    by [] l = absurd (omega arith)
    by (e ∷ es) l = refl

-- a text of three parts, cut at either place
thrice : (a b c d : List ℕ) → (a ++ (b ++ c)) ++ d ≡ a ++ (b ++ (c ++ d))
thrice a b c d = append_assoc a (b ++ c) d ∙ ap (λ s. a ++ s) (append_assoc b c d)

run_suc : (b : List ℕ) (ds : List Directive) (n : ℕ) (x : Directive) → n < length ds
    → run b (take (suc n) ds) ≡ run b (take n ds) ++ (after b (take n ds) ++ directive_text (get_or ds n x))
run_suc b [] n x l = absurd (omega arith)
run_suc b (d ∷ ds) zero x l = ap (λ s. b ++ s) (append-nil (directive_text d))
run_suc b (d ∷ ds) (suc n) x l =
    let t = directive_text d in
    let u = directive_text (get_or ds n x) in
    let r = run comma_text (take n ds) in
    ap (λ s. b ++ (t ++ s)) (run_suc comma_text ds n x (omega arith))
    ∙ ap (λ s. b ++ (t ++ (r ++ (s ++ u)))) (comma_after (take n ds))
    ∙ sym (thrice b t r (comma_text ++ u))

pub run_more : (b : List ℕ) (ds : List Directive) (n : ℕ) (x : Directive) → n < length ds
    → run b (take n ds) ++ (after b (take n ds) ++ directive_text (get_or ds n x)) ≡ run b (take (n + 1) ds)
run_more b ds n x l = sym (ap (λ k. run b (take k ds)) (add-one n) ∙ run_suc b ds n x l)

join_last : (t : List ℕ) (ds : List Directive) (w : List ℕ)
    → join_with_byte 44 (t ∷ (map directive_text ds ++ (w ∷ []))) ≡ t ++ (44 ∷ join_with_byte 44 (map directive_text ds ++ (w ∷ [])))
join_last t [] w = refl
join_last t (d ∷ ds) w = refl

run_last : (b : List ℕ) (ds : List Directive) (w : List ℕ) → run b ds ++ (after b ds ++ w) ≡ b ++ join_with_byte 44 (map directive_text ds ++ (w ∷ []))
run_last b [] w = refl
run_last b (d ∷ ds) w =
    let t = directive_text d in
    let r = run comma_text ds in
    thrice b t r (comma_text ++ w)
    ∙ ap (λ s. b ++ (t ++ (r ++ (s ++ w)))) (sym (comma_after ds))
    ∙ ap (λ s. b ++ (t ++ s)) (run_last comma_text ds w)
    ∙ ap (λ s. b ++ s) (sym (join_last t ds w))

run_all : (b : List ℕ) (d : Directive) (ds : List Directive) → run b (d ∷ ds) ≡ b ++ join_with_byte 44 (map directive_text (d ∷ ds))
run_all b d [] = ap (λ s. b ++ s) (append-nil (directive_text d))
run_all b d (e ∷ ds) = ap (λ s. b ++ (directive_text d ++ s)) (run_all comma_text e ds)

joined_last : (ds : List Directive) (w : List ℕ) → join_with_byte 44 (map directive_text ds ++ (w ∷ [])) ≡ joined (map directive_text ds ++ (w ∷ []))
joined_last [] w = refl
joined_last (d ∷ ds) w = refl

pub written_last : (ds : List Directive) (o : Option LevelFilter) (l : LevelFilter)
    → o ≡ Some l → run [] ds ++ (after [] ds ++ word_of l) ≡ joined (map directive_text ds ++ default_pieces o)
written_last ds o l e =
    run_last [] ds (word_of l) ∙ joined_last ds (word_of l) ∙ ap (λ p. joined (map directive_text ds ++ default_pieces p)) (sym e)

-- where something was written, a comma would follow
pub written_all : (ds : List Directive) (o : Option LevelFilter) (b : List ℕ)
    → o ≡ None → b ≡ after [] ds → false ≡ (length b == 0) → run [] ds ≡ joined (map directive_text ds ++ default_pieces o)
written_all [] o b e is some =
    let none : (length b == 0) ≡ true = ap (λ (s : List ℕ). length s == 0) is in
    absurd (both_ways _ (sym some) none)
written_all (d ∷ ds) o b e is some =
    run_all [] d ds
    ∙ ap (λ ps. join_with_byte 44 (directive_text d ∷ ps)) (sym (append-nil (map directive_text ds)))
    ∙ ap (λ p. joined (map directive_text (d ∷ ds) ++ default_pieces p)) (sym e)
