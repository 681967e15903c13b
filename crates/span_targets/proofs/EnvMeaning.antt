-- What directives of targets and spans mean, and how a filter takes them one by one.
use Rattle.std.proofs.Common.{◌≡◌, ◌∙◌, ℕ, ◌+◌, ◌<◌, ◌≤◌, List, [], ◌∷◌, ◌++◌, Result, Ok, Err, ap, false, length, true, map, refl, sym, arith}
use Rattle.std.proofs.lemmas.Bool.{cond-false, cond-true}
use Rattle.std.specs.List.{after_first, before_first, position_or_len}
use Rattle.std.specs.Prelude.{◌==◌, nat_lt}
use Rattle.span_targets.proofs.Reading.{none_there, one_there, some_directive}
use Rattle.span_targets.proofs.Takes.{behind, within}
use Rattle.span_targets.specs.EnvFilter.{AddsSpan, spans_of}
use Rattle.span_targets.specs.EnvText.{EnvNames, EnvReads, OfSpans, env_from, env_meaning, has_mark, level_behind, meaning_of, of_spans, of_targets, said_of}
use Rattle.span_targets.specs.EnvText.{span_meaning, unless_fault, with_said, within_spans}
use Rattle.span_targets.specs.Targets.{names_of}
use Rattle.span_targets.specs.Text.{directives_in, has, meaning}
use Rattle.span_targets.specs.private.EnvTake.{EnvGives, EnvTakes, span_read}
use Rattle.span_targets.specs.declared.env_filter.EnvFilter.{EnvFilter}
use Rattle.span_targets.specs.declared.env_parse.SaidOfSpans.{SaidOfSpans}
use Rattle.span_targets.specs.declared.error.Fault.TheVariants.{Span, TooMany}
use Rattle.span_targets.specs.declared.error.ParseError.TheVariants.{OutOfMemory, Wrong}
use Rattle.span_targets.specs.declared.error.ParseError.{ParseError}
use Rattle.span_targets.specs.declared.error.WrongDirective.{WrongDirective}
use Rattle.span_targets.specs.declared.parse.TheConstants.{MAX_DIRECTIVES}
use Rattle.span_targets.specs.declared.span_directive.SpanDirective.{SpanDirective}

-- ---- what a directive means

-- behind a target with a mark it is wrong
pub span_misplaced : (t s : List ℕ) → has_mark t ≡ true → span_meaning t s ≡ Err Span
span_misplaced t s m = cond-true _ _ _ m

-- without a `]` it is wrong
pub span_absent : (t s : List ℕ) → has_mark t ≡ false → position_or_len (λ b. b == 93) s ≡ length s → span_meaning t s ≡ Err Span
span_absent t s m e = cond-false _ _ _ m ∙ cond-false _ _ _ (none_there (λ b. b == 93) s e)

-- with one it has a name, and levels behind it
pub span_there : (t s name rest : List ℕ) → has_mark t ≡ false → position_or_len (λ b. b == 93) s < length s → name ≡ before_first (λ b. b == 93) s
    → rest ≡ after_first (λ b. b == 93) s → has 123 name ≡ false → span_meaning t s ≡ within_spans t name (level_behind rest)
span_there t s name rest m l e f h =
    cond-false _ _ _ m
    ∙ cond-true _ _ _ (one_there (λ b. b == 93) s l)
    ∙ cond-false _ _ _ (ap (has 123) (sym e) ∙ h)
    ∙ (λ i. within_spans t (sym e i) (level_behind (sym f i)))

-- with a `[` it is for spans
pub either_spans : (s t w : List ℕ) → position_or_len (λ b. b == 91) s < length s → t ≡ before_first (λ b. b == 91) s → w ≡ after_first (λ b. b == 91) s
    → env_meaning s ≡ of_spans (span_meaning t w)
either_spans s t w l e f = cond-true _ _ _ (one_there (λ b. b == 91) s l) ∙ (λ i. of_spans (span_meaning (sym e i) (sym f i)))

-- without one it is for targets
pub either_targets : (s : List ℕ) → position_or_len (λ b. b == 91) s ≡ length s → env_meaning s ≡ of_targets (meaning s)
either_targets s e = cond-false _ _ _ (none_there (λ b. b == 91) s e)

-- ---- a directive for spans is taken

mapped : (ds : List SpanDirective) (d : SpanDirective) → map meaning_of (ds ++ d ∷ []) ≡ map meaning_of ds ++ meaning_of d ∷ []
mapped [] d = refl
mapped (x ∷ ds) d = ap (λ xs. meaning_of x ∷ xs) (mapped ds d)

pub span_added : (f g : EnvFilter) (said : SaidOfSpans) → AddsSpan said.target.now said.name.now said.level f g
    → said_of g ≡ with_said (OfSpans (span_read said)) (said_of f)
span_added f g said a =
    let same : meaning_of a.directive ≡ span_read said = λ i. record { target = a.parts.target i; name = a.parts.name i; level = a.parts.level i } in
    let spans : map meaning_of (spans_of g) ≡ map meaning_of (spans_of f) ++ span_read said ∷ [] =
    ap (map meaning_of) a.spans ∙ mapped (spans_of f) a.directive ∙ ap (λ m. map meaning_of (spans_of f) ++ m ∷ []) same in
    λ i. record { targets = names_of (a.targets i); spans = spans i }

-- ---- directives in a row

one_more : (n : ℕ) (p : List ℕ) (ps : List (List ℕ)) (m : EnvNames) → n ≤ MAX_DIRECTIVES
    → env_from n (p ∷ ps) m ≡ unless_fault n (env_meaning p) (λ d. env_from (n + 1) ps (with_said d m))
one_more n p ps m l = cond-false (nat_lt MAX_DIRECTIVES n) _ _ (within n l)

module _ (n : ℕ) (p : List ℕ) (ps : List (List ℕ)) (s : List ℕ) (f g : EnvFilter) (all : Result EnvNames WrongDirective)
    (l : n ≤ MAX_DIRECTIVES) (parts : directives_in s ≡ p ∷ ps) (inv : env_from n (directives_in s) (said_of f) ≡ all) where
  here : all ≡ unless_fault n (env_meaning p) (λ d. env_from (n + 1) ps (with_said d (said_of f)))
  here = sym inv ∙ ap (λ qs. env_from n qs (said_of f)) parts ∙ one_more n p ps (said_of f) l

  -- the first one is taken, and the others are read on
  pub first_taken : EnvTakes n (env_meaning p) f g (Ok tt) → env_from (n + 1) ps (said_of g) ≡ all
  first_taken h =
      ap (env_from (n + 1) ps) h.2
      ∙ sym (ap (λ q. unless_fault n q (λ d. env_from (n + 1) ps (with_said d (said_of f)))) h.1)
      ∙ sym here

  -- the first one is wrong, or memory was refused
  pub first_wrong : (error : ParseError) → EnvTakes n (env_meaning p) f g (Err error) → EnvGives all g (Err error)
  first_wrong (Wrong w) h =
      here ∙ ap (λ q. unless_fault n q (λ d. env_from (n + 1) ps (with_said d (said_of f)))) h.1 ∙ ap (λ v. Err v) (sym h.2)
  first_wrong OutOfMemory h = tt

-- the last one is taken, or wrong
pub last_taken : (n : ℕ) (s : List ℕ) (f g : EnvFilter) (all : Result EnvNames WrongDirective) → n ≤ MAX_DIRECTIVES → directives_in s ≡ s ∷ []
    → env_from n (directives_in s) (said_of f) ≡ all → (given : Result (Unit {0}) ParseError) → EnvTakes n (env_meaning s) f g given → EnvGives all g given
last_taken n s f g all l parts inv (Ok u) h = sym (first_taken n s [] s f g all l parts inv h)
last_taken n s f g all l parts inv (Err error) h = first_wrong n s [] s f g all l parts inv error h

-- there are more than are read
pub too_many : (n : ℕ) (s : List ℕ) (f : EnvFilter) (all : Result EnvNames WrongDirective) → n ≡ MAX_DIRECTIVES + 1
    → env_from n (directives_in s) (said_of f) ≡ all → all ≡ Err (record { number = MAX_DIRECTIVES + 1; fault = TooMany })
too_many n s f all e inv =
    let some = some_directive s in
    sym inv
    ∙ ap (λ qs. env_from n qs (said_of f)) some.2
    ∙ cond-true (nat_lt MAX_DIRECTIVES n) _ _ (behind n (omega arith))
    ∙ ap (λ k. Err (record { number = k; fault = TooMany })) e

-- what no filter was made of isn't read
pub refused : (r : Result EnvNames WrongDirective) (g : EnvFilter) (error : ParseError) → EnvGives r g (Err error) → EnvReads r (Err error)
refused r g (Wrong w) h = h
refused r g OutOfMemory h = tt
