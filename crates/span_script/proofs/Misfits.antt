-- Words that are not right, told from what is wrong behind those that they begin with.
use Rattle.std.proofs.Common.{◌≡◌, ◌∙◌, ℕ, ◌<◌, List, [], ◌∷◌, ◌++◌, length, Result, Ok, Err, refl, sym, ap, subst, arith}
use Rattle.std.specs.Prelude.{IfErr, IsErrAnd, IsTrue, codes}
use Rattle.span_script.specs.Misfit.{Begins, Expects, HasRight, IsMisfit, IsNoFirst, IsSaid, IsWrongFirst}
use Rattle.span_script.specs.Script.{is_label, Spells}
use Rattle.span_script.specs.declared.misfit.Misfit.{Misfit}
use Rattle.span_script.specs.declared.reason.Reason.{Reason}
use Rattle.span_script.specs.declared.reason.Reason.TheVariants.{UnknownWord, NotLabel, TooFewWords, TooManyWords}

-- which words are right
abbrev pub Rule : Type 1
Rule = List (List ℕ) → Type 0

-- the same words are right by both
abbrev pub IsSame : Rule → Rule → Type 0
IsSame P Q = (words : List (List ℕ)) → (P words → Q words) × (Q words → P words)

begins-to : (P Q : Rule) → IsSame P Q → (word : List ℕ) → Begins P word → Begins Q word
begins-to P Q same word b = (b.0, (same (word ∷ b.0)).0 b.1)

begins-from : (P Q : Rule) → IsSame P Q → (word : List ℕ) → Begins Q word → Begins P word
begins-from P Q same word b = (b.0, (same (word ∷ b.0)).1 b.1)

expects-to : (P Q : Rule) → IsSame P Q → (reason : Reason) → Expects P reason → Expects Q reason
expects-to P Q same NotLabel h = λ label is. begins-to P Q same label (h label is)
expects-to P Q same UnknownWord h =
    ((h.0.0, begins-to P Q same h.0.0 h.0.1), λ labels. h.1 (λ label is. begins-from P Q same label (labels label is)))
expects-to P Q same TooManyWords h = λ word b. h word (begins-from P Q same word b)
expects-to P Q same reason h = absurd h

wrong-to : (P Q : Rule) → IsSame P Q → (words : List (List ℕ)) → IsWrongFirst P words → IsWrongFirst Q words
wrong-to P Q same [] h = λ q. h ((same []).1 q)
wrong-to P Q same (word ∷ words) h = λ b. h (begins-from P Q same word b)

-- words are wrong in the same way by both
pub misfit-to : (P Q : Rule) → IsSame P Q → (words : List (List ℕ)) (m : Misfit) → IsMisfit P words m → IsMisfit Q words m
misfit-to P Q same words m h =
    let from : IsSame (λ ws. P (h.before ++ ws)) (λ ws. Q (h.before ++ ws)) = λ ws. same (h.before ++ ws) in
    record {
      before = h.before;
      rest = h.rest;
      are = h.are;
      some = (h.some.0, (from h.some.0).0 h.some.1);
      wrong = wrong-to (λ ws. P (h.before ++ ws)) (λ ws. Q (h.before ++ ws)) from h.rest h.wrong;
      otherwise = h.otherwise;
      expects = expects-to (λ ws. P (h.before ++ ws)) (λ ws. Q (h.before ++ ws)) from h.otherwise h.expects;
      said = h.said;
    }

-- a word more in front
pub misfit-on : (P : Rule) (word : List ℕ) (words : List (List ℕ)) (m : Misfit) → IsMisfit (λ ws. P (word ∷ ws)) words m → IsMisfit P (word ∷ words) m
misfit-on P word words m h = record {
  before = word ∷ h.before;
  rest = h.rest;
  are = ap (λ ws. word ∷ ws) h.are;
  some = h.some;
  wrong = h.wrong;
  otherwise = h.otherwise;
  expects = h.expects;
  said = h.said;
}

-- the first word is the wrong one
pub misfit-first : (P : Rule) (otherwise : Reason) (words : List (List ℕ)) (m : Misfit)
    → HasRight P → IsWrongFirst P words → Expects P otherwise → IsSaid otherwise words m → IsMisfit P words m
misfit-first P otherwise words m some wrong expects said = record {
  before = [];
  rest = words;
  are = refl;
  some = some;
  wrong = wrong;
  otherwise = otherwise;
  expects = expects;
  said = said;
}

-- wrong words are not right
not-right : (P : Rule) (words : List (List ℕ)) → IsWrongFirst P words → ¬ (P words)
not-right P [] wrong = wrong
not-right P (word ∷ words) wrong = λ right. wrong (words, right)

pub misfit-wrong : (P : Rule) (words : List (List ℕ)) (m : Misfit) → IsMisfit P words m → ¬ (P words)
misfit-wrong P words m h = λ right. not-right (λ ws. P (h.before ++ ws)) h.rest h.wrong (subst P h.are right)

-- behind a word that begins right words
pub misfit-behind : (P Q : Rule) (verb word : List ℕ) (all words : List (List ℕ)) (m : Misfit)
    → IsSame P (λ ws. Q (verb ∷ ws)) → all ≡ word ∷ words → word ≡ verb → IsMisfit P words m → IsMisfit Q all m
misfit-behind P Q verb word all words m same are is h =
    subst (λ ws. IsMisfit Q ws m) (sym (are ∙ ap (λ w. w ∷ words) is)) (misfit-on Q verb words m (misfit-to P (λ ws. Q (verb ∷ ws)) same words m h))

pub result-behind : {X : Type 0} (P : Rule) (verb word : List ℕ) (all words : List (List ℕ)) (r : Result X Misfit)
    → all ≡ word ∷ words → word ≡ verb → IfErr r (IsMisfit (λ ws. P (verb ∷ ws)) words) → IfErr r (IsMisfit P all)
result-behind P verb word all words (Ok x) are is h = tt
result-behind P verb word all words (Err m) are is h =
    misfit-behind (λ ws. P (verb ∷ ws)) P verb word all words m (λ ws. (λ p. p, λ p. p)) are is h

-- at a word that begins none
pub misfit-at : (P : Rule) (otherwise : Reason) (word : List ℕ) (all words : List (List ℕ)) (m : Misfit)
    → all ≡ word ∷ words → HasRight P → ¬ (Begins P word) → Expects P otherwise → IsSaid otherwise all m → IsMisfit P all m
misfit-at P otherwise word all words m are some none expects said =
    misfit-first P otherwise all m some (subst (λ ws. IsWrongFirst P ws) (sym are) none) expects said

-- where one is missing
pub misfit-few : (P : Rule) (otherwise : Reason) (all : List (List ℕ)) (m : Misfit)
    → all ≡ [] → HasRight P → ¬ (P []) → Expects P otherwise → IsSaid TooFewWords all m → IsMisfit P all m
misfit-few P otherwise all m are some none expects said =
    subst (λ ws. IsMisfit P ws m) (sym are) (misfit-first P otherwise [] m some none expects (subst (λ ws. IsSaid TooFewWords ws m) are said))

-- an error that is handed on
pub handed : {X : Type 0} (P : Rule) (words : List (List ℕ)) (r : Result X Misfit) (m : Misfit)
    → IsErrAnd r (λ e. e ≡ m) → IsMisfit P words m → IfErr r (IsMisfit P words)
handed P words (Ok x) m is h = tt
handed P words (Err e) m is h = subst (λ n. IsMisfit P words n) (sym is) h

-- Below: a word that is spelled so, and behind it such words.

pub record Then {X : Type 0} (IsX : X → Type 0) (spelling : X → List ℕ) (Q : Rule) (words : List (List ℕ)) : Type 0 where
  pub of : X
  pub rest : List (List ℕ)
  pub is : IsX of
  pub are : words ≡ spelling of ∷ rest
  pub goes : Q rest

abbrev pub then : {X : Type 0} {IsX : X → Type 0} {spelling : X → List ℕ} {Q : Rule} (x : X) (rest : List (List ℕ))
    → IsX x → Q rest → Then IsX spelling Q (spelling x ∷ rest)
then x rest is goes = record { of = x; rest = rest; is = is; are = refl; goes = goes }

-- what is said where no such word is: each label is one, or `a` is none
abbrev pub Wants : (List ℕ → Type 0) → Reason → Type 0
Wants P NotLabel = (label : List ℕ) → IsTrue (is_label label) → P label
Wants P UnknownWord = ¬ (P (codes "a"))
Wants P reason = ⊥

pub record Kind {X : Type 0} (IsX : X → Type 0) (spelling : X → List ℕ) (otherwise : Reason) : Type 0 where
  pub of : X
  pub is : IsX of
  pub wants : Wants (Spells IsX spelling) otherwise

-- no more words
abbrev pub End : Rule
End words = words ≡ []

pub has-end : HasRight End
has-end = ([], refl)

module _ {X : Type 0} (IsX : X → Type 0) (spelling : X → List ℕ) (otherwise : Reason) (Q : Rule) where
  pub has-then : Kind IsX spelling otherwise → HasRight Q → HasRight (Then IsX spelling Q)
  has-then kind some = (spelling kind.of ∷ some.0, then kind.of some.0 kind.is some.1)

  spelled-so : (word : List ℕ) → Begins (Then IsX spelling Q) word → Spells IsX spelling word
  spelled-so word b = let t = b.1 in let e = t.are in (t.of, t.is, cc)

  so-begins : (word : List ℕ) → HasRight Q → Spells IsX spelling word → Begins (Then IsX spelling Q) word
  so-begins word some s = (some.0, record { of = s.0; rest = some.0; is = s.1; are = ap (λ w. w ∷ some.0) s.2; goes = some.1 })

  -- the first word is none that is spelled so
  pub then-first : (words : List (List ℕ)) (m : Misfit)
      → Kind IsX spelling otherwise → HasRight Q → IsNoFirst IsX spelling otherwise words m → IsMisfit (Then IsX spelling Q) words m
  then-first words m kind some none =
      misfit-first (Then IsX spelling Q) otherwise words m (has-then kind some) (wrong words none.1) (expects otherwise kind.wants) none.0
    where
      wrong : (words : List (List ℕ)) → ((x : X) (behind : List (List ℕ)) → IsX x → ¬ (words ≡ spelling x ∷ behind)) → IsWrongFirst (Then IsX spelling Q) words
      wrong [] none = λ t. let e = t.are in cc
      wrong (word ∷ words) none = λ b. let s = spelled-so word b in none s.0 words s.1 (ap (λ w. w ∷ words) s.2)

      expects : (reason : Reason) → Wants (Spells IsX spelling) reason → Expects (Then IsX spelling Q) reason
      expects NotLabel wants = λ label is. so-begins label some (wants label is)
      expects UnknownWord wants = (
        (spelling kind.of, so-begins (spelling kind.of) some (kind.of, kind.is, refl)),
        λ labels. wants (spelled-so (codes "a") (labels (codes "a") refl)),
      )
      expects reason wants = absurd wants

-- it is spelled so, and those behind it are wrong
pub then-on : {X : Type 0} (IsX : X → Type 0) (spelling : X → List ℕ) (Q : Rule) (x : X) (all words : List (List ℕ)) (m : Misfit)
    → all ≡ spelling x ∷ words → IsX x → IsMisfit Q words m → IsMisfit (Then IsX spelling Q) all m
then-on IsX spelling Q x all words m are is h =
    subst (λ ws. IsMisfit (Then IsX spelling Q) ws m) (sym are) (misfit-on (Then IsX spelling Q) (spelling x) words m
    (misfit-to Q (λ ws. Then IsX spelling Q (spelling x ∷ ws))
    (λ ws. (λ q. then x ws is q, λ t. let e = t.are in let same : t.rest ≡ ws = cc in subst Q same t.goes)) words m h))

-- there is a word more
pub end-many : (words : List (List ℕ)) (m : Misfit) → 0 < length words → IsSaid TooManyWords words m → IsMisfit End words m
end-many [] m some said = absurd (omega arith)
end-many (word ∷ words) m some said =
    misfit-first End TooManyWords (word ∷ words) m has-end (λ b. let e = b.1 in cc) (λ w b. let e = b.1 in cc) said
