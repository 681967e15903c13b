-- Words that are not right: which of them is wrong, and why.
use Rattle.std.specs.Prelude.{◌≡◌, ◌≢◌, ◌⊎◌, ℕ, ◌+◌, ◌-◌, ◌<◌, List, [], ◌∷◌, ◌++◌, IsTrue, false, Some, length, take, slice_get}
use Rattle.std.specs.List.{list_any}
use Rattle.span_script.specs.Script.{has_return, is_label, is_return}
use Rattle.span_script.specs.declared.misfit.Misfit.{Misfit}
use Rattle.span_script.specs.declared.reason.Reason.{Reason}
use Rattle.span_script.specs.declared.reason.Reason.TheVariants.{UnknownWord, NotLabel, TooManyWords, TooFewWords, EmptyWord, CarriageReturn}

-- some words are right
abbrev pub HasRight : (List (List ℕ) → Type 0) → Type 0
HasRight IsRight = (words : List (List ℕ)) × IsRight words

-- some right words begin with this one
abbrev pub Begins : (List (List ℕ) → Type 0) → List ℕ → Type 0
Begins IsRight word = HasRight (λ words. IsRight (word ∷ words))

-- some right words begin with it, whichever label it is
abbrev pub TakesLabels : (List (List ℕ) → Type 0) → Type 0
TakesLabels IsRight = (label : List ℕ) → IsTrue (is_label label) → Begins IsRight label

-- what is said of a word that right words don't begin with
abbrev pub Expects : (List (List ℕ) → Type 0) → Reason → Type 0
Expects IsRight NotLabel = TakesLabels IsRight
Expects IsRight UnknownWord = ((word : List ℕ) × Begins IsRight word) × ¬ (TakesLabels IsRight)
Expects IsRight TooManyWords = (word : List ℕ) → ¬ (Begins IsRight word)
Expects IsRight reason = ⊥

-- the first carriage return of a word stands there
abbrev pub IsReturnAt : List ℕ → ℕ → Type 0
IsReturnAt word offset =
    (slice_get word offset ≡ Some 13) × (list_any is_return (take offset word) ≡ false)

-- what is said of a word, and where in it: of a carriage return, that the word is empty, or else
-- this
abbrev pub IsFault : Reason → List ℕ → ℕ → Reason → Type 0
IsFault otherwise word offset reason = ((reason ≡ CarriageReturn) × IsReturnAt word offset)
    ⊎ (((reason ≡ EmptyWord) × (offset ≡ 0) × (length word ≡ 0))
    ⊎ ((reason ≡ otherwise) × (offset ≡ 0) × (0 < length word)
    × (has_return word ≡ false)))

-- that is said of words of which the first is wrong, or one more is needed
abbrev pub IsSaid : Reason → List (List ℕ) → Misfit → Type 0
IsSaid otherwise [] m = (m.left ≡ 0) × (m.offset ≡ 0) × (m.reason ≡ TooFewWords)
IsSaid otherwise (word ∷ words) m =
    (m.left ≡ length (word ∷ words)) × IsFault otherwise word m.offset m.reason

-- that is said of words of which the first is spelled by nothing that is right
abbrev pub IsNoFirst : {X : Type 0} → (X → Type 0) → (X → List ℕ) → Reason → List (List ℕ) → Misfit
    → Type 0
IsNoFirst {X = X} IsRight spelling otherwise words m =
    IsSaid otherwise words m
    × ((x : X) (behind : List (List ℕ)) → IsRight x → words ≢ spelling x ∷ behind)

-- the words are not right, and right ones don't begin with the first of them
abbrev pub IsWrongFirst : (List (List ℕ) → Type 0) → List (List ℕ) → Type 0
IsWrongFirst IsRight [] = ¬ (IsRight [])
IsWrongFirst IsRight (word ∷ words) = ¬ (Begins IsRight word)

-- the words are not right: right ones begin with those before the first wrong one, and none with
-- it too
pub record IsMisfit (IsRight : List (List ℕ) → Type 0) (words : List (List ℕ)) (m : Misfit) : Type
    0 where
  pub before : List (List ℕ)
  pub rest : List (List ℕ)
  pub are : words ≡ before ++ rest
  pub some : HasRight (λ behind. IsRight (before ++ behind))
  pub wrong : IsWrongFirst (λ behind. IsRight (before ++ behind)) rest
  pub otherwise : Reason
  pub expects : Expects (λ behind. IsRight (before ++ behind)) otherwise
  pub said : IsSaid otherwise rest m

-- the column behind words that each have a space behind them
abbrev pub column_after : List (List ℕ) → ℕ
column_after [] = 1
column_after (word ∷ words) = length word + 1 + column_after words

-- the column that it is at, if the words stand between single spaces
abbrev pub column_of : List (List ℕ) → Misfit → ℕ
column_of words m = column_after (take (length words - m.left) words) + m.offset
