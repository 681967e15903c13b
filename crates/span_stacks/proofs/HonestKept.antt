-- A stack that keeps what it has of its form keeps its interest and its hint. Metadata that show the same are of the same interest.
use Rattle.std.proofs.Common.{◌≡◌, ℕ, Bool, ◌||◌, Option, Some, None, if◌then◌else◌, refl, sym, subst}
use Rattle.span_core.specs.Level.{wider_hint}
use Rattle.span_core.specs.Metadata.{ShowSame}
use Rattle.span_core.specs.declared.interest.Interest.TheVariants.{Always}
use Rattle.span_core.specs.declared.interest.Interest.{Interest}
use Rattle.span_core.specs.declared.metadata.Metadata.{Metadata}
use Rattle.span_core.specs.Interest.{sum_with}
use Rattle.span_stacks.specs.Honest.{HasHonestAnswers}
use Rattle.span_registry.specs.Behaviour.{Behaviour, AreHonest, SameInterestAndHint}
use Rattle.span_registry.specs.KeptForm.{AnswersKeep, KeepsForm}
use Rattle.span_registry.specs.Form.{Absent, Terminal, Base, End, Filtered, Form, InList, InPair, Arrangement, Leaf, OnSubscriber, Parts, TerminalKind}
use Rattle.span_registry.specs.Form.{both_marked, is_absent, is_base, is_end, is_marked}
use Rattle.span_registry.specs.Question.{hint_by, hint_of, interest_of, is_calm, is_never, joint_interest}

-- what a form keeps, part by part
data Kept : Form → Form → Type 0 where
  KeptLeaf : {still : Bool} {a b : Behaviour} → AnswersKeep a b → Kept (Leaf still a) (Leaf still b)
  KeptFiltered : {n : Option ℕ} {a b : Behaviour} {f g : Form}
      → SameInterestAndHint a b → (AreHonest a → AreHonest b) → Kept f g → Kept (Filtered n a f) (Filtered n b g)
  KeptOver : {k : Arrangement} {o p i j : Form} → Kept o p → Kept i j → Kept (Parts k o i) (Parts k p j)
  KeptBare : {v : TerminalKind} → Kept (Terminal v) (Terminal v)

kept : (f g : Form) → KeepsForm f g → Kept f g
kept (Leaf still a) (Leaf quiet b) h = subst (λ z. Kept (Leaf still a) (Leaf z b)) (sym h.0) (KeptLeaf h.1)
kept (Filtered n a f) (Filtered m b g) h = subst (λ z. Kept (Filtered n a f) (Filtered z b g)) (sym h.0) (KeptFiltered h.1 h.2 (kept f g h.3))
kept (Parts k o i) (Parts l p j) h = subst (λ z. Kept (Parts k o i) (Parts z p j)) (sym h.0) (KeptOver (kept o p h.1) (kept i j h.2))
kept (Terminal v) (Terminal w) h = subst (λ z. Kept (Terminal v) (Terminal z)) (sym h) KeptBare
kept other rest h = absurd h

end_kept : {f g : Form} → Kept f g → is_end g ≡ is_end f
end_kept (KeptLeaf k) = refl
end_kept (KeptFiltered same own k) = refl
end_kept (KeptOver k l) = refl
end_kept KeptBare = refl

-- ---- interest and hint

marked_kept : {f g : Form} → Kept f g → is_marked g ≡ is_marked f
marked_kept (KeptOver {k = joint} k l) = λ i. both_marked joint (marked_kept k i) (end_kept l i) (marked_kept l i)
marked_kept other = refl

absent_kept : {f g : Form} → Kept f g → is_absent g ≡ is_absent f
absent_kept (KeptFiltered same own k) = absent_kept k
absent_kept (KeptOver k l) = λ i. absent_kept k i || absent_kept l i
absent_kept other = refl

base_kept : {f g : Form} → Kept f g → is_base g ≡ is_base f
base_kept (KeptLeaf k) = refl
base_kept (KeptFiltered same own k) = refl
base_kept (KeptOver k l) = refl
base_kept KeptBare = refl

hints_kept : {f g : Form} → Kept f g → hint_of g ≡ hint_of f
hints_kept (KeptLeaf k) = k.same.hint
hints_kept (KeptFiltered same own k) = same.hint
hints_kept (KeptOver {k = OnSubscriber} k l) = λ i.
    if base_kept l i then hints_kept k i else hint_by (marked_kept k i) (marked_kept l i) (absent_kept k i) (absent_kept l i) (hints_kept k i) (hints_kept l i)
hints_kept (KeptOver {k = InPair} k l) = λ i. hint_by (marked_kept k i) (marked_kept l i) (absent_kept k i) (absent_kept l i) (hints_kept k i) (hints_kept l i)
hints_kept (KeptOver {k = InList} k l) = λ i. wider_hint (hints_kept k i) (hints_kept l i)
hints_kept KeptBare = refl

calm_kept : (joint : Arrangement) {f g : Form} → Kept f g → is_calm joint g ≡ is_calm joint f
calm_kept OnSubscriber k = λ i. marked_kept k i || base_kept k i
calm_kept other k = marked_kept k

interests_kept : {f g : Form} → Kept f g → (m : Metadata) (filters : ℕ) (sum : Option Interest) → interest_of g m filters sum ≡ interest_of f m filters sum
interests_kept (KeptLeaf k) m filters sum = λ i. (k.same.interest i m, sum)
interests_kept (KeptFiltered {n = Some n} same own k) m filters sum =
    λ i. (Always, Some (sum_with (if is_never (same.interest i m) then sum else (interests_kept k m filters sum i).1) (same.interest i m)))
interests_kept (KeptOver {k = joint} {p = p} k l) m filters sum =
    let first = interests_kept k m filters sum in
    λ i. joint_interest joint (marked_kept k i) (first i).0 (calm_kept joint l i) (interests_kept l m filters (first i).1 i)
interests_kept other m filters sum = refl

-- what keeps what it has keeps its hint
pub hint_is_kept : (f g : Form) → KeepsForm f g → hint_of g ≡ hint_of f
hint_is_kept f g h = hints_kept (kept f g h)

-- and its interest
pub interest_is_kept : (f g : Form) → KeepsForm f g → (m : Metadata) (filters : ℕ) → interest_of g m filters None ≡ interest_of f m filters None
interest_is_kept f g h m filters = interests_kept (kept f g h) m filters None

-- honest answers are of one interest in metadata that show the same
pub alike_interest : (f : Form)
    → HasHonestAnswers f → (m k : Metadata) → ShowSame m k → (filters : ℕ) (sum : Option Interest) → interest_of f m filters sum ≡ interest_of f k filters sum
alike_interest (Leaf still a) h m k e filters sum = λ i. (h.alike m k e i, sum)
alike_interest (Filtered None a f) h m k e filters sum = refl
alike_interest (Filtered (Some n) a f) h m k e filters sum =
    λ i. (Always, Some (sum_with (if is_never (h.0.alike m k e i) then sum else (alike_interest f h.1 m k e filters sum i).1) (h.0.alike m k e i)))
alike_interest (Parts joint o j) h m k e filters sum =
    let first = alike_interest o h.0 m k e filters sum in
    λ i. joint_interest joint (is_marked o) (first i).0 (is_calm joint j) (alike_interest j h.1 m k e filters (first i).1 i)
alike_interest (Terminal v) h m k e filters sum = by_void v
  where
    by_void : (v : TerminalKind) → interest_of (Terminal v) m filters sum ≡ interest_of (Terminal v) k filters sum
    by_void Base = refl
    by_void Absent = refl
    by_void End = refl
