-- A stack that keeps the rules of its form stays honest.
use Rattle.std.proofs.Common.{◌≡◌, inl, inr, ℕ, Bool, true, false, ◌||◌, ◌==◌, Option, Some, None, refl, sym, ap, subst, ◌∙◌, ⊎_elim}
use Rattle.span_core.specs.Filters.{FilterSet}
use Rattle.span_stacks.specs.Honest.{HonestyIsKept, IsBuiltLayer, IsBuiltStack}
use Rattle.span_stacks.specs.Verdict.{AreDistinct, numbers_of}
use Rattle.span_registry.specs.Behaviour.{Behaviour, AreHonest}
use Rattle.span_registry.specs.KeptForm.{AnswersKeep}
use Rattle.span_registry.specs.Form.{Terminal, Filtered, Form, InList, InPair, Arrangement, Leaf, OnSubscriber, Parts, TerminalKind}
use Rattle.span_registry.specs.Reload.{KeepsRules}

-- what a form keeps where it is notified or levels are set, part by part
data Ruled : Form → Form → Type 0 where
  RuledLeaf : {still : Bool} {a b : Behaviour} → AnswersKeep a b → Ruled (Leaf still a) (Leaf still b)
  RuledFiltered : {n : Option ℕ} {a b : Behaviour} {f g : Form} → (AreHonest a → AreHonest b) → Ruled f g → Ruled (Filtered n a f) (Filtered n b g)
  RuledOver : {k : Arrangement} {o p i j : Form} → Ruled o p → Ruled i j → Ruled (Parts k o i) (Parts k p j)
  RuledBare : {v : TerminalKind} → Ruled (Terminal v) (Terminal v)

ruled : (f g : Form) → KeepsRules f g → Ruled f g
ruled (Leaf still a) (Leaf quiet b) h = subst (λ z. Ruled (Leaf still a) (Leaf z b)) (sym h.0) (RuledLeaf h.1)
ruled (Filtered n a f) (Filtered m b g) h = subst (λ z. Ruled (Filtered n a f) (Filtered z b g)) (sym h.0) (RuledFiltered h.1 (ruled f g h.2))
ruled (Parts k o i) (Parts l p j) h = subst (λ z. Ruled (Parts k o i) (Parts z p j)) (sym h.0) (RuledOver (ruled o p h.1) (ruled i j h.2))
ruled (Terminal v) (Terminal w) h = subst (λ z. Ruled (Terminal v) (Terminal z)) (sym h) RuledBare
ruled other rest h = absurd h

numbers_kept : {f g : Form} → Ruled f g → numbers_of g ≡ numbers_of f
numbers_kept (RuledFiltered {n = None} own k) = numbers_kept k
numbers_kept (RuledFiltered {n = Some n} own k) = λ i j. (j == n) || numbers_kept k i j
numbers_kept (RuledOver k l) = λ i j. numbers_kept k i j || numbers_kept l i j
numbers_kept other = refl

distinct_kept : {f g : Form} → Ruled f g → AreDistinct f → AreDistinct g
distinct_kept (RuledFiltered {n = None} own k) h = distinct_kept k h
distinct_kept (RuledFiltered {n = Some n} own k) h = (ap (λ (s : FilterSet). s n) (numbers_kept k) ∙ h.0, distinct_kept k h.1)
distinct_kept (RuledOver k l) h = (
  distinct_kept k h.0,
  distinct_kept l h.1,
  λ n e. ap (λ (s : FilterSet). s n) (numbers_kept l) ∙ h.2 n (sym (ap (λ (s : FilterSet). s n) (numbers_kept k)) ∙ e),
)
distinct_kept other h = tt

-- where a form ends, it ends still
end_kept : {f g : Form} {v : TerminalKind} → Ruled f g → f ≡ Terminal v → g ≡ Terminal v
end_kept RuledBare e = e
end_kept other e = absurd (cc)

layer_kept : {f g : Form} (within : Bool) → Ruled f g → IsBuiltLayer within f → IsBuiltLayer within g
layer_kept within (RuledLeaf k) h = (h.0, k.honest h.1, λ t. k.quiet (h.2 t))
layer_kept within (RuledFiltered own k) h = (own h.0, layer_kept true k h.1)
layer_kept within (RuledOver {k = InPair} k l) h = (layer_kept within k h.0, layer_kept within l h.1)
layer_kept within (RuledOver {k = InList} k l) h = (layer_kept true k h.0, ⊎_elim (λ e. inl (end_kept l e)) (λ b. inr (layer_kept true l b)) h.1)
layer_kept within other h = absurd h

stack_kept : {f g : Form} → Ruled f g → IsBuiltStack f → IsBuiltStack g
stack_kept (RuledOver {k = OnSubscriber} k l) h = (⊎_elim (λ e. inl (end_kept k e)) (λ b. inr (layer_kept false k b)) h.0, stack_kept l h.1)
stack_kept RuledBare h = h
stack_kept other h = absurd h

pub honesty_is_kept : HonestyIsKept
honesty_is_kept f g filters h honest =
    let k : Ruled f g = ruled f g h in
    record {
      numbers = record {
        distinct = distinct_kept k honest.numbers.distinct;
        handed_out = λ n e. honest.numbers.handed_out n (sym (ap (λ (s : FilterSet). s n) (numbers_kept k)) ∙ e);
      };
      built = stack_kept k honest.built;
    }
