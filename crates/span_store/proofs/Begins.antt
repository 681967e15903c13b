-- Before an id is issued there is nothing in the registry.
use Rattle.std.proofs.Common.{◌≡◌, ℕ, ◌+◌, Bool, true, false, cond, not, ◌&&◌, ◌||◌, refl, sym, ap, ◌∙◌, arith}
use Rattle.std.specs.Cmp.{nat_cmp_total}
use Rattle.std.specs.FinMap.{empty, get-empty}
use Rattle.std.specs.FinSet.{FinSet, contains, contains-insert, contains-remove, insert as add, len as set_len, len-insert as set_insert}
use Rattle.std.specs.FinSet.{nat_cmp-IsAntisymmetric, remove as take, same_set}
use Rattle.std.specs.Ordering.{eq_by_cmp, nat_cmp}
use Rattle.span_store.specs.LaneStack.{leave}
use Rattle.span_store.specs.Store.{Stacks, stack_on, with_stack_on}
use Rattle.span_store.proofs.Chains.{same_test, test_same}
use Rattle.span_store.proofs.LaneStacks.{stacks_none}

-- a set with another member more has one
pub has_more : (s : FinSet nat_cmp) (x : ℕ) → contains s x ≡ false → set_len (add s x) ≡ 0 → ⊥
has_more s x out none =
    let grown = set_insert nat_cmp_total s x ∙ ap (λ (b : Bool). cond b (set_len s) (set_len s + 1)) out in
    omega arith

-- a set that has a member isn't of length zero
pub has_some : (s : FinSet nat_cmp) (x : ℕ) → contains s x ≡ true → set_len s ≡ 0 → ⊥
has_some s x within none =
    has_more (take s x) x (contains-remove nat_cmp_total s x x ∙ ap (λ (b : Bool). not b && contains s x) (same_test x x refl)) (ap set_len back ∙ none)
  where
    by_case : (q : ℕ) (b : Bool) → eq_by_cmp nat_cmp q x ≡ b → (b || (not b && contains s q)) ≡ contains s q
    by_case q true t = sym within ∙ sym (ap (contains s) (test_same q x t))
    by_case q false t = refl

    back : add (take s x) x ≡ s
    back = same_set nat_cmp_total nat_cmp-IsAntisymmetric _ _ (λ q. contains-insert nat_cmp_total (take s x) x q
        ∙ ap (λ (b : Bool). eq_by_cmp nat_cmp q x || b) (contains-remove nat_cmp_total s x q) ∙ by_case q (eq_by_cmp nat_cmp q x) refl)

-- to leave a lane where no lane has a stack changes nothing
pub leaves_none : (m : Stacks) (k x : ℕ) → m ≡ empty → with_stack_on m k (leave x (stack_on m k)) ≡ empty
leaves_none m k x none = ap (λ (m : Stacks). with_stack_on m k (leave x (stack_on m k))) none ∙ sym (stacks_none empty k x (get-empty nat_cmp k))
