-- Maps by lanes, where what a lane begins with is left out: its empty stack, and no room.
use Rattle.std.proofs.Common.{◌≡◌, ℕ, List, [], ◌∷◌, Option, Some, None, Bool, true, false, cond, refl, sym, ap, ◌∙◌}
use Rattle.std.specs.Cmp.{nat_cmp_total, nat_eq_equiv, unsigned_tied, unsigned_ties}
use Rattle.std.specs.FinMap.{FinMap, empty, get, get-empty, nat_cmp-IsAntisymmetric, same_map}
use Rattle.std.specs.HashMap.{HashMap, Updates}
use Rattle.std.specs.Map.{lookup}
use Rattle.std.specs.Option.{option_and_then, option_map, unwrap_or}
use Rattle.std.specs.Ordering.{eq_by_cmp, nat_cmp}
use Rattle.std.specs.Prelude.{nat_eq}
use Rattle.span_store.specs.LaneStack.{HeldStack}
use Rattle.span_store.proofs.Chains.{other_test, same_test, test_same}

-- `first` is what a lane begins with, and `some` keeps all else
pub record LeavesOut (X : Type 0) (first : X) (some : X → Option X) (put : FinMap nat_cmp X → ℕ → X → FinMap nat_cmp X) : Type 0 where
  pub none : some first ≡ None
  pub plain : (x : X) → unwrap_or (some x) first ≡ x
  pub twice : (x : X) → option_and_then some (some x) ≡ some x
  pub get_put : (m : FinMap nat_cmp X) (k : ℕ) (x : X) (q : ℕ) → get (put m k x) q ≡ cond (eq_by_cmp nat_cmp q k) (some x) (get m q)

module _ {X : Type 0} {first : X} {some : X → Option X} {put : FinMap nat_cmp X → ℕ → X → FinMap nat_cmp X} (out : LeavesOut X first some put) where
  abbrev on : FinMap nat_cmp X → ℕ → X
  on m k = unwrap_or (get m k) first

  same : (m n : FinMap nat_cmp X) → ((q : ℕ) → get m q ≡ get n q) → m ≡ n
  same m n = same_map nat_cmp_total nat_cmp-IsAntisymmetric m n

  -- what was written, and what stands beside it
  pub on_here : (m : FinMap nat_cmp X) (k : ℕ) (x : X) → on (put m k x) k ≡ x
  on_here m k x =
      ap (λ (o : Option X). unwrap_or o first) (out.get_put m k x k ∙ ap (λ (b : Bool). cond b (some x) (get m k)) (same_test k k refl)) ∙ out.plain x

  pub get_beside : (m : FinMap nat_cmp X) (k : ℕ) (x : X) (q : ℕ) → ¬ (q ≡ k) → get (put m k x) q ≡ get m q
  get_beside m k x q other = out.get_put m k x q ∙ ap (λ (b : Bool). cond b (some x) (get m q)) (other_test q k other)

  pub on_beside : (m : FinMap nat_cmp X) (k : ℕ) (x : X) (q : ℕ) → ¬ (q ≡ k) → on (put m k x) q ≡ on m q
  on_beside m k x q other = ap (λ (o : Option X). unwrap_or o first) (get_beside m k x q other)

  -- of a lane the last write counts
  pub again : (m : FinMap nat_cmp X) (k : ℕ) (x y : X) → put (put m k x) k y ≡ put m k y
  again m k x y = same _ _ (λ q.
      out.get_put (put m k x) k y q ∙ ap (cond (eq_by_cmp nat_cmp q k) (some y)) (out.get_put m k x q)
      ∙ last (eq_by_cmp nat_cmp q k) (some y) (some x) (get m q)
      ∙ sym (out.get_put m k y q))
    where
      last : (b : Bool) (x y z : Option X) → cond b x (cond b y z) ≡ cond b x z
      last true x y z = refl
      last false x y z = refl

  -- another lane is written first or last
  pub beside : (m : FinMap nat_cmp X) (k j : ℕ) (x y : X) → ¬ (k ≡ j) → put (put m k x) j y ≡ put (put m j y) k x
  beside m k j x y other = same _ _ (λ q.
      out.get_put (put m k x) j y q ∙ ap (cond (eq_by_cmp nat_cmp q j) (some y)) (out.get_put m k x q)
      ∙ by_case q (eq_by_cmp nat_cmp q j) refl
      ∙ sym (out.get_put (put m j y) k x q ∙ ap (cond (eq_by_cmp nat_cmp q k) (some x)) (out.get_put m j y q)))
    where
      by_case : (q : ℕ) (b : Bool) → eq_by_cmp nat_cmp q j ≡ b
          → cond (eq_by_cmp nat_cmp q j) (some y) (cond (eq_by_cmp nat_cmp q k) (some x) (get m q))
          ≡ cond (eq_by_cmp nat_cmp q k) (some x) (cond (eq_by_cmp nat_cmp q j) (some y) (get m q))
      by_case q true t =
          let apart : eq_by_cmp nat_cmp q k ≡ false = other_test q k (λ e. other (sym e ∙ test_same q j t)) in
          ap (λ (b : Bool). cond b (some y) (cond (eq_by_cmp nat_cmp q k) (some x) (get m q))) t
          ∙ sym (ap (λ (b : Bool). cond b (some x) (cond (eq_by_cmp nat_cmp q j) (some y) (get m q))) apart
          ∙ ap (λ (b : Bool). cond b (some y) (get m q)) t)
      by_case q false t =
          ap (λ (b : Bool). cond b (some y) (cond (eq_by_cmp nat_cmp q k) (some x) (get m q))) t
          ∙ sym (ap (λ (b : Bool). cond (eq_by_cmp nat_cmp q k) (some x) (cond b (some y) (get m q))) t)

  -- what a lane begins with is left out for each
  abbrev pub IsPlain : FinMap nat_cmp X → Type 0
  IsPlain m = (q : ℕ) → option_and_then some (get m q) ≡ get m q

  pub plain_empty : IsPlain empty
  plain_empty q = ap (option_and_then some) (get-empty nat_cmp q) ∙ sym (get-empty nat_cmp q)

  pub plain_put : (m : FinMap nat_cmp X) (k : ℕ) (x : X) → IsPlain m → IsPlain (put m k x)
  plain_put m k x h q = ap (option_and_then some) (out.get_put m k x q) ∙ either (eq_by_cmp nat_cmp q k) (get m q) (h q) ∙ sym (out.get_put m k x q)
    where
      either : (b : Bool) (o : Option X) → option_and_then some o ≡ o → option_and_then some (cond b (some x) o) ≡ cond b (some x) o
      either true o e = out.twice x
      either false o e = e

  -- to write what there is changes nothing
  pub put_same : (m : FinMap nat_cmp X) (k : ℕ) → IsPlain m → put m k (on m k) ≡ m
  put_same m k h = same _ _ (λ q. out.get_put m k (on m k) q ∙ by_case q (eq_by_cmp nat_cmp q k) refl)
    where
      back : (o : Option X) → option_and_then some o ≡ o → some (unwrap_or o first) ≡ o
      back None e = out.none
      back (Some x) e = e

      by_case : (q : ℕ) (b : Bool) → eq_by_cmp nat_cmp q k ≡ b → cond (eq_by_cmp nat_cmp q k) (some (on m k)) (get m q) ≡ get m q
      by_case q true t = ap (λ (b : Bool). cond b (some (on m k)) (get m q)) t ∙ back (get m k) (h k) ∙ ap (get m) (sym (test_same q k t))
      by_case q false t = ap (λ (b : Bool). cond b (some (on m k)) (get m q)) t

  module _ (part : HeldStack → X) (of : List (ℕ × HeldStack) → FinMap nat_cmp X)
      (of_none : of [] ≡ empty) (of_more : (e : ℕ × HeldStack) (es : List (ℕ × HeldStack)) → of (e ∷ es) ≡ put (of es) e.0 (part e.1)) where
    abbrev kept : Option HeldStack → Option X
    kept o = option_and_then (λ s. some (part s)) o

    kept_cond : (b : Bool) (s : HeldStack) (o : Option HeldStack) → cond b (some (part s)) (kept o) ≡ kept (cond b (Some s) o)
    kept_cond true s o = refl
    kept_cond false s o = refl

    pub get_of : (ss : List (ℕ × HeldStack)) (q : ℕ) → get (of ss) q ≡ option_and_then (λ s. some (part s)) (lookup (nat_eq q) ss)
    get_of [] q = ap (λ (m : FinMap nat_cmp X). get m q) of_none ∙ get-empty nat_cmp q
    get_of (e ∷ es) q =
        ap (λ (m : FinMap nat_cmp X). get m q) (of_more e es)
        ∙ out.get_put (of es) e.0 (part e.1) q
        ∙ ap (λ (b : Bool). cond b (some (part e.1)) (get (of es) q)) (unsigned_tied q e.0)
        ∙ ap (cond (nat_eq q e.0) (some (part e.1))) (get_of es q)
        ∙ kept_cond (nat_eq q e.0) e.1 (lookup (nat_eq q) es)

    -- what a lane has
    pub on_of : (ss : List (ℕ × HeldStack)) (q : ℕ) → on (of ss) q ≡ unwrap_or (option_map part (lookup (nat_eq q) ss)) first
    on_of ss q = ap (λ (o : Option X). unwrap_or o first) (get_of ss q) ∙ by_case (lookup (nat_eq q) ss)
      where
        by_case : (o : Option HeldStack) → unwrap_or (kept o) first ≡ unwrap_or (option_map part o) first
        by_case None = refl
        by_case (Some s) = out.plain (part s)

    -- a lane's stack is written
    pub of_put : {H : Type 0} (m n : HashMap ℕ HeldStack H) (k : ℕ) (s : HeldStack)
        → Updates nat_eq m n k (Some s) → of n.entries ≡ put (of m.entries) k (part s)
    of_put m n k s u = same (of n.entries) (put (of m.entries) k (part s)) (λ q.
        get_of n.entries q ∙ ap kept (u.0 q) ∙ sym (kept_cond (nat_eq k q) s (lookup (nat_eq q) m.entries))
        ∙ ap (λ (b : Bool). cond b (some (part s)) (kept (lookup (nat_eq q) m.entries))) (nat_eq_equiv.symm k q ∙ unsigned_ties q k)
        ∙ sym (out.get_put (of m.entries) k (part s) q ∙ ap (cond (eq_by_cmp nat_cmp q k) (some (part s))) (get_of m.entries q)))

    pub plain_of : (ss : List (ℕ × HeldStack)) → IsPlain (of ss)
    plain_of ss q = ap (option_and_then some) (get_of ss q) ∙ by_case (lookup (nat_eq q) ss) ∙ sym (get_of ss q)
      where
        by_case : (o : Option HeldStack) → option_and_then some (kept o) ≡ kept o
        by_case None = refl
        by_case (Some s) = out.twice (part s)
