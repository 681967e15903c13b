-- Filters that took the next numbers have their own.
use Rattle.std.proofs.Common.{◌≡◌, ℕ, ◌+◌, ◌<◌, ◌≤◌, nat_lt, Bool, true, false, ◌||◌, ◌==◌, Option, Some, refl, sym, ap, subst, arith}
use Rattle.std.specs.Prelude.{if◌then◌else◌}
use Rattle.span_registry.specs.Behaviour.{Behaviour}
use Rattle.std.proofs.lemmas.Bool.Decides.{nat_tests}
use Rattle.std.proofs.lemmas.Bool.{eqb-true, false_from_ne_true, false≢true}
use Rattle.span_core.specs.declared.filter.TheConstants.FilterId.{LIMIT}
use Rattle.span_layers.specs.Number.{filters_in, numbered}
use Rattle.span_stacks.specs.Verdict.{AreDistinct, NumbersAreOwn, numbers_of}
use Rattle.span_registry.specs.Form.{Terminal, Filtered, Form, Leaf, Parts}

-- the numbers from n on, below this one
record IsWithin (f : Form) (n next : ℕ) : Type 0 where
  distinct : AreDistinct f
  bounds : (k : ℕ) → numbers_of f k ≡ true → (n ≤ k) × (k < next)

either : (a b : Bool) {A : Type 0} → (a ≡ true → A) → (b ≡ true → A) → (a || b) ≡ true → A
either true b f g h = f refl
either false b f g h = g h

has_room : (n : ℕ) → n < LIMIT → nat_lt n LIMIT ≡ true
has_room n h = grind (arith, nat_tests, h)

-- what a form becomes that took the numbers from n on, and the number that is next
record Became (r : Form × ℕ) (f : Form) (n : ℕ) : Type 0 where
  next : r.1 ≡ n + filters_in f
  within : IsWithin r.0 n (n + filters_in f)

abbrev Took : Form → ℕ → Type 0
Took f n = Became (numbered f n) f n

numbered_filter : (m : Option ℕ) (a : Behaviour) (f : Form) (n : ℕ)
    → nat_lt n LIMIT ≡ true → (Filtered (Some n) a (numbered f (n + 1)).0, (numbered f (n + 1)).1) ≡ numbered (Filtered m a f) n
numbered_filter m a f n h =
    ap (λ b. if b then (Filtered (Some n) a (numbered f (n + 1)).0, (numbered f (n + 1)).1) else (Filtered m a (numbered f n).0, (numbered f n).1)) (sym h)

apart : (o i : Form) (n m k : ℕ) → IsWithin o n m → IsWithin i m k → (j : ℕ) → numbers_of o j ≡ true → numbers_of i j ≡ false
apart o i n m k a b j h = false_from_ne_true (numbers_of i j) (λ g. let x = (a.bounds j h).1 in let y = (b.bounds j g).0 in omega (arith, x, y))

took : (f : Form) (n : ℕ) → n + filters_in f ≤ LIMIT → Took f n
took (Leaf still a) n h = record { next = omega (arith); within = record { distinct = tt; bounds = λ k g. absurd (false≢true g) } }
took (Terminal v) n h = record { next = omega (arith); within = record { distinct = tt; bounds = λ k g. absurd (false≢true g) } }
took (Filtered m a f) n h =
    let inside : Took f (n + 1) = took f (n + 1) (omega (arith, h)) in
    subst (λ r. Became r (Filtered m a f) n) (numbered_filter m a f n (has_room n (omega (arith, h)))) (record {
      next = (let e = inside.next in omega (arith, e));
      within = record {
        distinct =
            (false_from_ne_true (numbers_of (numbered f (n + 1)).0 n) (λ g. let x = (inside.within.bounds n g).0 in omega (arith, x)), inside.within.distinct);
        bounds = λ k g. either (k == n) (numbers_of (numbered f (n + 1)).0 k)
            (λ e. let same : k ≡ n = eqb-true k n e in (omega (arith, same), omega (arith, same)))
            (λ e. let x = (inside.within.bounds k e).0 in let y = (inside.within.bounds k e).1 in (omega (arith, x), omega (arith, y))) g;
      };
    })
took (Parts j o i) n h =
    let first : Took o n = took o n (omega (arith, h)) in
    let second : Took i (numbered o n).1 = took i (numbered o n).1 (let e = first.next in omega (arith, e, h)) in
    let e = first.next in
    let d = second.next in
    let between : IsWithin (numbered o n).0 n (numbered o n).1 = subst (λ k. IsWithin (numbered o n).0 n k) (sym e) first.within in
    record {
      next = omega (arith, e, d);
      within = record {
        distinct = (
          first.within.distinct,
          second.within.distinct,
          apart (numbered o n).0 (numbered i (numbered o n).1).0 n (numbered o n).1 ((numbered o n).1 + filters_in i) between second.within,
        );
        bounds = λ k g. either (numbers_of (numbered o n).0 k) (numbers_of (numbered i (numbered o n).1).0 k)
            (λ c. let x = (first.within.bounds k c).0 in let y = (first.within.bounds k c).1 in (x, omega (arith, y)))
            (λ c. let x = (second.within.bounds k c).0 in let y = (second.within.bounds k c).1 in (omega (arith, x, e), omega (arith, y, e))) g;
      };
    }

pub numbers_are_own : (f : Form) (n : ℕ) → n + filters_in f ≤ LIMIT → NumbersAreOwn f n
numbers_are_own f n h =
    let t : Took f n = took f n h in
    let e = t.next in
    let own : IsWithin (numbered f n).0 n (numbered f n).1 = subst (λ k. IsWithin (numbered f n).0 n k) (sym e) t.within in
    record {
      next = e;
      own = record { distinct = own.distinct; handed_out = λ k g. (own.bounds k g).1 };
      stack = λ i s. record {
        distinct = (
          own.distinct,
          s.distinct,
          (λ j g. false_from_ne_true (numbers_of i j) (λ c. let x = (own.bounds j g).0 in let y = s.handed_out j c in omega (arith, x, y))),
        );
        handed_out =
            λ k g. either (numbers_of (numbered f n).0 k) (numbers_of i k) (λ c. (own.bounds k c).1) (λ c. let x = s.handed_out k c in omega (arith, x, e)) g;
      };
    }
