-- What proofs of callers need: how deep JSON nests.
use Rattle.std.proofs.Common.{arith, ◌≤◌, ◌+◌, ℕ, Bool, true, false, List, [], ◌∷◌, ◌++◌, None, Some, if◌then◌else◌, map}
use Rattle.std.specs.Option.{option_map_or}
use Rattle.std.specs.Ordering.{match_ordering}
use Rattle.std.specs.Prelude.{⊤}
use Rattle.std.specs.declared.cmp.Ordering.{Ordering}
use Rattle.std.specs.declared.cmp.Ordering.TheVariants.{Equal, Greater, Less}
use Rattle.serde_json.specs.Data.{Data, Members, Num, depth, items_depth, member, members_depth, no_members, number, put, string}
use Rattle.serde_json.specs.View.{items_of}
use Rattle.span_export.specs.Json.{members, object_of}

one_of_three : (o : Ordering) (a b c : Members) (n : ℕ)
    → members_depth a ≤ n → members_depth b ≤ n → members_depth c ≤ n → members_depth (match_ordering o a b c) ≤ n
one_of_three Less a b c n p q r = p
one_of_three Equal a b c n p q r = q
one_of_three Greater a b c n p q r = r

-- one more member
pub put_depth : (k : List ℕ) (d : Data) (ms : Members) (n : ℕ) → depth d ≤ n → members_depth ms ≤ n → members_depth (put k d ms) ≤ n
put_depth k d no_members n p q = omega arith
put_depth k d (member l e ms) n p q =
    one_of_three _
    (member k d (member l e ms)) (member l d ms) (member l e (put k d ms)) n (omega arith) (omega arith) (omega (arith, put_depth k d ms n p (omega arith)))

-- no member is deeper
abbrev pub AreWithin : ℕ → List (List ℕ × Data) → Type 0
AreWithin n [] = ⊤
AreWithin n (m ∷ ms) = (depth m.1 ≤ n) × AreWithin n ms

-- members are no deeper than each of them
pub members_within : (n : ℕ) (ms : List (List ℕ × Data)) → AreWithin n ms → members_depth (members ms) ≤ n
members_within n [] h = omega arith
members_within n (m ∷ ms) h = put_depth m.0 m.1 (members ms) n h.0 (members_within n ms h.1)

-- an object is one deeper than its members
pub object_within : (n : ℕ) (ms : List (List ℕ × Data)) → AreWithin n ms → depth (object_of ms) ≤ n + 1
object_within n ms h = omega (arith, members_within n ms h)

-- what stands before others and behind
pub joined_within : (n : ℕ) (ds es : List Data) → items_depth (items_of ds) ≤ n → items_depth (items_of es) ≤ n → items_depth (items_of (ds ++ es)) ≤ n
joined_within n [] es h k = k
joined_within n (d ∷ ds) es h k = omega (arith, joined_within n ds es (omega (arith, h)) k)

-- each is so for something
pub mapped_within : {A : Type 0} (n : ℕ) (f : A → Data) → ((x : A) → depth (f x) ≤ n) → (xs : List A) → items_depth (items_of (map f xs)) ≤ n
mapped_within n f h [] = omega arith
mapped_within n f h (x ∷ xs) = omega (arith, h x, mapped_within n f h xs)

-- a number, or words in its place, is flat
pub number_flat : (b : Bool) (x : Num) (words : List ℕ) → depth (option_map_or number (if b then Some x else None) (string words)) ≤ 0
number_flat true x words = omega arith
number_flat false x words = omega arith
