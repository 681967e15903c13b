-- How deep members and lists nest that may lack something.
use Rattle.std.proofs.Common.{arith, ◌≤◌, ◌+◌, ◌-◌, ◌^◌, ◌==◌, min, ℕ, Bool, true, false, List, [], ◌∷◌, Option, None, Some, codes, filter_map, if◌then◌else◌}
use Rattle.std.specs.List.{cons_option}
use Rattle.serde_json.specs.Data.{Data, Members, depth, items_depth, members_depth, object, put}
use Rattle.serde_json.specs.View.{items_of}
use Rattle.span_export.proofs.CallerLemmas.{AreWithin, members_within, put_depth}
use Rattle.span_export.specs.Json.{members, whole}
use Rattle.span_otlp.specs.Dropped.{with_dropped}
use Rattle.span_otlp.specs.private.Sent.{IsWithin}

one_put : (b : Bool) (d : Data) (n : ℕ) (ms : Members)
    → depth d ≤ n → members_depth ms ≤ n → members_depth (if b then ms else put (codes "droppedAttributesCount") d ms) ≤ n
one_put true d n ms h k = k
one_put false d n ms h k = put_depth (codes "droppedAttributesCount") d ms n h k

-- an object that may say how many attributes were dropped
pub dropped_within : (count n : ℕ) (ms : List (List ℕ × Data)) → AreWithin n ms → depth (object (with_dropped count (members ms))) ≤ n + 1
dropped_within count n ms h =
    omega (arith, one_put (count == 0) (whole (min count (2 ^ 32 - 1))) n (members ms) (omega arith) (members_within n ms h))

one_more : (n : ℕ) (o : Option Data) (ds : List Data) → IsWithin n o → items_depth (items_of ds) ≤ n → items_depth (items_of (cons_option o ds)) ≤ n
one_more n None ds h k = k
one_more n (Some d) ds h k = omega (arith, h)

-- those that there are
pub items_within : {A : Type 0} (n : ℕ) (f : A → Option Data) → ((x : A) → IsWithin n (f x)) → (xs : List A) → items_depth (items_of (filter_map f xs)) ≤ n
items_within n f h [] = omega arith
items_within n f h (x ∷ xs) = one_more n (f x) (filter_map f xs) (h x) (items_within n f h xs)
