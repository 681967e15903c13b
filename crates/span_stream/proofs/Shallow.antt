-- How deep what is written nests.
use Rattle.std.proofs.Common.{◌≤◌, ℕ, Bool, true, false, List, [], ◌∷◌, arith, map}
use Rattle.std.specs.Borrow.{Bor}
use Rattle.std.specs.Option.{option_map}
use Rattle.std.specs.Ordering.{match_ordering}
use Rattle.std.specs.Prelude.{⊤, codes, if◌then◌else◌, Some, None, unwrap_or}
use Rattle.std.specs.declared.cmp.Ordering.{Ordering}
use Rattle.std.specs.declared.cmp.Ordering.TheVariants.{Equal, Greater, Less}
use Rattle.serde_json.specs.Data.{Data, Members, Num, array, depth, items_depth, member, members_depth, no_members, null, number, put, string, unsigned}
use Rattle.serde_json.specs.View.{items_of}
use Rattle.span_core.specs.Event.{event_metadata, event_values}
use Rattle.span_core.specs.Field.{is_absent}
use Rattle.span_core.specs.Level.{level_text}
use Rattle.span_core.specs.Metadata.{level_of, name_of, target_of}
use Rattle.span_core.specs.declared.event.Event.{Event}
use Rattle.span_core.specs.declared.field.FieldValue.{FieldValue}
use Rattle.span_core.specs.declared.field.FieldValue.TheVariants as value
use Rattle.span_core.specs.declared.metadata.Metadata.{Metadata}
use Rattle.span_stream.specs.Object.{event_data, fields_data, last_of, plain_members, span_data, with_lane, with_spans}
use Rattle.span_stream.specs.Values.{value_data, with_value, with_values}

one_of_three : (o : Ordering) (a b c : Members) (n : ℕ)
    → members_depth a ≤ n → members_depth b ≤ n → members_depth c ≤ n → members_depth (match_ordering o a b c) ≤ n
one_of_three Less a b c n p q r = p
one_of_three Equal a b c n p q r = q
one_of_three Greater a b c n p q r = r

-- one more member
put_depth : (k : List ℕ) (d : Data) (ms : Members) (n : ℕ) → depth d ≤ n → members_depth ms ≤ n → members_depth (put k d ms) ≤ n
put_depth k d no_members n p q = omega arith
put_depth k d (member l e ms) n p q =
    one_of_three _
    (member k d (member l e ms)) (member l d ms) (member l e (put k d ms)) n (omega arith) (omega arith) (omega (arith, put_depth k d ms n p (omega arith)))

-- ---- values are flat

number_flat : (b : Bool) (x : Num) → depth (unwrap_or (option_map number (if b then Some x else None)) null) ≤ 0
number_flat true x = omega arith
number_flat false x = omega arith

value_flat : (v : FieldValue) → depth (value_data v) ≤ 0
value_flat (value.U64 n) = omega arith
value_flat (value.I64 n) = omega arith
value_flat (value.U128 n) = omega arith
value_flat (value.I128 n) = omega arith
value_flat (value.F64 f) = number_flat _ _
value_flat (value.Bool b) = omega arith
value_flat (value.Text t) = omega arith
value_flat value.Absent = omega arith

pub one_flat : (b : Bool) (ms more : Members) → members_depth ms ≤ 0 → members_depth more ≤ 0 → members_depth (if b then ms else more) ≤ 0
one_flat true ms more p q = p
one_flat false ms more p q = q

pub values_flat : (values : List (Bor (List ℕ) × FieldValue)) (ms : Members) → members_depth ms ≤ 0 → members_depth (with_values values ms) ≤ 0
values_flat [] ms flat = flat
values_flat (f ∷ fs) ms flat =
    values_flat fs (with_value f.0.now f.1 ms)
    (one_flat (is_absent f.1) ms (put f.0.now (value_data f.1) ms) flat (put_depth f.0.now (value_data f.1) ms 0 (value_flat f.1) flat))

-- ---- an event is four deep at most

fields_depth : (name : List ℕ) (values : List (Bor (List ℕ) × FieldValue)) → depth (fields_data name values) ≤ 1
fields_depth name values =
    omega (
      arith,
      values_flat values (put (codes "message") (string name) no_members) (put_depth (codes "message") (string name) no_members 0 (omega arith) (omega arith)),
    )

text_put : (k text : List ℕ) (ms : Members) → members_depth ms ≤ 1 → members_depth (put k (string text) ms) ≤ 1
text_put k text ms p = put_depth k (string text) ms 1 (omega arith) p

plain_depth : (stamp : List ℕ) (m : Metadata) (values : List (Bor (List ℕ) × FieldValue)) → members_depth (plain_members stamp m values) ≤ 1
plain_depth stamp m values =
    let first = put (codes "timestamp") (string stamp) no_members in
    let second = put (codes "level") (string (level_text (level_of m))) first in
    let third = put (codes "target") (string (target_of m)) second in
    let a = text_put (codes "timestamp") stamp no_members (omega arith) in
    let b = text_put (codes "level") (level_text (level_of m)) first a in
    let c = text_put (codes "target") (target_of m) second b in
    put_depth (codes "fields") (fields_data (name_of m) values) third 1 (fields_depth (name_of m) values) c

pub span_depth : (name : List ℕ) (ms : Members) → members_depth ms ≤ 0 → depth (span_data name ms) ≤ 1
span_depth name ms flat = omega (arith, put_depth (codes "name") (string name) ms 0 (omega arith) flat)

-- each of these is one deep at most
abbrev pub AreShallow : List Data → Type 0
AreShallow [] = ⊤
AreShallow (d ∷ ds) = (depth d ≤ 1) × AreShallow ds

pub all_shallow : {A : Type 0} (f : A → Data) → ((x : A) → depth (f x) ≤ 1) → (xs : List A) → AreShallow (map f xs)
all_shallow f each [] = tt
all_shallow f each (x ∷ xs) = (each x, all_shallow f each xs)

items_shallow : (ds : List Data) → AreShallow ds → items_depth (items_of ds) ≤ 1
items_shallow [] h = omega arith
items_shallow (d ∷ ds) h = omega (arith, h.0, items_shallow ds h.1)

last_shallow : (d : Data) (ds : List Data) → AreShallow (d ∷ ds) → depth (last_of d ds) ≤ 1
last_shallow d [] h = h.0
last_shallow d (e ∷ es) h = last_shallow e es h.1

spans_depth : (ds : List Data) (ms : Members) → AreShallow ds → members_depth ms ≤ 2 → members_depth (with_spans ds ms) ≤ 2
spans_depth [] ms h p = p
spans_depth (d ∷ ds) ms h p =
    let all = array (items_of (d ∷ ds)) in
    let inner = last_of d ds in
    put_depth (codes "spans") all (put (codes "span") inner ms) 2
    (omega (arith, items_shallow (d ∷ ds) h)) (put_depth (codes "span") inner ms 2 (omega (arith, last_shallow d ds h)) p)

lane_depth : (lane : ℕ) (name : List ℕ) (ms : Members) → members_depth ms ≤ 1 → members_depth (with_lane lane name ms) ≤ 1
lane_depth lane [] ms p = p
lane_depth lane (b ∷ name) ms p =
    text_put (codes "threadName") (b ∷ name)
    (put (codes "threadId") (number (unsigned lane)) ms) (put_depth (codes "threadId") (number (unsigned lane)) ms 1 (omega arith) p)

pub event_depth : (stamp : List ℕ) (e : Event) (lane : ℕ) (name : List ℕ) (spans : List Data) → AreShallow spans
    → depth (event_data stamp e lane name spans) ≤ 3
event_depth stamp e lane name spans h =
    let plain = plain_members stamp (event_metadata e) (event_values e) in
    let all = with_lane lane name plain in
    let few : members_depth all ≤ 2 = omega (arith, lane_depth lane name plain (plain_depth stamp (event_metadata e) (event_values e))) in
    omega (arith, spans_depth spans all h few)
