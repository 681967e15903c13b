-- Values that wait to be moved into an object, and maps of those of spans.
use Rattle.std.proofs.Common.{◌≡◌, ◌∙◌, ◌+◌, ◌<◌, ℕ, arith, rules, List, [], ◌∷◌, ◌++◌, None, Some, false, Result, Ok, Err, OnOk, ap, get_or}
use Rattle.std.proofs.Common.{length, refl, string_bytes, subst, sym, take}
use Rattle.std.proofs.lemmas.Bool.Decides.{nat_tests}
use Rattle.std.proofs.lemmas.List.{take_more}
use Rattle.std.specs.BTreeMap as tree
use Rattle.std.specs.Borrow.{Bor}
use Rattle.std.specs.Option.{option_map_or}
use Rattle.std.specs.Ordering.{nat_cmp}
use Rattle.std.specs.Prelude.{OnErr, if◌then◌else◌}
use Rattle.serde_json.proofs.Views.{Entry}
use Rattle.serde_json.specs.Data.{Members as MembersOf, no_members, put}
use Rattle.serde_json.specs.View.{view}
use Rattle.span_core.specs.Field.{is_absent}
use Rattle.span_core.specs.declared.field.FieldValue.{FieldValue}
use Rattle.span_stream.specs.Held.{members_held, with_waiting}
use Rattle.span_stream.specs.Members.{SpanMembers, members_kept, with_members}
use Rattle.span_stream.specs.Values.{value_data, with_value, with_values}
use Rattle.span_stream.specs.declared.held.Held.{Held}
use Rattle.span_stream.specs.declared.members.Members.{Members}

-- the last goes first
pub waiting_last : (es : List Entry) (e : Entry) (ms : MembersOf) → with_waiting (es ++ e ∷ []) ms ≡ with_waiting es (with_waiting (e ∷ []) ms)
waiting_last [] e ms = refl
waiting_last (f ∷ es) e ms = ap (put (string_bytes f.0) (view f.1)) (waiting_last es e ms)

-- those up to a place, and the one at that place
pub waiting_back : (es : List Entry) (i : ℕ) (d : Entry) (ms : MembersOf) → i < length es
    → with_waiting (take (i + 1) es) ms ≡ with_waiting (take i es) (with_waiting (get_or es i d ∷ []) ms)
waiting_back es i d ms h = ap (λ (xs : List Entry). with_waiting xs ms) (take_more es i d h) ∙ waiting_last (take i es) (get_or es i d) ms

-- one that went
pub waiting_moved : (old new : List Entry) (e : Entry) (was now whole : MembersOf) → old ≡ new ++ e ∷ [] → now ≡ with_waiting (e ∷ []) was
    → with_waiting old was ≡ whole → with_waiting new now ≡ whole
waiting_moved old new e was now whole items moved before =
    ap (with_waiting new) moved ∙ sym (waiting_last new e was) ∙ ap (λ (xs : List Entry). with_waiting xs was) (sym items) ∙ before

-- one that came
pub waiting_more : (old new : List Entry) (e : Entry) (name : List ℕ) (value : FieldValue) → new ≡ old ++ e ∷ [] → string_bytes e.0 ≡ name
    → view e.1 ≡ value_data value → is_absent value ≡ false → (ms : MembersOf) → with_waiting new ms ≡ with_waiting old (with_value name value ms)
waiting_more old new e name value grown named valued present = λ ms.
    ap (λ (xs : List Entry). with_waiting xs ms) grown ∙ waiting_last old e ms
    ∙ ap (with_waiting old) ((λ i. put (named i) (valued i) ms) ∙ sym (ap (λ b. if b then ms else put name (value_data value) ms) present))

-- ---- what is kept of spans

-- one span's values are others now, and the rest are as they were
updated : (k n : Members) (x : ℕ) (w : Held) → tree.UpdatesBy nat_cmp (nat_cmp x) k.kept n.kept (Some w)
    → members_kept n ≡ with_members x (members_held w) (members_kept k)
updated k n x w h = λ i q. one q i
  where
    one : (q : ℕ) → members_kept n q ≡ with_members x (members_held w) (members_kept k) q
    one q = search rules

as_was : (x n : ℕ) (kept : SpanMembers) → with_members x (kept x) kept n ≡ kept n
as_was x n kept = grind (arith, nat_tests)

-- a span that was given nothing before
pub held_new : (k n : Members) (x : ℕ) (w : Held) (values : List (Bor (List ℕ) × FieldValue)) (waiting : List Entry)
    → tree.get_by (nat_cmp x) k.kept ≡ None → tree.UpdatesBy nat_cmp (nat_cmp x) k.kept n.kept (Some w) → members_held w ≡ with_waiting waiting no_members
    → ((ms : MembersOf) → with_waiting waiting ms ≡ with_values values ms)
    → members_kept n ≡ with_members x (with_values values (members_kept k x)) (members_kept k)
held_new k n x w values waiting none written is means =
    updated k n x w written
    ∙ ap (λ (ms : MembersOf). with_members x ms (members_kept k))
    (is ∙ means no_members ∙ ap (with_values values) (sym (ap (λ o. option_map_or members_held o no_members) none)))

module _ (k n : Members) (x y : ℕ) (was now : Held) (same : y ≡ x)
    (there : Some was ≡ tree.get_by (nat_cmp y) k.kept) (written : tree.UpdatesBy nat_cmp (nat_cmp y) k.kept n.kept (Some now)) where
  here : members_held was ≡ members_kept k y
  here = ap (λ o. option_map_or members_held o no_members) there

  -- where values are added, they are kept
  pub held_more : {U E : Type 0} (r : Result U E) (values : List (Bor (List ℕ) × FieldValue)) (waiting : List Entry)
      → ((ms : MembersOf) → with_waiting waiting ms ≡ with_values values ms) → OnOk r (members_held now ≡ with_waiting waiting (members_held was))
      → OnOk r (members_kept n ≡ with_members x (with_values values (members_kept k x)) (members_kept k))
  held_more (Err e) values waiting means added = tt
  held_more (Ok u) values waiting means added =
      subst (λ z. members_kept n ≡ with_members z (with_values values (members_kept k z)) (members_kept k)) same
      (updated k n y now written
      ∙ ap (λ (ms : MembersOf). with_members y ms (members_kept k)) (added ∙ means (members_held was) ∙ ap (with_values values) here))

  -- where none is, what was kept is
  pub held_still : {U E : Type 0} (r : Result U E) → OnErr r (members_held now ≡ members_held was) → OnErr r (members_kept n ≡ members_kept k)
  held_still (Ok u) still = tt
  held_still (Err e) still =
      updated k n y now written ∙ ap (λ (ms : MembersOf). with_members y ms (members_kept k)) (still ∙ here) ∙ (λ i q. as_was y q (members_kept k) i)
