use Rattle.std.proofs.Common.{ℕ, ◌∙◌, ap, sym, subst, List, length, slice_set, get_or, ◌≡◌, Bool, true, false, not, refl, arith}
use Rattle.std.specs.Bool.{then_some}
use Rattle.std.specs.Option.{is_some}
use Rattle.span_core.specs.Span.{number_of}
use Rattle.span_store.specs.declared.stack.Entry.{Entry}
use Rattle.span_store.specs.LaneStack.{HeldStack, stands, leaves_for_good, without_entry}
use Rattle.span_store.specs.private.Index.{Indexes}
use Rattle.span_store.specs.private.Marks.{HoldsAll, ids, IsLastOf, ids_down, KeepsEntries}
use Rattle.span_store.proofs.Marks.{for_good, none_left, taken_last, taken_within}
use Rattle.span_store.proofs.stack.Entries.pop.Goals as goal
use Rattle.span_store.proofs.stack.Entries.pop.Goals.{then-place-len, else-place-len}

-- a stack with these spans and this room
abbrev with_spans : ℕ → List ℕ → HeldStack
with_spans room xs = record { spans = xs; room = room }

some_of : (b : Bool) (n : ℕ) → is_some (then_some b n) ≡ b
some_of true n = refl
some_of false n = refl

pub last_place-requires-clause-held : goal.last_place-requires-clause-held
last_place-requires-clause-held c = subst (λ (us : List Entry). HoldsAll c.self.inside.held (ids us)) (sym c.deref.ensures.value) c.self.invariant.0.held

pub last_place-requires-clause-indexed : goal.last_place-requires-clause-indexed
last_place-requires-clause-indexed c = subst (λ (us : List Entry). Indexes c.self.inside.index (ids_down us)) (sym c.deref.ensures.value) c.self.invariant.2

pub invariant_of-self : goal.invariant_of-self
invariant_of-self c =
    let i = c.in-Some.place in
    let a = c.index_mut.result.now in
    let left = c.remove-entry.ensures.by_index.2 in
    let h = subst (λ (es : List Entry). IsLastOf es (number_of c.args.id) i) c.deref.ensures.value c.in-Some.ensures in
    let t = taken_within _ _ _ i c.remove-entry.result a c.self.invariant.0 h c.remove-entry.ensures.value (c.index_mut.ensures.value
    ∙ ap (λ (us : List Entry). get_or us i a) left) (let e = ap length left in let n = c.len.ensures in let b = c.if-place-len.true in omega arith) in (
      subst (λ (us : List Entry). KeepsEntries (slice_set us i (record a { before = c.remove-entry.result.before })) c.self.inside.held) (sym left) t.keeps,
      let room = c.self.invariant.1 in let kept = c.remove-entry.ensures.capacity in omega arith,
      subst (λ (us : List Entry). Indexes c.remove.new.self (ids_down (slice_set us i (record a { before = c.remove-entry.result.before })))) (sym left)
          (subst (Indexes c.remove.new.self) (sym t.left)
          (c.remove.ensures (ids_down c.self.inside.entries.items)
          (for_good c.self.inside.entries.items _ _ c.remove-entry.result c.self.invariant.0.marked h c.remove-entry.ensures.value) c.self.invariant.2)),
    )

pub invariant_of-self-else-place-len : goal.invariant_of-self-else-place-len
invariant_of-self-else-place-len c =
    let left = c.remove-entry.ensures.by_index.2 in
    let h = subst (λ (es : List Entry). IsLastOf es (number_of c.args.id) c.in-Some.place) c.deref.ensures.value c.in-Some.ensures in
    let t = taken_last _ _ _ c.in-Some.place c.remove-entry.result
    c.self.invariant.0 h c.remove-entry.ensures.value (let e = ap length left in let n = c.len.ensures in let b = c.if-place-len.false in omega arith) in (
      subst (λ (us : List Entry). KeepsEntries us c.remove-entry.result.before) (sym left) t.keeps,
      let room = c.self.invariant.1 in let kept = c.remove-entry.ensures.capacity in omega arith,
      subst (λ (us : List Entry). Indexes c.remove.new.self (ids_down us)) (sym left)
          (subst (Indexes c.remove.new.self) (sym t.left)
          (c.remove.ensures (ids_down c.self.inside.entries.items)
          (for_good c.self.inside.entries.items _ _ c.remove-entry.result c.self.invariant.0.marked h c.remove-entry.ensures.value) c.self.invariant.2)),
    )

pub returns-in-None-clause-left : goal.returns-in-None-clause-left
returns-in-None-clause-left c =
    let h =
    none_left _ (number_of c.args.id) (subst (λ (es : List Entry). stands (number_of c.args.id) (ids es) ≡ false) c.deref.ensures.value c.in-None.ensures) in
    sym c.self.view_is ∙ (λ i. record { spans = sym h.0 i; room = c.self.inside.room }) ∙ ap (without_entry (number_of c.args.id)) c.self.view_is

pub returns-in-None-clause-for_good : goal.returns-in-None-clause-for_good
returns-in-None-clause-for_good c =
    let h =
    none_left _ (number_of c.args.id) (subst (λ (es : List Entry). stands (number_of c.args.id) (ids es) ≡ false) c.deref.ensures.value c.in-None.ensures) in
    sym h.1 ∙ ap (λ (s : HeldStack). leaves_for_good (number_of c.args.id) s.spans) c.self.view_is

pub returns-after-place-len-clause-left : goal.returns-after-place-len-clause-left
returns-after-place-len-clause-left c =
    let i = c.in-Some.place in
    let left = c.remove-entry.ensures.by_index.2 in
    let h = subst (λ (es : List Entry). IsLastOf es (number_of c.args.id) i) c.deref.ensures.value c.in-Some.ensures in
    let room = c.self.inside.room in
    let seen = ap (without_entry (number_of c.args.id)) c.self.view_is in
    elim c.if-place-len.branch [
      | then-place-len w ↦
          let a = w.index_mut.result.now in
          let t = taken_within _ _ _ i c.remove-entry.result a c.self.invariant.0 h c.remove-entry.ensures.value (w.index_mut.ensures.value
          ∙ ap (λ (us : List Entry). get_or us i a) left) (let e = ap length left in let n = c.len.ensures in let b = w.if-place-len.true in omega arith) in
          w.self-is ∙ ap (λ (us : List Entry). with_spans room (ids_down (slice_set us i (record a { before = c.remove-entry.result.before })))) left
          ∙ ap (with_spans room) t.left ∙ seen
      | else-place-len w ↦
          let t = taken_last _ _ _ i c.remove-entry.result
          c.self.invariant.0 h c.remove-entry.ensures.value (let e = ap length left in let n = c.len.ensures in let b = w.if-place-len.false in omega arith) in
          w.self-is ∙ ap (λ (us : List Entry). with_spans room (ids_down us)) left ∙ ap (with_spans room) t.left ∙ seen
    ]

pub returns-after-place-len-clause-for_good : goal.returns-after-place-len-clause-for_good
returns-after-place-len-clause-for_good c =
    let h = subst (λ (es : List Entry). IsLastOf es (number_of c.args.id) c.in-Some.place) c.deref.ensures.value c.in-Some.ensures in
    ap is_some c.then_some.ensures ∙ some_of (not c.remove-entry.result.duplicate) c.in-Some.place
    ∙ for_good _ _ _ c.remove-entry.result c.self.invariant.0.marked h c.remove-entry.ensures.value
    ∙ ap (λ (s : HeldStack). leaves_for_good (number_of c.args.id) s.spans) c.self.view_is
