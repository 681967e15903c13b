use Rattle.std.proofs.Common.{ℕ, ◌+◌, ◌≤◌, ◌<◌, Bool, true, false, MatchBool, sym, subst}
use Rattle.slab.specs.Slab.{get as under}
use Rattle.span_store.specs.private.StoreRepr.{HasNoRoom, HasRoom, KeptSpans}
use Rattle.span_store.proofs.Stored.{len-found}
use Rattle.span_store.proofs.span_store.SpanStore.is_full.Goals as goal

matched : {P Q P' Q' : Type 0} (b : Bool) → (P → P') → (Q → Q') → MatchBool b P Q → MatchBool b P' Q'
matched true f g h = f h
matched false f g h = g h

pub returns : goal.returns
returns c =
    let a = c.self.inside in
    let many = sym (len-found (under a.records) a.slots.keys c.self.invariant.recorded) in
    subst (λ (s : KeptSpans). MatchBool c.are_full.result (HasNoRoom s) (HasRoom s)) c.self.view_is
    (matched c.are_full.result
    (λ full. subst (λ (n : ℕ). a.slots.limits.places ≤ n + a.slots.retired) many full)
    (λ room. record { place = subst (λ (n : ℕ). n + a.slots.retired < a.slots.limits.places) many room.place; id = room.id })
    c.are_full.ensures)
