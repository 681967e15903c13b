-- What holds of runs of calls.
use Rattle.std.proofs.Common.{◌<◌, ◌^◌, ◌-◌, ℕ, min, sum_by, ◌≡◌, ◌+◌, List, [], ◌∷◌, ◌++◌, flat_map, length, refl, ap, sym, ◌∙◌, arith, append_assoc}
use Rattle.std.proofs.Common.{append-nil}
use Rattle.std.proofs.Common.{length-append}
use Rattle.std.proofs.lemmas.List.Sums.{sum_by-cons}
use Rattle.span_sender.specs.Answer.{capped, rejected_by}
use Rattle.span_sender.specs.Batches.{IsNew, batch_of, counts_of, held_by}
use Rattle.span_sender.specs.Run.{Event, Took, Missed, Looked, Tried, GaveUp, LosesNone, Run, Step, accepted_by, dropped_by, let_go, pushed_by, refused_by}
use Rattle.span_sender.specs.Run.{took}
use Rattle.span_sender.specs.declared.answer.Fate.TheVariants.{Accepted, Kept, Refused}
use Rattle.span_sender.specs.declared.batches.Counts.{Counts}
use Rattle.span_sender.specs.declared.batches.Batches.{Batches}
use Rattle.span_sender.specs.declared.config.BatchConfig.{BatchConfig}

-- counts are numbers of 64 bits
record AreWords (c : Counts) : Type 0 where
  accepted : c.accepted < 2 ^ 64
  refused : c.refused < 2 ^ 64
  dropped : c.dropped < 2 ^ 64
  pushed : c.pushed < 2 ^ 64

-- a call changes what is held and the counts so
record Moves (old : Batches) (event : Event) (new : Batches) : Type 0 where
  order : held_by old ++ took event ≡ let_go event ++ held_by new
  once : pushed_by event + length (held_by old) ≡ ((accepted_by event + refused_by event) + dropped_by event) + length (held_by new)
  accepted : (counts_of new).accepted ≡ capped ((counts_of old).accepted + accepted_by event)
  refused : (counts_of new).refused ≡ capped ((counts_of old).refused + refused_by event)
  dropped : (counts_of new).dropped ≡ capped ((counts_of old).dropped + dropped_by event)
  pushed : (counts_of new).pushed ≡ capped ((counts_of old).pushed + pushed_by event)

stays : (a : ℕ) → a < 2 ^ 64 → a ≡ capped (a + 0)
stays a h = omega arith

-- a batch of which all were refused
none_of : (a n : ℕ) → capped (a + (n - n)) ≡ capped (a + 0)
none_of a n = omega arith

all_of : (a n : ℕ) → capped (a + min n n) ≡ capped (a + n)
all_of a n = omega arith

-- lists of the same length, and of two parts
size : {X : Type 0} (a b : List X) → a ≡ b → length a ≡ length b
size a b e = ap (λ l. length l) e

size_of_two : {X : Type 0} (a b c : List X) → a ≡ b ++ c → length a ≡ length b + length c
size_of_two a b c e = ap (λ l. length l) e ∙ length-append b c

one_more : {X : Type 0} (old new : List X) (x : X) → new ≡ old ++ x ∷ [] → 1 + length old ≡ ((0 + 0) + 0) + length new
one_more old new x e = let s = size_of_two new old (x ∷ []) e in omega (arith, s)

as_before : {X : Type 0} (old new : List X) (n : ℕ) → new ≡ old → n + length old ≡ ((0 + 0) + n) + length new
as_before old new n e = let s = size new old e in omega (arith, s)

-- a batch that has ended is accepted or refused, span by span
ended : {X : Type 0} (old batch new : List X) (r : ℕ) → old ≡ batch ++ new
    → 0 + length old ≡ (((length batch - r) + min r (length batch)) + 0) + length new
ended old batch new r e = let s = size_of_two old batch new e in omega (arith, s)

refused : {X : Type 0} (old batch new : List X) → old ≡ batch ++ new → 0 + length old ≡ ((0 + length batch) + 0) + length new
refused old batch new e = let s = size_of_two old batch new e in omega (arith, s)

given_up : {X : Type 0} (old new : List X) → new ≡ [] → 0 + length old ≡ ((0 + 0) + length old) + length new
given_up old new e = let s = size new [] e in omega (arith, s)

-- one call loses none
step : (old new : Batches) (event : Event) → AreWords (counts_of old) → Step old event new → Moves old event new
step old new (Took span) w h =
    let e = h.counts_now in
    record {
      order = sym h.held;
      once = one_more _ _ span h.held;
      accepted = ap (λ (c : Counts). c.accepted) e ∙ stays _ w.accepted;
      refused = ap (λ (c : Counts). c.refused) e ∙ stays _ w.refused;
      dropped = ap (λ (c : Counts). c.dropped) e ∙ stays _ w.dropped;
      pushed = ap (λ (c : Counts). c.pushed) e;
    }
step old new Missed w h =
    let e = h.counts_now in
    record {
      order = append-nil (held_by old) ∙ sym h.held;
      once = as_before _ _ 1 h.held;
      accepted = ap (λ (c : Counts). c.accepted) e ∙ stays _ w.accepted;
      refused = ap (λ (c : Counts). c.refused) e ∙ stays _ w.refused;
      dropped = ap (λ (c : Counts). c.dropped) e;
      pushed = ap (λ (c : Counts). c.pushed) e;
    }
step old new Looked w h =
    let e = h.counts in
    record {
      order = append-nil (held_by old) ∙ sym h.held;
      once = as_before _ _ 0 h.held;
      accepted = ap (λ (c : Counts). c.accepted) e ∙ stays _ w.accepted;
      refused = ap (λ (c : Counts). c.refused) e ∙ stays _ w.refused;
      dropped = ap (λ (c : Counts). c.dropped) e ∙ stays _ w.dropped;
      pushed = ap (λ (c : Counts). c.pushed) e ∙ stays _ w.pushed;
    }
step old new (Tried batch answer Accepted now) w h =
    let e = h.2.counts_now in
    record {
      order = rw h.0 (append-nil (held_by old) ∙ h.2.held);
      once = rw h.0 (ended _ (batch_of old) _ (rejected_by answer) h.2.held);
      accepted = rw h.0 (ap (λ (c : Counts). c.accepted) e);
      refused = rw h.0 (ap (λ (c : Counts). c.refused) e);
      dropped = ap (λ (c : Counts). c.dropped) e ∙ stays _ w.dropped;
      pushed = ap (λ (c : Counts). c.pushed) e ∙ stays _ w.pushed;
    }
step old new (Tried batch answer Refused now) w h =
    let e = h.2.counts_now in
    record {
      order = rw h.0 (append-nil (held_by old) ∙ h.2.held);
      once = rw h.0 (refused _ (batch_of old) _ h.2.held);
      accepted = ap (λ (c : Counts). c.accepted) e ∙ none_of _ (length (batch_of old));
      refused = rw h.0 (ap (λ (c : Counts). c.refused) e ∙ all_of _ (length (batch_of old)));
      dropped = ap (λ (c : Counts). c.dropped) e ∙ stays _ w.dropped;
      pushed = ap (λ (c : Counts). c.pushed) e ∙ stays _ w.pushed;
    }
step old new (Tried batch answer Kept now) w h =
    let e = h.2.counts in
    record {
      order = append-nil (held_by old) ∙ sym h.2.held;
      once = as_before _ _ 0 h.2.held;
      accepted = ap (λ (c : Counts). c.accepted) e ∙ stays _ w.accepted;
      refused = ap (λ (c : Counts). c.refused) e ∙ stays _ w.refused;
      dropped = ap (λ (c : Counts). c.dropped) e ∙ stays _ w.dropped;
      pushed = ap (λ (c : Counts). c.pushed) e ∙ stays _ w.pushed;
    }
step old new (GaveUp spans) w h =
    let e = h.1.counts in
    record {
      order = rw (h.0, h.1.held) refl;
      once = rw h.0 (given_up _ _ h.1.held);
      accepted = ap (λ (c : Counts). c.accepted) e ∙ stays _ w.accepted;
      refused = ap (λ (c : Counts). c.refused) e ∙ stays _ w.refused;
      dropped = rw h.0 (ap (λ (c : Counts). c.dropped) e);
      pushed = ap (λ (c : Counts). c.pushed) e ∙ stays _ w.pushed;
    }

-- orders of two parts are put together
joined : {X : Type 0} (a t1 t2 g1 b g2 c : List X) → a ++ t1 ≡ g1 ++ b → b ++ t2 ≡ g2 ++ c → a ++ (t1 ++ t2) ≡ (g1 ++ g2) ++ c
joined a t1 t2 g1 b g2 c p q =
    sym (append_assoc a t1 t2) ∙ ap (λ x. x ++ t2) p ∙ append_assoc g1 b t2 ∙ ap (λ x. g1 ++ x) q
    ∙ sym (append_assoc g1 g2 c)

-- what is held, and the counts, after a run
record Moved (old : Batches) (events : List Event) (new : Batches) : Type 0 where
  order : held_by old ++ flat_map took events ≡ flat_map let_go events ++ held_by new
  once : sum_by pushed_by events + length (held_by old)
      ≡ ((sum_by accepted_by events + sum_by refused_by events) + sum_by dropped_by events) + length (held_by new)
  accepted : (counts_of new).accepted ≡ capped ((counts_of old).accepted + sum_by accepted_by events)
  refused : (counts_of new).refused ≡ capped ((counts_of old).refused + sum_by refused_by events)
  dropped : (counts_of new).dropped ≡ capped ((counts_of old).dropped + sum_by dropped_by events)
  pushed : (counts_of new).pushed ≡ capped ((counts_of old).pushed + sum_by pushed_by events)

-- a sum that stops twice stops once
twice : (a b c m n new : ℕ) → m ≡ capped (a + b) → new ≡ capped (m + c) → n ≡ b + c → new ≡ capped (a + n)
twice a b c m n new e f g = omega arith

-- numbers of one call, and then of the others
once_more : (p0 p1 p a0 a1 a r0 r1 r d0 d1 d old mid new : ℕ) → p ≡ p0 + p1 → a ≡ a0 + a1 → r ≡ r0 + r1 → d ≡ d0 + d1
    → p0 + old ≡ ((a0 + r0) + d0) + mid → p1 + mid ≡ ((a1 + r1) + d1) + new → p + old ≡ ((a + r) + d) + new
once_more p0 p1 p a0 a1 a r0 r1 r d0 d1 d old mid new e f g h k l = omega (arith, e, f, g, h, k, l)

moved : (old new : Batches) (events : List Event) → AreWords (counts_of old) → Run old events new → Moved old events new
moved old new [] w h =
    record {
      order = rw h (append-nil (held_by old));
      once = rw h refl;
      accepted = rw h (stays _ w.accepted);
      refused = rw h (stays _ w.refused);
      dropped = rw h (stays _ w.dropped);
      pushed = rw h (stays _ w.pushed);
    }
moved old new (event ∷ events) w h =
    let s = step old h.0 event w h.1 in
    let v : AreWords (counts_of h.0) = record {
      accepted = rw s.accepted (omega arith);
      refused = rw s.refused (omega arith);
      dropped = rw s.dropped (omega arith);
      pushed = rw s.pushed (omega arith);
    } in
    let r = moved h.0 new events v h.2 in
    record {
      order = joined _ (took event) (flat_map took events) (let_go event) _ _ _ s.order r.order;
      once = once_more (pushed_by event) _ _ (accepted_by event) _ _ (refused_by event) _ _ (dropped_by event) _ _ _ _ _
          (sum_by-cons pushed_by event events) (sum_by-cons accepted_by event events) (sum_by-cons refused_by event events)
          (sum_by-cons dropped_by event events) s.once r.once;
      accepted = twice _ _ _ _ _ _ s.accepted r.accepted (sum_by-cons accepted_by event events);
      refused = twice _ _ _ _ _ _ s.refused r.refused (sum_by-cons refused_by event events);
      dropped = twice _ _ _ _ _ _ s.dropped r.dropped (sum_by-cons dropped_by event events);
      pushed = twice _ _ _ _ _ _ s.pushed r.pushed (sum_by-cons pushed_by event events);
    }

held_none : {X : Type 0} (held : List X) (p n : ℕ) → held ≡ [] → p + length held ≡ n → p ≡ n
held_none held p n e h = let s = size held [] e in omega (arith, s, h)

from_none : (old n x : ℕ) → old ≡ 0 → x ≡ capped (old + n) → x ≡ capped n
from_none old n x e h = omega arith

-- no run of a queue that was new loses a span
pub loses_none : (config : BatchConfig) (old new : Batches) (events : List Event) → IsNew config old → Run old events new → LosesNone events new
loses_none config old new events n h =
    let e = n.counts in
    let w : AreWords (counts_of old) = rw e (record { accepted = omega arith; refused = omega arith; dropped = omega arith; pushed = omega arith }) in
    let m = moved old new events w h in
    record {
      order = rw n.held at m.order;
      once = held_none (held_by old) _ _ n.held m.once;
      accepted = from_none _ _ _ (ap (λ (c : Counts). c.accepted) e) m.accepted;
      refused = from_none _ _ _ (ap (λ (c : Counts). c.refused) e) m.refused;
      dropped = from_none _ _ _ (ap (λ (c : Counts). c.dropped) e) m.dropped;
      pushed = from_none _ _ _ (ap (λ (c : Counts). c.pushed) e) m.pushed;
    }
