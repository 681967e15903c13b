-- What a thread has sent, after one step more.
use Rattle.std.proofs.Common.{◌≡◌, ℕ, ◌+◌, List, [], ◌∷◌, ◌++◌, String, refl, append-nil, append_assoc, arith, length, ◌∙◌}
use Rattle.std.specs.declared.alloc.Global.{Global}
use Rattle.rtrb.specs.Ring.{SameConsumer, received}
use Rattle.rtrb.specs.declared.consumer.Consumer.{Consumer}
use Rattle.span_sender.specs.Post.{Posts}
use Rattle.span_sender.specs.Run.{Sends}
use Rattle.span_sender.specs.Worker.{HasSent}
use Rattle.span_sender.specs.declared.worker.Worker.{Worker}
use Rattle.span_sender.proofs.Sending.{Sends-none, Sends-trans}

pub SameConsumer-trans : {T A Q : Type 0} (a b c : Consumer T A Q) → SameConsumer a b → SameConsumer b c → SameConsumer a c
SameConsumer-trans a b c h k = ((k.0.0 ∙ h.0.0, k.0.1 ∙ h.0.1, k.0.2 ∙ h.0.2, k.0.3 ∙ h.0.3), k.1 ∙ h.1)

pub goes_on : {P C : Type 0} (posted : P → Posts) (first old new : Worker P C) (more : List (String Global)) → HasSent posted first old
    → SameConsumer old.queue new.queue → received new.queue ≡ received old.queue ++ more
    → Sends old.batches new.batches (posted old.poster) (posted new.poster) more → HasSent posted first new
goes_on posted first old new more h same e s =
    record {
      queue_same = SameConsumer-trans first.queue old.queue new.queue h.queue_same same;
      sends = rw e (Sends-trans _ _ _ _ _ _ _ more h.sends s);
    }

pub goes_on_alone : {P C : Type 0} (posted : P → Posts) (first old new : Worker P C) → HasSent posted first old
    → new.queue ≡ old.queue
    → Sends old.batches new.batches (posted old.poster) (posted new.poster) [] → HasSent posted first new
goes_on_alone posted first old new h e s =
    record {
      queue_same = rw e h.queue_same;
      sends = rw (e, ← append-nil (received old.queue)) (Sends-trans _ _ _ _ _ _ _ [] h.sends s);
    }

-- a queue of which one more was popped
pub popped_all : {X : Type 0} (r0 r1 k0 k1 whole : List X) (x : X) → r1 ≡ r0 ++ x ∷ [] → k0 ≡ x ∷ k1 → r0 ++ k0 ≡ whole → r1 ++ k1 ≡ whole
popped_all r0 r1 k0 k1 whole x e f h = rw (e, append_assoc r0 (x ∷ []) k1) (rw f at h)

pub popped_left : {X : Type 0} (n m : ℕ) (k0 k1 : List X) (x : X) → k0 ≡ x ∷ k1 → n + length k0 ≡ m → n + 1 + length k1 ≡ m
popped_left n m k0 k1 x f h = let e : n + length (x ∷ k1) ≡ m = rw f at h in omega (arith, e)

-- a thread that began has sent nothing
pub begun : {P C : Type 0} (posted : P → Posts) (w : Worker P C) → received w.queue ≡ [] → HasSent posted w w
begun posted w e =
    record {
      queue_same = ((refl, refl, refl, refl), refl);
      sends = rw e (Sends-none w.batches (posted w.poster));
    }
