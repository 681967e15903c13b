-- What runs of calls post.
use Rattle.std.proofs.Common.{◌≡◌, ℕ, List, [], ◌∷◌, ◌++◌, String, refl, ap, sym, ◌∙◌, append_assoc, append-nil}
use Rattle.std.proofs.lemmas.Grind.{flat_map-append}
use Rattle.std.specs.Prelude.{Option, None, Some}
use Rattle.std.specs.declared.alloc.Global.{Global}
use Rattle.span_sender.specs.Post.{Grows}
use Rattle.span_sender.specs.Run.{Event, Tried, Run, Sends, Step, TriesOnce, posts, took}
use Rattle.span_sender.specs.declared.answer.Answer.{Answer}
use Rattle.span_sender.specs.declared.batches.Batches.{Batches}

-- a run, and then another
Run-append : (a b c : Batches) (es fs : List Event) → Run a es b → Run b fs c → Run a (es ++ fs) c
Run-append a b c [] fs p q = rw (sym p) q
Run-append a b c (e ∷ es) fs p q = (p.0, p.1, Run-append p.0 b c es fs p.2 q)

Grows-none : (p : Option (List (List ℕ × Answer))) → Grows p p []
Grows-none None = tt
Grows-none (Some xs) = sym (append-nil xs)

Grows-trans : (p q r : Option (List (List ℕ × Answer))) (m n : List (List ℕ × Answer)) → Grows p q m → Grows q r n → Grows p r (m ++ n)
Grows-trans None q r m n a b = tt
Grows-trans (Some xs) None r m n a b = absurd a
Grows-trans (Some xs) (Some ys) None m n a b = absurd b
Grows-trans (Some xs) (Some ys) (Some zs) m n a b = b ∙ ap (λ l. l ++ n) a ∙ append_assoc xs m n

-- nothing is sent by one call that isn't of a batch
pub one : (a b : Batches) (event : Event) (p : Option (List (List ℕ × Answer))) → posts event ≡ [] → Step a event b → Sends a b p p (took event)
one a b event p none h =
    record {
      events = event ∷ [];
      run = (b, h, refl);
      taken = append-nil (took event);
      posted = rw none (Grows-none p);
    }

-- what a call sends that is of a batch
pub tried : (a b : Batches) (p q : Option (List (List ℕ × Answer))) → TriesOnce a b p q → Sends a b p q []
tried a b p q h =
    record {
      events = Tried _ h.answer h.fate h.now ∷ [];
      run = (b, h.told, refl);
      taken = refl;
      posted = h.posted;
    }

-- no call
pub Sends-none : (a : Batches) (p : Option (List (List ℕ × Answer))) → Sends a a p p []
Sends-none a p = record { events = []; run = refl; taken = refl; posted = Grows-none p }

-- one after the other
pub Sends-trans : (a b c : Batches) (p q r : Option (List (List ℕ × Answer))) (xs ys : List (String Global))
    → Sends a b p q xs → Sends b c q r ys → Sends a c p r (xs ++ ys)
Sends-trans a b c p q r xs ys h k =
    record {
      events = h.events ++ k.events;
      run = Run-append a b c h.events k.events h.run k.run;
      taken = rw (flat_map-append took h.events k.events, h.taken, k.taken) refl;
      posted = rw (flat_map-append posts h.events k.events) (Grows-trans p q r _ _ h.posted k.posted);
    }
