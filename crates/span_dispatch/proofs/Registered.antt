-- What was registered stays so.
use Rattle.std.proofs.Common.{◌≡◌, ◌≤◌, ◌<◌, ◌+◌, ◌==◌, if◌then◌else◌, ℕ, Bool, true, false, Option, Some, None, sym, ap, subst, refl, arith, min, ◌∙◌}
use Rattle.std.proofs.lemmas.Bool.{eqb-true}
use Rattle.std.specs.Prelude.{IfSome}
use Rattle.span_core.specs.Metadata.{ShowSame}
use Rattle.span_core.specs.declared.interest.Interest.{Interest}
use Rattle.span_core.specs.declared.interest.Interest.TheVariants.{Always}
use Rattle.span_core.specs.declared.metadata.Metadata.{Metadata}
use Rattle.span_dispatch.specs.Cache.{KnowsInterest, entry_in}
use Rattle.span_dispatch.specs.private.Interest.{KnowsStill}
use Rattle.span_dispatch.specs.private.Registration.{IsRegisteredAs, interest_in, kept_interest}
use Rattle.span_dispatch.specs.declared.registration.Registration.{Registration}
use Rattle.span_dispatch.specs.Registration.{HoldsStill, KeepsRegistered, last_epoch, next_epoch, registered_metadata}
use Rattle.span_dispatch.specs.declared.cache.Cache.{Cache}
use Rattle.span_dispatch.specs.declared.dispatch.Dispatch.{Dispatch}
use Rattle.span_dispatch.specs.declared.registration.Epoch.{Epoch}
use Rattle.span_dispatch.specs.declared.registration.Kept.{Kept}

-- what one cache knows the next does
pub knows_still : (old new : Cache) (m : Metadata) (i : Interest) → KnowsStill old new → KnowsInterest old m i → KnowsInterest new m i
knows_still old new m i still k = record { metadata = k.metadata; there = still _ _ k.there; same = k.same }

-- of whatever may be there
if_some : {A : Type 0} {P Q : A → Type 0} → ((x : A) → P x → Q x) → (o : Option A) → IfSome o P → IfSome o Q
if_some to None h = tt
if_some to (Some x) h = to x h

module _ {S : Type 0} (old new : Dispatch S) where
  -- in the same epoch, where all is known that was
  pub registered_still : new.epoch ≡ old.epoch → KnowsStill old.cache new.cache → KeepsRegistered old new
  registered_still same still r h = record {
    kept = if_some (λ k e. holds k e) r.kept h.kept;
    always = record {
      past = subst (λ (x : Epoch). r.always_until ≤ x.0 + 1) (sym same) h.always.past;
      ends = h.always.ends;
      holds = λ lt. knows_still old.cache new.cache (registered_metadata r) Always still
          (h.always.holds (subst (λ (x : Epoch). x.0 < r.always_until) same lt));
    };
  }
    where
      holds : (k : Kept) → HoldsStill old (registered_metadata r) k → HoldsStill new (registered_metadata r) k
      holds k e = record {
        past = subst (λ (x : Epoch). k.epoch.0 ≤ x.0) (sym same) e.past;
        ends = e.ends;
        holds = λ at. knows_still old.cache new.cache (registered_metadata r) k.interest still (e.holds (at ∙ ap (λ (x : Epoch). x.0) same));
      }

  -- in the next epoch, whatever is known then
  pub registered_before : new.epoch ≡ next_epoch old.epoch → KeepsRegistered old new
  registered_before next r h = record {
    kept = if_some (λ k e. holds k e) r.kept h.kept;
    always = record {
      past = subst (λ (x : Epoch). r.always_until ≤ x.0 + 1) (sym next) (on r.always_until old.epoch.0 h.always.past h.always.ends);
      ends = h.always.ends;
      holds = λ lt. absurd (over r.always_until old.epoch.0 h.always.past h.always.ends (subst (λ (x : Epoch). x.0 < r.always_until) next lt));
    };
  }
    where
      on : (u m : ℕ) → u ≤ m + 1 → u ≤ last_epoch → u ≤ min (m + 1) last_epoch + 1
      on u m le lt = grind (arith)

      over : (u m : ℕ) → u ≤ m + 1 → u ≤ last_epoch → min (m + 1) last_epoch < u → ⊥
      over u m le lt e = grind (arith)

      holds : (k : Kept) → HoldsStill old (registered_metadata r) k → HoldsStill new (registered_metadata r) k
      holds k e = record {
        past = subst (λ (x : Epoch). k.epoch.0 ≤ x.0) (sym next) (later k.epoch.0 old.epoch.0 e.past e.ends);
        ends = e.ends;
        holds = λ at. absurd (never k.epoch.0 old.epoch.0 e.past e.ends (at ∙ ap (λ (x : Epoch). x.0) next));
      }
        where
          later : (n m : ℕ) → n ≤ m → n < last_epoch → n ≤ min (m + 1) last_epoch
          later n m le lt = grind (arith)

          never : (n m : ℕ) → n ≤ m → n < last_epoch → n ≡ min (m + 1) last_epoch → ⊥
          never n m le lt e = grind (arith)

-- what shows the same as another, and that as a third
show_same : (x y z : Metadata) → ShowSame x y → ShowSame y z → ShowSame x z
show_same x y z h k = record {
  callsite = h.callsite ∙ k.callsite;
  name = h.name ∙ k.name;
  target = h.target ∙ k.target;
  level = h.level ∙ k.level;
  kind = h.kind ∙ k.kind;
  fields = h.fields ∙ k.fields;
}

-- the interest of a valid registration is cached
module _ {S : Type 0} (d : Dispatch S) (m : Metadata) (r : Registration) (i : Interest) (h : IsRegisteredAs m d r) where
  by_test : (k : Kept) → HoldsStill d (registered_metadata r) k → (b : Bool) → (k.epoch.0 == d.epoch.0) ≡ b
      → (if b then Some k.interest else None) ≡ Some i → KnowsInterest d.cache m i
  by_test k v false t e = absurd (cc)
  by_test k v true t e =
      let known = v.holds (eqb-true k.epoch.0 d.epoch.0 t) in
      let it : k.interest ≡ i = cc in
      record {
        metadata = known.metadata;
        there = subst (λ n. entry_in d.cache n ≡ Some (record { metadata = known.metadata; interest = i })) h.same.callsite
            (known.there ∙ ap (λ j. Some (record { metadata = known.metadata; interest = j })) it);
        same = show_same known.metadata (registered_metadata r) m known.same h.same;
      }

  by_kept : (k : Option Kept) → IfSome k (HoldsStill d (registered_metadata r)) → kept_interest d.epoch k ≡ Some i → KnowsInterest d.cache m i
  by_kept None v e = absurd (cc)
  by_kept (Some k) v e = by_test k v (k.epoch.0 == d.epoch.0) refl e

  pub registered_interest : interest_in d.epoch r ≡ Some i → KnowsInterest d.cache m i
  registered_interest e = by_kept r.kept h.valid.kept e

-- what shows the same as metadata that are cached is cached, too
pub known_as : {S : Type 0} (d : Dispatch S) (m : Metadata) (r : Registration) (i : Interest) → ShowSame (registered_metadata r) m
    → KnowsInterest d.cache (registered_metadata r) i → KnowsInterest d.cache m i
known_as d m r i same known = record {
  metadata = known.metadata;
  there = subst (λ n. entry_in d.cache n ≡ Some (record { metadata = known.metadata; interest = i })) same.callsite known.there;
  same = show_same known.metadata (registered_metadata r) m known.same same;
}

-- before the epoch until which it is, the interest of a valid registration is cached as always
pub registered_always : {S : Type 0} (d : Dispatch S) (m : Metadata) (r : Registration) → IsRegisteredAs m d r → d.epoch.0 < r.always_until
    → KnowsInterest d.cache m Always
registered_always d m r h lt = known_as d m r Always h.same (h.valid.always.holds lt)
