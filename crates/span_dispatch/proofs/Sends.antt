-- What a call that asks by metadata goes by, from what asking by these metadata went by.
use Rattle.std.proofs.Common.{◌≡◌, Bool, true, false, Result, Ok, Err, ap, subst}
use Rattle.span_core.specs.declared.error.TraceError.TheVariants.{CallsiteMismatch}
use Rattle.span_core.specs.declared.error.TraceError.{TraceError}
use Rattle.span_core.specs.declared.metadata.Metadata.{Metadata}
use Rattle.span_dispatch.specs.Contract.{GoesByKept}
use Rattle.span_dispatch.specs.Serve.{with_stack}
use Rattle.span_dispatch.specs.declared.dispatch.Dispatch.{Dispatch}

-- of the metadata that are the same
pub of_same : {S A : Type 0} (refuses : Metadata → TraceError → Type 0) (m n : Metadata) (dropped : A) (given : Result A TraceError) (old new : Dispatch S)
    → m ≡ n → GoesByKept m dropped (refuses m) given old new → GoesByKept n dropped (refuses n) given old new
of_same refuses m n dropped given old new e h = subst (λ k. GoesByKept k dropped (refuses k) given old new) e h

module _ {S A : Type 0} {m : Metadata} {before : TraceError → Type 0} {old new : Dispatch S} (dropped : A) (refuses : TraceError → Type 0) where
  -- where it is dropped
  pub dropped_by : {b : Bool} → GoesByKept m false before (Ok b) old new → GoesByKept m dropped refuses (Ok dropped) old new
  dropped_by {b} h = record {
    hint = h.hint;
    learned = h.learned;
    keeps = h.keeps;
    above = λ a i. Ok dropped;
    mismatch = λ r. let no : Ok b ≡ Err CallsiteMismatch = h.mismatch r in absurd (cc);
    refused = tt;
  }

  -- where it is let by, and this is made
  pub made_by : {b : Bool} (made : A) (x : S)
      → b ≡ true → GoesByKept m false before (Ok b) old new → GoesByKept m dropped refuses (Ok made) old (with_stack new x)
  made_by {b} made x said h = record {
    hint = h.hint;
    learned = h.learned;
    keeps = h.keeps;
    above = λ a. let no : Ok b ≡ Ok false = h.above a in absurd (cc);
    mismatch = λ r. let no : Ok b ≡ Err CallsiteMismatch = h.mismatch r in absurd (cc);
    refused = tt;
  }

  -- where it is let by, and refused then
  pub refused_then : {b : Bool} (e : TraceError) (x : S)
      → b ≡ true → refuses e → GoesByKept m false before (Ok b) old new → GoesByKept m dropped refuses (Err e) old (with_stack new x)
  refused_then {b} e x said why h = record {
    hint = h.hint;
    learned = h.learned;
    keeps = tt;
    above = λ a. let no : Ok b ≡ Ok false = h.above a in absurd (cc);
    mismatch = λ r. let no : Ok b ≡ Err CallsiteMismatch = h.mismatch r in absurd (cc);
    refused = why;
  }

  -- where it is refused at once
  pub refused_first : {e : TraceError} → refuses e → GoesByKept m false before (Err e) old new → GoesByKept m dropped refuses (Err e) old new
  refused_first {e} why h = record {
    hint = h.hint;
    learned = h.learned;
    keeps = tt;
    above = λ a. let no : Err e ≡ Ok false = h.above a in absurd (cc);
    mismatch = λ r. let it : Err e ≡ Err CallsiteMismatch = h.mismatch r in let same : e ≡ CallsiteMismatch = cc in ap (λ x. Err x) same;
    refused = why;
  }
