-- How a cache gives an interest, and holds memory for callsites.
use Rattle.std.specs.Prelude.{◌≡◌, ℕ, true, false, Some, None, Result, Ok, Err, IfErr, IfOk, OnErr, OnOk}
use Rattle.std.specs.Option.{option_map}
use Rattle.span_core.specs.Metadata.{callsite_of, ShowSame}
use Rattle.span_core.specs.declared.error.TraceError.TheVariants.{CallsiteMismatch}
use Rattle.span_core.specs.declared.error.TraceError.{TraceError}
use Rattle.span_core.specs.declared.interest.Interest.TheVariants.{Always, Never, Sometimes}
use Rattle.span_core.specs.declared.interest.Interest.{Interest}
use Rattle.span_core.specs.declared.metadata.Metadata.{Metadata}
use Rattle.span_dispatch.specs.Cache.{Agrees, IsUpToDate, KeptCallsites, ReadsOnce, RefusesBelow, RefusesRoom, hint_in, is_above_read, kept_in, with_room, entry_in, known_of}
use Rattle.span_dispatch.specs.declared.cache.Cache.{Cache}
use Rattle.span_stacks.specs.Honest.{HasHonestAnswers}
use Rattle.span_store.specs.Store.{RegistryState}
use Rattle.span_registry.specs.Form.{Form}
use Rattle.span_registry.specs.Question.{interest_of, is_never}
use Rattle.span_dispatch.specs.declared.cache.Callsite.{Callsite}
use Rattle.span_dispatch.specs.declared.cache.Known.{Known}
use Rattle.span_dispatch.specs.Admission.{MayLearn, deciding_interest, interests_nobody, is_above_hint, learned_if}

-- a filled cache has this entry of the metadata's callsite, with metadata that show the same
pub record IsKept (k : Known) (m : Metadata) (one : Callsite) : Type 0 where
  pub there : known_of k (callsite_of m) ≡ Some one
  pub same : ShowSame one.metadata m

-- each entry of the old cache is in the new one
abbrev pub KnowsStill : Cache → Cache → Type 0
KnowsStill old new =
    (n : ℕ) (one : Callsite) → entry_in old n ≡ Some one → entry_in new n ≡ Some one

-- the interest that decides a question by metadata: never above the hint, sometimes where a
-- dispatcher is uncached, else the stack's
pub record IsInterestBy (memory : KeptCallsites) (f : Form) (filters : ℕ) (m : Metadata)
    (after : KeptCallsites) (i : Interest) : Type 0 where
  pub above : is_above_hint memory f m ≡ true → i ≡ Never
  pub agrees : is_above_hint memory f m ≡ false → Agrees memory m
  pub never : is_above_hint memory f m ≡ false → interests_nobody memory f filters m ≡ is_never i
  pub always : i ≡ Always → (interest_of f m filters None).0 ≡ Always
  pub learned : after ≡ learned_if (is_above_hint memory f m) memory m

-- the interest that decides a question by metadata is found; or it can't be had, and what is cached
-- is unchanged
abbrev pub HasInterestBy : KeptCallsites → Form → ℕ → Metadata → KeptCallsites
    → Result Interest TraceError → Type 0
HasInterestBy memory f filters m after (Ok i) = IsInterestBy memory f filters m after i
HasInterestBy memory f filters m after (Err e) =
    (is_above_hint memory f m ≡ false) × (after ≡ memory)

-- A cache gives an interest. Of any stack: the interest is never above the cached hint, and below
-- it a callsite that is cached with other metadata is refused; a refusal leaves what is cached
-- unchanged. Of an honest stack with a cache up to date: it is the stack's own, and the cache stays
-- up to date.
pub record GivesInterest {S : Type 0} (registry : S → RegistryState) (has_form : S → Form → Type 0)
    (x : S) (m : Metadata) (i : Result Interest TraceError) (old new : Cache) : Type 0 where
  pub off : kept_in old ≡ None → i ≡ Ok Sometimes
  pub learns : MayLearn (kept_in old) m (kept_in new)
  pub keeps : OnOk i (kept_in new ≡ learned_if (is_above_read (hint_in new) m) (kept_in old) m)
  pub leaves : OnErr i (kept_in new ≡ kept_in old)
  pub reads : ReadsOnce (kept_in old) (hint_in old) (hint_in new)
  pub above : is_above_read (hint_in new) m ≡ true → i ≡ Ok Never
  pub mismatch : RefusesBelow (hint_in old) (kept_in old) m CallsiteMismatch
      → i ≡ Err CallsiteMismatch
  pub refused : IfErr i (RefusesBelow (hint_in old) (kept_in old) m)
  pub by_form : (f : Form) → has_form x f → HasHonestAnswers f
      → IsUpToDate f (registry x).filters old
      → HasInterestBy (kept_in old) f (registry x).filters m (kept_in new) i
  pub decides : IfOk i
      (λ i. (f : Form) → has_form x f → IsUpToDate f (registry x).filters old
      → i ≡ deciding_interest (kept_in old) f (registry x).filters m)
  pub kept : (f : Form) → has_form x f → IsUpToDate f (registry x).filters old
      → IsUpToDate f (registry x).filters new
  pub lasts : KnowsStill old new

-- A cache holds memory for this many callsites more, unless it is off. Each callsite that it knew
-- stays known, and it stays up to date.
pub record HoldsRoom {S A : Type 0} (registry : S → RegistryState) (has_form : S → Form → Type 0)
    (x : S) (n : ℕ) (given : Result A TraceError) (old new : Cache) : Type 0 where
  pub held : OnOk given (kept_in new ≡ option_map (with_room n) (kept_in old))
  pub leaves : OnErr given (kept_in new ≡ kept_in old)
  pub reads : ReadsOnce (kept_in old) (hint_in old) (hint_in new)
  pub refused : IfErr given (RefusesRoom n (kept_in old))
  pub kept : (f : Form) → has_form x f → IsUpToDate f (registry x).filters old
      → IsUpToDate f (registry x).filters new
  pub lasts : KnowsStill old new
