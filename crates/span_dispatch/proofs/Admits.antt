-- Which interest a cache gives, and what comes of it.
use Rattle.std.proofs.Common.{◌≡◌, ◌&&◌, ◌-◌, ℕ, Bool, true, false, not, ◌==◌, if◌then◌else◌, Option, Some, None, Result, Ok, Err, inl, inr, refl, sym, ap}
use Rattle.std.proofs.Common.{subst, ◌∙◌}
use Rattle.std.proofs.lemmas.Bool.{eqb-true, false≢true, not-false, not-true, true≢false}
use Rattle.std.specs.Prelude.{⊤, IfErr, IfOk, IsSome, OnErr, OnOk, is_some}
use Rattle.std.specs.Option.{option_map, unwrap_or}
use Rattle.span_core.specs.Filters.{FilterSet, IsEmpty}
use Rattle.span_core.specs.Level.{is_above}
use Rattle.span_core.specs.Metadata.{ShowSame, callsite_of, level_of}
use Rattle.span_core.specs.Pass.{interest_sum}
use Rattle.span_core.specs.declared.error.TraceError.TheVariants.{OutOfMemory}
use Rattle.span_core.specs.declared.error.TraceError.{TraceError}
use Rattle.span_core.specs.declared.interest.Interest.TheVariants.{Always, Never, Sometimes}
use Rattle.span_core.specs.declared.interest.Interest.{Interest}
use Rattle.span_core.specs.declared.metadata.Metadata.{Metadata}
use Rattle.span_core.specs.declared.pass.Pass.{Pass}
use Rattle.span_core.specs.declared.span.Lane.{Lane}
use Rattle.span_dispatch.specs.Admission.{IsDecided, MayLearn, interests_nobody, is_above_hint}
use Rattle.span_dispatch.specs.private.Step.{IsAdmitted}
use Rattle.span_dispatch.specs.private.Interest.{GivesInterest, HasInterestBy, IsInterestBy}
use Rattle.span_dispatch.specs.Admission.{decided, decided_by, deciding_interest, is_let_by, learned_if}
use Rattle.span_dispatch.specs.Cache.{Callsites, KnowsInterest, MatchesStack, KeptCallsites, ReadHint, ReadsOnce, RefusesBelow, RefusesInterest, callsites_of}
use Rattle.span_dispatch.specs.Cache.{hint_in}
use Rattle.span_dispatch.specs.Cache.{is_above_read, kept_in, known_of, no_callsite, with_callsite}
use Rattle.span_dispatch.specs.declared.cache.Cache.TheVariants.{Empty, Filled, Off}
use Rattle.span_dispatch.specs.declared.cache.Cache.{Cache}
use Rattle.span_dispatch.specs.declared.cache.Callsite.{Callsite}
use Rattle.span_dispatch.specs.declared.cache.Known.{Known}
use Rattle.span_stacks.proofs.Asked.{asked_by_all}
use Rattle.span_stacks.proofs.Built.{rules_of}
use Rattle.span_stacks.proofs.Hint.{above_is_unwanted}
use Rattle.span_stacks.proofs.HonestKept.{alike_interest}
use Rattle.span_stacks.proofs.Interest.{always_is_wanted, never_is_unwanted, only_never}
use Rattle.span_stacks.proofs.Pass.{asked_unless_vetoed}
use Rattle.span_stacks.specs.Honest.{IsHonestStack}
use Rattle.span_stacks.specs.Verdict.{vetoes}
use Rattle.span_stacks.specs.Wanted.{IsUnwanted}
use Rattle.span_store.specs.Store.{RegistryState}
use Rattle.span_registry.specs.Form.{Form}
use Rattle.span_registry.specs.Hooks.{AnswersEnabled, AnswersInterest, no_filter}
use Rattle.span_registry.specs.Question.{asked, hint_of, interest_of, is_never, refusals}

-- ---- what hint and interest say

unwanted_above : (memory : KeptCallsites) (f : Form) (s : RegistryState) (lane : Lane) (m : Metadata)
    → IsHonestStack f s.filters → is_above_hint memory f m ≡ true → IsUnwanted f m s.store lane.0
unwanted_above None f s lane m honest e = absurd (false≢true e)
unwanted_above (Some callsites) f s lane m honest e = above_is_unwanted f s.filters m s.store lane.0 honest e

unwanted_never : (memory : KeptCallsites) (f : Form) (s : RegistryState) (lane : Lane) (m : Metadata)
    → IsHonestStack f s.filters → interests_nobody memory f s.filters m ≡ true → IsUnwanted f m s.store lane.0
unwanted_never None f s lane m honest e = absurd (false≢true e)
unwanted_never (Some callsites) f s lane m honest e = never_is_unwanted f s.filters m s.store lane.0 honest (only_never _ e)

module _ (memory : KeptCallsites) (f : Form) (s : RegistryState) (lane : Lane) (m : Metadata) (after : KeptCallsites) (honest : IsHonestStack f s.filters) where
  -- whether no leaf vetoes
  abbrev Unvetoed : Bool
  Unvetoed = not (vetoes f m s.store lane.0)

  -- hint and interest let by what has any other interest than never
  let_by : (i : Interest) → IsInterestBy memory f s.filters m after i → is_let_by memory f s.filters m ≡ not (is_never i)
  let_by i h = by_hint (is_above_hint memory f m) refl
    where
      by_hint : (b : Bool) → is_above_hint memory f m ≡ b → is_let_by memory f s.filters m ≡ not (is_never i)
      by_hint true e = ap (λ a. not a && not (interests_nobody memory f s.filters m)) e ∙ sym (ap (λ j. not (is_never j)) (h.above e))
      by_hint false e = ap (λ a. not a && not (interests_nobody memory f s.filters m)) e ∙ ap not (h.never e)

  -- what the interest says, and then the leaves
  decided_so : (i j : Interest) (said : Bool) → IsInterestBy memory f s.filters m after i
      → i ≡ j → said ≡ not (is_never j) && Unvetoed → IsDecided memory f s lane m (vetoes f m s.store lane.0) said after
  decided_so i j said h same e = record {
    agrees = h.agrees;
    wanted = e ∙ sym (ap (λ k. not (is_never k) && Unvetoed) same) ∙ sym (ap (λ b. b && Unvetoed) (let_by i h));
    unwanted = by_hint (is_above_hint memory f m) refl;
    learned = h.learned;
  }
    where
      by_hint : (b : Bool) → is_above_hint memory f m ≡ b → is_let_by memory f s.filters m ≡ false → IsUnwanted f m s.store lane.0
      by_hint true above out = unwanted_above memory f s lane m honest above
      by_hint false below out =
          unwanted_never memory f s lane m honest (not-false _ (sym (ap (λ a. not a && not (interests_nobody memory f s.filters m)) below) ∙ out))

  -- never: they are ruled out
  pub admits_never : (pass : Pass) (i : Interest) → IsInterestBy memory f s.filters m after i → i ≡ Never → IsAdmitted memory f s lane m pass after (Ok false)
  admits_never pass i h same = (decided_so i Never false h same refl, λ no. absurd (false≢true no))

  -- where all are asked, a leaf vetoes or none does
  said_so : (said : Bool) → said ≡ (asked f m s.store lane.0 no_filter no_filter).0 → said ≡ Unvetoed
  said_so said e = e ∙ asked_unless_vetoed f m s.store lane.0 no_filter (rules_of f s.filters honest).orderly

  -- always: nothing is asked, and a new pass stays as it is
  pub admits_always : (pass : Pass) (i : Interest)
      → IsInterestBy memory f s.filters m after i → i ≡ Always → IsEmpty (refusals pass) → IsAdmitted memory f s lane m pass after (Ok true)
  admits_always pass i h same empty =
      let wanted = always_is_wanted f s.filters m s.store lane.0 honest (h.always same) in
      let asks : asked f m s.store lane.0 no_filter no_filter ≡ (true, refusals pass) =
      asked_by_all f s.filters m s.store lane.0 honest wanted ∙ (λ k. (true, λ n. sym (empty n) k)) in
      (decided_so i Always true h same (said_so true (sym (ap (λ (p : Bool × FilterSet). p.0) asks))), λ e. asks)

  -- sometimes: all are asked
  pub admits_asked : {S : Type 0} (registry : S → RegistryState) (has_form : S → Form → Type 0) (x : S) (fresh pass : Pass) (i : Interest) (said : Bool)
      → registry x ≡ s → has_form x f → IsInterestBy memory f s.filters m after i → i ≡ Sometimes → IsEmpty (refusals fresh)
      → AnswersEnabled registry has_form x lane m fresh said pass → IsAdmitted memory f s lane m pass after (Ok said)
  admits_asked registry has_form x fresh pass i said at d h same empty a = (
    decided_so i Sometimes said h same (said_so said ((a f d).answer ∙ sym (ap (λ (p : Bool × FilterSet). p.0) here))),
    λ e. here ∙ (λ k. ((sym (a f d).answer ∙ e) k, sym (a f d).refused k)),
  )
    where
      here : asked f m s.store lane.0 no_filter no_filter ≡ asked f m (registry x).store lane.0 no_filter (refusals fresh)
      here = λ k. asked f m (sym at k).store lane.0 no_filter (λ n. sym (empty n) k)

-- ---- what is decided of any stack

module _ (memory : KeptCallsites) (f : Form) (s : RegistryState) (lane : Lane) (m : Metadata) (i : Interest)
    (decides : i ≡ deciding_interest memory f s.filters m) where
  -- what the interest decides is decided
  by_interest : (j : Interest) → i ≡ j → decided_by j (asked f m s.store lane.0 no_filter no_filter) ≡ decided memory f s lane m
  by_interest j same = ap (λ k. decided_by k (asked f m s.store lane.0 no_filter no_filter)) (sym same ∙ decides)

  pub decides_never : (pass : Pass) → i ≡ Never → IsEmpty (refusals pass) → (false, refusals pass) ≡ decided memory f s lane m
  decides_never pass same empty = (λ k. (false, λ n. empty n k)) ∙ by_interest Never same

  pub decides_always : (pass : Pass) → i ≡ Always → IsEmpty (refusals pass) → (true, refusals pass) ≡ decided memory f s lane m
  decides_always pass same empty = (λ k. (true, λ n. empty n k)) ∙ by_interest Always same

  pub decides_asked : {S : Type 0} (registry : S → RegistryState) (has_form : S → Form → Type 0) (x : S) (fresh pass : Pass) (said : Bool)
      → registry x ≡ s → has_form x f → i ≡ Sometimes → IsEmpty (refusals fresh)
      → AnswersEnabled registry has_form x lane m fresh said pass → (said, refusals pass) ≡ decided memory f s lane m
  decides_asked registry has_form x fresh pass said at d same empty a =
      (λ k. ((a f d).answer k, (a f d).refused k)) ∙ (λ k. asked f m (at k).store lane.0 no_filter (λ n. empty n k)) ∙ by_interest Sometimes same

-- ---- what a cache gives

-- where the same is known, the same holds of it
pub matches_still : (f : Form) (filters : ℕ) (k l : Known)
    → l.hint ≡ k.hint → ((n : ℕ) → known_of l n ≡ known_of k n) → MatchesStack f filters k → MatchesStack f filters l
matches_still f filters k l hint same u = record {
  hint = hint ∙ u.hint;
  number = λ n one e. u.number n one (sym (same n) ∙ e);
  interest = λ n one e. u.interest n one (sym (same n) ∙ e);
}

-- where nothing is known yet but the hint
pub nothing_matches : (f : Form) (filters : ℕ) (k : Known) → k.hint ≡ hint_of f → ((n : ℕ) → known_of k n ≡ None) → MatchesStack f filters k
nothing_matches f filters k hint nothing = record {
  hint = hint;
  number = λ n one e. let no : None ≡ Some one = sym (nothing n) ∙ e in absurd (cc);
  interest = λ n one e. let no : None ≡ Some one = sym (nothing n) ∙ e in absurd (cc);
}

pub nothing_kept : (k : Known) → ((n : ℕ) → known_of k n ≡ None) → k.room ≡ 0 → callsites_of k ≡ no_callsite
nothing_kept k nothing room = λ i. record { known = λ n. option_map (λ (c : Callsite). c.metadata) (nothing n i); room = room i }

-- what is above no hint that is kept afterwards was above none before
pub below_before : (memory : KeptCallsites) (before after : ReadHint) (m : Metadata)
    → ReadsOnce memory before after → is_above_read after m ≡ false → is_above_read before m ≡ false
below_before None (Some hint) after m r e = subst (λ read. is_above_read read m ≡ false) r e
below_before (Some callsites) (Some hint) after m r e = subst (λ read. is_above_read read m ≡ false) r e
below_before other rest after m r e = refl

-- what is let by isn't above it
pub let_by_below : (above : Bool) (given : Result Bool TraceError) → (above ≡ true → given ≡ Ok false) → given ≡ Ok true → above ≡ false
let_by_below true given drops e = let dropped = drops refl in absurd (cc)
let_by_below false given drops e = refl

-- a level that passes is not above
pub passes_below : (passes above : Bool) → passes ≡ not above → passes ≡ true → above ≡ false
passes_below true above e f = not-true above (sym e)
passes_below false above e f = absurd (false≢true f)

pub fails_above : (passes above : Bool) → passes ≡ not above → passes ≡ false → above ≡ true
fails_above true above e f = absurd (true≢false f)
fails_above false above e f = not-false above (sym e)

-- nothing is an entry
no_entry : (one : Callsite) → None ≡ Some one → ⊥
no_entry one e = absurd (cc)

module _ {S : Type 0} (registry : S → RegistryState) (has_form : S → Form → Type 0) (x : S) (m : Metadata) where
  -- the stack's interest in what a filled cache has of the callsite, or else in the metadata
  abbrev known_interest : Form → Known → Interest
  known_interest f k = (interest_of f (unwrap_or ((callsites_of k).known (callsite_of m)) m) (registry x).filters None).0

  -- below the hint it decides
  decides_below : (f : Form) (k : Known) (known : Option Metadata) (i : Interest) → is_above (level_of m) (hint_of f) ≡ false
      → (callsites_of k).known (callsite_of m) ≡ known → i ≡ (interest_of f (unwrap_or known m) (registry x).filters None).0
      → i ≡ deciding_interest (Some (callsites_of k)) f (registry x).filters m
  decides_below f k known i below at same =
      same ∙ sym (ap (λ (o : Option Metadata). (interest_of f (unwrap_or o m) (registry x).filters None).0) at)
      ∙ sym (ap (λ b. if b then Never else known_interest f k) below)

  -- the level is above the hint
  pub gives_above : (k : Known) → is_above (level_of m) k.hint ≡ true → GivesInterest registry has_form x m (Ok Never) (Filled k) (Filled k)
  gives_above k e = record {
    off = λ o. absurd (cc);
    learns = inl refl;
    keeps = sym (ap (λ b. learned_if b (Some (callsites_of k)) m) e);
    leaves = tt;
    reads = refl;
    above = λ a. refl;
    mismatch = λ r. absurd (false≢true (sym r.0 ∙ e));
    refused = tt;
    by_form = λ f d h u.
        let above = ap (is_above (level_of m)) (sym u.hint) ∙ e in
        record {
          above = λ a. refl;
          agrees = λ a. absurd (true≢false (sym above ∙ a));
          never = λ a. absurd (true≢false (sym above ∙ a));
          always = λ a. absurd (cc);
          learned = sym (ap (λ b. learned_if b (Some (callsites_of k)) m) above);
        };
    decides = λ f d u. sym (ap (λ b. if b then Never else (known_interest f k)) (ap (is_above (level_of m)) (sym u.hint) ∙ e));
    kept = λ f d u. u;
    lasts = λ n one e. e;
  }

  -- these and the callsite, which isn't among them
  abbrev with_new : Callsites → Callsites
  with_new c = record { known = λ n. if callsite_of m == n then Some m else c.known n; room = c.room - 1 }

  -- what is kept already is kept still
  kept_still : (c : Callsites) (one : Metadata) → c.known (callsite_of m) ≡ Some one → with_callsite c m ≡ c
  kept_still c one e = ap (λ (o : Option Metadata). if is_some o then c else with_new c) e

  -- what isn't is kept then
  kept_newly : (c : Callsites) → c.known (callsite_of m) ≡ None → with_new c ≡ with_callsite c m
  kept_newly c e = sym (ap (λ (o : Option Metadata). if is_some o then c else with_new c) e)

  -- the callsite is kept with metadata that show the same
  pub gives_kept : (k : Known) (one : Callsite) → is_above (level_of m) k.hint ≡ false
      → known_of k (callsite_of m) ≡ Some one → ShowSame one.metadata m → GivesInterest registry has_form x m (Ok one.interest) (Filled k) (Filled k)
  gives_kept k one passes at same = record {
    off = λ o. absurd (cc);
    learns = inl refl;
    keeps = sym (ap (λ c. Some c) (kept_still (callsites_of k) one.metadata there)) ∙ sym (ap (λ b. learned_if b (Some (callsites_of k)) m) passes);
    leaves = tt;
    reads = refl;
    above = λ a. absurd (false≢true (sym passes ∙ a));
    mismatch = λ r. absurd (r.1.2 (shown r.1.0 r.1.1));
    refused = tt;
    by_form = λ f d h u.
        let below = ap (is_above (level_of m)) (sym u.hint) ∙ passes in
        let interest =
        u.interest (callsite_of m) one at ∙ ap (λ (p : Interest × Option Interest). p.0) (alike_interest f h one.metadata m same (registry x).filters None) in
        record {
          above = λ a. absurd (true≢false (sym a ∙ below));
          agrees = λ a other e. shown other e;
          never = λ a. ap is_never (sym interest);
          always = λ a. sym interest ∙ a;
          learned = sym (ap (λ c. Some c) (kept_still (callsites_of k) one.metadata there)) ∙ sym (ap (λ b. learned_if b (Some (callsites_of k)) m) below);
        };
    decides = λ f d u. decides_below f k (Some one.metadata) one.interest (ap (is_above (level_of m)) (sym u.hint) ∙ passes) there
        (u.interest (callsite_of m) one at);
    kept = λ f d u. u;
    lasts = λ n one e. e;
  }
    where
      there : (callsites_of k).known (callsite_of m) ≡ Some one.metadata
      there = ap (option_map (λ (c : Callsite). c.metadata)) at

      shown : (other : Metadata) → (callsites_of k).known (callsite_of m) ≡ Some other → ShowSame other m
      shown other e =
          let which : Some other ≡ Some one.metadata = sym e ∙ there in let it : other ≡ one.metadata = cc in subst (λ z. ShowSame z m) (sym it) same

  -- an interest that is cached is what the cache gives
  pub gives_cached : (c : Cache) (i : Interest) → KnowsInterest c m i → GivesInterest registry has_form x m (Ok i) c c
  gives_cached Off i h = absurd (no_entry (record { metadata = h.metadata; interest = i }) h.there)
  gives_cached Empty i h = absurd (no_entry (record { metadata = h.metadata; interest = i }) h.there)
  gives_cached (Filled k) i h = gives_kept k (record { metadata = h.metadata; interest = i })
      (ap (λ l. is_above l k.hint) (sym h.same.level) ∙ k.below (callsite_of m) (record { metadata = h.metadata; interest = i }) h.there) h.there h.same

  -- it isn't kept, no memory is held for it, and memory was refused
  pub gives_no_memory : (k l : Known) → is_above (level_of m) k.hint ≡ false
      → known_of k (callsite_of m) ≡ None → k.room ≡ 0 → l.hint ≡ k.hint → l.room ≡ k.room → ((n : ℕ) → known_of l n ≡ known_of k n)
      → GivesInterest registry has_form x m (Err OutOfMemory) (Filled k) (Filled l)
  gives_no_memory k l passes at none hint room same = record {
    off = λ o. absurd (cc);
    learns = inl (ap (λ c. Some c) kept);
    keeps = tt;
    leaves = ap (λ c. Some c) kept;
    reads = ap (λ h. Some h) hint;
    above = λ a. absurd (false≢true (sym passes ∙ ap (is_above (level_of m)) (sym hint) ∙ a));
    mismatch = λ r. let no : Some r.1.0 ≡ None = sym r.1.1 ∙ ap (option_map (λ (c : Callsite). c.metadata)) at in absurd (cc);
    refused = (passes, (ap (option_map (λ (c : Callsite). c.metadata)) at, none));
    by_form = λ f d h u. (ap (is_above (level_of m)) (sym u.hint) ∙ passes, ap (λ c. Some c) kept);
    decides = tt;
    kept = λ f d u. matches_still f (registry x).filters k l hint same u;
    lasts = λ n one e. same n ∙ e;
  }
    where
      kept : callsites_of l ≡ callsites_of k
      kept = λ i. record { known = λ n. option_map (λ (c : Callsite). c.metadata) (same n i); room = room i }

  -- it isn't kept, is asked for, and is kept then
  pub gives_asked : (k l : Known) (i : Interest) (fresh pass : Pass) → is_above (level_of m) k.hint ≡ false → known_of k (callsite_of m) ≡ None
      → l.hint ≡ k.hint → l.room ≡ k.room - 1 → interest_sum fresh ≡ None → AnswersInterest registry has_form x m fresh i pass
      → ((n : ℕ) → known_of l n ≡ if (callsite_of m == n) then Some (record { metadata = m; interest = i }) else known_of k n)
      → GivesInterest registry has_form x m (Ok i) (Filled k) (Filled l)
  gives_asked k l i fresh pass passes at hint room none a updates = record {
    off = λ o. absurd (cc);
    learns = inr (ap (λ c. Some c) grown);
    keeps = ap (λ c. Some c) grown ∙ sym (ap (λ b. learned_if b (Some (callsites_of k)) m) (ap (is_above (level_of m)) hint ∙ passes));
    leaves = tt;
    reads = ap (λ h. Some h) hint;
    above = λ a. absurd (false≢true (sym passes ∙ ap (is_above (level_of m)) (sym hint) ∙ a));
    mismatch = λ r. let no : Some r.1.0 ≡ None = sym r.1.1 ∙ ap (option_map (λ (c : Callsite). c.metadata)) at in absurd (cc);
    refused = tt;
    by_form = λ f d h u.
        let below = ap (is_above (level_of m)) (sym u.hint) ∙ passes in
        record {
          above = λ b. absurd (true≢false (sym b ∙ below));
          agrees = λ b other e. let no : Some other ≡ None = sym e ∙ ap (option_map (λ (c : Callsite). c.metadata)) at in absurd (cc);
          never = λ b. ap is_never (sym (interest f d));
          always = λ b. sym (interest f d) ∙ b;
          learned = ap (λ c. Some c) grown ∙ sym (ap (λ b. learned_if b (Some (callsites_of k)) m) below);
        };
    decides = λ f d u. decides_below f k None i (ap (is_above (level_of m)) (sym u.hint) ∙ passes)
        (ap (option_map (λ (c : Callsite). c.metadata)) at) (interest f d);
    kept = λ f d u. record { hint = hint ∙ u.hint; number = λ n one e. numbered f u n one e; interest = λ n one e. answered f d u n one e };
    lasts = λ n one e. known_still n one e (callsite_of m == n) refl;
  }
    where
      interest : (f : Form) → has_form x f → i ≡ (interest_of f m (registry x).filters None).0
      interest f d = (a f d).answer ∙ ap (λ sum. (interest_of f m (registry x).filters sum).0) none

      grown : callsites_of l ≡ with_callsite (callsites_of k) m
      grown = (λ z. record { known = λ n. each n z; room = room z }) ∙ kept_newly (callsites_of k) (ap (option_map (λ (c : Callsite). c.metadata)) at)
        where
          each : (n : ℕ) → (callsites_of l).known n ≡ (with_new (callsites_of k)).known n
          each n = ap (option_map (λ (c : Callsite). c.metadata)) (updates n) ∙ by_test (callsite_of m == n)
            where
              by_test : (b : Bool)
                  → option_map (λ (c : Callsite). c.metadata) (if b then Some (record { metadata = m; interest = i }) else known_of k n)
                  ≡ (if b then Some m else (callsites_of k).known n)
              by_test true = refl
              by_test false = refl

      entry : (n : ℕ) (one : Callsite) (P : Callsite → Type 0)
          → (callsite_of m ≡ n → P (record { metadata = m; interest = i })) → (known_of k n ≡ Some one → P one) → known_of l n ≡ Some one → P one
      entry n one P new old e = by_test ((callsite_of m == n)) refl (sym (updates n) ∙ e)
        where
          by_test : (b : Bool) → (callsite_of m == n) ≡ b → (if b then Some (record { metadata = m; interest = i }) else known_of k n) ≡ Some one → P one
          by_test true t h = let it : record { metadata = m; interest = i } ≡ one = cc in subst P it (new (eqb-true (callsite_of m) n t))
          by_test false t h = old h

      known_still : (n : ℕ) (one : Callsite) → known_of k n ≡ Some one → (b : Bool) → (callsite_of m == n) ≡ b → known_of l n ≡ Some one
      known_still n one e true t =
          let no : None ≡ Some one = sym at ∙ ap (known_of k) (eqb-true (callsite_of m) n t) ∙ e in
          absurd (cc)
      known_still n one e false t = updates n ∙ ap (λ b. if b then Some (record { metadata = m; interest = i }) else known_of k n) t ∙ e

      numbered : (f : Form) → MatchesStack f (registry x).filters k → (n : ℕ) (one : Callsite) → known_of l n ≡ Some one → callsite_of one.metadata ≡ n
      numbered f u n one e = entry n one (λ c. callsite_of c.metadata ≡ n) (λ it. it) (u.number n one) e

      answered : (f : Form) → has_form x f → MatchesStack f (registry x).filters k
          → (n : ℕ) (one : Callsite) → known_of l n ≡ Some one → one.interest ≡ (interest_of f one.metadata (registry x).filters None).0
      answered f d u n one e = entry n one (λ c. c.interest ≡ (interest_of f c.metadata (registry x).filters None).0) (λ it. interest f d) (u.interest n one) e

  -- a cache that was just begun: nothing is in it but the hint
  pub gives_begun : (k : Known) (new : Cache) (i : Result Interest TraceError)
      → ((n : ℕ) → known_of k n ≡ None) → k.room ≡ 0 → ((f : Form) → has_form x f → k.hint ≡ hint_of f)
      → GivesInterest registry has_form x m i (Filled k) new → GivesInterest registry has_form x m i Empty new
  gives_begun k new i nothing room hint h =
      let none = nothing_kept k nothing room in
      let current : (f : Form) → has_form x f → MatchesStack f (registry x).filters k = λ f d. nothing_matches f (registry x).filters k (hint f d) nothing in
      record {
        off = λ o. absurd (cc);
        learns = subst (λ c. MayLearn (Some c) m (kept_in new)) none h.learns;
        keeps = subst (λ c. OnOk i (kept_in new ≡ learned_if (is_above_read (hint_in new) m) (Some c) m)) none h.keeps;
        leaves = subst (λ c. OnErr i (kept_in new ≡ Some c)) none h.leaves;
        reads = subst IsSome (sym h.reads) refl;
        above = h.above;
        mismatch = λ r. let no : Some r.1.0 ≡ None = sym r.1.1 in absurd (cc);
        refused = begun i (λ e r. subst (λ c. RefusesInterest (Some c) m e) none r.1) h.refused;
        by_form = λ f d g u. subst (λ c. HasInterestBy (Some c) f (registry x).filters m (kept_in new) i) none (h.by_form f d g (current f d));
        decides = decided_begun i none current h.decides;
        kept = λ f d u. h.kept f d (current f d);
        lasts = λ n one e. let no : None ≡ Some one = e in absurd (cc);
      }
    where
      decided_begun : (r : Result Interest TraceError) → callsites_of k ≡ no_callsite
          → ((f : Form) → has_form x f → MatchesStack f (registry x).filters k)
          → IfOk r (λ j. (f : Form) → has_form x f → MatchesStack f (registry x).filters k
          → j ≡ deciding_interest (Some (callsites_of k)) f (registry x).filters m)
          → IfOk r (λ j. (f : Form) → has_form x f → ⊤ → j ≡ deciding_interest (Some no_callsite) f (registry x).filters m)
      decided_begun (Ok j) none current h =
          λ f d u. subst (λ c. j ≡ deciding_interest (Some c) f (registry x).filters m) none (h f d (current f d))
      decided_begun (Err e) none current h = tt

      begun : (r : Result Interest TraceError)
          → ((e : TraceError) → RefusesBelow (Some k.hint) (Some (callsites_of k)) m e → RefusesInterest (Some no_callsite) m e)
          → IfErr r (RefusesBelow (Some k.hint) (Some (callsites_of k)) m) → IfErr r (RefusesBelow None (Some no_callsite) m)
      begun (Ok j) to r = tt
      begun (Err e) to r = (refl, to e r)
