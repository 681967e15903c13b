-- Which new spans, events and probes a dispatcher finds enabled. A caching one goes by its cached
-- hint and interests first; an uncached one asks its stack of each.
use Rattle.std.specs.Prelude.{◌≡◌, ◌⊎◌, ◌&&◌, not, ℕ, Bool, true, false, if◌then◌else◌, Option, Some, None}
use Rattle.std.specs.Option.{option_map, unwrap_or}
use Rattle.span_core.specs.{Filters.FilterSet, Metadata.callsite_of, Metadata.level_of}
use Rattle.span_core.specs.Level.{is_above}
use Rattle.span_core.specs.declared.{error.TraceError.TraceError, level.LevelFilter.LevelFilter}
use Rattle.span_core.specs.declared.interest.Interest.TheVariants.{Always, Never, Sometimes}
use Rattle.span_core.specs.declared.{interest.Interest.Interest, metadata.Metadata.Metadata}
use Rattle.span_core.specs.declared.span.Lane.{Lane}
use Rattle.span_dispatch.specs.Cache.{Agrees, KeptCallsites, RefusesInterest, with_callsite}
use Rattle.span_stacks.specs.Wanted.{IsUnwanted}
use Rattle.span_store.specs.Store.{RegistryState}
use Rattle.span_registry.specs.{Form.Form, Hooks.no_filter}
use Rattle.span_registry.specs.Question.{asked, hint_of, interest_of, is_never}

-- the hint that a dispatcher goes by: its stack's; none where it is uncached
abbrev pub hint_kept : KeptCallsites → Form → Option LevelFilter
hint_kept None f = None
hint_kept (Some callsites) f = hint_of f

-- whether the level of metadata is above the hint that a dispatcher goes by
abbrev pub is_above_hint : KeptCallsites → Form → Metadata → Bool
is_above_hint memory f m = is_above (level_of m) (hint_kept memory f)

-- whether a caching dispatcher finds that its stack's interest in metadata, on this many filters,
-- is never
abbrev pub interests_nobody : KeptCallsites → Form → ℕ → Metadata → Bool
interests_nobody None f filters m = false
interests_nobody (Some callsites) f filters m = is_never (interest_of f m filters None).0

-- whether hint and interest leave metadata enabled
abbrev pub is_let_by : KeptCallsites → Form → ℕ → Metadata → Bool
is_let_by kept f filters m = not (is_above_hint kept f m) && not (interests_nobody kept f filters m)

-- The interest by which a dispatcher decides on metadata, whatever its stack: sometimes where it is
-- uncached; else never above the hint, and below it the interest that is cached of the callsite,
-- or the stack's where none is.
abbrev pub deciding_interest : KeptCallsites → Form → ℕ → Metadata → Interest
deciding_interest None f filters m = Sometimes
deciding_interest (Some callsites) f filters m =
    if is_above (level_of m) (hint_of f) then Never
    else (interest_of f (unwrap_or (callsites.known (callsite_of m)) m) filters None).0

-- what an interest decides: whether metadata are enabled, and which filters refuse them; where it
-- is sometimes, as the stack answers
abbrev pub decided_by : Interest → Bool × FilterSet → Bool × FilterSet
decided_by Never answer = (false, no_filter)
decided_by Sometimes answer = answer
decided_by Always answer = (true, no_filter)

-- whether a dispatcher finds metadata enabled, and which filters refuse them, by what it caches and
-- by the form of its stack, whatever that is
abbrev pub decided : KeptCallsites → Form → RegistryState → Lane → Metadata → Bool × FilterSet
decided kept f s lane m =
    decided_by (deciding_interest kept f s.filters m)
    (asked f m s.store lane.0 no_filter no_filter)

-- what is cached of callsites after a question: where the test is false, the metadata's callsite
-- too
abbrev pub learned_if : Bool → KeptCallsites → Metadata → KeptCallsites
learned_if true kept m = kept
learned_if false kept m = option_map (λ callsites. with_callsite callsites m) kept

-- A question by metadata is decided: they are enabled exactly if hint and interest leave them so
-- and no leaf vetoes them, and what hint or interest turns off is enabled for no layer. Their
-- callsite is cached then, unless their level is above the hint.
pub record IsDecided (kept : KeptCallsites) (f : Form) (s : RegistryState) (lane : Lane)
    (m : Metadata) (vetoed said : Bool) (after : KeptCallsites) : Type 0 where
  pub agrees : is_above_hint kept f m ≡ false → Agrees kept m
  pub wanted : said ≡ is_let_by kept f s.filters m && not vetoed
  pub unwanted : is_let_by kept f s.filters m ≡ false → IsUnwanted f m s.store lane.0
  pub learned : after ≡ learned_if (is_above_hint kept f m) kept m

-- A question by metadata is refused: their level isn't above the hint, their interest can't be had,
-- and nothing more is cached.
pub record IsUnknown (kept : KeptCallsites) (f : Form) (m : Metadata) (e : TraceError)
    (after : KeptCallsites) : Type 0 where
  pub hint : is_above_hint kept f m ≡ false
  pub refused : RefusesInterest kept m e
  pub same : after ≡ kept

-- what is cached of callsites after a question to any stack: what was cached before, and perhaps
-- the metadata's callsite
abbrev pub MayLearn : KeptCallsites → Metadata → KeptCallsites → Type 0
MayLearn memory m after = (after ≡ memory) ⊎ (after ≡ learned_if false memory m)
