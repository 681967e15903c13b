-- What a dispatcher caches of its stack's answers: the hint, and the interest in the callsites that
-- it was asked of.
use Rattle.std.specs.Prelude.{◌≡◌, ⊤, ◌<◌, ◌-◌, ℕ, max, Bool, false, ◌==◌, if◌then◌else◌, Option, Some, None, IsSome, is_some, nat_eq}
use Rattle.std.specs.HashMap as hash
use Rattle.std.specs.Option.{option_map, unwrap_or}
use Rattle.span_core.specs.Level.{is_above}
use Rattle.span_core.specs.Metadata.{ShowSame, callsite_of, level_of}
use Rattle.span_core.specs.declared.error.TraceError.TheVariants.{CallsiteMismatch, OutOfMemory}
use Rattle.span_core.specs.declared.{error.TraceError.TraceError, level.LevelFilter.LevelFilter}
use Rattle.span_core.specs.declared.{interest.Interest.Interest, metadata.Metadata.Metadata}
use Rattle.span_dispatch.specs.declared.cache.Cache.TheVariants as cache
use Rattle.span_dispatch.specs.declared.cache.{Cache.Cache, Callsite.Callsite, Known.Known}
use Rattle.span_registry.specs.{Form.Form, Question.hint_of, Question.interest_of}

-- callsites whose interest is cached, and the memory held for more
pub record Callsites : Type 0 where
  -- each known callsite by its number, with the metadata of which the interest was asked
  pub known : ℕ → Option Metadata
  -- for how many callsites more memory is held
  pub room : ℕ

-- callsites of an empty cache: none is known, and no memory is held
abbrev pub no_callsite : Callsites
no_callsite = record { known = λ n. None; room = 0 }

-- the callsites with that of the metadata among them, which takes a place that was held, unless it
-- was known already
abbrev pub with_callsite : Callsites → Metadata → Callsites
with_callsite callsites m =
    if is_some (callsites.known (callsite_of m)) then callsites else record {
      known = λ n. if callsite_of m == n then Some m else callsites.known n;
      room = callsites.room - 1;
    }

-- the callsites with memory held for at least this many more
abbrev pub with_room : ℕ → Callsites → Callsites
with_room n callsites = record callsites { room = max callsites.room n }

-- the callsites whose interest is cached; none where a dispatcher is uncached
abbrev pub KeptCallsites : Type 0
KeptCallsites = Option Callsites

-- if the callsite of the metadata is cached, then with metadata that show the same
abbrev pub Agrees : KeptCallsites → Metadata → Type 0
Agrees None m = ⊤
Agrees (Some callsites) m =
    (k : Metadata) → callsites.known (callsite_of m) ≡ Some k → ShowSame k m

-- why an interest can't be had: the callsite is cached with other metadata; or it isn't cached, no
-- memory is held for one more, and memory was refused. An uncached dispatcher needs none
abbrev pub RefusesInterest : KeptCallsites → Metadata → TraceError → Type 0
RefusesInterest (Some callsites) m CallsiteMismatch =
    (k : Metadata) × (callsites.known (callsite_of m) ≡ Some k) × ¬ (ShowSame k m)
RefusesInterest (Some callsites) m OutOfMemory =
    (callsites.known (callsite_of m) ≡ None) × (callsites.room ≡ 0)
RefusesInterest memory m e = ⊥

-- why memory for this many callsites more can't be had: it isn't held yet, and was refused
abbrev pub RefusesRoom : ℕ → KeptCallsites → TraceError → Type 0
RefusesRoom n (Some callsites) OutOfMemory = callsites.room < n
RefusesRoom n memory e = ⊥

-- the hint of a stack as it was read, which may be none itself; none where no reading is cached
abbrev pub ReadHint : Type 0
ReadHint = Option (Option LevelFilter)

-- whether the level of metadata is above the hint that was read
abbrev pub is_above_read : ReadHint → Metadata → Bool
is_above_read read m = is_above (level_of m) (unwrap_or read None)

-- why metadata are refused: their level isn't above the hint that was read, and their interest
-- can't be had
abbrev pub RefusesBelow : ReadHint → KeptCallsites → Metadata → TraceError → Type 0
RefusesBelow read memory m e = (is_above_read read m ≡ false) × RefusesInterest memory m e

-- a stack's hint is read at most once: the reading that was cached stays; without one, a caching
-- dispatcher has one afterwards, and an uncached one has none
abbrev pub ReadsOnce : KeptCallsites → ReadHint → ReadHint → Type 0
ReadsOnce memory (Some hint) after = after ≡ Some hint
ReadsOnce (Some callsites) None after = IsSome after
ReadsOnce None None after = after ≡ None

-- Below: the cache itself.

-- the entry that a filled cache has of the callsite with a number
abbrev pub known_of : Known → ℕ → Option Callsite
known_of k n = hash.get nat_eq k.callsites n

-- the callsites that a filled cache knows, and for how many more it holds memory
abbrev pub callsites_of : Known → Callsites
callsites_of k = record {
  known = λ n. option_map (λ (one : Callsite). one.metadata) (known_of k n);
  room = k.room;
}

-- the entry that any cache has of the callsite with a number
abbrev pub entry_in : Cache → ℕ → Option Callsite
entry_in (cache.Filled k) n = known_of k n
entry_in other n = None

-- the callsites that a cache keeps the interest in; none where it is off
abbrev pub kept_in : Cache → KeptCallsites
kept_in cache.Off = None
kept_in cache.Empty = Some no_callsite
kept_in (cache.Filled k) = Some (callsites_of k)

-- the hint that a cache has, as it was read
abbrev pub hint_in : Cache → ReadHint
hint_in (cache.Filled k) = Some k.hint
hint_in other = None

-- the cache once all its entries are forgotten
abbrev pub forgotten : Cache → Cache
forgotten (cache.Filled k) = cache.Empty
forgotten other = other

-- a cache has this interest for the metadata's callsite, with metadata that show the same
pub record KnowsInterest (c : Cache) (m : Metadata) (i : Interest) : Type 0 where
  pub metadata : Metadata
  pub there : entry_in c (callsite_of m) ≡ Some (record { metadata = metadata; interest = i })
  pub same : ShowSame metadata m

-- each entry and the hint of a filled cache are what a stack of this form would answer now, on a
-- registry that handed out this many filters
pub record MatchesStack (f : Form) (filters : ℕ) (k : Known) : Type 0 where
  pub hint : k.hint ≡ hint_of f
  pub number : (n : ℕ) (one : Callsite) → known_of k n ≡ Some one → callsite_of one.metadata ≡ n
  pub interest : (n : ℕ) (one : Callsite) → known_of k n ≡ Some one
      → one.interest ≡ (interest_of f one.metadata filters None).0

-- a cache is up to date: if it is filled, its hint and entries are what the stack would answer now
abbrev pub IsUpToDate : Form → ℕ → Cache → Type 0
IsUpToDate f filters (cache.Filled k) = MatchesStack f filters k
IsUpToDate f filters other = ⊤
