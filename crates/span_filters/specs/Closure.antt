-- What filters made of closures answer.
use Rattle.std.specs.Prelude.{◌≡◌, ℕ, Bool, true, false, if◌then◌else◌, IfSome, Option, Some, None}
use Rattle.span_core.specs.Filters.{FilterSet}
use Rattle.span_core.specs.Level.{is_above}
use Rattle.span_core.specs.Metadata.{ShowSame, level_of}
use Rattle.span_core.specs.declared.interest.Interest.TheVariants.{Never, Sometimes}
use Rattle.span_core.specs.declared.interest.Interest.{Interest}
use Rattle.span_core.specs.declared.level.LevelFilter.{LevelFilter}
use Rattle.span_core.specs.declared.metadata.Metadata.{Metadata}
use Rattle.span_filters.specs.Level.{interest_by}
use Rattle.span_filters.specs.declared.closure.DynFilterFn.{DynFilterFn}
use Rattle.span_filters.specs.declared.closure.FilterFn.{FilterFn}
use Rattle.span_store.specs.Store.{RegistryState, Store}
use Rattle.span_registry.specs.Behaviour.{Behaviour, AreHonest}
use Rattle.span_registry.specs.Context.{view_in}
use Rattle.span_registry.specs.View.{View, view_of}
use Rattle.span_registry.specs.declared.context.Context.{Context}

-- whatever a closure gives of metadata is what the function computes
abbrev pub Computes : {F R : Type 0} → (F → Metadata → R → Type 0) → F → (Metadata → R) → Type 0
Computes {R = R} gives f p = (m : Metadata) (r : R) → gives f m r → r ≡ p m

-- whatever a closure gives of metadata in a context is what the function computes of the metadata
-- and the view
abbrev pub ComputesIn : {F S R : Type 0} → (S → RegistryState)
    → (F → Metadata → Context S → R → Type 0) → F → (Metadata → View → R) → Type 0
ComputesIn {S = S} {R = R} registry gives f p =
    (m : Metadata) (c : Context S) (r : R) → gives f m c r → r ≡ p m (view_in registry c)

-- what a test of metadata answers: its interest is settled, every event is enabled, and the hint is
-- as set
abbrev pub test_answers : (Metadata → Bool) → Option LevelFilter → Behaviour
test_answers p hint = record {
  enabled = λ m v. p m;
  event = λ e v. true;
  interest = λ m. interest_by (p m);
  hint = hint;
  takes = λ l. false;
}

-- a test refuses every level above the hint
abbrev pub RefusesAbove : (Metadata → Bool) → Option LevelFilter → Type 0
RefusesAbove p hint = (m : Metadata) → is_above (level_of m) hint ≡ true → p m ≡ false

-- a test goes by what metadata show
abbrev pub GoesByWhatShows : (Metadata → Bool) → Type 0
GoesByWhatShows p = (m k : Metadata) → ShowSame m k → p m ≡ p k

-- for all metadata there is an answer that a closure may give
abbrev pub AnswersAll : {F : Type 0} → (F → Metadata → Bool → Type 0) → F → Type 0
AnswersAll gives f = (m : Metadata) → (r : Bool) × gives f m r

-- the answers of a filter by a test of metadata: its closure answers all metadata, and computes a
-- test that goes by what metadata show, and refuses every level above the hint
pub record HasTestAnswers {F : Type 0} (gives : F → Metadata → Bool → Type 0) (f : FilterFn F)
    (a : Behaviour) : Type 0 where
  pub test : Metadata → Bool
  pub all : AnswersAll gives f.enabled
  pub computed : Computes gives f.enabled test
  pub shown : GoesByWhatShows test
  pub refuses : RefusesAbove test f.max_level_hint
  pub answers : a ≡ test_answers test f.max_level_hint

-- the interest of a filter without a closure for it: never above the hint, else sometimes
abbrev pub interest_under : Option LevelFilter → Metadata → Interest
interest_under hint m = if is_above (level_of m) hint then Never else Sometimes

-- the interest of a filter: what the closure for it computes if there is one, else by the hint
abbrev pub HasInterest : {R : Type 0} → (R → Metadata → Interest → Type 0) → Option R
    → Option LevelFilter → (Metadata → Interest) → Type 0
HasInterest gives (Some r) hint i = Computes gives r i
HasInterest gives None hint i = i ≡ interest_under hint

-- what a test of metadata and view answers, with this interest and this hint: every event is
-- enabled
abbrev pub view_answers : (Metadata → View → Bool) → (Metadata → Interest) → Option LevelFilter
    → Behaviour
view_answers p i hint =
    record { enabled = p; event = λ e v. true; interest = i; hint = hint; takes = λ l. false }

-- the answers of a filter by a test of metadata and context: its closures compute such a test and
-- an interest, and these and its hint are honest
pub record HasViewAnswers {S F R : Type 0} (registry : S → RegistryState)
    (gives : F → Metadata → Context S → Bool → Type 0)
    (registered : R → Metadata → Interest → Type 0) (f : DynFilterFn F R) (a : Behaviour) : Type
    0 where
  pub test : Metadata → View → Bool
  pub interest : Metadata → Interest
  pub computed : ComputesIn registry gives f.enabled test
  pub settled : HasInterest registered f.register_callsite f.max_level_hint interest
  pub answers : a ≡ view_answers test interest f.max_level_hint
  pub honest : AreHonest a

-- for all metadata, on each store, from each lane and under each mask, there is an answer that a
-- closure may give in a context that shows just that
abbrev pub AnswersAllIn : {F S : Type 0} → (S → RegistryState)
    → (F → Metadata → Context S → Bool → Type 0) → F → Type 0
AnswersAllIn {S = S} registry gives f =
    (m : Metadata) (s : Store) (lane : ℕ) (mask : FilterSet)
    → (c : Context S) × (view_in registry c ≡ view_of s lane mask) × ((r : Bool) × gives f m c r)

-- a filter is made of this test and this hint
pub record TestsBy {F : Type 0} (f : FilterFn F) (test : F) (hint : Option LevelFilter) : Type
    0 where
  pub enabled : f.enabled ≡ test
  pub max_level_hint : f.max_level_hint ≡ hint

-- a filter is made of this test, this closure for its interest, if any, and this hint
pub record TestsInBy {F R : Type 0} (f : DynFilterFn F R) (test : F) (callsite : Option R)
    (hint : Option LevelFilter) : Type 0 where
  pub enabled : f.enabled ≡ test
  pub register_callsite : f.register_callsite ≡ callsite
  pub max_level_hint : f.max_level_hint ≡ hint

-- the test of a filter by metadata
abbrev pub test_in : {F : Type 0} → FilterFn F → F
test_in f = f.enabled

-- the test of a filter by metadata and context
abbrev pub view_test_in : {F R : Type 0} → DynFilterFn F R → F
view_test_in f = f.enabled

-- the closure that a filter has for its interest, if any
abbrev pub callsite_in : {F R : Type 0} → DynFilterFn F R → Option R
callsite_in f = f.register_callsite

-- the hint of a filter by metadata and context, if any
abbrev pub view_hint_in : {F R : Type 0} → DynFilterFn F R → Option LevelFilter
view_hint_in f = f.max_level_hint

-- of a filter's closures, one predicate holds of the test, the other of the closure for the
-- interest, if there is one
abbrev pub ClosuresAre : {F R : Type 0} → (F → Type 0) → (R → Type 0) → DynFilterFn F R → Type 0
ClosuresAre test callsite f = test (view_test_in f) × IfSome (callsite_in f) callsite
