-- Which filters refuse a new span, and who vetoes: questions of a form alone, which name no pass.
use Rattle.std.specs.Prelude.{◌≡◌, ⊤, ℕ, ◌+◌, ◌<◌, ◌≤◌, Bool, true, false, not, ◌||◌, ◌==◌, if◌then◌else◌, Some, None}
use Rattle.span_core.specs.Filters.{FilterSet, union}
use Rattle.span_core.specs.Event.{event_metadata}
use Rattle.span_core.specs.Span.{metadata_of}
use Rattle.span_core.specs.declared.event.Event.{Event}
use Rattle.span_core.specs.declared.metadata.Metadata.{Metadata}
use Rattle.span_core.specs.declared.span.Attributes.{Attributes}
use Rattle.span_core.specs.declared.span.Id.{Id}
use Rattle.span_core.specs.declared.filter.TheConstants.FilterId.{LIMIT}
use Rattle.span_layers.specs.Number.{filters_in, numbered}
use Rattle.span_store.specs.Store.{Spans, Store}
use Rattle.span_registry.specs.Path.{Path, passes_path, path_at}
use Rattle.span_registry.specs.Behaviour.{Behaviour, Notice, OnEvent, OnNewSpan}
use Rattle.span_registry.specs.KeptForm.{RefusesNothing}
use Rattle.span_registry.specs.Form.{Terminal, Filtered, Form, InList, InPair, Leaf, OnSubscriber, Parts}
use Rattle.span_registry.specs.Hooks.{no_filter}
use Rattle.span_registry.specs.Position.{Position, is_notified}
use Rattle.span_registry.specs.Plan.{asked_afresh, by_pass}
use Rattle.span_registry.specs.Question.{asked, event_asked, single}
use Rattle.span_registry.specs.View.{view_of}

-- whether k is the number of a filter of the form
abbrev pub numbers_of : Form → FilterSet
numbers_of (Filtered None a f) k = numbers_of f k
numbers_of (Filtered (Some n) a f) k = (k == n) || numbers_of f k
numbers_of (Parts joint o i) k = numbers_of o k || numbers_of i k
numbers_of other k = false

-- no two filters of a form have one number
abbrev pub AreDistinct : Form → Type 0
AreDistinct (Filtered None a f) = AreDistinct f
AreDistinct (Filtered (Some n) a f) = (numbers_of f n ≡ false) × AreDistinct f
AreDistinct (Parts joint o i) =
    AreDistinct o × AreDistinct i × ((k : ℕ) → numbers_of o k ≡ true → numbers_of i k ≡ false)
AreDistinct other = ⊤

-- no two filters of a form have one number, and all their numbers were handed out before this one
pub record HasOwnNumbers (f : Form) (next : ℕ) : Type 0 where
  pub distinct : AreDistinct f
  pub handed_out : (k : ℕ) → numbers_of f k ≡ true → k < next

-- no leaf of a form refuses anything
abbrev pub LeavesRefuseNothing : Form → Type 0
LeavesRefuseNothing (Leaf still a) = RefusesNothing a
LeavesRefuseNothing (Filtered n a f) = LeavesRefuseNothing f
LeavesRefuseNothing (Parts joint o i) = LeavesRefuseNothing o × LeavesRefuseNothing i
LeavesRefuseNothing (Terminal v) = ⊤

-- no leaf of a form that is under a filter, or in a list, refuses anything
abbrev pub IsOrderly : Form → Type 0
IsOrderly (Leaf still a) = ⊤
IsOrderly (Filtered n a f) = LeavesRefuseNothing f
IsOrderly (Parts OnSubscriber o i) = IsOrderly o × IsOrderly i
IsOrderly (Parts InPair o i) = IsOrderly o × IsOrderly i
IsOrderly (Parts InList o i) = LeavesRefuseNothing o × LeavesRefuseNothing i
IsOrderly (Terminal v) = ⊤

-- whether a leaf with no filter round it refuses by this test
abbrev pub some_vetoes : Form → (Behaviour → Bool) → Bool
some_vetoes (Leaf still a) lets = not (lets a)
some_vetoes (Parts joint o i) lets = some_vetoes o lets || some_vetoes i lets
some_vetoes other lets = false

-- whether a leaf with no filter round it refuses these metadata, in the view of the lane
abbrev pub vetoes : Form → Metadata → Store → ℕ → Bool
vetoes f m s lane = some_vetoes f (λ a. a.enabled m (view_of s lane no_filter))

-- whether a leaf with no filter round it refuses this event, in the view of the lane
abbrev pub vetoes_event : Form → Event → Store → ℕ → Bool
vetoes_event f e s lane = some_vetoes f (λ a. a.event e (view_of s lane no_filter))

-- whether the filter k is in the verdict of a new span: it refuses the metadata, and every filter
-- round it on its path has a number and enables them
abbrev pub in_verdict : Form → Metadata → Store → ℕ → FilterSet → FilterSet
in_verdict (Filtered (Some n) a f) m s lane under k =
    if a.enabled m (view_of s lane (union under (single n)))
    then in_verdict f m s lane (union under (single n)) k else (k == n)
in_verdict (Parts joint o i) m s lane under k =
    in_verdict o m s lane under k || in_verdict i m s lane under k
in_verdict other m s lane under k = false

-- the plan by a pass, whatever spans there are, is the plan where each filter is asked afresh
abbrev pub IsFresh : Form → Notice → FilterSet → Store → ℕ → Type 0
IsFresh f e refused s lane =
    (spans : Spans) → by_pass f e spans no_filter refused ≡ asked_afresh f e s lane no_filter

-- who is notified of a new span by a pass with these refusals is who is notified afresh, and the
-- refusals are the verdict
pub record NewSpanIsFresh (f : Form) (attrs : Attributes) (id : Id) (s : Store) (lane : ℕ)
    (refused : FilterSet) : Type 0 where
  pub plan : IsFresh f (OnNewSpan attrs id) refused s lane
  pub verdict : (k : ℕ) → refused k ≡ in_verdict f (metadata_of attrs) s lane no_filter k

-- both questions of an event were asked with a new pass, and nobody vetoed: who is notified by the
-- pass is who is notified afresh
abbrev pub EventIsFresh : Form → Event → Store → ℕ → Type 0
EventIsFresh f e s lane =
    (asked f (event_metadata e) s lane no_filter no_filter).0 ≡ true
    → (event_asked f e s lane no_filter (asked f (event_metadata e) s lane no_filter no_filter).1).0
    ≡ true
    → IsFresh f (OnEvent e)
    (event_asked f e s lane no_filter
    (asked f (event_metadata e) s lane no_filter no_filter).1).1 s lane

-- who is notified of any other notice, by a pass with these refusals, is who is notified afresh
abbrev pub OthersAreFresh : Form → Store → ℕ → FilterSet → FilterSet → Notice → Type 0
OthersAreFresh f s lane under refused (OnNewSpan attrs id) = ⊤
OthersAreFresh f s lane under refused (OnEvent e) = ⊤
OthersAreFresh f s lane under refused other =
    by_pass f other s.spans under refused ≡ asked_afresh f other s lane under

-- who is notified afresh is whose path passes the notice
abbrev pub NotifiesWhosePathPasses : Form → Position → Path → Notice → Store → ℕ → FilterSet
    → Type 0
NotifiesWhosePathPasses f position path e s lane under =
    path_at f position ≡ Some path
    → is_notified (asked_afresh f e s lane under) position ≡ passes_path path e s lane under

-- a form each of whose filters took the next number has numbers of its own; a stack has too, once
-- the layer of that form is on it
pub record NumbersAreOwn (f : Form) (n : ℕ) : Type 0 where
  pub next : (numbered f n).1 ≡ n + filters_in f
  pub own : HasOwnNumbers (numbered f n).0 (numbered f n).1
  pub stack : (i : Form) → HasOwnNumbers i n
      → HasOwnNumbers (Parts OnSubscriber (numbered f n).0 i) (numbered f n).1

-- Below: the laws.

-- all were asked of a new span with a new pass, and the answer was true: who is notified by the
-- pass is who is notified afresh, and the pass holds the verdict
abbrev pub NewSpansAreFresh : Type 0
NewSpansAreFresh =
    (f : Form) (attrs : Attributes) (id : Id) (s : Store) (lane : ℕ) → AreDistinct f
    → (asked f (metadata_of attrs) s lane no_filter no_filter).0 ≡ true
    → NewSpanIsFresh f attrs id s lane (asked f (metadata_of attrs) s lane no_filter no_filter).1

-- both questions of an event were asked with a new pass, and the answers were true: who is notified
-- by the pass is who is notified afresh
abbrev pub EventsAreFresh : Type 0
EventsAreFresh =
    (f : Form) (e : Event) (s : Store) (lane : ℕ) → AreDistinct f → EventIsFresh f e s lane

-- whatever the pass, who is notified of any notice but a new span or an event is who is notified
-- afresh
abbrev pub OthersStayFresh : Type 0
OthersStayFresh =
    (f : Form) (e : Notice) (s : Store) (lane : ℕ) (under refused : FilterSet)
    → OthersAreFresh f s lane under refused e

-- who is notified is whose path passes the notice, at each position of each form
abbrev pub NotifiesByPaths : Type 0
NotifiesByPaths =
    (f : Form) (position : Position) (path : Path) (e : Notice) (s : Store) (lane : ℕ)
    (under : FilterSet) → NotifiesWhosePathPasses f position path e s lane under

-- where no leaf under a filter or in a list refuses, metadata are refused exactly where a leaf
-- vetoes
abbrev pub VetoesAloneRefuse : Type 0
VetoesAloneRefuse =
    (f : Form) (m : Metadata) (s : Store) (lane : ℕ) (refused : FilterSet) → IsOrderly f
    → (asked f m s lane no_filter refused).0 ≡ not (vetoes f m s lane)

-- where no leaf under a filter or in a list refuses, an event is refused exactly where a leaf
-- vetoes
abbrev pub VetoesAloneRefuseEvents : Type 0
VetoesAloneRefuseEvents =
    (f : Form) (e : Event) (s : Store) (lane : ℕ) (refused : FilterSet) → IsOrderly f
    → (event_asked f e s lane no_filter refused).0 ≡ not (vetoes_event f e s lane)

-- where there is room, the numbers that filters take are distinct, and other than those before
abbrev pub NumbersStayOwn : Type 0
NumbersStayOwn = (f : Form) (n : ℕ) → n + filters_in f ≤ LIMIT → NumbersAreOwn f n
