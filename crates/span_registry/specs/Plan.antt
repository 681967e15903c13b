-- Who along a form is notified of a notice: by the pass of its request, and where each filter is
-- asked afresh.
use Rattle.std.specs.Prelude.{ℕ, Bool, not, ◌&&◌, if◌then◌else◌, Some, None}
use Rattle.std.specs.FinMap.{get}
use Rattle.std.specs.Option.{option_map_or}
use Rattle.std.specs.Prelude.{false}
use Rattle.span_core.specs.Event.{event_metadata}
use Rattle.span_core.specs.Filters.{FilterSet, meets, refuses, union}
use Rattle.span_core.specs.Span.{metadata_of, number_of}
use Rattle.span_core.specs.declared.span.Id.{Id}
use Rattle.span_store.specs.Store.{Spans, Store}
use Rattle.span_registry.specs.Behaviour.{Behaviour, Notice, OnEvent, OnFollows, OnNewSpan, span_in}
use Rattle.span_registry.specs.Form.{Terminal, Filtered, Form, Leaf, Parts}
use Rattle.span_registry.specs.Question.{single}
use Rattle.span_registry.specs.View.{view_of}

-- whom a notice is given to: nobody; the layer itself; what stands under a filter that passes it,
-- by this plan; the outer part by the first plan and the inner one by the second
pub data Plan : Type 0 where
  Nobody : Plan
  Itself : Plan
  Through : Plan → Plan
  Both : Plan → Plan → Plan

-- whether a span is in the store and no filter of the set is in its verdict
abbrev pub is_passed : Spans → FilterSet → Id → Bool
is_passed spans set id =
    option_map_or (λ r. not (meets set (refuses r.verdict))) (get spans (number_of id)) false

-- whether a filter lets a notice by, as the pass says of a new span and an event, and the verdicts
-- of all else; n is its number, and the set has the filters down to it
abbrev pub lets_by : ℕ → Notice → Spans → FilterSet → FilterSet → Bool
lets_by n (OnNewSpan attrs id) spans set refused = not (refused n)
lets_by n (OnEvent e) spans set refused = not (refused n)
lets_by n (OnFollows id other) spans set refused =
    is_passed spans set id && is_passed spans set other
lets_by n e spans set refused = option_map_or (is_passed spans set) (span_in e) false

-- who is notified, as pass and verdicts say, under these filters
abbrev pub by_pass : Form → Notice → Spans → FilterSet → FilterSet → Plan
by_pass (Leaf still a) e spans under refused = Itself
by_pass (Filtered None a f) e spans under refused = Nobody
by_pass (Filtered (Some n) a f) e spans under refused =
    if lets_by n e spans (union under (single n)) refused
    then Through (by_pass f e spans (union under (single n)) refused) else Nobody
by_pass (Parts k o i) e spans under refused =
    Both (by_pass o e spans under refused) (by_pass i e spans under refused)
by_pass (Terminal v) e spans under refused = Nobody

-- whether a filter passes a notice, asked afresh on a lane of a store, in the view under the
-- filters down to it: a new span and an event by what it answers, all else by the verdicts of the
-- spans
abbrev pub passes : Behaviour → Notice → Store → ℕ → FilterSet → Bool
passes a (OnNewSpan attrs id) s lane set = a.enabled (metadata_of attrs) (view_of s lane set)
passes a (OnEvent e) s lane set =
    a.enabled (event_metadata e) (view_of s lane set) && a.event e (view_of s lane set)
passes a (OnFollows id other) s lane set = is_passed s.spans set id && is_passed s.spans set other
passes a e s lane set = option_map_or (is_passed s.spans set) (span_in e) false

-- who is notified where each filter is asked afresh: what every filter round it passes, in the view
-- under the filters from outside down to that one
abbrev pub asked_afresh : Form → Notice → Store → ℕ → FilterSet → Plan
asked_afresh (Leaf still a) e s lane under = Itself
asked_afresh (Filtered (Some n) a f) e s lane under =
    if passes a e s lane (union under (single n))
    then Through (asked_afresh f e s lane (union under (single n))) else Nobody
asked_afresh (Parts k o i) e s lane under =
    Both (asked_afresh o e s lane under) (asked_afresh i e s lane under)
asked_afresh other e s lane under = Nobody
