-- A watcher under a level, on a registry: how it begins, and that it finds what it is told the close of.
use Rattle.std.proofs.Common.{inr, ◌<◌, ◌≤◌, ◌+◌, arith, ◌≡◌, ◌∙◌, ℕ, Bool, true, false, if◌then◌else◌, [], ◌∷◌, Option, Some, None, ap, refl, subst, sym}
use Rattle.std.proofs.lemmas.Bool.{false≢true}
use Rattle.std.specs.FinMap.{empty, get}
use Rattle.std.specs.List.{AllByRecursion, FoldsTo}
use Rattle.std.specs.Option.{option_map, option_map_or}
use Rattle.std.specs.Prelude.{⊤, not}
use Rattle.span_core.specs.Filters.{FilterSet}
use Rattle.span_core.specs.Span.{number_of}
use Rattle.span_core.specs.declared.filter.TheConstants.FilterId.{LIMIT}
use Rattle.span_core.specs.declared.level.LevelFilter.{LevelFilter}
use Rattle.span_dispatch.specs.Readable.{ShowsItsSpan}
use Rattle.span_dispatch.specs.Serve.{IsReady}
use Rattle.span_filters.specs.Filter.{settled_answers, unmoved}
use Rattle.span_filters.specs.Level.{level_answers, level_taken}
use Rattle.span_filters.specs.laws.Level.{level_honest}
use Rattle.span_stacks.proofs.CallerLemmas.{bare_stands, stands_on}
use Rattle.span_stacks.specs.Attach.{Attaches}
use Rattle.span_stacks.specs.Filtered.{IsUnnumbered}
use Rattle.span_stacks.specs.Honest.{IsBuiltLayer, IsHonestLayer, IsHonestStack}
use Rattle.span_layers.specs.Layer.{GoesBy, HearsBy, LayerSteps}
use Rattle.span_stacks.specs.Layered.{inner_of, outer_of, with_inner}
use Rattle.span_layers.specs.Number.{TakesNumbers, filters_in}
use Rattle.span_layers.specs.Observe.{ObserverStep, observer_of}
use Rattle.span_stacks.specs.Stands.{another, bare_hears, bare_steps, base_form, filtered_form, filtered_hears, filtered_reloads, filtered_steps, itself}
use Rattle.span_stacks.specs.Stands.{stack_form, stack_hears, stack_reloads, stack_steps}
use Rattle.span_stacks.specs.Verdict.{NumbersStayOwn}
use Rattle.span_stacks.specs.declared.filtered.Filtered.{Filtered as FilteredLayer}
use Rattle.span_layers.specs.declared.observe.Observer.{Observer}
use Rattle.span_layers.specs.laws.Leaf.{open_honest}
use Rattle.span_store.specs.Closes.{HasNoClosing}
use Rattle.span_store.specs.Store.{RegistryState, Store, new_registry}
use Rattle.span_store.specs.declared.limits.Limits.{Limits}
use Rattle.span_registry.proofs.CallerLemmas.{settled_new, views_alike}
use Rattle.span_registry.specs.Behaviour.{Notice, OnClose, OnEnter, OnEvent, OnExit, OnFollows, OnIdChange, OnNewSpan, OnRecord, unextended}
use Rattle.span_registry.specs.Form.{Base, Filtered, Form, OnSubscriber, Parts, Terminal}
use Rattle.span_registry.specs.Hooks.{StackSteps}
use Rattle.span_registry.specs.Reload.{ReloadSteps, unreloaded}
use Rattle.span_registry.specs.Position.{HearSteps, Heard, Told}
use Rattle.span_registry.specs.View.{SeenSpan, View, is_shown, plain_view, view_of}
use Rattle.span_promises.proofs.Stack.{leaf}
use Rattle.span_promises.specs.Watch.{Watched, looked_up, lost_by}
use Rattle.span_promises.specs.declared.watch.Watcher.{Watcher}

-- ---- what the types say

abbrev pub Under : Type 0
Under = FilteredLayer (Observer Watcher) LevelFilter

abbrev pub watcher_form : Under → Form → Type 0
watcher_form = filtered_form (settled_answers level_answers) (λ x f. f ≡ leaf)

abbrev pub watcher_steps : LayerSteps (Observer Watcher)
watcher_steps x p e lane under v y w = ObserverStep (λ a e lane under v b w. (b ≡ looked_up e (view_of v.store lane under) a) × (w ≡ v)) (observer_of x) p e
    lane under v (observer_of y) w

abbrev pub watched_form : Watched → Form → Type 0
watched_form = stack_form watcher_form base_form

abbrev pub watched_steps : StackSteps Watched
watched_steps = stack_steps another (filtered_steps unmoved watcher_steps) bare_steps

abbrev pub watched_levels : ReloadSteps Watched
watched_levels = stack_reloads (filtered_reloads level_taken unreloaded) unreloaded

abbrev pub watched_hears : HearSteps Watched
watched_hears = stack_hears (filtered_hears (HearsBy watcher_steps)) bare_hears

abbrev pub WatchedReady : Form → Watched → Type 0
WatchedReady f x = IsReady inner_of with_inner watched_form watched_steps watched_levels f x

-- ---- what it finds

-- whether a span is shown is the same in views that differ in extensions alone
shown_so : (o p : Option SeenSpan) → option_map unextended o ≡ option_map unextended p
    → option_map_or (λ r. not r.hidden) o false ≡ option_map_or (λ r. not r.hidden) p false
shown_so None None h = refl
shown_so None (Some q) h = let no : ⊥ = cc in absurd no
shown_so (Some r) None h = let no : ⊥ = cc in absurd no
shown_so (Some r) (Some q) h = ap (λ (o : Option SeenSpan). option_map_or (λ r. not r.hidden) o false) h

shown_plainly : (s : RegistryState) (lane : ℕ) (under : FilterSet) (x : ℕ)
    → is_shown (plain_view s.store lane under).spans x ≡ is_shown (view_of s.store lane under).spans x
shown_plainly s lane under x =
    let plain : RegistryState = record s { store = record s.store { extensions = empty } } in
    shown_so (get (plain_view s.store lane under).spans x) (get (view_of s.store lane under).spans x)
    ((views_alike plain
    s lane under (record { spans = refl; issued = refl; stacks = refl; limits = refl; filters = refl; retired = refl; reserved = refl })).spans x)

finds_it : (b : Bool) (n m : ℕ) → b ≡ true → (if b then n else m) ≡ n
finds_it true n m h = refl
finds_it false n m h = absurd (false≢true h)

-- told of what its context shows, it loses nothing
told_one : (x : Observer Watcher) (told : Told) (y : Observer Watcher) → GoesBy watcher_steps x told y → ShowsItsSpan told
    → lost_by (observer_of y) ≡ lost_by (observer_of x)
told_one x told y g shows = ap lost_by g.step.1.0 ∙ by_notice told.notice told.view g.shown shows
  where
    by_shown : (b : Bool) (a : Watcher) (more : ℕ) → b ≡ true → lost_by (if b then a else record a { lost = more }) ≡ lost_by a
    by_shown true a more h = refl
    by_shown false a more h = absurd (false≢true h)

    by_notice : (e : Notice) (v : View) → v ≡ plain_view g.before.store told.lane g.under → ShowsItsSpan (record { lane = told.lane; notice = e; view = v })
        → lost_by (looked_up e (view_of g.before.store told.lane g.under) (observer_of x)) ≡ lost_by (observer_of x)
    by_notice (OnClose id) v same h =
        by_shown _ (observer_of x) _ (sym (shown_plainly g.before told.lane g.under (number_of id))
        ∙ ap (λ (w : View). is_shown w.spans (number_of id)) (sym same) ∙ h)
    by_notice (OnNewSpan attrs id) v same h = refl
    by_notice (OnRecord id values) v same h = refl
    by_notice (OnFollows id other) v same h = refl
    by_notice (OnEvent e) v same h = refl
    by_notice (OnEnter id) v same h = refl
    by_notice (OnExit id) v same h = refl
    by_notice (OnIdChange id other) v same h = refl

pub told_all : (heard : Heard) (x y : Observer Watcher) → FoldsTo (GoesBy watcher_steps) x heard y → AllByRecursion ShowsItsSpan heard
    → lost_by (observer_of y) ≡ lost_by (observer_of x)
told_all [] x y g shows = ap (λ z. lost_by (observer_of z)) (sym g)
told_all (one ∷ heard) x y g shows = told_all heard g.0 y g.2 shows.1 ∙ told_one x one g.0 g.1 shows.0

-- ---- how it begins

module _ (law : NumbersStayOwn) (limits : Limits) (s : RegistryState) (level : LevelFilter) (a : Observer Watcher) (u : Under)
    (first : s ≡ new_registry limits) (under : IsUnnumbered u a level) where
  abbrev pub unnumbered : Form
  unnumbered = Filtered None (level_answers level) leaf

  has_form : watcher_form u unnumbered
  has_form = (under.id, ap level_answers (sym under.own), refl)

  honest : IsHonestLayer unnumbered
  honest =
      let within : IsBuiltLayer true leaf = (refl, open_honest, λ t. record { enabled = λ m v. refl; event = λ e v. refl }) in
      inr (level_honest level, within)

  -- a new registry has room for it
  pub finds_room : ((f : Form) → watcher_form u f → LIMIT < s.filters + filters_in f) → ⊥
  finds_room full =
      let none : s.filters ≡ 0 = ap (λ (t : RegistryState). t.filters) first in
      let more : LIMIT < s.filters + 1 = full unnumbered has_form in
      omega (arith, none, more)

  abbrev pub numbered_form : Form
  numbered_form = Parts OnSubscriber (Filtered (Some 0) (level_answers level) leaf) (Terminal Base)

  -- so it is ready there
  pub ready : (x : Watched) → TakesNumbers itself another watcher_form u s (outer_of x) (inner_of x)
      → ((f : Form) → watcher_form u f → s.filters + filters_in f ≤ LIMIT) → WatchedReady numbered_form x
  ready x numbers room =
      let put : Attaches itself another (λ t. ⊤) (λ y. ⊤) watcher_form (λ y z. ⊤) u s x =
      record { numbers = numbers; room = room; layer_as_it_was = tt; outer = tt; inner = tt } in
      let stood = stands_on law (λ t w. refl) (λ t w f h. h) unnumbered (Terminal Base) 0 u s x has_form honest (bare_stands limits s first) put in
      record {
        honest = record { has = stood.has; rules = subst (IsHonestStack numbered_form) (sym stood.filters) stood.rules };
        settled = subst HasNoClosing (sym (ap (λ (t : Store). t.spans) stood.empty)) (settled_new limits);
      }
