-- Two recorders under levels, on a registry: what their types say, how the stack begins, and that nothing but levels changes its form.
use Rattle.std.proofs.Common.{inr, ◌<◌, ◌≤◌, ◌+◌, arith, ◌≡◌, ◌∙◌, ℕ, Bool, true, false, if◌then◌else◌, Option, Some, None, ap, refl, subst, sym}
use Rattle.std.proofs.lemmas.Bool.{eq-eqb, eqb-true, true≢false}
use Rattle.std.specs.Prelude.{⊤}
use Rattle.span_core.specs.Filters.{FilterSet}
use Rattle.span_core.specs.declared.filter.FilterId.{FilterId}
use Rattle.span_core.specs.declared.filter.TheConstants.FilterId.{LIMIT}
use Rattle.span_core.specs.declared.level.LevelFilter.{LevelFilter}
use Rattle.span_targets.specs.declared.setting.Setting.{Setting}
use Rattle.span_dispatch.specs.Recorder.{RecorderState, new_recorder, recorder_steps}
use Rattle.span_dispatch.specs.Serve.{IsReady}
use Rattle.span_filters.specs.Filter.{settled_answers, unmoved}
use Rattle.span_filters.specs.Level.{ActsByLevel, answers_set, level_answers, level_taken}
use Rattle.span_filters.specs.laws.Level.{level_honest}
use Rattle.span_stacks.proofs.CallerLemmas.{bare_stands, stands_on}
use Rattle.span_layers.specs.Acts.{LeafActs}
use Rattle.span_stacks.specs.Attach.{Attaches}
use Rattle.span_stacks.specs.Filtered.{FilteredSteps, Hooked, IsNumber, IsUnnumbered, filter_of, id_of, layer_of}
use Rattle.span_stacks.specs.Honest.{IsBuiltLayer, IsHonestLayer, IsHonestStack}
use Rattle.span_layers.specs.Layer.{HearsBy, LayerSteps}
use Rattle.span_layers.specs.Parts.{PartsForm}
use Rattle.span_stacks.specs.Layered.{LayeredSteps, PairSteps, inner_of, outer_of, with_inner}
use Rattle.span_stacks.specs.Reload.{ReloadsIf}
use Rattle.span_layers.specs.Number.{TakesNumbers, filters_in}
use Rattle.span_layers.specs.Observe.{open_answers}
use Rattle.span_stacks.specs.Stands.{another, bare_hears, bare_steps, base_form, filtered_acts, filtered_form, filtered_hears, filtered_reloads, filtered_steps}
use Rattle.span_stacks.specs.Stands.{itself, stack_acts, stack_form, stack_hears, stack_reloads, stack_steps}
use Rattle.span_stacks.specs.Verdict.{NumbersStayOwn}
use Rattle.span_stacks.specs.declared.layered.Layered.{Layered}
use Rattle.span_layers.specs.laws.Leaf.{open_honest}
use Rattle.span_store.specs.Closes.{HasNoClosing}
use Rattle.span_store.specs.Store.{RegistryState, Store, new_registry}
use Rattle.span_store.specs.declared.limits.Limits.{Limits}
use Rattle.span_registry.proofs.CallerLemmas.{settled_new}
use Rattle.span_registry.specs.Behaviour.{Notice, OnClose, OnEnter, OnEvent, OnExit, OnFollows, OnIdChange, OnNewSpan, OnRecord}
use Rattle.span_registry.specs.Conducts.{ActsAt, filter_numbered, no_conducts}
use Rattle.span_registry.specs.Form.{Arrangement, Base, Filtered, Form, InPair, Leaf, OnSubscriber, Parts, Terminal}
use Rattle.span_registry.specs.Hooks.{StackSteps, no_filter}
use Rattle.span_registry.specs.Reload.{ReloadSteps, unreloaded}
use Rattle.span_registry.specs.Plan.{Both, Nobody, Plan, Through}
use Rattle.span_registry.specs.Position.{HearSteps, Here, Inner, Outer, Position, Under}
use Rattle.span_promises.specs.Begins.{BeginsWith, IsNewUnder}
use Rattle.span_promises.specs.Promises.{Levels}
use Rattle.span_promises.specs.Two.{One, Two}
use Rattle.span_targets.specs.Setting.{level_in}
use Rattle.span_targets.specs.declared.setting.Setting.TheVariants.{Directives, Level}
use Rattle.span_dispatch.specs.private.Fixed.{set_at}
use Rattle.std.specs.Option.{unwrap_or}

-- ---- what the types say

abbrev pub leaf : Form
leaf = Leaf true open_answers

abbrev pub one_form : One → Form → Type 0
one_form = filtered_form (settled_answers level_answers) (λ r f. f ≡ leaf)

abbrev one_steps : LayerSteps One
one_steps = filtered_steps unmoved recorder_steps

abbrev one_hears : HearSteps One
one_hears = filtered_hears (HearsBy recorder_steps)

abbrev one_reloads : ReloadSteps One
one_reloads = filtered_reloads level_taken unreloaded

abbrev one_acts : ActsAt One
one_acts = filtered_acts ActsByLevel LeafActs

abbrev pub Pair : Type 0
Pair = Layered One One

abbrev pub pair_form : Pair → Form → Type 0
pair_form x = PartsForm InPair (one_form (outer_of x)) (one_form (inner_of x))

abbrev pair_steps : LayerSteps Pair
pair_steps x p e lane under v y w = PairSteps one_steps one_steps (outer_of x) (inner_of x) p e lane under v (outer_of y) (inner_of y) w

abbrev pub two_form : Two → Form → Type 0
two_form = stack_form pair_form base_form

abbrev pub two_steps : StackSteps Two
two_steps = stack_steps another pair_steps bare_steps

abbrev pub two_levels : ReloadSteps Two
two_levels = stack_reloads (stack_reloads one_reloads one_reloads) unreloaded

abbrev pub two_hears : HearSteps Two
two_hears = stack_hears (stack_hears one_hears one_hears) bare_hears

abbrev pub two_acts : ActsAt Two
two_acts = stack_acts (stack_acts one_acts one_acts) no_conducts

-- where the two recorders stand
abbrev pub outer_place : Position
outer_place = Outer (Outer (Under Here))

abbrev pub inner_place : Position
inner_place = Outer (Inner (Under Here))

abbrev pub TwoReady : Form → Two → Type 0
TwoReady f x = IsReady inner_of with_inner two_form two_steps two_levels f x

-- ---- its form, by its levels

abbrev pub form_by : Levels → Form
form_by now = Parts OnSubscriber (Parts InPair (Filtered (Some 0) (level_answers now.0) leaf) (Filtered (Some 1) (level_answers now.1) leaf)) (Terminal Base)

-- the two filters have these numbers, and that is its form
pub record Stays (x : Two) (f : Form) : Type 0 where
  pub over : IsNumber (id_of (outer_of (outer_of x))) (Some 0)
  pub below : IsNumber (id_of (inner_of (outer_of x))) (Some 1)
  pub form : f ≡ form_by (filter_of (outer_of (outer_of x)), filter_of (inner_of (outer_of x)))

-- an id has one number
same_number : (id : FilterId) (m : Option ℕ) (n : ℕ) → IsNumber id m → IsNumber id (Some n) → m ≡ Some n
same_number id None n h s = absurd (true≢false (sym s.0 ∙ h))
same_number id (Some m) n h s = ap (λ k. Some k) (eqb-true m n (sym (ap (λ (set : FilterSet). set m) (sym h.1 ∙ s.1)) ∙ eq-eqb m m refl))

one_known : (n : ℕ) (x : One) (g : Form) → IsNumber (id_of x) (Some n) → one_form x g → g ≡ Filtered (Some n) (level_answers (filter_of x)) leaf
one_known n x (Filtered m a f) s h =
    let number = same_number (id_of x) m n h.0 s in
    let own = h.1 in
    let below = h.2 in
    λ i. Filtered (number i) (own i) (below i)
one_known n x other s h = absurd h

-- the form of two parts is that of their forms
parts_known : (joint : Arrangement) (outer inner : Form → Type 0) (o i g : Form) → ((k : Form) → outer k → k ≡ o) → ((k : Form) → inner k → k ≡ i)
    → PartsForm joint outer inner g → g ≡ Parts joint o i
parts_known joint outer inner o i (Parts k p q) a b h =
    let same = h.0 in
    let first = a p h.1 in
    let second = b q h.2 in
    λ j. Parts (same j) (first j) (second j)
parts_known joint outer inner o i other a b h = absurd h

pub known : (x : Two) (f g : Form) → Stays x f → two_form x g → g ≡ f
known x f g s h =
    parts_known OnSubscriber (pair_form (outer_of x)) (base_form (inner_of x)) _ _ g
    (λ k t. parts_known InPair (one_form (outer_of (outer_of x))) (one_form (inner_of (outer_of x))) _ _ k
    (λ o u. one_known 0 (outer_of (outer_of x)) o s.over u) (λ i u. one_known 1 (inner_of (outer_of x)) i s.below u) t) (λ k t. t) h
    ∙ sym s.form

-- ---- it keeps its form when it is notified

stays_hooked : (e : Notice) (f g : LevelFilter) (lane : ℕ) (under : FilterSet) (v w : RegistryState) → Hooked unmoved f e lane under v g w → g ≡ f
stays_hooked (OnNewSpan attrs id) f g lane under v w h = h.0
stays_hooked (OnRecord id values) f g lane under v w h = h.0
stays_hooked (OnFollows id other) f g lane under v w h = h.0
stays_hooked (OnEvent e) f g lane under v w h = h.0
stays_hooked (OnEnter id) f g lane under v w h = h.0
stays_hooked (OnExit id) f g lane under v w h = h.0
stays_hooked (OnIdChange id other) f g lane under v w h = h.0
stays_hooked (OnClose id) f g lane under v w h = h.0

-- number and level are the same
abbrev SameFilter : One → One → Type 0
SameFilter x y = (id_of y ≡ id_of x) × (filter_of y ≡ filter_of x)

one_filter : (i : FilterId) (f : LevelFilter) (x : RecorderState) (p : Plan) (e : Notice) (lane : ℕ) (under : FilterSet) (v : RegistryState)
    (g : LevelFilter) (y : RecorderState) (w : RegistryState) → FilteredSteps unmoved recorder_steps i f x p e lane under v g y w → g ≡ f
one_filter i f x Nobody e lane under v g y w h = h.0
one_filter i f x (Through p) e lane under v g y w h = stays_hooked e f g lane _ v h.between h.filter
one_filter i f x other e lane under v g y w h = absurd h

one_goes : (x : One) (p : Plan) (e : Notice) (lane : ℕ) (under : FilterSet) (v : RegistryState) (y : One) (w : RegistryState)
    → one_steps x p e lane under v y w → SameFilter x y
one_goes x p e lane under v y w h = (h.0, one_filter (id_of x) (filter_of x) (layer_of x) p e lane under v (filter_of y) (layer_of y) w h.1)

abbrev SameFilters : Pair → Pair → Type 0
SameFilters x y = SameFilter (outer_of x) (outer_of y) × SameFilter (inner_of x) (inner_of y)

pair_goes : (x : One) (i : One) (p : Plan) (e : Notice) (lane : ℕ) (under : FilterSet) (v : RegistryState) (y : One) (j : One) (w : RegistryState)
    → PairSteps one_steps one_steps x i p e lane under v y j w → SameFilter x y × SameFilter i j
pair_goes x i (Both p q) e lane under v y j w h = (one_goes x p e lane under h.between y w h.second, one_goes i q e lane under v j h.between h.first)
pair_goes x i other e lane under v y j w h = absurd h

stack_goes : (x : Pair) (i : RegistryState) (p : Plan) (e : Notice) (lane : ℕ) (v : RegistryState) (y : Pair) (j : RegistryState) (w : RegistryState)
    → LayeredSteps another pair_steps bare_steps x i p e lane v y j w → SameFilters x y
stack_goes x i (Both p q) e lane v y j w h = pair_goes (outer_of x) (inner_of x) p e lane no_filter h.between (outer_of y) (inner_of y) w h.second
stack_goes x i other e lane v y j w h = absurd h

stays_same : (x y : Two) (f : Form) → SameFilters (outer_of x) (outer_of y) → Stays x f → Stays y f
stays_same x y f h s = record {
  over = subst (λ i. IsNumber i (Some 0)) (sym h.0.0) s.over;
  below = subst (λ i. IsNumber i (Some 1)) (sym h.1.0) s.below;
  form = s.form ∙ (λ i. form_by (sym h.0.1 i, sym h.1.1 i));
}

pub goes : (x : Two) (f : Form) (p : Plan) (e : Notice) (lane : ℕ) (v : RegistryState) (y : Two) (w : RegistryState) → two_steps x p e lane v y w
    → Stays x f → Stays y f
goes x f p e lane v y w h s = stays_same x y f (stack_goes (outer_of x) (inner_of x) p e lane v (outer_of y) (inner_of y) w h) s

pub aside : (x : Two) (f : Form) (w : RegistryState) → Stays x f → Stays (with_inner x w) f
aside x f w s = record { over = s.over; below = s.below; form = s.form }

-- ---- and where a level is set, as that says

level_if : (t : Bool) (f : LevelFilter) (x : RecorderState) (n : ℕ) (l : Setting) (g : LevelFilter) (y : RecorderState)
    → ReloadsIf level_taken unreloaded t f x n l g y
    → g ≡ (if t then unwrap_or (level_in l) f else f)
level_if true f x n l g y h = h.0
level_if false f x n l g y h = h.0

one_set : (k : ℕ) (x : One) (n : ℕ) (l : Setting) (y : One) → IsNumber (id_of x) (Some k) → one_reloads x n l y → (id_of y ≡ id_of x)
    × (filter_of y ≡ (if filter_numbered (Some k) n then unwrap_or (level_in l) (filter_of x) else filter_of x))
one_set k x n l y s h = (
  h.0,
  level_if _ (filter_of x) (layer_of x) n l (filter_of y) (layer_of y) h.1
      ∙ ap (λ (set : FilterSet). if set n then unwrap_or (level_in l) (filter_of x) else filter_of x) s.1,
)

-- the levels, where the filter with this number was to take this setting
abbrev pub levels_set : Levels → ℕ → Setting → Levels
levels_set now n l = (
  if filter_numbered (Some 0) n then unwrap_or (level_in l) now.0 else now.0,
  if filter_numbered (Some 1) n then unwrap_or (level_in l) now.1 else now.1,
)

-- what a filter by level then answers
set_answers : (l : Setting) (f : LevelFilter) → answers_set l (level_answers f) ≡ level_answers (unwrap_or (level_in l) f)
set_answers (Level k) f = refl
set_answers (Directives d) f = refl

pub form_set : (now : Levels) (n : ℕ) (l : Setting) → set_at n l (form_by now) ≡ form_by (levels_set now n l)
form_set now n l = by_test (filter_numbered (Some 0) n) (filter_numbered (Some 1) n)
  where
    one_by : (t : Bool) (m : ℕ) (f : LevelFilter)
        → (if t then Filtered (Some m) (answers_set l (level_answers f)) leaf else Filtered (Some m) (level_answers f) leaf) ≡ Filtered (Some m)
        (level_answers (if t then unwrap_or (level_in l) f else f)) leaf
    one_by true m f = ap (λ a. Filtered (Some m) a leaf) (set_answers l f)
    one_by false m f = refl

    by_test : (t u : Bool)
        → Parts OnSubscriber
        (Parts InPair (if t then Filtered (Some 0) (answers_set l (level_answers now.0)) leaf else Filtered (Some 0) (level_answers now.0) leaf)
        (if u then Filtered (Some 1) (answers_set l (level_answers now.1)) leaf else Filtered (Some 1) (level_answers now.1) leaf)) (Terminal Base)
        ≡ form_by (if t then unwrap_or (level_in l) now.0 else now.0, if u then unwrap_or (level_in l) now.1 else now.1)
    by_test t u = λ i. Parts OnSubscriber (Parts InPair (one_by t 0 now.0 i) (one_by u 1 now.1 i)) (Terminal Base)

pub set : (x : Two) (f : Form) (n : ℕ) (l : Setting) (y : Two) → two_levels x n l y → Stays x f → Stays y (set_at n l f)
set x f n l y h s =
    let a = one_set 0 (outer_of (outer_of x)) n l (outer_of (outer_of y)) s.over h.0.0 in
    let b = one_set 1 (inner_of (outer_of x)) n l (inner_of (outer_of y)) s.below h.0.1 in
    record {
      over = subst (λ i. IsNumber i (Some 0)) (sym a.0) s.over;
      below = subst (λ i. IsNumber i (Some 1)) (sym b.0) s.below;
      form = ap (set_at n l) s.form ∙ form_set (filter_of (outer_of (outer_of x)), filter_of (inner_of (outer_of x))) n l
          ∙ (λ i. form_by (sym a.1 i, sym b.1 i));
    }

-- ---- how it begins

module _ (law : NumbersStayOwn) (limits : Limits) (s : RegistryState) (outer inner : LevelFilter) (a b : RecorderState) (u : Pair)
    (first : s ≡ new_registry limits) (over : IsUnnumbered (outer_of u) a outer) (below : IsUnnumbered (inner_of u) b inner) where
  abbrev pub unnumbered : Form
  unnumbered = Parts InPair (Filtered None (level_answers outer) leaf) (Filtered None (level_answers inner) leaf)

  has_form : pair_form u unnumbered
  has_form = (refl, (over.id, ap level_answers (sym over.own), refl), (below.id, ap level_answers (sym below.own), refl))

  honest : IsHonestLayer unnumbered
  honest =
      let within : IsBuiltLayer true leaf = (refl, open_honest, λ t. record { enabled = λ m v. refl; event = λ e v. refl }) in
      inr ((level_honest outer, within), (level_honest inner, within))

  -- a new registry has room for both
  pub finds_room : ((f : Form) → pair_form u f → LIMIT < s.filters + filters_in f) → ⊥
  finds_room full =
      let none : s.filters ≡ 0 = ap (λ (t : RegistryState). t.filters) first in
      let more : LIMIT < s.filters + 2 = full unnumbered has_form in
      omega (arith, none, more)

  -- it stands there, and begins so
  pub record PutOn (x : Two) : Type 0 where
    pub ready : TwoReady (form_by (outer, inner)) x
    pub begins : BeginsWith outer inner x

  pub put_on : (x : Two) → a ≡ new_recorder → b ≡ new_recorder → TakesNumbers itself another pair_form u s (outer_of x) (inner_of x)
      → ((f : Form) → pair_form u f → s.filters + filters_in f ≤ LIMIT)
      → (filter_of (outer_of (outer_of x)) ≡ filter_of (outer_of u)) × (layer_of (outer_of (outer_of x)) ≡ layer_of (outer_of u))
      → (filter_of (inner_of (outer_of x)) ≡ filter_of (inner_of u)) × (layer_of (inner_of (outer_of x)) ≡ layer_of (inner_of u)) → PutOn x
  put_on x a_new b_new numbers room over_same below_same =
      let put : Attaches itself another (λ t. ⊤) (λ y. ⊤) pair_form (λ y z. ⊤) u s x =
      record { numbers = numbers; room = room; layer_as_it_was = tt; outer = tt; inner = tt } in
      let stood = stands_on law (λ t w. refl) (λ t w f h. h) unnumbered (Terminal Base) 0 u s x has_form honest (bare_stands limits s first) put in
      record {
        ready = record {
          honest = record { has = stood.has; rules = subst (IsHonestStack (form_by (outer, inner))) (sym stood.filters) stood.rules };
          settled = subst HasNoClosing (sym (ap (λ (t : Store). t.spans) stood.empty)) (settled_new limits);
        };
        begins = record {
          over = record { id = stood.has.1.1.0; own = over_same.0 ∙ over.own; inner = over_same.1 ∙ over.inner ∙ a_new };
          below = record { id = stood.has.1.2.0; own = below_same.0 ∙ below.own; inner = below_same.1 ∙ below.inner ∙ b_new };
          empty = stood.empty;
        };
      }

-- the same once it is in use
abbrev SameOne : One → One → Type 0
SameOne x y = (id_of y ≡ id_of x) × (filter_of y ≡ filter_of x) × (layer_of y ≡ layer_of x)

used_one : (n : ℕ) (level : LevelFilter) (x y : One) → SameOne x y → IsNewUnder n level x → IsNewUnder n level y
used_one n level x y h new = record { id = subst (λ i. IsNumber i (Some n)) (sym h.0) new.id; own = h.1 ∙ new.own; inner = h.2 ∙ new.inner }

pub in_use : (outer inner : LevelFilter) (x y : Two) → SameOne (outer_of (outer_of x)) (outer_of (outer_of y))
    → SameOne (inner_of (outer_of x)) (inner_of (outer_of y)) → inner_of y ≡ inner_of x → BeginsWith outer inner x → BeginsWith outer inner y
in_use outer inner x y over below same h =
    record { over = used_one 0 outer _ _ over h.over; below = used_one 1 inner _ _ below h.below; empty = ap (λ (t : RegistryState). t.store) same ∙ h.empty }

-- so it has the form of its levels
pub begins_so : (outer inner : LevelFilter) (x : Two) → BeginsWith outer inner x → Stays x (form_by (outer, inner))
begins_so outer inner x h = record { over = h.over.id; below = h.below.id; form = λ i. form_by (sym h.over.own i, sym h.below.own i) }
