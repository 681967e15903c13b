-- Stacks whose form only settings change, since what settles it stays as it is: their runs, and what their recorders keep.
use Rattle.std.proofs.Common.{◌≡◌, ℕ, List, [], ◌++◌, map, Bool, true, false, Option, Some, None, refl, sym, ap, subst, ◌∙◌}
use Rattle.std.specs.Prelude.{if◌then◌else◌}
use Rattle.std.proofs.lemmas.Bool.{eq-eqb, eqb-true, true≢false}
use Rattle.std.proofs.lemmas.List.{append-nil}
use Rattle.span_core.specs.Filters.{FilterSet, has_filter}
use Rattle.span_core.specs.declared.filter.FilterId.{FilterId}
use Rattle.span_targets.specs.declared.setting.Setting.{Setting}
use Rattle.span_dispatch.proofs.CallerLemmas.{heard_records}
use Rattle.span_dispatch.specs.Recorder.{RecorderState, kept_notice, new_recorder, recorder_steps}
use Rattle.span_dispatch.specs.Cache.{no_callsite}
use Rattle.span_dispatch.specs.Serve.{IsReady, Served, kept_by, stack_of}
use Rattle.span_dispatch.specs.declared.dispatch.Dispatch.{Dispatch}
use Rattle.span_dispatch.specs.declared.recorded.Recorded.{Recorded}
use Rattle.span_dispatch.specs.declared.request.Answer.{Answer}
use Rattle.span_dispatch.specs.declared.request.Request.{Request}
use Rattle.span_filters.specs.Filter.{FilterReloadSteps, settled_answers, unmoved}
use Rattle.span_stacks.specs.Filtered.{FilteredForm, FilteredSteps, Hooked, IsNumber, filter_of, id_of, layer_of}
use Rattle.span_stacks.specs.Honest.{IsHonestStack}
use Rattle.span_layers.specs.Idle.{IdleSteps}
use Rattle.span_layers.specs.Layer.{HearsBy, LayerSteps}
use Rattle.span_layers.specs.Parts.{PartsForm}
use Rattle.span_stacks.specs.Layered.{LayeredSteps, PairSteps, inner_of, outer_of, with_inner}
use Rattle.span_layers.specs.Reload.{OptionReloads}
use Rattle.span_stacks.specs.Reload.{FilteredReloads, LayeredReloads, ReloadsIf}
use Rattle.span_layers.specs.Optional.{OptionForm, OptionGoes, OptionSteps}
use Rattle.span_layers.specs.Veto.{VetoForm}
use Rattle.span_stacks.specs.declared.filtered.Filtered.{Filtered as FilteredLayer}
use Rattle.span_stacks.specs.declared.layered.Layered.{Layered}
use Rattle.span_store.specs.Closes.{HasNoClosing}
use Rattle.span_store.specs.Store.{RegistryState}
use Rattle.span_store.specs.declared.limits.Limits.{Limits}
use Rattle.span_registry.proofs.CallerLemmas.{settled_new}
use Rattle.span_registry.specs.Behaviour.{Behaviour, Notice, OnClose, OnEnter, OnEvent, OnExit, OnFollows, OnIdChange, OnNewSpan, OnRecord}
use Rattle.span_registry.specs.Conducts.{ActsAt}
use Rattle.span_registry.specs.Form.{Absent, Terminal, Base, Filtered, Form, InPair, Arrangement, Leaf, OnSubscriber, Parts}
use Rattle.span_registry.specs.Hooks.{StackSteps, no_filter}
use Rattle.span_registry.specs.Reload.{ReloadSteps, unreloaded}
use Rattle.span_registry.specs.Position.{HearSteps, Heard, Here}
use Rattle.span_registry.specs.Plan.{Both, Nobody, Plan, Through}
use Rattle.span_script.proofs.Runs.{runs_by}
use Rattle.span_script.specs.Runs.{RunsBySettings, answers_reloaded, reloaded_at}
use Rattle.span_script.specs.Stacks.{leaf, start_of}
use Rattle.span_script.specs.declared.stack_name.StackName.{StackName}

-- ---- layers

-- a layer has this form as long as this is so of the two; it stays so with the form, and where a setting is taken with what that makes of the form
pub record IsSteady {L : Type 0} (has_form : L → Form → Type 0) (stepped : LayerSteps L) (reloaded : ReloadSteps L) (Stays : L → Form → Type 0) : Type 0 where
  pub known : (x : L) (f g : Form) → Stays x f → has_form x g → g ≡ f
  pub has : (x : L) (f : Form) → Stays x f → has_form x f
  pub goes : (x : L) (f : Form) (p : Plan) (e : Notice) (lane : ℕ) (under : FilterSet) (v : RegistryState) (y : L) (w : RegistryState)
      → stepped x p e lane under v y w → Stays x f → Stays y f
  pub set : (x : L) (f : Form) (n : ℕ) (l : Setting) (y : L) → reloaded x n l y → Stays x f → Stays y (reloaded_at n l f)

-- a recorder is a leaf that refuses nothing
abbrev pub StaysLeaf : RecorderState → Form → Type 0
StaysLeaf x f = f ≡ leaf

pub steady_recorder : IsSteady (λ (x : RecorderState) f. f ≡ leaf) recorder_steps unreloaded StaysLeaf
steady_recorder = record {
  known = λ x f g s h. h ∙ sym s;
  has = λ x f s. s;
  goes = λ x f p e lane under v y w h s. s;
  set = λ x f n l y h s. ap (reloaded_at n l) s;
}

-- a leaf that vetoes is by what it answers
abbrev pub StaysVeto : {L : Type 0} → (L → Behaviour) → L → Form → Type 0
StaysVeto answers x f = f ≡ Leaf true (answers x)

-- one that stays as it is
pub steady_veto : {L : Type 0} (answers : L → Behaviour) → IsSteady (λ x. VetoForm (settled_answers answers x)) IdleSteps unreloaded (StaysVeto answers)
steady_veto answers = record {
  known = λ x f g s h. h.2 ∙ ap (λ b. Leaf true b) h.1 ∙ sym s;
  has = λ x f s. (answers x, refl, s);
  goes = λ x f p e lane under v y w h s. s ∙ ap (λ z. Leaf true (answers z)) (sym h.1);
  set = λ x f n l y h s. ap (reloaded_at n l) s ∙ ap (λ z. Leaf true (answers z)) (sym h);
}

-- an absent layer stays absent, whatever it is notified of
module _ {L : Type 0} (goes : L → L → Type 0) where
  pub still_absent : (x y : Option L) → OptionGoes goes x y → x ≡ None → y ≡ None
  still_absent None None h s = refl
  still_absent None (Some y) h s = absurd h
  still_absent (Some x) y h s = absurd (cc)

-- there is none, and the form says so
abbrev pub StaysAbsent : {L : Type 0} → Option L → Form → Type 0
StaysAbsent x f = (x ≡ None) × (f ≡ Terminal Absent)

module _ {L : Type 0} (has_form : L → Form → Type 0) (stepped : LayerSteps L) (reloaded : ReloadSteps L) where
  goes_absent : (x : Option L) (p : Plan) (e : Notice) (lane : ℕ) (under : FilterSet) (v : RegistryState) (y : Option L) (w : RegistryState)
      → OptionSteps stepped x p e lane under v y w → x ≡ None → y ≡ None
  goes_absent None p e lane under v None w h s = refl
  goes_absent None p e lane under v (Some y) w h s = absurd h
  goes_absent (Some x) p e lane under v y w h s = absurd (cc)

  -- so it is steady
  pub steady_absent : IsSteady (OptionForm has_form) (OptionSteps stepped) (OptionReloads reloaded) StaysAbsent
  steady_absent = record {
    known = λ x f g s h. subst (λ o. OptionForm has_form o g) s.0 h ∙ sym s.1;
    has = λ x f s. subst (λ o. OptionForm has_form o f) (sym s.0) s.1;
    goes = λ x f p e lane under v y w h s. (goes_absent x p e lane under v y w h s.0, s.1);
    set = λ x f n l y h s. (still_absent (λ a b. reloaded a n l b) x y h s.0, ap (reloaded_at n l) s.1);
  }

-- an id has one number
same_number : (id : FilterId) (m : Option ℕ) (n : ℕ) → IsNumber id m → IsNumber id (Some n) → m ≡ Some n
same_number id None n h s = absurd (true≢false (sym s.0 ∙ h))
same_number id (Some m) n h s = ap (λ k. Some k) (eqb-true m n (sym (ap (λ (set : FilterSet). set m) (sym h.1 ∙ s.1)) ∙ eq-eqb m m refl))

-- a filter whose hooks do nothing stays as it is
unmoved_filter : {F : Type 0} (f : F) (e : Notice) (lane : ℕ) (under : FilterSet) (v : RegistryState) (g : F) (w : RegistryState)
    → Hooked unmoved f e lane under v g w → g ≡ f
unmoved_filter f (OnNewSpan attrs id) lane under v g w h = h.0
unmoved_filter f (OnRecord id values) lane under v g w h = h.0
unmoved_filter f (OnFollows id other) lane under v g w h = h.0
unmoved_filter f (OnEvent e) lane under v g w h = h.0
unmoved_filter f (OnEnter id) lane under v g w h = h.0
unmoved_filter f (OnExit id) lane under v g w h = h.0
unmoved_filter f (OnIdChange id other) lane under v g w h = h.0
unmoved_filter f (OnClose id) lane under v g w h = h.0

-- a layer under a filter of this number, by what the filter answers
pub record StaysUnder {L F : Type 0} (n : ℕ) (answers : F → Behaviour) (Stays : L → Form → Type 0) (x : FilteredLayer L F) (f : Form) : Type 0 where
  pub number : IsNumber (id_of x) (Some n)
  pub below : Form
  pub inside : Stays (layer_of x) below
  pub form : f ≡ Filtered (Some n) (answers (filter_of x)) below

-- what such a filter answers once it was asked to take a setting: it goes by that, if it takes it
abbrev pub IsBySetting : {F : Type 0} → (F → Behaviour) → FilterReloadSteps F → Type 0
IsBySetting {F = F} answers own = (a : F) (l : Setting) (b : F) → own a l b → answers b ≡ answers_reloaded l (answers a)

module _ {L F : Type 0} {has_form : L → Form → Type 0} {stepped : LayerSteps L} {reloaded : ReloadSteps L} {Stays : L → Form → Type 0}
    {own : FilterReloadSteps F} (n : ℕ)
    (answers : F → Behaviour) (by_setting : IsBySetting answers own) (inner : IsSteady has_form stepped reloaded Stays) where
  known_under : (x : FilteredLayer L F) (f g : Form)
      → StaysUnder n answers Stays x f → FilteredForm (id_of x) (settled_answers answers (filter_of x)) (has_form (layer_of x)) g → g ≡ f
  known_under x f (Filtered m b g) s h =
      let number = same_number (id_of x) m n h.0 s.number in
      let own = h.1 in
      let below = inner.known (layer_of x) s.below g s.inside h.2 in
      (λ i. Filtered (number i) (own i) (below i)) ∙ sym s.form
  known_under x f other s h = absurd h

  goes_under : (i : FilterId) (k : F) (x : L) (f : Form) (p : Plan) (e : Notice) (lane : ℕ) (under : FilterSet)
      (v : RegistryState) (g : F) (y : L) (w : RegistryState) → FilteredSteps unmoved stepped i k x p e lane under v g y w → (g ≡ k) × (Stays x f → Stays y f)
  goes_under i k x f Nobody e lane under v g y w h = (h.0, λ s. subst (λ z. Stays z f) (sym h.1) s)
  goes_under i k x f (Through p) e lane under v g y w h =
      (unmoved_filter k e lane _ v g h.between h.filter, λ s. inner.goes x f p e lane _ h.between y w h.layer s)
  goes_under i k x f other e lane under v g y w h = absurd h

  -- by whether the filter has the number
  set_if : (t : Bool) (k : F) (x : L) (m : ℕ) (l : Setting) (g : F) (y : L) (below : Form) → ReloadsIf own reloaded t k x m l g y → Stays x below
      → (after : Form) × Stays y after
      × ((if t then Filtered (Some n) (answers_reloaded l (answers k)) below else Filtered (Some n) (answers k) (reloaded_at m l below))
      ≡ Filtered (Some n) (answers g) after)
  set_if true k x m l g y below h s = (below, subst (λ z. Stays z below) (sym h.1) s, ap (λ a. Filtered (Some n) a below) (sym (by_setting k l g h.0)))
  set_if false k x m l g y below h s =
      (reloaded_at m l below, inner.set x below m l y h.1 s, ap (λ z. Filtered (Some n) (answers z) (reloaded_at m l below)) (sym h.0))

  set_under : (x : FilteredLayer L F) (f : Form) (m : ℕ) (l : Setting) (y : FilteredLayer L F)
      → (id_of y ≡ id_of x) × FilteredReloads own reloaded (id_of x) (filter_of x) (layer_of x) m l (filter_of y) (layer_of y)
      → StaysUnder n answers Stays x f → StaysUnder n answers Stays y (reloaded_at m l f)
  set_under x f m l y h s =
      let k = filter_of x in
      let one = set_if (has_filter (id_of x) m) k (layer_of x) m l (filter_of y) (layer_of y) s.below h.1 s.inside in
      let numbered = ap (λ (set : FilterSet). set m) (sym s.number.1) in
      let asked = ap (λ (t : Bool). if t then Filtered
      (Some n) (answers_reloaded l (answers k)) s.below else Filtered (Some n) (answers k) (reloaded_at m l s.below)) numbered in
      record { number = subst (λ i. IsNumber i (Some n)) (sym h.0) s.number; below = one.0; inside = one.1; form = ap (reloaded_at m l) s.form ∙ asked ∙ one.2 }

  -- a steady layer under such a filter is steady
  pub steady_under : IsSteady (λ x. FilteredForm (id_of x) (settled_answers answers (filter_of x)) (has_form (layer_of x)))
      (λ x p e lane under v y w.
      (id_of y ≡ id_of x) × FilteredSteps unmoved stepped (id_of x) (filter_of x) (layer_of x) p e lane under v (filter_of y) (layer_of y) w)
      (λ x m l y.
      (id_of y ≡ id_of x) × FilteredReloads own reloaded (id_of x) (filter_of x) (layer_of x) m l (filter_of y) (layer_of y)) (StaysUnder n answers Stays)
  steady_under = record {
    known = known_under;
    has = λ x f s. subst (FilteredForm (id_of x) (settled_answers answers (filter_of x)) (has_form (layer_of x)))
        (sym s.form) (s.number, refl, inner.has (layer_of x) s.below s.inside);
    goes = λ x f p e lane under v y w h s.
        let went = goes_under (id_of x) (filter_of x) (layer_of x) s.below p e lane under v (filter_of y) (layer_of y) w h.1 in
        record {
          number = subst (λ i. IsNumber i (Some n)) (sym h.0) s.number;
          below = s.below;
          inside = went.1 s.inside;
          form = s.form ∙ ap (λ k. Filtered (Some n) (answers k) s.below) (sym went.0);
        };
    set = set_under;
  }

-- two parts
pub record StayBoth {L I : Type 0} (joint : Arrangement) (Outer : L → Form → Type 0) (Inner : I → Form → Type 0) (x : Layered L I) (f : Form) : Type 0 where
  pub over : Form
  pub below : Form
  pub outer : Outer (outer_of x) over
  pub inner : Inner (inner_of x) below
  pub form : f ≡ Parts joint over below

-- the form of two parts is that of their forms
known_over : (joint : Arrangement) (outer inner : Form → Type 0) (o i g : Form)
    → ((k : Form) → outer k → k ≡ o) → ((k : Form) → inner k → k ≡ i) → PartsForm joint outer inner g → g ≡ Parts joint o i
known_over joint outer inner o i (Parts k p q) a b h =
    let same = h.0 in
    let first = a p h.1 in
    let second = b q h.2 in
    λ j. Parts (same j) (first j) (second j)
known_over joint outer inner o i other a b h = absurd h

-- a setting that is taken in both changes the form of both
set_both : {L I : Type 0} {Outer : L → Form → Type 0} {Inner : I → Form → Type 0} {joint : Arrangement} (x y : Layered L I) (f : Form) (n : ℕ) (l : Setting)
    → ((g : Form) → Outer (outer_of x) g → Outer (outer_of y) (reloaded_at n l g))
    → ((g : Form) → Inner (inner_of x) g → Inner (inner_of y) (reloaded_at n l g))
    → StayBoth joint Outer Inner x f → StayBoth joint Outer Inner y (reloaded_at n l f)
set_both x y f n l outer inner s =
    record {
      over = reloaded_at n l s.over;
      below = reloaded_at n l s.below;
      outer = outer s.over s.outer;
      inner = inner s.below s.inner;
      form = ap (reloaded_at n l) s.form;
    }

module _ {L I : Type 0} {outer_form : L → Form → Type 0} {inner_form : I → Form → Type 0}
    {outer_steps : LayerSteps L} {inner_steps : LayerSteps I} {outer_levels : ReloadSteps L} {inner_levels : ReloadSteps I} {Outer : L → Form → Type 0}
    {Inner : I → Form → Type 0} (outer : IsSteady outer_form outer_steps outer_levels Outer) (inner : IsSteady inner_form inner_steps inner_levels Inner) where
  goes_pair : (x : L) (z : I) (o i : Form) (p : Plan) (e : Notice) (lane : ℕ) (under : FilterSet) (v : RegistryState) (y : L) (u : I) (w : RegistryState)
      → PairSteps outer_steps inner_steps x z p e lane under v y u w → (Outer x o → Outer y o) × (Inner z i → Inner u i)
  goes_pair x z o i (Both p q) e lane under v y u w h =
      ((λ s. outer.goes x o p e lane under h.between y w h.second s), (λ s. inner.goes z i q e lane under v u h.between h.first s))
  goes_pair x z o i other e lane under v y u w h = absurd h

  -- two steady layers are a steady layer
  pub steady_pair : IsSteady (λ x. PartsForm InPair (outer_form (outer_of x)) (inner_form (inner_of x)))
      (λ x p e lane under v y w. PairSteps outer_steps inner_steps (outer_of x) (inner_of x) p e lane under v (outer_of y) (inner_of y) w)
      (λ x n l y. LayeredReloads outer_levels inner_levels (outer_of x) (inner_of x) n l (outer_of y) (inner_of y)) (StayBoth InPair Outer Inner)
  steady_pair = record {
    known = λ x f g s h. known_over InPair (outer_form (outer_of x)) (inner_form (inner_of x))
        s.over s.below g (λ k t. outer.known (outer_of x) s.over k s.outer t) (λ k t. inner.known (inner_of x) s.below k s.inner t) h ∙ sym s.form;
    has = λ x f s. subst (PartsForm InPair (outer_form (outer_of x)) (inner_form (inner_of x)))
        (sym s.form) (refl, outer.has (outer_of x) s.over s.outer, inner.has (inner_of x) s.below s.inner);
    goes = λ x f p e lane under v y w h s.
        let went = goes_pair (outer_of x) (inner_of x) s.over s.below p e lane under v (outer_of y) (inner_of y) w h in
        record { over = s.over; below = s.below; outer = went.0 s.outer; inner = went.1 s.inner; form = s.form };
    set =
        λ x f n l y h s. set_both x y f n l (λ g t. outer.set (outer_of x) g n l (outer_of y) h.0 t) (λ g t. inner.set (inner_of x) g n l (inner_of y) h.1 t) s;
  }

-- ---- stacks

-- the same of a stack; another registry makes no difference
pub record IsSteadyStack {S : Type 0} (with_registry : S → RegistryState → S)
    (has_form : S → Form → Type 0) (stepped : StackSteps S) (reloaded : ReloadSteps S) (Stays : S → Form → Type 0) : Type 0 where
  pub known : (x : S) (f g : Form) → Stays x f → has_form x g → g ≡ f
  pub has : (x : S) (f : Form) → Stays x f → has_form x f
  pub goes : (x : S) (f : Form) (p : Plan) (e : Notice) (lane : ℕ) (v : RegistryState) (y : S) (w : RegistryState)
      → stepped x p e lane v y w → Stays x f → Stays y f
  pub aside : (x : S) (f : Form) (w : RegistryState) → Stays x f → Stays (with_registry x w) f
  pub set : (x : S) (f : Form) (n : ℕ) (l : Setting) (y : S) → reloaded x n l y → Stays x f → Stays y (reloaded_at n l f)

-- the registry is the base
abbrev pub StaysBase : RegistryState → Form → Type 0
StaysBase x f = f ≡ Terminal Base

pub steady_registry : IsSteadyStack (λ (s w : RegistryState). w) (λ s f. f ≡ Terminal Base) (λ x p e lane v y w. w ≡ v) unreloaded StaysBase
steady_registry = record {
  known = λ x f g s h. h ∙ sym s;
  has = λ x f s. s;
  goes = λ x f p e lane v y w h s. s;
  aside = λ x f w s. s;
  set = λ x f n l y h s. ap (reloaded_at n l) s;
}

module _ {L I : Type 0} {with_registry : I → RegistryState → I} {outer_form : L → Form → Type 0} {inner_form : I → Form → Type 0} {outer_steps : LayerSteps L}
    {inner_steps : StackSteps I} {outer_levels : ReloadSteps L} {inner_levels : ReloadSteps I} {Outer : L → Form → Type 0} {Inner : I → Form → Type 0}
    (outer : IsSteady outer_form outer_steps outer_levels Outer) (inner : IsSteadyStack with_registry inner_form inner_steps inner_levels Inner) where
  goes_stack : (x : L) (z : I) (o i : Form) (p : Plan) (e : Notice) (lane : ℕ) (v : RegistryState) (y : L) (u : I) (w : RegistryState)
      → LayeredSteps with_registry outer_steps inner_steps x z p e lane v y u w → (Outer x o → Outer y o) × (Inner z i → Inner u i)
  goes_stack x z o i (Both p q) e lane v y u w h = (
    (λ s. outer.goes x o p e lane no_filter h.between y w h.second s),
    (λ s. subst (λ k. Inner k i) (sym h.rest) (inner.aside h.notified i w (inner.goes z i q e lane v h.notified h.between h.first s))),
  )
  goes_stack x z o i other e lane v y u w h = absurd h

  -- a steady layer on a steady stack is a steady stack
  pub steady_stack : IsSteadyStack (λ x w. with_inner x (with_registry (inner_of x) w))
      (λ x. PartsForm OnSubscriber (outer_form (outer_of x)) (inner_form (inner_of x)))
      (λ x p e lane v y w. LayeredSteps with_registry outer_steps inner_steps (outer_of x) (inner_of x) p e lane v (outer_of y) (inner_of y) w)
      (λ x n l y. LayeredReloads outer_levels inner_levels (outer_of x) (inner_of x) n l (outer_of y) (inner_of y)) (StayBoth OnSubscriber Outer Inner)
  steady_stack = record {
    known = λ x f g s h. known_over OnSubscriber (outer_form (outer_of x)) (inner_form (inner_of x))
        s.over s.below g (λ k t. outer.known (outer_of x) s.over k s.outer t) (λ k t. inner.known (inner_of x) s.below k s.inner t) h ∙ sym s.form;
    has = λ x f s. subst (PartsForm OnSubscriber (outer_form (outer_of x)) (inner_form (inner_of x)))
        (sym s.form) (refl, outer.has (outer_of x) s.over s.outer, inner.has (inner_of x) s.below s.inner);
    goes = λ x f p e lane v y w h s.
        let went = goes_stack (outer_of x) (inner_of x) s.over s.below p e lane v (outer_of y) (inner_of y) w h in
        record { over = s.over; below = s.below; outer = went.0 s.outer; inner = went.1 s.inner; form = s.form };
    aside = λ x f w s. record { over = s.over; below = s.below; outer = s.outer; inner = inner.aside (inner_of x) s.below w s.inner; form = s.form };
    set =
        λ x f n l y h s. set_both x y f n l (λ g t. outer.set (outer_of x) g n l (outer_of y) h.0 t) (λ g t. inner.set (inner_of x) g n l (inner_of y) h.1 t) s;
  }

-- ---- what such a stack serves

module _ {S : Type 0} {with_registry : S → RegistryState → S} {has_form : S → Form → Type 0} {stepped : StackSteps S} {reloaded : ReloadSteps S}
    {Stays : S → Form → Type 0} (steady : IsSteadyStack with_registry has_form stepped reloaded Stays) (registry : S → RegistryState) where
  -- it is ready on the first registry, if its form is honest there
  pub ready_at_first : (f : Form) (limits : Limits) (stack : StackName) (x : S) → Stays x f → registry x ≡ start_of limits stack
      → IsHonestStack f (start_of limits stack).filters → (g : Form) × IsReady registry with_registry has_form stepped reloaded g x
  ready_at_first f limits stack x stays first honest = (
    f,
    record {
      honest = record { has = steady.has x f stays; rules = subst (λ (s : RegistryState). IsHonestStack f s.filters) (sym first) honest };
      settled = subst (λ (s : RegistryState). HasNoClosing s.store.spans) (sym first) (settled_new limits);
    },
  )

  -- what it served, with nothing kept at first, is a run of its form
  pub run_of : {hears : HearSteps S} {acts_at : ActsAt S} {requests : List Request} {answers : List Answer}
      (f : Form) (old new : Dispatch S) (s : RegistryState) → Stays (stack_of old) f → registry (stack_of old) ≡ s → kept_by old ≡ Some no_callsite
      → (h : Served registry with_registry has_form stepped reloaded hears acts_at requests answers old new)
      → RunsBySettings f requests answers h.made (Some no_callsite) s (kept_by new) (registry (stack_of new))
  run_of {hears} {acts_at} {requests} {answers} f old new s stays first kept h =
      let run = runs_by registry with_registry has_form stepped reloaded Stays
      steady.known steady.goes steady.aside steady.set [] requests answers h.made (kept_by old) f (stack_of old) (kept_by new) (stack_of new) stays h.run in
      subst (λ k. RunsBySettings f requests answers h.made k s (kept_by new) (registry (stack_of new))) kept
      (subst (λ r. RunsBySettings f requests answers h.made (kept_by old) r (kept_by new) (registry (stack_of new))) first (run.0, run.2))

-- a new recorder that hasn't failed keeps all that it went through
pub all_kept : (old new : RecorderState) (heard : Heard)
    → HearsBy recorder_steps old Here heard new → old ≡ new_recorder → new.failed ≡ false → new.notices ≡ map kept_notice heard
all_kept old new heard goes begins whole =
    let h = heard_records heard old new goes in
    h.kept
    ∙ ap (λ (r : RecorderState). r.notices ++ h.more) begins ∙ sym (h.split ∙ ap (λ (lost : List Recorded). h.more ++ lost) (h.all whole) ∙ append-nil h.more)
