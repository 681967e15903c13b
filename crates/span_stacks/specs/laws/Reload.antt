-- Layers under filters and two parts keep the law of reloading, since what they are made of does.
use Rattle.std.specs.Prelude.{◌≡◌, ℕ, Bool, true, false, if◌then◌else◌, [], ◌∷◌, Option, refl}
use Rattle.std.proofs.Common.{ap, subst, sym}
use Rattle.span_core.specs.Filters.{FilterSet, has_filter}
use Rattle.span_core.specs.declared.filter.FilterId.{FilterId}
use Rattle.span_targets.specs.declared.setting.Setting.{Setting}
use Rattle.span_filters.specs.Filter.{FilterLaws, FilterReloadLaws, FilterReloadSteps, FilterSteps}
use Rattle.span_stacks.specs.Acts.{FilteredActs, LayeredActs}
use Rattle.span_stacks.specs.Filtered.{FilteredForm, FilteredHears, IsNumber}
use Rattle.span_layers.specs.Parts.{PartsForm}
use Rattle.span_stacks.specs.Layered.{LayeredHears}
use Rattle.span_stacks.specs.Reload.{FilteredReloads, LayeredReloads, ReloadsIf}
use Rattle.span_stacks.specs.laws.Filtered.{numbered_alone}
use Rattle.span_registry.specs.Behaviour.{Behaviour, Conduct}
use Rattle.span_registry.specs.Conducts.{ActsAt, Conducts, after_reload, reloading}
use Rattle.span_registry.specs.Form.{Filtered, Form, Arrangement, Parts}
use Rattle.span_registry.specs.Reload.{EitherReloaded, FollowsReload, ReloadLaws, ReloadSteps, ReloadedForm}
use Rattle.span_registry.specs.Position.{HearLaws, HearSteps, Here, Inner, Outer, Position, Under}

-- Below: a filter round a layer.

module _ {F L : Type 0} {has_answers : F → Behaviour → Type 0} {hooked : FilterSteps F}
    {reloaded : FilterReloadSteps F} {acts : F → Conduct → Type 0} {has_form : L → Form → Type 0}
    {inner_reloaded : ReloadSteps L} {hears : HearSteps L} {acts_at : ActsAt L}
    (laws : FilterLaws has_answers hooked acts) (own : FilterReloadLaws has_answers reloaded acts)
    (heard : HearLaws hears) (inside : ReloadLaws has_form inner_reloaded hears acts_at) where
  round_reload : (t : Bool) (a : F) (x : L) (n : ℕ) (l : Setting) (b : F) (y : L) (c : Behaviour)
      (f : Form) → has_answers a c → has_form x f → ReloadsIf reloaded inner_reloaded t a x n l b y
      → (d : Behaviour) × (g : Form) × has_answers b d × has_form y g
      × EitherReloaded t c d (g ≡ f) (ReloadedForm n f g)
  round_reload true a x n l b y c f h k s =
      let d = own.answers a l b c s.0 h in
      (d.0, f, d.1, subst (λ z. has_form z f) (sym s.1) k, ((λ e. laws.honest b d.0 d.1), refl))
  round_reload false a x n l b y c f h k s =
      let r = inside.keeps x n l y f s.1 k in
      (c, r.0, subst (λ z. has_answers z c) (sym s.0) h, r.1, (refl, r.2))

  filtered_reloads_keep : (i : FilterId) (a : F) (x : L) (n : ℕ) (l : Setting) (b : F) (y : L)
      (f : Form) → FilteredReloads reloaded inner_reloaded i a x n l b y
      → FilteredForm i (has_answers a) (has_form x) f
      → FollowsReload (FilteredForm i (has_answers b) (has_form y)) n f
  filtered_reloads_keep i a x n l b y (Filtered m c f) s h =
      let r = round_reload (has_filter i n) a x n l b y c f h.1 h.2 s in (
        Filtered m r.0 r.1,
        (h.0, r.2, r.3),
        (
          refl,
          subst (λ (t : Bool). EitherReloaded t c r.0 (r.1 ≡ f) (ReloadedForm n f r.1))
              (ap (λ (k : FilterSet). k n) (numbered_alone i m h.0)) r.4,
        ),
      )
  filtered_reloads_keep i a x n l b y f s h = absurd h

  filtered_reloads_heard : (t : Bool) (a : F) (x : L) (n : ℕ) (l : Setting) (b : F) (y : L)
      (position : Position) → ReloadsIf reloaded inner_reloaded t a x n l b y
      → FilteredHears hears x position [] y
  filtered_reloads_heard true a x n l b y (Under q) s =
      subst (λ z. hears x q [] z) (sym s.1) (heard.nothing x q)
  filtered_reloads_heard false a x n l b y (Under q) s = inside.heard x n l y q s.1
  filtered_reloads_heard t a x n l b y Here s = tt
  filtered_reloads_heard t a x n l b y (Outer q) s = tt
  filtered_reloads_heard t a x n l b y (Inner q) s = tt

  -- the conduct of the filter goes on where it has the number, else those under it do
  acts_here : (t : Bool) (i : FilterId) (a : F) (x : L) (n : ℕ) (l : Setting) (b : F) (y : L)
      (m : Option ℕ) (c : Conduct) → IsNumber i m → acts a c
      → ReloadsIf reloaded inner_reloaded t a x n l b y
      → FilteredActs i (acts b) acts_at y Here
      (if t then (m, after_reload l c) ∷ [] else (m, c) ∷ [])
  acts_here true i a x n l b y m c number h s = (number, own.goes_on a l b c s.0 h)
  acts_here false i a x n l b y m c number h s = (number, subst (λ k. acts k c) (sym s.0) h)

  acts_under : (t : Bool) (i : FilterId) (a : F) (x : L) (n : ℕ) (l : Setting) (b : F) (y : L)
      (position : Position) (m : Option ℕ) (c : Conduct) (cs : Conducts) → IsNumber i m → acts a c
      → acts_at x position cs → ReloadsIf reloaded inner_reloaded t a x n l b y
      → FilteredActs i (acts b) acts_at y (Under position)
      (if t then (m, after_reload l c) ∷ cs else (m, c) ∷ reloading n l cs)
  acts_under true i a x n l b y position m c cs number h k s =
      (number, own.goes_on a l b c s.0 h, subst (λ z. acts_at z position cs) (sym s.1) k)
  acts_under false i a x n l b y position m c cs number h k s =
      (number, subst (λ z. acts z c) (sym s.0) h, inside.acts x n l y position cs s.1 k)

  filtered_reloads_act : (i : FilterId) (a : F) (x : L) (n : ℕ) (l : Setting) (b : F) (y : L)
      (position : Position) (cs : Conducts) → FilteredReloads reloaded inner_reloaded i a x n l b y
      → FilteredActs i (acts a) acts_at x position cs
      → FilteredActs i (acts b) acts_at y position (reloading n l cs)
  filtered_reloads_act i a x n l b y Here ((m, c) ∷ []) s h =
      subst (λ (t : Bool).
      FilteredActs i (acts b) acts_at y Here
      (if t then (m, after_reload l c) ∷ [] else (m, c) ∷ []))
      (ap (λ (k : FilterSet). k n) (numbered_alone i m h.0))
      (acts_here (has_filter i n) i a x n l b y m c h.0 h.1 s)
  filtered_reloads_act i a x n l b y (Under position) ((m, c) ∷ cs) s h =
      subst (λ (t : Bool).
      FilteredActs i (acts b) acts_at y (Under position)
      (if t then (m, after_reload l c) ∷ cs else (m, c) ∷ reloading n l cs))
      (ap (λ (k : FilterSet). k n) (numbered_alone i m h.0))
      (acts_under (has_filter i n) i a x n l b y position m c cs h.0 h.1 h.2 s)
  filtered_reloads_act i a x n l b y position cs s h = absurd h

  -- a filtered layer keeps the law, since its filter and its layer keep theirs
  pub filtered_reloads : {X : Type 0} (id : X → FilterId) (filter : X → F) (layer : X → L)
      → ReloadLaws (λ x. FilteredForm (id x) (has_answers (filter x)) (has_form (layer x)))
      (λ x n l y. (id y ≡ id x)
      × FilteredReloads reloaded inner_reloaded (id x) (filter x) (layer x) n l (filter y)
      (layer y))
      (λ x position h y. FilteredHears hears (layer x) position h (layer y))
      (λ x. FilteredActs (id x) (acts (filter x)) acts_at (layer x))
  filtered_reloads id filter layer = record {
    keeps =
        λ x n l y f s h. subst
        (λ k. FollowsReload (FilteredForm k (has_answers (filter y)) (has_form (layer y))) n f)
        (sym s.0) (filtered_reloads_keep (id x) (filter x) (layer x) n l (filter y) (layer y) f s.1
        h);
    heard =
        λ x n l y position s. filtered_reloads_heard (has_filter (id x) n) (filter x) (layer x) n l
        (filter y) (layer y) position s.1;
    acts =
        λ x n l y position cs s a.
        subst (λ k. FilteredActs k (acts (filter y)) acts_at (layer y) position (reloading n l cs))
        (sym s.0) (filtered_reloads_act (id x) (filter x) (layer x) n l (filter y) (layer y) position
        cs
        s.1 a);
  }

-- Below: two parts, of a pair or of a stack.

module _ {L I : Type 0} {outer_form : L → Form → Type 0} {inner_form : I → Form → Type 0}
    {outer_reloaded : ReloadSteps L} {inner_reloaded : ReloadSteps I} {outer_hears : HearSteps L}
    {inner_hears : HearSteps I} {outer_acts : ActsAt L} {inner_acts : ActsAt I}
    (outer : ReloadLaws outer_form outer_reloaded outer_hears outer_acts)
    (inner : ReloadLaws inner_form inner_reloaded inner_hears inner_acts) where
  reloads_over : (joint : Arrangement) (y : L) (j : I) (n : ℕ) (k : Arrangement) (o z : Form)
      → k ≡ joint → FollowsReload (outer_form y) n o → FollowsReload (inner_form j) n z
      → FollowsReload (PartsForm joint (outer_form y) (inner_form j)) n (Parts k o z)
  reloads_over joint y j n k o z same s t = (Parts k s.0 t.0, (same, s.1, t.1), (refl, s.2, t.2))

  layered_reloads_keep : (joint : Arrangement) (x : L) (i : I) (n : ℕ) (l : Setting) (y : L)
      (j : I) (f : Form) → LayeredReloads outer_reloaded inner_reloaded x i n l y j
      → PartsForm joint (outer_form x) (inner_form i) f
      → FollowsReload (PartsForm joint (outer_form y) (inner_form j)) n f
  layered_reloads_keep joint x i n l y j (Parts k o z) s h =
      reloads_over joint y j n k o z h.0 (outer.keeps x n l y o s.0 h.1)
      (inner.keeps i n l j z s.1 h.2)
  layered_reloads_keep joint x i n l y j f s h = absurd h

  layered_reloads_heard : (x : L) (i : I) (n : ℕ) (l : Setting) (y : L) (j : I)
      (position : Position) → LayeredReloads outer_reloaded inner_reloaded x i n l y j
      → LayeredHears outer_hears inner_hears x i position [] y j
  layered_reloads_heard x i n l y j (Outer q) s = outer.heard x n l y q s.0
  layered_reloads_heard x i n l y j (Inner q) s = inner.heard i n l j q s.1
  layered_reloads_heard x i n l y j Here s = tt
  layered_reloads_heard x i n l y j (Under q) s = tt

  layered_reloads_act : (x : L) (i : I) (n : ℕ) (l : Setting) (y : L) (j : I)
      (position : Position)
      (cs : Conducts) → LayeredReloads outer_reloaded inner_reloaded x i n l y j
      → LayeredActs outer_acts inner_acts x i position cs
      → LayeredActs outer_acts inner_acts y j position (reloading n l cs)
  layered_reloads_act x i n l y j (Outer position) cs s a = outer.acts x n l y position cs s.0 a
  layered_reloads_act x i n l y j (Inner position) cs s a = inner.acts i n l j position cs s.1 a
  layered_reloads_act x i n l y j position cs s a = absurd a

  -- two parts keep the law, since each does
  pub layered_reloads : (joint : Arrangement) {X : Type 0} (layer : X → L) (below : X → I)
      → ReloadLaws (λ x. PartsForm joint (outer_form (layer x)) (inner_form (below x)))
      (λ x n l y. LayeredReloads outer_reloaded inner_reloaded (layer x) (below x) n l (layer y)
      (below y))
      (λ x position h y. LayeredHears outer_hears inner_hears (layer x) (below x) position h
      (layer y)
      (below y))
      (λ x. LayeredActs outer_acts inner_acts (layer x) (below x))
  layered_reloads joint layer below = record {
    keeps =
        λ x n l y f s h. layered_reloads_keep joint (layer x) (below x) n l (layer y) (below y) f s
        h;
    heard =
        λ x n l y position s.
        layered_reloads_heard (layer x) (below x) n l (layer y) (below y) position s;
    acts =
        λ x n l y position cs s a.
        layered_reloads_act (layer x) (below x) n l (layer y) (below y) position cs s a;
  }
