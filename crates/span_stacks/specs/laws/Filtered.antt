-- A layer under a filter keeps the law, since filter and layer do.
use Rattle.std.specs.Prelude.{◌≡◌, ℕ, Bool, false, is_some, [], Option, Some, None, refl, ◌++◌}
use Rattle.std.specs.Option.{option_map_or}
use Rattle.std.proofs.Common.{ap, subst, sym, ◌∙◌}
use mathlib.Core.Bool.{or-false}
use Rattle.span_core.specs.Filters.{FilterSet, has_filter, union}
use Rattle.span_core.specs.NumberSet.{has_number}
use Rattle.span_core.specs.declared.filter.FilterId.{FilterId}
use Rattle.span_filters.specs.Filter.{FilterLaws, FilterSteps, KeepsInterestAndHint}
use Rattle.span_stacks.specs.Filtered.{FilteredForm, FilteredSteps, Hooked, IsNumber, FilteredHears}
use Rattle.span_layers.specs.Layer.{IsLeaf, LayerSteps, LayerLaws}
use Rattle.span_layers.specs.laws.Leaf.{no_leaf}
use Rattle.span_store.specs.Store.{RegistryState}
use Rattle.span_registry.proofs.Plain.{told_aside}
use Rattle.span_registry.specs.Behaviour.{Behaviour, Conduct, Notice, OnClose, OnEnter, OnEvent, OnExit, OnFollows, OnIdChange, OnNewSpan, OnRecord}
use Rattle.span_registry.specs.Conducts.{filter_numbered}
use Rattle.span_registry.specs.Form.{Filtered, Form, Leaf, Parts, Terminal}
use Rattle.span_registry.specs.KeptForm.{HasKeptForm}
use Rattle.span_registry.specs.laws.Form.{kept_form}
use Rattle.span_registry.specs.Path.{mask_at}
use Rattle.span_registry.specs.Plan.{Both, Itself, Nobody, Plan, Through}
use Rattle.span_registry.specs.Position.{Here, Inner, Outer, Position, Under, HearSteps, Heard, Told, heard_by, told_in}

has_none : {A : Type 0} (has : A → Bool) (o : Option A) → is_some o ≡ false
    → option_map_or has o false ≡ false
has_none has None h = refl
has_none has (Some a) h = absurd (cc)

-- an id has the filter of its number, and no filter where it has no number
pub numbered_alone : (id : FilterId) (n : Option ℕ) → IsNumber id n
    → has_filter id ≡ filter_numbered n
numbered_alone id None h = λ i k. has_none (λ numbers. has_number numbers k) id.numbers h i
numbered_alone id (Some n) h = h.1

-- under a filter's id the mask goes on by its number, if it has one
mask_under : (i : FilterId) (n : Option ℕ) (c : Behaviour) (f : Form) (q : Position)
    (under : FilterSet) → IsNumber i n
    → mask_at f q (union under (has_filter i)) ≡ mask_at (Filtered n c f) (Under q) under
mask_under i None c f q under h =
    ap (λ (set : FilterSet). mask_at f q (union under set)) (numbered_alone i None h)
    ∙ ap (mask_at f q) (λ j k. or-false (under k) j)
mask_under i (Some n) c f q under h = ap (λ (set : FilterSet). mask_at f q (union under set)) h.1

module _ {F L : Type 0} {has_answers : F → Behaviour → Type 0} {hooked : FilterSteps F}
    {acts : F → Conduct → Type 0} {has_form : L → Form → Type 0} {stepped : LayerSteps L}
    {hears : HearSteps L} {registered : L → L → Type 0} (own : FilterLaws has_answers hooked acts)
    (inside : LayerLaws has_form stepped hears registered) where
  same_answers : (f g : F) (a : Behaviour) → g ≡ f → has_answers f a
      → KeepsInterestAndHint (has_answers g) a
  same_answers f g a e h =
      (a, subst (λ k. has_answers k a) (sym e) h, record { interest = refl; hint = refl })

  -- filters keep interest and hint where they are notified, and where they are not
  hooks_keep : (f : F) (e : Notice) (lane : ℕ) (under : FilterSet) (v : RegistryState) (g : F)
      (w : RegistryState) (a : Behaviour) → Hooked hooked f e lane under v g w → has_answers f a
      → KeepsInterestAndHint (has_answers g) a
  hooks_keep f (OnNewSpan attrs id) lane under v g w a h d =
      own.keeps f (OnNewSpan attrs id) lane under v g w a h d
  hooks_keep f (OnRecord id values) lane under v g w a h d =
      own.keeps f (OnRecord id values) lane under v g w a h d
  hooks_keep f (OnFollows id other) lane under v g w a h d = same_answers f g a h.0 d
  hooks_keep f (OnEvent e) lane under v g w a h d = same_answers f g a h.0 d
  hooks_keep f (OnEnter id) lane under v g w a h d = own.keeps f (OnEnter id) lane under v g w a h d
  hooks_keep f (OnExit id) lane under v g w a h d = own.keeps f (OnExit id) lane under v g w a h d
  hooks_keep f (OnIdChange id other) lane under v g w a h d = same_answers f g a h.0 d
  hooks_keep f (OnClose id) lane under v g w a h d = own.keeps f (OnClose id) lane under v g w a h d

  -- the form of a filtered layer follows from what filter and layer have become
  filtered_follows : (id k : FilterId) (g : F) (y : L) (n : Option ℕ) (a : Behaviour) (f : Form)
      → k ≡ id → IsNumber id n → KeepsInterestAndHint (has_answers g) a → HasKeptForm (has_form y) f
      → HasKeptForm (FilteredForm k (has_answers g) (has_form y)) (Filtered n a f)
  filtered_follows id k g y n a f same number answers form = (
    Filtered n answers.0 form.0,
    (subst (λ z. IsNumber z n) (sym same) number, answers.1, form.1),
    (refl, answers.2, (λ h. own.honest g answers.0 answers.1), form.2),
  )

  filtered_keeps : (i : FilterId) (a : F) (x : L) (p : Plan) (e : Notice) (lane : ℕ)
      (under : FilterSet) (v : RegistryState) (k : FilterId) (b : F) (y : L) (w : RegistryState)
      (f : Form)
      → k ≡ i → FilteredSteps hooked stepped i a x p e lane under v b y w
      → FilteredForm i (has_answers a) (has_form x) f
      → HasKeptForm (FilteredForm k (has_answers b) (has_form y)) f
  filtered_keeps i a x Nobody e lane under v k b y w (Filtered n c f) same s h =
      filtered_follows i k b y n c f same h.0 (same_answers a b c s.0 h.1)
      (f, subst (λ z. has_form z f) (sym s.1) h.2, kept_form f)
  filtered_keeps i a x (Through p) e lane under v k b y w (Filtered n c f) same s h =
      filtered_follows i k b y n c f same h.0 (hooks_keep a e lane _ v b s.between c s.filter h.1)
      (inside.keeps x p e lane _ s.between y w f s.layer h.2)
  filtered_keeps i a x Itself e lane under v k b y w f same s h = absurd s
  filtered_keeps i a x (Both p q) e lane under v k b y w f same s h = absurd s
  filtered_keeps i a x p e lane under v k b y w (Leaf still c) same s h = absurd h
  filtered_keeps i a x p e lane under v k b y w (Parts j o z) same s h = absurd h
  filtered_keeps i a x p e lane under v k b y w (Terminal z) same s h = absurd h

  filtered_used : (i : FilterId) (a : F) (x : L) (k : FilterId) (b : F) (y : L) (f : Form) → k ≡ i
      → b ≡ a → registered x y → FilteredForm i (has_answers a) (has_form x) f
      → HasKeptForm (FilteredForm k (has_answers b) (has_form y)) f
  filtered_used i a x k b y (Filtered n c f) same own_same used h =
      filtered_follows i k b y n c f same h.0 (same_answers a b c own_same h.1)
      (inside.put_in_use x y f used h.2)
  filtered_used i a x k b y (Leaf still c) same own_same used h = absurd h
  filtered_used i a x k b y (Parts j o z) same own_same used h = absurd h
  filtered_used i a x k b y (Terminal z) same own_same used h = absurd h

  filtered_nothing : (x : L) (position : Position) → FilteredHears hears x position [] x
  filtered_nothing x (Under q) = inside.heard.nothing x q
  filtered_nothing x Here = tt
  filtered_nothing x (Outer q) = tt
  filtered_nothing x (Inner q) = tt

  filtered_further : (x y z : L) (position : Position) (h k : Heard)
      → FilteredHears hears x position h y
      → FilteredHears hears y position k z → FilteredHears hears x position (h ++ k) z
  filtered_further x y z (Under q) h k a b = inside.heard.further x y z q h k a b
  filtered_further x y z Here h k a b = tt
  filtered_further x y z (Outer q) h k a b = tt
  filtered_further x y z (Inner q) h k a b = tt

  -- what is under a filter is notified of what that filter enables, in the view under the filter
  -- too
  filtered_heard : (i : FilterId) (a : F) (x : L) (p : Plan) (e : Notice) (lane : ℕ)
      (under : FilterSet) (v : RegistryState) (b : F) (y : L) (w : RegistryState)
      (position : Position)
      (f : Form)
      → FilteredSteps hooked stepped i a x p e lane under v b y w
      → FilteredForm i (has_answers a) (has_form x) f
      → FilteredHears hears x position
      (heard_by p position (told_in e v.store lane (mask_at f position under))) y
  filtered_heard i a x Nobody e lane under v b y w (Under q) f s h =
      subst (λ z. hears x q [] z) (sym s.1) (inside.heard.nothing x q)
  filtered_heard i a x (Through p) e lane under v b y w (Under q) (Filtered n c f) s h =
      let set = union under (has_filter i) in
      let same : told_in e s.between.store lane (mask_at f q set)
      ≡ told_in e v.store lane (mask_at (Filtered n c f) (Under q) under) =
      told_aside e v s.between lane (mask_at f q set) s.extensions
      ∙ ap (told_in e v.store lane) (mask_under i n c f q under h.0) in
      subst (λ (told : Told). hears x q (heard_by p q told) y) same
      (inside.notified x p e lane set s.between y w q f s.layer h.2)
  filtered_heard i a x (Through p) e lane under v b y w (Under q) f s h = absurd h
  filtered_heard i a x Itself e lane under v b y w (Under q) f s h = absurd s
  filtered_heard i a x (Both p r) e lane under v b y w (Under q) f s h = absurd s
  filtered_heard i a x p e lane under v b y w Here f s h = tt
  filtered_heard i a x p e lane under v b y w (Outer q) f s h = tt
  filtered_heard i a x p e lane under v b y w (Inner q) f s h = tt

  filtered_no_leaf : (i : FilterId) (a : F) (x : L) (f : Form)
      → FilteredForm i (has_answers a) (has_form x) f → IsLeaf f → ⊥
  filtered_no_leaf i a x (Leaf still c) h l = h
  filtered_no_leaf i a x f h l = l

  -- a filtered layer keeps the law, since its filter and its layer keep theirs
  pub filtered_laws : {X : Type 0} (id : X → FilterId) (filter : X → F) (layer : X → L)
      → LayerLaws (λ x. FilteredForm (id x) (has_answers (filter x)) (has_form (layer x)))
      (λ x p e lane under v y w. (id y ≡ id x)
      × FilteredSteps hooked stepped (id x) (filter x) (layer x) p e lane under v (filter y)
      (layer y) w)
      (λ x position h y. FilteredHears hears (layer x) position h (layer y))
      (λ x y. (id y ≡ id x) × (filter y ≡ filter x) × registered (layer x) (layer y))
  filtered_laws id filter layer = record {
    keeps =
        λ x p e lane under v y w f s h.
        filtered_keeps (id x) (filter x) (layer x) p e lane under v (id y) (filter y) (layer y) w f
        s.0 s.1 h;
    put_in_use =
        λ x y f s h. filtered_used (id x) (filter x) (layer x) (id y) (filter y) (layer y) f s.0 s.1
        s.2 h;
    heard = record {
      nothing = λ x position. filtered_nothing (layer x) position;
      further =
          λ x y z position h k a b. filtered_further (layer x) (layer y) (layer z) position h k a b;
    };
    notified =
        λ x p e lane under v y w position f s h.
        filtered_heard (id x) (filter x) (layer x) p e lane under v (filter y) (layer y) w position
        f
        s.1 h;
    leaf = no_leaf (λ x f h l. filtered_no_leaf (id x) (filter x) (layer x) f h l);
  }
