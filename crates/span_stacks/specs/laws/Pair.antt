-- Two layers keep the law, since each does.
use Rattle.std.specs.Prelude.{◌≡◌, ℕ, [], ◌++◌, refl}
use Rattle.std.proofs.Common.{subst}
use Rattle.span_core.specs.Filters.{FilterSet}
use Rattle.span_layers.specs.Layer.{IsLeaf, LayerLaws, LayerSteps}
use Rattle.span_layers.specs.Parts.{PartsForm}
use Rattle.span_stacks.specs.Layered.{LayeredHears, PairSteps}
use Rattle.span_layers.specs.laws.Leaf.{no_leaf}
use Rattle.span_store.specs.Store.{RegistryState}
use Rattle.span_registry.proofs.Plain.{told_aside}
use Rattle.span_registry.specs.Behaviour.{Notice}
use Rattle.span_registry.specs.Form.{Terminal, Filtered, Form, InPair, Arrangement, Leaf, Parts}
use Rattle.span_registry.specs.KeptForm.{HasKeptForm}
use Rattle.span_registry.specs.Path.{mask_at}
use Rattle.span_registry.specs.Plan.{Both, Itself, Nobody, Plan, Through}
use Rattle.span_registry.specs.Position.{HearLaws, HearSteps, Heard, Here, Inner, Outer, Position, Told, Under, heard_by, told_in}

-- the form of two parts follows from what each of them has become
pub over_follows : (joint : Arrangement) {outer inner : Form → Type 0} (k : Arrangement) (o i : Form)
    → k ≡ joint → HasKeptForm outer o → HasKeptForm inner i
    → HasKeptForm (PartsForm joint outer inner) (Parts k o i)
over_follows joint k o i same s t = (Parts k s.0 t.0, (same, s.1, t.1), (refl, s.2, t.2))

-- what has two parts is no leaf
pub over_no_leaf : (joint : Arrangement) (outer inner : Form → Type 0) (f : Form)
    → PartsForm joint outer inner f → IsLeaf f → ⊥
over_no_leaf joint outer inner (Leaf still a) h l = h
over_no_leaf joint outer inner f h l = l

-- each of two parts is notified of its own notices
module _ {L I : Type 0} {outer_hears : HearSteps L} {inner_hears : HearSteps I}
    (outer : HearLaws outer_hears) (inner : HearLaws inner_hears) where
  layered_nothing : (x : L) (i : I) (position : Position)
      → LayeredHears outer_hears inner_hears x i position [] x i
  layered_nothing x i (Outer q) = outer.nothing x q
  layered_nothing x i (Inner q) = inner.nothing i q
  layered_nothing x i Here = tt
  layered_nothing x i (Under q) = tt

  layered_further : (x : L) (i : I) (y : L) (j : I) (z : L) (l : I) (position : Position)
      (h k : Heard)
      → LayeredHears outer_hears inner_hears x i position h y j
      → LayeredHears outer_hears inner_hears y j position k z l
      → LayeredHears outer_hears inner_hears x i position (h ++ k) z l
  layered_further x i y j z l (Outer q) h k a b = outer.further x y z q h k a b
  layered_further x i y j z l (Inner q) h k a b = inner.further i j l q h k a b
  layered_further x i y j z l Here h k a b = tt
  layered_further x i y j z l (Under q) h k a b = tt

  -- what the leaves of two parts are notified of keeps the law
  pub layered_hear_laws : {X : Type 0} (layer : X → L) (below : X → I)
      → HearLaws (λ x position h y.
      LayeredHears outer_hears inner_hears (layer x) (below x) position h (layer y) (below y))
  layered_hear_laws layer below = record {
    nothing = λ x position. layered_nothing (layer x) (below x) position;
    further =
        λ x y z position h k a b.
        layered_further (layer x) (below x) (layer y) (below y) (layer z) (below z) position h k a
        b;
  }

module _ {L I : Type 0} {outer_form : L → Form → Type 0} {inner_form : I → Form → Type 0}
    {outer_steps : LayerSteps L} {inner_steps : LayerSteps I} {outer_hears : HearSteps L}
    {inner_hears : HearSteps I} {outer_used : L → L → Type 0} {inner_used : I → I → Type 0}
    (outer : LayerLaws outer_form outer_steps outer_hears outer_used)
    (inner : LayerLaws inner_form inner_steps inner_hears inner_used) where
  pair_keeps : (x : L) (i : I) (p : Plan) (e : Notice) (lane : ℕ) (under : FilterSet)
      (v : RegistryState) (y : L) (j : I) (w : RegistryState) (f : Form)
      → PairSteps outer_steps inner_steps x i p e lane under v y j w
      → PartsForm InPair (outer_form x) (inner_form i) f
      → HasKeptForm (PartsForm InPair (outer_form y) (inner_form j)) f
  pair_keeps x i (Both p q) e lane under v y j w (Parts k o z) s h =
      over_follows InPair k o z h.0 (outer.keeps x p e lane under s.between y w o s.second h.1)
      (inner.keeps i q e lane under v j s.between z s.first h.2)
  pair_keeps x i Nobody e lane under v y j w f s h = absurd s
  pair_keeps x i Itself e lane under v y j w f s h = absurd s
  pair_keeps x i (Through p) e lane under v y j w f s h = absurd s
  pair_keeps x i p e lane under v y j w (Leaf still a) s h = absurd h
  pair_keeps x i p e lane under v y j w (Filtered n a f) s h = absurd h
  pair_keeps x i p e lane under v y j w (Terminal z) s h = absurd h

  pair_used : (x : L) (i : I) (y : L) (j : I) (f : Form) → outer_used x y → inner_used i j
      → PartsForm InPair (outer_form x) (inner_form i) f
      → HasKeptForm (PartsForm InPair (outer_form y) (inner_form j)) f
  pair_used x i y j (Parts k o z) s t h =
      over_follows InPair k o z h.0 (outer.put_in_use x y o s h.1) (inner.put_in_use i j z t h.2)
  pair_used x i y j (Leaf still a) s t h = absurd h
  pair_used x i y j (Filtered n a f) s t h = absurd h
  pair_used x i y j (Terminal z) s t h = absurd h

  pair_heard : (x : L) (i : I) (p : Plan) (e : Notice) (lane : ℕ) (under : FilterSet)
      (v : RegistryState) (y : L) (j : I) (w : RegistryState) (position : Position) (f : Form)
      → PairSteps outer_steps inner_steps x i p e lane under v y j w
      → PartsForm InPair (outer_form x) (inner_form i) f
      → LayeredHears outer_hears inner_hears x i position
      (heard_by p position (told_in e v.store lane (mask_at f position under))) y j
  pair_heard x i (Both p q) e lane under v y j w (Outer r) (Parts k o z) s h =
      subst (λ (told : Told). outer_hears x r (heard_by p r told) y)
      (told_aside e v s.between lane (mask_at o r under) s.extensions)
      (outer.notified x p e lane under s.between y w r o s.second h.1)
  pair_heard x i (Both p q) e lane under v y j w (Inner r) (Parts k o z) s h =
      inner.notified i q e lane under v j s.between r z s.first h.2
  pair_heard x i (Both p q) e lane under v y j w Here f s h = tt
  pair_heard x i (Both p q) e lane under v y j w (Under r) f s h = tt
  pair_heard x i (Both p q) e lane under v y j w position f s h = absurd h
  pair_heard x i Nobody e lane under v y j w position f s h = absurd s
  pair_heard x i Itself e lane under v y j w position f s h = absurd s
  pair_heard x i (Through p) e lane under v y j w position f s h = absurd s

  -- two layers keep the law, since each does
  pub pair_laws : {X : Type 0} (layer : X → L) (below : X → I)
      → LayerLaws (λ x. PartsForm InPair (outer_form (layer x)) (inner_form (below x)))
      (λ x p e lane under v y w.
      PairSteps outer_steps inner_steps (layer x) (below x) p e lane under v (layer y)
      (below y) w)
      (λ x position h y. LayeredHears outer_hears inner_hears (layer x) (below x) position h
      (layer y)
      (below y))
      (λ x y. outer_used (layer x) (layer y) × inner_used (below x) (below y))
  pair_laws layer below = record {
    keeps =
        λ x p e lane under v y w f s h.
        pair_keeps (layer x) (below x) p e lane under v (layer y) (below y) w f s h;
    put_in_use = λ x y f s h. pair_used (layer x) (below x) (layer y) (below y) f s.0 s.1 h;
    heard = layered_hear_laws outer.heard inner.heard layer below;
    notified =
        λ x p e lane under v y w position f s h.
        pair_heard (layer x) (below x) p e lane under v (layer y) (below y) w position f s h;
    leaf =
        no_leaf (λ x f h l. over_no_leaf InPair (outer_form (layer x)) (inner_form (below x)) f h
        l);
  }
