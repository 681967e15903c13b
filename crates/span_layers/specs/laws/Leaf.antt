-- A leaf keeps the law of layers, if it is notified as one and goes on by its own step.
use Rattle.std.specs.Prelude.{◌≡◌, ℕ, Bool, refl, true}
use Rattle.std.proofs.Common.{ap, subst, sym}
use Rattle.span_core.specs.Filters.{FilterSet}
use Rattle.span_layers.specs.Idle.{IdleSteps}
use Rattle.span_layers.specs.Layer.{IsLeaf, LayerSteps, GoesBy, HearsBy, LayerLaws, LeafLaws, AnySteps}
use Rattle.span_layers.specs.Observe.{ObserverStep, ObserverSteps, open_answers}
use Rattle.span_layers.specs.Veto.{VetoForm}
use Rattle.span_store.specs.Store.{RegistryState}
use Rattle.span_registry.specs.Behaviour.{AreHonest, Behaviour, Notice}
use Rattle.span_registry.specs.Form.{Form, Leaf}
use Rattle.span_registry.specs.KeptForm.{HasKeptForm}
use Rattle.span_registry.specs.laws.Form.{kept_form}
use Rattle.span_registry.specs.Path.{mask_at}
use Rattle.span_registry.specs.Plan.{Itself, Plan}
use Rattle.span_registry.specs.Position.{Here, Inner, Outer, Position, Under, HearSteps, heard_by, told_in}
use Rattle.span_registry.specs.laws.Position.{leaf_hear_laws}
use Rattle.span_registry.specs.View.{plain_view}

-- a form that equals a leaf's is a leaf's
pub is_leaf : {still : Bool} {a : Behaviour} {f : Form} → f ≡ Leaf still a → IsLeaf f
is_leaf e = subst IsLeaf (sym e) tt

-- where no form of a layer is a leaf's, the law of leaves is kept
pub no_leaf : {L : Type 0} {has_form : L → Form → Type 0} {stepped : LayerSteps L}
    {hears : HearSteps L} → ((x : L) (f : Form) → has_form x f → IsLeaf f → ⊥)
    → LeafLaws has_form stepped hears
no_leaf none = record {
  alone = λ x f p e lane under v y w h l s. absurd (none x f h l);
  kind = λ x f p e lane under v y w g h l s k. absurd (none x f h l);
  goes = λ x f h y k l a. absurd (none x f k l);
}

-- the mask at a leaf is that of the filters round it alone
pub leaf_mask : (f : Form) (under : FilterSet) → IsLeaf f → mask_at f Here under ≡ under
leaf_mask (Leaf still a) under l = refl
leaf_mask f under l = absurd l

module _ {L : Type 0} (has_form : L → Form → Type 0) (stepped : LayerSteps L)
    (registered : L → L → Type 0)
    (alone : (x : L) (p : Plan) (e : Notice) (lane : ℕ) (under : FilterSet) (v : RegistryState)
    (y : L) (w : RegistryState) → stepped x p e lane under v y w → p ≡ Itself)
    (leaf : (x : L) (f : Form) → has_form x f → IsLeaf f) where
  told_alone : (x : L) (e : Notice) (lane : ℕ) (under : FilterSet) (v : RegistryState) (y : L)
      (w : RegistryState) (position : Position) (f : Form) → stepped x Itself e lane under v y w
      → has_form x f
      → HearsBy stepped x position
      (heard_by Itself position (told_in e v.store lane (mask_at f position under))) y
  told_alone x e lane under v y w Here f s h = (
    y,
    record {
      under = under;
      before = v;
      after = w;
      shown = ap (plain_view v.store lane) (leaf_mask f under (leaf x f h));
      step = s;
    },
    refl,
  )
  told_alone x e lane under v y w (Under q) f s h = tt
  told_alone x e lane under v y w (Outer q) f s h = tt
  told_alone x e lane under v y w (Inner q) f s h = tt

  leaf_told : (x : L) (p : Plan) (e : Notice) (lane : ℕ) (under : FilterSet) (v : RegistryState)
      (y : L) (w : RegistryState) (position : Position) (f : Form) → stepped x p e lane under v y w
      → has_form x f
      → HearsBy stepped x position
      (heard_by p position (told_in e v.store lane (mask_at f position under)))
      y
  leaf_told x p e lane under v y w position f s h =
      let own = alone x p e lane under v y w s in
      subst (λ (q : Plan).
      HearsBy stepped x position
      (heard_by q position (told_in e v.store lane (mask_at f position under))) y) (sym own)
      (told_alone x e lane under v y w position f
      (subst (λ (q : Plan). stepped x q e lane under v y w) own s) h)

  -- what is notified as a leaf, and goes on by its own step, keeps the law of layers, where it
  -- keeps its form
  pub leaf_layer_laws : ((x : L) (p : Plan) (e : Notice) (lane : ℕ) (under : FilterSet)
      (v : RegistryState) (y : L) (w : RegistryState) (f : Form)
      → stepped x p e lane under v y w → has_form x f → HasKeptForm (has_form y) f)
      → ((x y : L) (f : Form) → registered x y → has_form x f → HasKeptForm (has_form y) f)
      → LayerLaws has_form stepped (HearsBy stepped) registered
  leaf_layer_laws keeps used = record {
    keeps = keeps;
    put_in_use = used;
    heard = leaf_hear_laws (GoesBy stepped);
    notified = leaf_told;
    leaf = record {
      alone = λ x f p e lane under v y w h l s. alone x p e lane under v y w s;
      kind = λ x f p e lane under v y w g h l s k. leaf x g k;
      goes = λ x f h y k l a. a;
    };
  }

-- a leaf that always has this one form keeps the law, whatever it does
pub fixed_laws : {L : Type 0} (form : Form) (stepped : LayerSteps L) (registered : L → L → Type 0)
    → IsLeaf form
    → ((x : L) (p : Plan) (e : Notice) (lane : ℕ) (under : FilterSet) (v : RegistryState) (y : L)
    (w : RegistryState) → stepped x p e lane under v y w → p ≡ Itself)
    → LayerLaws (λ x f. f ≡ form) stepped (HearsBy stepped) registered
fixed_laws form stepped registered leaf alone =
    leaf_layer_laws (λ x f. f ≡ form) stepped registered alone (λ x f h. subst IsLeaf (sym h) leaf)
    (λ x p e lane under v y w f s h. (f, h, kept_form f)) (λ x y f s h. (f, h, kept_form f))

-- a leaf that always has this one form keeps the law, also where nothing is said of what it does
pub any_laws : {L : Type 0} (form : Form) (registered : L → L → Type 0) → IsLeaf form
    → LayerLaws (λ (x : L) f. f ≡ form) AnySteps (HearsBy AnySteps) registered
any_laws form registered leaf =
    fixed_laws form AnySteps registered leaf (λ x p e lane under v y w s. s)

-- what is unchanged keeps its form
idle_follows : {L : Type 0} (has_form : L → Form → Type 0) (x y : L) (f : Form) → y ≡ x
    → has_form x f → HasKeptForm (has_form y) f
idle_follows has_form x y f same h = (f, subst (λ z. has_form z f) (sym same) h, kept_form f)

-- a leaf that does nothing keeps the law
pub idle_laws : {L : Type 0} (has_form : L → Form → Type 0)
    → ((x : L) (f : Form) → has_form x f → IsLeaf f)
    → LayerLaws has_form IdleSteps (HearsBy IdleSteps) (λ x y. y ≡ x)
idle_laws has_form leaf =
    leaf_layer_laws has_form IdleSteps (λ x y. y ≡ x) (λ x p e lane under v y w s. s.0) leaf
    (λ x p e lane under v y w f s h. idle_follows has_form x y f s.1 h)
    (λ x y f s h. idle_follows has_form x y f s h)

-- the answers of an observer are honest
pub open_honest : AreHonest open_answers
open_honest = record {
  always = λ m v e. refl;
  never = λ m v e. absurd (cc);
  above = λ m v e. absurd (cc);
  alike = λ m k e. refl;
}

-- an observer in a layer keeps the law
pub observer_laws : {T X : Type 0} (observed : ObserverSteps T) (own : X → T)
    → LayerLaws (λ x f. f ≡ Leaf true open_answers)
    (λ x p e lane under v y w. ObserverStep observed (own x) p e lane under v (own y) w)
    (HearsBy (λ x p e lane under v y w.
    ObserverStep observed (own x) p e lane under v (own y) w)) (λ x y. y ≡ x)
observer_laws observed own =
    fixed_laws (Leaf true open_answers)
    (λ x p e lane under v y w. ObserverStep observed (own x) p e lane under v (own y) w)
    (λ x y. y ≡ x) tt (λ x p e lane under v y w s. s.0)

-- a filter as a layer keeps the law, whatever it answers
pub veto_laws : {L : Type 0} (answers : L → Behaviour → Type 0)
    → LayerLaws (λ x. VetoForm (answers x)) IdleSteps (HearsBy IdleSteps) (λ x y. y ≡ x)
veto_laws answers = idle_laws (λ x. VetoForm (answers x)) (λ x f h. is_leaf h.2)
