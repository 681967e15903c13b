-- What goes on lawfully keeps the laws of layers; a box with it keeps them too.
use Rattle.std.specs.Prelude.{◌≡◌, [], ◌∷◌, ◌++◌, refl}
use Rattle.std.specs.List.{FoldsTo}
use Rattle.std.proofs.Common.{ap, append_assoc, subst, sym}
use Rattle.std.proofs.lemmas.List.{append-nil}
use Rattle.span_boxed.specs.Boxed.{ActsPlainlyAt, Further, HearsInTurn, HearsLawfully, Reloaded, ReloadsLawfully, Nothing, RegistersLawfully, StepsLawfully}
use Rattle.span_layers.specs.Acts.{PathLaws}
use Rattle.span_layers.specs.Layer.{GoesBy, IsLeaf, LayerLaws, LayerSteps}
use Rattle.span_layers.specs.laws.Leaf.{leaf_mask}
use Rattle.span_registry.specs.Conducts.{ActsAt}
use Rattle.span_registry.specs.Form.{Form, Leaf}
use Rattle.span_registry.specs.KeptForm.{KeepsForm}
use Rattle.span_registry.specs.Reload.{ReloadLaws, ReloadSteps}
use Rattle.span_registry.specs.Path.{mask_at}
use Rattle.span_registry.specs.Plan.{Itself, Plan}
use Rattle.span_registry.specs.Position.{Heard, HearLaws, HearSteps, Here, Position, heard_by, told_in}
use Rattle.span_registry.specs.laws.Position.{leaf_hear_laws}
use Rattle.span_registry.specs.View.{plain_view}

module _ {L : Type 0} (form : L → Form → Type 0) (stepped : LayerSteps L)
    (reloaded : ReloadSteps L) where
  then_heard : (x u : L) (position : Position) (before : Heard)
      → HearsInTurn form stepped reloaded x position before u → {k : Heard} {z : L}
      → HearsInTurn form stepped reloaded u position k z
      → HearsInTurn form stepped reloaded x position (before ++ k) z
  then_heard x u position before a Nothing =
      subst (λ l. HearsInTurn form stepped reloaded x position l u) (sym (append-nil before)) a
  then_heard x u position before a (Further {h} {y} {z} b p e lane under v w f s g) =
      subst (λ l. HearsInTurn form stepped reloaded x position l z)
      (append_assoc before h
      (heard_by p position (told_in e v.store lane (mask_at f position under))))
      (Further (then_heard x u position before a b) p e lane under v w f s g)
  then_heard x u position before a (Reloaded b n l s) =
      Reloaded (then_heard x u position before a b) n l s

  -- what leaves are notified of in turn keeps the law
  pub in_turn_laws : HearLaws (HearsInTurn form stepped reloaded)
  in_turn_laws = record {
    nothing = λ x position. Nothing;
    further = λ x y z position h k a b. then_heard x y position h a b;
  }

-- a form that keeps what a leaf's had is a leaf's
leaf_kept : (f g : Form) → KeepsForm f g → IsLeaf f → IsLeaf g
leaf_kept (Leaf still a) (Leaf moved b) k l = tt
leaf_kept (Leaf still a) g k l = absurd k
leaf_kept f g k l = absurd l

module _ {L : Type 0} (form : L → Form → Type 0) (steps : LayerSteps L) (reloaded : ReloadSteps L)
    (hears : HearSteps L) (acts_at : ActsAt L) where
  -- a leaf goes on by its own step, from a value to another, which is a leaf too
  abbrev GoesAsLeaf : L → Heard → L → Type 0
  GoesAsLeaf x h y =
      FoldsTo (GoesBy (StepsLawfully form steps hears acts_at)) x h y × (g : Form) × form y g
      × IsLeaf g

  goes_as_leaf : (x : L) (f : Form) → form x f → IsLeaf f → {h : Heard} {y : L}
      → HearsLawfully form steps reloaded hears acts_at x Here h y → GoesAsLeaf x h y
  goes_as_leaf x f has leaf Nothing = (refl, f, has, leaf)
  goes_as_leaf x f has leaf (Further {h} {y} {z} b p e lane under v w g s k) =
      let before = goes_as_leaf x f has leaf b in
      let own : p ≡ Itself = s.alone before.1 before.2 before.3 in
      let kind = s.kind before.1 g before.2 before.3 k in
      let next = s.follows before.1 before.2 in
      let told = told_in e v.store lane (mask_at g Here under) in
      let step =
      subst (λ (q : Plan). StepsLawfully form steps hears acts_at y q e lane under v z w) own s
      in
      let one : FoldsTo (GoesBy (StepsLawfully form steps hears acts_at)) y (told ∷ []) z = (
        z,
        record {
          under = under;
          before = v;
          after = w;
          shown = ap (plain_view v.store lane) (leaf_mask g under kind);
          step = step;
        },
        refl,
      ) in
      let whole =
      (leaf_hear_laws (GoesBy (StepsLawfully form steps hears acts_at))).further x y z Here h
      (heard_by p Here told) before.0
      (subst (λ (q : Plan).
      FoldsTo (GoesBy (StepsLawfully form steps hears acts_at)) y (heard_by q Here told)
      z) (sym own) one) in
      (whole, next.0, next.1, leaf_kept before.1 next.0 next.2 before.3)
  goes_as_leaf x f has leaf (Reloaded {h} {y} {z} b n l s) =
      let before = goes_as_leaf x f has leaf b in
      let same : z ≡ y = s.leaf before.1 before.2 before.3 in (
        subst (λ (u : L). FoldsTo (GoesBy (StepsLawfully form steps hears acts_at)) x h u)
            (sym same)
            before.0,
        before.1,
        subst (λ (u : L). form u before.1) (sym same) before.2,
        before.3,
      )

-- an object that is reloaded lawfully keeps the law of reloading
pub object_reloads : {L : Type 0} {form : L → Form → Type 0} {steps : LayerSteps L}
    {reloaded : ReloadSteps L} {hears : HearSteps L} {acts_at : ActsAt L}
    → ReloadLaws form (ReloadsLawfully form reloaded hears acts_at)
    (HearsLawfully form steps reloaded hears acts_at) (ActsPlainlyAt form acts_at)
object_reloads = record {
  keeps = λ x n l y f s h. s.follows f h;
  heard = λ x n l y position s. Reloaded Nothing n l s;
  acts = λ x n l y position cs s a. s.acts_on position cs a.acted;
}

-- an object that goes on lawfully keeps the law of layers
pub object_laws : {L : Type 0} {form : L → Form → Type 0} {steps : LayerSteps L}
    {reloaded : ReloadSteps L} {hears : HearSteps L} {registered : L → L → Type 0}
    {acts_at : ActsAt L}
    → LayerLaws form (StepsLawfully form steps hears acts_at)
    (HearsLawfully form steps reloaded hears acts_at)
    (RegistersLawfully form registered acts_at)
object_laws {form = form} {steps = steps} {reloaded = reloaded} {hears = hears}
    {acts_at = acts_at} = record {
      keeps = λ x p e lane under v y w f s h. s.follows f h;
      put_in_use = λ x y f s h. s.follows f h;
      heard =
          in_turn_laws form (StepsLawfully form steps hears acts_at)
          (ReloadsLawfully form reloaded hears acts_at);
      notified = λ x p e lane under v y w position f s h. Further Nothing p e lane under v w f s h;
      leaf = record {
        alone = λ x f p e lane under v y w h l s. s.alone f h l;
        kind = λ x f p e lane under v y w g h l s k. s.kind f g h l k;
        goes = λ x f h y k l a. (goes_as_leaf form steps reloaded hears acts_at x f k l a).0;
      };
    }

-- an object that goes on lawfully keeps the law of paths
pub object_path_laws : {L : Type 0} {form : L → Form → Type 0} {steps : LayerSteps L}
    {hears : HearSteps L} {registered : L → L → Type 0} {acts_at : ActsAt L}
    → PathLaws form (StepsLawfully form steps hears acts_at)
    (RegistersLawfully form registered acts_at) (ActsPlainlyAt form acts_at)
object_path_laws = record {
  plain = λ x position cs a. a.plain;
  now = λ x position cs f a h. a.now f h;
  goes_on = λ x p e lane under v y w position cs s a. s.acts_on position cs a.acted;
  put_in_use = λ x y position cs s a. s.acts_still position cs a.acted;
}
