-- A layer that may be absent keeps the law, since the one that is there does.
use Rattle.std.specs.Prelude.{◌≡◌, ℕ, [], ◌∷◌, ◌++◌, Option, Some, None}
use Rattle.std.specs.List.{FoldsTo}
use Rattle.std.proofs.Common.{ap, subst}
use Rattle.span_core.specs.Filters.{FilterSet}
use Rattle.span_layers.specs.Layer.{GoesBy, IsLeaf, LayerLaws, LayerSteps}
use Rattle.span_layers.specs.Optional.{OptionForm, OptionGoes, OptionHears, OptionSteps}
use Rattle.span_store.specs.Store.{RegistryState}
use Rattle.span_registry.specs.Behaviour.{Notice}
use Rattle.span_registry.specs.Form.{Form}
use Rattle.span_registry.specs.KeptForm.{HasKeptForm}
use Rattle.span_registry.specs.laws.Form.{kept_form}
use Rattle.span_registry.specs.Path.{mask_at}
use Rattle.span_registry.specs.Plan.{Itself, Plan}
use Rattle.span_registry.specs.Position.{HearSteps, Heard, Here, Position, heard_by, told_in}

module _ {L : Type 0} {has_form : L → Form → Type 0} {stepped : LayerSteps L} {hears : HearSteps L}
    {registered : L → L → Type 0} (held : LayerLaws has_form stepped hears registered) where
  option_keeps : (x : Option L) (p : Plan) (e : Notice) (lane : ℕ) (under : FilterSet)
      (v : RegistryState) (y : Option L) (w : RegistryState) (f : Form)
      → OptionSteps stepped x p e lane under v y w → OptionForm has_form x f
      → HasKeptForm (OptionForm has_form y) f
  option_keeps None p e lane under v None w f s h = (f, h, kept_form f)
  option_keeps (Some x) p e lane under v (Some y) w f s h = held.keeps x p e lane under v y w f s h
  option_keeps None p e lane under v (Some y) w f s h = absurd s
  option_keeps (Some x) p e lane under v None w f s h = absurd s

  option_used : (x y : Option L) (f : Form) → OptionGoes registered x y → OptionForm has_form x f
      → HasKeptForm (OptionForm has_form y) f
  option_used None None f s h = (f, h, kept_form f)
  option_used (Some x) (Some y) f s h = held.put_in_use x y f s h
  option_used None (Some y) f s h = absurd s
  option_used (Some x) None f s h = absurd s

  option_nothing : (x : Option L) (position : Position) → OptionHears hears x position [] x
  option_nothing None position = tt
  option_nothing (Some x) position = held.heard.nothing x position

  option_further : (x y z : Option L) (position : Position) (h k : Heard)
      → OptionHears hears x position h y → OptionHears hears y position k z
      → OptionHears hears x position (h ++ k) z
  option_further None None None position h k a b = tt
  option_further None None (Some z) position h k a b = absurd b
  option_further None (Some y) z position h k a b = absurd a
  option_further (Some x) None z position h k a b = absurd a
  option_further (Some x) (Some y) None position h k a b = absurd b
  option_further (Some x) (Some y) (Some z) position h k a b =
      held.heard.further x y z position h k a b

  option_heard : (x : Option L) (p : Plan) (e : Notice) (lane : ℕ) (under : FilterSet)
      (v : RegistryState) (y : Option L) (w : RegistryState) (position : Position) (f : Form)
      → OptionSteps stepped x p e lane under v y w → OptionForm has_form x f
      → OptionHears hears x position
      (heard_by p position (told_in e v.store lane (mask_at f position under))) y
  option_heard None p e lane under v None w position f s h = tt
  option_heard (Some x) p e lane under v (Some y) w position f s h =
      held.notified x p e lane under v y w position f s h
  option_heard None p e lane under v (Some y) w position f s h = absurd s
  option_heard (Some x) p e lane under v None w position f s h = absurd s

  option_alone : (x : Option L) (f : Form) (p : Plan) (e : Notice) (lane : ℕ) (under : FilterSet)
      (v : RegistryState) (y : Option L) (w : RegistryState) → OptionForm has_form x f → IsLeaf f
      → OptionSteps stepped x p e lane under v y w → p ≡ Itself
  option_alone None f p e lane under v y w h l s = absurd (subst IsLeaf h l)
  option_alone (Some x) f p e lane under v None w h l s = absurd s
  option_alone (Some x) f p e lane under v (Some y) w h l s =
      held.leaf.alone x f p e lane under v y w h l s

  option_kind : (x : Option L) (f : Form) (p : Plan) (e : Notice) (lane : ℕ) (under : FilterSet)
      (v : RegistryState) (y : Option L) (w : RegistryState) (g : Form)
      → OptionForm has_form x f → IsLeaf f → OptionSteps stepped x p e lane under v y w
      → OptionForm has_form x g → IsLeaf g
  option_kind None f p e lane under v y w g h l s k = absurd (subst IsLeaf h l)
  option_kind (Some x) f p e lane under v None w g h l s k = absurd s
  option_kind (Some x) f p e lane under v (Some y) w g h l s k =
      held.leaf.kind x f p e lane under v y w g h l s k

  some_goes : (h : Heard) (x y : L) → FoldsTo (GoesBy stepped) x h y
      → FoldsTo (GoesBy (OptionSteps stepped)) (Some x) h (Some y)
  some_goes [] x y a = ap Some a
  some_goes (one ∷ h) x y a = (
    Some a.0,
    record {
      under = a.1.under;
      before = a.1.before;
      after = a.1.after;
      shown = a.1.shown;
      step = a.1.step;
    },
    some_goes h a.0 y a.2,
  )

  option_goes : (x : Option L) (f : Form) (h : Heard) (y : Option L) → OptionForm has_form x f
      → IsLeaf f → OptionHears hears x Here h y → FoldsTo (GoesBy (OptionSteps stepped)) x h y
  option_goes None f h y k l a = absurd (subst IsLeaf k l)
  option_goes (Some x) f h None k l a = absurd a
  option_goes (Some x) f h (Some y) k l a = some_goes h x y (held.leaf.goes x f h y k l a)

  -- a layer that may be absent keeps the law, since the one that is there does
  pub option_laws : LayerLaws (OptionForm has_form) (OptionSteps stepped) (OptionHears hears)
      (OptionGoes registered)
  option_laws = record {
    keeps = option_keeps;
    put_in_use = option_used;
    heard = record { nothing = option_nothing; further = option_further };
    notified = option_heard;
    leaf = record { alone = option_alone; kind = option_kind; goes = option_goes };
  }
