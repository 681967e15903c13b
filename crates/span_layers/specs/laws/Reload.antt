-- Layers keep the law of reloading: a leaf takes no setting, and what is made of parts keeps it,
-- since the parts do.
use Rattle.std.specs.Prelude.{◌≡◌, ℕ, Box, List, [], ◌∷◌, Option, Some, None, refl}
use Rattle.std.proofs.Common.{ap, subst, sym}
use Rattle.span_targets.specs.declared.setting.Setting.{Setting}
use Rattle.span_layers.specs.Acts.{LeafActs, ListActs, OptionActs}
use Rattle.span_layers.specs.Boxed.{BoxHears, BoxReloads}
use Rattle.span_layers.specs.Layer.{LayerLaws, LayerSteps}
use Rattle.span_layers.specs.Reload.{ListReloads, OptionReloads}
use Rattle.span_layers.specs.Members.{ListForm, ListHears}
use Rattle.span_layers.specs.Optional.{OptionForm, OptionHears}
use Rattle.span_registry.specs.Conducts.{ActsAt, Conducts, reloading}
use Rattle.span_registry.specs.Form.{Form, Parts}
use Rattle.span_registry.specs.Reload.{FollowsReload, ReloadLaws, ReloadSteps, unreloaded}
use Rattle.span_registry.specs.laws.Form.{same_reloads}
use Rattle.span_registry.specs.Position.{HearSteps, Here, Inner, Outer, Position, Under}

-- Below: a leaf.

-- what is unchanged has its form again
same_form : {T : Type 0} (has_form : T → Form → Type 0) (x y : T) (n : ℕ) (f : Form) → y ≡ x
    → has_form x f → FollowsReload (has_form y) n f
same_form has_form x y n f same h = (f, subst (λ z. has_form z f) (sym same) h, same_reloads n f)

leaf_reloads_act : {T : Type 0} (x y : T) (n : ℕ) (l : Setting) (position : Position)
    (cs : Conducts) → LeafActs x position cs → LeafActs y position (reloading n l cs)
leaf_reloads_act x y n l Here cs a = ap (reloading n l) a
leaf_reloads_act x y n l position cs a = absurd a

-- a leaf takes no setting, and keeps the law
pub leaf_reloads : {T : Type 0} {has_form : T → Form → Type 0} {stepped : LayerSteps T}
    {hears : HearSteps T} {registered : T → T → Type 0}
    → LayerLaws has_form stepped hears registered → ReloadLaws has_form unreloaded hears LeafActs
leaf_reloads {has_form = has_form} {hears = hears} laws = record {
  keeps = λ x n l y f s h. same_form has_form x y n f s h;
  heard =
      λ x n l y position s.
      subst (λ z. hears x position [] z) (sym s) (laws.heard.nothing x position);
  acts = λ x n l y position cs s a. leaf_reloads_act x y n l position cs a;
}

-- Below: a list, a layer that may be absent, and one in a box.

module _ {L : Type 0} {has_form : L → Form → Type 0} {reloaded : ReloadSteps L} {hears : HearSteps L}
    {acts_at : ActsAt L} (member : ReloadLaws has_form reloaded hears acts_at) where
  list_reloads_keep : (xs : List L) (n : ℕ) (l : Setting) (ys : List L) (f : Form)
      → ListReloads reloaded xs n l ys → ListForm has_form xs f
      → FollowsReload (ListForm has_form ys) n f
  list_reloads_keep [] n l [] f s h = (f, h, same_reloads n f)
  list_reloads_keep (x ∷ xs) n l (y ∷ ys) (Parts k o z) s h =
      let first = member.keeps x n l y o s.0 h.1 in
      let rest = list_reloads_keep xs n l ys z s.1 h.2 in
      (Parts k first.0 rest.0, (h.0, first.1, rest.1), (refl, first.2, rest.2))
  list_reloads_keep (x ∷ xs) n l (y ∷ ys) f s h = absurd h
  list_reloads_keep [] n l (y ∷ ys) f s h = absurd s
  list_reloads_keep (x ∷ xs) n l [] f s h = absurd s

  list_reloads_heard : (xs : List L) (n : ℕ) (l : Setting) (ys : List L) (position : Position)
      → ListReloads reloaded xs n l ys → ListHears hears xs position [] ys
  list_reloads_heard [] n l [] position s = tt
  list_reloads_heard (x ∷ xs) n l (y ∷ ys) (Outer p) s = member.heard x n l y p s.0
  list_reloads_heard (x ∷ xs) n l (y ∷ ys) (Inner p) s = list_reloads_heard xs n l ys p s.1
  list_reloads_heard (x ∷ xs) n l (y ∷ ys) Here s = tt
  list_reloads_heard (x ∷ xs) n l (y ∷ ys) (Under p) s = tt
  list_reloads_heard [] n l (y ∷ ys) position s = absurd s
  list_reloads_heard (x ∷ xs) n l [] position s = absurd s

  list_reloads_act : (xs : List L) (n : ℕ) (l : Setting) (ys : List L) (position : Position)
      (cs : Conducts) → ListReloads reloaded xs n l ys → ListActs acts_at xs position cs
      → ListActs acts_at ys position (reloading n l cs)
  list_reloads_act (x ∷ xs) n l (y ∷ ys) (Outer position) cs s a =
      member.acts x n l y position cs s.0 a
  list_reloads_act (x ∷ xs) n l (y ∷ ys) (Inner position) cs s a =
      list_reloads_act xs n l ys position cs s.1 a
  list_reloads_act (x ∷ xs) n l (y ∷ ys) position cs s a = absurd a
  list_reloads_act (x ∷ xs) n l [] position cs s a = absurd s
  list_reloads_act [] n l ys position cs s a = absurd a

  -- a list of layers keeps the law, since its members do
  pub list_reloads : {X : Type 0} (items : X → List L)
      → ReloadLaws (λ x. ListForm has_form (items x))
      (λ x n l y. ListReloads reloaded (items x) n l (items y))
      (λ x position h y. ListHears hears (items x) position h (items y))
      (λ x. ListActs acts_at (items x))
  list_reloads items = record {
    keeps = λ x n l y f s h. list_reloads_keep (items x) n l (items y) f s h;
    heard = λ x n l y position s. list_reloads_heard (items x) n l (items y) position s;
    acts = λ x n l y position cs s a. list_reloads_act (items x) n l (items y) position cs s a;
  }

  option_reloads_keep : (x : Option L) (n : ℕ) (l : Setting) (y : Option L) (f : Form)
      → OptionReloads reloaded x n l y → OptionForm has_form x f
      → FollowsReload (OptionForm has_form y) n f
  option_reloads_keep None n l None f s h = (f, h, same_reloads n f)
  option_reloads_keep (Some x) n l (Some y) f s h = member.keeps x n l y f s h
  option_reloads_keep None n l (Some y) f s h = absurd s
  option_reloads_keep (Some x) n l None f s h = absurd s

  option_reloads_heard : (x : Option L) (n : ℕ) (l : Setting) (y : Option L)
      (position : Position)
      → OptionReloads reloaded x n l y → OptionHears hears x position [] y
  option_reloads_heard None n l None position s = tt
  option_reloads_heard (Some x) n l (Some y) position s = member.heard x n l y position s
  option_reloads_heard None n l (Some y) position s = absurd s
  option_reloads_heard (Some x) n l None position s = absurd s

  option_reloads_act : (x : Option L) (n : ℕ) (l : Setting) (y : Option L) (position : Position)
      (cs : Conducts) → OptionReloads reloaded x n l y → OptionActs acts_at x position cs
      → OptionActs acts_at y position (reloading n l cs)
  option_reloads_act None n l y position cs s a = absurd a
  option_reloads_act (Some x) n l (Some y) position cs s a = member.acts x n l y position cs s a
  option_reloads_act (Some x) n l None position cs s a = absurd s

  -- a layer that may be absent keeps the law, since the one that is there does
  pub option_reloads : ReloadLaws (OptionForm has_form) (OptionReloads reloaded) (OptionHears hears)
      (OptionActs acts_at)
  option_reloads =
      record { keeps = option_reloads_keep; heard = option_reloads_heard; acts = option_reloads_act }

  -- a box keeps the law, since its layer does
  pub box_reloads : {Z : Type 0}
      → ReloadLaws (λ (x : Box L Z). has_form x.value) (BoxReloads reloaded) (BoxHears hears)
      (λ x. acts_at x.value)
  box_reloads = record {
    keeps = λ x n l y f s h. member.keeps x.value n l y.value f s.1 h;
    heard = λ x n l y position s. (s.0, member.heard x.value n l y.value position s.1);
    acts = λ x n l y position cs s a. member.acts x.value n l y.value position cs s.1 a;
  }
