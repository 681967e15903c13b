-- A layer of fixed answers keeps the law.
use Rattle.std.specs.Prelude.{◌≡◌, Bool, true}
use Rattle.std.proofs.Common.{subst, sym}
use Rattle.span_client_tests.specs.Fixed.{FixedSteps, fixed_answers}
use Rattle.span_layers.specs.Layer.{HearsBy, LayerLaws}
use Rattle.span_layers.specs.laws.Leaf.{is_leaf, leaf_layer_laws}
use Rattle.span_registry.specs.Form.{Leaf}
use Rattle.span_registry.specs.laws.Form.{kept_form}

-- a leaf of such answers keeps them, where it stays with them whatever it is notified of
pub fixed_answers_laws : {L : Type 0} (metadata events : L → Bool)
    → LayerLaws {L = L} (λ x f. f ≡ Leaf true (fixed_answers (metadata x) (events x)))
    (FixedSteps metadata events) (HearsBy (FixedSteps metadata events)) (λ x y. y ≡ x)
fixed_answers_laws metadata events =
    leaf_layer_laws (λ x f. f ≡ Leaf true (fixed_answers (metadata x) (events x)))
    (FixedSteps metadata events) (λ x y. y ≡ x) (λ x p e lane under v y w s. s.0)
    (λ x f h. is_leaf h)
    (λ x p e lane under v y w f s h. (
      f,
      subst (λ a. f ≡ Leaf true (fixed_answers a (events y))) (sym s.1)
          (subst (λ b. f ≡ Leaf true (fixed_answers (metadata x) b)) (sym s.2) h),
      kept_form
          f,
    ))
    (λ x y f s h. (
      f,
      subst (λ z. f ≡ Leaf true (fixed_answers (metadata z) (events z))) (sym s) h,
      kept_form f,
    ))
