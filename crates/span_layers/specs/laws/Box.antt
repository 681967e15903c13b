-- A box keeps the law, since its layer does.
use Rattle.std.specs.Prelude.{◌≡◌, [], ◌∷◌, Box, refl}
use Rattle.std.specs.Box.{with_value}
use Rattle.std.specs.List.{FoldsTo}
use Rattle.std.proofs.Common.{ap, sym, ◌∙◌}
use Rattle.span_layers.specs.Boxed.{BoxHears, BoxSteps}
use Rattle.span_layers.specs.Layer.{GoesBy, LayerLaws, LayerSteps}
use Rattle.span_registry.specs.Form.{Form}
use Rattle.span_registry.specs.Position.{HearSteps, Heard}

module _ {L Z : Type 0} {has_form : L → Form → Type 0} {stepped : LayerSteps L}
    {hears : HearSteps L} {registered : L → L → Type 0}
    (laws : LayerLaws has_form stepped hears registered) where
  box_goes : (h : Heard) (x y : Box L Z) → y ≡ with_value x y.value
      → FoldsTo (GoesBy stepped) x.value h y.value → FoldsTo (GoesBy (BoxSteps stepped)) x h y
  box_goes [] x y e a = ap (with_value x) a ∙ sym e
  box_goes (one ∷ h) x y e a = (
    with_value x a.0,
    record {
      under = a.1.under;
      before = a.1.before;
      after = a.1.after;
      shown = a.1.shown;
      step = (refl, a.1.step);
    },
    box_goes h (with_value x a.0) y e
        a.2,
  )

  -- a box keeps the law, since its layer does
  pub box_laws : LayerLaws (λ (x : Box L Z). has_form x.value) (BoxSteps stepped) (BoxHears hears)
      (λ x y. registered x.value y.value)
  box_laws = record {
    keeps = λ x p e lane under v y w f s h. laws.keeps x.value p e lane under v y.value w f s.1 h;
    put_in_use = λ x y f s h. laws.put_in_use x.value y.value f s h;
    heard = record {
      nothing = λ x position. (refl, laws.heard.nothing x.value position);
      further =
          λ x y z position h k a b. (
            b.0 ∙ ap (λ (u : Box L Z). with_value u z.value) a.0,
            laws.heard.further x.value y.value
                z.value position h k a.1 b.1,
          );
    };
    notified =
        λ x p e lane under v y w position f s h.
        (s.0, laws.notified x.value p e lane under v y.value w position f s.1 h);
    leaf = record {
      alone =
          λ x f p e lane under v y w h l s.
          laws.leaf.alone x.value f p e lane under v y.value w h l s.1;
      kind =
          λ x f p e lane under v y w g h l s k.
          laws.leaf.kind x.value f p e lane under v y.value w g h l s.1 k;
      goes = λ x f h y k l a. box_goes h x y a.0 (laws.leaf.goes x.value f h y.value k l a.1);
    };
  }
