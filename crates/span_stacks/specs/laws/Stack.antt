-- A layer on a stack keeps the law of stacks, since both keep theirs.
use Rattle.std.specs.Prelude.{◌≡◌, ℕ, [], ◌++◌}
use Rattle.std.proofs.Common.{append-nil, sym, subst}
use Rattle.span_layers.specs.Layer.{LayerLaws, LayerSteps}
use Rattle.span_layers.specs.Parts.{PartsForm}
use Rattle.span_stacks.specs.Layered.{LayeredHears, LayeredSteps}
use Rattle.span_stacks.specs.laws.Pair.{layered_hear_laws, over_follows}
use Rattle.span_store.specs.Store.{RegistryState}
use Rattle.span_registry.proofs.Plain.{told_aside}
use Rattle.span_registry.specs.Behaviour.{Notice}
use Rattle.span_registry.specs.Form.{Terminal, Filtered, Form, Leaf, OnSubscriber, Parts}
use Rattle.span_registry.specs.Hooks.{StackLaws, StackSteps, no_filter}
use Rattle.span_registry.specs.KeptForm.{HasKeptForm}
use Rattle.span_registry.specs.Path.{mask_at}
use Rattle.span_registry.specs.Plan.{Both, Itself, Nobody, Plan, Through}
use Rattle.span_registry.specs.Position.{HearSteps, Here, Inner, Outer, Position, Told, Under, heard_by, told_in}

module _ {L I : Type 0} {with_registry : I → RegistryState → I} {inner_usable : I → Type 0}
    {outer_form : L → Form → Type 0} {inner_form : I → Form → Type 0} {outer_steps : LayerSteps L}
    {inner_steps : StackSteps I} {outer_hears : HearSteps L} {inner_hears : HearSteps I}
    {outer_used : L → L → Type 0} {inner_used : I → I → Type 0}
    (outer : LayerLaws outer_form outer_steps outer_hears outer_used)
    (inner : StackLaws with_registry inner_usable inner_form inner_steps inner_hears
    inner_used) where
  stack_keeps : (x : L) (i : I) (p : Plan) (e : Notice) (lane : ℕ) (v : RegistryState) (y : L)
      (j : I) (w : RegistryState) (f : Form)
      → LayeredSteps with_registry outer_steps inner_steps x i p e lane v y j w
      → PartsForm OnSubscriber (outer_form x) (inner_form i) f
      → HasKeptForm (PartsForm OnSubscriber (outer_form y) (inner_form j)) f
  stack_keeps x i (Both p q) e lane v y j w (Parts k o z) s h =
      let below = inner.keeps i q e lane v s.notified s.between z s.first h.2 in
      over_follows OnSubscriber k o z h.0
      (outer.keeps x p e lane no_filter s.between y w o s.second h.1) (
        below.0,
        subst (λ r. inner_form r below.0) (sym s.rest)
            (inner.form_with s.notified w below.0 below.1),
        below.2,
      )
  stack_keeps x i Nobody e lane v y j w f s h = absurd s
  stack_keeps x i Itself e lane v y j w f s h = absurd s
  stack_keeps x i (Through p) e lane v y j w f s h = absurd s
  stack_keeps x i p e lane v y j w (Leaf still a) s h = absurd h
  stack_keeps x i p e lane v y j w (Filtered n a f) s h = absurd h
  stack_keeps x i p e lane v y j w (Terminal z) s h = absurd h

  stack_used : (x : L) (i : I) (y : L) (j : I) (f : Form) → outer_used x y → inner_used i j
      → PartsForm OnSubscriber (outer_form x) (inner_form i) f
      → HasKeptForm (PartsForm OnSubscriber (outer_form y) (inner_form j)) f
  stack_used x i y j (Parts k o z) s t h =
      over_follows OnSubscriber k o z h.0 (outer.put_in_use x y o s h.1)
      (inner.put_in_use i j z t h.2)
  stack_used x i y j (Leaf still a) s t h = absurd h
  stack_used x i y j (Filtered n a f) s t h = absurd h
  stack_used x i y j (Terminal z) s t h = absurd h

  stack_with : (x : L) (i : I) (w : RegistryState) (f : Form)
      → PartsForm OnSubscriber (outer_form x) (inner_form i) f
      → PartsForm OnSubscriber (outer_form x) (inner_form (with_registry i w)) f
  stack_with x i w (Parts k o z) h = (h.0, h.1, inner.form_with i w z h.2)
  stack_with x i w (Leaf still a) h = absurd h
  stack_with x i w (Filtered n a f) h = absurd h
  stack_with x i w (Terminal z) h = absurd h

  -- the leaves of the inner stack are notified of their own notices, and the registry that the
  -- layer on it leaves makes no difference to that
  below_heard : (i : I) (q : Plan) (e : Notice) (lane : ℕ) (v : RegistryState) (k : I)
      (between : RegistryState) (j : I) (w : RegistryState) (position : Position) (f : Form)
      → inner_steps i q e lane v k between → inner_form i f → j ≡ with_registry k w
      → inner_hears i position
      (heard_by q position (told_in e v.store lane (mask_at f position no_filter)))
      j
  below_heard i q e lane v k between j w position f s h same =
      let heard = heard_by q position (told_in e v.store lane (mask_at f position no_filter)) in
      let both =
      inner.heard.further i k (with_registry k w) position heard []
      (inner.notified i q e lane v k between position f s h) (inner.hears_with k w position) in
      subst (λ l. inner_hears i position l j) (append-nil heard)
      (subst (λ z. inner_hears i position (heard ++ []) z) (sym same) both)

  stack_heard : (x : L) (i : I) (p : Plan) (e : Notice) (lane : ℕ) (v : RegistryState) (y : L)
      (j : I) (w : RegistryState) (position : Position) (f : Form)
      → LayeredSteps with_registry outer_steps inner_steps x i p e lane v y j w
      → PartsForm OnSubscriber (outer_form x) (inner_form i) f
      → LayeredHears outer_hears inner_hears x i position
      (heard_by p position (told_in e v.store lane (mask_at f position no_filter))) y j
  stack_heard x i (Both p q) e lane v y j w (Outer r) (Parts k o z) s h =
      subst (λ (told : Told). outer_hears x r (heard_by p r told) y)
      (told_aside e v s.between lane (mask_at o r no_filter) s.extensions)
      (outer.notified x p e lane no_filter s.between y w r o s.second h.1)
  stack_heard x i (Both p q) e lane v y j w (Inner r) (Parts k o z) s h =
      below_heard i q e lane v s.notified s.between j w r z s.first h.2 s.rest
  stack_heard x i (Both p q) e lane v y j w Here f s h = tt
  stack_heard x i (Both p q) e lane v y j w (Under r) f s h = tt
  stack_heard x i (Both p q) e lane v y j w position f s h = absurd h
  stack_heard x i Nobody e lane v y j w position f s h = absurd s
  stack_heard x i Itself e lane v y j w position f s h = absurd s
  stack_heard x i (Through p) e lane v y j w position f s h = absurd s

  stack_hears_with : (x : L) (i : I) (w : RegistryState) (position : Position)
      → LayeredHears outer_hears inner_hears x i position [] x (with_registry i w)
  stack_hears_with x i w (Outer q) = outer.heard.nothing x q
  stack_hears_with x i w (Inner q) = inner.hears_with i w q
  stack_hears_with x i w Here = tt
  stack_hears_with x i w (Under q) = tt

  -- a layer on a stack keeps the law, since both do
  pub stack_laws : {X : Type 0} (outer_usable : L → Type 0) (layer : X → L) (below : X → I)
      (with_below : X → I → X) → ((x : X) (i : I) → layer (with_below x i) ≡ layer x)
      → ((x : X) (i : I) → below (with_below x i) ≡ i)
      → StackLaws (λ x w. with_below x (with_registry (below x) w))
      (λ x. outer_usable (layer x) × inner_usable (below x))
      (λ x. PartsForm OnSubscriber (outer_form (layer x)) (inner_form (below x)))
      (λ x p e lane v y w.
      LayeredSteps with_registry outer_steps inner_steps (layer x) (below x) p e lane v
      (layer y) (below y) w)
      (λ x position h y. LayeredHears outer_hears inner_hears (layer x) (below x) position h
      (layer y)
      (below y))
      (λ x y. outer_used (layer x) (layer y) × inner_used (below x) (below y))
  stack_laws outer_usable layer below with_below own rest = record {
    keeps =
        λ x p e lane v y w f s h.
        stack_keeps (layer x) (below x) p e lane v (layer y) (below y) w f s h;
    put_in_use = λ x y f s h. stack_used (layer x) (below x) (layer y) (below y) f s.0 s.1 h;
    form_with =
        λ x w f h. subst (λ l.
        PartsForm OnSubscriber (outer_form l)
        (inner_form (below (with_below x (with_registry (below x) w)))) f)
        (sym (own x (with_registry (below x) w)))
        (subst (λ b. PartsForm OnSubscriber (outer_form (layer x)) (inner_form b) f)
        (sym (rest x (with_registry (below x) w))) (stack_with (layer x) (below x) w f h));
    usable_with =
        λ x w h. (
          subst outer_usable (sym (own x (with_registry (below x) w))) h.0,
          subst
              inner_usable (sym (rest x (with_registry (below x) w)))
              (inner.usable_with (below x) w h.1),
        );
    heard = layered_hear_laws outer.heard inner.heard layer below;
    notified =
        λ x p e lane v y w position f s h.
        stack_heard (layer x) (below x) p e lane v (layer y) (below y) w position f s h;
    hears_with =
        λ x w position. subst (λ l.
        LayeredHears outer_hears inner_hears (layer x) (below x) position [] l
        (below (with_below x (with_registry (below x) w))))
        (sym (own x (with_registry (below x) w)))
        (subst (λ b. LayeredHears outer_hears inner_hears (layer x) (below x) position [] (layer x)
        b)
        (sym (rest x (with_registry (below x) w)))
        (stack_hears_with (layer x) (below x) w position));
  }
