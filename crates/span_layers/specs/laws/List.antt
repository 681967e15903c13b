-- A list of layers keeps the law, since its members do.
use Rattle.std.specs.Prelude.{◌≡◌, ℕ, List, [], ◌∷◌, ◌++◌, refl}
use Rattle.std.specs.List.{AllZip, All}
use Rattle.std.proofs.Common.{subst}
use Rattle.span_core.specs.Filters.{FilterSet}
use Rattle.span_layers.specs.Layer.{IsLeaf, LayerLaws, LayerSteps}
use Rattle.span_layers.specs.Members.{ListForm, ListHears, ListSteps}
use Rattle.span_layers.specs.laws.Leaf.{no_leaf}
use Rattle.span_store.specs.Store.{RegistryState}
use Rattle.span_registry.proofs.Plain.{told_aside}
use Rattle.span_registry.specs.Behaviour.{Notice}
use Rattle.span_registry.specs.Form.{Terminal, Filtered, Form, InList, Arrangement, Leaf, Parts}
use Rattle.span_registry.specs.KeptForm.{HasKeptForm}
use Rattle.span_registry.specs.laws.Form.{kept_form}
use Rattle.span_registry.specs.Path.{mask_at}
use Rattle.span_registry.specs.Plan.{Both, Itself, Nobody, Plan, Through}
use Rattle.span_registry.specs.Position.{HearSteps, Heard, Here, Inner, Outer, Position, Told, Under, heard_by, told_in}

module _ {L : Type 0} {has_form : L → Form → Type 0} {stepped : LayerSteps L} {hears : HearSteps L}
    {registered : L → L → Type 0} (member : LayerLaws has_form stepped hears registered) where
  -- the form of a list follows from what the first member and the rest have become
  list_follows : (y : L) (ys : List L) (k : Arrangement) (o i : Form) → k ≡ InList
      → HasKeptForm (has_form y) o → HasKeptForm (ListForm has_form ys) i
      → HasKeptForm (ListForm has_form (y ∷ ys)) (Parts k o i)
  list_follows y ys k o i same s t = (Parts k s.0 t.0, (same, s.1, t.1), (refl, s.2, t.2))

  list_keeps : (xs : List L) (p : Plan) (e : Notice) (lane : ℕ) (under : FilterSet)
      (v : RegistryState) (ys : List L) (w : RegistryState) (f : Form)
      → ListSteps stepped xs p e lane under v ys w → ListForm has_form xs f
      → HasKeptForm (ListForm has_form ys) f
  list_keeps [] Nobody e lane under v [] w f s h = (f, h, kept_form f)
  list_keeps [] Nobody e lane under v (y ∷ ys) w f s h = absurd s
  list_keeps [] Itself e lane under v ys w f s h = absurd s
  list_keeps [] (Through p) e lane under v ys w f s h = absurd s
  list_keeps [] (Both p q) e lane under v ys w f s h = absurd s
  list_keeps (x ∷ xs) Nobody e lane under v ys w f s h = absurd s
  list_keeps (x ∷ xs) Itself e lane under v ys w f s h = absurd s
  list_keeps (x ∷ xs) (Through p) e lane under v ys w f s h = absurd s
  list_keeps (x ∷ xs) (Both p q) e lane under v [] w f s h = absurd s
  list_keeps (x ∷ xs) (Both p q) e lane under v (y ∷ ys) w (Parts k o i) s h =
      list_follows y ys k o i h.0 (member.keeps x p e lane under v y s.between o s.first h.1)
      (list_keeps xs q e lane under s.between ys w i s.rest h.2)
  list_keeps (x ∷ xs) (Both p q) e lane under v (y ∷ ys) w (Leaf still a) s h = absurd h
  list_keeps (x ∷ xs) (Both p q) e lane under v (y ∷ ys) w (Filtered n a f) s h = absurd h
  list_keeps (x ∷ xs) (Both p q) e lane under v (y ∷ ys) w (Terminal z) s h = absurd h

  list_used : (xs ys : List L) (f : Form) → AllZip registered xs ys → ListForm has_form xs f
      → HasKeptForm (ListForm has_form ys) f
  list_used [] [] f s h = (f, h, kept_form f)
  list_used [] (y ∷ ys) f s h = absurd s
  list_used (x ∷ xs) [] f s h = absurd s
  list_used (x ∷ xs) (y ∷ ys) (Parts k o i) s h =
      list_follows y ys k o i h.0 (member.put_in_use x y o s.0 h.1) (list_used xs ys i s.1 h.2)
  list_used (x ∷ xs) (y ∷ ys) (Leaf still a) s h = absurd h
  list_used (x ∷ xs) (y ∷ ys) (Filtered n a f) s h = absurd h
  list_used (x ∷ xs) (y ∷ ys) (Terminal z) s h = absurd h

  list_nothing : (xs : List L) (position : Position) → ListHears hears xs position [] xs
  list_nothing [] position = tt
  list_nothing (x ∷ xs) (Outer p) = member.heard.nothing x p
  list_nothing (x ∷ xs) (Inner p) = list_nothing xs p
  list_nothing (x ∷ xs) Here = tt
  list_nothing (x ∷ xs) (Under p) = tt

  list_further : (xs ys zs : List L) (position : Position) (h k : Heard)
      → ListHears hears xs position h ys → ListHears hears ys position k zs
      → ListHears hears xs position (h ++ k) zs
  list_further [] [] [] position h k a b = tt
  list_further [] [] (z ∷ zs) position h k a b = absurd b
  list_further [] (y ∷ ys) zs position h k a b = absurd a
  list_further (x ∷ xs) [] zs position h k a b = absurd a
  list_further (x ∷ xs) (y ∷ ys) [] position h k a b = absurd b
  list_further (x ∷ xs) (y ∷ ys) (z ∷ zs) (Outer p) h k a b = member.heard.further x y z p h k a b
  list_further (x ∷ xs) (y ∷ ys) (z ∷ zs) (Inner p) h k a b = list_further xs ys zs p h k a b
  list_further (x ∷ xs) (y ∷ ys) (z ∷ zs) Here h k a b = tt
  list_further (x ∷ xs) (y ∷ ys) (z ∷ zs) (Under p) h k a b = tt

  -- each member of a list is notified of its own notices
  list_heard : (xs : List L) (p : Plan) (e : Notice) (lane : ℕ) (under : FilterSet)
      (v : RegistryState) (ys : List L) (w : RegistryState) (position : Position) (f : Form)
      → ListSteps stepped xs p e lane under v ys w → ListForm has_form xs f
      → ListHears hears xs position
      (heard_by p position (told_in e v.store lane (mask_at f position under))) ys
  list_heard [] Nobody e lane under v [] w position f s h = tt
  list_heard [] Nobody e lane under v (y ∷ ys) w position f s h = absurd s
  list_heard [] Itself e lane under v ys w position f s h = absurd s
  list_heard [] (Through p) e lane under v ys w position f s h = absurd s
  list_heard [] (Both p q) e lane under v ys w position f s h = absurd s
  list_heard (x ∷ xs) Nobody e lane under v ys w position f s h = absurd s
  list_heard (x ∷ xs) Itself e lane under v ys w position f s h = absurd s
  list_heard (x ∷ xs) (Through p) e lane under v ys w position f s h = absurd s
  list_heard (x ∷ xs) (Both p q) e lane under v [] w position f s h = absurd s
  list_heard (x ∷ xs) (Both p q) e lane under v (y ∷ ys) w (Outer r) (Parts k o i) s h =
      member.notified x p e lane under v y s.between r o s.first h.1
  list_heard (x ∷ xs) (Both p q) e lane under v (y ∷ ys) w (Inner r) (Parts k o i) s h =
      subst (λ (told : Told). ListHears hears xs r (heard_by q r told) ys)
      (told_aside e v s.between lane (mask_at i r under) s.extensions)
      (list_heard xs q e lane under s.between ys w r i s.rest h.2)
  list_heard (x ∷ xs) (Both p q) e lane under v (y ∷ ys) w Here f s h = tt
  list_heard (x ∷ xs) (Both p q) e lane under v (y ∷ ys) w (Under r) f s h = tt
  list_heard (x ∷ xs) (Both p q) e lane under v (y ∷ ys) w position f s h = absurd h

  list_no_leaf : (xs : List L) (f : Form) → ListForm has_form xs f → IsLeaf f → ⊥
  list_no_leaf [] f h l = subst IsLeaf h l
  list_no_leaf (x ∷ xs) (Leaf still a) h l = h
  list_no_leaf (x ∷ xs) f h l = l

  -- a list of layers keeps the law, since its members do
  pub list_laws : {X : Type 0} (items : X → List L)
      → LayerLaws (λ x. ListForm has_form (items x))
      (λ x p e lane under v y w. ListSteps stepped (items x) p e lane under v (items y) w)
      (λ x position h y. ListHears hears (items x) position h (items y))
      (λ x y. AllZip registered (items x) (items y))
  list_laws items = record {
    keeps = λ x p e lane under v y w f s h. list_keeps (items x) p e lane under v (items y) w f s h;
    put_in_use = λ x y f s h. list_used (items x) (items y) f s h;
    heard = record {
      nothing = λ x position. list_nothing (items x) position;
      further =
          λ x y z position h k a b. list_further (items x) (items y) (items z) position h k a b;
    };
    notified =
        λ x p e lane under v y w position f s h.
        list_heard (items x) p e lane under v (items y) w position f s h;
    leaf = no_leaf (λ x f h l. list_no_leaf (items x) f h l);
  }

-- what holds of every value holds of each member of a list
pub each_member : {X : Type 0} {P : X → Type 0} → ((x : X) → P x) → (xs : List X) → All P xs
each_member always xs k d within = always _
