-- The paths of layers keep their law: a leaf's has no filter, and those of what is made of parts
-- keep it since the parts' do.
use Rattle.std.specs.Prelude.{ℕ, Box, List, [], ◌∷◌, Option, Some, None, refl}
use Rattle.std.specs.List.{AllZip}
use Rattle.std.proofs.Common.{subst, sym}
use Rattle.span_core.specs.Filters.{FilterSet}
use Rattle.span_layers.specs.Acts.{LeafActs, ListActs, OptionActs, PathLaws}
use Rattle.span_layers.specs.Boxed.{BoxSteps}
use Rattle.span_layers.specs.Layer.{IsLeaf, LayerSteps}
use Rattle.span_layers.specs.Members.{ListForm, ListSteps}
use Rattle.span_layers.specs.Optional.{OptionForm, OptionGoes, OptionSteps}
use Rattle.span_store.specs.Store.{RegistryState}
use Rattle.span_registry.proofs.CallerLemmas.{same_further}
use Rattle.span_registry.specs.Behaviour.{Conduct, Notice}
use Rattle.span_registry.specs.Conducts.{ActOn, ActsAt, ActsNow, ActsOn, ArePlainConducts, Conducts, ConductAfter}
use Rattle.span_registry.specs.Form.{Form, Leaf, Parts}
use Rattle.span_registry.specs.Plan.{Both, Itself, Nobody, Plan, Through}
use Rattle.span_registry.specs.Position.{Here, Inner, Outer, Position, Under}
use Rattle.span_registry.specs.Subscriber.{SameButExtensions}

-- Below: what filters learn.

-- what a filter learns in a registry, it learns in one that differs from it in extensions alone
learns_before : (e : Notice) (lane : ℕ) (under : FilterSet) (v u : RegistryState) (b c : Conduct)
    → SameButExtensions v u → ConductAfter e lane under u b c → ConductAfter e lane under v b c
learns_before e lane under v u b c s h = record {
  between = h.between;
  extensions = same_further v u h.between s h.extensions;
  learnt = h.learnt;
}

-- a path that acts so in a registry acts so in one that differs from it in extensions alone
pub act_before : (position : Position) (p : Plan) (e : Notice) (lane : ℕ) (under : FilterSet)
    (v u : RegistryState) (cs ds : Conducts) → SameButExtensions v u
    → ActOn position p e lane under u cs ds → ActOn position p e lane under v cs ds
act_before (Outer position) (Both p q) e lane under v u cs ds s h =
    act_before position p e lane under v u cs ds s h
act_before (Inner position) (Both p q) e lane under v u cs ds s h =
    act_before position q e lane under v u cs ds s h
act_before Here (Through p) e lane under v u ((n, b) ∷ []) ((m, c) ∷ []) s h =
    (h.0, learns_before e lane _ v u b c s h.1)
act_before (Under position) (Through p) e lane under v u ((n, b) ∷ cs) ((m, c) ∷ ds) s h =
    (h.0, learns_before e lane _ v u b c s h.1, act_before position p e lane _ v u cs ds s h.2)
act_before position p e lane under v u cs ds s h = h

-- where a path has no filter, none learns of a notice
act_alone : (p : Plan) (e : Notice) (lane : ℕ) (under : FilterSet) (v : RegistryState)
    → ActOn Here p e lane under v [] []
act_alone Nobody e lane under v = refl
act_alone Itself e lane under v = refl
act_alone (Through p) e lane under v = refl
act_alone (Both p q) e lane under v = refl

-- what follows from conducts in a registry follows from them in one that differs in extensions
-- alone
pub acts_before : {T : Type 0} (acts_at : ActsAt T) (y : T) (position : Position) (p : Plan)
    (e : Notice)
    (lane : ℕ) (under : FilterSet) (v u : RegistryState) (cs : Conducts) → SameButExtensions v u
    → ActsOn acts_at y position p e lane under u cs → ActsOn acts_at y position p e lane under v cs
acts_before acts_at y position p e lane under v u cs s h =
    (h.0, h.1, act_before position p e lane under v u cs h.0 s h.2)

-- Below: a leaf.

leaf_plain : {L : Type 0} (x : L) (position : Position) (cs : Conducts) → LeafActs x position cs
    → ArePlainConducts cs
leaf_plain x Here cs a = subst ArePlainConducts (sym a) tt
leaf_plain x position cs a = absurd a

leaf_now : (f : Form) → IsLeaf f → ActsNow f Here []
leaf_now (Leaf still a) h = ([], refl, tt)
leaf_now f h = absurd h

leaf_acts_now : {L : Type 0} (x : L) (position : Position) (cs : Conducts) (f : Form)
    → LeafActs x position cs → IsLeaf f → ActsNow f position cs
leaf_acts_now x Here cs f a h = subst (λ ds. ActsNow f Here ds) (sym a) (leaf_now f h)
leaf_acts_now x position cs f a h = absurd a

leaf_goes_on : {L : Type 0} (x y : L) (p : Plan) (e : Notice) (lane : ℕ) (under : FilterSet)
    (v : RegistryState) (position : Position) (cs : Conducts) → LeafActs x position cs
    → ActsOn LeafActs y position p e lane under v cs
leaf_goes_on x y p e lane under v Here cs a =
    (cs, a, subst (λ ds. ActOn Here p e lane under v ds ds) (sym a) (act_alone p e lane under v))
leaf_goes_on x y p e lane under v position cs a = absurd a

leaf_used : {L : Type 0} (x y : L) (position : Position) (cs : Conducts) → LeafActs x position cs
    → LeafActs y position cs
leaf_used x y Here cs a = a
leaf_used x y position cs a = absurd a

-- a leaf keeps the law of paths, however it goes on
pub leaf_path_laws : {L : Type 0} {has_form : L → Form → Type 0} {stepped : LayerSteps L}
    {registered : L → L → Type 0} → ((x : L) (f : Form) → has_form x f → IsLeaf f)
    → PathLaws has_form stepped registered LeafActs
leaf_path_laws leaf = record {
  plain = leaf_plain;
  now = λ x position cs f a h. leaf_acts_now x position cs f a (leaf x f h);
  goes_on =
      λ x p e lane under v y w position cs s a. leaf_goes_on x y p e lane under v position cs a;
  put_in_use = λ x y position cs s a. leaf_used x y position cs a;
}

-- Below: a list.

module _ {L : Type 0} {has_form : L → Form → Type 0} {stepped : LayerSteps L}
    {registered : L → L → Type 0} {acts_at : ActsAt L}
    (member : PathLaws has_form stepped registered acts_at) where
  list_plain : (xs : List L) (position : Position) (cs : Conducts) → ListActs acts_at xs position cs
      → ArePlainConducts cs
  list_plain (x ∷ xs) (Outer position) cs a = member.plain x position cs a
  list_plain (x ∷ xs) (Inner position) cs a = list_plain xs position cs a
  list_plain xs position cs a = absurd a

  list_now : (xs : List L) (position : Position) (cs : Conducts) (f : Form)
      → ListActs acts_at xs position cs → ListForm has_form xs f → ActsNow f position cs
  list_now (x ∷ xs) (Outer position) cs (Parts k o i) a h = member.now x position cs o a h.1
  list_now (x ∷ xs) (Inner position) cs (Parts k o i) a h = list_now xs position cs i a h.2
  list_now (x ∷ xs) position cs (Parts k o i) a h = absurd a
  list_now (x ∷ xs) position cs f a h = absurd h
  list_now [] position cs f a h = absurd a

  list_goes_on : (xs : List L) (p : Plan) (e : Notice) (lane : ℕ) (under : FilterSet)
      (v : RegistryState) (ys : List L) (w : RegistryState) (position : Position) (cs : Conducts)
      → ListSteps stepped xs p e lane under v ys w → ListActs acts_at xs position cs
      → ActsOn (ListActs acts_at) ys position p e lane under v cs
  list_goes_on (x ∷ xs) (Both p q) e lane under v (y ∷ ys) w (Outer position) cs s a =
      member.goes_on x p e lane under v y s.between position cs s.first a
  list_goes_on (x ∷ xs) (Both p q) e lane under v (y ∷ ys) w (Inner position) cs s a =
      acts_before (ListActs acts_at) ys position q e lane under v s.between cs s.extensions
      (list_goes_on xs q e lane under s.between ys w position cs s.rest a)
  list_goes_on (x ∷ xs) (Both p q) e lane under v (y ∷ ys) w position cs s a = absurd a
  list_goes_on (x ∷ xs) p e lane under v ys w position cs s a = absurd s
  list_goes_on [] p e lane under v ys w position cs s a = absurd a

  list_used : (xs ys : List L) (position : Position) (cs : Conducts) → AllZip registered xs ys
      → ListActs acts_at xs position cs → ListActs acts_at ys position cs
  list_used (x ∷ xs) (y ∷ ys) (Outer position) cs s a = member.put_in_use x y position cs s.0 a
  list_used (x ∷ xs) (y ∷ ys) (Inner position) cs s a = list_used xs ys position cs s.1 a
  list_used (x ∷ xs) (y ∷ ys) position cs s a = absurd a
  list_used (x ∷ xs) [] position cs s a = absurd s
  list_used [] ys position cs s a = absurd a

  -- a list of layers keeps the law, since its members do
  pub list_path_laws : {X : Type 0} (items : X → List L)
      → PathLaws (λ x. ListForm has_form (items x))
      (λ x p e lane under v y w. ListSteps stepped (items x) p e lane under v (items y) w)
      (λ x y. AllZip registered (items x) (items y)) (λ x. ListActs acts_at (items x))
  list_path_laws items = record {
    plain = λ x position cs a. list_plain (items x) position cs a;
    now = λ x position cs f a h. list_now (items x) position cs f a h;
    goes_on =
        λ x p e lane under v y w position cs s a.
        list_goes_on (items x) p e lane under v (items y) w position cs s a;
    put_in_use = λ x y position cs s a. list_used (items x) (items y) position cs s a;
  }

-- Below: a layer that may be absent, and one in a box.

module _ {L : Type 0} {has_form : L → Form → Type 0} {stepped : LayerSteps L}
    {registered : L → L → Type 0} {acts_at : ActsAt L}
    (held : PathLaws has_form stepped registered acts_at) where
  option_plain : (x : Option L) (position : Position) (cs : Conducts)
      → OptionActs acts_at x position cs
      → ArePlainConducts cs
  option_plain None position cs a = absurd a
  option_plain (Some x) position cs a = held.plain x position cs a

  option_now : (x : Option L) (position : Position) (cs : Conducts) (f : Form)
      → OptionActs acts_at x position cs → OptionForm has_form x f → ActsNow f position cs
  option_now None position cs f a h = absurd a
  option_now (Some x) position cs f a h = held.now x position cs f a h

  option_goes_on : (x : Option L) (p : Plan) (e : Notice) (lane : ℕ) (under : FilterSet)
      (v : RegistryState) (y : Option L) (w : RegistryState) (position : Position) (cs : Conducts)
      → OptionSteps stepped x p e lane under v y w → OptionActs acts_at x position cs
      → ActsOn (OptionActs acts_at) y position p e lane under v cs
  option_goes_on None p e lane under v y w position cs s a = absurd a
  option_goes_on (Some x) p e lane under v None w position cs s a = absurd s
  option_goes_on (Some x) p e lane under v (Some y) w position cs s a =
      held.goes_on x p e lane under v y w position cs s a

  option_used : (x y : Option L) (position : Position) (cs : Conducts) → OptionGoes registered x y
      → OptionActs acts_at x position cs → OptionActs acts_at y position cs
  option_used None y position cs s a = absurd a
  option_used (Some x) None position cs s a = absurd s
  option_used (Some x) (Some y) position cs s a = held.put_in_use x y position cs s a

  -- a layer that may be absent keeps the law, since the one that is there does
  pub option_path_laws : PathLaws (OptionForm has_form) (OptionSteps stepped)
      (OptionGoes registered) (OptionActs acts_at)
  option_path_laws = record {
    plain = option_plain;
    now = option_now;
    goes_on = option_goes_on;
    put_in_use = option_used;
  }

  -- a box keeps the law, since its layer does
  pub box_path_laws : {Z : Type 0}
      → PathLaws (λ (x : Box L Z). has_form x.value) (BoxSteps stepped)
      (λ x y. registered x.value y.value) (λ x. acts_at x.value)
  box_path_laws = record {
    plain = λ x position cs a. held.plain x.value position cs a;
    now = λ x position cs f a h. held.now x.value position cs f a h;
    goes_on =
        λ x p e lane under v y w position cs s a.
        held.goes_on x.value p e lane under v y.value w position cs s.1 a;
    put_in_use = λ x y position cs s a. held.put_in_use x.value y.value position cs s a;
  }
