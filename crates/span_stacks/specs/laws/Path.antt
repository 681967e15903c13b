-- The paths of layers under filters, of pairs and of stacks keep their law, since the parts' do.
use Rattle.std.specs.Prelude.{◌≡◌, ℕ, [], ◌∷◌, Option, Some, None, refl}
use Rattle.std.specs.Option.{option_map}
use Rattle.std.proofs.Common.{ap, subst, sym, ◌∙◌}
use Rattle.std.proofs.lemmas.Bool.{eq-eqb, eqb-true}
use Rattle.span_core.specs.Filters.{FilterSet, has_filter, union}
use Rattle.span_core.specs.declared.filter.FilterId.{FilterId}
use Rattle.span_filters.specs.Filter.{FilterLaws, FilterSteps}
use Rattle.span_layers.specs.Acts.{PathLaws}
use Rattle.span_stacks.specs.Acts.{FilteredActs, LayeredActs}
use Rattle.span_stacks.specs.Filtered.{FilteredForm, FilteredSteps, Hooked, IsNumber}
use Rattle.span_layers.specs.Layer.{LayerSteps}
use Rattle.span_layers.specs.Parts.{PartsForm}
use Rattle.span_stacks.specs.Layered.{LayeredSteps, PairSteps}
use Rattle.span_stacks.specs.laws.Filtered.{numbered_alone}
use Rattle.span_store.specs.Store.{RegistryState}
use Rattle.span_registry.proofs.CallerLemmas.{same_itself}
use Rattle.span_registry.specs.Behaviour.{Behaviour, Conduct, Notice, OnClose, OnEnter, OnEvent, OnExit, OnFollows, OnIdChange, OnNewSpan, OnRecord}
use Rattle.span_registry.specs.Conducts.{ActOn, ActsAt, ActsNow, ActsOn, ArePlainConducts, Conducts, ConductAfter, StackPathLaws, after_notice, filter_numbered}
use Rattle.span_registry.specs.Form.{Filtered, Form, InPair, Arrangement, OnSubscriber, Parts}
use Rattle.span_registry.specs.Hooks.{StackSteps, no_filter}
use Rattle.span_registry.specs.Plan.{Both, Itself, Nobody, Plan, Through}
use Rattle.span_registry.specs.Position.{Here, Inner, Outer, Position, Under}
use Rattle.span_registry.specs.Question.{single}
use Rattle.span_registry.specs.View.{view_of}
use Rattle.span_layers.specs.laws.Path.{act_before, acts_before}

-- where nobody is notified, no filter learns of it
act_nobody : (position : Position) (e : Notice) (lane : ℕ) (under : FilterSet) (v : RegistryState)
    (cs : Conducts) → ActOn position Nobody e lane under v cs cs
act_nobody Here e lane under v cs = refl
act_nobody (Under position) e lane under v cs = refl
act_nobody (Outer position) e lane under v cs = refl
act_nobody (Inner position) e lane under v cs = refl

-- Below: a filter round a layer.

one_number_at : (n m : ℕ) (set : FilterSet) → set ≡ single n → set ≡ single m → n ≡ m
one_number_at n m set h k =
    eqb-true n m (sym (ap (λ (s : FilterSet). s n) (sym h ∙ k)) ∙ eq-eqb n n refl)

-- an id has one number, or none
one_number : (id : FilterId) (n m : Option ℕ) → IsNumber id n → IsNumber id m → n ≡ m
one_number id None None h k = refl
one_number id None (Some m) h k = let number = k.0 in absurd (cc)
one_number id (Some n) None h k = let number = h.0 in absurd (cc)
one_number id (Some n) (Some m) h k = ap Some (one_number_at n m (has_filter id) h.1 k.1)

-- what the filter of an id learns, the filter of its number learns
learns_numbered : (id : FilterId) (n : Option ℕ) (e : Notice) (lane : ℕ) (under : FilterSet)
    (v : RegistryState) (b : Conduct) → IsNumber id n
    → ConductAfter e lane (union under (filter_numbered n)) v b
    (after_notice e (view_of v.store lane (union under (has_filter id))) b)
learns_numbered id n e lane under v b h =
    record {
      between = v;
      extensions = same_itself v;
      learnt = ap (λ (s : FilterSet). after_notice e (view_of v.store lane (union under s)) b)
          (numbered_alone id n h);
    }

-- what the path under an id learns, the path under its number learns
act_numbered : (id : FilterId) (n : Option ℕ) (position : Position) (p : Plan) (e : Notice)
    (lane : ℕ)
    (under : FilterSet) (v : RegistryState) (cs ds : Conducts) → IsNumber id n
    → ActOn position p e lane (union under (has_filter id)) v cs ds
    → ActOn position p e lane (union under (filter_numbered n)) v cs ds
act_numbered id n position p e lane under v cs ds h =
    subst (λ (s : FilterSet). ActOn position p e lane (union under s) v cs ds)
    (numbered_alone id n h)

module _ {F L : Type 0} {has_answers : F → Behaviour → Type 0} {hooked : FilterSteps F}
    {acts : F → Conduct → Type 0} {has_form : L → Form → Type 0} {stepped : LayerSteps L}
    {registered : L → L → Type 0} {acts_at : ActsAt L} (own : FilterLaws has_answers hooked acts)
    (inside : PathLaws has_form stepped registered acts_at) where
  -- a filter that was notified acts as its conduct says after the notice
  hooks_act : (f : F) (e : Notice) (lane : ℕ) (under : FilterSet) (v : RegistryState) (g : F)
      (w : RegistryState) (b : Conduct) → Hooked hooked f e lane under v g w → acts f b
      → acts g (after_notice e (view_of v.store lane under) b)
  hooks_act f (OnNewSpan attrs id) lane under v g w b h a =
      own.goes_on f (OnNewSpan attrs id) lane under v g w b a h
  hooks_act f (OnRecord id values) lane under v g w b h a =
      own.goes_on f (OnRecord id values) lane under v g w b a h
  hooks_act f (OnFollows id other) lane under v g w b h a = subst (λ k. acts k b) (sym h.0) a
  hooks_act f (OnEvent e) lane under v g w b h a = subst (λ k. acts k b) (sym h.0) a
  hooks_act f (OnEnter id) lane under v g w b h a =
      own.goes_on f (OnEnter id) lane under v g w b a h
  hooks_act f (OnExit id) lane under v g w b h a = own.goes_on f (OnExit id) lane under v g w b a h
  hooks_act f (OnIdChange id other) lane under v g w b h a = subst (λ k. acts k b) (sym h.0) a
  hooks_act f (OnClose id) lane under v g w b h a =
      own.goes_on f (OnClose id) lane under v g w b a h

  filtered_plain : (i : FilterId) (a : F) (x : L) (position : Position) (cs : Conducts)
      → FilteredActs i (acts a) acts_at x position cs → ArePlainConducts cs
  filtered_plain i a x Here ((n, b) ∷ []) h = (own.plain a b h.1, tt)
  filtered_plain i a x (Under position) ((n, b) ∷ cs) h =
      (own.plain a b h.1, inside.plain x position cs h.2)
  filtered_plain i a x position cs h = absurd h

  filtered_now : (i : FilterId) (a : F) (x : L) (position : Position) (cs : Conducts) (f : Form)
      → FilteredActs i (acts a) acts_at x position cs
      → FilteredForm i (has_answers a) (has_form x) f
      → ActsNow f position cs
  filtered_now i a x Here ((n, b) ∷ []) (Filtered m c f) h k =
      ((m, c) ∷ [], refl, (one_number i m n k.0 h.0, own.only a c b k.1 h.1, tt))
  filtered_now i a x (Under position) ((n, b) ∷ cs) (Filtered m c f) h k =
      let rest = inside.now x position cs f h.2 k.2 in (
        (m, c) ∷ rest.0,
        ap (option_map (λ path. (m, c) ∷ path)) rest.1,
        (one_number i m n k.0 h.0, own.only a c b k.1 h.1, rest.2),
      )
  filtered_now i a x position cs (Filtered m c f) h k = absurd h
  filtered_now i a x position cs f h k = absurd k

  -- where a filtered layer is unchanged, its paths are
  filtered_same : (i : FilterId) (a : F) (x : L) (j : FilterId) (b : F) (y : L)
      (position : Position)
      (cs : Conducts) → j ≡ i → b ≡ a → y ≡ x → FilteredActs i (acts a) acts_at x position cs
      → FilteredActs j (acts b) acts_at y position cs
  filtered_same i a x j b y position cs d e f h =
      subst (λ k. FilteredActs k (acts b) acts_at y position cs) (sym d)
      (subst (λ k. FilteredActs i (acts k) acts_at y position cs) (sym e)
      (subst (λ k. FilteredActs i (acts a) acts_at k position cs) (sym f) h))

  filtered_goes_on : (i : FilterId) (a : F) (x : L) (p : Plan) (e : Notice) (lane : ℕ)
      (under : FilterSet) (v : RegistryState) (j : FilterId) (b : F) (y : L) (w : RegistryState)
      (position : Position) (cs : Conducts)
      → j ≡ i → FilteredSteps hooked stepped i a x p e lane under v b y w
      → FilteredActs i (acts a) acts_at x position cs
      → ActsOn (FilteredActs j (acts b) acts_at) y position p e lane under v cs
  filtered_goes_on i a x Nobody e lane under v j b y w position cs same s h = (
    cs,
    filtered_same i a x j b y position cs same s.0 s.1 h,
    act_nobody position e lane under v
        cs,
  )
  filtered_goes_on i a x Itself e lane under v j b y w position cs same s h = absurd s
  filtered_goes_on i a x (Both p q) e lane under v j b y w position cs same s h = absurd s
  filtered_goes_on i a x (Through p) e lane under v j b y w Here ((n, c) ∷ []) same s h = (
    (n, after_notice e (view_of v.store lane (union under (has_filter i))) c) ∷ [],
    (subst (λ k. IsNumber k n) (sym same) h.0, hooks_act a e lane _ v b s.between c s.filter h.1),
    (refl, learns_numbered i n e lane under v c h.0),
  )
  filtered_goes_on i a x (Through p) e lane under v j b y w (Under position) ((n, c) ∷ cs) same s
      h =
      let rest =
      inside.goes_on x p e lane (union under (has_filter i)) s.between y w position cs s.layer h.2
      in (
        (n, after_notice e (view_of v.store lane (union under (has_filter i))) c) ∷ rest.0,
        (
          subst (λ k. IsNumber k n) (sym same) h.0,
          hooks_act a e lane _ v b s.between c s.filter
              h.1,
          rest.1,
        ),
        (
          refl,
          learns_numbered i n e lane under v c h.0,
          act_numbered i n position p e lane under v cs
              rest.0 h.0 (act_before position p e lane _ v s.between cs rest.0 s.extensions rest.2),
        ),
      )
  filtered_goes_on i a x (Through p) e lane under v j b y w position cs same s h = absurd h

  filtered_used : (i : FilterId) (a : F) (x : L) (j : FilterId) (b : F) (y : L)
      (position : Position)
      (cs : Conducts) → j ≡ i → b ≡ a → registered x y
      → FilteredActs i (acts a) acts_at x position cs
      → FilteredActs j (acts b) acts_at y position cs
  filtered_used i a x j b y Here ((n, c) ∷ []) same own_same used h =
      (subst (λ k. IsNumber k n) (sym same) h.0, subst (λ k. acts k c) (sym own_same) h.1)
  filtered_used i a x j b y (Under position) ((n, c) ∷ cs) same own_same used h = (
    subst (λ k. IsNumber k n) (sym same) h.0,
    subst (λ k. acts k c) (sym own_same) h.1,
    inside.put_in_use x y position cs used h.2,
  )
  filtered_used i a x j b y position cs same own_same used h = absurd h

  -- a filtered layer keeps the law, since its filter and its layer keep theirs
  pub filtered_path_laws : {X : Type 0} (id : X → FilterId) (filter : X → F) (layer : X → L)
      → PathLaws (λ x. FilteredForm (id x) (has_answers (filter x)) (has_form (layer x)))
      (λ x p e lane under v y w. (id y ≡ id x)
      × FilteredSteps hooked stepped (id x) (filter x) (layer x) p e lane under v (filter y)
      (layer y) w)
      (λ x y. (id y ≡ id x) × (filter y ≡ filter x) × registered (layer x) (layer y))
      (λ x. FilteredActs (id x) (acts (filter x)) acts_at (layer x))
  filtered_path_laws id filter layer = record {
    plain = λ x position cs a. filtered_plain (id x) (filter x) (layer x) position cs a;
    now = λ x position cs f a h. filtered_now (id x) (filter x) (layer x) position cs f a h;
    goes_on =
        λ x p e lane under v y w position cs s a.
        filtered_goes_on (id x) (filter x) (layer x) p e lane under v (id y) (filter y) (layer y) w
        position cs s.0 s.1 a;
    put_in_use =
        λ x y position cs s a. filtered_used (id x) (filter x) (layer x) (id y) (filter y) (layer y)
        position cs s.0 s.1 s.2 a;
  }

-- Below: two parts.

-- the paths of a value are of plain filters
abbrev ArePlainPaths : {T : Type 0} → ActsAt T → Type 0
ArePlainPaths acts_at =
    (x : _) (position : Position) (cs : Conducts) → acts_at x position cs → ArePlainConducts cs

-- the conducts of a value's paths say what they now answer
abbrev SayNow : {T : Type 0} → (T → Form → Type 0) → ActsAt T → Type 0
SayNow has_form acts_at =
    (x : _) (position : Position) (cs : Conducts) (f : Form) → acts_at x position cs → has_form x f
    → ActsNow f position cs

-- the paths of a value are unchanged where it goes on by this relation
abbrev MakesNoDifference : {T : Type 0} → (T → T → Type 0) → ActsAt T → Type 0
MakesNoDifference goes acts_at =
    (x y : _) (position : Position) (cs : Conducts) → goes x y → acts_at x position cs
    → acts_at y position cs

module _ {L I : Type 0} {outer_acts : ActsAt L} {inner_acts : ActsAt I} where
  layered_plain : ArePlainPaths outer_acts → ArePlainPaths inner_acts
      → (x : L) (i : I) (position : Position) (cs : Conducts)
      → LayeredActs outer_acts inner_acts x i position cs → ArePlainConducts cs
  layered_plain outer inner x i (Outer position) cs a = outer x position cs a
  layered_plain outer inner x i (Inner position) cs a = inner i position cs a
  layered_plain outer inner x i position cs a = absurd a

  layered_now : {outer_form : L → Form → Type 0} {inner_form : I → Form → Type 0}
      (joint : Arrangement) → SayNow outer_form outer_acts → SayNow inner_form inner_acts
      → (x : L) (i : I) (position : Position) (cs : Conducts) (f : Form)
      → LayeredActs outer_acts inner_acts x i position cs
      → PartsForm joint (outer_form x) (inner_form i) f → ActsNow f position cs
  layered_now joint outer inner x i (Outer position) cs (Parts k o z) a h =
      outer x position cs o a h.1
  layered_now joint outer inner x i (Inner position) cs (Parts k o z) a h =
      inner i position cs z a h.2
  layered_now joint outer inner x i position cs (Parts k o z) a h = absurd a
  layered_now joint outer inner x i position cs f a h = absurd h

  layered_used : {outer_goes : L → L → Type 0} {inner_goes : I → I → Type 0}
      → MakesNoDifference outer_goes outer_acts → MakesNoDifference inner_goes inner_acts
      → (x : L) (i : I) (y : L) (j : I) (position : Position) (cs : Conducts)
      → outer_goes x y → inner_goes i j → LayeredActs outer_acts inner_acts x i position cs
      → LayeredActs outer_acts inner_acts y j position cs
  layered_used outer inner x i y j (Outer position) cs s t a = outer x y position cs s a
  layered_used outer inner x i y j (Inner position) cs s t a = inner i j position cs t a
  layered_used outer inner x i y j position cs s t a = absurd a

-- the paths of two parts, of these conducts, have some that follow from them
abbrev LayeredActsOn : {L I : Type 0} → ActsAt L → ActsAt I → L → I → Position → Plan → Notice → ℕ
    → FilterSet → RegistryState → Conducts → Type 0
LayeredActsOn outer inner y j position p e lane under v cs =
    (ds : Conducts) × LayeredActs outer inner y j position ds
    × ActOn position p e lane under v cs ds

module _ {L I : Type 0} {outer_form : L → Form → Type 0} {inner_form : I → Form → Type 0}
    {outer_steps : LayerSteps L} {inner_steps : LayerSteps I} {outer_used : L → L → Type 0}
    {inner_used : I → I → Type 0} {outer_acts : ActsAt L} {inner_acts : ActsAt I}
    (outer : PathLaws outer_form outer_steps outer_used outer_acts)
    (inner : PathLaws inner_form inner_steps inner_used inner_acts) where
  pair_goes_on : (x : L) (i : I) (p : Plan) (e : Notice) (lane : ℕ) (under : FilterSet)
      (v : RegistryState) (y : L) (j : I) (w : RegistryState) (position : Position) (cs : Conducts)
      → PairSteps outer_steps inner_steps x i p e lane under v y j w
      → LayeredActs outer_acts inner_acts x i position cs
      → LayeredActsOn outer_acts inner_acts y j position p e lane under v cs
  pair_goes_on x i (Both p q) e lane under v y j w (Outer position) cs s a =
      acts_before outer_acts y position p e lane under v s.between cs s.extensions
      (outer.goes_on x p e lane under s.between y w position cs s.second a)
  pair_goes_on x i (Both p q) e lane under v y j w (Inner position) cs s a =
      inner.goes_on i q e lane under v j s.between position cs s.first a
  pair_goes_on x i (Both p q) e lane under v y j w position cs s a = absurd a
  pair_goes_on x i p e lane under v y j w position cs s a = absurd s

  -- two layers keep the law, since each does
  pub pair_path_laws : {X : Type 0} (layer : X → L) (below : X → I)
      → PathLaws (λ x. PartsForm InPair (outer_form (layer x)) (inner_form (below x)))
      (λ x p e lane under v y w.
      PairSteps outer_steps inner_steps (layer x) (below x) p e lane under v (layer y)
      (below y) w)
      (λ x y. outer_used (layer x) (layer y) × inner_used (below x) (below y))
      (λ x. LayeredActs outer_acts inner_acts (layer x) (below x))
  pair_path_laws layer below = record {
    plain =
        λ x position cs a. layered_plain outer.plain inner.plain (layer x) (below x) position cs a;
    now =
        λ x position cs f a h.
        layered_now InPair outer.now inner.now (layer x) (below x) position cs f a
        h;
    goes_on =
        λ x p e lane under v y w position cs s a.
        pair_goes_on (layer x) (below x) p e lane under v (layer y) (below y) w position cs s a;
    put_in_use =
        λ x y position cs s a. layered_used outer.put_in_use inner.put_in_use (layer x) (below x)
        (layer y) (below y) position cs s.0 s.1 a;
  }

-- Below: a layer on a subscriber.

module _ {L I : Type 0} {with_registry : I → RegistryState → I} {outer_form : L → Form → Type 0}
    {inner_form : I → Form → Type 0} {outer_steps : LayerSteps L} {inner_steps : StackSteps I}
    {outer_used : L → L → Type 0} {inner_used : I → I → Type 0} {outer_acts : ActsAt L}
    {inner_acts : ActsAt I} (outer : PathLaws outer_form outer_steps outer_used outer_acts)
    (inner : StackPathLaws with_registry inner_form inner_steps inner_used inner_acts) where
  -- the registry that a layer leaves makes no difference to the paths of the inner stack
  below_goes_on : (i : I) (q : Plan) (e : Notice) (lane : ℕ) (v : RegistryState) (k : I)
      (between : RegistryState) (j : I) (w : RegistryState) (position : Position) (cs : Conducts)
      → inner_steps i q e lane v k between → j ≡ with_registry k w
      → inner_acts i position cs → ActsOn inner_acts j position q e lane no_filter v cs
  below_goes_on i q e lane v k between j w position cs s same a =
      let next = inner.goes_on i q e lane v k between position cs s a in (
        next.0,
        subst (λ z. inner_acts z position next.0) (sym same)
            (inner.acts_with k w position next.0 next.1),
        next.2,
      )

  stack_goes_on : (x : L) (i : I) (p : Plan) (e : Notice) (lane : ℕ) (v : RegistryState) (y : L)
      (j : I) (w : RegistryState) (position : Position) (cs : Conducts)
      → LayeredSteps with_registry outer_steps inner_steps x i p e lane v y j w
      → LayeredActs outer_acts inner_acts x i position cs
      → LayeredActsOn outer_acts inner_acts y j position p e lane no_filter v cs
  stack_goes_on x i (Both p q) e lane v y j w (Outer position) cs s a =
      acts_before outer_acts y position p e lane no_filter v s.between cs s.extensions
      (outer.goes_on x p e lane no_filter s.between y w position cs s.second a)
  stack_goes_on x i (Both p q) e lane v y j w (Inner position) cs s a =
      below_goes_on i q e lane v s.notified s.between j w position cs s.first s.rest a
  stack_goes_on x i (Both p q) e lane v y j w position cs s a = absurd a
  stack_goes_on x i p e lane v y j w position cs s a = absurd s

  stack_acts_with : (x : L) (i : I) (w : RegistryState) (position : Position) (cs : Conducts)
      → LayeredActs outer_acts inner_acts x i position cs
      → LayeredActs outer_acts inner_acts x (with_registry i w) position cs
  stack_acts_with x i w (Outer position) cs a = a
  stack_acts_with x i w (Inner position) cs a = inner.acts_with i w position cs a
  stack_acts_with x i w position cs a = absurd a

  -- a layer on a stack keeps the law of paths, since both do
  pub stack_path_laws : {X : Type 0} (layer : X → L) (below : X → I) (with_below : X → I → X)
      → ((x : X) (i : I) → layer (with_below x i) ≡ layer x)
      → ((x : X) (i : I) → below (with_below x i) ≡ i)
      → StackPathLaws (λ x w. with_below x (with_registry (below x) w))
      (λ x. PartsForm OnSubscriber (outer_form (layer x)) (inner_form (below x)))
      (λ x p e lane v y w.
      LayeredSteps with_registry outer_steps inner_steps (layer x) (below x) p e lane v
      (layer y) (below y) w)
      (λ x y. outer_used (layer x) (layer y) × inner_used (below x) (below y))
      (λ x. LayeredActs outer_acts inner_acts (layer x) (below x))
  stack_path_laws layer below with_below own rest = record {
    plain =
        λ x position cs a. layered_plain outer.plain inner.plain (layer x) (below x) position cs a;
    now =
        λ x position cs f a h.
        layered_now OnSubscriber outer.now inner.now (layer x) (below x) position
        cs f a h;
    goes_on =
        λ x p e lane v y w position cs s a.
        stack_goes_on (layer x) (below x) p e lane v (layer y) (below y) w position cs s a;
    put_in_use =
        λ x y position cs s a. layered_used outer.put_in_use inner.put_in_use (layer x) (below x)
        (layer y) (below y) position cs s.0 s.1 a;
    acts_with =
        λ x w position cs a. subst
        (λ l. LayeredActs outer_acts inner_acts l (below (with_below x (with_registry (below x) w)))
        position cs) (sym (own x (with_registry (below x) w)))
        (subst (λ b. LayeredActs outer_acts inner_acts (layer x) b position cs)
        (sym (rest x (with_registry (below x) w)))
        (stack_acts_with (layer x) (below x) w position cs a));
  }
