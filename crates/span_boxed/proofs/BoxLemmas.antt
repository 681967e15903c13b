-- What is asked and notified over the registry that a subscriber stands on, is over the subscriber; and so in a box.
use mathlib.Core.List.{mem-append_right}
use base.Fml.{Incl, Lft}
use Rattle.std.specs.Borrow.{Bor}
use Rattle.std.specs.Option.{option_copied, option_map, option_map_or}
use Rattle.std.specs.Prelude.{◌≡◌, ℕ, Bool, [], ◌++◌, None, Option, Some, refl}
use Rattle.std.proofs.Common.{ap, subst, sym, ◌∙◌}
use Rattle.std.proofs.Math.Path.{transport}
use Rattle.span_boxed.specs.Boxed.{ActsPlainlyAt, ReloadsLawfully, RegistersLawfully, StepsLawfully}
use Rattle.span_core.specs.Filters.{FilterSet, has_filter, refuses}
use Rattle.span_targets.specs.declared.setting.Setting.{Setting}
use Rattle.span_core.specs.declared.pass.Pass.{Pass}
use Rattle.span_boxed.specs.Filter.{itself, replaced}
use Rattle.span_layers.specs.Acts.{PathLaws}
use Rattle.span_layers.specs.Layer.{LayerLaws, LayerSteps, Notified}
use Rattle.span_layers.specs.Number.{TakesNumbers, numbered}
use Rattle.span_store.specs.Store.{RegistryState, Store, empty_store}
use Rattle.span_registry.specs.Behaviour.{Notice}
use Rattle.span_registry.specs.Conducts.{ActsAt, Conducts}
use Rattle.span_registry.specs.Context.{Exchanges, LendsOver, LooksAtRoot, filters_in, lane_in, lane_lent, mask_lent, refused_lent, store_at, store_in}
use Rattle.span_registry.specs.Context.{subscriber_lent}
use Rattle.span_registry.specs.Form.{Form}
use Rattle.span_registry.specs.Reload.{ReloadLaws, ReloadSteps}
use Rattle.span_registry.specs.Position.{HearSteps, Here, Position}
use Rattle.span_registry.specs.Plan.{Plan, by_pass}
use Rattle.span_registry.specs.Question.{AnswersBy, AnswersSo, refusals}
use Rattle.span_registry.specs.declared.context.Context.{Context}
use Rattle.span_registry.specs.declared.context.ContextMut.{ContextMut}

-- ---- in a box

-- what a call of an object asks: that its type outlives the call, and what the call requires
pub asked_of_object : {A : Type 0} (x : A) (call lives : Lft) (P : Type 0) → P → (x ≡ x) × (Incl call (call ++ lives) → Unit {0} × (Incl call lives × P))
asked_of_object x call lives P p = (refl, λ i. (tt, ((λ a m. i a (mem-append_right call m)), p)))

-- the object that was called is the one in the box: what holds between it and what it became, holds between the two boxes
pub in_its_box : {I : Type 0} {V : I → Type 0} {B : Type 0} (boxed : (i : I) → V i → B) (P : B → B → Type 0) (x y : (i : I) × V i)
    → x ≡ y → (z : V x.0) → P (boxed x.0 x.1) (boxed x.0 z) → P (boxed y.0 y.1) (boxed x.0 z)
in_its_box {I} {V} boxed P x y same z = subst (λ (p : (i : I) × V i). P (boxed p.0 p.1) (boxed x.0 z)) same

-- where the object stays as it is, so does the box
pub boxed_same : {I : Type 0} {V : I → Type 0} {B : Type 0} (boxed : (i : I) → V i → B) (x y : (i : I) × V i)
    → x ≡ y → (z : V x.0) → z ≡ x.1 → boxed x.0 z ≡ boxed y.0 y.1
boxed_same {I} {V} boxed x y same z e = ap (boxed x.0) e ∙ ap (λ (p : (i : I) × V i). boxed p.0 p.1) same

-- ---- in a layer

-- the paths of a layer that keep their law act plainly
pub acts_plainly : {L : Type 0} {form : L → Form → Type 0} {steps : LayerSteps L} {registered : L → L → Type 0} {acts_at : ActsAt L}
    → PathLaws form steps registered acts_at
    → (x : L) (position : Position) (cs : Conducts) → acts_at x position cs → ActsPlainlyAt form acts_at x position cs
acts_plainly paths x position cs a = record { acted = a; plain = paths.plain x position cs a; now = λ f h. paths.now x position cs f a h }

module _ {L : Type 0} {form : L → Form → Type 0} {steps : LayerSteps L} {hears : HearSteps L}
    {registered : L → L → Type 0} {acts_at : ActsAt L} (laws : LayerLaws form steps hears registered) (paths : PathLaws form steps registered acts_at) where
  -- a layer that keeps the laws goes on lawfully as an object
  pub steps_lawfully : (x : L) (p : Plan) (e : Notice) (lane : ℕ) (under : FilterSet) (v : RegistryState) (y : L) (w : RegistryState)
      → steps x p e lane under v y w → StepsLawfully form steps hears acts_at x p e lane under v y w
  steps_lawfully x p e lane under v y w s = record {
    taken = s;
    follows = λ f h. laws.keeps x p e lane under v y w f s h;
    heard = λ position f h. laws.notified x p e lane under v y w position f s h;
    acts_on = λ position cs a. let n = paths.goes_on x p e lane under v y w position cs s a in (n.0, acts_plainly paths y position n.0 n.1, n.2);
    alone = λ f h l. laws.leaf.alone x f p e lane under v y w h l s;
    kind = λ f g h l k. laws.leaf.kind x f p e lane under v y w g h l s k;
  }

  -- and is put in use so
  pub registers_lawfully : (x y : L) → registered x y → RegistersLawfully form registered acts_at x y
  registers_lawfully x y s = record {
    taken = s;
    follows = λ f h. laws.put_in_use x y f s h;
    acts_still = λ position cs a. acts_plainly paths y position cs (paths.put_in_use x y position cs s a);
  }

-- and takes levels so
pub reloads_lawfully : {L : Type 0} {form : L → Form → Type 0}
    {steps : LayerSteps L} {registered : L → L → Type 0} {reloaded : ReloadSteps L} {hears : HearSteps L} {acts_at : ActsAt L}
    → LayerLaws form steps hears registered → PathLaws form steps registered acts_at → ReloadLaws form reloaded hears acts_at
    → (x : L) (n : ℕ) (l : Setting) (y : L) → reloaded x n l y → ReloadsLawfully form reloaded hears acts_at x n l y
reloads_lawfully laws paths levels x n l y s = record {
  taken = s;
  follows = λ f h. levels.keeps x n l y f s h;
  heard = λ position. levels.heard x n l y position s;
  acts_on = λ position cs a. acts_plainly paths y position _ (levels.acts x n l y position cs s a);
  leaf = λ f h k. sym (laws.leaf.goes x f [] y h k (levels.heard x n l y Here s));
}

-- ---- over the registry that a subscriber stands on

module _ {S : Type 0} (registry : S → RegistryState) where
  -- the store of the subscriber that is looked at
  store_by : (o : Option (Bor S)) → store_at registry o ≡ option_map_or (λ s. (registry s).store) (option_copied o) empty_store
  store_by None = refl
  store_by (Some s) = refl

  -- is that of its registry
  of_root : (o : Option S)
      → option_map_or (λ (r : RegistryState). r.store) (option_map registry o) empty_store ≡ option_map_or (λ s. (registry s).store) o empty_store
  of_root None = refl
  of_root (Some s) = refl

store_by_itself : (o : Option (Bor RegistryState)) → store_at itself o ≡ option_map_or (λ (r : RegistryState). r.store) (option_copied o) empty_store
store_by_itself None = refl
store_by_itself (Some s) = refl

module _ {S : Type 0} (registry : S → RegistryState) (c : Context S) (root : Context RegistryState) (same : LooksAtRoot registry c root) where
  -- a question that is answered over the registry is answered so over the subscriber
  pub answered_at_root : (has : Form → Type 0) (question : Form → Store → ℕ → FilterSet → FilterSet → Bool × FilterSet) (old : Pass) (said : Bool) (new : Pass)
      → AnswersBy has (λ f. question f (store_in itself root) (lane_in root).0 (filters_in root)) old said new
      → AnswersBy has (λ f. question f (store_in registry c) (lane_in c).0 (filters_in c)) old said new
  answered_at_root has question old said new answers f h =
      let store : store_in itself root ≡ store_in registry c =
      store_by_itself root.subscriber ∙ ap (λ (o : Option RegistryState). option_map_or (λ (r : RegistryState). r.store) o empty_store) same.subscriber
      ∙ of_root registry (option_copied c.subscriber) ∙ sym (store_by registry c.subscriber) in
      transport (λ i. AnswersSo (question f (store i) (same.lane i).0 (has_filter (same.mask i)) (refusals old)) old said new) (answers f h)

module _ {S : Type 0} (registry : S → RegistryState)
    (with_registry : S → RegistryState → S) (registry_with : (s : S) (w : RegistryState) → registry (with_registry s w) ≡ w) where
  over_root : {L : Type 0} (form : L → Form → Type 0)
      (steps : LayerSteps L) (e : Notice) (x y : L) (c taken put : ContextMut S) (root left empty : RegistryState) (lent end : ContextMut RegistryState)
      → root ≡ registry (subscriber_lent c)
      → Exchanges with_registry empty c taken → LendsOver taken root lent → subscriber_lent end ≡ left → Exchanges with_registry left taken put
      → Notified itself form steps e x lent y end → Notified registry form steps e x c y put
  over_root form steps e x y c taken put root left empty lent end own out over ended back hook f h =
      let state : subscriber_lent lent ≡ registry (subscriber_lent c) = over.subscriber ∙ own in
      let lane : lane_lent lent ≡ lane_lent c = over.lane ∙ out.loan.lane in
      let mask : mask_lent lent ≡ mask_lent c = over.mask ∙ out.loan.mask in
      let refused : refused_lent lent ≡ refused_lent c = over.refused ∙ out.loan.refused in
      let after : subscriber_lent end ≡ registry (subscriber_lent put) =
      ended ∙ sym (ap registry back.subscriber ∙ registry_with (subscriber_lent taken) left) in
      transport
      (λ i. steps x (by_pass f e (state i).store.spans (has_filter (mask i)) (refuses (refused i))) e (lane i).0 (has_filter (mask i)) (state i) y (after i))
      (hook f h)

  numbered_over_root : {L : Type 0} (form : L → Form → Type 0) (x y : L) (s : S) (root left : RegistryState)
      → root ≡ registry s → TakesNumbers itself replaced form x root y left → TakesNumbers registry with_registry form x s y (with_registry s left)
  numbered_over_root form x y s root left own h =
      let back = registry_with s left in
      record {
        alone = ap (with_registry s) (h.alone ∙ (λ i. record (own i) { filters = (sym back i).filters }));
        form = λ f k. subst (λ (r : RegistryState). form y (numbered f r.filters).0) own (h.form f k);
        next = λ f k. ap (λ (r : RegistryState). r.filters) back ∙ subst (λ (r : RegistryState). left.filters ≡ (numbered f r.filters).1) own (h.next f k);
      }

  module _
      {I : Type 0} {V : I → Type 0} {B : Type 0} (boxed : (i : I) → V i → B) (form : B → Form → Type 0) (x y : (i : I) × V i) (same : x ≡ y) (z : V x.0) where
    -- an object that is notified over the registry, which was taken out of the subscriber and is put back: its box is notified over the subscriber
    pub notified_over_root : (steps : LayerSteps B) (e : Notice)
        (c taken put : ContextMut S) (root left empty : RegistryState) (lent end : ContextMut RegistryState)
        → root ≡ registry (subscriber_lent c)
        → Exchanges with_registry empty c taken → LendsOver taken root lent → subscriber_lent end ≡ left → Exchanges with_registry left taken put
        → Notified itself form steps e (boxed x.0 x.1) lent (boxed x.0 z) end → Notified registry form steps e (boxed y.0 y.1) c (boxed x.0 z) put
    notified_over_root steps e c taken put root left empty lent end own out over ended back hook =
        in_its_box boxed (λ a b. Notified registry form steps e a c b put)
        x y same z (over_root form steps e (boxed x.0 x.1) (boxed x.0 z) c taken put root left empty lent end own out over ended back hook)

    -- and one that takes numbers of the registry: its box takes them of the subscriber
    pub takes_numbers : (s : S) (root left : RegistryState) → root ≡ registry s → TakesNumbers itself replaced form (boxed x.0 x.1) root (boxed x.0 z) left
        → TakesNumbers registry with_registry form (boxed y.0 y.1) s (boxed x.0 z) (with_registry s left)
    takes_numbers s root left own h =
        in_its_box boxed (λ a b. TakesNumbers registry with_registry form a s b (with_registry s left))
        x y same z (numbered_over_root form (boxed x.0 x.1) (boxed x.0 z) s root left own h)
