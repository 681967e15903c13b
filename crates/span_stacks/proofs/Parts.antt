-- How the parts of a pair and of a stack are notified, and what they answer of interest.
use Rattle.std.specs.Prelude.{◌≡◌, ℕ, Bool, true, false, ◌&&◌, if◌then◌else◌, Option, None, refl}
use Rattle.std.proofs.Common.{sym, ap, subst, ◌∙◌}
use Rattle.std.proofs.Math.Path.{transport}
use Rattle.span_core.specs.Filters.{FilterSet, has_filter, refuses}
use Rattle.span_core.specs.Pass.{interest_sum, refused_of}
use Rattle.span_core.specs.declared.filter.FilterId.{FilterId}
use Rattle.span_core.specs.declared.filter.FilterMap.{FilterMap}
use Rattle.span_core.specs.declared.interest.Interest.TheVariants.{Always, Never, Sometimes}
use Rattle.span_core.specs.declared.interest.Interest.{Interest}
use Rattle.span_core.specs.declared.metadata.Metadata.{Metadata}
use Rattle.span_core.specs.declared.pass.Pass.{Pass}
use Rattle.span_core.specs.declared.span.Lane.{Lane}
use Rattle.span_layers.specs.Layer.{LayerSteps, LeavesAlone, Notified}
use Rattle.span_layers.specs.Parts.{PartsForm}
use Rattle.span_stacks.specs.Layered.{LayeredSteps, PairSteps}
use Rattle.span_stacks.specs.declared.layered.Layered.{Layered}
use Rattle.span_store.specs.Store.{RegistryState}
use Rattle.span_registry.proofs.CallerLemmas.{same_further}
use Rattle.span_registry.specs.Behaviour.{Notice}
use Rattle.span_registry.specs.Context.{HandsOn, IsLent, filters_lent, refused_lent, subscriber_lent}
use Rattle.span_registry.specs.Form.{Terminal, Filtered, Form, InPair, WritesOnlyExtensions, Arrangement, Leaf, OnSubscriber, Parts, is_marked}
use Rattle.span_registry.specs.Hooks.{Notifies, StackNotified, StackSteps, no_filter}
use Rattle.span_registry.specs.Plan.{by_pass}
use Rattle.span_registry.specs.Question.{ShowsBy, SumsBy, SumsSo, interest_of, is_calm, is_never, joint_interest, over_interest}
use Rattle.span_registry.specs.Subscriber.{SameButExtensions}
use Rattle.span_registry.specs.declared.context.ContextMut.{ContextMut}

-- ---- notices

module _ {L I S : Type 0}
    (outer : LayerSteps L) (inner : LayerSteps I) (outer_form : L → Form → Type 0) (inner_form : I → Form → Type 0) {registry : S → RegistryState} where
  -- where the inner layer is notified, and then the outer one in what that left, the pair is
  pub pair_notified : {e : Notice} {x y : L} {i j : I} {c d : ContextMut S} (f : ContextMut S)
      → Notified registry inner_form inner e i c j d → HandsOn registry c d → Notified registry outer_form outer e x d y f
      → Notified {L = Layered L I} registry (λ s. PartsForm InPair (outer_form s.layer) (inner_form s.inner))
      (λ s p n lane under v t w. PairSteps outer inner s.layer s.inner p n lane under v t.layer t.inner w) e
      (record { layer = x; inner = i }) c (record { layer = y; inner = j }) f
  pair_notified {e} {x} {y} {i} {j} {c} {d} f first rest second (Parts k o z) h =
      let under : filters_lent d ≡ filters_lent c = ap (λ (mask : FilterId). has_filter mask) rest.loan.mask in
      record {
        between = registry (subscriber_lent d);
        extensions = rest.extensions;
        first = first z h.2;
        second =
            transport
            (λ n. outer x (by_pass o e (rest.extensions.spans n) (under n) (refuses (rest.loan.refused n)))
            e (rest.loan.lane n).0 (under n) (registry (subscriber_lent d)) y (registry (subscriber_lent f)))
            (second o h.1);
      }
  pair_notified f first rest second (Leaf still a) h = absurd h
  pair_notified f first rest second (Filtered n a k) h = absurd h
  pair_notified f first rest second (Terminal z) h = absurd h

module _ {L I : Type 0} (outer : LayerSteps L) (inner : StackSteps I)
    (outer_form : L → Form → Type 0) (inner_form : I → Form → Type 0) {registry : I → RegistryState} {with_registry : I → RegistryState → I} where
  -- where the inner stack is notified, and then the layer on it in what that left, the stack of both is
  go_up : (e : Notice) (x y : L) (i k : I) (lane : Lane) (refused : FilterSet) (v : RegistryState) (map : FilterMap) (c d : ContextMut I)
      → StackNotified registry inner_form inner lane refused e i v k
      → SameButExtensions v (registry k) → IsLent c k lane.0 no_filter map → refuses map ≡ refused
      → LeavesAlone registry with_registry outer_form x c d → Notified registry outer_form outer e x c y d
      → (h : Form) → PartsForm OnSubscriber (outer_form x) (inner_form i) h → WritesOnlyExtensions h
      → LayeredSteps with_registry outer inner x i (by_pass h e v.store.spans no_filter refused) e lane.0 v y (subscriber_lent d) (registry (subscriber_lent d))
  go_up e x y i k lane refused v map c d first same lent is alone second (Parts j o z) h q =
      let state : registry (subscriber_lent c) ≡ registry k = ap registry lent.subscriber in
      let spans : (registry (subscriber_lent c)).store.spans ≡ v.store.spans = ap (λ (s : RegistryState). s.store.spans) state ∙ same.spans in
      let refusals : refuses (refused_lent c) ≡ refused = ap (λ (m : FilterMap). refuses m) lent.refused ∙ is in
      record {
        between = registry k;
        notified = k;
        extensions = same;
        first = first z h.2 q.1;
        second = transport (λ n. outer x
            (by_pass o e (spans n) (lent.filters n) (refusals n)) e (lent.lane n) (lent.filters n) (state n) y (registry (subscriber_lent d))) (second o h.1);
        rest = (alone o h.1 q.0).alone ∙ ap (λ s. with_registry s (registry (subscriber_lent d))) lent.subscriber;
      }
  go_up e x y i k lane refused v map c d first same lent is alone second (Leaf still a) h q = absurd h
  go_up e x y i k lane refused v map c d first same lent is alone second (Filtered n a f) h q = absurd h
  go_up e x y i k lane refused v map c d first same lent is alone second (Terminal z) h q = absurd h

  -- a stack takes the step that its inner stack took, and then all its layers are notified
  pub stack_notified : {e : Notice} {step : RegistryState → RegistryState → Type 0}
      {x y : L} {i k : I} {lane : Lane} {refused : FilterSet} {map : FilterMap} {c d : ContextMut I}
      → Notifies registry inner_form inner lane refused e step i k → IsLent c k lane.0 no_filter map → refuses map ≡ refused
      → HandsOn registry c d → LeavesAlone registry with_registry outer_form x c d → Notified registry outer_form outer e x c y d
      → Notifies {S = Layered L I} (λ s. registry s.inner) (λ s. PartsForm OnSubscriber (outer_form s.layer) (inner_form s.inner))
      (λ s p n l v t w. LayeredSteps with_registry outer inner s.layer s.inner p n l v t.layer t.inner w) lane
      refused e step (record { layer = x; inner = i }) (record { layer = y; inner = subscriber_lent d })
  stack_notified {e} {step} {x} {y} {i} {k} {lane} {refused} {map} {c} {d} below lent is rest alone second = record {
    left = below.left;
    taken = below.taken;
    extensions = same_further below.left (registry k) (registry (subscriber_lent d))
        below.extensions (subst (λ s. SameButExtensions (registry s) (registry (subscriber_lent d))) lent.subscriber rest.extensions);
    notified = go_up e x y i k lane refused below.left map c d below.notified below.extensions lent is alone second;
  }

-- ---- interest

-- whatever form there is, the answer is its interest
abbrev Sums : (Form → Type 0) → Metadata → ℕ → Pass → Interest → Pass → Type 0
Sums has m filters old answer new = SumsBy has (λ f. interest_of f m filters) old answer new

module _ {outer : Form → Type 0}
    (inner : Form → Type 0) {m : Metadata} {filters : ℕ} (joint : Arrangement) (together : joint_interest joint ≡ over_interest) {old between new : Pass} where
  -- the interest of an outer part over an inner one, from what each of them answers
  over_sums : (marked : Bool) (a said : Interest) → ShowsBy outer is_marked marked → Sums outer m filters old a between
      → ((i : Form) → inner i
      → refused_of between ≡ refused_of old → SumsSo (over_interest marked a (is_calm joint i) (interest_of i m filters (interest_sum between))) old said new)
      → Sums (PartsForm joint outer inner) m filters old said new
  over_sums marked a said shown first both (Parts k o i) h =
      let own : SumsSo (interest_of o m filters (interest_sum old)) old a between = first o h.1 in
      let below : Interest × Option Interest = interest_of i m filters (interest_sum between) in
      subst (λ sums. SumsSo sums old said new)
      (sym (ap (λ interest. interest marked a (is_calm joint i) below) together)
      ∙ (λ n. joint_interest (sym h.0 n) (shown o h.1 n) (own.answer n) (is_calm (sym h.0 n) i) (interest_of i m filters (own.sum n))))
      (both i h.2 own.refused)
  over_sums marked a said shown first both (Leaf still c) h = absurd h
  over_sums marked a said shown first both (Filtered n c f) h = absurd h
  over_sums marked a said shown first both (Terminal z) h = absurd h

  -- where the outer part is marked
  pub sums_marked : {a said : Interest} → ShowsBy outer is_marked true → Sums outer m filters old a between → Sums inner m filters between said new
      → Sums (PartsForm joint outer inner) m filters old said new
  sums_marked {a} {said} shown first second = over_sums true a said shown first (λ i h kept.
      let own : SumsSo (interest_of i m filters (interest_sum between)) between said new = second i h in
      record { answer = own.answer; sum = own.sum; refused = own.refused ∙ kept })

  -- where it isn't, and answers never
  pub sums_never : ShowsBy outer is_marked false → Sums outer m filters old Never between → interest_sum new ≡ None → refused_of new ≡ refused_of between
      → Sums (PartsForm joint outer inner) m filters old Never new
  sums_never shown first cleared same = over_sums false Never Never shown first (λ i h kept. record { answer = refl; sum = cleared; refused = same ∙ kept })

  -- where it isn't, and answers sometimes
  pub sums_sometimes : {below : Interest} → ShowsBy outer is_marked false → Sums outer m filters old Sometimes between → Sums inner m filters between below new
      → Sums (PartsForm joint outer inner) m filters old Sometimes new
  sums_sometimes {below} shown first second = over_sums false Sometimes Sometimes shown first (λ i h kept.
      let own : SumsSo (interest_of i m filters (interest_sum between)) between below new = second i h in
      record { answer = refl; sum = own.sum; refused = own.refused ∙ kept })

  -- where it isn't, and answers always: sometimes for the never of a calm inner part
  pub sums_always : {calm : Bool} {below said : Interest}
      → ShowsBy outer is_marked false → Sums outer m filters old Always between → ShowsBy inner (is_calm joint) calm
      → Sums inner m filters between below new
      → said ≡ (if is_never below && calm then Sometimes else below) → Sums (PartsForm joint outer inner) m filters old said new
  sums_always {calm} {below} {said} shown first is second answer = over_sums false Always said shown first (λ i h kept.
      let own : SumsSo (interest_of i m filters (interest_sum between)) between below new = second i h in
      calmed_sums (is_never (interest_of i m filters (interest_sum between)).0 && is_calm joint i) (interest_of i m filters (interest_sum between))
      (answer ∙ (λ n. if is_never (own.answer n) && is i h n then Sometimes else own.answer n)) own.sum (own.refused ∙ kept))
    where
      -- the answer with the sum, from the answer alone
      calmed_sums : (b : Bool) (sums : Interest × Option Interest)
          → said ≡ (if b then Sometimes else sums.0) → interest_sum new ≡ sums.1 → refused_of new ≡ refused_of old
          → SumsSo (if b then (Sometimes, sums.1) else sums) old said new
      calmed_sums true sums answer sum refused = record { answer = answer; sum = sum; refused = refused }
      calmed_sums false sums answer sum refused = record { answer = answer; sum = sum; refused = refused }
