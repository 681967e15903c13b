-- Each leaf goes through what passes its path, and nothing else.
use Rattle.std.proofs.Common.{◌≡◌, ℕ, Bool, true, false, List, [], ◌∷◌, ◌++◌, Option, Some, None, if◌then◌else◌, refl, sym, ap, subst, ◌∙◌}
use Rattle.std.proofs.lemmas.List.{append-nil}
use Rattle.std.specs.List.{FoldsTo}
use Rattle.std.specs.Option.{option_map}
use Rattle.span_core.specs.Filters.{FilterSet, union}
use Rattle.span_targets.specs.declared.setting.Setting.{Setting}
use Rattle.span_core.specs.declared.span.Lane.{Lane}
use Rattle.span_dispatch.proofs.Goes.{SameAside, same_aside}
use Rattle.span_dispatch.specs.Cache.{KeptCallsites}
use Rattle.span_dispatch.specs.declared.call.Call.{Call}
use Rattle.span_dispatch.specs.Outcome.{Change, LayersGo, Reloaded, OutcomeAt, Makes, Noticed, Outcome, Quiet, given_in}
use Rattle.std.specs.FinMap.{empty}
use Rattle.span_store.specs.Store.{RegistryState, Store, stack_on}
use Rattle.span_dispatch.specs.Alone.{passed, passed_at}
use Rattle.span_dispatch.specs.Serve.{Run, ServesAsked, call_of, flat}
use Rattle.span_dispatch.specs.declared.request.Answer.{Answer}
use Rattle.span_dispatch.specs.declared.request.Request.{Request}
use Rattle.span_stacks.proofs.Pass.{reached}
use Rattle.span_registry.specs.View.{seen_spans}
use Rattle.span_registry.specs.Behaviour.{Behaviour, Notice}
use Rattle.span_registry.specs.Path.{Path, mask_at, mask_of, path_at}
use Rattle.span_registry.specs.Form.{Terminal, Filtered, Form, Leaf, Parts}
use Rattle.span_registry.specs.Hooks.{StackLaws, StackSteps, no_filter}
use Rattle.span_registry.specs.Reload.{ReloadLaws, ReloadSteps}
use Rattle.span_registry.specs.Conducts.{ActsAt}
use Rattle.span_registry.specs.Position.{HearSteps, Heard, Here, Inner, Outer, Position, Under, heard_by, is_notified, told_in}
use Rattle.span_registry.specs.Plan.{Nobody, Through, asked_afresh, passes}
use Rattle.span_registry.specs.Question.{single}

-- where nothing stands, nobody is notified
unreached : (f : Form) (position : Position) (e : Notice) (s : Store) (lane : ℕ) (under : FilterSet)
    → path_at f position ≡ None → is_notified (asked_afresh f e s lane under) position ≡ false
unreached (Leaf still a) Here e s lane under h = absurd (cc)
unreached (Leaf still a) (Under p) e s lane under h = refl
unreached (Leaf still a) (Outer p) e s lane under h = refl
unreached (Leaf still a) (Inner p) e s lane under h = refl
unreached (Terminal v) p e s lane under h = refl
unreached (Filtered None a f) p e s lane under h = refl
unreached (Filtered (Some n) a f) Here e s lane under h = absurd (cc)
unreached (Filtered (Some n) a f) (Under p) e s lane under h =
    by_test (passes a e s lane (union under (single n))) (unreached f p e s lane (union under (single n)) (beneath (path_at f p) h))
  where
    by_test : (b : Bool) → is_notified (asked_afresh f e s lane (union under (single n))) p ≡ false
        → is_notified (if b then Through (asked_afresh f e s lane (union under (single n))) else Nobody) (Under p) ≡ false
    by_test true k = k
    by_test false k = refl

    beneath : (o : Option Path) → option_map (λ (r : Path). (Some n, a) ∷ r) o ≡ None → o ≡ None
    beneath None k = refl
    beneath (Some r) k = absurd (cc)
unreached (Filtered (Some n) a f) (Outer p) e s lane under h = by_test (passes a e s lane (union under (single n)))
  where
    by_test : (b : Bool) → is_notified (if b then Through (asked_afresh f e s lane (union under (single n))) else Nobody) (Outer p) ≡ false
    by_test true = refl
    by_test false = refl
unreached (Filtered (Some n) a f) (Inner p) e s lane under h = by_test (passes a e s lane (union under (single n)))
  where
    by_test : (b : Bool) → is_notified (if b then Through (asked_afresh f e s lane (union under (single n))) else Nobody) (Inner p) ≡ false
    by_test true = refl
    by_test false = refl
unreached (Parts j o i) Here e s lane under h = refl
unreached (Parts j o i) (Under p) e s lane under h = refl
unreached (Parts j o i) (Outer p) e s lane under h = unreached o p e s lane under h
unreached (Parts j o i) (Inner p) e s lane under h = unreached i p e s lane under h

-- ---- under which filters

pub some_path : (q r : Path) → Some q ≡ Some r → q ≡ r
some_path q r e = cc

-- the path under a filter begins with that filter
pub beneath : (n : Option ℕ) (a : Behaviour) (o : Option Path) (path : Path)
    → option_map (λ (r : Path). (n, a) ∷ r) o ≡ Some path → (rest : Path) × (o ≡ Some rest) × ((n, a) ∷ rest ≡ path)
beneath n a None path h = absurd (cc)
beneath n a (Some rest) path h = (rest, refl, some_path ((n, a) ∷ rest) path h)

-- whoever stands at a position looks under the filters of its path
mask_on_path : (f : Form) (position : Position) (path : Path) (under : FilterSet)
    → path_at f position ≡ Some path → mask_at f position under ≡ mask_of path under
mask_on_path (Leaf still a) Here path under h = ap (λ (r : Path). mask_of r under) (some_path [] path h)
mask_on_path (Filtered None a f) Here path under h = ap (λ (r : Path). mask_of r under) (some_path ((None, a) ∷ []) path h)
mask_on_path (Filtered (Some n) a f) Here path under h = ap (λ (r : Path). mask_of r under) (some_path ((Some n, a) ∷ []) path h)
mask_on_path (Filtered None a f) (Under p) path under h =
    let rest = beneath None a (path_at f p) path h in mask_on_path f p rest.0 under rest.1 ∙ ap (λ (r : Path). mask_of r under) rest.2
mask_on_path (Filtered (Some n) a f) (Under p) path under h =
    let rest = beneath (Some n) a (path_at f p) path h in mask_on_path f p rest.0 (union under (single n)) rest.1 ∙ ap (λ (r : Path). mask_of r under) rest.2
mask_on_path (Parts j o i) (Outer p) path under h = mask_on_path o p path under h
mask_on_path (Parts j o i) (Inner p) path under h = mask_on_path i p path under h
mask_on_path other p path under h = absurd (cc)

-- ---- what is told

-- whom the plan asked afresh notifies sees what passes its path
sees_passed : (f : Form) (position : Position) (lane : Lane) (e : Notice) (s t : Store)
    → heard_by (asked_afresh f e s lane.0 no_filter) position (told_in e (given_in e s t) lane.0 (mask_at f position no_filter))
    ≡ passed (path_at f position) (Noticed lane e) s t
sees_passed f position lane e s t = by_path (path_at f position) refl
  where
    by_path : (o : Option Path) → path_at f position ≡ o → heard_by (asked_afresh f e s lane.0 no_filter)
        position (told_in e (given_in e s t) lane.0 (mask_at f position no_filter)) ≡ passed o (Noticed lane e) s t
    by_path None h =
        ap (λ b. if b then told_in e (given_in e s t) lane.0 (mask_at f position no_filter) ∷ [] else []) (unreached f position e s lane.0 no_filter h)
    by_path (Some path) h =
        λ i.
        if reached f position path e s lane.0 no_filter h i then told_in e (given_in e s t) lane.0 (mask_on_path f position path no_filter h i) ∷ [] else []

-- extensions make no difference to what is told
told_aside : (e : Notice) (s t : Store) (lane : ℕ) (mask : FilterSet) → SameAside s t → told_in e t lane mask ≡ told_in e s lane mask
told_aside e s t lane mask a = λ i. record {
  lane = lane;
  notice = e;
  view = record { lane = lane; stack = stack_on (a.stacks i) lane; spans = seen_spans (record s { spans = a.spans i; extensions = empty }) mask };
}

nothing_passed : (o : Option Path) (c : Change) (s given : Store) → passed o (Quiet c) s given ≡ []
nothing_passed None c s given = refl
nothing_passed (Some path) c s given = refl

no_reload_passed : (o : Option Path) (n : ℕ) (l : Setting) (s given : Store) → passed o (Reloaded n l) s given ≡ []
no_reload_passed None n l s given = refl
no_reload_passed (Some path) n l s given = refl

module _ {S : Type 0} (registry : S → RegistryState) {with_registry : S → RegistryState → S} {usable : S → Type 0}
    {has_form : S → Form → Type 0} {stepped : StackSteps S} {reloaded : ReloadSteps S} {hears : HearSteps S} {registered : S → S → Type 0} {acts_at : ActsAt S}
    (laws : StackLaws with_registry usable has_form stepped hears registered) (levels : ReloadLaws has_form reloaded hears acts_at) where
  -- another registry makes no difference to a leaf
  aside : (x y z : S) (position : Position) (h : Heard) → hears x position h y → z ≡ with_registry y (registry z) → hears x position h z
  aside x y z position h a e =
      let more = subst (λ w. hears y position [] w) (sym e) (laws.hears_with y (registry z) position) in
      subst (λ k. hears x position k z) (append-nil h) (laws.heard.further x y z position h [] a more)

  by_outcome : (f : Form) (o : Outcome) (s t : Store) (x y : S) (position : Position)
      → has_form x f → LayersGo registry with_registry has_form stepped reloaded f o s t x y → hears x position (passed (path_at f position) o s t) y
  by_outcome f (Noticed lane e) s t x y position has n =
      let plan = asked_afresh f e s lane.0 no_filter in
      let mask = mask_at f position no_filter in
      let there = aside x n.notified y position (heard_by plan position (told_in e n.left.store lane.0 mask))
      (laws.notified x plan e lane.0 n.left n.notified (registry n.notified) position f n.layers has) n.rest in
      let told =
      ap (heard_by plan position) (told_aside e (given_in e s t) n.left.store lane.0 mask (same_aside _ _ (ap (λ (r : RegistryState). r.store) n.given)))
      ∙ sees_passed f position lane e s t in
      subst (λ h. hears x position h y) told there
  by_outcome f (Quiet c) s t x y position has quiet =
      subst (λ h. hears x position h y) (sym (nothing_passed (path_at f position) c s t)) (aside x x y position [] (laws.heard.nothing x position) quiet.1)
  by_outcome f (Reloaded n l) s t x y position has set =
      subst (λ h. hears x position h y) (sym (no_reload_passed (path_at f position) n l s t)) (levels.heard x n l y position set.1)

  -- each leaf went through what it sees of what was made
  pub goes_through : (x : S) (ms : List OutcomeAt) (y : S) (position : Position)
      → FoldsTo (Makes registry with_registry has_form stepped reloaded) x ms y → hears x position (passed_at position ms) y
  goes_through x [] y position h = subst (λ z. hears x position [] z) h (laws.heard.nothing x position)
  goes_through x (m ∷ ms) y position h =
      laws.heard.further x
      h.0 y position _ _ (by_outcome m.form m.outcome m.before m.after x h.0 position h.1.honest.has h.1.layers) (goes_through h.0 ms y position h.2)

module _ {S : Type 0} (registry : S → RegistryState)
    (with_registry : S → RegistryState → S) (has_form : S → Form → Type 0) (stepped : StackSteps S) (reloaded : ReloadSteps S) where
  folds_append : (x : S) (ms ns : List OutcomeAt) (y z : S)
      → FoldsTo (Makes registry with_registry has_form stepped reloaded) x ms y → FoldsTo (Makes registry with_registry has_form stepped reloaded) y ns z
      → FoldsTo (Makes registry with_registry has_form stepped reloaded) x (ms ++ ns) z
  folds_append x [] ns y z h k = subst (λ w. FoldsTo (Makes registry with_registry has_form stepped reloaded) w ns z) (sym h) k
  folds_append x (m ∷ ms) ns y z h k = (h.0, h.1, folds_append h.0 ms ns y z h.2 k)

  asked_folds : (o : Option Call) (kept : KeptCallsites) (x : S) (a : Answer) (ms : List OutcomeAt) (after : KeptCallsites) (y : S) → ServesAsked registry
      with_registry has_form stepped reloaded o kept x a ms after y → FoldsTo (Makes registry with_registry has_form stepped reloaded) x ms y
  asked_folds None kept x a ms after y h = subst (λ ns. FoldsTo (Makes registry with_registry has_form stepped reloaded) x ns y) (sym h.1) (sym h.3)
  asked_folds (Some call) kept x a ms after y h = h.2.goes

  -- a run goes through all that was made, one after another
  pub run_folds : (past : List Answer) (rs : List Request) (answers : List Answer) (made : List (List OutcomeAt))
      (kept : KeptCallsites) (x : S) (after : KeptCallsites) (y : S) → Run registry with_registry has_form stepped reloaded past rs answers made kept x after y
      → FoldsTo (Makes registry with_registry has_form stepped reloaded) x (flat made) y
  run_folds past [] [] [] kept x after y h = sym h.1
  run_folds past (q ∷ rs) (b ∷ answers) (ms ∷ made) kept x after y h =
      folds_append x
      ms (flat made) h.1 y (asked_folds (call_of past q) kept x b ms h.0 h.1 h.2) (run_folds (past ++ (b ∷ [])) rs answers made h.0 h.1 after y h.3)
  run_folds past other rest made kept x after y h = absurd h
