-- Stacks as they begin: their filters took the first numbers, and there was room for them.
use Rattle.std.proofs.Common.{◌≡◌, ℕ, ◌+◌, ◌≤◌, Option, Some, None, arith, refl, sym, ap, subst, ◌∙◌}
use Rattle.span_core.specs.declared.filter.TheConstants.FilterId.{LIMIT}
use Rattle.span_core.specs.declared.level.LevelFilter.{LevelFilter}
use Rattle.span_core.specs.declared.level.TheConstants.LevelFilter.{INFO, TRACE, WARN}
use Rattle.span_dispatch.specs.Recorder.{RecorderState, new_recorder}
use Rattle.span_filters.specs.Filter.{settled_answers}
use Rattle.span_filters.specs.Level.{level_answers}
use Rattle.span_filters.specs.Setting.{setting_answers}
use Rattle.span_stacks.specs.Filtered.{FilteredForm, IsNumber, IsUnnumbered, filter_of, id_of, layer_of}
use Rattle.span_layers.specs.Parts.{PartsForm}
use Rattle.span_stacks.specs.Layered.{inner_of, outer_of, with_inner}
use Rattle.span_layers.specs.Number.{numbered}
use Rattle.span_stacks.specs.declared.filtered.Filtered.{Filtered as FilteredLayer}
use Rattle.span_stacks.specs.declared.layered.Layered.{Layered}
use Rattle.span_store.specs.Store.{RegistryState, new_registry}
use Rattle.span_store.specs.declared.limits.Limits.{Limits}
use Rattle.span_registry.specs.Form.{Filtered, Form, InPair, Parts}
use Rattle.span_script.specs.Mute.{mute_answers}
use Rattle.span_script.specs.Stacks.{BeginsAbsent, BeginsDirectives, BeginsNested, BeginsPair, BeginsPlain, BeginsUnder, BeginsWarned, HasRoom, leaf}
use Rattle.span_script.specs.declared.mute.Mute.{Mute}
use Rattle.span_script.specs.declared.mute_veto.MuteVeto.{MuteVeto}
use Rattle.span_targets.specs.declared.setting.Setting.{Setting}
use Rattle.span_targets.specs.declared.setting.Setting.TheVariants.{Level}

abbrev pub Levelled : Type 0
Levelled = FilteredLayer RecorderState LevelFilter

abbrev pub Warned : Type 0
Warned = Layered Levelled (Layered RecorderState RegistryState)

abbrev pub VetoStack : Type 0
VetoStack = Layered LevelFilter (Layered MuteVeto Warned)

abbrev pub AbsentStack : Type 0
AbsentStack = Layered RecorderState (Layered (Option RecorderState) RegistryState)

abbrev pub Directed : Type 0
Directed = FilteredLayer RecorderState Setting

abbrev pub DirectivesStack : Type 0
DirectivesStack = Layered Directed (Layered RecorderState RegistryState)

abbrev pub UnderSetting : Directed → Form → Type 0
UnderSetting x = FilteredForm (id_of x) (settled_answers setting_answers (filter_of x)) (λ f. f ≡ leaf)

abbrev pub UnderLevel : Levelled → Form → Type 0
UnderLevel x = FilteredForm (id_of x) (settled_answers level_answers (filter_of x)) (λ f. f ≡ leaf)

abbrev pub UnderMute : FilteredLayer Levelled Mute → Form → Type 0
UnderMute x = FilteredForm (id_of x) (settled_answers (λ (f : Mute). mute_answers) (filter_of x)) (UnderLevel (layer_of x))

abbrev pub PairForm : Layered Levelled Levelled → Form → Type 0
PairForm x = PartsForm InPair (UnderLevel (outer_of x)) (UnderLevel (inner_of x))

-- a registry of which filters alone are others
pub registry_then : (s u t : RegistryState) (n : ℕ) → s ≡ u → t ≡ record s { filters = t.filters } → t.filters ≡ n → t ≡ record u { filters = n }
registry_then s u t n same alone next = alone ∙ (λ i. record (same i) { filters = next i })

-- where the registry handed out no filter more, nothing changed
pub as_before : {S : Type 0} (registry : S → RegistryState) (with_registry : S → RegistryState → S) (own : (x : S) → with_registry x (registry x) ≡ x) (s t : S)
    → t ≡ with_registry s (record (registry s) { filters = (registry t).filters }) → (registry t).filters ≡ (registry s).filters → t ≡ s
as_before registry with_registry own s t alone same = alone ∙ (λ i. with_registry s (record (registry s) { filters = same i })) ∙ own s

-- the forms without numbers
abbrev level_form : LevelFilter → Form
level_form level = Filtered None (level_answers level) leaf

abbrev setting_form : Form
setting_form = Filtered None (setting_answers (Level TRACE)) leaf

abbrev pair_form : Form
pair_form = Parts InPair (level_form INFO) (level_form TRACE)

abbrev mute_form : Form
mute_form = Filtered None mute_answers (level_form INFO)

under_level : (u : Levelled) (layer : RecorderState) (level : LevelFilter) → IsUnnumbered u layer level → UnderLevel u (level_form level)
under_level u layer level h = (h.id, ap level_answers (sym h.own), refl)

begins_under : {F : Type 0} (u x : FilteredLayer RecorderState F) (layer : RecorderState) (own : F) (n : ℕ) → IsUnnumbered u layer own
    → layer ≡ new_recorder → (filter_of x ≡ filter_of u) × (layer_of x ≡ layer_of u) → IsNumber (id_of x) (Some n) → BeginsUnder n own x
begins_under u x layer own n h begins attached number = record { number = number; filter = attached.0 ∙ h.own; recorder = attached.1 ∙ h.inner ∙ begins }

-- so many filters were handed out, and these leave room for so many more
pub room_after : {n taken : ℕ} (more : ℕ) → n ≡ taken → taken + more ≤ LIMIT → n + more ≤ LIMIT
room_after more same room = subst (λ k. k + more ≤ LIMIT) (sym same) room

-- there is room for what takes no number
pub no_more : {n taken : ℕ} → n ≡ taken → taken ≤ LIMIT → n + 0 ≤ LIMIT
no_more same room = subst (λ k. k + 0 ≤ LIMIT) (sym same) (omega (arith, room))

-- ---- pair

module _ (limits : Limits) (p : Layered Levelled Levelled) (a b : RecorderState)
    (s : RegistryState) (first : s ≡ new_registry limits) (inner : IsUnnumbered (inner_of p) a TRACE) (outer : IsUnnumbered (outer_of p) b INFO) where
  pair_has : PairForm p pair_form
  pair_has = (refl, under_level (outer_of p) b INFO outer, under_level (inner_of p) a TRACE inner)

  pub pair_has_room : HasRoom (λ (r : RegistryState). r) PairForm p s
  pair_has_room = record { form = pair_form; has = pair_has; room = room_after 2 (ap (λ (r : RegistryState). r.filters) first) (omega (arith)) }

  pub begins_pair : (x : Layered (Layered Levelled Levelled) RegistryState)
      → a ≡ new_recorder → b ≡ new_recorder → inner_of x ≡ record s { filters = (inner_of x).filters }
      → ((f : Form) → PairForm p f → PairForm (outer_of x) (numbered f s.filters).0)
      → ((f : Form) → PairForm p f → (inner_of x).filters ≡ (numbered f s.filters).1)
      → (filter_of (outer_of (outer_of x)) ≡ filter_of (outer_of p)) × (layer_of (outer_of (outer_of x)) ≡ layer_of (outer_of p))
      → (filter_of (inner_of (outer_of x)) ≡ filter_of (inner_of p)) × (layer_of (inner_of (outer_of x)) ≡ layer_of (inner_of p)) → BeginsPair limits x
  begins_pair x a_new b_new alone form next b_attached a_attached =
      let has : PairForm (outer_of x) (numbered pair_form 0).0 =
      subst (λ (r : RegistryState). PairForm (outer_of x) (numbered pair_form r.filters).0) first (form pair_form pair_has) in
      let two : (inner_of x).filters ≡ (numbered pair_form 0).1 =
      next pair_form pair_has ∙ ap (λ (r : RegistryState). (numbered pair_form r.filters).1) first in
      record {
        a = begins_under (inner_of p) (inner_of (outer_of x)) a TRACE 1 inner a_new a_attached has.2.0;
        b = begins_under (outer_of p) (outer_of (outer_of x)) b INFO 0 outer b_new b_attached has.1.0;
        registry = registry_then s (new_registry limits) (inner_of x) 2 first alone two;
      }

-- the stack `plain` handed out no filter
none_yet : {limits : Limits} (s : Layered RecorderState RegistryState) → BeginsPlain limits s → (inner_of s).filters ≡ 0
none_yet s begun = ap (λ (r : RegistryState). r.filters) begun.registry

-- ---- nested

module _ {limits : Limits} (u : FilteredLayer Levelled Mute) (l : Levelled) (deep : RecorderState) (mute : Mute)
    (s : Layered RecorderState RegistryState) (begun : BeginsPlain limits s) (inside : IsUnnumbered l deep INFO) (outside : IsUnnumbered u l mute) where
  inner_one : IsUnnumbered (layer_of u) deep INFO
  inner_one = subst (λ (k : Levelled). IsUnnumbered k deep INFO) (sym outside.inner) inside

  mute_has : UnderMute u mute_form
  mute_has = (outside.id, refl, under_level (layer_of u) deep INFO inner_one)

  pub nested_has_room : HasRoom (λ (r : Layered RecorderState RegistryState). inner_of r) UnderMute u s
  nested_has_room = record { form = mute_form; has = mute_has; room = room_after 2 (none_yet s begun) (omega (arith)) }

  pub begins_nested : (x : Layered (FilteredLayer Levelled Mute) (Layered RecorderState RegistryState))
      → deep ≡ new_recorder → inner_of x ≡ record s { inner = record (inner_of s) { filters = (inner_of (inner_of x)).filters } }
      → ((f : Form) → UnderMute u f → UnderMute (outer_of x) (numbered f (inner_of s).filters).0)
      → ((f : Form) → UnderMute u f → (inner_of (inner_of x)).filters ≡ (numbered f (inner_of s).filters).1)
      → (filter_of (layer_of (outer_of x)) ≡ filter_of (layer_of u)) × (layer_of (layer_of (outer_of x)) ≡ layer_of (layer_of u)) → BeginsNested limits x
  begins_nested x deep_new alone form next attached =
      let has : UnderMute (outer_of x) (numbered mute_form 0).0 =
      subst (λ n. UnderMute (outer_of x) (numbered mute_form n).0) (none_yet s begun) (form mute_form mute_has) in
      let two : (inner_of (inner_of x)).filters ≡ (numbered mute_form 0).1 = next mute_form mute_has ∙ ap (λ n. (numbered mute_form n).1) (none_yet s begun) in
      record {
        base = ap (λ (r : Layered RecorderState RegistryState). outer_of r) alone ∙ begun.base;
        number = has.0;
        deep = begins_under (layer_of u) (layer_of (outer_of x)) deep INFO 1 inner_one deep_new attached has.2.0;
        registry = registry_then (inner_of s)
            (new_registry limits) (inner_of (inner_of x)) 2 begun.registry (ap (λ (r : Layered RecorderState RegistryState). inner_of r) alone) two;
      }

-- ---- veto

module _ {limits : Limits}
    (l : Levelled) (warn : RecorderState) (s : Layered RecorderState RegistryState) (begun : BeginsPlain limits s) (outside : IsUnnumbered l warn WARN) where
  pub warned_has_room : HasRoom (λ (r : Layered RecorderState RegistryState). inner_of r) UnderLevel l s
  warned_has_room = record { form = level_form WARN; has = under_level l warn WARN outside; room = room_after 1 (none_yet s begun) (omega (arith)) }

  pub begins_warned : (x : Warned) → warn ≡ new_recorder → inner_of x ≡ record s { inner = record (inner_of s) { filters = (inner_of (inner_of x)).filters } }
      → ((f : Form) → UnderLevel l f → UnderLevel (outer_of x) (numbered f (inner_of s).filters).0)
      → ((f : Form) → UnderLevel l f → (inner_of (inner_of x)).filters ≡ (numbered f (inner_of s).filters).1)
      → (filter_of (outer_of x) ≡ filter_of l) × (layer_of (outer_of x) ≡ layer_of l) → BeginsWarned limits x
  begins_warned x warn_new alone form next attached =
      let has : UnderLevel (outer_of x) (numbered (level_form WARN) 0).0 =
      subst (λ n. UnderLevel (outer_of x) (numbered (level_form WARN) n).0) (none_yet s begun) (form (level_form WARN) (under_level l warn WARN outside)) in
      let one : (inner_of (inner_of x)).filters ≡ (numbered (level_form WARN) 0).1 =
      next (level_form WARN) (under_level l warn WARN outside) ∙ ap (λ n. (numbered (level_form WARN) n).1) (none_yet s begun) in
      record {
        base = ap (λ (r : Layered RecorderState RegistryState). outer_of r) alone ∙ begun.base;
        warn = begins_under l (outer_of x) warn WARN 0 outside warn_new attached has.0;
        registry = registry_then (inner_of s)
            (new_registry limits) (inner_of (inner_of x)) 1 begun.registry (ap (λ (r : Layered RecorderState RegistryState). inner_of r) alone) one;
      }

-- the recorders of the stack `veto` took one number, so there is room for what needs none
one_number : {limits : Limits} (w : Warned) → BeginsWarned limits w → (inner_of (inner_of w)).filters ≡ 1
one_number w begun = ap (λ (r : RegistryState). r.filters) begun.registry

pub few_filters : {limits : Limits} (w : Warned) → BeginsWarned limits w → (inner_of (inner_of w)).filters ≤ LIMIT
few_filters w begun = subst (λ k. k ≤ LIMIT) (sym (one_number w begun)) (omega (arith))

-- ---- directives

module _ {limits : Limits} (u : Directed) (chosen : RecorderState)
    (s : Layered RecorderState RegistryState) (begun : BeginsPlain limits s) (outside : IsUnnumbered u chosen (Level TRACE)) where
  setting_has : UnderSetting u setting_form
  setting_has = (outside.id, ap setting_answers (sym outside.own), refl)

  pub directives_has_room : HasRoom (λ (r : Layered RecorderState RegistryState). inner_of r) UnderSetting u s
  directives_has_room = record { form = setting_form; has = setting_has; room = room_after 1 (none_yet s begun) (omega (arith)) }

  pub begins_directives : (x : DirectivesStack)
      → chosen ≡ new_recorder → inner_of x ≡ record s { inner = record (inner_of s) { filters = (inner_of (inner_of x)).filters } }
      → ((f : Form) → UnderSetting u f → UnderSetting (outer_of x) (numbered f (inner_of s).filters).0)
      → ((f : Form) → UnderSetting u f → (inner_of (inner_of x)).filters ≡ (numbered f (inner_of s).filters).1)
      → (filter_of (outer_of x) ≡ filter_of u) × (layer_of (outer_of x) ≡ layer_of u) → BeginsDirectives limits x
  begins_directives x chosen_new alone form next attached =
      let has : UnderSetting (outer_of x) (numbered setting_form 0).0 =
      subst (λ n. UnderSetting (outer_of x) (numbered setting_form n).0) (none_yet s begun) (form setting_form setting_has) in
      let one : (inner_of (inner_of x)).filters ≡ (numbered setting_form 0).1 =
      next setting_form setting_has ∙ ap (λ n. (numbered setting_form n).1) (none_yet s begun) in
      record {
        base = ap (λ (r : Layered RecorderState RegistryState). outer_of r) alone ∙ begun.base;
        chosen = begins_under u (outer_of x) chosen (Level TRACE) 0 outside chosen_new attached has.0;
        registry = registry_then (inner_of s)
            (new_registry limits) (inner_of (inner_of x)) 1 begun.registry (ap (λ (r : Layered RecorderState RegistryState). inner_of r) alone) one;
      }

-- ---- absent

pub begins_absent : (limits : Limits) (b : Layered (Option RecorderState) RegistryState)
    → outer_of b ≡ None → inner_of b ≡ new_registry limits → (x : AbsentStack) → outer_of x ≡ new_recorder
    → inner_of x ≡ record b { inner = record (inner_of b) { filters = (inner_of (inner_of x)).filters } }
    → (inner_of (inner_of x)).filters ≡ (inner_of b).filters → BeginsAbsent limits x
begins_absent limits b missing first x base alone none =
    let same = as_before (λ (z : Layered (Option RecorderState) RegistryState). inner_of z) (λ z r. with_inner z r) (λ z. refl) b (inner_of x) alone none in
    record {
      base = base;
      absent = ap (λ (z : Layered (Option RecorderState) RegistryState). outer_of z) same ∙ missing;
      registry = ap (λ (z : Layered (Option RecorderState) RegistryState). inner_of z) same ∙ first;
    }
