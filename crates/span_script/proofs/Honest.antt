-- The stacks are honest, and stay so.
use Rattle.std.proofs.Common.{◌≡◌, inl, inr, ℕ, ◌<◌, ◌||◌, ◌==◌, Bool, true, false, Some, arith, refl, sym, ap, subst, ◌∙◌}
use Rattle.std.specs.Prelude.{IsTrue}
use Rattle.std.proofs.lemmas.Bool.{eqb-true, false_from_ne_true, false≢true}
use Rattle.span_core.specs.declared.level.LevelFilter.{LevelFilter}
use Rattle.span_core.specs.declared.level.TheConstants.LevelFilter.{INFO, TRACE, WARN}
use Rattle.span_dispatch.specs.Recorder.{RecorderState}
use Rattle.span_filters.specs.Filter.{unreloaded}
use Rattle.span_filters.specs.Level.{level_answers, level_taken}
use Rattle.span_filters.specs.Setting.{setting_answers, setting_taken}
use Rattle.span_filters.specs.laws.Level.{level_honest}
use Rattle.span_filters.specs.laws.Setting.{setting_honest}
use Rattle.span_stacks.specs.Filtered.{IsNumber, filter_of, id_of, layer_of}
use Rattle.span_stacks.specs.Honest.{IsBuiltLayer, IsHonestStack}
use Rattle.span_stacks.specs.Layered.{inner_of, outer_of}
use Rattle.span_layers.specs.Observe.{open_answers}
use Rattle.span_layers.specs.Optional.{OptionGoes}
use Rattle.span_stacks.specs.declared.filtered.Filtered.{Filtered as FilteredLayer}
use Rattle.span_stacks.specs.declared.layered.Layered.{Layered}
use Rattle.span_layers.specs.laws.Leaf.{open_honest}
use Rattle.span_store.specs.Store.{RegistryState}
use Rattle.span_store.specs.declared.limits.Limits.{Limits}
use Rattle.span_registry.specs.KeptForm.{RefusesNothing}
use Rattle.span_registry.specs.Form.{Terminal, Base, Filtered, Form, InPair, Leaf, OnSubscriber}
use Rattle.span_script.proofs.Begins.{AbsentStack, Directed, DirectivesStack, Levelled, VetoStack, Warned}
use Rattle.span_script.proofs.Steady.{IsBySetting, StayBoth, StaysAbsent, StaysBase, StaysLeaf, StaysUnder, StaysVeto, still_absent}
use Rattle.span_script.specs.Mute.{mute_answers}
use Rattle.span_script.specs.laws.Mute.{mute_honest}
use Rattle.span_script.specs.Stacks.{BeginsAbsent, BeginsDirectives, BeginsNested, BeginsPair, BeginsUnder, BeginsVeto, BeginsWarned, form_of, leaf}
use Rattle.span_script.specs.declared.mute.Mute.{Mute}
use Rattle.span_script.specs.declared.mute_veto.MuteVeto.{MuteVeto}
use Rattle.span_script.specs.declared.stack_name.StackName.TheVariants.{Absent, Directives as Chosen, Nested, Pair, Plain, Veto}
use Rattle.span_targets.specs.declared.setting.Setting.{Setting}
use Rattle.span_targets.specs.declared.setting.Setting.TheVariants.{Directives, Level}

quiet : RefusesNothing open_answers
quiet = record { enabled = λ m v. refl; event = λ e v. refl }

open_layer : {within : Bool} → IsBuiltLayer within (Leaf true open_answers)
open_layer = (refl, open_honest, λ t. quiet)

-- within no filter and no list a leaf may refuse
outside : {A : Type 0} → IsTrue false → A
outside t = absurd (false≢true t)

pub honest_plain : IsHonestStack (form_of Plain) 0
honest_plain = record {
  numbers = record { distinct = (tt, tt, λ k h. refl); handed_out = λ k h. absurd (false≢true h) };
  built = (inr open_layer, tt);
}

either : (a b : Bool) {A : Type 0} → (a ≡ true → A) → (b ≡ true → A) → (a || b) ≡ true → A
either true b f g h = f refl
either false b f g h = g h

is_one : (k n : ℕ) → ((k == n) || false) ≡ true → k ≡ n
is_one k n h = either (k == n) false (λ e. eqb-true k n e) (λ e. absurd (false≢true e)) h

-- the two numbers are each another
apart : (k : ℕ) → ((k == 0) || false) ≡ true → ((k == 1) || false) ≡ false
apart k h = false_from_ne_true ((k == 1) || false) (λ g. let x = is_one k 0 h in let y = is_one k 1 g in omega (arith, x, y))

none_below_two : (k : ℕ) → k ≡ 0 → k < 2
none_below_two k x = omega (arith, x)

one_below_two : (k : ℕ) → k ≡ 1 → k < 2
one_below_two k x = omega (arith, x)

first_two : (k : ℕ) → ((((k == 0) || false) || ((k == 1) || false)) || false) ≡ true → k < 2
first_two k h =
    either (((k == 0) || false) || ((k == 1) || false)) false
    (λ e. either ((k == 0) || false) ((k == 1) || false) (λ f. none_below_two k (is_one k 0 f)) (λ f. one_below_two k (is_one k 1 f)) e)
    (λ e. absurd (false≢true e)) h

both_first : (k : ℕ) → (((k == 0) || ((k == 1) || false)) || (false || false)) ≡ true → k < 2
both_first k h =
    either ((k == 0) || ((k == 1) || false)) (false || false)
    (λ e. either (k == 0) ((k == 1) || false) (λ f. none_below_two k (eqb-true k 0 f)) (λ f. one_below_two k (is_one k 1 f)) e) (λ e. absurd (false≢true e)) h

pub honest_pair : IsHonestStack (form_of Pair) 2
honest_pair = record {
  numbers = record { distinct = (((refl, tt), (refl, tt), apart), tt, λ k h. refl); handed_out = first_two };
  built = (inr ((level_honest INFO, open_layer), (level_honest TRACE, open_layer)), tt);
}

pub honest_nested : IsHonestStack (form_of Nested) 2
honest_nested = record {
  numbers = record { distinct = ((refl, (refl, tt)), (tt, tt, λ k h. refl), λ k h. refl); handed_out = both_first };
  built = (inr (mute_honest, (level_honest INFO, open_layer)), (inr open_layer, tt));
}

-- it has the one number
the_first : (k : ℕ) → (((k == 0) || false) || (false || false)) ≡ true → k < 1
the_first k h = either ((k == 0) || false) (false || false) (λ e. let x = is_one k 0 e in omega (arith, x)) (λ e. absurd (false≢true e)) h

pub honest_veto : IsHonestStack (form_of Veto) 1
honest_veto = record {
  numbers = record {
    distinct = (tt, (tt, ((refl, tt), (tt, tt, λ k h. refl), λ k h. refl), λ k h. absurd (false≢true h)), λ k h. absurd (false≢true h));
    handed_out = the_first;
  };
  built = (inr (refl, level_honest INFO, outside), (inr (refl, mute_honest, outside), (inr (level_honest WARN, open_layer), (inr open_layer, tt))));
}

pub honest_directives : IsHonestStack (form_of Chosen) 1
honest_directives = record {
  numbers = record { distinct = ((refl, tt), (tt, tt, λ k h. refl), λ k h. refl); handed_out = the_first };
  built = (inr (setting_honest (Level TRACE), open_layer), (inr open_layer, tt));
}

pub honest_absent : IsHonestStack (form_of Absent) 0
honest_absent = record {
  numbers = record { distinct = (tt, (tt, tt, λ k h. refl), λ k h. absurd (false≢true h)); handed_out = λ k h. absurd (false≢true h) };
  built = (inr open_layer, (inl refl, tt));
}

-- ---- what settles their forms

-- a level is set: the filter is by that level
pub level_set : IsBySetting level_answers level_taken
level_set a (Level l) b h = ap level_answers h
level_set a (Directives f) b h = ap level_answers h

-- none is set
pub mute_kept : IsBySetting (λ (f : Mute). mute_answers) unreloaded
mute_kept a (Level l) b h = refl
mute_kept a (Directives f) b h = refl

-- another is taken: the filter is by that
pub setting_set : IsBySetting setting_answers setting_taken
setting_set (Level k) (Level l) b h = ap setting_answers h
setting_set (Level k) (Directives f) b h = ap setting_answers h
setting_set (Directives g) (Level l) b h = ap setting_answers h
setting_set (Directives g) (Directives f) b h = ap setting_answers h

abbrev pub StaysLevelled : ℕ → Levelled → Form → Type 0
StaysLevelled n = StaysUnder n level_answers StaysLeaf

abbrev pub StaysPlain : Layered RecorderState RegistryState → Form → Type 0
StaysPlain = StayBoth OnSubscriber StaysLeaf StaysBase

abbrev pub StaysPair : Layered (Layered Levelled Levelled) RegistryState → Form → Type 0
StaysPair = StayBoth OnSubscriber (StayBoth InPair (StaysLevelled 0) (StaysLevelled 1)) StaysBase

abbrev pub StaysNested : Layered (FilteredLayer Levelled Mute) (Layered RecorderState RegistryState) → Form → Type 0
StaysNested = StayBoth OnSubscriber (StaysUnder 0 (λ (f : Mute). mute_answers) (StaysLevelled 1)) StaysPlain

abbrev pub StaysWarned : Warned → Form → Type 0
StaysWarned = StayBoth OnSubscriber (StaysLevelled 0) StaysPlain

abbrev pub StaysDirected : DirectivesStack → Form → Type 0
StaysDirected = StayBoth OnSubscriber (StaysUnder 0 setting_answers StaysLeaf) StaysPlain

abbrev pub StaysVetoed : VetoStack → Form → Type 0
StaysVetoed = StayBoth OnSubscriber (StaysVeto level_answers) (StayBoth OnSubscriber (StaysVeto (λ (m : MuteVeto). mute_answers)) StaysWarned)

abbrev pub StaysBeside : AbsentStack → Form → Type 0
StaysBeside = StayBoth OnSubscriber StaysLeaf (StayBoth OnSubscriber StaysAbsent StaysBase)

pub stays_plain : (x : Layered RecorderState RegistryState) → StaysPlain x (form_of Plain)
stays_plain x = record { over = leaf; below = Terminal Base; outer = refl; inner = refl; form = refl }

stays_levelled : (n : ℕ) (level : LevelFilter) (x : Levelled) → BeginsUnder n level x → StaysLevelled n x (Filtered (Some n) (level_answers level) leaf)
stays_levelled n level x h = record { number = h.number; below = leaf; inside = refl; form = ap (λ k. Filtered (Some n) (level_answers k) leaf) (sym h.filter) }

pub stays_pair : {limits : Limits} (x : Layered (Layered Levelled Levelled) RegistryState) → BeginsPair limits x → StaysPair x (form_of Pair)
stays_pair x h =
    let b = stays_levelled 0 INFO (outer_of (outer_of x)) h.b in
    let a = stays_levelled 1 TRACE (inner_of (outer_of x)) h.a in
    record { over = _; below = Terminal Base; outer = record { over = _; below = _; outer = b; inner = a; form = refl }; inner = refl; form = refl }

pub stays_nested : {limits : Limits} (x : Layered (FilteredLayer Levelled Mute) (Layered RecorderState RegistryState))
    → BeginsNested limits x → StaysNested x (form_of Nested)
stays_nested x h =
    let deep = stays_levelled 1 INFO (layer_of (outer_of x)) h.deep in
    record { over = _; below = _; outer = record { number = h.number; below = _; inside = deep; form = refl }; inner = stays_plain (inner_of x); form = refl }

pub stays_veto : {limits : Limits} (x : VetoStack) → BeginsVeto limits x → StaysVetoed x (form_of Veto)
stays_veto x h =
    let warned = inner_of (inner_of x) in
    let warn = stays_levelled 0 WARN (outer_of warned) h.below.warn in
    record {
      over = _;
      below = _;
      outer = ap (λ k. Leaf true (level_answers k)) (sym h.level);
      inner = record {
        over = _;
        below = _;
        outer = refl;
        inner = record { over = _; below = _; outer = warn; inner = stays_plain (inner_of warned); form = refl };
        form = refl;
      };
      form = refl;
    }

pub stays_absent : {limits : Limits} (x : AbsentStack) → BeginsAbsent limits x → StaysBeside x (form_of Absent)
stays_absent x h = record {
  over = leaf;
  below = _;
  outer = refl;
  inner = record { over = _; below = Terminal Base; outer = (h.absent, refl); inner = refl; form = refl };
  form = refl;
}

stays_set : (x : Directed) → BeginsUnder 0 (Level TRACE) x → StaysUnder 0 setting_answers StaysLeaf x (Filtered (Some 0) (setting_answers (Level TRACE)) leaf)
stays_set x h = record {
  number = h.number;
  below = leaf;
  inside = refl;
  form = ap (λ (s : Setting). Filtered (Some 0) (setting_answers s) leaf) (sym h.filter);
}

pub stays_directives : {limits : Limits} (x : DirectivesStack) → BeginsDirectives limits x → StaysDirected x (form_of Chosen)
stays_directives x h =
    let chosen = stays_set (outer_of x) h.chosen in
    record { over = _; below = _; outer = chosen; inner = stays_plain (inner_of x); form = refl }

-- ---- they begin as they were made, once they are in use

abbrev IsUsed : {F : Type 0} → FilteredLayer RecorderState F → FilteredLayer RecorderState F → Type 0
IsUsed x y = (id_of y ≡ id_of x) × (filter_of y ≡ filter_of x) × (layer_of y ≡ layer_of x)

used_levelled : {F : Type 0} (n : ℕ) (own : F) (x y : FilteredLayer RecorderState F) → IsUsed x y → BeginsUnder n own x → BeginsUnder n own y
used_levelled n own x y u h = record { number = subst (λ i. IsNumber i (Some n)) (sym u.0) h.number; filter = u.1 ∙ h.filter; recorder = u.2 ∙ h.recorder }

pub used_pair : {limits : Limits} (x y : Layered (Layered Levelled Levelled) RegistryState) → IsUsed (outer_of (outer_of x)) (outer_of (outer_of y))
    → IsUsed (inner_of (outer_of x)) (inner_of (outer_of y)) → inner_of y ≡ inner_of x → BeginsPair limits x → BeginsPair limits y
used_pair x y b a same h = record {
  a = used_levelled 1 TRACE (inner_of (outer_of x)) (inner_of (outer_of y)) a h.a;
  b = used_levelled 0 INFO (outer_of (outer_of x)) (outer_of (outer_of y)) b h.b;
  registry = same ∙ h.registry;
}

pub used_nested : {limits : Limits} (x y : Layered (FilteredLayer Levelled Mute) (Layered RecorderState RegistryState))
    → id_of (outer_of y) ≡ id_of (outer_of x) → IsUsed (layer_of (outer_of x)) (layer_of (outer_of y))
    → outer_of (inner_of y) ≡ outer_of (inner_of x) → inner_of (inner_of y) ≡ inner_of (inner_of x) → BeginsNested limits x → BeginsNested limits y
used_nested x y id deep base same h = record {
  base = base ∙ h.base;
  number = subst (λ i. IsNumber i (Some 0)) (sym id) h.number;
  deep = used_levelled 1 INFO (layer_of (outer_of x)) (layer_of (outer_of y)) deep h.deep;
  registry = same ∙ h.registry;
}

used_warned : {limits : Limits} (x y : Warned) → IsUsed (outer_of x) (outer_of y)
    → outer_of (inner_of y) ≡ outer_of (inner_of x) → inner_of (inner_of y) ≡ inner_of (inner_of x) → BeginsWarned limits x → BeginsWarned limits y
used_warned x y warn base same h =
    record { base = base ∙ h.base; warn = used_levelled 0 WARN (outer_of x) (outer_of y) warn h.warn; registry = same ∙ h.registry }

pub used_veto : {limits : Limits} (x y : VetoStack) → outer_of y ≡ outer_of x → IsUsed (outer_of (inner_of (inner_of x))) (outer_of (inner_of (inner_of y)))
    → outer_of (inner_of (inner_of (inner_of y))) ≡ outer_of (inner_of (inner_of (inner_of x)))
    → inner_of (inner_of (inner_of (inner_of y))) ≡ inner_of (inner_of (inner_of (inner_of x))) → BeginsVeto limits x → BeginsVeto limits y
used_veto x y level warn base same h =
    record { level = level ∙ h.level; below = used_warned (inner_of (inner_of x)) (inner_of (inner_of y)) warn base same h.below }

pub used_absent : {limits : Limits} (x y : AbsentStack) → outer_of y ≡ outer_of x → OptionGoes (λ (a b : RecorderState). b ≡ a)
    (outer_of (inner_of x)) (outer_of (inner_of y)) → inner_of (inner_of y) ≡ inner_of (inner_of x) → BeginsAbsent limits x → BeginsAbsent limits y
used_absent x y base none same h = record {
  base = base ∙ h.base;
  absent = still_absent (λ (a b : RecorderState). b ≡ a) (outer_of (inner_of x)) (outer_of (inner_of y)) none h.absent;
  registry = same ∙ h.registry;
}

pub used_directives : {limits : Limits} (x y : DirectivesStack) → IsUsed (outer_of x) (outer_of y)
    → outer_of (inner_of y) ≡ outer_of (inner_of x) → inner_of (inner_of y) ≡ inner_of (inner_of x) → BeginsDirectives limits x → BeginsDirectives limits y
used_directives x y chosen base same h = record {
  base = base ∙ h.base;
  chosen = used_levelled 0 (Level TRACE) (outer_of x) (outer_of y) chosen h.chosen;
  registry = same ∙ h.registry;
}
