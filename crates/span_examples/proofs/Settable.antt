-- A recorder under a level that is set: the level is always taken, whatever was served before.
use Rattle.std.proofs.Common.{◌≡◌, ◌∙◌, false, true, Some, ap, subst, sym}
use Rattle.std.proofs.lemmas.Bool.{true≢false}
use Rattle.std.specs.Prelude.{if◌then◌else◌, ◌||◌}
use Rattle.span_core.specs.Filters.{FilterSet, has_filter}
use Rattle.span_core.specs.declared.error.TraceError.TheVariants.{NotSettable}
use Rattle.span_core.specs.declared.error.TraceError.{TraceError}
use Rattle.span_core.specs.declared.level.LevelFilter.{LevelFilter}
use Rattle.span_dispatch.specs.Serve.{IsReady, IsReadyAfter, IsReadyBy, stack_of}
use Rattle.span_dispatch.specs.declared.dispatch.Dispatch.{Dispatch}
use Rattle.span_dispatch.specs.declared.request.Answer.TheVariants.{Refused}
use Rattle.span_filters.specs.Level.{level_taken}
use Rattle.span_stacks.specs.Filtered.{IsNumber, filter_of, id_of, layer_of}
use Rattle.span_stacks.specs.Layered.{inner_of, outer_of, with_inner}
use Rattle.span_stacks.specs.Reload.{ReloadsIf}
use Rattle.span_registry.specs.Conducts.{filter_numbered}
use Rattle.span_registry.specs.KeptForm.{KeepsForm}
use Rattle.span_registry.specs.Form.{Terminal, Filtered, Form, Leaf, Parts}
use Rattle.span_registry.specs.Reload.{KeepsRules, takes_setting, unreloaded}
use Rattle.span_registry.specs.laws.Form.{kept_rules, rules_again}
use Rattle.span_examples.proofs.Recorded.{HasForm, form_of, recorded_levels, recorded_steps}
use Rattle.span_examples.specs.Dispatches.{Recorded}
use Rattle.span_examples.specs.Reload.{IsSetTo}
use Rattle.span_targets.specs.declared.setting.Setting.TheVariants.{Level}

abbrev ReadyBy : Form → Dispatch Recorded → Type 0
ReadyBy f d = IsReadyBy inner_of with_inner HasForm recorded_steps recorded_levels f d

abbrev ReadyAfter : (Form → Form → Type 0) → Form → Dispatch Recorded → Type 0
ReadyAfter keeps f d = IsReadyAfter inner_of with_inner HasForm recorded_steps recorded_levels keeps f d

-- ready, by a form in which its filter has the number 0
pub record IsReadyFirst (d : Dispatch Recorded) : Type 0 where
  pub level : LevelFilter
  pub form : Form
  pub ready : ReadyBy form d
  pub rules : KeepsRules (form_of level 0) form

-- so is a dispatcher that such a stack was put in
pub ready_first : (level : LevelFilter) (x : Recorded) (d : Dispatch Recorded)
    → IsReady inner_of with_inner HasForm recorded_steps recorded_levels (form_of level 0) x
    → ((f : Form) → IsReady inner_of with_inner HasForm recorded_steps recorded_levels f x → ReadyAfter KeepsForm f d) → IsReadyFirst d
ready_first level x d ready step =
    let r = step (form_of level 0) ready in record { level = level; form = r.0; ready = r.1; rules = kept_rules (form_of level 0) r.0 r.2 }

-- and so it stays, where what a form keeps includes its rules
pub ready_still : (keeps : Form → Form → Type 0) → ((f g : Form) → keeps f g → KeepsRules f g)
    → (d e : Dispatch Recorded) → IsReadyFirst d → ((f : Form) → ReadyBy f d → ReadyAfter keeps f e) → IsReadyFirst e
ready_still keeps rules d e h step =
    let r = step h.form h.ready in
    record { level = h.level; form = r.0; ready = r.1; rules = rules_again (form_of h.level 0) h.form r.0 h.rules (rules h.form r.0 r.2) }

-- its filter takes every level, and has the number 0
takes : (level l : LevelFilter) (x : Recorded) (f : Form)
    → KeepsRules (form_of level 0) f → HasForm x f → (takes_setting f 0 (Level l) ≡ true) × IsNumber (id_of (outer_of x)) (Some 0)
takes level l x (Parts k (Filtered m a g) i) keeps has = (
  λ j. (if filter_numbered (keeps.1.0 j) 0 then (has.1.1 j).takes (Level l) else takes_setting g 0 (Level l)) || takes_setting i 0 (Level l),
  subst (λ o. IsNumber (id_of (outer_of x)) o) keeps.1.0 has.1.0,
)
takes level l x (Parts k (Leaf still a) i) keeps has = absurd has.1
takes level l x (Parts k (Parts m o p) i) keeps has = absurd has.1
takes level l x (Parts k (Terminal v) i) keeps has = absurd has.1
takes level l x (Leaf still a) keeps has = absurd has
takes level l x (Filtered n a g) keeps has = absurd has
takes level l x (Terminal v) keeps has = absurd has

-- so it is never refused
pub never_refused : (d : Dispatch Recorded) (l : LevelFilter) → IsReadyFirst d → ((f : Form) → HasForm (stack_of d) f → false ≡ takes_setting f 0 (Level l)) → ⊥
never_refused d l h none =
    let taken = takes h.level l (stack_of d) h.form h.rules h.ready.stack.honest.has in
    true≢false (sym (none h.form h.ready.stack.honest.has ∙ taken.0))

-- and its level is set
pub is_set : (d e : Dispatch Recorded) (l : LevelFilter) → IsReadyFirst d → recorded_levels (stack_of d) 0 (Level l) (stack_of e) → IsSetTo l d e
is_set d e l h steps =
    let x = outer_of (stack_of d) in
    let y = outer_of (stack_of e) in
    let number = (takes h.level l (stack_of d) h.form h.rules h.ready.stack.honest.has).1 in
    let has : has_filter (id_of x) 0 ≡ true = ap (λ (s : FilterSet). s 0) number.1 in
    let own = subst (λ b. ReloadsIf level_taken unreloaded b (filter_of x) (layer_of x) 0 (Level l) (filter_of y) (layer_of y)) has steps.0.1 in
    record { now = own.0; kept = own.1; spans = steps.1 }
