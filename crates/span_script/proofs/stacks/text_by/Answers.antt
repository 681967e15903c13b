use Rattle.std.proofs.Common.{◌≡◌, ◌∷◌, [], List, codes, refl, sym, ap, subst, ◌∙◌, string_bytes}
use Rattle.span_dispatch.specs.Recorder.{RecorderState, recorder_steps}
use Rattle.span_dispatch.specs.Serve.{kept_by, stack_of}
use Rattle.span_dispatch.specs.declared.recorded.Recorded.{Recorded}
use Rattle.span_filters.specs.Level.{level_answers}
use Rattle.span_filters.specs.Setting.{setting_answers}
use Rattle.span_stacks.specs.Filtered.{layer_of}
use Rattle.span_stacks.specs.Layered.{inner_of, outer_of}
use Rattle.span_registry.specs.Reload.{unreloaded}
use Rattle.span_registry.specs.Position.{Here, Inner, Outer, Under}
use Rattle.span_script.proofs.Gives.{gives, one_ok}
use Rattle.span_script.proofs.Honest.{honest_absent, honest_directives, honest_nested, honest_pair, honest_plain, honest_veto, level_set, mute_kept}
use Rattle.span_script.proofs.Honest.{setting_set, stays_absent}
use Rattle.span_script.proofs.Honest.{stays_directives, stays_nested}
use Rattle.span_script.proofs.Honest.{stays_pair, stays_plain, stays_veto, used_absent, used_directives, used_nested, used_pair, used_veto}
use Rattle.span_script.proofs.Steady.{all_kept, ready_at_first, run_of, steady_absent, steady_pair, steady_recorder, steady_registry, steady_stack}
use Rattle.span_script.proofs.Steady.{steady_under, steady_veto}
use Rattle.span_script.specs.Mute.{mute_answers}
use Rattle.span_script.specs.Printed.{Gives}
use Rattle.span_script.specs.Stacks.{form_of, leaf, start_of}
use Rattle.span_script.specs.declared.mute.Mute.{Mute}
use Rattle.span_script.specs.declared.mute_veto.MuteVeto.{MuteVeto}
use Rattle.span_script.specs.Script.{requests_of}
use Rattle.span_script.specs.declared.stack_name.StackName.TheVariants.{Absent, Directives, Nested, Pair, Plain, Veto}
use Rattle.span_script.proofs.stacks.text_by.Goals as goal

pub returns-in-Plain-clause-alone : goal.returns-in-Plain-clause-alone
returns-in-Plain-clause-alone g c =
    let x = c.plain.result in
    let script = c.args.script.now in
    one_ok c.text_of_stack.result _ _ c.text_of_stack.ensures.alone
    (λ r h alone.
    let p = h alone in
    let u = p.served in
    let begun = stack_of u.begun in
    let y = stack_of p.given.1 in
    let steady = steady_stack steady_recorder steady_registry in
    let served = u.served (ready_at_first steady inner_of (form_of Plain) c.args.limits Plain x (stays_plain x) c.plain.ensures.registry honest_plain) in
    let run = run_of steady
    inner_of (form_of Plain) u.begun p.given.1 (start_of c.args.limits Plain) (stays_plain begun) (u.same ∙ c.plain.ensures.registry) u.kept served in
    let first = all_kept (outer_of begun) (outer_of y) _ (served.each (Outer Here)) (u.in_use.0 ∙ c.plain.ensures.base) p.kept in
    subst (λ name. Gives c.args.limits name script (string_bytes r.0)) (sym c.in-Plain.is ∙ c.stack.ensures)
    (gives c.args.limits Plain script (requests_of script) p.given.0.items p.given.0.items ((codes "base", (outer_of y).notices) ∷ []) _ (string_bytes r.0)
    (served.made, kept_by p.given.1, inner_of y, run, refl) refl refl (ap (λ (ns : List Recorded). ns ∷ []) first) refl p.printed))

pub returns-in-Pair-clause-alone : goal.returns-in-Pair-clause-alone
returns-in-Pair-clause-alone g c =
    let x = c.pair.result in
    let script = c.args.script.now in
    one_ok c.text_of_stack-in-Pair.result _ _ c.text_of_stack-in-Pair.ensures.alone
    (λ r h alone.
    let p = h alone in
    let u = p.served in
    let begun = stack_of u.begun in
    let y = stack_of p.given.1 in
    let steady = steady_stack (steady_pair (steady_under 0 level_answers level_set steady_recorder) (steady_under 1 level_answers level_set steady_recorder))
    steady_registry in
    let begins = used_pair x begun u.in_use.0.0 u.in_use.0.1 u.in_use.1 c.pair.ensures in
    let served =
    u.served (ready_at_first steady inner_of (form_of Pair) c.args.limits Pair x (stays_pair x c.pair.ensures) c.pair.ensures.registry honest_pair) in
    let run = run_of steady inner_of (form_of Pair) u.begun p.given.1 (start_of c.args.limits Pair) (stays_pair begun begins) (begins.registry) u.kept served in
    let first = all_kept (layer_of (inner_of (outer_of begun)))
    (layer_of (inner_of (outer_of y))) _ (served.each (Outer (Inner (Under Here)))) (begins.a.recorder) p.kept.0 in
    let second = all_kept (layer_of (outer_of (outer_of begun)))
    (layer_of (outer_of (outer_of y))) _ (served.each (Outer (Outer (Under Here)))) (begins.b.recorder) p.kept.1 in
    subst (λ name. Gives c.args.limits name script (string_bytes r.0)) (sym c.in-Pair.is ∙ c.stack.ensures)
    (gives c.args.limits Pair script (requests_of script) p.given.0.items p.given.0.items
    ((codes "a", (layer_of (inner_of (outer_of y))).notices) ∷ (codes "b", (layer_of (outer_of (outer_of y))).notices) ∷ []) _ (string_bytes r.0)
    (served.made, kept_by p.given.1, inner_of y, run, refl) refl refl (λ i. first i ∷ second i ∷ []) refl p.printed))

pub returns-in-Nested-clause-alone : goal.returns-in-Nested-clause-alone
returns-in-Nested-clause-alone g c =
    let x = c.nested.result in
    let script = c.args.script.now in
    one_ok c.text_of_stack-in-Nested.result _ _ c.text_of_stack-in-Nested.ensures.alone
    (λ r h alone.
    let p = h alone in
    let u = p.served in
    let begun = stack_of u.begun in
    let y = stack_of p.given.1 in
    let steady = steady_stack (steady_under 0 (λ (f : Mute). mute_answers) mute_kept (steady_under 1 level_answers level_set steady_recorder))
    (steady_stack steady_recorder steady_registry) in
    let begins = used_nested x begun u.in_use.0.0 u.in_use.0.2 u.in_use.1.0 u.in_use.1.1 c.nested.ensures in
    let served = u.served (ready_at_first steady
    (λ z. inner_of (inner_of z)) (form_of Nested) c.args.limits Nested x (stays_nested x c.nested.ensures) c.nested.ensures.registry honest_nested) in
    let run = run_of steady (λ z. inner_of (inner_of z))
    (form_of Nested) u.begun p.given.1 (start_of c.args.limits Nested) (stays_nested begun begins) (begins.registry) u.kept served in
    let first = all_kept (outer_of (inner_of begun)) (outer_of (inner_of y)) _ (served.each (Inner (Outer Here))) (begins.base) p.kept.0 in
    let second = all_kept (layer_of (layer_of (outer_of begun)))
    (layer_of (layer_of (outer_of y))) _ (served.each (Outer (Under (Under Here)))) (begins.deep.recorder) p.kept.1 in
    subst (λ name. Gives c.args.limits name script (string_bytes r.0)) (sym c.in-Nested.is ∙ c.stack.ensures)
    (gives c.args.limits Nested script (requests_of script) p.given.0.items
    p.given.0.items ((codes "base", (outer_of (inner_of y)).notices) ∷ (codes "deep", (layer_of (layer_of (outer_of y))).notices) ∷ []) _ (string_bytes r.0)
    (served.made, kept_by p.given.1, inner_of (inner_of y), run, refl) refl refl (λ i. first i ∷ second i ∷ []) refl p.printed))

pub returns-in-Veto-clause-alone : goal.returns-in-Veto-clause-alone
returns-in-Veto-clause-alone g c =
    let x = c.veto.result in
    let script = c.args.script.now in
    one_ok c.text_of_stack-in-Veto.result _ _ c.text_of_stack-in-Veto.ensures.alone
    (λ r h alone.
    let p = h alone in
    let u = p.served in
    let begun = stack_of u.begun in
    let y = stack_of p.given.1 in
    let steady = steady_stack (steady_veto level_answers) (steady_stack (steady_veto (λ (m : MuteVeto). mute_answers))
    (steady_stack (steady_under 0 level_answers level_set steady_recorder) (steady_stack steady_recorder steady_registry))) in
    let begins = used_veto x begun u.in_use.0 u.in_use.1.1.0 u.in_use.1.1.1.0 u.in_use.1.1.1.1 c.veto.ensures in
    let served = u.served (ready_at_first steady (λ z. inner_of (inner_of (inner_of (inner_of z))))
    (form_of Veto) c.args.limits Veto x (stays_veto x c.veto.ensures) c.veto.ensures.below.registry honest_veto) in
    let run = run_of steady (λ z. inner_of (inner_of (inner_of (inner_of z))))
    (form_of Veto) u.begun p.given.1 (start_of c.args.limits Veto) (stays_veto begun begins) (begins.below.registry) u.kept served in
    let first = all_kept (outer_of (inner_of (inner_of (inner_of begun))))
    (outer_of (inner_of (inner_of (inner_of y)))) _ (served.each (Inner (Inner (Inner (Outer Here))))) (begins.below.base) p.kept.0 in
    let second = all_kept (layer_of (outer_of (inner_of (inner_of begun))))
    (layer_of (outer_of (inner_of (inner_of y)))) _ (served.each (Inner (Inner (Outer (Under Here))))) (begins.below.warn.recorder) p.kept.1 in
    subst (λ name. Gives c.args.limits name script (string_bytes r.0)) (sym c.in-Veto.is ∙ c.stack.ensures)
    (gives c.args.limits Veto script (requests_of script) p.given.0.items p.given.0.items ((codes "base", (outer_of (inner_of (inner_of (inner_of y)))).notices)
    ∷ (codes "warn", (layer_of (outer_of (inner_of (inner_of y)))).notices) ∷ []) _ (string_bytes r.0)
    (served.made, kept_by p.given.1, inner_of (inner_of (inner_of (inner_of y))), run, refl) refl refl (λ i. first i ∷ second i ∷ []) refl p.printed))

pub returns-in-Absent-clause-alone : goal.returns-in-Absent-clause-alone
returns-in-Absent-clause-alone g c =
    let x = c.absent.result in
    let script = c.args.script.now in
    one_ok c.text_of_stack-in-Absent.result _ _ c.text_of_stack-in-Absent.ensures.alone
    (λ r h alone.
    let p = h alone in
    let u = p.served in
    let begun = stack_of u.begun in
    let y = stack_of p.given.1 in
    let steady = steady_stack steady_recorder (steady_stack (steady_absent (λ (r : RecorderState) f. f ≡ leaf) recorder_steps unreloaded) steady_registry) in
    let begins = used_absent x begun u.in_use.0 u.in_use.1.0 u.in_use.1.1 c.absent.ensures in
    let served = u.served (ready_at_first steady
    (λ z. inner_of (inner_of z)) (form_of Absent) c.args.limits Absent x (stays_absent x c.absent.ensures) c.absent.ensures.registry honest_absent) in
    let run = run_of steady (λ z. inner_of (inner_of z))
    (form_of Absent) u.begun p.given.1 (start_of c.args.limits Absent) (stays_absent begun begins) (begins.registry) u.kept served in
    let first = all_kept (outer_of begun) (outer_of y) _ (served.each (Outer Here)) (begins.base) p.kept in
    subst (λ name. Gives c.args.limits name script (string_bytes r.0)) (sym c.in-Absent.is ∙ c.stack.ensures)
    (gives c.args.limits Absent script (requests_of script) p.given.0.items p.given.0.items ((codes "base", (outer_of y).notices) ∷ []) _ (string_bytes r.0)
    (served.made, kept_by p.given.1, inner_of (inner_of y), run, refl) refl refl (ap (λ (ns : List Recorded). ns ∷ []) first) refl p.printed))

pub returns-in-Directives-clause-alone : goal.returns-in-Directives-clause-alone
returns-in-Directives-clause-alone g c =
    let x = c.directives.result in
    let script = c.args.script.now in
    one_ok c.text_of_stack-in-Directives.result _ _ c.text_of_stack-in-Directives.ensures.alone
    (λ r h alone.
    let p = h alone in
    let u = p.served in
    let begun = stack_of u.begun in
    let y = stack_of p.given.1 in
    let steady = steady_stack (steady_under 0 setting_answers setting_set steady_recorder)
    (steady_stack steady_recorder steady_registry) in
    let begins = used_directives x begun u.in_use.0 u.in_use.1.0 u.in_use.1.1 c.directives.ensures in
    let served = u.served (ready_at_first steady
    (λ z. inner_of (inner_of z)) (form_of Directives)
    c.args.limits Directives x (stays_directives x c.directives.ensures) c.directives.ensures.registry honest_directives) in
    let run = run_of steady (λ z. inner_of (inner_of z))
    (form_of Directives) u.begun p.given.1 (start_of c.args.limits Directives) (stays_directives begun begins) (begins.registry) u.kept served in
    let first = all_kept (outer_of (inner_of begun)) (outer_of (inner_of y)) _ (served.each (Inner (Outer Here))) (begins.base) p.kept.0 in
    let second = all_kept (layer_of (outer_of begun))
    (layer_of (outer_of y)) _ (served.each (Outer (Under Here))) (begins.chosen.recorder) p.kept.1 in
    subst (λ name. Gives c.args.limits name script (string_bytes r.0)) (sym c.in-Directives.is ∙ c.stack.ensures)
    (gives c.args.limits Directives script (requests_of script) p.given.0.items
    p.given.0.items ((codes "base", (outer_of (inner_of y)).notices) ∷ (codes "chosen", (layer_of (outer_of y)).notices) ∷ []) _ (string_bytes r.0)
    (served.made, kept_by p.given.1, inner_of (inner_of y), run, refl) refl refl (λ i. first i ∷ second i ∷ []) refl p.printed))
