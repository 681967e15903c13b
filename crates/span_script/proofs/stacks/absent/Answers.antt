use Rattle.std.proofs.Common.{◌≡◌, None, arith, refl, ap, ◌∙◌}
use Rattle.span_dispatch.specs.Recorder.{RecorderState}
use Rattle.span_stacks.specs.Layered.{outer_of}
use Rattle.span_store.specs.Store.{RegistryState}
use Rattle.span_registry.specs.Form.{Absent, Terminal}
use Rattle.span_script.specs.Stacks.{leaf}
use Rattle.span_script.proofs.Begins.{begins_absent, registry_then, room_after}
use Rattle.span_script.proofs.Steady.{still_absent}
use Rattle.span_script.proofs.stacks.absent.Goals as goal

pub put-below-requires-clause-room : goal.put-below-requires-clause-room
put-below-requires-clause-room c =
    record { form = Terminal Absent; has = refl; room = room_after 0 (ap (λ (s : RegistryState). s.filters) c.with_limits.ensures) (omega (arith)) }

pub put-requires-clause-room : goal.put-requires-clause-room
put-requires-clause-room c =
    let none = c.put-below.ensures.numbers.next (Terminal Absent) refl ∙ ap (λ (s : RegistryState). s.filters) c.with_limits.ensures in
    record { form = leaf; has = refl; room = room_after 0 none (omega (arith)) }

pub returns : goal.returns
returns c =
    let a = c.put-below.ensures in
    let b = c.put.ensures in
    let first = registry_then _
    _ _ 0 c.with_limits.ensures a.numbers.alone (a.numbers.next (Terminal Absent) refl ∙ ap (λ (s : RegistryState). s.filters) c.with_limits.ensures) in
    let missing = still_absent (λ (x y : RecorderState). y ≡ x) None (outer_of c.put-below.result) a.layer_as_it_was refl in
    begins_absent c.args.limits c.put-below.result missing first c.put.result (b.layer_as_it_was ∙ c.new.ensures) b.numbers.alone (b.numbers.next leaf refl)
