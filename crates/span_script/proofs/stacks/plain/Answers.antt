use Rattle.std.proofs.Common.{arith, refl, ap, ◌∙◌}
use Rattle.span_store.specs.Store.{RegistryState}
use Rattle.span_script.specs.Stacks.{leaf}
use Rattle.span_script.proofs.Begins.{registry_then, room_after}
use Rattle.span_script.proofs.stacks.plain.Goals as goal

pub put-requires-clause-room : goal.put-requires-clause-room
put-requires-clause-room c =
    record { form = leaf; has = refl; room = room_after 0 (ap (λ (s : RegistryState). s.filters) c.with_limits.ensures) (omega (arith)) }

pub returns : goal.returns
returns c =
    let a = c.put.ensures in
    record {
      base = a.layer_as_it_was ∙ c.new.ensures;
      registry =
          registry_then _ _ _ 0 c.with_limits.ensures a.numbers.alone (a.numbers.next leaf refl ∙ ap (λ (s : RegistryState). s.filters) c.with_limits.ensures);
    }
