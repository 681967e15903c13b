use Rattle.std.proofs.Common.{◌∙◌, ap}
use Rattle.span_store.specs.Store.{RegistryState}
use Rattle.span_show.proofs.New.{never_full, ready, stands_new}
use Rattle.span_show.proofs.serve.put_on_new.Goals as goal

pub unreachable-requires : goal.unreachable-requires
unreachable-requires g c = never_full _ _ c.args.layer c.new.ensures c.requires.honest c.in-Err.ensures.refused.full

pub returns-clause-ready : goal.returns-clause-ready
returns-clause-ready g c =
    ready _ _ _ _ _ _ (stands_new c.numbers_are_own.ensures _ _ c.args.layer _ c.new.ensures c.requires.honest c.in-Ok.ensures.attached)

pub returns-clause-registry : goal.returns-clause-registry
returns-clause-registry g c = record {
  empty = (stands_new c.numbers_are_own.ensures _ _ c.args.layer _ c.new.ensures c.requires.honest c.in-Ok.ensures.attached).empty;
  limits = ap (λ (s : RegistryState). s.limits) (c.in-Ok.ensures.attached.numbers.alone) ∙ ap (λ (s : RegistryState). s.limits) c.new.ensures;
}
