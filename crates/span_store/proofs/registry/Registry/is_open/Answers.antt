use Rattle.std.proofs.Common.{sym, ap}
use Rattle.std.proofs.lemmas.Bool.{true≢false}
use Rattle.std.specs.FinMap.{entries}
use Rattle.span_core.specs.Span.{number_of}
use Rattle.span_store.specs.Store.{RegistryState}
use Rattle.span_store.proofs.States.{absent, counted, open_by}
use Rattle.span_store.proofs.registry.Registry.is_open.Goals as goal

pub returns-in-Some : goal.returns-in-Some
returns-in-Some c =
    let iff = open_by (entries (c.self.inside.spans).records) (number_of c.args.id) c.in-Some.counts
    _ c.self.invariant.kept (ap (λ (s : RegistryState). s.store.spans) c.self.view_is) (counted c.self.inside.spans c.args.id _ c.in-Some.ensures) in
    (λ t. iff.0 (c.is_open.ensures.0 t), λ o. c.is_open.ensures.1 (iff.1 o))

pub returns-in-None : goal.returns-in-None
returns-in-None c = (
  λ t. absurd (true≢false (sym t)),
  λ o. absurd (absent (entries (c.self.inside.spans).records)
      _ (number_of c.args.id) (ap (λ (s : RegistryState). s.store.spans) c.self.view_is) (counted c.self.inside.spans c.args.id _ c.in-None.ensures) o),
)
