use Rattle.std.proofs.Common.{refl, sym, ap, ◌∙◌}
use Rattle.std.specs.FinMap as map
use Rattle.std.specs.Option.{option_map}
use Rattle.span_core.specs.Span.{number_of}
use Rattle.span_store.specs.Data.{data_extensions, data_span, span_of}
use Rattle.span_store.specs.Store.{RegistryState}
use Rattle.span_store.proofs.States.{span_got}
use Rattle.span_store.proofs.registry.Registry.data_of.Goals as goal

pub returns-in_err-record-clause-found : goal.returns-in_err-record-clause-found
returns-in_err-record-clause-found c =
    let x = number_of c.args.id in
    let e = c.in_err-record.ensures in
    record {
      span = ap (option_map data_span) c.from_residual.ensures ∙ ap (option_map span_of) e.record
          ∙ sym (span_got (c.self.inside.spans).records x) ∙ ap (λ (s : RegistryState). map.get s.store.spans x) c.self.view_is;
      extensions =
          ap (option_map data_extensions) c.from_residual.ensures ∙ e.extensions ∙ ap (λ (s : RegistryState). map.get s.store.extensions x) c.self.view_is;
      named = rw c.from_residual.ensures tt;
    }

pub returns-clause-found : goal.returns-clause-found
returns-clause-found c =
    let x = number_of c.args.id in
    let e = c.in_ok-record.ensures in
    record {
      span = ap (option_map span_of) e.record
          ∙ sym (span_got (c.self.inside.spans).records x) ∙ ap (λ (s : RegistryState). map.get s.store.spans x) c.self.view_is;
      extensions = e.extensions ∙ ap (λ (s : RegistryState). map.get s.store.extensions x) c.self.view_is;
      named = refl;
    }
