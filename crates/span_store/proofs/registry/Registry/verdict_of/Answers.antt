use Rattle.std.proofs.Common.{◌≡◌, None, Option, Some, refl, sym, ap, ◌∙◌}
use Rattle.std.specs.Borrow.{Bor}
use Rattle.std.specs.FinMap.{get}
use Rattle.std.specs.Option.{option_copied, option_map}
use Rattle.span_core.specs.Span.{number_of}
use Rattle.span_store.specs.Store.{RegistryState, Span}
use Rattle.span_store.specs.Data.{span_of}
use Rattle.span_store.specs.declared.span_record.SpanRecord.{SpanRecord}
use Rattle.span_store.proofs.States.{span_got}
use Rattle.span_store.proofs.registry.Registry.verdict_of.Goals as goal

-- a record and the span that it keeps have one verdict
verdict_in : (o : Option SpanRecord) → option_map (λ (r : SpanRecord). r.verdict) o ≡ option_map (λ (r : Span). r.verdict) (option_map span_of o)
verdict_in None = refl
verdict_in (Some r) = refl

pub returns-in-Some : goal.returns-in-Some
returns-in-Some c =
    let x = number_of c.args.id in
    ap (λ (o : Option (Bor SpanRecord)). option_map (λ (r : SpanRecord). r.verdict) (option_copied o)) (sym c.in-Some.is)
    ∙ ap (option_map (λ (r : SpanRecord). r.verdict)) c.get.ensures
    ∙ verdict_in (get (c.self.inside.spans).records x) ∙ ap (option_map (λ (r : Span). r.verdict))
    (sym (span_got (c.self.inside.spans).records x) ∙ ap (λ (s : RegistryState). get s.store.spans x) c.self.view_is)

pub returns-in-None : goal.returns-in-None
returns-in-None c =
    let x = number_of c.args.id in
    ap (λ (o : Option (Bor SpanRecord)). option_map (λ (r : SpanRecord). r.verdict) (option_copied o)) (sym c.in-None.is)
    ∙ ap (option_map (λ (r : SpanRecord). r.verdict)) c.get.ensures
    ∙ verdict_in (get (c.self.inside.spans).records x) ∙ ap (option_map (λ (r : Span). r.verdict))
    (sym (span_got (c.self.inside.spans).records x) ∙ ap (λ (s : RegistryState). get s.store.spans x) c.self.view_is)
