use Rattle.std.proofs.Common.{◌∙◌, inl, inr, refl, sym}
use Rattle.span_core.specs.Span.{number_of}
use Rattle.span_error.proofs.Keeping.{text_place}
use Rattle.span_error.proofs.Taking.{at_refusal, at_success, taken}
use Rattle.span_fmt.specs.Text.{fields_text}
use Rattle.span_registry.specs.Context.{subscriber_lent, view_lent}
use Rattle.span_error.proofs.layer.ErrorLayer.take.Goals as goal

pub returns-then-is_err-clause-taken : goal.returns-then-is_err-clause-taken
returns-then-is_err-clause-taken g c =
    let registry = g.S.LookupSpan.registry in
    let ctx = c.args.ctx.now in
    let failed = sym c.is_err.ensures.value ∙ c.if-is_err.true in
    taken text_place (number_of c.args.id) (fields_text c.args.values.now) (view_lent registry ctx)
    c.args.self.now _ (registry (subscriber_lent ctx)) _ c.in-Some.extensions.now c.keep.new.extensions c.in-Some.ensures.value
    (inr (at_refusal c.keep.result failed c.keep.ensures.refused, at_refusal c.keep.result failed c.keep.ensures.unchanged, refl))
    (g.met.S.LookupSpan.registry_with _ _)

pub returns-else-is_err-clause-taken : goal.returns-else-is_err-clause-taken
returns-else-is_err-clause-taken g c =
    let registry = g.S.LookupSpan.registry in
    let ctx = c.args.ctx.now in
    let kept = sym c.is_err.ensures.value ∙ c.if-is_err.false in
    taken text_place (number_of c.args.id) (fields_text c.args.values.now) (view_lent registry ctx)
    c.args.self.now _ (registry (subscriber_lent ctx)) _ c.in-Some.extensions.now c.keep.new.extensions c.in-Some.ensures.value
    (inl (at_success c.keep.result kept c.keep.ensures.kept, refl))
    (g.met.S.LookupSpan.registry_with _ _)
