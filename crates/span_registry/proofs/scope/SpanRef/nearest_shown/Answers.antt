use Rattle.std.proofs.Common.{◌∷◌, Some, sym, ap, ◌∙◌}
use Rattle.std.specs.FinMap.{get}
use Rattle.span_store.specs.Data.{data_span}
use Rattle.span_core.specs.Span.{number_of}
use Rattle.span_core.specs.declared.span.Id.{Id}
use Rattle.span_store.specs.Store.{Span}
use Rattle.span_registry.specs.Mask.{filters_of}
use Rattle.span_registry.specs.View.{scope, seen_spans}
use Rattle.span_registry.specs.References.{id_of_reference}
use Rattle.span_registry.proofs.Ancestry.{step_absent, step_hidden, step_shown, step_smaller}
use Rattle.span_registry.proofs.scope.SpanRef.nearest_shown.Goals as goal

pub returns-in_err-data : goal.returns-in_err-data
returns-in_err-data g c = record {
  none = rw c.from_residual.ensures (sym c.loop-next.invariant ∙ step_absent (g.R.LookupSpan.registry c.args.subscriber.now).store
      (filters_of c.args.mask) c.loop-next.next c.in-Some.id c.in-Some.is c.in_err-data.ensures.found.span);
  some = rw c.from_residual.ensures tt;
  reference = rw c.from_residual.ensures tt;
}

pub returns-then-not-hides : goal.returns-then-not-hides
returns-then-not-hides g c =
    let s = (g.R.LookupSpan.registry c.args.subscriber.now).store in
    let m = seen_spans s (filters_of c.args.mask) in
    let kept = data_span c.in_ok-data.data in
    let shown = sym c.hides.ensures ∙ c.if-not-hides.true in
    let same = sym (c.new.ensures.id ∙ c.in_ok-data.ensures.found.named) in
    record {
      none = tt;
      some = sym c.loop-next.invariant ∙ step_shown s
          (filters_of c.args.mask) c.loop-next.next c.in-Some.id kept c.in_ok-data.ensures.forest c.in-Some.is c.in_ok-data.ensures.found.span shown
          ∙ ap (λ (i : Id). number_of i ∷ scope m kept.parent) same
          ∙ ap (λ (t : Span). number_of (id_of_reference c.new.result) ∷ scope m t.parent) (sym c.new.ensures.span);
      reference = λ i. record {
        subscriber = c.new.ensures.subscriber i;
        mask = c.new.ensures.mask i;
        id = number_of (id_of_reference c.new.result);
        span = (ap Some c.new.ensures.span ∙ c.in_ok-data.ensures.found.span ∙ ap (λ (x : Id). get s.spans (number_of x)) same) i;
        extensions = (ap Some c.new.ensures.extensions ∙ c.in_ok-data.ensures.found.extensions ∙ ap (λ (x : Id). get s.extensions (number_of x)) same) i;
      };
    }

pub loop-next-smaller : goal.loop-next-smaller
loop-next-smaller g c =
    step_smaller (g.R.LookupSpan.registry c.args.subscriber.now).store (filters_of c.args.mask)
    c.loop-next.next c.in-Some.id (data_span c.in_ok-data.data) _ c.in_ok-data.ensures.forest c.in-Some.is c.in_ok-data.ensures.found.span c.parent-next.ensures

pub loop-next-preserved : goal.loop-next-preserved
loop-next-preserved g c =
    let s = (g.R.LookupSpan.registry c.args.subscriber.now).store in
    let hidden = sym c.hides.ensures ∙ c.if-not-hides.false in
    ap (scope (seen_spans s (filters_of c.args.mask))) c.parent-next.ensures
    ∙ sym (step_hidden s (filters_of c.args.mask)
    c.loop-next.next c.in-Some.id (data_span c.in_ok-data.data) c.in_ok-data.ensures.forest c.in-Some.is c.in_ok-data.ensures.found.span hidden)
    ∙ c.loop-next.invariant
