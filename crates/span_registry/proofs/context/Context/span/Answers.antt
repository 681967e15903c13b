use Rattle.std.proofs.Common.{◌≡◌, Some, sym, ap, ◌∙◌}
use Rattle.std.specs.FinMap.{get}
use Rattle.std.specs.Option.{option_copied}
use Rattle.span_core.specs.Span.{number_of}
use Rattle.span_core.specs.declared.span.Id.{Id}
use Rattle.span_store.specs.Data.{data_span}
use Rattle.span_registry.specs.Context.{filters_in}
use Rattle.span_registry.specs.References.{id_of_reference, subscriber_of}
use Rattle.span_registry.proofs.Finds.{finds_none, found, unfound, unseen}
use Rattle.span_registry.proofs.context.Context.span.Goals as goal

pub returns-in-None : goal.returns-in-None
returns-in-None g c =
    finds_none g.S.LookupSpan.registry
    c.args.self.now _ (unseen g.S.LookupSpan.registry c.args.self.now.subscriber (filters_in c.args.self.now) (number_of c.args.id) c.in-None.is)

pub returns-in-None-span_data : goal.returns-in-None-span_data
returns-in-None-span_data g c =
    finds_none g.S.LookupSpan.registry c.args.self.now _
    (unfound g.S.LookupSpan.registry c.args.self.now.subscriber
    c.in-Some.subscriber (filters_in c.args.self.now) (number_of c.args.id) c.in-Some.is (sym c.in-None-span_data.ensures.found.span))

pub returns-then-hides : goal.returns-then-hides
returns-then-hides g c =
    finds_none g.S.LookupSpan.registry c.args.self.now _
    (found g.S.LookupSpan.registry
    c.args.self.now.subscriber c.in-Some.subscriber (filters_in c.args.self.now) (number_of c.args.id) (data_span c.in-Some-span_data.found) _ c.in-Some.is
    (sym c.in-Some-span_data.ensures.found.span) (sym c.hides.ensures ∙ c.if-hides.true))

pub returns-else-hides : goal.returns-else-hides
returns-else-hides g c =
    let s = (g.S.LookupSpan.registry c.in-Some.subscriber.now).store in
    let same : id_of_reference c.new.result ≡ c.args.id = c.new.ensures.id ∙ c.in-Some-span_data.ensures.found.named in
    let from = sym c.new.ensures.subscriber in
    record {
      span = ap (λ (i : Id). Some (number_of i)) same
          ∙ sym (found g.S.LookupSpan.registry c.args.self.now.subscriber
          c.in-Some.subscriber (filters_in c.args.self.now) (number_of c.args.id) (data_span c.in-Some-span_data.found) _ c.in-Some.is
          (sym c.in-Some-span_data.ensures.found.span) (sym c.hides.ensures ∙ c.if-hides.false));
      subscriber = ap option_copied c.in-Some.is ∙ ap Some from;
      reference = λ i. record {
        subscriber = subscriber_of c.new.result;
        mask = c.new.ensures.mask i;
        id = number_of (id_of_reference c.new.result);
        span = (ap Some c.new.ensures.span ∙ c.in-Some-span_data.ensures.found.span ∙ ap (λ (x : Id). get s.spans (number_of x)) (sym same)
            ∙ ap (λ t. get (g.S.LookupSpan.registry t).store.spans (number_of (id_of_reference c.new.result))) from) i;
        extensions =
            (ap Some c.new.ensures.extensions ∙ c.in-Some-span_data.ensures.found.extensions ∙ ap (λ (x : Id). get s.extensions (number_of x)) (sym same)
            ∙ ap (λ t. get (g.S.LookupSpan.registry t).store.extensions (number_of (id_of_reference c.new.result))) from) i;
      };
    }
