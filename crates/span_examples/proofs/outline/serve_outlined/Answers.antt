use Rattle.std.proofs.Common.{◌∙◌, ap}
use Rattle.span_dispatch.specs.Alone.{passed_at}
use Rattle.span_dispatch.specs.Serve.{flat, stack_of}
use Rattle.span_stacks.specs.Filtered.{layer_of}
use Rattle.span_stacks.specs.Layered.{outer_of}
use Rattle.span_layers.specs.Observe.{observer_of}
use Rattle.span_store.specs.Store.{RegistryState}
use Rattle.span_examples.proofs.Lines.{new_in_use, whole_text}
use Rattle.span_examples.specs.Outline.{outline_place}
use Rattle.span_examples.proofs.outline.serve_outlined.Goals as goal

pub returns-clause-served : goal.returns-clause-served
returns-clause-served c =
    let starts = c.in_ok-stack.ensures.starts in
    let run = c.in_ok-dispatch.ensures.served in
    let served = run.served starts.ready in
    let new = new_in_use c.args.level c.args.other _ (stack_of run.first) run.in_use starts.new in
    let end = c.in_ok-dispatch.dispatch in
    let here = c.observer.ensures ∙ ap observer_of (c.layer.ensures ∙ ap layer_of (c.outer.ensures ∙ ap outer_of c.stack.ensures)) in
    record {
      first = run.first;
      last = end;
      new = new;
      empty = ap (λ (r : RegistryState). r.store) run.same ∙ starts.empty;
      served = served;
      text = whole_text (passed_at outline_place (flat served.made)) (layer_of (outer_of (stack_of run.first)))
          (layer_of (outer_of (stack_of end))) _ c.in_ok-text.text new.text (served.each outline_place) here c.in_ok-text.ensures.text;
    }
