use Rattle.std.proofs.Common.{◌∙◌, ap, refl, subst, sym}
use Rattle.span_dispatch.specs.Alone.{passed_at}
use Rattle.span_dispatch.specs.Serve.{flat, stack_of}
use Rattle.span_fmt.specs.Form.{Gives}
use Rattle.span_fmt.specs.Outlet.{is_torn, lost_of, writer_of}
use Rattle.span_fmt.specs.Stream.{form_of, outlet_of}
use Rattle.span_fmt.specs.declared.stream.Stream.{Stream}
use Rattle.span_layers.specs.Observe.{observer_of}
use Rattle.span_stacks.specs.Layered.{outer_of}
use Rattle.span_show.specs.Serve.{stream_in, stream_position}
use Rattle.span_show.proofs.Streamed.{all_written, is_none}
use Rattle.span_show.proofs.serve.stream.Goals as goal

pub returns-clause-streamed : goal.returns-clause-streamed
returns-clause-streamed g c =
    let put = c.put_on_new.ensures in
    let on = c.in_ok-stack.ensures.served in
    let last = c.in_ok-stack.stack in
    let fresh = c.new.ensures in
    let made = ap observer_of put.layer ∙ c.new-layer.ensures in
    let first = ap observer_of on.begun.0 ∙ made in
    let stream = c.into_observer-stream.ensures ∙ ap observer_of c.into_parts-layer.ensures.outer in
    let heard = passed_at stream_position (flat on.served.made) in
    let writer_in = λ (x : Stream _ _). writer_of (outlet_of x) in
    let lost_in = λ (x : Stream _ _). lost_of (outlet_of x) in
    let still = ap lost_in (sym stream) ∙ is_none _ (sym c.if-failed.false ∙ c.failed.ensures) in
    let after = c.into_writer.ensures ∙ ap writer_in stream in
    let over = ap (λ x. stream_in x) (sym on.ended) in
    let wrote = all_written g.F.Form.gives g.F.Form.misses g.W.Write.contents heard c.args.form c.args.writer c.into_writer.result
    (stream_in (stack_of on.old)) (stream_in (stack_of on.new))
    (c.a_stream_writes_what_it_is_told.ensures _ _ heard (on.served.each stream_position))
    (ap form_of first ∙ fresh.form) (ap writer_in first ∙ fresh.writer) (after ∙ ap writer_in (sym over))
    (ap (λ (x : Stream _ _). is_torn (outlet_of x)) first ∙ fresh.torn) (ap lost_in first ∙ fresh.lost) (ap lost_in over ∙ still) in
    record {
      first = c.put_on_new.result;
      last = last;
      room = put.registry;
      begun = record { has_form = ap form_of made ∙ fresh.form; has_writer = ap writer_in made ∙ fresh.writer; none_lost = ap lost_in made ∙ fresh.lost };
      on = on;
      text = wrote.0;
      given = subst (λ (x : Stream _ _). Gives g.F.Form.gives c.args.form heard wrote.0 (form_of x)) over wrote.1;
      ended = record { has_form = refl; has_writer = sym after; none_lost = still };
      grown = wrote.2;
    }
