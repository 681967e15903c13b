use Rattle.span_dispatch.specs.Alone.{passed_at}
use Rattle.span_dispatch.specs.Serve.{flat, stack_of}
use Rattle.span_stacks.specs.Layered.{outer_of}
use Rattle.span_times.proofs.CallerLemmas.{keeps_told}
use Rattle.span_times.specs.Serving.{timeline_position}
use Rattle.span_times.proofs.serving.serve_timed.Goals as goal

pub returns-clause-answered : goal.returns-clause-answered
returns-clause-answered g c = record {
  one_each = c.in_ok-answers.ensures.length;
  kept = λ ready.
      let served = c.in_ok-answers.ensures.served ready in
      let before = outer_of (stack_of c.args.dispatch.now) in
      let after = outer_of (stack_of c.serve.new.self) in
      record {
        served = served;
        kept = keeps_told g.C.Now.latest g.C.Now.gives before after (passed_at timeline_position (flat served.made)) (served.each timeline_position);
      };
}
