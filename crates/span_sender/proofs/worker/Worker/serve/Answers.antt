use Rattle.std.proofs.Common.{refl}
use Rattle.span_sender.proofs.Worked.{goes_on_alone}
use Rattle.span_sender.proofs.worker.Worker.serve.Goals as goal

pub returns : goal.returns
returns g c = λ first h. goes_on_alone g.P.Poster.posted first _ _ h refl c.serve.ensures.sends
