use Rattle.span_fmt.proofs.Outermost.{served_outermost}
use Rattle.span_fmt.proofs.Told.{lines_written}
use Rattle.span_fmt.specs.Lines.{lines_steps}
use Rattle.span_fmt.proofs.serve.serve_lines.Goals as goal

pub returns-clause-served : goal.returns-clause-served
returns-clause-served g c =
    served_outermost lines_steps lines_written (λ x y heard h. h) _ _ _ _ c.serve.ensures.ready c.in_ok-served.ensures.served c.in_ok-served.ensures.length
