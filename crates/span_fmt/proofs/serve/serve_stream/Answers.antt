use Rattle.span_fmt.proofs.Outermost.{served_outermost}
use Rattle.span_fmt.proofs.Streamed.{stream_written}
use Rattle.span_fmt.specs.Stream.{stream_steps}
use Rattle.span_fmt.proofs.serve.serve_stream.Goals as goal

pub returns-clause-served : goal.returns-clause-served
returns-clause-served g c =
    let gives = g.F.Form.gives in
    let misses = g.F.Form.misses in
    let contents = g.W.Write.contents in
    served_outermost (stream_steps gives misses contents)
    (stream_written gives misses contents) (λ x y heard h. h) _ _ _ _ c.serve.ensures.ready c.in_ok-served.ensures.served c.in_ok-served.ensures.length
