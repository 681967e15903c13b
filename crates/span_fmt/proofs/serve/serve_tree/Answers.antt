use Rattle.span_fmt.proofs.Outermost.{served_outermost}
use Rattle.span_fmt.proofs.Told.{tree_written}
use Rattle.span_fmt.specs.Tree.{tree_steps}
use Rattle.span_fmt.proofs.serve.serve_tree.Goals as goal

pub returns-clause-served : goal.returns-clause-served
returns-clause-served g c =
    served_outermost tree_steps tree_written (λ x y heard h. h) _ _ _ _ c.serve.ensures.ready c.in_ok-answers.ensures.served c.in_ok-answers.ensures.length
