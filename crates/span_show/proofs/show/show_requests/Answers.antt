use Rattle.span_show.proofs.Read.{on_ok}
use Rattle.span_show.proofs.show.show_requests.Goals as goal

pub returns-in-Tree-clause-shown : goal.returns-in-Tree-clause-shown
returns-in-Tree-clause-shown g c = rw c.in-Tree.is (on_ok c.stream.result c.stream.ensures.streamed (λ after done. (c.new.result, c.new.ensures, done)))

pub returns-in-Lines-clause-shown : goal.returns-in-Lines-clause-shown
returns-in-Lines-clause-shown g c =
    rw c.in-Lines.is (on_ok c.stream-in-Lines.result c.stream-in-Lines.ensures.streamed
    (λ after done. (c.new-in-Lines.result, c.new-in-Lines.ensures.known, c.new-in-Lines.ensures.names, done)))
