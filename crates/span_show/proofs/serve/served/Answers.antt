use Rattle.span_show.proofs.Answered.{all_found}
use Rattle.span_show.proofs.serve.served.Goals as goal

pub returns-clause-served : goal.returns-clause-served
returns-clause-served g c =
    let d = c.new-dispatch in
    let ready = c.requires.ready in
    let one = d.ensures.ready ready.0 ready.1 in
    record {
      answers = c.in-Ok.answers.items;
      old = d.result;
      new = c.serve.new.self;
      begun = d.ensures.registered;
      answered =
          record { unasked = d.ensures.kept.callsites; memory = all_found c.deref.ensures.value (c.one_lacks_memory.ensures c.if-one_lacks_memory.false) };
      served = c.in-Ok.ensures.served (one.0, one.1);
      ended = c.into_stack.ensures;
    }
