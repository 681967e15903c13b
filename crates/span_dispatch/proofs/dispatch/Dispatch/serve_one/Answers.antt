use Rattle.span_dispatch.proofs.Asked.{asked_for, nothing_asked}
use Rattle.span_dispatch.proofs.Ready.{ready_by_rules, unchanged_ready}
use Rattle.span_dispatch.proofs.Served.{served_call, served_nothing}
use Rattle.std.proofs.Common.{refl, sym, ◌∙◌}
use Rattle.span_dispatch.proofs.dispatch.Dispatch.serve_one.Goals as goal

pub returns-in-None-clause-ready : goal.returns-in-None-clause-ready
returns-in-None-clause-ready g c = ready_by_rules c.args.self.now c.args.self.now (unchanged_ready c.args.self.now c.args.self.now refl)

pub returns-in-None-clause-served : goal.returns-in-None-clause-served
returns-in-None-clause-served g c = served_nothing c.args.past.now c.args.request.now c.args.self.now (sym c.call.ensures ∙ c.in-None.is)

pub returns-in-None-clause-asks : goal.returns-in-None-clause-asks
returns-in-None-clause-asks g c = nothing_asked _ c.args.past.now c.args.request.now c.args.self.now (sym c.call.ensures ∙ c.in-None.is)

pub returns-in-Some-clause-served : goal.returns-in-Some-clause-served
returns-in-Some-clause-served g c = served_call c.args.past.now
    c.args.request.now c.in-Some.call c.ask.result c.args.self.now c.ask.new.self (sym c.call.ensures ∙ c.in-Some.is) c.ask.ensures.served

pub returns-in-Some-clause-asks : goal.returns-in-Some-clause-asks
returns-in-Some-clause-asks g c = asked_for _
    c.args.past.now c.args.request.now c.in-Some.call c.ask.result c.args.self.now c.ask.new.self (sym c.call.ensures ∙ c.in-Some.is) c.ask.ensures.asks

pub returns-in-None-clause-registered : goal.returns-in-None-clause-registered
returns-in-None-clause-registered g c = λ r h. h
