use Rattle.std.proofs.Common.{rules}
use Rattle.span_shared.proofs.Journalled.{logs_as}
use Rattle.span_dispatch.proofs.Ready.{level_by_rules, ready_by_rules, unchanged_ready}
use Rattle.span_shared.proofs.logged.Logged.ask.Goals as goal

pub returns-in-OpenSpan-clause-ready : goal.returns-in-OpenSpan-clause-ready
returns-in-OpenSpan-clause-ready g c = ready_by_rules c.args.self.now.dispatch c.new_span.new.self.dispatch c.new_span.ensures.ready

pub returns-in-SendEvent-clause-ready : goal.returns-in-SendEvent-clause-ready
returns-in-SendEvent-clause-ready g c = ready_by_rules c.args.self.now.dispatch c.event.new.self.dispatch c.event.ensures.ready

pub returns-in-Enter-clause-ready : goal.returns-in-Enter-clause-ready
returns-in-Enter-clause-ready g c = ready_by_rules c.args.self.now.dispatch c.enter.new.self.dispatch c.enter.ensures.ready

pub returns-in-Exit-clause-ready : goal.returns-in-Exit-clause-ready
returns-in-Exit-clause-ready g c = ready_by_rules c.args.self.now.dispatch c.exit.new.self.dispatch c.exit.ensures.ready

pub returns-in-RecordValues-clause-ready : goal.returns-in-RecordValues-clause-ready
returns-in-RecordValues-clause-ready g c = ready_by_rules c.args.self.now.dispatch c.record.new.self.dispatch c.record.ensures.ready

pub returns-in-Follow-clause-ready : goal.returns-in-Follow-clause-ready
returns-in-Follow-clause-ready g c = ready_by_rules c.args.self.now.dispatch c.follows_from.new.self.dispatch c.follows_from.ensures.ready

pub returns-in-AddHandle-clause-ready : goal.returns-in-AddHandle-clause-ready
returns-in-AddHandle-clause-ready g c = ready_by_rules c.args.self.now.dispatch c.clone_span.new.self.dispatch c.clone_span.ensures.ready

pub returns-in-DropHandle-clause-ready : goal.returns-in-DropHandle-clause-ready
returns-in-DropHandle-clause-ready g c = ready_by_rules c.args.self.now.dispatch c.drop_span.new.self.dispatch c.drop_span.ensures.ready

pub returns-in-Probe-clause-ready : goal.returns-in-Probe-clause-ready
returns-in-Probe-clause-ready g c = ready_by_rules c.args.self.now.dispatch c.enabled.new.self.dispatch c.enabled.ensures.ready

pub returns-in-AskCurrent-clause-ready : goal.returns-in-AskCurrent-clause-ready
returns-in-AskCurrent-clause-ready g c = ready_by_rules c.args.self.now.dispatch
    c.current_span.new.self.dispatch (unchanged_ready c.args.self.now.dispatch c.current_span.new.self.dispatch c.current_span.ensures.dispatch)

pub returns-in-Reload-clause-ready : goal.returns-in-Reload-clause-ready
returns-in-Reload-clause-ready g c = level_by_rules c.in-Reload.number c.args.self.now.dispatch c.reload.new.self.dispatch c.reload.ensures.ready

pub returns-in-Enter-clause-logs : goal.returns-in-Enter-clause-logs
returns-in-Enter-clause-logs g c =
    logs_as _ c.args.lane c.args.call.now _ _ c.args.self.now c.enter.new.self c.in-Enter.is (c.enter.result, search rules, c.enter.ensures.logs)
