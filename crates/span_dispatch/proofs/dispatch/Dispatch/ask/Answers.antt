use Rattle.std.proofs.Common.{refl, rules}
use Rattle.span_dispatch.proofs.CallerLemmas.{registered_by_stack}
use Rattle.span_dispatch.proofs.Asked.{asks_as}
use Rattle.span_dispatch.proofs.Ready.{level_by_rules, ready_by_rules, unchanged_ready}
use Rattle.span_dispatch.proofs.dispatch.Dispatch.ask.Goals as goal

pub returns-in-OpenSpan-clause-ready : goal.returns-in-OpenSpan-clause-ready
returns-in-OpenSpan-clause-ready g c = ready_by_rules c.args.self.now c.new_span.new.self c.new_span.ensures.ready

pub returns-in-SendEvent-clause-ready : goal.returns-in-SendEvent-clause-ready
returns-in-SendEvent-clause-ready g c = ready_by_rules c.args.self.now c.event.new.self c.event.ensures.ready

pub returns-in-Enter-clause-ready : goal.returns-in-Enter-clause-ready
returns-in-Enter-clause-ready g c = ready_by_rules c.args.self.now c.enter.new.self c.enter.ensures.ready

pub returns-in-Exit-clause-ready : goal.returns-in-Exit-clause-ready
returns-in-Exit-clause-ready g c = ready_by_rules c.args.self.now c.exit.new.self c.exit.ensures.ready

pub returns-in-RecordValues-clause-ready : goal.returns-in-RecordValues-clause-ready
returns-in-RecordValues-clause-ready g c = ready_by_rules c.args.self.now c.record.new.self c.record.ensures.ready

pub returns-in-Follow-clause-ready : goal.returns-in-Follow-clause-ready
returns-in-Follow-clause-ready g c = ready_by_rules c.args.self.now c.follows_from.new.self c.follows_from.ensures.ready

pub returns-in-AddHandle-clause-ready : goal.returns-in-AddHandle-clause-ready
returns-in-AddHandle-clause-ready g c = ready_by_rules c.args.self.now c.clone_span.new.self c.clone_span.ensures.ready

pub returns-in-DropHandle-clause-ready : goal.returns-in-DropHandle-clause-ready
returns-in-DropHandle-clause-ready g c = ready_by_rules c.args.self.now c.drop_span.new.self c.drop_span.ensures.ready

pub returns-in-Probe-clause-ready : goal.returns-in-Probe-clause-ready
returns-in-Probe-clause-ready g c = ready_by_rules c.args.self.now c.enabled.new.self c.enabled.ensures.ready

pub returns-in-AskCurrent-clause-ready : goal.returns-in-AskCurrent-clause-ready
returns-in-AskCurrent-clause-ready g c = ready_by_rules c.args.self.now c.args.self.now (unchanged_ready c.args.self.now c.args.self.now refl)

pub returns-in-Reload-clause-ready : goal.returns-in-Reload-clause-ready
returns-in-Reload-clause-ready g c = level_by_rules c.in-Reload.number c.args.self.now c.reload.new.self c.reload.ensures.ready

pub returns-in-Enter-clause-asks : goal.returns-in-Enter-clause-asks
returns-in-Enter-clause-asks g c =
    asks_as _ c.args.call.now _ _ c.args.self.now c.enter.new.self c.in-Enter.is (c.enter.result, search rules, c.enter.ensures.enters)

pub returns-in-Enter-clause-registered : goal.returns-in-Enter-clause-registered
returns-in-Enter-clause-registered g c = registered_by_stack c.args.self.now c.enter.new.self c.enter.ensures.enters.rest

pub returns-in-Exit-clause-registered : goal.returns-in-Exit-clause-registered
returns-in-Exit-clause-registered g c = registered_by_stack c.args.self.now c.exit.new.self c.exit.ensures.exits.rest

pub returns-in-RecordValues-clause-registered : goal.returns-in-RecordValues-clause-registered
returns-in-RecordValues-clause-registered g c = registered_by_stack c.args.self.now c.record.new.self c.record.ensures.records.rest

pub returns-in-Follow-clause-registered : goal.returns-in-Follow-clause-registered
returns-in-Follow-clause-registered g c = registered_by_stack c.args.self.now c.follows_from.new.self c.follows_from.ensures.follows.rest

pub returns-in-AddHandle-clause-registered : goal.returns-in-AddHandle-clause-registered
returns-in-AddHandle-clause-registered g c = registered_by_stack c.args.self.now c.clone_span.new.self c.clone_span.ensures.clones.rest

pub returns-in-DropHandle-clause-registered : goal.returns-in-DropHandle-clause-registered
returns-in-DropHandle-clause-registered g c = registered_by_stack c.args.self.now c.drop_span.new.self c.drop_span.ensures.drops.rest

pub returns-in-AskCurrent-clause-registered : goal.returns-in-AskCurrent-clause-registered
returns-in-AskCurrent-clause-registered g c = λ r h. h
