use Rattle.std.proofs.Common.{Ok, ap}
use Rattle.span_dispatch.specs.Contract.{ReloadsFilter}
use Rattle.span_shared.proofs.Journalled.{some_did, some_refused}
use Rattle.span_shared.specs.Logged.{AddsEntry, Logs}
use Rattle.span_shared.specs.declared.entry.EntryWith.TheVariants as entry
use Rattle.span_shared.proofs.shared.Shared.reload.Goals as goal
use Rattle.span_targets.specs.Setting.{level_in}

pub returns-clause-logs : goal.returns-clause-logs
returns-clause-logs g c =
    some_did _ (λ s lane. Logs (ReloadsFilter s c.args.number c.args.setting) (AddsEntry (λ u. entry.Reload lane c.args.number (level_in c.args.setting))))
    c.worker.inside.lane c.args.worker.now.lane c.deref_mut.result.now.logged c.reload.new.self
    (Ok c.in_ok-given.given) c.in_ok-given.ensures.logs (ap (λ w. w.lane) c.worker.view_is) c.stands.ensures

pub returns-in_err-given-clause-logs : goal.returns-in_err-given-clause-logs
returns-in_err-given-clause-logs g c =
    some_refused _ (λ s lane. Logs (ReloadsFilter s c.args.number c.args.setting) (AddsEntry (λ u. entry.Reload lane c.args.number (level_in c.args.setting))))
    c.worker.inside.lane c.args.worker.now.lane c.deref_mut.result.now.logged c.reload.new.self
    c.in_err-given.field-0.0 c.from_residual.result c.from_residual.ensures.1 c.in_err-given.ensures.logs
    (ap (λ w. w.lane) c.worker.view_is) c.stands.ensures
