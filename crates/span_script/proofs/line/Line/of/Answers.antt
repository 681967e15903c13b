use Rattle.std.proofs.Common.{codes}
use Rattle.span_script.specs.Script.{lane_words, IsLaneAndName, IsLater, Spells}
use Rattle.span_script.specs.declared.reason.Reason.TheVariants.{UnknownWord}
use Rattle.span_script.proofs.Lines.{drop-same, enter-same, exit-same, later-expects, later-some, no-empty-later, no-later, record-same}
use Rattle.span_script.proofs.Misfits.{handed, misfit-at, misfit-behind, misfit-few, result-behind}
use Rattle.span_script.proofs.line.Line.of.Goals as goal

pub returns-in_err-verb-clause-fault : goal.returns-in_err-verb-clause-fault
returns-in_err-verb-clause-fault c =
    handed _ _ _ _ c.from_residual.ensures.1
    (misfit-few IsLater UnknownWord _ _ c.in_err-verb.ensures.none later-some no-empty-later later-expects c.in_err-verb.ensures.few)

pub returns-in_err-lane-in-enter-clause-fault : goal.returns-in_err-lane-in-enter-clause-fault
returns-in_err-lane-in-enter-clause-fault c = handed _ _ _ _ c.from_residual-in_err-lane-in-enter.ensures.1
    (misfit-behind (Spells IsLaneAndName lane_words) IsLater (codes "enter") _ _ _ _ enter-same
    c.in_ok-verb.ensures.taken c.in-enter.is c.in_err-lane-in-enter.ensures.fault)

pub returns-in_err-lane-in-exit-clause-fault : goal.returns-in_err-lane-in-exit-clause-fault
returns-in_err-lane-in-exit-clause-fault c = handed _ _ _ _ c.from_residual-in_err-lane-in-exit.ensures.1
    (misfit-behind (Spells IsLaneAndName lane_words) IsLater (codes "exit") _ _ _ _ exit-same
    c.in_ok-verb.ensures.taken c.in-exit.is c.in_err-lane-in-exit.ensures.fault)

pub returns-in_err-lane-in-record-clause-fault : goal.returns-in_err-lane-in-record-clause-fault
returns-in_err-lane-in-record-clause-fault c = handed _ _ _ _ c.from_residual-in_err-lane-in-record.ensures.1
    (misfit-behind (Spells IsLaneAndName lane_words) IsLater (codes "record") _ _ _ _ record-same
    c.in_ok-verb.ensures.taken c.in-record.is c.in_err-lane-in-record.ensures.fault)

pub returns-in_err-lane-in-drop-clause-fault : goal.returns-in_err-lane-in-drop-clause-fault
returns-in_err-lane-in-drop-clause-fault c = handed _ _ _ _ c.from_residual-in_err-lane-in-drop.ensures.1
    (misfit-behind (Spells IsLaneAndName lane_words) IsLater (codes "drop") _ _ _ _ drop-same
    c.in_ok-verb.ensures.taken c.in-drop.is c.in_err-lane-in-drop.ensures.fault)

pub returns-in-new-clause-fault : goal.returns-in-new-clause-fault
returns-in-new-clause-fault c = result-behind IsLater (codes "new") _ _ _ c.new.result c.in_ok-verb.ensures.taken c.in-new.is c.new.ensures.fault

pub returns-in-event-clause-fault : goal.returns-in-event-clause-fault
returns-in-event-clause-fault c = result-behind IsLater (codes "event") _ _ _ c.event.result c.in_ok-verb.ensures.taken c.in-event.is c.event.ensures.fault

pub returns-in-follows-clause-fault : goal.returns-in-follows-clause-fault
returns-in-follows-clause-fault c =
    result-behind IsLater (codes "follows") _ _ _ c.follows.result c.in_ok-verb.ensures.taken c.in-follows.is c.follows.ensures.fault

pub returns-in-clone-clause-fault : goal.returns-in-clone-clause-fault
returns-in-clone-clause-fault c = result-behind IsLater (codes "clone") _ _ _ c.clone.result c.in_ok-verb.ensures.taken c.in-clone.is c.clone.ensures.fault

pub returns-in-enabled-clause-fault : goal.returns-in-enabled-clause-fault
returns-in-enabled-clause-fault c =
    result-behind IsLater (codes "enabled") _ _ _ c.enabled.result c.in_ok-verb.ensures.taken c.in-enabled.is c.enabled.ensures.fault

pub returns-in-current-clause-fault : goal.returns-in-current-clause-fault
returns-in-current-clause-fault c =
    result-behind IsLater (codes "current") _ _ _ c.current.result c.in_ok-verb.ensures.taken c.in-current.is c.current.ensures.fault

pub returns-in-level-clause-fault : goal.returns-in-level-clause-fault
returns-in-level-clause-fault c =
    result-behind IsLater (codes "level") _ _ _ c.set_level.result c.in_ok-verb.ensures.taken c.in-level.is c.set_level.ensures.fault

pub returns-in-targets-clause-fault : goal.returns-in-targets-clause-fault
returns-in-targets-clause-fault c =
    result-behind IsLater (codes "targets") _ _ _ c.set_targets.result c.in_ok-verb.ensures.taken c.in-targets.is c.set_targets.ensures.fault

pub returns-in_default-clause-fault : goal.returns-in_default-clause-fault
returns-in_default-clause-fault c = misfit-at IsLater UnknownWord _ _ _ _ c.in_ok-verb.ensures.taken later-some
    (no-later _ c.in_default.not-new c.in_default.not-event c.in_default.not-enter c.in_default.not-exit c.in_default.not-record c.in_default.not-drop
    c.in_default.not-follows c.in_default.not-clone c.in_default.not-enabled c.in_default.not-current c.in_default.not-level c.in_default.not-targets)
    later-expects c.misfit_of.ensures
