use Rattle.std.proofs.Common.{◌≡◌, ◌+◌, ◌++◌, List, ap, arith, subst, take}
use Rattle.std.proofs.lemmas.List.{take_all}
use Rattle.std.specs.Option.{option_map, option_to_list}
use Rattle.serde_json.specs.Data.{Data}
use Rattle.serde_json.specs.View.{view}
use Rattle.span_otlp.proofs.Batches.{at_first}
use Rattle.span_otlp.proofs.Kept.{one_more_kept}
use Rattle.span_otlp.proofs.Records.{made_within}
use Rattle.span_otlp.specs.LogRecord.{record_of, records_of}
use Rattle.span_otlp.specs.private.Sent.{AreSent}
use Rattle.span_otlp.proofs.log_record.records.Goals as goal

pub loop-point-init : goal.loop-point-init
loop-point-init c = at_first c.args.plan c.new-batches.result c.new-batches.ensures.lines c.new-batches.ensures.waiting

pub loop-point-preserved : goal.loop-point-preserved
loop-point-preserved c =
    let trace = c.args.plan.trace.now in
    let table = c.args.table in
    let ps = c.args.points.now in
    let i = c.loop-point.point-index in
    let o = option_map view c.in_ok-value.value in
    let before = records_of trace table (take i ps) in
    let sent : AreSent c.args.plan (before ++ option_to_list o) c.add.new.self =
    c.in_ok-add.ensures before (made_within trace table _ o c.in_ok-value.ensures) c.loop-point.invariant in
    let more : before ++ option_to_list o ≡ records_of trace table (take (i + 1) ps) =
    one_more_kept (λ p. record_of trace table p p.what) ps i _ o (omega arith) c.in_ok-value.ensures in
    subst (λ (ds : List Data). AreSent c.args.plan ds c.add.new.self) more sent

pub returns : goal.returns
returns c =
    let trace = c.args.plan.trace.now in
    let ps = c.args.points.now in
    let all : records_of trace c.args.table (take c.loop-point.point-index ps) ≡ records_of trace c.args.table ps =
    ap (records_of trace c.args.table) (take_all c.loop-point.point-index ps (omega arith)) in
    subst (λ (ds : List Data). AreSent c.args.plan ds c.loop-point.batches) all c.loop-point.invariant
