use Rattle.std.proofs.Common.{None, ◌≡◌, ◌∙◌, ◌<◌, ◌-◌, ℕ, [], arith, ap, get_or, length, map, rules, string_bytes, sym, take}
use Rattle.std.proofs.lemmas.List.{drop_all}
use Rattle.std.proofs.lemmas.Grind.{common_steps}
use Rattle.span_core.specs.Span.{number_of}
use Rattle.span_export.proofs.Entries.{none_there, some_there}
use Rattle.span_export.proofs.Summing.{entries_more, stood_some, sums_more, time_more}
use Rattle.span_export.proofs.folded.sum_up.Goals as goal
use Rattle.span_export.proofs.folded.sum_up.Goals.{then-not-is_empty+in_ok-text+in_ok-add, else-not-is_empty}
use Rattle.span_export.specs.Entry.{entries_after, lasting}
use Rattle.span_export.specs.Folded.{add, last_time, stack_text, stood, stood_in, sums_from}
use Rattle.span_export.specs.Site.{Named, named_by, named_in}
use Rattle.span_export.specs.Sums.{sums_in}
use Rattle.span_export.specs.private.Scopes.{stacks_by}
use Rattle.span_times.specs.declared.happening.Happening.TheVariants.{Opened}
use Rattle.span_times.specs.declared.happening.Point.{Point}

pub loop-point-preserved : goal.loop-point-preserved
loop-point-preserved c =
    let named = named_by c.in_ok-spans.spans in
    let by = stacks_by c.args.stacks in
    let ps = c.args.points.now in
    let i = c.loop-point.point-index in
    let within : i < length ps = omega arith in
    let none : Point = record { time = 0; lane = record { 0 = 0 }; what = Opened (record { number = 0 }) 0 None; fields = record { from = 0; to = 0 } } in
    let p = get_or ps i none in
    let before = take i ps in
    let ids = c.in_ok-stack.stack.items in
    let stack = map number_of ids in
    let same : stack ≡ by p.lane.0 (lasting before) =
    c.in_ok-stack.ensures ∙ ap (by p.lane.0) (c.deref.ensures.value ∙ c.loop-point.invariant.entries) in
    let since = c.loop-point.invariant.times p.lane.0 in
    let old = sums_in c.loop-point.sums in
    let shown : sums_in c.if-not-is_empty.sums ≡ stood_in named stack (stood before p) old =
    elim c.if-not-is_empty.branch [
      | then-not-is_empty+in_ok-text+in_ok-add w ↦
          let some : 0 < length ids = grind (arith, c.is_empty.ensures, w.if-not-is_empty.true) in
          let last : w.unwrap_or-since.result ≡ last_time p.lane.0 before = search rules in
          let time : w.saturating_sub-time.result ≡ stood before p = w.saturating_sub-time.ensures ∙ ap (λ t. p.time - t) last in
          let text : string_bytes w.in_ok-text.text ≡ stack_text named stack =
          w.in_ok-text.ensures ∙ ap (λ ys. stack_text named (map number_of ys)) w.deref-then-not-is_empty.ensures.value in
          ap sums_in w.sums-is ∙ w.in_ok-add.ensures
          ∙ ap (λ t. add t w.saturating_sub-time.result old) text ∙ ap (λ n. add (stack_text named stack) n old) time
          ∙ sym (stood_some named stack (stood before p) old (some_there ids some))
      | else-not-is_empty w ↦
          let empty : length ids ≡ 0 = grind (arith, c.is_empty.ensures, w.if-not-is_empty.false) in
          ap sums_in w.sums-is ∙ sym (ap (λ s. stood_in named s (stood before p) old) (none_there ids empty))
    ] in
    let now = shown ∙ ap (λ s. stood_in named s (stood before p) old) same in
    record {
      entries = c.in_ok-go_on.ensures ∙ ap (λ es. entries_after es p p.what) c.loop-point.invariant.entries ∙ sym (entries_more ps i none within);
      times = λ lane.
          let more = time_more lane ps i none within in
          let old = c.loop-point.invariant.times lane in
          grind (arith, common_steps);
      sums =
          sums_more named by
          ps i none (sums_in c.loop-point.sums) (sums_in c.if-not-is_empty.sums) (sums_from named by [] [] ps) within now c.loop-point.invariant.sums;
    }

pub returns : goal.returns
returns c =
    let ps = c.args.points.now in
    let named = named_by c.in_ok-spans.spans in
    let by = stacks_by c.args.stacks in
    let same : named ≡ named_in c.args.table ps = λ j x. c.in_ok-spans.ensures x j in
    let sums = sums_in c.loop-point.sums in
    sym (ap (sums_from named by sums (take c.loop-point.point-index ps)) (drop_all c.loop-point.point-index ps (omega arith)))
    ∙ c.loop-point.invariant.sums ∙ ap (λ (n : ℕ → Named). sums_from n by [] [] ps) same
