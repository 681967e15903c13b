use Rattle.std.proofs.Common.{◌∙◌, Ok, ap, map}
use Rattle.std.specs.Option.{option_copied}
use Rattle.span_targets.proofs.EnvMeaning.{span_added}
use Rattle.span_targets.specs.EnvText.{OfSpans, OfTargets, meaning_of}
use Rattle.span_targets.specs.private.EnvTake.{either_read, span_read}
use Rattle.span_targets.proofs.env_filter.EnvFilter.take.Goals as goal

pub returns-in_ok-set-in-Ok-Targets : goal.returns-in_ok-set-in-Ok-Targets
returns-in_ok-set-in-Ok-Targets c =
    let said = c.in-Ok-Targets.said in
    let set = c.in_ok-set-in-Ok-Targets.ensures in (
      OfTargets (option_copied said.target, said.level),
      c.in-Ok-Targets.ensures ∙ ap (λ q. Ok (either_read q)) c.in-Ok-Targets.field-0-is,
      λ i. record { targets = set.targets i; spans = map meaning_of (set.spans i) },
    )

pub returns-in_ok-add_span-in-Ok-Spans : goal.returns-in_ok-add_span-in-Ok-Spans
returns-in_ok-add_span-in-Ok-Spans c =
    let said = c.in-Ok-Spans.said in (
      OfSpans (span_read said),
      c.in-Ok-Spans.ensures ∙ ap (λ q. Ok (either_read q)) c.in-Ok-Spans.field-0-is,
      span_added c.args.self.now c.add_span.new.self said c.in_ok-add_span-in-Ok-Spans.ensures.ok,
    )
