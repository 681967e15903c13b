use Rattle.std.proofs.Common.{◌∙◌, List, Some, ap, map, sym, ℕ}
use Rattle.std.specs.Char.{to_ascii_lowercase}
use Rattle.span_sender.proofs.Fields.{found, passed}
use Rattle.span_sender.proofs.Replies.{fails}
use Rattle.span_sender.proofs.head.value_named.Goals as goal

pub returns-then-eq_ignore_ascii_case : goal.returns-then-eq_ignore_ascii_case
returns-then-eq_ignore_ascii_case c =
    let lower = ap (λ (l : List ℕ). map to_ascii_lowercase l) c.of.ensures in
    ap (λ (l : List ℕ). Some l) c.of-then-eq_ignore_ascii_case.ensures
    ∙ sym (found c.args.bytes.now c.args.name.now c.args.fields.now c.loop-field.field-index _ c.loop-field-test.true
    (sym lower ∙ c.eq_ignore_ascii_case.ensures.test.0 c.if-eq_ignore_ascii_case.true))
    ∙ c.loop-field.invariant

pub loop-field-preserved : goal.loop-field-preserved
loop-field-preserved c =
    let lower = ap (λ (l : List ℕ). map to_ascii_lowercase l) c.of.ensures in
    passed c.args.bytes.now c.args.name.now c.args.fields.now c.loop-field.field-index _ c.loop-field-test.true
    (fails _ _ (λ same. c.eq_ignore_ascii_case.ensures.test.1 (lower ∙ same)) c.if-eq_ignore_ascii_case.false)
    ∙ c.loop-field.invariant
