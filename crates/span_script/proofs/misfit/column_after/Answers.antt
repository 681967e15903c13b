use Rattle.std.proofs.Common.{[], arith, ◌+◌}
use Rattle.span_script.proofs.Columns.{column-step, column-within}
use Rattle.span_script.proofs.misfit.column_after.Goals as goal

-- the column stays below that of the end
pub overflow_add-column-in-loop-word : goal.overflow_add-column-in-loop-word
overflow_add-column-in-loop-word c =
    let step = column-step c.args.words.now c.loop-word.word-index (record { ref_ptr = (0, 0); now = [] }) c.loop-word-test.true in
    let within = column-within c.args.words.now (c.loop-word.word-index + 1) in
    omega (arith, step, within, c.loop-word.invariant, c.requires)

pub loop-word-preserved : goal.loop-word-preserved
loop-word-preserved c =
    let step = column-step c.args.words.now c.loop-word.word-index (record { ref_ptr = (0, 0); now = [] }) c.loop-word-test.true in
    omega (arith, step, c.loop-word.invariant)
