use Rattle.std.proofs.Common.{arith}
use Rattle.span_script.proofs.Columns.{column-same}
use Rattle.span_script.proofs.misfit.Misfit.column.Goals as goal

pub column_after-requires : goal.column_after-requires
column_after-requires c = let same = column-same c.args.words.now c.args.self.now in omega (arith, same, c.requires.fits)

pub overflow_add-result : goal.overflow_add-result
overflow_add-result c = let same = column-same c.args.words.now c.args.self.now in omega (arith, same, c.requires.fits, c.column_after.ensures)

pub returns : goal.returns
returns c = let same = column-same c.args.words.now c.args.self.now in omega (arith, same, c.column_after.ensures)
