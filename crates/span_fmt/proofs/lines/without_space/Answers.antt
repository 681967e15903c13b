use Rattle.std.proofs.Common.{arith, ap, ◌∙◌}
use Rattle.std.specs.Borrow.{Bor}
use Rattle.std.proofs.lemmas.Str.Pattern.{strip_prefix_char}
use Rattle.std.proofs.Common.{ℕ, List}
use Rattle.span_fmt.proofs.Bare.{bared}
use Rattle.span_fmt.proofs.lines.without_space.Goals as goal

pub returns : goal.returns
returns c =
    ap (λ (b : Bor (List ℕ)). b.now) c.unwrap_or.ensures
    ∙ bared c.args.text c.strip_prefix.result (strip_prefix_char 32 c.args.text.now c.strip_prefix.result c.strip_prefix.ensures.cases (omega arith))
