use Rattle.std.proofs.Common.{ℕ, Some, arith, sym, ap, ◌∙◌}
use Rattle.span_registry.proofs.FromRoot.{length-from_root}
use Rattle.span_registry.proofs.scope.ScopeFromRootIterator.size_hint.Goals as goal

pub returns-clause-lower : goal.returns-clause-lower
returns-clause-lower g c = λ _. let n = length-from_root c.args.self.now.spans.items c.args.self.now.full in let l = c.len-len.ensures.value in omega arith

pub returns-clause-upper : goal.returns-clause-upper
returns-clause-upper g c = (tt, let n = length-from_root c.args.self.now.spans.items c.args.self.now.full in let l = c.len-len.ensures.value in omega arith)

pub returns-clause-exact : goal.returns-clause-exact
returns-clause-exact g c = ap (λ (n : ℕ). (n, Some n)) (c.len-len.ensures.value ∙ sym (length-from_root c.args.self.now.spans.items c.args.self.now.full))
