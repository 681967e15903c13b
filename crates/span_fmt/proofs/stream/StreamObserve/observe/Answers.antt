use Rattle.std.proofs.Common.{ℕ, List, inl, inr, refl, subst, string_bytes}
use Rattle.span_fmt.specs.Outlet.{Puts}
use Rattle.span_fmt.proofs.stream.StreamObserve.observe.Goals as goal

pub returns-in-Ok-clause-hook : goal.returns-in-Ok-clause-hook
returns-in-Ok-clause-hook g c =
    let puts = subst (λ (l : List ℕ). Puts g.W.Write.contents l c.args.self.now.outlet c.put.new.self) c.as_str.ensures.value c.put.ensures in
    (inl (string_bytes c.in-Ok.line, c.in-Ok.ensures.given, puts), refl)

pub returns-in-Err-clause-hook : goal.returns-in-Err-clause-hook
returns-in-Err-clause-hook g c = (inr (c.in-Err.ensures.missed, c.lose.ensures), refl)
