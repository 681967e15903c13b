use Rattle.std.proofs.Common.{sym, ap, ◌∙◌, List, ℕ, [], Bor, Option}
use Rattle.std.specs.Option.{option_map, unwrap_or}
use Rattle.span_store.specs.LaneStack.{HeldStack, without_duplicates, newest}
use Rattle.span_store.specs.Store.{stack_on}
use Rattle.span_store.proofs.Distinct.{newest_is}
use Rattle.span_store.proofs.registry.Registry.entered_last.Goals as goal

pub returns-in-Some : goal.returns-in-Some
returns-in-Some c =
    c.current.ensures ∙ ap (λ (o : Option (Bor HeldStack)). newest (without_duplicates (unwrap_or (option_map (λ s. s.now.spans) o) []))) (sym c.in-Some.is)
    ∙ ap (λ (xs : List ℕ). newest (without_duplicates xs)) c.stack_on.ensures ∙ newest_is (stack_on c.args.self.now.store.stacks c.args.lane.0)

pub returns-in-None : goal.returns-in-None
returns-in-None c =
    ap (λ (o : Option (Bor HeldStack)). newest (without_duplicates (unwrap_or (option_map (λ s. s.now.spans) o) []))) (sym c.in-None.is)
    ∙ ap (λ (xs : List ℕ). newest (without_duplicates xs)) c.stack_on.ensures ∙ newest_is (stack_on c.args.self.now.store.stacks c.args.lane.0)
