use Rattle.std.proofs.Common.{Some, refl}
use Rattle.span_store.specs.LaneStack.{without_duplicates}
use Rattle.span_store.specs.Store.{stack_on}
use Rattle.span_registry.proofs.Ancestry.{scope_absent, scope_is, seen_at}
use Rattle.span_registry.proofs.LookupLaws.{chain_descends, current_unhidden, shown_above, whole_chain}
use Rattle.span_registry.proofs.laws.look_ups_are_of_the_store.Goals as goal

pub returns : goal.returns
returns c = λ s mask x. record {
  span = seen_at s mask x;
  shown = λ chain h. scope_is s mask (Some x) chain h;
  whole = λ chain none h. whole_chain s mask (Some x) chain none h;
  outside = λ none. scope_absent s mask x none;
  parent = λ above chain. shown_above s mask x above chain;
  current = λ lane none. current_unhidden s lane mask (without_duplicates (stack_on s.stacks lane)) none refl;
  descent = λ chain h. chain_descends s.spans x chain h;
}
