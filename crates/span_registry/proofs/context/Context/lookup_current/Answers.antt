use Rattle.std.proofs.Common.{◌≡◌, Bool, true, false, cond, [], Option, None, Some, is_some, sym, ap, ◌∙◌}
use Rattle.std.specs.Borrow.{Bor}
use Rattle.std.specs.FinMap.{get}
use Rattle.std.specs.List.{find}
use Rattle.std.specs.Option.{option_map, unwrap_or}
use Rattle.span_core.specs.Span.{number_of}
use Rattle.span_core.specs.declared.span.Id.{Id}
use Rattle.span_store.specs.LaneStack.{HeldStack, newest, without_duplicates}
use Rattle.span_store.specs.Store.{RegistryState, stack_on}
use Rattle.span_registry.specs.Context.{filters_in, store_at, store_in, view_in}
use Rattle.span_registry.specs.View.{current_among, current_shown, is_shown, seen_spans, view_of}
use Rattle.span_registry.specs.declared.context.Context.{Context}
use Rattle.span_registry.proofs.Finds.{finds_none}
use Rattle.span_registry.proofs.View.{current_by, current_nowhere}
use Rattle.span_registry.proofs.context.Context.lookup_current.Goals as goal

-- the span that is shown, where this is the lane's stack: by whether its newest entry is in the store
shown_by_newest : {S : Type 0} (registry : S → RegistryState) (looked : Context S)
    (subscriber : Bor S) (root : RegistryState) (found : Option (Bor HeldStack)) (stack : Bor HeldStack) (entry : Option Id) (id : Id) (there : Bool)
    → looked.subscriber ≡ Some subscriber
    → root ≡ registry subscriber.now → unwrap_or (option_map (λ s. s.now.spans) found) [] ≡ stack_on root.store.stacks looked.lane.0 → found ≡ Some stack
    → option_map number_of entry ≡ newest (without_duplicates stack.now.spans)
    → entry ≡ Some id → is_some (get (store_in registry looked).spans (number_of id)) ≡ there
    → current_shown (view_in registry looked) ≡ cond there (find (is_shown (view_in registry looked).spans) (without_duplicates stack.now.spans)) None
shown_by_newest registry looked subscriber root found stack entry id there looks rooted read is top newest_is known =
    let s = store_in registry looked in
    let lane = looked.lane.0 in
    let same : stack.now.spans ≡ stack_on s.stacks lane =
    sym (ap (λ (o : Option (Bor HeldStack)). unwrap_or (option_map (λ s. s.now.spans) o) []) is)
    ∙ read ∙ ap (λ r. stack_on r.store.stacks lane) rooted ∙ ap (λ o. stack_on (store_at registry o).stacks lane) (sym looks) in
    ap (λ xs. current_among (seen_spans s (filters_in looked)) (without_duplicates xs)) (sym same)
    ∙ current_by s (filters_in looked) (without_duplicates stack.now.spans) (number_of id) there (sym top ∙ ap (option_map number_of) newest_is) known

pub returns-in-None : goal.returns-in-None
returns-in-None g c =
    let mask = filters_in c.args.self.now in
    let lane = c.args.self.now.lane.0 in
    finds_none g.S.LookupSpan.registry
    c.args.self.now _ (ap (λ o. current_shown (view_of (store_at g.S.LookupSpan.registry o) lane mask)) c.in-None.is ∙ current_nowhere mask lane)

pub returns-then-exists : goal.returns-then-exists
returns-then-exists g c =
    let registry = g.S.LookupSpan.registry in
    let newest_there = shown_by_newest registry c.args.self.now c.in-Some.subscriber _ _ c.in-Some-stack_on.stack _ c.in-Some-current.newest true in
    record {
      span = c.first_of.ensures.span ∙ ap (find (is_shown (view_in registry c.args.self.now).spans)) c.iter.ensures
          ∙ sym (newest_there c.in-Some.is
          c.root.ensures c.stack_on.ensures c.in-Some-stack_on.is c.current.ensures c.in-Some-current.is (sym c.exists.ensures ∙ c.if-exists.true));
      subscriber = c.first_of.ensures.subscriber;
      reference = c.first_of.ensures.reference;
    }

pub returns-else-exists : goal.returns-else-exists
returns-else-exists g c =
    let registry = g.S.LookupSpan.registry in
    let newest_gone = shown_by_newest registry c.args.self.now c.in-Some.subscriber _ _ c.in-Some-stack_on.stack _ c.in-Some-current.newest false in
    finds_none registry c.args.self.now _
    (newest_gone c.in-Some.is
    c.root.ensures c.stack_on.ensures c.in-Some-stack_on.is c.current.ensures c.in-Some-current.is (sym c.exists.ensures ∙ c.if-exists.false))
