use Rattle.std.proofs.Common.{◌≡◌, ◌<◌, ℕ, Option, None, Some, IfSome, sym, ap, subst, ◌∙◌}
use Rattle.std.proofs.lemmas.Result.{IfOk-weaker}
use Rattle.span_core.specs.Span.{number_of}
use Rattle.span_core.specs.declared.span.Id.{Id}
use Rattle.span_core.specs.declared.span.Lane.{Lane}
use Rattle.span_core.specs.declared.span.Parent.TheVariants.{Contextual}
use Rattle.span_store.specs.Step.{entered_last}
use Rattle.span_store.specs.Store.{IsOpen, RegistryState, child_count}
use Rattle.span_store.specs.private.StoreRepr.{HasParent, IsParentAt}
use Rattle.span_store.proofs.registry.Registry.context.Goals as goal

-- what was entered last is the parent, where it is one
contextual : (s : RegistryState) (lane : Lane) (id : Id) (o : Option Id)
    → entered_last s.store lane.0 ≡ Some (number_of id) → IsParentAt s id o → HasParent s lane Contextual o
contextual s lane id (Some p) e h =
    record {
      chosen = (e ∙ ap (λ (i : Id). Some (number_of i)) (sym h.0), subst (λ (i : Id). IsOpen s.store.spans (number_of i)) (sym h.0) h.1);
      room = subst (λ (i : Id). child_count s.store.spans (number_of i) < s.limits.count) (sym h.0) h.2;
    }
contextual s lane id None e h = record { chosen = subst (λ (q : Option ℕ). IfSome q (λ x. IsOpen s.store.spans x → ⊥)) (sym e) h; room = tt }

pub returns-in-Some-clause-found : goal.returns-in-Some-clause-found
returns-in-Some-clause-found c =
    let s = c.args.self.now in
    IfOk-weaker c.open_parent.result (IsParentAt s c.in-Some.id)
    (HasParent s c.args.lane Contextual) (λ o. contextual s c.args.lane c.in-Some.id o (sym c.in-Some.ensures)) c.open_parent.ensures.found
