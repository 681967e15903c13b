use Rattle.std.proofs.Common.{ℕ, subst, sym}
use Rattle.span_boxed.proofs.BoxLemmas.{asked_of_object}
use Rattle.span_registry.specs.Question.{SumsBy, interest_of}
use Rattle.span_boxed.proofs.boxed.BoxedLayerLayer.register_callsite.Goals as goal

pub dyn_register_callsite-requires : goal.dyn_register_callsite-requires
dyn_register_callsite-requires g c κs = asked_of_object _ _ _ _ (subst (λ z. (goal.DynLayer-dyn g z).dyn_usable z.1) (sym c.deref_box-1.ensures.1) c.requires)

pub returns : goal.returns
returns g c =
    subst (λ z. (filters : ℕ) → SumsBy ((goal.DynLayer-dyn g z).dyn_form z.1)
    (λ f. interest_of f c.args.meta.now filters) c.args.pass.now c.dyn_register_callsite.result c.dyn_register_callsite.new.pass) c.deref_box-1.ensures.1
    c.dyn_register_callsite.ensures
