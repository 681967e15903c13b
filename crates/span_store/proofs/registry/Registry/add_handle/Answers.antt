use Rattle.std.proofs.Common.{Err, IfErr, IsErrAnd, Ok, Result, subst, sym, ◌≡◌}
use Rattle.span_core.specs.declared.error.TraceError.{TraceError}
use Rattle.span_store.proofs.States.{gains_handle, refuses_clone}
use Rattle.span_store.specs.Step.{RefusesClone}
use Rattle.span_store.proofs.registry.Registry.add_handle.Goals as goal

-- what is refused so is refused for this
refused_as : {T : Type 0} (P : TraceError → Type 0) (e : TraceError) (r : Result T TraceError) → IsErrAnd r (λ y. y ≡ e) → P e → IfErr r P
refused_as P e (Ok x) h k = tt
refused_as P e (Err y) h k = subst P (sym h) k

pub returns-in_err-add_handle-clause-refused : goal.returns-in_err-add_handle-clause-refused
returns-in_err-add_handle-clause-refused c =
    refused_as (RefusesClone c.args.self.now c.args.id) c.in_err-add_handle.field-0.0 c.from_residual.result c.from_residual.ensures.1
    (refuses_clone c.self.inside c.args.self.now c.args.id c.in_err-add_handle.field-0.0 c.self.view_is c.self.invariant c.in_err-add_handle.ensures.refused)

pub invariant_of-self-2 : goal.invariant_of-self-2
invariant_of-self-2 c =
    (gains_handle c.self.inside c.args.self.now c.args.id c.add_handle.new.self c.self.view_is c.self.invariant c.in_ok-add_handle.ensures.added).0

pub returns-clause-cloned : goal.returns-clause-cloned
returns-clause-cloned c =
    (gains_handle c.self.inside c.args.self.now c.args.id c.add_handle.new.self c.self.view_is c.self.invariant c.in_ok-add_handle.ensures.added).1
