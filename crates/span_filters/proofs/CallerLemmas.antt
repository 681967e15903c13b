-- What a caller's proof may need of a filter: a closure that answers in every context answers on every view.
use Rattle.std.specs.Prelude.{◌≡◌, Bool}
use Rattle.span_core.specs.declared.metadata.Metadata.{Metadata}
use Rattle.span_filters.proofs.Views.{shown_by_some}
use Rattle.span_filters.specs.Closure.{AnswersAllIn}
use Rattle.span_store.specs.Store.{RegistryState}
use Rattle.span_registry.specs.declared.context.Context.{Context}

-- a closure that has an answer in every context has one on each view: whatever subscriber there is, some context shows just that
pub answers_all_in : {F S : Type 0} (registry : S → RegistryState) (with_registry : S → RegistryState → S)
    → ((x : S) (w : RegistryState) → registry (with_registry x w) ≡ w) → (gives : F → Metadata → Context S → Bool → Type 0) (f : F) → S
    → ((m : Metadata) (c : Context S) → (r : Bool) × gives f m c r) → AnswersAllIn registry gives f
answers_all_in registry with_registry shows gives f x answers m s lane mask =
    let c = shown_by_some registry with_registry shows x s lane mask in
    (c.0, c.1, answers m c.0)
