-- What a closure may give of a value in a context.
use Rattle.std.specs.Prelude.{◌≡◌}
use Rattle.std.specs.Borrow.{Bor}
use Rattle.std.specs.Fn.{FnReturns, Shared}
use Rattle.span_registry.specs.declared.context.Context.{Context}

-- a closure may give this of references to the value and to the context
pub record ReturnsIn {F T S R : Type 0} (g : Shared F (Bor T × (Bor (Context S) × Unit {0})) R)
    (f : F) (x : T) (c : Context S) (r : R) : Type 0 where
  pub value : Bor T
  pub context : Bor (Context S)
  pub shows : (value.now ≡ x) × (context.now ≡ c)
  pub says : FnReturns g f (value, (context, tt)) r
