-- A call has one answer: what is due by the form of a stack, its registry and its cached callsites.
use Rattle.std.specs.Prelude.{◌≡◌, ⊤, List}
use Rattle.span_core.specs.declared.error.TraceError.TheVariants.{OutOfMemory}
use Rattle.span_dispatch.specs.Cache.{KeptCallsites}
use Rattle.span_dispatch.specs.Outcome.{OutcomeAt}
use Rattle.span_dispatch.specs.declared.call.Call.{Call}
use Rattle.span_dispatch.specs.declared.request.Answer.TheVariants.{Made, Refused}
use Rattle.span_dispatch.specs.declared.request.Answer.{Answer}
use Rattle.span_store.specs.Store.{RegistryState}
use Rattle.span_registry.specs.Form.{Form}

-- two answers are the same, whichever ids were made
abbrev pub IsSameAnswer : Answer → Answer → Type 0
IsSameAnswer (Made x) (Made y) = ⊤
IsSameAnswer a b = a ≡ b

-- an answer isn't a refusal for want of memory
abbrev pub HadMemory : Answer → Type 0
HadMemory (Refused OutOfMemory) = ⊥
HadMemory a = ⊤

-- how stacks of some type serve a call: by a form, cached callsites and a stack before it; an
-- answer and all that was made; cached callsites and a stack after it
abbrev pub Serving : Type 0 → Type 1
Serving S = Call → Form → KeptCallsites → S → Answer → List OutcomeAt → KeptCallsites → S → Type 0

-- two stacks of one form, on one registry and with the same callsites cached, give a call the same
-- answer, unless memory was refused
abbrev pub AnswersAreOne : {S T : Type 0} → (S → RegistryState) → (T → RegistryState) → Serving S
    → Serving T → Type 0
AnswersAreOne {S} {T} registry other Serves Others =
    (call : Call) (f : Form) (kept after later : KeptCallsites) (x y : S) (z w : T) (a b : Answer)
    (made more : List OutcomeAt) → registry x ≡ other z → Serves call f kept x a made after y
    → Others call f kept z b more later w → HadMemory a → HadMemory b → IsSameAnswer a b
