-- What memory that is held leaves of the refusals.
use Rattle.std.proofs.Common.{Result, Ok, Err, IfErr, IsOk, inl, inr, refl}
use Rattle.span_core.specs.Span.{number_of}
use Rattle.span_core.specs.declared.error.TraceError.TheVariants.{CallsiteMismatch, CountFull, NoHandle, NotSettable, OutOfMemory, TagTaken, TooManyFilters}
use Rattle.span_core.specs.declared.error.TraceError.TheVariants.{TooManySpans, UnknownParent, UnknownSpan}
use Rattle.span_core.specs.declared.error.TraceError.{TraceError}
use Rattle.span_core.specs.declared.span.Id.{Id}
use Rattle.span_core.specs.declared.span.Lane.{Lane}
use Rattle.span_core.specs.declared.span.Parent.TheVariants.{Root}
use Rattle.span_store.specs.Step.{HasNoEntryReserved, HasNoPlaceReserved, HasPlace, RefusesEnter, RefusesNew}
use Rattle.span_store.specs.Store.{IsOpen, RegistryState}

no_root : (s : RegistryState) (lane : Lane) (e : TraceError) → RefusesNew s lane Root e → HasPlace s → (HasNoPlaceReserved s → ⊥) → ⊥
no_root s lane (UnknownParent x) r place held = let no = r.0 in cc
no_root s lane (CountFull x) r place held = let no = r.0 in cc
no_root s lane TooManySpans r place held = r.1 place
no_root s lane OutOfMemory r place held = held r.2
no_root s lane (UnknownSpan x) r place held = r
no_root s lane (NoHandle x) r place held = r
no_root s lane TooManyFilters r place held = r
no_root s lane TagTaken r place held = r
no_root s lane CallsiteMismatch r place held = r
no_root s lane (NotSettable n) r place held = r

pub opens : {T : Type 0} (s : RegistryState) (lane : Lane) (answer : Result T TraceError)
    → IfErr answer (RefusesNew s lane Root) → HasPlace s → (HasNoPlaceReserved s → ⊥) → IsOk answer
opens s lane (Ok id) refused place held = refl
opens s lane (Err e) refused place held = absurd (no_root s lane e refused place held)

not_in : (s : RegistryState) (lane : Lane) (id : Id) (e : TraceError)
    → RefusesEnter s lane id e → IsOpen s.store.spans (number_of id) → (HasNoEntryReserved s lane → ⊥) → ⊥
not_in s lane id e (inl unknown) there held = unknown.1 there
not_in s lane id e (inr memory) there held = held memory.2

pub enters : {T : Type 0} (s : RegistryState) (lane : Lane) (id : Id) (answer : Result T TraceError)
    → IfErr answer (RefusesEnter s lane id) → IsOpen s.store.spans (number_of id) → (HasNoEntryReserved s lane → ⊥) → IsOk answer
enters s lane id (Ok done) refused there held = refl
enters s lane id (Err e) refused there held = absurd (not_in s lane id e refused there held)
