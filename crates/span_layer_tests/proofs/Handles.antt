-- How many handles a span has that was opened and is then cloned.
use Rattle.std.specs.Prelude.{◌≡◌, ℕ, ◌+◌, Option, Some, Result, Ok, Err, IfOk, OnOk}
use Rattle.std.specs.Option.{option_map, unwrap_or}
use Rattle.std.specs.FinMap.{get}
use Rattle.std.proofs.Common.{ap, ◌∙◌}
use Rattle.span_core.specs.Span.{number_of}
use Rattle.span_core.specs.declared.span.Id.{Id}
use Rattle.span_core.specs.declared.span.Lane.{Lane}
use Rattle.span_store.specs.Step.{AskedSpan, Clones, Opens, begun}
use Rattle.span_store.specs.Store.{RegistryState, Span, Spans, add_handle, handles_of, with_handles}
use Rattle.span_store.proofs.Chains.{get_put}
use Rattle.span_registry.specs.Subscriber.{AndHooks}

handles_by : (m : Spans) (x : ℕ) (r : Span) → get m x ≡ Some r → handles_of (add_handle m x) x ≡ r.handles + 1
handles_by m x r e =
    ap (λ (o : Option Span). handles_of (with_handles (λ n. n + 1) m x o) x) e
    ∙ ap (λ (o : Option Span). unwrap_or (option_map (λ (s : Span). s.handles) o) 0) (get_put m x (record r { handles = r.handles + 1 }))

-- a span that was opened and is then cloned has two handles
pub two_handles : {S : Type 0} (registry : S → RegistryState) (s t : S) (u : RegistryState) (lane : Lane) (span : AskedSpan) (id : Id)
    → AndHooks registry (Opens lane span id) s t → Clones id (registry t) u → handles_of u.store.spans (number_of id) ≡ 2
two_handles registry s t u lane span id h k =
    let x = number_of id in
    let r : Span = begun span h.taken.parent in
    ap (λ (w : RegistryState). handles_of w.store.spans x) k.state
    ∙ handles_by (registry t).store.spans
    x r (ap (λ (w : Spans). get w x) (h.hooks.spans ∙ ap (λ (w : RegistryState). w.store.spans) h.taken.state) ∙ get_put (registry s).store.spans x r)

-- what holds of an answer, and what holds where there is one
pub ok_both : {T E : Type 0} (r : Result T E) (P R : T → Type 0) (Q : Type 0) → ((x : T) → P x → Q → R x) → IfOk r P → OnOk r Q → IfOk r R
ok_both (Ok x) P R Q f a b = f x a b
ok_both (Err e) P R Q f a b = tt
