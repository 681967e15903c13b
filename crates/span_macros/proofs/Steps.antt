-- Two steps of the registry as one, whatever extensions hooks wrote in between.
use Rattle.std.proofs.Common.{◌≡◌, ◌∙◌, ◌≤◌, ◌+◌, ◌*◌, ℕ, Bool, List, ◌∷◌, length, refl, ap, subst}
use Rattle.std.specs.FinSet.{len as set_len}
use Rattle.span_core.specs.Span.{number_of}
use Rattle.span_core.specs.declared.span.Attributes.{Attributes}
use Rattle.span_core.specs.declared.span.Id.{Id}
use Rattle.span_core.specs.declared.span.Lane.{Lane}
use Rattle.span_dispatch.specs.Call.{DropsSpan, OpensFor}
use Rattle.span_macros.specs.Span.{LeavesStack, OpensOnStack}
use Rattle.span_store.specs.Closes.{Closes, remove_all, without}
use Rattle.span_store.specs.Step.{Drops, Enters, Exits, RetiresLate, entered, exited}
use Rattle.span_store.specs.Store.{IsHeld, RegistryState, Spans, Stacks, Store, stack_on, take_handle, with_spans, with_stack_on}
use Rattle.span_registry.proofs.CallerLemmas.{same_further}
use Rattle.span_registry.specs.Subscriber.{AndHooks, SameButExtensions}

-- the same entry on stacks that are the same
entered_aside : (lane : Lane) (x : ℕ) (s t : RegistryState)
    → SameButExtensions s t → SameButExtensions (record s { store = entered s.store lane.0 x }) (record t { store = entered t.store lane.0 x })
entered_aside lane x s t h = record {
  spans = h.spans;
  issued = h.issued;
  stacks = ap (λ (m : Stacks). with_stack_on m lane.0 (x ∷ stack_on m lane.0)) h.stacks;
  limits = h.limits;
  filters = h.filters;
  retired = h.retired;
  reserved = h.reserved;
}

-- a span is opened, and then entered
pub on_stack : {S : Type 0} (registry : S → RegistryState) (lane : Lane) (attrs : Attributes) (id : Id) (x y z : S)
    → AndHooks registry (OpensFor lane attrs id) x y → AndHooks registry (Enters lane id) y z
    → AndHooks registry (OpensOnStack lane attrs id) x z
on_stack registry lane attrs id x y z a b =
    let m = a.stepped in
    let here : RegistryState = record m { store = entered m.store lane.0 (number_of id) } in
    let there : RegistryState = record (registry y) { store = entered (registry y).store lane.0 (number_of id) } in
    record {
      stepped = here;
      taken = (m, a.taken, refl);
      hooks = same_further here there (registry z)
          (entered_aside lane (number_of id) m (registry y) a.hooks) (subst (λ (s : RegistryState). SameButExtensions s (registry z)) b.taken.state b.hooks);
    }

-- a drop from a registry that is the same
drops_aside : (n : ℕ) (closed : List ℕ) (e t u : RegistryState)
    → SameButExtensions e t → Drops t n closed u → (v : RegistryState) × Drops e n closed v × SameButExtensions v u
drops_aside n closed e t u h d =
    let kept = without (with_spans e (take_handle e.store.spans n)).store closed in
    let v : RegistryState = record u { store = kept } in
    let issued : u.store.issued ≡ e.store.issued = ap (λ (s : Store). s.issued) d.taken.store ∙ h.issued in (
      v,
      record {
        closes = subst (λ (m : Spans). Closes m n closed) h.spans d.closes;
        taken = record {
          store = refl;
          limits = d.taken.limits ∙ h.limits;
          filters = d.taken.filters ∙ h.filters;
          reserved = d.taken.reserved ∙ h.reserved;
          retired = subst (λ (k : ℕ). k ≤ u.retired) h.retired d.taken.retired;
          no_other = subst (λ (k : ℕ). u.retired ≤ k + length closed) h.retired d.taken.no_other;
          late = λ late. late_aside late;
        };
      },
      record {
        spans = ap (λ (s : Store). s.spans) d.taken.store ∙ ap (λ (m : Spans). remove_all (take_handle m n) closed) h.spans;
        issued = issued;
        stacks = ap (λ (s : Store). s.stacks) d.taken.store ∙ h.stacks;
        limits = refl;
        filters = refl;
        retired = refl;
        reserved = refl;
      },
    )
  where
    late_aside : RetiresLate (with_spans e (take_handle e.store.spans n))
        → RetiresLate (record u { store = without (with_spans e (take_handle e.store.spans n)).store closed })
    late_aside late =
        let before : RetiresLate (with_spans t (take_handle t.store.spans n)) = rw (h.retired, h.limits, h.issued) late in
        let after = d.taken.late before in
        subst (λ k. u.retired * u.limits.generations ≤ set_len k) (ap (λ (s : Store). s.issued) d.taken.store ∙ h.issued) after

-- a span is left, and then a handle of it is taken
pub off_stack : {S : Type 0} (registry : S → RegistryState) (lane : Lane) (id : Id) (closes : Bool) (x y z : S)
    → AndHooks registry (Exits lane id) x y → AndHooks registry (DropsSpan id closes) y z → AndHooks registry (LeavesStack lane id closes) x z
off_stack registry lane id closes x y z a b =
    let n = number_of id in
    let e : RegistryState = record (registry x) { store = exited (registry x).store lane.0 n } in
    let same = subst (λ (s : RegistryState). SameButExtensions s (registry y)) a.taken a.hooks in
    let held = subst (λ (m : Spans). IsHeld m n) same.spans b.taken.0 in
    let d = b.taken.1 in
    let moved = drops_aside n d.0 e (registry y) b.stepped same d.1 in
    record {
      stepped = moved.0;
      taken = (held, (d.0, moved.1, d.2));
      hooks = same_further moved.0 b.stepped (registry z) moved.2 b.hooks;
    }
