use Rattle.std.proofs.Common.{◌≡◌, ◌<◌, ℕ, Option, Some, inr, is_some, refl, sym, ap, subst, ◌∙◌, slice_get, true, false}
use Rattle.std.proofs.lemmas.Option.{slice_get-get_or}
use Rattle.std.specs.FinMap.{get}
use Rattle.std.specs.Option.{option_and_then}
use Rattle.slab.specs.Slab.{get as under}
use Rattle.span_core.specs.Span.{number_of}
use Rattle.span_extensions.specs.declared.extensions.ExtensionMap.{ExtensionMap}
use Rattle.span_store.specs.private.StoreRepr.{KeptSpans, kept_of}
use Rattle.span_store.specs.private.State.{state_of}
use Rattle.span_store.specs.Store.{RegistryState, with_extensions}
use Rattle.span_store.specs.declared.span_record.SpanRecord.{SpanRecord}
use Rattle.span_store.specs.declared.span_store.SpanStore.TheInside.{Inside}
use Rattle.std.specs.Vec.{with_item}
use Rattle.span_store.proofs.Lending.{under_name}
use Rattle.span_store.proofs.States.{there_by}
use Rattle.span_store.proofs.Stored.{keeps_values, seen_extensions, seen_record, values_written, within}
use Rattle.span_store.proofs.registry.Registry.extensions_mut.Goals as goal

pub index_mut-requires : goal.index_mut-requires
index_mut-requires c =
    let a : Inside = c.self-inside.inside.0.1.0 in
    let es = a.extensions in
    subst (λ (n : ℕ). c.in-Some.key < n)
    (sym es.ok.0) (within es.items c.in-Some.key (c.self-inside.invariant.extended (number_of c.args.id) c.in-Some.key (sym c.key_of.ensures ∙ c.in-Some.is)))

pub invariant_of-self-inside-lent : goal.invariant_of-self-inside-lent
invariant_of-self-inside-lent c =
    let a : Inside = c.self-inside.inside.0.1.0 in
    λ w. keeps_values a
    (with_item a.extensions c.in-Some.key w) (number_of c.args.id) c.in-Some.key w c.self-inside.invariant (sym c.key_of.ensures ∙ c.in-Some.is) refl

pub returns-in-Some : goal.returns-in-Some
returns-in-Some c =
    let a : Inside = c.self-inside.inside.0.1.0 in
    let before : RegistryState = state_of
    (record { alloc = c.self-inside.inside.0.0; spans = kept_of a; stacks = c.self-inside.inside.0.1.1.0; filters = c.self-inside.inside.0.1.1.1.0 }) in
    let view : before ≡ c.args.self.now = ap state_of c.self-inside.view_is ∙ c.self.view_is in
    let x = number_of c.args.id in
    let key = c.in-Some.key in
    let has = sym c.key_of.ensures ∙ c.in-Some.is in
    let there = within a.extensions.items key (c.self-inside.invariant.extended x key has) in
    let value = ap Some c.index_mut.ensures.value ∙ sym (slice_get-get_or a.extensions.items key c.index_mut.result.now there)
    ∙ ap (option_and_then (slice_get a.extensions.items)) (sym has) ∙ seen_extensions a (kept_of a) x refl in
    let known = sym (c.self-inside.invariant.recorded x key has) ∙ ap (λ (o : Option ℕ). is_some (option_and_then (under a.records) o)) (sym has)
    ∙ ap (λ (o : Option SpanRecord). is_some o) (seen_record a (kept_of a) x refl) in
    let written : (w : ExtensionMap) → ◌≡◌ {A = RegistryState} _ (with_extensions c.args.self.now x w) =
    λ w. ap (λ (k : KeptSpans). record before { store = record before.store { extensions = k.extensions } }) (values_written a
    (kept_of a) (with_item a.extensions key w) x key w c.self-inside.invariant refl has refl) ∙ ap (λ (s : RegistryState). with_extensions s x w) view in (
      under_name _ _ _ written,
      record {
        writes_back = tt;
        value = value ∙ ap (λ (s : RegistryState). get s.store.extensions x) view;
        there = there_by (kept_of a).records _ x true (ap (λ (s : RegistryState). s.store.spans) view) known;
      },
    )

pub returns-in-None : goal.returns-in-None
returns-in-None c =
    let a : Inside = c.self-inside.inside.0.1.0 in
    let view = ap state_of c.self-inside.view_is ∙ c.self.view_is in
    let x = number_of c.args.id in
    let none = sym c.in-None.is ∙ c.key_of.ensures in (
      ap inr view,
      record {
        writes_back = tt;
        value = ap (option_and_then (slice_get a.extensions.items)) none
            ∙ seen_extensions a (kept_of a) x refl ∙ ap (λ (s : RegistryState). get s.store.extensions x) view;
        there = there_by (kept_of a).records
            _ x false (ap (λ (s : RegistryState). s.store.spans) view) (ap (λ (o : Option ℕ). is_some (option_and_then (under a.records) o)) none
            ∙ ap (λ (o : Option SpanRecord). is_some o) (seen_record a (kept_of a) x refl));
      },
    )
