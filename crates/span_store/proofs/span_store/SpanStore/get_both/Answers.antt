use Rattle.std.proofs.Common.{◌≡◌, Option, None, Some, IsSome, Bor, option_map, option_copied, refl, sym, ap, subst, ◌∙◌, slice_get, List}
use Rattle.std.specs.Option.{option_and_then, option_zip}
use Rattle.slab.specs.Slab.{get as under}
use Rattle.span_core.specs.Span.{number_of}
use Rattle.span_extensions.specs.declared.extensions.ExtensionMap.{ExtensionMap}
use Rattle.span_store.specs.declared.span_record.SpanRecord.{SpanRecord}
use Rattle.span_store.proofs.Stored.{item, seen_record, seen_extensions}
use Rattle.span_store.proofs.span_store.SpanStore.get_both.Goals as goal

first : {A B : Type 0} (r : Option (Bor A)) (e : Option (Bor B))
    → IsSome (option_copied e) → option_map (λ (b : Bor A × Bor B). b.0.now) (option_zip r e) ≡ option_copied r
first None e there = refl
first (Some r) None there = cc
first (Some r) (Some e) there = refl

second : {A B : Type 0} (r : Option (Bor A)) (e : Option (Bor B))
    → IsSome (option_copied r) → option_map (λ (b : Bor A × Bor B). b.1.now) (option_zip r e) ≡ option_copied e
second None e there = cc
second (Some r) None there = refl
second (Some r) (Some e) there = refl

pub returns-in-Some-clause-record : goal.returns-in-Some-clause-record
returns-in-Some-clause-record c =
    let a = c.self.inside in
    let x = number_of c.args.id in
    let has = sym c.key_of.ensures ∙ c.in-Some.is in
    let values = item c.deref.result.now c.in-Some.key c.get-in-Some.result c.get-in-Some.ensures.lookup
    ∙ ap (λ (l : List ExtensionMap). slice_get l c.in-Some.key) c.deref.ensures.value in
    ap (option_map (λ (b : Bor SpanRecord × Bor ExtensionMap). b.0.now)) c.zip.ensures
    ∙ first c.get.result c.get-in-Some.result (subst (λ (o : Option ExtensionMap). IsSome o) (sym values) (c.self.invariant.extended x c.in-Some.key has))
    ∙ c.get.ensures ∙ ap (option_and_then (under a.records)) (sym has) ∙ seen_record a c.args.self.now x c.self.view_is

pub returns-in-Some-clause-extensions : goal.returns-in-Some-clause-extensions
returns-in-Some-clause-extensions c =
    let a = c.self.inside in
    let x = number_of c.args.id in
    let has = sym c.key_of.ensures ∙ c.in-Some.is in
    let values = item c.deref.result.now c.in-Some.key c.get-in-Some.result c.get-in-Some.ensures.lookup
    ∙ ap (λ (l : List ExtensionMap). slice_get l c.in-Some.key) c.deref.ensures.value in
    ap (option_map (λ (b : Bor SpanRecord × Bor ExtensionMap). b.1.now)) c.zip.ensures
    ∙ second c.get.result c.get-in-Some.result (subst (λ (o : Option SpanRecord). IsSome o) (sym c.get.ensures) (c.self.invariant.recorded x c.in-Some.key has))
    ∙ values ∙ ap (option_and_then (slice_get a.extensions.items)) (sym has) ∙ seen_extensions a c.args.self.now x c.self.view_is

pub returns-in-None-clause-record : goal.returns-in-None-clause-record
returns-in-None-clause-record c = ap (option_and_then (under c.self.inside.records)) (sym c.in-None.is ∙ c.key_of.ensures)
    ∙ seen_record c.self.inside c.args.self.now (number_of c.args.id) c.self.view_is

pub returns-in-None-clause-extensions : goal.returns-in-None-clause-extensions
returns-in-None-clause-extensions c = ap (option_and_then (slice_get c.self.inside.extensions.items)) (sym c.in-None.is ∙ c.key_of.ensures)
    ∙ seen_extensions c.self.inside c.args.self.now (number_of c.args.id) c.self.view_is
