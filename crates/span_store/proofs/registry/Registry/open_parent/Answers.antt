use Rattle.std.proofs.Common.{refl, sym, ap, ◌∙◌, arith}
use Rattle.std.proofs.lemmas.Bool.{true≢false}
use Rattle.std.specs.FinMap.{entries}
use Rattle.span_core.specs.Span.{number_of}
use Rattle.span_store.specs.Store.{RegistryState}
use Rattle.span_store.specs.declared.limits.Limits.{Limits}
use Rattle.span_store.proofs.States.{absent, children_by, counted, open_by}
use Rattle.span_store.proofs.registry.Registry.open_parent.Goals as goal

pub returns-in_default-clause-found : goal.returns-in_default-clause-found
returns-in_default-clause-found c =
    absent (entries (c.self.inside.spans).records)
    _ (number_of c.args.id) (ap (λ (s : RegistryState). s.store.spans) c.self.view_is) (counted c.self.inside.spans c.args.id _ c.in_default.ensures)

pub returns-then-not-is_open-clause-found : goal.returns-then-not-is_open-clause-found
returns-then-not-is_open-clause-found c =
    let iff = open_by (entries (c.self.inside.spans).records) (number_of c.args.id) c.in-Some.counts
    _ c.self.invariant.kept (ap (λ (s : RegistryState). s.store.spans) c.self.view_is) (counted c.self.inside.spans c.args.id _ c.in-Some.ensures) in
    λ o. true≢false (sym (c.is_open.ensures.1 (iff.1 o)) ∙ c.if-not-is_open.true)

pub returns-then-counts-limits-clause-refused : goal.returns-then-counts-limits-clause-refused
returns-then-counts-limits-clause-refused c =
    let view = ap (λ (s : RegistryState). s.store.spans) c.self.view_is in
    let found = counted c.self.inside.spans c.args.id _ c.in-Some.ensures in
    let iff = open_by (entries (c.self.inside.spans).records) (number_of c.args.id) c.in-Some.counts _ c.self.invariant.kept view found in
    let children = children_by (entries (c.self.inside.spans).records) (number_of c.args.id) c.in-Some.counts _ c.self.invariant.kept view found in
    let limits = ap (λ (l : Limits). l.count) c.limits.ensures ∙ ap (λ (s : RegistryState). s.limits.count) c.self.view_is in
    (refl, iff.0 (c.is_open.ensures.0 c.if-not-is_open.false), omega (arith, children, limits, c.if-counts-limits.true))

pub returns-clause-found : goal.returns-clause-found
returns-clause-found c =
    let view = ap (λ (s : RegistryState). s.store.spans) c.self.view_is in
    let found = counted c.self.inside.spans c.args.id _ c.in-Some.ensures in
    let iff = open_by (entries (c.self.inside.spans).records) (number_of c.args.id) c.in-Some.counts _ c.self.invariant.kept view found in
    let children = children_by (entries (c.self.inside.spans).records) (number_of c.args.id) c.in-Some.counts _ c.self.invariant.kept view found in
    let limits = ap (λ (l : Limits). l.count) c.limits.ensures ∙ ap (λ (s : RegistryState). s.limits.count) c.self.view_is in
    (refl, iff.0 (c.is_open.ensures.0 c.if-not-is_open.false), omega (arith, children, limits, c.if-counts-limits.false))
