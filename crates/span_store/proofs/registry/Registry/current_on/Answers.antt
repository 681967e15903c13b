use Rattle.std.proofs.Common.{◌≡◌, sym, subst, ap, ◌∙◌, ℕ, None, Option, IfSome}
use Rattle.std.specs.FinMap.{entries, get}
use Rattle.std.specs.Option.{option_map}
use Rattle.span_core.specs.Span.{number_of}
use Rattle.span_store.specs.private.StoreRepr.{at}
use Rattle.span_store.specs.Store.{RegistryState, Spans, IsInStore}
use Rattle.span_store.proofs.Entries.{at_is}
use Rattle.span_store.proofs.Kept.{nowhere, span_at}
use Rattle.span_store.proofs.registry.Registry.current_on.Goals as goal

pub returns-in-Some-get : goal.returns-in-Some-get
returns-in-Some-get c =
    let m = (c.self.inside.spans).records in
    let x = number_of c.in-Some.id in
    let found = span_at (entries m) x c.in-Some-get.found.now (at_is m x ∙ sym c.in-Some-get.ensures) in
    record {
      span =
          rw c.new.ensures (sym c.in-Some.ensures, subst (λ (s : Spans). IsInStore s x) (ap (λ (s : RegistryState). s.store.spans) c.self.view_is) (_, found));
      metadata = rw c.new.ensures
          (ap (λ (s : RegistryState). option_map (λ r. r.metadata) (get s.store.spans x)) (sym c.self.view_is) ∙ ap (option_map (λ r. r.metadata)) found);
    }

pub returns-in-None : goal.returns-in-None
returns-in-None c =
    let m = (c.self.inside.spans).records in
    let x = number_of c.in-Some.id in
    let none : at x (entries m) ≡ None = at_is m x ∙ sym c.in-None.ensures in
    record {
      span = rw c.none-in-None.ensures (subst (λ (o : Option ℕ). IfSome o (λ y. IsInStore c.args.self.now.store.spans y → ⊥))
          c.in-Some.ensures (λ there. nowhere (entries m) c.args.self.now.store.spans x (ap (λ (s : RegistryState). s.store.spans) c.self.view_is) none there));
      metadata = rw c.none-in-None.ensures tt;
    }
