use Rattle.std.proofs.Common.{◌≡◌, ◌<◌, sym, subst, ap, ◌∙◌, refl, Some, None, IfSome, is_some}
use Rattle.std.specs.FinMap.{entries, get}
use Rattle.std.specs.FinSet.{len as set_len}
use Rattle.std.specs.Option.{IsSomeAnd}
use Rattle.span_core.specs.Span.{number_of}
use Rattle.span_core.specs.declared.span.Id.{Id}
use Rattle.span_store.specs.private.StoreRepr.{IsKept, KeptSpans, spans_of}
use Rattle.span_store.specs.Store.{RegistryState, Spans, IsClosing, IsOpen, parent_of}
use Rattle.span_store.proofs.Drops.{fewer_spans}
use Rattle.span_store.proofs.Entries.{at_is}
use Rattle.span_store.proofs.Kept.{Records}
use Rattle.span_store.proofs.Removed.{child_to_lose, found_by, removal, root_gone}
use Rattle.span_store.proofs.Lost.{child_lost}
use Rattle.span_store.proofs.States.{spans_removed}
use Rattle.span_store.proofs.registry.Registry.remove.Goals as goal

pub remove-requires : goal.remove-requires
remove-requires c =
    let m = (c.self.inside.spans).records in
    let x = number_of c.args.id in
    let u = found_by (entries m) _ x (ap (λ (s : RegistryState). s.store.spans) c.self.view_is) c.requires in
    ap is_some (sym (at_is m x) ∙ u.1)

pub lose_child-requires : goal.lose_child-requires
lose_child-requires c =
    let m = (c.self.inside.spans).records in
    let x = number_of c.args.id in
    let e = c.in-Some.ensures in
    let u = removal m x _ (ap (λ (s : RegistryState). s.store.spans) c.self.view_is) c.requires c.self.invariant.kept in
    subst (λ (n : Records). IsSomeAnd (get n (number_of c.in-Some.parent)) (λ r. 0 < r.children))
    (sym e.taken.records) (child_to_lose m x c.in-Some.parent u e.parent)

pub invariant_of-self : goal.invariant_of-self
invariant_of-self c =
    let m = (c.self.inside.spans).records in
    let x = number_of c.args.id in
    let e = c.in-Some.ensures in
    let l = c.lose_child.ensures in
    let u = removal m x _ (ap (λ (s : RegistryState). s.store.spans) c.self.view_is) c.requires c.self.invariant.kept in
    let lost = child_lost c.self.inside.spans
    c.remove.new.self c.lose_child.new.self c.args.id c.in-Some.parent c.lose_child.result u e.parent e.taken l.written l.closing l.still_open in
    record {
      kept = (lost.gone).kept;
      begins = λ none. c.self.invariant.begins (sym (ap (λ (s : KeptSpans). set_len s.issued) lost.rest ∙ ap set_len e.taken.issued) ∙ none);
    }

pub invariant_of-self-in-None : goal.invariant_of-self-in-None
invariant_of-self-in-None c =
    let m = (c.self.inside.spans).records in
    let x = number_of c.args.id in
    let e = c.in-None.ensures in
    let u = removal m x _ (ap (λ (s : RegistryState). s.store.spans) c.self.view_is) c.requires c.self.invariant.kept in
    record {
      kept = subst (λ (n : Records). IsKept (entries n)) (sym e.taken.records) (root_gone m x u e.parent).kept;
      begins = λ none. c.self.invariant.begins (sym (ap set_len e.taken.issued) ∙ none);
    }

pub returns-in-Some : goal.returns-in-Some
returns-in-Some c =
    let m = (c.self.inside.spans).records in
    let x = number_of c.args.id in
    let new = c.lose_child.new.self in
    let e = c.in-Some.ensures in
    let l = c.lose_child.ensures in
    let view = ap (λ (s : RegistryState). s.store.spans) c.self.view_is in
    let u = removal m x _ view c.requires c.self.invariant.kept in
    let lost =
    child_lost c.self.inside.spans c.remove.new.self new c.args.id c.in-Some.parent c.lose_child.result u e.parent e.taken l.written l.closing l.still_open in
    let gone = lost.gone in
    let out = spans_removed c.self.inside c.args.id c.remove.new.self new c.args.self.now c.self.view_is e.taken lost.rest gone.spans in
    record {
      taken = out.0;
      late = out.1;
      fewer = fewer_spans c.args.self.now _ x c.requires out.0;
      closing = subst (λ (s : Spans). IfSome
          c.lose_child.result (λ (p : Id). (parent_of s x ≡ Some (number_of p)) × IsClosing (spans_of (entries new.records)) (number_of p))) view gone.closing;
      still_open = λ none q is.
          let both : Some (number_of c.in-Some.parent) ≡ Some q = sym gone.parent ∙ ap (λ (s : Spans). parent_of s x) view ∙ is in
          let same : number_of c.in-Some.parent ≡ q = cc in
          subst (IsOpen (spans_of (entries new.records))) same (gone.still_open none);
    }

pub returns-in-None : goal.returns-in-None
returns-in-None c =
    let m = (c.self.inside.spans).records in
    let x = number_of c.args.id in
    let e = c.in-None.ensures in
    let view = ap (λ (s : RegistryState). s.store.spans) c.self.view_is in
    let u = removal m x _ view c.requires c.self.invariant.kept in
    let gone = root_gone m x u e.parent in
    let out = spans_removed c.self.inside c.args.id
    c.remove.new.self c.remove.new.self c.args.self.now c.self.view_is e.taken refl (ap (λ (n : Records). spans_of (entries n)) e.taken.records ∙ gone.spans) in
    record {
      taken = out.0;
      late = out.1;
      fewer = fewer_spans c.args.self.now _ x c.requires out.0;
      closing = tt;
      still_open = λ _ q is.
          let both : Some q ≡ None = sym is ∙ ap (λ (s : Spans). parent_of s x) (sym view) ∙ gone.parent in
          let no : ⊥ = cc in
          absurd no;
    }
