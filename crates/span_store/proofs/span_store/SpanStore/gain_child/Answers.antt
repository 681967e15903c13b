use Rattle.std.proofs.Common.{◌<◌, sym, ◌∙◌, arith}
use Rattle.std.specs.FinMap.{get}
use Rattle.span_core.specs.Span.{number_of}
use Rattle.span_store.specs.private.StoreRepr.{more}
use Rattle.span_store.proofs.Removed.{at_some}
use Rattle.span_store.proofs.Stored.{has_key, lends_some, lent_record, writes_record}
use Rattle.span_store.proofs.span_store.SpanStore.gain_child.Goals as goal

pub overflow_add-found : goal.overflow_add-found
overflow_add-found c =
    let s = c.args.self.now in
    let x = number_of c.args.id in
    let there =
    lent_record c.self.inside s x c.in-Some.key _ _ c.self.view_is (sym c.key_of.ensures ∙ c.in-Some.is) c.get_mut.ensures.value c.in-Some-get_mut.is in
    let below : (c.in-Some-get_mut.found.now).children < c.args.count = at_some _ (get s.records x) _ there c.requires in
    let fits = c.ranges.count.fits in
    grind arith

pub returns-in-Some-get_mut : goal.returns-in-Some-get_mut
returns-in-Some-get_mut c =
    let a = c.self.inside in
    let s = c.args.self.now in
    let key = c.in-Some.key in
    let has = sym c.key_of.ensures ∙ c.in-Some.is in
    let there = lent_record a s (number_of c.args.id) key _ _ c.self.view_is has c.get_mut.ensures.value c.in-Some-get_mut.is in
    writes_record more a s c.args.id key _ c.self.invariant c.self.view_is has there

pub returns-in_default-get_mut : goal.returns-in_default-get_mut
returns-in_default-get_mut c = absurd (lends_some c.self.inside
    (number_of c.args.id) c.in-Some.key _ c.self.invariant (sym c.key_of.ensures ∙ c.in-Some.is) c.get_mut.ensures.value c.in_default-get_mut.is)

pub returns-in_default : goal.returns-in_default
returns-in_default c = absurd (has_key _ c.self.inside c.args.self.now (number_of c.args.id) c.self.view_is c.requires (sym c.key_of.ensures ∙ c.in_default.is))
