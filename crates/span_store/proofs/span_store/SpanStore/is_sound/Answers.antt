use Rattle.std.proofs.Common.{Option, IsSome, sym, ap, subst, ◌∙◌}
use Rattle.std.specs.FinMap.{get}
use Rattle.std.specs.FinSet.{contains}
use Rattle.slab.specs.Slab.{get as under}
use Rattle.span_store.specs.private.StoreRepr.{KeptSpans}
use Rattle.span_store.specs.declared.span_record.SpanRecord.{SpanRecord}
use Rattle.span_store.proofs.Stored.{keyed, seen_record}
use Rattle.span_store.proofs.span_store.SpanStore.is_sound.Goals as goal

pub returns : goal.returns
returns c =
    let a = c.self.inside in
    λ x there. ap (λ (s : KeptSpans). contains s.issued x) (sym c.self.view_is)
    ∙ c.is_sound.ensures x
    (keyed (under a.records) (get a.slots.keys x) (subst (λ (o : Option SpanRecord). IsSome o) (sym (seen_record a c.args.self.now x c.self.view_is)) there))
