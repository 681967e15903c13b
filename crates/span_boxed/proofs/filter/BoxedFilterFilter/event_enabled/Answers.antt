use Rattle.std.proofs.Common.{ap, subst, sym, ◌∙◌}
use Rattle.span_boxed.specs.Filter.{itself}
use Rattle.span_filters.specs.Filter.{SaysEvent}
use Rattle.span_boxed.proofs.FilterLemmas.{asked_of_object}
use Rattle.span_registry.proofs.CallerLemmas.{view_at_root}
use Rattle.span_registry.specs.Context.{view_in}
use Rattle.span_boxed.proofs.filter.BoxedFilterFilter.event_enabled.Goals as goal

pub dyn_event_enabled-requires : goal.dyn_event_enabled-requires
dyn_event_enabled-requires g c κs = asked_of_object _ _ _ _ (subst (λ z. (goal.DynFilter-dyn g z).dyn_usable z.1) (sym c.deref_box-1.ensures.1) c.requires)

pub returns : goal.returns
returns g c a h =
    subst (λ z. SaysEvent ((goal.DynFilter-dyn g z).dyn_answers z.1) c.args.event.now (view_in itself c.to_root.result) c.dyn_event_enabled.result)
    c.deref_box-1.ensures.1 c.dyn_event_enabled.ensures a h.answered
    ∙ ap (a.event c.args.event.now) (view_at_root g.S.LookupSpan.registry c.args.cx.now c.to_root.result c.to_root.ensures)
