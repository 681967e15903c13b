use Rattle.std.proofs.Common.{Bool, ap, ◌∙◌}
use Rattle.span_core.specs.declared.metadata.Metadata.{Metadata}
use Rattle.span_filters.specs.laws.Closure.{made_of_test}
use Rattle.span_registry.proofs.CallerLemmas.{view_looked_at}
use Rattle.span_registry.specs.Context.{view_in}
use Rattle.span_registry.specs.View.{View}
use Rattle.span_examples.specs.Filters.{is_marked}
use Rattle.span_examples.proofs.filter.wants_in_marked.Goals as goal

pub returns : goal.returns
returns g c =
    let marked : Metadata → View → Bool = λ m v. is_marked g.T.ExtensionValue.place c.args.mark v in
    c.enabled.ensures _
    (made_of_test _ _ _ _ _ marked c.dynamic_filter_fn-filter.ensures (λ m n r h. h.says.met ∙ ap (λ k. marked m (view_in (λ s. s) k)) h.shows.1))
    ∙ ap (marked c.args.meta.now) (view_looked_at (λ s. s) _ _ _ _ c.new.ensures)
