use Rattle.std.proofs.Common.{subst, sym}
use Rattle.span_boxed.proofs.BoxLemmas.{answered_at_root, asked_of_object}
use Rattle.span_boxed.specs.Filter.{itself}
use Rattle.span_registry.specs.Context.{filters_in, lane_in, store_in}
use Rattle.span_registry.specs.Question.{AnswersBy, asked}
use Rattle.span_boxed.proofs.boxed.BoxedLayerLayer.enabled.Goals as goal

pub dyn_enabled-requires : goal.dyn_enabled-requires
dyn_enabled-requires g c κs = asked_of_object _ _ _ _ (subst (λ z. (goal.DynLayer-dyn g z).dyn_usable z.1) (sym c.deref_box-1.ensures.1) c.requires.0)

pub returns : goal.returns
returns g c =
    let root = c.to_root.result in
    answered_at_root g.S.LookupSpan.registry c.args.ctx.now root c.to_root.ensures _ (λ f. asked f c.args.meta.now) _ _ _
    (subst (λ z. AnswersBy ((goal.DynLayer-dyn g z).dyn_form z.1) (λ f. asked f c.args.meta.now (store_in itself root) (lane_in root).0 (filters_in root))
    c.args.pass.now c.dyn_enabled.result c.dyn_enabled.new.pass) c.deref_box-1.ensures.1
    c.dyn_enabled.ensures)
