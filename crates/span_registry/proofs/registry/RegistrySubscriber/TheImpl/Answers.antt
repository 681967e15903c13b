use Rattle.std.specs.Prelude.{◌≡◌, refl}
use Rattle.std.proofs.lemmas.Result.{IfOk-weaker, on_ok_weaker}
use Rattle.span_core.specs.Filters.{FilterSet}
use Rattle.span_core.specs.declared.span.Lane.{Lane}
use Rattle.span_store.specs.Step.{Enters, Opens, asked}
use Rattle.span_store.specs.Store.{RegistryState}
use Rattle.span_registry.specs.Behaviour.{Notice, OnEnter, OnNewSpan}
use Rattle.span_registry.specs.Form.{Terminal, Base}
use Rattle.span_registry.specs.Hooks.{Notifies, OpensAndNotifies, no_filter}
use Rattle.span_registry.specs.Plan.{Plan}
use Rattle.span_registry.specs.Question.{refusals}
use Rattle.span_registry.proofs.registry.RegistrySubscriber.TheImpl.Goals as goal

-- a registry alone has no layer to notify
alone : (lane : Lane) (refused : FilterSet) (e : Notice) (step : RegistryState → RegistryState → Type 0) (old new : RegistryState) → step old new
    → Notifies (λ (s : RegistryState). s) (λ s f. f ≡ Terminal Base) (λ x (p : Plan) d l v y w. w ≡ v) lane refused e step old new
alone lane refused e step old new h = record {
  left = new;
  taken = h;
  extensions = record { spans = refl; issued = refl; stacks = refl; limits = refl; filters = refl; retired = refl; reserved = refl };
  notified = λ f d q. refl;
}

pub new_span-tells : goal.new_span-tells
new_span-tells c =
    let old = c.args.self.now in
    let new = c.new.self.now in
    let lane = c.args.lane in
    let attrs = c.args.attrs.now in
    let pass = c.args.pass.now in
    record {
      usable = tt;
      opened = IfOk-weaker c.result (λ id. Opens lane (asked attrs pass) id old new)
          (OpensAndNotifies (λ (s : RegistryState). s) (λ s f. f ≡ Terminal Base) (λ x p e l v y w. w ≡ v) lane attrs pass old new)
          (λ id o. alone lane (refusals pass) (OnNewSpan attrs id) (Opens lane (asked attrs pass) id) old new o) c.ensures.opened;
      refused = c.ensures.refused;
      unchanged = c.ensures.unchanged;
    }

pub enter-tells : goal.enter-tells
enter-tells c = record {
  usable = tt;
  entered =
      on_ok_weaker c.result (alone c.args.lane no_filter (OnEnter c.args.id) (Enters c.args.lane c.args.id) c.args.self.now c.new.self.now) c.ensures.entered;
  refused = c.ensures.refused;
  unchanged = c.ensures.unchanged;
}
