-- A list that is served with an observer outermost, which writes what it hears.
use Rattle.std.proofs.Common.{◌≡◌, List, Ok, length}
use Rattle.std.specs.declared.alloc.Global.{Global}
use Rattle.std.specs.declared.vec.Vec.{Vec}
use Rattle.span_dispatch.specs.Contract.{ServesList, StaysReadyWith, SubscriberOf}
use Rattle.span_dispatch.specs.declared.dispatch.Dispatch.{Dispatch}
use Rattle.span_dispatch.specs.declared.request.Answer.{Answer}
use Rattle.span_dispatch.specs.declared.request.Request.{Request}
use Rattle.span_stacks.specs.Filtered.{layer_of}
use Rattle.span_stacks.specs.Layered.{outer_of}
use Rattle.span_layers.specs.Observe.{ObserverSteps}
use Rattle.span_registry.specs.Position.{Heard}
use Rattle.span_fmt.specs.Serve.{ServesOutermost, WithObserver, observer_position}
use Rattle.span_fmt.specs.Told.{ObserverHears, WritesWhatItHears}
use Rattle.span_registry.specs.Reload.{KeepsRules}

-- what such a stack says of its outermost observer is that it goes by these steps
abbrev pub HearsBySteps : {T S : Type 0} → SubscriberOf (WithObserver T S) → ObserverSteps T → Type 0
HearsBySteps {T} {S} s observed =
    (x y : WithObserver T S) (heard : Heard)
    → s.hears x observer_position heard y → ObserverHears observed (layer_of (outer_of x)) heard (layer_of (outer_of y))

module _ {T S : Type 0} {s : SubscriberOf (WithObserver T S)} (observed : ObserverSteps T) {writes : Heard → T → T → Type 0} where
  pub served_outermost : WritesWhatItHears observed writes
      → HearsBySteps s observed
      → (requests : List Request) (answers : Vec Answer Global) (old new : Dispatch (WithObserver T S)) → StaysReadyWith s KeepsRules old new
      → ServesList s requests old new answers → length answers.items ≡ length requests → ServesOutermost writes s requests (Ok answers) old new
  served_outermost law hears requests answers old new ready served each = record {
    ready = ready;
    written = λ now.
        let done = served now in
        record { served = done; written = law _ _ _ (hears _ _ _ (done.each observer_position)) };
    length = each;
    memory = tt;
    unchanged = tt;
  }
