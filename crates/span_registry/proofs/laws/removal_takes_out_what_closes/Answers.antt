use Rattle.span_registry.proofs.CallerLemmas.{closes_alone, closes_with_hooks, settled_closed}
use Rattle.span_registry.proofs.laws.removal_takes_out_what_closes.Goals as goal

pub returns : goal.returns
returns c = λ s t id closed. record {
  alone = λ h. closes_alone s t id closed h;
  hooks = λ h. closes_with_hooks s t id closed h;
  settled = λ h. settled_closed s t id closed h;
}
