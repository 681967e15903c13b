use Rattle.span_dispatch.proofs.Alone.{sees_what_is_made}
use Rattle.span_dispatch.proofs.laws.leaves_see_what_their_paths_pass.Goals as goal

pub returns : goal.returns
returns g c =
    λ old new made folds. sees_what_is_made g.S.LookupSpan.registry g.met.S.Subscriber.laws g.met.S.Subscriber.paths g.met.S.Subscriber.reloads made folds
