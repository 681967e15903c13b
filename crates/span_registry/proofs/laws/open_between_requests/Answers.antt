use Rattle.span_registry.proofs.laws.open_between_requests.Goals as goal

pub returns : goal.returns
returns c = λ m x settled. (λ there. (there.0, there.1, settled x there.0 there.1), λ o. (o.0, o.1))
