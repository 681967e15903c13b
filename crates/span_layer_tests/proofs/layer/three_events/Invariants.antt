use Rattle.span_layer_tests.proofs.layer.three_events.Given as goal

-- the stack may be called
abbrev pub invariant-loop-level : goal.invariant-loop-level
invariant-loop-level g l = g.S.Subscriber.usable l.stack
