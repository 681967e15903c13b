use Rattle.span_layer_tests.proofs.store_fixture.drop_handle.Goals as goal

pub loop-next-smaller : goal.loop-next-smaller
loop-next-smaller c = c.remove-next.ensures.fewer
