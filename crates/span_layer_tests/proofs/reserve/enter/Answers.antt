use Rattle.span_layer_tests.proofs.Reserved.{enters}
use Rattle.span_layer_tests.proofs.reserve.enter.Goals as goal

pub returns : goal.returns
returns c = enters c.args.registry.now c.args.lane c.args.id c.enter.result c.enter.ensures.refused
