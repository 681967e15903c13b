use Rattle.span_stacks.proofs.Parts.{pair_notified}
use Rattle.span_stacks.proofs.layered.LayeredLayer.notify.Goals as goal

pub returns-clause-hook : goal.returns-clause-hook
returns-clause-hook g c =
    pair_notified g.L.Layer.stepped
    g.I.Layer.stepped g.L.Layer.has_form g.I.Layer.has_form c.notify-2.new.ctx c.notify.ensures.hook c.notify.ensures.rest c.notify-2.ensures.hook
