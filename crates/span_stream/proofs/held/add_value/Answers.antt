use Rattle.std.proofs.Common.{◌∙◌, sym}
use Rattle.span_stream.proofs.Holding.{waiting_more}
use Rattle.span_stream.proofs.held.add_value.Goals as goal

pub returns : goal.returns
returns c =
    waiting_more c.args.waiting.now.items c.push.new.self.items (c.in_ok-name.name, c.in_ok-value.value) c.args.name.now c.args.value
    c.in_ok-push.ensures.items c.in_ok-name.ensures.ok c.in_ok-value.ensures (sym c.is_absent.ensures ∙ c.if-is_absent.false)
