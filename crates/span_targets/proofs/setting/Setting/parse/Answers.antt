use Rattle.span_targets.proofs.setting.Setting.parse.Goals as goal

pub returns : goal.returns
returns c = (c.in_ok-filter.filter, c.in_ok-leak.ensures, c.in_ok-filter.ensures)
