use Rattle.span_appender.proofs.name.day_text.Goals as goal

pub returns : goal.returns
returns c = (c.in-Some.date, c.in-Some.ensures.value, c.in_ok-text.ensures)
