use Rattle.std.proofs.Common.{subst}
use Rattle.std.proofs.lemmas.Result.{IfOk-weaker}
use Rattle.span_appender.specs.Place.{Reaches}
use Rattle.span_appender.specs.Rolling.{Settings, place_of}
use Rattle.span_appender.proofs.rolling.RollingFileAppender.put.Goals as goal

pub returns-clause-some : goal.returns-clause-some
returns-clause-some g c = λ _.
    IfOk-weaker c.write_share.result _ _
    (λ count h. (
      c.in_ok-today.today,
      place_of c.roll.new.self,
      c.in_ok-roll.ensures.ok,
      subst (λ (s : Settings). Reaches s.rotation (place_of c.roll.new.self) c.args.text.now count (place_of c.write_share.new.self))
          c.roll.ensures.settings h,
    ))
    c.write_share.ensures.ok
