use Rattle.std.proofs.Common.{rules}
use Rattle.span_log.proofs.Back.{has_only}
use Rattle.span_log.proofs.laws.records_come_back.Goals as goal

pub returns : goal.returns
returns c of text e r sent logged =
    let found = has_only _ _ _ sent.fields in
    record {
      level = search rules;
      target = search rules;
      message = search rules;
      pairs = search rules;
    }
