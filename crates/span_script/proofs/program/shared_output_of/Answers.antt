use Rattle.std.proofs.Common.{string_bytes}
use Rattle.span_script.proofs.Written.{one_ok}
use Rattle.span_script.specs.Printed.{GivesShared}
use Rattle.span_script.specs.Program.{PrintsShared}
use Rattle.span_script.specs.Script.{lines_of, requests_of, stack_of}
use Rattle.span_script.proofs.program.shared_output_of.Goals as goal

pub returns-clause-printed : goal.returns-clause-printed
returns-clause-printed g c =
    let script = c.in_ok-script.script in
    one_ok c.text_by.result (λ r. GivesShared (stack_of script) script (string_bytes r.0))
    (λ r. PrintsShared c.args.text.now (string_bytes r.0)) c.text_by.ensures.shared
    (λ r printed. record {
      stack = stack_of script;
      lines = lines_of script;
      requests = requests_of script;
      spelled = c.in_ok-script.ensures.spelled;
      asked = c.in_ok-script.ensures.script.asked;
      printed = printed;
    })
