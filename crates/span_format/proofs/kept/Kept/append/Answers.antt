use Rattle.std.proofs.Common.{rules, string_bytes}
use Rattle.span_format.proofs.Appended.{appended}
use Rattle.span_format.proofs.kept.Kept.append.Goals as goal

pub returns-in-Some-clause-added : goal.returns-in-Some-clause-added
returns-in-Some-clause-added c =
    let w = c.push_str.new.self in
    appended c.push_str.result c.args.self.now.texts (c.get_mut.follows.lender w) c.args.id.number c.in-Some.text.now w (string_bytes c.args.added)
    (search rules) (search rules) (search rules)
