use Rattle.std.proofs.Common.{◌∙◌, ◌++◌, Some, None, ap, arith, rules, string_bytes, sym}
use Rattle.std.proofs.lemmas.Str.Pattern.{split_parts}
use Rattle.span_export.proofs.Replaced.{cut_written, same}
use Rattle.span_export.proofs.escape.replaced.Goals as goal

pub loop-front-preserved : goal.loop-front-preserved
loop-front-preserved c =
    let rest = c.loop-front.rest.now in
    let front = c.in-Some.front in
    let back = c.in-Some.back in
    let parts = split_parts c.args.character rest (Some (front, back)) c.in-Some.ensures.cases (omega arith) in (
      search rules,
      cut_written c.args.character c.args.so.now
          c.args.text.now (string_bytes c.loop-front.new) (string_bytes c.push_str.new.self) (string_bytes c.push_str-in-Some.new.self) rest front.now back.now
          c.in_ok-push_str.ensures.bytes c.in_ok-push_str-2.ensures.bytes parts.0 parts.1 c.loop-front.invariant.1,
    )

pub returns : goal.returns
returns c =
    let rest = c.loop-front.rest.now in
    let none = split_parts c.args.character rest None (rw c.in_default.is at c.split_once.ensures.cases) (omega arith) in
    c.in_ok-push_str-3.ensures.bytes
    ∙ ap (λ t. string_bytes c.loop-front.new ++ t) (sym (same c.args.character c.args.so.now rest none)) ∙ c.loop-front.invariant.1
