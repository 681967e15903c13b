use Rattle.std.proofs.Common.{◌≡◌, ap, sym, ◌∙◌, IfOk, subst, Option, Some, None}
use Rattle.serde_json.specs.Data.{Data}
use Rattle.serde_json.specs.View.{view}
use Rattle.span_sender.specs.Reply.{json_in, partial_in}
use Rattle.span_sender.specs.private.Partial.{Says}
use Rattle.span_sender.proofs.Replies.{fails, is_json, is_none}
use Rattle.span_sender.proofs.partial.partial_in.Goals as goal

pub returns-in-Ok : goal.returns-in-Ok
returns-in-Ok c =
    let read = c.in-Ok.ensures.ok in
    let json : json_in c.args.body.now ≡ Some (view c.in-Ok.value) = is_json c.args.body.now (view c.in-Ok.value) read.0 read.1 in
    let P : Option Data → Type 0 = λ o. IfOk c.said_by.result (Says o) in
    subst P (c.get.ensures ∙ sym (ap (λ (o : Option Data). partial_in o) json)) c.said_by.ensures

pub returns-in-Err-2 : goal.returns-in-Err-2
returns-in-Err-2 c =
    let none : json_in c.args.body.now ≡ None =
    is_none c.args.body.now (c.in-Err.ensures.err (fails _ _ c.is_memory.ensures.1 c.if-is_memory.false)) in
    let P : Option Data → Type 0 = λ o. IfOk c.said_by-in-Err-2.result (Says o) in
    subst P (sym (ap (λ (o : Option Data). partial_in o) none)) c.said_by-in-Err-2.ensures
