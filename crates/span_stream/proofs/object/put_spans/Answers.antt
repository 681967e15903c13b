use Rattle.std.proofs.Common.{◌≡◌, List, ◌-◌, ◌<◌, get_or, length, subst}
use Rattle.std.proofs.lemmas.Result.{on_ok_weaker}
use Rattle.serde_json.proofs.Views.{view-Array}
use Rattle.serde_json.specs.declared.value.Value.{Value}
use Rattle.span_stream.proofs.Valued.{spans_put}
use Rattle.span_stream.proofs.object.put_spans.Goals as goal

pub returns : goal.returns
returns c =
    let v = c.in-Some.innermost.now in
    let some = subst (λ (xs : List Value). 0 < length xs) c.deref.ensures.value c.in-Some.ensures.item.3.0 in
    let is = subst (λ (xs : List Value). v ≡ get_or xs (length xs - 1) v) c.deref.ensures.value c.in-Some.ensures.item.1 in
    on_ok_weaker c.put-2.result
    (λ put.
    spans_put c.args.spans.items v c.in_ok-clone.field-0 _ _ _ _ some is c.in_ok-clone.ensures.cases c.in_ok-put.ensures.ok (view-Array c.args.spans) put)
    c.put-2.ensures.ok
