use Rattle.std.proofs.Common.{◌≡◌, ◌≤◌, ◌∙◌, Some, ap, map, string_bytes, subst, sym}
use Rattle.serde_json.specs.Data.{Data, depth}
use Rattle.serde_json.specs.Read.{max_depth, read}
use Rattle.serde_json.specs.View.{view}
use Rattle.span_otlp.specs.Batch.{request_value}
use Rattle.span_otlp.specs.private.Sent.{request_so_far}
use Rattle.span_otlp.proofs.batch.Batches.send.Goals as goal

pub returns : goal.returns
returns c =
    let plan = c.args.plan in
    let line = c.in_ok-to_string.field-0 in
    let shown : view c.in_ok-request.request ≡ request_so_far plan c.args.self.now =
    c.in_ok-request.ensures ∙ ap (λ v. request_value plan.signal plan.trace.now (map view v.items)) c.replace-values.ensures.value in
    record {
      line = line;
      more = c.in_ok-push.ensures.items;
      means = subst (λ (d : Data). depth d ≤ max_depth → read (string_bytes line) ≡ Some d) shown c.in_ok-to_string.ensures.reads_back;
      compact = sym c.in_ok-to_string.ensures.compact;
      none = ap (λ v. v.items) c.replace-values.ensures.after ∙ c.new.ensures.items;
    }
