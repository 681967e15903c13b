use Rattle.std.proofs.Common.{◌∙◌, codes, refl, take}
use Rattle.httparse.specs.Spans.{IsResponseOf, IsResponseWithin}
use Rattle.span_sender.proofs.Fields.{named, there}
use Rattle.span_sender.proofs.head.head_in.Goals as goal

pub returns-in-Ok-Complete : goal.returns-in-Ok-Complete
returns-in-Ok-Complete c =
    let h : IsResponseOf c.args.bytes.now c.parse_response.new.headers c.in-Ok-Complete.head =
    rw c.in-Ok-Complete.field-0-is at c.in-Ok-Complete.ensures.complete in
    let w : IsResponseWithin c.args.bytes.now c.parse_response.new.headers c.in-Ok-Complete.head =
    rw c.in-Ok-Complete.field-0-is at c.in-Ok-Complete.ensures.within in
    let fields = take c.in-Ok-Complete.head.headers c.parse_response.new.headers in (
      h.0,
      record {
        reads = h.1.reads;
        within = w.section.len_fits;
        code = h.1.code;
        after = named (codes "retry-after") c.args.bytes.now fields fields h.0 c.number_named.result refl h.1.fields c.number_named.ensures;
        chunks =
            c.is_some.ensures ∙ there (codes "transfer-encoding") c.args.bytes.now fields fields h.0 c.value_named.result refl h.1.fields c.value_named.ensures;
        body = named (codes "content-length")
            c.args.bytes.now fields fields h.0 c.number_named-in-Ok-Complete.result refl h.1.fields c.number_named-in-Ok-Complete.ensures;
      },
    )
