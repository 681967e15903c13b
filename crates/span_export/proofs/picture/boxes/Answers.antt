use Rattle.std.proofs.Common.{◌≡◌, ◌∙◌, None, ap, arith, get_or, string_bytes}
use Rattle.span_core.specs.Span.{number_of}
use Rattle.span_export.proofs.Joined.{one_more_written}
use Rattle.span_export.proofs.picture.boxes.Goals as goal
use Rattle.span_export.specs.Picture.{box_of, top_in}
use Rattle.span_export.specs.Site.{named_by, named_so}
use Rattle.span_export.specs.declared.stay.Stay.{Stay}

pub loop-stay-preserved : goal.loop-stay-preserved
loop-stay-preserved c =
    let scale = c.args.scale.now in
    let named = named_by c.args.spans.now in
    let none : Stay = record { lane = record { 0 = 0 }; depth = 0; span = record { number = 0 }; entered = 0; left = None } in
    let i = c.loop-stay.stay-index in
    let s = get_or c.args.stays.now i none in
    let shown = named_so c.name-name.result in
    let same : box_of scale c.top_of.result shown s ≡ box_of scale (top_in c.args.tops.now s.lane.0) (named (number_of s.span)) s =
    ap (λ t. box_of scale t shown s) c.top_of.ensures ∙ ap (λ o. box_of scale (top_in c.args.tops.now s.lane.0) o s) c.name-name.ensures in
    one_more_written (λ s. box_of scale (top_in c.args.tops.now s.lane.0) (named (number_of s.span)) s)
    c.args.stays.now i none (string_bytes c.loop-stay.text) (string_bytes c.write_box.new.text) (box_of scale c.top_of.result shown s) (omega arith)
    c.loop-stay.invariant c.in_ok-write_box.ensures same
