use Rattle.std.proofs.Common.{◌≡◌, ◌∙◌, ◌++◌, ℕ, List, ap, arith, codes, string_bytes, subst}
use Rattle.std.proofs.lemmas.Result.{IfOk-weaker}
use Rattle.span_export.proofs.Fits.{plan_fits}
use Rattle.span_export.proofs.picture.timeline_svg.Goals as goal
use Rattle.span_export.specs.Frame.{frame_text}
use Rattle.span_export.specs.Picture.{boxes_text, marks_text, stays_of, top_in}
use Rattle.span_export.specs.Scale.{scale_of}
use Rattle.span_export.specs.Site.{Named, named_by, named_in}
use Rattle.span_export.specs.private.Plan.{IsPlanOf}
use Rattle.span_export.specs.declared.picture.Scale.{Scale}
use Rattle.span_export.specs.declared.stay.Stay.{Stay}

pub returns : goal.returns
returns c =
    let ps = c.args.points.now in
    let table = c.args.table in
    let named = named_in table ps in
    let same : named_by c.in_ok-spans.spans ≡ named = λ j x. c.in_ok-spans.ensures x j in
    let scale = scale_of ps c.args.width in
    let plan = c.in_ok-plan.plan in
    let top = top_in plan.tops in
    let all : c.deref-2.result.now ≡ stays_of ps = c.deref-2.ensures.value ∙ c.in_ok-stays.ensures in
    let boxes : string_bytes c.in_ok-boxes.boxes ≡ boxes_text named scale top (stays_of ps) =
    c.in_ok-boxes.ensures ∙ ap (λ (n : ℕ → Named). boxes_text n c.of-scale.result top c.deref-2.result.now) same
    ∙ ap (λ s. boxes_text named s top c.deref-2.result.now) c.of-scale.ensures ∙ ap (boxes_text named scale top) all in
    let marks : string_bytes c.in_ok-marks.marks ≡ marks_text table scale top ps =
    c.in_ok-marks.ensures ∙ ap (λ s. marks_text table s top ps) c.of-scale.ensures in
    let frame : string_bytes c.in_ok-frame.frame ≡ frame_text scale plan = c.in_ok-frame.ensures ∙ ap (λ s. frame_text s plan) c.of-scale.ensures in
    let planned : IsPlanOf plan scale ps (stays_of ps) =
    subst (λ (s : Scale). IsPlanOf plan s ps (stays_of ps)) c.of-scale.ensures
    (subst (λ (ss : List Stay). IsPlanOf plan c.of-scale.result ps ss) (c.deref.ensures.value ∙ c.in_ok-stays.ensures) c.in_ok-plan.ensures) in
    IfOk-weaker c.assembled.result _ _ (λ svg whole. record {
      plan = plan;
      fits = plan_fits plan ps c.args.width planned (omega arith);
      shows = whole ∙ ap (λ t. string_bytes c.in_ok-frame.frame ++ t ++ string_bytes c.in_ok-marks.marks ++ codes "</svg>\n") boxes
          ∙ ap (λ t. string_bytes c.in_ok-frame.frame ++ boxes_text named scale top (stays_of ps) ++ t ++ codes "</svg>\n") marks
          ∙ ap (λ t. t ++ boxes_text named scale top (stays_of ps) ++ marks_text table scale top ps ++ codes "</svg>\n") frame;
    }) (rw (c.deref-3.ensures, c.deref-4.ensures, c.deref-5.ensures) at c.assembled.ensures)
