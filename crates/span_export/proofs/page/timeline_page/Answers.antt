use Rattle.std.proofs.Common.{◌≡◌, ◌∙◌, ◌++◌, ap, string_bytes}
use Rattle.span_export.specs.declared.page.TheConstants.{PAGE_HEAD, PAGE_TAIL}
use Rattle.span_export.proofs.page.timeline_page.Goals as goal

pub returns : goal.returns
returns c =
    let picture = string_bytes c.in_ok-picture.picture in
    let begun : string_bytes c.push_str.new.self ≡ PAGE_HEAD.now ++ picture =
    c.in_ok-push_str.ensures.bytes ∙ ap (λ t. t ++ c.as_str.result.now) c.in_ok-page.ensures.ok ∙ ap (λ t. PAGE_HEAD.now ++ t) c.as_str.ensures.value in
    record {
      picture = picture;
      pictured = c.in_ok-picture.ensures;
      around = c.in_ok-push_str-2.ensures.bytes ∙ ap (λ t. t ++ PAGE_TAIL.now) begun;
    }
