-- The style of a picture, as the code has it.
use Rattle.std.proofs.Common.{◌≡◌, refl}
use Rattle.span_export.specs.Frame.{style}
use Rattle.span_export.specs.declared.frame.TheConstants.{STYLE}

-- it is the one that is meant
pub style_text : STYLE.now ≡ style
unfolding style
style_text = refl
