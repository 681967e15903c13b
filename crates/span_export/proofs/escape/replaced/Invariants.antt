use Rattle.std.proofs.Common.{◌≡◌, ◌++◌, length, string_bytes}
use denote.Text.{Utf8}
use denote.Shadow.{shadow}
use Rattle.span_export.specs.Escape.{replace}
use Rattle.span_export.proofs.escape.replaced.Given as goal

-- what is written and what is left make the whole
abbrev pub invariant-loop-front : goal.invariant-loop-front
invariant-loop-front l = shadow (Utf8 l.rest) × (string_bytes l.new ++ replace l.character l.so l.rest ≡ replace l.character l.so l.text)

abbrev pub decreases-loop-front : goal.decreases-loop-front
decreases-loop-front l = length l.rest
