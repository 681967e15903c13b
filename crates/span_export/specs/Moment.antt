-- How spans are called in a trace.
use Rattle.std.specs.Prelude.{ℕ}
use Rattle.span_export.specs.Site.{Named, named_by}
use Rattle.span_export.specs.declared.chrome.Moment.{Moment}

-- what a span is called, and what it was given
abbrev pub names : Moment → ℕ → Named
names m x = named_by m.spans.now x
