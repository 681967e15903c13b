-- What the filter of a test passes. No public clause cites it.
use Rattle.std.specs.Prelude.{Bool, Option, true, false, is_some, ◌||◌}
use Rattle.std.specs.Option.{option_and_then}
use Rattle.span_core.specs.Metadata.{kind_of}
use Rattle.span_core.specs.declared.metadata.Makes.{Makes}
use Rattle.span_core.specs.declared.metadata.Makes.TheVariants.{Spans, Events}
use Rattle.span_core.specs.declared.metadata.Metadata.{Metadata}
use Rattle.span_extensions.specs.Extensions.{Place, value_under}
use Rattle.span_extensions.specs.declared.extensions.ExtensionMap.{ExtensionMap}
use Rattle.span_extensions.specs.declared.tag.Tag.{Tag}
use Rattle.span_registry.specs.View.{View, current_shown, extensions_shown}

-- whether this makes spans
abbrev pub makes_spans : Makes → Bool
makes_spans Spans = true
makes_spans Events = false

-- whether a callsite with this metadata makes spans
abbrev pub is_of_spans : Metadata → Bool
is_of_spans m = makes_spans (kind_of m).0

-- the extensions of the span that the lane is in, as the view shows it
abbrev pub current_extensions : View → Option ExtensionMap
current_extensions v = option_and_then (λ x. extensions_shown x v) (current_shown v)

-- whether that span has a value under this tag
abbrev pub is_marked : {T : Type 0} → Place T → Tag T → View → Bool
is_marked place mark v =
    is_some (option_and_then (λ m. value_under place m mark) (current_extensions v))

-- all spans, and events in a span with a value under this tag
abbrev pub in_marked : {T : Type 0} → Place T → Tag T → Metadata → View → Bool
in_marked place mark m v = is_of_spans m || is_marked place mark v
