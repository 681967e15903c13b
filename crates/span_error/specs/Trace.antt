-- The text of the spans that a lane is in.
use Rattle.std.specs.Prelude.{◌≡◌, ◌==◌, ◌+◌, ◌-◌, ◌^◌, if◌then◌else◌, ℕ, false, List, [], ◌∷◌, ◌++◌, String, codes, decimal, min, string_bytes}
use Rattle.std.specs.Fmt.{format_spec, padded_integral}
use Rattle.std.specs.Option.{option_map_or}
use Rattle.std.specs.declared.alloc.Global.{Global}
use Rattle.span_core.specs.Metadata.{name_of, target_of}
use Rattle.span_core.specs.declared.metadata.Metadata.{Metadata}
use Rattle.span_core.specs.declared.span.Lane.{Lane}
use Rattle.span_dispatch.specs.Contract.{SubscriberOf}
use Rattle.span_dispatch.specs.Serve.{stack_of}
use Rattle.span_error.specs.Kept.{kept_text}
use Rattle.span_error.specs.declared.trace.SpanTrace.{SpanTrace}
use Rattle.span_extensions.specs.Extensions.{Place}
use Rattle.span_fmt.specs.Escape.{escaped}
use Rattle.span_registry.specs.Hooks.{no_filter}
use Rattle.span_registry.specs.References.{Reference, references_to}
use Rattle.span_registry.specs.View.{current_shown, view_of}
use Rattle.span_store.specs.Store.{RegistryState}
use Rattle.span_tracer.specs.Receiver.{ServesSome}

-- what a trace says
abbrev pub text_of : SpanTrace → List ℕ
text_of trace = string_bytes trace.text

-- a number at the right of four columns, as `{:>4}` writes it
abbrev pub number_text : ℕ → List ℕ
number_text n = padded_integral (format_spec 32 3 0 4 (2 ^ 64 - 1)) false [] (decimal n)

-- how the lines of a span begin: with its number, and for all but the first in a new line
abbrev pub begun_line : ℕ → List ℕ
begun_line n = (if n == 0 then [] else codes "\n") ++ number_text n ++ codes ": "

-- the text of fields in a line of its own, and none where there is no text
abbrev pub fields_line : List ℕ → List ℕ
fields_line [] = []
fields_line (b ∷ bytes) = codes "\n           with" ++ (b ∷ bytes)

-- the lines of a span: its number, its target and its name, and below them its fields
abbrev pub span_lines : ℕ → Metadata → List ℕ → List ℕ
span_lines n m fields =
    begun_line n ++ escaped (target_of m) ++ codes "::" ++ escaped (name_of m) ++ fields_line fields

-- the number behind this one, up to the last
abbrev pub next_number : ℕ → ℕ
next_number n = min (n + 1) (2 ^ 64 - 1)

module _ (texts : Place (String Global)) {S : Type 0} where
  -- the lines of the span that a reference is to, with what its extensions have of its fields
  abbrev pub reference_lines : ℕ → Reference S → List ℕ
  reference_lines n r =
      option_map_or
      (λ s. span_lines n s.metadata (option_map_or (kept_text texts) r.extensions [])) r.span []

  -- the lines of these spans, numbered from n on
  abbrev pub lines_from : ℕ → List (Reference S) → List ℕ
  lines_from n [] = []
  lines_from n (r ∷ rs) = reference_lines n r ++ lines_from (next_number n) rs

  -- the text of these spans: their lines, numbered from 0 on
  abbrev pub trace_text : List (Reference S) → List ℕ
  trace_text rs = lines_from 0 rs

-- the spans that a lane of a stack is in: its current span and those above it, innermost first
abbrev pub spans_around : {S : Type 0} → (S → RegistryState) → S → Lane → List (Reference S)
spans_around registry s lane =
    references_to registry s no_filter
    (current_shown (view_of (registry s).store lane.0 no_filter))

-- the text of the spans that a lane of a stack is in
abbrev pub around_text : (texts : Place (String Global)) {S : Type 0} → (S → RegistryState) → S
    → Lane → List ℕ
around_text texts registry s lane = trace_text texts (spans_around registry s lane)

-- a trace is of the spans that this lane is in at some dispatcher, as a receiver keeps it
abbrev pub Captures : (texts : Place (String Global)) {S : Type 0} → SubscriberOf S → Lane
    → SpanTrace → Type 0
Captures texts s lane trace =
    ServesSome s (λ old new. text_of trace ≡ around_text texts s.registry (stack_of old) lane)
