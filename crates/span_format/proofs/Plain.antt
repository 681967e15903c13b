-- Lines are the same, extensions aside.
use Rattle.std.proofs.Common.{◌≡◌, ◌≢◌, ℕ, List, [], ◌∷◌, ◌++◌, ap}
use Rattle.std.specs.Prelude.{codes}
use Rattle.span_core.specs.Event.{event_metadata}
use Rattle.span_core.specs.Filters.{FilterSet}
use Rattle.span_core.specs.Metadata.{level_of}
use Rattle.span_core.specs.declared.event.Event.{Event}
use Rattle.span_fmt.specs.Known.{SpanTexts}
use Rattle.span_fmt.specs.Lines.{spaced}
use Rattle.span_format.proofs.Around.{from_root_plainly, outwards_plainly}
use Rattle.span_format.specs.Line.{at_text, compact_line, full_line, line_in, place_part, pretty_line, said}
use Rattle.span_format.specs.Look.{Looks, begun_text, level_column, target_text}
use Rattle.span_format.specs.declared.layout.Layout.{Layout}
use Rattle.span_format.specs.declared.layout.Layout.TheVariants as layout
use Rattle.span_format.specs.declared.part.Part.TheVariants as part
use Rattle.span_registry.specs.Law.{ShowsPlainly}
use Rattle.span_registry.specs.View.{View, plain_view, view_of}
use Rattle.span_store.specs.Store.{Store}

module _ (s : Store) (lane : ℕ) (mask : FilterSet) (law : ShowsPlainly s lane mask) (look : Looks) (e : Event) (kept : SpanTexts) where
  full_plainly : full_line look e (view_of s lane mask) kept ≡ full_line look e (plain_view s lane mask) kept
  full_plainly =
      ap (λ (around : List ℕ). begun_text look lane (level_of (event_metadata e))
      ++ spaced around ++ target_text look (event_metadata e) ++ said look e ++ codes "\n")
      (from_root_plainly s lane mask law (part.Label look.ansi) e kept)

  compact_plainly : compact_line look e (view_of s lane mask) kept ≡ compact_line look e (plain_view s lane mask) kept
  compact_plainly = λ i.
      begun_text look lane (level_of (event_metadata e)) ++ spaced (from_root_plainly s lane mask law (part.Name look.ansi) e kept i)
      ++ target_text look (event_metadata e) ++ said look e ++ from_root_plainly s lane mask law part.Fields e kept i ++ codes "\n"

  pretty_plainly : pretty_line look e (view_of s lane mask) kept ≡ pretty_line look e (plain_view s lane mask) kept
  pretty_plainly =
      ap (λ (around : List ℕ).
      level_column look (level_of (event_metadata e)) ++ said look e ++ codes "\n" ++ at_text look lane (event_metadata e) ++ around ++ codes "\n")
      (outwards_plainly s lane mask law (place_part look) e kept)

  pub line_plainly : (how : Layout) → line_in how look e (view_of s lane mask) kept ≡ line_in how look e (plain_view s lane mask) kept
  line_plainly layout.Full = full_plainly
  line_plainly layout.Compact = compact_plainly
  line_plainly layout.Pretty = pretty_plainly

-- ---- a line is never empty

behind : (front more : List ℕ) → more ≢ [] → (front ++ more) ≢ []
behind [] more filled e = filled e
behind (y ∷ ys) more filled e = cc

ended : (front : List ℕ) → (front ++ codes "\n") ≢ []
ended front = behind front (codes "\n") (λ e. cc)

pub line_filled : (how : Layout) (look : Looks) (e : Event) (v : View) (kept : SpanTexts) → line_in how look e v kept ≢ []
line_filled layout.Full look e v kept = ended _
line_filled layout.Compact look e v kept = ended _
line_filled layout.Pretty look e v kept = ended _
