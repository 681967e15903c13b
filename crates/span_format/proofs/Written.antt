-- What is written of an event is its line.
use Rattle.std.proofs.Common.{◌≡◌, ◌∙◌, ℕ, List, ◌++◌, ap}
use Rattle.std.specs.Borrow.{Bor}
use Rattle.std.specs.Prelude.{codes}
use Rattle.span_core.specs.Event.{event_metadata, event_values}
use Rattle.span_core.specs.Metadata.{level_of}
use Rattle.span_core.specs.declared.event.Event.{Event}
use Rattle.span_core.specs.declared.field.FieldValue.{FieldValue}
use Rattle.span_core.specs.declared.level.Level.{Level}
use Rattle.span_core.specs.declared.metadata.Metadata.{Metadata}
use Rattle.span_fmt.specs.Known.{SpanTexts}
use Rattle.span_fmt.specs.Lines.{spaced}
use Rattle.span_format.specs.Field.{words_text}
use Rattle.span_format.specs.Line.{at_text, compact_line, full_line, place_part, pretty_line}
use Rattle.span_format.specs.Look.{Looks, begun_text, level_column, target_text}
use Rattle.span_format.specs.Part.{from_root, outwards}
use Rattle.span_format.specs.declared.part.Part.TheVariants as part
use Rattle.span_registry.specs.View.{View}

-- the parts of the event that the line is of
pub record IsOf (e : Event) (v : View) (lane : ℕ) (level : Level) (m : Metadata) (values : List (Bor (List ℕ) × FieldValue)) : Type 0 where
  pub lane_is : lane ≡ v.lane
  pub level_is : level ≡ level_of (event_metadata e)
  pub metadata_is : m ≡ event_metadata e
  pub values_are : values ≡ event_values e

module _ (look : Looks) (e : Event) (v : View) (kept : SpanTexts) (lane : ℕ) (level : Level) (m : Metadata) (values : List (Bor (List ℕ) × FieldValue))
    (of : IsOf e v lane level m values) where
  -- in full
  pub full_written : (a b d f g around : List ℕ)
      → a ≡ begun_text look lane level → b ≡ a ++ spaced around → d ≡ b ++ target_text look m → f ≡ d ++ words_text look.layout m values
      → g ≡ f ++ codes "\n" → around ≡ from_root (part.Label look.ansi) e v kept → g ≡ full_line look e v kept
  full_written a b d f g around first second third fourth fifth around_is =
      fifth
      ∙ ap (λ (t : List ℕ). t ++ codes "\n")
      (fourth ∙ ap (λ (t : List ℕ). t ++ words_text look.layout m values)
      (third ∙ ap (λ (t : List ℕ). t ++ target_text look m) (second ∙ ap (λ (t : List ℕ). t ++ spaced around) first)))
      ∙ (λ i. begun_text look (of.lane_is i) (of.level_is i) ++ spaced (around_is i) ++ target_text look (of.metadata_is i)
      ++ words_text look.layout (of.metadata_is i) (of.values_are i) ++ codes "\n")

  -- in short
  pub compact_written : (a b d f h g around fields : List ℕ)
      → a ≡ begun_text look lane level → b ≡ a ++ spaced around → d ≡ b ++ target_text look m → f ≡ d ++ words_text look.layout m values
      → h ≡ f ++ fields → g ≡ h ++ codes "\n" → around ≡ from_root (part.Name look.ansi) e v kept → fields ≡ from_root part.Fields e v kept
      → g ≡ compact_line look e v kept
  compact_written a b d f h g around fields first second third fourth fifth sixth around_is fields_are =
      sixth
      ∙ ap (λ (t : List ℕ). t ++ codes "\n")
      (fifth ∙ ap (λ (t : List ℕ). t ++ fields)
      (fourth ∙ ap (λ (t : List ℕ). t ++ words_text look.layout m values)
      (third ∙ ap (λ (t : List ℕ). t ++ target_text look m) (second ∙ ap (λ (t : List ℕ). t ++ spaced around) first))))
      ∙ (λ i. begun_text look (of.lane_is i) (of.level_is i) ++ spaced (around_is i) ++ target_text look (of.metadata_is i)
      ++ words_text look.layout (of.metadata_is i) (of.values_are i) ++ fields_are i ++ codes "\n")

  -- for reading
  pub pretty_written : (a b d f h g around : List ℕ)
      → a ≡ level_column look level → b ≡ a ++ words_text look.layout m values → d ≡ b ++ codes "\n" → f ≡ d ++ at_text look lane m
      → h ≡ f ++ around → g ≡ h ++ codes "\n" → around ≡ outwards (place_part look) e v kept → g ≡ pretty_line look e v kept
  pretty_written a b d f h g around first second third fourth fifth sixth around_is =
      sixth
      ∙ ap (λ (t : List ℕ). t ++ codes "\n")
      (fifth ∙ ap (λ (t : List ℕ). t ++ around)
      (fourth ∙ ap (λ (t : List ℕ). t ++ at_text look lane m)
      (third ∙ ap (λ (t : List ℕ). t ++ codes "\n") (second ∙ ap (λ (t : List ℕ). t ++ words_text look.layout m values) first))))
      ∙ (λ i. level_column look (of.level_is i) ++ words_text look.layout (of.metadata_is i) (of.values_are i) ++ codes "\n"
      ++ at_text look (of.lane_is i) (of.metadata_is i) ++ around_is i ++ codes "\n")
