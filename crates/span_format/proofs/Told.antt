-- Formats give the lines of all that they are told, and keep what spans were given.
use Rattle.std.proofs.Common.{◌≡◌, ◌≢◌, ◌∙◌, ℕ, List, [], ◌∷◌, ◌++◌, ap, append_assoc, arith, sym}
use Rattle.std.proofs.lemmas.Bool.Decides.{nat_tests}
use Rattle.std.proofs.lemmas.List.{append-nil}
use Rattle.std.specs.List.{AllByRecursion}
use Rattle.std.specs.Prelude.{◌==◌, if◌then◌else◌, flat_map}
use Rattle.span_core.specs.Span.{number_of, recorded_values, values_of}
use Rattle.span_fmt.specs.Form.{Gives}
use Rattle.span_fmt.specs.Known.{SpanTexts, Spares, with_text}
use Rattle.span_format.specs.Field.{fields_text}
use Rattle.span_format.specs.Format.{format_gives, kept_by, looks_of}
use Rattle.span_format.specs.Kept.{kept_after}
use Rattle.span_format.specs.Line.{notice_line}
use Rattle.span_format.specs.Told.{KeepsWhatWasGiven, given_text, heard_lines, kept_through}
use Rattle.span_format.specs.declared.format.Format.{Format}
use Rattle.span_format.specs.declared.layout.Layout.{Layout}
use Rattle.span_registry.specs.Behaviour.{Notice, OnClose, OnEnter, OnEvent, OnExit, OnFollows, OnIdChange, OnNewSpan, OnRecord}
use Rattle.span_registry.specs.Position.{Heard, Told}

abbrev Given : Format → Heard → List ℕ → Format → Type 0
Given x heard text y =
    (text ≡ heard_lines (looks_of x) (kept_by x) heard)
    × (kept_by y ≡ kept_through (looks_of x).layout heard (kept_by x)) × (looks_of y ≡ looks_of x)

pub lines_given : (x y : Format) (heard : Heard) (text : List ℕ) → Gives format_gives x heard text y → Given x heard text y
lines_given x y [] text g = (g.0, ap kept_by g.1, ap looks_of g.1)
lines_given x y (told ∷ heard) text g =
    let more = lines_given g.1 y heard g.2 g.4 in
    let one = g.3 in (
      g.5 ∙ ap (λ (l : List ℕ). l ++ g.2) one.given
          ∙ ap (λ (t : List ℕ). notice_line (looks_of x) told.notice told.view (kept_by x) ++ t)
          (more.0 ∙ (λ i. heard_lines (one.looks i) (one.kept i) heard)),
      more.1 ∙ (λ i. kept_through (one.looks i).layout heard (one.kept i)),
      more.2 ∙ one.looks,
    )

added : (a x : ℕ) (bytes : List ℕ) (kept : SpanTexts) → with_text a (kept a ++ bytes) kept x ≡ kept x ++ (if a == x then bytes else [])
added a x bytes kept = grind (arith, nat_tests, append-nil)

apart : (a x : ℕ) (kept : SpanTexts) → a ≢ x → with_text a [] kept x ≡ kept x
apart a x kept other = grind (arith, nat_tests)

one_kept : (how : Layout) (x : ℕ) (e : Notice) (kept : SpanTexts) → Spares x e → kept_after how e kept x ≡ kept x ++ given_text how x e
one_kept how x (OnNewSpan attrs id) kept spared = added (number_of id) x (fields_text how (values_of attrs)) kept
one_kept how x (OnRecord id values) kept spared = added (number_of id) x (fields_text how (recorded_values values)) kept
one_kept how x (OnClose id) kept spared = apart (number_of id) x kept spared ∙ sym (append-nil (kept x))
one_kept how x (OnEvent e) kept spared = sym (append-nil (kept x))
one_kept how x (OnFollows id other) kept spared = sym (append-nil (kept x))
one_kept how x (OnEnter id) kept spared = sym (append-nil (kept x))
one_kept how x (OnExit id) kept spared = sym (append-nil (kept x))
one_kept how x (OnIdChange id other) kept spared = sym (append-nil (kept x))

all_given : (how : Layout) (x : ℕ) (heard : Heard) (kept : SpanTexts) → AllByRecursion (λ (told : Told). Spares x told.notice) heard
    → kept_through how heard kept x ≡ kept x ++ flat_map (λ told. given_text how x told.notice) heard
all_given how x [] kept spared = sym (append-nil (kept x))
all_given how x (told ∷ heard) kept spared =
    let rest = flat_map (λ told. given_text how x told.notice) heard in
    all_given how x heard (kept_after how told.notice kept) spared.1
    ∙ ap (λ (t : List ℕ). t ++ rest) (one_kept how x told.notice kept spared.0) ∙ append_assoc (kept x) (given_text how x told.notice) rest

forgotten : (x : ℕ) (kept : SpanTexts) → with_text x [] kept x ≡ []
forgotten x kept = grind (arith, nat_tests)

pub keeps : KeepsWhatWasGiven
keeps = record { given = all_given; closed = λ how id kept. forgotten (number_of id) kept }
