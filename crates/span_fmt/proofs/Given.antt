-- What spans were given is known.
use Rattle.std.proofs.Common.{◌≡◌, ◌≢◌, ◌∙◌, ℕ, List, [], ◌∷◌, ◌++◌, ap, sym, append_assoc, arith}
use Rattle.std.proofs.lemmas.Bool.Decides.{nat_tests}
use Rattle.std.proofs.lemmas.List.{append-nil}
use Rattle.std.specs.List.{AllByRecursion}
use Rattle.std.specs.Prelude.{◌==◌, if◌then◌else◌, flat_map}
use Rattle.span_core.specs.Span.{number_of, recorded_values, values_of}
use Rattle.span_registry.specs.Behaviour.{Notice, OnClose, OnEnter, OnEvent, OnExit, OnFollows, OnIdChange, OnNewSpan, OnRecord}
use Rattle.span_registry.specs.Position.{Heard, Told}
use Rattle.span_fmt.specs.Known.{SpanTexts, Spares, given_text, known_after, with_text}
use Rattle.span_fmt.specs.Text.{fields_text}
use Rattle.span_fmt.specs.Told.{known_by}

added : (a x : ℕ) (bytes : List ℕ) (known : SpanTexts) → with_text a (known a ++ bytes) known x ≡ known x ++ (if a == x then bytes else [])
added a x bytes known = grind (arith, nat_tests, append-nil)

apart : (a x : ℕ) (known : SpanTexts) → a ≢ x → with_text a [] known x ≡ known x
apart a x known other = grind (arith, nat_tests)

one_known : (x : ℕ) (e : Notice) (known : SpanTexts) → Spares x e → known_after e known x ≡ known x ++ given_text x e
one_known x (OnNewSpan attrs id) known spared = added (number_of id) x (fields_text (values_of attrs)) known
one_known x (OnRecord id values) known spared = added (number_of id) x (fields_text (recorded_values values)) known
one_known x (OnClose id) known spared = apart (number_of id) x known spared ∙ sym (append-nil (known x))
one_known x (OnEvent e) known spared = sym (append-nil (known x))
one_known x (OnFollows id other) known spared = sym (append-nil (known x))
one_known x (OnEnter id) known spared = sym (append-nil (known x))
one_known x (OnExit id) known spared = sym (append-nil (known x))
one_known x (OnIdChange id other) known spared = sym (append-nil (known x))

-- what was known, and all that the span was given
pub all_given : (x : ℕ) (heard : Heard) (known : SpanTexts)
    → AllByRecursion (λ (told : Told). Spares x told.notice) heard → known_by heard known x ≡ known x ++ flat_map (λ told. given_text x told.notice) heard
all_given x [] known spared = sym (append-nil (known x))
all_given x (told ∷ heard) known spared =
    let rest = flat_map (λ told. given_text x told.notice) heard in
    all_given x heard (known_after told.notice known) spared.1
    ∙ ap (λ (t : List ℕ). t ++ rest) (one_known x told.notice known spared.0) ∙ append_assoc (known x) (given_text x told.notice) rest
