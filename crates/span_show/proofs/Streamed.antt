-- What a stream that lost no line wrote.
use Rattle.std.proofs.Common.{◌≡◌, ◌==◌, ◌∙◌, ℕ, List, Option, arith, false, not, subst, sym}
use Rattle.std.proofs.lemmas.Bool.{eqb-true, not-false}
use Rattle.std.specs.Io.KnownBytes.{Appends}
use Rattle.span_fmt.specs.Form.{FormMisses, FormSteps, Gives}
use Rattle.span_fmt.specs.Outlet.{is_torn, lost_of, writer_of}
use Rattle.span_fmt.specs.Stream.{form_of, outlet_of}
use Rattle.span_fmt.specs.Streamed.{WritesStream}
use Rattle.span_fmt.specs.declared.stream.Stream.{Stream}
use Rattle.span_registry.specs.Position.{Heard}

-- a count that isn't other than 0 is 0
pub is_none : (n : ℕ) → false ≡ not (n == 0) → n ≡ 0
is_none n e = eqb-true n 0 (not-false (n == 0) (sym e))

module _ {F W : Type 0} (gives : FormSteps F) (misses : FormMisses F) (contents : W → Option (List ℕ)) where
  -- what a form gives of all this was written behind what was there, and the form is this stream's then
  abbrev pub Wrote : Heard → F → W → W → Stream F W → Type 0
  Wrote heard form writer after y =
      (text : List ℕ) × Gives gives form heard text (form_of y) × Appends (contents writer) (contents after) text

  pub all_written : (heard : Heard) (form : F) (writer after : W) (x y : Stream F W) → WritesStream gives misses contents heard x y
      → form_of x ≡ form → writer_of (outlet_of x) ≡ writer → after ≡ writer_of (outlet_of y) → is_torn (outlet_of x) ≡ false
      → lost_of (outlet_of x) ≡ 0 → lost_of (outlet_of y) ≡ 0 → Wrote heard form writer after y
  all_written heard form writer after x y w begun from to sound none still =
      let h = w.whole sound (still ∙ sym none) (omega (arith, none)) in (
        h.0,
        subst (λ (f : F). Gives gives f heard h.0 (form_of y)) begun h.1,
        subst (λ (u : W). Appends (contents u) (contents after) h.0) from
            (subst (λ (u : W). Appends (contents (writer_of (outlet_of x))) (contents u) h.0) (sym to) h.2),
      )
