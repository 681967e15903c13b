-- Extensions make no difference to the colour of a line.
use Rattle.std.proofs.Common.{◌≡◌, ◌∙◌, ℕ, true, List, Option, Result, Ok, Err, ap, refl, string_bytes, subst, sym}
use Rattle.std.proofs.lemmas.Bool.{true≢false}
use Rattle.std.specs.Option.{option_map}
use Rattle.std.specs.Prelude.{IfOk, String}
use Rattle.std.specs.declared.alloc.Global.{Global}
use Rattle.span_core.specs.Filters.{FilterSet}
use Rattle.span_core.specs.Metadata.{level_of}
use Rattle.span_core.specs.Span.{number_of}
use Rattle.span_core.specs.declared.level.Level.{Level}
use Rattle.span_fmt.specs.Form.{FormSteps}
use Rattle.span_store.specs.Store.{Store}
use Rattle.span_registry.specs.Behaviour.{Notice, OnClose, OnEnter, OnEvent, OnExit, OnFollows, OnIdChange, OnNewSpan, OnRecord}
use Rattle.span_registry.specs.Law.{ShowsPlainly}
use Rattle.span_registry.specs.View.{View, plain_view, view_of}
use Rattle.span_stream.specs.Painted.{IsPainted, inner_of, is_coloured, level_shown, painted_gives}
use Rattle.span_stream.specs.declared.painted.Painted.{Painted}

-- a notice has the level that the view shows, extensions aside
pub level_plainly : (s : Store) (lane : ℕ) (mask : FilterSet) → ShowsPlainly s lane mask
    → (e : Notice) → level_shown e (view_of s lane mask) ≡ level_shown e (plain_view s lane mask)
level_plainly s lane mask law (OnNewSpan attrs id) = ap (option_map level_of) (law.metadata (number_of id))
level_plainly s lane mask law (OnRecord id values) = ap (option_map level_of) (law.metadata (number_of id))
level_plainly s lane mask law (OnClose id) = ap (option_map level_of) (law.metadata (number_of id))
level_plainly s lane mask law (OnEvent e) = refl
level_plainly s lane mask law (OnFollows id other) = refl
level_plainly s lane mask law (OnEnter id) = refl
level_plainly s lane mask law (OnExit id) = refl
level_plainly s lane mask law (OnIdChange id other) = refl

-- a line that is in the colour of the level that is shown is what is due where colours are asked for
pub painted_given : {F E : Type 0} (gives : FormSteps F) (x y : Painted F) (e : Notice) (v : View) (inner text : List ℕ) (shown : Option Level)
    (r : Result (String Global) E) → is_coloured x ≡ true → is_coloured y ≡ is_coloured x → gives (inner_of x) e v inner (inner_of y)
    → shown ≡ level_shown e v → text ≡ inner → IfOk r (λ line. IsPainted shown text (string_bytes line))
    → IfOk r (λ line. painted_gives gives x e v (string_bytes line) y)
painted_given gives x y e v inner text shown (Ok s) on same given level is painted = record {
  inner = inner;
  given = given;
  plain = λ off. absurd (true≢false (sym on ∙ off));
  painted = λ asked. subst (λ (t : List ℕ). IsPainted (level_shown e v) t (string_bytes s)) is
      (subst (λ (l : Option Level). IsPainted l text (string_bytes s)) level painted);
  colours = same;
}
painted_given gives x y e v inner text shown (Err err) on same given level is painted = tt
