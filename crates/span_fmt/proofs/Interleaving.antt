-- The spans round a line, again where lanes interleave.
use Rattle.std.proofs.Common.{◌≡◌, ◌≢◌, ◌∙◌, ℕ, Bool, true, false, List, [], ◌∷◌, ◌++◌, map, drop, length, Option, Some, arith, refl, sym, ap}
use Rattle.std.specs.Prelude.{◌==◌, if◌then◌else◌, codes, flat_map, reverse}
use Rattle.std.proofs.lemmas.Bool.{eqb-true, true≢false}
use Rattle.span_core.specs.Filters.{FilterSet}
use Rattle.span_core.specs.Span.{number_of}
use Rattle.span_store.specs.Store.{RegistryState, Store}
use Rattle.span_registry.specs.Behaviour.{Notice, OnClose, OnEnter, OnEvent, OnExit, OnFollows, OnIdChange, OnNewSpan, OnRecord}
use Rattle.span_registry.specs.Context.{GivesScope, LooksAtLent, filters_in, subscriber_lent, view_lent}
use Rattle.span_registry.specs.Law.{ShowsPlainly}
use Rattle.span_registry.specs.References.{Reference, reference_to}
use Rattle.span_registry.specs.View.{View, plain_view, scope, view_of}
use Rattle.span_registry.specs.declared.context.Context.{Context}
use Rattle.span_registry.specs.declared.context.ContextMut.{ContextMut}
use Rattle.span_registry.specs.declared.scope.Scope.{Scope}
use Rattle.span_fmt.proofs.Around.{flat_map-map, reverse-map, round_plainly}
use Rattle.span_fmt.proofs.Plain.{above_plainly, notice_plainly, span_plainly}
use Rattle.span_fmt.proofs.Scopes.{drop-map, lent}
use Rattle.span_fmt.specs.Interleaved.{behind, context_text, interleaved_text, is_other, next_lane, reference_text, round_text, spans_about}
use Rattle.span_fmt.specs.Lane.{Naming}
use Rattle.span_fmt.specs.Tree.{given, notice_text}

-- ---- references stand for their spans

ids_of : {S : Type 0} (registry : S → RegistryState) (s : S) (mask : FilterSet) (xs : List ℕ) → map (λ r. r.id) (map (reference_to registry s mask) xs) ≡ xs
ids_of registry s mask [] = refl
ids_of registry s mask (x ∷ xs) = ap (λ (ys : List ℕ). x ∷ ys) (ids_of registry s mask xs)

pub ids_round : {S : Type 0} (registry : S → RegistryState) (c : ContextMut S) (look : Context S) (which : View → Option ℕ) (found : Option (Scope S))
    → LooksAtLent c look → GivesScope registry look which found
    → map (λ r. r.id) (given registry found) ≡ scope (view_lent registry c).spans (which (view_lent registry c))
ids_round {S} registry c look which found l h =
    ap (λ (rs : List (Reference S)). map (λ r. r.id) rs) (lent registry c look which found l h)
    ∙ ids_of registry (subscriber_lent c) (filters_in look) (scope (view_lent registry c).spans (which (view_lent registry c)))

pub ids_above : {S : Type 0} (registry : S → RegistryState) (c : ContextMut S) (look : Context S) (which : View → Option ℕ) (found above : Option (Scope S))
    → LooksAtLent c look → GivesScope registry look which found → given registry above ≡ drop 1 (given registry found)
    → map (λ r. r.id) (given registry above) ≡ drop 1 (scope (view_lent registry c).spans (which (view_lent registry c)))
ids_above {S} registry c look which found above l h first =
    let f = reference_to registry (subscriber_lent c) (filters_in look) in
    let spans = scope (view_lent registry c).spans (which (view_lent registry c)) in
    ap (λ (rs : List (Reference S)). map (λ r. r.id) rs)
    (first ∙ ap (λ (rs : List (Reference S)). drop 1 rs) (lent registry c look which found l h) ∙ drop-map f spans)
    ∙ ids_of registry (subscriber_lent c) (filters_in look) (drop 1 spans)

-- lines of references are those of their spans
pub lines_of_spans : {S : Type 0} (names : Naming) (v : View) (rs : List (Reference S)) (xs : List ℕ) → map (λ r. r.id) rs ≡ xs
    → flat_map (reference_text names v) (reverse rs) ≡ flat_map (round_text names v) (reverse xs)
lines_of_spans {S} names v rs xs same =
    sym (flat_map-map (λ (r : Reference S). r.id) (round_text names v) (reverse rs))
    ∙ ap (flat_map (round_text names v)) (sym (reverse-map (λ (r : Reference S). r.id) rs) ∙ ap (λ (ys : List ℕ). reverse ys) same)

-- ---- a line behind others

behind_nothing : (line : List ℕ) → behind [] line ≡ line
behind_nothing [] = refl
behind_nothing (b ∷ bytes) = refl

behind_some : (context line : List ℕ) → line ≢ [] → behind context line ≡ context ++ line
behind_some context [] some = absurd (some refl)
behind_some context (b ∷ bytes) some = refl

module _ (names : Naming) (last : Option ℕ) (e : Notice) (v : View) where
  abbrev due : Bool → List ℕ
  due other = behind (if other then context_text names e v else []) (notice_text names e v)

  -- where there is no line
  pub none_due : (line : List ℕ) → line ≡ notice_text names e v → line ≡ [] → line ≡ interleaved_text names last e v
  none_due line same none = none ∙ ap (behind (if is_other last v.lane then context_text names e v else [])) (sym none ∙ same)

  -- where the line before is of the lane
  pub line_due : (line : List ℕ) → line ≡ notice_text names e v → is_other last v.lane ≡ false → line ≡ interleaved_text names last e v
  line_due line same of = same ∙ sym (behind_nothing (notice_text names e v)) ∙ ap due (sym of)

  -- where it is of another
  pub all_due : (context line text : List ℕ) → line ≡ notice_text names e v → line ≢ [] → is_other last v.lane ≡ true → context ≡ context_text names e v
      → text ≡ context ++ line → text ≡ interleaved_text names last e v
  all_due context line text same some other round is =
      is ∙ ap (λ (c : List ℕ). c ++ line) round ∙ ap (λ (l : List ℕ). context_text names e v ++ l) same
      ∙ sym (behind_some (context_text names e v) (notice_text names e v) (λ none. some (same ∙ none))) ∙ ap due (sym other)

-- what tests of a text's length say
pub filled : (text shown : List ℕ) (b : Bool) → shown ≡ text → b ≡ (length shown == 0) → b ≡ false → text ≢ []
filled text shown b same is off none = true≢false (sym (is ∙ ap (λ (t : List ℕ). length t == 0) (same ∙ none)) ∙ off)

no_length : (text : List ℕ) → length text ≡ 0 → text ≡ []
no_length [] e = refl
no_length (t ∷ text) e = absurd (omega arith)

pub empty : (text shown : List ℕ) (b : Bool) → shown ≡ text → b ≡ (length shown == 0) → b ≡ true → text ≡ []
empty text shown b same is on = sym same ∙ no_length shown (eqb-true (length shown) 0 (sym is ∙ on))

-- the lane of the latest line
pub next_some : (last : Option ℕ) (line : List ℕ) (lane : ℕ) → line ≢ [] → Some lane ≡ next_lane last line lane
next_some last [] lane some = absurd (some refl)
next_some last (b ∷ bytes) lane some = refl

pub next_none : (last : Option ℕ) (line : List ℕ) (lane : ℕ) → line ≡ [] → last ≡ next_lane last line lane
next_none last line lane none = ap (λ (l : List ℕ). next_lane last l lane) (sym none)

-- ---- extensions make no difference

module _ (names : Naming) (s : Store) (lane : ℕ) (mask : FilterSet) (law : ShowsPlainly s lane mask) where
  about_plainly : (e : Notice) → spans_about e (view_of s lane mask) ≡ spans_about e (plain_view s lane mask)
  about_plainly (OnNewSpan attrs id) = above_plainly names s lane mask law (number_of id)
  about_plainly (OnRecord id values) = above_plainly names s lane mask law (number_of id)
  about_plainly (OnClose id) = above_plainly names s lane mask law (number_of id)
  about_plainly (OnEvent e) = round_plainly s lane mask law e
  about_plainly (OnFollows id other) = refl
  about_plainly (OnEnter id) = refl
  about_plainly (OnExit id) = refl
  about_plainly (OnIdChange id other) = refl

  context_plainly : (e : Notice) → context_text names e (view_of s lane mask) ≡ context_text names e (plain_view s lane mask)
  context_plainly e = λ i. flat_map (λ x. span_plainly names s lane mask law (codes "|") x [] i) (reverse (about_plainly e i))

  pub interleaved_plainly : (last : Option ℕ) (e : Notice)
      → interleaved_text names last e (view_of s lane mask) ≡ interleaved_text names last e (plain_view s lane mask)
  interleaved_plainly last e =
      λ i. behind (if is_other last lane then context_plainly e i else []) (notice_plainly names s lane mask law e i)
