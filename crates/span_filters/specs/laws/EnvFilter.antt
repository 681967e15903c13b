-- What a filter by targets and spans answers is honest.
use Rattle.std.proofs.Common.{◌≡◌, ◌≤◌, ◌<◌, ◌&&◌, ◌||◌, ℕ, Bool, true, false, List, [], ◌∷◌, Option, Some, None, refl, arith}
use Rattle.std.proofs.lemmas.Bool.{leb-false, lt-leb, not-true}
use Rattle.std.specs.FinMap.{get}
use Rattle.std.specs.List.{list_any}
use Rattle.std.specs.Option.{option_map_or}
use Rattle.std.specs.Prelude.{bytes_eq, length, take, if◌then◌else◌}
use Rattle.span_core.specs.Level.{filter_number, greater, is_above, level_number, passes_level}
use Rattle.span_core.specs.Metadata.{ShowSame, level_of, target_of}
use Rattle.span_core.specs.declared.interest.Interest.TheVariants.{Always, Never, Sometimes}
use Rattle.span_core.specs.declared.interest.Interest.{Interest}
use Rattle.span_core.specs.declared.level.Level.{Level}
use Rattle.span_core.specs.declared.level.LevelFilter.{LevelFilter}
use Rattle.span_core.specs.declared.metadata.Kind.{Kind}
use Rattle.span_core.specs.declared.metadata.Metadata.{Metadata}
use Rattle.span_registry.specs.Behaviour.{AreHonest}
use Rattle.span_registry.specs.View.{SeenSpan, SeenSpans, View, current_shown, scope}
use Rattle.span_filters.specs.EnvFilter.{env_answers, env_enabled, env_interest, passes_around, passes_in}
use Rattle.span_targets.specs.EnvFilter.{level_within, makes_spans, most_within, name_within, names_span, passes_anywhere, passes_somewhere, passes_within, spans_of, target_within, targets_in}
use Rattle.span_targets.specs.Names.{level_for}
use Rattle.span_targets.specs.Targets.{most_by, names_of}
use Rattle.span_targets.specs.declared.env_filter.EnvFilter.{EnvFilter}
use Rattle.span_targets.specs.declared.span_directive.SpanDirective.{SpanDirective}
use Rattle.span_targets.specs.laws.Below.{greater_first, greater_second, level_below}

right_false : (a b : Bool) → b ≡ false → (a && b) ≡ false
right_false true b e = e
right_false false b e = refl

both_false : (a b : Bool) → a ≡ false → b ≡ false → (a || b) ≡ false
both_false true b e h = absurd (cc)
both_false false b e h = h

left_of : (a b : Bool) → (a || b) ≡ false → a ≡ false
left_of true b e = e
left_of false b e = refl

right_of : (a b : Bool) → (a || b) ≡ false → b ≡ false
right_of true b e = absurd (cc)
right_of false b e = e

-- a level that passes in no span at all passes in none with these metadata
within_none : (ds : List SpanDirective) (m : Metadata) (l : Level) → passes_somewhere ds l ≡ false → passes_within ds m l ≡ false
within_none [] m l e = refl
within_none (d ∷ ds) m l e =
    both_false _ _ (right_false (names_span m d) (passes_level (level_within d) l) (left_of _ _ e))
    (within_none ds m l (right_of _ _ e))

seen_none : (ds : List SpanDirective) (l : Level) → passes_somewhere ds l ≡ false → (o : Option SeenSpan)
    → option_map_or (λ r. passes_within ds r.metadata l) o false ≡ false
seen_none ds l e None = refl
seen_none ds l e (Some r) = within_none ds r.metadata l e

around_none : (ds : List SpanDirective) (l : Level) → passes_somewhere ds l ≡ false → (spans : SeenSpans) (xs : List ℕ)
    → list_any (passes_in ds l spans) xs ≡ false
around_none ds l e spans [] = refl
around_none ds l e spans (x ∷ xs) = both_false _ _ (seen_none ds l e (get spans x)) (around_none ds l e spans xs)

-- where the interest is always, metadata are enabled; where it is never, they pass nowhere
always_enabled : (here around some : Bool) → (if here then Always else if some then Sometimes else Never) ≡ Always
    → (here || around) ≡ true
always_enabled true around some e = refl
always_enabled false around true e = absurd (cc)
always_enabled false around false e = absurd (cc)

never_here : (here some : Bool) → (if here then Always else if some then Sometimes else Never) ≡ Never → here ≡ false
never_here true some e = absurd (cc)
never_here false some e = refl

never_some : (here some : Bool) → (if here then Always else if some then Sometimes else Never) ≡ Never → some ≡ false
never_some true some e = absurd (cc)
never_some false true e = absurd (cc)
never_some false false e = refl

-- no directive lets more by than the most of all
most_first : (a : LevelFilter) (ds : List SpanDirective) → filter_number a ≤ filter_number (most_within a ds)
most_first a [] = omega arith
most_first a (d ∷ ds) = omega (arith, greater_first a (level_within d), most_first (greater a (level_within d)) ds)

nowhere_above : (a : LevelFilter) (ds : List SpanDirective) (l : Level)
    → filter_number (most_within a ds) < level_number l → passes_somewhere ds l ≡ false
nowhere_above a [] l e = refl
nowhere_above a (d ∷ ds) l e =
    let b = greater a (level_within d) in
    both_false _ _ (lt-leb _ _ (omega (arith, e, greater_second a (level_within d), most_first b ds))) (nowhere_above b ds l e)

module _ (f : EnvFilter) where
  never : (m : Metadata) (v : View) → env_interest f m ≡ Never → env_enabled f m v ≡ false
  never m v e =
      let some = never_some (passes_anywhere f m) (passes_somewhere (spans_of f) (level_of m)) e in
      both_false _ _ (never_here (passes_anywhere f m) (passes_somewhere (spans_of f) (level_of m)) e)
      (around_none (spans_of f) (level_of m) some v.spans (scope v.spans (current_shown v)))

  above : (m : Metadata) (v : View) → is_above (level_of m) (Some (most_within (most_by (targets_in f)) (spans_of f))) ≡ true
      → env_enabled f m v ≡ false
  above m v e =
      let over : filter_number (most_within (most_by (targets_in f)) (spans_of f)) < level_number (level_of m) = leb-false _ _ (not-true _ e) in
      let some = nowhere_above (most_by (targets_in f)) (spans_of f) (level_of m) over in
      let first = most_first (most_by (targets_in f)) (spans_of f) in
      both_false _ _
      (both_false _ _ (lt-leb _ _ (omega (arith, over, first, level_below (targets_in f) (target_of m))))
      (right_false _ _ (within_none (spans_of f) m (level_of m) some)))
      (around_none (spans_of f) (level_of m) some v.spans (scope v.spans (current_shown v)))

  -- the interest, by what metadata show
  interest_by : Kind → Level → List ℕ → List ℕ → Interest
  interest_by kind l name target =
      if passes_level (level_for (names_of (targets_in f)) target) l
      || (makes_spans kind.0
      && list_any
      (λ d. (bytes_eq (name_within d) name && bytes_eq (target_within d) (take (length (target_within d)) target))
      && passes_level (level_within d) l)
      (spans_of f)) then Always
      else if passes_somewhere (spans_of f) l then Sometimes else Never

  alike : (m k : Metadata) → ShowSame m k → env_interest f m ≡ env_interest f k
  unfolding interest_by
  alike m k e = λ i. interest_by (e.kind i) (e.level i) (e.name i) (e.target i)

-- the answers are honest
pub env_honest : (f : EnvFilter) → AreHonest (env_answers f)
env_honest f = record {
  always = λ m v e. always_enabled (passes_anywhere f m) (passes_around (spans_of f) (level_of m) v) (passes_somewhere (spans_of f) (level_of m)) e;
  never = never f;
  above = above f;
  alike = alike f;
}
