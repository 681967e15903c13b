-- A filter by what spans were given is honest, and keeps its interest and its hint.
use Rattle.std.proofs.Common.{◌≡◌, ◌<◌, ◌≤◌, ◌&&◌, ◌||◌, ℕ, Bool, true, false, List, [], ◌∷◌, Some, ◌∙◌, refl, subst, sym, ap, arith}
use Rattle.std.proofs.lemmas.Bool.{leb-false, lt-leb, not-true}
use Rattle.std.specs.List.{list_any}
use Rattle.std.specs.Prelude.{bytes_eq, length, take, if◌then◌else◌}
use Rattle.span_core.specs.Level.{filter_number, greater, is_above, level_number, passes_level}
use Rattle.span_core.specs.Metadata.{ShowSame, level_of}
use Rattle.span_core.specs.declared.interest.Interest.TheVariants.{Always, Never, Sometimes}
use Rattle.span_core.specs.declared.interest.Interest.{Interest}
use Rattle.span_core.specs.declared.level.Level.{Level}
use Rattle.span_core.specs.declared.level.LevelFilter.{LevelFilter}
use Rattle.span_core.specs.declared.level.TheConstants.LevelFilter.{OFF}
use Rattle.span_core.specs.declared.metadata.Kind.{Kind}
use Rattle.span_core.specs.declared.metadata.Metadata.{Metadata}
use Rattle.span_fields.specs.Directive.{level_by, most_of, name_of, names_span, passes_somewhere, passes_within, target_of}
use Rattle.span_fields.specs.Filter.{GoesBy, GoesOn, directives_of, field_answers, field_enabled, field_interest, passes_anywhere, passes_around, within_of}
use Rattle.span_fields.specs.declared.directive.FieldDirective.{FieldDirective}
use Rattle.span_fields.specs.declared.filter.FieldFilter.{FieldFilter}
use Rattle.span_filters.specs.Filter.{FilterLaws, FilterReloadLaws, settled_answers, unreloaded}
use Rattle.span_filters.specs.laws.Filter.{unreloaded_laws}
use Rattle.span_registry.specs.Behaviour.{AreHonest, Notice, OnClose, OnEnter, OnEvent, OnExit, OnFollows, OnIdChange, OnNewSpan, OnRecord}
use Rattle.span_registry.specs.View.{View, view_of}
use Rattle.span_targets.specs.EnvFilter.{is_span, makes_spans}
use Rattle.span_targets.specs.laws.Below.{greater_first, greater_second}

right_false : (a b : Bool) → b ≡ false → (a && b) ≡ false
right_false true b e = e
right_false false b e = refl

left_false : (a b : Bool) → a ≡ false → (a && b) ≡ false
left_false true b e = absurd (cc)
left_false false b e = refl

both_false : (a b : Bool) → a ≡ false → b ≡ false → (a || b) ≡ false
both_false true b e h = absurd (cc)
both_false false b e h = h

left_of : (a b : Bool) → (a || b) ≡ false → a ≡ false
left_of true b e = e
left_of false b e = refl

right_of : (a b : Bool) → (a || b) ≡ false → b ≡ false
right_of true b e = absurd (cc)
right_of false b e = e

-- metadata whose level passes by no directive pass by none that names their span
within_none : (ds : List FieldDirective) (m : Metadata) → passes_somewhere ds (level_of m) ≡ false → passes_within ds m ≡ false
within_none [] m e = refl
within_none (d ∷ ds) m e =
    both_false _ _ (right_false (names_span m d) (passes_level (level_by d) (level_of m)) (left_of _ _ e))
    (within_none ds m (right_of _ _ e))

always_enabled : (here some around : Bool) → (if here then Always else if some then Sometimes else Never) ≡ Always
    → (here || (some && around)) ≡ true
always_enabled true some around e = refl
always_enabled false true around e = absurd (cc)
always_enabled false false around e = absurd (cc)

never_enabled : (here some around : Bool) → (if here then Always else if some then Sometimes else Never) ≡ Never
    → (here || (some && around)) ≡ false
never_enabled true some around e = absurd (cc)
never_enabled false true around e = absurd (cc)
never_enabled false false around e = refl

-- the most of all is at least the level at hand
most_first : (a : LevelFilter) (ds : List FieldDirective) → filter_number a ≤ filter_number (most_of a ds)
most_first a [] = omega arith
most_first a (d ∷ ds) = omega (arith, greater_first a (level_by d), most_first (greater a (level_by d)) ds)

-- a level above the most of all passes by no directive
nowhere_above : (a : LevelFilter) (ds : List FieldDirective) (l : Level)
    → filter_number (most_of a ds) < level_number l → passes_somewhere ds l ≡ false
nowhere_above a [] l e = refl
nowhere_above a (d ∷ ds) l e =
    let b = greater a (level_by d) in
    both_false _ _ (lt-leb _ _ (omega (arith, e, greater_second a (level_by d), most_first b ds))) (nowhere_above b ds l e)

module _ (f : FieldFilter) where
  above : (m : Metadata) (v : View) → is_above (level_of m) (Some (most_of OFF (directives_of f))) ≡ true → field_enabled f m v ≡ false
  above m v e =
      let some = nowhere_above OFF (directives_of f) (level_of m) (leb-false _ _ (not-true _ e)) in
      both_false _ _ (right_false _ _ (within_none (directives_of f) m some)) (left_false _ _ some)

  -- the interest, by what metadata show
  interest_by : Kind → Level → List ℕ → List ℕ → Interest
  interest_by kind l name target =
      if makes_spans kind.0
      && list_any
      (λ d. (bytes_eq (name_of d) name && bytes_eq (target_of d) (take (length (target_of d)) target))
      && passes_level (level_by d) l)
      (directives_of f) then Always
      else if passes_somewhere (directives_of f) l then Sometimes else Never

  alike : (m k : Metadata) → ShowSame m k → field_interest f m ≡ field_interest f k
  unfolding interest_by
  alike m k e = λ i. interest_by (e.kind i) (e.level i) (e.name i) (e.target i)

-- the answers are honest
pub field_honest : (f : FieldFilter) → AreHonest (field_answers f)
field_honest f = record {
  always = λ m v e. always_enabled (passes_anywhere f m) (passes_somewhere (directives_of f) (level_of m)) (passes_around (within_of f) (level_of m) v) e;
  never = λ m v e. never_enabled (passes_anywhere f m) (passes_somewhere (directives_of f) (level_of m)) (passes_around (within_of f) (level_of m) v) e;
  above = above f;
  alike = alike f;
}

-- no notice changes a directive
same_directives : (e : Notice) (v : View) (f g : FieldFilter) → GoesBy e v f g → directives_of g ≡ directives_of f
same_directives (OnNewSpan attrs id) v f g h = h.directives
same_directives (OnRecord id values) v f g h = h.directives
same_directives (OnClose id) v f g h = h.directives
same_directives (OnFollows id other) v f g h = ap directives_of h
same_directives (OnEvent event) v f g h = ap directives_of h
same_directives (OnEnter id) v f g h = ap directives_of h
same_directives (OnExit id) v f g h = ap directives_of h
same_directives (OnIdChange id other) v f g h = ap directives_of h

abbrev interest_of : List FieldDirective → Metadata → Interest
interest_of ds m =
    if is_span m && passes_within ds m then Always else if passes_somewhere ds (level_of m) then Sometimes else Never

-- the law of filters: it has no conduct, since memory may be refused
pub field_laws : FilterLaws (settled_answers field_answers) GoesOn (λ f conduct. ⊥)
field_laws = record {
  honest = λ f a h. subst AreHonest (sym h) (field_honest f);
  keeps =
      λ f e lane under v g w a s h.
      let same = same_directives e (view_of v.store lane under) f g s.0 in (
        field_answers g,
        refl,
        record {
          interest = ap (λ ds. interest_of ds) same ∙ ap (λ b. b.interest) (sym h);
          hint = ap (λ ds. Some (most_of OFF ds)) same ∙ ap (λ b. b.hint) (sym h);
        },
      );
  plain = λ f b h. absurd h;
  now = λ f b h. absurd h;
  only = λ f a b h k. absurd k;
  goes_on = λ f e lane under v g w b h s. absurd h;
}

-- it takes no setting
pub field_reloads : FilterReloadLaws {F = FieldFilter} (settled_answers field_answers) unreloaded (λ f conduct. ⊥)
field_reloads = unreloaded_laws (λ f s b h. absurd h)
