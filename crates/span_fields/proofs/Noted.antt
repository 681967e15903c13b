-- What is known of a span by its values, directive by directive.
use Rattle.std.proofs.Common.{◌≡◌, ◌∙◌, ◌++◌, ◌+◌, ◌<◌, ◌≤◌, ℕ, Bool, true, false, List, [], ◌∷◌, ap, arith, cond, drop, get_or, length, refl, sym, take}
use Rattle.std.proofs.Common.{take-append-drop}
use Rattle.std.proofs.lemmas.Bool.{cond-false, cond-true}
use Rattle.std.proofs.lemmas.List.{take_all, take_more}
use Rattle.std.specs.List.{filter}
use Rattle.std.specs.Prelude.{map}
use Rattle.span_core.specs.declared.metadata.Metadata.{Metadata}
use Rattle.span_core.specs.declared.span.Id.{Id}
use Rattle.span_fields.specs.Directive.{Values, is_met, level_by}
use Rattle.span_fields.specs.Filter.{Entry, met}
use Rattle.span_fields.specs.declared.directive.FieldDirective.{FieldDirective}

take_front : {X : Type 0} (xs ys : List X) → take (length xs) (xs ++ ys) ≡ xs
take_front [] ys = refl
take_front (x ∷ xs) ys = ap (λ zs. x ∷ zs) (take_front xs ys)

module _ (id : Id) (m : Metadata) (values : Values) where
  abbrev pub entry : FieldDirective → Entry
  entry d = record { span = id; level = level_by d }

  one_more : (b : Bool) (d : FieldDirective) (ds es : List FieldDirective)
      → map entry (filter (is_met m values) (ds ++ es)) ≡ met ds id m values ++ met es id m values
      → map entry (cond b (d ∷ filter (is_met m values) (ds ++ es)) (filter (is_met m values) (ds ++ es)))
      ≡ map entry (cond b (d ∷ filter (is_met m values) ds) (filter (is_met m values) ds)) ++ met es id m values
  one_more true d ds es e = ap (λ xs. entry d ∷ xs) e
  one_more false d ds es e = e

  -- what is known by two lists of directives
  pub met_append : (ds es : List FieldDirective) → met (ds ++ es) id m values ≡ met ds id m values ++ met es id m values
  met_append [] es = refl
  met_append (d ∷ ds) es = one_more (is_met m values d) d ds es (met_append ds es)

  pub met_one : (d : FieldDirective) → is_met m values d ≡ true → met (d ∷ []) id m values ≡ record { span = id; level = level_by d } ∷ []
  met_one d e = ap (map entry) (cond-true (is_met m values d) _ _ e)

  pub met_none : (d : FieldDirective) → is_met m values d ≡ false → met (d ∷ []) id m values ≡ []
  met_none d e = ap (map entry) (cond-false (is_met m values d) _ _ e)

  -- what is known by the first of the directives is the first of what is known by all
  pub front : (ds : List FieldDirective) (i : ℕ) → met (take i ds) id m values ≡ take (length (met (take i ds) id m values)) (met ds id m values)
  front ds i =
      let first = met (take i ds) id m values in
      let rest = met (drop i ds) id m values in
      sym (take_front first rest)
      ∙ ap (take (length first)) (sym (met_append (take i ds) (drop i ds)) ∙ ap (λ es. met es id m values) (take-append-drop i ds))

  -- what is known by one directive further
  pub further : (ds : List FieldDirective) (i : ℕ) (d : FieldDirective) → i < length ds → d ≡ get_or ds i d
      → met (take (i + 1) ds) id m values ≡ met (take i ds) id m values ++ met (d ∷ []) id m values
  further ds i d l e =
      ap (λ es. met es id m values) (take_more ds i d l) ∙ met_append (take i ds) (get_or ds i d ∷ [])
      ∙ ap (λ x. met (take i ds) id m values ++ met (x ∷ []) id m values) (sym e)

  -- behind the last directive all is known
  pub all_met : (ds es : List FieldDirective) (i : ℕ) → length ds ≤ i → ds ≡ es → length (met es id m values) ≤ length (met (take i ds) id m values)
  all_met ds es i l e =
      let whole : take i ds ≡ es = take_all i ds l ∙ e in
      omega (arith, ap (λ xs. length (met xs id m values)) whole)
