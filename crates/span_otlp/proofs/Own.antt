-- Attributes of what is known, one by one.
use Rattle.std.proofs.Common.{◌≡◌, ◌∙◌, Bool, true, false, List, [], ◌∷◌, ◌++◌, ap, append_assoc, flat_map, if◌then◌else◌, map, not, refl, sym}
use Rattle.std.proofs.lemmas.List.{append-nil, map-append}
use Rattle.std.proofs.lemmas.List.Concat.{flat_map-append}
use Rattle.serde_json.specs.Data.{Data}
use Rattle.span_otlp.specs.Attribute.{attribute_of, not_given}
use Rattle.span_export.specs.Site.{is_given}
use Rattle.span_otlp.specs.private.Own.{own_attribute}
use Rattle.span_times.specs.Field.{FieldSaid}

one : (b : Bool) (f : FieldSaid) (rest : List FieldSaid)
    → (if b then [] else attribute_of f ∷ []) ++ map attribute_of rest ≡ map attribute_of (if not b then f ∷ rest else rest)
one true f rest = refl
one false f rest = refl

own_all : (given known : List FieldSaid) → flat_map (own_attribute given) known ≡ map attribute_of (not_given given known)
own_all given [] = refl
own_all given (f ∷ fs) = ap (λ ds. own_attribute given f ++ ds) (own_all given fs) ∙ one (is_given f.0 given) f (not_given given fs)

-- what is known, and what was given
pub known_and_given : (given known : List FieldSaid)
    → flat_map (own_attribute given) known ++ map attribute_of given ≡ map attribute_of (not_given given known ++ given)
known_and_given given known =
    ap (λ ds. ds ++ map attribute_of given) (own_all given known) ∙ sym (map-append attribute_of (not_given given known) given)

-- three known things, one after the other
pub three_parts : (a b n : List Data) → (a ++ b) ++ n ≡ a ++ (b ++ (n ++ []))
three_parts a b n = append_assoc a b n ∙ ap (λ t. a ++ (b ++ t)) (sym (append-nil n))

-- two more known things
pub two_more : (given known : List FieldSaid) (f g : FieldSaid)
    → (flat_map (own_attribute given) known ++ own_attribute given f) ++ own_attribute given g
    ≡ flat_map (own_attribute given) (known ++ f ∷ g ∷ [])
two_more given known f g =
    append_assoc (flat_map (own_attribute given) known) (own_attribute given f) (own_attribute given g)
    ∙ ap (λ t. flat_map (own_attribute given) known ++ (own_attribute given f ++ t)) (sym (append-nil (own_attribute given g)))
    ∙ sym (flat_map-append (own_attribute given) known (f ∷ g ∷ []))
