-- A script that grows by a line.
use Rattle.std.proofs.Common.{◌≡◌, ◌≢◌, ℕ, suc, zero, List, [], ◌∷◌, ◌++◌, length, Option, Some, None, IfSome, MatchOption, refl, sym, ap, ◌∙◌, subst, rules}
use Rattle.std.proofs.lemmas.Slice.Eq.{bytes_eq-Decides}
use Rattle.std.specs.Prelude.{Bool, true, false, if◌then◌else◌, bytes_eq, slice_get, IsSome, IsSomeAnd}
use Rattle.std.specs.Map.{update}
use Rattle.std.specs.Ordering.{nat_cmp}
use Rattle.std.specs.Cmp.Lexicographic.{slice_cmp}
use Rattle.std.specs.BTreeMap as tree
use Rattle.span_script.specs.Script.{declared_label, IsLine, lines_of, requests_of, place_of, Asks, AskFor, nothing, more, Declares, DeclaresAt, IsScript}
use Rattle.span_script.specs.declared.line.Line.{Line}
use Rattle.span_dispatch.specs.declared.request.Request.{Request}
use Rattle.span_script.specs.declared.script.Script.{Script}

-- no line declares this label
abbrev pub IsFree : List Line → List ℕ → Type 0
IsFree lines label = (place : ℕ) → IfSome (slice_get lines place) (λ l. declared_label l ≢ Some label)

-- a script without lines
pub IsScript-empty : (s : Script) → lines_of s ≡ [] → requests_of s ≡ [] → s.labels.entries ≡ [] → IsScript s
IsScript-empty s no_lines no_requests no_labels = record {
  asked = subst (λ (ls : List Line). AskFor ls (requests_of s)) (sym no_lines) (subst (λ (rs : List Request). AskFor [] rs) (sym no_requests) nothing);
  found = λ label. rw no_labels tt;
  kept = λ place. rw no_lines tt;
}

pub IfSome-map : {X : Type 0} (o : Option X) (P Q : X → Type 0) → IfSome o P → ((x : X) → P x → Q x) → IfSome o Q
IfSome-map None P Q p h = tt
IfSome-map (Some x) P Q p h = h x p

-- what holds of each element, and of the one added where it stands
pub slice_get-grown : {X : Type 0} (xs : List X) (y : X) (k : ℕ) (P : X → Type 0) → IfSome (slice_get xs k) P → P y → IfSome (slice_get (xs ++ y ∷ []) k) P
slice_get-grown [] y zero P p h = h
slice_get-grown [] y (suc k) P p h = tt
slice_get-grown (x ∷ xs) y zero P p h = p
slice_get-grown (x ∷ xs) y (suc k) P p h = slice_get-grown xs y k P p h

-- a label stays declared where it is
pub DeclaresAt-append : (xs ys : List Line) (k : ℕ) (label : List ℕ) → DeclaresAt xs k label → DeclaresAt (xs ++ ys) k label
DeclaresAt-append [] ys k label h = absurd h
DeclaresAt-append (x ∷ xs) ys zero label h = h
DeclaresAt-append (x ∷ xs) ys (suc k) label h = DeclaresAt-append xs ys k label h

-- the last line declares its label
pub DeclaresAt-last : (xs : List Line) (y : Line) (label : List ℕ) → declared_label y ≡ Some label → DeclaresAt (xs ++ y ∷ []) (length xs) label
DeclaresAt-last [] y label h = h
DeclaresAt-last (x ∷ xs) y label h = DeclaresAt-last xs y label h

-- the places of labels beside those of a label that may be added
abbrev AddsPlace : Script → Option (List ℕ) → Script → Type 0
AddsPlace old o new = MatchOption o (new.labels ≡ old.labels) (λ label. (place_of old label ≡ None)
    × ((other : List ℕ) → place_of new other ≡ update bytes_eq (place_of old) label (Some (length (lines_of old))) other))

-- a label has the place that it had, or is the one added
chosen : (P : Option ℕ → Type 0) (o : Option ℕ) (n : ℕ) (label other : List ℕ) (b : Bool) → bytes_eq label other ≡ b
    → P o → (label ≡ other → P (Some n)) → P (if b then Some n else o)
chosen P o n label other true e p q = q ((bytes_eq-Decides label other).0 e)
chosen P o n label other false e p q = p

place-after : (old new : Script) (o : Option (List ℕ)) → AddsPlace old o new → (other : List ℕ) (P : Option ℕ → Type 0) → P (place_of old other)
    → ((label : List ℕ) → o ≡ Some label → label ≡ other → P (Some (length (lines_of old)))) → P (place_of new other)
place-after old new None d other P p q = subst (λ (m : _). P (tree.get_by (λ k. slice_cmp nat_cmp other k.now) m)) (sym d) p
place-after old new (Some label) d other P p q = subst P (sym (d.1 other))
    (chosen P (place_of old other) (length (lines_of old)) label other (bytes_eq label other) refl p (q label refl))

-- the added label has a place
place-added : (old new : Script) (o : Option (List ℕ)) → AddsPlace old o new → IfSome o (λ label. IsSome (place_of new label))
place-added old new None d = tt
place-added old new (Some label) d = subst (λ (x : Option ℕ). IsSome x) (sym (d.1 label))
    (rw ((bytes_eq-Decides label label).1 refl) (search rules))

-- the added label was free
label-free : (old new : Script) (o : Option (List ℕ)) → IsScript old → AddsPlace old o new → IfSome o (IsFree (lines_of old))
label-free old new None was d = tt
label-free old new (Some label) was d = λ place.
    IfSome-map (slice_get (lines_of old) place) (λ l. IfSome (declared_label l) (λ other. IsSome (place_of old other))) _ (was.kept place)
    (λ l k e. let has : IsSome (place_of old label) = subst (λ (x : Option (List ℕ)). IfSome x (λ other. IsSome (place_of old other))) e k in
    let lacks : IsSome {T = ℕ} None = subst (λ (x : Option ℕ). IsSome x) d.0 has in absurd (search rules))

-- a script with one line more, and the request that it asks for
pub IsScript-add : (old mid new : Script) (l : Line) (r : Request) → IsScript old → IsLine l → Asks (lines_of old) l r → Declares old l mid
    → lines_of new ≡ lines_of old ++ l ∷ [] → requests_of new ≡ requests_of old ++ r ∷ [] → new.labels ≡ mid.labels → IsScript new
IsScript-add old mid new l r was is asks declares lines requests labels =
    let d : AddsPlace old (declared_label l) new = subst (λ (m : _). MatchOption (declared_label l) (m ≡ old.labels) (λ label. (place_of old label ≡ None)
    × ((other : List ℕ) → tree.get_by (λ k. slice_cmp nat_cmp other k.now) m ≡ update bytes_eq (place_of old) label (Some (length (lines_of old))) other)))
    (sym labels) declares in
    record {
      asked =
          subst (λ (ls : List Line). AskFor ls (requests_of new)) (sym lines) (subst (λ (rs : List Request). AskFor (lines_of old ++ l ∷ []) rs) (sym requests)
          (more l r is was.asked asks (label-free old new (declared_label l) was d)));
      found = λ label. subst (λ (ls : List Line). IfSome (place_of new label) (λ place. DeclaresAt ls place label)) (sym lines)
          (place-after old new (declared_label l) d label (λ x. IfSome x (λ place. DeclaresAt (lines_of old ++ l ∷ []) place label))
          (IfSome-map (place_of old label)
          (λ place. DeclaresAt (lines_of old) place label) _ (was.found label) (λ place h. DeclaresAt-append (lines_of old) (l ∷ []) place label h))
          (λ added e same. DeclaresAt-last (lines_of old) l label (e ∙ ap (λ x. Some x) same)));
      kept =
          λ place. subst (λ (ls : List Line). IfSome (slice_get ls place) (λ l. IfSome (declared_label l) (λ label. IsSome (place_of new label)))) (sym lines)
          (slice_get-grown (lines_of old) l place (λ l. IfSome (declared_label l) (λ label. IsSome (place_of new label)))
          (IfSome-map (slice_get (lines_of old) place) (λ l. IfSome (declared_label l) (λ label. IsSome (place_of old label))) _ (was.kept place)
          (λ other h. IfSome-map (declared_label other) (λ label. IsSome (place_of old label)) _ h
          (λ label g. place-after old new (declared_label l) d label (λ x. IsSome x) g (λ added e same. search rules))))
          (place-added old new (declared_label l) d));
    }

-- two facts on what is there
pub both-known : {X : Type 0} (o : Option X) (P Q : X → Type 0) → IfSome o P → IsSomeAnd o Q → (x : X) × (P x × Q x)
both-known None P Q p q = absurd q
both-known (Some x) P Q p q = (x, (p, q))

-- a label that has no place is declared nowhere
pub undeclared : (s : Script) → IsScript s → (label : List ℕ) → place_of s label ≡ None → (k : ℕ) → ¬ (DeclaresAt (lines_of s) k label)
undeclared s is label lacks k h =
    let found = both-known (slice_get (lines_of s) k)
    (λ l. IfSome (declared_label l) (λ other. IsSome (place_of s other))) (λ l. declared_label l ≡ Some label) (is.kept k) h in
    let has : IsSome (place_of s label) = subst (λ (x : Option (List ℕ)). IfSome x (λ other. IsSome (place_of s other))) found.1.1 found.1.0 in
    let none : IsSome {T = ℕ} None = subst (λ (x : Option ℕ). IsSome x) lacks has in absurd (search rules)

-- a label that has a place is declared by some line
pub taken-at : (s : Script) → IsScript s → (label : List ℕ) → IsSome (place_of s label) → (k : ℕ) × DeclaresAt (lines_of s) k label
taken-at s is label has = go (place_of s label) (is.found label) has
  where
    go : (o : Option ℕ) → IfSome o (λ place. DeclaresAt (lines_of s) place label) → IsSome o → (k : ℕ) × DeclaresAt (lines_of s) k label
    go None found h = absurd (search rules)
    go (Some k) found h = (k, found)
