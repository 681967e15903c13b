-- What the bytes that are handed over become.
use Rattle.std.proofs.Common.{◌≡◌, ◌≢◌, ℕ, Bool, true, false, IsTrue, IsFalse, List, [], ◌∷◌, ◌++◌, flat_map, map, refl, ap, sym, subst, Option, ◌∙◌}
use Rattle.std.proofs.Common.{append_assoc, append-nil}
use Rattle.std.proofs.KnownBytes.{Appends-trans}
use Rattle.std.proofs.lemmas.Grind.{flat_map-append}
use Rattle.std.specs.Io.KnownBytes.{Appends}
use Rattle.span_appender.specs.Queue.{Adds, Begins, IsUnchanged, accepted, begun, handed}
use Rattle.span_appender.specs.declared.non_blocking.NonBlocking.{NonBlocking}

pub adds : (a b : NonBlocking) (line : List ℕ) → Adds a b line → handed b ≡ flat_map (λ l. l) (accepted a) ++ line
adds a b line h =
    rw (h.goes.0, h.begun_none, flat_map-append (λ (l : List ℕ). l) (accepted a) (line ∷ []))
    (append-nil _ ∙ ap (λ l. flat_map (λ (x : List ℕ). x) (accepted a) ++ l) (append-nil line))

pub begins : (a b : NonBlocking) (line : List ℕ) → Begins a b line → handed b ≡ flat_map (λ l. l) (accepted a) ++ line
begins a b line h = rw (h.accepted_same, h.line_begun) refl

-- a piece of a line is handed over or begun
pub pieced : (v : Bool) (a b : NonBlocking) (piece : List ℕ) → (IsTrue v → Adds a b (begun a ++ piece)) → (IsFalse v → Begins a b (begun a ++ piece))
    → handed b ≡ handed a ++ piece
pieced true a b piece whole part = adds a b _ (whole refl) ∙ sym (append_assoc (flat_map (λ l. l) (accepted a)) (begun a) piece)
pieced false a b piece whole part = begins a b _ (part refl) ∙ sym (append_assoc (flat_map (λ l. l) (accepted a)) (begun a) piece)

-- a line that is ended adds no byte
pub ended : (line : List ℕ) (a b : NonBlocking) → begun a ≡ line → (begun a ≡ [] → IsUnchanged a b) → (begun a ≢ [] → Adds a b (begun a)) → handed b ≡ handed a
ended [] a b e none some = begins a b _ (none e)
ended (x ∷ xs) a b e none some = adds a b _ (some (λ n. let z : x ∷ xs ≡ [] = sym e ∙ n in cc))

-- lists that are mapped and joined
joined : {X : Type 0} (f : X → List ℕ) (xs : List X) → flat_map (λ l. l) (map f xs) ≡ flat_map f xs
joined f [] = refl
joined f (x ∷ xs) = ap (λ l. f x ++ l) (joined f xs)

-- what is written of lines, then of the line that is begun, then by a flush
pub rest_written : {X : Type 0} (f : X → List ℕ) (a b c d : Option (List ℕ)) (lines : List X) (line : List ℕ)
    → Appends a b (flat_map f lines) → Appends b c line → Appends c d [] → Appends a d (flat_map (λ l. l) (map f lines) ++ line)
rest_written f a b c d lines line p q r =
    let t = Appends-trans a c d _ [] (Appends-trans a b c _ line p q) r in
    subst (λ bytes. Appends a d bytes) (append-nil (flat_map f lines ++ line) ∙ ap (λ l. l ++ line) (sym (joined f lines))) t
