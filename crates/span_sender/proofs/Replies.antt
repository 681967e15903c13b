-- What answers say.
use Rattle.std.proofs.Common.{◌≡◌, ℕ, Bool, true, false, if◌then◌else◌, List, refl, sym, ◌∙◌, Option, None, Some, IsUtf8}
use Rattle.std.proofs.lemmas.Str.{IsUtf8-from_is_utf8, is_utf8-from_IsUtf8}
use Rattle.std.specs.Str.{is_utf8}
use Rattle.serde_json.specs.Data.{Data}
use Rattle.serde_json.specs.Read.{read}
use Rattle.span_sender.specs.Reply.{json_in}

is_json_by : (b : Bool) (o : Option Data) (d : Data) → b ≡ true → o ≡ Some d → (if b then o else None) ≡ Some d
is_json_by b o d h e = rw h e

is_none_by : (b : Bool) (o : Option Data) → (b ≡ true → o ≡ None) → (if b then o else None) ≡ None
is_none_by true o h = h refl
is_none_by false o h = refl

-- a body is a text in JSON
pub is_json : (body : List ℕ) (d : Data) → IsUtf8 body → read body ≡ Some d → json_in body ≡ Some d
is_json body d u e = is_json_by (is_utf8 body) (read body) d (is_utf8-from_IsUtf8 body u) e

-- or it isn't
pub is_none : (body : List ℕ) → (IsUtf8 body → read body ≡ None) → json_in body ≡ None
is_none body h = is_none_by (is_utf8 body) (read body) (λ t. h (IsUtf8-from_is_utf8 body t))

-- a test that fails, of a fact
pub fails : (b : Bool) (P : Type 0) → (P → b ≡ true) → b ≡ false → ¬ P
fails b P h f = λ p. let no : true ≡ false = sym (h p) ∙ f in absurd (cc)
