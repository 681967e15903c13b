-- JSON by its members.
use Rattle.std.specs.Prelude.{◌≡◌, ℕ, List, [], ◌∷◌, Some, map}
use Rattle.json.specs.Lex.{tokens}
use Rattle.json.specs.Print.{print}
use Rattle.serde_json.specs.Data.{Data, Members, no_members, number, object, put, unsigned}
use Rattle.serde_json.specs.Read.{read}

-- the members of an object
abbrev pub members : List (List ℕ × Data) → Members
members [] = no_members
members (m ∷ ms) = put m.0 m.1 (members ms)

-- an object with these members
abbrev pub object_of : List (List ℕ × Data) → Data
object_of ms = object (members ms)

-- a whole number
abbrev pub whole : ℕ → Data
whole n = number (unsigned n)

-- the text is JSON, and means this
abbrev pub Means : List ℕ → Data → Type 0
Means text value = read text ≡ Some value

-- each line means the value in its place
abbrev pub AllMean : List (List ℕ) → List Data → Type 0
AllMean lines values = map read lines ≡ map Some values

-- the tokens of a text, printed with nothing between them
abbrev pub reprinted : List ℕ → List ℕ
reprinted text = print (tokens text)

-- each of these texts has nothing between its tokens, and so is one line
abbrev pub AreCompact : List (List ℕ) → Type 0
AreCompact texts = map reprinted texts ≡ texts
