-- What a stream writes of all that it is notified of.
use Rattle.std.specs.Prelude.{◌≡◌, ◌⊎◌, ◌<◌, ℕ, Bool, false, List, [], ◌∷◌, ◌++◌, Option}
use Rattle.std.specs.Io.KnownBytes.{Appends}
use Rattle.span_registry.specs.Position.{Heard, Told}
use Rattle.span_fmt.specs.Form.{FormMisses, FormSteps, Gives}
use Rattle.span_fmt.specs.Outlet.{IsHanded, is_torn, lost_of, most_lost, next_lost, writer_of}
use Rattle.span_fmt.specs.Stream.{form_of, outlet_of, stream_steps}
use Rattle.span_fmt.specs.Told.{WritesWhatItHears}
use Rattle.span_fmt.specs.declared.stream.Stream.{Stream}

module _ {F : Type 0} (gives : FormSteps F) (misses : FormMisses F) where
  -- of one notice: the form gives a line, of which this piece is written; or it finds no memory,
  -- and nothing is written
  abbrev pub WritesOne : Told → F → Bool → ℕ → List ℕ → F → Bool → ℕ → Type 0
  WritesOne told f torn lost piece g torn' lost' =
      ((line : List ℕ) × gives f told.notice told.view line g
      × IsHanded line torn lost piece torn' lost')
      ⊎ (misses f told.notice told.view g
      × ((piece ≡ []) × (torn' ≡ torn) × (lost' ≡ next_lost lost)))

  -- of all these notices: a piece of each, one behind the other
  abbrev pub WritesPieces : Heard → F → Bool → ℕ → List ℕ → F → Bool → ℕ → Type 0
  WritesPieces [] f torn lost text g torn' lost' =
      (text ≡ []) × (g ≡ f) × (torn' ≡ torn) × (lost' ≡ lost)
  WritesPieces (told ∷ heard) f torn lost text g torn' lost' =
      (piece : List ℕ) × (h : F) × (torn'' : Bool) × (lost'' : ℕ) × (more : List ℕ)
      × WritesOne told f torn lost piece h torn'' lost''
      × WritesPieces heard h torn'' lost'' more g torn' lost' × (text ≡ piece ++ more)

module _ {F W : Type 0} (gives : FormSteps F) (misses : FormMisses F)
    (contents : W → Option (List ℕ)) where
  -- the bytes that the writer holds, where they are known, grow by a piece of each line, in order;
  -- and by exactly the lines that the form gives where none is lost
  pub record WritesStream (heard : Heard) (x y : Stream F W) : Type 0 where
    pub pieces : (text : List ℕ)
        × WritesPieces gives misses heard (form_of x) (is_torn (outlet_of x))
        (lost_of (outlet_of x)) text (form_of y) (is_torn (outlet_of y)) (lost_of (outlet_of y))
        × Appends (contents (writer_of (outlet_of x))) (contents (writer_of (outlet_of y))) text
    pub whole : is_torn (outlet_of x) ≡ false → lost_of (outlet_of y) ≡ lost_of (outlet_of x)
        → lost_of (outlet_of x) < most_lost
        → (text : List ℕ) × Gives gives (form_of x) heard text (form_of y)
        × Appends (contents (writer_of (outlet_of x))) (contents (writer_of (outlet_of y))) text
        × (is_torn (outlet_of y) ≡ false)

  -- each stream writes so of all that it is notified of
  abbrev pub StreamsWriteAll : Type 0
  StreamsWriteAll = WritesWhatItHears (stream_steps gives misses contents) WritesStream
