-- Who enables metadata, as interest and hint of a stack say: nobody, or all.
use Rattle.std.specs.Prelude.{◌≡◌, ◌⊎◌, ℕ, true, false, IsSome, Some, None}
use Rattle.std.specs.List.{AllByRecursion}
use Rattle.span_core.specs.Event.{event_metadata}
use Rattle.span_core.specs.Level.{is_above}
use Rattle.span_core.specs.Metadata.{level_of}
use Rattle.span_core.specs.Span.{metadata_of}
use Rattle.span_core.specs.declared.interest.Interest.TheVariants.{Always, Never}
use Rattle.span_core.specs.declared.metadata.Metadata.{Metadata}
use Rattle.span_core.specs.declared.span.Attributes.{Attributes}
use Rattle.span_core.specs.declared.span.Id.{Id}
use Rattle.span_stacks.specs.Honest.{IsHonestStack}
use Rattle.span_store.specs.Store.{Store}
use Rattle.span_stacks.specs.Verdict.{vetoes}
use Rattle.span_registry.specs.Path.{Path, passes_path, path_at}
use Rattle.span_registry.specs.Behaviour.{Notice, OnEvent, OnNewSpan}
use Rattle.span_registry.specs.Form.{Form}
use Rattle.span_registry.specs.Hooks.{no_filter}
use Rattle.span_registry.specs.Position.{Position}
use Rattle.span_registry.specs.Question.{asked, hint_of, interest_of}

-- a notice is of a new span or an event with these metadata
abbrev pub HasMetadata : Notice → Metadata → Type 0
HasMetadata (OnNewSpan attrs id) m = metadata_of attrs ≡ m
HasMetadata (OnEvent e) m = event_metadata e ≡ m
HasMetadata other m = ⊥

-- these metadata are enabled for nobody: no path passes a new span or an event with them, asked on
-- a lane of a store
abbrev pub IsWantedByNobody : Form → Metadata → Store → ℕ → Type 0
IsWantedByNobody f m s lane = (e : Notice) (position : Position) (path : Path)
    → HasMetadata e m → path_at f position ≡ Some path → passes_path path e s lane no_filter ≡ false

-- a leaf vetoes these metadata, or they are enabled for nobody: no harm is done if nobody is asked
abbrev pub IsUnwanted : Form → Metadata → Store → ℕ → Type 0
IsUnwanted f m s lane = (vetoes f m s lane ≡ true) ⊎ IsWantedByNobody f m s lane

-- new spans with these metadata are enabled for all: no leaf vetoes, and each path whose filters
-- have numbers passes one. No harm is done if nobody is asked; an event is asked for itself still
pub record IsWantedByAll (f : Form) (m : Metadata) (s : Store) (lane : ℕ) : Type 0 where
  pub veto : vetoes f m s lane ≡ false
  pub paths : (attrs : Attributes) (id : Id) (position : Position) (path : Path)
      → metadata_of attrs ≡ m → path_at f position ≡ Some path
      → AllByRecursion (λ x. IsSome x.0) path
      → passes_path path (OnNewSpan attrs id) s lane no_filter ≡ true

-- Below: the laws, of honest stacks on a registry that handed out this many filters.

-- where the interest, asked with a new pass, is never, a leaf vetoes the metadata, or they are
-- enabled for nobody, in every store, on every lane
abbrev pub NeverIsUnwanted : Type 0
NeverIsUnwanted =
    (f : Form) (filters : ℕ) (m : Metadata) (s : Store) (lane : ℕ) → IsHonestStack f filters
    → (interest_of f m filters None).0 ≡ Never → IsUnwanted f m s lane

-- where the level of metadata is above the hint, a leaf vetoes them, or they are enabled for
-- nobody, in every store, on every lane
abbrev pub AboveIsUnwanted : Type 0
AboveIsUnwanted =
    (f : Form) (filters : ℕ) (m : Metadata) (s : Store) (lane : ℕ) → IsHonestStack f filters
    → is_above (level_of m) (hint_of f) ≡ true → IsUnwanted f m s lane

-- where the interest, asked with a new pass, is always, new spans with the metadata are enabled for
-- all, in every store, on every lane
abbrev pub AlwaysIsWanted : Type 0
AlwaysIsWanted =
    (f : Form) (filters : ℕ) (m : Metadata) (s : Store) (lane : ℕ) → IsHonestStack f filters
    → (interest_of f m filters None).0 ≡ Always → IsWantedByAll f m s lane

-- where the interest is always and the stack is asked nevertheless, the answer is true, and no
-- filter refuses
abbrev pub AlwaysAsksInVain : Type 0
AlwaysAsksInVain =
    (f : Form) (filters : ℕ) (m : Metadata) (s : Store) (lane : ℕ) → IsHonestStack f filters
    → (interest_of f m filters None).0 ≡ Always
    → asked f m s lane no_filter no_filter ≡ (true, no_filter)
