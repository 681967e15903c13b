-- What a layer writes of all that it is notified of.
use Rattle.std.specs.Prelude.{◌≡◌, ℕ, Bool, false, true, List, [], ◌∷◌, ◌++◌, flat_map, take}
use Rattle.std.specs.List.{AllByRecursion}
use Rattle.span_layers.specs.Layer.{HearsBy}
use Rattle.span_layers.specs.Observe.{ObserverStep, ObserverSteps, observer_of}
use Rattle.span_layers.specs.declared.observe.Observer.{Observer}
use Rattle.span_registry.specs.Position.{Heard, Here}
use Rattle.span_fmt.specs.Known.{SpanTexts, Spares, given_text, known_after}
use Rattle.span_fmt.specs.Lane.{Naming}
use Rattle.span_fmt.specs.Lines as lines
use Rattle.span_fmt.specs.Lines.{lines_steps, notice_line}
use Rattle.span_fmt.specs.Tree as tree
use Rattle.span_fmt.specs.Tree.{notice_text, tree_steps}
use Rattle.span_fmt.specs.declared.lines.Lines.{Lines}
use Rattle.span_fmt.specs.declared.tree.Tree.{Tree}

-- an observer in a stack is notified of these, as the stack says it: it goes through them by its
-- own step, one by one
abbrev pub ObserverHears : {T : Type 0} → ObserverSteps T → Observer T → Heard → Observer T
    → Type 0
ObserverHears observed x heard y =
    HearsBy (λ x p e lane under v y w.
    ObserverStep observed (observer_of x) p e lane under v (observer_of y) w) x Here heard y

-- an observer that goes by these steps writes this of whatever it is notified of
abbrev pub WritesWhatItHears : {T : Type 0} → ObserverSteps T → (Heard → T → T → Type 0) → Type 0
WritesWhatItHears {T} observed writes =
    (x y : Observer T) (heard : Heard) → ObserverHears observed x heard y
    → writes heard (observer_of x) (observer_of y)

module _ {T : Type 0} (text_of : T → List ℕ) (has_failed : T → Bool) where
  -- the text grows by exactly what is due of all this; where memory is refused, by what is due of a
  -- beginning alone, and by nothing where it was refused before
  pub record WritesText (due : Heard → List ℕ) (heard : Heard) (x y : T) : Type 0 where
    pub whole : has_failed y ≡ false
        → (has_failed x ≡ false) × (text_of y ≡ text_of x ++ due heard)
    pub beginning : (n : ℕ) × (text_of y ≡ text_of x ++ due (take n heard))
    pub stays : has_failed x ≡ true → (has_failed y ≡ true) × (text_of y ≡ text_of x)

-- the text of what a tree is notified of: the lines in order, each of what its own context shows
-- then
abbrev pub heard_text : Naming → Heard → List ℕ
heard_text names heard = flat_map (λ told. notice_text names told.notice told.view) heard

-- a tree is notified of these
abbrev pub TreeHears : Observer Tree → Heard → Observer Tree → Type 0
TreeHears = ObserverHears tree_steps

-- the tree writes the lines of all this, unless it fails, and keeps the names of lanes
pub record WritesAll (heard : Heard) (x y : Tree) : Type 0 where
  pub text : WritesText tree.text_of tree.has_failed (heard_text (tree.names_of x)) heard x y
  pub names : tree.names_of y ≡ tree.names_of x

-- each tree writes the lines of all that it is notified of, unless it fails
abbrev pub TreesWriteAll : Type 0
TreesWriteAll = WritesWhatItHears tree_steps WritesAll

-- what is known of spans after all this
abbrev pub known_by : Heard → SpanTexts → SpanTexts
known_by [] known = known
known_by (told ∷ heard) known = known_by heard (known_after told.notice known)

-- of a span that isn't closed by any of this, all that was known is known, and behind it all that
-- it was given, in order
abbrev pub KnowsWhatWasGiven : Type 0
KnowsWhatWasGiven = (x : ℕ) (heard : Heard) (known : SpanTexts)
    → AllByRecursion (λ told. Spares x told.notice) heard
    → known_by heard known x ≡ known x ++ flat_map (λ told. given_text x told.notice) heard

-- the lines of the events among this, in order, each in its own view and with what is known of
-- spans by then
abbrev pub heard_lines : Naming → SpanTexts → Heard → List ℕ
heard_lines names known [] = []
heard_lines names known (told ∷ heard) =
    notice_line names told.notice told.view known
    ++ heard_lines names (known_after told.notice known) heard

-- a `Lines` is notified of these
abbrev pub LinesHear : Observer Lines → Heard → Observer Lines → Type 0
LinesHear = ObserverHears lines_steps

-- a `Lines` writes a line for each event among this, and knows what spans were given, unless it
-- fails; it keeps the names of lanes
pub record WritesLines (heard : Heard) (x y : Lines) : Type 0 where
  pub text : WritesText lines.text_of lines.has_failed
      (heard_lines (lines.names_of x) (lines.known_of x)) heard x y
  pub known : lines.has_failed y ≡ false → lines.known_of y ≡ known_by heard (lines.known_of x)
  pub names : lines.names_of y ≡ lines.names_of x

-- each `Lines` writes a line for each event that it is notified of, unless it fails
abbrev pub LinesWriteEvents : Type 0
LinesWriteEvents = WritesWhatItHears lines_steps WritesLines
