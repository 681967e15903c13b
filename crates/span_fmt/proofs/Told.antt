-- A layer writes all that it is told.
use Rattle.std.proofs.Common.{◌≡◌, ◌∙◌, ℕ, suc, Bool, true, false, List, [], ◌∷◌, ◌++◌, take, ap, refl, subst, sym, append_assoc}
use Rattle.std.proofs.lemmas.Bool.{true≢false}
use Rattle.std.proofs.lemmas.List.{append-nil}
use Rattle.span_layers.specs.Observe.{ObserverSteps, observer_of}
use Rattle.span_layers.specs.declared.observe.Observer.{Observer}
use Rattle.span_registry.specs.Position.{Heard, Told}
use Rattle.span_registry.specs.View.{View}
use Rattle.span_fmt.specs.Known.{SpanTexts, known_after}
use Rattle.span_fmt.specs.Lane.{Naming}
use Rattle.span_fmt.specs.Lines as lines
use Rattle.span_fmt.specs.Lines.{TakesNotice, lines_steps, notice_line}
use Rattle.span_fmt.specs.Page.{Writes}
use Rattle.span_fmt.specs.Told.{LinesHear, ObserverHears, TreeHears, WritesAll, WritesLines, WritesText, heard_lines, heard_text, known_by}
use Rattle.span_fmt.specs.Tree as tree
use Rattle.span_fmt.specs.Tree.{notice_text, tree_steps}
use Rattle.span_fmt.specs.declared.lines.Lines.{Lines}
use Rattle.span_fmt.specs.declared.tree.Tree.{Tree}

module _ {T : Type 0} (observed : ObserverSteps T) (text_of : T → List ℕ) (has_failed : T → Bool) (due : T → Heard → List ℕ) where
  -- one line is written, and what is due then makes the whole with it; or memory is refused
  record Goes (told : Told) (x y : T) : Type 0 where
    before : has_failed y ≡ false → has_failed x ≡ false
    more : has_failed y ≡ false → (heard : Heard) → text_of y ++ due y heard ≡ text_of x ++ due x (told ∷ heard)
    same : has_failed y ≡ true → text_of y ≡ text_of x

  module _ (none : (x : T) → due x [] ≡ []) (one : (told : Told) (heard : Heard) (x y : Observer T) (a : ObserverHears observed x (told ∷ heard) y)
      → Goes told (observer_of x) (observer_of a.0)) where
    -- memory that was refused stays so
    still_failed : (told : Told) (x y : T)
        → Goes told x y → has_failed x ≡ true → (b : Bool) → has_failed y ≡ b → (has_failed y ≡ true) × (text_of y ≡ text_of x)
    still_failed told x y w failed true e = (e, w.same e)
    still_failed told x y w failed false e = absurd (true≢false (sym failed ∙ w.before e))

    -- and nothing more is written
    nothing_more : (heard : Heard) (x y : Observer T) → ObserverHears observed x heard y
        → has_failed (observer_of x) ≡ true → (has_failed (observer_of y) ≡ true) × (text_of (observer_of y) ≡ text_of (observer_of x))
    nothing_more [] x y a failed =
        let same : y ≡ x = sym a in
        (ap (λ (z : Observer T). has_failed (observer_of z)) same ∙ failed, ap (λ (z : Observer T). text_of (observer_of z)) same)
    nothing_more (told ∷ heard) x y a failed =
        let z = a.0 in
        let next = still_failed told (observer_of x) (observer_of z) (one told heard x y a) failed (has_failed (observer_of z)) refl in
        let rest = nothing_more heard z y a.2 next.0 in
        (rest.0, rest.1 ∙ next.1)

    -- nothing is due where nothing was heard
    none_due : (x y : T) → text_of y ≡ text_of x → text_of y ≡ text_of x ++ due x []
    none_due x y e = e ∙ sym (append-nil (text_of x)) ∙ ap (λ (t : List ℕ). text_of x ++ t) (sym (none x))

    -- it wrote one line, and then these
    first_written : (told : Told) (heard : Heard) (x z y : T) → Goes told x z → WritesText text_of has_failed (due z) heard z y
        → (has_failed z ≡ true → text_of y ≡ text_of z) → (has_failed x ≡ true → (has_failed y ≡ true) × (text_of y ≡ text_of x))
        → WritesText text_of has_failed (due x) (told ∷ heard) x y
    first_written told heard x z y w rest stopped stays = record {
      whole = λ sound.
          let late = rest.whole sound in
          (w.before late.0, late.1 ∙ w.more late.0 heard);
      beginning = by_test (has_failed z) refl;
      stays = stays;
    }
      where
        by_test : (b : Bool) → has_failed z ≡ b → (n : ℕ) × (text_of y ≡ text_of x ++ due x (take n (told ∷ heard)))
        by_test true e = (0, none_due x y (stopped e ∙ w.same e))
        by_test false e =
            let some = rest.beginning in
            (suc some.0, some.1 ∙ w.more e (take some.0 heard))

    -- all that is told is written
    text_written : (x y : Observer T) (heard : Heard)
        → ObserverHears observed x heard y → WritesText text_of has_failed (due (observer_of x)) heard (observer_of x) (observer_of y)
    text_written x y [] a =
        let same : text_of (observer_of y) ≡ text_of (observer_of x) ++ due (observer_of x) [] =
        none_due (observer_of x) (observer_of y) (ap (λ (z : Observer T). text_of (observer_of z)) (sym a)) in
        record { whole = λ sound. (ap (λ (z : Observer T). has_failed (observer_of z)) a ∙ sound, same); beginning = (0, same); stays = nothing_more [] x y a }
    text_written x y (told ∷ heard) a =
        let z = observer_of a.0 in
        first_written told heard (observer_of x) z (observer_of y)
        (one told heard x y a) (text_written a.0 y heard a.2) (λ failed. (nothing_more heard a.0 y a.2 failed).1) (nothing_more (told ∷ heard) x y a)

-- a line in front of others
in_front : (line more old new : List ℕ) → new ≡ old ++ line → new ++ more ≡ old ++ (line ++ more)
in_front line more old new first = ap (λ (t : List ℕ). t ++ more) first ∙ append_assoc old line more

-- ---- trees

abbrev tree_due : Tree → Heard → List ℕ
tree_due x heard = heard_text (tree.names_of x) heard

tree_one : (told : Told) (heard : Heard) (x y : Observer Tree) (a : TreeHears x (told ∷ heard) y)
    → Goes tree_steps tree.text_of tree.has_failed tree_due told (observer_of x) (observer_of a.0)
tree_one told heard x y a =
    let names = tree.names_of (observer_of x) in
    let w = subst (λ (v : View). Writes (notice_text names told.notice v) (observer_of x).page (observer_of a.0).page) (sym a.1.shown) a.1.step.1.0 in
    record {
      before = λ sound. (w.whole sound).0;
      more = λ sound more. ap (λ (n : Naming). tree.text_of (observer_of a.0) ++ heard_text n more) a.1.step.1.1
          ∙ in_front (notice_text names told.notice told.view) (heard_text names more)
          (tree.text_of (observer_of x)) (tree.text_of (observer_of a.0)) (w.whole sound).1;
      same = w.cut;
    }

tree_text : (x y : Observer Tree) (heard : Heard)
    → TreeHears x heard y → WritesText tree.text_of tree.has_failed (tree_due (observer_of x)) heard (observer_of x) (observer_of y)
tree_text = text_written tree_steps tree.text_of tree.has_failed tree_due (λ x. refl) tree_one

-- lanes keep their names
tree_named : (x y : Observer Tree) (heard : Heard) → TreeHears x heard y → tree.names_of (observer_of y) ≡ tree.names_of (observer_of x)
tree_named x y [] a = ap (λ (z : Observer Tree). tree.names_of (observer_of z)) (sym a)
tree_named x y (told ∷ heard) a = tree_named a.0 y heard a.2 ∙ a.1.step.1.1

-- all that a tree is told is written
pub tree_written : (x y : Observer Tree) (heard : Heard) → TreeHears x heard y → WritesAll heard (observer_of x) (observer_of y)
tree_written x y heard a = record { text = tree_text x y heard a; names = tree_named x y heard a }

-- ---- lines

abbrev lines_due : Lines → Heard → List ℕ
lines_due x heard = heard_lines (lines.names_of x) (lines.known_of x) heard

-- lines that are told of something go on by their step
noticed : (told : Told) (heard : Heard) (x y : Observer Lines) (a : LinesHear x (told ∷ heard) y)
    → TakesNotice told.notice told.view (observer_of x) (observer_of a.0)
noticed told heard x y a = subst (λ (v : View). TakesNotice told.notice v (observer_of x) (observer_of a.0)) (sym a.1.shown) a.1.step.1.0

lines_one : (told : Told) (heard : Heard) (x y : Observer Lines) (a : LinesHear x (told ∷ heard) y)
    → Goes lines_steps lines.text_of lines.has_failed lines_due told (observer_of x) (observer_of a.0)
lines_one told heard x y a =
    let w = noticed told heard x y a in
    let known = lines.known_of (observer_of x) in
    let names = lines.names_of (observer_of x) in
    record {
      before = w.before;
      more = λ sound more. (λ i. lines.text_of (observer_of a.0) ++ heard_lines (w.names i) (w.known sound i) more)
          ∙ in_front (notice_line names told.notice told.view known)
          (heard_lines names (known_after told.notice known) more) (lines.text_of (observer_of x)) (lines.text_of (observer_of a.0)) (w.line sound);
      same = w.same;
    }

lines_text : (x y : Observer Lines) (heard : Heard)
    → LinesHear x heard y → WritesText lines.text_of lines.has_failed (lines_due (observer_of x)) heard (observer_of x) (observer_of y)
lines_text = text_written lines_steps lines.text_of lines.has_failed lines_due (λ x. refl) lines_one

-- what was given to spans is known
all_known : (x y : Observer Lines) (heard : Heard)
    → LinesHear x heard y → lines.has_failed (observer_of y) ≡ false → lines.known_of (observer_of y) ≡ known_by heard (lines.known_of (observer_of x))
all_known x y [] a sound = ap (λ (z : Observer Lines). lines.known_of (observer_of z)) (sym a)
all_known x y (told ∷ heard) a sound =
    let w = noticed told heard x y a in
    all_known a.0 y heard a.2 sound ∙ ap (known_by heard) (w.known ((lines_text a.0 y heard a.2).whole sound).0)

-- lanes keep their names
lines_named : (x y : Observer Lines) (heard : Heard) → LinesHear x heard y → lines.names_of (observer_of y) ≡ lines.names_of (observer_of x)
lines_named x y [] a = ap (λ (z : Observer Lines). lines.names_of (observer_of z)) (sym a)
lines_named x y (told ∷ heard) a = lines_named a.0 y heard a.2 ∙ (noticed told heard x y a).names

-- all that lines are told is written
pub lines_written : (x y : Observer Lines) (heard : Heard) → LinesHear x heard y → WritesLines heard (observer_of x) (observer_of y)
lines_written x y heard a = record { text = lines_text x y heard a; known = all_known x y heard a; names = lines_named x y heard a }
