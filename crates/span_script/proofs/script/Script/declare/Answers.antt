use Rattle.std.proofs.Common.{◌≡◌, ◌∙◌, ℕ, List, length, Option, None, Some, sym, refl, ap, subst, rules}
use Rattle.std.proofs.lemmas.Map.Text.{btree_map_updates_str}
use Rattle.std.specs.Prelude.{false, is_some, bytes_eq}
use Rattle.std.specs.Map.{update}
use Rattle.span_script.specs.Script.{Declares, place_of, lines_of, texts_in}
use Rattle.std.proofs.lemmas.List.{take-map}
use Rattle.span_script.specs.Fault.{Blames, IsTakenAt}
use Rattle.span_script.specs.Misfit.{column_after}
use Rattle.span_script.specs.Reason.{IsTaken}
use Rattle.span_script.proofs.Growing.{taken-at}
use Rattle.span_script.specs.declared.line.Line.{Line}
use Rattle.span_script.specs.declared.script.Script.{Script}
use Rattle.span_script.proofs.script.Script.declare.Goals as goal

none : {X : Type 0} (o : Option X) → is_some o ≡ false → o ≡ None
none None e = refl
none (Some x) e = cc

-- the label was free, and now has the place of the next line
pub returns-in_ok-insert-in-New-clause-labels : goal.returns-in_ok-insert-in-New-clause-labels
returns-in_ok-insert-in-New-clause-labels c =
    let free : place_of c.args.self.now c.in-New.label.now ≡ None = none _ (sym c.contains_key.ensures ∙ c.if-contains_key.false) in
    let place : c.len.result ≡ length (lines_of c.args.self.now) = search rules in
    let new : Script =
    record { stack = c.args.self.now.stack; lines = c.args.self.now.lines; requests = c.args.self.now.requests; labels = c.insert.new.self } in
    let updates : (other : List ℕ) → place_of new other ≡ update bytes_eq (place_of c.args.self.now) c.in-New.label.now (Some c.len.result) other =
    btree_map_updates_str c.in-New.label.now c.args.self.now.labels c.insert.new.self (Some c.len.result) c.in_ok-insert-in-New.ensures.updates in
    subst (λ (l : Line). Declares c.args.self.now l new) (sym c.in-New.is) (free, rw place at updates)

-- a label that has a place is taken
pub returns-then-contains_key-clause-fault : goal.returns-then-contains_key-clause-fault
returns-then-contains_key-clause-fault c =
    let taken : IsTaken (lines_of c.args.self.now) c.args.line =
    subst (λ (l : Line). IsTaken (lines_of c.args.self.now) l) (sym c.in-New.is)
    (taken-at c.args.self.now c.requires.script c.in-New.label.now (sym c.contains_key.ensures ∙ c.if-contains_key.true)) in
    subst (λ f. Blames c.args.number (IsTakenAt (lines_of c.args.self.now) c.args.line (texts_in c.args.words.now)) f) (sym c.wrong.ensures)
    (refl, (refl, taken, c.column_after-column.ensures ∙ ap (λ xs. column_after xs) (sym (take-map (λ t. t.now) 3 c.args.words.now))))
