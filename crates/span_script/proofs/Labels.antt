-- Lines whose labels or directives are wrong.
use Rattle.std.proofs.Common.{◌≡◌, ◌≢◌, ℕ, ◌≤◌, List, length, Some, IfSome, refl, sym, ap, subst, ◌∙◌, inl, inr, arith}
use Rattle.std.specs.Prelude.{slice_get}
use Rattle.std.specs.Borrow.{Bor}
use Rattle.span_script.specs.Fault.{Blames, IsLineFaultAt, IsTakenAt, IsUnasked, IsUnread}
use Rattle.span_script.specs.Reason.{IsLineFault, IsTaken, IsUndeclared, names_of}
use Rattle.span_script.specs.Script.{declared_label, words_of, Asks, DeclaresAt, HoldsOfNone, IsNewIn}
use Rattle.span_script.specs.declared.fault.ScriptFault.{ScriptFault}
use Rattle.span_script.specs.declared.fault.ScriptFault.TheVariants.{Memory, Wrong}
use Rattle.span_script.specs.declared.line.Line.{Line}
use Rattle.span_script.specs.declared.line.Line.TheVariants.{New, Event, Enter, Exit, Record, Follows, Clone, Drop, Enabled, Current, Level, Targets}
use Rattle.span_script.specs.declared.line.MuteField.TheVariants.{Absent, Given}
use Rattle.span_script.specs.declared.line.ParentName.TheVariants.{Contextual, Root, In}
use Rattle.span_script.specs.declared.reason.Reason.{Reason}
use Rattle.span_script.specs.declared.reason.Reason.TheVariants.{DeclaredBefore, Directive, Undeclared}
use Rattle.span_script.specs.declared.unasked.Unasked.{Unasked}
use Rattle.span_script.specs.declared.unasked.Unasked.TheVariants as unasked
use Rattle.span_script.specs.declared.unasked.Unasked.TheVariants.{At}
use Rattle.span_dispatch.specs.declared.request.Request.{Request}
use Rattle.span_dispatch.specs.declared.request.Request.TheVariants.{Reload}
use Rattle.span_script.proofs.Growing.{both-known}

-- a label that is taken is not new
pub taken-not-new : (before : List Line) (l : Line) → IsTaken before l → ¬ (IsNewIn before l)
taken-not-new before l taken new =
    let label = both-known (declared_label l) (λ label. (place : ℕ) → IfSome (slice_get before place) (λ other. declared_label other ≢ Some label))
    (λ label. (place : ℕ) × DeclaresAt before place label) new taken in
    let line = both-known (slice_get before label.1.1.0)
    (λ other. declared_label other ≢ Some label.0) (λ other. declared_label other ≡ Some label.0) (label.1.0 label.1.1.0) label.1.1.1 in
    line.1.0 line.1.1

-- a line that asks for a request, and declares a label that is taken
pub taken-fault : (n : ℕ) (before : List Line) (l : Line) (words : List (List ℕ)) (r : Request)
    → Asks before l r → (f : ScriptFault) → Blames n (IsTakenAt before l words) f → Blames n (IsLineFaultAt before l words) f
taken-fault n before l words r asks Memory h = tt
taken-fault n before l words r asks (Wrong w) h = (
  h.0,
  (
    λ can. taken-not-new before l h.1.1 can.1,
    (3, (subst (λ reason. IsLineFault before l 3 reason) (sym h.1.0) (refl, (r, asks), h.1.1), h.1.2)),
  ),
)

-- a name stands among a line's words
pub name-within : (before : List Line) (l : Line) (place : ℕ) → IsUndeclared before (names_of l) place → place ≤ length (words_of l)
name-within before (New lane site label Contextual) place u = absurd u
name-within before (New lane site label Root) place u = absurd u
name-within before (New lane site label (In name)) place (inl u) = omega (arith, u.0)
name-within before (New lane site label (In name)) place (inr u) = absurd u.1
name-within before (Event lane site Contextual mute) place u = absurd u
name-within before (Event lane site Root mute) place u = absurd u
name-within before (Event lane site (In name) Absent) place (inl u) = omega (arith, u.0)
name-within before (Event lane site (In name) Given) place (inl u) = omega (arith, u.0)
name-within before (Event lane site (In name) mute) place (inr u) = absurd u.1
name-within before (Enter lane name) place (inl u) = omega (arith, u.0)
name-within before (Enter lane name) place (inr u) = absurd u.1
name-within before (Exit lane name) place (inl u) = omega (arith, u.0)
name-within before (Exit lane name) place (inr u) = absurd u.1
name-within before (Record lane name) place (inl u) = omega (arith, u.0)
name-within before (Record lane name) place (inr u) = absurd u.1
name-within before (Follows lane name other) place (inl u) = omega (arith, u.0)
name-within before (Follows lane name other) place (inr (declared, inl u)) = omega (arith, u.0)
name-within before (Follows lane name other) place (inr (declared, inr u)) = absurd u.1
name-within before (Clone name) place (inl u) = omega (arith, u.0)
name-within before (Clone name) place (inr u) = absurd u.1
name-within before (Drop lane name) place (inl u) = omega (arith, u.0)
name-within before (Drop lane name) place (inr u) = absurd u.1
name-within before (Enabled lane site) place u = absurd u
name-within before (Current lane) place u = absurd u
name-within before (Level number level) place u = absurd u
name-within before (Targets number text) place u = absurd u

-- what a line is at fault for stands among its words
pub fault-within : (before : List Line) (l : Line) (place : ℕ) (reason : Reason) → IsLineFault before l place reason → place ≤ length (words_of l)
fault-within before l place Undeclared h = name-within before l place h
fault-within before (New lane site label parent) place DeclaredBefore h = omega (arith, h.0)
fault-within before (Targets number text) place (Directive directive) h = omega (arith, h.0)
fault-within before l place DeclaredBefore h = absurd h.2
fault-within before l place (Directive directive) h = absurd h.1
fault-within before l place reason h = absurd h

-- a line whose text is not read asks for nothing
pub text-unasked : (before : List Line) (number : ℕ) (text : Bor (List ℕ)) (u : Unasked) → IsUnread text.now u → IsUnasked before (Targets number text) u
text-unasked before number text (At place reason) h = (none, subst (λ r. IsLineFault before (Targets number text) place r) (sym h.1.1) (h.0, h.1.2))
  where
    none : HoldsOfNone (Asks before (Targets number text))
    none (Reload n setting) asks = let e = sym h.1.2 ∙ asks.1.2 in cc
    none r asks = absurd asks
text-unasked before number text unasked.Memory h = tt
