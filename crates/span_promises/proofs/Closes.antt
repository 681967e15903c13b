-- What a recorder keeps of closes is among what was made, in that order.
use Rattle.std.proofs.Common.{inl, inr, ℕ, Bool, true, false, if◌then◌else◌, List, [], ◌∷◌, ◌++◌, map, Option, Some, None, ap, subst, sym}
use Rattle.span_core.specs.Filters.{FilterSet}
use Rattle.span_core.specs.Span.{number_of}
use Rattle.span_core.specs.declared.span.Id.{Id}
use Rattle.span_core.specs.declared.span.Lane.{Lane}
use Rattle.span_dispatch.proofs.Once.{closed_in}
use Rattle.span_dispatch.specs.Alone.{passed, passed_at}
use Rattle.span_dispatch.specs.Outcome.{Noticed, Outcome, OutcomeAt, given_in}
use Rattle.span_dispatch.specs.Recorder.{RecorderState, Records, kept_notice, new_recorder}
use Rattle.span_dispatch.specs.Serve.{closed_by}
use Rattle.span_dispatch.specs.declared.recorded.Recorded.TheVariants as kept
use Rattle.span_dispatch.specs.declared.recorded.Recorded.{Recorded}
use Rattle.span_store.specs.Closes.{Member}
use Rattle.span_store.specs.Store.{Store}
use Rattle.span_registry.specs.Behaviour.{Notice, OnClose}
use Rattle.span_registry.specs.Hooks.{no_filter}
use Rattle.span_registry.specs.Path.{Path, mask_of, passes_path, path_at}
use Rattle.span_registry.specs.Position.{Heard, Position, told_in}
use Rattle.span_promises.specs.Parents.{StandsBefore}
use Rattle.span_promises.specs.Promises.{ClosesBefore, HasClose}

-- ---- a beginning of a list

has_more : (id : Id) (ns more : List Recorded) → HasClose id ns → HasClose id (ns ++ more)
has_more id [] more h = absurd h
has_more id (kept.Close lane x ∷ ns) more (inl e) = inl e
has_more id (kept.Close lane x ∷ ns) more (inr h) = inr (has_more id ns more h)
has_more id (n ∷ ns) more h = has_more id ns more h

before_more : (a b : Id) (ns more : List Recorded) → ClosesBefore a b ns → ClosesBefore a b (ns ++ more)
before_more a b [] more h = absurd h
before_more a b (kept.Close lane x ∷ ns) more (inl h) = inl (h.0, has_more b ns more h.1)
before_more a b (kept.Close lane x ∷ ns) more (inr h) = inr (before_more a b ns more h)
before_more a b (n ∷ ns) more h = before_more a b ns more h

-- ---- what was made

member_behind : (xs ys : List ℕ) (x : ℕ) → Member x ys → Member x (xs ++ ys)
member_behind [] ys x h = h
member_behind (y ∷ xs) ys x h = inr (member_behind xs ys x h)

before_behind : (x y : ℕ) (xs ys : List ℕ) → StandsBefore x y ys → StandsBefore x y (xs ++ ys)
before_behind x y [] ys h = h
before_behind x y (z ∷ xs) ys h = inr (before_behind x y xs ys h)

-- what is kept of one notice, if it passes, and of what follows
module _ (u : Store) (n : ℕ) (mask : FilterSet) (lane : Lane) (rest : Heard) (later : List ℕ) where
  abbrev KeptOf : Bool → Notice → List Recorded
  KeptOf b e = map kept_notice ((if b then told_in e u n mask ∷ [] else []) ++ rest)

  has_gate : (id : Id) → (HasClose id (map kept_notice rest) → Member (number_of id) later) → (b : Bool) (e : Notice) → HasClose id (KeptOf b e)
      → Member (number_of id) (closed_by (Noticed lane e) ++ later)
  has_gate id on true (OnClose x) (inl e) = inl (ap number_of (sym e))
  has_gate id on true (OnClose x) (inr h) = inr (on h)
  has_gate id on true e h = on h
  has_gate id on false e h = member_behind (closed_by (Noticed lane e)) later (number_of id) (on h)

  before_gate : (a c : Id) → (HasClose c (map kept_notice rest) → Member (number_of c) later)
      → (ClosesBefore a c (map kept_notice rest) → StandsBefore (number_of a) (number_of c) later) → (b : Bool) (e : Notice)
      → ClosesBefore a c (KeptOf b e) → StandsBefore (number_of a) (number_of c) (closed_by (Noticed lane e) ++ later)
  before_gate a c has on true (OnClose x) (inl h) = inl (ap number_of h.0, has h.1)
  before_gate a c has on true (OnClose x) (inr h) = inr (on h)
  before_gate a c has on true e h = on h
  before_gate a c has on false e h = before_behind (number_of a) (number_of c) (closed_by (Noticed lane e)) later (on h)

has_one : (id : Id) (o : Option Path) (out : Outcome) (s t : Store) (rest : Heard) (later : List ℕ)
    → (HasClose id (map kept_notice rest) → Member (number_of id) later)
    → HasClose id (map kept_notice (passed o out s t ++ rest)) → Member (number_of id) (closed_by out ++ later)
has_one id (Some path) (Noticed lane e) s t rest later on h = has_gate (given_in e s t) lane.0 (mask_of path no_filter) lane rest later id on
    (passes_path path e s lane.0 no_filter) e h
has_one id None (Noticed lane e) s t rest later on h = member_behind (closed_by (Noticed lane e)) later (number_of id) (on h)
has_one id (Some path) other s t rest later on h = on h
has_one id None other s t rest later on h = on h

before_one : (a c : Id) (o : Option Path) (out : Outcome) (s t : Store) (rest : Heard) (later : List ℕ)
    → (HasClose c (map kept_notice rest) → Member (number_of c) later)
    → (ClosesBefore a c (map kept_notice rest) → StandsBefore (number_of a) (number_of c) later)
    → ClosesBefore a c (map kept_notice (passed o out s t ++ rest)) → StandsBefore (number_of a) (number_of c) (closed_by out ++ later)
before_one a c (Some path) (Noticed lane e) s t rest later has on h = before_gate (given_in e s t) lane.0 (mask_of path no_filter) lane rest later a c has
    on (passes_path path e s lane.0 no_filter) e h
before_one a c None (Noticed lane e) s t rest later has on h = before_behind (number_of a) (number_of c) (closed_by (Noticed lane e)) later (on h)
before_one a c (Some path) other s t rest later has on h = on h
before_one a c None other s t rest later has on h = on h

has_made : (id : Id) (position : Position) (made : List OutcomeAt) → HasClose id (map kept_notice (passed_at position made))
    → Member (number_of id) (closed_in made)
has_made id position [] h = absurd h
has_made id position (m ∷ ms) h = has_one id (path_at m.form position) m.outcome m.before m.after (passed_at position ms) (closed_in ms)
    (has_made id position ms) h

before_made : (a c : Id) (position : Position) (made : List OutcomeAt) → ClosesBefore a c (map kept_notice (passed_at position made))
    → StandsBefore (number_of a) (number_of c) (closed_in made)
before_made a c position [] h = absurd h
before_made a c position (m ∷ ms) h = before_one a c (path_at m.form position) m.outcome m.before m.after (passed_at position ms) (closed_in ms)
    (has_made c position ms) (before_made a c position ms) h

-- what a recorder keeps that was new, of what passed at a position
pub kept_before : (a c : Id) (position : Position) (made : List OutcomeAt) (r : RecorderState)
    → Records new_recorder r (map kept_notice (passed_at position made)) → ClosesBefore a c r.notices
    → StandsBefore (number_of a) (number_of c) (closed_in made)
kept_before a c position made r h b =
    before_made a c position made (subst (ClosesBefore a c) (sym h.split) (before_more a c h.more h.lost (subst (ClosesBefore a c) h.kept b)))
