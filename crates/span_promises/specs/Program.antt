-- What the two recorders keep of one span, entered and left, with an event in it.
use Rattle.std.specs.Prelude.{◌≡◌, ◌⊎◌, ⊤, false, true, List, [], ◌∷◌}
use Rattle.span_core.specs.declared.span.Id.{Id}
use Rattle.span_core.specs.declared.span.Lane.{Lane}
use Rattle.span_dispatch.specs.Recorder.{RecorderState}
use Rattle.span_dispatch.specs.declared.recorded.Recorded.TheVariants.{Close, Enter, Event, Exit, New}
use Rattle.span_dispatch.specs.declared.recorded.Recorded.{Recorded}
use Rattle.span_dispatch.specs.declared.request.Answer.TheVariants.{Done, Made, Refused, Yes}
use Rattle.span_dispatch.specs.declared.request.Answer.{Answer}
use Rattle.span_promises.specs.Two.{Answered, inner_recorder, outer_recorder}

-- one of these answers is a refusal
abbrev pub HasRefusal : List Answer → Type 0
HasRefusal [] = ⊥
HasRefusal (Refused e ∷ answers) = ⊤
HasRefusal (a ∷ answers) = HasRefusal answers

-- unless it failed for want of memory, a recorder keeps just these notices
abbrev pub KeepsJust : RecorderState → List Recorded → Type 0
KeepsJust r notices = r.failed ≡ false → r.notices ≡ notices

-- the lane with the number 0
abbrev pub first_lane : Lane
first_lane = record { 0 = 0 }

-- a span was made under this id, entered, left, and closed by the drop of its handle, with an event
-- in it. The outer recorder keeps all of that; the inner one, whose level the span doesn't pass,
-- the event alone
pub record WasMade (id : Id) (done : Answered) : Type 0 where
  pub answers : done.1.items ≡ Made id ∷ Done ∷ Done ∷ Done ∷ Yes true ∷ []
  pub outer : KeepsJust (outer_recorder done.0) (New first_lane id ∷ Enter first_lane id
      ∷ Event first_lane 1 ∷ Exit first_lane id ∷ Close first_lane id ∷ [])
  pub inner : KeepsJust (inner_recorder done.0) (Event first_lane 1 ∷ [])

-- a request was refused; or all was done, and of two recorders each keeps what its level passes of
-- a span and of an event in it
abbrev pub KeepsEach : Answered → Type 0
KeepsEach done = HasRefusal done.1.items ⊎ ((id : Id) × WasMade id done)
