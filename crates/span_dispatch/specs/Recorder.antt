-- What a recorder keeps of what it is notified of.
use Rattle.std.specs.Prelude.{◌≡◌, ℕ, ◌+◌, ◌≤◌, Bool, true, false, List, [], ◌∷◌, ◌++◌, length}
use Rattle.span_core.specs.{Event.event_metadata, Metadata.callsite_of}
use Rattle.span_core.specs.declared.span.Lane.{Lane}
use Rattle.span_dispatch.specs.declared.recorded.Recorded.TheVariants as kept
use Rattle.span_dispatch.specs.declared.recorded.Recorded.{Recorded}
use Rattle.span_layers.specs.Layer.{LayerSteps}
use Rattle.span_registry.specs.Behaviour.{Notice, OnClose, OnEnter, OnEvent, OnExit, OnFollows, OnIdChange, OnNewSpan, OnRecord}
use Rattle.span_registry.specs.{Position.Told, Plan.Itself}

-- a recorder: its notices, the memory that it holds for more, and whether it has failed for want of
-- memory
pub record RecorderState : Type 0 where
  pub notices : List Recorded
  pub room : ℕ
  pub failed : Bool

-- a recorder as it begins
abbrev pub new_recorder : RecorderState
new_recorder = record { notices = []; room = 0; failed = false }

-- a recorder is notified of these: it appends a beginning of them, which is all of them unless it
-- fails, and nothing once it has failed. It fails only by losing a notice that it had no room for,
-- and a recorder that is notified of nothing is unchanged
pub record Records (old new : RecorderState) (due : List Recorded) : Type 0 where
  pub more : List Recorded
  pub lost : List Recorded
  pub split : due ≡ more ++ lost
  pub kept : new.notices ≡ old.notices ++ more
  pub all : new.failed ≡ false → lost ≡ []
  pub failed : old.failed ≡ true → (new.failed ≡ true) × (more ≡ [])
  pub fails : old.failed ≡ false → new.failed ≡ true → ¬ (lost ≡ []) × (old.room ≤ length more)
  pub room : old.room ≤ length more + new.room
  pub silent : due ≡ [] → new ≡ old

-- the lane with this number
abbrev pub lane_of : ℕ → Lane
lane_of n = record { 0 = n }

-- a recorder's note of a notice on a lane
abbrev pub kept_on : ℕ → Notice → Recorded
kept_on lane (OnNewSpan attrs id) = kept.New (lane_of lane) id
kept_on lane (OnRecord id values) = kept.Record (lane_of lane) id
kept_on lane (OnFollows id other) = kept.Follows (lane_of lane) id other
kept_on lane (OnEvent e) = kept.Event (lane_of lane) (callsite_of (event_metadata e))
kept_on lane (OnEnter id) = kept.Enter (lane_of lane) id
kept_on lane (OnExit id) = kept.Exit (lane_of lane) id
kept_on lane (OnIdChange id other) = kept.IdChange (lane_of lane) id other
kept_on lane (OnClose id) = kept.Close (lane_of lane) id

-- a recorder's note of what it is notified of, with nothing of what its context shows
abbrev pub kept_notice : Told → Recorded
kept_notice told = kept_on told.lane told.notice

-- a recorder that is notified of one notice records that, and leaves the registry unchanged
abbrev pub recorder_steps : LayerSteps RecorderState
recorder_steps x p e lane under v y w = (p ≡ Itself) × Records x y (kept_on lane e ∷ []) × (w ≡ v)
