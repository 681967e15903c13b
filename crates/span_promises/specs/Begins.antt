-- A stack of two new recorders, as a dispatcher begins with it, and what it then serves.
use Rattle.std.specs.Prelude.{◌≡◌, ℕ, List, Some}
use Rattle.span_core.specs.declared.level.LevelFilter.{LevelFilter}
use Rattle.span_dispatch.specs.Cache.{no_callsite}
use Rattle.span_dispatch.specs.Recorder.{new_recorder}
use Rattle.span_dispatch.specs.Serve.{kept_by, stack_of}
use Rattle.span_dispatch.specs.declared.dispatch.Dispatch.{Dispatch}
use Rattle.span_dispatch.specs.declared.request.Answer.{Answer}
use Rattle.span_stacks.specs.Filtered.{IsNumber, filter_of, id_of, layer_of}
use Rattle.span_stacks.specs.Layered.{inner_of, outer_of}
use Rattle.span_store.specs.Store.{empty_store}
use Rattle.span_promises.specs.Two.{Answered, One, Two}

-- a recorder that was notified of nothing yet, under this level, which is a filter with this number
pub record IsNewUnder (number : ℕ) (level : LevelFilter) (x : One) : Type 0 where
  pub id : IsNumber (id_of x) (Some number)
  pub own : filter_of x ≡ level
  pub inner : layer_of x ≡ new_recorder

-- two new recorders under these levels, on a registry without spans
pub record BeginsWith (outer inner : LevelFilter) (x : Two) : Type 0 where
  pub over : IsNewUnder 0 outer (outer_of (outer_of x))
  pub below : IsNewUnder 1 inner (inner_of (outer_of x))
  pub empty : (inner_of x).store ≡ empty_store

-- a dispatcher began with two new recorders under these levels, and with nothing kept, and then
-- served so
pub record ServesAtFirst (outer inner : LevelFilter)
    (Serves : List Answer → Dispatch Two → Dispatch Two → Type 0) (done : Answered) : Type 0 where
  pub first : Dispatch Two
  pub begins : BeginsWith outer inner (stack_of first)
  pub kept : kept_by first ≡ Some no_callsite
  pub served : Serves done.1.items first done.0
