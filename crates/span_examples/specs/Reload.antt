-- A recorder whose level is set between two lists of requests.
use Rattle.std.specs.Prelude.{◌≡◌, List}
use Rattle.span_core.specs.declared.level.TheConstants.LevelFilter.{DEBUG, WARN}
use Rattle.span_core.specs.declared.level.LevelFilter.{LevelFilter}
use Rattle.span_dispatch.specs.Contract.{SubscriberOf}
use Rattle.span_dispatch.specs.Serve.{Served, stack_of}
use Rattle.span_dispatch.specs.declared.dispatch.Dispatch.{Dispatch}
use Rattle.span_dispatch.specs.declared.request.Answer.{Answer}
use Rattle.span_dispatch.specs.declared.request.Request.{Request}
use Rattle.span_stacks.specs.Filtered.{filter_of}
use Rattle.span_stacks.specs.Layered.{inner_of, outer_of}
use Rattle.span_examples.specs.Dispatches.{Recorded, recorder_of}
use Rattle.span_examples.specs.Isolation.{IsNewUnder}

-- a dispatcher's recorder stands under this level now, with all that it kept; all spans are
-- unchanged
pub record IsSetTo (level : LevelFilter) (old new : Dispatch Recorded) : Type 0 where
  pub now : filter_of (outer_of (stack_of new)) ≡ level
  pub kept : recorder_of new ≡ recorder_of old
  pub spans : inner_of (stack_of new) ≡ inner_of (stack_of old)

module _ (s : SubscriberOf Recorded) where
  -- a list was served, with some answers
  abbrev pub ServesAll : List Request → Dispatch Recorded → Dispatch Recorded → Type 0
  ServesAll requests old new =
      (answers : List Answer)
      × Served s.registry s.with_registry s.has_form s.stepped s.reloaded s.hears s.acts_at requests
      answers old new

  -- the first list was served with a new recorder under WARN, then its level was set to DEBUG, and
  -- then the other list was served
  pub record Reloads (requests others : List Request) (new : Dispatch Recorded) : Type 0 where
    pub start : Dispatch Recorded
    pub before : Dispatch Recorded
    pub after : Dispatch Recorded
    pub recorder : IsNewUnder WARN (outer_of (stack_of start))
    pub first : ServesAll requests start before
    pub set : IsSetTo DEBUG before after
    pub rest : ServesAll others after new
