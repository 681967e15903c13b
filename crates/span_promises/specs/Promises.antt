-- What is promised of two recorders under levels, whatever is asked.
use Rattle.std.specs.Prelude.{◌≡◌, ◌⊎◌, ◌==◌, ◌||◌, ⊤, Bool, IsTrue, List, [], ◌∷◌, ◌++◌, Some, if◌then◌else◌}
use Rattle.span_core.specs.Level.{passes_level}
use Rattle.span_core.specs.Metadata.{level_of}
use Rattle.span_core.specs.declared.level.LevelFilter.{LevelFilter}
use Rattle.span_core.specs.declared.metadata.Metadata.{Metadata}
use Rattle.span_core.specs.declared.span.Id.{Id}
use Rattle.span_dispatch.specs.Serve.{resolved}
use Rattle.span_dispatch.specs.declared.recorded.Recorded.TheVariants.{Close}
use Rattle.span_dispatch.specs.declared.recorded.Recorded.{Recorded}
use Rattle.span_dispatch.specs.declared.request.Answer.TheVariants.{Done, Dropped, Made}
use Rattle.span_dispatch.specs.declared.request.Answer.{Answer}
use Rattle.span_dispatch.specs.declared.request.Request.TheVariants.{Event, NewSpan, Reload}
use Rattle.span_dispatch.specs.declared.request.Request.{Request}
use Rattle.span_dispatch.specs.declared.request.WhichParent.TheVariants.{Explicit}
use Rattle.span_promises.specs.Two.{Answered, inner_recorder, outer_recorder}
use Rattle.span_targets.specs.Setting.{level_in}
use Rattle.std.specs.Option.{unwrap_or}

-- ---- what is wanted is not dropped

-- the levels that two filters go by: the outer one, whose number is 0, and the inner one, whose
-- number is 1
abbrev pub Levels : Type 0
Levels = LevelFilter × LevelFilter

-- the levels after a request was answered so: where one was set, the filter with that number goes
-- by it
abbrev pub levels_after : Levels → Request → Answer → Levels
levels_after now (Reload n s) Done = (
  if n == 0 then unwrap_or (level_in s) now.0 else now.0,
  if n == 1 then unwrap_or (level_in s) now.1 else now.1,
)
levels_after now r a = now

-- whether one of two levels passes these metadata
abbrev pub one_passes : Levels → Metadata → Bool
one_passes now m = passes_level now.0 (level_of m) || passes_level now.1 (level_of m)

-- the request is for a new span or an event that one of these levels passes
abbrev pub IsWanted : Levels → Request → Type 0
IsWanted now (NewSpan lane m parent values) = IsTrue (one_passes now m)
IsWanted now (Event lane m parent values) = IsTrue (one_passes now m)
IsWanted now other = ⊥

-- from these levels on each request was answered, and no new span and no event was dropped that a
-- level passed then
abbrev pub NoneWantedIsDropped : Levels → List Request → List Answer → Type 0
NoneWantedIsDropped now [] [] = ⊤
NoneWantedIsDropped now (r ∷ rs) (a ∷ answers) =
    (IsWanted now r → ¬ (a ≡ Dropped)) × NoneWantedIsDropped (levels_after now r a) rs answers
NoneWantedIsDropped now rs answers = ⊥

-- of these requests, served on recorders under these levels, no new span and no event was dropped
-- that a level passed at its turn
abbrev pub DropsNothingWanted : LevelFilter → LevelFilter → List Request → Answered → Type 0
DropsNothingWanted outer inner requests done =
    NoneWantedIsDropped (outer, inner) requests done.1.items

-- ---- closes

-- a close of this span is among these notices, from whichever lane
abbrev pub HasClose : Id → List Recorded → Type 0
HasClose id [] = ⊥
HasClose id (Close lane x ∷ notices) = (x ≡ id) ⊎ HasClose id notices
HasClose id (n ∷ notices) = HasClose id notices

-- among these notices a close of the first span stands before one of the second
abbrev pub ClosesBefore : Id → Id → List Recorded → Type 0
ClosesBefore first second [] = ⊥
ClosesBefore first second (Close lane x ∷ notices) =
    ((x ≡ first) × HasClose second notices) ⊎ ClosesBefore first second notices
ClosesBefore first second (n ∷ notices) = ClosesBefore first second notices

-- neither of two recorders keeps a close of the first span before one of the second
abbrev pub NeverBefore : Id → Id → Answered → Type 0
NeverBefore first second done =
    ¬ (ClosesBefore first second (outer_recorder done.0).notices)
    × ¬ (ClosesBefore first second (inner_recorder done.0).notices)

-- neither of two recorders keeps two closes of one span
abbrev pub ClosesOnce : Answered → Type 0
ClosesOnce done = (id : Id) → NeverBefore id id done

-- behind these answers a request for a new span made the child, and had named this parent
abbrev pub OpensNow : List Answer → Request → Answer → Id → Id → Type 0
OpensNow past (NewSpan lane m (Explicit which) values) (Made id) child parent =
    (id ≡ child) × (resolved past which ≡ Some parent)
OpensNow past r a child parent = ⊥

-- behind these answers one of these requests made the child, and had named this parent
abbrev pub OpensUnder : List Answer → List Request → List Answer → Id → Id → Type 0
OpensUnder past (r ∷ rs) (a ∷ answers) child parent =
    OpensNow past r a child parent ⊎ OpensUnder (past ++ (a ∷ [])) rs answers child parent
OpensUnder past rs answers child parent = ⊥

-- neither of two recorders keeps a child's close behind its parent's, where the child was made by a
-- request that named that parent
abbrev pub ClosesChildrenFirst : List Request → Answered → Type 0
ClosesChildrenFirst requests done =
    (child parent : Id) → OpensUnder [] requests done.1.items child parent
    → NeverBefore parent child done
