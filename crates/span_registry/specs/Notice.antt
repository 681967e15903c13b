-- A notice as code has it.
use Rattle.std.specs.Prelude.{Bool, ◌&&◌, true, false}
use Rattle.span_core.specs.Filters.{is_enabled}
use Rattle.span_core.specs.declared.filter.FilterId.{FilterId}
use Rattle.span_store.specs.Store.{RegistryState}
use Rattle.span_registry.specs.Behaviour.{Notice, OnClose, OnEnter, OnEvent, OnExit, OnFollows, OnIdChange, OnNewSpan, OnRecord}
use Rattle.span_registry.specs.Context.{enabled_lent, refused_lent}
use Rattle.span_registry.specs.declared.context.ContextMut.{ContextMut}
use Rattle.span_registry.specs.declared.notice.Notice.TheVariants.{Close, Enter, Event, Exit, FollowsFrom, IdChange, NewSpan, Record}
use Rattle.span_registry.specs.declared.notice.Notice.{Notice as NoticeInCode}

-- the notice that a value of code is
abbrev pub notice_of : NoticeInCode → Notice
notice_of (NewSpan attrs id) = OnNewSpan attrs.now id
notice_of (Record id values) = OnRecord id values.now
notice_of (FollowsFrom id other) = OnFollows id other
notice_of (Event event) = OnEvent event.now
notice_of (Enter id) = OnEnter id
notice_of (Exit id) = OnExit id
notice_of (IdChange id other) = OnIdChange id other
notice_of (Close id) = OnClose id

-- whether filters are notified of a notice, not layers alone
abbrev pub is_for_filters : Notice → Bool
is_for_filters (OnFollows id other) = false
is_for_filters (OnEvent event) = false
is_for_filters (OnIdChange id other) = false
is_for_filters (OnNewSpan attrs id) = true
is_for_filters (OnRecord id values) = true
is_for_filters (OnEnter id) = true
is_for_filters (OnExit id) = true
is_for_filters (OnClose id) = true

-- whether a hook lets a notice by that is for what stands under the filter of this id: a new span
-- and an event where the filter refused neither, all else where the spans' verdicts say so
abbrev pub is_admitted : {S : Type 0} → (S → RegistryState) → FilterId → Notice → ContextMut S
    → Bool
is_admitted registry id (OnNewSpan attrs x) c = is_enabled (refused_lent c) id
is_admitted registry id (OnEvent e) c = is_enabled (refused_lent c) id
is_admitted registry id (OnFollows x y) c =
    enabled_lent registry c id x && enabled_lent registry c id y
is_admitted registry id (OnRecord x values) c = enabled_lent registry c id x
is_admitted registry id (OnEnter x) c = enabled_lent registry c id x
is_admitted registry id (OnExit x) c = enabled_lent registry c id x
is_admitted registry id (OnIdChange x y) c = enabled_lent registry c id x
is_admitted registry id (OnClose x) c = enabled_lent registry c id x
