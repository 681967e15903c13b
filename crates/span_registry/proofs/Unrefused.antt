-- A part that is notified is lent no refusals but with a new span and an event, and lends none on.
use Rattle.std.proofs.Common.{◌≡◌, sym, subst}
use Rattle.span_core.specs.Filters.{IsEmpty, refuses}
use Rattle.span_core.specs.declared.filter.FilterMap.{FilterMap}
use Rattle.span_registry.specs.Behaviour.{Notice, OnClose, OnEnter, OnEvent, OnExit, OnFollows, OnIdChange, OnNewSpan, OnRecord}
use Rattle.span_registry.specs.Context.{HasNoRefusalsUnlessAsked, refused_lent}
use Rattle.span_registry.specs.declared.context.ContextMut.{ContextMut}

module _ {S T : Type 0} where
  -- the same refusals are lent on
  pub unrefused_unless : (e : Notice) (c : ContextMut S) (d : ContextMut T)
      → refused_lent d ≡ refused_lent c → HasNoRefusalsUnlessAsked e c → HasNoRefusalsUnlessAsked e d
  unrefused_unless (OnNewSpan attrs id) c d h k = tt
  unrefused_unless (OnEvent event) c d h k = tt
  unrefused_unless (OnRecord id values) c d h k = subst (λ (v : FilterMap). IsEmpty (refuses v)) (sym h) k
  unrefused_unless (OnFollows id other) c d h k = subst (λ (v : FilterMap). IsEmpty (refuses v)) (sym h) k
  unrefused_unless (OnEnter id) c d h k = subst (λ (v : FilterMap). IsEmpty (refuses v)) (sym h) k
  unrefused_unless (OnExit id) c d h k = subst (λ (v : FilterMap). IsEmpty (refuses v)) (sym h) k
  unrefused_unless (OnIdChange id other) c d h k = subst (λ (v : FilterMap). IsEmpty (refuses v)) (sym h) k
  unrefused_unless (OnClose id) c d h k = subst (λ (v : FilterMap). IsEmpty (refuses v)) (sym h) k
