use Rattle.std.proofs.Common.{◌∙◌, ap, ◌∷◌}
use Rattle.span_core.specs.Span.{number_of}
use Rattle.span_store.specs.LaneStack.{HeldStack, with_entry}
use Rattle.span_store.specs.private.Marks.{WantsEntry}
use Rattle.span_store.specs.Store.{stack_on}
use Rattle.span_store.specs.private.StoreRepr.{KeptStacks, stacks_with}
use Rattle.span_store.proofs.LaneStacks.{first_by, first_holds, other_by, other_holds, spans_alone}
use Rattle.span_store.proofs.States.{if_err_map, on_ok_map}
use Rattle.span_store.proofs.lane.LaneStacks.push.Goals as goal

pub returns-then-lane-eq0-clause-entered : goal.returns-then-lane-eq0-clause-entered
returns-then-lane-eq0-clause-entered c =
    let first = c.self.inside.first in
    let es = c.self.inside.others.entries in
    let t : KeptStacks = c.args.self.now in
    let k = c.args.lane.0 in
    let x = number_of c.args.id in
    on_ok_map c.push.result c.push.ensures.entered (λ put. ap (λ (s : HeldStack). stacks_with s es) put
    ∙ first_by (with_entry x) first es t k c.self.view_is c.if-lane-eq0.true
    ∙ spans_alone first es t k (x ∷ stack_on t.stacks k) c.self.view_is)

pub returns-then-lane-eq0-clause-memory : goal.returns-then-lane-eq0-clause-memory
returns-then-lane-eq0-clause-memory c =
    if_err_map c.push.result c.push.ensures.memory
    (λ e. first_holds (λ s. WantsEntry s e) c.self.inside.first c.self.inside.others.entries c.args.self.now c.args.lane.0 c.self.view_is c.if-lane-eq0.true)

pub returns-clause-entered : goal.returns-clause-entered
returns-clause-entered c =
    let first = c.self.inside.first in
    let es = c.self.inside.others.entries in
    let t : KeptStacks = c.args.self.now in
    let k = c.args.lane.0 in
    let x = number_of c.args.id in
    on_ok_map c.push_on.result c.push_on.ensures.entered
    (λ put. other_by (with_entry x) first c.self.inside.others c.push_on.new.stacks t c.args.lane c.self.view_is c.if-lane-eq0.false put
    ∙ spans_alone first es t k (x ∷ stack_on t.stacks k) c.self.view_is)

pub returns-clause-memory : goal.returns-clause-memory
returns-clause-memory c =
    if_err_map c.push_on.result c.push_on.ensures.memory
    (λ e. other_holds (λ s. WantsEntry s e) c.self.inside.first c.self.inside.others c.args.self.now c.args.lane c.self.view_is c.if-lane-eq0.false)
