use Rattle.std.proofs.Common.{◌∙◌, ap, max}
use Rattle.span_store.specs.LaneStack.{HeldStack, with_room}
use Rattle.span_store.specs.private.Marks.{WantsRoom}
use Rattle.span_store.specs.Store.{room_on}
use Rattle.span_store.specs.private.StoreRepr.{KeptStacks, stacks_with}
use Rattle.span_store.proofs.LaneStacks.{first_by, first_holds, other_by, other_holds, room_alone, room_same}
use Rattle.span_store.proofs.States.{if_err_map, on_ok_map}
use Rattle.span_store.proofs.lane.LaneStacks.reserve.Goals as goal

pub returns-then-depth-eq0-clause-reserved : goal.returns-then-depth-eq0-clause-reserved
returns-then-depth-eq0-clause-reserved c =
    c.self.view_is ∙ room_same c.self.inside.first c.self.inside.others.entries c.args.self.now c.args.lane.0 c.args.depth c.self.view_is c.if-depth-eq0.true

pub returns-then-lane-eq0-clause-memory : goal.returns-then-lane-eq0-clause-memory
returns-then-lane-eq0-clause-memory c =
    if_err_map c.reserve.result c.reserve.ensures.memory
    (λ e. first_holds (λ s. WantsRoom c.args.depth s e)
    c.self.inside.first c.self.inside.others.entries c.args.self.now c.args.lane.0 c.self.view_is c.if-lane-eq0.true)

pub returns-then-lane-eq0-clause-reserved : goal.returns-then-lane-eq0-clause-reserved
returns-then-lane-eq0-clause-reserved c =
    let first = c.self.inside.first in
    let es = c.self.inside.others.entries in
    let t : KeptStacks = c.args.self.now in
    let k = c.args.lane.0 in
    on_ok_map c.reserve.result c.reserve.ensures.reserved (λ held. ap (λ (s : HeldStack). stacks_with s es) held
    ∙ first_by (with_room c.args.depth) first es t k c.self.view_is c.if-lane-eq0.true
    ∙ room_alone first es t k (max (room_on t.rooms k) c.args.depth) c.self.view_is)

pub returns-clause-reserved : goal.returns-clause-reserved
returns-clause-reserved c =
    let first = c.self.inside.first in
    let es = c.self.inside.others.entries in
    let t : KeptStacks = c.args.self.now in
    let k = c.args.lane.0 in
    on_ok_map c.reserve_on.result c.reserve_on.ensures.reserved
    (λ held. other_by (with_room c.args.depth) first c.self.inside.others c.reserve_on.new.stacks t c.args.lane c.self.view_is c.if-lane-eq0.false held
    ∙ room_alone first es t k (max (room_on t.rooms k) c.args.depth) c.self.view_is)

pub returns-clause-memory : goal.returns-clause-memory
returns-clause-memory c =
    if_err_map c.reserve_on.result c.reserve_on.ensures.memory
    (λ e. other_holds (λ s. WantsRoom c.args.depth s e) c.self.inside.first c.self.inside.others c.args.self.now c.args.lane c.self.view_is c.if-lane-eq0.false)
