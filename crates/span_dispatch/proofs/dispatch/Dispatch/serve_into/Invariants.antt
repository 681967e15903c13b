use Rattle.std.proofs.Common.{◌≡◌, ◌≤◌, [], length, take, vec_len, vec_capacity}
use Rattle.span_dispatch.specs.Registration.{KeepsRegistered}
use Rattle.span_dispatch.specs.Serve.{stack_of}
use Rattle.span_dispatch.proofs.Served.{SoFar}
use Rattle.span_dispatch.proofs.dispatch.Dispatch.serve_into.Given as goal
use Rattle.span_dispatch.specs.Contract.{AsksEach}

abbrev pub invariant-loop-request : goal.invariant-loop-request
invariant-loop-request g l = record {
  usable : g.S.Subscriber.usable (stack_of l.self);
  served : SoFar (record {
    registry = g.S.LookupSpan.registry;
    with_registry = g.S.LookupSpan.with_registry;
    usable = g.S.Subscriber.usable;
    has_form = g.S.Subscriber.has_form;
    stepped = g.S.Subscriber.stepped;
    hears = g.S.Subscriber.hears;
    acts_at = g.S.Subscriber.acts_at;
    reloaded = g.S.Subscriber.reloaded;
    registered = g.S.Subscriber.registered;
  }) l.fn.self l.self (take l.request-index l.requests) l.answers.items;
  asks : AsksEach (record {
    registry = g.S.LookupSpan.registry;
    with_registry = g.S.LookupSpan.with_registry;
    usable = g.S.Subscriber.usable;
    has_form = g.S.Subscriber.has_form;
    stepped = g.S.Subscriber.stepped;
    hears = g.S.Subscriber.hears;
    acts_at = g.S.Subscriber.acts_at;
    reloaded = g.S.Subscriber.reloaded;
    registered = g.S.Subscriber.registered;
  }) [] (take l.request-index l.requests) l.answers.items l.fn.self l.self;
  registered : KeepsRegistered l.fn.self l.self;
  len : vec_len l.answers ≡ l.request-index;
  room : length l.requests ≤ vec_capacity l.answers;
  capacity : vec_capacity l.fn.answers ≤ vec_capacity l.answers;
}
