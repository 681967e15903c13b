use Rattle.std.proofs.Common.{◌≡◌, ◌<◌, ◌≤◌, ℕ, Some, cond, nat_eq, refl, ap, arith, subst}
use Rattle.std.proofs.lemmas.Bool.{false≢true}
use Rattle.std.specs.HashMap.{get, spare}
use Rattle.std.specs.Map.{lookup}
use Rattle.std.specs.Prelude.{IsOk}
use Rattle.span_dispatch.specs.Cache.{known_of}
use Rattle.span_dispatch.specs.declared.cache.Callsite.{Callsite}
use Rattle.span_dispatch.proofs.Admits.{gives_asked, gives_no_memory}
use Rattle.span_dispatch.proofs.cache.Known.learn.Goals as goal

-- where even one place to spare would do, none is held
no_room : (room free : ℕ) → room ≤ free → (0 < free → ⊥) → room ≡ 0
no_room room free held none = grind (arith)

pub returns-in-Ok : goal.returns-in-Ok
returns-in-Ok g c =
    let k = c.args.self.now in
    let m = c.args.meta.now in
    let one : Callsite = record { metadata = m; interest = c.register_callsite-interest.result } in
    gives_asked g.S.LookupSpan.registry
    g.S.Subscriber.has_form c.args.stack.now m k _ c.register_callsite-interest.result c.new.result c.register_callsite-interest.new.pass
    c.requires.below c.requires.unknown refl c.saturating_sub-self.ensures c.new.ensures.interest c.register_callsite-interest.ensures
    (subst (λ key. (n : ℕ) → get nat_eq c.insert.new.self n ≡ cond (nat_eq key n) (Some one) (known_of k n)) c.callsite.ensures c.in-Ok.ensures.updates.0)

pub returns-in-Err : goal.returns-in-Err
returns-in-Err g c =
    let k = c.args.self.now in
    let m = c.args.meta.now in
    let none : k.room ≡ 0 = no_room k.room (spare k.callsites) k.held (λ some. false≢true (subst (λ r. IsOk r) c.in-Err.is (c.insert.ensures.succeeds some))) in
    gives_no_memory g.S.LookupSpan.registry g.S.Subscriber.has_form c.args.stack.now m k _
    c.requires.below c.requires.unknown none refl refl
    (λ n. ap (λ es. lookup (nat_eq n) es) c.in-Err.ensures.err)
