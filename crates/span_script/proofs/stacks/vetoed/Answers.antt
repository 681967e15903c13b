use Rattle.std.proofs.Common.{ap, refl, true, ◌∙◌}
use Rattle.span_core.specs.declared.level.TheConstants.LevelFilter.{INFO}
use Rattle.span_filters.specs.Level.{level_answers}
use Rattle.span_stacks.specs.Layered.{inner_of, with_inner}
use Rattle.span_registry.specs.Form.{Leaf}
use Rattle.span_script.specs.Mute.{mute_answers}
use Rattle.span_script.proofs.Begins.{as_before, no_more}
use Rattle.span_script.proofs.stacks.vetoed.Goals as goal

pub put-muted-requires-clause-room : goal.put-muted-requires-clause-room
put-muted-requires-clause-room g c = record { form = Leaf true mute_answers; has = (mute_answers, refl, refl); room = no_more refl c.requires.filters }

pub put-requires-clause-room : goal.put-requires-clause-room
put-requires-clause-room g c =
    let none = c.put-muted.ensures.numbers.next (Leaf true mute_answers) (mute_answers, refl, refl) in
    record { form = Leaf true (level_answers INFO); has = (level_answers INFO, refl, refl); room = no_more none c.requires.filters }

pub returns-clause-below : goal.returns-clause-below
returns-clause-below g c =
    let own = g.met.S.LookupSpan.with_own in
    let m = c.put-muted.ensures.numbers in
    let h = c.put.ensures.numbers in
    let muted = c.put-muted.result in
    let inner = as_before g.S.LookupSpan.registry
    g.S.LookupSpan.with_registry own c.args.stack (inner_of muted) m.alone (m.next (Leaf true mute_answers) (mute_answers, refl, refl)) in
    let outer = as_before (λ z. g.S.LookupSpan.registry (inner_of z))
    (λ z r. with_inner z (g.S.LookupSpan.with_registry (inner_of z) r)) (λ z. ap (λ k. with_inner z k) (own (inner_of z)))
    muted (inner_of c.put.result) h.alone (h.next (Leaf true (level_answers INFO)) (level_answers INFO, refl, refl)) in
    ap inner_of outer ∙ inner
