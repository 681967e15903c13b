use Rattle.std.proofs.Common.{ap, subst, sym}
use Rattle.span_stacks.specs.Filtered.{IsNumber}
use Rattle.std.specs.Prelude.{Some}
use Rattle.span_examples.specs.Stacks.{IsNumbered, level_in}
use Rattle.span_examples.proofs.Counter.{either_way, goes, on_ok}
use Rattle.span_examples.proofs.stack.open_counted.Goals as goal

pub returns-clause-counted : goal.returns-clause-counted
returns-clause-counted c =
    let opened = goes _ _ c.args.lane _ _ _ _ _ c.the_pass_is_fresh.ensures.new_span
    c.vetoes_alone_refuse.ensures.metadata c.requires.numbered c.metadata.ensures c.new-pass.ensures.refused c.enabled.ensures in
    on_ok c.new_span.result (λ id h. (opened id h).counts) c.new_span.ensures.opened

pub returns-clause-level : goal.returns-clause-level
returns-clause-level c =
    let opened = goes _ _ c.args.lane _ _ _ _ _ c.the_pass_is_fresh.ensures.new_span
    c.vetoes_alone_refuse.ensures.metadata c.requires.numbered c.metadata.ensures c.new-pass.ensures.refused c.enabled.ensures in
    either_way c.new_span.result c.new_span.ensures.opened c.new_span.ensures.unchanged (λ id h. (opened id h).level) (λ e. ap level_in e)

pub returns-clause-numbered : goal.returns-clause-numbered
returns-clause-numbered c =
    let opened = goes _ _ c.args.lane _ _ _ _ _ c.the_pass_is_fresh.ensures.new_span
    c.vetoes_alone_refuse.ensures.metadata c.requires.numbered c.metadata.ensures c.new-pass.ensures.refused c.enabled.ensures in
    either_way c.new_span.result c.new_span.ensures.opened c.new_span.ensures.unchanged
    (λ id h. (c.requires.numbered.0, subst (λ i. IsNumber i (Some c.requires.numbered.0)) (sym (opened id h).number) c.requires.numbered.1))
    (λ e. subst IsNumbered (sym e) c.requires.numbered)
