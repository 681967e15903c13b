use Rattle.std.proofs.Common.{sym, ◌∙◌, ◌≡◌, None}
use Rattle.span_sender.specs.Reply.{number_in}
use Rattle.span_sender.proofs.Numbers.{none_at, nonempty, whole}
use Rattle.span_sender.proofs.number.number_in.Goals as goal

pub returns-in_err-number : goal.returns-in_err-number
returns-in_err-number c =
    let none : number_in c.args.digits.now ≡ None =
    none_at c.loop-digit.number c.loop-digit.digit-index c.args.digits.now c.loop-digit-test.true
    (sym c.followed_by.ensures.value ∙ c.in_err-number.was) c.loop-digit.invariant.value c.loop-digit.invariant.digits in
    c.from_residual.ensures ∙ sym none

pub returns : goal.returns
returns c =
    whole c.loop-digit.number c.loop-digit.digit-index c.args.digits.now c.loop-digit-test.false
    (nonempty _ _ c.is_empty.ensures c.if-is_empty.false) c.loop-digit.invariant.fits c.loop-digit.invariant.value c.loop-digit.invariant.digits
