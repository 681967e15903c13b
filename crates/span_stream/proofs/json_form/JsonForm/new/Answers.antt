use Rattle.std.proofs.Common.{arith, subst, sym}
use Rattle.span_stream.specs.Members.{AreFlat}
use Rattle.span_stream.proofs.json_form.JsonForm.new.Goals as goal

pub invariant_of-result : goal.invariant_of-result
invariant_of-result g c = record { flat = subst AreFlat (sym c.new.ensures) (λ n. omega arith) }
