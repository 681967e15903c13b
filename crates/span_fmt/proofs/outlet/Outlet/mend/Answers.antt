use Rattle.std.proofs.Common.{◌≡◌, ◌==◌, true, false, length, rules, refl}
use Rattle.span_fmt.specs.Outlet.{is_torn}
use Rattle.span_fmt.proofs.Put.{empty_line, mends_not, mends_nothing, mends_now, some_left}
use Rattle.span_fmt.proofs.outlet.Outlet.mend.Goals as goal

pub returns-then-not-self : goal.returns-then-not-self
returns-then-not-self g c =
    let sound : is_torn c.args.self.now ≡ false = search rules in
    mends_nothing g.W.Write.contents c.args.self.now c.args.self.now sound

pub returns-then-not-is_empty : goal.returns-then-not-is_empty
returns-then-not-is_empty g c =
    let torn : is_torn c.args.self.now ≡ true = search rules in
    let some : (length c.hand.result.now == 0) ≡ false = search rules in
    mends_not g.W.Write.contents c.args.self.now _ c.hand.result.now torn c.hand.ensures refl (some_left c.hand.result.now some) refl

pub returns : goal.returns
returns g c =
    let torn : is_torn c.args.self.now ≡ true = search rules in
    let all : (length c.hand.result.now == 0) ≡ true = search rules in
    mends_now g.W.Write.contents c.args.self.now _ c.hand.result.now torn c.hand.ensures refl (empty_line c.hand.result.now all) refl
