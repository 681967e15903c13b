use Rattle.std.proofs.Common.{◌≡◌, ◌==◌, ℕ, List, true, false, not, length, rules, refl, subst}
use Rattle.span_fmt.specs.Outlet.{Mends, Takes, writer_of}
use Rattle.span_fmt.proofs.Put.{empty_line, filled_line, put_cut, put_empty, put_none, put_whole, some_left}
use Rattle.span_fmt.proofs.outlet.Outlet.put.Goals as goal

pub returns-then-is_empty : goal.returns-then-is_empty
returns-then-is_empty g c =
    let none : (length c.args.line.now == 0) ≡ true = search rules in
    put_empty g.W.Write.contents c.args.line.now c.args.self.now c.args.self.now c.args.self.now (empty_line c.args.line.now none)

pub returns-then-not-mend : goal.returns-then-not-mend
returns-then-not-mend g c =
    let some : (length c.args.line.now == 0) ≡ false = search rules in
    let failed : c.mend.result ≡ false = search rules in
    put_none g.W.Write.contents c.args.line.now c.args.self.now c.mend.new.self
    c.lose.new.self (filled_line c.args.line.now some) (subst (Mends g.W.Write.contents c.args.self.now c.mend.new.self) failed c.mend.ensures) c.lose.ensures

pub returns-then-is_empty-2 : goal.returns-then-is_empty-2
returns-then-is_empty-2 g c =
    let some : (length c.args.line.now == 0) ≡ false = search rules in
    let mended : c.mend.result ≡ true = search rules in
    let all : (length c.hand-left.result.now == 0) ≡ true = search rules in
    let contents = g.W.Write.contents in
    let mends = subst (Mends contents c.args.self.now c.mend.new.self) mended c.mend.ensures in
    let taken = subst (λ (l : List ℕ). Takes (contents (writer_of c.mend.new.self)) (contents c.hand-left.new.writer) l c.hand-left.result.now)
    c.as_bytes.ensures.value c.hand-left.ensures in
    put_whole contents c.args.line.now
    c.args.self.now c.mend.new.self _ c.hand-left.result.now (filled_line c.args.line.now some) mends taken (empty_line c.hand-left.result.now all) refl refl

pub returns : goal.returns
returns g c =
    let some : (length c.args.line.now == 0) ≡ false = search rules in
    let mended : c.mend.result ≡ true = search rules in
    let part : (length c.hand-left.result.now == 0) ≡ false = search rules in
    let contents = g.W.Write.contents in
    let mends = subst (Mends contents c.args.self.now c.mend.new.self) mended c.mend.ensures in
    let taken = subst (λ (l : List ℕ). Takes (contents (writer_of c.mend.new.self)) (contents c.hand-left.new.writer) l c.hand-left.result.now)
    c.as_bytes.ensures.value c.hand-left.ensures in
    let torn : not (length c.hand-left.result.now == length c.args.line.now) ≡ not (length c.hand-left.result.now == length c.args.line.now) = refl in
    put_cut contents c.args.line.now c.args.self.now c.mend.new.self
    _ c.lose-2.new.self c.hand-left.result.now (filled_line c.args.line.now some) mends taken (some_left c.hand-left.result.now part) torn refl c.lose-2.ensures
