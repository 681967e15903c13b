use Rattle.std.proofs.Common.{◌≡◌, ◌∙◌, ◌<◌, ◌*◌, ◌++◌, ◌∷◌, ℕ, None, Some, ap, arith, length, map, min, refl, rules, subst, sym, true}
use Rattle.std.proofs.lemmas.Bool.{le-leb, lt-leb}
use Rattle.std.specs.List.{find}
use Rattle.std.specs.Map.{keys_of}
use Rattle.std.specs.Option.{option_map_or}
use Rattle.std.proofs.Math.Nat.{mul-pos, zero-mul}
use Rattle.std.proofs.lemmas.Map.Iter.{iter_end, rest_so_far}
use Rattle.std.specs.Map.Iter.{deref_pair}
use Rattle.span_timing.proofs.First.{found_here, held_here, none_here}
use Rattle.span_timing.proofs.Quantile.{all_counted, none_left, ranked}
use Rattle.span_timing.proofs.Ranks.{count_more, total}
use Rattle.span_timing.proofs.histogram.Histogram.quantile.Goals as goal
use Rattle.span_timing.specs.Histogram.{IsQuantile, counted, counts_in, holds_parts, most_in}
use Rattle.span_times.specs.Measure.{capped}

pub loop-end-init : goal.loop-end-init
loop-end-init c = record {
  count = refl;
  none = refl;
  short = λ some. let none : 0 * c.args.whole ≡ 0 = zero-mul c.args.whole in omega arith;
}

pub returns-then-from-wanted-clause-rank : goal.returns-then-from-wanted-clause-rank
returns-then-from-wanted-clause-rank c = λ times was fits some part most.
    let done = map deref_pair c.loop-end.yielded in
    let counts = was fits in
    let all : c.from.result ≡ length times = all_counted c.args.self.now times c.from.result counts fits (c.from.ensures ∙ c.count.ensures) in
    let wanted : c.from.result * c.from-2.result ≡ length times * c.args.parts =
    ap (λ n. n * c.from-2.result) all ∙ ap (λ n. length times * n) c.from-2.ensures in
    let positive : 0 < length times * c.args.parts = mul-pos some part in
    let short = c.loop-end.invariant.short (omega arith) in
    let reached : c.from-in-loop-end.result * c.from-in-loop-end-2.result ≡ c.saturating_add-count.result * c.args.whole =
    ap (λ n. n * c.from-in-loop-end-2.result) c.from-in-loop-end.ensures ∙ ap (λ n. c.saturating_add-count.result * n) c.from-in-loop-end-2.ensures in
    let test = c.if-from-wanted.true in
    let split : counts_in c.args.self.now ≡ done ++ (c.in-Some.end.now, c.in-Some.times.now) ∷ c.next.new.self =
    sym (c.into_iter-end-iterator.ensures.into_iter_gives ∙ c.iter-end-items.ensures.rest)
    ∙ rest_so_far deref_pair c.loop-end.yielded c.into_iter-end-iterator.result c.loop-end.end-iterator c.loop-end.yielded_by
    ∙ ap (λ es. done ++ es) c.in-Some.ensures.steps in
    let P : ℕ → Type 0 = λ n. IsQuantile c.args.parts c.args.whole times n in
    subst P (sym c.min.ensures)
    (ranked c.args.self.now times c.args.parts c.args.whole done (c.in-Some.end.now, c.in-Some.times.now) c.next.new.self
    c.loop-end.count c.saturating_add-count.result counts fits split c.iter-end-items.ensures.ordered
    c.loop-end.invariant.count c.saturating_add-count.ensures (omega arith) (omega arith))

pub loop-end-preserved : goal.loop-end-preserved
loop-end-preserved c = record {
  count = count_more c.loop-end.yielded (c.in-Some.end, c.in-Some.times) c.loop-end.count c.saturating_add-count.result
      c.loop-end.invariant.count c.saturating_add-count.ensures;
  none =
      let h = c.args.self.now in
      let split : counts_in h ≡ map deref_pair c.loop-end.yielded ++ (c.in-Some.end.now, c.in-Some.times.now) ∷ c.next.new.self =
      sym (c.into_iter-end-iterator.ensures.into_iter_gives ∙ c.iter-end-items.ensures.rest)
      ∙ rest_so_far deref_pair c.loop-end.yielded c.into_iter-end-iterator.result c.loop-end.end-iterator c.loop-end.yielded_by
      ∙ ap (λ es. map deref_pair c.loop-end.yielded ++ es) c.in-Some.ensures.steps in
      let wanted : c.from.result * c.from-2.result ≡ capped (counted h) * c.args.parts =
      ap (λ n. n * c.from-2.result) (c.from.ensures ∙ c.count.ensures) ∙ ap (λ n. capped (counted h) * n) c.from-2.ensures in
      let reached : c.from-in-loop-end.result * c.from-in-loop-end-2.result ≡ c.saturating_add-count.result * c.args.whole =
      ap (λ n. n * c.from-in-loop-end-2.result) c.from-in-loop-end.ensures ∙ ap (λ n. c.saturating_add-count.result * n) c.from-in-loop-end-2.ensures in
      let test = c.if-from-wanted.false in
      none_here (holds_parts c.args.parts c.args.whole h) c.loop-end.yielded (c.in-Some.end, c.in-Some.times) c.loop-end.invariant.none
      (held_here h c.args.parts c.args.whole (map deref_pair c.loop-end.yielded) (c.in-Some.end.now, c.in-Some.times.now) c.next.new.self
      c.loop-end.count c.saturating_add-count.result split c.iter-end-items.ensures.ordered c.loop-end.invariant.count c.saturating_add-count.ensures
      ∙ lt-leb (capped (counted h) * c.args.parts) (c.saturating_add-count.result * c.args.whole) (omega arith));
  short = λ some.
      let reached : c.from-in-loop-end.result * c.from-in-loop-end-2.result ≡ c.saturating_add-count.result * c.args.whole =
      ap (λ n. n * c.from-in-loop-end-2.result) c.from-in-loop-end.ensures ∙ ap (λ n. c.saturating_add-count.result * n) c.from-in-loop-end-2.ensures in
      let test = c.if-from-wanted.false in
      omega arith;
}

pub returns-clause-rank : goal.returns-clause-rank
returns-clause-rank c = λ times was fits some part most.
    let counts = was fits in
    let whole : map deref_pair c.loop-end.yielded ≡ counts_in c.args.self.now = search (rules, iter_end) in
    let all : c.from.result ≡ length times = all_counted c.args.self.now times c.from.result counts fits (c.from.ensures ∙ c.count.ensures) in
    let wanted : c.from.result * c.from-2.result ≡ length times * c.args.parts =
    ap (λ n. n * c.from-2.result) all ∙ ap (λ n. length times * n) c.from-2.ensures in
    let positive : 0 < length times * c.args.parts = mul-pos some part in
    let short = c.loop-end.invariant.short (omega arith) in
    let count : c.loop-end.count ≡ length times =
    all_counted c.args.self.now times c.loop-end.count counts fits (c.loop-end.invariant.count ∙ ap (λ es. capped (total es)) whole) in
    absurd (none_left (length times) c.args.parts c.args.whole c.loop-end.count count most (omega arith))

pub returns-then-from-wanted-clause-exact : goal.returns-then-from-wanted-clause-exact
returns-then-from-wanted-clause-exact c =
    let h = c.args.self.now in
    let done = map deref_pair c.loop-end.yielded in
    let split : counts_in h ≡ done ++ (c.in-Some.end.now, c.in-Some.times.now) ∷ c.next.new.self =
    sym (c.into_iter-end-iterator.ensures.into_iter_gives ∙ c.iter-end-items.ensures.rest)
    ∙ rest_so_far deref_pair c.loop-end.yielded c.into_iter-end-iterator.result c.loop-end.end-iterator c.loop-end.yielded_by
    ∙ ap (λ es. done ++ es) c.in-Some.ensures.steps in
    let wanted : c.from.result * c.from-2.result ≡ capped (counted h) * c.args.parts =
    ap (λ n. n * c.from-2.result) (c.from.ensures ∙ c.count.ensures) ∙ ap (λ n. capped (counted h) * n) c.from-2.ensures in
    let reached : c.from-in-loop-end.result * c.from-in-loop-end-2.result ≡ c.saturating_add-count.result * c.args.whole =
    ap (λ n. n * c.from-in-loop-end-2.result) c.from-in-loop-end.ensures ∙ ap (λ n. c.saturating_add-count.result * n) c.from-in-loop-end-2.ensures in
    let true_here = c.if-from-wanted.true in
    let holds : holds_parts c.args.parts c.args.whole h c.in-Some.end.now ≡ true =
    held_here h c.args.parts c.args.whole done (c.in-Some.end.now, c.in-Some.times.now) c.next.new.self
    c.loop-end.count c.saturating_add-count.result split c.iter-end-items.ensures.ordered c.loop-end.invariant.count c.saturating_add-count.ensures
    ∙ le-leb (capped (counted h) * c.args.parts) (c.saturating_add-count.result * c.args.whole) (omega arith) in
    let found : find (holds_parts c.args.parts c.args.whole h) (keys_of (counts_in h)) ≡ Some c.in-Some.end.now =
    ap (λ es. find (holds_parts c.args.parts c.args.whole h) (keys_of es)) split
    ∙ found_here (holds_parts c.args.parts c.args.whole h) done (c.in-Some.end.now, c.in-Some.times.now) c.next.new.self c.loop-end.invariant.none holds in
    c.min.ensures ∙ sym (ap (λ o. option_map_or (min (most_in h)) o (most_in h)) found)

pub returns-clause-exact : goal.returns-clause-exact
returns-clause-exact c =
    let h = c.args.self.now in
    let whole : map deref_pair c.loop-end.yielded ≡ counts_in c.args.self.now = search (rules, iter_end) in
    let none : find (holds_parts c.args.parts c.args.whole h) (keys_of (counts_in h)) ≡ None =
    ap (λ es. find (holds_parts c.args.parts c.args.whole h) (keys_of es)) (sym whole) ∙ c.loop-end.invariant.none in
    sym (ap (λ o. option_map_or (min (most_in h)) o (most_in h)) none)
