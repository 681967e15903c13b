use Rattle.std.proofs.Common.{◌≡◌, ◌∙◌, ℕ, List, [], ◌∷◌, ◌++◌, ap, append_assoc, arith, rules, subst, sym}
use Rattle.std.specs.List.Sorted.{IsStrictlySortedBy}
use Rattle.std.specs.Map.{keys_of}
use Rattle.std.specs.Ordering.{nat_cmp}
use Rattle.std.proofs.lemmas.Grind.{common_steps}
use Rattle.span_export.proofs.Bands.{inserted_last, keys-tops_from}
use Rattle.span_export.specs.private.Plan.{below, end_from, tops_from}
use Rattle.span_export.proofs.frame.Plan.of.Goals as goal

pub loop-lane-preserved : goal.loop-lane-preserved
loop-lane-preserved c =
    let lane = c.in-Some.lane.now in
    let count = c.in-Some.count.now in
    let rest = c.next.new.self in
    let h = c.loop-lane.height in
    let so_far = c.loop-lane.tops.entries in
    let init = c.into_iter-lane-iterator.result in
    let split : c.loop-lane.lane-iterator ≡ (lane, count) ∷ rest = c.in-Some.ensures.steps in
    let next : c.saturating_add-height.result ≡ below h count =
    grind (arith, common_steps, c.saturating_mul.ensures, c.saturating_add.ensures, c.saturating_add-height.ensures) in
    let whole : so_far ++ (lane, h) ∷ tops_from (below h count) rest ≡ tops_from 56 init =
    ap (λ es. so_far ++ tops_from h es) (sym split) ∙ c.loop-lane.invariant.tops in
    let all : init ≡ c.in_ok-rows.rows.entries = search rules in
    let ordered : IsStrictlySortedBy nat_cmp (keys_of init) =
    subst (λ (es : List (ℕ × ℕ)). IsStrictlySortedBy nat_cmp (keys_of es)) (sym all) c.iter-lane-items.ensures.ordered in
    let sorted : IsStrictlySortedBy nat_cmp (keys_of (so_far ++ (lane, h) ∷ tops_from (below h count) rest)) =
    subst (λ (ks : List ℕ). IsStrictlySortedBy nat_cmp ks) (sym (ap keys_of whole ∙ keys-tops_from 56 init)) ordered in
    let put : c.insert.new.self.entries ≡ so_far ++ (lane, h) ∷ [] =
    c.in_ok-insert.ensures.entries ∙ inserted_last so_far lane h (tops_from (below h count) rest) sorted in
    record {
      tops = ap (λ es. es ++ tops_from c.saturating_add-height.result rest) put ∙ ap (λ n. (so_far ++ (lane, h) ∷ []) ++ tops_from n rest) next
          ∙ append_assoc so_far ((lane, h) ∷ []) (tops_from (below h count) rest) ∙ whole;
      height = ap (λ n. end_from n rest) next ∙ ap (end_from h) (sym split) ∙ c.loop-lane.invariant.height;
    }
