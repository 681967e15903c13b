use Rattle.std.proofs.Common.{◌≡◌, ◌∙◌, [], ◌∷◌, ◌++◌, append_assoc, subst, sym, ap}
use Rattle.std.specs.List.Sorted.{IsStrictlySortedBy}
use Rattle.std.specs.Map.{keys_of}
use Rattle.std.specs.String.{string_cmp}
use Rattle.serde_json.proofs.Views.{Entry, put_last}
use Rattle.serde_json.specs.Data.{put}
use Rattle.span_stream.proofs.held.copy_of.Goals as goal

pub loop-name-preserved : goal.loop-name-preserved
loop-name-preserved c =
    let l = c.loop-name in
    let done = l.invariant.0 in
    let e : Entry = (c.in-Some.name.now, c.in-Some.value.now) in
    let left = c.next.new.self in
    let all : c.args.settled.now.entries ≡ done ++ e ∷ left = l.invariant.1 ∙ ap (λ es. done ++ es) c.in-Some.ensures.steps in
    let last = put_last done e left (subst (λ es. IsStrictlySortedBy string_cmp (keys_of es)) all c.iter-name-items.ensures.ordered) in (
      done ++ e ∷ [],
      all ∙ sym (append_assoc done (e ∷ []) left),
      c.in_ok-put.ensures.ok ∙ (λ i. put (c.as_str.ensures.value i) (c.in_ok-clone.ensures.cases i) (l.invariant.2 i)) ∙ last,
    )
