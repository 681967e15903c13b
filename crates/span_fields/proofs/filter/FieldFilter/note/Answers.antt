use Rattle.std.proofs.Common.{◌∙◌, ◌++◌, [], ◌∷◌, ap, append-nil, append_assoc, length, not, refl, subst, sym, take}
use Rattle.std.proofs.lemmas.Bool.{cond-false, cond-true}
use Rattle.std.specs.Prelude.{IsTrue}
use Rattle.span_fields.proofs.Noted.{all_met, front, further, met_none, met_one}
use Rattle.span_fields.proofs.filter.FieldFilter.note.Goals as goal
use Rattle.span_fields.proofs.filter.FieldFilter.note.Goals.{else-is_met, then-is_met+else-is_err}
use Rattle.span_fields.specs.Filter.{directives_of, met, within_of}

pub loop-directive-init : goal.loop-directive-init
loop-directive-init c = (sym (append-nil _), refl)

pub returns-then-is_err : goal.returns-then-is_err
returns-then-is_err c =
    let id = c.args.span in
    let m = c.args.meta.now in
    let values = c.args.values.now in
    let old = within_of c.args.self.now in
    let ds = c.deref-directive-items.result.now in
    let i = c.loop-directive.directive-index in
    let n = length (met (take i ds) id m values) in
    let failed = c.is_err.ensures.negation ∙ ap not c.if-is_err.true in
    record {
      directives = refl;
      count = n;
      within = c.push.ensures.items ∙ cond-false _ _ _ failed ∙ c.loop-directive.invariant.0
          ∙ ap (λ es. old ++ es) (front id m values ds i)
          ∙ ap (λ es. old ++ take n (met es id m values)) c.deref-directive-items.ensures.value;
      whole = λ f. absurd (cc);
      failed = λ t. refl;
    }

pub loop-directive-preserved : goal.loop-directive-preserved
loop-directive-preserved c =
    let id = c.args.span in
    let m = c.args.meta.now in
    let values = c.args.values.now in
    let old = within_of c.args.self.now in
    let ds = c.deref-directive-items.result.now in
    let i = c.loop-directive.directive-index in
    let known = met (take i ds) id m values in
    let d = c.directive-item.result in
    let more = further id m values ds i d c.loop-directive-test.true c.directive-item.is in (
      elim c.if-is_met.branch [
        | then-is_met+else-is_err w ↦
            let done = w.is_err.ensures.negation ∙ ap not w.if-is_err.false in
            let is = sym c.is_met.ensures ∙ w.if-is_met.true in
            ap (λ v. v.items) w.within-is ∙ w.push.ensures.items ∙ cond-true _ _ _ done
            ∙ ap (λ es. es ++ record { span = id; level = w.level-level.result } ∷ []) c.loop-directive.invariant.0
            ∙ append_assoc old known _
            ∙ ap (λ l. old ++ (known ++ record { span = id; level = l } ∷ [])) w.level-level.ensures
            ∙ ap (λ es. old ++ (known ++ es)) (sym (met_one id m values d is))
            ∙ ap (λ es. old ++ es) (sym more)
        | else-is_met w ↦
            let none = sym c.is_met.ensures ∙ w.if-is_met.false in
            ap (λ v. v.items) w.within-is ∙ c.loop-directive.invariant.0
            ∙ ap (λ es. old ++ es) (sym (append-nil known))
            ∙ ap (λ es. old ++ (known ++ es)) (sym (met_none id m values d none))
            ∙ ap (λ es. old ++ es) (sym more)
      ],
      c.loop-directive.invariant.1,
    )

pub returns : goal.returns
returns c =
    let id = c.args.span in
    let m = c.args.meta.now in
    let values = c.args.values.now in
    let old = within_of c.args.self.now in
    let ds = c.deref-directive-items.result.now in
    let i = c.loop-directive.directive-index in
    let n = length (met (take i ds) id m values) in
    record {
      directives = refl;
      count = n;
      within = c.loop-directive.invariant.0
          ∙ ap (λ es. old ++ es) (front id m values ds i)
          ∙ ap (λ es. old ++ take n (met es id m values)) c.deref-directive-items.ensures.value;
      whole = λ f. all_met id m values ds (directives_of c.args.self.now) i c.loop-directive-test.false c.deref-directive-items.ensures.value;
      failed = subst IsTrue (sym c.loop-directive.invariant.1);
    }
