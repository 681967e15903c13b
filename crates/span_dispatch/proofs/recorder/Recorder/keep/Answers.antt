use Rattle.std.proofs.Common.{◌≡◌, ◌+◌, ◌∷◌, [], ◌++◌, Bool, ap, arith, if◌then◌else◌, is_ok, not, refl, subst, sym, ◌∙◌, true, vec_len, vec_capacity, ◌-◌}
use Rattle.std.proofs.lemmas.Bool.{true≢false}
use Rattle.span_dispatch.specs.Recorder.{RecorderState, Records}
use Rattle.span_dispatch.proofs.recorder.Recorder.keep.Goals as goal

pub returns : goal.returns
returns c =
    let before = c.self.inside.notices in
    let after = c.push.new.self in
    let ok : is_ok c.push.result ≡ true = c.is_err.ensures.negation ∙ ap not c.if-is_err.false in
    let kept : after.items ≡ before.items ++ c.args.notice ∷ [] =
    c.push.ensures.items ∙ ap (λ (b : Bool). if b then (before.items ++ c.args.notice ∷ []) else before.items) ok in
    let len : vec_len after ≡ vec_len before + 1 = c.push.ensures.len ∙ ap (λ (b : Bool). if b then (vec_len before + 1) else vec_len before) ok in
    let capacity = c.push.ensures.capacity in
    let new : RecorderState = record { notices = after.items; room = vec_capacity after - vec_len after; failed = c.self.inside.failed } in
    subst (λ (k : RecorderState). Records k new (c.args.notice ∷ [])) c.self.view_is (record {
      more = c.args.notice ∷ [];
      lost = [];
      split = refl;
      kept = kept;
      all = λ _. refl;
      failed = λ t. absurd (true≢false (sym t ∙ c.if-self.false));
      fails = λ _ t. absurd (true≢false (sym t ∙ c.if-self.false));
      room = omega (arith, len, capacity);
      silent = λ e. let no : ⊥ = cc in absurd no;
    })
