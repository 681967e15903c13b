-- Serving a list, request by request.
use Rattle.std.proofs.Common.{◌≡◌, List, [], ◌∷◌, ◌++◌, Some, None, refl, sym, subst, append_assoc}
use Rattle.std.proofs.lemmas.List.{append-nil}
use Rattle.span_store.specs.Store.{AreIssued}
use Rattle.span_dispatch.proofs.Alone.{sees_what_is_made}
use Rattle.span_dispatch.proofs.Once.{closed_once}
use Rattle.span_dispatch.proofs.Readable.{told_can_be_read}
use Rattle.span_dispatch.proofs.Seen.{run_folds}
use Rattle.span_dispatch.specs.Cache.{KeptCallsites}
use Rattle.span_dispatch.specs.declared.call.Call.{Call}
use Rattle.span_dispatch.specs.Contract.{AnswersDrop, ReadyAfter, StaysReadyWith, SubscriberOf}
use Rattle.span_dispatch.specs.private.Step.{ServesNext, ServesRequest}
use Rattle.span_dispatch.specs.Outcome.{OutcomeAt}
use Rattle.span_dispatch.specs.Serve.{IsReadyBy, Run, Served, ServesAsked, call_of, flat, kept_by, stack_of}
use Rattle.span_dispatch.specs.declared.dispatch.Dispatch.{Dispatch}
use Rattle.span_dispatch.specs.declared.request.Answer.TheVariants as answer
use Rattle.span_dispatch.specs.declared.request.Answer.{Answer}
use Rattle.span_dispatch.specs.declared.request.Request.{Request}
use Rattle.span_registry.proofs.Agreeing.{agree_refl}
use Rattle.span_registry.specs.Conducts.{StackPathLaws, numbers_in}
use Rattle.span_registry.specs.Form.{Form}
use Rattle.span_registry.specs.Hooks.{StackLaws}
use Rattle.span_registry.specs.Reload.{KeepsRules, ReloadLaws}
use Rattle.span_registry.specs.laws.Form.{own_rules, rules_again}

module _ {S : Type 0} {s : SubscriberOf S} where
  -- what a request asks for was served
  pub served_call : (past : List Answer) (r : Request) (call : Call) (a : Answer) (old new : Dispatch S)
      → call_of past r ≡ Some call → AnswersDrop s call a old new → ServesNext s past r a old new
  served_call past r call a old new asks served = record {
    served = λ k.
        let t = served k.1.stack.settled k.0 k.1.stack.honest k.1.kept in (
          t.0,
          subst (λ o. ServesAsked s.registry s.with_registry s.has_form s.stepped s.reloaded o (kept_by old) (stack_of old) a t.0 (kept_by new) (stack_of new))
              (sym asks) (k.0, k.1.stack, t.1),
        );
  }

  -- it names no span: nothing is asked
  pub served_nothing : (past : List Answer) (r : Request) (d : Dispatch S) → call_of past r ≡ None → ServesNext s past r answer.Dropped d d
  served_nothing past r d none = record {
    served = λ k. (
      [],
      subst (λ o. ServesAsked s.registry s.with_registry s.has_form s.stepped s.reloaded o (kept_by d) (stack_of d) answer.Dropped [] (kept_by d) (stack_of d))
          (sym none) (refl, refl, refl, refl),
    );
  }

module _ {S : Type 0} (s : SubscriberOf S) where
  abbrev AnswersRequest : List Answer → Request → KeptCallsites → S → Answer → List OutcomeAt → KeptCallsites → S → Type 0
  AnswersRequest past r memory x a ms after y = ServesRequest s.registry s.with_registry s.has_form s.stepped s.reloaded past r memory x a ms after y

  abbrev Runs : List Answer → List Request → List Answer → List (List OutcomeAt) → KeptCallsites → S → KeptCallsites → S → Type 0
  Runs past rs answers made memory x after y = Run s.registry s.with_registry s.has_form s.stepped s.reloaded past rs answers made memory x after y

  -- a run, and then one request more
  run_more : (past : List Answer) (rs : List Request) (answers : List Answer) (made : List (List OutcomeAt))
      (memory : KeptCallsites) (x : S) (between : KeptCallsites) (y : S) (r : Request) (a : Answer) (ms : List OutcomeAt) (after : KeptCallsites) (z : S)
      → Runs past rs answers made memory x between y
      → AnswersRequest (past ++ answers) r between y a ms after z → Runs past (rs ++ (r ∷ [])) (answers ++ (a ∷ [])) (made ++ (ms ∷ [])) memory x after z
  run_more past [] [] [] memory x between y r a ms after z h t =
      let here = subst (λ p. AnswersRequest p r between y a ms after z) (append-nil past) t in
      (after, z, subst (λ k. AnswersRequest past r k x a ms after z) h.0 (subst (λ v. AnswersRequest past r between v a ms after z) h.1 here), (refl, refl))
  run_more past (q ∷ rs) (b ∷ answers) (m ∷ made) memory x between y r a ms after z h t =
      let rest = subst (λ p. AnswersRequest p r between y a ms after z) (sym (append_assoc past (b ∷ []) answers)) t in
      (h.0, h.1, h.2, run_more (past ++ (b ∷ [])) rs answers made h.0 h.1 between y r a ms after z h.3 rest)
  run_more past other rest made memory x between y r a ms after z h t = absurd h

  -- these requests were served so far
  pub record ServedSoFar (f : Form) (first now : Dispatch S) (done : List Request) (answers : List Answer) : Type 0 where
    pub ready : ReadyAfter s KeepsRules f now
    pub made : List (List OutcomeAt)
    pub run : Runs [] done answers made (kept_by first) (stack_of first) (kept_by now) (stack_of now)

  -- from whatever form the dispatcher was ready by
  abbrev pub SoFar : Dispatch S → Dispatch S → List Request → List Answer → Type 0
  SoFar first now done answers =
      (f : Form) → IsReadyBy s.registry s.with_registry s.has_form s.stepped s.reloaded f first → ServedSoFar f first now done answers

  pub nothing_yet : (first : Dispatch S) → SoFar first first [] []
  nothing_yet first = λ f ready. record { ready = (f, ready, own_rules f); made = []; run = (refl, refl) }

  pub one_more : (first now next : Dispatch S) (done all : List Request) (past answers after : List Answer) (a : Answer) (r : Request)
      → SoFar first now done answers → past ≡ answers → after ≡ answers ++ (a ∷ []) → all ≡ done ++ (r ∷ [])
      → StaysReadyWith s KeepsRules now next → ServesNext s past r a now next → SoFar first next all after
  one_more first now next done all past answers after a r h same longer one ready served = λ f k.
      let t = h f k in
      let n = served.served (t.ready.0, t.ready.1) in
      let next_ready = ready.again t.ready.0 t.ready.1 in
      subst (λ us. ServedSoFar f first next all us) (sym longer) (subst (λ rs. ServedSoFar f first next rs (answers ++ (a ∷ []))) (sym one)
      (record {
        ready = (next_ready.0, next_ready.1, rules_again f t.ready.0 next_ready.0 t.ready.2 next_ready.2);
        made = t.made ++ (n.0 ∷ []);
        run = run_more [] done answers t.made (kept_by first) (stack_of first) (kept_by now) (stack_of now) r a n.0
            (kept_by next) (stack_of next) t.run (subst (λ p. AnswersRequest p r (kept_by now) (stack_of now) a n.0 (kept_by next) (stack_of next)) same n.1);
      }))

  -- what was made of a list that was served
  module _ (laws : StackLaws s.with_registry s.usable s.has_form s.stepped s.hears s.registered)
      (paths : StackPathLaws s.with_registry s.has_form s.stepped s.registered s.acts_at) (levels : ReloadLaws s.has_form s.reloaded s.hears s.acts_at) where
    -- all were served
    pub all_served : (f : Form) (first now : Dispatch S) (all done : List Request) (answers : List Answer)
        → AreIssued (s.registry (stack_of first)).store → done ≡ all → ServedSoFar f first now done answers
        → Served s.registry s.with_registry s.has_form s.stepped s.reloaded s.hears s.acts_at all answers first now
    all_served f first now all done answers issued same h =
        let run = subst (λ rs. Runs [] rs answers h.made (kept_by first) (stack_of first) (kept_by now) (stack_of now)) same h.run in
        let folds = run_folds s.registry
        s.with_registry s.has_form s.stepped s.reloaded [] all answers h.made (kept_by first) (stack_of first) (kept_by now) (stack_of now) run in
        let seen = sees_what_is_made s.registry laws paths levels (flat h.made) folds in
        record {
          made = h.made;
          run = run;
          each = seen.each;
          alone = λ position cs acts.
              seen.alone position cs (s.registry (stack_of first)).store acts (agree_refl (numbers_in cs) (s.registry (stack_of first)).store);
          once = closed_once s.registry s.with_registry s.has_form s.stepped s.reloaded (stack_of first) (flat h.made) (stack_of now) issued folds;
          shown = λ position.
              told_can_be_read s.registry s.with_registry s.has_form s.stepped s.reloaded (stack_of first) (flat h.made) (stack_of now) position folds;
        }
