-- Lists of requests are asked for request by request.
use Rattle.std.proofs.Common.{◌≡◌, List, [], ◌∷◌, ◌++◌, Some, None, refl, sym, subst, append_assoc}
use Rattle.std.proofs.lemmas.List.{append-nil}
use Rattle.span_dispatch.specs.Contract.{AsksCall, AsksEach, AsksFor, SubscriberOf}
use Rattle.span_dispatch.specs.Serve.{call_of}
use Rattle.span_dispatch.specs.declared.dispatch.Dispatch.{Dispatch}
use Rattle.span_dispatch.specs.declared.request.Answer.TheVariants as answer
use Rattle.span_dispatch.specs.declared.request.Answer.{Answer}
use Rattle.span_dispatch.specs.declared.call.Call.{Call}
use Rattle.span_dispatch.specs.declared.request.Request.{Request}

module _ {S : Type 0} (s : SubscriberOf S) where
  -- what was asked is the same
  pub asks_as : (call other : Call) (a : Answer) (old new : Dispatch S) → call ≡ other → AsksCall s other a old new → AsksCall s call a old new
  asks_as call other a old new e h = subst (λ c. AsksCall s c a old new) (sym e) h

  -- a request asks for a call, or for nothing
  pub asked_for : (past : List Answer) (r : Request) (call : Call) (a : Answer) (old new : Dispatch S) → call_of past r ≡ Some call
      → AsksCall s call a old new → AsksFor s (call_of past r) a old new
  asked_for past r call a old new asks h = subst (λ o. AsksFor s o a old new) (sym asks) h

  pub nothing_asked : (past : List Answer) (r : Request) (d : Dispatch S) → call_of past r ≡ None → AsksFor s (call_of past r) answer.Dropped d d
  nothing_asked past r d none = subst (λ o. AsksFor s o answer.Dropped d d) (sym none) (refl, refl)

  -- a list, and then one request more
  all_more : (past : List Answer) (rs : List Request) (answers : List Answer) (old between : Dispatch S) (r : Request) (a : Answer) (new : Dispatch S)
      → AsksEach s past rs answers old between → AsksFor s (call_of (past ++ answers) r) a between new
      → AsksEach s past (rs ++ (r ∷ [])) (answers ++ (a ∷ [])) old new
  all_more past [] [] old between r a new h more =
      (new, subst (λ p. AsksFor s (call_of p r) a old new) (append-nil past) (subst (λ d. AsksFor s (call_of (past ++ []) r) a d new) h more), refl)
  all_more past (q ∷ rs) (b ∷ answers) old between r a new h more = (
    h.0,
    h.1,
    all_more (past ++ (b ∷ [])) rs answers h.0 between r a new h.2
        (subst (λ p. AsksFor s (call_of p r) a between new) (sym (append_assoc past (b ∷ []) answers)) more),
  )
  all_more past other rest old between r a new h more = absurd h

  pub one_asked : (first now next : Dispatch S) (done all : List Request) (past answers after : List Answer) (a : Answer) (r : Request)
      → AsksEach s [] done answers first now → past ≡ answers → after ≡ answers ++ (a ∷ []) → all ≡ done ++ (r ∷ [])
      → AsksFor s (call_of past r) a now next → AsksEach s [] all after first next
  one_asked first now next done all past answers after a r h same longer one asks =
      subst (λ us. AsksEach s [] all us first next) (sym longer) (subst (λ rs. AsksEach s [] rs (answers ++ (a ∷ [])) first next) (sym one)
      (all_more [] done answers first now r a next h (subst (λ p. AsksFor s (call_of p r) a now next) same asks)))
