-- What a leaf sees in a stack it sees alone, and alone the same is seen behind filters that act alike; so the same is seen in two stacks.
use Rattle.std.proofs.Common.{◌≡◌, List, [], ◌∷◌, ◌++◌, sym, subst, ◌∙◌}
use Rattle.span_dispatch.proofs.Acting.{acting_alike, after_agrees, passed_both, steps_agree}
use Rattle.span_dispatch.proofs.Alone.{sees_own}
use Rattle.span_dispatch.specs.Alone.{Alone, acting}
use Rattle.span_dispatch.specs.Contract.{SubscriberOf}
use Rattle.span_dispatch.specs.Outcome.{Outcome}
use Rattle.span_store.specs.Store.{Store}
use Rattle.span_registry.specs.Conducts.{Conducts, StackPathLaws}
use Rattle.span_registry.specs.Reload.{ReloadLaws}
use Rattle.span_registry.specs.Position.{Heard}
use Rattle.span_promises.specs.Isolation.{MadeIn, OutcomesSeenTheSame, SeeTheSame, ServedIn, Sight}

-- alone the same is seen of the same outcomes
pub one_alone : SeeTheSame Alone Alone
one_alone cs ds s t [] h k a b p agree = a ∙ sym b
one_alone cs ds s t (o ∷ outcomes) h k a b p agree =
    let after = steps_agree cs ds o s t a.0 b.0 p agree a.2 b.2 in
    let rest = one_alone (acting cs o s a.0) (acting ds o t b.0) a.0 b.0 outcomes a.1 b.1 a.3 b.3
    (acting_alike cs ds o s t a.0 b.0 p agree after) (after_agrees cs o s a.0 b.0 after) in
    let first = passed_both cs ds o s t a.0 b.0 p agree after in
    a.4 ∙ (λ i. first i ++ rest i) ∙ sym b.4

-- what is seen so is seen alone, on the same store
abbrev IsSeenAlone : Sight (List Outcome) → Type 0
IsSeenAlone Sees = (cs : Conducts) (s : Store) (outcomes : List Outcome) (h : Heard) → Sees cs s outcomes h → Alone cs s outcomes h

-- where each of two sees alone what it sees, both see the same
both_alone : (Sees Other : Sight (List Outcome)) → IsSeenAlone Sees → IsSeenAlone Other → SeeTheSame Sees Other
both_alone Sees Other first second cs ds s t outcomes h k a b p agree =
    one_alone cs ds s t outcomes h k (first cs s outcomes h a) (second ds t outcomes k b) p agree

seen_so : (cs : Conducts) {s t : Store} {outcomes others : List Outcome} {h k : Heard} → s ≡ t → outcomes ≡ others → h ≡ k → Alone cs s outcomes h
    → Alone cs t others k
seen_so cs {s} {t} {outcomes} {others} {h} {k} e f g a = subst (λ (x : Store). Alone cs x others k) e
    (subst (λ (x : List Outcome). Alone cs s x k) f (subst (λ (x : Heard). Alone cs s outcomes x) g a))

module _ {S : Type 0} (s : SubscriberOf S) where
  abbrev pub PathsOf : Type 0
  PathsOf = StackPathLaws s.with_registry s.has_form s.stepped s.registered s.acts_at

  abbrev pub LevelsOf : Type 0
  LevelsOf = ReloadLaws s.has_form s.reloaded s.hears s.acts_at

  -- so whatever is seen in a stack is seen alone
  seen_made : PathsOf → LevelsOf → IsSeenAlone (MadeIn s)
  seen_made paths levels cs store outcomes h m =
      seen_so cs m.at_store m.at_outcomes m.sees (sees_own s.registry paths levels m.old m.made m.new m.position cs m.goes m.acts)

  seen_served : IsSeenAlone (ServedIn s)
  seen_served cs store outcomes h m = seen_so cs m.at_store m.at_outcomes m.sees (m.served.alone m.position cs m.acts)

-- and the same in two
pub outcomes_same : {S T : Type 0} (one : SubscriberOf S) (other : SubscriberOf T) → PathsOf one → LevelsOf one → PathsOf other → LevelsOf other
    → OutcomesSeenTheSame one other
outcomes_same one other paths levels others more = record {
  alone = one_alone;
  made = both_alone (MadeIn one) (MadeIn other) (seen_made one paths levels) (seen_made other others more);
  made_alone = both_alone (MadeIn one) Alone (seen_made one paths levels) (λ cs s outcomes h a. a);
  served = both_alone (ServedIn one) (ServedIn other) (seen_served one) (seen_served other);
}
