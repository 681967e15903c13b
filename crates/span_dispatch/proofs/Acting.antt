-- Filters that act alike, on stores that agree: what one path passes the other passes too, and so what a leaf behind each sees alone is the same.
use Rattle.std.proofs.Common.{◌≡◌, ℕ, Bool, true, false, ◌&&◌, ◌==◌, IsTrue, IfSome, List, [], ◌∷◌, ◌++◌, Option, Some, None, if◌then◌else◌, refl, sym, ap}
use Rattle.std.proofs.Common.{subst, ◌∙◌, inl, inr}
use Rattle.std.proofs.lemmas.Bool.{eq-eqb, eqb-true, false≢true, true≢false, or_cases, or_left, or_right}
use Rattle.span_core.specs.Event.{event_metadata}
use Rattle.span_core.specs.Filters.{FilterSet, union}
use Rattle.span_core.specs.Span.{asked_parent, metadata_of, number_of}
use Rattle.span_targets.specs.declared.setting.Setting.{Setting}
use Rattle.span_core.specs.declared.metadata.Metadata.{Metadata}
use Rattle.span_core.specs.declared.span.Lane.{Lane}
use Rattle.span_core.specs.declared.span.Parent.{Parent}
use Rattle.span_core.specs.declared.span.Parent.TheVariants.{Contextual, Explicit, Root}
use Rattle.span_dispatch.specs.Alone.{ActAlike, Alone, PathsActAlike, acting, learning, form_of_path, passed}
use Rattle.span_dispatch.specs.Outcome.{GoneLeft, HandleAdded, HandleTaken, Reloaded, Noticed, Outcome, Quiet, Steps, given_in, with_new}
use Rattle.std.specs.FinSet.{contains}
use Rattle.span_stacks.specs.Verdict.{in_verdict}
use Rattle.span_store.specs.Closes.{without}
use Rattle.span_store.specs.Step.{IsContext, IsParentFor, begun, entered, exited}
use Rattle.span_store.specs.Store.{IsOpen, Span, Store, add_handle, take_handle}
use Rattle.span_registry.proofs.Agreeing.{closing_alike, held_alike, not_open_alike, open_alike, added_agrees, entered_agrees, exited_agrees, new_agrees}
use Rattle.span_registry.proofs.Agreeing.{parent_alike, passed_alike, taken_agrees, views_alike, without_agrees}
use Rattle.span_registry.proofs.Agreeing.{SpansAgree}
use Rattle.span_registry.proofs.CallerLemmas.{histories_alike}
use Rattle.span_registry.specs.Agree.{AgreeAt}
use Rattle.span_registry.specs.Behaviour.{Behaviour, AreAlike, ArePlain, Conduct, IsPlain, OfReload, Notice, OnClose, OnEnter, OnEvent, OnExit, OnFollows}
use Rattle.span_registry.specs.Behaviour.{OnIdChange, OnNewSpan, OnRecord, OfNotice}
use Rattle.span_registry.specs.Conducts.{ArePlainConducts, Conducts, after_reload, after_notice, filter_numbered, numbers_in, path_now, reloading}
use Rattle.span_registry.specs.Hooks.{no_filter}
use Rattle.span_registry.proofs.Plain.{plain_views_agree}
use Rattle.span_registry.specs.Path.{mask_of, passes_path}
use Rattle.span_registry.specs.Position.{Heard, told_in}
use Rattle.span_registry.specs.Plan.{passes}
use Rattle.span_registry.specs.Question.{single}
use Rattle.span_registry.specs.View.{View, view_of}

-- ---- filters that act alike

-- extensions make no difference to it
itself_alike : (b : Conduct) → IsPlain b → ActAlike b b
itself_alike b p = record { plain = p.answers; same = p.history }

further_alike : (b c d : Conduct) → ActAlike b c → ActAlike c d → ActAlike b d
further_alike b c d p q = record { plain = p.plain; same = λ h k a. p.same h k a ∙ q.same k k (histories_alike k) }

pub after_notice_alike : (e : Notice) (v w : View) (b c : Conduct) → AreAlike v w → ActAlike b c → ActAlike (after_notice e v b) (after_notice e w c)
after_notice_alike (OnNewSpan attrs id) v w b c a p = record {
  plain = λ h. p.plain (OfNotice (OnNewSpan attrs id) v ∷ h);
  same = λ h k s. p.same (OfNotice (OnNewSpan attrs id) v ∷ h) (OfNotice (OnNewSpan attrs id) w ∷ k) (refl, a, s);
}
after_notice_alike (OnRecord id values) v w b c a p = record {
  plain = λ h. p.plain (OfNotice (OnRecord id values) v ∷ h);
  same = λ h k s. p.same (OfNotice (OnRecord id values) v ∷ h) (OfNotice (OnRecord id values) w ∷ k) (refl, a, s);
}
after_notice_alike (OnEnter id) v w b c a p = record {
  plain = λ h. p.plain (OfNotice (OnEnter id) v ∷ h);
  same = λ h k s. p.same (OfNotice (OnEnter id) v ∷ h) (OfNotice (OnEnter id) w ∷ k) (refl, a, s);
}
after_notice_alike (OnExit id) v w b c a p =
    record { plain = λ h. p.plain (OfNotice (OnExit id) v ∷ h); same = λ h k s. p.same (OfNotice (OnExit id) v ∷ h) (OfNotice (OnExit id) w ∷ k) (refl, a, s) }
after_notice_alike (OnClose id) v w b c a p = record {
  plain = λ h. p.plain (OfNotice (OnClose id) v ∷ h);
  same = λ h k s. p.same (OfNotice (OnClose id) v ∷ h) (OfNotice (OnClose id) w ∷ k) (refl, a, s);
}
after_notice_alike other v w b c a p = p

-- so do they once they took a level
level_alike : (l : Setting) (b c : Conduct) → ActAlike b c → ActAlike (after_reload l b) (after_reload l c)
level_alike l b c p = record { plain = λ h. p.plain (OfReload l ∷ h); same = λ h k s. p.same (OfReload l ∷ h) (OfReload l ∷ k) (refl, s) }

-- ---- paths of them

pub paths_itself : (cs : Conducts) → ArePlainConducts cs → PathsActAlike cs cs
paths_itself [] p = tt
paths_itself ((n, b) ∷ cs) p = (refl, itself_alike b p.0, paths_itself cs p.1)

pub paths_further : (cs ds es : Conducts) → PathsActAlike cs ds → PathsActAlike ds es → PathsActAlike cs es
paths_further [] [] es p q = q
paths_further ((n, b) ∷ cs) ((m, c) ∷ ds) [] p q = absurd q
paths_further ((n, b) ∷ cs) ((m, c) ∷ ds) ((l, d) ∷ es) p q = (p.0 ∙ q.0, further_alike b c d p.1 q.1, paths_further cs ds es p.2 q.2)
paths_further other rest es p q = absurd p

pub number_itself : (n m : ℕ) → Some n ≡ Some m → n ≡ m
number_itself n m e = cc

no_number : (n : ℕ) → Some n ≡ None → ⊥
no_number n e = cc

a_number : (n : ℕ) → None ≡ Some n → ⊥
a_number n e = cc

pub same_numbers : (cs ds : Conducts) → PathsActAlike cs ds → numbers_in cs ≡ numbers_in ds
same_numbers [] [] p = refl
same_numbers ((None, b) ∷ cs) ((None, c) ∷ ds) p = same_numbers cs ds p.2
same_numbers ((None, b) ∷ cs) ((Some m, c) ∷ ds) p = absurd (a_number m p.0)
same_numbers ((Some n, b) ∷ cs) ((None, c) ∷ ds) p = absurd (no_number n p.0)
same_numbers ((Some n, b) ∷ cs) ((Some m, c) ∷ ds) p = λ i. union (single (number_itself n m p.0 i)) (same_numbers cs ds p.2 i)
same_numbers other rest p = absurd p

-- ---- masks along a path

-- each filter of the first set is in the second
abbrev pub Within : FilterSet → FilterSet → Type 0
Within a b = (n : ℕ) → IsTrue (a n) → IsTrue (b n)

pub one_more : (a b : FilterSet) (n : ℕ) → Within a b → IsTrue (b n) → Within (union a (single n)) b
one_more a b n h own k t =
    elim (or_cases (a k) (k == n) t) [
      | inl x ↦ h k x
      | inr x ↦ subst (λ (j : ℕ). IsTrue (b j)) (sym (eqb-true k n x)) own
    ]

own_number : (numbers : FilterSet) (n : ℕ) (b : Conduct) (cs : Conducts) → Within (numbers_in ((Some n, b) ∷ cs)) numbers → IsTrue (numbers n)
own_number numbers n b cs h = h n (or_left (n == n) (numbers_in cs n) (eq-eqb n n refl))

other_numbers : (numbers : FilterSet) (n : ℕ) (b : Conduct) (cs : Conducts) → Within (numbers_in ((Some n, b) ∷ cs)) numbers → Within (numbers_in cs) numbers
other_numbers numbers n b cs h k t = h k (or_right (k == n) (numbers_in cs k) t)

-- the mask that such a path gives
masks_alike : (cs ds : Conducts) (under : FilterSet) → PathsActAlike cs ds → mask_of (path_now cs) under ≡ mask_of (path_now ds) under
masks_alike [] [] under p = refl
masks_alike ((None, b) ∷ cs) ((None, c) ∷ ds) under p = masks_alike cs ds under p.2
masks_alike ((None, b) ∷ cs) ((Some m, c) ∷ ds) under p = absurd (a_number m p.0)
masks_alike ((Some n, b) ∷ cs) ((None, c) ∷ ds) under p = absurd (no_number n p.0)
masks_alike ((Some n, b) ∷ cs) ((Some m, c) ∷ ds) under p =
    masks_alike cs ds (union under (single n)) p.2 ∙ ap (λ (k : ℕ). mask_of (path_now ds) (union under (single k))) (number_itself n m p.0)
masks_alike other rest under p = absurd p

mask_within : (cs : Conducts) (under numbers : FilterSet) → Within (numbers_in cs) numbers → Within under numbers → Within (mask_of (path_now cs) under) numbers
mask_within [] under numbers all within = within
mask_within ((None, b) ∷ cs) under numbers all within = mask_within cs under numbers all within
mask_within ((Some n, b) ∷ cs) under numbers all within =
    mask_within cs (union under (single n)) numbers (other_numbers numbers n b cs all) (one_more under numbers n within (own_number numbers n b cs all))

-- under it, stores that agree show the same
pub told_alike : (cs : Conducts) (e : Notice) (s t : Store) (lane : ℕ)
    → AgreeAt (numbers_in cs) s t → told_in e s lane (mask_of (path_now cs) no_filter) ≡ told_in e t lane (mask_of (path_now cs) no_filter)
told_alike cs e s t lane agree =
    let numbers = numbers_in cs in
    let mask = mask_of (path_now cs) no_filter in
    ap (λ (view : View). record { lane = lane; notice = e; view = view })
    (plain_views_agree numbers mask s t lane agree (mask_within cs no_filter numbers (λ n t. t) (λ n t. absurd (false≢true t))))

-- ---- what such paths pass

-- on stores that agree, at filters down to this one: the answers b, which are plain, and the same as c
module _ (numbers : FilterSet) (s t : Store) (agree : AgreeAt numbers s t) (lane : ℕ) where
  passes_alike : (b c : Behaviour) (e : Notice) (set : FilterSet) → ArePlain b → b ≡ c → Within set numbers → passes b e s lane set ≡ passes c e t lane set
  passes_alike b c (OnNewSpan attrs id) set plain same within =
      plain.enabled (metadata_of attrs) (view_of s lane set) (view_of t lane set) (views_alike numbers set s t lane agree within)
      ∙ ap (λ (a : Behaviour). a.enabled (metadata_of attrs) (view_of t lane set)) same
  passes_alike b c (OnEvent e) set plain same within =
      let alike = views_alike numbers set s t lane agree within in
      let enabled = plain.enabled (event_metadata e) (view_of s lane set) (view_of t lane set) alike in
      let event = plain.event e (view_of s lane set) (view_of t lane set) alike in
      (λ i. enabled i && event i) ∙ ap (λ (a : Behaviour). a.enabled (event_metadata e) (view_of t lane set) && a.event e (view_of t lane set)) same
  passes_alike b c (OnRecord id values) set plain same within = passed_alike numbers set s t id agree within
  passes_alike b c (OnFollows id other) set plain same within =
      let first = passed_alike numbers set s t id agree within in
      let second = passed_alike numbers set s t other agree within in
      λ i. first i && second i
  passes_alike b c (OnEnter id) set plain same within = passed_alike numbers set s t id agree within
  passes_alike b c (OnExit id) set plain same within = passed_alike numbers set s t id agree within
  passes_alike b c (OnIdChange id other) set plain same within = passed_alike numbers set s t id agree within
  passes_alike b c (OnClose id) set plain same within = passed_alike numbers set s t id agree within

  now_alike : (b c : Conduct) (e : Notice) (set : FilterSet) → ActAlike b c → Within set numbers → passes (b []) e s lane set ≡ passes (c []) e t lane set
  now_alike b c e set p within = passes_alike (b []) (c []) e set (p.plain []) (p.same [] [] tt) within

  paths_pass_alike : (cs ds : Conducts) (e : Notice) (under : FilterSet) → PathsActAlike cs ds → Within (numbers_in cs) numbers → Within under numbers
      → passes_path (path_now cs) e s lane under ≡ passes_path (path_now ds) e t lane under
  paths_pass_alike [] ((m, c) ∷ ds) e under p all within = absurd p
  paths_pass_alike ((n, b) ∷ cs) [] e under p all within = absurd p
  paths_pass_alike ((None, b) ∷ cs) ((Some m, c) ∷ ds) e under p all within = absurd (a_number m p.0)
  paths_pass_alike ((Some n, b) ∷ cs) ((None, c) ∷ ds) e under p all within = absurd (no_number n p.0)
  paths_pass_alike ((Some n, b) ∷ cs) ((Some m, c) ∷ ds) e under p all within =
      let inside = one_more under numbers n within (own_number numbers n b cs all) in
      let own = now_alike b c e (union under (single n)) p.1 inside in
      let rest = paths_pass_alike cs ds e (union under (single n)) p.2 (other_numbers numbers n b cs all) inside in
      (λ i. own i && rest i)
      ∙ ap (λ (k : ℕ). passes (c []) e t lane (union under (single k)) && passes_path (path_now ds) e t lane (union under (single k))) (number_itself n m p.0)
  paths_pass_alike other rest e under p all within = refl

  verdicts_alike : (cs ds : Conducts) (meta : Metadata) (under : FilterSet) (k : ℕ)
      → PathsActAlike cs ds → Within (numbers_in cs) numbers → Within under numbers
      → in_verdict (form_of_path (path_now cs)) meta s lane under k ≡ in_verdict (form_of_path (path_now ds)) meta t lane under k
  verdicts_alike [] ((m, c) ∷ ds) meta under k p all within = absurd p
  verdicts_alike ((n, b) ∷ cs) [] meta under k p all within = absurd p
  verdicts_alike ((None, b) ∷ cs) ((Some m, c) ∷ ds) meta under k p all within = absurd (a_number m p.0)
  verdicts_alike ((Some n, b) ∷ cs) ((None, c) ∷ ds) meta under k p all within = absurd (no_number n p.0)
  verdicts_alike ((Some n, b) ∷ cs) ((Some m, c) ∷ ds) meta under k p all within =
      let inside = one_more under numbers n within (own_number numbers n b cs all) in
      let set = union under (single n) in
      let views = p.1.plain [] in
      let own : (b []).enabled meta (view_of s lane set) ≡ (c []).enabled meta (view_of t lane set) =
      views.enabled meta (view_of s lane set) (view_of t lane set) (views_alike numbers set s t lane agree inside)
      ∙ ap (λ (a : Behaviour). a.enabled meta (view_of t lane set)) (p.1.same [] [] tt) in
      let rest = verdicts_alike cs ds meta set k p.2 (other_numbers numbers n b cs all) inside in
      (λ i. if own i then rest i else (k == n))
      ∙ ap (λ (j : ℕ). if (c []).enabled meta (view_of t lane (union under (single j)))
      then in_verdict (form_of_path (path_now ds)) meta t lane (union under (single j)) k else (k == j)) (number_itself n m p.0)
  verdicts_alike other rest meta under k p all within = refl

by_test : (p q : Bool) (cs ds es fs : Conducts)
    → p ≡ q → PathsActAlike cs es → PathsActAlike ds fs → PathsActAlike (if p then cs else ds) (if q then es else fs)
by_test true true cs ds es fs e a b = a
by_test true false cs ds es fs e a b = absurd (true≢false e)
by_test false true cs ds es fs e a b = absurd (false≢true e)
by_test false false cs ds es fs e a b = b

-- what such paths are once a level was set
pub reloading_alike : (n : ℕ) (l : Setting) (cs ds : Conducts) → PathsActAlike cs ds → PathsActAlike (reloading n l cs) (reloading n l ds)
reloading_alike n l [] [] p = p
reloading_alike n l ((k, b) ∷ cs) ((m, c) ∷ ds) p =
    by_test (filter_numbered k n)
    (filter_numbered m n) ((k, after_reload l b) ∷ cs) ((k, b) ∷ reloading n l cs) ((m, after_reload l c) ∷ ds) ((m, c) ∷ reloading n l ds)
    (ap (λ (o : Option ℕ). filter_numbered o n) p.0) (p.0, level_alike l b c p.1, p.2) (p.0, p.1, reloading_alike n l cs ds p.2)
reloading_alike n l other rest p = absurd p

-- what such paths learn from a notice: asked in the stores before it, given in these
pub learnt_alike : (numbers : FilterSet) (cs ds : Conducts) (e : Notice) (s t u v : Store) (lane : ℕ) (under : FilterSet)
    → AgreeAt numbers s t → AgreeAt numbers u v → PathsActAlike cs ds → Within (numbers_in cs) numbers → Within under numbers
    → PathsActAlike (learning cs e s u lane under) (learning ds e t v lane under)
learnt_alike numbers [] [] e s t u v lane under before given p all within = tt
learnt_alike numbers ((None, b) ∷ cs) ((None, c) ∷ ds) e s t u v lane under before given p all within = p
learnt_alike numbers ((None, b) ∷ cs) ((Some m, c) ∷ ds) e s t u v lane under before given p all within = absurd (a_number m p.0)
learnt_alike numbers ((Some n, b) ∷ cs) ((None, c) ∷ ds) e s t u v lane under before given p all within = absurd (no_number n p.0)
learnt_alike numbers ((Some n, b) ∷ cs) ((Some m, c) ∷ ds) e s t u v lane under before given p all within =
    let inside = one_more under numbers n within (own_number numbers n b cs all) in
    let set = union under (single n) in
    let own = now_alike numbers s t before lane b c e set p.1 inside in
    let learnt = after_notice_alike e (view_of u lane set) (view_of v lane set) b c (views_alike numbers set u v lane given inside) p.1 in
    let rest = learnt_alike numbers cs ds e s t u v lane set before given p.2 (other_numbers numbers n b cs all) inside in
    let here = by_test (passes (b []) e s lane set) (passes (c []) e t lane set) ((Some n, after_notice e (view_of u lane set) b) ∷ learning cs e s u lane set)
    ((Some n, b) ∷ cs) ((Some n, after_notice e (view_of v lane set) c) ∷ learning ds e t v lane set) ((Some n, c) ∷ ds)
    own (refl, learnt, rest) (refl, p.1, p.2) in
    subst (λ (k : ℕ). PathsActAlike (learning ((Some n, b) ∷ cs) e s u lane under) (learning ((Some k, c) ∷ ds) e t v lane under)) (number_itself n m p.0) here
learnt_alike numbers other rest e s t u v lane under before given p all within = absurd p

-- ---- what an outcome leaves of the conducts and of the store

numbers_tested : (p : Bool) (cs ds : Conducts) (set : FilterSet) → numbers_in cs ≡ set → numbers_in ds ≡ set → numbers_in (if p then cs else ds) ≡ set
numbers_tested true cs ds set a b = a
numbers_tested false cs ds set a b = b

learning_numbers : (cs : Conducts) (e : Notice) (s u : Store) (lane : ℕ) (under : FilterSet) → numbers_in (learning cs e s u lane under) ≡ numbers_in cs
learning_numbers ((Some n, b) ∷ cs) e s u lane under =
    let set = union under (single n) in
    numbers_tested (passes (b []) e s lane set) ((Some n, after_notice e (view_of u lane set) b) ∷ learning cs e s u lane set)
    ((Some n, b) ∷ cs) (numbers_in ((Some n, b) ∷ cs)) (λ i. union (single n) (learning_numbers cs e s u lane set i)) refl
learning_numbers other e s u lane under = refl

-- to set a level makes no difference to the numbers
reloading_numbers : (n : ℕ) (l : Setting) (cs : Conducts) → numbers_in (reloading n l cs) ≡ numbers_in cs
reloading_numbers n l [] = refl
reloading_numbers n l ((None, b) ∷ cs) = reloading_numbers n l cs
reloading_numbers n l ((Some m, b) ∷ cs) = numbers_tested (filter_numbered (Some m) n)
    ((Some m, after_reload l b) ∷ cs) ((Some m, b) ∷ reloading n l cs) (numbers_in ((Some m, b) ∷ cs)) refl (λ i. union (single m) (reloading_numbers n l cs i))

pub acting_numbers : (cs : Conducts) (o : Outcome) (s t : Store) → numbers_in (acting cs o s t) ≡ numbers_in cs
acting_numbers cs (Noticed lane e) s t = learning_numbers cs e s (given_in e s t) lane.0 no_filter
acting_numbers cs (Quiet c) s t = refl
acting_numbers cs (Reloaded n l) s t = reloading_numbers n l cs

pub itself_within : (a : FilterSet) → Within a a
itself_within a n t = t

pub none_within : (a : FilterSet) → Within no_filter a
none_within a n t = absurd (false≢true t)

pub given_alike : (numbers : FilterSet) (e : Notice) (s t u v : Store)
    → AgreeAt numbers s t → AgreeAt numbers u v → AgreeAt numbers (given_in e s u) (given_in e t v)
given_alike numbers (OnClose id) s t u v before after = before
given_alike numbers other s t u v before after = after

pub acting_alike : (cs ds : Conducts) (o : Outcome) (s t u v : Store)
    → PathsActAlike cs ds → AgreeAt (numbers_in cs) s t → AgreeAt (numbers_in cs) u v → PathsActAlike (acting cs o s u) (acting ds o t v)
acting_alike cs ds (Noticed lane e) s t u v p before after =
    let numbers = numbers_in cs in
    learnt_alike numbers cs ds
    e s t (given_in e s u) (given_in e t v) lane.0 no_filter before (given_alike numbers e s t u v before after) p (itself_within numbers) (none_within numbers)
acting_alike cs ds (Quiet c) s t u v p before after = p
acting_alike cs ds (Reloaded n l) s t u v p before after = reloading_alike n l cs ds p

pub passed_both : (cs ds : Conducts) (o : Outcome) (s t u v : Store) → PathsActAlike cs ds → AgreeAt (numbers_in cs) s t → AgreeAt (numbers_in cs) u v
    → passed (Some (path_now cs)) o s u ≡ passed (Some (path_now ds)) o t v
passed_both cs ds (Noticed lane e) s t u v p agree after =
    let numbers = numbers_in cs in
    let passes = paths_pass_alike numbers s t agree lane.0 cs ds e no_filter p (itself_within numbers) (none_within numbers) in
    let told = told_alike cs e (given_in e s u) (given_in e t v) lane.0 (given_alike numbers e s t u v agree after)
    ∙ ap (told_in e (given_in e t v) lane.0) (masks_alike cs ds no_filter p) in
    λ i. if passes i then told i ∷ [] else []
passed_both cs ds other s t u v p agree after = refl

-- ---- steps of stores that agree

no_other_context : (s : Store) (lane : Lane) (x : ℕ) → IsContext s lane (Some x) → IsContext s lane None → ⊥
no_other_context s lane x h k =
    let free : IsOpen s.spans x → ⊥ = subst (λ (o : Option ℕ). IfSome o (λ y. IsOpen s.spans y → ⊥)) h.0 k in
    free h.1

one_context : (s : Store) (lane : Lane) (o p : Option ℕ) → IsContext s lane o → IsContext s lane p → o ≡ p
one_context s lane None None h k = refl
one_context s lane None (Some y) h k = absurd (no_other_context s lane y k h)
one_context s lane (Some x) None h k = absurd (no_other_context s lane x h k)
one_context s lane (Some x) (Some y) h k = sym h.0 ∙ k.0

-- a new span gets one parent
pub one_parent : (s : Store) (lane : Lane) (asked : Parent) (o p : Option ℕ) → IsParentFor s lane asked o → IsParentFor s lane asked p → o ≡ p
one_parent s lane Root o p h k = h ∙ sym k
one_parent s lane Contextual o p h k = one_context s lane o p h k
one_parent s lane (Explicit x) o p h k = h.0 ∙ sym k.0

changed : (numbers : FilterSet) (s t u v : Store) → u ≡ s → v ≡ t → AgreeAt numbers s t → AgreeAt numbers u v
changed numbers s t u v e f h = subst (λ (x : Store). AgreeAt numbers x v) (sym e) (subst (λ (y : Store). AgreeAt numbers s y) (sym f) h)

-- stores that agree still do with one span more in each, whatever their extensions
pub new_stores_agree : (numbers : FilterSet) (s t : Store) (x : ℕ) (r q : Span)
    → AgreeAt numbers s t → SpansAgree numbers r q → AgreeAt numbers (with_new s x r) (with_new t x q)
new_stores_agree numbers s t x r q h k = let a = new_agrees numbers s t x r q h k in record { spans = a.spans; issued = a.issued; stacks = a.stacks }

-- the steps of both leave stores that agree
pub steps_agree : (cs ds : Conducts) (o : Outcome) (s t u v : Store) → PathsActAlike cs ds
    → AgreeAt (numbers_in cs) s t → Steps (form_of_path (path_now cs)) o s u → Steps (form_of_path (path_now ds)) o t v → AgreeAt (numbers_in cs) u v
steps_agree cs ds (Noticed lane (OnNewSpan attrs id)) s t u v p agree h k =
    let numbers = numbers_in cs in
    let parent : h.parent ≡ k.parent =
    one_parent t lane (asked_parent attrs) h.parent k.parent (parent_alike numbers s t lane (asked_parent attrs) h.parent agree h.chosen) k.chosen in
    let first : Span = begun (record { metadata = metadata_of attrs; parent = asked_parent attrs; verdict = h.verdict }) h.parent in
    let second : Span = begun (record { metadata = metadata_of attrs; parent = asked_parent attrs; verdict = k.verdict }) k.parent in
    let both : SpansAgree numbers first second = record {
      metadata = refl;
      parent = parent;
      handles = refl;
      verdict = λ n m. h.refused n
          ∙ verdicts_alike numbers s t agree lane.0 cs ds (metadata_of attrs) no_filter n p (itself_within numbers) (none_within numbers) ∙ sym (k.refused n);
    } in
    changed numbers (with_new s (number_of id) first)
    (with_new t (number_of id) second) u v h.state k.state (new_stores_agree numbers s t (number_of id) first second agree both)
steps_agree cs ds (Noticed lane (OnEvent e)) s t u v p agree h k = changed (numbers_in cs) s t u v h k agree
steps_agree cs ds (Noticed lane (OnEnter id)) s t u v p agree h k =
    changed (numbers_in cs) _ _ u v h.1 k.1 (entered_agrees (numbers_in cs) s t lane.0 (number_of id) agree)
steps_agree cs ds (Noticed lane (OnExit id)) s t u v p agree h k =
    changed (numbers_in cs) _ _ u v h.1 k.1 (exited_agrees (numbers_in cs) s t lane.0 (number_of id) agree)
steps_agree cs ds (Noticed lane (OnIdChange id other)) s t u v p agree h k = absurd h
steps_agree cs ds (Noticed lane (OnClose id)) s t u v p agree h k =
    changed (numbers_in cs) _ _ u v h.1 k.1 (without_agrees (numbers_in cs) s t (number_of id ∷ []) agree)
steps_agree cs ds (Quiet (HandleAdded id)) s t u v p agree h k = changed (numbers_in cs) _ _ u v h.1 k.1 (added_agrees (numbers_in cs) s t (number_of id) agree)
steps_agree cs ds (Quiet (HandleTaken id)) s t u v p agree h k = changed (numbers_in cs) _ _ u v h.1 k.1 (taken_agrees (numbers_in cs) s t (number_of id) agree)
steps_agree cs ds (Reloaded n l) s t u v p agree h k = changed (numbers_in cs) s t u v h k agree
steps_agree cs ds (Quiet (GoneLeft lane id)) s t u v p agree h k =
    changed (numbers_in cs) _ _ u v h.1 k.1 (exited_agrees (numbers_in cs) s t lane.0 (number_of id) agree)
steps_agree cs ds other s t u v p agree h k = changed (numbers_in cs) s t u v h.1 k.1 agree

-- where the one takes a step, so does the other
pub step_over : (cs ds : Conducts) (o : Outcome) (s t u : Store)
    → PathsActAlike cs ds → AgreeAt (numbers_in cs) s t → Steps (form_of_path (path_now cs)) o s u → (v : Store) × Steps (form_of_path (path_now ds)) o t v
step_over cs ds (Noticed lane (OnNewSpan attrs id)) s t u p agree h =
    let numbers = numbers_in cs in
    let span : Span = begun (record { metadata = metadata_of attrs; parent = asked_parent attrs; verdict = h.verdict }) h.parent in (
      with_new t (number_of id) span,
      record {
        parent = h.parent;
        chosen = parent_alike numbers s t lane (asked_parent attrs) h.parent agree h.chosen;
        verdict = h.verdict;
        refused =
            λ k. h.refused k ∙ verdicts_alike numbers s t agree lane.0 cs ds (metadata_of attrs) no_filter k p (itself_within numbers) (none_within numbers);
        fresh = ap (λ i. contains i (number_of id)) (sym agree.issued) ∙ h.fresh;
        other = h.other;
        state = refl;
      },
    )
step_over cs ds (Noticed lane (OnRecord id values)) s t u p agree h = (t, (open_alike (numbers_in cs) s t (number_of id) agree h.0, refl))
step_over cs ds (Noticed lane (OnFollows id other)) s t u p agree h = (t, (open_alike (numbers_in cs) s t (number_of id) agree h.0, refl))
step_over cs ds (Noticed lane (OnEnter id)) s t u p agree h = (entered t lane.0 (number_of id), (open_alike (numbers_in cs) s t (number_of id) agree h.0, refl))
step_over cs ds (Noticed lane (OnExit id)) s t u p agree h = (exited t lane.0 (number_of id), (open_alike (numbers_in cs) s t (number_of id) agree h.0, refl))
step_over cs ds (Noticed lane (OnIdChange id other)) s t u p agree h = absurd h
step_over cs ds (Noticed lane (OnClose id)) s t u p agree h =
    (without t (number_of id ∷ []), (closing_alike (numbers_in cs) s t (number_of id) agree h.0, refl))
step_over cs ds (Quiet (HandleAdded id)) s t u p agree h =
    (record t { spans = add_handle t.spans (number_of id) }, (open_alike (numbers_in cs) s t (number_of id) agree h.0, refl))
step_over cs ds (Quiet (HandleTaken id)) s t u p agree h =
    (record t { spans = take_handle t.spans (number_of id) }, (held_alike (numbers_in cs) s t (number_of id) agree h.0, refl))
step_over cs ds (Quiet (GoneLeft lane id)) s t u p agree h =
    (exited t lane.0 (number_of id), (not_open_alike (numbers_in cs) s t (number_of id) agree h.0, refl))
step_over cs ds other s t u p agree h = (t, refl)

-- ---- what is seen alone

pub after_agrees : (cs : Conducts) (o : Outcome) (s u v : Store) → AgreeAt (numbers_in cs) u v → AgreeAt (numbers_in (acting cs o s u)) u v
after_agrees cs o s u v h = subst (λ (numbers : FilterSet). AgreeAt numbers u v) (sym (acting_numbers cs o s u)) h

-- what is seen alone behind the ones is seen alone behind the others
pub alone_over : (cs ds : Conducts) (s t : Store) (outcomes : List Outcome) (h : Heard)
    → PathsActAlike cs ds → AgreeAt (numbers_in cs) s t → Alone cs s outcomes h → Alone ds t outcomes h
alone_over cs ds s t [] h p agree a = a
alone_over cs ds s t (o ∷ outcomes) h p agree a =
    let step = step_over cs ds o s t a.0 p agree a.2 in
    let after = steps_agree cs ds o s t a.0 step.0 p agree a.2 step.1 in (
      step.0,
      a.1,
      step.1,
      alone_over (acting cs o s a.0)
          (acting ds o t step.0) a.0 step.0 outcomes a.1 (acting_alike cs ds o s t a.0 step.0 p agree after) (after_agrees cs o s a.0 step.0 after) a.3,
      a.4 ∙ ap (λ (first : Heard). first ++ a.1) (passed_both cs ds o s t a.0 step.0 p agree after),
    )
