-- What follows from the words of `served`, for two recorders under levels: all that the proofs of the promises take from them.
use Rattle.std.proofs.lemmas.List.{append-nil}
use Rattle.std.specs.Borrow.{Bor}
use Rattle.span_core.specs.Metadata.{callsite_of, level_of}
use Rattle.span_core.specs.declared.field.FieldValue.{FieldValue}
use Rattle.span_core.specs.declared.level.TheConstants.Level.{INFO, WARN}
use Rattle.span_core.specs.declared.level.TheConstants.LevelFilter as filter
use Rattle.span_core.specs.declared.metadata.Metadata.{Metadata}
use Rattle.span_dispatch.specs.Readable.{ClosesAsItOpened}
use Rattle.span_dispatch.specs.declared.recorded.Recorded.TheVariants as notice
use Rattle.span_dispatch.specs.declared.recorded.Recorded.{Recorded}
use Rattle.span_dispatch.specs.declared.request.Request.TheVariants as request
use Rattle.span_dispatch.specs.declared.request.Which.TheVariants as which
use Rattle.span_dispatch.specs.declared.request.WhichParent.TheVariants as asked
use Rattle.span_store.specs.Closes.{Closes}
use Rattle.std.proofs.Common.{inl, inr, ◌∷◌, ◌++◌, ◌≡◌, ◌∙◌, ℕ, List, [], map, None, Some, Result, Ok, Err, IfOk, ap, subst, sym}
use Rattle.std.specs.FinMap.{get-empty}
use Rattle.span_core.specs.declared.level.LevelFilter.{LevelFilter}
use Rattle.span_dispatch.proofs.CallerLemmas.{heard_records}
use Rattle.span_dispatch.proofs.Fixed.{runs_by}
use Rattle.span_dispatch.proofs.Seen.{run_folds}
use Rattle.span_dispatch.specs.Alone.{passed_at}
use Rattle.span_dispatch.specs.Cache.{KeptCallsites, no_callsite}
use Rattle.span_dispatch.specs.Recorder.{RecorderState, Records, kept_notice, new_recorder}
use Rattle.span_dispatch.specs.Serve.{Served, flat, kept_by, stack_of}
use Rattle.span_dispatch.specs.declared.dispatch.Dispatch.{Dispatch}
use Rattle.span_dispatch.specs.declared.request.Answer.{Answer}
use Rattle.span_dispatch.specs.declared.request.Request.{Request}
use Rattle.span_stacks.specs.Layered.{inner_of, outer_of, with_inner}
use Rattle.span_promises.proofs.Closes.{kept_before}
use Rattle.span_promises.proofs.Family.{once_apart, opens_made, parent_last}
use Rattle.span_promises.proofs.Program.{program}
use Rattle.span_promises.proofs.Stack.{aside, begins_so, form_by, goes, inner_place, known, outer_place, set, two_acts, two_form, two_hears, two_levels}
use Rattle.span_promises.proofs.Stack.{two_steps, Stays}
use Rattle.span_promises.proofs.Watched.{told_all, watched_form, watched_hears, watched_levels, watched_steps}
use Rattle.span_promises.specs.Watch.{Watched, lost_by, watcher_of}
use Rattle.span_store.specs.Store.{AreIssued, Spans, empty_store}
use Rattle.span_registry.specs.Conducts.{ActsAt}
use Rattle.span_stacks.specs.Filtered.{layer_of}
use Rattle.span_promises.proofs.Wanted.{none_wanted_is_dropped}
use Rattle.span_promises.specs.Begins.{ServesAtFirst}
use Rattle.span_dispatch.specs.Contract.{SubscriberOf}
use Rattle.span_promises.specs.Parents.{ParentsCloseLast}
use Rattle.span_promises.specs.Program.{KeepsEach, KeepsJust, first_lane}
use Rattle.span_promises.specs.Promises.{ClosesChildrenFirst, ClosesOnce, DropsNothingWanted}
use Rattle.span_promises.specs.Two.{Answered, Two, inner_recorder, outer_recorder}
use Rattle.std.specs.Ordering.{nat_cmp}
use Rattle.span_registry.specs.Position.{Here, Outer, Under}
use Rattle.span_dispatch.specs.private.Fixed.{RunsBy}

abbrev pub ServesTwo : List Request → List Answer → Dispatch Two → Dispatch Two → Type 0
ServesTwo = Served inner_of with_inner two_form two_steps two_levels two_hears two_acts

none_issued : AreIssued empty_store
none_issued x h = let gone : Some h.0 ≡ None = sym h.1 ∙ get-empty nat_cmp x in let no : ⊥ = cc in absurd no

-- what was served keeps what follows from that
pub where_served : {A E : Type 0} {P Q : A → Type 0} (r : Result A E) → IfOk r P → ((a : A) → P a → Q a) → IfOk r Q
where_served (Ok a) h k = k a h
where_served (Err e) h k = tt

-- `run`: of any stack, a parent closes last
pub parents_last : {S : Type 0} (s : SubscriberOf S) → ParentsCloseLast s
parents_last s requests answers old new h child parent issued opens =
    parent_last s.registry s.with_registry s.has_form s.stepped s.reloaded child parent (stack_of old) (flat h.made) (stack_of new)
    (run_folds s.registry s.with_registry s.has_form s.stepped s.reloaded [] requests answers h.made (kept_by old) (stack_of old) (kept_by new)
    (stack_of new) h.run)
    issued opens

module _ (outer inner : LevelFilter) (requests : List Request) (done : Answered) (h : ServesAtFirst outer inner (ServesTwo requests) done) where
  -- `run`, by the form alone: from an empty store, with nothing kept
  pub by_form : RunsBy (form_by (outer, inner)) requests done.1.items h.served.made (Some no_callsite) (inner_of (stack_of h.first)) (kept_by done.0)
      (inner_of (stack_of done.0))
  by_form =
      let x = stack_of h.first in
      let run = runs_by inner_of with_inner two_form two_steps two_levels Stays known goes aside set [] requests done.1.items h.served.made
      (kept_by h.first) (form_by (outer, inner)) x (kept_by done.0) (stack_of done.0) (begins_so outer inner x h.begins) h.served.run in
      subst (λ (k : KeptCallsites). RunsBy (form_by (outer, inner)) requests done.1.items h.served.made k (inner_of x) (kept_by done.0)
      (inner_of (stack_of done.0))) h.kept (run.0, run.2)

  pub drops_nothing_wanted : DropsNothingWanted outer inner requests done
  drops_nothing_wanted =
      none_wanted_is_dropped (outer, inner) [] requests done.1.items h.served.made (Some no_callsite) (inner_of (stack_of h.first)) (kept_by done.0)
      (inner_of (stack_of done.0), by_form.0) by_form.1

  -- `each`: what the two recorders keep
  pub outer_records : Records new_recorder (outer_recorder done.0) (map kept_notice (passed_at outer_place (flat h.served.made)))
  outer_records = subst (λ (r : RecorderState). Records r (outer_recorder done.0) (map kept_notice (passed_at outer_place (flat h.served.made))))
      h.begins.over.inner (heard_records _ _ _ (h.served.each outer_place))

  pub inner_records : Records new_recorder (inner_recorder done.0) (map kept_notice (passed_at inner_place (flat h.served.made)))
  inner_records = subst (λ (r : RecorderState). Records r (inner_recorder done.0) (map kept_notice (passed_at inner_place (flat h.served.made))))
      h.begins.below.inner (heard_records _ _ _ (h.served.each inner_place))

  -- `once`
  pub closes_once : ClosesOnce done
  closes_once id = (
    λ b. once_apart _ _ h.served.once (kept_before id id outer_place (flat h.served.made) (outer_recorder done.0) outer_records b),
    λ b. once_apart _ _ h.served.once (kept_before id id inner_place (flat h.served.made) (inner_recorder done.0) inner_records b),
  )

  -- `run`
  pub closes_children_first : ClosesChildrenFirst requests done
  closes_children_first child parent o =
      let x = stack_of h.first in
      let made = h.served.made in
      let folds = run_folds inner_of with_inner two_form two_steps two_levels [] requests done.1.items made (kept_by h.first) x (kept_by done.0)
      (stack_of done.0) h.served.run in
      let opens = opens_made inner_of with_inner two_form two_steps two_levels [] requests done.1.items made (kept_by h.first) x (kept_by done.0)
      (stack_of done.0) child parent h.served.run o in
      let last = parent_last inner_of with_inner two_form two_steps two_levels _ _ x (flat made) (stack_of done.0) folds
      (subst AreIssued (sym h.begins.empty) none_issued) opens in (
        λ b. last (kept_before parent child outer_place (flat made) (outer_recorder done.0) outer_records b),
        λ b. last (kept_before parent child inner_place (flat made) (inner_recorder done.0) inner_records b),
      )

-- a new recorder that hasn't failed keeps all that it was notified of
keeps_just : (r : RecorderState) (due notices : List Recorded) → Records new_recorder r due → due ≡ notices → KeepsJust r notices
keeps_just r due notices h e whole = h.kept ∙ sym (h.split ∙ ap (λ (us : List Recorded). h.more ++ us) (h.all whole) ∙ append-nil h.more) ∙ e

-- `each` and `shown`: whatever a watcher was told the close of, it finds
pub loses_none_more : {acts_at : ActsAt Watched} (requests : List Request) (answers : List Answer) (old new : Dispatch Watched)
    → Served inner_of with_inner watched_form watched_steps watched_levels watched_hears acts_at requests answers old new
    → lost_by (watcher_of new) ≡ lost_by (watcher_of old)
loses_none_more requests answers old new h = told_all (passed_at (Outer (Under Here)) (flat h.made)) (layer_of (outer_of (stack_of old)))
    (layer_of (outer_of (stack_of new))) (h.each (Outer (Under Here))) (h.shown (Outer (Under Here)))

-- `run`, `each` and `answers`, of a span with an event in it
pub keeps_each : ClosesAsItOpened → ((m : Spans) (x : ℕ) (xs ys : List ℕ) → Closes m x xs → Closes m x ys → xs ≡ ys)
    → (m n : Metadata) (us vs : Bor (List (Bor (List ℕ) × FieldValue))) (done : Answered) → level_of m ≡ INFO → level_of n ≡ WARN → callsite_of n ≡ 1
    → ServesAtFirst filter.INFO filter.WARN
    (ServesTwo (request.NewSpan first_lane m asked.Contextual us ∷ request.Enter first_lane (which.Made 0) ∷ request.Event first_lane n asked.Contextual
    vs ∷ request.Exit first_lane (which.Made 0) ∷ request.Drop first_lane (which.Made 0) ∷ [])) done → KeepsEach done
keeps_each law once m n us vs done level higher number h =
    let requests = request.NewSpan first_lane m asked.Contextual us ∷ request.Enter first_lane (which.Made 0) ∷ request.Event first_lane n asked.Contextual
    vs ∷ request.Exit first_lane (which.Made 0) ∷ request.Drop first_lane (which.Made 0) ∷ [] in
    let run = by_form filter.INFO filter.WARN requests done h in
    elim (program law once first_lane m n us vs level higher done.1.items h.served.made (Some no_callsite) (inner_of (stack_of h.first)) (kept_by done.0)
    (inner_of (stack_of done.0), run.0) h.begins.empty run.1) [
      | inl refused ↦ inl refused
      | inr kept ↦ inr (
        kept.id,
        record {
          answers = kept.answered;
          outer = keeps_just (outer_recorder done.0) _ _ (outer_records filter.INFO filter.WARN requests done h)
              (kept.outer ∙ ap (λ k. notice.New first_lane kept.id ∷ notice.Enter first_lane kept.id ∷ notice.Event first_lane k ∷ notice.Exit first_lane
              kept.id ∷ notice.Close first_lane kept.id ∷ []) number);
          inner = keeps_just (inner_recorder done.0) _ _ (inner_records filter.INFO filter.WARN requests done h)
              (kept.inner ∙ ap (λ k. notice.Event first_lane k ∷ []) number);
        },
      )
    ]
