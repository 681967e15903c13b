-- How each call of a dispatcher is served, from what the stack's own calls say.
use Rattle.std.proofs.Common.{◌≡◌, ◌&&◌, ℕ, Bool, true, false, not, ◌||◌, List, [], ◌∷◌, ◌++◌, map, Option, Some, None, Result, Ok, Err, inl, inr, IfSome}
use Rattle.std.proofs.Common.{IfErr, IfOk, OnOk, OnErr, ◌<◌, refl, sym, ap, subst, ◌∙◌}
use Rattle.std.proofs.lemmas.Bool.{not-true, true≢false}
use Rattle.span_core.specs.Event.{event_metadata}
use Rattle.span_core.specs.Filters.{FilterSet}
use Rattle.span_core.specs.Pass.{refused_of}
use Rattle.span_core.specs.Span.{asked_parent, current_span, id_of, metadata_of, number_of}
use Rattle.span_core.specs.declared.error.TraceError.{TraceError}
use Rattle.span_core.specs.declared.event.Event.{Event}
use Rattle.span_core.specs.declared.metadata.Metadata.{Metadata}
use Rattle.span_core.specs.declared.pass.Pass.{Pass}
use Rattle.span_core.specs.declared.span.Attributes.{Attributes}
use Rattle.span_core.specs.declared.span.Current.{Current}
use Rattle.std.specs.Option.{option_map}
use Rattle.span_core.specs.declared.span.Id.{Id}
use Rattle.span_core.specs.declared.span.Lane.{Lane}
use Rattle.span_core.specs.declared.span.Record.{Record}
use Rattle.span_dispatch.proofs.Goes.{with_others, Done, SameAside, StepsTo, StillReady, aside_state, by_call, by_change, by_none, changed, ended_by}
use Rattle.span_dispatch.proofs.Goes.{filters_same, honest_after, honest_quietly, its_own, keeps_again, same_aside, settled_aside}
use Rattle.span_dispatch.specs.Admission.{IsDecided}
use Rattle.span_dispatch.specs.private.Step.{ClosesEach, IsAdmitted, closes_of}
use Rattle.span_dispatch.specs.Call.{AnswersWith, HasRoomFor, OutcomesOf, current_answer, done_answer, vetoes_whole, yes_answer}
use Rattle.span_dispatch.specs.Cache.{KeptCallsites}
use Rattle.span_dispatch.specs.declared.call.Call.TheVariants.{AddHandle, AskCurrent, DropHandle, Enter, Exit, Follow, OpenSpan, Probe, RecordValues, SendEvent}
use Rattle.span_dispatch.specs.Outcome.{GoneLeft, HandleAdded, HandleTaken, IsHonest, IsVerdict, Ends, OutcomeAt, Makes, Noticed, Notices, Outcome, Quiet}
use Rattle.span_dispatch.specs.Outcome.{Steps, given_in, with_new, without_span}
use Rattle.span_core.specs.declared.filter.FilterMap.{FilterMap}
use Rattle.span_dispatch.specs.Serve.{IsReady, outcome_of}
use Rattle.span_dispatch.specs.declared.request.Answer.TheVariants as answer
use Rattle.span_stacks.proofs.Built.{rules_of}
use Rattle.span_stacks.proofs.RulesKept.{honesty_is_kept}
use Rattle.span_stacks.specs.Honest.{IsHonestStack}
use Rattle.span_stacks.proofs.Pass.{event_fresh, event_unless_vetoed, new_span_fresh, others_afresh}
use Rattle.span_stacks.specs.Verdict.{vetoes, vetoes_event}
use Rattle.span_store.specs.Closes.{HasNoClosing}
use Rattle.span_store.specs.Step.{Begun, Between, Clones, Enters, Exits, IsCurrent, Opens, ShowsCurrent, begun, entered, exited, RefusesClone, RefusesEnter}
use Rattle.span_store.specs.Step.{RefusesNew, Releases, Removal, Removed, Removes}
use Rattle.span_store.specs.Store.{IsClosing, IsForest, IsOpen, RegistryState, Spans, Store, add_handle, handles_of, take_handle}
use Rattle.span_store.specs.declared.registry.Released.{Released}
use Rattle.span_store.specs.declared.registry.Released.TheVariants.{Closing, StillOpen}
use Rattle.span_registry.specs.Behaviour.{Notice, OnClose, OnEnter, OnEvent, OnExit, OnFollows, OnNewSpan, OnRecord}
use Rattle.span_registry.specs.KeptForm.{KeepsForm}
use Rattle.span_registry.specs.laws.Form.{kept_form, kept_rules}
use Rattle.span_registry.specs.Form.{Form}
use Rattle.span_registry.specs.Hooks.{AnswersEvent, Notifies, OpensAndNotifies, StackLaws, StackSteps, Stays, no_filter}
use Rattle.span_registry.specs.Reload.{ReloadSteps}
use Rattle.span_registry.specs.Position.{HearSteps}
use Rattle.span_registry.specs.Plan.{asked_afresh, by_pass}
use Rattle.span_registry.specs.Question.{asked, event_asked, refusals}
use Rattle.span_registry.specs.Subscriber.{SameButExtensions}
use Rattle.span_registry.specs.Law.{ClosesAll}
use Rattle.span_registry.proofs.CallerLemmas.{closes_itself, closes_with_hooks, drops_open, hooks_alone, next_is_closing, settled_cloned, settled_closed}
use Rattle.span_registry.proofs.CallerLemmas.{settled_opened, settled_still}
use Rattle.std.specs.List.{FoldsTo}

-- ---- what the registry's own step makes of a notice

-- it stays as it is
stays_to : (f : Form) (lane : Lane) (e : Notice) (s t : RegistryState)
    → Steps f (Noticed lane e) s.store s.store → given_in e s.store s.store ≡ s.store → ((u : RegistryState) → Ends e u u) → t ≡ s → StepsTo f lane e s t
stays_to f lane e s t steps given ends same = record {
  after = s.store;
  steps = steps;
  given = same ∙ sym (ap (λ (u : Store). record s { store = u }) given);
  ends = ends;
  filters = filters_same same;
  settled = settled_aside s.store t.store (aside_state s t same);
}

enters_to : (f : Form) (lane : Lane) (id : Id) (s t : RegistryState) → Enters lane id s t → StepsTo f lane (OnEnter id) s t
enters_to f lane id s t n =
    let u = entered s.store lane.0 (number_of id) in
    let same : SameAside u t.store = same_aside u t.store (ap (λ (r : RegistryState). r.store) n.state) in
    record {
      after = u;
      steps = (n.is_open, refl);
      given = n.state;
      ends = λ r. refl;
      filters = filters_same n.state;
      settled = λ h. subst HasNoClosing (sym same.spans) h;
    }

leaves_to : (f : Form) (lane : Lane) (id : Id) (s t : RegistryState) → IsOpen s.store.spans (number_of id) → Exits lane id s t → StepsTo f lane (OnExit id) s t
leaves_to f lane id s t there n =
    let u = exited s.store lane.0 (number_of id) in
    let same : SameAside u t.store = same_aside u t.store (ap (λ (r : RegistryState). r.store) n) in
    record { after = u; steps = (there, refl); given = n; ends = λ r. refl; filters = filters_same n; settled = λ h. subst HasNoClosing (sym same.spans) h }

opens_to : (f : Form) (lane : Lane) (attrs : Attributes) (id : Id) (s t : RegistryState) (v : FilterMap) → IsVerdict f (metadata_of attrs) s.store lane v
    → Opens lane (record { metadata = metadata_of attrs; parent = asked_parent attrs; verdict = v }) id s t → StepsTo f lane (OnNewSpan attrs id) s t
opens_to f lane attrs id s t v said o =
    let span = begun (record { metadata = metadata_of attrs; parent = asked_parent attrs; verdict = v }) o.parent in
    let u = with_new s.store (number_of id) span in
    let same : SameAside u t.store = record {
      spans = ap (λ (r : RegistryState). r.store.spans) o.state;
      issued = ap (λ (r : RegistryState). r.store.issued) o.state;
      stacks = ap (λ (r : RegistryState). r.store.stacks) o.state;
    } in
    record {
      after = u;
      steps = record { parent = o.parent; chosen = o.finds.chosen; verdict = v; refused = said; fresh = o.fresh; other = o.other; state = refl };
      given = o.state;
      ends = λ r. refl;
      filters = filters_same o.state;
      settled = settled_opened lane _ id s t o;
    }

module _ {S : Type 0} {registry : S → RegistryState} {with_registry : S → RegistryState → S}
    {usable : S → Type 0} {has_form : S → Form → Type 0} {stepped : StackSteps S} {hears : HearSteps S} {registered : S → S → Type 0}
    (laws : StackLaws with_registry usable has_form stepped hears registered) (with_own : (s : S) → with_registry s (registry s) ≡ s)
    (reloaded : ReloadSteps S) where
  abbrev pub Ready : Form → S → Type 0
  Ready f x = IsReady registry with_registry has_form stepped reloaded f x

  abbrev pub Honest : Form → S → Type 0
  Honest f x = IsHonest registry with_registry has_form stepped reloaded f x

  -- ---- questions

  current_number : (s : Store) (lane : ℕ) (o : Option (Id × Metadata))
      → IsCurrent s lane (option_map (λ p. number_of p.0) o) → IsCurrent s lane (option_map number_of (option_map (λ p. p.0) o))
  current_number s lane None h = h
  current_number s lane (Some p) h = h

  pub current_so : (lane : Lane) (c : Current) (f : Form) (x : S)
      → ShowsCurrent (registry x).store lane c → Honest f x → Done laws with_own reloaded (AskCurrent lane) (current_answer c) f x x
  current_so lane c f x shown h = by_none laws with_own reloaded (AskCurrent lane) (current_answer c) f x x h refl refl

  pub current_exact : (lane : Lane) (c : Current) (f : Form) (memory : KeptCallsites) (s : RegistryState)
      → ShowsCurrent s.store lane c → AnswersWith (AskCurrent lane) memory f s (current_answer c) memory
  current_exact lane c f memory s shown = (refl, current_number s.store lane.0 (current_span c) shown.span)

  -- of a probe nothing comes
  pub probe_says : (lane : Lane) (m : Metadata) (said : Result Bool TraceError) (s : Store) → OutcomesOf (Probe lane m) (yes_answer said) s []
  probe_says lane m (Ok said) s = refl
  probe_says lane m (Err e) s = refl

  pub probed_exactly : (lane : Lane) (m : Metadata) (pass : Pass) (said : Result Bool TraceError) (f : Form) (memory after : KeptCallsites) (s : RegistryState)
      → IsAdmitted memory f s lane m pass after said → AnswersWith (Probe lane m) memory f s (yes_answer said) after
  probed_exactly lane m pass (Ok said) f memory after s a = a.0
  probed_exactly lane m pass (Err e) f memory after s a = a

  -- ---- new spans

  -- this was said of the metadata
  by_metadata : (f : Form) (s : RegistryState) (lane : Lane) (m meta : Metadata) (pass : Pass) (memory after : KeptCallsites) (said : Result Bool TraceError)
      → m ≡ meta → IsAdmitted memory f s lane m pass after said → IsAdmitted memory f s lane meta pass after said
  by_metadata f s lane m meta pass memory after said same a = subst (λ n. IsAdmitted memory f s lane n pass after said) same a

  pub span_made : (lane : Lane) (attrs : Attributes) (m : Metadata) (pass : Pass) (id : Id) (f : Form) (x y : S)
      → m ≡ metadata_of attrs → asked f m (registry x).store lane.0 no_filter no_filter ≡ (true, refusals pass)
      → OpensAndNotifies registry has_form stepped lane attrs pass x y id
      → Honest f x → Done laws with_own reloaded (OpenSpan lane attrs) (answer.Made id) f x y
  span_made lane attrs m pass id f x y same a n h =
      let s = (registry x).store in
      let d = subst (λ n. asked f n s lane.0 no_filter no_filter ≡ (true, refusals pass)) same a in
      let refused = ap (λ (p : Bool × FilterSet). p.1) d in
      let law = new_span_fresh f attrs id s lane.0 h.rules.numbers.distinct (ap (λ (p : Bool × FilterSet). p.0) d) in
      let plan = subst (λ r. by_pass f (OnNewSpan attrs id) n.left.store.spans no_filter r ≡ asked_afresh f (OnNewSpan attrs id) s lane.0 no_filter)
      refused (law.plan n.left.store.spans) in
      by_call laws with_own reloaded (OpenSpan lane attrs) (answer.Made id) f lane (OnNewSpan attrs id) (refusals pass) _ x y h refl
      n plan (opens_to f lane attrs id (registry x) n.left (refused_of pass) (λ k. ap (λ (r : FilterSet). r k) (sym refused) ∙ law.verdict k) n.taken)

  -- and exactly so
  module _ (f : Form)
      (memory after : KeptCallsites) (s : RegistryState) (lane : Lane) (attrs : Attributes) (m : Metadata) (pass : Pass) (same : m ≡ metadata_of attrs) where
    pub dropped_exactly : IsAdmitted memory f s lane m pass after (Ok false) → AnswersWith (OpenSpan lane attrs) memory f s answer.Dropped after
    dropped_exactly a = (by_metadata f s lane m (metadata_of attrs) pass memory after (Ok false) same a).0

    pub unknown_exactly : (e : TraceError)
        → IsAdmitted memory f s lane m pass after (Err e) → AnswersWith (OpenSpan lane attrs) memory f s (answer.Refused e) after
    unknown_exactly e a = inl (by_metadata f s lane m (metadata_of attrs) pass memory after (Err e) same a)

    pub made_exactly : (id : Id) → HasRoomFor s lane (asked_parent attrs)
        → IsAdmitted memory f s lane m pass after (Ok true) → AnswersWith (OpenSpan lane attrs) memory f s (answer.Made id) after
    made_exactly id room a = ((by_metadata f s lane m (metadata_of attrs) pass memory after (Ok true) same a).0, room)

    pub refused_exactly : (e : TraceError) → RefusesNew s lane (asked_parent attrs) e
        → IsAdmitted memory f s lane m pass after (Ok true) → AnswersWith (OpenSpan lane attrs) memory f s (answer.Refused e) after
    refused_exactly e r a = inr ((by_metadata f s lane m (metadata_of attrs) pass memory after (Ok true) same a).0, r)

  -- ---- events

  wanted_or_vetoed : (f : Form) (x : S) (lane : Lane) (e : Event) (before pass : Pass) (said : Bool)
      → Honest f x → AnswersEvent registry has_form x lane e before said pass → said ≡ not (vetoes_event f e (registry x).store lane.0)
  wanted_or_vetoed f x lane e before pass said h a =
      (a f h.has).answer ∙ event_unless_vetoed f e (registry x).store lane.0 (refusals before) (rules_of f _ h.rules).orderly

  pub event_made : (lane : Lane) (e : Event) (m : Metadata) (first second : Pass) (wanted : Bool) (f : Form) (x y : S)
      → m ≡ event_metadata e → asked f m (registry x).store lane.0 no_filter no_filter ≡ (true, refusals first) → wanted ≡ true
      → AnswersEvent registry has_form x lane e first wanted second → Notifies registry has_form stepped lane (refusals second) (OnEvent e) Stays x y
      → Honest f x → Done laws with_own reloaded (SendEvent lane e) answer.Done f x y
  event_made lane e m first second wanted f x y same a agreed b n h =
      let s = (registry x).store in
      let d = subst (λ n. asked f n s lane.0 no_filter no_filter ≡ (true, refusals first)) same a in
      let unvetoed_now = not-true _ (sym (wanted_or_vetoed f x lane e first second wanted h b) ∙ agreed) in
      let asked_first = (asked f (event_metadata e) s lane.0 no_filter no_filter).1 in
      let true_of_all = event_unless_vetoed f e s lane.0 asked_first (rules_of f _ h.rules).orderly ∙ ap not unvetoed_now in
      let law = event_fresh f e s lane.0 h.rules.numbers.distinct (ap (λ (p : Bool × FilterSet). p.0) d) true_of_all in
      let refused : refusals second ≡ (event_asked f e s lane.0 no_filter asked_first).1 =
      (b f h.has).refused ∙ ap (λ r. (event_asked f e s lane.0 no_filter r).1) (sym (ap (λ (p : Bool × FilterSet). p.1) d)) in
      let plan = subst (λ r. by_pass f (OnEvent e) n.left.store.spans no_filter r ≡ asked_afresh f (OnEvent e) s lane.0 no_filter)
      (sym refused) (law n.left.store.spans) in
      by_call laws with_own reloaded (SendEvent lane e)
      answer.Done f lane (OnEvent e) (refusals second) _ x y h refl n plan (stays_to f lane (OnEvent e) (registry x) n.left refl refl (λ r. refl) n.taken)

  -- and exactly so
  module _ (f : Form)
      (memory after : KeptCallsites) (x : S) (lane : Lane) (e : Event) (m : Metadata) (first : Pass) (same : m ≡ event_metadata e) (h : Honest f x) where
    -- what is wanted by its metadata is wanted where no leaf vetoes the event itself
    decided_whole : (said wanted : Bool) → IsDecided memory f (registry x) lane (event_metadata e)
        (vetoes f (event_metadata e) (registry x).store lane.0) said after → wanted ≡ said && not (vetoes_event f e (registry x).store lane.0)
        → IsDecided memory f (registry x) lane (event_metadata e) (vetoes_whole f e (registry x).store lane) wanted after
    decided_whole said wanted d so = record {
      agrees = d.agrees;
      wanted = so ∙ ap (λ b. b && not (vetoes_event f e (registry x).store lane.0)) d.wanted ∙ neither _ _ _;
      unwanted = d.unwanted;
      learned = d.learned;
    }
      where
        neither : (a b c : Bool) → (a && not b) && not c ≡ a && not (b || c)
        neither true true c = refl
        neither true false c = refl
        neither false b c = refl

    pub event_dropped_exactly : IsAdmitted memory f (registry x) lane m first after (Ok false)
        → AnswersWith (SendEvent lane e) memory f (registry x) answer.Dropped after
    event_dropped_exactly a = decided_whole false false (by_metadata f (registry x) lane m (event_metadata e) first memory after (Ok false) same a).0 refl

    pub event_unknown_exactly : (error : TraceError)
        → IsAdmitted memory f (registry x) lane m first after (Err error) → AnswersWith (SendEvent lane e) memory f (registry x) (answer.Refused error) after
    event_unknown_exactly error a = by_metadata f (registry x) lane m (event_metadata e) first memory after (Err error) same a

    -- let by by its metadata, and then by what the layers say of it
    event_asked_exactly : (second : Pass) (wanted : Bool)
        → AnswersEvent registry has_form x lane e first wanted second → IsAdmitted memory f (registry x) lane m first after (Ok true)
        → IsDecided memory f (registry x) lane (event_metadata e) (vetoes_whole f e (registry x).store lane) wanted after
    event_asked_exactly second wanted b a = decided_whole true wanted
        (by_metadata f (registry x) lane m (event_metadata e) first memory after (Ok true) same a).0 (wanted_or_vetoed f x lane e first second wanted h b)

    pub event_vetoed_exactly : (second : Pass) (wanted : Bool) → wanted ≡ false → AnswersEvent registry has_form x lane e first wanted second
        → IsAdmitted memory f (registry x) lane m first after (Ok true) → AnswersWith (SendEvent lane e) memory f (registry x) answer.Dropped after
    event_vetoed_exactly second wanted no_one b a =
        subst (λ w. IsDecided memory f (registry x) lane (event_metadata e) (vetoes_whole f e (registry x).store lane) w after)
        no_one (event_asked_exactly second wanted b a)

    pub event_made_exactly : (second : Pass) (wanted : Bool) → wanted ≡ true → AnswersEvent registry has_form x lane e first wanted second
        → IsAdmitted memory f (registry x) lane m first after (Ok true) → AnswersWith (SendEvent lane e) memory f (registry x) answer.Done after
    event_made_exactly second wanted agreed b a =
        subst (λ w. IsDecided memory f (registry x) lane (event_metadata e) (vetoes_whole f e (registry x).store lane) w after)
        agreed (event_asked_exactly second wanted b a)

  -- ---- enters, exits, and what else is said of a span

  -- who is notified of all else is who is notified afresh, since the spans are as before
  kept_plan : (f : Form) (e : Notice) (x : S) (lane : Lane) (spans : Spans)
      → spans ≡ (registry x).store.spans → by_pass f e (registry x).store.spans no_filter no_filter ≡ asked_afresh f e (registry x).store lane.0 no_filter
      → by_pass f e spans no_filter no_filter ≡ asked_afresh f e (registry x).store lane.0 no_filter
  kept_plan f e x lane spans same law = ap (λ v. by_pass f e v no_filter no_filter) same ∙ law

  pub entered_so : (lane : Lane) (id : Id) (r : Result (Unit {0}) TraceError) (f : Form) (x y : S) → OnOk r
      (Notifies registry has_form stepped lane no_filter (OnEnter id) (Enters lane id) x y) → IfErr r (RefusesEnter (registry x) lane id) → OnErr r (y ≡ x)
      → Honest f x → Done laws with_own reloaded (Enter lane id) (done_answer r) f x y
  entered_so lane id (Ok u) f x y n r e h =
      by_call laws with_own reloaded (Enter lane id) answer.Done f lane (OnEnter id) no_filter _ x y h refl
      n (kept_plan f (OnEnter id) x lane _ (ap (λ (t : RegistryState). t.store.spans) n.taken.state)
      (others_afresh f (OnEnter id) (registry x).store lane.0 no_filter no_filter)) (enters_to f lane id (registry x) n.left n.taken)
  entered_so lane id (Err error) f x y n r e h = by_none laws with_own reloaded (Enter lane id) (answer.Refused error) f x y h e refl

  pub enter_exactly : {A : Type 0} (lane : Lane) (id : Id) (r : Result A TraceError) (f : Form) (memory : KeptCallsites) (s : RegistryState)
      → IfErr r (RefusesEnter s lane id) → AnswersWith (Enter lane id) memory f s (done_answer r) memory
  enter_exactly lane id (Ok u) f memory s r = (refl, tt)
  enter_exactly lane id (Err e) f memory s r = (refl, r)

  pub left_so : (lane : Lane) (id : Id) (f : Form) (x y : S) → IsOpen (registry x).store.spans (number_of id) → Notifies registry
      has_form stepped lane no_filter (OnExit id) (Exits lane id) x y → Honest f x → Done laws with_own reloaded (Exit lane id) answer.Done f x y
  left_so lane id f x y there n h =
      by_call laws
      with_own reloaded (Exit lane id) answer.Done f lane (OnExit id) no_filter _ x y h (record { there = λ o. refl; gone = λ shut. absurd (shut there) })
      n (kept_plan f (OnExit id) x lane _ (ap (λ (t : RegistryState). t.store.spans) n.taken)
      (others_afresh f (OnExit id) (registry x).store lane.0 no_filter no_filter)) (leaves_to f lane id (registry x) n.left there n.taken)

  pub gone_so : ((s : S) (w : RegistryState) → registry (with_registry s w) ≡ w) → (lane : Lane) (id : Id) (f : Form) (x : S) (w : RegistryState)
      → ¬ (IsOpen (registry x).store.spans (number_of id)) → Exits lane id (registry x) w → Honest f x
      → Done laws with_own reloaded (Exit lane id) answer.Done f x (with_registry x w)
  gone_so registry_with lane id f x w shut e h =
      by_change laws
      with_own reloaded (Exit lane id) answer.Done f (GoneLeft lane id) x (with_registry x w) h (record { there = λ o. absurd (shut o); gone = λ s. refl })
      (exited (registry x).store lane.0 (number_of id)) (shut, refl)
      (registry_with x w ∙ e) (its_own laws with_own reloaded registry_with x w) (filters_same (registry_with x w ∙ e))
      (λ s. subst (λ (t : RegistryState). HasNoClosing t.store.spans)
      (sym (registry_with x w)) (subst HasNoClosing (sym (ap (λ (t : RegistryState). t.store.spans) e)) s))

  pub recorded_so : (lane : Lane) (id : Id) (values : Record) (f : Form) (x y : S)
      → IsOpen (registry x).store.spans (number_of id) → Notifies registry has_form stepped lane no_filter (OnRecord id values) Stays x y → Honest f x
      → Done laws with_own reloaded (RecordValues lane id values) answer.Done f x y
  recorded_so lane id values f x y there n h =
      by_call laws with_own reloaded (RecordValues lane id values) answer.Done f lane (OnRecord id values) no_filter _ x y h refl
      n (kept_plan f (OnRecord id values)
      x lane _ (ap (λ (t : RegistryState). t.store.spans) n.taken) (others_afresh f (OnRecord id values) (registry x).store lane.0 no_filter no_filter))
      (stays_to f lane (OnRecord id values) (registry x) n.left (there, refl) refl (λ r. refl) n.taken)

  pub followed_so : (lane : Lane) (id other : Id) (f : Form) (x y : S)
      → IsOpen (registry x).store.spans (number_of id) → Notifies registry has_form stepped lane no_filter (OnFollows id other) Stays x y → Honest f x
      → Done laws with_own reloaded (Follow lane id other) answer.Done f x y
  followed_so lane id other f x y there n h =
      by_call laws with_own reloaded (Follow lane id other) answer.Done f lane (OnFollows id other) no_filter _ x y h refl
      n (kept_plan f (OnFollows id other)
      x lane _ (ap (λ (t : RegistryState). t.store.spans) n.taken) (others_afresh f (OnFollows id other) (registry x).store lane.0 no_filter no_filter))
      (stays_to f lane (OnFollows id other) (registry x) n.left (there, refl) refl (λ r. refl) n.taken)

  -- ---- handles

  pub cloned_so : (lane : Lane) (id : Id) (r : Result Id TraceError) (f : Form) (x y : S)
      → OnOk r (Clones id (registry x) (registry y)) → y ≡ with_registry x (registry y) → IfErr r (RefusesClone (registry x) id) → OnErr r (y ≡ x)
      → Honest f x → Done laws with_own reloaded (AddHandle lane id) (done_answer r) f x y
  cloned_so lane id (Ok other) f x y n rest r e h =
      by_change laws with_own reloaded (AddHandle lane id) answer.Done f (HandleAdded id) x y h refl
      (record (registry x).store { spans = add_handle (registry x).store.spans (number_of id) }) (n.is_open, refl)
      n.state rest (filters_same n.state) (settled_cloned id (registry x) (registry y) n)
  cloned_so lane id (Err error) f x y n rest r e h = by_none laws with_own reloaded (AddHandle lane id) (answer.Refused error) f x y h e refl

  pub clone_exactly : (lane : Lane) (id : Id) (r : Result Id TraceError) (f : Form) (memory : KeptCallsites) (s : RegistryState)
      → IfOk r (λ other. handles_of s.store.spans (number_of id) < s.limits.count)
      → IfErr r (RefusesClone s id) → AnswersWith (AddHandle lane id) memory f s (done_answer r) memory
  clone_exactly lane id (Ok other) f memory s room r = (refl, room)
  clone_exactly lane id (Err e) f memory s room r = (refl, r)

  pub still_open_so : ((s : S) (w : RegistryState) → registry (with_registry s w) ≡ w) → (lane : Lane) (id : Id)
      (a : Released) (f : Form) (x : S) (w : RegistryState) → Releases id a (registry x) w → a ≡ StillOpen → IsForest (registry x).store.spans → Ready f x
      → Done laws with_own reloaded (DropHandle lane id) (answer.Yes false) f x (with_registry x w)
  still_open_so registry_with lane id a f x w r same forest h =
      let drops = drops_open forest h.settled r same in
      by_change laws with_own reloaded (DropHandle lane id) (answer.Yes false) f (HandleTaken id) x (with_registry x w) h.honest
      (record { closed = []; exact = drops.closes; outcomes = refl; itself = (λ t. absurd (true≢false (sym t)), λ n. absurd n) })
      (record (registry x).store { spans = take_handle (registry x).store.spans (number_of id) }) (r.held, refl)
      (registry_with x w ∙ r.state) (its_own laws with_own reloaded registry_with x w) (filters_same (registry_with x w ∙ r.state))
      (λ s. subst (λ (t : RegistryState). HasNoClosing t.store.spans) (sym (registry_with x w)) (settled_still s r same))

  -- ---- closes

  -- all that closes by a drop closes
  pub closed_so : ((s : S) (w : RegistryState) → registry (with_registry s w) ≡ w) → (lane : Lane) (id : Id)
      (a : Released) (f : Form) (x y : S) (w : RegistryState) → Releases id a (registry x) w → a ≡ Closing → IsForest (registry x).store.spans
      → ClosesEach registry with_registry has_form stepped reloaded lane id (with_registry x w) y
      → Ready f x → Done laws with_own reloaded (DropHandle lane id) (answer.Yes true) f x y
  closed_so registry_with lane id a f x y w r same forest k h =
      let z = with_registry x w in
      let t : Store = record (registry x).store { spans = take_handle (registry x).store.spans (number_of id) } in
      let m : OutcomeAt = record { form = f; before = (registry x).store; after = t; outcome = Quiet (HandleTaken id) } in
      let rest = its_own laws with_own reloaded registry_with x w in
      let after = honest_quietly laws with_own reloaded f x z h.honest rest (filters_same (registry_with x w ∙ r.state)) in
      let notices = k.notices after.0 after.1 in
      let release : Releases id Closing (registry x) (registry z) =
      subst (λ t. Releases id Closing (registry x) t) (sym (registry_with x w)) (subst (λ b. Releases id b (registry x) w) same r) in
      let all : ClosesAll SameButExtensions (registry x) id k.closed (registry y) =
      record { released = registry z; is_forest = forest; settled = h.settled; release = release; removal = k.removal } in
      let drops = (closes_with_hooks (registry x) (registry y) id k.closed all).taken in
      let itself = closes_itself id (registry x) (registry z) k.closed release drops.closes in (
        (
          m ∷ notices.0,
          record {
            says = record {
              closed = k.closed;
              exact = drops.closes;
              outcomes = ap (λ os. Quiet (HandleTaken id) ∷ os) notices.2;
              itself = (λ _. itself, λ _. refl);
            };
            goes = (z, changed laws with_own reloaded f (HandleTaken id) x z t h.honest (r.held, refl) (registry_with x w ∙ r.state) rest, notices.1);
          },
        ),
        λ s. (
          notices.3.0,
          record { honest = notices.3.1; settled = settled_closed (registry x) (registry y) id k.closed all },
          keeps_again f after.0 notices.3.0 after.2 notices.3.2,
          notices.3.3 ∙ after.3,
        ),
      )

  -- so far these spans have closed, and this one is closing now
  pub record SoFar (lane : Lane) (id : Id) (x : S) (xs : List ℕ) (next : Option Id) (y : S) : Type 0 where
    pub removal : Removal SameButExtensions (registry x) id xs next (registry y)
    pub notices : (f : Form) → IsHonest registry with_registry has_form stepped reloaded f x
        → (made : List OutcomeAt) × FoldsTo (Makes registry with_registry has_form stepped reloaded) x made y × (map outcome_of made ≡ closes_of lane xs)
        × ((g : Form) × IsHonest registry with_registry has_form stepped reloaded g y × KeepsForm f g × ((registry y).filters ≡ (registry x).filters))

  pub nothing_yet : (lane : Lane) (id : Id) (x : S) → SoFar lane id x [] (Some id) x
  nothing_yet lane id x = record { removal = Begun; notices = λ f h. ([], refl, refl, (f, h, kept_form f, refl)) }

  closes_more : (lane : Lane) (xs : List ℕ) (x : ℕ) → closes_of lane (xs ++ (x ∷ [])) ≡ closes_of lane xs ++ (Noticed lane (OnClose (id_of x)) ∷ [])
  closes_more lane [] x = refl
  closes_more lane (y ∷ ys) x = ap (λ (os : List Outcome). Noticed lane (OnClose (id_of y)) ∷ os) (closes_more lane ys x)

  outcomes_more : (ms : List OutcomeAt) (m : OutcomeAt) → map outcome_of (ms ++ (m ∷ [])) ≡ map outcome_of ms ++ (m.outcome ∷ [])
  outcomes_more [] m = refl
  outcomes_more (n ∷ ms) m = ap (λ (os : List Outcome). n.outcome ∷ os) (outcomes_more ms m)

  folds_more : (x : S) (ms : List OutcomeAt) (y : S) (m : OutcomeAt) (z : S) → FoldsTo (Makes registry with_registry has_form stepped reloaded) x ms y
      → Makes registry with_registry has_form stepped reloaded y m z → FoldsTo (Makes registry with_registry has_form stepped reloaded) x (ms ++ (m ∷ [])) z
  folds_more x [] y m z p q = (z, subst (λ w. Makes registry with_registry has_form stepped reloaded w m z) (sym p) q, refl)
  folds_more x (n ∷ ms) y m z p q = (p.0, p.1, folds_more p.0 ms y m z p.2 q)

  -- the span that is next is closing
  pub is_next : (lane : Lane) (id : Id) (x : S) (xs : List ℕ) (o : Option Id) (y : S) (span : Id)
      → IsClosing (registry x).store.spans (number_of id) → SoFar lane id x xs o y → o ≡ Some span → IsClosing (registry y).store.spans (number_of span)
  is_next lane id x xs o y span k c same =
      subst (λ (o : Option Id). IfSome o (λ p. IsClosing (registry y).store.spans (number_of p)))
      same (next_is_closing SameButExtensions (registry x) id (λ s t b. b) k c.removal)

  -- one span more closes: all are notified of it, and then it is taken out
  pub one_more : ((s : S) (w : RegistryState) → registry (with_registry s w) ≡ w) → (lane : Lane) (id : Id)
      (x : S) (xs : List ℕ) (o : Option Id) (y z : S) (span : Id) (w : RegistryState) (next : Option Id) → IsClosing (registry x).store.spans (number_of id)
      → SoFar lane id x xs o y → o ≡ Some span → Notifies registry has_form stepped lane no_filter (OnClose span) Stays y z
      → Removes span next (registry z) w → SoFar lane id x (xs ++ (number_of span ∷ [])) next (with_registry z w)
  one_more registry_with lane id x xs o y z span w next k c same n r =
      let u = with_registry z w in
      let aside : SameButExtensions (registry y) (registry z) = hooks_alone n in
      let closing = is_next lane id x xs o y span k c same in
      let removes : Removes span next (registry z) (registry u) = subst (λ t. Removes span next (registry z) t) (sym (registry_with z w)) r in
      record {
        removal = Removed (Between (subst (λ (p : Option Id). Removal SameButExtensions (registry x) id xs p (registry y)) same c.removal) aside) removes;
        notices = λ f h.
            let before = c.notices f h in
            let g = before.3.0 in
            let plan = ap (λ v. by_pass g (OnClose span) v no_filter no_filter) (ap (λ (t : RegistryState). t.store.spans) n.taken)
            ∙ others_afresh g (OnClose span) (registry y).store lane.0 no_filter no_filter in
            let t = without_span (registry y).store (number_of span) in
            let notice : Notices registry with_registry has_form stepped reloaded g lane (OnClose span) (registry y).store t y u = record {
              left = n.left;
              given = n.taken;
              notified = z;
              layers =
                  subst (λ p. stepped y p (OnClose span) lane.0 n.left z (registry z)) plan (n.notified g before.3.1.has (rules_of g _ before.3.1.rules).still);
              hooks = with_others n.extensions;
              ends = ended_by span (registry z) (registry u) removes.taken;
              rest = ap (λ t. with_registry z t) (sym (registry_with z w));
            } in
            let last =
            honest_after laws with_own reloaded g lane (OnClose span) (registry y).store t y u before.3.1 notice (removes.taken.filters ∙ aside.filters) in
            let m : OutcomeAt = record { form = g; before = (registry y).store; after = t; outcome = Noticed lane (OnClose span) } in (
              before.0 ++ (m ∷ []),
              folds_more x before.0 y m u before.1 (record { honest = before.3.1; before = refl; steps = (closing, refl); layers = notice }),
              outcomes_more before.0 m ∙ ap (λ os. os ++ (m.outcome ∷ [])) before.2 ∙ sym (closes_more lane xs (number_of span)),
              (last.0, last.1, keeps_again f g last.0 before.3.2 last.2, last.3 ∙ before.3.3),
            );
      }

  pub all_closed : (lane : Lane) (id : Id) (x : S) (xs : List ℕ) (o : Option Id) (y : S)
      → SoFar lane id x xs o y → o ≡ None → ClosesEach registry with_registry has_form stepped reloaded lane id x y
  all_closed lane id x xs o y c same = record {
    closed = xs;
    removal = subst (λ (p : Option Id). Removal SameButExtensions (registry x) id xs p (registry y)) same c.removal;
    notices = c.notices;
  }

  -- ---- a stack that is put in use

  pub used_so : (f : Form) (x y : S) → registered x y → registry y ≡ registry x → Ready f x → StillReady laws with_own reloaded f x y
  used_so f x y used same h =
      let next = laws.put_in_use x y f used h.honest.has in (
        next.0,
        record {
          honest = record {
            has = next.1;
            rules = subst (λ n. IsHonestStack next.0 n)
                (sym (ap (λ (s : RegistryState). s.filters) same)) (honesty_is_kept f next.0 (registry x).filters (kept_rules f next.0 next.2) h.honest.rules);
          };
          settled = subst (λ (s : RegistryState). HasNoClosing s.store.spans) (sym same) h.settled;
        },
        next.2,
        ap (λ (s : RegistryState). s.filters) same,
      )
