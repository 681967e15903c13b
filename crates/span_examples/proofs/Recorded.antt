-- A recorder under a level: what it keeps of a list of requests.
use Rattle.std.proofs.Common.{inl, inr, ◌<◌, arith, ◌≡◌, ◌∙◌, Bool, true, false, List, [], ◌∷◌, ◌++◌, None, Some, ap, map, refl, subst, sym, ℕ, ◌+◌, ◌≤◌, ◌&&◌}
use Rattle.std.proofs.lemmas.Bool.{false≢true, true≢false}
use Rattle.std.proofs.lemmas.List.{append-nil, map-append}
use Rattle.std.specs.Prelude.{if◌then◌else◌, ⊤}
use Rattle.std.specs.declared.alloc.Global.{Global}
use Rattle.std.specs.declared.vec.Vec.{Vec}
use Rattle.span_core.specs.Event.{event_metadata}
use Rattle.span_core.specs.Filters.{FilterSet}
use Rattle.span_core.specs.Level.{passes_level}
use Rattle.span_core.specs.Metadata.{level_of}
use Rattle.span_core.specs.Span.{metadata_of}
use Rattle.span_core.specs.declared.event.Event.{Event}
use Rattle.span_core.specs.declared.filter.TheConstants.FilterId.{LIMIT}
use Rattle.span_core.specs.declared.level.LevelFilter.{LevelFilter}
use Rattle.span_core.specs.declared.metadata.Metadata.{Metadata}
use Rattle.span_core.specs.declared.span.Attributes.{Attributes}
use Rattle.span_core.specs.declared.span.Id.{Id}
use Rattle.span_core.specs.declared.span.Lane.{Lane}
use Rattle.span_dispatch.proofs.CallerLemmas.{event_asked, event_served, heard_records, known_unkept, next_served, none_served, seen_append, span_asked}
use Rattle.span_dispatch.proofs.CallerLemmas.{span_served, unkept_still, vetoed_unkept}
use Rattle.span_dispatch.specs.Call.{vetoes_whole}
use Rattle.span_dispatch.specs.Outcome.{LayersGo, Reloaded, OutcomeAt, Makes, Noticed, Outcome, Quiet}
use Rattle.span_dispatch.specs.Recorder.{RecorderState, Records, kept_notice, new_recorder, recorder_steps}
use Rattle.span_dispatch.specs.Cache.{KeptCallsites}
use Rattle.span_dispatch.specs.Alone.{passed, passed_at}
use Rattle.span_dispatch.specs.Serve.{IsReady, Run, Served, flat, kept_by, stack_of}
use Rattle.span_dispatch.specs.private.Step.{ServesRequest}
use Rattle.span_dispatch.specs.declared.dispatch.Dispatch.{Dispatch}
use Rattle.span_dispatch.specs.declared.recorded.Recorded.{Recorded as KeptNotice}
use Rattle.span_dispatch.specs.declared.request.Answer.TheVariants as answer
use Rattle.span_dispatch.specs.declared.request.Answer.{Answer}
use Rattle.span_dispatch.specs.declared.request.Request.TheVariants as request
use Rattle.span_dispatch.specs.declared.request.Request.{Request}
use Rattle.span_dispatch.specs.declared.request.WhichParent.{WhichParent}
use Rattle.span_filters.specs.Filter.{settled_answers, unmoved}
use Rattle.span_filters.specs.Level.{level_answers, level_taken}
use Rattle.span_filters.specs.laws.Level.{level_honest}
use Rattle.span_store.specs.Closes.{HasNoClosing}
use Rattle.span_stacks.specs.Filtered.{FilteredSteps, Hooked, IsNumber, IsUnnumbered, filter_of, id_of, layer_of}
use Rattle.span_stacks.proofs.CallerLemmas.{bare_stands, stands_on}
use Rattle.span_stacks.specs.Attach.{Attaches}
use Rattle.span_stacks.specs.Honest.{IsHonestLayer, IsHonestStack}
use Rattle.span_layers.specs.Layer.{HearsBy, LayerSteps}
use Rattle.span_stacks.specs.Layered.{inner_of, outer_of, with_inner}
use Rattle.span_layers.specs.Number.{TakesNumbers, filters_in}
use Rattle.span_layers.specs.Observe.{open_answers}
use Rattle.span_stacks.specs.Stands.{another, base_form, bare_hears, bare_steps, filtered_form, filtered_hears, filtered_reloads, filtered_steps, itself}
use Rattle.span_stacks.specs.Stands.{stack_form, stack_hears, stack_reloads, stack_steps}
use Rattle.span_store.specs.Store.{RegistryState, Store, new_registry}
use Rattle.span_stacks.specs.Verdict.{NumbersStayOwn, vetoes}
use Rattle.span_stacks.specs.declared.filtered.Filtered.{Filtered as FilteredLayer}
use Rattle.span_layers.specs.laws.Leaf.{open_honest}
use Rattle.span_store.specs.declared.limits.Limits.{Limits}
use Rattle.span_registry.specs.Reload.{ReloadSteps, unreloaded}
use Rattle.span_registry.specs.Path.{path_at}
use Rattle.span_registry.proofs.CallerLemmas.{settled_new}
use Rattle.span_registry.specs.Behaviour.{Notice, OnClose, OnEnter, OnEvent, OnExit, OnFollows, OnIdChange, OnNewSpan, OnRecord}
use Rattle.span_registry.specs.Conducts.{ActsAt}
use Rattle.span_registry.specs.Form.{Terminal, Base, Filtered, Form, Leaf, OnSubscriber, Parts}
use Rattle.span_registry.specs.Hooks.{StackSteps}
use Rattle.span_registry.specs.Position.{HearSteps, Here, Outer, Position, Told, Under, told_in}
use Rattle.span_registry.specs.Plan.{Itself, Nobody, Through}
use Rattle.span_examples.proofs.Level.{leaf_under}
use Rattle.span_examples.specs.Dispatches.{IsMadeOrRefused, KeepsWhatPasses, Recorded, kept_event, kept_of, kept_span, recorder_of}

-- ---- this form

-- the form of the stack
abbrev pub form_of : LevelFilter → ℕ → Form
form_of level n = Parts OnSubscriber (Filtered (Some n) (level_answers level) (Leaf true open_answers)) (Terminal Base)

abbrev UnderLevel : FilteredLayer RecorderState LevelFilter → Form → Type 0
UnderLevel = filtered_form (settled_answers level_answers) (λ r f. f ≡ Leaf true open_answers)

abbrev pub HasForm : Recorded → Form → Type 0
HasForm = stack_form UnderLevel base_form

-- how its parts go on, as their types say
abbrev under_level : LayerSteps (FilteredLayer RecorderState LevelFilter)
under_level = filtered_steps unmoved recorder_steps

abbrev pub recorded_steps : StackSteps Recorded
recorded_steps = stack_steps another under_level bare_steps

-- and where a level is set
abbrev pub recorded_levels : ReloadSteps Recorded
recorded_levels = stack_reloads (filtered_reloads level_taken unreloaded) unreloaded

-- what its leaf hears
abbrev pub recorded_hears : HearSteps Recorded
recorded_hears = stack_hears (filtered_hears (HearsBy recorder_steps)) bare_hears

-- where the recorder stands
abbrev pub position : Position
position = Outer (Under Here)

-- its filter is this level, and has a number
pub record IsUnder (level : LevelFilter) (x : FilteredLayer RecorderState LevelFilter) : Type 0 where
  pub number : (n : ℕ) × IsNumber (id_of x) (Some n)
  pub own : filter_of x ≡ level

stays_under : (level : LevelFilter) (x y : FilteredLayer RecorderState LevelFilter)
    → id_of y ≡ id_of x → filter_of y ≡ filter_of x → IsUnder level x → IsUnder level y
stays_under level x y id own h = record { number = (h.number.0, subst (λ i. IsNumber i (Some h.number.0)) (sym id) h.number.1); own = own ∙ h.own }

-- so that is its form
formed : (level : LevelFilter) (x : Recorded) (f : Form) → IsUnder level (outer_of x) → HasForm x f → (n : ℕ) × (f ≡ form_of level n)
formed level x (Parts k (Filtered (Some n) a g) i) u h = (n, λ j. Parts (h.0 j) (Filtered (Some n) ((h.1.1 ∙ ap level_answers u.own) j) (h.1.2 j)) (h.2 j))
formed level x (Parts k (Filtered None a g) i) u h = absurd (true≢false (sym u.number.1.0 ∙ h.1.0))
formed level x (Parts k (Leaf still a) i) u h = absurd h.1
formed level x (Parts k (Parts l o p) i) u h = absurd h.1
formed level x (Parts k (Terminal v) i) u h = absurd h.1
formed level x (Leaf still a) u h = absurd h
formed level x (Filtered n a g) u h = absurd h
formed level x (Terminal v) u h = absurd h

-- ---- how it goes on

stays : (e : Notice) (f g : LevelFilter) (lane : ℕ) (under : FilterSet) (v w : RegistryState) → Hooked unmoved f e lane under v g w → g ≡ f
stays (OnNewSpan attrs id) f g lane under v w h = h.0
stays (OnRecord id values) f g lane under v w h = h.0
stays (OnFollows id other) f g lane under v w h = h.0
stays (OnEvent e) f g lane under v w h = h.0
stays (OnEnter id) f g lane under v w h = h.0
stays (OnExit id) f g lane under v w h = h.0
stays (OnIdChange id other) f g lane under v w h = h.0
stays (OnClose id) f g lane under v w h = h.0

filter_stays : (passes : Bool) (e : Notice) (x y : FilteredLayer RecorderState LevelFilter) (lane : ℕ) (under : FilterSet) (v w : RegistryState)
    → FilteredSteps unmoved recorder_steps
    (id_of x) (filter_of x) (layer_of x) (if passes then Through Itself else Nobody) e lane under v (filter_of y) (layer_of y) w → filter_of y ≡ filter_of x
filter_stays true e x y lane under v w h = stays e _ _ _ _ _ _ h.filter
filter_stays false e x y lane under v w h = h.0

-- no level was set
abbrev IsNoReload : Outcome → Type 0
IsNoReload (Reloaded n l) = ⊥
IsNoReload o = ⊤

-- whatever is made of the stack, unless its level is set, its filter stays
goes_under : (level : LevelFilter) (f : Form) (o : Outcome) (s t : Store) (x y : Recorded) → IsNoReload o
    → IsUnder level (outer_of x) → HasForm x f → LayersGo inner_of with_inner HasForm recorded_steps recorded_levels f o s t x y → IsUnder level (outer_of y)
goes_under level f (Noticed lane e) s t x y none u has n =
    let form = formed level x f u has in
    let goes = subst (λ g. LayersGo inner_of with_inner HasForm recorded_steps recorded_levels g (Noticed lane e) s t x y) form.1 n in
    let outer = goes.layers.second in
    stays_under level (outer_of x) (outer_of y) (ap (λ (z : Recorded). id_of (outer_of z)) goes.rest ∙ outer.0)
    (ap (λ (z : Recorded). filter_of (outer_of z)) goes.rest ∙ filter_stays _ e (outer_of x) (outer_of goes.notified) lane.0 _ _ _ outer.1) u
goes_under level f (Reloaded n l) s t x y none u has q = absurd none
goes_under level f (Quiet c) s t x y none u has quiet =
    stays_under level (outer_of x) (outer_of y) (ap (λ (z : Recorded). id_of (outer_of z)) quiet.1) (ap (λ (z : Recorded). filter_of (outer_of z)) quiet.1) u

-- ---- what the recorder keeps

-- what it keeps of what was made
abbrev pub kept_from : List OutcomeAt → List KeptNotice
kept_from made = map kept_notice (passed_at position made)

kept_append : (ms ns : List OutcomeAt) → kept_from (ms ++ ns) ≡ kept_from ms ++ kept_from ns
kept_append ms ns = ap (map kept_notice) (seen_append position ms ns) ∙ map-append kept_notice (passed_at position ms) (passed_at position ns)

-- of what the level passes, and the leaf then passes too
by_level : (b : Bool) (one : Told) → map kept_notice ((if b && true then one ∷ [] else []) ++ []) ≡ (if b then kept_notice one ∷ [] else [])
by_level true one = refl
by_level false one = refl

by_level_twice : (b : Bool) (one : Told) → map kept_notice ((if (b && true) && true then one ∷ [] else []) ++ []) ≡ (if b then kept_notice one ∷ [] else [])
by_level_twice true one = refl
by_level_twice false one = refl

-- a request was served: the recorder keeps this of it, and its filter stays
pub record Keeps (level : LevelFilter) (due : List KeptNotice) (made : List OutcomeAt) (y : Recorded) : Type 0 where
  pub keeps : kept_from made ≡ due
  pub under : IsUnder level (outer_of y)

abbrev MakesOne : Recorded → OutcomeAt → Recorded → Type 0
MakesOne = Makes inner_of with_inner HasForm recorded_steps recorded_levels

kept_new : (level : LevelFilter) (lane : Lane) (m : Metadata) (x : Recorded) → IsUnder level (outer_of x) → (id : Id) (attrs : Attributes)
    (one : OutcomeAt) (z : Recorded) → metadata_of attrs ≡ m → one.outcome ≡ Noticed lane (OnNewSpan attrs id) → MakesOne x one z
    → Keeps level (kept_span level lane m (answer.Made id)) (one ∷ []) z
kept_new level lane m x u id attrs one z same is made =
    let form = formed level x one.form u made.honest.has in
    let seen_so : kept_from (one ∷ [])
    ≡ map kept_notice (passed (path_at (form_of level form.0) position) (Noticed lane (OnNewSpan attrs id)) one.before one.after ++ []) =
    λ j. map kept_notice (passed (path_at (form.1 j) position) (is j) one.before one.after ++ []) in
    record {
      keeps = seen_so ∙ by_level (passes_level level (level_of (metadata_of attrs))) (told_in (OnNewSpan attrs id) one.after lane.0 _)
          ∙ ap (λ k. kept_span level lane k (answer.Made id)) same;
      under = goes_under level one.form one.outcome one.before one.after x z (subst IsNoReload (sym is) tt) u made.honest.has made.layers;
    }

kept_sent : (level : LevelFilter) (lane : Lane) (m : Metadata) (x : Recorded) → IsUnder level (outer_of x)
    → (e : Event) (one : OutcomeAt) (z : Recorded) → event_metadata e ≡ m → one.outcome ≡ Noticed lane (OnEvent e) → MakesOne x one z
    → Keeps level (kept_event level lane m) (one ∷ []) z
kept_sent level lane m x u e one z same is made =
    let form = formed level x one.form u made.honest.has in
    let seen_so : kept_from (one ∷ [])
    ≡ map kept_notice (passed (path_at (form_of level form.0) position) (Noticed lane (OnEvent e)) one.before one.after ++ []) =
    λ j. map kept_notice (passed (path_at (form.1 j) position) (is j) one.before one.after ++ []) in
    record {
      keeps = seen_so
          ∙ by_level_twice (passes_level level (level_of (event_metadata e))) (told_in (OnEvent e) one.after lane.0 _) ∙ ap (λ k. kept_event level lane k) same;
      under = goes_under level one.form one.outcome one.before one.after x z (subst IsNoReload (sym is) tt) u made.honest.has made.layers;
    }

abbrev ServesOne : List Answer → Request → Recorded → Answer → List OutcomeAt → KeptCallsites → Recorded → Type 0
ServesOne past r x a made after y = ServesRequest inner_of with_inner HasForm recorded_steps recorded_levels past r None x a made after y

-- nobody in this stack vetoes
never_vetoed : (level : LevelFilter) (x : Recorded) (f : Form) (m : Metadata) (lane : Lane)
    → IsUnder level (outer_of x) → HasForm x f → vetoes f m (inner_of x).store lane.0 ≡ true → ⊥
never_vetoed level x f m lane u has h =
    let form = formed level x f u has in
    false≢true (subst (λ g. vetoes g m (inner_of x).store lane.0 ≡ true) form.1 h)

never_vetoed_whole : (level : LevelFilter) (x : Recorded) (f : Form) (e : Event) (lane : Lane)
    → IsUnder level (outer_of x) → HasForm x f → vetoes_whole f e (inner_of x).store lane ≡ true → ⊥
never_vetoed_whole level x f e lane u has h =
    let form = formed level x f u has in
    false≢true (subst (λ g. vetoes_whole g e (inner_of x).store lane ≡ true) form.1 h)

keeps_span : (level : LevelFilter) (past : List Answer) (lane : Lane) (m : Metadata)
    (p : WhichParent) (values : _) (x : Recorded) (a : Answer) (made : List OutcomeAt) (after : KeptCallsites) (y : Recorded) → IsUnder level (outer_of x)
    → ServesOne past (request.NewSpan lane m p values) x a made after y → IsMadeOrRefused a × Keeps level (kept_span level lane m a) made y × (after ≡ None)
keeps_span level past lane m p values x a made after y u h =
    span_served inner_of with_inner HasForm recorded_steps
    recorded_levels past lane m p values None x a made after y (λ b ms k z. IsMadeOrRefused b × Keeps level (kept_span level lane m b) ms z × (k ≡ None))
    (λ id attrs f one k z asks decided is made. (
      tt,
      kept_new level lane m x u id attrs one z (span_asked past lane lane m p values attrs asks).1 is made,
      unkept_still f (inner_of x) lane (metadata_of attrs) _ true k decided,
    ))
    (λ attrs f k asks ready dropped.
    absurd (never_vetoed level x f (metadata_of attrs) lane u ready.honest.has (vetoed_unkept f (inner_of x) lane (metadata_of attrs) _ k dropped)))
    (λ attrs e f k asks refused. (
      tt,
      record { keeps = refl; under = u },
      elim refused [
        | inl unknown ↦ absurd (known_unkept f (metadata_of attrs) e k unknown)
        | inr room ↦ unkept_still f (inner_of x) lane (metadata_of attrs) _ true k room.0
      ],
    )) h

keeps_event : (level : LevelFilter) (past : List Answer) (lane : Lane) (m : Metadata)
    (p : WhichParent) (values : _) (x : Recorded) (a : Answer) (made : List OutcomeAt) (after : KeptCallsites) (y : Recorded) → IsUnder level (outer_of x)
    → ServesOne past (request.Event lane m p values) x a made after y → (a ≡ answer.Done) × Keeps level (kept_event level lane m) made y × (after ≡ None)
keeps_event level past lane m p values x a made after y u h =
    event_served inner_of with_inner HasForm recorded_steps
    recorded_levels past lane m p values None x a made after y (λ b ms k z. (b ≡ answer.Done) × Keeps level (kept_event level lane m) ms z × (k ≡ None))
    (λ e f one k z asks decided is made. (
      refl,
      kept_sent level lane m x u e one z (event_asked past lane lane m p values e asks).1 is made,
      unkept_still f (inner_of x) lane (event_metadata e) _ true k decided,
    ))
    (λ e f k asks ready dropped.
    absurd (never_vetoed_whole level x f e lane u ready.honest.has (vetoed_unkept f (inner_of x) lane (event_metadata e) _ k dropped)))
    (λ e error f k asks unknown. absurd (known_unkept f (event_metadata e) error k unknown)) h

-- what is kept of two spans and an event
pub record KeepsThree (level : LevelFilter) (lane : Lane) (outer inner event : Metadata) (answers : List Answer) (made : List (List OutcomeAt)) : Type 0 where
  pub first : Answer
  pub second : Answer
  pub answered : answers ≡ first ∷ second ∷ answer.Done ∷ []
  pub spans : IsMadeOrRefused first × IsMadeOrRefused second
  pub keeps : kept_from (flat made) ≡ kept_of level lane outer inner event first second

three_kept : (ms ns os : List OutcomeAt) (a b c : List KeptNotice)
    → kept_from ms ≡ a → kept_from ns ≡ b → kept_from os ≡ c → kept_from (ms ++ (ns ++ (os ++ []))) ≡ a ++ (b ++ c)
three_kept ms ns os a b c f g h =
    kept_append ms (ns ++ (os ++ [])) ∙ (λ j. f j ++ (kept_append ns (os ++ []) ∙ (λ i. g i ++ (ap kept_from (append-nil os) ∙ h) i)) j)

pub keeps_three : (level : LevelFilter) (lane : Lane) (outer inner event : Metadata) (p q r : WhichParent)
    (us vs ws : _) (x : Recorded) (after : KeptCallsites) (y : Recorded) (answers : List Answer) (made : List (List OutcomeAt)) → IsUnder level (outer_of x)
    → Run inner_of with_inner HasForm recorded_steps
    recorded_levels [] (request.NewSpan lane outer p us ∷ request.NewSpan lane inner q vs ∷ request.Event lane event r ws ∷ []) answers made None x after y
    → KeepsThree level lane outer inner event answers made
keeps_three level lane outer inner event p q r us vs ws x after y answers made u =
    let second = request.NewSpan lane inner q vs in
    let third = request.Event lane event r ws in
    next_served inner_of with_inner HasForm recorded_steps
    recorded_levels [] (request.NewSpan lane outer p us) (second ∷ third ∷ []) answers made None x after y (KeepsThree level lane outer inner event)
    (λ a others ms rest i z s.
    let one = keeps_span level [] lane outer p us x a ms i z u s in
    next_served inner_of with_inner HasForm
    recorded_steps recorded_levels (a ∷ []) second (third ∷ []) others rest i z after y (λ bs nss. KeepsThree level lane outer inner event (a ∷ bs) (ms ∷ nss))
    (λ b more ns last j w t.
    let two = keeps_span level (a ∷ []) lane inner
    q vs z b ns j w one.1.under (subst (λ k. ServesRequest inner_of with_inner HasForm recorded_steps recorded_levels (a ∷ []) second k z b ns j w) one.2 t) in
    next_served inner_of with_inner HasForm
    recorded_steps recorded_levels (a ∷ b ∷ []) third [] more last j w after y (λ cs oss. KeepsThree level lane outer inner event (a ∷ b ∷ cs) (ms ∷ ns ∷ oss))
    (λ c none os end l v k.
    let three = keeps_event level (a ∷ b ∷ []) lane event r
    ws w c os l v two.1.under (subst (λ n. ServesRequest inner_of with_inner HasForm recorded_steps recorded_levels (a ∷ b ∷ []) third n w c os l v) two.2 k) in
    none_served inner_of with_inner HasForm recorded_steps
    recorded_levels (a ∷ b ∷ c ∷ []) none end l v after y (λ ds pss. KeepsThree level lane outer inner event (a ∷ b ∷ c ∷ ds) (ms ∷ ns ∷ os ∷ pss))
    (record {
      first = a;
      second = b;
      answered = (λ n. a ∷ b ∷ three.0 n ∷ []);
      spans = (one.0, two.0);
      keeps = three_kept ms ns os _ _ _ one.1.keeps two.1.keeps three.1.keeps;
    }))))

-- ---- at first

-- a new recorder under a level, on an empty registry
pub record Starts (level : LevelFilter) (x : Recorded) : Type 0 where
  pub ready : (f : Form) × IsReady inner_of with_inner HasForm recorded_steps recorded_levels f x
  pub under : IsUnder level (outer_of x)
  pub empty : layer_of (outer_of x) ≡ new_recorder

-- a leaf that wants everything keeps a stack honest, under a level too
level_layer : (level : LevelFilter) → IsHonestLayer (leaf_under (level_answers level))
level_layer level = inr (level_honest level, (refl, open_honest, λ t. record { enabled = λ m v. refl; event = λ e v. refl }))

-- it was put on that registry, and took the next number
pub starts : NumbersStayOwn → (level : LevelFilter) (l : Limits) (s : RegistryState) (recorder : RecorderState)
    (u : FilteredLayer RecorderState LevelFilter) (x : Recorded) → s ≡ new_registry l → recorder ≡ new_recorder → IsUnnumbered u recorder level
    → TakesNumbers (λ (t : RegistryState). t) (λ (t w : RegistryState). w) UnderLevel u s (outer_of x) (inner_of x)
    → ((f : Form) → UnderLevel u f → s.filters + filters_in f ≤ LIMIT)
    → (filter_of (outer_of x) ≡ filter_of u) × (layer_of (outer_of x) ≡ layer_of u) → Starts level x
starts law level l s recorder u x new empty unnumbered numbers room attached =
    let level_now = filter_of u in
    let g = leaf_under (level_answers level_now) in
    let put : Attaches itself another (λ t. ⊤) (λ y. ⊤) UnderLevel (λ y z. (filter_of z ≡ filter_of y) × (layer_of z ≡ layer_of y)) u s x =
    record { numbers = numbers; room = room; layer_as_it_was = attached; outer = tt; inner = tt } in
    let stood =
    stands_on law (λ t w. refl) (λ t w f h. h) g (Terminal Base) 0 u s x (unnumbered.id, refl, refl) (level_layer level_now) (bare_stands l s new) put in
    record {
      ready = (
        form_of level_now 0,
        record {
          honest = record { has = stood.has; rules = subst (IsHonestStack (form_of level_now 0)) (sym stood.filters) stood.rules };
          settled = subst HasNoClosing (sym (ap (λ (t : Store). t.spans) stood.empty)) (settled_new l);
        },
      );
      under = record { number = (0, stood.has.1.0); own = attached.0 ∙ unnumbered.own };
      empty = attached.1 ∙ unnumbered.inner ∙ empty;
    }

-- on an empty registry its filter took the number 0
pub starts_first : (law : NumbersStayOwn) → (level : LevelFilter) (l : Limits) (s : RegistryState) (recorder : RecorderState)
    (u : FilteredLayer RecorderState LevelFilter) (x : Recorded) → s ≡ new_registry l → recorder ≡ new_recorder → IsUnnumbered u recorder level
    → TakesNumbers (λ (t : RegistryState). t) (λ (t w : RegistryState). w) UnderLevel u s (outer_of x) (inner_of x)
    → ((f : Form) → UnderLevel u f → s.filters + filters_in f ≤ LIMIT) → (filter_of (outer_of x) ≡ filter_of u) × (layer_of (outer_of x) ≡ layer_of u)
    → IsReady inner_of with_inner HasForm recorded_steps recorded_levels (form_of (filter_of u) 0) x
unfolding starts
starts_first law level l s recorder u x new empty unnumbered numbers room attached =
    (starts law level l s recorder u x new empty unnumbered numbers room attached).ready.1

-- an empty registry has room for it
pub has_room_at_first : (l : Limits) (s : RegistryState) (level : LevelFilter) (recorder : RecorderState) (u : FilteredLayer RecorderState LevelFilter)
    → s ≡ new_registry l → IsUnnumbered u recorder level → ((f : Form) → UnderLevel u f → LIMIT < s.filters + filters_in f) → ⊥
has_room_at_first l s level recorder u new unnumbered full =
    let none : s.filters ≡ 0 = ap (λ (t : RegistryState). t.filters) new in
    let more : LIMIT < s.filters + 1 = full (leaf_under (level_answers (filter_of u))) (unnumbered.id, refl, refl) in
    omega (arith, none, more)

-- a dispatcher puts it in use
pub in_use : (level : LevelFilter) (x y : Recorded) → Starts level x → ((f : Form) × IsReady inner_of with_inner HasForm recorded_steps recorded_levels f x
    → (f : Form) × IsReady inner_of with_inner HasForm recorded_steps recorded_levels f y)
    → (id_of (outer_of y) ≡ id_of (outer_of x)) × (filter_of (outer_of y) ≡ filter_of (outer_of x)) × (layer_of (outer_of y) ≡ layer_of (outer_of x))
    → Starts level y
in_use level x y h ready same =
    record { ready = ready h.ready; under = stays_under level (outer_of x) (outer_of y) same.0 same.1 h.under; empty = same.2 ∙ h.empty }

-- a new recorder that didn't fail keeps all that it was notified of
pub keeps_all : (r : RecorderState) (due : List KeptNotice) → Records new_recorder r due → r.failed ≡ false → r.notices ≡ due
keeps_all r due h f = h.kept ∙ sym (h.split ∙ ap (λ (us : List KeptNotice). h.more ++ us) (h.all f) ∙ append-nil h.more)

-- two spans and an event were served by a new stack
pub served_three : {acts_at : ActsAt Recorded} (level : LevelFilter) (lane : Lane) (outer inner event : Metadata) (p q r : WhichParent)
    (us vs ws : _) (old : Dispatch Recorded) (done : Dispatch Recorded × Vec Answer Global) → Starts level (stack_of old) → kept_by old ≡ None
    → Served inner_of with_inner HasForm recorded_steps recorded_levels
    recorded_hears acts_at (request.NewSpan lane outer p us ∷ request.NewSpan lane inner q vs ∷ request.Event lane event r ws ∷ []) done.1.items old done.0
    → KeepsWhatPasses level lane outer inner event done
served_three level lane outer inner event p q r us vs ws old done new kept served =
    let x = stack_of old in
    let requests = request.NewSpan lane outer p us ∷ request.NewSpan lane inner q vs ∷ request.Event lane event r ws ∷ [] in
    let run =
    subst (λ k. Run inner_of with_inner HasForm recorded_steps recorded_levels [] requests done.1.items served.made k x (kept_by done.0) (stack_of done.0))
    kept served.run in
    let three = keeps_three level lane outer inner event p q r us vs ws x (kept_by done.0) (stack_of done.0) done.1.items served.made new.under run in
    let heard : Records (layer_of (outer_of x)) (recorder_of done.0) (kept_from (flat served.made)) = heard_records _ _ _ (served.each position) in
    let due = subst (λ h. Records new_recorder (recorder_of done.0) h)
    three.keeps (subst (λ k. Records k (recorder_of done.0) (kept_from (flat served.made))) new.empty heard) in
    record {
      first = three.first;
      second = three.second;
      answers = three.answered;
      spans = three.spans;
      notified = due;
      kept = keeps_all (recorder_of done.0) _ due;
    }
