-- For the proofs of callers: what was made of a list that was served, request by request, and what a leaf sees of it.
use Rattle.std.proofs.Common.{◌≡◌, ◌∙◌, ◌⊎◌, ℕ, Bool, Option, Some, None, List, [], ◌∷◌, ◌++◌, ap, append_assoc, false, refl, sym, subst, true, map}
use Rattle.std.proofs.lemmas.Bool.{false≢true}
use Rattle.std.specs.Option.{option_map}
use Rattle.span_core.specs.Event.{event_metadata, event_of, event_parent, event_values}
use Rattle.span_core.specs.Span.{asked_parent, attributes_of, metadata_of, record_of, recorded_values, values_of}
use Rattle.span_core.specs.declared.error.TraceError.{TraceError}
use Rattle.span_core.specs.declared.event.Event.{Event}
use Rattle.span_core.specs.declared.metadata.Metadata.{Metadata}
use Rattle.span_core.specs.declared.span.Attributes.{Attributes}
use Rattle.span_core.specs.declared.span.Id.{Id}
use Rattle.span_core.specs.declared.span.Lane.{Lane}
use Rattle.span_core.specs.declared.span.Record.{Record}
use Rattle.span_dispatch.specs.Admission.{IsDecided, IsUnknown}
use Rattle.span_dispatch.proofs.Registered.{registered_before, registered_still}
use Rattle.span_dispatch.specs.Cache.{IsUpToDate, KeptCallsites, entry_in, forgotten}
use Rattle.span_dispatch.specs.Contract.{ChangesStack}
use Rattle.span_dispatch.specs.Registration.{KeepsRegistered}
use Rattle.span_dispatch.specs.Call.{vetoes_whole}
use Rattle.span_dispatch.specs.declared.call.Call.TheVariants.{OpenSpan, RecordValues, SendEvent}
use Rattle.span_dispatch.specs.Outcome.{OutcomeAt, Makes, Noticed}
use Rattle.span_dispatch.specs.Alone.{passed, passed_at}
use Rattle.span_dispatch.specs.Recorder.{RecorderState, Records, kept_notice, recorder_steps}
use Rattle.span_dispatch.proofs.Recording.{records_more, records_nothing}
use Rattle.span_dispatch.specs.Serve.{IsReady, KeepsUpToDate, Run, Serves, call_of, forgetful, resolved, resolved_parent, with_stack}
use Rattle.span_dispatch.specs.private.Step.{ServesRequest}
use Rattle.span_layers.specs.Layer.{HearsBy}
use Rattle.span_dispatch.specs.declared.cache.Cache.TheVariants as cache
use Rattle.span_dispatch.specs.declared.cache.Cache.{Cache}
use Rattle.span_dispatch.specs.declared.dispatch.Dispatch.{Dispatch}
use Rattle.span_dispatch.specs.declared.request.Answer.TheVariants as answer
use Rattle.span_dispatch.specs.declared.request.Answer.{Answer}
use Rattle.span_dispatch.specs.declared.request.Request.TheVariants as request
use Rattle.span_dispatch.specs.declared.request.Request.{Request}
use Rattle.span_dispatch.specs.declared.request.Which.{Which}
use Rattle.span_dispatch.specs.declared.request.WhichParent.{WhichParent}
use Rattle.span_store.specs.Step.{RefusesNew}
use Rattle.span_stacks.specs.Verdict.{vetoes}
use Rattle.span_store.specs.Store.{RegistryState}
use Rattle.span_registry.specs.Path.{path_at}
use Rattle.span_registry.specs.Behaviour.{OnEvent, OnNewSpan}
use Rattle.span_registry.specs.Form.{Form}
use Rattle.span_registry.specs.Hooks.{StackSteps}
use Rattle.span_registry.specs.Reload.{ReloadSteps}
use Rattle.span_registry.specs.Position.{Heard, Here, Position}

-- of two lists in a row a leaf sees what it sees of each
pub seen_append : (position : Position) (ms ns : List OutcomeAt) → passed_at position (ms ++ ns) ≡ passed_at position ms ++ passed_at position ns
seen_append position [] ns = refl
seen_append position (m ∷ ms) ns = ap (λ h. passed (path_at m.form position) m.outcome m.before m.after ++ h) (seen_append position ms ns)
    ∙ sym (append_assoc (passed (path_at m.form position) m.outcome m.before m.after) (passed_at position ms) (passed_at position ns))

-- what a request for a new span asks for: its own lane, metadata and values, and the parent that it names
pub span_asked : (past : List Answer) (lane l : Lane) (m : Metadata) (p : WhichParent) (values : _) (attrs : Attributes)
    → call_of past (request.NewSpan lane m p values) ≡ Some (OpenSpan l attrs)
    → (l ≡ lane) × (metadata_of attrs ≡ m) × (asked_parent attrs ≡ resolved_parent past p) × (values_of attrs ≡ values.now)
span_asked past lane l m p values attrs e =
    let same : attributes_of m values (resolved_parent past p) ≡ attrs = cc in
    (cc, ap metadata_of (sym same), ap asked_parent (sym same), ap values_of (sym same))

-- the same of an event
pub event_asked : (past : List Answer) (lane l : Lane) (m : Metadata) (p : WhichParent) (values : _) (event : Event)
    → call_of past (request.Event lane m p values) ≡ Some (SendEvent l event)
    → (l ≡ lane) × (event_metadata event ≡ m) × (event_parent event ≡ resolved_parent past p) × (event_values event ≡ values.now)
event_asked past lane l m p values event e =
    let same : event_of m values (resolved_parent past p) ≡ event = cc in
    (cc, ap event_metadata (sym same), ap event_parent (sym same), ap event_values (sym same))

-- of a record its span, too
pub record_asked : (past : List Answer) (lane l : Lane) (w : Which) (values : _) (id : Id) (r : Record)
    → call_of past (request.Record lane w values) ≡ Some (RecordValues l id r)
    → (l ≡ lane) × (resolved past w ≡ Some id) × (recorded_values r ≡ values.now)
record_asked past lane l w values id r e = by_span (resolved past w) e
  where
    by_span : (o : Option Id) → option_map (λ x. RecordValues lane x (record_of values)) o ≡ Some (RecordValues l id r)
        → (l ≡ lane) × (o ≡ Some id) × (recorded_values r ≡ values.now)
    by_span None k = let no : ⊥ = cc in absurd no
    by_span (Some x) k =
        let same : record_of values ≡ r = cc in
        (cc, cc, ap recorded_values (sym same))

module _ {S : Type 0} (registry : S → RegistryState)
    (with_registry : S → RegistryState → S) (has_form : S → Form → Type 0) (stepped : StackSteps S) (reloaded : ReloadSteps S) where
  -- a list that begins with a request: it has an answer, and the rest was served behind that
  pub next_served : (past : List Answer) (r : Request) (rs : List Request) (answers : List Answer)
      (made : List (List OutcomeAt)) (memory : KeptCallsites) (x : S) (after : KeptCallsites) (y : S) (G : List Answer → List (List OutcomeAt) → Type 0)
      → ((a : Answer) (rest : List Answer) (ms : List OutcomeAt) (more : List (List OutcomeAt)) (between : KeptCallsites) (z : S)
      → ServesRequest registry with_registry has_form stepped reloaded past r memory x a ms between z
      → Run registry with_registry has_form stepped reloaded (past ++ (a ∷ [])) rs rest more between z after y → G (a ∷ rest) (ms ∷ more))
      → Run registry with_registry has_form stepped reloaded past (r ∷ rs) answers made memory x after y → G answers made
  next_served past r rs (a ∷ rest) (ms ∷ more) memory x after y G k h = k a rest ms more h.0 h.1 h.2 h.3
  next_served past r rs other made memory x after y rest k h = absurd h

  -- an empty list has no answer, and nothing was made of it
  pub none_served : (past : List Answer) (answers : List Answer)
      (made : List (List OutcomeAt)) (memory : KeptCallsites) (x : S) (after : KeptCallsites) (y : S) (G : List Answer → List (List OutcomeAt) → Type 0)
      → G [] [] → Run registry with_registry has_form stepped reloaded past [] answers made memory x after y → G answers made
  none_served past [] [] memory x after y G k h = k
  none_served past other made memory x after y rest k h = absurd h

  -- ---- a request for a new span: it was made, and its notice alone came of it; or it was dropped, or refused, and nothing came of it

  -- this is shown of a request, where that was answered so, all this was made of it, and then this is kept, from here
  abbrev pub Goal : Type 1
  Goal = Answer → List OutcomeAt → KeptCallsites → S → Type 0

  -- whether hint, interest and leaves decide so of a new span
  abbrev pub SpanDecided : KeptCallsites → Form → S → Lane → Attributes → Bool → KeptCallsites → Type 0
  SpanDecided memory f x lane attrs wanted after =
      IsDecided memory f (registry x) lane (metadata_of attrs) (vetoes f (metadata_of attrs) (registry x).store lane.0) wanted after

  abbrev pub MadeSpan : List Answer → Request → Lane → KeptCallsites → S → Goal → Type 0
  MadeSpan past r lane memory x G = (id : Id) (attrs : Attributes) (f : Form) (one : OutcomeAt) (after : KeptCallsites) (z : S)
      → call_of past r ≡ Some (OpenSpan lane attrs) → SpanDecided memory f x lane attrs true after
      → one.outcome ≡ Noticed lane (OnNewSpan attrs id) → Makes registry with_registry has_form stepped reloaded x one z → G (answer.Made id) (one ∷ []) after z

  abbrev pub DroppedSpan : List Answer → Request → Lane → KeptCallsites → S → Goal → Type 0
  DroppedSpan past r lane memory x G = (attrs : Attributes) (f : Form) (after : KeptCallsites)
      → call_of past r ≡ Some (OpenSpan lane attrs) → IsReady registry with_registry has_form stepped reloaded f x
      → SpanDecided memory f x lane attrs false after → G answer.Dropped [] after x

  abbrev pub RefusedSpan : List Answer → Request → Lane → KeptCallsites → S → Goal → Type 0
  RefusedSpan past r lane memory x G = (attrs : Attributes) (e : TraceError) (f : Form) (after : KeptCallsites) → call_of past r ≡ Some (OpenSpan lane attrs)
      → IsUnknown memory f (metadata_of attrs) e after ⊎ (SpanDecided memory f x lane attrs true after × RefusesNew (registry x) lane (asked_parent attrs) e)
      → G (answer.Refused e) [] after x

  opened : (past : List Answer) (r : Request) (lane : Lane) (attrs : Attributes) (f : Form) (memory : KeptCallsites) (x : S)
      (a : Answer) (made : List OutcomeAt) (after : KeptCallsites) (y : S) (G : Goal) → MadeSpan past r lane memory x G → DroppedSpan past r lane memory x G
      → RefusedSpan past r lane memory x G → call_of past r ≡ Some (OpenSpan lane attrs) → IsReady registry with_registry has_form stepped reloaded f x
      → Serves registry with_registry has_form stepped reloaded (OpenSpan lane attrs) f memory x a made after y → G a made after y
  opened past r lane attrs f memory x (answer.Made id) [] after y G new dropped refused asks ready s = let e = s.says in absurd (cc)
  opened past r lane attrs f memory x (answer.Made id) (one ∷ []) after y G new dropped refused asks ready s =
      let e = s.says in
      let h = s.goes in
      let o : one.outcome ≡ Noticed lane (OnNewSpan attrs id) = cc in
      subst (λ z. G (answer.Made id) (one ∷ []) after z) h.2 (new id attrs f one after h.0 asks s.answers.0 o h.1)
  opened past r lane attrs f memory x (answer.Made id) (one ∷ two ∷ made) after y G new dropped refused asks ready s = let e = s.says in absurd (cc)
  opened past r lane attrs f memory x answer.Dropped [] after y G new dropped refused asks ready s =
      subst (λ z. G answer.Dropped [] after z) s.goes (dropped attrs f after asks ready s.answers)
  opened past r lane attrs f memory x answer.Dropped (one ∷ made) after y G new dropped refused asks ready s = let e = s.says in absurd (cc)
  opened past r lane attrs f memory x (answer.Refused e) [] after y G new dropped refused asks ready s =
      subst (λ z. G (answer.Refused e) [] after z) s.goes (refused attrs e f after asks s.answers)
  opened past r lane attrs f memory x (answer.Refused e) (one ∷ made) after y G new dropped refused asks ready s = let d = s.says in absurd (cc)
  opened past r lane attrs f memory x answer.Done made after y G new dropped refused asks ready s = absurd s.says
  opened past r lane attrs f memory x (answer.Yes b) made after y G new dropped refused asks ready s = absurd s.says
  opened past r lane attrs f memory x (answer.Current o) made after y G new dropped refused asks ready s = absurd s.says

  pub span_served : (past : List Answer) (lane : Lane) (m : Metadata)
      (p : WhichParent) (values : _) (memory : KeptCallsites) (x : S) (a : Answer) (made : List OutcomeAt) (after : KeptCallsites) (y : S) (G : Goal)
      → MadeSpan past (request.NewSpan lane m p values) lane memory x G
      → DroppedSpan past (request.NewSpan lane m p values) lane memory x G → RefusedSpan past (request.NewSpan lane m p values) lane memory x G
      → ServesRequest registry with_registry has_form stepped reloaded past (request.NewSpan lane m p values) memory x a made after y → G a made after y
  span_served past lane m p values memory x a made after y G new dropped refused h =
      opened past
      (request.NewSpan lane m p values) lane (attributes_of m values (resolved_parent past p)) h.0 memory x a made after y G new dropped refused refl h.1 h.2

  -- ---- a request for an event: its notice alone came of it; or it was dropped, or refused, and nothing came of it

  -- whether hint, interest and leaves decide so of an event
  abbrev pub EventDecided : KeptCallsites → Form → S → Lane → Event → Bool → KeptCallsites → Type 0
  EventDecided memory f x lane e wanted after = IsDecided memory f (registry x) lane (event_metadata e) (vetoes_whole f e (registry x).store lane) wanted after

  abbrev pub MadeEvent : List Answer → Request → Lane → KeptCallsites → S → Goal → Type 0
  MadeEvent past r lane memory x G = (e : Event) (f : Form) (one : OutcomeAt) (after : KeptCallsites) (z : S)
      → call_of past r ≡ Some (SendEvent lane e) → EventDecided memory f x lane e true after → one.outcome ≡ Noticed lane (OnEvent e)
      → Makes registry with_registry has_form stepped reloaded x one z → G answer.Done (one ∷ []) after z

  abbrev pub DroppedEvent : List Answer → Request → Lane → KeptCallsites → S → Goal → Type 0
  DroppedEvent past r lane memory x G =
      (e : Event) (f : Form) (after : KeptCallsites) → call_of past r ≡ Some (SendEvent lane e) → IsReady registry with_registry has_form stepped reloaded f x
      → EventDecided memory f x lane e false after → G answer.Dropped [] after x

  abbrev pub RefusedEvent : List Answer → Request → Lane → KeptCallsites → S → Goal → Type 0
  RefusedEvent past r lane memory x G = (e : Event) (error : TraceError) (f : Form) (after : KeptCallsites)
      → call_of past r ≡ Some (SendEvent lane e) → IsUnknown memory f (event_metadata e) error after
      → G (answer.Refused error) [] after x

  sent : (past : List Answer) (r : Request) (lane : Lane) (event : Event) (f : Form) (memory : KeptCallsites) (x : S)
      (a : Answer) (made : List OutcomeAt) (after : KeptCallsites) (y : S) (G : Goal) → MadeEvent past r lane memory x G → DroppedEvent past r lane memory x G
      → RefusedEvent past r lane memory x G → call_of past r ≡ Some (SendEvent lane event) → IsReady registry with_registry has_form stepped reloaded f x
      → Serves registry with_registry has_form stepped reloaded (SendEvent lane event) f memory x a made after y → G a made after y
  sent past r lane event f memory x answer.Done [] after y G new dropped refused asks ready s = let e = s.says in absurd (cc)
  sent past r lane event f memory x answer.Done (one ∷ []) after y G new dropped refused asks ready s =
      let e = s.says in
      let h = s.goes in
      let o : one.outcome ≡ Noticed lane (OnEvent event) = cc in
      subst (λ z. G answer.Done (one ∷ []) after z) h.2 (new event f one after h.0 asks s.answers o h.1)
  sent past r lane event f memory x answer.Done (one ∷ two ∷ made) after y G new dropped refused asks ready s = let e = s.says in absurd (cc)
  sent past r lane event f memory x answer.Dropped [] after y G new dropped refused asks ready s =
      subst (λ z. G answer.Dropped [] after z) s.goes (dropped event f after asks ready s.answers)
  sent past r lane event f memory x answer.Dropped (one ∷ made) after y G new dropped refused asks ready s = let e = s.says in absurd (cc)
  sent past r lane event f memory x (answer.Refused e) [] after y G new dropped refused asks ready s =
      subst (λ z. G (answer.Refused e) [] after z) s.goes (refused event e f after asks s.answers)
  sent past r lane event f memory x (answer.Refused e) (one ∷ made) after y G new dropped refused asks ready s = let d = s.says in absurd (cc)
  sent past r lane event f memory x other made after y rest new dropped refused asks ready s = absurd s.says

  pub event_served : (past : List Answer) (lane : Lane) (m : Metadata)
      (p : WhichParent) (values : _) (memory : KeptCallsites) (x : S) (a : Answer) (made : List OutcomeAt) (after : KeptCallsites) (y : S) (G : Goal)
      → MadeEvent past (request.Event lane m p values) lane memory x G
      → DroppedEvent past (request.Event lane m p values) lane memory x G → RefusedEvent past (request.Event lane m p values) lane memory x G
      → ServesRequest registry with_registry has_form stepped reloaded past (request.Event lane m p values) memory x a made after y → G a made after y
  event_served past lane m p values memory x a made after y G new dropped refused h =
      sent past (request.Event lane m p values) lane (event_of m values (resolved_parent past p)) h.0 memory x a made after y G new dropped refused refl h.1 h.2

-- where nothing is kept, what isn't wanted is vetoed, no interest is wanting, and nothing is kept afterwards
pub vetoed_unkept : (f : Form) (s : RegistryState) (lane : Lane) (m : Metadata) (vetoed : Bool) (after : KeptCallsites)
    → IsDecided None f s lane m vetoed false after → vetoed ≡ true
vetoed_unkept f s lane m true after d = refl
vetoed_unkept f s lane m false after d = absurd (false≢true d.wanted)

pub known_unkept : (f : Form) (m : Metadata) (e : TraceError) (after : KeptCallsites) → IsUnknown None f m e after → ⊥
known_unkept f m e after h = h.refused

pub unkept_still : (f : Form) (s : RegistryState) (lane : Lane) (m : Metadata) (vetoed wanted : Bool) (after : KeptCallsites)
    → IsDecided None f s lane m vetoed wanted after → after ≡ None
unkept_still f s lane m vetoed wanted after d = d.learned

-- what was forgotten is up to date, whatever the stack has become
pub forgotten_is_current : {S : Type 0} (f : Form) (n : ℕ) (d : Dispatch S) (x : S) → KeepsUpToDate f n (with_stack (forgetful d) x)
forgotten_is_current f n d x = by_cache d.cache
  where
    by_cache : (c : Cache) → IsUpToDate f n (forgotten c)
    by_cache cache.Off = tt
    by_cache cache.Empty = tt
    by_cache (cache.Filled k) = tt

-- a recorder keeps of what it heard what `kept_notice` says
pub heard_records : (h : Heard) (x y : RecorderState) → HearsBy recorder_steps x Here h y → Records x y (map kept_notice h)
heard_records [] x y a = subst (λ (z : RecorderState). Records x z []) a (records_nothing x)
heard_records (one ∷ h) x y a = records_more x a.0 y (kept_notice one ∷ []) (map kept_notice h) a.1.step.1 (heard_records h a.0 y a.2)

-- what was registered stays so where the stack alone changes
pub registered_by_stack : {S : Type 0} → (old new : Dispatch S) → ChangesStack old new → KeepsRegistered old new
registered_by_stack {S} old new e = registered_still old new (ap (λ (d : Dispatch S). d.epoch) e) (λ n one k. ap (λ (d : Dispatch S). entry_in d.cache n) e ∙ k)

-- and where what is kept is forgotten
pub registered_forgetful : {S : Type 0} (d : Dispatch S) (x : S) → KeepsRegistered d (with_stack (forgetful d) x)
registered_forgetful d x = registered_before d (with_stack (forgetful d) x) refl
