-- A request behind a probe is decided as it would be alone.
use Rattle.std.proofs.Common.{◌≡◌, ◌∙◌, ◌&&◌, ◌||◌, ◌==◌, ◌-◌, Bool, true, false, not, if◌then◌else◌, Option, Some, None, Result, Ok, Err, ap, inl, inr, refl}
use Rattle.std.proofs.Common.{subst, sym}
use Rattle.std.proofs.lemmas.Bool.{eq-eqb, false≢true}
use Rattle.std.specs.Prelude.{is_some}
use Rattle.span_core.specs.Event.{event_metadata}
use Rattle.span_core.specs.Metadata.{ShowSame, callsite_of}
use Rattle.span_core.specs.Span.{metadata_of}
use Rattle.span_core.specs.declared.error.TraceError.TheVariants.{CallsiteMismatch, OutOfMemory}
use Rattle.span_core.specs.declared.error.TraceError.{TraceError}
use Rattle.span_core.specs.declared.event.Event.{Event}
use Rattle.span_core.specs.declared.metadata.Metadata.{Metadata}
use Rattle.span_core.specs.declared.span.Attributes.{Attributes}
use Rattle.span_core.specs.declared.span.Id.{Id}
use Rattle.span_core.specs.declared.span.Lane.{Lane}
use Rattle.span_dispatch.specs.Admission.{IsDecided, IsUnknown, is_above_hint, is_let_by, learned_if}
use Rattle.span_dispatch.specs.Cache.{Agrees, Callsites, KeptCallsites, RefusesInterest, with_callsite}
use Rattle.span_dispatch.specs.Call.{AnswersWith, event_answer, span_answer, yes_answer}
use Rattle.span_dispatch.specs.Contract.{OpensSpan, SendsEvent, SubscriberOf}
use Rattle.span_dispatch.specs.declared.call.Call.TheVariants.{OpenSpan, Probe, SendEvent}
use Rattle.span_dispatch.specs.declared.dispatch.Dispatch.{Dispatch}
use Rattle.span_macros.specs.Behind.{EventsServedAlone, EventsUnwanted, SpansServedAlone, SpansUnwanted, unwanted_answer}
use Rattle.span_registry.specs.Form.{Form}
use Rattle.span_store.specs.Store.{RegistryState}

module _ (m : Metadata) where
  -- these and the callsite, which isn't among them
  abbrev with_new : Callsites → Callsites
  with_new c = record { known = λ n. if callsite_of m == n then Some m else c.known n; room = c.room - 1 }

  shows_itself : ShowSame m m
  shows_itself = record { callsite = refl; name = refl; target = refl; level = refl; kind = refl; fields = refl }

  kept_still : (c : Callsites) (one : Metadata) → c.known (callsite_of m) ≡ Some one → with_callsite c m ≡ c
  kept_still c one e = ap (λ (o : Option Metadata). if is_some o then c else with_new c) e

  kept_newly : (c : Callsites) → c.known (callsite_of m) ≡ None → with_callsite c m ≡ with_new c
  kept_newly c e = ap (λ (o : Option Metadata). if is_some o then c else with_new c) e

  found_newly : (c : Callsites) → (with_new c).known (callsite_of m) ≡ Some m
  found_newly c = ap (λ (b : Bool). if b then Some m else c.known (callsite_of m)) (eq-eqb (callsite_of m) (callsite_of m) refl)

  -- a callsite that is among them, with metadata that show the same, if what was there agrees
  found : (c : Callsites) → Agrees (Some c) m → (k : Metadata) × ((with_callsite c m).known (callsite_of m) ≡ Some k) × ShowSame k m
  found c agrees = by_known (c.known (callsite_of m)) refl
    where
      by_known : (o : Option Metadata) → c.known (callsite_of m) ≡ o
          → (k : Metadata) × ((with_callsite c m).known (callsite_of m) ≡ Some k) × ShowSame k m
      by_known (Some k) e = (k, ap (λ (d : Callsites). d.known (callsite_of m)) (kept_still c k e) ∙ e, agrees k e)
      by_known None e = (m, ap (λ (d : Callsites). d.known (callsite_of m)) (kept_newly c e) ∙ found_newly c, shows_itself)

  -- learned twice it is as learned once
  with_twice : (c : Callsites) → with_callsite (with_callsite c m) m ≡ with_callsite c m
  with_twice c = by_known (c.known (callsite_of m)) refl
    where
      by_known : (o : Option Metadata) → c.known (callsite_of m) ≡ o → with_callsite (with_callsite c m) m ≡ with_callsite c m
      by_known (Some k) e = ap (λ (d : Callsites). with_callsite d m) (kept_still c k e)
      by_known None e = subst (λ (d : Callsites). with_callsite d m ≡ d) (sym (kept_newly c e)) (kept_still (with_new c) m (found_newly c))

  learned_twice : (b : Bool) (k : KeptCallsites) → learned_if b (learned_if b k m) m ≡ learned_if b k m
  learned_twice true k = refl
  learned_twice false None = refl
  learned_twice false (Some c) = ap (λ (d : Callsites). Some d) (with_twice c)

  -- what is learned can be had again
  had_again : (k : KeptCallsites) (e : TraceError) → Agrees k m → RefusesInterest (learned_if false k m) m e → ⊥
  had_again None e agrees h = absurd h
  had_again (Some c) CallsiteMismatch agrees h =
      let there = found c agrees in
      let same : Some there.0 ≡ Some h.0 = sym there.1 ∙ h.1 in
      let one : there.0 ≡ h.0 = cc in
      h.2 (subst (λ (k : Metadata). ShowSame k m) one there.2)
  had_again (Some c) OutOfMemory agrees h =
      let there = found c agrees in
      let no : Some there.0 ≡ None = sym there.1 ∙ h.0 in
      absurd (cc)
  had_again (Some c) other agrees h = absurd h

  module _ (f : Form) (s : RegistryState) (lane : Lane) where
    let_still : (b : Bool) (k : KeptCallsites) → is_let_by (learned_if b k m) f s.filters m ≡ is_let_by k f s.filters m
    let_still true k = refl
    let_still false None = refl
    let_still false (Some c) = refl

    above_still : (b : Bool) (k : KeptCallsites) → is_above_hint (learned_if b k m) f m ≡ is_above_hint k f m
    above_still true k = refl
    above_still false None = refl
    above_still false (Some c) = refl

    -- behind one that was decided by what was kept before, with any verdict
    again : (k between after : KeptCallsites) (v w said : Bool)
        → IsDecided k f s lane m v true between → IsDecided between f s lane m w said after → IsDecided k f s lane m w said after
    again k between after v w said first second =
        let b = is_above_hint k f m in
        let lets : is_let_by between f s.filters m ≡ is_let_by k f s.filters m =
        subst (λ (x : KeptCallsites). is_let_by x f s.filters m ≡ is_let_by k f s.filters m) (sym first.learned) (let_still b k) in
        let above : is_above_hint between f m ≡ b =
        subst (λ (x : KeptCallsites). is_above_hint x f m ≡ is_above_hint k f m) (sym first.learned) (above_still b k) in
        record {
          agrees = first.agrees;
          wanted = second.wanted ∙ ap (λ (l : Bool). l && not w) lets;
          unwanted = first.unwanted;
          learned = second.learned ∙ ap (λ (a : Bool). learned_if a between m) above
              ∙ ap (λ (x : KeptCallsites). learned_if b x m) first.learned ∙ learned_twice b k;
        }

    -- it isn't refused then
    not_unknown : (k between after : KeptCallsites) (v : Bool) (e : TraceError)
        → IsDecided k f s lane m v true between → IsUnknown between f m e after → ⊥
    not_unknown k between after v e first second =
        let above : is_above_hint between f m ≡ is_above_hint k f m =
        subst (λ (x : KeptCallsites). is_above_hint x f m ≡ is_above_hint k f m) (sym first.learned) (above_still (is_above_hint k f m) k) in
        let below : is_above_hint k f m ≡ false = sym above ∙ second.hint in
        let learned : between ≡ learned_if false k m = first.learned ∙ ap (λ (a : Bool). learned_if a k m) below in
        had_again k e (first.agrees below) (subst (λ (x : KeptCallsites). RefusesInterest x m e) learned second.refused)

-- what is vetoed by its metadata is vetoed as a whole
lost : (a v w : Bool) → false ≡ (a && not v) → false ≡ (a && not (v || w))
lost false v w h = refl
lost true true w h = refl
lost true false w h = absurd (false≢true h)

module _ (f : Form) (s : RegistryState) (lane : Lane) where
  event_again : (e : Event) (k between after : KeptCallsites) (given : Result Bool TraceError)
      → AnswersWith (Probe lane (event_metadata e)) k f s (yes_answer (Ok true)) between
      → AnswersWith (SendEvent lane e) between f s (event_answer given) after → AnswersWith (SendEvent lane e) k f s (event_answer given) after
  event_again e k between after (Ok true) first second = again (event_metadata e) f s lane k between after _ _ true first second
  event_again e k between after (Ok false) first second = again (event_metadata e) f s lane k between after _ _ false first second
  event_again e k between after (Err error) first second = absurd (not_unknown (event_metadata e) f s lane k between after _ error first second)

  span_again : (attrs : Attributes) (k between after : KeptCallsites) (given : Result (Option Id) TraceError)
      → AnswersWith (Probe lane (metadata_of attrs)) k f s (yes_answer (Ok true)) between
      → AnswersWith (OpenSpan lane attrs) between f s (span_answer given) after → AnswersWith (OpenSpan lane attrs) k f s (span_answer given) after
  span_again attrs k between after (Ok (Some id)) first second =
      (again (metadata_of attrs) f s lane k between after _ _ true first second.0, second.1)
  span_again attrs k between after (Ok None) first second = again (metadata_of attrs) f s lane k between after _ _ false first second
  span_again attrs k between after (Err e) first (inl second) = absurd (not_unknown (metadata_of attrs) f s lane k between after _ e first second)
  span_again attrs k between after (Err e) first (inr second) =
      inr (again (metadata_of attrs) f s lane k between after _ _ true first second.0, second.1)

  event_unwanted : (e : Event) (k after : KeptCallsites) (wanted : Result Bool TraceError) → ¬ (wanted ≡ Ok true)
      → AnswersWith (Probe lane (event_metadata e)) k f s (yes_answer wanted) after → AnswersWith (SendEvent lane e) k f s (unwanted_answer wanted) after
  event_unwanted e k after (Ok true) not_yes h = absurd (not_yes refl)
  event_unwanted e k after (Ok false) not_yes h = record { agrees = h.agrees; wanted = lost _ _ _ h.wanted; unwanted = h.unwanted; learned = h.learned }
  event_unwanted e k after (Err error) not_yes h = h

  span_unwanted : (attrs : Attributes) (k after : KeptCallsites) (wanted : Result Bool TraceError) → ¬ (wanted ≡ Ok true)
      → AnswersWith (Probe lane (metadata_of attrs)) k f s (yes_answer wanted) after → AnswersWith (OpenSpan lane attrs) k f s (unwanted_answer wanted) after
  span_unwanted attrs k after (Ok true) not_yes h = absurd (not_yes refl)
  span_unwanted attrs k after (Ok false) not_yes h = h
  span_unwanted attrs k after (Err error) not_yes h = inl h

module _ {S : Type 0} (s : SubscriberOf S) where
  pub events_behind : EventsServedAlone s
  events_behind lane e given old between new p q = λ f honest current.
      let first = p.served f honest current in
      let sent : SendsEvent s lane e given (record old { cache = between.cache }) new = subst (λ (d : Dispatch S). SendsEvent s lane e given d new) p.rest q in
      let second = sent.served f honest (p.up_to_date f honest.has current) in (
        second.0,
        record {
          says = second.1.says;
          goes = second.1.goes;
          answers = event_again f (s.registry old.stack) lane e _ _ _ given first.1.answers second.1.answers;
        },
      )

  pub spans_behind : SpansServedAlone s
  spans_behind lane attrs given old between new p q = λ f honest current.
      let first = p.served f honest current in
      let made : OpensSpan s lane attrs given (record old { cache = between.cache }) new =
      subst (λ (d : Dispatch S). OpensSpan s lane attrs given d new) p.rest q in
      let second = made.served f honest (p.up_to_date f honest.has current) in (
        second.0,
        record {
          says = second.1.says;
          goes = second.1.goes;
          answers = span_again f (s.registry old.stack) lane attrs _ _ _ given first.1.answers second.1.answers;
        },
      )

  pub events_unwanted : EventsUnwanted s
  events_unwanted lane e (Ok true) old new p not_yes = absurd (not_yes refl)
  events_unwanted lane e (Ok false) old new p not_yes = λ f honest current.
      let first = p.served f honest current in (
        first.0,
        record {
          says = first.1.says;
          goes = first.1.goes;
          answers = event_unwanted f (s.registry old.stack) lane e _ _ (Ok false) not_yes first.1.answers;
        },
      )
  events_unwanted lane e (Err error) old new p not_yes = λ f honest current.
      let first = p.served f honest current in (
        first.0,
        record {
          says = first.1.says;
          goes = first.1.goes;
          answers = event_unwanted f (s.registry old.stack) lane e _ _ (Err error) not_yes first.1.answers;
        },
      )

  pub spans_unwanted : SpansUnwanted s
  spans_unwanted lane attrs (Ok true) old new p not_yes = absurd (not_yes refl)
  spans_unwanted lane attrs (Ok false) old new p not_yes = λ f honest current.
      let first = p.served f honest current in (
        first.0,
        record {
          says = first.1.says;
          goes = first.1.goes;
          answers = span_unwanted f (s.registry old.stack) lane attrs _ _ (Ok false) not_yes first.1.answers;
        },
      )
  spans_unwanted lane attrs (Err error) old new p not_yes = λ f honest current.
      let first = p.served f honest current in (
        first.0,
        record {
          says = first.1.says;
          goes = first.1.goes;
          answers = span_unwanted f (s.registry old.stack) lane attrs _ _ (Err error) not_yes first.1.answers;
        },
      )
