-- What a layer under a filter answers: the filter first, and then the layer under the filter too, where the filter passes what is asked.
use Rattle.std.proofs.Common.{◌≡◌, ℕ, Bool, true, false, not, ◌↔◌, IsTrue, Option, Some, None, refl, sym, ap, subst, ◌∙◌}
use Rattle.std.proofs.lemmas.Bool.{false≢true, true≢false}
use Rattle.std.specs.Borrow.{Bor}
use Rattle.std.specs.Option.{option_copied, option_map_or}
use Rattle.std.specs.Prelude.{if◌then◌else◌, ◌&&◌}
use Rattle.span_core.proofs.FilterLemmas.{ids_below, meets-member}
use Rattle.span_core.specs.Filters.{FilterSet, SetsFilters, has_filter, is_attached, is_enabled, is_hidden, refuses, union}
use Rattle.span_core.specs.Interest.{sum_with}
use Rattle.span_core.specs.Pass.{interest_sum, refused_of}
use Rattle.span_core.specs.declared.event.Event.{Event}
use Rattle.span_core.specs.declared.filter.FilterId.{FilterId}
use Rattle.span_core.specs.declared.filter.FilterMap.{FilterMap}
use Rattle.span_core.specs.declared.interest.Interest.TheVariants.{Always, Never, Sometimes}
use Rattle.span_core.specs.declared.interest.Interest.{Interest}
use Rattle.span_core.specs.declared.metadata.Metadata.{Metadata}
use Rattle.span_core.specs.declared.pass.Pass.{Pass}
use Rattle.span_stacks.proofs.FilterNumber.{refuses_at}
use Rattle.span_stacks.specs.Filtered.{FilteredForm, IsNumber}
use Rattle.span_store.specs.Store.{RegistryState, Store, empty_store}
use Rattle.span_registry.specs.Behaviour.{Behaviour}
use Rattle.span_registry.specs.Context.{Narrows, filters_in, lane_in, store_at, store_in, view_in}
use Rattle.span_registry.specs.Form.{Terminal, Filtered, Form, Leaf, Parts}
use Rattle.span_registry.specs.Question.{AnswersBy, AnswersSo, SumsBy, answered, event_asked, interest_of, is_never, refusals, single}
use Rattle.span_registry.specs.View.{View, view_of}
use Rattle.span_registry.specs.declared.context.Context.{Context}

-- ---- whether metadata or an event pass

-- a question to forms, on a lane of a store, under filters, where these refused before
abbrev pub Question : Type 0
Question = Form → Store → ℕ → FilterSet → FilterSet → Bool × FilterSet

module _ {S : Type 0} (registry : S → RegistryState) where
  -- the store is that of the subscriber that is looked at
  store_by : (o : Option (Bor S)) → store_at registry o ≡ option_map_or (λ s. (registry s).store) (option_copied o) empty_store
  store_by None = refl
  store_by (Some s) = refl

  -- what is asked in a narrowed context is asked in the one before, under the filters of both
  narrowed : {A : Type 0} (q : Store → ℕ → FilterSet → A) (c d : Context S) (more : FilterSet)
      → Narrows c more d → q (store_in registry d) (lane_in d).0 (filters_in d) ≡ q (store_in registry c) (lane_in c).0 (union (filters_in c) more)
  narrowed q c d more h =
      let store : store_in registry d ≡ store_in registry c =
      store_by d.subscriber ∙ ap (λ (o : Option S). option_map_or (λ s. (registry s).store) o empty_store) h.subscriber ∙ sym (store_by c.subscriber) in
      λ i. q (store i) (h.lane i) (h.filters i)

  module _ (id : FilterId) (answers : Behaviour → Type 0) (form : Form → Type 0) (question : Question) (passes : Behaviour → View → Bool) (c : Context S) where
    -- what a filter with these numbers round a form answers, once it is asked and says whether that passes
    abbrev once_asked : Form → FilterSet → FilterSet → Bool → Bool × FilterSet
    once_asked f set refused passed =
        if passed then question f (store_in registry c) (lane_in c).0 (union (filters_in c) set) (answered refused set true)
        else (true, answered refused set false)

    -- the filter with this number is asked
    abbrev pub IsAsked : FilterSet → ℕ → Type 0
    IsAsked refused n =
        (a : Behaviour) (f : Form) → question (Filtered (Some n) a f) (store_in registry c) (lane_in c).0 (filters_in c) refused
        ≡ once_asked f (single n) refused (passes a (view_of (store_in registry c) (lane_in c).0 (union (filters_in c) (single n))))

    module _ (d : Context S) (inside : Narrows c (has_filter id) d)
        (attached : false ≡ not (is_attached id)) (old : Pass) (is_asked : (n : ℕ) → IsNumber id (Some n) → IsAsked (refusals old) n) where
      -- it answers as its filter says, and where that passes, as its layer does
      by_filter : (b : Bool) → ((a : Behaviour) → answers a → b ≡ passes a (view_in registry d)) → (f : Form) → FilteredForm id answers form f
          → (g : Form) × form g × (question f (store_in registry c) (lane_in c).0 (filters_in c) (refusals old) ≡ once_asked g (has_filter id) (refusals old) b)
      by_filter b says (Filtered (Some n) a f) h =
          let asked_by =
          λ (set : FilterSet). once_asked f set (refusals old) (passes a (view_of (store_in registry c) (lane_in c).0 (union (filters_in c) set))) in (
            f,
            h.2,
            is_asked n h.0 a f ∙ ap asked_by (sym h.0.1) ∙ ap (once_asked f (has_filter id) (refusals old))
                (sym (narrowed (λ s lane set. passes a (view_of s lane set)) c d (has_filter id) inside) ∙ sym (says a h.1)),
          )
      by_filter b says (Filtered None a f) h = absurd (false≢true (attached ∙ ap not h.0))
      by_filter b says (Leaf still a) h = absurd h
      by_filter b says (Parts k o i) h = absurd h
      by_filter b says (Terminal v) h = absurd h

      -- the filter refuses
      pub filter_refuses : (new : Pass) → ((a : Behaviour) → answers a → false ≡ passes a (view_in registry d))
          → SetsFilters (refused_of old) (refused_of new) id false → interest_sum new ≡ interest_sum old
          → AnswersBy (FilteredForm id answers form) (λ f. question f (store_in registry c) (lane_in c).0 (filters_in c)) old true new
      filter_refuses new says members sum f h =
          subst (λ r. AnswersSo r old true new) (sym (by_filter false says f h).2) (record { answer = refl; refused = λ i n. members n i; sum = sum })

      -- the filter passes it, and then the layer is asked
      pub filter_passes : (mid new : Pass) (said : Bool) → ((a : Behaviour) → answers a → true ≡ passes a (view_in registry d))
          → SetsFilters (refused_of old) (refused_of mid) id true → interest_sum mid ≡ interest_sum old
          → AnswersBy form (λ f. question f (store_in registry d) (lane_in d).0 (filters_in d)) mid said new
          → AnswersBy (FilteredForm id answers form) (λ f. question f (store_in registry c) (lane_in c).0 (filters_in c)) old said new
      filter_passes mid new said says members sum layer f h =
          let g = by_filter true says f h in
          let own = layer g.0 g.1 in
          let asked_inside = narrowed (λ s lane set. question g.0 s lane set (refusals mid)) c d (has_filter id) inside in
          let after_filter = ap (question g.0 (store_in registry c) (lane_in c).0 (union (filters_in c) (has_filter id))) (λ i n. members n i) in
          subst (λ r. AnswersSo r old said new)
          (asked_inside ∙ after_filter ∙ sym g.2) (record { answer = own.answer; refused = own.refused; sum = own.sum ∙ sum })

-- ---- events that were asked about before

module _ (id : FilterId) (e : Event) (s : Store) (lane : ℕ) (under : FilterSet) (old : Pass) where
  -- what the filter answers where it is asked
  abbrev asked_now : ℕ → Behaviour → Form → Bool × FilterSet
  asked_now n a f =
      if a.event e (view_of s lane (union under (single n))) then event_asked f e s lane (union under (single n)) (answered (refusals old) (single n) true)
      else (true, answered (refusals old) (single n) false)

  -- where the filter refused the metadata, it isn't asked, and the layer neither
  pub refused_before : (answers : Behaviour → Type 0) (form : Form → Type 0) {map : FilterMap}
      → map ≡ refused_of old → false ≡ is_enabled map id → AnswersBy (FilteredForm id answers form) (λ f. event_asked f e s lane under) old true old
  refused_before answers form same out (Filtered (Some n) a f) h =
      subst (λ (b : Bool). AnswersSo (if b then (true, refusals old) else asked_now n a f) old true old)
      (sym (refuses_at id n false h.0 same out)) (record { answer = refl; refused = refl; sum = refl })
  refused_before answers form same out (Filtered None a f) h = record { answer = refl; refused = refl; sum = refl }
  refused_before answers form same out (Leaf still a) h = absurd h
  refused_before answers form same out (Parts k o i) h = absurd h
  refused_before answers form same out (Terminal v) h = absurd h

  -- where it passed the metadata, it is asked
  pub passed_before : {map : FilterMap} → map ≡ refused_of old → true ≡ is_enabled map id → (n : ℕ) → IsNumber id (Some n) → (a : Behaviour) (f : Form)
      → event_asked (Filtered (Some n) a f) e s lane under (refusals old) ≡ asked_now n a f
  passed_before same out n h a f = ap (λ (b : Bool). if b then (true, refusals old) else asked_now n a f) (refuses_at id n true h same out)

-- a filter that is enabled is none of those that refused: that it passes what is asked changes nothing
attached_and_clear : (attached hidden : Bool) → true ≡ (attached && not hidden) → hidden ≡ false
attached_and_clear true true e = absurd (true≢false e)
attached_and_clear true false e = refl
attached_and_clear false hidden e = absurd (true≢false e)

is_not_true : (b : Bool) → (b ≡ true → ⊥) → b ≡ false
is_not_true true h = absurd (h refl)
is_not_true false h = refl

taken_out : (b r : Bool) → (b ≡ true → r ≡ false) → r ≡ (if b then false else r)
taken_out true r h = h refl
taken_out false r h = refl

pub none_refused : (id : FilterId) (old : Pass) {map : FilterMap}
    → map ≡ refused_of old → true ≡ is_enabled map id → SetsFilters (refused_of old) (refused_of old) id true
none_refused id old same enabled n =
    let clear : is_hidden id (refused_of old) ≡ false =
    attached_and_clear (is_attached id) (is_hidden id (refused_of old)) (enabled ∙ ap (λ (m : FilterMap). is_enabled m id) same) in
    let common = meets-member (has_filter id) (refuses (refused_of old)) in
    taken_out (has_filter id n)
    (refuses (refused_of old) n) (λ t. is_not_true (refuses (refused_of old) n) (λ r. false≢true (sym clear ∙ common.1 (n, (ids_below id n t, t, r)))))

-- ---- interests

-- what a test for never finds
never_by : (i : Interest) (b : Bool) → IsTrue b ↔ (i ≡ Never) → b ≡ is_never i
never_by Never true h = refl
never_by Never false h = h.1 refl
never_by Sometimes true h = absurd (cc (h.0 refl))
never_by Sometimes false h = refl
never_by Always true h = absurd (cc (h.0 refl))
never_by Always false h = refl

module _ (id : FilterId) (answers : Behaviour → Type 0) (form : Form → Type 0) (m : Metadata) where
  -- the layer's filters add their interests where its own filter may want something, and then its own adds its interest
  pub filtered_interest : (i : Interest) (old mid new : Pass) → false ≡ not (is_attached id) → ((a : Behaviour) → answers a → i ≡ a.interest m)
      → interest_sum new ≡ Some (sum_with (interest_sum mid) i) → refused_of new ≡ refused_of mid
      → (never : Bool) → IsTrue never ↔ (i ≡ Never)
      → ((filters : ℕ) (f : Form)
      → form f → (interest_sum mid ≡ (if never then interest_sum old else (interest_of f m filters (interest_sum old)).1)) × (refused_of mid ≡ refused_of old))
      → (filters : ℕ) → SumsBy (FilteredForm id answers form) (λ f. interest_of f m filters) old Always new
  filtered_interest i old mid new attached says sum refused never is layer filters (Filtered (Some n) a f) h =
      let inner = layer filters f h.2 in
      let own = says a h.1 in
      let before =
      inner.0 ∙ ap (λ (b : Bool). if b then interest_sum old else (interest_of f m filters (interest_sum old)).1) (never_by i never is ∙ ap is_never own) in
      record { answer = refl; sum = sum ∙ (λ k. Some (sum_with (before k) (own k))); refused = refused ∙ inner.1 }
  filtered_interest i old mid new attached says sum refused never is layer filters (Filtered None a f) h = absurd (false≢true (attached ∙ ap not h.0))
  filtered_interest i old mid new attached says sum refused never is layer filters (Leaf still a) h = absurd h
  filtered_interest i old mid new attached says sum refused never is layer filters (Parts k o z) h = absurd h
  filtered_interest i old mid new attached says sum refused never is layer filters (Terminal v) h = absurd h
