-- An outline: what it writes of what it was told.
use Rattle.std.proofs.Common.{◌≡◌, inl, inr, ◌∙◌, ℕ, List, [], ◌∷◌, ◌++◌, false, ap, refl, subst, sym, append_assoc}
use Rattle.std.specs.Borrow.{Bor}
use Rattle.std.specs.Prelude.{String, codes, string_bytes}
use Rattle.std.specs.declared.alloc.Global.{Global}
use Rattle.std.proofs.lemmas.Bool.{true≢false}
use Rattle.std.proofs.lemmas.List.{append-nil}
use Rattle.span_core.specs.Event.{event_metadata, event_parent}
use Rattle.span_core.specs.Filters.{FilterSet}
use Rattle.span_core.specs.Metadata.{name_of}
use Rattle.span_core.specs.declared.event.Event.{Event}
use Rattle.span_core.specs.declared.level.LevelFilter.{LevelFilter}
use Rattle.span_dispatch.specs.Recorder.{RecorderState, new_recorder}
use Rattle.span_stacks.specs.Filtered.{filter_of, id_of, layer_of}
use Rattle.span_layers.specs.Layer.{HearsBy}
use Rattle.span_stacks.specs.Layered.{inner_of, outer_of, with_inner}
use Rattle.span_layers.specs.Observe.{ObserverStep, observer_of}
use Rattle.span_store.specs.Store.{RegistryState, Store}
use Rattle.span_registry.specs.Notice.{notice_of}
use Rattle.span_registry.specs.declared.notice.Notice.TheVariants as notice
use Rattle.span_layers.specs.declared.observe.Observer.{Observer}
use Rattle.span_registry.specs.declared.notice.Notice.{Notice as NoticeInCode}
use Rattle.span_registry.specs.Behaviour.{Notice, OnClose, OnEnter, OnEvent, OnExit, OnFollows, OnIdChange, OnNewSpan, OnRecord}
use Rattle.span_registry.specs.Form.{Terminal, Base}
use Rattle.span_registry.specs.Law.{ShowsPlainly}
use Rattle.span_registry.specs.Position.{Heard, Here}
use Rattle.span_registry.specs.View.{View, event_shown, plain_view, scope, view_of}
use Rattle.span_examples.proofs.PutOn.{LeafUnder, PutOn, another, bare_form, form_on, itself, on_form}
use Rattle.span_examples.specs.Dispatches.{Recorded}
use Rattle.span_examples.specs.Outline.{Copies, IsNewOutlined, Outlined, Writes, WritesLine, has_failed, indent, line_of, outline_steps, text_due, text_in}
use Rattle.span_examples.specs.Outline.{text_of}
use Rattle.span_examples.specs.declared.outline.Outline.{Outline}

-- ---- what it writes of an event

-- extensions make no difference to a line
line_plainly : (s : Store) (lane : ℕ) (mask : FilterSet) (e : Event)
    → ShowsPlainly s lane mask → line_of e (view_of s lane mask) ≡ line_of e (plain_view s lane mask)
line_plainly s lane mask e h =
    ap (λ (xs : List ℕ). (indent xs ++ name_of (event_metadata e)) ++ codes "\n")
    (ap (scope (view_of s lane mask).spans) (h.event (event_parent e)) ∙ h.scope (event_shown (event_parent e) (plain_view s lane mask)))

-- an event that was observed is written as the view shows it, extensions aside
pub event_written : (n : NoticeInCode) (event : Bor Event) (s : Store) (lane : ℕ) (mask : FilterSet) (x y : Outline)
    → ShowsPlainly s lane mask → n ≡ notice.Event event
    → WritesLine (line_of event.now (view_of s lane mask)) x y → Writes (notice_of n) (plain_view s lane mask) x y
event_written n event s lane mask x y law is written =
    subst (λ (o : NoticeInCode). Writes (notice_of o) (plain_view s lane mask) x y)
    (sym is) (subst (λ (l : List ℕ). WritesLine l x y) (line_plainly s lane mask event.now law) written)

-- ---- what it wrote of a list

abbrev pub HearsAll : Observer Outline → Heard → Observer Outline → Type 0
HearsAll x h y = HearsBy (λ x p e lane under v y w. ObserverStep outline_steps (observer_of x) p e lane under v (observer_of y) w) x Here h y

-- where it hasn't failed, it hadn't, and has this text more
abbrev pub HasMore : List ℕ → Outline → Outline → Type 0
HasMore more x y = has_failed y ≡ false → (has_failed x ≡ false) × (text_in y ≡ text_in x ++ more)

none_more : (x y : Outline) → y ≡ x → HasMore [] x y
none_more x y same now = (ap has_failed (sym same) ∙ now, ap text_in same ∙ sym (append-nil (text_in x)))

one_more : (line : List ℕ) (x y : Outline) → WritesLine line x y → HasMore line x y
one_more line x y (inl a) now = (a.before, a.text)
one_more line x y (inr l) now = absurd (true≢false (sym l.failed ∙ now))

more_told : (e : Notice) (v : View) (x y : Outline) → Writes e v x y → HasMore (text_due e v) x y
more_told (OnEvent e) v x y w = one_more (line_of e v) x y w
more_told (OnNewSpan attrs id) v x y w = none_more x y w
more_told (OnRecord id values) v x y w = none_more x y w
more_told (OnFollows id other) v x y w = none_more x y w
more_told (OnEnter id) v x y w = none_more x y w
more_told (OnExit id) v x y w = none_more x y w
more_told (OnIdChange id other) v x y w = none_more x y w
more_told (OnClose id) v x y w = none_more x y w

further : (m n : List ℕ) (x y z : Outline) → HasMore m x y → HasMore n y z → HasMore (m ++ n) x z
further m n x y z a b now =
    let late = b now in
    let early = a late.0 in
    (early.0, late.1 ∙ ap (λ (us : List ℕ). us ++ n) early.1 ∙ append_assoc (text_in x) m n)

-- an outline that heard this has its text more, unless it failed
pub heard_text : (h : Heard) (x y : Observer Outline) → HearsAll x h y → HasMore (text_of h) (observer_of x) (observer_of y)
heard_text [] x y a = none_more (observer_of x) (observer_of y) (ap (λ (z : Observer Outline). observer_of z) (sym a))
heard_text (told ∷ h) x y a =
    let step = subst (λ (v : View). Writes told.notice v (observer_of x) (observer_of a.0)) (sym a.1.shown) a.1.step.1.0 in
    further (text_due told.notice told.view)
    (text_of h) (observer_of x) (observer_of a.0) (observer_of y) (more_told told.notice told.view _ _ step) (heard_text h a.0 y a.2)

-- ---- in a stack

-- a recorder on a new registry
abbrev pub RecorderOn : LevelFilter → RecorderState → RegistryState → Recorded → Type 0
RecorderOn level r s x = PutOn itself another bare_form (λ i w. refl) (λ i w f h. h) level (Terminal Base) 0 r s x

-- and a layer on that
abbrev pub OutlineOn : LevelFilter → LevelFilter → Observer Outline → Recorded → Outlined → Type 0
OutlineOn level other k i x = PutOn inner_of with_inner (on_form bare_form) (λ j w. refl) (λ j w f h. h) level (form_on other 0 (Terminal Base)) 1 k i x

-- as they begin
pub new_outlined : (level other : LevelFilter) (s : RegistryState) (r : RecorderState) (k : Observer Outline) (i : Recorded) (x : Outlined)
    → r ≡ new_recorder → text_in (observer_of k) ≡ [] → has_failed (observer_of k) ≡ false
    → RecorderOn other r s i → OutlineOn level other k i x → IsNewOutlined level other x
new_outlined level other s r k i x empty blank sound recorder layer =
    let same : layer_of (outer_of x) ≡ k = layer.inner in
    let below : outer_of (inner_of x) ≡ outer_of i = ap (λ (j : Recorded). outer_of j) layer.below in
    record {
      under = layer.own;
      text = ap (λ (o : Observer Outline). text_in (observer_of o)) same ∙ blank;
      failed = ap (λ (o : Observer Outline). has_failed (observer_of o)) same ∙ sound;
      beside = record {
        own = ap (λ (r : LeafUnder RecorderState). filter_of r) below ∙ recorder.own;
        inner = ap (λ (r : LeafUnder RecorderState). layer_of r) below ∙ recorder.inner ∙ empty;
      };
    }

abbrev SameLayer : {K : Type 0} → LeafUnder K → LeafUnder K → Type 0
SameLayer x y = (id_of y ≡ id_of x) × (filter_of y ≡ filter_of x) × (layer_of y ≡ layer_of x)

-- to be put in use makes no difference to that
pub new_in_use : (level other : LevelFilter) (x y : Outlined)
    → SameLayer (outer_of x) (outer_of y) × (SameLayer (outer_of (inner_of x)) (outer_of (inner_of y)) × (inner_of (inner_of y) ≡ inner_of (inner_of x)))
    → IsNewOutlined level other x → IsNewOutlined level other y
new_in_use level other x y same new = record {
  under = same.0.1 ∙ new.under;
  text = ap (λ (o : Observer Outline). text_in (observer_of o)) same.0.2 ∙ new.text;
  failed = ap (λ (o : Observer Outline). has_failed (observer_of o)) same.0.2 ∙ new.failed;
  beside = record { own = same.1.0.1 ∙ new.beside.own; inner = same.1.0.2 ∙ new.beside.inner };
}

-- a whole copy of what it wrote from the beginning is the text of all that it heard
pub whole_text : (h : Heard) (x y : Observer Outline) (o : Outline) (s : String Global)
    → text_in (observer_of x) ≡ [] → HearsAll x h y → o ≡ observer_of y → Copies o s → string_bytes s ≡ text_of h
whole_text h x y o s blank heard same copy =
    let more = heard_text h x y heard (ap has_failed (sym same) ∙ copy.whole) in
    copy.text ∙ ap text_in same ∙ more.1 ∙ ap (λ (us : List ℕ). us ++ text_of h) blank
