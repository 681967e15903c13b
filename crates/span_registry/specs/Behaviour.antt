-- What a filter answers, as functions of what it is asked and of the view that it is asked in; when
-- that is honest, and when plain.
use Rattle.std.specs.Prelude.{◌≡◌, ⊤, ℕ, Bool, true, false, List, [], ◌∷◌, Option, None, Some}
use Rattle.std.specs.FinMap.{get}
use Rattle.std.specs.Option.{option_map}
use Rattle.span_core.specs.Filters.{FilterSet}
use Rattle.span_core.specs.Level.{is_above}
use Rattle.span_core.specs.Metadata.{ShowSame, level_of}
use Rattle.span_core.specs.declared.event.Event.{Event}
use Rattle.span_core.specs.declared.interest.Interest.TheVariants.{Always, Never}
use Rattle.span_core.specs.declared.interest.Interest.{Interest}
use Rattle.span_core.specs.declared.level.LevelFilter.{LevelFilter}
use Rattle.span_core.specs.declared.metadata.Metadata.{Metadata}
use Rattle.span_core.specs.declared.span.Attributes.{Attributes}
use Rattle.span_core.specs.declared.span.Id.{Id}
use Rattle.span_core.specs.declared.span.Record.{Record}
use Rattle.span_store.specs.Store.{Store}
use Rattle.span_registry.specs.View.{SeenSpan, View, view_of}
use Rattle.span_targets.specs.declared.setting.Setting.{Setting}

-- whether metadata pass; whether an event passes, where its metadata do; the interest in a
-- callsite; the hint; which settings it takes
pub record Behaviour : Type 0 where
  pub enabled : Metadata → View → Bool
  pub event : Event → View → Bool
  pub interest : Metadata → Interest
  pub hint : Option LevelFilter
  pub takes : Setting → Bool

-- an interest of always: passes in every view; of never, or a level above the hint: in none; and
-- metadata that show the same are of the same interest
pub record AreHonest (a : Behaviour) : Type 0 where
  pub always : (m : Metadata) (v : View) → a.interest m ≡ Always → a.enabled m v ≡ true
  pub never : (m : Metadata) (v : View) → a.interest m ≡ Never → a.enabled m v ≡ false
  pub above : (m : Metadata) (v : View) → is_above (level_of m) a.hint ≡ true
      → a.enabled m v ≡ false
  pub alike : (m k : Metadata) → ShowSame m k → a.interest m ≡ a.interest k

-- two behaviours answer the same, of each store, from each lane and under each mask
pub record AnswerAlike (a b : Behaviour) : Type 0 where
  pub enabled : (m : Metadata) (s : Store) (lane : ℕ) (mask : FilterSet)
      → a.enabled m (view_of s lane mask) ≡ b.enabled m (view_of s lane mask)
  pub event : (e : Event) (s : Store) (lane : ℕ) (mask : FilterSet)
      → a.event e (view_of s lane mask) ≡ b.event e (view_of s lane mask)

-- two behaviours have the same interest and the same hint
pub record SameInterestAndHint (a b : Behaviour) : Type 0 where
  pub interest : b.interest ≡ a.interest
  pub hint : b.hint ≡ a.hint

-- a span as it is seen, its extensions left out
abbrev pub unextended : SeenSpan → SeenSpan
unextended r = record r { extensions = None }

-- the two views differ in extensions alone
pub record AreAlike (v w : View) : Type 0 where
  pub lane : v.lane ≡ w.lane
  pub stack : v.stack ≡ w.stack
  pub spans : (x : ℕ) → option_map unextended (get v.spans x)
      ≡ option_map unextended (get w.spans x)

-- the answers are the same in views that differ in extensions alone
pub record ArePlain (a : Behaviour) : Type 0 where
  pub enabled : (m : Metadata) (v w : View) → AreAlike v w → a.enabled m v ≡ a.enabled m w
  pub event : (e : Event) (v w : View) → AreAlike v w → a.event e v ≡ a.event e w

-- what a layer is notified of. A filter is notified of new spans, records, enters, exits and closes
-- alone
pub data Notice : Type 0 where
  OnNewSpan : Attributes → Id → Notice
  OnRecord : Id → Record → Notice
  OnFollows : Id → Id → Notice
  OnEvent : Event → Notice
  OnEnter : Id → Notice
  OnExit : Id → Notice
  OnIdChange : Id → Id → Notice
  OnClose : Id → Notice

-- the span that a notice is of: an event is of none, and of two it is the first, since the other
-- may be gone
abbrev pub span_in : Notice → Option Id
span_in (OnNewSpan attrs id) = Some id
span_in (OnRecord id values) = Some id
span_in (OnFollows id other) = Some id
span_in (OnEvent e) = None
span_in (OnEnter id) = Some id
span_in (OnExit id) = Some id
span_in (OnIdChange id other) = Some id
span_in (OnClose id) = Some id

-- what a filter is given: a notice, with the view that it is then given, or a setting to take
pub data Input : Type 0 where
  OfNotice : Notice → View → Input
  OfReload : Setting → Input

-- what a filter will be given, first things first
abbrev pub History : Type 0
History = List Input

-- how a filter will answer after each history
abbrev pub Conduct : Type 0
Conduct = List Input → Behaviour

-- two histories have the same notices, in views that differ in extensions only, and the same
-- settings
abbrev pub AreAlikeHistories : History → History → Type 0
AreAlikeHistories [] [] = ⊤
AreAlikeHistories (OfNotice e v ∷ h) (OfNotice d w ∷ k) =
    (e ≡ d) × AreAlike v w × AreAlikeHistories h k
AreAlikeHistories (OfReload setting ∷ h) (OfReload other ∷ k) =
    (setting ≡ other) × AreAlikeHistories h k
AreAlikeHistories h k = ⊥

-- the notices of a history, without the settings: what a filter goes by that takes none
abbrev pub notices_of : History → History
notices_of [] = []
notices_of (OfNotice e v ∷ h) = OfNotice e v ∷ notices_of h
notices_of (OfReload setting ∷ h) = notices_of h

-- extensions make no difference: neither to the answers nor to what the filter learns from a notice
pub record IsPlain (conduct : Conduct) : Type 0 where
  pub answers : (h : History) → ArePlain (conduct h)
  pub history : (h k : History) → AreAlikeHistories h k → conduct h ≡ conduct k
