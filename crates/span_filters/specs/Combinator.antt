-- What filters made of other filters answer, each as the table of its parts' answers.
use Rattle.std.specs.Prelude.{◌≡◌, ⊤, ℕ, true, false, not, ◌&&◌, ◌||◌, Option, Some, None}
use Rattle.span_core.specs.Filters.{FilterSet}
use Rattle.span_core.specs.Level.{lesser, wider_hint}
use Rattle.span_core.specs.declared.interest.Interest.TheVariants.{Always, Never, Sometimes}
use Rattle.span_core.specs.declared.interest.Interest.{Interest}
use Rattle.span_core.specs.declared.level.LevelFilter.{LevelFilter}
use Rattle.span_filters.specs.Filter.{FilterReloadSteps, FilterSteps}
use Rattle.span_filters.specs.declared.combinator.And.{And}
use Rattle.span_filters.specs.declared.combinator.Not.{Not}
use Rattle.span_filters.specs.declared.combinator.Or.{Or}
use Rattle.span_store.specs.Store.{RegistryState}
use Rattle.span_registry.specs.Behaviour.{Behaviour, Conduct, Notice, notices_of}
use Rattle.span_registry.specs.Subscriber.{SameButExtensions}

-- the interest of a filter that enables what both parts do: never where either is, always where
-- both are
abbrev pub and_interest : Interest → Interest → Interest
and_interest Never j = Never
and_interest Sometimes Never = Never
and_interest Sometimes Sometimes = Sometimes
and_interest Sometimes Always = Sometimes
and_interest Always j = j

-- the interest of a filter that enables what either part does: always where either is, never where
-- both are
abbrev pub or_interest : Interest → Interest → Interest
or_interest Always j = Always
or_interest Sometimes Always = Always
or_interest Sometimes Sometimes = Sometimes
or_interest Sometimes Never = Sometimes
or_interest Never j = j

-- an interest with always and never exchanged
abbrev pub not_interest : Interest → Interest
not_interest Always = Never
not_interest Sometimes = Sometimes
not_interest Never = Always

-- the lesser hint of two, and none where either is none
abbrev pub and_hint : Option LevelFilter → Option LevelFilter → Option LevelFilter
and_hint (Some f) (Some g) = Some (lesser f g)
and_hint (Some f) None = None
and_hint None h = None

-- the greater hint of two, and none where either is none
abbrev pub or_hint : Option LevelFilter → Option LevelFilter → Option LevelFilter
or_hint = wider_hint

-- what a filter answers that enables what both parts do
abbrev pub and_answers : Behaviour → Behaviour → Behaviour
and_answers a b = record {
  enabled = λ m v. a.enabled m v && b.enabled m v;
  event = λ e v. a.event e v && b.event e v;
  interest = λ m. and_interest (a.interest m) (b.interest m);
  hint = and_hint a.hint b.hint;
  takes = λ l. false;
}

-- what a filter answers that enables what either part does
abbrev pub or_answers : Behaviour → Behaviour → Behaviour
or_answers a b = record {
  enabled = λ m v. a.enabled m v || b.enabled m v;
  event = λ e v. a.event e v || b.event e v;
  interest = λ m. or_interest (a.interest m) (b.interest m);
  hint = or_hint a.hint b.hint;
  takes = λ l. false;
}

-- what a filter answers that enables the metadata that its part refuses: every event is enabled,
-- and there is no hint
abbrev pub not_answers : Behaviour → Behaviour
not_answers a = record {
  enabled = λ m v. not (a.enabled m v);
  event = λ e v. true;
  interest = λ m. not_interest (a.interest m);
  hint = None;
  takes = λ l. false;
}

-- the answers of a filter of two parts
pub record HasBoth {A B : Type 0} (join : Behaviour → Behaviour → Behaviour)
    (first : A → Behaviour → Type 0) (second : B → Behaviour → Type 0) (a : A) (b : B)
    (c : Behaviour) : Type 0 where
  pub left : Behaviour
  pub right : Behaviour
  pub has_left : first a left
  pub has_right : second b right
  pub joined : c ≡ join left right

-- a filter of two parts is notified: the first part, which may write extensions, and then the
-- second
pub record StepsBoth {A B : Type 0} (first : FilterSteps A) (second : FilterSteps B) (a : A) (b : B)
    (e : Notice) (lane : ℕ) (under : FilterSet) (v : RegistryState) (c : A) (d : B)
    (w : RegistryState) : Type 0 where
  pub between : RegistryState
  pub left : first a e lane under v c between
  pub extensions : SameButExtensions v between
  pub right : second b e lane under between d w

-- a filter of two parts has the conduct of its parts, which are notified, and take no setting
pub record ActsBoth {A B : Type 0} (join : Behaviour → Behaviour → Behaviour)
    (first : A → Conduct → Type 0) (second : B → Conduct → Type 0) (a : A) (b : B)
    (c : Conduct) : Type 0 where
  pub left : Conduct
  pub right : Conduct
  pub acts_left : first a left
  pub acts_right : second b right
  pub joined : c ≡ (λ h. join (left (notices_of h)) (right (notices_of h)))

-- the answers of a filter of one part
pub record HasOne {A : Type 0} (turn : Behaviour → Behaviour) (part : A → Behaviour → Type 0)
    (a : A) (c : Behaviour) : Type 0 where
  pub inside : Behaviour
  pub has_inside : part a inside
  pub turned : c ≡ turn inside

-- the conduct of a filter of one part
pub record ActsOne {A : Type 0} (turn : Behaviour → Behaviour) (part : A → Conduct → Type 0) (a : A)
    (c : Conduct) : Type 0 where
  pub inside : Conduct
  pub acts_inside : part a inside
  pub turned : c ≡ (λ h. turn (inside (notices_of h)))

-- a filter that enables what both parts do has these parts, the first one first
pub record IsAnd {A B : Type 0} (f : And A B) (a : A) (b : B) : Type 0 where
  pub first : f.a ≡ a
  pub second : f.b ≡ b

-- a filter that enables what either part does has these parts, the first one first
pub record IsOr {A B : Type 0} (f : Or A B) (a : A) (b : B) : Type 0 where
  pub first : f.a ≡ a
  pub second : f.b ≡ b

-- a filter that enables what its part refuses has this part
abbrev pub IsNot : {A : Type 0} → Not A → A → Type 0
IsNot f a = f.a ≡ a

-- the answers of a filter that enables everything
abbrev pub all_answers : Behaviour
all_answers = record {
  enabled = λ m v. true;
  event = λ e v. true;
  interest = λ m. Always;
  hint = None;
  takes = λ l. false;
}

-- the answers of an optional filter: those of the filter that it holds; where it holds none,
-- everything is enabled
abbrev pub HasPart : {F : Type 0} → (F → Behaviour → Type 0) → Option F → Behaviour → Type 0
HasPart has (Some f) a = has f a
HasPart has None a = a ≡ all_answers

-- an optional filter is notified: the filter that it holds, or nobody
abbrev pub StepsPart : {F : Type 0} → FilterSteps F → FilterSteps (Option F)
StepsPart steps (Some f) e lane under v (Some g) w = steps f e lane under v g w
StepsPart steps (Some f) e lane under v None w = ⊥
StepsPart steps None e lane under v (Some g) w = ⊥
StepsPart steps None e lane under v None w = w ≡ v

-- an optional filter is reloaded: the filter that it holds is
abbrev pub ReloadsPart : {F : Type 0} → FilterReloadSteps F → FilterReloadSteps (Option F)
ReloadsPart reloaded (Some f) l (Some g) = reloaded f l g
ReloadsPart reloaded None l None = ⊤
ReloadsPart reloaded f l g = ⊥

-- the conduct of an optional filter: that of the filter that it holds; where it holds none,
-- everything is enabled
abbrev pub ActsPart : {F : Type 0} → (F → Conduct → Type 0) → Option F → Conduct → Type 0
ActsPart acts (Some f) b = acts f b
ActsPart acts None b = b ≡ (λ h. all_answers)

-- the first part of a filter that enables what both parts do
abbrev pub first_of_and : {A B : Type 0} → And A B → A
first_of_and f = f.a

-- the second part of a filter that enables what both parts do
abbrev pub second_of_and : {A B : Type 0} → And A B → B
second_of_and f = f.b

-- the first part of a filter that enables what either part does
abbrev pub first_of_or : {A B : Type 0} → Or A B → A
first_of_or f = f.a

-- the second part of a filter that enables what either part does
abbrev pub second_of_or : {A B : Type 0} → Or A B → B
second_of_or f = f.b

-- the part of a filter that enables what its part refuses
abbrev pub part_of_not : {A : Type 0} → Not A → A
part_of_not f = f.a

-- of a filter that enables what both parts do, one predicate holds of the first part, the other of
-- the second
abbrev pub AndPartsAre : {A B : Type 0} → (A → Type 0) → (B → Type 0) → And A B → Type 0
AndPartsAre first second f = first (first_of_and f) × second (second_of_and f)

-- of a filter that enables what either part does, one predicate holds of the first part, the other
-- of the second
abbrev pub OrPartsAre : {A B : Type 0} → (A → Type 0) → (B → Type 0) → Or A B → Type 0
OrPartsAre first second f = first (first_of_or f) × second (second_of_or f)
