-- How the filters of a path act: what each answers now, and what it will answer after each notice.
use Rattle.std.specs.Prelude.{◌≡◌, ⊤, ℕ, if◌then◌else◌, List, [], ◌∷◌, Option, Some, None}
use Rattle.span_core.specs.Filters.{FilterSet, union}
use Rattle.span_targets.specs.declared.setting.Setting.{Setting}
use Rattle.span_store.specs.Store.{RegistryState}
use Rattle.span_registry.specs.Behaviour.{AnswerAlike, Conduct, IsPlain, OfReload, Notice, OnEvent, OnFollows, OnIdChange, OfNotice}
use Rattle.span_registry.specs.Form.{Form}
use Rattle.span_registry.specs.Hooks.{StackSteps, no_filter}
use Rattle.span_registry.specs.Path.{Path, path_at}
use Rattle.span_registry.specs.Plan.{Both, Plan, Through}
use Rattle.span_registry.specs.Position.{Here, Inner, Outer, Position, Under}
use Rattle.span_registry.specs.Question.{single}
use Rattle.span_registry.specs.Subscriber.{SameButExtensions}
use Rattle.span_registry.specs.View.{View, view_of}

-- the filters of a path from outside in, each by its number, if it has one, and its conduct
abbrev pub Conducts : Type 0
Conducts = List (Option ℕ × Conduct)

-- the path of these filters, as they answer now
abbrev pub path_now : Conducts → Path
path_now [] = []
path_now ((n, b) ∷ cs) = (n, b []) ∷ path_now cs

-- the filter of this number alone, or none
abbrev pub filter_numbered : Option ℕ → FilterSet
filter_numbered None = no_filter
filter_numbered (Some n) = single n

-- the numbers of the filters of a path
abbrev pub numbers_in : Conducts → FilterSet
numbers_in [] = no_filter
numbers_in ((n, b) ∷ cs) = union (filter_numbered n) (numbers_in cs)

-- each of these conducts is plain
abbrev pub ArePlainConducts : Conducts → Type 0
ArePlainConducts [] = ⊤
ArePlainConducts ((n, b) ∷ cs) = IsPlain b × ArePlainConducts cs

-- two paths have the same filters, one by one, which answer the same of each store
abbrev pub PathsAnswerAlike : Path → Path → Type 0
PathsAnswerAlike [] [] = ⊤
PathsAnswerAlike ((n, a) ∷ path) ((m, b) ∷ other) =
    (n ≡ m) × AnswerAlike a b × PathsAnswerAlike path other
PathsAnswerAlike path other = ⊥

-- a path stands at this position, and answers as these conducts now say
abbrev pub ActsNow : Form → Position → Conducts → Type 0
ActsNow f position cs =
    (path : Path) × (path_at f position ≡ Some path) × PathsAnswerAlike path (path_now cs)

-- the conduct of a filter after a notice that it was given in this view: it is notified of new
-- spans, records, enters, exits and closes alone
abbrev pub after_notice : Notice → View → Conduct → Conduct
after_notice (OnEvent e) v b = b
after_notice (OnFollows id other) v b = b
after_notice (OnIdChange id other) v b = b
after_notice e v b = λ h. b (OfNotice e v ∷ h)

-- the conduct of a filter that took a setting
abbrev pub after_reload : Setting → Conduct → Conduct
after_reload setting b = λ h. b (OfReload setting ∷ h)

-- the conducts of the filters of a path, once the one with this number took a setting
abbrev pub reloading : ℕ → Setting → Conducts → Conducts
reloading n setting [] = []
reloading n setting ((m, b) ∷ cs) =
    if filter_numbered m n then (m, after_reload setting b) ∷ cs
    else (m, b) ∷ reloading n setting cs

-- a filter learns of a notice, under these filters, in a registry that differs from this one in
-- extensions alone
pub record ConductAfter (e : Notice) (lane : ℕ) (under : FilterSet) (v : RegistryState)
    (b c : Conduct) : Type 0 where
  pub between : RegistryState
  pub extensions : SameButExtensions v between
  pub learnt : c ≡ after_notice e (view_of between.store lane under) b

-- how the path at a position goes on by a notice that a plan gives: each filter that the plan goes
-- through learns of it
abbrev pub ActOn : Position → Plan → Notice → ℕ → FilterSet → RegistryState → Conducts → Conducts
    → Type 0
ActOn (Outer position) (Both p q) e lane under v cs ds = ActOn position p e lane under v cs ds
ActOn (Inner position) (Both p q) e lane under v cs ds = ActOn position q e lane under v cs ds
ActOn Here (Through p) e lane under v ((n, b) ∷ []) ((m, c) ∷ []) =
    (m ≡ n) × ConductAfter e lane (union under (filter_numbered n)) v b c
ActOn (Under position) (Through p) e lane under v ((n, b) ∷ cs) ((m, c) ∷ ds) =
    (m ≡ n) × ConductAfter e lane (union under (filter_numbered n)) v b c
    × ActOn position p e lane (union under (filter_numbered n)) v cs ds
ActOn position p e lane under v cs ds = ds ≡ cs

-- which conducts the filters at a position have: only a path of plain filters has any
abbrev pub ActsAt : Type 0 → Type 1
ActsAt T = T → Position → Conducts → Type 0

-- the path at a position, of these conducts, has some that follow from them
abbrev pub ActsOn : {T : Type 0} → ActsAt T → T → Position → Plan → Notice → ℕ → FilterSet
    → RegistryState → Conducts → Type 0
ActsOn acts_at y position p e lane under v cs =
    (ds : Conducts) × acts_at y position ds × ActOn position p e lane under v cs ds

-- the law of the paths of a stack: they are of plain filters, whose conducts say what they now
-- answer, and go on with each notice; to be put in use, or another registry, makes no difference to
-- them
pub record StackPathLaws {S : Type 0} (with_registry : S → RegistryState → S)
    (has_form : S → Form → Type 0) (stepped : StackSteps S) (registered : S → S → Type 0)
    (acts_at : ActsAt S) : Type 0 where
  pub plain : (x : S) (position : Position) (cs : Conducts) → acts_at x position cs
      → ArePlainConducts cs
  pub now : (x : S) (position : Position) (cs : Conducts) (f : Form) → acts_at x position cs
      → has_form x f → ActsNow f position cs
  pub goes_on : (x : S) (p : Plan) (e : Notice) (lane : ℕ) (v : RegistryState) (y : S)
      (w : RegistryState) (position : Position) (cs : Conducts) → stepped x p e lane v y w
      → acts_at x position cs → ActsOn acts_at y position p e lane no_filter v cs
  pub put_in_use : (x y : S) (position : Position) (cs : Conducts) → registered x y
      → acts_at x position cs → acts_at y position cs
  pub acts_with : (x : S) (w : RegistryState) (position : Position) (cs : Conducts)
      → acts_at x position cs → acts_at (with_registry x w) position cs

-- the paths of what has no filter: no position has conducts
abbrev pub no_conducts : {T : Type 0} → ActsAt T
no_conducts x position cs = ⊥
