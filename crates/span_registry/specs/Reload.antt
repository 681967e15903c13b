-- How filters of layers and stacks take a setting: which filter takes it, what the form keeps then,
-- and what the paths do.
use Rattle.std.specs.Prelude.{◌≡◌, ℕ, Bool, true, false, ◌||◌, if◌then◌else◌, []}
use Rattle.span_registry.specs.Behaviour.{Behaviour, AreHonest}
use Rattle.span_registry.specs.Conducts.{ActsAt, Conducts, filter_numbered, reloading}
use Rattle.span_registry.specs.Form.{Terminal, Filtered, Form, Leaf, Parts}
use Rattle.span_registry.specs.KeptForm.{AnswersKeep}
use Rattle.span_registry.specs.Position.{HearSteps, Position}
use Rattle.span_targets.specs.declared.setting.Setting.{Setting}

-- whether a filter with this number takes this setting: each part is asked, but what stands under
-- that filter isn't
abbrev pub takes_setting : Form → ℕ → Setting → Bool
takes_setting (Filtered m a f) n setting =
    if filter_numbered m n then a.takes setting else takes_setting f n setting
takes_setting (Parts k o i) n setting = takes_setting o n setting || takes_setting i n setting
takes_setting other n setting = false

-- the form g, where the form was f and filters may have taken settings: the parts stand together as
-- they did, filters have the numbers that they had and answer honestly where they did, and leaves
-- keep interest, hint, honesty, and that they refuse nothing
abbrev pub KeepsRules : Form → Form → Type 0
KeepsRules (Leaf still a) (Leaf quiet b) = (quiet ≡ still) × AnswersKeep a b
KeepsRules (Filtered n a f) (Filtered m b g) =
    (m ≡ n) × (AreHonest a → AreHonest b) × KeepsRules f g
KeepsRules (Parts k o i) (Parts l p j) = (l ≡ k) × KeepsRules o p × KeepsRules i j
KeepsRules (Terminal v) (Terminal w) = w ≡ v
KeepsRules f g = ⊥

-- a filter with the number may answer otherwise, honestly if it did before, with all under it
-- unchanged; a filter without the number answers as it did, and what stands under it may change
abbrev pub EitherReloaded : Bool → Behaviour → Behaviour → Type 0 → Type 0 → Type 0
EitherReloaded true a b same rest = (AreHonest a → AreHonest b) × same
EitherReloaded false a b same rest = (b ≡ a) × rest

-- the form g, where the form was f and the filter with this number may have taken a setting: all
-- but that filter's answers is as it was
abbrev pub ReloadedForm : ℕ → Form → Form → Type 0
ReloadedForm n (Filtered m a f) (Filtered k b g) =
    (k ≡ m) × EitherReloaded (filter_numbered m n) a b (g ≡ f) (ReloadedForm n f g)
ReloadedForm n (Parts k o i) (Parts l p j) = (l ≡ k) × ReloadedForm n o p × ReloadedForm n i j
ReloadedForm n f g = g ≡ f

-- some form is had in which only the filter with this number answers otherwise
abbrev pub FollowsReload : (Form → Type 0) → ℕ → Form → Type 0
FollowsReload has n f = (g : Form) × has g × ReloadedForm n f g

-- how a layer or a stack goes on when a filter is reloaded: which becomes which, where the filter
-- with this number was to take this setting
abbrev pub ReloadSteps : Type 0 → Type 1
ReloadSteps T = T → ℕ → Setting → T → Type 0

-- how what has no filter goes on when a filter is reloaded: unchanged
abbrev pub unreloaded : {T : Type 0} → ReloadSteps T
unreloaded x n setting y = y ≡ x

-- the law of reloading: where a filter takes a setting, no answers change but its own, no leaf is
-- notified, and on each path that holds the filter only that filter goes on by the setting
pub record ReloadLaws {T : Type 0} (has_form : T → Form → Type 0) (reloaded : ReloadSteps T)
    (hears : HearSteps T) (acts_at : ActsAt T) : Type 0 where
  pub keeps : (x : T) (n : ℕ) (setting : Setting) (y : T) (f : Form)
      → reloaded x n setting y → has_form x f → FollowsReload (has_form y) n f
  pub heard : (x : T) (n : ℕ) (setting : Setting) (y : T) (position : Position)
      → reloaded x n setting y → hears x position [] y
  pub acts : (x : T) (n : ℕ) (setting : Setting) (y : T) (position : Position) (cs : Conducts)
      → reloaded x n setting y → acts_at x position cs
      → acts_at y position (reloading n setting cs)
