-- A run of a stack whose form only settings change, said of its registry and that form alone.
use Rattle.std.proofs.Common.{◌≡◌, ℕ, List, [], ◌∷◌, ◌++◌, Option, Some, None, refl, sym, ap, subst}
use Rattle.std.specs.List.{FoldsTo}
use Rattle.span_targets.specs.declared.setting.Setting.{Setting}
use Rattle.span_dispatch.specs.Cache.{KeptCallsites}
use Rattle.span_dispatch.specs.declared.call.Call.{Call}
use Rattle.span_dispatch.specs.Outcome.{IsHonest, LayersGo, Reloaded, OutcomeAt, Makes, Noticed, Outcome, Quiet}
use Rattle.span_dispatch.specs.Serve.{Formed, Run, ServesAsked, call_of}
use Rattle.span_dispatch.specs.declared.request.Answer.{Answer}
use Rattle.span_dispatch.specs.declared.request.Request.{Request}
use Rattle.span_store.specs.Store.{RegistryState, Store}
use Rattle.span_registry.specs.Behaviour.{Notice}
use Rattle.span_registry.specs.Form.{Form}
use Rattle.span_registry.specs.Hooks.{StackSteps}
use Rattle.span_registry.specs.Reload.{ReloadSteps}
use Rattle.span_registry.specs.Plan.{Plan}
use Rattle.span_script.specs.Runs.{reloaded_at}

-- how a registry with a form goes on
abbrev registry_in : Formed → RegistryState
registry_in r = r.0

abbrev with_registry_in : Formed → RegistryState → Formed
with_registry_in r w = (w, r.1)

abbrev has_this : Formed → Form → Type 0
has_this r h = h ≡ r.1

abbrev steps_in : StackSteps Formed
steps_in r p e lane v q w = q.1 ≡ r.1

abbrev levels_in : ReloadSteps Formed
levels_in r n l q = q.1 ≡ reloaded_at n l r.1

-- a stack is so in what decides its form, which is this one
module _ {S : Type 0} (registry : S → RegistryState)
    (with_registry : S → RegistryState → S) (has_form : S → Form → Type 0) (stepped : StackSteps S) (reloaded : ReloadSteps S) (Stays : S → Form → Type 0)
    (known : (x : S) (f g : Form) → Stays x f → has_form x g → g ≡ f) (goes : (x : S) (f : Form)
    (p : Plan) (e : Notice) (lane : ℕ) (v : RegistryState) (y : S) (w : RegistryState) → stepped x p e lane v y w → Stays x f → Stays y f)
    (aside : (x : S) (f : Form) (w : RegistryState) → Stays x f
    → Stays (with_registry x w) f) (set : (x : S) (f : Form) (n : ℕ) (l : Setting) (y : S) → reloaded x n l y → Stays x f → Stays y (reloaded_at n l f)) where
  abbrev MakesIn : Formed → OutcomeAt → Formed → Type 0
  MakesIn s m t = Makes registry_in with_registry_in has_this steps_in levels_in s m t

  honest : (f g : Form) (x : S) → Stays x f
      → IsHonest registry with_registry has_form stepped reloaded g x → IsHonest registry_in with_registry_in has_this steps_in levels_in g (registry x, f)
  honest f g x stays h = record { has = known x f g stays h.has; rules = h.rules }

  -- it stays so by this form, and its layers go on so in it
  abbrev StaysOn : (g : Form) (o : Outcome) (s t : Store) (f : Form) (x y : S) → Type 0
  StaysOn g o s t f x y = (h : Form) × Stays y h × LayersGo registry_in with_registry_in has_this steps_in levels_in g o s t (registry x, f) (registry y, h)

  stays_on : (g : Form) (o : Outcome) (s t : Store) (f : Form) (x y : S)
      → Stays x f → LayersGo registry with_registry has_form stepped reloaded g o s t x y → StaysOn g o s t f x y
  stays_on g (Noticed lane e) s t f x y stays n = (
    f,
    subst (λ z. Stays z f) (sym n.rest) (aside n.notified f (registry y) (goes x f _ e lane.0 n.left n.notified (registry n.notified) n.layers stays)),
    record { left = n.left; given = n.given; notified = (registry n.notified, f); layers = refl; hooks = n.hooks; ends = n.ends; rest = refl },
  )
  stays_on g (Quiet c) s t f x y stays quiet = (f, subst (λ z. Stays z f) (sym quiet.1) (aside x f (registry y) stays), (quiet.0, refl))
  stays_on g (Reloaded n l) s t f x y stays q = (reloaded_at n l f, set x f n l y q.1 stays, (q.0, refl, q.2))

  -- so through all that is made
  abbrev StaysThrough : Form → S → List OutcomeAt → S → Type 0
  StaysThrough f x ms y = (h : Form) × Stays y h × FoldsTo MakesIn (registry x, f) ms (registry y, h)

  through : (f : Form) (x : S) (ms : List OutcomeAt) (y : S)
      → Stays x f → FoldsTo (Makes registry with_registry has_form stepped reloaded) x ms y → StaysThrough f x ms y
  through f x [] y stays h = (f, subst (λ z. Stays z f) h stays, ap (λ z. (registry z, f)) h)
  through f x (m ∷ ms) y stays h =
      let one = stays_on m.form m.outcome m.before m.after f x h.0 stays h.1.layers in
      let rest = through one.0 h.0 ms y one.1 h.2 in (
        rest.0,
        rest.1,
        ((registry h.0, one.0), record { honest = honest f m.form x stays h.1.honest; before = h.1.before; steps = h.1.steps; layers = one.2 }, rest.2),
      )

  abbrev AskedIn : Option Call → KeptCallsites → Form → S → Answer → List OutcomeAt → KeptCallsites → S → Type 0
  AskedIn o memory f x a ms after y =
      (h : Form) × Stays y h × ServesAsked registry_in with_registry_in has_this steps_in levels_in o memory (registry x, f) a ms after (registry y, h)

  asked_in : (o : Option Call) (memory : KeptCallsites) (f : Form) (x : S) (a : Answer) (ms : List OutcomeAt) (after : KeptCallsites) (y : S)
      → Stays x f → ServesAsked registry with_registry has_form stepped reloaded o memory x a ms after y → AskedIn o memory f x a ms after y
  asked_in None memory f x a ms after y stays h = (f, subst (λ z. Stays z f) (sym h.3) stays, (h.0, h.1, h.2, ap (λ z. (registry z, f)) h.3))
  asked_in (Some call) memory f x a ms after y stays h =
      let all = through f x ms y stays h.2.goes in (
        all.0,
        all.1,
        (h.0, record { honest = honest f h.0 x stays h.1.honest; settled = h.1.settled }, record { says = h.2.says; goes = all.2; answers = h.2.answers }),
      )

  -- a run of such a stack is a run by its form
  pub runs_by : (past : List Answer) (rs : List Request) (answers : List Answer) (made : List (List OutcomeAt)) (memory : KeptCallsites) (f : Form)
      (x : S) (after : KeptCallsites) (y : S) → Stays x f → Run registry with_registry has_form stepped reloaded past rs answers made memory x after y
      → (g : Form) × Stays y g × Run registry_in with_registry_in has_this steps_in levels_in past rs answers made memory (registry x, f) after (registry y, g)
  runs_by past [] [] [] memory f x after y stays h = (f, subst (λ z. Stays z f) (sym h.1) stays, (h.0, ap (λ z. (registry z, f)) h.1))
  runs_by past (q ∷ rs) (b ∷ answers) (ms ∷ made) memory f x after y stays h =
      let one = asked_in (call_of past q) memory f x b ms h.0 h.1 stays h.2 in
      let rest = runs_by (past ++ (b ∷ [])) rs answers made h.0 one.0 h.1 after y one.1 h.3 in
      (rest.0, rest.1, (h.0, (registry h.1, one.0), one.2, rest.2))
  runs_by past other rest made memory f x after y stays h = absurd h
