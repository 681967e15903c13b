-- A new registry with an honest layer on it is ready.
use Rattle.std.proofs.Common.{◌≡◌, ◌<◌, ◌+◌, ℕ, arith, ap, refl, subst, sym}
use Rattle.span_core.specs.declared.filter.TheConstants.FilterId.{LIMIT}
use Rattle.span_dispatch.specs.Serve.{IsReady}
use Rattle.span_stacks.proofs.CallerLemmas.{bare_stands, stands_on}
use Rattle.span_stacks.specs.Attach.{Attaches}
use Rattle.span_stacks.specs.Honest.{IsHonestLayer, IsHonestStack}
use Rattle.span_layers.specs.Number.{filters_in, numbered}
use Rattle.span_stacks.specs.Stands.{Stands, another, base_form, itself, registry_on, stack_form}
use Rattle.span_stacks.specs.Verdict.{NumbersStayOwn}
use Rattle.span_stacks.specs.declared.layered.Layered.{Layered}
use Rattle.span_store.specs.Closes.{HasNoClosing}
use Rattle.span_store.specs.Store.{RegistryState, Store, new_registry}
use Rattle.span_store.specs.declared.limits.Limits.{Limits}
use Rattle.span_registry.proofs.CallerLemmas.{settled_new}
use Rattle.span_registry.specs.Form.{Base, Form, OnSubscriber, Parts, Terminal}
use Rattle.span_registry.specs.Hooks.{StackSteps}
use Rattle.span_registry.specs.Reload.{ReloadSteps}
use Rattle.span_show.specs.Serve.{HasRoomOnNew}

-- what stands without spans is ready
pub ready : {S : Type 0} {registry : S → RegistryState} {has_form : S → Form → Type 0}
    (with_registry : S → RegistryState → S) (stepped : StackSteps S) (reloaded : ReloadSteps S) (f : Form) (n : ℕ) (x : S) → Stands registry has_form f n x
    → (g : Form) × IsReady registry with_registry has_form stepped reloaded g x
ready {registry = registry} with_registry stepped reloaded f n x h = (
  f,
  record {
    honest = record { has = h.has; rules = subst (λ k. IsHonestStack f k) (sym h.filters) h.rules };
    settled = subst HasNoClosing (sym (ap (λ (s : Store). s.spans) h.empty)) (settled_new (registry x).limits);
  },
)

-- what an honest layer on a new registry makes stands
pub stands_new : {L : Type 0} {usable : L → Type 0} {inner_usable : RegistryState → Type 0} {has_form : L → Form → Type 0} {attached : L → L → Type 0}
    → NumbersStayOwn → (l : Limits) (s : RegistryState) (layer : L) (x : Layered L RegistryState) → s ≡ new_registry l
    → (h : HasRoomOnNew has_form layer) → Attaches itself another inner_usable usable has_form attached layer s x
    → Stands (registry_on itself) (stack_form has_form base_form) (Parts OnSubscriber (numbered h.form 0).0 (Terminal Base)) (numbered h.form 0).1 x
stands_new law l s layer x new h put =
    stands_on law (λ t w. refl) (λ t w f has. has) h.form (Terminal Base) 0 layer s x h.has h.honest (bare_stands l s new) put

-- a new registry has room for it
pub never_full : {L : Type 0} {has_form : L → Form → Type 0} (l : Limits) (s : RegistryState) (layer : L)
    → s ≡ new_registry l → (h : HasRoomOnNew has_form layer) → ((f : Form) → has_form layer f → LIMIT < s.filters + filters_in f) → ⊥
never_full l s layer new h full =
    let none : s.filters ≡ 0 = ap (λ (t : RegistryState). t.filters) new in
    let more : LIMIT < s.filters + filters_in h.form = full h.form h.has in
    let room = h.room in
    omega (arith, none, more, room)
