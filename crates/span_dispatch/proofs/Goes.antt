-- How an honest stack goes on: through a notice or a quiet change, after which it is honest; and how a call is served by one of these.
use Rattle.std.proofs.Common.{◌≡◌, ℕ, true, List, [], ◌∷◌, map, Option, refl, sym, ap, subst, ◌∙◌}
use Rattle.std.specs.FinMap.{remove}
use Rattle.std.specs.List.{FoldsTo}
use Rattle.std.specs.Option.{option_map}
use Rattle.span_targets.specs.declared.setting.Setting.{Setting}
use Rattle.span_core.specs.Filters.{FilterSet}
use Rattle.span_core.specs.Span.{number_of}
use Rattle.span_core.specs.declared.interest.Interest.{Interest}
use Rattle.span_core.specs.declared.span.Id.{Id}
use Rattle.span_core.specs.declared.span.Lane.{Lane}
use Rattle.span_dispatch.specs.Cache.{KeptCallsites, MatchesStack, IsUpToDate, forgotten, kept_in, no_callsite}
use Rattle.span_dispatch.specs.Call.{OutcomesOf, AnswersWith}
use Rattle.span_dispatch.specs.declared.call.Call.{Call}
use Rattle.span_dispatch.specs.declared.call.Call.TheVariants.{Reload}
use Rattle.span_dispatch.specs.Outcome.{Change, Ends, without_span, IsHonest, LayersGo, Reloaded, OutcomeAt, Makes, Noticed, Notices, Outcome, Quiet, Steps}
use Rattle.span_dispatch.specs.Outcome.{given_in}
use Rattle.span_dispatch.specs.Serve.{IsReady, IsReadyAfter, IsReadyBy, IsServed, stack_of}
use Rattle.span_dispatch.specs.declared.cache.Cache.TheVariants as cache
use Rattle.span_dispatch.specs.declared.cache.Cache.{Cache}
use Rattle.span_dispatch.specs.declared.cache.Known.{Known}
use Rattle.span_dispatch.specs.declared.dispatch.Dispatch.{Dispatch}
use Rattle.span_dispatch.specs.declared.request.Answer.TheVariants as answer
use Rattle.span_dispatch.specs.declared.request.Answer.{Answer}
use Rattle.span_stacks.proofs.Built.{rules_of}
use Rattle.span_stacks.proofs.HonestKept.{hint_is_kept, interest_is_kept}
use Rattle.span_stacks.proofs.RulesKept.{honesty_is_kept}
use Rattle.span_stacks.specs.Honest.{IsHonestStack}
use Rattle.span_store.specs.Closes.{HasNoClosing}
use Rattle.span_store.specs.Step.{TakesOut}
use Rattle.span_store.specs.Store.{RegistryState, Spans, Store}
use Rattle.span_registry.specs.Behaviour.{Notice, OnClose}
use Rattle.span_registry.specs.KeptForm.{HasKeptForm, KeepsForm}
use Rattle.span_registry.specs.laws.Form.{answers_again, kept_form, kept_rules, reload_rules, same_reloads}
use Rattle.span_registry.specs.Form.{Terminal, Filtered, Form, Leaf, Parts}
use Rattle.span_registry.specs.Hooks.{Notifies, StackLaws, StackSteps, no_filter}
use Rattle.span_registry.specs.Reload.{KeepsRules, ReloadLaws, ReloadSteps, ReloadedForm, takes_setting}
use Rattle.span_registry.specs.Conducts.{ActsAt}
use Rattle.span_registry.specs.Position.{HearSteps}
use Rattle.span_registry.specs.Plan.{asked_afresh, by_pass}
use Rattle.span_registry.specs.Subscriber.{SameButExtensions}

-- ---- what is kept of what was kept is kept

pub keeps_again : (f g h : Form) → KeepsForm f g → KeepsForm g h → KeepsForm f h
keeps_again (Leaf still a) (Leaf quiet b) (Leaf calm c) p q = (q.0 ∙ p.0, answers_again a b c p.1 q.1)
keeps_again (Filtered n a f) (Filtered m b g) (Filtered l c h) p q =
    (q.0 ∙ p.0, record { interest = q.1.interest ∙ p.1.interest; hint = q.1.hint ∙ p.1.hint }, (λ k. q.2 (p.2 k)), keeps_again f g h p.3 q.3)
keeps_again (Parts k o i) (Parts l p j) (Parts m q n) x y = (y.0 ∙ x.0, keeps_again o p q x.1 y.1, keeps_again i j n x.2 y.2)
keeps_again (Terminal v) (Terminal w) (Terminal z) p q = q ∙ p
keeps_again (Leaf still a) (Leaf quiet b) other p q = absurd q
keeps_again (Filtered n a f) (Filtered m b g) other p q = absurd q
keeps_again (Parts k o i) (Parts l p j) other x y = absurd y
keeps_again (Terminal v) (Terminal w) other p q = absurd q
keeps_again f g h p q = absurd p

-- ---- stores that are the same, extensions aside

-- the two are the same, extensions aside
pub record SameAside (s t : Store) : Type 0 where
  pub spans : t.spans ≡ s.spans
  pub issued : t.issued ≡ s.issued
  pub stacks : t.stacks ≡ s.stacks

pub same_aside : (s t : Store) → t ≡ s → SameAside s t
same_aside s t e = record { spans = ap (λ (u : Store). u.spans) e; issued = ap (λ (u : Store). u.issued) e; stacks = ap (λ (u : Store). u.stacks) e }

-- hooks that leave all but extensions leave the same registry with other extensions
pub with_others : {s t : RegistryState} → SameButExtensions s t → t ≡ record s { store = record s.store { extensions = t.store.extensions } }
with_others {s} {t} h = λ i. record {
  store = record { spans = h.spans i; extensions = t.store.extensions; issued = h.issued i; stacks = h.stacks i };
  limits = h.limits i;
  filters = h.filters i;
  retired = h.retired i;
  reserved = h.reserved i;
}

-- a notice ends in the store after its step, which hooks gave other extensions
ended : (f : Form) (lane : Lane) (e : Notice) (s t : Store) (u v w : RegistryState) → Steps f (Noticed lane e) s t → u.store ≡ given_in e s t
    → v ≡ record u { store = record u.store { extensions = v.store.extensions } } → Ends e v w → SameAside t w.store
ended f lane (OnClose id) s t u v w steps given hooks closed =
    let ends = closed.0 in
    let x = number_of id in record {
      spans = ap (λ (r : RegistryState). r.store.spans) ends ∙ ap (λ (m : Spans). remove m x)
          (ap (λ (r : RegistryState). r.store.spans) hooks ∙ ap (λ (r : Store). r.spans) given) ∙ sym (ap (λ (r : Store). r.spans) steps.1);
      issued =
          ap (λ (r : RegistryState). r.store.issued) (ends ∙ ap (λ (r : RegistryState). record r { store = without_span r.store x; retired = w.retired }) hooks)
          ∙ ap (λ (r : Store). r.issued) given ∙ sym (ap (λ (r : Store). r.issued) steps.1);
      stacks =
          ap (λ (r : RegistryState). r.store.stacks) (ends ∙ ap (λ (r : RegistryState). record r { store = without_span r.store x; retired = w.retired }) hooks)
          ∙ ap (λ (r : Store). r.stacks) given ∙ sym (ap (λ (r : Store). r.stacks) steps.1);
    }
ended f lane other s t u v w steps given hooks ends = record {
  spans = ap (λ (r : RegistryState). r.store.spans) (ends ∙ hooks) ∙ ap (λ (r : Store). r.spans) given;
  issued = ap (λ (r : RegistryState). r.store.issued) (ends ∙ hooks) ∙ ap (λ (r : Store). r.issued) given;
  stacks = ap (λ (r : RegistryState). r.store.stacks) (ends ∙ hooks) ∙ ap (λ (r : Store). r.stacks) given;
}

-- one that takes a span out ends so
pub ended_by : (id : Id) (s t : RegistryState) → TakesOut s (number_of id ∷ []) t → Ends (OnClose id) s t
ended_by id s t h = (
  (λ i. record { store = h.store i; limits = h.limits i; filters = h.filters i; retired = t.retired; reserved = h.reserved i }),
  h.retired,
  h.no_other,
  h.late,
)

module _ {S : Type 0} (registry : S → RegistryState)
    (with_registry : S → RegistryState → S) (has_form : S → Form → Type 0) (stepped : StackSteps S) (reloaded : ReloadSteps S) where
  -- of a call that was answered so this was made, as its answer says, and the stack went through it
  pub record Tells (call : Call) (x : S) (a : Answer) (made : List OutcomeAt) (y : S) : Type 0 where
    pub says : OutcomesOf call a (registry x).store (map (λ m. m.outcome) made)
    pub goes : FoldsTo (Makes registry with_registry has_form stepped reloaded) x made y

  -- something was made so of a call
  abbrev pub IsTold : Call → Answer → S → S → Type 0
  IsTold call a x y = (made : List OutcomeAt) × Tells call x a made y

  -- what was made leaves its store, extensions aside
  pub left_aside : (x : S) (m : OutcomeAt) (y : S) → Makes registry with_registry has_form stepped reloaded x m y → SameAside m.after (registry y).store
  left_aside x m y h = by_outcome m.outcome m.before m.after h.before h.steps h.layers
    where
      by_outcome : (o : Outcome) (s t : Store) → s ≡ (registry x).store
          → Steps m.form o s t → LayersGo registry with_registry has_form stepped reloaded m.form o s t x y → SameAside t (registry y).store
      by_outcome (Noticed lane e) s t before steps n =
          ended m.form lane e s t n.left (registry n.notified) (registry y) steps (ap (λ (r : RegistryState). r.store) n.given) n.hooks n.ends
      by_outcome (Quiet c) s t before steps quiet = same_aside t (registry y).store (ap (λ (r : RegistryState). r.store) quiet.0)
      by_outcome (Reloaded n l) s t before steps set = same_aside t (registry y).store (ap (λ (r : RegistryState). r.store) set.2 ∙ sym before ∙ sym steps)

-- what was made of a call, and how it was answered: so it is served
pub served_so : {S : Type 0} {registry : S → RegistryState} {with_registry : S → RegistryState → S} {has_form : S → Form → Type 0}
    {stepped : StackSteps S} {reloaded : ReloadSteps S} {call : Call} {f : Form} {kept after : KeptCallsites} {x y : S} {a : Answer}
    → IsTold registry with_registry has_form stepped reloaded call a x y
    → AnswersWith call kept f (registry x) a after → IsServed registry with_registry has_form stepped reloaded call f kept x a after y
served_so t e = (t.0, record { says = t.1.says; goes = t.1.goes; answers = e })

-- a registry that took a step to this one
pub aside_state : (s t : RegistryState) → t ≡ s → SameAside s.store t.store
aside_state s t e = same_aside s.store t.store (ap (λ (r : RegistryState). r.store) e)

pub filters_same : {s t : RegistryState} → t ≡ s → t.filters ≡ s.filters
filters_same e = ap (λ (r : RegistryState). r.filters) e

pub settled_aside : (s t : Store) → SameAside s t → HasNoClosing s.spans → HasNoClosing t.spans
settled_aside s t a h = subst HasNoClosing (sym a.spans) h

-- what the registry's own step makes of a notice: the store after it, which this registry has, extensions aside, on as many filters
pub record StepsTo (f : Form) (lane : Lane) (e : Notice) (s t : RegistryState) : Type 0 where
  pub after : Store
  pub steps : Steps f (Noticed lane e) s.store after
  pub given : t ≡ record s { store = given_in e s.store after }
  pub ends : (u : RegistryState) → Ends e u u
  pub filters : t.filters ≡ s.filters
  pub settled : HasNoClosing s.store.spans → HasNoClosing t.store.spans

module _ {S : Type 0} {registry : S → RegistryState} {with_registry : S → RegistryState → S}
    {usable : S → Type 0} {has_form : S → Form → Type 0} {stepped : StackSteps S} {hears : HearSteps S} {registered : S → S → Type 0}
    (laws : StackLaws with_registry usable has_form stepped hears registered) (with_own : (s : S) → with_registry s (registry s) ≡ s)
    (reloaded : ReloadSteps S) where
  abbrev pub Honest : Form → S → Type 0
  Honest f x = IsHonest registry with_registry has_form stepped reloaded f x

  -- a form that follows, on as many filters, is honest
  abbrev pub StillHonest : Form → S → S → Type 0
  StillHonest f x y = (g : Form) × Honest g y × KeepsForm f g × ((registry y).filters ≡ (registry x).filters)

  followed : (f : Form) (x y : S) → Honest f x → HasKeptForm (has_form y) f → (registry y).filters ≡ (registry x).filters → StillHonest f x y
  followed f x y h k e = (
    k.0,
    record { has = k.1; rules = subst (λ n. IsHonestStack k.0 n) (sym e) (honesty_is_kept f k.0 (registry x).filters (kept_rules f k.0 k.2) h.rules) },
    k.2,
    e,
  )

  elsewhere : (f : Form) (x y : S) (w : RegistryState) → y ≡ with_registry x w → HasKeptForm (has_form x) f → HasKeptForm (has_form y) f
  elsewhere f x y w e k = (k.0, subst (λ z. has_form z k.0) (sym e) (laws.form_with x w k.0 k.1), k.2)

  -- after a notice an honest stack is honest
  pub honest_after : (f : Form) (lane : Lane) (e : Notice) (s t : Store) (x y : S)
      → Honest f x → Notices registry with_registry has_form stepped reloaded f lane e s t x y → (registry y).filters ≡ (registry x).filters → StillHonest f x y
  honest_after f lane e s t x y h n filters =
      let next = laws.keeps x _ e lane.0 n.left n.notified (registry n.notified) f n.layers h.has in
      followed f x y h (elsewhere f n.notified y (registry y) n.rest next) filters

  -- after a quiet change it is
  pub honest_quietly : (f : Form) (x y : S) → Honest f x → y ≡ with_registry x (registry y) → (registry y).filters ≡ (registry x).filters → StillHonest f x y
  honest_quietly f x y h rest filters = followed f x y h (elsewhere f x y (registry y) rest (f, h.has, kept_form f)) filters

  -- ---- a call that is served by one outcome, or by none

  abbrev pub Ready : Form → S → Type 0
  Ready f x = IsReady registry with_registry has_form stepped reloaded f x

  -- it is ready again, by a form that keeps what the old one had, on as many filters
  abbrev pub StillReady : Form → S → S → Type 0
  StillReady f x y = (g : Form) × Ready g y × KeepsForm f g × ((registry y).filters ≡ (registry x).filters)

  -- it is told, and the stack is ready again where no span was closing
  abbrev pub Done : Call → Answer → Form → S → S → Type 0
  Done call a f x y = IsTold registry with_registry has_form stepped reloaded call a x y × (HasNoClosing (registry x).store.spans → StillReady f x y)

  pub by_none : (call : Call) (a : Answer) (f : Form) (x y : S) → Honest f x → y ≡ x → OutcomesOf call a (registry x).store [] → Done call a f x y
  by_none call a f x y h e says = (
    ([], record { says = says; goes = sym e }),
    λ s. (f, subst (Ready f) (sym e) (record { honest = h; settled = s }), kept_form f, ap (λ z. (registry z).filters) e),
  )

  -- a call of the stack, which notified by a plan that is the plan asked afresh
  pub by_call : (call : Call) (a : Answer) (f : Form) (lane : Lane) (e : Notice) (refused : FilterSet) (step : RegistryState → RegistryState → Type 0) (x y : S)
      → Honest f x → OutcomesOf call a (registry x).store (Noticed lane e ∷ [])
      → (n : Notifies registry has_form stepped lane refused e step x y) → by_pass f e n.left.store.spans no_filter refused
      ≡ asked_afresh f e (registry x).store lane.0 no_filter → StepsTo f lane e (registry x) n.left → Done call a f x y
  by_call call a f lane e refused step x y h says n plan to =
      let m : OutcomeAt = record { form = f; before = (registry x).store; after = to.after; outcome = Noticed lane e } in
      let notices : Notices registry with_registry has_form stepped reloaded f lane e (registry x).store to.after x y = record {
        left = n.left;
        given = to.given;
        notified = y;
        layers = subst (λ p. stepped x p e lane.0 n.left y (registry y)) plan (n.notified f h.has (rules_of f _ h.rules).still);
        hooks = with_others n.extensions;
        ends = to.ends (registry y);
        rest = sym (with_own y);
      } in
      let next = honest_after f lane e (registry x).store to.after x y h notices (n.extensions.filters ∙ to.filters) in (
        (m ∷ [], record { says = says; goes = (y, record { honest = h; before = refl; steps = to.steps; layers = notices }, refl) }),
        λ s. (next.0, record { honest = next.1; settled = subst HasNoClosing (sym n.extensions.spans) (to.settled s) }, next.2, next.3),
      )

  -- this was made by a quiet change
  pub changed : (f : Form) (c : Change) (x y : S) (t : Store)
      → Honest f x → Steps f (Quiet c) (registry x).store t → registry y ≡ record (registry x) { store = t } → y ≡ with_registry x (registry y)
      → Makes registry with_registry has_form stepped reloaded x (record { form = f; before = (registry x).store; after = t; outcome = Quiet c }) y
  changed f c x y t h steps store rest = record { honest = h; before = refl; steps = steps; layers = (store, rest) }

  pub by_change : (call : Call) (a : Answer) (f : Form) (c : Change) (x y : S) → Honest f x → OutcomesOf call a (registry x).store (Quiet c ∷ [])
      → (t : Store) → Steps f (Quiet c) (registry x).store t → registry y ≡ record (registry x) { store = t } → y ≡ with_registry x (registry y)
      → (registry y).filters ≡ (registry x).filters → (HasNoClosing (registry x).store.spans → HasNoClosing (registry y).store.spans)
      → Done call a f x y
  by_change call a f c x y h says t steps store rest filters settled =
      let m : OutcomeAt = record { form = f; before = (registry x).store; after = t; outcome = Quiet c } in
      let next = honest_quietly f x y h rest filters in (
        (m ∷ [], record { says = says; goes = (y, changed f c x y t h steps store rest, refl) }),
        λ before. (next.0, record { honest = next.1; settled = settled before }, next.2, next.3),
      )

  -- a stack with another registry
  pub its_own : ((s : S) (w : RegistryState) → registry (with_registry s w) ≡ w)
      → (x : S) (w : RegistryState) → with_registry x w ≡ with_registry x (registry (with_registry x w))
  its_own registry_with x w = ap (λ r. with_registry x r) (sym (registry_with x w))

-- ---- a level that is set

module _ {S : Type 0} (registry : S → RegistryState) (with_registry : S → RegistryState → S) {has_form : S → Form → Type 0}
    (stepped : StackSteps S) {reloaded : ReloadSteps S} {hears : HearSteps S} {acts_at : ActsAt S} (levels : ReloadLaws has_form reloaded hears acts_at) where
  -- a stack in which a filter took a level is honest, by a form in which that filter alone answers otherwise
  pub honest_reloaded : (f : Form) (n : ℕ) (l : Setting) (x y : S)
      → IsHonest registry with_registry has_form stepped reloaded f x → reloaded x n l y → registry y ≡ registry x
      → (g : Form) × IsHonest registry with_registry has_form stepped reloaded g y × ReloadedForm n f g
  honest_reloaded f n l x y h goes same =
      let k = levels.keeps x n l y f goes h.has in (
        k.0,
        record {
          has = k.1;
          rules = subst (λ (s : RegistryState). IsHonestStack k.0 s.filters)
              (sym same) (honesty_is_kept f k.0 (registry x).filters (reload_rules n f k.0 k.2) h.rules);
        },
        k.2,
      )

  -- and so ready, where nothing is kept any more
  pub ready_reloaded : (f : Form) (n : ℕ) (l : Setting) (old new : Dispatch S)
      → IsReadyBy registry with_registry has_form stepped reloaded f old → reloaded (stack_of old) n l (stack_of new)
      → registry (stack_of new) ≡ registry (stack_of old)
      → ((g : Form) (m : ℕ) → IsUpToDate g m new.cache) → IsReadyAfter registry with_registry has_form stepped reloaded (ReloadedForm n) f new
  ready_reloaded f n l old new h goes same kept =
      let k = honest_reloaded f n l (stack_of old) (stack_of new) h.stack.honest goes same in (
        k.0,
        record {
          stack = record { honest = k.1; settled = subst (λ (s : RegistryState). HasNoClosing s.store.spans) (sym same) h.stack.settled };
          kept = kept k.0 (registry (stack_of new)).filters;
        },
        k.2,
      )

  -- a level was set
  pub reload_told : (f : Form) (n : ℕ) (l : Setting) (x y : S)
      → IsHonest registry with_registry has_form stepped reloaded f x → takes_setting f n l ≡ true → reloaded x n l y → registry y ≡ registry x
      → IsTold registry with_registry has_form stepped reloaded (Reload n l) answer.Done x y
  reload_told f n l x y h taken goes same =
      let m : OutcomeAt = record { form = f; before = (registry x).store; after = (registry x).store; outcome = Reloaded n l } in
      (m ∷ [], record { says = refl; goes = (y, record { honest = h; before = refl; steps = refl; layers = (taken, goes, same) }, refl) })

-- a cache that forgot is up to date, and keeps no callsite
pub forgotten_current : (f : Form) (n : ℕ) (c : Cache) → IsUpToDate f n (forgotten c)
forgotten_current f n cache.Off = tt
forgotten_current f n cache.Empty = tt
forgotten_current f n (cache.Filled k) = tt

pub forgotten_kept : (c : Cache) → kept_in (forgotten c) ≡ option_map (λ callsites. no_callsite) (kept_in c)
forgotten_kept cache.Off = refl
forgotten_kept cache.Empty = refl
forgotten_kept (cache.Filled k) = refl

-- ---- a dispatcher that is ready

-- what a form that keeps what another had would answer now is what that would
current_again : (f g : Form) (n : ℕ) (k : Known) → KeepsForm f g → MatchesStack f n k → MatchesStack g n k
current_again f g n k e h = record {
  hint = h.hint ∙ sym (hint_is_kept f g e);
  number = h.number;
  interest = λ m one at. h.interest m one at ∙ sym (ap (λ (p : Interest × Option Interest). p.0) (interest_is_kept f g e one.metadata n));
}

pub up_to_date_again : (f g : Form) (n : ℕ) (c : Cache) → KeepsForm f g → IsUpToDate f n c → IsUpToDate g n c
up_to_date_again f g n (cache.Filled k) e h = current_again f g n k e h
up_to_date_again f g n other e h = h

module _ {S : Type 0} (registry : S → RegistryState)
    (with_registry : S → RegistryState → S) (has_form : S → Form → Type 0) (stepped : StackSteps S) (reloaded : ReloadSteps S) where
  abbrev pub ReadyBy : Form → Dispatch S → Type 0
  ReadyBy f d = IsReadyBy registry with_registry has_form stepped reloaded f d

  abbrev pub After : (Form → Form → Type 0) → Form → Dispatch S → Type 0
  After keeps f d = IsReadyAfter registry with_registry has_form stepped reloaded keeps f d

  -- whose stack is ready again, and which keeps what the old stack would answer
  pub ready_again : (f : Form) (old new : Dispatch S)
      → (g : Form) × IsReady registry with_registry has_form stepped reloaded g (stack_of new)
      × KeepsForm f g × ((registry (stack_of new)).filters ≡ (registry (stack_of old)).filters)
      → IsUpToDate f (registry (stack_of old)).filters new.cache → After KeepsForm f new
  ready_again f old new h k = (
    h.0,
    record { stack = h.1; kept = subst (λ n. IsUpToDate h.0 n new.cache) (sym h.3) (up_to_date_again f h.0 (registry (stack_of old)).filters new.cache h.2 k) },
    h.2,
  )

  -- one that is as it was
  pub stays_same : (f : Form) (old new : Dispatch S) → new ≡ old → ReadyBy f old → After KeepsForm f new
  stays_same f old new e h = (f, subst (λ d. ReadyBy f d) (sym e) h, kept_form f)

  pub same_but : (f : Form) (n : ℕ) (old new : Dispatch S) → new ≡ old → ReadyBy f old → After (ReloadedForm n) f new
  same_but f n old new e h = (f, subst (λ d. ReadyBy f d) (sym e) h, same_reloads n f)

  -- whatever it keeps, it keeps the rules
  pub by_keeping : (f : Form) (d : Dispatch S) → After KeepsForm f d → After KeepsRules f d
  by_keeping f d h = (h.0, h.1, kept_rules f h.0 h.2)

  pub by_level : (n : ℕ) (f : Form) (d : Dispatch S) → After (ReloadedForm n) f d → After KeepsRules f d
  by_level n f d h = (h.0, h.1, reload_rules n f h.0 h.2)

  -- one that is new, and keeps nothing yet
  pub first_ready : (f : Form) (x : S) (d : Dispatch S)
      → (g : Form) × IsReady registry with_registry has_form stepped reloaded g (stack_of d)
      × KeepsForm f g × ((registry (stack_of d)).filters ≡ (registry x).filters) → ((g : Form) (n : ℕ) → IsUpToDate g n d.cache) → After KeepsForm f d
  first_ready f x d h k = (h.0, record { stack = h.1; kept = k h.0 (registry (stack_of d)).filters }, h.2)
