-- A layer under a level is put on an honest stack: that stays honest, and the layer's filter takes the next number.
use Rattle.std.proofs.Common.{inr, ◌<◌, arith, nat_lt, ◌≡◌, ◌∙◌, ◌+◌, ◌≤◌, true, Some, ap, refl, subst, sym, ℕ}
use Rattle.std.proofs.lemmas.Bool.{false≢true}
use Rattle.span_core.specs.declared.filter.TheConstants.FilterId.{LIMIT}
use Rattle.span_core.specs.declared.level.LevelFilter.{LevelFilter}
use Rattle.span_dispatch.specs.Serve.{IsReady}
use Rattle.span_filters.specs.Filter.{settled_answers}
use Rattle.span_filters.specs.Level.{level_answers}
use Rattle.span_filters.specs.laws.Level.{level_honest}
use Rattle.span_stacks.specs.Filtered.{FilteredForm, IsNumber, IsUnnumbered, filter_of, id_of, layer_of}
use Rattle.span_stacks.specs.Honest.{IsHonestStack}
use Rattle.span_layers.specs.Parts.{PartsForm}
use Rattle.span_stacks.specs.Layered.{inner_of, outer_of}
use Rattle.span_layers.specs.Number.{TakesNumbers, filters_in}
use Rattle.span_layers.specs.Observe.{open_answers}
use Rattle.span_stacks.specs.Verdict.{HasOwnNumbers, NumbersStayOwn}
use Rattle.span_stacks.specs.declared.filtered.Filtered.{Filtered as FilteredLayer}
use Rattle.span_stacks.specs.declared.layered.Layered.{Layered}
use Rattle.span_layers.specs.laws.Leaf.{open_honest}
use Rattle.span_store.specs.Closes.{HasNoClosing}
use Rattle.span_store.specs.Store.{RegistryState, Store, empty_store, new_registry}
use Rattle.span_store.specs.declared.limits.Limits.{Limits}
use Rattle.span_registry.proofs.CallerLemmas.{settled_new}
use Rattle.span_registry.specs.Form.{Terminal, Base, Filtered, Form, Leaf, OnSubscriber, Parts}
use Rattle.span_registry.specs.Hooks.{StackSteps}
use Rattle.span_registry.specs.Reload.{ReloadSteps}
use Rattle.span_examples.proofs.Level.{has_room, leaf_under, took}

-- a leaf that refuses nothing, under a level
abbrev pub LeafUnder : Type 0 → Type 0
LeafUnder K = FilteredLayer K LevelFilter

abbrev pub under_form : {K : Type 0} → LeafUnder K → Form → Type 0
under_form x = FilteredForm (id_of x) (settled_answers level_answers (filter_of x)) (λ f. f ≡ Leaf true open_answers)

-- a stack with one on it
abbrev pub On : Type 0 → Type 0 → Type 0
On K I = Layered (LeafUnder K) I

abbrev pub on_form : {K I : Type 0} → (I → Form → Type 0) → On K I → Form → Type 0
on_form form x = PartsForm OnSubscriber (under_form (outer_of x)) (form (inner_of x))

-- the form of that
abbrev pub form_on : LevelFilter → ℕ → Form → Form
form_on level n f = Parts OnSubscriber (Filtered (Some n) (level_answers level) (Leaf true open_answers)) f

abbrev pub itself : RegistryState → RegistryState
itself s = s

abbrev pub another : RegistryState → RegistryState → RegistryState
another s w = w

abbrev pub bare_form : RegistryState → Form → Type 0
bare_form s f = f ≡ Terminal Base

-- a stack of this form, honest, on a registry without spans that handed out this many filters
pub record Stands {S : Type 0} (registry : S → RegistryState) (has_form : S → Form → Type 0) (f : Form) (n : ℕ) (x : S) : Type 0 where
  pub has : has_form x f
  pub rules : IsHonestStack f n
  pub filters : (registry x).filters ≡ n
  pub empty : (registry x).store ≡ empty_store

honest_on : (level : LevelFilter) (n : ℕ) (f : Form) → HasOwnNumbers (form_on level n f) (n + 1) → IsHonestStack f n → IsHonestStack (form_on level n f) (n + 1)
honest_on level n f own h =
    record { numbers = own; built = (inr (level_honest level, (refl, open_honest, λ t. record { enabled = λ m v. refl; event = λ e v. refl })), h.built) }

-- a new registry stands so
pub bare_stands : (l : Limits) (s : RegistryState) → s ≡ new_registry l → Stands itself bare_form (Terminal Base) 0 s
bare_stands l s new = record {
  has = refl;
  rules = record { numbers = record { distinct = tt; handed_out = λ k e. absurd (false≢true e) }; built = tt };
  filters = ap (λ (t : RegistryState). t.filters) new;
  empty = ap (λ (t : RegistryState). t.store) new;
}

module _ {K I : Type 0} (registry : I → RegistryState)
    (with_registry : I → RegistryState → I) (has_form : I → Form → Type 0) (shows : (i : I) (w : RegistryState) → registry (with_registry i w) ≡ w)
    (keeps : (i : I) (w : RegistryState) (f : Form) → has_form i f → has_form (with_registry i w) f) where
  -- what comes of a stack that this leaf was put on, under this level
  pub record PutOn (level : LevelFilter) (f : Form) (n : ℕ) (k : K) (i : I) (x : On K I) : Type 0 where
    pub stands : Stands (λ y. registry (inner_of y)) (on_form has_form) (form_on level n f) (n + 1) x
    pub number : IsNumber (id_of (outer_of x)) (Some n)
    pub own : filter_of (outer_of x) ≡ level
    pub inner : layer_of (outer_of x) ≡ k
    pub below : inner_of x ≡ with_registry i (record (registry i) { filters = (registry (inner_of x)).filters })

  -- it took the next number
  pub put_on : NumbersStayOwn
      → (level : LevelFilter) (f : Form) (n : ℕ) (i : I) (k : K) (u : LeafUnder K) (x : On K I) → Stands registry has_form f n i → IsUnnumbered u k level
      → TakesNumbers registry with_registry under_form u i (outer_of x) (inner_of x)
      → ((g : Form) → under_form u g → (registry i).filters + filters_in g ≤ LIMIT)
      → (filter_of (outer_of x) ≡ filter_of u) × (layer_of (outer_of x) ≡ layer_of u) → PutOn level f n k i x
  put_on law level f n i k u x stands unnumbered numbers room attached =
      let a = level_answers level in
      let g = leaf_under a in
      let has : under_form u g = (unnumbered.id, ap level_answers (sym unnumbered.own), refl) in
      let r : n + 1 ≤ LIMIT = subst (λ k. k + 1 ≤ LIMIT) stands.filters (room g has) in
      let formed = subst (λ k. under_form (outer_of x) (took a k (nat_lt k LIMIT)).0) stands.filters (numbers.form g has) in
      let form = subst (λ b. under_form (outer_of x) (took a n b).0) (has_room n r) formed in
      let counted = subst (λ k. (registry (inner_of x)).filters ≡ (took a k (nat_lt k LIMIT)).1) stands.filters (numbers.next g has) in
      let next = subst (λ b. (registry (inner_of x)).filters ≡ (took a n b).1) (has_room n r) counted in
      let own = subst (λ b. HasOwnNumbers (Parts OnSubscriber (took a n b).0 f) (took a n b).1) (has_room n r) ((law g n r).stack f stands.rules.numbers) in
      record {
        stands = record {
          has = (refl, form, subst (λ j. has_form j f) (sym numbers.alone) (keeps i _ f stands.has));
          rules = honest_on level n f own stands.rules;
          filters = next;
          empty = ap (λ j. (registry j).store) numbers.alone ∙ ap (λ (t : RegistryState). t.store) (shows i _) ∙ stands.empty;
        };
        number = form.0;
        own = attached.0 ∙ unnumbered.own;
        inner = attached.1 ∙ unnumbered.inner;
        below = numbers.alone;
      }

  -- it is never refused where fewer filters stand than may
  pub room_for_one : (level : LevelFilter) (n : ℕ) (i : I) (k : K) (u : LeafUnder K)
      → (registry i).filters ≡ n → n + 1 ≤ LIMIT → IsUnnumbered u k level → ((g : Form) → under_form u g → LIMIT < (registry i).filters + filters_in g) → ⊥
  room_for_one level n i k u filters room unnumbered full =
      let more : LIMIT < (registry i).filters + 1 = full (leaf_under (level_answers (filter_of u))) (unnumbered.id, refl, refl) in
      omega (arith, filters, room, more)

module _ {S : Type 0} (registry : S → RegistryState)
    (with_registry : S → RegistryState → S) (has_form : S → Form → Type 0) (stepped : StackSteps S) (reloaded : ReloadSteps S) where
  -- what stands so is ready
  pub ready : (f : Form) (n : ℕ) (x : S) → Stands registry has_form f n x → (g : Form) × IsReady registry with_registry has_form stepped reloaded g x
  ready f n x h = (
    f,
    record {
      honest = record { has = h.has; rules = subst (λ k. IsHonestStack f k) (sym h.filters) h.rules };
      settled = subst HasNoClosing (sym (ap (λ (s : Store). s.spans) h.empty)) (settled_new (registry x).limits);
    },
  )
