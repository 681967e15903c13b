-- A recorder under a level, on a registry alone and beside another: what it sees is the same.
use Rattle.std.proofs.Common.{inr, ◌<◌, ◌==◌, arith, nat_lt, ◌≡◌, ◌∙◌, ◌+◌, ◌≤◌, true, List, [], ◌∷◌, Some, ap, map, refl, subst, sym, ℕ}
use Rattle.std.proofs.lemmas.Bool.{false≢true}
use Rattle.std.specs.Prelude.{⊤}
use mathlib.Core.Bool.{or-false}
use Rattle.span_core.specs.declared.filter.TheConstants.FilterId.{LIMIT}
use Rattle.span_core.specs.declared.level.LevelFilter.{LevelFilter}
use Rattle.span_dispatch.proofs.CallerLemmas.{heard_records}
use Rattle.span_dispatch.specs.Alone.{PathsActAlike, passed_at}
use Rattle.span_dispatch.specs.Recorder.{RecorderState, Records, kept_notice, new_recorder, recorder_steps}
use Rattle.span_dispatch.specs.Serve.{IsReady, Served, flat, stack_of}
use Rattle.span_dispatch.specs.declared.dispatch.Dispatch.{Dispatch}
use Rattle.span_dispatch.specs.declared.request.Answer.{Answer}
use Rattle.span_dispatch.specs.declared.request.Request.{Request}
use Rattle.span_filters.specs.Filter.{settled_answers, unmoved}
use Rattle.span_filters.specs.Level.{ActsByLevel, level_answers, level_conduct, level_taken}
use Rattle.span_filters.specs.laws.Level.{level_honest, level_plain}
use Rattle.span_store.specs.Store.{RegistryState, Store, empty_store, new_registry}
use Rattle.span_stacks.proofs.CallerLemmas.{bare_stands, stands_on}
use Rattle.span_layers.specs.Acts.{LeafActs}
use Rattle.span_stacks.specs.Attach.{Attaches}
use Rattle.span_stacks.specs.Filtered.{IsNumber, IsUnnumbered, filter_of, id_of, layer_of}
use Rattle.span_layers.specs.Layer.{HearsBy, LayerSteps}
use Rattle.span_stacks.specs.Layered.{inner_of, outer_of, with_inner}
use Rattle.span_layers.specs.Number.{TakesNumbers, filters_in}
use Rattle.span_layers.specs.Observe.{open_answers}
use Rattle.span_stacks.specs.Honest.{IsHonestLayer}
use Rattle.span_stacks.specs.Stands.{Stands, another, base_form, bare_hears, bare_steps, filtered_acts, filtered_form, filtered_hears, filtered_reloads}
use Rattle.span_stacks.specs.Stands.{filtered_steps, itself, registry_on, stack_acts, stack_form, stack_hears, stack_reloads, stack_steps}
use Rattle.span_stacks.specs.Verdict.{NumbersStayOwn}
use Rattle.span_stacks.specs.declared.filtered.Filtered.{Filtered as FilteredLayer}
use Rattle.span_stacks.specs.declared.layered.Layered.{Layered}
use Rattle.span_layers.specs.laws.Leaf.{open_honest}
use Rattle.span_store.specs.declared.limits.Limits.{Limits}
use Rattle.span_registry.specs.Reload.{ReloadSteps, unreloaded}
use Rattle.span_registry.proofs.Agreeing.{agree_refl}
use Rattle.span_registry.specs.Conducts.{ActsAt, Conducts, no_conducts, numbers_in}
use Rattle.span_registry.specs.Form.{Terminal, Base, Filtered, Form, Leaf, OnSubscriber, Parts}
use Rattle.span_registry.specs.Hooks.{StackSteps}
use Rattle.span_registry.specs.Position.{HearSteps, Heard, Here, Inner, Outer, Under}
use Rattle.span_registry.specs.Question.{single}
use Rattle.span_promises.specs.Isolation.{SeeTheSame, SeesCalls}
use Rattle.span_promises.specs.MadeCall.{made_calls}
use Rattle.span_examples.proofs.Level.{has_room, leaf_under, took}
use Rattle.span_examples.proofs.Recorded.{keeps_all}
use Rattle.span_examples.proofs.Standing.{is_ready, open_quiet}
use Rattle.span_examples.specs.Dispatches.{Recorded, recorder_of}
use Rattle.span_examples.specs.Isolation.{WithAnswers, Beside, IsNewUnder, KeepTheSame, ServesFirst, WentThroughTheSame, inner_recorder_of, made_first}

-- ---- what the types say

-- a recorder under a level
abbrev pub Levelled : Type 0
Levelled = FilteredLayer RecorderState LevelFilter

abbrev pub levelled_form : Levelled → Form → Type 0
levelled_form = filtered_form (settled_answers level_answers) (λ r f. f ≡ Leaf true open_answers)

abbrev levelled_steps : LayerSteps Levelled
levelled_steps = filtered_steps unmoved recorder_steps

abbrev levelled_hears : HearSteps Levelled
levelled_hears = filtered_hears (HearsBy recorder_steps)

abbrev levelled_acts : ActsAt Levelled
levelled_acts = filtered_acts ActsByLevel LeafActs

abbrev levelled_levels : ReloadSteps Levelled
levelled_levels = filtered_reloads level_taken unreloaded

-- the first stack
abbrev form_1 : Recorded → Form → Type 0
form_1 = stack_form levelled_form base_form

abbrev steps_1 : StackSteps Recorded
steps_1 = stack_steps another levelled_steps bare_steps

abbrev levels_1 : ReloadSteps Recorded
levels_1 = stack_reloads levelled_levels unreloaded

abbrev hears_1 : HearSteps Recorded
hears_1 = stack_hears levelled_hears bare_hears

abbrev acts_1 : ActsAt Recorded
acts_1 = stack_acts levelled_acts no_conducts

-- the second
abbrev registry_2 : Beside → RegistryState
registry_2 x = inner_of (inner_of x)

abbrev with_registry_2 : Beside → RegistryState → Beside
with_registry_2 x w = with_inner x (with_inner (inner_of x) w)

abbrev form_2 : Beside → Form → Type 0
form_2 = stack_form levelled_form form_1

abbrev steps_2 : StackSteps Beside
steps_2 = stack_steps with_inner levelled_steps steps_1

abbrev levels_2 : ReloadSteps Beside
levels_2 = stack_reloads levelled_levels levels_1

abbrev hears_2 : HearSteps Beside
hears_2 = stack_hears levelled_hears hears_1

abbrev acts_2 : ActsAt Beside
acts_2 = stack_acts levelled_acts acts_1

-- ---- at first

-- a new recorder under this level, whose filter has this number
pub record IsNumbered (level : LevelFilter) (n : ℕ) (x : Levelled) : Type 0 where
  pub number : IsNumber (id_of x) (Some n)
  pub new : IsNewUnder level x

-- the form of a stack with a recorder under a level on it
abbrev form_on : LevelFilter → ℕ → Form → Form
form_on level n f = Parts OnSubscriber (Filtered (Some n) (level_answers level) (Leaf true open_answers)) f

-- a recorder under a level keeps a stack honest
level_layer : (level : LevelFilter) → IsHonestLayer (leaf_under (level_answers level))
level_layer level = inr (level_honest level, (refl, open_honest, λ t. open_quiet))

module _ {I : Type 0} (registry : I → RegistryState) (with_registry : I → RegistryState → I) (has_form : I → Form → Type 0) (shows : (i : I) (w : RegistryState)
    → registry (with_registry i w) ≡ w) (keeps : (i : I) (w : RegistryState) (f : Form) → has_form i f → has_form (with_registry i w) f) where
  -- what comes of a stack that a recorder under a level was put on
  pub record PutOn (level : LevelFilter) (f : Form) (n : ℕ) (i : I) (x : Layered Levelled I) : Type 0 where
    pub stands : Stands (registry_on registry) (stack_form levelled_form has_form) (form_on level n f) (n + 1) x
    pub outer : IsNumbered level n (outer_of x)
    pub below : inner_of x ≡ with_registry i (record (registry i) { filters = (registry (inner_of x)).filters })

  -- it took the next number
  pub put_on : NumbersStayOwn → (level : LevelFilter) (f : Form) (n : ℕ) (i : I) (recorder : RecorderState) (u : Levelled) (x : Layered Levelled I)
      → Stands registry has_form f n i → recorder ≡ new_recorder → IsUnnumbered u recorder level
      → TakesNumbers registry with_registry levelled_form u i (outer_of x) (inner_of x)
      → ((g : Form) → levelled_form u g → (registry i).filters + filters_in g ≤ LIMIT)
      → (filter_of (outer_of x) ≡ filter_of u) × (layer_of (outer_of x) ≡ layer_of u) → PutOn level f n i x
  put_on law level f n i recorder u x stands new unnumbered numbers room attached =
      let a = level_answers level in
      let has : levelled_form u (leaf_under a) = (unnumbered.id, ap level_answers (sym unnumbered.own), refl) in
      let r : n + 1 ≤ LIMIT = subst (λ k. k + 1 ≤ LIMIT) stands.filters (room (leaf_under a) has) in
      let put : Attaches registry with_registry (λ j. ⊤) (λ y. ⊤) levelled_form (λ y z. (filter_of z ≡ filter_of y) × (layer_of z ≡ layer_of y)) u i x =
      record { numbers = numbers; room = room; layer_as_it_was = attached; outer = tt; inner = tt } in
      let stood = stands_on law shows keeps (leaf_under a) f n u i x has (level_layer level) stands put in
      let there = subst (λ b. Stands (registry_on registry) (stack_form levelled_form has_form) (Parts OnSubscriber (took a n b).0 f) (took a n b).1 x)
      (has_room n r) stood in
      record {
        stands = there;
        outer = record { number = there.has.1.0; new = record { own = attached.0 ∙ unnumbered.own; inner = attached.1 ∙ unnumbered.inner ∙ new } };
        below = numbers.alone;
      }

module _ {S : Type 0} (registry : S → RegistryState)
    (with_registry : S → RegistryState → S) (has_form : S → Form → Type 0) (stepped : StackSteps S) (reloaded : ReloadSteps S) where
  -- what stands so is ready
  pub ready : (f : Form) (n : ℕ) (x : S) → Stands registry has_form f n x → (g : Form) × IsReady registry with_registry has_form stepped reloaded g x
  ready f n x h = (f, is_ready f n x h)

-- ---- both runs

-- its filter acts so
abbrev pub conducts_of : LevelFilter → Conducts
conducts_of level = (Some 0, level_conduct level) ∷ []

pub alike : (level : LevelFilter) → PathsActAlike (conducts_of level) (conducts_of level)
alike level = (refl, record { plain = (level_plain level).answers; same = (level_plain level).history }, tt)

acts_so : (level : LevelFilter) (x : Levelled) → IsNumbered level 0 x → levelled_acts x (Under Here) (conducts_of level)
acts_so level x h = (h.number, ap level_conduct (sym h.new.own), refl)

-- the same in use
stays_numbered : (level : LevelFilter) (n : ℕ) (x y : Levelled)
    → (id_of y ≡ id_of x) × (filter_of y ≡ filter_of x) × (layer_of y ≡ layer_of x) → IsNumbered level n x → IsNumbered level n y
stays_numbered level n x y same h =
    record { number = subst (λ i. IsNumber i (Some n)) (sym same.0) h.number; new = record { own = same.1 ∙ h.new.own; inner = same.2 ∙ h.new.inner } }

-- of the same notices both recorders keep the same
went_same : (r q : RecorderState) (h k : Heard)
    → h ≡ k → Records new_recorder r (map kept_notice h) → Records new_recorder q (map kept_notice k) → WentThroughTheSame r q
went_same r q h k same first second =
    let due = subst (λ g. Records new_recorder q (map kept_notice g)) (sym same) second in
    record { notices = map kept_notice h; first = first; second = due; kept = λ a b. keeps_all r _ first a ∙ sym (keeps_all q _ due b) }

abbrev pub Serves1 : List Request → List Answer → Dispatch Recorded → Dispatch Recorded → Type 0
Serves1 = Served inner_of with_inner form_1 steps_1 levels_1 hears_1 acts_1

abbrev pub Serves2 : List Request → List Answer → Dispatch Beside → Dispatch Beside → Type 0
Serves2 = Served registry_2 with_registry_2 form_2 steps_2 levels_2 hears_2 acts_2

-- what a leaf behind such filters sees of made calls is the same in both stacks
abbrev pub SeenSame : Type 0
SeenSame = SeeTheSame (SeesCalls inner_of with_inner form_1 steps_1 levels_1 hears_1 acts_1)
    (SeesCalls registry_2 with_registry_2 form_2 steps_2 levels_2 hears_2 acts_2)

-- its filter is the first
first_number : (level : LevelFilter) → numbers_in (conducts_of level) ≡ single 0
first_number level = λ i n. or-false (n == 0) i

-- where both made the same, both recorders went through the same
same_kept : (level : LevelFilter)
    → SeenSame → (requests : List Request) (answers others : List Answer) (alone last : Dispatch Recorded) (beside end : Dispatch Beside)
    → IsNumbered level 0 (outer_of (stack_of alone)) → IsNumbered level 0 (outer_of (inner_of (stack_of beside)))
    → (inner_of (stack_of alone)).store ≡ empty_store → (registry_2 (stack_of beside)).store ≡ empty_store
    → Serves1 requests answers alone last → Serves2 requests others beside end
    → made_first requests answers ≡ made_first requests others → WentThroughTheSame (recorder_of last) (inner_recorder_of end)
same_kept level law requests answers others alone last beside end one two none nothing first second same =
    let a = Outer (Under Here) in
    let b = Inner (Outer (Under Here)) in
    let h = passed_at a (flat first.made) in
    let k = passed_at b (flat second.made) in
    let cs = conducts_of level in
    let calls = made_first requests others in
    let own : (done : List Answer) → made_calls (numbers_in cs) [] requests done ≡ made_first requests done =
    λ done. ap (λ numbers. made_calls numbers [] requests done) (first_number level) in
    let heard : Records (layer_of (outer_of (stack_of alone))) (recorder_of last) (map kept_notice h) = heard_records h _ _ (first.each a) in
    let heard_too : Records (layer_of (outer_of (inner_of (stack_of beside)))) (inner_recorder_of end) (map kept_notice k) =
    heard_records k _ _ (second.each b) in
    let seen_same = law cs cs empty_store empty_store calls h k
    (record {
      old = alone;
      new = last;
      requests = requests;
      answers = answers;
      served = first;
      position = a;
      acts = acts_so level _ one;
      at_store = none;
      at_calls = own answers ∙ same;
      sees = refl;
    })
    (record {
      old = beside;
      new = end;
      requests = requests;
      answers = others;
      served = second;
      position = b;
      acts = acts_so level _ two;
      at_store = nothing;
      at_calls = own others;
      sees = refl;
    })
    (alike level) (agree_refl (numbers_in cs) empty_store) in
    went_same (recorder_of last) (inner_recorder_of end) h k seen_same (subst (λ r. Records r (recorder_of last) (map kept_notice h)) one.new.inner heard)
    (subst (λ r. Records r (inner_recorder_of end) (map kept_notice k)) two.new.inner heard_too)

abbrev SameLayer : Levelled → Levelled → Type 0
SameLayer x y = (id_of y ≡ id_of x) × (filter_of y ≡ filter_of x) × (layer_of y ≡ layer_of x)

abbrev First1 : List Request → Recorded → WithAnswers Recorded → Type 0
First1 = ServesFirst inner_of with_inner form_1 steps_1 levels_1 hears_1 acts_1 (λ x y. SameLayer (outer_of x) (outer_of y) × (inner_of y ≡ inner_of x))

abbrev First2 : List Request → Beside → WithAnswers Beside → Type 0
First2 = ServesFirst registry_2 with_registry_2 form_2 steps_2 levels_2 hears_2 acts_2
    (λ x y. SameLayer (outer_of x) (outer_of y) × (SameLayer (outer_of (inner_of x)) (outer_of (inner_of y)) × (inner_of (inner_of y) ≡ inner_of (inner_of x))))

abbrev PutOn1 : LevelFilter → RegistryState → Recorded → Type 0
PutOn1 level s x = PutOn itself another base_form (λ i w. refl) (λ i w f h. h) level (Terminal Base) 0 s x

-- a recorder on a new registry
pub alone_put : NumbersStayOwn → (level : LevelFilter) (l : Limits) (s : RegistryState) (recorder : RecorderState) (u : Levelled) (x : Recorded)
    → s ≡ new_registry l → recorder ≡ new_recorder → IsUnnumbered u recorder level
    → TakesNumbers itself another levelled_form u s (outer_of x) (inner_of x) → ((g : Form) → levelled_form u g → s.filters + filters_in g ≤ LIMIT)
    → (filter_of (outer_of x) ≡ filter_of u) × (layer_of (outer_of x) ≡ layer_of u) → PutOn1 level s x
alone_put law level l s recorder u x new =
    put_on itself another base_form (λ i w. refl) (λ i w f h. h) law level (Terminal Base) 0 s recorder u x (bare_stands l s new)

abbrev PutOn2 : LevelFilter → LevelFilter → Recorded → Beside → Type 0
PutOn2 level other i x = PutOn inner_of with_inner form_1 (λ j w. refl) (λ j w f h. h) other (form_on level 0 (Terminal Base)) 1 i x

-- another on that
pub beside_put : NumbersStayOwn → (level other : LevelFilter) (s : RegistryState) (i : Recorded) (recorder : RecorderState) (u : Levelled) (x : Beside)
    → PutOn1 level s i → recorder ≡ new_recorder → IsUnnumbered u recorder other
    → TakesNumbers inner_of with_inner levelled_form u i (outer_of x) (inner_of x)
    → ((g : Form) → levelled_form u g → (inner_of i).filters + filters_in g ≤ LIMIT)
    → (filter_of (outer_of x) ≡ filter_of u) × (layer_of (outer_of x) ≡ layer_of u) → PutOn2 level other i x
beside_put law level other s i recorder u x put =
    put_on inner_of with_inner form_1 (λ j w. refl) (λ j w f h. h) law other (form_on level 0 (Terminal Base)) 1 i recorder u x put.stands

-- it is never refused: one filter stands there
pub room_for_second : (level other : LevelFilter) (s : RegistryState) (i : Recorded) (recorder : RecorderState) (u : Levelled)
    → PutOn1 level s i → IsUnnumbered u recorder other → ((g : Form) → levelled_form u g → LIMIT < (inner_of i).filters + filters_in g) → ⊥
room_for_second level other s i recorder u put unnumbered full =
    let one : (inner_of i).filters ≡ 1 = put.stands.filters in
    let more : LIMIT < (inner_of i).filters + 1 = full (leaf_under (level_answers (filter_of u))) (unnumbered.id, refl, refl) in
    omega (arith, one, more)

-- both were put in use and served
pub keep_the_same : (level other : LevelFilter)
    → SeenSame → (requests : List Request) (s t : RegistryState) (x i : Recorded) (y : Beside) (last : WithAnswers Recorded) (end : WithAnswers Beside)
    → PutOn1 level s x → PutOn1 level t i → PutOn2 level other i y
    → First1 requests x last → First2 requests y end → KeepTheSame level other requests (Serves1 requests) (Serves2 requests) (last, end)
keep_the_same level other law requests s t x i y last end alone within beside one two =
    let a = stays_numbered level 0 _ _ one.in_use.0 alone.outer in
    let kept : IsNumbered level 0 (outer_of (inner_of y)) = subst (λ (j : Recorded). IsNumbered level 0 (outer_of j)) (sym beside.below) within.outer in
    let b = stays_numbered level 0 _ _ two.in_use.1.0 kept in
    let served = one.served (ready inner_of with_inner form_1 steps_1 levels_1 _ _ x alone.stands) in
    let served_too = two.served (ready registry_2 with_registry_2 form_2 steps_2 levels_2 _ _ y beside.stands) in
    let none = ap (λ (r : RegistryState). r.store) one.same ∙ alone.stands.empty in
    let nothing = ap (λ (r : RegistryState). r.store) two.same ∙ beside.stands.empty in
    let same : made_first requests last.1.items ≡ made_first requests end.1.items → WentThroughTheSame (recorder_of last.0) (inner_recorder_of end.0) =
    same_kept level law requests last.1.items end.1.items one.first last.0 two.first end.0 a b none nothing served served_too in
    record {
      alone = one.first;
      beside = two.first;
      alone_new = a.new;
      beside_new = b.new;
      other_new = (stays_numbered other 1 _ _ two.in_use.0 beside.outer).new;
      alone_served = served;
      beside_served = served_too;
      same = same;
      same_answers = λ e. same (ap (made_first requests) e);
    }
