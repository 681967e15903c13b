-- How a layer is asked and notified, in a context.
use Rattle.std.specs.Prelude.{◌≡◌, ⊤, ℕ, Bool, IfSome}
use Rattle.std.specs.List.{FoldsTo}
use Rattle.span_core.specs.Filters.{FilterSet, refuses}
use Rattle.span_core.specs.declared.event.Event.{Event}
use Rattle.span_core.specs.declared.interest.Interest.{Interest}
use Rattle.span_core.specs.declared.metadata.Metadata.{Metadata}
use Rattle.span_core.specs.declared.pass.Pass.{Pass}
use Rattle.span_store.specs.Store.{RegistryState}
use Rattle.span_registry.specs.Behaviour.{Notice}
use Rattle.span_registry.specs.Context.{WritesExtensions, filters_in, filters_lent, lane_in, lane_lent, refused_lent, store_in, subscriber_in, subscriber_lent}
use Rattle.span_registry.specs.Form.{Form, WritesOnlyExtensions, Leaf}
use Rattle.span_registry.specs.KeptForm.{HasKeptForm}
use Rattle.span_registry.specs.Path.{mask_at}
use Rattle.span_registry.specs.Plan.{Itself, Plan, by_pass}
use Rattle.span_registry.specs.Position.{HearLaws, HearSteps, Heard, Here, LeafHears, Position, Told, heard_by, told_in}
use Rattle.span_registry.specs.Question.{AnswersBy, SumsBy, asked, event_asked, interest_of}
use Rattle.span_registry.specs.View.{plain_view}
use Rattle.span_registry.specs.declared.context.Context.{Context}
use Rattle.span_registry.specs.declared.context.ContextMut.{ContextMut}

-- a layer and the subscriber of a context may be asked
abbrev pub MayAsk : {L S : Type 0} → (L → Type 0) → (S → Type 0) → L → Context S → Type 0
MayAsk usable inner x c = usable x × IfSome (subscriber_in c) inner

-- a layer and the subscriber of a context may be notified
abbrev pub MayNotify : {L S : Type 0} → (L → Type 0) → (S → Type 0) → L → ContextMut S → Type 0
MayNotify usable inner x c = usable x × inner (subscriber_lent c)

-- whether a layer enables these metadata, in this context
abbrev pub LayerEnabled : {L S : Type 0} → (S → RegistryState) → (L → Form → Type 0) → L → Metadata
    → Context S → Pass → Bool → Pass → Type 0
LayerEnabled registry has_form x m c old answer new =
    AnswersBy (has_form x) (λ f. asked f m (store_in registry c) (lane_in c).0 (filters_in c)) old
    answer new

-- whether a layer enables this event, in this context
abbrev pub LayerEvent : {L S : Type 0} → (S → RegistryState) → (L → Form → Type 0) → L → Event
    → Context S → Pass → Bool → Pass → Type 0
LayerEvent registry has_form x e c old answer new =
    AnswersBy (has_form x) (λ f. event_asked f e (store_in registry c) (lane_in c).0 (filters_in c))
    old answer new

-- a layer's interest in what a callsite makes, however many filters the registry handed out
abbrev pub LayerInterest : {L : Type 0} → (L → Form → Type 0) → L → Metadata → Pass → Interest
    → Pass → Type 0
LayerInterest has_form x m old answer new =
    (filters : ℕ) → SumsBy (has_form x) (λ f. interest_of f m filters) old answer new

-- how a layer goes on when it is notified: which layer by which plan of which notice, on which
-- lane, under which filters, in which registry, becomes which, and which registry it leaves
abbrev pub LayerSteps : Type 0 → Type 1
LayerSteps L = L → Plan → Notice → ℕ → FilterSet → RegistryState → L → RegistryState → Type 0

-- a layer is notified by whatever form it has, and goes on by its step
abbrev pub Notified : {L S : Type 0} → (S → RegistryState) → (L → Form → Type 0) → LayerSteps L
    → Notice → L → ContextMut S → L → ContextMut S → Type 0
Notified registry has_form stepped e x c y d =
    (f : Form) → has_form x f
    → stepped x (by_pass f e (registry (subscriber_lent c)).store.spans (filters_lent c)
    (refuses (refused_lent c))) e (lane_lent c).0 (filters_lent c)
    (registry (subscriber_lent c)) y (registry (subscriber_lent d))

-- a layer whose hooks write extensions alone, by its form, leaves the rest of a context unchanged
abbrev pub LeavesAlone : {L S : Type 0} → (S → RegistryState) → (S → RegistryState → S)
    → (L → Form → Type 0) → L → ContextMut S → ContextMut S → Type 0
LeavesAlone registry with_registry has_form x c d =
    (f : Form) → has_form x f → WritesOnlyExtensions f → WritesExtensions registry with_registry c d

-- a layer goes on by its own step, as a leaf that is notified of this: under some filters, in some
-- registry in which its context shows just that, extensions aside
pub record GoesBy {L : Type 0} (stepped : LayerSteps L) (x : L) (told : Told) (y : L) : Type 0 where
  pub under : FilterSet
  pub before : RegistryState
  pub after : RegistryState
  pub shown : told.view ≡ plain_view before.store told.lane under
  pub step : stepped x Itself told.notice told.lane under before y after

-- a leaf was notified of these one by one, and went on by its own step
abbrev pub HearsBy : {L : Type 0} → LayerSteps L → HearSteps L
HearsBy stepped = LeafHears (GoesBy stepped)

-- a form is a leaf's
abbrev pub IsLeaf : Form → Type 0
IsLeaf (Leaf still a) = ⊤
IsLeaf other = ⊥

-- the law of a layer that is a leaf: it is notified as one, and then all its forms are leaves'; its
-- notices take it on by its own step, one by one
pub record LeafLaws {L : Type 0} (has_form : L → Form → Type 0) (stepped : LayerSteps L)
    (hears : HearSteps L) : Type 0 where
  pub alone : (x : L) (f : Form) (p : Plan) (e : Notice) (lane : ℕ) (under : FilterSet)
      (v : RegistryState) (y : L) (w : RegistryState) → has_form x f → IsLeaf f
      → stepped x p e lane under v y w → p ≡ Itself
  pub kind : (x : L) (f : Form) (p : Plan) (e : Notice) (lane : ℕ) (under : FilterSet)
      (v : RegistryState) (y : L) (w : RegistryState) (g : Form) → has_form x f → IsLeaf f
      → stepped x p e lane under v y w → has_form x g → IsLeaf g
  pub goes : (x : L) (f : Form) (h : Heard) (y : L) → has_form x f → IsLeaf f → hears x Here h y
      → FoldsTo (GoesBy stepped) x h y

-- the law of every layer: where it is notified, or put in use, it keeps what it has of its form;
-- each leaf is notified of what the plan says, in the view that it has of the registry then; and a
-- layer that is a leaf goes on by its own step
pub record LayerLaws {L : Type 0} (has_form : L → Form → Type 0) (stepped : LayerSteps L)
    (hears : HearSteps L) (registered : L → L → Type 0) : Type 0 where
  pub keeps : (x : L) (p : Plan) (e : Notice) (lane : ℕ) (under : FilterSet) (v : RegistryState)
      (y : L) (w : RegistryState) (f : Form) → stepped x p e lane under v y w → has_form x f
      → HasKeptForm (has_form y) f
  pub put_in_use : (x y : L) (f : Form) → registered x y → has_form x f → HasKeptForm (has_form y) f
  pub heard : HearLaws hears
  pub notified : (x : L) (p : Plan) (e : Notice) (lane : ℕ) (under : FilterSet) (v : RegistryState)
      (y : L) (w : RegistryState) (position : Position) (f : Form)
      → stepped x p e lane under v y w → has_form x f
      → hears x position (heard_by p position (told_in e v.store lane (mask_at f position under))) y
  pub leaf : LeafLaws has_form stepped hears

-- a leaf of which nothing is said: the plan is a leaf's, and anything may come of it
abbrev pub AnySteps : {L : Type 0} → LayerSteps L
AnySteps x p e lane under v y w = p ≡ Itself
