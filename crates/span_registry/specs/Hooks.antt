-- How a stack is asked and notified: its questions answer by its form, and its layers go on by it
-- after the registry's step.
use Rattle.std.specs.Prelude.{◌≡◌, ℕ, Bool, false, []}
use Rattle.span_core.specs.Filters.{FilterSet}
use Rattle.span_core.specs.declared.event.Event.{Event}
use Rattle.span_core.specs.declared.interest.Interest.{Interest}
use Rattle.span_core.specs.declared.metadata.Metadata.{Metadata}
use Rattle.span_core.specs.declared.pass.Pass.{Pass}
use Rattle.span_core.specs.declared.span.Attributes.{Attributes}
use Rattle.span_core.specs.declared.span.Id.{Id}
use Rattle.span_core.specs.declared.span.Lane.{Lane}
use Rattle.span_store.specs.Step.{Opens, asked as asked_span}
use Rattle.span_store.specs.Store.{RegistryState}
use Rattle.span_registry.specs.Behaviour.{Notice, OnNewSpan}
use Rattle.span_registry.specs.Form.{Form, WritesOnlyExtensions}
use Rattle.span_registry.specs.KeptForm.{HasKeptForm}
use Rattle.span_registry.specs.Path.{mask_at}
use Rattle.span_registry.specs.Plan.{Plan, by_pass}
use Rattle.span_registry.specs.Position.{HearLaws, HearSteps, Position, heard_by, told_in}
use Rattle.span_registry.specs.Question.{AnswersBy, SumsBy, asked, event_asked, interest_of, refusals}
use Rattle.span_registry.specs.Subscriber.{SameButExtensions}

-- the set of no filter
abbrev pub no_filter : FilterSet
no_filter n = false

-- a stack answers whether metadata are enabled
abbrev pub AnswersEnabled : {S : Type 0} → (S → RegistryState) → (S → Form → Type 0) → S → Lane
    → Metadata → Pass → Bool → Pass → Type 0
AnswersEnabled registry has_form x lane m old answer new =
    AnswersBy (has_form x) (λ f. asked f m (registry x).store lane.0 no_filter) old answer new

-- a stack answers whether an event is enabled
abbrev pub AnswersEvent : {S : Type 0} → (S → RegistryState) → (S → Form → Type 0) → S → Lane
    → Event → Pass → Bool → Pass → Type 0
AnswersEvent registry has_form x lane e old answer new =
    AnswersBy (has_form x) (λ f. event_asked f e (registry x).store lane.0 no_filter) old answer new

-- a stack answers its interest in what a callsite makes
abbrev pub AnswersInterest : {S : Type 0} → (S → RegistryState) → (S → Form → Type 0) → S → Metadata
    → Pass → Interest → Pass → Type 0
AnswersInterest registry has_form x m old answer new =
    SumsBy (has_form x) (λ f. interest_of f m (registry x).filters) old answer new

-- how a stack's layers go on when they are notified: of which stack by which plan of which notice,
-- on which lane, in the registry that the request left, which stack comes of it, and which registry
abbrev pub StackSteps : Type 0 → Type 1
StackSteps S = S → Plan → Notice → ℕ → RegistryState → S → RegistryState → Type 0

-- whatever form a stack has, if hooks write extensions alone, its layers are notified by that form
-- and go on so; v is the registry that the request left
abbrev pub StackNotified : {S : Type 0} → (S → RegistryState) → (S → Form → Type 0) → StackSteps S
    → Lane → FilterSet → Notice → S → RegistryState → S → Type 0
StackNotified registry has_form stepped lane refused e old v new =
    (f : Form) → has_form old f → WritesOnlyExtensions f
    → stepped old (by_pass f e v.store.spans no_filter refused) e lane.0 v new (registry new)

-- the registry takes a step, and then the layers are notified of it, whose hooks may write
-- extensions
pub record Notifies {S : Type 0} (registry : S → RegistryState) (has_form : S → Form → Type 0)
    (stepped : StackSteps S) (lane : Lane) (refused : FilterSet) (e : Notice)
    (step : RegistryState → RegistryState → Type 0) (old new : S) : Type 0 where
  pub left : RegistryState
  pub taken : step (registry old) left
  pub extensions : SameButExtensions left (registry new)
  pub notified : StackNotified registry has_form stepped lane refused e old left new

-- the registry takes no step
abbrev pub Stays : RegistryState → RegistryState → Type 0
Stays old new = new ≡ old

-- the registry opens this span, and then the layers are notified of it
abbrev pub OpensAndNotifies : {S : Type 0} → (S → RegistryState) → (S → Form → Type 0)
    → StackSteps S → Lane → Attributes → Pass → S → S → Id → Type 0
OpensAndNotifies registry has_form stepped lane attrs pass old new id =
    Notifies registry has_form stepped lane (refusals pass) (OnNewSpan attrs id)
    (Opens lane (asked_span attrs pass) id) old new

-- the law of every stack: where it is notified, or put in use, its new form keeps what the old one
-- had; each leaf is notified of what the plan says, in the view that it has of the registry then;
-- another registry makes no difference to its form, to whether it may be asked and notified, nor to
-- any leaf
pub record StackLaws {S : Type 0} (with_registry : S → RegistryState → S) (usable : S → Type 0)
    (has_form : S → Form → Type 0) (stepped : StackSteps S) (hears : HearSteps S)
    (registered : S → S → Type 0) : Type 0 where
  pub keeps : (x : S) (p : Plan) (e : Notice) (lane : ℕ) (v : RegistryState) (y : S)
      (w : RegistryState) (f : Form) → stepped x p e lane v y w → has_form x f
      → HasKeptForm (has_form y) f
  pub put_in_use : (x y : S) (f : Form) → registered x y → has_form x f → HasKeptForm (has_form y) f
  pub form_with : (x : S) (w : RegistryState) (f : Form) → has_form x f
      → has_form (with_registry x w) f
  pub usable_with : (x : S) (w : RegistryState) → usable x → usable (with_registry x w)
  pub heard : HearLaws hears
  pub notified : (x : S) (p : Plan) (e : Notice) (lane : ℕ) (v : RegistryState) (y : S)
      (w : RegistryState) (position : Position) (f : Form)
      → stepped x p e lane v y w → has_form x f
      → hears x position (heard_by p position
      (told_in e v.store lane (mask_at f position no_filter))) y
  pub hears_with : (x : S) (w : RegistryState) (position : Position)
      → hears x position [] (with_registry x w)
