-- What an outline writes of what it is notified of: a line for each event.
use Rattle.std.specs.Prelude.{◌≡◌, ◌⊎◌, ℕ, Bool, true, false, List, [], ◌++◌, String, codes, flat_map, string_bytes}
use Rattle.std.specs.declared.alloc.Global.{Global}
use Rattle.std.specs.declared.vec.Vec.{Vec}
use Rattle.span_core.specs.Event.{event_metadata, event_parent}
use Rattle.span_core.specs.Metadata.{name_of}
use Rattle.span_core.specs.declared.event.Event.{Event}
use Rattle.span_core.specs.declared.level.LevelFilter.{LevelFilter}
use Rattle.span_dispatch.specs.Alone.{passed_at}
use Rattle.span_dispatch.specs.Contract.{SubscriberOf}
use Rattle.span_dispatch.specs.Serve.{IsReady, Served, flat, stack_of}
use Rattle.span_dispatch.specs.declared.dispatch.Dispatch.{Dispatch}
use Rattle.span_dispatch.specs.declared.request.Answer.{Answer}
use Rattle.span_dispatch.specs.declared.request.Request.{Request}
use Rattle.span_stacks.specs.Filtered.{filter_of, layer_of}
use Rattle.span_stacks.specs.Layered.{inner_of, outer_of}
use Rattle.span_layers.specs.Observe.{ObserverSteps, observer_of}
use Rattle.span_stacks.specs.declared.filtered.Filtered.{Filtered}
use Rattle.span_stacks.specs.declared.layered.Layered.{Layered}
use Rattle.span_layers.specs.declared.observe.Observer.{Observer}
use Rattle.span_store.specs.Store.{empty_store}
use Rattle.span_registry.specs.Behaviour.{Notice, OnEvent}
use Rattle.span_registry.specs.Form.{Form}
use Rattle.span_registry.specs.Position.{Heard, Here, Outer, Position, Under}
use Rattle.span_registry.specs.View.{View, event_shown, plain_view, scope}
use Rattle.span_examples.specs.Dispatches.{Recorded}
use Rattle.span_examples.specs.Isolation.{IsNewUnder}
use Rattle.span_examples.specs.declared.outline.Outline.{Outline}

-- the spans that a view shows round an event: its span and those above it up to the root, the
-- hidden ones left out
abbrev pub spans_round : Event → View → List ℕ
spans_round e v = scope v.spans (event_shown (event_parent e) v)

-- two spaces for each member of a list
abbrev pub indent : {A : Type 0} → List A → List ℕ
indent xs = flat_map (λ x. codes "  ") xs

-- the line of an event: its name, indented by the spans that a view shows round it
abbrev pub line_of : Event → View → List ℕ
line_of e v = (indent (spans_round e v) ++ name_of (event_metadata e)) ++ codes "\n"

-- what is written of a notice: the line of an event, and nothing of any other
abbrev pub text_due : Notice → View → List ℕ
text_due (OnEvent e) v = line_of e v
text_due other v = []

-- the text of what an outline is notified of: a line for each event, in order, indented as its own
-- context shows it then
abbrev pub text_of : Heard → List ℕ
text_of heard = flat_map (λ told. text_due told.notice told.view) heard

-- what an outline has written
abbrev pub text_in : Outline → List ℕ
text_in x = string_bytes x.text

-- whether an outline found no memory for a line
abbrev pub has_failed : Outline → Bool
has_failed x = x.failed

-- an outline appends the line
pub record Adds (line : List ℕ) (x y : Outline) : Type 0 where
  pub before : has_failed x ≡ false
  pub still : has_failed y ≡ false
  pub text : text_in y ≡ text_in x ++ line

-- an outline doesn't append the line, and appends none from then on
pub record Loses (x y : Outline) : Type 0 where
  pub failed : has_failed y ≡ true
  pub text : text_in y ≡ text_in x

-- an outline appends the line, or memory was refused for it or for one before
abbrev pub WritesLine : List ℕ → Outline → Outline → Type 0
WritesLine line x y = Adds line x y ⊎ Loses x y

-- what a notice makes of an outline whose context shows this
abbrev pub Writes : Notice → View → Outline → Outline → Type 0
Writes (OnEvent e) v x y = WritesLine (line_of e v) x y
Writes other v x y = y ≡ x

-- an outline goes on by what its context shows, extensions aside, and leaves the registry unchanged
abbrev pub outline_steps : ObserverSteps Outline
outline_steps x e lane under v y w = Writes e (plain_view v.store lane under) x y × (w ≡ v)

-- an outline's text is whole, and this is a copy of it
pub record Copies (x : Outline) (s : String Global) : Type 0 where
  pub whole : has_failed x ≡ false
  pub text : string_bytes s ≡ text_in x

-- an outline under a level
abbrev pub UnderLevel : Type 0
UnderLevel = Filtered (Observer Outline) LevelFilter

-- the outline's stack: an outline under a level, outside a recorder under a level on a registry
abbrev pub Outlined : Type 0
Outlined = Layered UnderLevel Recorded

-- the outline in its stack
abbrev pub outline_in : Outlined → Outline
outline_in x = observer_of (layer_of (outer_of x))

-- the position of the outline in its stack
abbrev pub outline_place : Position
outline_place = Outer (Under Here)

-- the outline of a stack has written nothing and stands under the one level, and a new recorder
-- stands under the other
pub record IsNewOutlined (level other : LevelFilter) (x : Outlined) : Type 0 where
  pub under : filter_of (outer_of x) ≡ level
  pub text : text_in (outline_in x) ≡ []
  pub failed : has_failed (outline_in x) ≡ false
  pub beside : IsNewUnder other (outer_of (inner_of x))

module _ (s : SubscriberOf Outlined) where
  -- the outline's stack as it begins, ready, on a registry without spans
  pub record StartsOutlined (level other : LevelFilter) (x : Outlined) : Type 0 where
    pub new : IsNewOutlined level other x
    pub ready : (f : Form) × IsReady s.registry s.with_registry s.has_form s.stepped s.reloaded f x
    pub usable : s.usable x
    pub empty : (s.registry x).store ≡ empty_store

  -- a dispatcher of the outline's stack served these requests and gave these answers; and the text
  -- has a line for each event that its outline was notified of, in order: the event's name, behind
  -- two spaces for each span that the outline's own context showed round it
  pub record ServesOutlined (level other : LevelFilter) (requests : List Request)
      (done : Vec Answer Global × String Global) : Type 0 where
    pub first : Dispatch Outlined
    pub last : Dispatch Outlined
    pub new : IsNewOutlined level other (stack_of first)
    pub empty : (s.registry (stack_of first)).store ≡ empty_store
    pub served : Served s.registry s.with_registry s.has_form s.stepped s.reloaded s.hears s.acts_at
        requests done.0.items first last
    pub text : string_bytes done.1 ≡ text_of (passed_at outline_place (flat served.made))
