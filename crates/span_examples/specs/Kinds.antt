-- Stacks that are honest and ready, whatever kind of layer or filter stands in them, and what a
-- recorder there keeps.
use Rattle.std.specs.Prelude.{◌≡◌, ◌≤◌, ℕ, List, [], ◌∷◌, Bool, Option, Some, IfSome, false, is_some, length, map}
use Rattle.std.specs.declared.alloc.Global.{Global}
use Rattle.std.specs.declared.vec.Vec.{Vec}
use Rattle.span_core.specs.declared.filter.TheConstants.FilterId.{LIMIT}
use Rattle.span_core.specs.declared.metadata.Metadata.{Metadata}
use Rattle.span_dispatch.specs.Alone.{passed_at}
use Rattle.span_dispatch.specs.Contract.{SubscriberOf}
use Rattle.span_dispatch.specs.Recorder.{RecorderState, Records, kept_notice, new_recorder}
use Rattle.span_dispatch.specs.Serve.{IsReadySomehow, Served, flat, stack_of}
use Rattle.span_dispatch.specs.declared.dispatch.Dispatch.{Dispatch}
use Rattle.span_dispatch.specs.declared.request.Answer.{Answer}
use Rattle.span_dispatch.specs.declared.request.Request.{Request}
use Rattle.span_stacks.specs.Filtered.{layer_of}
use Rattle.span_stacks.specs.Layered.{outer_of}
use Rattle.span_layers.specs.Number.{filters_in}
use Rattle.span_stacks.specs.Honest.{IsHonestLayer}
use Rattle.span_stacks.specs.Stands.{Stands}
use Rattle.span_stacks.specs.declared.filtered.Filtered.{Filtered}
use Rattle.span_stacks.specs.declared.layered.Layered.{Layered}
use Rattle.span_store.specs.Store.{RegistryState, empty_store}
use Rattle.span_registry.specs.Behaviour.{Behaviour, Conduct, notices_of}
use Rattle.span_registry.specs.Conducts.{Conducts, numbers_in}
use Rattle.span_registry.specs.Form.{Form}
use Rattle.span_registry.specs.Position.{Heard, Here, Outer, Position, Under}
use Rattle.span_registry.specs.View.{View, current_shown}
use Rattle.span_promises.specs.MadeCall.{AloneOf, made_calls}
use Rattle.span_examples.specs.Isolation.{WithAnswers}

-- a stack is honest, by some form, on a registry without spans
abbrev pub StandsSomehow : {S : Type 0} → (S → RegistryState) → (S → Form → Type 0) → S → Type 0
StandsSomehow registry has_form x = (f : Form) × (n : ℕ) × Stands registry has_form f n x

-- a layer has a form that keeps a stack honest, and a new registry has a number for each of its
-- filters
pub record IsFit {L : Type 0} (has_form : L → Form → Type 0) (layer : L) : Type 0 where
  pub form : Form
  pub has : has_form layer form
  pub honest : IsHonestLayer form
  pub room : filters_in form ≤ LIMIT

-- what a leaf is notified of, from a list with these answers, as if it stood alone under filters of
-- these conducts, on a registry without spans
abbrev pub SeesAlone : Conducts → List Request → List Answer → Heard → Type 0
SeesAlone cs requests answers heard =
    AloneOf cs empty_store (made_calls (numbers_in cs) [] requests answers) heard

module _ {S : Type 0} (s : SubscriberOf S) where
  -- the dispatcher is ready, and its cache is up to date
  abbrev pub IsReadyNow : Dispatch S → Type 0
  IsReadyNow d = IsReadySomehow s.registry s.with_registry s.has_form s.stepped s.reloaded d

  -- a list was served, with these answers
  abbrev pub ServedList : List Request → List Answer → Dispatch S → Dispatch S → Type 0
  ServedList requests answers old new =
      Served s.registry s.with_registry s.has_form s.stepped s.reloaded s.hears s.acts_at requests
      answers old new

  -- a stack on a registry without spans was put in use, and was ready; then a list was served, and
  -- the stack is ready for the next
  pub record ServesReady (stack : S) (requests : List Request) (done : WithAnswers S) : Type 0 where
    pub first : Dispatch S
    pub in_use : s.registered stack (stack_of first)
    pub empty : (s.registry (stack_of first)).store ≡ empty_store
    pub ready : IsReadyNow first
    pub served : ServedList requests done.1.items first done.0
    pub next : IsReadyNow done.0

  -- A list was served by a stack that was put in use. The recorder at this position, which was new,
  -- was notified of just what it would be notified of if it stood alone, on a registry without
  -- spans, under filters of these conducts.
  pub record RecordsAlone (position : Position) (recorder : S → RecorderState) (cs : Conducts)
      (requests : List Request) (done : WithAnswers S) : Type 0 where
    pub stack : S
    pub serves : ServesReady stack requests done
    pub kept : Records new_recorder (recorder (stack_of done.0))
        (map kept_notice (passed_at position (flat serves.served.made)))
    pub alone : SeesAlone cs requests done.1.items (passed_at position (flat serves.served.made))

  -- whatever list a stack serves first, once it is put in use, the recorder at this position will
  -- have recorded just what it would alone
  abbrev pub WillRecord : Position → (S → RecorderState) → Conducts → S → Type 0
  WillRecord position recorder cs x =
      (requests : List Request) (done : WithAnswers S) → ServesReady x requests done
      → RecordsAlone position recorder cs requests done

-- a recorder under a filter of this type, on a registry
abbrev pub UnderFilter : Type 0 → Type 0
UnderFilter F = Layered (Filtered RecorderState F) RegistryState

-- the recorder in a stack of a recorder under a filter
abbrev pub recorder_under : {F : Type 0} → UnderFilter F → RecorderState
recorder_under x = layer_of (outer_of x)

module _ {F : Type 0} (s : SubscriberOf (UnderFilter F)) where
  -- a list was served, and the recorder was notified of just what it would be notified of alone,
  -- under a filter of this conduct
  abbrev pub RecordsUnder : Conduct → List Request → WithAnswers (UnderFilter F) → Type 0
  RecordsUnder b requests done =
      RecordsAlone s (Outer (Under Here)) recorder_under ((Some 0, b) ∷ []) requests done

  -- whatever list a stack serves first, once it is put in use, the recorder will have recorded just
  -- what it would alone, under a filter of its filter's conduct
  abbrev pub WillRecordUnder : (Conduct → Type 0) → UnderFilter F → Type 0
  WillRecordUnder acts x =
      (b : Conduct) → acts b → WillRecord s (Outer (Under Here)) recorder_under ((Some 0, b) ∷ []) x

-- the conduct of a filter of two parts, which take no setting
abbrev pub both_conduct : (Behaviour → Behaviour → Behaviour) → Conduct → Conduct → Conduct
both_conduct join left right h = join (left (notices_of h)) (right (notices_of h))

-- the conduct of a filter of one part, which takes no setting
abbrev pub one_conduct : (Behaviour → Behaviour) → Conduct → Conduct
one_conduct turn inside h = turn (inside (notices_of h))

-- the count of notices that a recorder keeps, unless it failed
abbrev pub IsCounted : RecorderState → Option ℕ → Type 0
IsCounted r o = IfSome o (λ n. (r.failed ≡ false) × (n ≡ length r.notices))

-- A list was answered, and a recorder under filters of these conducts was notified of just what it
-- would be alone: of as many notices as the count says, unless it failed for want of memory.
pub record CountsAlone (cs : Conducts) (requests : List Request)
    (told : Vec Answer Global × Option ℕ) : Type 0 where
  pub heard : Heard
  pub alone : SeesAlone cs requests told.0.items heard
  pub count : IfSome told.1 (λ n. n ≡ length heard)

-- a list was answered, and a recorder under one filter of this conduct was notified of as many
-- notices as the count says
abbrev pub CountsUnder : Conduct → List Request → Vec Answer Global × Option ℕ → Type 0
CountsUnder b = CountsAlone ((Some 0, b) ∷ [])

-- whether the lane is in a span that is shown, whatever the metadata
abbrev pub in_a_span : Metadata → View → Bool
in_a_span m v = is_some (current_shown v)
