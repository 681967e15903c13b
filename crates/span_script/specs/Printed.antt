-- What is printed for a script that a stack serves.
use Rattle.std.specs.Prelude.{◌≡◌, ℕ, List, [], ◌∷◌, ◌++◌, Option, Some, None, String, MatchOption, IsSomeAnd, Bool, true, false, flat_map, map, decimal, length, slice_get, string_bytes, codes}
use Rattle.std.specs.List.{zip}
use Rattle.std.specs.declared.alloc.Global.{Global}
use Rattle.std.specs.declared.vec.Vec.{Vec}
use Rattle.std.specs.Option.{unwrap_or, option_map}
use Rattle.std.specs.Borrow.{Bor}
use Rattle.std.specs.BTreeMap as tree
use Rattle.std.specs.Ordering.{nat_cmp}
use Rattle.span_core.specs.Span.{number_of}
use Rattle.span_core.specs.TraceError.{refusal_number}
use Rattle.span_core.specs.declared.span.Id.{Id}
use Rattle.span_dispatch.specs.Contract.{SubscriberOf}
use Rattle.span_dispatch.specs.Serve.{stack_of}
use Rattle.span_dispatch.specs.declared.dispatch.Dispatch.{Dispatch}
use Rattle.span_dispatch.specs.declared.recorded.Recorded.{Recorded}
use Rattle.span_dispatch.specs.declared.recorded.Recorded.TheVariants as notice
use Rattle.span_dispatch.specs.declared.request.Answer.{Answer}
use Rattle.span_dispatch.specs.declared.request.Answer.TheVariants.{Made, Dropped, Done, Yes, Current, Refused}
use Rattle.span_dispatch.specs.declared.request.Request.{Request}
use Rattle.span_store.specs.declared.limits.Limits.{Limits}
use Rattle.span_script.specs.declared.line.Line.{Line}
use Rattle.span_script.specs.declared.line.Line.TheVariants.{Enabled}
use Rattle.span_script.specs.declared.reply.Section.{Section}
use Rattle.span_script.specs.declared.reply.Names.{Names}
use Rattle.span_script.specs.Script.{declared_label, lines_of, recorders_of, requests_of}
use Rattle.span_script.specs.Stacks.{Serves, ServesInUse}
use Rattle.span_script.specs.declared.script.Script.{Script}
use Rattle.span_script.specs.declared.stack_name.StackName.{StackName}

-- a line declares this label, and the answer to its request made the span with this number
abbrev pub IsNamed : Line → Option Answer → ℕ → List ℕ → Type 0
IsNamed l answer number label =
    (declared_label l ≡ Some label)
    × ((id : Id) × (answer ≡ Some (Made id)) × (number_of id ≡ number))

-- the number and the label that a line and its answer name, or nothing where they name none
abbrev pub IsNaming : Line → Option Answer → Option (ℕ × Bor (List ℕ)) → Type 0
IsNaming l answer made =
    MatchOption made ((number : ℕ) (label : List ℕ) → ¬ (IsNamed l answer number label))
    (λ made. IsNamed l answer made.0 made.1.now)

-- the line at a place declares this label, and the answer there made the span with this number
abbrev pub IsNamedAt : List Line → List Answer → ℕ → ℕ → List ℕ → Type 0
IsNamedAt lines answers place number label =
    IsSomeAnd (slice_get lines place) (λ l. IsNamed l (slice_get answers place) number label)

-- each span that a line made has the label of such a line, and no other span has one
abbrev pub AreLabels : List Line → List Answer → (ℕ → Option (List ℕ)) → Type 0
AreLabels lines answers labels = (number : ℕ) → MatchOption (labels number)
    ((place : ℕ) (label : List ℕ) → ¬ (IsNamedAt lines answers place number label))
    (λ label. (place : ℕ) × IsNamedAt lines answers place number label)

-- the label of a span, or `?`
abbrev pub name_by : (ℕ → Option (List ℕ)) → Id → List ℕ
name_by labels id = unwrap_or (labels (number_of id)) (codes "?")

-- the labels in a table of names
abbrev pub labels_in : Names → ℕ → Option (List ℕ)
labels_in names number = option_map (λ label. label.now) (tree.get nat_cmp names.labels number)

-- the name that a table has for a span
abbrev pub name_in : Names → Id → List ℕ
name_in names = name_by (labels_in names)

-- a text is continued by these bytes
abbrev pub IsContinued : {A : Type 0} → String A → String A → List ℕ → Type 0
IsContinued old new bytes = string_bytes new ≡ string_bytes old ++ bytes

-- a word and a line feed
abbrev pub line_of : List ℕ → List ℕ
line_of text = text ++ 10 ∷ []

-- the reply to `enabled`; a drop says `ok`, whether or not its span closed by it
abbrev pub yes_text : Line → Bool → List ℕ
yes_text (Enabled lane site) true = codes "true\n"
yes_text (Enabled lane site) false = codes "false\n"
yes_text l b = codes "ok\n"

-- the line that replies to a line, where spans are named so
abbrev pub reply_text : (Id → List ℕ) → Line → Answer → List ℕ
reply_text name l (Made id) = line_of (name id)
reply_text name l Dropped = codes "none\n"
reply_text name l Done = codes "ok\n"
reply_text name l (Yes b) = yes_text l b
reply_text name l (Current None) = codes "none\n"
reply_text name l (Current (Some id)) = line_of (name id)
reply_text name l (Refused error) = codes "refused " ++ line_of (decimal (refusal_number error))

-- two names, one space apart
abbrev pub pair_of : List ℕ → List ℕ → List ℕ
pair_of name other = name ++ 32 ∷ other

-- the line of a notice
abbrev pub notice_text : (Id → List ℕ) → Recorded → List ℕ
notice_text name (notice.New lane id) = codes "new " ++ line_of (name id)
notice_text name (notice.Record lane id) = codes "record " ++ line_of (name id)
notice_text name (notice.Follows lane id other) =
    codes "follows " ++ line_of (pair_of (name id) (name other))
notice_text name (notice.Event lane callsite) = codes "event " ++ line_of (decimal callsite)
notice_text name (notice.Enter lane id) = codes "enter " ++ line_of (name id)
notice_text name (notice.Exit lane id) = codes "exit " ++ line_of (name id)
notice_text name (notice.IdChange lane id other) =
    codes "id " ++ line_of (pair_of (name id) (name other))
notice_text name (notice.Close lane id) = codes "close " ++ line_of (name id)

-- a recorder's name, as its bytes, and the notices that it kept
abbrev pub section_in : Section → List ℕ × List Recorded
section_in section = (section.name.now, section.notices.now)

-- the same of each recorder
abbrev pub all_sections : List Section → List (List ℕ × List Recorded)
all_sections sections = map section_in sections

-- a recorder's head, and a line for each notice that it kept
abbrev pub section_text : (Id → List ℕ) → List ℕ × List Recorded → List ℕ
section_text name section =
    codes "== " ++ line_of section.0 ++ flat_map (notice_text name) section.1

-- a line for each line of a script and its answer
abbrev pub replies : (Id → List ℕ) → List Line → List Answer → List ℕ
replies name lines answers = flat_map (λ both. reply_text name both.0 both.1) (zip lines answers)

-- all that is printed: the replies, and then what each recorder kept
abbrev pub printed : (Id → List ℕ) → List Line → List Answer → List (List ℕ × List Recorded)
    → List ℕ
printed name lines answers sections =
    replies name lines answers ++ flat_map (section_text name) sections

-- the text is what is printed for these lines, answers and recorders
abbrev pub IsPrinted : List Line → List Answer → List (List ℕ × List Recorded) → List ℕ → Type 0
IsPrinted lines answers sections text =
    (labels : ℕ → Option (List ℕ))
    × (AreLabels lines answers labels × (text ≡ printed (name_by labels) lines answers sections))

-- what serves a stack's requests: with which answers, and with which notices that each of its
-- recorders keeps, innermost first
abbrev pub Serving : Type 1
Serving = StackName → List Request → List Answer → List (List Recorded) → Type 0

-- these requests of these lines are served so, and that is printed, each recorder by its name
pub record PrintsServed (Served : Serving) (stack : StackName) (lines : List Line)
    (requests : List Request) (output : List ℕ) : Type 0 where
  pub answers : List Answer
  pub sections : List (List ℕ × List Recorded)
  pub served : Served stack requests answers (map (λ one. one.1) sections)
  pub named : map (λ one. one.0) sections ≡ recorders_of stack
  pub printed : IsPrinted lines answers sections output

-- a script whose requests this stack serves, on a registry with these limits, gives this text
abbrev pub Gives : Limits → StackName → Script → List ℕ → Type 0
Gives limits stack script output =
    PrintsServed (Serves limits) stack (lines_of script) (requests_of script) output

-- a stack was put in use and served what a script asks for; its recorders kept all, and this is
-- printed of it
pub record PrintsInUse {S : Type 0} (s : SubscriberOf S)
    (sections : S → List (List ℕ × List Recorded)) (whole : S → Type 0) (script : Script) (x : S)
    (text : List ℕ) : Type 0 where
  pub given : Vec Answer Global × Dispatch S
  pub served : ServesInUse s (requests_of script) x given
  pub kept : whole (stack_of given.1)
  pub printed : IsPrinted (lines_of script) given.0.items (sections (stack_of given.1)) text

-- some answers, one for each request, and any notices
abbrev pub AnyAnswers : Serving
AnyAnswers stack requests answers kept = length answers ≡ length requests

-- a script whose requests workers ask of this stack gives this text: replies of some answers, and
-- some notices under the name of each of its recorders
abbrev pub GivesShared : StackName → Script → List ℕ → Type 0
GivesShared stack script output =
    PrintsServed AnyAnswers stack (lines_of script) (requests_of script) output
