-- Scripts: how lines are spelled, what they ask for, and what can be wrong with them.
use Rattle.std.specs.Prelude.{◌≡◌, ◌≢◌, ◌⊎◌, ℕ, ◌+◌, ◌<◌, ◌≤◌, ◌==◌, List, [], ◌∷◌, ◌++◌, ⊤, Bool, true, ◌&&◌, ◌||◌, not, nat_le, IsTrue, Option, Some, None, Ok, IsSome, IsSomeAnd, IfSome, MatchOption, length, map, filter, codes, bytes_eq, slice_get, slice_index}
use Rattle.std.specs.List.{list_all, list_any, slice_split}
use Rattle.std.specs.Option.{option_map_or}
use Rattle.std.specs.Borrow.{Bor}
use Rattle.std.specs.Char.{is_ascii_lowercase, is_ascii_digit}
use Rattle.std.specs.Map.{update}
use Rattle.std.specs.Ordering.{nat_cmp}
use Rattle.std.specs.Cmp.Lexicographic.{slice_cmp}
use Rattle.std.specs.BTreeMap as tree
use Rattle.span_core.specs.Metadata.{callsite_of, name_of, names_of, target_of, level_of, kind_of, fields_of}
use Rattle.span_core.specs.declared.field.FieldValue.{FieldValue}
use Rattle.span_core.specs.declared.field.FieldValue.TheVariants as value
use Rattle.span_core.specs.declared.level.Level.{Level}
use Rattle.span_core.specs.declared.level.LevelFilter.{LevelFilter}
use Rattle.span_core.specs.declared.level.Verbosity.{Verbosity}
use Rattle.span_core.specs.declared.level.Verbosity.TheVariants as verbosity
use Rattle.span_core.specs.declared.level.TheConstants.Level.{ERROR, WARN, INFO, DEBUG, TRACE}
use Rattle.span_core.specs.declared.metadata.Metadata.{Metadata}
use Rattle.span_core.specs.declared.metadata.Kind.{Kind}
use Rattle.span_core.specs.declared.metadata.TheConstants.Kind.{SPAN, EVENT}
use Rattle.span_core.specs.declared.span.Lane.{Lane}
use Rattle.span_core.specs.Span.{number_of}
use Rattle.span_script.specs.declared.line.Name.{Name}
use Rattle.span_script.specs.declared.line.Name.TheVariants.{Nobody, Label}
use Rattle.span_script.specs.declared.line.ParentName.{ParentName}
use Rattle.span_script.specs.declared.line.ParentName.TheVariants.{Contextual, Root, In}
use Rattle.span_script.specs.declared.line.MuteField.{MuteField}
use Rattle.span_script.specs.declared.line.MuteField.TheVariants.{Absent, Given}
use Rattle.span_script.specs.declared.line.Line.{Line}
use Rattle.span_script.specs.declared.line.Line.TheVariants.{New, Event, Enter, Exit, Record, Follows, Clone, Drop, Enabled, Current, Level as LevelLine, Targets}
use Rattle.span_dispatch.specs.declared.request.Which.{Which}
use Rattle.span_dispatch.specs.declared.request.Which.TheVariants.{Known, Made}
use Rattle.span_dispatch.specs.declared.request.WhichParent.{WhichParent}
use Rattle.span_dispatch.specs.declared.request.WhichParent.TheVariants as asked
use Rattle.span_dispatch.specs.declared.request.Request.{Request}
use Rattle.span_dispatch.specs.declared.request.Request.TheVariants as request
use Rattle.span_script.specs.declared.script.Script.{Script}
use Rattle.span_script.specs.declared.stack_name.StackName.{StackName}
use Rattle.span_script.specs.declared.stack_name.StackName.TheVariants.{Plain, Pair, Nested, Veto, Absent as AbsentStack, Directives}
use Rattle.span_targets.specs.EnvText.{env_reading}
use Rattle.span_targets.specs.Setting.{ReadsSetting}
use Rattle.span_targets.specs.declared.setting.Setting.TheVariants as setting

-- the texts that are borrowed
abbrev pub texts_in : List (Bor (List ℕ)) → List (List ℕ)
texts_in borrowed = map (λ text. text.now) borrowed

-- something right is spelled so
abbrev pub Spells : {X Y : Type 0} → (X → Type 0) → (X → Y) → Y → Type 0
Spells {X = X} IsRight spelling spelled = (x : X) × IsRight x × (spelled ≡ spelling x)

-- a word that no label is
abbrev pub is_keyword : List ℕ → Bool
is_keyword word =
    bytes_eq word (codes "root") || bytes_eq word (codes "in") || bytes_eq word (codes "mute")

-- a letter from a to z, or a digit
abbrev pub is_letter_or_digit : ℕ → Bool
is_letter_or_digit c = is_ascii_lowercase c || is_ascii_digit c

-- up to 16 letters and digits, of which the first is a letter, that are no keyword
abbrev pub is_label : List ℕ → Bool
is_label word =
    not (is_keyword word) && nat_le (length word) 16 && is_ascii_lowercase (slice_index word 0)
    && list_all is_letter_or_digit word

-- a carriage return
abbrev pub is_return : ℕ → Bool
is_return c = c == 13

-- whether one of a word's bytes is a carriage return
abbrev pub has_return : List ℕ → Bool
has_return word = list_any is_return word

-- a word that is not empty and has no carriage return, whatever directives it may spell
abbrev pub is_text : List ℕ → Bool
is_text word = not (length word == 0) && not (has_return word)

-- the levels of the ten callsites, by their numbers
abbrev pub site_levels : List Level
site_levels = ERROR ∷ WARN ∷ INFO ∷ DEBUG ∷ TRACE ∷ ERROR ∷ WARN ∷ INFO ∷ DEBUG ∷ TRACE ∷ []

-- the metadata of one of the ten callsites, with this kind and these fields
pub record IsSite (makes : Kind) (names : List (List ℕ)) (site : Metadata) : Type 0 where
  pub name : name_of site ≡ 115 ∷ (48 + callsite_of site) ∷ []
  pub target : target_of site ≡ codes "script"
  pub level : slice_get site_levels (callsite_of site) ≡ Some (level_of site)
  pub kind : kind_of site ≡ makes
  pub fields : texts_in (names_of (fields_of site)) ≡ names

-- the first five callsites are of spans, without fields
abbrev pub IsSpanSite : Metadata → Type 0
IsSpanSite site = (callsite_of site < 5) × IsSite SPAN [] site

-- the others are of events, with the field `mute`
abbrev pub IsEventSite : Metadata → Type 0
IsEventSite site =
    (5 ≤ callsite_of site) × (callsite_of site < 10) × IsSite EVENT (codes "mute" ∷ []) site

-- one of the ten callsites
abbrev pub IsAnySite : Metadata → Type 0
IsAnySite site = IsSpanSite site ⊎ IsEventSite site

-- the word of a digit
abbrev pub digit : ℕ → List ℕ
digit n = (48 + n) ∷ []

-- a number of one digit
abbrev pub IsDigit : ℕ → Type 0
IsDigit n = n < 10

-- the word of a callsite
abbrev pub site_word : Metadata → List ℕ
site_word site = digit (callsite_of site)

-- the word of a name
abbrev pub word_of : Name → List ℕ
word_of Nobody = codes "?"
word_of (Label label) = label.now

-- the words of a lane and a name
abbrev pub lane_words : Lane × Name → List (List ℕ)
lane_words both = digit both.0.0 ∷ word_of both.1 ∷ []

-- the words of a parent
abbrev pub parent_words : ParentName → List (List ℕ)
parent_words Contextual = []
parent_words Root = codes "root" ∷ []
parent_words (In name) = codes "in" ∷ word_of name ∷ []

-- the words of the value that an event is given
abbrev pub mute_words : MuteField → List (List ℕ)
mute_words Absent = []
mute_words Given = codes "mute" ∷ []

-- the words of a parent and a value
abbrev pub tail_words : ParentName × MuteField → List (List ℕ)
tail_words tail = parent_words tail.0 ++ mute_words tail.1

-- the word of a level
abbrev pub verbosity_word : Verbosity → List ℕ
verbosity_word verbosity.Error = codes "error"
verbosity_word verbosity.Warn = codes "warn"
verbosity_word verbosity.Info = codes "info"
verbosity_word verbosity.Debug = codes "debug"
verbosity_word verbosity.Trace = codes "trace"

-- the word of a filter by level: `off`, or that of the most verbose level that passes
abbrev pub level_word : LevelFilter → List ℕ
level_word level = option_map_or (λ most. verbosity_word most.0) level.0 (codes "off")

-- the words of a line
abbrev pub words_of : Line → List (List ℕ)
words_of (New lane site label parent) =
    codes "new" ∷ digit lane.0 ∷ site_word site ∷ label.now ∷ parent_words parent
words_of (Event lane site parent mute) =
    codes "event" ∷ digit lane.0 ∷ site_word site ∷ tail_words (parent, mute)
words_of (Enter lane name) = codes "enter" ∷ lane_words (lane, name)
words_of (Exit lane name) = codes "exit" ∷ lane_words (lane, name)
words_of (Record lane name) = codes "record" ∷ lane_words (lane, name)
words_of (Follows lane name other) =
    codes "follows" ∷ digit lane.0 ∷ word_of name ∷ word_of other ∷ []
words_of (Clone name) = codes "clone" ∷ word_of name ∷ []
words_of (Drop lane name) = codes "drop" ∷ lane_words (lane, name)
words_of (Enabled lane site) = codes "enabled" ∷ digit lane.0 ∷ site_word site ∷ []
words_of (Current lane) = codes "current" ∷ digit lane.0 ∷ []
words_of (LevelLine number level) = codes "level" ∷ digit number ∷ level_word level ∷ []
words_of (Targets number text) = codes "targets" ∷ digit number ∷ text.now ∷ []

-- the label that a line declares, if it declares one
abbrev pub declared_label : Line → Option (List ℕ)
declared_label (New lane site label parent) = Some label.now
declared_label l = None

-- a name is `?` or a label
abbrev pub IsName : Name → Type 0
IsName Nobody = ⊤
IsName (Label label) = IsTrue (is_label label.now)

-- the lane of a pair is a digit, and its name a name
abbrev pub IsLaneAndName : Lane × Name → Type 0
IsLaneAndName both = (both.0.0 < 10) × IsName both.1

-- the name that a parent may have is a name
abbrev pub IsParentName : ParentName → Type 0
IsParentName (In name) = IsName name
IsParentName parent = ⊤

-- the name that the parent of an event's tail may have is a name
abbrev pub IsTail : ParentName × MuteField → Type 0
IsTail tail = IsParentName tail.0

-- the lane or the filter's number is a digit, the site one of spans, of events, or any, the names
-- are names, and the text is one
abbrev pub IsLine : Line → Type 0
IsLine (New lane site label parent) =
    (lane.0 < 10) × IsSpanSite site × IsTrue (is_label label.now) × IsParentName parent
IsLine (Event lane site parent mute) = (lane.0 < 10) × IsEventSite site × IsParentName parent
IsLine (Enter lane name) = IsLaneAndName (lane, name)
IsLine (Exit lane name) = IsLaneAndName (lane, name)
IsLine (Record lane name) = IsLaneAndName (lane, name)
IsLine (Follows lane name other) = (lane.0 < 10) × IsName name × IsName other
IsLine (Clone name) = IsName name
IsLine (Drop lane name) = IsLaneAndName (lane, name)
IsLine (Enabled lane site) = (lane.0 < 10) × IsAnySite site
IsLine (Current lane) = lane.0 < 10
IsLine (LevelLine number level) = number < 10
IsLine (Targets number text) = (number < 10) × IsTrue (is_text text.now)

-- the words are a right line, whatever its labels and its text
abbrev pub IsLater : List (List ℕ) → Type 0
IsLater = Spells IsLine words_of

-- the words are those of a right line behind this one
abbrev pub IsBehind : List ℕ → List (List ℕ) → Type 0
IsBehind word words = IsLater (word ∷ words)

-- the parts of a text between these bytes
abbrev pub cut : ℕ → List ℕ → List (List ℕ)
cut byte text = slice_split (λ b. b == byte) text

-- the stack that the first line names
abbrev pub stack_of : Script → StackName
stack_of script = script.stack

-- the lines after the first
abbrev pub lines_of : Script → List Line
lines_of script = script.lines.items

-- the request that each of these lines asks for
abbrev pub requests_of : Script → List Request
requests_of script = script.requests.items

-- the place of the line that declares a label
abbrev pub place_of : Script → List ℕ → Option ℕ
place_of script label = tree.get_by (λ k. slice_cmp nat_cmp label k.now) script.labels

-- the line at this place declares this label
abbrev pub DeclaresAt : List Line → ℕ → List ℕ → Type 0
DeclaresAt lines place label =
    IsSomeAnd (slice_get lines place) (λ l. declared_label l ≡ Some label)

-- after these lines, a name names this span: `?` that with the id 0, a label the one that its
-- line's request makes
abbrev pub Means : List Line → Name → Which → Type 0
Means before Nobody (Known id) = number_of id ≡ 0
Means before (Label label) (Made place) = DeclaresAt before place label.now
Means before name which = ⊥

-- after these lines, a parent's name names this parent
abbrev pub MeansParent : List Line → ParentName → WhichParent → Type 0
MeansParent before Contextual asked.Contextual = ⊤
MeansParent before Root asked.Root = ⊤
MeansParent before (In name) (asked.Explicit which) = Means before name which
MeansParent before name parent = ⊥

-- the names of fields, as their bytes, and their values
abbrev pub values_in : Bor (List (Bor (List ℕ) × FieldValue)) → List (List ℕ × FieldValue)
values_in values = map (λ field. (field.0.now, field.1)) values.now

-- the values that an event is given
abbrev pub mute_values : MuteField → List (List ℕ × FieldValue)
mute_values Absent = []
mute_values Given = (codes "mute", value.Bool true) ∷ []

-- after these lines, a line asks for this request; a clone is asked for on lane 0, and of directives
-- any setting that says what the text does
abbrev pub Asks : List Line → Line → Request → Type 0
Asks before (New lane site label name) (request.NewSpan lane' site' parent values) =
    (lane' ≡ lane) × (site' ≡ site) × MeansParent before name parent × (values_in values ≡ [])
Asks before (Event lane site name mute) (request.Event lane' site' parent values) =
    (lane' ≡ lane) × (site' ≡ site) × MeansParent before name parent
    × (values_in values ≡ mute_values mute)
Asks before (Enter lane name) (request.Enter lane' which) = (lane' ≡ lane) × Means before name which
Asks before (Exit lane name) (request.Exit lane' which) = (lane' ≡ lane) × Means before name which
Asks before (Record lane name) (request.Record lane' which values) =
    (lane' ≡ lane) × Means before name which × (values_in values ≡ [])
Asks before (Follows lane name other) (request.Follows lane' which which') =
    (lane' ≡ lane) × Means before name which × Means before other which'
Asks before (Clone name) (request.Clone lane' which) = (lane'.0 ≡ 0) × Means before name which
Asks before (Drop lane name) (request.Drop lane' which) = (lane' ≡ lane) × Means before name which
Asks before (Enabled lane site) (request.Enabled lane' site') = (lane' ≡ lane) × (site' ≡ site)
Asks before (Current lane) (request.Current lane') = lane' ≡ lane
Asks before (LevelLine number level) (request.Reload number' taken) =
    (number' ≡ number) × (taken ≡ setting.Level level)
Asks before (Targets number text) (request.Reload number' taken) =
    (number' ≡ number) × ReadsSetting (env_reading text.now) (Ok taken)
Asks before l r = ⊥

-- a fact holds of nothing
abbrev pub HoldsOfNone : {X : Type 0} → (X → Type 0) → Type 0
HoldsOfNone {X = X} P = (x : X) → ¬ (P x)

-- no line before declares the label that a line declares
abbrev pub IsNewIn : List Line → Line → Type 0
IsNewIn lines l =
    IfSome (declared_label l)
    (λ label. (place : ℕ)
    → IfSome (slice_get lines place) (λ other. declared_label other ≢ Some label))

-- the lines ask for the requests, one for one: each is a line, names what lines before it declare,
-- and declares what none does
pub data AskFor : List Line → List Request → Type 0 where
  nothing : AskFor [] []
  more : {lines : List Line} {requests : List Request} (l : Line) (r : Request) → IsLine l
      → AskFor lines requests
      → Asks lines l r → IsNewIn lines l → AskFor (lines ++ l ∷ []) (requests ++ r ∷ [])

-- the requests are those of the lines, and the places are those of the labels
pub record IsScript (script : Script) : Type 0 where
  pub asked : AskFor (lines_of script) (requests_of script)
  pub found : (label : List ℕ)
      → IfSome (place_of script label) (λ place. DeclaresAt (lines_of script) place label)
  pub kept : (place : ℕ)
      → IfSome (slice_get (lines_of script) place)
      (λ l. IfSome (declared_label l) (λ label. IsSome (place_of script label)))

-- the label of a line is new, and its place is kept beside those of the others
abbrev pub Declares : Script → Line → Script → Type 0
Declares old l new =
    MatchOption (declared_label l) (new.labels ≡ old.labels) (λ label. (place_of old label ≡ None)
    × ((other : List ℕ) → place_of new other
    ≡ update bytes_eq (place_of old) label (Some (length (lines_of old))) other))

-- the line can follow these: they declare what it names, and not what it declares
abbrev pub CanFollow : List Line → Line → Type 0
CanFollow before l = ((r : Request) × Asks before l r) × IsNewIn before l

-- the word of a stack
abbrev pub stack_word : StackName → List ℕ
stack_word Plain = codes "plain"
stack_word Pair = codes "pair"
stack_word Nested = codes "nested"
stack_word Veto = codes "veto"
stack_word AbsentStack = codes "absent"
stack_word Directives = codes "directives"

-- the names of a stack's recorders, innermost first
abbrev pub recorders_of : StackName → List (List ℕ)
recorders_of Plain = codes "base" ∷ []
recorders_of Pair = codes "a" ∷ codes "b" ∷ []
recorders_of Nested = codes "base" ∷ codes "deep" ∷ []
recorders_of Veto = codes "base" ∷ codes "warn" ∷ []
recorders_of AbsentStack = codes "base" ∷ []
recorders_of Directives = codes "base" ∷ codes "chosen" ∷ []

-- the words of the first line
abbrev pub first_words : StackName → List (List ℕ)
first_words stack = codes "stack" ∷ stack_word stack ∷ []

-- the words are a right first line
abbrev pub IsFirst : List (List ℕ) → Type 0
IsFirst = Spells (λ _. ⊤) first_words

-- the words of what was read of a script: of its first line, which names the stack, and of the
-- lines after it
abbrev pub words_in : Option (StackName × List Line) → List (List (List ℕ))
words_in None = []
words_in (Some read) = first_words read.0 ∷ map words_of read.1

-- a text that is not empty
abbrev pub is_full : List ℕ → Bool
is_full text = not (length text == 0)

-- the words of each text that is not empty
abbrev pub words_of_texts : List (List ℕ) → List (List (List ℕ))
words_of_texts texts = map (cut 32) (filter is_full texts)

-- cut at line feeds and, empty lines aside, at spaces, the text is the first line of this stack and
-- the words of these lines
abbrev pub IsSpelled : List ℕ → StackName → List Line → Type 0
IsSpelled text stack lines = words_of_texts (cut 10 text) ≡ words_in (Some (stack, lines))

-- the text is not empty, and can't follow what was read: its words are no first line; or they are
-- no line, or one that can't
abbrev pub IsWrongAfter : Option (StackName × List Line) → List ℕ → Type 0
IsWrongAfter None text = IsTrue (is_full text) × ¬ (IsFirst (cut 32 text))
IsWrongAfter (Some read) text =
    IsTrue (is_full text)
    × (¬ (IsLater (cut 32 text))
    ⊎ ((l : Line) × (IsLine l × (cut 32 text ≡ words_of l) × ¬ (CanFollow read.1 l))))

-- what was read of a script, if its first line was
abbrev pub read_in : Option Script → Option (StackName × List Line)
read_in None = None
read_in (Some script) = Some (stack_of script, lines_of script)

-- a script reads a text more: its words are added, if there are any
abbrev pub ReadsText : Option Script → List ℕ → Option Script → Type 0
ReadsText before text after =
    words_in (read_in after) ≡ words_in (read_in before) ++ words_of_texts (text ∷ [])
