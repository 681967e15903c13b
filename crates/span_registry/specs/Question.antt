-- What a form answers when it is asked, and what the pass then holds. Of metadata and of events the
-- outer part is asked first, and the inner one only where that answers true.
use Rattle.std.specs.Prelude.{◌≡◌, ℕ, Bool, true, false, not, ◌&&◌, ◌||◌, ◌==◌, if◌then◌else◌, Option, Some, None, is_some}
use Rattle.span_core.specs.Filters.{FilterSet, refuses, union}
use Rattle.span_core.specs.Interest.{sum_with}
use Rattle.span_core.specs.Level.{greater_hint, is_off, wider_hint}
use Rattle.span_core.specs.Pass.{interest_sum, refused_of}
use Rattle.span_core.specs.declared.event.Event.{Event}
use Rattle.span_core.specs.declared.interest.Interest.TheVariants.{Always, Never, Sometimes}
use Rattle.span_core.specs.declared.interest.Interest.{Interest}
use Rattle.span_core.specs.declared.level.LevelFilter.{LevelFilter}
use Rattle.span_core.specs.declared.level.TheConstants.LevelFilter.{OFF}
use Rattle.span_core.specs.declared.metadata.Metadata.{Metadata}
use Rattle.span_core.specs.declared.pass.Pass.{Pass}
use Rattle.span_store.specs.Store.{Store}
use Rattle.span_registry.specs.Form.{Absent, Terminal, Base, End, Filtered, Form, InList, InPair, Arrangement, Leaf, OnSubscriber, Parts, is_absent, is_base, is_marked}
use Rattle.span_registry.specs.Subscriber.{registry_interest, sum_after}
use Rattle.span_registry.specs.View.{view_of}

-- the filter with this number alone
abbrev pub single : ℕ → FilterSet
single n k = k == n

-- the filters that refuse, once those of a set have answered so
abbrev pub answered : FilterSet → FilterSet → Bool → FilterSet
answered refused set passed n = if set n then not passed else refused n

-- whether metadata pass, asked on a lane of a store under these filters, and which filters then
-- refuse; these did before
abbrev pub asked : Form → Metadata → Store → ℕ → FilterSet → FilterSet → Bool × FilterSet
asked (Leaf still a) m s lane under refused = (a.enabled m (view_of s lane under), refused)
asked (Filtered None a f) m s lane under refused = (true, refused)
asked (Filtered (Some n) a f) m s lane under refused =
    if a.enabled m (view_of s lane (union under (single n)))
    then asked f m s lane (union under (single n)) (answered refused (single n) true)
    else (true, answered refused (single n) false)
asked (Parts k o i) m s lane under refused =
    if (asked o m s lane under refused).0
    then asked i m s lane under (asked o m s lane under refused).1
    else asked o m s lane under refused
asked (Terminal v) m s lane under refused = (true, refused)

-- whether an event passes, after its metadata did, and which filters then refuse. One that refused
-- already isn't asked again
abbrev pub event_asked : Form → Event → Store → ℕ → FilterSet → FilterSet → Bool × FilterSet
event_asked (Leaf still a) e s lane under refused = (a.event e (view_of s lane under), refused)
event_asked (Filtered None a f) e s lane under refused = (true, refused)
event_asked (Filtered (Some n) a f) e s lane under refused =
    if refused n then (true, refused)
    else if a.event e (view_of s lane (union under (single n)))
    then event_asked f e s lane (union under (single n)) (answered refused (single n) true)
    else (true, answered refused (single n) false)
event_asked (Parts k o i) e s lane under refused =
    if (event_asked o e s lane under refused).0
    then event_asked i e s lane under (event_asked o e s lane under refused).1
    else event_asked o e s lane under refused
event_asked (Terminal v) e s lane under refused = (true, refused)

-- whether the interest is never
abbrev pub is_never : Interest → Bool
is_never Never = true
is_never other = false

-- the higher interest
abbrev pub higher : Interest → Interest → Interest
higher Always j = Always
higher Sometimes Always = Always
higher Sometimes other = Sometimes
higher Never j = j

-- interest and sum of an outer part over an inner one: whether the outer one is marked, its
-- interest, whether the inner one is calm, and interest and sum of the inner one, which is asked
-- after it
abbrev pub over_interest : Bool → Interest → Bool → Interest × Option Interest
    → Interest × Option Interest
over_interest true outer calm inner = inner
over_interest false Never calm inner = (Never, None)
over_interest false Sometimes calm inner = (Sometimes, inner.1)
over_interest false Always calm inner =
    if is_never inner.0 && calm then (Sometimes, inner.1) else inner

-- interest and sum of two parts, by how they stand together: of a list, the higher interest
abbrev pub joint_interest : Arrangement → Bool → Interest → Bool → Interest × Option Interest
    → Interest × Option Interest
joint_interest InList marked outer calm inner = (higher outer inner.0, inner.1)
joint_interest other marked outer calm inner = over_interest marked outer calm inner

-- whether what an inner part's interest rules out may be enabled for others: it is marked, or the
-- registry
abbrev pub is_calm : Arrangement → Form → Bool
is_calm OnSubscriber i = is_marked i || is_base i
is_calm other i = is_marked i

-- the interest in a callsite, and the sum that the pass then holds; the registry handed out this
-- many filters, and the pass held this sum
abbrev pub interest_of : Form → Metadata → ℕ → Option Interest → Interest × Option Interest
interest_of (Leaf still a) m filters sum = (a.interest m, sum)
interest_of (Filtered None a f) m filters sum = (Always, sum)
interest_of (Filtered (Some n) a f) m filters sum = (
  Always,
  Some (sum_with
      (if is_never (a.interest m) then sum else (interest_of f m filters sum).1)
      (a.interest m)),
)
interest_of (Parts k o i) m filters sum =
    joint_interest k (is_marked o) (interest_of o m filters sum).0 (is_calm k i)
    (interest_of i m filters (interest_of o m filters sum).1)
interest_of (Terminal Base) m filters sum = (registry_interest filters sum, sum_after filters sum)
interest_of (Terminal Absent) m filters sum = (Always, sum)
interest_of (Terminal End) m filters sum = (Never, sum)

-- the hint of an outer part over an inner one that is no registry, by the first rule that fits:
-- which of them are marked, which absent, and their hints
abbrev pub hint_by : Bool → Bool → Bool → Bool → Option LevelFilter → Option LevelFilter
    → Option LevelFilter
hint_by marked inner_marked absent inner_absent h k =
    if marked && inner_marked then wider_hint h k
    else if marked && not (is_some k) then None
    else if inner_marked && not (is_some h) then None
    else if absent then (if is_some k then greater_hint h k else None)
    else if inner_absent && is_off k then h
    else greater_hint h k

-- the hint of two parts, by how they stand together: on a registry the outer one's alone; of a list
-- the greater one, none where either has none
abbrev pub over_hint : Arrangement → Form → Form → Option LevelFilter → Option LevelFilter
    → Option LevelFilter
over_hint OnSubscriber o i h k =
    if is_base i then h else hint_by (is_marked o) (is_marked i) (is_absent o) (is_absent i) h k
over_hint InPair o i h k = hint_by (is_marked o) (is_marked i) (is_absent o) (is_absent i) h k
over_hint InList o i h k = wider_hint h k

-- the highest level that may be enabled for a form, if the form knows one
abbrev pub hint_of : Form → Option LevelFilter
hint_of (Leaf still a) = a.hint
hint_of (Filtered n a f) = a.hint
hint_of (Parts k o i) = over_hint k o i (hint_of o) (hint_of i)
hint_of (Terminal Base) = None
hint_of (Terminal v) = Some OFF

-- a question is answered so, and the pass then holds these refusals and the same sum
pub record AnswersSo (given : Bool × FilterSet) (old : Pass) (said : Bool) (new : Pass) : Type
    0 where
  pub answer : said ≡ given.0
  pub refused : refuses (refused_of new) ≡ given.1
  pub sum : interest_sum new ≡ interest_sum old

-- the interest is this, and the pass then holds this sum and the same refusals
pub record SumsSo (given : Interest × Option Interest) (old : Pass) (said : Interest)
    (new : Pass) : Type 0 where
  pub answer : said ≡ given.0
  pub sum : interest_sum new ≡ given.1
  pub refused : refused_of new ≡ refused_of old

-- the filters that refuse, as the pass holds them
abbrev pub refusals : Pass → FilterSet
refusals pass = refuses (refused_of pass)

-- whatever form there is, the question is answered as it answers
abbrev pub AnswersBy : (Form → Type 0) → (Form → FilterSet → Bool × FilterSet) → Pass → Bool → Pass
    → Type 0
AnswersBy has question old answer new =
    (f : Form) → has f → AnswersSo (question f (refusals old)) old answer new

-- whatever form there is, the interest is its interest
abbrev pub SumsBy : (Form → Type 0) → (Form → Option Interest → Interest × Option Interest) → Pass
    → Interest → Pass → Type 0
SumsBy has interest old answer new =
    (f : Form) → has f → SumsSo (interest f (interest_sum old)) old answer new

-- whatever form there is, the answer is its answer
abbrev pub ShowsBy : {A : Type 0} → (Form → Type 0) → (Form → A) → A → Type 0
ShowsBy has which answer = (f : Form) → has f → answer ≡ which f
