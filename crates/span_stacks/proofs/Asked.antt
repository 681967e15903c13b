-- What a form is asked where each outermost filter refuses, and where all pass.
use Rattle.std.proofs.Common.{◌≡◌, ℕ, Bool, true, false, not, ◌&&◌, ◌==◌, [], ◌∷◌, Option, Some, None, refl, sym, ap, subst, ◌∙◌, ⊎_elim}
use Rattle.std.specs.Option.{option_map}
use Rattle.std.specs.Prelude.{⊤, IsSome, if◌then◌else◌}
use Rattle.std.specs.List.{AllByRecursion}
use Rattle.std.proofs.lemmas.Bool.{and_from, and_left, and_parts, cases_Bool, eqb-true, false≢true, or_from, or_parts}
use Rattle.span_core.specs.Filters.{FilterSet, union}
use Rattle.span_core.specs.Span.{attributes_of, id_of, metadata_of}
use Rattle.span_core.specs.declared.metadata.Metadata.{Metadata}
use Rattle.span_core.specs.declared.span.Attributes.{Attributes}
use Rattle.span_core.specs.declared.span.Id.{Id}
use Rattle.span_core.specs.declared.span.Parent.TheVariants.{Root}
use Rattle.span_stacks.proofs.Built.{rules_of}
use Rattle.span_stacks.specs.Honest.{IsHonestStack}
use Rattle.span_store.specs.Store.{Store}
use Rattle.span_stacks.specs.Verdict.{IsOrderly, LeavesRefuseNothing, vetoes}
use Rattle.span_stacks.specs.Wanted.{HasMetadata, IsWantedByAll, IsWantedByNobody}
use Rattle.span_registry.specs.Path.{Path, passes_path, path_at}
use Rattle.span_registry.specs.Behaviour.{Behaviour, Notice, OnEvent, OnNewSpan}
use Rattle.span_registry.specs.Form.{Terminal, Filtered, Form, InList, InPair, Leaf, OnSubscriber, Parts}
use Rattle.span_registry.specs.Hooks.{no_filter}
use Rattle.span_registry.specs.Position.{Here, Inner, Outer, Position, Under}
use Rattle.span_registry.specs.Plan.{passes}
use Rattle.span_registry.specs.Question.{answered, asked, single}
use Rattle.span_registry.specs.View.{view_of}

-- every leaf stands under a filter, and each outermost filter refuses the metadata, or has no number
abbrev pub AreRefused : Form → Metadata → Store → ℕ → FilterSet → Type 0
AreRefused (Leaf still a) m s l b = ⊥
AreRefused (Filtered None a f) m s l b = ⊤
AreRefused (Filtered (Some n) a f) m s l b = a.enabled m (view_of s l (union b (single n))) ≡ false
AreRefused (Parts k o i) m s l b = AreRefused o m s l b × AreRefused i m s l b
AreRefused (Terminal v) m s l b = ⊤

-- the same of the filters alone
abbrev pub FiltersRefuse : Form → Metadata → Store → ℕ → FilterSet → Type 0
FiltersRefuse (Leaf still a) m s l b = ⊤
FiltersRefuse (Filtered None a f) m s l b = ⊤
FiltersRefuse (Filtered (Some n) a f) m s l b = a.enabled m (view_of s l (union b (single n))) ≡ false
FiltersRefuse (Parts k o i) m s l b = FiltersRefuse o m s l b × FiltersRefuse i m s l b
FiltersRefuse (Terminal v) m s l b = ⊤

-- every filter and leaf passes the metadata, but for what is under a filter without a number
abbrev pub AllPass : Form → Metadata → Store → ℕ → FilterSet → Type 0
AllPass (Leaf still a) m s l b = a.enabled m (view_of s l b) ≡ true
AllPass (Filtered None a f) m s l b = ⊤
AllPass (Filtered (Some n) a f) m s l b = (a.enabled m (view_of s l (union b (single n))) ≡ true) × AllPass f m s l (union b (single n))
AllPass (Parts k o i) m s l b = AllPass o m s l b × AllPass i m s l b
AllPass (Terminal v) m s l b = ⊤

-- ---- where all are refused

refuses_new : (a : Behaviour) (e : Notice) (m : Metadata) (s : Store) (l : ℕ) (b : FilterSet)
    → HasMetadata e m → a.enabled m (view_of s l b) ≡ false → passes a e s l b ≡ false
refuses_new a (OnNewSpan t x) m s l b e h = ap (λ z. a.enabled z (view_of s l b)) e ∙ h
refuses_new a (OnEvent v) m s l b e h = and_left _ _ (ap (λ z. a.enabled z (view_of s l b)) e ∙ h)
refuses_new a other m s l b e h = absurd e

-- the rest of a path that starts with a filter
data Starts (n : Option ℕ) (a : Behaviour) : Path → Type 0 where
  StartsSo : (rest : Path) → Starts n a ((n, a) ∷ rest)

path_starts : (n : Option ℕ) (a : Behaviour) (o : Option Path) (path : Path) → option_map (λ p. (n, a) ∷ p) o ≡ Some path → Starts n a path
path_starts n a None path e = absurd (cc)
path_starts n a (Some rest) path e = let same : (n, a) ∷ rest ≡ path = cc in subst (Starts n a) same (StartsSo rest)

starts : (n : Option ℕ) (a : Behaviour) (f : Form) (position : Position) (path : Path) → path_at (Filtered n a f) position ≡ Some path → Starts n a path
starts n a f Here path e = let same : (n, a) ∷ [] ≡ path = cc in subst (Starts n a) same (StartsSo [])
starts n a f (Under p) path e = path_starts n a (path_at f p) path e
starts n a f other path e = absurd (cc)

unnumbered : (a : Behaviour) (path : Path) (e : Notice) (s : Store) (l : ℕ) (b : FilterSet) → Starts None a path → passes_path path e s l b ≡ false
unnumbered a path e s l b (StartsSo rest) = refl

first_refuses : (n : ℕ) (a : Behaviour) (path : Path) (e : Notice) (s : Store) (l : ℕ) (b : FilterSet)
    → passes a e s l (union b (single n)) ≡ false → Starts (Some n) a path → passes_path path e s l b ≡ false
first_refuses n a path e s l b h (StartsSo rest) = and_left _ _ h

refused_path : (f : Form) (m : Metadata) (s : Store) (l : ℕ) (b : FilterSet) (e : Notice) (position : Position) (path : Path)
    → AreRefused f m s l b → HasMetadata e m → path_at f position ≡ Some path → passes_path path e s l b ≡ false
refused_path (Leaf still a) m s l b e position path r h p = absurd r
refused_path (Filtered None a f) m s l b e position path r h p = unnumbered a path e s l b (starts None a f position path p)
refused_path (Filtered (Some n) a f) m s l b e position path r h p =
    first_refuses n a path e s l b (refuses_new a e m s l (union b (single n)) h r) (starts (Some n) a f position path p)
refused_path (Parts k o i) m s l b e (Outer q) path r h p = refused_path o m s l b e q path r.0 h p
refused_path (Parts k o i) m s l b e (Inner q) path r h p = refused_path i m s l b e q path r.1 h p
refused_path other m s l b e position path r h p = absurd (cc)

pub wanted_by_nobody : (f : Form) (m : Metadata) (s : Store) (l : ℕ) → AreRefused f m s l no_filter → IsWantedByNobody f m s l
wanted_by_nobody f m s l r = λ e position path h p. refused_path f m s l no_filter e position path r h p

-- ---- where all pass

all_vetoes : (f : Form) (m : Metadata) (s : Store) (l : ℕ) → AllPass f m s l no_filter → vetoes f m s l ≡ false
all_vetoes (Leaf still a) m s l h = ap not h
all_vetoes (Parts k o i) m s l h = or_from _ _ (all_vetoes o m s l h.0) (all_vetoes i m s l h.1)
all_vetoes other m s l h = refl

-- to let by a filter that doesn't refuse changes nothing
pub clear : (p : FilterSet) (n : ℕ) → p n ≡ false → answered p (single n) true ≡ p
clear p n own = λ i k. cleared k i
  where
    cleared : (k : ℕ) → answered p (single n) true k ≡ p k
    cleared k = ⊎_elim
        (λ (same : (k == n) ≡ true). ap (λ c. if c then not true else p k) same ∙ sym (ap p (eqb-true k n same) ∙ own))
        (λ (other : (k == n) ≡ false). ap (λ c. if c then not true else p k) other)
        (cases_Bool (k == n))

all_asked : (f : Form) (m : Metadata) (s : Store) (l : ℕ) (b : FilterSet) → AllPass f m s l b → asked f m s l b no_filter ≡ (true, no_filter)
all_asked (Leaf still a) m s l b h = ap (λ c. (c, no_filter)) h
all_asked (Filtered (Some n) a f) m s l b h =
    ap (λ c. if c then asked f m s l (union b (single n)) (answered no_filter (single n) true) else (true, answered no_filter (single n) false)) h.0
    ∙ ap (λ p. asked f m s l (union b (single n)) p) (clear no_filter n refl)
    ∙ all_asked f m s l (union b (single n)) h.1
all_asked (Parts k o i) m s l b h =
    ap (λ (r : Bool × FilterSet). if r.0 then asked i m s l b r.1 else r) (all_asked o m s l b h.0) ∙ all_asked i m s l b h.1
all_asked other m s l b h = refl

-- each filter of it has a number
abbrev HasNumbers : Path → Type 0
HasNumbers path = AllByRecursion (λ one. IsSome one.0) path

-- the rest of the path, which is that of what is under the filter
pub data Goes (n : Option ℕ) (a : Behaviour) (o : Option Path) : Path → Type 0 where
  GoesOn : (rest : Path) → o ≡ Some rest → Goes n a o ((n, a) ∷ rest)

pub path_goes : (n : Option ℕ) (a : Behaviour) (o : Option Path) (path : Path) → option_map (λ p. (n, a) ∷ p) o ≡ Some path → Goes n a o path
path_goes n a None path e = absurd (cc)
path_goes n a (Some rest) path e = let same : (n, a) ∷ rest ≡ path = cc in subst (Goes n a (Some rest)) same (GoesOn rest refl)

all_start : (a : Behaviour) (path : Path) (t : Attributes) (x : Id) (s : Store) (l : ℕ) (b : FilterSet)
    → Starts None a path → HasNumbers path → passes_path path (OnNewSpan t x) s l b ≡ true
all_start a path t x s l b (StartsSo rest) k = absurd (false≢true k.0)

all_under : (n : ℕ) (a : Behaviour) (o : Option Path) (t : Attributes) (x : Id) (s : Store) (l : ℕ) (b : FilterSet) (path : Path)
    → a.enabled (metadata_of t) (view_of s l (union b (single n))) ≡ true
    → ((rest : Path) → o ≡ Some rest → HasNumbers rest → passes_path rest (OnNewSpan t x) s l (union b (single n)) ≡ true)
    → Goes (Some n) a o path → HasNumbers path → passes_path path (OnNewSpan t x) s l b ≡ true
all_under n a o t x s l b path h inner (GoesOn rest e) k =
    ap (λ c. c && passes_path rest (OnNewSpan t x) s l (union b (single n))) h ∙ inner rest e k.1

all_path : (f : Form) (t : Attributes) (x : Id) (s : Store) (l : ℕ) (b : FilterSet) (position : Position) (path : Path)
    → AllPass f (metadata_of t) s l b → path_at f position ≡ Some path → HasNumbers path → passes_path path (OnNewSpan t x) s l b ≡ true
all_path (Leaf still a) t x s l b Here path h p k = let same : [] ≡ path = cc in subst (λ q. passes_path q (OnNewSpan t x) s l b ≡ true) same refl
all_path (Filtered None a f) t x s l b position path h p k = all_start a path t x s l b (starts None a f position path p) k
all_path (Filtered (Some n) a f) t x s l b Here path h p k =
    let same : (Some n, a) ∷ [] ≡ path = cc in
    subst (λ q. passes_path q (OnNewSpan t x) s l b ≡ true) same (and_from _ _ h.0 refl)
all_path (Filtered (Some n) a f) t x s l b (Under q) path h p k =
    all_under n
    a (path_at f q) t x s l b path h.0 (λ rest e m. all_path f t x s l (union b (single n)) q rest h.1 e m) (path_goes (Some n) a (path_at f q) path p) k
all_path (Parts j o i) t x s l b (Outer q) path h p k = all_path o t x s l b q path h.0 p k
all_path (Parts j o i) t x s l b (Inner q) path h p k = all_path i t x s l b q path h.1 p k
all_path other t x s l b position path h p k = absurd (cc)

pub wanted_by_all : (f : Form) (m : Metadata) (s : Store) (l : ℕ) → AllPass f m s l no_filter → IsWantedByAll f m s l
wanted_by_all f m s l h = record {
  veto = all_vetoes f m s l h;
  paths = λ t x position path e p k. all_path f t x s l no_filter position path (subst (λ z. AllPass f z s l no_filter) (sym e) h) p k;
}

-- ---- and the other way round

-- each path whose filters have numbers passes a new span
abbrev PathsPass : Form → Attributes → Id → Store → ℕ → FilterSet → Type 0
PathsPass f t x s l b = (position : Position) (path : Path) → path_at f position ≡ Some path → HasNumbers path → passes_path path (OnNewSpan t x) s l b ≡ true

paths_under : (n : ℕ) (a : Behaviour) (f : Form) (t : Attributes) (x : Id) (s : Store) (l : ℕ) (b : FilterSet) → PathsPass (Filtered (Some n) a f) t x s l b
    → (a.enabled (metadata_of t) (view_of s l (union b (single n))) ≡ true) × PathsPass f t x s l (union b (single n))
paths_under n a f t x s l b p =
    let first : a.enabled (metadata_of t) (view_of s l (union b (single n))) ≡ true = (and_parts _ _ (p Here ((Some n, a) ∷ []) refl (refl, tt))).0 in (
      first,
      λ position path e k.
          sym (ap (λ c. c && passes_path path (OnNewSpan t x) s l (union b (single n))) first)
          ∙ p (Under position) ((Some n, a) ∷ path) (ap (option_map (λ (q : Path). (Some n, a) ∷ q)) e) (refl, k),
    )

quiet_pass : (f : Form) (t : Attributes) (x : Id) (s : Store) (l : ℕ) (b : FilterSet)
    → LeavesRefuseNothing f → PathsPass f t x s l b → AllPass f (metadata_of t) s l b
quiet_pass (Leaf still a) t x s l b q p = q.enabled (metadata_of t) (view_of s l b)
quiet_pass (Filtered (Some n) a f) t x s l b q p =
    let both = paths_under n a f t x s l b p in
    (both.0, quiet_pass f t x s l (union b (single n)) q both.1)
quiet_pass (Parts k o i) t x s l b q p =
    (quiet_pass o t x s l b q.0 (λ position. p (Outer position)), quiet_pass i t x s l b q.1 (λ position. p (Inner position)))
quiet_pass other t x s l b q p = tt

passes_unless : (c : Bool) → not c ≡ false → c ≡ true
passes_unless true e = refl
passes_unless false e = sym e

orderly_pass : (f : Form) (t : Attributes) (x : Id) (s : Store) (l : ℕ)
    → IsOrderly f → vetoes f (metadata_of t) s l ≡ false → PathsPass f t x s l no_filter → AllPass f (metadata_of t) s l no_filter
orderly_pass (Leaf still a) t x s l c v p = passes_unless _ v
orderly_pass (Filtered (Some n) a f) t x s l c v p =
    let both = paths_under n a f t x s l no_filter p in
    (both.0, quiet_pass f t x s l (union no_filter (single n)) c both.1)
orderly_pass (Parts OnSubscriber o i) t x s l c v p =
    let both = or_parts _ _ v in
    (orderly_pass o t x s l c.0 both.0 (λ position. p (Outer position)), orderly_pass i t x s l c.1 both.1 (λ position. p (Inner position)))
orderly_pass (Parts InPair o i) t x s l c v p =
    let both = or_parts _ _ v in
    (orderly_pass o t x s l c.0 both.0 (λ position. p (Outer position)), orderly_pass i t x s l c.1 both.1 (λ position. p (Inner position)))
orderly_pass (Parts InList o i) t x s l c v p =
    (quiet_pass o t x s l no_filter c.0 (λ position. p (Outer position)), quiet_pass i t x s l no_filter c.1 (λ position. p (Inner position)))
orderly_pass other t x s l c v p = tt

-- what all want passes where all are asked, and no filter refuses it
pub asked_by_all : (f : Form) (filters : ℕ) (m : Metadata) (s : Store) (l : ℕ)
    → IsHonestStack f filters → IsWantedByAll f m s l → asked f m s l no_filter no_filter ≡ (true, no_filter)
asked_by_all f filters m s l honest w =
    let t = attributes_of m (record { ref_ptr = (0, 0); now = [] }) Root in
    all_asked f m
    s l no_filter (orderly_pass f t (id_of 1) s l (rules_of f filters honest).orderly w.veto (λ position path e k. w.paths t (id_of 1) position path refl e k))
