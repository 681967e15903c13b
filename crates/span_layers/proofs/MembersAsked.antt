-- What a list's members answer, one after another.
use Rattle.std.proofs.Common.{◌≡◌, ℕ, ◌+◌, ◌≤◌, Bool, true, false, not, ◌&&◌, ◌||◌, ◌==◌, min, List, [], ◌∷◌, length, Option, Some, None, arith, refl, sym, ap}
use Rattle.std.proofs.Common.{◌∙◌}
use Rattle.std.proofs.Math.Dec.{eqb-suc-zero}
use Rattle.std.proofs.lemmas.Bool.{le-leb, leb-false, leb-true, lt-leb}
use Rattle.std.specs.Prelude.{if◌then◌else◌, nat_le}
use Rattle.span_core.specs.Filters.{FilterSet}
use Rattle.span_core.specs.Level.{filter_number, greater, wider_hint}
use Rattle.span_core.specs.Pass.{interest_sum, refused_of}
use Rattle.span_core.specs.declared.interest.Interest.TheVariants.{Always, Never, Sometimes}
use Rattle.span_core.specs.declared.interest.Interest.{Interest}
use Rattle.span_core.specs.declared.level.LevelFilter.{LevelFilter}
use Rattle.span_core.specs.declared.metadata.Metadata.{Metadata}
use Rattle.span_core.specs.declared.pass.Pass.{Pass}
use Rattle.span_layers.specs.Members.{ListForm}
use Rattle.span_layers.specs.Number.{filters_in}
use Rattle.span_registry.specs.Form.{Terminal, End, Filtered, Form, InList, Leaf, Parts, is_absent, is_end, is_marked}
use Rattle.span_registry.specs.Question.{AnswersSo, SumsSo, higher, hint_of, interest_of, refusals}

-- ---- whether metadata or an event pass

module _ (question : Form → FilterSet → Bool × FilterSet) where
  -- what is left answers for the whole: with the pass as it is now, and with that one as it was
  abbrev pub AsksOn : Pass → Pass → Form → Form → Type 0
  AsksOn old now f r = (question f (refusals old) ≡ question r (refusals now)) × (interest_sum now ≡ interest_sum old)

  module _ (over : (o i : Form) (n : FilterSet) → question (Parts InList o i) n ≡ (if (question o n).0 then question i (question o n).1 else question o n))
      (old now : Pass) where
    -- a member passes it
    pub one_passes : (next : Pass) (f o r : Form)
        → AnswersSo (question o (refusals now)) now true next → AsksOn old now f (Parts InList o r) → AsksOn old next f r
    one_passes next f o r a h =
        (h.0 ∙ over o r (refusals now) ∙ sym (λ k. if a.answer k then question r (a.refused k) else question o (refusals now)), a.sum ∙ h.1)

-- ---- interests

higher_never : (i : Interest) → higher i Never ≡ i
higher_never Never = refl
higher_never Sometimes = refl
higher_never Always = refl

higher_assoc : (i j k : Interest) → higher i (higher j k) ≡ higher (higher i j) k
higher_assoc Never j k = refl
higher_assoc Always j k = refl
higher_assoc Sometimes Never k = refl
higher_assoc Sometimes Always k = refl
higher_assoc Sometimes Sometimes Never = refl
higher_assoc Sometimes Sometimes Sometimes = refl
higher_assoc Sometimes Sometimes Always = refl

module _ (m : Metadata) (filters : ℕ) where
  -- the whole's interest is the higher of the highest so far and that of what is left
  abbrev pub SumsOn : Pass → Interest → Pass → Form → Form → Type 0
  SumsOn old highest now f r =
      (interest_of f m filters (interest_sum old)
      ≡ (higher highest (interest_of r m filters (interest_sum now)).0, (interest_of r m filters (interest_sum now)).1)) × (refused_of now ≡ refused_of old)

  -- a member answered
  pub one_summed : (old now next : Pass) (highest said more : Interest)
      → more ≡ higher highest said → (f o r : Form) → SumsSo (interest_of o m filters (interest_sum now)) now said next
      → SumsOn old highest now f (Parts InList o r) → SumsOn old more next f r
  one_summed old now next highest said more is f o r a h =
      let after : Option Interest → Interest × Option Interest = interest_of r m filters in (
        h.0 ∙ sym (λ k. (higher highest (higher (a.answer k) (after (a.sum k)).0), (after (a.sum k)).1))
            ∙ ap (λ i. (i, (after (interest_sum next)).1)) (higher_assoc highest said (after (interest_sum next)).0)
            ∙ ap (λ i. (higher i (after (interest_sum next)).0, (after (interest_sum next)).1)) (sym is),
        a.refused ∙ h.1,
      )

  -- all did
  pub all_summed : (old now : Pass) (highest : Interest) (f : Form)
      → SumsOn old highest now f (Terminal End) → SumsSo (interest_of f m filters (interest_sum old)) old highest now
  all_summed old now highest f h =
      let whole : interest_of f m filters (interest_sum old) ≡ (highest, interest_sum now) = h.0 ∙ ap (λ i. (i, interest_sum now)) (higher_never highest) in
      record {
        answer = ap (λ (p : Interest × Option Interest). p.0) (sym whole);
        sum = ap (λ (p : Interest × Option Interest). p.1) (sym whole);
        refused = h.1;
      }

-- ---- hints

module _ (a b c : LevelFilter) where
  greater_by : (ab bc : Bool) → nat_le (filter_number a) (filter_number b) ≡ ab
      → nat_le (filter_number b) (filter_number c) ≡ bc → greater a (if bc then c else b) ≡ greater (if ab then b else a) c
  greater_by true true h k =
      let both : nat_le (filter_number a) (filter_number c) ≡ true =
      le-leb (filter_number a) (filter_number c) (let x = leb-true _ _ h in let y = leb-true _ _ k in omega (arith, x, y)) in
      ap (λ t. if t then c else a) both ∙ sym (ap (λ t. if t then c else b) k)
  greater_by true false h k = ap (λ t. if t then b else a) h ∙ sym (ap (λ t. if t then c else b) k)
  greater_by false true h k = refl
  greater_by false false h k =
      let neither : nat_le (filter_number a) (filter_number c) ≡ false =
      lt-leb (filter_number a) (filter_number c) (let x = leb-false _ _ h in let y = leb-false _ _ k in omega (arith, x, y)) in
      ap (λ t. if t then b else a) h ∙ sym (ap (λ t. if t then c else a) neither)

  greater_assoc : greater a (greater b c) ≡ greater (greater a b) c
  greater_assoc = greater_by (nat_le (filter_number a) (filter_number b)) (nat_le (filter_number b) (filter_number c)) refl refl

wider_assoc : (h j k : Option LevelFilter) → wider_hint h (wider_hint j k) ≡ wider_hint (wider_hint h j) k
wider_assoc None j k = refl
wider_assoc (Some a) None k = refl
wider_assoc (Some a) (Some b) None = refl
wider_assoc (Some a) (Some b) (Some c) = ap (λ f. Some f) (greater_assoc a b c)

-- the whole's hint is the wider of the widest so far and that of what is left
abbrev pub HintsOn : Option LevelFilter → Form → Form → Type 0
HintsOn widest f r = hint_of f ≡ wider_hint widest (hint_of r)

-- a member answered
pub one_hinted : (widest said more : Option LevelFilter)
    → more ≡ wider_hint widest said → (f o r : Form) → said ≡ hint_of o → HintsOn widest f (Parts InList o r) → HintsOn more f r
one_hinted widest said more is f o r a h =
    h ∙ ap (λ k. wider_hint widest (wider_hint k (hint_of r))) (sym a) ∙ wider_assoc widest said (hint_of r) ∙ ap (λ k. wider_hint k (hint_of r)) (sym is)

-- ---- how many filters

-- the whole's are those so far and those of what is left
abbrev pub CountsOn : ℕ → Form → Form → Type 0
CountsOn count f r = (min (filters_in f) 4294967295 ≡ min (count + filters_in r) 4294967295) × (count ≤ 4294967295)

-- a member was counted
pub one_counted : (count said more : ℕ)
    → more ≡ min (count + said) 4294967295 → (f o r : Form) → said ≡ min (filters_in o) 4294967295 → CountsOn count f (Parts InList o r) → CountsOn more f r
one_counted count said more is f o r a h =
    let sum : min (count + (filters_in o + filters_in r)) 4294967295 ≡ min (more + filters_in r) 4294967295 = omega (arith, is, a) in
    let small : more ≤ 4294967295 = omega (arith, is) in (h.0 ∙ sum, small)

-- all were
pub all_counted : (count : ℕ) (f : Form) → CountsOn count f (Terminal End) → count ≡ min (filters_in f) 4294967295
all_counted count f h =
    let small : count ≤ 4294967295 = h.1 in let sum : min (filters_in f) 4294967295 ≡ min (count + 0) 4294967295 = h.0 in omega (arith, small, sum)

-- ---- marks

-- whether all are marked in a list, which may be empty
abbrev all_marked : Form → Bool
all_marked f = is_end f || is_marked f

-- the whole's members are all marked where those that are left are
abbrev pub MarksOn : Form → Form → Type 0
MarksOn f r = all_marked f ≡ all_marked r

pub one_marked : (f o r : Form) → true ≡ is_marked o → MarksOn f (Parts InList o r) → MarksOn f r
one_marked f o r a h = h ∙ sym (ap (λ t. t && all_marked r) a)

pub all_are_marked : {L : Type 0} (has : L → Form → Type 0) (xs : List L) (f : Form)
    → ListForm has xs f → MarksOn f (Terminal End) → not (length xs == 0) ≡ is_marked f
all_are_marked has [] f form h = sym (ap is_marked form)
all_are_marked has (x ∷ xs) (Parts k o i) form h = ap not (eqb-suc-zero (length xs)) ∙ sym h
all_are_marked has (x ∷ xs) (Leaf still a) form h = absurd form
all_are_marked has (x ∷ xs) (Filtered n a f) form h = absurd form
all_are_marked has (x ∷ xs) (Terminal v) form h = absurd form

-- a member of the whole is absent where one of those is that are left
abbrev pub AbsentOn : Form → Form → Type 0
AbsentOn f r = is_absent f ≡ is_absent r

pub one_there : (f o r : Form) → false ≡ is_absent o → AbsentOn f (Parts InList o r) → AbsentOn f r
one_there f o r a h = h ∙ sym (ap (λ t. t || is_absent r) a)
