-- Boxes nest: each end is that of the newest box of its lane.
use Rattle.std.proofs.Common.{◌≡◌, ◌∙◌, ℕ, Bool, true, false, List, [], ◌∷◌, ◌++◌, Option, None, Some, ap, append_assoc, filter, flat_map}
use Rattle.std.proofs.Common.{if◌then◌else◌, map, not, refl, reverse, sym}
use Rattle.std.specs.Prelude.{◌==◌, ◌&&◌, ◌||◌, fold}
use Rattle.std.specs.List.{list_any}
use Rattle.std.specs.Option.{option_and_then, option_map}
use Rattle.std.proofs.lemmas.Bool.{eq-eqb, eqb-true}
use Rattle.std.proofs.lemmas.List.{append-nil, map-append, reverse-append}
use Rattle.std.proofs.lemmas.List.Elements.{filter-append}
use Rattle.std.proofs.lemmas.List.Sums.{fold-append}
use Rattle.span_core.specs.Span.{number_of}
use Rattle.span_export.specs.Chrome.{TracesNest, boxes_after, changes, changes_from, closed_on, lanes_in, left_on, redrawn, without_box}
use Rattle.span_export.specs.Chrome.Change.{Begins, Ends}
use Rattle.span_export.specs.Entry.{entries_after, is_into, is_of, is_on, lasting, left, since_newest, since_oldest, spans_on}
use Rattle.span_export.specs.declared.entry.Entry.{Entry}
use Rattle.span_times.specs.declared.happening.Happening.TheVariants.{Closed, Entered, Followed, Left, Opened, Recorded, Renamed, Sent}
use Rattle.span_times.specs.declared.happening.Happening.{Happening}
use Rattle.span_times.specs.declared.happening.Point.{Point}

-- ---- what one lane's boxes come to

same : (n : ℕ) → (n == n) ≡ true
same n = eq-eqb n n refl

-- the newest box ends
pop : (lane x : ℕ) (ys : List ℕ) → boxes_after lane (Some (x ∷ ys)) (Ends lane x) ≡ Some ys
pop lane x ys =
    ap (λ b. if b then (if x == x then Some ys else None) else Some (x ∷ ys)) (same lane) ∙ ap (λ b. if b then Some ys else None) (same x)

push : (lane x : ℕ) (ys : List ℕ) → boxes_after lane (Some ys) (Begins lane x) ≡ Some (x ∷ ys)
push lane x ys = ap (λ b. if b then Some (x ∷ ys) else Some ys) (same lane)

-- those in front end
ends : (lane : ℕ) (xs ys : List ℕ) → fold (boxes_after lane) (Some (xs ++ ys)) (map (Ends lane) xs) ≡ Some ys
ends lane [] ys = refl
ends lane (x ∷ xs) ys = ap (λ b. fold (boxes_after lane) b (map (Ends lane) xs)) (pop lane x (xs ++ ys)) ∙ ends lane xs ys

-- and others begin, the last in front
begins : (lane : ℕ) (xs ys : List ℕ) → fold (boxes_after lane) (Some ys) (map (Begins lane) xs) ≡ Some (reverse xs ++ ys)
begins lane [] ys = refl
begins lane (x ∷ xs) ys =
    ap (λ b. fold (boxes_after lane) b (map (Begins lane) xs)) (push lane x ys) ∙ begins lane xs (x ∷ ys)
    ∙ ap Some (sym (append_assoc (reverse xs) (x ∷ []) ys) ∙ ap (λ t. t ++ ys) (sym (reverse-append (x ∷ []) xs)))

-- the boxes of these spans, which stand above others, are redrawn
pub drawn : (x lane : ℕ) (below spans : List ℕ)
    → fold (boxes_after lane) (Some (reverse (below ++ spans))) (redrawn x lane spans)
    ≡ Some (reverse (below ++ filter (λ y. not (y == x)) spans))
drawn x lane below spans =
    let others = filter (λ y. not (y == x)) spans in
    ap (λ ys. fold (boxes_after lane) (Some ys) (redrawn x lane spans)) (reverse-append below spans)
    ∙ fold-append (boxes_after lane) (Some (reverse spans ++ reverse below)) (map (Ends lane) (reverse spans)) (map (Begins lane) others)
    ∙ ap (λ b. fold (boxes_after lane) b (map (Begins lane) others)) (ends lane (reverse spans) (reverse below))
    ∙ begins lane others (reverse below) ∙ ap Some (sym (reverse-append below others))

-- ---- what is drawn on another lane makes no difference

elsewhere : (lane other : ℕ) → (other == lane) ≡ false → (b : Option (List ℕ)) (xs : List ℕ) → fold (boxes_after lane) b (map (Ends other) xs) ≡ b
elsewhere lane other apart b [] = refl
elsewhere lane other apart b (x ∷ xs) =
    ap (λ c. fold (boxes_after lane) c (map (Ends other) xs)) (ap (λ (t : Bool). if t then option_and_then (without_box x) b else b) apart)
    ∙ elsewhere lane other apart b xs

elsewhere_too : (lane other : ℕ) → (other == lane) ≡ false → (b : Option (List ℕ)) (xs : List ℕ) → fold (boxes_after lane) b (map (Begins other) xs) ≡ b
elsewhere_too lane other apart b [] = refl
elsewhere_too lane other apart b (x ∷ xs) =
    ap (λ c. fold (boxes_after lane) c (map (Begins other) xs)) (ap (λ (t : Bool). if t then option_map (λ ys. x ∷ ys) b else b) apart)
    ∙ elsewhere_too lane other apart b xs

undrawn : (x lane other : ℕ) → (other == lane) ≡ false → (b : Option (List ℕ)) (spans : List ℕ) → fold (boxes_after lane) b (redrawn x other spans) ≡ b
undrawn x lane other apart b spans =
    let others = filter (λ y. not (y == x)) spans in
    fold-append (boxes_after lane) b (map (Ends other) (reverse spans)) (map (Begins other) others)
    ∙ ap (λ c. fold (boxes_after lane) c (map (Begins other) others)) (elsewhere lane other apart b (reverse spans)) ∙ elsewhere_too lane other apart b others

-- ---- the spans of a lane, one entry after the other

abbrev more : Bool → Entry → List ℕ → List ℕ
more b e xs = if b then number_of e.span ∷ xs else xs

spans_cons : (n : ℕ) (e : Entry) (es : List Entry) → spans_on n (e ∷ es) ≡ more (is_on n e) e (spans_on n es)
spans_cons n e es = go (is_on n e)
  where
    go : (b : Bool) → map (λ e. number_of e.span) (if b then e ∷ filter (is_on n) es else filter (is_on n) es) ≡ more b e (spans_on n es)
    go true = refl
    go false = refl

more_append : (b : Bool) (e : Entry) (xs ys : List ℕ) → more b e (xs ++ ys) ≡ more b e xs ++ ys
more_append true e xs ys = refl
more_append false e xs ys = refl

first_not : (a b : Bool) → a || b ≡ false → a ≡ false
first_not true b e = e
first_not false b e = refl

later_not : (a b : Bool) → a || b ≡ false → b ≡ false
later_not true b e = cc
later_not false b e = e

first_so : (a b : Bool) → a && b ≡ true → a ≡ true
first_so true b e = refl
first_so false b e = e

second_so : (a b : Bool) → a && b ≡ true → b ≡ true
second_so true b e = e
second_so false b e = cc

second_not : (a b : Bool) → a && b ≡ false → a ≡ true → b ≡ false
second_not true b e h = e
second_not false b e h = cc

-- an entry that is none of the lane into the span stays, by whether it is of the lane
kept : (x : ℕ) (e : Entry) (xs : List ℕ) (on into : Bool) → is_into x e ≡ into → on && into ≡ false
    → filter (λ y. not (y == x)) (more on e xs) ≡ more on e (filter (λ y. not (y == x)) xs)
kept x e xs true into is other =
    ap (λ (b : Bool). if not b then number_of e.span ∷ filter (λ y. not (y == x)) xs else filter (λ y. not (y == x)) xs) (is ∙ other)
kept x e xs false into is other = refl

-- one that is goes
gone : (x : ℕ) (e : Entry) (xs : List ℕ) (on into : Bool) → is_into x e ≡ into → on && into ≡ true
    → filter (λ y. not (y == x)) (more on e xs) ≡ filter (λ y. not (y == x)) xs
gone x e xs true into is one =
    ap (λ (b : Bool). if not b then number_of e.span ∷ filter (λ y. not (y == x)) xs else filter (λ y. not (y == x)) xs) (is ∙ one)
gone x e xs false into is one = cc

none_filtered : (n x : ℕ) (es : List Entry) → list_any (is_of n x) es ≡ false → filter (λ y. not (y == x)) (spans_on n es) ≡ spans_on n es
none_filtered n x [] none = refl
none_filtered n x (e ∷ es) none =
    ap (filter (λ y. not (y == x))) (spans_cons n e es)
    ∙ kept x e (spans_on n es) (is_on n e) (is_into x e) refl (first_not (is_of n x e) (list_any (is_of n x) es) none)
    ∙ ap (more (is_on n e) e) (none_filtered n x es (later_not (is_of n x e) (list_any (is_of n x) es) none)) ∙ sym (spans_cons n e es)

-- ---- the spans of a lane that are redrawn are above others, which stay

record Splits (x : ℕ) (old spans new : List ℕ) : Type 0 where
  below : List ℕ
  before : old ≡ below ++ spans
  after : new ≡ below ++ filter (λ y. not (y == x)) spans

-- one more entry in front
splits_more : (x n : ℕ) (e : Entry) (es fs : List Entry) (spans : List ℕ)
    → Splits x (spans_on n es) spans (spans_on n fs) → Splits x (spans_on n (e ∷ es)) spans (spans_on n (e ∷ fs))
splits_more x n e es fs spans s = record {
  below = more (is_on n e) e s.below;
  before = spans_cons n e es ∙ ap (more (is_on n e) e) s.before ∙ more_append (is_on n e) e s.below spans;
  after = spans_cons n e fs ∙ ap (more (is_on n e) e) s.after ∙ more_append (is_on n e) e s.below (filter (λ y. not (y == x)) spans);
}

left_splits : (n x : ℕ) (es : List Entry) → Splits x (spans_on n es) (spans_on n (since_newest n x es)) (spans_on n (left n x es))
left_splits n x [] = record { below = []; before = refl; after = refl }
left_splits n x (e ∷ es) = go (left_splits n x es) (list_any (is_of n x) es) (is_of n x e) refl refl
  where
    go : Splits x (spans_on n es) (spans_on n (since_newest n x es)) (spans_on n (left n x es))
        → (later here : Bool) → list_any (is_of n x) es ≡ later → is_of n x e ≡ here
        → Splits x (spans_on n (e ∷ es)) (spans_on n (if later then since_newest n x es else if here then e ∷ es else []))
        (spans_on n (if later then e ∷ left n x es else if here then es else e ∷ es))
    go s true here p q = splits_more x n e es (left n x es) (spans_on n (since_newest n x es)) s
    go s false true p q = record {
      below = [];
      before = refl;
      after = sym (ap (filter (λ y. not (y == x))) (spans_cons n e es)
          ∙ gone x e (spans_on n es) (is_on n e) (is_into x e) refl q ∙ none_filtered n x es p);
    }
    go s false false p q =
        record { below = spans_on n (e ∷ es); before = sym (append-nil (spans_on n (e ∷ es))); after = sym (append-nil (spans_on n (e ∷ es))) }

abbrev outside : ℕ → List Entry → List Entry
outside x es = filter (λ e. not (is_into x e)) es

-- the spans of entries into others
spans_outside : (n x : ℕ) (es : List Entry) → spans_on n (outside x es) ≡ filter (λ y. not (y == x)) (spans_on n es)
spans_outside n x [] = refl
spans_outside n x (e ∷ es) = go (spans_outside n x es) (is_into x e) refl
  where
    go : spans_on n (outside x es) ≡ filter (λ y. not (y == x)) (spans_on n es) → (into : Bool)
        → is_into x e ≡ into → spans_on n (if not into then e ∷ outside x es else outside x es) ≡ filter (λ y. not (y == x)) (spans_on n (e ∷ es))
    go s true p =
        s
        ∙ sym (ap (filter (λ y. not (y == x))) (spans_cons n e es) ∙ dropped (is_on n e))
      where
        dropped : (on : Bool) → filter (λ y. not (y == x)) (more on e (spans_on n es)) ≡ filter (λ y. not (y == x)) (spans_on n es)
        dropped true = gone x e (spans_on n es) true true p refl
        dropped false = refl
    go s false p =
        spans_cons n e (outside x es) ∙ ap (more (is_on n e) e) s
        ∙ sym (ap (filter (λ y. not (y == x))) (spans_cons n e es) ∙ kept x e (spans_on n es) (is_on n e) false p (never (is_on n e)))
      where
        never : (b : Bool) → b && false ≡ false
        never true = refl
        never false = refl

closed_splits : (n x : ℕ) (es : List Entry) → Splits x (spans_on n es) (spans_on n (since_oldest n x es)) (spans_on n (outside x es))
closed_splits n x [] = record { below = []; before = refl; after = refl }
closed_splits n x (e ∷ es) = go (closed_splits n x es) (is_of n x e) refl
  where
    go : Splits x (spans_on n es) (spans_on n (since_oldest n x es)) (spans_on n (outside x es)) → (here : Bool) → is_of n x e ≡ here
        → Splits x (spans_on n (e ∷ es)) (spans_on n (if here then e ∷ es else since_oldest n x es)) (spans_on n (outside x (e ∷ es)))
    go s true q = record { below = []; before = refl; after = spans_outside n x (e ∷ es) }
    go s false q =
        record {
          below = more (is_on n e) e s.below;
          before = spans_cons n e es ∙ ap (more (is_on n e) e) s.before ∙ more_append (is_on n e) e s.below (spans_on n (since_oldest n x es));
          after = spans_outside n x (e ∷ es) ∙ ap (filter (λ y. not (y == x))) (spans_cons n e es)
              ∙ kept x e (spans_on n es) (is_on n e) (is_into x e) refl q
              ∙ ap (more (is_on n e) e) (sym (spans_outside n x es) ∙ s.after)
              ∙ more_append (is_on n e) e s.below (filter (λ y. not (y == x)) (spans_on n (since_oldest n x es)));
        }

redrawn_right : (x n : ℕ) (old spans new : List ℕ) → Splits x old spans new
    → fold (boxes_after n) (Some (reverse old)) (redrawn x n spans) ≡ Some (reverse new)
redrawn_right x n old spans new s =
    ap (λ ys. fold (boxes_after n) (Some (reverse ys)) (redrawn x n spans)) s.before ∙ drawn x n s.below spans ∙ ap (λ ys. Some (reverse ys)) (sym s.after)

-- ---- a lane that another leaves a span on stays as it was

not_here : (n l : ℕ) (e : Entry) → (l == n) ≡ false → is_on l e ≡ true → is_on n e ≡ false
not_here n l e apart here = ap (λ (k : ℕ). k == n) (eqb-true e.lane.0 l here) ∙ apart

left_elsewhere : (n l x : ℕ) → (l == n) ≡ false → (es : List Entry) → spans_on n (left l x es) ≡ spans_on n es
left_elsewhere n l x apart [] = refl
left_elsewhere n l x apart (e ∷ es) = go (left_elsewhere n l x apart es) (list_any (is_of l x) es) (is_of l x e) refl
  where
    go : spans_on n (left l x es) ≡ spans_on n es → (later here : Bool) → is_of l x e ≡ here
        → spans_on n (if later then e ∷ left l x es else if here then es else e ∷ es) ≡ spans_on n (e ∷ es)
    go s true here q = spans_cons n e (left l x es) ∙ ap (more (is_on n e) e) s ∙ sym (spans_cons n e es)
    go s false true q = sym (spans_cons n e es ∙ ap (λ b. more b e (spans_on n es)) (not_here n l e apart (first_so (is_on l e) (is_into x e) q)))
    go s false false q = refl

-- ---- a span closes

module _ (n x : ℕ) (all : List Entry) where
  abbrev closing : Option (List ℕ) → List ℕ → Option (List ℕ)
  closing b lanes = fold (boxes_after n) b (flat_map (closed_on x all) lanes)

  closing_cons : (b : Option (List ℕ)) (l : ℕ) (lanes : List ℕ)
      → closing b (l ∷ lanes) ≡ closing (fold (boxes_after n) b (closed_on x all l)) lanes
  closing_cons b l lanes = fold-append (boxes_after n) b (closed_on x all l) (flat_map (closed_on x all) lanes)

  one_lane : (b : Option (List ℕ)) (l : ℕ) (lanes : List ℕ) → (l == n) ≡ false → closing b (l ∷ lanes) ≡ closing b lanes
  one_lane b l lanes apart =
      closing_cons b l lanes ∙ ap (λ c. closing c lanes) (undrawn x n l apart b (spans_on l (since_oldest l x all)))

  -- each lane that is in the span is redrawn once
  once : (b : Option (List ℕ)) (es : List Entry)
      → closing b (lanes_in x es) ≡ (if list_any (is_of n x) es then fold (boxes_after n) b (closed_on x all n) else b)
  once b [] = refl
  once b (e ∷ es) = go (λ c. once c es) (is_into x e) (list_any (is_of e.lane.0 x) es) (e.lane.0 == n) refl refl refl
    where
      go : ((c : Option (List ℕ)) → closing c (lanes_in x es) ≡ (if list_any (is_of n x) es then fold (boxes_after n) c (closed_on x all n) else c))
          → (into later here : Bool) → is_into x e ≡ into → list_any (is_of e.lane.0 x) es ≡ later → (e.lane.0 == n) ≡ here
          → closing b (if into && not later then e.lane.0 ∷ lanes_in x es else lanes_in x es)
          ≡ (if here && is_into x e || list_any (is_of n x) es then fold (boxes_after n) b (closed_on x all n) else b)
      go s false later true p q h = s b ∙ sym (ap (λ (t : Bool). if t || list_any (is_of n x) es then fold (boxes_after n) b (closed_on x all n) else b) p)
      go s false later false p q h = s b
      go s true true true p q h =
          let some : list_any (is_of n x) es ≡ true = ap (λ (l : ℕ). list_any (is_of l x) es) (sym (eqb-true e.lane.0 n h)) ∙ q in
          s b ∙ ap (λ (t : Bool). if t then fold (boxes_after n) b (closed_on x all n) else b) some
          ∙ sym (ap (λ (t : Bool). if t || list_any (is_of n x) es then fold (boxes_after n) b (closed_on x all n) else b) p)
      go s true true false p q h = s b
      go s true false true p q h =
          let here : e.lane.0 ≡ n = eqb-true e.lane.0 n h in
          let none : list_any (is_of n x) es ≡ false = ap (λ (l : ℕ). list_any (is_of l x) es) (sym here) ∙ q in
          let c = fold (boxes_after n) b (closed_on x all e.lane.0) in
          closing_cons b e.lane.0 (lanes_in x es) ∙ s c
          ∙ ap (λ (t : Bool). if t then fold (boxes_after n) c (closed_on x all n) else c) none
          ∙ ap (λ (l : ℕ). fold (boxes_after n) b (closed_on x all l)) here
          ∙ sym (ap (λ (t : Bool). if t || list_any (is_of n x) es then fold (boxes_after n) b (closed_on x all n) else b) p)
      go s true false false p q h = one_lane b e.lane.0 (lanes_in x es) h ∙ s b

-- where the lane isn't in the span, nothing is redrawn
none_outside : (n x : ℕ) (es : List Entry) → list_any (is_of n x) es ≡ false → spans_on n (outside x es) ≡ spans_on n es
none_outside n x es none = spans_outside n x es ∙ none_filtered n x es none

all_closed : (n x : ℕ) (es : List Entry)
    → fold (boxes_after n) (Some (reverse (spans_on n es))) (flat_map (closed_on x es) (lanes_in x es)) ≡ Some (reverse (spans_on n (outside x es)))
all_closed n x es = once n x es (Some (reverse (spans_on n es))) es ∙ go (list_any (is_of n x) es) refl
  where
    go : (some : Bool) → list_any (is_of n x) es ≡ some
        → (if some then fold (boxes_after n) (Some (reverse (spans_on n es))) (closed_on x es n) else Some (reverse (spans_on n es)))
        ≡ Some (reverse (spans_on n (outside x es)))
    go true e = redrawn_right x n (spans_on n es) (spans_on n (since_oldest n x es)) (spans_on n (outside x es)) (closed_splits n x es)
    go false e = ap (λ ys. Some (reverse ys)) (sym (none_outside n x es e))

-- ---- one point after the other

entered : (n : ℕ) (es : List Entry) (e : Entry) → spans_on n (es ++ e ∷ []) ≡ spans_on n es ++ spans_on n (e ∷ [])
entered n es e = ap (map (λ e. number_of e.span)) (filter-append (is_on n) es (e ∷ []))
    ∙ map-append (λ e. number_of e.span) (filter (is_on n) es) (filter (is_on n) (e ∷ []))

enters : (n : ℕ) (es : List Entry) (e : Entry) (here : Bool) → is_on n e ≡ here
    → reverse (spans_on n (es ++ e ∷ [])) ≡ more here e (reverse (spans_on n es))
enters n es e true h =
    ap reverse (entered n es e ∙ ap (λ xs. spans_on n es ++ xs) (spans_cons n e [] ∙ ap (λ b. more b e []) h))
    ∙ reverse-append (spans_on n es) (number_of e.span ∷ [])
enters n es e false h =
    ap reverse (entered n es e ∙ ap (λ xs. spans_on n es ++ xs) (spans_cons n e [] ∙ ap (λ b. more b e []) h) ∙ append-nil (spans_on n es))

step : (n : ℕ) (es : List Entry) (p : Point) (what : Happening)
    → fold (boxes_after n) (Some (reverse (spans_on n es))) (changes es p what) ≡ Some (reverse (spans_on n (entries_after es p what)))
step n es p (Entered id) = go (p.lane.0 == n) refl
  where
    go : (here : Bool) → (p.lane.0 == n) ≡ here
        → (if here then Some (number_of id ∷ reverse (spans_on n es)) else Some (reverse (spans_on n es)))
        ≡ Some (reverse (spans_on n (es ++ record { lane = p.lane; span = id } ∷ [])))
    go true h = ap Some (sym (enters n es (record { lane = p.lane; span = id }) true h))
    go false h = ap Some (sym (enters n es (record { lane = p.lane; span = id }) false h))
step n es p (Left id) = go (p.lane.0 == n) refl
  where
    go : (here : Bool) → (p.lane.0 == n) ≡ here
        → fold (boxes_after n) (Some (reverse (spans_on n es))) (left_on (number_of id) es p.lane.0)
        ≡ Some (reverse (spans_on n (left p.lane.0 (number_of id) es)))
    go true h =
        let same = eqb-true p.lane.0 n h in
        ap (λ (l : ℕ). fold (boxes_after n) (Some (reverse (spans_on n es))) (left_on (number_of id) es l)) same
        ∙ redrawn_right (number_of id)
        n (spans_on n es) (spans_on n (since_newest n (number_of id) es)) (spans_on n (left n (number_of id) es)) (left_splits n (number_of id) es)
        ∙ ap (λ (l : ℕ). Some (reverse (spans_on n (left l (number_of id) es)))) (sym same)
    go false h =
        undrawn (number_of id) n p.lane.0 h (Some (reverse (spans_on n es))) (spans_on p.lane.0 (since_newest p.lane.0 (number_of id) es))
        ∙ ap (λ ys. Some (reverse ys)) (sym (left_elsewhere n p.lane.0 (number_of id) h es))
step n es p (Closed id) = all_closed n (number_of id) es
step n es p (Opened id callsite parent) = refl
step n es p (Sent callsite parent) = refl
step n es p (Recorded id) = refl
step n es p (Followed id other) = refl
step n es p (Renamed id other) = refl

whole : (n : ℕ) (before rest : List Point)
    → fold (boxes_after n) (Some (reverse (spans_on n (lasting before)))) (changes_from before rest)
    ≡ Some (reverse (spans_on n (lasting (before ++ rest))))
whole n before [] = ap (λ ps. Some (reverse (spans_on n (lasting ps)))) (sym (append-nil before))
whole n before (p ∷ rest) =
    let es = lasting before in
    let later = before ++ p ∷ [] in
    let next : lasting later ≡ entries_after es p p.what = fold-append (λ es p. entries_after es p p.what) [] before (p ∷ []) in
    fold-append (boxes_after n) (Some (reverse (spans_on n es))) (changes es p p.what) (changes_from later rest)
    ∙ ap (λ b. fold (boxes_after n) b (changes_from later rest)) (step n es p p.what ∙ ap (λ ys. Some (reverse (spans_on n ys))) (sym next))
    ∙ whole n later rest ∙ ap (λ ps. Some (reverse (spans_on n (lasting ps)))) (append_assoc before (p ∷ []) rest)

pub traces_nest : TracesNest
traces_nest ps lane = whole lane [] ps
