-- What is handed out in parts.
use Rattle.std.proofs.Common.{◌≡◌, ◌∙◌, ◌==◌, ◌<◌, ◌+◌, ℕ, zero, suc, Bool, true, false, List, [], ◌∷◌, ◌++◌, Option, Some, None, ap, append_assoc, arith}
use Rattle.std.proofs.Common.{filter, flat_map, fold, get_or, inl, inr, length, map, refl, subst, sym, ◌⊎◌, ⊎_elim}
use Rattle.std.proofs.lemmas.Bool.{cases_Bool, eqb-true, false≢true, ne_eqb, not-false, not-true, or_cases}
use Rattle.std.proofs.lemmas.List.Elements.{Contains-append_cases, Contains-append_left, Contains-append_right, filter-append}
use Rattle.std.proofs.lemmas.List.Folds.{fold-map, list_any-append}
use Rattle.std.proofs.lemmas.List.Sums.{fold-append}
use Rattle.std.proofs.lemmas.List.{append-nil}
use Rattle.std.specs.List.{Contains, list_any}
use Rattle.std.specs.Option.{option_map_or}
use Rattle.std.specs.Prelude.{◌||◌, MatchOption, cond, if◌then◌else◌, not, ⊤}
use Rattle.span_core.specs.Span.{id_of, number_of}
use Rattle.span_core.specs.declared.span.Id.{Id}
use Rattle.span_times.specs.declared.happening.Happening.TheVariants.{Closed, Opened}
use Rattle.span_times.specs.declared.happening.Happening.{Happening}
use Rattle.span_otlp.specs.Root.{root_after, root_in}
use Rattle.span_times.specs.Field.{FieldSaid, kept_in}
use Rattle.span_times.specs.Finished.{HandsOutFinished, PointSaid, closed_after, goes_with, is_closed_in, is_over, openings_in, picked, points_said}
use Rattle.span_times.specs.Kept.{KeptState}
use Rattle.span_times.specs.Measure.{is_opening, opens}
use Rattle.span_times.specs.declared.happening.Point.{Point}
use Rattle.span_times.specs.declared.kept.Taken.{Taken}
use Rattle.span_otlp.specs.Sound.{AreSound, CanFollow, CanHappen, IsOpen, has_closed, has_opened}
use Rattle.span_otlp.specs.Shared.{AreParts, IsPart, PartsKeepRoots, known_by}
use Rattle.span_otlp.proofs.Sound.{Known, Quiet, by_kind, closed_behind, closed_kept, differs, known_of, none_among, only_one, opened_behind, opened_still}
use Rattle.span_otlp.proofs.Sound.{root_behind, root_kept, run}

-- what stays, where these spans are closed
abbrev pub stays : (ℕ → Bool) → Happening → Bool
stays closed h = not (is_over closed h)

-- ---- roots by some of what happened

-- what opens no span with this number leaves its root
root_unopened : (h : Happening) (r : ℕ → ℕ) (x : ℕ) → opens x h ≡ false → root_after h r x ≡ r x
root_unopened = by_kind (λ h. (r : ℕ → ℕ) (x : ℕ) → opens x h ≡ false → root_after h r x ≡ r x)
    (λ id callsite parent. λ r x e. ap (λ b. if b then option_map_or (λ (p : Id). r (number_of p)) parent x else r x) e)
    (λ id. λ r x e. refl)
    (λ h quiet. λ r x e. quiet.root r x)

or_false : (a b : Bool) → (a || b) ≡ false → (a ≡ false) × (b ≡ false)
or_false true b e = absurd (false≢true (sym e))
or_false false b e = (refl, e)

pub roots_unopened : (start hs : List Happening) (x : ℕ) → has_opened hs x ≡ false → root_in (start ++ hs) x ≡ root_in start x
roots_unopened start [] x none = ap (λ ks. root_in ks x) (append-nil start)
roots_unopened start (h ∷ hs) x none =
    let both = or_false (opens x h) (has_opened hs x) none in
    ap (λ ks. root_in ks x) (sym (append_assoc start (h ∷ []) hs)) ∙ roots_unopened (start ++ h ∷ []) hs x both.1
    ∙ root_behind start h x ∙ root_unopened h (root_in start) x both.0

one_opening : (h : Happening) (r : ℕ → ℕ) (more : List Happening) (b : Bool) → is_opening h ≡ b
    → fold (λ (root : ℕ → ℕ) g. root_after g root) r (cond b (h ∷ more) more) ≡ fold (λ (root : ℕ → ℕ) g. root_after g root) (root_after h r) more
one_opening h r more true e = refl
one_opening h r more false e = ap (λ (s : ℕ → ℕ). fold (λ (root : ℕ → ℕ) g. root_after g root) s more) (sym (λ j x. other h r x e j))
  where
    other : (h : Happening) (r : ℕ → ℕ) (x : ℕ) → is_opening h ≡ false → root_after h r x ≡ r x
    other = by_kind (λ h. (r : ℕ → ℕ) (x : ℕ) → is_opening h ≡ false → root_after h r x ≡ r x)
        (λ id callsite parent. λ r x e. absurd (false≢true (sym e)))
        (λ id. λ r x e. refl)
        (λ h quiet. λ r x e. quiet.root r x)

-- openings alone tell roots
openings_fold : (hs : List Happening) (r : ℕ → ℕ)
    → fold (λ (root : ℕ → ℕ) g. root_after g root) r (filter is_opening hs) ≡ fold (λ (root : ℕ → ℕ) g. root_after g root) r hs
openings_fold [] r = refl
openings_fold (h ∷ hs) r = one_opening h r (filter is_opening hs) (is_opening h) refl ∙ openings_fold hs (root_after h r)

pub openings_tell : (hs : List Happening) (x : ℕ) → root_in (filter is_opening hs) x ≡ root_in hs x
openings_tell hs x = ap (λ (r : ℕ → ℕ). r x) (openings_fold hs (λ x. x))

-- of spans that pass a test, those that pass another one have the same roots by what passes
abbrev pub Agree : List Happening → (Happening → Bool) → (ℕ → Bool) → List Happening → Type 0
Agree start g T hs = (x : ℕ) → has_opened hs x ≡ true → T x ≡ true → root_in (start ++ filter g hs) x ≡ root_in hs x

-- whatever opens such a span passes, and so does its parent's root
pub record Passes (start : List Happening) (g : Happening → Bool) (T : ℕ → Bool) (hs : List Happening) (h : Happening) : Type 0 where
  pub passes : (id : Id) (callsite : ℕ) (parent : Option Id) → h ≡ Opened id callsite parent → T (number_of id) ≡ true → g h ≡ true
  pub above : (id p : Id) (callsite : ℕ) → h ≡ Opened id callsite (Some p) → T (number_of id) ≡ true
      → root_in (start ++ filter g hs) (number_of p) ≡ root_in hs (number_of p)

picked_behind : (start : List Happening) (g : Happening → Bool) (hs : List Happening) (h : Happening) (x : ℕ)
    → root_in (start ++ filter g (hs ++ h ∷ [])) x ≡ root_in ((start ++ filter g hs) ++ cond (g h) (h ∷ []) []) x
picked_behind start g hs h x =
    ap (λ ks. root_in (start ++ ks) x) (filter-append g hs (h ∷ [])) ∙ ap (λ ks. root_in ks x) (sym (append_assoc start (filter g hs) (cond (g h) (h ∷ []) [])))

unchanged : (b : Bool) (ks : List Happening) (h : Happening) (x : ℕ) → root_after h (root_in ks) x ≡ root_in ks x
    → root_in (ks ++ cond b (h ∷ []) []) x ≡ root_in ks x
unchanged true ks h x e = root_behind ks h x ∙ e
unchanged false ks h x e = ap (λ ks. root_in ks x) (append-nil ks)

before_it : (hs : List Happening) (h : Happening) (x : ℕ) → has_opened (hs ++ h ∷ []) x ≡ true → opens x h ≡ false → has_opened hs x ≡ true
before_it hs h x opened other = ⊎_elim (λ e. e) (λ e. absurd (false≢true (sym other ∙ e)))
    (or_cases (has_opened hs x) (opens x h) (sym (opened_behind hs h x) ∙ opened))

-- a span whose opening isn't this one
agree_beside : (start : List Happening) (g : Happening → Bool) (T : ℕ → Bool) (hs : List Happening) (h : Happening) (x : ℕ)
    → Agree start g T hs → has_opened (hs ++ h ∷ []) x ≡ true → T x ≡ true → opens x h ≡ false
    → root_in (start ++ filter g (hs ++ h ∷ [])) x ≡ root_in (hs ++ h ∷ []) x
agree_beside start g T hs h x agree opened test other =
    picked_behind start g hs h x
    ∙ unchanged (g h) (start ++ filter g hs) h x (root_unopened h (root_in (start ++ filter g hs)) x other)
    ∙ agree x (before_it hs h x opened other) test ∙ sym (root_unopened h (root_in hs) x other) ∙ sym (root_behind hs h x)

same_above : (r s : ℕ → ℕ) (parent : Option Id) (x : ℕ) → ((p : Id) → parent ≡ Some p → r (number_of p) ≡ s (number_of p))
    → option_map_or (λ (p : Id). r (number_of p)) parent x ≡ option_map_or (λ (p : Id). s (number_of p)) parent x
same_above r s None x same = refl
same_above r s (Some p) x same = same p refl

-- the span that opens
agree_now : (start : List Happening) (g : Happening → Bool) (T : ℕ → Bool) (hs : List Happening) (id : Id) (callsite : ℕ) (parent : Option Id) (x : ℕ)
    → Passes start g T hs (Opened id callsite parent) → T x ≡ true → (number_of id == x) ≡ true
    → root_in (start ++ filter g (hs ++ Opened id callsite parent ∷ [])) x ≡ root_in (hs ++ Opened id callsite parent ∷ []) x
agree_now start g T hs id callsite parent x passes test here =
    let h = Opened id callsite parent in
    let ks = start ++ filter g hs in
    let own : T (number_of id) ≡ true = ap T (eqb-true (number_of id) x here) ∙ test in
    picked_behind start g hs h x ∙ ap (λ b. root_in (ks ++ cond b (h ∷ []) []) x) (passes.passes id callsite parent refl own) ∙ root_behind ks h x
    ∙ ap (λ b. if b then option_map_or (λ (p : Id). root_in ks (number_of p)) parent x else root_in ks x) here
    ∙ same_above (root_in ks) (root_in hs) parent x (λ p e. passes.above id p callsite (ap (λ (o : Option Id). Opened id callsite o) e) own)
    ∙ sym (ap (λ b. if b then option_map_or (λ (p : Id). root_in hs (number_of p)) parent x else root_in hs x) here) ∙ sym (root_behind hs h x)

agree_more : (h : Happening) (start : List Happening) (g : Happening → Bool) (T : ℕ → Bool) (hs : List Happening)
    → Passes start g T hs h → Agree start g T hs → Agree start g T (hs ++ h ∷ [])
agree_more = by_kind
    (λ h. (start : List Happening) (g : Happening → Bool) (T : ℕ → Bool) (hs : List Happening)
    → Passes start g T hs h → Agree start g T hs → Agree start g T (hs ++ h ∷ []))
    (λ id callsite parent. λ start g T hs passes agree x opened test. ⊎_elim
    (λ e. agree_now start g T hs id callsite parent x passes test e)
    (λ e. agree_beside start g T hs (Opened id callsite parent) x agree opened test e)
    (cases_Bool (number_of id == x)))
    (λ id. λ start g T hs passes agree x opened test. agree_beside start g T hs (Closed id) x agree opened test refl)
    (λ h quiet. λ start g T hs passes agree x opened test. agree_beside start g T hs h x agree opened test (quiet.unopened x))

-- roots stay
pub roots_kept : (hs rest : List Happening) (x : ℕ) → CanFollow hs rest → has_opened hs x ≡ true → root_in (hs ++ rest) x ≡ root_in hs x
roots_kept hs [] x can opened = ap (λ ks. root_in ks x) (append-nil hs)
roots_kept hs (h ∷ rest) x can opened =
    ap (λ ks. root_in ks x) (sym (append_assoc hs (h ∷ []) rest)) ∙ roots_kept (hs ++ h ∷ []) rest x can.1 (opened_still hs h x opened)
    ∙ root_kept h hs x can.0 opened

pub first : {A : Type 0} (h : A) (after : List A) → Contains (h ∷ after) h
first h after = (0, omega arith, refl)

is_among : (before : List Happening) (h : Happening) (after all : List Happening) → before ++ h ∷ after ≡ all → Contains all h
is_among before h after all e = subst (λ ks. Contains ks h) e (Contains-append_right before (h ∷ after) h (first h after))

-- ---- what stays

-- a child that isn't closed has a parent that isn't
parent_stays : (all : List Happening) → Known all → (id p : Id) (callsite : ℕ) → Contains all (Opened id callsite (Some p))
    → not (has_closed all (number_of id)) ≡ true → not (has_closed all (number_of p)) ≡ true
parent_stays all known id p callsite among test = ⊎_elim
    (λ c. absurd (false≢true (sym (ap not (known.last id p callsite among c)) ∙ test)))
    (λ c. ap not c)
    (cases_Bool (has_closed all (number_of p)))

left_step : (all : List Happening) → Known all → (before : List Happening) (h : Happening) (after : List Happening) → before ++ h ∷ after ≡ all
    → CanFollow before (h ∷ after) → Agree [] (stays (has_closed all)) (λ x. not (has_closed all x)) before
    → Agree [] (stays (has_closed all)) (λ x. not (has_closed all x)) (before ++ h ∷ [])
left_step all known before h after e can agree =
    agree_more h [] (stays (has_closed all)) (λ x. not (has_closed all x)) before
    (record {
      passes = λ id callsite parent same test. ap (stays (has_closed all)) same ∙ test;
      above = λ id p callsite same test.
          let now : CanHappen before (Opened id callsite (Some p)) = subst (CanHappen before) same can.0 in
          let among : Contains all (Opened id callsite (Some p)) = subst (λ (g : Happening). Contains all g) same (is_among before h after all e) in
          agree (number_of p) now.1.0 (parent_stays all known id p callsite among test);
    })
    agree

-- of spans that aren't closed, what stays tells the roots
pub left_agree : (all : List Happening) → AreSound all → Agree [] (stays (has_closed all)) (λ x. not (has_closed all x)) all
left_agree all can =
    run (Agree [] (stays (has_closed all)) (λ x. not (has_closed all x))) all (left_step all (known_of all can)) [] all refl can
    (λ x e t. absurd (false≢true e))

-- ---- what is handed out

unopened_among : (g : Happening → Bool) (x : ℕ) → ((h : Happening) → g h ≡ true → opens x h ≡ false) → (hs : List Happening)
    → has_opened (filter g hs) x ≡ false
unopened_among g x each [] = refl
unopened_among g x each (h ∷ hs) = one (g h) refl (unopened_among g x each hs)
  where
    one : (b : Bool) → g h ≡ b → has_opened (filter g hs) x ≡ false → has_opened (cond b (h ∷ filter g hs) (filter g hs)) x ≡ false
    one true e rest = ap (λ b. b || has_opened (filter g hs) x) (each h e) ∙ rest
    one false e rest = rest

over_not : (h : Happening) (closed : ℕ → Bool) (x : ℕ) → closed x ≡ false → is_over closed h ≡ true → opens x h ≡ false
over_not = by_kind (λ h. (closed : ℕ → Bool) (x : ℕ) → closed x ≡ false → is_over closed h ≡ true → opens x h ≡ false)
    (λ id callsite parent. λ closed x c o. ne_eqb (number_of id) x (λ e. false≢true (sym c ∙ ap closed (sym e) ∙ o)))
    (λ id. λ closed x c o. refl)
    (λ h quiet. λ closed x c o. quiet.unopened x)

stays_not : (h : Happening) (closed : ℕ → Bool) (x : ℕ) → closed x ≡ true → stays closed h ≡ true → opens x h ≡ false
stays_not = by_kind (λ h. (closed : ℕ → Bool) (x : ℕ) → closed x ≡ true → stays closed h ≡ true → opens x h ≡ false)
    (λ id callsite parent. λ closed x c o. ne_eqb (number_of id) x (λ e. false≢true (sym (ap not (ap closed e ∙ c)) ∙ o)))
    (λ id. λ closed x c o. refl)
    (λ h quiet. λ closed x c o. quiet.unopened x)

over_unopened : (closed : ℕ → Bool) (hs : List Happening) (x : ℕ) → closed x ≡ false → has_opened (filter (is_over closed) hs) x ≡ false
over_unopened closed hs x c = unopened_among (is_over closed) x (λ h o. over_not h closed x c o) hs

-- a span that isn't closed has its root by these openings, whatever is handed out behind them
open_root : (all : List Happening) → AreSound all → (hs : List Happening) (x : ℕ) → has_opened all x ≡ true → has_closed all x ≡ false
    → root_in (filter is_opening (filter (stays (has_closed all)) all) ++ filter (is_over (has_closed all)) hs) x ≡ root_in all x
open_root all can hs x opened c =
    roots_unopened (filter is_opening (filter (stays (has_closed all)) all)) (filter (is_over (has_closed all)) hs) x (over_unopened (has_closed all) hs x c)
    ∙ openings_tell (filter (stays (has_closed all)) all) x ∙ left_agree all can x opened (ap not c)

over_step : (all : List Happening) → AreSound all → Known all → (before : List Happening) (h : Happening) (after : List Happening)
    → before ++ h ∷ after ≡ all → CanFollow before (h ∷ after)
    → Agree (filter is_opening (filter (stays (has_closed all)) all)) (is_over (has_closed all)) (has_closed all) before
    → Agree (filter is_opening (filter (stays (has_closed all)) all)) (is_over (has_closed all)) (has_closed all) (before ++ h ∷ [])
over_step all whole known before h after e can agree =
    agree_more h (filter is_opening (filter (stays (has_closed all)) all)) (is_over (has_closed all)) (has_closed all) before
    (record {
      passes = λ id callsite parent same test. ap (is_over (has_closed all)) same ∙ test;
      above = λ id p callsite same test.
          let now : CanHappen before (Opened id callsite (Some p)) = subst (CanHappen before) same can.0 in
          let among : Contains all (Opened id callsite (Some p)) = subst (λ (g : Happening). Contains all g) same (is_among before h after all e) in
          ⊎_elim
          (λ c. agree (number_of p) now.1.0 c)
          (λ c. open_root all whole before (number_of p) (known.above id p callsite among) c
          ∙ ap (λ ks. root_in ks (number_of p)) (sym e) ∙ roots_kept before (h ∷ after) (number_of p) can now.1.0)
          (cases_Bool (has_closed all (number_of p)));
    })
    agree

over_agree : (all : List Happening) → AreSound all
    → Agree (filter is_opening (filter (stays (has_closed all)) all)) (is_over (has_closed all)) (has_closed all) all
over_agree all can =
    run (Agree (filter is_opening (filter (stays (has_closed all)) all)) (is_over (has_closed all)) (has_closed all)) all
    (over_step all can (known_of all can)) [] all refl can (λ x e t. absurd (false≢true e))

-- what is handed out tells the roots of all spans that opened
pub handed : (all more : List Happening) → AreSound all → CanFollow all more → (x : ℕ) → has_opened all x ≡ true
    → root_in (filter is_opening (filter (stays (has_closed all)) all) ++ filter (is_over (has_closed all)) all) x ≡ root_in (all ++ more) x
handed all more can later x opened = ⊎_elim
    (λ c. over_agree all can x opened c ∙ sym (roots_kept all more x later opened))
    (λ c. open_root all can all x opened c ∙ sym (roots_kept all more x later opened))
    (cases_Bool (has_closed all x))

-- ---- what stays can go on

pub follow_split : (before hs more : List Happening) → CanFollow before (hs ++ more) → CanFollow before hs × CanFollow (before ++ hs) more
follow_split before [] more can = (tt, subst (λ ks. CanFollow ks more) (sym (append-nil before)) can)
follow_split before (h ∷ hs) more can =
    let rest = follow_split (before ++ h ∷ []) hs more can.1 in
    ((can.0, rest.0), subst (λ ks. CanFollow ks more) (append_assoc before (h ∷ []) hs) rest.1)

pub follow_join : (before hs more : List Happening) → CanFollow before hs → CanFollow (before ++ hs) more → CanFollow before (hs ++ more)
follow_join before [] more can later = subst (λ ks. CanFollow ks more) (append-nil before) later
follow_join before (h ∷ hs) more can later =
    (can.0, follow_join (before ++ h ∷ []) hs more can.1 (subst (λ ks. CanFollow ks more) (sym (append_assoc before (h ∷ []) hs)) later))

over_still : (h : Happening) (closed : ℕ → Bool) (x : ℕ) (b : Bool) → closed x ≡ false → is_over closed h ≡ true → closed_after x b h ≡ b
over_still = by_kind (λ h. (closed : ℕ → Bool) (x : ℕ) (b : Bool) → closed x ≡ false → is_over closed h ≡ true → closed_after x b h ≡ b)
    (λ id callsite parent. λ closed x b c o.
    ap (λ t. if t then false else b) (ne_eqb (number_of id) x (λ e. false≢true (sym c ∙ ap closed (sym e) ∙ o))))
    (λ id. λ closed x b c o. ap (λ t. if t then true else b) (ne_eqb (number_of id) x (λ e. false≢true (sym c ∙ ap closed (sym e) ∙ o))))
    (λ h quiet. λ closed x b c o. quiet.closed x b)

opened_left : (closed : ℕ → Bool) (hs : List Happening) (x : ℕ) → closed x ≡ false → has_opened (filter (stays closed) hs) x ≡ has_opened hs x
opened_left closed [] x c = refl
opened_left closed (h ∷ hs) x c = one (stays closed h) refl (opened_left closed hs x c)
  where
    one : (b : Bool) → stays closed h ≡ b → has_opened (filter (stays closed) hs) x ≡ has_opened hs x
        → has_opened (cond b (h ∷ filter (stays closed) hs) (filter (stays closed) hs)) x ≡ (opens x h || has_opened hs x)
    one true e rest = ap (λ b. opens x h || b) rest
    one false e rest = rest ∙ ap (λ b. b || has_opened hs x) (sym (over_not h closed x c (not-false (is_over closed h) e)))

closed_left : (closed : ℕ → Bool) (hs : List Happening) (x : ℕ) (before : Bool) → closed x ≡ false
    → fold (closed_after x) before (filter (stays closed) hs) ≡ fold (closed_after x) before hs
closed_left closed [] x before c = refl
closed_left closed (h ∷ hs) x before c = one (stays closed h) refl (closed_left closed hs x (closed_after x before h) c) (closed_left closed hs x before c)
  where
    one : (b : Bool) → stays closed h ≡ b
        → fold (closed_after x) (closed_after x before h) (filter (stays closed) hs) ≡ fold (closed_after x) (closed_after x before h) hs
        → fold (closed_after x) before (filter (stays closed) hs) ≡ fold (closed_after x) before hs
        → fold (closed_after x) before (cond b (h ∷ filter (stays closed) hs) (filter (stays closed) hs)) ≡ fold (closed_after x) (closed_after x before h) hs
    one true e taken left = taken
    one false e taken left = left ∙ ap (λ b. fold (closed_after x) b hs) (sym (over_still h closed x before c (not-false (is_over closed h) e)))

or_second : (a b : Bool) → b ≡ true → (a || b) ≡ true
or_second true b e = refl
or_second false b e = e

opened_part : (g : Happening → Bool) (hs : List Happening) (x : ℕ) → has_opened (filter g hs) x ≡ true → has_opened hs x ≡ true
opened_part g [] x e = e
opened_part g (h ∷ hs) x e = one (g h) (λ o. opened_part g hs x o) e
  where
    one : (b : Bool) → (has_opened (filter g hs) x ≡ true → has_opened hs x ≡ true)
        → has_opened (cond b (h ∷ filter g hs) (filter g hs)) x ≡ true → (opens x h || has_opened hs x) ≡ true
    one true rest e = ⊎_elim (λ o. ap (λ b. b || has_opened hs x) o) (λ o. or_second (opens x h) (has_opened hs x) (rest o))
        (or_cases (opens x h) (has_opened (filter g hs) x) e)
    one false rest e = or_second (opens x h) (has_opened hs x) (rest e)

contains_part : (g : Happening → Bool) (hs : List Happening) (k : Happening) → Contains (filter g hs) k → Contains hs k × (g k ≡ true)
contains_part g [] k c = absurd (none_among k c)
contains_part g (h ∷ hs) k c = one (g h) refl (λ r. contains_part g hs k r) c
  where
    behind : Contains hs k × (g k ≡ true) → Contains (h ∷ hs) k × (g k ≡ true)
    behind q = (Contains-append_right (h ∷ []) hs k q.0, q.1)

    one : (b : Bool) → g h ≡ b → (Contains (filter g hs) k → Contains hs k × (g k ≡ true)) → Contains (cond b (h ∷ filter g hs) (filter g hs)) k
        → Contains (h ∷ hs) k × (g k ≡ true)
    one true e rest c = ⊎_elim
        (λ s. let same : h ≡ k = only_one h k s in
        (subst (λ (k : Happening). Contains (h ∷ hs) k) same (first h hs), subst (λ (k : Happening). g k ≡ true) same e))
        (λ r. behind (rest r))
        (Contains-append_cases (h ∷ []) (filter g hs) k c)
    one false e rest c = behind (rest c)

above_left : (all : List Happening) → Known all → (before : List Happening) (id : Id) (callsite : ℕ) (parent : Option Id)
    → Contains all (Opened id callsite parent) → not (has_closed all (number_of id)) ≡ true
    → MatchOption parent ⊤ (λ p. IsOpen before (number_of p))
    → MatchOption parent ⊤ (λ p. IsOpen (filter (stays (has_closed all)) before) (number_of p))
above_left all known before id callsite None among test open_before = tt
above_left all known before id callsite (Some p) among test open_before =
    let c = not-true (has_closed all (number_of p)) (parent_stays all known id p callsite among test) in (
      opened_left (has_closed all) before (number_of p) c ∙ open_before.0,
      closed_left (has_closed all) before (number_of p) false c ∙ open_before.1,
    )

left_can : (h : Happening) (all : List Happening) → Known all → (before : List Happening) → Contains all h → CanHappen before h
    → stays (has_closed all) h ≡ true → CanHappen (filter (stays (has_closed all)) before) h
left_can = by_kind
    (λ h. (all : List Happening) → Known all → (before : List Happening) → Contains all h → CanHappen before h
    → stays (has_closed all) h ≡ true → CanHappen (filter (stays (has_closed all)) before) h)
    (λ id callsite parent. λ all known before among can test. (
      ⊎_elim (λ e. absurd (false≢true (sym can.0 ∙ opened_part (stays (has_closed all)) before (number_of id) e))) (λ e. e)
          (cases_Bool (has_opened (filter (stays (has_closed all)) before) (number_of id))),
      above_left all known before id callsite parent among test can.1,
    ))
    (λ id. λ all known before among can test.
    let c = not-true (has_closed all (number_of id)) test in (
      (opened_left (has_closed all) before (number_of id) c ∙ can.0.0, closed_left (has_closed all) before (number_of id) false c ∙ can.0.1),
      λ child callsite within.
          let q = contains_part (stays (has_closed all)) before (Opened child callsite (Some id)) within in
          closed_left (has_closed all) before (number_of child) false (not-true (has_closed all (number_of child)) q.1) ∙ can.1 child callsite q.0,
    ))
    (λ h quiet. λ all known before among can test. quiet.can (filter (stays (has_closed all)) before))

one_follow : (b : Bool) (h : Happening) (ks more : List Happening) → (b ≡ true → CanHappen ks h) → CanFollow (ks ++ cond b (h ∷ []) []) more
    → CanFollow ks (cond b (h ∷ more) more)
one_follow true h ks more can later = (can refl, later)
one_follow false h ks more can later = subst (λ ks. CanFollow ks more) (append-nil ks) later

left_follow : (all : List Happening) → Known all → (before rest : List Happening) → before ++ rest ≡ all → CanFollow before rest
    → CanFollow (filter (stays (has_closed all)) before) (filter (stays (has_closed all)) rest)
left_follow all known before [] e can = tt
left_follow all known before (h ∷ rest) e can =
    let g = stays (has_closed all) in
    let later = left_follow all known (before ++ h ∷ []) rest (append_assoc before (h ∷ []) rest ∙ e) can.1 in
    one_follow (g h) h (filter g before) (filter g rest) (λ t. left_can h all known before (is_among before h rest all e) can.0 t)
    (subst (λ ks. CanFollow ks (filter g rest)) (filter-append g before (h ∷ [])) later)

-- ---- what comes behind what stays

closed_on : (hs rest : List Happening) (x : ℕ) → CanFollow hs rest → has_opened hs x ≡ true → has_closed hs x ≡ true → has_closed (hs ++ rest) x ≡ true
closed_on hs [] x can opened closed = ap (λ ks. has_closed ks x) (append-nil hs) ∙ closed
closed_on hs (h ∷ rest) x can opened closed =
    ap (λ ks. has_closed ks x) (sym (append_assoc hs (h ∷ []) rest))
    ∙ closed_on (hs ++ h ∷ []) rest x can.1 (opened_still hs h x opened) (closed_kept h hs x can.0 opened closed)

still_open : (all : List Happening) → Known all → (m : List Happening) (x : ℕ) → CanFollow all m → has_closed (all ++ m) x ≡ false → has_closed all x ≡ false
still_open all known m x can later = ⊎_elim (λ c. absurd (false≢true (sym later ∙ closed_on all m x can (known.once x c) c))) (λ c. c)
    (cases_Bool (has_closed all x))

opened_more : (all m : List Happening) (x : ℕ) → has_closed all x ≡ false
    → has_opened (filter (stays (has_closed all)) all ++ m) x ≡ has_opened (all ++ m) x
opened_more all m x c =
    list_any-append (opens x) (filter (stays (has_closed all)) all) m ∙ ap (λ b. b || has_opened m x) (opened_left (has_closed all) all x c)
    ∙ sym (list_any-append (opens x) all m)

closed_more : (all m : List Happening) (x : ℕ) → has_closed all x ≡ false
    → has_closed (filter (stays (has_closed all)) all ++ m) x ≡ has_closed (all ++ m) x
closed_more all m x c =
    fold-append (closed_after x) false (filter (stays (has_closed all)) all) m
    ∙ ap (λ b. fold (closed_after x) b m) (closed_left (has_closed all) all x false c)
    ∙ sym (fold-append (closed_after x) false all m)

pub opened_some : (all m : List Happening) (g : Happening → Bool) (x : ℕ) → has_opened (filter g all ++ m) x ≡ true → has_opened (all ++ m) x ≡ true
opened_some all m g x e = list_any-append (opens x) all m ∙ ⊎_elim
    (λ o. ap (λ b. b || has_opened m x) (opened_part g all x o)) (λ o. or_second (has_opened all x) (has_opened m x) o)
    (or_cases (has_opened (filter g all) x) (has_opened m x) (sym (list_any-append (opens x) (filter g all) m) ∙ e))

-- what opens there hadn't before
fresh_in : (hs m : List Happening) (id : Id) (callsite : ℕ) (parent : Option Id) → CanFollow hs m → Contains m (Opened id callsite parent)
    → has_opened hs (number_of id) ≡ false
fresh_in hs [] id callsite parent can c = absurd (none_among (Opened id callsite parent) c)
fresh_in hs (h ∷ m) id callsite parent can c = ⊎_elim
    (λ s. let now : CanHappen hs (Opened id callsite parent) = subst (CanHappen hs) (only_one h (Opened id callsite parent) s) can.0 in now.0)
    (λ r. (or_false (has_opened hs (number_of id)) (opens (number_of id) h)
    (sym (opened_behind hs h (number_of id)) ∙ fresh_in (hs ++ h ∷ []) m id callsite parent can.1 r)).0)
    (Contains-append_cases (h ∷ []) m (Opened id callsite parent) c)

above_later : (all : List Happening) → Known all → (m : List Happening) (parent : Option Id) → CanFollow all m
    → MatchOption parent ⊤ (λ p. IsOpen (all ++ m) (number_of p))
    → MatchOption parent ⊤ (λ p. IsOpen (filter (stays (has_closed all)) all ++ m) (number_of p))
above_later all known m None can open_before = tt
above_later all known m (Some p) can open_before =
    let c = still_open all known m (number_of p) can open_before.1 in
    (opened_more all m (number_of p) c ∙ open_before.0, closed_more all m (number_of p) c ∙ open_before.1)

child_stays : (all : List Happening) → Known all → (m : List Happening) (id child : Id) (callsite : ℕ) → CanFollow all m
    → Contains (filter (stays (has_closed all)) all ++ m) (Opened child callsite (Some id))
    → (has_closed all (number_of child) ≡ false) × Contains (all ++ m) (Opened child callsite (Some id))
child_stays all known m id child callsite can within = ⊎_elim
    (λ s. let q = contains_part (stays (has_closed all)) all (Opened child callsite (Some id)) s in (
      not-true (has_closed all (number_of child)) q.1,
      Contains-append_left all m (Opened child callsite (Some id)) q.0,
    ))
    (λ r. (
      ⊎_elim (λ c. absurd (false≢true (sym (fresh_in all m child callsite (Some id) can r) ∙ known.once (number_of child) c))) (λ c. c)
          (cases_Bool (has_closed all (number_of child))),
      Contains-append_right all m (Opened child callsite (Some id)) r,
    ))
    (Contains-append_cases (filter (stays (has_closed all)) all) m (Opened child callsite (Some id)) within)

later_can : (h : Happening) (all : List Happening) → Known all → (m : List Happening) → CanFollow all m → CanHappen (all ++ m) h
    → CanHappen (filter (stays (has_closed all)) all ++ m) h
later_can = by_kind
    (λ h. (all : List Happening) → Known all → (m : List Happening) → CanFollow all m → CanHappen (all ++ m) h
    → CanHappen (filter (stays (has_closed all)) all ++ m) h)
    (λ id callsite parent. λ all known m before can. (
      ⊎_elim (λ e. absurd (false≢true (sym can.0 ∙ opened_some all m (stays (has_closed all)) (number_of id) e))) (λ e. e)
          (cases_Bool (has_opened (filter (stays (has_closed all)) all ++ m) (number_of id))),
      above_later all known m parent before can.1,
    ))
    (λ id. λ all known m before can.
    let c = still_open all known m (number_of id) before can.0.1 in (
      (opened_more all m (number_of id) c ∙ can.0.0, closed_more all m (number_of id) c ∙ can.0.1),
      λ child callsite within.
          let q = child_stays all known m id child callsite before within in
          closed_more all m (number_of child) q.0 ∙ can.1 child callsite q.1,
    ))
    (λ h quiet. λ all known m before can. quiet.can (filter (stays (has_closed all)) all ++ m))

later_follow : (all : List Happening) → Known all → (m rest : List Happening) → CanFollow all m → CanFollow (all ++ m) rest
    → CanFollow (filter (stays (has_closed all)) all ++ m) rest
later_follow all known m [] before can = tt
later_follow all known m (h ∷ rest) before can = (
  later_can h all known m before can.0,
  subst (λ ks. CanFollow ks rest) (sym (append_assoc (filter (stays (has_closed all)) all) m (h ∷ [])))
      (later_follow all known (m ++ h ∷ []) rest (follow_join all m (h ∷ []) before (can.0, tt))
      (subst (λ ks. CanFollow ks rest) (append_assoc all m (h ∷ [])) can.1)),
)

-- what stays, and what comes behind it, can happen
pub left_sound : (all more : List Happening) → AreSound all → CanFollow all more → AreSound (filter (stays (has_closed all)) all ++ more)
left_sound all more can later =
    let known = known_of all can in
    follow_join [] (filter (stays (has_closed all)) all) more (left_follow all known [] all refl can)
    (subst (λ ks. CanFollow ks more) (append-nil (filter (stays (has_closed all)) all))
    (later_follow all known [] more tt (subst (λ ks. CanFollow ks more) (sym (append-nil all)) later)))

abbrev AgreeLater : List Happening → List Happening → Type 0
AgreeLater all m =
    (x : ℕ) → has_opened (filter (stays (has_closed all)) all ++ m) x ≡ true
    → root_in (filter (stays (has_closed all)) all ++ m) x ≡ root_in (all ++ m) x

later_beside : (all m : List Happening) (h : Happening) (x : ℕ) → AgreeLater all m
    → has_opened ((filter (stays (has_closed all)) all ++ m) ++ h ∷ []) x ≡ true → opens x h ≡ false
    → root_in ((filter (stays (has_closed all)) all ++ m) ++ h ∷ []) x ≡ root_in ((all ++ m) ++ h ∷ []) x
later_beside all m h x agree opened other =
    let left = filter (stays (has_closed all)) all ++ m in
    root_behind left h x ∙ root_unopened h (root_in left) x other ∙ agree x (before_it left h x opened other)
    ∙ sym (root_unopened h (root_in (all ++ m)) x other) ∙ sym (root_behind (all ++ m) h x)

later_root : (h : Happening) (all : List Happening) → Known all → (m : List Happening) → CanFollow all m → CanHappen (all ++ m) h → AgreeLater all m
    → (x : ℕ) → has_opened ((filter (stays (has_closed all)) all ++ m) ++ h ∷ []) x ≡ true
    → root_in ((filter (stays (has_closed all)) all ++ m) ++ h ∷ []) x ≡ root_in ((all ++ m) ++ h ∷ []) x
later_root = by_kind
    (λ h. (all : List Happening) → Known all → (m : List Happening) → CanFollow all m → CanHappen (all ++ m) h → AgreeLater all m
    → (x : ℕ) → has_opened ((filter (stays (has_closed all)) all ++ m) ++ h ∷ []) x ≡ true
    → root_in ((filter (stays (has_closed all)) all ++ m) ++ h ∷ []) x ≡ root_in ((all ++ m) ++ h ∷ []) x)
    (λ id callsite parent. λ all known m before can agree x opened.
    let left = filter (stays (has_closed all)) all ++ m in
    let h = Opened id callsite parent in
    ⊎_elim
    (λ here. root_behind left h x
    ∙ ap (λ b. if b then option_map_or (λ (p : Id). root_in left (number_of p)) parent x else root_in left x) here
    ∙ same_above (root_in left) (root_in (all ++ m)) parent x
    (λ p e. let open_p = subst (λ (o : Option Id). MatchOption o ⊤ (λ p. IsOpen left (number_of p))) e (above_later all known m parent before can.1) in
    agree (number_of p) open_p.0)
    ∙ sym (ap (λ b. if b then option_map_or (λ (p : Id). root_in (all ++ m) (number_of p)) parent x else root_in (all ++ m) x) here)
    ∙ sym (root_behind (all ++ m) h x))
    (λ other. later_beside all m h x agree opened other)
    (cases_Bool (number_of id == x)))
    (λ id. λ all known m before can agree x opened. later_beside all m (Closed id) x agree opened refl)
    (λ h quiet. λ all known m before can agree x opened. later_beside all m h x agree opened (quiet.unopened x))

later_agree : (all : List Happening) → Known all → (m rest : List Happening) → CanFollow all m → CanFollow (all ++ m) rest → AgreeLater all m
    → AgreeLater all (m ++ rest)
later_agree all known m [] before can agree = subst (AgreeLater all) (sym (append-nil m)) agree
later_agree all known m (h ∷ rest) before can agree =
    let left = filter (stays (has_closed all)) all in
    let now : AgreeLater all (m ++ h ∷ []) = λ x opened.
    ap (λ ks. root_in ks x) (sym (append_assoc left m (h ∷ [])))
    ∙ later_root h all known m before can.0 agree x (ap (λ ks. has_opened ks x) (append_assoc left m (h ∷ [])) ∙ opened)
    ∙ ap (λ ks. root_in ks x) (append_assoc all m (h ∷ [])) in
    subst (AgreeLater all) (append_assoc m (h ∷ []) rest)
    (later_agree all known (m ++ h ∷ []) rest (follow_join all m (h ∷ []) before (can.0, tt))
    (subst (λ ks. CanFollow ks rest) (append_assoc all m (h ∷ [])) can.1) now)

left_now : (all : List Happening) → AreSound all → AgreeLater all []
left_now all can x opened =
    let left = filter (stays (has_closed all)) all in
    let here : has_opened left x ≡ true = ap (λ ks. has_opened ks x) (sym (append-nil left)) ∙ opened in
    let c : has_closed all x ≡ false = ⊎_elim
    (λ c. absurd (false≢true (sym (unopened_among (stays (has_closed all)) x (λ h s. stays_not h (has_closed all) x c s) all) ∙ here))) (λ c. c)
    (cases_Bool (has_closed all x)) in
    ap (λ ks. root_in ks x) (append-nil left) ∙ left_agree all can x (opened_part (stays (has_closed all)) all x here) (ap not c)
    ∙ ap (λ ks. root_in ks x) (sym (append-nil all))

-- the roots of all spans that opened among what stays, or behind it, are those by all
pub left_roots : (all more : List Happening) → AreSound all → CanFollow all more → AgreeLater all more
left_roots all more can later =
    later_agree all (known_of all can) [] more tt (subst (λ ks. CanFollow ks more) (sym (append-nil all)) later) (left_now all can)

-- ---- part by part

-- what happened at points
abbrev whats : List Point → List Happening
whats ps = map (λ p. p.what) ps

whats_said : (kept : List FieldSaid) (ps : List Point) → map (λ s. s.what) (points_said kept ps) ≡ whats ps
whats_said kept [] = refl
whats_said kept (p ∷ ps) = ap (λ hs. p.what ∷ hs) (whats_said kept ps)

whats_picked : (over : Bool) (closed : ℕ → Bool) (ss : List PointSaid)
    → map (λ s. s.what) (picked over closed ss) ≡ filter (goes_with over closed) (map (λ s. s.what) ss)
whats_picked over closed [] = refl
whats_picked over closed (s ∷ ss) = one (goes_with over closed s.what) (whats_picked over closed ss)
  where
    one : (b : Bool) → map (λ s. s.what) (picked over closed ss) ≡ filter (goes_with over closed) (map (λ s. s.what) ss)
        → map (λ s. s.what) (cond b (s ∷ picked over closed ss) (picked over closed ss))
        ≡ cond b (s.what ∷ filter (goes_with over closed) (map (λ s. s.what) ss)) (filter (goes_with over closed) (map (λ s. s.what) ss))
    one true rest = ap (λ hs. s.what ∷ hs) rest
    one false rest = rest

closed_there : (ps : List Point) → is_closed_in ps ≡ has_closed (whats ps)
closed_there ps = λ j x. sym (fold-map (closed_after x) (λ (p : Point). p.what) false ps) j

-- what goes one way, of what points say
gone : (over : Bool) (kept fs : List FieldSaid) (ps qs : List Point)
    → points_said kept qs ≡ picked over (is_closed_in ps) (points_said fs ps) → whats qs ≡ filter (goes_with over (has_closed (whats ps))) (whats ps)
gone over kept fs ps qs e =
    sym (whats_said kept qs) ∙ ap (λ (ss : List PointSaid). map (λ (s : PointSaid). s.what) ss) e
    ∙ whats_picked over (is_closed_in ps) (points_said fs ps) ∙ ap (filter (goes_with over (is_closed_in ps))) (whats_said fs ps)
    ∙ ap (λ (closed : ℕ → Bool). filter (goes_with over closed) (whats ps)) (closed_there ps)

-- what is over is handed out, the rest stays, and its openings are handed out with that
record Splits (above points before after : List Happening) : Type 0 where
  over : points ≡ filter (is_over (has_closed before)) before
  rest : after ≡ filter (stays (has_closed before)) before
  openings : above ≡ filter is_opening (filter (stays (has_closed before)) before)

splits : (taken : Taken) (x y : KeptState) (before : List Happening) → whats x.points ≡ before → HandsOutFinished taken x y
    → Splits taken.above.items (whats taken.points.items) before (whats y.points)
splits taken x y before e h =
    let all = whats x.points in
    let rest : whats y.points ≡ filter (stays (has_closed all)) all = gone false y.fields x.fields x.points y.points h.rest in
    subst (λ ks. Splits taken.above.items (whats taken.points.items) ks (whats y.points)) e
    (record {
      over = gone true (kept_in taken.fields.items) x.fields x.points taken.points.items h.over;
      rest = rest;
      openings = h.above ∙ ap (filter is_opening) rest;
    })

opened_known : (above points before after : List Happening) (x : ℕ) → Splits above points before after → has_opened (above ++ points) x ≡ true
    → has_opened before x ≡ true
opened_known above points before after x h opened =
    let kept : has_opened (filter is_opening (filter (stays (has_closed before)) before)) x ≡ true → has_opened before x ≡ true =
    λ o. opened_part (stays (has_closed before)) before x (opened_part is_opening (filter (stays (has_closed before)) before) x o) in
    ⊎_elim
    (λ o. kept (ap (λ ks. has_opened ks x) (sym h.openings) ∙ o))
    (λ o. opened_part (is_over (has_closed before)) before x (ap (λ ks. has_opened ks x) (sym h.over) ∙ o))
    (or_cases (has_opened above x) (has_opened points x) (sym (list_any-append (opens x) above points) ∙ opened))

-- a span has its root by a part, too
one_part : (above points before after more : List Happening) (x : ℕ) → Splits above points before after → AreSound before → CanFollow before more
    → has_opened (above ++ points) x ≡ true → (has_opened (before ++ more) x ≡ true) × (root_in (above ++ points) x ≡ root_in (before ++ more) x)
one_part above points before after more x h can later opened =
    let here = opened_known above points before after x h opened in (
      list_any-append (opens x) before more ∙ ap (λ b. b || has_opened more x) here,
      ap (λ ks. root_in (ks ++ points) x) h.openings
          ∙ ap (λ ks. root_in (filter is_opening (filter (stays (has_closed before)) before) ++ ks) x) h.over
          ∙ handed before more can later x here,
    )

each_part : (kept turn : List Happening) (parts : List (List Happening × Taken)) (taken : Taken) (x : ℕ)
    → AreParts kept parts → Contains parts (turn, taken) → AreSound (kept ++ flat_map (λ e. e.0) parts) → has_opened (known_by taken) x ≡ true
    → (has_opened (kept ++ flat_map (λ e. e.0) parts) x ≡ true) × (root_in (known_by taken) x ≡ root_in (kept ++ flat_map (λ e. e.0) parts) x)
each_part kept turn [] taken x given within can opened = absurd (none_among (turn, taken) within)
each_part kept turn (e ∷ parts) taken x given within can opened =
    let all = kept ++ e.0 in
    let more = flat_map (λ (e : List Happening × Taken). e.0) parts in
    let after = whats given.1.0.points in
    let part = given.1.1.0 in
    let h : Splits e.1.above.items (whats e.1.points.items) all after = splits e.1 given.0 given.1.0 all part.whole part.handed in
    let same : all ++ more ≡ kept ++ (e.0 ++ more) = append_assoc kept e.0 more in
    let both = follow_split [] all more (subst AreSound (sym same) can) in
    let P : List Happening → Type 0 = λ ks. (has_opened ks x ≡ true) × (root_in (known_by taken) x ≡ root_in ks x) in
    subst P same (⊎_elim
    (λ s. let out : e.1 ≡ taken = ap (λ (e : List Happening × Taken). e.1) (only_one e (turn, taken) s) in
    subst (λ (t : Taken). (has_opened (all ++ more) x ≡ true) × (root_in (known_by t) x ≡ root_in (all ++ more) x)) out
    (one_part e.1.above.items (whats e.1.points.items) all after more x h both.0 both.1 (ap (λ (t : Taken). has_opened (known_by t) x) out ∙ opened)))
    (λ r. let sound : AreSound (after ++ more) = subst (λ ks. AreSound (ks ++ more)) (sym h.rest) (left_sound all more both.0 both.1) in
    let later = each_part after turn parts taken x given.1.1.1 r sound opened in
    let there : has_opened (filter (stays (has_closed all)) all ++ more) x ≡ true = ap (λ ks. has_opened (ks ++ more) x) (sym h.rest) ∙ later.0 in (
      opened_some all more (stays (has_closed all)) x there,
      later.1 ∙ ap (λ ks. root_in (ks ++ more) x) h.rest ∙ left_roots all more both.0 both.1 x there,
    ))
    (Contains-append_cases (e ∷ []) parts (turn, taken) within))

pub parts_keep_roots : PartsKeepRoots
parts_keep_roots kept turn parts taken x given within can opened = (each_part kept turn parts taken x given within can opened).1
