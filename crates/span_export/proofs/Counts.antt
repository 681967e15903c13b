-- How many points lanes have.
use Rattle.std.proofs.Common.{◌≡◌, ◌<◌, ◌≤◌, ◌+◌, ◌==◌, ◌||◌, ℕ, Bool, true, false, if◌then◌else◌, List, [], ◌∷◌, arith, length, nat_le}
use Rattle.std.proofs.Common.{refl}
use Rattle.std.specs.List.{list_any}
use Rattle.std.proofs.lemmas.Grind.{common_steps}
use Rattle.span_export.specs.Picture.{has_points}
use Rattle.span_times.specs.declared.happening.Point.{Point}

-- one for a test that passes
abbrev pub one : Bool → ℕ
one b = if b then 1 else 0

-- how many points a lane has
abbrev pub count_on : List Point → ℕ → ℕ
count_on [] lane = 0
count_on (p ∷ ps) lane = one (p.lane.0 == lane) + count_on ps lane

-- how many points lanes have from this one on
abbrev pub count_from : List Point → ℕ → ℕ
count_from [] lane = 0
count_from (p ∷ ps) lane = one (nat_le lane p.lane.0) + count_from ps lane

one_split : (l a b : ℕ) → a < b → one (l == a) + one (nat_le b l) ≤ one (nat_le a l)
one_split l a b less = grind (arith, common_steps)

one_falls : (l a b : ℕ) → a ≤ b → one (nat_le b l) ≤ one (nat_le a l)
one_falls l a b less = grind (arith, common_steps)

pub one_most : (b : Bool) → one b ≤ 1
one_most true = omega arith
one_most false = omega arith

-- a lane's points and those of later lanes
pub counts_split : (ps : List Point) (a b : ℕ) → a < b → count_on ps a + count_from ps b ≤ count_from ps a
counts_split [] a b less = omega arith
counts_split (p ∷ ps) a b less =
    let here = one_split p.lane.0 a b less in
    let rest = counts_split ps a b less in
    omega arith

pub counts_fall : (ps : List Point) (a b : ℕ) → a ≤ b → count_from ps b ≤ count_from ps a
counts_fall [] a b less = omega arith
counts_fall (p ∷ ps) a b less =
    let here = one_falls p.lane.0 a b less in
    let rest = counts_fall ps a b less in
    omega arith

pub counts_fit : (ps : List Point) (a : ℕ) → count_from ps a ≤ length ps
counts_fit [] a = omega arith
counts_fit (p ∷ ps) a =
    let here = one_most (nat_le a p.lane.0) in
    let rest = counts_fit ps a in
    omega arith

pub count_fits : (ps : List Point) (a : ℕ) → count_on ps a ≤ length ps
count_fits ps a = let split = counts_split ps a (a + 1) (omega arith) in let all = counts_fit ps a in omega arith

-- a lane has points where it has some
has_more : (is : Bool) (ps : List Point) (a : ℕ) → (list_any (λ p. p.lane.0 == a) ps ≡ true → 1 ≤ count_on ps a)
    → is || list_any (λ p. p.lane.0 == a) ps ≡ true → 1 ≤ one is + count_on ps a
has_more true ps a rest has = omega arith
has_more false ps a rest has = let more = rest has in omega arith

pub some_count : (ps : List Point) (a : ℕ) → has_points ps a ≡ true → 1 ≤ count_on ps a
some_count [] a has = cc
some_count (p ∷ ps) a has = has_more (p.lane.0 == a) ps a (some_count ps a) has

counted_more : (is : Bool) (ps : List Point) (a : ℕ) → (1 ≤ count_on ps a → list_any (λ p. p.lane.0 == a) ps ≡ true)
    → 1 ≤ one is + count_on ps a → is || list_any (λ p. p.lane.0 == a) ps ≡ true
counted_more true ps a rest some = refl
counted_more false ps a rest some = rest (omega arith)

pub counted_some : (ps : List Point) (a : ℕ) → 1 ≤ count_on ps a → has_points ps a ≡ true
counted_some [] a some = absurd (omega arith)
counted_some (p ∷ ps) a some = counted_more (p.lane.0 == a) ps a (counted_some ps a) some
