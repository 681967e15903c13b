-- Points that are in order stay so where some of them are taken out.
use Rattle.std.proofs.Common.{arith, ◌≡◌, ◌∙◌, ◌≤◌, ℕ, Bool, true, false, List, [], ◌∷◌, ◌++◌, ap, map, refl, subst, sym}
use Rattle.std.specs.List.{filter}
use Rattle.std.specs.Prelude.{cond}
use Rattle.span_times.specs.Clock.{NeverGoBack}
use Rattle.span_times.specs.Field.{FieldSaid}
use Rattle.span_times.specs.Finished.{PointSaid, points_said}
use Rattle.span_times.specs.declared.happening.Point.{Point}

-- when points say that something happened
abbrev times_said : List PointSaid → List ℕ
times_said ss = map (λ s. s.time) ss

same_times : (kept : List FieldSaid) (ps : List Point) → times_said (points_said kept ps) ≡ map (λ p. p.time) ps
same_times kept [] = refl
same_times kept (p ∷ ps) = ap (λ ts. p.time ∷ ts) (same_times kept ps)

from_before : (a b : ℕ) (ts : List ℕ) → a ≤ b → NeverGoBack b ts → NeverGoBack a ts
from_before a b [] le h = tt
from_before a b (t ∷ ts) le h = let first = h.0 in (omega arith, h.1)

one_time : (from last : ℕ) (s : PointSaid) (ss : List PointSaid) (b : Bool) → from ≤ s.time → NeverGoBack s.time (times_said ss ++ last ∷ [])
    → NeverGoBack from (times_said (cond b (s ∷ ss) ss) ++ last ∷ [])
one_time from last s ss true le h = (le, h)
one_time from last s ss false le h = from_before from s.time (times_said ss ++ last ∷ []) le h

some_in_order : (test : PointSaid → Bool) (from last : ℕ) (ss : List PointSaid) → NeverGoBack from (times_said ss ++ last ∷ [])
    → NeverGoBack from (times_said (filter test ss) ++ last ∷ [])
some_in_order test from last [] h = h
some_in_order test from last (s ∷ ss) h = one_time from last s (filter test ss) (test s) h.0 (some_in_order test s.time last ss h.1)

-- the rest of points is in order where they are
pub rest_in_order : (test : PointSaid → Bool) (last : ℕ) (kept left : List FieldSaid) (ps qs : List Point)
    → points_said left qs ≡ filter test (points_said kept ps)
    → NeverGoBack 0 (map (λ p. p.time) ps ++ last ∷ []) → NeverGoBack 0 (map (λ p. p.time) qs ++ last ∷ [])
rest_in_order test last kept left ps qs some order =
    let before = subst (λ (ts : List ℕ). NeverGoBack 0 (ts ++ last ∷ [])) (sym (same_times kept ps)) order in
    subst (λ (ts : List ℕ). NeverGoBack 0 (ts ++ last ∷ [])) (ap times_said (sym some) ∙ same_times left qs)
    (some_in_order test 0 last (points_said kept ps) before)
