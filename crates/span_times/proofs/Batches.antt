-- Copies of points with their fields, one after the other.
use Rattle.std.proofs.Common.{arith, ◌≡◌, ◌∙◌, ◌+◌, ◌-◌, ◌<◌, ℕ, Bool, true, false, List, [], ◌∷◌, ◌++◌, ap, append_assoc, drop, flat_map, get_or, length}
use Rattle.std.proofs.Common.{length-append, refl, sym, take}
use Rattle.std.proofs.Math.Path.{fun_ext}
use Rattle.std.proofs.Math.Seq.{take-append_seam}
use Rattle.std.proofs.lemmas.List.{drop-map, drop_more, take-map}
use Rattle.std.specs.BTreeSet.{BTreeSet, contains}
use Rattle.std.specs.Ordering.{nat_cmp}
use Rattle.std.specs.Prelude.{cond}
use Rattle.span_times.specs.Field.{FieldSaid, field_said, kept_in, range_of, within}
use Rattle.span_times.specs.Finished.{PointSaid, goes_with, is_closed_in, picked, points_for, points_said}
use Rattle.span_times.specs.Kept.{point_at}
use Rattle.span_times.specs.declared.field.FieldRange.{FieldRange}
use Rattle.span_times.specs.declared.field.OwnedField.{OwnedField}
use Rattle.span_times.specs.declared.happening.Point.{Point}

-- the last of these is let go
pub taken_back : (old now : List Point) (x : Point) (n : ℕ) → now ≡ old ++ x ∷ [] → n ≡ length now → take (n - 1) now ≡ old
taken_back old now x n grown long =
    let count : n - 1 ≡ length old = omega (arith, long ∙ ap length grown, length-append old (x ∷ [])) in
    ap (λ k. take k now) count ∙ ap (take (length old)) grown ∙ take-append_seam old (x ∷ [])

behind_seam : (xs ys : List FieldSaid) → drop (length xs) (xs ++ ys) ≡ ys
behind_seam [] ys = refl
behind_seam (x ∷ xs) ys = behind_seam xs ys

-- what owned fields in a range say
pub within_said : (r : FieldRange) (fs : List OwnedField) → kept_in (within r fs) ≡ within r (kept_in fs)
within_said r fs =
    sym (take-map field_said (r.to - r.from) (drop r.from fs)) ∙ ap (take (r.to - r.from)) (sym (drop-map field_said r.from fs))

-- what points say that were copied is read back
read_behind : (before : List FieldSaid) (ss : List PointSaid)
    → points_said (before ++ flat_map (λ s. s.fields) ss) (points_for (length before) ss) ≡ ss
read_behind before [] = refl
read_behind before (s ∷ ss) =
    let n = length before in
    let count = length s.fields in
    let more = flat_map (λ (q : PointSaid). q.fields) ss in
    let size : (n + count) - n ≡ count = omega arith in
    let own : within (range_of n count) (before ++ (s.fields ++ more)) ≡ s.fields =
    ap (λ k. take k (drop n (before ++ (s.fields ++ more)))) size
    ∙ ap (take count) (behind_seam before (s.fields ++ more)) ∙ take-append_seam s.fields more in
    let rest : points_said (before ++ (s.fields ++ more)) (points_for (n + count) ss) ≡ ss =
    ap (λ fs. points_said fs (points_for (n + count) ss)) (sym (append_assoc before s.fields more))
    ∙ ap (λ k. points_said ((before ++ s.fields) ++ more) (points_for k ss)) (sym (length-append before s.fields))
    ∙ read_behind (before ++ s.fields) ss in
    ap (λ fs. record { time = s.time; lane = s.lane; what = s.what; fields = fs }
    ∷ points_said (before ++ (s.fields ++ more)) (points_for (n + count) ss)) own
    ∙ ap (λ qs. s ∷ qs) rest

module _ (over : Bool) (closed : ℕ → Bool) (kept : List FieldSaid) where
  -- what one point says
  abbrev pub says : Point → PointSaid
  says p = record { time = p.time; lane = p.lane.0; what = p.what; fields = within p.fields kept }

  -- those that are copied
  abbrev pub copies : List Point → List PointSaid
  copies ps = picked over closed (points_said kept ps)

  one_there : (p : Point) (ss : List PointSaid) (b : Bool) → b ≡ true → cond b (says p ∷ ss) ss ≡ says p ∷ ss
  one_there p ss true e = refl
  one_there p ss false e = absurd (cc)

  none_there : (p : Point) (ss : List PointSaid) (b : Bool) → b ≡ false → cond b (says p ∷ ss) ss ≡ ss
  none_there p ss true e = absurd (cc)
  none_there p ss false e = refl

  pub next_copied : (ps : List Point) (i : ℕ) (d : Point) → i < length ps → goes_with over closed (get_or ps i d).what ≡ true
      → copies (drop i ps) ≡ says (get_or ps i d) ∷ copies (drop (i + 1) ps)
  next_copied ps i d lt e =
      let p = get_or ps i d in
      ap copies (drop_more ps i d lt) ∙ one_there p (copies (drop (i + 1) ps)) (goes_with over closed p.what) e

  pub next_left_out : (ps : List Point) (i : ℕ) (d : Point) → i < length ps → goes_with over closed (get_or ps i d).what ≡ false
      → copies (drop i ps) ≡ copies (drop (i + 1) ps)
  next_left_out ps i d lt e =
      let p = get_or ps i d in
      ap copies (drop_more ps i d lt) ∙ none_there p (copies (drop (i + 1) ps)) (goes_with over closed p.what) e

  -- one more point is copied, and its fields
  pub point_more : (old new whole : List Point) (fs gs given : List FieldSaid) (p : Point) (to_come rest : List PointSaid)
      → given ≡ within p.fields kept → to_come ≡ says p ∷ rest
      → new ≡ old ++ point_at p.time p.lane.0 p.what (range_of (length fs) (length given)) ∷ [] → gs ≡ fs ++ given
      → old ++ points_for (length fs) to_come ≡ whole → new ++ points_for (length gs) rest ≡ whole
  point_more old new whole fs gs given p to_come rest own next grown more so_far =
      let n = length fs in
      ap (λ ns. ns ++ points_for (length gs) rest) grown
      ∙ append_assoc old (point_at p.time p.lane.0 p.what (range_of n (length given)) ∷ []) (points_for (length gs) rest)
      ∙ ap (λ k. old ++ point_at p.time p.lane.0 p.what (range_of n (length given)) ∷ points_for k rest) (ap length more ∙ length-append fs given)
      ∙ ap (λ g. old ++ point_at p.time p.lane.0 p.what (range_of n (length g)) ∷ points_for (n + length g) rest) own
      ∙ ap (λ ss. old ++ points_for n ss) (sym next) ∙ so_far

  pub fields_more : (fs gs given whole : List FieldSaid) (p : Point) (to_come rest : List PointSaid)
      → given ≡ within p.fields kept → to_come ≡ says p ∷ rest → gs ≡ fs ++ given
      → fs ++ flat_map (λ s. s.fields) to_come ≡ whole → gs ++ flat_map (λ s. s.fields) rest ≡ whole
  fields_more fs gs given whole p to_come rest own next more so_far =
      let behind = flat_map (λ (q : PointSaid). q.fields) rest in
      ap (λ g. g ++ behind) more ∙ append_assoc fs given behind ∙ ap (λ g. fs ++ (g ++ behind)) own
      ∙ ap (λ ss. fs ++ flat_map (λ (q : PointSaid). q.fields) ss) (sym next) ∙ so_far

-- what copies say, of points and fields that were lent
pub read_copies : (over : Bool) (set : BTreeSet ℕ) (ps seen told copied : List Point) (fs lent : List OwnedField) (fields : List FieldSaid)
    → seen ≡ ps → told ≡ ps → lent ≡ fs → ((x : ℕ) → contains nat_cmp set x ≡ is_closed_in seen x)
    → copied ≡ points_for 0 (picked over (contains nat_cmp set) (points_said (kept_in lent) told))
    → fields ≡ flat_map (λ s. s.fields) (picked over (contains nat_cmp set) (points_said (kept_in lent) told))
    → points_said fields copied ≡ picked over (is_closed_in ps) (points_said (kept_in fs) ps)
read_copies over set ps seen told copied fs lent fields looked same own known points more =
    let ss = picked over (contains nat_cmp set) (points_said (kept_in lent) told) in
    ap (λ gs. points_said gs copied) more ∙ ap (points_said (flat_map (λ (q : PointSaid). q.fields) ss)) points ∙ read_behind [] ss
    ∙ ap (λ (c : ℕ → Bool). picked over c (points_said (kept_in lent) told)) (fun_ext known)
    ∙ ap (λ qs. picked over (is_closed_in qs) (points_said (kept_in lent) told)) looked
    ∙ ap (λ qs. picked over (is_closed_in ps) (points_said (kept_in lent) qs)) same
    ∙ ap (λ gs. picked over (is_closed_in ps) (points_said (kept_in gs) ps)) own
