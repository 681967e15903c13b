-- What a timeline keeps of all that it was told, wherever it stands.
use Rattle.std.proofs.Common.{arith, ◌≡◌, ◌≤◌, ◌∙◌, ℕ, List, map, Bool, true, false, [], ◌∷◌, ◌++◌, ap, refl, subst, suc, sym, append_assoc, length}
use Rattle.std.proofs.Common.{length-append, take, ◌+◌}
use Rattle.std.proofs.lemmas.Bool.{true≢false}
use Rattle.std.proofs.lemmas.List.{append-nil, map-append}
use Rattle.span_layers.specs.Observe.{observer_of}
use Rattle.span_layers.specs.declared.observe.Observer.{Observer}
use Rattle.span_registry.specs.Position.{Heard, Told}
use Rattle.span_registry.specs.View.{View}
use Rattle.span_times.specs.Clock.{NeverGoBack}
use Rattle.span_times.specs.Field.{FieldSaid, range_of}
use Rattle.span_times.specs.Serving.{HasAllOf, HasSomeOf, KeepsAll, TimelinesKeepAll, fields_at, points_at, sites_at}
use Rattle.span_times.specs.Kept.{KeepsNone, KeepsPoint}
use Rattle.span_times.specs.Timeline.{IsInOrder, Traces, clock_of, fields_kept, fields_of, happening_of, has_failed, keeps_values, kept_of, metadata_in}
use Rattle.span_times.specs.Timeline.{point_of, points_of, sites_of}
use Rattle.span_times.specs.Site.{SiteSaid}
use Rattle.span_times.specs.declared.happening.Point.{Point}
use Rattle.span_times.specs.declared.timeline.Timeline.{Timeline}

module _ {C : Type 0} (latest : C → ℕ) (gives : C → ℕ → C → Type 0) where
  -- a later reading after these times
  later : (from : ℕ) (ts : List ℕ) (l t : ℕ) → NeverGoBack from (ts ++ l ∷ []) → l ≤ t → NeverGoBack from (ts ++ t ∷ [])
  later from [] l t h le = let first = h.0 in (omega (arith, first, le), tt)
  later from (x ∷ ts) l t h le = (h.0, later x ts l t h.1 le)

  -- and once more
  twice : (from : ℕ) (ts : List ℕ) (t : ℕ) → NeverGoBack from (ts ++ t ∷ []) → NeverGoBack from ((ts ++ t ∷ []) ++ t ∷ [])
  twice from [] t h = (h.0, (omega arith, tt))
  twice from (x ∷ ts) t h = (h.0, twice x ts t h.1)

  -- the fields that are kept of what was told
  abbrev told_fields : Timeline C → Told → List FieldSaid
  told_fields x told = fields_kept (keeps_values x) told.notice

  -- its point
  abbrev told_point : Timeline C → Told → ℕ → Point
  told_point x told time =
      point_of time told.lane told.notice told.view (range_of (length (fields_of x)) (length (told_fields x told)))

  -- points in order stay so where one is kept, or none
  stays_in_order : (told : Told) (x y : Timeline C)
      → Traces latest gives x told.notice told.lane told.view y → IsInOrder latest x → (b : Bool) → has_failed y ≡ b → IsInOrder latest y
  stays_in_order told x y one order true e =
      let times = map (λ (p : Point). p.time) (points_of x) in
      let next = later 0 times (latest (clock_of x)) one.time order one.read.forward in
      subst (λ (ps : List Point). NeverGoBack 0 (map (λ p. p.time) ps ++ latest (clock_of y) ∷ []))
      (sym (one.lost e).points) (subst (λ (n : ℕ). NeverGoBack 0 (times ++ n ∷ [])) (sym one.read.kept) next)
  stays_in_order told x y one order false e =
      let times = map (λ (p : Point). p.time) (points_of x) in
      let next = twice 0 times one.time (later 0 times (latest (clock_of x)) one.time order one.read.forward) in
      let point = told_point x told one.time in
      subst (λ (ps : List Point). NeverGoBack 0 (map (λ p. p.time) ps ++ latest (clock_of y) ∷ [])) (sym (one.kept e).1.points)
      (subst (λ (ts : List ℕ). NeverGoBack 0 (ts ++ latest (clock_of y) ∷ [])) (sym (map-append (λ (p : Point). p.time) (points_of x) (point ∷ [])))
      (subst (λ (n : ℕ). NeverGoBack 0 ((times ++ one.time ∷ []) ++ n ∷ [])) (sym one.read.kept) next))

  -- memory that was refused stays so
  stays_failed : (told : Told) (x y : Timeline C) → Traces latest gives x told.notice told.lane told.view y
      → has_failed x ≡ true → (b : Bool) → has_failed y ≡ b → (has_failed y ≡ true) × KeepsNone (kept_of x) (kept_of y)
  stays_failed told x y one failed true e = (e, one.lost e)
  stays_failed told x y one failed false e = absurd (true≢false (sym failed ∙ (one.kept e).0))

  -- the points of the rest have their fields behind those of the first
  moved : (told : Told) (h : Heard) (times : List ℕ) (x z : Timeline C) → keeps_values z ≡ keeps_values x
      → fields_of z ≡ fields_of x ++ told_fields x told
      → points_at (keeps_values z) (length (fields_of z)) times h
      ≡ points_at (keeps_values x) (length (fields_of x) + length (told_fields x told)) times h
  moved told h times x z same grown =
      ap (λ (k : Bool). points_at k (length (fields_of z)) times h) same
      ∙ ap (λ (n : ℕ). points_at (keeps_values x) n times h) (ap length grown ∙ length-append (fields_of x) (told_fields x told))

  -- the fields of some of the rest stand behind those of the first
  behind : (told : Told) (h : Heard) (x z y : Timeline C) → keeps_values z ≡ keeps_values x
      → fields_of z ≡ fields_of x ++ told_fields x told → fields_of y ≡ fields_of z ++ fields_at (keeps_values z) h
      → fields_of y ≡ fields_of x ++ (told_fields x told ++ fields_at (keeps_values x) h)
  behind told h x z y same grown rest =
      let more = fields_at (keeps_values x) h in
      rest ∙ ap (λ (k : Bool). fields_of z ++ fields_at k h) same
      ∙ ap (λ fs. fs ++ more) grown ∙ append_assoc (fields_of x) (told_fields x told) more

  -- one point, and a beginning of those after it, or none
  begun : (told : Told) (h : Heard)
      (x z y : Timeline C) (one : Traces latest gives x told.notice told.lane told.view z) (rest : KeepsAll latest gives z h y) (b : Bool) → has_failed z ≡ b
      → HasSomeOf (one.time ∷ rest.times) (told ∷ h) x y
  begun told h x z y one rest true e = record {
    many = 0;
    points = (rest.stays e).1.points ∙ (one.lost e).points ∙ sym (append-nil (points_of x));
    sites = (rest.stays e).1.sites ∙ (one.lost e).sites;
    fields = (rest.stays e).1.fields ∙ (one.lost e).fields ∙ sym (append-nil (fields_of x));
  }
  begun told h x z y one rest false e =
      let some = rest.beginning in
      let now = (one.kept e).1 in
      let place = length (fields_of x) + length (told_fields x told) in
      let more = take some.many (points_at (keeps_values x) place rest.times h) in
      record {
        many = suc some.many;
        points = some.points ∙ ap (λ ps. points_of z ++ take some.many ps) (moved told h rest.times x z one.values now.fields)
            ∙ ap (λ ps. ps ++ more) now.points ∙ append_assoc (points_of x) (told_point x told one.time ∷ []) more;
        sites = some.sites ∙ ap (λ (ss : List SiteSaid). sites_at ss (take some.many h)) now.sites;
        fields = behind told (take some.many h) x z y one.values now.fields some.fields;
      }

  -- all of it
  whole : (told : Told) (h : Heard) (x z y : Timeline C) (one : Traces latest gives x told.notice told.lane told.view z)
      (times : List ℕ)
      → KeepsPoint one.time told.lane (happening_of told.notice told.view) (metadata_in told.notice) (told_fields x told) (kept_of x) (kept_of z)
      → HasAllOf times h z y → HasAllOf (one.time ∷ times) (told ∷ h) x y
  whole told h x z y one times now all =
      let place = length (fields_of x) + length (told_fields x told) in
      let more = points_at (keeps_values x) place times h in
      record {
        points = all.points ∙ ap (λ ps. points_of z ++ ps) (moved told h times x z one.values now.fields)
            ∙ ap (λ ps. ps ++ more) now.points ∙ append_assoc (points_of x) (told_point x told one.time ∷ []) more;
        sites = all.sites ∙ ap (λ (ss : List SiteSaid). sites_at ss h) now.sites;
        fields = behind told h x z y one.values now.fields all.fields;
      }

  -- what it was told it keeps
  pub keeps_told : TimelinesKeepAll latest gives
  keeps_told x y [] same =
      let here = ap (λ (o : Observer (Timeline C)). observer_of o) same in
      let points = ap (λ (t : Timeline C). points_of t) (sym here) ∙ sym (append-nil (points_of (observer_of x))) in
      let sites = ap (λ (t : Timeline C). sites_of t) (sym here) in
      let fields = ap (λ (t : Timeline C). fields_of t) (sym here) ∙ sym (append-nil (fields_of (observer_of x))) in
      record {
        times = [];
        one_each = refl;
        read = ap (λ (t : Timeline C). clock_of t) here;
        forward = tt;
        kept = λ good. (
          ap (λ (t : Timeline C). has_failed t) here ∙ good,
          record { points = points; sites = sites; fields = fields },
        );
        beginning = record { many = 0; points = points; sites = sites; fields = fields };
        order = λ order. subst (λ (t : Timeline C). IsInOrder latest t) here order;
        stays = λ failed. (
          ap (λ (t : Timeline C). has_failed t) (sym here) ∙ failed,
          record {
            points = ap (λ (t : Timeline C). points_of t) (sym here);
            sites = sites;
            fields = ap (λ (t : Timeline C). fields_of t) (sym here);
          },
        );
        values = ap (λ (t : Timeline C). keeps_values t) (sym here);
      }
  keeps_told x y (told ∷ h) a =
      let one = subst (λ (v : View). Traces latest gives (observer_of x) told.notice told.lane v (observer_of a.0)) (sym a.1.shown) a.1.step.1.0 in
      let rest = keeps_told a.0 y h a.2 in
      record {
        times = one.time ∷ rest.times;
        one_each = ap suc rest.one_each;
        read = (clock_of (observer_of a.0), one.read, rest.read);
        forward = (one.read.forward, subst (λ (n : ℕ). NeverGoBack n rest.times) one.read.kept rest.forward);
        kept = λ good.
            let later = rest.kept good in
            let now = one.kept later.0 in
            (now.0, whole told h (observer_of x) (observer_of a.0) (observer_of y) one rest.times now.1 later.1);
        beginning = begun told h (observer_of x) (observer_of a.0) (observer_of y) one rest (has_failed (observer_of a.0)) refl;
        order = λ order. rest.order (stays_in_order told (observer_of x) (observer_of a.0) one order (has_failed (observer_of a.0)) refl);
        stays = λ failed.
            let now = stays_failed told (observer_of x) (observer_of a.0) one failed (has_failed (observer_of a.0)) refl in
            let later = rest.stays now.0 in (
              later.0,
              record { points = later.1.points ∙ now.1.points; sites = later.1.sites ∙ now.1.sites; fields = later.1.fields ∙ now.1.fields },
            );
        values = rest.values ∙ one.values;
      }
