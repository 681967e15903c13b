-- The phases of trace events.
use Rattle.std.proofs.Common.{arith, ◌≡◌, ◌∙◌, ◌+◌, ℕ, Bool, true, false, List, [], ◌∷◌, ◌++◌, Option, None, Some, ap, codes, cond, count_by, if◌then◌else◌}
use Rattle.std.proofs.Common.{map, refl}
use Rattle.std.specs.Option.{option_map_or, option_to_list}
use Rattle.std.proofs.lemmas.List.Sums.{sum_by-append, sum_by-cons}
use Rattle.serde_json.specs.Data.{Data}
use Rattle.span_export.specs.Chrome.{Change, TracesCountAll, begin_of, change_event, changes, events_at, events_from, has_phase, is_known, lane_named, naming}
use Rattle.span_export.specs.Chrome.{own_event, time_in}
use Rattle.span_export.specs.Chrome.Change.{Begins, Ends}
use Rattle.span_export.specs.Entry.{lasting}
use Rattle.span_export.specs.Site.{Named, event_named, named_in}
use Rattle.span_times.specs.Measure.{count_in, is_close, is_event, is_opening}
use Rattle.span_times.specs.declared.happening.Happening.TheVariants.{Closed, Entered, Followed, Left, Opened, Recorded, Renamed, Sent}
use Rattle.span_times.specs.declared.happening.Happening.{Happening}
use Rattle.span_times.specs.declared.happening.Point.{Point}
use Rattle.span_times.specs.declared.kept.Table.{Table}

module _ (phase : List ℕ) where
  abbrev counted : List Data → ℕ
  counted ds = count_by (has_phase phase) ds

  first : (d : Data) (ds : List Data) → counted (d ∷ ds) ≡ (if has_phase phase d then 1 else 0) + counted ds
  first d ds = sum_by-cons (λ d. cond (has_phase phase d) 1 0) d ds

  both : (ds es : List Data) → counted (ds ++ es) ≡ counted ds + counted es
  both ds es = sum_by-append (λ d. cond (has_phase phase d) 1 0) ds es

  -- none of those that are made so
  none_made : {A : Type 0} (f : A → Data) → ((x : A) → has_phase phase (f x) ≡ false) → (xs : List A) → counted (map f xs) ≡ 0
  none_made f h [] = refl
  none_made f h (x ∷ xs) =
      let one = ap {B = ℕ} (λ b. if b then 1 else 0) (h x) in
      omega (arith, first (f x) (map f xs), one, none_made f h xs)

  -- one, where there is one
  of_one : (o : Option Data) → counted (option_to_list o) ≡ (if option_map_or (has_phase phase) o false then 1 else 0)
  of_one None = refl
  of_one (Some d) = omega (arith, first d [])

  -- names of lanes and changes of boxes have other phases, and a point's own has it where it is of a kind
  record Tells (is : Happening → Bool) : Type 0 where
    lanes : (lane : ℕ) → has_phase phase (lane_named lane) ≡ false
    boxes : (named : ℕ → Named) (time : ℕ) (c : Change) → has_phase phase (change_event named time c) ≡ false
    own : (event named : ℕ → Named) (lane time : ℕ) (what : Happening)
        → option_map_or (has_phase phase) (own_event event named lane time what) false ≡ is what

  module _ (is : Happening → Bool) (tells : Tells is) where
    unnamed : (known : Bool) (lane : ℕ) → counted (naming known lane) ≡ 0
    unnamed true lane = refl
    unnamed false lane =
        let one = ap {B = ℕ} (λ b. if b then 1 else 0) (tells.lanes lane) in
        omega (arith, first (lane_named lane) [], one)

    -- then points of the kind are counted
    kinds : (table : Table) (named : ℕ → Named) (begin : ℕ) (before ps : List Point)
        → counted (events_from table named begin before ps) ≡ count_in is ps
    kinds table named begin before [] = refl
    kinds table named begin before (p ∷ ps) =
        let time = time_in begin p in
        let name = naming (is_known before p.lane.0) p.lane.0 in
        let boxes = map (change_event named time) (changes (lasting before) p p.what) in
        let own = option_to_list (own_event (event_named table p) named p.lane.0 time p.what) in
        let here = events_at table named (lasting before) time p in
        let rest = events_from table named begin (before ++ p ∷ []) ps in
        let its : counted own ≡ (if is p.what then 1 else 0) =
        of_one (own_event (event_named table p) named p.lane.0 time p.what)
        ∙ ap (λ b. if b then 1 else 0) (tells.own (event_named table p) named p.lane.0 time p.what) in
        omega (
          arith,
          both (name ++ here) rest,
          both name here,
          both boxes own,
          unnamed (is_known before p.lane.0) p.lane.0,
          none_made (change_event named time) (tells.boxes named time) (changes (lasting before) p p.what),
          its,
          kinds table named begin (before ++ p ∷ []) ps,
        )

boxes_tell : (phase : List ℕ) → ((named : ℕ → Named) (time lane x : ℕ) → has_phase phase (change_event named time (Begins lane x)) ≡ false)
    → ((named : ℕ → Named) (time lane x : ℕ) → has_phase phase (change_event named time (Ends lane x)) ≡ false)
    → (named : ℕ → Named) (time : ℕ) (c : Change) → has_phase phase (change_event named time c) ≡ false
boxes_tell phase b e named time (Begins lane x) = b named time lane x
boxes_tell phase b e named time (Ends lane x) = e named time lane x

-- what is due of a happening has this phase
abbrev has : List ℕ → (ℕ → Named) → (ℕ → Named) → ℕ → ℕ → Happening → Bool
has phase event named lane time what = option_map_or (has_phase phase) (own_event event named lane time what) false

-- each phase is that of its kind of happening alone
abbrev HasPhases : (ℕ → Named) → (ℕ → Named) → ℕ → ℕ → Happening → Type 0
HasPhases event named lane time what =
    (has (codes "b") event named lane time what ≡ is_opening what)
    × (has (codes "e") event named lane time what ≡ is_close what) × (has (codes "i") event named lane time what ≡ is_event what)

phases : (event named : ℕ → Named) (lane time : ℕ) (what : Happening) → HasPhases event named lane time what
phases event named lane time (Entered id) = (refl, refl, refl)
phases event named lane time (Left id) = (refl, refl, refl)
phases event named lane time (Opened id callsite parent) = (refl, refl, refl)
phases event named lane time (Closed id) = (refl, refl, refl)
phases event named lane time (Sent callsite parent) = (refl, refl, refl)
phases event named lane time (Recorded id) = (refl, refl, refl)
phases event named lane time (Followed id other) = (refl, refl, refl)
phases event named lane time (Renamed id other) = (refl, refl, refl)

openings_told : Tells (codes "b") is_opening
openings_told = record {
  lanes = λ lane. refl;
  boxes = boxes_tell (codes "b") (λ named time lane x. refl) (λ named time lane x. refl);
  own = λ event named lane time what. (phases event named lane time what).0;
}

closes_told : Tells (codes "e") is_close
closes_told = record {
  lanes = λ lane. refl;
  boxes = boxes_tell (codes "e") (λ named time lane x. refl) (λ named time lane x. refl);
  own = λ event named lane time what. (phases event named lane time what).1;
}

events_told : Tells (codes "i") is_event
events_told = record {
  lanes = λ lane. refl;
  boxes = boxes_tell (codes "i") (λ named time lane x. refl) (λ named time lane x. refl);
  own = λ event named lane time what. (phases event named lane time what).2;
}

pub counts_all : TracesCountAll
counts_all table ps = record {
  openings = kinds (codes "b") is_opening openings_told table (named_in table ps) (begin_of ps) [] ps;
  closes = kinds (codes "e") is_close closes_told table (named_in table ps) (begin_of ps) [] ps;
  events = kinds (codes "i") is_event events_told table (named_in table ps) (begin_of ps) [] ps;
}
