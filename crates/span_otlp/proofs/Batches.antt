-- How requests grow, batch by batch.
use Rattle.std.proofs.Common.{arith, ◌≡◌, ◌≤◌, ◌∙◌, ◌<◌, ◌+◌, ◌*◌, ℕ, List, [], ◌∷◌, ◌++◌, Err, IfOk, Ok, OnOk, Result, Some, ap, append_assoc, flat_map}
use Rattle.std.proofs.Common.{length, length-append, map, max, refl, string_bytes, sym}
use Rattle.std.specs.List.{AllByRecursion}
use Rattle.std.proofs.lemmas.List.{append-nil, length-map, map-append}
use Rattle.std.proofs.lemmas.List.Concat.{flat_map-append}
use Rattle.serde_json.specs.Data.{Data, depth}
use Rattle.serde_json.specs.Read.{read}
use Rattle.serde_json.specs.View.{view}
use Rattle.serde_json.specs.declared.value.Value.{Value}
use Rattle.span_otlp.proofs.Requests.{request_depth}
use Rattle.span_otlp.specs.Batch.{AreBatches, request_value}
use Rattle.span_export.specs.Json.{AllMean, AreCompact, Means, reprinted}
use Rattle.span_otlp.specs.declared.batch.Batches.{Batches}
use Rattle.span_otlp.specs.declared.batch.Plan.{Plan}
use Rattle.span_otlp.specs.declared.batch.Signal.{Signal}
use Rattle.span_otlp.specs.declared.otlp.Trace.{Trace}
use Rattle.std.proofs.lemmas.Simd.{map-map}
use Rattle.span_otlp.specs.private.Sent.{AreAllSent, AreSent, HasSent, HaveRoom}

-- one more of a list
pub all_more : {A : Type 0} (P : A → Type 0) (xs : List A) (x : A) → AllByRecursion P xs → P x → AllByRecursion P (xs ++ x ∷ [])
all_more P [] x h p = (p, tt)
all_more P (y ∷ xs) x h p = (h.0, all_more P xs x h.1 p)

-- a fact that follows of each
all_so : {A : Type 0} (P Q : A → Type 0) → ((x : A) → P x → Q x) → (xs : List A) → AllByRecursion P xs → AllByRecursion Q xs
all_so P Q so [] h = tt
all_so P Q so (x ∷ xs) h = (so x h.0, all_so P Q so xs h.1)

mean_more : (xs : List (List ℕ)) (x : List ℕ) (ds : List Data) (d : Data) → AllMean xs ds → Means x d → AllMean (xs ++ x ∷ []) (ds ++ d ∷ [])
mean_more xs x ds d mean here =
    map-append read xs (x ∷ []) ∙ ap (λ os. os ++ read x ∷ []) mean ∙ ap (λ o. map Some ds ++ o ∷ []) here ∙ sym (map-append Some ds (d ∷ []))

compact_more : (xs : List (List ℕ)) (x : List ℕ) → AreCompact xs → reprinted x ≡ x → AreCompact (xs ++ x ∷ [])
compact_more xs x compact here =
    map-append reprinted xs (x ∷ []) ∙ ap (λ ys. ys ++ reprinted x ∷ []) compact ∙ ap (λ y. xs ++ y ∷ []) here

flat_more : (bs : List (List Data)) (b : List Data) → flat_map (λ b. b) (bs ++ b ∷ []) ≡ flat_map (λ b. b) bs ++ b
flat_more bs b = flat_map-append (λ b. b) bs (b ∷ []) ∙ ap (λ ds. flat_map (λ b. b) bs ++ ds) (append-nil b)

-- what waited is a line more
sent_lines : (plan : Plan) (all : List Data) (old mid : Batches) (s : AreSent plan all old) → HasSent plan old mid
    → AllMean (map string_bytes mid.lines.items) (map (request_value plan.signal plan.trace.now) (s.batches ++ map view old.waiting.items ∷ []))
sent_lines plan all old mid s h =
    let req = request_value plan.signal plan.trace.now in
    let w = map view old.waiting.items in
    let here = h.means (request_depth plan.signal plan.trace.now w s.flat) in
    ap (λ ls. map read (map string_bytes ls)) h.more ∙ ap (map read) (map-append string_bytes old.lines.items (h.line ∷ []))
    ∙ mean_more (map string_bytes old.lines.items) (string_bytes h.line) (map req s.batches) (req w) s.mean here
    ∙ ap (map Some) (sym (map-append req s.batches (w ∷ [])))

sent_compact : (plan : Plan) (all : List Data) (old mid : Batches) → AreSent plan all old → HasSent plan old mid → AreCompact (map string_bytes mid.lines.items)
sent_compact plan all old mid s h =
    let shown = ap (map string_bytes) h.more ∙ map-append string_bytes old.lines.items (h.line ∷ []) in
    ap (map reprinted) shown ∙ compact_more (map string_bytes old.lines.items) (string_bytes h.line) s.compact h.compact ∙ sym shown

count_more : (k m w a : ℕ) → k * m + w ≡ a → w ≡ m → (k + 1) * m + 0 ≡ a
count_more k m w a count full = omega arith

-- a full request is sent
pub after_send : (plan : Plan) (all : List Data) (old mid : Batches)
    → AreSent plan all old → max 1 plan.most ≤ length old.waiting.items → HasSent plan old mid → HaveRoom plan all mid
after_send plan all old mid s whole h =
    let w = map view old.waiting.items in
    let size : length w ≡ max 1 plan.most = omega (arith, length-map old.waiting.items view, s.few) in
    let none : map view mid.waiting.items ≡ [] = ap (map view) h.none in
    record {
      sent = record {
        batches = s.batches ++ w ∷ [];
        mean = sent_lines plan all old mid s h;
        compact = sent_compact plan all old mid s h;
        whole =
            ap (λ ds. flat_map (λ b. b) (s.batches ++ w ∷ []) ++ ds) none ∙ append-nil (flat_map (λ b. b) (s.batches ++ w ∷ []))
            ∙ flat_more s.batches w ∙ s.whole;
        full = all_more (λ b. length b ≡ max 1 plan.most) s.batches w s.full size;
        count =
            ap (λ n. n * max 1 plan.most + length mid.waiting.items) (length-append s.batches (w ∷ []))
            ∙ ap (λ vs. (length s.batches + 1) * max 1 plan.most + length vs) h.none
            ∙ count_more (length s.batches) (max 1 plan.most) (length old.waiting.items) (length all) s.count (omega (arith, s.few));
        few = rw h.none (omega arith);
        flat = rw h.none tt;
      };
      room = rw h.none (omega arith);
    }

push_count : (k m w a : ℕ) → k * m + w ≡ a → k * m + (w + 1) ≡ a + 1
push_count k m w a count = omega arith

-- one more waits
pub after_push : (plan : Plan) (all : List Data) (old new : Batches) (v : Value)
    → new.lines.items ≡ old.lines.items → new.waiting.items ≡ old.waiting.items ++ v ∷ [] → depth (view v) ≤ 6
    → HaveRoom plan all old → AreSent plan (all ++ view v ∷ []) new
after_push plan all old new v same more flat h =
    let s = h.sent in
    let seen : map view new.waiting.items ≡ map view old.waiting.items ++ view v ∷ [] =
    ap (map view) more ∙ map-append view old.waiting.items (v ∷ []) in
    let longer : length new.waiting.items ≡ length old.waiting.items + 1 = ap length more ∙ length-append old.waiting.items (v ∷ []) in
    record {
      batches = s.batches;
      mean = ap (λ ls. map read (map string_bytes ls)) same ∙ s.mean;
      compact = ap (λ ls. map reprinted (map string_bytes ls)) same ∙ s.compact ∙ ap (map string_bytes) (sym same);
      whole =
          ap (λ ds. flat_map (λ b. b) s.batches ++ ds) seen
          ∙ sym (append_assoc (flat_map (λ b. b) s.batches) (map view old.waiting.items) (view v ∷ [])) ∙ ap (λ ds. ds ++ view v ∷ []) s.whole;
      full = s.full;
      count =
          ap (λ n. length s.batches * max 1 plan.most + n) longer
          ∙ push_count (length s.batches) (max 1 plan.most) (length old.waiting.items) (length all) s.count ∙ sym (length-append all (view v ∷ []));
      few = omega (arith, longer, h.room);
      flat = rw seen (all_more (λ d. depth d ≤ 6) (map view old.waiting.items) (view v) s.flat flat);
    }

-- a batch has one at least and so many at most
abbrev IsSized : ℕ → List Data → Type 0
IsSized m b = (0 < length b) × (length b ≤ m)

few_batches : (k m w a : ℕ) → k * m + w ≡ a → 0 < w → (k + 1) * m < a + m
few_batches k m w a count some = omega arith

few_full : (k m a : ℕ) → k * m + 0 ≡ a → 0 < m → k * m < a + m
few_full k m a count some = omega arith

-- the last ones are sent
pub at_end : (plan : Plan) (all : List Data) (old mid : Batches)
    → AreSent plan all old → 0 < length old.waiting.items → HasSent plan old mid → AreAllSent plan all (map string_bytes mid.lines.items)
at_end plan all old mid s some h =
    let w = map view old.waiting.items in
    let same = length-map old.waiting.items view in
    let full = all_so (λ b. length b ≡ max 1 plan.most) (IsSized (max 1 plan.most)) (λ b e. (omega (arith, e), omega (arith, e))) s.batches s.full in
    record {
      batches = record {
        batches = s.batches ++ w ∷ [];
        cut = record {
          whole = flat_more s.batches w ∙ s.whole;
          sizes = all_more (IsSized (max 1 plan.most)) s.batches w full (omega (arith, same), omega (arith, same, s.few));
          few =
              rw (length-append s.batches (w ∷ []))
              (few_batches (length s.batches) (max 1 plan.most) (length old.waiting.items) (length all) s.count some);
        };
        mean = sent_lines plan all old mid s h;
      };
      compact = sent_compact plan all old mid s h;
    }

-- none waited
pub at_once : (plan : Plan) (all : List Data) (b : Batches) → AreSent plan all b → b.waiting.items ≡ [] → AreAllSent plan all (map string_bytes b.lines.items)
at_once plan all b s none =
    let full = all_so (λ b. length b ≡ max 1 plan.most) (IsSized (max 1 plan.most)) (λ b e. (omega (arith, e), omega (arith, e))) s.batches s.full in
    record {
      batches = record {
        batches = s.batches;
        cut = record {
          whole =
              sym (append-nil (flat_map (λ b. b) s.batches)) ∙ ap (λ vs. flat_map (λ b. b) s.batches ++ map view vs) (sym none) ∙ s.whole;
          sizes = full;
          few =
              few_full (length s.batches) (max 1 plan.most) (length all)
              (ap (λ vs. length s.batches * max 1 plan.most + length vs) (sym none) ∙ s.count) (omega arith);
        };
        mean = s.mean;
      };
      compact = s.compact;
    }

none_counted : (m : ℕ) → 0 * m + 0 ≡ 0
none_counted m = omega arith

-- nothing is sent, and nothing waits
pub at_first : (plan : Plan) (b : Batches) → b.lines.items ≡ [] → b.waiting.items ≡ [] → AreSent plan [] b
at_first plan b none waits = record {
  batches = [];
  mean = ap (λ ls. map read (map string_bytes ls)) none;
  compact = ap (λ ls. map reprinted (map string_bytes ls)) none ∙ ap (map string_bytes) (sym none);
  whole = ap (map view) waits;
  full = tt;
  count = ap (λ vs. 0 * max 1 plan.most + length vs) waits ∙ none_counted (max 1 plan.most);
  few = rw waits (omega arith);
  flat = rw waits tt;
}

-- batches of one are the values one by one
pub batches_of_one : (bs : List (List Data)) → AllByRecursion (IsSized 1) bs → bs ≡ map (λ d. d ∷ []) (flat_map (λ b. b) bs)
batches_of_one [] h = refl
batches_of_one ([] ∷ bs) h = absurd (omega (arith, h.0))
batches_of_one ((d ∷ []) ∷ bs) h = ap (λ cs. (d ∷ []) ∷ cs) (batches_of_one bs h.1)
batches_of_one ((d ∷ e ∷ ds) ∷ bs) h = absurd (omega (arith, h.0))

-- lines with a value each
pub lines_of_one : (signal : Signal) (trace : Trace) (all : List Data) (lines : List (List ℕ))
    → AreBatches signal trace 1 all lines → AllMean lines (map (λ d. request_value signal trace (d ∷ [])) all)
lines_of_one signal trace all lines h =
    let req = request_value signal trace in
    h.mean
    ∙ ap (λ bs. map Some (map req bs)) (batches_of_one h.batches h.cut.sizes ∙ ap (map (λ d. d ∷ [])) h.cut.whole)
    ∙ ap (map Some) (map-map req (λ d. d ∷ []) all)

pub nothing_there : {A : Type 0} (xs : List A) → length xs ≡ 0 → xs ≡ []
nothing_there [] e = refl
nothing_there (x ∷ xs) e = absurd (omega (arith, e))

-- what holds where all went well
pub on_done : {A B P Q : Type 0} (r : Result A B) → OnOk r P → (P → Q) → OnOk r Q
on_done (Ok a) p f = f p
on_done (Err b) p f = tt

pub on_ok : {A B : Type 0} {P Q : A → Type 0} (r : Result A B) → IfOk r P → ((a : A) → P a → Q a) → IfOk r Q
on_ok (Ok a) p f = f a p
on_ok (Err b) p f = tt
