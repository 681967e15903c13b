-- Texts of parents: what is read from them, and that what is written is read again.
use Rattle.std.proofs.Common.{◌≡◌, ◌∙◌, ◌<◌, ◌==◌, ◌||◌, ◌&&◌, Bool, true, false, ℕ, zero, suc, List, [], ◌∷◌, ◌++◌, Option, None, Some, Result, Ok, Err, ap}
use Rattle.std.proofs.Common.{append-nil, append_assoc, arith, codes, if◌then◌else◌, length, not, refl, slice_index, subst, sym, unwrap_or}
use Rattle.std.proofs.lemmas.Bool.{and_parts, eqb-false, eqb-true, or_parts}
use Rattle.std.specs.Int.{from_be_bytes, to_be_bytes, w128, w64}
use Rattle.std.specs.Option.{option_and_then}
use Rattle.hex.specs.Hex.{IsBytes, encode_lower, encode_with}
use Rattle.span_core.specs.LevelText.{Reads}
use Rattle.span_otlp.specs.TraceParent.{IsParent, MayEnd, Spells, spelled, written}
use Rattle.span_otlp.specs.declared.trace_parent.TraceParent.{TraceParent}
use Rattle.span_otlp.specs.declared.trace_parent.WrongTraceParent.{WrongTraceParent}
use Rattle.span_otlp.specs.private.Reading.{bytes_behind_dash, bytes_in_front, may_end, parent_in, parent_of_bytes, whole_parent}
use Rattle.span_otlp.proofs.BigEndian.{again_16, again_8, back_16, back_8, fits_16, fits_8, length_written, written_bytes}
use Rattle.span_otlp.proofs.Digits.{dash_complete, dash_sound, front_complete, front_sound}

found_by : {T U : Type 0} (f : T → Option U) (o : Option T) (y : U) → option_and_then f o ≡ Some y → (x : T) × (o ≡ Some x) × (f x ≡ Some y)
found_by f None y h = cc h
found_by f (Some x) y h = (x, refl, h)

is_not : (b : Bool) → not b ≡ true → b ≡ false
is_not true h = cc h
is_not false h = refl

was_not : (b : Bool) → not b ≡ false → b ≡ true
was_not true h = refl
was_not false h = cc h

-- a byte that is not 255 is below it, and one that is not 0 above
below_top : (v : ℕ) → v < 256 → (v ≡ 255 → ⊥) → v < 255
below_top v small other = omega arith

above_zero : (v : ℕ) → (v ≡ 0 → ⊥) → 0 < v
above_zero v other = omega arith

ends_sound : (version : ℕ) (rest : List ℕ) → version < 256 → may_end version rest ≡ true → MayEnd version rest
ends_sound version [] small h = below_top version small (eqb-false version 255 (is_not (version == 255) h))
ends_sound version (c ∷ rest) small h =
    let outer = and_parts (not (version == 0) && not (version == 255)) (c == 45) h in
    let inner = and_parts (not (version == 0)) (not (version == 255)) outer.0 in (
      above_zero version (eqb-false version 0 (is_not (version == 0) inner.0)),
      below_top version small (eqb-false version 255 (is_not (version == 255) inner.1)),
      eqb-true c 45 outer.1,
    )

ends_complete : (version : ℕ) (rest : List ℕ) → MayEnd version rest → may_end version rest ≡ true
ends_complete version [] h = grind arith
ends_complete version (c ∷ rest) h =
    let low : 0 < version = h.0 in
    let high : version < 255 = h.1 in
    let dash : c ≡ 45 = h.2 in
    grind arith

-- a parent that was put together
record Whole (version : ℕ) (p : TraceParent) (rest : List ℕ) (q : TraceParent) : Type 0 where
  pub same : p ≡ q
  pub trace : 0 < p.trace
  pub span : 0 < p.span
  pub ends : may_end version rest ≡ true

taken : (b : Bool) (p q : TraceParent) → (if b then None else Some p) ≡ Some q → (b ≡ false) × (p ≡ q)
taken true p q h = cc h
taken false p q h = (refl, ap (λ (o : Option TraceParent). unwrap_or o p) h)

whole_sound : (version : ℕ) (p : TraceParent) (rest : List ℕ) (q : TraceParent) → whole_parent version p rest ≡ Some q → Whole version p rest q
whole_sound version p rest q h =
    let parts = taken ((p.trace == 0) || (p.span == 0) || not (may_end version rest)) p q h in
    let outer = or_parts ((p.trace == 0) || (p.span == 0)) (not (may_end version rest)) parts.0 in
    let inner = or_parts (p.trace == 0) (p.span == 0) outer.0 in
    record {
      same = parts.1;
      trace = above_zero p.trace (eqb-false p.trace 0 inner.0);
      span = above_zero p.span (eqb-false p.span 0 inner.1);
      ends = was_not (may_end version rest) outer.1;
    }

is_none_of : (n : ℕ) → 0 < n → (n == 0) ≡ false
is_none_of n h = grind arith

whole_complete : (version : ℕ) (p : TraceParent) (rest : List ℕ) → 0 < p.trace → 0 < p.span → MayEnd version rest
    → whole_parent version p rest ≡ Some p
whole_complete version p rest trace span ends =
    ap (λ (b : Bool). if b || (p.span == 0) || not (may_end version rest) then None else Some p) (is_none_of p.trace trace)
    ∙ ap (λ (b : Bool). if b || not (may_end version rest) then None else Some p) (is_none_of p.span span)
    ∙ ap (λ (b : Bool). if not b then None else Some p) (ends_complete version rest ends)

one_byte : (bs : List ℕ) → length bs ≡ 1 → bs ≡ slice_index bs 0 ∷ []
one_byte [] len = absurd (omega arith)
one_byte (b ∷ []) len = refl
one_byte (b ∷ c ∷ bs) len = absurd (omega arith)

-- the parent of these bytes
abbrev parent_by : List ℕ → List ℕ → List ℕ → TraceParent
parent_by trace span flags = record { trace = from_be_bytes w128 trace; span = from_be_bytes w64 span; flags = slice_index flags 0 }

-- the text of these bytes and a rest
abbrev text_by : List ℕ → List ℕ → List ℕ → List ℕ → List ℕ → List ℕ
text_by version trace span flags rest =
    encode_lower version ++ 45 ∷ (encode_lower trace ++ 45 ∷ (encode_lower span ++ 45 ∷ (encode_lower flags ++ rest)))

-- what some bytes spell is what the parent of them does
spelled_by : (version trace span flags rest : List ℕ) → length version ≡ 1 → length trace ≡ 16 → IsBytes trace → length span ≡ 8 → IsBytes span
    → length flags ≡ 1 → text_by version trace span flags rest ≡ spelled (slice_index version 0) (parent_by trace span flags) rest
spelled_by version trace span flags rest one sixteen trace_bytes eight span_bytes last =
    ap (λ (bs : List ℕ). text_by bs trace span flags rest) (one_byte version one)
    ∙ ap (λ (bs : List ℕ). text_by (slice_index version 0 ∷ []) bs span flags rest) (sym (back_16 trace sixteen trace_bytes))
    ∙ ap (λ (bs : List ℕ). text_by (slice_index version 0 ∷ []) (to_be_bytes w128 (from_be_bytes w128 trace)) bs flags rest)
    (sym (back_8 span eight span_bytes))
    ∙ ap (λ (bs : List ℕ). text_by (slice_index version 0 ∷ []) (to_be_bytes w128 (from_be_bytes w128 trace))
    (to_be_bytes w64 (from_be_bytes w64 span)) bs rest) (one_byte flags last)

-- a text that a parent is read from is a text of it
pub read_sound : (text : List ℕ) (p : TraceParent) → parent_in text ≡ Some p → Spells text p
read_sound text p h =
    let one = found_by _ (bytes_in_front 1 text) p h in
    let version = one.0 in
    let two = found_by _ (bytes_behind_dash 16 version.1) p one.2 in
    let trace = two.0 in
    let three = found_by _ (bytes_behind_dash 8 trace.1) p two.2 in
    let span = three.0 in
    let four = found_by (parent_of_bytes version.0 trace.0 span.0) (bytes_behind_dash 1 span.1) p three.2 in
    let flags = four.0 in
    let is_one = front_sound 1 text version one.1 in
    let is_two = dash_sound 16 version.1 trace two.1 in
    let is_three = dash_sound 8 trace.1 span three.1 in
    let is_four = dash_sound 1 span.1 flags four.1 in
    let made = parent_by trace.0 span.0 flags.0 in
    let whole = whole_sound (slice_index version.0 0) made flags.1 p four.2 in
    let bytes : text ≡ text_by version.0 trace.0 span.0 flags.0 flags.1 =
    is_one.same ∙ ap (λ (r : List ℕ). encode_lower version.0 ++ r) is_two.same
    ∙ ap (λ (r : List ℕ). encode_lower version.0 ++ 45 ∷ (encode_lower trace.0 ++ r)) is_three.same
    ∙ ap (λ (r : List ℕ). encode_lower version.0 ++ 45 ∷ (encode_lower trace.0 ++ 45 ∷ (encode_lower span.0 ++ r))) is_four.same in
    let shape =
    bytes ∙ spelled_by version.0 trace.0 span.0 flags.0 flags.1 is_one.count is_two.count is_two.bytes is_three.count is_three.bytes is_four.count in
    let said : Spells text made = record {
      version = slice_index version.0 0;
      rest = flags.1;
      shape = shape;
      ends = ends_sound (slice_index version.0 0) flags.1 (is_one.bytes 0) whole.ends;
      parent = record {
        trace = whole.trace;
        trace_fits = fits_16 trace.0 is_two.count is_two.bytes;
        span = whole.span;
        span_fits = fits_8 span.0 is_three.count is_three.bytes;
        flags_fit = is_four.bytes 0;
      };
    } in
    subst (λ (q : TraceParent). Spells text q) whole.same said

one_small : (b : ℕ) → b < 256 → IsBytes (b ∷ [])
one_small b h zero = h
one_small b h (suc i) = omega arith

version_small : (version : ℕ) (rest : List ℕ) → MayEnd version rest → version < 256
version_small version [] h = omega (arith, h)
version_small version (c ∷ rest) h = omega (arith, h.1)

-- a parent is read from each text of it
pub read_complete : (text : List ℕ) (p : TraceParent) → Spells text p → parent_in text ≡ Some p
read_complete text p h =
    let is = h.parent in
    let trace = to_be_bytes w128 p.trace in
    let span = to_be_bytes w64 p.span in
    let flags = p.flags ∷ [] in
    let behind_span = 45 ∷ (encode_lower flags ++ h.rest) in
    let behind_trace = 45 ∷ (encode_lower span ++ behind_span) in
    let behind_version = 45 ∷ (encode_lower trace ++ behind_trace) in
    let four : bytes_behind_dash 1 behind_span ≡ Some (flags, h.rest) = dash_complete 1 flags h.rest refl (one_small p.flags is.flags_fit) in
    let three : bytes_behind_dash 8 behind_trace ≡ Some (span, behind_span) =
    dash_complete 8 span behind_span (length_written 8 p.span) (written_bytes 8 p.span) in
    let two : bytes_behind_dash 16 behind_version ≡ Some (trace, behind_trace) =
    dash_complete 16 trace behind_trace (length_written 16 p.trace) (written_bytes 16 p.trace) in
    let one : bytes_in_front 1 (encode_lower (h.version ∷ []) ++ behind_version) ≡ Some (h.version ∷ [], behind_version) =
    front_complete 1 (h.version ∷ []) behind_version refl (one_small h.version (version_small h.version h.rest h.ends)) in
    let numbers : parent_by trace span flags ≡ p =
    ap (λ (n : ℕ). record { trace = n; span = from_be_bytes w64 span; flags = p.flags }) (again_16 p.trace is.trace_fits)
    ∙ ap (λ (n : ℕ). record { trace = p.trace; span = n; flags = p.flags }) (again_8 p.span is.span_fits) in
    let last = ap (λ (q : TraceParent). whole_parent h.version q h.rest) numbers ∙ whole_complete h.version p h.rest is.trace is.span h.ends in
    ap parent_in h.shape
    ∙ ap (option_and_then (λ v. option_and_then (λ t. option_and_then (λ s.
    option_and_then (parent_of_bytes v.0 t.0 s.0) (bytes_behind_dash 1 s.1)) (bytes_behind_dash 8 t.1)) (bytes_behind_dash 16 v.1))) one
    ∙ ap (option_and_then (λ t. option_and_then (λ s.
    option_and_then (parent_of_bytes (h.version ∷ []) t.0 s.0) (bytes_behind_dash 1 s.1)) (bytes_behind_dash 8 t.1))) two
    ∙ ap (option_and_then (λ s. option_and_then (parent_of_bytes (h.version ∷ []) trace s.0) (bytes_behind_dash 1 s.1))) three
    ∙ ap (option_and_then (parent_of_bytes (h.version ∷ []) trace span)) four ∙ last

-- a text is of one parent at most
pub one_parent : (text : List ℕ) (p q : TraceParent) → Spells text p → Spells text q → p ≡ q
one_parent text p q a b = ap (λ (o : Option TraceParent). unwrap_or o p) (sym (read_complete text p a) ∙ read_complete text q b)

joined : (t s f : List ℕ) → (((t ++ 45 ∷ []) ++ s) ++ 45 ∷ []) ++ f ≡ t ++ 45 ∷ (s ++ 45 ∷ (f ++ []))
joined t s f =
    append_assoc ((t ++ 45 ∷ []) ++ s) (45 ∷ []) f ∙ append_assoc (t ++ 45 ∷ []) s (45 ∷ f) ∙ append_assoc t (45 ∷ []) (s ++ 45 ∷ f)
    ∙ ap (λ (r : List ℕ). t ++ 45 ∷ (s ++ 45 ∷ r)) (sym (append-nil f))

zero_digits : encode_lower (0 ∷ []) ≡ codes "00"
unfolding encode_with
zero_digits = refl

-- what is written of a parent is a text of it
pub written_spells : (p : TraceParent) → IsParent p → Spells (written p) p
written_spells p h =
    let trace = encode_lower (to_be_bytes w128 p.trace) in
    let span = encode_lower (to_be_bytes w64 p.span) in
    let flags = encode_lower (p.flags ∷ []) in
    record {
      version = 0;
      rest = [];
      shape = ap (λ (r : List ℕ). 48 ∷ 48 ∷ 45 ∷ r) (joined trace span flags)
          ∙ ap (λ (v : List ℕ). v ++ 45 ∷ (trace ++ 45 ∷ (span ++ 45 ∷ (flags ++ [])))) (sym zero_digits);
      ends = omega arith;
      parent = h;
    }

-- parents are read again as they were written
pub read_again : (p : TraceParent) (r : Result TraceParent WrongTraceParent) → IsParent p → Reads (Spells (written p)) r → r ≡ Ok p
read_again p (Ok q) is h = ap Ok (one_parent (written p) q p h (written_spells p is))
read_again p (Err e) is h = absurd (h p (written_spells p is))
