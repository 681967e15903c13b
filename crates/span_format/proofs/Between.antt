-- What stands between the quotes of a line in a layout.
use Rattle.std.proofs.Common.{Option, None, Some, ◌≡◌, ◌∙◌, ℕ, zero, suc, Bool, true, false, List, [], ◌∷◌, ◌++◌, ap, append_assoc, flat_map, refl, replicate}
use Rattle.std.proofs.Common.{reverse, sym}
use Rattle.std.specs.Prelude.{if◌then◌else◌, ◌==◌, ◌-◌, ◌||◌, IfSome, codes, decimal, length}
use Rattle.std.specs.Borrow.{Bor}
use Rattle.std.specs.FinMap.{get}
use Rattle.std.specs.List.{AllByRecursion}
use Rattle.std.specs.Option.{option_map_or}
use Rattle.std.proofs.lemmas.List.Folds.{list_any-append}
use Rattle.span_core.specs.Event.{event_metadata, event_values}
use Rattle.span_core.specs.Field.{present}
use Rattle.span_core.specs.Level.{level_number, level_text}
use Rattle.span_core.specs.Metadata.{level_of, name_of, target_of}
use Rattle.span_core.specs.declared.event.Event.{Event}
use Rattle.span_core.specs.declared.field.FieldValue.{FieldValue}
use Rattle.span_core.specs.declared.level.Level.{Level}
use Rattle.span_core.specs.declared.metadata.Metadata.{Metadata}
use Rattle.span_fmt.specs.Between.{AreBare, IsBare, IsBareFloat, IsBareSite, Outside, SpanValues, between, quoted_one_by_one, text_in, texts_in}
use Rattle.span_fmt.specs.Escape.{escaped}
use Rattle.span_fmt.specs.Lane.{name_or_number, name_told}
use Rattle.span_fmt.specs.Lines.{spaced}
use Rattle.span_fmt.specs.Text.{shown_text}
use Rattle.span_fmt.specs.Tree.{spans_round}
use Rattle.span_fmt.proofs.Between.{Tells, decimal_bare, has_quote, level_bare, name_bare, same_texts, tells_any, tells_bare, tells_both, tells_each}
use Rattle.span_fmt.proofs.Between.{tells_more, tells_name, tells_nothing, tells_quoted, tells_spaced, tells_then, tells_value, tells_without, told_between}
use Rattle.span_format.specs.Between.{FormatsTellTheirTexts, IsBareEvent, lane_texts, line_of, texts_from_root, texts_outwards, texts_told, told_in}
use Rattle.span_format.specs.Field.{bare, field_text, fields_text, has_message, is_message, mark, name_text, separator, unled, words_text}
use Rattle.span_format.specs.Line.{at_text, compact_line, full_line, line_in, place_part, pretty_line}
use Rattle.span_format.specs.Look.{Looks, begun_text, lane_column, level_column, margin, target_text}
use Rattle.span_format.specs.Part.{behind_with, braced, from_root, outwards, part_text, place_text, seen_part}
use Rattle.span_format.specs.Style.{bold_name, dim_target, start_of, styled}
use Rattle.span_format.specs.declared.layout.Layout.{Layout}
use Rattle.span_format.specs.declared.layout.Layout.TheVariants as layout
use Rattle.span_format.specs.declared.part.Part.{Part}
use Rattle.span_format.specs.declared.part.Part.TheVariants as part
use Rattle.span_format.specs.declared.style.Style.{Style}
use Rattle.span_format.specs.declared.style.Style.TheVariants as style
use Rattle.span_registry.specs.View.{SeenSpan, View}

has_none : (xs ys : List ℕ) → has_quote xs ≡ false → has_quote ys ≡ false → has_quote (xs ++ ys) ≡ false
has_none xs ys p q = list_any-append (λ b. b == 34) xs ys ∙ ap (λ (t : Bool). t || has_quote ys) p ∙ q

-- ---- fields

mark_bare : (how : Layout) → has_quote (mark how) ≡ false
mark_bare layout.Full = refl
mark_bare layout.Compact = refl
mark_bare layout.Pretty = refl

separator_bare : (how : Layout) → has_quote (separator how) ≡ false
separator_bare layout.Full = refl
separator_bare layout.Compact = refl
separator_bare layout.Pretty = refl

chosen : (b : Bool) (xs ys : List ℕ) → has_quote xs ≡ false → has_quote ys ≡ false → has_quote (if b then xs else ys) ≡ false
chosen true xs ys p q = p
chosen false xs ys p q = q

named_bare : (how : Layout) (name : List ℕ) → IsBare name → has_quote (name_text how name) ≡ false
named_bare how name e =
    chosen (is_message name) [] (escaped name ++ mark how) refl (has_none (escaped name) (mark how) (name_bare name e) (mark_bare how))

tells_field : (how : Layout) (name : List ℕ) (x : FieldValue) → IsBare name → IsBareFloat x → Tells (field_text how name x) (text_in x)
tells_field how name x e f =
    tells_more (separator how ++ name_text how name) (shown_text x) (text_in x)
    (has_none (separator how) (name_text how name) (separator_bare how) (named_bare how name e)) (tells_value x f)

all_tell : (how : Layout) (fields : List (Bor (List ℕ) × FieldValue)) → AllByRecursion (λ f. IsBare f.0.now × IsBareFloat f.1) fields
    → AllByRecursion (λ f. Tells (field_text how f.0.now f.1) (text_in f.1)) fields
all_tell how [] h = tt
all_tell how (f ∷ fields) h = (tells_field how f.0.now f.1 h.0.0 h.0.1, all_tell how fields h.1)

tells_fields : (how : Layout) (values : List (Bor (List ℕ) × FieldValue)) → AreBare values → Tells (fields_text how values) (texts_in values)
tells_fields how values h = tells_each (λ f. field_text how f.0.now f.1) (λ f. text_in f.1) (present values) (all_tell how (present values) h)

tells_bared : (lead : ℕ) (text : List ℕ) (told : List (List ℕ)) → (lead == 34) ≡ false → Tells text told → Tells (bare lead text) told
tells_bared lead [] told other h = h
tells_bared lead (b ∷ bytes) told other h = tells_without lead b bytes told (b == lead) refl other h

tells_unled : (text : List ℕ) (told : List (List ℕ)) → Tells text told → Tells (unled text) told
tells_unled text told h = tells_bared 32 (bare 44 text) told refl (tells_bared 44 text told refl h)

either_tells : (b : Bool) (xs ys : List ℕ) (told : List (List ℕ)) → Tells xs told → Tells ys told → Tells (if b then xs else ys) told
either_tells true xs ys told p q = p
either_tells false xs ys told p q = q

tells_words : (how : Layout) (m : Metadata) (values : List (Bor (List ℕ) × FieldValue)) → IsBareSite m → AreBare values
    → Tells (words_text how m values) (texts_in values)
tells_words how m values site fields =
    let told = tells_fields how values fields in
    either_tells (has_message values) (unled (fields_text how values)) (escaped (name_of m) ++ fields_text how values) (texts_in values)
    (tells_unled (fields_text how values) (texts_in values) told)
    (tells_more (escaped (name_of m)) (fields_text how values) (texts_in values) (name_bare (name_of m) site.name) told)

-- ---- styles, levels and targets

code_bare : (a b c d : Bool)
    → has_quote (if a then codes "[31m" else (if b then codes "[33m" else (if c then codes "[32m" else (if d then codes "[34m" else codes "[35m")))) ≡ false
code_bare true b c d = refl
code_bare false true c d = refl
code_bare false false true d = refl
code_bare false false false true = refl
code_bare false false false false = refl

start_bare : (s : Style) → has_quote (start_of s) ≡ false
start_bare (style.Level l) = code_bare (level_number l == 1) (level_number l == 2) (level_number l == 3) (level_number l == 4)
start_bare style.Bold = refl
start_bare style.Dim = refl

styled_bare : (ansi : Bool) (s : Style) (text : List ℕ) → has_quote text ≡ false → has_quote (styled ansi s text) ≡ false
styled_bare true s text e =
    has_none (start_of s ++ text) (27 ∷ codes "[0m") (has_none (start_of s) text (start_bare s) e) refl
styled_bare false s text e = e

spaces_bare : (n : ℕ) → has_quote (replicate n 32) ≡ false
spaces_bare zero = refl
spaces_bare (suc n) = spaces_bare n

column_bare : (look : Looks) (level : Level) → has_quote (level_column look level) ≡ false
column_bare look level =
    chosen look.level (styled look.ansi (style.Level level) (margin level ++ level_text level) ++ codes " ") []
    (has_none (styled look.ansi (style.Level level) (margin level ++ level_text level)) (codes " ")
    (styled_bare look.ansi (style.Level level) (margin level ++ level_text level)
    (has_none (margin level) (level_text level) (spaces_bare (5 - length (level_text level))) (level_bare level))) refl) refl

target_bare : (ansi : Bool) (m : Metadata) → IsBareSite m → has_quote (dim_target ansi m) ≡ false
target_bare ansi m site = styled_bare ansi style.Dim (escaped (target_of m)) (name_bare (target_of m) site.target)

name_in_style : (ansi : Bool) (m : Metadata) → IsBareSite m → has_quote (bold_name ansi m) ≡ false
name_in_style ansi m site = styled_bare ansi style.Bold (escaped (name_of m)) (name_bare (name_of m) site.name)

shown_target : (look : Looks) (m : Metadata) → IsBareSite m → has_quote (target_text look m) ≡ false
shown_target look m site =
    chosen look.target (dim_target look.ansi m ++ codes ": ") []
    (has_none (dim_target look.ansi m) (codes ": ") (target_bare look.ansi m site) refl) refl

-- ---- lanes

tells_shown : (shown : Bool) (text : List ℕ) (told : List (List ℕ)) → Tells text told → Tells (if shown then text else []) (if shown then told else [])
tells_shown true text told h = h
tells_shown false text told h = tells_nothing

tells_begun : (look : Looks) (lane : ℕ) (level : Level) → Tells (begun_text look lane level) (lane_texts look lane)
tells_begun look lane level =
    let name = look.names lane in
    tells_more (level_column look level) (lane_column look lane) (lane_texts look lane) (column_bare look level)
    (tells_shown look.lanes (name_or_number name lane ++ codes " ") (name_told name)
    (tells_then (name_or_number name lane) (codes " ") (name_told name) (tells_name name lane) refl))

-- ---- spans

tells_braced : (text : List ℕ) (told : List (List ℕ)) → Tells text told → Tells (braced text) told
tells_braced [] told h = h
tells_braced (b ∷ bytes) told h =
    tells_then (codes "{" ++ unled (b ∷ bytes)) (codes "}") told (tells_more (codes "{") (unled (b ∷ bytes)) told refl (tells_unled (b ∷ bytes) told h)) refl

tells_with : (text : List ℕ) (told : List (List ℕ)) → Tells text told → Tells (behind_with text) told
tells_with [] told h = h
tells_with (b ∷ bytes) told h = tells_more (codes " with ") (unled (b ∷ bytes)) told refl (tells_unled (b ∷ bytes) told h)

tells_place : (ansi : Bool) (m : Metadata) (fields : List ℕ) (told : List (List ℕ)) → IsBareSite m → Tells fields told → Tells (place_text ansi m fields) told
tells_place ansi m fields told site h =
    tells_then (bold_name ansi m ++ behind_with fields) (codes "\n") told
    (tells_more (bold_name ansi m) (behind_with fields) told (name_in_style ansi m site) (tells_with fields told h)) refl

-- what a part tells of what its fields do
abbrev told_by : Part → List (List ℕ) → List (List ℕ)
told_by (part.Name ansi) told = []
told_by other told = told

tells_part : (p : Part) (m : Metadata) (fields : List ℕ) (told : List (List ℕ)) → IsBareSite m → Tells fields told
    → Tells (part_text p m fields) (told_by p told)
tells_part (part.Label ansi) m fields told site h =
    tells_then (bold_name ansi m ++ braced fields) (codes ":") told
    (tells_more (bold_name ansi m) (braced fields) told (name_in_style ansi m site) (tells_braced fields told h)) refl
tells_part (part.Name ansi) m fields told site h =
    tells_bare (bold_name ansi m ++ codes ":") (has_none (bold_name ansi m) (codes ":") (name_in_style ansi m site) refl)
tells_part part.Fields m fields told site h = h
tells_part (part.Place ansi) m fields told site h =
    tells_more (codes "    in " ++ dim_target ansi m ++ codes "::") (place_text ansi m fields) told
    (has_none (codes "    in " ++ dim_target ansi m) (codes "::") (has_none (codes "    in ") (dim_target ansi m) refl (target_bare ansi m site)) refl)
    (tells_place ansi m fields told site h)
tells_part (part.BarePlace ansi) m fields told site h =
    tells_more (codes "    in ") (place_text ansi m fields) told refl (tells_place ansi m fields told site h)

tells_found : (p : Part) (fields : List ℕ) (told : List (List ℕ)) (found : Option SeenSpan) → IfSome found (λ s. IsBareSite s.metadata) → Tells fields told
    → Tells (option_map_or (λ s. part_text p s.metadata fields) found []) (option_map_or (λ s. told_by p told) found [])
tells_found p fields told None site h = tells_nothing
tells_found p fields told (Some s) site h = tells_part p s.metadata fields told site h

tells_seen : (p : Part) (how : Layout) (e : Event) (v : View) (given : SpanValues) → IsBareEvent e v given → (x : ℕ)
    → Tells (seen_part p v (λ x. fields_text how (given x)) x) (option_map_or (λ s. told_by p (texts_in (given x))) (get v.spans x) [])
tells_seen p how e v given is x =
    tells_found p (fields_text how (given x)) (texts_in (given x)) (get v.spans x) (is.spans x) (tells_fields how (given x) (is.values x))

tells_names : (ansi : Bool) (how : Layout) (e : Event) (v : View) (given : SpanValues) → IsBareEvent e v given → (xs : List ℕ)
    → Tells (flat_map (seen_part (part.Name ansi) v (λ (x : ℕ). fields_text how (given x))) xs) []
tells_names ansi how e v given is [] = tells_nothing
tells_names ansi how e v given is (x ∷ xs) =
    tells_both (seen_part (part.Name ansi) v (λ (x : ℕ). fields_text how (given x)) x)
    (flat_map (seen_part (part.Name ansi) v (λ (x : ℕ). fields_text how (given x))) xs) [] []
    (one (get v.spans x) (is.spans x)) (tells_names ansi how e v given is xs)
  where
    one : (found : Option SeenSpan) → IfSome found (λ s. IsBareSite s.metadata)
        → Tells (option_map_or (λ s. part_text (part.Name ansi) s.metadata (fields_text how (given x))) found []) []
    one None site = tells_nothing
    one (Some s) site = tells_part (part.Name ansi) s.metadata (fields_text how (given x)) (texts_in (given x)) site (tells_fields how (given x) (is.values x))

tells_all : (p : Part) (how : Layout) (e : Event) (v : View) (given : SpanValues) → IsBareEvent e v given → (xs : List ℕ)
    → Tells (flat_map (seen_part p v (λ (x : ℕ). fields_text how (given x))) xs)
    (flat_map (λ (x : ℕ). option_map_or (λ s. told_by p (texts_in (given x))) (get v.spans x) []) xs)
tells_all p how e v given is xs =
    tells_any (seen_part p v (λ (x : ℕ). fields_text how (given x))) (λ (x : ℕ). option_map_or (λ s. told_by p (texts_in (given x))) (get v.spans x) [])
    (tells_seen p how e v given is) xs

tells_places : (target ansi : Bool) (how : Layout) (e : Event) (v : View) (given : SpanValues) → IsBareEvent e v given
    → Tells (outwards (if target then part.Place ansi else part.BarePlace ansi) e v (λ (x : ℕ). fields_text how (given x))) (texts_outwards e v given)
tells_places true ansi how e v given is = tells_all (part.Place ansi) how e v given is (spans_round e v)
tells_places false ansi how e v given is = tells_all (part.BarePlace ansi) how e v given is (spans_round e v)

-- ---- lines

tells_silent : (a b : List ℕ) (told : List (List ℕ)) → Tells a told → Tells b [] → Tells (a ++ b) told
tells_silent a b told p q rest = ap (between Outside) (append_assoc a b rest) ∙ p (b ++ rest) ∙ ap (λ x. quoted_one_by_one told ++ x) (q rest)

tells_full : (look : Looks) (e : Event) (v : View) (given : SpanValues) → IsBareEvent e v given
    → Tells (full_line look e v (λ (x : ℕ). fields_text look.layout (given x))) (told_in layout.Full look e v given)
tells_full look e v given is =
    let m = event_metadata e in
    let values = event_values e in
    let begun = begun_text look v.lane (level_of m) in
    let spans = spaced (from_root (part.Label look.ansi) e v (λ (x : ℕ). fields_text look.layout (given x))) in
    let target = target_text look m in
    let said = words_text look.layout m values in
    let lane = lane_texts look v.lane in
    let root = texts_from_root e v given in
    tells_then (begun ++ spans ++ target ++ said) (codes "\n") (lane ++ root ++ texts_in values)
    (tells_both (begun ++ spans ++ target) said (lane ++ root) (texts_in values)
    (tells_then (begun ++ spans) target (lane ++ root)
    (tells_both begun spans lane root (tells_begun look v.lane (level_of m))
    (tells_spaced (from_root (part.Label look.ansi) e v (λ (x : ℕ). fields_text look.layout (given x))) root
    (tells_all (part.Label look.ansi) look.layout e v given is (reverse (spans_round e v)))))
    (shown_target look m is.site))
    (tells_words look.layout m values is.site is.fields)) refl

tells_compact : (look : Looks) (e : Event) (v : View) (given : SpanValues) → IsBareEvent e v given
    → Tells (compact_line look e v (λ (x : ℕ). fields_text look.layout (given x))) (told_in layout.Compact look e v given)
tells_compact look e v given is =
    let m = event_metadata e in
    let values = event_values e in
    let begun = begun_text look v.lane (level_of m) in
    let names = from_root (part.Name look.ansi) e v (λ (x : ℕ). fields_text look.layout (given x)) in
    let fields = from_root part.Fields e v (λ (x : ℕ). fields_text look.layout (given x)) in
    let target = target_text look m in
    let said = words_text look.layout m values in
    let lane = lane_texts look v.lane in
    let root = texts_from_root e v given in
    tells_then (begun ++ spaced names ++ target ++ said ++ fields) (codes "\n") (lane ++ texts_in values ++ root)
    (tells_both (begun ++ spaced names ++ target ++ said) fields (lane ++ texts_in values) root
    (tells_both (begun ++ spaced names ++ target) said lane (texts_in values)
    (tells_then (begun ++ spaced names) target lane
    (tells_silent begun (spaced names) lane (tells_begun look v.lane (level_of m))
    (tells_spaced names [] (tells_names look.ansi look.layout e v given is (reverse (spans_round e v)))))
    (shown_target look m is.site))
    (tells_words look.layout m values is.site is.fields))
    (tells_all part.Fields look.layout e v given is (reverse (spans_round e v)))) refl

tells_place_line : (target lane : List ℕ) (told : List (List ℕ)) → has_quote target ≡ false → Tells lane told
    → Tells (codes "   " ++ target ++ lane ++ codes "\n") told
tells_place_line target lane told e h =
    tells_then (codes "   " ++ target ++ lane) (codes "\n") told
    (tells_more (codes "   " ++ target) lane told (has_none (codes "   ") target refl e) h) refl

tells_at : (target lanes : Bool) (dim name : List ℕ) (lane : ℕ) → has_quote dim ≡ false
    → Tells (if target || lanes then codes "   " ++ (if target then codes " at " ++ dim else [])
    ++ (if lanes then codes " on " ++ name_or_number name lane else []) ++ codes "\n" else [])
    (if lanes then name_told name else [])
tells_at false false dim name lane e = tells_nothing
tells_at true lanes dim name lane e =
    tells_place_line (codes " at " ++ dim) (if lanes then codes " on " ++ name_or_number name lane else []) (if lanes then name_told name else [])
    (has_none (codes " at ") dim refl e)
    (tells_shown lanes (codes " on " ++ name_or_number name lane) (name_told name)
    (tells_more (codes " on ") (name_or_number name lane) (name_told name) refl (tells_name name lane)))
tells_at false true dim name lane e =
    tells_place_line [] (codes " on " ++ name_or_number name lane) (name_told name) refl
    (tells_more (codes " on ") (name_or_number name lane) (name_told name) refl (tells_name name lane))

tells_pretty : (look : Looks) (e : Event) (v : View) (given : SpanValues) → IsBareEvent e v given
    → Tells (pretty_line look e v (λ (x : ℕ). fields_text look.layout (given x))) (told_in layout.Pretty look e v given)
tells_pretty look e v given is =
    let m = event_metadata e in
    let values = event_values e in
    let column = level_column look (level_of m) in
    let said = words_text look.layout m values in
    let at = at_text look v.lane m in
    let spans = outwards (place_part look) e v (λ (x : ℕ). fields_text look.layout (given x)) in
    let lane = lane_texts look v.lane in
    let round = texts_outwards e v given in
    tells_then (column ++ said ++ codes "\n" ++ at ++ spans) (codes "\n") (texts_in values ++ lane ++ round)
    (tells_both (column ++ said ++ codes "\n" ++ at) spans (texts_in values ++ lane) round
    (tells_both (column ++ said ++ codes "\n") at (texts_in values) lane
    (tells_then (column ++ said) (codes "\n") (texts_in values)
    (tells_more column said (texts_in values) (column_bare look (level_of m)) (tells_words look.layout m values is.site is.fields)) refl)
    (tells_at look.target look.lanes (dim_target look.ansi m) (look.names v.lane) v.lane (target_bare look.ansi m is.site)))
    (tells_places look.target look.ansi look.layout e v given is)) refl

tells_in : (shape : Layout) (look : Looks) (e : Event) (v : View) (given : SpanValues) → IsBareEvent e v given
    → Tells (line_in shape look e v (λ (x : ℕ). fields_text look.layout (given x))) (told_in shape look e v given)
tells_in layout.Full look e v given is = tells_full look e v given is
tells_in layout.Compact look e v given is = tells_compact look e v given is
tells_in layout.Pretty look e v given is = tells_pretty look e v given is

pub formats_tell : FormatsTellTheirTexts
formats_tell = record {
  told = λ look e v given is. told_between (line_of look e v given) (texts_told look e v given) (tells_in look.layout look e v given is);
  same = λ look other e f v w given others is are u x same. same_texts (texts_told look e v given) (texts_told other f w others) u x
      (sym (told_between (line_of look e v given) (texts_told look e v given) (tells_in look.layout look e v given is)) ∙ ap (between Outside) same
      ∙ told_between (line_of other f w others) (texts_told other f w others) (tells_in other.layout other f w others are));
}
