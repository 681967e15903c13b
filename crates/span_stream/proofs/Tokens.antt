-- JSON that is made inert reads as it did, and is inert.
use Rattle.std.proofs.Common.{◌≡◌, ℕ, Bool, true, false, cond, ◌&&◌, ◌||◌, List, [], ◌∷◌, ◌++◌, Option, Some, None, option_and_then, refl, sym, ap, ap₂, ◌∙◌}
use Rattle.std.proofs.Common.{subst, arith, append_assoc, flat_map, IsUtf8}
use Rattle.std.proofs.lemmas.Bool.{and_parts}
use Rattle.std.proofs.lemmas.List.{append-nil}
use Rattle.std.proofs.lemmas.List.Folds.{list_any-append}
use Rattle.std.proofs.lemmas.Str.{chars-encodes, scalars-chars}
use Rattle.std.specs.List.{list_all, list_any}
use Rattle.std.specs.Prelude.{⊤, if◌then◌else◌}
use Rattle.std.specs.Str.{chars}
use lib.Utf8.{low_scalar, scalar, scalars}
use Rattle.json.specs.Json.{Json, if_last, value}
use Rattle.json.specs.Lex.{colon, comma, token, string_token, lex, between, fresh, punctuate, tokens}
use Rattle.json.specs.Print.{escape, token_text, begins, ends, separator, print_from, print, IsPrintable, ArePrintable}
use Rattle.json.specs.Text.{content, plain}
use Rattle.json.specs.Token.{Token, begin_object, end_object, begin_array, end_array, key, string, number, boolean, null, bad}
use Rattle.json.specs.Tree.{json_tokens}
use Rattle.json.specs.Word.{ends_word, word}
use Rattle.json.proofs.Numbered.{ArePrintableOrBad-tokens, value-HasNumbers}
use Rattle.json.proofs.Printed.Numbers.{in_word-ended, lex-number}
use Rattle.json.proofs.Printed.Strings.{content-escape, lex-escape}
use Rattle.json.proofs.Printed.Trees.{ArePrintable-json_tokens}
use Rattle.json.proofs.Unique.Spelling.{value-json_tokens_back}
use Rattle.serde_json.specs.Data.{Data}
use Rattle.serde_json.specs.Read.{max_depth, of_json, read}
use Rattle.serde_json.specs.Written.{IsInOrder}
use Rattle.span_stream.proofs.Characters.{escape_printable, inert-append, inert_behind, inert_nothing, is_printable, none_acts, printable_low, spells_string}
use Rattle.span_stream.proofs.Characters.{utf8_before, utf8_behind}
use Rattle.span_stream.proofs.Numbers.{number_printable}
use Rattle.span_stream.proofs.Spelling.{Spells}
use Rattle.span_stream.specs.Inert.{IsInert, inert, inertly, may_act, unicode_escape}

-- ---- the text of tokens, made inert

abbrev inert_token : Token → List ℕ
inert_token begin_object = token_text begin_object
inert_token end_object = token_text end_object
inert_token begin_array = token_text begin_array
inert_token end_array = token_text end_array
inert_token (key s) = (34 ∷ (inert (escape s) ++ 34 ∷ [])) ++ 58 ∷ []
inert_token (string s) = 34 ∷ (inert (escape s) ++ 34 ∷ [])
inert_token (number s) = s
inert_token (boolean b) = token_text (boolean b)
inert_token null = token_text null
inert_token bad = []

abbrev inert_print : Bool → List Token → List ℕ
inert_print c [] = []
inert_print c (t ∷ ts) = separator c t ++ (inert_token t ++ inert_print (ends t) ts)

-- the strings among tokens are read as they were
abbrev IsTame : Token → Type 0
IsTame begin_object = ⊤
IsTame end_object = ⊤
IsTame begin_array = ⊤
IsTame end_array = ⊤
IsTame (key s) = Spells (inert (escape s)) s
IsTame (string s) = Spells (inert (escape s)) s
IsTame (number s) = ⊤
IsTame (boolean b) = ⊤
IsTame null = ⊤
IsTame bad = ⊤

abbrev AreTame : List Token → Type 0
AreTame [] = ⊤
AreTame (t ∷ ts) = IsTame t × AreTame ts

string_apart : (s r : List ℕ) → (34 ∷ (s ++ 34 ∷ [])) ++ r ≡ 34 ∷ (s ++ 34 ∷ r)
string_apart s r = ap (λ l. 34 ∷ l) (append_assoc s (34 ∷ []) r)

key_apart : (s r : List ℕ) → ((34 ∷ (s ++ 34 ∷ [])) ++ 58 ∷ []) ++ r ≡ 34 ∷ (s ++ 34 ∷ 58 ∷ r)
key_apart s r = ap (λ l. 34 ∷ l) (append_assoc (s ++ 34 ∷ []) (58 ∷ []) r ∙ append_assoc s (34 ∷ []) (58 ∷ r))

-- ---- where the text of tokens is cut

record Cut (t : Token) (rest : List ℕ) : Type 0 where
  apart : inert (token_text t ++ rest) ≡ inert_token t ++ inert rest
  behind : IsUtf8 rest
  tame : IsTame t

cut_string : (s rest : List ℕ) → IsUtf8 (34 ∷ (escape s ++ 34 ∷ rest))
    → (inert (34 ∷ (escape s ++ 34 ∷ rest)) ≡ 34 ∷ (inert (escape s) ++ 34 ∷ inert rest)) × IsUtf8 rest × Spells (inert (escape s)) s
cut_string s rest u =
    let two = utf8_before (escape s) rest 34 (omega arith) (utf8_behind (34 ∷ []) (escape s ++ 34 ∷ rest) refl u) in (
      inert_behind (34 ∷ []) (escape s ++ 34 ∷ rest) refl
          ∙ ap (λ l. 34 ∷ l) (inert-append (escape s) (34 ∷ rest) two.0 ∙ ap (λ l. inert (escape s) ++ l) (inert_behind (34 ∷ []) rest refl)),
      utf8_behind (34 ∷ []) rest refl two.1,
      spells_string s two.0,
    )

boolean_printable : (b : Bool) → list_all is_printable (token_text (boolean b)) ≡ true
boolean_printable true = refl
boolean_printable false = refl

cut : (t : Token) (rest : List ℕ) → IsPrintable t → IsUtf8 (token_text t ++ rest) → Cut t rest
cut begin_object rest h u = record { apart = inert_behind (123 ∷ []) rest refl; behind = utf8_behind (123 ∷ []) rest refl u; tame = tt }
cut end_object rest h u = record { apart = inert_behind (125 ∷ []) rest refl; behind = utf8_behind (125 ∷ []) rest refl u; tame = tt }
cut begin_array rest h u = record { apart = inert_behind (91 ∷ []) rest refl; behind = utf8_behind (91 ∷ []) rest refl u; tame = tt }
cut end_array rest h u = record { apart = inert_behind (93 ∷ []) rest refl; behind = utf8_behind (93 ∷ []) rest refl u; tame = tt }
cut (key s) rest h u =
    let all = cut_string s (58 ∷ rest) (subst IsUtf8 (key_apart (escape s) rest) u) in
    record {
      apart = ap inert (key_apart (escape s) rest) ∙ all.0 ∙ ap (λ l. 34 ∷ (inert (escape s) ++ 34 ∷ l)) (inert_behind (58 ∷ []) rest refl)
          ∙ sym (key_apart (inert (escape s)) (inert rest));
      behind = utf8_behind (58 ∷ []) rest refl all.1;
      tame = all.2;
    }
cut (string s) rest h u =
    let all = cut_string s rest (subst IsUtf8 (string_apart (escape s) rest) u) in
    record {
      apart = ap inert (string_apart (escape s) rest) ∙ all.0 ∙ sym (string_apart (inert (escape s)) (inert rest));
      behind = all.1;
      tame = all.2;
    }
cut (number s) rest h u =
    let printed = number_printable s h in
    record { apart = inert_behind s rest printed; behind = utf8_behind s rest printed u; tame = tt }
cut (boolean b) rest h u =
    let w = token_text (boolean b) in
    let printed = boolean_printable b in
    record { apart = inert_behind w rest printed; behind = utf8_behind w rest printed u; tame = tt }
cut null rest h u =
    let w = token_text null in
    record { apart = inert_behind w rest refl; behind = utf8_behind w rest refl u; tame = tt }
cut bad rest h u = absurd h

separator_printable : (b : Bool) → list_all is_printable (cond b (44 ∷ []) []) ≡ true
separator_printable true = refl
separator_printable false = refl

inert_prints : (c : Bool) (ts : List Token) → ArePrintable ts → IsUtf8 (print_from c ts) → (inert (print_from c ts) ≡ inert_print c ts) × AreTame ts
unfolding print_from ArePrintable
inert_prints c [] h u = (inert_nothing, tt)
inert_prints c (t ∷ ts) h u =
    let comma = separator c t in
    let rest = print_from (ends t) ts in
    let printed = separator_printable (c && begins t) in
    let here = cut t rest h.0 (utf8_behind comma (token_text t ++ rest) printed u) in
    let more = inert_prints (ends t) ts h.1 here.behind in (
      inert_behind comma (token_text t ++ rest) printed ∙ ap (λ l. comma ++ l) (here.apart ∙ ap (λ l. inert_token t ++ l) more.0),
      (here.tame, more.1),
    )

-- ---- it is lexed as it was

lex_inert : (s r : List ℕ) → Spells (inert (escape s)) s → lex between (34 ∷ (inert (escape s) ++ 34 ∷ r)) ≡ token (string s) ∷ lex between r
unfolding lex content
lex_inert s r spelled =
    let whole : content plain (inert (escape s) ++ 34 ∷ r) ≡ Some s = spelled.read (34 ∷ r) ∙ ap Some (append-nil s) in
    ap₂ (λ o l. token (string_token o) ∷ l) whole (spelled.lexed (34 ∷ r))

lex_string : (s r : List ℕ) → lex between (34 ∷ (escape s ++ 34 ∷ r)) ≡ token (string s) ∷ lex between r
unfolding lex
lex_string s r = ap₂ (λ o l. token (string_token o) ∷ l) (content-escape s r) (lex-escape s r)

lex_boolean : (b : Bool) (r : List ℕ) → ends_word r ≡ true → lex between (token_text (boolean b) ++ r) ≡ token (boolean b) ∷ lex between r
unfolding lex word
lex_boolean true r ended = ap₂ (λ b l. token (cond b (boolean true) bad) ∷ l) ended (in_word-ended r ended)
lex_boolean false r ended = ap₂ (λ b l. token (cond b (boolean false) bad) ∷ l) ended (in_word-ended r ended)

lex_null : (r : List ℕ) → ends_word r ≡ true → lex between (token_text null ++ r) ≡ token null ∷ lex between r
unfolding lex word
lex_null r ended = ap₂ (λ b l. token (cond b null bad) ∷ l) ended (in_word-ended r ended)

lex_colon : (r : List ℕ) → lex between (58 ∷ r) ≡ colon ∷ lex between r
unfolding lex
lex_colon r = refl

same_token : (t : Token) (r v : List ℕ) → IsPrintable t → IsTame t → (ends t ≡ true → ends_word r ≡ true) → (ends t ≡ true → ends_word v ≡ true)
    → lex between r ≡ lex between v → lex between (inert_token t ++ r) ≡ lex between (token_text t ++ v)
unfolding lex
same_token begin_object r v h a p q e = ap (λ l. token begin_object ∷ l) e
same_token end_object r v h a p q e = ap (λ l. token end_object ∷ l) e
same_token begin_array r v h a p q e = ap (λ l. token begin_array ∷ l) e
same_token end_array r v h a p q e = ap (λ l. token end_array ∷ l) e
same_token (key s) r v h a p q e =
    ap (lex between) (key_apart (inert (escape s)) r) ∙ lex_inert s (58 ∷ r) a
    ∙ ap (λ l. token (string s) ∷ l) (lex_colon r ∙ ap (λ l. colon ∷ l) e ∙ sym (lex_colon v))
    ∙ sym (ap (lex between) (key_apart (escape s) v) ∙ lex_string s (58 ∷ v))
same_token (string s) r v h a p q e =
    ap (lex between) (string_apart (inert (escape s)) r) ∙ lex_inert s r a ∙ ap (λ l. token (string s) ∷ l) e
    ∙ sym (ap (lex between) (string_apart (escape s) v) ∙ lex_string s v)
same_token (number s) r v h a p q e = lex-number s r h (p refl) ∙ ap (λ l. token (number s) ∷ l) e ∙ sym (lex-number s v h (q refl))
same_token (boolean b) r v h a p q e = lex_boolean b r (p refl) ∙ ap (λ l. token (boolean b) ∷ l) e ∙ sym (lex_boolean b v (q refl))
same_token null r v h a p q e = lex_null r (p refl) ∙ ap (λ l. token null ∷ l) e ∙ sym (lex_null v (q refl))
same_token bad r v h a p q e = absurd h

-- behind a value stands a comma, a closing bracket or nothing
inert_ends : (ts : List Token) → ends_word (inert_print true ts) ≡ true
inert_ends [] = refl
inert_ends (begin_object ∷ ts) = refl
inert_ends (end_object ∷ ts) = refl
inert_ends (begin_array ∷ ts) = refl
inert_ends (end_array ∷ ts) = refl
inert_ends (key s ∷ ts) = refl
inert_ends (string s ∷ ts) = refl
inert_ends (number s ∷ ts) = refl
inert_ends (boolean b ∷ ts) = refl
inert_ends (null ∷ ts) = refl
inert_ends (bad ∷ ts) = refl

print_ends : (ts : List Token) → ends_word (print_from true ts) ≡ true
unfolding print_from
print_ends [] = refl
print_ends (begin_object ∷ ts) = refl
print_ends (end_object ∷ ts) = refl
print_ends (begin_array ∷ ts) = refl
print_ends (end_array ∷ ts) = refl
print_ends (key s ∷ ts) = refl
print_ends (string s ∷ ts) = refl
print_ends (number s ∷ ts) = refl
print_ends (boolean b ∷ ts) = refl
print_ends (null ∷ ts) = refl
print_ends (bad ∷ ts) = refl

same_separator : (b : Bool) (r v : List ℕ) → lex between r ≡ lex between v → lex between (cond b (44 ∷ []) [] ++ r) ≡ lex between (cond b (44 ∷ []) [] ++ v)
unfolding lex
same_separator true r v e = ap (λ l. comma ∷ l) e
same_separator false r v e = e

same_print : (c : Bool) (ts : List Token) → ArePrintable ts → AreTame ts → lex between (inert_print c ts) ≡ lex between (print_from c ts)
unfolding print_from ArePrintable
same_print c [] h a = refl
same_print c (t ∷ ts) h a =
    let r = inert_print (ends t) ts in
    let v = print_from (ends t) ts in
    same_separator (c && begins t) (inert_token t ++ r) (token_text t ++ v)
    (same_token t r v h.0 a.0 (λ e. ap (λ b. ends_word (inert_print b ts)) e ∙ inert_ends ts) (λ e. ap (λ b. ends_word (print_from b ts)) e ∙ print_ends ts)
    (same_print (ends t) ts h.1 a.1))

tokens_inert : (text : List ℕ) → IsUtf8 text → text ≡ print (tokens text) → ArePrintable (tokens text) → tokens (inert text) ≡ tokens text
tokens_inert text u compact h =
    let both = inert_prints false (tokens text) h (subst IsUtf8 compact u) in
    ap tokens (ap inert compact ∙ both.0) ∙ ap (punctuate fresh) (same_print false (tokens text) h both.1) ∙ ap tokens (sym compact)

-- ---- what reads as a value can be printed

abbrev Found : Data → Option (Json × List Token) → Type 0
Found d o = option_and_then of_json (option_and_then (λ p. if_last p.0 p.1) o) ≡ Some d

of_value : (text : List ℕ) (d : Data) (o : Option (Json × List Token)) → value max_depth (tokens text) ≡ o → Found d o → ArePrintable (tokens text)
of_value text d None e found = absurd (cc)
of_value text d (Some (j, [])) e found =
    subst ArePrintable (sym (value-json_tokens_back max_depth (tokens text) [] j e ∙ append-nil (json_tokens j)))
    (ArePrintable-json_tokens j (value-HasNumbers max_depth (tokens text) [] j (ArePrintableOrBad-tokens text) e))
of_value text d (Some (j, t ∷ r)) e found = absurd (cc)

abbrev read_tokens : List Token → Option Data
read_tokens ts = option_and_then of_json (option_and_then (λ p. if_last p.0 p.1) (value max_depth ts))

-- JSON that is made inert has the tokens, and so the value and the order, that it had
pub inert_means : (text : List ℕ) (d : Data) → IsUtf8 text → text ≡ print (tokens text) → read text ≡ Some d → IsInOrder text d
    → (read (inert text) ≡ Some d) × IsInOrder (inert text) d × (inert text ≡ inert (print (tokens (inert text))))
inert_means text d u compact is order =
    let same = tokens_inert text u compact (of_value text d (value max_depth (tokens text)) refl is) in
    (ap read_tokens same ∙ is, (order.0, same ∙ order.1, order.2), ap inert (compact ∙ ap print (sym same)))

-- ---- it is inert

scalars_both : (a b : List ℕ) → scalars a ≡ true → scalars b ≡ true → scalars (a ++ b) ≡ true
scalars_both [] b p q = q
scalars_both (x ∷ a) b p q =
    let two = and_parts (scalar x) (scalars a) p in
    ap (λ t. t && scalars (a ++ b)) two.0 ∙ scalars_both a b two.1 q

printable_scalars : (w : List ℕ) → list_all is_printable w ≡ true → scalars w ≡ true
printable_scalars [] e = refl
printable_scalars (x ∷ w) e =
    let two = and_parts (is_printable x) (list_all is_printable w) e in
    let low = printable_low x two.0 in
    ap (λ t. t && scalars w) (low_scalar x (omega arith)) ∙ printable_scalars w two.1

abbrev IsHarmless : List ℕ → Type 0
IsHarmless cs = (scalars cs ≡ true) × (list_any may_act cs ≡ false)

one_by : (c : ℕ) (b : Bool) → may_act c ≡ b → scalar c ≡ true → IsHarmless (if b then unicode_escape c else c ∷ [])
one_by c true e ok = (printable_scalars (unicode_escape c) (escape_printable c), none_acts (unicode_escape c) (escape_printable c))
one_by c false e ok = (ap (λ t. t && true) ok, ap (λ t. t || false) e)

all_harmless : (cs : List ℕ) → scalars cs ≡ true → IsHarmless (flat_map inertly cs)
all_harmless [] ok = (refl, refl)
all_harmless (c ∷ cs) ok =
    let two = and_parts (scalar c) (scalars cs) ok in
    let one = one_by c (may_act c) refl two.0 in
    let more = all_harmless cs two.1 in (
      scalars_both (inertly c) (flat_map inertly cs) one.0 more.0,
      list_any-append may_act (inertly c) (flat_map inertly cs) ∙ (λ i. one.1 i || more.1 i),
    )

pub inert_is : (text : List ℕ) → IsUtf8 text → IsInert (inert text)
inert_is text u =
    let all = all_harmless (chars text) (scalars-chars text u) in
    ap (list_any may_act) (chars-encodes (flat_map inertly (chars text)) all.0) ∙ all.1
