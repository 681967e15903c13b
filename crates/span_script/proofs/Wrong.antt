-- Which line of a script is the first that is wrong.
use Rattle.std.proofs.Common.{◌≡◌, ℕ, ◌+◌, ◌<◌, ◌≤◌, List, [], ◌∷◌, length, get_or, take, map, Option, Some, None, Result, Err, IfErr, IfSome, refl, sym, ap}
use Rattle.std.proofs.Common.{◌∙◌, inl, inr, subst}
use Rattle.std.proofs.lemmas.List.{take-map, take_all}
use Rattle.std.proofs.lemmas.Option.{slice_get-map, slice_get-get_or}
use Rattle.std.specs.Prelude.{IsSomeAnd, false, not, ◌==◌, filter, ok_or, option_map, slice_get}
use Rattle.std.specs.Borrow.{Bor}
use Rattle.span_script.specs.Script.{cut, is_full, lines_of, read_in, requests_of, words_in, words_of, words_of_texts, AskFor, IsFirst, IsLater, IsLine}
use Rattle.span_script.specs.Script.{IsScript}
use Rattle.span_script.specs.Misfit.{column_of, IsMisfit}
use Rattle.span_script.specs.Reason.{first_reason, IsFirstMisfit, IsLineFaultIn, IsMisfitAt}
use Rattle.span_script.specs.Fault.{Blames, IsLineFaultAt, IsScriptFault, IsWrongFor}
use Rattle.span_script.specs.declared.fault.ScriptFault.{ScriptFault}
use Rattle.span_script.specs.declared.fault.ScriptFault.TheVariants.{Memory, Wrong}
use Rattle.span_dispatch.specs.declared.request.Request.{Request}
use Rattle.span_script.specs.declared.line.Line.{Line}
use Rattle.span_script.specs.declared.misfit.Misfit.{Misfit}
use Rattle.span_script.specs.declared.reason.Reason.{Reason}
use Rattle.span_script.specs.declared.reason.Reason.TheVariants.{NoStack}
use Rattle.span_script.specs.declared.script.Script.{Script}
use Rattle.span_script.proofs.Misfits.{misfit-wrong}

-- a script's lines ask for requests
asked-of : (script : Option Script) → IfSome script IsScript → IfSome (read_in script) (λ read. (requests : List Request) × AskFor read.1 requests)
asked-of None is = tt
asked-of (Some s) is = (requests_of s, is.asked)

-- the text at a place is wrong after the ones before it
pub fault-at : (text : List ℕ) (texts : List (Bor (List ℕ))) (place : ℕ) (d : Bor (List ℕ)) (script : Option Script) (f : ScriptFault)
    → map (λ t. t.now) texts ≡ cut 10 text → place < length texts → IfSome script IsScript
    → words_in (read_in script) ≡ words_of_texts (map (λ t. t.now) (take place texts))
    → Blames (place + 1) (IsWrongFor (read_in script) (get_or texts place d).now) f
    → IsScriptFault text f
fault-at text texts place d script Memory cuts within is spelled w = tt
fault-at text texts place d script (Wrong f) cuts within is spelled w = inr (
  place,
  (
    w.0,
    record {
      before = read_in script;
      asked = asked-of script is;
      spelled = spelled ∙ ap (λ ts. words_of_texts ts) (sym (take-map (λ t. t.now) place texts) ∙ ap (λ ts. take place ts) cuts);
      wrong = subst (λ o. IsSomeAnd o (λ text. IsWrongFor (read_in script) text f.column f.reason)) here w.1;
    },
  ),
)
  where
    here : Some (get_or texts place d).now ≡ slice_get (cut 10 text) place
    here = sym (ap (λ xs. slice_get xs place) (sym cuts)
        ∙ slice_get-map (λ t. t.now) texts place ∙ ap (λ o. option_map (λ t. t.now) o) (slice_get-get_or texts place d within))

nil-of-map : {X Y : Type 0} (f : X → Y) (xs : List X) → [] ≡ map f xs → xs ≡ []
nil-of-map f [] e = refl
nil-of-map f (x ∷ xs) e = cc

-- no text is a first line
pub no-line : (text : List ℕ) (texts : List (Bor (List ℕ))) (place : ℕ) (script : Option Script) (w : ScriptFault) (r : Result Script ScriptFault)
    → w ≡ Wrong (record { line = 1; column = 1; reason = NoStack }) → r ≡ ok_or script w → map (λ t. t.now) texts ≡ cut 10 text → length texts ≤ place
    → words_in (read_in script) ≡ words_of_texts (map (λ t. t.now) (take place texts))
    → IfErr r (IsScriptFault text)
no-line text texts place None w r is e cuts end spelled = subst (λ r. IfErr r (IsScriptFault text)) (sym (e ∙ ap (λ w. Err w) is)) (inl (
  refl,
  refl,
  refl,
  nil-of-map (cut 32) (filter is_full (cut 10 text))
      (spelled ∙ ap (λ ts. words_of_texts ts) (ap (λ ts. map (λ t. t.now) ts) all ∙ cuts)),
))
  where
    all : take place texts ≡ texts
    all = take_all place texts end
no-line text texts place (Some s) w r is e cuts end spelled = subst (λ r. IfErr r (IsScriptFault text)) (sym e) tt

-- a line that is not empty, and whose words are no first line
pub first-blamed : (n : ℕ) (script : Option Script) (text : List ℕ) (words : List (List ℕ)) (m : Misfit) (column : ℕ) (reason : Reason) (f : ScriptFault)
    → script ≡ None → (length text == 0) ≡ false → words ≡ cut 32 text
    → IsMisfit IsFirst words m → column ≡ column_of words m → reason ≡ first_reason column m.reason
    → f ≡ Wrong (record { line = n; column = column; reason = reason }) → Blames n (IsWrongFor (read_in script) text) f
first-blamed n script text words m column reason f none full cuts misfit columns named is =
    subst (λ f. Blames n (IsWrongFor (read_in script) text) f) (sym is) (subst (λ s. (n ≡ n) × IsWrongFor (read_in s) text column reason) (sym none) (
      refl,
      (
        (ap (λ b. not b) full, subst (λ ws. ¬ (IsFirst ws)) cuts (misfit-wrong IsFirst words m misfit)),
        subst (λ ws. IsFirstMisfit ws column reason) cuts (m.reason, (m, misfit, columns, refl), named),
      ),
    ))

-- one whose words are no later line
pub later-blamed : (n : ℕ) (script : Option Script) (s : Script) (text : List ℕ) (words : List (List ℕ)) (m : Misfit) (column : ℕ) (f : ScriptFault)
    → script ≡ Some s → (length text == 0) ≡ false → words ≡ cut 32 text
    → IsMisfit IsLater words m → column ≡ column_of words m
    → f ≡ Wrong (record { line = n; column = column; reason = m.reason }) → Blames n (IsWrongFor (read_in script) text) f
later-blamed n script s text words m column f some full cuts misfit columns is =
    subst (λ f. Blames n (IsWrongFor (read_in script) text) f) (sym is) (subst (λ s. (n ≡ n) × IsWrongFor (read_in s) text column m.reason) (sym some) (
      refl,
      (
        (ap (λ b. not b) full, inl (subst (λ ws. ¬ (IsLater ws)) cuts (misfit-wrong IsLater words m misfit))),
        inl (subst (λ ws. IsMisfitAt IsLater ws column m.reason) cuts (m, misfit, columns, refl)),
      ),
    ))

-- one whose labels are wrong
pub label-blamed : (n : ℕ) (script : Option Script) (s : Script) (text : List ℕ) (words : List (List ℕ)) (l : Line) (f : ScriptFault)
    → script ≡ Some s → (length text == 0) ≡ false → words ≡ cut 32 text
    → words ≡ words_of l → IsLine l → Blames n (IsLineFaultAt (lines_of s) l words) f → Blames n (IsWrongFor (read_in script) text) f
label-blamed n script s text words l Memory some full cuts spelled is h = tt
label-blamed n script s text words l (Wrong w) some full cuts spelled is h =
    subst (λ s. (w.line ≡ n) × IsWrongFor (read_in s) text w.column w.reason) (sym some) (
      h.0,
      (
        (ap (λ b. not b) full, inr (l, (is, sym cuts ∙ spelled, h.1.0))),
        inr (l, (is, sym cuts ∙ spelled, subst (λ ws. IsLineFaultIn (lines_of s) l ws w.column w.reason) cuts h.1.1)),
      ),
    )
