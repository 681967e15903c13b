-- Which words are lines, by what is behind the first of them.
use Rattle.std.proofs.Common.{◌≡◌, ◌≢◌, ◌∙◌, ℕ, ◌+◌, ◌<◌, List, [], ◌∷◌, Option, Some, None, refl, sym, ap, subst, arith, inl, inr}
use Rattle.std.specs.Prelude.{⊤, IsTrue, ◌&&◌, ◌||◌, ◌==◌, bytes_eq, codes, false, length, not, true}
use Rattle.std.specs.Borrow.{Bor}
use Rattle.std.proofs.lemmas.Bool.{and_parts, eqb-true, false_from_ne_true, true≢false}
use Rattle.std.specs.List.{list_all}
use Rattle.std.proofs.lemmas.Slice.Eq.{bytes_eq-Decides}
use Rattle.std.specs.Option.{option_map_or}
use Rattle.span_core.specs.declared.level.Level.{Level}
use Rattle.span_core.specs.declared.level.LevelFilter.{LevelFilter}
use Rattle.span_core.specs.declared.level.Verbosity.{Verbosity}
use Rattle.span_core.specs.declared.level.Verbosity.TheVariants as verbosity
use Rattle.span_core.specs.declared.level.TheConstants.Level.{ERROR}
use Rattle.span_core.specs.declared.level.TheConstants.LevelFilter.{OFF}
use Rattle.span_core.specs.declared.metadata.Metadata.{Metadata}
use Rattle.span_core.specs.declared.metadata.TheConstants.Kind.{SPAN, EVENT}
use Rattle.span_core.specs.declared.span.Lane.{Lane}
use Rattle.span_script.specs.Misfit.{Begins, Expects, HasRight, IsMisfit}
use Rattle.span_script.specs.Script.{digit, has_return, is_label, is_letter_or_digit, is_return, is_text, lane_words, level_word, mute_words, parent_words}
use Rattle.span_script.specs.Script.{site_word, stack_word, tail_words, verbosity_word}
use Rattle.span_script.specs.Script.{word_of, words_of}
use Rattle.span_script.specs.Script.{first_words, IsAnySite, IsBehind, IsDigit, IsEventSite, IsFirst, IsLaneAndName, IsLater, IsLine, IsName, IsParentName}
use Rattle.span_script.specs.Script.{IsSpanSite, IsTail, Spells}
use Rattle.span_script.specs.declared.line.Line.{Line}
use Rattle.span_script.specs.declared.line.Line.TheVariants.{New, Event, Enter, Exit, Record, Follows, Clone, Drop, Enabled, Current, Level as LevelLine}
use Rattle.span_script.specs.declared.line.Line.TheVariants.{Targets}
use Rattle.span_script.specs.declared.line.MuteField.{MuteField}
use Rattle.span_script.specs.declared.line.MuteField.TheVariants.{Absent, Given}
use Rattle.span_script.specs.declared.line.Name.TheVariants.{Nobody, Label}
use Rattle.span_script.specs.declared.line.ParentName.{ParentName}
use Rattle.span_script.specs.declared.line.ParentName.TheVariants.{Contextual, Root, In}
use Rattle.span_script.specs.declared.misfit.Misfit.{Misfit}
use Rattle.span_script.specs.declared.reason.Reason.TheVariants.{UnknownWord, NotLabel}
use Rattle.span_script.specs.declared.stack_name.StackName.{StackName}
use Rattle.span_script.specs.declared.stack_name.StackName.TheVariants.{Plain}
use Rattle.span_script.proofs.Misfits.{end-many, has-end, has-then, misfit-to, then, then-first, then-on, End, IsSame, Kind, Rule, Then}

-- a text at no place
abbrev pub lend : List ℕ → Bor (List ℕ)
lend text = record { ref_ptr = (0, 0); now = text }

abbrev pub on-lane : ℕ → Lane
on-lane n = record { 0 = n }

-- texts that a test tells apart are two
differ : {a b : List ℕ} → a ≡ b → bytes_eq a b ≡ false → ⊥
differ {a = a} {b = b} e f = true≢false (sym ((bytes_eq-Decides a b).1 e) ∙ f)

-- what equal words begin with
head : {a b : List ℕ} {xs ys : List (List ℕ)} → a ∷ xs ≡ b ∷ ys → a ≡ b
head e = cc

other : {a b : List ℕ} {xs ys : List (List ℕ)} → a ∷ xs ≡ b ∷ ys → bytes_eq a b ≡ false → ⊥
other e f = differ (head e) f

-- and what is behind that
pub behind : {a b : List ℕ} {xs ys : List (List ℕ)} → a ∷ xs ≡ b ∷ ys → ys ≡ xs
behind e = cc

-- a label
abbrev pub IsLabel : List ℕ → Type 0
IsLabel label = IsTrue (is_label label)

-- Below: the kinds of words.

-- `a` is no digit
no-digit : (n : ℕ) → n < 10 → ¬ (codes "a" ≡ digit n)
no-digit n h e = let same : 97 ≡ 48 + n = cc in absurd (omega arith)

pub digit-kind : Kind IsDigit digit UnknownWord
digit-kind = record { of = 0; is = omega arith; wants = λ s. no-digit s.0 s.1 s.2 }

abbrev span-site : Metadata
span-site = record {
  callsite = 0;
  name = lend (codes "s0");
  target = lend (codes "script");
  level = ERROR;
  kind = SPAN;
  fields = record { names = record { ref_ptr = (0, 0); now = [] } };
}

abbrev event-site : Metadata
event-site = record {
  callsite = 5;
  name = lend (codes "s5");
  target = lend (codes "script");
  level = ERROR;
  kind = EVENT;
  fields = record { names = record { ref_ptr = (0, 0); now = lend (codes "mute") ∷ [] } };
}

is-span-site : IsSpanSite span-site
is-span-site = (omega arith, record { name = refl; target = refl; level = refl; kind = refl; fields = refl })

no-site : (site : Metadata) → IsAnySite site → ¬ (codes "a" ≡ site_word site)
no-site site (inl is) e = let low = is.0 in no-digit site.callsite (omega arith) e
no-site site (inr is) e = no-digit site.callsite is.1 e

pub span-kind : Kind IsSpanSite site_word UnknownWord
span-kind = record { of = span-site; is = is-span-site; wants = λ s. no-site s.0 (inl s.1) s.2 }

pub event-kind : Kind IsEventSite site_word UnknownWord
event-kind = record {
  of = event-site;
  is = (omega arith, omega arith, record { name = refl; target = refl; level = refl; kind = refl; fields = refl });
  wants = λ s. no-site s.0 (inr s.1) s.2;
}

pub site-kind : Kind IsAnySite site_word UnknownWord
site-kind = record { of = span-site; is = inl is-span-site; wants = λ s. no-site s.0 s.1 s.2 }

pub label-kind : Kind IsLabel (λ label. label) NotLabel
label-kind = record { of = codes "a"; is = refl; wants = λ label is. (label, is, refl) }

pub name-kind : Kind IsName word_of NotLabel
name-kind = record { of = Nobody; is = tt; wants = λ label is. (Label (lend label), is, refl) }

-- a text that directives may stand in
abbrev pub IsText : List ℕ → Type 0
IsText text = IsTrue (is_text text)

letter-no-return : (c : ℕ) → is_letter_or_digit c ≡ true → is_return c ≡ false
letter-no-return c h = false_from_ne_true (c == 13) (λ e. true≢false (sym h ∙ ap is_letter_or_digit (eqb-true c 13 e)))

letters-no-return : (word : List ℕ) → list_all is_letter_or_digit word ≡ true → has_return word ≡ false
letters-no-return [] h = refl
letters-no-return (c ∷ word) h =
    let parts = and_parts (is_letter_or_digit c) (list_all is_letter_or_digit word) h in
    ap (λ b. b || has_return word) (letter-no-return c parts.0) ∙ letters-no-return word parts.1

some-length : (c : ℕ) (word : List ℕ) → (length (c ∷ word) == 0) ≡ false
some-length c word =
    false_from_ne_true (length (c ∷ word) == 0) (λ e. let none : length (c ∷ word) ≡ 0 = eqb-true (length (c ∷ word)) 0 e in omega (arith, none))

-- each label is one
label-text : (label : List ℕ) → IsLabel label → IsText label
label-text [] is = absurd (true≢false (sym is))
label-text (c ∷ label) is =
    ap (λ b. not b && not (has_return (c ∷ label))) (some-length c label)
    ∙ ap (λ b. not false && not b) (letters-no-return (c ∷ label) (and_parts _ (list_all is_letter_or_digit (c ∷ label)) is).1)

pub text-kind : Kind IsText (λ text. text) NotLabel
text-kind = record { of = codes "a"; is = refl; wants = λ label is. (label, label-text label is, refl) }

no-level : (level : LevelFilter) → ¬ (codes "a" ≡ level_word level)
no-level level e = go level.0 e
  where
    go : (most : Option Level) → ¬ (codes "a" ≡ option_map_or (λ (m : Level). verbosity_word m.0) most (codes "off"))
    go None e = differ e refl
    go (Some most) e = of most.0 e
      where
        of : (verbosity : Verbosity) → ¬ (codes "a" ≡ verbosity_word verbosity)
        of verbosity.Error e = differ e refl
        of verbosity e = differ e refl

pub level-kind : Kind (λ (level : LevelFilter). ⊤) level_word UnknownWord
level-kind = record { of = OFF; is = tt; wants = λ s. no-level s.0 s.2 }

-- Below: the words behind the first one of a line.

abbrev pub NewRest : Rule
NewRest =
    Then IsDigit digit
    (Then IsSpanSite site_word (Then IsLabel (λ label. label) (Spells IsParentName parent_words)))

abbrev pub EventRest : Rule
EventRest = Then IsDigit digit (Then IsEventSite site_word (Spells IsTail tail_words))

abbrev pub NameRest : Rule
NameRest = Then IsName word_of End

abbrev pub LaneRest : Rule
LaneRest = Then IsDigit digit NameRest

abbrev pub FollowsRest : Rule
FollowsRest = Then IsDigit digit (Then IsName word_of NameRest)

abbrev pub EnabledRest : Rule
EnabledRest = Then IsDigit digit (Then IsAnySite site_word End)

abbrev pub CurrentRest : Rule
CurrentRest = Then IsDigit digit End

abbrev pub LevelRest : Rule
LevelRest = Then IsDigit digit (Then (λ (level : LevelFilter). ⊤) level_word End)

abbrev pub TargetsRest : Rule
TargetsRest = Then IsDigit digit (Then IsText (λ text. text) End)

new-from : (l : Line) → IsLine l → (ws : List (List ℕ)) → codes "new" ∷ ws ≡ words_of l → NewRest ws
new-from (New lane site label parent) is ws e =
    subst NewRest (behind e) (then lane.0 _ is.0 (then site _ is.1 (then label.now _ is.2 (parent, is.3, refl))))
new-from l is ws e = absurd (other e refl)

pub new-misfit : (words : List (List ℕ)) (m : Misfit) → IsMisfit NewRest words m → IsMisfit (IsBehind (codes "new")) words m
new-misfit = misfit-to NewRest (IsBehind (codes "new")) (λ ws. (
  λ t. let s = t.goes in let l = s.goes in let p = l.goes in let a = t.are in let b = s.are in let c = l.are in let d = p.2 in
      (New (on-lane t.of) s.of (lend l.of) p.0, (t.is, s.is, l.is, p.1), cc),
  λ l. new-from l.0 l.1 ws l.2,
))

event-from : (l : Line) → IsLine l → (ws : List (List ℕ)) → codes "event" ∷ ws ≡ words_of l → EventRest ws
event-from (Event lane site parent mute) is ws e = subst EventRest (behind e) (then lane.0 _ is.0 (then site _ is.1 ((parent, mute), is.2, refl)))
event-from l is ws e = absurd (other e refl)

pub event-misfit : (words : List (List ℕ)) (m : Misfit) → IsMisfit EventRest words m → IsMisfit (IsBehind (codes "event")) words m
event-misfit = misfit-to EventRest (IsBehind (codes "event")) (λ ws. (
  λ t. let s = t.goes in let p = s.goes in let a = t.are in let b = s.are in let d = p.2 in
      (Event (on-lane t.of) s.of p.0.0 p.0.1, (t.is, s.is, p.1), cc),
  λ l. event-from l.0 l.1 ws l.2,
))

pub lane-misfit : (words : List (List ℕ)) (m : Misfit) → IsMisfit LaneRest words m → IsMisfit (Spells IsLaneAndName lane_words) words m
lane-misfit = misfit-to LaneRest (Spells IsLaneAndName lane_words) (λ ws. (
  λ t. let n = t.goes in let a = t.are in let b = n.are in let c = n.goes in ((on-lane t.of, n.of), (t.is, n.is), cc),
  λ s. subst LaneRest (sym s.2) (then s.0.0.0 _ s.1.0 (then s.0.1 [] s.1.1 refl)),
))

enter-from : (l : Line) → IsLine l → (ws : List (List ℕ)) → codes "enter" ∷ ws ≡ words_of l → Spells IsLaneAndName lane_words ws
enter-from (Enter lane name) is ws e = ((lane, name), is, cc)
enter-from l is ws e = absurd (other e refl)

pub enter-same : IsSame (Spells IsLaneAndName lane_words) (IsBehind (codes "enter"))
enter-same ws = (λ s. (Enter s.0.0 s.0.1, s.1, ap (λ ws. codes "enter" ∷ ws) s.2), λ l. enter-from l.0 l.1 ws l.2)

exit-from : (l : Line) → IsLine l → (ws : List (List ℕ)) → codes "exit" ∷ ws ≡ words_of l → Spells IsLaneAndName lane_words ws
exit-from (Exit lane name) is ws e = ((lane, name), is, cc)
exit-from l is ws e = absurd (other e refl)

pub exit-same : IsSame (Spells IsLaneAndName lane_words) (IsBehind (codes "exit"))
exit-same ws = (λ s. (Exit s.0.0 s.0.1, s.1, ap (λ ws. codes "exit" ∷ ws) s.2), λ l. exit-from l.0 l.1 ws l.2)

record-from : (l : Line) → IsLine l → (ws : List (List ℕ)) → codes "record" ∷ ws ≡ words_of l → Spells IsLaneAndName lane_words ws
record-from (Record lane name) is ws e = ((lane, name), is, cc)
record-from l is ws e = absurd (other e refl)

pub record-same : IsSame (Spells IsLaneAndName lane_words) (IsBehind (codes "record"))
record-same ws = (λ s. (Record s.0.0 s.0.1, s.1, ap (λ ws. codes "record" ∷ ws) s.2), λ l. record-from l.0 l.1 ws l.2)

drop-from : (l : Line) → IsLine l → (ws : List (List ℕ)) → codes "drop" ∷ ws ≡ words_of l → Spells IsLaneAndName lane_words ws
drop-from (Drop lane name) is ws e = ((lane, name), is, cc)
drop-from l is ws e = absurd (other e refl)

pub drop-same : IsSame (Spells IsLaneAndName lane_words) (IsBehind (codes "drop"))
drop-same ws = (λ s. (Drop s.0.0 s.0.1, s.1, ap (λ ws. codes "drop" ∷ ws) s.2), λ l. drop-from l.0 l.1 ws l.2)

follows-from : (l : Line) → IsLine l → (ws : List (List ℕ)) → codes "follows" ∷ ws ≡ words_of l → FollowsRest ws
follows-from (Follows lane name other) is ws e = subst FollowsRest (behind e) (then lane.0 _ is.0 (then name _ is.1 (then other [] is.2 refl)))
follows-from l is ws e = absurd (other e refl)

pub follows-misfit : (words : List (List ℕ)) (m : Misfit) → IsMisfit FollowsRest words m → IsMisfit (IsBehind (codes "follows")) words m
follows-misfit = misfit-to FollowsRest (IsBehind (codes "follows")) (λ ws. (
  λ t. let n = t.goes in let o = n.goes in let a = t.are in let b = n.are in let c = o.are in let d = o.goes in
      (Follows (on-lane t.of) n.of o.of, (t.is, n.is, o.is), cc),
  λ l. follows-from l.0 l.1 ws l.2,
))

clone-from : (l : Line) → IsLine l → (ws : List (List ℕ)) → codes "clone" ∷ ws ≡ words_of l → NameRest ws
clone-from (Clone name) is ws e = subst NameRest (behind e) (then name [] is refl)
clone-from l is ws e = absurd (other e refl)

pub clone-misfit : (words : List (List ℕ)) (m : Misfit) → IsMisfit NameRest words m → IsMisfit (IsBehind (codes "clone")) words m
clone-misfit =
    misfit-to NameRest (IsBehind (codes "clone")) (λ ws. (λ t. let a = t.are in let b = t.goes in (Clone t.of, t.is, cc), λ l. clone-from l.0 l.1 ws l.2))

enabled-from : (l : Line) → IsLine l → (ws : List (List ℕ)) → codes "enabled" ∷ ws ≡ words_of l → EnabledRest ws
enabled-from (Enabled lane site) is ws e = subst EnabledRest (behind e) (then lane.0 _ is.0 (then site [] is.1 refl))
enabled-from l is ws e = absurd (other e refl)

pub enabled-misfit : (words : List (List ℕ)) (m : Misfit) → IsMisfit EnabledRest words m → IsMisfit (IsBehind (codes "enabled")) words m
enabled-misfit = misfit-to EnabledRest (IsBehind (codes "enabled")) (λ ws. (
  λ t. let s = t.goes in let a = t.are in let b = s.are in let c = s.goes in (Enabled (on-lane t.of) s.of, (t.is, s.is), cc),
  λ l. enabled-from l.0 l.1 ws l.2,
))

current-from : (l : Line) → IsLine l → (ws : List (List ℕ)) → codes "current" ∷ ws ≡ words_of l → CurrentRest ws
current-from (Current lane) is ws e = subst CurrentRest (behind e) (then lane.0 [] is refl)
current-from l is ws e = absurd (other e refl)

pub current-misfit : (words : List (List ℕ)) (m : Misfit) → IsMisfit CurrentRest words m → IsMisfit (IsBehind (codes "current")) words m
current-misfit = misfit-to CurrentRest
    (IsBehind (codes "current")) (λ ws. (λ t. let a = t.are in let b = t.goes in (Current (on-lane t.of), t.is, cc), λ l. current-from l.0 l.1 ws l.2))

level-from : (l : Line) → IsLine l → (ws : List (List ℕ)) → codes "level" ∷ ws ≡ words_of l → LevelRest ws
level-from (LevelLine number level) is ws e = subst LevelRest (behind e) (then number _ is (then level [] tt refl))
level-from l is ws e = absurd (other e refl)

pub level-misfit : (words : List (List ℕ)) (m : Misfit) → IsMisfit LevelRest words m → IsMisfit (IsBehind (codes "level")) words m
level-misfit = misfit-to LevelRest (IsBehind (codes "level")) (λ ws. (
  λ t. let s = t.goes in let a = t.are in let b = s.are in let c = s.goes in (LevelLine t.of s.of, t.is, cc),
  λ l. level-from l.0 l.1 ws l.2,
))

targets-from : (l : Line) → IsLine l → (ws : List (List ℕ)) → codes "targets" ∷ ws ≡ words_of l → TargetsRest ws
targets-from (Targets number text) is ws e = subst TargetsRest (behind e) (then number _ is.0 (then text.now [] is.1 refl))
targets-from l is ws e = absurd (other e refl)

pub targets-misfit : (words : List (List ℕ)) (m : Misfit) → IsMisfit TargetsRest words m → IsMisfit (IsBehind (codes "targets")) words m
targets-misfit = misfit-to TargetsRest (IsBehind (codes "targets")) (λ ws. (
  λ t. let s = t.goes in let a = t.are in let b = s.are in let c = s.goes in (Targets t.of (lend s.of), (t.is, s.is), cc),
  λ l. targets-from l.0 l.1 ws l.2,
))

-- `a` begins no line
no-verb : (l : Line) (ws : List (List ℕ)) → ¬ (codes "a" ∷ ws ≡ words_of l)
no-verb (Current lane) ws e = other e refl
no-verb l ws e = other e refl

-- a word that begins no line
pub no-later : (word : List ℕ) → word ≢ codes "new" → word ≢ codes "event" → word ≢ codes "enter" → word ≢ codes "exit" → word ≢ codes "record"
    → word ≢ codes "drop" → word ≢ codes "follows" → word ≢ codes "clone" → word ≢ codes "enabled" → word ≢ codes "current" → word ≢ codes "level"
    → word ≢ codes "targets" → ¬ (Begins IsLater word)
no-later word new event enter exit record' drop follows clone enabled current level targets b = go b.1.0 b.1.2
  where
    go : (l : Line) → ¬ (word ∷ b.0 ≡ words_of l)
    go (New lane site label parent) e = new (head e)
    go (Event lane site parent mute) e = event (head e)
    go (Enter lane name) e = enter (head e)
    go (Exit lane name) e = exit (head e)
    go (Record lane name) e = record' (head e)
    go (Drop lane name) e = drop (head e)
    go (Follows lane name other) e = follows (head e)
    go (Clone name) e = clone (head e)
    go (Enabled lane site) e = enabled (head e)
    go (Current lane) e = current (head e)
    go (LevelLine number level') e = level (head e)
    go (Targets number text) e = targets (head e)

no-empty : (l : Line) → ¬ ([] ≡ words_of l)
no-empty (Current lane) e = cc
no-empty l e = cc

pub no-empty-later : ¬ (IsLater [])
no-empty-later l = no-empty l.0 l.2

-- lines can begin, but not with each label
pub later-some : HasRight IsLater
later-some = (words_of (Current (on-lane 0)), (Current (on-lane 0), omega arith, refl))

pub later-expects : Expects IsLater UnknownWord
later-expects =
    ((codes "current", (digit 0 ∷ [], (Current (on-lane 0), omega arith, refl))), λ labels. let b = labels (codes "a") refl in no-verb b.1.0 b.0 b.1.2)

-- Below: the words behind others.

abbrev pub Parent : Rule
Parent = Spells IsParentName parent_words

abbrev pub Mute : Rule
Mute = Spells (λ (mute : MuteField). ⊤) mute_words

abbrev pub Tail : Rule
Tail = Spells IsTail tail_words

root-from : (parent : ParentName) (ws : List (List ℕ)) → codes "root" ∷ ws ≡ parent_words parent → End ws
root-from Root ws e = cc
root-from (In name) ws e = absurd (other e refl)
root-from Contextual ws e = cc

pub root-same : IsSame End (λ ws. Parent (codes "root" ∷ ws))
root-same ws = (λ e. (Root, tt, ap (λ ws. codes "root" ∷ ws) e), λ p. root-from p.0 ws p.2)

in-from : (parent : ParentName) → IsParentName parent → (ws : List (List ℕ)) → codes "in" ∷ ws ≡ parent_words parent → NameRest ws
in-from (In name) is ws e = subst NameRest (behind e) (then name [] is refl)
in-from Root is ws e = absurd (other e refl)
in-from Contextual is ws e = cc

pub in-same : IsSame NameRest (λ ws. Parent (codes "in" ∷ ws))
in-same ws = (λ t. let a = t.are in let b = t.goes in (In t.of, t.is, cc), λ p. in-from p.0 p.1 ws p.2)

-- no parent begins with another word
pub no-parent : (word : List ℕ) → word ≢ codes "root" → word ≢ codes "in" → ¬ (Begins Parent word)
no-parent word root under b = go b.1.0 b.1.2
  where
    go : (parent : ParentName) → ¬ (word ∷ b.0 ≡ parent_words parent)
    go Contextual e = cc
    go Root e = root (cc)
    go (In name) e = under (cc)

pub parent-some : HasRight Parent
parent-some = ([], (Contextual, tt, refl))

pub parent-expects : Expects Parent UnknownWord
parent-expects = (
  (codes "root", ([], (Root, tt, refl))),
  λ labels. no-parent (codes "a") (λ e. differ e refl) (λ e. differ e refl) (labels (codes "a") refl),
)

mute-from : (m : MuteField) (ws : List (List ℕ)) → codes "mute" ∷ ws ≡ mute_words m → End ws
mute-from Given ws e = cc
mute-from Absent ws e = cc

pub mute-same : IsSame End (λ ws. Mute (codes "mute" ∷ ws))
mute-same ws = (λ e. (Given, tt, ap (λ ws. codes "mute" ∷ ws) e), λ s. mute-from s.0 ws s.2)

-- no value begins with another word
pub no-mute : (word : List ℕ) → word ≢ codes "mute" → ¬ (Begins Mute word)
no-mute word other b = go b.1.0 b.1.2
  where
    go : (mute : MuteField) → ¬ (word ∷ b.0 ≡ mute_words mute)
    go Absent e = cc
    go Given e = other (cc)

pub mute-some : HasRight Mute
mute-some = ([], (Absent, tt, refl))

pub mute-expects : Expects Mute UnknownWord
mute-expects = ((codes "mute", ([], (Given, tt, refl))), λ labels. no-mute (codes "a") (λ e. differ e refl) (labels (codes "a") refl))

tail-from-root : (parent : ParentName) (mute : MuteField) (ws : List (List ℕ)) → codes "root" ∷ ws ≡ tail_words (parent, mute) → Mute ws
tail-from-root Root mute ws e = (mute, tt, cc)
tail-from-root Contextual Absent ws e = cc
tail-from-root Contextual Given ws e = absurd (other e refl)
tail-from-root (In name) mute ws e = absurd (other e refl)

pub tail-root-same : IsSame Mute (λ ws. Tail (codes "root" ∷ ws))
tail-root-same ws = (λ m. ((Root, m.0), tt, ap (λ ws. codes "root" ∷ ws) m.2), λ t. tail-from-root t.0.0 t.0.1 ws t.2)

tail-from-in : (parent : ParentName) (mute : MuteField) → IsParentName parent
    → (ws : List (List ℕ)) → codes "in" ∷ ws ≡ tail_words (parent, mute) → Then IsName word_of Mute ws
tail-from-in (In name) mute is ws e = subst (Then IsName word_of Mute) (behind e) (then name _ is (mute, tt, refl))
tail-from-in Contextual Absent is ws e = cc
tail-from-in Contextual Given is ws e = absurd (other e refl)
tail-from-in Root mute is ws e = absurd (other e refl)

pub tail-in-same : IsSame (Then IsName word_of Mute) (λ ws. Tail (codes "in" ∷ ws))
tail-in-same ws = (
  λ t. let m = t.goes in let a = t.are in let b = m.2 in ((In t.of, m.0), t.is, cc),
  λ t. tail-from-in t.0.0 t.0.1 t.1 ws t.2,
)

tail-from-mute : (parent : ParentName) (mute : MuteField) (ws : List (List ℕ)) → codes "mute" ∷ ws ≡ tail_words (parent, mute) → End ws
tail-from-mute Contextual Absent ws e = cc
tail-from-mute Contextual Given ws e = cc
tail-from-mute Root mute ws e = absurd (other e refl)
tail-from-mute (In name) mute ws e = absurd (other e refl)

pub tail-mute-same : IsSame End (λ ws. Tail (codes "mute" ∷ ws))
tail-mute-same ws = (λ e. ((Contextual, Given), tt, ap (λ ws. codes "mute" ∷ ws) e), λ t. tail-from-mute t.0.0 t.0.1 ws t.2)

-- no tail begins with another word
pub no-tail : (word : List ℕ) → word ≢ codes "root" → word ≢ codes "in" → word ≢ codes "mute" → ¬ (Begins Tail word)
no-tail word root under mute b = go b.1.0.0 b.1.0.1 b.1.2
  where
    go : (parent : ParentName) (m : MuteField) → ¬ (word ∷ b.0 ≡ tail_words (parent, m))
    go Contextual Absent e = cc
    go Contextual Given e = mute (cc)
    go Root m e = root (cc)
    go (In name) m e = under (cc)

pub tail-some : HasRight Tail
tail-some = ([], ((Contextual, Absent), tt, refl))

pub tail-expects : Expects Tail UnknownWord
tail-expects = (
  (codes "root", ([], ((Root, Absent), tt, refl))),
  λ labels. no-tail (codes "a") (λ e. differ e refl) (λ e. differ e refl) (λ e. differ e refl) (labels (codes "a") refl),
)

-- Below: first lines.

abbrev pub FirstRest : Rule
FirstRest = Then (λ (stack : StackName). ⊤) stack_word End

pub first-same : IsSame FirstRest (λ ws. IsFirst (codes "stack" ∷ ws))
first-same ws = (
  λ t. let a = t.are in let b = t.goes in (t.of, tt, cc),
  λ s. subst FirstRest (behind s.2) (then s.0 [] tt refl),
)

no-stack : (stack : StackName) → ¬ (codes "a" ≡ stack_word stack)
no-stack Plain e = differ e refl
no-stack stack e = differ e refl

pub stack-kind : Kind (λ (stack : StackName). ⊤) stack_word UnknownWord
stack-kind = record { of = Plain; is = tt; wants = λ s. no-stack s.0 s.2 }

pub first-some : HasRight IsFirst
first-some = (first_words Plain, (Plain, tt, refl))

-- no first line begins with another word
pub no-first : (word : List ℕ) → word ≢ codes "stack" → ¬ (Begins IsFirst word)
no-first word other b = let e = b.1.2 in other (cc)

pub no-empty-first : ¬ (IsFirst [])
no-empty-first s = let e = s.2 in cc

pub first-expects : Expects IsFirst UnknownWord
first-expects = ((codes "stack", (codes "plain" ∷ [], (Plain, tt, refl))), λ labels. no-first (codes "a") (λ e. differ e refl) (labels (codes "a") refl))

pub ruleset kinds = (digit-kind, span-kind, event-kind, site-kind, label-kind, name-kind, level-kind, text-kind, has-end, has-then, parent-some, tail-some)

pub ruleset verbs = (new-misfit, event-misfit, lane-misfit, follows-misfit, clone-misfit, enabled-misfit, current-misfit, level-misfit, targets-misfit)

-- what is wrong behind words of these kinds
pub ruleset reading = (then-first, then-on, end-many, kinds, verbs)
