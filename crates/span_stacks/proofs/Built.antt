-- The rules that an honest stack keeps, by how it is built.
use Rattle.std.proofs.Common.{◌≡◌, ◌⊎◌, ℕ, Bool, true, false, ◌&&◌, ◌||◌, refl, sym, subst, ⊎_elim}
use Rattle.std.specs.Prelude.{IsTrue}
use Rattle.std.proofs.lemmas.Bool.{and_from, or_right}
use Rattle.span_stacks.specs.Honest.{HasHonestAnswers, IsBuiltLayer, IsBuiltStack, IsHonestLayer, IsHonestStack}
use Rattle.span_stacks.specs.Verdict.{HasOwnNumbers, IsOrderly, LeavesRefuseNothing}
use Rattle.span_registry.specs.Form.{Absent, Terminal, Base, End, Filtered, Form, InList, InPair, WritesOnlyExtensions, Arrangement, Leaf, OnSubscriber, Parts}
use Rattle.span_registry.specs.Form.{is_base, is_end}

-- whether it is an absent layer
abbrev pub is_missing : Form → Bool
is_missing (Terminal Absent) = true
is_missing other = false

-- whether two parts hold something, which do, and whether the second is the end of a list: a list's first member does, and the rest may be empty
abbrev pub both_full : Arrangement → Bool → Bool → Bool → Bool
both_full OnSubscriber first last second = false
both_full InPair first last second = first && second
both_full InList first last second = first && (last || second)

-- whether a layer has neither an absent layer nor an empty list in it
abbrev pub is_full : Form → Bool
is_full (Leaf still a) = true
is_full (Filtered n a f) = is_full f
is_full (Parts k o i) = both_full k (is_full o) (is_end i) (is_full i)
is_full (Terminal v) = false

-- whether two parts make a stack: a layer, absent or full, on one
abbrev pub makes_stack : Arrangement → Bool → Bool → Bool
makes_stack OnSubscriber layer below = layer && below
makes_stack other layer below = false

-- whether it is a stack: a registry, or a layer on a stack that is absent itself, or full
abbrev pub is_stack : Form → Bool
is_stack (Parts k o i) = makes_stack k (is_missing o || is_full o) (is_stack i)
is_stack (Terminal v) = is_base (Terminal v)
is_stack other = false

-- the rules that an honest stack keeps: all answer honestly, filters have numbers of their own, no leaf under a filter or in a list refuses anything, no hook
-- does more than write extensions, and layers are absent directly on the stack alone
pub record Rules (f : Form) (filters : ℕ) : Type 0 where
  pub answers : HasHonestAnswers f
  pub numbers : HasOwnNumbers f filters
  pub orderly : IsOrderly f
  pub still : WritesOnlyExtensions f
  pub stack : IsTrue (is_stack f)

-- ---- what a layer that is built so keeps

-- the end of a list does, and so does a layer
rest_by : (P : Form → Type 0) (i : Form) → P (Terminal End) → (IsBuiltLayer true i → P i) → (i ≡ Terminal End) ⊎ IsBuiltLayer true i → P i
rest_by P i end layer h = ⊎_elim (λ (e : i ≡ Terminal End). subst P (sym e) end) layer h

layer_answers : (w : Bool) (f : Form) → IsBuiltLayer w f → HasHonestAnswers f
layer_answers w (Leaf still a) h = h.1
layer_answers w (Filtered n a f) h = (h.0, layer_answers true f h.1)
layer_answers w (Parts InPair o i) h = (layer_answers w o h.0, layer_answers w i h.1)
layer_answers w (Parts InList o i) h = (layer_answers true o h.0, rest_by HasHonestAnswers i tt (layer_answers true i) h.1)
layer_answers w other h = absurd h

layer_still : (w : Bool) (f : Form) → IsBuiltLayer w f → WritesOnlyExtensions f
layer_still w (Leaf still a) h = h.0
layer_still w (Filtered n a f) h = layer_still true f h.1
layer_still w (Parts InPair o i) h = (layer_still w o h.0, layer_still w i h.1)
layer_still w (Parts InList o i) h = (layer_still true o h.0, rest_by WritesOnlyExtensions i tt (layer_still true i) h.1)
layer_still w other h = absurd h

layer_quiet : (f : Form) → IsBuiltLayer true f → LeavesRefuseNothing f
layer_quiet (Leaf still a) h = h.2 refl
layer_quiet (Filtered n a f) h = layer_quiet f h.1
layer_quiet (Parts InPair o i) h = (layer_quiet o h.0, layer_quiet i h.1)
layer_quiet (Parts InList o i) h = (layer_quiet o h.0, rest_by LeavesRefuseNothing i tt (layer_quiet i) h.1)
layer_quiet other h = absurd h

layer_orderly : (w : Bool) (f : Form) → IsBuiltLayer w f → IsOrderly f
layer_orderly w (Leaf still a) h = tt
layer_orderly w (Filtered n a f) h = layer_quiet f h.1
layer_orderly w (Parts InPair o i) h = (layer_orderly w o h.0, layer_orderly w i h.1)
layer_orderly w (Parts InList o i) h = (layer_quiet o h.0, rest_by LeavesRefuseNothing i tt (layer_quiet i) h.1)
layer_orderly w other h = absurd h

layer_full : (w : Bool) (f : Form) → IsBuiltLayer w f → is_full f ≡ true
layer_full w (Leaf still a) h = refl
layer_full w (Filtered n a f) h = layer_full true f h.1
layer_full w (Parts InPair o i) h = and_from _ _ (layer_full w o h.0) (layer_full w i h.1)
layer_full w (Parts InList o i) h =
    and_from _ _ (layer_full true o h.0) (rest_by (λ z. is_end z || is_full z ≡ true) i refl (λ k. or_right (is_end i) (is_full i) (layer_full true i k)) h.1)
layer_full w other h = absurd h

-- ---- stacks

-- what is absent does, and so does a layer
outer_by : (P : Form → Type 0) (o : Form) → P (Terminal Absent) → (IsBuiltLayer false o → P o) → IsHonestLayer o → P o
outer_by P o missing layer h = ⊎_elim (λ (e : o ≡ Terminal Absent). subst P (sym e) missing) layer h

-- what holds of a registry, and of a layer on a stack where it holds of both, holds of a stack
stack_by : (P : Form → Type 0) → P (Terminal Base) → ((o i : Form) → IsHonestLayer o → P i → P (Parts OnSubscriber o i)) → (f : Form) → IsBuiltStack f → P f
stack_by P base on (Parts OnSubscriber o i) h = on o i h.0 (stack_by P base on i h.1)
stack_by P base on (Terminal Base) h = base
stack_by other base on rest h = absurd h

-- the rules of an honest stack
pub rules_of : (f : Form) (filters : ℕ) → IsHonestStack f filters → Rules f filters
rules_of f filters h = record {
  answers = stack_by HasHonestAnswers tt (λ o i k below. (outer_by HasHonestAnswers o tt (layer_answers false o) k, below)) f h.built;
  numbers = h.numbers;
  orderly = stack_by IsOrderly tt (λ o i k below. (outer_by IsOrderly o tt (layer_orderly false o) k, below)) f h.built;
  still = stack_by WritesOnlyExtensions tt (λ o i k below. (outer_by WritesOnlyExtensions o tt (layer_still false o) k, below)) f h.built;
  stack = stack_by (λ z. is_stack z ≡ true) refl
      (λ o i k below.
      and_from _ _ (outer_by (λ z. is_missing z || is_full z ≡ true) o refl (λ l. or_right (is_missing o) (is_full o) (layer_full false o l)) k) below) f
      h.built;
}
