-- What a filter names when a directive is put in, and the order then.
use Rattle.std.proofs.Common.{◌≡◌, ◌∙◌, ℕ, ◌<◌, List, Bool, true, false, cond, Option, Some, None, get_or, length, refl, sym, ap, subst}
use Rattle.std.proofs.Math.ListN.{set}
use Rattle.std.specs.List.{insert}
use Rattle.span_core.specs.declared.level.LevelFilter.{LevelFilter}
use Rattle.span_targets.proofs.Edits.{IsPlace, Sorted, listed_insert, listed_set, none_listed, sorted_insert}
use Rattle.span_targets.specs.Directive.{level_by, listed, named_in, target_of}
use Rattle.span_targets.specs.Names.{naming}
use Rattle.span_targets.specs.declared.directive.Directive.{Directive}

set_at : (ds : List Directive) (l : Option LevelFilter) (n : ℕ) (t : List ℕ) (d e : Directive)
    → Sorted ds → n < length ds → target_of (get_or ds n e) ≡ t → target_of d ≡ t
    → (o : Option (List ℕ)) → named_in (set ds n d) l o ≡ naming (Some t) (level_by d) (named_in ds l) o
set_at ds l n t d e h below there is None = refl
set_at ds l n t d e h below there is (Some u) = listed_set ds n t d e u h below there is

pub names_set : (ds : List Directive) (l : Option LevelFilter) (n : ℕ) (t : List ℕ) (d x : Directive) (v : LevelFilter)
    → Sorted ds → n < length ds → target_of (get_or ds n x) ≡ t → target_of d ≡ target_of (get_or ds n x) → level_by d ≡ v
    → named_in (set ds n d) l ≡ naming (Some t) v (named_in ds l)
names_set ds l n t d x v h below there kept level =
    (λ i o. set_at ds l n t d x h below there (kept ∙ there) o i) ∙ ap (λ w. naming (Some t) w (named_in ds l)) level

insert_at : (ds : List Directive) (l : Option LevelFilter) (n : ℕ) (t : List ℕ) (d : Directive) → listed ds t ≡ None → target_of d ≡ t
    → (o : Option (List ℕ)) → named_in (insert ds n d) l o ≡ naming (Some t) (level_by d) (named_in ds l) o
insert_at ds l n t d none e None = refl
insert_at ds l n t d none e (Some u) = listed_insert ds n t d u none e

pub names_insert : (ds new : List Directive) (l : Option LevelFilter) (n : ℕ) (t : List ℕ) (d : Directive) (v : LevelFilter)
    → new ≡ insert ds n d → IsPlace t ds n → target_of d ≡ t → level_by d ≡ v
    → named_in new l ≡ naming (Some t) v (named_in ds l)
names_insert ds new l n t d v is at target level =
    ap (λ es. named_in es l) is ∙ (λ i o. insert_at ds l n t d (none_listed ds n t at) target o i)
    ∙ ap (λ w. naming (Some t) w (named_in ds l)) level

default_at : (ds : List Directive) (l : Option LevelFilter) (v : LevelFilter) → (o : Option (List ℕ)) → named_in ds (Some v) o ≡ naming None v (named_in ds l) o
default_at ds l v None = refl
default_at ds l v (Some u) = refl

pub names_default : (ds : List Directive) (l : Option LevelFilter) (v : LevelFilter) → named_in ds (Some v) ≡ naming None v (named_in ds l)
names_default ds l v = λ i o. default_at ds l v o i

-- ---- the order then, whether memory was refused or not

pub sorted_after : (b : Bool) (ds new : List Directive) (n : ℕ) (t : List ℕ) (d : Directive)
    → new ≡ cond b (insert ds n d) ds → IsPlace t ds n → target_of d ≡ t → Sorted ds → Sorted new
sorted_after true ds new n t d is at e h = subst Sorted (sym is) (sorted_insert ds n t d at e h)
sorted_after false ds new n t d is at e h = subst Sorted (sym is) h
