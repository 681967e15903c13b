-- What a leaf is notified of; and what it would be notified of if it and the filters round it stood
-- alone, with no other layer or filter beside them.
use Rattle.std.specs.Prelude.{◌≡◌, ⊤, ℕ, if◌then◌else◌, List, [], ◌∷◌, ◌++◌, Option, Some, None}
use Rattle.std.specs.List.{flat_map}
use Rattle.span_core.specs.Filters.{FilterSet, union}
use Rattle.span_dispatch.specs.Outcome.{Reloaded, OutcomeAt, Noticed, Outcome, Quiet, Steps, given_in}
use Rattle.span_store.specs.Store.{Store}
use Rattle.span_registry.specs.Behaviour.{AreAlikeHistories, ArePlain, Conduct, History, Notice}
use Rattle.span_registry.specs.Conducts.{Conducts, after_notice, path_now, reloading}
use Rattle.span_registry.specs.{Form.End, Form.Filtered, Form.Form, Form.Terminal, Hooks.no_filter}
use Rattle.span_registry.specs.Path.{Path, mask_of, passes_path, path_at}
use Rattle.span_registry.specs.{Position.Heard, Position.Position, Position.told_in, View.view_of}
use Rattle.span_registry.specs.{Plan.passes, Question.single}

-- what a path passes of an outcome between two stores: a notice that all its filters pass, when
-- asked afresh on the first store
abbrev pub passed : Option Path → Outcome → Store → Store → Heard
passed (Some path) (Noticed lane e) s t =
    if passes_path path e s lane.0 no_filter
    then told_in e (given_in e s t) lane.0 (mask_of path no_filter) ∷ [] else []
passed path o s t = []

-- what the path of a leaf or a filter at a position passes of what was made; a leaf there is
-- notified of just that
abbrev pub passed_at : Position → List OutcomeAt → Heard
passed_at position made =
    flat_map (λ m. passed (path_at m.form position) m.outcome m.before m.after) made

-- Below: words that name no layer or filter but those of one path.

-- the form of a path's filters, one in another, with nothing in the innermost, since a leaf is in
-- no verdict
abbrev pub form_of_path : Path → Form
form_of_path [] = Terminal End
form_of_path ((n, a) ∷ path) = Filtered n a (form_of_path path)

-- the conducts of a path's filters after a notice: a filter learns of one that it and all filters
-- round it pass, asked in the store before the notice; u is the store that the notice is given in
abbrev pub learning : Conducts → Notice → Store → Store → ℕ → FilterSet → Conducts
learning [] e s u lane under = []
learning ((None, b) ∷ cs) e s u lane under = (None, b) ∷ cs
learning ((Some n, b) ∷ cs) e s u lane under =
    if passes (b []) e s lane (union under (single n))
    then (Some n, after_notice e (view_of u lane (union under (single n))) b) ∷ learning cs e s
    u lane (union under (single n))
    else (Some n, b) ∷ cs

-- the conducts of a path's filters after an outcome: where a filter was reloaded, the one with that
-- number, if it is on the path, goes on by the setting
abbrev pub acting : Conducts → Outcome → Store → Store → Conducts
acting cs (Noticed lane e) s t = learning cs e s (given_in e s t) lane.0 no_filter
acting cs (Quiet c) s t = cs
acting cs (Reloaded n setting) s t = reloading n setting cs

-- what a leaf is notified of, from these outcomes on this store, as if it stood alone under filters
-- of these conducts: one by one, the notices that its path passes, asked afresh
abbrev pub Alone : Conducts → Store → List Outcome → Heard → Type 0
Alone cs s [] heard = heard ≡ []
Alone cs s (o ∷ outcomes) heard =
    (t : Store) × (rest : Heard) × Steps (form_of_path (path_now cs)) o s t
    × Alone (acting cs o s t) t outcomes rest
    × (heard ≡ passed (Some (path_now cs)) o s t ++ rest)

-- Below: words for filters that act alike, whatever extensions hold.

-- The first conduct is plain: extensions make no difference to it. After histories that are alike
-- the second answers as the first does.
pub record ActAlike (b c : Conduct) : Type 0 where
  pub plain : (h : History) → ArePlain (b h)
  pub same : (h k : History) → AreAlikeHistories h k → b h ≡ c k

-- two paths have filters of the same numbers, one by one, and these act alike
abbrev pub PathsActAlike : Conducts → Conducts → Type 0
PathsActAlike [] [] = ⊤
PathsActAlike ((n, b) ∷ cs) ((m, c) ∷ ds) = (n ≡ m) × ActAlike b c × PathsActAlike cs ds
PathsActAlike cs ds = ⊥
