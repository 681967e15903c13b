-- What the filters answer.
use Rattle.std.specs.Prelude.{ℕ, Bool, List, Option, None, bytes_eq, false, is_some}
use Rattle.std.specs.Borrow.{Bor}
use Rattle.std.specs.List.{list_any}
use Rattle.std.specs.Option.{option_and_then}
use Rattle.span_core.specs.Metadata.{target_of}
use Rattle.span_core.specs.declared.metadata.Metadata.{Metadata}
use Rattle.span_core.specs.declared.span.Lane.{Lane}
use Rattle.span_examples.specs.declared.filter.Wanted.{Wanted}
use Rattle.span_filters.specs.Closure.{test_answers}
use Rattle.span_extensions.specs.Extensions.{Place, value_under}
use Rattle.span_extensions.specs.declared.extensions.ExtensionMap.{ExtensionMap}
use Rattle.span_extensions.specs.declared.tag.Tag.{Tag}
use Rattle.span_store.specs.Store.{RegistryState}
use Rattle.span_registry.specs.Behaviour.{Behaviour}
use Rattle.span_registry.specs.View.{View, current_shown, extensions_shown, view_of}

-- the targets that a filter by targets enables
abbrev pub wanted_by : Wanted → List (Bor (List ℕ))
wanted_by f = f.wanted.now

-- whether the target of metadata is one of a filter's
abbrev pub wants_target : Wanted → Metadata → Bool
wants_target f m = list_any (λ t. bytes_eq t.now (target_of m)) (wanted_by f)

-- what a filter by targets answers: that test, and no hint
abbrev pub target_answers : Wanted → Behaviour
target_answers f = test_answers (wants_target f) None

-- the view of a lane, on a registry where no filter hides a span
abbrev pub view_on : RegistryState → Lane → View
view_on s lane = view_of s.store lane.0 (λ n. false)

-- the extensions of the span that the lane is in, as the view shows it
abbrev pub current_extensions : View → Option ExtensionMap
current_extensions v = option_and_then (λ x. extensions_shown x v) (current_shown v)

-- whether the span that the lane is in, as the view shows it, has a value under this tag
abbrev pub is_marked : {T : Type 0} → Place T → Tag T → View → Bool
is_marked place mark v =
    is_some (option_and_then (λ m. value_under place m mark) (current_extensions v))
