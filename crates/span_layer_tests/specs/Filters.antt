-- What the filters of these tests answer.
use Rattle.std.specs.Prelude.{Bool, true, false, [], ◌∷◌, None, is_some}
use Rattle.span_core.specs.declared.interest.Interest.TheVariants.{Always}
use Rattle.span_filters.specs.Closure.{interest_under, view_answers}
use Rattle.span_registry.specs.Behaviour.{Behaviour, Conduct, OfReload, Notice, OnEnter, OfNotice}
use Rattle.span_registry.specs.View.{current_shown}

-- all metadata, and no event
abbrev pub mute_answers : Behaviour
mute_answers = record {
  enabled = λ m v. true;
  event = λ e v. false;
  interest = λ m. Always;
  hint = None;
  takes = λ l. false;
}

-- what comes in a span that is seen
abbrev pub in_span_answers : Behaviour
in_span_answers = view_answers (λ m v. is_some (current_shown v)) (interest_under None) None

-- everything, or nothing
abbrev pub if_answers : Bool → Behaviour
if_answers b = view_answers (λ m v. b) (interest_under None) None

-- whether everything is wanted after a notice: from the first enter on
abbrev pub wanted_after : Notice → Bool → Bool
wanted_after (OnEnter id) wanted = true
wanted_after e wanted = wanted

-- so a filter acts that wants everything from the first enter on
abbrev pub since_entered : Bool → Conduct
since_entered wanted [] = if_answers wanted
since_entered wanted (OfNotice e v ∷ h) = since_entered (wanted_after e wanted) h
since_entered wanted (OfReload l ∷ h) = since_entered wanted h
