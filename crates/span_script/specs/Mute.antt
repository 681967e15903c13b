-- What the filter and the layer answer that let no muted event by.
use Rattle.std.specs.Prelude.{ℕ, Bool, true, false, not, ◌&&◌, List, None, bytes_eq, codes}
use Rattle.std.specs.Borrow.{Bor}
use Rattle.std.specs.List.{list_any}
use Rattle.span_core.specs.Event.{event_values}
use Rattle.span_core.specs.declared.field.FieldValue.TheVariants as value
use Rattle.span_core.specs.declared.field.FieldValue.{FieldValue}
use Rattle.span_core.specs.declared.interest.Interest.TheVariants.{Always}
use Rattle.span_registry.specs.Behaviour.{Behaviour}

-- whether a value is `true`
abbrev pub is_true : FieldValue → Bool
is_true (value.Bool b) = b
is_true other = false

-- whether a field has the name `mute` and the value `true`
abbrev pub is_mute : Bor (List ℕ) × FieldValue → Bool
is_mute field = bytes_eq field.0.now (codes "mute") && is_true field.1

-- whether one of an event's fields has the name `mute` and the value `true`
abbrev pub is_muted : List (Bor (List ℕ) × FieldValue) → Bool
is_muted values = list_any is_mute values

-- yes to all metadata and to each event that isn't muted; interest always; no hint, no setting
abbrev pub mute_answers : Behaviour
mute_answers = record {
  enabled = λ m v. true;
  event = λ e v. not (is_muted (event_values e));
  interest = λ m. Always;
  hint = None;
  takes = λ l. false;
}
