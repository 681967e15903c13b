-- What the functions in `example` make by macros.
use Rattle.std.specs.Prelude.{◌≡◌, ℕ, ℤ, true, List, [], ◌∷◌, Option, codes}
use Rattle.std.specs.Borrow.{Bor}
use Rattle.std.specs.Float.{Float as Number}
use Rattle.span_core.specs.declared.field.FieldValue.{FieldValue}
use Rattle.span_core.specs.declared.field.FieldValue.TheVariants as value
use Rattle.span_core.specs.declared.level.TheConstants.Level as level
use Rattle.span_core.specs.declared.metadata.TheConstants.Kind.{EVENT, SPAN}
use Rattle.span_macros.specs.Field.{IsFloat, IsOptional, IsText}
use Rattle.span_macros.specs.Made.{Callsite}

-- the module that they stand in
abbrev here : List ℕ
here = codes "span_macros::example"

-- the callsite of an event that tells of bytes
abbrev pub read_site : Callsite
read_site = record {
  kind = EVENT;
  level = level.INFO;
  name = codes "read";
  target = here;
  fields = codes "bytes" ∷ codes "ok" ∷ [];
}

-- the callsite of an event with numbers, a truth value and a text
abbrev pub done_site : Callsite
done_site = record {
  kind = EVENT;
  level = level.WARN;
  name = codes "done";
  target = here;
  fields = codes "count" ∷ codes "change" ∷ codes "ok" ∷ codes "by" ∷ [];
}

-- the values of a done event: a count, a change, that all is well, and who did it
abbrev pub done_values : ℕ → ℤ → Bor (List ℕ) → List FieldValue
done_values count change by =
    value.U64 count ∷ value.I64 change ∷ value.Bool true ∷ value.Text by ∷ []

-- the callsite of a span without fields
abbrev pub idle_site : Callsite
idle_site =
    record { kind = SPAN; level = level.DEBUG; name = codes "idle"; target = here; fields = [] }

-- the callsite of a span that has two counts
abbrev pub copy_site : Callsite
copy_site = record {
  kind = SPAN;
  level = level.INFO;
  name = codes "copy";
  target = here;
  fields = codes "from" ∷ codes "to" ∷ [];
}

-- the values of such a span
abbrev pub copy_values : ℕ → ℕ → List FieldValue
copy_values from to = value.U64 from ∷ value.U64 to ∷ []

-- the callsite of an event without fields
abbrev pub copied_site : Callsite
copied_site =
    record { kind = EVENT; level = level.TRACE; name = codes "copied"; target = here; fields = [] }

-- the callsite of an event that tells of a failure
abbrev pub failed_site : Callsite
failed_site = record {
  kind = EVENT;
  level = level.WARN;
  name = codes "failed";
  target = here;
  fields = codes "code" ∷ codes "by" ∷ [];
}

-- the values of such an event: this code, and a text that says who failed
abbrev pub AreOfFailed : ℕ → List ℕ → List FieldValue → Type 0
AreOfFailed code by (c ∷ b ∷ []) = (c ≡ value.U64 code) × IsText by b
AreOfFailed code by _ = ⊥

-- the callsite of a span that has a float, and a number that may be missing
abbrev pub job_site : Callsite
job_site = record {
  kind = SPAN;
  level = level.INFO;
  name = codes "job";
  target = here;
  fields = codes "share" ∷ codes "user" ∷ [];
}

-- the values of such a span: this float, and this number if there is one
abbrev pub AreOfJob : Number → Option ℕ → List FieldValue → Type 0
AreOfJob share user (x ∷ u ∷ []) = IsFloat share x × IsOptional (λ n v. v ≡ value.U64 n) user u
AreOfJob share user _ = ⊥

-- the callsite of an event without fields, that a dispatcher is sent as it is
abbrev pub ended_site : Callsite
ended_site =
    record { kind = EVENT; level = level.DEBUG; name = codes "ended"; target = here; fields = [] }
