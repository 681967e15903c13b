-- What is read of the rest, beside what the filter says so far, is what is read of the whole text.
use Rattle.std.proofs.Common.{◌≡◌, ◌+◌}
use denote.Text.{Utf8}
use denote.Shadow.{shadow}
use Rattle.span_targets.proofs.env_filter.EnvFilter.take_all.Given as goal
use Rattle.span_targets.specs.EnvText.{env_from, said_of}
use Rattle.span_targets.specs.Text.{directives_in}

abbrev pub invariant-loop-index : goal.invariant-loop-index
invariant-loop-index l = record {
  text : shadow (Utf8 l.rest);
  read : env_from (l.index + 1) (directives_in l.rest) (said_of l.self) ≡ env_from 1 (directives_in l.fn.text) (said_of l.fn.self);
}
