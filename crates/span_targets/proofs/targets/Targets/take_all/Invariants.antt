-- What is read of the rest, beside what the filter names so far, is what is read of the whole text.
use Rattle.std.proofs.Common.{◌≡◌, ◌+◌, ◌++◌}
use denote.Text.{Utf8}
use denote.Shadow.{shadow}
use Rattle.span_targets.proofs.targets.Targets.take_all.Given as goal
use Rattle.span_targets.specs.Targets.{names_of}
use Rattle.span_targets.specs.Text.{directives_in, named_from, wrong_from}

abbrev pub invariant-loop-index : goal.invariant-loop-index
invariant-loop-index l = record {
  text : shadow (Utf8 l.rest);
  names : named_from (l.index + 1) (directives_in l.rest) (names_of l.self) ≡ named_from 1 (directives_in l.fn.text) (names_of l.fn.self);
  wrong : l.wrong.items ++ wrong_from (l.index + 1) (directives_in l.rest) ≡ l.fn.wrong.items ++ wrong_from 1 (directives_in l.fn.text);
}
