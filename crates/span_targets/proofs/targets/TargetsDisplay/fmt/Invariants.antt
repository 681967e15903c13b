use Rattle.std.proofs.Common.{◌≡◌, [], take}
use denote.Text.{Utf8}
use denote.Shadow.{shadow}
use Rattle.std.specs.Fmt.{HasWritten, IsPlainFormatter}
use Rattle.span_targets.proofs.Written.{after, run}
use Rattle.span_targets.proofs.targets.TargetsDisplay.fmt.Given as goal

abbrev pub invariant-loop-directive : goal.invariant-loop-directive
invariant-loop-directive g l = record {
  text : shadow (Utf8 l.between);
  between : l.between ≡ after [] (take l.directive-index l.self.directives.items);
  written : IsPlainFormatter l.initial.f → HasWritten g.W.Write.write_str_gives l.initial.f (run [] (take l.directive-index l.self.directives.items)) l.f;
}
