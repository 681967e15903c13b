use Rattle.std.proofs.Common.{length, ◌≡◌, ◌↔◌, ◌≤◌, IsTrue, map, ℕ, ◌+◌, ◌-◌, ◌*◌, ◌<◌}
use Rattle.span_core.proofs.text.+same_texts.Given as goal

-- proposed from what the function passes where it calls itself
abbrev pub decreases-same_texts : goal.decreases-same_texts
decreases-same_texts l = length l.a.now
