use Rattle.std.proofs.Common.{◌≡◌, IfSome, map, take}
use Rattle.span_script.specs.Script.{IsScript, read_in, words_in, words_of_texts}
use Rattle.span_script.proofs.script.Script.parse.Given as goal

-- the script is what the texts so far spell
abbrev pub invariant-loop-place : goal.invariant-loop-place
invariant-loop-place l = IfSome l.script IsScript × (words_in (read_in l.script) ≡ words_of_texts (map (λ t. t.now) (take l.place l.text-items)))
