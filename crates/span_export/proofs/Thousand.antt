-- A thousand, as a float.
use Rattle.std.proofs.Common.{◌≡◌, pos, refl}
use Rattle.std.specs.Float.Ieee
use Rattle.std.specs.Float.{binary64}

-- the bits of MICRO are those of a thousand
pub thousand : Ieee.of_bits binary64 4652007308841189376 ≡ Ieee.of_int binary64 (pos 1000)
unfolding Ieee.of_int Ieee.of_bits
thousand = refl
