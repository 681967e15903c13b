-- Which ids a Bloom filter may hold.
use Rattle.std.specs.Prelude.{◌≡◌, ℕ, ◌%◌}
use Rattle.std.specs.Int.{bit_at}
use Rattle.span_store.specs.declared.bloom.Bloom.{Bloom}

-- the bit that stands for x is 1
abbrev pub MayHold : Bloom → ℕ → Type 0
MayHold b x = bit_at b.bits (x % 64) ≡ 1
