-- Numbers of traces.
use Rattle.std.proofs.Common.{arith, ◌≡◌, ◌<◌, ◌+◌, ◌*◌, ◌%◌, ◌^◌, ℕ}
use Rattle.span_otlp.specs.TraceId.{SeedsAreApart, seeded, spread}

-- an odd number times one that isn't 0 isn't 0 in 64 bits
pub not_zero : (seed root : ℕ) → 0 < root → root < 2 ^ 64 → 0 < seeded seed root
not_zero seed root above fits = omega arith

halves : (a b r s : ℕ) → r < 2 ^ 64 → s < 2 ^ 64 → a * 2 ^ 64 + r ≡ b * 2 ^ 64 + s → (a ≡ b) × (r ≡ s)
halves a b r s fits also e = (omega arith, omega arith)

spread_apart : (a b : ℕ) → a < 2 ^ 64 → b < 2 ^ 64 → (a * spread) % 2 ^ 64 ≡ (b * spread) % 2 ^ 64 → a ≡ b
spread_apart a b fits also e = omega arith

pub apart : SeedsAreApart
apart seed other a b fits also e =
    let both = halves seed other ((a * spread) % 2 ^ 64) ((b * spread) % 2 ^ 64) (omega arith) (omega arith) e in
    (both.0, spread_apart a b fits also both.1)
