-- Numbers of traces, by those of their root spans.
use Rattle.std.specs.Prelude.{◌≡◌, ◌+◌, ◌*◌, ◌%◌, ◌^◌, ◌<◌, ℕ}

-- an odd number, by which those of roots are spread over 64 bits
abbrev pub spread : ℕ
spread = 0x9E3779B97F4A7C15

-- the number of a root's trace: the seed, and behind it the root's number, spread
abbrev pub seeded : ℕ → ℕ → ℕ
seeded seed root = seed * 2 ^ 64 + (root * spread) % 2 ^ 64

-- no span's trace has the number 0, which to W3C and OpenTelemetry is none
abbrev pub GivesNoZero : (ℕ → ℕ) → Type 0
GivesNoZero trace_of = (root : ℕ) → 0 < root → root < 2 ^ 64 → 0 < trace_of root

-- where the traces of two roots are one, so are the seeds, and the roots
abbrev pub SeedsAreApart : Type 0
SeedsAreApart =
    (seed other a b : ℕ) → a < 2 ^ 64 → b < 2 ^ 64 → seeded seed a ≡ seeded other b
    → (seed ≡ other) × (a ≡ b)
