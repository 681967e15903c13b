-- Numbers in answers, for clauses of the crate's own.
use Rattle.std.specs.Prelude.{ℕ, ◌+◌, ◌*◌, ◌^◌, ◌&&◌, nat_lt, if◌then◌else◌, Option, None, Some}
use Rattle.std.specs.Char.{digit_value, is_ascii_digit}

-- the number that a digit more makes of a number, if it is a digit and the number fits 64 bits
abbrev pub followed_by : ℕ → ℕ → Option ℕ
followed_by number digit =
    if is_ascii_digit digit && nat_lt (number * 10 + digit_value digit) (2 ^ 64)
    then Some (number * 10 + digit_value digit)
    else None
