-- Times as people read them.
use Rattle.std.specs.Prelude.{ℕ, ◌/◌, ◌%◌, if◌then◌else◌, nat_le, List, ◌++◌, codes, decimal, encode_utf8}

-- so many thousandths as a number of three digits, two behind the point at most, and of more where
-- it is above 999; what is less is left out
abbrev pub three_digits : ℕ → List ℕ
three_digits n =
    let whole = decimal (n / 1000) in
    let tenths = decimal (n / 100 % 10) in
    if nat_le 100000 n then whole
    else if nat_le 10000 n then whole ++ codes "." ++ tenths
    else whole ++ codes "." ++ tenths ++ decimal (n / 10 % 10)

-- so many nanoseconds in the greatest of these units of which they are one: seconds, milliseconds,
-- microseconds (`µ` is the character 0xb5), nanoseconds
abbrev pub time_text : ℕ → List ℕ
time_text t =
    if nat_le 1000000000 t then three_digits (t / 1000000) ++ codes " s"
    else if nat_le 1000000 t then three_digits (t / 1000) ++ codes " ms"
    else if nat_le 1000 t then three_digits t ++ codes " " ++ encode_utf8 0xb5 ++ codes "s"
    else decimal t ++ codes " ns"
