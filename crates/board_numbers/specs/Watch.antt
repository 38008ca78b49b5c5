-- What a watched run is asked for, as a set of bits: bit 0 the wake log. A bit that asks for nothing is refused by 36.
use Rattle.std.specs.Prelude.{ℕ, ◌%◌, Bool, eqb, ltb}

abbrev pub asks_log : ℕ → Bool
asks_log bits = eqb (bits % 2) 1

-- a bit above bit 0
abbrev pub unknown_bits : ℕ → Bool
unknown_bits bits = ltb 1 bits
