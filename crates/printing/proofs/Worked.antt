-- Numbers as text, computed by the definitions: a decimal number has no leading zeros, a hexadecimal one has all its digits. Assumes nothing.
use mathlib.Core.List.{[], ◌∷◌}
use mathlib.Core.Path.{◌≡◌, refl}
use Rattle.printing.specs.Printing.{ascii, decimal_from, decimal_of, hexadecimal_of}

decimals : decimal_of 0 ∷ decimal_of 7 ∷ decimal_of 10 ∷ decimal_of 1000000000 ∷ decimal_of 18446744073709551615 ∷ []
    ≡ ascii "0" ∷ ascii "7" ∷ ascii "10" ∷ ascii "1000000000" ∷ ascii "18446744073709551615" ∷ []
unfolding decimal_from
decimals = refl

hexadecimals : hexadecimal_of 2 0 ∷ hexadecimal_of 2 0x0A ∷ hexadecimal_of 4 0x1A ∷ hexadecimal_of 4 0xF012 ∷ []
    ≡ ascii "00" ∷ ascii "0A" ∷ ascii "001A" ∷ ascii "F012" ∷ []
hexadecimals = refl
