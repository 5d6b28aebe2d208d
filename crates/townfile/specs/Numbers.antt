-- "A number is decimal, 1 to 7 digits, without a leading zero unless it is just 0."
use Rattle.std.specs.Prelude.{ℕ, ◌+◌, ◌-◌, ◌*◌, Bool, ◌&&◌, ◌||◌, not, List, [], ◌∷◌, leb, ltb, eqb, length, get_or}
use Rattle.model.specs.Rules.{every}
use Rattle.townfile.specs.Bytes.{digit}

-- What a number comes to with more digits behind it.
unfoldable pub decimal_from : ℕ → List ℕ → ℕ
decimal_from n [] = n
decimal_from n (byte ∷ bytes) = decimal_from (n * 10 + (byte - 48)) bytes

abbrev pub decimal : List ℕ → ℕ
decimal bytes = decimal_from 0 bytes

unfoldable pub number_keeps : List ℕ → Bool
number_keeps bytes =
    ltb 0 (length bytes) && leb (length bytes) 7 && every digit bytes && (not (eqb (get_or bytes 0 0) 48) || eqb (length bytes) 1)
