-- Bytes in hexadecimal.
use Rattle.std.specs.Prelude.{◌≡◌, ℕ, ◌+◌, ◌-◌, ◌*◌, Bool, cond, ◌&&◌, ◌||◌, List, [], ◌∷◌, Some, None, Ok, Err, vec_items, Option, Result, Vec, ◌==◌, nat_le}
use Rattle.captures.specs.declared.hex.HexFault.{HexFault}
use Rattle.captures.specs.declared.hex.HexFault.TheVariants.{Column, Memory}
use Rattle.std.specs.declared.alloc.Global.{Global}

-- a space, a tab or a carriage return
abbrev pub blank : ℕ → Bool
blank c = c == 32 || (c == 9 || c == 13)

-- 0 to 9, A to F or a to f, and what it counts
abbrev pub digit : ℕ → Bool
digit c = (nat_le 48 c && nat_le c 57) || ((nat_le 65 c && nat_le c 70) || (nat_le 97 c && nat_le c 102))

abbrev pub nibble : ℕ → ℕ
nibble c = cond (nat_le c 57) (c - 48) (cond (nat_le c 70) (c - 55) (c - 87))

-- the byte that two digits make
abbrev pub byte_of : ℕ → ℕ → Option ℕ
byte_of x y = cond (digit x && digit y) (Some (nibble x * 16 + nibble y)) None

abbrev pub with_byte : ℕ → Result (List ℕ) ℕ → Result (List ℕ) ℕ
with_byte byte (Ok bytes) = Ok (byte ∷ bytes)
with_byte byte (Err column) = Err column

-- the bytes of a text that begins at a column: blanks may stand around them; else the column of the first character that
-- is neither a blank nor begins two digits
abbrev pub hex_from : ℕ → List ℕ → Result (List ℕ) ℕ
hex_from column [] = Ok []
hex_from column (x ∷ []) = cond (blank x) (Ok []) (Err column)
hex_from column (x ∷ y ∷ rest) =
    cond (blank x) (hex_from (column + 1) (y ∷ rest))
    (cond (digit x && digit y) (with_byte (nibble x * 16 + nibble y) (hex_from (column + 2) rest)) (Err column))

-- columns are counted from 1
abbrev pub hex_line : List ℕ → Result (List ℕ) ℕ
hex_line line = hex_from 1 line

-- what reading a line of hexadecimal answers, where there is memory
abbrev pub ReadsHex : List ℕ → Result (Vec ℕ Global) HexFault → Type 0
ReadsHex line (Ok bytes) = hex_line line ≡ Ok (vec_items bytes)
ReadsHex line (Err (Column column)) = hex_line line ≡ Err column
ReadsHex line (Err (Memory error)) = Unit {0}
