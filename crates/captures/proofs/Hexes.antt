-- Reading hexadecimal, one step at a time.
use Rattle.std.proofs.Common.{◌≡◌, ℕ, ◌+◌, ◌-◌, ◌*◌, ◌<◌, ◌≤◌, true, false, List, [], ◌∷◌, ◌++◌, drop, get_or, length, take, Ok, Err, Result, Some, sym, refl, ap, arith}
use Rattle.std.specs.Char.{digit_value}
use Rattle.std.proofs.lemmas.Grind.{common_steps}
use Rattle.captures.specs.Hex.{blank, byte_of, digit, nibble, with_byte, hex_from, hex_line}
use Rattle.std.proofs.lemmas.List.{append_assoc, take_rest}

-- the library's value of a digit is what it counts
one_digit : (c : ℕ) → digit_value c < 16 → (digit c ≡ true) × (nibble c ≡ digit_value c)
one_digit c low = (grind (arith, common_steps), grind (arith, common_steps))

pub two_digits : (x y : ℕ) → digit_value x < 16 → digit_value y < 16 → byte_of x y ≡ Some (digit_value x * 16 + digit_value y)
two_digits x y hx hy = let a = one_digit x hx in let b = one_digit y hy in rw (a.0, a.1, b.0, b.1)

-- bytes that were read already, in front of the answer to the rest
abbrev pub behind : List ℕ → Result (List ℕ) ℕ → Result (List ℕ) ℕ
behind done (Ok bytes) = Ok (done ++ bytes)
behind done (Err column) = Err column

behind_byte : (done : List ℕ) (byte : ℕ) (r : Result (List ℕ) ℕ) → behind done (with_byte byte r) ≡ behind (done ++ byte ∷ []) r
behind_byte done byte (Ok bytes) = ap Ok (sym (append_assoc done (byte ∷ []) bytes))
behind_byte done byte (Err column) = refl

-- a blank in front, and two digits
hex_blank : (column x : ℕ) (rest : List ℕ) → blank x ≡ true → hex_from column (x ∷ rest) ≡ hex_from (column + 1) rest
hex_blank column x [] b = rw b
hex_blank column x (y ∷ rest) b = rw b

hex_byte :
    (column x y byte : ℕ) (rest : List ℕ)
    → blank x ≡ false
    → byte_of x y ≡ Some byte
    → hex_from column (x ∷ y ∷ rest) ≡ with_byte byte (hex_from (column + 2) rest)
hex_byte column x y byte rest b f = grind arith

-- the loop, before a rest of the line
pub record ReadUpTo (done rest line : List ℕ) : Type 0 where
  pub shorter : length rest ≤ length line
  pub answer : behind done (hex_from (length line - length rest + 1) rest) ≡ hex_line line

pub passed_blank :
    (line rest done : List ℕ)
    → ReadUpTo done rest line
    → 1 ≤ length rest
    → blank (get_or rest 0 0) ≡ true
    → ReadUpTo done (take (length rest - 1) (drop 1 rest)) line
passed_blank line [] done kept some b = absurd (omega arith)
passed_blank line (x ∷ rest) done kept some b =
    let column : length line - length rest + 1 ≡ length line - length (x ∷ rest) + 1 + 1 = omega arith in
    rw (take_rest (x ∷ rest) 1) (record {
      shorter = omega arith;
      answer = rw (column, ← hex_blank _ x rest b) kept.answer;
    })

pub passed_byte :
    (line rest done done' : List ℕ) (byte : ℕ)
    → ReadUpTo done rest line
    → 2 ≤ length rest
    → blank (get_or rest 0 0) ≡ false
    → byte_of (get_or rest 0 0) (get_or rest 1 0) ≡ Some byte
    → done' ≡ done ++ byte ∷ []
    → ReadUpTo done' (take (length rest - 2) (drop 2 rest)) line
passed_byte line [] done done' byte kept two b f e = absurd (omega arith)
passed_byte line (x ∷ []) done done' byte kept two b f e = absurd (omega arith)
passed_byte line (x ∷ y ∷ rest) done done' byte kept two b f e =
    let column : length line - length rest + 1 ≡ length line - length (x ∷ y ∷ rest) + 1 + 2 = omega arith in
    rw (take_rest (x ∷ y ∷ rest) 2) (record {
      shorter = omega arith;
      answer = rw (column, e, ← behind_byte, ← hex_byte _ x y byte rest b f) kept.answer;
    })
