-- Bytes and the numbers that two of them make.
use Rattle.std.proofs.Common.{◌≡◌, ℕ, ◌+◌, ◌≤◌, List, ◌∷◌, length, drop, ℤ, arith, rules, w16, FitsSigned}
use Rattle.frames.specs.Fields.{byte, word, high, low}
use Rattle.frames.specs.Spelled.{Bytes}
use Rattle.std.proofs.lemmas.Grind.{common_steps}
use Rattle.values.specs.Levels.{signed_high, signed_low, signed_of}

pub signed_back : (z : ℤ) → FitsSigned w16 z → signed_of (signed_high z) (signed_low z) ≡ z
signed_back z f = search rules

module _ (b : List ℕ) where
  module _ (bytes : Bytes b) where
    pub word_bytes : (k : ℕ) → (high (word b k) ≡ byte b k) × (low (word b k) ≡ byte b (k + 1))
    word_bytes k = omega (arith, bytes k, bytes (k + 1))

    pub signed_bytes :
        (k : ℕ)
        → FitsSigned w16 (signed_of (byte b k) (byte b (k + 1)))
        × (signed_high (signed_of (byte b k) (byte b (k + 1))) ≡ byte b k)
        × (signed_low (signed_of (byte b k) (byte b (k + 1))) ≡ byte b (k + 1))
    signed_bytes k = search (rules, bytes k, bytes (k + 1))

  -- a list by its first elements
  pub front_6 : 6 ≤ length b → b ≡ byte b 0 ∷ byte b 1 ∷ byte b 2 ∷ byte b 3 ∷ byte b 4 ∷ byte b 5 ∷ drop 6 b
  front_6 long = grind (arith, common_steps)

  pub front_8 :
      8 ≤ length b
      → b ≡ byte b 0 ∷ byte b 1 ∷ byte b 2 ∷ byte b 3 ∷ byte b 4 ∷ byte b 5 ∷ byte b 6 ∷ byte b 7 ∷ drop 8 b
  front_8 long = grind (arith, common_steps)
