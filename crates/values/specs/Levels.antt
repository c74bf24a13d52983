-- Levels: −400 to 1,200 tenths of a degree, written as a signed number of 16 bits in two's complement, high byte first.
use Rattle.std.specs.Prelude.{ℕ, ◌+◌, ◌*◌, ◌/◌, ◌%◌, Bool, ◌&&◌, ℤ, pos, negsuc, int_le, int_lt}
use Rattle.std.specs.Int.{w16, cast_signed, cast_unsigned}
use Rattle.values.specs.Kinds.{Kind}
use Rattle.values.specs.declared.level.Level.{Level}

-- the two bytes of a signed number of 16 bits, and back: the number as unsigned is z, or z + 65,536 where z is below 0
abbrev pub signed_high : ℤ → ℕ
signed_high z = cast_unsigned w16 z / 256 % 256

abbrev pub signed_low : ℤ → ℕ
signed_low z = cast_unsigned w16 z % 256

abbrev pub signed_of : ℕ → ℕ → ℤ
signed_of h l = cast_signed w16 (h * 256 + l)

-- −400 (`negsuc k` is −(k + 1)) to 1,200
abbrev pub level_exists : Level → Bool
level_exists v = int_le (negsuc 399) v.0 && int_le v.0 (pos 1200)

abbrev pub level_of : ℕ → ℕ → Level
level_of h l = record { 0 = signed_of h l }

-- by signed size; the same levels exist in every fleet
abbrev pub level_kind : Kind Level
level_kind =
    record {
      highest = 20;
      contribution = 4;
      fill = 5;
      before = λ v w. int_lt v.0 w.0;
      exists = λ n v. level_exists v;
      high = λ v. signed_high v.0;
      low = λ v. signed_low v.0;
      reads = λ n h l. level_exists (level_of h l);
      value = level_of;
    }
