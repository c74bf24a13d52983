-- Worked examples of the two orders.
use Rattle.std.specs.Prelude.{◌≡◌, true, false, pos, negsuc}
use Rattle.values.specs.Levels.{level_kind}
use Rattle.values.specs.Marks.{mark_kind, mark_of}

-- author 2 number 1 is before author 1 number 3, and not the other way round
abbrev pub NumberBeforeAuthor : Type 0
NumberBeforeAuthor =
    (mark_kind.before (mark_of 2 1) (mark_of 1 3) ≡ true) × (mark_kind.before (mark_of 1 3) (mark_of 2 1) ≡ false)

-- −10 is before 30, though its bytes FF F6 are above 00 1E
abbrev pub SignedNotByBytes : Type 0
SignedNotByBytes =
    (level_kind.before (record { 0 = negsuc 9 }) (record { 0 = pos 30 }) ≡ true)
    × (level_kind.before (record { 0 = pos 30 }) (record { 0 = negsuc 9 }) ≡ false)
