-- How many lines of each sort there were.
use Rattle.std.specs.Prelude.{ℕ, ◌+◌, ◌-◌, ◌^◌, min, List, ◌++◌, codes, decimal}
use Rattle.captures.specs.declared.outcome.Outcome.{Outcome}
use Rattle.captures.specs.declared.outcome.Outcome.TheVariants.{Good, Refused, Unreadable}
use Rattle.captures.specs.declared.outcome.Tally.{Tally}

abbrev pub none_yet : Tally
none_yet = record { good = 0; refused = 0; unreadable = 0 }

-- a count stops at the highest number of 64 bits
abbrev pub one_more : ℕ → ℕ
one_more count = min (count + 1) (2 ^ 64 - 1)

abbrev pub counted : Tally → Outcome → Tally
counted t Good = record { good = one_more t.good; refused = t.refused; unreadable = t.unreadable }
counted t Refused = record { good = t.good; refused = one_more t.refused; unreadable = t.unreadable }
counted t Unreadable = record { good = t.good; refused = t.refused; unreadable = one_more t.unreadable }

abbrev pub tally_words : Tally → List ℕ
tally_words t =
    codes "good "
    ++ (decimal t.good ++ (codes " refused " ++ (decimal t.refused ++ (codes " unreadable " ++ decimal t.unreadable))))
