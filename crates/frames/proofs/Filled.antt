-- A clock that is filled from its pairs, one at a time.
use Rattle.std.proofs.Common.{◌≡◌, ℕ, ◌+◌, ◌≤◌, ◌⊎◌, List, [], ◌∷◌, length, replicate, None, Ok, inl, inr, arith}
use Rattle.frames.proofs.Paired.{pairs_back, put_all}
use Rattle.frames.proofs.Tables.{none_bad}
use Rattle.frames.specs.Clocks.{clock_of, machine_fields, count_fields}
use Rattle.frames.specs.Fields.{checked, first_bad}
use Rattle.std.proofs.lemmas.Grind.{common_steps}

-- machine numbers that have a place in a clock of nine
abbrev Placed : List ℕ → Type 0
Placed [] = Unit {0}
Placed (m ∷ ms) = (1 ≤ m) × (m ≤ 9) × Placed ms

placed :
    (n author at previous : ℕ) (ms : List ℕ)
    → n ≤ 9
    → first_bad (machine_fields n author at previous ms) ≡ None
    → Placed ms
placed n author at previous [] nine h = tt
placed n author at previous (m ∷ ms) nine h =
    (grind (arith, common_steps), grind (arith, common_steps), placed n author (at + 1) m ms nine (grind (arith, common_steps)))

-- the loop over the pairs: those that are left fill the clock
abbrev pub Fills : List ℕ → List ℕ → List ℕ → List ℕ → Type 0
Fills clock ms cs all = Placed ms × (put_all 1 clock ms cs ≡ all)

pub fill_start :
    (n author first : ℕ) (ms cs : List ℕ)
    → n ≤ 9
    → length ms ≡ length cs
    → Ok tt ≡ checked (machine_fields n author 8 0 ms)
    → Ok tt ≡ checked (count_fields first cs)
    → Fills (replicate 9 0) ms cs (clock_of 9 1 ms cs)
fill_start n author first ms cs nine same machines counts =
    let hold = none_bad (machine_fields n author 8 0 ms) machines in
    let range = none_bad (count_fields first cs) counts in
    (placed n author 8 0 ms nine hold, (pairs_back n author 9 8 first 0 ms cs (omega arith) same hold range).2)

pub fill_end : (clock ms cs all : List ℕ) → (ms ≡ []) ⊎ (cs ≡ []) → Fills clock ms cs all → clock ≡ all
fill_end clock [] cs all e f = f.1
fill_end clock (m ∷ ms) cs all (inl e) f = cc
fill_end clock (m ∷ ms) cs all (inr e) f = (rw e at f).1
