-- A clock and its pairs say the same: from the clock to its pairs and back, and from pairs whose fields hold to their clock and back.
use Rattle.std.proofs.Common.{◌≡◌, ℕ, zero, suc, ◌+◌, ◌-◌, ◌<◌, ◌≤◌, List, [], ◌∷◌, length, get_or, replicate, set, None, refl, ap, arith}
use Rattle.frames.specs.Clocks.{clock_of, machines_of, counts_of, machine_fields, count_fields}
use Rattle.frames.specs.Fields.{first_bad}
use Rattle.std.proofs.lemmas.Grind.{common_steps}

-- as many machine numbers as counts
pub same_count : (j : ℕ) (clock : List ℕ) → length (machines_of j clock) ≡ length (counts_of clock)
same_count j [] = refl
same_count j (c ∷ clock) = grind (arith, common_steps, same_count (j + 1) clock)

-- at most one pair for each machine, and fewer where a machine has none
counts_few : (clock : List ℕ) → length (counts_of clock) ≤ length clock
counts_few [] = omega arith
counts_few (c ∷ clock) = grind (arith, common_steps, counts_few clock)

pub counts_fewer :
    (clock : List ℕ) (i : ℕ) → i < length clock → get_or clock i 0 ≡ 0 → length (counts_of clock) < length clock
counts_fewer [] i l z = absurd (omega arith)
counts_fewer (c ∷ clock) zero l z = grind (arith, common_steps, counts_few clock)
counts_fewer (c ∷ clock) (suc i) l z = grind (arith, common_steps, counts_fewer clock i (omega arith) z)

-- a machine below those of a clock has no pair of it
clock_skips :
    (size low j : ℕ) (clock cs : List ℕ)
    → low < j
    → clock_of (suc size) low (machines_of j clock) cs ≡ 0 ∷ clock_of size (low + 1) (machines_of j clock) cs
clock_skips size low j [] cs l = refl
clock_skips size low j (c ∷ clock) [] l = grind (arith, common_steps, clock_skips size low (j + 1) clock [] (omega arith))
clock_skips size low j (c ∷ clock) (d ∷ cs) l = grind (arith, common_steps, clock_skips size low (j + 1) clock (d ∷ cs) (omega arith))

-- the pairs of a clock give that clock
pub clock_back : (j : ℕ) (clock : List ℕ) → clock_of (length clock) j (machines_of j clock) (counts_of clock) ≡ clock
clock_back j [] = refl
clock_back j (c ∷ clock) =
    grind (arith, common_steps, clock_back (j + 1) clock, clock_skips (length clock) j (j + 1) clock (counts_of clock) (omega arith))

-- a clock of a size has that many counts
pub length_clock : (size j : ℕ) (ms cs : List ℕ) → length (clock_of size j ms cs) ≡ size
length_clock zero j ms cs = refl
length_clock (suc size) j [] cs = ap suc (length_clock size (j + 1) [] cs)
length_clock (suc size) j (m ∷ ms) [] = ap suc (length_clock size (j + 1) (m ∷ ms) [])
length_clock (suc size) j (m ∷ ms) (c ∷ cs) = grind (arith, common_steps, length_clock size (j + 1))

-- the counts of pairs, each put into a clock that begins at machine j
abbrev pub put_all : ℕ → List ℕ → List ℕ → List ℕ → List ℕ
put_all j clock [] cs = clock
put_all j clock (m ∷ ms) [] = clock
put_all j clock (m ∷ ms) (c ∷ cs) = put_all j (set clock (m - j) c) ms cs

module _ (n author : ℕ) where
  -- what a machine's count may be
  abbrev pub MayHave : ℕ → ℕ → Type 0
  MayHave m c = (c ≤ 40) × (m ≡ author → c ≡ 0) × (n < m → c ≡ 0)

  -- the pairs of a clock whose counts may be so keep their rules
  pub pairs_hold :
      (at first previous j : ℕ) (clock : List ℕ)
      → previous < j
      → ((i : ℕ) → MayHave (j + i) (get_or clock i 0))
      → (first_bad (machine_fields n author at previous (machines_of j clock)) ≡ None)
      × (first_bad (count_fields first (counts_of clock)) ≡ None)
  pairs_hold at first previous j [] l range = (refl, refl)
  pairs_hold at first previous j (c ∷ clock) l range =
      let later : (i : ℕ) → MayHave (j + 1 + i) (get_or clock i 0) = λ i. grind (arith, range (suc i)) in
      grind (
        arith,
        common_steps,
        range 0,
        pairs_hold at first previous (j + 1) clock (omega arith) later,
        pairs_hold (at + 1) (first + 1) j (j + 1) clock (omega arith) later,
      )

  -- the counts of a clock whose pairs hold
  pub in_range :
      (at first previous j : ℕ) (clock : List ℕ) (i : ℕ)
      → first_bad (machine_fields n author at previous (machines_of j clock)) ≡ None
      → first_bad (count_fields first (counts_of clock)) ≡ None
      → MayHave (j + i) (get_or clock i 0)
  in_range at first previous j [] i h k = (omega arith, λ e. refl, λ e. refl)
  in_range at first previous j (c ∷ clock) zero h k = grind (arith, common_steps)
  in_range at first previous j (c ∷ clock) (suc i) h k =
      grind (arith, common_steps, in_range at first previous (j + 1) clock i, in_range (at + 1) (first + 1) j (j + 1) clock i)

  -- pairs of later machines leave the first count as it is
  put_later :
      (j at previous x : ℕ) (xs ms cs : List ℕ)
      → j ≤ previous
      → first_bad (machine_fields n author at previous ms) ≡ None
      → put_all j (x ∷ xs) ms cs ≡ x ∷ put_all (j + 1) xs ms cs
  put_later j at previous x xs [] cs l h = refl
  put_later j at previous x xs (m ∷ ms) [] l h = refl
  put_later j at previous x xs (m ∷ ms) (c ∷ cs) l h =
      let place : previous < m → m - j ≡ suc (m - (j + 1)) = λ less. omega arith in
      grind (arith, common_steps, place, put_later j (at + 1) m x (set xs (m - (j + 1)) c) ms cs)

  -- the clock of pairs whose fields hold gives those pairs, and is what putting each into zeros makes
  pub pairs_back :
      (size at first previous : ℕ) (ms cs : List ℕ)
      → n ≤ previous + size
      → length ms ≡ length cs
      → first_bad (machine_fields n author at previous ms) ≡ None
      → first_bad (count_fields first cs) ≡ None
      → (machines_of (previous + 1) (clock_of size (previous + 1) ms cs) ≡ ms)
      × (counts_of (clock_of size (previous + 1) ms cs) ≡ cs)
      × (put_all (previous + 1) (replicate size 0) ms cs ≡ clock_of size (previous + 1) ms cs)
  pairs_back zero at first previous [] [] l s h k = (refl, refl, refl)
  pairs_back zero at first previous (m ∷ ms) cs l s h k = grind (arith, common_steps)
  pairs_back size at first previous [] (c ∷ cs) l s h k = absurd (omega arith)
  pairs_back size at first previous (m ∷ ms) [] l s h k = absurd (omega arith)
  pairs_back (suc size) at first previous [] [] l s h k =
      grind (arith, common_steps, pairs_back size at first (previous + 1) [] [] (omega arith) refl refl refl)
  pairs_back (suc size) at first previous (m ∷ ms) (c ∷ cs) l s h k =
      grind (
        arith,
        common_steps,
        pairs_back size (at + 1) (first + 1) (previous + 1) ms cs (omega arith) (omega arith),
        put_later (previous + 1) (at + 1) (previous + 1) c (replicate size 0) ms cs (omega arith),
        pairs_back size at first (previous + 1) (m ∷ ms) (c ∷ cs) (omega arith) s,
        put_later (previous + 1) at (previous + 1) 0 (replicate size 0) (m ∷ ms) (c ∷ cs) (omega arith),
      )
