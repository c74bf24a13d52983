-- What a value kind means, and the laws that every value kind keeps in fleets of 1 to 9 machines.
use Rattle.std.specs.Prelude.{◌≡◌, ℕ, ◌<◌, ◌≤◌, Bool, true, false}

pub record Kind (V : Type 0) : Type 0 where
  -- ballots of the kind are numbered from 1 to this
  pub highest : ℕ
  -- the first byte of a contribution, and of a fill
  pub contribution : ℕ
  pub fill : ℕ
  -- the order of the values
  pub before : V → V → Bool
  -- which values there are in a fleet of n machines
  pub exists : ℕ → V → Bool
  -- the two bytes in which a value is written, the high one first
  pub high : V → ℕ
  pub low : V → ℕ
  -- whether two bytes read as a value in a fleet of n machines, and as which
  pub reads : ℕ → ℕ → ℕ → Bool
  pub value : ℕ → ℕ → V

-- that these three are the numbers of the kind
pub record Numbered {V : Type 0} (K : Kind V) (highest contribution fill : ℕ) : Type 0 where
  pub highest_is : highest ≡ K.highest
  pub contribution_is : contribution ≡ K.contribution
  pub fill_is : fill ≡ K.fill

pub record Lawful {V : Type 0} (K : Kind V) : Type 0 where
  -- the highest ballot number is 1 to 400, and the two frame kinds are different bytes
  pub some : 1 ≤ K.highest
  pub few : K.highest ≤ 400
  pub apart : K.contribution ≡ K.fill → ⊥
  -- no value is before itself; of two different values exactly one is before the other; the order carries through a third
  pub never : (v : V) → K.before v v ≡ false
  pub one_way : (v w : V) → K.before v w ≡ true → K.before w v ≡ false
  pub total : (v w : V) → K.before v w ≡ false → K.before w v ≡ false → v ≡ w
  pub through : (u v w : V) → K.before u v ≡ true → K.before v w ≡ true → K.before u w ≡ true
  -- the two bytes of a value that exists are bytes, and read back as that value
  pub high_byte : (n : ℕ) (v : V) → 1 ≤ n → n ≤ 9 → K.exists n v ≡ true → K.high v < 256
  pub low_byte : (n : ℕ) (v : V) → 1 ≤ n → n ≤ 9 → K.exists n v ≡ true → K.low v < 256
  pub reads_back : (n : ℕ) (v : V) → 1 ≤ n → n ≤ 9 → K.exists n v ≡ true → K.reads n (K.high v) (K.low v) ≡ true
  pub back : (n : ℕ) (v : V) → 1 ≤ n → n ≤ 9 → K.exists n v ≡ true → K.value (K.high v) (K.low v) ≡ v
  -- two bytes that read as a value read as one that exists, and are the ones that it is written in
  pub good : (n h l : ℕ) → 1 ≤ n → n ≤ 9 → h < 256 → l < 256 → K.reads n h l ≡ true → K.exists n (K.value h l) ≡ true
  pub exact_high : (n h l : ℕ) → 1 ≤ n → n ≤ 9 → h < 256 → l < 256 → K.reads n h l ≡ true → K.high (K.value h l) ≡ h
  pub exact_low : (n h l : ℕ) → 1 ≤ n → n ≤ 9 → h < 256 → l < 256 → K.reads n h l ≡ true → K.low (K.value h l) ≡ l
