-- Changes: written and read back, and read from no other bytes.
use Rattle.std.proofs.Common.{◌≡◌, ℕ, ◌+◌, ◌-◌, ◌*◌, ◌≤◌, true, List, length, get_or, drop, None, Ok, replicate, arith}
use Rattle.frames.proofs.Paired.{same_count, counts_fewer, pairs_hold, clock_back, length_clock, pairs_back, put_all, in_range, MayHave}
use Rattle.frames.proofs.Tables.{all_hold, answered_ok, first_bad_append, none_parts}
use Rattle.frames.proofs.Words.{front_8, signed_back, signed_bytes, word_bytes}
use Rattle.frames.specs.Changes.{pairs, machines_in, counts_in, fixed_fields, pair_fields, change_in, change_whole, change_layout, change_spelling, ValidChange}
use Rattle.frames.specs.Clocks.{clock_of, machines_of, counts_of, machine_fields, count_fields}
use Rattle.frames.specs.Fields.{byte, first_bad, answered}
use Rattle.frames.specs.Spelled.{Bytes}
use Rattle.frames.specs.declared.frame.Change.{Change}
use Rattle.std.proofs.lemmas.Bool.Decides.{nat_tests}
use Rattle.std.proofs.lemmas.Grind.{common_steps}
use Rattle.std.proofs.lemmas.List.{take_at, drop_at, take-append-drop}

module _ (n : ℕ) (one : 1 ≤ n) (nine : n ≤ 9) where
  module _ (c : Change) (v : ValidChange n c) where
    abbrev clock : List ℕ
    clock = c.forerunners.counts

    abbrev ms : List ℕ
    ms = machines_of 1 clock

    abbrev cs : List ℕ
    cs = counts_of clock

    few : length cs ≤ 8
    few =
        let fewer = counts_fewer clock (c.author - 1) (omega (arith, v.nine, v.author_least, v.author_most)) v.no_own in
        omega (arith, v.nine)

    may : (i : ℕ) → MayHave n c.author (1 + i) (get_or clock i 0)
    may i = grind (arith, v.counts_most i, v.none_above i, v.no_own, v.author_least)

    pub change_back : answered (change_layout n (change_spelling c)) ≡ Ok c
    change_back =
        let same = same_count 1 clock in
        let machines = take_at ms cs (length cs) same in
        let counts = drop_at ms cs (length cs) same in
        let hold = pairs_hold n c.author 8 (8 + length cs) 0 1 clock (omega arith) may in
        let back : clock_of 9 1 ms cs ≡ clock = rw v.nine at (clock_back 1 clock) in
        let level = signed_back c.level v.level_fits in
        grind (arith, common_steps, few, first_bad_append (machine_fields n c.author 8 0 ms) (count_fields (8 + length cs) cs))

  module _ (b : List ℕ) (bytes : Bytes b) (is : change_whole b ≡ true) where
    abbrev there : List ℕ
    there = clock_of 9 1 (machines_in b) (counts_in b)

    whole : (pairs b ≤ 8) × (length b ≡ 8 + 2 * pairs b)
    whole = grind (arith, nat_tests)

    long : (length (machines_in b) ≡ pairs b) × (length (counts_in b) ≡ pairs b)
    long = grind (arith, common_steps, whole)

    module _ (machines_hold : first_bad (machine_fields n (byte b 2) 8 0 (machines_in b)) ≡ None) (counts_hold : first_bad (count_fields (8 + pairs b) (counts_in b)) ≡ None) where
      back :
          (machines_of 1 there ≡ machines_in b)
          × (counts_of there ≡ counts_in b)
          × (put_all 1 (replicate 9 0) (machines_in b) (counts_in b) ≡ there)
      back =
          pairs_back n (byte b 2) 9 8 (8 + pairs b) 0 (machines_in b) (counts_in b) nine (omega (arith, long)) machines_hold counts_hold

      range : (i : ℕ) → MayHave n (byte b 2) (1 + i) (get_or there i 0)
      range i =
          let m = back.0 in
          let c = back.1 in
          in_range n (byte b 2) 8 (8 + pairs b) 0 1 there i (rw m machines_hold) (rw c counts_hold)

      spelled : byte b 0 ≡ 1 → b ≡ change_spelling (change_in b)
      spelled kind =
          let front = front_8 b (omega (arith, whole)) in
          let rest = take-append-drop (pairs b) (drop 8 b) in
          let setting = word_bytes b bytes 4 in
          let level = signed_bytes b bytes 6 in
          let m = long.1 in
          cc (back.0, back.1)

      valid : first_bad (fixed_fields n b) ≡ None → ValidChange n (change_in b)
      valid none =
          let hold = all_hold (fixed_fields n b) none in
          record {
            author_least = grind (arith, nat_tests);
            author_most = grind (arith, nat_tests);
            number_least = grind (arith, nat_tests);
            number_most = grind (arith, nat_tests);
            setting_most = grind (arith, nat_tests);
            level_fits = (signed_bytes b bytes 6).0;
            nine = length_clock 9 1 (machines_in b) (counts_in b);
            counts_most = λ j. (range j).0;
            no_own = (range (byte b 2 - 1)).1 (grind (arith, nat_tests));
            none_above = λ j l. (range j).2 (omega arith);
          }

  pub change_only :
      (b : List ℕ) → Bytes b
      → byte b 0 ≡ 1
      → (c : Change)
      → answered (change_layout n b) ≡ Ok c
      → ValidChange n c × (b ≡ change_spelling c)
  change_only b bytes kind =
      answered_ok (λ c. ValidChange n c × (b ≡ change_spelling c)) (change_layout n b)
      (λ whole none.
      let hold = none_parts (fixed_fields n b) (pair_fields n b) none in
      let both = none_parts (machine_fields n (byte b 2) 8 0 (machines_in b)) (count_fields (8 + pairs b) (counts_in b)) hold.1 in
      (valid b bytes whole both.0 both.1 hold.0, spelled b bytes whole both.0 both.1 kind))
