-- Contributions and fills of any value kind: written and read back, and read from no other bytes.
use Rattle.std.proofs.Common.{◌≡◌, ℕ, ◌+◌, ◌≤◌, true, List, [], drop, Ok, arith, rules}
use Rattle.frames.proofs.Tables.{all_hold, answered_ok}
use Rattle.frames.proofs.Words.{word_bytes, front_6, front_8}
use Rattle.frames.specs.Fields.{byte, word, within, answered}
use Rattle.frames.specs.Spelled.{Bytes}
use Rattle.frames.specs.Votes.{contribution_layout, contribution_spelling, ValidContribution, fill_layout, fill_spelling, ValidFill, ValidVote}
use Rattle.frames.specs.declared.frame.Contribution.{Contribution}
use Rattle.frames.specs.declared.frame.Fill.{Fill}
use Rattle.std.proofs.lemmas.Bool.Decides.{nat_tests}
use Rattle.std.proofs.lemmas.Grind.{common_steps}
use Rattle.std.proofs.lemmas.List.{drop_all}
use Rattle.values.specs.Kinds.{Kind, Lawful}

module _ {V : Type 0} (K : Kind V) (L : Lawful K) (n : ℕ) (one : 1 ≤ n) (nine : n ≤ 9) where
  pub contribution_back :
      (c : Contribution V)
      → ValidContribution K n c
      → answered (contribution_layout K n (contribution_spelling K c)) ≡ Ok c
  contribution_back c valid =
      let reads = L.reads_back n c.value one nine valid.vote.value_exists in
      let back = L.back n c.value one nine valid.vote.value_exists in
      grind (arith, common_steps, L.few)

  pub fill_back : (f : Fill V) → ValidFill K n f → answered (fill_layout K n (fill_spelling K f)) ≡ Ok f
  fill_back f v =
      let reads = L.reads_back n f.value one nine v.value_exists in
      let back = L.back n f.value one nine v.value_exists in
      grind (arith, common_steps, L.few)

  module _ (b : List ℕ) (bytes : Bytes b) where
    module _ (k : ℕ) (reads : K.reads n (byte b k) (byte b (k + 1)) ≡ true) where
      value_bytes :
          (K.high (K.value (byte b k) (byte b (k + 1))) ≡ byte b k)
          × (K.low (K.value (byte b k) (byte b (k + 1))) ≡ byte b (k + 1))
      value_bytes = search rules

      vote_valid :
          within 1 n (byte b 1) ≡ true
          → within 1 K.highest (word b 2) ≡ true
          → ValidVote K n (byte b 1) (word b 2) (K.value (byte b k) (byte b (k + 1)))
      vote_valid sender ballot = search (rules, nat_tests)

    pub contribution_only :
        byte b 0 ≡ K.contribution
        → (c : Contribution V)
        → answered (contribution_layout K n b) ≡ Ok c
        → ValidContribution K n c × (b ≡ contribution_spelling K c)
    contribution_only kind =
        answered_ok (λ c. ValidContribution K n c × (b ≡ contribution_spelling K c)) (contribution_layout K n b)
        (λ whole none.
        let hold = all_hold (contribution_layout K n b).fields none in
        let reads = hold.1.1.1.0 in
        let front = front_8 b (grind (arith, nat_tests)) in
        let rest : drop 8 b ≡ [] = drop_all 8 b (grind (arith, nat_tests)) in
        let ballot = word_bytes b bytes 2 in
        let round = word_bytes b bytes 4 in
        let value = value_bytes 6 reads in (
          (let vote = vote_valid 6 reads hold.0 hold.1.0 in search (rules, nat_tests)),
          cc,
        ))

    pub fill_only :
        byte b 0 ≡ K.fill
        → (f : Fill V)
        → answered (fill_layout K n b) ≡ Ok f
        → ValidFill K n f × (b ≡ fill_spelling K f)
    fill_only kind =
        answered_ok (λ f. ValidFill K n f × (b ≡ fill_spelling K f)) (fill_layout K n b)
        (λ whole none.
        let hold = all_hold (fill_layout K n b).fields none in
        let reads = hold.1.1.0 in
        let front = front_6 b (grind (arith, nat_tests)) in
        let rest : drop 6 b ≡ [] = drop_all 6 b (grind (arith, nat_tests)) in
        let ballot = word_bytes b bytes 2 in
        let value = value_bytes 4 reads in
        (vote_valid 4 reads hold.0 hold.1.0, cc))
