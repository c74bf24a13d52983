-- Contributions and fills, over any value kind: the same text for places and questions.
use Rattle.std.specs.Prelude.{◌≡◌, ℕ, ◌≤◌, true, List, [], ◌∷◌, length, ◌==◌}
use Rattle.frames.specs.Fields.{Field, Layout, field, byte, word, high, low, within}
use Rattle.frames.specs.declared.frame.Contribution.{Contribution}
use Rattle.frames.specs.declared.frame.Fill.{Fill}
use Rattle.values.specs.Kinds.{Kind}

-- both begin, behind the kind byte, with the sender and the ballot's number
abbrev pub with_head : {V : Type 0} → Kind V → ℕ → List ℕ → List Field → List Field
with_head K n bytes rest = field 1 1 (within 1 n (byte bytes 1)) ∷ field 2 2 (within 1 K.highest (word bytes 2)) ∷ rest

abbrev pub contribution_layout : {V : Type 0} → Kind V → ℕ → List ℕ → Layout (Contribution V)
contribution_layout K n bytes =
    record {
      whole = (length bytes == 8);
      fields =
          with_head K n bytes
          (field 4 2 (within 1 60000 (word bytes 4)) ∷ field 6 2 (K.reads n (byte bytes 6) (byte bytes 7)) ∷ []);
      shown =
          record {
            sender = byte bytes 1;
            ballot = word bytes 2;
            round = word bytes 4;
            value = K.value (byte bytes 6) (byte bytes 7);
          };
    }

abbrev pub contribution_spelling : {V : Type 0} → Kind V → Contribution V → List ℕ
contribution_spelling K c =
    K.contribution
    ∷ c.sender
    ∷ high c.ballot
    ∷ low c.ballot
    ∷ high c.round
    ∷ low c.round
    ∷ K.high c.value
    ∷ K.low c.value
    ∷ []

-- a sender, a ballot and a value that there can be in a fleet of n machines
pub record ValidVote {V : Type 0} (K : Kind V) (n sender ballot : ℕ) (value : V) : Type 0 where
  pub sender_least : 1 ≤ sender
  pub sender_most : sender ≤ n
  pub ballot_least : 1 ≤ ballot
  pub ballot_most : ballot ≤ K.highest
  pub value_exists : K.exists n value ≡ true

pub record ValidContribution {V : Type 0} (K : Kind V) (n : ℕ) (c : Contribution V) : Type 0 where
  pub vote : ValidVote K n c.sender c.ballot c.value
  pub round_least : 1 ≤ c.round
  pub round_most : c.round ≤ 60000

abbrev pub fill_layout : {V : Type 0} → Kind V → ℕ → List ℕ → Layout (Fill V)
fill_layout K n bytes =
    record {
      whole = (length bytes == 6);
      fields = with_head K n bytes (field 4 2 (K.reads n (byte bytes 4) (byte bytes 5)) ∷ []);
      shown =
          record {
            sender = byte bytes 1;
            ballot = word bytes 2;
            value = K.value (byte bytes 4) (byte bytes 5);
          };
    }

abbrev pub fill_spelling : {V : Type 0} → Kind V → Fill V → List ℕ
fill_spelling K f =
    K.fill ∷ f.sender ∷ high f.ballot ∷ low f.ballot ∷ K.high f.value ∷ K.low f.value ∷ []

abbrev pub ValidFill : {V : Type 0} → Kind V → ℕ → Fill V → Type 0
ValidFill K n f = ValidVote K n f.sender f.ballot f.value
