-- Frames of every kind: one frame, one spelling.
use Rattle.std.proofs.Common.{◌≡◌, ℕ, ◌≤◌, List, take, Ok, Err, Result, sym, ap, ◌∙◌, arith}
use Rattle.frames.proofs.Changed.{change_back, change_only}
use Rattle.frames.proofs.Readings.{by_kind}
use Rattle.frames.proofs.Voted.{contribution_back, contribution_only, fill_back, fill_only}
use Rattle.frames.specs.Frames.{framed, reading, spelling, Valid}
use Rattle.frames.specs.Spelled.{Bytes, Spelled, FoundBack, ReadsBack, SameFromSameBytes, SameFromSameFrame}
use Rattle.frames.specs.Writing.{write_answer, written}
use Rattle.frames.specs.declared.fault.BufferTooShort.{BufferTooShort}
use Rattle.frames.specs.declared.fault.FrameFault.{FrameFault}
use Rattle.frames.specs.declared.frame.Frame.{Frame}
use Rattle.frames.specs.declared.frame.Frame.TheVariants.{Change, PlaceContribution, PlaceFill, QuestionContribution, QuestionFill}
use Rattle.std.proofs.lemmas.Grind.{common_steps}
use Rattle.values.proofs.Lawfulness.{mark_lawful}
use Rattle.values.specs.Kinds.{Kind, Lawful}
use Rattle.values.specs.Marks.{mark_kind}

-- what an accepted writing leaves at the front of a buffer
front_written :
    (s before after : List ℕ) (len : ℕ)
    → ◌≡◌ {A = Result ℕ BufferTooShort} (Ok len) (write_answer s before)
    → after ≡ written s before
    → take len after ≡ s
front_written s before after len answer is = grind (arith, common_steps)

module _ {Q : Type 0} (K : Kind Q) (L : Lawful K) (four : K.contribution ≡ 4) (five : K.fill ≡ 5) where
  pub reads_back : ReadsBack K
  reads_back n (Change c) one nine v = ap (framed Change) (change_back n one nine c v)
  reads_back n (PlaceContribution c) one nine v = ap (framed PlaceContribution) (contribution_back mark_kind mark_lawful n one nine c v)
  reads_back n (PlaceFill f) one nine v = ap (framed PlaceFill) (fill_back mark_kind mark_lawful n one nine f v)
  reads_back n (QuestionContribution c) one nine v = grind (arith, common_steps, contribution_back K L n one nine c v)
  reads_back n (QuestionFill f) one nine v = grind (arith, common_steps, fill_back K L n one nine f v)

  module _ (n : ℕ) (one : 1 ≤ n) (nine : n ≤ 9) (b : List ℕ) (bytes : Bytes b) where
    abbrev Good : Frame Q → Type 0
    Good f = Valid K n f × (b ≡ spelling K f)

    -- the record of the kind that was tried, as a frame
    of_layout :
        {F : Type 0} (make : F → Frame Q) (r : Result F FrameFault)
        → ((g : F) → r ≡ Ok g → Good (make g))
        → (f : Frame Q)
        → framed make r ≡ Ok f
        → Good f
    of_layout make r good f is = grind (arith, common_steps)

    only_spelling : (f : Frame Q) → reading K n b ≡ Ok f → Valid K n f × (b ≡ spelling K f)
    only_spelling =
        by_kind K n b (λ r. (f : Frame Q) → r ≡ Ok f → Good f)
        (λ k. of_layout Change _ (change_only n one nine b bytes k))
        (λ k. of_layout PlaceContribution _ (contribution_only mark_kind mark_lawful n one nine b bytes k))
        (λ k. of_layout PlaceFill _ (fill_only mark_kind mark_lawful n one nine b bytes k))
        (λ k. of_layout QuestionContribution _ (contribution_only K L n one nine b bytes k))
        (λ k. of_layout QuestionFill _ (fill_only K L n one nine b bytes k))
        (λ none f e. cc)

  pub spelled : (n : ℕ) → 1 ≤ n → n ≤ 9 → (b : List ℕ) → Bytes b → (r : Result (Frame Q) FrameFault) → r ≡ reading K n b → Spelled K n b r
  spelled n one nine b bytes (Ok f) e = only_spelling n one nine b bytes f (sym e)
  spelled n one nine b bytes (Err fault) e =
      λ f v is. let back = reads_back n f one nine v in cc

  -- what a buffer holds after a frame was written reads as that frame
  pub found_back :
      (f : Frame Q) (before after : List ℕ) (r : Result ℕ BufferTooShort)
      → r ≡ write_answer (spelling K f) before
      → after ≡ written (spelling K f) before
      → FoundBack K f r after
  found_back f before after (Err fault) answer is = tt
  found_back f before after (Ok len) answer is =
      λ n one nine v.
      ap (reading K n) (front_written (spelling K f) before after len answer is) ∙ reads_back n f one nine v

  pub same_from_same_bytes : SameFromSameBytes K
  same_from_same_bytes n b f g e h = cc

  pub same_from_same_frame : SameFromSameFrame K
  same_from_same_frame n b c f one nine bytes others e h =
      (only_spelling n one nine b bytes f e).1 ∙ sym (only_spelling n one nine c others f h).1
