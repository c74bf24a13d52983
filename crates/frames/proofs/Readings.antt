-- Reading by the first byte, one kind after the other.
use Rattle.std.proofs.Common.{◌≡◌, ℕ, eqb, List, Err, Result}
use Rattle.frames.specs.Changes.{change_layout}
use Rattle.frames.specs.Fields.{byte, answered}
use Rattle.frames.specs.Frames.{OfNoKind, framed, reading}
use Rattle.frames.specs.Votes.{contribution_layout, fill_layout}
use Rattle.frames.specs.declared.fault.FrameFault.{FrameFault}
use Rattle.frames.specs.declared.fault.FrameFault.TheVariants.{Kind as UnknownKind}
use Rattle.frames.specs.declared.frame.Frame.{Frame}
use Rattle.frames.specs.declared.frame.Frame.TheVariants.{Change, PlaceContribution, PlaceFill, QuestionContribution, QuestionFill}
use Rattle.std.proofs.lemmas.Bool.{cond_both, eqb-true, eqb-false}
use Rattle.values.specs.Kinds.{Kind}
use Rattle.values.specs.Marks.{mark_kind}

-- what holds of each kind's answer, where the first byte is of that kind, holds of the answer
pub by_kind :
    {Q : Type 0} (K : Kind Q) (n : ℕ) (b : List ℕ) (P : Result (Frame Q) FrameFault → Type 0)
    → (byte b 0 ≡ 1 → P (framed Change (answered (change_layout n b))))
    → (byte b 0 ≡ 2 → P (framed PlaceContribution (answered (contribution_layout mark_kind n b))))
    → (byte b 0 ≡ 3 → P (framed PlaceFill (answered (fill_layout mark_kind n b))))
    → (byte b 0 ≡ K.contribution → P (framed QuestionContribution (answered (contribution_layout K n b))))
    → (byte b 0 ≡ K.fill → P (framed QuestionFill (answered (fill_layout K n b))))
    → (OfNoKind K (byte b 0) → P (Err UnknownKind))
    → P (reading K n b)
by_kind K n b P change place place_fill question question_fill none =
    let k = byte b 0 in
    cond_both (eqb k 1) _ _ P (λ is. change (eqb-true k 1 is))
    (λ not1. cond_both (eqb k 2) _ _ P (λ is. place (eqb-true k 2 is))
    (λ not2. cond_both (eqb k 3) _ _ P (λ is. place_fill (eqb-true k 3 is))
    (λ not3. cond_both (eqb k K.contribution) _ _ P (λ is. question (eqb-true k K.contribution is))
    (λ not4. cond_both (eqb k K.fill) _ _ P (λ is. question_fill (eqb-true k K.fill is))
    (λ not5. none
    (eqb-false k 1 not1, eqb-false k 2 not2, eqb-false k 3 not3, eqb-false k K.contribution not4, eqb-false k K.fill not5))))))
