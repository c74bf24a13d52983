-- A refused reading is the first refusal that fits.
use Rattle.std.proofs.Common.{◌≡◌, ℕ, List, Ok, Err, Result, refl, inl, inr, arith}
use Rattle.frames.proofs.Readings.{by_kind}
use Rattle.frames.proofs.Tables.{breaks_first}
use Rattle.frames.specs.Fields.{Layout, Refuses, answered}
use Rattle.frames.specs.Frames.{FirstRefusal, framed, reading}
use Rattle.frames.specs.Spelled.{RefusedFirst}
use Rattle.frames.specs.declared.fault.FrameFault.{FrameFault}
use Rattle.frames.specs.declared.frame.Frame.{Frame}
use Rattle.frames.specs.declared.frame.Frame.TheVariants.{Change, PlaceContribution, PlaceFill, QuestionContribution, QuestionFill}
use Rattle.std.proofs.lemmas.Grind.{common_steps}
use Rattle.values.specs.Kinds.{Kind}

layout_refuses : {F : Type 0} (layout : Layout F) (e : FrameFault) → answered layout ≡ Err e → Refuses layout e
layout_refuses layout e is = grind (arith, common_steps, breaks_first)

module _ {Q : Type 0} (K : Kind Q) (n : ℕ) (b : List ℕ) where
  -- the refusal of the kind that was tried, if it refuses
  of_layout :
      {F : Type 0} (make : F → Frame Q) (layout : Layout F)
      → ((e : FrameFault) → Refuses layout e → FirstRefusal K n b e)
      → RefusedFirst K n b (framed make (answered layout))
  of_layout {F} make layout tells = at (answered layout) (layout_refuses layout)
    where
      at : (r : Result F FrameFault) → ((e : FrameFault) → r ≡ Err e → Refuses layout e) → RefusedFirst K n b (framed make r)
      at (Ok f) why = tt
      at (Err e) why = tells e (why e refl)

  pub refused_first : (r : Result (Frame Q) FrameFault) → r ≡ reading K n b → RefusedFirst K n b r
  refused_first r is =
      rw is
      (by_kind K n b (RefusedFirst K n b)
      (λ k. of_layout Change _ (λ e r. inr (inl (k, r))))
      (λ k. of_layout PlaceContribution _ (λ e r. inr (inr (inl (k, r)))))
      (λ k. of_layout PlaceFill _ (λ e r. inr (inr (inr (inl (k, r))))))
      (λ k. of_layout QuestionContribution _ (λ e r. inr (inr (inr (inr (inl (k, r)))))))
      (λ k. of_layout QuestionFill _ (λ e r. inr (inr (inr (inr (inr (k, r)))))))
      (λ none. inl (refl, none)))
