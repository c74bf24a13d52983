-- Tables of fields: which field breaks first, one table behind another, and what a layout that answers says.
use Rattle.std.proofs.Common.{◌≡◌, ℕ, true, List, [], ◌∷◌, ◌++◌, Some, None, Ok, refl, ap, inl, inr, arith}
use Rattle.std.specs.Option.{option_or}
use Rattle.std.specs.Result.{result_and}
use Rattle.frames.specs.Fields.{Field, Layout, AllHold, BreaksFirst, checked, first_bad, unless_bad, answered}
use Rattle.std.proofs.lemmas.Bool.{cases_Bool}
use Rattle.std.proofs.lemmas.Grind.{common_steps}

-- where no field breaks all hold
pub all_hold : (table : List Field) → first_bad table ≡ None → AllHold table
all_hold [] h = tt
all_hold (r ∷ rs) h = (grind (arith, common_steps), all_hold rs (grind (arith, common_steps)))

-- the field that a table tells is one of its own, it breaks, and none before it does
pub breaks_first : (table : List Field) (at : ℕ) → first_bad table ≡ Some at → BreaksFirst table at
breaks_first [] at h = cc
breaks_first (r ∷ rs) at h =
    elim (cases_Bool r.holds) [
      | inl is ↦
          let m = breaks_first rs at (grind (arith, common_steps)) in
          (r ∷ m.0, m.1, m.2, ap (λ xs. r ∷ xs) m.3, (is, m.4), m.5, m.6)
      | inr is ↦ ([], r, rs, refl, tt, is, grind (arith, common_steps))
    ]

-- the first field that breaks is the first table's, if it has one
pub first_bad_append : (xs ys : List Field) → first_bad (xs ++ ys) ≡ option_or (first_bad xs) (first_bad ys)
first_bad_append [] ys = refl
first_bad_append (x ∷ xs) ys = grind (arith, common_steps, first_bad_append xs ys)

-- so none of two tables breaks where none of both together does
pub none_parts : (front back : List Field) → first_bad (front ++ back) ≡ None → (first_bad front ≡ None) × (first_bad back ≡ None)
none_parts front back h = grind (arith, common_steps, first_bad_append front back)

-- two tables are checked one after the other
pub checked_append :
    {F : Type 0} (front back : List Field) (f : F)
    → unless_bad (first_bad (front ++ back)) f ≡ result_and (checked front) (result_and (checked back) (Ok f))
checked_append {F} front back f = grind (arith, common_steps, first_bad_append front back)

-- a table that is passed has no field that breaks
pub none_bad : (table : List Field) → Ok tt ≡ checked table → first_bad table ≡ None
none_bad table e = grind (arith, common_steps)

-- a layout that answers a record is whole, no field breaks, and the record is what the fields show
pub answered_ok :
    {F : Type 0} (Good : F → Type 0) (layout : Layout F)
    → (layout.whole ≡ true → first_bad layout.fields ≡ None → Good layout.shown)
    → (f : F)
    → answered layout ≡ Ok f
    → Good f
answered_ok Good layout good f is = grind (arith, common_steps)
