-- That copies of one row are a sound journal: lemmas, here because the proof of a law can cite no other place.
use Rattle.std.specs.Prelude.{◌≡◌, ℕ, ◌<◌, ◌≤◌, [], length, replicate, slice_index, refl}
use Rattle.std.proofs.Common.{subst, sym, arith}
use Rattle.std.proofs.lemmas.Grind.{common_steps}
use Rattle.std.proofs.lemmas.List.{get_or-replicate, length-replicate}
use Rattle.journals.specs.Journals.{Row, Sound, most_rows, row_bytes}
use Rattle.journals_tests.specs.Copies.{copies, sevens}

seven_bytes : (n i : ℕ) → slice_index (replicate n 7) i < 256
seven_bytes n i = grind (arith, common_steps, get_or-replicate)

pub copies_length : (n : ℕ) → length (replicate n sevens) ≡ n
copies_length n = length-replicate n sevens

pub copies_sound : (n : ℕ) → n ≤ most_rows → Sound (copies n)
copies_sound n few = record {
  bounded = omega (arith, copies_length n);
  shaped = λ i lt.
      let inside : i < n = omega (arith, copies_length n) in
      subst Row (sym (get_or-replicate n i sevens [] inside)) (refl, seven_bytes row_bytes);
}
