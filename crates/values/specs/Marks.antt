-- Marks: an author (1 to n) and a number (1 to 40), one byte each.
use Rattle.std.specs.Prelude.{ℕ, Bool, ◌&&◌, ◌||◌, ◌==◌, nat_le, nat_lt}
use Rattle.values.specs.Kinds.{Kind}
use Rattle.values.specs.declared.mark.Mark.{Mark}

-- by number, then by author
abbrev pub mark_before : Mark → Mark → Bool
mark_before v w = nat_lt v.number w.number || (v.number == w.number && nat_lt v.author w.author)

abbrev pub mark_exists : ℕ → Mark → Bool
mark_exists n v = nat_le 1 v.author && (nat_le v.author n && (nat_le 1 v.number && nat_le v.number 40))

abbrev pub mark_of : ℕ → ℕ → Mark
mark_of author number = record { author = author; number = number }

abbrev pub mark_kind : Kind Mark
mark_kind =
    record {
      highest = 360;
      contribution = 2;
      fill = 3;
      before = mark_before;
      exists = mark_exists;
      high = λ v. v.author;
      low = λ v. v.number;
      reads = λ n h l. mark_exists n (mark_of h l);
      value = mark_of;
    }
