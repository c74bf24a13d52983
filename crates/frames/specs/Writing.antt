-- What writing answers, and what it leaves in the buffer.
use Rattle.std.specs.Prelude.{ℕ, cond, List, ◌++◌, length, drop, Ok, Err, Result, nat_le}
use Rattle.frames.specs.declared.fault.BufferTooShort.{BufferTooShort}

-- the length of what is written, or the refusal where the buffer is shorter
abbrev pub write_answer : List ℕ → List ℕ → Result ℕ BufferTooShort
write_answer bytes buffer = cond (nat_le (length bytes) (length buffer)) (Ok (length bytes)) (Err (record {}))

-- the front of the buffer is what is written, and the rest as it was; after a refusal all of it is
abbrev pub written : List ℕ → List ℕ → List ℕ
written bytes buffer = cond (nat_le (length bytes) (length buffer)) (bytes ++ drop (length bytes) buffer) buffer
