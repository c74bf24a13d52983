-- What there is to say about a line of a capture.
use Rattle.std.specs.Prelude.{ℕ, List, ◌++◌, Ok, Err, codes, decimal, Result}
use Rattle.captures.specs.Hex.{hex_line}
use Rattle.captures.specs.Words.{frame_words, refusal_words}
use Rattle.captures.specs.declared.outcome.Outcome.{Outcome}
use Rattle.captures.specs.declared.outcome.Outcome.TheVariants.{Good, Refused, Unreadable}
use Rattle.frames.specs.Frames.{reading}
use Rattle.frames.specs.declared.fault.FrameFault.{FrameFault}
use Rattle.frames.specs.declared.frame.Frame.{Frame}
use Rattle.values.specs.Levels.{level_kind}
use Rattle.values.specs.declared.level.Level.{Level}

-- a line that is not hexadecimal, by its number and the column where it is not
abbrev pub unreadable_words : ℕ → ℕ → List ℕ
unreadable_words number column = codes "line " ++ (decimal number ++ (codes ": not hexadecimal at column " ++ decimal column))

abbrev pub read_outcome : Result (Frame Level) FrameFault → Outcome
read_outcome (Ok frame) = Good
read_outcome (Err fault) = Refused

abbrev pub read_words : Result (Frame Level) FrameFault → List ℕ
read_words (Ok frame) = frame_words frame
read_words (Err fault) = refusal_words fault

-- bytes in a fleet of n machines
abbrev pub bytes_outcome : ℕ → List ℕ → Outcome
bytes_outcome n bytes = read_outcome (reading level_kind n bytes)

abbrev pub bytes_words : ℕ → List ℕ → List ℕ
bytes_words n bytes = read_words (reading level_kind n bytes)

-- a line, by what hexadecimal makes of it
abbrev pub hex_outcome : ℕ → Result (List ℕ) ℕ → Outcome
hex_outcome n (Ok bytes) = bytes_outcome n bytes
hex_outcome n (Err column) = Unreadable

abbrev pub hex_words : ℕ → ℕ → Result (List ℕ) ℕ → List ℕ
hex_words n number (Ok bytes) = bytes_words n bytes
hex_words n number (Err column) = unreadable_words number column

abbrev pub line_outcome : ℕ → List ℕ → Outcome
line_outcome n line = hex_outcome n (hex_line line)

abbrev pub line_words : ℕ → ℕ → List ℕ → List ℕ
line_words n number line = hex_words n number (hex_line line)
