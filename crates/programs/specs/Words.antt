-- What the words behind a program's name ask for.
use Rattle.std.specs.Prelude.{◌≡◌, ℕ, ◌⊎◌, List, Some, None, Option, codes, ◌≢◌}
use Rattle.programs.specs.declared.words.Request.{Request}
use Rattle.programs.specs.declared.words.Request.TheVariants.{Work, Help, Unknown}

abbrev pub IsHelp : List ℕ → Type 0
IsHelp word = (word ≡ codes "--help") ⊎ (word ≡ codes "-h")

-- by the first word: none asks for the program's work, and one that is not for help asks for what there is not
abbrev pub AsksFor : Option (List ℕ) → Request → Type 0
AsksFor None request = request ≡ Work
AsksFor (Some word) Work = ⊥
AsksFor (Some word) Help = IsHelp word
AsksFor (Some word) Unknown = (word ≢ codes "--help") × (word ≢ codes "-h")
