-- How many words say something.
use Rattle.std.specs.Prelude.{ℕ, ◌==◌, if◌then◌else◌, Option, Some, None}
use Rattle.words.specs.declared.Meaning.{Meaning}
use Rattle.words.specs.declared.Meaning.TheVariants.{Amendment, File}

-- a narrowing has two numbers after its word; all else is a word and one more
abbrev pub words_in : Option Meaning → ℕ
words_in (Some (Amendment kind first second)) = if kind == 3 then 3 else 2
words_in (Some File) = 2
words_in None = 2
