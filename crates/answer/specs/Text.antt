-- A refusal as the programs print it: its number and its place.
use Rattle.std.specs.Prelude.{ℕ, List, ◌++◌, codes, decimal}
use Rattle.answer.specs.Reply.{number_of, place_of}
use Rattle.answer.specs.declared.Refusal.{Refusal}

abbrev pub refusal_text : Refusal → List ℕ
refusal_text r = codes "refused " ++ decimal (number_of r) ++ codes " " ++ decimal (place_of r)
