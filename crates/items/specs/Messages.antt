-- What is printed of a text that is wrong.
use Rattle.std.specs.Prelude.{ℕ, List, ◌++◌, codes, decimal}
use Rattle.items.specs.declared.Fault.{Fault}
use Rattle.items.specs.declared.Fault.TheVariants.{NotAnItem, NoNumber, NotDigits, Above, NoState, NotAState, OneTooMany, SecondCount}
use Rattle.items.specs.declared.Wrong.{Wrong}
use Rattle.items.specs.declared.fields.TextError.{TextError}
use Rattle.items.specs.declared.fields.TextError.TheVariants.{Wrong as WrongLine, NoCount}

abbrev pub meaning_of : Fault → List ℕ
meaning_of NotAnItem = codes "is not place, supply, run or count"
meaning_of NoNumber = codes "is missing: a number"
meaning_of NotDigits = codes "is not a number in decimal digits"
meaning_of Above = codes "is a number above 65,535"
meaning_of NoState = codes "is missing: fixed, possible or struck"
meaning_of NotAState = codes "is not fixed, possible or struck"
meaning_of OneTooMany = codes "is one too many"
meaning_of SecondCount = codes "is a second count"

abbrev pub wrong_text : Wrong → List ℕ
wrong_text w = codes "word " ++ decimal w.word ++ codes " " ++ meaning_of w.fault

abbrev pub error_text : TextError → List ℕ
error_text (WrongLine line w) = codes "line " ++ decimal line ++ codes ": " ++ wrong_text w
error_text (NoCount line) = codes "line " ++ decimal line ++ codes ": there is no count"
