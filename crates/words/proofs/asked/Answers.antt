use Rattle.std.proofs.Common.{◌≡◌, ℕ, ◌+◌, ◌<◌, min, length, Bool, true, List, Vec, ap, ◌∙◌, arith}
use Rattle.std.specs.Prelude.{Option, Some, None, Result, Err}
use Rattle.std.proofs.lemmas.Grind.{common_steps}
use Rattle.std.proofs.lemmas.Result.{err_from_is_err_and}
use Rattle.words.specs.Length.{words_in}
use Rattle.words.specs.declared.Keying.{Keying}
use Rattle.words.specs.declared.Nonsense.{Nonsense}
use Rattle.words.specs.declared.Meaning.{Meaning}
use Rattle.words.specs.declared.Meaning.TheVariants.{Amendment, File}
use Rattle.words.specs.Said.{Means, AsksFrom}
use Rattle.words.specs.Said.AsksFrom.{ends, says_nothing, second_file, names_file, amends}
use Rattle.words.proofs.asked.Goals as goal
use Rattle.words.proofs.asked.Goals.{in-Amendment, in-File-2}

module _ {Z : Type 0} (words : List (Vec ℕ Z)) (i : ℕ) (there : i < length words) (said : Option Meaning) (means : Means words i said)
    (amended : Bool) (file : Option ℕ) where
  nothing_here : said ≡ None → AsksFrom words i amended file (Err (record { word = i }))
  nothing_here is = says_nothing there (rw is at means)

  again_here : said ≡ Some File → (file ≡ None → ⊥) → AsksFrom words i amended file (Err (record { word = i }))
  again_here is named = second_file there (rw is at means) named

  module _ (p : ℕ) (past : p ≡ min (i + words_in said) (length words)) (asked : Result Keying Nonsense) where
    file_here : said ≡ Some File → file ≡ None → AsksFrom words p amended (Some (i + 1)) asked → AsksFrom words i amended file asked
    file_here is none rest = rw none (names_file there (rw is at means) (rw (past, is) at rest))

    amended_here : (kind first second : ℕ) → said ≡ Some (Amendment kind first second)
        → AsksFrom words p true file asked → AsksFrom words i amended file asked
    amended_here kind first second is rest = amends kind first second there (rw is at means) (rw (past, is) at rest)

pub returns-in_err-meaning : goal.returns-in_err-meaning
returns-in_err-meaning c =
    let is : c.said.result ≡ None = grind arith in
    let p = err_from_is_err_and c.from_residual.result c.from_residual.ensures.1 in
    let e : p.0 ≡ record { word = c.loop-i.i } = grind arith in
    rw (p.1, e) (c.loop-i.invariant _ (nothing_here _ _ c.loop-i-test.true c.said.result c.said.ensures _ _ is))

pub returns-in-File : goal.returns-in-File
returns-in-File c =
    let is : c.said.result ≡ Some File = grind arith in
    c.loop-i.invariant _ (again_here _ _ c.loop-i-test.true c.said.result c.said.ensures _ _ is (λ e. grind (arith, common_steps)))

pub loop-i-preserved : goal.loop-i-preserved
loop-i-preserved c =
    λ asked rest. c.loop-i.invariant asked
    (let some : c.said.result ≡ Some c.in_ok-meaning.meaning = grind arith in
    let past : c.past-i.result ≡ min (c.loop-i.i + words_in c.said.result) (length c.args.words.now) = rw some c.past-i.ensures.value in
    elim c.match-meaning.branch [
      | in-Amendment w ↦
          amended_here _ _ c.loop-i-test.true c.said.result c.said.ensures _ _ _ past asked _ _ _
          (some ∙ ap Some w.in-Amendment.is) (rw (w.amended-is, w.file-is) at rest)
      | in-File-2 w ↦
          file_here _ _ c.loop-i-test.true c.said.result c.said.ensures _ _ _ past asked
          (some ∙ ap Some w.in-File-2.is) (grind (arith, common_steps)) (rw (w.amended-is, w.file-is) at rest)
    ])

pub returns : goal.returns
returns c = c.loop-i.invariant _ (ends c.loop-i-test.false)
