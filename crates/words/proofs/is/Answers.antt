-- `is` compares all bytes of the word.
use Rattle.std.proofs.Common.{◌≡◌, Some, refl, sym, ◌∙◌}
use Rattle.std.specs.Prelude.{slice_get}
use Rattle.std.proofs.lemmas.Option.{slice_get_read}
use Rattle.std.proofs.lemmas.Slice.Eq.{slice_eq-Decides}
use Rattle.std.proofs.lemmas.Bool.Decides.{Decides-eqb}
use Rattle.words.proofs.is.Goals as goal

pub returns : goal.returns
returns c =
    let at : slice_get c.args.words.now c.args.i ≡ Some c.index-words-i.result =
    slice_get_read _ _ _ _ refl c.requires c.index-words-i.is in
    let same = slice_eq-Decides Decides-eqb c.as_slice.result.now c.args.bytes.now c.eq.result c.eq.ensures in
    let items = c.as_slice.ensures.value in
    rw at ((λ t. sym items ∙ same.0 t), (λ e. same.1 (items ∙ e)))
