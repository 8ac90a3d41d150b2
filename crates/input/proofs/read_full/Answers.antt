use Rattle.std.proofs.Common.{◌≡◌, ℕ, ◌+◌, ◌≤◌, List, ◌++◌, rules, length, take, drop, sym, ap, ◌∙◌, subst, le_refl, drop_at, length-take-le}
use Rattle.std.proofs.lemmas.Slice.{take-put_mid_below}
use Rattle.std.specs.Io.KnownBytes.{Consumes}
use Rattle.std.proofs.KnownBytes.{Consumes-nil, Consumes-trans}
use borrow.Rule.Slice.PartMut.{put_mid, post_of}
use lib.Seq.{take-add, take-append-le}
use Rattle.input.proofs.read_full.Goals as goal

-- what stands before a, and then the first bytes of the part from there on
filled : (a k n : ℕ) (xs ys : List ℕ) → a ≤ length xs → n ≤ length ys → take (a + n) (put_mid a k xs ys) ≡ take a xs ++ take n ys
filled a k n xs ys within fits =
    let all = put_mid a k xs ys in
    let after = post_of a k xs in
    let part : take n (drop a all) ≡ take n ys =
    ap (take n) (drop_at (take a xs) (ys ++ after) a (length-take-le a xs within)) ∙ take-append-le n ys after fits in
    take-add a n all ∙ ap (λ l. l ++ take n (drop a all)) (take-put_mid_below a k xs ys a (le_refl a) within) ∙ ap (λ l. take a xs ++ l) part

pub loop-done-init : goal.loop-done-init
loop-done-init g c = record { within = search rules; bytes = Consumes-nil _ }

pub loop-done-preserved : goal.loop-done-preserved
loop-done-preserved g c =
    let before = c.loop-done.invariant in
    record {
      within = search rules;
      bytes = subst (Consumes _ _) (sym (filled _ _ _ _ _ before.within c.in-Ok.ensures.bound.0)) (Consumes-trans _ _ _ _ _ before.bytes c.in-Ok.ensures.bytes.0);
    }
