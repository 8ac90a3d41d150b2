-- `place_section` hands back the places of an image that is read, and else nothing.
use Rattle.std.proofs.Common.{arith}
use Rattle.layout.specs.Layout.{Fields}
use Rattle.reader.specs.Laws.{valid, no_section}
use Rattle.reader.proofs.place_section.Goals as goal

pub returns-in-Err : goal.returns-in-Err
returns-in-Err c = no_section (λ (f : Fields). f.places) c.read.ensures c.in-Err.is

pub slice_bounds-result-end : goal.slice_bounds-result-end
slice_bounds-result-end c = let v = valid c.read.ensures c.in-Ok.is in omega arith
