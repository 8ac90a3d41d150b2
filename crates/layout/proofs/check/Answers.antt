-- `check` settles numbers 2 and 4 to 7: each return passes the rows before its own.
use Rattle.std.proofs.Common.{refl, arith}
use Rattle.answer.specs.Laws.{found_some, decided, refuses, refuses_found, passes, passes_found, ends}
use Rattle.layout.proofs.Laws.{as_counted}
use Rattle.layout.proofs.check.Goals as goal

pub overflow_cast-run-in-Some-first_repeat : goal.overflow_cast-run-in-Some-first_repeat
overflow_cast-run-in-Some-first_repeat c = let h = decided c.numbers.ensures c.if-not-numbers.false in
    omega (arith, (found_some c.first_repeat.ensures c.in-Some-first_repeat.is).1)

pub returns-in-Some-first_repeat : goal.returns-in-Some-first_repeat
returns-in-Some-first_repeat c = as_counted _ c.count-m.ensures (passes (decided c.numbers.ensures c.if-not-numbers.false)
    (passes_found c.first_bad_place.ensures c.in_default.is
    (passes_found c.first_bad_run.ensures c.in_default-first_bad_run.is
    (refuses_found c.first_repeat.ensures c.in-Some-first_repeat.is))))

pub returns-then-line : goal.returns-then-line
returns-then-line c = as_counted _ c.count-m.ensures (passes (decided c.numbers.ensures c.if-not-numbers.false)
    (passes_found c.first_bad_place.ensures c.in_default.is
    (passes_found c.first_bad_run.ensures c.in_default-first_bad_run.is
    (passes_found c.first_repeat.ensures c.in_default-first_repeat.is
    (refuses (λ h. omega arith))))))

pub returns : goal.returns
returns c = as_counted _ c.count-m.ensures (passes (decided c.numbers.ensures c.if-not-numbers.false)
    (passes_found c.first_bad_place.ensures c.in_default.is
    (passes_found c.first_bad_run.ensures c.in_default-first_bad_run.is
    (passes_found c.first_repeat.ensures c.in_default-first_repeat.is
    (passes (omega arith) (ends refl))))))
