-- An array that holds or tells a function is one array: so the labels, the supplied labels and the first closing run are settled by their contracts.
use Rattle.std.specs.Prelude.{ℕ, Bool, false, List, ◌≡◌}
use Rattle.std.proofs.Common.{sym, ◌∙◌, ext_get_or, arith}
use Rattle.pieces.specs.Holds.{Holds, Tells}

pub holds_one : {f : ℕ → ℕ} {a b : List ℕ} → Holds f a → Holds f b → a ≡ b
holds_one {a = a} {b} h k = ext_get_or 0 a b (h.size ∙ sym k.size) (λ x l. h.says x (omega (arith, h.size)) ∙ sym (k.says x (omega (arith, h.size))))

pub tells_one : {f : ℕ → ℕ} {a b : List Bool} → Tells f a → Tells f b → a ≡ b
tells_one {a = a} {b} h k = ext_get_or false a b (h.size ∙ sym k.size) (λ x l. h.says x (omega (arith, h.size)) ∙ sym (k.says x (omega (arith, h.size))))
