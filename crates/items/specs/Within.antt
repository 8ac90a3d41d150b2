-- What is gathered stays within the arrays that are lent for it.
use Rattle.std.specs.Prelude.{◌≤◌, length}
use Rattle.items.specs.declared.fields.Fields.{Fields}

abbrev pub Fits : Fields → Type 0
Fits fields = (length fields.places.now ≤ 257) × (length fields.runs.now ≤ 5125)
