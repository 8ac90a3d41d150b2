-- A form's fields as one crate hands them to the next.
use Rattle.layout.specs.Layout.{Fields}
use Rattle.layout.specs.declared.SoundForm.{SoundForm}

abbrev pub fields : SoundForm → Fields
fields form = record { places = form.places.now; runs = form.runs.now; low = form.line.low; high = form.line.high }
