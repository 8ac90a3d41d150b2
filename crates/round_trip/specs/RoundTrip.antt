-- 'Reading and writing forms undo each other', of every reply that the contracts of reader and writer allow.
use Rattle.std.specs.Prelude.{ℕ, ◌≤◌, List, ◌≡◌, refl, length, take, drop, Result, Ok}
use Rattle.std.proofs.Common.{sym, ap, ap₂, subst, ◌∙◌, arith}
use Rattle.std.proofs.Math.Seq.{take-append_seam}
use Rattle.answer.specs.declared.Range.{Range}
use Rattle.answer.specs.Laws.{not_refused, accepted_one, cleared, all_clear, clear, fact, clears_join, clears_front}
use Rattle.answer.specs.Reply.{accepted}
use Rattle.answer.specs.Table.{Clears}
use Rattle.layout.proofs.Image.{Bytes, fields_back, read_back, n_is, m_is, image_back}
use Rattle.layout.specs.Layout.{sizes, word, length_of, runs_in, Fields, image, over}
use Rattle.layout.proofs.Laws.{places_length, runs_count, fields_sound}
use Rattle.layout.specs.Rows.{Laid, sound_rows, room_row, write_rows, fields_of, Heading, heading_of, read_rows}
use Rattle.answer.specs.declared.Refusal.{Refusal}
use Rattle.reader.specs.declared.Form.{Form}
use Rattle.reader.specs.Laws.{Valid, valid, reads_one, section_one}
use Rattle.reader.specs.Reading.{Reads, Places, Runs}
use Rattle.writer.specs.Laws.{writes_one}
use Rattle.writer.specs.Writing.{Left, Writes}

-- Reading a written form gives the same places, runs and line four.
pub read_written : (f : Fields) (before after : List ℕ) (size : ℕ) → Writes f before (Ok size) after
    → (r : Result Form Refusal) (p q : List ℕ) → Reads (take size after) r → Places (take size after) p → Runs (take size after) q
    → (r ≡ Ok (record { places = length f.places; runs = runs_in sizes f.runs; line = record { low = f.low; high = f.high } })) × (p ≡ f.places) × (q ≡ f.runs)
read_written f before after size w r p q a b c = (
  reads_one r _ (rw same at a) (all_clear (read_rows sizes s) back (ap accepted heading)),
  section_one (λ (g : Fields). g.places) (rw same at b) (all_clear (read_rows sizes s) back (ap (λ (g : Fields). g.places) (sym fields))),
  section_one (λ (g : Fields). g.runs) (rw same at c) (all_clear (read_rows sizes s) back (ap (λ (g : Fields). g.runs) (sym fields))),
)
  where
    s : List ℕ
    s = image sizes f

    x : Clears (write_rows sizes f (length before)) × ◌≡◌ {A = Left} (record { reply = accepted size; form = after }) (record { reply = accepted (length s); form = over s before })
    x = cleared w (λ number k e. not_refused (ap (λ (l : Left). l.reply) e))

    same : take size after ≡ s
    same =
        ap₂ (λ (k : ℕ) (l : List ℕ). take k l) (accepted_one (ap (λ (l : Left). l.reply) x.1)) (ap (λ (l : Left). l.form) x.1)
        ∙ take-append_seam s (drop (length s) before)

    sound : Clears (sound_rows sizes f)
    sound = clears_front (sound_rows sizes f) (room_row sizes f (length before)) x.0

    back : Clears (read_rows sizes s)
    back = read_back f sound

    fields : fields_of sizes s ≡ f
    fields = fields_back f sound

    heading : ◌≡◌ {A = Heading} (record { places = length f.places; runs = runs_in sizes f.runs; low = f.low; high = f.high }) (heading_of sizes s)
    heading = λ i. record { places = sym (n_is f) i; runs = sym (m_is f) i; low = (sym fields i).low; high = (sym fields i).high }

-- Writing what was read gives the same bytes, and keeps the rest of the buffer.
pub write_read : (s : List ℕ) → Bytes s → (n m : ℕ) (line : Range) (p q : List ℕ) → Reads s (Ok (record { places = n; runs = m; line = line })) → Places s p → Runs s q
    → (before after : List ℕ) (w : Result ℕ Refusal) → length s ≤ length before
    → Writes (record { places = p; runs = q; low = line.low; high = line.high }) before w after
    → (w ≡ Ok (length s)) × (after ≡ over s before)
write_read s small n m line p q a b c before after w fits d =
    writes_one (fields_of sizes s) before w (Ok (length s)) after (over s before) (subst (λ (g : Fields). Writes g before w after) fields d)
    (all_clear (write_rows sizes (fields_of sizes s) (length before)) sound
    (λ i. record { reply = accepted (length (sym whole i)); form = over (sym whole i) before }))
  where
    v : Valid s n m line.low line.high
    v = valid a refl

    fields : ◌≡◌ {A = Fields} (record { places = p; runs = q; low = line.low; high = line.high }) (fields_of sizes s)
    fields = λ i. record {
      places = section_one (λ (g : Fields). g.places) b (all_clear (read_rows sizes s) v.clears refl) i;
      runs = section_one (λ (g : Fields). g.runs) c (all_clear (read_rows sizes s) v.clears refl) i;
      low = v.from i;
      high = v.to i;
    }

    whole : image sizes (fields_of sizes s) ≡ s
    whole = image_back s small v.clears

    laid : Laid sizes s (word s 6) (word s 12)
    laid = fact v.clears.1.1.0

    sound : Clears (write_rows sizes (fields_of sizes s) (length before))
    sound =
        clears_join (sound_rows sizes (fields_of sizes s)) (room_row sizes (fields_of sizes s) (length before))
        (fields_sound sizes (omega arith) s v.clears)
        (clear (subst (λ (k : ℕ). k ≤ length before) (laid.total ∙ ap₂ (length_of sizes) (sym (places_length sizes (omega arith) s laid)) (sym (runs_count sizes (omega arith) s laid))) fits), tt)
