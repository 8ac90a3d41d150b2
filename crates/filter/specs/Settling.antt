-- The ways out of the filter, each as an outcome of the whole table.
use Rattle.std.specs.Prelude.{ℕ, ◌≤◌, List, ◌≡◌, refl, ltb, length, Result, Ok, Err}
use Rattle.std.proofs.Common.{sym, ap, subst, ◌∙◌, lt-ltb, le-ltb, arith}
use Rattle.std.proofs.Math.Decide.{dec_lt}
use Rattle.answer.specs.declared.Counts.{Counts}
use Rattle.answer.specs.declared.Refusal.{Refusal}
use Rattle.answer.specs.Laws.{not_refused, as_refused, refuses, passes, ends, onward}
use Rattle.answer.specs.Reply.{Reply, accepted, refused, told}
use Rattle.answer.specs.Table.{Clears}
use Rattle.confirm.specs.declared.Confirmation.{Confirmation}
use Rattle.confirm.specs.Concluded.{Confirms}
use Rattle.confirm.specs.Judged.{Settles}
use Rattle.filter.specs.Confirmed.{n_places, m_runs}
use Rattle.filter.specs.Filtered.{Lent, Left, Room, confirmed_fields, bit, Written, Accepted, Leaves}
use Rattle.layout.proofs.Image.{Bytes}
use Rattle.layout.specs.Layout.{sizes, length_of, Fields, image, over}
use Rattle.layout.proofs.Laws.{taken, taken_is, fields_sound}
use Rattle.layout.specs.Rows.{fields_of, sound_rows}
use Rattle.pieces.specs.Holds.{at}
use Rattle.reader.specs.declared.Form.{Form}
use Rattle.reader.specs.Laws.{Valid}
use Rattle.reader.specs.Reading.{told as read_as, Reads}
use Rattle.wirings.specs.Chosen.{flagged}
use Rattle.wirings.specs.OfForm.{order_of}

-- a refusal leaves the buffers as they were
abbrev turned : Lent → Reply Counts → Left
turned lent r = record { reply = r; lent = lent }

-- ---- 1 to 7
pub not_read : (s : List ℕ) (lent : Lent) {r : Result Form Refusal} {e : Refusal} → Reads s r → r ≡ Err e → Leaves s lent (turned lent (told (Err e)))
not_read s lent p e = onward p (λ number k g. ap (turned lent) (as_refused (sym (ap read_as e) ∙ g))) (λ a. absurd (not_refused (sym a ∙ ap read_as e)))

module _ (s : List ℕ) (lent : Lent) {r : Result Form Refusal} {f : Form} (p : Reads s r) (e : r ≡ Ok f) where
  -- ---- 8
  pub no_room : (Room (fields_of sizes s) lent → ⊥) → Leaves s lent (turned lent (refused 8 0))
  no_room h = onward p (λ number k g. absurd (not_refused (sym (ap read_as e) ∙ g))) (λ _. refuses h)

  -- ---- 9 to 11
  pub no_wiring : Room (fields_of sizes s) lent → (f : Refusal) → Settles {A = Confirmation} (order_of (fields_of sizes s)) (Err f) → Leaves s lent (turned lent (told (Err f)))
  no_wiring room f c =
      onward p (λ number k g. absurd (not_refused (sym (ap read_as e) ∙ g)))
      (λ _. passes room (onward c (λ number k g. ap (turned lent) (as_refused g)) (λ a. absurd (not_refused (sym a)))))

  -- ---- accepted
  pub accepts : Room (fields_of sizes s) lent → (c : Confirmation) {left : Left} → Settles (order_of (fields_of sizes s)) (Ok c) → Accepted (fields_of sizes s) lent left → Leaves s lent left
  accepts room confirmed c a =
      onward p (λ number k g. absurd (not_refused (sym (ap read_as e) ∙ g)))
      (λ _. passes room (onward c (λ number k g. absurd (not_refused g)) (λ _. ends a)))

-- ---- the fields that the filter takes out of the image
pub fields_taken : {s : List ℕ} {n m low high : ℕ} → Valid s n m low high
    → ◌≡◌ {A = Fields} (record { places = (taken sizes s n m).places; runs = (taken sizes s n m).runs; low = low; high = high }) (fields_of sizes s)
fields_taken {s} {n} {m} v =
    let t = taken_is sizes s v.places v.runs in λ i. record { places = (t i).places; runs = (t i).runs; low = v.from i; high = v.to i }

pub taken_sound : {s : List ℕ} {n m low high : ℕ} → Valid s n m low high
    → Clears (sound_rows sizes (record { places = (taken sizes s n m).places; runs = (taken sizes s n m).runs; low = low; high = high }))
taken_sound {s} v = subst (λ (f : Fields). Clears (sound_rows sizes f)) (sym (fields_taken v)) (fields_sound sizes (omega arith) s v.clears)

pub room_as : {s : List ℕ} {n m low high : ℕ} (lent : Lent) → Bytes s → Valid s n m low high
    → (length_of sizes n m ≤ length lent.form) × (m ≤ length lent.wiring) × (n ≤ length lent.segments) → Room (fields_of sizes s) lent
room_as lent small v h = record { form = omega (arith, n_places small v, m_runs small v); wiring = omega (arith, m_runs small v); segments = omega (arith, n_places small v) }

pub as_room : {s : List ℕ} {n m low high : ℕ} (lent : Lent) → Bytes s → Valid s n m low high
    → Room (fields_of sizes s) lent → (length_of sizes n m ≤ length lent.form) × (m ≤ length lent.wiring) × (n ≤ length lent.segments)
as_room lent small v h = (omega (arith, h.form, n_places small v, m_runs small v), omega (arith, h.wiring, m_runs small v), omega (arith, h.segments, n_places small v))

-- ---- the buffers
written_as : {f g : ℕ → ℕ} {j k : ℕ} {before after : List ℕ} → Written f j before after → j ≡ k → ((i : ℕ) → f i ≡ g i) → Written g k before after
written_as {f} {g} {j} {k} {before} {after} w e h =
    subst (λ (i : ℕ). Written g i before after) e (record { size = w.size; says = λ i l. w.says i l ∙ h i; rest = w.rest })

bit_of : (x : ℕ) → x ≤ 1 → x ≡ bit (ltb 0 x)
bit_of x l = elim (dec_lt 0 x) [ yes p ↦ (let e : x ≡ 1 = omega arith in e ∙ ap bit (sym (lt-ltb 0 x p))) | no p ↦ (let e : x ≡ 0 = omega arith in e ∙ ap bit (sym (le-ltb 0 x (omega arith)))) ]

-- what was written is the confirmation
pub accepted_so : {s : List ℕ} {n m low high : ℕ} (lent : Lent) (small : Bytes s) (v : Valid s n m low high) {c : Confirmation}
    → Confirms (record { places = (taken sizes s n m).places; runs = (taken sizes s n m).runs; low = low; high = high }) (Ok c)
    → {form wiring segments : List ℕ} → form ≡ over (image sizes (confirmed_fields (fields_of sizes s) (at c.marks) c.line.low c.line.high)) lent.form
    → Written (at c.used) m lent.wiring wiring → Written (at c.segments) n lent.segments segments
    → Accepted (fields_of sizes s) lent (record { reply = accepted c.counts; lent = record { form = form; wiring = wiring; segments = segments } })
accepted_so {s} lent small v {c} p f w n =
    let d = subst (λ (g : Fields). Confirms g (Ok c)) (fields_taken v) p in
    record {
      state = at c.marks;
      low = c.line.low;
      high = c.line.high;
      wiring = flagged c.used;
      segment = at c.segments;
      struck = c.counts.struck;
      pinned = c.counts.pinned;
      confirmed = d.confirmed;
      reply = refl;
      form = f;
      wired = written_as w (sym (m_runs small v)) (λ i. bit_of (at c.used i) (d.bits i));
      numbered = written_as n (sym (n_places small v)) (λ i. refl);
    }

pub settles_taken : {s : List ℕ} {n m low high : ℕ} (v : Valid s n m low high) {r : Result Confirmation Refusal}
    → Confirms (record { places = (taken sizes s n m).places; runs = (taken sizes s n m).runs; low = low; high = high }) r
    → Settles (order_of (fields_of sizes s)) r
settles_taken v {r} c = subst (λ (g : Fields). Settles (order_of g) r) (fields_taken v) c.settles
