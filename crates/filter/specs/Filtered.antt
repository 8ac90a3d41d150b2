-- What the filter promises: its reply and every byte of the three lent buffers, by the lawful wirings of the form.
use Rattle.std.specs.Prelude.{ℕ, zero, suc, ◌+◌, ◌*◌, ◌≤◌, ◌<◌, Bool, true, false, List, ◌∷◌, ◌++◌, ◌≡◌, length, get_or, set, Result}
use Rattle.answer.specs.declared.Counts.{Counts}
use Rattle.answer.specs.declared.Refusal.{Refusal}
use Rattle.answer.specs.Reply.{Reply, accepted, refused, told}
use Rattle.answer.specs.Table.{Row, whole, Settled}
use Rattle.layout.specs.Layout.{sizes, runs_in, Fields, length_for, image, over}
use Rattle.layout.specs.Rows.{fields_of, read_rows}
use Rattle.wirings.specs.Confirmed.{Confirmed}
use Rattle.wirings.specs.OfForm.{order_of}
use Rattle.wirings.specs.Theorem1.{order_rows}
use Rattle.wirings.specs.Wiring.{Wiring}

-- the three lent buffers: the form, the wiring and the segment numbers
pub record Lent : Type 0 where
  pub form : List ℕ
  pub wiring : List ℕ
  pub segments : List ℕ

-- what a call leaves: its reply, and the buffers
pub record Left : Type 0 where
  pub reply : Reply Counts
  pub lent : Lent

-- 8: the buffers are long enough for the form, a byte for each run and a number for each place
pub record Room (f : Fields) (lent : Lent) : Type 0 where
  pub form : length_for sizes f ≤ length lent.form
  pub wiring : runs_in sizes f.runs ≤ length lent.wiring
  pub segments : length f.places ≤ length lent.segments

-- § 2.2: what comes after the reading, 8 to 11
abbrev pub later_rows : Fields → Lent → List Row
later_rows f lent = whole 8 (Room f lent) ∷ order_rows (order_of f)

-- the whole table, 1 to 11
abbrev pub filter_rows : List ℕ → Lent → List Row
filter_rows s lent = read_rows sizes s ++ later_rows (fields_of sizes s) lent

-- the records of the runs with other states for the first m
unfoldable pub restated : (ℕ → ℕ) → ℕ → List ℕ → List ℕ
restated state zero runs = runs
restated state (suc k) runs = set (restated state k runs) (5 * k + 4) (state k)

-- § 4.1: the fields of the confirmed form, places and ends are copied
abbrev pub confirmed_fields : Fields → (ℕ → ℕ) → ℕ → ℕ → Fields
confirmed_fields f state low high = record { places = f.places; runs = restated state (runs_in sizes f.runs) f.runs; low = low; high = high }

abbrev pub bit : Bool → ℕ
bit true = 1
bit false = 0

-- § 4.6: the first k elements of a buffer are written, and the rest is kept
pub record Written (f : ℕ → ℕ) (k : ℕ) (before after : List ℕ) : Type 0 where
  pub size : length after ≡ length before
  pub says : (j : ℕ) → j < k → get_or after j 0 ≡ f j
  pub rest : (j : ℕ) → k ≤ j → get_or after j 0 ≡ get_or before j 0

-- § 4: the form is confirmed, by its lawful wirings alone
pub record Accepted (f : Fields) (lent : Lent) (left : Left) : Type 0 where
  pub state : ℕ → ℕ
  pub low : ℕ
  pub high : ℕ
  pub wiring : Wiring
  pub segment : ℕ → ℕ
  pub struck : ℕ
  pub pinned : ℕ
  pub confirmed : Confirmed (order_of f) state low high wiring segment struck pinned
  pub reply : left.reply ≡ accepted (record { struck = struck; pinned = pinned })
  pub form : left.lent.form ≡ over (image sizes (confirmed_fields f state low high)) lent.form
  pub wired : Written (λ r. bit (wiring r)) (runs_in sizes f.runs) lent.wiring left.lent.wiring
  pub numbered : Written segment (length f.places) lent.segments left.lent.segments

-- § 2.1, § 4: numbers 1 to 11 in their order, with the buffers as they were; else the confirmation
abbrev pub Leaves : List ℕ → Lent → Left → Type 0
Leaves s lent = Settled (λ number k. record { reply = refused number k; lent = lent }) (filter_rows s lent) (Accepted (fields_of sizes s) lent)

abbrev pub Filters : List ℕ → List ℕ → List ℕ → List ℕ → Result Counts Refusal → List ℕ → List ℕ → List ℕ → Type 0
Filters s form wiring segments r form' wiring' segments' =
    Leaves s (record { form = form; wiring = wiring; segments = segments })
    (record { reply = told r; lent = record { form = form'; wiring = wiring'; segments = segments' } })
