-- Any two outcomes that the filter's contract allows are equal: the reply, and every lent byte.
use Rattle.std.specs.Prelude.{ℕ, zero, suc, ◌+◌, ◌*◌, ◌<◌, List, ◌≡◌, refl, set, Result}
use Rattle.std.proofs.Common.{sym, ap, ap₂, ◌∙◌, ext_get_or, arith}
use Rattle.std.proofs.Math.Decide.{dec_lt}
use Rattle.answer.specs.declared.Counts.{Counts}
use Rattle.answer.specs.declared.Refusal.{Refusal}
use Rattle.answer.specs.Laws.{replied_one, settled_if, clears_front}
use Rattle.answer.specs.Reply.{accepted, told}
use Rattle.answer.specs.Table.{Clears}
use Rattle.filter.specs.Filtered.{Lent, Left, later_rows, restated, bit, Written, Accepted, Leaves, Filters}
use Rattle.layout.specs.Layout.{sizes, runs_in, Fields, image, over}
use Rattle.layout.proofs.Laws.{fields_sound}
use Rattle.layout.specs.Rows.{fields_of, read_rows, sound_rows}
use Rattle.wirings.specs.OfForm.{order_of, order_sound}
use Rattle.wirings.proofs.Same.{confirmed_one}

pub restated_same : (f g : ℕ → ℕ) (k : ℕ) (runs : List ℕ) → ((r : ℕ) → r < k → f r ≡ g r) → restated f k runs ≡ restated g k runs
unfolding restated
restated_same f g zero runs h = refl
restated_same f g (suc k) runs h = ap₂ (λ (x : List ℕ) (v : ℕ). set x (5 * k + 4) v) (restated_same f g k runs (λ r l. h r (omega arith))) (h k (omega arith))

pub written_one : {f g : ℕ → ℕ} {k : ℕ} {before a b : List ℕ} → Written f k before a → Written g k before b → ((j : ℕ) → j < k → f j ≡ g j) → a ≡ b
written_one {k = k} {before} {a} {b} w v h =
    ext_get_or 0 a b (w.size ∙ sym v.size)
    (λ j l. elim (dec_lt j k) [ yes p ↦ w.says j p ∙ h j p ∙ sym (v.says j p) | no p ↦ w.rest j (omega arith) ∙ sym (v.rest j (omega arith)) ])

pub accepted_same : (f : Fields) → Clears (sound_rows sizes f) → (lent : Lent) (x y : Left) → Accepted f lent x → Accepted f lent y → x ≡ y
accepted_same f sound lent x y a b =
    let (e, s, t) = confirmed_one (order_of f) (order_sound f sound) a.confirmed b.confirmed in
    λ i. record {
      reply = (a.reply ∙ (λ j. accepted (record { struck = s j; pinned = t j })) ∙ sym b.reply) i;
      lent = record {
        form = (a.form ∙ (λ j. over (image sizes (record { places = f.places; runs = restated_same a.state b.state (runs_in sizes f.runs) f.runs e.states j; low = e.lows j; high = e.highs j })) lent.form) ∙ sym b.form) i;
        wiring = written_one a.wired b.wired (λ r l. ap bit (e.wirings r l)) i;
        segments = written_one a.numbered b.numbered e.segments i;
      };
    }

pub leaves_one : (s : List ℕ) (lent : Lent) (x y : Left) → Leaves s lent x → Leaves s lent y → x ≡ y
leaves_one s lent x y p q =
    settled_if (λ c. let read = clears_front (read_rows sizes s) (later_rows (fields_of sizes s) lent) c in accepted_same (fields_of sizes s) (fields_sound sizes (omega arith) s read) lent) p q

pub told_one : (a b : Result Counts Refusal) → told a ≡ told b → a ≡ b
told_one = replied_one (λ x y e. e)

pub filters_one : (s form wiring segments : List ℕ) (a b : Result Counts Refusal) (f w g f' w' g' : List ℕ) → Filters s form wiring segments a f w g → Filters s form wiring segments b f' w' g'
    → (a ≡ b) × (f ≡ f') × (w ≡ w') × (g ≡ g')
filters_one s form wiring segments a b f w g f' w' g' p q =
    let e = leaves_one s (record { form = form; wiring = wiring; segments = segments }) _ _ p q in
    (told_one a b (ap (λ (l : Left). l.reply) e), ap (λ (l : Left). l.lent.form) e, ap (λ (l : Left). l.lent.wiring) e, ap (λ (l : Left). l.lent.segments) e)
