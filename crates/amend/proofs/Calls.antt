-- A list of calls of `amend`: what each leaves, and what stands in the buffers at the end.
use Rattle.std.specs.Prelude.{ℕ, zero, suc, ◌+◌, ◌*◌, ◌/◌, ◌%◌, ◌<◌, List, ◌≡◌, refl, get_or, set, take, drop}
use Rattle.std.proofs.Math.Path.{sym, ap, ap₂, subst}
use Rattle.std.proofs.Common.{◌∙◌, ext_get_or, arith}
use Rattle.std.proofs.Math.ListN.{length}
use Rattle.std.proofs.Math.Seq.{take_at}
use Rattle.std.proofs.lemmas.List.{set-get_or}
use Rattle.std.proofs.Math.Decide.{ℕ_discrete}
use Rattle.amend.specs.Amending.{Says, pins, strikes, narrows, amend_rows, written, Amended, Leaves}
use Rattle.amend.specs.Fields.{written_places, written_ends, written_alike, written_states, written_low, written_high, written_sound}
use Rattle.amend.specs.Keying.{SettledForm, Call, Accepts, last, before}
use Rattle.amend.proofs.Settling.{says_one, well_formed}
use Rattle.answer.specs.Laws.{not_refused, cleared, clears_back, fact}
use Rattle.answer.specs.declared.Counts.{Counts}
use Rattle.answer.specs.Reply.{accepted}
use Rattle.answer.specs.Table.{Clears}
use Rattle.filter.specs.Filtered.{Lent, Left, Accepted, restated, confirmed_fields, bit, Written, filter_rows}
use Rattle.filter.specs.Laws.{length_restated}
use Rattle.filter.specs.One.{restated_same, written_one}
use Rattle.filter.specs.Restated.{State, Ends, restated_ends, same_m, restated_says, states_are, confirmed_alike, still_sound}
use Rattle.layout.proofs.Image.{length_image, fields_back}
use Rattle.layout.specs.Layout.{sizes, runs_in, state_of, Fields, length_of, image, over}
use Rattle.layout.proofs.Laws.{whole_runs}
use Rattle.layout.specs.Rows.{fields_of, sound_rows}
use Rattle.wirings.specs.Alike.{Alike}
use Rattle.wirings.specs.Amendments.{Amendment, pin, strike, narrow, WellFormed, Obeys, Clash, amended}
use Rattle.wirings.proofs.Amendments.{clash_none}
use Rattle.wirings.specs.Confirmed.{Mark, Confirmed}
use Rattle.wirings.specs.Keyed.{Keys, Keyed, done, then}
use Rattle.wirings.proofs.Limits.{counts_alike}
use Rattle.wirings.specs.OfForm.{order_of, order_sound}
use Rattle.wirings.specs.Same.{Equal}
use Rattle.wirings.proofs.Same.{confirmed_one}
use Rattle.wirings.specs.Standing.{Outcome}
use Rattle.wirings.proofs.Standing.{settled}
use Rattle.wirings.specs.Wiring.{Order, Wiring}

-- ---- states written over states
restated_own : (runs : List ℕ) (m : ℕ) → restated (state_of sizes runs) m runs ≡ runs
unfolding restated
restated_own runs zero = refl
restated_own runs (suc k) = ap (λ (l : List ℕ). set l (5 * k + 4) (get_or runs (5 * k + 4) 0)) (restated_own runs k) ∙ set-get_or runs (5 * k + 4) 0

restated_over : (state : ℕ → ℕ) (m : ℕ) (runs runs' : List ℕ) → Ends runs runs' → length runs ≡ 5 * m → restated state m runs' ≡ restated state m runs
restated_over state m runs runs' e l = ext_get_or 0 _ _ (length_restated state m runs' ∙ e.size ∙ sym (length_restated state m runs)) at
  where
    at : (i : ℕ) → i < length (restated state m runs') → get_or (restated state m runs') i 0 ≡ get_or (restated state m runs) i 0
    at i h = let len : i < 5 * m = omega (arith, length_restated state m runs', e.size) in elim (ℕ_discrete (i % 5) 4) [
      | yes q ↦ (let p : i ≡ 5 * (i / 5) + 4 = omega arith in let r : i / 5 < m = omega arith in
          ap (λ (j : ℕ). get_or (restated state m runs') j 0) p ∙ restated_says state m runs' (omega (arith, e.size)) (i / 5) r
          ∙ sym (restated_says state m runs (omega arith) (i / 5) r) ∙ ap (λ (j : ℕ). get_or (restated state m runs) j 0) (sym p))
      | no q ↦ (let n : State i → ⊥ = λ h. q (omega (arith, h.1)) in (restated_ends state m runs').kept i n ∙ e.kept i n ∙ sym ((restated_ends state m runs).kept i n))
    ]

-- a form that differs from another in states and line four only
pub record Like (g h : Fields) : Type 0 where
  pub places : h.places ≡ g.places
  pub ends : Ends g.runs h.runs

module _ (g : Fields) (sound : Clears (sound_rows sizes g)) where
  wholes : length g.runs ≡ 5 * runs_in sizes g.runs
  wholes = whole_runs sizes (omega arith) g sound

  pub over_like : (h : Fields) → Like g h → (state : ℕ → ℕ) (low high : ℕ) → confirmed_fields h state low high ≡ confirmed_fields g state low high
  over_like h e state low high = λ i. record {
    places = e.places i;
    runs = (ap (λ (m : ℕ). restated state m h.runs) (same_m e.ends) ∙ restated_over state (runs_in sizes g.runs) g.runs h.runs e.ends wholes) i;
    low = low;
    high = high;
  }

  own_like : (h : Fields) → Like g h → confirmed_fields g (state_of sizes h.runs) h.low h.high ≡ h
  own_like h e = sym (over_like h e (state_of sizes h.runs) h.low h.high)
      ∙ (λ i. record { places = h.places; runs = restated_own h.runs (runs_in sizes h.runs) i; low = h.low; high = h.high })

-- a confirmation goes by the states below m
restate : {o : Order} {state state' : ℕ → ℕ} {low high : ℕ} {w : Wiring} {segment : ℕ → ℕ} {s t : ℕ} → ((r : ℕ) → r < o.m → state r ≡ state' r)
    → Confirmed o state low high w segment s t → Confirmed o state' low high w segment s t
restate {o} e c = record {
  marks = λ r l. subst (Mark o r) (e r l) (c.marks r l);
  lowest = c.lowest;
  highest = c.highest;
  first = c.first;
  segments = c.segments;
  struck_counted = counts_alike (λ r l h. (h.0, sym (e r l) ∙ h.1)) (λ r l h. (h.0, e r l ∙ h.1)) c.struck_counted;
  pinned_counted = counts_alike (λ r l h. (h.0, sym (e r l) ∙ h.1)) (λ r l h. (h.0, e r l ∙ h.1)) c.pinned_counted;
}

abbrev pub outcome : Fields → Wiring → (ℕ → ℕ) → Outcome
outcome g w segment = record { form = order_of g; wiring = w; segment = segment }

pub spoken : (s : List ℕ) (lent : Lent) (left : Left) (a : Amendment) → Call s a lent left → (x : ℕ) × (y : ℕ) × (z : ℕ) × Says x y z a × Leaves s x y z lent left
spoken s lent left (pin r) k = (1, r, 0, pins refl refl, k)
spoken s lent left (strike r) k = (2, r, 0, strikes refl refl, k)
spoken s lent left (narrow a b) k = (3, a, b, narrows refl, k)

pub filtered_settled : (f : Fields) (sound : Clears (sound_rows sizes f)) {lent : Lent} {left : Left} (c : Accepted f lent left) → SettledForm (confirmed_fields f c.state c.low c.high) c.wiring c.segment
filtered_settled f sound c = record {
  sound = still_sound f sound c.confirmed;
  confirmed = settled (order_of f) (order_of (confirmed_fields f c.state c.low c.high)) (order_sound f sound) (confirmed_alike f sound c.state c.low c.high)
      (restate (λ r l. sym (states_are f sound c.state c.low c.high r l)) c.confirmed);
}

-- the order of a form with an amendment written in
pub written_order : (g : Fields) → length g.runs ≡ 5 * runs_in sizes g.runs → (a : Amendment) → WellFormed (order_of g) a → amended a (order_of g) ≡ order_of (written a g)
written_order g whole a well = let e = written_alike g a in λ i. record {
  n = e.n i;
  m = e.m i;
  supply = λ x. e.supply x i;
  u = λ r. e.u r i;
  v = λ r. e.v r i;
  state = λ r. written_states g whole a well r i;
  low = written_low g a i;
  high = written_high g a i;
}

-- ---- one call that is accepted
module _ (g : Fields) {w : Wiring} {segment : ℕ → ℕ} (t : SettledForm g w segment) where
  own : {state : ℕ → ℕ} {low high : ℕ} {b : Wiring} {number : ℕ → ℕ} {i j : ℕ} → Confirmed (order_of g) state low high b number i j → confirmed_fields g state low high ≡ g
  own {state} d = let (e, _, _) = confirmed_one (order_of g) (order_sound g t.sound) d t.confirmed in
      λ i. record { places = g.places; runs = (restated_same state (state_of sizes g.runs) (runs_in sizes g.runs) g.runs e.states ∙ restated_own g.runs (runs_in sizes g.runs)) i; low = e.lows i; high = e.highs i }

module _ (g : Fields) {w : Wiring} {segment : ℕ → ℕ} (t : SettledForm g w segment) (a : Amendment) (lent : Lent) (left : Left) {k : Counts}
    (call : Call (image sizes g) a lent left) (ok : left.reply ≡ accepted k) where
  accepted_call : WellFormed (order_of g) a × (Clash (order_of g) a → ⊥) × Accepted (written a g) lent left
  accepted_call = let (x, y, z, says, l) = spoken (image sizes g) lent left a call in go x y z says l
    where
      go : (x y z : ℕ) → Says x y z a → Leaves (image sizes g) x y z lent left → WellFormed (order_of g) a × (Clash (order_of g) a → ⊥) × Accepted (written a g) lent left
      go x y z says l =
          let s = image sizes g in
          let back = fields_back g t.sound in
          let c = cleared l (λ number j f. not_refused (sym ok ∙ ap (λ (l : Left). l.reply) f)) in
          let rows = subst (λ (h : Fields). Clears (amend_rows h x y z)) back (clears_back (filter_rows s lent) (amend_rows (fields_of sizes s) x y z) c.0) in
          let am : Amended g x y z lent left = subst (λ (h : Fields). Amended h x y z lent left) back c.1 in
          let well = well_formed (order_of g) says (fact rows.0) (fact rows.1.0) in
          let o = fact rows.1.1.0 in (
            well,
            λ q. clash_none (order_of g) o.2 a well q o.3 (subst (Obeys (order_of g) o.2) (says_one o.1 says) o.4),
            subst (λ (h : Fields). Accepted h lent left) (ap₂ written (says_one am.says says) (own g t am.confirmed)) am.last,
          )

  pub acc : Accepted (written a g) lent left
  acc = accepted_call.2

  -- the form with the amendment written in, and the one that was written
  h : Fields
  h = written a g

  h_sound : Clears (sound_rows sizes h)
  unfolding h
  h_sound = written_sound g t.sound a accepted_call.0 (omega (arith, acc.confirmed.first.lawful.enough, acc.confirmed.first.lawful.few))

  pub next : Fields
  next = confirmed_fields h acc.state acc.low acc.high

  next_alike : Alike (order_of h) (order_of next)
  unfolding next
  next_alike = confirmed_alike h h_sound acc.state acc.low acc.high

  stated : Confirmed (order_of h) (order_of next).state acc.low acc.high acc.wiring acc.segment acc.struck acc.pinned
  unfolding next h
  stated = restate (λ r l. sym (states_are h h_sound acc.state acc.low acc.high r l)) acc.confirmed

  pub next_settled : SettledForm next acc.wiring acc.segment
  unfolding next h
  next_settled = filtered_settled h h_sound acc

  pub keys : Keys (outcome g w segment) a (outcome next acc.wiring acc.segment)
  unfolding next h
  keys = let e = written_order g (whole_runs sizes (omega arith) g t.sound) a accepted_call.0 in record {
    well_formed = accepted_call.0;
    no_clash = accepted_call.1;
    gives = record {
      alike = subst (λ (o : Order). Alike o (order_of next)) (sym e) next_alike;
      struck = acc.struck;
      pinned = acc.pinned;
      confirmed = subst (λ (o : Order). Confirmed o (order_of next).state acc.low acc.high acc.wiring acc.segment acc.struck acc.pinned) (sym e) stated;
    };
  }

  pub next_like : Like g next
  unfolding next h
  next_like = let e = written_ends a g in let f = restated_ends acc.state (runs_in sizes h.runs) h.runs in record {
    places = written_places a g;
    ends = record { size = f.size ∙ e.size; kept = λ i n. f.kept i n ∙ e.kept i n };
  }

  acc_form : left.lent.form ≡ over (image sizes next) lent.form
  unfolding next h
  acc_form = acc.form

  -- the call left it
  pub next_form : take (length (image sizes g)) left.lent.form ≡ image sizes next
  unfolding next h
  next_form =
      ap (take (length (image sizes g))) acc.form
      ∙ take_at (image sizes next) (drop (length (image sizes next)) lent.form) (length (image sizes g))
      (length_image next (whole_runs sizes (omega arith) next next_settled.sound)
      ∙ ap₂ (λ (n m : ℕ). length_of sizes n m) (ap length next_like.places) (same_m next_like.ends) ∙ sym (length_image g (whole_runs sizes (omega arith) g t.sound)))

-- ---- a list of calls
-- the buffers hold this outcome, for a form with the places and runs of g
pub record Shows (g : Fields) (y : Outcome) (lent : Lent) (left : Left) : Type 0 where
  pub form : left.lent.form ≡ over (image sizes (confirmed_fields g y.form.state y.form.low y.form.high)) lent.form
  pub wired : Written (λ r. bit (y.wiring r)) (runs_in sizes g.runs) lent.wiring left.lent.wiring
  pub numbered : Written y.segment (length g.places) lent.segments left.lent.segments

pub ends_at : (g : Fields) {w : Wiring} {segment : ℕ → ℕ} (t : SettledForm g w segment) {s : List ℕ} {L : List Amendment} {lent : Lent} {left : Left} → s ≡ image sizes g
    → Accepts s L lent left → (y : Outcome) × Keyed (outcome g w segment) L y × Shows g y lent left
ends_at g t e (last a lent left call ok) =
    let c = subst (λ (x : List ℕ). Call x a lent left) e call in
    let q = acc g t a lent left c ok in
    let z = next_like g t a lent left c ok in (
      outcome (next g t a lent left c ok) q.wiring q.segment,
      then (keys g t a lent left c ok) done,
      record {
        form = acc_form g t a lent left c ok ∙ ap (λ (x : Fields). over (image sizes x) lent.form) (sym (own_like g t.sound (next g t a lent left c ok) z));
        wired = subst (λ (m : ℕ). Written (λ r. bit (q.wiring r)) m lent.wiring left.lent.wiring) (same_m (written_ends a g)) q.wired;
        numbered = subst (λ (n : ℕ). Written q.segment n lent.segments left.lent.segments) (ap length (written_places a g)) q.numbered;
      },
    )
ends_at g t {lent = lent} {left} e (before a lent' left' call ok rest) =
    let c = subst (λ (x : List ℕ). Call x a lent' left') e call in
    let p = next g t a lent' left' c ok in
    let z = next_like g t a lent' left' c ok in
    let (y, k, shows) = ends_at p (next_settled g t a lent' left' c ok) (ap (λ (x : List ℕ). take (length x) left'.lent.form) e ∙ next_form g t a lent' left' c ok) rest in (
      y,
      then (keys g t a lent' left' c ok) k,
      record {
        form = shows.form ∙ ap (λ (x : Fields). over (image sizes x) lent.form) (over_like g t.sound p z y.form.state y.form.low y.form.high);
        wired = subst (λ (m : ℕ). Written (λ r. bit (y.wiring r)) m lent.wiring left.lent.wiring) (same_m z.ends) shows.wired;
        numbered = subst (λ (n : ℕ). Written y.segment n lent.segments left.lent.segments) (ap length z.places) shows.numbered;
      },
    )

pub equal_as : {o p : Order} {state state' : ℕ → ℕ} {low low' high high' : ℕ} {w w' : Wiring} {segment segment' : ℕ → ℕ} → Alike o p
    → Equal o state state' low low' high high' w w' segment segment' → Equal p state state' low low' high high' w w' segment segment'
equal_as a e = record {
  states = λ r l. e.states r (subst (λ (k : ℕ). r < k) (sym a.m) l);
  lows = e.lows;
  highs = e.highs;
  wirings = λ r l. e.wirings r (subst (λ (k : ℕ). r < k) (sym a.m) l);
  segments = λ x l. e.segments x (subst (λ (k : ℕ). x < k) (sym a.n) l);
}

-- two outcomes that are the same leave the same
pub shows_one : (g : Fields) {y z : Outcome} {lent : Lent} {p q : Left} → Equal (order_of g) y.form.state z.form.state y.form.low z.form.low y.form.high z.form.high y.wiring z.wiring y.segment z.segment
    → Shows g y lent p → Shows g z lent q → p.lent ≡ q.lent
shows_one g {y} {z} {lent} e a b = λ i. record {
  form = (a.form ∙ (λ j. over (image sizes (record { places = g.places; runs = restated_same y.form.state z.form.state (runs_in sizes g.runs) g.runs e.states j; low = e.lows j; high = e.highs j })) lent.form) ∙ sym b.form) i;
  wiring = written_one a.wired b.wired (λ r l. ap bit (e.wirings r l)) i;
  segments = written_one a.numbered b.numbered e.segments i;
}
