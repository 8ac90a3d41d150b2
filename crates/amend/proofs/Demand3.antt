-- Demand 3, over the bytes that `amend` writes: the order in which amendments are keyed does not matter.
use Rattle.std.specs.Prelude.{ℕ, ◌*◌, List, [], ◌∷◌, ◌↔◌, ◌⊎◌, ◌≡◌, refl, length, take}
use Rattle.std.proofs.Common.{inl, inr, ⊎_elim, sym, ap, subst, ◌∙◌, arith}
use Rattle.amend.specs.Amending.{Says, amend_rows, written, Leaves}
use Rattle.amend.proofs.Calls.{Like, over_like, outcome, spoken, written_order, acc, next, next_settled, keys, next_like, next_form, Shows, ends_at, equal_as, shows_one}
use Rattle.amend.specs.Fields.{written_wholes, written_places, written_ends, written_alike, written_sound}
use Rattle.amend.specs.Keying.{SettledForm, Call, Amender, AllOf, Accepts, last, before, MeetsRefusal, here, later, written_all}
use Rattle.amend.proofs.Settling.{room_as, well_named, well_ordered}
use Rattle.answer.specs.Laws.{not_refused, cleared, settled_last, clears_join, clear}
use Rattle.answer.specs.declared.Counts.{Counts}
use Rattle.answer.specs.Reply.{Reply, accepted, refused}
use Rattle.answer.specs.Table.{Clears}
use Rattle.filter.specs.Demand2.{lawful_clears, lawful_confirmed}
use Rattle.filter.specs.Filtered.{Lent, Left, Room, Accepted, bit, Written, later_rows, filter_rows}
use Rattle.filter.specs.Filtered.{Leaves as Filters}
use Rattle.filter.specs.Restated.{same_m}
use Rattle.layout.proofs.Image.{fields_whole, fields_back, read_back}
use Rattle.layout.specs.Layout.{sizes, runs_in, Fields, image, over}
use Rattle.layout.proofs.Laws.{whole_runs}
use Rattle.layout.specs.Rows.{fields_of, read_rows, sound_rows}
use Rattle.wirings.proofs.Alike.{alike_sym}
use Rattle.wirings.specs.Amendments.{Amendment, WellFormed, AllWellFormed, Obeys, ObeysAll, Permuted, written_in}
use Rattle.wirings.proofs.Amendments.{amended_alike, amendment_cuts, clash_none, all_well_formed_as, obeys_all_as, obeys_permuted, well_formed_permuted, written_wirings}
use Rattle.wirings.proofs.Amendments.{written_alike as written_in_alike, written_sound as written_in_sound}
use Rattle.wirings.specs.Keyed.{Keyed, done, then}
use Rattle.wirings.proofs.Keyed.{keyed_alike, keyed_stands, keyed_wirings, keyed_same, stops}
use Rattle.wirings.specs.OfForm.{order_of, order_sound}
use Rattle.wirings.specs.Same.{Agree, confirmed}
use Rattle.wirings.proofs.Same.{same_confirmation}
use Rattle.wirings.specs.Standing.{Outcome, Gives, Stands}
use Rattle.wirings.proofs.Standing.{alike_trans, gives_confirmed}
use Rattle.wirings.specs.Theorem1.{order_rows}
use Rattle.wirings.specs.Wiring.{Order, Wiring, Lawful}

-- ---- all written in
all_like : (L : List Amendment) (g : Fields) → Like g (written_all L g)
all_like [] g = record { places = refl; ends = record { size = refl; kept = λ i n. refl } }
all_like (a ∷ L) g = let r = all_like L (written a g) in let e = written_ends a g in record {
  places = r.places ∙ written_places a g;
  ends = record { size = r.ends.size ∙ e.size; kept = λ i n. r.ends.kept i n ∙ e.kept i n };
}

all_wholes : (L : List Amendment) (g : Fields) → length g.runs ≡ 5 * runs_in sizes g.runs → length (written_all L g).runs ≡ 5 * runs_in sizes (written_all L g).runs
all_wholes [] g whole = whole
all_wholes (a ∷ L) g whole = all_wholes L (written a g) (written_wholes g whole a)

all_order : (L : List Amendment) (g : Fields) → length g.runs ≡ 5 * runs_in sizes g.runs → AllWellFormed (order_of g) L → written_in L (order_of g) ≡ order_of (written_all L g)
all_order [] g whole well = refl
all_order (a ∷ L) g whole well =
    ap (written_in L) (written_order g whole a well.0)
    ∙ all_order L (written a g) (written_wholes g whole a) (all_well_formed_as (alike_trans (amended_alike (order_of g) a) (written_alike g a)) L well.1)

-- where a lawful wiring obeys them all, it is lawful with all written in, and that form has no fault
all_sound : (L : List Amendment) (g : Fields) → Clears (sound_rows sizes g) → AllWellFormed (order_of g) L → (b : Wiring) → Lawful (order_of g) b → ObeysAll (order_of g) b L
    → Clears (sound_rows sizes (written_all L g)) × Lawful (order_of (written_all L g)) b
all_sound [] g sound well b h o = (sound, h)
all_sound (a ∷ L) g sound well b h o =
    let e = alike_trans (amended_alike (order_of g) a) (written_alike g a) in
    let l = subst (λ (p : Order). Lawful p b) (written_order g (whole_runs sizes (omega arith) g sound) a well.0) ((amendment_cuts (order_of g) b a well.0 (λ q. clash_none (order_of g) b a well.0 q h o.0)).1 (h, o.0)) in
    all_sound L (written a g) (written_sound g sound a well.0 (omega (arith, l.enough, l.few))) (all_well_formed_as e L well.1) b l (obeys_all_as e b L o.1)

-- one filtering of the form with all written in
at_once : (g : Fields) → Clears (sound_rows sizes g) → (L : List Amendment) → AllWellFormed (order_of g) L → {lent : Lent} {left : Left} {k : Counts}
    → Filters (image sizes (written_all L g)) lent left → left.reply ≡ accepted k → (y : Outcome) × Gives (written_in L (order_of g)) y × Shows g y lent left
at_once g sound L well {lent} {left} p ok =
    let whole = whole_runs sizes (omega arith) g sound in
    let h = written_all L g in
    let e = all_like L g in
    let c : Accepted h lent left = subst (λ (x : Fields). Accepted x lent left) (fields_whole h (all_wholes L g whole)) (cleared p (λ number j f. not_refused (sym ok ∙ ap (λ (l : Left). l.reply) f))).1 in (
      record { form = confirmed (order_of h) c.state c.low c.high; wiring = c.wiring; segment = c.segment },
      subst (λ (o : Order). Gives o (record { form = confirmed (order_of h) c.state c.low c.high; wiring = c.wiring; segment = c.segment })) (sym (all_order L g whole well)) (gives_confirmed (order_of h) c.confirmed),
      record {
        form = c.form ∙ ap (λ (x : Fields). over (image sizes x) lent.form) (over_like g sound h e c.state c.low c.high);
        wired = subst (λ (m : ℕ). Written (λ r. bit (c.wiring r)) m lent.wiring left.lent.wiring) (same_m e.ends) c.wired;
        numbered = subst (λ (n : ℕ). Written c.segment n lent.segments left.lent.segments) (ap length e.places) c.numbered;
      },
    )

-- ---- where a lawful wiring obeys, a call is not refused
not_refused_here : (g : Fields) {w : Wiring} {segment : ℕ → ℕ} → SettledForm g w segment → (a : Amendment) → WellFormed (order_of g) a → (b : Wiring) → Lawful (order_of g) b → Obeys (order_of g) b a
    → (lent : Lent) (left : Left) {i j : ℕ} → Room (fields_of sizes (image sizes g)) lent → Call (image sizes g) a lent left → left.reply ≡ refused i j → ⊥
not_refused_here g t a well b h o lent left room call refusal = let (x, y, z, says, l) = spoken (image sizes g) lent left a call in go x y z says l
  where
    go : (x y z : ℕ) → Says x y z a → Leaves (image sizes g) x y z lent left → ⊥
    go x y z says l =
        let back = sym (fields_back g t.sound) in
        let later = subst (λ (f : Fields). Clears (amend_rows f x y z)) back (clear (well_named (order_of g) says well), (clear (well_ordered (order_of g) says well), (clear (a, says, b, h, o), tt))) in
        let orders = subst (λ (f : Fields). Clears (order_rows (order_of f))) back (lawful_clears (order_of g) (order_sound g t.sound) b h) in
        let rows = clears_join (filter_rows (image sizes g) lent) (amend_rows (fields_of sizes (image sizes g)) x y z) (clears_join (read_rows sizes (image sizes g)) (later_rows (fields_of sizes (image sizes g)) lent) (read_back g t.sound) (clear room, orders)) later in
        not_refused (sym (settled_last rows l).last.reply ∙ refusal)

never_refused : (g : Fields) {w : Wiring} {segment : ℕ → ℕ} → SettledForm g w segment → {s : List ℕ} {L : List Amendment} → s ≡ image sizes g → AllWellFormed (order_of g) L
    → (b : Wiring) → Lawful (order_of g) b → ObeysAll (order_of g) b L → MeetsRefusal s L → ⊥
never_refused g t e well b h o (here a lent left room call refusal) =
    not_refused_here g t a well.0 b h o.0 lent left (subst (λ (x : List ℕ). Room (fields_of sizes x) lent) e room) (subst (λ (x : List ℕ). Call x a lent left) e call) refusal
never_refused g {w} {segment} t e well b h o (later a {L = L} lent left call ok rest) =
    let c = subst (λ (x : List ℕ). Call x a lent left) e call in
    let p = next g t a lent left c ok in
    let k : Keyed (outcome g w segment) (a ∷ []) (outcome p (acc g t a lent left c ok).wiring (acc g t a lent left c ok).segment) = then (keys g t a lent left c ok) done in
    never_refused p (next_settled g t a lent left c ok) (ap (λ (x : List ℕ). take (length x) left.lent.form) e ∙ next_form g t a lent left c ok)
    (all_well_formed_as (keyed_alike k) L well.1) b
    ((keyed_wirings (record { sound = order_sound g t.sound; confirmed = t.confirmed }) k b).1 (h, (o.0, tt))) (obeys_all_as (keyed_alike k) b L o.1) rest

room_on : (g : Fields) {w : Wiring} {segment : ℕ → ℕ} → SettledForm g w segment → {s : List ℕ} → s ≡ image sizes g → {lent : Lent} → Room g lent → Room (fields_of sizes s) lent
room_on g t e {lent} room = subst (λ (f : Fields). Room f lent) (sym (ap (fields_of sizes) e ∙ fields_back g t.sound)) room

-- ---- any function that meets the contract of `amend`, of the forms and amendments that can be handed to it: keying with it is accepted to the end, or
-- meets a refusal
module _ {lent : Lent} {Can : List ℕ → Type 0} {Said : Amendment → Type 0} {amend : List ℕ → Amendment → Left} (f : Amender lent Can Said amend) where
  replied : (r : Reply Counts) → ((k : Counts) × (r ≡ accepted k)) ⊎ ((i : ℕ) × (j : ℕ) × (r ≡ refused i j))
  replied (accepted k) = inl (k, refl)
  replied (refused i j) = inr (i, j, refl)

  keying : (g : Fields) {w : Wiring} {segment : ℕ → ℕ} → SettledForm g w segment → {s : List ℕ} → s ≡ image sizes g → Can s → (a : Amendment) (L : List Amendment) → AllOf Said (a ∷ L) → Room g lent
      → ((left : Left) × Accepts s (a ∷ L) lent left) ⊎ MeetsRefusal s (a ∷ L)
  keying g t {s} e can a [] said room = let left = amend s a in let call = f.meets s a can said.0 in
      ⊎_elim (λ (k, ok). inl (left, last a lent left call ok)) (λ (i, j, stop). inr (here a lent left (room_on g t e room) call stop)) (replied left.reply)
  keying g t {s} e can a (b ∷ L) said room = let left = amend s a in let call = f.meets s a can said.0 in
      ⊎_elim (λ (k, ok). let c = subst (λ (x : List ℕ). Call x a lent left) e call in let like = next_like g t a lent left c ok in let g' = next g t a lent left c ok in
      ⊎_elim (λ (end, r). inl (end, before a lent left call ok r)) (λ r. inr (later a lent left call ok r))
      (keying g' (next_settled g t a lent left c ok) (ap (λ (x : List ℕ). take (length x) left.lent.form) e ∙ next_form g t a lent left c ok) (f.again s a can said.0) b L said.1
      (room_as g g' (sym (ap length like.places)) (sym (same_m like.ends)) room)))
      (λ (i, j, stop). inr (here a lent left (room_on g t e room) call stop)) (replied left.reply)

-- ---- demand 3
module _ (g : Fields) {w : Wiring} {segment : ℕ → ℕ} (t : SettledForm g w segment) {L others : List Amendment} {first : Amendment} (well : AllWellFormed (order_of g) L) (pm : Permuted L (first ∷ others)) where
  start : Stands (outcome g w segment)
  start = record { sound = order_sound g t.sound; confirmed = t.confirmed }

  -- the outcome of keying one order is that of filtering with all written in
  as_once : (b : Wiring) → Lawful (order_of g) b → ObeysAll (order_of g) b L → {lent : Lent} {p q : Left} {k : Counts} → Accepts (image sizes g) (first ∷ others) lent p
      → Filters (image sizes (written_all L g)) lent q → q.reply ≡ accepted k → p.lent ≡ q.lent
  as_once b h o a f ok =
      let x = order_of g in
      let (y, k, s) = ends_at g t refl a in let (z, gives, r) = at_once g t.sound L well f ok in
      let agree : Agree y.form (written_in L x) = record {
        alike = alike_trans (alike_sym (keyed_alike k)) (written_in_alike L x);
        to = λ v e. let q = (keyed_wirings start k v).0 e in (written_wirings L x well b h o v).1 (q.0, (obeys_permuted x v pm).1 q.1);
        from = λ v e. let q = (written_wirings L x well b h o v).0 e in (keyed_wirings start k v).1 (q.0, (obeys_permuted x v pm).0 q.1);
      } in
      shows_one g (equal_as (alike_sym (keyed_alike k)) (same_confirmation y.form (written_in L x) (keyed_stands start k).sound (written_in_sound L x start.sound) agree (keyed_stands start k).confirmed gives.confirmed)) s r

  -- and that filtering is accepted
  once_accepted : (b : Wiring) → Lawful (order_of g) b → ObeysAll (order_of g) b L → {lent : Lent} {q : Left} → Room g lent → Filters (image sizes (written_all L g)) lent q → (k : Counts) × (q.reply ≡ accepted k)
  once_accepted b h o {lent} {q} room f =
      let e = all_like L g in let x = written_all L g in
      let (sound, lawful) = all_sound L g t.sound well b h o in
      let back = sym (fields_back x sound) in
      let there = room_as g x (sym (ap length e.places)) (sym (same_m e.ends)) room in
      let c = lawful_confirmed (image sizes x) lent q (read_back x sound) (subst (λ (y : Fields). Room y lent) back there) b (subst (λ (y : Fields). Lawful (order_of y) b) back lawful) f in
      (record { struck = c.struck; pinned = c.pinned }, c.reply)

  -- For a confirmed form, well-formed amendments L, keyed in any order, filtering after each, and buffers long enough. If some lawful wiring obeys them
  -- all, each is accepted, and the end is the form, wiring and segment numbers of filtering once with all of them written in; if none does, a refusal is met.
  module _ {lent : Lent} (room : Room g lent) {Can : List ℕ → Type 0} {Said : Amendment → Type 0} {amend : List ℕ → Amendment → Left} (f : Amender lent Can Said amend)
      (can : Can (image sizes g)) (said : AllOf Said (first ∷ others)) where
    pub demand_3 : (((b : Wiring) × Lawful (order_of g) b × ObeysAll (order_of g) b L)
        → ((p : Left) × Accepts (image sizes g) (first ∷ others) lent p)
        × (MeetsRefusal (image sizes g) (first ∷ others) → ⊥)
        × ((p q : Left) → Accepts (image sizes g) (first ∷ others) lent p → Filters (image sizes (written_all L g)) lent q → ((k : Counts) × (q.reply ≡ accepted k)) × (p.lent ≡ q.lent)))
        × (((b : Wiring) → Lawful (order_of g) b → ObeysAll (order_of g) b L → ⊥)
        → MeetsRefusal (image sizes g) (first ∷ others) × ((p : Left) → Accepts (image sizes g) (first ∷ others) lent p → ⊥))
    demand_3 = (
      λ (b, h, o). let none = never_refused g t refl (well_formed_permuted (order_of g) pm well) b h ((obeys_permuted (order_of g) b pm).0 o) in (
        ⊎_elim (λ a. a) (λ r. absurd (none r)) keyed,
        none,
        λ p q a once. let k = once_accepted b h o room once in (k, as_once b h o a once k.1),
      ),
      λ none. let refused' : (p : Left) → Accepts (image sizes g) (first ∷ others) lent p → ⊥ = λ p a. let (y, k, s) = ends_at g t refl a in let (b, h, o) = stops start k in none b h ((obeys_permuted (order_of g) b pm).1 o) in
          (⊎_elim (λ (p, a). absurd (refused' p a)) (λ r. r) keyed, refused'),
    )
      where
        keyed : ((p : Left) × Accepts (image sizes g) (first ∷ others) lent p) ⊎ MeetsRefusal (image sizes g) (first ∷ others)
        keyed = keying f g t refl can first others said room

-- ---- lists that the same wirings obey end alike
module _ (g : Fields) {w : Wiring} {segment : ℕ → ℕ} (t : SettledForm g w segment) where
  pub obeyed_alike : {L K : List Amendment} → ((b : Wiring) → ObeysAll (order_of g) b L ↔ ObeysAll (order_of g) b K) → {lent : Lent} {p q : Left}
      → Accepts (image sizes g) L lent p → Accepts (image sizes g) K lent q → p.lent ≡ q.lent
  obeyed_alike same a b =
      let (y, k, s) = ends_at g t refl a in let (z, l, r) = ends_at g t refl b in
      shows_one g (equal_as (alike_sym (keyed_alike k)) (keyed_same (record { sound = order_sound g t.sound; confirmed = t.confirmed }) k l same).equal) s r

  -- so two orders of a list do
  pub same_end : {L K : List Amendment} → Permuted L K → {lent : Lent} {p q : Left} → Accepts (image sizes g) L lent p → Accepts (image sizes g) K lent q → p.lent ≡ q.lent
  same_end pm a b = obeyed_alike (λ v. obeys_permuted (order_of g) v pm) a b

  -- and keying an amendment again changes nothing
  pub repeated : (a : Amendment) {lent : Lent} {p q : Left} → Accepts (image sizes g) (a ∷ []) lent p → Accepts (image sizes g) (a ∷ a ∷ []) lent q → p.lent ≡ q.lent
  repeated a x y = obeyed_alike (λ v. (λ h. (h.0, (h.0, tt)), λ h. (h.0, tt))) x y
