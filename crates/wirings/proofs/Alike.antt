-- Two orders with the same places, supplies and run ends: what is said of a wiring on one holds on the other.
use Rattle.std.specs.Prelude.{ℕ, ◌≤◌, ◌<◌, true, ◌≡◌}
use Rattle.std.proofs.Common.{sym, subst, ◌∙◌}
use Rattle.wirings.proofs.Limits.{counts_same}
use Rattle.wirings.specs.Wiring.{Order, Wiring, Used, Leads, along, back, Joined, here, on, Smallest, Counts, Segments, Loop, Fed, Lawful}
use Rattle.wirings.specs.Alike.{Alike}

pub alike_sym : {o p : Order} → Alike o p → Alike p o
alike_sym a = record { n = sym a.n; m = sym a.m; supply = λ x. sym (a.supply x); u = λ r. sym (a.u r); v = λ r. sym (a.v r) }

module _ {o p : Order} (a : Alike o p) where
  pub leads_as : {r x y : ℕ} → Leads o r x y → Leads p r x y
  leads_as {r} (along e f) = along (sym (a.u r) ∙ e) (sym (a.v r) ∙ f)
  leads_as {r} (back e f) = back (sym (a.v r) ∙ e) (sym (a.u r) ∙ f)

  pub joined_as : {P Q : ℕ → Type 0} → ((r : ℕ) → P r → Q r) → {x y : ℕ} → Joined o P x y → Joined p Q x y
  joined_as f here = here
  joined_as f (on q r h l) = on (joined_as f q) r (f r h) (leads_as l)

  pub fed_as : {P Q : ℕ → Type 0} → ((r : ℕ) → P r → Q r) → {x : ℕ} → Fed o P x → Fed p Q x
  fed_as f h = record
      { at = h.at; place = subst (λ (k : ℕ). h.at < k) a.n h.place; supplied = sym (a.supply h.at) ∙ h.supplied; joined = joined_as f h.joined }

  pub loop_as : {P Q : ℕ → Type 0} → ((r : ℕ) → P r → Q r) → Loop o P → Loop p Q
  loop_as f c = record {
    places = c.places;
    runs = c.runs;
    three = c.three;
    as_many = c.as_many;
    of_set = λ i l. f _ (c.of_set i l);
    leads = λ i l. leads_as (c.leads i l);
    closes = λ i l. leads_as (c.closes i l);
    places_differ = c.places_differ;
    runs_differ = c.runs_differ;
  }

  pub used_as : (w : Wiring) (r : ℕ) → Used o w r → Used p w r
  used_as w r h = (subst (λ (k : ℕ). r < k) a.m h.0, h.1)

module _ {o p : Order} (a : Alike o p) (w : Wiring) where
  pub segments_as : {k : ℕ} → Segments o w k → Segments p w k
  segments_as {k} c = subst (λ (n : ℕ). Counts (Smallest p (Used p w)) n k) a.n
      (counts_same (λ x s y l j. s y l (joined_as (alike_sym a) (used_as (alike_sym a) w) j)) (λ x s y l j. s y l (joined_as a (used_as a w) j)) c)

  -- lawful on one, and all right with the states and line four of the other
  pub lawful_as : (h : Lawful o w) → ((r : ℕ) → r < p.m → p.state r ≡ 2 → w r ≡ true) → ((r : ℕ) → r < p.m → p.state r ≡ 0 → w r ≡ true → ⊥)
      → p.low ≤ h.count → h.count ≤ p.high → Lawful p w
  lawful_as h fixed struck low high = record {
    fixed = fixed;
    struck = struck;
    no_loop = λ c. h.no_loop (loop_as (alike_sym a) (used_as (alike_sym a) w) c);
    fed = λ x l. fed_as a (used_as a w) (h.fed x (subst (λ (k : ℕ). x < k) (sym a.n) l));
    count = h.count;
    counted = segments_as h.counted;
    enough = low;
    few = high;
  }
