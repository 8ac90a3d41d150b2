-- The unstruck runs at each place, as chains of entries: entry 2r is run r at its end u, entry 2r + 1 at its end v. For each place its last entry, and for
-- each entry the one before it at its place; one more than the entry, and 0 for none.
use Rattle.std.specs.Prelude.{ℕ, ◌+◌, ◌-◌, ◌*◌, ◌≤◌, ◌<◌, List, ◌≡◌, refl, length, set}
use Rattle.std.proofs.Common.{sym, ap, subst, ◌∙◌, length-set, get_or-set_same, get_or-set_other, arith}
use Rattle.std.proofs.Math.Decide.{ℕ_discrete}
use Rattle.pieces.specs.Holds.{at}
use Rattle.wirings.specs.Limits.{Unstruck}
use Rattle.wirings.specs.Wiring.{Order, Leads, along, back}

-- entry e is run r at its end y, and z is the other end
pub data Entry (o : Order) (e y r z : ℕ) : Type 0 where
  at_u : e ≡ 2 * r → o.u r ≡ y → o.v r ≡ z → Entry o e y r z
  at_v : e ≡ 2 * r + 1 → o.v r ≡ y → o.u r ≡ z → Entry o e y r z

pub entry_leads : {o : Order} {e y r z : ℕ} → Entry o e y r z → Leads o r y z
entry_leads (at_u _ p q) = along p q
entry_leads (at_v _ p q) = back p q

pub leads_entry : {o : Order} {r y z : ℕ} → Leads o r y z → (e : ℕ) × Entry o e y r z
leads_entry {r = r} (along p q) = (2 * r, at_u refl p q)
leads_entry {r = r} (back p q) = (2 * r + 1, at_v refl p q)

pub entry_below : {o : Order} {e y r z : ℕ} → Entry o e y r z → r < o.m → e < 2 * o.m
entry_below (at_u p _ _) l = omega arith
entry_below (at_v p _ _) l = omega arith

pub entry_one : {o : Order} {e y r z y' r' z' : ℕ} → Entry o e y r z → Entry o e y' r' z' → (y ≡ y') × (z ≡ z')
entry_one {o} {r = r} {r' = r'} (at_u a b c) (at_u d f g) = let q : r ≡ r' = omega arith in (sym b ∙ ap o.u q ∙ f, sym c ∙ ap o.v q ∙ g)
entry_one (at_u a b c) (at_v d f g) = absurd (omega arith)
entry_one (at_v a b c) (at_u d f g) = absurd (omega arith)
entry_one {o} {r = r} {r' = r'} (at_v a b c) (at_v d f g) = let q : r ≡ r' = omega arith in (sym b ∙ ap o.v q ∙ f, sym c ∙ ap o.u q ∙ g)

-- p names the last entry of y below a bound
pub record Before (o : Order) (y bound p : ℕ) : Type 0 where
  pub within : p ≤ bound
  pub none : (e r z : ℕ) → p ≤ e → e < bound → Unstruck o r → Entry o e y r z → ⊥
  pub some : 0 < p → (r : ℕ) × (z : ℕ) × Unstruck o r × Entry o (p - 1) y r z

pub record Linked (o : Order) (head prev : List ℕ) (bound : ℕ) : Type 0 where
  pub places : length head ≡ 256
  pub entries : length prev ≡ 2048
  pub heads : (y : ℕ) → y < o.n → Before o y bound (at head y)
  pub prevs : (e r y z : ℕ) → e < bound → Unstruck o r → Entry o e y r z → Before o y e (at prev e)

pub linked_none : {o : Order} {head prev : List ℕ} → length head ≡ 256 → length prev ≡ 2048 → ((y : ℕ) → at head y ≡ 0) → Linked o head prev 0
linked_none a b h = record {
  places = a;
  entries = b;
  heads = λ y l. record { within = omega (arith, h y); none = λ e r z _ k. absurd (omega arith); some = λ p. absurd (omega (arith, h y)) };
  prevs = λ e r y z l. absurd (omega arith);
}

module _ {o : Order} {head prev : List ℕ} {e : ℕ} (h : Linked o head prev e) where
  -- an entry of a struck run is left out
  pub linked_skip : ((r y z : ℕ) → Unstruck o r → Entry o e y r z → ⊥) → Linked o head prev (e + 1)
  linked_skip n = record {
    places = h.places;
    entries = h.entries;
    heads = λ y l. let b = h.heads y l in record {
      within = omega (arith, b.within);
      none = λ j r z p k u q. elim (ℕ_discrete j e) [ yes i ↦ n r y z u (subst (λ (k : ℕ). Entry o k y r z) i q) | no i ↦ b.none j r z p (omega arith) u q ];
      some = b.some;
    };
    prevs = λ j r y z l u q. elim (ℕ_discrete j e) [ yes i ↦ absurd (n r y z u (subst (λ (k : ℕ). Entry o k y r z) i q)) | no i ↦ h.prevs j r y z (omega arith) u q ];
  }

  -- another is put before those of its place
  pub linked_add : {r y z : ℕ} → Unstruck o r → Entry o e y r z → y < o.n → y < 256 → e < 2048 → Linked o (set head y (e + 1)) (set prev e (at head y)) (e + 1)
  linked_add {r} {y} {z} u q l b f = record {
    places = length-set head y (e + 1) ∙ h.places;
    entries = length-set prev e (at head y) ∙ h.entries;
    heads = λ x k. elim (ℕ_discrete x y) [
      | yes i ↦ subst (λ (j : ℕ). Before o j (e + 1) (at (set head y (e + 1)) j)) (sym i) (subst (Before o y (e + 1)) (sym (get_or-set_same head y (e + 1) 0 (omega (arith, h.places)))) own)
      | no i ↦ subst (Before o x (e + 1)) (sym (get_or-set_other head y x (e + 1) 0 i)) (other x k i)
    ];
    prevs = λ j s x w k v p. elim (ℕ_discrete j e) [
      | yes i ↦ let same = (entry_one q (subst (λ (j : ℕ). Entry o j x s w) i p)).0 in
          subst (Before o x j) (sym (ap (at (set prev e (at head y))) i ∙ get_or-set_same prev e (at head y) 0 (omega (arith, h.entries))))
          (subst (λ (t : ℕ). Before o t j (at head y)) same (subst (λ (t : ℕ). Before o y t (at head y)) (sym i) (h.heads y l)))
      | no i ↦ subst (Before o x j) (sym (get_or-set_other prev e j (at head y) 0 i)) (h.prevs j s x w (omega arith) v p)
    ];
  }
    where
      own : Before o y (e + 1) (e + 1)
      own = record { within = omega arith; none = λ j s w p k. absurd (omega arith); some = λ _. (r, z, u, subst (λ (j : ℕ). Entry o j y r z) (omega arith) q) }

      other : (x : ℕ) → x < o.n → (x ≡ y → ⊥) → Before o x (e + 1) (at head x)
      other x k i = let b = h.heads x k in record {
        within = omega (arith, b.within);
        none = λ j s w p c v t. elim (ℕ_discrete j e) [ yes d ↦ i (entry_one (subst (λ (k : ℕ). Entry o k x s w) d t) q).0 | no d ↦ b.none j s w p (omega arith) v t ];
        some = b.some;
      }
