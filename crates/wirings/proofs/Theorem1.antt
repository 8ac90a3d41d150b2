-- Theorem 1 of the paper: a lawful wiring exists exactly if the fixed runs have no loop, each component over unstruck runs holds a supply, and low..high meets MIN..MAX;
-- and then there is one of every count that lies in both.
use Rattle.std.specs.Prelude.{ℕ, zero, suc, max, ◌≤◌, ◌<◌, Bool, true, false, List, [], ◌∷◌, ◌↔◌, ◌≡◌, refl, eqb}
use Rattle.std.proofs.Common.{inl, inr, ⊎_elim, sym, subst, ◌∙◌, eqb-true, le_antisymm, arith}
use Rattle.std.proofs.Math.Decide.{ℕ_discrete}
use Rattle.wirings.specs.Chosen.{taken, chosen, chosen_used, true_not_false}
use Rattle.wirings.specs.Counted.{Sound, Runs, comps, comps_ext, feds_mono, all_fed}
use Rattle.wirings.specs.Forest.{Forest, forest_no_loop}
use Rattle.wirings.specs.Joined.{joined_mono, joined_into, joined_sym, joined_trans, fed_mono}
use Rattle.wirings.specs.Labels.{In, label_mono, label_least, joined_label, same_joined}
use Rattle.wirings.specs.Limits.{Fixed, fixed_runs, unstruck_runs, least, most, used_runs}
use Rattle.wirings.proofs.Limits.{fixed_in, in_fixed, unstruck_in, in_unstruck, in_used, used_in, segments, lawful_less, lawful_fed, lawful_least, lawful_most}
use Rattle.wirings.specs.Loops.{closing_loops}
use Rattle.wirings.specs.Pieces.{pieces_same}
use Rattle.wirings.specs.Scan.{Scan, Goes, goes, Passed, Kept, kept}
use Rattle.wirings.specs.Wiring.{Order, Wiring, Used, Leads, along, back, Joined, here, on, Segments, Loop, Fed, Lawful}
use Rattle.wirings.specs.Theorem1.{Opens, Meets, Names, Covers, start, Ends}

-- ---- a list of runs as a wiring
decided : {A : Type 0} → Dec A → Bool → Bool
decided (yes _) b = true
decided (no _) b = b

unfoldable pub member : List ℕ → Wiring
unfolding decided
member [] r = false
member (x ∷ L) r = decided (ℕ_discrete r x) (member L r)

step_in : (x r : ℕ) (L : List ℕ) (d : Dec (r ≡ x)) (b : Bool) → (b ≡ true → In L r) → decided d b ≡ true → In (x ∷ L) r
unfolding decided
step_in x r L (yes p) b f e = inl p
step_in x r L (no p) b f e = inr (f e)

pub member_in : (L : List ℕ) (r : ℕ) → member L r ≡ true → In L r
unfolding member decided
member_in [] r e = absurd (true_not_false (sym e))
member_in (x ∷ L) r e = step_in x r L (ℕ_discrete r x) (member L r) (member_in L r) e

in_step : (x r : ℕ) (L : List ℕ) (d : Dec (r ≡ x)) (b : Bool) → (In L r → b ≡ true) → In (x ∷ L) r → decided d b ≡ true
unfolding decided
in_step x r L (yes p) b f h = refl
in_step x r L (no p) b f (inl e) = absurd (p e)
in_step x r L (no p) b f (inr h) = f h

pub in_member : (L : List ℕ) (r : ℕ) → In L r → member L r ≡ true
unfolding member decided
in_member [] r h = elim h [ ]
in_member (x ∷ L) r h = in_step x r L (ℕ_discrete r x) (member L r) (in_member L r) h

loop_mono : {o : Order} {P Q : ℕ → Type 0} → ((r : ℕ) → P r → Q r) → Loop o P → Loop o Q
loop_mono f c = record {
  places = c.places;
  runs = c.runs;
  three = c.three;
  as_many = c.as_many;
  of_set = λ i l. f _ (c.of_set i l);
  leads = c.leads;
  closes = c.closes;
  places_differ = c.places_differ;
  runs_differ = c.runs_differ;
}

pub member_names : (o : Order) (L : List ℕ) → Names o (member L) L
member_names o L = record { only = λ r l. member_in L r; all = in_member L }

module _ (o : Order) (w : Wiring) (L : List ℕ) (runs : Runs o L) (names : Names o w L) where
  pub to_used : (r : ℕ) → In L r → Used o w r
  to_used r h = (runs r h, names.all r h)

  pub from_used : (r : ℕ) → Used o w r → In L r
  from_used r h = names.only r h.0 h.1

  pub comps_named : comps o (used_runs o w) ≡ comps o L
  comps_named = comps_ext o (used_runs o w) L (λ r h. from_used r (in_used o w r h)) (λ r h. used_in o w r (to_used r h))

-- ---- a forest of runs between the fixed and the unstruck ones that feeds every place, with an allowed count, is a lawful wiring
pub lawful_list : (o : Order) (ok : Sound o) (L : List ℕ) (w : Wiring) → Names o w L → Forest o L → ((r : ℕ) → In (fixed_runs o) r → In L r) → ((r : ℕ) → In L r → In (unstruck_runs o) r)
    → ((x : ℕ) → x < o.n → Fed o (In L) x) → o.low ≤ comps o L → comps o L ≤ o.high → Lawful o w
lawful_list o ok L w names forest more less fed low high = record {
  fixed = λ r l e. names.all r (more r (fixed_in o r l e));
  struck = λ r l e h. absurd (omega (arith, (in_unstruck o r (less r (names.only r l h))).1));
  no_loop = λ c. forest_no_loop o ok L runs forest (loop_mono (from_used o w L runs names) c);
  fed = λ x l. fed_mono (to_used o w L runs names) (fed x l);
  count = comps o (used_runs o w);
  counted = segments o w;
  enough = subst (λ (k : ℕ). o.low ≤ k) (sym (comps_named o w L runs names)) low;
  few = subst (λ (k : ℕ). k ≤ o.high) (sym (comps_named o w L runs names)) high;
}
  where
    runs : Runs o L
    runs r h = (in_unstruck o r (less r h)).0

-- ---- the fixed runs, where each opens, are a forest
forest_step : (o : Order) (k : ℕ) (b : Bool) → eqb (o.state k) 2 ≡ b → Opens o k → Forest o (chosen (λ r. eqb (o.state r) 2) k) → Forest o (taken b k (chosen (λ r. eqb (o.state r) 2) k))
forest_step o k true e f g =
    ((λ p. f (eqb-true (o.state k) 2 e) (joined_mono (λ j h. let q = chosen_used (λ r. eqb (o.state r) 2) k j h in (q.0, eqb-true (o.state j) 2 q.1)) (same_joined o _ p))), g)
forest_step o k false e f g = g

fixed_forest : (o : Order) (k : ℕ) → ((r : ℕ) → r < k → Opens o r) → Forest o (chosen (λ r. eqb (o.state r) 2) k)
unfolding chosen
fixed_forest o zero f = tt
fixed_forest o (suc k) f = forest_step o k (eqb (o.state k) 2) refl (f k (omega arith)) (fixed_forest o k (λ r l. f r (omega arith)))

-- they have no loop exactly if each opens
pub no_loop_opens : (o : Order) → Sound o → (Loop o (Fixed o) → ⊥) ↔ ((r : ℕ) → r < o.m → Opens o r)
no_loop_opens o ok = (
  λ none r l e p. none (closing_loops o (Fixed o) (λ j q. ok.up j q.0) (λ i j p q. ok.fresh i j p.0 q.0) r (l, e)
      (joined_mono (λ j q. ((omega (arith, q.0), q.1), λ z. omega (arith, q.0))) p)),
  λ opens c. forest_no_loop o ok (fixed_runs o) (λ r h. (in_fixed o r h).0) (fixed_forest o o.m opens) (loop_mono (λ r q. fixed_in o r q.0 q.1) c),
)

-- ---- the end of a scan over all possible runs, in whatever order
module _ (o : Order) (ok : Sound o) (meets : Meets o) where
  in_G : (x : ℕ) → x < o.n → Fed o (In (unstruck_runs o)) x
  in_G x l = fed_mono (λ r h. unstruck_in o r h.0 h.1) (meets.fed x l)

  pub forest : Forest o (fixed_runs o)
  forest = fixed_forest o o.m meets.open'

  -- MIN is at most MAX
  pub least_most : least o ≤ most o
  least_most =
      omega (
        arith,
        all_fed o ok.bit (unstruck_runs o) in_G,
        feds_mono o ok (fixed_runs o) (unstruck_runs o) (λ r h. (in_unstruck o r h).0) (λ r h. let q = in_fixed o r h in unstruck_in o r q.0 (omega (arith, q.1))),
      )

module _ (o : Order) (ok : Sound o) (meets : Meets o) (k : ℕ) (lk : least o ≤ k) (km : k ≤ most o) (c : ℕ → ℕ) (covers : Covers o c) {s : Scan} (g : Goes o c (start o k) o.m s) where
  held : Kept o c (start o k) o.m s
  held = kept o ok c (start o k) (λ r h. (in_fixed o r h).0) (forest o ok meets) covers.all g

  within : (r : ℕ) → In s.taken r → In (unstruck_runs o) r
  within r h = ⊎_elim (λ f. let q = in_fixed o r f in unstruck_in o r q.0 (omega (arith, q.1))) (λ q. unstruck_in o r (held.runs r h) (omega (arith, q.3))) (held.only r h)

  -- an unstruck run is taken, or its ends are joined, or both are supplied and nothing is spare
  seen : (r : ℕ) → In (unstruck_runs o) r → Passed o s r
  seen r h = let q = in_unstruck o r h in
      elim (ℕ_discrete (o.state r) 1) [
        | yes e ↦ let (j, l, p) = covers.every r q.0 e in subst (Passed o s) p (held.passed j l (subst (λ (x : ℕ). o.state x ≡ 1) (sym p) e))
        | no n ↦ inl (held.more r (fixed_in o r q.0 (omega (arith, ok.mark r q.0))))
      ]

  -- a place next to a supplied one is supplied
  next : {x y r : ℕ} → In (unstruck_runs o) r → Leads o r x y → Fed o (In s.taken) y → Fed o (In s.taken) x
  next {x} {y} {r} h l f = go l (seen r h)
    where
      by : {a b : ℕ} → Joined o (In s.taken) a b → Fed o (In s.taken) b → Fed o (In s.taken) a
      by p w = record { at = w.at; place = w.place; supplied = w.supplied; joined = joined_trans p w.joined }

      go : Leads o r x y → Passed o s r → Fed o (In s.taken) x
      go d (inl t) = by (on here r t d) f
      go (along p q) (inr (inl t)) = by (rw (p, q) at t) f
      go (back p q) (inr (inl t)) = by (joined_sym (rw (q, p) at t)) f
      go (along p q) (inr (inr (z, a, b))) = rw p at a
      go (back p q) (inr (inr (z, a, b))) = rw p at b

  walk : {x y : ℕ} → Joined o (In (unstruck_runs o)) x y → Fed o (In s.taken) y → Fed o (In s.taken) x
  walk here f = f
  walk (on p r h l) f = walk p (next h l f)

  supplied : (x : ℕ) → x < o.n → Fed o (In s.taken) x
  supplied x l = let f = in_G o ok meets x l in walk f.joined (record { at = f.at; place = f.place; supplied = f.supplied; joined = here })

  -- nothing is spare: else every unstruck run has its ends joined, and the count would be MIN
  counted : comps o s.taken ≡ k
  counted = elim (ℕ_discrete s.spare 0) [
    | yes z ↦ omega (arith, held.spent, all_fed o ok.bit s.taken supplied)
    | no z ↦ absurd (omega (arith, held.spent, all_fed o ok.bit s.taken supplied, whole z))
  ]
    where
      shut : (s.spare ≡ 0 → ⊥) → (r : ℕ) → In (unstruck_runs o) r → Joined o (In s.taken) (o.u r) (o.v r)
      shut z r h = ⊎_elim (λ t. on here r t (along refl refl)) (λ q. ⊎_elim (λ t. t) (λ w. absurd (z w.0)) q) (seen r h)

      whole : (s.spare ≡ 0 → ⊥) → comps o s.taken ≡ least o
      whole z = pieces_same o.n o.supply _ _ (λ x l. le_antisymm (label_least o s.taken (joined_into (shut z) (joined_label o (unstruck_runs o) x))) (label_mono o s.taken (unstruck_runs o) within x))

  pub scan_ends : Ends o k s
  scan_ends = record { forest = held.forest; more = held.more; less = within; fed = supplied; count = counted }

-- ---- theorem 1
pub listed : (o : Order) → Covers o (λ i. i)
listed o = record { all = λ j l. l; every = λ r l e. (r, l, refl) }

-- the wiring that names what a scan for an allowed count took is lawful, and has that count
module _ (o : Order) (ok : Sound o) (k : ℕ) (low : o.low ≤ k) (high : k ≤ o.high) (s : Scan) (e : Ends o k s) (w : Wiring) (names : Names o w s.taken) where
  pub ends_lawful : Lawful o w
  ends_lawful =
      lawful_list o ok s.taken w names e.forest e.more e.less e.fed (subst (λ (x : ℕ). o.low ≤ x) (sym e.count) low) (subst (λ (x : ℕ). x ≤ o.high) (sym e.count) high)

  pub ends_segments : Segments o w k
  ends_segments = subst (Segments o w) (comps_named o w s.taken (λ r h. (in_unstruck o r (e.less r h)).0) names ∙ e.count) (segments o w)

-- every count from MIN to MAX that line four allows is that of a lawful wiring
pub of_count : (o : Order) → Sound o → Meets o → (k : ℕ) → least o ≤ k → k ≤ most o → o.low ≤ k → k ≤ o.high → (w : Wiring) × Lawful o w × Segments o w k
of_count o ok meets k lk km low high =
    let (s, g) = goes o (λ i. i) (start o k) o.m in
    let e = scan_ends o ok meets k lk km (λ i. i) (listed o) g in
    let names = member_names o s.taken in
    (member s.taken, ends_lawful o ok k low high s e (member s.taken) names, ends_segments o ok k low high s e (member s.taken) names)

pub exists : (o : Order) → Sound o → o.low ≤ o.high → Meets o → (w : Wiring) × Lawful o w
exists o ok line meets = let (w, h, _) = of_count o ok meets (max o.low (least o)) (omega arith) (omega (arith, least_most o ok meets, meets.enough)) (omega arith) (omega (arith, meets.few)) in (w, h)

pub meets_of : (o : Order) → Sound o → (w : Wiring) → Lawful o w → Meets o
meets_of o ok w h = record {
  open' = (no_loop_opens o ok).0 (λ c. h.no_loop (loop_mono (λ r q. (q.0, h.fixed r q.0 q.1)) c));
  fed = λ x l. fed_mono (λ r q. in_unstruck o r q) (fed_mono (lawful_less o ok w h) (lawful_fed o ok w h x l));
  few = omega (arith, lawful_least o ok w h, h.few);
  enough = omega (arith, lawful_most o ok w h, h.enough);
}
