-- Being joined: an equivalence, and more runs join more.
use Rattle.std.specs.Prelude.{ℕ}
use Rattle.wirings.specs.Wiring.{Order, Leads, along, back, Joined, here, on, Fed}

pub leads_back : {o : Order} {r x y : ℕ} → Leads o r x y → Leads o r y x
leads_back (along p q) = back q p
leads_back (back p q) = along q p

module _ {o : Order} {Q : ℕ → Type 0} where
  pub joined_trans : {x y z : ℕ} → Joined o Q x y → Joined o Q y z → Joined o Q x z
  joined_trans p here = p
  joined_trans p (on q r h l) = on (joined_trans p q) r h l

  pub joined_sym : {x y : ℕ} → Joined o Q x y → Joined o Q y x
  joined_sym here = here
  joined_sym (on p r h l) = joined_trans (on here r h (leads_back l)) (joined_sym p)

pub joined_mono : {o : Order} {P Q : ℕ → Type 0} → ((r : ℕ) → P r → Q r) → {x y : ℕ} → Joined o P x y → Joined o Q x y
joined_mono f here = here
joined_mono f (on p r h l) = on (joined_mono f p) r (f r h) l

pub fed_mono : {o : Order} {P Q : ℕ → Type 0} → ((r : ℕ) → P r → Q r) → {x : ℕ} → Fed o P x → Fed o Q x
fed_mono f h = record { at = h.at; place = h.place; supplied = h.supplied; joined = joined_mono f h.joined }

-- where every run of a set has its ends joined by another set, so is all that the first joins
pub joined_into : {o : Order} {P Q : ℕ → Type 0} → ((r : ℕ) → P r → Joined o Q (o.u r) (o.v r)) → {x y : ℕ} → Joined o P x y → Joined o Q x y
joined_into f here = here
joined_into {o} {P} {Q} f (on {y = y} {z = z} p r h l) = joined_trans (joined_into f p) (step l (f r h))
  where
    step : Leads o r y z → Joined o Q (o.u r) (o.v r) → Joined o Q y z
    step (along e g) j = rw (← e, ← g) j
    step (back e g) j = rw (← e, ← g) (joined_sym j)
