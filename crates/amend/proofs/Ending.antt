-- From the first filtering to the end: what each call left, and the outcome of the whole.
use Rattle.std.specs.Prelude.{ℕ, ◌≤◌, ◌≡◌, length, drop, Result, Ok, Err, MatchResult, IsErrAnd}
use mathlib.Core.List.{List, ◌++◌, append_assoc}
use Rattle.std.proofs.Math.Path.{sym, ap}
use Rattle.std.proofs.Common.{ap₂, subst, ◌∙◌, length-append, length-take, arith}
use Rattle.std.proofs.Math.ListN.{take}
use Rattle.std.proofs.Math.Seq.{take_at}
use Rattle.amend.specs.Amending.{Says, Named, written, WritesIn, unnamed, reversed, clashing, done, Leaves}
use Rattle.amend.specs.Fields.{written_alike, written_wholes}
use Rattle.amend.proofs.Settling.{Shorter, turned, started, not_named, not_ordered, clashes, unlawful, finished}
use Rattle.amend.specs.Writing.{OnFile, on_file}
use Rattle.answer.specs.declared.Counts.{Counts}
use Rattle.answer.specs.declared.Refusal.{Refusal}
use Rattle.answer.specs.declared.Refusal.TheVariants.{NoWiring}
use Rattle.answer.specs.Laws.{not_refused, as_refused, clears_front}
use Rattle.answer.specs.Reply.{Reply, accepted, refused, told}
use Rattle.answer.specs.Table.{Clears}
use Rattle.filter.specs.Filtered.{Lent, Left, Accepted, confirmed_fields, later_rows, filter_rows}
use Rattle.filter.specs.Filtered.{Leaves as Filters}
use Rattle.filter.specs.Restated.{confirmed_alike, still_sound, image_long}
use Rattle.layout.proofs.Image.{length_image, fields_back}
use Rattle.layout.specs.Checked.{told as written_as}
use Rattle.layout.specs.Layout.{sizes, runs_in, Fields, length_of, image}
use Rattle.layout.proofs.Laws.{fields_sound, whole_runs}
use Rattle.layout.specs.Rows.{fields_of, read_rows, sound_rows}
use Rattle.wirings.specs.Amendments.{Amendment, WellFormed, Clash}
use Rattle.wirings.proofs.Amendments.{amended_alike}
use Rattle.wirings.specs.OfForm.{order_of}
use Rattle.wirings.proofs.Standing.{alike_trans}

-- what is written in is not refused
not_both : {r : Result (Unit {0}) Refusal} {e : Refusal} → r ≡ Ok tt → r ≡ Err e → ⊥
not_both p q = not_refused (sym (ap written_as p) ∙ ap written_as q)

-- the first filtering accepted
pub record Begun (s : List ℕ) (lent : Lent) (left : Left) : Type 0 where
  pub small : Lent
  pub short : Shorter lent small
  pub counts : Counts
  pub filters : Filters s small left
  pub reply : left.reply ≡ accepted counts

module _ {s : List ℕ} {lent : Lent} {left : Left} (b : Begun s lent left) where
  clears : Clears (filter_rows s lent)
  clears = (started s b.short b.filters b.reply).0

  acc : Accepted (fields_of sizes s) b.small left
  acc = (started s b.short b.filters b.reply).1

  read : Clears (read_rows sizes s)
  read = clears_front (read_rows sizes s) (later_rows (fields_of sizes s) lent) clears

  sound : Clears (sound_rows sizes (fields_of sizes s))
  sound = fields_sound sizes (omega arith) s read

  -- the confirmed form
  g : Fields
  g = confirmed_fields (fields_of sizes s) acc.state acc.low acc.high

  g_sound : Clears (sound_rows sizes g)
  unfolding g
  g_sound = still_sound (fields_of sizes s) sound acc.confirmed

  g_long : length (image sizes g) ≡ length s
  unfolding g
  g_long = image_long s read acc

  module _ (rest : List ℕ) where
    draft_is : take (length s) (left.lent.form ++ rest) ≡ image sizes g
    unfolding g
    draft_is =
        ap (λ (t : List ℕ). take (length s) (t ++ rest)) acc.form
        ∙ ap (take (length s)) (append_assoc (image sizes g) (drop (length (image sizes g)) b.small.form) rest)
        ∙ take_at (image sizes g) (drop (length (image sizes g)) b.small.form ++ rest) (length s) g_long

    pub draft_on_file : OnFile (take (length s) (left.lent.form ++ rest))
    draft_on_file = subst OnFile (sym draft_is) (on_file g g_sound)

    pub draft_long : length (take (length s) (left.lent.form ++ rest)) ≡ length s
    draft_long = ap length draft_is ∙ g_long

    pub draft_room : length s ≤ length (left.lent.form ++ rest)
    draft_room = omega (arith, length-take (length s) (left.lent.form ++ rest), draft_long)

    module _ {x y z : ℕ} {t : List ℕ} {r : Result (Unit {0}) Refusal} (w : WritesIn (fields_of sizes (take (length s) (left.lent.form ++ rest))) x y z t r) where
      on_g : WritesIn g x y z t r
      on_g = subst (λ (h : Fields). WritesIn h x y z t r) (ap (fields_of sizes) draft_is ∙ fields_back g g_sound) w

      -- the amendment is refused
      pub not_written : {f : Refusal} → r ≡ Err f → Leaves s x y z lent (turned lent (told (Err f)))
      unfolding g
      not_written {f} e = go on_g
        where
          m : runs_in sizes g.runs ≡ runs_in sizes (fields_of sizes s).runs
          m = sym (confirmed_alike (fields_of sizes s) sound acc.state acc.low acc.high).m

          so : {j : Refusal} → r ≡ Err j → Leaves s x y z lent (turned lent (told (Err j))) → Leaves s x y z lent (turned lent (told (Err f)))
          so q l = subst (λ (a : Reply Counts). Leaves s x y z lent (turned lent a)) (as_refused (sym (ap written_as q) ∙ ap written_as e)) l

          go : WritesIn g x y z t r → Leaves s x y z lent (turned lent (told (Err f)))
          go (unnamed q n) = so q (not_named s x y z lent clears (λ h. n (subst (λ (i : ℕ). Named i x y z) (sym m) h)))
          go (reversed q h n) = so q (not_ordered s x y z lent clears (subst (λ (i : ℕ). Named i x y z) m h) n)
          go (clashing q a says well clash) = so q (clashes s x y z lent clears acc.confirmed a says well clash)
          go (done q a says well free w) = absurd (not_both q e)

      module _ (ok : r ≡ Ok tt) where
        -- it is written in
        wrote : (a : Amendment) × Says x y z a × WellFormed (order_of g) a × (Clash (order_of g) a → ⊥) × (t ≡ image sizes (written a g))
        wrote = go on_g
          where
            go : WritesIn g x y z t r → (a : Amendment) × Says x y z a × WellFormed (order_of g) a × (Clash (order_of g) a → ⊥) × (t ≡ image sizes (written a g))
            go (unnamed q n) = absurd (not_both ok q)
            go (reversed q h n) = absurd (not_both ok q)
            go (clashing q a says well clash) = absurd (not_both ok q)
            go (done q a says well free f) = (a, says, well, free, f)

        written_long : length t ≡ length s
        written_long = let a = wrote.0 in let h = alike_trans (amended_alike (order_of g) a) (written_alike g a) in
            ap length wrote.4 ∙ length_image (written a g) (written_wholes g (whole_runs sizes (omega arith) g g_sound) a) ∙ ap₂ (length_of sizes) (sym h.n) (sym h.m) ∙ sym (length_image g (whole_runs sizes (omega arith) g g_sound)) ∙ g_long

        module _ (more : List ℕ) where
          second_is : take (length s) (t ++ more) ≡ image sizes (written wrote.0 g)
          second_is = take_at t more (length s) written_long ∙ wrote.4

          pub second_long : length (take (length s) (t ++ more)) ≡ length s
          second_long = ap length (take_at t more (length s) written_long) ∙ written_long

          pub second_room : length s ≤ length (t ++ more)
          second_room = omega (arith, length-append t more, written_long)

          module _ {last : Left} (q : Filters (take (length s) (t ++ more)) lent last) where
            filters : Filters (image sizes (written wrote.0 g)) lent last
            filters = subst (λ (u : List ℕ). Filters u lent last) second_is q

            pub second_refused : {i j : ℕ} → last.reply ≡ refused i j → Leaves s x y z lent (turned last.lent (refused 14 0))
            unfolding g
            second_refused f = unlawful s x y z lent clears acc.confirmed wrote.0 wrote.1 wrote.2 wrote.3 filters f

            pub second_accepted : {i : Counts} → last.reply ≡ accepted i → Leaves s x y z lent last
            unfolding g
            second_accepted f = finished s x y z lent clears acc.confirmed wrote.0 wrote.1 wrote.2 wrote.3 filters f

            -- the reply of the whole is the last, or 14 where that refuses
            pub ended : {Q : Refusal → Refusal → Type 0} (a c : Result Counts Refusal) → last.reply ≡ told a → ((e f : Refusal) → Q e f → f ≡ NoWiring)
                → MatchResult a (λ k. c ≡ Ok k) (λ e. IsErrAnd c (Q e)) → Leaves s x y z lent (turned last.lent (told c))
            ended (Ok k) c e h m = rw m (subst (Leaves s x y z lent) (ap (turned last.lent) e) (second_accepted e))
            ended (Err f) (Ok k) e h m = absurd m
            ended (Err f) (Err n) e h m = rw (h f n m) (second_refused e)
