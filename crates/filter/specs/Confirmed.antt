-- The confirmed form, as it is written: the image up to line four, new states in its runs, and line four.
use Prim.Native.Nat.{ℕ, ◌+◌, ◌-◌, ◌*◌, ◌/◌}
use mathlib.Core.List.{List, [], ◌++◌, append_assoc}
use Rattle.std.specs.Prelude.{◌≡◌, refl, take, drop}
use Rattle.std.proofs.Math.Path.{sym, ap, ap₂}
use Rattle.std.proofs.Common.{◌∙◌, drop_at, arith}
use Rattle.std.proofs.Math.ListN.{length, length-append}
use Rattle.std.proofs.Math.Seq.{take_at}
use Rattle.answer.specs.Laws.{fact}
use Rattle.filter.specs.Filtered.{restated, confirmed_fields}
use Rattle.filter.specs.Laws.{length_restated}
use Rattle.layout.proofs.Image.{Bytes, head, up_to_runs, up_to_line, over_more, image_back}
use Rattle.layout.specs.Layout.{sizes, word, runs_at, line_at, runs_in, contents, line_four_bytes, image, over, over_at}
use Rattle.layout.proofs.Laws.{places_length, runs_count, fields_sound, whole_runs}
use Rattle.layout.specs.Rows.{Laid, fields_of}
use Rattle.reader.specs.Laws.{Valid}

-- an image that is read as a form with n places and m runs
pub record IsForm (s : List ℕ) (n m : ℕ) : Type 0 where
  pub low : ℕ
  pub high : ℕ
  pub valid : Valid s n m low high

-- the middle of three lists is changed where it stands
patched : (a r rest : List ℕ) (at len : ℕ) (g : List ℕ → List ℕ) → length a ≡ at → length r ≡ len
    → take at (a ++ r ++ rest) ++ (g (take len (drop at (a ++ r ++ rest))) ++ drop len (drop at (a ++ r ++ rest))) ≡ a ++ g r ++ rest
patched a r rest at len g e l =
    ap (λ (x : List ℕ). take at x ++ (g (take len (drop at x)) ++ drop len (drop at x))) (append_assoc a r rest)
    ∙ ap₂ (λ (p q : List ℕ). p ++ (g (take len q) ++ drop len q)) (take_at a (r ++ rest) at e) (drop_at a (r ++ rest) at e)
    ∙ ap₂ (λ (p q : List ℕ). a ++ (g p ++ q)) (take_at r rest len l) (drop_at r rest len l)
    ∙ sym (append_assoc a (g r) rest)

module _ {s : List ℕ} {n m low high : ℕ} (small : Bytes s) (v : Valid s n m low high) where
  laid : Laid sizes s (word s 6) (word s 12)
  laid = fact v.clears.1.1.0

  -- the fields have n places and m runs
  pub n_places : length (fields_of sizes s).places ≡ n
  n_places = places_length sizes (omega arith) s laid ∙ sym v.places

  pub m_runs : runs_in sizes (fields_of sizes s).runs ≡ m
  m_runs = runs_count sizes (omega arith) s laid ∙ sym v.runs

  wholes : length (fields_of sizes s).runs ≡ 5 * runs_in sizes (fields_of sizes s).runs
  wholes = whole_runs sizes (omega arith) (fields_of sizes s) (fields_sound sizes (omega arith) s v.clears)

  before_runs : List ℕ
  before_runs = head (fields_of sizes s) ++ (fields_of sizes s).places

  upto_runs : length before_runs ≡ runs_at sizes n
  unfolding before_runs
  upto_runs = up_to_runs (fields_of sizes s) ∙ ap (runs_at sizes) n_places

  upto_line : length (before_runs ++ (fields_of sizes s).runs) ≡ line_at sizes n m
  unfolding before_runs
  upto_line = up_to_line (fields_of sizes s) wholes ∙ ap₂ (line_at sizes) n_places m_runs

  -- the image up to line four
  front : take (line_at sizes n m) s ≡ before_runs ++ (fields_of sizes s).runs
  unfolding before_runs
  front = ap (take (line_at sizes n m)) (sym (image_back s small v.clears))
      ∙ take_at (head (fields_of sizes s) ++ (fields_of sizes s).places ++ (fields_of sizes s).runs) (line_four_bytes (fields_of sizes s).low (fields_of sizes s).high) (line_at sizes n m) upto_line

  module _ (state : ℕ → ℕ) (low' high' : ℕ) where
    new_runs : List ℕ
    new_runs = restated state m (fields_of sizes s).runs

    new_line : length (before_runs ++ new_runs) ≡ line_at sizes n m
    unfolding new_runs
    new_line = length-append before_runs (restated state m (fields_of sizes s).runs) ∙ ap (λ (k : ℕ). length before_runs + k) (length_restated state m (fields_of sizes s).runs)
        ∙ sym (length-append before_runs (fields_of sizes s).runs) ∙ upto_line

    -- the new form has the old table of contents
    image_is : image sizes (confirmed_fields (fields_of sizes s) state low' high') ≡ before_runs ++ new_runs ++ line_four_bytes low' high'
    unfolding new_runs before_runs
    image_is =
        ap₂ (λ (k : ℕ) (runs : List ℕ). contents sizes (length (fields_of sizes s).places) ((k + 4) / 5) ++ (fields_of sizes s).places ++ runs ++ line_four_bytes low' high')
        (length_restated state (runs_in sizes (fields_of sizes s).runs) (fields_of sizes s).runs) (ap (λ (k : ℕ). restated state k (fields_of sizes s).runs) m_runs)

    pub confirmed_written : (b₀ b₁ b₂ b₃ : List ℕ) → b₁ ≡ over_at 0 (take (line_at sizes n m) s) b₀
        → b₂ ≡ take (runs_at sizes n) b₁ ++ (restated state m (take (line_at sizes n m - runs_at sizes n) (drop (runs_at sizes n) b₁)) ++ drop (line_at sizes n m - runs_at sizes n) (drop (runs_at sizes n) b₁))
        → b₃ ≡ over_at (line_at sizes n m) (line_four_bytes low' high') b₂
        → b₃ ≡ over (image sizes (confirmed_fields (fields_of sizes s) state low' high')) b₀
    unfolding new_runs
    confirmed_written b₀ b₁ b₂ b₃ e₁ e₂ e₃ =
        e₃ ∙ ap (over_at (line_at sizes n m) (line_four_bytes low' high')) second ∙ over_more (before_runs ++ new_runs) (line_four_bytes low' high') b₀ (line_at sizes n m) new_line
        ∙ ap (λ (x : List ℕ). over x b₀) (sym image_is)
      where
        runs : List ℕ
        runs = (fields_of sizes s).runs

        first : b₁ ≡ over (before_runs ++ runs) b₀
        first = e₁ ∙ over_more [] (take (line_at sizes n m) s) b₀ 0 refl ∙ ap (λ (x : List ℕ). over x b₀) front

        len : length runs ≡ line_at sizes n m - runs_at sizes n
        len = omega (arith, wholes, m_runs)

        second : b₂ ≡ over (before_runs ++ new_runs) b₀
        second =
            e₂ ∙ ap (λ (x : List ℕ). take (runs_at sizes n) x ++ (restated state m (take (line_at sizes n m - runs_at sizes n) (drop (runs_at sizes n) x)) ++ drop (line_at sizes n m - runs_at sizes n) (drop (runs_at sizes n) x))) first
            ∙ patched before_runs runs (drop (length (before_runs ++ runs)) b₀) (runs_at sizes n) (line_at sizes n m - runs_at sizes n) (restated state m) upto_runs len
            ∙ ap (λ (k : ℕ). before_runs ++ new_runs ++ drop k b₀) (upto_line ∙ sym new_line)
