-- Pieces: how many there are, how many hold a supply, and what one more run does to both.
use Prim.Native.Nat.{ℕ, min, max, ◌+◌, ◌<◌}
use Rattle.std.specs.Prelude.{◌≡◌}
use Rattle.std.proofs.Math.Path.{sym, ap, ap₂}
use Rattle.std.proofs.Common.{◌∙◌}
use Rattle.std.proofs.Math.Decide.{dec_lt}
use native.Mathlib.Omega.{arith}
use Rattle.wirings.specs.Labels.{moved, Moved, went, stayed, moves, of_both}
use Rattle.wirings.specs.Tally.{when, when_is, when_not, tally, tally_same, tally_add, tally_but, tally_two, zeros}

-- the pieces of some labels among the first n places: a piece is counted at the place that is its own label
unfoldable pub pieces : ℕ → (ℕ → ℕ) → ℕ
pieces n lab = tally (λ x. when (lab x) x 1) n

-- the supplies in the piece with label x
unfoldable pub stock : ℕ → (ℕ → ℕ) → (ℕ → ℕ) → ℕ → ℕ
stock n supply lab x = tally (λ y. when (lab y) x (supply y)) n

-- the pieces that hold a supply
unfoldable pub fed_pieces : ℕ → (ℕ → ℕ) → (ℕ → ℕ) → ℕ
fed_pieces n supply lab = tally (λ x. when (lab x) x (min 1 (stock n supply lab x))) n

module _ (n : ℕ) (supply : ℕ → ℕ) where
  -- labels that are equal below n count alike
  pub pieces_same : (f g : ℕ → ℕ) → ((x : ℕ) → x < n → f x ≡ g x) → pieces n f ≡ pieces n g
  unfolding pieces
  pieces_same f g h = tally_same _ _ n (λ x l. ap (λ (k : ℕ). when k x 1) (h x l))

  pub stock_same : (f g : ℕ → ℕ) → ((x : ℕ) → x < n → f x ≡ g x) → (x : ℕ) → stock n supply f x ≡ stock n supply g x
  unfolding stock
  stock_same f g h x = tally_same _ _ n (λ y l. ap (λ (k : ℕ). when k x (supply y)) (h y l))

  pub fed_same : (f g : ℕ → ℕ) → ((x : ℕ) → x < n → f x ≡ g x) → fed_pieces n supply f ≡ fed_pieces n supply g
  unfolding fed_pieces
  fed_same f g h = tally_same _ _ n (λ x l. ap₂ (λ (k s : ℕ). when k x (min 1 s)) (h x l) (stock_same f g h x))

  -- ---- two pieces are joined
  module _ (lab : ℕ → ℕ) (a b : ℕ) (pa : lab a ≡ a) (pb : lab b ≡ b) (ab : a ≡ b → ⊥) (la : a < n) (lb : b < n) where
    abbrev pub joined : ℕ → ℕ
    joined x = moved a b (lab x)

    low : lab (min a b) ≡ min a b
    low = (of_both (λ (k : ℕ). lab k ≡ k) a b pa pb).0

    high : lab (max a b) ≡ max a b
    high = (of_both (λ (k : ℕ). lab k ≡ k) a b pa pb).1

    less : min a b < max a b
    less = elim (dec_lt a b) [ yes l ↦ omega arith | no l ↦ elim (dec_lt b a) [ yes k ↦ omega arith | no k ↦ absurd (ab (omega arith)) ] ]

    high_goes : joined (max a b) ≡ min a b
    high_goes = go (moves a b (lab (max a b)))
      where
        go : {z : ℕ} → Moved a b (lab (max a b)) z → z ≡ min a b
        go (went p q) = q
        go (stayed p q) = absurd (p high)

    low_stays : joined (min a b) ≡ min a b
    low_stays = go (moves a b (lab (min a b)))
      where
        go : {z : ℕ} → Moved a b (lab (min a b)) z → z ≡ min a b
        go (went p q) = q
        go (stayed p q) = q ∙ low

    -- at every place but the larger label a label is its own as before
    root_kept : (x k : ℕ) → (x ≡ max a b → ⊥) → when (joined x) x k ≡ when (lab x) x k
    root_kept x k nx = go (moves a b (lab x))
      where
        go : {z : ℕ} → Moved a b (lab x) z → when z x k ≡ when (lab x) x k
        go (went p q) = when_not _ x k (λ e. omega (arith, less, low, ap lab (sym e ∙ q))) ∙ sym (when_not (lab x) x k (λ e. nx (sym e ∙ p)))
        go (stayed p q) = ap (λ (l : ℕ). when l x k) q

    high_gone : (k : ℕ) → when (joined (max a b)) (max a b) k ≡ 0
    high_gone k = when_not _ _ k (λ e. omega (arith, less, high_goes))

    pub pieces_join : pieces n joined + 1 ≡ pieces n lab
    unfolding pieces
    pieces_join =
        omega (
          arith,
          tally_but (λ x. when (joined x) x 1) (λ x. when (lab x) x 1) n (max a b) (omega arith) (λ x k. root_kept x 1 k),
          high_gone 1,
          when_is (lab (max a b)) (max a b) 1 high,
        )

    -- ---- supplies
    pub stock_low : stock n supply joined (min a b) ≡ stock n supply lab (min a b) + stock n supply lab (max a b)
    unfolding stock
    stock_low = tally_same _ _ n (λ y l. point y (moves a b (lab y))) ∙ tally_add _ _ n
      where
        point : (y : ℕ) {z : ℕ} → Moved a b (lab y) z → when z (min a b) (supply y) ≡ when (lab y) (min a b) (supply y) + when (lab y) (max a b) (supply y)
        point y (went p q) = omega (arith, when_is _ (min a b) (supply y) q, when_not (lab y) (min a b) (supply y) (λ e. omega (arith, less)), when_is (lab y) (max a b) (supply y) p)
        point y (stayed p q) = omega (arith, ap (λ (k : ℕ). when k (min a b) (supply y)) q, when_not (lab y) (max a b) (supply y) p)

    pub stock_kept : (x : ℕ) → (x ≡ min a b → ⊥) → (x ≡ max a b → ⊥) → stock n supply joined x ≡ stock n supply lab x
    unfolding stock
    stock_kept x nl nh = tally_same _ _ n (λ y l. point y (moves a b (lab y)))
      where
        point : (y : ℕ) {z : ℕ} → Moved a b (lab y) z → when z x (supply y) ≡ when (lab y) x (supply y)
        point y (went p q) = when_not _ x (supply y) (λ e. nl (sym e ∙ q)) ∙ sym (when_not (lab y) x (supply y) (λ e. nh (sym e ∙ p)))
        point y (stayed p q) = ap (λ (k : ℕ). when k x (supply y)) q

    pub stock_gone : stock n supply joined (max a b) ≡ 0
    unfolding stock
    stock_gone = tally_same _ (λ y. 0) n (λ y l. point y (moves a b (lab y))) ∙ zeros n
      where
        point : (y : ℕ) {z : ℕ} → Moved a b (lab y) z → when z (max a b) (supply y) ≡ 0
        point y (went p q) = when_not _ (max a b) (supply y) (λ e. omega (arith, less))
        point y (stayed p q) = when_not _ (max a b) (supply y) (λ e. p (sym q ∙ e))

    fed_ends : fed_pieces n supply joined + (min 1 (stock n supply lab (min a b)) + min 1 (stock n supply lab (max a b))) ≡ fed_pieces n supply lab + min 1 (stock n supply lab (min a b) + stock n supply lab (max a b))
    unfolding fed_pieces
    fed_ends =
        omega (
          arith,
          tally_two f g n (min a b) (max a b) (omega arith) (omega arith) (λ e. omega (arith, less)) (λ x nl nh. ap (λ (s : ℕ). when (joined x) x (min 1 s)) (stock_kept x nl nh) ∙ root_kept x _ nh),
          when_is (joined (min a b)) (min a b) (min 1 (stock n supply joined (min a b))) low_stays,
          stock_low,
          high_gone (min 1 (stock n supply joined (max a b))),
          when_is (lab (min a b)) (min a b) (min 1 (stock n supply lab (min a b))) low,
          when_is (lab (max a b)) (max a b) (min 1 (stock n supply lab (max a b))) high,
        )
      where
        f : ℕ → ℕ
        f x = when (joined x) x (min 1 (stock n supply joined x))

        g : ℕ → ℕ
        g x = when (lab x) x (min 1 (stock n supply lab x))

    pub fed_join : fed_pieces n supply joined + (min 1 (stock n supply lab a) + min 1 (stock n supply lab b)) ≡ fed_pieces n supply lab + min 1 (stock n supply lab a + stock n supply lab b)
    fed_join = elim (dec_lt a b)
        [ yes l ↦ omega (arith, fed_ends, ap (stock n supply lab) (lo l), ap (stock n supply lab) (hi l)) | no l ↦ omega (arith, fed_ends, ap (stock n supply lab) (lo' l), ap (stock n supply lab) (hi' l)) ]
      where
        lo : a < b → min a b ≡ a
        lo l = omega arith

        hi : a < b → max a b ≡ b
        hi l = omega arith

        lo' : (a < b → ⊥) → min a b ≡ b
        lo' l = omega arith

        hi' : (a < b → ⊥) → max a b ≡ a
        hi' l = omega arith
