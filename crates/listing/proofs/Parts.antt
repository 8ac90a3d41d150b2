-- A listing is its first line, its runs and its places, one after the other.
use Rattle.std.proofs.Common.{◌≡◌, ℕ, ◌+◌, List, subst}
use Rattle.std.specs.Prelude.{Option}
use Rattle.std.specs.Io.KnownBytes.{Appends}
use Rattle.std.proofs.KnownBytes.{Appends-trans}
use Rattle.layout.specs.Layout.{sizes, word, line_at}
use Rattle.listing.specs.Listing.{ok_line, run_lines, place_lines, listing}

pub listed : (a b c d : Option (List ℕ)) (struck pinned : ℕ) (form wiring segments : List ℕ) {n m low high n' m' : ℕ}
    → n ≡ n' → m ≡ m' → low ≡ word form (line_at sizes n' m') → high ≡ word form (line_at sizes n' m' + 2)
    → Appends a b (ok_line struck pinned low high) → Appends b c (run_lines form n wiring m) → Appends c d (place_lines form segments n)
    → Appends a d (listing struck pinned form wiring segments n' m')
listed a b c d struck pinned form wiring segments {m = m} {low = low} {n' = n'} {m' = m'} same_n same_m same_low same_high first runs places =
    let first' = subst (λ (k : ℕ). Appends a b (ok_line struck pinned k (word form (line_at sizes n' m' + 2)))) same_low
    (subst (λ (k : ℕ). Appends a b (ok_line struck pinned low k)) same_high first) in
    let runs' = subst (λ (k : ℕ). Appends b c (run_lines form n' wiring k)) same_m (subst (λ (k : ℕ). Appends b c (run_lines form k wiring m)) same_n runs) in
    let places' = subst (λ (k : ℕ). Appends c d (place_lines form segments k)) same_n places in
    Appends-trans a c d _ _ (Appends-trans a b c _ _ first' runs') places'
