-- The bytes of a listing: its lines, each a word and numbers, with a space before each number.
use Rattle.std.specs.Prelude.{ℕ, ◌+◌, List, [], ◌++◌, codes, decimal, slice_index, zero, suc}
use Rattle.layout.specs.Layout.{sizes, word, line_at}

-- a number with a space before it
abbrev pub spaced : ℕ → List ℕ
spaced k = codes " " ++ decimal k

abbrev pub refused_line : ℕ → ℕ → List ℕ
refused_line number place = codes "refused" ++ spaced number ++ spaced place ++ codes "\n"

abbrev pub step_line : ℕ → List ℕ
step_line number = codes "step" ++ spaced number ++ codes "\n"

abbrev pub ok_line : ℕ → ℕ → ℕ → ℕ → List ℕ
ok_line struck pinned low high = codes "ok" ++ spaced struck ++ spaced pinned ++ spaced low ++ spaced high ++ codes "\n"

-- run r, whose record begins at the given place of the form: its ends, its state, and whether the first wiring uses it
abbrev pub run_line : List ℕ → ℕ → ℕ → ℕ → List ℕ
run_line form at r used =
    codes "run" ++ spaced r ++ spaced (word form at) ++ spaced (word form (at + 2)) ++ spaced (slice_index form (at + 4)) ++ spaced used ++ codes "\n"

abbrev pub place_line : ℕ → ℕ → ℕ → List ℕ
place_line x supply segment = codes "place" ++ spaced x ++ spaced supply ++ spaced segment ++ codes "\n"

-- the lines of the first runs, in a form of n places
unfoldable pub run_lines : List ℕ → ℕ → List ℕ → ℕ → List ℕ
run_lines form n wiring zero = []
run_lines form n wiring (suc r) = run_lines form n wiring r ++ run_line form (line_at sizes n r) r (slice_index wiring r)

-- the lines of the first places
unfoldable pub place_lines : List ℕ → List ℕ → ℕ → List ℕ
place_lines form segments zero = []
place_lines form segments (suc x) = place_lines form segments x ++ place_line x (slice_index form (sizes.contents + x)) (slice_index segments x)

-- the listing of a form with n places and m runs: the counts and line four, the runs, and the places
abbrev pub listing : ℕ → ℕ → List ℕ → List ℕ → List ℕ → ℕ → ℕ → List ℕ
listing struck pinned form wiring segments n m =
    ok_line struck pinned (word form (line_at sizes n m)) (word form (line_at sizes n m + 2)) ++ run_lines form n wiring m ++ place_lines form segments n
