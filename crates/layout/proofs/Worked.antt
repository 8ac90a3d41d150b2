-- Form E of the paper, computed by the definitions.
use Rattle.std.specs.Prelude.{ℕ, List, [], ◌∷◌, ◌++◌, ◌≡◌, refl}
use Rattle.layout.specs.Layout.{sizes, bytes, end_u, end_v, state_of, Fields, image}
use Rattle.layout.specs.Rows.{fields_of, heading_of}

-- a run's record
run : ℕ → ℕ → ℕ → List ℕ
run u v state = bytes u ++ bytes v ++ state ∷ []

-- five places, supplies at 0 and 4; run 0-1 fixed, 1-2, 0-2, 2-3 and 3-4 possible; 1 to 9 segments
pub form_e : Fields
unfolding run
form_e =
    record {
      places = 1 ∷ 0 ∷ 0 ∷ 0 ∷ 1 ∷ [];
      runs = run 0 1 2 ++ run 1 2 1 ++ run 0 2 1 ++ run 2 3 1 ++ run 3 4 1;
      low = 1;
      high = 9;
    }

-- the 54 bytes that the paper prints
pub bytes_e : List ℕ
bytes_e =
    3 ∷ 0 ∷ 1 ∷ 0 ∷ 20 ∷ 0 ∷ 5 ∷ 0 ∷ 2 ∷ 0 ∷ 25 ∷ 0 ∷ 5 ∷ 0 ∷ 3 ∷ 0 ∷ 50 ∷ 0 ∷ 1 ∷ 0
    ∷ 1 ∷ 0 ∷ 0 ∷ 0 ∷ 1
    ∷ 0 ∷ 0 ∷ 1 ∷ 0 ∷ 2 ∷ 1 ∷ 0 ∷ 2 ∷ 0 ∷ 1 ∷ 0 ∷ 0 ∷ 2 ∷ 0 ∷ 1
    ∷ 2 ∷ 0 ∷ 3 ∷ 0 ∷ 1 ∷ 3 ∷ 0 ∷ 4 ∷ 0 ∷ 1
    ∷ 1 ∷ 0 ∷ 9 ∷ 0 ∷ []

pub image_e : image sizes form_e ≡ bytes_e
unfolding form_e bytes_e
image_e = refl

pub fields_e : fields_of sizes bytes_e ≡ form_e
unfolding form_e bytes_e
fields_e = refl

pub heading_e : heading_of sizes bytes_e ≡ record { places = 5; runs = 5; low = 1; high = 9 }
unfolding bytes_e
heading_e = refl

-- its run 3 goes from 2 to 3 and is possible
pub run_e : (end_u sizes form_e.runs 3 ≡ 2) × (end_v sizes form_e.runs 3 ≡ 3) × (state_of sizes form_e.runs 3 ≡ 1)
unfolding form_e
run_e = (refl, refl, refl)
