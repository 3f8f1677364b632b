-- Names of several folders, put in order one after the other; a name looked for in one folder after the other.
use Rattle.std.proofs.Common.{◌≡◌, ℕ, suc, ◌+◌, ◌<◌, List, [], ◌∷◌, ◌++◌, drop, length, get_or, refl}
use Rattle.std.proofs.Math.Seq.{drop-cons}
use Rattle.pv_path.specs.Paths.{Path}
use Rattle.pv_steps.specs.Trees.{Files}
use Rattle.pv_layers.specs.declared.found.Found.{Found}
use Rattle.pv_layers.specs.declared.found.Found.TheVariants.{Missing, Masked, Odd, Regular}
use Rattle.pv_layers.specs.Folders.{found_at, found_in, or_else}

decides : (found other : Found) → (found ≡ Missing → ⊥) → or_else found other ≡ found
decides Missing other is = absurd (is refl)
decides Masked other is = refl
decides (Odd path) other is = refl
decides (Regular path) other is = refl

pub taken_there : (files : Files) (folders : List Path) (i : ℕ) (d : Path) (name : List ℕ) → i < length folders → (found_at files (get_or folders i d ++ name ∷ []) ≡ Missing → ⊥)
    → found_in files (drop i folders) name ≡ found_at files (get_or folders i d ++ name ∷ [])
taken_there files folders i d name below is = rw (drop-cons folders i d below) (decides (found_at files (get_or folders i d ++ name ∷ [])) (found_in files (drop (suc i) folders) name) is)
