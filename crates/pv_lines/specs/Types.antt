-- The table of types: what each letter takes (tmpfiles.d(5), "Type" and the sections on each type).
use Prim.Native.Char.{code}
use Rattle.std.specs.Prelude.{ℕ, true, false, ◌==◌, List, [], ◌∷◌, find, Option, option_map}
use Rattle.pv_lines.specs.declared.types.Row.{Row}
use Rattle.pv_lines.specs.declared.types.Wanted.{Wanted}
use Rattle.pv_lines.specs.declared.types.Wanted.TheVariants.{Content, Bytes, Target, Source, Device, Entries, Attrs, Letters, Nothing}

-- A type that makes the object at its path. It takes the modifier `=`. It does not take the root, an age or an
-- argument.
abbrev pub creating : ℕ → Row
creating letter = record {
  letter = letter;
  always_plus = false;
  plus = false;
  replace = true;
  encoded = false;
  creates = true;
  root = false;
  ages = false;
  wanted = Nothing;
}

-- A type that adjusts, removes or spares what its pattern matches. It does not take the root, an age, an argument or
-- the modifier `=`.
abbrev pub matching : ℕ → Row
matching letter = record (creating letter) { replace = false; creates = false }

-- What a type takes besides: `+`, `~`, the root, an age, or an argument.
abbrev pub with_plus : Row → Row
with_plus row = record row { plus = true }

abbrev pub with_encoded : Row → Row
with_encoded row = record row { encoded = true }

abbrev pub with_root : Row → Row
with_root row = record row { root = true }

abbrev pub with_age : Row → Row
with_age row = record row { ages = true }

abbrev pub wanting : Wanted → Row → Row
wanting argument row = record row { wanted = argument }

-- All types:
-- - Files (`f F`), directories (`d D v q Q`), FIFOs (`p`), symbolic links (`L`), devices (`c b`) and copies (`C`) are
--   made.
-- - Files are written (`w`), and existing directories are adjusted (`e`).
-- - Owners and modes (`z Z`), ACLs (`a A`), extended attributes (`t T`) and file attribute flags (`h H`) are set.
-- - Objects are removed (`r R`), or spared from cleaning (`x X`).
-- `F` is kept as `f` with `+`.
abbrev pub types : List (ℕ × Row)
types =
    (code "f", with_plus (with_encoded (wanting Content (creating (code "f")))))
    ∷ (code "F", record (with_encoded (wanting Content (creating (code "f")))) { always_plus = true })
    ∷ (code "d", with_root (with_age (creating (code "d"))))
    ∷ (code "D", with_root (with_age (creating (code "D"))))
    ∷ (code "v", with_root (with_age (creating (code "v"))))
    ∷ (code "q", with_root (with_age (creating (code "q"))))
    ∷ (code "Q", with_root (with_age (creating (code "Q"))))
    ∷ (code "p", with_plus (creating (code "p")))
    ∷ (code "L", with_plus (wanting Target (creating (code "L"))))
    ∷ (code "c", with_plus (wanting Device (creating (code "c"))))
    ∷ (code "b", with_plus (wanting Device (creating (code "b"))))
    ∷ (code "C", with_age (wanting Source (creating (code "C"))))
    ∷ (code "w", with_plus (with_encoded (wanting Bytes (matching (code "w")))))
    ∷ (code "e", with_root (with_age (matching (code "e"))))
    ∷ (code "z", with_root (matching (code "z")))
    ∷ (code "Z", with_root (matching (code "Z")))
    ∷ (code "a", with_root (with_plus (wanting Entries (matching (code "a")))))
    ∷ (code "A", with_root (with_plus (wanting Entries (matching (code "A")))))
    ∷ (code "t", with_root (wanting Attrs (matching (code "t"))))
    ∷ (code "T", with_root (wanting Attrs (matching (code "T"))))
    ∷ (code "h", with_root (wanting Letters (matching (code "h"))))
    ∷ (code "H", with_root (wanting Letters (matching (code "H"))))
    ∷ (code "r", matching (code "r"))
    ∷ (code "R", matching (code "R"))
    ∷ (code "x", with_root (with_age (matching (code "x"))))
    ∷ (code "X", with_root (with_age (matching (code "X"))))
    ∷ []

-- What the type of a letter takes, if there is such a type.
abbrev pub type_of : ℕ → Option Row
type_of letter = option_map (λ entry. entry.1) (find (λ entry. entry.0 == letter) types)
