-- Which objects are old (tmpfiles.d(5), "Age").
use Rattle.std.specs.Prelude.{ℕ, ◌-◌, Bool, not, ◌&&◌, ◌||◌, ◌==◌, nat_le, nat_lt, List, [], ◌∷◌}
use Rattle.std.specs.List.{list_all}
use Rattle.pv_steps.specs.declared.node.Kind.{Kind}
use Rattle.pv_steps.specs.declared.node.Kind.TheVariants.{Directory, File, Link, Fifo, CharDevice, BlockDevice}
use Rattle.pv_steps.specs.declared.node.Node.{Node}
use Rattle.pv_steps.specs.declared.node.Stamps.{Stamps}
use Rattle.pv_age.specs.declared.age.Age.{Age}
use Rattle.pv_age.specs.declared.stamps.StampSet.{StampSet}
use Rattle.pv_age.specs.Stamps.{has}

-- The timestamps of a directory, with the bits of the letters A, B, C and M.
abbrev pub of_directory : Stamps → List (ℕ × ℕ)
of_directory stamps = (2, stamps.access) ∷ (8, stamps.birth) ∷ (32, stamps.change) ∷ (128, stamps.modify) ∷ []

-- The timestamps of any other object, with the bits of the letters a, b, c and m.
abbrev pub of_other : Stamps → List (ℕ × ℕ)
of_other stamps = (1, stamps.access) ∷ (4, stamps.birth) ∷ (16, stamps.change) ∷ (64, stamps.modify) ∷ []

-- The timestamps of an object, by its kind.
abbrev pub stamps_of_kind : Kind → Stamps → List (ℕ × ℕ)
stamps_of_kind Directory stamps = of_directory stamps
stamps_of_kind File stamps = of_other stamps
stamps_of_kind Link stamps = of_other stamps
stamps_of_kind Fifo stamps = of_other stamps
stamps_of_kind CharDevice stamps = of_other stamps
stamps_of_kind BlockDevice stamps = of_other stamps

-- A timestamp is before the limit, or is not among those that the age considers.
abbrev pub is_before : StampSet → ℕ → ℕ × ℕ → Bool
is_before by limit stamp = not (has by stamp.0) || nat_lt stamp.1 limit

-- Whether an object is old by an age. By the age 0 every object is old. Otherwise all timestamps that the age
-- considers are before now minus the age. If the age is greater than now, no object is old.
abbrev pub is_old : Node → Age → ℕ → Bool
is_old node age now =
    age.micros == 0
    || nat_le age.micros now && list_all (is_before age.by (now - age.micros)) (stamps_of_kind node.kind node.stamps)
