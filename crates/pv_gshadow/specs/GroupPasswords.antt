-- The entries of /etc/gshadow (gshadow(5)).
use Rattle.std.specs.Prelude.{ℕ, List, [], ◌∷◌, ◌++◌, codes}
use Rattle.pv_gshadow.specs.declared.view.GshadowEntry.{GshadowEntry}

-- The fields of an entry, in the order of the line.
abbrev pub gshadow_fields : GshadowEntry → List (List ℕ)
gshadow_fields e = e.name.now ∷ e.password.now ∷ e.administrators.now ∷ e.members.now ∷ []

-- The entry of a new group. Nobody can join it with a password, and it has no administrators and no members.
abbrev pub new_group : List ℕ → List ℕ
new_group name = name ++ codes ":!*::"
