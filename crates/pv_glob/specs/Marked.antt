-- Bytes that behave in the same way wherever a pattern allows any byte.
use Rattle.std.specs.Prelude.{ℕ, Bool, true, false, not, ◌||◌, ◌==◌}
use Rattle.pv_glob.specs.declared.element.Element.{Element}
use Rattle.pv_glob.specs.declared.element.Element.TheVariants.{Any, Many}
use Rattle.pv_path.specs.Names.{is_name_byte}

-- Whether an element matches any byte: `?` or `*`. At the beginning of a name they do not match a period.
abbrev pub is_wild : Element → Bool
is_wild Any = true
is_wild Many = true
is_wild element = false

-- Whether a byte must be looked at by itself. It is not allowed in names, or it occurs in `.`, `..` or the staging
-- mark `.#tf-`.
abbrev pub is_marked : ℕ → Bool
is_marked b = not (is_name_byte b) || b == 46 || b == 35 || b == 45 || b == 116 || b == 102
