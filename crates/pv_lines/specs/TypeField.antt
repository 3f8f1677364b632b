-- The field Type: a letter, and then modifiers, each at most once (tmpfiles.d(5), "Type").
use Prim.Native.Char.{code}
use Rattle.std.specs.Prelude.{ℕ, Bool, true, not, ◌&&◌, ◌||◌, ◌==◌, List, [], ◌∷◌, Result, Ok, Err, if◌then◌else◌}
use Rattle.std.specs.List.{list_any, list_all}
use Rattle.pv_path.specs.Results.{◌>>=◌, or_fault}
use Rattle.pv_lines.specs.declared.line_fault.LineFault.{LineFault}
use Rattle.pv_lines.specs.declared.line_fault.LineFault.TheVariants.{UnknownType, BadModifier}
use Rattle.pv_lines.specs.declared.type_field.Typed.{Typed}
use Rattle.pv_lines.specs.declared.types.Row.{Row}
use Rattle.pv_lines.specs.Types.{type_of}

-- The modifiers `+ ! - = ~ $`.
abbrev pub plus : ℕ
plus = code "+"

abbrev pub boot : ℕ
boot = code "!"

abbrev pub minus : ℕ
minus = code "-"

abbrev pub replace : ℕ
replace = code "="

abbrev pub encoded : ℕ
encoded = code "~"

abbrev pub purge : ℕ
purge = code "$"

-- Whether a type takes a modifier. Each type takes `!` and `-`. The types that make an object take `$`.
abbrev pub takes : Row → ℕ → Bool
takes row mark =
    mark == boot || mark == minus || (mark == plus && row.plus) || (mark == replace && row.replace)
    || (mark == encoded && row.encoded) || (mark == purge && row.creates)

-- Whether a byte is among some bytes.
abbrev pub has_mark : List ℕ → ℕ → Bool
has_mark marks mark = list_any (λ other. other == mark) marks

-- Whether each byte occurs only once.
abbrev pub stand_once : List ℕ → Bool
stand_once [] = true
stand_once (mark ∷ marks) = not (has_mark marks mark) && stand_once marks

-- A type with the modifiers that follow its letter. For `F`, `+` is always set.
abbrev pub with_marks : Row → List ℕ → Typed
with_marks row marks = record {
  row = row;
  plus = row.always_plus || has_mark marks plus;
  boot = has_mark marks boot;
  minus = has_mark marks minus;
  replace = has_mark marks replace;
  encoded = has_mark marks encoded;
  purge = has_mark marks purge;
}

-- What the field spells, or its fault. It is UnknownType if there is no letter or no such type. It is BadModifier if
-- the type does not take a modifier, or if a modifier occurs twice.
abbrev pub typed_of : List ℕ → Result Typed LineFault
typed_of [] = Err UnknownType
typed_of (letter ∷ marks) =
    or_fault UnknownType (type_of letter) >>= (λ row.
    if list_all (takes row) marks && stand_once marks then Ok (with_marks row marks) else Err BadModifier)
