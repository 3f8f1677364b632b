-- The field Path: a path, or a pattern of paths (tmpfiles.d(5), "Path"; glob(7)).
use Rattle.std.specs.Prelude.{ℕ, Bool, true, false, not, ◌&&◌, ◌||◌, nat_eq, List, [], ◌∷◌, codes, drop, Result, Ok, Err, if◌then◌else◌}
use Rattle.std.specs.List.{starts_with}
use Rattle.std.specs.Result.{result_map_both}
use Rattle.pv_path.specs.Parsing.{path_of}
use Rattle.pv_path.specs.Results.{◌>>=◌, in_words}
use Rattle.pv_glob.specs.Matching.{some_matches}
use Rattle.pv_glob.specs.Parsing.{pattern_of}
use Rattle.pv_text.specs.Facts.{Values}
use Rattle.pv_text.specs.Specifiers.{expanded}
use Rattle.pv_text.specs.declared.tool.Tool.TheVariants.{Tmpfiles}
use Rattle.pv_lines.specs.Faults.{of_expansion, of_path, of_pattern}
use Rattle.pv_lines.specs.declared.line_fault.LineFault.{LineFault}
use Rattle.pv_lines.specs.declared.line_fault.LineFault.TheVariants as fault
use Rattle.pv_lines.specs.declared.line.LinePath.{LinePath}
use Rattle.pv_lines.specs.declared.line.LinePath.TheVariants.{Literal, Glob}
use Rattle.pv_lines.specs.declared.types.Row.{Row}
use Rattle.pv_lines.specs.declared.path_field.Named.{Named}
use Rattle.pv_lines.specs.declared.type_field.Typed.{Typed}

-- A text with its specifiers expanded, or the first fault.
abbrev pub expansion : Values → List ℕ → Result (List ℕ) LineFault
expansion facts text = in_words of_expansion (expanded Tmpfiles facts text)

-- Whether a text begins with `/var/run/`, the old name of `/run/`.
abbrev pub is_moved : List ℕ → Bool
is_moved text = starts_with nat_eq text (codes "/var/run/")

-- A text with `/run/` in place of a leading `/var/run/`.
abbrev pub current : List ℕ → List ℕ
current text = if is_moved text then drop 4 text else text

-- What a text names. If the type makes an object, it is one path. Otherwise it is a pattern, which stands for the
-- paths that it matches.
abbrev pub path_named : Row → List ℕ → Result LinePath LineFault
path_named row text =
    if row.creates then result_map_both (λ path. Literal path) of_path (path_of text)
    else result_map_both (λ pattern. Glob pattern) of_pattern (pattern_of text)

-- Whether a path is the root, or a pattern matches the root.
abbrev pub is_root : LinePath → Bool
is_root (Literal []) = true
is_root (Literal (name ∷ path)) = false
is_root (Glob pattern) = some_matches pattern []

-- What is named, or the fault RootPath. The root may be named only if the type takes it and the modifier `$` is not
-- present.
abbrev pub allowed : Typed → LinePath → Result LinePath LineFault
allowed typed path = if is_root path && (not typed.row.root || typed.purge) then Err fault.RootPath else Ok path

-- What the field names, or its first fault: of the specifiers, of the path or pattern, and RootPath. It also keeps
-- the text, and whether `/var/run/` was rewritten.
abbrev pub named_of : Values → Typed → List ℕ → Result Named LineFault
named_of facts typed text =
    expansion facts text >>= (λ written.
    path_named typed.row (current written) >>= (λ path.
    allowed typed path >>= (λ path.
    Ok (record { path = path; text = current written; moved = is_moved written }))))
