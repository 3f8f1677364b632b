-- A generated tree: eight directories with old files, and a configuration with random lines for them. All objects
-- belong to root, and all timestamps are 0 (this project's own).
use Rattle.std.specs.Prelude.{ℕ, ◌%◌, zero, suc, List, [], ◌∷◌, codes}
use Rattle.std.specs.Fmt.{decimal}
use Rattle.std.specs.FinMap as fin
use Rattle.pv_path.specs.Paths.{Path}
use Rattle.pv_steps.specs.declared.node.Kind.TheVariants.{Directory, File}
use Rattle.pv_steps.specs.declared.object.Object.{Object}
use Rattle.pv_steps.specs.Objects.{fresh}
use Rattle.pv_steps.specs.Trees.{Files}
use Rattle.pv_generate.specs.Lines.{lines_of}

-- A directory with mode 0755.
abbrev pub directory : Object
directory = fresh Directory 0o755 [] 0 0 0

-- A file with mode 0644.
abbrev pub file : List ℕ → Object
file bytes = fresh File 0o644 bytes 0 0 0

-- A name of a letter and a number.
abbrev pub numbered : ℕ → ℕ → List ℕ
numbered letter n = letter ∷ decimal n

-- `/etc`.
abbrev pub etc_path : Path
etc_path = codes "etc" ∷ []

-- `/etc/tmpfiles.d`.
abbrev pub folder_path : Path
folder_path = codes "etc" ∷ codes "tmpfiles.d" ∷ []

-- `/etc/tmpfiles.d/gen.conf`.
abbrev pub conf_path : Path
conf_path = codes "etc" ∷ codes "tmpfiles.d" ∷ codes "gen.conf" ∷ []

-- `/data`.
abbrev pub data_path : Path
data_path = codes "data" ∷ []

-- `/data/gN`.
abbrev pub group_path : ℕ → Path
group_path n = codes "data" ∷ numbered 103 n ∷ []

-- `/data/gJ/eN`, with J the remainder of N by 8.
abbrev pub old_path : ℕ → Path
old_path n = codes "data" ∷ numbered 103 (n % 8) ∷ numbered 101 n ∷ []

-- The tree of the root, `/etc`, `/etc/tmpfiles.d` and `/data`.
unfoldable pub folders : Files
folders = fin.insert (fin.insert (fin.insert (fin.insert fin.empty [] directory) etc_path directory) folder_path directory) data_path directory

-- This tree with the first directories `/data/gN`.
unfoldable pub with_groups : ℕ → Files
with_groups zero = folders
with_groups (suc n) = fin.insert (with_groups n) (group_path n) directory

-- The tree with all eight of these directories and the first old files.
unfoldable pub with_olds : ℕ → Files
with_olds zero = with_groups 8
with_olds (suc n) = fin.insert (with_olds n) (old_path n) (file (codes "old"))

-- The tree of a seed and a number of lines. It has as many old files as lines.
abbrev pub generated : ℕ → ℕ → Files
generated seed count = fin.insert (with_olds count) conf_path (file (lines_of seed count))
