-- The folders that hold configuration files, and what is in them (tmpfiles.d(5), sysusers.d(5)).
use Rattle.std.specs.Prelude.{ℕ, Bool, true, false, not, ◌&&◌, nat_eq, List, [], ◌∷◌, ◌++◌, codes, filter, Option, Some, None}
use Rattle.std.specs.List.{flat_map, fold, starts_with, ends_with}
use Rattle.std.specs.Ordering.{nat_cmp}
use Rattle.std.specs.Cmp.Lexicographic.{slice_cmp}
use Rattle.std.specs.BTreeSet.{insert_key}
use Rattle.pv_path.specs.Names.{same_bytes}
use Rattle.pv_path.specs.Paths.{Path}
use Rattle.pv_text.specs.declared.tool.Tool.{Tool}
use Rattle.pv_text.specs.declared.tool.Tool.TheVariants.{Tmpfiles, Sysusers}
use Rattle.pv_steps.specs.declared.node.Kind.{Kind}
use Rattle.pv_steps.specs.declared.node.Kind.TheVariants.{Directory, File, Link}
use Rattle.pv_steps.specs.declared.object.Object.{Object}
use Rattle.pv_steps.specs.Trees.{Files, places, kind_of, names_below}
use Rattle.pv_layers.specs.declared.found.Found.{Found}
use Rattle.pv_layers.specs.declared.found.Found.TheVariants.{Missing, Masked, Odd, Regular}

-- ---- the folders

-- The last component of the folders of a tool.
abbrev pub last_folder : Tool → List ℕ
last_folder Tmpfiles = codes "tmpfiles.d"
last_folder Sysusers = codes "sysusers.d"

-- The folders of a tool. The first one has the highest precedence.
abbrev pub folders : Tool → List Path
folders tool =
    (codes "etc" ∷ last_folder tool ∷ [])
    ∷ (codes "run" ∷ last_folder tool ∷ [])
    ∷ (codes "usr" ∷ codes "local" ∷ codes "lib" ∷ last_folder tool ∷ [])
    ∷ (codes "usr" ∷ codes "lib" ∷ last_folder tool ∷ [])
    ∷ []

-- The names in a folder. If there is none, or it is not a directory, it counts as empty. A symbolic link is not
-- followed.
abbrev pub names_in : Files → Path → List (List ℕ)
names_in files folder = by (kind_of (places files folder))
  where
    by : Option Kind → List (List ℕ)
    by (Some Directory) = names_below files folder
    by _ = []

-- Whether a name ends in `.conf` and does not begin with a period.
abbrev pub is_conf : List ℕ → Bool
is_conf name = ends_with nat_eq name (codes ".conf") && not (starts_with nat_eq name (codes "."))

-- The names of the configuration files in a folder.
abbrev pub conf_names_in : Files → Path → List (List ℕ)
conf_names_in files folder = filter is_conf (names_in files folder)

-- A name is inserted into names in byte order, each of which occurs once.
abbrev pub with_name : List (List ℕ) → List ℕ → List (List ℕ)
with_name names name = insert_key (slice_cmp nat_cmp) names name

-- The names of the configuration files in some folders, in byte order, each once.
abbrev pub conf_names : Files → List Path → List (List ℕ)
conf_names files places = fold with_name [] (flat_map (conf_names_in files) places)

-- ---- what a path and a name stand for

-- The target of a symbolic link that masks a name.
abbrev pub mask_target : List ℕ
mask_target = codes "/dev/null"

-- What an object is as a configuration file. A file is read, and a symbolic link to `/dev/null` is a mask. Everything
-- else is odd, other symbolic links too.
abbrev pub judged : Path → Object → Found
judged path object = by object.node.kind
  where
    masks : Bool → Found
    masks true = Masked
    masks false = Odd path

    by : Kind → Found
    by File = Regular path
    by Link = masks (same_bytes object.payload mask_target)
    by _ = Odd path

-- What a path stands for as a configuration file.
abbrev pub found_at : Files → Path → Found
found_at files path = by (places files path)
  where
    by : Option Object → Found
    by None = Missing
    by (Some object) = judged path object

-- The first one or, if it is missing, the other one.
abbrev pub or_else : Found → Found → Found
or_else Missing other = other
or_else found other = found

-- What a name stands for: what is at this name in the first folder that has it. So a file or a mask in `/etc` hides a
-- file of the same name in `/usr/lib`.
abbrev pub found_in : Files → List Path → List ℕ → Found
found_in files [] name = Missing
found_in files (folder ∷ folders) name = or_else (found_at files (folder ++ name ∷ [])) (found_in files folders name)
