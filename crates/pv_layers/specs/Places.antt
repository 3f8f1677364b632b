-- The paths from which the lines of systemd-tmpfiles are read (tmpfiles.d(5), passwd(5), group(5)).
use Rattle.std.specs.Prelude.{Bool, List, [], ◌∷◌, ◌++◌, codes}
use Rattle.pv_path.specs.Paths.{Path}
use Rattle.pv_text.specs.declared.tool.Tool.TheVariants.{Tmpfiles}
use Rattle.pv_layers.specs.Folders.{folders}
use Rattle.pv_layers.specs.Inputs.{is_within}

-- The path `/etc`.
abbrev pub etc : Path
etc = codes "etc" ∷ []

-- The files of users and groups.
abbrev pub passwd_path : Path
passwd_path = codes "etc" ∷ codes "passwd" ∷ []

abbrev pub group_path : Path
group_path = codes "etc" ∷ codes "group" ∷ []

-- The folders of configuration files of systemd-tmpfiles, and the files of users and groups.
abbrev pub inputs : List Path
inputs = folders Tmpfiles ++ passwd_path ∷ group_path ∷ []

-- Whether a path is one of these, or below one.
abbrev pub is_input : Path → Bool
is_input path = is_within inputs path
