-- The paths that decide what systemd-sysusers reads in a tree (sysusers.d(5)).
use Rattle.std.specs.Prelude.{Bool}
use Rattle.pv_path.specs.Paths.{Path}
use Rattle.pv_text.specs.declared.tool.Tool.TheVariants.{Sysusers}
use Rattle.pv_layers.specs.Folders.{folders}
use Rattle.pv_layers.specs.Inputs.{is_within}

-- The folders of its configuration files, with everything below them.
abbrev pub is_request_input : Path → Bool
is_request_input path = is_within (folders Sysusers) path
