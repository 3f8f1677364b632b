use Rattle.std.proofs.Common.{◌≡◌, ◌++◌, take}
use Rattle.pv_folder.specs.Content.{spelled}
use Rattle.pv_folder.specs.Folders.{tree_path}
use Rattle.pv_folder.proofs.host_path.host_path.Given as goal

abbrev pub invariant-loop-name : goal.invariant-loop-name
invariant-loop-name l = spelled l.bytes.items ≡ tree_path (spelled l.folder) ++ take l.name-index l.path
