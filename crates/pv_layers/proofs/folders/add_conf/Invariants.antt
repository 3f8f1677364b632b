use Rattle.std.proofs.Common.{◌≡◌, drop}
use Rattle.std.specs.List.{fold, filter}
use Rattle.pv_layers.specs.Folders.{is_conf, with_name}
use Rattle.pv_layers.proofs.folders.add_conf.Given as goal

abbrev pub invariant-loop-name : goal.invariant-loop-name
invariant-loop-name l = fold with_name l.names.keys (filter is_conf (drop l.name-index l.found)) ≡ fold with_name l.fn.names.keys (filter is_conf l.found)
