use Rattle.std.proofs.Common.{ap, sym, ◌∙◌}
use Rattle.pv_path.specs.Paths.{Path, parent_of}
use Rattle.pv_path.proofs.PathLaws.{path_parts, no_last_name}
use Rattle.pv_tree.specs.Slots.{number_in}
use Rattle.pv_tree.proofs.ForestLaws.{number_of_child}
use Rattle.pv_tree.proofs.slots.number_of.Goals as goal

pub returns-in-Some : goal.returns-in-Some
returns-in-Some c =
    c.child_of.ensures
    ∙ sym (number_of_child c.args.slots.now.items c.args.at.directory c.in-Some.name.now c.args.at.path.now c.requires (path_parts c.args.at.path.now c.in-Some.name.now (sym c.in-Some.ensures)))

pub returns-in-None : goal.returns-in-None
returns-in-None c =
    let root = no_last_name c.args.at.path.now (sym c.in-None.ensures) in
    sym c.requires ∙ ap (λ (p : Path). number_in c.args.slots.now.items (parent_of p)) root ∙ sym (ap (number_in c.args.slots.now.items) root)
