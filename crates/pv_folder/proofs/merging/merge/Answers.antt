use Rattle.std.proofs.Common.{◌∙◌, sym, ap, subst}
use Rattle.pv_folder.specs.Merge.{IsPlain, merged}
use Rattle.pv_folder.proofs.MergingLaws.{merged_plained, plained_plain}
use Rattle.pv_folder.proofs.merging.merge.Goals as goal

pub merge_into-requires : goal.merge_into-requires
merge_into-requires c = subst IsPlain (sym c.in_ok-tree.ensures.files) (plained_plain c.args.real.now.files)

pub returns-clause-tree : goal.returns-clause-tree
returns-clause-tree c =
    let m = c.args.manifest.now.tree.files in
    c.in_ok-merge_into.ensures.files ∙ ap (merged m) c.in_ok-tree.ensures.files ∙ merged_plained m c.args.real.now.files
