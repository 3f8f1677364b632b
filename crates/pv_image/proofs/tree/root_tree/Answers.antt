use Rattle.std.proofs.Common.{◌∙◌, sym, ap}
use Rattle.std.specs.FinMap as fin
use Rattle.pv_tree.specs.Growth.{Grown}
use Rattle.pv_image.proofs.Order.{root_alone}
use Rattle.pv_image.proofs.tree.root_tree.Goals as goal

pub returns-clause-root : goal.returns-clause-root
returns-clause-root c =
    ap (λ (g : Grown). fin.entries g.files) c.in_ok-new.ensures
    ∙ root_alone c.args.path.now c.args.object (c.is_empty.ensures.0 c.if-not-is_empty.false) (sym c.is_directory.ensures ∙ c.if-not-is_directory.false) c.requires.payload
