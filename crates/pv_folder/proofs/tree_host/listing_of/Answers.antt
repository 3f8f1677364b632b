use Rattle.std.proofs.Common.{◌≡◌, ◌∙◌, true, false, Some, sym, ap}
use Rattle.pv_folder.proofs.Changing.{listing_none, listing_there}
use Rattle.pv_folder.proofs.tree_host.listing_of.Goals as goal

pub returns-then-not-is_directory : goal.returns-then-not-is_directory
returns-then-not-is_directory c =
    listing_none c.args.tree.now.files c.args.path.now (λ is. let no : false ≡ true = sym c.if-not-is_directory.true ∙ c.is_directory.ensures.kind.1 is in cc)

pub returns : goal.returns
returns c =
    ap Some c.in_ok-items_of.ensures ∙ listing_there c.args.tree.now.files c.args.path.now (c.is_directory.ensures.kind.0 c.if-not-is_directory.false)
