use Rattle.std.proofs.Common.{◌≡◌, ◌∙◌, true, false, Some, sym, ap}
use Rattle.pv_folder.proofs.Changing.{bytes_none, bytes_there}
use Rattle.pv_folder.proofs.tree_host.file_bytes.Goals as goal

pub returns-then-not-is_file : goal.returns-then-not-is_file
returns-then-not-is_file c =
    bytes_none c.args.tree.now.files c.args.path.now (λ is. let no : false ≡ true = sym c.if-not-is_file.true ∙ c.is_file.ensures.1 is in cc)

pub returns : goal.returns
returns c =
    ap Some c.in_ok-from_slice.ensures.items ∙ c.bytes.ensures.content ∙ bytes_there c.args.tree.now.files c.args.path.now (c.is_file.ensures.0 c.if-not-is_file.false)
