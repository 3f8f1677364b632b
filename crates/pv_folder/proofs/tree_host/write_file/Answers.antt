use Rattle.std.proofs.Common.{◌≡◌, ◌∙◌, true, false, sym}
use Rattle.pv_folder.proofs.Changing.{room_for}
use Rattle.pv_folder.proofs.tree_host.write_file.Goals as goal

pub with_file-requires : goal.with_file-requires
with_file-requires c =
    room_for c.args.tree.now.files c.args.path c.args.content c.requires (λ is. let never : false ≡ true = sym c.if-is_file.false ∙ c.is_file.ensures.1 is in cc)
