use Rattle.std.proofs.Common.{◌≡◌, get_or, arith}
use Rattle.pv_image.proofs.Paths.{path_text}
use Rattle.pv_image.proofs.name.read_path.Goals as goal

pub returns-in-47-2 : goal.returns-in-47-2
returns-in-47-2 c =
    let slash : get_or c.args.text.now 0 0 ≡ 47 = omega arith in
    path_text c.args.text.now c.read_names.result c.in-47-2.len_at_least slash c.read_names.ensures
