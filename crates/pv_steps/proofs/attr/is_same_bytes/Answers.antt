use Rattle.std.proofs.Common.{sym, subst, ◌≡◌, Bool, IsTrue}
use Rattle.pv_path.proofs.PathLaws.{same_bytes-decides}
use Rattle.pv_steps.proofs.attr.is_same_bytes.Goals as goal

pub returns : goal.returns
returns c =
    subst (λ (b : Bool). (IsTrue b → c.args.a.now ≡ c.args.b.now) × (c.args.a.now ≡ c.args.b.now → IsTrue b)) (sym c.is_same.ensures)
    (same_bytes-decides c.args.a.now c.args.b.now)
