use Rattle.std.proofs.Common.{◌≡◌, ◌==◌, false, true, List, ℕ, length, subst}
use Rattle.pv_image.proofs.Stages.{bad_after, truncated}
use Rattle.pv_image.proofs.reader.check_end.Goals as goal

pub returns-in-Some-clause-err : goal.returns-in-Some-clause-err
returns-in-Some-clause-err c = bad_after c.args.left.number c.args.left.bytes.now _ _ c.in-Some.ensures.some

pub returns-in-None-clause-err : goal.returns-in-None-clause-err
returns-in-None-clause-err c =
    truncated c.args.left.number c.args.left.bytes.now c.in-None.ensures.none
    (λ e. let bad : false ≡ true = subst (λ (t : List ℕ). false ≡ (length t == 0)) e c.if-is_empty.ensures in cc)
