use Rattle.pv_acl.proofs.Allowed.{is_acl-acl_after}
use Rattle.pv_acl.proofs.apply.apply_entries.Goals as goal

pub returns-clause-allowed : goal.returns-clause-allowed
returns-clause-allowed c =
    λ h k. rw (c.in_ok-default_part.ensures, c.in_ok-access.ensures) (is_acl-acl_after c.args.old.now c.args.line.now c.args.how c.args.directory h k)
