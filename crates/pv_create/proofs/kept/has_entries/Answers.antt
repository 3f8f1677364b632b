use Rattle.std.proofs.Common.{Bool, ap, sym, ◌∙◌}
use Rattle.pv_acl.specs.Applying.{acl_after}
use Rattle.pv_acl.proofs.Equality.{acl_decides}
use Rattle.pv_create.proofs.kept.has_entries.Goals as goal

pub returns : goal.returns
returns c = λ h.
    ap (λ (d : Bool). acl_after c.args.node.now.acl c.args.line.now c.args.how d) (sym c.is_directory.ensures) ∙ sym c.in_ok-acl.ensures.after
    ∙ (acl_decides c.in_ok-acl.acl c.args.node.now.acl).0 (sym c.eq-same.ensures ∙ h)
