use Rattle.std.proofs.Common.{refl, ◌-◌, length, take}
use Rattle.std.proofs.lemmas.Result.{IfOk-weaker}
use Rattle.pv_path.proofs.Relating.{staging_from_parts}
use Rattle.pv_path.proofs.relate.staging.Goals as goal

pub returns : goal.returns
returns c =
    IfOk-weaker c.ending.result _ _
    (λ out is. staging_from_parts c.args.path.now c.names.result.now (take (length c.names.result.now - 1) c.names.result.now) c.name-item.result c.in_ok-staging-in-len1-up.field-0 out
    c.names.ensures.value c.in-len1-up.len_at_least c.name-item.is refl c.in_ok-staging-in-len1-up.ensures is)
    c.ending.ensures
