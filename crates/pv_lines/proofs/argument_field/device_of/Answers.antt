use Rattle.std.proofs.Common.{Some, None, map, sym, ap, ◌∙◌}
use Rattle.pv_lines.proofs.Fields.{device_of-parts}
use Rattle.pv_lines.proofs.argument_field.device_of.Goals as goal

pub returns-in-Some-clause-read : goal.returns-in-Some-clause-read
returns-in-Some-clause-read c =
    sym (device_of-parts c.args.text.now (map (λ part. part.now) c.as_slice.result.now) (Some c.in-Some.device) (ap (map (λ part. part.now)) c.as_slice.ensures.value ∙ c.in_ok-parts.ensures) c.in-Some.ensures.value)

pub returns-clause-read : goal.returns-clause-read
returns-clause-read c =
    sym (device_of-parts c.args.text.now (map (λ part. part.now) c.as_slice.result.now) None (ap (map (λ part. part.now)) c.as_slice.ensures.value ∙ c.in_ok-parts.ensures) c.in-None.ensures.value)
