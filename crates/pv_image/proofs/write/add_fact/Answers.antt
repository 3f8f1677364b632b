use Rattle.std.proofs.Common.{arith}
use Rattle.pv_image.proofs.Contents.{bytes_all}
use Rattle.pv_image.proofs.write.add_fact.Goals as goal

pub returns-clause-bytes : goal.returns-clause-bytes
returns-clause-bytes c = bytes_all c.args.value.now (λ i. let f = c.type_inv.value i in omega arith)
