use Rattle.pv_image.proofs.extras.read_extras.Goals as goal

pub returns-in-One : goal.returns-in-One
returns-in-One c = rw c.in-One.is (c.no_extras.ensures c.args.kind)
