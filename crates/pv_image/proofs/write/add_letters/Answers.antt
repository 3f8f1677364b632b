use Rattle.pv_image.proofs.write.add_letters.Goals as goal

pub returns-then-is_empty : goal.returns-then-is_empty
returns-then-is_empty c = rw (c.is_empty.ensures.0 c.if-is_empty.true) c.add_dash.ensures
