use Rattle.std.specs.Cmp.Lexicographic.{pointwise_decides}
use Rattle.pv_steps.proofs.AttrPutting.{same_attr}
use Rattle.pv_steps.proofs.attr.AttrList.is_same.Goals as goal

pub returns : goal.returns
returns c = rw (c.eq.ensures, c.as_slice.ensures, c.as_slice-2.ensures, ← c.self.view_is, ← c.other.view_is) (pointwise_decides same_attr c.self.inside.items c.other.inside.items)
