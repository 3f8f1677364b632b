use Rattle.std.proofs.Common.{◌≡◌, take}
use Rattle.pv_steps.specs.Attributes.{put_attrs}
use Rattle.pv_steps.proofs.attr.AttrList.with_all.Given as goal

-- the attributes gone through are put
abbrev pub invariant-loop-attr : goal.invariant-loop-attr
invariant-loop-attr l = l.all ≡ put_attrs (take l.attr-index l.attr-items) l.fn.self
