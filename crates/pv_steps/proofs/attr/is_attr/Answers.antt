use Rattle.std.proofs.Common.{rules, sym}
use Rattle.pv_steps.proofs.AttrPutting.{bytes_small, is_attr-named}
use Rattle.pv_steps.proofs.attr.is_attr.Goals as goal

pub returns-then-is_attr_name : goal.returns-then-is_attr_name
returns-then-is_attr_name c =
    is_attr-named c.args.name.now c.args.value.now (sym c.if-is_attr_name.ensures) (bytes_small c.args.name.now (search (rules, c.type_inv.name))) (bytes_small c.args.value.now (search (rules, c.type_inv.value)))
