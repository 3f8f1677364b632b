use Rattle.std.proofs.Common.{◌++◌, ap, ◌∙◌}
use Rattle.pv_image.specs.Spelling.{attr_text}
use Rattle.pv_image.proofs.AttrTexts.{attrs_written}
use Rattle.pv_image.proofs.write.add_attrs.Goals as goal

pub returns-in_ok-add_more_attrs-in-len1-up : goal.returns-in_ok-add_more_attrs-in-len1-up
returns-in_ok-add_more_attrs-in-len1-up c =
    attrs_written c.args.output.now.items c.push.new.self.items c.add_attr.new.output.items c.add_more_attrs.new.output.items c.args.attrs.now c.attr-item.result c.in-len1-up.len_at_least c.in_ok-push-in-len1-up.ensures.items
    (c.in_ok-add_attr-in-len1-up.ensures ∙ ap (λ x. c.push.new.self.items ++ attr_text x) c.attr-item.is) c.in_ok-add_more_attrs-in-len1-up.ensures
