use Rattle.std.proofs.Common.{◌≡◌, true, sym, ap, ◌∙◌}
use Rattle.pv_path.specs.Names.{is_name}
use Rattle.pv_path.specs.Printing.{printed}
use Rattle.pv_image.proofs.Printing.{plain_itself}
use Rattle.pv_image.proofs.name.read_name.Goals as goal

pub returns-then-is_name : goal.returns-then-is_name
returns-then-is_name c =
    let same : c.in_ok-of.field-0 ≡ c.args.text.now = c.in_ok-of.ensures in
    let itself = plain_itself c.args.text.now (sym c.is_plain_text.ensures ∙ c.if-is_plain_text.true) in
    let named : is_name c.args.text.now ≡ true = sym c.is_name.ensures ∙ c.if-is_name.true in
    (ap is_name same ∙ named, sym (ap printed same ∙ itself))
