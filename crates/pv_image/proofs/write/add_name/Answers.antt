use Rattle.std.proofs.Common.{◌∷◌, [], sym, ◌∙◌, append_assoc}
use Rattle.pv_image.proofs.Printing.{plain_itself}
use Rattle.pv_image.proofs.write.add_name.Goals as goal

pub returns-then-is_plain_text : goal.returns-then-is_plain_text
returns-then-is_plain_text c =
    let itself = plain_itself c.args.name.now (sym c.is_plain_text.ensures ∙ c.if-is_plain_text.true) in
    rw (itself, c.in_ok-extend_from_slice.ensures.items, c.in_ok-push.ensures.items) (append_assoc c.args.output.now.items (47 ∷ []) c.args.name.now)
