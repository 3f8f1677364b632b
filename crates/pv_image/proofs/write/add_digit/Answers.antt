use Rattle.std.proofs.Common.{◌+◌, ◌∷◌, [], append_assoc}
use Rattle.std.proofs.lemmas.Fmt.{decimal_digit}
use Rattle.pv_image.proofs.write.add_digit.Goals as goal

pub returns : goal.returns
returns c =
    rw (decimal_digit c.args.number c.requires, c.in_ok-push-2.ensures.items, c.in_ok-push.ensures.items) (append_assoc c.args.output.now.items (c.args.separator ∷ []) ((48 + c.args.number) ∷ []))
