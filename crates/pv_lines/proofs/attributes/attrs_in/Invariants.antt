use Rattle.std.proofs.Common.{◌≡◌, true, drop, []}
use Rattle.pv_steps.specs.Attributes.{are_attrs}
use Rattle.pv_lines.specs.ArgumentField.{attrs_in}
use Rattle.pv_lines.proofs.attributes.attrs_in.Given as goal

abbrev pub invariant-loop-word : goal.invariant-loop-word
invariant-loop-word l = (attrs_in (drop l.word-index l.words) l.attrs ≡ attrs_in l.words []) × (are_attrs l.attrs ≡ true)
