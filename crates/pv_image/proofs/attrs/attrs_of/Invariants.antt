use Rattle.std.proofs.Common.{◌≡◌, true, map, take}
use Rattle.pv_steps.specs.Attributes.{are_attrs}
use Rattle.pv_image.specs.Spelling.{attr_text}
use Rattle.pv_image.specs.Reading.{texts}
use Rattle.pv_image.proofs.attrs.attrs_of.Given as goal

abbrev pub invariant-loop-piece : goal.invariant-loop-piece
invariant-loop-piece l = record { so_far : take l.piece-index (texts l.pieces) ≡ map attr_text l.attrs; are : are_attrs l.attrs ≡ true }
