use Rattle.std.proofs.Common.{◌≡◌, ◌∷◌, ◌++◌, take}
use Rattle.std.specs.List.{flat_map}
use Rattle.pv_image.specs.Spelling.{attr_text}
use Rattle.pv_image.proofs.write.add_more_attrs.Given as goal

abbrev pub invariant-loop-attr : goal.invariant-loop-attr
invariant-loop-attr l = l.output.items ≡ l.initial.output.items ++ flat_map (λ x. 44 ∷ attr_text x) (take l.attr-index l.attrs)
