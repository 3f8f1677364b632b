use Rattle.std.proofs.Common.{◌≡◌, [], ◌∷◌, map, take}
use Rattle.pv_glob.specs.Braces.{joined}
use Rattle.pv_glob.proofs.pattern.all_followed.Given as goal

abbrev pub invariant-loop-plain : goal.invariant-loop-plain
invariant-loop-plain l = l.longer ≡ joined (take l.plain-index l.plains) (map (λ word. word ∷ []) l.words)
