use Rattle.std.proofs.Common.{◌≡◌, [], ◌∷◌, ◌++◌, map, take}
use Rattle.pv_glob.proofs.pattern.add_followed.Given as goal

abbrev pub invariant-loop-word : goal.invariant-loop-word
invariant-loop-word l = l.plains ≡ l.fn.plains ++ map (λ word. l.plain ++ word) (map (λ word. word ∷ []) (take l.word-index l.words))
