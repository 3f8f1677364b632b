use Rattle.std.proofs.Common.{◌≡◌, ℕ, ◌+◌, ◌*◌, ◌++◌, length, take}
use Rattle.std.specs.List.{flat_map}
use Rattle.std.specs.Option.{option_to_list}
use Rattle.pv_glob.specs.Machines.{AllInside, targets}
use Rattle.pv_glob.specs.Pairs.{target}
use Rattle.pv_glob.proofs.pair.add_moves.Given as goal

abbrev pub invariant-loop-right : goal.invariant-loop-right
invariant-loop-right l = record {
  stated : (byte : ℕ) → targets l.moves byte ≡ targets l.initial.moves byte ++ flat_map (λ j. option_to_list (target l.components.left.now l.components.right.now l.begun l.left j byte)) (take l.right-index l.rights);
  inside : AllInside (7 * ((length l.components.left.now + 1) * (length l.components.right.now + 1))) l.initial.moves → AllInside (7 * ((length l.components.left.now + 1) * (length l.components.right.now + 1))) l.moves;
}
