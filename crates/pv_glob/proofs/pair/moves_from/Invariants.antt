use Rattle.std.proofs.Common.{◌≡◌, ℕ, ◌+◌, ◌*◌, length, take}
use Rattle.std.specs.List.{flat_map}
use Rattle.std.specs.Option.{option_to_list}
use Rattle.pv_glob.specs.Machines.{AllInside, targets}
use Rattle.pv_glob.specs.Pairs.{target, takers}
use Rattle.pv_glob.proofs.pair.moves_from.Given as goal

abbrev pub invariant-loop-left : goal.invariant-loop-left
invariant-loop-left l = record {
  stated : (byte : ℕ) → targets l.moves byte ≡ flat_map (λ i. flat_map (λ j. option_to_list (target l.components.left.now l.components.right.now l.spot.begun i j byte)) (takers l.components.right.now l.spot.right)) (take l.left-index l.left-items);
  inside : AllInside (7 * ((length l.components.left.now + 1) * (length l.components.right.now + 1))) l.moves;
}
