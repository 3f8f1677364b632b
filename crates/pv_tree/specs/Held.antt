-- The tree in memory as its callers see it.
use Rattle.std.specs.Prelude.{◌≡◌, List, []}
use Rattle.std.specs.Coded.{Coded, coded×, coded_list, coded_ℕ}
use Rattle.std.proofs.Common.{ap}
use base.Stored.{coded_via}
use mathlib.Core.HLevel.{is_prop→PathP}
use Rattle.std.specs.FinMap as fin
use Rattle.pv_steps.specs.contracts.object.Object as object
use Rattle.pv_steps.specs.contracts.step.Step as step
use Rattle.pv_steps.specs.declared.node.Node.{Node}
use Rattle.pv_steps.specs.declared.step.Step.{Step}
use Rattle.pv_steps.specs.Trees.{Files, IsTree}
use Rattle.pv_tree.specs.Sole.{tree_prop}

-- The objects, the steps done since the tree was made, and the fact that it is a tree.
pub record Held : Type 0 where
  pub files : Files
  pub steps : List Step
  pub tree : IsTree files

-- Two such trees are equal if they have the same objects and the same steps.
pub same_held : (a b : Held) → a.files ≡ b.files → a.steps ≡ b.steps → a ≡ b
same_held a b files steps = λ j. record {
  files = files j;
  steps = steps j;
  tree = is_prop→PathP (λ i. IsTree (files i)) (λ i. tree_prop (files i)) a.tree b.tree j;
}

-- How the prover stores a tree and its steps.
abbrev pub held_code : Coded Held
held_code =
    coded_via
    (coded× (fin.code (coded_list (coded_list coded_ℕ)) (object.the_row).coded) (coded_list (step.the_row).coded))
    (λ h. (h.files, h.steps))
    (λ a b e. same_held a b (ap (λ p. p.0) e) (ap (λ p. p.1) e))

-- The tree that has only a root.
abbrev pub root_alone : Node → Files
root_alone node = fin.insert fin.empty [] (record { node = node; payload = [] })
