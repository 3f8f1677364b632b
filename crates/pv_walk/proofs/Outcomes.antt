-- What follows from the answer of one step, and of a call that goes by steps.
use Rattle.std.specs.Prelude.{◌≡◌, ℕ, ◌<◌, ◌^◌, true, Option, Some, None, is_some, option_map, Result}
use Rattle.std.proofs.Common.{refl, sym, ap, subst, ◌∙◌}
use Rattle.pv_path.specs.Paths.{Path}
use Rattle.pv_steps.specs.declared.step.Step.{Step}
use Rattle.pv_steps.specs.declared.object.Object.{Object}
use Rattle.pv_steps.specs.declared.tree.Tree.{Ghosts}
use Rattle.pv_steps.specs.declared.tree.TreeFault.{TreeFault}
use Rattle.pv_steps.specs.Objects.{object_state}
use Rattle.pv_steps.specs.Trees.{Files, Places, places, IsPresent, IsTree}
use Rattle.pv_steps.specs.Steps.{gone}
use Rattle.pv_steps.specs.Acting.{Acted}
use Rattle.pv_steps.proofs.RunLaws.{along_trees, along_end}
use Rattle.pv_steps.specs.Same.{Differ}
use Rattle.pv_walk.proofs.RemovalLaws.{gone-here}
use Rattle.pv_path.proofs.Tests.{true_not_false}

-- a call that goes by steps from a tree ends in a tree
pub acted-tree : {S A : Type 0} (tree : Ghosts S) (P : Files → Type 0) (Q : Step → Type 0) {most now : ℕ} {a b : S} {r : Result A TreeFault}
    → now < 2 ^ 64 → IsTree (tree.state a) → Acted tree P Q most now a b r → IsTree (tree.state b)
acted-tree tree P Q {now = now} {a = a} fits is acted =
    subst IsTree (sym acted.ran.reached) (along_end IsTree (tree.state a) acted.ran.steps now (along_trees P (tree.state a) acted.ran.steps now fits is acted.ran.along))

-- where an object is gone, more than timestamps has changed
pub gone_differs : (t v : Files) (path : Path) (now : ℕ) → IsPresent t path → places v ≡ gone now path (places t) → Differ t v
gone_differs t v path now present is = (path, λ e. true_not_false (is_some (option_map object_state (places v path))) (sym (ap is_some e) ∙ still (places t path) present) (ap (λ o. is_some (option_map object_state o)) (ap (λ (x : Places). x path) is ∙ gone-here now path (places t))))
  where
    still : (o : Option Object) → is_some o ≡ true → is_some (option_map object_state o) ≡ true
    still None h = h
    still (Some x) h = refl
