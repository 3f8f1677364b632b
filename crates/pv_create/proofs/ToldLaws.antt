-- Laws of what a line at a path says: one that makes nothing and copies nothing says it before it asks for a step.
use Rattle.std.specs.Prelude.{◌≡◌, ℕ, ◌+◌, ◌-◌, ◌≤◌, false, List, ◌++◌, length, Result}
use Rattle.std.proofs.Common.{refl, sym, ap, ◌∙◌, arith, length-append}
use Rattle.std.proofs.lemmas.List.{append_cancel_left}
use Rattle.pv_steps.specs.Courses.{CarriesOut}
use Rattle.pv_steps.specs.declared.carried.Carried.{Carried}
use Rattle.pv_lines.specs.declared.line.Line.{Line}
use Rattle.pv_path.specs.Paths.{Path}
use Rattle.pv_steps.specs.declared.tree.Tree.{Ghosts}
use Rattle.pv_steps.specs.declared.tree.TreeFault.{TreeFault}
use Rattle.pv_steps.specs.Acting.{asked, refused}
use Rattle.pv_steps.specs.Trees.{Files}
use Rattle.pv_steps.specs.declared.step.Step.{Step}
use Rattle.pv_table.specs.declared.action.Action.{Action}
use Rattle.pv_table.specs.declared.action.Action.TheVariants.{Create, Copy, Adjust, Idle}
use Rattle.pv_table.specs.ActionTable.{action_of}
use Rattle.pv_table.specs.Created.{by_turn}
use Rattle.pv_create.specs.Actions.{makes}
use Rattle.pv_create.specs.OnTheWay.{plain_course, turn_course}
use Rattle.pv_create.specs.Turning.{ready_work}

module _ {S : Type 0} (tree : Ghosts S) (now : ℕ) (line : Line) (path : Path) (a b : S) (old new : List (List ℕ)) (r : Result Carried TreeFault) where
  -- what is carried out and said first
  pub told_first : CarriesOut tree (plain_course now line) path now a b old new r
      → (makes (action_of line) ≡ false → 1 ≤ asked r (tree.steps a) (tree.steps b) → new ≡ old ++ (by_turn now line).says path (tree.state a))
      → CarriesOut tree (turn_course now line) path now a b old new r
  told_first done first = record {
    ok = done.ok;
    new_messages = done.new_messages;
    carried = done.carried;
    part = done.part;
    acted = done.acted;
    went = record {
      steps = done.went.steps;
      texts = done.went.texts;
      recorded = done.went.recorded;
      reached = done.went.reached;
      new_messages = done.went.new_messages;
      is = record {
        at_work = done.went.is;
        told = λ none one.
            let count = ap length done.went.recorded in
            let both = length-append (tree.steps a) done.went.steps in
            append_cancel_left old done.went.texts ((by_turn now line).says path (tree.state a)) (sym done.went.new_messages ∙ first none (omega (arith, one, count, both)));
      };
    };
  }

-- a line that makes nothing and copies nothing makes no path ready
pub no_ready_work : (action : Action) (path : Path) (t : Files) → makes action ≡ false → ready_work action path t ≡ 0
no_ready_work (Create making) path t none = cc
no_ready_work (Copy copying) path t none = cc
no_ready_work (Adjust adjustment) path t none = refl
no_ready_work Idle path t none = refl

-- if no step is done or refused, nothing was asked for
pub none_asked : {A : Type 0} (r : Result A TreeFault) (steps : List Step) → refused r ≡ 0 → 1 ≤ asked r steps steps → ⊥
none_asked r steps none one = omega (arith, none, one)
