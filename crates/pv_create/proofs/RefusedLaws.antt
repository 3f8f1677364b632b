-- Laws of a line at a path before it does anything: it is refused, and says so; or memory ran out.
use Rattle.std.specs.Prelude.{◌≡◌, ℕ, List, [], ◌∷◌, ◌++◌, Some, is_some, Result, Ok, IsErrAnd}
use Rattle.std.proofs.Common.{refl, sym, ap, ◌∙◌}
use Rattle.pv_steps.specs.Courses.{carried_of, CarriesOut}
use Rattle.pv_steps.specs.declared.carried.Carried.{Carried}
use Rattle.pv_steps.specs.declared.carried.Carried.TheVariants.{NotCarriedOut}
use Rattle.pv_steps.proofs.CarryingLaws.{single_none, single_messages}
use Rattle.pv_lines.specs.declared.line.Line.{Line}
use Rattle.pv_path.specs.Paths.{Path}
use Rattle.pv_steps.specs.declared.tree.Tree.{Ghosts}
use Rattle.pv_steps.specs.declared.tree.TreeFault.{TreeFault}
use Rattle.pv_steps.specs.declared.tree.TreeFault.TheVariants.{Memory}
use Rattle.pv_steps.specs.Trees.{Files, places}
use Rattle.pv_steps.proofs.ActingLaws.{Moves, no_memory}
use Rattle.pv_text.specs.GivenMessages.{message_text_at}
use Rattle.pv_table.specs.Effects.{turn_after}
use Rattle.pv_table.specs.Saying.{refused_text, turn_messages}
use Rattle.pv_table.specs.Turns.{Refused, refused_at}
use Rattle.pv_create.specs.OnTheWay.{plain_course, turn_course}
use Rattle.pv_create.proofs.ToldLaws.{none_asked, told_first}
use Rattle.pv_create.proofs.TurnLaws.{turn_start}

module _ (now : ℕ) (line : Line) (path : Path) (t : Files) (place : Refused) (refused : refused_at line path (places t) ≡ Some place) where
  refused_after : t ≡ turn_after now line path t
  refused_after = rw refused refl

  refused_says : turn_messages now line path t ≡ message_text_at line.place (refused_text place) ∷ []
  refused_says = rw refused refl

module _ {S : Type 0} (tree : Ghosts S) (moves : Moves tree) (now : ℕ) (line : Line) (path : Path) (a : S) (old new : List (List ℕ)) where
  pub turn_none : new ≡ old → (r : Result Carried TreeFault) → IsErrAnd r (λ e. e ≡ Memory) → CarriesOut tree (turn_course now line) path now a a old new r
  turn_none messages_kept r memory =
      told_first tree now line path a a old new r
      (single_none tree (plain_course now line) path now a old (λ moment refused x t done new_messages work. work) moves (turn_start now line path (tree.state a)) new messages_kept r memory)
      (λ none one. absurd (none_asked r (tree.steps a) (no_memory r memory) one))

  pub turn_refused : (place : Refused) → refused_at line path (places (tree.state a)) ≡ Some place → new ≡ old ++ message_text_at line.place (refused_text place) ∷ []
      → CarriesOut tree (turn_course now line) path now a a old new (Ok NotCarriedOut)
  turn_refused place refused new_messages =
      let told = new_messages ∙ ap (λ (xs : List (List ℕ)). old ++ xs) (sym (refused_says now line path (tree.state a) place refused)) in
      told_first tree now line path a a old new (Ok NotCarriedOut)
      (single_messages tree (plain_course now line) path now a old (λ moment refused x t done new_messages work. work) moves (turn_start now line path (tree.state a)) new NotCarriedOut
      (refused_after now line path (tree.state a) place refused) told (ap carried_of (sym (ap is_some refused))))
      (λ none one. told)
