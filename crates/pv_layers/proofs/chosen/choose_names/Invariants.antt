use Rattle.std.proofs.Common.{drop}
use Rattle.pv_layers.specs.Choices.{choice_of_names}
use Rattle.pv_layers.proofs.ChoiceLaws.{Partly}
use Rattle.pv_layers.proofs.chosen.choose_names.Given as goal

abbrev pub invariant-loop-name : goal.invariant-loop-name
invariant-loop-name g l =
    Partly (choice_of_names (g.T.Tree.state l.tree) l.folders l.names) (choice_of_names (g.T.Tree.state l.tree) l.folders (drop l.name-index l.names))
    l.fn.messages l.chosen.files l.chosen.missing l.messages
