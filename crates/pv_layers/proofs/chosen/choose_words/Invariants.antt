use Rattle.std.proofs.Common.{[], take, drop}
use Rattle.pv_layers.specs.Choices.{choice_of_words}
use Rattle.pv_layers.proofs.ChoiceLaws.{Partly}
use Rattle.pv_layers.proofs.chosen.choose_words.Given as goal

abbrev pub invariant-loop-i : goal.invariant-loop-i
invariant-loop-i g l =
    Partly (choice_of_words (g.T.Tree.state l.tree) l.folders [] l.words) (choice_of_words (g.T.Tree.state l.tree) l.folders (take l.i l.words) (drop l.i l.words))
    l.fn.messages l.chosen.files l.chosen.missing l.messages
