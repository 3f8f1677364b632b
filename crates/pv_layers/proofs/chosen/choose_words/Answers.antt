use Rattle.std.proofs.Common.{◌≡◌, ◌∙◌, true, false, [], take, rules, subst}
use Rattle.std.specs.List.{list_any}
use Rattle.pv_path.specs.Names.{same_bytes}
use Rattle.pv_layers.specs.Choices.{Choice, choice_of_words}
use Rattle.pv_layers.proofs.ChoiceLaws.{Partly, partly_start, partly_more, partly_messages, word_passed, word_taken}
use Rattle.pv_layers.proofs.chosen.choose_words.Goals as goal

pub loop-i-init : goal.loop-i-init
loop-i-init g c = rw c.new.ensures (partly_start _ _)

pub loop-i-preserved-then-contains : goal.loop-i-preserved-then-contains
loop-i-preserved-then-contains g c =
    let t = g.T.Tree.state c.args.tree.now in
    let folders = c.args.folders.now in
    let words = c.args.words.now in
    let repeated : list_any (λ w. same_bytes w c.index-words-i.result) (take c.loop-i.i words) ≡ true = search rules in
    subst (λ (rest : Choice). Partly (choice_of_words t folders [] words) rest c.args.messages.now c.loop-i.chosen.files c.loop-i.chosen.missing c.loop-i.messages)
    (word_passed t folders words c.loop-i.i c.index-words-i.result c.loop-i-test.true c.index-words-i.is repeated) c.loop-i.invariant

pub loop-i-preserved : goal.loop-i-preserved
loop-i-preserved g c =
    let words = c.args.words.now in
    let new : list_any (λ w. same_bytes w c.index-words-i.result) (take c.loop-i.i words) ≡ false = search rules in
    partly_more c.loop-i.invariant _ _ _ _ _ (word_taken (g.T.Tree.state c.args.tree.now) c.args.folders.now words c.loop-i.i c.index-words-i.result c.loop-i-test.true c.index-words-i.is new)
    c.in_ok-take_next.ensures.made.0 c.in_ok-take_next.ensures.made.1 c.in_ok-take_next.ensures.made.2

pub returns-in_err-take_next-clause-part : goal.returns-in_err-take_next-clause-part
returns-in_err-take_next-clause-part g c = let new_messages = partly_messages c.loop-i.invariant in (new_messages.0, c.in_err-take_next.ensures.err ∙ new_messages.1)

pub returns-clause-part : goal.returns-clause-part
returns-clause-part g c = partly_messages c.loop-i.invariant
