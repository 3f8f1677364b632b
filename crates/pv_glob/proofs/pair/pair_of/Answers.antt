use Rattle.std.proofs.Common.{List, ap, ◌∙◌}
use Rattle.pv_glob.specs.declared.element.Element.{Element}
use Rattle.pv_glob.specs.Machines.{reads}
use Rattle.pv_glob.specs.Pairs.{pair_machine}
use Rattle.pv_glob.proofs.PairLaws.{pair_words}
use Rattle.pv_glob.proofs.pair.pair_of.Goals as goal

pub returns-in_ok-second-in-Some-clause-words : goal.returns-in_ok-second-in-Some-clause-words
returns-in_ok-second-in-Some-clause-words c = λ word.
    ap (λ (x : List Element). reads (pair_machine x c.in_ok-second-in-Some.second) 0 word) c.in_ok-first-in-Some.ensures
    ∙ ap (λ (x : List Element). reads (pair_machine c.args.a.now x) 0 word) c.in_ok-second-in-Some.ensures
    ∙ pair_words c.args.a.now c.args.b.now word
