use Rattle.std.proofs.Common.{◌≡◌, ◌∙◌, ap, subst, arith}
use Rattle.std.specs.FinMap as fin
use Rattle.std.specs.Ordering.{nat_cmp}
use Rattle.pv_text.specs.Facts.{Values}
use Rattle.pv_folder.proofs.FactLaws.{AreCopied, all_copied, more_copied, new_letter}
use Rattle.pv_folder.proofs.copied_facts.copy_of.Goals as goal

pub loop-letter-init : goal.loop-letter-init
loop-letter-init c l = ap (λ (m : Values). fin.get m l) c.new-copy.ensures ∙ fin.get-empty nat_cmp l

pub copy_fact-requires : goal.copy_fact-requires
copy_fact-requires c = new_letter c.args.facts.now c.loop-letter.copy c.loop-letter.letter-index c.loop-letter.invariant c.loop-letter-test.true

pub loop-letter-preserved : goal.loop-letter-preserved
loop-letter-preserved c =
    more_copied c.args.facts.now c.loop-letter.copy c.copy_fact.new.copy c.loop-letter.letter-index c.loop-letter.invariant c.loop-letter-test.true c.in_ok-copy_fact.ensures

pub returns : goal.returns
returns c =
    let over : c.loop-letter.letter-index ≡ 12 = omega arith in
    all_copied c.args.facts.now c.loop-letter.copy c.get-alone.ensures.facts
    (subst (λ i. AreCopied c.args.facts.now c.loop-letter.copy i) over c.loop-letter.invariant)
