use Rattle.std.proofs.Common.{Some, ap, subst, ◌∙◌}
use Rattle.std.specs.FinMap.{get}
use Rattle.pv_text.specs.Facts.{Values, HasFactsAlone}
use Rattle.pv_text.proofs.FactLaws.{lookup-get, facts_alone}
use Rattle.pv_text.proofs.facts.Facts.get.Goals as goal

pub returns-in-Some-clause-value : goal.returns-in-Some-clause-value
returns-in-Some-clause-value c =
    ap Some c.as_slice.ensures ∙ c.in-Some.ensures.value ∙ lookup-get c.args.letter _ ∙ ap (λ (m : Values). get m c.args.letter) c.self.view_is

pub returns-in-None-clause-value : goal.returns-in-None-clause-value
returns-in-None-clause-value c =
    c.in-None.ensures.value ∙ lookup-get c.args.letter _ ∙ ap (λ (m : Values). get m c.args.letter) c.self.view_is

pub returns-in-Some-clause-facts : goal.returns-in-Some-clause-facts
returns-in-Some-clause-facts c = let P : Values → Type 0 = HasFactsAlone in subst P c.self.view_is (facts_alone _ c.self.invariant)

pub returns-in-None-clause-facts : goal.returns-in-None-clause-facts
returns-in-None-clause-facts c = let P : Values → Type 0 = HasFactsAlone in subst P c.self.view_is (facts_alone _ c.self.invariant)
