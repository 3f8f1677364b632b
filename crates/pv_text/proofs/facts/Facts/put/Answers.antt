use Rattle.std.proofs.Common.{refl}
use Rattle.pv_text.proofs.FactLaws.{insert-map, insert_facts}
use Rattle.pv_text.proofs.facts.Facts.put.Goals as goal

pub invariant_of-self-2 : goal.invariant_of-self-2
invariant_of-self-2 c = rw (c.in_ok-_replaced.ensures.entries, c.in_ok-value.ensures) (insert_facts c.args.letter c.args.value.now c.self.inside.values.entries c.requires.fact c.self.invariant)

pub returns-clause-ok : goal.returns-clause-ok
returns-clause-ok c = rw (c.in_ok-_replaced.ensures.entries, c.in_ok-value.ensures, insert-map, c.self.view_is) refl
