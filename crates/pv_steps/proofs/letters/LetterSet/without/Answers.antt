use Rattle.pv_steps.proofs.letters.LetterSet.without.Goals as goal

pub returns : goal.returns
returns c = rw (← c.self.view_is, ← c.other.view_is)
