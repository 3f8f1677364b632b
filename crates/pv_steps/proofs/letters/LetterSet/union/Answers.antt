use Rattle.std.proofs.lemmas.Nat.{or_lt}
use Rattle.std.proofs.Common.{sym, subst, ◌<◌, ℕ}
use Rattle.pv_steps.proofs.letters.LetterSet.union.Goals as goal

pub invariant_of-result : goal.invariant_of-result
invariant_of-result c =
    subst (λ (n : ℕ). n < 32768) (sym (c.union.ensures tt)) (or_lt 15 c.self.inside.flags.0 c.other.inside.flags.0 c.self.invariant c.other.invariant)
