use Rattle.std.proofs.Common.{◌≡◌, refl, sym, ap, ◌∙◌, [], ◌∷◌, length, arith}
use Rattle.pv_path.specs.Paths.{Path, staging_of}
use Rattle.pv_path.proofs.PathLaws.{length-staging_of}
use Rattle.pv_walk.specs.PostOrder.{DoesInPostOrder}
use Rattle.pv_walk.proofs.sweeping.sweep_place.Goals as goal

no_root : (place : Path) → (place ≡ [] → ⊥) → staging_of place ≡ [] → ⊥
no_root [] h e = h e
no_root (n ∷ place) h e = let none = ap length e in omega (arith, length-staging_of (n ∷ place))

pub take_away-requires : goal.take_away-requires
take_away-requires g c e = no_root c.args.place.now c.requires.not_root (sym c.in_ok-stage.ensures ∙ e)

pub staging-requires-clause-short : goal.staging-requires-clause-short
staging-requires-clause-short g c = c.requires.short

pub staging-requires-clause-not_root : goal.staging-requires-clause-not_root
staging-requires-clause-not_root g c = c.requires.not_root

pub returns-clause-taken : goal.returns-clause-taken
returns-clause-taken g c = rw c.in_ok-stage.ensures at c.take_away.ensures.taken

pub returns-clause-acted : goal.returns-clause-acted
returns-clause-acted g c = rw c.in_ok-stage.ensures at c.take_away.ensures.acted

pub returns-clause-order : goal.returns-clause-order
returns-clause-order g c = rw c.in_ok-stage.ensures at c.take_away.ensures.order

pub returns-clause-whole : goal.returns-clause-whole
returns-clause-whole g c = rw c.in_ok-stage.ensures at c.take_away.ensures.whole

pub returns-in_err-stage-clause-order : goal.returns-in_err-stage-clause-order
returns-in_err-stage-clause-order g c = DoesInPostOrder.nothing refl
