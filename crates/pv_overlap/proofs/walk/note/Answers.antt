use Rattle.std.proofs.Common.{Option, length, subst}
use Rattle.pv_path.specs.Paths.{Path}
use Rattle.pv_overlap.proofs.Walking.{grown_by}
use Rattle.pv_overlap.proofs.walk.note.Goals as goal

pub returns-in_ok-insert-clause-grown : goal.returns-in_ok-insert-clause-grown
returns-in_ok-insert-clause-grown g c =
    let answers = g.A.Asker.answers c.args.asker.now in
    grown_by answers (length (g.A.Asker.heads c.args.asker.now)) c.args.found.now c.insert.new.self c.args.i c.args.j c.in-Some.path
    c.in_ok-insert.ensures.updates.0 c.requires.order c.requires.inside (subst (λ (o : Option Path). answers c.args.i c.args.j o) c.in-Some.is c.in_ok-path.ensures.answer) c.requires.sound
