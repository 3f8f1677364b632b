use Rattle.pv_sysusers.specs.Members.{place_found}
use Rattle.pv_sysusers.proofs.MemberLaws.{noted}
use Rattle.pv_sysusers.proofs.members.MemberLines.note.Goals as goal

pub returns-in_ok-insert-in-None-clause-places : goal.returns-in_ok-insert-in-None-clause-places
returns-in_ok-insert-in-None-clause-places c =
    noted (place_found c.args.self.now) (place_found (record { lines = c.args.self.now.lines; places = c.insert.new.self })) c.args.name.now c.args.at c.in-None.ensures
    (λ other. c.in_ok-insert-in-None.ensures.updates.0 (record { ref_ptr = (0, 0); now = other }))
