use Rattle.std.proofs.Common.{sym, subst, ◌∙◌}
use Rattle.pv_lines.specs.ArgumentField.{Lookup}
use Rattle.pv_lines.specs.Faults.{Gives}
use Rattle.pv_lines.proofs.Texts.{line_of-texts}
use Rattle.pv_lines.proofs.read.read_line.Goals as goal

pub returns-in_ok-texts_of-in-Ok-clause-read : goal.returns-in_ok-texts_of-in-Ok-clause-read
returns-in_ok-texts_of-in-Ok-clause-read g c =
    let lookup : Lookup = record { uid_named = g.N.Names.uid_named c.args.names.now; gid_named = g.N.Names.gid_named c.args.names.now } in
    let is = line_of-texts c.args.facts.now lookup c.args.place c.args.line.now c.in-Ok.fields c.deref.result.now c.in-Ok.ensures.ok.0 c.in-Ok.ensures.ok.1 (c.deref.ensures.value ∙ c.in_ok-texts_of-in-Ok.ensures) in
    subst (Gives c.line_with.result) (sym is) c.line_with.ensures.read
