use Rattle.std.proofs.Common.{◌∙◌}
use Rattle.std.specs.Str.{bytes_eq}
use Rattle.pv_accounts.specs.Among.{is_among}
use Rattle.pv_accounts.proofs.AmongLaws.{cond_or}
use Rattle.pv_accounts.proofs.entry_names.EntryNames.add.Goals as goal

pub returns : goal.returns
returns c = λ other.
    c.in_ok-insert.ensures.updates.0 (record { ref_ptr = (0, 0); now = other })
    ∙ cond_or (bytes_eq c.args.name.now other) (is_among c.args.self.now other)
