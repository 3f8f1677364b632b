use Rattle.std.proofs.Common.{List, ℕ, Bor, map, ap, ◌∙◌}
use Rattle.std.specs.List.{list_all}
use Rattle.pv_accounts.specs.Edits.{lacks_end}
use Rattle.pv_accounts.proofs.Ends.{lines_lack}
use Rattle.pv_sysusers.proofs.members.MemberLines.of.Goals as goal

pub of_lines-requires-clause-whole : goal.of_lines-requires-clause-whole
of_lines-requires-clause-whole c =
    ap (λ (ls : List (Bor (List ℕ))). list_all lacks_end (map (λ line. line.now) ls)) c.deref.ensures.value ∙ ap (list_all lacks_end) c.in_ok-lines.ensures ∙ lines_lack c.args.file.now
