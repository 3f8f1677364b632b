use Rattle.std.proofs.Common.{List, sym, ap, ◌∙◌}
use Rattle.pv_sysusers.specs.Lines.{Line, first_user}
use Rattle.pv_sysusers.specs.Shown.{shown, shown_line}
use Rattle.pv_sysusers.proofs.LineLaws.{index_same, shown_more}
use Rattle.pv_sysusers.proofs.lines.Lines.add_other.Goals as goal

pub returns-clause-index : goal.returns-clause-index
returns-clause-index c =
    λ name. c.requires.index name ∙ index_same (shown c.args.self.now.kept.items) (shown_line c.args.line) name c.requires.other
    ∙ ap (λ (ls : List Line). first_user ls name) (sym (ap shown c.in_ok-push.ensures.items ∙ shown_more c.args.self.now.kept.items c.args.line))
