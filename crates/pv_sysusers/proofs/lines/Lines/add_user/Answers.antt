use Rattle.std.proofs.Common.{List, Option, Some, cond, option_map, sym, ap, ◌∙◌}
use Rattle.std.specs.Str.{bytes_eq}
use Rattle.pv_requests.specs.declared.request.Request.{Request}
use Rattle.pv_sysusers.specs.Lines.{Line, first_user}
use Rattle.pv_sysusers.specs.Shown.{shown, shown_line}
use Rattle.pv_sysusers.proofs.FixedLaws.{put_seen}
use Rattle.pv_sysusers.proofs.LineLaws.{index_more, shown_more}
use Rattle.pv_sysusers.proofs.lines.Lines.add_user.Goals as goal

pub returns-clause-index : goal.returns-clause-index
returns-clause-index c =
    λ name. ap (option_map (λ r. r.now)) (c.in_ok-insert.ensures.updates.0 (record { ref_ptr = (0, 0); now = name })) ∙ put_seen _ _ _ _
    ∙ ap (λ (o : Option Request). cond (bytes_eq c.args.name.now name) (Some c.args.line.0.now) o) (c.requires.index name)
    ∙ index_more (shown c.args.self.now.kept.items) (shown_line c.args.line) c.args.name.now name c.requires.user c.requires.new
    ∙ ap (λ (ls : List Line). first_user ls name) (sym (ap shown c.in_ok-push.ensures.items ∙ shown_more c.args.self.now.kept.items c.args.line))
