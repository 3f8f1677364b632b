use Rattle.std.proofs.Common.{◌∙◌, Some, cond, sym, ap}
use Rattle.indexmap.specs.IndexMap.{get}
use Rattle.pv_path.specs.Paths.{Path, same_path}
use Rattle.pv_table.proofs.KeepLaws.{makes-glob, makes-literal}
use Rattle.pv_table.proofs.table.note_index.Goals as goal

pub returns-in_ok-insert-in-Literal : goal.returns-in_ok-insert-in-Literal
returns-in_ok-insert-in-Literal c = λ q.
    c.in_ok-insert-in-Literal.ensures.updates.0 q
    ∙ ap (λ (own : Path). cond (same_path own q) (Some c.args.index) (get same_path c.args.indices.now q)) c.in_ok-copy-in-Literal.ensures
    ∙ ap (λ b. cond b (Some c.args.index) (get same_path c.args.indices.now q)) (sym (makes-literal c.args.line.now c.in-Literal.path q c.in-Literal.is))

pub returns-in-Glob : goal.returns-in-Glob
returns-in-Glob c = λ q. ap (λ b. cond b (Some c.args.index) (get same_path c.args.indices.now q)) (sym (makes-glob c.args.line.now c.in-Glob.field-0 q c.in-Glob.is))
