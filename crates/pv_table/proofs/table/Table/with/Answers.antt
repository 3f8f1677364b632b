use Rattle.std.specs.Vec.{vec_len}
use Rattle.std.proofs.Common.{rules, length, ◌≡◌, ◌∙◌, List, [], ◌∷◌, None, Some, cond, find, subst, sym, ap}
use Rattle.indexmap.specs.IndexMap.{get}
use Rattle.pv_lines.specs.declared.line.Line.{Line}
use Rattle.pv_lines.specs.Lines.{IsLine}
use Rattle.pv_path.proofs.Tests.{all_append}
use Rattle.pv_path.specs.Paths.{Path, same_path}
use Rattle.pv_table.specs.Active.{are_distinct, make_same}
use Rattle.pv_table.specs.Building.{first_index, makes}
use Rattle.pv_table.proofs.KeepLaws.{distinct-push, index-push}
use Rattle.pv_table.proofs.table.Table.with.Goals as goal

pub invariant_of-result : goal.invariant_of-result
invariant_of-result c =
    let kept = c.self.inside.lines.items in
    let none : find (λ first. make_same first c.args.line) kept ≡ None = subst (λ (lines : List Line). find (λ first. make_same first c.args.line) lines ≡ None) (sym c.self.view_is) c.requires.first in
    let items = c.in_ok-push.ensures.items in
    let count : vec_len c.self.inside.lines ≡ length kept = search rules in
    let step = λ (q : Path). c.in_ok-note_index.ensures q ∙ ap (λ n. cond (makes q c.args.line) (Some n) (get same_path c.self.inside.indices q)) (c.len.ensures ∙ count) in (
      ap are_distinct items ∙ distinct-push kept c.args.line c.self.invariant.0 none,
      λ q.
          index-push kept (get same_path c.self.inside.indices) (get same_path c.note_index.new.indices) c.args.line c.self.invariant.1 none step q
          ∙ ap (first_index (makes q)) (sym items),
      rw items (all_append IsLine kept (c.args.line ∷ []) c.self.invariant.2 (c.requires.line, tt)),
    )
