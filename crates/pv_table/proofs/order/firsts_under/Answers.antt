use Rattle.std.proofs.Common.{◌≡◌, false, refl, take}
use Rattle.indexmap.specs.IndexMap.{get}
use Rattle.pv_path.specs.Paths.{same_path}
use Rattle.pv_table.specs.Reaching.{is_creating}
use Rattle.pv_table.proofs.FirstLaws.{first_known_literal, first_known_other, known-prefixes}
use Rattle.pv_table.proofs.order.firsts_under.Goals as goal
use Rattle.pv_table.proofs.order.firsts_under.Goals.{in-Literal+in_ok-note_prefixes, in_default}

pub note_prefixes-requires : goal.note_prefixes-requires
note_prefixes-requires c = known-prefixes c.args.table.now (take c.loop-place.place c.lines-lines.result.now) (get same_path c.loop-place.firsts) c.loop-place.invariant

pub loop-place-preserved : goal.loop-place-preserved
loop-place-preserved c = elim c.match-line.branch [
  | in-Literal+in_ok-note_prefixes w ↦
      rw w.firsts-is
      (first_known_literal c.args.table.now c.lines-lines.result.now c.loop-place.place c.index-lines-place.result w.in-Literal.path (get same_path c.loop-place.firsts) (get same_path w.note_prefixes.new.firsts)
      c.loop-place-test.true c.index-lines-place.is w.in-Literal.is c.loop-place.invariant w.in_ok-note_prefixes.ensures)
  | in_default w ↦
      let other : is_creating c.index-lines-place.result ≡ false = rw w.in_default.is refl in
      rw w.firsts-is
      (first_known_other c.args.table.now c.lines-lines.result.now c.loop-place.place c.index-lines-place.result (get same_path c.loop-place.firsts) c.loop-place-test.true c.index-lines-place.is other c.loop-place.invariant)
]
