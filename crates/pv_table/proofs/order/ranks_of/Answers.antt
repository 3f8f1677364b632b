use Rattle.std.proofs.Common.{◌≡◌, ◌∙◌, false, refl, ap, unwrap_or, ℕ, Option}
use Rattle.pv_table.specs.Reaching.{is_creating}
use Rattle.std.specs.BTreeMap.{insert_entry}
use Rattle.pv_table.specs.Ranking.{rank_cmp}
use Rattle.pv_table.proofs.RankLaws.{ranked_literal, ranked_other}
use Rattle.pv_table.proofs.order.ranks_of.Goals as goal
use Rattle.pv_table.proofs.order.ranks_of.Goals.{in-Literal+in_ok-insert, in_default}

pub loop-place-preserved : goal.loop-place-preserved
loop-place-preserved c = elim c.match-line.branch [
  | in-Literal+in_ok-insert w ↦
      let first = w.first_of.ensures ∙ ap (λ (o : Option ℕ). unwrap_or o 0) (c.requires w.in-Literal.path) in
      let entries = w.in_ok-insert.ensures.entries ∙ ap (λ (n : ℕ). insert_entry rank_cmp c.loop-place.ranks.entries (w.first_of.result, n) c.loop-place.place) w.len.ensures.count in
      let here =
      ranked_literal c.args.lines.now c.loop-place.place c.index-lines-place.result w.in-Literal.path w.first_of.result c.loop-place.ranks.entries w.insert.new.self.entries
      c.loop-place-test.true c.index-lines-place.is w.in-Literal.is first entries
      in
      rw w.ranks-is (here ∙ c.loop-place.invariant)
  | in_default w ↦
      let other : is_creating c.index-lines-place.result ≡ false = rw w.in_default.is refl in
      let here = ranked_other c.args.lines.now c.loop-place.place c.index-lines-place.result c.loop-place.ranks.entries c.loop-place-test.true c.index-lines-place.is other in
      rw w.ranks-is (here ∙ c.loop-place.invariant)
]
