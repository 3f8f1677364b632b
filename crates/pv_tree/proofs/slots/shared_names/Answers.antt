use Rattle.std.proofs.Common.{sym, ◌∙◌, arith}
use Rattle.pv_path.proofs.PathLaws.{same_bytes-decides}
use Rattle.pv_tree.proofs.GrowthLaws.{count_more, ends_apart, ends_first, ends_second}
use Rattle.pv_tree.proofs.slots.shared_names.Goals as goal

pub loop-count-preserved : goal.loop-count-preserved
loop-count-preserved c = record {
  first = omega (arith, c.loop-count-test.true);
  second = omega (arith, c.if-count-second.true);
  same = count_more c.args.first.now c.args.second.now c.loop-count.count c.index-first-count.result c.index-second-count.result c.loop-count-test.true c.if-count-second.true c.loop-count.invariant.same
      c.index-first-count.is c.index-second-count.is ((same_bytes-decides c.index-first-count.result c.index-second-count.result).0 (sym c.eq.ensures ∙ c.if-eq.true));
}

pub returns-else-eq : goal.returns-else-eq
returns-else-eq c =
    ends_apart c.args.first.now c.args.second.now c.loop-count.count c.index-first-count.result c.index-second-count.result c.loop-count-test.true c.if-count-second.true c.loop-count.invariant.same
    c.index-first-count.is c.index-second-count.is (sym c.eq.ensures ∙ c.if-eq.false)

pub returns-else-count-second : goal.returns-else-count-second
returns-else-count-second c =
    ends_second c.args.first.now c.args.second.now c.loop-count.count c.loop-count.invariant.first c.loop-count.invariant.second c.loop-count.invariant.same c.if-count-second.false

pub returns-after-loop-count : goal.returns-after-loop-count
returns-after-loop-count c =
    ends_first c.args.first.now c.args.second.now c.loop-count.count c.loop-count.invariant.first c.loop-count.invariant.second c.loop-count.invariant.same c.loop-count-test.false
