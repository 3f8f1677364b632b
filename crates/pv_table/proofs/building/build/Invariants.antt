use Rattle.std.specs.List.{AllByRecursion}
use Rattle.std.specs.Option.{option_copied}
use Rattle.std.specs.Vec.Iter.{into_iter_items}
use Rattle.pv_lines.specs.Lines.{IsLine}
use Rattle.pv_table.proofs.BuildLaws.{Underway}
use Rattle.pv_table.proofs.building.build.Given as goal

abbrev pub invariant-loop-line : goal.invariant-loop-line
invariant-loop-line l = record {
  ready : (goal.iterator-loop-line).can_next l.line-iterator × (goal.iterator-loop-line).is_finite l.line-iterator;
  taken : Underway l.boot (option_copied l.prefix) (option_copied l.exclude) l.fn.lines (into_iter_items l.line-iterator) l.table l.fn.messages l.messages;
  read : AllByRecursion IsLine (into_iter_items l.line-iterator);
}
