use Rattle.std.proofs.Common.{◌∙◌, subst, sym}
use Rattle.std.specs.List.{AllByRecursion}
use Rattle.std.specs.Option.{option_copied}
use Rattle.std.specs.Vec.Iter.{into_iter_items}
use Rattle.pv_lines.specs.Lines.{IsLine}
use Rattle.pv_table.proofs.BuildLaws.{underway_kept, underway_part}
use Rattle.pv_table.proofs.building.build.Goals as goal

pub returns-in_err-stays-clause-part : goal.returns-in_err-stays-clause-part
returns-in_err-stays-clause-part c =
    underway_part c.args.boot (option_copied c.args.prefix) (option_copied c.args.exclude) c.args.lines c.args.messages.now (into_iter_items c.loop-line.line-iterator) c.loop-line.table c.loop-line.messages c.loop-line.invariant.taken

pub returns-in_err-table-clause-part : goal.returns-in_err-table-clause-part
returns-in_err-table-clause-part c =
    let part =
    underway_part c.args.boot (option_copied c.args.prefix) (option_copied c.args.exclude) c.args.lines c.args.messages.now (into_iter_items c.loop-line.line-iterator) c.loop-line.table c.loop-line.messages c.loop-line.invariant.taken
    in
    (part.0, c.in_err-table.ensures.messages_kept ∙ part.1)

pub keep-requires : goal.keep-requires
keep-requires c = (subst (AllByRecursion IsLine) c.in-Some.ensures.steps.0 c.loop-line.invariant.read).0

pub loop-line-preserved-then-branch : goal.loop-line-preserved-then-branch
loop-line-preserved-then-branch c = record {
  ready = (tt, tt);
  taken =
      underway_kept c.args.boot (option_copied c.args.prefix) (option_copied c.args.exclude) c.args.lines c.args.messages.now (into_iter_items c.loop-line.line-iterator) (into_iter_items c.next.new.self) c.loop-line.table
      c.in_ok-table.table c.in-Some.line c.loop-line.messages c.keep.new.messages c.loop-line.invariant.taken c.in-Some.ensures.steps.0 (sym c.in_ok-stays.ensures ∙ c.if-branch.true) c.in_ok-table.ensures.kept
      c.in_ok-table.ensures.new_messages;
  read = (subst (AllByRecursion IsLine) c.in-Some.ensures.steps.0 c.loop-line.invariant.read).1;
}

pub returns-clause-part : goal.returns-clause-part
returns-clause-part c =
    underway_part c.args.boot (option_copied c.args.prefix) (option_copied c.args.exclude) c.args.lines c.args.messages.now (into_iter_items c.loop-line.line-iterator) c.loop-line.table c.loop-line.messages c.loop-line.invariant.taken
