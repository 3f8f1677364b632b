use Rattle.std.proofs.Common.{◌≡◌, ◌∙◌, ◌+◌, ◌<◌, ◌≤◌, length, get_or, drop, refl, ap, subst, arith}
use Rattle.pv_steps.specs.Courses.{each_of}
use Rattle.pv_steps.proofs.CarryingLaws.{carried_none, underway_start, underway_failed, underway_next, underway_end}
use Rattle.pv_steps.proofs.CourseLaws.{cut_start, none_left, partway_start}
use Rattle.pv_lines.specs.Lines.{IsLine}
use Rattle.pv_steps.proofs.ActingLaws.{Moves}
use Rattle.pv_table.specs.Active.{create_order, in_create_order}
use Rattle.pv_create.specs.OnTheWay.{lines_course}
use Rattle.pv_create.proofs.LineLaws.{line_begun, line_start}
use Rattle.pv_create.proofs.RunLaws.{is_left, is_there, of_all, order-length}
use Rattle.pv_create.proofs.run.run_in_order.Goals as goal

pub returns-in_err-order : goal.returns-in_err-order
returns-in_err-order g c =
    let moves : Moves g.T.Tree = record { stays = g.met.T.Tree.reaches_self; goes_on = g.met.T.Tree.reaches_on; never_falls = g.met.T.Tree.never_falls } in
    let course = lines_course c.args.now in
    let all = in_create_order c.args.table.now in
    carried_none g.T.Tree (each_of course) all c.args.now c.args.tree.now c.args.messages.now moves (partway_start course (line_start c.args.now) all (g.T.Tree.state c.args.tree.now))
    (cut_start course c.args.now (line_begun c.args.now) all (g.T.Tree.state c.args.tree.now)) c.args.messages.now refl c.from_residual.result c.from_residual.ensures.1

pub loop-place-init : goal.loop-place-init
loop-place-init g c =
    let moves : Moves g.T.Tree = record { stays = g.met.T.Tree.reaches_self; goes_on = g.met.T.Tree.reaches_on; never_falls = g.met.T.Tree.never_falls } in
    record {
      items = c.as_slice-place-items.ensures ∙ c.in_ok-order.ensures;
      run = underway_start g.T.Tree moves (lines_course c.args.now) (line_start c.args.now) (in_create_order c.args.table.now) c.args.now c.args.tree.now c.args.messages.now;
    }

pub line_at-requires : goal.line_at-requires
line_at-requires g c =
    let items = c.loop-place.invariant.items in
    let i = c.loop-place.place-index in
    let place = get_or c.as_slice-place-items.result.now i 0 in
    let within : i < length (create_order c.args.table.now) = subst (λ v. i < length v) items c.loop-place-test.true in
    let is : place ≡ get_or (create_order c.args.table.now) i 0 = ap (λ v. get_or v i 0) items in
    is_there c.args.table.now i place within is

pub create_line-requires : goal.create_line-requires
create_line-requires g c =
    let place = get_or c.as_slice-place-items.result.now c.loop-place.place-index 0 in
    record { line = of_all IsLine c.args.table.now c.lines-lines.ensures.whole place c.line_at.result.now c.line_at.ensures }

pub returns-in_err-one : goal.returns-in_err-one
returns-in_err-one g c =
    let moves : Moves g.T.Tree = record { stays = g.met.T.Tree.reaches_self; goes_on = g.met.T.Tree.reaches_on; never_falls = g.met.T.Tree.never_falls } in
    let items = c.loop-place.invariant.items in
    let i = c.loop-place.place-index in
    let place = get_or c.as_slice-place-items.result.now i 0 in
    let within : i < length (create_order c.args.table.now) = subst (λ v. i < length v) items c.loop-place-test.true in
    let is : place ≡ get_or (create_order c.args.table.now) i 0 = ap (λ v. get_or v i 0) items in
    let all = in_create_order c.args.table.now in
    let line = c.line_at.result.now in
    let next = is_left c.args.table.now i place within is line c.line_at.ensures in
    underway_failed g.T.Tree moves (lines_course c.args.now) (line_start c.args.now) all c.args.now c.args.tree.now c.args.messages.now (drop i all) (drop (i + 1) all) line next
    c.loop-place.carried c.loop-place.tree c.loop-place.messages c.loop-place.invariant.run c.create_line.new.tree c.create_line.new.messages c.create_line.result c.from_residual-in_err-one.result c.in_err-one.was c.from_residual-in_err-one.ensures.1 c.create_line.ensures

pub loop-place-preserved : goal.loop-place-preserved
loop-place-preserved g c =
    let moves : Moves g.T.Tree = record { stays = g.met.T.Tree.reaches_self; goes_on = g.met.T.Tree.reaches_on; never_falls = g.met.T.Tree.never_falls } in
    let items = c.loop-place.invariant.items in
    let i = c.loop-place.place-index in
    let place = get_or c.as_slice-place-items.result.now i 0 in
    let within : i < length (create_order c.args.table.now) = subst (λ v. i < length v) items c.loop-place-test.true in
    let is : place ≡ get_or (create_order c.args.table.now) i 0 = ap (λ v. get_or v i 0) items in
    let all = in_create_order c.args.table.now in
    let line = c.line_at.result.now in
    let next = is_left c.args.table.now i place within is line c.line_at.ensures in
    record {
      items = items;
      run =
          underway_next g.T.Tree moves (lines_course c.args.now) (line_start c.args.now) all c.args.now c.args.tree.now c.args.messages.now (drop i all) (drop (i + 1) all) line next
          c.loop-place.carried c.loop-place.tree c.loop-place.messages c.loop-place.invariant.run c.create_line.new.tree c.create_line.new.messages c.in_ok-one.one c.and-carried.result c.in_ok-one.ensures c.and-carried.ensures;
    }

pub returns : goal.returns
returns g c =
    let moves : Moves g.T.Tree = record { stays = g.met.T.Tree.reaches_self; goes_on = g.met.T.Tree.reaches_on; never_falls = g.met.T.Tree.never_falls } in
    let all = in_create_order c.args.table.now in
    let i = c.loop-place.place-index in
    let past : length all ≤ i = (
    let items = ap length c.loop-place.invariant.items in
    let same = order-length c.args.table.now in
    omega (arith, c.loop-place-test.false, items, same)
    ) in
    underway_end g.T.Tree moves (lines_course c.args.now) (line_start c.args.now) all c.args.now c.args.tree.now c.args.messages.now (drop i all) (none_left all i past)
    c.loop-place.carried c.loop-place.tree c.loop-place.messages c.loop-place.invariant.run
