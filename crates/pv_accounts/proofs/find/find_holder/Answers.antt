use Rattle.std.proofs.Common.{Some, None, refl, sym, ◌∙◌, arith}
use Rattle.std.specs.Option.{option_map}
use Rattle.pv_accounts.specs.Files.{lines_of}
use Rattle.pv_accounts.specs.Kinds.{test_of}
use Rattle.pv_accounts.proofs.Holding.{left_start, names_step, next_rest, last_step}
use Rattle.pv_accounts.proofs.find.find_holder.Goals as goal

pub loop-line-init : goal.loop-line-init
loop-line-init c = record { left = left_start (test_of c.args.kind) c.args.file.now c.args.id c.args.but.now; rest = refl; within = omega arith }

pub returns-in-Some-holder_at : goal.returns-in-Some-holder_at
returns-in-Some-holder_at c =
    sym (names_step (test_of c.args.kind) (lines_of c.args.file.now) c.loop-line.place c.args.id c.args.but.now c.in-Some.line.now (lines_of c.in-Some.more.now)
    (Some c.in-Some-holder_at.name.now) (c.loop-line.invariant.rest ∙ c.in-Some.ensures.parts) c.in-Some-holder_at.ensures) ∙ c.loop-line.invariant.left

pub loop-line-preserved : goal.loop-line-preserved
loop-line-preserved c =
    record {
      left =
          sym (names_step (test_of c.args.kind) (lines_of c.args.file.now) c.loop-line.place c.args.id c.args.but.now c.in-Some.line.now (lines_of c.in-Some.more.now)
          None (c.loop-line.invariant.rest ∙ c.in-Some.ensures.parts) c.in_default-holder_at.ensures) ∙ c.loop-line.invariant.left;
      rest =
          next_rest c.loop-line.place (lines_of c.args.file.now) c.in-Some.line.now (lines_of c.in-Some.more.now)
          (c.loop-line.invariant.rest ∙ c.in-Some.ensures.parts);
      within = omega (arith, c.in-Some.ensures.shorter);
    }

pub returns : goal.returns
returns c =
    sym (last_step (test_of c.args.kind) (lines_of c.args.file.now) c.loop-line.place c.args.id c.args.but.now c.loop-line.rest.now
    (option_map (λ name. name.now) c.holder_at-2.result) (c.loop-line.invariant.rest ∙ c.in_default.ensures.parts) c.holder_at-2.ensures)
    ∙ c.loop-line.invariant.left
