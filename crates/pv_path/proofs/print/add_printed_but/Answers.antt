use Rattle.std.proofs.Common.{◌++◌}
use Rattle.pv_path.specs.Printing.{is_plain_but, printed_by}
use Rattle.pv_path.proofs.Printed.{first_and_rest, run_more}
use Rattle.pv_path.proofs.print.add_printed_but.Goals as goal

pub loop-rest-preserved : goal.loop-rest-preserved
loop-rest-preserved c =
    let p = is_plain_but c.args.hidden.now in
    run_more p (c.args.text.now.items ++ printed_by p c.args.bytes.now) c.loop-rest.text.items c.add_printed_byte.new.text.items c.add_plain.new.text.items c.loop-rest.rest.now _ c.in_ok-rest.rest.now _
    (first_and_rest c.loop-rest.rest.now _ c.in-len1-up.len_at_least) c.loop-rest.invariant c.in_ok-add_printed_byte.ensures c.in_ok-rest.ensures.added c.in_ok-rest.ensures.rest
