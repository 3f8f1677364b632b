use Rattle.std.proofs.Common.{ℕ, List, ◌++◌, take, rules, refl, ap, ◌∙◌, arith}
use Rattle.std.specs.List.{prefix_len}
use Rattle.pv_path.specs.Printing.{is_plain_but}
use Rattle.pv_image.proofs.Contents.{bytes_all}
use Rattle.pv_image.proofs.Printing.{none_printed, printed_more}
use Rattle.std.proofs.lemmas.Result.{IfOk-from_err}
use Rattle.pv_image.proofs.printed.read_printed_but.Goals as goal

pub returns-in-None : goal.returns-in-None
returns-in-None c =
    none_printed (is_plain_but c.args.hidden.now) refl c.args.text.now c.loop-rest.bytes.items c.loop-rest.rest.now c.loop-rest.invariant.so_far (λ e. search rules) c.in-None.ensures

pub loop-rest-preserved : goal.loop-rest-preserved
loop-rest-preserved c =
    let read = c.in-Some.ensures in
    let both = printed_more (is_plain_but c.args.hidden.now) c.args.text.now c.loop-rest.bytes.items c.add_plain.new.text.items c.loop-rest.rest.now c.in-Some.after.now c.in_ok-rest-in-Some.rest.now c.in-Some.byte
    (bytes_all c.args.text.now (λ i. let f = c.type_inv.text i in omega arith)) c.loop-rest.invariant.so_far c.loop-rest.invariant.are_bytes read.0 read.1
    (c.in_ok-rest-in-Some.ensures.added ∙ ap (λ (t : List ℕ). t ++ take (prefix_len (is_plain_but c.args.hidden.now) c.in-Some.after.now) c.in-Some.after.now) c.in_ok-push-in-Some.ensures.items) c.in_ok-rest-in-Some.ensures.rest in
    record { so_far = both.0; are_bytes = both.1 }

pub returns-in_err-bytes : goal.returns-in_err-bytes
returns-in_err-bytes c = IfOk-from_err c.from_residual.result _ c.from_residual.ensures.0

pub returns-in_err-push-in-Some : goal.returns-in_err-push-in-Some
returns-in_err-push-in-Some c = IfOk-from_err c.from_residual-in_err-push-in-Some.result _ c.from_residual-in_err-push-in-Some.ensures.0

pub returns-in_err-rest-in-Some : goal.returns-in_err-rest-in-Some
returns-in_err-rest-in-Some c = IfOk-from_err c.from_residual-in_err-rest-in-Some.result _ c.from_residual-in_err-rest-in-Some.ensures.0
