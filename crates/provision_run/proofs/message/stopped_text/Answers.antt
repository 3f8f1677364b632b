use Rattle.std.proofs.Common.{◌≡◌, ◌<◌, ◌^◌, ◌++◌, List, ℕ, true, codes, refl, sym, ap, subst, arith}
use Rattle.std.specs.Fmt.{decimal}
use Rattle.pv_text.specs.Lines.{is_line}
use Rattle.pv_text.proofs.Characters.{one_line-append, one_line-decimal}
use Rattle.provision_run.specs.OverTree.{stopped_text}
use Rattle.provision_run.proofs.message.stopped_text.Goals as goal

pub returns-clause-line : goal.returns-clause-line
returns-clause-line c =
    let small : c.args.count < 2 ^ 64 = omega arith in
    let new_messages : c.extend_from_slice-2.new.self.items ≡ stopped_text c.args.count =
    rw (c.in_ok-extend_from_slice-2.ensures.items, c.in_ok-extend_from_slice.ensures.items, c.in_ok-text.ensures.items, c.as_bytes.ensures.value)
    (ap (λ (digits : List ℕ). codes "stopped after " ++ digits ++ codes " steps") c.in_ok-number.ensures.ok) in
    subst (λ (t : List ℕ). is_line t ≡ true) (sym new_messages)
    (one_line-append (codes "stopped after " ++ decimal c.args.count) (codes " steps") (one_line-append (codes "stopped after ") (decimal c.args.count) refl (one_line-decimal c.args.count small)) refl)
