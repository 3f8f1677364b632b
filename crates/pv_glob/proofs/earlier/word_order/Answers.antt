use Rattle.std.proofs.Common.{◌≡◌, length, rules, sym, ap, ◌∙◌}
use Rattle.std.specs.Ordering.{nat_cmp, on, ordering_then}
use Rattle.std.specs.declared.cmp.Ordering.TheVariants.{Equal}
use Rattle.std.specs.Cmp.Lexicographic.{slice_cmp}
use Rattle.pv_glob.specs.Words.{rank}
use Rattle.pv_glob.proofs.Orders.{words_by_bytes}
use Rattle.pv_glob.proofs.earlier.word_order.Goals as goal

pub returns-in-Equal : goal.returns-in-Equal
returns-in-Equal c =
    let a = c.args.a.now in let b = c.args.b.now in
    let tie : nat_cmp (length a) (length b) ≡ Equal = search rules in
    c.bytes_order.ensures ∙ sym (words_by_bytes a b ∙ ap (λ o. ordering_then o (slice_cmp (on rank nat_cmp) a b)) tie)
