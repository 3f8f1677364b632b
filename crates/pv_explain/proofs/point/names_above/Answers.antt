use Rattle.std.proofs.Common.{◌≡◌, ◌∙◌, ℕ, ◌+◌, ◌<◌, false, length, take, suc, sym, subst, arith}
use Rattle.std.specs.List.{list_any, range_with_len}
use Rattle.pv_table.specs.Reaching.{names}
use Rattle.pv_explain.proofs.AboveLaws.{any_there, none_more}
use Rattle.pv_explain.proofs.point.names_above.Goals as goal

pub returns-then-names_first : goal.returns-then-names_first
returns-then-names_first c =
    let count = c.loop-count.count in
    let less : count < length c.args.path.now = (let n = c.len-count-end.ensures.count in omega (arith, c.loop-count-test.true, n)) in
    let sum : 0 + count ≡ count = omega arith in
    sym (any_there (λ k. names c.args.line.now (take k c.args.path.now)) 0 (length c.args.path.now) count count less sum (sym c.names_first.ensures ∙ c.if-names_first.true))

pub loop-count-preserved : goal.loop-count-preserved
loop-count-preserved c =
    let count = c.loop-count.count in
    let sum : 0 + count ≡ count = omega arith in
    let next : suc count ≡ count + 1 = omega arith in
    subst (λ (n : ℕ). list_any (λ k. names c.args.line.now (take k c.args.path.now)) (range_with_len 0 n) ≡ false) next
    (none_more (λ k. names c.args.line.now (take k c.args.path.now)) 0 count count sum c.loop-count.invariant (sym c.names_first.ensures ∙ c.if-names_first.false))
