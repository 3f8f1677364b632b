use Rattle.std.proofs.Common.{◌≡◌, ◌&&◌, ◌∙◌, sym, ap, List, filter, is_some}
use Rattle.std.proofs.Math.Bool.{and-false}
use Rattle.std.specs.FinMap as fin
use Rattle.pv_path.specs.Paths.{Path, is_prefix}
use Rattle.pv_steps.specs.Trees.{places}
use Rattle.pv_walk.specs.Removal.{is_one_of}
use Rattle.pv_walk.proofs.FindingLaws.{keys_passing}
use Rattle.pv_table.specs.Removed.{purges}
use Rattle.pv_remove.proofs.RunLaws.{purges_is, purges_none}
use Rattle.pv_remove.proofs.purging.paths_of.Goals as goal
use Rattle.pv_path.proofs.Tests.{if_ok}

pub returns : goal.returns
returns g c =
    let t = g.T.Tree.state c.args.tree.now in
    let path = c.in_ok-path.path in
    if_ok (λ paths. paths.items ≡ filter (is_prefix path) (fin.keys t)) (λ paths. (q : Path) → is_one_of paths.items q ≡ (is_some (places t q) && purges c.args.line.now (places t) q)) c.at_and_below.result
    (λ paths e q. ap (λ (xs : List Path). is_one_of xs q) e ∙ keys_passing t (is_prefix path) q
    ∙ ap (λ b. is_some (places t q) && b) (purges_is c.args.line.now (places t) path q c.if-not-line.false c.in_ok-path.ensures (sym c.in_ok-refusal.ensures ∙ c.in-None.is))) c.at_and_below.ensures.paths

pub returns-in-Some : goal.returns-in-Some
returns-in-Some g c q =
    let t = g.T.Tree.state c.args.tree.now in
    let nothing = purges_none c.args.line.now (places t) c.in_ok-path.path q c.in_ok-refusal.field-0 (ap is_some c.in-Some.is) c.in_ok-path.ensures c.in_ok-refusal.ensures in
    ap (λ (xs : List Path). is_one_of xs q) c.new-in-Some.ensures.items
    ∙ sym (ap (λ b. is_some (places t q) && b) nothing ∙ and-false (is_some (places t q)))
