use Rattle.std.specs.Prelude.{◌≡◌, ◌++◌, List}
use Rattle.std.proofs.Common.{ap, ◌∙◌}
use Rattle.pv_path.specs.Paths.{Path}
use Rattle.pv_walk.specs.Removal.{is_one_of}
use Rattle.pv_explain.proofs.TreeStandingLaws.{all_read, below_all, above_all}
use Rattle.pv_explain.proofs.region.paths_in.Goals as goal

pub returns : goal.returns
returns g c = λ q held there.
    let t = g.T.Tree.state c.args.tree.now in
    let region = c.args.region.now in
    let first : c.add_below.new.paths.items ≡ below_all t region.tops.items =
    c.in_ok-add_below.ensures ∙ (λ j. c.new-paths.ensures.items j ++ below_all t (c.deref.ensures.value j)) in
    let second : c.add_above.new.paths.items ≡ below_all t region.tops.items ++ above_all region.tops.items =
    c.in_ok-add_above.ensures ∙ (λ j. first j ++ above_all (c.deref-2.ensures.value j)) in
    let all : c.add_above-2.new.paths.items ≡ (below_all t region.tops.items ++ above_all region.tops.items) ++ above_all region.ends.items =
    c.in_ok-add_above-2.ensures ∙ (λ j. second j ++ above_all (c.deref-3.ensures.value j)) in
    ap (λ (ps : List Path). is_one_of ps q) all ∙ all_read t region q held there
