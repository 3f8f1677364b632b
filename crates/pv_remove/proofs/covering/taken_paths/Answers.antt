use Rattle.std.proofs.Common.{◌≡◌, ◌∙◌, sym, ap, List, filter}
use Rattle.std.specs.FinMap as fin
use Rattle.std.proofs.Math.Bool.{and_comm}
use Rattle.pv_path.specs.Paths.{Path, is_prefix, same_path}
use Rattle.pv_walk.specs.Removal.{is_below, is_one_of}
use Rattle.pv_walk.specs.Listing.{IsListing}
use Rattle.pv_walk.proofs.FindingLaws.{keys_passing, listed_are}
use Rattle.pv_table.specs.declared.taking.Taking.{Taking}
use Rattle.pv_remove.specs.Covering.{takes}
use Rattle.pv_remove.proofs.covering.taken_paths.Goals as goal
use Rattle.pv_path.proofs.Tests.{if_ok}

pub returns-in-Itself : goal.returns-in-Itself
returns-in-Itself g c =
    let t = g.T.Tree.state c.args.tree.now in
    let path = c.args.path.now in
    if_ok (λ paths. paths.items ≡ filter (same_path path) (fin.keys t)) (λ paths. (q : Path) → is_one_of paths.items q ≡ takes c.args.taking t path q) c.standing_at.result
    (λ paths e q. ap (λ (xs : List Path). is_one_of xs q) e ∙ keys_passing t (same_path path) q ∙ ap (λ (v : Taking). takes v t path q) (sym c.in-Itself.is)) c.standing_at.ensures

pub returns-in-Whole : goal.returns-in-Whole
returns-in-Whole g c =
    let t = g.T.Tree.state c.args.tree.now in
    let path = c.args.path.now in
    if_ok (λ paths. paths.items ≡ filter (is_prefix path) (fin.keys t)) (λ paths. (q : Path) → is_one_of paths.items q ≡ takes c.args.taking t path q) c.at_and_below.result
    (λ paths e q. ap (λ (xs : List Path). is_one_of xs q) e ∙ keys_passing t (is_prefix path) q ∙ ap (λ (v : Taking). takes v t path q) (sym c.in-Whole.is)) c.at_and_below.ensures.paths

pub returns-in-Contents : goal.returns-in-Contents
returns-in-Contents g c =
    let t = g.T.Tree.state c.args.tree.now in
    let path = c.args.path.now in
    if_ok (λ paths. IsListing t path paths.items) (λ paths. (q : Path) → is_one_of paths.items q ≡ takes c.args.taking t path q) c.below.result
    (λ paths l q. listed_are t path paths.items l q ∙ and_comm (is_below path q) _ ∙ ap (λ (v : Taking). takes v t path q) (sym c.in-Contents.is)) c.below.ensures.all
