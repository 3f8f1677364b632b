use Rattle.std.specs.Prelude.{◌≡◌, Bool, true, false, not, ◌||◌, List, [], ◌∷◌, is_some}
use Rattle.std.proofs.Common.{sym, subst, ◌∙◌}
use Rattle.std.proofs.lemmas.Bool.{and_parts}
use Rattle.std.specs.FinMap as fin
use Rattle.std.specs.List.{list_all}
use Rattle.pv_path.specs.Paths.{Path}
use Rattle.pv_path.proofs.Tests.{if_ok}
use Rattle.pv_table.specs.Pointwise.{ObjectStates, pointwise_after}
use Rattle.pv_walk.specs.Preparing.{parents_of}
use Rattle.pv_explain.specs.Following.{holds, IsWithin}
use Rattle.pv_explain.proofs.AlongLaws.{among_along}
use Rattle.pv_explain.proofs.PointLaws.{test_among, within_aside}
use Rattle.pv_explain.proofs.RegionLaws.{holds_above, region_after}
use Rattle.pv_explain.proofs.following.after_within.Goals as goal

untrue : (b : Bool) → not b ≡ true → b ≡ false
untrue true e = cc
untrue false e = cc

second : (a b : Bool) → (not a || b) ≡ true → a ≡ true → b ≡ true
second true b e h = e
second false b e h = cc

pub returns-then-branch : goal.returns-then-branch
returns-then-branch c = λ s within.
    let region = c.args.region.now in
    let own : Path = c.in-Literal.own in
    let before : ObjectStates = c.args.before in
    let places : List Path = [] ∷ own ∷ parents_of own in
    let test : (Path → Bool) = λ q. not (holds region q) || is_some (fin.get before q) in
    let both = and_parts (not (holds region own)) (list_all test places) (sym c.in_ok-is_outside.ensures ∙ c.if-branch.true) in
    within_aside (holds region) (holds_above region) c.args.line.now before s within own c.in-Literal.is (untrue (holds region own) both.0)
    (λ q here above. second (holds region q) (is_some (fin.get before q)) (test_among test q places both.1 (among_along q own above)) here)

pub returns : goal.returns
returns c =
    let region = c.args.region.now in
    let line = c.args.line.now in
    let before : ObjectStates = c.args.before in
    if_ok (λ (after : ObjectStates). after ≡ pointwise_after before line)
    (λ (left : ObjectStates). (s : ObjectStates) → IsWithin (holds region) before s → IsWithin (holds region) left (pointwise_after s line))
    c.after_line.result
    (λ left e s within. subst (λ (r : ObjectStates). IsWithin (holds region) r (pointwise_after s line)) (sym e) (region_after region line c.requires before s within))
    c.after_line.ensures
