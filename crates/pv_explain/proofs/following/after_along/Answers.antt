use Rattle.std.specs.Prelude.{◌≡◌, Bool, true, false, not, ◌||◌, List, is_some}
use Rattle.std.proofs.Common.{sym, ap, subst, ◌∙◌}
use Rattle.std.proofs.lemmas.Bool.{and_parts}
use Rattle.std.specs.FinMap as fin
use Rattle.std.specs.List.{list_all}
use Rattle.pv_path.specs.Paths.{Path, is_prefix}
use Rattle.pv_steps.proofs.StepLaws.{is_among}
use Rattle.pv_table.specs.Pointwise.{ObjectStates, point, pointwise_after, tabulated}
use Rattle.pv_explain.specs.Following.{IsAlong}
use Rattle.pv_explain.proofs.AlongLaws.{along_after, along_aside, among_along}
use Rattle.pv_explain.proofs.PointLaws.{test_among}
use Rattle.pv_explain.proofs.following.after_along.Goals as goal

untrue : (b : Bool) → not b ≡ true → b ≡ false
untrue true e = cc
untrue false e = cc

second : (a b : Bool) → (not a || b) ≡ true → a ≡ true → b ≡ true
second true b e h = e
second false b e h = cc

pub returns-then-is_aside : goal.returns-then-is_aside
returns-then-is_aside c = λ s left e along.
    let line = c.args.line.now in
    let path = c.args.path.now in
    let own : Path = c.in-Literal.own in
    let before : ObjectStates = c.args.before in
    let same : before ≡ left = cc in
    let test : (Path → Bool) = λ q. not (is_prefix q own) || is_some (fin.get before q) in
    let both = and_parts (not (is_prefix own path)) (list_all test c.args.places.now) (sym c.is_aside.ensures ∙ c.if-is_aside.true) in
    subst (λ (r : ObjectStates). IsAlong path r (pointwise_after s line)) same
    (along_aside path line before s along own c.in-Literal.is (untrue (is_prefix own path) both.0) (λ q high above.
    second (is_prefix q own) (is_some (fin.get before q)) (test_among test q c.args.places.now both.1 (ap (λ (ps : List Path). is_among q ps) c.requires ∙ among_along q path high)) above))

pub returns : goal.returns
returns c = λ s left e along.
    let line = c.args.line.now in
    let path = c.args.path.now in
    let same : c.in_ok-after_line_at.field-0 ≡ left = cc in
    subst (λ (r : ObjectStates). IsAlong path r (pointwise_after s line))
    (sym (c.in_ok-after_line_at.ensures ∙ ap (λ (ps : List Path). tabulated ps (point line c.args.before)) c.requires) ∙ same)
    (along_after path line c.args.before s along (sym c.in_ok-copies.ensures ∙ c.if-branch.false))
