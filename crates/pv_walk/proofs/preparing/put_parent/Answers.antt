use Rattle.pv_walk.specs.Putting.IsPutting.{kept}
-- put_parent
use Rattle.std.proofs.Common.{◌+◌, refl, sym, ap, subst, ◌∙◌, arith}
use Rattle.std.specs.Prelude.{◌≡◌, Bool, false, cond, Option, Some, None, is_some, true}
use Rattle.pv_steps.specs.declared.object.Object.{Object}
use Rattle.pv_steps.specs.Acting.{Acted}
use Rattle.pv_steps.specs.Steps.{made}
use Rattle.pv_steps.specs.Trees.{Places, places}
use Rattle.pv_steps.proofs.ActingLaws.{acted_weaken, Moves, well, acted_none}
use Rattle.pv_walk.specs.Edits.{count_at}
use Rattle.pv_walk.specs.declared.new_file.NewFile.{NewFile}
use Rattle.pv_walk.specs.Preparing.{parent_file}
use Rattle.pv_walk.specs.Putting.{Putting, IsPutStep, put_over}
use Rattle.pv_walk.specs.Replacing.{Replacing, new_subtree}
use Rattle.pv_walk.specs.Staging.{new_object, most_new}
use Rattle.pv_walk.proofs.PuttingOverLaws.{cut_absent, count_absent, over_putting}
use Rattle.pv_walk.proofs.preparing.put_parent.Goals as goal
use Rattle.pv_path.proofs.Tests.{on_ok}

absent_by : (o : Option Object) → is_some o ≡ false → o ≡ None
absent_by None e = refl
absent_by (Some x) e = cc

pub returns-clause-ok : goal.returns-clause-ok
returns-clause-ok g c =
    let t = places (g.T.Tree.state c.args.tree.now) in
    let place = c.args.place.now in
    let gone : is_some (t place) ≡ false = sym c.is_present.ensures.present ∙ c.if-is_present.false in
    on_ok c.put_over.result
    (λ e. e ∙ ap (λ (file : NewFile). put_over c.args.now place file t) c.parent_file.ensures
    ∙ ap (λ (x : Places). made c.args.now place (new_object parent_file c.args.now) x) (cut_absent place (g.T.Tree.state c.args.tree.now) c.is_present.ensures.tree (absent_by (t place) gone))
    ∙ sym (ap (λ (b : Bool). cond b t (made c.args.now place (new_object parent_file c.args.now) t)) gone))
    c.put_over.ensures.ok

pub returns-clause-acted : goal.returns-clause-acted
returns-clause-acted g c =
    let t = g.T.Tree.state c.args.tree.now in
    let place = c.args.place.now in
    let gone : is_some (places t place) ≡ false = sym c.is_present.ensures.present ∙ c.if-is_present.false in
    let absent = absent_by (places t place) gone in
    let none = count_absent place t c.is_present.ensures.tree absent in
    let most = ap (λ (b : Bool). cond b 0 most_new) gone in
    acted_weaken g.T.Tree (Replacing place (new_subtree parent_file) t) (Putting place parent_file t) (IsPutStep place parent_file) (IsPutStep place parent_file)
    (count_at t place + most_new) (cond (is_some (places t place)) 0 most_new) (over_putting place t c.is_present.ensures.tree absent parent_file) (λ s q. q) (omega (arith, none, most))
    (subst (λ (file : NewFile). Acted g.T.Tree (Replacing place (new_subtree file) t) (IsPutStep place file) (count_at t place + most_new) c.args.now c.args.tree.now c.put_over.new.tree c.put_over.result)
    c.parent_file.ensures c.put_over.ensures.acted)

pub returns-then-is_present-clause-ok : goal.returns-then-is_present-clause-ok
returns-then-is_present-clause-ok g c =
    let t = places (g.T.Tree.state c.args.tree.now) in
    let place = c.args.place.now in
    let there : is_some (t place) ≡ true = sym c.is_present.ensures.present ∙ c.if-is_present.true in
    sym (ap (λ (b : Bool). cond b t (made c.args.now place (new_object parent_file c.args.now) t)) there)

pub returns-then-is_present-clause-acted : goal.returns-then-is_present-clause-acted
returns-then-is_present-clause-acted g c =
    let moves : Moves g.T.Tree = record { stays = g.met.T.Tree.reaches_self; goes_on = g.met.T.Tree.reaches_on; never_falls = g.met.T.Tree.never_falls } in
    let t = g.T.Tree.state c.args.tree.now in
    let place = c.args.place.now in
    acted_none g.T.Tree moves (Putting place parent_file t) (IsPutStep place parent_file) (cond (is_some (places t place)) 0 most_new) c.args.now c.args.tree.now well refl (λ q plain. kept refl)
