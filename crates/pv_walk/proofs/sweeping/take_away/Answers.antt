use Rattle.std.proofs.lemmas.Result.{IfOk-from_err}
use Rattle.std.proofs.Common.{◌≡◌, ℕ, ◌+◌, true, refl, sym, ap, subst, ◌∙◌, [], ◌∷◌, ◌++◌, is_some, arith}
use Rattle.pv_path.specs.Paths.{Path, is_prefix}
use Rattle.pv_path.proofs.PathLaws.{is_prefix-refl}
use Rattle.pv_steps.specs.declared.step.Step.{Step}
use Rattle.pv_steps.specs.Trees.{Files, Places, places, kind_of, IsTree, IsPresent, IsEmptyIn}
use Rattle.pv_steps.specs.Steps.{gone}
use Rattle.pv_steps.proofs.ActingLaws.{Moves, no_memory, acted_within, acted_passed, acted_ended}
use Rattle.pv_walk.specs.Edits.{taken, emptied, count_at}
use Rattle.pv_walk.specs.Removal.{count_below, removal_at, DonePart}
use Rattle.pv_walk.proofs.RemovalLaws.{not_below_itself, is_below-append, kept-kind, kept-present}
use Rattle.pv_walk.proofs.EmptyingLaws.{emptied-below, emptied-kept, gone-emptied}
use Rattle.pv_walk.proofs.SweepLaws.{count_below-le, count_below-lt}
use Rattle.pv_walk.specs.Listing.{stands_at}
use Rattle.pv_walk.specs.PostOrder.{DoesInPostOrder}
use Rattle.pv_walk.proofs.PostOrderLaws.{did_at, did_nothing, does_at, none_at, part_at, removal_stays}
use Rattle.pv_walk.proofs.Removing.{widened, remove_then}
use Rattle.pv_walk.proofs.sweeping.take_away.Goals as goal
use Rattle.pv_path.proofs.Tests.{on_ok}

still_there : (now : ℕ) (t u : Files) (path : Path) → IsTree t → places u ≡ emptied now path t → is_some (places t path) ≡ true → IsPresent u path
still_there now t u path tree is present =
    ap (λ (x : Places). is_some (x path)) is ∙ kept-present now (places t path) (emptied now path t path) (emptied-kept now t path tree path (not_below_itself path)) ∙ present

pub remove-requires-clause-present : goal.remove-requires-clause-present
remove-requires-clause-present g c =
    rw c.in_ok-copy.ensures (still_there c.args.now (g.T.Tree.state c.args.tree.now) (g.T.Tree.state c.remove_below.new.tree) c.args.path.now c.is_present.ensures.tree c.in_ok-remove_below.ensures.emptied (sym c.is_present.ensures.present ∙ c.if-not-is_present.false))

empty_then : (now : ℕ) (t u : Files) (path : Path) → IsTree t → places u ≡ emptied now path t → IsEmptyIn (places u) path
empty_then now t u path tree is name = ap (λ (x : Places). x (path ++ name ∷ [])) is ∙ emptied-below now t path tree (path ++ name ∷ []) (is_below-append path name [])

pub remove-requires-clause-empty : goal.remove-requires-clause-empty
remove-requires-clause-empty g c =
    rw c.in_ok-copy.ensures (empty_then c.args.now (g.T.Tree.state c.args.tree.now) (g.T.Tree.state c.remove_below.new.tree) c.args.path.now c.is_present.ensures.tree c.in_ok-remove_below.ensures.emptied)

then_taken : (now : ℕ) (t u v : Files) (path p : Path) → p ≡ path → IsTree t → is_some (places t path) ≡ true → places u ≡ emptied now path t → places v ≡ gone now p (places u) → places v ≡ taken now path (places t)
then_taken now t u v path p same tree present is e =
    e ∙ ap (λ q. gone now q (places u)) same ∙ ap (gone now path) is ∙ gone-emptied now t path tree present

pub returns-clause-taken : goal.returns-clause-taken
returns-clause-taken g c =
    on_ok c.remove.result
    (λ e. then_taken c.args.now (g.T.Tree.state c.args.tree.now) (g.T.Tree.state c.remove_below.new.tree) (g.T.Tree.state c.remove.new.tree) c.args.path.now c.in_ok-copy.field-0 c.in_ok-copy.ensures c.is_present.ensures.tree (sym c.is_present.ensures.present ∙ c.if-not-is_present.false) c.in_ok-remove_below.ensures.emptied e)
    c.remove.ensures.gone

pub returns-in_err-remove_below-clause-acted : goal.returns-in_err-remove_below-clause-acted
returns-in_err-remove_below-clause-acted g c =
    let t = g.T.Tree.state c.args.tree.now in
    acted_passed g.T.Tree c.remove_below.result c.from_residual.result c.in_err-remove_below.was c.from_residual.ensures.1
    (widened g.T.Tree c.args.path.now (count_at t c.args.path.now) (count_below-le t c.args.path.now) c.remove_below.ensures.acted)

pub returns-in_err-copy-clause-acted : goal.returns-in_err-copy-clause-acted
returns-in_err-copy-clause-acted g c =
    let t = g.T.Tree.state c.args.tree.now in
    acted_ended g.T.Tree c.from_residual-in_err-copy.result (no_memory c.from_residual-in_err-copy.result c.from_residual-in_err-copy.ensures.1)
    (widened g.T.Tree c.args.path.now (count_at t c.args.path.now) (count_below-le t c.args.path.now) c.in_ok-remove_below.ensures.acted)

pub returns-clause-acted : goal.returns-clause-acted
returns-clause-acted g c =
    let moves : Moves g.T.Tree = record { stays = g.met.T.Tree.reaches_self; goes_on = g.met.T.Tree.reaches_on; never_falls = g.met.T.Tree.never_falls } in
    let t = g.T.Tree.state c.args.tree.now in
    let path = c.args.path.now in
    let under = is_prefix path in
    let count = count_below t path in
    acted_within g.T.Tree (count + 1) (count_at t path) (omega (arith, count_below-lt t path (sym c.is_present.ensures.present ∙ c.if-not-is_present.false)))
    (remove_then g.T.Tree moves under (widened g.T.Tree path count (omega arith) c.in_ok-remove_below.ensures.acted) c.in_ok-copy.field-0
    (subst (λ p. is_prefix path p ≡ true) (sym c.in_ok-copy.ensures) (is_prefix-refl path)) c.remove.ensures.acted)

pub returns-then-not-is_present-clause-order : goal.returns-then-not-is_present-clause-order
returns-then-not-is_present-clause-order g c = DoesInPostOrder.nothing refl

pub returns-then-not-is_present-clause-whole : goal.returns-then-not-is_present-clause-whole
returns-then-not-is_present-clause-whole g c =
    let t = g.T.Tree.state c.args.tree.now in
    did_nothing (stands_at t c.args.path.now) (removal_at t) (g.T.Tree.steps c.args.tree.now)
    (none_at t c.args.path.now c.is_present.ensures.tree (sym c.is_present.ensures.present ∙ c.if-not-is_present.true))

pub returns-in_err-remove_below-clause-order : goal.returns-in_err-remove_below-clause-order
returns-in_err-remove_below-clause-order g c =
    does_at (g.T.Tree.state c.args.tree.now) c.args.path.now (sym c.is_present.ensures.present ∙ c.if-not-is_present.false) (g.T.Tree.steps c.args.tree.now) (g.T.Tree.steps c.remove_below.new.tree) c.remove_below.ensures.order

pub returns-in_err-copy-clause-order : goal.returns-in_err-copy-clause-order
returns-in_err-copy-clause-order g c =
    does_at (g.T.Tree.state c.args.tree.now) c.args.path.now (sym c.is_present.ensures.present ∙ c.if-not-is_present.false) (g.T.Tree.steps c.args.tree.now) (g.T.Tree.steps c.remove_below.new.tree) c.remove_below.ensures.order

-- the step that removes the path is the one that the tree had at first
same_step : (now : ℕ) (t u : Files) (path p : Path) → p ≡ path → IsTree t → places u ≡ emptied now path t → removal_at u p ≡ removal_at t path
same_step now t u path p same tree is =
    ap (removal_at u) same
    ∙ removal_stays t u path (ap (λ (x : Places). kind_of (x path)) is ∙ kept-kind now (places t path) (emptied now path t path) (emptied-kept now t path tree path (not_below_itself path)))

pub returns-clause-order : goal.returns-clause-order
returns-clause-order g c =
    let t = g.T.Tree.state c.args.tree.now in
    part_at t c.args.path.now (sym c.is_present.ensures.present ∙ c.if-not-is_present.false) (g.T.Tree.steps c.args.tree.now) (g.T.Tree.steps c.remove_below.new.tree) (g.T.Tree.steps c.remove.new.tree) c.in_ok-remove_below.ensures.whole
    (subst (λ (s : Step). DonePart (s ∷ []) (g.T.Tree.steps c.remove_below.new.tree) (g.T.Tree.steps c.remove.new.tree))
    (same_step c.args.now t (g.T.Tree.state c.remove_below.new.tree) c.args.path.now c.in_ok-copy.field-0 c.in_ok-copy.ensures c.is_present.ensures.tree c.in_ok-remove_below.ensures.emptied) c.remove.ensures.order)

pub returns-clause-whole : goal.returns-clause-whole
returns-clause-whole g c =
    let t = g.T.Tree.state c.args.tree.now in
    on_ok c.remove.result
    (λ e. did_at t c.args.path.now (sym c.is_present.ensures.present ∙ c.if-not-is_present.false) (g.T.Tree.steps c.args.tree.now) (g.T.Tree.steps c.remove_below.new.tree) (g.T.Tree.steps c.remove.new.tree) c.in_ok-remove_below.ensures.whole
    (e ∙ ap (λ (s : Step). g.T.Tree.steps c.remove_below.new.tree ++ s ∷ [])
    (same_step c.args.now t (g.T.Tree.state c.remove_below.new.tree) c.args.path.now c.in_ok-copy.field-0 c.in_ok-copy.ensures c.is_present.ensures.tree c.in_ok-remove_below.ensures.emptied)))
    c.remove.ensures.whole

pub returns-in_err-remove_below-clause-taken : goal.returns-in_err-remove_below-clause-taken
returns-in_err-remove_below-clause-taken g c = IfOk-from_err c.from_residual.result _ c.from_residual.ensures.0

pub returns-in_err-remove_below-clause-whole : goal.returns-in_err-remove_below-clause-whole
returns-in_err-remove_below-clause-whole g c = IfOk-from_err c.from_residual.result _ c.from_residual.ensures.0

pub returns-in_err-copy-clause-taken : goal.returns-in_err-copy-clause-taken
returns-in_err-copy-clause-taken g c = IfOk-from_err c.from_residual-in_err-copy.result _ c.from_residual-in_err-copy.ensures.0

pub returns-in_err-copy-clause-whole : goal.returns-in_err-copy-clause-whole
returns-in_err-copy-clause-whole g c = IfOk-from_err c.from_residual-in_err-copy.result _ c.from_residual-in_err-copy.ensures.0
