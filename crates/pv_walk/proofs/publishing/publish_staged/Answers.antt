use Rattle.std.proofs.Common.{◌≡◌, ◌≢◌, ℕ, ◌+◌, ◌<◌, ◌≤◌, ◌^◌, sym, ap, subst, ◌∙◌, inl, inr, ◌⊎◌, List, [], ◌∷◌, ◌++◌, option_map, Result, Ok, arith}
use Rattle.pv_path.specs.Paths.{Path, is_prefix, staging_of}
use Rattle.pv_steps.specs.declared.step.Step.{Step}
use Rattle.pv_steps.specs.declared.step.Step.TheVariants.{Unlink, RemoveDir, Rename}
use Rattle.pv_steps.specs.Objects.{object_state}
use Rattle.pv_steps.specs.Trees.{Files, Places, places, IsTree, IsPresent}
use Rattle.pv_steps.specs.Steps.{Movable, Yields, moved}
use Rattle.pv_steps.specs.declared.tree.Tree.{Ghosts}
use Rattle.pv_steps.specs.declared.tree.TreeFault.{TreeFault}
use Rattle.pv_steps.specs.Acting.{Acted}
use Rattle.pv_steps.proofs.ActingLaws.{Moves, no_memory, acted_then, acted_weaken, acted_within, acted_passed, acted_ended, acted_end}
use Rattle.pv_walk.specs.Edits.{count_at}
use Rattle.pv_steps.specs.Content.{Removes}
use Rattle.pv_walk.specs.Staging.{IsPublishing}
use Rattle.pv_walk.specs.Removal.{Clearing, Publishing, MayHaveMoved}
use Rattle.pv_walk.specs.PostOrder.{PublishesInOrder}
use Rattle.pv_walk.proofs.PostOrderLaws.{publishes}
use Rattle.pv_walk.proofs.PublishLaws.{may_move}
use Rattle.pv_walk.proofs.Outcomes.{acted-tree}
use Rattle.pv_walk.proofs.publishing.publish_staged.Goals as goal

removal_publishes : (path : Path) (s : Step) → Removes (is_prefix path) s → IsPublishing path s
removal_publishes path (Unlink at) h = h
removal_publishes path (RemoveDir at) h = h
removal_publishes path s h = absurd h

-- making way is on the way of publishing
way : {S A : Type 0} (tree : Ghosts S) (path : Path) {m now : ℕ} {a b : S} {r : Result A TreeFault} (n : ℕ) → m ≤ n → Acted tree (Clearing path (tree.state a)) (Removes (is_prefix path)) m now a b r
    → Acted tree (Publishing now path (tree.state a)) (IsPublishing path) n now a b r
way tree path {m = m} {now = now} {a = a} n le before =
    acted_weaken tree (Clearing path (tree.state a)) (Publishing now path (tree.state a)) (Removes (is_prefix path)) (IsPublishing path) m n (λ w p. inl p) (removal_publishes path) le before

-- and then comes the Rename
way_then : {S A B : Type 0} (tree : Ghosts S) → Moves tree → (path p : Path) {m n now : ℕ} {a b c : S} {x : A} {r : Result B TreeFault} → p ≡ path
    → Acted tree (Clearing path (tree.state a)) (Removes (is_prefix path)) m now a b (Ok x) → moved now (staging_of path) path (places (tree.state b)) ≡ moved now (staging_of path) path (places (tree.state a))
    → Acted tree (MayHaveMoved now p (tree.state b)) (IsPublishing p) n now b c r → Acted tree (Publishing now path (tree.state a)) (IsPublishing path) (m + n) now a c r
way_then tree moves path p {m = m} {n = n} {now = now} {a = a} {b = b} {c = c} {r = r} is before same last =
    acted_then tree moves (Publishing now path (tree.state a)) (IsPublishing path) (way tree path m (omega arith) before)
    (acted_weaken tree (MayHaveMoved now path (tree.state b)) (Publishing now path (tree.state a)) (IsPublishing path) (IsPublishing path) n n on_way (λ s q. q) (omega arith)
    (subst (λ (q : Path). Acted tree (MayHaveMoved now q (tree.state b)) (IsPublishing q) n now b c r) is last))
  where
    on_way : (w : Files) → MayHaveMoved now path (tree.state b) w → Publishing now path (tree.state a) w
    on_way w (inl e) = inl (subst (Clearing path (tree.state a)) (sym e) (acted_end tree (Clearing path (tree.state a)) (Removes (is_prefix path)) before))
    on_way w (inr e) = inr (λ q. ap (λ (x : Places). option_map object_state (x q)) (e ∙ same))

pub returns-in_err-make_way-clause-acted : goal.returns-in_err-make_way-clause-acted
returns-in_err-make_way-clause-acted g c =
    let count = count_at (g.T.Tree.state c.args.tree.now) c.args.path.now in
    acted_passed g.T.Tree c.make_way.result c.from_residual.result c.in_err-make_way.was c.from_residual.ensures.1 (way g.T.Tree c.args.path.now (1 + count) (omega arith) c.make_way.ensures.acted)

pub returns-in_err-copy-clause-acted : goal.returns-in_err-copy-clause-acted
returns-in_err-copy-clause-acted g c =
    let count = count_at (g.T.Tree.state c.args.tree.now) c.args.path.now in
    acted_ended g.T.Tree c.from_residual-in_err-copy.result (no_memory c.from_residual-in_err-copy.result c.from_residual-in_err-copy.ensures.1) (way g.T.Tree c.args.path.now (1 + count) (omega arith) c.in_ok-make_way.ensures.acted)

movable : (now : ℕ) (path stage p : Path) → stage ≡ staging_of path → p ≡ path → path ≢ [] → (u : Files) → IsTree u → IsPresent u stage → Yields (places u) stage path → Movable (places u) stage p
movable now path stage p is same nonempty u tree staged yields =
    subst (λ (r : Path). Movable (places u) stage r) (sym same)
    (subst (λ (r : Path). Movable (places u) r path) (sym is)
    (may_move now path nonempty (places u) tree (subst (IsPresent u) is staged) (subst (λ (r : Path). Yields (places u) r path) is yields)))

pub rename-requires-clause-movable : goal.rename-requires-clause-movable
rename-requires-clause-movable g c =
    let fits : c.args.now < 2 ^ 64 = omega arith in
    let tree = acted-tree g.T.Tree (Clearing c.args.path.now (g.T.Tree.state c.args.tree.now)) (Removes (is_prefix c.args.path.now)) fits c.make_way.ensures.tree c.make_way.ensures.acted in
    subst (λ (s : Path). Movable (places (g.T.Tree.state c.make_way.new.tree)) s c.in_ok-copy.field-0) (sym c.stage.view_is)
    (movable c.args.now c.args.path.now c.args.stage c.in_ok-copy.field-0 c.requires.stage c.in_ok-copy.ensures c.requires.not_root (g.T.Tree.state c.make_way.new.tree) tree c.in_ok-make_way.ensures.staged c.in_ok-make_way.ensures.yields)

pub returns-clause-acted : goal.returns-clause-acted
returns-clause-acted g c =
    let moves : Moves g.T.Tree = record { stays = g.met.T.Tree.reaches_self; goes_on = g.met.T.Tree.reaches_on; never_falls = g.met.T.Tree.never_falls } in
    let count = count_at (g.T.Tree.state c.args.tree.now) c.args.path.now in
    acted_within g.T.Tree (count + 1) (1 + count) (omega arith)
    (way_then g.T.Tree moves c.args.path.now c.in_ok-copy.field-0 c.in_ok-copy.ensures c.in_ok-make_way.ensures.acted
    (subst (λ (s : Path). moved c.args.now s c.args.path.now (places (g.T.Tree.state c.make_way.new.tree)) ≡ moved c.args.now s c.args.path.now (places (g.T.Tree.state c.args.tree.now))) c.requires.stage c.in_ok-make_way.ensures.same)
    c.rename.ensures.acted)

pub make_way-requires-clause-staged : goal.make_way-requires-clause-staged
make_way-requires-clause-staged g c = rw c.requires.stage c.requires.staged

pub returns-in_err-make_way-clause-order : goal.returns-in_err-make_way-clause-order
returns-in_err-make_way-clause-order g c = PublishesInOrder.clears c.make_way.ensures.order

pub returns-in_err-copy-clause-order : goal.returns-in_err-copy-clause-order
returns-in_err-copy-clause-order g c = PublishesInOrder.clears c.make_way.ensures.order

renamed : (stage path p : Path) (mid behind : List Step) → stage ≡ staging_of path → p ≡ path → (behind ≡ mid) ⊎ (behind ≡ mid ++ Rename stage p ∷ []) → (behind ≡ mid) ⊎ (behind ≡ mid ++ Rename (staging_of path) path ∷ [])
renamed stage path p mid behind is same h =
    subst (λ (r : Path). (behind ≡ mid) ⊎ (behind ≡ mid ++ Rename (staging_of path) r ∷ [])) same (subst (λ (r : Path). (behind ≡ mid) ⊎ (behind ≡ mid ++ Rename r p ∷ [])) is h)

pub returns-clause-order : goal.returns-clause-order
returns-clause-order g c =
    let mid = g.T.Tree.steps c.make_way.new.tree in
    let behind = g.T.Tree.steps c.rename.new.tree in
    publishes (g.T.Tree.state c.args.tree.now) c.args.path.now (g.T.Tree.steps c.args.tree.now) mid behind c.in_ok-make_way.ensures.whole
    (renamed _ c.args.path.now c.in_ok-copy.field-0 mid behind (c.stage.view_is ∙ c.requires.stage) c.in_ok-copy.ensures c.rename.ensures.order)
