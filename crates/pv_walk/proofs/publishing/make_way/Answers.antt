use Rattle.std.proofs.Common.{arith, Bool, IsTrue, ◌↔◌, true, false, ◌≡◌, ◌≢◌, ℕ, sym, ap, subst, ◌∙◌, refl, [], is_some, Result}
use Rattle.pv_path.specs.Paths.{Path, is_prefix, staging_of}
use Rattle.pv_steps.specs.declared.node.Kind.TheVariants.{Directory}
use Rattle.pv_steps.specs.Trees.{Files, Places, places, IsTree, IsPresent, IsKind}
use Rattle.pv_steps.specs.Steps.{Yields, moved}
use Rattle.pv_steps.specs.declared.tree.Tree.{Ghosts}
use Rattle.pv_steps.specs.declared.tree.TreeFault.{TreeFault}
use Rattle.pv_steps.specs.Content.{Removes}
use Rattle.pv_steps.proofs.ContentLaws.{removes-wider}
use Rattle.pv_steps.specs.Acting.{Acted, refused}
use Rattle.pv_steps.proofs.ActingLaws.{Moves, well, acted_none, acted_weaken}
use Rattle.pv_walk.specs.Edits.{Pruned, taken, emptied, count_at}
use Rattle.pv_walk.specs.Listing.{stands_at, stands_below}
use Rattle.pv_walk.specs.PostOrder.{must_go, DoesInPostOrder}
use Rattle.pv_walk.proofs.PostOrderLaws.{did_nothing, did_same, does_same, directory_test, must_go_is, must_go_none}
use Rattle.pv_walk.proofs.PublishLaws.{IsCleared, cleared-emptied, cleared-taken, moved_same, stage_same, yields_emptied, yields_taken}
use Rattle.pv_walk.specs.Removal.{is_below, is_directory_at, count_below, removal_at, Clearing}
use Rattle.pv_walk.proofs.ReplacingLaws.{clearing_none, clearing_below, clearing_taken}
use Rattle.pv_walk.proofs.SweepLaws.{below_prefix, count_below-le}
use Rattle.pv_walk.proofs.publishing.make_way.Goals as goal
use Rattle.pv_path.proofs.Tests.{on_ok}

pub returns-in-true-true-clause-acted : goal.returns-in-true-true-clause-acted
returns-in-true-true-clause-acted g c =
    let t = g.T.Tree.state c.args.tree.now in
    acted_weaken g.T.Tree (Pruned (is_below c.args.path.now) t) (Clearing c.args.path.now t) (Removes (is_below c.args.path.now)) (Removes (is_prefix c.args.path.now)) (count_below t c.args.path.now) (count_at t c.args.path.now)
    (clearing_below c.args.path.now t c.is_present.ensures.tree (c.in-true-true.ensures'.kind.0 refl)) (removes-wider (is_below c.args.path.now) (is_prefix c.args.path.now) (below_prefix c.args.path.now))
    (count_below-le t c.args.path.now) c.remove_below.ensures.acted

module _ (now : ℕ) (path stage : Path) (is : stage ≡ staging_of path) (nonempty : path ≢ []) (t u : Files) where
  cleared_staged : IsCleared now path (places t) (places u) → IsPresent t stage → IsPresent u stage
  cleared_staged clear present =
      subst (IsPresent u) (sym is) (ap is_some (stage_same now path nonempty (places t) (places u) clear) ∙ subst (IsPresent t) is present)

  cleared_moved : IsCleared now path (places t) (places u) → moved now stage path (places u) ≡ moved now stage path (places t)
  cleared_moved clear = subst (λ (p : Path). moved now p path (places u) ≡ moved now p path (places t)) (sym is) (moved_same now path nonempty (places t) (places u) clear)

  by_emptied : IsTree t → places u ≡ emptied now path t → IsCleared now path (places t) (places u)
  by_emptied tree e = subst (IsCleared now path (places t)) (sym e) (cleared-emptied now path t tree)

  by_taken : IsPresent t path → places u ≡ taken now path (places t) → IsCleared now path (places t) (places u)
  by_taken present e = subst (IsCleared now path (places t)) (sym e) (cleared-taken now path t present)

  emptied_yields : IsTree t → IsKind Directory t stage → IsKind Directory t path → places u ≡ emptied now path t → Yields (places u) stage path
  emptied_yields tree staged old e =
      subst (λ (p : Path). Yields (places u) p path) (sym is)
      (subst (λ (x : Places). Yields x (staging_of path) path) (sym e) (yields_emptied now path nonempty t tree (subst (IsKind Directory t) is staged) old))

  taken_yields : IsTree t → IsPresent t path → places u ≡ taken now path (places t) → Yields (places u) stage path
  taken_yields tree present e =
      subst (λ (p : Path). Yields (places u) p path) (sym is)
      (subst (λ (x : Places). Yields x (staging_of path) path) (sym e) (yields_taken now path nonempty t tree present))

pub returns-in-true-true-clause-yields : goal.returns-in-true-true-clause-yields
returns-in-true-true-clause-yields g c =
    on_ok c.remove_below.result
    (emptied_yields c.args.now c.args.path.now c.args.stage.now c.requires.stage c.requires.not_root (g.T.Tree.state c.args.tree.now) (g.T.Tree.state c.remove_below.new.tree) c.is_present.ensures.tree (c.in-true-true.ensures.kind.0 refl) (c.in-true-true.ensures'.kind.0 refl))
    c.remove_below.ensures.emptied

pub returns-in-true-true-clause-same : goal.returns-in-true-true-clause-same
returns-in-true-true-clause-same g c =
    on_ok c.remove_below.result
    (λ e. cleared_moved c.args.now c.args.path.now c.args.stage.now c.requires.stage c.requires.not_root (g.T.Tree.state c.args.tree.now) (g.T.Tree.state c.remove_below.new.tree) (by_emptied c.args.now c.args.path.now c.args.stage.now c.requires.stage c.requires.not_root (g.T.Tree.state c.args.tree.now) (g.T.Tree.state c.remove_below.new.tree) c.is_present.ensures.tree e))
    c.remove_below.ensures.emptied

pub returns-in-true-true-clause-staged : goal.returns-in-true-true-clause-staged
returns-in-true-true-clause-staged g c =
    on_ok c.remove_below.result
    (λ e. cleared_staged c.args.now c.args.path.now c.args.stage.now c.requires.stage c.requires.not_root (g.T.Tree.state c.args.tree.now) (g.T.Tree.state c.remove_below.new.tree) (by_emptied c.args.now c.args.path.now c.args.stage.now c.requires.stage c.requires.not_root (g.T.Tree.state c.args.tree.now) (g.T.Tree.state c.remove_below.new.tree) c.is_present.ensures.tree e) c.requires.staged)
    c.remove_below.ensures.emptied

pub returns-in-true-false-clause-yields : goal.returns-in-true-false-clause-yields
returns-in-true-false-clause-yields g c =
    on_ok c.take_away.result
    (taken_yields c.args.now c.args.path.now c.args.stage.now c.requires.stage c.requires.not_root (g.T.Tree.state c.args.tree.now) (g.T.Tree.state c.take_away.new.tree) c.is_present.ensures.tree (sym c.is_present.ensures.present ∙ c.if-not-is_present.false))
    c.take_away.ensures.taken

pub returns-in-true-false-clause-same : goal.returns-in-true-false-clause-same
returns-in-true-false-clause-same g c =
    on_ok c.take_away.result
    (λ e. cleared_moved c.args.now c.args.path.now c.args.stage.now c.requires.stage c.requires.not_root (g.T.Tree.state c.args.tree.now) (g.T.Tree.state c.take_away.new.tree) (by_taken c.args.now c.args.path.now c.args.stage.now c.requires.stage c.requires.not_root (g.T.Tree.state c.args.tree.now) (g.T.Tree.state c.take_away.new.tree) (sym c.is_present.ensures.present ∙ c.if-not-is_present.false) e))
    c.take_away.ensures.taken

pub returns-in-true-false-clause-staged : goal.returns-in-true-false-clause-staged
returns-in-true-false-clause-staged g c =
    on_ok c.take_away.result
    (λ e. cleared_staged c.args.now c.args.path.now c.args.stage.now c.requires.stage c.requires.not_root (g.T.Tree.state c.args.tree.now) (g.T.Tree.state c.take_away.new.tree) (by_taken c.args.now c.args.path.now c.args.stage.now c.requires.stage c.requires.not_root (g.T.Tree.state c.args.tree.now) (g.T.Tree.state c.take_away.new.tree) (sym c.is_present.ensures.present ∙ c.if-not-is_present.false) e) c.requires.staged)
    c.take_away.ensures.taken

pub returns-in-false-true-clause-yields : goal.returns-in-false-true-clause-yields
returns-in-false-true-clause-yields g c =
    on_ok c.take_away-in-false-true.result
    (taken_yields c.args.now c.args.path.now c.args.stage.now c.requires.stage c.requires.not_root (g.T.Tree.state c.args.tree.now) (g.T.Tree.state c.take_away-in-false-true.new.tree) c.is_present.ensures.tree (sym c.is_present.ensures.present ∙ c.if-not-is_present.false))
    c.take_away-in-false-true.ensures.taken

pub returns-in-false-true-clause-same : goal.returns-in-false-true-clause-same
returns-in-false-true-clause-same g c =
    on_ok c.take_away-in-false-true.result
    (λ e. cleared_moved c.args.now c.args.path.now c.args.stage.now c.requires.stage c.requires.not_root (g.T.Tree.state c.args.tree.now) (g.T.Tree.state c.take_away-in-false-true.new.tree) (by_taken c.args.now c.args.path.now c.args.stage.now c.requires.stage c.requires.not_root (g.T.Tree.state c.args.tree.now) (g.T.Tree.state c.take_away-in-false-true.new.tree) (sym c.is_present.ensures.present ∙ c.if-not-is_present.false) e))
    c.take_away-in-false-true.ensures.taken

pub returns-in-false-true-clause-staged : goal.returns-in-false-true-clause-staged
returns-in-false-true-clause-staged g c =
    on_ok c.take_away-in-false-true.result
    (λ e. cleared_staged c.args.now c.args.path.now c.args.stage.now c.requires.stage c.requires.not_root (g.T.Tree.state c.args.tree.now) (g.T.Tree.state c.take_away-in-false-true.new.tree) (by_taken c.args.now c.args.path.now c.args.stage.now c.requires.stage c.requires.not_root (g.T.Tree.state c.args.tree.now) (g.T.Tree.state c.take_away-in-false-true.new.tree) (sym c.is_present.ensures.present ∙ c.if-not-is_present.false) e) c.requires.staged)
    c.take_away-in-false-true.ensures.taken

cleared_by_taking : {S A : Type 0} (tree : Ghosts S) (path stage : Path) → stage ≡ staging_of path → {now : ℕ} {a b : S} {r : Result A TreeFault} → IsPresent (tree.state a) path
    → (IsKind Directory (tree.state a) stage → IsKind Directory (tree.state a) path → ⊥) → ((IsKind Directory (tree.state a) stage → ⊥) → (IsKind Directory (tree.state a) path → ⊥) → ⊥)
    → Acted tree (Pruned (is_prefix path) (tree.state a)) (Removes (is_prefix path)) (count_at (tree.state a) path) now a b r
    → Acted tree (Clearing path (tree.state a)) (Removes (is_prefix path)) (count_at (tree.state a) path) now a b r
cleared_by_taking tree path stage is {a = a} present both neither =
    let t = tree.state a in
    acted_weaken tree (Pruned (is_prefix path) t) (Clearing path t) (Removes (is_prefix path)) (Removes (is_prefix path)) (count_at t path) (count_at t path)
    (clearing_taken path t present (λ x y. both (subst (IsKind Directory t) (sym is) x) y) (λ x y. neither (λ z. x (subst (IsKind Directory t) is z)) y)) (λ s h. h) (omega arith)

pub take_away-requires : goal.take_away-requires
take_away-requires g c = c.requires.not_root

pub take_away-requires-in-false-true : goal.take_away-requires-in-false-true
take_away-requires-in-false-true g c = c.requires.not_root

pub returns-in-true-false-clause-acted : goal.returns-in-true-false-clause-acted
returns-in-true-false-clause-acted g c =
    cleared_by_taking g.T.Tree c.args.path.now c.args.stage.now c.requires.stage (sym c.is_present.ensures.present ∙ c.if-not-is_present.false)
    (λ x y. let no : false ≡ true = c.in-true-false.ensures'.kind.1 y in cc) (λ x y. x (c.in-true-false.ensures.kind.0 refl)) c.take_away.ensures.acted

pub returns-in-false-true-clause-acted : goal.returns-in-false-true-clause-acted
returns-in-false-true-clause-acted g c =
    cleared_by_taking g.T.Tree c.args.path.now c.args.stage.now c.requires.stage (sym c.is_present.ensures.present ∙ c.if-not-is_present.false)
    (λ x y. let no : false ≡ true = c.in-false-true.ensures.kind.1 x in cc) (λ x y. y (c.in-false-true.ensures'.kind.0 refl)) c.take_away-in-false-true.ensures.acted

untouched : {S A : Type 0} (tree : Ghosts S) → Moves tree → (path : Path) (now : ℕ) (a : S) (r : Result A TreeFault) → refused r ≡ 0
    → Acted tree (Clearing path (tree.state a)) (Removes (is_prefix path)) (count_at (tree.state a) path) now a a r
untouched tree moves path now a r none =
    acted_none tree moves (Clearing path (tree.state a)) (Removes (is_prefix path)) (count_at (tree.state a) path) now a r none (clearing_none path (tree.state a))

pub returns-then-not-is_present-clause-acted : goal.returns-then-not-is_present-clause-acted
returns-then-not-is_present-clause-acted g c =
    let moves : Moves g.T.Tree = record { stays = g.met.T.Tree.reaches_self; goes_on = g.met.T.Tree.reaches_on; never_falls = g.met.T.Tree.never_falls } in
    untouched g.T.Tree moves c.args.path.now c.args.now c.args.tree.now well refl

pub returns-in-false-false-clause-acted : goal.returns-in-false-false-clause-acted
returns-in-false-false-clause-acted g c =
    let moves : Moves g.T.Tree = record { stays = g.met.T.Tree.reaches_self; goes_on = g.met.T.Tree.reaches_on; never_falls = g.met.T.Tree.never_falls } in
    untouched g.T.Tree moves c.args.path.now c.args.now c.args.tree.now well refl

pub returns-then-not-is_present-clause-same : goal.returns-then-not-is_present-clause-same
returns-then-not-is_present-clause-same g c = refl

pub returns-then-not-is_present-clause-staged : goal.returns-then-not-is_present-clause-staged
returns-then-not-is_present-clause-staged g c = c.requires.staged

pub returns-in-false-false-clause-same : goal.returns-in-false-false-clause-same
returns-in-false-false-clause-same g c = refl

pub returns-in-false-false-clause-staged : goal.returns-in-false-false-clause-staged
returns-in-false-false-clause-staged g c = c.requires.staged

-- what a look at the staging name has answered
staged_test : (t : Files) (stage path : Path) → stage ≡ staging_of path → (b : Bool) → IsTrue b ↔ IsKind Directory t stage → b ≡ is_directory_at (places t) (staging_of path)
staged_test t stage path is b test = directory_test t stage b test ∙ ap (is_directory_at (places t)) is

pub returns-then-not-is_present-clause-order : goal.returns-then-not-is_present-clause-order
returns-then-not-is_present-clause-order g c = DoesInPostOrder.nothing refl

pub returns-then-not-is_present-clause-whole : goal.returns-then-not-is_present-clause-whole
returns-then-not-is_present-clause-whole g c =
    let t = g.T.Tree.state c.args.tree.now in
    did_nothing (must_go t c.args.path.now) (removal_at t) (g.T.Tree.steps c.args.tree.now)
    (must_go_none t c.args.path.now c.is_present.ensures.tree (sym c.is_present.ensures.present ∙ c.if-not-is_present.true))

pub returns-in-false-false-clause-order : goal.returns-in-false-false-clause-order
returns-in-false-false-clause-order g c = DoesInPostOrder.nothing refl

pub returns-in-false-false-clause-whole : goal.returns-in-false-false-clause-whole
returns-in-false-false-clause-whole g c =
    let t = g.T.Tree.state c.args.tree.now in
    let path = c.args.path.now in
    did_nothing (must_go t path) (removal_at t) (g.T.Tree.steps c.args.tree.now)
    (must_go_is t path false false (staged_test t c.args.stage.now path c.requires.stage false c.in-false-false.ensures.kind) (directory_test t path false c.in-false-false.ensures'.kind))

pub returns-in-true-true-clause-order : goal.returns-in-true-true-clause-order
returns-in-true-true-clause-order g c =
    let t = g.T.Tree.state c.args.tree.now in
    let path = c.args.path.now in
    does_same (stands_below t path) (must_go t path)
    (must_go_is t path true true (staged_test t c.args.stage.now path c.requires.stage true c.in-true-true.ensures.kind) (directory_test t path true c.in-true-true.ensures'.kind))
    (removal_at t) (g.T.Tree.steps c.args.tree.now) (g.T.Tree.steps c.remove_below.new.tree) c.remove_below.ensures.order

pub returns-in-true-true-clause-whole : goal.returns-in-true-true-clause-whole
returns-in-true-true-clause-whole g c =
    let t = g.T.Tree.state c.args.tree.now in
    let path = c.args.path.now in
    on_ok c.remove_below.result
    (did_same (stands_below t path) (must_go t path)
    (must_go_is t path true true (staged_test t c.args.stage.now path c.requires.stage true c.in-true-true.ensures.kind) (directory_test t path true c.in-true-true.ensures'.kind))
    (removal_at t) (g.T.Tree.steps c.args.tree.now) (g.T.Tree.steps c.remove_below.new.tree))
    c.remove_below.ensures.whole

pub returns-in-true-false-clause-order : goal.returns-in-true-false-clause-order
returns-in-true-false-clause-order g c =
    let t = g.T.Tree.state c.args.tree.now in
    let path = c.args.path.now in
    does_same (stands_at t path) (must_go t path)
    (must_go_is t path true false (staged_test t c.args.stage.now path c.requires.stage true c.in-true-false.ensures.kind) (directory_test t path false c.in-true-false.ensures'.kind))
    (removal_at t) (g.T.Tree.steps c.args.tree.now) (g.T.Tree.steps c.take_away.new.tree) c.take_away.ensures.order

pub returns-in-true-false-clause-whole : goal.returns-in-true-false-clause-whole
returns-in-true-false-clause-whole g c =
    let t = g.T.Tree.state c.args.tree.now in
    let path = c.args.path.now in
    on_ok c.take_away.result
    (did_same (stands_at t path) (must_go t path)
    (must_go_is t path true false (staged_test t c.args.stage.now path c.requires.stage true c.in-true-false.ensures.kind) (directory_test t path false c.in-true-false.ensures'.kind))
    (removal_at t) (g.T.Tree.steps c.args.tree.now) (g.T.Tree.steps c.take_away.new.tree))
    c.take_away.ensures.whole

pub returns-in-false-true-clause-order : goal.returns-in-false-true-clause-order
returns-in-false-true-clause-order g c =
    let t = g.T.Tree.state c.args.tree.now in
    let path = c.args.path.now in
    does_same (stands_at t path) (must_go t path)
    (must_go_is t path false true (staged_test t c.args.stage.now path c.requires.stage false c.in-false-true.ensures.kind) (directory_test t path true c.in-false-true.ensures'.kind))
    (removal_at t) (g.T.Tree.steps c.args.tree.now) (g.T.Tree.steps c.take_away-in-false-true.new.tree) c.take_away-in-false-true.ensures.order

pub returns-in-false-true-clause-whole : goal.returns-in-false-true-clause-whole
returns-in-false-true-clause-whole g c =
    let t = g.T.Tree.state c.args.tree.now in
    let path = c.args.path.now in
    on_ok c.take_away-in-false-true.result
    (did_same (stands_at t path) (must_go t path)
    (must_go_is t path false true (staged_test t c.args.stage.now path c.requires.stage false c.in-false-true.ensures.kind) (directory_test t path true c.in-false-true.ensures'.kind))
    (removal_at t) (g.T.Tree.steps c.args.tree.now) (g.T.Tree.steps c.take_away-in-false-true.new.tree))
    c.take_away-in-false-true.ensures.whole

pub returns-in-false-false-clause-tree : goal.returns-in-false-false-clause-tree
returns-in-false-false-clause-tree g c = g.met.T.Tree.is_tree c.args.tree.now

pub returns-in-false-true-clause-tree : goal.returns-in-false-true-clause-tree
returns-in-false-true-clause-tree g c = g.met.T.Tree.is_tree c.args.tree.now

pub returns-in-true-false-clause-tree : goal.returns-in-true-false-clause-tree
returns-in-true-false-clause-tree g c = g.met.T.Tree.is_tree c.args.tree.now

pub returns-in-true-true-clause-tree : goal.returns-in-true-true-clause-tree
returns-in-true-true-clause-tree g c = g.met.T.Tree.is_tree c.args.tree.now

pub returns-then-not-is_present-clause-tree : goal.returns-then-not-is_present-clause-tree
returns-then-not-is_present-clause-tree g c = g.met.T.Tree.is_tree c.args.tree.now
