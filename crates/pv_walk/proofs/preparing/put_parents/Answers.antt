use Rattle.std.proofs.Common.{◌≡◌, ◌≢◌, ◌⊎◌, [], ℕ, ◌+◌, ◌-◌, ◌*◌, ◌<◌, false, cond, Option, Some, None, is_some, Result, refl, inl, inr, sym, ap, subst, ◌∙◌, take, length, fold, arith}
use Rattle.std.specs.Prelude.{if◌then◌else◌}
use Rattle.pv_path.specs.Paths.{Path, has_staging, parent_of, staging_of}
use Rattle.pv_steps.specs.declared.node.Kind.TheVariants.{Directory}
use Rattle.pv_steps.specs.declared.object.Object.{Object}
use Rattle.pv_steps.specs.Trees.{places, IsAbsentIn, IsKind}
use Rattle.pv_steps.specs.declared.tree.Tree.{Ghosts}
use Rattle.pv_steps.specs.declared.tree.TreeFault.{TreeFault}
use Rattle.pv_steps.specs.Acting.{Acted}
use Rattle.pv_steps.proofs.ActingLaws.{Moves, well, no_memory, acted_none, acted_within, acted_passed, acted_ended}
use Rattle.pv_walk.specs.Staging.{can_stage, most_new}
use Rattle.pv_walk.specs.Putting.{Putting, IsPutStep}
use Rattle.pv_walk.specs.Preparing.{with_parent, parent_file, parent_count, IsAbove, Preparing, IsPrepareStep, kept}
use Rattle.pv_walk.proofs.PreparingLaws.{short_take, nonempty_take, above_take, next_parent, parented_next, parented_end, room_next, absent_parents, absent_parents-le, none_put, parent_acted, parent_directory, Parented}
use Rattle.pv_walk.proofs.preparing.put_parents.Goals as goal
use Rattle.pv_path.proofs.PathLaws.{is_prefix-take, has_staging-take, length-parent_of, parent_of-push}

pub put_parent-requires-clause-not_root : goal.put_parent-requires-clause-not_root
put_parent-requires-clause-not_root g c =
    let i = c.loop-name.name-index in
    let path = c.args.path.now in
    let next = next_parent c.args.path.now c.loop-name.place c.go_down.new.place (take c.saturating_sub.result c.names-names.result.now) c.loop-name.name-index c.name-item.result c.name-item.result c.loop-name.invariant.items c.loop-name.invariant.place refl c.name-item.is c.loop-name-test.true c.in_ok-go_down.ensures in
    let lt : i + 1 < length path = next.0 in
    subst (λ (p : Path). p ≢ []) (sym next.1) (nonempty_take (i + 1) path (omega arith) (omega arith))

pub put_parent-requires-clause-parent : goal.put_parent-requires-clause-parent
put_parent-requires-clause-parent g c =
    subst (λ (p : Path). IsKind Directory (g.T.Tree.state c.loop-name.tree) p)
    (sym (ap parent_of c.in_ok-go_down.ensures ∙ parent_of-push c.loop-name.place c.name-item.result ∙ c.loop-name.invariant.place))
    c.loop-name.invariant.parented.directory

pub put_parent-requires-clause-short : goal.put_parent-requires-clause-short
put_parent-requires-clause-short g c =
    let next = next_parent c.args.path.now c.loop-name.place c.go_down.new.place (take c.saturating_sub.result c.names-names.result.now) c.loop-name.name-index c.name-item.result c.name-item.result c.loop-name.invariant.items c.loop-name.invariant.place refl c.name-item.is c.loop-name-test.true c.in_ok-go_down.ensures in
    ap can_stage next.1 ∙ short_take (c.loop-name.name-index + 1) c.args.path.now c.requires.short

pub put_parent-requires-clause-unstaged : goal.put_parent-requires-clause-unstaged
put_parent-requires-clause-unstaged g c =
    let next = next_parent c.args.path.now c.loop-name.place c.go_down.new.place (take c.saturating_sub.result c.names-names.result.now) c.loop-name.name-index c.name-item.result c.name-item.result c.loop-name.invariant.items c.loop-name.invariant.place refl c.name-item.is c.loop-name-test.true c.in_ok-go_down.ensures in
    ap has_staging next.1 ∙ has_staging-take (c.loop-name.name-index + 1) c.args.path.now c.requires.unstaged

pub put_parent-requires-clause-free : goal.put_parent-requires-clause-free
put_parent-requires-clause-free g c =
    let i = c.loop-name.name-index in
    let path = c.args.path.now in
    let next = next_parent path c.loop-name.place c.go_down.new.place (take c.saturating_sub.result c.names-names.result.now) i c.name-item.result c.name-item.result c.loop-name.invariant.items c.loop-name.invariant.place refl c.name-item.is c.loop-name-test.true c.in_ok-go_down.ensures in
    let lt : i + 1 < length path = next.0 in
    subst (λ (p : Path). IsAbsentIn (places (g.T.Tree.state c.loop-name.tree)) (staging_of p)) (sym next.1)
    (c.loop-name.invariant.parented.swept (take (i + 1) path) (nonempty_take (i + 1) path (omega arith) (omega arith)) (is_prefix-take (i + 1) path))

pub returns-clause-here : goal.returns-clause-here
returns-clause-here g c = c.loop-name.invariant.parented.at

pub returns-clause-swept : goal.returns-clause-swept
returns-clause-swept g c = c.loop-name.invariant.parented.swept

pub returns-clause-ok : goal.returns-clause-ok
returns-clause-ok g c =
    c.loop-name.invariant.parented.here
    ∙ ap (fold (with_parent c.args.now) (places (g.T.Tree.state c.args.tree.now)))
    (parented_end c.args.path.now (take c.saturating_sub.result c.names-names.result.now) c.loop-name.name-index c.loop-name.invariant.items c.loop-name-test.false)

-- one parent more is put
parent_more : {S A : Type 0} (tree : Ghosts S) → Moves tree → (path p : Path) (i : ℕ) (lt : i + 1 < length path) → p ≡ take (i + 1) path → has_staging path ≡ false → {now : ℕ} {a b c : S} {r : Result A TreeFault}
    → Parented now path (tree.state a) i (tree.state b)
    → Acted tree (Preparing path (tree.state a)) (IsPrepareStep path (tree.state a)) (most_new * absent_parents path (tree.state a) i) now a b well
    → Acted tree (Putting p parent_file (tree.state b)) (IsPutStep p parent_file) (if is_some (places (tree.state b) p) then 0 else most_new) now b c r
    → Acted tree (Preparing path (tree.state a)) (IsPrepareStep path (tree.state a)) (most_new * absent_parents path (tree.state a) (i + 1)) now a c r
parent_more tree moves path p i lt is plain {now = now} {a = a} {b = b} before so_far last =
    let t = tree.state a in
    let room = room_next now path plain t i lt (tree.state b) before in
    let here : ◌≡◌ {A = ℕ} (cond (is_some (places (tree.state b) p)) 0 8) (cond (is_some (places (tree.state b) (take (i + 1) path))) 0 8) = ap (λ (q : Path). cond {A = ℕ} (is_some (places (tree.state b) q)) 0 8) is in
    acted_within tree (most_new * absent_parents path t i + (if is_some (places (tree.state b) p) then 0 else most_new)) (most_new * absent_parents path t (i + 1)) (omega (arith, room, here))
    (parent_acted path p (subst (λ (q : Path). IsAbove q path) (sym is) (above_take (i + 1) path lt)) tree moves (ap has_staging is ∙ has_staging-take (i + 1) path plain) (no_steps (places (tree.state b) p)) so_far last)
  where
    -- where something stands no step is done
    no_steps : (o : Option Object) → (o ≡ None) ⊎ ((if is_some o then 0 else most_new) ≡ 0)
    no_steps None = inl refl
    no_steps (Some x) = inr refl

pub returns-in_err-go_down-clause-acted : goal.returns-in_err-go_down-clause-acted
returns-in_err-go_down-clause-acted g c =
    let t = g.T.Tree.state c.args.tree.now in
    let path = c.args.path.now in
    let i = c.loop-name.name-index in
    acted_ended g.T.Tree c.from_residual-in_err-go_down.result (no_memory c.from_residual-in_err-go_down.result c.from_residual-in_err-go_down.ensures.1)
    (acted_within g.T.Tree (most_new * absent_parents path t i) (most_new * parent_count path t) (omega (arith, absent_parents-le path t i)) c.loop-name.invariant.acted)

pub returns-in_err-put_parent-clause-acted : goal.returns-in_err-put_parent-clause-acted
returns-in_err-put_parent-clause-acted g c =
    let moves : Moves g.T.Tree = record { stays = g.met.T.Tree.reaches_self; goes_on = g.met.T.Tree.reaches_on; never_falls = g.met.T.Tree.never_falls } in
    let t = g.T.Tree.state c.args.tree.now in
    let i = c.loop-name.name-index in
    let path = c.args.path.now in
    let next = next_parent path c.loop-name.place c.go_down.new.place (take c.saturating_sub.result c.names-names.result.now) i c.name-item.result c.name-item.result c.loop-name.invariant.items c.loop-name.invariant.place refl c.name-item.is c.loop-name-test.true c.in_ok-go_down.ensures in
    acted_passed g.T.Tree c.put_parent.result c.from_residual-in_err-put_parent.result c.in_err-put_parent.was c.from_residual-in_err-put_parent.ensures.1
    (acted_within g.T.Tree (most_new * absent_parents path t (i + 1)) (most_new * parent_count path t) (omega (arith, absent_parents-le path t (i + 1)))
    (parent_more g.T.Tree moves path c.go_down.new.place i next.0 next.1 c.requires.unstaged c.loop-name.invariant.parented c.loop-name.invariant.acted c.put_parent.ensures.acted))

pub loop-name-preserved : goal.loop-name-preserved
loop-name-preserved g c =
    let moves : Moves g.T.Tree = record { stays = g.met.T.Tree.reaches_self; goes_on = g.met.T.Tree.reaches_on; never_falls = g.met.T.Tree.never_falls } in
    let t = g.T.Tree.state c.args.tree.now in
    let u = g.T.Tree.state c.loop-name.tree in
    let i = c.loop-name.name-index in
    let path = c.args.path.now in
    let next = next_parent path c.loop-name.place c.go_down.new.place (take c.saturating_sub.result c.names-names.result.now) i c.name-item.result c.name-item.result c.loop-name.invariant.items c.loop-name.invariant.place refl c.name-item.is c.loop-name-test.true c.in_ok-go_down.ensures in
    record {
      items = c.loop-name.invariant.items;
      place = next.1;
      parented =
          parented_next c.args.now path c.requires.unstaged t i next.0 u c.loop-name.invariant.parented (g.T.Tree.state c.put_parent.new.tree)
          (c.in_ok-put_parent.ensures.ok ∙ ap (with_parent c.args.now (places u)) next.1);
      acted = parent_more g.T.Tree moves path c.go_down.new.place i next.0 next.1 c.requires.unstaged c.loop-name.invariant.parented c.loop-name.invariant.acted c.in_ok-put_parent.ensures.acted;
    }

pub returns-clause-acted : goal.returns-clause-acted
returns-clause-acted g c =
    let t = g.T.Tree.state c.args.tree.now in
    let path = c.args.path.now in
    let i = c.loop-name.name-index in
    acted_within g.T.Tree (most_new * absent_parents path t i) (most_new * parent_count path t) (omega (arith, absent_parents-le path t i)) c.loop-name.invariant.acted

pub loop-name-init : goal.loop-name-init
loop-name-init g c =
    let moves : Moves g.T.Tree = record { stays = g.met.T.Tree.reaches_self; goes_on = g.met.T.Tree.reaches_on; never_falls = g.met.T.Tree.never_falls } in
    let t = g.T.Tree.state c.args.tree.now in
    record {
      items = rw (c.saturating_sub.ensures, c.names-names.ensures.value) refl;
      place = c.root-place.ensures;
      parented = record { here = refl; directory = (g.met.T.Tree.is_tree c.args.tree.now).root; at = refl; pass = c.requires.pass; swept = c.requires.swept; ahead = λ k lt le. refl };
      acted = acted_none g.T.Tree moves (Preparing c.args.path.now t) (IsPrepareStep c.args.path.now t) 0 c.args.now c.args.tree.now well refl (λ q plain. kept refl);
    }

pub returns-clause-parent : goal.returns-clause-parent
returns-clause-parent g c =
    let path = c.args.path.now in
    let end : c.loop-name.name-index ≡ length path - 1 = omega (arith, c.loop-name-test.false, c.loop-name.auto.name-index-end, ap length c.loop-name.invariant.items, length-parent_of path) in
    subst (λ k. IsKind Directory (g.T.Tree.state c.loop-name.tree) (take k path)) end c.loop-name.invariant.parented.directory

pub returns-then-branch-clause-ok : goal.returns-then-branch-clause-ok
returns-then-branch-clause-ok g c =
    none_put c.args.now c.args.path.now c.requires.unstaged (g.T.Tree.state c.args.tree.now) c.has_parent.ensures.tree c.requires.pass c.requires.swept (sym c.in_ok-has_parent.ensures.present ∙ c.if-branch.true)

pub returns-then-branch-clause-parent : goal.returns-then-branch-clause-parent
returns-then-branch-clause-parent g c =
    parent_directory c.args.now c.args.path.now c.requires.unstaged (g.T.Tree.state c.args.tree.now) c.has_parent.ensures.tree c.requires.pass c.requires.swept (sym c.in_ok-has_parent.ensures.present ∙ c.if-branch.true)
