use Rattle.std.proofs.lemmas.Result.{IfOk-from_err}
use Rattle.std.proofs.Common.{◌≡◌, ℕ, ◌+◌, ◌≤◌, ◌<◌, true, sym, ap, subst, ◌∙◌, List, [], ◌∷◌, ◌++◌, length, take, get_or, Some, Result, arith}
use Rattle.std.proofs.lemmas.List.{take_more, take_all}
use Rattle.pv_path.specs.Paths.{Path, is_prefix, last_name, staging_of}
use Rattle.pv_steps.specs.declared.tree.Tree.{Ghosts}
use Rattle.pv_steps.specs.declared.tree.TreeFault.{TreeFault}
use Rattle.pv_steps.specs.Acting.{Acted}
use Rattle.pv_steps.proofs.ActingLaws.{Moves, well, no_memory, acted_within, acted_passed, acted_ended, acted_end}
use Rattle.pv_steps.specs.Trees.{places}
use Rattle.pv_steps.specs.Content.{Removes}
use Rattle.pv_walk.specs.Edits.{Pruned, taken, all_taken, count_at}
use Rattle.pv_walk.specs.Staging.{staging_names, is_under_any, count_at_all, can_stage}
use Rattle.pv_walk.proofs.SweepLaws.{short_last, all_taken-more, count-more, count-le, under_any, pruned_count, length-staging_names}
use Rattle.pv_walk.proofs.Removing.{prune_then}
use Rattle.pv_walk.specs.Listing.{stands_at}
use Rattle.pv_walk.specs.PostOrder.{DidInPostOrder, DoesInPostOrder}
use Rattle.pv_walk.specs.Removal.{removal_at}
use Rattle.pv_walk.proofs.SweepOrderLaws.{did_then, does_then, took_next, takes_next, takes_here}
use Rattle.pv_walk.proofs.sweeping.sweep_each.Goals as goal

-- the place is one name longer
next_place : (path place next items : Path) (i : ℕ) (name : List ℕ) → items ≡ path → place ≡ take i path → name ≡ get_or items i name → i < length items → next ≡ place ++ name ∷ [] → next ≡ take (i + 1) path
next_place path place next items i name same at item lt is =
    is
    ∙ ap (λ (p : Path). p ++ name ∷ []) at
    ∙ ap (λ (n : List ℕ). take i path ++ n ∷ []) (item ∙ ap (λ (xs : Path). get_or xs i name) same)
    ∙ sym (take_more path i name (subst (λ (xs : Path). i < length xs) same lt))

within : (path items : Path) (i : ℕ) → items ≡ path → i < length items → i < length path
within path items i same lt = subst (λ (xs : Path). i < length xs) same lt

short_at : (path place next items : Path) (i : ℕ) (name : List ℕ) → items ≡ path → place ≡ take i path → name ≡ get_or items i name → i < length items → next ≡ place ++ name ∷ [] → can_stage path ≡ true
    → (last : List ℕ) → last_name next ≡ Some last → length last ≤ 250
short_at path place next items i name same at item lt is short last e =
    let whole : next ≡ take i path ++ name ∷ [] = is ∙ ap (λ (p : Path). p ++ name ∷ []) at in
    short_last path short i name (within path items i same lt) (item ∙ ap (λ (xs : Path). get_or xs i name) same) last (sym (ap last_name whole) ∙ e)

pub sweep_place-requires-clause-short : goal.sweep_place-requires-clause-short
sweep_place-requires-clause-short g c last e =
    short_at c.args.path.now c.loop-name.place c.go_down.new.place c.names-name-items.result.now c.loop-name.name-index c.name-item.result c.names-name-items.ensures.value c.loop-name.invariant.place c.name-item.is c.loop-name-test.true c.in_ok-go_down.ensures c.requires last e

-- it counts no more objects than stood there in the beginning
counted : {S A : Type 0} (tree : Ghosts S) (path next : Path) (i : ℕ) {m now : ℕ} {a b : S} {r : Result A TreeFault} → next ≡ take (i + 1) path → i < length path
    → Acted tree (Pruned (is_under_any (staging_names path)) (tree.state a)) (Removes (is_under_any (staging_names path))) m now a b r
    → count_at_all (tree.state a) (take i (staging_names path)) + count_at (tree.state b) (staging_of next) ≤ count_at_all (tree.state a) (take (i + 1) (staging_names path))
counted tree path next i {a = a} {b = b} is lt before =
    let t = tree.state a in
    let here = pruned_count (is_under_any (staging_names path)) t (tree.state b) (acted_end tree (Pruned (is_under_any (staging_names path)) t) (Removes (is_under_any (staging_names path))) before) (staging_of next) in
    let same : count_at t (staging_of next) ≡ count_at t (staging_of (take (i + 1) path)) = ap (λ (p : Path). count_at t (staging_of p)) is in
    omega (arith, here, same, count-more path t i lt)

-- one more staging name is swept
swept_more : {S A : Type 0} (tree : Ghosts S) → Moves tree → (path next : Path) (i : ℕ) {now : ℕ} {a b c : S} {r : Result A TreeFault} → next ≡ take (i + 1) path → i < length path
    → Acted tree (Pruned (is_under_any (staging_names path)) (tree.state a)) (Removes (is_under_any (staging_names path))) (count_at_all (tree.state a) (take i (staging_names path))) now a b well
    → Acted tree (Pruned (is_prefix (staging_of next)) (tree.state b)) (Removes (is_prefix (staging_of next))) (count_at (tree.state b) (staging_of next)) now b c r
    → Acted tree (Pruned (is_under_any (staging_names path)) (tree.state a)) (Removes (is_under_any (staging_names path))) (count_at_all (tree.state a) (take (i + 1) (staging_names path))) now a c r
swept_more tree moves path next i {a = a} {b = b} is lt before last =
    acted_within tree (count_at_all (tree.state a) (take i (staging_names path)) + count_at (tree.state b) (staging_of next)) (count_at_all (tree.state a) (take (i + 1) (staging_names path)))
    (counted tree path next i is lt before)
    (prune_then tree moves (is_under_any (staging_names path)) before (is_prefix (staging_of next)) (λ q e. under_any path i lt q (subst (λ (p : Path). is_prefix (staging_of p) q ≡ true) is e)) last)

pub returns-in_err-go_down-clause-acted : goal.returns-in_err-go_down-clause-acted
returns-in_err-go_down-clause-acted g c =
    let path = c.args.path.now in
    let t = g.T.Tree.state c.args.tree.now in
    acted_ended g.T.Tree c.from_residual.result (no_memory c.from_residual.result c.from_residual.ensures.1)
    (acted_within g.T.Tree (count_at_all t (take c.loop-name.name-index (staging_names path))) (count_at_all t (staging_names path)) (count-le path t c.loop-name.name-index) c.loop-name.invariant.acted)

pub returns-in_err-sweep_place-clause-acted : goal.returns-in_err-sweep_place-clause-acted
returns-in_err-sweep_place-clause-acted g c =
    let moves : Moves g.T.Tree = record { stays = g.met.T.Tree.reaches_self; goes_on = g.met.T.Tree.reaches_on; never_falls = g.met.T.Tree.never_falls } in
    let path = c.args.path.now in
    let t = g.T.Tree.state c.args.tree.now in
    let i = c.loop-name.name-index in
    let next = next_place path c.loop-name.place c.go_down.new.place c.names-name-items.result.now i c.name-item.result c.names-name-items.ensures.value c.loop-name.invariant.place c.name-item.is c.loop-name-test.true c.in_ok-go_down.ensures in
    let lt = within path c.names-name-items.result.now i c.names-name-items.ensures.value c.loop-name-test.true in
    acted_passed g.T.Tree c.sweep_place.result c.from_residual-in_err-sweep_place.result c.in_err-sweep_place.was c.from_residual-in_err-sweep_place.ensures.1
    (acted_within g.T.Tree (count_at_all t (take (i + 1) (staging_names path))) (count_at_all t (staging_names path)) (count-le path t (i + 1))
    (swept_more g.T.Tree moves path c.go_down.new.place i next lt c.loop-name.invariant.acted c.sweep_place.ensures.acted))

pub loop-name-preserved : goal.loop-name-preserved
loop-name-preserved g c =
    let moves : Moves g.T.Tree = record { stays = g.met.T.Tree.reaches_self; goes_on = g.met.T.Tree.reaches_on; never_falls = g.met.T.Tree.never_falls } in
    let path = c.args.path.now in
    let t = g.T.Tree.state c.args.tree.now in
    let i = c.loop-name.name-index in
    let next = next_place path c.loop-name.place c.go_down.new.place c.names-name-items.result.now i c.name-item.result c.names-name-items.ensures.value c.loop-name.invariant.place c.name-item.is c.loop-name-test.true c.in_ok-go_down.ensures in
    let lt = within path c.names-name-items.result.now i c.names-name-items.ensures.value c.loop-name-test.true in
    record {
      took = took_next path i lt t (g.T.Tree.steps c.args.tree.now) (g.T.Tree.steps c.loop-name.tree) (g.T.Tree.steps c.sweep_place.new.tree) c.loop-name.invariant.took
          (did_then path c.args.now t i lt (g.T.Tree.state c.loop-name.tree) c.loop-name.invariant.here (g.T.Tree.steps c.loop-name.tree) (g.T.Tree.steps c.sweep_place.new.tree)
          (subst (λ (p : Path). DidInPostOrder (stands_at (g.T.Tree.state c.loop-name.tree) (staging_of p)) (removal_at (g.T.Tree.state c.loop-name.tree)) (g.T.Tree.steps c.loop-name.tree) (g.T.Tree.steps c.sweep_place.new.tree)) next c.in_ok-sweep_place.ensures.whole));
      place = next;
      here =
          c.in_ok-sweep_place.ensures.taken
          ∙ ap (λ (p : Path). taken c.args.now (staging_of p) (places (g.T.Tree.state c.loop-name.tree))) next
          ∙ ap (taken c.args.now (staging_of (take (i + 1) path))) c.loop-name.invariant.here
          ∙ sym (all_taken-more path c.args.now i (places t) lt);
      acted = swept_more g.T.Tree moves path c.go_down.new.place i next lt c.loop-name.invariant.acted c.in_ok-sweep_place.ensures.acted;
    }

-- at the end all staging names are swept
whole : (path items : Path) (i : ℕ) → items ≡ path → length items ≤ i → take i (staging_names path) ≡ staging_names path
whole path items i same le = take_all i (staging_names path) (omega (arith, ap length same, length-staging_names path))

pub returns-clause-taken : goal.returns-clause-taken
returns-clause-taken g c =
    c.loop-name.invariant.here
    ∙ ap (λ (ps : List Path). all_taken c.args.now ps (places (g.T.Tree.state c.args.tree.now)))
    (whole c.args.path.now c.names-name-items.result.now c.loop-name.name-index c.names-name-items.ensures.value c.loop-name-test.false)

pub returns-clause-acted : goal.returns-clause-acted
returns-clause-acted g c =
    let path = c.args.path.now in
    let t = g.T.Tree.state c.args.tree.now in
    acted_within g.T.Tree (count_at_all t (take c.loop-name.name-index (staging_names path))) (count_at_all t (staging_names path)) (count-le path t c.loop-name.name-index) c.loop-name.invariant.acted

pub returns-in_err-go_down-clause-order : goal.returns-in_err-go_down-clause-order
returns-in_err-go_down-clause-order g c =
    takes_here c.args.path.now c.loop-name.name-index (g.T.Tree.state c.args.tree.now) (g.T.Tree.steps c.args.tree.now) (g.T.Tree.steps c.loop-name.tree) c.loop-name.invariant.took

pub returns-in_err-sweep_place-clause-order : goal.returns-in_err-sweep_place-clause-order
returns-in_err-sweep_place-clause-order g c =
    let path = c.args.path.now in
    let t = g.T.Tree.state c.args.tree.now in
    let u = g.T.Tree.state c.loop-name.tree in
    let i = c.loop-name.name-index in
    let next = next_place path c.loop-name.place c.go_down.new.place c.names-name-items.result.now i c.name-item.result c.names-name-items.ensures.value c.loop-name.invariant.place c.name-item.is c.loop-name-test.true c.in_ok-go_down.ensures in
    let lt = within path c.names-name-items.result.now i c.names-name-items.ensures.value c.loop-name-test.true in
    takes_next path i lt t (g.T.Tree.steps c.args.tree.now) (g.T.Tree.steps c.loop-name.tree) (g.T.Tree.steps c.sweep_place.new.tree) c.loop-name.invariant.took
    (does_then path c.args.now t i lt u c.loop-name.invariant.here (g.T.Tree.steps c.loop-name.tree) (g.T.Tree.steps c.sweep_place.new.tree)
    (subst (λ (p : Path). DoesInPostOrder (stands_at u (staging_of p)) (removal_at u) (g.T.Tree.steps c.loop-name.tree) (g.T.Tree.steps c.sweep_place.new.tree)) next c.sweep_place.ensures.order))

pub returns-clause-order : goal.returns-clause-order
returns-clause-order g c =
    takes_here c.args.path.now c.loop-name.name-index (g.T.Tree.state c.args.tree.now) (g.T.Tree.steps c.args.tree.now) (g.T.Tree.steps c.loop-name.tree) c.loop-name.invariant.took

pub returns-in_err-go_down-clause-taken : goal.returns-in_err-go_down-clause-taken
returns-in_err-go_down-clause-taken g c = IfOk-from_err c.from_residual.result _ c.from_residual.ensures.0

pub returns-in_err-sweep_place-clause-taken : goal.returns-in_err-sweep_place-clause-taken
returns-in_err-sweep_place-clause-taken g c = IfOk-from_err c.from_residual-in_err-sweep_place.result _ c.from_residual-in_err-sweep_place.ensures.0
