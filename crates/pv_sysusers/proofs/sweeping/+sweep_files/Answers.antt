use Rattle.std.proofs.Common.{◌≡◌, ◌+◌, refl, sym, ap, subst, ◌∙◌, arith, map, List}
use Rattle.std.specs.List.{AllByRecursion}
use Rattle.pv_path.specs.Paths.{Path, staging_of}
use Rattle.pv_steps.specs.Trees.{IsAbsentIn, places}
use Rattle.pv_steps.specs.Content.{Removes}
use Rattle.pv_steps.proofs.ActingLaws.{Moves, well, acted_none, acted_within, acted_passed, acted_end}
use Rattle.pv_walk.specs.Edits.{Pruned, all_taken, count_at}
use Rattle.pv_walk.specs.Staging.{count_at_all, is_under_any}
use Rattle.pv_walk.proofs.SweepLaws.{pruned-none}
use Rattle.pv_sysusers.specs.FileWriting.{IsSweptPath, swept_names}
use Rattle.pv_sysusers.proofs.ActedLaws.{fewer, others, parted}
use Rattle.pv_sysusers.proofs.SweepingLaws.{absent_stays, count_fewer, count_first, swept_then}
use Rattle.pv_sysusers.proofs.sweeping.+sweep_files.Goals as goal
use Rattle.pv_path.proofs.Tests.{on_ok}

pub returns-in-empty-clause-acted : goal.returns-in-empty-clause-acted
returns-in-empty-clause-acted g t c =
    let moves : Moves g.T.Tree = record { stays = g.met.T.Tree.reaches_self; goes_on = g.met.T.Tree.reaches_on; never_falls = g.met.T.Tree.never_falls } in
    let s = g.T.Tree.state c.args.tree.now in
    acted_none g.T.Tree moves (Pruned (is_under_any swept_names) s) (Removes (is_under_any swept_names)) (count_at_all s (map staging_of c.args.paths.now)) c.args.now c.args.tree.now well refl (pruned-none (is_under_any swept_names) s)

pub returns-in_err-sweep_file-in-len1-up-clause-acted : goal.returns-in_err-sweep_file-in-len1-up-clause-acted
returns-in_err-sweep_file-in-len1-up-clause-acted g t c =
    let xs = c.args.paths.now in
    let s = g.T.Tree.state c.args.tree.now in
    let path = c.path-item.result in
    let split = parted xs path c.path-item.is c.in-len1-up.len_at_least in
    let count : count_at_all s (map staging_of xs) ≡ count_at s (staging_of path) + count_at_all s (map staging_of (others xs)) = ap (λ (ys : List Path). count_at_all s (map staging_of ys)) split ∙ count_first s (staging_of path) (map staging_of (others xs)) in
    acted_passed g.T.Tree c.sweep_file.result c.from_residual.result c.in_err-sweep_file-in-len1-up.was c.from_residual.ensures.1
    (acted_within g.T.Tree (count_at s (staging_of path)) (count_at_all s (map staging_of xs)) (omega (arith, count)) c.sweep_file.ensures.acted)

pub sweep_files-requires : goal.sweep_files-requires
sweep_files-requires g t c κs within =
    let xs = c.args.paths.now in
    let split = parted xs c.path-item.result c.path-item.is c.in-len1-up.len_at_least in
    let all = subst (AllByRecursion IsSweptPath) split c.requires.paths in
    let lt = fewer xs c.path-item.result split in
    (omega (arith, lt, c.decreases), (within, (all.1, c.in_ok-sweep_file-in-len1-up.ensures.above)))

pub returns-in_ok-sweep_file-in-len1-up-clause-acted : goal.returns-in_ok-sweep_file-in-len1-up-clause-acted
returns-in_ok-sweep_file-in-len1-up-clause-acted g t c =
    let moves : Moves g.T.Tree = record { stays = g.met.T.Tree.reaches_self; goes_on = g.met.T.Tree.reaches_on; never_falls = g.met.T.Tree.never_falls } in
    let xs = c.args.paths.now in
    let s = g.T.Tree.state c.args.tree.now in
    let u = g.T.Tree.state c.sweep_file.new.tree in
    let path = c.path-item.result in
    let split = parted xs path c.path-item.is c.in-len1-up.len_at_least in
    let count : count_at_all s (map staging_of xs) ≡ count_at s (staging_of path) + count_at_all s (map staging_of (others xs)) = ap (λ (ys : List Path). count_at_all s (map staging_of ys)) split ∙ count_first s (staging_of path) (map staging_of (others xs)) in
    let pruned = acted_end g.T.Tree (Pruned (is_under_any swept_names) s) (Removes (is_under_any swept_names)) c.in_ok-sweep_file-in-len1-up.ensures.acted in
    let le = count_fewer (is_under_any swept_names) s u pruned (map staging_of (others xs)) in
    acted_within g.T.Tree (count_at s (staging_of path) + count_at_all s (map staging_of (others xs))) (count_at_all s (map staging_of xs)) (omega (arith, count))
    (swept_then g.T.Tree moves le c.in_ok-sweep_file-in-len1-up.ensures.acted c.sweep_files.ensures.acted)

pub returns-in_ok-sweep_file-in-len1-up-clause-ok : goal.returns-in_ok-sweep_file-in-len1-up-clause-ok
returns-in_ok-sweep_file-in-len1-up-clause-ok g t c =
    let xs = c.args.paths.now in
    let s = places (g.T.Tree.state c.args.tree.now) in
    let split = parted xs c.path-item.result c.path-item.is c.in-len1-up.len_at_least in
    on_ok c.sweep_files.result (λ e. e ∙ ap (all_taken c.args.now (map staging_of (others xs))) c.in_ok-sweep_file-in-len1-up.ensures.ok
    ∙ sym (ap (λ (ys : List Path). all_taken c.args.now (map staging_of ys) s) split)) c.sweep_files.ensures.ok

pub returns-in_ok-sweep_file-in-len1-up-clause-free : goal.returns-in_ok-sweep_file-in-len1-up-clause-free
returns-in_ok-sweep_file-in-len1-up-clause-free g t c =
    let xs = c.args.paths.now in
    let u = g.T.Tree.state c.sweep_file.new.tree in
    let v = g.T.Tree.state c.sweep_files.new.tree in
    let split = parted xs c.path-item.result c.path-item.is c.in-len1-up.len_at_least in
    let pruned = acted_end g.T.Tree (Pruned (is_under_any swept_names) u) (Removes (is_under_any swept_names)) c.sweep_files.ensures.acted in
    on_ok c.sweep_files.result (λ h. (
      h.0,
      subst (AllByRecursion (λ (p : Path). IsAbsentIn (places v) (staging_of p))) (sym split)
          (absent_stays (is_under_any swept_names) u v pruned (staging_of c.path-item.result) c.in_ok-sweep_file-in-len1-up.ensures.free, h.1),
    )) c.sweep_files.ensures.free
