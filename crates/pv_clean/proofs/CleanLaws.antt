-- Laws of the clean phase: what it leaves, the steps it takes, and what one that was cut short has done.
use Rattle.std.specs.Prelude.{◌≡◌, ℕ, Bool, cond, List, [], ◌∷◌, ◌++◌, length, map, reverse, take, drop, Result, Ok, Err, OnOk}
use Rattle.std.proofs.Common.{refl, sym, ap, ◌∙◌, arith}
use Rattle.std.proofs.lemmas.List.{append-nil, take_at}
use Rattle.std.proofs.Math.Seq.{drop-append_seam}
use Rattle.pv_lines.specs.declared.line.Line.{Line}
use Rattle.pv_path.specs.Paths.{Path}
use Rattle.pv_path.proofs.Tests.{same_tests}
use Rattle.pv_steps.specs.declared.step.Step.{Step}
use Rattle.pv_steps.specs.declared.tree.Tree.{Ghosts}
use Rattle.pv_steps.specs.declared.tree.TreeFault.{TreeFault}
use Rattle.pv_steps.specs.Runs.{Ran, after_all}
use Rattle.pv_steps.specs.Trees.{Files}
use Rattle.pv_steps.specs.Trying.{TriedAll}
use Rattle.pv_walk.specs.Edits.{Pruned}
use Rattle.pv_walk.specs.PostOrder.{DoesInPostOrder}
use Rattle.pv_walk.specs.Removal.{is_one_of}
use Rattle.pv_walk.specs.Whole.{goes_whole}
use Rattle.pv_walk.proofs.OrderLaws.{map_reverse}
use Rattle.pv_walk.proofs.PathSetLaws.{one_of-reverse}
use Rattle.pv_walk.proofs.RemovalLaws.{cond-true}
use Rattle.pv_walk.proofs.TakingLaws.{one_of-counted, one_of-some}
use Rattle.pv_table.specs.Cleaned.{is_aged, may_go}
use Rattle.pv_table.proofs.GoingLaws.{goes_again, told_prefix}
use Rattle.pv_clean.specs.Cleaning.{clean_step, is_due, ArePlanned, TakesOnly}
use Rattle.pv_clean.proofs.AgeLaws.{goes_aged, took}

-- what is aged goes whole with what is aged
pub aged_together : (lines : List Line) (now : ℕ) (t : Files) (q : Path) → is_aged lines now t q ≡ goes_whole (is_aged lines now t) t q
aged_together lines now t q =
    sym (goes_aged lines now t q) ∙ sym (goes_again (may_go lines now t) t q)
    ∙ ap (λ (f : Path → Bool). goes_whole f t q) (λ i r. goes_aged lines now t r i)

module _ (goes : Path → Bool) (t : Files) where
  -- crash safety
  pub takes_only : (Q : Step → Type 0) (now : ℕ) (h : List Step) (u : Files) (k : List Step) → Ran (Pruned goes t) Q now t h u k → TakesOnly goes now t (drop (length h) k)
  takes_only Q now h u k run n q = took goes t (after_all t (take n (drop (length h) k)) now) q (told_prefix (Pruned goes t) Q now t h u k run n)

-- where all of some steps are done, they are what is recorded
pub tried_told : {S : Type 0} (tree : Ghosts S) (steps : List Step) (now : ℕ) (a b : S) (r : Result (Unit {0}) TreeFault) → TriedAll tree steps now a b r → OnOk r (drop (length (tree.steps a)) (tree.steps b) ≡ steps)
tried_told tree steps now a b r t = by r t.whole
  where
    by : (v : Result (Unit {0}) TreeFault) → OnOk v (t.left ≡ []) → OnOk v (drop (length (tree.steps a)) (tree.steps b) ≡ steps)
    by (Ok x) none =
        ap (drop (length (tree.steps a))) t.recorded ∙ drop-append_seam (tree.steps a) t.done
        ∙ sym (append-nil t.done) ∙ sym (ap (λ (l : List Step). t.done ++ l) none) ∙ t.parts
    by (Err e) h = h

-- ---- the order

-- the paths of a plan are those at which something is due
planned_due : (goes : Path → Bool) (t : Files) (steps : List Step) (plan : ArePlanned goes t steps) (q : Path) → is_one_of plan.paths q ≡ is_due goes t q
planned_due goes t steps plan q = same_tests (is_one_of plan.paths q) (is_due goes t q)
    (λ h. cond-true (is_due goes t q) (let some = one_of-some plan.paths q h in let once = plan.once q in omega (arith, some, once)))
    (λ h. one_of-counted plan.paths q (let one : cond {A = ℕ} (is_due goes t q) 1 0 ≡ 1 = ap (λ b. cond b 1 0) h in let once = plan.once q in omega (arith, one, once)))

-- the steps of a plan that were tried from its end are done in post-order
pub tried_in_order : {S : Type 0} (tree : Ghosts S) (goes : Path → Bool) (now : ℕ) (steps : List Step) (a b : S) (r : Result (Unit {0}) TreeFault)
    → ArePlanned goes (tree.state a) steps → TriedAll tree (reverse steps) now a b r
    → DoesInPostOrder (is_due goes (tree.state a)) (clean_step goes (tree.state a)) (tree.steps a) (tree.steps b)
tried_in_order tree goes now steps a b r plan t =
    let step = clean_step goes (tree.state a) in
    let all : t.done ++ t.left ≡ map step (reverse plan.paths) = t.parts ∙ ap (λ (ss : List Step). reverse ss) plan.are ∙ sym (map_reverse step plan.paths) in
    DoesInPostOrder.first (reverse plan.paths) (λ q. one_of-reverse plan.paths q ∙ planned_due goes (tree.state a) steps plan q) plan.in_post_order
    (length t.done, t.recorded ∙ ap (λ (ss : List Step). tree.steps a ++ ss) (sym (take_at t.done t.left (length t.done) refl) ∙ ap (take (length t.done)) all))
