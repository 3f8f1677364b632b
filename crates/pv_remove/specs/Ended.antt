-- What removing and purging do, say and answer, and that a stopped one recovers (tmpfiles.d(5), r, R and D;
-- systemd-tmpfiles(8), --remove and --purge). Here `goes` tells which paths are removed.
use Rattle.std.specs.Prelude.{◌≡◌, ℕ, Bool, List, ◌++◌, length, map, take, Result, IfOk, IsErrOf, OnOk}
use Rattle.pv_steps.specs.declared.carried.Carried.{Carried}
use Rattle.pv_steps.specs.Courses.{carried_of}
use Rattle.pv_walk.specs.Edits.{Pruned}
use Rattle.pv_walk.specs.Whole.{count_of, AreDeepestFirst}
use Rattle.pv_path.specs.Paths.{Path}
use Rattle.pv_steps.specs.declared.step.Step.{Step}
use Rattle.pv_steps.specs.declared.tree.Tree.{Ghosts}
use Rattle.pv_steps.specs.declared.tree.TreeFault.{TreeFault}
use Rattle.pv_steps.specs.declared.tree.TreeFault.TheVariants.{Failed}
use Rattle.pv_steps.specs.Acting.{Acted, steps_done}
use Rattle.pv_steps.specs.Content.{Removes}
use Rattle.pv_steps.specs.Objects.{modified}
use Rattle.pv_steps.specs.Trees.{Files}
use Rattle.pv_steps.specs.Runs.{after_all}
use Rattle.pv_steps.specs.Same.{Same}
use Rattle.pv_table.specs.Removed.{files_without}
use Rattle.pv_text.specs.GivenMessages.{MessagesPart}
use Rattle.pv_walk.specs.Removal.{is_one_of, removal_at, DonePart}

-- Nothing is done, or the first steps of a list that removes all paths that go. Deeper paths come first, and those of
-- one depth are in byte order.
pub data TakesInOrder (goes : Path → Bool) (t : Files) (before behind : List Step) : Type 0 where
  nothing : behind ≡ before → TakesInOrder goes t before behind
  first : (paths : List Path) → ((q : Path) → is_one_of paths q ≡ goes q) → AreDeepestFirst paths → DonePart (map (removal_at t) paths) before behind → TakesInOrder goes t before behind

-- A phase removes the paths that go, and then gives some messages.
-- - If the answer is Ok, these paths are gone from the tree, with one step for each. All messages are given, and the
--   answer says whether something is unfinished.
-- - Whatever the answer is, the messages given are a prefix of these. If a step was refused, there are none.
-- - Whatever the answer is, each step removes a path that goes, deeper paths first, and those of one depth in byte
--   order.
pub record TakesAway {S : Type 0} (tree : Ghosts S) (goes : Path → Bool) (texts : List (List ℕ)) (unfinished : Bool)
    (now : ℕ) (old new : S) (before behind : List (List ℕ)) (r : Result Carried TreeFault) : Type 0 where
  pub ok : OnOk r (tree.state new ≡ files_without goes (modified now) (tree.state old))
  pub exact : OnOk r (length (steps_done tree old new) ≡ count_of goes (tree.state old))
  pub new_messages : OnOk r (behind ≡ before ++ texts)
  pub carried : IfOk r (λ c. c ≡ carried_of unfinished)
  pub part : MessagesPart texts before behind
  pub silent : IsErrOf r Failed → behind ≡ before
  pub acted : Acted tree (Pruned goes (tree.state old)) (Removes goes) (count_of goes (tree.state old)) now old new r
  pub order : TakesInOrder goes (tree.state old) (tree.steps old) (tree.steps new)

-- A run is stopped after any number n of its steps. Then a complete run over the tree at the stop, at any time,
-- leaves the same tree as one complete run from the start. `Same` leaves out timestamps and staging names.
abbrev pub Recovers : (ℕ → Files → Files) → ℕ → Files → List Step → Type 0
Recovers whole now t steps = (n later : ℕ) → Same (whole later (after_all t (take n steps) now)) (whole now t)
