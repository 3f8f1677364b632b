-- Laws of putting new texts of account files: the object at each moment, timestamps and staging names aside.
use Rattle.std.specs.Prelude.{◌≡◌, ◌≢◌, ℕ, ◌+◌, ◌*◌, ◌≤◌, Bool, true, false, cond, ◌||◌, List, [], ◌∷◌, ◌++◌, length, take, drop, fold, Option, Some, None, is_some, option_map, Result}
use Rattle.std.proofs.Common.{zero, suc, refl, sym, ap, subst, ◌∙◌, arith, inl, inr, ◌⊎◌}
use Rattle.std.specs.List.{AllByRecursion}
use Rattle.pv_path.specs.Paths.{Path, same_path, has_staging, staging_of}
use Rattle.pv_path.proofs.PathLaws.{is_prefix-refl, not_prefix_not_same}
use Rattle.pv_steps.specs.declared.node.Kind.TheVariants.{Directory, File}
use Rattle.pv_steps.specs.declared.object.Object.{Object}
use Rattle.pv_steps.specs.declared.step.Step.{Step}
use Rattle.pv_steps.specs.Objects.{object_state}
use Rattle.pv_steps.specs.Trees.{Files, Places, places, kind_of, IsKind, IsKindIn, IsPresent, IsAbsentIn, IsTreeIn}
use Rattle.pv_steps.specs.Content.{Removes}
use Rattle.pv_steps.specs.declared.tree.Tree.{Ghosts}
use Rattle.pv_steps.specs.declared.tree.TreeFault.{TreeFault}
use Rattle.pv_steps.specs.Acting.{Acted}
use Rattle.pv_steps.proofs.ActingLaws.{acted_weaken}
use Rattle.pv_steps.proofs.TreeLaws.{directory_above, kind_of-touched}
use Rattle.pv_steps.specs.Steps.{made, put_at}
use Rattle.pv_steps.specs.Same.{object_states, Same}
use Rattle.pv_walk.specs.Edits.{Pruned}
use Rattle.pv_walk.proofs.EditLaws.{path_cases, put_at-else, object_states-made, object_states-put_else, made-here, staging_outside, same-Pruned}
use Rattle.pv_walk.specs.Staging.{is_under_any, new_object}
use Rattle.pv_walk.specs.Preparing.{parent_file, with_parent}
use Rattle.pv_walk.specs.Putting as putting
use Rattle.pv_walk.specs.Putting.{IsPutting, Putting}
use Rattle.pv_walk.specs.Removal.{is_one_of}
use Rattle.pv_walk.proofs.PuttingLaws.{made-none, none_below}
use Rattle.pv_sysusers.specs.declared.edit.Edit.{Edit}
use Rattle.pv_sysusers.specs.Edits.{AreEdits, IsBeside, IsEdit, IsFree, IsOfSome, IsStaged, Published, PublishesEdit, StagesEdit, edited, most_edited, with_edit, with_published, with_staged}
use Rattle.pv_layers.specs.Places.{etc}
use Rattle.pv_sysusers.specs.FileWriting.{AccountWay, IsAccountStep, IsEditOf, IsStagedWhole, PutsDirectory, account_paths, directory_steps, most_directory, most_put, swept_names, with_directory}
use Rattle.pv_sysusers.proofs.MovingLaws.{not_parent}
use Rattle.pv_sysusers.proofs.StagingLaws.{HasRoom, object_states_all_staged, object_states_edits, published_first, stage_some, stage_up}
use Rattle.pv_path.proofs.Tests.{true_not_false}
use Rattle.pv_steps.proofs.ObjectLaws.{kind_of-same, is_some-same}

-- ---- kinds

pub no_directory : (o : Option Object) → (kind_of o ≡ None) ⊎ (kind_of o ≡ Some File) → kind_of o ≢ Some Directory
no_directory o (inl e) d = let no : None ≡ Some Directory = sym e ∙ d in cc
no_directory o (inr e) d = let no : Some File ≡ Some Directory = sym e ∙ d in cc

-- ---- the directory

module _ (now : ℕ) (t : Places) where
  abbrev put : Places
  put = made now etc (new_object parent_file now) t

  pub directory_object_states : (q : Path) → same_path etc q ≡ false → object_states (with_parent now t etc) q ≡ object_states t q
  directory_object_states q d = by (is_some (t etc))
    where
      by : (b : Bool) → object_states (cond b t put) q ≡ object_states t q
      by true = refl
      by false = object_states-made now etc (new_object parent_file now) t q ∙ object_states-put_else etc q (Some (new_object parent_file now)) t d

  pub directory_none : (q : Path) → same_path etc q ≡ false → IsAbsentIn t q → IsAbsentIn (with_parent now t etc) q
  directory_none q d none = by (is_some (t etc))
    where
      by : (b : Bool) → cond b t put q ≡ None
      by true = none
      by false = made-none now etc (new_object parent_file now) t q d none

pub parent_object_states : (now later : ℕ) (t u : Places) → ((q : Path) → has_staging q ≡ false → object_states t q ≡ object_states u q)
    → (q : Path) → has_staging q ≡ false → object_states (with_parent now t etc) q ≡ object_states (with_parent later u etc) q
parent_object_states now later t u same q plain =
    ap (λ b. object_states (cond b t (put now t)) q) (is_some-same (t etc) (u etc) (same etc refl)) ∙ by (is_some (u etc))
  where
    one : (b : Bool) (x y : Option Object) → option_map object_state x ≡ option_map object_state y
        → option_map object_state (cond b (Some (new_object parent_file now)) x) ≡ option_map object_state (cond b (Some (new_object parent_file later)) y)
    one true x y e = refl
    one false x y e = e

    by : (b : Bool) → object_states (cond b t (put now t)) q ≡ object_states (cond b u (put later u)) q
    by true = same q plain
    by false =
        object_states-made now etc (new_object parent_file now) t q ∙ one (same_path etc q) (t q) (u q) (same q plain)
        ∙ sym (object_states-made later etc (new_object parent_file later) u q)

-- ---- one edit beside the directory

module _ (c : Edit) (is : IsEdit c) where
  path_no_etc : same_path etc c.path ≡ false
  path_no_etc = ap (λ (p : Path). same_path p c.path) (sym is.parent) ∙ not_parent c.path c.path is.root (is_prefix-refl c.path)

  stage_no_etc : same_path etc (staging_of c.path) ≡ false
  stage_no_etc = ap (λ (p : Path). same_path p (staging_of c.path)) (sym (stage_up c is)) ∙ not_parent (staging_of c.path) (staging_of c.path) (stage_some c is) (is_prefix-refl (staging_of c.path))

  -- after the directory is put
  free_put : (now : ℕ) (t : Places) → IsFree t c → IsFree (with_parent now t etc) c
  free_put now t free = directory_none now t (staging_of c.path) stage_no_etc free

  file_put : (now : ℕ) (t : Places) → kind_of (t c.path) ≢ Some Directory → kind_of (with_parent now t etc c.path) ≢ Some Directory
  file_put now t file e = file (sym (kind_of-same (with_parent now t etc c.path) (t c.path) (directory_object_states now t c.path path_no_etc)) ∙ e)

  -- ---- room

  room : (t : Places) → IsTreeIn t → IsFree t c → kind_of (t c.path) ≢ Some Directory → HasRoom t c
  room t tree free file = record {
    free = λ rest. none_below t tree (staging_of c.path) rest free;
    leaf = λ n rest. by n rest (t (c.path ++ n ∷ rest)) refl;
  }
    where
      by : (n : List ℕ) (rest : Path) (o : Option Object) → t (c.path ++ n ∷ rest) ≡ o → t (c.path ++ n ∷ rest) ≡ None
      by n rest None e = e
      by n rest (Some x) e = absurd (file (directory_above t tree c.path n rest (ap is_some e)))

-- ---- all edits

-- no directory stands at the path of an edit
abbrev pub IsNoDirectory : Places → Edit → Type 0
IsNoDirectory t edit = kind_of (t edit.path) ≢ Some Directory

pub frees_put : (now : ℕ) (t : Places) (cs : List Edit) → AreEdits cs → AllByRecursion (IsFree t) cs → AllByRecursion (IsFree (with_parent now t etc)) cs
frees_put now t [] are free = tt
frees_put now t (c ∷ cs) are free = (free_put c are.0 now t free.0, frees_put now t cs are.1.1 free.1)

pub no_directories : (t : Places) (cs : List Edit) → AllByRecursion (IsEditOf t) cs → AllByRecursion (IsNoDirectory t) cs
no_directories t [] of = tt
no_directories t (c ∷ cs) of = (no_directory (t c.path) of.0.file, no_directories t cs of.1)

pub files_put : (now : ℕ) (t : Places) (cs : List Edit) → AreEdits cs → AllByRecursion (IsNoDirectory t) cs → AllByRecursion (IsNoDirectory (with_parent now t etc)) cs
files_put now t [] are file = tt
files_put now t (c ∷ cs) are file = (file_put c are.0 now t file.0, files_put now t cs are.1.1 file.1)

pub rooms : (t : Places) → IsTreeIn t → (cs : List Edit) → AreEdits cs → AllByRecursion (IsFree t) cs → AllByRecursion (IsNoDirectory t) cs → AllByRecursion (HasRoom t) cs
rooms t tree [] are free file = tt
rooms t tree (c ∷ cs) are free file = (room c are.0 t tree free.0 file.0, rooms t tree cs are.1.1 free.1 file.1)

-- ---- all staged

abbrev IsStagedIn : Places → Edit → Type 0
IsStagedIn t edit = IsKindIn File t (staging_of edit.path)

module _ (now : ℕ) where
  kept_staged : (c : Edit) (cs : List Edit) → AllByRecursion (IsBeside c) cs → (t : Places) → IsStagedIn t c → IsStagedIn (fold (with_staged now) t cs) c
  kept_staged c [] beside t is = is
  kept_staged c (d ∷ cs) beside t is =
      kept_staged c cs beside.1 (with_staged now t d)
      (kind_of-touched now (staging_of d.path) (put_at (staging_of d.path) (Some (edited now d)) t) (staging_of c.path)
      ∙ ap kind_of (put_at-else (staging_of d.path) (staging_of c.path) (Some (edited now d)) t (not_prefix_not_same (staging_of d.path) (staging_of c.path) beside.0.stages_back)) ∙ is)

  all_staged : (cs : List Edit) → AreEdits cs → (t : Places) → AllByRecursion (IsStagedIn (fold (with_staged now) t cs)) cs
  all_staged [] are t = tt
  all_staged (c ∷ cs) are t = (
    kept_staged c cs are.1.0 (with_staged now t c) (ap kind_of (made-here now (staging_of c.path) t (stage_some c are.0) (edited now c))),
    all_staged cs are.1.1 (with_staged now t c),
  )

  -- whole
  kept_whole : (c : Edit) (cs : List Edit) → AllByRecursion (IsBeside c) cs → (t : Places) → IsStagedWhole t c → IsStagedWhole (fold (with_staged now) t cs) c
  kept_whole c [] beside t is = is
  kept_whole c (d ∷ cs) beside t is =
      kept_whole c cs beside.1 (with_staged now t d)
      (object_states-made now (staging_of d.path) (edited now d) t (staging_of c.path)
      ∙ object_states-put_else (staging_of d.path) (staging_of c.path) (Some (edited now d)) t (not_prefix_not_same (staging_of d.path) (staging_of c.path) beside.0.stages_back) ∙ is)

  pub all_whole : (cs : List Edit) → AreEdits cs → (t : Places) → AllByRecursion (IsStagedWhole (fold (with_staged now) t cs)) cs
  all_whole [] are t = tt
  all_whole (c ∷ cs) are t = (
    kept_whole c cs are.1.0 (with_staged now t c) (ap (option_map object_state) (made-here now (staging_of c.path) t (stage_some c are.0) (edited now c))),
    all_whole cs are.1.1 (with_staged now t c),
  )

  both_staged : (x : Places) (cs : List Edit) → AllByRecursion (IsStagedIn x) cs → AllByRecursion (IsNoDirectory x) cs → AllByRecursion (IsStaged x) cs
  both_staged x [] staged file = tt
  both_staged x (c ∷ cs) staged file = (record { staged = staged.0; file = file.0 }, both_staged x cs staged.1 file.1)

  files_kept : (all cs : List Edit) → AreEdits all → AreEdits cs → (t : Places) → AllByRecursion (IsNoDirectory t) cs → AllByRecursion (IsNoDirectory (fold (with_staged now) t all)) cs
  files_kept all [] are of t file = tt
  files_kept all (c ∷ cs) are of t file = (
    λ e. file.0 (sym (kind_of-same (fold (with_staged now) t all c.path) (t c.path) (object_states_all_staged now all are t c.path of.0.plain)) ∙ e),
    files_kept all cs are of.1.1 t file.1,
  )

  pub are_staged : (cs : List Edit) → AreEdits cs → (t : Places) → AllByRecursion (IsNoDirectory t) cs → AllByRecursion (IsStaged (fold (with_staged now) t cs)) cs
  are_staged cs are t file = both_staged (fold (with_staged now) t cs) cs (all_staged cs are t) (files_kept cs cs are are t file)

  pub directory_kept : (cs : List Edit) → AreEdits cs → (t : Places) → kind_of (t etc) ≡ Some Directory → kind_of (fold (with_staged now) t cs etc) ≡ Some Directory
  directory_kept cs are t e = kind_of-same (fold (with_staged now) t cs etc) (t etc) (object_states_all_staged now cs are t etc refl) ∙ e

-- ---- on the way

pub drop_edits : (k : ℕ) (cs : List Edit) → AreEdits cs → AreEdits (drop k cs)
drop_edits zero cs are = are
drop_edits (suc k) [] are = tt
drop_edits (suc k) (c ∷ cs) are = drop_edits k cs are.1.1

-- where none is at its path, nothing is said of the others
none_yet : {P : Type 0} → 1 ≤ 0 → P
none_yet some = absurd (omega (arith, some))

module _ (edits : List Edit) (t : Files) where
  -- while the directory is put
  pub way_directory : 1 ≤ length edits → (u : Files) → Putting etc parent_file t u → AccountWay edits t u
  way_directory some u step = by (step etc refl)
    where
      by : IsPutting etc parent_file etc (object_states (places t) etc) (object_states (places u) etc) → AccountWay edits t u
      by (putting.kept e) = inl (λ q plain. one q (step q plain) e)
        where
          one : (q : Path) → IsPutting etc parent_file q (object_states (places t) q) (object_states (places u) q) → object_states (places u) etc ≡ object_states (places t) etc → object_states (places u) q ≡ object_states (places t) q
          one q (putting.kept h) e = h
          one q (putting.put here old new) e = ap (λ (p : Path). object_states (places u) p) here ∙ e ∙ ap (λ (p : Path). object_states (places t) p) (sym here)
      by (putting.put here old new) = inr (some, (zero, (λ q plain. one q (step q plain) (path_cases etc q), none_yet)))
        where
          none : (o : Option Object) → option_map object_state o ≡ None → is_some o ≡ false
          none None e = refl
          none (Some x) e = cc

          parent : (q : Path) → object_states (with_parent 0 (places t) etc) q ≡ object_states (put_at etc (Some (new_object parent_file 0)) (places t)) q
          parent q = ap (λ b. object_states (cond b (places t) (made 0 etc (new_object parent_file 0) (places t))) q) (none (places t etc) old) ∙ object_states-made 0 etc (new_object parent_file 0) (places t) q

          one : (q : Path) → IsPutting etc parent_file q (object_states (places t) q) (object_states (places u) q) → (etc ≡ q) ⊎ (same_path etc q ≡ false) → object_states (places u) q ≡ object_states (with_parent 0 (places t) etc) q
          one q h (inl same) = subst (λ (p : Path). object_states (places u) p ≡ object_states (with_parent 0 (places t) etc) p) same (new ∙ sym (parent etc))
          one q (putting.kept h) (inr d) = h ∙ sym (parent q ∙ object_states-put_else etc q (Some (new_object parent_file 0)) (places t) d)
          one q (putting.put here old new) (inr d) = absurd (true_not_false (same_path etc q) (ap (same_path etc) here) d)

  -- while files are staged
  pub way_staged : 1 ≤ length edits → (now : ℕ) (b u : Files) → places b ≡ with_parent now (places t) etc → Same b u → AccountWay edits t u
  way_staged some now b u is same = inr (
    some,
    (zero, (λ q plain. sym (same q plain) ∙ ap (λ (x : Places). object_states x q) is ∙ parent_object_states now 0 (places t) (places t) (λ p h. refl) q plain, none_yet)),
  )

  -- while they are published
  pub way_published : 1 ≤ length edits → (now : ℕ) (b c u : Files) → AreEdits edits → places b ≡ with_parent now (places t) etc → places c ≡ fold (with_staged now) (places b) edits
      → AllByRecursion (HasRoom (places b)) edits → Published now edits c u → AccountWay edits t u
  way_published some now b c u are is staged room first = inr (
    some,
    (
      first.0,
      (
        λ q plain.
            ap (λ (x : Places). object_states x q) reached
            ∙ object_states_all_staged now (drop first.0 edits) (drop_edits first.0 edits are) (fold (with_edit now) (places b) (take first.0 edits)) q plain
            ∙ object_states_edits now 0 (take first.0 edits) (places b) (with_parent 0 (places t) etc)
            (λ p h. ap (λ (x : Places). object_states x p) is ∙ parent_object_states now 0 (places t) (places t) (λ r g. refl) p h) q plain,
        λ some. subst (λ (x : Places). AllByRecursion (IsStagedWhole x) (drop first.0 edits)) (sym reached)
            (all_whole now (drop first.0 edits) (drop_edits first.0 edits are) (fold (with_edit now) (places b) (take first.0 edits))),
      ),
    ),
  )
    where
      reached : places u ≡ fold (with_staged now) (fold (with_edit now) (places b) (take first.0 edits)) (drop first.0 edits)
      reached = first.1 ∙ ap (λ (x : Places). fold (with_published now) x (take first.0 edits)) staged ∙ published_first now first.0 edits are (places b) room

  -- after what was staged before is taken away
  pub way_after : (s u : Files) → Same s t → AccountWay edits s u → AccountWay edits t u
  way_after s u same (inl h) = inl (λ q plain. h q plain ∙ same q plain)
  way_after s u same (inr h) = inr (
    h.0,
    (
      h.1.0,
      (
        λ q plain. h.1.1.0 q plain ∙ object_states_edits 0 0 (take h.1.0 edits) (with_parent 0 (places s) etc) (with_parent 0 (places t) etc)
            (parent_object_states 0 0 (places s) (places t) same) q plain,
        h.1.1.1,
      ),
    ),
  )

pub none_object_state : (a b : Option Object) → option_map object_state a ≡ option_map object_state b → a ≡ None → b ≡ None
none_object_state a None e none = refl
none_object_state a (Some x) e none = let no : None ≡ Some (object_state x) = ap (option_map object_state) (sym none) ∙ e in cc

-- where /etc was absent then, it was before
pub step_after : (edits : List Edit) (t s : Files) → Same s t → (step : Step) → IsAccountStep edits s step → IsAccountStep edits t step
step_after edits t s same step (IsAccountStep.sweeps h) = IsAccountStep.sweeps h
step_after edits t s same step (IsAccountStep.puts h) = IsAccountStep.puts (none_object_state (places s etc) (places t etc) (same etc refl) h.0, h.1)
step_after edits t s same step (IsAccountStep.stages h) = IsAccountStep.stages h
step_after edits t s same step (IsAccountStep.publishes h) = IsAccountStep.publishes h

-- ---- sweeping

plain_outside : (q : Path) → has_staging q ≡ false → is_under_any swept_names q ≡ false
plain_outside q plain = none swept_names (refl, (refl, (refl, (refl, (refl, tt)))))
  where
    none : (ps : List Path) → AllByRecursion (λ p. has_staging p ≡ true) ps → is_under_any ps q ≡ false
    none [] all = refl
    none (p ∷ ps) all = ap (λ b. b || is_under_any ps q) (staging_outside p all.0 q plain) ∙ none ps all.1

pub swept_same : (t u : Files) → Pruned (is_under_any swept_names) t u → Same u t
swept_same t u = same-Pruned (is_under_any swept_names) plain_outside t u

-- ---- where some text changes

pub with_some : (now : ℕ) (cs : List Edit) (t : Places) → 1 ≤ length cs → with_directory now cs t ≡ with_parent now t etc
with_some now [] t h = absurd (omega (arith, h))
with_some now (c ∷ cs) t h = refl

pub most_some : (cs : List Edit) (t : Places) → 1 ≤ length cs → most_put cs t ≡ directory_steps t + most_edited * length cs
most_some [] t h = absurd (omega (arith, h))
most_some (c ∷ cs) t h = refl

-- after sweeping the directory takes as many steps
pub directory_swept : (t u : Files) → Same u t → directory_steps (places u) ≡ directory_steps (places t)
directory_swept t u same = ap (λ b. cond {A = ℕ} b 0 most_directory) (is_some-same (places u etc) (places t etc) (same etc refl))

-- ---- calls

module _ {S : Type 0} (tree : Ghosts S) (edits : List Edit) {now : ℕ} (a : S) where
  pub directory_acted : {A : Type 0} {m : ℕ} {b : S} {r : Result A TreeFault} → 1 ≤ length edits → Acted tree (Putting etc parent_file (tree.state a)) (PutsDirectory (tree.state a)) m now a b r
      → Acted tree (AccountWay edits (tree.state a)) (IsAccountStep edits (tree.state a)) m now a b r
  directory_acted {m = m} some one = acted_weaken tree (Putting etc parent_file (tree.state a)) (AccountWay edits (tree.state a)) (PutsDirectory (tree.state a)) (IsAccountStep edits (tree.state a)) m m
      (way_directory edits (tree.state a) some) (λ s g. IsAccountStep.puts g) (omega arith) one

  pub staged_acted : {A : Type 0} {m : ℕ} {b c : S} {r : Result A TreeFault} → 1 ≤ length edits → places (tree.state b) ≡ with_parent now (places (tree.state a)) etc
      → Acted tree (Same (tree.state b)) (IsOfSome StagesEdit edits) m now b c r → Acted tree (AccountWay edits (tree.state a)) (IsAccountStep edits (tree.state a)) m now b c r
  staged_acted {m = m} {b = b} some is one = acted_weaken tree (Same (tree.state b)) (AccountWay edits (tree.state a)) (IsOfSome StagesEdit edits) (IsAccountStep edits (tree.state a)) m m
      (λ u h. way_staged edits (tree.state a) some now (tree.state b) u is h) (λ s g. IsAccountStep.stages g) (omega arith) one

  pub published_acted : {A : Type 0} {m : ℕ} (b : S) {c d : S} {r : Result A TreeFault} → 1 ≤ length edits → AreEdits edits → places (tree.state b) ≡ with_parent now (places (tree.state a)) etc
      → places (tree.state c) ≡ fold (with_staged now) (places (tree.state b)) edits → AllByRecursion (HasRoom (places (tree.state b))) edits
      → Acted tree (Published now edits (tree.state c)) (IsOfSome PublishesEdit edits) m now c d r → Acted tree (AccountWay edits (tree.state a)) (IsAccountStep edits (tree.state a)) m now c d r
  published_acted {m = m} b {c = c} some are is staged has one = acted_weaken tree (Published now edits (tree.state c)) (AccountWay edits (tree.state a)) (IsOfSome PublishesEdit edits) (IsAccountStep edits (tree.state a)) m m
      (λ u h. way_published edits (tree.state a) some now (tree.state b) (tree.state c) u are is staged has h) (λ s g. IsAccountStep.publishes g) (omega arith) one

  pub swept_acted : {A : Type 0} {m : ℕ} {b : S} {r : Result A TreeFault} → Acted tree (Pruned (is_under_any swept_names) (tree.state a)) (Removes (is_under_any swept_names)) m now a b r
      → Acted tree (AccountWay edits (tree.state a)) (IsAccountStep edits (tree.state a)) m now a b r
  swept_acted {m = m} one = acted_weaken tree (Pruned (is_under_any swept_names) (tree.state a)) (AccountWay edits (tree.state a)) (Removes (is_under_any swept_names)) (IsAccountStep edits (tree.state a)) m m
      (λ u h. inl (swept_same (tree.state a) u h)) (λ s g. IsAccountStep.sweeps g) (omega arith) one

  pub put_after : {A : Type 0} {m : ℕ} {b c : S} {r : Result A TreeFault} → Same (tree.state b) (tree.state a) → Acted tree (AccountWay edits (tree.state b)) (IsAccountStep edits (tree.state b)) m now b c r
      → Acted tree (AccountWay edits (tree.state a)) (IsAccountStep edits (tree.state a)) m now b c r
  put_after {m = m} {b = b} same one = acted_weaken tree (AccountWay edits (tree.state b)) (AccountWay edits (tree.state a)) (IsAccountStep edits (tree.state b)) (IsAccountStep edits (tree.state a)) m m
      (λ u h. way_after edits (tree.state a) (tree.state b) u same h) (step_after edits (tree.state a) (tree.state b) same) (omega arith) one

-- ---- what stands after sweeping

free_listed : (t : Places) (paths : List Path) → AllByRecursion (λ p. IsAbsentIn t (staging_of p)) paths → (path : Path) → is_one_of paths path ≡ true → IsAbsentIn t (staging_of path)
free_listed t [] free path h = cc
free_listed t (p ∷ paths) free path h = elim (path_cases p path) [
  | inl e ↦ ap (λ (q : Path). t (staging_of q)) (sym e) ∙ free.0
  | inr d ↦ free_listed t paths free.1 path (sym (ap (λ b. b || is_one_of paths path) d) ∙ h)
]

pub frees_swept : (s t : Places) (cs : List Edit) → AllByRecursion (IsEditOf s) cs → AllByRecursion (λ p. IsAbsentIn t (staging_of p)) (etc ∷ account_paths) → AllByRecursion (IsFree t) cs
frees_swept s t [] of free = tt
frees_swept s t (c ∷ cs) of free = (free_listed t account_paths free.1 c.path of.0.listed, frees_swept s t cs of.1 free)

pub files_swept : (t u : Files) → Same u t → (cs : List Edit) → AllByRecursion (IsEditOf (places t)) cs → AllByRecursion (IsEditOf (places u)) cs
files_swept t u same [] of = tt
files_swept t u same (c ∷ cs) of = (record { is = of.0.is; listed = of.0.listed; file = moved of.0.file }, files_swept t u same cs of.1)
  where
    kinds : kind_of (places u c.path) ≡ kind_of (places t c.path)
    kinds = kind_of-same (places u c.path) (places t c.path) (same c.path of.0.is.plain)

    moved : (kind_of (places t c.path) ≡ None) ⊎ (kind_of (places t c.path) ≡ Some File) → (kind_of (places u c.path) ≡ None) ⊎ (kind_of (places u c.path) ≡ Some File)
    moved (inl e) = inl (kinds ∙ e)
    moved (inr e) = inr (kinds ∙ e)

pub pass_swept : (t u : Files) → Same u t → (IsPresent t etc → IsKind Directory t etc) → IsPresent u etc → IsKind Directory u etc
pass_swept t u same pass there = kind_of-same (places u etc) (places t etc) (same etc refl) ∙ pass (sym (is_some-same (places u etc) (places t etc) (same etc refl)) ∙ there)
