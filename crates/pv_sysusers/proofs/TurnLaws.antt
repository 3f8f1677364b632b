-- Laws of staging account files in turn: the object at their staging names at each moment.
use Rattle.std.specs.Prelude.{◌≡◌, ◌⊎◌, ℕ, ◌+◌, ◌*◌, ◌≤◌, Bool, true, false, cond, not, ◌||◌, List, [], ◌∷◌, ◌++◌, length, take, drop, fold, Some, None, option_map, Result, Ok}
use Rattle.std.proofs.Common.{zero, suc, refl, sym, ap, subst, ◌∙◌, arith, inl, inr}
use Rattle.std.specs.List.{AllByRecursion}
use Rattle.std.proofs.lemmas.Bool.{and_parts}
use Rattle.pv_path.specs.Paths.{Path, is_prefix, parent_of, same_path, staging_of}
use Rattle.pv_path.proofs.PathLaws.{not_prefix_not_same, parent_of-push, path_ends, prefix_parts}
use Rattle.pv_steps.specs.declared.step.Step.{Step}
use Rattle.pv_steps.specs.declared.tree.Tree.{Ghosts}
use Rattle.pv_steps.specs.declared.tree.TreeFault.{TreeFault}
use Rattle.pv_steps.specs.Acting.{Acted}
use Rattle.pv_steps.specs.Objects.{object_state}
use Rattle.pv_steps.specs.Same.{object_states}
use Rattle.pv_steps.specs.Steps.{made}
use Rattle.pv_steps.specs.Trees.{Files, Places, places, IsAbsentIn, IsTree}
use Rattle.pv_steps.proofs.ActingLaws.{Moves, acted_end, acted_then, acted_weaken, acted_within}
use Rattle.pv_walk.specs.SettingMetadata.{SettingMetadata, GivesMetadata}
use Rattle.pv_walk.specs.Edits.{Pruned, SameOutside, cut}
use Rattle.pv_walk.specs.Nodes.{object_state_of}
use Rattle.pv_walk.proofs.MetadataLaws.{outside_setting_metadata}
use Rattle.pv_walk.proofs.EditLaws.{object_states-made, object_states-put_else, made-here}
use Rattle.pv_walk.specs.Making.{Beginning, held_object}
use Rattle.pv_walk.specs.Preparing.{parent_file}
use Rattle.pv_walk.specs.Putting.{IsPutStep}
use Rattle.pv_walk.specs.Removal.{is_below, Publishing}
use Rattle.pv_walk.specs.Stages.{IsAtStage}
use Rattle.pv_walk.specs.Staging.{GivesNew, IsPublishing, is_under_any, new_object}
use Rattle.pv_walk.specs.Listing.{is_child}
use Rattle.pv_walk.proofs.CountLaws.{is_child-push}
use Rattle.pv_walk.proofs.PublishLaws.{stage_outside}
use Rattle.pv_walk.proofs.PuttingLaws.{made-none}
use Rattle.pv_walk.proofs.PuttingOverLaws.{over_moved}
use Rattle.pv_walk.proofs.RemovalLaws.{is_below-child}
use Rattle.pv_walk.proofs.StageLaws.{begun_stage, setting_metadata_stage}
use Rattle.pv_sysusers.specs.declared.edit.Edit.{Edit}
use Rattle.pv_sysusers.specs.FileWriting.{IsAccountStep, IsStagedWhole, PutsDirectory, swept_names}
use Rattle.pv_sysusers.specs.Edits.{AreEdits, IsBeside, IsEdit, IsFree, IsOfSome, Published, PublishesEdit, StagesEdit, edited, most_staged, new_file, with_edit, with_published, with_staged}
use Rattle.pv_layers.specs.Places.{etc}
use Rattle.pv_sysusers.specs.Turns.{AreInTurn, InTurn, NoneComes, StagingOne, StagingSome, TurnWay, stages_of}
use Rattle.pv_sysusers.proofs.ActedLaws.{gives_metadata, gives_new}
use Rattle.pv_sysusers.proofs.FileWritingLaws.{all_whole, drop_edits, none_object_state}
use Rattle.pv_sysusers.proofs.DirectoryLaws.{etc_some}
use Rattle.pv_sysusers.proofs.StagingLaws.{HasRoom, object_states_all_staged, published_first, stage_some, stage_up}

-- ---- tests

left_false : (a b : Bool) → (a || b) ≡ false → a ≡ false
left_false true b h = h
left_false false b h = refl

right_false : (a b : Bool) → (a || b) ≡ false → b ≡ false
right_false true b h = absurd (let no : true ≡ false = h in cc)
right_false false b h = h

no_of : (b : Bool) → not b ≡ true → b ≡ false
no_of true h = sym h
no_of false h = refl

-- ---- in turn

-- where none is begun
pub free_turn : (u : Places) (cs : List Edit) → AllByRecursion (IsFree u) cs → AreInTurn cs u
free_turn u [] free = tt
free_turn u (c ∷ cs) free = inr (IsAtStage.none (ap (option_map object_state_of) free.0), free.1)

-- where all stand whole
pub whole_turn : (u : Places) (cs : List Edit) → AllByRecursion (IsStagedWhole u) cs → AreInTurn cs u
whole_turn u [] all = tt
whole_turn u (c ∷ cs) all = inl (inl all.0, whole_turn u cs all.1)

-- ---- one file

module _ (edit : Edit) (is : IsEdit edit) where
  one_begun : (t u : Files) → Beginning (staging_of edit.path) (new_file edit).what t u → StagingOne edit t u
  one_begun t u h = record {
    outside = λ q e. h.outside q (not_prefix_not_same (staging_of edit.path) q e);
    stages = begun_stage (staging_of edit.path) (new_file edit).what (object_state_of (edited 0 edit)) t u refl h;
  }

  one_with_metadata : (now : ℕ) (t u v : Files) → places u ≡ made now (staging_of edit.path) (held_object (new_file edit).what now) (places t) → StagingOne edit t u
      → SettingMetadata (staging_of edit.path) edit.metadata u v → StagingOne edit t v
  one_with_metadata now t u v held before h = record {
    outside = λ q e. outside_setting_metadata (staging_of edit.path) edit.metadata u v h q (not_prefix_not_same (staging_of edit.path) q e) ∙ before.outside q e;
    stages =
        setting_metadata_stage (staging_of edit.path) (object_state_of (edited 0 edit)) edit.metadata (held_object (new_file edit).what now) u v refl
        (ap (λ (x : Places). x (staging_of edit.path)) held ∙ made-here now (staging_of edit.path) (places t) (stage_some edit is) (held_object (new_file edit).what now)) refl h;
  }

-- nothing is done yet
pub one_start : (edit : Edit) (t : Files) → IsFree (places t) edit → StagingOne edit t t
one_start edit t free = record { outside = λ q e. refl; stages = IsAtStage.none (ap (option_map object_state_of) free) }

module _ {S : Type 0} (tree : Ghosts S) (edit : Edit) (is : IsEdit edit) {now : ℕ} {a b : S} where
  pub begun_acted : {A : Type 0} {r : Result A TreeFault} → Acted tree (Beginning (staging_of edit.path) (new_file edit).what (tree.state a)) (GivesNew (staging_of edit.path) (new_file edit)) 2 now a b r
      → Acted tree (StagingOne edit (tree.state a)) (StagesEdit edit) 2 now a b r
  begun_acted one =
      acted_weaken tree (Beginning (staging_of edit.path) (new_file edit).what (tree.state a)) (StagingOne edit (tree.state a)) (GivesNew (staging_of edit.path) (new_file edit)) (StagesEdit edit) 2 2
      (one_begun edit is (tree.state a)) (gives_new edit is) (omega arith) one

  pub one_acted : {A B : Type 0} {c : S} {x : A} {r : Result B TreeFault} → Moves tree
      → places (tree.state b) ≡ made now (staging_of edit.path) (held_object (new_file edit).what now) (places (tree.state a))
      → Acted tree (Beginning (staging_of edit.path) (new_file edit).what (tree.state a)) (GivesNew (staging_of edit.path) (new_file edit)) 2 now a b (Ok x)
      → Acted tree (SettingMetadata (staging_of edit.path) edit.metadata (tree.state b)) (GivesMetadata (staging_of edit.path) edit.metadata (tree.state b)) 5 now b c r
      → Acted tree (StagingOne edit (tree.state a)) (StagesEdit edit) most_staged now a c r
  one_acted moves held one more =
      let before = begun_acted one in
      acted_within tree (2 + 5) most_staged (omega arith)
      (acted_then tree moves (StagingOne edit (tree.state a)) (StagesEdit edit) before
      (acted_weaken tree (SettingMetadata (staging_of edit.path) edit.metadata (tree.state b)) (StagingOne edit (tree.state a)) (GivesMetadata (staging_of edit.path) edit.metadata (tree.state b)) (StagesEdit edit) 5 5
      (λ u h. one_with_metadata edit is now (tree.state a) (tree.state b) u held (acted_end tree (StagingOne edit (tree.state a)) (StagesEdit edit) before) h)
      (gives_metadata edit is (tree.state b)) (omega arith) more))

-- ---- some files

-- the staging name of one is not at or below those of others
apart : (c : Edit) (cs : List Edit) → AllByRecursion (IsBeside c) cs → is_under_any (stages_of cs) (staging_of c.path) ≡ false
apart c [] beside = refl
apart c (d ∷ cs) beside = ap (λ b. b || is_under_any (stages_of cs) (staging_of c.path)) beside.0.stages_back ∙ apart c cs beside.1

frees_kept : (c : Edit) (cs : List Edit) → AllByRecursion (IsBeside c) cs → (t u : Files) → SameOutside (is_prefix (staging_of c.path)) t u
    → AllByRecursion (IsFree (places t)) cs → AllByRecursion (IsFree (places u)) cs
frees_kept c [] beside t u same free = tt
frees_kept c (d ∷ cs) beside t u same free = (
  none_object_state (places t (staging_of d.path)) (places u (staging_of d.path)) (sym (same (staging_of d.path) beside.0.stages)) free.0,
  frees_kept c cs beside.1 t u same free.1,
)

module _ (c : Edit) (cs : List Edit) (beside : AllByRecursion (IsBeside c) cs) where
  -- the first is staged
  some_one : (t u : Files) → AllByRecursion (IsFree (places t)) cs → StagingOne c t u → StagingSome (c ∷ cs) t u
  some_one t u free h = record {
    outside = λ q e. h.outside q (left_false (is_prefix (staging_of c.path) q) (is_under_any (stages_of cs) q) e);
    turn = inr (h.stages, frees_kept c cs beside t u h.outside free);
  }

  -- it stands whole, and the others are staged
  some_more : (t b u : Files) → StagingOne c t b → IsStagedWhole (places b) c → StagingSome cs b u → StagingSome (c ∷ cs) t u
  some_more t b u first whole h = record {
    outside = λ q e.
        h.outside q (right_false (is_prefix (staging_of c.path) q) (is_under_any (stages_of cs) q) e)
        ∙ first.outside q (left_false (is_prefix (staging_of c.path) q) (is_under_any (stages_of cs) q) e);
    turn = inl (inl (h.outside (staging_of c.path) (apart c cs beside) ∙ whole), h.turn);
  }

  module _ {S : Type 0} (tree : Ghosts S) (now : ℕ) {a b : S} where
    pub some_one_acted : {A : Type 0} {r : Result A TreeFault} → AllByRecursion (IsFree (places (tree.state a))) cs
        → Acted tree (StagingOne c (tree.state a)) (StagesEdit c) most_staged now a b r
        → Acted tree (StagingSome (c ∷ cs) (tree.state a)) (IsOfSome StagesEdit (c ∷ cs)) most_staged now a b r
    some_one_acted free one =
        acted_weaken tree (StagingOne c (tree.state a)) (StagingSome (c ∷ cs) (tree.state a)) (StagesEdit c) (IsOfSome StagesEdit (c ∷ cs)) most_staged most_staged
        (λ u h. some_one (tree.state a) u free h) (λ s g. inl g) (omega arith) one

    pub some_more_acted : {A B : Type 0} {d : S} {x : A} {r : Result B TreeFault} → Moves tree → IsEdit c → AllByRecursion (IsFree (places (tree.state a))) cs
        → places (tree.state b) ≡ with_staged now (places (tree.state a)) c
        → Acted tree (StagingOne c (tree.state a)) (StagesEdit c) most_staged now a b (Ok x)
        → Acted tree (StagingSome cs (tree.state b)) (IsOfSome StagesEdit cs) (most_staged * length cs) now b d r
        → Acted tree (StagingSome (c ∷ cs) (tree.state a)) (IsOfSome StagesEdit (c ∷ cs)) (most_staged * length (c ∷ cs)) now a d r
    some_more_acted moves is free staged one more =
        let whole : IsStagedWhole (places (tree.state b)) c =
        ap (λ (x : Places). object_states x (staging_of c.path)) staged ∙ ap (option_map object_state) (made-here now (staging_of c.path) (places (tree.state a)) (stage_some c is) (edited now c)) in
        let first = acted_end tree (StagingOne c (tree.state a)) (StagesEdit c) one in
        acted_within tree (most_staged + most_staged * length cs) (most_staged * length (c ∷ cs)) (omega arith)
        (acted_then tree moves (StagingSome (c ∷ cs) (tree.state a)) (IsOfSome StagesEdit (c ∷ cs)) (some_one_acted free one)
        (acted_weaken tree (StagingSome cs (tree.state b)) (StagingSome (c ∷ cs) (tree.state a)) (IsOfSome StagesEdit cs) (IsOfSome StagesEdit (c ∷ cs)) (most_staged * length cs) (most_staged * length cs)
        (λ u h. some_more (tree.state a) (tree.state b) u first whole h) (λ s g. inr g) (omega arith) more))

-- ---- published

module _ (now : ℕ) (c : Edit) (is : IsEdit c) where
  -- the first of others are put
  kept_edits : (k : ℕ) (cs : List Edit) → AllByRecursion (IsBeside c) cs → (t : Places) → object_states (fold (with_edit now) t (take k cs)) c.path ≡ object_states t c.path
  kept_edits zero cs beside t = refl
  kept_edits (suc k) [] beside t = refl
  kept_edits (suc k) (d ∷ cs) beside t =
      kept_edits k cs beside.1 (with_edit now t d) ∙ object_states-made now d.path (edited now d) t c.path
      ∙ object_states-put_else d.path c.path (Some (edited now d)) t (not_prefix_not_same d.path c.path beside.0.paths_back)

  none_edits : (k : ℕ) (cs : List Edit) → AllByRecursion (IsBeside c) cs → (t : Places) → IsFree t c → IsFree (fold (with_edit now) t (take k cs)) c
  none_edits zero cs beside t free = free
  none_edits (suc k) [] beside t free = free
  none_edits (suc k) (d ∷ cs) beside t free =
      none_edits k cs beside.1 (with_edit now t d)
      (made-none now d.path (edited now d) t (staging_of c.path) (not_prefix_not_same d.path (staging_of c.path) beside.0.crossed_back) free)

  -- others are staged, but the first
  none_all : (cs : List Edit) → AllByRecursion (IsBeside c) cs → (t : Places) → IsFree t c → IsFree (fold (with_staged now) t cs) c
  none_all [] beside t free = free
  none_all (d ∷ cs) beside t free =
      none_all cs beside.1 (with_staged now t d)
      (made-none now (staging_of d.path) (edited now d) t (staging_of c.path) (not_prefix_not_same (staging_of d.path) (staging_of c.path) beside.0.stages_back) free)

  none_staged : (k : ℕ) (cs : List Edit) → AllByRecursion (IsBeside c) cs → (t : Places) → IsFree t c → IsFree (fold (with_staged now) t (drop k cs)) c
  none_staged zero cs beside t free = none_all cs beside t free
  none_staged (suc k) [] beside t free = free
  none_staged (suc k) (d ∷ cs) beside t free = none_staged k cs beside.1 t free

  frees_edit : (cs : List Edit) → AllByRecursion (IsBeside c) cs → (t : Places) → AllByRecursion (IsFree t) cs → AllByRecursion (IsFree (with_edit now t c)) cs
  frees_edit [] beside t free = tt
  frees_edit (d ∷ cs) beside t free = (
    made-none now c.path (edited now c) t (staging_of d.path) (not_prefix_not_same c.path (staging_of d.path) beside.0.crossed) free.0,
    frees_edit cs beside.1 t free.1,
  )

  -- so it is there
  put_there : (k : ℕ) (cs : List Edit) → AreEdits cs → AllByRecursion (IsBeside c) cs → (t : Places) → IsFree t c
      → (object_states (fold (with_staged now) (fold (with_edit now) (with_edit now t c) (take k cs)) (drop k cs)) c.path ≡ Some (object_state (edited 0 c)))
      × IsFree (fold (with_staged now) (fold (with_edit now) (with_edit now t c) (take k cs)) (drop k cs)) c
  put_there k cs are beside t free = (
    (object_states_all_staged now (drop k cs) (drop_edits k cs are) (fold (with_edit now) (with_edit now t c) (take k cs)) c.path is.plain
        ∙ kept_edits k cs beside (with_edit now t c)
        ∙ ap (option_map object_state) (made-here now c.path t is.root (edited now c))),
    none_staged k cs beside (fold (with_edit now) (with_edit now t c) (take k cs))
        (none_edits k cs beside (with_edit now t c)
        (made-none now c.path (edited now c) t (staging_of c.path) (not_prefix_not_same c.path (staging_of c.path) (stage_outside c.path is.root)) free)),
  )

-- the first are at their paths, the others stand whole at their staging names
published_turn : (now k : ℕ) (cs : List Edit) → AreEdits cs → (t : Places) → AllByRecursion (IsFree t) cs
    → AreInTurn cs (fold (with_staged now) (fold (with_edit now) t (take k cs)) (drop k cs))
published_turn now zero cs are t free = whole_turn (fold (with_staged now) t cs) cs (all_whole now cs are t)
published_turn now (suc k) [] are t free = tt
published_turn now (suc k) (c ∷ cs) are t free = inl (
  inr (put_there now c are.0 k cs are.1.1 are.1.0 t free.0),
  published_turn now k cs are.1.1 (with_edit now t c) (frees_edit now c are.0 cs are.1.0 t free.1),
)

-- ---- the directory

-- a staging name of a file lies below /etc
stage_below : (c : Edit) → IsEdit c → is_below etc (staging_of c.path) ≡ true
stage_below c is = elim (path_ends (staging_of c.path)) [
  | inl root ↦ absurd (stage_some c is root)
  | inr (above, name, e) ↦
      let up : above ≡ etc = sym (parent_of-push above name) ∙ sym (ap parent_of e) ∙ stage_up c is in
      let at : staging_of c.path ≡ etc ++ name ∷ [] = e ∙ ap (λ (p : Path). p ++ name ∷ []) up in
      is_below-child etc (staging_of c.path) (subst (λ (p : Path). is_child etc p ≡ true) (sym at) (is_child-push etc name))
]

-- what lies below /etc lies at or below it and is not /etc, and not at or below the staging name of /etc
below_etc : (q : Path) → is_below etc q ≡ true → (is_prefix etc q ≡ true) × ((same_path etc q ≡ false) × (is_prefix (staging_of etc) q ≡ false))
below_etc q below =
    let parts = and_parts (is_prefix etc q) (not (same_path etc q)) below in
    let rest = prefix_parts etc q parts.0 in
    (parts.0, (no_of (same_path etc q) parts.1, ap (is_prefix (staging_of etc)) rest.1))

module _ (t : Files) where
  comes_outside : (u : Files) → SameOutside (is_prefix (staging_of etc)) t u → NoneComes t u
  comes_outside u h = λ q below none. none_object_state (places t q) (places u q) (sym (h q (below_etc q below).1.1)) none

  -- the directory is renamed into place
  comes_published : (now : ℕ) (b u : Files) → places b ≡ made now (staging_of etc) (new_object parent_file now) (places t) → IsTree t → IsAbsentIn (places t) (staging_of etc)
      → NoneComes t b → Publishing now etc b u → NoneComes t u
  comes_published now b u is tree free before (inl c) = λ q below none. by q below none (c.pruned.within q (below_etc q below).0)
    where
      by : (q : Path) → is_below etc q ≡ true → IsAbsentIn (places t) q → IsAbsentIn (places u) q ⊎ (object_states (places u) q ≡ object_states (places b) q) → IsAbsentIn (places u) q
      by q below none (inl gone) = gone
      by q below none (inr same) = none_object_state (places b q) (places u q) (sym same) (before q below none)
  comes_published now b u is tree free before (inr e) = λ q below none.
      let parts = below_etc q below in
      let cuts : cut etc (places t) q ≡ None = ap (λ b. cond b None (places t q)) parts.0 in
      none_object_state (made now etc (new_object parent_file now) (cut etc (places t)) q) (places u q)
      (sym (e q ∙ ap (λ (x : Places). object_states x q) (over_moved now etc etc_some parent_file t b is tree free)))
      (made-none now etc (new_object parent_file now) (cut etc (places t)) q parts.1.0 cuts)

  -- so none of the files is begun
  pub comes_free : (u : Files) → NoneComes t u → (cs : List Edit) → AreEdits cs → AllByRecursion (IsFree (places t)) cs → AllByRecursion (IsFree (places u)) cs
  comes_free u h [] are free = tt
  comes_free u h (c ∷ cs) are free = (h (staging_of c.path) (stage_below c are.0) free.0, comes_free u h cs are.1.1 free.1)

module _ {S : Type 0} (tree : Ghosts S) {now : ℕ} {a b : S} where
  pub comes_staged : {A : Type 0} {r : Result A TreeFault} {m : ℕ} (n : ℕ) → m ≤ n → Acted tree (SameOutside (is_prefix (staging_of etc)) (tree.state a)) (GivesNew (staging_of etc) parent_file) m now a b r
      → Acted tree (NoneComes (tree.state a)) (IsPutStep etc parent_file) n now a b r
  comes_staged {m = m} n le one = acted_weaken tree (SameOutside (is_prefix (staging_of etc)) (tree.state a)) (NoneComes (tree.state a)) (GivesNew (staging_of etc) parent_file) (IsPutStep etc parent_file) m n
      (comes_outside (tree.state a)) (λ s g. inl g) le one

  pub comes_put : {A B : Type 0} {c : S} {x : A} {r : Result B TreeFault} {m n : ℕ} → Moves tree → (most : ℕ) → m + n ≤ most
      → places (tree.state b) ≡ made now (staging_of etc) (new_object parent_file now) (places (tree.state a)) → IsTree (tree.state a) → IsAbsentIn (places (tree.state a)) (staging_of etc)
      → Acted tree (SameOutside (is_prefix (staging_of etc)) (tree.state a)) (GivesNew (staging_of etc) parent_file) m now a b (Ok x)
      → Acted tree (Publishing now etc (tree.state b)) (IsPublishing etc) n now b c r
      → Acted tree (NoneComes (tree.state a)) (IsPutStep etc parent_file) most now a c r
  comes_put {m = m} {n = n} moves most le is standing free one last =
      let before = comes_staged m (omega arith) one in
      acted_within tree (m + n) most le
      (acted_then tree moves (NoneComes (tree.state a)) (IsPutStep etc parent_file) before
      (acted_weaken tree (Publishing now etc (tree.state b)) (NoneComes (tree.state a)) (IsPublishing etc) (IsPutStep etc parent_file) n n
      (λ u h. comes_published (tree.state a) now (tree.state b) u is standing free (acted_end tree (NoneComes (tree.state a)) (IsPutStep etc parent_file) before) h)
      (λ s g. inr g) (omega arith) last))

-- ---- all of it

module _ {S : Type 0} (tree : Ghosts S) (edits : List Edit) {now : ℕ} (a : S) where
  pub turn_directory : {A : Type 0} {m : ℕ} {b : S} {r : Result A TreeFault} → AreEdits edits → AllByRecursion (IsFree (places (tree.state a))) edits
      → Acted tree (NoneComes (tree.state a)) (PutsDirectory (tree.state a)) m now a b r → Acted tree (InTurn edits) (IsAccountStep edits (tree.state a)) m now a b r
  turn_directory {m = m} are free one = acted_weaken tree (NoneComes (tree.state a)) (InTurn edits) (PutsDirectory (tree.state a)) (IsAccountStep edits (tree.state a)) m m
      (λ u h. free_turn (places u) edits (comes_free (tree.state a) u h edits are free)) (λ s g. IsAccountStep.puts g) (omega arith) one

  pub turn_staged : {A : Type 0} {m : ℕ} {b c : S} {r : Result A TreeFault} → Acted tree (StagingSome edits (tree.state b)) (IsOfSome StagesEdit edits) m now b c r
      → Acted tree (InTurn edits) (IsAccountStep edits (tree.state a)) m now b c r
  turn_staged {m = m} {b = b} one = acted_weaken tree (StagingSome edits (tree.state b)) (InTurn edits) (IsOfSome StagesEdit edits) (IsAccountStep edits (tree.state a)) m m
      (λ u h. h.turn) (λ s g. IsAccountStep.stages g) (omega arith) one

  pub turn_published : {A : Type 0} {m : ℕ} (b : S) {c d : S} {r : Result A TreeFault} → AreEdits edits → AllByRecursion (IsFree (places (tree.state b))) edits
      → places (tree.state c) ≡ fold (with_staged now) (places (tree.state b)) edits → AllByRecursion (HasRoom (places (tree.state b))) edits
      → Acted tree (Published now edits (tree.state c)) (IsOfSome PublishesEdit edits) m now c d r → Acted tree (InTurn edits) (IsAccountStep edits (tree.state a)) m now c d r
  turn_published {m = m} b {c = c} are free staged has one =
      acted_weaken tree (Published now edits (tree.state c)) (InTurn edits) (IsOfSome PublishesEdit edits) (IsAccountStep edits (tree.state a)) m m
      way (λ s g. IsAccountStep.publishes g) (omega arith) one
    where
      way : (u : Files) → Published now edits (tree.state c) u → InTurn edits u
      way u first = subst (AreInTurn edits) (sym reached) (published_turn now first.0 edits are (places (tree.state b)) free)
        where
          reached : places u ≡ fold (with_staged now) (fold (with_edit now) (places (tree.state b)) (take first.0 edits)) (drop first.0 edits)
          reached = first.1 ∙ ap (λ (x : Places). fold (with_published now) x (take first.0 edits)) staged ∙ published_first now first.0 edits are (places (tree.state b)) has

  pub turn_swept : {A : Type 0} {m : ℕ} {Q : Step → Type 0} {b : S} {r : Result A TreeFault} → ((s : Step) → Q s → IsAccountStep edits (tree.state a) s) → (n : ℕ) → m ≤ n
      → Acted tree (Pruned (is_under_any swept_names) (tree.state a)) Q m now a b r → Acted tree (TurnWay edits (tree.state a)) (IsAccountStep edits (tree.state a)) n now a b r
  turn_swept {m = m} {Q = Q} gives n le one = acted_weaken tree (Pruned (is_under_any swept_names) (tree.state a)) (TurnWay edits (tree.state a)) Q (IsAccountStep edits (tree.state a)) m n (λ u h. inl h) gives le one
