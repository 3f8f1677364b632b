-- Laws of staging the new texts of files, all of them first, and of bringing them to their paths, one after the other.
use Rattle.std.specs.Prelude.{◌≡◌, ◌≢◌, ℕ, Bool, true, false, cond, List, [], ◌∷◌, ◌++◌, take, drop, fold, Option, Some, None, is_some, option_map}
use Rattle.std.proofs.Common.{zero, suc, refl, sym, ap, ◌∙◌, inl, inr}
use Rattle.std.specs.List.{AllByRecursion}
use Rattle.std.proofs.lemmas.Bool.{cases_Bool}
use Rattle.pv_path.specs.Paths.{Path, same_path, is_prefix, parent_of, has_staging, staging_of}
use Rattle.pv_path.proofs.PathLaws.{is_prefix-append, rest_under-None, parent_of-staging_of, has_staging-staging_of, same_path-refl, not_prefix_not_same}
use Rattle.pv_steps.specs.declared.node.Kind.TheVariants.{Directory, File}
use Rattle.pv_steps.specs.declared.object.Object.{Object}
use Rattle.pv_steps.specs.Objects.{object_state}
use Rattle.pv_steps.specs.Trees.{Places, kind_of, IsKindIn}
use Rattle.pv_steps.proofs.TreeLaws.{present_of_kind, kind_of-touched}
use Rattle.pv_steps.specs.Steps.{moved_at, touched, put_at, Movable, Yields, absent, objects}
use Rattle.pv_steps.specs.Same.{object_states}
use Rattle.pv_walk.proofs.EditLaws.{put_at-else, object_states-made, object_states-put_else, staging_outside}
use Rattle.pv_walk.proofs.PublishLaws.{staging_nonempty, stage_outside, path_outside}
use Rattle.pv_walk.proofs.PuttingLaws.{made-none}
use Rattle.pv_sysusers.specs.declared.edit.Edit.{Edit}
use Rattle.pv_sysusers.specs.Edits.{AreEdits, IsBeside, IsEdit, IsFree, IsStaged, edited, with_edit, with_published, with_staged}
use Rattle.pv_layers.specs.Places.{etc}
use Rattle.pv_sysusers.proofs.MovingLaws.{made_else, moved_beside, moved_here, not_back, not_parent}
use Rattle.pv_path.proofs.Tests.{true_not_false}

-- what an edit needs of a tree: nothing stands at or below its staging name, and nothing below its path
pub record HasRoom (t : Places) (edit : Edit) : Type 0 where
  pub free : (rest : Path) → t (staging_of edit.path ++ rest) ≡ None
  pub leaf : (n : List ℕ) (rest : Path) → t (edit.path ++ n ∷ rest) ≡ None

module _ (c : Edit) (is : IsEdit c) where
  pub stage_some : staging_of c.path ≢ []
  stage_some = staging_nonempty c.path is.root

  pub stage_up : parent_of (staging_of c.path) ≡ etc
  stage_up = parent_of-staging_of c.path ∙ is.parent

  -- the directory is neither the path nor the staging name, nor below them
  pub outside_parent : (p : Path) → p ≢ [] → parent_of p ≡ etc → is_prefix p etc ≡ false
  outside_parent p some up = elim (cases_Bool (is_prefix p etc)) [
    | inl e ↦ absurd (true_not_false (same_path etc etc) (same_path-refl etc) (ap (λ (q : Path). same_path q etc) (sym up) ∙ not_parent p etc some e))
    | inr e ↦ e
  ]

  pub stage_plain : (q : Path) → has_staging q ≡ false → is_prefix (staging_of c.path) q ≡ false
  stage_plain q plain = staging_outside (staging_of c.path) (has_staging-staging_of c.path is.root) q plain

  -- ---- timestamps aside, staging changes nothing that has no staging name

  pub object_states_staged : (now : ℕ) (t : Places) (q : Path) → has_staging q ≡ false → object_states (with_staged now t c) q ≡ object_states t q
  object_states_staged now t q plain =
      object_states-made now (staging_of c.path) (edited now c) t q
      ∙ object_states-put_else (staging_of c.path) q (Some (edited now c)) t (not_prefix_not_same (staging_of c.path) q (stage_plain q plain))

  -- ---- kinds

  pub staged_directory : (now : ℕ) (t : Places) → kind_of (with_staged now t c etc) ≡ kind_of (t etc)
  staged_directory now t =
      kind_of-touched now (staging_of c.path) (put_at (staging_of c.path) (Some (edited now c)) t) etc
      ∙ ap kind_of (put_at-else (staging_of c.path) etc (Some (edited now c)) t (not_prefix_not_same (staging_of c.path) etc (outside_parent (staging_of c.path) stage_some stage_up)))

  pub published_kind : (now : ℕ) (t : Places) (q : Path) → is_prefix c.path q ≡ false → is_prefix (staging_of c.path) q ≡ false → kind_of (with_published now t c q) ≡ kind_of (t q)
  published_kind now t q out away =
      ap kind_of (ap (moved_at now (staging_of c.path) c.path t q) (rest_under-None c.path q out) ∙ ap (λ b. cond b None (touched now (staging_of c.path) (touched now c.path t) q)) away)
      ∙ kind_of-touched now (staging_of c.path) (touched now c.path t) q ∙ kind_of-touched now c.path t q

  -- ---- the move

  no_directory : (o : Option Object) → kind_of o ≡ Some File → kind_of o ≢ Some Directory
  no_directory o e d = let no : Some File ≡ Some Directory = sym e ∙ d in cc

  pub can_publish : (t : Places) → IsKindIn Directory t etc → IsStaged t c → Movable t (staging_of c.path) c.path
  can_publish t directory staged = record {
    present = present_of_kind t (staging_of c.path) File staged.staged;
    no_root = stage_some;
    outside = path_outside c.path is.root;
    parent = ap (λ (p : Path). kind_of (t p)) is.parent ∙ directory;
    yields = by (t c.path) refl;
  }
    where
      by : (o : Option Object) → t c.path ≡ o → Yields t (staging_of c.path) c.path
      by None e = absent e
      by (Some x) e = objects (present_of_kind t (staging_of c.path) File staged.staged, no_directory (t (staging_of c.path)) staged.staged) (ap is_some e, staged.file)

-- ---- two edits

module _ (now : ℕ) (c d : Edit) (is_c : IsEdit c) (is_d : IsEdit d) (beside : IsBeside c d) (t : Places) where
  published_beside : with_published now (with_staged now t d) c ≡ with_staged now (with_published now t c) d
  published_beside = moved_beside now (staging_of c.path) c.path (staging_of d.path) (stage_some c is_c) is_c.root (stage_some d is_d)
      (stage_up d is_d ∙ sym (stage_up c is_c)) (stage_up d is_d ∙ sym is_c.parent) beside.stages beside.crossed (edited now d) t

  room_after : HasRoom t d → HasRoom (with_edit now t c) d
  room_after room = record {
    free = λ rest. made_else now c.path (edited now c) t (staging_of d.path ++ rest)
        (not_back c.path (staging_of d.path) (staging_of d.path ++ rest) (stage_plain d is_d c.path is_c.plain) (is_prefix-append (staging_of d.path) rest))
        (ap (λ (p : Path). same_path p (staging_of d.path ++ rest)) (is_c.parent ∙ sym (stage_up d is_d)) ∙ not_parent (staging_of d.path) (staging_of d.path ++ rest) (stage_some d is_d) (is_prefix-append (staging_of d.path) rest))
        ∙ room.free rest;
    leaf = λ n rest. made_else now c.path (edited now c) t (d.path ++ n ∷ rest)
        (not_back c.path d.path (d.path ++ n ∷ rest) beside.paths_back (is_prefix-append d.path (n ∷ rest)))
        (ap (λ (p : Path). same_path p (d.path ++ n ∷ rest)) (is_c.parent ∙ sym is_d.parent) ∙ not_parent d.path (d.path ++ n ∷ rest) is_d.root (is_prefix-append d.path (n ∷ rest)))
        ∙ room.leaf n rest;
  }

  pub free_after : IsFree t d → IsFree (with_staged now t c) d
  free_after free = made-none now (staging_of c.path) (edited now c) t (staging_of d.path) (not_prefix_not_same (staging_of c.path) (staging_of d.path) beside.stages) free

  pub staged_after : IsStaged t d → IsStaged (with_published now t c) d
  staged_after s = record {
    staged = published_kind c is_c now t (staging_of d.path) beside.crossed beside.stages ∙ s.staged;
    file = λ e. s.file (sym (published_kind c is_c now t d.path beside.paths (stage_plain c is_c d.path is_d.plain)) ∙ e);
  }

published_here : (now : ℕ) (c : Edit) → IsEdit c → (t : Places) → HasRoom t c → with_published now (with_staged now t c) c ≡ with_edit now t c
published_here now c is t room = moved_here now (staging_of c.path) c.path (stage_some c is) is.root (parent_of-staging_of c.path) (edited now c) refl t room.free room.leaf (stage_outside c.path is.root)

-- ---- all of them

module _ (now : ℕ) where
  pushed : (c : Edit) (cs : List Edit) → IsEdit c → AllByRecursion (IsBeside c) cs → AreEdits cs → (t : Places)
      → with_published now (fold (with_staged now) t cs) c ≡ fold (with_staged now) (with_published now t c) cs
  pushed c [] is beside are t = refl
  pushed c (d ∷ cs) is beside are t =
      pushed c cs is beside.1 are.1.1 (with_staged now t d)
      ∙ ap (λ (x : Places). fold (with_staged now) x cs) (published_beside now c d is are.0 beside.0 t)

  rooms_after : (c : Edit) (cs : List Edit) → IsEdit c → AllByRecursion (IsBeside c) cs → AreEdits cs → (t : Places)
      → AllByRecursion (HasRoom t) cs → AllByRecursion (HasRoom (with_edit now t c)) cs
  rooms_after c [] is beside are t rooms = tt
  rooms_after c (d ∷ cs) is beside are t rooms = (room_after now c d is are.0 beside.0 t rooms.0, rooms_after c cs is beside.1 are.1.1 t rooms.1)

  pub frees_after : (c : Edit) (cs : List Edit) → IsEdit c → AllByRecursion (IsBeside c) cs → AreEdits cs → (t : Places)
      → AllByRecursion (IsFree t) cs → AllByRecursion (IsFree (with_staged now t c)) cs
  frees_after c [] is beside are t free = tt
  frees_after c (d ∷ cs) is beside are t free = (free_after now c d is are.0 beside.0 t free.0, frees_after c cs is beside.1 are.1.1 t free.1)

  pub stageds_after : (c : Edit) (cs : List Edit) → IsEdit c → AllByRecursion (IsBeside c) cs → AreEdits cs → (t : Places)
      → AllByRecursion (IsStaged t) cs → AllByRecursion (IsStaged (with_published now t c)) cs
  stageds_after c [] is beside are t staged = tt
  stageds_after c (d ∷ cs) is beside are t staged = (staged_after now c d is are.0 beside.0 t staged.0, stageds_after c cs is beside.1 are.1.1 t staged.1)

  -- all staged and the first of them published, or these put at their paths and the others staged: this is the same
  pub published_first : (k : ℕ) (cs : List Edit) → AreEdits cs → (t : Places) → AllByRecursion (HasRoom t) cs
      → fold (with_published now) (fold (with_staged now) t cs) (take k cs) ≡ fold (with_staged now) (fold (with_edit now) t (take k cs)) (drop k cs)
  published_first zero cs are t rooms = refl
  published_first (suc k) [] are t rooms = refl
  published_first (suc k) (c ∷ cs) are t rooms =
      ap (λ (x : Places). fold (with_published now) x (take k cs))
      (pushed c cs are.0 are.1.0 are.1.1 (with_staged now t c) ∙ ap (λ (x : Places). fold (with_staged now) x cs) (published_here now c are.0 t rooms.0))
      ∙ published_first k cs are.1.1 (with_edit now t c) (rooms_after c cs are.0 are.1.0 are.1.1 t rooms.1)

  pub published_all : (cs : List Edit) → AreEdits cs → (t : Places) → AllByRecursion (HasRoom t) cs
      → fold (with_published now) (fold (with_staged now) t cs) cs ≡ fold (with_edit now) t cs
  published_all [] are t rooms = refl
  published_all (c ∷ cs) are t rooms =
      ap (λ (x : Places). fold (with_published now) x cs)
      (pushed c cs are.0 are.1.0 are.1.1 (with_staged now t c) ∙ ap (λ (x : Places). fold (with_staged now) x cs) (published_here now c are.0 t rooms.0))
      ∙ published_all cs are.1.1 (with_edit now t c) (rooms_after c cs are.0 are.1.0 are.1.1 t rooms.1)

  pub object_states_all_staged : (cs : List Edit) → AreEdits cs → (t : Places) (q : Path) → has_staging q ≡ false → object_states (fold (with_staged now) t cs) q ≡ object_states t q
  object_states_all_staged [] are t q plain = refl
  object_states_all_staged (c ∷ cs) are t q plain = object_states_all_staged cs are.1.1 (with_staged now t c) q plain ∙ object_states_staged c are.0 now t q plain

  -- timestamps aside, the moment does not count
  pub object_states_edits : (later : ℕ) (cs : List Edit) (t u : Places) → ((q : Path) → has_staging q ≡ false → object_states t q ≡ object_states u q)
      → (q : Path) → has_staging q ≡ false → object_states (fold (with_edit now) t cs) q ≡ object_states (fold (with_edit later) u cs) q
  object_states_edits later [] t u same q plain = same q plain
  object_states_edits later (c ∷ cs) t u same q plain = object_states_edits later cs (with_edit now t c) (with_edit later u c) one q plain
    where
      by : (b : Bool) (x y : Option Object) → option_map object_state x ≡ option_map object_state y
          → option_map object_state (cond b (Some (edited now c)) x) ≡ option_map object_state (cond b (Some (edited later c)) y)
      by true x y e = refl
      by false x y e = e

      one : (q : Path) → has_staging q ≡ false → object_states (with_edit now t c) q ≡ object_states (with_edit later u c) q
      one q plain =
          object_states-made now c.path (edited now c) t q ∙ by (same_path c.path q) (t q) (u q) (same q plain)
          ∙ sym (object_states-made later c.path (edited later c) u q)
