-- Laws of putting a new object over the object at a path: it is made under its staging name, the object at the path makes
-- way, and what is staged comes there.
use Rattle.std.specs.Prelude.{◌≡◌, ◌≢◌, ℕ, ◌+◌, ◌≤◌, Bool, true, false, cond, [], List, ◌∷◌, ◌++◌, length, filter, Option, Some, None, is_some, option_map, Result, Ok}
use Rattle.std.proofs.Common.{refl, sym, ap, ◌∙◌, arith, append-nil, length-append, inl, inr, ◌⊎◌}
use Rattle.std.specs.FinMap as fin
use Rattle.std.proofs.lemmas.Bool.{cases_Bool}
use Rattle.pv_path.specs.Paths.{Path, same_path, is_prefix, parent_of, rest_under, staging_of}
use Rattle.pv_path.proofs.PathLaws.{is_some-rest_under, rest_under-Some, same_path-refl, not_prefix_not_same, has_staging-staging_of}
use Rattle.pv_steps.specs.declared.node.Kind.TheVariants.{Directory}
use Rattle.pv_steps.specs.declared.object.Object.{Object}
use Rattle.pv_steps.specs.Objects.{object_state, modified}
use Rattle.pv_steps.specs.Trees.{Files, Places, places, IsTree, IsAbsentIn, IsKindIn}
use Rattle.pv_steps.specs.Steps.{put_at, made, moved}
use Rattle.pv_steps.specs.Same.{object_states}
use Rattle.pv_steps.specs.declared.tree.Tree.{Ghosts}
use Rattle.pv_steps.specs.declared.tree.TreeFault.{TreeFault}
use Rattle.pv_steps.specs.Acting.{Acted}
use Rattle.pv_steps.proofs.ActingLaws.{Moves, acted_then, acted_weaken, acted_end}
use Rattle.pv_walk.specs.Edits.{SameOutside, cut, count_at}
use Rattle.pv_walk.specs.Nodes.{object_state_of}
use Rattle.pv_walk.proofs.EditLaws.{path_cases, put_at-else, put_at-here, object_states-made, object_states-put_else, staging_outside}
use Rattle.pv_walk.specs.declared.new_file.NewFile.{NewFile}
use Rattle.pv_walk.specs.Staging.{new_object, GivesNew, IsPublishing}
use Rattle.pv_walk.specs.Removal.{Publishing}
use Rattle.pv_walk.specs.Copying.{single, with_subtree}
use Rattle.pv_walk.specs.Putting.{IsPutting, Putting, IsPutStep, put_over}
use Rattle.pv_walk.specs.Replacing.{Replacing, new_subtree}
use Rattle.pv_walk.specs.Listing.{times}
use Rattle.pv_walk.proofs.RemovalLaws.{no_same}
use Rattle.pv_walk.proofs.CountLaws.{count_same, times-filter, times-keys, length-times}
use Rattle.pv_walk.proofs.CopyingLaws.{copy_moved, copy_published}
use Rattle.pv_walk.proofs.PublishLaws.{stage_outside}
use Rattle.pv_walk.proofs.PuttingLaws.{none_under}
use Rattle.pv_path.proofs.Tests.{true_not_false}

-- ---- where nothing stands

module _ (path : Path) (t : Files) (tree : IsTree t) (none : IsAbsentIn (places t) path) where
  -- nothing has to make way
  pub cut_absent : cut path (places t) ≡ places t
  cut_absent = λ i q. at q i
    where
      at : (q : Path) → cut path (places t) q ≡ places t q
      at q = elim (cases_Bool (is_prefix path q)) [
        | inl e ↦ ap (λ b. cond b None (places t q)) e ∙ sym (none_under (places t) tree path q none e)
        | inr e ↦ ap (λ b. cond b None (places t q)) e
      ]

  pub count_absent : count_at t path ≤ 0
  count_absent = length-times (filter (is_prefix path) (fin.keys t)) [] (λ q. omega (arith, times-filter (is_prefix path) q (fin.keys t), fewer q))
    where
      fewer : (q : Path) → cond (is_prefix path q) (times q (fin.keys t)) 0 ≤ 0
      fewer q = elim (cases_Bool (is_prefix path q)) [
        | inl e ↦
            let count : times q (fin.keys t) ≡ 0 = times-keys t q ∙ ap (λ v. cond (is_some v) 1 0) (none_under (places t) tree path q none e) in
            omega (arith, ap (λ b. cond b (times q (fin.keys t)) 0) e, count)
        | inr e ↦ omega (arith, ap (λ b. cond b (times q (fin.keys t)) 0) e)
      ]

-- ---- timestamps aside, or not

-- what a call that puts a new object leaves is the subtree of one object put there
module _ (now : ℕ) (path : Path) (file : NewFile) (t : Places) where
  pub put_single : (q : Path) → with_subtree now path (single (object_state_of (new_object file 0))) t q ≡ put_over now path file t q
  put_single q = by (rest_under path q) refl
    where
      over : (x y : Option Object) → x ≡ y → cond (same_path (parent_of path) q) (option_map (modified now) x) x ≡ cond (same_path (parent_of path) q) (option_map (modified now) y) y
      over x y e = ap (λ v. cond (same_path (parent_of path) q) (option_map (modified now) v) v) e

      inside : is_some (rest_under path q) ≡ true → is_prefix path q ≡ true
      inside e = sym (is_some-rest_under path q) ∙ e

      here : q ≡ path → put_at path (Some (new_object file now)) (cut path t) q ≡ Some (new_object file now)
      here e = ap (λ b. cond b (Some (new_object file now)) (cut path t q)) (ap (same_path path) e ∙ same_path-refl path)

      below : same_path path q ≡ false → is_prefix path q ≡ true → put_at path (Some (new_object file now)) (cut path t) q ≡ None
      below d e = put_at-else path q (Some (new_object file now)) (cut path t) d ∙ ap (λ b. cond b None (t q)) e

      beside : is_prefix path q ≡ false → put_at path (Some (new_object file now)) (cut path t) q ≡ t q
      beside e = put_at-else path q (Some (new_object file now)) (cut path t) (not_prefix_not_same path q e) ∙ ap (λ b. cond b None (t q)) e

      longer : (name : List ℕ) (rest : Path) → q ≡ path ++ name ∷ rest → same_path path q ≡ false
      longer name rest e = no_same path q (λ s. shorter (s ∙ e))
        where
          shorter : path ≡ path ++ name ∷ rest → ⊥
          shorter l = let n = ap length l in omega (arith, n, length-append path (name ∷ rest))

      by : (r : Option Path) → rest_under path q ≡ r → with_subtree now path (single (object_state_of (new_object file 0))) t q ≡ put_over now path file t q
      by None e = rw e (over (t q) _ (sym (beside (sym (is_some-rest_under path q) ∙ ap is_some e))))
      by (Some []) e = rw e (over (Some (new_object file now)) _ (sym (here (rest_under-Some path q [] e ∙ append-nil path))))
      by (Some (name ∷ rest)) e = rw e (over None _ (sym (below (longer name rest (rest_under-Some path q (name ∷ rest) e)) (inside (ap is_some e)))))

-- ---- what is staged is renamed into place

module _ (now : ℕ) (path : Path) (nonempty : path ≢ []) (file : NewFile) (t u : Files) (is : places u ≡ made now (staging_of path) (new_object file now) (places t)) where
  -- no more has to make way than stood at and below the path before
  pub count_over : count_at u path ≤ count_at t path
  count_over = count_same path t u present
    where
      some_same : (f : Object → Object) (b : Bool) (v : Option Object) → is_some (cond b (option_map f v) v) ≡ is_some v
      some_same f true None = refl
      some_same f true (Some x) = refl
      some_same f false v = refl

      present : (q : Path) → is_prefix path q ≡ true → is_some (places u q) ≡ is_some (places t q)
      present q e =
          ap (λ (x : Places). is_some (x q)) is
          ∙ some_same (modified now) (same_path (parent_of (staging_of path)) q) (put_at (staging_of path) (Some (new_object file now)) (places t) q)
          ∙ ap is_some (put_at-else (staging_of path) q (Some (new_object file now)) (places t)
          (no_same (staging_of path) q (λ s. true_not_false (is_prefix path q) e (ap (is_prefix path) (sym s) ∙ stage_outside path nonempty))))

  module _ (tree : IsTree t) (free : IsAbsentIn (places t) (staging_of path)) where
    staged_single : places u ≡ with_subtree now (staging_of path) (new_subtree file) (places t)
    staged_single =
        is ∙ ap (made now (staging_of path) (new_object file now)) (sym (cut_absent (staging_of path) t tree free))
        ∙ (λ i q. sym (put_single now (staging_of path) file (places t) q) i)

    -- what comes to the path is the new object, in the place of all that stood there
    pub over_moved : moved now (staging_of path) path (places u) ≡ put_over now path file (places t)
    over_moved =
        ap (moved now (staging_of path) path) staged_single ∙ copy_moved now path nonempty (new_subtree file) t tree free
        ∙ (λ i q. put_single now path file (places t) q i)

    -- while the object there makes way, or the new object is renamed into place
    pub over_published : SameOutside (is_prefix (staging_of path)) t u → (w : Files) → Publishing now path u w → Replacing path (new_subtree file) t w
    over_published = copy_published now path nonempty (new_subtree file) t tree free u staged_single

-- ---- on the way

module _ (path : Path) (t : Files) (tree : IsTree t) (none : IsAbsentIn (places t) path) where
  -- on the way the new object is put where nothing stood
  pub over_putting : (file : NewFile) (u : Files) → Replacing path (new_subtree file) t u → Putting path file t u
  over_putting file u (Replacing.before same) = λ q plain. IsPutting.kept (sym (same q plain))
  over_putting file u (Replacing.making_way m) = λ q plain. by q (m.parts q plain)
    where
      by : (q : Path) → (object_states (places u) q ≡ object_states (places t) q) ⊎ ((is_prefix path q ≡ true) × IsAbsentIn (places u) q) → IsPutting path file q (object_states (places t) q) (object_states (places u) q)
      by q (inl e) = IsPutting.kept e
      by q (inr gone) = IsPutting.kept (ap (option_map object_state) (gone.1 ∙ sym (none_under (places t) tree path q none gone.0)))
  over_putting file u (Replacing.come h) = λ q plain. by q (h q plain) (path_cases path q)
    where
      whole : (q : Path) → object_states (with_subtree 0 path (new_subtree file) (places t)) q ≡ object_states (put_at path (Some (new_object file 0)) (places t)) q
      whole q =
          ap (option_map object_state) (put_single 0 path file (places t) q)
          ∙ object_states-made 0 path (new_object file 0) (cut path (places t)) q ∙ ap (λ (x : Places). object_states (put_at path (Some (new_object file 0)) x) q) (cut_absent path t tree none)

      by : (q : Path) → object_states (places u) q ≡ object_states (with_subtree 0 path (new_subtree file) (places t)) q → (path ≡ q) ⊎ (same_path path q ≡ false) → IsPutting path file q (object_states (places t) q) (object_states (places u) q)
      by q e (inl s) = IsPutting.put (sym s) (ap (λ (p : Path). object_states (places t) p) (sym s) ∙ ap (option_map object_state) none)
          (e ∙ whole q ∙ ap (λ (p : Path). object_states (put_at path (Some (new_object file 0)) (places t)) p) (sym s) ∙ ap (option_map object_state) (put_at-here path (Some (new_object file 0)) (places t)))
      by q e (inr d) = IsPutting.kept (e ∙ whole q ∙ object_states-put_else path q (Some (new_object file 0)) (places t) d)

-- ---- calls that put it

module _ {S : Type 0} (tree : Ghosts S) (now : ℕ) (path : Path) (nonempty : path ≢ []) (file : NewFile) (a b : S) where
  -- while it is made under its staging name
  pub over_staged : {A : Type 0} {m : ℕ} {r : Result A TreeFault} → Acted tree (SameOutside (is_prefix (staging_of path)) (tree.state a)) (GivesNew (staging_of path) file) m now a b r
      → Acted tree (Replacing path (new_subtree file) (tree.state a)) (IsPutStep path file) m now a b r
  over_staged {m = m} before =
      acted_weaken tree (SameOutside (is_prefix (staging_of path)) (tree.state a)) (Replacing path (new_subtree file) (tree.state a)) (GivesNew (staging_of path) file) (IsPutStep path file) m m
      (λ w h. Replacing.before (λ q plain. sym (h q (staging_outside (staging_of path) (has_staging-staging_of path nonempty) q plain)))) (λ s g. inl g) (omega arith) before

  pub over_acted : {A B : Type 0} {m n : ℕ} {c : S} {x : A} {r : Result B TreeFault} → Moves tree → places (tree.state b) ≡ made now (staging_of path) (new_object file now) (places (tree.state a))
      → IsKindIn Directory (places (tree.state a)) (parent_of path) → IsTree (tree.state a) → IsAbsentIn (places (tree.state a)) (staging_of path)
      → Acted tree (SameOutside (is_prefix (staging_of path)) (tree.state a)) (GivesNew (staging_of path) file) m now a b (Ok x)
      → Acted tree (Publishing now path (tree.state b)) (IsPublishing path) n now b c r → Acted tree (Replacing path (new_subtree file) (tree.state a)) (IsPutStep path file) (m + n) now a c r
  over_acted {n = n} moves is parent standing free before last =
      acted_then tree moves (Replacing path (new_subtree file) (tree.state a)) (IsPutStep path file) (over_staged before)
      (acted_weaken tree (Publishing now path (tree.state b)) (Replacing path (new_subtree file) (tree.state a)) (IsPublishing path) (IsPutStep path file) n n
      (over_published now path nonempty file (tree.state a) (tree.state b) is standing free (acted_end tree (SameOutside (is_prefix (staging_of path)) (tree.state a)) (GivesNew (staging_of path) file) before)) (λ s g. inr g) (omega arith) last)
