-- Runs of removals, one after another.
use Rattle.std.specs.Prelude.{◌≡◌, ◌≢◌, ◌⊎◌, ◌↔◌, ℕ, ◌+◌, ◌≤◌, Bool, true, false, IsTrue, [], Option, Some, None, option_map, Result, Ok}
use Rattle.std.specs.Option.{option_map_or}
use Rattle.std.proofs.Common.{refl, sym, ap, subst, ◌∙◌, inl, inr, arith}
use Rattle.pv_path.specs.Paths.{Path, is_prefix, same_path, parent_of, same_path-decides}
use Rattle.pv_steps.specs.Objects.{object_state, is_directory, modified}
use Rattle.pv_path.proofs.PathLaws.{same_path-refl}
use Rattle.pv_steps.specs.declared.node.Kind.{Kind}
use Rattle.pv_steps.specs.declared.node.Kind.TheVariants.{Directory, File, Link, Fifo, CharDevice, BlockDevice}
use Rattle.pv_steps.specs.Trees.{Files, Places, places, kind_of, IsPresent, IsEmptyIn, IsKind}
use Rattle.pv_steps.specs.Steps.{Can, after, after_at, gone}
use Rattle.pv_steps.specs.Runs.{HasEffect}
use Rattle.pv_steps.specs.Same.{Differ}
use Rattle.pv_steps.proofs.StepLaws.{at_after}
use Rattle.pv_steps.specs.declared.tree.Tree.{Ghosts}
use Rattle.pv_steps.specs.declared.tree.TreeFault.{TreeFault}
use Rattle.pv_steps.specs.Acting.{Acted}
use Rattle.pv_steps.proofs.ActingLaws.{Moves, Asks, acted_then, acted_weaken, acted_end}
use Rattle.pv_walk.specs.Edits.{Pruned}
use Rattle.pv_steps.specs.Content.{Removes}
use Rattle.pv_steps.proofs.ContentLaws.{removes-wider}
use Rattle.pv_walk.specs.Removal.{is_below, removal, removal_at, MayHaveGone}
use Rattle.pv_walk.proofs.RemovalLaws.{kept-object_state, gone-here, gone-other, gone-parent}
use Rattle.pv_walk.proofs.Outcomes.{gone_differs}
use Rattle.pv_walk.proofs.SweepLaws.{pruned_then, pruned-none, pruned-wider, below_prefix}

-- one object gone, or not: all else is as it was, timestamps aside
pub may_prune : (now : ℕ) (path : Path) (t u : Files) → MayHaveGone now path t u → Pruned (same_path path) t u
may_prune now path t u (inl same) = subst (Pruned (same_path path) t) (sym same) (pruned-none (same_path path) t)
may_prune now path t u (inr is) = record {
  outside = λ q d. ap (option_map object_state) (ap (λ (x : Places). x q) is) ∙ kept-object_state now (places t q) (gone now path (places t) q) (by q d (same_path (parent_of path) q) refl);
  within = λ q e. inl (ap (λ (x : Places). x q) is ∙ subst (λ r. gone now path (places t) r ≡ None) ((same_path-decides path q).0 e) (gone-here now path (places t)));
}
  where
    by : (q : Path) → same_path path q ≡ false → (b : Bool) → same_path (parent_of path) q ≡ b → (gone now path (places t) q ≡ places t q) ⊎ (gone now path (places t) q ≡ option_map (modified now) (places t q))
    by q d true e = inr (gone-parent now path (places t) q d e)
    by q d false e = inl (gone-other now path (places t) q d e)

module _ {S : Type 0} (tree : Ghosts S) (moves : Moves tree) (inside : Path → Bool) {A B : Type 0} {m n now : ℕ} {a b c : S} {x : A} {r : Result B TreeFault}
    (before : Acted tree (Pruned inside (tree.state a)) (Removes inside) m now a b (Ok x)) where
  -- a call that prunes within the same, after one that does
  pub prune_then : (narrow : Path → Bool) → ((q : Path) → narrow q ≡ true → inside q ≡ true) → Acted tree (Pruned narrow (tree.state b)) (Removes narrow) n now b c r
      → Acted tree (Pruned inside (tree.state a)) (Removes inside) (m + n) now a c r
  prune_then narrow within last =
      acted_then tree moves (Pruned inside (tree.state a)) (Removes inside) before
      (acted_weaken tree (Pruned narrow (tree.state b)) (Pruned inside (tree.state a)) (Removes narrow) (Removes inside) n n
      (λ w p. pruned_then inside (tree.state a) (tree.state b) (acted_end tree (Pruned inside (tree.state a)) (Removes inside) before) narrow within w p)
      (removes-wider narrow inside within) (omega arith) last)

  -- the removal of one object, after such a call
  pub remove_then : (path : Path) → inside path ≡ true → Acted tree (MayHaveGone now path (tree.state b)) (Removes (same_path path)) n now b c r
      → Acted tree (Pruned inside (tree.state a)) (Removes inside) (m + n) now a c r
  remove_then path within last =
      prune_then (same_path path) (λ q e. subst (λ p. inside p ≡ true) ((same_path-decides path q).0 e) within)
      (acted_weaken tree (MayHaveGone now path (tree.state b)) (Pruned (same_path path) (tree.state b)) (Removes (same_path path)) (Removes (same_path path)) n n
      (λ w gone. may_prune now path (tree.state b) w gone) (λ s q. q) (omega arith) last)

-- what was taken below a path was taken at or below it
pub widened : {S : Type 0} (tree : Ghosts S) (path : Path) {A : Type 0} {m now : ℕ} {a b : S} {r : Result A TreeFault} (n : ℕ) → m ≤ n
    → Acted tree (Pruned (is_below path) (tree.state a)) (Removes (is_below path)) m now a b r → Acted tree (Pruned (is_prefix path) (tree.state a)) (Removes (is_prefix path)) n now a b r
widened tree path {m = m} {a = a} n le acted =
    acted_weaken tree (Pruned (is_below path) (tree.state a)) (Pruned (is_prefix path) (tree.state a)) (Removes (is_below path)) (Removes (is_prefix path)) m n
    (λ w p. pruned-wider (is_below path) (is_prefix path) (below_prefix path) (tree.state a) w p) (removes-wider (is_below path) (is_prefix path) (below_prefix path)) le acted

-- ---- the step that takes away one object

-- the test of the object at a path is whether it is a directory
pub directory_decides : (kind : Option Kind) → IsTrue (option_map_or is_directory kind false) ↔ (kind ≡ Some Directory)
directory_decides None = (λ h. cc, λ e. cc)
directory_decides (Some Directory) = (λ h. refl, λ e. refl)
directory_decides (Some File) = (λ h. cc, λ e. cc)
directory_decides (Some Link) = (λ h. cc, λ e. cc)
directory_decides (Some Fifo) = (λ h. cc, λ e. cc)
directory_decides (Some CharDevice) = (λ h. cc, λ e. cc)
directory_decides (Some BlockDevice) = (λ h. cc, λ e. cc)

module _ (now : ℕ) (path : Path) where
  removal_leaves : (directory : Bool) (t : Places) → after_at t (removal directory path) now ≡ gone now path t
  removal_leaves true t = refl
  removal_leaves false t = refl

  -- what it leaves, also where the object stood in another tree
  pub after_removal : (files t u : Files) → u ≡ after t (removal_at files path) now → places u ≡ gone now path (places t)
  after_removal files t u is = ap places is ∙ at_after t (removal_at files path) now ∙ removal_leaves (option_map_or is_directory (kind_of (places files path)) false) (places t)

  module _ (files t : Files) (same : kind_of (places files path) ≡ kind_of (places t path)) (present : IsPresent t path) (empty : IsEmptyIn (places t) path) (nonempty : path ≢ []) where
    can_remove : (directory : Bool) → IsTrue directory ↔ IsKind Directory t path → Can (places t) (removal directory path)
    can_remove true kind = (kind.0 refl, (empty, nonempty))
    can_remove false kind = (present, λ is. (let no : false ≡ true = kind.1 is in cc))

    removal_busy : (directory : Bool) → Differ t (after t (removal directory path) now) → HasEffect t (removal directory path) now
    removal_busy true differ = differ
    removal_busy false differ = differ

    removal_removes : (directory : Bool) → Removes (same_path path) (removal directory path)
    removal_removes true = same_path-refl path
    removal_removes false = same_path-refl path

    -- it may be asked for, also where the object, of the same kind, stood in another tree
    pub removal_asks : Asks (MayHaveGone now path t) (Removes (same_path path)) t (removal_at files path) now
    removal_asks =
        let directory = option_map_or is_directory (kind_of (places files path)) false in
        record {
          start = inl refl;
          can = can_remove directory (subst (λ (k : Option Kind). IsTrue directory ↔ (k ≡ Some Directory)) same (directory_decides (kind_of (places files path))));
          busy = removal_busy directory (gone_differs t (after t (removal_at files path) now) path now present (after_removal files t (after t (removal_at files path) now) refl));
          there = λ u is. inr (after_removal files t u is);
          gives = removal_removes directory;
        }
