-- A tree of which no manifest says anything, made entry by entry, in the order of the paths.
use Rattle.std.proofs.Common.{◌≡◌, ◌∙◌, true, Some, [], ◌∷◌, drop, map, refl, ap, subst}
use Rattle.std.specs.Prelude.{slice_get}
use Rattle.std.specs.Ordering.{is_lt}
use Rattle.std.specs.FinMap as fin
use Rattle.pv_path.specs.Paths.{Path, has_names, parent_of, path_cmp}
use Rattle.pv_steps.specs.declared.node.Kind.TheVariants.{Directory}
use Rattle.pv_steps.specs.declared.object.Object.{Object}
use Rattle.pv_steps.specs.Objects.{IsObject}
use Rattle.pv_steps.specs.Trees.{Files, IsKind, IsTree}
use Rattle.pv_tree.specs.Held.{root_alone}
use Rattle.pv_tree.proofs.PlanLaws.{Planned}
use Rattle.pv_tree.proofs.GrowLaws.{IsGrowing, grown, has_parent, is_after, is_object}
use Rattle.pv_folder.proofs.Copying.{begun, first_kind, first_whole, next, next_named}
use Rattle.pv_image.proofs.MappedLaws.{entries-mapped, first_by, rest_by, shown_by, tree_mapped}
use Rattle.pv_folder.specs.Merge.{plain, plained}
use Rattle.pv_folder.proofs.MergeLaws.{IsObject-plain}

plained_tree : (t : Files) → IsTree t → IsTree (plained t)
plained_tree = tree_mapped plain (λ o. refl) IsObject-plain

-- ---- the root

module _ (t : Files) (tree : IsTree t) (w : Planned) (is : w ≡ fin.entries t) (p : Path) (o : Object) (at : Some (p, o) ≡ slice_get w 0) where
  listed : map (shown_by plain) w ≡ fin.entries (plained t)
  listed = ap (map (shown_by plain)) is ∙ entries-mapped plain t

  pub root_kind : (plain o).node.kind ≡ Directory
  root_kind = first_kind (plained t) (plained_tree t tree) (map (shown_by plain) w) listed p (plain o) (first_by plain w (p, o) at)

  pub root_whole : IsObject (record { node = (plain o).node; payload = [] })
  root_whole = first_whole (plained t) (plained_tree t tree) (map (shown_by plain) w) listed p (plain o) (first_by plain w (p, o) at)

  pub root_begun : IsGrowing (plained t) (root_alone (plain o).node) [] (map (shown_by plain) (drop 1 w))
  root_begun =
      subst (λ (es : Planned). IsGrowing (plained t) (root_alone (plain o).node) [] es) (rest_by plain w)
      (begun (plained t) (plained_tree t tree) (map (shown_by plain) w) listed p (plain o) (first_by plain w (p, o) at))

-- ---- the next entry

module _ (t files : Files) (last : Path) (w : Planned) (p : Path) (o : Object) (at : Some (p, o) ≡ slice_get w 0)
    (g : IsGrowing (plained t) files last (map (shown_by plain) w)) (tree : IsTree t) where
  more : IsGrowing (plained t) files last ((p, plain o) ∷ drop 1 (map (shown_by plain) w))
  more = next (plained t) files last (map (shown_by plain) w) p (plain o) (first_by plain w (p, o) at) g

  pub is_named : has_names p ≡ true
  is_named = next_named (plained t) files last (map (shown_by plain) w) p (plain o) (first_by plain w (p, o) at) g (plained_tree t tree)

  pub is_whole : IsObject (plain o)
  is_whole = is_object (plained t) files last p (plain o) (drop 1 (map (shown_by plain) w)) more (plained_tree t tree)

  pub comes_after : is_lt (path_cmp last p) ≡ true
  comes_after = is_after (plained t) files last p (plain o) (drop 1 (map (shown_by plain) w)) more

  pub in_directory : IsKind Directory files (parent_of p)
  in_directory = has_parent (plained t) files last p (plain o) (drop 1 (map (shown_by plain) w)) more (plained_tree t tree)

  pub then_grown : IsGrowing (plained t) (fin.insert files p (plain o)) p (map (shown_by plain) (drop 1 w))
  then_grown =
      subst (λ (es : Planned). IsGrowing (plained t) (fin.insert files p (plain o)) p es) (rest_by plain w)
      (grown (plained t) files last p (plain o) (drop 1 (map (shown_by plain) w)) more)
