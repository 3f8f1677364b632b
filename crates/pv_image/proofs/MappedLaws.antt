-- A tree with each object changed: what it has, entry by entry, and that it is a tree.
use Rattle.std.specs.Prelude.{◌≡◌, Bool, true, false, cond, ◌&&◌, T, List, [], ◌∷◌, map, drop, Option, Some, None, is_some, option_map, slice_get}
use Rattle.std.proofs.Common.{refl, sym, ap, subst, ◌∙◌}
use Rattle.std.proofs.lemmas.Option.{same_Some}
use Rattle.std.specs.FinMap as fin
use Rattle.std.specs.FinMap.Entries.{below_all, find, is_sorted}
use Rattle.std.specs.Ordering.{eq_by_cmp, is_lt}
use Rattle.pv_path.specs.Paths.{Path, parent_of, path_cmp}
use Rattle.pv_steps.specs.declared.object.Object.{Object}
use Rattle.pv_steps.specs.Objects.{IsObject}
use Rattle.pv_steps.specs.Trees.{Files, IsTree, kind_of, places, tabulate}
use Rattle.pv_steps.proofs.StepLaws.{among_keys, places-tabulate, same_files}

is_some-mapped : (f : Object → Object) (o : Option Object) → is_some (option_map f o) ≡ is_some o
is_some-mapped f None = refl
is_some-mapped f (Some o) = refl

-- a tree with each object changed, and an entry of it
abbrev pub mapped : (Object → Object) → Files → Files
mapped f t = tabulate (fin.keys t) (λ path. option_map f (places t path))

abbrev pub shown_by : (Object → Object) → Path × Object → Path × Object
shown_by f e = (e.0, f e.1)

pub first_by : (f : Object → Object) (w : List (Path × Object)) (e : Path × Object) → Some e ≡ slice_get w 0 → Some (shown_by f e) ≡ slice_get (map (shown_by f) w) 0
first_by f [] e h = cc
first_by f (x ∷ es) e h = ap (λ (v : Path × Object). Some (shown_by f v)) (same_Some e x h)

pub rest_by : (f : Object → Object) (w : List (Path × Object)) → drop 1 (map (shown_by f) w) ≡ map (shown_by f) (drop 1 w)
rest_by f [] = refl
rest_by f (x ∷ es) = refl

module _ (f : Object → Object) where
  pub places-mapped : (t : Files) (q : Path) → places (mapped f t) q ≡ option_map f (places t q)
  places-mapped t q = places-tabulate (fin.keys t) (λ path. option_map f (places t path)) q (λ h. among_keys t q ∙ sym (is_some-mapped f (places t q)) ∙ h)

  -- ---- entries

  below_same : (p : Path) (es : List (Path × Object)) → below_all path_cmp p (map (shown_by f) es) ≡ below_all path_cmp p es
  below_same p [] = refl
  below_same p (e ∷ es) = ap (λ b. is_lt (path_cmp p e.0) && b) (below_same p es)

  sorted_same : (es : List (Path × Object)) → is_sorted path_cmp (map (shown_by f) es) ≡ is_sorted path_cmp es
  sorted_same [] = refl
  sorted_same (e ∷ es) = ap (λ b. b && is_sorted path_cmp (map (shown_by f) es)) (below_same e.0 es) ∙ ap (λ b. below_all path_cmp e.0 es && b) (sorted_same es)

  sorted_shown : (t : Files) → T (is_sorted path_cmp (map (shown_by f) (fin.entries t)))
  sorted_shown t = subst T (sym (sorted_same (fin.entries t))) (fin.entries_sorted t)

  find_shown : (q : Path) (es : List (Path × Object)) → find path_cmp q (map (shown_by f) es) ≡ option_map f (find path_cmp q es)
  find_shown q [] = refl
  find_shown q (e ∷ es) = by (eq_by_cmp path_cmp q e.0) (find_shown q es)
    where
      by : (b : Bool) → find path_cmp q (map (shown_by f) es) ≡ option_map f (find path_cmp q es)
          → cond b (Some (f e.1)) (find path_cmp q (map (shown_by f) es)) ≡ option_map f (cond b (Some e.1) (find path_cmp q es))
      by true rest = refl
      by false rest = rest

  listed : (t : Files) → fin.from_sorted (map (shown_by f) (fin.entries t)) ≡ mapped f t
  listed t = same_files _ _ (λ q.
      fin.get-from_sorted path_cmp (map (shown_by f) (fin.entries t)) q (sorted_shown t)
      ∙ find_shown q (fin.entries t)
      ∙ ap (option_map f) (sym (fin.get-entries t q))
      ∙ sym (places-mapped t q))

  pub entries-mapped : (t : Files) → map (shown_by f) (fin.entries t) ≡ fin.entries (mapped f t)
  entries-mapped t = sym (fin.entries-from_sorted path_cmp (map (shown_by f) (fin.entries t)) (sorted_shown t)) ∙ ap (λ (m : Files). fin.entries m) (listed t)

  -- ---- the tree

  module _ (keeps : (o : Object) → (f o).node.kind ≡ o.node.kind) (whole : (o : Object) → IsObject o → IsObject (f o)) where
    kind_mapped : (o : Option Object) → kind_of (option_map f o) ≡ kind_of o
    kind_mapped None = refl
    kind_mapped (Some o) = ap Some (keeps o)

    object_mapped : (o : Option Object) (x : Object) → ((y : Object) → o ≡ Some y → IsObject y) → option_map f o ≡ Some x → IsObject x
    object_mapped None x h e = cc
    object_mapped (Some o) x h e = subst IsObject (same_Some (f o) x e) (whole o (h o refl))

    pub tree_mapped : (t : Files) → IsTree t → IsTree (mapped f t)
    tree_mapped t tree = record {
      root = kind_at [] ∙ tree.root;
      parents = λ q there other. kind_at (parent_of q) ∙ tree.parents q (still q there) other;
      names = λ q there. tree.names q (still q there);
      objects = λ q o is. object_mapped (places t q) o (tree.objects q) (sym (places-mapped t q) ∙ is);
    }
      where
        kind_at : (q : Path) → kind_of (places (mapped f t) q) ≡ kind_of (places t q)
        kind_at q = ap kind_of (places-mapped t q) ∙ kind_mapped (places t q)

        still : (q : Path) → is_some (places (mapped f t) q) ≡ true → is_some (places t q) ≡ true
        still q there = sym (ap is_some (places-mapped t q) ∙ is_some-mapped f (places t q)) ∙ there
