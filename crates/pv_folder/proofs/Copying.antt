-- A tree that is copied entry by entry, in the order of the paths.
use Rattle.std.proofs.Common.{◌≡◌, ◌∙◌, true, cond, T, [], ◌∷◌, drop, length, Option, Some, is_some, sym, ap, subst, arith}
use Rattle.std.proofs.lemmas.Option.{same_Some}
use Rattle.std.specs.Prelude.{slice_get}
use Rattle.std.specs.FinMap as fin
use Rattle.std.specs.FinMap.Entries.{find, is_sorted}
use Rattle.std.specs.Option.{option_or}
use Rattle.std.specs.Ordering.{is_eq}
use Rattle.pv_path.specs.Paths.{Path, has_names, path_cmp, path_exact, path_total}
use Rattle.pv_path.proofs.PathLaws.{path_cmp-refl}
use Rattle.pv_steps.specs.declared.node.Kind.TheVariants.{Directory}
use Rattle.pv_steps.specs.declared.object.Object.{Object}
use Rattle.pv_steps.specs.Objects.{IsObject}
use Rattle.pv_steps.specs.Trees.{Files, IsTree, places}
use Rattle.pv_tree.specs.Held.{root_alone}
use Rattle.pv_tree.proofs.PlanLaws.{Planned, held}
use Rattle.pv_tree.proofs.GrowLaws.{IsGrowing, comes_after, root_directory, root_whole, some_planned, start}

pub head : (es : Planned) (e : Path × Object) → Some e ≡ slice_get es 0 → es ≡ e ∷ drop 1 es
head [] e h = cc
head (x ∷ es) e h = ap (λ (v : Path × Object). v ∷ es) (sym (same_Some e x h))

whole : (files : Files) → held (fin.entries files) ≡ files
whole files = fin.same_map path_total path_exact _ _ (λ q. fin.get-from_entries path_total (fin.entries files) q ∙ sym (fin.get-entries files q))

pub some_entry : (files : Files) → IsTree files → fin.entries files ≡ [] → ⊥
some_entry files tree none =
    some_planned (fin.entries files) (λ some. absurd (omega (arith, some, ap length none))) (subst IsTree (sym (whole files)) tree)

-- ---- the root

module _ (files : Files) (tree : IsTree files) (w : Planned) (is : w ≡ fin.entries files) (p : Path) (o : Object) (at : Some (p, o) ≡ slice_get w 0) where
  all : fin.entries files ≡ (p, o) ∷ drop 1 w
  all = sym is ∙ head w (p, o) at

  same : held ((p, o) ∷ drop 1 w) ≡ files
  same = ap held (sym all) ∙ whole files

  held_tree : IsTree (held ((p, o) ∷ drop 1 w))
  held_tree = subst IsTree (sym same) tree

  rise : T (is_sorted path_cmp ((p, o) ∷ drop 1 w))
  rise = subst (λ (es : Planned). T (is_sorted path_cmp es)) all (fin.entries_sorted files)

  pub first_kind : o.node.kind ≡ Directory
  first_kind = root_directory p o (drop 1 w) rise held_tree

  pub first_whole : IsObject (record { node = o.node; payload = [] })
  first_whole = root_whole p o (drop 1 w) rise held_tree

  pub begun : IsGrowing files (root_alone o.node) [] (drop 1 w)
  begun = subst (λ (f : Files). IsGrowing f (root_alone o.node) [] (drop 1 w)) same (start p o (drop 1 w) rise held_tree)

-- ---- the next entry

module _ (wanted files : Files) (last : Path) (w : Planned) (p : Path) (o : Object) (at : Some (p, o) ≡ slice_get w 0) (g : IsGrowing wanted files last w) where
  pub next : IsGrowing wanted files last ((p, o) ∷ drop 1 w)
  next = subst (λ (es : Planned). IsGrowing wanted files last es) (head w (p, o) at) g

  next_there : places wanted p ≡ Some o
  next_there =
      next.split p
      ∙ ap (λ (x : Option Object). option_or x (find path_cmp p ((p, o) ∷ drop 1 w))) (next.past p (comes_after wanted files last p o (drop 1 w) next))
      ∙ ap (λ r. cond (is_eq r) (Some o) (find path_cmp p (drop 1 w))) (path_cmp-refl p)

  pub next_named : IsTree wanted → has_names p ≡ true
  next_named tree = tree.names p (ap is_some next_there)
