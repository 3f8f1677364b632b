-- What holds of a tree that is gone through by listings alone, whatever they name: each object comes after the last one and
-- lies in a directory that was seen.
use Rattle.std.proofs.Common.{◌≡◌, ◌∙◌, Bool, true, false, cond, List, [], ◌∷◌, ◌++◌, map, Some, None, refl, sym, ap, subst, ℕ, append-nil}
use Rattle.std.specs.List.{AllByRecursion}
use Rattle.std.specs.Ordering.{eq_by_cmp, is_eq, ordering_reverse}
use Rattle.std.specs.declared.cmp.Ordering.TheVariants.{Less}
use Rattle.std.specs.FinMap as fin
use Rattle.pv_path.specs.Names.{name_cmp}
use Rattle.pv_path.specs.Paths.{Path, is_prefix, path_cmp, path_total}
use Rattle.pv_path.proofs.PathLaws.{is_prefix-append, is_prefix-refl, is_prefix-trans, path_cmp-refl, tied-equal}
use Rattle.pv_steps.specs.declared.node.Kind.TheVariants.{Directory, File}
use Rattle.pv_steps.specs.declared.object.Object.{Object}
use Rattle.pv_steps.specs.Objects.{fresh}
use Rattle.pv_steps.specs.Trees.{Files, IsKind, kind_of, places}
use Rattle.pv_folder.specs.declared.item.HostItem.{HostItem}
use Rattle.pv_folder.specs.Lists.{is_ordered}
use Rattle.pv_tree.specs.Held.{root_alone}
use Rattle.pv_folder.specs.declared.found.Found.{Found}
use Rattle.pv_folder.specs.declared.found.Seen.{Seen}
use Rattle.pv_folder.specs.declared.found.Seen.TheVariants as seen
use Rattle.pv_folder.specs.Reading.{found_below, found_in, items_of, path_of, seen_object}
use Rattle.pv_folder.proofs.Preorder.{Rise, beside-less, less-below}
use Rattle.pv_folder.proofs.ReadingLaws.{all_both, names_of, ordered_rise}

-- all that stands at and below each of them comes before the later ones
abbrev pub Apart : List Found → Type 0
Apart [] = Unit {0}
Apart (x ∷ next) = AllByRecursion (λ (y : Found). (q : Path) → is_prefix (path_of x) q ≡ true → path_cmp q (path_of y) ≡ Less) next × Apart next

pub record IsStacked (files : Files) (last : Path) (next : List Found) : Type 0 where
  pub inside : AllByRecursion (λ (x : Found). IsKind Directory files x.directory) next
  pub after : AllByRecursion (λ (x : Found). path_cmp last (path_of x) ≡ Less) next
  pub apart : Apart next
  pub past : (q : Path) → path_cmp last q ≡ Less → places files q ≡ None

greater : (p q : Path) → path_cmp p q ≡ Less → eq_by_cmp path_cmp q p ≡ false
greater p q less = ap is_eq (path_total.antisymm q p ∙ ap ordering_reverse less)

-- ---- what is found in a directory

children_after : (p : Path) (items : List HostItem) → AllByRecursion (λ (x : Found). path_cmp p (path_of x) ≡ Less) (map (found_in p) items)
children_after p [] = tt
children_after p (i ∷ items) = (less-below p i.name [], children_after p items)

children_inside : (files : Files) (p : Path) (items : List HostItem) → IsKind Directory files p → AllByRecursion (λ (x : Found). IsKind Directory files x.directory) (map (found_in p) items)
children_inside files p [] is = tt
children_inside files p (i ∷ items) is = (is, children_inside files p items is)

beside : (p : Path) (n : List ℕ) (items : List HostItem) → AllByRecursion (λ m. name_cmp n m ≡ Less) (names_of items)
    → AllByRecursion (λ (y : Found). (q : Path) → is_prefix (p ++ n ∷ []) q ≡ true → path_cmp q (path_of y) ≡ Less) (map (found_in p) items)
beside p n [] h = tt
beside p n (i ∷ items) h = ((λ q at. beside-less p n i.name q (p ++ i.name ∷ []) h.0 at (is_prefix-refl (p ++ i.name ∷ []))), beside p n items h.1)

-- what comes after all at and below a path comes after all at and below a child
narrowed : (p : Path) (n : List ℕ) (next : List Found) → AllByRecursion (λ (y : Found). (q : Path) → is_prefix p q ≡ true → path_cmp q (path_of y) ≡ Less) next
    → AllByRecursion (λ (y : Found). (q : Path) → is_prefix (p ++ n ∷ []) q ≡ true → path_cmp q (path_of y) ≡ Less) next
narrowed p n [] h = tt
narrowed p n (y ∷ next) h = ((λ q at. h.0 q (is_prefix-trans p (p ++ n ∷ []) q (is_prefix-append p (n ∷ [])) at)), narrowed p n next h.1)

children_apart : (p : Path) (items : List HostItem) (next : List Found) → Rise (names_of items)
    → AllByRecursion (λ (y : Found). (q : Path) → is_prefix p q ≡ true → path_cmp q (path_of y) ≡ Less) next → Apart next → Apart (map (found_in p) items ++ next)
children_apart p [] next rise h apart = apart
children_apart p (i ∷ items) next rise h apart = (
  all_both (λ (y : Found). (q : Path) → is_prefix (p ++ i.name ∷ []) q ≡ true → path_cmp q (path_of y) ≡ Less) (map (found_in p) items) next (beside p i.name items rise.0) (narrowed p i.name next h),
  children_apart p items next rise.1 h apart,
)

later : (p : Path) (next : List Found) → AllByRecursion (λ (y : Found). (q : Path) → is_prefix p q ≡ true → path_cmp q (path_of y) ≡ Less) next
    → AllByRecursion (λ (y : Found). path_cmp p (path_of y) ≡ Less) next
later p [] h = tt
later p (y ∷ next) h = (h.0 p (is_prefix-refl p), later p next h.1)

-- ---- the next object

module _ (files : Files) (last : Path) (x : Found) (next : List Found) (s : IsStacked files last (x ∷ next)) where
  none_yet : places files (path_of x) ≡ None
  none_yet = s.past (path_of x) s.after.0

  module _ (o : Object) where
    kept : (q : Path) → IsKind Directory files q → IsKind Directory (fin.insert files (path_of x) o) q
    kept q is = ap kind_of (fin.get-insert path_total files (path_of x) o q) ∙ by (eq_by_cmp path_cmp q (path_of x)) refl
      where
        by : (b : Bool) → eq_by_cmp path_cmp q (path_of x) ≡ b → kind_of (cond b (Some o) (places files q)) ≡ Some Directory
        by true e = absurd (let no : None ≡ Some Directory = sym (ap kind_of (ap (places files) (tied-equal q (path_of x) e) ∙ none_yet)) ∙ is in cc)
        by false e = is

    all_kept : (ys : List Found) → AllByRecursion (λ (y : Found). IsKind Directory files y.directory) ys
        → AllByRecursion (λ (y : Found). IsKind Directory (fin.insert files (path_of x) o) y.directory) ys
    all_kept [] h = tt
    all_kept (y ∷ ys) h = (kept y.directory h.0, all_kept ys h.1)

    itself : o.node.kind ≡ Directory → IsKind Directory (fin.insert files (path_of x) o) (path_of x)
    itself is =
        ap kind_of (fin.get-insert path_total files (path_of x) o (path_of x))
        ∙ ap (λ r. kind_of (cond (is_eq r) (Some o) (places files (path_of x)))) (path_cmp-refl (path_of x)) ∙ ap Some is

    past_next : (q : Path) → path_cmp (path_of x) q ≡ Less → places (fin.insert files (path_of x) o) q ≡ None
    past_next q less =
        fin.get-insert path_total files (path_of x) o q
        ∙ ap (λ b. cond b (Some o) (places files q)) (greater (path_of x) q less)
        ∙ s.past q (path_total.trans last (path_of x) q s.after.0 less)

    -- with it taken, what is found in it comes first, and then what is left
    pub stacked : (items : List HostItem) → o.node.kind ≡ Directory → Rise (names_of items)
        → IsStacked (fin.insert files (path_of x) o) (path_of x) (map (found_in (path_of x)) items ++ next)
    stacked items is rise = record {
      inside = all_both (λ (y : Found). IsKind Directory (fin.insert files (path_of x) o) y.directory) (map (found_in (path_of x)) items) next
          (children_inside (fin.insert files (path_of x) o) (path_of x) items (itself is)) (all_kept next s.inside.1);
      after = all_both (λ (y : Found). path_cmp (path_of x) (path_of y) ≡ Less) (map (found_in (path_of x)) items) next (children_after (path_of x) items) (later (path_of x) next s.apart.0);
      apart = children_apart (path_of x) items next rise s.apart.0 s.apart.1;
      past = past_next;
    }

    pub stacked_alone : IsStacked (fin.insert files (path_of x) o) (path_of x) next
    stacked_alone = record {
      inside = all_kept next s.inside.1;
      after = later (path_of x) next s.apart.0;
      apart = s.apart.1;
      past = past_next;
    }

-- what was seen, taken
pub stacked_seen : (files : Files) (last : Path) (x : Found) (next : List Found) → IsStacked files last (x ∷ next) → (what : Seen) → is_ordered (items_of what) ≡ true
    → IsStacked (fin.insert files (path_of x) (seen_object what)) (path_of x) (found_below (path_of x) what ++ next)
stacked_seen files last x next s (seen.Directory items) ordered = stacked files last x next s (fresh Directory 0o755 [] 0 0 0) items refl (ordered_rise items ordered)
stacked_seen files last x next s (seen.File bytes) ordered = stacked_alone files last x next s (fresh File 0o644 bytes 0 0 0)

-- ---- the root alone

-- what is found in the root
pub stacked_first : (root : Object) → root.node.kind ≡ Directory → (items : List HostItem) → is_ordered items ≡ true
    → IsStacked (root_alone root.node) [] (map (found_in []) items)
stacked_first root is items ordered = record {
  inside = children_inside (root_alone root.node) [] items
      (ap kind_of (fin.get-insert path_total fin.empty [] (record { node = root.node; payload = [] }) []) ∙ ap Some is);
  after = children_after [] items;
  apart = subst Apart (append-nil (map (found_in []) items)) (children_apart [] items [] (ordered_rise items ordered) tt tt);
  past = λ q less. fin.get-insert path_total fin.empty [] (record { node = root.node; payload = [] }) q
      ∙ ap (λ b. cond b (Some (record { node = root.node; payload = [] })) (places fin.empty q)) (greater [] q less) ∙ fin.get-empty path_cmp q;
}
