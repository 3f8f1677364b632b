-- A tree that grows by the entries of a plan, one after the other in the order of their paths.
use Rattle.std.proofs.Common.{◌≡◌, ◌≢◌, ◌∙◌, Bool, true, false, cond, T, List, [], ◌∷◌, Option, Some, None, is_some, refl, sym, ap, subst, ℕ, ◌<◌, length, arith}
use Rattle.std.specs.FinMap as fin
use Rattle.std.specs.FinMap.Entries.{below_all, find, is_sorted}
use Rattle.std.specs.Option.{option_or}
use Rattle.std.specs.Prelude.{slice_get}
use Rattle.std.specs.Ordering.{eq_by_cmp, is_eq, is_lt, ordering_reverse}
use Rattle.std.specs.declared.cmp.Ordering.TheVariants.{Less}
use Rattle.pv_path.specs.Paths.{Path, parent_of, path_cmp, path_exact, path_total}
use Rattle.pv_path.proofs.PathLaws.{path_cmp-refl, parent_of-less}
use Rattle.pv_steps.specs.declared.node.Kind.{Kind}
use Rattle.pv_steps.specs.declared.node.Kind.TheVariants.{Directory}
use Rattle.pv_steps.specs.declared.object.Object.{Object}
use Rattle.pv_steps.specs.Objects.{IsObject, PayloadFits}
use Rattle.pv_steps.specs.Trees.{Files, IsKind, IsTree, kind_of, places}
use Rattle.pv_tree.specs.Held.{root_alone}
use Rattle.pv_tree.proofs.PlanLaws.{Planned, held}
use Rattle.pv_path.proofs.Tests.{equal_of, less_of-T, each_T}

-- of a wanted tree all up to a path is there, and the other entries are left
pub record IsGrowing (wanted files : Files) (last : Path) (left : Planned) : Type 0 where
  pub sorted : T (is_sorted path_cmp left)
  pub next : T (below_all path_cmp last left)
  pub past : (q : Path) → path_cmp last q ≡ Less → places files q ≡ None
  pub split : (q : Path) → places wanted q ≡ option_or (places files q) (find path_cmp q left)

or_none : (o : Option Object) → option_or o None ≡ o
or_none None = refl
or_none (Some o) = refl

-- ---- the order of paths

find_less : (q p : Path) (es : Planned) → path_cmp q p ≡ Less → T (below_all path_cmp p es) → find path_cmp q es ≡ None
find_less q p [] less h = refl
find_less q p (e ∷ es) less h =
    let parts = each_T (is_lt (path_cmp p e.0)) (below_all path_cmp p es) h in
    let far : path_cmp q e.0 ≡ Less = path_total.trans q p e.0 less (less_of-T (path_cmp p e.0) parts.0) in
    rw far (find_less q p es less parts.1)

not_root : (last p : Path) → path_cmp last p ≡ Less → p ≢ []
not_root [] [] less = cc
not_root (n ∷ last) [] less = cc
not_root [] (m ∷ p) less = λ e. cc
not_root (n ∷ last) (m ∷ p) less = λ e. cc

greater : (p q : Path) → path_cmp p q ≡ Less → eq_by_cmp path_cmp q p ≡ false
greater p q less = ap is_eq (path_total.antisymm q p ∙ ap ordering_reverse less)

-- ---- the next entry

module _ (wanted files : Files) (last p : Path) (o : Object) (left : Planned) (g : IsGrowing wanted files last ((p, o) ∷ left)) where
  -- it comes after the last path
  pub comes_after : path_cmp last p ≡ Less
  comes_after = less_of-T (path_cmp last p) (each_T (is_lt (path_cmp last p)) (below_all path_cmp last left) g.next).0

  pub is_after : is_lt (path_cmp last p) ≡ true
  is_after = ap is_lt comes_after

  below_left : T (below_all path_cmp p left)
  below_left = (each_T (below_all path_cmp p left) (is_sorted path_cmp left) g.sorted).0

  wanted_there : places wanted p ≡ Some o
  wanted_there =
      g.split p ∙ ap (λ (x : Option Object). option_or x (find path_cmp p ((p, o) ∷ left))) (g.past p comes_after)
      ∙ ap (λ r. cond (is_eq r) (Some o) (find path_cmp p left)) (path_cmp-refl p)

  -- it is an object
  pub is_object : IsTree wanted → IsObject o
  is_object tree = tree.objects p o wanted_there

  -- and its directory is there
  pub has_parent : IsTree wanted → IsKind Directory files (parent_of p)
  has_parent tree =
      let other : p ≢ [] = not_root last p comes_after in
      let less : path_cmp (parent_of p) p ≡ Less = parent_of-less p other in
      let none : find path_cmp (parent_of p) ((p, o) ∷ left) ≡ None = ap (λ r. cond (is_eq r) (Some o) (find path_cmp (parent_of p) left)) less ∙ find_less (parent_of p) p left less below_left in
      let same : places wanted (parent_of p) ≡ places files (parent_of p) = g.split (parent_of p) ∙ ap (option_or (places files (parent_of p))) none ∙ or_none (places files (parent_of p)) in
      sym (ap kind_of same) ∙ tree.parents p (ap is_some wanted_there) other

  split_on : (q : Path) (b : Bool) → eq_by_cmp path_cmp q p ≡ b
      → option_or (places files q) (cond b (Some o) (find path_cmp q left)) ≡ option_or (cond b (Some o) (places files q)) (find path_cmp q left)
  split_on q true e =
      let same : q ≡ p = path_exact q p (equal_of (path_cmp q p) e) in
      let none : places files q ≡ None = ap (places files) same ∙ g.past p comes_after in
      ap (λ (x : Option Object). option_or x (Some o)) none
  split_on q false e = refl

  -- and then it is there too
  pub grown : IsGrowing wanted (fin.insert files p o) p left
  grown = record {
    sorted = (each_T (below_all path_cmp p left) (is_sorted path_cmp left) g.sorted).1;
    next = below_left;
    past = λ q less. fin.get-insert path_total files p o q
        ∙ ap (λ b. cond b (Some o) (places files q)) (greater p q less)
        ∙ g.past q (path_total.trans last p q comes_after less);
    split = λ q. g.split q ∙ split_on q (eq_by_cmp path_cmp q p) refl
        ∙ ap (λ (x : Option Object). option_or x (find path_cmp q left)) (sym (fin.get-insert path_total files p o q));
  }

-- where none is left, all is there
pub all_grown : (wanted files : Files) (last : Path) → IsGrowing wanted files last [] → files ≡ wanted
all_grown wanted files last g = fin.same_map path_total path_exact files wanted (λ q. sym (g.split q ∙ or_none (places files q)))

-- ---- the root

module _ (p : Path) (o : Object) (left : Planned) (rise : T (is_sorted path_cmp ((p, o) ∷ left))) (tree : IsTree (held ((p, o) ∷ left))) where
  found : (q : Path) → places (held ((p, o) ∷ left)) q ≡ find path_cmp q ((p, o) ∷ left)
  found q = fin.get-from_entries path_total ((p, o) ∷ left) q

  below_first : T (below_all path_cmp p left)
  below_first = (each_T (below_all path_cmp p left) (is_sorted path_cmp left) rise).0

  root_kind : kind_of (find path_cmp [] ((p, o) ∷ left)) ≡ Some Directory
  root_kind = ap kind_of (sym (found [])) ∙ tree.root

  root_less : path_cmp [] p ≡ Less → ⊥
  root_less less =
      let none : find path_cmp [] ((p, o) ∷ left) ≡ None = ap (λ r. cond (is_eq r) (Some o) (find path_cmp [] left)) less ∙ find_less [] p left less below_first in
      let bad : None ≡ Some Directory = sym (ap kind_of none) ∙ root_kind in
      cc

  -- the first entry is the root
  pub first_root : p ≡ []
  first_root = by p refl
    where
      by : (r : Path) → p ≡ r → p ≡ []
      by [] e = e
      by (n ∷ r) e = absurd (root_less (ap (path_cmp []) e))

  there : places (held ((p, o) ∷ left)) p ≡ Some o
  there = found p ∙ ap (λ r. cond (is_eq r) (Some o) (find path_cmp p left)) (path_cmp-refl p)

  pub root_object : IsObject o
  root_object = tree.objects p o there

  -- a directory
  pub root_directory : o.node.kind ≡ Directory
  root_directory =
      let is : kind_of (Some o) ≡ Some Directory = sym (ap kind_of there) ∙ ap (λ (q : Path). kind_of (places (held ((p, o) ∷ left)) q)) first_root ∙ tree.root in
      cc

  no_payload : o.payload ≡ []
  no_payload = subst (λ (k : Kind). PayloadFits k o.payload) root_directory root_object.payload

  pub root_same : ◌≡◌ {A = Object} (record { node = o.node; payload = [] }) o
  root_same = ap (λ (b : List ℕ). record { node = o.node; payload = b }) (sym no_payload)

  pub root_whole : IsObject (record { node = o.node; payload = [] })
  root_whole = subst IsObject (sym root_same) root_object

  alone : (q : Path) → places (root_alone o.node) q ≡ cond (eq_by_cmp path_cmp q []) (Some o) None
  alone q =
      fin.get-insert path_total fin.empty [] (record { node = o.node; payload = [] }) q
      ∙ ap (λ (x : Object). cond (eq_by_cmp path_cmp q []) (Some x) (places fin.empty q)) root_same
      ∙ ap (λ (x : Option Object). cond (eq_by_cmp path_cmp q []) (Some o) x) (fin.get-empty path_cmp q)

  start_on : (q : Path) (b : Bool) → cond b (Some o) (find path_cmp q left) ≡ option_or (cond b (Some o) None) (find path_cmp q left)
  start_on q true = refl
  start_on q false = refl

  -- with which a tree begins to grow
  pub start : IsGrowing (held ((p, o) ∷ left)) (root_alone o.node) [] left
  start = record {
    sorted = (each_T (below_all path_cmp p left) (is_sorted path_cmp left) rise).1;
    next = subst (λ (r : Path). T (below_all path_cmp r left)) first_root below_first;
    past = λ q less. alone q ∙ ap (λ b. cond b (Some o) None) (greater [] q less);
    split = λ q. found q
        ∙ ap (λ (r : Path). cond (eq_by_cmp path_cmp q r) (Some o) (find path_cmp q left)) first_root
        ∙ start_on q (eq_by_cmp path_cmp q [])
        ∙ ap (λ (x : Option Object). option_or x (find path_cmp q left)) (sym (alone q));
  }

-- an empty plan has no root
pub some_planned : (all : Planned) → (0 < length all → false ≡ true) → IsTree (held all) → ⊥
some_planned [] some tree =
    let none : kind_of (places (held []) []) ≡ None = ap kind_of (fin.get-empty path_cmp []) in
    let root : kind_of (places (held []) []) ≡ Some Directory = tree.root in
    let bad : None ≡ Some Directory = sym none ∙ root in
    cc
some_planned (e ∷ all) some tree = let bad : false ≡ true = some (omega arith) in cc

-- where a walk shows nothing, nothing is left of it
pub walk_over : (left : Planned) → None ≡ slice_get left 0 → left ≡ []
walk_over [] e = refl
walk_over (x ∷ left) e = cc
