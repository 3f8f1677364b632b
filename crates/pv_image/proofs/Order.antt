-- What comes after all entries of a list that is in order.
use Rattle.std.proofs.Common.{◌≡◌, ◌≢◌, ℕ, ◌-◌, Bool, true, false, ◌&&◌, List, [], ◌∷◌, ◌++◌, Option, Some, None, option_map, refl, sym, ap, ◌∙◌, subst, T}
use Rattle.std.specs.List.{list_all, list_any}
use Rattle.std.specs.Ordering.{is_lt, ordering_reverse}
use Rattle.std.specs.Cmp.{IsTotalOrder}
use Rattle.std.specs.FinMap as fin
use Rattle.std.specs.FinMap.Entries.{below_all}
use Rattle.std.specs.declared.cmp.Ordering.{Ordering}
use Rattle.std.specs.declared.cmp.Ordering.TheVariants.{Less, Equal, Greater}
use Rattle.pv_path.specs.Paths.{Path, path_cmp, path_total, same_path, parent_of, same_path-decides}
use Rattle.pv_path.proofs.PathLaws.{path_cmp-exact, path_cmp-refl, same_path-no}
use Rattle.pv_steps.specs.declared.node.Kind.{Kind}
use Rattle.pv_steps.specs.declared.node.Kind.TheVariants.{Directory, File, Link, Fifo, CharDevice, BlockDevice}
use Rattle.pv_steps.specs.declared.node.Node.{Node}
use Rattle.pv_steps.specs.declared.object.Object.{Object}
use Rattle.pv_steps.specs.Objects.{PayloadFits, is_directory}
use Rattle.std.proofs.lemmas.List.{nil_from_length}
use Rattle.std.proofs.lemmas.Bool.{and_parts, and_from}
use Rattle.std.proofs.Math.Bool.{or-false}
use Rattle.pv_steps.specs.Trees.{Files, IsKind, kind_of, node_at, places}
use Rattle.pv_image.specs.Images.{follows, has_parent}
use Rattle.pv_path.proofs.Tests.{less_of, less_of-T, each_T}
use Rattle.pv_steps.proofs.ObjectLaws.{directory_is}

pub turned : {K : Type 0} {R : K → K → Ordering} → IsTotalOrder R → (a k : K) → is_lt (R a k) ≡ true → R k a ≡ Greater
turned {R = R} o a k e = o.antisymm k a ∙ ap ordering_reverse (less_of (R a k) e)

module _ {K X : Type 0} (R : K → K → Ordering) where
  abbrev pub all_before : List (K × X) → K → Bool
  all_before es k = list_all (λ e. is_lt (R e.0 k)) es

  -- what comes after the last comes after all
  pub before_all : IsTotalOrder R → (es : List (K × X)) (k : K) → T (fin.is_sorted R es) → follows R es k ≡ true → all_before es k ≡ true
  before_all o [] k h e = refl
  before_all o (x ∷ []) k h e = and_from (is_lt (R x.0 k)) true e refl
  before_all o (x ∷ y ∷ es) k h e =
      let rest = before_all o (y ∷ es) k (each_T (below_all R x.0 (y ∷ es)) (fin.is_sorted R (y ∷ es)) h).1 e in
      let below = (each_T (below_all R x.0 (y ∷ es)) (fin.is_sorted R (y ∷ es)) h).0 in
      let one : R x.0 y.0 ≡ Less = less_of-T (R x.0 y.0) (each_T (is_lt (R x.0 y.0)) (below_all R x.0 es) below).0 in
      let two : R y.0 k ≡ Less = less_of (R y.0 k) (and_parts (is_lt (R y.0 k)) (all_before es k) rest).0 in
      let three : R x.0 k ≡ Less = o.trans x.0 y.0 k one two in
      and_from (is_lt (R x.0 k)) (all_before (y ∷ es) k) (ap is_lt three) rest

  -- it is put at the end
  pub put_last : IsTotalOrder R → (es : List (K × X)) (k : K) (v : X) → all_before es k ≡ true → fin.put R k v es ≡ es ++ (k, v) ∷ []
  put_last o [] k v e = refl
  put_last o (x ∷ es) k v e =
      let parts = and_parts (is_lt (R x.0 k)) (all_before es k) e in
      let below : fin.put R k v es ≡ es ++ (k, v) ∷ [] = put_last o es k v parts.1 in
      let greater : R k x.0 ≡ Greater = turned o x.0 k parts.0 in
      rw greater (ap (λ (ys : List (K × X)). x ∷ ys) below)

  -- and is not there yet
  pub find_last : IsTotalOrder R → (es : List (K × X)) (k : K) → all_before es k ≡ true → fin.find R k es ≡ None
  find_last o [] k e = refl
  find_last o (x ∷ es) k e =
      let parts = and_parts (is_lt (R x.0 k)) (all_before es k) e in
      let greater : R k x.0 ≡ Greater = turned o x.0 k parts.0 in
      rw greater (find_last o es k parts.1)

-- ---- directories

unfoldable pub dir_at : Option Object → Bool
dir_at None = false
dir_at (Some o) = is_directory o.node.kind

abbrev pub is_dir_at : Path → Path × Object → Bool
is_dir_at path e = same_path e.0 path && is_directory e.1.node.kind

none_below : (path : Path) (es : List (Path × Object)) → T (below_all path_cmp path es) → list_any (is_dir_at path) es ≡ false
none_below path [] h = refl
none_below path (e ∷ es) h =
    let less : path_cmp path e.0 ≡ Less = less_of-T (path_cmp path e.0) (each_T (is_lt (path_cmp path e.0)) (below_all path_cmp path es) h).0 in
    let other : same_path e.0 path ≡ false = same_path-no e.0 path (λ q. let tied : path_cmp path e.0 ≡ Equal = subst (λ (p : Path). path_cmp path p ≡ Equal) (sym q) (path_cmp-refl path) in cc) in
    rw other (none_below path es (each_T (is_lt (path_cmp path e.0)) (below_all path_cmp path es) h).1)

pub any_dir : (path : Path) (es : List (Path × Object)) → T (fin.is_sorted path_cmp es) → list_any (is_dir_at path) es ≡ dir_at (fin.find path_cmp path es)
unfolding dir_at
any_dir path [] h = refl
any_dir path (e ∷ es) h = by_order_of (any_dir path es (each_T (below_all path_cmp e.0 es) (fin.is_sorted path_cmp es) h).1) (path_cmp path e.0) refl
  where
    apart : (r : Ordering) → path_cmp path e.0 ≡ r → r ≢ Equal → same_path e.0 path ≡ false
    apart r q other = same_path-no e.0 path (λ s. other (sym q ∙ subst (λ (p : Path). path_cmp path p ≡ Equal) (sym s) (path_cmp-refl path)))

    by_order_of : list_any (is_dir_at path) es ≡ dir_at (fin.find path_cmp path es) → (r : Ordering) → path_cmp path e.0 ≡ r → list_any (is_dir_at path) (e ∷ es) ≡ dir_at (fin.find path_cmp path (e ∷ es))
    by_order_of below Less q = let other = apart Less q (λ s. cc) in rw (q, other) below
    by_order_of below Greater q = let other = apart Greater q (λ s. cc) in rw (q, other) below
    by_order_of below Equal q =
        let same : path ≡ e.0 = path_cmp-exact path e.0 q in
        let is : same_path e.0 path ≡ true = (same_path-decides e.0 path).1 (sym same) in
        let none : list_any (is_dir_at path) es ≡ false = none_below path es (subst (λ (p : Path). T (below_all path_cmp p es)) (sym same) (each_T (below_all path_cmp e.0 es) (fin.is_sorted path_cmp es) h).0) in
        rw (q, is, none) (or-false (is_directory e.1.node.kind))

at_node : Option Node → Bool
at_node None = false
at_node (Some node) = is_directory node.kind

dir_node : (o : Option Object) → dir_at o ≡ at_node (option_map (λ x. x.node) o)
unfolding dir_at at_node
dir_node None = refl
dir_node (Some o) = refl

parent_is : (files : Files) (path : Path) → has_parent (fin.entries files) path ≡ at_node (node_at files (parent_of path))
parent_is files path =
    any_dir (parent_of path) (fin.entries files) (fin.entries_sorted files) ∙ ap dir_at (sym (fin.get-entries files (parent_of path))) ∙ dir_node (places files (parent_of path))

pub has_parent-some : (files : Files) (path : Path) (node : Node) → Some node ≡ node_at files (parent_of path) → has_parent (fin.entries files) path ≡ is_directory node.kind
unfolding at_node
has_parent-some files path node e = parent_is files path ∙ ap at_node (sym e)

-- what has a parent may be added below it
pub has_parent-kind : (files : Files) (path : Path) → has_parent (fin.entries files) path ≡ true → IsKind Directory files (parent_of path)
unfolding dir_at
has_parent-kind files path e = by_place (places files (parent_of path)) refl
  where
    dir : dir_at (places files (parent_of path)) ≡ true
    dir = ap dir_at (fin.get-entries files (parent_of path)) ∙ sym (any_dir (parent_of path) (fin.entries files) (fin.entries_sorted files)) ∙ e

    by_place : (o : Option Object) → places files (parent_of path) ≡ o → IsKind Directory files (parent_of path)
    by_place None q = absurd (let bad : false ≡ true = rw q at dir in cc)
    by_place (Some o) q = let is : is_directory o.node.kind ≡ true = rw q at dir in rw q (ap Some (directory_is o.node.kind is))

-- a test of the directory of a path tells whether it was read before
pub has_parent-from_kind : (files : Files) (path : Path) (b : Bool) → (b ≡ true → IsKind Directory files (parent_of path)) → (IsKind Directory files (parent_of path) → b ≡ true) → b ≡ has_parent (fin.entries files) path
has_parent-from_kind files path b to from = by b refl (has_parent (fin.entries files) path) refl
  where
    held : (o : Option Object) → places files (parent_of path) ≡ o → IsKind Directory files (parent_of path) → has_parent (fin.entries files) path ≡ true
    held None q kind = absurd (let no : None ≡ Some Directory = sym (ap kind_of q) ∙ kind in cc)
    held (Some o) q kind =
        let is : o.node.kind ≡ Directory = (let both : Some o.node.kind ≡ Some Directory = sym (ap kind_of q) ∙ kind in cc) in
        has_parent-some files path o.node (sym (ap (option_map (λ (x : Object). x.node)) q)) ∙ ap is_directory is

    by : (c : Bool) → b ≡ c → (d : Bool) → has_parent (fin.entries files) path ≡ d → c ≡ d
    by true e true f = refl
    by false e false f = refl
    by true e false f = (let no : false ≡ true = sym f ∙ held (places files (parent_of path)) refl (to e) in cc)
    by false e true f = (let no : false ≡ true = sym e ∙ from (has_parent-kind files path f) in cc)

-- what follows the last entry of a map is absent, and is put at the end
module _ {K X : Type 0} {R : K → K → Ordering} (o : IsTotalOrder R) (m : fin.FinMap R X) (k : K) (last : follows R (fin.entries m) k ≡ true) where
  after : all_before R (fin.entries m) k ≡ true
  after = before_all R o (fin.entries m) k (fin.entries_sorted m) last

  pub absent_last : fin.get m k ≡ None
  absent_last = fin.get-entries m k ∙ find_last R o (fin.entries m) k after

  pub insert_last : (v : X) → fin.entries (fin.insert m k v) ≡ fin.entries m ++ (k, v) ∷ []
  insert_last v = fin.entries-insert o m k v ∙ put_last R o (fin.entries m) k v after

-- ---- the tree of a root alone

entries_none : fin.entries (fin.empty {X = Object} {R = path_cmp}) ≡ []
entries_none = nil_from_length (fin.entries fin.empty) (sym (fin.len-entries fin.empty) ∙ fin.len-empty path_cmp Object)

no_payload : (kind : Kind) (payload : List ℕ) → is_directory kind ≡ true → PayloadFits kind payload → payload ≡ []
no_payload Directory payload e fits = fits
no_payload File payload e fits = cc
no_payload Link payload e fits = cc
no_payload Fifo payload e fits = cc
no_payload CharDevice payload e fits = cc
no_payload BlockDevice payload e fits = cc

pub root_alone : (path : Path) (o : Object) → path ≡ [] → is_directory o.node.kind ≡ true → PayloadFits o.node.kind o.payload → fin.entries (fin.insert (fin.empty {R = path_cmp}) [] (record { node = o.node; payload = [] })) ≡ (path, o) ∷ []
root_alone path o root dir fits =
    let made : Object = record { node = o.node; payload = [] } in
    let same : made ≡ o = ap (λ (p : List ℕ). record { node = o.node; payload = p }) (sym (no_payload o.node.kind o.payload dir fits)) in
    fin.entries-insert path_total fin.empty [] made ∙ ap (fin.put path_cmp [] made) entries_none ∙ ap (λ (e : Path × Object). e ∷ []) (λ i. (sym root i, same i))
