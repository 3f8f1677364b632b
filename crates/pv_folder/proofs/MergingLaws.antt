-- A manifest that is merged into the tree of what is real, entry by entry.
use Rattle.std.proofs.Common.{◌≡◌, ◌∙◌, Bool, true, false, cond, T, List, [], ◌∷◌, drop, Option, Some, None, IfSome, is_some, option_map, refl, sym, ap, subst, ℕ}
use Rattle.std.specs.Prelude.{slice_get}
use Rattle.std.proofs.lemmas.Option.{same_Some}
use Rattle.std.specs.FinMap as fin
use Rattle.std.specs.FinMap.Entries.{below_all, find, is_sorted}
use Rattle.std.specs.Ordering.{eq_by_cmp, is_eq, is_lt}
use Rattle.pv_path.specs.Paths.{Path, parent_of, path_cmp, path_total, same_path, same_path-decides}
use Rattle.pv_path.proofs.PathLaws.{same_path-refl, tied-same}
use Rattle.pv_path.proofs.Tests.{each_T, less_of-T}
use Rattle.pv_steps.specs.declared.node.Kind.{Kind}
use Rattle.pv_steps.specs.declared.node.Kind.TheVariants.{Directory}
use Rattle.pv_steps.specs.declared.node.Node.{Node}
use Rattle.pv_steps.specs.declared.object.Object.{Object}
use Rattle.pv_steps.specs.Objects.{IsObject, fresh}
use Rattle.pv_steps.specs.Steps.{on_at, put_at}
use Rattle.pv_steps.specs.Trees.{Files, IsTree, Places, kind_of, places}
use Rattle.pv_steps.proofs.StepLaws.{same_files}
use Rattle.pv_tree.specs.Changes.{MayHave, with_node}
use Rattle.pv_tree.specs.Growth.{Grown}
use Rattle.pv_tree.specs.Held.{root_alone}
use Rattle.pv_walk.specs.Nodes.{same_kind}
use Rattle.pv_image.proofs.MappedLaws.{places-mapped}
use Rattle.pv_folder.specs.declared.found.Seen.{Seen}
use Rattle.pv_folder.specs.declared.found.Seen.TheVariants as seen
use Rattle.pv_folder.specs.Merge.{IsPlain, IsPlainAt, with_metadata, is_real_kind, merged, merged_at, merged_of, plain, plained}
use Rattle.pv_folder.specs.Reading.{seen_object}
use Rattle.pv_folder.proofs.MergeLaws.{kind_of-merged, places-merged, metadata_again, same_kind-exact}

abbrev Entries : Type 0
Entries = List (Path × Object)

-- ---- one object

-- what is put where nothing else is
pub put_same : (p : Path) (t : Places) (o : Option Object) → t p ≡ o → t ≡ put_at p o t
put_same p t o is = λ j q. at q j
  where
    at : (q : Path) → t q ≡ put_at p o t q
    at q = by (same_path p q) refl
      where
        by : (b : Bool) → same_path p q ≡ b → t q ≡ cond b o (t q)
        by true e = sym (ap t ((same_path-decides p q).0 e)) ∙ is
        by false e = refl

pub put_inserted : (t : Files) (p : Path) (o : Object) → places (fin.insert t p o) ≡ put_at p (Some o) (places t)
put_inserted t p o = λ j q. (fin.get-insert path_total t p o q ∙ ap (λ b. cond b (Some o) (places t q)) (tied-same q p)) j

on_put : (p : Path) (f : Object → Object) (t : Places) → on_at p f t ≡ put_at p (option_map f (t p)) t
on_put p f t = λ j q. at q j
  where
    at : (q : Path) → on_at p f t q ≡ put_at p (option_map f (t p)) t q
    at q = by (same_path p q) refl
      where
        by : (b : Bool) → same_path p q ≡ b → cond b (option_map f (t q)) (t q) ≡ cond b (option_map f (t p)) (t q)
        by true e = ap (λ (k : Path). option_map f (t k)) (sym ((same_path-decides p q).0 e))
        by false e = refl

-- a real object gets the node of one of its kind, or stays
with_metadata_same : (n : Node) (o : Option Object) (k : Kind) → kind_of o ≡ Some k → same_kind n.kind k ≡ true → option_map (with_node n) o ≡ option_map (with_metadata (Some n)) o
with_metadata_same n None k is same = refl
with_metadata_same n (Some r) k is same =
    let kind : r.node.kind ≡ k = same_Some r.node.kind k is in
    let yes : same_kind n.kind r.node.kind ≡ true = ap (same_kind n.kind) kind ∙ same in
    ap (λ b. Some (cond b (record r { node = n }) (plain r))) (sym yes)

with_metadata_other : (n : Node) (o : Option Object) (k : Kind) → kind_of o ≡ Some k → same_kind n.kind k ≡ false → IfSome o (λ r. plain r ≡ r) → o ≡ option_map (with_metadata (Some n)) o
with_metadata_other n None k is other plains = refl
with_metadata_other n (Some r) k is other plains =
    let kind : r.node.kind ≡ k = same_Some r.node.kind k is in
    let no : same_kind n.kind r.node.kind ≡ false = ap (same_kind n.kind) kind ∙ other in
    ap Some (sym plains) ∙ ap (λ b. Some (cond b (record r { node = n }) (plain r))) (sym no)

pub metadata_same : (p : Path) (n : Node) (t : Places) (k : Kind) → kind_of (t p) ≡ Some k → same_kind n.kind k ≡ true → on_at p (with_node n) t ≡ on_at p (with_metadata (Some n)) t
metadata_same p n t k is same =
    on_put p (with_node n) t ∙ ap (λ (o : Option Object). put_at p o t) (with_metadata_same n (t p) k is same) ∙ sym (on_put p (with_metadata (Some n)) t)

pub metadata_other : (p : Path) (n : Node) (t : Places) (k : Kind) → kind_of (t p) ≡ Some k → same_kind n.kind k ≡ false → IfSome (t p) (λ r. plain r ≡ r) → t ≡ on_at p (with_metadata (Some n)) t
metadata_other p n t k is other plains =
    put_same p t (t p) refl ∙ ap (λ (o : Option Object). put_at p o t) (with_metadata_other n (t p) k is other plains) ∙ sym (on_put p (with_metadata (Some n)) t)

-- where something is real
there : (m : Object) (o : Option Object) (k : Kind) (parent : Option Kind) → kind_of o ≡ Some k → option_map (with_metadata (Some m.node)) o ≡ merged_of (Some m) o parent
there m None k parent is = let no : None ≡ Some k = is in cc
there m (Some r) k parent is = refl

pub merged_there : (p : Path) (m : Object) (t : Places) (k : Kind) → kind_of (t p) ≡ Some k
    → on_at p (with_metadata (Some m.node)) t ≡ put_at p (merged_of (Some m) (t p) (kind_of (t (parent_of p)))) t
merged_there p m t k is = on_put p (with_metadata (Some m.node)) t ∙ ap (λ (o : Option Object). put_at p o t) (there m (t p) k (kind_of (t (parent_of p))) is)

pub absent_of : (o : Option Object) → kind_of o ≡ None → o ≡ None
absent_of None e = refl
absent_of (Some o) e = cc

-- where nothing is
pub dropped_real : (m : Object) (k : Option Kind) → is_real_kind m.node.kind ≡ true → merged_of (Some m) None k ≡ None
dropped_real m None is = refl
dropped_real m (Some Directory) is = ap (λ b. cond b None (Some m)) is
dropped_real m (Some k) is = refl

pub dropped_above : (m : Object) (k : Option Kind) → (k ≡ Some Directory → ⊥) → merged_of (Some m) None k ≡ None
dropped_above m None other = refl
dropped_above m (Some Directory) other = absurd (other refl)
dropped_above m (Some k) other = refl

pub unreal_there : (m : Object) (k : Option Kind) → is_real_kind m.node.kind ≡ false → k ≡ Some Directory → Some m ≡ merged_of (Some m) None k
unreal_there m k other above = ap (λ b. cond b None (Some m)) (sym other) ∙ ap (merged_of (Some m) None) (sym above)

-- an object may get the node of one of its kind
may_have : (n : Node) (payload : List ℕ) (o : Option Object) (k : Kind) → IsObject (record { node = n; payload = payload }) → ((r : Object) → o ≡ Some r → IsObject r)
    → kind_of o ≡ Some k → same_kind n.kind k ≡ true → IfSome o (MayHave n)
may_have n payload None k m whole is same = tt
may_have n payload (Some r) k m whole is same =
    let kinds : n.kind ≡ r.node.kind = same_kind-exact n.kind k same ∙ sym (same_Some r.node.kind k is) in
    (kinds, metadata_again n payload r kinds m (whole r refl))

pub may_have_at : (t : Files) (p : Path) (n : Node) (payload : List ℕ) (k : Kind) → IsTree t → IsObject (record { node = n; payload = payload })
    → kind_of (places t p) ≡ Some k → same_kind n.kind k ≡ true → IfSome (places t p) (MayHave n)
may_have_at t p n payload k tree m is same = may_have n payload (places t p) k m (tree.objects p) is same

-- ---- the directory of an object

unreal_kind : (o : Object) (k : Kind) → is_real_kind k ≡ false → merged_of (Some o) None (Some k) ≡ None
unreal_kind o Directory e = cc
unreal_kind o k e = refl

unreal_above : (o : Object) (m : Option Object) (k : Option Kind) → merged_of (Some o) None (kind_of (merged_of m None k)) ≡ None
unreal_above o None k = refl
unreal_above o (Some m) None = refl
unreal_above o (Some m) (Some Directory) = by (is_real_kind m.node.kind) refl
  where
    by : (b : Bool) → is_real_kind m.node.kind ≡ b → merged_of (Some o) None (kind_of (cond b None (Some m))) ≡ None
    by true e = refl
    by false e = unreal_kind o m.node.kind e
unreal_above o (Some m) (Some k) = refl

-- it does not matter whether the directory was merged
merged_above : (o : Object) (x m r : Option Object) (k : Option Kind) → merged_of (Some o) x (kind_of (merged_of m r k)) ≡ merged_of (Some o) x (kind_of r)
merged_above o (Some y) m r k = refl
merged_above o None m None k = unreal_above o m k
merged_above o None m (Some r) k = ap (merged_of (Some o) None) (kind_of-merged m (Some r) k r.node.kind refl)

-- ---- entry by entry

-- what the manifest says of the paths that are left is still to come; all else is merged
pub record IsMerging (manifest real tree : Files) (left : Entries) : Type 0 where
  pub done : (q : Path) → find path_cmp q left ≡ None → places tree q ≡ merged_at manifest real q
  pub ahead : (q : Path) → is_some (find path_cmp q left) ≡ true → places tree q ≡ places real q
  pub sorted : T (is_sorted path_cmp left)
  pub among : (q : Path) (o : Object) → find path_cmp q left ≡ Some o → places manifest q ≡ Some o

as_it_is : (r : Option Object) (k : Option Kind) → IfSome r (λ o. plain o ≡ o) → r ≡ merged_of None r k
as_it_is None k h = refl
as_it_is (Some o) k h = ap Some (sym h)

pub merging_begins : (manifest real : Files) (left : Entries) → left ≡ fin.entries manifest → IsPlain real → IsMerging manifest real real left
merging_begins manifest real left is plains = record {
  done = λ q none.
      as_it_is (places real q) (kind_of (places real (parent_of q))) (plains q)
      ∙ ap (λ (m : Option Object). merged_of m (places real q) (kind_of (places real (parent_of q)))) (sym none ∙ found q);
  ahead = λ q h. refl;
  sorted = subst (λ (es : Entries). T (is_sorted path_cmp es)) (sym is) (fin.entries_sorted manifest);
  among = λ q o e. sym (found q) ∙ e;
}
  where
    found : (q : Path) → find path_cmp q left ≡ places manifest q
    found q = ap (find path_cmp q) is ∙ sym (fin.get-entries manifest q)

pub merging_ends : (manifest real tree : Files) (left : Entries) → IsMerging manifest real tree left → None ≡ slice_get left 0 → tree ≡ merged manifest real
merging_ends manifest real tree [] m over = same_files tree (merged manifest real) (λ q. m.done q refl ∙ sym (places-merged manifest real q))
merging_ends manifest real tree (e ∷ es) m over = let no : None ≡ Some e = over in cc

find_next : (q p : Path) (es : Entries) → q ≡ p → T (below_all path_cmp p es) → find path_cmp q es ≡ None
find_next q p [] same h = refl
find_next q p (e ∷ es) same h =
    let parts = each_T (is_lt (path_cmp p e.0)) (below_all path_cmp p es) h in
    ap (λ (k : Path). cond (eq_by_cmp path_cmp k e.0) (Some e.1) (find path_cmp q es)) same
    ∙ ap (λ r. cond (is_eq r) (Some e.1) (find path_cmp q es)) (less_of-T (path_cmp p e.0) parts.0)
    ∙ find_next q p es same parts.1

module _ (manifest real tree next : Files) (p : Path) (o : Object) (es : Entries) (m : IsMerging manifest real tree ((p, o) ∷ es))
    (is : places next ≡ put_at p (merged_of (Some o) (places tree p) (kind_of (places tree (parent_of p)))) (places tree)) where
  parts : (T (below_all path_cmp p es)) × (T (is_sorted path_cmp es))
  parts = each_T (below_all path_cmp p es) (is_sorted path_cmp es) m.sorted

  first : find path_cmp p ((p, o) ∷ es) ≡ Some o
  first = ap (λ b. cond b (Some o) (find path_cmp p es)) (tied-same p p ∙ same_path-refl p)

  elsewhere : (q : Path) → same_path p q ≡ false → find path_cmp q ((p, o) ∷ es) ≡ find path_cmp q es
  elsewhere q other = ap (λ b. cond b (Some o) (find path_cmp q es)) (tied-same q p ∙ other)

  still_real : places tree p ≡ places real p
  still_real = m.ahead p (ap is_some first)

  -- the object at the path is merged
  merged_here : merged_of (Some o) (places tree p) (kind_of (places tree (parent_of p))) ≡ merged_at manifest real p
  merged_here =
      ap (λ (r : Option Object). merged_of (Some o) r (kind_of (places tree (parent_of p)))) still_real
      ∙ above (find path_cmp (parent_of p) ((p, o) ∷ es)) refl
      ∙ ap (λ (x : Option Object). merged_of x (places real p) (kind_of (places real (parent_of p)))) (sym (m.among p o first))
    where
      above : (x : Option Object) → find path_cmp (parent_of p) ((p, o) ∷ es) ≡ x
          → merged_of (Some o) (places real p) (kind_of (places tree (parent_of p))) ≡ merged_of (Some o) (places real p) (kind_of (places real (parent_of p)))
      above None e =
          ap (λ (v : Option Object). merged_of (Some o) (places real p) (kind_of v)) (m.done (parent_of p) e)
          ∙ merged_above o (places real p) (places manifest (parent_of p)) (places real (parent_of p)) (kind_of (places real (parent_of (parent_of p))))
      above (Some x) e = ap (λ (v : Option Object). merged_of (Some o) (places real p) (kind_of v)) (m.ahead (parent_of p) (ap is_some e))

  next_at : (q : Path) → places next q ≡ put_at p (merged_of (Some o) (places tree p) (kind_of (places tree (parent_of p)))) (places tree) q
  next_at q = ap (λ (t : Places). t q) is

  away : (q : Path) → same_path p q ≡ false → places next q ≡ places tree q
  away q other = next_at q ∙ ap (λ b. cond b (merged_of (Some o) (places tree p) (kind_of (places tree (parent_of p)))) (places tree q)) other

  later : (q : Path) → is_some (find path_cmp q es) ≡ true → same_path p q ≡ false
  later q some = by (same_path p q) refl
    where
      by : (b : Bool) → same_path p q ≡ b → same_path p q ≡ false
      by true e = let no : false ≡ true = sym (ap is_some (find_next q p es (sym ((same_path-decides p q).0 e)) parts.0)) ∙ some in cc
      by false e = e

  pub merging_on : IsMerging manifest real next es
  merging_on = record {
    done = λ q none. done_at q none (same_path p q) refl;
    ahead = λ q some. away q (later q some) ∙ m.ahead q (ap is_some (elsewhere q (later q some)) ∙ some);
    sorted = parts.1;
    among = λ q x e. m.among q x (elsewhere q (later q (ap is_some e)) ∙ e);
  }
    where
      done_at : (q : Path) → find path_cmp q es ≡ None → (b : Bool) → same_path p q ≡ b → places next q ≡ merged_at manifest real q
      done_at q none true e =
          next_at q ∙ ap (λ b. cond b (merged_of (Some o) (places tree p) (kind_of (places tree (parent_of p)))) (places tree q)) e
          ∙ merged_here ∙ ap (merged_at manifest real) ((same_path-decides p q).0 e)
      done_at q none false e = away q e ∙ m.done q (elsewhere q e ∙ none)

module _ (manifest real tree : Files) (p : Path) (o : Object) (left : Entries) (at : Some (p, o) ≡ slice_get left 0) (m : IsMerging manifest real tree left) where
  split : left ≡ (p, o) ∷ drop 1 left
  split = by left at
    where
      by : (es : Entries) → Some (p, o) ≡ slice_get es 0 → es ≡ (p, o) ∷ drop 1 es
      by [] e = cc
      by (x ∷ es) e = ap (λ (v : Path × Object). v ∷ es) (sym (same_Some (p, o) x e))

  whole_left : IsMerging manifest real tree ((p, o) ∷ drop 1 left)
  whole_left = subst (λ (es : Entries). IsMerging manifest real tree es) split m

  pub said_here : places manifest p ≡ Some o
  said_here = whole_left.among p o (ap (λ b. cond b (Some o) (find path_cmp p (drop 1 left))) (tied-same p p ∙ same_path-refl p))

  pub plain_here : IsPlain real → IsPlainAt tree p
  plain_here plains = subst (λ (x : Option Object). IfSome x (λ r. plain r ≡ r)) (sym (whole_left.ahead p (ap (λ b. is_some (cond b (Some o) (find path_cmp p (drop 1 left)))) (tied-same p p ∙ same_path-refl p)))) (plains p)

  pub merging_next : (next : Files) → places next ≡ put_at p (merged_of (Some o) (places tree p) (kind_of (places tree (parent_of p)))) (places tree) → IsMerging manifest real next (drop 1 left)
  merging_next next is = merging_on manifest real tree next p o (drop 1 left) whole_left is

-- ---- a copy of which the manifest says nothing

plain_again : (o : Option Object) → IfSome (option_map plain o) (λ r. plain r ≡ r)
plain_again None = tt
plain_again (Some o) = refl

pub plained_plain : (t : Files) → IsPlain (plained t)
plained_plain t = λ q. subst (λ (x : Option Object). IfSome x (λ r. plain r ≡ r)) (sym (places-mapped plain t q)) (plain_again (places t q))

with_metadata_again : (n : Option Node) (r : Object) → with_metadata n (plain r) ≡ with_metadata n r
with_metadata_again None r = refl
with_metadata_again (Some n) r = refl

kind_of-plain : (r : Option Object) → kind_of (option_map plain r) ≡ kind_of r
kind_of-plain None = refl
kind_of-plain (Some r) = refl

same_merged : (m r : Option Object) (k : Option Kind) → merged_of m (option_map plain r) k ≡ merged_of m r k
same_merged m None k = refl
same_merged m (Some r) k = ap Some (with_metadata_again (option_map (λ o. o.node) m) r)

pub merged_plained : (manifest real : Files) → merged manifest (plained real) ≡ merged manifest real
merged_plained manifest real = same_files (merged manifest (plained real)) (merged manifest real) (λ q.
    places-merged manifest (plained real) q
    ∙ ap (λ (r : Option Object). merged_of (places manifest q) r (kind_of (places (plained real) (parent_of q)))) (places-mapped plain real q)
    ∙ same_merged (places manifest q) (places real q) (kind_of (places (plained real) (parent_of q)))
    ∙ ap (merged_of (places manifest q) (places real q)) (ap kind_of (places-mapped plain real (parent_of q)) ∙ kind_of-plain (places real (parent_of q)))
    ∙ sym (places-merged manifest real q))

-- ---- what is read of a host

plain_seen : (s : Seen) → plain (seen_object s) ≡ seen_object s
plain_seen (seen.Directory items) = refl
plain_seen (seen.File bytes) = refl

plain_inserted : (t : Files) (p : Path) (o : Object) → plain o ≡ o → IsPlain t → IsPlain (fin.insert t p o)
plain_inserted t p o is plains = λ q. subst (λ (x : Option Object). IfSome x (λ r. plain r ≡ r)) (sym (ap (λ (u : Places). u q) (put_inserted t p o))) (by q (same_path p q))
  where
    by : (q : Path) (b : Bool) → IfSome (cond b (Some o) (places t q)) (λ r. plain r ≡ r)
    by q true = is
    by q false = plains q

pub plain_on : (t : Files) (p : Path) (s : Seen) (b : Grown) → b ≡ record { files = fin.insert t p (seen_object s); last = p } → IsPlain t → IsPlain b.files
plain_on t p s b is plains = subst IsPlain (sym (ap (λ (g : Grown). g.files) is)) (plain_inserted t p (seen_object s) (plain_seen s) plains)

plain_none : IsPlain fin.empty
plain_none = λ q. subst (λ (x : Option Object). IfSome x (λ r. plain r ≡ r)) (sym (fin.get-empty path_cmp q)) tt

pub plain_first : (b : Grown) → b ≡ record { files = root_alone (fresh Directory 0o755 [] 0 0 0).node; last = [] } → IsPlain b.files
plain_first b is = subst IsPlain (sym (ap (λ (g : Grown). g.files) is)) (plain_inserted fin.empty [] (fresh Directory 0o755 [] 0 0 0) refl plain_none)
