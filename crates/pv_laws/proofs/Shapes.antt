-- What lines leave has the shape that the laws need, as what they found had it.
use Rattle.std.specs.Prelude.{◌≡◌, ◌≢◌, ◌⊎◌, ℕ, Bool, true, false, not, cond, ◌&&◌, List, [], ◌∷◌, ◌++◌, Option, Some, None, is_some, option_map}
use Rattle.std.proofs.Common.{refl, sym, ap, subst, ◌∙◌, inl, inr, arith}
use Rattle.std.proofs.lemmas.Bool.{false_from_ne_true}
use Rattle.std.specs.List.{list_all}
use Rattle.std.proofs.lemmas.List.{append-nil}
use Rattle.std.proofs.lemmas.Option.{same_Some}
use Rattle.pv_path.specs.Paths.{has_names, Path, same_path, is_prefix, has_staging, same_path-decides}
use Rattle.pv_path.proofs.PathLaws.{has_names-prefix, same_path-refl, is_prefix-trans, is_prefix-antisym, prefix_parts, has_staging-extends}
use Rattle.pv_steps.specs.declared.node.Kind.{Kind}
use Rattle.pv_steps.specs.declared.node.Kind.TheVariants.{Directory}
use Rattle.pv_steps.specs.declared.object.Object.{Object}
use Rattle.pv_steps.specs.Objects.{is_directory, NumbersFit}
use Rattle.pv_steps.specs.Trees.{Places, kind_of, IsTreeIn}
use Rattle.pv_steps.proofs.TreeLaws.{directory_above}
use Rattle.pv_walk.specs.declared.object_state.ObjectState.{ObjectState}
use Rattle.pv_walk.specs.declared.operation.Change.{Change}
use Rattle.pv_walk.specs.declared.operation.Guard.{Guard}
use Rattle.pv_walk.specs.declared.operation.Operation.{Operation}
use Rattle.pv_walk.specs.declared.operation.Operation.TheVariants.{Make, Renew, Erase, Apply}
use Rattle.pv_walk.specs.Nodes.{object_state_of, object_states_of}
use Rattle.pv_walk.specs.Operations.{admits, changed, done, run}
use Rattle.pv_walk.proofs.EditLaws.{path_cases}
use Rattle.pv_walk.proofs.NodeChanges.{keeps-changed}
use Rattle.pv_walk.specs.Staging.{new_object, new_kind}
use Rattle.pv_table.specs.declared.action.Making.{Making}
use Rattle.pv_table.specs.Asked.{first_of, clears_below, made_at}
use Rattle.pv_table.specs.Pointwise.{parent_object_state}
use Rattle.pv_laws.proofs.Making.{is_dir, IsShaped, does_stay, first_on_none, first_on_some, new_numbers, directory_stays, asked_here, asked_above, asked_else}
use Rattle.pv_laws.proofs.Prepared.{object_state_some}
use Rattle.pv_laws.proofs.Sets.{impossible, is_adjustment, IsMaking, only_adjusts}
use Rattle.pv_path.proofs.Tests.{true_not_false}

-- ---- adjustments keep the kind and the numbers

-- of the same kind, with the same numbers
pub record IsLike (b c : ObjectState) : Type 0 where
  pub kind : c.body.kind ≡ b.body.kind
  pub major : c.body.major ≡ b.body.major
  pub minor : c.body.minor ≡ b.body.minor

change_keeps : (guard : Guard) (change : Change) (b : ObjectState) → IsLike b (cond (admits guard b.body.kind) (changed b.body.kind change b) b)
change_keeps guard change b = by (admits guard b.body.kind)
  where
    by : (t : Bool) → IsLike b (cond t (changed b.body.kind change b) b)
    by true = let keeps = keeps-changed b.body.kind change in record { kind = keeps.same b; major = keeps.major b; minor = keeps.minor b }
    by false = record { kind = refl; major = refl; minor = refl }

pub adjusted_like : (xs : List Operation) → list_all is_adjustment xs ≡ true → (b : ObjectState) → (c : ObjectState) × (run xs (Some b) ≡ Some c) × IsLike b c
adjusted_like [] h b = (b, refl, record { kind = refl; major = refl; minor = refl })
adjusted_like (Make n ∷ xs) h b = impossible h
adjusted_like (Renew test n ∷ xs) h b = impossible h
adjusted_like (Erase ∷ xs) h b = impossible h
adjusted_like (Apply guard change ∷ xs) h b =
    let one = change_keeps guard change b in
    let rest = adjusted_like xs h (cond (admits guard b.body.kind) (changed b.body.kind change b) b) in
    (rest.0, rest.1, record { kind = rest.2.kind ∙ one.kind; major = rest.2.major ∙ one.major; minor = rest.2.minor ∙ one.minor })

-- ---- paths

pub plain_prefix : (p q : Path) → is_prefix p q ≡ true → has_staging q ≡ false → has_staging p ≡ false
plain_prefix p q above plain = false_from_ne_true _ (λ e. true_not_false (has_staging q) (has_staging-extends p q above e) plain)

-- where nothing stands but a directory, one stands once a parent is put
pub parent_dir : (b : Option ObjectState) → (is_some b ≡ true → is_dir b ≡ true) → is_dir (done (Make parent_object_state) b) ≡ true
parent_dir b h = grind arith

-- ---- what a making leaves

module _ (making : Making) (is : IsMaking making) (path : Path) (unstaged : has_staging path ≡ false) (a : Path → Option ObjectState) (shape : IsShaped a)
    (rooted : path ≡ [] → is_directory (new_kind making.new.what) ≡ true)
    (pass : (p : Path) → is_prefix p path ≡ true → p ≢ path → is_some (a p) ≡ true → is_dir (a p) ≡ true) where
  abbrev made : Path → Option ObjectState
  made q = run (made_at making path q) (a q)

  abbrev own : ObjectState
  own = object_state_of (new_object making.new 0)

  -- the object at the path then: the new object, or one like that which stood there and stays
  pub data IsHere (z : ObjectState) : Type 0 where
    fresh : z ≡ own → IsHere z
    kept : (x : ObjectState) → a path ≡ Some x → IsLike x z → IsHere z

  on_object : (x : ObjectState) → a path ≡ Some x → (stay : Bool) → does_stay making is making.renew x ≡ stay → (z : ObjectState) × (run making.sets (Some (cond stay x own)) ≡ Some z) × IsHere z
  on_object x e true s = let like = adjusted_like making.sets (only_adjusts (new_kind making.new.what) making.sets is.only) x in (like.0, like.1, kept x e like.2)
  on_object x e false s = (own, is.once, fresh refl)

  here : (z : ObjectState) × (made path ≡ Some z) × IsHere z
  here = by (a path) refl
    where
      asked_so : made_at making path path ≡ first_of making ∷ making.sets
      asked_so = asked_here making path path (same_path-refl path)

      by : (b : Option ObjectState) → a path ≡ b → (z : ObjectState) × (made path ≡ Some z) × IsHere z
      by None e = (own, ap (λ xs. run xs (a path)) asked_so ∙ ap (run (first_of making ∷ making.sets)) e ∙ ap (run making.sets) (first_on_none making is) ∙ is.once, fresh refl)
      by (Some x) e =
          let found = on_object x e (does_stay making is making.renew x) refl in
          (found.0, ap (λ xs. run xs (a path)) asked_so ∙ ap (run (first_of making ∷ making.sets)) e ∙ ap (run making.sets) (first_on_some making is x) ∙ found.1, found.2)

  -- above the path stands a directory
  above_made : (p : Path) → is_prefix p path ≡ true → p ≢ path → made p ≡ done (Make parent_object_state) (a p)
  above_made p high other = ap (λ xs. run xs (a p)) (asked_above making path p (by (path_cases path p)) high)
    where
      by : (path ≡ p) ⊎ (same_path path p ≡ false) → same_path path p ≡ false
      by (inl e) = absurd (other (sym e))
      by (inr d) = d

  dir_above : (p : Path) → is_prefix p path ≡ true → p ≢ path → is_dir (made p) ≡ true
  dir_above p high other = ap is_dir (above_made p high other) ∙ parent_dir (a p) (pass p high other)

  -- elsewhere what stood there, where anything is left
  else_made : (q : Path) → same_path path q ≡ false → is_prefix q path ≡ false → made q ≡ run (cond (is_prefix path q && clears_below making) (Erase ∷ []) []) (a q)
  else_made q d above = ap (λ xs. run xs (a q)) (asked_else making path q d above)

  pub still_there : (q : Path) → same_path path q ≡ false → is_prefix q path ≡ false → is_some (made q) ≡ true → ((is_prefix path q && clears_below making) ≡ false) × (is_some (a q) ≡ true)
  still_there q d above there = by (is_prefix path q && clears_below making) refl (sym (ap is_some (else_made q d above)) ∙ there)
    where
      by : (b : Bool) → (is_prefix path q && clears_below making) ≡ b → is_some (run (cond b (Erase ∷ []) []) (a q)) ≡ true → ((is_prefix path q && clears_below making) ≡ false) × (is_some (a q) ≡ true)
      by b e h = grind arith

  -- a directory in which something is left stays
  dir_stays : (p q : Path) → is_prefix p q ≡ true → (is_prefix path q && clears_below making) ≡ false → has_staging p ≡ false → is_dir (a p) ≡ true → is_dir (made p) ≡ true
  dir_stays p q above keeps plain dir = elim (path_cases path p) [
    | inl e ↦ at_path (ap (λ (r : Path). is_prefix r q) e ∙ above) (ap (λ r. is_dir (a r)) e ∙ dir) e
    | inr d ↦ by d (is_prefix p path) refl
  ]
    where
      clears_not : is_prefix path q ≡ true → clears_below making ≡ false
      clears_not below = sym (ap (λ b. b && clears_below making) below) ∙ keeps

      dir_some : (b : Option ObjectState) → is_dir b ≡ true → (x : ObjectState) × (b ≡ Some x) × (is_directory x.body.kind ≡ true)
      dir_some b h = grind arith

      at_path : is_prefix path q ≡ true → is_dir (a path) ≡ true → path ≡ p → is_dir (made p) ≡ true
      at_path below h e = subst (λ (r : Path). is_dir (made r) ≡ true) e (
          let found = dir_some (a path) h in
          let numbers = shape.plain path found.0 unstaged found.1 found.2 in
          let stay : does_stay making is making.renew found.0 ≡ true = directory_stays making is found.0 (found.2, numbers.0, numbers.1) ∙ ap not (clears_not below) in
          let like = adjusted_like making.sets (only_adjusts (new_kind making.new.what) making.sets is.only) found.0 in
          ap is_dir (
          ap (λ xs. run xs (a path)) (asked_here making path path (same_path-refl path)) ∙ ap (run (first_of making ∷ making.sets)) found.1
          ∙ ap (run making.sets) (first_on_some making is found.0 ∙ ap (λ b. Some (cond b found.0 own)) stay) ∙ like.1)
          ∙ ap is_directory like.2.kind ∙ found.2)

      by : same_path path p ≡ false → (b : Bool) → is_prefix p path ≡ b → is_dir (made p) ≡ true
      by d true high = dir_above p high (λ e. true_not_false (same_path path p) ((same_path-decides path p).1 (sym e)) d)
      by d false high = ap is_dir (else_made p d high ∙ ap (λ b. run (cond b (Erase ∷ []) []) (a p)) (not_cleared (is_prefix path p) refl)) ∙ dir
        where
          not_cleared : (b : Bool) → is_prefix path p ≡ b → (is_prefix path p && clears_below making) ≡ false
          not_cleared true e = ap (λ b. b && clears_below making) e ∙ clears_not (is_prefix-trans path p q e above)
          not_cleared false e = ap (λ b. b && clears_below making) e

  dir_over : (p q : Path) → has_staging q ≡ false → is_prefix p q ≡ true → p ≢ q → is_some (made q) ≡ true → is_dir (made p) ≡ true
  dir_over p q plain above other there = elim (path_cases path q) [
    | inl e ↦ dir_above p (ap (is_prefix p) e ∙ above) (λ s. other (s ∙ e))
    | inr d ↦ by d (is_prefix q path) refl
  ]
    where
      by : same_path path q ≡ false → (b : Bool) → is_prefix q path ≡ b → is_dir (made p) ≡ true
      by d true high = dir_above p (is_prefix-trans p q path above high) (λ s. (let back : is_prefix path q ≡ true = ap (λ (r : Path). is_prefix r q) (sym s) ∙ above in true_not_false (same_path path q) ((same_path-decides path q).1 (is_prefix-antisym path q back high)) d))
      by d false high =
          let left = still_there q d high there in
          dir_stays p q above left.0 (plain_prefix p q above plain) (shape.above p q plain above other left.1)

  -- directories have no numbers
  own_numbers : is_directory own.body.kind ≡ true → (own.body.major ≡ 0) × (own.body.minor ≡ 0)
  own_numbers h = new_numbers making is making.new.what h

  numbers_at : (q : Path) (x : ObjectState) → has_staging q ≡ false → made q ≡ Some x → is_directory x.body.kind ≡ true → (x.body.major ≡ 0) × (x.body.minor ≡ 0)
  numbers_at q x plain e dir = elim (path_cases path q) [ inl s ↦ at s | inr d ↦ by d (is_prefix q path) refl ]
    where
      like_numbers : (z : ObjectState) → IsHere z → is_directory z.body.kind ≡ true → (z.body.major ≡ 0) × (z.body.minor ≡ 0)
      like_numbers z (fresh s) h = subst (λ (w : ObjectState). (w.body.major ≡ 0) × (w.body.minor ≡ 0)) (sym s) (own_numbers (ap (λ (w : ObjectState). is_directory w.body.kind) (sym s) ∙ h))
      like_numbers z (kept y s like) h =
          let old = shape.plain path y unstaged s (ap is_directory (sym like.kind) ∙ h) in
          (like.major ∙ old.0, like.minor ∙ old.1)

      at : path ≡ q → (x.body.major ≡ 0) × (x.body.minor ≡ 0)
      at s = let same : here.0 ≡ x = same_Some here.0 x (sym here.1 ∙ ap made s ∙ e) in
          subst (λ (w : ObjectState). (w.body.major ≡ 0) × (w.body.minor ≡ 0)) same (like_numbers here.0 here.2 (ap (λ (w : ObjectState). is_directory w.body.kind) same ∙ dir))

      parent_numbers : (b : Option ObjectState) → a q ≡ b → done (Make parent_object_state) b ≡ Some x → (x.body.major ≡ 0) × (x.body.minor ≡ 0)
      parent_numbers None s h = subst (λ (w : ObjectState). (w.body.major ≡ 0) × (w.body.minor ≡ 0)) (same_Some parent_object_state x h) (refl, refl)
      parent_numbers (Some y) s h = shape.plain q x plain (s ∙ h) dir

      by : same_path path q ≡ false → (b : Bool) → is_prefix q path ≡ b → (x.body.major ≡ 0) × (x.body.minor ≡ 0)
      by d true high = parent_numbers (a q) refl (sym (above_made q high (λ s. true_not_false (same_path path q) ((same_path-decides path q).1 (sym s)) d)) ∙ e)
      by d false high =
          let left = still_there q d high (ap is_some e) in
          shape.plain q x plain (sym (ap (λ b. run (cond b (Erase ∷ []) []) (a q)) left.0) ∙ sym (else_made q d high) ∙ e) dir

  root_made : is_dir (made []) ≡ true
  root_made = elim (path_cases path []) [
    | inl e ↦ at e
    | inr d ↦ dir_above [] refl (λ e. true_not_false (same_path path []) ((same_path-decides path []).1 (sym e)) d)
  ]
    where
      like_dir : (z : ObjectState) → path ≡ [] → IsHere z → is_directory z.body.kind ≡ true
      like_dir z e (fresh s) = ap (λ (w : ObjectState). is_directory w.body.kind) s ∙ rooted e
      like_dir z e (kept y s like) = ap is_directory like.kind ∙ sym (ap is_dir s) ∙ ap (λ r. is_dir (a r)) e ∙ shape.root

      at : path ≡ [] → is_dir (made []) ≡ true
      at e = subst (λ (r : Path). is_dir (made r) ≡ true) e (ap is_dir here.1 ∙ like_dir here.0 e here.2)

  named_at : has_names path ≡ true → (q : Path) → has_staging q ≡ false → is_some (made q) ≡ true → has_names q ≡ true
  named_at names q plain there = elim (path_cases path q) [ inl e ↦ subst (λ (r : Path). has_names r ≡ true) e names | inr d ↦ by d (is_prefix q path) refl ]
    where
      by : same_path path q ≡ false → (b : Bool) → is_prefix q path ≡ b → has_names q ≡ true
      by d true high = has_names-prefix q path high names
      by d false high = shape.named q plain (still_there q d high there).1

  pub made_shaped : has_names path ≡ true → IsShaped made
  made_shaped names = record { root = root_made; above = dir_over; plain = numbers_at; named = named_at names }

-- ---- what sets leave

-- what keeps presence, kind and numbers keeps the shape
pub shaped_like : (a b : Path → Option ObjectState) → ((q : Path) → has_staging q ≡ false → (b q ≡ a q) ⊎ ((x : ObjectState) × (y : ObjectState) × (a q ≡ Some x) × (b q ≡ Some y) × IsLike x y)) → IsShaped a → IsShaped b
shaped_like a b like shape = record {
  root = dir [] refl shape.root;
  above = λ p q plain above other there. dir p (plain_prefix p q above plain) (shape.above p q plain above other (back q plain there));
  plain = λ q y plain e h. numbers q y plain e h (like q plain);
  named = λ q plain there. shape.named q plain (back q plain there);
}
  where
    dir : (q : Path) → has_staging q ≡ false → is_dir (a q) ≡ true → is_dir (b q) ≡ true
    dir q plain h = by (like q plain)
      where
        by : (b q ≡ a q) ⊎ ((x : ObjectState) × (y : ObjectState) × (a q ≡ Some x) × (b q ≡ Some y) × IsLike x y) → is_dir (b q) ≡ true
        by (inl e) = ap is_dir e ∙ h
        by (inr both) = ap is_dir both.3 ∙ ap is_directory both.4.kind ∙ sym (ap is_dir both.2) ∙ h

    back : (q : Path) → has_staging q ≡ false → is_some (b q) ≡ true → is_some (a q) ≡ true
    back q plain h = by (like q plain)
      where
        by : (b q ≡ a q) ⊎ ((x : ObjectState) × (y : ObjectState) × (a q ≡ Some x) × (b q ≡ Some y) × IsLike x y) → is_some (a q) ≡ true
        by (inl e) = sym (ap is_some e) ∙ h
        by (inr both) = ap is_some both.2

    numbers : (q : Path) (y : ObjectState) → has_staging q ≡ false → b q ≡ Some y → is_directory y.body.kind ≡ true
        → (b q ≡ a q) ⊎ ((x : ObjectState) × (z : ObjectState) × (a q ≡ Some x) × (b q ≡ Some z) × IsLike x z) → (y.body.major ≡ 0) × (y.body.minor ≡ 0)
    numbers q y plain e h (inl s) = shape.plain q y plain (sym s ∙ e) h
    numbers q y plain e h (inr both) =
        let same : both.1 ≡ y = same_Some both.1 y (sym both.3 ∙ e) in
        let old = shape.plain q both.0 plain both.2 (ap is_directory (sym both.4.kind) ∙ ap (λ (w : ObjectState). is_directory w.body.kind) same ∙ h) in
        subst (λ (w : ObjectState). (w.body.major ≡ 0) × (w.body.minor ≡ 0)) same (both.4.major ∙ old.0, both.4.minor ∙ old.1)

-- what is the same at paths without staging names has the same shape
pub shape_same : (a b : Path → Option ObjectState) → ((q : Path) → has_staging q ≡ false → b q ≡ a q) → IsShaped a → IsShaped b
shape_same a b same shape = shaped_like a b (λ q plain. inl (same q plain)) shape

-- ---- trees

-- what a tree holds as a directory is one
pub kind_dir : (o : Option Object) → kind_of o ≡ Some Directory → is_dir (option_map object_state_of o) ≡ true
kind_dir None h = absurd (let no : None ≡ Some Directory = h in cc)
kind_dir (Some x) h = (let same : x.node.kind ≡ Directory = by x.node.kind h in ap is_directory same)
  where
    by : (k : Kind) → Some k ≡ Some Directory → k ≡ Directory
    by k e = cc

-- each tree has the shape
pub tree_shaped : (t : Places) → IsTreeIn t → IsShaped (object_states_of t)
tree_shaped t tree = record { root = kind_dir (t []) tree.root; above = above; plain = plain; named = λ q unstaged there. tree.names q (sym (object_state_some (t q)) ∙ there) }
  where
    above : (p q : Path) → has_staging q ≡ false → is_prefix p q ≡ true → p ≢ q → is_some (object_states_of t q) ≡ true → is_dir (object_states_of t p) ≡ true
    above p q plain high other there = by parts.0 parts.1
      where
        parts : (r : Path) × (q ≡ p ++ r)
        parts = prefix_parts p q high

        by : (r : Path) → q ≡ p ++ r → is_dir (object_states_of t p) ≡ true
        by [] e = absurd (other (sym (e ∙ append-nil p)))
        by (name ∷ rest) e = kind_dir (t p) (directory_above t tree p name rest (ap (λ (x : Path). is_some (t x)) (sym e) ∙ sym (object_state_some (t q)) ∙ there))

    fitting : (kind : Kind) (major minor : ℕ) → is_directory kind ≡ true → NumbersFit kind major minor → (major ≡ 0) × (minor ≡ 0)
    fitting kind major minor h fit = grind arith

    plain : (q : Path) (x : ObjectState) → has_staging q ≡ false → object_states_of t q ≡ Some x → is_directory x.body.kind ≡ true → (x.body.major ≡ 0) × (x.body.minor ≡ 0)
    plain q x unstaged e h = by (t q) refl e
      where
        by : (o : Option Object) → t q ≡ o → option_map object_state_of o ≡ Some x → (x.body.major ≡ 0) × (x.body.minor ≡ 0)
        by None f g = absurd (let no : None ≡ Some x = g in cc)
        by (Some o) f g =
            let same : object_state_of o ≡ x = same_Some (object_state_of o) x g in
            subst (λ (w : ObjectState). (w.body.major ≡ 0) × (w.body.minor ≡ 0)) same
            (fitting o.node.kind o.node.major o.node.minor (ap (λ (w : ObjectState). is_directory w.body.kind) same ∙ h) (tree.objects q o f).numbers)
