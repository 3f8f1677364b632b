-- Laws of a prepared path: the prefixes of a path, what is taken away along it, and which parents are put.
use Rattle.std.specs.Prelude.{◌≡◌, ◌≢◌, ℕ, ◌+◌, Bool, true, false, cond, ◌&&◌, ◌||◌, List, [], ◌∷◌, map, length, take, fold, Option, Some, None, is_some, option_map}
use Rattle.std.proofs.Common.{zero, suc, refl, sym, ap, subst, ◌∙◌, arith, inl, inr, ◌⊎◌}
use Rattle.std.specs.List.{list_any, range_with_len, AllByRecursion}
use Rattle.std.specs.Ordering.{is_eq}
use Rattle.pv_path.specs.Names.{same_bytes}
use Rattle.pv_path.specs.Paths.{Path, same_path, is_prefix, parent_of, has_staging, staging_of}
use Rattle.pv_path.proofs.PathLaws.{same_bytes-decides, path_cmp-refl, is_prefix-refl, is_prefix-parent_of, is_prefix-trans, parent_of-is_prefix, length-prefix, length-parent_of, has_staging-staging_of, tied-same}
use Rattle.pv_steps.specs.declared.object.Object.{Object}
use Rattle.pv_steps.specs.Steps.{touched, made, put_at}
use Rattle.pv_steps.specs.Trees.{Places}
use Rattle.pv_steps.proofs.StepLaws.{is_among, is_some-touched, later_among}
use Rattle.pv_walk.specs.Edits.{cut, taken, all_taken}
use Rattle.pv_walk.specs.Nodes.{object_state_of, object_states_of}
use Rattle.pv_walk.proofs.EditLaws.{path_cases, object_states-touched, staging_outside}
use Rattle.pv_walk.proofs.OperationLaws.{object_states_of-same}
use Rattle.pv_walk.specs.Preparing.{parents_of, parent_file, with_parent, prepared}
use Rattle.pv_walk.specs.Staging.{prefixes, staging_names, is_under_any, new_object}

-- ---- lists of paths

pub among_first : (q : Path) (paths : List Path) → is_among q (q ∷ paths) ≡ true
among_first q paths = ap (λ o. is_eq o || is_among q paths) (path_cmp-refl q)

-- one of some paths that is not the first of them
pub among_others : (q path : Path) (paths : List Path) → same_path path q ≡ false → is_among q (path ∷ paths) ≡ true → is_among q paths ≡ true
among_others q path paths other h = sym (ap (λ b. b || is_among q paths) (tied-same q path ∙ other)) ∙ h

-- ---- the prefixes of a path

shifted : (name : List ℕ) (path : Path) (j m : ℕ)
    → map (λ k. take k (name ∷ path)) (range_with_len (suc j) m) ≡ map (λ (p : Path). name ∷ p) (map (λ k. take k path) (range_with_len j m))
shifted name path j zero = refl
shifted name path j (suc m) =
    let next : suc j + 1 ≡ suc (j + 1) = omega arith in
    ap (λ n. take (suc j) (name ∷ path) ∷ map (λ k. take k (name ∷ path)) (range_with_len n m)) next
    ∙ ap (λ ps. (name ∷ take j path) ∷ ps) (shifted name path (j + 1) m)

-- those of a path that is longer by a first name
pub prefixes-cons : (name : List ℕ) (path : Path) → prefixes (name ∷ path) ≡ (name ∷ []) ∷ map (λ (p : Path). name ∷ p) (prefixes path)
prefixes-cons name path =
    let two : 1 + 1 ≡ suc 1 = omega arith in
    ap (λ n. (name ∷ take zero path) ∷ map (λ k. take k (name ∷ path)) (range_with_len n (length path))) two
    ∙ ap (λ ps. (name ∷ []) ∷ ps) (shifted name path 1 (length path))

-- whether a path is one of some paths
abbrev pub stands_in : Path → List Path → Bool
stands_in q paths = list_any (λ p. same_path p q) paths

-- whether a path has a name, and so is not the root
abbrev pub has_some : Path → Bool
has_some [] = false
has_some (name ∷ path) = true

root_in_longer : (name : List ℕ) (paths : List Path) → stands_in [] (map (λ (p : Path). name ∷ p) paths) ≡ false
root_in_longer name [] = refl
root_in_longer name (p ∷ paths) = root_in_longer name paths

in_longer : (name other : List ℕ) (q : Path) (paths : List Path) → stands_in (other ∷ q) (map (λ (p : Path). name ∷ p) paths) ≡ (same_bytes name other && stands_in q paths)
in_longer name other q [] = by (same_bytes name other)
  where
    by : (b : Bool) → false ≡ (b && false)
    by true = refl
    by false = refl
in_longer name other q (p ∷ paths) =
    ap (λ b. (same_bytes name other && same_path p q) || b) (in_longer name other q paths) ∙ by (same_bytes name other)
  where
    by : (b : Bool) → ((b && same_path p q) || (b && stands_in q paths)) ≡ (b && (same_path p q || stands_in q paths))
    by true = refl
    by false = refl

same_bytes-sym : (a b : List ℕ) → same_bytes a b ≡ same_bytes b a
same_bytes-sym a b = by (same_bytes a b) (same_bytes b a) refl refl
  where
    by : (x y : Bool) → same_bytes a b ≡ x → same_bytes b a ≡ y → same_bytes a b ≡ same_bytes b a
    by true y e f = e ∙ sym ((same_bytes-decides b a).1 (sym ((same_bytes-decides a b).0 e)))
    by false true e f = (same_bytes-decides a b).1 (sym ((same_bytes-decides b a).0 f)) ∙ sym f
    by false false e f = e ∙ sym f

-- the non-root prefixes of a path are those that are listed
pub in_prefixes : (q path : Path) → stands_in q (prefixes path) ≡ (is_prefix q path && has_some q)
in_prefixes [] [] = refl
in_prefixes (m ∷ q) [] = refl
in_prefixes [] (n ∷ path) = ap (stands_in []) (prefixes-cons n path) ∙ root_in_longer n (prefixes path)
in_prefixes (m ∷ q) (n ∷ path) =
    ap (stands_in (m ∷ q)) (prefixes-cons n path)
    ∙ ap (λ b. (same_bytes n m && same_path [] q) || b) (in_longer n m q (prefixes path))
    ∙ ap (λ b. (same_bytes n m && same_path [] q) || (same_bytes n m && b)) (in_prefixes q path)
    ∙ by (same_bytes n m) q
    ∙ ap (λ b. (b && is_prefix q path) && true) (same_bytes-sym n m)
  where
    by : (s : Bool) (r : Path) → ((s && same_path [] r) || (s && (is_prefix r path && has_some r))) ≡ ((s && is_prefix r path) && true)
    by true [] = refl
    by false [] = refl
    by true (k ∷ r) = refl
    by false (k ∷ r) = refl

longer_nonempty : (name : List ℕ) (paths : List Path) → AllByRecursion (λ (p : Path). p ≢ []) (map (λ (p : Path). name ∷ p) paths)
longer_nonempty name [] = tt
longer_nonempty name (p ∷ paths) = (λ e. cc, longer_nonempty name paths)

pub prefixes-nonempty : (path : Path) → AllByRecursion (λ (p : Path). p ≢ []) (prefixes path)
prefixes-nonempty [] = tt
prefixes-nonempty (name ∷ path) =
    subst (AllByRecursion (λ (p : Path). p ≢ [])) (sym (prefixes-cons name path)) (λ e. cc, longer_nonempty name (prefixes path))

-- a path that is one of some paths is among them
pub stands_among : (q : Path) (paths : List Path) → stands_in q paths ≡ true → is_among q paths ≡ true
stands_among q [] h = absurd (let no : false ≡ true = h in cc)
stands_among q (p ∷ paths) h = elim (path_cases p q) [
  | inl e ↦ subst (λ (x : Path). is_among q (x ∷ paths) ≡ true) (sym e) (among_first q paths)
  | inr d ↦ later_among p q paths (stands_among q paths (sym (ap (λ b. b || stands_in q paths) d) ∙ h))
]

-- ---- the parents of a path

-- the parents of a path, by the path itself
pub in_parents : (q path : Path) → q ≢ path → stands_in q (parents_of path) ≡ (is_prefix q path && has_some q)
in_parents q path other = in_prefixes q (parent_of path) ∙ ap (λ b. b && has_some q) (by (is_prefix q (parent_of path)) (is_prefix q path) refl refl)
  where
    by : (a b : Bool) → is_prefix q (parent_of path) ≡ a → is_prefix q path ≡ b → is_prefix q (parent_of path) ≡ is_prefix q path
    by true b e f = e ∙ sym (is_prefix-trans q (parent_of path) path e (parent_of-is_prefix path))
    by false true e f = is_prefix-parent_of q path f other ∙ sym f
    by false false e f = e ∙ sym f

pub parent_no_prefix : (path : Path) → (is_prefix path (parent_of path) && has_some path) ≡ false
parent_no_prefix [] = refl
parent_no_prefix (n ∷ path) = by (is_prefix (n ∷ path) (parent_of (n ∷ path))) refl
  where
    by : (b : Bool) → is_prefix (n ∷ path) (parent_of (n ∷ path)) ≡ b → (b && true) ≡ false
    by true e = absurd (let l = length-prefix (n ∷ path) (parent_of (n ∷ path)) e in omega (arith, length-parent_of (n ∷ path)))
    by false e = refl

-- ---- what is taken away

under_none : (q : Path) → has_staging q ≡ false → (ps : List Path) → AllByRecursion (λ (p : Path). p ≢ []) ps → is_under_any (map staging_of ps) q ≡ false
under_none q plain [] h = refl
under_none q plain (p ∷ ps) h =
    ap (λ b. b || is_under_any (map staging_of ps) q) (staging_outside (staging_of p) (has_staging-staging_of p h.0) q plain)
    ∙ under_none q plain ps h.1

-- what has no staging name lies at or below no staging name
pub under_no_stage : (path q : Path) → has_staging q ≡ false → is_under_any (staging_names path) q ≡ false
under_no_stage path q plain = under_none q plain (prefixes path) (prefixes-nonempty path)

pub object_states_of-touched : (now : ℕ) (p : Path) (t : Places) (q : Path) → object_states_of (touched now p t) q ≡ object_states_of t q
object_states_of-touched now p t q = object_states_of-same (touched now p t) t q (object_states-touched now p t q)

pub object_state_none : (o : Option Object) → option_map object_state_of o ≡ None → o ≡ None
object_state_none None h = refl
object_state_none (Some x) h = cc

module _ (now : ℕ) where
  taken-none : (p : Path) (t : Places) (q : Path) → t q ≡ None → taken now p t q ≡ None
  taken-none p t q h = elim (is_some (t p)) as (λ b. cond b (touched now p (cut p t)) t q ≡ None) [
    | true ↦ object_state_none _ (object_states_of-touched now p (cut p t) q ∙ ap (option_map object_state_of) (elim (is_prefix p q) as (λ b. cond b None (t q) ≡ None) [ true ↦ refl | false ↦ h ]))
    | false ↦ h
  ]

  -- what is absent stays absent
  pub all_taken-none : (ps : List Path) (t : Places) (q : Path) → t q ≡ None → all_taken now ps t q ≡ None
  all_taken-none [] t q h = h
  all_taken-none (p ∷ ps) t q h = all_taken-none ps (taken now p t) q (taken-none p t q h)

  taken-here : (p : Path) (t : Places) → taken now p t p ≡ None
  taken-here p t = by (t p) refl
    where
      by : (o : Option Object) → t p ≡ o → taken now p t p ≡ None
      by None e = taken-none p t p e
      by (Some x) e =
          ap (λ o. cond (is_some o) (touched now p (cut p t)) t p) e
          ∙ object_state_none _ (object_states_of-touched now p (cut p t) p ∙ ap (λ b. option_map object_state_of (cond b None (t p))) (is_prefix-refl p))

  -- what is taken is absent then
  pub all_taken-stage : (ps : List Path) (t : Places) (q : Path) → stands_in q ps ≡ true → all_taken now (map staging_of ps) t (staging_of q) ≡ None
  all_taken-stage [] t q h = absurd (let no : false ≡ true = h in cc)
  all_taken-stage (p ∷ ps) t q h = elim (path_cases p q) [
    | inl e ↦ subst (λ (r : Path). all_taken now (map staging_of ps) (taken now (staging_of p) t) (staging_of r) ≡ None) e
        (all_taken-none (map staging_of ps) (taken now (staging_of p) t) (staging_of p) (taken-here (staging_of p) t))
    | inr d ↦ all_taken-stage ps (taken now (staging_of p) t) q (sym (ap (λ b. b || stands_in q ps) d) ∙ h)
  ]

  all_taken_present : (ps : List Path) (t : Places) (q : Path) → is_some (all_taken now ps t q) ≡ true → is_some (t q) ≡ true
  all_taken_present ps t q h = by (t q) refl
    where
      by : (o : Option Object) → t q ≡ o → is_some o ≡ true
      by None e = sym (ap is_some (all_taken-none ps t q e)) ∙ h
      by (Some x) e = refl

  -- ---- what is put

  with_parent_present : (t : Places) (p q : Path) → is_some (with_parent now t p q) ≡ true → (p ≡ q) ⊎ (is_some (t q) ≡ true)
  with_parent_present t p q h = by (is_some (t p)) h
    where
      put : (p ≡ q) ⊎ (same_path p q ≡ false) → is_some (put_at p (Some (new_object parent_file now)) t q) ≡ true → (p ≡ q) ⊎ (is_some (t q) ≡ true)
      put (inl e) k = inl e
      put (inr d) k = inr (sym (ap (λ b. is_some (cond b (Some (new_object parent_file now)) (t q))) d) ∙ k)

      by : (b : Bool) → is_some (cond b t (made now p (new_object parent_file now) t) q) ≡ true → (p ≡ q) ⊎ (is_some (t q) ≡ true)
      by true e = inr e
      by false e = put (path_cases p q) (sym (is_some-touched now p (put_at p (Some (new_object parent_file now)) t) q) ∙ e)

  parents_present : (ps : List Path) (t : Places) (q : Path) → is_some (fold (with_parent now) t ps q) ≡ true → (is_among q ps ≡ true) ⊎ (is_some (t q) ≡ true)
  parents_present [] t q h = inr h
  parents_present (p ∷ ps) t q h = by (parents_present ps (with_parent now t p) q h)
    where
      more : (p ≡ q) ⊎ (is_some (t q) ≡ true) → (is_among q (p ∷ ps) ≡ true) ⊎ (is_some (t q) ≡ true)
      more (inl e) = inl (subst (λ (r : Path). is_among q (r ∷ ps) ≡ true) (sym e) (among_first q ps))
      more (inr k) = inr k

      by : (is_among q ps ≡ true) ⊎ (is_some (with_parent now t p q) ≡ true) → (is_among q (p ∷ ps) ≡ true) ⊎ (is_some (t q) ≡ true)
      by (inl e) = inl (later_among p q ps e)
      by (inr k) = more (with_parent_present t p q k)

  -- the object at a prepared path is a parent, or was there
  pub prepared_present : (path : Path) (t : Places) (q : Path) → is_some (prepared now path t q) ≡ true → (is_among q (parents_of path) ≡ true) ⊎ (is_some (t q) ≡ true)
  prepared_present path t q h = elim (parents_present (parents_of path) (all_taken now (staging_names path) t) q h) [
    | inl e ↦ inl e
    | inr k ↦ inr (all_taken_present (staging_names path) t q k)
  ]
