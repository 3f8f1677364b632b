-- Laws of removal: objects taken away one by one, each after what lies below it.
use Rattle.std.specs.Prelude.{◌≡◌, ◌≢◌, ℕ, ◌+◌, ◌≤◌, Bool, true, false, cond, not, ◌&&◌, List, [], ◌∷◌, ◌++◌, Option, Some, None, is_some, option_map}
use Rattle.std.proofs.Common.{refl, sym, ap, subst, ◌∙◌, arith, inl, inr, ◌⊎◌, append_assoc, zero, suc}
use Rattle.std.proofs.lemmas.List.{append-nil}
use Rattle.std.proofs.lemmas.Bool.{and_parts, and_from, not-true}
use Rattle.pv_path.specs.Paths.{Path, same_path, is_prefix, parent_of, same_path-decides}
use Rattle.pv_path.proofs.PathLaws.{same_path-refl, is_prefix-append, prefix_parts, is_prefix-parent_of, parent_of-push}
use Rattle.pv_steps.specs.declared.object.Object.{Object}
use Rattle.pv_steps.specs.Objects.{modified, object_state}
use Rattle.pv_steps.specs.Trees.{Places, kind_of, IsPresentIn, IsTreeIn}
use Rattle.pv_steps.proofs.TreeLaws.{present_above}
use Rattle.pv_steps.specs.Steps.{put_at, gone}
use Rattle.pv_walk.specs.Removal.{is_below}
use Rattle.pv_walk.specs.Listing.{times, is_child}
use Rattle.pv_walk.proofs.CountLaws.{times-self, same_or_not, child_parts}
use Rattle.pv_path.proofs.Tests.{true_not_false}

-- ---- numbers and tests

pub zero_or_more : (n : ℕ) → (n ≡ 0) ⊎ (1 ≤ n)
zero_or_more zero = inl refl
zero_or_more (suc n) = inr (omega arith)

pub cond-true : (b : Bool) → 1 ≤ cond b 1 0 → b ≡ true
cond-true true h = refl
cond-true false h = absurd (omega arith)

-- what does not hold where something that follows from it does not
pub unless : (a b : Bool) → (a ≡ true → b ≡ true) → b ≡ false → a ≡ false
unless true b f h = sym (f refl) ∙ h
unless false b f h = refl

pub no_same : (p q : Path) → (p ≡ q → ⊥) → same_path p q ≡ false
no_same p q h = elim (same_path p q) as (λ b. same_path p q ≡ b → b ≡ false) [ true ↦ λ e. absurd (h ((same_path-decides p q).0 e)) | false ↦ λ e. refl ] refl

-- ---- what lies below a path

pub below_parts : (path q : Path) → is_below path q ≡ true → (n : List ℕ) × (rest : Path) × (q ≡ path ++ n ∷ rest)
below_parts path q h =
    let parts = and_parts (is_prefix path q) (not (same_path path q)) h in
    let found = prefix_parts path q parts.0 in
    by found.0 found.1 parts.1
  where
    by : (r : Path) → q ≡ path ++ r → not (same_path path q) ≡ true → (n : List ℕ) × (rest : Path) × (q ≡ path ++ n ∷ rest)
    by [] e other = absurd (let same : same_path path q ≡ true = (same_path-decides path q).1 (sym (e ∙ append-nil path)) in let no : false ≡ true = sym (ap not same) ∙ other in cc)
    by (n ∷ rest) e other = (n, rest, e)

longer : (path : Path) (n : List ℕ) (rest : Path) → path ≡ path ++ n ∷ rest → ⊥
longer [] n rest e = cc
longer (m ∷ path) n rest e = longer path n rest (let tail : path ≡ path ++ n ∷ rest = cc in tail)

pub is_below-append : (path : Path) (n : List ℕ) (rest : Path) → is_below path (path ++ n ∷ rest) ≡ true
is_below-append path n rest =
    and_from (is_prefix path (path ++ n ∷ rest)) _ (is_prefix-append path (n ∷ rest)) (ap not (no_same path (path ++ n ∷ rest) (longer path n rest)))

pub is_below-child : (path q : Path) → is_child path q ≡ true → is_below path q ≡ true
is_below-child path q h = let parts = child_parts path q h in subst (λ p. is_below path p ≡ true) (sym parts.1) (is_below-append path parts.0 [])

pub parent_of-child : (path q : Path) → is_child path q ≡ true → parent_of q ≡ path
parent_of-child path q h = let parts = child_parts path q h in ap parent_of parts.1 ∙ parent_of-push path parts.0

pub not_below_itself : (path : Path) → is_below path path ≡ false
not_below_itself path = ap (λ b. is_prefix path path && not b) (same_path-refl path) ∙ by (is_prefix path path)
  where
    by : (b : Bool) → (b && not true) ≡ false
    by true = refl
    by false = refl

pub below_nonempty : (path q : Path) → is_below path q ≡ true → q ≢ []
below_nonempty path q h e =
    let parts = below_parts path q h in
    let whole : path ++ parts.0 ∷ parts.1 ≡ [] = sym parts.2 ∙ e in
    by path parts.0 parts.1 whole
  where
    by : (p : Path) (n : List ℕ) (rest : Path) → p ++ n ∷ rest ≡ [] → ⊥
    by [] n rest w = cc
    by (m ∷ p) n rest w = cc

-- what lies below what lies below a path lies below the path
pub is_below-below : (path p q : Path) → is_below path p ≡ true → is_below p q ≡ true → is_below path q ≡ true
is_below-below path p q a b =
    let u = below_parts path p a in
    let v = below_parts p q b in
    let is : q ≡ path ++ u.0 ∷ (u.1 ++ v.0 ∷ v.1) = v.2 ∙ ap (λ s. s ++ v.0 ∷ v.1) u.2 ∙ append_assoc path (u.0 ∷ u.1) (v.0 ∷ v.1) in
    subst (λ s. is_below path s ≡ true) (sym is) (is_below-append path u.0 (u.1 ++ v.0 ∷ v.1))

-- a present path below another lies at or below a present child of it
pub child_above : (t : Places) → IsTreeIn t → (path q : Path) → is_below path q ≡ true → IsPresentIn t q → (n : List ℕ) × IsPresentIn t (path ++ n ∷ [])
child_above t tree path q h present =
    let parts = below_parts path q h in
    let is : q ≡ (path ++ parts.0 ∷ []) ++ parts.1 = parts.2 ∙ sym (append_assoc path (parts.0 ∷ []) parts.1) in
    (parts.0, present_above t tree (path ++ parts.0 ∷ []) parts.1 (subst (IsPresentIn t) is present))

-- its directory lies at the path or below it
pub is_below-parent_of : (path q : Path) → is_below path q ≡ true → same_path path (parent_of q) ≡ false → is_below path (parent_of q) ≡ true
is_below-parent_of path q h other =
    let parts = and_parts (is_prefix path q) (not (same_path path q)) h in
    and_from (is_prefix path (parent_of q)) _ (is_prefix-parent_of path q parts.0 (λ e. true_not_false (same_path path q) ((same_path-decides path q).1 e) (not-true (same_path path q) parts.1))) (ap not other)

-- ---- one object gone

module _ (now : ℕ) (p : Path) (x : Places) where
  touched_none : (b : Bool) (o : Option Object) → o ≡ None → cond b (option_map (modified now) o) o ≡ None
  touched_none true o e = ap (option_map (modified now)) e
  touched_none false o e = e

  pub gone-none : (q : Path) → x q ≡ None → gone now p x q ≡ None
  gone-none q e = touched_none (same_path (parent_of p) q) (put_at p None x q) (elim (same_path p q) as (λ b. cond b None (x q) ≡ None) [ true ↦ refl | false ↦ e ])

  pub gone-here : gone now p x p ≡ None
  gone-here = touched_none (same_path (parent_of p) p) (put_at p None x p) (ap (λ b. cond b None (x p)) (same_path-refl p))

  put_other : (q : Path) → same_path p q ≡ false → put_at p None x q ≡ x q
  put_other q d = ap (λ b. cond b None (x q)) d

  pub gone-other : (q : Path) → same_path p q ≡ false → same_path (parent_of p) q ≡ false → gone now p x q ≡ x q
  gone-other q d e = ap (λ b. cond b (option_map (modified now) (put_at p None x q)) (put_at p None x q)) e ∙ put_other q d

  pub gone-parent : (q : Path) → same_path p q ≡ false → same_path (parent_of p) q ≡ true → gone now p x q ≡ option_map (modified now) (x q)
  gone-parent q d e = ap (λ b. cond b (option_map (modified now) (put_at p None x q)) (put_at p None x q)) e ∙ ap (option_map (modified now)) (put_other q d)

-- ---- objects gone one after the other, the last of the list first

-- the tree after each object of a list is gone
abbrev pub all_gone : ℕ → List Path → Places → Places
all_gone now [] t = t
all_gone now (p ∷ ps) t = gone now p (all_gone now ps t)

-- as it was, or with its timestamps of a change
abbrev pub IsKept : ℕ → Option Object → Option Object → Type 0
IsKept now old new = (new ≡ old) ⊎ (new ≡ option_map (modified now) old)

twice : (now : ℕ) (o : Option Object) → option_map (modified now) (option_map (modified now) o) ≡ option_map (modified now) o
twice now None = refl
twice now (Some x) = refl

pub modified_kept : (now : ℕ) (old new : Option Object) → IsKept now old new → option_map (modified now) new ≡ option_map (modified now) old
modified_kept now old new (inl e) = ap (option_map (modified now)) e
modified_kept now old new (inr e) = ap (option_map (modified now)) e ∙ twice now old

pub kept-kind : (now : ℕ) (old new : Option Object) → IsKept now old new → kind_of new ≡ kind_of old
kept-kind now old new (inl e) = ap kind_of e
kept-kind now old new (inr e) = ap kind_of e ∙ elim old as (λ o. kind_of (option_map (modified now) o) ≡ kind_of o) [ None ↦ refl | Some x ↦ refl ]

pub kept-present : (now : ℕ) (old new : Option Object) → IsKept now old new → is_some new ≡ is_some old
kept-present now old new (inl e) = ap is_some e
kept-present now old new (inr e) = ap is_some e ∙ elim old as (λ o. is_some (option_map (modified now) o) ≡ is_some o) [ None ↦ refl | Some x ↦ refl ]

pub kept-object_state : (now : ℕ) (old new : Option Object) → IsKept now old new → option_map object_state new ≡ option_map object_state old
kept-object_state now old new (inl e) = ap (option_map object_state) e
kept-object_state now old new (inr e) = ap (option_map object_state) e ∙ elim old as (λ o. option_map object_state (option_map (modified now) o) ≡ option_map object_state o) [ None ↦ refl | Some x ↦ refl ]

pub not_first : (p q : Path) (ps : List Path) → times q (p ∷ ps) ≡ 0 → (same_path p q ≡ false) × (times q ps ≡ 0)
not_first p q ps h = by (same_path p q) refl
  where
    by : (b : Bool) → same_path p q ≡ b → (same_path p q ≡ false) × (times q ps ≡ 0)
    by true e = absurd (let one : 1 + times q ps ≡ 0 = sym (ap (λ c. cond c 1 0 + times q ps) e) ∙ h in omega arith)
    by false e = (e, let rest : 0 + times q ps ≡ 0 = sym (ap (λ c. cond c 1 0 + times q ps) e) ∙ h in omega arith)

later : (p q : Path) (ps : List Path) → 1 ≤ times q ps → 1 ≤ times q (p ∷ ps)
later p q ps h = omega arith

module _ (now : ℕ) (t : Places) (q : Path) where
  pub all_gone-none : (ps : List Path) → t q ≡ None → all_gone now ps t q ≡ None
  all_gone-none [] e = e
  all_gone-none (p ∷ ps) e = gone-none now p (all_gone now ps t) q (all_gone-none ps e)

  pub all_gone-gone : (ps : List Path) → 1 ≤ times q ps → all_gone now ps t q ≡ None
  all_gone-gone [] h = absurd (omega arith)
  all_gone-gone (p ∷ ps) h = elim (same_or_not p q) [
    | inl s ↦ subst (λ r. gone now p (all_gone now ps t) r ≡ None) s.0 (gone-here now p (all_gone now ps t))
    | inr d ↦ let rest : 1 ≤ 0 + times q ps = subst (λ c. 1 ≤ cond c 1 0 + times q ps) d h in gone-none now p (all_gone now ps t) q (all_gone-gone ps (omega arith))
  ]

  pub all_gone-kept : (ps : List Path) → times q ps ≡ 0 → IsKept now (t q) (all_gone now ps t q)
  all_gone-kept [] h = inl refl
  all_gone-kept (p ∷ ps) h =
      let first = not_first p q ps h in
      let rest = all_gone-kept ps first.1 in
      elim (same_path (parent_of p) q) as (λ b. same_path (parent_of p) q ≡ b → IsKept now (t q) (all_gone now (p ∷ ps) t q)) [
        | true ↦ λ e. inr (gone-parent now p (all_gone now ps t) q first.0 e ∙ modified_kept now (t q) (all_gone now ps t q) rest)
        | false ↦ λ e. subst (IsKept now (t q)) (sym (gone-other now p (all_gone now ps t) q first.0 e)) rest
      ] refl

  pub all_gone-same : (ps : List Path) → times q ps ≡ 0 → ((r : Path) → 1 ≤ times r ps → same_path (parent_of r) q ≡ false) → all_gone now ps t q ≡ t q
  all_gone-same [] h other = refl
  all_gone-same (p ∷ ps) h other =
      let first = not_first p q ps h in
      gone-other now p (all_gone now ps t) q first.0 (other p (omega (arith, times-self p ps)))
      ∙ all_gone-same ps first.1 (λ r g. other r (later p r ps g))

  pub all_gone-touched : (ps : List Path) → times q ps ≡ 0 → (r : Path) → 1 ≤ times r ps → parent_of r ≡ q → all_gone now ps t q ≡ option_map (modified now) (t q)
  all_gone-touched [] h r g e = absurd (omega arith)
  all_gone-touched (p ∷ ps) h r g e =
      let first = not_first p q ps h in
      elim (same_path (parent_of p) q) as (λ b. same_path (parent_of p) q ≡ b → all_gone now (p ∷ ps) t q ≡ option_map (modified now) (t q)) [
        | true ↦ λ is. gone-parent now p (all_gone now ps t) q first.0 is ∙ modified_kept now (t q) (all_gone now ps t q) (all_gone-kept ps first.1)
        | false ↦ λ is.
            gone-other now p (all_gone now ps t) q first.0 is
            ∙ elim (same_or_not p r) [
              | inl s ↦ absurd (true_not_false (same_path (parent_of p) q) ((same_path-decides (parent_of p) q).1 (ap parent_of s.0 ∙ e)) is)
              | inr d ↦ let rest : 1 ≤ 0 + times r ps = subst (λ c. 1 ≤ cond c 1 0 + times r ps) d g in all_gone-touched ps first.1 r (omega arith) e
            ]
      ] refl
