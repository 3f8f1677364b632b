-- Laws of the ages that are kept for the directories on the way down through a list of all that stands in a tree.
use Rattle.std.specs.Prelude.{◌≡◌, ◌≢◌, ℕ, ◌+◌, ◌≤◌, ◌<◌, true, false, cond, min, List, [], ◌∷◌, ◌++◌, length, map, reverse, take, Option, Some, slice_get, is_some}
use Rattle.std.proofs.Common.{refl, sym, ap, subst, ◌∙◌, inl, inr, arith, append_assoc, get_or, length-append}
use Rattle.std.proofs.lemmas.List.{append-nil, get_or-take, get_or_append_left, length-take, length-take-le, map-append, reverse-append, reverse-reverse}
use Rattle.std.proofs.lemmas.Option.{get_or_from_slice_get, slice_get-get_or, slice_get_within}
use Rattle.std.proofs.Math.Seq.{get_or-append_seam}
use Rattle.pv_lines.specs.declared.line.Line.{Line}
use Rattle.pv_path.specs.Paths.{Path, same_path, parent_of}
use Rattle.pv_path.proofs.PathLaws.{length-parent_of}
use Rattle.pv_steps.specs.declared.node.Kind.TheVariants.{Directory}
use Rattle.pv_steps.specs.Trees.{Files, places, IsKind, IsPresent, IsTree}
use Rattle.pv_walk.specs.Listing.{times, is_child, AreGathered, IsListing}
use Rattle.pv_walk.proofs.CountLaws.{same_or_not, times-append, times-push, times-self}
use Rattle.pv_walk.proofs.RemovalLaws.{below_nonempty, cond-true, is_below-child, parent_of-child}
use Rattle.pv_table.specs.declared.scope.Scope.{Scope}
use Rattle.pv_table.specs.Scopes.{scope}
use Rattle.pv_clean.specs.declared.aging.Judged.{Judged}
use Rattle.pv_clean.specs.Judging.{judged_at, AreNoted}
use Rattle.pv_clean.proofs.AllListed.{IsWhole, child_of_parent, gathered_at, here, longer, parent_before, whole_from}

-- the age of each directory of which a child still follows is kept at its number of names
abbrev pub AreOpen : List Line → List Path → List Path → List (Option Scope) → Type 0
AreOpen lines done rest ages = (r q : Path) → 1 ≤ times r done → is_child r q ≡ true → 1 ≤ times q rest → slice_get ages (length r) ≡ Some (scope lines r)

-- in the beginning that of the root
pub open_start : (lines : List Line) (listed : List Path) → AreOpen lines ([] ∷ []) listed (scope lines [] ∷ [])
open_start lines listed r q some child behind = elim (same_or_not [] r) [
  | inl s ↦ subst (λ (x : Path). slice_get (scope lines [] ∷ []) (length x) ≡ Some (scope lines x)) s.0 refl
  | inr d ↦ absurd (let none : 1 ≤ 0 + 0 = subst (λ b. 1 ≤ cond b 1 0 + 0) d some in omega (arith, none))
]

kept_at : {A : Type 0} (n k : ℕ) (xs ys : List A) (x : A) → k < n → slice_get xs k ≡ Some x → slice_get (take n xs ++ ys) k ≡ Some x
kept_at {A = A} n k xs ys x lt is =
    let within = slice_get_within xs k x is in
    let short : k < length (take n xs) = by (length-take n xs) within in
    slice_get-get_or (take n xs ++ ys) k x (omega (arith, short, length-append (take n xs) ys))
    ∙ ap (λ (y : A). Some y) (get_or_append_left (take n xs) ys x k short ∙ get_or-take n xs k x lt ∙ get_or_from_slice_get xs k x x is)
  where
    by : length (take n xs) ≡ min n (length xs) → k < length xs → k < length (take n xs)
    by e within = omega (arith, e, within, lt)

put_at_end : {A : Type 0} (n : ℕ) (xs : List A) (x : A) → n ≤ length xs → slice_get (take n xs ++ x ∷ []) n ≡ Some x
put_at_end {A = A} n xs x le =
    let same = length-take-le n xs le in
    slice_get-get_or (take n xs ++ x ∷ []) n x (omega (arith, same, length-append (take n xs) (x ∷ [])))
    ∙ ap (λ (y : A). Some y) (ap (λ (k : ℕ). get_or (take n xs ++ x ∷ []) k x) (sym same) ∙ get_or-append_seam (take n xs) x [] x)

module _ (lines : List Line) (t : Files) (tree : IsTree t) (done : List Path) (p : Path) (rest : List Path) (w : IsWhole t (done ++ p ∷ rest)) (other : p ≢ []) (ages : List (Option Scope)) (opened : AreOpen lines done (p ∷ rest) ages) where
  -- the age around the next path is kept
  pub age_here : slice_get ages (length (parent_of p)) ≡ Some (scope lines (parent_of p))
  age_here = opened (parent_of p) p (parent_before t tree done p rest w other) (child_of_parent p other) (here t tree done p rest w)

  long_enough : length p ≤ length ages
  long_enough =
      let within = slice_get_within ages (length (parent_of p)) (scope lines (parent_of p)) age_here in
      let short = length-parent_of p in
      omega (arith, within, short)

  -- and those of the directories that are open then, when it is judged
  pub open_next : (new : List (Option Scope)) → AreNoted lines t p ages new → AreOpen lines (done ++ p ∷ []) rest new
  open_next new noted r q some child behind = elim (same_or_not p r) [
    | inl s ↦ elim noted [
      | inl put ↦ subst (λ (x : Path). slice_get new (length x) ≡ Some (scope lines x)) s.0
          (ap (λ (a : List (Option Scope)). slice_get a (length p)) put ∙ put_at_end (length p) ages (scope lines p) long_enough)
      | inr kept ↦ absurd (kept.0 (subst (IsKind Directory t) (parent_of-child r q child ∙ sym s.0) (tree.parents q stands (below_nonempty r q (is_below-child r q child)))))
    ]
    | inr d ↦ elim noted [
      | inl put ↦ ap (λ (a : List (Option Scope)). slice_get a (length r)) put
          ∙ kept_at (length p) (length r) ages (scope lines p ∷ []) (scope lines r) (longer r p (gathered_at done p rest w.gathered r q (before d) (is_below-child r q child) behind)) (old d)
      | inr kept ↦ ap (λ (a : List (Option Scope)). slice_get a (length r)) kept.1 ∙ old d
    ]
  ]
    where
      before : same_path p r ≡ false → 1 ≤ times r done
      before d = let sum = times-push r done p in let none = ap (λ b. cond {A = ℕ} b 1 0) d in omega (arith, sum, some, none)

      old : same_path p r ≡ false → slice_get ages (length r) ≡ Some (scope lines r)
      old d = opened r q (before d) child (omega (arith, behind))

      stands : IsPresent t q
      stands = cond-true (is_some (places t q)) (let counts = w.once q in let sum = times-append q done (p ∷ rest) in omega (arith, counts, sum, behind))

-- ---- a listing is judged from its first path on

-- a part of a listing is judged, the root before it; what is left stands the other way round
pub record Judging (lines : List Line) (now : ℕ) (t : Files) (listed left : List Path) (judged : List Judged) (ages : List (Option Scope)) : Type 0 where
  pub done : List Path
  pub are : listed ≡ done ++ reverse left
  pub told : judged ≡ map (judged_at lines now t) ([] ∷ done)
  pub kept : AreOpen lines ([] ∷ done) (reverse left) ages

module _ (lines : List Line) (now : ℕ) (t : Files) where
  pub judging_start : (listed : List Path) → Judging lines now t listed (reverse listed) (judged_at lines now t [] ∷ []) (scope lines [] ∷ [])
  judging_start listed = record {
    done = [];
    are = sym (reverse-reverse listed);
    told = refl;
    kept = open_start lines (reverse (reverse listed));
  }

  pub judging_end : (listed : List Path) (judged : List Judged) (ages : List (Option Scope)) → Judging lines now t listed [] judged ages → judged ≡ map (judged_at lines now t) ([] ∷ listed)
  judging_end listed judged ages j = j.told ∙ ap (λ (ps : List Path). map (judged_at lines now t) ([] ∷ ps)) (sym (j.are ∙ append-nil j.done))

  module _ (tree : IsTree t) (listed : List Path) (l : IsListing t [] listed) (g : AreGathered listed) (left rest : List Path) (p : Path) (is : left ≡ rest ++ p ∷ [])
      (judged : List Judged) (ages : List (Option Scope)) (j : Judging lines now t listed left judged ages) where
    left_is : reverse left ≡ p ∷ reverse rest
    left_is = ap reverse is ∙ reverse-append rest (p ∷ [])

    parts : listed ≡ j.done ++ p ∷ reverse rest
    parts = j.are ∙ ap (λ (ps : List Path). j.done ++ ps) left_is

    whole : IsWhole t (([] ∷ j.done) ++ p ∷ reverse rest)
    whole = subst (IsWhole t) (ap (λ (ps : List Path). [] ∷ ps) parts) (whole_from t tree listed l g)

    opened : AreOpen lines ([] ∷ j.done) (p ∷ reverse rest) ages
    opened = subst (λ (ps : List Path). AreOpen lines ([] ∷ j.done) ps ages) left_is j.kept

    -- the next path is not the root
    pub next_no_root : p ≢ []
    next_no_root e =
        let none : times [] listed ≡ 0 = l.once [] in
        let sum = ap (times []) parts ∙ times-append [] j.done (p ∷ reverse rest) in
        let self = ap (λ (r : Path). times [] (r ∷ reverse rest)) e ∙ times-self [] (reverse rest) in
        omega (arith, none, sum, self)

    -- the age around it is kept
    pub next_age : slice_get ages (length (parent_of p)) ≡ Some (scope lines (parent_of p))
    next_age = age_here lines t tree ([] ∷ j.done) p (reverse rest) whole next_no_root ages opened

    -- it is judged
    pub judging_next : (more : List Judged) (new : List (Option Scope)) → more ≡ judged ++ judged_at lines now t p ∷ [] → AreNoted lines t p ages new → Judging lines now t listed rest more new
    judging_next more new pushed noted = record {
      done = j.done ++ p ∷ [];
      are = parts ∙ sym (append_assoc j.done (p ∷ []) (reverse rest));
      told = pushed ∙ ap (λ (js : List Judged). js ++ judged_at lines now t p ∷ []) j.told ∙ sym (map-append (judged_at lines now t) ([] ∷ j.done) (p ∷ []));
      kept = open_next lines t tree ([] ∷ j.done) p (reverse rest) whole next_no_root ages opened new noted;
    }
