-- What stands in a tree, as the map that lines begin with.
use Rattle.std.specs.Prelude.{◌≡◌, ℕ, Bool, true, false, List, [], ◌∷◌, ◌++◌, ◌||◌, ◌⊎◌, cond, filter, flat_map, Option, Some, None, is_some}
use Rattle.std.proofs.Common.{refl, sym, ap, ◌∙◌, inl, inr}
use Rattle.std.proofs.lemmas.Bool.{or_left, or_right}
use Rattle.std.proofs.lemmas.List.Concat.{flat_map-cons}
use Rattle.std.proofs.lemmas.List.Folds.{list_any-append}
use Rattle.std.specs.FinMap as fin
use Rattle.std.specs.List.{AllByRecursion}
use Rattle.pv_walk.specs.Nodes.{object_states_of}
use Rattle.pv_walk.proofs.FindingLaws.{one_of-tied}
use Rattle.pv_laws.proofs.AllPoints.{state_whole, all_safe}
use Rattle.pv_laws.proofs.Points.{get-tabulated}
use Rattle.pv_laws.proofs.Prepared.{object_state_some}
use Rattle.pv_lines.specs.declared.line.Line.{Line}
use Rattle.pv_lines.specs.Lines.{IsLine}
use Rattle.pv_path.specs.Paths.{Path, is_prefix, same_path, has_staging, same_path-decides}
use Rattle.pv_path.proofs.Tests.{true_not_false}
use Rattle.pv_steps.specs.declared.node.Kind.TheVariants.{Directory}
use Rattle.pv_steps.specs.declared.object.Object.{Object}
use Rattle.pv_steps.specs.Trees.{Files, places, kind_of, IsTree}
use Rattle.pv_steps.proofs.StepLaws.{among_keys}
use Rattle.pv_table.specs.Created.{created, RefusesNoLine}
use Rattle.pv_table.specs.Pointwise.{tabulated}
use Rattle.pv_table.specs.Repeatable.{IsRepeatable}
use Rattle.pv_walk.specs.Removal.{is_one_of}
use Rattle.pv_walk.specs.Preparing.{parents_of}
use Rattle.pv_explain.specs.Acts.{standing, last}
use Rattle.pv_explain.specs.declared.region.Region.{Region}
use Rattle.pv_explain.specs.Following.{covers, holds, leads, IsAlong, IsWithin}
use Rattle.pv_explain.proofs.RegionLaws.{or_cases}
use Rattle.pv_explain.proofs.AlongLaws.{among_along}

-- ---- paths of a region

one_left : (xs ys : List Path) (q : Path) → is_one_of xs q ≡ true → is_one_of (xs ++ ys) q ≡ true
one_left xs ys q h = list_any-append (λ p. same_path p q) xs ys ∙ or_left (is_one_of xs q) (is_one_of ys q) h

one_right : (xs ys : List Path) (q : Path) → is_one_of ys q ≡ true → is_one_of (xs ++ ys) q ≡ true
one_right xs ys q h = list_any-append (λ p. same_path p q) xs ys ∙ or_right (is_one_of xs q) (is_one_of ys q) h

one_kept : (f : Path → Bool) (xs : List Path) (q : Path) → f q ≡ true → is_one_of xs q ≡ true → is_one_of (filter f xs) q ≡ true
one_kept f [] q e h = h
one_kept f (x ∷ xs) q e h = by (f x) refl (or_cases (same_path x q) (is_one_of xs q) h) (one_kept f xs q e)
  where
    by : (b : Bool) → f x ≡ b → (same_path x q ≡ true) ⊎ (is_one_of xs q ≡ true) → (is_one_of xs q ≡ true → is_one_of (filter f xs) q ≡ true) → is_one_of (cond b (x ∷ filter f xs) (filter f xs)) q ≡ true
    by true k (inl same) rest = or_left (same_path x q) (is_one_of (filter f xs) q) same
    by true k (inr later) rest = or_right (same_path x q) (is_one_of (filter f xs) q) (rest later)
    by false k (inl same) rest = absurd (true_not_false (f x) (ap f ((same_path-decides x q).0 same) ∙ e) k)
    by false k (inr later) rest = rest later

-- what is at and below some paths
abbrev pub below_all : Files → List Path → List Path
below_all t tops = flat_map (λ top. filter (is_prefix top) (fin.keys t)) tops

-- some paths and those above them
abbrev pub above_all : List Path → List Path
above_all ends = flat_map (λ end. [] ∷ end ∷ parents_of end) ends

below_read : (t : Files) (tops : List Path) (q : Path) → covers tops q ≡ true → is_some (places t q) ≡ true → is_one_of (below_all t tops) q ≡ true
below_read t [] q e there = e
below_read t (top ∷ tops) q e there = ap (λ (ps : List Path). is_one_of ps q) (flat_map-cons (λ (p : Path). filter (is_prefix p) (fin.keys t)) top tops) ∙ by (or_cases (is_prefix top q) (covers tops q) e) (λ k. below_read t tops q k there)
  where
    by : (is_prefix top q ≡ true) ⊎ (covers tops q ≡ true) → (covers tops q ≡ true → is_one_of (below_all t tops) q ≡ true) → is_one_of (filter (is_prefix top) (fin.keys t) ++ below_all t tops) q ≡ true
    by (inl k) rest = one_left (filter (is_prefix top) (fin.keys t)) (below_all t tops) q (one_kept (is_prefix top) (fin.keys t) q k (sym (one_of-tied (fin.keys t) q) ∙ among_keys t q ∙ there))
    by (inr k) rest = one_right (filter (is_prefix top) (fin.keys t)) (below_all t tops) q (rest k)

above_read : (ends : List Path) (q : Path) → leads ends q ≡ true → is_one_of (above_all ends) q ≡ true
above_read [] q e = e
above_read (end ∷ ends) q e = ap (λ (ps : List Path). is_one_of ps q) (flat_map-cons (λ (p : Path). [] ∷ p ∷ parents_of p) end ends) ∙ by (or_cases (is_prefix q end) (leads ends q) e) (above_read ends q)
  where
    by : (is_prefix q end ≡ true) ⊎ (leads ends q ≡ true) → (leads ends q ≡ true → is_one_of (above_all ends) q ≡ true) → is_one_of (([] ∷ end ∷ parents_of end) ++ above_all ends) q ≡ true
    by (inl k) rest = one_left ([] ∷ end ∷ parents_of end) (above_all ends) q (sym (one_of-tied ([] ∷ end ∷ parents_of end) q) ∙ among_along q end k)
    by (inr k) rest = one_right ([] ∷ end ∷ parents_of end) (above_all ends) q (rest k)

pub all_read : (t : Files) (region : Region) (q : Path) → holds region q ≡ true → is_some (places t q) ≡ true
    → is_one_of ((below_all t region.tops.items ++ above_all region.tops.items) ++ above_all region.ends.items) q ≡ true
all_read t region q held there = by (or_cases (covers tops q || leads tops q) (leads ends q) held)
  where
    tops : List Path
    tops = region.tops.items

    ends : List Path
    ends = region.ends.items

    first : (covers tops q ≡ true) ⊎ (leads tops q ≡ true) → is_one_of (below_all t tops ++ above_all tops) q ≡ true
    first (inl k) = one_left (below_all t tops) (above_all tops) q (below_read t tops q k there)
    first (inr k) = one_right (below_all t tops) (above_all tops) q (above_read tops q k)

    by : ((covers tops q || leads tops q) ≡ true) ⊎ (leads ends q ≡ true) → is_one_of ((below_all t tops ++ above_all tops) ++ above_all ends) q ≡ true
    by (inl k) = one_left (below_all t tops ++ above_all tops) (above_all ends) q (first (or_cases (covers tops q) (leads tops q) k))
    by (inr k) = one_right (below_all t tops ++ above_all tops) (above_all ends) q (above_read ends q k)

-- ---- the object there

module _ (t : Files) where
  pub standing_is : (q : Path) → fin.get (standing t) q ≡ object_states_of (places t) q
  standing_is q = get-tabulated (fin.keys t) (object_states_of (places t)) q (λ h. among_keys t q ∙ sym (object_state_some (places t q)) ∙ h)

  module _ (tree : IsTree t) where
    root_stands : is_some (fin.get (standing t) []) ≡ true
    root_stands = ap is_some (standing_is []) ∙ object_state_some (places t []) ∙ by (places t []) tree.root
      where
        by : (o : Option Object) → kind_of o ≡ Some Directory → is_some o ≡ true
        by None e = absurd (let no : None ≡ Some Directory = e in cc)
        by (Some x) e = refl

    -- what stands along a path is the object there in the tree
    pub stands_along : (path : Path) → IsAlong path (tabulated ([] ∷ path ∷ parents_of path) (object_states_of (places t))) (standing t)
    stands_along path = record {
      top = refl;
      root = root_stands;
      same = λ q high. get-tabulated ([] ∷ path ∷ parents_of path) (object_states_of (places t)) q (λ h. among_along q path high) ∙ sym (standing_is q);
    }

    -- so in a region, from paths that have all that stands there
    pub stands_within : (held : Path → Bool) → held [] ≡ true → (paths : List Path) → ((q : Path) → held q ≡ true → is_some (places t q) ≡ true → is_one_of paths q ≡ true) → IsWithin held (tabulated paths (object_states_of (places t))) (standing t)
    stands_within held top paths all = record {
      top = top;
      root = root_stands;
      same = λ q here. get-tabulated paths (object_states_of (places t)) q (λ h. one_of-tied paths q ∙ all q here (sym (object_state_some (places t q)) ∙ h)) ∙ sym (standing_is q);
    }

    -- if no line has a hazard, the object at a path after all lines is what a create run leaves there
    pub left_there : (lines : List Line) → AllByRecursion IsLine lines → (now : ℕ) → IsRepeatable lines → RefusesNoLine lines now t → (path : Path) → has_staging path ≡ false
        → last lines (standing t) path ≡ object_states_of (places (created lines now t)) path
    left_there lines are now repeatable quiet path plain = state_whole lines (all_safe lines are repeatable) now (standing t) t tree quiet (λ q unstaged. standing_is q) path plain
