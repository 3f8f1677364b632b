-- The first path of two reaches that are given part by part is the earlier of the first paths of the parts.
use Rattle.std.proofs.Common.{◌≡◌, ℕ, ◌+◌, ◌<◌, inl, inr, Bool, true, false, ◌&&◌, ◌||◌, List, [], ◌∷◌, map, length, take, get_or, Option, Some, None, refl, sym, ap, ◌∙◌, subst, if◌then◌else◌}
use Rattle.std.specs.Prelude.{IsNone, IfSome}
use Rattle.std.specs.Ordering.{is_gt}
use Rattle.std.specs.Cmp.{IsTotalOrder, nat_cmp_total}
use Rattle.std.specs.Cmp.Lexicographic.{lists_total}
use Rattle.std.proofs.lemmas.Cmp.{then_total, on_total, upto}
use Rattle.std.proofs.lemmas.List.{get_or_default}
use Rattle.std.proofs.lemmas.List.Folds.{list_any_more}
use Rattle.std.proofs.Math.Bool.{or-true, or-false}
use Rattle.std.proofs.lemmas.Bool.{or_cases}
use Rattle.pv_path.specs.Paths.{Path, has_names}
use Rattle.pv_glob.specs.declared.element.Element.{Element}
use Rattle.pv_glob.specs.Meeting.{are_met, in_reach, is_met, reached}
use Rattle.pv_glob.specs.Words.{Finds, IsFirst, earlier_of, rank, shared_cmp}
use Rattle.pv_glob.proofs.Shortlex.{shortlex_total, not_both}

shared_total : IsTotalOrder shared_cmp
shared_total = then_total (on_total length nat_cmp_total) (lists_total (on_total (map rank) shortlex_total))

-- ---- answers

pub finds_from : (test : Path → Bool) (found : Option Path) → (IsNone found → (path : Path) → test path ≡ false) → IfSome found (IsFirst shared_cmp test) → Finds test found
finds_from test None none first = none refl
finds_from test (Some path) none first = first

-- tests that answer the same have the same first path
pub finds_same : (p q : Path → Bool) (found : Option Path) → ((path : Path) → p path ≡ q path) → Finds p found → Finds q found
finds_same p q found same finds = subst (λ (test : Path → Bool). Finds test found) (λ j path. same path j) finds

module _ (p q : Path → Bool) where
  abbrev either : Path → Bool
  either path = p path || q path

  no_left : (next : Option Path) → ((path : Path) → p path ≡ false) → Finds q next → Finds either next
  no_left next none finds = finds_same q either next (λ path. sym (ap (λ t. t || q path) (none path))) finds

  no_right : (found : Option Path) → Finds p found → ((path : Path) → q path ≡ false) → Finds either found
  no_right found finds none = finds_same p either found (λ path. sym (ap (λ t. p path || t) (none path) ∙ or-false (p path))) finds

  -- the earlier of two first paths is the first that passes either test
  pub finds_either : (found next : Option Path) → Finds p found → Finds q next → Finds either (earlier_of found next)
  finds_either None next none finds = no_left next none finds
  finds_either (Some path) None finds none = no_right (Some path) finds none
  finds_either (Some path) (Some other) left right = by (is_gt (shared_cmp path other)) refl
    where
      by : (t : Bool) → is_gt (shared_cmp path other) ≡ t → Finds either (if t then Some other else Some path)
      by true after = record {
        passes = ap (λ t. p other || t) right.passes ∙ or-true (p other);
        least = λ third e. elim (or_cases (p third) (q third) e) [
          | inl f ↦ (let back : is_gt (shared_cmp other path) ≡ false = ap is_gt (shared_total.antisymm other path) ∙ not_both (shared_cmp path other) after in
              upto shared_total other path third back (left.least third f))
          | inr f ↦ right.least third f
        ];
      }
      by false first = record {
        passes = ap (λ t. t || q path) left.passes;
        least = λ third e. elim (or_cases (p third) (q third) e) [
          | inl f ↦ left.least third f
          | inr f ↦ upto shared_total path other third first (right.least third f)
        ];
      }

-- ---- reaches

spread_right : (a b c d : Bool) → (a && b && (c || d)) ≡ ((a && b && c) || (a && b && d))
spread_right false b c d = refl
spread_right true false c d = refl
spread_right true true c d = refl

spread_left : (a b c d : Bool) → (a && (b || c) && d) ≡ ((a && b && d) || (a && c && d))
spread_left false b c d = refl
spread_left true true c true = refl
spread_left true true true false = refl
spread_left true true false false = refl
spread_left true false c d = refl

module _ (a_below b_below : Bool) where
  -- two expansions alone
  pub plain_pair : (a b : List (List Element)) (path : Path) → is_met a a_below b b_below path ≡ are_met (a ∷ []) a_below (b ∷ []) b_below path
  plain_pair a b path = sym (ap (λ t. has_names path && t && (in_reach b b_below path || false)) (or-false (in_reach a a_below path)) ∙ ap (λ t. has_names path && in_reach a a_below path && t) (or-false (in_reach b b_below path)))

  -- one expansion more
  more_right : (a b : List (List (List Element))) (i : ℕ) → i < length b → (path : Path)
      → are_met a a_below (take (i + 1) b) b_below path ≡ (are_met a a_below (take i b) b_below path || are_met a a_below (get_or b i [] ∷ []) b_below path)
  more_right a b i l path =
      let front = has_names path && reached a a_below path in
      ap (λ t. front && t) (list_any_more (λ plain. in_reach plain b_below path) b i [] l ∙ ap (λ t. reached (take i b) b_below path || t) (sym (or-false (in_reach (get_or b i []) b_below path))))
      ∙ spread_right (has_names path) (reached a a_below path) (reached (take i b) b_below path) (reached (get_or b i [] ∷ []) b_below path)

  more_left : (a b : List (List (List Element))) (i : ℕ) → i < length a → (path : Path)
      → are_met (take (i + 1) a) a_below b b_below path ≡ (are_met (take i a) a_below b b_below path || are_met (get_or a i [] ∷ []) a_below b b_below path)
  more_left a b i l path =
      ap (λ t. has_names path && t && reached b b_below path) (list_any_more (λ plain. in_reach plain a_below path) a i [] l ∙ ap (λ t. reached (take i a) a_below path || t) (sym (or-false (in_reach (get_or a i []) a_below path))))
      ∙ spread_left (has_names path) (reached (take i a) a_below path) (reached (get_or a i [] ∷ []) a_below path) (reached b b_below path)

  pub step_right : (a : List (List Element)) (b : List (List (List Element))) (i : ℕ) (item plain : List (List Element)) (found next : Option Path) → i < length b → item ≡ get_or b i item → plain ≡ item
      → Finds (are_met (a ∷ []) a_below (take i b) b_below) found
      → (IsNone next → (path : Path) → is_met a a_below plain b_below path ≡ false) → IfSome next (IsFirst shared_cmp (is_met a a_below plain b_below))
      → Finds (are_met (a ∷ []) a_below (take (i + 1) b) b_below) (earlier_of found next)
  step_right a b i item plain found next l at same finds none first =
      let old = are_met (a ∷ []) a_below (take i b) b_below in
      let new = are_met (a ∷ []) a_below (get_or b i [] ∷ []) b_below in
      let one = finds_same (is_met a a_below plain b_below) (are_met (a ∷ []) a_below (plain ∷ []) b_below) next (plain_pair a plain) (finds_from (is_met a a_below plain b_below) next none first) in
      let there : Finds new next = subst (λ (x : List (List Element)). Finds (are_met (a ∷ []) a_below (x ∷ []) b_below) next) (same ∙ at ∙ get_or_default b i item [] l) one in
      finds_same (λ path. old path || new path) (are_met (a ∷ []) a_below (take (i + 1) b) b_below) (earlier_of found next) (λ path. sym (more_right (a ∷ []) b i l path)) (finds_either old new found next finds there)

  pub step_left : (a b : List (List (List Element))) (i : ℕ) (item plain : List (List Element)) (found next : Option Path) → i < length a → item ≡ get_or a i item → plain ≡ item
      → Finds (are_met (take i a) a_below b b_below) found → Finds (are_met (plain ∷ []) a_below b b_below) next
      → Finds (are_met (take (i + 1) a) a_below b b_below) (earlier_of found next)
  step_left a b i item plain found next l at same finds one =
      let old = are_met (take i a) a_below b b_below in
      let new = are_met (get_or a i [] ∷ []) a_below b b_below in
      let there : Finds new next = subst (λ (x : List (List Element)). Finds (are_met (x ∷ []) a_below b b_below) next) (same ∙ at ∙ get_or_default a i item [] l) one in
      finds_same (λ path. old path || new path) (are_met (take (i + 1) a) a_below b b_below) (earlier_of found next) (λ path. sym (more_left a b i l path)) (finds_either old new found next finds there)
