-- Laws of taking away whole subtrees one after the other, and of their counts.
use Rattle.std.specs.Prelude.{◌≡◌, ◌≢◌, ℕ, ◌+◌, ◌≤◌, ◌<◌, Bool, true, false, cond, not, ◌&&◌, ◌||◌, List, [], ◌∷◌, ◌++◌, map, length, take, drop, sum_by, get_or, filter, Option, Some, None, is_some, option_map, nat_le}
use Rattle.std.proofs.Common.{refl, sym, ap, subst, ◌∙◌, arith, inl, inr}
use Rattle.std.specs.List.{list_any, AllByRecursion}
use Rattle.std.proofs.lemmas.List.{take_more, take-append-drop, get_or-map}
use Rattle.std.proofs.lemmas.List.Sums.{fold_more, sum-map, AllPass-from_list_all, sum_by_more, sum_by-take-le}
use Rattle.std.proofs.lemmas.List.Folds.{list_any-append}
use Rattle.std.proofs.lemmas.List.FromFn.{get_or-map-range_with_len, length-map-range_with_len}
use Rattle.std.specs.FinMap as fin
use Rattle.pv_path.specs.Names.{staging_name}
use Rattle.pv_path.specs.Paths.{Path, same_path, is_prefix, parent_of, last_name, staging_of}
use Rattle.std.proofs.lemmas.Bool.Decides.{nat_tests}
use Rattle.std.proofs.lemmas.List.Elements.{All-get_or}
use Rattle.std.proofs.lemmas.Bool.{cases_Bool, and_parts, or_parts}
use Rattle.std.proofs.lemmas.Option.{same_Some}
use Rattle.pv_path.proofs.PathLaws.{is_prefix-refl, last_name-push, path_parts}
use Rattle.pv_steps.specs.declared.object.Object.{Object}
use Rattle.pv_steps.specs.Objects.{object_state}
use Rattle.pv_steps.specs.Steps.{touched}
use Rattle.pv_steps.specs.Trees.{Files, Places, places, IsPresent, beside}
use Rattle.pv_walk.specs.Edits.{cut, taken, all_taken, count_at, Pruned}
use Rattle.pv_walk.specs.Staging.{prefixes, can_stage, staging_names, is_under_any, count_at_all}
use Rattle.pv_walk.specs.Removal.{is_below, count_below}
use Rattle.pv_walk.specs.Listing.{times, stands_below}
use Rattle.pv_walk.proofs.CountLaws.{times-filter, times-keys, length-times, same_or_not}
use Rattle.pv_walk.proofs.PreparedLaws.{prefixes-cons, prefixes-nonempty}
use Rattle.pv_walk.proofs.RemovalLaws.{unless}
use Rattle.pv_walk.proofs.ListingLaws.{times-below, cond-zero}
use Rattle.pv_steps.proofs.ObjectLaws.{is_some-same}

-- ---- pruning composes

module _ (inside : Path → Bool) (t u : Files) (p : Pruned inside t u) where
  -- what is still there was there
  pub pruned_present : (q : Path) → IsPresent u q → IsPresent t q
  pruned_present q h = elim (cases_Bool (inside q)) [
    | inl e ↦ elim (p.within q e) [
      | inl gone ↦ absurd (let no : false ≡ true = sym (ap is_some gone) ∙ h in cc)
      | inr same ↦ sym (is_some-same (places u q) (places t q) same) ∙ h
    ]
    | inr e ↦ sym (is_some-same (places u q) (places t q) (p.outside q e)) ∙ h
  ]

  -- and what is pruned again, within the same, is pruned
  pub pruned_then : (narrow : Path → Bool) → ((q : Path) → narrow q ≡ true → inside q ≡ true) → (v : Files) → Pruned narrow u v → Pruned inside t v
  pruned_then narrow within v n = record {
    outside = λ q e. n.outside q (unless (narrow q) (inside q) (within q) e) ∙ p.outside q e;
    within = λ q e. elim (cases_Bool (narrow q)) [
      | inl h ↦ elim (n.within q h) [
        | inl gone ↦ inl gone
        | inr same ↦ elim (p.within q e) [
          | inl gone ↦ inl (absent (places u q) (places v q) same gone)
          | inr old ↦ inr (same ∙ old)
        ]
      ]
      | inr h ↦ elim (p.within q e) [
        | inl gone ↦ inl (absent (places u q) (places v q) (n.outside q h) gone)
        | inr old ↦ inr (n.outside q h ∙ old)
      ]
    ];
  }
    where
      absent : (x y : Option Object) → option_map object_state y ≡ option_map object_state x → x ≡ None → y ≡ None
      absent x None same gone = refl
      absent x (Some y) same gone = let no : Some (object_state y) ≡ None = same ∙ ap (option_map object_state) gone in cc

  -- there are no more objects than before
  pub pruned_count : (path : Path) → count_at u path ≤ count_at t path
  pruned_count path = length-times (filter (is_prefix path) (fin.keys u)) (filter (is_prefix path) (fin.keys t)) (λ q. omega (arith, times-filter (is_prefix path) q (fin.keys u), times-filter (is_prefix path) q (fin.keys t), fewer q))
    where
      fewer : (q : Path) → cond (is_prefix path q) (times q (fin.keys u)) 0 ≤ cond (is_prefix path q) (times q (fin.keys t)) 0
      fewer q = elim (is_prefix path q) as (λ b. cond b (times q (fin.keys u)) 0 ≤ cond b (times q (fin.keys t)) 0) [
        | true ↦ omega (arith, times-keys u q, times-keys t q, monotone (is_some (places u q)) (is_some (places t q)) (pruned_present q))
        | false ↦ omega arith
      ]
        where
          monotone : (a b : Bool) → (a ≡ true → b ≡ true) → cond a 1 0 ≤ cond b 1 0
          monotone true b f = subst (λ c. 1 ≤ cond c 1 0) (sym (f refl)) (omega arith)
          monotone false b f = omega arith

pub pruned-none : (inside : Path → Bool) (t : Files) → Pruned inside t t
pruned-none inside t = record { outside = λ q e. refl; within = λ q e. inr refl }

-- a wider region
pub pruned-wider : (narrow inside : Path → Bool) → ((q : Path) → narrow q ≡ true → inside q ≡ true) → (t u : Files) → Pruned narrow t u → Pruned inside t u
pruned-wider narrow inside within t u p = pruned_then inside t t (pruned-none inside t) narrow within u p

pub below_prefix : (path q : Path) → is_below path q ≡ true → is_prefix path q ≡ true
below_prefix path q h = (and_parts (is_prefix path q) _ h).0

-- ---- counts

module _ (files : Files) (path : Path) where
  times-at : (q : Path) → times q (filter (is_prefix path) (fin.keys files)) ≡ cond (is_prefix path q) (cond (is_some (places files q)) 1 0) 0
  times-at q = times-filter (is_prefix path) q (fin.keys files) ∙ ap (λ n. cond (is_prefix path q) n 0) (times-keys files q)

  below_within : (q : Path) → cond (stands_below files path q) 1 0 ≤ cond (is_prefix path q) (cond (is_some (places files q)) 1 0) 0
  below_within q = by (is_prefix path q) (not (same_path path q)) (is_some (places files q))
    where
      by : (a b c : Bool) → cond ((a && b) && c) 1 0 ≤ cond a (cond c 1 0) 0
      by true true c = omega arith
      by true false c = omega arith
      by false b c = omega arith

  -- what is below is among what is at and below
  pub count_below-le : count_below files path ≤ count_at files path
  count_below-le = length-times (filter (is_below path) (fin.keys files)) (filter (is_prefix path) (fin.keys files)) (λ q. omega (arith, times-at q, times-below files path q, below_within q))

  -- and a present path counts for one more
  pub count_below-lt : IsPresent files path → count_below files path < count_at files path
  count_below-lt present =
      omega (arith, length-times (path ∷ filter (is_below path) (fin.keys files)) (filter (is_prefix path) (fin.keys files)) (λ q. omega (arith, times-at q, times-below files path q, fits q)))
    where
      fits : (q : Path) → cond (same_path path q) 1 0 + cond (stands_below files path q) 1 0 ≤ cond (is_prefix path q) (cond (is_some (places files q)) 1 0) 0
      fits q = elim (same_or_not path q) [
        | inl s ↦
            let prefix : is_prefix path q ≡ true = subst (λ r. is_prefix path r ≡ true) s.0 (is_prefix-refl path) in
            let there : is_some (places files q) ≡ true = subst (IsPresent files) s.0 present in
            by (is_prefix path q) (same_path path q) (is_some (places files q)) prefix there
        | inr d ↦ omega (arith, below_within q, cond-zero (same_path path q) d)
      ]
        where
          by : (a b c : Bool) → a ≡ true → c ≡ true → cond b 1 0 + cond ((a && not b) && c) 1 0 ≤ cond a (cond c 1 0) 0
          by true true true e f = omega arith
          by true false true e f = omega arith
          by true b false e f = absurd (let no : false ≡ true = f in cc)
          by false b c e f = absurd (let no : false ≡ true = e in cc)

-- ---- the staging names along a path

module _ (path : Path) where
  pub length-staging_names : length (staging_names path) ≡ length path
  length-staging_names = omega (arith, length-map-range_with_len (λ k. take k path) 1 (length path), length_map (prefixes path))
    where
      length_map : (ps : List Path) → length (map staging_of ps) ≡ length ps
      length_map [] = refl
      length_map (p ∷ ps) = omega (arith, length_map ps)

  pub staging_name-at : (i : ℕ) (d : Path) → i < length path → get_or (staging_names path) i d ≡ staging_of (take (i + 1) path)
  staging_name-at i d h =
      get_or-map staging_of (prefixes path) i [] d (omega (arith, length-map-range_with_len (λ k. take k path) 1 (length path)))
      ∙ ap staging_of (get_or-map-range_with_len (λ k. take k path) 1 (length path) i (i + 1) [] h (omega arith))

  -- one more subtree taken
  pub all_taken-more : (now i : ℕ) (t : Places) → i < length path
      → all_taken now (take (i + 1) (staging_names path)) t ≡ taken now (staging_of (take (i + 1) path)) (all_taken now (take i (staging_names path)) t)
  all_taken-more now i t h =
      fold_more (λ u p. taken now p u) t (staging_names path) i [] (omega (arith, length-staging_names))
      ∙ ap (λ p. taken now p (all_taken now (take i (staging_names path)) t)) (staging_name-at i [] h)

  pub count-more : (files : Files) (i : ℕ) → i < length path
      → count_at_all files (take (i + 1) (staging_names path)) ≡ count_at_all files (take i (staging_names path)) + count_at files (staging_of (take (i + 1) path))
  count-more files i h =
      sum-map (count_at files) (take (i + 1) (staging_names path))
      ∙ sum_by_more (count_at files) (staging_names path) i [] (omega (arith, length-staging_names))
      ∙ ap (λ p. sum_by (count_at files) (take i (staging_names path)) + count_at files p) (staging_name-at i [] h)
      ∙ ap (λ n. n + count_at files (staging_of (take (i + 1) path))) (sym (sum-map (count_at files) (take i (staging_names path))))

  pub count-le : (files : Files) (i : ℕ) → count_at_all files (take i (staging_names path)) ≤ count_at_all files (staging_names path)
  count-le files i = omega (arith, sum-map (count_at files) (take i (staging_names path)), sum-map (count_at files) (staging_names path), sum_by-take-le (count_at files) (staging_names path) i)

  -- what lies at or below one of them lies at or below any
  pub under_any : (i : ℕ) → i < length path → (q : Path) → is_prefix (staging_of (take (i + 1) path)) q ≡ true → is_under_any (staging_names path) q ≡ true
  under_any i h q e =
      let more = take_more (staging_names path) i [] (omega (arith, length-staging_names)) in
      let split : staging_names path ≡ take (i + 1) (staging_names path) ++ drop (i + 1) (staging_names path) = sym (take-append-drop (i + 1) (staging_names path)) in
      ap (list_any (λ p. is_prefix p q)) split
      ∙ list_any-append (λ p. is_prefix p q) (take (i + 1) (staging_names path)) (drop (i + 1) (staging_names path))
      ∙ ap (λ b. b || list_any (λ p. is_prefix p q) (drop (i + 1) (staging_names path)))
      (ap (list_any (λ p. is_prefix p q)) more
      ∙ list_any-append (λ p. is_prefix p q) (take i (staging_names path)) (get_or (staging_names path) i [] ∷ [])
      ∙ last (list_any (λ p. is_prefix p q) (take i (staging_names path))) (is_prefix (get_or (staging_names path) i []) q) (ap (λ p. is_prefix p q) (staging_name-at i [] h) ∙ e))
    where
      last : (a b : Bool) → b ≡ true → (a || (b || false)) ≡ true
      last true b g = refl
      last false b g = ap (λ c. c || false) g

-- ---- whether anything is staged

-- the staging path of a longer path
staging_of-longer : (name : List ℕ) (paths : List Path) → AllByRecursion (λ (p : Path). p ≢ []) paths
    → map (λ (p : Path). name ∷ p) (map staging_of paths) ≡ map staging_of (map (λ (p : Path). name ∷ p) paths)
staging_of-longer name [] h = refl
staging_of-longer name ([] ∷ paths) h = absurd (h.0 refl)
staging_of-longer name ((other ∷ p) ∷ paths) h = ap (λ ps. (name ∷ staging_of (other ∷ p)) ∷ ps) (staging_of-longer name paths h.1)

-- the staging names beside the names of a path are those along it
pub beside-staged : (path : Path) → beside path (map staging_name path) ≡ staging_names path
beside-staged [] = refl
beside-staged (name ∷ path) =
    ap (λ ps. (staging_name name ∷ []) ∷ map (λ (p : Path). name ∷ p) ps) (beside-staged path)
    ∙ ap (λ ps. (staging_name name ∷ []) ∷ ps) (staging_of-longer name (prefixes path) (prefixes-nonempty path))
    ∙ sym (ap (map staging_of) (prefixes-cons name path))

-- where nothing stands, nothing is taken
pub nothing_taken : (now : ℕ) (paths : List Path) (t : Places) → list_any (λ p. is_some (t p)) paths ≡ false → all_taken now paths t ≡ t
nothing_taken now [] t none = refl
nothing_taken now (p ∷ paths) t none =
    let two = or_parts (is_some (t p)) (list_any (λ q. is_some (t q)) paths) none in
    ap (λ b. all_taken now paths (cond b (touched now p (cut p t)) t)) two.0 ∙ nothing_taken now paths t two.1

all_end : (xs : Path) (n : List ℕ) → can_stage (xs ++ n ∷ []) ≡ true → nat_le (length n) 250 ≡ true
all_end [] n h = (and_parts (nat_le (length n) 250) true h).0
all_end (x ∷ xs) n h = all_end xs n (and_parts (nat_le (length x) 250) (can_stage (xs ++ n ∷ [])) h).1

-- the last name of a path whose names are short is short
pub short_name : (path : Path) → can_stage path ≡ true → (n : List ℕ) → last_name path ≡ Some n → length n ≤ 250
short_name path short n e = le_from (length n) (all_end (parent_of path) n (subst (λ (p : Path). can_stage p ≡ true) (path_parts path n e) short))
  where
    le_from : (k : ℕ) → nat_le k 250 ≡ true → k ≤ 250
    le_from k h = grind (arith, nat_tests)

-- a place that is reached along a path whose names are short has a short last name
pub short_last : (path : Path) → can_stage path ≡ true → (i : ℕ) (name : List ℕ) → i < length path → name ≡ get_or path i name
    → (last : List ℕ) → last_name (take i path ++ name ∷ []) ≡ Some last → length last ≤ 250
short_last path short i name h is last e =
    let here = All-get_or (λ n. nat_le (length n) 250 ≡ true) path i name h (AllPass-from_list_all (λ n. nat_le (length n) 250) path short) in
    let fits : nat_le (length name) 250 ≡ true = subst (λ n. nat_le (length n) 250 ≡ true) (sym is) here in
    let same : Some name ≡ Some last = sym (last_name-push (take i path) name) ∙ e in
    subst (λ n. length n ≤ 250) (same_Some name last same) (le_from (length name) fits)
  where
    le_from : (n : ℕ) → nat_le n 250 ≡ true → n ≤ 250
    le_from n h = grind (arith, nat_tests)
