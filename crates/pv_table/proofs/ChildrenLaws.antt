-- Laws of paths that go where all that they hold goes.
use Rattle.std.specs.Prelude.{◌≡◌, ℕ, ◌+◌, ◌<◌, ◌≤◌, Bool, true, false, not, ◌||◌, List, [], ◌∷◌, ◌++◌, length, is_some}
use Rattle.std.proofs.Common.{refl, sym, ap, ◌∙◌, arith, zero, suc, length-append}
use Rattle.std.specs.List.{list_all, list_any}
use Rattle.std.specs.FinMap as fin
use Rattle.std.specs.Option.{option_map_or}
use Rattle.std.specs.Ordering.{eq_by_cmp, is_eq}
use Rattle.pv_path.specs.Names.{name_cmp}
use Rattle.pv_path.specs.Paths.{Path, path_cmp}
use Rattle.pv_path.proofs.PathLaws.{name_cmp-refl, name_cmp-exact, tied-equal}
use Rattle.pv_path.proofs.Tests.{equal_of, same_tests}
use Rattle.pv_steps.specs.Objects.{is_directory}
use Rattle.pv_steps.specs.Trees.{Files, places, names_below, IsTree}
use Rattle.pv_steps.proofs.NameLaws.{names_below-are}
use Rattle.pv_walk.proofs.FindingLaws.{no_names}
use Rattle.pv_walk.proofs.WholeLaws.{member_passes, members_pass}
use Rattle.pv_table.specs.Removed.{is_directory_at}
use Rattle.pv_table.specs.Children.{children_go}

name_same : (n : List ℕ) → eq_by_cmp name_cmp n n ≡ true
name_same n = ap is_eq (name_cmp-refl n)

name_exact_by : (n m : List ℕ) → eq_by_cmp name_cmp n m ≡ true → n ≡ m
name_exact_by n m e = name_cmp-exact n m (equal_of (name_cmp n m) e)

-- the length of all paths together
all_lengths : List Path → ℕ
all_lengths [] = 0
all_lengths (p ∷ ps) = length p + all_lengths ps

no_longer : (ps : List Path) (q : Path) → list_any (eq_by_cmp path_cmp q) ps ≡ true → length q ≤ all_lengths ps
unfolding all_lengths
no_longer [] q h = cc
no_longer (p ∷ ps) q h = by (eq_by_cmp path_cmp q p) refl (no_longer ps q) h
  where
    by : (b : Bool) → eq_by_cmp path_cmp q p ≡ b → (list_any (eq_by_cmp path_cmp q) ps ≡ true → length q ≤ all_lengths ps) → (b || list_any (eq_by_cmp path_cmp q) ps) ≡ true → length q ≤ length p + all_lengths ps
    by true e later h = let same = ap length (tied-equal q p e) in omega (arith, same)
    by false e later h = let rest = later h in omega (arith, rest)

module _ (t : Files) where
  child_there : (q : Path) (n : List ℕ) → list_any (eq_by_cmp name_cmp n) (names_below t q) ≡ true → is_some (places t (q ++ n ∷ [])) ≡ true
  child_there q n h = sym (names_below-are t q n) ∙ h

  -- what holds of all children, by predicates that agree on them
  pub children_go-same : (f g : Path → Bool) (q : Path) → ((n : List ℕ) → is_some (places t (q ++ n ∷ [])) ≡ true → f (q ++ n ∷ []) ≡ g (q ++ n ∷ [])) → children_go f t q ≡ children_go g t q
  children_go-same f g q same =
      ap (λ b. not (is_directory_at (places t) q) || b)
      (same_tests (list_all (λ n. f (q ++ n ∷ [])) (names_below t q)) (list_all (λ n. g (q ++ n ∷ [])) (names_below t q))
      (λ all. members_pass (eq_by_cmp name_cmp) name_same (λ n. g (q ++ n ∷ [])) (names_below t q)
      (λ n h. sym (same n (child_there q n h)) ∙ member_passes (eq_by_cmp name_cmp) name_exact_by (λ m. f (q ++ m ∷ [])) n (names_below t q) all h))
      (λ all. members_pass (eq_by_cmp name_cmp) name_same (λ n. f (q ++ n ∷ [])) (names_below t q)
      (λ n h. same n (child_there q n h) ∙ member_passes (eq_by_cmp name_cmp) name_exact_by (λ m. g (q ++ m ∷ [])) n (names_below t q) all h)))

  -- two predicates that are said of each path by their own children alone are one
  pub one_alone : (say : (Path → Bool) → Path → Bool)
      → ((f g : Path → Bool) (q : Path) → ((n : List ℕ) → is_some (places t (q ++ n ∷ [])) ≡ true → f (q ++ n ∷ []) ≡ g (q ++ n ∷ [])) → say f q ≡ say g q)
      → (f g : Path → Bool) → ((q : Path) → is_some (places t q) ≡ true → f q ≡ say f q) → ((q : Path) → is_some (places t q) ≡ true → g q ≡ say g q)
      → (q : Path) → is_some (places t q) ≡ true → f q ≡ g q
  one_alone say local f g are_f are_g q there = from (suc (all_lengths (fin.keys t))) q there (omega arith)
    where
      from : (depth : ℕ) (q : Path) → is_some (places t q) ≡ true → all_lengths (fin.keys t) < depth + length q → f q ≡ g q
      from zero q there long =
          let short = no_longer (fin.keys t) q (sym (fin.contains_key-keys t q) ∙ there) in
          absurd (omega (arith, short, long))
      from (suc depth) q there long =
          are_f q there
          ∙ local f g q (λ n at. from depth (q ++ n ∷ []) at (let lengths = length-append q (n ∷ []) in omega (arith, lengths, long)))
          ∙ sym (are_g q there)

  -- in a tree, all of some children go exactly if the path is not a directory or they do
  pub children_all : IsTree t → (f : Path → Bool) (q : Path) → children_go f t q ≡ list_all (λ n. f (q ++ n ∷ [])) (names_below t q)
  children_all tree f q = by (is_directory_at (places t) q) refl
    where
      by : (b : Bool) → is_directory_at (places t) q ≡ b → children_go f t q ≡ list_all (λ n. f (q ++ n ∷ [])) (names_below t q)
      by true e = ap (λ b. not b || list_all (λ n. f (q ++ n ∷ [])) (names_below t q)) e
      by false e =
          let none : names_below t q ≡ [] = no_names t tree q (λ is. let yes : is_directory_at (places t) q ≡ true = ap (λ k. option_map_or is_directory k false) is in cc) in
          ap (λ b. not b || list_all (λ n. f (q ++ n ∷ [])) (names_below t q)) e ∙ sym (ap (list_all (λ n. f (q ++ n ∷ []))) none)
