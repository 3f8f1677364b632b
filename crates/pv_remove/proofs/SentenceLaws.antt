-- What is gone is what the manual's sentence says of each path by what is gone of what stands in it, and nothing else is.
use Rattle.std.specs.Prelude.{◌≡◌, ℕ, ◌+◌, ◌≤◌, Bool, true, false, not, ◌&&◌, ◌||◌, ◌==◌, List, [], ◌∷◌, ◌++◌, length, take, is_some}
use Rattle.std.proofs.Common.{refl, sym, ap, subst, ◌∙◌, arith, length-append}
use Rattle.std.specs.List.{list_all, list_any, range_with_len}
use Rattle.std.proofs.lemmas.Bool.{and_parts, and_from, or_right}
use Rattle.std.proofs.lemmas.List.{take-append-le}
use Rattle.pv_lines.specs.declared.line.Line.{Line}
use Rattle.pv_path.specs.Paths.{Path, is_prefix}
use Rattle.pv_path.proofs.PathLaws.{is_prefix-refl, prefix_parts}
use Rattle.pv_path.proofs.Tests.{same_tests}
use Rattle.pv_steps.specs.Trees.{Files, places, names_below, IsTree}
use Rattle.pv_walk.proofs.WholeLaws.{goes_parts, goes_from, goes_by_children, all_at-each, each-all_at}
use Rattle.pv_table.specs.declared.taking.Taking.{Taking}
use Rattle.pv_table.specs.declared.taking.Taking.TheVariants as taking
use Rattle.pv_table.specs.ActionTable.{taking_of}
use Rattle.pv_table.specs.Removed.{covers, is_directory_at, is_gone, is_named}
use Rattle.pv_remove.specs.Sentences.{is_gone_by, takes_by}
use Rattle.pv_table.specs.Children.{children_go}
use Rattle.pv_remove.proofs.CoverLaws.{from_range}
use Rattle.pv_table.proofs.GoingLaws.{in_range}
use Rattle.pv_table.proofs.ChildrenLaws.{children_all, children_go-same, one_alone}

-- ---- what is gone

-- of items some of which pass, one that does: where it passes another test, some pass that
one_passing : {A : Type 0} (f : A → Bool) (xs : List A) → list_any f xs ≡ true → (x : A) × (f x ≡ true) × ((g : A → Bool) → g x ≡ true → list_any g xs ≡ true)
one_passing f [] h = cc
one_passing {A} f (x ∷ xs) h = by (f x) refl (one_passing f xs) h
  where
    by : (b : Bool) → f x ≡ b → (list_any f xs ≡ true → (y : A) × (f y ≡ true) × ((g : A → Bool) → g y ≡ true → list_any g xs ≡ true)) → (b || list_any f xs) ≡ true
        → (y : A) × (f y ≡ true) × ((g : A → Bool) → g y ≡ true → list_any g (x ∷ xs) ≡ true)
    by true e later h = (x, e, λ g passes. ap (λ b. b || list_any g xs) passes)
    by false e later h = let found = later h in (found.0, found.1, λ g passes. or_right (g x) (list_any g xs) (found.2 g passes))

module _ (lines : List Line) (t : Files) (tree : IsTree t) (q : Path) where
  abbrev covered : Path → Bool
  covered r = list_any (λ line. covers line (places t) r) lines

  -- a line that covers a path of which all children are gone, takes it
  covering_takes : list_all (λ n. is_gone lines t (q ++ n ∷ [])) (names_below t q) ≡ true → (line : Line) → covers line (places t) q ≡ true → takes_by (is_gone lines t) line t q ≡ true
  covering_takes all line = by (taking_of line) refl
    where
      by : (v : Taking) → taking_of line ≡ v → covers line (places t) q ≡ true → takes_by (is_gone lines t) line t q ≡ true
      by taking.Whole e h =
          let is : covers line (places t) q ≡ takes_by (is_gone lines t) line t q = rw e refl in
          sym is ∙ h
      by taking.Contents e h =
          let is : covers line (places t) q ≡ takes_by (is_gone lines t) line t q = rw e refl in
          sym is ∙ h
      by taking.Itself e h =
          let is : covers line (places t) q ≡ is_named line (places t) q = rw e refl in
          let named : is_named line (places t) q ≡ true = sym is ∙ h in
          rw e (and_from (is_named line (places t) q) (children_go (is_gone lines t) t q) named (children_all t tree (is_gone lines t) q ∙ all))
      by taking.Nothing e h =
          let is : covers line (places t) q ≡ takes_by (is_gone lines t) line t q = rw e refl in
          sym is ∙ h

  -- what a line covers of a path, it covers of all below, where it takes more than the path itself
  module _ (line : Line) (r : Path) (under : is_prefix q r ≡ true) where
    first_names : (k : ℕ) → k ≤ length q → take k q ≡ take k r
    first_names k le = let parts = prefix_parts q r under in sym (ap (take k) parts.1 ∙ take-append-le k q parts.0 le)

    longer : length q ≤ length r
    longer = let parts = prefix_parts q r under in omega (arith, ap length parts.1, length-append q parts.0)

    whole_below : list_any (λ k. is_named line (places t) (take k q)) (range_with_len 0 (length q + 1)) ≡ true → list_any (λ k. is_named line (places t) (take k r)) (range_with_len 0 (length r + 1)) ≡ true
    whole_below h =
        let found = from_range (λ k. is_named line (places t) (take k q)) (length q + 1) h in
        in_range (λ k. is_named line (places t) (take k r)) (length r + 1) found.0 (omega (arith, found.1, longer))
        (subst (λ (p : Path). is_named line (places t) p ≡ true) (first_names found.0 (omega (arith, found.1))) found.2)

    contents_below : list_any (λ k. is_named line (places t) (take k q) && is_directory_at (places t) (take k q)) (range_with_len 0 (length q)) ≡ true
        → list_any (λ k. is_named line (places t) (take k r) && is_directory_at (places t) (take k r)) (range_with_len 0 (length r)) ≡ true
    contents_below h =
        let found = from_range (λ k. is_named line (places t) (take k q) && is_directory_at (places t) (take k q)) (length q) h in
        in_range (λ k. is_named line (places t) (take k r) && is_directory_at (places t) (take k r)) (length r) found.0 (omega (arith, found.1, longer))
        (subst (λ (p : Path). (is_named line (places t) p && is_directory_at (places t) p) ≡ true) (first_names found.0 (omega (arith, found.1))) found.2)

  -- a present path other than the root that a line takes is gone
  taking_gone : is_some (places t q) ≡ true → not (length q == 0) ≡ true → (line : Line) → ((test : Line → Bool) → test line ≡ true → list_any test lines ≡ true) → takes_by (is_gone lines t) line t q ≡ true → is_gone lines t q ≡ true
  taking_gone there below_root line pass = by (taking_of line) refl
    where
      by : (v : Taking) → taking_of line ≡ v → takes_by (is_gone lines t) line t q ≡ true → is_gone lines t q ≡ true
      by taking.Whole e h =
          let is : takes_by (is_gone lines t) line t q ≡ list_any (λ k. is_named line (places t) (take k q)) (range_with_len 0 (length q + 1)) = rw e refl in
          goes_from covered t q there below_root (each-all_at covered t q (λ r at under. pass (λ l. covers l (places t) r) (rw e (whole_below line r under (sym is ∙ h)))))
      by taking.Contents e h =
          let is : takes_by (is_gone lines t) line t q ≡ list_any (λ k. is_named line (places t) (take k q) && is_directory_at (places t) (take k q)) (range_with_len 0 (length q)) = rw e refl in
          goes_from covered t q there below_root (each-all_at covered t q (λ r at under. pass (λ l. covers l (places t) r) (rw e (contents_below line r under (sym is ∙ h)))))
      by taking.Itself e h =
          let is : takes_by (is_gone lines t) line t q ≡ (is_named line (places t) q && children_go (is_gone lines t) t q) = rw e refl in
          let both : (is_named line (places t) q && children_go (is_gone lines t) t q) ≡ true = sym is ∙ h in
          let parts = and_parts (is_named line (places t) q) (children_go (is_gone lines t) t q) both in
          let here : covers line (places t) q ≡ true = rw e parts.0 in
          let children : list_all (λ n. is_gone lines t (q ++ n ∷ [])) (names_below t q) ≡ true = sym (children_all t tree (is_gone lines t) q) ∙ parts.1 in
          goes_by_children covered t tree q there (pass (λ l. covers l (places t) q) here)
          ∙ and_from (not (length q == 0)) (list_all (λ n. is_gone lines t (q ++ n ∷ [])) (names_below t q)) below_root children
      by taking.Nothing e h =
          let is : takes_by (is_gone lines t) line t q ≡ false = rw e refl in
          absurd (let no : false ≡ true = sym is ∙ h in cc)

  -- what is gone is so by the sentence
  pub gone_by : is_gone lines t q ≡ is_gone_by (is_gone lines t) lines t q
  gone_by = same_tests (is_gone lines t q) (is_gone_by (is_gone lines t) lines t q) forth back
    where
      forth : is_gone lines t q ≡ true → is_gone_by (is_gone lines t) lines t q ≡ true
      forth h =
          let parts = goes_parts covered t q h in
          let here = all_at-each covered t q parts.2 q parts.0 (is_prefix-refl q) in
          let found = one_passing (λ line. covers line (places t) q) lines here in
          let children = and_parts (not (length q == 0)) (list_all (λ n. is_gone lines t (q ++ n ∷ [])) (names_below t q)) (sym (goes_by_children covered t tree q parts.0 here) ∙ h) in
          and_from (is_some (places t q) && not (length q == 0)) (list_any (λ line. takes_by (is_gone lines t) line t q) lines) (and_from (is_some (places t q)) (not (length q == 0)) parts.0 parts.1)
          (found.2 (λ line. takes_by (is_gone lines t) line t q) (covering_takes children.1 found.0 found.1))

      back : is_gone_by (is_gone lines t) lines t q ≡ true → is_gone lines t q ≡ true
      back h =
          let parts = and_parts (is_some (places t q) && not (length q == 0)) (list_any (λ line. takes_by (is_gone lines t) line t q) lines) h in
          let two = and_parts (is_some (places t q)) (not (length q == 0)) parts.0 in
          let found = one_passing (λ line. takes_by (is_gone lines t) line t q) lines parts.1 in
          taking_gone two.0 two.1 found.0 found.2 found.1

-- what is taken by predicates that agree on the children
takes_by-same : (line : Line) (t : Files) (f g : Path → Bool) (q : Path) → ((n : List ℕ) → is_some (places t (q ++ n ∷ [])) ≡ true → f (q ++ n ∷ []) ≡ g (q ++ n ∷ [])) → takes_by f line t q ≡ takes_by g line t q
takes_by-same line t f g q same = by (taking_of line) refl
  where
    by : (v : Taking) → taking_of line ≡ v → takes_by f line t q ≡ takes_by g line t q
    by taking.Whole e = rw e refl
    by taking.Contents e = rw e refl
    by taking.Itself e = rw e (ap (λ b. is_named line (places t) q && b) (children_go-same t f g q same))
    by taking.Nothing e = rw e refl

is_gone_by-same : (lines : List Line) (t : Files) (f g : Path → Bool) (q : Path) → ((n : List ℕ) → is_some (places t (q ++ n ∷ [])) ≡ true → f (q ++ n ∷ []) ≡ g (q ++ n ∷ [])) → is_gone_by f lines t q ≡ is_gone_by g lines t q
is_gone_by-same lines t f g q same =
    ap (λ (test : Line → Bool). (is_some (places t q) && not (length q == 0)) && list_any test lines) (λ i line. takes_by-same line t f g q same i)

-- a predicate that the sentence says is what is gone
pub gone_alone : (lines : List Line) (t : Files) (goes : Path → Bool) → IsTree t → ((q : Path) → is_some (places t q) ≡ true → goes q ≡ is_gone_by goes lines t q)
    → (q : Path) → is_some (places t q) ≡ true → goes q ≡ is_gone lines t q
gone_alone lines t goes tree new_messages q there =
    one_alone t (λ f p. is_gone_by f lines t p) (λ f g p same. is_gone_by-same lines t f g p same) goes (is_gone lines t) new_messages (λ p at. gone_by lines t tree p) q there
