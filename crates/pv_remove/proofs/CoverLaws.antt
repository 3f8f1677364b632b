-- Laws of what lines cover: it is what is taken at the paths that they name.
use Rattle.std.specs.Prelude.{◌≡◌, ℕ, ◌+◌, ◌^◌, ◌<◌, ◌≤◌, Bool, true, false, ◌&&◌, ◌||◌, nat_le, List, [], ◌∷◌, ◌++◌, length, take, filter, cond, Some, is_some, is_none}
use Rattle.std.proofs.Common.{refl, sym, ap, subst, ◌∙◌, arith, zero, suc, length-append, get_or}
use Rattle.std.specs.List.{AllByRecursion, list_all, list_any, range_with_len}
use Rattle.std.specs.FinMap as fin
use Rattle.std.specs.Option.{option_map_or}
use Rattle.std.proofs.lemmas.Bool.Decides.{nat_tests}
use Rattle.std.proofs.lemmas.List.FromFn.{length-range_with_len, get_or-range_with_len}
use Rattle.std.proofs.lemmas.List.Folds.{Any-from_list_any}
use Rattle.std.proofs.Math.Seq.{take-append_seam}
use Rattle.std.proofs.Math.Bool.{and-false}
use Rattle.std.proofs.lemmas.Bool.{and_parts, and_from}
use Rattle.pv_lines.specs.declared.line.Line.{Line}
use Rattle.pv_lines.specs.declared.line.LinePath.{LinePath}
use Rattle.pv_lines.specs.declared.line.LinePath.TheVariants.{Literal, Glob}
use Rattle.pv_lines.specs.Lines.{IsLine, IsLinePath}
use Rattle.pv_glob.specs.declared.element.Element.{Element}
use Rattle.pv_glob.specs.Matching.{matches, some_matches}
use Rattle.pv_glob.proofs.MatchingLaws.{matches-length}
use Rattle.pv_path.specs.Paths.{Path, same_path, same_path-decides, is_prefix}
use Rattle.pv_path.proofs.PathLaws.{is_prefix-append, prefix_parts, same_path-refl}
use Rattle.pv_steps.specs.declared.node.Kind.TheVariants.{Directory}
use Rattle.pv_steps.specs.Objects.{is_directory}
use Rattle.pv_steps.specs.Trees.{Files, places, kind_of, IsTree}
use Rattle.pv_steps.proofs.TreeLaws.{present_above, directory_above}
use Rattle.pv_walk.specs.Removal.{is_below, is_one_of}
use Rattle.pv_walk.proofs.RemovalLaws.{below_parts, is_below-append}
use Rattle.pv_walk.proofs.FindingLaws.{one_of-tied, any_more}
use Rattle.pv_table.specs.declared.taking.Taking.{Taking}
use Rattle.pv_table.specs.declared.taking.Taking.TheVariants as taking
use Rattle.pv_table.specs.ActionTable.{taking_of}
use Rattle.pv_table.specs.Reaching.{names, names_in}
use Rattle.pv_table.specs.Removed.{covers, is_directory_at, is_named, refused_place}
use Rattle.pv_remove.specs.Covering.{takes}
use Rattle.pv_path.proofs.Tests.{same_tests}
use Rattle.pv_table.proofs.GoingLaws.{in_range}

-- ---- lists

-- what holds of all of a list holds at each place
pub at_place : {A : Type 0} (P : A → Type 0) (xs : List A) (i : ℕ) (x : A) → AllByRecursion P xs → i < length xs → x ≡ get_or xs i x → P x
at_place P [] i x all within is = absurd (omega (arith, within))
at_place P (y ∷ xs) zero x all within is = subst P (sym is) all.0
at_place P (y ∷ xs) (suc i) x all within is = at_place P xs i x all.1 (omega (arith, within)) is

-- what a filter keeps passes its test
pub kept_passes : {A : Type 0} (f : A → Bool) (xs : List A) (i : ℕ) (x : A) → i < length (filter f xs) → x ≡ get_or (filter f xs) i x → f x ≡ true
kept_passes f [] i x within is = absurd (omega (arith, within))
kept_passes {A} f (y ∷ xs) i x within is = by (f y) refl i within is (kept_passes f xs)
  where
    by : (b : Bool) → f y ≡ b → (j : ℕ) → j < length (cond b (y ∷ filter f xs) (filter f xs)) → x ≡ get_or (cond b (y ∷ filter f xs) (filter f xs)) j x
        → ((k : ℕ) (z : A) → k < length (filter f xs) → z ≡ get_or (filter f xs) k z → f z ≡ true) → f x ≡ true
    by true e zero within is rest = ap f is ∙ e
    by true e (suc j) within is rest = rest j x (omega (arith, within)) is
    by false e j within is rest = rest j x within is

any_in : (f g : Path → Bool) (xs : List Path) → list_any g (filter f xs) ≡ true → (p : Path) × (is_one_of xs p ≡ true) × (f p ≡ true) × (g p ≡ true)
any_in f g [] h = cc
any_in f g (x ∷ xs) h = by (f x) refl (any_in f g xs) h
  where
    later : (p : Path) → is_one_of xs p ≡ true → is_one_of (x ∷ xs) p ≡ true
    later p h = or_true (same_path x p)
      where
        or_true : (b : Bool) → (b || is_one_of xs p) ≡ true
        or_true true = refl
        or_true false = h

    by : (b : Bool) → f x ≡ b → (list_any g (filter f xs) ≡ true → (p : Path) × (is_one_of xs p ≡ true) × (f p ≡ true) × (g p ≡ true)) → list_any g (cond b (x ∷ filter f xs) (filter f xs)) ≡ true
        → (p : Path) × (is_one_of (x ∷ xs) p ≡ true) × (f p ≡ true) × (g p ≡ true)
    by true e rest h = at (g x) refl h
      where
        at : (c : Bool) → g x ≡ c → (c || list_any g (filter f xs)) ≡ true → (p : Path) × (is_one_of (x ∷ xs) p ≡ true) × (f p ≡ true) × (g p ≡ true)
        at true is h = (x, ap (λ b. b || is_one_of xs x) (same_path-refl x), e, is)
        at false is h = let found = rest h in (found.0, later found.0 found.1, found.2, found.3)
    by false e rest h = let found = rest h in (found.0, later found.0 found.1, found.2, found.3)

pub in_any : (f g : Path → Bool) (xs : List Path) (p : Path) → is_one_of xs p ≡ true → f p ≡ true → g p ≡ true → list_any g (filter f xs) ≡ true
in_any f g [] p h a b = cc
in_any f g (x ∷ xs) p h a b = by (same_path x p) refl (in_any f g xs p) h
  where
    here : x ≡ p → list_any g (filter f (x ∷ xs)) ≡ true
    here e = ap (λ c. list_any g (cond c (x ∷ filter f xs) (filter f xs))) (ap f e ∙ a) ∙ ap (λ c. c || list_any g (filter f xs)) (ap g e ∙ b)

    more : (c : Bool) → list_any g (filter f xs) ≡ true → list_any g (cond c (x ∷ filter f xs) (filter f xs)) ≡ true
    more true h = or_true (g x)
      where
        or_true : (d : Bool) → (d || list_any g (filter f xs)) ≡ true
        or_true true = refl
        or_true false = h
    more false h = h

    by : (s : Bool) → same_path x p ≡ s → (is_one_of xs p ≡ true → f p ≡ true → g p ≡ true → list_any g (filter f xs) ≡ true) → (s || is_one_of xs p) ≡ true → list_any g (filter f (x ∷ xs)) ≡ true
    by true e rest h = here ((same_path-decides x p).0 e)
    by false e rest h = more (f x) (rest h a b)

pub from_range : (f : ℕ → Bool) (n : ℕ) → list_any f (range_with_len 0 n) ≡ true → (k : ℕ) × (k < n) × (f k ≡ true)
from_range f n h =
    let found = Any-from_list_any f (range_with_len 0 n) h in
    let len = length-range_with_len 0 n in
    let within : found.0 < n = omega (arith, len, found.2) in
    let there : get_or (range_with_len 0 n) found.0 found.1 ≡ found.0 = omega (arith, get_or-range_with_len 0 n found.0 found.1 within) in
    (found.0, within, ap f (sym there ∙ found.3) ∙ found.4)

-- a test of one item more, of the object at a path
pub both_or : {A : Type 0} (f : A → Bool) (there : Bool) (items : List A) (i : ℕ) (x : A) (old : Bool) → i < length items → x ≡ get_or items i x
    → old ≡ (there && list_any f (take i items)) → (old || (there && f x)) ≡ (there && list_any f (take (i + 1) items))
both_or f there items i x old within is before =
    ap (λ b. b || (there && f x)) before ∙ by there ∙ ap (λ b. there && b) (any_more f items i x within is)
  where
    by : (t : Bool) → ((t && list_any f (take i items)) || (t && f x)) ≡ (t && (list_any f (take i items) || f x))
    by true = refl
    by false = refl

-- the same, where something was there before
pub or_more : {A : Type 0} (f : A → Bool) (items : List A) (i : ℕ) (x : A) (old start new : Bool) → i < length items → x ≡ get_or items i x
    → old ≡ (start || list_any f (take i items)) → new ≡ (old || f x) → new ≡ (start || list_any f (take (i + 1) items))
or_more f items i x old start new within is before after =
    after ∙ ap (λ b. b || f x) before ∙ by start ∙ ap (λ b. start || b) (any_more f items i x within is)
  where
    by : (s : Bool) → ((s || list_any f (take i items)) || f x) ≡ (s || (list_any f (take i items) || f x))
    by true = refl
    by false = refl

-- ---- what one line covers

pub take_rest_of : (k : ℕ) (q : Path) → k ≤ length q → (r : Path) × (q ≡ take k q ++ r) × (length (take k q) ≡ k)
take_rest_of zero q le = (q, refl, refl)
take_rest_of (suc k) [] le = absurd (omega (arith, le))
take_rest_of (suc k) (n ∷ q) le = let rest = take_rest_of k q (omega (arith, le)) in (rest.0, ap (λ p. n ∷ p) rest.1, omega (arith, rest.2))

module _ (files : Files) (tree : IsTree files) (line : Line) (q : Path) where
  pub key_there : (p : Path) → is_some (places files p) ≡ true → is_one_of (fin.keys files) p ≡ true
  key_there p there = sym (one_of-tied (fin.keys files) p) ∙ sym (fin.contains_key-keys files p) ∙ there

  directory_is : (p : Path) → kind_of (places files p) ≡ Some Directory → is_directory_at (places files) p ≡ true
  directory_is p e = ap (λ k. option_map_or is_directory k false) e

  none_taken : (ps : List Path) → list_any (λ p. is_none (refused_place line (places files) p) && false) ps ≡ false
  none_taken [] = refl
  none_taken (p ∷ ps) = ap (λ b. b || list_any (λ r. is_none (refused_place line (places files) r) && false) ps) (and-false (is_none (refused_place line (places files) p))) ∙ none_taken ps

  pub covers_named : list_any (λ p. is_none (refused_place line (places files) p) && takes (taking_of line) files p q) (filter (names line) (fin.keys files)) ≡ (is_some (places files q) && covers line (places files) q)
  covers_named = by (taking_of line) refl
    where
      itself : list_any (λ p. is_none (refused_place line (places files) p) && takes taking.Itself files p q) (filter (names line) (fin.keys files)) ≡ (is_some (places files q) && is_named line (places files) q)
      itself = same_tests _ _
          (λ h.
          let found = any_in (names line) (λ p. is_none (refused_place line (places files) p) && takes taking.Itself files p q) (fin.keys files) h in
          let parts = and_parts (is_none (refused_place line (places files) found.0)) (is_some (places files q) && same_path found.0 q) found.3 in
          let two = and_parts (is_some (places files q)) (same_path found.0 q) parts.1 in
          let same : found.0 ≡ q = (same_path-decides found.0 q).0 two.1 in
          and_from (is_some (places files q)) (is_named line (places files) q) two.0 (subst (λ (r : Path). is_named line (places files) r ≡ true) same (and_from (names line found.0) (is_none (refused_place line (places files) found.0)) found.2 parts.0)))
          (λ h.
          let parts = and_parts (is_some (places files q)) (is_named line (places files) q) h in
          let two = and_parts (names line q) (is_none (refused_place line (places files) q)) parts.1 in
          in_any (names line) (λ p. is_none (refused_place line (places files) p) && takes taking.Itself files p q) (fin.keys files) q (key_there q parts.0) two.0
          (and_from (is_none (refused_place line (places files) q)) (is_some (places files q) && same_path q q) two.1 (and_from (is_some (places files q)) (same_path q q) parts.0 (same_path-refl q))))

      whole : list_any (λ p. is_none (refused_place line (places files) p) && takes taking.Whole files p q) (filter (names line) (fin.keys files)) ≡ (is_some (places files q) && list_any (λ k. is_named line (places files) (take k q)) (range_with_len 0 (length q + 1)))
      whole = same_tests _ _
          (λ h.
          let found = any_in (names line) (λ p. is_none (refused_place line (places files) p) && takes taking.Whole files p q) (fin.keys files) h in
          let parts = and_parts (is_none (refused_place line (places files) found.0)) (is_some (places files q) && is_prefix found.0 q) found.3 in
          let two = and_parts (is_some (places files q)) (is_prefix found.0 q) parts.1 in
          let rest = prefix_parts found.0 q two.1 in
          let first : take (length found.0) q ≡ found.0 = ap (take (length found.0)) rest.1 ∙ take-append_seam found.0 rest.0 in
          let within : length found.0 < length q + 1 = omega (arith, ap length rest.1, length-append found.0 rest.0) in
          and_from (is_some (places files q)) (list_any (λ k. is_named line (places files) (take k q)) (range_with_len 0 (length q + 1))) two.0
          (in_range (λ k. is_named line (places files) (take k q)) (length q + 1) (length found.0) within
          (subst (λ (r : Path). is_named line (places files) r ≡ true) (sym first) (and_from (names line found.0) (is_none (refused_place line (places files) found.0)) found.2 parts.0))))
          (λ h.
          let parts = and_parts (is_some (places files q)) (list_any (λ k. is_named line (places files) (take k q)) (range_with_len 0 (length q + 1))) h in
          let found = from_range (λ k. is_named line (places files) (take k q)) (length q + 1) parts.1 in
          let rest = take_rest_of found.0 q (omega (arith, found.1)) in
          let two = and_parts (names line (take found.0 q)) (is_none (refused_place line (places files) (take found.0 q))) found.2 in
          let there = present_above (places files) tree (take found.0 q) rest.0 (subst (λ (r : Path). is_some (places files r) ≡ true) rest.1 parts.0) in
          let under : is_prefix (take found.0 q) q ≡ true = subst (λ (r : Path). is_prefix (take found.0 q) r ≡ true) (sym rest.1) (is_prefix-append (take found.0 q) rest.0) in
          in_any (names line) (λ p. is_none (refused_place line (places files) p) && takes taking.Whole files p q) (fin.keys files) (take found.0 q) (key_there (take found.0 q) there) two.0
          (and_from (is_none (refused_place line (places files) (take found.0 q))) (is_some (places files q) && is_prefix (take found.0 q) q) two.1 (and_from (is_some (places files q)) (is_prefix (take found.0 q) q) parts.0 under)))

      contents : list_any (λ p. is_none (refused_place line (places files) p) && takes taking.Contents files p q) (filter (names line) (fin.keys files)) ≡ (is_some (places files q) && list_any (λ k. is_named line (places files) (take k q) && is_directory_at (places files) (take k q)) (range_with_len 0 (length q)))
      contents = same_tests _ _
          (λ h.
          let found = any_in (names line) (λ p. is_none (refused_place line (places files) p) && takes taking.Contents files p q) (fin.keys files) h in
          let parts = and_parts (is_none (refused_place line (places files) found.0)) (is_some (places files q) && is_below found.0 q) found.3 in
          let two = and_parts (is_some (places files q)) (is_below found.0 q) parts.1 in
          let rest = below_parts found.0 q two.1 in
          let first : take (length found.0) q ≡ found.0 = ap (take (length found.0)) rest.2 ∙ take-append_seam found.0 (rest.0 ∷ rest.1) in
          let within : length found.0 < length q = omega (arith, ap length rest.2, length-append found.0 (rest.0 ∷ rest.1)) in
          let directory = directory_is found.0 (directory_above (places files) tree found.0 rest.0 rest.1 (subst (λ (r : Path). is_some (places files r) ≡ true) rest.2 two.0)) in
          and_from (is_some (places files q)) (list_any (λ k. is_named line (places files) (take k q) && is_directory_at (places files) (take k q)) (range_with_len 0 (length q))) two.0
          (in_range (λ k. is_named line (places files) (take k q) && is_directory_at (places files) (take k q)) (length q) (length found.0) within
          (subst (λ (r : Path). (is_named line (places files) r && is_directory_at (places files) r) ≡ true) (sym first)
          (and_from (is_named line (places files) found.0) (is_directory_at (places files) found.0) (and_from (names line found.0) (is_none (refused_place line (places files) found.0)) found.2 parts.0) directory))))
          (λ h.
          let parts = and_parts (is_some (places files q)) (list_any (λ k. is_named line (places files) (take k q) && is_directory_at (places files) (take k q)) (range_with_len 0 (length q))) h in
          let found = from_range (λ k. is_named line (places files) (take k q) && is_directory_at (places files) (take k q)) (length q) parts.1 in
          let rest = take_rest_of found.0 q (omega (arith, found.1)) in
          let one = and_parts (is_named line (places files) (take found.0 q)) (is_directory_at (places files) (take found.0 q)) found.2 in
          let two = and_parts (names line (take found.0 q)) (is_none (refused_place line (places files) (take found.0 q))) one.0 in
          let there = present_above (places files) tree (take found.0 q) rest.0 (subst (λ (r : Path). is_some (places files r) ≡ true) rest.1 parts.0) in
          let under : is_below (take found.0 q) q ≡ true = deeper (take found.0 q) rest.0 rest.1 (omega (arith, rest.2, found.1)) in
          in_any (names line) (λ p. is_none (refused_place line (places files) p) && takes taking.Contents files p q) (fin.keys files) (take found.0 q) (key_there (take found.0 q) there) two.0
          (and_from (is_none (refused_place line (places files) (take found.0 q))) (is_some (places files q) && is_below (take found.0 q) q) two.1 (and_from (is_some (places files q)) (is_below (take found.0 q) q) parts.0 under)))
        where
          deeper : (p r : Path) → q ≡ p ++ r → length p < length q → is_below p q ≡ true
          deeper p [] e less = absurd (omega (arith, less, ap length e, length-append p []))
          deeper p (n ∷ r) e less = subst (λ (s : Path). is_below p s ≡ true) (sym e) (is_below-append p n r)

      by : (v : Taking) → taking_of line ≡ v → list_any (λ p. is_none (refused_place line (places files) p) && takes (taking_of line) files p q) (filter (names line) (fin.keys files)) ≡ (is_some (places files q) && covers line (places files) q)
      by taking.Itself e = rw e itself
      by taking.Whole e = rw e whole
      by taking.Contents e = rw e contents
      by taking.Nothing e = rw e (none_taken (filter (names line) (fin.keys files)) ∙ sym (and-false (is_some (places files q))))

-- ---- sizes

-- a path that a line names has fewer than 2^32 names
pub named_short : (line : Line) (path : Path) → IsLine line → names line path ≡ true → length path < 2 ^ 32
named_short line path is named = by line.path is.fits.path named
  where
    short : (plains : List (List (List Element))) → list_all (λ plain. nat_le (length plain) 4294967295) plains ≡ true → some_matches plains path ≡ true → length path < 2 ^ 32
    short [] all h = cc
    short (plain ∷ plains) all h = at (matches plain path) refl (and_parts (nat_le (length plain) 4294967295) (list_all (λ p. nat_le (length p) 4294967295) plains) all) h (short plains)
      where
        at : (b : Bool) → matches plain path ≡ b → (nat_le (length plain) 4294967295 ≡ true) × (list_all (λ p. nat_le (length p) 4294967295) plains ≡ true) → (b || some_matches plains path) ≡ true
            → (list_all (λ p. nat_le (length p) 4294967295) plains ≡ true → some_matches plains path ≡ true → length path < 2 ^ 32) → length path < 2 ^ 32
        at true e parts h rest =
            let few : length plain ≤ 4294967295 = grind (arith, nat_tests, parts.0) in
            let long = matches-length plain path e in
            omega (arith, few, long)
        at false e parts h rest = rest parts.1 h

    by : (lp : LinePath) → IsLinePath is.row lp → names_in lp path ≡ true → length path < 2 ^ 32
    by (Literal own) fits h = subst (λ (p : Path). length p < 2 ^ 32) ((same_path-decides own path).0 h) fits.1.few
    by (Glob pattern) fits h = short pattern fits.1 h
