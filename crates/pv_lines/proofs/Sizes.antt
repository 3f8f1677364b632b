-- How many components the expansions of a pattern have that a text spells.
use Rattle.std.specs.Prelude.{◌≡◌, ℕ, ◌+◌, ◌*◌, ◌≤◌, Bool, true, false, ◌==◌, nat_lt, nat_le, List, [], ◌∷◌, ◌++◌, map, length, Option, Some, None, Result, Ok, Err, if◌then◌else◌, refl}
use Rattle.std.specs.List.{list_all, list_any, slice_split}
use Rattle.std.specs.Option.{option_map_or}
use Rattle.std.specs.Result.{result_map_both}
use Rattle.std.proofs.Common.{arith}
use Rattle.std.proofs.lemmas.Bool.Decides.{nat_tests}
use Rattle.std.proofs.lemmas.List.Folds.{list_all-append}
use Rattle.std.proofs.lemmas.List.Splits.{length-slice_split}
use Rattle.std.proofs.lemmas.List.Sums.{count_by-le-length, length-filter}
use Rattle.pv_path.specs.Parsing.{begins_with_slash}
use Rattle.pv_glob.specs.Braces.{joined}
use Rattle.pv_glob.specs.Parsing.{component_fault, components_of, first_fault, name_fault, pattern_of, plains_of, words_of}
use Rattle.pv_glob.specs.declared.element.Element.{Element}
use Rattle.pv_glob.specs.declared.pattern_fault.PatternFault.{PatternFault}
use Rattle.pv_glob.specs.declared.pattern_fault.PatternFault.TheVariants as fault

-- plains of so many components
abbrev have : ℕ → List (List (List Element)) → Bool
have n plains = list_all (λ plain. length plain == n) plains

-- a word in front of plains
have-front : (n : ℕ) (word : List Element) (plains : List (List (List Element))) → have n plains ≡ true → have (n + 1) (map (λ plain. (word ∷ []) ++ plain) plains) ≡ true
have-front n word [] e = refl
have-front n word (plain ∷ plains) e = by_first (length plain == n) refl e (have-front n word plains)
  where
    by_first : (same : Bool) → (length plain == n) ≡ same → have n (plain ∷ plains) ≡ true → (have n plains ≡ true → have (n + 1) (map (λ p. (word ∷ []) ++ p) plains) ≡ true)
        → have (n + 1) (map (λ p. (word ∷ []) ++ p) (plain ∷ plains)) ≡ true
    by_first true s all below =
        let longer : (length (word ∷ plain) == n + 1) ≡ true = grind (arith, nat_tests, s) in
        rw longer (below (rw s at all))
    by_first false s all below = absurd (let no : false ≡ true = rw s at all in cc)

-- each of some words in front of plains
have-joined : (n : ℕ) (words : List (List Element)) (plains : List (List (List Element))) → have n plains ≡ true → have (n + 1) (joined (map (λ word. word ∷ []) words) plains) ≡ true
have-joined n [] plains e = refl
have-joined n (word ∷ words) plains e =
    rw (list_all-append (λ plain. length plain == n + 1) (map (λ plain. (word ∷ []) ++ plain) plains) (joined (map (λ w. w ∷ []) words) plains), have-front n word plains e, have-joined n words plains e) refl

plains_of-have : (before : ℕ) (components : List (List ℕ)) (plains : List (List (List Element))) → plains_of before components ≡ Ok plains → have (length components) plains ≡ true
plains_of-have before [] plains e = let is : plains ≡ [] ∷ [] = cc in rw is refl
plains_of-have before (component ∷ components) plains e =
    by_fault (component_fault before component) (plains_of (before * length (words_of component)) components) refl e
    (λ more r. plains_of-have (before * length (words_of component)) components more r)
  where
    by_fault : (f : Option PatternFault) (rest : Result (List (List (List Element))) PatternFault) → plains_of (before * length (words_of component)) components ≡ rest
        → option_map_or Err f (result_map_both (joined (map (λ word. word ∷ []) (words_of component))) (λ g. g) rest) ≡ Ok plains
        → ((more : List (List (List Element))) → plains_of (before * length (words_of component)) components ≡ Ok more → have (length components) more ≡ true)
        → have (length (component ∷ components)) plains ≡ true
    by_fault (Some f) rest r is below = absurd (let no : Err f ≡ Ok plains = is in cc)
    by_fault None (Err f) r is below = absurd (let no : Err f ≡ Ok plains = is in cc)
    by_fault None (Ok more) r is below =
        let whole : plains ≡ joined (map (λ word. word ∷ []) (words_of component)) more = cc in
        let longer = have-joined (length components) (words_of component) more (below more r) in
        let count : length (component ∷ components) ≡ length components + 1 = omega arith in
        rw (whole, count) longer

-- of so many components at most
few_from-have : (n m : ℕ) (plains : List (List (List Element))) → have n plains ≡ true → n ≤ m → list_all (λ plain. nat_le (length plain) m) plains ≡ true
few_from-have n m [] e le = refl
few_from-have n m (plain ∷ plains) e le = by_first (length plain == n) refl e (λ all. few_from-have n m plains all le)
  where
    by_first : (same : Bool) → (length plain == n) ≡ same → have n (plain ∷ plains) ≡ true → (have n plains ≡ true → list_all (λ p. nat_le (length p) m) plains ≡ true)
        → list_all (λ p. nat_le (length p) m) (plain ∷ plains) ≡ true
    by_first true s all below =
        let fits : nat_le (length plain) m ≡ true = grind (arith, nat_tests, s, le) in
        rw fits (below (rw s at all))
    by_first false s all below = absurd (let no : false ≡ true = rw s at all in cc)

-- a text that spells a pattern spells few components
pub pattern_of-few : (text : List ℕ) (plains : List (List (List Element))) → pattern_of text ≡ Ok plains → list_all (λ plain. nat_le (length plain) 4294967295) plains ≡ true
pattern_of-few text plains e = by_text (begins_with_slash text) (list_any (λ b. b == 0) text) (nat_lt 4095 (length text)) refl (first_fault name_fault (components_of text)) e
  where
    by_text : (slash nul long : Bool) → nat_lt 4095 (length text) ≡ long → (f : Option PatternFault)
        → (if slash then (if nul then Err fault.BadByte else if long then Err fault.PathTooLong else option_map_or Err f (plains_of 1 (components_of text))) else Err fault.NotAbsolute) ≡ Ok plains
        → list_all (λ plain. nat_le (length plain) 4294967295) plains ≡ true
    by_text false nul long l f is = absurd (let no : Err fault.NotAbsolute ≡ Ok plains = is in cc)
    by_text true true long l f is = absurd (let no : Err fault.BadByte ≡ Ok plains = is in cc)
    by_text true false true l f is = absurd (let no : Err fault.PathTooLong ≡ Ok plains = is in cc)
    by_text true false false l (Some f) is = absurd (let no : Err f ≡ Ok plains = is in cc)
    by_text true false false l None is =
        let short : length text ≤ 4095 = grind (arith, nat_tests, l) in
        few_from-have (length (components_of text)) 4294967295 plains (plains_of-have 1 (components_of text) plains is)
        (omega (arith, short, length-filter (λ component. nat_lt 0 (length component)) (slice_split (λ b. b == 47) text), count_by-le-length (λ component. nat_lt 0 (length component)) (slice_split (λ b. b == 47) text), length-slice_split (λ b. b == 47) text, count_by-le-length (λ b. b == 47) text))
