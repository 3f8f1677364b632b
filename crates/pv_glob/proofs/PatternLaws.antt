-- The expansions of a pattern, component by component.
use Rattle.std.proofs.Common.{◌≡◌, ℕ, ◌+◌, ◌*◌, ◌/◌, ◌<◌, ◌≤◌, Bool, true, false, ◌==◌, nat_le, nat_lt, List, [], ◌∷◌, ◌++◌, map, length, Option, Some, None, Result, Ok, Err, refl, sym, ap, ◌∙◌, arith, length-append}
use Rattle.std.specs.Prelude.{find, is_some, if◌then◌else◌}
use Rattle.std.specs.List.{list_all, list_any}
use Rattle.std.specs.Option.{option_map_or}
use Rattle.std.specs.Result.{result_map_both}
use Rattle.std.proofs.lemmas.List.{length-map}
use Rattle.std.proofs.Math.Nat.{div-lt_iff_lt-mul, div-mul-le_self, mul-le-mul_right, mul_comm}
use Rattle.std.proofs.lemmas.Bool.Decides.{nat_tests}
use Rattle.std.proofs.lemmas.Bool.{and_parts}
use Rattle.pv_glob.specs.declared.element.Element.{Element}
use Rattle.pv_glob.specs.declared.pattern_fault.PatternFault.{PatternFault}
use Rattle.pv_glob.specs.declared.pattern_fault.PatternFault.TheVariants as fault
use Rattle.pv_glob.specs.Elements.{elements_of, has_fault_at}
use Rattle.pv_glob.specs.Braces.{expansions_of, joined, within}
use Rattle.pv_glob.specs.Matching.{are_expansions}
use Rattle.pv_glob.specs.Parsing.{Gives, component_fault, component_of, first_fault, is_expanded, name_fault, pattern_with, plains_of, words_of}
use Rattle.pv_glob.proofs.BraceLaws.{joined-empty_first, joined-empty_second, joined-joined, length-joined}
use Rattle.pv_path.proofs.Tests.{same_number}

-- each of these has this many components
abbrev are_long : ℕ → List (List (List Element)) → Bool
are_long n plains = list_all (λ plain. length plain == n) plains

long_append : (n : ℕ) (some others : List (List (List Element))) → are_long n some ≡ true → are_long n others ≡ true → are_long n (some ++ others) ≡ true
long_append n [] others a b = b
long_append n (plain ∷ some) others a b =
    let u = and_parts (length plain == n) (are_long n some) a in
    rw u.0 (long_append n some others u.1 b)

long_followed : (n : ℕ) (plain : List (List Element)) (words : List (List Element)) → (length plain == n) ≡ true → are_long (n + 1) (map (λ word. plain ++ word) (map (λ word. word ∷ []) words)) ≡ true
long_followed n plain [] e = refl
long_followed n plain (word ∷ words) e =
    let one : (length (plain ++ word ∷ []) == (n + 1)) ≡ true = let l = length-append plain (word ∷ []) in grind (arith, nat_tests) in
    rw one (long_followed n plain words e)

long_joined : (n : ℕ) (plains : List (List (List Element))) (words : List (List Element)) → are_long n plains ≡ true → are_long (n + 1) (joined plains (map (λ word. word ∷ []) words)) ≡ true
long_joined n [] words e = refl
long_joined n (plain ∷ plains) words e =
    let u = and_parts (length plain == n) (are_long n plains) e in
    long_append (n + 1) (map (λ word. plain ++ word) (map (λ word. word ∷ []) words)) (joined plains (map (λ word. word ∷ []) words)) (long_followed n plain words u.0) (long_joined n plains words u.1)

-- all are as long as the first
long_first : (n : ℕ) (plain : List (List Element)) (plains : List (List (List Element))) → are_long n (plain ∷ plains) ≡ true → are_expansions (plain ∷ plains) ≡ true
long_first n plain plains e =
    let u = and_parts (length plain == n) (are_long n plains) e in
    let is : n ≡ length plain = let t = u.0 in grind (arith, nat_tests) in
    ap (λ k. are_long k plains) (sym is) ∙ u.1

pub followed_even : (plains : List (List (List Element))) (words : List (List Element)) (more : List (List (List Element))) → are_expansions plains ≡ true → 0 < length words → more ≡ joined plains (map (λ word. word ∷ []) words) → are_expansions more ≡ true
followed_even [] words more e some is = absurd (let no_way : false ≡ true = e in cc)
followed_even (plain ∷ plains) [] more e some is = absurd (omega arith)
followed_even (plain ∷ plains) (word ∷ words) more e some is =
    let all : are_long (length plain) (plain ∷ plains) ≡ true = rw (same_number (length plain)) e in
    rw is (long_first (length plain + 1) (plain ++ word ∷ []) _ (long_joined (length plain) (plain ∷ plains) (word ∷ words) all))

-- ---- the faults of a component

find_none : (test : PatternFault → Bool) (f : PatternFault) (fs : List PatternFault) → find test (f ∷ fs) ≡ None → (test f ≡ false) × (find test fs ≡ None)
find_none test f fs e = by_test (test f) refl
  where
    by_test : (t : Bool) → test f ≡ t → (test f ≡ false) × (find test fs ≡ None)
    by_test true is = absurd (let no_way : Some f ≡ None = sym (ap (λ t. if t then Some f else find test fs) is) ∙ e in cc)
    by_test false is = (is, sym (ap (λ t. if t then Some f else find test fs) is) ∙ e)

-- where too many words are too many together with what stands before
expanded_within : (before : ℕ) (words : Option (List (List Element))) → 0 < before → option_map_or (λ ws. nat_le (before * length ws) 256) words false ≡ is_some (within (256 / before) words)
expanded_within before None some = refl
expanded_within before (Some words) some = by_test (nat_lt (256 / before) (length words)) refl
  where
    by_test : (t : Bool) → nat_lt (256 / before) (length words) ≡ t → nat_le (before * length words) 256 ≡ is_some (within (256 / before) (Some words))
    by_test true is =
        let l : 256 / before < length words = grind (arith, nat_tests) in
        let m : 256 < length words * before = (div-lt_iff_lt-mul some).0 l in
        let n : 256 < before * length words = rw (mul_comm before (length words)) m in
        let k : nat_le (before * length words) 256 ≡ false = grind (arith, nat_tests) in
        rw (is, k) refl
    by_test false is =
        let l : length words ≤ 256 / before = grind (arith, nat_tests) in
        let m : length words * before ≤ 256 / before * before = mul-le-mul_right before l in
        let n : 256 / before * before ≤ 256 = div-mul-le_self 256 before in
        let o : before * length words ≤ 256 = rw (mul_comm before (length words)) (omega arith) in
        let k : nat_le (before * length words) 256 ≡ true = grind (arith, nat_tests) in
        rw (is, k) refl

-- the faults before the braces are paired
abbrev early : List PatternFault
early = fault.UnclosedBracket ∷ fault.BadRange ∷ fault.BadClass ∷ fault.Brace ∷ []

abbrev shows : List ℕ → PatternFault → Bool
shows component f = list_any (has_fault_at f) (elements_of component)

record IsClear (component : List ℕ) : Type 0 where
  bracket : shows component fault.UnclosedBracket ≡ false
  range : shows component fault.BadRange ≡ false
  class : shows component fault.BadClass ≡ false
  brace : shows component fault.Brace ≡ false

clear : (component : List ℕ) → find (shows component) early ≡ None → IsClear component
clear component e =
    let a = find_none (shows component) fault.UnclosedBracket (fault.BadRange ∷ fault.BadClass ∷ fault.Brace ∷ []) e in
    let b = find_none (shows component) fault.BadRange (fault.BadClass ∷ fault.Brace ∷ []) a.1 in
    let c = find_none (shows component) fault.BadClass (fault.Brace ∷ []) b.1 in
    let d = find_none (shows component) fault.Brace [] c.1 in
    record { bracket = a.0; range = b.0; class = c.0; brace = d.0 }

pub brace_fault : (before : ℕ) (component : List ℕ) → 0 < before → find (shows component) early ≡ None → within (256 / before) (expansions_of component) ≡ None → component_of before component ≡ Err fault.Brace
brace_fault before component some e none =
    let c = clear component e in
    let is : is_expanded before component ≡ false = expanded_within before (expansions_of component) some ∙ ap is_some none in
    rw (c.bracket, c.range, c.class, c.brace, is) refl

-- ---- components one after another

pub gives_fault : {A B : Type 0} (f : PatternFault) (read : Result A PatternFault) (whole : Result B PatternFault) → Gives (Err f) read → (read ≡ Err f → whole ≡ Err f) → Gives (Err f) whole
gives_fault fault.Memory read whole given known = tt
gives_fault f read whole given known = known given

abbrev joined_all : List (List (List Element)) → Result (List (List (List Element))) PatternFault → Result (List (List (List Element))) PatternFault
joined_all plains result = result_map_both (joined plains) (λ f. f) result

pub plains_start : (pattern : List (List (List Element))) (components : List (List ℕ)) → pattern ≡ [] ∷ [] → joined_all pattern (plains_of (length pattern) components) ≡ plains_of 1 components
plains_start pattern components one = rw one (by_result (plains_of 1 components))
  where
    by_result : (r : Result (List (List (List Element))) PatternFault) → joined_all ([] ∷ []) r ≡ r
    by_result (Ok plains) = ap Ok (joined-empty_first plains)
    by_result (Err f) = refl

ok_same : (xs ys : List (List Element)) → ◌≡◌ {A = Result (List (List Element)) PatternFault} (Ok xs) (Ok ys) → xs ≡ ys
ok_same xs ys e = cc

-- what is known of a component that was read
read_component : (before : ℕ) (component : List ℕ) (words : List (List Element)) → component_of before component ≡ Ok words → (component_fault before component ≡ None) × (words_of component ≡ words)
read_component before component words e = by_fault (component_fault before component) refl
  where
    by_fault : (o : Option PatternFault) → component_fault before component ≡ o → (component_fault before component ≡ None) × (words_of component ≡ words)
    by_fault None is = (is, ok_same (words_of component) words (sym (ap (λ o. option_map_or Err o (Ok (words_of component))) is) ∙ e))
    by_fault (Some f) is = absurd (let no_way : Err f ≡ Ok words = sym (ap (λ o. option_map_or Err o (Ok (words_of component))) is) ∙ e in cc)

refused_component : (before : ℕ) (component : List ℕ) (f : PatternFault) → component_of before component ≡ Err f → component_fault before component ≡ Some f
refused_component before component f e = by_fault (component_fault before component) refl
  where
    by_fault : (o : Option PatternFault) → component_fault before component ≡ o → component_fault before component ≡ Some f
    by_fault None is = absurd (let no_way : Ok (words_of component) ≡ Err f = sym (ap (λ o. option_map_or Err o (Ok (words_of component))) is) ∙ e in cc)
    by_fault (Some g) is = is ∙ (let same : Err g ≡ Err f = sym (ap (λ o. option_map_or Err o (Ok (words_of component))) is) ∙ e in cc)

pub plains_step : (pattern more : List (List (List Element))) (n : ℕ) (words : List (List Element)) (component : List ℕ) (components rest : List (List ℕ)) (whole : Result (List (List (List Element))) PatternFault)
    → n ≡ length pattern → component_of n component ≡ Ok words → more ≡ joined pattern (map (λ word. word ∷ []) words) → components ≡ component ∷ rest → joined_all pattern (plains_of (length pattern) components) ≡ whole
    → joined_all more (plains_of (length more) rest) ≡ whole
plains_step pattern more n words component components rest whole count read added are e =
    let c = read_component (length pattern) component words (ap (λ k. component_of k component) (sym count) ∙ read) in
    let many : length more ≡ length pattern * length words = ap length added ∙ length-joined pattern (map (λ word. word ∷ []) words) ∙ ap (λ n. length pattern * n) (length-map words (λ word. word ∷ [])) in
    let one : plains_of (length pattern) components ≡ joined_all (map (λ word. word ∷ []) words) (plains_of (length pattern * length words) rest) = rw (are, c.0, c.1) refl in
    rw many (rw added (by_result (plains_of (length pattern * length words) rest))) ∙ sym (ap (joined_all pattern) one) ∙ e
  where
    by_result : (r : Result (List (List (List Element))) PatternFault) → joined_all (joined pattern (map (λ word. word ∷ []) words)) r ≡ joined_all pattern (joined_all (map (λ word. word ∷ []) words) r)
    by_result (Ok plains) = ap Ok (joined-joined pattern (map (λ word. word ∷ []) words) plains)
    by_result (Err f) = refl

pub plains_refused : (pattern : List (List (List Element))) (n : ℕ) (component : List ℕ) (components rest all : List (List ℕ)) (f : PatternFault)
    → components ≡ component ∷ rest → joined_all pattern (plains_of (length pattern) components) ≡ plains_of 1 all → first_fault name_fault all ≡ None → n ≡ length pattern → component_of n component ≡ Err f → pattern_with all ≡ Err f
plains_refused pattern n component components rest all f are e clear_names count read =
    let fault_is = refused_component (length pattern) component f (ap (λ k. component_of k component) (sym count) ∙ read) in
    let one : plains_of (length pattern) components ≡ Err f = rw (are, fault_is) refl in
    rw clear_names (sym e ∙ ap (joined_all pattern) one)

pub plains_end : (pattern : List (List (List Element))) (components all : List (List ℕ)) → components ≡ [] → joined_all pattern (plains_of (length pattern) components) ≡ plains_of 1 all → first_fault name_fault all ≡ None → pattern_with all ≡ Ok pattern
plains_end pattern components all none e clear_names =
    rw clear_names (sym e ∙ ap (λ cs. joined_all pattern (plains_of (length pattern) cs)) none ∙ ap Ok (joined-empty_second pattern))
