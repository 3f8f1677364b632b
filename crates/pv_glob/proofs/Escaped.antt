-- The text of a path with a backslash before each special byte spells the path's literal pattern.
use Rattle.std.proofs.Common.{◌≡◌, ℕ, suc, ◌≤◌, Bool, true, false, not, ◌&&◌, ◌||◌, ◌==◌, nat_eq, nat_lt, List, [], ◌∷◌, ◌++◌, map, filter, length, Some, None, Ok, refl, sym, ap, ◌∙◌, arith}
use Rattle.std.specs.Prelude.{find, unwrap_or}
use Rattle.std.specs.List.{flat_map, list_all, list_any, slice_split, starts_with, onto_first}
use Rattle.std.proofs.lemmas.Bool.Decides.{nat_tests}
use Rattle.std.proofs.lemmas.List.Folds.{list_any-append}
use Rattle.std.proofs.lemmas.Bool.{and_parts, or_parts, not-true}
use Rattle.pv_path.specs.Names.{same_bytes, is_dots, is_name, is_name_byte, is_staging, staging_mark}
use Rattle.pv_path.specs.Paths.{Path, has_names, has_staging}
use Rattle.pv_path.proofs.PathLaws.{is_name-parts}
use Rattle.pv_glob.specs.declared.element.Element.{Element}
use Rattle.pv_glob.specs.declared.element.Element.TheVariants.{Byte}
use Rattle.pv_glob.specs.declared.pattern_fault.PatternFault.{PatternFault}
use Rattle.pv_glob.specs.declared.pattern_fault.PatternFault.TheVariants as fault
use Rattle.pv_glob.specs.Escaping.{is_special, escaped_byte, escaped, escaped_path}
use Rattle.pv_glob.specs.Matching.{literal_of}
use Rattle.pv_glob.specs.Elements.{elements_of, has_fault_at}
use Rattle.pv_glob.specs.Braces.{Rest, expansions_of, rests_of, whole, with_place}
use Rattle.pv_glob.specs.Parsing.{component_fault, components_of, first_fault, has_fault, name_fault, pattern_of, plains_of, words_of}

-- ---- bytes

-- a byte that is not special is none of these
record IsOrdinary (b : ℕ) : Type 0 where
  backslash : (b == 92) ≡ false
  star : (b == 42) ≡ false
  mark : (b == 63) ≡ false
  bracket : (b == 91) ≡ false
  brace : (b == 123) ≡ false
  end : (b == 125) ≡ false

ordinary : (b : ℕ) → is_special b ≡ false → IsOrdinary b
ordinary b e =
    let u = or_parts _ (b == 125) e in
    let v = or_parts _ (b == 123) u.0 in
    let w = or_parts _ (b == 91) v.0 in
    let x = or_parts _ (b == 63) w.0 in
    let y = or_parts (b == 92) (b == 42) x.0 in
    record { backslash = y.0; star = y.1; mark = x.1; bracket = w.1; brace = v.1; end = u.1 }

-- a special byte is no other byte
differs : (b c : ℕ) → is_special b ≡ true → is_special c ≡ false → (b == c) ≡ false
differs b c s o = by_test (b == c) refl
  where
    by_test : (t : Bool) → (b == c) ≡ t → (b == c) ≡ false
    by_test true e = let is : b ≡ c = grind (arith, nat_tests) in absurd (let no_way : true ≡ false = sym s ∙ ap is_special is ∙ o in cc)
    by_test false e = e

turned : (b c : ℕ) → is_special b ≡ true → is_special c ≡ false → (c == b) ≡ false
turned b c s o = let d = differs b c s o in grind (arith, nat_tests)

-- ---- elements

-- the first element of an escaped text is its first byte, and the others stand behind it
elements_step : (b : ℕ) (bytes : List ℕ) → elements_of (escaped (b ∷ bytes)) ≡ (escaped_byte b ++ escaped bytes) ∷ elements_of (escaped bytes)
elements_step b bytes = by_test (is_special b) refl
  where
    by_test : (t : Bool) → is_special b ≡ t → elements_of (escaped (b ∷ bytes)) ≡ (escaped_byte b ++ escaped bytes) ∷ elements_of (escaped bytes)
    by_test true e = rw e refl
    by_test false e = let o = ordinary b e in rw (e, o.backslash, o.bracket) refl

-- before a place without braces stands one word, and no other
abbrev alone : List Element → List Rest
alone word = record { words = word ∷ []; others = [] } ∷ []

place_is : (b : ℕ) (rest : List ℕ) (word : List Element) → with_place (escaped_byte b ++ rest) (alone word) ≡ alone (Byte b ∷ word)
place_is b rest word = by_test (is_special b) refl
  where
    by_comma : (t : Bool) → (b == 44) ≡ t → is_special b ≡ false → with_place (escaped_byte b ++ rest) (alone word) ≡ alone (Byte b ∷ word)
    by_comma true is e =
        let o = ordinary b e in
        let comma : 44 ≡ b = grind (arith, nat_tests) in
        rw (e, o.brace, is) (ap (λ (c : ℕ). alone (Byte c ∷ word)) comma)
    by_comma false is e = let o = ordinary b e in rw (e, o.brace, is, o.end, o.backslash, o.star, o.mark, o.bracket) refl

    by_test : (t : Bool) → is_special b ≡ t → with_place (escaped_byte b ++ rest) (alone word) ≡ alone (Byte b ∷ word)
    by_test true e = rw e refl
    by_test false e = by_comma (b == 44) refl e

rests_are : (bytes : List ℕ) → rests_of (elements_of (escaped bytes)) ≡ alone (map (λ b. Byte b) bytes)
rests_are [] = refl
rests_are (b ∷ bytes) =
    ap rests_of (elements_step b bytes)
    ∙ ap (with_place (escaped_byte b ++ escaped bytes)) (rests_are bytes)
    ∙ place_is b (escaped bytes) (map (λ b. Byte b) bytes)

words_are : (bytes : List ℕ) → expansions_of (escaped bytes) ≡ Some (map (λ b. Byte b) bytes ∷ [])
words_are bytes = ap whole (rests_are bytes)

-- ---- faults of elements

not_below : (n : ℕ) → nat_lt (suc n) 1 ≡ false
not_below n = grind (arith, nat_tests)

escaped_fault : (f : PatternFault) (b : ℕ) (rest : List ℕ) → has_fault_at f (92 ∷ b ∷ rest) ≡ false
escaped_fault fault.UnclosedBracket b rest = refl
escaped_fault fault.BadRange b rest = refl
escaped_fault fault.BadClass b rest = refl
escaped_fault fault.Brace b rest = refl
escaped_fault fault.TrailingBackslash b rest = not_below (length rest)
escaped_fault f b rest = refl

ordinary_fault : (f : PatternFault) (b : ℕ) (rest : List ℕ) → IsOrdinary b → has_fault_at f (b ∷ rest) ≡ false
ordinary_fault fault.UnclosedBracket b rest o = rw o.bracket refl
ordinary_fault fault.BadRange b rest o = rw o.bracket refl
ordinary_fault fault.BadClass b rest o = rw o.bracket refl
ordinary_fault fault.Brace b rest o = rw o.brace refl
ordinary_fault fault.TrailingBackslash b rest o = rw o.backslash refl
ordinary_fault f b rest o = refl

no_fault_at : (f : PatternFault) (b : ℕ) (rest : List ℕ) → has_fault_at f (escaped_byte b ++ rest) ≡ false
no_fault_at f b rest = by_test (is_special b) refl
  where
    by_test : (t : Bool) → is_special b ≡ t → has_fault_at f (escaped_byte b ++ rest) ≡ false
    by_test true e = rw e (escaped_fault f b rest)
    by_test false e = rw e (ordinary_fault f b rest (ordinary b e))

no_fault : (f : PatternFault) (bytes : List ℕ) → list_any (has_fault_at f) (elements_of (escaped bytes)) ≡ false
no_fault f [] = refl
no_fault f (b ∷ bytes) =
    ap (list_any (has_fault_at f)) (elements_step b bytes)
    ∙ ap (λ (t : Bool). t || list_any (has_fault_at f) (elements_of (escaped bytes))) (no_fault_at f b (escaped bytes))
    ∙ no_fault f bytes

find_none : {A : Type 0} (test : A → Bool) (xs : List A) → ((x : A) → test x ≡ false) → find test xs ≡ None
find_none test [] h = refl
find_none test (x ∷ xs) h = rw (h x) (find_none test xs h)

no_fault_of : (bytes : List ℕ) (f : PatternFault) → has_fault 1 (escaped bytes) f ≡ false
no_fault_of bytes fault.Brace = rw (no_fault fault.Brace bytes, words_are bytes) refl
no_fault_of bytes f = no_fault f bytes

component_clear : (bytes : List ℕ) → component_fault 1 (escaped bytes) ≡ None
component_clear bytes =
    find_none (has_fault 1 (escaped bytes))
    (fault.UnclosedBracket ∷ fault.BadRange ∷ fault.BadClass ∷ fault.Brace ∷ fault.TrailingBackslash ∷ []) (no_fault_of bytes)

-- ---- names

-- an escaped name is a word without special bytes only if the name is this word
same_escaped : (bytes word : List ℕ) → list_any is_special word ≡ false → same_bytes (escaped bytes) word ≡ same_bytes bytes word
same_escaped [] word h = refl
same_escaped (b ∷ bytes) [] h = by_test (is_special b) refl
  where
    by_test : (t : Bool) → is_special b ≡ t → same_bytes (escaped (b ∷ bytes)) [] ≡ false
    by_test true e = rw e refl
    by_test false e = rw e refl
same_escaped (b ∷ bytes) (c ∷ word) h = by_test (or_parts (is_special c) (list_any is_special word) h) (same_escaped bytes word) (is_special b) refl
  where
    by_test : (is_special c ≡ false) × (list_any is_special word ≡ false) → (list_any is_special word ≡ false → same_bytes (escaped bytes) word ≡ same_bytes bytes word)
        → (t : Bool) → is_special b ≡ t → same_bytes (escaped (b ∷ bytes)) (c ∷ word) ≡ same_bytes (b ∷ bytes) (c ∷ word)
    by_test clear below true e = rw (e, differs 92 c refl clear.0, differs b c e clear.0) refl
    by_test clear below false e = rw e (ap (λ (t : Bool). (b == c) && t) (below clear.1))

-- and it begins with such a word only if the name does
begins_escaped : (bytes word : List ℕ) → list_any is_special word ≡ false → starts_with nat_eq (escaped bytes) word ≡ starts_with nat_eq bytes word
begins_escaped bytes [] h = refl
begins_escaped [] (c ∷ word) h = refl
begins_escaped (b ∷ bytes) (c ∷ word) h = by_test (or_parts (is_special c) (list_any is_special word) h) (begins_escaped bytes word) (is_special b) refl
  where
    by_test : (is_special c ≡ false) × (list_any is_special word ≡ false) → (list_any is_special word ≡ false → starts_with nat_eq (escaped bytes) word ≡ starts_with nat_eq bytes word)
        → (t : Bool) → is_special b ≡ t → starts_with nat_eq (escaped (b ∷ bytes)) (c ∷ word) ≡ starts_with nat_eq (b ∷ bytes) (c ∷ word)
    by_test clear below true e = rw (e, turned 92 c refl clear.0, turned b c e clear.0) refl
    by_test clear below false e = rw e (ap (λ (t : Bool). (c == b) && t) (below clear.1))

name_clear : (name : List ℕ) → is_name name ≡ true → is_staging name ≡ false → name_fault (escaped name) ≡ None
name_clear name is none =
    let dots : is_dots (escaped name) ≡ false =
    ap (λ (t : Bool). t || same_bytes (escaped name) (46 ∷ 46 ∷ [])) (same_escaped name (46 ∷ []) refl)
    ∙ ap (λ (t : Bool). same_bytes name (46 ∷ []) || t) (same_escaped name (46 ∷ 46 ∷ []) refl)
    ∙ (is_name-parts name is).3 in
    let staging : is_staging (escaped name) ≡ false = begins_escaped name staging_mark refl ∙ none in
    rw (dots, staging) refl

-- ---- texts

-- a test that the backslash fails finds nothing in an escaped text of which it finds nothing
any_escaped : (test : ℕ → Bool) (bytes : List ℕ) → test 92 ≡ false → list_any test bytes ≡ false → list_any test (escaped bytes) ≡ false
any_escaped test [] mark e = refl
any_escaped test (b ∷ bytes) mark e =
    let u = or_parts (test b) (list_any test bytes) e in
    by_test (any_escaped test bytes mark u.1) u.0 (is_special b) refl
  where
    by_test : list_any test (escaped bytes) ≡ false → test b ≡ false → (t : Bool) → is_special b ≡ t → list_any test (escaped (b ∷ bytes)) ≡ false
    by_test below first true special = rw (special, mark, first) below
    by_test below first false special = rw (special, first) below

-- a name has neither a NUL nor a slash
no_byte : (c : ℕ) (name : List ℕ) → ((b : ℕ) → is_name_byte b ≡ true → (b == c) ≡ false) → list_all is_name_byte name ≡ true → list_any (λ b. b == c) name ≡ false
no_byte c [] clear e = refl
no_byte c (b ∷ name) clear e =
    let u = and_parts (is_name_byte b) (list_all is_name_byte name) e in
    rw (clear b u.0) (no_byte c name clear u.1)

no_nul : (name : List ℕ) → is_name name ≡ true → list_any (λ b. b == 0) (escaped name) ≡ false
no_nul name is = any_escaped (λ b. b == 0) name refl (no_byte 0 name (λ b e. not-true (b == 0) (and_parts (nat_lt b 256) (not (b == 0)) (and_parts _ (not (b == 47)) e).0).1) (is_name-parts name is).2)

no_slash : (name : List ℕ) → is_name name ≡ true → list_any (λ b. b == 47) (escaped name) ≡ false
no_slash name is = any_escaped (λ b. b == 47) name refl (no_byte 47 name (λ b e. not-true (b == 47) (and_parts _ (not (b == 47)) e).1) (is_name-parts name is).2)

above_none : (n : ℕ) → nat_lt 0 (suc n) ≡ true
above_none n = grind (arith, nat_tests)

some_bytes : (name : List ℕ) → is_name name ≡ true → nat_lt 0 (length (escaped name)) ≡ true
some_bytes [] is = absurd (let l = (is_name-parts [] is).0 in omega (arith, l))
some_bytes (b ∷ name) is = by_test (is_special b) refl
  where
    by_test : (t : Bool) → is_special b ≡ t → nat_lt 0 (length (escaped (b ∷ name))) ≡ true
    by_test true e = rw e (above_none (suc (length (escaped name))))
    by_test false e = rw e (above_none (length (escaped name)))

abbrev is_slash : ℕ → Bool
is_slash b = b == 47

-- what stands before the first slash
split_clear : (bytes rest : List ℕ) (pieces : List (List ℕ)) → list_any is_slash bytes ≡ false → slice_split is_slash rest ≡ [] ∷ pieces → slice_split is_slash (bytes ++ rest) ≡ bytes ∷ pieces
split_clear [] rest pieces none e = e
split_clear (b ∷ bytes) rest pieces none e =
    let u = or_parts (is_slash b) (list_any is_slash bytes) none in
    rw u.0 (ap (onto_first b) (split_clear bytes rest pieces u.1 e))

abbrev slashed : Path → List ℕ
slashed path = flat_map (λ n. 47 ∷ escaped n) path

pieces_are : (path : Path) → has_names path ≡ true → slice_split is_slash (slashed path) ≡ [] ∷ map escaped path
pieces_are [] h = refl
pieces_are (name ∷ path) h =
    let u = and_parts (is_name name) (has_names path) h in
    ap (λ (ps : List (List ℕ)). [] ∷ ps) (split_clear (escaped name) (slashed path) (map escaped path) (no_slash name u.0) (pieces_are path u.1))

all_kept : (path : Path) → has_names path ≡ true → filter (λ component. nat_lt 0 (length component)) (map escaped path) ≡ map escaped path
all_kept [] h = refl
all_kept (name ∷ path) h =
    let u = and_parts (is_name name) (has_names path) h in
    rw (some_bytes name u.0) (ap (λ (ps : List (List ℕ)). escaped name ∷ ps) (all_kept path u.1))

components_are : (path : Path) → has_names path ≡ true → components_of (slashed path) ≡ map escaped path
components_are path h = ap (filter (λ component. nat_lt 0 (length component))) (pieces_are path h) ∙ all_kept path h

clear_of_nul : (path : Path) → has_names path ≡ true → list_any (λ b. b == 0) (slashed path) ≡ false
clear_of_nul [] h = refl
clear_of_nul (name ∷ path) h =
    let u = and_parts (is_name name) (has_names path) h in
    list_any-append (λ b. b == 0) (escaped name) (slashed path) ∙ ap (λ (t : Bool). t || list_any (λ b. b == 0) (slashed path)) (no_nul name u.0) ∙ clear_of_nul path u.1

-- ---- whole paths

names_clear : (path : Path) → has_names path ≡ true → has_staging path ≡ false → first_fault name_fault (map escaped path) ≡ None
names_clear [] h none = refl
names_clear (name ∷ path) h none =
    let u = and_parts (is_name name) (has_names path) h in
    let v = or_parts (is_staging name) (has_staging path) none in
    rw (name_clear name u.0 v.0) (names_clear path u.1 v.1)

plains_are : (path : Path) → plains_of 1 (map escaped path) ≡ Ok (literal_of path ∷ [])
plains_are [] = refl
plains_are (name ∷ path) =
    let words : words_of (escaped name) ≡ map (λ b. Byte b) name ∷ [] = ap (λ o. unwrap_or o []) (words_are name) in
    rw (component_clear name, words, plains_are path) refl

pub spells_literal : (path : Path) → has_names path ≡ true → has_staging path ≡ false → length (escaped_path path) ≤ 4095 → pattern_of (escaped_path path) ≡ Ok (literal_of path ∷ [])
spells_literal [] h none l = refl
spells_literal (name ∷ path) h none l =
    let short : nat_lt 4095 (length (slashed (name ∷ path))) ≡ false = grind (arith, nat_tests) in
    rw (clear_of_nul (name ∷ path) h, short, components_are (name ∷ path) h, names_clear (name ∷ path) h none, plains_are (name ∷ path)) refl
