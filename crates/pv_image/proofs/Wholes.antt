-- The text of a whole image, line by line.
use Rattle.std.specs.Prelude.{◌≡◌, ℕ, ◌+◌, ◌<◌, Bool, true, false, cond, ◌||◌, ◌&&◌, ◌==◌, List, [], ◌∷◌, ◌++◌, length, take, drop, map, Option, Some, None, IfSome, option_map, slice_get, T}
use Rattle.std.proofs.Common.{refl, sym, ap, subst, ◌∙◌, get_or, append_assoc}
use Rattle.std.specs.List.{flat_map, filter_map, cons_option, list_any, list_all}
use Rattle.std.specs.Option.{option_map_or}
use Rattle.std.specs.Ordering.{nat_cmp, is_lt, eq_by_cmp}
use Rattle.std.specs.Cmp.{nat_cmp_total, unsigned_tied}
use Rattle.std.proofs.lemmas.Bool.{eqb-true, eq-eqb, and_parts, and_from}
use Rattle.std.proofs.lemmas.List.{flat_map_more, take_more}
use Rattle.std.proofs.lemmas.Grind.{flat_map-append}
use Rattle.std.specs.FinMap as fin
use Rattle.std.specs.FinMap.Entries.{find, is_sorted, below_all}
use Rattle.pv_path.specs.Paths.{Path}
use Rattle.pv_text.specs.Facts.{Values, fact_letters, is_fact, is_fact_letter, is_fact_value, HasFactsAlone}
use Rattle.pv_steps.specs.declared.object.Object.{Object}
use Rattle.pv_steps.specs.Trees.{Files, IsTree}
use Rattle.pv_image.specs.Images.{HaveText, is_byte_fact}
use Rattle.pv_text.proofs.Characters.{all_append}
use Rattle.pv_image.specs.Spelling.{header_text, end_text, fact_text, node_text, line, text_of}
use Rattle.pv_image.specs.declared.version.Version.TheVariants.{Two}
use Rattle.pv_image.specs.Writing.{fact_fits, fact_line, fact_line_of, node_line}
use Rattle.pv_path.proofs.Tests.{equal_of}

-- one more letter
pub letters_more : (facts : Values) (o : List ℕ) (i : ℕ) → i < 12
    → (o ++ flat_map (fact_line_of facts) (take i fact_letters)) ++ fact_line_of facts (get_or fact_letters i 0) ≡ o ++ flat_map (fact_line_of facts) (take (i + 1) fact_letters)
letters_more facts o i within =
    flat_map_more (fact_line_of facts) o (take i fact_letters) (get_or fact_letters i 0)
    ∙ ap (λ ls. o ++ flat_map (fact_line_of facts) ls) (sym (take_more fact_letters i 0 within))

-- ---- facts by their letters

-- the facts with some letters
abbrev pub listed : Values → List ℕ → List (ℕ × List ℕ)
listed facts letters = filter_map (λ letter. option_map (λ value. (letter, value)) (fin.get facts letter)) letters

lines_listed : (facts : Values) (letters : List ℕ) → flat_map (fact_line_of facts) letters ≡ flat_map fact_line (listed facts letters)
lines_listed facts [] = refl
lines_listed facts (l ∷ ls) =
    elim (fin.get facts l) as (λ v. option_map_or (λ value. fact_line (l, value)) v [] ++ flat_map (fact_line_of facts) ls
    ≡ flat_map fact_line (cons_option (option_map (λ value. (l, value)) v) (listed facts ls))) [
      | None ↦ lines_listed facts ls
      | Some value ↦ ap (λ r. fact_line (l, value) ++ r) (lines_listed facts ls)
    ]

-- a letter is below all of some letters; letters rise
abbrev pub is_below : ℕ → List ℕ → Bool
is_below x ls = list_all (λ l. is_lt (nat_cmp x l)) ls

abbrev pub rises : List ℕ → Bool
rises [] = true
rises (l ∷ ls) = is_below l ls && rises ls

below_listed : (facts : Values) (x : ℕ) (ls : List ℕ) → is_below x ls ≡ true → below_all nat_cmp x (listed facts ls) ≡ true
below_listed facts x [] h = refl
below_listed facts x (l ∷ ls) h =
    let rest = below_listed facts x ls (and_parts _ _ h).1 in
    elim (fin.get facts l) as (λ v. below_all nat_cmp x (cons_option (option_map (λ value. (l, value)) v) (listed facts ls)) ≡ true) [
      | None ↦ rest
      | Some value ↦ and_from _ _ (and_parts _ _ h).0 rest
    ]

sorted_listed : (facts : Values) (ls : List ℕ) → rises ls ≡ true → is_sorted nat_cmp (listed facts ls) ≡ true
sorted_listed facts [] h = refl
sorted_listed facts (l ∷ ls) h =
    let rest = sorted_listed facts ls (and_parts _ _ h).1 in
    elim (fin.get facts l) as (λ v. is_sorted nat_cmp (cons_option (option_map (λ value. (l, value)) v) (listed facts ls)) ≡ true) [
      | None ↦ rest
      | Some value ↦ and_from _ _ (below_listed facts l ls (and_parts _ _ h).0) rest
    ]

tied_letters : (q l : ℕ) → eq_by_cmp nat_cmp q l ≡ true → q ≡ l
tied_letters q l h = fin.nat_cmp-IsAntisymmetric q l (equal_of (nat_cmp q l) h)

hidden : (b a : Bool) (o : Option (List ℕ)) → (b ≡ true → o ≡ None) → cond a o None ≡ cond (b || a) o None
hidden false a o h = refl
hidden true a o h = elim a as (λ v. cond v o None ≡ o) [ true ↦ refl | false ↦ sym (h refl) ]

shown : (b a : Bool) (x : List ℕ) (o : Option (List ℕ)) → (b ≡ true → o ≡ Some x) → cond b (Some x) (cond a o None) ≡ cond (b || a) o None
shown false a x o h = refl
shown true a x o h = sym (h refl)

find-listed : (facts : Values) (ls : List ℕ) (q : ℕ) → find nat_cmp q (listed facts ls) ≡ cond (list_any (eq_by_cmp nat_cmp q) ls) (fin.get facts q) None
find-listed facts [] q = refl
find-listed facts (l ∷ ls) q =
    let rest = find-listed facts ls q in
    let same = λ (h : eq_by_cmp nat_cmp q l ≡ true). ap (fin.get facts) (tied_letters q l h) in
    elim (fin.get facts l) as (λ v. fin.get facts l ≡ v → find nat_cmp q (cons_option (option_map (λ value. (l, value)) v) (listed facts ls)) ≡ cond (list_any (eq_by_cmp nat_cmp q) (l ∷ ls)) (fin.get facts q) None) [
      | None ↦ λ e. rest ∙ hidden (eq_by_cmp nat_cmp q l) (list_any (eq_by_cmp nat_cmp q) ls) (fin.get facts q) (λ h. same h ∙ e)
      | Some x ↦ λ e. ap (cond (eq_by_cmp nat_cmp q l) (Some x)) rest ∙ shown (eq_by_cmp nat_cmp q l) (list_any (eq_by_cmp nat_cmp q) ls) x (fin.get facts q) (λ h. same h ∙ e)
    ] refl

of_true : (b : Bool) → b ≡ true → T b
of_true b h = subst T (sym h) tt

tied_any : (q : ℕ) (ls : List ℕ) → list_any (λ l. l == q) ls ≡ true → list_any (eq_by_cmp nat_cmp q) ls ≡ true
tied_any q [] = λ h. let wrong : false ≡ true = h in cc
tied_any q (l ∷ ls) =
    elim (l == q) as (λ b. (l == q) ≡ b → (b || list_any (λ l. l == q) ls) ≡ true → list_any (eq_by_cmp nat_cmp q) (l ∷ ls) ≡ true) [
      | true ↦ λ e h. ap (λ b. b || list_any (eq_by_cmp nat_cmp q) ls) (unsigned_tied q l ∙ eq-eqb q l (sym (eqb-true l q e)))
      | false ↦ λ e h. ap (λ b. eq_by_cmp nat_cmp q l || b) (tied_any q ls h) ∙ elim (eq_by_cmp nat_cmp q l) as (λ b. (b || true) ≡ true) [ true ↦ refl | false ↦ refl ]
    ] refl

nothing : (b : Bool) → cond {A = Option (List ℕ)} b None None ≡ None
nothing true = refl
nothing false = refl

-- a letter with a value is one of the twelve
shows : (q : ℕ) (value : Option (List ℕ)) → IfSome value (λ v. is_fact q v ≡ true) → cond (list_any (eq_by_cmp nat_cmp q) fact_letters) value None ≡ value
shows q None h = nothing (list_any (eq_by_cmp nat_cmp q) fact_letters)
shows q (Some v) h =
    let letter = (and_parts (is_fact_letter q) (is_fact_value v) h).0 in
    ap (λ b. cond b (Some v) None) (tied_any q fact_letters letter)

-- the facts are those with the twelve letters
entries_listed : (facts : Values) → HasFactsAlone facts → fin.entries facts ≡ listed facts fact_letters
entries_listed facts alone =
    let es = listed facts fact_letters in
    let s = of_true (is_sorted nat_cmp es) (sorted_listed facts fact_letters refl) in
    let same : fin.from_sorted {R = nat_cmp} es ≡ facts = fin.same_map nat_cmp_total fin.nat_cmp-IsAntisymmetric (fin.from_sorted es) facts
    (λ q. fin.get-from_sorted nat_cmp es q s ∙ find-listed facts fact_letters q ∙ shows q (fin.get facts q) (alone q)) in
    ap fin.entries (sym same) ∙ fin.entries-from_sorted nat_cmp es s

pub facts_lines : (facts : Values) → HasFactsAlone facts → flat_map (fact_line_of facts) fact_letters ≡ flat_map fact_line (fin.entries facts)
facts_lines facts alone = lines_listed facts fact_letters ∙ ap (flat_map fact_line) (sym (entries_listed facts alone))

-- ---- the whole

lines_of_map : {A : Type 0} (f : A → List ℕ) (xs : List A) → flat_map line (map f xs) ≡ flat_map (λ x. line (f x)) xs
lines_of_map f [] = refl
lines_of_map f (x ∷ xs) = ap (λ r. line (f x) ++ r) (lines_of_map f xs)

-- the whole text by its parts
pub parts_of_text : (facts : Values) (files : Files) → ((line (header_text Two) ++ flat_map fact_line (fin.entries facts)) ++ flat_map node_line (fin.entries files)) ++ line end_text ≡ text_of facts files
parts_of_text facts files =
    let facts_part = map fact_text (fin.entries facts) in
    let nodes_part = map (node_text Two) (fin.entries files) in
    let whole = flat_map-append line ((header_text Two ∷ facts_part) ++ nodes_part) (end_text ∷ []) ∙ ap (λ x. x ++ flat_map line (end_text ∷ [])) (flat_map-append line (header_text Two ∷ facts_part) nodes_part) in
    let parts = ap (λ x. ((line (header_text Two) ++ x) ++ flat_map node_line (fin.entries files)) ++ line end_text) (sym (lines_of_map fact_text (fin.entries facts)))
    ∙ ap (λ x. ((line (header_text Two) ++ flat_map line facts_part) ++ x) ++ line end_text) (sym (lines_of_map (node_text Two) (fin.entries files))) in
    parts ∙ sym whole

-- ---- what the facts and the paths are

listed_fit : (facts : Values) (letters : List ℕ) → list_all (fact_fits facts) letters ≡ true → list_all is_byte_fact (listed facts letters) ≡ true
listed_fit facts [] e = refl
listed_fit facts (l ∷ ls) e =
    let rest = listed_fit facts ls (and_parts _ _ e).1 in
    let here = (and_parts _ _ e).0 in
    elim (fin.get facts l) as (λ v. option_map_or (λ value. is_byte_fact (l, value)) v true ≡ true → list_all is_byte_fact (cons_option (option_map (λ value. (l, value)) v) (listed facts ls)) ≡ true) [
      | None ↦ λ h. rest
      | Some value ↦ λ h. and_from _ _ h rest
    ] here

pub facts_fit : (facts : Values) → HasFactsAlone facts → list_all (fact_fits facts) fact_letters ≡ true → list_all is_byte_fact (fin.entries facts) ≡ true
facts_fit facts alone e = ap (list_all is_byte_fact) (entries_listed facts alone) ∙ listed_fit facts fact_letters e

-- a test of one item more
pub fits_more : {A : Type 0} (p : A → Bool) (xs : List A) (i : ℕ) (d : A) → i < length xs → list_all p (take i xs) ≡ true → p (get_or xs i d) ≡ true → list_all p (take (i + 1) xs) ≡ true
fits_more p xs i d within e f = ap (list_all p) (take_more xs i d within) ∙ all_append p (take i xs) (get_or xs i d ∷ []) e (and_from _ _ f refl)

pub have_text : (facts : Values) (files : Files) → list_all is_byte_fact (fin.entries facts) ≡ true → IsTree files → HaveText Two facts files
have_text facts files f is = record { facts_fit = f; tree = is; shown = λ path o here. tt }

-- ---- the nodes of a walk

module _ (o : List ℕ) (es all : List (Path × Object)) (e : Path × Object) (next : Some e ≡ slice_get es 0) where
  walk_parts : es ≡ e ∷ drop 1 es
  walk_parts = by es next
    where
      by : (xs : List (Path × Object)) → Some e ≡ slice_get xs 0 → xs ≡ e ∷ drop 1 xs
      by [] is = absurd (let no : Some e ≡ None = is in cc)
      by (x ∷ xs) is = let same : x ≡ e = cc in ap (λ (v : Path × Object). v ∷ xs) same

  pub walk_line : (done : List ℕ) → done ++ flat_map node_line es ≡ o ++ flat_map node_line all → (done ++ node_line e) ++ flat_map node_line (drop 1 es) ≡ o ++ flat_map node_line all
  walk_line done is = append_assoc done (node_line e) (flat_map node_line (drop 1 es)) ∙ sym (ap (λ (v : List (Path × Object)). done ++ flat_map node_line v) walk_parts) ∙ is

pub walk_over : (es : List (Path × Object)) → None ≡ slice_get es 0 → es ≡ []
walk_over [] is = refl
walk_over (x ∷ xs) is = absurd (let no : None ≡ Some x = is in cc)

-- the texts of the items so far, and of one more
pub item_more : {X : Type 0} (f : X → List ℕ) (was now new : List ℕ) (xs : List X) (i : ℕ) (x : X) → i < length xs → x ≡ get_or xs i x
    → now ≡ was ++ flat_map f (take i xs) → new ≡ now ++ f x → new ≡ was ++ flat_map f (take (i + 1) xs)
item_more {X} f was now new xs i x within is so_far one =
    one ∙ ap (λ (t : List ℕ). t ++ f x) so_far ∙ flat_map_more f was (take i xs) x
    ∙ ap (λ (v : List X). was ++ flat_map f v) (sym (take_more xs i x within ∙ ap (λ (y : X). take i xs ++ y ∷ []) (sym is)))
