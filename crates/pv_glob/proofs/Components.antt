-- What the elements of a component match of a name, byte by byte.
use Rattle.std.proofs.Common.{◌≡◌, ℕ, zero, suc, ◌+◌, ◌<◌, ◌≤◌, Bool, true, false, not, ◌&&◌, ◌||◌, ◌==◌, nat_lt, List, [], ◌∷◌, length, drop, refl, sym, ap, ◌∙◌, arith, if◌then◌else◌, zero-add, All}
use Rattle.std.specs.List.{list_any}
use Rattle.std.proofs.lemmas.Bool.Decides.{nat_tests}
use Rattle.std.proofs.lemmas.List.{drop_more, drop_all, drop-drop, get_or_past}
use Rattle.std.proofs.lemmas.List.Elements.{All-append, All-cons, All-nil}
use Rattle.std.proofs.lemmas.List.Folds.{list_any-append}
use Rattle.std.proofs.Math.Bool.{or-false, or_comm}
use Rattle.pv_glob.specs.declared.element.Element.{Element}
use Rattle.pv_glob.specs.declared.element.Element.TheVariants.{Byte, Any, Many, OneOf}
use Rattle.pv_glob.specs.Matching.{is_hiding, name_matches, after_many}
use Rattle.pv_glob.specs.Pairs.{is_many, stars, element_at, takes, behind, past_stars, takers}

-- ---- on lists of elements

-- what follows the `*` with which elements begin
abbrev rest : List Element → List Element
rest [] = []
rest (Many ∷ elements) = rest elements
rest (element ∷ elements) = element ∷ elements

-- whether the first element takes a byte and the others match the rest
abbrev front : List Element → Bool → ℕ → List ℕ → Bool
front [] first b name = false
front (element ∷ elements) first b name = takes element first b && name_matches elements false name

-- whether elements begin with `*`, which takes a byte, and match the rest
abbrev stays : List Element → Bool → ℕ → List ℕ → Bool
stays [] first b name = false
stays (element ∷ elements) first b name = is_many element && (not (is_hiding first b) && name_matches (element ∷ elements) false name)

-- a `*` may take nothing
skip : (elements : List Element) (name : List ℕ) → name_matches elements false name ≡ true → name_matches (Many ∷ elements) false name ≡ true
skip elements [] e = e
skip elements (b ∷ name) e = ap (λ t. t || (not (is_hiding false b) && after_many (name_matches elements) false name)) e

absorb : (s t r h : Bool) → (s ≡ true → t ≡ true) → (((h && s) || r) || (h && t)) ≡ ((h && t) || r)
absorb s t r false e = or-false r
absorb true t r true e = ap (λ x. x) (sym (ap (λ x. x || r) (e refl)))
absorb false true true true e = refl
absorb false true false true e = refl
absorb false false true true e = refl
absorb false false false true e = refl

-- elements match a name where a `*` takes its first byte or the first that is no `*` does
pub byte_step : (elements : List Element) (first : Bool) (b : ℕ) (name : List ℕ) → name_matches elements first (b ∷ name) ≡ (stays elements first b name || front (rest elements) first b name)
byte_step [] first b name = refl
byte_step (Byte c ∷ elements) first b name = refl
byte_step (Any ∷ elements) first b name = refl
byte_step (OneOf set ∷ elements) first b name = refl
byte_step (Many ∷ elements) first b name =
    ap (λ t. t || (not (is_hiding first b) && name_matches (Many ∷ elements) false name)) (byte_step elements first b name)
    ∙ by elements
  where
    by : (es : List Element) → ((stays es first b name || front (rest es) first b name) || (not (is_hiding first b) && name_matches (Many ∷ es) false name))
        ≡ ((not (is_hiding first b) && name_matches (Many ∷ es) false name) || front (rest es) first b name)
    by [] = sym (or-false _)
    by (Byte c ∷ es) = or_comm (front (Byte c ∷ es) first b name) (not (is_hiding first b) && name_matches (Many ∷ Byte c ∷ es) false name)
    by (Any ∷ es) = or_comm (front (Any ∷ es) first b name) (not (is_hiding first b) && name_matches (Many ∷ Any ∷ es) false name)
    by (OneOf set ∷ es) = or_comm (front (OneOf set ∷ es) first b name) (not (is_hiding first b) && name_matches (Many ∷ OneOf set ∷ es) false name)
    by (Many ∷ es) = absorb (name_matches (Many ∷ es) false name) (name_matches (Many ∷ Many ∷ es) false name) (front (rest es) first b name) (not (is_hiding first b)) (skip (Many ∷ es) name)

-- ---- by places

-- elements match the empty rest of a name where only `*` are left
pub none_left : (elements : List Element) (at : ℕ) (first : Bool) → at ≤ length elements → name_matches (drop at elements) first [] ≡ (past_stars elements at == length elements)
none_left elements zero first l = whole elements first ∙ ap (λ n. n == length elements) (sym (zero-add (stars elements)))
  where
    whole : (es : List Element) (first : Bool) → name_matches es first [] ≡ (stars es == length es)
    whole [] first = refl
    whole (Byte c ∷ es) first = let e : (0 == suc (length es)) ≡ false = grind (arith, nat_tests) in sym e
    whole (Any ∷ es) first = let e : (0 == suc (length es)) ≡ false = grind (arith, nat_tests) in sym e
    whole (OneOf set ∷ es) first = let e : (0 == suc (length es)) ≡ false = grind (arith, nat_tests) in sym e
    whole (Many ∷ es) first = whole es first ∙ (let e : (1 + stars es == suc (length es)) ≡ (stars es == length es) = grind (arith, nat_tests) in sym e)
none_left [] (suc at) first l = absurd (omega arith)
none_left (element ∷ elements) (suc at) first l = none_left elements at first (omega arith) ∙ (let e : (suc at + stars (drop at elements) == suc (length elements)) ≡ (at + stars (drop at elements) == length elements) = grind (arith, nat_tests) in sym e)

-- elements from a place on are the one there and those behind it
at_place : (elements : List Element) (at : ℕ) → at < length elements → drop at elements ≡ element_at elements at ∷ drop (at + 1) elements
at_place elements at l = drop_more elements at Any l

past_end : (elements : List Element) (at : ℕ) → length elements ≤ at → (element_at elements at ≡ Any) × (drop at elements ≡ [])
past_end elements at l = (get_or_past elements at Any l, drop_all at elements l)

many_is : (element : Element) → is_many element ≡ true → element ≡ Many
many_is Many e = refl
many_is (Byte c) e = cc
many_is Any e = cc
many_is (OneOf set) e = cc

rest_is : (elements : List Element) → rest elements ≡ drop (stars elements) elements
rest_is [] = refl
rest_is (Byte c ∷ elements) = refl
rest_is (Any ∷ elements) = refl
rest_is (OneOf set ∷ elements) = refl
rest_is (Many ∷ elements) = rest_is elements ∙ (let e : 1 + stars elements ≡ suc (stars elements) = omega arith in ap (λ n. drop n (Many ∷ elements)) (sym e))

rest_plain : (elements : List Element) (element : Element) (others : List Element) → rest elements ≡ element ∷ others → is_many element ≡ false
rest_plain [] element others e = cc
rest_plain (Byte c ∷ elements) element others e = let same : Byte c ≡ element = cc in ap is_many (sym same)
rest_plain (Any ∷ elements) element others e = let same : Any ≡ element = cc in ap is_many (sym same)
rest_plain (OneOf set ∷ elements) element others e = let same : OneOf set ≡ element = cc in ap is_many (sym same)
rest_plain (Many ∷ elements) element others e = rest_plain elements element others e

module _ (elements : List Element) (first : Bool) (b : ℕ) (name : List ℕ) where
  -- whether the element at a place takes the byte and those behind it match the rest
  abbrev pub taken_at : ℕ → Bool
  taken_at at = takes (element_at elements at) first b && name_matches (drop (behind elements at) elements) false name

  stays_at : (at : ℕ) → stays (drop at elements) first b name ≡ (is_many (element_at elements at) && (not (is_hiding first b) && name_matches (drop at elements) false name))
  stays_at at = by (nat_lt at (length elements)) refl
    where
      by : (t : Bool) → nat_lt at (length elements) ≡ t → stays (drop at elements) first b name ≡ (is_many (element_at elements at) && (not (is_hiding first b) && name_matches (drop at elements) false name))
      by true l =
          let is = at_place elements at (let n : at < length elements = grind (arith, nat_tests) in n) in
          ap (λ (x : List Element). stays x first b name) is ∙ ap (λ (x : List Element). is_many (element_at elements at) && (not (is_hiding first b) && name_matches x false name)) (sym is)
      by false l =
          let is = past_end elements at (let n : length elements ≤ at = grind (arith, nat_tests) in n) in
          ap (λ (x : List Element). stays x first b name) is.1 ∙ ap (λ (x : Element). is_many x && (not (is_hiding first b) && name_matches (drop at elements) false name)) (sym is.0)

  many_part : (at : ℕ) → list_any taken_at (if is_many (element_at elements at) then at ∷ [] else []) ≡ stays (drop at elements) first b name
  many_part at = by (is_many (element_at elements at)) refl ∙ sym (stays_at at)
    where
      by : (t : Bool) → is_many (element_at elements at) ≡ t → list_any taken_at (if t then at ∷ [] else []) ≡ (t && (not (is_hiding first b) && name_matches (drop at elements) false name))
      by true e =
          let many : element_at elements at ≡ Many = many_is (element_at elements at) e in
          or-false (taken_at at) ∙ ap (λ (x : Element). takes x first b && name_matches (drop (if is_many x then at else at + 1) elements) false name) many
      by false e = refl

  plain_part : (at : ℕ) → list_any taken_at (if nat_lt (past_stars elements at) (length elements) then past_stars elements at ∷ [] else []) ≡ front (rest (drop at elements)) first b name
  plain_part at = by (nat_lt (past_stars elements at) (length elements)) refl ∙ ap (λ (x : List Element). front x first b name) (sym rest_at)
    where
      rest_at : rest (drop at elements) ≡ drop (past_stars elements at) elements
      rest_at = rest_is (drop at elements) ∙ drop-drop (stars (drop at elements)) at elements

      by : (t : Bool) → nat_lt (past_stars elements at) (length elements) ≡ t → list_any taken_at (if t then past_stars elements at ∷ [] else []) ≡ front (drop (past_stars elements at) elements) first b name
      by true l =
          let k = past_stars elements at in
          let is = at_place elements k (let n : k < length elements = grind (arith, nat_tests) in n) in
          let plain = rest_plain (drop at elements) (element_at elements k) (drop (k + 1) elements) (rest_at ∙ is) in
          or-false (taken_at k) ∙ ap (λ (x : Bool). takes (element_at elements k) first b && name_matches (drop (if x then k else k + 1) elements) false name) plain
          ∙ ap (λ (x : List Element). front x first b name) (sym is)
      by false l =
          let is = past_end elements (past_stars elements at) (let n : length elements ≤ past_stars elements at = grind (arith, nat_tests) in n) in
          ap (λ (x : List Element). front x first b name) (sym is.1)

  -- a name is matched from a place on where an element that may take its first byte does so
  pub taken : (at : ℕ) → name_matches (drop at elements) first (b ∷ name) ≡ list_any taken_at (takers elements at)
  taken at =
      byte_step (drop at elements) first b name
      ∙ sym (list_any-append taken_at (if is_many (element_at elements at) then at ∷ [] else []) (if nat_lt (past_stars elements at) (length elements) then past_stars elements at ∷ [] else [])
      ∙ ap (λ x. x || list_any taken_at (if nat_lt (past_stars elements at) (length elements) then past_stars elements at ∷ [] else [])) (many_part at)
      ∙ ap (λ x. stays (drop at elements) first b name || x) (plain_part at))

-- an element that may take a byte stands in the component
pub takers-inside : (elements : List Element) (at : ℕ) → All (λ k. k < length elements) (takers elements at)
takers-inside elements at = All-append (λ k. k < length elements) (if is_many (element_at elements at) then at ∷ [] else []) (if nat_lt (past_stars elements at) (length elements) then past_stars elements at ∷ [] else [])
    (many (is_many (element_at elements at)) refl) (plain (nat_lt (past_stars elements at) (length elements)) refl)
  where
    inside : is_many (element_at elements at) ≡ true → nat_lt at (length elements) ≡ false → ⊥
    inside e l = let is = past_end elements at (let n : length elements ≤ at = grind (arith, nat_tests) in n) in let differ : false ≡ true = ap is_many (sym is.0) ∙ e in cc

    below : is_many (element_at elements at) ≡ true → (t : Bool) → nat_lt at (length elements) ≡ t → at < length elements
    below e true l = grind (arith, nat_tests)
    below e false l = absurd (inside e l)

    many : (t : Bool) → is_many (element_at elements at) ≡ t → All (λ k. k < length elements) (if t then at ∷ [] else [])
    many true e = All-cons (λ k. k < length elements) at [] (below e (nat_lt at (length elements)) refl) (All-nil (λ k. k < length elements))
    many false e = All-nil (λ k. k < length elements)

    plain : (t : Bool) → nat_lt (past_stars elements at) (length elements) ≡ t → All (λ k. k < length elements) (if t then past_stars elements at ∷ [] else [])
    plain true l = All-cons (λ k. k < length elements) (past_stars elements at) [] (let n : past_stars elements at < length elements = grind (arith, nat_tests) in n) (All-nil (λ k. k < length elements))
    plain false l = All-nil (λ k. k < length elements)
