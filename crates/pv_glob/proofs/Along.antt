-- Going along a component and a name once, with the last `*` as the only place to return to, finds what the recursion on both finds.
use Rattle.std.proofs.Common.{◌≡◌, ℕ, ◌+◌, ◌-◌, ◌<◌, ◌≤◌, Bool, true, false, ◌||◌, ◌==◌, List, [], ◌∷◌, ◌++◌, length, Option, Some, None, refl, sym, ap, ◌∙◌, arith, append_assoc, length-append, suc, subst, Bor, get_or, take, drop}
use Rattle.std.proofs.Math.Seq.{take-length}
use Rattle.std.proofs.lemmas.Bool.Decides.{nat_tests}
use Rattle.std.proofs.lemmas.Bool.{and_parts}
use Rattle.std.proofs.Math.Bool.{or-true, or-false}
use Rattle.pv_glob.specs.declared.element.Element.{Element}
use Rattle.pv_glob.specs.declared.element.Element.TheVariants.{Byte, Any, Many, OneOf}
use Rattle.pv_glob.specs.Matching.{byte_matches, after_many, name_matches, component_matches}

-- ---- a period in front

-- whether elements match a name that does not begin with a period, or a rest of one
abbrev pub rest_matches : List Element → List ℕ → Bool
rest_matches elements name = name_matches elements false name

pub first_of_nothing : (elements : List Element) → name_matches elements true [] ≡ rest_matches elements []
first_of_nothing [] = refl
first_of_nothing (Many ∷ elements) = first_of_nothing elements
first_of_nothing (Byte c ∷ elements) = refl
first_of_nothing (Any ∷ elements) = refl
first_of_nothing (OneOf set ∷ elements) = refl

-- where a name does not begin with a period, its first byte is like any other
pub first_of_other : (elements : List Element) (b : ℕ) (name : List ℕ) → (b == 46) ≡ false → name_matches elements true (b ∷ name) ≡ rest_matches elements (b ∷ name)
first_of_other [] b name e = refl
first_of_other (Many ∷ elements) b name e = rw (first_of_other elements b name e, e)
first_of_other (Byte c ∷ elements) b name e = refl
first_of_other (Any ∷ elements) b name e = rw e
first_of_other (OneOf set ∷ elements) b name e = rw e

-- ---- the last `*`

-- whether the elements after a `*` match a later rest of the name than the one at which they were tried
abbrev pub matches_later : List Element → List ℕ → Bool
matches_later elements [] = false
matches_later elements (b ∷ name) = after_many (name_matches elements) false name

-- `*` and what follows it match where the rest of the elements do at once or later
pub many_now_or_later : (elements : List Element) (name : List ℕ) → rest_matches (Many ∷ elements) name ≡ (rest_matches elements name || matches_later elements name)
many_now_or_later elements [] = sym (or-false _)
many_now_or_later elements (b ∷ name) = refl

-- no element of a list is `*`
abbrev pub has_no_many : List Element → Bool
has_no_many [] = true
has_no_many (Many ∷ elements) = false
has_no_many (element ∷ elements) = has_no_many elements

-- a rest of a name behind bytes that elements took
abbrev pub Taken : List Element → List Element → List ℕ → Type 0
Taken front elements name = (taken : List ℕ) × (left : List ℕ) × (name ≡ taken ++ left) × (length taken ≡ length front) × (rest_matches elements left ≡ true)

one_more : (element : Element) (front elements : List Element) (b : ℕ) (name : List ℕ) → Taken front elements name → Taken (element ∷ front) elements (b ∷ name)
one_more element front elements b name w = (b ∷ w.0, w.1, ap (λ (n : List ℕ). b ∷ n) w.2, ap suc w.3, w.4)

-- elements without `*` take as many bytes as they are
pub front_taken : (front elements : List Element) (name : List ℕ) → has_no_many front ≡ true → rest_matches (front ++ elements) name ≡ true
    → Taken front elements name
front_taken [] elements name plain e = ([], name, refl, refl, e)
front_taken (Many ∷ front) elements name plain e = cc
front_taken (Byte c ∷ front) elements [] plain e = cc
front_taken (Any ∷ front) elements [] plain e = cc
front_taken (OneOf set ∷ front) elements [] plain e = cc
front_taken (Byte c ∷ front) elements (b ∷ name) plain e = one_more (Byte c) front elements b name (front_taken front elements name plain (and_parts (byte_matches (Byte c) false b) _ e).1)
front_taken (Any ∷ front) elements (b ∷ name) plain e = one_more Any front elements b name (front_taken front elements name plain (and_parts (byte_matches Any false b) _ e).1)
front_taken (OneOf set ∷ front) elements (b ∷ name) plain e = one_more (OneOf set) front elements b name (front_taken front elements name plain (and_parts (byte_matches (OneOf set) false b) _ e).1)

-- where `*` may take bytes, the rest of the elements matches behind some
pub many_takes : (elements : List Element) (name : List ℕ) → after_many (name_matches elements) false name ≡ true → (taken : List ℕ) × (left : List ℕ) × (name ≡ taken ++ left) × (rest_matches elements left ≡ true)
many_takes elements [] e = ([], [], refl, e)
many_takes elements (b ∷ name) e = by_now (rest_matches elements (b ∷ name)) refl (many_takes elements name)
  where
    by_now : (now : Bool) → rest_matches elements (b ∷ name) ≡ now → (after_many (name_matches elements) false name ≡ true → (taken : List ℕ) × (left : List ℕ) × (name ≡ taken ++ left) × (rest_matches elements left ≡ true))
        → (taken : List ℕ) × (left : List ℕ) × (b ∷ name ≡ taken ++ left) × (rest_matches elements left ≡ true)
    by_now true is later = ([], b ∷ name, refl, is)
    by_now false is later = let w = later (rw is at e) in (b ∷ w.0, w.1, ap (λ (n : List ℕ). b ∷ n) w.2, w.3)

-- `*` may take more bytes in front of those that it took
pub many_takes_more : (elements : List Element) (taken name : List ℕ) → rest_matches (Many ∷ elements) name ≡ true → rest_matches (Many ∷ elements) (taken ++ name) ≡ true
many_takes_more elements [] name e = e
many_takes_more elements (b ∷ taken) name e = rw (many_takes_more elements taken name e) (or-true (rest_matches elements (b ∷ (taken ++ name))))

-- of two ends of one list the longer one ends in the shorter one
pub longer_end : (front other left right : List ℕ) → front ++ left ≡ other ++ right → length right ≤ length left → (between : List ℕ) × (left ≡ between ++ right)
longer_end [] other left right e l = (other, e)
longer_end (a ∷ front) [] left right e l = absurd (let n = ap length e in omega (arith, n, length-append front left))
longer_end (a ∷ front) (b ∷ other) left right e l = longer_end front other left right (let tails : front ++ left ≡ other ++ right = cc in tails) l

-- how the place to return to stands to where elements and name are: elements without `*` lie between, and as many bytes
pub record Behind (later : List Element) (from : List ℕ) (elements : List Element) (name : List ℕ) : Type 0 where
  pub front : List Element
  pub taken : List ℕ
  pub elements_are : later ≡ front ++ elements
  pub name_is : from ≡ taken ++ name
  pub as_many : length taken ≡ length front
  pub without : has_no_many front ≡ true

pub behind_itself : (elements : List Element) (name : List ℕ) → Behind elements name elements name
behind_itself elements name = record { front = []; taken = []; elements_are = refl; name_is = refl; as_many = refl; without = refl }

pub has_no_many-push : (front : List Element) (element : Element) → has_no_many front ≡ true → has_no_many (element ∷ []) ≡ true → has_no_many (front ++ element ∷ []) ≡ true
has_no_many-push [] element a b = b
has_no_many-push (Many ∷ front) element a b = cc
has_no_many-push (Byte c ∷ front) element a b = has_no_many-push front element a b
has_no_many-push (Any ∷ front) element a b = has_no_many-push front element a b
has_no_many-push (OneOf set ∷ front) element a b = has_no_many-push front element a b

pub behind_more : (later : List Element) (from : List ℕ) (element : Element) (elements : List Element) (b : ℕ) (name : List ℕ) → has_no_many (element ∷ []) ≡ true
    → Behind later from (element ∷ elements) (b ∷ name) → Behind later from elements name
behind_more later from element elements b name plain h = record {
  front = h.front ++ element ∷ [];
  taken = h.taken ++ b ∷ [];
  elements_are = h.elements_are ∙ sym (append_assoc h.front (element ∷ []) elements);
  name_is = h.name_is ∙ sym (append_assoc h.taken (b ∷ []) name);
  as_many = let n = h.as_many in omega (arith, n, length-append h.front (element ∷ []), length-append h.taken (b ∷ []));
  without = has_no_many-push h.front element h.without plain;
}

-- where the place to return to would lead to a match, so does the `*` that is met now
pub newer_serves : (later : List Element) (from : List ℕ) (elements : List Element) (name : List ℕ) → Behind later from (Many ∷ elements) name → matches_later later from ≡ true
    → rest_matches (Many ∷ elements) name ≡ true
newer_serves later [] elements name h e = cc
newer_serves later (b ∷ from) elements name h e =
    let w = many_takes later from e in
    let v = front_taken h.front (Many ∷ elements) w.1 h.without (subst (λ (es : List Element). rest_matches es w.1 ≡ true) h.elements_are w.3) in
    let whole : h.taken ++ name ≡ (b ∷ (w.0 ++ v.0)) ++ v.1 = sym h.name_is ∙ ap (λ (n : List ℕ). b ∷ n) (w.2 ∙ ap (λ (n : List ℕ). w.0 ++ n) v.2 ∙ sym (append_assoc w.0 v.0 v.1)) in
    let counted = ap length whole in
    let shorter : length v.1 ≤ length name = omega (arith, counted, h.as_many, v.3, length-append h.taken name, length-append (w.0 ++ v.0) v.1, length-append w.0 v.0) in
    let between = longer_end h.taken (b ∷ (w.0 ++ v.0)) name v.1 whole shorter in
    rw between.1 (many_takes_more elements between.0 v.1 v.4)

-- ---- one turn of the loop

-- the place to return to: the elements behind the last `*`, and the rest of the name at which they were tried last
abbrev pub LastMany : Type 0
LastMany = Option (Bor (List Element) × Bor (List ℕ))

-- whether going back there leads to a match
abbrev pub back_matches : LastMany → Bool
back_matches None = false
back_matches (Some p) = matches_later p.0.now p.1.now

abbrev pub BackIsBehind : LastMany → List Element → List ℕ → Type 0
BackIsBehind None rest left = Unit {0}
BackIsBehind (Some p) rest left = Behind p.0.now p.1.now rest left

-- how many rests of the name are still to be tried, and one more
abbrev pub tries_left : List ℕ → LastMany → ℕ
tries_left name None = length name + 2
tries_left name (Some p) = length p.1.now + 1

abbrev pub IsBackWithin : List Element → LastMany → Type 0
IsBackWithin elements None = Unit {0}
IsBackWithin elements (Some p) = length p.0.now ≤ length elements

-- what stays true while the loop goes along elements and a name
pub record Going (elements : List Element) (name : List ℕ) (rest : List Element) (left : List ℕ) (back : LastMany) : Type 0 where
  pub finds : rest_matches elements name ≡ (rest_matches rest left || back_matches back)
  pub behind : BackIsBehind back rest left
  pub fits : length rest ≤ length elements
  pub back_fits : IsBackWithin elements back
  pub tries : length left + 1 ≤ tries_left name back

-- a list with an element is that element and the rest
pub front_read : {A : Type 0} (xs : List A) (x : A) → 1 ≤ length xs → x ≡ get_or xs 0 x → xs ≡ x ∷ take (length xs - 1) (drop 1 xs)
front_read [] x l e = absurd (omega arith)
front_read (y ∷ xs) x l e = let n : suc (length xs) - 1 ≡ length xs = omega arith in rw (n, take-length xs, e)

if_back : (now back : Bool) → (back ≡ true → now ≡ true) → (now || back) ≡ now
if_back true back f = refl
if_back false true f = sym (f refl)
if_back false false f = refl

back_serves : (elements : List Element) (left : List ℕ) (back : LastMany) → BackIsBehind back (Many ∷ elements) left → back_matches back ≡ true → rest_matches (Many ∷ elements) left ≡ true
back_serves elements left None h e = cc
back_serves elements left (Some p) h e = newer_serves p.0.now p.1.now elements left h e

-- a `*` becomes the place to return to
pub many_step : (elements : List Element) (name : List ℕ) (behind : Bor (List Element)) (left : Bor (List ℕ)) (back : LastMany) → Going elements name (Many ∷ behind.now) left.now back
    → Going elements name behind.now left.now (Some (behind, left))
many_step elements name behind left back g = record {
  finds = g.finds ∙ if_back (rest_matches (Many ∷ behind.now) left.now) (back_matches back) (back_serves behind.now left.now back g.behind) ∙ many_now_or_later behind.now left.now;
  behind = behind_itself behind.now left.now;
  fits = let f = g.fits in omega arith;
  back_fits = let f = g.fits in omega arith;
  tries = omega arith;
}

no_many : (element : Element) (b : ℕ) → byte_matches element false b ≡ true → has_no_many (element ∷ []) ≡ true
no_many (Byte c) b e = refl
no_many Any b e = refl
no_many Many b e = e
no_many (OneOf set) b e = refl

one_byte : (element : Element) (elements : List Element) (b : ℕ) (left : List ℕ) → byte_matches element false b ≡ true → rest_matches (element ∷ elements) (b ∷ left) ≡ rest_matches elements left
one_byte (Byte c) elements b left e = rw e
one_byte Any elements b left e = refl
one_byte Many elements b left e = cc
one_byte (OneOf set) elements b left e = rw e

back_more : (element : Element) (elements : List Element) (b : ℕ) (left : List ℕ) (back : LastMany) → has_no_many (element ∷ []) ≡ true → BackIsBehind back (element ∷ elements) (b ∷ left) → BackIsBehind back elements left
back_more element elements b left None plain h = tt
back_more element elements b left (Some p) plain h = behind_more p.0.now p.1.now element elements b left plain h

-- an element takes a byte
pub byte_step : (elements : List Element) (name : List ℕ) (element : Element) (behind : List Element) (b : ℕ) (left : List ℕ) (back : LastMany) → byte_matches element false b ≡ true
    → Going elements name (element ∷ behind) (b ∷ left) back → Going elements name behind left back
byte_step elements name element behind b left back e g = record {
  finds = g.finds ∙ ap (λ (now : Bool). now || back_matches back) (one_byte element behind b left e);
  behind = back_more element behind b left back (no_many element b e) g.behind;
  fits = let f = g.fits in omega arith;
  back_fits = g.back_fits;
  tries = let f = g.tries in omega arith;
}

pub front_number : (xs : List ℕ) → 1 ≤ length xs → xs ≡ get_or xs 0 0 ∷ take (length xs - 1) (drop 1 xs)
front_number [] l = absurd (omega arith)
front_number (y ∷ xs) l = let n : suc (length xs) - 1 ≡ length xs = omega arith in rw (n, take-length xs)

pub empty_matches : (elements : List Element) (name : List ℕ) (r : Bool) → length name < 1 → r ≡ rest_matches elements name → r ≡ component_matches elements name
empty_matches elements [] r l e = e ∙ sym (first_of_nothing elements)
empty_matches elements (b ∷ name) r l e = absurd (omega arith)

pub other_matches : (elements : List Element) (name : List ℕ) (r : Bool) → (get_or name 0 0 ≡ 46 → ⊥) → 1 ≤ length name → r ≡ rest_matches elements name → r ≡ component_matches elements name
other_matches elements [] r f l e = absurd (omega arith)
other_matches elements (b ∷ name) r f l e = let is : (b == 46) ≡ false = grind (arith, nat_tests) in e ∙ sym (first_of_other elements b name is)
