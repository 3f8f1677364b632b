-- What tests and comparisons tell: small lemmas over plain variables, which all crates share.
use Rattle.std.specs.Prelude.{◌≡◌, ◌==◌, ℕ, ◌<◌, ◌+◌, Bool, true, false, cond, ◌&&◌, ◌||◌, T, List, [], ◌∷◌, ◌++◌, map, take, drop, length, Option, Some, None, is_some, Result, Ok, Err, IfOk, OnOk}
use Rattle.std.proofs.Common.{refl, sym, ap, ◌∙◌, zero, suc, get_or, arith, Bor}
use Rattle.std.proofs.Math.Seq.{drop-cons}
use Rattle.std.proofs.lemmas.Bool.Decides.{nat_tests}
use Rattle.std.specs.List.{AllByRecursion, find, list_any}
use Rattle.std.specs.Option.{option_or}
use Rattle.std.specs.Result.{MatchResult, IsOk}
use Rattle.std.specs.Ordering.{is_eq, is_lt}
use Rattle.std.specs.declared.cmp.Ordering.{Ordering}
use Rattle.std.specs.declared.cmp.Ordering.TheVariants.{Less, Equal, Greater}

-- ---- comparisons

pub equal_of : (o : Ordering) → is_eq o ≡ true → o ≡ Equal
equal_of Less e = cc
equal_of Equal e = refl
equal_of Greater e = cc

pub less_of : (o : Ordering) → is_lt o ≡ true → o ≡ Less
less_of Less e = refl
less_of Equal e = cc
less_of Greater e = cc

pub less_of-T : (o : Ordering) → T (is_lt o) → o ≡ Less
less_of-T Less h = refl
less_of-T Equal h = absurd h
less_of-T Greater h = absurd h

pub same_number : (n : ℕ) → (n == n) ≡ true
same_number n = grind (arith, nat_tests)

-- ---- tests

-- two tests are one where each implies the other
pub same_tests : (a b : Bool) → (a ≡ true → b ≡ true) → (b ≡ true → a ≡ true) → a ≡ b
same_tests true b f g = sym (f refl)
same_tests false true f g = g refl
same_tests false false f g = refl

pub true_not_false : (b : Bool) → b ≡ true → b ≡ false → ⊥
true_not_false b h e = cc

pub both_T : (a b : Bool) → T a → T b → T (a && b)
both_T true b g h = h
both_T false b g h = absurd g

pub each_T : (a b : Bool) → T (a && b) → (T a) × (T b)
each_T true b h = (tt, h)
each_T false b h = absurd h

pub first_false : (a b : Bool) → (a || b) ≡ false → a ≡ false
first_false true b e = e
first_false false b e = refl

pub second_false : (a b : Bool) → (a || b) ≡ false → b ≡ false
second_false true b e = cc
second_false false b e = e

-- ---- options and results

pub none_of : {A : Type 0} (o : Option A) → is_some o ≡ false → o ≡ None
none_of None e = refl
none_of (Some x) e = cc

-- what follows from what an answer Ok says
pub on_ok : {A E : Type 0} (r : Result A E) {X Y : Type 0} → (X → Y) → OnOk r X → OnOk r Y
on_ok (Ok x) f h = f h
on_ok (Err e) f h = h

pub if_ok : {A E : Type 0} (P Q : A → Type 0) (r : Result A E) → ((x : A) → P x → Q x) → IfOk r P → IfOk r Q
if_ok P Q (Ok x) f h = f x h
if_ok P Q (Err e) f h = h

pub option_or-none : {A : Type 0} (o : Option A) → option_or o None ≡ o
option_or-none None = refl
option_or-none (Some x) = refl

-- where a first test decides what stands anyway, a second one may ask for it too
pub hidden : {A : Type 0} (b a : Bool) (o : Option A) → (b ≡ true → o ≡ None) → cond a o None ≡ cond (b || a) o None
hidden false a o h = refl
hidden true false o h = sym (h refl)
hidden true true o h = refl

pub shown : {A : Type 0} (b a : Bool) (x : A) (o : Option A) → (b ≡ true → o ≡ Some x) → cond b (Some x) (cond a o None) ≡ cond (b || a) o None
shown false a x o h = refl
shown true a x o h = sym (h refl)

-- a result that can't be an error is Ok
pub ok-from_cases : {A E : Type 0} (r : Result A E) (P : A → Type 0) (Q : E → Type 0) → MatchResult r P Q → ((e : E) → Q e → ⊥) → IsOk r
ok-from_cases (Ok x) P Q h never = refl
ok-from_cases (Err e) P Q h never = absurd (never e h)

-- ---- lists

-- what slices show
abbrev pub texts : {A : Type 0} → List (Bor A) → List A
texts = map (λ s. s.now)

pub get_or-texts : {A : Type 0} (pieces : List (Bor A)) (i : ℕ) (d : Bor A) → get_or (texts pieces) i d.now ≡ (get_or pieces i d).now
get_or-texts [] i d = refl
get_or-texts (p ∷ pieces) zero d = refl
get_or-texts (p ∷ pieces) (suc i) d = get_or-texts pieces i d

-- some item passes exactly if a first one is found
pub list_any-find : {A : Type 0} (test : A → Bool) (xs : List A) → list_any test xs ≡ is_some (find test xs)
list_any-find test [] = refl
list_any-find {A} test (x ∷ xs) = by_test (test x) (list_any-find test xs)
  where
    by_test : (b : Bool) → list_any test xs ≡ is_some (find test xs) → (b || list_any test xs) ≡ is_some (cond b (Some x) (find test xs))
    by_test true e = refl
    by_test false e = e

-- what is left from a place on begins with the item at that place
pub next_item : {A : Type 0} (xs : List A) (i : ℕ) (x : A) → i < length xs → x ≡ get_or xs i x → drop i xs ≡ x ∷ drop (i + 1) xs
next_item {A} xs i x within there =
    let next : suc i ≡ i + 1 = omega arith in
    drop-cons xs i x within ∙ (λ j. sym there j ∷ drop (next j) xs)

pub all_append : {A : Type 0} (P : A → Type 0) (xs ys : List A) → AllByRecursion P xs → AllByRecursion P ys → AllByRecursion P (xs ++ ys)
all_append P [] ys h k = k
all_append P (x ∷ xs) ys h k = (h.0, all_append P xs ys h.1 k)

pub all_take : {A : Type 0} (P : A → Type 0) (n : ℕ) (xs : List A) → AllByRecursion P xs → AllByRecursion P (take n xs)
all_take P zero xs h = tt
all_take P (suc n) [] h = tt
all_take P (suc n) (x ∷ xs) h = (h.0, all_take P n xs h.1)

pub map-push : {A B : Type 0} (f : A → B) (xs : List A) (x : A) → map f (xs ++ x ∷ []) ≡ map f xs ++ f x ∷ []
map-push f [] x = refl
map-push f (y ∷ ys) x = ap (λ rest. f y ∷ rest) (map-push f ys x)
