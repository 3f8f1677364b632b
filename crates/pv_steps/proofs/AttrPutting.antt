-- An attribute put at its place in a list that is in order.
use Rattle.std.proofs.Common.{◌≡◌, ◌≢◌, ℕ, ◌+◌, ◌<◌, suc, Bool, true, false, ◌&&◌, List, [], ◌∷◌, ◌++◌, refl, sym, ap, ◌∙◌, arith, filter, Some, get_or, take}
use Rattle.std.specs.Prelude.{nat_lt, nat_le, length}
use Rattle.std.specs.List.{list_all, insert, slice_get}
use Rattle.std.specs.Option.{option_map}
use Rattle.std.proofs.Math.ListN.{set}
use Rattle.std.proofs.lemmas.Bool.Decides.{nat_tests}
use Rattle.std.proofs.lemmas.List.Folds.{list_all-append, list_all_at}
use Rattle.std.specs.Bool.{Decides}
use Rattle.std.proofs.lemmas.List.{take_more}
use Rattle.std.proofs.lemmas.List.Sums.{fold-append}
use Rattle.std.proofs.lemmas.Bool.{and_parts, and_from}
use Rattle.pv_path.specs.Names.{same_bytes}
use Rattle.pv_path.proofs.PathLaws.{same_bytes-decides}
use Rattle.pv_steps.specs.declared.attr.Attr.{Attr}
use Rattle.pv_steps.specs.Attributes.{are_bytes, is_attr, is_attr_name, are_attrs, comes_before, all_before, is_ordered, put_attr, put_attrs}
use Rattle.pv_acl.proofs.Filters.{list_all-filter}
use Rattle.pv_steps.proofs.AttrOrder.{is_ordered-push, is_ordered-put_attr, place_of}
use Rattle.pv_steps.proofs.AttrOrder as order

-- numbers that all are bytes
pub bytes_small : (bs : List ℕ) → ((i : ℕ) → get_or bs i 0 < 256) → are_bytes bs ≡ true
bytes_small [] h = refl
bytes_small (b ∷ bs) h =
    let first : nat_lt b 256 ≡ true = let small : b < 256 = h 0 in grind (arith, nat_tests) in
    ap (λ v. v && are_bytes bs) first ∙ bytes_small bs (λ i. h (suc i))

-- bytes that are an allowed name and a short value are an attribute
pub is_attr-named : (name value : List ℕ) → is_attr_name name ≡ true → are_bytes name ≡ true → are_bytes value ≡ true → nat_le (length value) 65536 ≡ is_attr name value
is_attr-named name value n a b = by (nat_le (length value) 65536) refl
  where
    all_three : (s : Bool) → (s && true && true) ≡ s
    all_three true = refl
    all_three false = refl

    by : (s : Bool) → nat_le (length value) 65536 ≡ s → s ≡ is_attr name value
    by s e = rw (n, e, a, b) (sym (all_three s))

-- two attributes are the same where names and values are
pub same_attr : (x y : Attr) → Decides (same_bytes x.name y.name && same_bytes x.value y.value) (x ≡ y)
same_attr x y = (forth, back)
  where
    forth : (same_bytes x.name y.name && same_bytes x.value y.value) ≡ true → x ≡ y
    forth h =
        let parts = and_parts (same_bytes x.name y.name) (same_bytes x.value y.value) h in
        let n : x.name ≡ y.name = (same_bytes-decides x.name y.name).0 parts.0 in
        let v : x.value ≡ y.value = (same_bytes-decides x.value y.value).0 parts.1 in
        λ i. record { name = n i; value = v i }

    back : x ≡ y → (same_bytes x.name y.name && same_bytes x.value y.value) ≡ true
    back e = and_from _ _ ((same_bytes-decides x.name y.name).1 (ap (λ (a : Attr). a.name) e)) ((same_bytes-decides x.value y.value).1 (ap (λ (a : Attr). a.value) e))

-- an allowed attribute put among others leaves them allowed and in order
pub are_attrs-put_attr : (y : Attr) (xs : List Attr) → is_attr y.name y.value ≡ true → are_attrs xs ≡ true → are_attrs (put_attr y xs) ≡ true
are_attrs-put_attr y xs is h =
    and_from _ _
    (list_all-append allowed (filter (λ x. comes_before x y) xs) (y ∷ filter (comes_before y) xs)
    ∙ and_from _ _ (list_all-filter (λ x. comes_before x y) allowed xs parts.0) (and_from _ _ is (list_all-filter (comes_before y) allowed xs parts.0)))
    (is_ordered-put_attr y xs parts.1)
  where
    allowed : Attr → Bool
    allowed = λ x. is_attr x.name x.value

    parts : (list_all (λ (x : Attr). is_attr x.name x.value) xs ≡ true) × (is_ordered xs ≡ true)
    parts = and_parts (list_all (λ (x : Attr). is_attr x.name x.value) xs) (is_ordered xs) h

-- and so does one that comes after all others
pub are_attrs-push : (xs : List Attr) (y : Attr) → are_attrs xs ≡ true → is_attr y.name y.value ≡ true → all_before xs y ≡ true → are_attrs (xs ++ y ∷ []) ≡ true
are_attrs-push xs y h is last =
    let parts = and_parts (list_all (λ (x : Attr). is_attr x.name x.value) xs) (is_ordered xs) h in
    and_from _ _ (list_all-append (λ (x : Attr). is_attr x.name x.value) xs (y ∷ []) ∙ and_from _ _ parts.0 (and_from _ _ is refl)) (is_ordered-push xs y parts.1 last)

-- each attribute of a list is allowed
pub allowed_at : (xs : List Attr) (i : ℕ) (d : Attr) → i < length xs → are_attrs xs ≡ true → is_attr (get_or xs i d).name (get_or xs i d).value ≡ true
allowed_at xs i d h are = by (is_attr (get_or xs i d).name (get_or xs i d).value) refl
  where
    all : list_all (λ (x : Attr). is_attr x.name x.value) xs ≡ true
    all = (and_parts (list_all (λ (x : Attr). is_attr x.name x.value) xs) (is_ordered xs) are).0

    by : (b : Bool) → is_attr (get_or xs i d).name (get_or xs i d).value ≡ b → b ≡ true
    by true e = refl
    by false e = sym (list_all_at (λ (x : Attr). is_attr x.name x.value) xs i d h e) ∙ all

-- one more attribute put
pub put_more : (xs : List Attr) (i : ℕ) (d : Attr) (s : List Attr) → i < length xs → put_attrs (take (i + 1) xs) s ≡ put_attr (get_or xs i d) (put_attrs (take i xs) s)
put_more xs i d s h = ap (λ (l : List Attr). put_attrs l s) (take_more xs i d h) ∙ fold-append (λ (l : List Attr) (y : Attr). put_attr y l) s (take i xs) (get_or xs i d ∷ [])

-- the two ways in which the code puts an attribute among allowed ones, over lists that are all the same
pub set_is : (y : Attr) (xs s t v : List Attr) (at : ℕ) → are_attrs xs ≡ true → s ≡ xs → t ≡ xs → xs ≡ v → at ≡ place_of y s → option_map (λ x. x.name) (slice_get t at) ≡ Some y.name → set xs at y ≡ put_attr y v
set_is y xs s t v at h = order.set_is y xs s t v at (and_parts (list_all (λ (x : Attr). is_attr x.name x.value) xs) (is_ordered xs) h).1

pub insert_is : (y : Attr) (xs s t v ws : List Attr) (at : ℕ) → are_attrs xs ≡ true → s ≡ xs → t ≡ xs → xs ≡ v → at ≡ place_of y s → option_map (λ x. x.name) (slice_get t at) ≢ Some y.name → ws ≡ insert xs at y → ws ≡ put_attr y v
insert_is y xs s t v ws at h = order.insert_is y xs s t v ws at (and_parts (list_all (λ (x : Attr). is_attr x.name x.value) xs) (is_ordered xs) h).1

pub attrs_as : (y : Attr) (xs v ws : List Attr) → is_attr y.name y.value ≡ true → are_attrs xs ≡ true → xs ≡ v → ws ≡ put_attr y v → are_attrs ws ≡ true
attrs_as y xs v ws is h ev put = rw (put, ← ev) (are_attrs-put_attr y xs is h)
