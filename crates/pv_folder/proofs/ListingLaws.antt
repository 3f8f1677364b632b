-- How the names of a listing are gone through.
use Rattle.std.proofs.Common.{◌≡◌, ◌∙◌, ◌+◌, ◌<◌, ℕ, Bool, true, false, List, [], ◌∷◌, length, map, reverse, drop, get_or, Some, refl, sym, ap, cond, Bor}
use Rattle.std.proofs.lemmas.List.{at_drop_more}
use Rattle.pv_path.specs.Names.{same_bytes}
use Rattle.pv_path.proofs.PathLaws.{same_bytes-decides}
use Rattle.pv_walk.proofs.OrderLaws.{map_reverse}
use Rattle.pv_folder.specs.declared.item.HostItem.{HostItem}
use Rattle.pv_folder.specs.Reading.{kind_named}

same_turned : (a b : List ℕ) → same_bytes a b ≡ same_bytes b a
same_turned a b = by (same_bytes a b) (same_bytes b a) refl refl
  where
    by : (x y : Bool) → same_bytes a b ≡ x → same_bytes b a ≡ y → x ≡ y
    by true y e f = sym ((same_bytes-decides b a).1 (sym ((same_bytes-decides a b).0 e))) ∙ f
    by false true e f = sym e ∙ (same_bytes-decides a b).1 (sym ((same_bytes-decides b a).0 f))
    by false false e f = refl

module _ (name : List ℕ) (items : List HostItem) (i : ℕ) (d : HostItem) (within : i < length items) (so_far : kind_named name items ≡ kind_named name (drop i items)) (test : Bool) (is : test ≡ same_bytes (get_or items i d).name name) where
  more : kind_named name items ≡ cond test (Some (get_or items i d).kind) (kind_named name (drop (i + 1) items))
  more =
      so_far ∙ at_drop_more (kind_named name) items i d within
      ∙ ap (λ b. cond b (Some (get_or items i d).kind) (kind_named name (drop (i + 1) items))) (same_turned name (get_or items i d).name ∙ sym is)

  -- the next item has the name
  pub named_here : test ≡ true → kind_named name items ≡ Some (get_or items i d).kind
  named_here e = more ∙ ap (λ b. cond b (Some (get_or items i d).kind) (kind_named name (drop (i + 1) items))) e

  -- it has another one
  pub named_later : test ≡ false → kind_named name items ≡ kind_named name (drop (i + 1) items)
  named_later e = more ∙ ap (λ b. cond b (Some (get_or items i d).kind) (kind_named name (drop (i + 1) items))) e

-- ---- backwards

module _ {A B : Type 0} (f : A → B) where
  -- a function of what was gone through backwards
  pub map_now : (xs : List A) (seen : List (Bor A)) → map (λ x. x.now) seen ≡ reverse xs → map (λ x. f x.now) seen ≡ reverse (map f xs)
  map_now xs seen is = by seen ∙ ap (map f) is ∙ map_reverse f xs
    where
      by : (seen : List (Bor A)) → map (λ x. f x.now) seen ≡ map f (map (λ x. x.now) seen)
      by [] = refl
      by (x ∷ seen) = ap (λ ys. f x.now ∷ ys) (by seen)
