-- Named entries in order, and one put at its place among them.
use Rattle.std.specs.Prelude.{◌≡◌, ◌≢◌, ℕ, Bool, true, List, [], ◌∷◌, ◌++◌, filter, Some}
use Rattle.std.specs.List.{prefix_len, insert, slice_get}
use Rattle.std.specs.Option.{option_map}
use Rattle.std.specs.Ordering.{is_lt}
use Rattle.std.proofs.Math.ListN.{set}
use Rattle.pv_acl.specs.declared.perm.Named.{Named}
use Rattle.pv_acl.specs.declared.perm.Who.{Who}
use Rattle.pv_acl.specs.NamedEntries.{who_cmp, is_before, all_before, is_ordered, put_named}
use Rattle.pv_acl.proofs.Order.{who_trans, who_asym, who_same}
use Rattle.pv_acl.proofs.Ordered as ordered

-- how many of the entries stand before one
abbrev pub index_of : Named → List Named → ℕ
index_of y xs = prefix_len (λ x. is_before x y) xs

abbrev whom : Named → Who
whom x = x.who

abbrev lower : Who → Who → Bool
lower a b = is_lt (who_cmp a b)

pub is_ordered-push : (xs : List Named) (y : Named) → is_ordered xs ≡ true → all_before xs y ≡ true → is_ordered (xs ++ y ∷ []) ≡ true
is_ordered-push = ordered.is_ordered-push whom lower who_trans who_asym who_same

pub is_ordered-filter : (p : Named → Bool) (xs : List Named) → is_ordered xs ≡ true → is_ordered (filter p xs) ≡ true
is_ordered-filter = ordered.is_ordered-filter whom lower who_trans who_asym who_same

pub is_ordered-put_named : (y : Named) (xs : List Named) → is_ordered xs ≡ true → is_ordered (put_named y xs) ≡ true
is_ordered-put_named = ordered.is_ordered-put whom lower who_trans who_asym who_same

-- the two ways in which the code puts an entry, over lists that are all the same
pub set_is : (y : Named) (xs s t v : List Named) (at : ℕ) → is_ordered xs ≡ true → s ≡ xs → t ≡ xs → xs ≡ v → at ≡ index_of y s → option_map (λ x. x.who) (slice_get t at) ≡ Some y.who → set xs at y ≡ put_named y v
set_is = ordered.set_is whom lower who_trans who_asym who_same

pub insert_is : (y : Named) (xs s t v ws : List Named) (at : ℕ) → is_ordered xs ≡ true → s ≡ xs → t ≡ xs → xs ≡ v → at ≡ index_of y s → option_map (λ x. x.who) (slice_get t at) ≢ Some y.who → ws ≡ insert xs at y → ws ≡ put_named y v
insert_is = ordered.insert_is whom lower who_trans who_asym who_same

pub ordered_as : (y : Named) (xs v ws : List Named) → is_ordered xs ≡ true → xs ≡ v → ws ≡ put_named y v → is_ordered ws ≡ true
ordered_as y xs v ws o ev put = rw (put, ← ev) (is_ordered-put_named y xs o)
