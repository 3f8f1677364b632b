-- The order of named entries, and lists that are in order.
use Rattle.std.proofs.Common.{◌≡◌, ℕ, true, false, refl, arith}
use Rattle.std.specs.Ordering.{nat_cmp, is_lt}
use Rattle.std.proofs.lemmas.Bool.Decides.{nat_tests}
use Rattle.pv_acl.specs.declared.perm.Who.{Who}
use Rattle.pv_acl.specs.declared.perm.Who.TheVariants.{User, Group}
use Rattle.pv_acl.specs.NamedEntries.{who_cmp}

nat_trans : (a b c : ℕ) → is_lt (nat_cmp a b) ≡ true → is_lt (nat_cmp b c) ≡ true → is_lt (nat_cmp a c) ≡ true
nat_trans a b c h k = grind (arith, nat_tests)

nat_asym : (a b : ℕ) → is_lt (nat_cmp a b) ≡ true → is_lt (nat_cmp b a) ≡ false
nat_asym a b h = grind (arith, nat_tests)

nat_same : (a b : ℕ) → is_lt (nat_cmp a b) ≡ false → is_lt (nat_cmp b a) ≡ false → a ≡ b
nat_same a b h k = grind (arith, nat_tests)

pub who_trans : (a b c : Who) → is_lt (who_cmp a b) ≡ true → is_lt (who_cmp b c) ≡ true → is_lt (who_cmp a c) ≡ true
who_trans (User a) (User b) (User c) h k = nat_trans a b c h k
who_trans (User a) (User b) (Group c) h k = refl
who_trans (User a) (Group b) (User c) h k = cc
who_trans (User a) (Group b) (Group c) h k = refl
who_trans (Group a) (User b) c h k = cc
who_trans (Group a) (Group b) (User c) h k = cc
who_trans (Group a) (Group b) (Group c) h k = nat_trans a b c h k

pub who_asym : (a b : Who) → is_lt (who_cmp a b) ≡ true → is_lt (who_cmp b a) ≡ false
who_asym (User a) (User b) h = nat_asym a b h
who_asym (User a) (Group b) h = refl
who_asym (Group a) (User b) h = cc
who_asym (Group a) (Group b) h = nat_asym a b h

pub who_same : (a b : Who) → is_lt (who_cmp a b) ≡ false → is_lt (who_cmp b a) ≡ false → a ≡ b
who_same (User a) (User b) h k = rw (nat_same a b h k)
who_same (User a) (Group b) h k = cc
who_same (Group a) (User b) h k = cc
who_same (Group a) (Group b) h k = rw (nat_same a b h k)
