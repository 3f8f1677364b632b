-- A tree that is lent by reference, and the steps that it refused.
use Rattle.std.specs.Prelude.{◌≡◌, ◌≤◌, ◌+◌, ℕ, zero, suc}
use Rattle.std.proofs.Common.{refl, arith, ap, subst, ◌∙◌}
use Rattle.pv_io.specs.Faults.{fault_after}
use Rattle.pv_steps.specs.Counting.{faults_after}

-- Over some calls the count of faults of a tree went from `old` to `new`, and that of the lent tree from `before` to
-- `after`. Both have counted the same number of faults.
pub record HaveCounted (old new before after : ℕ) : Type 0 where
  pub times : ℕ
  pub there : new ≡ faults_after times old
  pub here : after ≡ faults_after times before
  pub rises : before ≤ after

pub same_name : {X : Type 0} → (a : X) → a ≡ a
same_name a = λ i. a

pub one_name : {X : Type 0} → (a b c : X) → b ≡ a → c ≡ b → c ≡ a
one_name a b c p q = subst (λ x. c ≡ x) p q

-- Some more faults, and then some more.
faults_on : (more k n : ℕ) → faults_after more (faults_after k n) ≡ faults_after (more + k) n
faults_on zero k n = ap (λ m. faults_after m n) (let same : k ≡ 0 + k = omega arith in same)
faults_on (suc more) k n = ap fault_after (faults_on more k n) ∙ ap (λ m. faults_after m n) (let same : suc (more + k) ≡ suc more + k = omega arith in same)

-- Over no call, and over some calls after others.
pub counted_none : (old before : ℕ) → HaveCounted old old before before
counted_none old before = record { times = 0; there = refl; here = refl; rises = omega arith }

pub counted_on : (a b c x y z : ℕ) → HaveCounted a b x y → HaveCounted b c y z → HaveCounted a c x z
counted_on a b c x y z p q = record {
  times = q.times + p.times;
  there = q.there ∙ ap (λ n. faults_after q.times n) p.there ∙ faults_on q.times p.times a;
  here = q.here ∙ ap (λ n. faults_after q.times n) p.here ∙ faults_on q.times p.times x;
  rises = omega (arith, p.rises, q.rises);
}
