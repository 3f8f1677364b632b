-- The number that a pool gives next, after more users or groups are there.
use Rattle.std.proofs.Common.{◌≡◌, ℕ, zero, suc, ◌+◌, ◌<◌, Bool, true, false, not, ◌&&◌, ◌||◌, ◌==◌, List, [], ◌∷◌, ◌++◌, Option, Some, None, IfSome, IfNone, add-one, refl, sym, ◌∙◌}
use Rattle.std.proofs.Math.Bool.{and-false}
use Rattle.pv_accounts.specs.InUse.{Ids, is_held}
use Rattle.pv_sysusers.specs.Pools.{free_below, highest}
use Rattle.pv_sysusers.proofs.Highest.{highest_below}

-- the bound below which the next number is found
abbrev pub past : Option ℕ → ℕ
past None = 0
past (Some n) = n + 1

pub highest_at_none : (test : ℕ → Bool) → highest test 0 ≡ None
unfolding highest
highest_at_none test = refl

-- where fewer numbers pass a test, none passes it past the highest that passed before
pub highest_past : (test fewer : ℕ → Bool) (bound : ℕ) (o : Option ℕ) → o ≡ highest test bound → ((n : ℕ) → test n ≡ false → fewer n ≡ false)
    → highest fewer (past o) ≡ highest fewer bound
unfolding highest
highest_past test fewer zero o e h = rw e refl
highest_past test fewer (suc b) o e h = by_test (test b) refl (highest_past test fewer b)
  where
    by_test : (t : Bool) → test b ≡ t
        → ((o : Option ℕ) → o ≡ highest test b → ((n : ℕ) → test n ≡ false → fewer n ≡ false) → highest fewer (past o) ≡ highest fewer b)
        → highest fewer (past o) ≡ highest fewer (suc b)
    by_test true d rest = let found : o ≡ Some b = e ∙ rw d refl in rw (found, add-one b) refl
    by_test false d rest = let left : o ≡ highest test b = e ∙ rw d refl in rw (h b d) (rest o left h)

fewer_left : (pooled user group user' group' : Bool) → (user ≡ true → user' ≡ true) → (group ≡ true → group' ≡ true)
    → (pooled && not user && not group) ≡ false → (pooled && not user' && not group') ≡ false
fewer_left false user group user' group' f g e = refl
fewer_left true true group user' group' f g e = rw (f refl) refl
fewer_left true false true user' group' f g e = rw (g refl) (and-false (not user'))
fewer_left true false false user' group' f g e = absurd cc

-- the number that is given next, where those who had numbers keep them
pub given_next : (pooled : ℕ → Bool) (users groups users' groups' : Ids) (bound : ℕ) (o o' : Option ℕ) → o ≡ free_below pooled users groups bound
    → ((n : ℕ) → is_held users n ≡ true → is_held users' n ≡ true) → ((n : ℕ) → is_held groups n ≡ true → is_held groups' n ≡ true)
    → IfSome o (λ n. o' ≡ free_below pooled users' groups' (n + 1)) → IfNone o (o' ≡ None) → o' ≡ free_below pooled users' groups' bound
given_next pooled users groups users' groups' bound o o' e more_users more_groups some none = by o e some none
  where
    left : Ids → Ids → ℕ → Bool
    left us gs n = pooled n && not (is_held us n) && not (is_held gs n)

    fewer : (n : ℕ) → (pooled n && not (is_held users n) && not (is_held groups n)) ≡ false → (pooled n && not (is_held users' n) && not (is_held groups' n)) ≡ false
    fewer n = fewer_left (pooled n) (is_held users n) (is_held groups n) (is_held users' n) (is_held groups' n) (more_users n) (more_groups n)

    reached : (o : Option ℕ) → o ≡ free_below pooled users groups bound → highest (λ n. pooled n && not (is_held users' n) && not (is_held groups' n)) (past o) ≡ free_below pooled users' groups' bound
    reached o e = highest_past (λ n. pooled n && not (is_held users n) && not (is_held groups n)) (λ n. pooled n && not (is_held users' n) && not (is_held groups' n)) bound o e fewer

    by : (o : Option ℕ) → o ≡ free_below pooled users groups bound → IfSome o (λ n. o' ≡ free_below pooled users' groups' (n + 1)) → IfNone o (o' ≡ None) → o' ≡ free_below pooled users' groups' bound
    by None e some none = none ∙ sym (highest_at_none (λ n. pooled n && not (is_held users' n) && not (is_held groups' n))) ∙ reached None e
    by (Some n) e some none = some ∙ reached (Some n) e

-- the number that is given next lies below the bound
pub next_below : (pooled : ℕ → Bool) (users groups : Ids) (bound : ℕ) (o : Option ℕ) → o ≡ free_below pooled users groups bound → IfSome o (λ n. n < bound)
next_below pooled users groups bound None e = tt
next_below pooled users groups bound (Some n) e = highest_below (λ n. pooled n && not (is_held users n) && not (is_held groups n)) bound n (sym e)

-- a number that somebody has is had also where one more is there
pub held_more : (ids : Ids) (one : List ℕ × ℕ) (n : ℕ) → is_held ids n ≡ true → is_held (ids ++ one ∷ []) n ≡ true
held_more [] one n h = absurd cc
held_more (held ∷ ids) one n h = by (held.1 == n) (held_more ids one n) h
  where
    by : (b : Bool) → (is_held ids n ≡ true → is_held (ids ++ one ∷ []) n ≡ true) → (b || is_held ids n) ≡ true → (b || is_held (ids ++ one ∷ []) n) ≡ true
    by true rest h = refl
    by false rest h = rest h
