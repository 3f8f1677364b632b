-- Reaches to which earlier ones are the same, and what was answered for them.
use Rattle.std.proofs.Common.{◌≡◌, ℕ, ◌<◌, ◌^◌, Bool, true, false, List, length, get_or, nat_eq, cond, Option, Some, refl, sym, ap, subst, ◌∙◌, arith}
use Rattle.std.specs.Map.{lookup}
use Rattle.std.proofs.lemmas.Bool.{eqb-true}
use Rattle.std.proofs.lemmas.Option.{same_Some}
use Rattle.pv_path.specs.Paths.{Path}
use Rattle.pv_glob.specs.declared.meeting.Reach.{Reach}
use Rattle.pv_glob.specs.Words.{Finds}
use Rattle.pv_overlap.specs.Alike.{key_of, AreAnswers}
use Rattle.pv_overlap.specs.Subjects.{meets, reach_at}

-- those found for the first of some reaches
pub record FirstsUpto (reaches : List Reach) (firsts : List ℕ) (n : ℕ) : Type 0 where
  pub count : length firsts ≡ n
  pub same : (i : ℕ) → i < n → reach_at reaches (get_or firsts i 0) ≡ reach_at reaches i

-- two reaches that stand at the numbers of others, which are the same
pub found_for : (reaches : List Reach) (a b i j : ℕ) (answer : Option Path) → reach_at reaches a ≡ reach_at reaches i → reach_at reaches b ≡ reach_at reaches j
    → Finds (meets (reach_at reaches a) (reach_at reaches b)) answer → Finds (meets (reach_at reaches i) (reach_at reaches j)) answer
found_for reaches a b i j answer left right found =
    subst (λ (r : Reach). Finds (meets (reach_at reaches i) r) answer) right (subst (λ (r : Reach). Finds (meets r (reach_at reaches b)) answer) left found)

-- one answer more
pub known_more : (reaches : List Reach) (old new : List (ℕ × Option Path)) (a b : ℕ) (answer : Option Path) → b < 2 ^ 32 → AreAnswers reaches old
    → ((q : ℕ) → lookup (nat_eq q) new ≡ cond (nat_eq (key_of a b) q) (Some answer) (lookup (nat_eq q) old))
    → Finds (meets (reach_at reaches a) (reach_at reaches b)) answer → AreAnswers reaches new
known_more reaches old new a b answer small known up found = λ c d other lc ld e. by c d other lc ld (nat_eq (key_of a b) (key_of c d)) refl (sym (up (key_of c d)) ∙ e)
  where
    by : (c d : ℕ) (other : Option Path) → c < 2 ^ 32 → d < 2 ^ 32 → (t : Bool) → nat_eq (key_of a b) (key_of c d) ≡ t
        → cond (nat_eq (key_of a b) (key_of c d)) (Some answer) (lookup (nat_eq (key_of c d)) old) ≡ Some other → Finds (meets (reach_at reaches c) (reach_at reaches d)) other
    by c d other lc ld true e f =
        let key : key_of a b ≡ key_of c d = eqb-true (key_of a b) (key_of c d) e in
        let first : a ≡ c = omega (arith, key, small, ld) in
        let second : b ≡ d = omega (arith, key, small, ld) in
        let same : Some answer ≡ Some other = rw e at f in
        let one : answer ≡ other = same_Some answer other same in
        subst (λ (o : Option Path). Finds (meets (reach_at reaches c) (reach_at reaches d)) o) one (found_for reaches a b c d answer (ap (reach_at reaches) first) (ap (reach_at reaches) second) found)
    by c d other lc ld false e f = let before : lookup (nat_eq (key_of c d)) old ≡ Some other = rw e at f in known c d other lc ld before
