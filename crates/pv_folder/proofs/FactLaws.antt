-- Facts that are copied letter by letter.
use Rattle.std.proofs.Common.{◌≡◌, ◌∙◌, ◌<◌, ℕ, zero, suc, ◌+◌, Bool, true, false, cond, ◌||◌, ◌&&◌, ◌==◌, List, take, get_or, Option, Some, None, refl, sym, ap, arith}
use Rattle.std.specs.Prelude.{IfSome}
use Rattle.std.specs.Cmp.{nat_cmp_total, unsigned_tied}
use Rattle.std.specs.FinMap as fin
use Rattle.std.specs.List.{list_any}
use Rattle.std.specs.Ordering.{eq_by_cmp, is_eq, nat_cmp, ordering_reverse}
use Rattle.std.specs.declared.cmp.Ordering.{Ordering}
use Rattle.std.specs.declared.cmp.Ordering.TheVariants.{Less, Equal, Greater}
use Rattle.std.proofs.lemmas.List.Folds.{list_any_more}
use Rattle.pv_path.proofs.Tests.{equal_of}
use Rattle.pv_text.specs.Facts.{HasFactsAlone, Values, fact_letters, is_fact, is_fact_letter, is_fact_value}

eq_reversed : (o : Ordering) → is_eq (ordering_reverse o) ≡ is_eq o
eq_reversed Less = refl
eq_reversed Equal = refl
eq_reversed Greater = refl

tied : (a b : ℕ) → eq_by_cmp nat_cmp a b ≡ (b == a)
tied a b = ap is_eq (nat_cmp_total.antisymm a b) ∙ eq_reversed (nat_cmp b a) ∙ unsigned_tied b a

-- a letter's value put among others
pub put_fact : (facts old : Values) (letter : ℕ) (v : List ℕ) (l : ℕ) → Some v ≡ fin.get facts letter
    → fin.get (fin.insert old letter v) l ≡ cond (letter == l) (fin.get facts l) (fin.get old l)
put_fact facts old letter v l is = fin.get-insert nat_cmp_total old letter v l ∙ by (eq_by_cmp nat_cmp l letter) refl
  where
    by : (b : Bool) → eq_by_cmp nat_cmp l letter ≡ b → cond b (Some v) (fin.get old l) ≡ cond (letter == l) (fin.get facts l) (fin.get old l)
    by true e =
        let same : l ≡ letter = fin.nat_cmp-IsAntisymmetric l letter (equal_of (nat_cmp l letter) e) in
        is ∙ ap (fin.get facts) (sym same) ∙ ap (λ b. cond b (fin.get facts l) (fin.get old l)) (sym e ∙ tied l letter)
    by false e = ap (λ b. cond b (fin.get facts l) (fin.get old l)) (sym e ∙ tied l letter)

-- the facts with the first letters are copied
abbrev pub AreCopied : Values → Values → ℕ → Type 0
AreCopied facts copy i = (l : ℕ) → fin.get copy l ≡ cond (list_any (λ x. x == l) (take i fact_letters)) (fin.get facts l) None

first_time : (i : ℕ) → i < 12 → list_any (λ x. x == get_or fact_letters i 0) (take i fact_letters) ≡ false
first_time zero h = refl
first_time (suc zero) h = refl
first_time (suc (suc zero)) h = refl
first_time (suc (suc (suc zero))) h = refl
first_time (suc (suc (suc (suc zero)))) h = refl
first_time (suc (suc (suc (suc (suc zero))))) h = refl
first_time (suc (suc (suc (suc (suc (suc zero)))))) h = refl
first_time (suc (suc (suc (suc (suc (suc (suc zero))))))) h = refl
first_time (suc (suc (suc (suc (suc (suc (suc (suc zero)))))))) h = refl
first_time (suc (suc (suc (suc (suc (suc (suc (suc (suc zero))))))))) h = refl
first_time (suc (suc (suc (suc (suc (suc (suc (suc (suc (suc zero)))))))))) h = refl
first_time (suc (suc (suc (suc (suc (suc (suc (suc (suc (suc (suc zero))))))))))) h = refl
first_time (suc (suc (suc (suc (suc (suc (suc (suc (suc (suc (suc (suc i)))))))))))) h = absurd (omega (arith, h))

-- the next letter is new
pub new_letter : (facts copy : Values) (i : ℕ) → AreCopied facts copy i → i < 12 → fin.get copy (get_or fact_letters i 0) ≡ None
new_letter facts copy i are within =
    are (get_or fact_letters i 0) ∙ ap (λ b. cond b (fin.get facts (get_or fact_letters i 0)) None) (first_time i within)

either : (a b : Bool) (o : Option (List ℕ)) → cond b o (cond a o None) ≡ cond (a || b) o None
either true true o = refl
either true false o = refl
either false true o = refl
either false false o = refl

pub more_copied : (facts old new : Values) (i : ℕ) → AreCopied facts old i → i < 12
    → ((l : ℕ) → fin.get new l ≡ cond (get_or fact_letters i 0 == l) (fin.get facts l) (fin.get old l)) → AreCopied facts new (i + 1)
more_copied facts old new i are within put l =
    put l
    ∙ ap (cond (get_or fact_letters i 0 == l) (fin.get facts l)) (are l)
    ∙ either (list_any (λ x. x == l) (take i fact_letters)) (get_or fact_letters i 0 == l) (fin.get facts l)
    ∙ ap (λ b. cond b (fin.get facts l) None) (sym (list_any_more (λ x. x == l) fact_letters i 0 within))

first_of : (a b : Bool) → (a && b) ≡ true → a ≡ true
first_of true b h = refl
first_of false b h = h

shows : (l : ℕ) (value : Option (List ℕ)) → IfSome value (λ v. is_fact l v ≡ true) → cond (is_fact_letter l) value None ≡ value
shows l None h = by (is_fact_letter l)
  where
    by : (b : Bool) → cond {A = Option (List ℕ)} b None None ≡ None
    by true = refl
    by false = refl
shows l (Some v) h = ap (λ b. cond b (Some v) None) (first_of (is_fact_letter l) (is_fact_value v) h)

-- with all letters all facts are copied
pub all_copied : (facts copy : Values) → HasFactsAlone facts → AreCopied facts copy 12 → copy ≡ facts
all_copied facts copy alone are = fin.same_map nat_cmp_total fin.nat_cmp-IsAntisymmetric copy facts (λ l. are l ∙ shows l (fin.get facts l) (alone l))
