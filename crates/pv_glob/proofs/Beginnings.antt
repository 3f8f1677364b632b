-- How a word began decides whether it may be a name.
use Rattle.std.proofs.Common.{◌≡◌, ℕ, Bool, true, false, not, ◌&&◌, ◌||◌, ◌==◌, nat_eq, nat_le, List, [], ◌∷◌, length, take, refl, sym, ap, ◌∙◌, arith, if◌then◌else◌}
use Rattle.std.specs.List.{list_all}
use Rattle.std.specs.Cmp.Lexicographic.{pointwise}
use Rattle.std.proofs.lemmas.Bool.Decides.{nat_tests}
use Rattle.pv_path.specs.Names.{is_name_byte, is_dots, is_staging}
use Rattle.std.proofs.Math.Bool.{and-true}
use Rattle.pv_glob.specs.declared.beginning.Beginning.{Beginning}
use Rattle.pv_glob.specs.declared.beginning.Beginning.TheVariants.{Nothing, Dot, TwoDots, DotHash, DotHashT, DotHashTf, Other}
use Rattle.pv_glob.specs.Pairs.{could_be_name, beginning_after, may_follow, may_end}
use Rattle.pv_glob.proofs.MatchingLaws.{eqb-swap}

-- whether a word goes on from a beginning so that it may be a name
abbrev pub goes_on : Beginning → List ℕ → Bool
goes_on begun [] = may_end begun
goes_on begun (b ∷ word) = may_follow begun b && goes_on (beginning_after begun b) word

abbrev words : List ℕ → Bool
words word = list_all is_name_byte word

-- how a word may go on apart from its bytes
abbrev fine : Beginning → List ℕ → Bool
fine Nothing [] = false
fine Nothing (b ∷ word) = if b == 46 then fine Dot word else true
fine Dot [] = false
fine Dot (b ∷ word) = if b == 46 then fine TwoDots word else if b == 35 then fine DotHash word else true
fine TwoDots [] = false
fine TwoDots (b ∷ word) = true
fine DotHash [] = true
fine DotHash (b ∷ word) = if b == 116 then fine DotHashT word else true
fine DotHashT [] = true
fine DotHashT (b ∷ word) = if b == 102 then fine DotHashTf word else true
fine DotHashTf [] = true
fine DotHashTf (b ∷ word) = not (b == 45)
fine Other word = true

pub and_assoc : (a b c : Bool) → (a && (b && c)) ≡ ((a && b) && c)
and_assoc true b c = refl
and_assoc false b c = refl

on_other : (word : List ℕ) → goes_on Other word ≡ words word
on_other [] = refl
on_other (b ∷ word) = ap (λ x. is_name_byte b && x) (on_other word)

on_two : (word : List ℕ) → goes_on TwoDots word ≡ (words word && fine TwoDots word)
on_two [] = refl
on_two (b ∷ word) = ap (λ x. is_name_byte b && x) (on_other word) ∙ sym (and-true (is_name_byte b && words word))

swap : (w t x : Bool) → ((w && t) && x) ≡ ((w && x) && t)
swap true true true = refl
swap true true false = refl
swap true false true = refl
swap true false false = refl
swap false t x = refl

on_tf : (word : List ℕ) → goes_on DotHashTf word ≡ (words word && fine DotHashTf word)
on_tf [] = refl
on_tf (b ∷ word) = ap (λ x. (is_name_byte b && not (b == 45)) && x) (on_other word) ∙ swap (is_name_byte b) (not (b == 45)) (words word)

-- one byte that leads to one of two beginnings
by_byte : (w t : Bool) (word : List ℕ) (x : Beginning) → goes_on x word ≡ (words word && fine x word)
    → (w && goes_on (if t then x else Other) word) ≡ ((w && words word) && (if t then fine x word else true))
by_byte w true word x e = ap (λ y. w && y) e ∙ and_assoc w (words word) (fine x word)
by_byte w false word x e = ap (λ y. w && y) (on_other word) ∙ sym (and-true (w && words word))

on_t : (word : List ℕ) → goes_on DotHashT word ≡ (words word && fine DotHashT word)
on_t [] = refl
on_t (b ∷ word) = by_byte (is_name_byte b) (b == 102) word DotHashTf (on_tf word)

on_hash : (word : List ℕ) → goes_on DotHash word ≡ (words word && fine DotHash word)
on_hash [] = refl
on_hash (b ∷ word) = by_byte (is_name_byte b) (b == 116) word DotHashT (on_t word)

on_dot : (word : List ℕ) → goes_on Dot word ≡ (words word && fine Dot word)
on_dot [] = refl
on_dot (b ∷ word) = by (b == 46)
  where
    by : (t : Bool) → (is_name_byte b && goes_on (if t then TwoDots else if b == 35 then DotHash else Other) word) ≡ ((is_name_byte b && words word) && (if t then fine TwoDots word else if b == 35 then fine DotHash word else true))
    by true = ap (λ y. is_name_byte b && y) (on_two word) ∙ and_assoc (is_name_byte b) (words word) (fine TwoDots word)
    by false = by_byte (is_name_byte b) (b == 35) word DotHash (on_hash word)

on_nothing : (word : List ℕ) → goes_on Nothing word ≡ (words word && fine Nothing word)
on_nothing [] = refl
on_nothing (b ∷ word) = by_byte (is_name_byte b) (b == 46) word Dot (on_dot word)

-- ---- what is fine is neither `.` nor `..` nor a staging name

fine_tf : (word : List ℕ) → fine DotHashTf word ≡ not (pointwise nat_eq (45 ∷ []) (take 1 word))
fine_tf [] = refl
fine_tf (b ∷ word) = ap not (eqb-swap b 45 ∙ sym (and-true (45 == b)))

fine_by : (n b : ℕ) (x y : Bool) → x ≡ not y → (if b == n then x else true) ≡ not ((n == b) && y)
fine_by n b x y e = by (b == n) (n == b) (eqb-swap b n)
  where
    by : (t u : Bool) → t ≡ u → (if t then x else true) ≡ not (u && y)
    by true true s = e
    by true false s = cc
    by false true s = cc
    by false false s = refl

fine_t : (word : List ℕ) → fine DotHashT word ≡ not (pointwise nat_eq (102 ∷ 45 ∷ []) (take 2 word))
fine_t [] = refl
fine_t (b ∷ word) = fine_by 102 b (fine DotHashTf word) (pointwise nat_eq (45 ∷ []) (take 1 word)) (fine_tf word)

fine_hash : (word : List ℕ) → fine DotHash word ≡ not (pointwise nat_eq (116 ∷ 102 ∷ 45 ∷ []) (take 3 word))
fine_hash [] = refl
fine_hash (b ∷ word) = fine_by 116 b (fine DotHashT word) (pointwise nat_eq (102 ∷ 45 ∷ []) (take 2 word)) (fine_t word)

fine_two : (word : List ℕ) → fine TwoDots word ≡ not (pointwise nat_eq word [])
fine_two [] = refl
fine_two (b ∷ word) = refl

-- behind one period
fine_dot : (word : List ℕ) → fine Dot word ≡ (not (pointwise nat_eq word [] || pointwise nat_eq word (46 ∷ [])) && not (pointwise nat_eq (35 ∷ 116 ∷ 102 ∷ 45 ∷ []) (take 4 word)))
fine_dot [] = refl
fine_dot (b ∷ word) = by (b == 46) refl (b == 35) refl
  where
    by : (t : Bool) → (b == 46) ≡ t → (u : Bool) → (b == 35) ≡ u
        → (if t then fine TwoDots word else if u then fine DotHash word else true) ≡ (not (false || (t && pointwise nat_eq word [])) && not ((35 == b) && pointwise nat_eq (116 ∷ 102 ∷ 45 ∷ []) (take 3 word)))
    by true s true h = absurd (let one : b ≡ 46 = grind (arith, nat_tests) in let two : b ≡ 35 = grind (arith, nat_tests) in omega arith)
    by true s false h = fine_two word ∙ sym (and-true (not (pointwise nat_eq word []))) ∙ ap (λ x. not (pointwise nat_eq word []) && not (x && pointwise nat_eq (116 ∷ 102 ∷ 45 ∷ []) (take 3 word))) (sym (eqb-swap 35 b ∙ h))
    by false s true h = fine_hash word ∙ ap (λ x. not (x && pointwise nat_eq (116 ∷ 102 ∷ 45 ∷ []) (take 3 word))) (sym (eqb-swap 35 b ∙ h))
    by false s false h = ap (λ x. not (x && pointwise nat_eq (116 ∷ 102 ∷ 45 ∷ []) (take 3 word))) (sym (eqb-swap 35 b ∙ h))

fine_nothing : (b : ℕ) (word : List ℕ) → fine Nothing (b ∷ word) ≡ (not (is_dots (b ∷ word)) && not (is_staging (b ∷ word)))
fine_nothing b word = by (b == 46) (46 == b) (eqb-swap b 46)
  where
    by : (t u : Bool) → t ≡ u → (if t then fine Dot word else true)
        ≡ (not ((t && pointwise nat_eq word []) || (t && pointwise nat_eq word (46 ∷ []))) && not (u && pointwise nat_eq (35 ∷ 116 ∷ 102 ∷ 45 ∷ []) (take 4 word)))
    by true true s = fine_dot word
    by true false s = cc
    by false true s = cc
    by false false s = refl

-- a word that goes on from nothing may be a name
pub goes_on-nothing : (word : List ℕ) → goes_on Nothing word ≡ could_be_name word
goes_on-nothing [] = refl
goes_on-nothing (b ∷ word) =
    let some : nat_le 1 (length (b ∷ word)) ≡ true = grind (arith, nat_tests) in
    on_nothing (b ∷ word) ∙ ap (λ x. words (b ∷ word) && x) (fine_nothing b word)
    ∙ and_assoc (words (b ∷ word)) (not (is_dots (b ∷ word))) (not (is_staging (b ∷ word)))
    ∙ ap (λ x. x && words (b ∷ word) && not (is_dots (b ∷ word)) && not (is_staging (b ∷ word))) (sym some)
