-- The create order: each line that makes something once, what lies above before what lies below.
use Rattle.std.proofs.Common.{◌≡◌, ◌∙◌, ap, refl, append_assoc, append-nil}
use Rattle.std.specs.Prelude.{ℕ, ◌+◌, Bool, true, false, not, cond, ◌&&◌, List, [], ◌∷◌, ◌++◌, filter, fold, map}
use Rattle.std.specs.List.{enumerate_from, list_all}
use Rattle.std.specs.List.Sorted.{IsPermutation}
use Rattle.std.proofs.lemmas.List.Sorted.{IsPermutation-append_left, IsPermutation-cons, IsPermutation-map, IsPermutation-refl, IsPermutation-to_front, IsPermutation-trans}
use Rattle.std.proofs.lemmas.Bool.{and_parts, and_from, not-true}
use Rattle.pv_lines.specs.declared.line.Line.{Line}
use Rattle.pv_path.specs.Paths.{Path, is_prefix, same_path, same_path-decides}
use Rattle.pv_path.proofs.PathLaws.{is_prefix-antisym, is_prefix-trans}
use Rattle.pv_table.specs.Active.{Listed, in_create_order, is_adjusting_line, placed}
use Rattle.pv_table.specs.Orders.{AboveFirst, IsCreateOrder, lies_under}
use Rattle.pv_table.specs.Reaching.{is_creating, path_in}

-- ---- each line once

placed-permutes : (s : List Listed) (x : Listed) → IsPermutation (s ++ x ∷ []) (placed s x)
placed-permutes [] x = IsPermutation-refl (x ∷ [])
placed-permutes (e ∷ s) x = by_test (lies_under x.1 e.1) (placed-permutes s x)
  where
    by_test : (b : Bool) → IsPermutation (s ++ x ∷ []) (placed s x) → IsPermutation (e ∷ (s ++ x ∷ [])) (cond b (x ∷ e ∷ s) (e ∷ placed s x))
    by_test true rest = IsPermutation-to_front (e ∷ s) x
    by_test false rest = IsPermutation-cons e (s ++ x ∷ []) (placed s x) rest

all_placed-permute : (s lines : List Listed) → IsPermutation (s ++ lines) (fold placed s lines)
all_placed-permute s [] = rw (append-nil s) (IsPermutation-refl s)
all_placed-permute s (x ∷ lines) =
    let first = IsPermutation-append_left lines (s ++ x ∷ []) (placed s x) (placed-permutes s x) in
    let split : (s ++ x ∷ []) ++ lines ≡ s ++ x ∷ lines = append_assoc s (x ∷ []) lines in
    let from : IsPermutation (s ++ x ∷ lines) (placed s x ++ lines) = rw split at first in
    IsPermutation-trans (s ++ x ∷ lines) (placed s x ++ lines) (fold placed (placed s x) lines) from (all_placed-permute (placed s x) lines)

-- ---- what lies above comes first

is_not : (a : Bool) → (a ≡ true → ⊥) → not a ≡ true
is_not true f = absurd (f refl)
is_not false f = refl

-- what lies below what lies below lies below
under-trans : (a b c : Line) → lies_under a b ≡ true → lies_under b c ≡ true → lies_under a c ≡ true
under-trans a b c first second =
    let p = path_in a.path in
    let q = path_in b.path in
    let r = path_in c.path in
    let u = and_parts (is_prefix p q) (not (same_path p q)) first in
    let v = and_parts (is_prefix q r) (not (same_path q r)) second in
    let w = is_prefix-trans p q r u.0 v.0 in
    and_from (is_prefix p r) (not (same_path p r)) w (is_not (same_path p r) (other p q r u.0 v.0 u.1))
  where
    other : (p q r : Path) → is_prefix p q ≡ true → is_prefix q r ≡ true → not (same_path p q) ≡ true → same_path p r ≡ true → ⊥
    other p q r a b apart same =
        let one : p ≡ r = (same_path-decides p r).0 same in
        let back : is_prefix q p ≡ true = rw one b in
        let equal : same_path p q ≡ true = (same_path-decides p q).1 (is_prefix-antisym p q a back) in
        let no = not-true (same_path p q) apart in
        cc

under-one_way : (a b : Line) → lies_under a b ≡ true → lies_under b a ≡ true → ⊥
under-one_way a b first second =
    let p = path_in a.path in
    let q = path_in b.path in
    let u = and_parts (is_prefix p q) (not (same_path p q)) first in
    let v = and_parts (is_prefix q p) (not (same_path q p)) second in
    let equal : same_path p q ≡ true = (same_path-decides p q).1 (is_prefix-antisym p q u.0 v.0) in
    let no = not-true (same_path p q) u.1 in
    cc

-- what lies above none of some lines lies above none of those that lie above them
none_above : (x e : Line) (s : List Line) → lies_under x e ≡ true → list_all (λ line. not (lies_under line e)) s ≡ true → list_all (λ line. not (lies_under line x)) s ≡ true
none_above x e [] below none = refl
none_above x e (y ∷ s) below none =
    let u = and_parts (not (lies_under y e)) (list_all (λ line. not (lies_under line e)) s) none in
    and_from (not (lies_under y x)) (list_all (λ line. not (lies_under line x)) s)
    (is_not (lies_under y x) (λ above. absurd (let yes = under-trans y x e above below in let no = not-true (lies_under y e) u.0 in cc)))
    (none_above x e s below u.1)

-- the lines without their places
abbrev lines_of : List Listed → List Line
lines_of s = map (λ line. line.1) s

-- a test that all of some lines and a further one pass is passed by all when that is placed
all-placed : (test : Line → Bool) (s : List Listed) (x : Listed) → list_all test (lines_of s) ≡ true → test x.1 ≡ true → list_all test (lines_of (placed s x)) ≡ true
all-placed test [] x all one = and_from (test x.1) true one refl
all-placed test (e ∷ s) x all one = let u = and_parts (test e.1) (list_all test (lines_of s)) all in by_test (lies_under x.1 e.1) u.0 (all-placed test s x u.1 one)
  where
    by_test : (b : Bool) → test e.1 ≡ true → list_all test (lines_of (placed s x)) ≡ true → list_all test (lines_of (cond b (x ∷ e ∷ s) (e ∷ placed s x))) ≡ true
    by_test true here rest = and_from (test x.1) (test e.1 && list_all test (lines_of s)) one all
    by_test false here rest = and_from (test e.1) (list_all test (lines_of (placed s x))) here rest

placed-above : (s : List Listed) (x : Listed) → AboveFirst (lines_of s) → AboveFirst (lines_of (placed s x))
placed-above [] x above = (refl, tt)
placed-above (e ∷ s) x above = by_test (lies_under x.1 e.1) refl (placed-above s x above.1)
  where
    by_test : (b : Bool) → lies_under x.1 e.1 ≡ b → AboveFirst (lines_of (placed s x)) → AboveFirst (lines_of (cond b (x ∷ e ∷ s) (e ∷ placed s x)))
    by_test true below rest = (
      and_from (not (lies_under e.1 x.1)) (list_all (λ line. not (lies_under line x.1)) (lines_of s))
          (is_not (lies_under e.1 x.1) (λ up. under-one_way x.1 e.1 below up)) (none_above x.1 e.1 (lines_of s) below above.0),
      above,
    )
    by_test false beside rest = (all-placed (λ line. not (lies_under line e.1)) s x above.0 (ap not beside), rest)

all_placed-above : (s lines : List Listed) → AboveFirst (lines_of s) → AboveFirst (lines_of (fold placed s lines))
all_placed-above s [] above = above
all_placed-above s (x ∷ lines) above = all_placed-above (placed s x) lines (placed-above s x above)

-- ---- the order

lines_of-filter : (test : Line → Bool) (n : ℕ) (lines : List Line) → lines_of (filter (λ line. test line.1) (enumerate_from n lines)) ≡ filter test lines
lines_of-filter test n [] = refl
lines_of-filter test n (line ∷ lines) = by_test (test line) (lines_of-filter test (n + 1) lines)
  where
    by_test : (b : Bool) → lines_of (filter (λ line. test line.1) (enumerate_from (n + 1) lines)) ≡ filter test lines
        → lines_of (cond b ((n, line) ∷ filter (λ line. test line.1) (enumerate_from (n + 1) lines)) (filter (λ line. test line.1) (enumerate_from (n + 1) lines))) ≡ cond b (line ∷ filter test lines) (filter test lines)
    by_test true rest = ap (λ (ls : List Line). line ∷ ls) rest
    by_test false rest = rest

lines_of-append : (a b : List Listed) → lines_of (a ++ b) ≡ lines_of a ++ lines_of b
lines_of-append [] b = refl
lines_of-append (x ∷ a) b = ap (λ (ls : List Line). x.1 ∷ ls) (lines_of-append a b)

pub order_is_create_order : (lines : List Line) → IsCreateOrder lines (in_create_order lines)
order_is_create_order lines =
    let made = filter (λ line. is_creating line.1) (enumerate_from 0 lines) in
    let permuted = IsPermutation-map (λ (line : Listed). line.1) made (fold placed [] made) (all_placed-permute [] made) in
    record {
      making = lines_of (fold placed [] made);
      parts = lines_of-append (fold placed [] made) (filter (λ line. is_adjusting_line line.1) (enumerate_from 0 lines))
          ∙ ap (λ (ls : List Line). lines_of (fold placed [] made) ++ ls) (lines_of-filter is_adjusting_line 0 lines);
      each_once = rw (lines_of-filter is_creating 0 lines) at permuted;
      above_first = all_placed-above [] made tt;
    }
