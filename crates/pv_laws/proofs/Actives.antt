-- The active lines of a configuration: each is one of the lines, and they have no reason where the lines have none.
use Rattle.std.specs.Prelude.{◌≡◌, ℕ, ◌<◌, Bool, true, false, cond, List, [], ◌∷◌, ◌++◌, filter, fold, Option, Some, None}
use Rattle.std.proofs.Common.{zero, suc, refl, sym, ap, subst, arith, append_assoc}
use Rattle.std.specs.List.{list_any, AllByRecursion}
use Rattle.pv_path.specs.Paths.{Path}
use Rattle.pv_lines.specs.declared.line.Line.{Line}
use Rattle.pv_table.specs.declared.reason.Reason.{Reason}
use Rattle.pv_table.specs.Active.{stays, make_same, with_line, active}
use Rattle.pv_table.specs.Repeatable.{IsAt, HasReason, below as made_below, IsRepeatable}
use Rattle.pv_table.proofs.ListedLaws.{all_append, all_filter}

-- ---- each is one of the lines

pub fold_all : (P : Line → Type 0) (lines kept : List Line) → AllByRecursion P kept → AllByRecursion P lines → AllByRecursion P (fold with_line kept lines)
fold_all P [] kept h g = h
fold_all P (line ∷ lines) kept h g = fold_all P lines (with_line kept line) (by (list_any (λ first. make_same first line) kept)) g.1
  where
    by : (b : Bool) → AllByRecursion P (cond b kept (kept ++ line ∷ []))
    by true = h
    by false = all_append P kept (line ∷ []) h (g.0, tt)

pub all_active : (P : Line → Type 0) (boot : Bool) (prefix exclude : Option Path) (lines : List Line) → AllByRecursion P lines → AllByRecursion P (active boot prefix exclude lines)
all_active P boot prefix exclude lines h = fold_all P (filter (stays boot prefix exclude) lines) [] tt (all_filter P (stays boot prefix exclude) lines h)

-- ---- in the same order

-- the lines of the first list stand in the second, in the same order
pub record IsWithin (xs ys : List Line) : Type 0 where
  pub one : (i : ℕ) (a : Line) → IsAt xs i a → (k : ℕ) × IsAt ys k a
  pub two : (i j : ℕ) (a b : Line) → i < j → IsAt xs i a → IsAt xs j b → (k : ℕ) × (l : ℕ) × (k < l) × IsAt ys k a × IsAt ys l b

within_same : (xs : List Line) → IsWithin xs xs
within_same xs = record { one = λ i a h. (i, h); two = λ i j a b lt h g. (i, j, lt, h, g) }

within_then : (xs ys zs : List Line) → IsWithin xs ys → IsWithin ys zs → IsWithin xs zs
within_then xs ys zs f g = record {
  one = λ i a h. (let first = f.one i a h in g.one first.0 a first.1);
  two = λ i j a b lt h k. (let first = f.two i j a b lt h k in g.two first.0 first.1 a b first.2 first.3 first.4);
}

within_none : (ys : List Line) → IsWithin [] ys
within_none ys = record {
  one = λ i a h. absurd (let no : None ≡ Some a = h in cc);
  two = λ i j a b lt h g. absurd (let no : None ≡ Some a = h in cc);
}

within_skip : (xs ys : List Line) (y : Line) → IsWithin xs ys → IsWithin xs (y ∷ ys)
within_skip xs ys y f = record {
  one = λ i a h. (let first = f.one i a h in (suc first.0, first.1));
  two = λ i j a b lt h g. (let both_at = f.two i j a b lt h g in (suc both_at.0, suc both_at.1, omega (arith, both_at.2), both_at.3, both_at.4));
}

within_keep : (xs ys : List Line) (x : Line) → IsWithin xs ys → IsWithin (x ∷ xs) (x ∷ ys)
within_keep xs ys x f = record { one = one; two = two }
  where
    one : (i : ℕ) (a : Line) → IsAt (x ∷ xs) i a → (k : ℕ) × IsAt (x ∷ ys) k a
    one zero a h = (zero, h)
    one (suc i) a h = let first = f.one i a h in (suc first.0, first.1)

    two : (i j : ℕ) (a b : Line) → i < j → IsAt (x ∷ xs) i a → IsAt (x ∷ xs) j b → (k : ℕ) × (l : ℕ) × (k < l) × IsAt (x ∷ ys) k a × IsAt (x ∷ ys) l b
    two i zero a b lt h g = absurd (omega (arith, lt))
    two zero (suc j) a b lt h g = let later = f.one j b g in (zero, suc later.0, omega arith, h, later.1)
    two (suc i) (suc j) a b lt h g = let both_at = f.two i j a b (omega (arith, lt)) h g in (suc both_at.0, suc both_at.1, omega (arith, both_at.2), both_at.3, both_at.4)

within_filter : (test : Line → Bool) (xs : List Line) → IsWithin (filter test xs) xs
within_filter test [] = within_none []
within_filter test (x ∷ xs) =
    let rest = within_filter test xs in
    elim (test x) as (λ b. IsWithin (cond b (x ∷ filter test xs) (filter test xs)) (x ∷ xs)) [ true ↦ within_keep (filter test xs) xs x rest | false ↦ within_skip (filter test xs) xs x rest ]

-- one left out in the middle
within_without : (front back : List Line) (x : Line) → IsWithin (front ++ back) (front ++ x ∷ back)
within_without [] back x = within_skip back back x (within_same back)
within_without (y ∷ front) back x = within_keep (front ++ back) (front ++ x ∷ back) y (within_without front back x)

append_none : (xs : List Line) → xs ++ [] ≡ xs
append_none [] = refl
append_none (x ∷ xs) = ap (λ ys. x ∷ ys) (append_none xs)

fold_within : (lines kept : List Line) → IsWithin (fold with_line kept lines) (kept ++ lines)
fold_within [] kept = subst (IsWithin kept) (sym (append_none kept)) (within_same kept)
fold_within (line ∷ lines) kept =
    within_then (fold with_line (with_line kept line) lines) (with_line kept line ++ lines) (kept ++ line ∷ lines) (fold_within lines (with_line kept line)) (by (list_any (λ first. make_same first line) kept))
  where
    by : (b : Bool) → IsWithin (cond b kept (kept ++ line ∷ []) ++ lines) (kept ++ line ∷ lines)
    by true = within_without kept lines line
    by false = subst (IsWithin ((kept ++ line ∷ []) ++ lines)) (append_assoc kept (line ∷ []) lines) (within_same ((kept ++ line ∷ []) ++ lines))

pub active_within : (boot : Bool) (prefix exclude : Option Path) (lines : List Line) → IsWithin (active boot prefix exclude lines) lines
active_within boot prefix exclude lines =
    within_then (active boot prefix exclude lines) (filter (stays boot prefix exclude) lines) lines (fold_within (filter (stays boot prefix exclude) lines) []) (within_filter (stays boot prefix exclude) lines)

-- ---- reasons

-- a reason among some lines is one among all
reason_within : (xs ys : List Line) → IsWithin xs ys → (i : ℕ) (r : Reason) → HasReason xs i r → (k : ℕ) × HasReason ys k r
reason_within xs ys f i r (HasReason.append line at h) = let first = f.one i line at in (first.0, HasReason.append line first.1 h)
reason_within xs ys f i r (HasReason.source line other j path q at there is above named governed) =
    let first = f.one i line at in
    let second = f.one j other there in
    (first.0, HasReason.source line other second.0 path q first.1 second.1 is above named governed)
reason_within xs ys f i r (made_below line other j path at there creates is above differ) =
    let first = f.one i line at in
    let second = f.one j other there in
    (first.0, made_below line other second.0 path first.1 second.1 creates is above differ)
reason_within xs ys f i r (HasReason.input line q at changes is named governed) = let first = f.one i line at in (first.0, HasReason.input line q first.1 changes is named governed)
reason_within xs ys f i r (HasReason.mask line other j q at there before named reach meet) =
    let both_at = f.two j i other line before there at in
    (both_at.1, HasReason.mask line other both_at.0 q both_at.4 both_at.3 both_at.2 named reach meet)

pub active_repeatable : (boot : Bool) (prefix exclude : Option Path) (lines : List Line) → IsRepeatable lines → IsRepeatable (active boot prefix exclude lines)
active_repeatable boot prefix exclude lines repeatable i r has =
    let found = reason_within (active boot prefix exclude lines) lines (active_within boot prefix exclude lines) i r has in
    repeatable found.0 r found.1
