-- There is one first path, and so one list of the lines that share a path.
use Rattle.std.specs.Prelude.{◌≡◌, ℕ, ◌+◌, ◌-◌, ◌≤◌, ◌⊎◌, Bool, true, false, ◌&&◌, nat_le, List, [], ◌∷◌, ◌++◌, length, map, cond, Contains}
use Rattle.std.proofs.Common.{refl, sym, ap, subst, ◌∙◌, arith, inl, inr}
use Rattle.std.specs.Cmp.{IsTotalOrder}
use Rattle.std.specs.FinMap.{IsAntisymmetric, nat_cmp-IsAntisymmetric, slice_cmp-IsAntisymmetric}
use Rattle.std.specs.Ordering.{is_gt, ordering_then, ordering_reverse}
use Rattle.std.specs.declared.cmp.Ordering.{Ordering}
use Rattle.std.specs.declared.cmp.Ordering.TheVariants.{Less, Equal, Greater}
use Rattle.std.proofs.lemmas.Bool.{and_parts}
use Rattle.std.proofs.lemmas.Bool.Decides.{nat_tests}
use Rattle.std.proofs.lemmas.Option.{same_Some}
use Rattle.std.proofs.lemmas.Cmp.{then_total, on_total, nat_cmp_total, lists_total}
use Rattle.pv_lines.specs.declared.line.Line.{Line}
use Rattle.pv_glob.specs.Words.{IsFirst, rank, shared_cmp, word_cmp}
use Rattle.pv_overlap.specs.declared.pair.Pair.{Pair}
use Rattle.pv_overlap.specs.Answers.{ComesBefore}
use Rattle.pv_path.specs.Paths.{Path}
use Rattle.pv_overlap.specs.declared.listing.Report.{Report}
use Rattle.pv_overlap.specs.declared.listing.Unrepeatable.{Unrepeatable}
use Rattle.pv_overlap.specs.Reporting.{both_reach, ListsOverlaps, ListsReasons}
use Rattle.pv_overlap.specs.GivenMessages.{overlap_text, report_messages, unrepeatable_text, verdict}
use Rattle.pv_overlap.proofs.ReportLaws.{one_list, one_report}

-- ---- the order of paths is total and exact

-- where the place of a byte is
abbrev PlaceIs : ℕ → ℕ → Type 0
PlaceIs b r = ((97 ≤ b) × (b ≤ 122) × (r ≡ b - 97)) ⊎ (((48 ≤ b) × (b ≤ 57) × (r ≡ b - 48 + 26)) ⊎ (((65 ≤ b) × (b ≤ 90) × (r ≡ b - 65 + 36)) ⊎ (r ≡ b + 62)))

rank_is : (b : ℕ) → PlaceIs b (rank b)
rank_is b = by (nat_le 97 b && nat_le b 122) refl (nat_le 48 b && nat_le b 57) refl (nat_le 65 b && nat_le b 90) refl
  where
    between : (l h : ℕ) → (nat_le l b && nat_le b h) ≡ true → (l ≤ b) × (b ≤ h)
    between l h e = let parts = and_parts (nat_le l b) (nat_le b h) e in (grind (arith, nat_tests, parts.0), grind (arith, nat_tests, parts.1))

    by : (x : Bool) → (nat_le 97 b && nat_le b 122) ≡ x → (y : Bool) → (nat_le 48 b && nat_le b 57) ≡ y → (z : Bool) → (nat_le 65 b && nat_le b 90) ≡ z
        → PlaceIs b (cond x (b - 97) (cond y (b - 48 + 26) (cond z (b - 65 + 36) (b + 62))))
    by true e y f z g = let found = between 97 122 e in inl (found.0, found.1, refl)
    by false e true f z g = let found = between 48 57 f in inr (inl (found.0, found.1, refl))
    by false e false f true g = let found = between 65 90 g in inr (inr (inl (found.0, found.1, refl)))
    by false e false f false g = inr (inr (inr refl))

places_exact : (a b r : ℕ) → PlaceIs a r → PlaceIs b r → a ≡ b
places_exact a b r (inl (la, ha, ea)) (inl (lb, hb, eb)) = omega (arith, la, ha, ea, lb, hb, eb)
places_exact a b r (inl (la, ha, ea)) (inr (inl (lb, hb, eb))) = omega (arith, la, ha, ea, lb, hb, eb)
places_exact a b r (inl (la, ha, ea)) (inr (inr (inl (lb, hb, eb)))) = omega (arith, la, ha, ea, lb, hb, eb)
places_exact a b r (inl (la, ha, ea)) (inr (inr (inr eb))) = omega (arith, la, ha, ea, eb)
places_exact a b r (inr (inl (la, ha, ea))) (inl (lb, hb, eb)) = omega (arith, la, ha, ea, lb, hb, eb)
places_exact a b r (inr (inl (la, ha, ea))) (inr (inl (lb, hb, eb))) = omega (arith, la, ha, ea, lb, hb, eb)
places_exact a b r (inr (inl (la, ha, ea))) (inr (inr (inl (lb, hb, eb)))) = omega (arith, la, ha, ea, lb, hb, eb)
places_exact a b r (inr (inl (la, ha, ea))) (inr (inr (inr eb))) = omega (arith, la, ha, ea, eb)
places_exact a b r (inr (inr (inl (la, ha, ea)))) (inl (lb, hb, eb)) = omega (arith, la, ha, ea, lb, hb, eb)
places_exact a b r (inr (inr (inl (la, ha, ea)))) (inr (inl (lb, hb, eb))) = omega (arith, la, ha, ea, lb, hb, eb)
places_exact a b r (inr (inr (inl (la, ha, ea)))) (inr (inr (inl (lb, hb, eb)))) = omega (arith, la, ha, ea, lb, hb, eb)
places_exact a b r (inr (inr (inl (la, ha, ea)))) (inr (inr (inr eb))) = omega (arith, la, ha, ea, eb)
places_exact a b r (inr (inr (inr ea))) (inl (lb, hb, eb)) = omega (arith, ea, lb, hb, eb)
places_exact a b r (inr (inr (inr ea))) (inr (inl (lb, hb, eb))) = omega (arith, ea, lb, hb, eb)
places_exact a b r (inr (inr (inr ea))) (inr (inr (inl (lb, hb, eb)))) = omega (arith, ea, lb, hb, eb)
places_exact a b r (inr (inr (inr ea))) (inr (inr (inr eb))) = omega (arith, ea, eb)

rank_exact : (a b : ℕ) → rank a ≡ rank b → a ≡ b
rank_exact a b e = places_exact a b (rank b) (subst (PlaceIs a) e (rank_is a)) (rank_is b)

ranks_exact : (a b : List ℕ) → map rank a ≡ map rank b → a ≡ b
ranks_exact [] [] e = refl
ranks_exact [] (y ∷ b) e = cc
ranks_exact (x ∷ a) [] e = cc
ranks_exact (x ∷ a) (y ∷ b) e =
    let first : rank x ≡ rank y = cc in
    let rest : map rank a ≡ map rank b = cc in
    ap (λ (z : ℕ). z ∷ a) (rank_exact x y first) ∙ ap (λ (zs : List ℕ). y ∷ zs) (ranks_exact a b rest)

then_second : (o s : Ordering) → ordering_then o s ≡ Equal → s ≡ Equal
then_second Less s e = cc
then_second Equal s e = e
then_second Greater s e = cc

word_exact : IsAntisymmetric word_cmp
word_exact a b e = ranks_exact a b (slice_cmp-IsAntisymmetric nat_cmp-IsAntisymmetric (map rank a) (map rank b) (then_second _ _ e))

shared_exact : IsAntisymmetric shared_cmp
shared_exact p q e = slice_cmp-IsAntisymmetric word_exact p q (then_second _ _ e)

shared_total : IsTotalOrder shared_cmp
shared_total = then_total (on_total length nat_cmp_total) (lists_total (on_total (map rank) (then_total (on_total length nat_cmp_total) (lists_total nat_cmp_total))))

neither_greater : (o : Ordering) → is_gt o ≡ false → is_gt (ordering_reverse o) ≡ false → o ≡ Equal
neither_greater Less e f = cc
neither_greater Equal e f = refl
neither_greater Greater e f = cc

-- there is one first path
one_first : (test : Path → Bool) (p q : Path) → IsFirst shared_cmp test p → IsFirst shared_cmp test q → p ≡ q
one_first test p q a b =
    shared_exact p q (neither_greater (shared_cmp p q) (a.least q b.passes) (ap is_gt (sym (shared_total.antisymm q p)) ∙ b.least p a.passes))

-- ---- one list

never_both : (p q : Pair) → ComesBefore p q → ComesBefore q p → ⊥
never_both p q (inl l) (inl m) = omega (arith, l, m)
never_both p q (inl l) (inr (e, m)) = omega (arith, l, e)
never_both p q (inr (e, l)) (inl m) = omega (arith, m, e)
never_both p q (inr (e, l)) (inr (f, m)) = omega (arith, l, m)

module _ (lines : List Line) (xs ys : List Pair) (a : ListsOverlaps lines xs) (b : ListsOverlaps lines ys) where
  -- a pair of the one list is in the other
  pair_there : (pair : Pair) → Contains xs pair → Contains ys pair
  pair_there pair c =
      let shared = a.each pair c in
      let found = b.all pair.first pair.second shared.overlap in
      let other : Pair = record { first = pair.first; second = pair.second; path = found.0 } in
      let again = b.each other found.1 in
      let one : again.overlap.first ≡ shared.overlap.first = same_Some again.overlap.first shared.overlap.first (sym again.overlap.is_first ∙ shared.overlap.is_first) in
      let two : again.overlap.second ≡ shared.overlap.second = same_Some again.overlap.second shared.overlap.second (sym again.overlap.is_second ∙ shared.overlap.is_second) in
      let first = subst (λ (l : Line). IsFirst shared_cmp (both_reach shared.overlap.first l) found.0) two (subst (λ (l : Line). IsFirst shared_cmp (both_reach l again.overlap.second) found.0) one again.path) in
      let same : found.0 ≡ pair.path = one_first (both_reach shared.overlap.first shared.overlap.second) found.0 pair.path first shared.path in
      subst (λ (path : Path). Contains ys (record { first = pair.first; second = pair.second; path = path })) same found.1

-- two lists of the lines that share a path are one
pub one_overlaps : (lines : List Line) (xs ys : List Pair) → ListsOverlaps lines xs → ListsOverlaps lines ys → xs ≡ ys
one_overlaps lines xs ys a b = one_list ComesBefore never_both xs ys a.ordered b.ordered (pair_there lines xs ys a b) (pair_there lines ys xs b a)

-- two reports on the same lines say the same
pub one_message_said : (lines : List Line) (a b : Report) → ListsOverlaps lines a.pairs → ListsReasons lines a.unrepeatable → ListsOverlaps lines b.pairs → ListsReasons lines b.unrepeatable
    → report_messages lines a ≡ report_messages lines b
one_message_said lines a b a_pairs a_reasons b_pairs b_reasons =
    ap (λ (ps : List Pair). map (overlap_text lines) ps ++ map (unrepeatable_text lines) a.unrepeatable ++ verdict a.unrepeatable ∷ []) (one_overlaps lines a.pairs b.pairs a_pairs b_pairs)
    ∙ ap (λ (us : List Unrepeatable). map (overlap_text lines) b.pairs ++ map (unrepeatable_text lines) us ++ verdict us ∷ []) (one_report lines a.unrepeatable b.unrepeatable a_reasons b_reasons)
