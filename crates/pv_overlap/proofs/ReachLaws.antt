-- What a line reaches is its reach, except for staging names below; and a path that two lines reach can be cut to one without.
use Rattle.std.proofs.Common.{◌≡◌, ℕ, zero, suc, ◌+◌, ◌<◌, ◌≤◌, max, ◌⊎◌, inl, inr, Bool, true, false, not, ◌&&◌, ◌||◌, nat_lt, List, [], ◌∷◌, ◌++◌, length, take, drop, map, get_or, refl, sym, ap, ◌∙◌, subst, arith}
use Rattle.std.specs.List.{list_all, list_any, range_with_len}
use Rattle.std.specs.Ordering.{nat_cmp, is_gt, on, ordering_then}
use Rattle.std.specs.Cmp.{IsTotalOrder, nat_cmp_total}
use Rattle.std.specs.Cmp.Lexicographic.{lists_total, slice_cmp}
use Rattle.std.specs.declared.cmp.Ordering.{Ordering}
use Rattle.std.proofs.Math.Seq.{take-append_seam}
use Rattle.std.proofs.lemmas.Bool.{cases_lt, and_parts, or_cases, or_left, or_right, and_from}
use Rattle.std.proofs.lemmas.Bool.Decides.{nat_tests}
use Rattle.std.proofs.lemmas.Cmp.{then_total, on_total, upto, ranked, by_ranked, tied_itself}
use Rattle.std.proofs.lemmas.List.{length-map, length-take-le, take-append-drop, take-take, take_all}
use Rattle.std.proofs.lemmas.List.FromFn.{get_or-range_with_len, length-range_with_len}
use Rattle.std.proofs.Math.Bool.{or-true}
use Rattle.pv_path.specs.Names.{is_name}
use Rattle.pv_path.specs.Paths.{Path, has_names, has_staging, is_prefix, same_path-decides}
use Rattle.pv_path.proofs.PathLaws.{is_prefix-append, prefix_parts, same_path-refl}
use Rattle.pv_glob.specs.declared.element.Element.{Element}
use Rattle.pv_glob.specs.declared.element.Element.TheVariants.{Byte}
use Rattle.pv_glob.specs.Matching.{literal_of, matches, some_matches}
use Rattle.pv_glob.proofs.MatchingLaws.{literal_alone, matches-length, matches-no_staging}
use Rattle.pv_lines.specs.declared.line.Line.{Line}
use Rattle.pv_lines.specs.declared.line.LinePath.{LinePath}
use Rattle.pv_lines.specs.declared.line.LinePath.TheVariants.{Literal, Glob}
use Rattle.pv_glob.specs.declared.meeting.Reach.{Reach}
use Rattle.pv_glob.specs.Meeting.{in_reach, is_met, reached}
use Rattle.pv_glob.specs.Words.{IsFirst, rank, shared_cmp, word_cmp}
use Rattle.pv_glob.proofs.Shortlex.{shortlex_total}
use Rattle.pv_table.specs.Reaching.{names, names_above, names_in, reaches, reaches_below}
use Rattle.pv_overlap.specs.Reporting.{both_reach}
use Rattle.pv_overlap.specs.Subjects.{meets, plains_of, reach_of, reach_under}

abbrev Never : Type 0
Never = ◌≡◌ {A = Bool} false true

abbrev Plain : Type 0
Plain = List (List Element)

-- ---- tests of lists

module _ {X : Type 0} (p : X → Bool) (d : X) where
  abbrev Passes : List X → Type 0
  Passes xs = (k : ℕ) × (k < length xs) × (p (get_or xs k d) ≡ true)

  pub any_at : (xs : List X) → list_any p xs ≡ true → Passes xs
  any_at [] e = absurd (let differ : Never = e in cc)
  any_at (x ∷ xs) e = by (p x) refl (any_at xs)
    where
      by : (t : Bool) → p x ≡ t → (list_any p xs ≡ true → Passes xs) → Passes (x ∷ xs)
      by true f on = (zero, omega arith, f)
      by false f on = let rest = on (ap (λ (t : Bool). t || list_any p xs) (sym f) ∙ e) in let l = rest.1 in (suc rest.0, omega (arith, l), rest.2)

  pub any_from : (xs : List X) (k : ℕ) → k < length xs → p (get_or xs k d) ≡ true → list_any p xs ≡ true
  any_from [] k l e = absurd (omega (arith, l))
  any_from (x ∷ xs) zero l e = ap (λ (t : Bool). t || list_any p xs) e
  any_from (x ∷ xs) (suc k) l e = ap (λ (t : Bool). p x || t) (any_from xs k (omega (arith, l)) e) ∙ or-true (p x)

  pub all_take : (n : ℕ) (xs : List X) → list_all p xs ≡ true → list_all p (take n xs) ≡ true
  all_take zero xs e = refl
  all_take (suc n) [] e = refl
  all_take (suc n) (x ∷ xs) e =
      let both = and_parts (p x) (list_all p xs) e in
      ap (λ (t : Bool). t && list_all p (take n xs)) both.0 ∙ all_take n xs both.1

-- ---- one expansion

-- an expansion matches the first names of a path, and they are all, or what lies below is reached
pub record Names (plain : Plain) (below : Bool) (q : Path) : Type 0 where
  pub matched : matches plain (take (length plain) q) ≡ true
  pub long : (length plain ≡ length q) ⊎ ((below ≡ true) × (length plain < length q))

pub names_short : (plain : Plain) (below : Bool) (q : Path) → Names plain below q → length plain ≤ length q
names_short plain below q n = elim n.long [ inl same ↦ omega (arith, same) | inr less ↦ (let l = less.1 in omega (arith, l)) ]

-- a path that is matched whole
pub named : (plain : Plain) (below : Bool) (q : Path) → matches plain q ≡ true → Names plain below q
named plain below q e =
    let same = matches-length plain q e in
    record { matched = subst (λ (p : Path). matches plain p ≡ true) (sym (take_all (length plain) q (omega (arith, same)))) e; long = inl same }

-- a path whose first names are matched
pub named_above : (plain : Plain) (q : Path) (i : ℕ) → i < length q → matches plain (take i q) ≡ true → Names plain true q
named_above plain q i l e =
    let long : length (take i q) ≡ i = length-take-le i q (omega (arith, l)) in
    let same : length plain ≡ i = matches-length plain (take i q) e ∙ long in
    record { matched = subst (λ (k : ℕ). matches plain (take k q) ≡ true) (sym same) e; long = inr (refl, omega (arith, same, l)) }

-- a reach of one expansion, part by part
abbrev lies_below : Plain → Bool → Path → Bool
lies_below plain below q = below && nat_lt (length plain) (length q) && matches plain (take (length plain) q)

pub in_reach-names : (plain : Plain) (below : Bool) (q : Path) → in_reach plain below q ≡ true → Names plain below q
in_reach-names plain below q e = by (or_cases (matches plain q) (lies_below plain below q) (and_parts (not (has_staging q)) (matches plain q || lies_below plain below q) e).1)
  where
    by : (matches plain q ≡ true) ⊎ (lies_below plain below q ≡ true) → Names plain below q
    by (inl whole) = named plain below q whole
    by (inr part) =
        let w = and_parts (below && nat_lt (length plain) (length q)) (matches plain (take (length plain) q)) part in
        let v = and_parts below (nat_lt (length plain) (length q)) w.0 in
        let v1 = v.1 in
        let less : length plain < length q = grind (arith, nat_tests) in
        record { matched = w.1; long = inr (v.0, less) }

names-in_reach : (plain : Plain) (below : Bool) (q : Path) → has_staging q ≡ false → Names plain below q → in_reach plain below q ≡ true
names-in_reach plain below q clear n = and_from (not (has_staging q)) (matches plain q || lies_below plain below q) (ap not clear) (by n.long)
  where
    by : (length plain ≡ length q) ⊎ ((below ≡ true) × (length plain < length q)) → (matches plain q || lies_below plain below q) ≡ true
    by (inl same) = or_left (matches plain q) (lies_below plain below q) (subst (λ (p : Path). matches plain p ≡ true) (take_all (length plain) q (omega (arith, same))) n.matched)
    by (inr less) =
        let l = less.1 in
        let test : nat_lt (length plain) (length q) ≡ true = grind (arith, nat_tests) in
        or_right (matches plain q) (lies_below plain below q) (and_from (below && nat_lt (length plain) (length q)) (matches plain (take (length plain) q)) (and_from below (nat_lt (length plain) (length q)) less.0 test) n.matched)

-- ---- a path cut to the names that two expansions speak of

module _ (a b : Plain) (a_below b_below : Bool) (q : Path) (fit : has_names q ≡ true) (x : Names a a_below q) (y : Names b b_below q) where
  abbrev most : ℕ
  most = max (length a) (length b)

  abbrev cut : Path
  cut = take most q

  inside : most ≤ length q
  inside = let s = names_short a a_below q x in let t = names_short b b_below q y in omega (arith, s, t)

  pub cut_length : length cut ≡ most
  cut_length = length-take-le most q inside

  clear : has_staging cut ≡ false
  clear = elim (cases_lt (length a) (length b)) [
    | inl less ↦ (let same : length b ≡ most = omega (arith, less) in matches-no_staging b cut (subst (λ (k : ℕ). matches b (take k q) ≡ true) same y.matched))
    | inr more ↦ (let same : length a ≡ most = omega (arith, more) in matches-no_staging a cut (subst (λ (k : ℕ). matches a (take k q) ≡ true) same x.matched))
  ]

  kept : (plain : Plain) (below : Bool) → length plain ≤ most → Names plain below q → Names plain below cut
  kept plain below l n = record {
    matched = subst (λ (p : Path). matches plain p ≡ true) (sym (take-take (length plain) most q l)) n.matched;
    long = elim (cases_lt (length plain) most) [
      | inl less ↦ (let far = inside in elim n.long [
        | inl same ↦ absurd (omega (arith, less, same, far))
        | inr under ↦ inr (under.0, (let c = cut_length in omega (arith, less, c)))
      ])
      | inr more ↦ inl (let c = cut_length in omega (arith, more, l, c))
    ];
  }

  pub cut_met : is_met a a_below b b_below cut ≡ true
  cut_met =
      and_from (has_names cut && in_reach a a_below cut) (in_reach b b_below cut)
      (and_from (has_names cut) (in_reach a a_below cut) (all_take is_name [] most q fit) (names-in_reach a a_below cut clear (kept a a_below (omega arith) x)))
      (names-in_reach b b_below cut clear (kept b b_below (omega arith) y))

-- ---- all expansions

-- some expansion names a path
abbrev pub Named : List Plain → Bool → Path → Type 0
Named plains below q = (k : ℕ) × (k < length plains) × Names (get_or plains k []) below q

pub reached-named : (plains : List Plain) (below : Bool) (q : Path) → reached plains below q ≡ true → Named plains below q
reached-named plains below q e =
    let found = any_at (λ plain. in_reach plain below q) [] plains e in
    (found.0, found.1, in_reach-names (get_or plains found.0 []) below q found.2)

shared_total : IsTotalOrder shared_cmp
shared_total = then_total (on_total length nat_cmp_total) (lists_total (on_total (map rank) shortlex_total))

-- a path with fewer names comes first
fewer_first : (p q : Path) → length p < length q → is_gt (shared_cmp p q) ≡ false
fewer_first p q less =
    by_ranked (length p < length q) (length p ≡ length q) (length q < length p) (nat_cmp (length p) (length q)) (ranked (length p) (length q) (nat_cmp (length p) (length q)) refl)
    (λ e _. ap (λ (o : Ordering). is_gt (ordering_then o (slice_cmp word_cmp p q))) e) (λ e same. absurd (omega (arith, less, same))) (λ e more. absurd (omega (arith, less, more)))

-- a path that is in two reaches, and does not come after another
abbrev pub MetBefore : Reach → Reach → Path → Type 0
MetBefore a b q = (p : Path) × (meets a b p ≡ true) × (is_gt (shared_cmp p q) ≡ false)

pub named_met : (a b : Reach) (q : Path) → has_names q ≡ true → Named a.pattern a.below q → Named b.pattern b.below q → MetBefore a b q
named_met a b q fit x y =
    let u = get_or a.pattern x.0 [] in
    let v = get_or b.pattern y.0 [] in
    let p = take (max (length u) (length v)) q in
    let met = cut_met u v a.below b.below q fit x.2 y.2 in
    let w = and_parts (has_names p && in_reach u a.below p) (in_reach v b.below p) met in
    let z = and_parts (has_names p) (in_reach u a.below p) w.0 in
    let long : length p ≡ max (length u) (length v) = cut_length u v a.below b.below q fit x.2 y.2 in
    let s = names_short u a.below q x.2 in
    let t = names_short v b.below q y.2 in (
      p,
      and_from (has_names p && reached a.pattern a.below p) (reached b.pattern b.below p)
          (and_from (has_names p) (reached a.pattern a.below p) z.0 (any_from (λ plain. in_reach plain a.below p) [] a.pattern x.0 x.1 z.1))
          (any_from (λ plain. in_reach plain b.below p) [] b.pattern y.0 y.1 w.1),
      (elim (cases_lt (length p) (length q)) [
        | inl less ↦ fewer_first p q less
        | inr more ↦ (let whole : p ≡ q = take_all (max (length u) (length v)) q (omega (arith, more, long)) in subst (λ (r : Path). is_gt (shared_cmp r q) ≡ false) (sym whole) (ap is_gt (tied_itself shared_total q)))
      ]),
    )

-- ---- lines

-- a line that names one path names none with a staging name
abbrev pub IsUnstaged : LinePath → Type 0
IsUnstaged (Literal path) = has_staging path ≡ false
IsUnstaged (Glob pattern) = Unit {0}

or_none : (a : Bool) → a ≡ (a || false)
or_none true = refl
or_none false = refl

names_in_some : (path : LinePath) → IsUnstaged path → (q : Path) → names_in path q ≡ some_matches (plains_of path) q
names_in_some (Literal path) clear q = sym (literal_alone path q clear) ∙ or_none (matches (literal_of path) q)
names_in_some (Glob pattern) _ q = refl

module _ (line : Line) (clear : IsUnstaged line.path) where
  pub reaches-named : (q : Path) → reaches line q ≡ true → Named (plains_of line.path) (reaches_below line) q
  reaches-named q e = by (or_cases (names line q) (reaches_below line && names_above line q) e)
    where
      by : (names line q ≡ true) ⊎ ((reaches_below line && names_above line q) ≡ true) → Named (plains_of line.path) (reaches_below line) q
      by (inl own) =
          let found = any_at (λ plain. matches plain q) [] (plains_of line.path) (sym (names_in_some line.path clear q) ∙ own) in
          (found.0, found.1, named (get_or (plains_of line.path) found.0 []) (reaches_below line) q found.2)
      by (inr above) =
          let w = and_parts (reaches_below line) (names_above line q) above in
          let i = any_at (λ k. names line (take k q)) 0 (range_with_len 0 (length q)) w.1 in
          let i1 = i.1 in
          let counted = length-range_with_len 0 (length q) in
          let less : i.0 < length q = omega (arith, i1, counted) in
          let from_zero : 0 + i.0 ≡ i.0 = omega arith in
          let at : get_or (range_with_len 0 (length q)) i.0 0 ≡ i.0 = get_or-range_with_len 0 (length q) i.0 0 less ∙ from_zero in
          let own : names line (take i.0 q) ≡ true = subst (λ (k : ℕ). names line (take k q) ≡ true) at i.2 in
          let found = any_at (λ plain. matches plain (take i.0 q)) [] (plains_of line.path) (sym (names_in_some line.path clear (take i.0 q)) ∙ own) in
          (found.0, found.1, subst (λ (t : Bool). Names (get_or (plains_of line.path) found.0 []) t q) (sym w.0) (named_above (get_or (plains_of line.path) found.0 []) q i.0 less found.2))

  pub named-reaches : (q : Path) → Named (plains_of line.path) (reaches_below line) q → reaches line q ≡ true
  named-reaches q found = by found.2.long
    where
      plain : Plain
      plain = get_or (plains_of line.path) found.0 []

      own : names line (take (length plain) q) ≡ true
      own = names_in_some line.path clear (take (length plain) q) ∙ any_from (λ x. matches x (take (length plain) q)) [] (plains_of line.path) found.0 found.1 found.2.matched

      by : (length plain ≡ length q) ⊎ ((reaches_below line ≡ true) × (length plain < length q)) → reaches line q ≡ true
      by (inl same) = or_left (names line q) (reaches_below line && names_above line q) (subst (λ (p : Path). names line p ≡ true) (take_all (length plain) q (omega (arith, same))) own)
      by (inr less) =
          let l = less.1 in
          let counted = length-range_with_len 0 (length q) in
          let from_zero : 0 + length plain ≡ length plain = omega arith in
          let at : get_or (range_with_len 0 (length q)) (length plain) 0 ≡ length plain = get_or-range_with_len 0 (length q) (length plain) 0 l ∙ from_zero in
          or_right (names line q) (reaches_below line && names_above line q)
          (and_from (reaches_below line) (names_above line q) less.0
          (any_from (λ k. names line (take k q)) 0 (range_with_len 0 (length q)) (length plain) (omega (arith, l, counted)) (subst (λ (k : ℕ). names line (take k q) ≡ true) (sym at) own)))

-- ---- two lines

meets_parts : (a b : Reach) (q : Path) → meets a b q ≡ true → (has_names q ≡ true) × (reached a.pattern a.below q ≡ true) × (reached b.pattern b.below q ≡ true)
meets_parts a b q e =
    let w = and_parts (has_names q && reached a.pattern a.below q) (reached b.pattern b.below q) e in
    let v = and_parts (has_names q) (reached a.pattern a.below q) w.0 in
    (v.0, v.1, w.1)

module _ (a b : Line) (a_clear : IsUnstaged a.path) (b_clear : IsUnstaged b.path) where
  pub both_parts : (q : Path) → both_reach a b q ≡ true → (has_names q ≡ true) × (reaches a q ≡ true) × (reaches b q ≡ true)
  both_parts q e =
      let w = and_parts (has_names q && reaches a q) (reaches b q) e in
      let v = and_parts (has_names q) (reaches a q) w.0 in
      (v.0, v.1, w.1)

  pub both_from : (q : Path) → has_names q ≡ true → reaches a q ≡ true → reaches b q ≡ true → both_reach a b q ≡ true
  both_from q e f g = and_from (has_names q && reaches a q) (reaches b q) (and_from (has_names q) (reaches a q) e f) g

  met_both : (q : Path) → meets (reach_of a) (reach_of b) q ≡ true → both_reach a b q ≡ true
  met_both q e =
      let w = meets_parts (reach_of a) (reach_of b) q e in
      both_from q w.0 (named-reaches a a_clear q (reached-named (plains_of a.path) (reaches_below a) q w.1)) (named-reaches b b_clear q (reached-named (plains_of b.path) (reaches_below b) q w.2))

  pub both_met : (q : Path) → both_reach a b q ≡ true → MetBefore (reach_of a) (reach_of b) q
  both_met q e =
      let w = both_parts q e in
      named_met (reach_of a) (reach_of b) q w.0 (reaches-named a a_clear q w.1) (reaches-named b b_clear q w.2)

  -- the first path of both reaches is the first that both lines reach
  pub first_both : (path : Path) → IsFirst shared_cmp (meets (reach_of a) (reach_of b)) path → IsFirst shared_cmp (both_reach a b) path
  first_both path first = record {
    passes = met_both path first.passes;
    least = λ other e. (let p = both_met other e in upto shared_total path p.0 other (first.least p.0 p.1) p.2);
  }

-- ---- a line and a path with all below it

module _ (line : Line) (clear : IsUnstaged line.path) (path : Path) (unstaged : has_staging path ≡ false) where
  length-literal : length (literal_of path) ≡ length path
  length-literal = length-map path (map (λ b. Byte b))

  pub under_names : (q : Path) → is_prefix path q ≡ true → Names (literal_of path) true q
  under_names q above =
      let parts = prefix_parts path q above in
      let same : take (length path) q ≡ path = subst (λ (r : Path). take (length path) r ≡ path) (sym parts.1) (take-append_seam path parts.0) in
      let long = length-literal in
      let own : matches (literal_of path) path ≡ true = literal_alone path path unstaged ∙ same_path-refl path in
      let short : length path ≤ length q = omega (arith, take_short same) in
      record {
        matched = subst (λ (k : ℕ). matches (literal_of path) (take k q) ≡ true) (sym long) (subst (λ (r : Path). matches (literal_of path) r ≡ true) (sym same) own);
        long = elim (cases_lt (length path) (length q)) [ inl less ↦ inr (refl, omega (arith, less, long)) | inr more ↦ inl (omega (arith, more, short, long)) ];
      }
    where
      length_append : (p r : Path) → length p ≤ length (p ++ r)
      length_append [] r = omega arith
      length_append (n ∷ p) r = let on = length_append p r in omega (arith, on)

      take_short : take (length path) q ≡ path → length path ≤ length q
      take_short same =
          let parts = prefix_parts path q above in
          let long = length_append path parts.0 in
          let whole : length q ≡ length (path ++ parts.0) = ap length parts.1 in
          omega (arith, long, whole)

  pub under_met : (q : Path) → has_names q ≡ true → reaches line q ≡ true → is_prefix path q ≡ true → MetBefore (reach_of line) (reach_under path) q
  under_met q fit reach above = named_met (reach_of line) (reach_under path) q fit (reaches-named line clear q reach) (zero, omega arith, under_names q above)

  pub met_under : (q : Path) → meets (reach_of line) (reach_under path) q ≡ true → (has_names q ≡ true) × (reaches line q ≡ true) × (is_prefix path q ≡ true)
  met_under q e =
      let w = meets_parts (reach_of line) (reach_under path) q e in
      (w.0, named-reaches line clear q (reached-named (plains_of line.path) (reaches_below line) q w.1), by (any_at (λ plain. in_reach plain true q) [] (literal_of path ∷ []) w.2))
    where
      by : Passes (λ plain. in_reach plain true q) [] (literal_of path ∷ []) → is_prefix path q ≡ true
      by (zero, l, passes) =
          let n = in_reach-names (literal_of path) true q passes in
          let same : path ≡ take (length (literal_of path)) q = (same_path-decides path (take (length (literal_of path)) q)).0 (sym (literal_alone path (take (length (literal_of path)) q) unstaged) ∙ n.matched) in
          subst (λ (r : Path). is_prefix path r ≡ true) (take-append-drop (length (literal_of path)) q) (subst (λ (r : Path). is_prefix path (r ++ drop (length (literal_of path)) q) ≡ true) same (is_prefix-append path (drop (length (literal_of path)) q)))
      by (suc k, l, passes) = absurd (omega (arith, l))
