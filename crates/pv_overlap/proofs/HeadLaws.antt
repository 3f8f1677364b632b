-- The head of a pattern begins each path that it reaches, so patterns that share a path have related heads.
use Rattle.std.proofs.Common.{◌≡◌, ℕ, suc, ◌<◌, ◌≤◌, inl, inr, Bool, true, false, ◌&&◌, ◌||◌, List, [], ◌∷◌, length, get_or, Option, Some, None, refl, ap, ◌∙◌, arith, if◌then◌else◌}
use Rattle.std.specs.Option.{option_map_or}
use Rattle.std.proofs.lemmas.Bool.{and_parts, or_cases}
use Rattle.std.proofs.Math.Bool.{or-true}
use Rattle.pv_path.specs.Names.{is_name, same_bytes}
use Rattle.pv_path.specs.Paths.{Path, has_names, is_prefix}
use Rattle.pv_path.proofs.PathLaws.{is_prefix-refl, is_prefix-trans, prefixes_compare, same_bytes-refl}
use Rattle.pv_glob.specs.declared.element.Element.{Element}
use Rattle.pv_glob.specs.Matching.{component_matches}
use Rattle.pv_glob.specs.Meeting.{are_met, in_reach, reached as reaches}
use Rattle.pv_glob.proofs.Reaches.{reached}
use Rattle.pv_glob.specs.Written.{written}
use Rattle.pv_glob.proofs.OneName.{written_alone}
use Rattle.pv_overlap.specs.Heads.{common, common_with, head_of, head_of_all, related}

abbrev Never : Type 0
Never = ◌≡◌ {A = Bool} false true

-- the head begins a path whose names the components match
head_begins : (components : List (List Element)) (path : Path) → length components ≤ length path
    → ((k : ℕ) → k < length components → component_matches (get_or components k []) (get_or path k []) ≡ true) → is_prefix (head_of components) path ≡ true
head_begins [] path l at = refl
head_begins (component ∷ components) [] l at = absurd (omega arith)
head_begins (component ∷ components) (name ∷ path) l at = by (written component) refl (head_begins components path (omega arith) (λ k less. at (suc k) (omega arith)))
  where
    by_name : (bytes : List ℕ) (t : Bool) → bytes ≡ name → is_prefix (head_of components) path ≡ true → is_prefix (if t then bytes ∷ head_of components else []) (name ∷ path) ≡ true
    by_name bytes true same on = ap (λ x. same_bytes x name && is_prefix (head_of components) path) same ∙ ap (λ t. t && is_prefix (head_of components) path) (same_bytes-refl name) ∙ on
    by_name bytes false same on = refl

    by : (o : Option (List ℕ)) → written component ≡ o → is_prefix (head_of components) path ≡ true → is_prefix (option_map_or (λ x. if is_name x then x ∷ head_of components else []) o []) (name ∷ path) ≡ true
    by None is on = refl
    by (Some bytes) is on = by_name bytes (is_name bytes) (written_alone component bytes name true is (at 0 (omega arith))) on

reached_head : (components : List (List Element)) (below : Bool) (path : Path) → in_reach components below path ≡ true → is_prefix (head_of components) path ≡ true
reached_head components below path e =
    let r = reached components below path e in
    head_begins components path (elim r.long [ inl same ↦ omega (arith, same) | inr less ↦ (let l = less.1 in omega arith) ]) r.names

-- what two paths have in common begins both
common_left : (p q : Path) → is_prefix (common p q) p ≡ true
common_left [] q = refl
common_left (name ∷ p) [] = refl
common_left (name ∷ p) (other ∷ q) = by (same_bytes name other) (common_left p q)
  where
    by : (t : Bool) → is_prefix (common p q) p ≡ true → is_prefix (if t then name ∷ common p q else []) (name ∷ p) ≡ true
    by true on = ap (λ t. t && is_prefix (common p q) p) (same_bytes-refl name) ∙ on
    by false on = refl

common_right : (p q : Path) → is_prefix (common p q) q ≡ true
common_right [] q = refl
common_right (name ∷ p) [] = refl
common_right (name ∷ p) (other ∷ q) = by (same_bytes name other) refl (common_right p q)
  where
    by : (t : Bool) → same_bytes name other ≡ t → is_prefix (common p q) q ≡ true → is_prefix (if t then name ∷ common p q else []) (other ∷ q) ≡ true
    by true e on = ap (λ t. t && is_prefix (common p q) q) e ∙ on
    by false e on = refl

common_begins : (path : Path) (plains : List (List (List Element))) → is_prefix (common_with path plains) path ≡ true
common_begins path [] = is_prefix-refl path
common_begins path (plain ∷ plains) =
    let shorter = common path (head_of plain) in
    is_prefix-trans (common_with shorter plains) shorter path (common_begins shorter plains) (common_left path (head_of plain))

module _ (below : Bool) (path : Path) where
  -- what the head and those of expansions have in common begins each path that one of them reaches
  common_reached : (head : Path) (plains : List (List (List Element))) → reaches plains below path ≡ true → is_prefix (common_with head plains) path ≡ true
  common_reached head [] e = absurd (let differ : Never = e in cc)
  common_reached head (plain ∷ plains) e =
      let shorter = common head (head_of plain) in
      elim (or_cases (in_reach plain below path) (reaches plains below path) e) [
        | inl f ↦ is_prefix-trans (common_with shorter plains) shorter path (common_begins shorter plains)
            (is_prefix-trans shorter (head_of plain) path (common_right head (head_of plain)) (reached_head plain below path f))
        | inr f ↦ common_reached shorter plains f
      ]

  all_reached : (plains : List (List (List Element))) → reaches plains below path ≡ true → is_prefix (head_of_all plains) path ≡ true
  all_reached [] e = refl
  all_reached (plain ∷ plains) e = elim (or_cases (in_reach plain below path) (reaches plains below path) e) [
    | inl f ↦ is_prefix-trans (common_with (head_of plain) plains) (head_of plain) path (common_begins (head_of plain) plains) (reached_head plain below path f)
    | inr f ↦ common_reached (head_of plain) plains f
  ]

pub met_heads : (a : List (List (List Element))) (a_below : Bool) (b : List (List (List Element))) (b_below : Bool) (path : Path) → are_met a a_below b b_below path ≡ true → related (head_of_all a) (head_of_all b) ≡ true
met_heads a a_below b b_below path e =
    let w = and_parts (has_names path && reaches a a_below path) (reaches b b_below path) e in
    let v = and_parts (has_names path) (reaches a a_below path) w.0 in
    elim (prefixes_compare (head_of_all a) (head_of_all b) path (all_reached a_below path a v.1) (all_reached b_below path b w.1)) [
      | inl p ↦ ap (λ t. t || is_prefix (head_of_all b) (head_of_all a)) p
      | inr p ↦ ap (λ t. is_prefix (head_of_all a) (head_of_all b) || t) p ∙ or-true (is_prefix (head_of_all a) (head_of_all b))
    ]
