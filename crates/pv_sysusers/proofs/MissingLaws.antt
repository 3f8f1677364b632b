-- Needed groups without an entry, one after another.
use Rattle.std.proofs.Common.{◌≡◌, ℕ, ◌+◌, ◌<◌, Bool, ◌||◌, true, false, List, [], ◌∷◌, ◌++◌, drop, get_or, length, map, Bor, add-one, refl, sym, ap, ◌∙◌}
use Rattle.std.specs.List.{list_any}
use Rattle.std.specs.Str.{bytes_eq}
use Rattle.std.proofs.Math.Seq.{drop-cons}
use Rattle.std.proofs.lemmas.List.{map-append}
use Rattle.std.proofs.lemmas.List.Folds.{list_any-append}
use Rattle.pv_sysusers.specs.Texts.{has_entry, is_known, without_entry}
use Rattle.pv_sysusers.specs.declared.needs.Need.{Need}
use Rattle.pv_accounts.proofs.Holding.{same_names}

-- one more name is known
pub known_more : (test : List (List ℕ) → Bool) (file : List ℕ) (names : List (List ℕ)) (name other : List ℕ) (new old : Bool) → new ≡ (bytes_eq name other || old) → old ≡ is_known test file names other
    → new ≡ is_known test file (names ++ name ∷ []) other
known_more test file names name other new old e is =
    e ∙ (λ i. same_names name other i || is i)
    ∙ by (bytes_eq other name) (has_entry test file other) (list_any (bytes_eq other) names)
    ∙ sym (ap (λ b. has_entry test file other || b) (list_any-append (bytes_eq other) names (name ∷ [])))
  where
    by : (a b c : Bool) → (a || (b || c)) ≡ (b || (c || (a || false)))
    by true true c = refl
    by true false true = refl
    by true false false = refl
    by false true c = refl
    by false false true = refl
    by false false false = refl

module _ (test : List (List ℕ) → Bool) (file : List ℕ) where
  next : (names : List (List ℕ)) (needs : List Need) (i : ℕ) (need : Need) → i < length needs → need ≡ get_or needs i need
      → without_entry test file names (drop i needs) ≡ without_entry test file names (need ∷ drop (i + 1) needs)
  next names needs i need below is =
      let e : drop i needs ≡ get_or needs i need ∷ drop (i + 1) needs = rw (drop-cons needs i need below, add-one i) refl in
      ap (without_entry test file names) e ∙ ap (λ (n : Need). without_entry test file names (n ∷ drop (i + 1) needs)) (sym is)

  pub missing_known : (whole names : List (List ℕ)) (needs : List Need) (i : ℕ) (need : Need) → i < length needs → need ≡ get_or needs i need → is_known test file names need.name ≡ true
      → without_entry test file names (drop i needs) ≡ whole → without_entry test file names (drop (i + 1) needs) ≡ whole
  missing_known whole names needs i need below is known way = sym (next names needs i need below is ∙ rw known refl) ∙ way

  pub missing_new : (whole : List (List ℕ)) (names names' : List (Bor (List ℕ))) (needs : List Need) (i : ℕ) (need : Need) (slice : Bor (List ℕ)) → i < length needs → need ≡ get_or needs i need
      → slice.now ≡ need.name → is_known test file (map (λ n. n.now) names) need.name ≡ false → names' ≡ names ++ slice ∷ []
      → without_entry test file (map (λ n. n.now) names) (drop i needs) ≡ whole → without_entry test file (map (λ n. n.now) names') (drop (i + 1) needs) ≡ whole
  missing_new whole names names' needs i need slice below is same unknown more way =
      let shown : map (λ n. n.now) names' ≡ map (λ n. n.now) names ++ need.name ∷ [] =
      ap (map (λ n. n.now)) more ∙ map-append (λ n. n.now) names (slice ∷ []) ∙ ap (λ (n : List ℕ). map (λ m. m.now) names ++ n ∷ []) same in
      ap (λ (ns : List (List ℕ)). without_entry test file ns (drop (i + 1) needs)) shown ∙ sym (next (map (λ n. n.now) names) needs i need below is ∙ rw unknown refl) ∙ way
