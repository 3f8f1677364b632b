-- What the answers of `names_under` say of prefixes.
use Rattle.std.proofs.Common.{◌≡◌, ℕ, ◌-◌, ◌≤◌, true, false, List, [], ◌∷◌, ◌++◌, length, take, get_or, Option, Some, None, is_some, Bor, refl, ap, sym, ◌∙◌, ◌⊎◌, inl, inr, arith, length-append}
use Rattle.std.proofs.Math.Seq.{take-append_seam}
use Rattle.std.specs.Option.{option_map}
use Rattle.pv_path.specs.Names.{staging_name}
use Rattle.pv_path.specs.Paths.{Path, is_prefix, rest_under, staging_of}
use Rattle.pv_path.proofs.PathLaws.{is_some-rest_under, path_ends, staging_of-push}

-- a path has a prefix exactly if a slice of names follows it
pub prefix_from_rest : (o : Option (Bor Path)) (p q : Path) → option_map (λ s. s.now) o ≡ rest_under p q → is_some o ≡ is_prefix p q
prefix_from_rest None p q e = ap is_some e ∙ is_some-rest_under p q
prefix_from_rest (Some s) p q e = ap is_some e ∙ is_some-rest_under p q

-- where a path has a prefix, a slice of names follows it
pub rest_of_prefix : (o : Option (Bor Path)) (p q : Path) → option_map (λ s. s.now) o ≡ rest_under p q → is_prefix p q ≡ true → o ≡ None → ⊥
rest_of_prefix o p q e is none =
    let yes = prefix_from_rest o p q e in
    let empty : is_some o ≡ false = ap is_some none in
    cc

get_or-append_next : (q : Path) (m d : List ℕ) → get_or (q ++ m ∷ []) (length q) d ≡ m
get_or-append_next [] m d = refl
get_or-append_next (n ∷ q) m d = get_or-append_next q m d

-- the parent, and then the staging name for the last name
pub staging_from_parts : (path names stage : Path) (name marked : List ℕ) (out : Path) → names ≡ path → 1 ≤ length names → name ≡ get_or names (length names - 1) name
    → stage ≡ take (length names - 1) names → marked ≡ staging_name name → out ≡ stage ++ marked ∷ [] → out ≡ staging_of path
staging_from_parts path names stage name marked out is long last front mark whole = by_end (path_ends path)
  where
    by_end : (path ≡ []) ⊎ ((q : Path) × (m : List ℕ) × (path ≡ q ++ m ∷ [])) → out ≡ staging_of path
    by_end (inl root) = absurd (let none : length names ≡ 0 = ap length (is ∙ root) in omega arith)
    by_end (inr w) =
        let seen : names ≡ w.0 ++ w.1 ∷ [] = is ∙ w.2 in
        let at : length (w.0 ++ w.1 ∷ []) - 1 ≡ length w.0 = omega (arith, length-append w.0 (w.1 ∷ [])) in
        let last_is : name ≡ w.1 = last ∙ (rw (seen, at) (get_or-append_next w.0 w.1 name)) in
        let front_is : stage ≡ w.0 = front ∙ (rw (seen, at) (take-append_seam w.0 (w.1 ∷ []))) in
        rw (whole, front_is, mark, last_is, w.2) (sym (staging_of-push w.0 w.1))
