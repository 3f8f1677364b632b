-- Laws of matching, for proofs of the crates above.
use Rattle.std.specs.Prelude.{◌≡◌, ℕ, Bool, true, false, not, ◌&&◌, ◌==◌, List, [], ◌∷◌, map, length, refl}
use Rattle.std.specs.Cmp.{nat_eq_equiv}
use Rattle.std.specs.Cmp.Lexicographic.{pointwise, as_long}
use Rattle.std.proofs.Common.{sym, ap, ◌∙◌}
use Rattle.std.proofs.lemmas.Bool.{and_parts, not-true, and_right}
use Rattle.pv_path.specs.Names.{same_bytes}
use Rattle.pv_path.specs.Paths.{Path, has_staging, same_path, same_path-decides}
use Rattle.pv_glob.specs.declared.element.Element.{Element}
use Rattle.pv_glob.specs.declared.element.Element.TheVariants.{Byte}
use Rattle.pv_glob.specs.Matching.{component_matches, literal_of, matches, name_matches}

-- no matched path has a staging name
pub matches-no_staging : (components : List (List Element)) (path : Path) → matches components path ≡ true → has_staging path ≡ false
matches-no_staging components path e = not-true (has_staging path) (and_parts (not (has_staging path)) (pointwise component_matches components path) e).0

-- a matched path has as many names as the pattern has components
pub matches-length : (components : List (List Element)) (path : Path) → matches components path ≡ true → length components ≡ length path
matches-length components path e = as_long component_matches components path (and_parts (not (has_staging path)) (pointwise component_matches components path) e).1

-- the test of two numbers, turned
pub eqb-swap : (a b : ℕ) → (a == b) ≡ (b == a)
eqb-swap a b = nat_eq_equiv.symm a b

-- written bytes match themselves alone
bytes_match : (bytes : List ℕ) (first : Bool) (name : List ℕ) → name_matches (map (λ b. Byte b) bytes) first name ≡ same_bytes bytes name
bytes_match [] first [] = refl
bytes_match [] first (b ∷ name) = refl
bytes_match (c ∷ bytes) first [] = refl
bytes_match (c ∷ bytes) first (b ∷ name) = rw (eqb-swap b c) (ap (λ (t : Bool). (c == b) && t) (bytes_match bytes false name))

-- a literal's components match the names of its path alone
names_fit : (path q : Path) → pointwise component_matches (literal_of path) q ≡ same_path path q
names_fit [] [] = refl
names_fit [] (n ∷ q) = refl
names_fit (m ∷ path) [] = refl
names_fit (m ∷ path) (n ∷ q) = rw (bytes_match m true n) (ap (λ (t : Bool). same_bytes m n && t) (names_fit path q))

-- a path without a staging name is matched by its literal alone
pub literal_alone : (path q : Path) → has_staging path ≡ false → matches (literal_of path) q ≡ same_path path q
literal_alone path q none = by_test (same_path path q) refl
  where
    by_test : (t : Bool) → same_path path q ≡ t → matches (literal_of path) q ≡ same_path path q
    by_test true is =
        let one : path ≡ q = (same_path-decides path q).0 is in
        let clear : has_staging q ≡ false = sym (ap has_staging one) ∙ none in
        rw clear (names_fit path q)
    by_test false is = and_right (not (has_staging q)) _ (names_fit path q ∙ is) ∙ sym is
