-- How bytes spell the paths of a host.
use Rattle.std.proofs.Common.{◌≡◌, ◌∙◌, ℕ, Bool, true, false, not, cond, ◌==◌, List, [], ◌∷◌, ◌++◌, length, refl, ap, append_assoc, arith}
use Rattle.std.specs.Prelude.{nat_lt, ◌&&◌}
use Rattle.std.specs.List.{list_all, onto_first, slice_split}
use Rattle.std.proofs.lemmas.Bool.{and_parts}
use Rattle.std.proofs.lemmas.Bool.Decides.{nat_tests}
use Rattle.std.proofs.lemmas.List.Elements.{filter-append}
use Rattle.pv_acl.proofs.Splitting.{lacks, split_none}
use Rattle.pv_path.specs.Names.{is_name, is_name_byte}
use Rattle.pv_path.proofs.PathLaws.{is_name-parts}
use Rattle.pv_folder.specs.Content.{names_among, spelled}

abbrev slash : ℕ → Bool
slash b = b == 47

-- the pieces of bytes, one of which is there always
onto_more : (b : ℕ) (p : ℕ → Bool) (xs : List ℕ) (rest : List (List ℕ)) → onto_first b (slice_split p xs ++ rest) ≡ onto_first b (slice_split p xs) ++ rest
onto_more b p [] rest = refl
onto_more b p (x ∷ xs) rest = by (p x) (slice_split p xs)
  where
    first : (pieces : List (List ℕ)) → onto_first b (onto_first x pieces ++ rest) ≡ onto_first b (onto_first x pieces) ++ rest
    first [] = refl
    first (piece ∷ pieces) = refl

    by : (c : Bool) (pieces : List (List ℕ)) → onto_first b (cond c ([] ∷ pieces) (onto_first x pieces) ++ rest) ≡ onto_first b (cond c ([] ∷ pieces) (onto_first x pieces)) ++ rest
    by true pieces = refl
    by false pieces = first pieces

-- bytes on both sides of a slash are cut each for themselves
split-append : (xs ys : List ℕ) → slice_split slash (xs ++ 47 ∷ ys) ≡ slice_split slash xs ++ slice_split slash ys
split-append [] ys = refl
split-append (x ∷ xs) ys = by (x == 47) (split-append xs ys) ∙ rest (x == 47)
  where
    by : (c : Bool) → slice_split slash (xs ++ 47 ∷ ys) ≡ slice_split slash xs ++ slice_split slash ys
        → cond c ([] ∷ slice_split slash (xs ++ 47 ∷ ys)) (onto_first x (slice_split slash (xs ++ 47 ∷ ys)))
        ≡ cond c ([] ∷ (slice_split slash xs ++ slice_split slash ys)) (onto_first x (slice_split slash xs ++ slice_split slash ys))
    by c e = ap (λ (pieces : List (List ℕ)). cond c ([] ∷ pieces) (onto_first x pieces)) e

    rest : (c : Bool) → cond c ([] ∷ (slice_split slash xs ++ slice_split slash ys)) (onto_first x (slice_split slash xs ++ slice_split slash ys))
        ≡ cond c ([] ∷ slice_split slash xs) (onto_first x (slice_split slash xs)) ++ slice_split slash ys
    rest true = refl
    rest false = onto_more x slash xs (slice_split slash ys)

-- a name has no slash
no_slash : (name : List ℕ) → list_all is_name_byte name ≡ true → lacks 47 name ≡ true
no_slash [] h = refl
no_slash (b ∷ name) h =
    let parts = and_parts (is_name_byte b) (list_all is_name_byte name) h in
    let one = and_parts (nat_lt b 256 && not (b == 0)) (not (b == 47)) in
    rw (no_slash name parts.1) (by (nat_lt b 256) (not (b == 0)) (not (b == 47)) parts.0)
  where
    by : (x y z : Bool) → (x && y && z) ≡ true → (z && true) ≡ true
    by true true true e = refl
    by x y z e = cc

one_name : (name : List ℕ) → is_name name ≡ true → names_among (name ∷ []) ≡ name ∷ []
one_name name is =
    let long : nat_lt 0 (length name) ≡ true = grind (arith, nat_tests, (is_name-parts name is).0) in
    ap (λ b. cond b (name ∷ []) []) long

-- a slash and a name behind bytes spell the name below their path
pub spelled-add : (bytes name : List ℕ) → is_name name ≡ true → spelled ((bytes ++ 47 ∷ []) ++ name) ≡ spelled bytes ++ name ∷ []
spelled-add bytes name is =
    ap spelled (append_assoc bytes (47 ∷ []) name)
    ∙ ap names_among (split-append bytes name)
    ∙ filter-append (λ piece. nat_lt 0 (length piece)) (slice_split slash bytes) (slice_split slash name)
    ∙ ap (λ (pieces : List (List ℕ)). spelled bytes ++ names_among pieces) (split_none 47 name (no_slash name (is_name-parts name is).2))
    ∙ ap (λ (names : List (List ℕ)). spelled bytes ++ names) (one_name name is)
