-- What the names of a path are that a text spells.
use Rattle.std.specs.Prelude.{◌≡◌, ℕ, ◌≤◌, Bool, true, false, not, ◌&&◌, ◌==◌, nat_lt, nat_le, List, [], ◌∷◌, ◌++◌, length, Some, None, Result, Ok, Err, if◌then◌else◌, refl}
use Rattle.std.specs.List.{list_all, slice_split}
use Rattle.std.specs.Option.{option_map_or}
use Rattle.std.proofs.Common.{arith, length-append}
use Rattle.std.proofs.lemmas.Bool.Decides.{nat_tests}
use Rattle.std.proofs.lemmas.List.Folds.{list_all-append}
use Rattle.std.proofs.lemmas.List.Splits.{length-slice_split}
use Rattle.std.proofs.lemmas.List.Sums.{count_by-le-length}
use Rattle.std.proofs.lemmas.Bool.{and_parts}
use Rattle.pv_path.specs.Names.{is_dots, is_name, is_name_byte, is_staging}
use Rattle.pv_path.specs.Parsing.{begins_with_slash, is_path_byte, joined, names_of, path_of, piece_of}
use Rattle.pv_path.specs.Paths.{Path, has_names, has_staging}
use Rattle.pv_path.specs.declared.path_fault.PathFault.{PathFault}
use Rattle.pv_path.specs.declared.path_fault.PathFault.TheVariants as fault
use Rattle.pv_path.proofs.PathLaws.{is_name-from}
use Rattle.pv_path.proofs.Pieces.{are_names-split}

-- a name of at most 240 bytes that is not a staging name
abbrev pub is_spelled : List ℕ → Bool
is_spelled name = is_name name && nat_le (length name) 240 && not (is_staging name)

-- names that were spelled, so many at most
pub record AreSpelled (n : ℕ) (path : Path) : Type 0 where
  pub names : list_all is_spelled path ≡ true
  pub few : length path ≤ n

-- one piece
piece_of-spelled : (piece : List ℕ) (path : Path) → list_all is_name_byte piece ≡ true → piece_of piece ≡ Ok path → AreSpelled 1 path
piece_of-spelled [] path bytes e = let is : path ≡ [] = cc in rw is (record { names = refl; few = omega arith })
piece_of-spelled (b ∷ bs) path bytes e = by_fault (is_dots (b ∷ bs)) refl (nat_lt 240 (length (b ∷ bs))) refl (is_staging (b ∷ bs)) refl e
  where
    by_fault : (dots : Bool) → is_dots (b ∷ bs) ≡ dots → (long : Bool) → nat_lt 240 (length (b ∷ bs)) ≡ long → (staging : Bool) → is_staging (b ∷ bs) ≡ staging
        → option_map_or Err (if dots then Some fault.DotComponent else if long then Some fault.NameTooLong else if staging then Some fault.StagingName else None) (Ok ((b ∷ bs) ∷ [])) ≡ Ok path
        → AreSpelled 1 path
    by_fault true d long l staging s is = absurd (let no : Err fault.DotComponent ≡ Ok path = is in cc)
    by_fault false d true l staging s is = absurd (let no : Err fault.NameTooLong ≡ Ok path = is in cc)
    by_fault false d false l true s is = absurd (let no : Err fault.StagingName ≡ Ok path = is in cc)
    by_fault false d false l false s is =
        let one : path ≡ (b ∷ bs) ∷ [] = cc in
        let short : length (b ∷ bs) ≤ 240 = grind (arith, nat_tests, l) in
        let name : is_name (b ∷ bs) ≡ true = is_name-from (b ∷ bs) (omega arith) (omega (arith, short)) bytes d in
        let fits : nat_le (length (b ∷ bs)) 240 ≡ true = grind (arith, nat_tests, short) in
        rw one (record { names = rw (name, fits, s) refl; few = omega arith })

-- all pieces
names_of-spelled : (pieces : List (List ℕ)) (path : Path) → list_all (list_all is_name_byte) pieces ≡ true → names_of pieces ≡ Ok path → AreSpelled (length pieces) path
names_of-spelled [] path bytes e = let is : path ≡ [] = cc in rw is (record { names = refl; few = omega arith })
names_of-spelled (piece ∷ pieces) path bytes e =
    let both = and_parts (list_all is_name_byte piece) (list_all (list_all is_name_byte) pieces) bytes in
    by_parts (piece_of piece) refl (names_of pieces) refl e (λ p. piece_of-spelled piece p both.0) (λ p. names_of-spelled pieces p both.1)
  where
    by_parts : (one : Result Path PathFault) → piece_of piece ≡ one → (rest : Result Path PathFault) → names_of pieces ≡ rest → joined one rest ≡ Ok path
        → ((p : Path) → piece_of piece ≡ Ok p → AreSpelled 1 p) → ((p : Path) → names_of pieces ≡ Ok p → AreSpelled (length pieces) p) → AreSpelled (length (piece ∷ pieces)) path
    by_parts (Err f) o rest r is first second = absurd (let no : Err f ≡ Ok path = is in cc)
    by_parts (Ok p) o (Err f) r is first second = absurd (let no : Err f ≡ Ok path = is in cc)
    by_parts (Ok p) o (Ok q) r is first second =
        let a = first p o in
        let b = second q r in
        let whole : path ≡ p ++ q = cc in
        rw whole (record {
          names = rw (list_all-append is_spelled p q, a.names, b.names) refl;
          few = omega (arith, length-append p q, a.few, b.few);
        })

-- the path that a text spells
pub path_of-spelled : (text : List ℕ) (path : Path) → path_of text ≡ Ok path → AreSpelled 4096 path
path_of-spelled text path e = by_text (begins_with_slash text) (list_all is_path_byte text) refl (nat_lt 4095 (length text)) refl e
  where
    by_text : (slash : Bool) (clear : Bool) → list_all is_path_byte text ≡ clear → (long : Bool) → nat_lt 4095 (length text) ≡ long
        → (if slash then (if not clear then Err fault.BadByte else if long then Err fault.PathTooLong else names_of (slice_split (λ b. b == 47) text)) else Err fault.NotAbsolute) ≡ Ok path
        → AreSpelled 4096 path
    by_text false nul n long l is = absurd (let no : Err fault.NotAbsolute ≡ Ok path = is in cc)
    by_text true false n long l is = absurd (let no : Err fault.BadByte ≡ Ok path = is in cc)
    by_text true true n true l is = absurd (let no : Err fault.PathTooLong ≡ Ok path = is in cc)
    by_text true true n false l is =
        let all = names_of-spelled (slice_split (λ b. b == 47) text) path (are_names-split text n) is in
        let short : length text ≤ 4095 = grind (arith, nat_tests, l) in
        record {
          names = all.names;
          few = omega (arith, all.few, short, length-slice_split (λ b. b == 47) text, count_by-le-length (λ b. b == 47) text);
        }

-- what the names of such a path are
pub spelled_names : (path : Path) → list_all is_spelled path ≡ true → (has_names path ≡ true) × (list_all (λ name. nat_le (length name) 240) path ≡ true) × (has_staging path ≡ false)
spelled_names [] e = (refl, refl, refl)
spelled_names (name ∷ path) e =
    let u = and_parts (is_spelled name) (list_all is_spelled path) e in
    let v = and_parts (is_name name && nat_le (length name) 240) (not (is_staging name)) u.0 in
    let w = and_parts (is_name name) (nat_le (length name) 240) v.0 in
    let below = spelled_names path u.1 in
    let plain : is_staging name ≡ false = grind (arith, nat_tests, v.1) in
    (rw (w.0, below.0) refl, rw (w.1, below.1) refl, rw (plain, below.2) refl)
