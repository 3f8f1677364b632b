-- Which letters stand in the columns of a node.
use Rattle.std.proofs.Common.{◌≡◌, ℕ, ◌<◌, ◌^◌, true, not, ◌&&◌, ◌||◌, ◌==◌, nat_le, nat_lt, List, [], ◌∷◌, ◌++◌, map, refl, sym, ap, arith, append-nil, length, ◌≤◌}
use Rattle.std.specs.List.{list_all, flat_map, slice_split, join_with_byte}
use Rattle.std.specs.Fmt.{decimal}
use Rattle.std.proofs.lemmas.Bool.{and_parts, and_from}
use Rattle.std.proofs.Math.Bool.{or-true}
use Rattle.pv_path.specs.Names.{is_dots, is_name, is_name_byte}
use Rattle.pv_path.specs.Paths.{Path, has_names}
use Rattle.pv_path.specs.Printing.{hex_digit, is_plain, printed, printed_path}
use Rattle.pv_steps.specs.declared.node.Stamps.{Stamps}
use Rattle.pv_steps.specs.Attributes.{are_bytes}
use Rattle.pv_steps.specs.Objects.{StampsFit}
use Rattle.pv_text.specs.Lines.{lacks}
use Rattle.pv_text.proofs.Characters.{all_weaker, decimal_lacks, hex_is, printed_all}
use Rattle.pv_image.specs.Spelling.{stamp_texts, number_texts, path_texts, HasNames}
use Rattle.pv_image.specs.Reading.{AreNumbers}
use Rattle.pv_image.proofs.Cutting.{are_apart, split_join}

-- ---- timestamps

pub stamps_again : (stamps : Stamps) → StampsFit stamps → slice_split (λ b. b == 44) (join_with_byte 44 (stamp_texts stamps)) ≡ stamp_texts stamps
stamps_again stamps fit =
    split_join 44 (decimal stamps.access) (decimal stamps.birth ∷ decimal stamps.change ∷ decimal stamps.modify ∷ [])
    (rw (decimal_lacks 44 stamps.access refl fit.access, decimal_lacks 44 stamps.birth refl fit.birth, decimal_lacks 44 stamps.change refl fit.change, decimal_lacks 44 stamps.modify refl fit.modify) refl)

-- ---- paths

name_is : (bytes : List ℕ) → is_name bytes ≡ true → list_all is_name_byte bytes ≡ true
name_is bytes e =
    let front = (and_parts (nat_le 1 (length bytes) && nat_le (length bytes) 255 && list_all is_name_byte bytes) (not (is_dots bytes)) e).0 in
    (and_parts (nat_le 1 (length bytes) && nat_le (length bytes) 255) (list_all is_name_byte bytes) front).1

-- the bytes of a name are bytes
pub name_fits : (bytes : List ℕ) → is_name bytes ≡ true → are_bytes bytes ≡ true
name_fits bytes e =
    all_weaker is_name_byte (λ b. nat_lt b 256) (λ b f. (and_parts (nat_lt b 256) (not (b == 0)) (and_parts (nat_lt b 256 && not (b == 0)) (not (b == 47)) f).0).0) bytes (name_is bytes e)

no_slash : (b : ℕ) → is_name_byte b ≡ true → not (b == 47) ≡ true
no_slash b e = (and_parts _ (not (b == 47)) e).1

pub name_lacks : (bytes : List ℕ) → is_name bytes ≡ true → lacks 47 (printed bytes) ≡ true
name_lacks bytes e =
    printed_all is_plain (λ b. not (b == 47)) refl refl (λ d. (and_parts (not (hex_digit d == 47)) (nat_le 33 (hex_digit d)) (hex_is d)).0) bytes
    (all_weaker is_name_byte (λ b. not (is_plain b) || not (b == 47)) (λ b f. rw (no_slash b f) (or-true (not (is_plain b)))) bytes (name_is bytes e))

names_apart : (path : Path) → has_names path ≡ true → are_apart 47 (map printed path) ≡ true
names_apart [] e = refl
names_apart (name ∷ path) e =
    let parts = and_parts (is_name name) (has_names path) e in
    and_from (lacks 47 (printed name)) (are_apart 47 (map printed path)) (name_lacks name parts.0) (names_apart path parts.1)

pub path_again : (path : Path) → HasNames path → slice_split (λ b. b == 47) (join_with_byte 47 (path_texts path)) ≡ path_texts path
path_again [] is = refl
path_again (name ∷ path) is = split_join 47 [] (map printed (name ∷ path)) (names_apart (name ∷ path) is)

after_slashes : (name : List ℕ) (path : Path) → flat_map (λ n. 47 ∷ printed n) (name ∷ path) ≡ 47 ∷ join_with_byte 47 (map printed (name ∷ path))
after_slashes name [] = append-nil (47 ∷ printed name)
after_slashes name (next ∷ path) = ap (λ (t : List ℕ). (47 ∷ printed name) ++ t) (after_slashes next path)

pub path_joined : (path : Path) → join_with_byte 47 (path_texts path) ≡ printed_path path
path_joined [] = refl
path_joined (name ∷ path) = sym (after_slashes name path)

pub numbers_again : (numbers : ℕ × ℕ) → AreNumbers numbers → slice_split (λ b. b == 58) (join_with_byte 58 (number_texts numbers)) ≡ number_texts numbers
numbers_again numbers fit =
    let major : numbers.0 < 2 ^ 64 = let f = fit.0 in omega arith in
    let minor : numbers.1 < 2 ^ 64 = let f = fit.1 in omega arith in
    split_join 58 (decimal numbers.0) (decimal numbers.1 ∷ []) (rw (decimal_lacks 58 numbers.0 refl major, decimal_lacks 58 numbers.1 refl minor) refl)

-- the timestamps are four
pub four_stamps : (stamps : Stamps) → length (stamp_texts stamps) ≤ 4
four_stamps stamps = omega arith
