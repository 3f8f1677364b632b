-- Paths are read name by name.
use Rattle.std.proofs.Common.{◌≡◌, ◌<◌, ◌≢◌, ℕ, zero, suc, ◌≤◌, true, List, [], ◌∷◌, ◌++◌, ◌-◌, length, get_or, map, take, drop, ◌==◌, Option, Some, None, Result, Ok, Err, IfOk, subst, refl, sym, ap, ◌∙◌, arith, append_assoc, take_all, Bor}
use Rattle.std.specs.List.{slice_split, join_with_byte}
use Rattle.std.proofs.lemmas.Bool.{and_parts, and_from}
use Rattle.std.proofs.lemmas.List.Splits.{join_with_byte-slice_split}
use Rattle.pv_acl.proofs.Splitting.{split_at}
use Rattle.pv_path.specs.Names.{is_name}
use Rattle.pv_path.specs.Paths.{Path, has_names}
use Rattle.pv_path.specs.Printing.{printed, printed_path}
use Rattle.pv_image.specs.Spelling.{IsName, HasNames, path_texts}
use Rattle.pv_image.specs.Reading.{Reads, texts}
use Rattle.pv_text.proofs.Characters.{all_append}
use Rattle.pv_path.proofs.Tests.{map-push}
use Rattle.pv_image.proofs.Characters.{path_again, path_joined}
use Rattle.pv_image.proofs.Cuts.{split_some}
use Rattle.pv_image.proofs.Cutting.{reads_joined, reads_same}

-- the pieces of a text so far are the names so far, and one more
pub names_more : (whole rest : List (List ℕ)) (path : Path) (piece name : List ℕ) → map printed path ++ piece ∷ rest ≡ whole → piece ≡ printed name → map printed (path ++ name ∷ []) ++ rest ≡ whole
names_more whole rest path piece name so_far is =
    ap (λ (ts : List (List ℕ)). ts ++ rest) (map-push printed path name) ∙ append_assoc (map printed path) (printed name ∷ []) rest
    ∙ ap (λ (t : List ℕ). map printed path ++ t ∷ rest) (sym is) ∙ so_far

-- the pieces of a text are the names and a last one
pub names_last : (whole : List (List ℕ)) (path : Path) (piece name : List ℕ) → map printed path ++ piece ∷ [] ≡ whole → piece ≡ printed name → whole ≡ map printed (path ++ name ∷ [])
names_last whole path piece name all is = sym all ∙ ap (λ (t : List ℕ). map printed path ++ t ∷ []) is ∙ sym (map-push printed path name)

pub path_more : (path : Path) (name : List ℕ) → HasNames path → IsName name → HasNames (path ++ name ∷ [])
path_more path name is one = all_append is_name path (name ∷ []) is (and_from (is_name name) true one refl)

-- a piece that is not a name is in no path
pub names_none : (before after : List (List ℕ)) (piece : List ℕ) → ((name : List ℕ) → IsName name → piece ≢ printed name) → (path : Path) → HasNames path → before ++ piece ∷ after ≢ map printed path
names_none [] after piece none [] is e = cc
names_none [] after piece none (name ∷ path) is e =
    let here : piece ≡ printed name = cc in
    none name (and_parts (is_name name) (has_names path) is).0 here
names_none (t ∷ before) after piece none [] is e = cc
names_none (t ∷ before) after piece none (name ∷ path) is e =
    let below : before ++ piece ∷ after ≡ map printed path = cc in
    names_none before after piece none path (and_parts (is_name name) (has_names path) is).1 below

-- the names of a path after its first slash
pub after_slash : (ts : List (List ℕ)) (o : Option Path) → 1 ≤ length ts → ts ≢ [] ∷ [] → Reads (map printed) HasNames ts o → Reads path_texts HasNames ([] ∷ ts) o
after_slash ts (Some []) some other (is, e) = absurd (let none : 1 ≤ 0 = rw e at some in omega arith)
after_slash ts (Some (name ∷ path)) some other (is, e) = (is, ap (λ (us : List (List ℕ)). [] ∷ us) e)
after_slash ts None some other none = by_path
  where
    by_path : (path : Path) → HasNames path → [] ∷ ts ≢ path_texts path
    by_path [] is e = other (let same : ts ≡ [] ∷ [] = cc in same)
    by_path (name ∷ path) is e = none (name ∷ path) is (let same : ts ≡ map printed (name ∷ path) = cc in same)

-- a text after its first slash has a name, or is empty
one_piece : (names : List ℕ) → names ≢ [] → slice_split (λ b. b == 47) names ≢ [] ∷ []
one_piece names some e = some (sym (join_with_byte-slice_split 47 names) ∙ ap (join_with_byte 47) e)

path_reads : (names : List ℕ) (o : Option Path) → names ≢ [] → Reads (map printed) HasNames (slice_split (λ b. b == 47) names) o → Reads printed_path HasNames (47 ∷ names) o
path_reads names o some read =
    let cut : slice_split (λ b. b == 47) (47 ∷ names) ≡ [] ∷ slice_split (λ b. b == 47) names = split_at 47 [] names refl in
    let pieces = after_slash (slice_split (λ b. b == 47) names) o (split_some 47 names) (one_piece names some) read in
    reads_same (λ p. join_with_byte 47 (path_texts p)) printed_path HasNames (47 ∷ names) o path_joined
    (reads_joined 47 path_texts HasNames (47 ∷ names) o path_again (subst (λ (ts : List (List ℕ)). Reads path_texts HasNames ts o) (sym cut) pieces))

path_results : {E : Type 0} (names : List ℕ) (r : Result (Option Path) E) → names ≢ [] → IfOk r (Reads (map printed) HasNames (slice_split (λ b. b == 47) names)) → IfOk r (Reads printed_path HasNames (47 ∷ names))
path_results names (Ok o) some read = path_reads names o some read
path_results names (Err e) some read = read

-- a text that begins with a slash, and is no slash alone
pub path_text : {E : Type 0} (text : List ℕ) (r : Result (Option Path) E) → 2 ≤ length text → get_or text 0 0 ≡ 47 → IfOk r (Reads (map printed) HasNames (slice_split (λ b. b == 47) (take (length text - 1) (drop 1 text))))
    → IfOk r (Reads printed_path HasNames text)
path_text [] r long first read = absurd (omega arith)
path_text (b ∷ names) r long first read =
    let all : take (suc (length names) - 1) names ≡ names = take_all (suc (length names) - 1) names (omega arith) in
    let some : names ≢ [] = λ e. let short : 2 ≤ 1 = rw e at long in omega arith in
    rw first (path_results names r some (rw all at read))

-- a list is its last slice after those before it
last_of : (ps : List (Bor (List ℕ))) (m : ℕ) (h : Bor (List ℕ)) → length ps ≡ suc m → texts (take m ps) ++ (get_or ps m h).now ∷ [] ≡ texts ps
last_of [] m h e = cc
last_of (p ∷ []) zero h e = refl
last_of (p ∷ []) (suc m) h e = cc
last_of (p ∷ q ∷ ps) zero h e = cc
last_of (p ∷ q ∷ ps) (suc m) h e = ap (λ (ts : List (List ℕ)). p.now ∷ ts) (last_of (q ∷ ps) m h (let below : length (q ∷ ps) ≡ suc m = cc in below))

-- two slices are the list
pub two_texts_of : (ps : List (Bor (List ℕ))) (a b : Bor (List ℕ)) → 2 ≤ length ps → length ps < 3 → (get_or ps 0 a).now ∷ (get_or ps 1 b).now ∷ [] ≡ texts ps
two_texts_of [] a b low high = absurd (omega arith)
two_texts_of (p ∷ []) a b low high = absurd (omega arith)
two_texts_of (p ∷ q ∷ []) a b low high = refl
two_texts_of (p ∷ q ∷ r ∷ ps) a b low high = absurd (omega arith)

-- three slices are the list
pub three_texts_of : (ps : List (Bor (List ℕ))) (a b c : Bor (List ℕ)) → 3 ≤ length ps → length ps < 4 → (get_or ps 0 a).now ∷ (get_or ps 1 b).now ∷ (get_or ps 2 c).now ∷ [] ≡ texts ps
three_texts_of [] a b c low high = absurd (omega arith)
three_texts_of (p ∷ ps) a b c low high = ap (λ (ts : List (List ℕ)). p.now ∷ ts) (two_texts_of ps b c (omega arith) (omega arith))

-- four slices are the list
pub four_texts_of : (ps : List (Bor (List ℕ))) (a b c d : Bor (List ℕ)) → 4 ≤ length ps → length ps < 5
    → (get_or ps 0 a).now ∷ (get_or ps 1 b).now ∷ (get_or ps 2 c).now ∷ (get_or ps 3 d).now ∷ [] ≡ texts ps
four_texts_of [] a b c d low high = absurd (omega arith)
four_texts_of (p ∷ ps) a b c d low high = ap (λ (ts : List (List ℕ)). p.now ∷ ts) (three_texts_of ps b c d (omega arith) (omega arith))

-- there are as many texts as slices
pub as_many : (ps : List (Bor (List ℕ))) (ts : List (List ℕ)) → texts ps ≡ ts → length ps ≡ length ts
as_many [] ts e = ap length e
as_many (p ∷ ps) [] e = cc
as_many (p ∷ ps) (t ∷ ts) e = ap suc (as_many ps ts (let rest : texts ps ≡ ts = cc in rest))

-- seven slices, some more, and a last one are the list
pub seven_and_last : (ps : List (Bor (List ℕ))) (a b c d e f g h : Bor (List ℕ)) → 8 ≤ length ps
    → (get_or ps 0 a).now ∷ (get_or ps 1 b).now ∷ (get_or ps 2 c).now ∷ (get_or ps 3 d).now ∷ (get_or ps 4 e).now ∷ (get_or ps 5 f).now ∷ (get_or ps 6 g).now ∷ texts (take (length ps - 1 - 7) (drop 7 ps)) ++ (get_or ps (length ps - 1) h).now ∷ [] ≡ texts ps
seven_and_last [] a b c d e f g h low = absurd (omega arith)
seven_and_last (p ∷ []) a b c d e f g h low = absurd (omega arith)
seven_and_last (p ∷ q ∷ []) a b c d e f g h low = absurd (omega arith)
seven_and_last (p ∷ q ∷ r ∷ []) a b c d e f g h low = absurd (omega arith)
seven_and_last (p ∷ q ∷ r ∷ s ∷ []) a b c d e f g h low = absurd (omega arith)
seven_and_last (p ∷ q ∷ r ∷ s ∷ t ∷ []) a b c d e f g h low = absurd (omega arith)
seven_and_last (p ∷ q ∷ r ∷ s ∷ t ∷ u ∷ []) a b c d e f g h low = absurd (omega arith)
seven_and_last (p ∷ q ∷ r ∷ s ∷ t ∷ u ∷ v ∷ []) a b c d e f g h low = absurd (omega arith)
seven_and_last (p ∷ q ∷ r ∷ s ∷ t ∷ u ∷ v ∷ w ∷ ps) a b c d e f g h low =
    let n = length ps in
    let count : suc (suc (suc (suc (suc (suc (suc n)))))) - 7 ≡ n = omega arith in
    let place : suc (suc (suc (suc (suc (suc (suc (suc n))))))) - 1 ≡ suc (suc (suc (suc (suc (suc (suc n)))))) = omega arith in
    rw (place, count) (ap (λ (ts : List (List ℕ)). p.now ∷ q.now ∷ r.now ∷ s.now ∷ t.now ∷ u.now ∷ v.now ∷ ts) (last_of (w ∷ ps) n h refl))
