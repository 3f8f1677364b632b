-- Lists of lines with one more or one longer, and their texts.
use Rattle.std.proofs.Common.{◌≡◌, ℕ, ◌+◌, ◌<◌, ◌≤◌, zero, suc, Bool, true, false, ◌==◌, List, [], ◌∷◌, ◌++◌, length, take, drop, get_or, refl, sym, ap, ◌∙◌, arith, append_assoc, append-nil, Bor, add-one, if◌then◌else◌}
use Rattle.std.specs.List.{flat_map, position_or_len}
use Rattle.std.proofs.lemmas.Bool.Decides.{nat_tests}
use Rattle.std.proofs.lemmas.Grind.{flat_map-append}
use Rattle.std.proofs.lemmas.List.{at_drop_more, length-map, map-append, take-map, drop-map}
use Rattle.std.proofs.Math.Numerals.{one-add}
use Rattle.pv_accounts.specs.Edits.{appended, text_of, is_behind_new, is_end, with_entries, entry_place, longer, with_member}
use Rattle.pv_accounts.specs.Files.{lines_of}
use Rattle.pv_accounts.specs.Kinds.{is_entry_named}
use Rattle.std.proofs.lemmas.List.Splits.{join_with_byte-slice_split}
use Rattle.pv_path.proofs.Tests.{texts, get_or-texts}

long_is : (lines : List (Bor (List ℕ))) → length (texts lines) ≡ length lines
long_is lines = simp length-map

-- whether a place is the last
end_is : (lines : List (List ℕ)) (i : ℕ) → i < length lines → is_end (drop (i + 1) lines) ≡ (i + 1 == length lines)
end_is lines i h = rw add-one (by_place i lines h)
  where
    one_more : (n : ℕ) → (1 == suc (suc n)) ≡ false
    one_more n = grind (arith, nat_tests)

    both_more : (m n : ℕ) → (suc (suc m) == suc n) ≡ (suc m == n)
    both_more m n = grind (arith, nat_tests)

    by_place : (i : ℕ) (lines : List (List ℕ)) → i < length lines → is_end (drop (suc i) lines) ≡ (suc i == length lines)
    by_place i [] h = absurd (omega arith)
    by_place zero (l ∷ []) h = refl
    by_place zero (l ∷ m ∷ lines) h = sym (one_more (length lines))
    by_place (suc i) (l ∷ lines) h = by_place i lines (omega arith) ∙ sym (both_more i (length lines))

-- one more line is looked at
place_more : (lines : List (List ℕ)) (i : ℕ) (d : List ℕ) → i < length lines → entry_place (drop i lines) ≡ (if is_behind_new (i + 1 == length lines) (get_or lines i d) then 0 else 1 + entry_place (drop (i + 1) lines))
place_more lines i d h =
    at_drop_more entry_place lines i d h
    ∙ ap (λ (b : Bool). if is_behind_new b (get_or lines i d) then 0 else 1 + entry_place (drop (i + 1) lines)) (end_is lines i h)

pub place_found : (lines : List (Bor (List ℕ))) (i : ℕ) (d : Bor (List ℕ)) → i < length lines → is_behind_new (i + 1 == length lines) (get_or lines i d).now ≡ true
    → i + entry_place (drop i (texts lines)) ≡ entry_place (texts lines) → i ≡ entry_place (texts lines)
place_found lines i d h here e =
    let at : get_or (texts lines) i d.now ≡ (get_or lines i d).now = get_or-texts lines i d in
    let long : length (texts lines) ≡ length lines = long_is lines in
    let test : is_behind_new (i + 1 == length (texts lines)) (get_or (texts lines) i d.now) ≡ true = rw (at, long) here in
    let none_left : entry_place (drop i (texts lines)) ≡ 0 = rw (place_more (texts lines) i d.now (simp length-map h), test) refl in
    omega (arith, none_left, e)

pub place_kept : (lines : List (Bor (List ℕ))) (i : ℕ) (d : Bor (List ℕ)) → i < length lines → is_behind_new (i + 1 == length lines) (get_or lines i d).now ≡ false
    → i + entry_place (drop i (texts lines)) ≡ entry_place (texts lines) → i + 1 + entry_place (drop (i + 1) (texts lines)) ≡ entry_place (texts lines)
place_kept lines i d h here e =
    let at : get_or (texts lines) i d.now ≡ (get_or lines i d).now = get_or-texts lines i d in
    let long : length (texts lines) ≡ length lines = long_is lines in
    let test : is_behind_new (i + 1 == length (texts lines)) (get_or (texts lines) i d.now) ≡ false = rw (at, long) here in
    let one_left : entry_place (drop i (texts lines)) ≡ 1 + entry_place (drop (i + 1) (texts lines)) = rw (place_more (texts lines) i d.now (simp length-map h), test) refl in
    omega (arith, one_left, e)

text_begun : (line : List ℕ) (back : List (Bor (List ℕ))) → text_of (line ∷ texts back) ≡ line ++ flat_map (λ l. 10 ∷ l.now) back
text_begun line [] = sym (append-nil line)
text_begun line (b ∷ back) = ap (λ (t : List ℕ). line ++ 10 ∷ t) (text_begun b.now back)

text_cons : (l : List ℕ) (front : List (Bor (List ℕ))) (line : List ℕ) (ls : List (List ℕ)) → text_of (l ∷ (texts front ++ line ∷ ls)) ≡ l ++ 10 ∷ text_of (texts front ++ line ∷ ls)
text_cons l [] line ls = refl
text_cons l (f ∷ front) line ls = refl

-- the text of lines, of which one is given apart
pub text_joined : (front : List (Bor (List ℕ))) (line : List ℕ) (back : List (Bor (List ℕ)))
    → text_of (texts front ++ line ∷ texts back) ≡ flat_map (λ l. l.now ++ 10 ∷ []) front ++ line ++ flat_map (λ l. 10 ∷ l.now) back
text_joined [] line back = text_begun line back
text_joined (f ∷ front) line back =
    text_cons f.now front line (texts back) ∙ ap (λ (t : List ℕ). f.now ++ 10 ∷ t) (text_joined front line back) ∙ simp append_assoc

-- the same with two lists of lines before it
pub text_inserted : (front entries : List (Bor (List ℕ))) (line : List ℕ) (back : List (Bor (List ℕ)))
    → text_of ((texts front ++ texts entries) ++ line ∷ texts back) ≡ (flat_map (λ l. l.now ++ 10 ∷ []) front ++ flat_map (λ l. l.now ++ 10 ∷ []) entries) ++ line ++ flat_map (λ l. 10 ∷ l.now) back
text_inserted front entries line back =
    ap (λ (ls : List (List ℕ)). text_of (ls ++ line ∷ texts back)) (sym (map-append (λ l. l.now) front entries))
    ∙ text_joined (front ++ entries) line back
    ∙ ap (λ (t : List ℕ). t ++ line ++ flat_map (λ l. 10 ∷ l.now) back) (flat_map-append (λ l. l.now ++ 10 ∷ []) front entries)

-- new entries before a line, or after all
entries_before : (entries lines : List (List ℕ)) → entry_place lines < length lines → with_entries entries lines ≡ take (entry_place lines) lines ++ (entries ++ drop (entry_place lines) lines)
entries_before entries [] h = absurd (omega arith)
entries_before entries (l ∷ ls) h = by_test (is_behind_new (is_end ls) l) refl (entries_before entries ls)
  where
    by_test : (b : Bool) → is_behind_new (is_end ls) l ≡ b → (entry_place ls < length ls → with_entries entries ls ≡ take (entry_place ls) ls ++ (entries ++ drop (entry_place ls) ls))
        → with_entries entries (l ∷ ls) ≡ take (entry_place (l ∷ ls)) (l ∷ ls) ++ (entries ++ drop (entry_place (l ∷ ls)) (l ∷ ls))
    by_test true e rest = rw e refl
    by_test false e rest =
        let below : 1 + entry_place ls < suc (length ls) = rw e at h in
        rw (e, one-add (entry_place ls)) (ap (λ (ms : List (List ℕ)). l ∷ ms) (rest (omega arith)))

entries_after : (entries lines : List (List ℕ)) → length lines ≤ entry_place lines → with_entries entries lines ≡ lines ++ (entries ++ [] ∷ [])
entries_after entries [] h = refl
entries_after entries (l ∷ ls) h = by_test (is_behind_new (is_end ls) l) refl (entries_after entries ls)
  where
    by_test : (b : Bool) → is_behind_new (is_end ls) l ≡ b → (length ls ≤ entry_place ls → with_entries entries ls ≡ ls ++ (entries ++ [] ∷ [])) → with_entries entries (l ∷ ls) ≡ l ∷ (ls ++ (entries ++ [] ∷ []))
    by_test true e rest = absurd (let above : suc (length ls) ≤ 0 = rw e at h in omega arith)
    by_test false e rest =
        let above : suc (length ls) ≤ 1 + entry_place ls = rw e at h in
        rw e (ap (λ (ms : List (List ℕ)). l ∷ ms) (rest (omega arith)))

-- a list is its first item and the others, from a place on
drop_here : (lines : List (Bor (List ℕ))) (at : ℕ) (d : Bor (List ℕ)) → at < length lines → texts (drop at lines) ≡ (get_or lines at d).now ∷ texts (drop (at + 1) lines)
drop_here [] at d h = absurd (omega arith)
drop_here (l ∷ ls) zero d h = refl
drop_here (l ∷ ls) (suc at) d h = rw add-one (drop_here ls at d (omega arith) ∙ rw add-one refl)

pub lines_before : (entries : List (List ℕ)) (lines : List (Bor (List ℕ))) (at : ℕ) (d : Bor (List ℕ)) → at ≡ entry_place (texts lines) → at < length lines
    → (texts (take at lines) ++ entries) ++ (get_or lines at d).now ∷ texts (drop (at + 1) lines) ≡ with_entries entries (texts lines)
lines_before entries lines at d e h =
    let below : entry_place (texts lines) < length (texts lines) = rw (long_is lines, ← e) h in
    let whole : with_entries entries (texts lines) ≡ take at (texts lines) ++ (entries ++ drop at (texts lines)) = rw e (entries_before entries (texts lines) below) in
    let rest : drop at (texts lines) ≡ (get_or lines at d).now ∷ texts (drop (at + 1) lines) = drop-map (λ line. line.now) at lines ∙ drop_here lines at d h in
    let front : take at (texts lines) ≡ texts (take at lines) = take-map (λ line. line.now) at lines in
    rw (whole, rest, front) (append_assoc (texts (take at lines)) entries ((get_or lines at d).now ∷ texts (drop (at + 1) lines)))

pub lines_after : (entries : List (List ℕ)) (lines : List (Bor (List ℕ))) (at : ℕ) → at ≡ entry_place (texts lines) → length lines ≤ at → (texts lines ++ entries) ++ [] ∷ [] ≡ with_entries entries (texts lines)
lines_after entries lines at e h =
    let above : length (texts lines) ≤ entry_place (texts lines) = rw (long_is lines, ← e) h in
    append_assoc (texts lines) entries ([] ∷ []) ∙ sym (entries_after entries (texts lines) above)

-- a file with some entries more
pub appended_some : (entries : List (Bor (List ℕ))) (file : List ℕ) (b : Bool) → b ≡ (length entries == 0) → b ≡ false → appended (texts entries) file ≡ text_of (with_entries (texts entries) (lines_of file))
appended_some [] file b e h = cc
appended_some (entry ∷ entries) file b e h = refl

-- the line of a group made longer, or no such line
member_at : (test : List (List ℕ) → Bool) (group user : List ℕ) (lines : List (List ℕ)) (d : List ℕ) → position_or_len (is_entry_named test group) lines < length lines
    → with_member test group user lines ≡ take (position_or_len (is_entry_named test group) lines) lines ++ longer test user (get_or lines (position_or_len (is_entry_named test group) lines) d) ∷ drop (suc (position_or_len (is_entry_named test group) lines)) lines
member_at test group user [] d h = absurd (omega arith)
member_at test group user (l ∷ ls) d h = by_test (is_entry_named test group l) refl (member_at test group user ls d)
  where
    by_test : (b : Bool) → is_entry_named test group l ≡ b → (position_or_len (is_entry_named test group) ls < length ls
        → with_member test group user ls ≡ take (position_or_len (is_entry_named test group) ls) ls ++ longer test user (get_or ls (position_or_len (is_entry_named test group) ls) d) ∷ drop (suc (position_or_len (is_entry_named test group) ls)) ls)
        → with_member test group user (l ∷ ls) ≡ take (position_or_len (is_entry_named test group) (l ∷ ls)) (l ∷ ls) ++ longer test user (get_or (l ∷ ls) (position_or_len (is_entry_named test group) (l ∷ ls)) d) ∷ drop (suc (position_or_len (is_entry_named test group) (l ∷ ls))) (l ∷ ls)
    by_test true e rest = rw e refl
    by_test false e rest =
        let below : 1 + position_or_len (is_entry_named test group) ls < suc (length ls) = rw e at h in
        rw (e, one-add (position_or_len (is_entry_named test group) ls)) (ap (λ (ms : List (List ℕ)). l ∷ ms) (rest (omega arith)))

member_none : (test : List (List ℕ) → Bool) (group user : List ℕ) (lines : List (List ℕ)) → length lines ≤ position_or_len (is_entry_named test group) lines → with_member test group user lines ≡ lines
member_none test group user [] h = refl
member_none test group user (l ∷ ls) h = by_test (is_entry_named test group l) refl (member_none test group user ls)
  where
    by_test : (b : Bool) → is_entry_named test group l ≡ b → (length ls ≤ position_or_len (is_entry_named test group) ls → with_member test group user ls ≡ ls) → with_member test group user (l ∷ ls) ≡ l ∷ ls
    by_test true e rest = absurd (let above : suc (length ls) ≤ 0 = rw e at h in omega arith)
    by_test false e rest =
        let above : suc (length ls) ≤ 1 + position_or_len (is_entry_named test group) ls = rw e at h in
        rw e (ap (λ (ms : List (List ℕ)). l ∷ ms) (rest (omega arith)))

pub lines_longer : (test : List (List ℕ) → Bool) (group user : List ℕ) (lines : List (Bor (List ℕ))) (at : ℕ) (d : Bor (List ℕ)) (line : List ℕ) → at ≡ position_or_len (is_entry_named test group) (texts lines) → at < length lines
    → line ≡ longer test user (get_or lines at d).now → texts (take at lines) ++ line ∷ texts (drop (at + 1) lines) ≡ with_member test group user (texts lines)
lines_longer test group user lines at d line e h is =
    let below : position_or_len (is_entry_named test group) (texts lines) < length (texts lines) = rw (long_is lines, ← e) h in
    let here : get_or (texts lines) at d.now ≡ (get_or lines at d).now = get_or-texts lines at d in
    let whole = member_at test group user (texts lines) d.now below in
    let shown : with_member test group user (texts lines) ≡ take at (texts lines) ++ longer test user (get_or (texts lines) at d.now) ∷ drop (at + 1) (texts lines) = rw (e, add-one) whole in
    rw (shown, here, ← is, take-map, drop-map) refl

pub lines_same : (test : List (List ℕ) → Bool) (group user file : List ℕ) (lines : List (List ℕ)) (at : ℕ) → lines ≡ lines_of file → at ≡ position_or_len (is_entry_named test group) (lines_of file) → length lines ≤ at → file ≡ text_of (with_member test group user (lines_of file))
lines_same test group user file lines at is e h =
    let above : length (lines_of file) ≤ position_or_len (is_entry_named test group) (lines_of file) = rw (← e, ← is) h in
    sym (ap text_of (member_none test group user (lines_of file) above) ∙ join_with_byte-slice_split 10 file)
