-- A user who is among the members of a group stays so while others are added, and is not added again.
use Rattle.std.proofs.Common.{◌≡◌, ℕ, Bool, true, false, ◌||◌, ◌==◌, List, [], ◌∷◌, ◌++◌, option_map, refl, sym, ap, ◌∙◌, cond, if◌then◌else◌}
use Rattle.std.specs.List.{list_any, cons_option, onto_first, slice_split}
use Rattle.std.specs.Str.{bytes_eq}
use Rattle.std.proofs.lemmas.List.Folds.{list_any-append}
use Rattle.std.proofs.lemmas.List.Splits.{join_with_byte-slice_split}
use Rattle.std.proofs.lemmas.Slice.Eq.{bytes_eq-Decides}
use Rattle.std.proofs.lemmas.Bool.{or_left, or_right}
use Rattle.pv_acl.specs.Spelling.{decimal_id}
use Rattle.pv_acl.proofs.Splitting.{lacks, split_none}
use Rattle.pv_accounts.specs.Edits.{is_member, longer, member_suffix, members_of, text_of, with_member}
use Rattle.pv_accounts.specs.Entries.{fields_of, is_group, is_gshadow}
use Rattle.pv_accounts.specs.Files.{lines_of}
use Rattle.pv_accounts.specs.InUse.{named_in}
use Rattle.pv_accounts.specs.Kinds.{is_entry_named}
use Rattle.pv_accounts.proofs.Ends.{member_lines}
use Rattle.pv_accounts.proofs.Holding.{Fields}
use Rattle.pv_accounts.proofs.Pieces.{split_cons}
use Rattle.pv_accounts.proofs.Rereading.{IsPlain, pairs}
use Rattle.pv_path.proofs.Tests.{same_number}

-- ---- pieces of a text that goes on

abbrev grown_last : List ℕ → List ℕ → Fields → Fields
grown_last s x [] = (x ++ s) ∷ []
grown_last s x (y ∷ ys) = x ∷ grown_last s y ys

-- the pieces with more at the end of the last
abbrev with_last : List ℕ → Fields → Fields
with_last s [] = s ∷ []
with_last s (x ∷ xs) = grown_last s x xs

first_grown : (n : ℕ) (s y : List ℕ) (ys : Fields) → onto_first n (grown_last s y ys) ≡ grown_last s (n ∷ y) ys
first_grown n s y [] = refl
first_grown n s y (z ∷ zs) = refl

split_after : (c : ℕ) (xs s : List ℕ) → lacks c s ≡ true → slice_split (λ b. b == c) (xs ++ s) ≡ with_last s (slice_split (λ b. b == c) xs)
split_after c [] s h = split_none c s h
split_after c (x ∷ xs) s h = by_test (x == c) (split_cons c xs) (split_after c xs s h)
  where
    by_test : (b : Bool) → ((y : List ℕ) × ((ys : List (List ℕ)) × (slice_split (λ b. b == c) xs ≡ y ∷ ys))) → slice_split (λ b. b == c) (xs ++ s) ≡ with_last s (slice_split (λ b. b == c) xs)
        → cond b ([] ∷ slice_split (λ b. b == c) (xs ++ s)) (onto_first x (slice_split (λ b. b == c) (xs ++ s)))
        ≡ with_last s (cond b ([] ∷ slice_split (λ b. b == c) xs) (onto_first x (slice_split (λ b. b == c) xs)))
    by_test true (y, (ys, e)) rest = rw (rest, e) refl
    by_test false (y, (ys, e)) rest = rw (rest, e) (first_grown x s y ys)

-- pieces of a text with a further one
split_more : (c : ℕ) (xs ys : List ℕ) → slice_split (λ b. b == c) (xs ++ c ∷ ys) ≡ slice_split (λ b. b == c) xs ++ slice_split (λ b. b == c) ys
split_more c [] ys = ap (λ b. cond b ([] ∷ slice_split (λ b. b == c) ys) (onto_first c (slice_split (λ b. b == c) ys))) (same_number c)
split_more c (x ∷ xs) ys = by_test (x == c) (split_cons c xs) (split_more c xs ys)
  where
    by_test : (b : Bool) → ((z : List ℕ) × ((zs : List (List ℕ)) × (slice_split (λ b. b == c) xs ≡ z ∷ zs))) → slice_split (λ b. b == c) (xs ++ c ∷ ys) ≡ slice_split (λ b. b == c) xs ++ slice_split (λ b. b == c) ys
        → cond b ([] ∷ slice_split (λ b. b == c) (xs ++ c ∷ ys)) (onto_first x (slice_split (λ b. b == c) (xs ++ c ∷ ys)))
        ≡ cond b ([] ∷ slice_split (λ b. b == c) xs) (onto_first x (slice_split (λ b. b == c) xs)) ++ slice_split (λ b. b == c) ys
    by_test true some rest = ap (λ (zs : Fields). [] ∷ zs) rest
    by_test false (z, (zs, e)) rest = rw (rest, e) refl

-- ---- members

-- the members with a user, where he is not among them
abbrev grown : List ℕ → List ℕ → List ℕ
grown user members = if is_member user members then members else members ++ member_suffix user members

module _ (user : List ℕ) (plain : IsPlain user) where
  alone : (name : List ℕ) → IsPlain name → is_member name name ≡ true
  alone [] is = absurd (let no : false ≡ true = is.entry in cc)
  alone (b ∷ bs) is =
      ap (list_any (λ member. bytes_eq member (b ∷ bs))) (split_none 44 (b ∷ bs) is.comma)
      ∙ ap (λ t. t || false) ((bytes_eq-Decides (b ∷ bs) (b ∷ bs)).1 refl)

  parted : (other : List ℕ) (b : ℕ) (bs : List ℕ)
      → is_member other ((b ∷ bs) ++ 44 ∷ user) ≡ (is_member other (b ∷ bs) || (bytes_eq user other || false))
  parted other b bs =
      ap (list_any (λ member. bytes_eq member other)) (split_more 44 (b ∷ bs) user ∙ ap (λ (ps : Fields). slice_split (λ c. c == 44) (b ∷ bs) ++ ps) (split_none 44 user plain.comma))
      ∙ list_any-append (λ member. bytes_eq member other) (slice_split (λ c. c == 44) (b ∷ bs)) (user ∷ [])

  -- he is among them then
  pub is_grown : (members : List ℕ) → is_member user (grown user members) ≡ true
  is_grown members = by_test (is_member user members) refl members refl
    where
      added : (ms : List ℕ) → is_member user (ms ++ member_suffix user ms) ≡ true
      added [] = alone user plain
      added (b ∷ bs) = parted user b bs ∙ or_right (is_member user (b ∷ bs)) (bytes_eq user user || false) (ap (λ t. t || false) ((bytes_eq-Decides user user).1 refl))

      by_test : (b : Bool) → is_member user members ≡ b → (ms : List ℕ) → ms ≡ members → is_member user (if b then members else members ++ member_suffix user members) ≡ true
      by_test true e ms same = e
      by_test false e ms same = added members

  -- and so is each who was
  pub is_kept : (other members : List ℕ) → is_member other members ≡ true → is_member other (grown user members) ≡ true
  is_kept other members h = by_test (is_member user members) members h
    where
      added : (ms : List ℕ) → is_member other ms ≡ true → is_member other (ms ++ member_suffix user ms) ≡ true
      added [] k = absurd (let no : false ≡ true = k in cc)
      added (b ∷ bs) k = parted other b bs ∙ or_left (is_member other (b ∷ bs)) (bytes_eq user other || false) k

      by_test : (b : Bool) (ms : List ℕ) → is_member other ms ≡ true → is_member other (if b then ms else ms ++ member_suffix user ms) ≡ true
      by_test true ms k = k
      by_test false ms k = added ms k

-- ---- the line of a group

-- entries have four fields, the last of which may be any
pub record HasMembers (test : Fields → Bool) : Type 0 where
  pub four : (fields : Fields) → test fields ≡ true → (a : List ℕ) × ((b : List ℕ) × ((c : List ℕ) × ((d : List ℕ) × (fields ≡ a ∷ b ∷ c ∷ d ∷ []))))
  pub last : (a b c d e : List ℕ) → test (a ∷ b ∷ c ∷ d ∷ []) ≡ test (a ∷ b ∷ c ∷ e ∷ [])

pub group_members : HasMembers is_group
group_members = record { four = four; last = λ a b c d e. refl }
  where
    four : (fields : Fields) → is_group fields ≡ true → (a : List ℕ) × ((b : List ℕ) × ((c : List ℕ) × ((d : List ℕ) × (fields ≡ a ∷ b ∷ c ∷ d ∷ []))))
    four [] h = absurd (let no : false ≡ true = h in cc)
    four (a ∷ []) h = absurd (let no : false ≡ true = h in cc)
    four (a ∷ b ∷ []) h = absurd (let no : false ≡ true = h in cc)
    four (a ∷ b ∷ c ∷ []) h = absurd (let no : false ≡ true = h in cc)
    four (a ∷ b ∷ c ∷ d ∷ []) h = (a, (b, (c, (d, refl))))
    four (a ∷ b ∷ c ∷ d ∷ e ∷ fields) h = absurd (let no : false ≡ true = h in cc)

pub gshadow_members : HasMembers is_gshadow
gshadow_members = record { four = four; last = λ a b c d e. refl }
  where
    four : (fields : Fields) → is_gshadow fields ≡ true → (a : List ℕ) × ((b : List ℕ) × ((c : List ℕ) × ((d : List ℕ) × (fields ≡ a ∷ b ∷ c ∷ d ∷ []))))
    four [] h = absurd (let no : false ≡ true = h in cc)
    four (a ∷ []) h = absurd (let no : false ≡ true = h in cc)
    four (a ∷ b ∷ []) h = absurd (let no : false ≡ true = h in cc)
    four (a ∷ b ∷ c ∷ []) h = absurd (let no : false ≡ true = h in cc)
    four (a ∷ b ∷ c ∷ d ∷ []) h = (a, (b, (c, (d, refl))))
    four (a ∷ b ∷ c ∷ d ∷ e ∷ fields) h = absurd (let no : false ≡ true = h in cc)

-- a line that is an entry, by its fields
record IsLine (test : Fields → Bool) (line a b c d : List ℕ) : Type 0 where
  fields : fields_of line ≡ a ∷ b ∷ c ∷ d ∷ []
  passes : test (a ∷ b ∷ c ∷ d ∷ []) ≡ true

line_named : (test : Fields → Bool) (line a b c d name : List ℕ) → IsLine test line a b c d → is_entry_named test name line ≡ bytes_eq a name
line_named test line a b c d name is = rw (is.fields, is.passes) refl

line_pair : (test : Fields → Bool) (line a b c d : List ℕ) → IsLine test line a b c d → named_in test line ≡ option_map (λ id. (a, id)) (decimal_id c)
line_pair test line a b c d is = rw (is.fields, is.passes) refl

line_members : (test : Fields → Bool) (line a b c d : List ℕ) → IsLine test line a b c d → members_of test line ≡ d
line_members test line a b c d is = rw (is.fields, is.passes) refl

passes_named : (test : Fields → Bool) (name line : List ℕ) → is_entry_named test name line ≡ true → test (fields_of line) ≡ true
passes_named test name line h = by (test (fields_of line)) refl
  where
    by : (b : Bool) → test (fields_of line) ≡ b → b ≡ true
    by true e = refl
    by false e = let no : false ≡ true = rw e at h in no

-- the fields of a line that is an entry
record IsEntryLine (test : Fields → Bool) (line : List ℕ) : Type 0 where
  a : List ℕ
  b : List ℕ
  c : List ℕ
  d : List ℕ
  is : IsLine test line a b c d

module _ (test : Fields → Bool) (has : HasMembers test) where
  entry_line : (name line : List ℕ) → is_entry_named test name line ≡ true → IsEntryLine test line
  entry_line name line h =
      let passes : test (fields_of line) ≡ true = passes_named test name line h in
      let found = has.four (fields_of line) passes in
      record {
        a = found.0;
        b = found.1.0;
        c = found.1.1.0;
        d = found.1.1.1.0;
        is = record { fields = found.1.1.1.1; passes = sym (ap test found.1.1.1.1) ∙ passes };
      }

  module _ (user : List ℕ) (plain : IsPlain user) where
    suffix_lacks : (members : List ℕ) → lacks 58 (member_suffix user members) ≡ true
    suffix_lacks [] = plain.colon
    suffix_lacks (b ∷ bs) = plain.colon

    -- the line with the user among the members
    line_longer : (line a b c d : List ℕ) → IsLine test line a b c d → IsLine test (longer test user line) a b c (grown user d)
    line_longer line a b c d is = record {
      fields = rw (line_members test line a b c d is) (by_test (is_member user d));
      passes = has.last a b c (grown user d) d ∙ is.passes;
    }
      where
        by_test : (t : Bool) → fields_of (if t then line else line ++ member_suffix user d) ≡ a ∷ b ∷ c ∷ (if t then d else d ++ member_suffix user d) ∷ []
        by_test true = is.fields
        by_test false = split_after 58 line (member_suffix user d) (suffix_lacks d) ∙ ap (with_last (member_suffix user d)) is.fields

    -- its name, its ID and its members
    longer_named : (group name line : List ℕ) → is_entry_named test group line ≡ true → is_entry_named test name (longer test user line) ≡ is_entry_named test name line
    longer_named group name line h =
        let e = entry_line group line h in
        line_named test (longer test user line) e.a e.b e.c (grown user e.d) name (line_longer line e.a e.b e.c e.d e.is)
        ∙ sym (line_named test line e.a e.b e.c e.d name e.is)

    longer_pair : (group line : List ℕ) → is_entry_named test group line ≡ true → named_in test (longer test user line) ≡ named_in test line
    longer_pair group line h =
        let e = entry_line group line h in
        line_pair test (longer test user line) e.a e.b e.c (grown user e.d) (line_longer line e.a e.b e.c e.d e.is)
        ∙ sym (line_pair test line e.a e.b e.c e.d e.is)

    longer_is : (group line : List ℕ) → is_entry_named test group line ≡ true → is_member user (members_of test (longer test user line)) ≡ true
    longer_is group line h =
        let e = entry_line group line h in
        ap (is_member user) (line_members test (longer test user line) e.a e.b e.c (grown user e.d) (line_longer line e.a e.b e.c e.d e.is))
        ∙ is_grown user plain e.d

    longer_kept : (group other line : List ℕ) → is_entry_named test group line ≡ true → is_member other (members_of test line) ≡ true → is_member other (members_of test (longer test user line)) ≡ true
    longer_kept group other line h k =
        let e = entry_line group line h in
        ap (is_member other) (line_members test (longer test user line) e.a e.b e.c (grown user e.d) (line_longer line e.a e.b e.c e.d e.is))
        ∙ is_kept user plain other e.d (sym (ap (is_member other) (line_members test line e.a e.b e.c e.d e.is)) ∙ k)

-- ---- the lines of a file

-- whether a user is among the members of a group, where it has an entry
abbrev pub is_in : (Fields → Bool) → List ℕ → List ℕ → List (List ℕ) → Bool
is_in test group user [] = true
is_in test group user (line ∷ lines) = if is_entry_named test group line then is_member user (members_of test line) else is_in test group user lines

module _ (test : Fields → Bool) (has : HasMembers test) where
  -- one who is there is not added
  stays : (group user : List ℕ) (lines : List (List ℕ)) → is_in test group user lines ≡ true → with_member test group user lines ≡ lines
  stays group user [] h = refl
  stays group user (l ∷ ls) h = by_test (is_entry_named test group l) h (stays group user ls)
    where
      by_test : (b : Bool) → (if b then is_member user (members_of test l) else is_in test group user ls) ≡ true → (is_in test group user ls ≡ true → with_member test group user ls ≡ ls)
          → (if b then longer test user l ∷ ls else l ∷ with_member test group user ls) ≡ l ∷ ls
      by_test true k rest = ap (λ t. (if t then l else l ++ member_suffix user (members_of test l)) ∷ ls) k
      by_test false k rest = ap (λ (ms : List (List ℕ)). l ∷ ms) (rest k)

  module _ (group user : List ℕ) (plain : IsPlain user) where
    -- one who was added is there
    added : (lines : List (List ℕ)) → is_in test group user (with_member test group user lines) ≡ true
    added [] = refl
    added (l ∷ ls) = by_test (is_entry_named test group l) refl (added ls)
      where
        by_test : (b : Bool) → is_entry_named test group l ≡ b → is_in test group user (with_member test group user ls) ≡ true
            → is_in test group user (if b then longer test user l ∷ ls else l ∷ with_member test group user ls) ≡ true
        by_test true e rest =
            ap (λ t. if t then is_member user (members_of test (longer test user l)) else is_in test group user ls) (longer_named test has user plain group group l e ∙ e)
            ∙ longer_is test has user plain group l e
        by_test false e rest = ap (λ t. if t then is_member user (members_of test l) else is_in test group user (with_member test group user ls)) e ∙ rest

    -- and one who was there stays
    kept : (other name : List ℕ) (lines : List (List ℕ)) → is_in test other name lines ≡ true → is_in test other name (with_member test group user lines) ≡ true
    kept other name [] h = refl
    kept other name (l ∷ ls) h = by_test (is_entry_named test group l) refl (kept other name ls)
      where
        long : is_entry_named test group l ≡ true → (b : Bool) → (if b then is_member name (members_of test l) else is_in test other name ls) ≡ true
            → (if b then is_member name (members_of test (longer test user l)) else is_in test other name ls) ≡ true
        long e true k = longer_kept test has user plain group name l e k
        long e false k = k

        same : (b : Bool) → (if b then is_member name (members_of test l) else is_in test other name ls) ≡ true → (is_in test other name ls ≡ true → is_in test other name (with_member test group user ls) ≡ true)
            → (if b then is_member name (members_of test l) else is_in test other name (with_member test group user ls)) ≡ true
        same true k rest = k
        same false k rest = rest k

        by_test : (b : Bool) → is_entry_named test group l ≡ b → (is_in test other name ls ≡ true → is_in test other name (with_member test group user ls) ≡ true)
            → is_in test other name (if b then longer test user l ∷ ls else l ∷ with_member test group user ls) ≡ true
        by_test true e rest =
            ap (λ t. if t then is_member name (members_of test (longer test user l)) else is_in test other name ls) (longer_named test has user plain group other l e)
            ∙ long e (is_entry_named test other l) h
        by_test false e rest = same (is_entry_named test other l) h rest

    -- the names and IDs of the entries stay
    pairs_kept : (lines : List (List ℕ)) → pairs test (with_member test group user lines) ≡ pairs test lines
    pairs_kept [] = refl
    pairs_kept (l ∷ ls) = by_test (is_entry_named test group l) refl (pairs_kept ls)
      where
        by_test : (b : Bool) → is_entry_named test group l ≡ b → pairs test (with_member test group user ls) ≡ pairs test ls
            → pairs test (if b then longer test user l ∷ ls else l ∷ with_member test group user ls) ≡ pairs test (l ∷ ls)
        by_test true e rest = ap (λ o. cons_option o (pairs test ls)) (longer_pair test has user plain group l e)
        by_test false e rest = ap (cons_option (named_in test l)) rest

    -- and so do their names
    named_kept : (name : List ℕ) (lines : List (List ℕ)) → list_any (is_entry_named test name) (with_member test group user lines) ≡ list_any (is_entry_named test name) lines
    named_kept name [] = refl
    named_kept name (l ∷ ls) = by_test (is_entry_named test group l) refl (named_kept name ls)
      where
        by_test : (b : Bool) → is_entry_named test group l ≡ b → list_any (is_entry_named test name) (with_member test group user ls) ≡ list_any (is_entry_named test name) ls
            → list_any (is_entry_named test name) (if b then longer test user l ∷ ls else l ∷ with_member test group user ls) ≡ list_any (is_entry_named test name) (l ∷ ls)
        by_test true e rest = ap (λ t. t || list_any (is_entry_named test name) ls) (longer_named test has user plain group name l e)
        by_test false e rest = ap (λ t. is_entry_named test name l || t) rest

-- ---- files

-- a file with a user among the members of a group
abbrev pub with_member_in : (Fields → Bool) → List ℕ → List ℕ → List ℕ → List ℕ
with_member_in test group user file = text_of (with_member test group user (lines_of file))

module _ (test : Fields → Bool) (has : HasMembers test) (group user : List ℕ) where
  pub file_stays : (file : List ℕ) → is_in test group user (lines_of file) ≡ true → with_member_in test group user file ≡ file
  file_stays file h = ap text_of (stays test has group user (lines_of file) h) ∙ join_with_byte-slice_split 10 file

  module _ (plain : IsPlain user) where
    abbrev more : List ℕ → List ℕ
    more file = with_member_in test group user file

    lines_more : (file : List ℕ) → lines_of (more file) ≡ with_member test group user (lines_of file)
    lines_more file = member_lines test group user file plain.ending

    pub file_added : (file : List ℕ) → is_in test group user (lines_of (more file)) ≡ true
    file_added file = ap (is_in test group user) (lines_more file) ∙ added test has group user plain (lines_of file)

    pub file_kept : (other name file : List ℕ) → is_in test other name (lines_of file) ≡ true → is_in test other name (lines_of (more file)) ≡ true
    file_kept other name file h = ap (is_in test other name) (lines_more file) ∙ kept test has group user plain other name (lines_of file) h

    pub file_pairs : (file : List ℕ) → pairs test (lines_of (more file)) ≡ pairs test (lines_of file)
    file_pairs file = ap (pairs test) (lines_more file) ∙ pairs_kept test has group user plain (lines_of file)

    pub file_named : (name file : List ℕ) → list_any (is_entry_named test name) (lines_of (more file)) ≡ list_any (is_entry_named test name) (lines_of file)
    file_named name file = ap (list_any (is_entry_named test name)) (lines_more file) ∙ named_kept test has group user plain name (lines_of file)
