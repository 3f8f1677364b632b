-- What edited account files read as: new entries are found, all others are found as before, and a member who is there is
-- not added again.
use Rattle.std.proofs.Common.{◌≡◌, ℕ, Bool, true, false, ◌||◌, List, [], ◌∷◌, ◌++◌, find, Option, Some, None, is_some, option_map, refl, sym, ap, subst, ◌∙◌, cond, if◌then◌else◌}
use Rattle.std.specs.List.{list_any, list_all, cons_option, filter_map}
use Rattle.std.specs.Option.{option_map_or, option_or}
use Rattle.std.specs.Str.{bytes_eq}
use Rattle.std.proofs.lemmas.List.Elements.{filter_map-append}
use Rattle.std.proofs.lemmas.List.Folds.{list_all-append, list_any-append}
use Rattle.std.proofs.lemmas.Slice.Eq.{bytes_eq-Decides}
use Rattle.std.proofs.lemmas.Bool.{and_parts}
use Rattle.pv_acl.specs.NamedEntries.{is_id}
use Rattle.pv_acl.specs.Numbers.{number_of}
use Rattle.pv_acl.specs.Spelling.{decimal_id}
use Rattle.pv_acl.proofs.Splitting.{lacks}
use Rattle.pv_accounts.specs.Edits.{appended, is_behind_new, is_end, lacks_end, with_entries}
use Rattle.pv_accounts.specs.Entries.{entry_of, is_entry_name}
use Rattle.pv_accounts.specs.Files.{entries_of, has_name, id_in, lines_of, name_of}
use Rattle.pv_accounts.specs.InUse.{AreApart, Ids, id_of, ids_of, named_in, with_line, with_lines}
use Rattle.pv_accounts.specs.Kinds.{is_entry_named}
use Rattle.pv_accounts.proofs.Counting.{apart_more}
use Rattle.pv_accounts.proofs.Ends.{HasLine, lines_back, lines_lack}
use Rattle.pv_accounts.proofs.Holding.{Fields}
use Rattle.pv_path.proofs.Tests.{none_of, option_or-none}

-- a name without colons, commas and line ends, which an entry may have
pub record IsPlain (name : List ℕ) : Type 0 where
  pub colon : lacks 58 name ≡ true
  pub comma : lacks 44 name ≡ true
  pub ending : lacks 10 name ≡ true
  pub entry : is_entry_name name ≡ true

-- ---- the lines of a file with new entries

entries_lack : (entries lines : List (List ℕ)) → list_all lacks_end entries ≡ true → list_all lacks_end lines ≡ true → list_all lacks_end (with_entries entries lines) ≡ true
entries_lack entries [] e h = rw (list_all-append lacks_end entries ([] ∷ []), e) refl
entries_lack entries (l ∷ ls) e h =
    let parts = and_parts (lacks_end l) (list_all lacks_end ls) h in
    by_test (is_behind_new (is_end ls) l) parts.0 parts.1 (entries_lack entries ls e parts.1)
  where
    by_test : (b : Bool) → lacks_end l ≡ true → list_all lacks_end ls ≡ true → list_all lacks_end (with_entries entries ls) ≡ true
        → list_all lacks_end (if b then entries ++ l ∷ ls else l ∷ with_entries entries ls) ≡ true
    by_test true here after rest = rw (list_all-append lacks_end entries (l ∷ ls), e, here) after
    by_test false here after rest = rw here rest

some_after : (entries : List (List ℕ)) (l : List ℕ) (ls : List (List ℕ)) → HasLine (entries ++ l ∷ ls)
some_after [] l ls = (l, (ls, refl))
some_after (e ∷ es) l ls = (e, (es ++ l ∷ ls, refl))

entries_some : (entries lines : List (List ℕ)) → HasLine (with_entries entries lines)
entries_some entries [] = some_after entries [] []
entries_some entries (l ∷ ls) = by_test (is_behind_new (is_end ls) l)
  where
    by_test : (b : Bool) → HasLine (if b then entries ++ l ∷ ls else l ∷ with_entries entries ls)
    by_test true = some_after entries l ls
    by_test false = (l, (with_entries entries ls, refl))

-- the lines of a file with entries more
pub appended_lines : (e : List ℕ) (es : List (List ℕ)) (file : List ℕ) → list_all lacks_end (e ∷ es) ≡ true → lines_of (appended (e ∷ es) file) ≡ with_entries (e ∷ es) (lines_of file)
appended_lines e es file h =
    lines_back (with_entries (e ∷ es) (lines_of file)) (entries_some (e ∷ es) (lines_of file)) (entries_lack (e ∷ es) (lines_of file) h (lines_lack file))

-- ---- which names have entries

or_swap : (a b c : Bool) → (a || (b || c)) ≡ (b || (a || c))
or_swap true true c = refl
or_swap true false c = refl
or_swap false b c = refl

any_entries : (p : List ℕ → Bool) → p [] ≡ false → (entries lines : List (List ℕ)) → list_any p (with_entries entries lines) ≡ (list_any p entries || list_any p lines)
any_entries p none entries [] = list_any-append p entries ([] ∷ []) ∙ ap (λ b. list_any p entries || (b || false)) none
any_entries p none entries (l ∷ ls) = by_test (is_behind_new (is_end ls) l) (any_entries p none entries ls)
  where
    by_test : (b : Bool) → list_any p (with_entries entries ls) ≡ (list_any p entries || list_any p ls)
        → list_any p (if b then entries ++ l ∷ ls else l ∷ with_entries entries ls) ≡ (list_any p entries || (p l || list_any p ls))
    by_test true rest = list_any-append p entries (l ∷ ls)
    by_test false rest = ap (λ b. p l || b) rest ∙ or_swap (p l) (list_any p entries) (list_any p ls)

-- whether a test passes some line of a file with entries more
pub any_appended : (p : List ℕ → Bool) → p [] ≡ false → (entries : List (List ℕ)) (file : List ℕ) → list_all lacks_end entries ≡ true → list_any p (lines_of (appended entries file)) ≡ (list_any p entries || list_any p (lines_of file))
any_appended p none [] file h = refl
any_appended p none (e ∷ es) file h = ap (list_any p) (appended_lines e es file h) ∙ any_entries p none (e ∷ es) (lines_of file)

-- whether a name has an entry, looked for in the lines
pub named_any : (test : Fields → Bool) (name : List ℕ) (lines : List (List ℕ)) → is_some (find (has_name name) (entries_of test lines)) ≡ list_any (is_entry_named test name) lines
named_any test name [] = refl
named_any test name (l ∷ ls) = by_line (entry_of test l) (named_any test name ls)
  where
    by_name : (b : Bool) (f : Fields) → is_some (find (has_name name) (entries_of test ls)) ≡ list_any (is_entry_named test name) ls
        → is_some (cond b (Some f) (find (has_name name) (entries_of test ls))) ≡ (b || list_any (is_entry_named test name) ls)
    by_name true f rest = refl
    by_name false f rest = rest

    by_line : (o : Option Fields) → is_some (find (has_name name) (entries_of test ls)) ≡ list_any (is_entry_named test name) ls
        → is_some (find (has_name name) (cons_option o (entries_of test ls))) ≡ (option_map_or (has_name name) o false || list_any (is_entry_named test name) ls)
    by_line None rest = rest
    by_line (Some f) rest = by_name (has_name name f) f rest

-- ---- names with their IDs

pub or_assoc : {A : Type 0} (a b c : Option A) → option_or (option_or a b) c ≡ option_or a (option_or b c)
or_assoc None b c = refl
or_assoc (Some x) b c = refl

or_some : {A : Type 0} (a b c : Option A) → is_some a ≡ true → option_or a b ≡ option_or a c
or_some None b c h = absurd (let no : false ≡ true = h in cc)
or_some (Some x) b c h = refl

or_turned : {A : Type 0} (a b : Option A) → (is_some a ≡ true → b ≡ None) → option_or a b ≡ option_or b a
or_turned None b h = sym (option_or-none b)
or_turned {A} (Some x) b h = subst (λ (o : Option A). option_or (Some x) o ≡ option_or o (Some x)) (sym (h refl)) refl

pub id_append : (a b : Ids) (name : List ℕ) → id_of (a ++ b) name ≡ option_or (id_of a name) (id_of b name)
id_append [] b name = refl
id_append (held ∷ a) b name = by (bytes_eq name held.0) (id_append a b name)
  where
    by : (t : Bool) → id_of (a ++ b) name ≡ option_or (id_of a name) (id_of b name) → cond t (Some held.1) (id_of (a ++ b) name) ≡ option_or (cond t (Some held.1) (id_of a name)) (id_of b name)
    by true rest = refl
    by false rest = rest

-- the names and IDs of all lines that are entries
abbrev pub pairs : (Fields → Bool) → List (List ℕ) → Ids
pairs test lines = filter_map (named_in test) lines

id_lines : (test : Fields → Bool) (lines : List (List ℕ)) (ids : Ids) (name : List ℕ) → id_of (with_lines test ids lines) name ≡ option_or (id_of ids name) (id_of (pairs test lines) name)
id_lines test [] ids name = sym (option_or-none (id_of ids name))
id_lines test (l ∷ ls) ids name = id_lines test ls (with_line test ids l) name ∙ by (named_in test l) refl
  where
    joined : (t : Bool) (n : ℕ) → option_or (cond t (Some n) None) (id_of (pairs test ls) name) ≡ cond t (Some n) (id_of (pairs test ls) name)
    joined true n = refl
    joined false n = refl

    there : (named : List ℕ × ℕ) → is_some (id_of ids named.0) ≡ true → (t : Bool) → bytes_eq name named.0 ≡ t
        → option_or (id_of ids name) (id_of (pairs test ls) name) ≡ option_or (id_of ids name) (cond t (Some named.1) (id_of (pairs test ls) name))
    there named k false e = refl
    there named k true e =
        or_some (id_of ids name) (id_of (pairs test ls) name) (Some named.1) (ap (λ n. is_some (id_of ids n)) ((bytes_eq-Decides name named.0).0 e) ∙ k)

    known : (named : List ℕ × ℕ) (b : Bool) → is_some (id_of ids named.0) ≡ b
        → option_or (id_of (if b then ids else ids ++ named ∷ []) name) (id_of (pairs test ls) name) ≡ option_or (id_of ids name) (cond (bytes_eq name named.0) (Some named.1) (id_of (pairs test ls) name))
    known named true k = there named k (bytes_eq name named.0) refl
    known named false k =
        ap (λ o. option_or o (id_of (pairs test ls) name)) (id_append ids (named ∷ []) name)
        ∙ or_assoc (id_of ids name) (id_of (named ∷ []) name) (id_of (pairs test ls) name)
        ∙ ap (option_or (id_of ids name)) (joined (bytes_eq name named.0) named.1)

    by : (o : Option (List ℕ × ℕ)) → named_in test l ≡ o → option_or (id_of (with_line test ids l) name) (id_of (pairs test ls) name) ≡ option_or (id_of ids name) (id_of (pairs test (l ∷ ls)) name)
    by None e = rw e refl
    by (Some named) e = rw e (known named (is_some (id_of ids named.0)) refl)

-- the ID of a name in a file, looked for in the lines
pub id_file : (test : Fields → Bool) (file name : List ℕ) → id_of (ids_of test file) name ≡ id_of (pairs test (lines_of file)) name
id_file test file name = id_lines test (lines_of file) [] name

apart_lines : (test : Fields → Bool) (lines : List (List ℕ)) (ids : Ids) → AreApart ids → AreApart (with_lines test ids lines)
apart_lines test [] ids apart = apart
apart_lines test (l ∷ ls) ids apart = apart_lines test ls (with_line test ids l) (by (named_in test l) refl)
  where
    known : (named : List ℕ × ℕ) (b : Bool) → is_some (id_of ids named.0) ≡ b → AreApart (if b then ids else ids ++ named ∷ [])
    known named true k = apart
    known named false k = apart_more ids named.0 named.1 apart (none_of (id_of ids named.0) k)

    by : (o : Option (List ℕ × ℕ)) → named_in test l ≡ o → AreApart (with_line test ids l)
    by None e = rw e apart
    by (Some named) e = rw e (known named (is_some (id_of ids named.0)) refl)

pub apart_file : (test : Fields → Bool) (file : List ℕ) → AreApart (ids_of test file)
apart_file test file = apart_lines test (lines_of file) [] tt

-- ---- IDs that are in range

-- each name has an ID that a user or a group may have
abbrev pub AreIds : Ids → Type 0
AreIds ids = (name : List ℕ) (n : ℕ) → id_of ids name ≡ Some n → is_id n ≡ true

decimal_is : (text : List ℕ) (n : ℕ) → decimal_id text ≡ Some n → is_id n ≡ true
decimal_is text n h = by (number_of text) refl
  where
    tested : (m : ℕ) (b : Bool) → is_id m ≡ b → ◌≡◌ {A = Option ℕ} (if b then Some m else None) (Some n) → is_id n ≡ true
    tested m true e k = let same : m ≡ n = cc in subst (λ (x : ℕ). is_id x ≡ true) same e
    tested m false e k = absurd (let no : ◌≡◌ {A = Option ℕ} None (Some n) = k in cc)

    by : (o : Option ℕ) → number_of text ≡ o → is_id n ≡ true
    by None e = absurd (let no : ◌≡◌ {A = Option ℕ} None (Some n) = rw e at h in cc)
    by (Some m) e = let k : ◌≡◌ {A = Option ℕ} (if is_id m then Some m else None) (Some n) = rw e at h in tested m (is_id m) refl k

id_in-is : (fields : Fields) (n : ℕ) → id_in fields ≡ Some n → is_id n ≡ true
id_in-is [] n h = absurd (let no : ◌≡◌ {A = Option ℕ} None (Some n) = h in cc)
id_in-is (a ∷ []) n h = absurd (let no : ◌≡◌ {A = Option ℕ} None (Some n) = h in cc)
id_in-is (a ∷ b ∷ []) n h = absurd (let no : ◌≡◌ {A = Option ℕ} None (Some n) = h in cc)
id_in-is (a ∷ b ∷ c ∷ fields) n h = decimal_is c n h

named_is : (test : Fields → Bool) (line : List ℕ) (named : List ℕ × ℕ) → named_in test line ≡ Some named → is_id named.1 ≡ true
named_is test line named h = by (entry_of test line) refl
  where
    some : (fields : Fields) (o : Option ℕ) → id_in fields ≡ o → option_map (λ id. (name_of fields, id)) o ≡ Some named → is_id named.1 ≡ true
    some fields None e k = absurd (let no : ◌≡◌ {A = Option (List ℕ × ℕ)} None (Some named) = k in cc)
    some fields (Some n) e k =
        let whole : ◌≡◌ {A = Option (List ℕ × ℕ)} (Some (name_of fields, n)) (Some named) = k in
        let same : (name_of fields, n) ≡ named = cc in
        id_in-is fields named.1 (e ∙ ap (λ (p : List ℕ × ℕ). Some p.1) same)

    by : (o : Option Fields) → entry_of test line ≡ o → is_id named.1 ≡ true
    by None e = absurd (let no : ◌≡◌ {A = Option (List ℕ × ℕ)} None (Some named) = rw e at h in cc)
    by (Some fields) e = let k : option_map (λ id. (name_of fields, id)) (id_in fields) ≡ Some named = rw e at h in some fields (id_in fields) refl k

ids_lines : (test : Fields → Bool) (lines : List (List ℕ)) → AreIds (pairs test lines)
ids_lines test [] name n h = absurd (let no : ◌≡◌ {A = Option ℕ} None (Some n) = h in cc)
ids_lines test (l ∷ ls) name n h = by (named_in test l) refl (ids_lines test ls name n)
  where
    by_name : (named : List ℕ × ℕ) → named_in test l ≡ Some named → (id_of (pairs test ls) name ≡ Some n → is_id n ≡ true) → (b : Bool) → cond b (Some named.1) (id_of (pairs test ls) name) ≡ Some n → is_id n ≡ true
    by_name named e rest true k = let same : named.1 ≡ n = cc in subst (λ (x : ℕ). is_id x ≡ true) same (named_is test l named e)
    by_name named e rest false k = rest k

    by : (o : Option (List ℕ × ℕ)) → named_in test l ≡ o → (id_of (pairs test ls) name ≡ Some n → is_id n ≡ true) → is_id n ≡ true
    by None e rest = rest (let k : id_of (pairs test ls) name ≡ Some n = rw e at h in k)
    by (Some named) e rest = by_name named e rest (bytes_eq name named.0) (let k : cond (bytes_eq name named.0) (Some named.1) (id_of (pairs test ls) name) ≡ Some n = rw e at h in k)

pub ids_file : (test : Fields → Bool) (file : List ℕ) → AreIds (ids_of test file)
ids_file test file name n h = ids_lines test (lines_of file) name n (sym (id_file test file name) ∙ h)

-- ---- names that new entries add

id_entries : (test : Fields → Bool) → named_in test [] ≡ None → (entries lines : List (List ℕ)) (name : List ℕ)
    → (is_some (id_of (pairs test entries) name) ≡ true → id_of (pairs test lines) name ≡ None)
    → id_of (pairs test (with_entries entries lines)) name ≡ option_or (id_of (pairs test lines) name) (id_of (pairs test entries) name)
id_entries test none entries [] name apart =
    ap (λ (ids : Ids). id_of ids name) (filter_map-append (named_in test) entries ([] ∷ []) ∙ ap (λ o. pairs test entries ++ cons_option o []) none)
    ∙ id_append (pairs test entries) [] name ∙ option_or-none (id_of (pairs test entries) name)
id_entries test none entries (l ∷ ls) name apart = by_test (is_behind_new (is_end ls) l) (id_entries test none entries ls name)
  where
    by_test : (b : Bool)
        → ((is_some (id_of (pairs test entries) name) ≡ true → id_of (pairs test ls) name ≡ None)
        → id_of (pairs test (with_entries entries ls)) name ≡ option_or (id_of (pairs test ls) name) (id_of (pairs test entries) name))
        → id_of (pairs test (if b then entries ++ l ∷ ls else l ∷ with_entries entries ls)) name ≡ option_or (id_of (pairs test (l ∷ ls)) name) (id_of (pairs test entries) name)
    by_test true rest =
        ap (λ (ids : Ids). id_of ids name) (filter_map-append (named_in test) entries (l ∷ ls))
        ∙ id_append (pairs test entries) (pairs test (l ∷ ls)) name
        ∙ or_turned (id_of (pairs test entries) name) (id_of (pairs test (l ∷ ls)) name) apart
    by_test false rest = by_line (named_in test l) apart rest
      where
        by_name : (h : List ℕ × ℕ) (t : Bool) → (is_some (id_of (pairs test entries) name) ≡ true → cond t (Some h.1) (id_of (pairs test ls) name) ≡ None)
            → ((is_some (id_of (pairs test entries) name) ≡ true → id_of (pairs test ls) name ≡ None)
            → id_of (pairs test (with_entries entries ls)) name ≡ option_or (id_of (pairs test ls) name) (id_of (pairs test entries) name))
            → cond t (Some h.1) (id_of (pairs test (with_entries entries ls)) name) ≡ option_or (cond t (Some h.1) (id_of (pairs test ls) name)) (id_of (pairs test entries) name)
        by_name h true apart rest = refl
        by_name h false apart rest = rest apart

        by_line : (o : Option (List ℕ × ℕ)) → (is_some (id_of (pairs test entries) name) ≡ true → id_of (cons_option o (pairs test ls)) name ≡ None)
            → ((is_some (id_of (pairs test entries) name) ≡ true → id_of (pairs test ls) name ≡ None)
            → id_of (pairs test (with_entries entries ls)) name ≡ option_or (id_of (pairs test ls) name) (id_of (pairs test entries) name))
            → id_of (cons_option o (pairs test (with_entries entries ls))) name ≡ option_or (id_of (cons_option o (pairs test ls)) name) (id_of (pairs test entries) name)
        by_line None apart rest = rest apart
        by_line (Some h) apart rest = by_name h (bytes_eq name h.0) apart rest

-- the IDs of names in a file with entries more, none of whose names was there
pub id_appended : (test : Fields → Bool) → named_in test [] ≡ None → (entries : List (List ℕ)) (file : List ℕ) → list_all lacks_end entries ≡ true → (name : List ℕ)
    → (is_some (id_of (pairs test entries) name) ≡ true → id_of (ids_of test file) name ≡ None)
    → id_of (ids_of test (appended entries file)) name ≡ id_of (ids_of test file ++ pairs test entries) name
id_appended test none [] file h name apart = sym (id_append (ids_of test file) [] name ∙ option_or-none (id_of (ids_of test file) name))
id_appended test none (e ∷ es) file h name apart =
    id_file test (appended (e ∷ es) file) name
    ∙ ap (λ ls. id_of (pairs test ls) name) (appended_lines e es file h)
    ∙ id_entries test none (e ∷ es) (lines_of file) name (λ some. sym (id_file test file name) ∙ apart some)
    ∙ ap (λ o. option_or o (id_of (pairs test (e ∷ es)) name)) (sym (id_file test file name))
    ∙ sym (id_append (ids_of test file) (pairs test (e ∷ es)) name)
