-- An ACL is what the entries of its own text make of its base entries.
use Rattle.std.proofs.Common.{◌≡◌, ◌≢◌, ◌≤◌, ℕ, ◌%◌, ◌/◌, Bool, true, false, ◌==◌, List, [], ◌∷◌, ◌++◌, map, filter, fold, Option, Some, None, Ok, codes, refl, sym, ap, ◌∙◌, arith, append_assoc, append-nil, if◌then◌else◌}
use Rattle.std.specs.List.{list_all, slice_split, join_with_byte}
use Rattle.std.specs.Option.{is_some, option_map_or}
use Rattle.std.specs.Result.{result_ok}
use Rattle.std.specs.Ordering.{is_lt}
use Rattle.std.specs.Str.{bytes_eq}
use Rattle.std.proofs.lemmas.Bool.Decides.{nat_tests}
use Rattle.std.proofs.lemmas.Slice.Eq.{bytes_eq-Decides}
use Rattle.std.proofs.lemmas.List.Folds.{list_all-append}
use Rattle.std.proofs.lemmas.List.Sums.{fold-append}
use Rattle.std.proofs.lemmas.Bool.{and_parts}
use Rattle.pv_acl.specs.declared.line.Entry.{Entry}
use Rattle.pv_acl.specs.declared.line.Entry.TheVariants as entry
use Rattle.pv_acl.specs.declared.line.AclLine.{AclLine}
use Rattle.pv_acl.specs.declared.line.How.TheVariants.{Add}
use Rattle.pv_acl.specs.declared.part.Part.{Part}
use Rattle.pv_acl.specs.declared.part.Acl.{Acl}
use Rattle.pv_acl.specs.declared.perm.Who.{Who}
use Rattle.pv_acl.specs.declared.perm.Who.TheVariants.{User, Group}
use Rattle.pv_acl.specs.declared.perm.Named.{Named}
use Rattle.pv_acl.specs.Applying.{put_entry, part_after, default_after, acl_after}
use Rattle.pv_acl.specs.Entries.{text_entry_of, line_of, acl_line_of}
use Rattle.pv_acl.specs.NamedEntries.{who_cmp, is_before, all_before, is_ordered, is_named, is_perm, put_named}
use Rattle.pv_acl.specs.Parts.{is_part, is_acl, base_of, part_of_mode, acl_of_mode}
use Rattle.pv_acl.specs.Spelling.{IsSpelt, decimal_id}
use Rattle.pv_acl.specs.Texts.{perm_text, named_text, mask_texts, access_texts, default_texts, part_texts, is_user, is_group, or_dash, acl_text}
use Rattle.pv_acl.proofs.Allowed.{IsAllowed, allowed_of}
use Rattle.pv_acl.proofs.Order.{who_asym}
use Rattle.pv_acl.proofs.Putting.{is_ordered-filter}
use Rattle.pv_acl.proofs.Rereading.{AllRead, read_both, read_names, read_mask, read_line, plain_line, mask_entries, reads_owner, reads_group, reads_other}
use Rattle.pv_acl.proofs.Splitting.{lacks, split_join}
use Rattle.pv_acl.proofs.Filters.{filter_whole, list_all-filter}

-- an entry put after all others
put_last : (ys : List Named) (y : Named) → all_before ys y ≡ true → put_named y ys ≡ ys ++ y ∷ []
put_last ys y h = rw (filter_whole (λ x. is_before x y) ys h, none_after ys h) refl
  where
    none_after : (zs : List Named) → all_before zs y ≡ true → filter (is_before y) zs ≡ []
    none_after [] k = refl
    none_after (z ∷ zs) k =
        let parts = and_parts (is_before z y) (all_before zs y) k in
        rw (who_asym z.who y.who parts.0) (none_after zs parts.1)

-- entries before another in a list that is in order
before_of : (ys : List Named) (x : Named) (xs : List Named) → is_ordered (ys ++ x ∷ xs) ≡ true → all_before ys x ≡ true
before_of [] x xs o = refl
before_of (y ∷ ys) x xs o =
    let parts = and_parts (list_all (is_before y) (ys ++ x ∷ xs)) (is_ordered (ys ++ x ∷ xs)) o in
    let cut = and_parts (list_all (is_before y) ys) (list_all (is_before y) (x ∷ xs)) (sym (list_all-append (is_before y) ys (x ∷ xs)) ∙ parts.0) in
    let here = and_parts (is_before y x) (list_all (is_before y) xs) cut.1 in
    rw here.0 (before_of ys x xs parts.1)

put_names : (xs ys : List Named) (part : Part) → is_ordered (ys ++ xs) ≡ true → fold put_entry (record part { named = ys }) (map (λ x. entry.Named x) xs) ≡ record part { named = ys ++ xs }
put_names [] ys part o = ap (λ (zs : List Named). record part { named = zs }) (sym (append-nil ys))
put_names (x ∷ xs) ys part o =
    let glued : (ys ++ x ∷ []) ++ xs ≡ ys ++ x ∷ xs = append_assoc ys (x ∷ []) xs in
    ap (λ (zs : List Named). fold put_entry (record part { named = zs }) (map (λ x. entry.Named x) xs)) (put_last ys x (before_of ys x xs o))
    ∙ put_names xs (ys ++ x ∷ []) part (rw glued o)
    ∙ ap (λ (zs : List Named). record part { named = zs }) glued

put_mask : (mask : Option ℕ) (part : Part) → part.mask ≡ None → fold put_entry part (mask_entries mask) ≡ record part { mask = mask }
put_mask None part h = ap (λ (m : Option ℕ). record part { mask = m }) h
put_mask (Some p) part h = refl

pub after_add : (part : Part) (es : List Entry) → part_after Add part es ≡ fold put_entry part es
after_add part [] = refl
after_add part (e ∷ es) = refl

-- the entries of a part except for the base entries
abbrev pub access_entries : Part → List Entry
access_entries part = map (λ x. entry.Named x) part.named ++ mask_entries part.mask

access_is : (part : Part) → is_ordered part.named ≡ true → part_after Add (base_of part) (access_entries part) ≡ part
access_is part o =
    after_add (base_of part) (access_entries part)
    ∙ fold-append put_entry (base_of part) (map (λ x. entry.Named x) part.named) (mask_entries part.mask)
    ∙ ap (λ (p : Part). fold put_entry p (mask_entries part.mask)) (put_names part.named [] (base_of part) o)
    ∙ put_mask part.mask (record part { mask = None }) refl

-- what stands after a group is a group
kind_after : (g : ℕ) (w : Who) (p : ℕ) → is_lt (who_cmp (Group g) w) ≡ true → (is_user (record { who = w; perm = p }) ≡ false) × (is_group (record { who = w; perm = p }) ≡ true)
kind_after g (User u) p h = cc
kind_after g (Group u) p h = (refl, refl)

no_users : (g p : ℕ) (xs : List Named) → list_all (is_before (record { who = Group g; perm = p })) xs ≡ true → (filter is_user xs ≡ []) × (filter is_group xs ≡ xs)
no_users g p [] h = (refl, refl)
no_users g p (x ∷ xs) h =
    let parts = and_parts (is_before (record { who = Group g; perm = p }) x) (list_all (is_before (record { who = Group g; perm = p })) xs) h in
    let k = kind_after g x.who x.perm parts.0 in
    let r = no_users g p xs parts.1 in
    (rw k.0 r.0, rw k.1 (ap (λ (zs : List Named). x ∷ zs) r.1))

-- users and then groups are all named entries
users_first : (w : Who) (p : ℕ) (xs : List Named) → list_all (is_before (record { who = w; perm = p })) xs ≡ true → filter is_user xs ++ filter is_group xs ≡ xs
    → filter is_user (record { who = w; perm = p } ∷ xs) ++ filter is_group (record { who = w; perm = p } ∷ xs) ≡ record { who = w; perm = p } ∷ xs
users_first (User u) p xs h rest = ap (λ (zs : List Named). record { who = User u; perm = p } ∷ zs) rest
users_first (Group g) p xs h rest =
    let n = no_users g p xs h in
    rw (n.0, n.1) refl

users_groups : (xs : List Named) → is_ordered xs ≡ true → filter is_user xs ++ filter is_group xs ≡ xs
users_groups [] o = refl
users_groups (x ∷ xs) o =
    let parts = and_parts (list_all (is_before x) xs) (is_ordered xs) o in
    users_first x.who x.perm xs parts.0 (users_groups xs parts.1)

-- the entries of a part with its base entries
abbrev pub part_entries : Part → List Entry
part_entries part =
    entry.Owner part.owner ∷ map (λ x. entry.Named x) (filter is_user part.named)
    ++ entry.Group part.group ∷ map (λ x. entry.Named x) (filter is_group part.named)
    ++ mask_entries part.mask
    ++ entry.Other part.other ∷ []

default_is : (access part : Part) → is_ordered part.named ≡ true → part_after Add (base_of access) (part_entries part) ≡ part
default_is access part o =
    let users : List Named = filter is_user part.named in
    let groups : List Named = filter is_group part.named in
    let names : List Named → List Entry = λ xs. map (λ x. entry.Named x) xs in
    let base : Part = base_of access in
    let owned : Part = record base { owner = part.owner } in
    let grouped : Part = record owned { group = part.group } in
    let whole : users ++ groups ≡ part.named = users_groups part.named o in
    let first : fold put_entry base (entry.Owner part.owner ∷ names users) ≡ record owned { named = users } = put_names users [] owned (is_ordered-filter is_user part.named o) in
    let second : fold put_entry base ((entry.Owner part.owner ∷ names users) ++ entry.Group part.group ∷ names groups) ≡ record grouped { named = users ++ groups } =
    fold-append put_entry base (entry.Owner part.owner ∷ names users) (entry.Group part.group ∷ names groups)
    ∙ ap (λ (p : Part). fold put_entry p (entry.Group part.group ∷ names groups)) first
    ∙ put_names groups users grouped (rw whole o) in
    let third : fold put_entry base ((entry.Owner part.owner ∷ names users) ++ entry.Group part.group ∷ names groups ++ mask_entries part.mask) ≡ record grouped { named = users ++ groups; mask = part.mask } =
    fold-append put_entry base ((entry.Owner part.owner ∷ names users) ++ entry.Group part.group ∷ names groups) (mask_entries part.mask)
    ∙ ap (λ (p : Part). fold put_entry p (mask_entries part.mask)) second
    ∙ put_mask part.mask (record grouped { named = users ++ groups }) refl in
    fold-append put_entry base ((entry.Owner part.owner ∷ names users) ++ entry.Group part.group ∷ names groups ++ mask_entries part.mask) (entry.Other part.other ∷ [])
    ∙ ap (λ (p : Part). record p { other = part.other }) third
    ∙ ap (λ (zs : List Named). record part { named = zs }) whole

access_read : (part : Part) → IsAllowed part → AllRead false (access_texts part) (access_entries part)
access_read part h =
    read_both false (map named_text part.named) (mask_texts part.mask) (map (λ x. entry.Named x) part.named) (mask_entries part.mask) (read_names false part.named h.named)
    (read_mask false part.mask h.mask)

part_read : (part : Part) → IsAllowed part → AllRead true (part_texts part) (part_entries part)
part_read part h =
    let users : List Named = filter is_user part.named in
    let groups : List Named = filter is_group part.named in
    let names : List Named → List Entry = λ xs. map (λ x. entry.Named x) xs in
    let first : AllRead true ((codes "u::" ++ perm_text part.owner) ∷ map named_text users) (entry.Owner part.owner ∷ names users) =
    (reads_owner part.owner h.owner, read_names true users (list_all-filter is_user is_named part.named h.named)) in
    let second : AllRead true ((codes "g::" ++ perm_text part.group) ∷ map named_text groups) (entry.Group part.group ∷ names groups) =
    (reads_group part.group h.group, read_names true groups (list_all-filter is_group is_named part.named h.named)) in
    let last : AllRead true ((codes "o::" ++ perm_text part.other) ∷ []) (entry.Other part.other ∷ []) = (reads_other part.other h.other, tt) in
    read_both true
    ((codes "u::" ++ perm_text part.owner) ∷ map named_text users ++ (codes "g::" ++ perm_text part.group) ∷ map named_text groups ++ mask_texts part.mask)
    ((codes "o::" ++ perm_text part.other) ∷ [])
    (entry.Owner part.owner ∷ names users ++ entry.Group part.group ∷ names groups ++ mask_entries part.mask)
    (entry.Other part.other ∷ [])
    (read_both true ((codes "u::" ++ perm_text part.owner) ∷ map named_text users ++ (codes "g::" ++ perm_text part.group) ∷ map named_text groups)
    (mask_texts part.mask) (entry.Owner part.owner ∷ names users ++ entry.Group part.group ∷ names groups) (mask_entries part.mask)
    (read_both true ((codes "u::" ++ perm_text part.owner) ∷ map named_text users) ((codes "g::" ++ perm_text part.group) ∷ map named_text groups)
    (entry.Owner part.owner ∷ names users) (entry.Group part.group ∷ names groups) first second) (read_mask true part.mask h.mask)) last

abbrev pub default_entries : Option Part → List Entry
default_entries None = []
default_entries (Some part) = part_entries part

-- the line of the entries of an ACL
abbrev pub line_in : Acl → AclLine
line_in acl = record { access = access_entries acl.access; default_part = default_entries acl.default_part }

-- the texts of an ACL, without commas in them, read as its line
parts_read : (access : Part) (part : Option Part) → is_part access ≡ true → option_map_or is_part part true ≡ true
    → (list_all (lacks 44) (access_texts access ++ default_texts part) ≡ true)
    × (line_of (map (text_entry_of decimal_id decimal_id) (access_texts access ++ default_texts part)) ≡ Ok (record { access = access_entries access; default_part = default_entries part }))
parts_read access None h k =
    let a = access_read access (allowed_of access h) in
    (plain_line (access_texts access) (access_entries access) [] [] a tt, read_line (access_texts access) (access_entries access) [] [] a tt)
parts_read access (Some part) h k =
    let a = access_read access (allowed_of access h) in
    let d = part_read part (allowed_of part k) in (
      plain_line (access_texts access) (access_entries access) (part_texts part) (part_entries part) a d,
      read_line (access_texts access) (access_entries access) (part_texts part) (part_entries part) a d,
    )

undash : (text field : List ℕ) → or_dash text ≡ field → field ≢ codes "-" → text ≡ field
undash [] field e other = absurd (other (sym e))
undash (b ∷ bs) field e other = e

texts_split : (texts : List (List ℕ)) (field : List ℕ) → list_all (lacks 44) texts ≡ true → or_dash (join_with_byte 44 texts) ≡ field → field ≢ codes "-" → slice_split (λ b. b == 44) field ≡ texts
texts_split [] field h e other = absurd (other (sym e))
texts_split (t ∷ ts) field h e other = ap (slice_split (λ b. b == 44)) (sym (undash (join_with_byte 44 (t ∷ ts)) field e other)) ∙ split_join t ts h

-- the text of an ACL reads as its line
pub text_reads : (field : List ℕ) (acl : Acl) → acl_text acl ≡ field → is_acl acl ≡ true → field ≢ codes "-" → acl_line_of decimal_id decimal_id field ≡ Ok (line_in acl)
text_reads field acl text allowed other =
    let parts = and_parts (is_part acl.access) (option_map_or is_part acl.default_part true) allowed in
    let r = parts_read acl.access acl.default_part parts.0 parts.1 in
    ap (λ (ts : List (List ℕ)). line_of (map (text_entry_of decimal_id decimal_id) ts))
    (texts_split (access_texts acl.access ++ default_texts acl.default_part) field r.0 text other) ∙ r.1

default_part_is : (directory : Bool) (access : Part) (part : Option Part) → option_map_or is_part part true ≡ true → (is_some part ≡ true → directory ≡ true)
    → (if directory then default_after Add access None (default_entries part) else None) ≡ part
default_part_is true access None h kind = refl
default_part_is false access None h kind = refl
default_part_is true access (Some part) h kind = ap (λ (p : Part). Some p) (default_is access part (allowed_of part h).ordered)
default_part_is false access (Some part) h kind = let bad : false ≡ true = kind refl in cc

-- an ACL is what its line makes of the mode
pub line_makes : (field : List ℕ) (mode : ℕ) (directory : Bool) (acl : Acl) → IsSpelt field mode directory acl → acl_after (acl_of_mode mode) (line_in acl) Add directory ≡ acl
line_makes field mode directory acl spelt =
    let parts = and_parts (is_part acl.access) (option_map_or is_part acl.default_part true) spelt.allowed in
    let access : part_after Add (part_of_mode mode) (access_entries acl.access) ≡ acl.access =
    ap (λ (p : Part). part_after Add p (access_entries acl.access)) (sym spelt.base) ∙ access_is acl.access (allowed_of acl.access parts.0).ordered in
    ap (λ (a : Part). record { access = a; default_part = if directory then default_after Add a None (default_entries acl.default_part) else None }) access
    ∙ ap (λ (d : Option Part). record { access = acl.access; default_part = d }) (default_part_is directory acl.access acl.default_part parts.1 spelt.kind)

-- named entries and a mask leave the base entries
base_names : (xs : List Named) (mask : Option ℕ) (part : Part) → base_of (fold put_entry part (map (λ x. entry.Named x) xs ++ mask_entries mask)) ≡ base_of part
base_names [] None part = refl
base_names [] (Some p) part = refl
base_names (x ∷ xs) mask part = base_names xs mask (put_entry part (entry.Named x))

pub base_stays : (part access : Part) → base_of (part_after Add part (access_entries access)) ≡ base_of part
base_stays part access = ap base_of (after_add part (access_entries access)) ∙ base_names access.named access.mask part

pub is_perm-digit : (n : ℕ) → is_perm (n % 8) ≡ true
is_perm-digit n = let h : n % 8 ≤ 7 = omega arith in grind (arith, nat_tests)

pub is_acl-of_mode : (mode : ℕ) → is_acl (acl_of_mode mode) ≡ true
is_acl-of_mode mode = rw (is_perm-digit (mode / 64), is_perm-digit (mode / 8), is_perm-digit mode) refl

-- the line that is read is that of the ACL whose text the field is
line_is : (field : List ℕ) (line : AclLine) (acl : Acl) → Some line ≡ result_ok (acl_line_of decimal_id decimal_id field) → acl_text acl ≡ field → is_acl acl ≡ true → field ≢ codes "-" → line ≡ line_in acl
line_is field line acl read text allowed other =
    let e : Some line ≡ Some (line_in acl) = read ∙ ap result_ok (text_reads field acl text allowed other) in
    cc

kind_of : (directory : Bool) (access : Part) (es : List Entry) → is_some (if directory then default_after Add access None es else None) ≡ true → directory ≡ true
kind_of true access es h = refl
kind_of false access es h = cc

-- what is made of the entries of a field, where it has the field as its text, is spelt by it
pub found_is : (field : List ℕ) (mode : ℕ) (directory : Bool) (acl plain : Acl) (line : AclLine) → plain ≡ acl_of_mode mode → acl ≡ acl_after plain line Add directory → Some line ≡ result_ok (acl_line_of decimal_id decimal_id field)
    → acl_text acl ≡ field → is_acl acl ≡ true → field ≢ codes "-" → IsSpelt field mode directory acl
found_is field mode directory acl plain line p made read text allowed other =
    let e : acl ≡ acl_after (acl_of_mode mode) (line_in acl) Add directory =
    made ∙ ap (λ (a : Acl). acl_after a line Add directory) p ∙ ap (λ (l : AclLine). acl_after (acl_of_mode mode) l Add directory) (line_is field line acl read text allowed other) in
    record {
      text = text;
      base = ap (λ (a : Acl). base_of a.access) e ∙ base_stays (part_of_mode mode) acl.access;
      allowed = allowed;
      kind = λ h. kind_of directory (part_after Add (part_of_mode mode) (access_entries acl.access)) (default_entries acl.default_part) (sym (ap (λ (a : Acl). is_some a.default_part) e) ∙ h);
    }

-- else no ACL is
pub none_is : (field : List ℕ) (mode : ℕ) (directory : Bool) (made plain : Acl) (line : AclLine) → plain ≡ acl_of_mode mode → made ≡ acl_after plain line Add directory → Some line ≡ result_ok (acl_line_of decimal_id decimal_id field)
    → bytes_eq (acl_text made) field ≡ false → field ≢ codes "-" → (acl : Acl) → IsSpelt field mode directory acl → ⊥
none_is field mode directory made plain line p is read differs other acl spelt =
    let l : line ≡ line_in acl = line_is field line acl read spelt.text spelt.allowed other in
    let e : made ≡ acl =
    is ∙ ap (λ (a : Acl). acl_after a line Add directory) p ∙ ap (λ (l : AclLine). acl_after (acl_of_mode mode) l Add directory) l
    ∙ line_makes field mode directory acl spelt in
    let same : bytes_eq (acl_text made) field ≡ true = (bytes_eq-Decides (acl_text made) field).1 (ap acl_text e ∙ spelt.text) in
    cc

-- where the field has no entries, none is either
pub nothing_is : (field : List ℕ) (mode : ℕ) (directory : Bool) → None ≡ result_ok (acl_line_of decimal_id decimal_id field) → field ≢ codes "-" → (acl : Acl) → IsSpelt field mode directory acl → ⊥
nothing_is field mode directory read other acl spelt =
    let e : ◌≡◌ {A = Option AclLine} None (Some (line_in acl)) = read ∙ ap result_ok (text_reads field acl spelt.text spelt.allowed other) in
    cc

pub no_dash : (field dash : List ℕ) (r : Bool) → dash ≡ codes "-" → r ≡ bytes_eq field dash → r ≡ false → field ≢ codes "-"
no_dash field dash r d is differs e =
    let same : bytes_eq field dash ≡ true = (bytes_eq-Decides field dash).1 (e ∙ sym d) in
    cc
