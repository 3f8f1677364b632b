-- The text of an ACL reads as the entries that make it.
use Rattle.std.proofs.Common.{◌≡◌, ℕ, ◌<◌, ◌^◌, Bool, true, false, ◌==◌, List, [], ◌∷◌, ◌++◌, length, map, Option, Some, None, Ok, codes, refl, ap, arith, not, append_assoc, inl, inr, if◌then◌else◌}
use Rattle.std.specs.List.{list_all, slice_split}
use Rattle.std.specs.Option.{option_or, option_map_or}
use Rattle.std.specs.Fmt.{decimal}
use Rattle.std.proofs.lemmas.Bool.Decides.{nat_tests}
use Rattle.std.proofs.lemmas.Fmt.{decimal_nonempty}
use Rattle.std.proofs.lemmas.List.Folds.{list_all-append}
use Rattle.std.proofs.lemmas.Bool.{and_parts}
use Rattle.pv_acl.specs.declared.line.Entry.{Entry}
use Rattle.pv_acl.specs.declared.line.Entry.TheVariants as entry
use Rattle.pv_acl.specs.declared.parse.EntryTag.{EntryTag}
use Rattle.pv_acl.specs.declared.parse.EntryTag.TheVariants as place
use Rattle.pv_acl.specs.declared.parse.PartEntry.{PartEntry}
use Rattle.pv_acl.specs.declared.perm.Who.{Who}
use Rattle.pv_acl.specs.declared.perm.Who.TheVariants.{User, Group}
use Rattle.pv_acl.specs.declared.perm.Named.{Named}
use Rattle.pv_acl.specs.Entries.{id_or_name, named_tag, entry_of, text_entry_of, line_of}
use Rattle.pv_acl.specs.NamedEntries.{is_id, id_of, is_perm, is_named}
use Rattle.pv_acl.specs.Numbers.{may_be_written}
use Rattle.pv_acl.specs.Spelling.{decimal_id}
use Rattle.pv_acl.specs.Texts.{perm_text, who_text, named_text, mask_texts}
use Rattle.pv_acl.proofs.Numerals.{number_of-decimal}
use Rattle.pv_acl.proofs.Splitting.{lacks, split_none, split_at, each_perm, perm_of-perm_text, no_comma-perm_text, no_colon-perm_text, lacks-decimal}

pub id_fits : (id : ℕ) → is_id id ≡ true → id < 2 ^ 64
id_fits id h = grind (arith, nat_tests)

-- an ID in digits reads as itself
id_or_name-decimal : (id : ℕ) → is_id id ≡ true → id_or_name decimal_id (decimal id) ≡ Some id
id_or_name-decimal id h = rw (number_of-decimal id (decimal id) (id_fits id h) refl) (by_test (may_be_written id))
  where
    by_test : (b : Bool) → option_or (if b then Some id else None) (if is_id id then Some id else None) ≡ Some id
    by_test true = refl
    by_test false = rw h refl

named_place_is : (base : EntryTag) (who : ℕ → Who) (name : List ℕ) (id : ℕ) → 0 < length name → id_or_name decimal_id name ≡ Some id → named_tag base who decimal_id name ≡ Ok (place.Named (who id))
named_place_is base who [] id long h = absurd (omega arith)
named_place_is base who (b ∷ bs) id long h = rw h refl

place_is : (base : EntryTag) (who : ℕ → Who) (id : ℕ) → is_id id ≡ true → named_tag base who decimal_id (decimal id) ≡ Ok (place.Named (who id))
place_is base who id h = named_place_is base who (decimal id) id (decimal_nonempty id (id_fits id h)) (id_or_name-decimal id h)

-- the first letter of a tag
abbrev pub tag_of : Who → List ℕ
tag_of (User id) = codes "u"
tag_of (Group id) = codes "g"

entry_is : (who : Who) (p : ℕ) → is_id (id_of who) ≡ true → is_perm p ≡ true → entry_of decimal_id decimal_id (tag_of who ∷ decimal (id_of who) ∷ perm_text p ∷ []) ≡ Ok (entry.Named (record { who = who; perm = p }))
entry_is (User id) p h k = rw (place_is place.Owner (λ (n : ℕ). User n) id h, perm_of-perm_text p k) refl
entry_is (Group id) p h k = rw (place_is place.Group (λ (n : ℕ). Group n) id h, perm_of-perm_text p k) refl

rest_splits : (id p : ℕ) → is_id id ≡ true → is_perm p ≡ true → slice_split (λ b. b == 58) ((decimal id ++ 58 ∷ []) ++ perm_text p) ≡ decimal id ∷ perm_text p ∷ []
rest_splits id p h k =
    rw (append_assoc (decimal id) (58 ∷ []) (perm_text p), split_at 58 (decimal id) (perm_text p) (lacks-decimal 58 id (inl (omega arith)) (id_fits id h)))
    (ap (λ (ts : List (List ℕ)). decimal id ∷ ts) (split_none 58 (perm_text p) (no_colon-perm_text p k)))

-- a text of an entry, in the default part or not
abbrev pub placed : Bool → List ℕ → List ℕ
placed false text = text
placed true text = codes "d:" ++ text

abbrev pub entry_in : Bool → Entry → PartEntry
entry_in of_default e = record { of_default = of_default; entry = e }

pub record Reads (of_default : Bool) (text : List ℕ) (e : Entry) : Type 0 where
  pub plain : lacks 44 (placed of_default text) ≡ true
  pub read : text_entry_of decimal_id decimal_id (placed of_default text) ≡ Ok (entry_in of_default e)

named_reads : (of_default : Bool) (who : Who) (p : ℕ) → is_id (id_of who) ≡ true → is_perm p ≡ true → text_entry_of decimal_id decimal_id (placed of_default (who_text who ++ codes ":" ++ perm_text p)) ≡ Ok (entry_in of_default (entry.Named (record { who = who; perm = p })))
named_reads false (User id) p h k = rw (rest_splits id p h k, entry_is (User id) p h k) refl
named_reads false (Group id) p h k = rw (rest_splits id p h k, entry_is (Group id) p h k) refl
named_reads true (User id) p h k = rw (rest_splits id p h k, entry_is (User id) p h k) refl
named_reads true (Group id) p h k = rw (rest_splits id p h k, entry_is (Group id) p h k) refl

named_plain : (of_default : Bool) (who : Who) (p : ℕ) → is_id (id_of who) ≡ true → is_perm p ≡ true → lacks 44 (placed of_default (who_text who ++ codes ":" ++ perm_text p)) ≡ true
named_plain of_default who p h k = by_part of_default who h
  where
    rest : (id : ℕ) → is_id id ≡ true → lacks 44 ((decimal id ++ 58 ∷ []) ++ perm_text p) ≡ true
    rest id h =
        rw (
          list_all-append (λ b. not (b == 44)) (decimal id ++ 58 ∷ []) (perm_text p),
          list_all-append (λ b. not (b == 44)) (decimal id) (58 ∷ []),
          lacks-decimal 44 id (inr (omega arith)) (id_fits id h),
        ) (no_comma-perm_text p k)

    by_part : (of_default : Bool) (who : Who) → is_id (id_of who) ≡ true → lacks 44 (placed of_default (who_text who ++ codes ":" ++ perm_text p)) ≡ true
    by_part false (User id) h = rest id h
    by_part false (Group id) h = rest id h
    by_part true (User id) h = rest id h
    by_part true (Group id) h = rest id h

pub reads_named : (of_default : Bool) (x : Named) → is_named x ≡ true → Reads of_default (named_text x) (entry.Named x)
reads_named of_default x h =
    let parts = and_parts (is_id (id_of x.who)) (is_perm x.perm) h in
    record { plain = named_plain of_default x.who x.perm parts.0 parts.1; read = named_reads of_default x.who x.perm parts.0 parts.1 }

-- the base entries and the mask
pub reads_mask : (of_default : Bool) (p : ℕ) → is_perm p ≡ true → Reads of_default (codes "m::" ++ perm_text p) (entry.Mask p)
reads_mask false =
    each_perm (λ p. Reads false (codes "m::" ++ perm_text p) (entry.Mask p)) (record { plain = refl; read = refl }) (record { plain = refl; read = refl })
    (record { plain = refl; read = refl }) (record { plain = refl; read = refl }) (record { plain = refl; read = refl }) (record { plain = refl; read = refl })
    (record { plain = refl; read = refl }) (record { plain = refl; read = refl })
reads_mask true =
    each_perm (λ p. Reads true (codes "m::" ++ perm_text p) (entry.Mask p)) (record { plain = refl; read = refl }) (record { plain = refl; read = refl })
    (record { plain = refl; read = refl }) (record { plain = refl; read = refl }) (record { plain = refl; read = refl }) (record { plain = refl; read = refl })
    (record { plain = refl; read = refl }) (record { plain = refl; read = refl })

pub reads_owner : (p : ℕ) → is_perm p ≡ true → Reads true (codes "u::" ++ perm_text p) (entry.Owner p)
reads_owner =
    each_perm (λ p. Reads true (codes "u::" ++ perm_text p) (entry.Owner p)) (record { plain = refl; read = refl }) (record { plain = refl; read = refl })
    (record { plain = refl; read = refl }) (record { plain = refl; read = refl }) (record { plain = refl; read = refl }) (record { plain = refl; read = refl })
    (record { plain = refl; read = refl }) (record { plain = refl; read = refl })

pub reads_group : (p : ℕ) → is_perm p ≡ true → Reads true (codes "g::" ++ perm_text p) (entry.Group p)
reads_group =
    each_perm (λ p. Reads true (codes "g::" ++ perm_text p) (entry.Group p)) (record { plain = refl; read = refl }) (record { plain = refl; read = refl })
    (record { plain = refl; read = refl }) (record { plain = refl; read = refl }) (record { plain = refl; read = refl }) (record { plain = refl; read = refl })
    (record { plain = refl; read = refl }) (record { plain = refl; read = refl })

pub reads_other : (p : ℕ) → is_perm p ≡ true → Reads true (codes "o::" ++ perm_text p) (entry.Other p)
reads_other =
    each_perm (λ p. Reads true (codes "o::" ++ perm_text p) (entry.Other p)) (record { plain = refl; read = refl }) (record { plain = refl; read = refl })
    (record { plain = refl; read = refl }) (record { plain = refl; read = refl }) (record { plain = refl; read = refl }) (record { plain = refl; read = refl })
    (record { plain = refl; read = refl }) (record { plain = refl; read = refl })

-- texts that read as entries, one by one
abbrev pub AllRead : Bool → List (List ℕ) → List Entry → Type 0
AllRead of_default [] [] = Unit {0}
AllRead of_default [] (e ∷ es) = ⊥
AllRead of_default (t ∷ ts) [] = ⊥
AllRead of_default (t ∷ ts) (e ∷ es) = Reads of_default t e × AllRead of_default ts es

pub read_both : (of_default : Bool) (ts us : List (List ℕ)) (es fs : List Entry) → AllRead of_default ts es → AllRead of_default us fs → AllRead of_default (ts ++ us) (es ++ fs)
read_both of_default [] us [] fs h k = k
read_both of_default [] us (e ∷ es) fs h k = absurd h
read_both of_default (t ∷ ts) us [] fs h k = absurd h
read_both of_default (t ∷ ts) us (e ∷ es) fs h k = (h.0, read_both of_default ts us es fs h.1 k)

pub read_names : (of_default : Bool) (xs : List Named) → list_all is_named xs ≡ true → AllRead of_default (map named_text xs) (map (λ x. entry.Named x) xs)
read_names of_default [] h = tt
read_names of_default (x ∷ xs) h =
    let parts = and_parts (is_named x) (list_all is_named xs) h in
    (reads_named of_default x parts.0, read_names of_default xs parts.1)

abbrev pub mask_entries : Option ℕ → List Entry
mask_entries None = []
mask_entries (Some p) = entry.Mask p ∷ []

pub read_mask : (of_default : Bool) (mask : Option ℕ) → option_map_or is_perm mask true ≡ true → AllRead of_default (mask_texts mask) (mask_entries mask)
read_mask of_default None h = tt
read_mask of_default (Some p) h = (reads_mask of_default p h, tt)

-- the texts of both parts give the line of their entries
read_default : (ts : List (List ℕ)) (es : List Entry) → AllRead true ts es → line_of (map (text_entry_of decimal_id decimal_id) (map (λ text. codes "d:" ++ text) ts)) ≡ Ok (record { access = []; default_part = es })
read_default [] [] h = refl
read_default [] (e ∷ es) h = absurd h
read_default (t ∷ ts) [] h = absurd h
read_default (t ∷ ts) (e ∷ es) h = rw (h.0.read, read_default ts es h.1) refl

pub read_line : (ts : List (List ℕ)) (bs : List Entry) (us : List (List ℕ)) (ds : List Entry) → AllRead false ts bs → AllRead true us ds
    → line_of (map (text_entry_of decimal_id decimal_id) (ts ++ map (λ text. codes "d:" ++ text) us)) ≡ Ok (record { access = bs; default_part = ds })
read_line [] [] us ds h k = read_default us ds k
read_line [] (e ∷ es) us ds h k = absurd h
read_line (t ∷ ts) [] us ds h k = absurd h
read_line (t ∷ ts) (e ∷ es) us ds h k = rw (h.0.read, read_line ts es us ds h.1 k) refl

plain_default : (ts : List (List ℕ)) (es : List Entry) → AllRead true ts es → list_all (lacks 44) (map (λ text. codes "d:" ++ text) ts) ≡ true
plain_default [] [] h = refl
plain_default [] (e ∷ es) h = absurd h
plain_default (t ∷ ts) [] h = absurd h
plain_default (t ∷ ts) (e ∷ es) h = rw h.0.plain (plain_default ts es h.1)

pub plain_line : (ts : List (List ℕ)) (bs : List Entry) (us : List (List ℕ)) (ds : List Entry) → AllRead false ts bs → AllRead true us ds
    → list_all (lacks 44) (ts ++ map (λ text. codes "d:" ++ text) us) ≡ true
plain_line [] [] us ds h k = plain_default us ds k
plain_line [] (e ∷ es) us ds h k = absurd h
plain_line (t ∷ ts) [] us ds h k = absurd h
plain_line (t ∷ ts) (e ∷ es) us ds h k = rw h.0.plain (plain_line ts es us ds h.1 k)
