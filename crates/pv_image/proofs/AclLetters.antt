-- Which letters stand in the entries of an ACL.
use Rattle.std.proofs.Common.{◌≡◌, ℕ, Bool, true, false, ◌&&◌, ◌==◌, List, [], ◌∷◌, ◌++◌, map, filter, codes, Option, Some, None, refl}
use Rattle.std.specs.Prelude.{bit_and}
use Rattle.std.specs.List.{list_all}
use Rattle.std.specs.Fmt.{decimal}
use Rattle.std.specs.Option.{option_map_or}
use Rattle.std.proofs.lemmas.Bool.{and_parts, and_from}
use Rattle.pv_acl.specs.declared.part.Acl.{Acl}
use Rattle.pv_acl.specs.declared.part.Part.{Part}
use Rattle.pv_acl.specs.declared.perm.Named.{Named}
use Rattle.pv_acl.specs.declared.perm.Who.{Who}
use Rattle.pv_acl.specs.declared.perm.Who.TheVariants.{User, Group}
use Rattle.pv_acl.specs.NamedEntries.{is_named, is_ordered, is_perm}
use Rattle.pv_acl.specs.Parts.{is_part}
use Rattle.pv_acl.specs.Texts.{access_texts, default_texts, is_group, is_user, letter, mask_texts, named_text, part_texts, perm_text, who_text}
use Rattle.pv_text.proofs.Characters.{all_append, all_weaker, is_digit}
use Rattle.pv_image.proofs.Decimals.{all_digits}

pub all_filter : {A : Type 0} (p q : A → Bool) (xs : List A) → list_all p xs ≡ true → list_all p (filter q xs) ≡ true
all_filter p q [] e = refl
all_filter p q (x ∷ xs) e = let parts = and_parts (p x) (list_all p xs) e in by_test parts.0 (all_filter p q xs parts.1) (q x) refl
  where
    by_test : p x ≡ true → list_all p (filter q xs) ≡ true → (t : Bool) → q x ≡ t → list_all p (filter q (x ∷ xs)) ≡ true
    by_test first rest true f = rw f (and_from (p x) (list_all p (filter q xs)) first rest)
    by_test first rest false f = rw f rest

pub part_names : (part : Part) → is_part part ≡ true → list_all is_named part.named ≡ true
part_names part e =
    let o = is_perm part.owner in
    let g = is_perm part.group in
    let t = is_perm part.other in
    let n = list_all is_named part.named in
    let r = is_ordered part.named in
    let five = (and_parts (o && g && t && n && r) (option_map_or is_perm part.mask true) e).0 in
    let four = (and_parts (o && g && t && n) r five).0 in
    (and_parts (o && g && t) n four).1

-- a test that digits, the letters of entries, the dash and the colon pass
pub record PassesEntries (p : ℕ → Bool) : Type 0 where
  pub digit : (b : ℕ) → is_digit b ≡ true → p b ≡ true
  pub dash : p 45 ≡ true
  pub colon : p 58 ≡ true
  pub user : p 117 ≡ true
  pub group : p 103 ≡ true
  pub mask : p 109 ≡ true
  pub other : p 111 ≡ true
  pub default_mark : p 100 ≡ true
  pub read : p 114 ≡ true
  pub write : p 119 ≡ true
  pub execute : p 120 ≡ true

module _ (p : ℕ → Bool) (passes : PassesEntries p) where
  abbrev pub AllPass : List (List ℕ) → Type 0
  AllPass texts = list_all (list_all p) texts ≡ true

  decimal_passes : (n : ℕ) → list_all p (decimal n) ≡ true
  decimal_passes n = all_weaker is_digit p passes.digit (decimal n) (all_digits n)

  letter_passes : (perm bit c : ℕ) → p c ≡ true → p (letter perm bit c) ≡ true
  letter_passes perm bit c e = by_test (bit_and perm bit == 0) refl
    where
      by_test : (t : Bool) → (bit_and perm bit == 0) ≡ t → p (letter perm bit c) ≡ true
      by_test true q = rw q passes.dash
      by_test false q = rw q e

  pub perm_passes : (perm : ℕ) → list_all p (perm_text perm) ≡ true
  perm_passes perm = rw (letter_passes perm 4 114 passes.read, letter_passes perm 2 119 passes.write, letter_passes perm 1 120 passes.execute) refl

  who_passes : (who : Who) → list_all p (who_text who) ≡ true
  who_passes (User id) = let rest = decimal_passes id in rw (passes.user, passes.colon, rest) refl
  who_passes (Group id) = let rest = decimal_passes id in rw (passes.group, passes.colon, rest) refl

  named_passes : (x : Named) → list_all p (named_text x) ≡ true
  named_passes x =
      let colon : list_all p (codes ":") ≡ true = rw passes.colon refl in
      all_append p (who_text x.who ++ codes ":") (perm_text x.perm)
      (all_append p (who_text x.who) (codes ":") (who_passes x.who) colon) (perm_passes x.perm)

  names_pass : (xs : List Named) → AllPass (map named_text xs)
  names_pass [] = refl
  names_pass (x ∷ xs) = and_from (list_all p (named_text x)) (list_all (list_all p) (map named_text xs)) (named_passes x) (names_pass xs)

  -- a letter, two colons and a permission
  base_passes : (c perm : ℕ) → p c ≡ true → list_all p (c ∷ 58 ∷ 58 ∷ perm_text perm) ≡ true
  base_passes c perm e = let rest = perm_passes perm in rw (e, passes.colon, rest) refl

  mask_passes : (mask : Option ℕ) → AllPass (mask_texts mask)
  mask_passes None = refl
  mask_passes (Some perm) = and_from (list_all p (109 ∷ 58 ∷ 58 ∷ perm_text perm)) true (base_passes 109 perm passes.mask) refl

  part_passes : (part : Part) → AllPass (part_texts part)
  part_passes part =
      let q = list_all p in
      let users = map named_text (filter is_user part.named) in
      let groups = map named_text (filter is_group part.named) in
      let owner = codes "u::" ++ perm_text part.owner in
      let group = codes "g::" ++ perm_text part.group in
      let other = codes "o::" ++ perm_text part.other in
      let u = and_from (q owner) (list_all q users) (base_passes 117 part.owner passes.user) (names_pass (filter is_user part.named)) in
      let g = and_from (q group) (list_all q groups) (base_passes 103 part.group passes.group) (names_pass (filter is_group part.named)) in
      let o = and_from (q other) true (base_passes 111 part.other passes.other) refl in
      all_append q (owner ∷ users ++ group ∷ groups ++ mask_texts part.mask) (other ∷ [])
      (all_append q (owner ∷ users ++ group ∷ groups) (mask_texts part.mask)
      (all_append q (owner ∷ users) (group ∷ groups) u g) (mask_passes part.mask)) o

  after_d : (texts : List (List ℕ)) → AllPass texts → AllPass (map (λ text. codes "d:" ++ text) texts)
  after_d [] e = refl
  after_d (text ∷ texts) e =
      let parts = and_parts (list_all p text) (list_all (list_all p) texts) e in
      let first : list_all p (codes "d:" ++ text) ≡ true = let rest = parts.0 in rw (passes.default_mark, passes.colon, rest) refl in
      and_from (list_all p (codes "d:" ++ text)) (list_all (list_all p) (map (λ t. codes "d:" ++ t) texts)) first (after_d texts parts.1)

  default_passes : (part : Option Part) → AllPass (default_texts part)
  default_passes None = refl
  default_passes (Some part) = after_d (part_texts part) (part_passes part)

  pub entries_pass : (acl : Acl) → AllPass (access_texts acl.access ++ default_texts acl.default_part)
  entries_pass acl =
      all_append (list_all p) (access_texts acl.access) (default_texts acl.default_part)
      (all_append (list_all p) (map named_text acl.access.named) (mask_texts acl.access.mask) (names_pass acl.access.named) (mask_passes acl.access.mask))
      (default_passes acl.default_part)
