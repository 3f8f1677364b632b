-- Allowed entries make an allowed ACL of an allowed one.
use Rattle.std.proofs.Common.{◌≡◌, ◌≤◌, ℕ, arith, Bool, true, false, ◌&&◌, List, [], ◌∷◌, Option, Some, None, refl, filter, fold, if◌then◌else◌}
use Rattle.std.specs.List.{list_all}
use Rattle.std.specs.Option.{option_map_or}
use Rattle.std.proofs.lemmas.List.Folds.{list_all-append}
use Rattle.std.proofs.lemmas.Bool.{and_parts}
use Rattle.std.proofs.lemmas.Bool.Decides.{nat_tests}
use Rattle.pv_acl.specs.declared.line.Entry.{Entry}
use Rattle.pv_acl.specs.declared.line.Entry.TheVariants as entry
use Rattle.pv_acl.specs.declared.line.AclLine.{AclLine}
use Rattle.pv_acl.specs.declared.line.How.{How}
use Rattle.pv_acl.specs.declared.line.How.TheVariants.{Replace, Add}
use Rattle.pv_acl.specs.declared.part.Part.{Part}
use Rattle.pv_acl.specs.declared.part.Acl.{Acl}
use Rattle.pv_acl.specs.declared.perm.Named.{Named}
use Rattle.pv_acl.specs.NamedEntries.{is_before, is_ordered, is_perm, is_named, put_named}
use Rattle.pv_acl.specs.Parts.{is_part, is_acl, base_of}
use Rattle.pv_acl.specs.Applying.{put_entry, kept, part_after, default_after, acl_after, is_entry, is_line}
use Rattle.pv_acl.proofs.Filters.{list_all-filter}
use Rattle.pv_acl.proofs.Putting.{is_ordered-put_named}

-- what an allowed part has, one by one
pub record IsAllowed (part : Part) : Type 0 where
  pub owner : is_perm part.owner ≡ true
  pub group : is_perm part.group ≡ true
  pub other : is_perm part.other ≡ true
  pub named : list_all is_named part.named ≡ true
  pub ordered : is_ordered part.named ≡ true
  pub mask : option_map_or is_perm part.mask true ≡ true

pub allowed_of : (part : Part) → is_part part ≡ true → IsAllowed part
allowed_of part h =
    let a = and_parts (is_perm part.owner && is_perm part.group && is_perm part.other && list_all is_named part.named && is_ordered part.named)
    (option_map_or is_perm part.mask true) h in
    let b = and_parts (is_perm part.owner && is_perm part.group && is_perm part.other && list_all is_named part.named) (is_ordered part.named) a.0 in
    let c = and_parts (is_perm part.owner && is_perm part.group && is_perm part.other) (list_all is_named part.named) b.0 in
    let d = and_parts (is_perm part.owner && is_perm part.group) (is_perm part.other) c.0 in
    let e = and_parts (is_perm part.owner) (is_perm part.group) d.0 in
    record { owner = e.0; group = e.1; other = d.1; named = c.1; ordered = b.1; mask = a.1 }

pub is_part-from : (part : Part) → IsAllowed part → is_part part ≡ true
is_part-from part h = rw (h.owner, h.group, h.other, h.named, h.ordered, h.mask)

list_all-put_named : (y : Named) (xs : List Named) → is_named y ≡ true → list_all is_named xs ≡ true → list_all is_named (put_named y xs) ≡ true
list_all-put_named y xs here all =
    rw (list_all-append is_named (filter (λ x. is_before x y) xs) (y ∷ filter (is_before y) xs), list_all-filter (λ x. is_before x y) is_named xs all, here)
    (list_all-filter (is_before y) is_named xs all)

pub is_part-put_entry : (part : Part) (e : Entry) → is_part part ≡ true → is_entry e ≡ true → is_part (put_entry part e) ≡ true
is_part-put_entry part (entry.Owner perm) h k =
    let a = allowed_of part h in
    is_part-from (record part { owner = perm })
    (record { owner = k; group = a.group; other = a.other; named = a.named; ordered = a.ordered; mask = a.mask })
is_part-put_entry part (entry.Group perm) h k =
    let a = allowed_of part h in
    is_part-from (record part { group = perm })
    (record { owner = a.owner; group = k; other = a.other; named = a.named; ordered = a.ordered; mask = a.mask })
is_part-put_entry part (entry.Other perm) h k =
    let a = allowed_of part h in
    is_part-from (record part { other = perm })
    (record { owner = a.owner; group = a.group; other = k; named = a.named; ordered = a.ordered; mask = a.mask })
is_part-put_entry part (entry.Named named) h k =
    let a = allowed_of part h in
    is_part-from (record part { named = put_named named part.named })
    (record {
      owner = a.owner;
      group = a.group;
      other = a.other;
      named = list_all-put_named named part.named k a.named;
      ordered = is_ordered-put_named named part.named a.ordered;
      mask = a.mask;
    })
is_part-put_entry part (entry.Mask perm) h k =
    let a = allowed_of part h in
    is_part-from (record part { mask = Some perm })
    (record { owner = a.owner; group = a.group; other = a.other; named = a.named; ordered = a.ordered; mask = k })

pub is_part-fold : (es : List Entry) (part : Part) → is_part part ≡ true → list_all is_entry es ≡ true → is_part (fold put_entry part es) ≡ true
is_part-fold [] part h all = h
is_part-fold (e ∷ es) part h all =
    let parts = and_parts (is_entry e) (list_all is_entry es) all in
    is_part-fold es (put_entry part e) (is_part-put_entry part e h parts.0) parts.1

pub is_part-base_of : (part : Part) → is_part part ≡ true → is_part (base_of part) ≡ true
is_part-base_of part h =
    let a = allowed_of part h in
    is_part-from (base_of part) (record { owner = a.owner; group = a.group; other = a.other; named = refl; ordered = refl; mask = refl })

is_part-kept : (how : How) (part : Part) → is_part part ≡ true → is_part (kept how part) ≡ true
is_part-kept Replace part h = is_part-base_of part h
is_part-kept Add part h = h

pub is_part-part_after : (how : How) (part : Part) (es : List Entry) → is_part part ≡ true → list_all is_entry es ≡ true → is_part (part_after how part es) ≡ true
is_part-part_after how part [] h all = h
is_part-part_after how part (e ∷ es) h all = is_part-fold (e ∷ es) (kept how part) (is_part-kept how part h) all

is_part-default_after : (how : How) (access : Part) (part : Option Part) (es : List Entry) → is_part access ≡ true → option_map_or is_part part true ≡ true → list_all is_entry es ≡ true → option_map_or is_part (default_after how access part es) true ≡ true
is_part-default_after how access part [] a h all = h
is_part-default_after how access (Some part) (e ∷ es) a h all = is_part-part_after how part (e ∷ es) h all
is_part-default_after how access None (e ∷ es) a h all = is_part-part_after how (base_of access) (e ∷ es) (is_part-base_of access a) all

-- allowed entries make an allowed ACL of an allowed one
pub is_acl-acl_after : (acl : Acl) (line : AclLine) (how : How) (directory : Bool) → is_acl acl ≡ true → is_line line ≡ true → is_acl (acl_after acl line how directory) ≡ true
is_acl-acl_after acl line how directory h k =
    let parts = and_parts (is_part acl.access) (option_map_or is_part acl.default_part true) h in
    let entries = and_parts (list_all is_entry line.access) (list_all is_entry line.default_part) k in
    let access = is_part-part_after how acl.access line.access parts.0 entries.0 in
    rw access (by_kind directory (is_part-default_after how (part_after how acl.access line.access) acl.default_part line.default_part access parts.1 entries.1) parts.1)
  where
    by_kind : (b : Bool) → option_map_or is_part (default_after how (part_after how acl.access line.access) acl.default_part line.default_part) true ≡ true → option_map_or is_part acl.default_part true ≡ true → option_map_or is_part (if b then default_after how (part_after how acl.access line.access) acl.default_part line.default_part else acl.default_part) true ≡ true
    by_kind true changed same = changed
    by_kind false changed same = same

-- ---- permissions

pub perm_fits : (n : ℕ) → is_perm n ≡ true → n ≤ 7
perm_fits n h = grind (arith, nat_tests)
