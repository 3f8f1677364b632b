-- Entries of a line, done after the base entries among them, are done once.
use Rattle.std.specs.Prelude.{◌≡◌, Bool, true, false, not, ◌&&◌, ◌||◌, List, [], ◌∷◌, ◌++◌, fold, filter, Option, Some, None, if◌then◌else◌}
use Rattle.std.proofs.Common.{refl, sym, ap, ◌∙◌}
use Rattle.pv_acl.specs.declared.line.Entry.{Entry}
use Rattle.pv_acl.specs.declared.line.Entry.TheVariants as entry
use Rattle.pv_acl.specs.declared.line.AclLine.{AclLine}
use Rattle.pv_acl.specs.declared.line.How.{How}
use Rattle.pv_acl.specs.declared.line.How.TheVariants.{Replace, Add}
use Rattle.pv_acl.specs.declared.part.Part.{Part}
use Rattle.pv_acl.specs.declared.part.Acl.{Acl}
use Rattle.pv_acl.specs.NamedEntries.{put_named}
use Rattle.pv_acl.specs.Applying.{put_entry, kept, part_after, default_after, acl_after}
use Rattle.pv_walk.specs.declared.object_state.ObjectState.{ObjectState}
use Rattle.pv_walk.specs.declared.operation.Guard.{Guard}
use Rattle.std.specs.List.{list_any}
use Rattle.std.proofs.lemmas.List.Folds.{list_any-append}
use Rattle.std.proofs.Math.Bool.{or-true, or-false}
use Rattle.pv_walk.specs.declared.operation.Change.TheVariants.{Write, Append, Owner, Mode, Entries, Attrs, Letters}
use Rattle.pv_walk.specs.declared.operation.Operation.{Operation}
use Rattle.pv_walk.specs.declared.operation.Operation.TheVariants.{Make, Renew, Erase, Apply}
use Rattle.pv_steps.specs.Objects.{is_directory}
use Rattle.pv_walk.specs.Operations.{run, done, changed, admits}
use Rattle.pv_walk.specs.Reasons.{is_base, is_adjusting, is_append, is_masked, gives_base, is_make, is_renewal, sets_nothing, is_erasure, no_entries, makes_late, IsRepeatable}
use Rattle.pv_walk.specs.Dividing.{base_line, parts_of, parts}
use Rattle.pv_walk.proofs.Settling.{settled_twice}
use Rattle.pv_walk.proofs.Repeating.{run-append}
use Rattle.pv_walk.proofs.PartChanges.{plain-part_after, same_part}
use Rattle.pv_acl.proofs.Spelt.{after_add}

module _ {B : Type 0} (attribute : Part → B) (local : (e : Entry) (p q : Part) → attribute p ≡ attribute q → attribute (put_entry p e) ≡ attribute (put_entry q e)) where
  same_after : (es : List Entry) (p q : Part) → attribute p ≡ attribute q → attribute (fold put_entry p es) ≡ attribute (fold put_entry q es)
  same_after [] p q h = h
  same_after (e ∷ es) p q h = same_after es (put_entry p e) (put_entry q e) (local e p q h)

  module _ (named : (x : _) (p : Part) → attribute (put_entry p (entry.Named x)) ≡ attribute p) (mask : (x : _) (p : Part) → attribute (put_entry p (entry.Mask x)) ≡ attribute p) where
    by_base : (es : List Entry) (p : Part) → attribute (fold put_entry p es) ≡ attribute (fold put_entry p (filter is_base es))
    by_base [] p = refl
    by_base (entry.Owner x ∷ es) p = by_base es (put_entry p (entry.Owner x))
    by_base (entry.Group x ∷ es) p = by_base es (put_entry p (entry.Group x))
    by_base (entry.Other x ∷ es) p = by_base es (put_entry p (entry.Other x))
    by_base (entry.Named x ∷ es) p = same_after es (put_entry p (entry.Named x)) p (named x p) ∙ by_base es p
    by_base (entry.Mask x ∷ es) p = same_after es (put_entry p (entry.Mask x)) p (mask x p) ∙ by_base es p

    -- a base attribute, after the base entries and then all
    twice_base : (how : How) → ((p : Part) → attribute (kept how p) ≡ attribute p) → (es : List Entry) → ((p : Part) → attribute (fold put_entry (fold put_entry p es) es) ≡ attribute (fold put_entry p es)) → (p : Part)
        → attribute (fold put_entry (kept how (fold put_entry p (filter is_base es))) es) ≡ attribute (fold put_entry (kept how p) es)
    twice_base how keeps es once p =
        same_after es (kept how (fold put_entry p (filter is_base es))) (fold put_entry p es) (keeps (fold put_entry p (filter is_base es)) ∙ sym (by_base es p))
        ∙ once p ∙ same_after es p (kept how p) (sym (keeps p))

  module _ (owner : (x : _) (p : Part) → attribute (put_entry p (entry.Owner x)) ≡ attribute p) (group : (x : _) (p : Part) → attribute (put_entry p (entry.Group x)) ≡ attribute p)
      (other : (x : _) (p : Part) → attribute (put_entry p (entry.Other x)) ≡ attribute p) where
    base_leaves : (es : List Entry) (p : Part) → attribute (fold put_entry p (filter is_base es)) ≡ attribute p
    base_leaves [] p = refl
    base_leaves (entry.Owner x ∷ es) p = base_leaves es (put_entry p (entry.Owner x)) ∙ owner x p
    base_leaves (entry.Group x ∷ es) p = base_leaves es (put_entry p (entry.Group x)) ∙ group x p
    base_leaves (entry.Other x ∷ es) p = base_leaves es (put_entry p (entry.Other x)) ∙ other x p
    base_leaves (entry.Named x ∷ es) p = base_leaves es p
    base_leaves (entry.Mask x ∷ es) p = base_leaves es p

local_owner : (e : Entry) (p q : Part) → p.owner ≡ q.owner → (put_entry p e).owner ≡ (put_entry q e).owner
local_owner (entry.Owner x) p q h = refl
local_owner (entry.Group x) p q h = h
local_owner (entry.Other x) p q h = h
local_owner (entry.Named x) p q h = h
local_owner (entry.Mask x) p q h = h

local_group : (e : Entry) (p q : Part) → p.group ≡ q.group → (put_entry p e).group ≡ (put_entry q e).group
local_group (entry.Owner x) p q h = h
local_group (entry.Group x) p q h = refl
local_group (entry.Other x) p q h = h
local_group (entry.Named x) p q h = h
local_group (entry.Mask x) p q h = h

local_other : (e : Entry) (p q : Part) → p.other ≡ q.other → (put_entry p e).other ≡ (put_entry q e).other
local_other (entry.Owner x) p q h = h
local_other (entry.Group x) p q h = h
local_other (entry.Other x) p q h = refl
local_other (entry.Named x) p q h = h
local_other (entry.Mask x) p q h = h

local_named : (e : Entry) (p q : Part) → p.named ≡ q.named → (put_entry p e).named ≡ (put_entry q e).named
local_named (entry.Owner x) p q h = h
local_named (entry.Group x) p q h = h
local_named (entry.Other x) p q h = h
local_named (entry.Named x) p q h = ap (put_named x) h
local_named (entry.Mask x) p q h = h

local_mask : (e : Entry) (p q : Part) → p.mask ≡ q.mask → (put_entry p e).mask ≡ (put_entry q e).mask
local_mask (entry.Owner x) p q h = h
local_mask (entry.Group x) p q h = h
local_mask (entry.Other x) p q h = h
local_mask (entry.Named x) p q h = h
local_mask (entry.Mask x) p q h = refl

kept_owner : (how : How) (p : Part) → (kept how p).owner ≡ p.owner
kept_owner Replace p = refl
kept_owner Add p = refl

kept_group : (how : How) (p : Part) → (kept how p).group ≡ p.group
kept_group Replace p = refl
kept_group Add p = refl

kept_other : (how : How) (p : Part) → (kept how p).other ≡ p.other
kept_other Replace p = refl
kept_other Add p = refl

kept_named : (how : How) (p q : Part) → p.named ≡ q.named → (kept how p).named ≡ (kept how q).named
kept_named Replace p q h = refl
kept_named Add p q h = h

kept_mask : (how : How) (p q : Part) → p.mask ≡ q.mask → (kept how p).mask ≡ (kept how q).mask
kept_mask Replace p q h = refl
kept_mask Add p q h = h

twice_added : {B : Type 0} (attribute : Part → B) (es : List Entry) → ((p : Part) → attribute (part_after Add (part_after Add p es) es) ≡ attribute (part_after Add p es))
    → (p : Part) → attribute (fold put_entry (fold put_entry p es) es) ≡ attribute (fold put_entry p es)
twice_added attribute es h p =
    ap attribute (sym (after_add (fold put_entry p es) es)) ∙ ap (λ (x : Part). attribute (part_after Add x es)) (sym (after_add p es)) ∙ h p ∙ ap attribute (after_add p es)

fold_once : (how : How) (es : List Entry) (p : Part) → fold put_entry (kept how (fold put_entry p (filter is_base es))) es ≡ fold put_entry (kept how p) es
fold_once how es p = same_part _ _
    (twice_base (λ (p : Part). p.owner) local_owner (λ x p. refl) (λ x p. refl) how (kept_owner how) es (twice_added (λ (p : Part). p.owner) es (settled_twice (λ (p : Part). p.owner) (λ p. part_after Add p es) (plain-part_after Add es).owner)) p)
    (twice_base (λ (p : Part). p.group) local_group (λ x p. refl) (λ x p. refl) how (kept_group how) es (twice_added (λ (p : Part). p.group) es (settled_twice (λ (p : Part). p.group) (λ p. part_after Add p es) (plain-part_after Add es).group)) p)
    (twice_base (λ (p : Part). p.other) local_other (λ x p. refl) (λ x p. refl) how (kept_other how) es (twice_added (λ (p : Part). p.other) es (settled_twice (λ (p : Part). p.other) (λ p. part_after Add p es) (plain-part_after Add es).other)) p)
    (same_after (λ (p : Part). p.named) local_named es (kept how (fold put_entry p (filter is_base es))) (kept how p) (kept_named how (fold put_entry p (filter is_base es)) p (base_leaves (λ (p : Part). p.named) local_named (λ x p. refl) (λ x p. refl) (λ x p. refl) es p)))
    (same_after (λ (p : Part). p.mask) local_mask es (kept how (fold put_entry p (filter is_base es))) (kept how p) (kept_mask how (fold put_entry p (filter is_base es)) p (base_leaves (λ (p : Part). p.mask) local_mask (λ x p. refl) (λ x p. refl) (λ x p. refl) es p)))

part_once : (how : How) (es : List Entry) (p : Part) → part_after how (part_after Add p (filter is_base es)) es ≡ part_after how p es
part_once how [] p = refl
part_once how (e ∷ es) p = ap (λ (x : Part). fold put_entry (kept how x) (e ∷ es)) (after_add p (filter is_base (e ∷ es))) ∙ fold_once how (e ∷ es) p

-- a base attribute after the base entries alone
first_base : {B : Type 0} (attribute : Part → B) → ((e : Entry) (p q : Part) → attribute p ≡ attribute q → attribute (put_entry p e) ≡ attribute (put_entry q e))
    → ((x : _) (p : Part) → attribute (put_entry p (entry.Named x)) ≡ attribute p) → ((x : _) (p : Part) → attribute (put_entry p (entry.Mask x)) ≡ attribute p)
    → ((how : How) (p : Part) → attribute (kept how p) ≡ attribute p) → (how : How) (es : List Entry) (p : Part) → attribute (fold put_entry p (filter is_base es)) ≡ attribute (part_after how p es)
first_base attribute local named mask keeps how [] p = refl
first_base attribute local named mask keeps how (e ∷ es) p =
    sym (same_after attribute local (e ∷ es) (kept how p) p (keeps how p) ∙ by_base attribute local named mask (e ∷ es) p)

-- the base entries of a line alone give a part the base entries that all give it, and leave the rest
pub base_first : (how : How) (es : List Entry) (p : Part)
    → part_after Add p (filter is_base es) ≡ record p { owner = (part_after how p es).owner; group = (part_after how p es).group; other = (part_after how p es).other }
base_first how es p = after_add p (filter is_base es) ∙ same_part _ _
    (first_base (λ (p : Part). p.owner) local_owner (λ x p. refl) (λ x p. refl) kept_owner how es p)
    (first_base (λ (p : Part). p.group) local_group (λ x p. refl) (λ x p. refl) kept_group how es p)
    (first_base (λ (p : Part). p.other) local_other (λ x p. refl) (λ x p. refl) kept_other how es p)
    (base_leaves (λ (p : Part). p.named) local_named (λ x p. refl) (λ x p. refl) (λ x p. refl) es p)
    (base_leaves (λ (p : Part). p.mask) local_mask (λ x p. refl) (λ x p. refl) (λ x p. refl) es p)

pub default_kept : (directory : Bool) (access : Part) (d : Option Part) → (if directory then default_after Add access d [] else d) ≡ d
default_kept true access d = refl
default_kept false access d = refl

acl_once : (acl : Acl) (line : AclLine) (how : How) (directory : Bool) → acl_after (acl_after acl (base_line line) Add directory) line how directory ≡ acl_after acl line how directory
acl_once acl line how directory = λ i. record {
  access = part_once how line.access acl.access i;
  default_part = if directory then default_after how (part_once how line.access acl.access i) (default_kept directory (part_after Add acl.access (filter is_base line.access)) acl.default_part i) line.default_part
      else default_kept directory (part_after Add acl.access (filter is_base line.access)) acl.default_part i;
}

pub divided : (guard : Guard) (line : AclLine) (how : How) (b : Option ObjectState)
    → run (Apply guard (Entries (base_line line) Add) ∷ Apply guard (Entries line how) ∷ []) b ≡ run (Apply guard (Entries line how) ∷ []) b
divided guard line how None = refl
divided guard line how (Some b) = by (admits guard b.body.kind) refl
  where
    by : (t : Bool) → admits guard b.body.kind ≡ t
        → run (Apply guard (Entries line how) ∷ []) (Some (if t then changed b.body.kind (Entries (base_line line) Add) b else b)) ≡ Some (if t then changed b.body.kind (Entries line how) b else b)
    by true e = ap (λ s. Some (if s then changed b.body.kind (Entries line how) (changed b.body.kind (Entries (base_line line) Add) b) else changed b.body.kind (Entries (base_line line) Add) b)) e
        ∙ ap (λ (acl : Acl). Some (record b { metadata = record b.metadata { acl = acl } })) (acl_once b.metadata.acl line how (is_directory b.body.kind))
    by false e = ap (λ s. Some (if s then changed b.body.kind (Entries line how) b else b)) e

-- ---- lists in parts

-- an operation does in parts what it does as one
run-parts_of : (x : Operation) (b : Option ObjectState) → run (parts_of x) b ≡ done x b
run-parts_of (Make new) b = refl
run-parts_of (Renew test new) b = refl
run-parts_of Erase b = refl
run-parts_of (Apply guard (Write bytes)) b = refl
run-parts_of (Apply guard (Append bytes)) b = refl
run-parts_of (Apply guard (Owner uid gid)) b = refl
run-parts_of (Apply guard (Mode mode masked)) b = refl
run-parts_of (Apply guard (Entries line how)) b = by (list_any is_base line.access)
  where
    by : (t : Bool) → run (if t then Apply guard (Entries (base_line line) Add) ∷ Apply guard (Entries line how) ∷ [] else Apply guard (Entries line how) ∷ []) b ≡ done (Apply guard (Entries line how)) b
    by true = divided guard line how b
    by false = refl
run-parts_of (Apply guard (Attrs attrs)) b = refl
run-parts_of (Apply guard (Letters how letters)) b = refl

-- and so do operations
pub run-parts : (xs : List Operation) (b : Option ObjectState) → run (parts xs) b ≡ run xs b
run-parts [] b = refl
run-parts (x ∷ xs) b = run-append (parts_of x) (parts xs) b ∙ ap (λ (o : Option ObjectState). run (parts xs) o) (run-parts_of x b) ∙ run-parts xs (done x b)

-- ---- what is said against lists in parts

module _ (p : Operation → Bool) (each : (guard : Guard) (line : AclLine) (how : How) → list_any is_base line.access ≡ true
    → (p (Apply guard (Entries (base_line line) Add)) || (p (Apply guard (Entries line how)) || false)) ≡ p (Apply guard (Entries line how))) where
  any-parts_of : (x : Operation) → list_any p (parts_of x) ≡ p x
  any-parts_of (Make new) = or-false (p (Make new))
  any-parts_of (Renew test new) = or-false (p (Renew test new))
  any-parts_of Erase = or-false (p Erase)
  any-parts_of (Apply guard (Write bytes)) = or-false (p (Apply guard (Write bytes)))
  any-parts_of (Apply guard (Append bytes)) = or-false (p (Apply guard (Append bytes)))
  any-parts_of (Apply guard (Owner uid gid)) = or-false (p (Apply guard (Owner uid gid)))
  any-parts_of (Apply guard (Mode mode masked)) = or-false (p (Apply guard (Mode mode masked)))
  any-parts_of (Apply guard (Entries line how)) = by (list_any is_base line.access) refl
    where
      by : (t : Bool) → list_any is_base line.access ≡ t
          → list_any p (if t then Apply guard (Entries (base_line line) Add) ∷ Apply guard (Entries line how) ∷ [] else Apply guard (Entries line how) ∷ []) ≡ p (Apply guard (Entries line how))
      by true e = each guard line how e
      by false e = or-false (p (Apply guard (Entries line how)))
  any-parts_of (Apply guard (Attrs attrs)) = or-false (p (Apply guard (Attrs attrs)))
  any-parts_of (Apply guard (Letters how letters)) = or-false (p (Apply guard (Letters how letters)))

  any-parts : (xs : List Operation) → list_any p (parts xs) ≡ list_any p xs
  any-parts [] = refl
  any-parts (x ∷ xs) = list_any-append p (parts_of x) (parts xs) ∙ ap (λ b. b || list_any p (parts xs)) (any-parts_of x) ∙ ap (λ b. p x || b) (any-parts xs)

gives-parts : (guard : Guard) (line : AclLine) (how : How) → list_any is_base line.access ≡ true
    → (is_adjusting gives_base (Apply guard (Entries (base_line line) Add)) || (is_adjusting gives_base (Apply guard (Entries line how)) || false)) ≡ is_adjusting gives_base (Apply guard (Entries line how))
gives-parts guard line how e = ap (λ t. list_any is_base (filter is_base line.access) || (t || false)) e ∙ or-true (list_any is_base (filter is_base line.access)) ∙ sym e

no_makes : (xs : List Operation) → list_any is_make (parts xs) ≡ list_any is_make xs
no_makes = any-parts is_make (λ guard line how e. refl)

-- base entries are entries
some_base : (es : List Entry) → list_any is_base es ≡ true → no_entries (filter is_base es) ≡ false
some_base [] e = let no : false ≡ true = e in cc
some_base (entry.Owner x ∷ es) e = refl
some_base (entry.Group x ∷ es) e = refl
some_base (entry.Other x ∷ es) e = refl
some_base (entry.Named x ∷ es) e = some_base es e
some_base (entry.Mask x ∷ es) e = some_base es e

some_entry : (es : List Entry) → list_any is_base es ≡ true → no_entries es ≡ false
some_entry [] e = let no : false ≡ true = e in cc
some_entry (x ∷ es) e = refl

late-parts : (xs : List Operation) → makes_late (parts xs) ≡ makes_late xs
late-parts [] = refl
late-parts (Make new ∷ xs) = any-parts is_renewal (λ guard line how e. refl) xs
late-parts (Renew test new ∷ xs) = any-parts is_renewal (λ guard line how e. refl) xs
late-parts (Erase ∷ xs) = no_makes xs
late-parts (Apply guard (Write bytes) ∷ xs) = no_makes xs
late-parts (Apply guard (Append bytes) ∷ xs) = no_makes xs
late-parts (Apply guard (Owner uid gid) ∷ xs) = by (sets_nothing (Owner uid gid)) (late-parts xs)
  where
    by : (t : Bool) → makes_late (parts xs) ≡ makes_late xs → (if t then makes_late (parts xs) else list_any is_make (parts xs)) ≡ (if t then makes_late xs else list_any is_make xs)
    by true rest = rest
    by false rest = no_makes xs
late-parts (Apply guard (Mode mode masked) ∷ xs) = no_makes xs
late-parts (Apply guard (Entries line how) ∷ xs) = by (list_any is_base line.access) refl (late-parts xs)
  where
    one : (t : Bool) → makes_late (parts xs) ≡ makes_late xs → (if t then makes_late (parts xs) else list_any is_make (parts xs)) ≡ (if t then makes_late xs else list_any is_make xs)
    one true rest = rest
    one false rest = no_makes xs

    by : (t : Bool) → list_any is_base line.access ≡ t → makes_late (parts xs) ≡ makes_late xs
        → makes_late ((if t then Apply guard (Entries (base_line line) Add) ∷ Apply guard (Entries line how) ∷ [] else Apply guard (Entries line how) ∷ []) ++ parts xs)
        ≡ (if no_entries line.access && no_entries line.default_part then makes_late xs else list_any is_make xs)
    by true e rest =
        ap (λ t. if t && true then makes_late (Apply guard (Entries line how) ∷ parts xs) else list_any is_make (parts xs)) (some_base line.access e)
        ∙ no_makes xs
        ∙ sym (ap (λ t. if t && no_entries line.default_part then makes_late xs else list_any is_make xs) (some_entry line.access e))
    by false e rest = one (no_entries line.access && no_entries line.default_part) rest
late-parts (Apply guard (Attrs attrs) ∷ xs) = no_makes xs
late-parts (Apply guard (Letters how letters) ∷ xs) = no_makes xs

-- where nothing is said against operations, nothing is said against them in parts
pub repeatable-parts : (xs : List Operation) → IsRepeatable xs → IsRepeatable (parts xs)
repeatable-parts xs h = record {
  append = any-parts (is_adjusting is_append) (λ guard line how e. refl) xs ∙ h.append;
  mask = ap (λ t. t && list_any (is_adjusting gives_base) (parts xs)) (any-parts (is_adjusting is_masked) (λ guard line how e. refl) xs)
      ∙ ap (λ t. list_any (is_adjusting is_masked) xs && t) (any-parts (is_adjusting gives_base) gives-parts xs) ∙ h.mask;
  make = (λ i. not (any-parts is_erasure (λ guard line how e. refl) xs i) && late-parts xs i) ∙ h.make;
}
