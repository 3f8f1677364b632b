-- What holds on the way through a folder's tree, and what a folder's own listing says of it.
use Rattle.std.proofs.Common.{◌≡◌, ◌≢◌, ◌∙◌, ◌⊎◌, inl, inr, ◌≤◌, ◌+◌, suc, true, false, ◌&&◌, List, [], ◌∷◌, ◌++◌, map, reverse, codes, Option, Some, None, IfSome, is_some, option_map, Result, Ok, Err, IfErr, refl, sym, ap, subst, ℕ, arith}
use Rattle.std.specs.Prelude.{IsErrAnd, nat_lt}
use Rattle.std.proofs.lemmas.Bool.{and_parts, or_parts}
use Rattle.std.proofs.lemmas.Bool.Decides.{nat_tests}
use Rattle.std.proofs.lemmas.List.{reverse-append, reverse-reverse}
use Rattle.std.specs.FinMap as fin
use Rattle.pv_path.specs.Names.{is_name}
use Rattle.pv_path.specs.Paths.{Path}
use Rattle.pv_steps.specs.declared.node.Kind.TheVariants as node
use Rattle.pv_steps.specs.Objects.{fresh}
use Rattle.pv_steps.specs.Trees.{Files}
use Rattle.pv_tree.specs.Growth.{Grown}
use Rattle.pv_tree.specs.Held.{root_alone}
use Rattle.pv_tree.proofs.GrowLaws.{all_grown}
use Rattle.pv_folder.specs.declared.item.HostItem.{HostItem}
use Rattle.pv_folder.specs.declared.item.HostKind.{HostKind}
use Rattle.pv_folder.specs.declared.item.HostKind.TheVariants as kind
use Rattle.pv_folder.specs.Content.{Content, Held, HostObject, IsContent, IsDirectory, held, items_in, kind_at, listing, listing_of}
use Rattle.pv_folder.specs.Content as host
use Rattle.pv_folder.specs.Lists.{is_ordered}
use Rattle.pv_folder.specs.declared.found.Found.{Found}
use Rattle.pv_folder.specs.declared.found.Seen.{Seen}
use Rattle.pv_folder.specs.declared.open_fault.OpenFault.{OpenFault}
use Rattle.pv_folder.specs.declared.open_fault.OpenFault.TheVariants.{TooLarge}
use Rattle.pv_folder.specs.Folders.{IsFree, IsPrepared, manifest_path, new_manifest_path, real_in, tree_path}
use Rattle.pv_folder.specs.Opening.{fault_among, is_over, most_bytes, most_objects, objects_below, odd}
use Rattle.pv_folder.specs.Reading.{Shows, found_below, found_in, is_directory, is_free, items_of, kind_named, lists_prepared, path_of, seen_object, seen_size}
use Rattle.pv_folder.proofs.FolderLaws.{above, directory_present, kind_named-in}
use Rattle.pv_folder.proofs.ReadingLaws.{IsReading, begun, listed, next_named, next_other, next_over, next_read, next_same}
use Rattle.pv_folder.proofs.StackLaws.{IsStacked, stacked_first, stacked_seen}

-- ---- what is told

pub from_content : {A : Type 0} (P Q : A → Type 0) (o : Option A) → ((x : A) → P x → Q x) → IfSome o P → IfSome o Q
from_content P Q None f h = h
from_content P Q (Some x) f h = f x h

pub told_both : {A : Type 0} (P Q R : A → Type 0) (o : Option A) → ((x : A) → P x → Q x → R x) → IfSome o P → IfSome o Q → IfSome o R
told_both P Q R None f g h = h
told_both P Q R (Some x) f g h = f x g h

-- what holds of a fault holds of an answer that passes it on
pub passed_on : {A : Type 0} (r : Result A OpenFault) (f : OpenFault) (P : OpenFault → Type 0) → IsErrAnd r (λ e. e ≡ f) → P f → IfErr r P
passed_on (Ok x) f P h p = absurd h
passed_on (Err e) f P h p = subst P (sym h) p

-- ---- counts

pub not_over : (objects bytes : ℕ) → is_over objects bytes ≡ false → (objects ≤ most_objects) × (bytes ≤ most_bytes)
not_over objects bytes few =
    let parts = or_parts (nat_lt most_objects objects) (nat_lt most_bytes bytes) few in
    (grind (arith, nat_tests, parts.0), grind (arith, nat_tests, parts.1))

-- ---- on the way

pub record IsGoing (content : Option Content) (folder : Path) (objects bytes : ℕ) (files : Files) (last : Path) (pending : List Found) : Type 0 where
  pub stacked : IsStacked files last (reverse pending)
  pub reading : IfSome content (λ c. IsReading folder c objects bytes files last (reverse pending))

-- the same by what is equal
pub going_at : (content : Option Content) (folder : Path) (objects bytes : ℕ) (files : Files) (last : Path) (pending : List Found) (o b : ℕ) (g : Grown) (p : List Found)
    → o ≡ objects → b ≡ bytes → g ≡ record { files = files; last = last } → p ≡ pending
    → IsGoing content folder objects bytes files last pending → IsGoing content folder o b g.files g.last p
going_at content folder objects bytes files last pending o b g p same_objects same_bytes same_tree same_pending going =
    subst (λ (x : ℕ). IsGoing content folder x b g.files g.last p) (sym same_objects)
    (subst (λ (x : ℕ). IsGoing content folder objects x g.files g.last p) (sym same_bytes)
    (subst (λ (x : Grown). IsGoing content folder objects bytes x.files x.last p) (sym same_tree)
    (subst (IsGoing content folder objects bytes files last) (sym same_pending) going)))

abbrev pub Faulty : Path → OpenFault → Content → Type 0
Faulty folder fault c = fault_among 0 0 (objects_below folder c) ≡ Some fault

popped : (pending : List Found) (x : Found) → reverse (pending ++ x ∷ []) ≡ x ∷ reverse pending
popped pending x = reverse-append pending (x ∷ [])

pushed : (pending more : List Found) → more ++ reverse pending ≡ reverse (pending ++ reverse more)
pushed pending more = sym (reverse-append pending (reverse more) ∙ ap (λ (xs : List Found). xs ++ reverse pending) (reverse-reverse more))

module _ (content : Option Content) (folder : Path) (objects bytes : ℕ) (files : Files) (last : Path) (pending : List Found) (x : Found)
    (g : IsGoing content folder objects bytes files last (pending ++ x ∷ [])) where
  stacked : IsStacked files last (x ∷ reverse pending)
  stacked = subst (IsStacked files last) (popped pending x) g.stacked

  reading : IfSome content (λ c. IsReading folder c objects bytes files last (x ∷ reverse pending))
  reading = from_content (λ c. IsReading folder c objects bytes files last (reverse (pending ++ x ∷ []))) (λ c. IsReading folder c objects bytes files last (x ∷ reverse pending)) content
      (λ c. subst (IsReading folder c objects bytes files last) (popped pending x)) g.reading

  -- a name that is none, or another object, is the fault
  pub going_odd : (x.kind ≡ kind.Other) ⊎ (is_name x.name ≡ false) → IfSome content (Faulty folder (odd (path_of x)))
  going_odd why = from_content (λ c. IsReading folder c objects bytes files last (x ∷ reverse pending)) (Faulty folder (odd (path_of x))) content (λ c r. by c r why) reading
    where
      by : (c : Content) → IsReading folder c objects bytes files last (x ∷ reverse pending) → (x.kind ≡ kind.Other) ⊎ (is_name x.name ≡ false) → Faulty folder (odd (path_of x)) c
      by c r (inl other) = next_other folder c objects bytes files last x (reverse pending) r other
      by c r (inr unfit) = absurd (let no : true ≡ false = sym (next_named folder c objects bytes files last x (reverse pending) r) ∙ unfit in cc)

  -- what was listed is there
  pub going_same : (fault : OpenFault) → IfSome content (λ c. kind_at (held c) (tree_path folder ++ path_of x) ≢ Some x.kind) → IfSome content (Faulty folder fault)
  going_same fault other = told_both (λ c. IsReading folder c objects bytes files last (x ∷ reverse pending)) (λ c. kind_at (held c) (tree_path folder ++ path_of x) ≢ Some x.kind)
      (Faulty folder fault) content (λ c r never. absurd (next_same folder c objects bytes files last x (reverse pending) r never)) reading other

  pub going_over : (what : Seen) → is_ordered (items_of what) ≡ true → IfSome content (λ c. Shows c (tree_path folder ++ path_of x) what)
      → is_over (suc objects) (bytes + seen_size what) ≡ true → IfSome content (Faulty folder TooLarge)
  going_over what ordered shows over = told_both (λ c. IsReading folder c objects bytes files last (x ∷ reverse pending)) (λ c. Shows c (tree_path folder ++ path_of x) what)
      (Faulty folder TooLarge) content (λ c r s. next_over folder c objects bytes files last x (reverse pending) r what s ordered over) reading shows

  pub going_on : (what : Seen) → is_ordered (items_of what) ≡ true → IfSome content (λ c. Shows c (tree_path folder ++ path_of x) what)
      → is_over (suc objects) (bytes + seen_size what) ≡ false
      → IsGoing content folder (suc objects) (bytes + seen_size what) (fin.insert files (path_of x) (seen_object what)) (path_of x) (pending ++ reverse (found_below (path_of x) what))
  going_on what ordered shows few = record {
    stacked = subst (IsStacked (fin.insert files (path_of x) (seen_object what)) (path_of x)) (pushed pending (found_below (path_of x) what))
        (stacked_seen files last x (reverse pending) stacked what ordered);
    reading = told_both (λ c. IsReading folder c objects bytes files last (x ∷ reverse pending)) (λ c. Shows c (tree_path folder ++ path_of x) what)
        (λ c. IsReading folder c (suc objects) (bytes + seen_size what) (fin.insert files (path_of x) (seen_object what)) (path_of x) (reverse (pending ++ reverse (found_below (path_of x) what)))) content
        (λ c r s. subst (IsReading folder c (suc objects) (bytes + seen_size what) (fin.insert files (path_of x) (seen_object what)) (path_of x)) (pushed pending (found_below (path_of x) what))
        (next_read folder c objects bytes files last x (reverse pending) r what s ordered few)) reading shows;
  }

-- with which a folder's tree begins
pub going_first : (content : Option Content) (folder : Path) (items : List HostItem) → is_ordered items ≡ true → IfSome content (λ c. IsContent (held c))
    → IfSome content (λ c. listing c (tree_path folder) ≡ Some items)
    → IsGoing content folder 0 0 (root_alone (fresh node.Directory 0o755 [] 0 0 0).node) [] (reverse (map (found_in []) items))
going_first content folder items ordered whole lists = record {
  stacked = subst (IsStacked (root_alone (fresh node.Directory 0o755 [] 0 0 0).node) []) (sym (reverse-reverse (map (found_in []) items)))
      (stacked_first (fresh node.Directory 0o755 [] 0 0 0) refl items ordered);
  reading = told_both (λ c. IsContent (held c)) (λ c. listing c (tree_path folder) ≡ Some items)
      (λ c. IsReading folder c 0 0 (root_alone (fresh node.Directory 0o755 [] 0 0 0).node) [] (reverse (reverse (map (found_in []) items)))) content
      (λ c k l. subst (IsReading folder c 0 0 (root_alone (fresh node.Directory 0o755 [] 0 0 0).node) []) (sym (reverse-reverse (map (found_in []) items)))
      (begun folder c k items l ordered)) whole lists;
}

module _ (content : Option Content) (folder : Path) (objects bytes : ℕ) (files : Files) (last : Path) (g : IsGoing content folder objects bytes files last []) where
  pub going_real : IfSome content (λ c. files ≡ real_in folder c)
  going_real = from_content (λ c. IsReading folder c objects bytes files last []) (λ c. files ≡ real_in folder c) content (λ c r. all_grown (real_in folder c) files last r.growing) g.reading

-- ---- a folder's own listing

absent_of : (o : Option HostObject) → option_map host.kind_of o ≡ None → o ≡ None
absent_of None e = refl
absent_of (Some x) e = cc

free : (t : Held) (path : Path) (k : Option HostKind) → kind_at t path ≡ k → is_free k ≡ true → IsFree t path
free t path None is h = inl (absent_of (t path) is)
free t path (Some kind.Directory) is h = cc
free t path (Some kind.File) is h = inr is
free t path (Some kind.Other) is h = cc

free_back : (t : Held) (path : Path) → IsFree t path → is_free (kind_at t path) ≡ true
free_back t path (inl none) = ap (λ (o : Option HostObject). is_free (option_map host.kind_of o)) none
free_back t path (inr is) = ap is_free is

directory : (t : Held) (path : Path) (k : Option HostKind) → kind_at t path ≡ k → is_directory k ≡ true → IsDirectory t path
directory t path None is h = cc
directory t path (Some kind.Directory) is h = is
directory t path (Some kind.File) is h = cc
directory t path (Some kind.Other) is h = cc

module _ (folder : Path) (c : Content) (items : List HostItem) (lists : listing c folder ≡ Some items) where
  at_name : (name : List ℕ) → kind_named name items ≡ kind_at (held c) (folder ++ name ∷ [])
  at_name name = ap (kind_named name) (listed c (held c folder) folder items lists).1 ∙ kind_named-in c folder name

  pub is_prepared_so : lists_prepared items ≡ true → IsPrepared folder (held c)
  is_prepared_so h =
      let one = and_parts (is_directory (kind_named (codes "tree") items)) (is_free (kind_named (codes "manifest") items) && is_free (kind_named (codes "manifest.new") items)) h in
      let two = and_parts (is_free (kind_named (codes "manifest") items)) (is_free (kind_named (codes "manifest.new") items)) one.1 in
      record {
        tree = directory (held c) (tree_path folder) (kind_named (codes "tree") items) (sym (at_name (codes "tree"))) one.0;
        manifest = free (held c) (manifest_path folder) (kind_named (codes "manifest") items) (sym (at_name (codes "manifest"))) two.0;
        new_manifest = free (held c) (new_manifest_path folder) (kind_named (codes "manifest.new") items) (sym (at_name (codes "manifest.new"))) two.1;
      }

  pub not_prepared_so : lists_prepared items ≡ false → IsPrepared folder (held c) → ⊥
  not_prepared_so h p =
      let a : is_directory (kind_named (codes "tree") items) ≡ true = ap is_directory (at_name (codes "tree") ∙ p.tree) in
      let b : is_free (kind_named (codes "manifest") items) ≡ true = ap is_free (at_name (codes "manifest")) ∙ free_back (held c) (manifest_path folder) p.manifest in
      let d : is_free (kind_named (codes "manifest.new") items) ≡ true = ap is_free (at_name (codes "manifest.new")) ∙ free_back (held c) (new_manifest_path folder) p.new_manifest in
      let all : lists_prepared items ≡ true = rw (a, b, d) refl in
      let no : true ≡ false = sym all ∙ h in
      cc

  pub manifest_there : is_some (kind_named (codes "manifest") items) ≡ is_some (held c (manifest_path folder))
  manifest_there = ap is_some (at_name (codes "manifest")) ∙ by (held c (manifest_path folder))
    where
      by : (o : Option HostObject) → is_some (option_map host.kind_of o) ≡ is_some o
      by None = refl
      by (Some x) = refl

unlisted : (c : Content) (o : Option HostObject) (path : Path) → listing_of c o path ≡ None → option_map host.kind_of o ≡ Some kind.Directory → ⊥
unlisted c None path e is = let no : None ≡ Some kind.Directory = is in cc
unlisted c (Some host.Directory) path e is = let no : Some (items_in c path) ≡ None = e in cc
unlisted c (Some (host.File b)) path e is = let no : Some kind.File ≡ Some kind.Directory = is in cc
unlisted c (Some host.Other) path e is = let no : Some kind.Other ≡ Some kind.Directory = is in cc

-- what is not a directory is not prepared
pub no_folder : (folder : Path) (c : Content) → IsContent (held c) → listing c folder ≡ None → IsPrepared folder (held c) → ⊥
no_folder folder c whole none p =
    unlisted c (held c folder) folder none (above (held c) whole [] folder (codes "tree") (directory_present (held c) (tree_path folder) p.tree))
