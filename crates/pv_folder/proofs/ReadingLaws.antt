-- What holds of a folder's tree as it is gone through: what listings named and is still to come leads to the rest of it.
use Rattle.std.proofs.Common.{◌≡◌, ◌≢◌, ◌∙◌, ◌+◌, suc, length, Bool, true, false, cond, ◌||◌, T, List, [], ◌∷◌, ◌++◌, map, Option, Some, None, is_some, option_map, refl, sym, ap, subst, ℕ, append_assoc, append-nil}
use Rattle.std.specs.Prelude.{drop}
use Rattle.std.specs.List.{AllByRecursion, cons_option, filter_map, flat_map, list_all, list_any}
use Rattle.std.specs.Option.{option_or}
use Rattle.std.specs.Ordering.{eq_by_cmp, is_eq, is_lt, ordering_reverse}
use Rattle.std.specs.declared.cmp.Ordering.TheVariants.{Less, Equal}
use Rattle.std.specs.FinMap as fin
use Rattle.std.specs.FinMap.Entries.{below_all, find, is_sorted}
use Rattle.std.proofs.lemmas.Bool.{and_parts}
use Rattle.pv_path.specs.Names.{is_name, name_cmp, same_bytes}
use Rattle.pv_path.specs.Paths.{Path, has_names, path_cmp, path_total}
use Rattle.pv_path.proofs.PathLaws.{is_name-last_name, last_name-push, name_cmp-refl, same_bytes-decides, same_bytes-refl}
use Rattle.pv_path.proofs.Tests.{both_T, each_T, less_of}
use Rattle.pv_steps.specs.declared.node.Kind.TheVariants as node
use Rattle.pv_steps.specs.declared.object.Object.{Object}
use Rattle.pv_steps.specs.Objects.{fresh}
use Rattle.pv_steps.specs.Trees.{Files, places}
use Rattle.pv_tree.specs.Held.{root_alone}
use Rattle.pv_tree.proofs.GrowLaws.{IsGrowing, grown}
use Rattle.pv_folder.specs.declared.item.HostItem.{HostItem}
use Rattle.pv_folder.specs.declared.item.HostKind.{HostKind}
use Rattle.pv_folder.specs.declared.item.HostKind.TheVariants as kind
use Rattle.pv_folder.specs.Content.{Content, HostObject, IsContent, IsPresent, held, items_in, kind_at, listing, listing_of}
use Rattle.pv_folder.specs.Content as host
use Rattle.pv_folder.specs.Lists.{comes_before, is_ordered}
use Rattle.pv_folder.specs.declared.found.Found.{Found}
use Rattle.pv_folder.specs.declared.found.Seen.{Seen}
use Rattle.pv_folder.specs.declared.found.Seen.TheVariants as seen
use Rattle.pv_folder.specs.declared.open_fault.OpenFault.TheVariants.{TooLarge}
use Rattle.pv_folder.specs.Folders.{object_of, objects_in, real_in, tree_path}
use Rattle.pv_folder.specs.Opening.{fault_among, is_over, objects_below, odd}
use Rattle.pv_folder.specs.Reading.{Shows, found_below, found_in, items_of, kind_named, path_of, seen_object, seen_size}
use Rattle.pv_folder.proofs.Preorder.{Rise, preorder, under, under_each}
use Rattle.pv_folder.proofs.FolderLaws.{above, child_there, kind_named-in, objects_found, objects_sorted}

-- ---- listings

abbrev pub names_of : List HostItem → List (List ℕ)
names_of items = map (λ (i : HostItem). i.name) items

all_less : (x : HostItem) (items : List HostItem) → list_all (comes_before x) items ≡ true → AllByRecursion (λ m. name_cmp x.name m ≡ Less) (names_of items)
all_less x [] h = tt
all_less x (y ∷ items) h =
    let parts = and_parts (comes_before x y) (list_all (comes_before x) items) h in
    (less_of (name_cmp x.name y.name) parts.0, all_less x items parts.1)

-- the names of a listing rise
pub ordered_rise : (items : List HostItem) → is_ordered items ≡ true → Rise (names_of items)
ordered_rise [] h = tt
ordered_rise (x ∷ items) h =
    let parts = and_parts (list_all (comes_before x) items) (is_ordered items) h in
    (all_less x items parts.0, ordered_rise items parts.1)

differs : (a b : List ℕ) → name_cmp a b ≡ Less → same_bytes b a ≡ false
differs a b less = by (same_bytes b a) refl
  where
    by : (t : Bool) → same_bytes b a ≡ t → t ≡ false
    by false e = refl
    by true e =
        let same : b ≡ a = (same_bytes-decides b a).0 e in
        absurd (let no : Less ≡ Equal = sym less ∙ ap (name_cmp a) same ∙ name_cmp-refl a in cc)

still_named : (x : HostItem) (xs ys : List HostItem) → AllByRecursion (λ (i : HostItem). kind_named i.name xs ≡ Some i.kind) ys
    → AllByRecursion (λ m. name_cmp x.name m ≡ Less) (names_of ys) → AllByRecursion (λ (i : HostItem). kind_named i.name (x ∷ xs) ≡ Some i.kind) ys
still_named x xs [] h less = tt
still_named x xs (y ∷ ys) h less =
    (ap (λ b. cond b (Some x.kind) (kind_named y.name xs)) (differs x.name y.name less.0) ∙ h.0, still_named x xs ys h.1 less.1)

-- each item is the one of its name
all_named : (items : List HostItem) → Rise (names_of items) → AllByRecursion (λ (i : HostItem). kind_named i.name items ≡ Some i.kind) items
all_named [] h = tt
all_named (x ∷ items) h =
    (ap (λ b. cond b (Some x.kind) (kind_named x.name items)) (same_bytes-refl x.name), still_named x items items (all_named items h.1) h.0)

named_any : (n : List ℕ) (items : List HostItem) → is_some (kind_named n items) ≡ list_any (same_bytes n) (names_of items)
named_any n [] = refl
named_any n (x ∷ items) = by (same_bytes n x.name) (named_any n items)
  where
    by : (b : Bool) → is_some (kind_named n items) ≡ list_any (same_bytes n) (names_of items) → is_some (cond b (Some x.kind) (kind_named n items)) ≡ (b || list_any (same_bytes n) (names_of items))
    by true e = refl
    by false e = e

is_some-map : {A B : Type 0} (f : A → B) (o : Option A) → is_some (option_map f o) ≡ is_some o
is_some-map f None = refl
is_some-map f (Some x) = refl

-- what is listed is a directory, and its items are those in it
pub listed : (c : Content) (o : Option HostObject) (p : Path) (items : List HostItem) → listing_of c o p ≡ Some items → (o ≡ Some host.Directory) × (items ≡ items_in c p)
listed c None p items e = cc
listed c (Some host.Directory) p items e = (refl, let same : Some (items_in c p) ≡ Some items = e in cc)
listed c (Some (host.File bytes)) p items e = cc
listed c (Some host.Other) p items e = cc

-- ---- what is still to come

-- what is at and below what was found
abbrev pub ahead : Path → Content → List Found → List (Path × HostObject)
ahead folder c next = flat_map (λ x. under (objects_in folder c) (path_of x)) next

-- what is real of objects, as a tree has it before a manifest says more
abbrev pub real_entries : List (Path × HostObject) → List (Path × Object)
real_entries es = filter_map (λ e. option_map (λ o. (e.0, o)) (object_of e.1)) es

-- in a content: what was found is there, and leads to all that is still to come
pub record IsReading (folder : Path) (c : Content) (objects bytes : ℕ) (files : Files) (last : Path) (next : List Found) : Type 0 where
  pub content : IsContent (held c)
  pub kinds : AllByRecursion (λ (x : Found). kind_at (held c) (tree_path folder ++ path_of x) ≡ Some x.kind) next
  pub fault : fault_among 0 0 (objects_below folder c) ≡ fault_among objects bytes (ahead folder c next)
  pub growing : IsGrowing (real_in folder c) files last (real_entries (ahead folder c next))

ahead_each : (folder : Path) (c : Content) (p : Path) (items : List HostItem) → ahead folder c (map (found_in p) items) ≡ under_each (objects_in folder c) p (names_of items)
ahead_each folder c p [] = refl
ahead_each folder c p (i ∷ items) = ap (λ es. under (objects_in folder c) (p ++ i.name ∷ []) ++ es) (ahead_each folder c p items)

ahead_both : (folder : Path) (c : Content) (xs ys : List Found) → ahead folder c (xs ++ ys) ≡ ahead folder c xs ++ ahead folder c ys
ahead_both folder c [] ys = refl
ahead_both folder c (x ∷ xs) ys =
    ap (λ es. under (objects_in folder c) (path_of x) ++ es) (ahead_both folder c xs ys)
    ∙ sym (append_assoc (under (objects_in folder c) (path_of x)) (ahead folder c xs) (ahead folder c ys))

pub all_both : {A : Type 0} (P : A → Type 0) (xs ys : List A) → AllByRecursion P xs → AllByRecursion P ys → AllByRecursion P (xs ++ ys)
all_both P [] ys g h = h
all_both P (x ∷ xs) ys g h = (g.0, all_both P xs ys g.1 h)

-- ---- one object

module _ (folder : Path) (c : Content) (content : IsContent (held c)) (p : Path) where
  below : (r : Path) → (tree_path folder ++ p) ++ r ≡ tree_path folder ++ (p ++ r)
  below r = append_assoc (tree_path folder) p r

  found_there : (r : Path) → is_some (find path_cmp (p ++ r) (objects_in folder c)) ≡ true → IsPresent (held c) ((tree_path folder ++ p) ++ r)
  found_there r h = ap (λ (q : Path). is_some (held c q)) (below r) ∙ sym (ap is_some (objects_found folder c (p ++ r))) ∙ h

  there_found : (r : Path) → IsPresent (held c) ((tree_path folder ++ p) ++ r) → is_some (find path_cmp (p ++ r) (objects_in folder c)) ≡ true
  there_found r h = ap is_some (objects_found folder c (p ++ r)) ∙ ap (λ (q : Path). is_some (held c q)) (sym (below r)) ∙ h

  closed : (n : List ℕ) (r : Path) → is_some (find path_cmp (p ++ n ∷ r) (objects_in folder c)) ≡ true → is_some (find path_cmp (p ++ n ∷ []) (objects_in folder c)) ≡ true
  closed n r h = there_found (n ∷ []) (child_there (held c) content (tree_path folder ++ p) n r (found_there (n ∷ r) h))

  -- below what is not a directory there is nothing
  pub alone : (o : HostObject) → held c (tree_path folder ++ p) ≡ Some o → (host.kind_of o ≢ kind.Directory) → under (objects_in folder c) p ≡ (p, o) ∷ []
  alone o is other =
      preorder (objects_in folder c) p o [] (objects_sorted folder c) (objects_found folder c p ∙ is)
      (λ n h.
      let directory = above (held c) content [] (tree_path folder ++ p) n (found_there (n ∷ []) h) in
      absurd (let same : Some (host.kind_of o) ≡ Some kind.Directory = sym (ap (option_map host.kind_of) is) ∙ directory in other cc))
      closed tt

  -- below a directory there is what its listing leads to
  pub spread : (items : List HostItem) → listing c (tree_path folder ++ p) ≡ Some items → is_ordered items ≡ true
      → under (objects_in folder c) p ≡ (p, host.Directory) ∷ ahead folder c (map (found_in p) items)
  spread items lists ordered =
      let parts = listed c (held c (tree_path folder ++ p)) (tree_path folder ++ p) items lists in
      preorder (objects_in folder c) p host.Directory (names_of items) (objects_sorted folder c) (objects_found folder c p ∙ parts.0)
      (λ n h.
      sym (named_any n items) ∙ ap (λ (xs : List HostItem). is_some (kind_named n xs)) parts.1
      ∙ ap is_some (kind_named-in c (tree_path folder ++ p) n)
      ∙ is_some-map host.kind_of (held c ((tree_path folder ++ p) ++ n ∷ []))
      ∙ found_there (n ∷ []) h)
      closed (ordered_rise items ordered)
      ∙ ap (λ es. (p, host.Directory) ∷ es) (sym (ahead_each folder c p items))

  children : (xs items : List HostItem) → items ≡ items_in c (tree_path folder ++ p) → AllByRecursion (λ (i : HostItem). kind_named i.name items ≡ Some i.kind) xs
      → AllByRecursion (λ (x : Found). kind_at (held c) (tree_path folder ++ path_of x) ≡ Some x.kind) (map (found_in p) xs)
  children [] items are h = tt
  children (x ∷ xs) items are h = (
    ap (kind_at (held c)) (sym (below (x.name ∷ []))) ∙ sym (kind_named-in c (tree_path folder ++ p) x.name) ∙ ap (kind_named x.name) (sym are) ∙ h.0,
    children xs items are h.1,
  )

  -- and each of it is of its kind
  pub kinds_below : (items : List HostItem) → listing c (tree_path folder ++ p) ≡ Some items → is_ordered items ≡ true
      → AllByRecursion (λ (x : Found). kind_at (held c) (tree_path folder ++ path_of x) ≡ Some x.kind) (map (found_in p) items)
  kinds_below items lists ordered =
      let parts = listed c (held c (tree_path folder ++ p)) (tree_path folder ++ p) items lists in
      children items items parts.1 (all_named items (ordered_rise items ordered))

-- ---- the next object

some_object : (o : Option HostObject) (k : HostKind) → option_map host.kind_of o ≡ Some k → (x : HostObject) × (o ≡ Some x) × (host.kind_of x ≡ k)
some_object None k e = cc
some_object (Some x) k e = (x, refl, let same : Some (host.kind_of x) ≡ Some k = e in cc)

module _ (folder : Path) (c : Content) (objects bytes : ℕ) (files : Files) (last : Path) (x : Found) (next : List Found) (w : IsReading folder c objects bytes files last (x ∷ next)) where
  -- it has a name
  pub next_named : is_name x.name ≡ true
  next_named =
      let there = some_object (held c (tree_path folder ++ path_of x)) x.kind w.kinds.0 in
      let names : has_names (tree_path folder ++ path_of x) ≡ true = w.content.names (tree_path folder ++ path_of x) (ap is_some there.1) in
      let whole : (tree_path folder ++ x.directory) ++ x.name ∷ [] ≡ tree_path folder ++ path_of x = append_assoc (tree_path folder) x.directory (x.name ∷ []) in
      is_name-last_name ((tree_path folder ++ x.directory) ++ x.name ∷ []) x.name (ap has_names whole ∙ names) (last_name-push (tree_path folder ++ x.directory) x.name)

  -- another object is the fault
  pub next_other : x.kind ≡ kind.Other → fault_among 0 0 (objects_below folder c) ≡ Some (odd (path_of x))
  next_other is =
      let there = some_object (held c (tree_path folder ++ path_of x)) x.kind w.kinds.0 in
      w.fault ∙ by there.0 there.1 (there.2 ∙ is)
    where
      by : (o : HostObject) → held c (tree_path folder ++ path_of x) ≡ Some o → host.kind_of o ≡ kind.Other → fault_among objects bytes (ahead folder c (x ∷ next)) ≡ Some (odd (path_of x))
      by host.Directory at k = cc
      by (host.File b) at k = cc
      by host.Other at k =
          ap (λ es. fault_among objects bytes (es ++ ahead folder c next)) (alone folder c w.content (path_of x) host.Other at (λ no. cc))

  -- another kind than the one that was listed is not there
  pub next_same : (kind_at (held c) (tree_path folder ++ path_of x) ≢ Some x.kind) → ⊥
  next_same other = other w.kinds.0

  -- too many objects or bytes are the fault
  pub next_over : (what : Seen) → Shows c (tree_path folder ++ path_of x) what → is_ordered (items_of what) ≡ true → is_over (suc objects) (bytes + seen_size what) ≡ true
      → fault_among 0 0 (objects_below folder c) ≡ Some TooLarge
  next_over (seen.Directory items) shows ordered over =
      w.fault ∙ ap (λ es. fault_among objects bytes (es ++ ahead folder c next)) (spread folder c w.content (path_of x) items shows ordered)
      ∙ ap (λ b. cond b (Some TooLarge) (fault_among (suc objects) (bytes + 0) (ahead folder c (map (found_in (path_of x)) items) ++ ahead folder c next))) over
  next_over (seen.File b) shows ordered over =
      w.fault ∙ ap (λ es. fault_among objects bytes (es ++ ahead folder c next)) (alone folder c w.content (path_of x) (host.File b) shows (λ no. cc))
      ∙ ap (λ t. cond t (Some TooLarge) (fault_among (suc objects) (bytes + length b) (ahead folder c next))) over

  -- and else what is still to come is read on
  pub next_read : (what : Seen) → Shows c (tree_path folder ++ path_of x) what → is_ordered (items_of what) ≡ true → is_over (suc objects) (bytes + seen_size what) ≡ false
      → IsReading folder c (suc objects) (bytes + seen_size what) (fin.insert files (path_of x) (seen_object what)) (path_of x) (found_below (path_of x) what ++ next)
  next_read (seen.Directory items) shows ordered few =
      let below = spread folder c w.content (path_of x) items shows ordered in
      let both : ahead folder c (x ∷ next) ≡ (path_of x, host.Directory) ∷ ahead folder c (map (found_in (path_of x)) items ++ next) =
      ap (λ es. es ++ ahead folder c next) below ∙ ap (λ es. (path_of x, host.Directory) ∷ es) (sym (ahead_both folder c (map (found_in (path_of x)) items) next)) in
      record {
        content = w.content;
        kinds = all_both (λ (y : Found). kind_at (held c) (tree_path folder ++ path_of y) ≡ Some y.kind) (map (found_in (path_of x)) items) next
            (kinds_below folder c w.content (path_of x) items shows ordered) w.kinds.1;
        fault = w.fault ∙ ap (fault_among objects bytes) both
            ∙ ap (λ b. cond b (Some TooLarge) (fault_among (suc objects) (bytes + 0) (ahead folder c (map (found_in (path_of x)) items ++ next)))) few;
        growing = grown (real_in folder c) files last (path_of x) (seen_object (seen.Directory items)) (real_entries (ahead folder c (map (found_in (path_of x)) items ++ next)))
            (subst (λ es. IsGrowing (real_in folder c) files last (real_entries es)) both w.growing);
      }
  next_read (seen.File b) shows ordered few =
      let both : ahead folder c (x ∷ next) ≡ (path_of x, host.File b) ∷ ahead folder c next =
      ap (λ es. es ++ ahead folder c next) (alone folder c w.content (path_of x) (host.File b) shows (λ no. cc)) in
      record {
        content = w.content;
        kinds = w.kinds.1;
        fault = w.fault ∙ ap (fault_among objects bytes) both ∙ ap (λ t. cond t (Some TooLarge) (fault_among (suc objects) (bytes + length b) (ahead folder c next))) few;
        growing = grown (real_in folder c) files last (path_of x) (seen_object (seen.File b)) (real_entries (ahead folder c next))
            (subst (λ es. IsGrowing (real_in folder c) files last (real_entries es)) both w.growing);
      }

-- ---- the first objects

pub real_below : (p : Path) (es : List (Path × HostObject)) → T (below_all path_cmp p es) → T (below_all path_cmp p (real_entries es))
real_below p [] h = tt
real_below p (e ∷ es) h =
    let parts = each_T (is_lt (path_cmp p e.0)) (below_all path_cmp p es) h in
    by (object_of e.1) parts.0 (real_below p es parts.1)
  where
    by : (o : Option Object) → T (is_lt (path_cmp p e.0)) → T (below_all path_cmp p (real_entries es)) → T (below_all path_cmp p (cons_option (option_map (λ v. (e.0, v)) o) (real_entries es)))
    by None less rest = rest
    by (Some v) less rest = both_T (is_lt (path_cmp p e.0)) (below_all path_cmp p (real_entries es)) less rest

pub real_sorted : (es : List (Path × HostObject)) → T (is_sorted path_cmp es) → T (is_sorted path_cmp (real_entries es))
real_sorted [] h = tt
real_sorted (e ∷ es) h =
    let parts = each_T (below_all path_cmp e.0 es) (is_sorted path_cmp es) h in
    by (object_of e.1) parts.0 (real_sorted es parts.1)
  where
    by : (o : Option Object) → T (below_all path_cmp e.0 es) → T (is_sorted path_cmp (real_entries es)) → T (is_sorted path_cmp (cons_option (option_map (λ v. (e.0, v)) o) (real_entries es)))
    by None below rest = rest
    by (Some v) below rest = both_T (below_all path_cmp e.0 (real_entries es)) (is_sorted path_cmp (real_entries es)) (real_below e.0 es below) rest

greater : (p q : Path) → path_cmp p q ≡ Less → eq_by_cmp path_cmp q p ≡ false
greater p q less = ap is_eq (path_total.antisymm q p ∙ ap ordering_reverse less)

alone_root : (q : Path) → places (root_alone (fresh node.Directory 0o755 [] 0 0 0).node) q ≡ cond (eq_by_cmp path_cmp q []) (Some (fresh node.Directory 0o755 [] 0 0 0)) None
alone_root q =
    fin.get-insert path_total fin.empty [] (fresh node.Directory 0o755 [] 0 0 0) q
    ∙ ap (λ (x : Option Object). cond (eq_by_cmp path_cmp q []) (Some (fresh node.Directory 0o755 [] 0 0 0)) x) (fin.get-empty path_cmp q)

start_on : (b : Bool) (o : Object) (x : Option Object) → cond b (Some o) x ≡ option_or (cond b (Some o) None) x
start_on true o x = refl
start_on false o x = refl

all_under : (es : List (Path × HostObject)) → under es [] ≡ es
all_under [] = refl
all_under (e ∷ es) = ap (λ xs. e ∷ xs) (all_under es)

module _ (folder : Path) (c : Content) (content : IsContent (held c)) (items : List HostItem) (lists : listing c (tree_path folder) ≡ Some items) (ordered : is_ordered items ≡ true) where
  lists_below : listing c (tree_path folder ++ []) ≡ Some items
  lists_below = ap (listing c) (append-nil (tree_path folder)) ∙ lists

  whole : objects_in folder c ≡ ([], host.Directory) ∷ ahead folder c (map (found_in []) items)
  whole = sym (all_under (objects_in folder c)) ∙ spread folder c content [] items lists_below ordered

  -- with which a folder's tree begins
  pub begun : IsReading folder c 0 0 (root_alone (fresh node.Directory 0o755 [] 0 0 0).node) [] (map (found_in []) items)
  begun =
      let rest = ahead folder c (map (found_in []) items) in
      let rise : T (is_sorted path_cmp (([], host.Directory) ∷ rest)) = subst (λ es. T (is_sorted path_cmp es)) whole (objects_sorted folder c) in
      let real : T (is_sorted path_cmp (([], fresh node.Directory 0o755 [] 0 0 0) ∷ real_entries rest)) = real_sorted (([], host.Directory) ∷ rest) rise in
      let parts = each_T (below_all path_cmp [] (real_entries rest)) (is_sorted path_cmp (real_entries rest)) real in
      record {
        content = content;
        kinds = kinds_below folder c content [] items lists_below ordered;
        fault = ap (λ es. fault_among 0 0 (drop 1 es)) whole;
        growing = record {
          sorted = parts.1;
          next = parts.0;
          past = λ q less. alone_root q ∙ ap (λ b. cond b (Some (fresh node.Directory 0o755 [] 0 0 0)) None) (greater [] q less);
          split = λ q.
              fin.get-from_entries path_total (real_entries (objects_in folder c)) q
              ∙ ap (λ es. find path_cmp q (real_entries es)) whole
              ∙ start_on (eq_by_cmp path_cmp q []) (fresh node.Directory 0o755 [] 0 0 0) (find path_cmp q (real_entries rest))
              ∙ ap (λ (x : Option Object). option_or x (find path_cmp q (real_entries rest))) (sym (alone_root q));
        };
      }
