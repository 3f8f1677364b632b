-- The children of a directory as a list in order: what looking for a name tells, and what each edit leaves.
use Rattle.std.proofs.Common.{◌≡◌, ◌≢◌, Result, Ok, Err, OnOk, OnErr, IfOk, MatchResult, MatchOption, Bor, ℕ, suc, zero, ◌<◌, ◌≤◌, Bool, true, false, cond, not, T, List, [], ◌∷◌, ◌++◌, length, replicate, set, get_or, map, position, Option, Some, None, option_map, slice_get, ◌-◌, ◌+◌, refl, sym, ap, subst, ◌∙◌, arith, length-append, insert, remove}
use Rattle.std.proofs.lemmas.List.{length-replicate, length-map}
use Rattle.std.specs.Ordering.{is_eq, is_lt, ordering_reverse, eq_by_cmp}
use Rattle.std.specs.declared.cmp.Ordering.{Ordering}
use Rattle.std.specs.declared.cmp.Ordering.TheVariants.{Less, Equal, Greater}
use Rattle.std.specs.FinMap as fin
use Rattle.std.specs.FinMap.{find, put, IsAntisymmetric, slice_cmp-IsAntisymmetric, nat_cmp-IsAntisymmetric}
use Rattle.std.specs.FinMap.Entries.{below_all, is_sorted-put, is_sorted-where_key, find-where_key}
use Rattle.std.specs.Cmp.{eq_by_cmp_equiv}
use Rattle.std.specs.Cmp.Lexicographic.{nat_list_cmp_total}
use Rattle.std.specs.List.{HoldsAt}
use Rattle.std.specs.Option.{option_copied, option_or}
use Rattle.std.proofs.lemmas.Option.{slice_get-map, slice_get-get_or, slice_get_past, slice_get_within}
use Rattle.pv_path.proofs.PathLaws.{name_cmp-exact}
use Rattle.pv_tree.specs.Finding.{IsRising, IsFoundAt, IsGapAt}
use Rattle.pv_tree.proofs.BinarySearch.{found, rising_found, rising_none, stands, length_rising, missed}
use Rattle.pv_path.specs.Names.{name_cmp}
use Rattle.pv_tree.specs.Children.{Children, IsSorted, orders_of, without}
use Rattle.pv_path.proofs.Tests.{less_of-T, each_T, both_T}

abbrev pub Entries : Type 0
Entries = List (List ℕ × ℕ)

-- ---- the order of names

pub name_exact : IsAntisymmetric name_cmp
name_exact = slice_cmp-IsAntisymmetric nat_cmp-IsAntisymmetric

pub reversed : (p q : List ℕ) (o : Ordering) → name_cmp p q ≡ o → name_cmp q p ≡ ordering_reverse o
reversed p q o e = nat_list_cmp_total.antisymm q p ∙ ap ordering_reverse e

-- ---- lists whose paths rise

-- a name below all entries of a list, whose order to what is sought passes on: all of them stand after it
all_after : (p name : List ℕ) → ((q : List ℕ) → name_cmp p q ≡ Less → name_cmp q name ≡ Greater) → (es : Entries) → T (below_all name_cmp p es) → orders_of name es ≡ replicate (length es) Greater
all_after p name after [] h = refl
all_after p name after (e ∷ es) h =
    let head = after e.0 (less_of-T _ (each_T _ _ h).0) in
    let rest = all_after p name after es (each_T _ _ h).1 in
    rw (head, rest)

pub rising : (name : List ℕ) (es : Entries) → IsSorted es → IsRising (orders_of name es)
rising name [] h = record { less = 0; equal = 0; greater = 0; once = omega arith; is = refl }
rising name (e ∷ es) h = by_order_of (name_cmp e.0 name) refl (rising name es (each_T _ _ h).1)
  where
    after : (o : Ordering) → name_cmp e.0 name ≡ o → o ≢ Less → (q : List ℕ) → name_cmp e.0 q ≡ Less → name_cmp q name ≡ Greater
    after Less is other q l = absurd (other refl)
    after Equal is other q l = let same = name_cmp-exact e.0 name is in reversed name q Less (rw (← same) l)
    after Greater is other q l = reversed name q Less (nat_list_cmp_total.trans name e.0 q (reversed e.0 name Greater is) l)

    by_order_of : (o : Ordering) → name_cmp e.0 name ≡ o → IsRising (orders_of name es) → IsRising (name_cmp e.0 name ∷ orders_of name es)
    by_order_of Less is r = record { less = suc r.less; equal = r.equal; greater = r.greater; once = r.once; is = rw is (ap (λ v. Less ∷ v) r.is) }
    by_order_of Equal is r = record { less = 0; equal = 1; greater = length es; once = omega arith; is = rw (is, all_after e.0 name (after Equal is (λ x. cc)) es (each_T _ _ h).0) }
    by_order_of Greater is r = record { less = 0; equal = 0; greater = suc (length es); once = omega arith; is = rw (is, all_after e.0 name (after Greater is (λ x. cc)) es (each_T _ _ h).0) }

-- ---- the places that looking for a name gives

length_orders : (name : List ℕ) (es : Entries) → length (orders_of name es) ≡ length es
length_orders name es = length-map es (λ e. name_cmp e.0 name)

pub found_within : (name : List ℕ) (es : Entries) (i : ℕ) → IsFoundAt (orders_of name es) i → i < length es
found_within name es i h =
    let n = ap length h.is in
    omega (arith, n, length_orders name es, length-append (replicate i Less) (Equal ∷ replicate h.greater Greater), length-replicate i Less)

pub gap_within : (name : List ℕ) (es : Entries) (i : ℕ) → IsGapAt (orders_of name es) i → i ≤ length es
gap_within name es i h =
    let n = ap length h.is in
    omega (arith, n, length_orders name es, length-append (replicate i Less) (replicate h.greater Greater), length-replicate i Less)

-- the heads and the tails of a list of orders that is given
head_is : (o : Ordering) (os : List Ordering) (p : Ordering) (ps : List Ordering) → o ∷ os ≡ p ∷ ps → o ≡ p
head_is o os p ps e = cc

tail_is : (o : Ordering) (os : List Ordering) (p : Ordering) (ps : List Ordering) → o ∷ os ≡ p ∷ ps → os ≡ ps
tail_is o os p ps e = cc

abbrev FoundAt : List ℕ → Entries → ℕ → ℕ → Type 0
FoundAt name es i g = orders_of name es ≡ replicate i Less ++ Equal ∷ replicate g Greater

abbrev GapAt : List ℕ → Entries → ℕ → ℕ → Type 0
GapAt name es i g = orders_of name es ≡ replicate i Less ++ replicate g Greater

-- the entry that is found has the name that is sought, and is the object there
get_found : (name : List ℕ) (es : Entries) (i g : ℕ) (d : List ℕ × ℕ) → FoundAt name es i g → ((get_or es i d).0 ≡ name) × (find name_cmp name es ≡ Some (get_or es i d).1)
get_found name [] zero g d h = cc
get_found name [] (suc i) g d h = cc
get_found name (e ∷ es) zero g d h =
    let at = head_is (name_cmp e.0 name) (orders_of name es) Equal (replicate g Greater) h in
    let tied : eq_by_cmp name_cmp name e.0 ≡ true = ap is_eq (reversed e.0 name Equal at) in
    (name_cmp-exact e.0 name at, rw tied)
get_found name (e ∷ es) (suc i) g d h =
    let at = head_is (name_cmp e.0 name) (orders_of name es) Less (replicate i Less ++ Equal ∷ replicate g Greater) h in
    let other : eq_by_cmp name_cmp name e.0 ≡ false = ap is_eq (reversed e.0 name Less at) in
    let rest = get_found name es i g d (tail_is _ _ Less _ h) in
    (rest.0, rw other rest.1)

find_greater : (name : List ℕ) (es : Entries) (g : ℕ) → orders_of name es ≡ replicate g Greater → find name_cmp name es ≡ None
find_greater name [] g h = refl
find_greater name (e ∷ es) zero h = cc
find_greater name (e ∷ es) (suc g) h =
    let at = head_is (name_cmp e.0 name) (orders_of name es) Greater (replicate g Greater) h in
    let other : eq_by_cmp name_cmp name e.0 ≡ false = ap is_eq (reversed e.0 name Greater at) in
    rw other (find_greater name es g (tail_is _ _ Greater _ h))

find_missed : (name : List ℕ) (es : Entries) (i g : ℕ) → GapAt name es i g → find name_cmp name es ≡ None
find_missed name es zero g h = find_greater name es g h
find_missed name [] (suc i) g h = cc
find_missed name (e ∷ es) (suc i) g h =
    let at = head_is (name_cmp e.0 name) (orders_of name es) Less (replicate i Less ++ replicate g Greater) h in
    let other : eq_by_cmp name_cmp name e.0 ≡ false = ap is_eq (reversed e.0 name Less at) in
    rw other (find_missed name es i g (tail_is _ _ Less _ h))

pub object_found : (name : List ℕ) (es : Entries) (i : ℕ) (d : List ℕ × ℕ) → IsFoundAt (orders_of name es) i → ((get_or es i d).0 ≡ name) × (find name_cmp name es ≡ Some (get_or es i d).1)
object_found name es i d h = get_found name es i h.greater d h.is

pub object_missed : (name : List ℕ) (es : Entries) (i : ℕ) → IsGapAt (orders_of name es) i → find name_cmp name es ≡ None
object_missed name es i h = find_missed name es i h.greater h.is

-- ---- an entry put at its place

set_found : (name : List ℕ) (o : ℕ) (es : Entries) (i g : ℕ) (d : List ℕ × ℕ) → FoundAt name es i g → set es i ((get_or es i d).0, o) ≡ put name_cmp name o es
set_found name o [] zero g d h = cc
set_found name o [] (suc i) g d h = cc
set_found name o (e ∷ es) zero g d h =
    let is : name_cmp name e.0 ≡ Equal = reversed e.0 name Equal (head_is (name_cmp e.0 name) (orders_of name es) Equal (replicate g Greater) h) in
    rw is
set_found name o (e ∷ es) (suc i) g d h =
    let at = head_is (name_cmp e.0 name) (orders_of name es) Less (replicate i Less ++ Equal ∷ replicate g Greater) h in
    let is : name_cmp name e.0 ≡ Greater = reversed e.0 name Less at in
    rw is (ap (λ (v : Entries). e ∷ v) (set_found name o es i g d (tail_is _ _ Less _ h)))

insert_greater : (name : List ℕ) (o : ℕ) (es : Entries) (g : ℕ) → orders_of name es ≡ replicate g Greater → (name, o) ∷ es ≡ put name_cmp name o es
insert_greater name o [] g h = refl
insert_greater name o (e ∷ es) zero h = cc
insert_greater name o (e ∷ es) (suc g) h =
    let at = head_is (name_cmp e.0 name) (orders_of name es) Greater (replicate g Greater) h in
    let is : name_cmp name e.0 ≡ Less = reversed e.0 name Greater at in
    rw is

insert_gap : (name : List ℕ) (o : ℕ) (es : Entries) (i g : ℕ) → GapAt name es i g → insert es i (name, o) ≡ put name_cmp name o es
insert_gap name o es zero g h = insert_greater name o es g h
insert_gap name o [] (suc i) g h = cc
insert_gap name o (e ∷ es) (suc i) g h =
    let at = head_is (name_cmp e.0 name) (orders_of name es) Less (replicate i Less ++ replicate g Greater) h in
    let is : name_cmp name e.0 ≡ Greater = reversed e.0 name Less at in
    rw is (ap (λ (v : Entries). e ∷ v) (insert_gap name o es i g (tail_is _ _ Less _ h)))

pub put_found : (name : List ℕ) (o : ℕ) (es : Entries) (i : ℕ) (d : List ℕ × ℕ) → IsFoundAt (orders_of name es) i → set es i ((get_or es i d).0, o) ≡ put name_cmp name o es
put_found name o es i d h = set_found name o es i h.greater d h.is

pub put_gap : (name : List ℕ) (o : ℕ) (es : Entries) (i : ℕ) → IsGapAt (orders_of name es) i → insert es i (name, o) ≡ put name_cmp name o es
put_gap name o es i h = insert_gap name o es i h.greater h.is

-- ---- an entry taken out

remove_greater : (name : List ℕ) (es : Entries) (g : ℕ) → orders_of name es ≡ replicate g Greater → es ≡ without name es
remove_greater name [] g h = refl
remove_greater name (e ∷ es) zero h = cc
remove_greater name (e ∷ es) (suc g) h =
    let at = head_is (name_cmp e.0 name) (orders_of name es) Greater (replicate g Greater) h in
    let other : eq_by_cmp name_cmp name e.0 ≡ false = ap is_eq (reversed e.0 name Greater at) in
    rw other (ap (λ (v : Entries). e ∷ v) (remove_greater name es g (tail_is _ _ Greater _ h)))

remove_at : (name : List ℕ) (es : Entries) (i g : ℕ) → FoundAt name es i g → remove es i ≡ without name es
remove_at name [] zero g h = cc
remove_at name [] (suc i) g h = cc
remove_at name (e ∷ es) zero g h =
    let at = head_is (name_cmp e.0 name) (orders_of name es) Equal (replicate g Greater) h in
    let same : eq_by_cmp name_cmp name e.0 ≡ true = ap is_eq (reversed e.0 name Equal at) in
    rw same (remove_greater name es g (tail_is _ _ Equal _ h))
remove_at name (e ∷ es) (suc i) g h =
    let at = head_is (name_cmp e.0 name) (orders_of name es) Less (replicate i Less ++ Equal ∷ replicate g Greater) h in
    let other : eq_by_cmp name_cmp name e.0 ≡ false = ap is_eq (reversed e.0 name Less at) in
    rw other (ap (λ (v : Entries). e ∷ v) (remove_at name es i g (tail_is _ _ Less _ h)))

remove_none : (name : List ℕ) (es : Entries) (i g : ℕ) → GapAt name es i g → es ≡ without name es
remove_none name es zero g h = remove_greater name es g h
remove_none name [] (suc i) g h = cc
remove_none name (e ∷ es) (suc i) g h =
    let at = head_is (name_cmp e.0 name) (orders_of name es) Less (replicate i Less ++ replicate g Greater) h in
    let other : eq_by_cmp name_cmp name e.0 ≡ false = ap is_eq (reversed e.0 name Less at) in
    rw other (ap (λ (v : Entries). e ∷ v) (remove_none name es i g (tail_is _ _ Less _ h)))

pub remove_found : (name : List ℕ) (es : Entries) (i : ℕ) → IsFoundAt (orders_of name es) i → remove es i ≡ without name es
remove_found name es i h = remove_at name es i h.greater h.is

pub remove_gap : (name : List ℕ) (es : Entries) (i : ℕ) → IsGapAt (orders_of name es) i → es ≡ without name es
remove_gap name es i h = remove_none name es i h.greater h.is

-- ---- where a name is looked for

pub read_there : (name : List ℕ) (es : Entries) (i : ℕ) (d : List ℕ × ℕ) → IsSorted es → Some i ≡ position is_eq (orders_of name es) → Some (get_or es i d).1 ≡ find name_cmp name es
read_there name es i d h found = sym (object_found name es i d (rising_found (orders_of name es) i (rising name es h) (sym found))).1

pub read_nowhere : (name : List ℕ) (es : Entries) → IsSorted es → None ≡ position is_eq (orders_of name es) → None ≡ find name_cmp name es
read_nowhere name es h none =
    let order : IsRising (orders_of name es) = rising name es h in
    sym (object_missed name es order.less (rising_none (orders_of name es) order (sym none)))

-- an entry with the name that is sought is the object there
pub read_at : (name : List ℕ) (es : Entries) (i : ℕ) (e : List ℕ × ℕ) → IsSorted es → Some e ≡ slice_get es i → name_cmp e.0 name ≡ Equal → Some e.1 ≡ find name_cmp name es
read_at name es i e h at same =
    let order : Some Equal ≡ slice_get (orders_of name es) i =
    ap Some (sym same) ∙ ap (option_map (λ (x : List ℕ × ℕ). name_cmp x.0 name)) at ∙ sym (slice_get-map (λ (x : List ℕ × ℕ). name_cmp x.0 name) es i) in
    let is = object_found name es i e (found (orders_of name es) (rising name es h) i order) in
    let within : i < length es = slice_get_within es i e (sym at) in
    ap (option_map (λ (x : List ℕ × ℕ). x.1)) (at ∙ slice_get-get_or es i e within) ∙ sym is.1

-- a name after the last one is after all
pub after_last : (name : List ℕ) (es : Entries) (e : List ℕ × ℕ) → IsSorted es → Some e ≡ slice_get es (length es - 1) → name_cmp e.0 name ≡ Less → IsGapAt (orders_of name es) (length es)
after_last name es e h at less =
    let within : length es - 1 < length es = slice_get_within es (length es - 1) e (sym at) in
    let order : IsRising (orders_of name es) = rising name es h in
    let there : Some Less ≡ slice_get (orders_of name es) (length es - 1) =
    ap Some (sym less) ∙ ap (option_map (λ (x : List ℕ × ℕ). name_cmp x.0 name)) at ∙ sym (slice_get-map (λ (x : List ℕ × ℕ). name_cmp x.0 name) es (length es - 1)) in
    let last : length es - 1 < order.less = stands (orders_of name es) order (length es - 1) Less there in
    let most : order.less + order.equal ≤ length (orders_of name es) = length_rising (orders_of name es) order in
    missed (orders_of name es) order (length es) (length es) (omega arith) (omega (arith, length_orders name es)) (omega arith)

-- what the place means, by its case
pub place_within : (name : List ℕ) (es : Entries) (r : Result ℕ ℕ) → MatchResult r (IsFoundAt (orders_of name es)) (IsGapAt (orders_of name es)) → MatchResult r (λ i. i < length es) (λ i. i ≤ length es)
place_within name es (Ok i) h = found_within name es i h
place_within name es (Err i) h = gap_within name es i h

-- ---- a list in two parts

below_first : (p : List ℕ) (es fs : Entries) → T (below_all name_cmp p (es ++ fs)) → T (below_all name_cmp p es)
below_first p [] fs h = tt
below_first p (e ∷ es) fs h = both_T _ _ (each_T _ _ h).0 (below_first p es fs (each_T _ _ h).1)

first_sorted : (es fs : Entries) → IsSorted (es ++ fs) → IsSorted es
first_sorted [] fs h = tt
first_sorted (e ∷ es) fs h = both_T _ _ (below_first e.0 es fs (each_T _ _ h).0) (first_sorted es fs (each_T _ _ h).1)

second_sorted : (es fs : Entries) → IsSorted (es ++ fs) → IsSorted fs
second_sorted [] fs h = h
second_sorted (e ∷ es) fs h = second_sorted es fs (each_T _ _ h).1

find_append : (name : List ℕ) (es fs : Entries) (r : Option ℕ) → find name_cmp name es ≡ r → find name_cmp name (es ++ fs) ≡ option_or r (find name_cmp name fs)
find_append name [] fs r h = ap (λ v. option_or v (find name_cmp name fs)) h
find_append name (e ∷ es) fs r h = by_test (eq_by_cmp name_cmp name e.0) refl (find_append name es fs r)
  where
    by_test : (b : Bool) → eq_by_cmp name_cmp name e.0 ≡ b → (find name_cmp name es ≡ r → find name_cmp name (es ++ fs) ≡ option_or r (find name_cmp name fs)) → find name_cmp name ((e ∷ es) ++ fs) ≡ option_or r (find name_cmp name fs)
    by_test true is rest =
        let here : find name_cmp name (e ∷ es) ≡ Some e.1 = rw is in
        rw is (ap (λ v. option_or v (find name_cmp name fs)) (sym here ∙ h))
    by_test false is rest =
        let there : find name_cmp name (e ∷ es) ≡ find name_cmp name es = rw is in
        rw is (rest (sym there ∙ h))

pub sorted_first : (es fs all : Entries) → es ++ fs ≡ all → IsSorted all → IsSorted es
sorted_first es fs all is h = first_sorted es fs (subst IsSorted (sym is) h)

pub sorted_second : (es fs all : Entries) → es ++ fs ≡ all → IsSorted all → IsSorted fs
sorted_second es fs all is h = second_sorted es fs (subst IsSorted (sym is) h)

pub find_first : (name : List ℕ) (es fs all : Entries) (n : ℕ) → es ++ fs ≡ all → Some n ≡ find name_cmp name es → Some n ≡ find name_cmp name all
find_first name es fs all n is h = sym (find_append name es fs (Some n) (sym h)) ∙ ap (find name_cmp name) is

pub find_second : (name : List ℕ) (es fs all : Entries) (r : Option ℕ) → es ++ fs ≡ all → None ≡ find name_cmp name es → r ≡ find name_cmp name fs → r ≡ find name_cmp name all
find_second name es fs all r is h there = there ∙ sym (find_append name es fs None (sym h)) ∙ ap (find name_cmp name) is

-- ---- the lists as maps

pub sorted_put : (name : List ℕ) (o : ℕ) (es new : Entries) → IsSorted es → new ≡ put name_cmp name o es → IsSorted new
sorted_put name o es new h is = subst IsSorted (sym is) (is_sorted-put name_cmp nat_list_cmp_total name o es h)

pub sorted_without : (name : List ℕ) (es new : Entries) → IsSorted es → new ≡ without name es → IsSorted new
sorted_without name es new h is = subst IsSorted (sym is) (is_sorted-where_key name_cmp (λ x. not (eq_by_cmp name_cmp name x)) es h)

pub as_get : (es : Entries) (m : Children) (name : List ℕ) → fin.from_sorted es ≡ m → IsSorted es → find name_cmp name es ≡ fin.get m name
as_get es m name is h = sym (fin.get-from_sorted name_cmp es name h) ∙ ap (λ (v : Children). fin.get v name) is

pub as_entries : (es : Entries) (m : Children) → fin.from_sorted es ≡ m → IsSorted es → fin.entries m ≡ es
as_entries es m is h = ap fin.entries (sym is) ∙ fin.entries-from_sorted name_cmp es h

pub as_insert : (name : List ℕ) (o : ℕ) (es new : Entries) (m : Children) → fin.from_sorted es ≡ m → IsSorted es → new ≡ put name_cmp name o es → fin.from_sorted new ≡ fin.insert m name o
as_insert name o es new m is h put_is =
    fin.same_entries_map (fin.from_sorted new) (fin.insert m name o)
    (fin.entries-from_sorted name_cmp new (sorted_put name o es new h put_is) ∙ put_is ∙ ap (put name_cmp name o) (sym (as_entries es m is h)) ∙ sym (fin.entries-insert nat_list_cmp_total m name o))

pub as_remove : (name : List ℕ) (es new : Entries) (m : Children) → fin.from_sorted es ≡ m → IsSorted es → new ≡ without name es → fin.from_sorted new ≡ fin.remove m name
as_remove name es new m is h gone =
    fin.same_map nat_list_cmp_total name_exact (fin.from_sorted new) (fin.remove m name)
    (λ q. fin.get-from_sorted name_cmp new q (sorted_without name es new h gone) ∙ ap (find name_cmp q) gone
    ∙ find-where_key name_cmp (λ x. not (eq_by_cmp name_cmp name x)) q (λ x tied. ap (λ (v : List ℕ). not (eq_by_cmp name_cmp name v)) (sym (name_cmp-exact q x tied))) es
    ∙ turned (eq_by_cmp name_cmp name q) (find name_cmp q es)
    ∙ ap (λ b. cond b None (find name_cmp q es)) ((eq_by_cmp_equiv nat_list_cmp_total).symm name q)
    ∙ ap (cond (eq_by_cmp name_cmp q name) None) (as_get es m q is h)
    ∙ sym (fin.get-remove nat_list_cmp_total m name q))
  where
    turned : (b : Bool) (o : Option ℕ) → cond (not b) o None ≡ cond b None o
    turned true o = refl
    turned false o = refl

pub put_sorted : {A E : Type 0} → (r : Result A E) (name : List ℕ) (o : ℕ) (es new : Entries) → IsSorted es → OnOk r (new ≡ put name_cmp name o es) → OnErr r (new ≡ es) → IsSorted new
put_sorted (Ok a) name o es new h ok err = sorted_put name o es new h ok
put_sorted (Err e) name o es new h ok err = subst IsSorted (sym err) h

pub put_insert : {A E : Type 0} → (r : Result A E) (name : List ℕ) (o : ℕ) (es new : Entries) (m : Children) → fin.from_sorted es ≡ m → IsSorted es → OnOk r (new ≡ put name_cmp name o es) → OnOk r (fin.from_sorted new ≡ fin.insert m name o)
put_insert (Ok a) name o es new m is h ok = as_insert name o es new m is h ok
put_insert (Err e) name o es new m is h ok = tt

pub put_old : {E : Type 0} → (r : Result (Option ℕ) E) (name : List ℕ) (es : Entries) (m : Children) → fin.from_sorted es ≡ m → IsSorted es → IfOk r (λ old. old ≡ find name_cmp name es) → IfOk r (λ old. old ≡ fin.get m name)
put_old (Ok a) name es m is h ok = ok ∙ as_get es m name is h
put_old (Err e) name es m is h ok = tt

-- an item read behind a reference
pub item_read : {X : Type 0} → (xs : List X) (i : ℕ) (r : Option (Bor X)) → MatchOption r (length xs ≤ i) (λ x. (i < length xs) × HoldsAt (λ y. x.now ≡ y) xs i) → option_copied r ≡ slice_get xs i
item_read xs i None h = sym (slice_get_past xs i h)
item_read xs i (Some x) h = ap Some (h.1 x.now) ∙ sym (slice_get-get_or xs i x.now h.0)

-- the first item
pub name_before : (o : Ordering) (b : Bool) → b ≡ is_lt o → b ≡ true → o ≡ Less
name_before Less b e h = refl
name_before Equal b e h = absurd (let no : false ≡ true = sym e ∙ h in cc)
name_before Greater b e h = absurd (let no : false ≡ true = sym e ∙ h in cc)

-- an order that is found equal
pub equal_is : (o : Ordering) → is_eq o ≡ true → o ≡ Equal
equal_is Less h = absurd (let no : false ≡ true = h in cc)
equal_is Equal h = refl
equal_is Greater h = absurd (let no : false ≡ true = h in cc)

pub as_empty : (es : Entries) → es ≡ [] → fin.from_sorted es ≡ fin.empty {X = ℕ} {R = name_cmp}
as_empty es is = fin.same_map nat_list_cmp_total name_exact (fin.from_sorted es) fin.empty
    (λ q. ap (λ (v : Entries). fin.get (fin.from_sorted {R = name_cmp} v) q) is ∙ fin.get-from_sorted name_cmp [] q tt ∙ sym (fin.get-empty name_cmp q))

pub keys_are : {E : Type 0} → (r : Result (List (List ℕ)) E) (es : Entries) (m : Children) → fin.from_sorted es ≡ m → IsSorted es → IfOk r (λ names. names ≡ map (λ e. e.0) es) → IfOk r (λ names. names ≡ fin.keys m)
keys_are (Ok names) es m is h ok = ok ∙ ap (map (λ (e : List ℕ × ℕ). e.0)) (sym (as_entries es m is h))
keys_are (Err e) es m is h ok = tt

-- ---- no children

pub no_entries : fin.entries (fin.empty {X = ℕ} {R = name_cmp}) ≡ []
no_entries = as_entries [] fin.empty (as_empty [] refl) tt

pub no_keys : fin.keys (fin.empty {X = ℕ} {R = name_cmp}) ≡ []
no_keys = ap (map (λ (e : List ℕ × ℕ). e.0)) no_entries

pub none_removed : (name : List ℕ) → fin.remove (fin.empty {X = ℕ} {R = name_cmp}) name ≡ fin.empty
none_removed name = sym (as_remove name [] [] fin.empty (as_empty [] refl) tt refl) ∙ as_empty [] refl

pub none_found : (name : List ℕ) → fin.get (fin.empty {X = ℕ} {R = name_cmp}) name ≡ None
none_found = fin.get-empty name_cmp
