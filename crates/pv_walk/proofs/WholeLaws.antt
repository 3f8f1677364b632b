-- Laws of what can be taken away with all that stands below it: children decide it, and the deepest go first.
use Rattle.std.specs.Prelude.{◌≡◌, ℕ, ◌+◌, ◌-◌, ◌<◌, ◌≤◌, Bool, true, false, cond, not, ◌&&◌, ◌||◌, ◌==◌, List, [], ◌∷◌, ◌++◌, length, take, Option, Some, None, is_some, IfSome, option_map}
use Rattle.std.proofs.Common.{Bor, refl, sym, ap, subst, ◌∙◌, inl, inr, ◌⊎◌, arith, append_assoc, length-append, get_or, zero, suc}
use Rattle.std.proofs.lemmas.List.{append-nil}
use Rattle.std.proofs.lemmas.Bool.Decides.{nat_tests}
use Rattle.std.proofs.lemmas.List.Folds.{list_any-append}
use Rattle.std.proofs.lemmas.List.Sorted.{sum_by-IsPermutation}
use Rattle.std.proofs.lemmas.List.Sums.{sum_by-cons}
use Rattle.std.specs.List.{AllByRecursion, list_all, list_any, sum_by}
use Rattle.std.specs.List.Sorted.{IsStrictlySortedBy, IsNonDecreasingBy, IsPermutation}
use Rattle.std.specs.Ordering.{eq_by_cmp, is_eq, ordering_reverse}
use Rattle.std.specs.declared.cmp.Ordering.{Ordering}
use Rattle.std.specs.declared.cmp.Ordering.TheVariants.{Less, Equal}
use Rattle.std.specs.FinMap as fin
use Rattle.std.proofs.lemmas.Bool.{and_parts, and_from}
use Rattle.std.proofs.Math.Bool.{or-false, or-true}
use Rattle.pv_path.specs.Paths.{Path, path_cmp, path_total, same_path, same_path-decides, is_prefix}
use Rattle.std.proofs.Math.Seq.{take-append_seam}
use Rattle.pv_path.proofs.PathLaws.{same_path-refl, path_ends, path_cmp-refl, name_cmp-refl, name_cmp-exact, is_prefix-append, is_prefix-trans, is_prefix-refl, prefix_parts, prefix_not_greater, tied-equal}
use Rattle.pv_steps.specs.Trees.{Files, places, child_name, names_below, IsTree, IsPresent}
use Rattle.pv_path.specs.Names.{name_cmp}
use Rattle.pv_steps.proofs.NameLaws.{child_name-Some, child_name-push, names_below-are}
use Rattle.pv_steps.proofs.TreeLaws.{present_above}
use Rattle.pv_walk.specs.Removal.{is_one_of}
use Rattle.pv_walk.specs.Listing.{times, is_child, ParentsFirst, AreRemovable}
use Rattle.pv_walk.proofs.CountLaws.{child_parts}
use Rattle.pv_walk.proofs.RemovalLaws.{cond-true}
use Rattle.pv_walk.proofs.TakingLaws.{one_of-none}
use Rattle.pv_walk.specs.Whole.{goes_whole, all_at}
use Rattle.pv_walk.proofs.FindingLaws.{no_child}
use Rattle.pv_path.proofs.Tests.{equal_of, same_tests}

-- ---- members of lists

-- what all of a list pass, each member passes
pub member_passes : {A : Type 0} (e : A → A → Bool) → ((x y : A) → e x y ≡ true → x ≡ y) → (g : A → Bool) (x : A) (ys : List A) → list_all g ys ≡ true → list_any (e x) ys ≡ true → g x ≡ true
member_passes e exact g x [] all some = cc
member_passes e exact g x (y ∷ ys) all some =
    let parts = and_parts (g y) (list_all g ys) all in
    by parts.0 (member_passes e exact g x ys parts.1) (e x y) refl some
  where
    by : g y ≡ true → (list_any (e x) ys ≡ true → g x ≡ true) → (b : Bool) → e x y ≡ b → (b || list_any (e x) ys) ≡ true → g x ≡ true
    by here rest true is h = ap g (exact x y is) ∙ here
    by here rest false is h = rest h

-- what each member passes, all of a list pass
pub members_pass : {A : Type 0} (e : A → A → Bool) → ((x : A) → e x x ≡ true) → (g : A → Bool) (ys : List A) → ((x : A) → list_any (e x) ys ≡ true → g x ≡ true) → list_all g ys ≡ true
members_pass e same g [] each = refl
members_pass e same g (y ∷ ys) each =
    and_from (g y) (list_all g ys) (each y (ap (λ b. b || list_any (e y) ys) (same y)))
    (members_pass e same g ys (λ x h. each x (or_true (e x y) h)))
  where
    or_true : (b : Bool) {c : Bool} → c ≡ true → (b || c) ≡ true
    or_true true h = refl
    or_true false h = h

path_same : (q : Path) → eq_by_cmp path_cmp q q ≡ true
path_same q = ap is_eq (path_cmp-refl q)

name_same : (n : List ℕ) → eq_by_cmp name_cmp n n ≡ true
name_same n = ap is_eq (name_cmp-refl n)

name_exact_by : (n m : List ℕ) → eq_by_cmp name_cmp n m ≡ true → n ≡ m
name_exact_by n m e = name_cmp-exact n m (equal_of (name_cmp n m) e)

-- a path is a key where something stands there
key_there : (files : Files) (q : Path) → is_some (places files q) ≡ true → list_any (eq_by_cmp path_cmp q) (fin.keys files) ≡ true
key_there files q there = sym (fin.contains_key-keys files q) ∙ there

there_key : (files : Files) (q : Path) → list_any (eq_by_cmp path_cmp q) (fin.keys files) ≡ true → is_some (places files q) ≡ true
there_key files q h = fin.contains_key-keys files q ∙ h

-- ---- what all at and below a path passes

unless : (a b : Bool) → (not a || b) ≡ true → a ≡ true → b ≡ true
unless true b h e = h
unless false b h e = absurd (let wrong : false ≡ true = e in cc)

if_then : (a b : Bool) → (a ≡ true → b ≡ true) → (not a || b) ≡ true
if_then true b f = f refl
if_then false b f = refl

pub all_at-each : (test : Path → Bool) (files : Files) (path : Path) → all_at test files path ≡ true → (q : Path) → is_some (places files q) ≡ true → is_prefix path q ≡ true → test q ≡ true
all_at-each test files path all q there under =
    unless (is_prefix path q) (test q) (member_passes (eq_by_cmp path_cmp) tied-equal (λ r. not (is_prefix path r) || test r) q (fin.keys files) all (key_there files q there)) under

pub each-all_at : (test : Path → Bool) (files : Files) (path : Path) → ((q : Path) → is_some (places files q) ≡ true → is_prefix path q ≡ true → test q ≡ true) → all_at test files path ≡ true
each-all_at test files path each =
    members_pass (eq_by_cmp path_cmp) path_same (λ r. not (is_prefix path r) || test r) (fin.keys files) (λ q h. if_then (is_prefix path q) (test q) (λ under. each q (there_key files q h) under))

-- what goes whole, in its parts
pub goes_parts : (test : Path → Bool) (files : Files) (path : Path) → goes_whole test files path ≡ true → (is_some (places files path) ≡ true) × (not (length path == 0) ≡ true) × (all_at test files path ≡ true)
goes_parts test files path h =
    let one = and_parts (is_some (places files path) && not (length path == 0)) (all_at test files path) h in
    let two = and_parts (is_some (places files path)) (not (length path == 0)) one.0 in
    (two.0, two.1, one.1)

pub goes_from : (test : Path → Bool) (files : Files) (path : Path) → is_some (places files path) ≡ true → not (length path == 0) ≡ true → all_at test files path ≡ true → goes_whole test files path ≡ true
goes_from test files path there below_root all =
    and_from (is_some (places files path) && not (length path == 0)) (all_at test files path) (and_from (is_some (places files path)) (not (length path == 0)) there below_root) all

-- tests that agree on the object there decide alike what goes whole
pub goes_whole-same : (f g : Path → Bool) (files : Files) → ((q : Path) → is_some (places files q) ≡ true → f q ≡ g q) → (path : Path) → goes_whole f files path ≡ goes_whole g files path
goes_whole-same f g files same path =
    ap (λ b. (is_some (places files path) && not (length path == 0)) && b)
    (same_tests (all_at f files path) (all_at g files path)
    (λ h. each-all_at g files path (λ q there under. sym (same q there) ∙ all_at-each f files path h q there under))
    (λ h. each-all_at f files path (λ q there under. same q there ∙ all_at-each g files path h q there under)))

pub push_length : (path : Path) (n : List ℕ) → (length (path ++ n ∷ []) == 0) ≡ false
push_length [] n = refl
push_length (m ∷ path) n = more (length (path ++ n ∷ []))
  where
    more : (k : ℕ) → (suc k == 0) ≡ false
    more k = grind (arith, nat_tests)

-- the object at a path goes whole where it passes, and each child goes whole
pub goes_by_children : (test : Path → Bool) (files : Files) → IsTree files → (path : Path) → is_some (places files path) ≡ true → test path ≡ true
    → goes_whole test files path ≡ (not (length path == 0) && list_all (λ n. goes_whole test files (path ++ n ∷ [])) (names_below files path))
goes_by_children test files tree path there passes =
    ap (λ b. (b && not (length path == 0)) && all_at test files path) there
    ∙ ap (λ b. not (length path == 0) && b) (same_tests (all_at test files path) (list_all (λ n. goes_whole test files (path ++ n ∷ [])) (names_below files path)) forth back)
  where
    child_there : (n : List ℕ) → list_any (eq_by_cmp name_cmp n) (names_below files path) ≡ true → is_some (places files (path ++ n ∷ [])) ≡ true
    child_there n h = sym (names_below-are files path n) ∙ h

    forth : all_at test files path ≡ true → list_all (λ n. goes_whole test files (path ++ n ∷ [])) (names_below files path) ≡ true
    forth all = members_pass (eq_by_cmp name_cmp) name_same (λ n. goes_whole test files (path ++ n ∷ [])) (names_below files path) (λ n h.
        goes_from test files (path ++ n ∷ []) (child_there n h) (ap not (push_length path n))
        (each-all_at test files (path ++ n ∷ []) (λ q at under. all_at-each test files path all q at (is_prefix-trans path (path ++ n ∷ []) q (is_prefix-append path (n ∷ [])) under))))

    back : list_all (λ n. goes_whole test files (path ++ n ∷ [])) (names_below files path) ≡ true → all_at test files path ≡ true
    back all = each-all_at test files path (λ q at under. by q at (prefix_parts path q under))
      where
        by : (q : Path) → is_some (places files q) ≡ true → (r : Path) × (q ≡ path ++ r) → test q ≡ true
        by q at ([], e) = ap test (e ∙ nothing path) ∙ passes
          where
            nothing : (p : Path) → p ++ [] ≡ p
            nothing [] = refl
            nothing (m ∷ p) = ap (λ r. m ∷ r) (nothing p)
        by q at (n ∷ rest, e) =
            let whole : q ≡ (path ++ n ∷ []) ++ rest = e ∙ sym (append_assoc path (n ∷ []) rest) in
            let child : is_some (places files (path ++ n ∷ [])) ≡ true = present_above (places files) tree (path ++ n ∷ []) rest (subst (λ (r : Path). is_some (places files r) ≡ true) whole at) in
            let goes = member_passes (eq_by_cmp name_cmp) name_exact_by (λ m. goes_whole test files (path ++ m ∷ [])) n (names_below files path) all (names_below-are files path n ∙ child) in
            let inner = (goes_parts test files (path ++ n ∷ []) goes).2 in
            all_at-each test files (path ++ n ∷ []) inner q at (subst (λ (r : Path). is_prefix (path ++ n ∷ []) r ≡ true) (sym whole) (is_prefix-append (path ++ n ∷ []) rest))

-- ---- from the last of a list in order on

all_less : (c : Path → Path → Ordering) (k : Path) (ks : List Path) → AllByRecursion (λ y. c k y ≡ Less) ks → (q : Path) → is_one_of ks q ≡ true → c k q ≡ Less
all_less c k [] all q h = cc
all_less c k (x ∷ ks) all q h = by (same_path x q) refl (all_less c k ks all.1 q) h
  where
    by : (b : Bool) → same_path x q ≡ b → (is_one_of ks q ≡ true → c k q ≡ Less) → (b || is_one_of ks q) ≡ true → c k q ≡ Less
    by true is rest e = ap (c k) (sym ((same_path-decides x q).0 is)) ∙ all.0
    by false is rest e = rest e

front_less : (front : List Path) (p : Path) (back : List Path) → IsStrictlySortedBy path_cmp (front ++ p ∷ back) → (q : Path) → is_one_of front q ≡ true → path_cmp q p ≡ Less
unfolding IsStrictlySortedBy
front_less [] p back rises q h = cc
front_less (x ∷ front) p back rises q h = by (same_path x q) refl (front_less front p back rises.1 q) h
  where
    reached : (xs : List Path) → AllByRecursion (λ y. path_cmp x y ≡ Less) (xs ++ p ∷ back) → path_cmp x p ≡ Less
    reached [] all = all.0
    reached (y ∷ xs) all = reached xs all.1

    by : (b : Bool) → same_path x q ≡ b → (is_one_of front q ≡ true → path_cmp q p ≡ Less) → (b || is_one_of front q) ≡ true → path_cmp q p ≡ Less
    by true is rest e = ap (λ (r : Path). path_cmp r p) (sym ((same_path-decides x q).0 is)) ∙ reached front rises.0
    by false is rest e = rest e

-- a child is not before its directory
child_not_less : (p : Path) (n : List ℕ) → path_cmp (p ++ n ∷ []) p ≡ Less → ⊥
child_not_less p n less = prefix_not_greater p (p ++ n ∷ []) (is_prefix-append p (n ∷ [])) (path_total.antisymm p (p ++ n ∷ []) ∙ ap ordering_reverse less)

-- the paths at the front are left, those at the back are decided
pub record Deciding (paths : List Path) (files : Files) (front whole : List Path) : Type 0 where
  pub back : List Path
  pub all : front ++ back ≡ paths
  pub decided : (q : Path) → is_one_of whole q ≡ (is_one_of back q && goes_whole (is_one_of paths) files q)

or_absorbs : (a b : Bool) → ((a && b) || b) ≡ b
or_absorbs true true = refl
or_absorbs true false = refl
or_absorbs false b = refl

one_of-append : (xs ys : List Path) (q : Path) → is_one_of (xs ++ ys) q ≡ (is_one_of xs q || is_one_of ys q)
one_of-append xs ys q = list_any-append (λ p. same_path p q) xs ys

one_of-itself : (ys : List Path) (q : Path) → is_one_of (q ∷ ys) q ≡ true
one_of-itself ys q = ap (λ b. b || is_one_of ys q) ((same_path-decides q q).1 refl)

no_child_itself : (p : Path) (n : List ℕ) → p ≡ p ++ n ∷ [] → ⊥
no_child_itself p n e = let lengths = ap length e in omega (arith, lengths, length-append p (n ∷ []))

either : (a b c : Bool) → (a || (b || c)) ≡ true → (a ≡ true) ⊎ ((b ≡ true) ⊎ (c ≡ true))
either true b c h = inl refl
either false true c h = inr (inl refl)
either false false c h = inr (inr h)

pub deciding_start : (paths : List Path) (files : Files) (whole : List Path) → whole ≡ [] → Deciding paths files paths whole
deciding_start paths files whole none = record { back = []; all = append-nil paths; decided = λ q. ap (λ (xs : List Path). is_one_of xs q) none }

-- what goes is one of the paths
goes_in : (paths : List Path) (files : Files) (q : Path) → goes_whole (is_one_of paths) files q ≡ true → is_one_of paths q ≡ true
goes_in paths files q h =
    let parts = goes_parts (is_one_of paths) files q h in
    all_at-each (is_one_of paths) files q parts.2 q parts.0 (is_prefix-refl q)

module _ (paths : List Path) (files : Files) (tree : IsTree files) (rises : IsStrictlySortedBy path_cmp paths) (present : (q : Path) → is_one_of paths q ≡ true → is_some (places files q) ≡ true) where
  module _ (front : List Path) (p : Path) (whole new : List Path) (d : Deciding paths files (front ++ p ∷ []) whole)
      (added : (q : Path) → is_one_of new q ≡ (is_one_of whole q || (same_path p q && (not (length p == 0) && list_all (λ n. is_one_of whole (p ++ n ∷ [])) (names_below files p))))) where
    split : front ++ p ∷ d.back ≡ paths
    split = sym (append_assoc front (p ∷ []) d.back) ∙ d.all

    listed : is_one_of paths p ≡ true
    listed = ap (λ (xs : List Path). is_one_of xs p) (sym split) ∙ one_of-append front (p ∷ d.back) p ∙ ap (λ b. is_one_of front p || b) (one_of-itself d.back p) ∙ or-true (is_one_of front p)

    -- a child that is one of the paths is decided
    child_behind : (n : List ℕ) → is_one_of paths (p ++ n ∷ []) ≡ true → is_one_of d.back (p ++ n ∷ []) ≡ true
    child_behind n h = elim (either (is_one_of front (p ++ n ∷ [])) (same_path p (p ++ n ∷ [])) (is_one_of d.back (p ++ n ∷ [])) (sym (one_of-append front (p ∷ d.back) (p ++ n ∷ [])) ∙ ap (λ (xs : List Path). is_one_of xs (p ++ n ∷ [])) split ∙ h)) [
      | inl f ↦ absurd (child_not_less p n (front_less front p d.back (subst (IsStrictlySortedBy path_cmp) (sym split) rises) (p ++ n ∷ []) f))
      | inr (inl s) ↦ absurd (no_child_itself p n ((same_path-decides p (p ++ n ∷ [])).0 s))
      | inr (inr b) ↦ b
    ]

    child_decided : (n : List ℕ) → is_one_of whole (p ++ n ∷ []) ≡ goes_whole (is_one_of paths) files (p ++ n ∷ [])
    child_decided n = same_tests (is_one_of whole (p ++ n ∷ [])) (goes_whole (is_one_of paths) files (p ++ n ∷ []))
        (λ h. (and_parts (is_one_of d.back (p ++ n ∷ [])) (goes_whole (is_one_of paths) files (p ++ n ∷ [])) (sym (d.decided (p ++ n ∷ [])) ∙ h)).1)
        (λ h. d.decided (p ++ n ∷ []) ∙ and_from (is_one_of d.back (p ++ n ∷ [])) (goes_whole (is_one_of paths) files (p ++ n ∷ [])) (child_behind n (goes_in paths files (p ++ n ∷ []) h)) h)

    here : (not (length p == 0) && list_all (λ n. is_one_of whole (p ++ n ∷ [])) (names_below files p)) ≡ goes_whole (is_one_of paths) files p
    here =
        ap (λ (f : List ℕ → Bool). not (length p == 0) && list_all f (names_below files p)) (λ i n. child_decided n i)
        ∙ sym (goes_by_children (is_one_of paths) files tree p (present p listed) listed)

    pub deciding_next : Deciding paths files front new
    deciding_next = record {
      back = p ∷ d.back;
      all = split;
      decided = λ q. added q ∙ ap (λ b. is_one_of whole q || (same_path p q && b)) here ∙ ap (λ b. b || (same_path p q && goes_whole (is_one_of paths) files p)) (d.decided q) ∙ by q (same_path p q) refl;
    }
      where
        by : (q : Path) (s : Bool) → same_path p q ≡ s
            → ((is_one_of d.back q && goes_whole (is_one_of paths) files q) || (s && goes_whole (is_one_of paths) files p)) ≡ ((s || is_one_of d.back q) && goes_whole (is_one_of paths) files q)
        by q true e =
            ap (λ (r : Path). (is_one_of d.back q && goes_whole (is_one_of paths) files q) || goes_whole (is_one_of paths) files r) ((same_path-decides p q).0 e)
            ∙ or_absorbs (is_one_of d.back q) (goes_whole (is_one_of paths) files q)
        by q false e = or-false (is_one_of d.back q && goes_whole (is_one_of paths) files q)

pub deciding_end : (paths : List Path) (files : Files) (whole : List Path) → Deciding paths files [] whole → (q : Path) → is_one_of whole q ≡ goes_whole (is_one_of paths) files q
deciding_end paths files whole d q = d.decided q ∙ same_tests (is_one_of d.back q && goes_whole (is_one_of paths) files q) (goes_whole (is_one_of paths) files q)
    (λ h. (and_parts (is_one_of d.back q) (goes_whole (is_one_of paths) files q) h).1)
    (λ h. and_from (is_one_of d.back q) (goes_whole (is_one_of paths) files q) (ap (λ (xs : List Path). is_one_of xs q) d.all ∙ goes_in paths files q h) h)

-- ---- the deepest last

pub times-sum : (q : Path) (ps : List Path) → times q ps ≡ sum_by (λ p. cond (same_path p q) 1 0) ps
times-sum q [] = refl
times-sum q (p ∷ ps) = ap (λ n. cond (same_path p q) 1 0 + n) (times-sum q ps) ∙ sym (sum_by-cons (λ r. cond (same_path r q) 1 0) p ps)

pub times-moved : (q : Path) (xs ys : List Path) → IsPermutation xs ys → times q ys ≡ times q xs
times-moved q xs ys moved = times-sum q ys ∙ sum_by-IsPermutation (λ p. cond (same_path p q) 1 0) xs ys moved ∙ sym (times-sum q xs)

-- in a list in order a path stands once
pub times-rising : (ks : List Path) (q : Path) → IsStrictlySortedBy path_cmp ks → times q ks ≡ cond (is_one_of ks q) 1 0
unfolding IsStrictlySortedBy
times-rising [] q rises = refl
times-rising (x ∷ ks) q rises = by (same_path x q) refl (times-rising ks q rises.1)
  where
    none : same_path x q ≡ true → is_one_of ks q ≡ false
    none s = at (is_one_of ks q) refl
      where
        at : (b : Bool) → is_one_of ks q ≡ b → b ≡ false
        at true e =
            let less : path_cmp x q ≡ Less = all_less path_cmp x ks rises.0 q e in
            let equal : path_cmp x q ≡ Equal = ap (path_cmp x) (sym ((same_path-decides x q).0 s)) ∙ path_cmp-refl x in
            absurd (let no : Less ≡ Equal = sym less ∙ equal in cc)
        at false e = refl

    by : (b : Bool) → same_path x q ≡ b → times q ks ≡ cond (is_one_of ks q) 1 0 → cond b 1 0 + times q ks ≡ cond (b || is_one_of ks q) 1 0
    by true e more = let rest = one_of-none ks q (none e) in omega (arith, rest)
    by false e more = omega (arith, more)

-- lengths that do not fall
abbrev pub Deepening : List Path → Type 0
Deepening [] = Unit {0}
Deepening (p ∷ ps) = ((q : Path) → 1 ≤ times q ps → length p ≤ length q) × Deepening ps

pub place_in : (q : Path) (ps : List Path) → 1 ≤ times q ps → (k : ℕ) × (k < length ps) × ((d : Path) → get_or ps k d ≡ q)
place_in q [] some = absurd (omega arith)
place_in q (p ∷ ps) some = by (same_path p q) refl (place_in q ps)
  where
    by : (b : Bool) → same_path p q ≡ b → (1 ≤ times q ps → (k : ℕ) × (k < length ps) × ((d : Path) → get_or ps k d ≡ q)) → (k : ℕ) × (k < length (p ∷ ps)) × ((d : Path) → get_or (p ∷ ps) k d ≡ q)
    by true e more = (zero, omega arith, λ d. (same_path-decides p q).0 e)
    by false e more =
        let rest : 1 ≤ times q ps = omega (arith, some, ap (λ b. cond {A = ℕ} b 1 0) e) in
        let found = more rest in
        (suc found.0, omega (arith, found.1), found.2)

pub deepening : (ps : List Path) → IsNonDecreasingBy (λ (p : Path). length p) ps → Deepening ps
deepening [] rises = tt
deepening (p ∷ ps) rises = (
  (λ q some. let found = place_in q ps some in subst (λ (r : Path). length p ≤ length r) (found.2 p) (rises zero (suc found.0) p (omega arith) (omega (arith, found.1)))),
  deepening ps (λ i j d le within. rises (suc i) (suc j) d (omega (arith, le)) (omega (arith, within))),
)

-- each behind a path has as many names or more
pub length_behind : (p : Path) (ps : List Path) → ((q : Path) → 1 ≤ times q ps → length p ≤ length q) → AllByRecursion (λ q. length p ≤ length q) ps
length_behind p [] deep = tt
length_behind p (q ∷ ps) deep = (deep q (omega (arith, ap (λ b. cond {A = ℕ} b 1 0) (same_path-refl q))), length_behind p ps (λ r some. deep r (omega (arith, some))))

deepest_order : (files : Files) (ps : List Path) → Deepening ps → ((p q : Path) → 1 ≤ times p ps → is_child p q ≡ true → IsPresent files q → 1 ≤ times q ps) → ParentsFirst files [] ps
deepest_order files [] deep closed = tt
deepest_order files (p ∷ ps) deep closed = (
  (λ q child there. omega (arith, behind p q (omega (arith, ap (λ b. cond {A = ℕ} b 1 0) (same_path-refl p))) child there (omega (arith, longer p q child)))),
  deepest_order files ps deep.1 (λ r q some child there. behind r q (omega (arith, some)) child there (let one = deep.0 r some in omega (arith, one, longer r q child))),
)
  where
    longer : (r q : Path) → is_child r q ≡ true → length q ≡ length r + 1
    longer r q child = let parts = child_parts r q child in ap length parts.1 ∙ length-append r (parts.0 ∷ [])

    -- a child that is longer than the head stands behind it
    behind : (r q : Path) → 1 ≤ times r (p ∷ ps) → is_child r q ≡ true → IsPresent files q → length p < length q → 1 ≤ times q ps
    behind r q some child there deeper = by (same_path p q) refl
      where
        by : (b : Bool) → same_path p q ≡ b → 1 ≤ times q ps
        by true e = absurd (let same = ap length ((same_path-decides p q).0 e) in omega (arith, same, deeper))
        by false e = let all = closed r q some child there in omega (arith, all, ap (λ b. cond {A = ℕ} b 1 0) e)

-- what goes whole can be taken away, the deepest first
pub whole_removable : (test : Path → Bool) (files : Files) (keys ordered : List Path) → IsStrictlySortedBy path_cmp keys → ((q : Path) → is_one_of keys q ≡ goes_whole test files q)
    → ((q : Path) → times q ordered ≡ times q keys) → IsNonDecreasingBy (λ (p : Path). length p) ordered → AreRemovable files ordered
whole_removable test files keys ordered rises members moved deep = record {
  once = λ q. let e = counted q in omega (arith, e, bounded q);
  no_root = counted [] ∙ ap (λ b. cond b 1 0) (no_root (is_some (places files [])));
  order = deepest_order files ordered (deepening ordered deep) closed;
}
  where
    counted : (q : Path) → times q ordered ≡ cond (goes_whole test files q) 1 0
    counted q = moved q ∙ times-rising keys q rises ∙ ap (λ b. cond b 1 0) (members q)

    bounded : (q : Path) → cond (goes_whole test files q) 1 0 ≤ cond (is_some (places files q)) 1 0
    bounded q = by (is_some (places files q)) (not (length q == 0)) (all_at test files q)
      where
        by : (a b c : Bool) → cond ((a && b) && c) 1 0 ≤ cond a 1 0
        by true true true = omega arith
        by true true false = omega arith
        by true false c = omega arith
        by false b c = omega arith

    no_root : (a : Bool) → ((a && false) && all_at test files []) ≡ false
    no_root true = refl
    no_root false = refl

    closed : (p q : Path) → 1 ≤ times p ordered → is_child p q ≡ true → IsPresent files q → 1 ≤ times q ordered
    closed p q some child there =
        let goes : goes_whole test files p ≡ true = cond-true (goes_whole test files p) (subst (λ n. 1 ≤ n) (counted p) some) in
        let all = (goes_parts test files p goes).2 in
        let found = child_parts p q child in
        let under : is_prefix p q ≡ true = subst (λ (r : Path). is_prefix p r ≡ true) (sym found.1) (is_prefix-append p (found.0 ∷ [])) in
        let whole : goes_whole test files q ≡ true =
        goes_from test files q there (ap not (ap (λ (r : Path). length r == 0) found.1 ∙ push_length p found.0))
        (each-all_at test files q (λ r at below. all_at-each test files p all r at (is_prefix-trans p q r under below))) in
        omega (arith, counted q, ap (λ b. cond {A = ℕ} b 1 0) whole)

-- what was decided to go is present
pub decided_present : (paths : List Path) (files : Files) (front whole : List Path) → Deciding paths files front whole → (q : Path) → is_one_of whole q ≡ true → is_some (places files q) ≡ true
decided_present paths files front whole d q h =
    (goes_parts (is_one_of paths) files q (and_parts (is_one_of d.back q) (goes_whole (is_one_of paths) files q) (sym (d.decided q) ∙ h)).1).0

-- ---- the name of a path in a directory

get_or-end : (q : Path) (m d : List ℕ) → get_or (q ++ m ∷ []) (length q) d ≡ m
get_or-end [] m d = refl
get_or-end (n ∷ q) m d = get_or-end q m d

-- a path in its two parts: all names but the last, and the last
pub last_parts : (q names above : Path) (name : List ℕ) → names ≡ q → 1 ≤ length names → name ≡ get_or names (length names - 1) name → above ≡ take (length names - 1) names → q ≡ above ++ name ∷ []
last_parts q names above name is long last front = by_end (path_ends q)
  where
    by_end : (q ≡ []) ⊎ ((p : Path) × (m : List ℕ) × (q ≡ p ++ m ∷ [])) → q ≡ above ++ name ∷ []
    by_end (inl root) = absurd (let none : length names ≡ 0 = ap length (is ∙ root) in omega (arith, long, none))
    by_end (inr w) =
        let seen : names ≡ w.0 ++ w.1 ∷ [] = is ∙ w.2 in
        let at : length (w.0 ++ w.1 ∷ []) - 1 ≡ length w.0 = omega (arith, length-append w.0 (w.1 ∷ [])) in
        let last_is : name ≡ w.1 = last ∙ (rw (seen, at) (get_or-end w.0 w.1 name)) in
        let front_is : above ≡ w.0 = front ∙ (rw (seen, at) (take-append_seam w.0 (w.1 ∷ []))) in
        rw (front_is, last_is) w.2

-- the root lies in no directory
pub root_in_none : (path : Path) → child_name path [] ≡ None
root_in_none [] = refl
root_in_none (n ∷ path) = refl

-- a path has a name in its own directory, and in no other
pub name_in_own : (path q above : Path) (name : List ℕ) → q ≡ above ++ name ∷ [] → same_path path above ≡ true → Some name ≡ child_name path q
name_in_own path q above name is same =
    sym (ap (child_name path) (is ∙ ap (λ (p : Path). p ++ name ∷ []) (sym ((same_path-decides path above).0 same))) ∙ child_name-push path name)

pub name_in_other : (path q above : Path) (name : List ℕ) → q ≡ above ++ name ∷ [] → same_path path above ≡ false → None ≡ child_name path q
name_in_other path q above name is apart = sym (ap (child_name path) is ∙ no_child path above name apart)

-- what holds of a path, holds of the child of the name that it has in a directory
pub child_has : (P : Path → Type 0) (path q : Path) (o : Option (Bor (List ℕ))) → option_map (λ s. s.now) o ≡ child_name path q → P q → IfSome o (λ name. P (path ++ name.now ∷ []))
child_has P path q None e h = tt
child_has P path q (Some s) e h = subst P (child_name-Some path q s.now (sym e)) h

-- one path more in a set, where all its children are in the set
pub inserted : (old new : List Path) (path q : Path) (all : Bool) → new ≡ path ∷ old
    → all ≡ true → (path ≡ [] → ⊥) → is_one_of new q ≡ (is_one_of old q || (same_path path q && (not (length path == 0) && all)))
inserted old new path q all is passes below_root =
    ap (λ (xs : List Path). is_one_of xs q) is
    ∙ by (same_path path q) (is_one_of old q)
    ∙ ap (λ b. is_one_of old q || (same_path path q && b)) (sym (and_from (not (length path == 0)) all (ap not (no_root path below_root)) passes))
  where
    no_root : (p : Path) → (p ≡ [] → ⊥) → (length p == 0) ≡ false
    no_root [] h = absurd (h refl)
    no_root (n ∷ p) h = more (length p)
      where
        more : (k : ℕ) → (suc k == 0) ≡ false
        more k = grind (arith, nat_tests)

    by : (s o : Bool) → (s || o) ≡ (o || (s && true))
    by true true = refl
    by true false = refl
    by false true = refl
    by false false = refl

-- ---- what was decided comes after what is left

all_behind : (front : List Path) (p : Path) (back : List Path) → IsStrictlySortedBy path_cmp (front ++ p ∷ back) → AllByRecursion (λ q. path_cmp p q ≡ Less) back
unfolding IsStrictlySortedBy
all_behind [] p back rises = rises.0
all_behind (x ∷ front) p back rises = all_behind front p back rises.1

pub decided_after : (paths : List Path) (files : Files) (front whole : List Path) (p : Path) → IsStrictlySortedBy path_cmp paths → Deciding paths files (front ++ p ∷ []) whole
    → (q : Path) → is_one_of whole q ≡ true → path_cmp p q ≡ Less
decided_after paths files front whole p rises d q h =
    let split : front ++ p ∷ d.back ≡ paths = sym (append_assoc front (p ∷ []) d.back) ∙ d.all in
    all_less path_cmp p d.back (all_behind front p d.back (subst (IsStrictlySortedBy path_cmp) (sym split) rises)) q
    (and_parts (is_one_of d.back q) (goes_whole (is_one_of paths) files q) (sym (d.decided q) ∙ h)).0
