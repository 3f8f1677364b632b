-- Laws of generated trees: at each path that is put next nothing stands and its parent is a directory, so all is a tree.
use Rattle.std.specs.Prelude.{◌≡◌, ℕ, ◌+◌, ◌<◌, ◌≤◌, ◌%◌, ◌^◌, zero, suc, List, [], ◌∷◌, ◌++◌, codes, get_or, length, Bool, true, false, cond, nat_lt, Some, None, is_some}
use Rattle.std.specs.Fmt.{decimal}
use Rattle.std.specs.FinMap as fin
use Rattle.std.specs.Ordering.{eq_by_cmp, is_eq}
use Rattle.std.proofs.Common.{refl, sym, ap, subst, ◌∙◌, arith, inl, inr, drop}
use Rattle.std.proofs.lemmas.Bool.Decides.{nat_tests}
use Rattle.pv_text.proofs.Characters.{all_weaker, digits_alone, is_digit}
use Rattle.std.proofs.lemmas.Bool.{and_from, cases_order}
use Rattle.std.proofs.lemmas.Fmt.{decimal_injective}
use Rattle.std.specs.List.{list_all}
use Rattle.std.proofs.lemmas.Fmt.{length-decimal-le}
use Rattle.std.proofs.lemmas.Option.{same_Some}
use Rattle.pv_path.specs.Names.{is_dots, is_name, is_name_byte}
use Rattle.pv_path.specs.Paths.{Path, has_names, parent_of, path_cmp, path_exact, path_total, same_path, same_path-decides}
use Rattle.pv_path.proofs.PathLaws.{has_names-push, is_name-from, path_cmp-refl}
use Rattle.pv_steps.specs.declared.node.Kind.TheVariants.{Directory, File}
use Rattle.pv_steps.specs.declared.object.Object.{Object}
use Rattle.pv_steps.specs.Objects.{IsObject}
use Rattle.pv_steps.specs.Steps.{put_at}
use Rattle.pv_steps.specs.Trees.{Files, IsKind, IsPresentIn, IsTree, IsTreeIn, kind_of, places}
use Rattle.pv_steps.proofs.ObjectLaws.{IsObject-fresh}
use Rattle.pv_steps.proofs.TreeLaws.{IsTreeIn-put}
use Rattle.pv_generate.specs.Trees.{conf_path, data_path, directory, etc_path, file, folder_path, folders, generated, group_path, numbered, old_path, with_groups, with_olds}
use Rattle.pv_generate.specs.Lines.{lines_of}
use Rattle.pv_path.proofs.Tests.{equal_of}

-- ---- one object put

-- elsewhere all is as it was
put_other : (t : Files) (p : Path) (o : Object) (q : Path) → (q ≡ p → ⊥) → places (fin.insert t p o) q ≡ places t q
put_other t p o q other = fin.get-insert path_total t p o q ∙ by (eq_by_cmp path_cmp q p) refl
  where
    by : (b : Bool) → eq_by_cmp path_cmp q p ≡ b → cond b (Some o) (places t q) ≡ places t q
    by true e = absurd (other (path_exact q p (equal_of (path_cmp q p) e)))
    by false e = refl

-- and it stands at its path
put_there : (t : Files) (p : Path) (o : Object) → places (fin.insert t p o) p ≡ Some o
put_there t p o = fin.get-insert path_total t p o p ∙ ap (λ c. cond (is_eq c) (Some o) (places t p)) (path_cmp-refl p)

-- a path of another length
put_longer : (t : Files) (p : Path) (o : Object) (q : Path) (n m : ℕ) → length p ≡ n → length q ≡ m → n < m → places (fin.insert t p o) q ≡ places t q
put_longer t p o q n m shorter longer less =
    put_other t p o q (λ e. let same : length q ≡ length p = ap (λ (r : Path). length r) e in omega (arith, same, shorter, longer, less))

put_shorter : (t : Files) (p : Path) (o : Object) (q : Path) (n m : ℕ) → length p ≡ n → length q ≡ m → m < n → places (fin.insert t p o) q ≡ places t q
put_shorter t p o q n m longer shorter less =
    put_other t p o q (λ e. let same : length q ≡ length p = ap (λ (r : Path). length r) e in omega (arith, same, shorter, longer, less))

-- where a directory stands, the kind is that
pub is_directory : (t : Files) (p : Path) → places t p ≡ Some directory → IsKind Directory t p
is_directory t p there = ap kind_of there

-- ---- numbers in names

two_groups : (n m : ℕ) → n < 2 ^ 64 → m < 2 ^ 64 → group_path n ≡ group_path m → n ≡ m
two_groups n m small less e = decimal_injective n m small less (ap (λ (p : Path). drop 1 (get_or p 1 [])) e)

two_olds : (n m : ℕ) → n < 2 ^ 64 → m < 2 ^ 64 → old_path n ≡ old_path m → n ≡ m
two_olds n m small less e = decimal_injective n m small less (ap (λ (p : Path). drop 1 (get_or p 2 [])) e)

-- ---- the folders

abbrev pub root_only : Files
root_only = fin.insert fin.empty [] directory

abbrev pub with_etc : Files
with_etc = fin.insert root_only etc_path directory

abbrev pub with_folder : Files
with_folder = fin.insert with_etc folder_path directory

pub etc_absent : places root_only etc_path ≡ None
etc_absent = put_longer fin.empty [] directory etc_path 0 1 refl refl (omega arith) ∙ fin.get-empty path_cmp etc_path

pub root_there : places root_only [] ≡ Some directory
root_there = put_there fin.empty [] directory

pub folder_absent : places with_etc folder_path ≡ None
folder_absent =
    put_longer root_only etc_path directory folder_path 1 2 refl refl (omega arith) ∙ put_longer fin.empty [] directory folder_path 0 2 refl refl (omega arith)
    ∙ fin.get-empty path_cmp folder_path

pub etc_there : places with_etc etc_path ≡ Some directory
etc_there = put_there root_only etc_path directory

not_etc : data_path ≡ etc_path → ⊥
not_etc e = let same : 4 ≡ 3 = ap (λ (p : Path). length (get_or p 0 [])) e in omega (arith, same)

pub data_absent : places with_folder data_path ≡ None
data_absent =
    put_shorter with_etc folder_path directory data_path 2 1 refl refl (omega arith) ∙ put_other root_only etc_path directory data_path not_etc
    ∙ put_longer fin.empty [] directory data_path 0 1 refl refl (omega arith) ∙ fin.get-empty path_cmp data_path

pub root_stays : places with_folder [] ≡ Some directory
root_stays =
    put_shorter with_etc folder_path directory [] 2 0 refl refl (omega arith) ∙ put_shorter root_only etc_path directory [] 1 0 refl refl (omega arith)
    ∙ root_there

data_there : places folders data_path ≡ Some directory
unfolding folders
data_there = put_there with_folder data_path directory

folder_there : places folders folder_path ≡ Some directory
unfolding folders
folder_there = put_longer with_folder data_path directory folder_path 1 2 refl refl (omega arith) ∙ put_there with_etc folder_path directory

-- nothing stands below them
none_below : (q : Path) (m : ℕ) → length q ≡ m → 3 ≤ m → places folders q ≡ None
unfolding folders
none_below q m long more =
    put_longer with_folder data_path directory q 1 m refl long (omega (arith, more)) ∙ put_longer with_etc folder_path directory q 2 m refl long (omega (arith, more))
    ∙ put_longer root_only etc_path directory q 1 m refl long (omega (arith, more)) ∙ put_longer fin.empty [] directory q 0 m refl long (omega (arith, more))
    ∙ fin.get-empty path_cmp q

not_folder : (n : ℕ) → group_path n ≡ folder_path → ⊥
not_folder n e = let same : 4 ≡ 3 = ap (λ (p : Path). length (get_or p 0 [])) e in omega (arith, same)

-- nor at the path of a directory of files
none_group : (n : ℕ) → places folders (group_path n) ≡ None
unfolding folders
none_group n =
    put_longer with_folder data_path directory (group_path n) 1 2 refl refl (omega arith) ∙ put_other with_etc folder_path directory (group_path n) (not_folder n)
    ∙ put_longer root_only etc_path directory (group_path n) 1 2 refl refl (omega arith) ∙ put_longer fin.empty [] directory (group_path n) 0 2 refl refl (omega arith)
    ∙ fin.get-empty path_cmp (group_path n)

-- ---- the directories of files

pub folders_are : fin.insert with_folder data_path directory ≡ folders
unfolding folders
folders_are = refl

pub groups_none : folders ≡ with_groups 0
unfolding with_groups
groups_none = refl

one_more : (n : ℕ) → suc n ≡ n + 1
one_more n = omega arith

groups_suc : (n : ℕ) → fin.insert (with_groups n) (group_path n) directory ≡ with_groups (suc n)
unfolding with_groups
groups_suc n = refl

pub groups_next : (n : ℕ) → fin.insert (with_groups n) (group_path n) directory ≡ with_groups (n + 1)
groups_next n = groups_suc n ∙ ap with_groups (one_more n)

pub olds_none : with_groups 8 ≡ with_olds 0
unfolding with_olds
olds_none = refl

olds_suc : (n : ℕ) → fin.insert (with_olds n) (old_path n) (file (codes "old")) ≡ with_olds (suc n)
unfolding with_olds
olds_suc n = refl

pub olds_next : (n : ℕ) → fin.insert (with_olds n) (old_path n) (file (codes "old")) ≡ with_olds (n + 1)
olds_next n = olds_suc n ∙ ap with_olds (one_more n)

groups_below : (n : ℕ) (q : Path) (m : ℕ) → length q ≡ m → 3 ≤ m → places (with_groups n) q ≡ None
unfolding with_groups
groups_below zero q m long more = none_below q m long more
groups_below (suc n) q m long more =
    put_longer (with_groups n) (group_path n) directory q 2 m refl long (omega (arith, more)) ∙ groups_below n q m long more

pub groups_data : (n : ℕ) → places (with_groups n) data_path ≡ Some directory
unfolding with_groups
groups_data zero = data_there
groups_data (suc n) = put_shorter (with_groups n) (group_path n) directory data_path 2 1 refl refl (omega arith) ∙ groups_data n

groups_folder : (n : ℕ) → places (with_groups n) folder_path ≡ Some directory
unfolding with_groups
groups_folder zero = folder_there
groups_folder (suc n) = put_other (with_groups n) (group_path n) directory folder_path (λ e. not_folder n (sym e)) ∙ groups_folder n

groups_later : (n m : ℕ) → n ≤ m → m < 2 ^ 64 → places (with_groups n) (group_path m) ≡ None
unfolding with_groups
groups_later zero m le small = none_group m
groups_later (suc n) m le small =
    put_other (with_groups n) (group_path n) directory (group_path m)
    (λ e. let same : m ≡ n = two_groups m n small (omega (arith, le, small)) e in omega (arith, same, le))
    ∙ groups_later n m (omega (arith, le)) small

pub group_absent : (n : ℕ) → n < 2 ^ 64 → places (with_groups n) (group_path n) ≡ None
group_absent n small = groups_later n n (omega arith) small

group_there : (n j : ℕ) → j < n → n < 2 ^ 64 → places (with_groups n) (group_path j) ≡ Some directory
unfolding with_groups
group_there zero j less small = absurd (omega (arith, less))
group_there (suc n) j less small =
    elim (cases_order j n) [
      | inl same ↦ subst (λ (k : ℕ). places (with_groups (suc n)) (group_path k) ≡ Some directory) (sym same) (put_there (with_groups n) (group_path n) directory)
      | inr other ↦ elim other [
        | inl before ↦ put_other (with_groups n) (group_path n) directory (group_path j)
            (λ e. let same : j ≡ n = two_groups j n (omega (arith, before, small)) (omega (arith, small)) e in omega (arith, same, before))
            ∙ group_there n j before (omega (arith, small))
        | inr after ↦ absurd (omega (arith, less, after))
      ]
    ]

-- ---- the old files

olds_above : (n : ℕ) (q : Path) (m : ℕ) → length q ≡ m → m < 3 → places (with_olds n) q ≡ places (with_groups 8) q
unfolding with_olds
olds_above zero q m short less = refl
olds_above (suc n) q m short less =
    put_shorter (with_olds n) (old_path n) (file (codes "old")) q 3 m refl short less ∙ olds_above n q m short less

pub old_parent : (n m : ℕ) → IsKind Directory (with_olds n) (group_path (m % 8))
old_parent n m =
    let less : m % 8 < 8 = omega arith in
    is_directory (with_olds n) (group_path (m % 8))
    (olds_above n (group_path (m % 8)) 2 refl (omega arith) ∙ group_there 8 (m % 8) less (omega arith))

olds_later : (n m : ℕ) → n ≤ m → m < 2 ^ 64 → places (with_olds n) (old_path m) ≡ None
unfolding with_olds
olds_later zero m le small = groups_below 8 (old_path m) 3 refl (omega arith)
olds_later (suc n) m le small =
    put_other (with_olds n) (old_path n) (file (codes "old")) (old_path m)
    (λ e. let same : m ≡ n = two_olds m n small (omega (arith, le, small)) e in omega (arith, same, le))
    ∙ olds_later n m (omega (arith, le)) small

pub old_absent : (n : ℕ) → n < 2 ^ 64 → places (with_olds n) (old_path n) ≡ None
old_absent n small = olds_later n n (omega arith) small

-- ---- the configuration

not_conf : (n : ℕ) → conf_path ≡ old_path n → ⊥
not_conf n e = let same : 3 ≡ 4 = ap (λ (p : Path). length (get_or p 0 [])) e in omega (arith, same)

pub conf_absent : (n : ℕ) → places (with_olds n) conf_path ≡ None
unfolding with_olds
conf_absent zero = groups_below 8 conf_path 3 refl (omega arith)
conf_absent (suc n) = put_other (with_olds n) (old_path n) (file (codes "old")) conf_path (not_conf n) ∙ conf_absent n

pub conf_parent : (n : ℕ) → IsKind Directory (with_olds n) folder_path
conf_parent n = is_directory (with_olds n) folder_path (olds_above n folder_path 2 refl (omega arith) ∙ groups_folder 8)

-- ---- names

digit_name : (b : ℕ) → is_digit b ≡ true → is_name_byte b ≡ true
digit_name b h = grind (arith, nat_tests)

-- a letter and a number make a name
numbered_name : (letter n : ℕ) → n < 2 ^ 32 → is_name_byte letter ≡ true → is_dots (numbered letter n) ≡ false → is_name (numbered letter n) ≡ true
numbered_name letter n small one plain =
    let ten : length (decimal n) ≤ 10 = length-decimal-le 10 n (omega arith) (omega (arith, small)) (omega (arith, small)) in
    is_name-from (numbered letter n) (omega arith) (omega (arith, ten))
    (and_from (is_name_byte letter) (list_all is_name_byte (decimal n)) one (all_weaker is_digit is_name_byte digit_name (decimal n) (digits_alone n (omega (arith, small)))))
    plain

pub group_name : (n : ℕ) → n < 2 ^ 32 → is_name (numbered 103 n) ≡ true
group_name n small = numbered_name 103 n small refl refl

pub old_name : (n : ℕ) → n < 2 ^ 32 → is_name (numbered 101 n) ≡ true
old_name n small = numbered_name 101 n small refl refl

-- ---- paths by their names

pub named_path : (folder path : Path) (above : Path) (name wanted : List ℕ) → path ≡ folder ++ name ∷ [] → folder ≡ above → name ≡ wanted → path ≡ above ++ wanted ∷ []
named_path folder path above name wanted is same called =
    is ∙ ap (λ (p : Path). p ++ name ∷ []) same ∙ ap (λ (n : List ℕ). above ++ n ∷ []) called

data_named : has_names data_path ≡ true
data_named = refl

group_named : (n : ℕ) → n < 2 ^ 32 → has_names (group_path n) ≡ true
group_named n small = has_names-push data_path (numbered 103 n) data_named (group_name n small)

old_named : (n : ℕ) → n < 2 ^ 32 → has_names (old_path n) ≡ true
old_named n small = has_names-push (group_path (n % 8)) (numbered 101 n) (group_named (n % 8) (omega arith)) (old_name n small)

-- ---- a tree

placed : (t : Files) (p : Path) (o : Object) (q : Path) → put_at p (Some o) (places t) q ≡ places (fin.insert t p o) q
placed t p o q = by (same_path p q) refl
  where
    by : (b : Bool) → same_path p q ≡ b → cond b (Some o) (places t q) ≡ places (fin.insert t p o) q
    by true e =
        let same : p ≡ q = (same_path-decides p q).0 e in
        sym (put_there t p o) ∙ ap (places (fin.insert t p o)) same
    by false e = sym (put_other t p o q (λ is. let yes : same_path p q ≡ true = (same_path-decides p q).1 (sym is) in cc))

-- a tree with one more object in a directory
put_tree : (t : Files) (p : Path) (o : Object) → IsTree t → places t p ≡ None → IsKind Directory t (parent_of p) → has_names p ≡ true → IsObject o → IsTree (fin.insert t p o)
put_tree t p o tree none parent named whole =
    subst IsTreeIn (λ i q. placed t p o q i) (IsTreeIn-put p (places t) tree o (none, parent) named whole)

directory_whole : IsObject directory
directory_whole = IsObject-fresh Directory 0o755 [] 0 0 0 (omega arith) (omega arith) refl refl (refl, refl) tt

file_whole : (bytes : List ℕ) → list_all (λ b. nat_lt b 256) bytes ≡ true → IsObject (file bytes)
file_whole bytes are = IsObject-fresh File 0o644 bytes 0 0 0 (omega arith) (omega arith) tt are (refl, refl) refl

-- the root alone
root_tree : IsTree root_only
root_tree = record {
  root = ap kind_of root_there;
  parents = λ p there other. absurd (other (only p there));
  names = λ p there. ap has_names (only p there);
  objects = λ p o there. at p o there (only p (ap is_some there));
}
  where
    only : (p : Path) → IsPresentIn (places root_only) p → p ≡ []
    only [] there = refl
    only (n ∷ p) there =
        let none : places root_only (n ∷ p) ≡ None = put_other fin.empty [] directory (n ∷ p) (λ e. cc) ∙ fin.get-empty path_cmp (n ∷ p) in
        let bad : false ≡ true = sym (ap is_some none) ∙ there in
        cc

    at : (p : Path) (o : Object) → places root_only p ≡ Some o → p ≡ [] → IsObject o
    at p o there root =
        let is : Some directory ≡ Some o = sym root_there ∙ sym (ap (places root_only) root) ∙ there in
        subst IsObject (same_Some directory o is) directory_whole

folders_tree : IsTree folders
unfolding folders
folders_tree =
    put_tree with_folder data_path directory
    (put_tree with_etc folder_path directory
    (put_tree root_only etc_path directory root_tree etc_absent (is_directory root_only [] root_there) refl directory_whole)
    folder_absent (is_directory with_etc etc_path etc_there) refl directory_whole)
    data_absent (is_directory with_folder [] root_stays) refl directory_whole

groups_tree : (n : ℕ) → n < 2 ^ 32 → IsTree (with_groups n)
unfolding with_groups
groups_tree zero small = folders_tree
groups_tree (suc n) small =
    put_tree (with_groups n) (group_path n) directory (groups_tree n (omega (arith, small))) (group_absent n (omega (arith, small)))
    (is_directory (with_groups n) data_path (groups_data n)) (group_named n (omega (arith, small))) directory_whole

olds_tree : (n : ℕ) → n < 2 ^ 32 → IsTree (with_olds n)
unfolding with_olds
olds_tree zero small = groups_tree 8 (omega arith)
olds_tree (suc n) small =
    put_tree (with_olds n) (old_path n) (file (codes "old")) (olds_tree n (omega (arith, small))) (old_absent n (omega (arith, small)))
    (old_parent n n) (old_named n (omega (arith, small))) (file_whole (codes "old") refl)

-- a generated tree is a tree
pub generated_is_tree : (seed count : ℕ) → count < 2 ^ 32 → list_all (λ b. nat_lt b 256) (lines_of seed count) ≡ true → IsTree (generated seed count)
generated_is_tree seed count small bytes =
    put_tree (with_olds count) conf_path (file (lines_of seed count)) (olds_tree count small) (conf_absent count) (conf_parent count) refl (file_whole (lines_of seed count) bytes)

-- one object more is planned
pub put_next : (old new f g : Files) (p q : Path) (o x : Object) → new ≡ fin.insert old p o → old ≡ f → p ≡ q → o ≡ x → fin.insert f q x ≡ g → new ≡ g
put_next old new f g p q o x put was is same next =
    put ∙ ap (λ (t : Files). fin.insert t p o) was ∙ ap (λ (r : Path). fin.insert f r o) is ∙ ap (λ (y : Object). fin.insert f q y) same ∙ next
