-- Laws of steps: what a tree has at each path after a step is what the step leaves there.
use Rattle.std.specs.Prelude.{◌≡◌, ℕ, Bool, true, false, cond, ◌||◌, List, [], ◌∷◌, ◌++◌, map, Option, Some, None, is_some, option_map}
use Rattle.std.proofs.Common.{refl, sym, ap, subst, ◌∙◌}
use Rattle.std.specs.List.{list_any, cons_option}
use Rattle.std.specs.Ordering.{eq_by_cmp, is_eq}
use Rattle.std.specs.Option.{option_map_or}
use Rattle.std.proofs.lemmas.List.Folds.{list_any-append}
use Rattle.std.proofs.lemmas.List.{append-nil}
use Rattle.std.specs.FinMap as fin
use Rattle.std.specs.FinMap.Entries.{find}
use Rattle.pv_path.specs.Paths.{Path, path_cmp, path_total, path_exact, same_path, rest_under, is_prefix, parent_of, same_path-decides}
use Rattle.pv_path.proofs.PathLaws.{path_cmp-refl, rest_under-Some, rest_under-append, tied-equal}
use Rattle.pv_steps.specs.declared.object.Object.{Object}
use Rattle.pv_steps.specs.declared.step.Step.{Step}
use Rattle.pv_steps.specs.declared.step.Step.TheVariants.{MakeDir, MakeFile, MakeFifo, MakeDevice, MakeLink, Write, SetMode, SetOwner, SetAcl, SetAttrs, SetLetters, SetStamps, Rename, Unlink, RemoveDir}
use Rattle.pv_steps.specs.Objects.{modified, changed}
use Rattle.pv_steps.specs.Trees.{Files, Places, places, entries_at, tabulate}
use Rattle.pv_steps.specs.Steps.{after, after_at, paths_after, put_at, on_at, touched, made, gone, moved, moved_at, moved_path, carried}

-- trees that have the same at each path are one tree
pub same_files : (t u : Files) → ((path : Path) → places t path ≡ places u path) → t ≡ u
same_files t u is = fin.same_map path_total path_exact t u is

-- whether a path is among some paths
abbrev pub is_among : Path → List Path → Bool
is_among path paths = list_any (eq_by_cmp path_cmp path) paths

same_tied : (p q : Path) → p ≡ q → eq_by_cmp path_cmp p q ≡ true
same_tied p q e = subst (λ v. eq_by_cmp path_cmp p v ≡ true) e (ap is_eq (path_cmp-refl p))

hidden : (b a : Bool) (o : Option Object) → (b ≡ true → o ≡ None) → cond a o None ≡ cond (b || a) o None
hidden false a o h = refl
hidden true a o h = elim a as (λ v. cond v o None ≡ o) [ true ↦ refl | false ↦ sym (h refl) ]

shown : (b a : Bool) (x : Object) (o : Option Object) → (b ≡ true → o ≡ Some x) → cond b (Some x) (cond a o None) ≡ cond (b || a) o None
shown false a x o h = refl
shown true a x o h = sym (h refl)

pub find-entries_at : (paths : List Path) (t : Places) (q : Path) → find path_cmp q (entries_at paths t) ≡ cond (is_among q paths) (t q) None
find-entries_at [] t q = refl
find-entries_at (path ∷ paths) t q =
    let rest = find-entries_at paths t q in
    let same = λ (h : eq_by_cmp path_cmp q path ≡ true). ap t (tied-equal q path h) in
    elim (t path) as (λ o. t path ≡ o → find path_cmp q (cons_option (option_map (λ x. (path, x)) o) (entries_at paths t)) ≡ cond (is_among q (path ∷ paths)) (t q) None) [
      | None ↦ λ e. rest ∙ hidden (eq_by_cmp path_cmp q path) (is_among q paths) (t q) (λ h. same h ∙ e)
      | Some x ↦ λ e. ap (cond (eq_by_cmp path_cmp q path) (Some x)) rest ∙ shown (eq_by_cmp path_cmp q path) (is_among q paths) x (t q) (λ h. same h ∙ e)
    ] refl

covered : (b : Bool) (o : Option Object) → (is_some o ≡ true → b ≡ true) → cond b o None ≡ o
covered true o h = refl
covered false None h = refl
covered false (Some x) h = let no = h refl in cc

-- the tree made of a function at paths that hold all that it has is that function
pub places-tabulate : (paths : List Path) (t : Places) (q : Path) → (is_some (t q) ≡ true → is_among q paths ≡ true) → places (tabulate paths t) q ≡ t q
places-tabulate paths t q holds =
    fin.get-from_entries path_total (entries_at paths t) q ∙ find-entries_at paths t q ∙ covered (is_among q paths) (t q) holds

pub among_keys : (files : Files) (q : Path) → is_among q (fin.keys files) ≡ is_some (places files q)
among_keys files q = sym (fin.contains_key-keys files q)

-- ---- which paths a step leaves present

pub is_some-on_at : (path : Path) (f : Object → Object) (t : Places) (q : Path) → is_some (on_at path f t q) ≡ is_some (t q)
is_some-on_at path f t q =
    elim (same_path path q) as (λ b. is_some (cond b (option_map f (t q)) (t q)) ≡ is_some (t q)) [
      | true ↦ elim (t q) as (λ o. is_some (option_map f o) ≡ is_some o) [ None ↦ refl | Some x ↦ refl ]
      | false ↦ refl
    ]

pub is_some-touched : (now : ℕ) (path : Path) (t : Places) (q : Path) → is_some (touched now path t q) ≡ is_some (t q)
is_some-touched now path t q = is_some-on_at (parent_of path) (modified now) t q

same_among : (path q : Path) (paths : List Path) → same_path path q ≡ true → is_among q (path ∷ paths) ≡ true
same_among path q paths h =
    let is = same_tied q path (sym ((same_path-decides path q).0 h)) in
    ap (λ b. b || is_among q paths) is

pub later_among : (path q : Path) (paths : List Path) → is_among q paths ≡ true → is_among q (path ∷ paths) ≡ true
later_among path q paths h =
    elim (eq_by_cmp path_cmp q path) as (λ b. (b || is_among q paths) ≡ true) [ true ↦ refl | false ↦ h ]

pub among_left : (q : Path) (xs ys : List Path) → is_among q xs ≡ true → is_among q (xs ++ ys) ≡ true
among_left q xs ys h = list_any-append (eq_by_cmp path_cmp q) xs ys ∙ ap (λ b. b || is_among q ys) h

pub among_right : (q : Path) (xs ys : List Path) → is_among q ys ≡ true → is_among q (xs ++ ys) ≡ true
among_right q xs ys h =
    list_any-append (eq_by_cmp path_cmp q) xs ys ∙ elim (is_among q xs) as (λ b. (b || is_among q ys) ≡ true) [ true ↦ refl | false ↦ h ]

among_map : (f : Path → Path) (q : Path) (xs : List Path) → is_among q xs ≡ true → is_among (f q) (map f xs) ≡ true
among_map f q [] = λ h. let no : false ≡ true = h in cc
among_map f q (x ∷ xs) =
    elim (eq_by_cmp path_cmp q x) as (λ b. eq_by_cmp path_cmp q x ≡ b → (b || is_among q xs) ≡ true → is_among (f q) (f x ∷ map f xs) ≡ true) [
      | true ↦ λ e h. ap (λ b. b || is_among (f q) (map f xs)) (same_tied (f q) (f x) (ap f (tied-equal q x e)))
      | false ↦ λ e h. later_among (f x) (f q) (map f xs) (among_map f q xs h)
    ] refl

present_carried : (now : ℕ) (from rest : Path) (t : Places) → is_some (carried now from t rest) ≡ true → is_some (t (from ++ rest)) ≡ true
present_carried now from [] t h =
    let here : is_some (t from) ≡ true = elim (t from) as (λ o. is_some (option_map (changed now) o) ≡ true → is_some o ≡ true) [ None ↦ λ e. e | Some x ↦ λ e. refl ] h in
    subst (λ p. is_some (t p) ≡ true) (sym (append-nil from)) here
present_carried now from (name ∷ rest) t h = h

module _ (paths : List Path) (t : Places) (q : Path) (holds : is_some (t q) ≡ true → is_among q paths ≡ true) where
  among_put : (path : Path) (o : Object) → is_some (put_at path (Some o) t q) ≡ true → is_among q (path ∷ paths) ≡ true
  among_put path o =
      elim (same_path path q) as (λ b. same_path path q ≡ b → is_some (cond b (Some o) (t q)) ≡ true → is_among q (path ∷ paths) ≡ true) [
        | true ↦ λ e h. same_among path q paths e
        | false ↦ λ e h. later_among path q paths (holds h)
      ] refl

  among_made : (now : ℕ) (path : Path) (o : Object) → is_some (made now path o t q) ≡ true → is_among q (path ∷ paths) ≡ true
  among_made now path o h = among_put path o (sym (is_some-touched now path (put_at path (Some o) t) q) ∙ h)

  among_on : (path : Path) (f : Object → Object) → is_some (on_at path f t q) ≡ true → is_among q paths ≡ true
  among_on path f h = holds (sym (is_some-on_at path f t q) ∙ h)

  among_gone : (now : ℕ) (path : Path) → is_some (gone now path t q) ≡ true → is_among q paths ≡ true
  among_gone now path h =
      elim (same_path path q) as (λ b. is_some (cond b None (t q)) ≡ true → is_among q paths ≡ true) [
        | true ↦ λ e. let no : false ≡ true = e in cc
        | false ↦ holds
      ] (sym (is_some-touched now path (put_at path None t) q) ∙ h)

  among_carried : (now : ℕ) (from to : Path) (rest : Path) → ((p : Path) → is_some (t p) ≡ true → is_among p paths ≡ true)
      → is_some (carried now from t rest) ≡ true → is_among (to ++ rest) (map (moved_path from to) paths) ≡ true
  among_carried now from to rest all h =
      let here : is_some (t (from ++ rest)) ≡ true = present_carried now from rest t h in
      let there = among_map (moved_path from to) (from ++ rest) paths (all (from ++ rest) here) in
      subst (λ v. is_among (option_map_or (λ r. to ++ r) v (from ++ rest)) (map (moved_path from to) paths) ≡ true) (rest_under-append from rest) there

  among_moved : (now : ℕ) (from to : Path) → ((p : Path) → is_some (t p) ≡ true → is_among p paths ≡ true)
      → is_some (moved now from to t q) ≡ true → is_among q (map (moved_path from to) paths ++ paths) ≡ true
  among_moved now from to all =
      elim (rest_under to q) as (λ v. rest_under to q ≡ v → is_some (moved_at now from to t q v) ≡ true → is_among q (map (moved_path from to) paths ++ paths) ≡ true) [
        | Some rest ↦ λ e h.
            let there = among_carried now from to rest all h in
            among_left q (map (moved_path from to) paths) paths (subst (λ v. is_among v (map (moved_path from to) paths) ≡ true) (sym (rest_under-Some to q rest e)) there)
        | None ↦ λ e.
            elim (is_prefix from q) as (λ b. is_some (cond b None (touched now from (touched now to t) q)) ≡ true → is_among q (map (moved_path from to) paths ++ paths) ≡ true) [
              | true ↦ λ h. let no : false ≡ true = h in cc
              | false ↦ λ h. among_right q (map (moved_path from to) paths) paths (holds (sym (is_some-touched now from (touched now to t) q ∙ is_some-touched now to t q) ∙ h))
            ]
      ] refl

among_after : (files : Files) (step : Step) (now : ℕ) (q : Path) → is_some (after_at (places files) step now q) ≡ true → is_among q (paths_after (fin.keys files) step) ≡ true
among_after files step now q h = by step h
  where
    all : (p : Path) → is_some (places files p) ≡ true → is_among p (fin.keys files) ≡ true
    all p e = among_keys files p ∙ e

    by : (s : Step) → is_some (after_at (places files) s now q) ≡ true → is_among q (paths_after (fin.keys files) s) ≡ true
    by (MakeDir path) = among_made (fin.keys files) (places files) q (all q) now path _
    by (MakeFile path) = among_made (fin.keys files) (places files) q (all q) now path _
    by (MakeFifo path) = among_made (fin.keys files) (places files) q (all q) now path _
    by (MakeDevice path block major minor) = among_made (fin.keys files) (places files) q (all q) now path _
    by (MakeLink path target) = among_made (fin.keys files) (places files) q (all q) now path _
    by (Write path content) = among_on (fin.keys files) (places files) q (all q) path _
    by (SetMode path mode) = among_on (fin.keys files) (places files) q (all q) path _
    by (SetOwner path uid gid) = among_on (fin.keys files) (places files) q (all q) path _
    by (SetAcl path acl) = among_on (fin.keys files) (places files) q (all q) path _
    by (SetAttrs path attrs) = among_on (fin.keys files) (places files) q (all q) path _
    by (SetLetters path letters) = among_on (fin.keys files) (places files) q (all q) path _
    by (SetStamps path access modify) = among_on (fin.keys files) (places files) q (all q) path _
    by (Rename from to) = among_moved (fin.keys files) (places files) q (all q) now from to all
    by (Unlink path) = among_gone (fin.keys files) (places files) q (all q) now path
    by (RemoveDir path) = among_gone (fin.keys files) (places files) q (all q) now path

-- what a tree has at each path after a step is what the step leaves there
pub places_after : (files : Files) (step : Step) (now : ℕ) (q : Path) → places (after files step now) q ≡ after_at (places files) step now q
unfolding after
places_after files step now q = places-tabulate (paths_after (fin.keys files) step) (after_at (places files) step now) q (among_after files step now q)

-- the same, of the functions
pub at_after : (files : Files) (step : Step) (now : ℕ) → places (after files step now) ≡ after_at (places files) step now
at_after files step now = λ i q. places_after files step now q i
