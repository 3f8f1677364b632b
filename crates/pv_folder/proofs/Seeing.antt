-- What a host over a tree in memory holds, path by path.
use Rattle.std.specs.Prelude.{◌≡◌, Bool, true, false, cond, ◌&&◌, T, List, [], ◌∷◌, map, Some, option_map}
use Rattle.std.proofs.Common.{refl, sym, ap, subst, ◌∙◌}
use Rattle.std.specs.Ordering.{eq_by_cmp, is_lt}
use Rattle.std.specs.FinMap as fin
use Rattle.std.specs.FinMap.Entries.{below_all, find, is_sorted}
use Rattle.pv_path.specs.Paths.{Path, path_cmp}
use Rattle.pv_steps.specs.declared.object.Object.{Object}
use Rattle.pv_steps.specs.Trees.{Files, Places, places}
use Rattle.pv_folder.specs.Content.{Held, HostObject, held}
use Rattle.pv_folder.specs.Memory.{content_of, seen}

abbrev pub shown : Path × Object → Path × HostObject
shown e = (e.0, seen e.1)

-- what a tree's function shows
abbrev pub seen_in : Places → Held
seen_in t = λ q. option_map seen (t q)

below_same : (p : Path) (es : List (Path × Object)) → below_all path_cmp p (map shown es) ≡ below_all path_cmp p es
below_same p [] = refl
below_same p (e ∷ es) = ap (λ b. is_lt (path_cmp p e.0) && b) (below_same p es)

sorted_same : (es : List (Path × Object)) → is_sorted path_cmp (map shown es) ≡ is_sorted path_cmp es
sorted_same [] = refl
sorted_same (e ∷ es) = ap (λ b. b && is_sorted path_cmp (map shown es)) (below_same e.0 es) ∙ ap (λ b. below_all path_cmp e.0 es && b) (sorted_same es)

sorted_shown : (files : Files) → T (is_sorted path_cmp (map shown (fin.entries files)))
sorted_shown files = subst T (sym (sorted_same (fin.entries files))) (fin.entries_sorted files)

pub entries_shown : (files : Files) → fin.entries (content_of files) ≡ map shown (fin.entries files)
entries_shown files = fin.entries-from_sorted path_cmp (map shown (fin.entries files)) (sorted_shown files)

find_shown : (q : Path) (es : List (Path × Object)) → find path_cmp q (map shown es) ≡ option_map seen (find path_cmp q es)
find_shown q [] = refl
find_shown q (e ∷ es) = by (eq_by_cmp path_cmp q e.0) (find_shown q es)
  where
    by : (b : Bool) → find path_cmp q (map shown es) ≡ option_map seen (find path_cmp q es)
        → cond b (Some (seen e.1)) (find path_cmp q (map shown es)) ≡ option_map seen (cond b (Some e.1) (find path_cmp q es))
    by true rest = refl
    by false rest = rest

pub held_at : (files : Files) (q : Path) → held (content_of files) q ≡ option_map seen (places files q)
held_at files q =
    fin.get-from_sorted path_cmp (map shown (fin.entries files)) q (sorted_shown files)
    ∙ find_shown q (fin.entries files)
    ∙ ap (option_map seen) (sym (fin.get-entries files q))

-- at each path what the tree shows
pub held_seen : (files : Files) → held (content_of files) ≡ seen_in (places files)
held_seen files = λ j q. held_at files q j
