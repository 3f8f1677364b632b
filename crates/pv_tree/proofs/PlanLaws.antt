-- What is planned at each path, held in a `BTreeMap`, as the finite map that clauses see.
use Rattle.std.proofs.Common.{◌≡◌, T, List, [], ◌∷◌, map, sym, subst, arith, suc}
use Rattle.std.specs.BTreeMap.{insert_entry}
use Rattle.std.specs.FinMap as fin
use Rattle.std.specs.FinMap.Entries.{below_all, is_sorted}
use Rattle.std.specs.List.{All}
use Rattle.std.specs.List.Sorted.{IsStrictlySortedBy}
use Rattle.std.specs.Ordering.{is_lt}
use Rattle.std.specs.declared.cmp.Ordering.TheVariants.{Less}
use Rattle.pv_path.proofs.Maps.{insert_map, sorted}
use Rattle.pv_path.proofs.Tests.{both_T}
use Rattle.pv_path.specs.Paths.{Path, path_cmp, path_total, path_exact}
use Rattle.pv_steps.specs.declared.object.Object.{Object}
use Rattle.pv_steps.specs.Trees.{Files}

abbrev pub Planned : Type 0
Planned = List (Path × Object)

abbrev pub held : Planned → Files
held es = fin.from_entries es

-- an entry put into the tree is put into the map
pub insert-map : (k : Path) (v : Object) (es : Planned) → held (insert_entry path_cmp es k v) ≡ fin.insert (held es) k v
insert-map k v es = insert_map path_cmp path_total path_exact k v es

above : (k : Path) (es : Planned) → All (λ y. path_cmp k y ≡ Less) (map (λ (e : Path × Object). e.0) es) → T (below_all path_cmp k es)
above k [] h = tt
above k (e ∷ es) h =
    both_T (is_lt (path_cmp k e.0)) (below_all path_cmp k es) (subst (λ r. T (is_lt r)) (sym (h 0 k (omega arith))) tt)
    (above k es (λ i d within. h (suc i) d (omega (arith, within))))

-- and so do the first entry and those after it
pub sorted_first : (k : Path) (v : Object) (es : Planned) → All (λ y. path_cmp k y ≡ Less) (map (λ (e : Path × Object). e.0) es)
    → IsStrictlySortedBy path_cmp (map (λ (e : Path × Object). e.0) es) → T (is_sorted path_cmp ((k, v) ∷ es))
sorted_first k v es less rise = both_T (below_all path_cmp k es) (is_sorted path_cmp es) (above k es less) (sorted path_cmp es rise)
