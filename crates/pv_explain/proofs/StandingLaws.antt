-- The object at each path, held in a `BTreeMap`, as the finite map that clauses see.
use Rattle.std.proofs.Common.{◌≡◌, ◌∙◌, List, map, sym, ap}
use Rattle.std.specs.BTreeMap.{is_at, insert_entry}
use Rattle.std.specs.FinMap as fin
use Rattle.std.specs.List.Sorted.{IsStrictlySortedBy}
use Rattle.std.specs.Map.{lookup}
use Rattle.pv_walk.specs.declared.object_state.ObjectState.{ObjectState}
use Rattle.pv_path.proofs.Maps.{insert_map, lookup_get, sorted}
use Rattle.pv_path.specs.Paths.{Path, path_cmp, path_total, path_exact}
use Rattle.pv_table.specs.Pointwise.{ObjectStates}

abbrev Standings : Type 0
Standings = List (Path × ObjectState)

abbrev pub held : Standings → ObjectStates
held es = fin.from_entries es

-- what the tree finds is what the map has
pub lookup-get : (q : Path) (es : Standings) → lookup (is_at (path_cmp q)) es ≡ fin.get (held es) q
lookup-get q es = lookup_get path_cmp path_total q es

-- an entry put into the tree is put into the map
pub insert-map : (k : Path) (v : ObjectState) (es : Standings) → held (insert_entry path_cmp es k v) ≡ fin.insert (held es) k v
insert-map k v es = insert_map path_cmp path_total path_exact k v es

-- the keys of the tree are those of the map
pub keys-map : (es : Standings) → IsStrictlySortedBy path_cmp (map (λ (e : Path × ObjectState). e.0) es) → fin.keys (held es) ≡ map (λ (e : Path × ObjectState). e.0) es
keys-map es rise =
    let in_order = sorted path_cmp es rise in
    let same : held es ≡ fin.from_sorted es = fin.same_map path_total path_exact _ _ (λ q. fin.get-from_entries path_total es q ∙ sym (fin.get-from_sorted path_cmp es q in_order)) in
    ap fin.keys same ∙ ap (map (λ (e : Path × ObjectState). e.0)) (fin.entries-from_sorted path_cmp es in_order)
