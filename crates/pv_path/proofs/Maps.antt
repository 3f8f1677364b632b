-- What a `BTreeMap` holds, as the finite map that clauses see.
use Rattle.std.specs.Prelude.{◌≡◌, cond, T, List, [], ◌∷◌, map, Some}
use Rattle.std.proofs.Common.{refl, sym, ap, subst, ◌∙◌}
use Rattle.std.specs.BTreeMap.{is_at, insert_entry}
use Rattle.std.specs.Cmp.{IsTotalOrder}
use Rattle.std.specs.FinMap as fin
use Rattle.std.specs.FinMap.{IsAntisymmetric}
use Rattle.std.specs.FinMap.Entries as entries
use Rattle.std.specs.FinMap.Entries.{below_all, by_order, find-put, is_sorted}
use Rattle.std.specs.List.{AllByRecursion}
use Rattle.std.specs.List.Sorted.{IsStrictlySortedBy}
use Rattle.std.specs.Map.{lookup}
use Rattle.std.specs.Ordering.{eq_by_cmp, is_lt, match_ordering}
use Rattle.std.specs.declared.cmp.Ordering.{Ordering}
use Rattle.std.specs.declared.cmp.Ordering.TheVariants.{Less, Equal, Greater}
use Rattle.pv_path.proofs.Tests.{both_T}

module _ {K V : Type 0} (R : K → K → Ordering) where
  lookup_find : (q : K) (es : List (K × V)) → lookup (is_at (R q)) es ≡ entries.find R q es
  lookup_find q [] = refl
  lookup_find q (e ∷ es) = ap (cond (eq_by_cmp R q e.0) (Some e.1)) (lookup_find q es)

  insert_put : (k : K) (v : V) (es : List (K × V)) → insert_entry R es k v ≡ entries.put R k v es
  insert_put k v [] = refl
  insert_put k v (e ∷ es) =
      elim (R k e.0) as (λ r. match_ordering r ((k, v) ∷ e ∷ es) ((e.0, v) ∷ es) (e ∷ insert_entry R es k v) ≡ by_order r ((k, v) ∷ e ∷ es) ((e.0, v) ∷ es) (e ∷ entries.put R k v es)) [
        | Less ↦ refl
        | Equal ↦ refl
        | Greater ↦ ap (λ rest. e ∷ rest) (insert_put k v es)
      ]

  below : (k : K) (es : List (K × V)) → AllByRecursion (λ y. R k y ≡ Less) (map (λ (e : K × V). e.0) es) → T (below_all R k es)
  below k [] h = tt
  below k (e ∷ es) h = both_T (is_lt (R k e.0)) (below_all R k es) (subst (λ r. T (is_lt r)) (sym h.0) tt) (below k es h.1)

  -- the entries rise
  pub sorted : (es : List (K × V)) → IsStrictlySortedBy R (map (λ (e : K × V). e.0) es) → T (is_sorted R es)
  unfolding IsStrictlySortedBy
  sorted [] h = tt
  sorted (e ∷ es) h = both_T (below_all R e.0 es) (is_sorted R es) (below e.0 es h.0) (sorted es h.1)

  -- what the tree finds is what the map has
  pub lookup_get : IsTotalOrder R → (q : K) (es : List (K × V)) → lookup (is_at (R q)) es ≡ fin.get (fin.from_entries {R = R} es) q
  lookup_get total q es = lookup_find q es ∙ sym (fin.get-from_entries total es q)

  -- an entry put into the tree is put into the map
  pub insert_map : IsTotalOrder R → IsAntisymmetric R → (k : K) (v : V) (es : List (K × V))
      → fin.from_entries {R = R} (insert_entry R es k v) ≡ fin.insert (fin.from_entries es) k v
  insert_map total exact k v es = fin.same_map total exact _ _ (λ q.
      fin.get-from_entries total (insert_entry R es k v) q
      ∙ ap (entries.find R q) (insert_put k v es)
      ∙ find-put R total q k v es
      ∙ ap (cond (eq_by_cmp R q k) (Some v)) (sym (fin.get-from_entries total es q))
      ∙ sym (fin.get-insert total (fin.from_entries es) k v q))
