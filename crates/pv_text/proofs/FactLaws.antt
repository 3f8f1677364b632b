-- The facts that are held in a `BTreeMap`, as the finite map that clauses see.
use Rattle.std.proofs.Common.{◌≡◌, ℕ, true, cond, List, [], ◌∷◌, Some, IfSome, Option, refl, sym, ap, subst, ◌∙◌}
use Rattle.std.proofs.lemmas.Bool.{and_from, and_parts}
use Rattle.std.specs.Ordering.{nat_cmp, is_eq, match_ordering}
use Rattle.std.specs.Cmp.{nat_cmp_total}
use Rattle.std.specs.declared.cmp.Ordering.TheVariants.{Less, Equal, Greater}
use Rattle.std.specs.Map.{lookup}
use Rattle.std.specs.BTreeMap.{is_at, insert_entry}
use Rattle.std.specs.FinMap.{find, from_entries, insert, get, get-from_entries, nat_cmp-IsAntisymmetric}
use Rattle.pv_path.proofs.Maps.{insert_map, lookup_get}
use Rattle.pv_text.specs.Facts.{is_fact, are_facts, HasFactsAlone}

-- what the tree finds is what the map has
pub lookup-get : (q : ℕ) (es : List (ℕ × List ℕ)) → lookup (is_at (nat_cmp q)) es ≡ get (from_entries {R = nat_cmp} es) q
lookup-get q es = lookup_get nat_cmp nat_cmp_total q es

-- an entry put into the tree is put into the map
pub insert-map : (k : ℕ) (v : List ℕ) (es : List (ℕ × List ℕ)) → from_entries {R = nat_cmp} (insert_entry nat_cmp es k v) ≡ insert (from_entries es) k v
insert-map k v es = insert_map nat_cmp nat_cmp_total nat_cmp-IsAntisymmetric k v es

-- a fact more keeps facts alone
pub insert_facts : (k : ℕ) (v : List ℕ) (es : List (ℕ × List ℕ)) → is_fact k v ≡ true → are_facts es ≡ true → are_facts (insert_entry nat_cmp es k v) ≡ true
insert_facts k v [] new old = and_from _ _ new refl
insert_facts k v (e ∷ es) new old =
    let both = and_parts (is_fact e.0 e.1) (are_facts es) old in
    elim (nat_cmp k e.0) as (λ r. nat_cmp k e.0 ≡ r → are_facts (match_ordering r ((k, v) ∷ e ∷ es) ((e.0, v) ∷ es) (e ∷ insert_entry nat_cmp es k v)) ≡ true) [
      | Less ↦ λ o. and_from _ _ new old
      | Equal ↦ λ o. and_from _ _ (ap (λ l. is_fact l v) (sym (nat_cmp-IsAntisymmetric k e.0 o)) ∙ new) both.1
      | Greater ↦ λ o. and_from _ _ both.0 (insert_facts k v es new both.1)
    ] refl

found_fact : (q : ℕ) (es : List (ℕ × List ℕ)) → are_facts es ≡ true → IfSome (find nat_cmp q es) (λ v. is_fact q v ≡ true)
found_fact q [] all = tt
found_fact q (e ∷ es) all =
    let both = and_parts (is_fact e.0 e.1) (are_facts es) all in
    elim (nat_cmp q e.0) as (λ r. nat_cmp q e.0 ≡ r → IfSome (cond (is_eq r) (Some e.1) (find nat_cmp q es)) (λ v. is_fact q v ≡ true)) [
      | Less ↦ λ o. found_fact q es both.1
      | Equal ↦ λ o. ap (λ l. is_fact l e.1) (nat_cmp-IsAntisymmetric q e.0 o) ∙ both.0
      | Greater ↦ λ o. found_fact q es both.1
    ] refl

pub facts_alone : (es : List (ℕ × List ℕ)) → are_facts es ≡ true → HasFactsAlone (from_entries es)
facts_alone es all q = let P : Option (List ℕ) → Type 0 = λ o. IfSome o (λ v. is_fact q v ≡ true) in subst P (sym (get-from_entries nat_cmp_total es q)) (found_fact q es all)
