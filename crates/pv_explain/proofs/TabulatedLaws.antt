-- What a function has at some paths, put into a finite map one after the other.
use Rattle.std.proofs.Common.{◌≡◌, ◌∙◌, Bool, true, false, ◌||◌, cond, List, [], ◌∷◌, ◌++◌, Option, Some, None, option_map, refl, sym, ap}
use Rattle.std.specs.FinMap as fin
use Rattle.std.specs.FinMap.Entries as entries
use Rattle.std.specs.List.{filter_map, cons_option}
use Rattle.std.specs.Ordering.{eq_by_cmp}
use Rattle.std.proofs.lemmas.List.Folds.{list_any-append}
use Rattle.pv_walk.specs.declared.object_state.ObjectState.{ObjectState}
use Rattle.pv_path.specs.Paths.{Path, path_cmp, path_total, path_exact}
use Rattle.pv_steps.proofs.StepLaws.{is_among}
use Rattle.pv_table.specs.Pointwise.{ObjectStates, tabulated}
use Rattle.pv_path.proofs.Tests.{equal_of, hidden, shown}

turned : (a b : Bool) → (a || (b || false)) ≡ (b || a)
turned true true = refl
turned true false = refl
turned false true = refl
turned false false = refl

module _ (f : Path → Option ObjectState) where
  same : (q path : Path) → eq_by_cmp path_cmp q path ≡ true → f q ≡ f path
  same q path h = ap f (path_exact q path (equal_of (path_cmp q path) h))

  -- what a function has at some paths alone
  abbrev pub within : List Path → Path → Option ObjectState
  within paths q = cond (is_among q paths) (f q) None

  one_more : (paths : List Path) (path q : Path) → within (paths ++ path ∷ []) q ≡ cond (eq_by_cmp path_cmp q path || is_among q paths) (f q) None
  one_more paths path q =
      ap (λ (b : Bool). cond b (f q) None) (list_any-append (eq_by_cmp path_cmp q) paths (path ∷ []) ∙ turned (is_among q paths) (eq_by_cmp path_cmp q path))

  -- an object put is one path more
  pub put_more : (paths : List Path) (path : Path) (m : ObjectStates) (x : ObjectState) → f path ≡ Some x → ((q : Path) → fin.get m q ≡ within paths q) → (q : Path) → fin.get (fin.insert m path x) q ≡ within (paths ++ path ∷ []) q
  put_more paths path m x is had q =
      fin.get-insert path_total m path x q
      ∙ ap (cond (eq_by_cmp path_cmp q path) (Some x)) (had q)
      ∙ shown (eq_by_cmp path_cmp q path) (is_among q paths) x (f q) (λ h. same q path h ∙ is)
      ∙ sym (one_more paths path q)

  -- so is nothing put
  pub none_more : (paths : List Path) (path : Path) (m : ObjectStates) → f path ≡ None → ((q : Path) → fin.get m q ≡ within paths q) → (q : Path) → fin.get m q ≡ within (paths ++ path ∷ []) q
  none_more paths path m is had q =
      had q ∙ hidden (eq_by_cmp path_cmp q path) (is_among q paths) (f q) (λ h. same q path h ∙ is) ∙ sym (one_more paths path q)

  abbrev object_states_at : List Path → List (Path × ObjectState)
  object_states_at paths = filter_map (λ path. option_map (λ b. (path, b)) (f path)) paths

  found : (paths : List Path) (q : Path) → entries.find path_cmp q (object_states_at paths) ≡ within paths q
  found [] q = refl
  found (path ∷ paths) q = by (f path) refl (found paths q)
    where
      by : (o : Option ObjectState) → f path ≡ o → entries.find path_cmp q (object_states_at paths) ≡ within paths q
          → entries.find path_cmp q (cons_option (option_map (λ (b : ObjectState). (path, b)) o) (object_states_at paths)) ≡ within (path ∷ paths) q
      by None e rest = rest ∙ hidden (eq_by_cmp path_cmp q path) (is_among q paths) (f q) (λ h. same q path h ∙ e)
      by (Some x) e rest = ap (cond (eq_by_cmp path_cmp q path) (Some x)) rest ∙ shown (eq_by_cmp path_cmp q path) (is_among q paths) x (f q) (λ h. same q path h ∙ e)

  -- a map that has all of it is the one that is wanted
  pub all_put : (paths : List Path) (m : ObjectStates) → ((q : Path) → fin.get m q ≡ within paths q) → m ≡ tabulated paths f
  all_put paths m had = fin.same_map path_total path_exact m (tabulated paths f) (λ q. had q ∙ sym (fin.get-from_entries path_total (object_states_at paths) q ∙ found paths q))
