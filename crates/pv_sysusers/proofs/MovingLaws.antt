-- Laws of moving what is staged in one directory: a move and the making of something else there may change places.
use Rattle.std.specs.Prelude.{◌≡◌, ◌≢◌, ℕ, ◌-◌, ◌≤◌, Bool, true, false, cond, List, [], ◌∷◌, ◌++◌, length, Option, Some, None, is_some, option_map}
use Rattle.std.proofs.Common.{refl, sym, ap, ◌∙◌, arith, append-nil, length-append, inl, inr}
use Rattle.pv_path.specs.Paths.{Path, same_path, is_prefix, rest_under, parent_of}
use Rattle.pv_path.proofs.PathLaws.{is_prefix-refl, is_prefix-append, is_some-rest_under, rest_under-Some, prefix_parts, length-prefix, length-parent_of, not_prefix_not_same}
use Rattle.pv_steps.specs.declared.object.Object.{Object}
use Rattle.pv_steps.specs.Objects.{changed, modified}
use Rattle.pv_steps.specs.Trees.{Places}
use Rattle.pv_steps.specs.Steps.{put_at, on_at, touched, made, moved, moved_at, carried}
use Rattle.pv_walk.proofs.EditLaws.{path_cases, put_at-else, on_at-else, moved_away, made-here}
use Rattle.pv_walk.proofs.RemovalLaws.{no_same}
use Rattle.pv_path.proofs.Tests.{true_not_false}

-- ---- other paths

-- a path is not its own directory, nor is what lies below it
pub not_parent : (p q : Path) → p ≢ [] → is_prefix p q ≡ true → same_path (parent_of p) q ≡ false
not_parent p q some under = no_same (parent_of p) q (λ e.
    let short : is_prefix p (parent_of p) ≡ true = ap (is_prefix p) e ∙ under in
    by p some (length-prefix p (parent_of p) short) (length-parent_of p))
  where
    by : (p : Path) → p ≢ [] → length p ≤ length (parent_of p) → length (parent_of p) ≡ length p - 1 → ⊥
    by [] some le is = some refl
    by (n ∷ p) some le is = omega (arith, le, is)

-- nor is it what that path lies at or below
pub not_back : (p q r : Path) → is_prefix q p ≡ false → is_prefix q r ≡ true → same_path p r ≡ false
not_back p q r h under = no_same p r (λ e. true_not_false (is_prefix q p) (ap (is_prefix q) e ∙ under) h)

-- making something leaves all but its path and its directory
pub made_else : (now : ℕ) (p : Path) (o : Object) (t : Places) (q : Path) → same_path p q ≡ false → same_path (parent_of p) q ≡ false → made now p o t q ≡ t q
made_else now p o t q a b = on_at-else (parent_of p) q (modified now) (put_at p (Some o) t) b ∙ put_at-else p q (Some o) t a

-- ---- touches

abbrev once : ℕ → Bool → Option Object → Option Object
once now b v = cond b (option_map (modified now) v) v

once_again : (now : ℕ) (b : Bool) (v : Option Object) → once now b (once now b (once now b v)) ≡ once now b v
once_again now true None = refl
once_again now true (Some x) = refl
once_again now false v = refl

-- ---- what is staged is renamed into place

module _ (now : ℕ) (from to : Path) (some_from : from ≢ []) (some_to : to ≢ []) (together : parent_of from ≡ parent_of to) (o : Object) (fresh : changed now o ≡ o) (t : Places)
    (free : (rest : Path) → t (from ++ rest) ≡ None) (leaf : (n : List ℕ) (rest : Path) → t (to ++ n ∷ rest) ≡ None)
    (off : is_prefix to from ≡ false) where
  abbrev staged : Places
  staged = made now from o t

  longer : (p : Path) (n : List ℕ) (rest : Path) → same_path p (p ++ n ∷ rest) ≡ false
  longer p n rest = no_same p (p ++ n ∷ rest) (λ e. (let l = ap length e in omega (arith, l, length-append p (n ∷ rest))))

  under_to : (q rest : Path) → rest_under to q ≡ Some rest → carried now from staged rest ≡ made now to o t q
  under_to q [] e =
      let here : q ≡ to = rest_under-Some to q [] e ∙ append-nil to in
      ap (option_map (changed now)) (made-here now from t some_from o) ∙ ap Some fresh
      ∙ sym (ap (made now to o t) here ∙ made-here now to t some_to o)
  under_to q (n ∷ rest) e =
      let is : q ≡ to ++ n ∷ rest = rest_under-Some to q (n ∷ rest) e in
      made_else now from o t (from ++ n ∷ rest) (longer from n rest) (not_parent from (from ++ n ∷ rest) some_from (is_prefix-append from (n ∷ rest)))
      ∙ free (n ∷ rest)
      ∙ sym (ap (made now to o t) is ∙ made_else now to o t (to ++ n ∷ rest) (longer to n rest) (not_parent to (to ++ n ∷ rest) some_to (is_prefix-append to (n ∷ rest))) ∙ leaf n rest)

  empty_from : (q : Path) → is_prefix to q ≡ false → is_prefix from q ≡ true → made now to o t q ≡ None
  empty_from q out under =
      let parts = prefix_parts from q under in
      made_else now to o t q (not_prefix_not_same to q out) (ap (λ (p : Path). same_path p q) (sym together) ∙ not_parent from q some_from under)
      ∙ ap t parts.1 ∙ free parts.0

  beside : (q : Path) → is_prefix to q ≡ false → is_prefix from q ≡ false → touched now from (touched now to staged) q ≡ made now to o t q
  beside q out away =
      ap (λ (p : Path). on_at p (modified now) (on_at (parent_of to) (modified now) (on_at p (modified now) (put_at from (Some o) t))) q) together
      ∙ once_again now (same_path (parent_of to) q) (put_at from (Some o) t q)
      ∙ ap (once now (same_path (parent_of to) q)) (put_at-else from q (Some o) t (not_prefix_not_same from q away) ∙ sym (put_at-else to q (Some o) t (not_prefix_not_same to q out)))

  pub moved_here : moved now from to (made now from o t) ≡ made now to o t
  moved_here = λ i q. at q i
    where
      outside : (q : Path) → is_prefix to q ≡ false → (b : Bool) → is_prefix from q ≡ b → cond b None (touched now from (touched now to staged) q) ≡ made now to o t q
      outside q out true e = sym (empty_from q out e)
      outside q out false e = beside q out e

      at : (q : Path) → moved now from to staged q ≡ made now to o t q
      at q = by (rest_under to q) refl
        where
          by : (v : Option Path) → rest_under to q ≡ v → moved_at now from to staged q v ≡ made now to o t q
          by (Some rest) e = under_to q rest e
          by None e = outside q (sym (is_some-rest_under to q) ∙ ap is_some e) (is_prefix from q) refl

-- ---- something else in the same directory

module _ (now : ℕ) (from to d : Path) (some_from : from ≢ []) (some_to : to ≢ []) (some_d : d ≢ []) (up_from : parent_of d ≡ parent_of from) (up_to : parent_of d ≡ parent_of to)
    (off_from : is_prefix from d ≡ false) (off_to : is_prefix to d ≡ false) (o : Object) (t : Places) where
  -- what lies at or below the places of the move is not where something is made
  else_from : (x : Places) (q : Path) → is_prefix from q ≡ true → made now d o x q ≡ x q
  else_from x q under = made_else now d o x q (not_back d from q off_from under) (ap (λ (p : Path). same_path p q) up_from ∙ not_parent from q some_from under)

  else_to : (x : Places) (q : Path) → is_prefix to q ≡ true → made now d o x q ≡ x q
  else_to x q under = made_else now d o x q (not_back d to q off_to under) (ap (λ (p : Path). same_path p q) up_to ∙ not_parent to q some_to under)

  carried_else : (rest : Path) → carried now from (made now d o t) rest ≡ carried now from t rest
  carried_else [] = ap (option_map (changed now)) (else_from t from (is_prefix-refl from))
  carried_else (n ∷ rest) = else_from t (from ++ n ∷ rest) (is_prefix-append from (n ∷ rest))

  order : (b c : Bool) → (c ≡ true → b ≡ false) → (v : Option Object)
      → once now b (once now b (once now b (cond c (Some o) v))) ≡ once now b (cond c (Some o) (once now b (once now b v)))
  order true true h v = absurd (let no : true ≡ false = h refl in cc)
  order false true h v = refl
  order b false h v = refl

  touches : (q : Path) → touched now from (touched now to (made now d o t)) q ≡ once now (same_path (parent_of d) q) (cond (same_path d q) (Some o) (touched now from (touched now to t) q))
  touches q =
      ap (λ (p : Path). on_at p (modified now) (on_at (parent_of to) (modified now) (made now d o t)) q) (sym up_from)
      ∙ ap (λ (p : Path). on_at (parent_of d) (modified now) (on_at p (modified now) (made now d o t)) q) (sym up_to)
      ∙ order (same_path (parent_of d) q) (same_path d q) own (t q)
      ∙ ap (λ (p : Path). once now (same_path (parent_of d) q) (cond (same_path d q) (Some o) (on_at (parent_of d) (modified now) (on_at p (modified now) t) q))) up_to
      ∙ ap (λ (p : Path). once now (same_path (parent_of d) q) (cond (same_path d q) (Some o) (on_at p (modified now) (on_at (parent_of to) (modified now) t) q))) up_from
    where
      own : same_path d q ≡ true → same_path (parent_of d) q ≡ false
      own e = elim (path_cases d q) [
        | inl s ↦ not_parent d q some_d (ap (is_prefix d) (sym s) ∙ is_prefix-refl d)
        | inr n ↦ absurd (true_not_false (same_path d q) e n)
      ]

  pub moved_beside : moved now from to (made now d o t) ≡ made now d o (moved now from to t)
  moved_beside = λ i q. at q i
    where
      outside : (q : Path) → rest_under to q ≡ None → (b : Bool) → is_prefix from q ≡ b
          → cond b None (touched now from (touched now to (made now d o t)) q) ≡ made now d o (moved now from to t) q
      outside q e true under = sym (else_from (moved now from to t) q under ∙ moved_away now from to t q e under)
      outside q e false away =
          touches q
          ∙ ap (λ v. once now (same_path (parent_of d) q) (cond (same_path d q) (Some o) v)) (sym (
          ap (moved_at now from to t q) e ∙ ap (λ b. cond b None (touched now from (touched now to t) q)) away))

      at : (q : Path) → moved now from to (made now d o t) q ≡ made now d o (moved now from to t) q
      at q = by (rest_under to q) refl
        where
          by : (v : Option Path) → rest_under to q ≡ v → moved_at now from to (made now d o t) q v ≡ made now d o (moved now from to t) q
          by (Some rest) e =
              carried_else rest
              ∙ sym (else_to (moved now from to t) q (sym (is_some-rest_under to q) ∙ ap is_some e) ∙ ap (moved_at now from to t q) e)
          by None e = outside q e (is_prefix from q) refl
