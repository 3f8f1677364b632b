-- Laws of what is old enough to go.
use Rattle.std.specs.Prelude.{◌≡◌, ◌≢◌, ◌⊎◌, ℕ, ◌+◌, ◌<◌, Bool, true, false, cond, not, ◌&&◌, ◌||◌, ◌==◌, List, [], ◌∷◌, ◌++◌, length, take, Option, Some, None, is_some}
use Rattle.std.proofs.Common.{refl, sym, ap, ◌∙◌, inl, inr, get_or}
use Rattle.std.specs.List.{list_any}
use Rattle.std.specs.Ordering.{eq_by_cmp, is_eq}
use Rattle.std.proofs.lemmas.List.Folds.{list_any-append}
use Rattle.std.proofs.Math.Bool.{and-false}
use Rattle.std.proofs.lemmas.Bool.{and_parts, and_from}
use Rattle.pv_lines.specs.declared.line.Line.{Line}
use Rattle.pv_path.specs.Paths.{Path, path_cmp, same_path, parent_of}
use Rattle.pv_path.proofs.PathLaws.{parent_parts, is_prefix-refl}
use Rattle.pv_steps.specs.declared.object.Object.{Object}
use Rattle.pv_steps.specs.Same.{object_states}
use Rattle.pv_steps.specs.Trees.{Files, places, IsAbsentIn}
use Rattle.pv_walk.specs.Edits.{Pruned}
use Rattle.pv_walk.specs.Removal.{is_one_of}
use Rattle.pv_walk.specs.Whole.{goes_whole, all_at}
use Rattle.pv_walk.proofs.FindingLaws.{one_of-tied, same_tied, any_more}
use Rattle.pv_walk.proofs.WholeLaws.{goes_parts, goes_from, all_at-each, push_length}
use Rattle.pv_table.specs.declared.scope.Scope.{Scope}
use Rattle.pv_table.specs.Cleaned.{is_aged, is_old_by, may_go}
use Rattle.pv_table.specs.Reaching.{names}
use Rattle.pv_table.specs.Scopes.{scope}
use Rattle.pv_path.proofs.Tests.{same_tests}

-- what was pruned goes and is gone, or is there as it was, timestamps aside
pub took : (goes : Path → Bool) (t u : Files) (q : Path) → Pruned goes t u → ((goes q ≡ true) × IsAbsentIn (places u) q) ⊎ (object_states (places u) q ≡ object_states (places t) q)
took goes t u q pruned = by (goes q) refl
  where
    by : (b : Bool) → goes q ≡ b → ((goes q ≡ true) × IsAbsentIn (places u) q) ⊎ (object_states (places u) q ≡ object_states (places t) q)
    by true e = elim (pruned.within q e) [ inl gone ↦ inl (e, gone) | inr same ↦ inr same ]
    by false e = inr (pruned.outside q e)

-- what a cleaning on its way has taken
pub took_aged : (lines : List Line) (now : ℕ) (t u : Files) (q : Path) → Pruned (is_aged lines now t) t u → ((is_aged lines now t q ≡ true) × IsAbsentIn (places u) q) ⊎ (object_states (places u) q ≡ object_states (places t) q)
took_aged lines now t u q pruned = took (is_aged lines now t) t u q pruned

-- ---- paths in a set

-- one path more
pub set_more : (old new : List Path) (path q : Path) → list_any (eq_by_cmp path_cmp q) new ≡ cond (is_eq (path_cmp path q)) true (list_any (eq_by_cmp path_cmp q) old) → is_one_of new q ≡ (is_one_of old q || same_path path q)
set_more old new path q updates =
    sym (one_of-tied new q) ∙ updates ∙ ap (λ b. cond (is_eq (path_cmp path q)) true b) (one_of-tied old q) ∙ ap (λ b. cond b true (is_one_of old q)) (sym (same_tied path q)) ∙ by (same_path path q) (is_one_of old q)
  where
    by : (s o : Bool) → cond s true o ≡ (o || s)
    by true true = refl
    by true false = refl
    by false true = refl
    by false false = refl

-- one path comes out of a list and into a set
pub popped_one : (old new left rest : List Path) (path q : Path) → left ≡ rest ++ path ∷ [] → is_one_of new q ≡ (is_one_of old q || same_path path q) → (is_one_of new q || is_one_of rest q) ≡ (is_one_of old q || is_one_of left q)
popped_one old new left rest path q is more =
    ap (λ b. b || is_one_of rest q) more ∙ by (is_one_of old q) (same_path path q) (is_one_of rest q)
    ∙ ap (λ b. is_one_of old q || b) (sym (ap (λ (xs : List Path). is_one_of xs q) is ∙ list_any-append (λ p. same_path p q) rest (path ∷ [])))
  where
    by : (o s r : Bool) → ((o || s) || r) ≡ (o || (r || (s || false)))
    by true s r = refl
    by false true true = refl
    by false true false = refl
    by false false true = refl
    by false false false = refl

-- the paths that some lines name, and those of one line more
pub named_more : (files : Files) (lines : List Line) (i : ℕ) (line : Line) (q : Path) (old more : Bool) → i < length lines → line ≡ get_or lines i line → old ≡ (is_some (places files q) && list_any (λ l. names l q) (take i lines))
    → more ≡ (is_some (places files q) && names line q) → (old || more) ≡ (is_some (places files q) && list_any (λ l. names l q) (take (i + 1) lines))
named_more files lines i line q old more within is before here =
    ap (λ b. b || more) before ∙ ap (λ b. (is_some (places files q) && list_any (λ l. names l q) (take i lines)) || b) here ∙ by (is_some (places files q))
    ∙ ap (λ b. is_some (places files q) && b) (any_more (λ l. names l q) lines i line within is)
  where
    by : (t : Bool) → ((t && list_any (λ l. names l q) (take i lines)) || (t && names line q)) ≡ (t && (list_any (λ l. names l q) (take i lines) || names line q))
    by true = refl
    by false = refl

-- ---- what may go by itself

module _ (lines : List Line) (now : ℕ) (files : Files) where
  -- what no line names and is old by the age of its directory may go
  pub one_may : (named : List Path) → ((q : Path) → is_one_of named q ≡ (is_some (places files q) && list_any (λ line. names line q) lines)) → (s : Option Scope) (path : Path) → path ≢ [] → s ≡ scope lines (parent_of path)
      → (not (is_one_of named path) && is_old_by s now (places files path)) ≡ may_go lines now files path
  one_may named are s path other is =
      ap (λ b. not b && is_old_by s now (places files path)) (are path)
      ∙ ap (λ (v : Option Scope). not (is_some (places files path) && list_any (λ line. names line path) lines) && is_old_by v now (places files path)) is
      ∙ by (places files path) (scope lines (parent_of path))
      ∙ ap (λ b. (b && not (list_any (λ line. names line path) lines)) && is_old_by (scope lines (parent_of path)) now (places files path)) (sym (ap not (no_root path other)))
    where
      no_root : (p : Path) → p ≢ [] → (length p == 0) ≡ false
      no_root p h = let parts = parent_parts p h in ap (λ (r : Path). length r == 0) parts.1 ∙ push_length (parent_of p) parts.0

      by : (o : Option Object) (v : Option Scope)
          → (not (is_some o && list_any (λ line. names line path) lines) && is_old_by v now o) ≡ ((true && not (list_any (λ line. names line path) lines)) && is_old_by v now o)
      by None None = sym (and-false (not (list_any (λ line. names line path) lines)))
      by None (Some v) = sym (and-false (not (list_any (λ line. names line path) lines)))
      by (Some o) v = refl

  pub below_root : (q : Path) → may_go lines now files q ≡ true → not (length q == 0) ≡ true
  below_root q h = first (not (length q == 0)) (not (list_any (λ line. names line q) lines)) (is_old_by (scope lines (parent_of q)) now (places files q)) h
    where
      first : (a b c : Bool) → ((a && b) && c) ≡ true → a ≡ true
      first true b c h = refl
      first false b c h = absurd (let wrong : false ≡ true = h in cc)

  -- what may go whole is aged
  pub goes_aged : (q : Path) → goes_whole (may_go lines now files) files q ≡ is_aged lines now files q
  goes_aged q = same_tests (goes_whole (may_go lines now files) files q) (is_aged lines now files q)
      (λ h. let parts = goes_parts (may_go lines now files) files q h in and_from (is_some (places files q)) (all_at (may_go lines now files) files q) parts.0 parts.2)
      (λ h.
      let parts = and_parts (is_some (places files q)) (all_at (may_go lines now files) files q) h in
      goes_from (may_go lines now files) files q parts.0 (below_root q (all_at-each (may_go lines now files) files q parts.1 q parts.0 (is_prefix-refl q))) parts.1)
