-- What is aged is what the manual's sentence says of each path by what is aged of what stands in it, and nothing else is.
use Rattle.std.specs.Prelude.{◌≡◌, ℕ, Bool, true, not, ◌&&◌, ◌==◌, List, [], ◌∷◌, ◌++◌, length, Option, Some, None, is_some}
use Rattle.std.proofs.Common.{refl, sym, ap, ◌∙◌}
use Rattle.std.specs.List.{list_all, list_any}
use Rattle.std.proofs.lemmas.Bool.{and_parts, and_from}
use Rattle.pv_lines.specs.declared.line.Line.{Line}
use Rattle.pv_path.specs.Paths.{Path, parent_of}
use Rattle.pv_path.proofs.Tests.{same_tests}
use Rattle.pv_steps.specs.declared.object.Object.{Object}
use Rattle.pv_steps.specs.Trees.{Files, places, names_below, IsTree}
use Rattle.pv_walk.specs.Whole.{goes_whole}
use Rattle.pv_walk.proofs.WholeLaws.{goes_parts, goes_by_children, all_at-each}
use Rattle.pv_path.proofs.PathLaws.{is_prefix-refl}
use Rattle.pv_table.specs.declared.scope.Scope.{Scope}
use Rattle.pv_table.specs.Cleaned.{is_aged, is_old_by, may_go}
use Rattle.pv_table.specs.Reaching.{names}
use Rattle.pv_table.specs.Scopes.{scope}
use Rattle.pv_table.specs.Children.{children_go}
use Rattle.pv_table.proofs.ChildrenLaws.{children_all, children_go-same, one_alone}
use Rattle.pv_clean.specs.Sentences.{is_aged_by}
use Rattle.pv_clean.proofs.AgeLaws.{goes_aged, below_root}

-- what is old by an age stands there
old_there : (s : Option Scope) (now : ℕ) (o : Option Object) → is_old_by s now o ≡ true → is_some o ≡ true
old_there None now o h = cc
old_there (Some s) now None h = cc
old_there (Some s) now (Some o) h = refl

module _ (lines : List Line) (now : ℕ) (t : Files) (tree : IsTree t) (q : Path) where
  -- what may go by itself goes whole where its children do
  by_children : may_go lines now t q ≡ true → is_aged lines now t q ≡ children_go (is_aged lines now t) t q
  by_children may =
      let old = and_parts (not (length q == 0) && not (list_any (λ line. names line q) lines)) (is_old_by (scope lines (parent_of q)) now (places t q)) may in
      let there = old_there (scope lines (parent_of q)) now (places t q) old.1 in
      sym (goes_aged lines now t q)
      ∙ goes_by_children (may_go lines now t) t tree q there may
      ∙ ap (λ b. b && list_all (λ n. goes_whole (may_go lines now t) t (q ++ n ∷ [])) (names_below t q)) (below_root lines now t q may)
      ∙ ap (λ (f : Path → Bool). list_all (λ n. f (q ++ n ∷ [])) (names_below t q)) (λ i r. goes_aged lines now t r i)
      ∙ sym (children_all t tree (is_aged lines now t) q)

  -- what is aged is so by the sentence
  pub aged_by : is_aged lines now t q ≡ is_aged_by (is_aged lines now t) lines now t q
  aged_by = same_tests (is_aged lines now t q) (is_aged_by (is_aged lines now t) lines now t q) forth back
    where
      forth : is_aged lines now t q ≡ true → is_aged_by (is_aged lines now t) lines now t q ≡ true
      forth h =
          let parts = goes_parts (may_go lines now t) t q (goes_aged lines now t q ∙ h) in
          let may = all_at-each (may_go lines now t) t q parts.2 q parts.0 (is_prefix-refl q) in
          and_from (may_go lines now t q) (children_go (is_aged lines now t) t q) may (sym (by_children may) ∙ h)

      back : is_aged_by (is_aged lines now t) lines now t q ≡ true → is_aged lines now t q ≡ true
      back h =
          let parts = and_parts (may_go lines now t q) (children_go (is_aged lines now t) t q) h in
          by_children parts.0 ∙ parts.1

-- a predicate that the sentence says is what is aged
pub aged_alone : (lines : List Line) (now : ℕ) (t : Files) (aged : Path → Bool) → IsTree t → ((q : Path) → is_some (places t q) ≡ true → aged q ≡ is_aged_by aged lines now t q)
    → (q : Path) → is_some (places t q) ≡ true → aged q ≡ is_aged lines now t q
aged_alone lines now t aged tree new_messages q there =
    one_alone t (λ f p. is_aged_by f lines now t p) (λ f g p same. ap (λ b. may_go lines now t p && b) (children_go-same t f g p same)) aged (is_aged lines now t) new_messages (λ p at. aged_by lines now t tree p) q there
