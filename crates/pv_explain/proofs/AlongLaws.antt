-- What a line leaves at a path and above it depends on the object there alone, unless it copies.
use Rattle.std.specs.Prelude.{◌≡◌, true, false, ◌&&◌, [], ◌∷◌, Some, None, is_some}
use Rattle.std.proofs.Common.{sym, ap, subst, ◌∙◌, inl, inr}
use Rattle.std.specs.FinMap as fin
use Rattle.pv_walk.proofs.EditLaws.{path_cases}
use Rattle.pv_lines.specs.declared.line.Line.{Line}
use Rattle.pv_lines.specs.declared.line.LinePath.TheVariants.{Literal}
use Rattle.pv_path.specs.Paths.{Path, is_prefix, same_path, same_path-decides}
use Rattle.pv_path.proofs.PathLaws.{is_prefix-trans}
use Rattle.pv_path.proofs.Tests.{none_of, true_not_false}
use Rattle.pv_steps.proofs.StepLaws.{is_among, later_among}
use Rattle.pv_table.specs.ActionTable.{action_of}
use Rattle.pv_table.specs.Pointwise.{ObjectStates, point, pointwise_after, tabulated}
use Rattle.pv_table.specs.Turns.{copied}
use Rattle.pv_walk.proofs.PreparedLaws.{in_parents, among_first, stands_among}
use Rattle.pv_walk.specs.Preparing.{parents_of}
use Rattle.pv_explain.specs.Following.{IsAlong}
use Rattle.pv_explain.proofs.PointLaws.{within_at, within_aside}

-- they are the places along it
pub among_along : (q path : Path) → is_prefix q path ≡ true → is_among q ([] ∷ path ∷ parents_of path) ≡ true
among_along [] path high = among_first [] (path ∷ parents_of path)
among_along (name ∷ q) path high = later_among [] (name ∷ q) (path ∷ parents_of path) (elim (path_cases (name ∷ q) path) [
  | inl same ↦ subst (λ (p : Path). is_among (name ∷ q) (p ∷ parents_of path) ≡ true) same (among_first (name ∷ q) (parents_of path))
  | inr d ↦ later_among path (name ∷ q) (parents_of path) (stands_among (name ∷ q) (parents_of path) (
      in_parents (name ∷ q) path (λ same. true_not_false (same_path (name ∷ q) path) ((same_path-decides (name ∷ q) path).1 same) d)
      ∙ ap (λ b. b && true) high))
])

module _ (path : Path) (line : Line) (r s : ObjectStates) (along : IsAlong path r s) where
  -- a line that does not copy can be carried out there alone
  pub along_after : is_some (copied (action_of line)) ≡ false → IsAlong path (tabulated ([] ∷ path ∷ parents_of path) (point line r)) (pointwise_after s line)
  along_after copies = within_at (λ q. is_prefix q path) (λ p q above high. is_prefix-trans p q path above high) line r s along
      (λ copying e. let no : Some copying.source ≡ None = sym (ap copied e) ∙ none_of (copied (action_of line)) copies in cc)
      ([] ∷ path ∷ parents_of path) (λ q high. among_along q path high)

  -- and a line aside changes nothing there
  pub along_aside : (own : Path) → line.path ≡ Literal own → is_prefix own path ≡ false
      → ((q : Path) → is_prefix q path ≡ true → is_prefix q own ≡ true → is_some (fin.get r q) ≡ true) → IsAlong path r (pointwise_after s line)
  along_aside own e apart there = within_aside (λ q. is_prefix q path) (λ p q above high. is_prefix-trans p q path above high) line r s along own e apart there
