-- What goes in removing and purging is governed by a line.
use Rattle.std.specs.Prelude.{◌≡◌, Bool, true, false, not, ◌&&◌, ◌||◌, ◌==◌, List, [], ◌∷◌, length, is_some}
use Rattle.std.proofs.Common.{refl, ap}
use Rattle.std.specs.List.{AllByRecursion, list_any}
use Rattle.std.proofs.lemmas.Bool.{and_parts, or_right}
use Rattle.pv_lines.specs.declared.line.Line.{Line}
use Rattle.pv_lines.specs.Lines.{IsLine}
use Rattle.pv_path.specs.Paths.{Path}
use Rattle.pv_path.proofs.PathLaws.{is_prefix-refl}
use Rattle.pv_steps.specs.Trees.{Files, places}
use Rattle.pv_walk.proofs.WholeLaws.{goes_parts, all_at-each}
use Rattle.pv_table.specs.Reaching.{governs}
use Rattle.pv_table.specs.Removed.{covers, is_gone, is_purged, purges}
use Rattle.pv_remove.proofs.InputLaws.{covering_may, purging_may}

module _ (q : Path) where
  -- where each line that passes a test governs a path, and some line passes, some line governs it
  some_governs : (test : Line → Bool) → ((line : Line) → IsLine line → test line ≡ true → governs line q ≡ true) → (lines : List Line) → AllByRecursion IsLine lines
      → list_any test lines ≡ true → list_any (λ line. governs line q) lines ≡ true
  some_governs test may [] are h = cc
  some_governs test may (line ∷ lines) are h = by (test line) refl h (some_governs test may lines are.1)
    where
      by : (b : Bool) → test line ≡ b → (b || list_any test lines) ≡ true → (list_any test lines ≡ true → list_any (λ line. governs line q) lines ≡ true) → list_any (λ line. governs line q) (line ∷ lines) ≡ true
      by true e h later = ap (λ b. b || list_any (λ line. governs line q) lines) (may line are.0 e)
      by false e h later = or_right (governs line q) (list_any (λ line. governs line q) lines) (later h)

module _ (lines : List Line) (t : Files) (q : Path) (are : AllByRecursion IsLine lines) where
  pub removed_governed : is_gone lines t q ≡ true → list_any (λ line. governs line q) lines ≡ true
  removed_governed h =
      let parts = goes_parts (λ r. list_any (λ line. covers line (places t) r) lines) t q h in
      some_governs q (λ line. covers line (places t) q) (λ line is e. (covering_may line is (places t) q e).governs) lines are
      (all_at-each (λ r. list_any (λ line. covers line (places t) r) lines) t q parts.2 q parts.0 (is_prefix-refl q))

  pub purged_governed : is_purged lines t q ≡ true → list_any (λ line. governs line q) lines ≡ true
  purged_governed h =
      some_governs q (λ line. purges line (places t) q) (λ line is e. (purging_may line is (places t) q e).governs) lines are
      (and_parts (is_some (places t q) && not (length q == 0)) (list_any (λ line. purges line (places t) q) lines) h).1
