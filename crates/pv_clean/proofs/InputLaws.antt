-- Cleaning leaves presence, kind and payload at each path from which lines are read, where none of the lines may change what
-- is read there: what is cleaned goes by an age that a line gives it from above.
use Rattle.std.specs.Prelude.{◌≡◌, ℕ, ◌+◌, ◌-◌, ◌==◌, ◌<◌, ◌≤◌, Bool, true, false, cond, not, ◌&&◌, ◌||◌, List, [], ◌∷◌, length, take, Option, None, is_some, option_map, option_and_then}
use Rattle.std.proofs.Common.{zero, suc, refl, sym, ap, ◌∙◌, arith}
use Rattle.std.proofs.lemmas.Bool.{false_from_ne_true, true_from_ne_false, or_right, and_parts}
use Rattle.std.proofs.lemmas.List.{take-take}
use Rattle.std.specs.List.{list_all, list_any}
use Rattle.std.specs.Option.{option_map_or, option_or}
use Rattle.std.proofs.Math.Bool.{and-false}
use Rattle.pv_age.specs.declared.age.Age.{Age}
use Rattle.pv_lines.specs.declared.line.Line.{Line}
use Rattle.pv_path.specs.Paths.{has_names, Path, parent_of}
use Rattle.pv_path.proofs.PathLaws.{is_prefix-refl, length-parent_of}
use Rattle.pv_steps.specs.declared.step.Step.{Step}
use Rattle.pv_steps.specs.declared.step.Step.TheVariants.{SetStamps, Unlink, RemoveDir}
use Rattle.pv_steps.specs.Content.{alters, content_of}
use Rattle.pv_steps.proofs.ContentLaws.{removal_inside}
use Rattle.pv_steps.specs.Trees.{IsTree, Files, places}
use Rattle.pv_walk.specs.Edits.{Pruned}
use Rattle.pv_walk.proofs.WholeLaws.{all_at-each}
use Rattle.pv_table.specs.declared.reason.Reason.TheVariants as reason
use Rattle.pv_table.specs.declared.scope.Scope.{Scope}
use Rattle.pv_table.specs.ActionTable.{action_of, is_writing, sparing_of, taking_of}
use Rattle.pv_table.specs.Cleaned.{is_aged, is_old_by, may_go}
use Rattle.pv_table.specs.Reaching.{governs, is_creating, is_deep, names, spares_below, takes_below}
use Rattle.pv_walk.specs.Whole.{all_at}
use Rattle.pv_layers.specs.Places.{is_input}
use Rattle.pv_table.specs.Repeatable.{HasReason, takes_named}
use Rattle.pv_table.specs.Scopes.{first_age, gives_age, inherited, is_exempting, is_sparing_itself, own_scope, scope_at, scope_of_first}
use Rattle.pv_table.proofs.PlaceLaws.{first_index-none, missing}
use Rattle.pv_clean.specs.Cleaning.{IsCleanStep}
use Rattle.pv_table.proofs.GoingInput.{MayChange, governs_below, kept_content, none_passes}
use Rattle.pv_table.proofs.GoingLaws.{any_weaken}
use Rattle.pv_path.proofs.Tests.{true_not_false}

-- ---- if no line gives an age

module _ (lines : List Line) where
  no_age : (path : Path) → list_any (gives_age path) lines ≡ false → first_age lines path ≡ None
  no_age path none = ap (option_and_then (λ (line : Line). line.age)) (missing (gives_age path) lines (first_index-none (gives_age path) lines none)).1

  no_scope_at : (path : Path) → list_any (gives_age path) lines ≡ false → scope_at None lines path ≡ None
  no_scope_at path none =
      by (list_any (λ line. names line path && is_exempting line) lines) (list_all (λ line. not (names line path) || is_sparing_itself line) lines) (first_age lines path) (no_age path none)
    where
      by : (e s : Bool) (age : Option Age) → age ≡ None → cond e None (option_or (option_map own_scope age) (cond s (inherited None) None)) ≡ None
      by true s age h = refl
      by false true age h = ap (λ (a : Option Age). option_or (option_map own_scope a) (inherited None)) h
      by false false age h = ap (λ (a : Option Age). option_or (option_map own_scope a) None) h

  no_scope : (path : Path) (k : ℕ) → ((j : ℕ) → j ≤ k → list_any (gives_age (take j path)) lines ≡ false) → scope_of_first lines path k ≡ None
  no_scope path zero none = no_scope_at [] (none 0 (omega arith))
  no_scope path (suc k) none =
      ap (λ (above : Option Scope). scope_at above lines (take (suc k) path)) (no_scope path k (λ j le. none j (omega (arith, le))))
      ∙ no_scope_at (take (suc k) path) (none (suc k) (omega arith))

-- ---- what may go by an age

-- a line with an age that names what a path lies below may change what is read from the path
aging_may : (line : Line) (q : Path) (k : ℕ) → k < length q + 1 → names line (take k q) ≡ true → is_some line.age ≡ true → MayChange line q
aging_may line q k within named aged = record {
  changes = or_right (is_creating line || is_writing line || takes_named (taking_of line)) (is_some line.age) aged;
  governs = governs_below line q k within named (ap (λ b. b || line.purge)
      (or_right (is_deep (action_of line) || takes_below (taking_of line) || option_map_or spares_below (sparing_of line) false) (is_some line.age) aged));
}

-- a step of a clean phase leaves what does not go
pub cleaning_leaves : (goes : Path → Bool) (t : Files) (step : Step) (q : Path) → IsCleanStep goes t step → goes q ≡ false → alters step q ≡ false
cleaning_leaves goes t (Unlink path) q h stays = removal_inside goes (Unlink path) q h stays
cleaning_leaves goes t (RemoveDir path) q h stays = removal_inside goes (RemoveDir path) q h stays
cleaning_leaves goes t (SetStamps path access modify) q h stays = refl
cleaning_leaves goes t step q h stays = absurd h

-- if no line gives an age to what a path lies below, it may not go
module _ (lines : List Line) (now : ℕ) (t : Files) where
  ageless : (q : Path) → ((k : ℕ) → k < length q + 1 → list_any (gives_age (take k q)) lines ≡ false) → may_go lines now t q ≡ false
  ageless [] none = refl
  ageless (name ∷ rest) none =
      ap (λ (s : Option Scope). (not (length (name ∷ rest) == 0) && not (list_any (λ line. names line (name ∷ rest)) lines)) && is_old_by s now (places t (name ∷ rest)))
      (no_scope lines (parent_of (name ∷ rest)) (length (parent_of (name ∷ rest))) none_above)
      ∙ and-false (not (length (name ∷ rest) == 0) && not (list_any (λ line. names line (name ∷ rest)) lines))
    where
      none_above : (j : ℕ) → j ≤ length (parent_of (name ∷ rest)) → list_any (gives_age (take j (parent_of (name ∷ rest)))) lines ≡ false
      none_above j le =
          let up = length-parent_of (name ∷ rest) in
          let front : take j (parent_of (name ∷ rest)) ≡ take j (name ∷ rest) = take-take j (length (name ∷ rest) - 1) (name ∷ rest) (omega (arith, le, up)) in
          ap (λ (path : Path). list_any (gives_age path) lines) front ∙ none j (omega (arith, le, up))

  -- what is aged may go
  pub aged_goes : (q : Path) → is_aged lines now t q ≡ true → may_go lines now t q ≡ true
  aged_goes q h =
      let two = and_parts (is_some (places t q)) (all_at (may_go lines now t) t q) h in
      all_at-each (may_go lines now t) t q two.1 q two.0 (is_prefix-refl q)

  -- what is aged is governed by a line that gives an age to what it lies below
  pub aged_governed : (q : Path) → is_aged lines now t q ≡ true → list_any (λ line. governs line q) lines ≡ true
  aged_governed q h = true_from_ne_false (list_any (λ line. governs line q) lines) (λ away.
      true_not_false (may_go lines now t q) (aged_goes q h) (ageless q (λ k within.
      false_from_ne_true (list_any (gives_age (take k q)) lines) (λ some.
      true_not_false (list_any (λ line. governs line q) lines) (any_weaken (gives_age (take k q)) (λ line. governs line q) (λ line e.
      let two = and_parts (names line (take k q)) (is_some line.age) e in
      (aging_may line q k within two.0 two.1).governs) lines some) away))))

module _ (lines : List Line) (free : (i : ℕ) → HasReason lines i reason.Input → ⊥) (now : ℕ) (t : Files) where
  none_may_go : (q : Path) → is_input q ≡ true → has_names q ≡ true → may_go lines now t q ≡ false
  none_may_go q input named = ageless lines now t q (λ k within. none_passes lines free q input named (gives_age (take k q)) (λ line i at h.
      let two = and_parts (names line (take k q)) (is_some line.age) h in
      aging_may line q k within two.0 two.1))

  pub named_unaged : (q : Path) → is_input q ≡ true → has_names q ≡ true → is_aged lines now t q ≡ false
  named_unaged q input named = by (is_aged lines now t q) refl
    where
      by : (b : Bool) → is_aged lines now t q ≡ b → b ≡ false
      by true h = absurd (true_not_false (may_go lines now t q) (aged_goes lines now t q h) (none_may_go q input named))
      by false h = refl

module _ (lines : List Line) (free : (i : ℕ) → HasReason lines i reason.Input → ⊥) (now : ℕ) (t : Files) (tree : IsTree t) where
  pub none_aged : (q : Path) → is_input q ≡ true → is_aged lines now t q ≡ false
  none_aged q input = by (is_aged lines now t q) refl
    where
      by : (b : Bool) → is_aged lines now t q ≡ b → b ≡ false
      by true h = sym h ∙ named_unaged lines free now t q input (tree.names q (and_parts (is_some (places t q)) (all_at (may_go lines now t) t q) h).0)
      by false h = refl

  -- at each moment on the way
  pub cleaning_on_way : (u : Files) → Pruned (is_aged lines now t) t u → (q : Path) → is_input q ≡ true → content_of (places u q) ≡ content_of (places t q)
  cleaning_on_way u way q input = kept_content (is_aged lines now t) t u q way (none_aged q input)
