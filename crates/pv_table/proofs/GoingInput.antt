-- What takes paths away leaves what lines are read from, where none of the lines may change what is read there.
use Rattle.std.specs.Prelude.{◌≡◌, ℕ, ◌+◌, ◌-◌, ◌<◌, ◌≤◌, ◌⊎◌, Bool, true, false, ◌&&◌, ◌||◌, List, length, take, Option, Some, None, option_map}
use Rattle.std.proofs.Common.{refl, sym, ap, ◌∙◌, arith, inl, inr}
use Rattle.std.proofs.lemmas.Bool.{or_right, and_from}
use Rattle.std.proofs.lemmas.List.{take_all}
use Rattle.std.proofs.lemmas.List.Folds.{Any-from_list_any}
use Rattle.std.proofs.lemmas.Option.{slice_get-get_or}
use Rattle.std.specs.List.{list_any}
use Rattle.pv_lines.specs.declared.line.Line.{Line}
use Rattle.pv_path.specs.Paths.{has_names, Path, is_prefix}
use Rattle.pv_steps.specs.declared.object.Object.{Object, Object}
use Rattle.pv_steps.specs.Content.{content_of}
use Rattle.pv_steps.specs.Objects.{object_state}
use Rattle.pv_steps.specs.Trees.{Files, places}
use Rattle.pv_walk.specs.Edits.{Pruned}
use Rattle.pv_walk.proofs.RemovalLaws.{zero_or_more}
use Rattle.pv_table.specs.declared.reason.Reason.TheVariants as reason
use Rattle.pv_table.specs.Reaching.{governs, is_creating, names, names_above, path_in, reaches_below}
use Rattle.pv_table.specs.Repeatable.{HasReason, IsAt, changes_content}
use Rattle.pv_layers.specs.Places.{is_input}
use Rattle.pv_table.proofs.GoingLaws.{in_range}

content-object_state : (o : Option Object) → content_of o ≡ content_of (option_map object_state o)
content-object_state None = refl
content-object_state (Some o) = refl

-- what is the same except for timestamps is read alike
pub same_content : (x y : Option Object) → option_map object_state x ≡ option_map object_state y → content_of x ≡ content_of y
same_content x y e = content-object_state x ∙ ap content_of e ∙ sym (content-object_state y)

module _ (goes : Path → Bool) (t : Files) where
  pub kept_content : (u : Files) (q : Path) → Pruned goes t u → goes q ≡ false → content_of (places u q) ≡ content_of (places t q)
  kept_content u q pruned stays = same_content (places u q) (places t q) (pruned.outside q stays)

-- a line may change what is read from a path
pub record MayChange (line : Line) (q : Path) : Type 0 where
  pub changes : changes_content line ≡ true
  pub governs : governs line q ≡ true

-- if no line may, none passes a test that only such lines pass
module _ (lines : List Line) (free : (i : ℕ) → HasReason lines i reason.Input → ⊥) (q : Path) (input : is_input q ≡ true) (named : has_names q ≡ true) where
  pub none_passes : (test : Line → Bool) → ((line : Line) (i : ℕ) → IsAt lines i line → test line ≡ true → MayChange line q) → list_any test lines ≡ false
  none_passes test may = by (list_any test lines) refl
    where
      by : (b : Bool) → list_any test lines ≡ b → b ≡ false
      by true h =
          let found = Any-from_list_any test lines h in
          let at : IsAt lines found.0 found.1 = slice_get-get_or lines found.0 found.1 found.2 ∙ ap Some found.3 in
          let line_may = may found.1 found.0 at found.4 in
          absurd (free found.0 (HasReason.input found.1 q at line_may.changes input named line_may.governs))
      by false h = refl

-- a line governs what it names, and what it reaches below that
module _ (line : Line) (q : Path) where
  pub named_governs : names line q ≡ true → governs line q ≡ true
  named_governs h = ap (λ b. (b || (reaches_below line && names_above line q)) || (is_creating line && is_prefix q (path_in line.path))) h

  pub governs_below : (k : ℕ) → k < length q + 1 → names line (take k q) ≡ true → reaches_below line ≡ true → governs line q ≡ true
  governs_below k within named deep = by (zero_or_more (length q - k))
    where
      by : (length q - k ≡ 0) ⊎ (1 ≤ length q - k) → governs line q ≡ true
      by (inl z) = named_governs (ap (names line) (sym (take_all k q (omega (arith, z)))) ∙ named)
      by (inr m) = ap (λ b. b || (is_creating line && is_prefix q (path_in line.path)))
          (or_right (names line q) (reaches_below line && names_above line q)
          (and_from (reaches_below line) (names_above line q) deep (in_range (λ j. names line (take j q)) (length q) k (omega (arith, m)) named)))
