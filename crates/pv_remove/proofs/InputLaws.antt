-- Taking away what lines name, or what lines with `$` name, leaves presence, kind and payload at each path from which lines
-- are read, where none of the lines may change what is read there.
use Rattle.std.specs.Prelude.{◌≡◌, ℕ, ◌+◌, ◌-◌, ◌==◌, Bool, true, false, not, ◌&&◌, ◌||◌, List, length, take, Some, is_none, is_some, if◌then◌else◌}
use Rattle.std.proofs.Common.{refl, sym, ap, ◌∙◌, arith}
use Rattle.std.proofs.Math.Seq.{take-append_seam}
use Rattle.std.proofs.lemmas.Bool.{eqb-true, or_right, and_parts}
use Rattle.std.proofs.lemmas.List.{length-append}
use Rattle.std.proofs.lemmas.Option.{get_or_from_slice_get, slice_get_within}
use Rattle.std.specs.List.{AllByRecursion, list_any, range_with_len}
use Rattle.std.specs.Option.{option_map_or}
use Rattle.pv_lines.specs.declared.line.Line.{Line}
use Rattle.pv_lines.specs.declared.line.LinePath.{LinePath}
use Rattle.pv_lines.specs.declared.line.LinePath.TheVariants.{Literal, Glob}
use Rattle.pv_lines.specs.Lines.{IsLine, IsLinePath}
use Rattle.pv_lines.specs.Types.{type_of}
use Rattle.pv_path.specs.Paths.{has_names, Path, is_prefix}
use Rattle.pv_path.proofs.PathLaws.{is_prefix-refl, prefix_parts, same_path-refl}
use Rattle.pv_steps.specs.Content.{content_of}
use Rattle.pv_steps.specs.Trees.{IsTree, Files, Places, places}
use Rattle.pv_walk.specs.Edits.{Pruned}
use Rattle.pv_walk.proofs.WholeLaws.{goes_parts, all_at-each}
use Rattle.pv_table.specs.declared.reason.Reason.TheVariants as reason
use Rattle.pv_table.specs.declared.taking.Taking.{Taking}
use Rattle.pv_table.specs.declared.taking.Taking.TheVariants as taking
use Rattle.pv_table.specs.ActionTable.{action_of, is_writing, sparing_of, taking_of}
use Rattle.pv_table.specs.Reaching.{governs, is_creating, is_deep, names, names_in, path_in, reaches_below, spares_below, takes_below}
use Rattle.pv_table.specs.Removed.{covers, is_directory_at, is_gone, is_named, is_purged, purges, refused_place}
use Rattle.pv_table.specs.Repeatable.{HasReason, IsAt, changes_content, takes_named}
use Rattle.pv_layers.specs.Places.{is_input}
use Rattle.pv_remove.proofs.CoverLaws.{at_place, from_range}
use Rattle.pv_path.proofs.Tests.{true_not_false}
use Rattle.pv_table.proofs.GoingInput.{MayChange, governs_below, kept_content, named_governs, none_passes}

-- ---- what is covered

module _ (line : Line) where
  taking_changes : (v : Taking) → taking_of line ≡ v → takes_named v ≡ true → changes_content line ≡ true
  taking_changes v e h = ap (λ b. b || is_some line.age) (or_right (is_creating line || is_writing line) (takes_named (taking_of line)) (ap takes_named e ∙ h))

  creating_changes : is_creating line ≡ true → changes_content line ≡ true
  creating_changes h = ap (λ b. ((b || is_writing line) || takes_named (taking_of line)) || is_some line.age) h

  taking_reaches : (v : Taking) → taking_of line ≡ v → takes_below v ≡ true → reaches_below line ≡ true
  taking_reaches v e h =
      ap (λ b. ((b || option_map_or spares_below (sparing_of line) false) || is_some line.age) || line.purge)
      (or_right (is_deep (action_of line)) (takes_below (taking_of line)) (ap takes_below e ∙ h))

  module _ (is : IsLine line) where
    makes_creating : is.row.creates ≡ true → is_creating line ≡ true
    makes_creating makes = by line.path refl is.fits.path
      where
        by : (p : LinePath) → line.path ≡ p → IsLinePath is.row p → is_creating line ≡ true
        by (Literal path) e fits = ap (λ (p : LinePath). is_creating (record line { path = p })) e
        by (Glob pattern) e fits = absurd (true_not_false is.row.creates makes fits.0)

    makes_named : is.row.creates ≡ true → names line (path_in line.path) ≡ true
    makes_named makes = by line.path refl is.fits.path
      where
        by : (p : LinePath) → line.path ≡ p → IsLinePath is.row p → names line (path_in line.path) ≡ true
        by (Literal path) e fits = ap (λ (p : LinePath). names_in p (path_in p)) e ∙ same_path-refl path
        by (Glob pattern) e fits = absurd (true_not_false is.row.creates makes fits.0)

    -- of the lines that take away, D makes something too
    pub emptying_makes : taking_of line ≡ taking.Contents → is.row.creates ≡ true
    emptying_makes e =
        let known : type_of 68 ≡ Some is.row = ap type_of (sym (letter (line.letter == 114) (line.letter == 82) (line.letter == 68) refl e)) ∙ is.is_type in
        cc
      where
        letter : (a b c : Bool) → (line.letter == 68) ≡ c
            → (if a then taking.Itself else if b then taking.Whole else if c then taking.Contents else taking.Nothing) ≡ taking.Contents → line.letter ≡ 68
        letter true b c h e = absurd cc
        letter false true c h e = absurd cc
        letter false false true h e = eqb-true line.letter 68 h
        letter false false false h e = absurd cc

    pub covering_may : (t : Places) (q : Path) → covers line t q ≡ true → MayChange line q
    covering_may t q = by (taking_of line) refl
      where
        unrefused : (p : Path) → is_named line t p ≡ true → names line p ≡ true
        unrefused p h = (and_parts (names line p) (is_none (refused_place line t p)) h).0

        itself : taking_of line ≡ taking.Itself → is_named line t q ≡ true → MayChange line q
        itself e h = record { changes = taking_changes taking.Itself e refl; governs = named_governs line q (unrefused q h) }

        whole : taking_of line ≡ taking.Whole → list_any (λ k. is_named line t (take k q)) (range_with_len 0 (length q + 1)) ≡ true → MayChange line q
        whole e h =
            let found = from_range (λ k. is_named line t (take k q)) (length q + 1) h in
            record {
              changes = taking_changes taking.Whole e refl;
              governs = governs_below line q found.0 found.1 (unrefused (take found.0 q) found.2) (taking_reaches taking.Whole e refl);
            }

        contents : taking_of line ≡ taking.Contents → list_any (λ k. is_named line t (take k q) && is_directory_at t (take k q)) (range_with_len 0 (length q)) ≡ true → MayChange line q
        contents e h =
            let found = from_range (λ k. is_named line t (take k q) && is_directory_at t (take k q)) (length q) h in
            let named = (and_parts (is_named line t (take found.0 q)) (is_directory_at t (take found.0 q)) found.2).0 in
            record {
              changes = creating_changes (makes_creating (emptying_makes e));
              governs = governs_below line q found.0 (omega (arith, found.1)) (unrefused (take found.0 q) named) (taking_reaches taking.Contents e refl);
            }

        by : (v : Taking) → taking_of line ≡ v → covers line t q ≡ true → MayChange line q
        by taking.Itself e h = itself e (rw e at h)
        by taking.Whole e h = whole e (rw e at h)
        by taking.Contents e h = contents e (rw e at h)
        by taking.Nothing e h = absurd (let none : covers line t q ≡ false = rw e refl in true_not_false (covers line t q) h none)

    -- ---- what is purged

    pub purging_may : (t : Places) (q : Path) → purges line t q ≡ true → MayChange line q
    purging_may t q h =
        let one = and_parts (line.purge && is_prefix (path_in line.path) q) (is_none (refused_place line t (path_in line.path))) h in
        let two = and_parts line.purge (is_prefix (path_in line.path) q) one.0 in
        let makes : is.row.creates ≡ true = is.fits.purge two.0 in
        let parts = prefix_parts (path_in line.path) q two.1 in
        let front : take (length (path_in line.path)) q ≡ path_in line.path = ap (take (length (path_in line.path))) parts.1 ∙ take-append_seam (path_in line.path) parts.0 in
        record {
          changes = creating_changes (makes_creating makes);
          governs = governs_below line q (length (path_in line.path)) (omega (arith, ap length parts.1, length-append (path_in line.path) parts.0)) (ap (names line) front ∙ makes_named makes)
              (or_right (is_deep (action_of line) || takes_below (taking_of line) || option_map_or spares_below (sparing_of line) false || is_some line.age) line.purge two.0);
        }

-- ---- the two phases

-- at a path that can stand in a tree
module _ (lines : List Line) (are : AllByRecursion IsLine lines) (free : (i : ℕ) → HasReason lines i reason.Input → ⊥) (t : Files) (q : Path) (input : is_input q ≡ true) (named : has_names q ≡ true) where
  is_at : (line : Line) (i : ℕ) → IsAt lines i line → IsLine line
  is_at line i at = at_place IsLine lines i line are (slice_get_within lines i line at) (sym (get_or_from_slice_get lines i line line at))

  pub named_ungone : is_gone lines t q ≡ false
  named_ungone = by (is_gone lines t q) refl
    where
      by : (b : Bool) → is_gone lines t q ≡ b → b ≡ false
      by true h =
          let parts = goes_parts (λ r. list_any (λ line. covers line (places t) r) lines) t q h in
          absurd (true_not_false (list_any (λ line. covers line (places t) q) lines)
          (all_at-each (λ r. list_any (λ line. covers line (places t) r) lines) t q parts.2 q parts.0 (is_prefix-refl q))
          (none_passes lines free q input named (λ line. covers line (places t) q) (λ line i at. covering_may line (is_at line i at) (places t) q)))
      by false h = refl

  pub named_unpurged : is_purged lines t q ≡ false
  named_unpurged = by (is_purged lines t q) refl
    where
      by : (b : Bool) → is_purged lines t q ≡ b → b ≡ false
      by true h = absurd (true_not_false (list_any (λ line. purges line (places t) q) lines)
          (and_parts (is_some (places t q) && not (length q == 0)) (list_any (λ line. purges line (places t) q) lines) h).1
          (none_passes lines free q input named (λ line. purges line (places t) q) (λ line i at. purging_may line (is_at line i at) (places t) q)))
      by false h = refl

-- so at each path of a tree
module _ (lines : List Line) (are : AllByRecursion IsLine lines) (free : (i : ℕ) → HasReason lines i reason.Input → ⊥) (t : Files) (tree : IsTree t) where
  pub gone_none : (q : Path) → is_input q ≡ true → is_gone lines t q ≡ false
  gone_none q input = by (is_gone lines t q) refl
    where
      by : (b : Bool) → is_gone lines t q ≡ b → b ≡ false
      by true h = sym h ∙ named_ungone lines are free t q input (tree.names q (goes_parts (λ r. list_any (λ line. covers line (places t) r) lines) t q h).0)
      by false h = refl

  pub purged_none : (q : Path) → is_input q ≡ true → is_purged lines t q ≡ false
  purged_none q input = by (is_purged lines t q) refl
    where
      by : (b : Bool) → is_purged lines t q ≡ b → b ≡ false
      by true h = sym h ∙ named_unpurged lines are free t q input (tree.names q (and_parts (is_some (places t q)) (not (length q == 0))
          (and_parts (is_some (places t q) && not (length q == 0)) (list_any (λ line. purges line (places t) q) lines) h).0).0)
      by false h = refl

  -- at each moment on the way
  pub removal_on_way : (u : Files) → Pruned (is_gone lines t) t u → (q : Path) → is_input q ≡ true → content_of (places u q) ≡ content_of (places t q)
  removal_on_way u way q input = kept_content (is_gone lines t) t u q way (gone_none q input)

  pub purge_on_way : (u : Files) → Pruned (is_purged lines t) t u → (q : Path) → is_input q ≡ true → content_of (places u q) ≡ content_of (places t q)
  purge_on_way u way q input = kept_content (is_purged lines t) t u q way (purged_none q input)
