-- A run that was cut short recovers at and below a path to which a line copies what is there.
use Rattle.std.specs.Prelude.{◌≡◌, ◌⊎◌, ℕ, true, false, ◌||◌, List, [], ◌∷◌, ◌++◌, take, Some, None, is_some}
use Rattle.std.proofs.Common.{refl, sym, ap, subst, ◌∙◌, inl, inr}
use Rattle.std.proofs.lemmas.List.{append-nil}
use Rattle.std.specs.List.{AllByRecursion}
use Rattle.std.proofs.lemmas.Bool.{or_parts}
use Rattle.pv_path.specs.Paths.{has_names, Path, is_prefix, has_staging}
use Rattle.pv_path.proofs.PathLaws.{is_prefix-append}
use Rattle.pv_steps.specs.Trees.{Files, places}
use Rattle.pv_walk.specs.declared.object_state.ObjectState.{ObjectState}
use Rattle.pv_walk.specs.Nodes.{object_states_of}
use Rattle.pv_walk.specs.Operations.{run}
use Rattle.pv_walk.proofs.OperationLaws.{object_states_of-same}
use Rattle.pv_lines.specs.declared.line.Line.{Line}
use Rattle.pv_lines.specs.Lines.{IsLine}
use Rattle.pv_table.specs.declared.action.Copying.{Copying}
use Rattle.pv_table.specs.declared.action.Action.TheVariants.{Copy}
use Rattle.pv_table.specs.Asked.{operations_of}
use Rattle.pv_table.specs.ActionTable.{action_of}
use Rattle.pv_table.specs.Created.{by_turn, by_line}
use Rattle.pv_steps.specs.Doing.{after_each, one_is_refused}
use Rattle.pv_table.specs.Pointwise.{after_turn}
use Rattle.pv_table.specs.Reaching.{path_in, governs}
use Rattle.pv_table.specs.Turns.{copied}
use Rattle.pv_laws.specs.Copying.{IsCopyMidway, turn_of, OnWayOf, copy_before, copy_done, other, PartwayOf}
use Rattle.pv_laws.proofs.AllPoints.{IsSafe, line_pointed, turns_copy, copy_passes}
use Rattle.pv_laws.proofs.CopyEnds.{inside, inside_is, inside_same, below_plain, plain_path, plain_source, turn_at, copy_inside, begun_before}
use Rattle.pv_laws.proofs.CopyRecovers as recovery
use Rattle.pv_laws.proofs.CopyRecovers.{IsBegun}
use Rattle.pv_laws.proofs.AllFrames.{frame_after}
use Rattle.pv_laws.proofs.Later.{IsAfter, all_shaped, later_point, later_way}
use Rattle.pv_laws.proofs.Making.{same_unnamed, IsShaped}
use Rattle.pv_laws.proofs.Orders.{Pairwise}
use Rattle.pv_laws.proofs.Prepared.{object_state_some}
use Rattle.pv_table.proofs.ListedLaws.{all_map}
use Rattle.pv_laws.proofs.Regions.{IsBeside, Before, region_after, region_partway, Passes}
use Rattle.pv_laws.proofs.Adjustment.{first_turn}

-- a run in two parts
pub quiet_parts : (now : ℕ) (xs ys : List Line) (t : Files) → one_is_refused (by_line now) (xs ++ ys) t ≡ false → (one_is_refused (by_line now) xs t ≡ false) × (one_is_refused (by_line now) ys (after_each (by_line now) xs t) ≡ false)
quiet_parts now [] ys t h = (refl, h)
quiet_parts now (x ∷ xs) ys t h =
    let two = or_parts ((by_line now).is_refused x t) (one_is_refused (by_line now) (xs ++ ys) ((by_line now).after x t)) h in
    let rest = quiet_parts now xs ys ((by_line now).after x t) two.1 in
    (ap (λ b. b || one_is_refused (by_line now) xs ((by_line now).after x t)) two.0 ∙ rest.0, rest.1)

pub after_parts : (now : ℕ) (xs ys : List Line) (t : Files) → after_each (by_line now) (xs ++ ys) t ≡ after_each (by_line now) ys (after_each (by_line now) xs t)
after_parts now [] ys t = refl
after_parts now (x ∷ xs) ys t = after_parts now xs ys ((by_line now).after x t)

copy_is : (c d : Copying) → Copy c ≡ Copy d → c ≡ d
copy_is c d e = cc

-- ---- one run

-- lines beside the path of one that copies, that line, and lines after it
module _ (xs ys : List Line) (line : Line) (safe : IsSafe line) (copying : Copying) (e : action_of line ≡ Copy copying) (b : ObjectState) (safe_xs : AllByRecursion IsSafe xs) (safe_ys : AllByRecursion IsSafe ys)
    (besides : AllByRecursion (IsBeside (path_in line.path)) xs) (in_turn : Pairwise Before xs) (laters : AllByRecursion (IsAfter (path_in line.path)) ys)
    (away : (rest : Path) → has_staging rest ≡ false → has_names (copying.source ++ rest) ≡ true → AllByRecursion (λ (l : Line). governs l (copying.source ++ rest) ≡ false) xs) where
  abbrev p : Path
  p = path_in line.path

  module _ (now : ℕ) (t : Files) (shape : IsShaped (object_states_of (places t))) (quiet : one_is_refused (by_line now) (xs ++ line ∷ ys) t ≡ false) (present : object_states_of (places t) copying.source ≡ Some b) where
    -- when the line begins
    abbrev middle : Files
    middle = after_each (by_line now) xs t

    quiet_first : one_is_refused (by_line now) xs t ≡ false
    quiet_first = (quiet_parts now xs (line ∷ ys) t quiet).0

    pub quiet_two : ((by_line now).is_refused line middle ≡ false) × (one_is_refused (by_line now) ys ((by_line now).after line middle) ≡ false)
    quiet_two = or_parts ((by_line now).is_refused line middle) (one_is_refused (by_line now) ys ((by_line now).after line middle)) (quiet_parts now xs (line ∷ ys) t quiet).1

    pub middle_shaped : IsShaped (object_states_of (places middle))
    middle_shaped = all_shaped now xs safe_xs t shape quiet_first

    pub middle_source : (rest : Path) → has_staging rest ≡ false → object_states_of (places middle) (copying.source ++ rest) ≡ object_states_of (places t) (copying.source ++ rest)
    middle_source rest plain =
        let unstaged = below_plain copying.source rest (plain_source line safe copying e b) plain in
        same_unnamed (object_states_of (places middle)) (object_states_of (places t)) middle_shaped shape (copying.source ++ rest) unstaged (λ named.
        frame_after now (copying.source ++ rest) unstaged xs (all_map IsSafe IsLine (λ x is. is.is) xs safe_xs) (away rest plain named) t shape)

    pub middle_present : object_states_of (places middle) copying.source ≡ Some b
    middle_present = ap (object_states_of (places middle)) (sym (append-nil copying.source)) ∙ middle_source [] refl ∙ ap (object_states_of (places t)) (append-nil copying.source) ∙ present

    pub passes : Passes now p middle
    passes = copy_passes line copying e middle
        (first_turn now line p [] middle (ap (λ paths. one_is_refused (by_turn now line) paths middle) (sym (turns_copy line copying middle e)) ∙ quiet_two.0)).0
        (sym (object_state_some (places middle copying.source)) ∙ ap is_some middle_present)

    pub middle_region : (q : Path) → has_staging q ≡ false → is_prefix p q ≡ true → object_states_of (places middle) q ≡ object_states_of (places t) q
    middle_region = region_after now p xs safe_xs besides in_turn t shape quiet_first passes

    pub run_end : (rest : Path) → has_staging rest ≡ false
        → object_states_of (places (after_each (by_line now) (xs ++ line ∷ ys) t)) (p ++ rest) ≡ run (operations_of ys (p ++ rest)) (after_turn (turn_at line safe copying e b middle) rest (inside p middle rest))
    run_end rest plain =
        ap (λ (u : Files). object_states_of (places u) (p ++ rest)) (after_parts now xs (line ∷ ys) t)
        ∙ later_point p (p ++ rest) (is_prefix-append p rest) now (below_plain p rest (plain_path line safe copying e b) plain) ys safe_ys laters ((by_line now).after line middle) (line_pointed now line safe middle middle_shaped quiet_two.0).shape quiet_two.1
        ∙ ap (run (operations_of ys (p ++ rest))) (copy_inside line safe copying e b now middle middle_shaped middle_present quiet_two.0 rest plain)

    -- what the line that copies had begun
    abbrev Begun : Files → Type 0
    Begun u = (rest : Path) → IsBegun copying.sets (turn_at line safe copying e b middle) rest (inside p middle rest) (inside p u rest)

    -- or it is done, and later lines have set some
    abbrev Done : Files → Type 0
    Done u = (rest : Path) → has_staging rest ≡ false → (k : ℕ) × (inside p u rest ≡ run (take k (operations_of ys (p ++ rest))) (after_turn (turn_at line safe copying e b middle) rest (inside p middle rest)))

    -- what the run has left there on its way
    pub way_there : (u : Files) → PartwayOf (xs ++ line ∷ ys) now t u → Begun u ⊎ Done u
    way_there u way = by (region_partway now p xs (line ∷ ys) safe_xs besides in_turn t u shape quiet_first passes way)
      where
        left_there : (rest : Path) → has_staging rest ≡ false → object_states_of (places ((by_line now).after line middle)) (p ++ rest) ≡ after_turn (turn_at line safe copying e b middle) rest (inside p middle rest)
        left_there = copy_inside line safe copying e b now middle middle_shaped middle_present quiet_two.0

        before_it : (c : Copying) → c ≡ copying → ((q : Path) → has_staging q ≡ false → IsCopyMidway p c (turn_of line c now middle) q (object_states_of (places middle) q) (object_states_of (places u) q)) → Begun u
        before_it c f midway = begun_before line safe copying e b now middle middle_shaped middle_present u
            (subst (λ (d : Copying). (q : Path) → has_staging q ≡ false → IsCopyMidway p d (turn_of line d now middle) q (object_states_of (places middle) q) (object_states_of (places u) q)) f midway)

        at : OnWayOf line now middle u → Begun u ⊎ Done u
        at (copy_before c f before) = inl (before_it c (copy_is c copying (sym f ∙ e)) before.1)
        at (copy_done c f whole) = inr (λ rest plain. (
          0,
          inside_is p u rest plain
              ∙ sym (object_states_of-same (places ((by_line now).after line middle)) (places u) (p ++ rest) (whole (p ++ rest) (below_plain p rest (plain_path line safe copying e b) plain)))
              ∙ left_there rest plain,
        ))
        at (other none there) = absurd (let no : Some copying.source ≡ None = sym (ap copied e) ∙ none in cc)

        by : ((q : Path) → has_staging q ≡ false → is_prefix p q ≡ true → object_states_of (places u) q ≡ object_states_of (places t) q) ⊎ PartwayOf (line ∷ ys) now middle u → Begun u ⊎ Done u
        by (inl same) = inl (λ rest. recovery.kept (inside_same p middle u (plain_path line safe copying e b) (λ q plain under. same q plain under ∙ sym (middle_region q plain under)) rest))
        by (inr (inl there)) = at there
        by (inr (inr later)) = inr (λ rest plain. (
            let some = later_way p (p ++ rest) (is_prefix-append p rest) now (below_plain p rest (plain_path line safe copying e b) plain) ys safe_ys laters ((by_line now).after line middle) u (line_pointed now line safe middle middle_shaped quiet_two.0).shape quiet_two.1 later in
            (some.0, inside_is p u rest plain ∙ some.1 ∙ ap (run (take some.0 (operations_of ys (p ++ rest)))) (left_there rest plain))
            ))
