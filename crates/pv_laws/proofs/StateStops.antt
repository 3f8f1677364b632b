-- From what a run has left on its way, the definition of each path by itself ends as from the tree of its start, whether or
-- not a complete run from there would refuse a line; so a complete run that refuses none completes it.
use Rattle.std.specs.Prelude.{◌≡◌, ◌⊎◌, ℕ, Bool, true, false, ◌&&◌, List, [], ◌∷◌, ◌++◌, length, map, fold, take, Option, Some, None, is_some}
use Rattle.std.proofs.Common.{refl, sym, arith, ap, subst, ◌∙◌, inl, inr}
use Rattle.std.specs.FinMap as fin
use Rattle.std.specs.List.{enumerate_from, AllByRecursion}
use Rattle.std.proofs.lemmas.List.{append-nil, take_all}
use Rattle.std.proofs.lemmas.Bool.{or_parts, and_parts}
use Rattle.pv_path.specs.Paths.{Path, has_names, is_prefix, has_staging}
use Rattle.pv_path.proofs.PathLaws.{prefix_parts, has_staging-append, is_prefix-append, is_prefix-refl}
use Rattle.pv_path.proofs.Tests.{true_not_false}
use Rattle.pv_steps.specs.Same.{Same}
use Rattle.pv_steps.specs.Trees.{Files, places, IsTree}
use Rattle.pv_walk.specs.declared.object_state.ObjectState.{ObjectState}
use Rattle.pv_walk.specs.declared.operation.Operation.{Operation}
use Rattle.pv_walk.specs.Dividing.{parts}
use Rattle.pv_walk.specs.Nodes.{object_states_of}
use Rattle.pv_walk.specs.Operations.{run}
use Rattle.pv_walk.proofs.Dividing.{run-parts}
use Rattle.pv_walk.proofs.OperationLaws.{object_states-same, run-append}
use Rattle.pv_lines.specs.declared.line.Line.{Line}
use Rattle.pv_lines.specs.Lines.{IsLine}
use Rattle.pv_table.specs.declared.action.Copying.{Copying}
use Rattle.pv_table.specs.declared.action.Action.{Action}
use Rattle.pv_table.specs.declared.action.Action.TheVariants.{Create, Copy, Adjust, Idle}
use Rattle.pv_table.specs.Active.{are_distinct, Listed, ordered, in_create_order}
use Rattle.pv_table.specs.Asked.{operations, operations_of}
use Rattle.pv_table.specs.ActionTable.{action_of}
use Rattle.pv_table.specs.Created.{by_line, created, RefusesNoLine}
use Rattle.pv_steps.specs.Doing.{after_each, one_is_refused}
use Rattle.pv_table.specs.Pointwise.{ObjectStates, after_turn, pointwise_after, state, tabulated}
use Rattle.pv_table.specs.Reaching.{path_in, governs}
use Rattle.pv_table.specs.Repeatable.{IsRepeatable}
use Rattle.pv_table.specs.Turns.{copied}
use Rattle.pv_laws.specs.Copying.{PartwayOf}
use Rattle.pv_laws.specs.Moments.{Agree}
use Rattle.pv_laws.specs.Stopping.{IsPiece}
use Rattle.pv_laws.proofs.AllPoints.{IsSafe, state_whole, all_safe}
use Rattle.pv_laws.proofs.CopyEnds.{inside, inside_same, below_plain, plain_path, plain_source, turn_at, begun_ends, done_ends}
use Rattle.pv_laws.proofs.CopyRecovers.{IsBegun}
use Rattle.pv_laws.proofs.CopyRuns.{middle_source, middle_present as first_there, passes as line_passes, way_there, run_end, quiet_parts}
use Rattle.pv_laws.proofs.Frozen.{away_all, source_partway}
use Rattle.pv_laws.proofs.Later.{IsAfter, adjusts, beside, adjuster_plain, asks_none, all_adjust, all_shaped}
use Rattle.pv_laws.proofs.Lines.{path_named, copies_or_not}
use Rattle.pv_laws.proofs.Making.{same_unnamed, IsShaped}
use Rattle.pv_laws.proofs.Orders.{Pairwise}
use Rattle.pv_laws.proofs.Parents.{IsOutside, swaps_point, swaps_way}
use Rattle.pv_laws.proofs.Points.{get-tabulated}
use Rattle.pv_laws.proofs.Prepared.{object_state_some, filled, with_some}
use Rattle.pv_laws.proofs.Regions.{IsBeside, IsClearing, Before, Passes, asks_there, copy_outside, not_lower}
use Rattle.pv_laws.proofs.Sets.{impossible}
use Rattle.pv_laws.proofs.Settings.{own_again, top_kind, later_repeatable, own_repeatable, both_repeatable}
use Rattle.pv_laws.proofs.Shapes.{tree_shaped}
use Rattle.pv_laws.proofs.Splits.{IsKnown, IsSplit, all_known, known_one, known_after, lines_whole, line_of, split, all_before, all_behind, all_beside, all_in_turn, all_later, later_listed}
use Rattle.pv_laws.proofs.StatePasses.{free_all, none_clears, start_shaped, alike_all, same_alike, all_open}
use Rattle.pv_laws.proofs.StateSteps.{IsOpen, AllOpen, tree_of, asked_after, none_after, inside_after, outside_after, open_shape, all_shape, all_frame, all_swap, fold_parts, open_parts}
use Rattle.pv_laws.proofs.Stops.{piece_recovers}
use Rattle.pv_laws.proofs.Swapped.{swapped, all_swapped, swapped_distinct, swapped_repeatable, in_order_swapped}

-- whether a path lies at or below the path of a line that copies what is there
abbrev reached_by : Files → Path → Line → Action → Bool
reached_by t q line (Copy copying) = is_some (object_states_of (places t) copying.source) && is_prefix (path_in line.path) q
reached_by t q line action = false

not_reached : (t : Files) (q : Path) (line : Line) → reached_by t q line (action_of line) ≡ false → IsOutside t q line
not_reached t q line h copying e there = sym (ap (λ b. b && is_prefix (path_in line.path) q) there) ∙ sym (ap (reached_by t q line) e) ∙ h

-- ---- lines beside a path to which a line copies, and lines after it

module _ (p : Path) (line : Line) (safe : IsSafe line) (s : ObjectStates) (shape : IsShaped (fin.get s)) (opens : IsOpen line s) (q : Path) (plain : has_staging q ≡ false) (under : is_prefix p q ≡ true) where
  abbrev next : Option ObjectState
  next = fin.get (pointwise_after s line) q

  -- a line beside it leaves the object there, where it clears nothing above it
  beside_step : IsBeside p line → (IsClearing p line → ⊥) → next ≡ fin.get s q
  beside_step is never = copies_or_not line (λ copying e. copy copying e (fin.get s copying.source) refl) plain_line
    where
      plain_line : copied (action_of line) ≡ None → next ≡ fin.get s q
      plain_line none = asked_after line safe s shape none q plain ∙ at (asks_there p line is q under)
        where
          at : (operations line q ≡ []) ⊎ IsClearing p line → run (operations line q) (fin.get s q) ≡ fin.get s q
          at (inl e) = ap (λ xs. run xs (fin.get s q)) e
          at (inr clearing) = absurd (never clearing)

      copy : (copying : Copying) → action_of line ≡ Copy copying → (o : Option ObjectState) → fin.get s copying.source ≡ o → next ≡ fin.get s q
      copy copying e None f = none_after line safe s shape copying e f q plain
      copy copying e (Some b) f =
          outside_after line safe s shape copying e b f (opens.copies copying e (ap is_some f)) q plain (copy_outside p line is q under copying e)
          ∙ ap (λ c. filled c (fin.get s q)) (not_lower p line is q under)

  -- a line that may come after it leaves what it asks for
  after_step : IsAfter p line → next ≡ run (operations line q) (fin.get s q)
  after_step (adjusts h) = asked_after line safe s shape (adjuster_plain line q h) q plain
  after_step (beside is low) =
      beside_step is (λ clearing. true_not_false (is_prefix (path_in line.path) p) clearing.above low)
      ∙ sym (ap (λ xs. run xs (fin.get s q)) (asks_none p line q under is low))

module _ (p q : Path) (plain : has_staging q ≡ false) (under : is_prefix p q ≡ true) where
  beside_all : (lines : List Line) → AllByRecursion IsSafe lines → AllByRecursion (IsBeside p) lines → AllByRecursion (λ line. IsClearing p line → ⊥) lines → (s : ObjectStates) → IsShaped (fin.get s) → AllOpen lines s
      → fin.get (fold pointwise_after s lines) q ≡ fin.get s q
  beside_all [] safe besides never s shape opens = refl
  beside_all (line ∷ lines) safe besides never s shape opens =
      beside_all lines safe.1 besides.1 never.1 (pointwise_after s line) (open_shape line safe.0 s shape opens.0) opens.1
      ∙ beside_step p line safe.0 s shape opens.0 q plain under besides.0 never.0

  after_all : (lines : List Line) → AllByRecursion IsSafe lines → AllByRecursion (IsAfter p) lines → (s : ObjectStates) → IsShaped (fin.get s) → AllOpen lines s
      → fin.get (fold pointwise_after s lines) q ≡ run (operations_of lines q) (fin.get s q)
  after_all [] safe after s shape opens = refl
  after_all (line ∷ lines) safe after s shape opens =
      after_all lines safe.1 after.1 (pointwise_after s line) (open_shape line safe.0 s shape opens.0) opens.1
      ∙ ap (run (operations_of lines q)) (after_step p line safe.0 s shape opens.0 q plain under after.0 ∙ sym (run-parts (operations line q) (fin.get s q)))
      ∙ sym (run-append (parts (operations line q)) (operations_of lines q) (fin.get s q))

-- ---- a path at or below that of a line that copies what is there

module _ (lines : List Line) (are : AllByRecursion IsLine lines) (distinct : are_distinct lines ≡ true) (repeatable : IsRepeatable lines) (now : ℕ) (t u : Files) (tree : IsTree t) (there : IsTree u)
    (quiet : RefusesNoLine lines now t) (way : PartwayOf (in_create_order lines) now t u) (r : ObjectStates) (agree : Agree r u) where
  abbrev Known : Listed → Type 0
  Known l = IsKnown lines are distinct repeatable l

  known : AllByRecursion Known (ordered (enumerate_from 0 lines))
  known = all_known lines are distinct repeatable

  r_shaped : IsShaped (fin.get r)
  r_shaped = start_shaped lines are distinct repeatable now t u tree there quiet way r agree

  opened : AllOpen (in_create_order lines) r
  opened = all_open lines are distinct repeatable now t u tree there quiet way r agree

  module _ (before after : List Listed) (copier : Listed) (whole : ordered (enumerate_from 0 lines) ≡ before ++ copier ∷ after) (copying : Copying) (e : action_of copier.1 ≡ Copy copying) (b : ObjectState) (present : object_states_of (places t) copying.source ≡ Some b) where
    abbrev line : Line
    line = copier.1

    abbrev path : Path
    path = path_in copier.1.path

    abbrev xs : List Line
    xs = map line_of before

    abbrev ys : List Line
    ys = map line_of after

    in_order : in_create_order lines ≡ xs ++ line ∷ ys
    in_order = lines_whole lines are distinct repeatable before after copier whole copying e

    known_here : Known copier
    known_here = known_one lines are distinct repeatable before after copier whole copying e

    safe_parts : AllByRecursion IsSafe (xs ++ line ∷ ys)
    safe_parts = subst (AllByRecursion IsSafe) in_order (all_safe lines are repeatable)

    safe_xs : AllByRecursion IsSafe xs
    safe_xs = all_before IsSafe xs (line ∷ ys) safe_parts

    safe_two : AllByRecursion IsSafe (line ∷ ys)
    safe_two = all_behind IsSafe xs (line ∷ ys) safe_parts

    safe : IsSafe line
    safe = safe_two.0

    laters : AllByRecursion (IsAfter path) ys
    laters = all_later lines are distinct repeatable before after copier whole copying e

    besides : AllByRecursion (IsBeside path) xs
    besides = all_beside lines are distinct repeatable before after copier whole copying e

    in_turn : Pairwise Before xs
    in_turn = all_in_turn lines are distinct repeatable before after copier whole copying e

    under_source : (rest : Path) → is_prefix copying.source (copying.source ++ rest) ≡ true
    under_source rest = is_prefix-append copying.source rest

    away : (rest : Path) → has_staging rest ≡ false → has_names (copying.source ++ rest) ≡ true → AllByRecursion (λ (l : Line). governs l (copying.source ++ rest) ≡ false) xs
    away rest plain named = all_before (λ (l : Line). governs l (copying.source ++ rest) ≡ false) xs (line ∷ ys) (
        subst (AllByRecursion (λ (l : Line). governs l (copying.source ++ rest) ≡ false)) in_order (
        away_all lines are repeatable copying.source copier.0 line known_here.at (ap copied e) (copying.source ++ rest) (under_source rest) named))

    t_shaped : IsShaped (object_states_of (places t))
    t_shaped = tree_shaped (places t) tree

    quiet_here : one_is_refused (by_line now) (xs ++ line ∷ ys) t ≡ false
    quiet_here = subst (λ ls. one_is_refused (by_line now) ls t ≡ false) in_order quiet

    way_here : PartwayOf (xs ++ line ∷ ys) now t u
    way_here = subst (λ ls. PartwayOf ls now t u) in_order way

    open_two : AllOpen xs r × AllOpen (line ∷ ys) (fold pointwise_after r xs)
    open_two = open_parts xs (line ∷ ys) r (subst (λ ls. AllOpen ls r) in_order opened)

    -- both runs, when the line begins; the second as a tree
    abbrev first : Files
    first = after_each (by_line now) xs t

    abbrev middle : ObjectStates
    middle = fold pointwise_after r xs

    middle_shaped : IsShaped (fin.get middle)
    middle_shaped = all_shape xs safe_xs r r_shaped open_two.0

    abbrev second : Files
    second = (tree_of middle).0

    second_is : (q : Path) → fin.get middle q ≡ object_states_of (places second) q
    second_is = (tree_of middle).1

    first_source : (x : Path) → has_staging x ≡ false → object_states_of (places first) (copying.source ++ x) ≡ object_states_of (places t) (copying.source ++ x)
    first_source = middle_source xs ys line safe copying e b safe_xs safe_two.1 besides in_turn laters away now t t_shaped quiet_here present

    first_present : object_states_of (places first) copying.source ≡ Some b
    first_present = first_there xs ys line safe copying e b safe_xs safe_two.1 besides in_turn laters away now t t_shaped quiet_here present

    -- what is copied was kept
    kept_source : (x : Path) → has_staging x ≡ false → object_states_of (places u) (copying.source ++ x) ≡ object_states_of (places t) (copying.source ++ x)
    kept_source x plain =
        let unstaged = below_plain copying.source x (plain_source line safe copying e b) plain in
        same_unnamed (object_states_of (places u)) (object_states_of (places t)) (tree_shaped (places u) there) t_shaped (copying.source ++ x) unstaged (λ named.
        source_partway lines are repeatable copying.source copier.0 line known_here.at (ap copied e) (copying.source ++ x) (under_source x) named unstaged now t tree u way)

    middle_kept : (x : Path) → has_staging x ≡ false → fin.get middle (copying.source ++ x) ≡ object_states_of (places t) (copying.source ++ x)
    middle_kept x plain =
        let unstaged = below_plain copying.source x (plain_source line safe copying e b) plain in
        same_unnamed (fin.get middle) (fin.get r) middle_shaped r_shaped (copying.source ++ x) unstaged (λ named.
        all_frame (copying.source ++ x) unstaged xs safe_xs (away x plain named) r r_shaped open_two.0)
        ∙ agree (copying.source ++ x) unstaged ∙ kept_source x plain

    second_source : (x : Path) → has_staging x ≡ false → object_states_of (places second) (copying.source ++ x) ≡ object_states_of (places first) (copying.source ++ x)
    second_source x plain = sym (second_is (copying.source ++ x)) ∙ middle_kept x plain ∙ sym (first_source x plain)

    middle_present : fin.get middle copying.source ≡ Some b
    middle_present = ap (fin.get middle) (sym (append-nil copying.source)) ∙ middle_kept [] refl ∙ ap (object_states_of (places t)) (append-nil copying.source) ∙ present

    -- what is at and below the path is as when the run was cut short
    middle_same : (passes : Passes now path first) → (q : Path) → has_staging q ≡ false → is_prefix path q ≡ true → object_states_of (places second) q ≡ object_states_of (places u) q
    middle_same passes q plain under =
        sym (second_is q)
        ∙ beside_all path q plain under xs safe_xs besides (none_clears now path xs safe_xs besides in_turn t t_shaped quiet_first passes) r r_shaped open_two.0
        ∙ agree q plain
      where
        quiet_first : one_is_refused (by_line now) xs t ≡ false
        quiet_first = (quiet_parts now xs (line ∷ ys) t quiet_here).0

    second_inside : (x : Path) → inside path second x ≡ inside path u x
    second_inside = inside_same path u second (plain_path line safe copying e b) (middle_same (line_passes xs ys line safe copying e b safe_xs safe_two.1 besides in_turn laters away now t t_shaped quiet_here present))

    module _ (rest : Path) (plain : has_staging rest ≡ false) (named : has_names (path ++ rest) ≡ true) where
      abbrev set_there : Path → List Operation
      set_there x = operations_of ys (path ++ x)

      listed_later : AllByRecursion (λ (l : Listed). IsAfter path l.1) after
      listed_later = later_listed lines are distinct repeatable before after copier whole copying e

      afters_known : AllByRecursion (IsKnown lines are distinct repeatable) after
      afters_known = known_after lines are distinct repeatable before after copier whole copying e

      abbrev IsEnded : Type 0
      IsEnded =
          run (set_there rest) (after_turn (turn_at line safe copying e b second) rest (inside path second rest))
          ≡ run (set_there rest) (after_turn (turn_at line safe copying e b first) rest (inside path first rest))

      from_begun : ((x : Path) → IsBegun copying.sets (turn_at line safe copying e b first) x (inside path first x) (inside path u x)) → IsEnded
      from_begun begun = ap (run (set_there rest)) (begun_ends line safe copying e b first second first_present second_source
          (own_repeatable lines are distinct repeatable path after afters_known listed_later copier known_here copying e refl path refl (is_prefix-refl path) (path_named line safe.is))
          (λ x. subst (IsBegun copying.sets (turn_at line safe copying e b first) x (inside path first x)) (sym (second_inside x)) (begun x)) rest)

      from_done : ((x : Path) → has_staging x ≡ false → (k : ℕ) × (inside path u x ≡ run (take k (set_there x)) (after_turn (turn_at line safe copying e b first) x (inside path first x)))) → IsEnded
      from_done done = done_ends line safe copying e b first second first_present second_source
          set_there (λ x. all_adjust path (path ++ x) (is_prefix-append path x) ys laters)
          (both_repeatable lines are distinct repeatable path after afters_known listed_later copier known_here copying e refl (path ++ []) (append-nil path) (is_prefix-append path []) (ap has_names (append-nil path) ∙ path_named line safe.is))
          (top_kind copying b) (own_again line copying b e) pieces rest plain
          (later_repeatable lines are distinct repeatable path after afters_known listed_later (path ++ rest) (is_prefix-append path rest) named)
        where
          pieces : (x : Path) → (k : ℕ) × (has_staging x ≡ false → inside path second x ≡ run (take k (set_there x)) (after_turn (turn_at line safe copying e b first) x (inside path first x)))
          pieces x = by (has_staging x) refl
            where
              by : (c : Bool) → has_staging x ≡ c → (k : ℕ) × (has_staging x ≡ false → inside path second x ≡ run (take k (set_there x)) (after_turn (turn_at line safe copying e b first) x (inside path first x)))
              by true h = (0, λ g. impossible (sym g ∙ h))
              by false h = let some = done x h in (some.0, λ g. second_inside x ∙ some.1)

      ended : IsEnded
      ended = by (way_there xs ys line safe copying e b safe_xs safe_two.1 besides in_turn laters away now t t_shaped quiet_here present u way_here)
        where
          by : ((x : Path) → IsBegun copying.sets (turn_at line safe copying e b first) x (inside path first x) (inside path u x))
              ⊎ ((x : Path) → has_staging x ≡ false → (k : ℕ) × (inside path u x ≡ run (take k (set_there x)) (after_turn (turn_at line safe copying e b first) x (inside path first x)))) → IsEnded
          by (inl begun) = from_begun begun
          by (inr done) = from_done done

      last_end : fin.get (fold pointwise_after r (xs ++ line ∷ ys)) (path ++ rest) ≡ run (set_there rest) (after_turn (turn_at line safe copying e b second) rest (inside path second rest))
      last_end =
          ap (λ (s : ObjectStates). fin.get s (path ++ rest)) (fold_parts xs (line ∷ ys) r)
          ∙ after_all path (path ++ rest) (below_plain path rest (plain_path line safe copying e b) plain) (is_prefix-append path rest) ys safe_two.1 laters (pointwise_after middle line) (open_shape line safe middle middle_shaped open_two.1.0) open_two.1.1
          ∙ ap (run (set_there rest)) (inside_after line safe middle middle_shaped copying e b middle_present rest plain)

      pub copy_state : fin.get (fold pointwise_after r (in_create_order lines)) (path ++ rest) ≡ object_states_of (places (created lines now t)) (path ++ rest)
      copy_state =
          ap (λ ls. fin.get (fold pointwise_after r ls) (path ++ rest)) in_order
          ∙ last_end ∙ ended
          ∙ sym (run_end xs ys line safe copying e b safe_xs safe_two.1 besides in_turn laters away now t t_shaped quiet_here present rest plain)
          ∙ sym (ap (λ ls. object_states_of (places (after_each (by_line now) ls t)) (path ++ rest)) in_order)

  -- ---- any other path

  module _ (q : Path) (plain : has_staging q ≡ false) (outside : AllByRecursion (IsOutside t q) (in_create_order lines)) where
    abbrev mapped : List Line
    mapped = map (swapped t) lines

    first_end : object_states_of (places (created lines now t)) q ≡ run (operations_of (in_create_order mapped) q) (object_states_of (places t) q)
    first_end =
        swaps_point t q plain now (in_create_order lines) (all_safe lines are repeatable) outside (free_all lines are distinct repeatable (ordered (enumerate_from 0 lines)) known) t (tree_shaped (places t) tree)
        (same_alike lines are distinct repeatable now t u tree there quiet way r agree (in_create_order lines)) quiet
        ∙ ap (λ ls. run (operations_of ls q) (object_states_of (places t) q)) (sym (in_order_swapped t lines))

    state_end : fin.get (fold pointwise_after r (in_create_order lines)) q ≡ run (operations_of (in_create_order mapped) q) (object_states_of (places u) q)
    state_end =
        all_swap t q plain (in_create_order lines) (all_safe lines are repeatable) outside (free_all lines are distinct repeatable (ordered (enumerate_from 0 lines)) known) r r_shaped
        (alike_all lines are distinct repeatable now t u tree there quiet way r agree (ordered (enumerate_from 0 lines)) known) opened
        ∙ ap (run (operations_of (map (swapped t) (in_create_order lines)) q)) (agree q plain)
        ∙ ap (λ ls. run (operations_of ls q) (object_states_of (places u) q)) (sym (in_order_swapped t lines))

    piece_there : IsPiece (in_create_order mapped) q (object_states_of (places t) q) (object_states_of (places u) q)
    piece_there = subst (λ ls. IsPiece ls q (object_states_of (places t) q) (object_states_of (places u) q)) (sym (in_order_swapped t lines)) (
        swaps_way t q plain now (in_create_order lines) (all_safe lines are repeatable) outside (free_all lines are distinct repeatable (ordered (enumerate_from 0 lines)) known) t u (tree_shaped (places t) tree)
        (same_alike lines are distinct repeatable now t u tree there quiet way r agree (in_create_order lines)) quiet way)

    outside_state : has_names q ≡ true → fin.get (fold pointwise_after r (in_create_order lines)) q ≡ object_states_of (places (created lines now t)) q
    outside_state named =
        state_end
        ∙ piece_recovers mapped (all_swapped t lines are) (swapped_distinct t lines ∙ distinct) (swapped_repeatable t lines repeatable) q named (object_states_of (places t) q) (object_states_of (places u) q) piece_there
        ∙ sym first_end

  -- ---- all paths

  module _ (q : Path) (plain : has_staging q ≡ false) (named : has_names q ≡ true) where
    abbrev Recovers : Type 0
    Recovers = fin.get (fold pointwise_after r (in_create_order lines)) q ≡ object_states_of (places (created lines now t)) q

    abbrev test : Listed → Bool
    test l = reached_by t q l.1 (action_of l.1)

    outside_each : (ls : List Listed) → AllByRecursion (λ l. test l ≡ false) ls → AllByRecursion (IsOutside t q) (map line_of ls)
    outside_each [] h = tt
    outside_each (l ∷ ls) h = (not_reached t q l.1 h.0, outside_each ls h.1)

    below : (found : IsSplit test (ordered (enumerate_from 0 lines))) (copying : Copying) → action_of found.one.1 ≡ Copy copying → is_some (object_states_of (places t) copying.source) ≡ true → is_prefix (path_in found.one.1.path) q ≡ true → Recovers
    below found copying e present under = with_some (object_states_of (places t) copying.source) present (let cut = prefix_parts (path_in found.one.1.path) q under in at cut.0 cut.1)
      where
        at : (rest : Path) → q ≡ path_in found.one.1.path ++ rest → (b : ObjectState) → object_states_of (places t) copying.source ≡ Some b → Recovers
        at rest is b f = subst (λ (p : Path). fin.get (fold pointwise_after r (in_create_order lines)) p ≡ object_states_of (places (created lines now t)) p) (sym is) (
            copy_state found.before found.after found.one found.whole copying e b f rest
            (or_parts (has_staging (path_in found.one.1.path)) (has_staging rest) (sym (has_staging-append (path_in found.one.1.path) rest) ∙ ap has_staging (sym is) ∙ plain)).1
            (ap has_names (sym is) ∙ named))

    recovered_named : Recovers
    recovered_named = by (split test (ordered (enumerate_from 0 lines)))
      where
        at : (found : IsSplit test (ordered (enumerate_from 0 lines))) → (d : Action) → action_of found.one.1 ≡ d → Recovers
        at found (Copy copying) e =
            let two = and_parts (is_some (object_states_of (places t) copying.source)) (is_prefix (path_in found.one.1.path) q) (sym (ap (reached_by t q found.one.1) e) ∙ found.passes) in
            below found copying e two.0 two.1
        at found (Create making) e = impossible (sym (ap (reached_by t q found.one.1) e) ∙ found.passes)
        at found (Adjust adjustment) e = impossible (sym (ap (reached_by t q found.one.1) e) ∙ found.passes)
        at found Idle e = impossible (sym (ap (reached_by t q found.one.1) e) ∙ found.passes)

        by : IsSplit test (ordered (enumerate_from 0 lines)) ⊎ AllByRecursion (λ l. test l ≡ false) (ordered (enumerate_from 0 lines)) → Recovers
        by (inl found) = at found (action_of found.one.1) refl
        by (inr none) = outside_state q plain (outside_each (ordered (enumerate_from 0 lines)) none) named

  last_shaped : IsShaped (fin.get (fold pointwise_after r (in_create_order lines)))
  last_shaped = all_shape (in_create_order lines) (all_safe lines are repeatable) r r_shaped opened

  run_shaped : IsShaped (object_states_of (places (created lines now t)))
  run_shaped = all_shaped now (in_create_order lines) (all_safe lines are repeatable) t (tree_shaped (places t) tree) quiet

  -- what the definition gives after all lines is what the first run, had it not been cut short, would have left
  whole_state : (q : Path) → has_staging q ≡ false → fin.get (state lines (length (in_create_order lines)) r) q ≡ object_states_of (places (created lines now t)) q
  whole_state q plain =
      ap (λ ls. fin.get (fold pointwise_after r ls) q) (take_all (length (in_create_order lines)) (in_create_order lines) (omega arith))
      ∙ same_unnamed (fin.get (fold pointwise_after r (in_create_order lines))) (object_states_of (places (created lines now t))) last_shaped run_shaped q plain (recovered_named q plain)

  pub states_end : (s : ObjectStates) → Agree s t → (q : Path) → has_staging q ≡ false → fin.get (state lines (length (in_create_order lines)) r) q ≡ fin.get (state lines (length (in_create_order lines)) s) q
  states_end s same q plain = whole_state q plain ∙ sym (state_whole lines (all_safe lines are repeatable) now s t tree quiet same q plain)

  -- so does a complete run that refuses no line
  state_recovers : (later : ℕ) → RefusesNoLine lines later u → Same (created lines later u) (created lines now t)
  state_recovers later again q plain = object_states-same (places (created lines later u)) (places (created lines now t)) q (
      sym (state_whole lines (all_safe lines are repeatable) later r u there again agree q plain) ∙ whole_state q plain)

-- each tree has a map of what stands in it
map_of : (t : Files) → (s : ObjectStates) × Agree s t
map_of t = (
  tabulated (fin.keys t) (object_states_of (places t)),
  λ q plain. get-tabulated (fin.keys t) (object_states_of (places t)) q (λ h. sym (fin.contains_key-keys t q) ∙ sym (object_state_some (places t q)) ∙ h),
)

-- a complete run from there leaves what one run that was not cut short leaves
pub run_recovers : (lines : List Line) → AllByRecursion IsLine lines → are_distinct lines ≡ true → IsRepeatable lines → (now later : ℕ) (t u : Files) → IsTree t → IsTree u
    → RefusesNoLine lines now t → RefusesNoLine lines later u → PartwayOf (in_create_order lines) now t u → Same (created lines later u) (created lines now t)
run_recovers lines are distinct repeatable now later t u tree there quiet again way =
    let r = map_of u in state_recovers lines are distinct repeatable now t u tree there quiet way r.0 r.1 later again
