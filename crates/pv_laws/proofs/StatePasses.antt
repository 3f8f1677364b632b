-- From what a run has left on its way, each line is open when its turn comes in the definition of each path by itself: what
-- stands above its path is a directory.
use Rattle.std.specs.Prelude.{◌≡◌, ◌≢◌, ◌⊎◌, ℕ, Bool, true, false, cond, not, ◌&&◌, ◌||◌, List, [], ◌∷◌, ◌++◌, length, map, fold, take, Option, Some, None, is_some}
use Rattle.std.proofs.Common.{zero, suc, refl, sym, arith, ap, subst, ◌∙◌, inl, inr, append_assoc}
use Rattle.std.specs.FinMap as fin
use Rattle.std.specs.List.{list_any, list_all, enumerate_from, AllByRecursion}
use Rattle.std.proofs.lemmas.List.{map-append, take_all}
use Rattle.std.proofs.lemmas.List.Folds.{list_any-append, list_all-append}
use Rattle.std.proofs.lemmas.Grind.{flat_map-append}
use Rattle.std.proofs.lemmas.Bool.{or_parts, and_parts, false_from_ne_true}
use Rattle.pv_path.specs.Paths.{Path, has_names, is_prefix, has_staging, same_path-decides}
use Rattle.pv_path.proofs.PathLaws.{has_names-prefix, is_prefix-refl, is_prefix-trans, is_prefix-antisym, same_path-no}
use Rattle.pv_path.proofs.Tests.{true_not_false}
use Rattle.pv_steps.specs.Objects.{is_directory}
use Rattle.pv_steps.specs.Trees.{Files, places, IsTree}
use Rattle.pv_walk.specs.declared.object_state.ObjectState.{ObjectState}
use Rattle.pv_walk.specs.declared.operation.Operation.{Operation}
use Rattle.pv_walk.specs.declared.operation.Operation.TheVariants.{Make, Renew, Erase, Apply}
use Rattle.pv_walk.specs.declared.operation.Test.{Test}
use Rattle.pv_walk.specs.Dividing.{parts}
use Rattle.pv_walk.specs.Nodes.{object_state_of, object_states_of}
use Rattle.pv_walk.specs.Operations.{done, run}
use Rattle.pv_walk.specs.Reasons as reasons
use Rattle.pv_walk.specs.Reasons.{is_erasure}
use Rattle.pv_walk.proofs.Dividing.{run-parts}
use Rattle.pv_walk.proofs.OperationLaws.{absorbed, from_the_gap, run-append, repeatable-front}
use Rattle.pv_lines.specs.declared.line.Line.{Line}
use Rattle.pv_lines.specs.declared.line.LinePath.{LinePath}
use Rattle.pv_lines.specs.Lines.{IsLine}
use Rattle.pv_walk.specs.Staging.{new_object, new_kind}
use Rattle.pv_table.specs.declared.action.Copying.{Copying}
use Rattle.pv_table.specs.declared.action.Action.TheVariants.{Create, Copy}
use Rattle.pv_table.specs.declared.action.Making.{Making}
use Rattle.pv_table.specs.declared.reason.Reason.TheVariants as reason
use Rattle.pv_table.specs.Active.{are_distinct, Listed, is_adjusting_line, ordered, in_create_order}
use Rattle.pv_table.specs.Asked.{first_of, clears_below, operations, operations_of}
use Rattle.pv_table.specs.ActionTable.{action_of}
use Rattle.pv_table.specs.Created.{by_turn, by_line, RefusesNoLine}
use Rattle.pv_steps.specs.Doing.{after_each, one_is_refused}
use Rattle.pv_table.specs.Pointwise.{ObjectStates, parent_object_state, pointwise_after}
use Rattle.pv_table.specs.Reaching.{path_in, is_creating, governs}
use Rattle.pv_table.specs.Repeatable.{IsRepeatable, HasReason, below, sets_of}
use Rattle.pv_table.specs.Turns.{copied, refused_at}
use Rattle.pv_laws.specs.Copying.{PartwayOf}
use Rattle.pv_laws.specs.Moments.{Agree}
use Rattle.pv_laws.specs.Stopping.{IsRenewal, IsMidway, IsPiece}
use Rattle.pv_laws.proofs.AllPoints.{IsSafe, line_pointed, turns_copy, copy_passes, all_safe}
use Rattle.pv_laws.proofs.CopyRuns.{quiet_parts}
use Rattle.pv_laws.proofs.Frozen.{away_all, source_partway}
use Rattle.pv_laws.proofs.Later.{all_shaped}
use Rattle.pv_laws.proofs.AllFrames.{frame_after}
use Rattle.pv_laws.proofs.Lines.{path_named, line_is_plain, source_named, copy_path, copy_source, asked_made, made_passes, turns_made}
use Rattle.pv_laws.proofs.Making.{is_dir, IsShaped, does_stay, first_on_some, first_make, first_renew, asked_here, asked_above, directory_stays}
use Rattle.pv_laws.proofs.Orders.{Pairwise}
use Rattle.pv_laws.proofs.Parents.{IsOutside, IsThereAlike, IsFreeOf, swap_point, swap_way, swaps_point, swaps_way, all_alike}
use Rattle.pv_laws.proofs.Prepared.{object_state_some}
use Rattle.pv_laws.proofs.Regions.{IsBeside, IsClearing, Before, Passes, never_clears}
use Rattle.pv_laws.proofs.Repeated as repeated
use Rattle.pv_laws.proofs.Repeated.{IsAskedAt, asked_at, adjuster_adjusts, create_adjusts_not, operations_repeatable}
use Rattle.pv_laws.proofs.Sets.{impossible, is_adjustment, IsMaking, line_is_making, only_adjusts, asked, sets_adjust}
use Rattle.pv_laws.proofs.Shapes.{IsLike, adjusted_like, parent_dir, plain_prefix, shape_same, tree_shaped}
use Rattle.pv_laws.proofs.Splits.{IsKnown, turns_before, all_known, all_before, all_behind, front_pairs, after_one, line_of, all_lines, all_both}
use Rattle.pv_laws.proofs.StateSteps.{PassesTo, IsOpen, IsAlikeIn, AllOpen, all_frame, all_swap, fold_one, open_one}
use Rattle.pv_laws.proofs.Stops.{GoesBefore, all_in_place, before_one, nothing_before}
use Rattle.pv_laws.proofs.Swapped.{swapped, swapped_path, object_state_directory, directory_asks, IsSwap, swap, all_swapped, swapped_distinct, swapped_repeatable, in_order_swapped}
use Rattle.pv_laws.proofs.Swapped as swaps
use Rattle.pv_laws.proofs.Adjustment.{first_turn}
use Rattle.pv_laws.proofs.Ways.{parts_adjust, all_take}

-- ---- operations on a directory

-- a directory, without numbers
abbrev IsDirectory : ObjectState → Type 0
IsDirectory x = (is_directory x.body.kind ≡ true) × (x.body.major ≡ 0) × (x.body.minor ≡ 0)

like_directory : (x y : ObjectState) → IsLike x y → IsDirectory x → IsDirectory y
like_directory x y like is = (ap is_directory like.kind ∙ is.0, like.major ∙ is.1, like.minor ∙ is.2)

-- an adjustment, or a make that replaces nothing
abbrev is_gentle : Operation → Bool
is_gentle (Make new) = true
is_gentle (Renew test new) = false
is_gentle Erase = false
is_gentle (Apply guard change) = true

gentle_all : (xs : List Operation) → list_all is_adjustment xs ≡ true → list_all is_gentle xs ≡ true
gentle_all [] h = refl
gentle_all (x ∷ xs) h = grind (arith, gentle_all xs)

gentle_none : (xs : List Operation) → list_all is_gentle xs ≡ true → list_any is_erasure xs ≡ false
gentle_none [] h = refl
gentle_none (x ∷ xs) h = grind (arith, gentle_none xs)

gentle_keeps : (xs : List Operation) → list_all is_gentle xs ≡ true → (b : Option ObjectState) → is_dir b ≡ true → is_dir (run xs b) ≡ true
gentle_keeps [] h b dir = dir
gentle_keeps (x ∷ xs) h None dir = impossible dir
gentle_keeps (Make new ∷ xs) h (Some b) dir = gentle_keeps xs h (Some b) dir
gentle_keeps (Renew test new ∷ xs) h (Some b) dir = impossible h
gentle_keeps (Erase ∷ xs) h (Some b) dir = impossible h
gentle_keeps (Apply guard change ∷ xs) h (Some b) dir = gentle_keeps xs h (done (Apply guard change) (Some b)) (
    let like = adjusted_like (Apply guard change ∷ []) refl b in
    ap is_dir like.1 ∙ ap is_directory like.2.kind ∙ dir)

-- ---- a line that neither erases at a path nor takes a directory away there

record IsCalm (line : Line) (a : Path) : Type 0 where
  no_erasure : list_any is_erasure (parts (operations line a)) ≡ false
  keeps : (x : ObjectState) → IsDirectory x → (y : ObjectState) × (run (operations line a) (Some x) ≡ Some y) × IsDirectory y

-- what adjusts erases nothing, in parts either
adjusts_calm : (xs : List Operation) → list_all is_adjustment xs ≡ true → list_any is_erasure xs ≡ false
adjusts_calm xs h = gentle_none xs (gentle_all xs h)

calm_of : (line : Line) (a : Path) (xs : List Operation) → operations line a ≡ xs → list_any is_erasure (parts xs) ≡ false
    → ((x : ObjectState) → IsDirectory x → (y : ObjectState) × (run xs (Some x) ≡ Some y) × IsDirectory y) → IsCalm line a
calm_of line a xs e none keeps = record {
  no_erasure = ap (λ ys. list_any is_erasure (parts ys)) e ∙ none;
  keeps = λ x is. let rest = keeps x is in (rest.0, ap (λ ys. run ys (Some x)) e ∙ rest.1, rest.2);
}

nothing_calm : (line : Line) (a : Path) → operations line a ≡ [] → IsCalm line a
nothing_calm line a e = calm_of line a [] e refl (λ x is. (x, refl, is))

parent_calm : (line : Line) (a : Path) → operations line a ≡ Make parent_object_state ∷ [] → IsCalm line a
parent_calm line a e = calm_of line a (Make parent_object_state ∷ []) e refl (λ x is. (x, refl, is))

-- the first make, in parts
first_calm : (making : Making) → IsMaking making → (xs : List Operation) → list_any is_erasure (parts xs) ≡ false → list_any is_erasure (parts (first_of making ∷ xs)) ≡ false
first_calm making is xs none = by making.renew refl
  where
    by : (r : Option Test) → making.renew ≡ r → list_any is_erasure (parts (first_of making ∷ xs)) ≡ false
    by None e = ap (λ (o : Operation). list_any is_erasure (parts (o ∷ xs))) (first_make making is e) ∙ none
    by (Some test) e = ap (λ (o : Operation). list_any is_erasure (parts (o ∷ xs))) (first_renew making is test e) ∙ none

module _ (p a : Path) (line : Line) (above : is_prefix a p ≡ true) (never : IsClearing p line → ⊥) where
  clears_not : (making : Making) → action_of line ≡ Create making → is_prefix (path_in line.path) a ≡ true → clears_below making ≡ false
  clears_not making e high = false_from_ne_true _ (λ f. never (record { making = making; makes = e; clears = f; above = is_prefix-trans (path_in line.path) a p high above }))

  object_calm : (making : Making) → action_of line ≡ Create making → path_in line.path ≡ a → operations line a ≡ first_of making ∷ making.sets → IsCalm line a
  object_calm making e same f = calm_of line a (first_of making ∷ making.sets) f
      (first_calm making is making.sets (adjusts_calm (parts making.sets) (parts_adjust making.sets adjust)))
      (λ x dir. (
      let like = adjusted_like making.sets adjust x in (
        like.0,
        ap (run making.sets) (first_on_some making is x ∙ ap (λ b. Some (cond b x (object_state_of (new_object making.new 0)))) (stays x dir)) ∙ like.1,
        like_directory x like.0 like.2 dir,
      )))
    where
      is : IsMaking making
      is = line_is_making line making e

      adjust : list_all is_adjustment making.sets ≡ true
      adjust = only_adjusts (new_kind making.new.what) making.sets is.only

      stays : (x : ObjectState) → IsDirectory x → does_stay making is making.renew x ≡ true
      stays x dir = directory_stays making is x dir ∙ ap not (clears_not making e (ap (λ (r : Path). is_prefix r a) same ∙ is_prefix-refl a))

  line_calm : IsCalm line a
  line_calm = by (asked_at line a)
    where
      by : IsAskedAt line a → IsCalm line a
      by (repeated.object making e same f) = object_calm making e same f
      by (repeated.parent making e high f) = parent_calm line a f
      by (repeated.below making e g d f) =
          let two = and_parts (is_prefix (path_in line.path) a) (clears_below making) g in
          absurd (true_not_false (clears_below making) two.1 (clears_not making e two.0))
      by (repeated.set adjustment e g f) =
          let adjust : list_all is_adjustment adjustment.sets ≡ true = subst (λ d. list_all is_adjustment (sets_of d) ≡ true) e (sets_adjust line (action_of line) (asked line)) in
          calm_of line a adjustment.sets f (adjusts_calm (parts adjustment.sets) (parts_adjust adjustment.sets adjust)) (λ x dir. (
          let like = adjusted_like adjustment.sets adjust x in (like.0, like.1, like_directory x like.0 like.2 dir)))
      by (repeated.nothing f) = nothing_calm line a f

  -- so is the line in its place
  module _ (t : Files) (outside : IsOutside t a line) where
    swapped_calm : IsCalm (swapped t line) a
    swapped_calm = by (swap t line)
      where
        at : (b : Bool) → operations (object_state_directory line) a ≡ cond b (Make parent_object_state ∷ []) [] → IsCalm (object_state_directory line) a
        at true f = parent_calm (object_state_directory line) a f
        at false f = nothing_calm (object_state_directory line) a f

        by : IsSwap t line (swapped t line) → IsCalm (swapped t line) a
        by (swaps.same is f) = subst (λ (l : Line). IsCalm l a) (sym is) line_calm
        by (swaps.directory copying e there is) = subst (λ (l : Line). IsCalm l a) (sym is) (at (is_prefix a (path_in line.path)) (directory_asks line a (
            same_path-no (path_in line.path) a (λ same. true_not_false (is_prefix (path_in line.path) a) (ap (is_prefix (path_in line.path)) (sym same) ∙ is_prefix-refl (path_in line.path)) (outside copying e there)))))

-- lines of which each is calm
all_quiet_there : (a : Path) (lines : List Line) → AllByRecursion (λ line. IsCalm line a) lines → list_any is_erasure (operations_of lines a) ≡ false
all_quiet_there a [] calm = refl
all_quiet_there a (line ∷ lines) calm =
    list_any-append is_erasure (parts (operations line a)) (operations_of lines a)
    ∙ ap (λ b. b || list_any is_erasure (operations_of lines a)) calm.0.no_erasure
    ∙ all_quiet_there a lines calm.1

all_keep : (a : Path) (lines : List Line) → AllByRecursion (λ line. IsCalm line a) lines → (x : ObjectState) → IsDirectory x → (y : ObjectState) × (run (operations_of lines a) (Some x) ≡ Some y) × IsDirectory y
all_keep a [] calm x dir = (x, refl, dir)
all_keep a (line ∷ lines) calm x dir =
    let one = calm.0.keeps x dir in
    let rest = all_keep a lines calm.1 one.0 one.2 in (
      rest.0,
      run-append (parts (operations line a)) (operations_of lines a) (Some x) ∙ ap (run (operations_of lines a)) (run-parts (operations line a) (Some x) ∙ one.1) ∙ rest.1,
      rest.2,
    )

-- ---- none of the lines before one that could be walked to clears what lies above its path

module _ (now : ℕ) (p : Path) where
  pub none_clears : (lines : List Line) → AllByRecursion IsSafe lines → AllByRecursion (IsBeside p) lines → Pairwise Before lines → (t : Files) → IsShaped (object_states_of (places t))
      → one_is_refused (by_line now) lines t ≡ false → Passes now p (after_each (by_line now) lines t) → AllByRecursion (λ line. IsClearing p line → ⊥) lines
  none_clears [] safe beside before t shape quiet passes = tt
  none_clears (line ∷ lines) safe beside before t shape quiet passes =
      let two = or_parts ((by_line now).is_refused line t) (one_is_refused (by_line now) lines ((by_line now).after line t)) quiet in (
        never_clears now p line lines safe.0 beside.0 safe.1 beside.1 before.0 t shape quiet passes,
        none_clears lines safe.1 beside.1 before.1 ((by_line now).after line t) (line_pointed now line safe.0 t shape two.0).shape two.1 passes,
      )

-- a run on its way in lines of two parts is on its way in the first, or in the second
way_parts : (now : ℕ) (xs ys : List Line) (t u : Files) → PartwayOf (xs ++ ys) now t u → PartwayOf xs now t u ⊎ PartwayOf ys now (after_each (by_line now) xs t) u
way_parts now [] ys t u way = inr way
way_parts now (x ∷ xs) ys t u (inl way) = inl (inl way)
way_parts now (x ∷ xs) ys t u (inr later) = by (way_parts now xs ys ((by_line now).after x t) u later)
  where
    by : PartwayOf xs now ((by_line now).after x t) u ⊎ PartwayOf ys now (after_each (by_line now) (x ∷ xs) t) u → PartwayOf (x ∷ xs) now t u ⊎ PartwayOf ys now (after_each (by_line now) (x ∷ xs) t) u
    by (inl way) = inl (inr way)
    by (inr way) = inr way

-- ---- lines without a hazard

module _ (lines : List Line) (are : AllByRecursion IsLine lines) (distinct : are_distinct lines ≡ true) (repeatable : IsRepeatable lines) where
  abbrev all : List Listed
  all = enumerate_from 0 lines

  abbrev Known : Listed → Type 0
  Known l = IsKnown lines are distinct repeatable l

  known : AllByRecursion Known (ordered all)
  known = all_known lines are distinct repeatable

  -- no line governs what another copies
  free_of : (l k : Listed) → Known l → Known k → IsFreeOf l.1 k.1
  free_of l k known copies copying e = false_from_ne_true _ (λ f. repeatable l.0 reason.Source (HasReason.source l.1 k.1 k.0 copying.source copying.source known.at copies.at (ap copied e) (is_prefix-refl copying.source) (source_named k.1 copies.is copying e) f))

  free_each : (l : Listed) → Known l → (ls : List Listed) → AllByRecursion Known ls → AllByRecursion (IsFreeOf l.1) (map line_of ls)
  free_each l _ [] h = tt
  free_each l known (k ∷ ls) h = (free_of l k known h.0, free_each l known ls h.1)

  pub free_all : (ls : List Listed) → AllByRecursion Known ls → Pairwise IsFreeOf (map line_of ls)
  free_all [] h = tt
  free_all (l ∷ ls) h = (free_each l h.0 ls h.1, free_all ls h.1)

  module _ (now : ℕ) (t u : Files) (tree : IsTree t) (there : IsTree u) (quiet : RefusesNoLine lines now t) (way : PartwayOf (in_create_order lines) now t u) (r : ObjectStates) (agree : Agree r u) where
    pub start_shaped : IsShaped (fin.get r)
    start_shaped = shape_same (object_states_of (places u)) (fin.get r) agree (tree_shaped (places u) there)

    -- what is copied is there in both
    alike_there : (l : Listed) → Known l → IsThereAlike t u l.1
    alike_there l is copying e = ap is_some (source_partway lines are repeatable copying.source l.0 l.1 is.at (ap copied e) copying.source (is_prefix-refl copying.source) (source_named l.1 is.is copying e) (copy_source l.1 is.is copying e) now t tree u way)

    alike_one : (l : Listed) → Known l → IsAlikeIn t r l.1
    alike_one l is copying e = ap is_some (agree copying.source (copy_source l.1 is.is copying e)) ∙ alike_there l is copying e

    pub alike_all : (ls : List Listed) → AllByRecursion Known ls → AllByRecursion (IsAlikeIn t r) (map line_of ls)
    alike_all [] h = tt
    alike_all (l ∷ ls) h = (alike_one l h.0, alike_all ls h.1)

    pub same_alike : (ls : List Line) → AllByRecursion (IsThereAlike t t) ls
    same_alike [] = tt
    same_alike (l ∷ ls) = ((λ copying e. refl), same_alike ls)

    -- ---- one line, with those before and after it

    module _ (before after : List Listed) (one : Listed) (whole : ordered all ≡ before ++ one ∷ after) (makes : is_adjusting_line one.1 ≡ false) (opens : AllOpen (map line_of before) r) where
      abbrev line : Line
      line = one.1

      abbrev p : Path
      p = path_in one.1.path

      abbrev xs : List Line
      xs = map line_of before

      abbrev ys : List Line
      ys = map line_of after

      in_parts : in_create_order lines ≡ xs ++ line ∷ ys
      in_parts = ap (map line_of) whole ∙ map-append line_of before (one ∷ after)

      parts_known : AllByRecursion Known (before ++ one ∷ after)
      parts_known = subst (AllByRecursion Known) whole known

      known_before : AllByRecursion Known before
      known_before = all_before Known before (one ∷ after) parts_known

      known_one : Known one
      known_one = (all_behind Known before (one ∷ after) parts_known).0

      creates : is_creating line ≡ true
      creates = by known_one.does
        where
          by : (is_creating line ≡ true) ⊎ (is_adjusting_line line ≡ true) → is_creating line ≡ true
          by (inl h) = h
          by (inr h) = impossible (sym makes ∙ h)

      in_place : Pairwise GoesBefore (xs ++ line ∷ ys)
      in_place = subst (Pairwise GoesBefore) in_parts (all_in_place lines are distinct repeatable p)

      -- no line copies to a path above it
      none_above : (l : Listed) → Known l → (copying : Copying) → action_of l.1 ≡ Copy copying → path_in l.1.path ≢ p → is_prefix (path_in l.1.path) p ≡ false
      none_above l is copying e differ = false_from_ne_true _ (λ g. repeatable one.0 reason.Below (below line l.1 l.0 copying.source known_one.at is.at creates (ap copied e) g differ))

      unlist : (P : Line → Type 0) (ls : List Listed) → AllByRecursion P (map line_of ls) → AllByRecursion (λ (l : Listed). P l.1) ls
      unlist P [] h = tt
      unlist P (l ∷ ls) h = (h.0, unlist P ls h.1)

      besides : AllByRecursion (IsBeside p) xs
      besides = all_lines (IsBeside p) before (
          all_both Known (λ (l : Listed). GoesBefore l.1 line) (λ (l : Listed). IsBeside p l.1) (λ l is goes. (
          let two = goes makes in
          record {
            low = two.1;
            makes = two.0;
            copies = λ copying e. none_above l is copying e (λ same. true_not_false (is_prefix p (path_in l.1.path)) (ap (is_prefix p) same ∙ is_prefix-refl p) two.1);
          })) before known_before (unlist (λ x. GoesBefore x line) before (before_one GoesBefore xs ys line in_place)))

      in_turn : Pairwise Before xs
      in_turn = turns_before p xs besides (front_pairs GoesBefore xs (line ∷ ys) in_place)

      safe_parts : AllByRecursion IsSafe (xs ++ line ∷ ys)
      safe_parts = subst (AllByRecursion IsSafe) in_parts (all_safe lines are repeatable)

      safe_xs : AllByRecursion IsSafe xs
      safe_xs = all_before IsSafe xs (line ∷ ys) safe_parts

      safe_two : AllByRecursion IsSafe (line ∷ ys)
      safe_two = all_behind IsSafe xs (line ∷ ys) safe_parts

      quiet_two : (one_is_refused (by_line now) xs t ≡ false) × (one_is_refused (by_line now) (line ∷ ys) (after_each (by_line now) xs t) ≡ false)
      quiet_two = quiet_parts now xs (line ∷ ys) t (subst (λ ls. one_is_refused (by_line now) ls t ≡ false) in_parts quiet)

      -- the first run, when the line begins
      abbrev first : Files
      first = after_each (by_line now) xs t

      quiet_line : ((by_line now).is_refused line first ≡ false) × (one_is_refused (by_line now) ys ((by_line now).after line first) ≡ false)
      quiet_line = or_parts ((by_line now).is_refused line first) (one_is_refused (by_line now) ys ((by_line now).after line first)) quiet_two.1

      t_shaped : IsShaped (object_states_of (places t))
      t_shaped = tree_shaped (places t) tree

      first_shaped : IsShaped (object_states_of (places first))
      first_shaped = all_shaped now xs safe_xs t t_shaped quiet_two.0

      -- what the line asks of each path above its own
      module _ (unstaged : has_staging p ≡ false) (asks_parent : (a : Path) → is_prefix a p ≡ true → a ≢ p → operations (swapped t line) a ≡ Make parent_object_state ∷ []) (passes : Passes now p first)
          (a : Path) (high : is_prefix a p ≡ true) (other : a ≢ p) where
        plain : has_staging a ≡ false
        plain = plain_prefix a p high unstaged

        named : has_names a ≡ true
        named = has_names-prefix a p high (path_named line known_one.is)

        outside_one : (l : Listed) → Known l → IsOutside t a l.1
        outside_one l is copying e present = false_from_ne_true _ (λ f. true_not_false (is_prefix (path_in l.1.path) p) (is_prefix-trans (path_in l.1.path) a p f high) (none_above l is copying e (λ same. other (is_prefix-antisym a p high (ap (λ (c : Path). is_prefix c a) (sym same) ∙ f)))))

        outside_all : (ls : List Listed) → AllByRecursion Known ls → AllByRecursion (IsOutside t a) (map line_of ls)
        outside_all [] h = tt
        outside_all (l ∷ ls) h = (outside_one l h.0, outside_all ls h.1)

        outside_parts : AllByRecursion (IsOutside t a) (xs ++ line ∷ ys)
        outside_parts = subst (AllByRecursion (IsOutside t a)) in_parts (outside_all (ordered all) known)

        outside_xs : AllByRecursion (IsOutside t a) xs
        outside_xs = all_before (IsOutside t a) xs (line ∷ ys) outside_parts

        outside_two : AllByRecursion (IsOutside t a) (line ∷ ys)
        outside_two = all_behind (IsOutside t a) xs (line ∷ ys) outside_parts

        free_parts : Pairwise IsFreeOf (xs ++ line ∷ ys)
        free_parts = subst (Pairwise IsFreeOf) in_parts (free_all (ordered all) known)

        abbrev mapped : List Line
        mapped = map (swapped t) xs

        abbrev done_there : List Operation
        done_there = operations_of (map (swapped t) xs) a

        here : fin.get (fold pointwise_after r xs) a ≡ run done_there (object_states_of (places u) a)
        here =
            all_swap t a plain xs safe_xs outside_xs (front_pairs IsFreeOf xs (line ∷ ys) free_parts) r start_shaped (alike_all before known_before) opens
            ∙ ap (run done_there) (agree a plain)

        first_there : object_states_of (places first) a ≡ run done_there (object_states_of (places t) a)
        first_there = swaps_point t a plain now xs safe_xs outside_xs (front_pairs IsFreeOf xs (line ∷ ys) free_parts) t t_shaped (same_alike xs) quiet_two.0

        calm_each : (zs : List Line) → AllByRecursion (IsOutside t a) zs → AllByRecursion (λ z. IsClearing p z → ⊥) zs → AllByRecursion (λ z. IsCalm z a) (map (swapped t) zs)
        calm_each [] h g = tt
        calm_each (z ∷ zs) h g = (swapped_calm p a z high g.0 t h.0, calm_each zs h.1 g.1)

        calm : AllByRecursion (λ z. IsCalm z a) mapped
        calm = calm_each xs outside_xs (none_clears now p xs safe_xs besides in_turn t t_shaped quiet_two.0 passes)

        -- ---- the lines in their places

        mapped_parts : in_create_order (map (swapped t) lines) ≡ mapped ++ swapped t line ∷ map (swapped t) ys
        mapped_parts = in_order_swapped t lines ∙ ap (map (swapped t)) in_parts ∙ map-append (swapped t) xs (line ∷ ys)

        mapped_place : Pairwise GoesBefore (mapped ++ swapped t line ∷ map (swapped t) ys)
        mapped_place = subst (Pairwise GoesBefore) mapped_parts (all_in_place (map (swapped t) lines) (all_swapped t lines are) (swapped_distinct t lines ∙ distinct) (swapped_repeatable t lines repeatable) a)

        -- what the later ones ask of the path changes no directory into anything else
        gentle_one : (z : Line) → GoesBefore (swapped t line) z → list_all is_gentle (parts (operations z a)) ≡ true
        gentle_one z goes = by (is_adjusting_line z) refl
          where
            higher : is_adjusting_line z ≡ false → is_prefix (path_in z.path) a ≡ false
            higher none = false_from_ne_true _ (λ f. true_not_false (is_prefix (path_in z.path) p) (is_prefix-trans (path_in z.path) a p f high) (sym (ap (λ (l : LinePath). is_prefix (path_in z.path) (path_in l)) (swapped_path t line)) ∙ (goes none).1))

            lower : is_adjusting_line z ≡ false → IsAskedAt z a → list_all is_gentle (parts (operations z a)) ≡ true
            lower none (repeated.object making e same f) = absurd (true_not_false (is_prefix (path_in z.path) a) (ap (λ (c : Path). is_prefix c a) same ∙ is_prefix-refl a) (higher none))
            lower none (repeated.parent making e low f) = ap (λ zs. list_all is_gentle (parts zs)) f
            lower none (repeated.below making e g d f) = absurd (true_not_false (is_prefix (path_in z.path) a) (and_parts (is_prefix (path_in z.path) a) (clears_below making) g).0 (higher none))
            lower none (repeated.set adjustment e g f) = impossible (sym none ∙ repeated.adjust_adjusts a z adjustment e)
            lower none (repeated.nothing f) = ap (λ zs. list_all is_gentle (parts zs)) f

            by : (b : Bool) → is_adjusting_line z ≡ b → list_all is_gentle (parts (operations z a)) ≡ true
            by true f = gentle_all (parts (operations z a)) (parts_adjust (operations z a) (adjuster_adjusts a z f))
            by false f = lower f (asked_at z a)

        gentle_each : (zs : List Line) → AllByRecursion (GoesBefore (swapped t line)) zs → list_all is_gentle (operations_of zs a) ≡ true
        gentle_each [] h = refl
        gentle_each (z ∷ zs) h =
            list_all-append is_gentle (parts (operations z a)) (operations_of zs a)
            ∙ ap (λ b. b && list_all is_gentle (operations_of zs a)) (gentle_one z h.0)
            ∙ gentle_each zs h.1

        behind : AllByRecursion (GoesBefore (swapped t line)) (map (swapped t) ys)
        behind = after_one GoesBefore mapped (swapped t line) (map (swapped t) ys) mapped_place

        -- ---- nothing is said against what the lines before ask for

        no_erasure : list_any is_erasure (done_there ++ operations_of (swapped t line ∷ map (swapped t) ys) a) ≡ false
        no_erasure =
            list_any-append is_erasure done_there (operations_of (swapped t line ∷ map (swapped t) ys) a)
            ∙ ap (λ b. b || list_any is_erasure (operations_of (swapped t line ∷ map (swapped t) ys) a)) (all_quiet_there a mapped calm)
            ∙ list_any-append is_erasure (parts (operations (swapped t line) a)) (operations_of (map (swapped t) ys) a)
            ∙ ap (λ zs. list_any is_erasure (parts zs) || list_any is_erasure (operations_of (map (swapped t) ys) a)) (asks_parent a high other)
            ∙ gentle_none (operations_of (map (swapped t) ys) a) (gentle_each (map (swapped t) ys) behind)

        messages_none : reasons.IsRepeatable done_there
        messages_none = repeatable-front done_there (operations_of (swapped t line ∷ map (swapped t) ys) a) no_erasure (
            subst reasons.IsRepeatable (ap (λ ls. operations_of ls a) mapped_parts ∙ flat_map-append (λ (l : Line). parts (operations l a)) mapped (swapped t line ∷ map (swapped t) ys))
            (operations_repeatable (map (swapped t) lines) (all_swapped t lines are) (swapped_distinct t lines ∙ distinct) (swapped_repeatable t lines repeatable) a named))

        -- ---- where the run was cut short among the lines before

        gap_ends : (front back : List Line) (x : Line) (b : ObjectState) (old : Option ObjectState) → mapped ≡ front ++ x ∷ back → run (operations_of front a) old ≡ Some b → IsRenewal x a b → run done_there None ≡ run done_there old
        gap_ends front back x b old cut stood renewal =
            ap (λ zs. run zs None) is
            ∙ sym (from_the_gap [] (parts renewal.making.sets ++ operations_of back a) renewal.test own b refl renewal.fails)
            ∙ sym (ap (λ zs. run zs (Some b)) is) ∙ sym (ap (run done_there) begun)
          where
            own : ObjectState
            own = object_state_of (new_object renewal.making.new 0)

            split : done_there ≡ operations_of front a ++ (parts (operations x a) ++ operations_of back a)
            split = ap (λ (ls : List Line). operations_of ls a) cut ∙ flat_map-append (λ (l : Line). parts (operations l a)) front (x ∷ back)

            goes : AllByRecursion (λ z. GoesBefore z x) front
            goes = before_one GoesBefore front (back ++ swapped t line ∷ map (swapped t) ys) x (
                subst (Pairwise GoesBefore) (ap (λ ls. ls ++ swapped t line ∷ map (swapped t) ys) cut ∙ append_assoc front (x ∷ back) (swapped t line ∷ map (swapped t) ys)) mapped_place)

            none : operations_of front a ≡ []
            none = nothing_before (map (swapped t) lines) (all_swapped t lines are) (swapped_distinct t lines ∙ distinct) (swapped_repeatable t lines repeatable) a x renewal.making renewal.makes renewal.at front goes (
                or_parts _ _ (sym (list_any-append is_erasure (operations_of front a) (parts (operations x a) ++ operations_of back a)) ∙ ap (list_any is_erasure) (sym split) ∙ all_quiet_there a mapped calm)).0

            asks_there : operations x a ≡ first_of renewal.making ∷ renewal.making.sets
            asks_there =
                asked_made x renewal.making a renewal.makes
                ∙ asked_here renewal.making (path_in x.path) a ((same_path-decides (path_in x.path) a).1 renewal.at)

            is : done_there ≡ Renew renewal.test own ∷ (parts renewal.making.sets ++ operations_of back a)
            is =
                split ∙ ap (λ zs. zs ++ (parts (operations x a) ++ operations_of back a)) none
                ∙ ap (λ zs. parts zs ++ operations_of back a) (asks_there ∙ ap (λ z. z ∷ renewal.making.sets) (first_renew renewal.making (line_is_making x renewal.making renewal.makes) renewal.test renewal.renews))

            begun : old ≡ Some b
            begun = sym (ap (λ zs. run zs old) none) ∙ stood

        piece_ends : IsPiece mapped a (object_states_of (places t) a) (object_states_of (places u) a) → run done_there (object_states_of (places u) a) ≡ run done_there (object_states_of (places t) a)
        piece_ends (IsPiece.piece k e) = ap (run done_there) e ∙ absorbed done_there k (object_states_of (places t) a) messages_none
        piece_ends (IsPiece.gap front back x b cut stood renewal none) = ap (run done_there) none ∙ gap_ends front back x b (object_states_of (places t) a) cut stood renewal

        -- what is as in the first run is a directory, if anything
        as_first : fin.get (fold pointwise_after r xs) a ≡ object_states_of (places first) a → is_some (fin.get (fold pointwise_after r xs) a) ≡ true → is_dir (fin.get (fold pointwise_after r xs) a) ≡ true
        as_first same h = ap is_dir same ∙ passes a high other (sym (ap is_some same) ∙ h)

        -- ---- where it had come to the line, or past it

        parent_there : is_dir (done (Make parent_object_state) (object_states_of (places first) a)) ≡ true
        parent_there = parent_dir (object_states_of (places first) a) (passes a high other)

        -- a directory stands there
        from_directory : is_dir (object_states_of (places u) a) ≡ true → is_dir (fin.get (fold pointwise_after r xs) a) ≡ true
        from_directory dir = by (object_states_of (places u) a) refl dir
          where
            by : (b : Option ObjectState) → object_states_of (places u) a ≡ b → is_dir b ≡ true → is_dir (fin.get (fold pointwise_after r xs) a) ≡ true
            by None f h = impossible h
            by (Some x) f h =
                let numbers = (tree_shaped (places u) there).plain a x plain f h in
                let kept = all_keep a mapped calm x (h, numbers.0, numbers.1) in
                ap is_dir (here ∙ ap (run done_there) f ∙ kept.1) ∙ kept.2.0

        -- all is as when the line began
        from_first : object_states_of (places u) a ≡ object_states_of (places first) a → fin.get (fold pointwise_after r xs) a ≡ object_states_of (places first) a
        from_first same =
            here ∙ ap (run done_there) (same ∙ first_there ∙ ap (λ zs. run zs (object_states_of (places t) a)) (sym (take_all (length done_there) done_there (omega arith))))
            ∙ absorbed done_there (length done_there) (object_states_of (places t) a) messages_none ∙ sym first_there

        abbrev IsGood : Type 0
        IsGood = (object_states_of (places u) a ≡ object_states_of (places first) a) ⊎ (is_dir (object_states_of (places u) a) ≡ true)

        alike_parts : AllByRecursion (IsThereAlike t first) (line ∷ ys)
        alike_parts = each (one ∷ after) (all_behind Known before (one ∷ after) parts_known)
          where
            each : (ls : List Listed) → AllByRecursion Known ls → AllByRecursion (IsThereAlike t first) (map line_of ls)
            each [] h = tt
            each (l ∷ ls) h = (
              (λ copying e. ap is_some (
                  frame_after now copying.source (copy_source l.1 h.0.is copying e) xs (all_map' xs safe_xs)
                  (all_before (λ (x : Line). governs x copying.source ≡ false) xs (line ∷ ys) (subst (AllByRecursion (λ (x : Line). governs x copying.source ≡ false)) in_parts (
                  away_all lines are repeatable copying.source l.0 l.1 h.0.at (ap copied e) copying.source (is_prefix-refl copying.source) (source_named l.1 h.0.is copying e)))) t t_shaped)),
              each ls h.1,
            )
              where
                all_map' : (zs : List Line) → AllByRecursion IsSafe zs → AllByRecursion IsLine zs
                all_map' [] g = tt
                all_map' (z ∷ zs) g = (g.0.is, all_map' zs g.1)

        at_line : IsMidway (swapped t line) a (object_states_of (places first) a) (object_states_of (places u) a) → IsGood
        at_line (IsMidway.piece zero f) = inl f
        at_line (IsMidway.piece (suc k) f) = inr (
            ap is_dir (f ∙ ap (λ zs. run (take (suc k) (parts zs)) (object_states_of (places first) a)) (asks_parent a high other)) ∙ more k)
          where
            more : (n : ℕ) → is_dir (run (take (suc n) (parts (Make parent_object_state ∷ []))) (object_states_of (places first) a)) ≡ true
            more zero = parent_there
            more (suc n) = parent_there
        at_line (IsMidway.gap b s renewal none) = absurd (other (sym (sym (ap path_in (swapped_path t line)) ∙ renewal.at)))

        next_there : object_states_of (places ((by_line now).after line first)) a ≡ done (Make parent_object_state) (object_states_of (places first) a)
        next_there =
            swap_point t a plain now line safe_two.0 outside_two.0 first first_shaped alike_parts.0 quiet_line.0
            ∙ ap (λ zs. run zs (object_states_of (places first) a)) (asks_parent a high other)

        later_on : IsPiece (map (swapped t) ys) a (object_states_of (places ((by_line now).after line first)) a) (object_states_of (places u) a) → IsGood
        later_on (IsPiece.piece k f) = inr (
            ap is_dir f ∙ gentle_keeps (take k (operations_of (map (swapped t) ys) a)) (all_take is_gentle k (operations_of (map (swapped t) ys) a) (gentle_each (map (swapped t) ys) behind))
            (object_states_of (places ((by_line now).after line first)) a) (ap is_dir next_there ∙ parent_there))
        later_on (IsPiece.gap front back x b cut stood renewal none) =
            let goes : GoesBefore (swapped t line) x = (all_behind (GoesBefore (swapped t line)) front (x ∷ back) (subst (AllByRecursion (GoesBefore (swapped t line))) cut behind)).0 in
            absurd (true_not_false (is_prefix (path_in x.path) p) (ap (λ (c : Path). is_prefix c p) renewal.at ∙ high)
            (sym (ap (λ (l : LinePath). is_prefix (path_in x.path) (path_in l)) (swapped_path t line)) ∙ (goes (create_adjusts_not a x renewal.making renewal.makes)).1))

        past : PartwayOf (line ∷ ys) now first u → IsGood
        past (inl w) = at_line (swap_way t a plain now line safe_two.0 outside_two.0 first first_shaped alike_parts.0 quiet_line.0 u w)
        past (inr w) = later_on (swaps_way t a plain now ys safe_two.1 outside_two.1 free_behind.1 ((by_line now).after line first) u (line_pointed now line safe_two.0 first first_shaped quiet_line.0).shape
            (all_alike t a plain now line safe_two.0 outside_two.0 first first_shaped alike_parts.0 quiet_line.0 ys safe_two.1 free_behind.0 alike_parts.1) quiet_line.1 w)
          where
            back_pairs : (zs ws : List Line) → Pairwise IsFreeOf (zs ++ ws) → Pairwise IsFreeOf ws
            back_pairs [] ws h = h
            back_pairs (z ∷ zs) ws h = back_pairs zs ws h.1

            free_behind : Pairwise IsFreeOf (line ∷ ys)
            free_behind = back_pairs xs (line ∷ ys) free_parts

        open_above : is_some (fin.get (fold pointwise_after r xs) a) ≡ true → is_dir (fin.get (fold pointwise_after r xs) a) ≡ true
        open_above h = by (way_parts now xs (line ∷ ys) t u (subst (λ ls. PartwayOf ls now t u) in_parts way))
          where
            good : IsGood → is_dir (fin.get (fold pointwise_after r xs) a) ≡ true
            good (inl same) = as_first (from_first same) h
            good (inr dir) = from_directory dir

            by : PartwayOf xs now t u ⊎ PartwayOf (line ∷ ys) now first u → is_dir (fin.get (fold pointwise_after r xs) a) ≡ true
            by (inl w) = as_first (here ∙ piece_ends (swaps_way t a plain now xs safe_xs outside_xs (front_pairs IsFreeOf xs (line ∷ ys) free_parts) t u t_shaped (same_alike xs) quiet_two.0 w) ∙ sym first_there) h
            by (inr w) = good (past w)

      -- ---- so it is open

      made_open : (making : Making) → action_of line ≡ Create making → PassesTo (fold pointwise_after r xs) p
      made_open making e = open_above (line_is_plain line known_one.is (ap copied e)).unstaged parents (made_passes line making e p first free)
        where
          free : refused_at line p (places first) ≡ None
          free = (first_turn now line p [] first (ap (λ paths. one_is_refused (by_turn now line) paths first) (sym (turns_made line making first e)) ∙ quiet_line.0)).0

          -- it stands in its own place
          itself : IsSwap t line (swapped t line) → swapped t line ≡ line
          itself (swaps.same is f) = is
          itself (swaps.directory copying f there is) = absurd (let no : Create making ≡ Copy copying = sym e ∙ f in cc)

          parents : (a : Path) → is_prefix a p ≡ true → a ≢ p → operations (swapped t line) a ≡ Make parent_object_state ∷ []
          parents a high other = ap (λ (l : Line). operations l a) (itself (swap t line)) ∙ asked_made line making a e ∙ asked_above making p a (same_path-no p a (λ same. other (sym same))) high

      copy_open : (copying : Copying) → action_of line ≡ Copy copying → is_some (fin.get (fold pointwise_after r xs) copying.source) ≡ true → PassesTo (fold pointwise_after r xs) p
      copy_open copying e present = open_above (copy_path line known_one.is copying e).0 parents (copy_passes line copying e first free first_present)
        where
          free : refused_at line p (places first) ≡ None
          free = (first_turn now line p [] first (ap (λ paths. one_is_refused (by_turn now line) paths first) (sym (turns_copy line copying first e)) ∙ quiet_line.0)).0

          plain_source : has_staging copying.source ≡ false
          plain_source = copy_source line known_one.is copying e

          away : AllByRecursion (λ (x : Line). governs x copying.source ≡ false) xs
          away = all_before (λ (x : Line). governs x copying.source ≡ false) xs (line ∷ ys) (subst (AllByRecursion (λ (x : Line). governs x copying.source ≡ false)) in_parts (
              away_all lines are repeatable copying.source one.0 line known_one.at (ap copied e) copying.source (is_prefix-refl copying.source) (source_named line known_one.is copying e)))

          all_are : (zs : List Line) → AllByRecursion IsSafe zs → AllByRecursion IsLine zs
          all_are [] g = tt
          all_are (z ∷ zs) g = (g.0.is, all_are zs g.1)

          t_present : is_some (object_states_of (places t) copying.source) ≡ true
          t_present =
              sym (alike_one one known_one copying e)
              ∙ sym (ap is_some (all_frame copying.source plain_source xs safe_xs away r start_shaped opens)) ∙ present

          first_present : is_some (places first copying.source) ≡ true
          first_present = sym (object_state_some (places first copying.source)) ∙ ap is_some (frame_after now copying.source plain_source xs (all_are xs safe_xs) away t t_shaped) ∙ t_present

          parents : (a : Path) → is_prefix a p ≡ true → a ≢ p → operations (swapped t line) a ≡ Make parent_object_state ∷ []
          parents a high other = by (swap t line)
            where
              by : IsSwap t line (swapped t line) → operations (swapped t line) a ≡ Make parent_object_state ∷ []
              by (swaps.same is f) = impossible (sym f ∙ ap (swaps.copies_some t) e ∙ t_present)
              by (swaps.directory c f there is) =
                  ap (λ (l : Line). operations l a) is ∙ directory_asks line a (same_path-no p a (λ same. other (sym same))) ∙ ap (λ b. cond b (Make parent_object_state ∷ []) []) high

      line_open : IsOpen line (fold pointwise_after r xs)
      line_open = record { made = made_open; copies = copy_open }

    -- ---- all lines

    adjust_open : (l : Line) (s : ObjectStates) → is_adjusting_line l ≡ true → IsOpen l s
    adjust_open l s h = record {
      made = λ making e. impossible (sym (create_adjusts_not [] l making e) ∙ h);
      copies = λ copying e there. impossible (sym (repeated.copy_adjusts_not [] l copying e) ∙ h);
    }

    open_rest : (before after : List Listed) → ordered all ≡ before ++ after → AllOpen (map line_of before) r → AllOpen (map line_of after) (fold pointwise_after r (map line_of before))
    open_rest before [] whole opens = tt
    open_rest before (one ∷ after) whole opens = (
      own_turn,
      subst (AllOpen (map line_of after)) (ap (fold pointwise_after r) (map-append line_of before (one ∷ [])) ∙ fold_one (map line_of before) one.1 r) (
          open_rest (before ++ one ∷ []) after (whole ∙ sym (append_assoc before (one ∷ []) after))
          (subst (λ ls. AllOpen ls r) (sym (map-append line_of before (one ∷ []))) (open_one (map line_of before) one.1 r opens own_turn))),
    )
      where
        by : (b : Bool) → is_adjusting_line one.1 ≡ b → IsOpen one.1 (fold pointwise_after r (map line_of before))
        by true f = adjust_open one.1 (fold pointwise_after r (map line_of before)) f
        by false f = line_open before after one whole f opens

        own_turn : IsOpen one.1 (fold pointwise_after r (map line_of before))
        own_turn = by (is_adjusting_line one.1) refl

    pub all_open : AllOpen (in_create_order lines) r
    all_open = open_rest [] (ordered all) refl tt
