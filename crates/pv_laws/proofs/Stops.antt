-- What a run of lines that copy nothing has left when it was cut short is a piece at each path, which a complete run of the
-- same lines completes.
use Rattle.pv_laws.proofs.AllFrames.{shape_after, shape_after}
use Rattle.std.specs.Prelude.{◌≡◌, ℕ, Bool, true, false, List, [], ◌∷◌, ◌++◌, map, filter, fold, take, Option, Some, None}
use Rattle.std.proofs.Common.{zero, suc, refl, sym, ap, subst, ◌∙◌, inl, inr}
use Rattle.std.specs.List.{list_any, enumerate_from, AllByRecursion}
use Rattle.std.proofs.lemmas.Grind.{flat_map-append}
use Rattle.std.proofs.lemmas.List.Folds.{list_any-append}
use Rattle.std.proofs.lemmas.Bool.{or_parts}
use Rattle.pv_path.specs.Paths.{has_names, Path, is_prefix, has_staging, same_path-decides}
use Rattle.pv_path.proofs.PathLaws.{is_prefix-refl}
use Rattle.pv_steps.specs.Trees.{Files, places, IsTree}
use Rattle.pv_steps.specs.Same.{Same}
use Rattle.pv_walk.specs.declared.object_state.ObjectState.{ObjectState}
use Rattle.pv_walk.specs.declared.operation.Operation.{Operation}
use Rattle.pv_walk.specs.declared.operation.Operation.TheVariants.{Renew}
use Rattle.pv_walk.specs.Dividing.{parts}
use Rattle.pv_walk.specs.Nodes.{object_state_of, object_states_of}
use Rattle.pv_walk.specs.Operations.{run}
use Rattle.pv_walk.specs.Reasons as reasons
use Rattle.pv_walk.specs.Reasons.{is_erasure}
use Rattle.pv_walk.proofs.Dividing.{run-parts}
use Rattle.pv_walk.proofs.OperationLaws.{absorbed, object_states_of-same, object_states-same, erased-alike, from_the_gap, run-append}
use Rattle.pv_lines.specs.declared.line.Line.{Line}
use Rattle.pv_lines.specs.Lines.{IsLine}
use Rattle.pv_walk.specs.Staging.{new_object}
use Rattle.pv_table.specs.declared.action.Action.TheVariants.{Create, Adjust}
use Rattle.pv_table.specs.declared.action.Making.{Making}
use Rattle.pv_table.specs.Active.{are_distinct, Listed, placed, is_adjusting_line, in_create_order}
use Rattle.pv_table.specs.Asked.{first_of, operations, operations_of}
use Rattle.pv_table.specs.ActionTable.{action_of}
use Rattle.pv_table.specs.Created.{by_line, created, RefusesNoLine}
use Rattle.pv_steps.specs.Doing.{one_is_refused}
use Rattle.pv_table.specs.Reaching.{path_in, is_creating}
use Rattle.pv_table.specs.Repeatable.{IsRepeatable}
use Rattle.pv_table.specs.Turns.{copied}
use Rattle.pv_laws.specs.Copying.{OnWayOf, copy_before, copy_done, other, PartwayOf}
use Rattle.pv_laws.specs.Stopping.{IsRenewal, IsMidway, OnWay, IsPiece}
use Rattle.pv_laws.proofs.Lines.{IsPlain, asked_made, line_is_plain, line_point, lines_point}
use Rattle.pv_laws.proofs.Making.{same_unnamed, IsShaped, asked_here, first_renew}
use Rattle.pv_laws.proofs.Orders.{Pairwise, ComesAfter, makers_ordered}
use Rattle.pv_table.proofs.ListedLaws.{all_append, all_in_order, all_map, all_tests}
use Rattle.pv_laws.proofs.Repeated.{IsAskedAt, object, parent, below, set, nothing, asked_at, operations_repeatable, makers_adjust_none}
use Rattle.pv_laws.proofs.Sets.{impossible, IsMaking, line_is_making}
use Rattle.pv_laws.proofs.Shapes.{tree_shaped, tree_shaped}
use Rattle.pv_path.proofs.Tests.{true_not_false}

-- ---- pieces of one list after another

pub take_front : {A : Type 0} (k : ℕ) (xs ys : List A) → (n : ℕ) × (take n (xs ++ ys) ≡ take k xs)
take_front zero xs ys = (zero, refl)
take_front (suc k) [] ys = (zero, refl)
take_front (suc k) (x ∷ xs) ys = let more = take_front k xs ys in (suc more.0, ap (λ zs. x ∷ zs) more.1)

pub take_after : {A : Type 0} (k : ℕ) (xs ys : List A) → (n : ℕ) × (take n (xs ++ ys) ≡ xs ++ take k ys)
take_after k [] ys = (k, refl)
take_after k (x ∷ xs) ys = let more = take_after k xs ys in (suc more.0, ap (λ zs. x ∷ zs) more.1)

-- what is on the way of the first line is a piece of what all ask for
pub midway_piece : (line : Line) (lines : List Line) (q : Path) (old new : Option ObjectState) → IsMidway line q old new → IsPiece (line ∷ lines) q old new
midway_piece line lines q old new (IsMidway.piece k e) =
    let front = take_front k (parts (operations line q)) (operations_of lines q) in
    IsPiece.piece front.0 (e ∙ ap (λ xs. run xs old) (sym front.1))
midway_piece line lines q old new (IsMidway.gap b s renewal none) = IsPiece.gap [] lines line b refl s renewal none

-- so is what is on the way of a later one
pub later_piece : (line : Line) (lines : List Line) (q : Path) (old new : Option ObjectState) → IsPiece lines q (run (parts (operations line q)) old) new → IsPiece (line ∷ lines) q old new
later_piece line lines q old new (IsPiece.piece k e) =
    let back = take_after k (parts (operations line q)) (operations_of lines q) in
    IsPiece.piece back.0 (e ∙ sym (run-append (parts (operations line q)) (take k (operations_of lines q)) old) ∙ ap (λ xs. run xs old) (sym back.1))
later_piece line lines q old new (IsPiece.gap before after next b whole s renewal none) =
    IsPiece.gap (line ∷ before) after next b (ap (λ ls. line ∷ ls) whole) (run-append (parts (operations line q)) (operations_of before q) old ∙ s) renewal none

-- a line that copies nothing is on its way at each path
plain_way : (now : ℕ) (line : Line) (t u : Files) → copied (action_of line) ≡ None → OnWayOf line now t u → OnWay line t u
plain_way now line t u none (copy_before copying e before) = absurd (let no : Some copying.source ≡ None = sym (ap copied e) ∙ none in cc)
plain_way now line t u none (copy_done copying e whole) = absurd (let no : Some copying.source ≡ None = sym (ap copied e) ∙ none in cc)
plain_way now line t u none (other no_copy way) = way

-- what a run has left on its way is a piece at each path
pub partway_piece : (lines : List Line) (now : ℕ) (t u : Files) → AllByRecursion IsPlain lines → IsShaped (object_states_of (places t)) → one_is_refused (by_line now) lines t ≡ false → PartwayOf lines now t u
    → (q : Path) → has_staging q ≡ false → IsPiece lines q (object_states_of (places t) q) (object_states_of (places u) q)
partway_piece [] now t u are shape quiet same q plain = IsPiece.piece 0 (sym (object_states_of-same (places t) (places u) q (same q plain)))
partway_piece (line ∷ lines) now t u are shape quiet (inl way) q plain =
    midway_piece line lines q (object_states_of (places t) q) (object_states_of (places u) q) (plain_way now line t u are.0.no_copy way q plain)
partway_piece (line ∷ lines) now t u are shape quiet (inr later) q plain =
    let two = or_parts ((by_line now).is_refused line t) (one_is_refused (by_line now) lines ((by_line now).after line t)) quiet in
    let one = line_point now line are.0 t shape two.0 in
    later_piece line lines q (object_states_of (places t) q) (object_states_of (places u) q) (
    subst (λ b. IsPiece lines q b (object_states_of (places u) q)) (one.point q plain ∙ sym (run-parts (operations line q) (object_states_of (places t) q)))
    (partway_piece lines now ((by_line now).after line t) u are.1 one.shape two.1 later q plain))

-- ---- the line that is to replace the object there

module _ {A : Type 0} (R : A → A → Type 0) where
  pairwise_append : (xs ys : List A) → Pairwise R xs → Pairwise R ys → AllByRecursion (λ x. AllByRecursion (R x) ys) xs → Pairwise R (xs ++ ys)
  pairwise_append [] ys h g cross = g
  pairwise_append (x ∷ xs) ys h g cross = (all_append (R x) xs ys h.0 cross.0, pairwise_append xs ys h.1 g cross.1)

  pub before_one : (before after : List A) (x : A) → Pairwise R (before ++ x ∷ after) → AllByRecursion (λ y. R y x) before
  before_one [] after x h = tt
  before_one (y ∷ before) after x h = (here before h.0, before_one before after x h.1)
    where
      here : (ys : List A) → AllByRecursion (R y) (ys ++ x ∷ after) → R y x
      here [] g = g.0
      here (z ∷ ys) g = here ys g.1

-- of two lines of which the second makes an object, the first makes one too, and not below it
abbrev pub GoesBefore : Line → Line → Type 0
GoesBefore a b = is_adjusting_line b ≡ false → (is_adjusting_line a ≡ false) × (is_prefix (path_in b.path) (path_in a.path) ≡ false)

module _ (lines : List Line) (are : AllByRecursion IsLine lines) (distinct : are_distinct lines ≡ true) (repeatable : IsRepeatable lines) (q : Path) where
  abbrev makers : List Listed
  makers = fold placed [] (filter (λ (l : Listed). is_creating l.1) (enumerate_from 0 lines))

  abbrev adjusters : List Listed
  adjusters = filter (λ (l : Listed). is_adjusting_line l.1) (enumerate_from 0 lines)

  abbrev InOrder : Listed → Listed → Type 0
  InOrder a b = GoesBefore a.1 b.1

  makers_in_order : (ls : List Listed) → AllByRecursion (λ (l : Listed). is_adjusting_line l.1 ≡ false) ls → Pairwise ComesAfter ls → Pairwise InOrder ls
  makers_in_order [] h g = tt
  makers_in_order (l ∷ ls) h g = (all_map (ComesAfter l) (InOrder l) (λ k after none. (h.0, after)) ls g.0, makers_in_order ls h.1 g.1)

  nothing_after : (l : Listed) (ls : List Listed) → AllByRecursion (λ (k : Listed). is_adjusting_line k.1 ≡ true) ls → AllByRecursion (InOrder l) ls
  nothing_after l [] h = tt
  nothing_after l (k ∷ ls) h = ((λ none. impossible (sym none ∙ h.0)), nothing_after l ls h.1)

  adjusters_in_order : (ls : List Listed) → AllByRecursion (λ (k : Listed). is_adjusting_line k.1 ≡ true) ls → Pairwise InOrder ls
  adjusters_in_order [] h = tt
  adjusters_in_order (l ∷ ls) h = (nothing_after l ls h.1, adjusters_in_order ls h.1)

  across : (ls ks : List Listed) → AllByRecursion (λ (k : Listed). is_adjusting_line k.1 ≡ true) ks → AllByRecursion (λ l. AllByRecursion (InOrder l) ks) ls
  across [] ks h = tt
  across (l ∷ ls) ks h = (nothing_after l ks h, across ls ks h)

  all_adjust : AllByRecursion (λ (k : Listed). is_adjusting_line k.1 ≡ true) adjusters
  all_adjust = all_tests (λ (l : Listed). is_adjusting_line l.1) (enumerate_from 0 lines)

  listed_in_order : Pairwise InOrder (makers ++ adjusters)
  listed_in_order = pairwise_append InOrder makers adjusters
      (makers_in_order makers (makers_adjust_none lines are distinct repeatable q) (makers_ordered lines distinct))
      (adjusters_in_order adjusters all_adjust) (across makers adjusters all_adjust)

  unlist_all : (l : Listed) (ls : List Listed) → AllByRecursion (InOrder l) ls → AllByRecursion (GoesBefore l.1) (map (λ (k : Listed). k.1) ls)
  unlist_all l [] h = tt
  unlist_all l (k ∷ ls) h = (h.0, unlist_all l ls h.1)

  unlist : (ls : List Listed) → Pairwise InOrder ls → Pairwise GoesBefore (map (λ (k : Listed). k.1) ls)
  unlist [] h = tt
  unlist (l ∷ ls) h = (unlist_all l ls h.0, unlist ls h.1)

  pub all_in_place : Pairwise GoesBefore (in_create_order lines)
  all_in_place = unlist (makers ++ adjusters) listed_in_order

  -- all operations at the path
  abbrev all : List Operation
  all = operations_of (in_create_order lines) q

  messages_none : has_names q ≡ true → reasons.IsRepeatable all
  messages_none = operations_repeatable lines are distinct repeatable q

  -- before a line that makes an object at the path nothing is done there, where nothing is erased
  module _ (line : Line) (making : Making) (makes : action_of line ≡ Create making) (at : path_in line.path ≡ q) where
    adjusts_none : is_adjusting_line line ≡ false
    adjusts_none = rw makes

    nothing_asked : (first : Line) → GoesBefore first line → list_any is_erasure (parts (operations first q)) ≡ false → operations first q ≡ []
    nothing_asked first goes none = by (asked_at first q)
      where
        two : (is_adjusting_line first ≡ false) × (is_prefix (path_in line.path) (path_in first.path) ≡ false)
        two = goes adjusts_none

        adjust_adjusts : (adjustment : _) → action_of first ≡ Adjust adjustment → is_adjusting_line first ≡ true
        adjust_adjusts adjustment e = rw e

        by : IsAskedAt first q → operations first q ≡ []
        by (object m e s f) = absurd (true_not_false (is_prefix (path_in line.path) (path_in first.path)) (ap (is_prefix (path_in line.path)) (s ∙ sym at) ∙ is_prefix-refl (path_in line.path)) two.1)
        by (parent m e s f) = absurd (true_not_false (is_prefix (path_in line.path) (path_in first.path)) (ap (λ (p : Path). is_prefix p (path_in first.path)) at ∙ s) two.1)
        by (below m e g d f) = impossible (sym none ∙ ap (λ xs. list_any is_erasure (parts xs)) f)
        by (set adjustment e t f) = impossible (sym two.0 ∙ adjust_adjusts adjustment e)
        by (nothing f) = f

    pub nothing_before : (before : List Line) → AllByRecursion (λ first. GoesBefore first line) before → list_any is_erasure (operations_of before q) ≡ false → operations_of before q ≡ []
    nothing_before [] goes none = refl
    nothing_before (first ∷ before) goes none =
        let two = or_parts (list_any is_erasure (parts (operations first q))) (list_any is_erasure (operations_of before q)) (sym (list_any-append is_erasure (parts (operations first q)) (operations_of before q)) ∙ none) in
        ap (λ xs. parts xs ++ operations_of before q) (nothing_asked first goes.0 two.0) ∙ nothing_before before goes.1 two.1

  -- what the lines before it left gives way to the line's own object, so that nothing is as good
  gap_recovers : (before after : List Line) (line : Line) (b : ObjectState) (old : Option ObjectState) → in_create_order lines ≡ before ++ line ∷ after → run (operations_of before q) old ≡ Some b → IsRenewal line q b → run all None ≡ run all old
  gap_recovers before after line b old whole stood renewal = by (list_any is_erasure all) refl
    where
      split : all ≡ operations_of before q ++ (parts (operations line q) ++ operations_of after q)
      split = ap (λ (ls : List Line). operations_of ls q) whole ∙ flat_map-append (λ (l : Line). parts (operations l q)) before (line ∷ after)

      goes : AllByRecursion (λ first. GoesBefore first line) before
      goes = before_one GoesBefore before after line (subst (Pairwise GoesBefore) whole all_in_place)

      is_making : IsMaking renewal.making
      is_making = line_is_making line renewal.making renewal.makes

      own : ObjectState
      own = object_state_of (new_object renewal.making.new 0)

      asks_there : operations line q ≡ first_of renewal.making ∷ renewal.making.sets
      asks_there =
          asked_made line renewal.making q renewal.makes
          ∙ asked_here renewal.making (path_in line.path) q ((same_path-decides (path_in line.path) q).1 renewal.at)

      by : (e : Bool) → list_any is_erasure all ≡ e → run all None ≡ run all old
      by true e = erased-alike all e None old
      by false e =
          let none : operations_of before q ≡ [] = nothing_before line renewal.making renewal.makes renewal.at before goes (or_parts _ _ (sym (list_any-append is_erasure (operations_of before q) (parts (operations line q) ++ operations_of after q)) ∙ ap (list_any is_erasure) (sym split) ∙ e)).0 in
          let is : all ≡ Renew renewal.test own ∷ (parts renewal.making.sets ++ operations_of after q) =
          split ∙ ap (λ xs. xs ++ (parts (operations line q) ++ operations_of after q)) none
          ∙ ap (λ xs. parts xs ++ operations_of after q) (asks_there ∙ ap (λ x. x ∷ renewal.making.sets) (first_renew renewal.making is_making renewal.test renewal.renews)) in
          let here : old ≡ Some b = sym (ap (λ xs. run xs old) none) ∙ stood in
          ap (λ xs. run xs None) is
          ∙ sym (from_the_gap [] (parts renewal.making.sets ++ operations_of after q) renewal.test own b refl renewal.fails)
          ∙ sym (ap (λ xs. run xs (Some b)) is) ∙ sym (ap (run all) here)

  -- from a piece all operations end as from the start, where the path can stand in a tree
  pub piece_recovers : has_names q ≡ true → (old new : Option ObjectState) → IsPiece (in_create_order lines) q old new → run all new ≡ run all old
  piece_recovers named old new (IsPiece.piece k e) = ap (run all) e ∙ absorbed all k old (messages_none named)
  piece_recovers named old new (IsPiece.gap before after line b whole stood renewal none) = ap (run all) none ∙ gap_recovers before after line b old whole stood renewal

-- ---- complete runs

pub all_plain : (lines : List Line) → AllByRecursion IsLine lines → AllByRecursion (λ line. copied (action_of line) ≡ None) lines → AllByRecursion IsPlain lines
all_plain [] are none = tt
all_plain (line ∷ lines) are none = (line_is_plain line are.0 none.0, all_plain lines are.1 none.1)

module _ (lines : List Line) (are : AllByRecursion IsLine lines) (no_copies : AllByRecursion (λ line. copied (action_of line) ≡ None) lines) where
  pub in_order_plain : AllByRecursion IsPlain (in_create_order lines)
  in_order_plain = all_in_order IsPlain lines (all_plain lines are no_copies)

  -- what a complete run that refuses nothing leaves at a path
  pub created_point : (now : ℕ) (t : Files) → IsTree t → RefusesNoLine lines now t → (q : Path) → has_staging q ≡ false
      → object_states_of (places (created lines now t)) q ≡ run (operations_of (in_create_order lines) q) (object_states_of (places t) q)
  created_point now t tree quiet q plain = lines_point now (in_create_order lines) t in_order_plain (tree_shaped (places t) tree) quiet q plain

  -- what it has left on its way is a piece at each path
  pub partway_of_lines : (now : ℕ) (t u : Files) → IsTree t → RefusesNoLine lines now t → PartwayOf (in_create_order lines) now t u → (q : Path) → has_staging q ≡ false
      → IsPiece (in_create_order lines) q (object_states_of (places t) q) (object_states_of (places u) q)
  partway_of_lines now t u tree quiet way = partway_piece (in_create_order lines) now t u in_order_plain (tree_shaped (places t) tree) quiet way

  -- from pieces a complete run leaves what it leaves from the start
  module _ (distinct : are_distinct lines ≡ true) (repeatable : IsRepeatable lines) (now later : ℕ) (t u : Files) (tree : IsTree t) (there : IsTree u) (quiet : RefusesNoLine lines now t) (again : RefusesNoLine lines later u) where
    pub pieces_recover : ((q : Path) → has_staging q ≡ false → IsPiece (in_create_order lines) q (object_states_of (places t) q) (object_states_of (places u) q)) → Same (created lines later u) (created lines now t)
    pieces_recover pieces q plain = object_states-same (places (created lines later u)) (places (created lines now t)) q (
        same_unnamed (object_states_of (places (created lines later u))) (object_states_of (places (created lines now t))) (left later u there) (left now t tree) q plain (λ named.
        created_point later u there again q plain
        ∙ piece_recovers lines are distinct repeatable q named (object_states_of (places t) q) (object_states_of (places u) q) (pieces q plain)
        ∙ sym (created_point now t tree quiet q plain)))
      where
        left : (moment : ℕ) (v : Files) → IsTree v → IsShaped (object_states_of (places (created lines moment v)))
        left moment v is = shape_after moment (in_create_order lines) (all_in_order IsLine lines are) v (tree_shaped (places v) is)
