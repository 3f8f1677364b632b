-- Laws of one line at its turn, at each path at which it is carried out: one that adjusts what is there neither adds nor takes
-- away paths, so that the list made first stays right.
use Rattle.std.specs.Prelude.{◌≡◌, ℕ, ◌+◌, ◌≤◌, ◌<◌, Bool, ◌||◌, List, [], ◌∷◌, length, drop, get_or, Result, Ok, Err, IsErrAnd, is_some}
use Rattle.std.proofs.Common.{zero, suc, refl, sym, ap, subst, ◌∙◌, arith}
use Rattle.pv_create.proofs.NamedLaws.{named_turns, stands_named, turn_keeps}
use Rattle.pv_steps.specs.Courses.{each_of, carried_of, CarriesOut}
use Rattle.pv_steps.specs.declared.carried.Carried.{Carried}
use Rattle.pv_steps.specs.declared.carried.Carried.TheVariants.{Whole}
use Rattle.pv_steps.proofs.CarryingLaws.{carried_none, Underway, underway_start, underway_failed, underway_next, underway_end}
use Rattle.pv_steps.proofs.CourseLaws.{cut_start, none_left, partway_start, single_start}
use Rattle.pv_lines.specs.declared.line.Line.{Line}
use Rattle.pv_create.specs.Actions.{IsTurn}
use Rattle.pv_create.specs.OnTheWay.{plain_course, turn_course, LineWay, LineCut, line_course}
use Rattle.pv_create.proofs.TurnLaws.{turn_start}
use Rattle.pv_path.specs.Paths.{Path}
use Rattle.pv_path.proofs.Tests.{next_item}
use Rattle.pv_steps.specs.declared.tree.Tree.{Ghosts}
use Rattle.pv_steps.specs.declared.tree.TreeFault.{TreeFault}
use Rattle.pv_steps.specs.declared.tree.TreeFault.TheVariants.{Memory}
use Rattle.pv_steps.specs.Trees.{Files, places}
use Rattle.pv_steps.proofs.ActingLaws.{Moves}
use Rattle.pv_table.specs.declared.action.Action.{Action}
use Rattle.pv_table.specs.declared.action.Action.TheVariants.{Create, Copy, Adjust, Idle}
use Rattle.pv_table.specs.declared.action.Adjustment.{Adjustment}
use Rattle.pv_table.specs.ActionTable.{action_of}
use Rattle.pv_table.specs.Effects.{turns}
use Rattle.pv_table.specs.Reaching.{path_in}
use Rattle.pv_create.proofs.LineWays.{making_turns, copying_turns, idle_turns}

-- ---- nothing is done yet

pub line_start : (now : ℕ) (line : Line) (t : Files) → LineWay now line t t
line_start now line t = partway_start (turn_course now line) (turn_start now line) (turns line t) t

pub line_begun : (now : ℕ) (line : Line) (t : Files) → LineCut now 0 line t [] []
line_begun now line t =
    cut_start (turn_course now line) now
    (λ x u. record { at_work = single_start (plain_course now line) (λ moment refused y v done new_messages work. work) now x u (turn_start now line x u); told = λ none one. absurd (omega (arith, one)) }) (turns line t) t

-- a call that gives up before anything is done
pub line_none : {S : Type 0} (tree : Ghosts S) → Moves tree → (now : ℕ) (line : Line) (a : S) (old : List (List ℕ)) (r : Result Carried TreeFault) → IsErrAnd r (λ e. e ≡ Memory)
    → CarriesOut tree (line_course now) line now a a old old r
line_none tree moves now line a old r memory = carried_none tree (line_course now) line now a old moves (line_start now line (tree.state a)) (line_begun now line (tree.state a)) old refl r memory

-- ---- one path after the other

one_item : (p at : Path) (i : ℕ) → i < 1 → get_or (p ∷ []) i at ≡ p
one_item p at zero lt = refl
one_item p at (suc i) lt = absurd (omega (arith, lt))

-- some of the paths are done, and each path that was there is there where the line only adjusts
pub record OnLine {S : Type 0} (tree : Ghosts S) (now : ℕ) (line : Line) (items left : List Path) (carried : Carried) (a b : S) (old new : List (List ℕ)) : Type 0 where
  pub under : Underway tree (turn_course now line) items left now carried a b old new
  pub standing : (adjustment : Adjustment) → action_of line ≡ Adjust adjustment → (q : Path) → is_some (places (tree.state b) q) ≡ is_some (places (tree.state a) q)

module _ {S : Type 0} (tree : Ghosts S) (moves : Moves tree) (now : ℕ) (line : Line) (items : List Path) (a : S) (are : items ≡ turns line (tree.state a)) (old : List (List ℕ)) where
  pub turns_start : OnLine tree now line items items Whole a a old old
  turns_start = record { under = underway_start tree moves (turn_course now line) (turn_start now line) items now a old; standing = λ adjustment e q. refl }

  module _ (i : ℕ) (at : Path) (lt : i < length items) (is : at ≡ get_or items i at) (carried : Carried) (b : S) (mid : List (List ℕ)) (on : OnLine tree now line items (drop i items) carried a b old mid) where
    own_path : items ≡ path_in line.path ∷ [] → at ≡ path_in line.path
    own_path one =
        is ∙ ap (λ (xs : List Path). get_or xs i at) one
        ∙ one_item (path_in line.path) at i (subst (λ (xs : List Path). i < length xs) one lt)

    -- the next path is one at which the line is carried out
    pub turn_now : (action : Action) → action_of line ≡ action → IsTurn action line at (tree.state b)
    turn_now (Create making) e = own_path (are ∙ making_turns line making e (tree.state a))
    turn_now (Copy copying) e = own_path (are ∙ copying_turns line copying e (tree.state a))
    turn_now (Adjust adjustment) e =
        let named = stands_named line (tree.state a) items (are ∙ sym (named_turns line adjustment e (tree.state a))) i at lt is in
        (named.0, on.standing adjustment e at ∙ named.1)
    turn_now Idle e = omega (arith, lt, ap length (are ∙ idle_turns line e (tree.state a)))

    -- one more path, at which it failed
    pub turns_failed : (d : S) (new : List (List ℕ)) {e : TreeFault} (q r : Result Carried TreeFault) → q ≡ Err e → IsErrAnd r (λ y. y ≡ e) → CarriesOut tree (turn_course now line) at now b d mid new q
        → CarriesOut tree (each_of (turn_course now line)) (turns line (tree.state a)) now a d old new r
    turns_failed d new q r was passed one =
        subst (λ (all : List Path). CarriesOut tree (each_of (turn_course now line)) all now a d old new r) are
        (underway_failed tree moves (turn_course now line) (turn_start now line) items now a old (drop i items) (drop (i + 1) items) at (next_item items i at lt is) carried b mid on.under d new q r was passed one)

    -- and when it is done
    pub turns_next : (d : S) (new : List (List ℕ)) (one ended : Carried) → CarriesOut tree (turn_course now line) at now b d mid new (Ok one)
        → ((p q : Bool) → carried ≡ carried_of p → one ≡ carried_of q → ended ≡ carried_of (p || q)) → OnLine tree now line items (drop (i + 1) items) ended a d old new
    turns_next d new one ended done both = record {
      under = underway_next tree moves (turn_course now line) (turn_start now line) items now a old (drop i items) (drop (i + 1) items) at (next_item items i at lt is) carried b mid on.under d new one ended done both;
      standing = λ adjustment e q. ap (λ f. is_some (places f q)) done.ok ∙ turn_keeps now line adjustment e at (tree.state b) q ∙ on.standing adjustment e q;
    }

  pub turns_end : (i : ℕ) → length items ≤ i → (carried : Carried) (b : S) (new : List (List ℕ)) → OnLine tree now line items (drop i items) carried a b old new
      → CarriesOut tree (each_of (turn_course now line)) (turns line (tree.state a)) now a b old new (Ok carried)
  turns_end i past carried b new on =
      subst (λ (all : List Path). CarriesOut tree (each_of (turn_course now line)) all now a b old new (Ok carried)) are
      (underway_end tree moves (turn_course now line) (turn_start now line) items now a old (drop i items) (none_left items i past) carried b new on.under)

-- the line at all its paths is the line
pub by_turns : {S : Type 0} (tree : Ghosts S) (now : ℕ) (line : Line) (a b : S) (old new : List (List ℕ)) (r : Result Carried TreeFault)
    → CarriesOut tree (each_of (turn_course now line)) (turns line (tree.state a)) now a b old new r → CarriesOut tree (line_course now) line now a b old new r
by_turns tree now line a b old new r done = record { ok = done.ok; new_messages = done.new_messages; carried = done.carried; part = done.part; acted = done.acted; went = done.went }
