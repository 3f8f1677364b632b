-- Laws of lines carried out in the order of the create phase.
use Rattle.std.specs.Prelude.{◌≡◌, ℕ, ◌+◌, ◌<◌, true, List, [], ◌∷◌, ◌++◌, length, drop, get_or, Some, is_some, slice_get, Result, OnOk}
use Rattle.std.specs.List.{AllByRecursion, enumerate_from}
use Rattle.std.proofs.Common.{zero, suc, refl, sym, ap, subst, ◌∙◌, arith}
use Rattle.pv_laws.specs.Swept.{LeavesNoStagingName}
use Rattle.pv_laws.proofs.Staged.{run_leaves_none}
use Rattle.pv_lines.specs.Lines.{IsLine}
use Rattle.pv_table.proofs.ListedLaws.{left_of, order_at, same_length, there_of}
use Rattle.pv_lines.specs.declared.line.Line.{Line}
use Rattle.pv_steps.specs.Trees.{Files}
use Rattle.pv_table.specs.Active.{ordered, create_order, in_create_order}
use Rattle.pv_table.specs.Created.{by_line, by_line_that_counts, created}
use Rattle.pv_steps.specs.Doing.{messages_for_each, taken_by_each}
use Rattle.pv_path.proofs.Tests.{on_ok}

-- ---- a refusal that does not count changes nothing else

module _ (now : ℕ) where
  pub counting_says : (lines : List Line) (t : Files) → messages_for_each (by_line_that_counts now) lines t ≡ messages_for_each (by_line now) lines t
  counting_says [] t = refl
  counting_says (line ∷ lines) t = ap (λ new_messages. (by_line now).says line t ++ new_messages) (counting_says lines ((by_line now).after line t))

  pub counting_takes : (lines : List Line) (t : Files) → taken_by_each (by_line_that_counts now) lines t ≡ taken_by_each (by_line now) lines t
  counting_takes [] t = refl
  counting_takes (line ∷ lines) t = ap (λ n. (by_line now).takes line t + n) (counting_takes lines ((by_line now).after line t))

-- ---- the places of the lines

pub order-length : (lines : List Line) → length (create_order lines) ≡ length (in_create_order lines)
order-length lines = same_length (ordered (enumerate_from 0 lines))

-- ---- what holds of all lines

pub of_all : (P : Line → Type 0) (lines : List Line) → AllByRecursion P lines → (place : ℕ) (line : Line) → slice_get lines place ≡ Some line → P line
of_all P [] are place line is = absurd cc
of_all P (x ∷ lines) are zero line is = let same : x ≡ line = cc in subst P same are.0
of_all P (x ∷ lines) are (suc place) line is = of_all P lines are.1 place line is

module _ (lines : List Line) (i place : ℕ) (within : i < length (create_order lines)) (is : place ≡ get_or (create_order lines) i 0) where
  pub is_there : is_some (slice_get lines place) ≡ true
  is_there = there_of lines (ordered (enumerate_from 0 lines)) (order_at lines) i place within is

  pub is_left : (line : Line) → slice_get lines place ≡ Some line → drop i (in_create_order lines) ≡ line ∷ drop (i + 1) (in_create_order lines)
  is_left line at =
      let next : suc i ≡ i + 1 = omega arith in
      left_of lines (ordered (enumerate_from 0 lines)) (order_at lines) i place line within is at ∙ ap (λ n. line ∷ drop n (in_create_order lines)) next

-- ---- what a complete run leaves

-- it leaves nothing at the staging names of what it made
pub none_staged : (lines : List Line) → AllByRecursion IsLine lines → (now : ℕ) (t : Files) → {A E : Type 0} (r : Result A E) (u : Files) → OnOk r (u ≡ created lines now t) → OnOk r (LeavesNoStagingName lines now t u)
none_staged lines are now t r u = on_ok r {X = u ≡ created lines now t} {Y = LeavesNoStagingName lines now t u} (λ left. subst (LeavesNoStagingName lines now t) (sym left) (run_leaves_none lines are now t))
