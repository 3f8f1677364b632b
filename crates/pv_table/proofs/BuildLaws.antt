-- Lines are taken one after another, with what is said of those that are dropped.
use Rattle.std.proofs.Common.{◌≡◌, ◌∙◌, sym, ap, append_assoc}
use Rattle.std.specs.Prelude.{ℕ, Bool, true, cond, List, ◌∷◌, ◌++◌, length, take, filter, fold, Option}
use Rattle.std.proofs.Math.Seq.{take-append_seam}
use Rattle.pv_lines.specs.declared.line.Line.{Line}
use Rattle.pv_path.specs.Paths.{Path}
use Rattle.pv_text.specs.GivenMessages.{MessagesPart}
use Rattle.pv_table.specs.Active.{active, dropped_messages, duplicates, line_message, stays, with_line}

-- of all lines some are taken, and the rest is left; what is said of those that are taken has been said
pub record Underway (boot : Bool) (prefix exclude : Option Path) (all rest table : List Line) (new_messages stated : List (List ℕ)) : Type 0 where
  pub done : List (List ℕ)
  pub told_so : stated ≡ new_messages ++ done
  pub messages : done ++ dropped_messages table (filter (stays boot prefix exclude) rest) ≡ duplicates boot prefix exclude all
  pub lines : fold with_line table (filter (stays boot prefix exclude) rest) ≡ active boot prefix exclude all

module _ (boot : Bool) (prefix exclude : Option Path) (all : List Line) (new_messages : List (List ℕ)) where
  -- a line that passes the filters
  pub underway_kept : (rest more table new : List Line) (line : Line) (stated after : List (List ℕ)) → Underway boot prefix exclude all rest table new_messages stated → rest ≡ line ∷ more → stays boot prefix exclude line ≡ true
      → new ≡ with_line table line → after ≡ stated ++ line_message table line → Underway boot prefix exclude all more new new_messages after
  underway_kept rest more table new line stated after u cut passes kept told_more =
      let next : filter (stays boot prefix exclude) rest ≡ line ∷ filter (stays boot prefix exclude) more =
      ap (filter (stays boot prefix exclude)) cut ∙ ap (λ (b : Bool). cond b (line ∷ filter (stays boot prefix exclude) more) (filter (stays boot prefix exclude) more)) passes
      in
      record {
        done = u.done ++ line_message table line;
        told_so = told_more ∙ ap (λ (s : List (List ℕ)). s ++ line_message table line) u.told_so ∙ append_assoc new_messages u.done (line_message table line);
        messages = append_assoc u.done (line_message table line) (dropped_messages new (filter (stays boot prefix exclude) more))
            ∙ ap (λ (ls : List Line). u.done ++ (line_message table line ++ dropped_messages ls (filter (stays boot prefix exclude) more))) kept
            ∙ ap (λ (ls : List Line). u.done ++ dropped_messages table ls) (sym next)
            ∙ u.messages;
        lines = ap (λ (ls : List Line). fold with_line ls (filter (stays boot prefix exclude) more)) kept ∙ ap (fold with_line table) (sym next) ∙ u.lines;
      }

  -- what has been said is a part of what is to be said
  pub underway_part : (rest table : List Line) (stated : List (List ℕ)) → Underway boot prefix exclude all rest table new_messages stated → MessagesPart (duplicates boot prefix exclude all) new_messages stated
  underway_part rest table stated u = (
    length u.done,
    u.told_so
        ∙ ap (λ (r : List (List ℕ)). new_messages ++ r)
        (sym (take-append_seam u.done (dropped_messages table (filter (stays boot prefix exclude) rest))) ∙ ap (take (length u.done)) u.messages),
  )
