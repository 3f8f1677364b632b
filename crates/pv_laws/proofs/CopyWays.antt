-- On the way of lines, of which some copy, each path has the kind and the owner that it has before the line at work or
-- after it.
use Rattle.std.specs.Prelude.{◌≡◌, ◌≢◌, ◌⊎◌, ℕ, true, false, List, [], ◌∷◌, take, Option, Some, None, is_some}
use Rattle.std.proofs.Common.{zero, suc, refl, sym, ap, subst, ◌∙◌, inl, inr}
use Rattle.std.specs.FinMap as fin
use Rattle.std.specs.List.{list_all, AllByRecursion}
use Rattle.std.proofs.lemmas.Bool.{or_parts, false_from_ne_true}
use Rattle.pv_path.specs.Paths.{Path, same_path, is_prefix, rest_under, has_staging, same_path-decides}
use Rattle.pv_path.proofs.PathLaws.{is_prefix-antisym, rest_under-self, rest_under-None}
use Rattle.pv_steps.specs.Same.{Same}
use Rattle.pv_steps.specs.Trees.{Files, places, IsTree}
use Rattle.pv_walk.specs.declared.object_state.ObjectState.{ObjectState}
use Rattle.pv_walk.specs.Dividing.{parts}
use Rattle.pv_walk.specs.Nodes.{object_states_of}
use Rattle.pv_walk.specs.Operations.{run}
use Rattle.pv_walk.proofs.Dividing.{run-parts}
use Rattle.pv_walk.proofs.EditLaws.{path_cases}
use Rattle.pv_walk.proofs.OperationLaws.{object_states_of-same}
use Rattle.pv_lines.specs.declared.line.Line.{Line}
use Rattle.pv_lines.specs.Lines.{IsLine}
use Rattle.pv_table.specs.declared.action.Copying.{Copying}
use Rattle.pv_table.specs.declared.action.Action.{Action}
use Rattle.pv_table.specs.declared.action.Action.TheVariants.{Copy}
use Rattle.pv_table.specs.Active.{in_create_order}
use Rattle.pv_table.specs.ActionTable.{action_of}
use Rattle.pv_table.specs.Created.{by_turn, by_line, created, RefusesNoLine}
use Rattle.pv_steps.specs.Doing.{after_each, one_is_refused}
use Rattle.pv_table.specs.Effects.{carried_out}
use Rattle.pv_table.specs.Pointwise.{ObjectStates, view, after_turn, state}
use Rattle.pv_table.specs.Reaching.{path_in}
use Rattle.pv_table.specs.Repeatable.{IsAt, IsRepeatable, sets_of}
use Rattle.pv_table.specs.Turns.{Turn, decide, refused_at}
use Rattle.pv_laws.specs.Between.{IsOnTheWay}
use Rattle.pv_laws.specs.Copying.{IsCopyMidway, kept, parent, some_set, gone, turn_of, OnWayOf, copy_before, copy_done, other, PartwayOf}
use Rattle.pv_laws.specs.Moments.{Agree}
use Rattle.pv_laws.specs.Stopping.{CopiesNothing}
use Rattle.pv_laws.proofs.AllPoints.{IsSafe, line_pointed, turns_copy, copy_passes, state_after, state_whole, plain_safe, all_safe}
use Rattle.pv_laws.proofs.Copies.{left_before, decided_before, decide_agrees}
use Rattle.pv_laws.proofs.CopyShapes.{at_outside}
use Rattle.pv_laws.proofs.Lines.{line_is_plain, line_point, copy_path, copy_source}
use Rattle.pv_laws.proofs.Making.{is_dir, IsShaped, nothing_under}
use Rattle.pv_laws.proofs.Prepared.{object_state_some, filled, with_some}
use Rattle.pv_laws.proofs.Sets.{is_adjustment, adjusted_none, asked, sets_adjust}
use Rattle.pv_laws.proofs.Shapes.{tree_shaped}
use Rattle.pv_laws.proofs.Adjustment.{turn_open, first_turn}
use Rattle.pv_laws.proofs.Ways.{SetsOwnerOnce, sets_once, all_take, parts_adjust, IsAmid, absent, gap, amid_between, at_start, at_end, set_between, midway_between}
use Rattle.pv_path.proofs.Tests.{true_not_false}

-- ---- one line at work

module _ (now : ℕ) (line : Line) (safe : IsSafe line) (t : Files) (shape : IsShaped (object_states_of (places t))) (quiet : (by_line now).is_refused line t ≡ false) (q : Path) (plain : has_staging q ≡ false) where
  abbrev old : Option ObjectState
  old = object_states_of (places t) q

  abbrev next : Option ObjectState
  next = object_states_of (places ((by_line now).after line t)) q

  module _ (copying : Copying) (e : action_of line ≡ Copy copying) (b : ObjectState) (present : object_states_of (places t) copying.source ≡ Some b) where
    abbrev path : Path
    path = path_in line.path

    abbrev pub unstaged : has_staging path ≡ false
    unstaged = (copy_path line safe.is copying e).0

    abbrev pub plain_source : has_staging copying.source ≡ false
    plain_source = copy_source line safe.is copying e

    pub adjust : list_all is_adjustment copying.sets ≡ true
    adjust = subst (λ d. list_all is_adjustment (sets_of d) ≡ true) e (sets_adjust line (action_of line) (asked line))

    once : SetsOwnerOnce (parts copying.sets)
    once = subst (λ d. SetsOwnerOnce (parts (sets_of d))) e (sets_once line (action_of line) (asked line))

    pub open_path : refused_at line path (places t) ≡ None
    open_path = (first_turn now line path [] t (ap (λ paths. one_is_refused (by_turn now line) paths t) (sym (turns_copy line copying t e)) ∙ quiet)).0

    carried : next ≡ object_states_of (places (carried_out now (Copy copying) path t)) q
    carried =
        ap (λ paths. object_states_of (places (after_each (by_turn now line) paths t)) q) (turns_copy line copying t e)
        ∙ ap (λ (v : Files). object_states_of (places v) q) (turn_open now line path t open_path ∙ ap (λ (d : Action). carried_out now d path t) e)

    -- what comes, by where a path lies
    pub comes_inside : (rest : Path) → rest_under path q ≡ Some rest → (turn : Turn) → turn_of line copying now t ≡ turn → next ≡ after_turn turn rest old
    comes_inside rest under turn f =
        carried ∙ left_before now copying adjust path unstaged plain_source t shape b present (safe.away copying e) q rest plain under
        ∙ ap (λ x. after_turn x rest old) (sym (decided_before now copying adjust path unstaged plain_source t shape b present (safe.away copying e)) ∙ f)

    pub comes_above : is_prefix q path ≡ true → q ≢ path → next ≡ filled true old
    comes_above high differ =
        carried
        ∙ at_outside now copying adjust path unstaged plain_source t shape b present (copy_path line safe.is copying e).1
        (copy_passes line copying e t open_path (sym (object_state_some (places t copying.source)) ∙ ap is_some present)) q plain (rest_under-None path q (false_from_ne_true _ (λ f. differ (is_prefix-antisym q path high f))))
        ∙ ap (λ c. filled c old) high

    -- nothing stands at or below a path where nothing stands
    nothing_below : is_prefix path q ≡ true → object_states_of (places t) path ≡ None → old ≡ None
    nothing_below low none = elim (path_cases path q) [
      | inl same ↦ ap (object_states_of (places t)) (sym same) ∙ none
      | inr d ↦ nothing_under (object_states_of (places t)) shape path q plain low (λ same. true_not_false (same_path path q) ((same_path-decides path q).1 same) d) (ap is_dir none)
    ]

  module _ (s : ObjectStates) (agree : Agree s t) (u : Files) where
    abbrev here : Option ObjectState
    here = object_states_of (places u) q

    copy_amid : (copying : Copying) → action_of line ≡ Copy copying → (b : ObjectState) → object_states_of (places t) copying.source ≡ Some b → IsCopyMidway (path_in line.path) copying (turn_of line copying now t) q old here → IsAmid line s q old next here
    copy_amid copying e b present (kept f) = at_start line s q old next here f
    copy_amid copying e b present (parent high differ none f) = at_end line s q old next here (f ∙ sym (comes_above copying e b present high differ ∙ ap (filled true) none))
    copy_amid copying e b present (some_set k same turn f) = by old refl
      where
        comes : next ≡ run copying.sets old
        comes = comes_inside copying e b present [] (ap (rest_under (path_in line.path)) same ∙ rest_under-self (path_in line.path)) (Turn.Become copying.sets) turn

        by : (o : Option ObjectState) → old ≡ o → IsAmid line s q old next here
        by None g = at_start line s q old next here (
            f ∙ ap (run (take k (parts copying.sets))) g
            ∙ adjusted_none (take k (parts copying.sets)) (all_take is_adjustment k (parts copying.sets) (parts_adjust copying.sets (adjust copying e b present))) ∙ sym g)
        by (Some x) g = set_between line s q (parts copying.sets) (parts_adjust copying.sets (adjust copying e b present)) (once copying e b present) k old next here x (inl g)
            (comes ∙ ap (run copying.sets) g ∙ sym (run-parts copying.sets (Some x))) (f ∙ ap (run (take k (parts copying.sets))) g)
    copy_amid copying e b present (gone subtree low turn f) = by (fin.get s (path_in line.path)) refl
      where
        by : (o : Option ObjectState) → fin.get s (path_in line.path) ≡ o → IsAmid line s q old next here
        by None g = absent f (inl (nothing_below copying e b present low (sym (agree (path_in line.path) (unstaged copying e b present)) ∙ g)))
        by (Some x) g = gap (path_in line.path) f low (record {
          object = x;
          subtree = subtree;
          at = refl;
          there = g;
          puts =
              ap (λ action. decide action (view s) (path_in line.path)) e
              ∙ decide_agrees now copying (adjust copying e b present) (path_in line.path) (unstaged copying e b present) (plain_source copying e b present) t shape b present (safe.away copying e) s agree ∙ turn;
        })

    pub way_amid : OnWayOf line now t u → IsAmid line s q old next here
    way_amid (copy_before copying e before) = with_some (object_states_of (places t) copying.source) (object_state_some (places t copying.source) ∙ before.0) (λ b f. copy_amid copying e b f (before.1 q plain))
    way_amid (copy_done copying e whole) = at_end line s q old next here (sym (object_states_of-same (places ((by_line now).after line t)) (places u) q (whole q plain)))
    way_amid (other none way) = subst (λ (c : Option ObjectState). IsAmid line s q old c here) (sym ((line_point now line (line_is_plain line safe.is none) t shape quiet).point q plain))
        (midway_between line s q old here (agree q plain) (way q plain))

-- ---- the line at work

-- a line at its turn, after the first k
record IsReached (now : ℕ) (lines : List Line) (t : Files) (k : ℕ) (line : Line) : Type 0 where
  pub safe : IsSafe line
  pub shape : IsShaped (object_states_of (places (after_each (by_line now) (take k lines) t)))
  pub quiet : (by_line now).is_refused line (after_each (by_line now) (take k lines) t) ≡ false
  pub after : after_each (by_line now) (take (suc k) lines) t ≡ (by_line now).after line (after_each (by_line now) (take k lines) t)

module _ (now : ℕ) where
  partway_at : (lines : List Line) (t u : Files) → PartwayOf lines now t u
      → Same (after_each (by_line now) lines t) u ⊎ ((k : ℕ) × (line : Line) × IsAt lines k line × OnWayOf line now (after_each (by_line now) (take k lines) t) u)
  partway_at [] t u same = inl same
  partway_at (line ∷ lines) t u (inl way) = inr (zero, line, refl, way)
  partway_at (line ∷ lines) t u (inr later) = by (partway_at lines ((by_line now).after line t) u later)
    where
      by : Same (after_each (by_line now) lines ((by_line now).after line t)) u ⊎ ((k : ℕ) × (l : Line) × IsAt lines k l × OnWayOf l now (after_each (by_line now) (take k lines) ((by_line now).after line t)) u)
          → Same (after_each (by_line now) (line ∷ lines) t) u ⊎ ((k : ℕ) × (l : Line) × IsAt (line ∷ lines) k l × OnWayOf l now (after_each (by_line now) (take k (line ∷ lines)) t) u)
      by (inl same) = inl same
      by (inr found) = inr (suc found.0, found.1, found.2, found.3)

  reached : (lines : List Line) (t : Files) → AllByRecursion IsSafe lines → IsShaped (object_states_of (places t)) → one_is_refused (by_line now) lines t ≡ false → (k : ℕ) (line : Line) → IsAt lines k line → IsReached now lines t k line
  reached [] t safe shape quiet k line at = absurd (let no : None ≡ Some line = at in cc)
  reached (first ∷ lines) t safe shape quiet k line at = by k at (λ n later. reached lines ((by_line now).after first t) safe.1 (line_pointed now first safe.0 t shape two.0).shape two.1 n line later)
    where
      two : ((by_line now).is_refused first t ≡ false) × (one_is_refused (by_line now) lines ((by_line now).after first t) ≡ false)
      two = or_parts ((by_line now).is_refused first t) (one_is_refused (by_line now) lines ((by_line now).after first t)) quiet

      same : Some first ≡ Some line → first ≡ line
      same e = cc

      by : (n : ℕ) → IsAt (first ∷ lines) n line → ((m : ℕ) → IsAt lines m line → IsReached now lines ((by_line now).after first t) m line) → IsReached now (first ∷ lines) t n line
      by zero e rest = subst (IsReached now (first ∷ lines) t zero) (same e) (record { safe = safe.0; shape = shape; quiet = two.0; after = refl })
      by (suc n) e rest = let one = rest n e in record { safe = one.safe; shape = one.shape; quiet = one.quiet; after = one.after }

-- ---- the run

module _ (lines : List Line) (now : ℕ) (s : ObjectStates) (t u : Files) (tree : IsTree t) (quiet : RefusesNoLine lines now t) (agree : Agree s t) where
  safe_on_the_way : AllByRecursion IsSafe (in_create_order lines) → PartwayOf (in_create_order lines) now t u → IsOnTheWay lines s u
  safe_on_the_way safe way = by (partway_at now (in_create_order lines) t u way)
    where
      after : (k : ℕ) → Agree (state lines k s) (after_each (by_line now) (take k (in_create_order lines)) t)
      after k = state_after lines safe now s t tree quiet agree k

      by : Same (created lines now t) u ⊎ ((k : ℕ) × (line : Line) × IsAt (in_create_order lines) k line × OnWayOf line now (after_each (by_line now) (take k (in_create_order lines)) t) u) → IsOnTheWay lines s u
      by (inl same) = inl (λ q plain.
          state_whole lines safe now s t tree quiet agree q plain ∙ object_states_of-same (places (created lines now t)) (places u) q (same q plain))
      by (inr found) = let one = reached now (in_create_order lines) t safe (tree_shaped (places t) tree) quiet found.0 found.1 found.2 in inr (record {
        k = found.0;
        line = found.1;
        at = found.2;
        between = λ q plain.
            amid_between found.1 (state lines found.0 s) q (state lines (suc found.0) s)
            (object_states_of (places (after_each (by_line now) (take found.0 (in_create_order lines)) t)) q)
            (object_states_of (places ((by_line now).after found.1 (after_each (by_line now) (take found.0 (in_create_order lines)) t))) q)
            (object_states_of (places u) q) (after found.0 q plain) (after (suc found.0) q plain ∙ ap (λ (v : Files). object_states_of (places v) q) one.after)
            (way_amid now found.1 one.safe (after_each (by_line now) (take found.0 (in_create_order lines)) t) one.shape one.quiet q plain (state lines found.0 s) (after found.0) u found.3);
      })

  -- if no line has a hazard
  pub copies_on_the_way : AllByRecursion IsLine lines → IsRepeatable lines → PartwayOf (in_create_order lines) now t u → IsOnTheWay lines s u
  copies_on_the_way are repeatable way = safe_on_the_way (all_safe lines are repeatable) way

  -- and where none copies
  pub on_the_way : AllByRecursion IsLine lines → AllByRecursion CopiesNothing lines → PartwayOf (in_create_order lines) now t u → IsOnTheWay lines s u
  on_the_way are none way = safe_on_the_way (plain_safe lines are none) way
