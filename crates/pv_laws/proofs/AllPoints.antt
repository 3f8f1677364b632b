-- The definition of what lines leave at each path by itself gives what they leave, lines that copy among them.
use Rattle.std.specs.Prelude.{◌≡◌, ◌≢◌, ℕ, Bool, true, false, not, cond, ◌&&◌, List, [], ◌∷◌, ◌++◌, length, map, take, fold, Option, Some, None, is_some, option_map, unwrap_or}
use Rattle.std.proofs.Common.{refl, sym, arith, ap, subst, ◌∙◌, append_assoc}
use Rattle.std.proofs.lemmas.List.{append-nil, take_all}
use Rattle.std.specs.FinMap as fin
use Rattle.std.specs.List.{list_all, filter_map, enumerate_from, AllByRecursion}
use Rattle.std.specs.Option.{option_map_or, option_or}
use Rattle.std.proofs.lemmas.Bool.{or_left, or_parts, false_from_ne_true}
use Rattle.pv_path.specs.Paths.{Path, same_path, is_prefix, rest_under, has_staging, same_path-decides}
use Rattle.pv_path.proofs.PathLaws.{rest_under-Some, same_path-refl}
use Rattle.pv_steps.specs.declared.why.Why.{Why}
use Rattle.pv_steps.specs.Refusal.{refusal}
use Rattle.pv_steps.specs.Trees.{Files, places, IsTree}
use Rattle.pv_steps.proofs.StepLaws.{is_among, among_right, among_left, later_among}
use Rattle.pv_walk.specs.declared.object_state.ObjectState.{ObjectState}
use Rattle.pv_walk.specs.Nodes.{object_states_of}
use Rattle.pv_walk.specs.Operations.{run}
use Rattle.pv_lines.specs.declared.line.Line.{Line}
use Rattle.pv_lines.specs.declared.line.LinePath.{LinePath}
use Rattle.pv_lines.specs.Lines.{IsLine}
use Rattle.pv_walk.proofs.PreparingSweep.{unrefused_pass}
use Rattle.pv_walk.specs.Preparing.{parents_of}
use Rattle.pv_table.specs.declared.action.Copying.{Copying}
use Rattle.pv_table.specs.declared.action.Action.{Action}
use Rattle.pv_table.specs.declared.action.Action.TheVariants.{Copy}
use Rattle.pv_table.specs.declared.reason.Reason.TheVariants as reason
use Rattle.pv_table.specs.Active.{Listed, ordered, in_create_order}
use Rattle.pv_table.specs.Asked.{operations}
use Rattle.pv_table.specs.ActionTable.{action_of}
use Rattle.pv_table.specs.Created.{by_turn, by_line, created, RefusesNoLine}
use Rattle.pv_steps.specs.Doing.{after_each, one_is_refused}
use Rattle.pv_table.specs.Effects.{turned, prepare, carried_out, turn_after, turns}
use Rattle.pv_table.specs.Pointwise.{ObjectStates, view, parent_object_state, after_turn, at_made, point, point_paths, pointwise_after, state}
use Rattle.pv_table.specs.Reaching.{names, path_in, reaches, governs}
use Rattle.pv_table.specs.Repeatable.{HasReason, IsRepeatable, sets_of}
use Rattle.pv_table.specs.Turns.{Refused, Turn, view_of, source_refusal, copied, copy_of, copying_turn, owner_made, refused_at, decide}
use Rattle.pv_laws.specs.Moments.{Agree}
use Rattle.pv_laws.specs.Stopping.{CopiesNothing}
use Rattle.pv_walk.proofs.CopiedLaws.{among_copied}
use Rattle.pv_laws.proofs.Copies.{decide_some, copied_point}
use Rattle.pv_laws.proofs.CopyShapes.{IsCopyTurn, puts, becomes, leaves, copy_turns, copied_shaped}
use Rattle.pv_laws.proofs.Lines.{path_named, line_is_plain, line_point, copy_literal, copy_path, copy_source, copies_or_not}
use Rattle.pv_laws.proofs.Making.{is_dir, IsShaped, dir_there}
use Rattle.pv_table.proofs.ListedLaws.{all_ordered, all_in_order}
use Rattle.pv_laws.proofs.Points.{get-tabulated, point_asked, listed, quiet_front}
use Rattle.pv_laws.proofs.Prepared.{object_state_some}
use Rattle.pv_walk.proofs.PreparedLaws.{has_some, in_parents, among_first, stands_among}
use Rattle.pv_laws.proofs.Sets.{impossible, is_adjustment, asked, sets_adjust}
use Rattle.pv_laws.proofs.Repeated.{IsListed, all_at_places}
use Rattle.pv_laws.proofs.Shapes.{kind_dir, shape_same, tree_shaped}
use Rattle.pv_laws.proofs.Adjustment.{turn_open, first_turn}
use Rattle.pv_path.proofs.Tests.{true_not_false, all_take}

-- a line that was read; if it copies, its source does not lie above its path, nor at it
pub record IsSafe (line : Line) : Type 0 where
  pub is : IsLine line
  pub away : (copying : Copying) → action_of line ≡ Copy copying → is_prefix copying.source (path_in line.path) ≡ false

-- what a line leaves has the shape, and is at each path what the definition gives, from any map that agrees
pub record IsPointed (line : Line) (t u : Files) : Type 0 where
  pub point : (s : ObjectStates) → Agree s t → (q : Path) → has_staging q ≡ false → object_states_of (places u) q ≡ point line s q
  pub shape : IsShaped (object_states_of (places u))

-- ---- a line that copies

point_copy : (line : Line) (copying : Copying) (s : ObjectStates) (q : Path) → action_of line ≡ Copy copying → point line s q ≡ cond (is_some (fin.get s copying.source)) (at_made (Copy copying) (path_in line.path) s q) (fin.get s q)
point_copy line copying s q e = rw e

pub turns_copy : (line : Line) (copying : Copying) (t : Files) → action_of line ≡ Copy copying → turns line t ≡ path_in line.path ∷ []
turns_copy line copying t e = rw e

paths_copy : (line : Line) (copying : Copying) (s : ObjectStates) → action_of line ≡ Copy copying
    → point_paths line s ≡ path_in line.path ∷ (parents_of (path_in line.path) ++ map (λ rest. path_in line.path ++ rest) (filter_map (rest_under copying.source) (fin.keys s)))
paths_copy line copying s e = rw e

-- a copy of what is absent does nothing
pub copy_idle : (now : ℕ) (copying : Copying) (path : Path) (t : Files) → is_some (places t copying.source) ≡ false → carried_out now (Copy copying) path t ≡ t
copy_idle now copying path t none = ap (λ b. cond b (turned now (Copy copying) path (decide (Copy copying) (view_of (prepare now path t)) path) (prepare now path t)) t) none

or_second : {A : Type 0} (a b : Option A) → option_or a b ≡ None → b ≡ None
or_second a b e = grind arith

module _ (line : Line) (copying : Copying) (e : action_of line ≡ Copy copying) (t : Files) (free : refused_at line (path_in line.path) (places t) ≡ None) (there : is_some (places t copying.source) ≡ true) where
  copy_refusal : refusal (places t) (path_in line.path) (owner_made line (places t)) ≡ None
  copy_refusal = by (refusal (places t) (path_in line.path) (owner_made line (places t))) refl
    where
      named : Option (ℕ × Why) → Option Refused
      named r = option_map (λ (place : ℕ × Why). Refused.named (path_in line.path) place.0 place.1) r

      shown : refused_at line (path_in line.path) (places t)
          ≡ option_or (option_map (λ (place : ℕ × Why). Refused.source copying.source place.0 place.1) (source_refusal (places t) copying.source))
          (cond (is_some (places t copying.source)) (option_map (λ (place : ℕ × Why). Refused.named (path_in line.path) place.0 place.1) (refusal (places t) (path_in line.path) (owner_made line (places t)))) None)
      shown = rw e

      last : option_map (λ (place : ℕ × Why). Refused.named (path_in line.path) place.0 place.1) (refusal (places t) (path_in line.path) (owner_made line (places t))) ≡ None
      last = sym (ap (λ b. cond b (option_map (λ (place : ℕ × Why). Refused.named (path_in line.path) place.0 place.1) (refusal (places t) (path_in line.path) (owner_made line (places t)))) None) there)
          ∙ or_second (option_map (λ (place : ℕ × Why). Refused.source copying.source place.0 place.1) (source_refusal (places t) copying.source)) _ (sym shown ∙ free)

      by : (r : Option (ℕ × Why)) → refusal (places t) (path_in line.path) (owner_made line (places t)) ≡ r → r ≡ None
      by None f = refl
      by (Some place) f = absurd (let no : Some (Refused.named (path_in line.path) place.0 place.1) ≡ None = sym (ap (option_map (λ (p : ℕ × Why). Refused.named (path_in line.path) p.0 p.1)) f) ∙ last in cc)

  pub copy_passes : (p : Path) → is_prefix p (path_in line.path) ≡ true → p ≢ path_in line.path → is_some (object_states_of (places t) p) ≡ true → is_dir (object_states_of (places t) p) ≡ true
  copy_passes p high other h = kind_dir (places t p) (unrefused_pass (path_in line.path) (owner_made line (places t)) t copy_refusal p (high, other) (sym (object_state_some (places t p)) ∙ h))

module _ (now : ℕ) (line : Line) (safe : IsSafe line) (t : Files) (shape : IsShaped (object_states_of (places t))) where
  copy_pointed : (copying : Copying) → action_of line ≡ Copy copying → one_is_refused (by_turn now line) (path_in line.path ∷ []) t ≡ false → IsPointed line t (turn_after now line (path_in line.path) t)
  copy_pointed copying e quiet = by (object_states_of (places t) copying.source) refl
    where
      free : refused_at line (path_in line.path) (places t) ≡ None
      free = (first_turn now line (path_in line.path) [] t quiet).0

      opened : turn_after now line (path_in line.path) t ≡ carried_out now (Copy copying) (path_in line.path) t
      opened = turn_open now line (path_in line.path) t free ∙ ap (λ (d : Action). carried_out now d (path_in line.path) t) e

      adjust : list_all is_adjustment copying.sets ≡ true
      adjust = subst (λ d. list_all is_adjustment (sets_of d) ≡ true) e (sets_adjust line (action_of line) (asked line))

      plain_path : has_staging (path_in line.path) ≡ false
      plain_path = (copy_path line safe.is copying e).0

      plain_source : has_staging copying.source ≡ false
      plain_source = copy_source line safe.is copying e

      by : (b : Option ObjectState) → object_states_of (places t) copying.source ≡ b → IsPointed line t (turn_after now line (path_in line.path) t)
      by None f = record {
        point = λ s agree q plain.
            ap (λ (u : Files). object_states_of (places u) q) (opened ∙ idle) ∙ sym (agree q plain)
            ∙ sym (point_copy line copying s q e ∙ ap (λ b. cond b (at_made (Copy copying) (path_in line.path) s q) (fin.get s q)) (ap is_some (agree copying.source plain_source ∙ f)));
        shape = subst (λ (u : Files). IsShaped (object_states_of (places u))) (sym (opened ∙ idle)) shape;
      }
        where
          idle : carried_out now (Copy copying) (path_in line.path) t ≡ t
          idle = copy_idle now copying (path_in line.path) t (sym (object_state_some (places t copying.source)) ∙ ap is_some f)
      by (Some b) f = record {
        point = λ s agree q plain.
            ap (λ (u : Files). object_states_of (places u) q) opened
            ∙ copied_point now copying adjust (path_in line.path) plain_path plain_source t shape b f (safe.away copying e) s agree q plain
            ∙ sym (point_copy line copying s q e ∙ ap (λ c. cond c (at_made (Copy copying) (path_in line.path) s q) (fin.get s q)) (ap is_some (agree copying.source plain_source ∙ f)));
        shape = subst (λ (u : Files). IsShaped (object_states_of (places u))) (sym opened) (
            copied_shaped now copying adjust (path_in line.path) plain_path plain_source t shape b f (copy_path line safe.is copying e).1
            (copy_passes line copying e t free (sym (object_state_some (places t copying.source)) ∙ ap is_some f)) (path_named line safe.is));
      }

  -- each line
  pub line_pointed : (by_line now).is_refused line t ≡ false → IsPointed line t ((by_line now).after line t)
  line_pointed quiet = copies_or_not line (λ copying e. subst (λ paths. IsPointed line t (after_each (by_turn now line) paths t)) (sym (turns_copy line copying t e)) (copy_pointed copying e (ap (λ paths. one_is_refused (by_turn now line) paths t) (sym (turns_copy line copying t e)) ∙ quiet))) plain_line
    where
      plain_line : copied (action_of line) ≡ None → IsPointed line t ((by_line now).after line t)
      plain_line none =
          let plain = line_is_plain line safe.is none in
          let one = line_point now line plain t shape quiet in
          record {
            point = λ s agree q unstaged.
                one.point q unstaged ∙ ap (run (operations line q)) (sym (agree q unstaged))
                ∙ sym (point_asked line plain s (shape_same (object_states_of (places t)) (fin.get s) agree shape) q unstaged);
            shape = one.shape;
          }

-- ---- which paths are looked at

module _ (line : Line) (safe : IsSafe line) (s : ObjectStates) (shape : IsShaped (fin.get s)) (q : Path) (plain : has_staging q ≡ false) where
  keyed : is_some (fin.get s q) ≡ true → is_among q (point_paths line s ++ fin.keys s) ≡ true
  keyed there = among_right q (point_paths line s) (fin.keys s) (sym (fin.contains_key-keys s q) ∙ there)

  module _ (copying : Copying) (e : action_of line ≡ Copy copying) where
    abbrev path : Path
    path = path_in line.path

    abbrev copies_of : List Path
    copies_of = map (λ rest. path ++ rest) (filter_map (rest_under copying.source) (fin.keys s))

    shown : is_among q (path ∷ ((parents_of path ++ copies_of) ++ fin.keys s)) ≡ true → is_among q (point_paths line s ++ fin.keys s) ≡ true
    shown h = ap (λ ps. is_among q (ps ++ fin.keys s)) (paths_copy line copying s e) ∙ h

    first_there : path ≡ q → is_among q (point_paths line s ++ fin.keys s) ≡ true
    first_there same = shown (subst (λ (p : Path). is_among p (path ∷ ((parents_of path ++ copies_of) ++ fin.keys s)) ≡ true) same (among_first path ((parents_of path ++ copies_of) ++ fin.keys s)))

    parent_there : is_prefix q path ≡ true → q ≢ path → is_among q (point_paths line s ++ fin.keys s) ≡ true
    parent_there high other = by q refl
      where
        some_name : (name : List ℕ) (p : Path) → q ≡ name ∷ p → is_among q (point_paths line s ++ fin.keys s) ≡ true
        some_name name p f = shown (later_among path q ((parents_of path ++ copies_of) ++ fin.keys s) (
            subst (λ (ps : List Path). is_among q ps ≡ true) (sym (append_assoc (parents_of path) copies_of (fin.keys s))) (
            among_left q (parents_of path) (copies_of ++ fin.keys s) (stands_among q (parents_of path) (in_parents q path other ∙ ap (λ b. b && has_some q) high ∙ ap has_some f)))))

        by : (p : Path) → q ≡ p → is_among q (point_paths line s ++ fin.keys s) ≡ true
        by [] f = keyed (ap (λ (p : Path). is_some (fin.get s p)) f ∙ dir_there (fin.get s []) shape.root)
        by (name ∷ p) f = some_name name p f

    copy_there : (name : List ℕ) (rest : Path) → q ≡ path ++ name ∷ rest → is_some (copy_of copying (view s) (name ∷ rest)) ≡ true → is_among q (point_paths line s ++ fin.keys s) ≡ true
    copy_there name rest f h = by (has_staging (name ∷ rest)) h
      where
        by : (c : Bool) → is_some (cond c None (fin.get s (copying.source ++ name ∷ rest))) ≡ true → is_among q (point_paths line s ++ fin.keys s) ≡ true
        by true g = impossible g
        by false g = shown (later_among path q ((parents_of path ++ copies_of) ++ fin.keys s) (
            among_left q (parents_of path ++ copies_of) (fin.keys s) (among_right q (parents_of path) copies_of (
            subst (λ (p : Path). is_among p copies_of ≡ true) (sym f) (among_copied copying.source path (name ∷ rest) (fin.keys s) (sym (fin.contains_key-keys s (copying.source ++ name ∷ rest)) ∙ g))))))

    turn_listed : (turn : Turn) → IsCopyTurn copying (view s) turn → (rest : Path) → rest_under path q ≡ Some rest → is_some (after_turn turn rest (fin.get s q)) ≡ true → is_among q (point_paths line s ++ fin.keys s) ≡ true
    turn_listed turn way [] f h = first_there (sym (rest_under-Some path q [] f ∙ append-nil path))
    turn_listed turn (puts g) (name ∷ rest) f h = copy_there name rest (rest_under-Some path q (name ∷ rest) f) (sym (ap (λ x. is_some (after_turn x (name ∷ rest) (fin.get s q))) g) ∙ h)
    turn_listed turn (becomes g) (name ∷ rest) f h = keyed (sym (ap (λ x. is_some (after_turn x (name ∷ rest) (fin.get s q))) g) ∙ h)
    turn_listed turn (leaves kind g) (name ∷ rest) f h = keyed (sym (ap (λ x. is_some (after_turn x (name ∷ rest) (fin.get s q))) g) ∙ h)

    -- what the definition gives lies among them
    copied_listed : (b : ObjectState) → fin.get s copying.source ≡ Some b → is_some (at_made (Copy copying) path s q) ≡ true → is_among q (point_paths line s ++ fin.keys s) ≡ true
    copied_listed b f h = by (is_prefix q path) refl (same_path q path) refl h
      where
        turn_is : decide (Copy copying) (view s) path ≡ copying_turn copying (view s) path b.body.kind (fin.get s path)
        turn_is = decide_some copying (view s) path b f

        inside : (r : Option Path) → rest_under path q ≡ r → is_some (option_map_or (λ rest. after_turn (decide (Copy copying) (view s) path) rest (fin.get s q)) r (fin.get s q)) ≡ true → is_among q (point_paths line s ++ fin.keys s) ≡ true
        inside None g k = keyed k
        inside (Some rest) g k = turn_listed (copying_turn copying (view s) path b.body.kind (fin.get s path)) (copy_turns copying (view s) path b.body.kind (fin.get s path)) rest g (sym (ap (λ turn. is_some (after_turn turn rest (fin.get s q))) turn_is) ∙ k)

        by : (a : Bool) → is_prefix q path ≡ a → (c : Bool) → same_path q path ≡ c
            → is_some (cond (is_prefix q path && not (same_path q path)) (Some (unwrap_or (fin.get s q) parent_object_state)) (option_map_or (λ rest. after_turn (decide (Copy copying) (view s) path) rest (fin.get s q)) (rest_under path q) (fin.get s q))) ≡ true
            → is_among q (point_paths line s ++ fin.keys s) ≡ true
        by true g false k m = parent_there g (λ same. true_not_false (same_path q path) ((same_path-decides q path).1 same) k)
        by true g true k m = first_there (sym ((same_path-decides q path).0 k))
        by false g c k m = inside (rest_under path q) refl (sym (ap (λ a. is_some (cond (a && not (same_path q path)) (Some (unwrap_or (fin.get s q) parent_object_state)) (option_map_or (λ rest. after_turn (decide (Copy copying) (view s) path) rest (fin.get s q)) (rest_under path q) (fin.get s q)))) g) ∙ m)

    copy_listed : is_some (point line s q) ≡ true → is_among q (point_paths line s ++ fin.keys s) ≡ true
    copy_listed h = by (fin.get s copying.source) refl (sym (ap is_some (point_copy line copying s q e)) ∙ h)
      where
        by : (b : Option ObjectState) → fin.get s copying.source ≡ b → is_some (cond (is_some (fin.get s copying.source)) (at_made (Copy copying) path s q) (fin.get s q)) ≡ true → is_among q (point_paths line s ++ fin.keys s) ≡ true
        by None f g = keyed (sym (ap (λ c. is_some (cond (is_some c) (at_made (Copy copying) path s q) (fin.get s q))) f) ∙ g)
        by (Some b) f g = copied_listed b f (sym (ap (λ c. is_some (cond (is_some c) (at_made (Copy copying) path s q) (fin.get s q))) f) ∙ g)

  pub pointwise_is : fin.get (pointwise_after s line) q ≡ point line s q
  pointwise_is = get-tabulated (point_paths line s ++ fin.keys s) (point line s) q (copies_or_not line copy_listed plain_line)
    where
      plain_line : copied (action_of line) ≡ None → is_some (point line s q) ≡ true → is_among q (point_paths line s ++ fin.keys s) ≡ true
      plain_line none h = let plain_one = line_is_plain line safe.is none in listed line plain_one s shape q plain (sym (ap is_some (point_asked line plain_one s shape q plain)) ∙ h)

-- ---- lines one after the other

pub points_after : (now : ℕ) (lines : List Line) (s : ObjectStates) (t : Files) → AllByRecursion IsSafe lines → IsShaped (object_states_of (places t)) → one_is_refused (by_line now) lines t ≡ false → Agree s t
    → Agree (fold pointwise_after s lines) (after_each (by_line now) lines t)
points_after now [] s t are shape quiet agree = agree
points_after now (line ∷ lines) s t are shape quiet agree =
    let two = or_parts ((by_line now).is_refused line t) (one_is_refused (by_line now) lines ((by_line now).after line t)) quiet in
    let one = line_pointed now line are.0 t shape two.0 in
    points_after now lines (pointwise_after s line) ((by_line now).after line t) are.1 one.shape two.1 (λ q plain.
    pointwise_is line are.0 s (shape_same (object_states_of (places t)) (fin.get s) agree shape) q plain
    ∙ sym (one.point s agree q plain))

-- where none of them copies what lies above its path
module _ (lines : List Line) (safe : AllByRecursion IsSafe (in_create_order lines)) (now : ℕ) (s : ObjectStates) (t : Files) (tree : IsTree t) (quiet : RefusesNoLine lines now t) (agree : Agree s t) where
  -- after the first lines
  pub state_after : (k : ℕ) → Agree (state lines k s) (after_each (by_line now) (take k (in_create_order lines)) t)
  state_after k = points_after now (take k (in_create_order lines)) s t (all_take IsSafe k (in_create_order lines) safe) (tree_shaped (places t) tree) (quiet_front now k (in_create_order lines) t quiet) agree

  -- and after all
  pub state_whole : Agree (state lines (length (in_create_order lines)) s) (created lines now t)
  state_whole q plain =
      state_after (length (in_create_order lines)) q plain
      ∙ ap (λ ls. object_states_of (places (after_each (by_line now) ls t)) q) (take_all (length (in_create_order lines)) (in_create_order lines) (omega arith))

-- so it is where they copy nothing
pub plain_safe : (lines : List Line) → AllByRecursion IsLine lines → AllByRecursion CopiesNothing lines → AllByRecursion IsSafe (in_create_order lines)
plain_safe lines are none = all_in_order IsSafe lines (each lines are none)
  where
    each : (ls : List Line) → AllByRecursion IsLine ls → AllByRecursion CopiesNothing ls → AllByRecursion IsSafe ls
    each [] h g = tt
    each (line ∷ ls) h g = (record { is = h.0; away = λ copying e. absurd (let no : Some copying.source ≡ None = sym (ap copied e) ∙ g.0 in cc) }, each ls h.1 g.1)

-- and if no line has a hazard
module _ (lines : List Line) (are : AllByRecursion IsLine lines) (repeatable : IsRepeatable lines) where
  pub safe_of : (line : Listed) → IsListed lines line → IsSafe line.1
  safe_of line placed = record { is = placed.is; away = away }
    where
      away : (copying : Copying) → action_of line.1 ≡ Copy copying → is_prefix copying.source (path_in line.1.path) ≡ false
      away copying e = false_from_ne_true _ (λ g. repeatable line.0 reason.Source (HasReason.source line.1 line.1 line.0 copying.source (path_in line.1.path) placed.at placed.at (ap copied e) g (path_named line.1 placed.is) governed))
        where
          named : names line.1 (path_in line.1.path) ≡ true
          named = ap (λ (p : LinePath). names (record line.1 { path = p }) (path_in line.1.path)) (copy_literal line.1 placed.is copying e) ∙ same_path-refl (path_in line.1.path)

          governed : governs line.1 (path_in line.1.path) ≡ true
          governed = or_left (reaches line.1 (path_in line.1.path)) _ (or_left (names line.1 (path_in line.1.path)) _ named)

  all_safe_listed : (xs : List Listed) → AllByRecursion (IsListed lines) xs → AllByRecursion IsSafe (map (λ (line : Listed). line.1) xs)
  all_safe_listed [] h = tt
  all_safe_listed (x ∷ xs) h = (safe_of x h.0, all_safe_listed xs h.1)

  pub all_safe : AllByRecursion IsSafe (in_create_order lines)
  all_safe = all_safe_listed (ordered (enumerate_from 0 lines)) (all_ordered (IsListed lines) (enumerate_from 0 lines) (all_at_places lines are))
