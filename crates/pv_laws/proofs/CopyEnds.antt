-- What two runs leave at and below the path of a line that copies, where one began on what the other had left on its way.
use Rattle.std.specs.Prelude.{◌≡◌, ℕ, Bool, true, false, cond, ◌&&◌, ◌||◌, List, [], ◌∷◌, ◌++◌, take, Option, Some, None, is_some, option_map, if◌then◌else◌}
use Rattle.std.proofs.Common.{refl, sym, ap, subst, ◌∙◌, arith}
use Rattle.std.proofs.lemmas.List.{append-nil}
use Rattle.std.specs.List.{list_all}
use Rattle.std.proofs.lemmas.Bool.{or_parts}
use Rattle.pv_path.specs.Paths.{Path, is_prefix, rest_under, has_staging}
use Rattle.pv_path.proofs.PathLaws.{is_prefix-append, is_prefix-refl, is_prefix-antisym, rest_under-self, rest_under-append, has_staging-append}
use Rattle.pv_steps.specs.Objects.{is_directory}
use Rattle.pv_steps.specs.Trees.{Files, places}
use Rattle.pv_walk.specs.declared.object_state.ObjectState.{ObjectState}
use Rattle.pv_walk.specs.declared.operation.Operation.{Operation}
use Rattle.pv_walk.specs.Dividing.{parts}
use Rattle.pv_walk.specs.Nodes.{object_states_of, same_kind}
use Rattle.pv_walk.specs.Operations.{run}
use Rattle.pv_walk.specs.Reasons.{IsRepeatable}
use Rattle.pv_lines.specs.declared.line.Line.{Line}
use Rattle.pv_table.specs.declared.action.Copying.{Copying}
use Rattle.pv_table.specs.declared.action.Action.{Action}
use Rattle.pv_table.specs.declared.action.Action.TheVariants.{Copy}
use Rattle.pv_table.specs.ActionTable.{action_of}
use Rattle.pv_table.specs.Created.{by_turn, by_line}
use Rattle.pv_steps.specs.Doing.{after_each, one_is_refused}
use Rattle.pv_table.specs.Effects.{carried_out}
use Rattle.pv_table.specs.Pointwise.{after_turn}
use Rattle.pv_table.specs.Reaching.{path_in}
use Rattle.pv_table.specs.Repeatable.{sets_of}
use Rattle.pv_table.specs.Turns.{Turn, view_of, topped_by, copy_of, is_childless, copying_turn, refused_at}
use Rattle.pv_laws.specs.Copying.{IsCopyMidway, kept, parent, some_set, gone, turn_of}
use Rattle.pv_laws.proofs.AllPoints.{IsSafe, turns_copy}
use Rattle.pv_laws.proofs.Copies.{left_before, decided_before, childless_less}
use Rattle.pv_laws.proofs.CopyRecovers.{copy_recovers, begun_recovers, IsBegun}
use Rattle.pv_laws.proofs.CopyRecovers as recovery
use Rattle.pv_laws.proofs.Lines.{copy_path, copy_source}
use Rattle.pv_laws.proofs.Making.{IsShaped}
use Rattle.pv_laws.proofs.Sets.{impossible, is_adjustment, asked, sets_adjust, adjusted_some}
use Rattle.pv_laws.proofs.Adjustment.{turn_open, first_turn}
use Rattle.pv_laws.proofs.Ways.{all_take}
use Rattle.pv_path.proofs.Tests.{same_tests}

-- the object at a path and below it, without staging names, by what comes after the path
abbrev pub inside : Path → Files → Path → Option ObjectState
inside p t [] = object_states_of (places t) p
inside p t (name ∷ rest) = cond (has_staging (name ∷ rest)) None (object_states_of (places t) (p ++ name ∷ rest))

pub inside_is : (p : Path) (t : Files) (rest : Path) → has_staging rest ≡ false → inside p t rest ≡ object_states_of (places t) (p ++ rest)
inside_is p t [] plain = ap (object_states_of (places t)) (sym (append-nil p))
inside_is p t (name ∷ rest) plain = ap (λ c. cond c None (object_states_of (places t) (p ++ name ∷ rest))) plain

pub below_plain : (p rest : Path) → has_staging p ≡ false → has_staging rest ≡ false → has_staging (p ++ rest) ≡ false
below_plain p rest h g = has_staging-append p rest ∙ ap (λ b. b || has_staging rest) h ∙ g

rest_plain : (p rest : Path) → has_staging (p ++ rest) ≡ false → has_staging rest ≡ false
rest_plain p rest h = (or_parts (has_staging p) (has_staging rest) (sym (has_staging-append p rest) ∙ h)).1

-- where the same stands at and below a path
pub inside_same : (p : Path) (t u : Files) → has_staging p ≡ false → ((q : Path) → has_staging q ≡ false → is_prefix p q ≡ true → object_states_of (places u) q ≡ object_states_of (places t) q) → (rest : Path) → inside p u rest ≡ inside p t rest
inside_same p t u plain same [] = same p plain (is_prefix-refl p)
inside_same p t u plain same (name ∷ rest) = by (has_staging (name ∷ rest)) refl
  where
    by : (c : Bool) → has_staging (name ∷ rest) ≡ c → cond c None (object_states_of (places u) (p ++ name ∷ rest)) ≡ cond c None (object_states_of (places t) (p ++ name ∷ rest))
    by true h = refl
    by false h = same (p ++ name ∷ rest) (below_plain p (name ∷ rest) plain h) (is_prefix-append p (name ∷ rest))

-- the same is copied where the same stands at and below the source
pub same_copy : (copying : Copying) (t u : Files) → has_staging copying.source ≡ false → ((rest : Path) → has_staging rest ≡ false → object_states_of (places u) (copying.source ++ rest) ≡ object_states_of (places t) (copying.source ++ rest))
    → (rest : Path) → copy_of copying (view_of t) rest ≡ copy_of copying (view_of u) rest
same_copy copying t u plain same [] = ap (option_map (topped_by copying)) (ap (object_states_of (places t)) (sym (append-nil copying.source)) ∙ sym (same [] refl) ∙ ap (object_states_of (places u)) (append-nil copying.source))
same_copy copying t u plain same (name ∷ rest) = by (has_staging (name ∷ rest)) refl
  where
    by : (c : Bool) → has_staging (name ∷ rest) ≡ c → cond c None (object_states_of (places t) (copying.source ++ name ∷ rest)) ≡ cond c None (object_states_of (places u) (copying.source ++ name ∷ rest))
    by true e = refl
    by false e = sym (same (name ∷ rest) e)

module _ (line : Line) (safe : IsSafe line) (copying : Copying) (e : action_of line ≡ Copy copying) (b : ObjectState) where
  abbrev p : Path
  p = path_in line.path

  pub plain_path : has_staging p ≡ false
  plain_path = (copy_path line safe.is copying e).0

  pub plain_source : has_staging copying.source ≡ false
  plain_source = copy_source line safe.is copying e

  pub adjust : list_all is_adjustment copying.sets ≡ true
  adjust = subst (λ d. list_all is_adjustment (sets_of d) ≡ true) e (sets_adjust line (action_of line) (asked line))

  -- the turn of the line from a tree
  abbrev pub turn_at : Files → Turn
  turn_at t = copying_turn copying (view_of t) p b.body.kind (object_states_of (places t) p)

  -- what the line leaves there
  module _ (now : ℕ) (t : Files) (shape : IsShaped (object_states_of (places t))) (present : object_states_of (places t) copying.source ≡ Some b) where
    pub copy_inside : (by_line now).is_refused line t ≡ false → (rest : Path) → has_staging rest ≡ false → object_states_of (places ((by_line now).after line t)) (p ++ rest) ≡ after_turn (turn_at t) rest (inside p t rest)
    copy_inside quiet rest plain =
        ap (λ (u : Files). object_states_of (places u) (p ++ rest)) opened
        ∙ left_before now copying adjust p plain_path plain_source t shape b present (safe.away copying e) (p ++ rest) rest (below_plain p rest plain_path plain) (rest_under-append p rest)
        ∙ ap (after_turn (turn_at t) rest) (sym (inside_is p t rest plain))
      where
        open_path : refused_at line p (places t) ≡ None
        open_path = (first_turn now line p [] t (ap (λ paths. one_is_refused (by_turn now line) paths t) (sym (turns_copy line copying t e)) ∙ quiet)).0

        opened : (by_line now).after line t ≡ carried_out now (Copy copying) p t
        opened = ap (λ paths. after_each (by_turn now line) paths t) (turns_copy line copying t e) ∙ turn_open now line p t open_path ∙ ap (λ (d : Action). carried_out now d p t) e

    -- before the copy has come there
    pub begun_before : (u : Files) → ((q : Path) → has_staging q ≡ false → IsCopyMidway p copying (turn_of line copying now t) q (object_states_of (places t) q) (object_states_of (places u) q))
        → (rest : Path) → IsBegun copying.sets (turn_at t) rest (inside p t rest) (inside p u rest)
    begun_before u way rest = by (has_staging rest) refl
      where
        turn_is : turn_of line copying now t ≡ turn_at t
        turn_is = decided_before now copying adjust p plain_path plain_source t shape b present (safe.away copying e)

        none_staged : (r : Path) → has_staging r ≡ true → inside p u r ≡ inside p t r
        none_staged [] h = impossible h
        none_staged (name ∷ r) h = (λ i. cond (h i) None (object_states_of (places u) (p ++ name ∷ r))) ∙ sym (λ i. cond (h i) None (object_states_of (places t) (p ++ name ∷ r)))

        whole : p ++ rest ≡ p → rest ≡ []
        whole same = is (sym (rest_under-append p rest) ∙ ap (rest_under p) same ∙ rest_under-self p)
          where
            is : Some rest ≡ Some [] → rest ≡ []
            is k = cc

        at : has_staging rest ≡ false → IsCopyMidway p copying (turn_of line copying now t) (p ++ rest) (object_states_of (places t) (p ++ rest)) (object_states_of (places u) (p ++ rest)) → IsBegun copying.sets (turn_at t) rest (inside p t rest) (inside p u rest)
        at plain (kept f) = recovery.kept (inside_is p u rest plain ∙ f ∙ sym (inside_is p t rest plain))
        at plain (parent high differ none f) = absurd (differ (sym (is_prefix-antisym p (p ++ rest) (is_prefix-append p rest) high)))
        at plain (some_set k same turn f) = recovery.some_set k (whole same) (sym turn_is ∙ turn) (inside_is p u rest plain ∙ f ∙ ap (run (take k (parts copying.sets))) (sym (inside_is p t rest plain)))
        at plain (gone subtree low turn f) = recovery.gone subtree (sym turn_is ∙ turn) (inside_is p u rest plain ∙ f)

        by : (c : Bool) → has_staging rest ≡ c → IsBegun copying.sets (turn_at t) rest (inside p t rest) (inside p u rest)
        by true h = recovery.kept (none_staged rest h)
        by false h = at h (way (p ++ rest) (below_plain p rest plain_path h))

  -- a second tree, in which the same is to be copied
  module _ (t u : Files) (present : object_states_of (places t) copying.source ≡ Some b)
      (same : (rest : Path) → has_staging rest ≡ false → object_states_of (places u) (copying.source ++ rest) ≡ object_states_of (places t) (copying.source ++ rest)) where
    copies_same : (rest : Path) → copy_of copying (view_of t) rest ≡ copy_of copying (view_of u) rest
    copies_same = same_copy copying t u plain_source same

    child_is : (x : Files) (name : List ℕ) → has_staging (p ++ name ∷ []) ≡ false → inside p x (name ∷ []) ≡ object_states_of (places x) (p ++ name ∷ [])
    child_is x name plain = inside_is p x (name ∷ []) (rest_plain p (name ∷ []) plain)

    -- where the line had begun, or had not come there
    module _ (repeatable : IsRepeatable (parts copying.sets)) (begun : (r : Path) → IsBegun copying.sets (turn_at t) r (inside p t r) (inside p u r)) where
      fewer : (name : List ℕ) → has_staging (p ++ name ∷ []) ≡ false → is_some (object_states_of (places u) (p ++ name ∷ [])) ≡ true → is_some (object_states_of (places t) (p ++ name ∷ [])) ≡ true
      fewer name plain there = by (begun (name ∷ []))
        where
          by : IsBegun copying.sets (turn_at t) (name ∷ []) (inside p t (name ∷ [])) (inside p u (name ∷ [])) → is_some (object_states_of (places t) (p ++ name ∷ [])) ≡ true
          by (recovery.kept f) = ap is_some (sym (child_is t name plain) ∙ sym f ∙ child_is u name plain) ∙ there
          by (recovery.some_set k none turn f) = absurd (let no : ◌≡◌ {A = Path} (name ∷ []) [] = none in cc)
          by (recovery.gone subtree turn f) = impossible (sym (ap is_some (sym (child_is u name plain) ∙ f)) ∙ there)

      all_stay : turn_at t ≡ Turn.Become copying.sets → (name : List ℕ) → has_staging (p ++ name ∷ []) ≡ false → is_some (object_states_of (places t) (p ++ name ∷ [])) ≡ true → is_some (object_states_of (places u) (p ++ name ∷ [])) ≡ true
      all_stay sets name plain there = by (begun (name ∷ []))
        where
          by : IsBegun copying.sets (turn_at t) (name ∷ []) (inside p t (name ∷ [])) (inside p u (name ∷ [])) → is_some (object_states_of (places u) (p ++ name ∷ [])) ≡ true
          by (recovery.kept f) = ap is_some (sym (child_is u name plain) ∙ f ∙ child_is t name plain) ∙ there
          by (recovery.some_set k none turn f) = absurd (let no : ◌≡◌ {A = Path} (name ∷ []) [] = none in cc)
          by (recovery.gone subtree turn f) = absurd (let no : Turn.Become copying.sets ≡ Turn.Put subtree = sym sets ∙ turn in cc)

      emptier : is_childless (view_of t) p ≡ true → is_childless (view_of u) p ≡ true
      emptier = childless_less t u p plain_path fewer

      full : turn_at t ≡ Turn.Become copying.sets → is_childless (view_of u) p ≡ is_childless (view_of t) p
      full sets = same_tests (is_childless (view_of u) p) (is_childless (view_of t) p) (childless_less u t p plain_path (all_stay sets)) emptier

      pub begun_ends : (rest : Path) → after_turn (turn_at u) rest (inside p u rest) ≡ after_turn (turn_at t) rest (inside p t rest)
      begun_ends rest = begun_recovers copying b.body.kind p (view_of t) (view_of u) (inside p t) (inside p u) adjust repeatable begun emptier full rest (copies_same rest)

    -- where it was done, and some of what later lines set
    module _ (ys : Path → List Operation) (ys_adjust : (rest : Path) → list_all is_adjustment (ys rest) ≡ true) (both_repeatable : IsRepeatable (copying.sets ++ ys []))
        (of_kind : same_kind b.body.kind (topped_by copying b).body.kind ≡ true) (again : run copying.sets (Some (topped_by copying b)) ≡ Some (topped_by copying b))
        (pieces : (rest : Path) → (k : ℕ) × (has_staging rest ≡ false → inside p u rest ≡ run (take k (ys rest)) (after_turn (turn_at t) rest (inside p t rest)))) where
      abbrev j : Path → ℕ
      j rest = (pieces rest).0

      -- where only the line's own settings were made, all below stays
      stay : (x : ObjectState) → inside p t [] ≡ Some x → same_kind b.body.kind x.body.kind ≡ true → (is_directory b.body.kind && is_childless (view_of t) p) ≡ false
          → (name : List ℕ) → has_staging (p ++ name ∷ []) ≡ false → is_some (object_states_of (places t) (p ++ name ∷ [])) ≡ true → is_some (object_states_of (places u) (p ++ name ∷ [])) ≡ true
      stay x f s empty name plain there =
          ap is_some (sym (child_is u name plain) ∙ (pieces (name ∷ [])).1 (rest_plain p (name ∷ []) plain)
          ∙ ap (λ turn. run (take (j (name ∷ [])) (ys (name ∷ []))) (after_turn turn (name ∷ []) (inside p t (name ∷ [])))) turn
          ∙ ap (run (take (j (name ∷ [])) (ys (name ∷ [])))) (child_is t name plain))
          ∙ present_still (object_states_of (places t) (p ++ name ∷ [])) there
        where
          turn : turn_at t ≡ Turn.Become copying.sets
          turn =
              ap (copying_turn copying (view_of t) p b.body.kind) f
              ∙ ap (λ c. if c then (if is_directory b.body.kind && is_childless (view_of t) p then Turn.Put (copy_of copying (view_of t)) else Turn.Become copying.sets) else if copying.renews then Turn.Put (copy_of copying (view_of t)) else Turn.Left x.body.kind) s
              ∙ ap (λ c. if c then Turn.Put (copy_of copying (view_of t)) else Turn.Become copying.sets) empty

          present_still : (c : Option ObjectState) → is_some c ≡ true → is_some (run (take (j (name ∷ [])) (ys (name ∷ []))) c) ≡ true
          present_still None h = impossible h
          present_still (Some y) h = ap is_some (adjusted_some (take (j (name ∷ [])) (ys (name ∷ []))) (all_take is_adjustment (j (name ∷ [])) (ys (name ∷ [])) (ys_adjust (name ∷ []))) y).1

      still_full : (x : ObjectState) → inside p t [] ≡ Some x → same_kind b.body.kind x.body.kind ≡ true → (is_directory b.body.kind && is_childless (view_of t) p) ≡ false → (is_directory b.body.kind && is_childless (view_of u) p) ≡ false
      still_full x f s empty = by (is_directory b.body.kind) (is_childless (view_of t) p) (is_childless (view_of u) p) (childless_less u t p plain_path (stay x f s empty)) empty
        where
          by : (d v w : Bool) → (w ≡ true → v ≡ true) → (d && v) ≡ false → (d && w) ≡ false
          by d v w h g = grind arith

      pub done_ends : (rest : Path) → has_staging rest ≡ false → IsRepeatable (ys rest) → run (ys rest) (after_turn (turn_at u) rest (inside p u rest)) ≡ run (ys rest) (after_turn (turn_at t) rest (inside p t rest))
      done_ends rest plain repeatable_there =
          (λ i. run (ys rest) (after_turn (copying_turn copying (view_of u) p b.body.kind ((pieces []).1 refl i)) rest ((pieces rest).1 plain i)))
          ∙ copy_recovers copying b.body.kind p (view_of t) (view_of u) (topped_by copying b) (ap (option_map (topped_by copying)) present) of_kind again ys ys_adjust both_repeatable adjust (inside p t) j still_full rest repeatable_there (copies_same rest)
