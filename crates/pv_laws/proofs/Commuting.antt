-- Two lines of which neither reaches what the other may change leave the same in either order.
use Rattle.std.specs.Prelude.{◌≡◌, ℕ, Bool, true, false, ◌&&◌, ◌||◌, List, [], ◌∷◌, ◌++◌, Option, Some, None, is_some}
use Rattle.std.proofs.Common.{refl, sym, ap, subst, ◌∙◌, inl, inr, arith}
use Rattle.std.proofs.lemmas.List.{append-nil}
use Rattle.std.specs.List.{list_all}
use Rattle.std.proofs.lemmas.Bool.{or_left, or_right, or_parts, and_parts, false_from_ne_true}
use Rattle.pv_path.specs.Paths.{has_names, Path, same_path, is_prefix, rest_under, has_staging, same_path-decides}
use Rattle.pv_path.proofs.PathLaws.{is_prefix-append, is_prefix-antisym, same_path-refl, rest_under-None, rest_under-Some, has_staging-append}
use Rattle.pv_steps.specs.Same.{Same}
use Rattle.pv_steps.specs.Trees.{Files, places, IsTree}
use Rattle.pv_walk.specs.declared.object_state.ObjectState.{ObjectState}
use Rattle.pv_walk.specs.Nodes.{object_states_of}
use Rattle.pv_walk.specs.Operations.{run}
use Rattle.pv_walk.proofs.EditLaws.{path_cases}
use Rattle.pv_walk.proofs.OperationLaws.{object_states-same}
use Rattle.pv_lines.specs.declared.line.Line.{Line}
use Rattle.pv_lines.specs.declared.line.LinePath.{LinePath}
use Rattle.pv_lines.specs.Lines.{IsLine}
use Rattle.pv_table.specs.declared.action.Copying.{Copying}
use Rattle.pv_table.specs.declared.action.Action.{Action}
use Rattle.pv_table.specs.declared.action.Action.TheVariants.{Copy}
use Rattle.pv_table.specs.declared.reason.Reason.TheVariants as reason
use Rattle.pv_table.specs.Active.{is_adjusting_line}
use Rattle.pv_table.specs.Asked.{clears_below, operations}
use Rattle.pv_table.specs.ActionTable.{action_of}
use Rattle.pv_table.specs.Created.{by_turn, by_line}
use Rattle.pv_steps.specs.Doing.{after_each, one_is_refused}
use Rattle.pv_table.specs.Effects.{carried_out}
use Rattle.pv_table.specs.Pointwise.{after_turn}
use Rattle.pv_table.specs.Reaching.{names, names_above, path_in, is_creating, reaches_below, reaches, governs}
use Rattle.pv_table.specs.Repeatable.{sets_of, HasReason, IsRepeatable}
use Rattle.pv_table.specs.Turns.{view_of, copied, copying_turn, is_childless, refused_at}
use Rattle.pv_laws.specs.CarryingOut.{AreApart}
use Rattle.pv_laws.proofs.AllPoints.{IsSafe, line_pointed, turns_copy, copy_idle, copy_passes, safe_of}
use Rattle.pv_laws.proofs.Copies.{turns_same, childless_less}
use Rattle.pv_laws.proofs.CopyEnds.{inside_same, same_copy, turn_at, copy_inside, plain_path, plain_source}
use Rattle.pv_laws.proofs.CopyShapes.{at_outside}
use Rattle.pv_laws.proofs.Adjustment.{named_above, turn_open, first_turn}
use Rattle.pv_laws.proofs.AllFrames.{each_kept}
use Rattle.pv_laws.proofs.Lines.{line_is_plain, line_point, copy_literal, copy_path, copy_source, creating_row, creating_adjusts_none, copies_or_not}
use Rattle.pv_laws.proofs.Making.{same_unnamed, IsShaped}
use Rattle.pv_laws.proofs.Prepared.{object_state_some, filled}
use Rattle.pv_laws.proofs.Repeated as repeated
use Rattle.pv_laws.proofs.Repeated.{IsAskedAt, asked_at, adjust_adjusts, deep_reaches}
use Rattle.pv_laws.proofs.Sets.{impossible, is_adjustment, asked, sets_adjust}
use Rattle.pv_laws.proofs.Shapes.{tree_shaped}
use Rattle.pv_path.proofs.Tests.{same_tests, true_not_false}

-- the line names its own path alone
own_name : (line : Line) → is_creating line ≡ true → (q : Path) → names line q ≡ same_path (path_in line.path) q
own_name line creates q = grind arith

-- a line that copies reaches its path and all below it
copy_reaches : (line : Line) → IsLine line → (copying : Copying) → action_of line ≡ Copy copying → (q : Path) → is_prefix (path_in line.path) q ≡ true → reaches line q ≡ true
copy_reaches line is copying e q under = elim (path_cases (path_in line.path) q) [
  | inl same ↦ or_left (names line q) (reaches_below line && names_above line q) (own_name line creates q ∙ (same_path-decides (path_in line.path) q).1 same)
  | inr other ↦ or_right (names line q) (reaches_below line && names_above line q) (
      ap (λ b. b && names_above line q) (deep_reaches line (Copy copying) e refl)
      ∙ named_above line (path_in line.path) q (own_name line creates (path_in line.path) ∙ same_path-refl (path_in line.path)) under other)
]
  where
    creates : is_creating line ≡ true
    creates = ap (λ (path : LinePath). is_creating (record line { path = path })) (copy_literal line is copying e)

-- ---- one line over two trees

module _ (line : Line) (safe : IsSafe line) (now later : ℕ) (v w : Files) (shape_v : IsShaped (object_states_of (places v))) (shape_w : IsShaped (object_states_of (places w)))
    (quiet_v : (by_line now).is_refused line v ≡ false) (quiet_w : (by_line later).is_refused line w ≡ false)
    (sources : (copying : Copying) → action_of line ≡ Copy copying → (rest : Path) → has_staging rest ≡ false → object_states_of (places w) (copying.source ++ rest) ≡ object_states_of (places v) (copying.source ++ rest))
    (q : Path) (plain : has_staging q ≡ false) where
  abbrev p : Path
  p = path_in line.path

  opened : (moment : ℕ) (t : Files) (copying : Copying) → action_of line ≡ Copy copying → (by_line moment).is_refused line t ≡ false → (refused_at line p (places t) ≡ None) × ((by_line moment).after line t ≡ carried_out moment (Copy copying) p t)
  opened moment t copying e quiet =
      let open_path = (first_turn moment line p [] t (ap (λ paths. one_is_refused (by_turn moment line) paths t) (sym (turns_copy line copying t e)) ∙ quiet)).0 in (
        open_path,
        ap (λ paths. after_each (by_turn moment line) paths t) (turns_copy line copying t e) ∙ turn_open moment line p t open_path ∙ ap (λ (d : Action). carried_out moment d p t) e,
      )

  idle_point : (moment : ℕ) (t : Files) (copying : Copying) → action_of line ≡ Copy copying → (by_line moment).is_refused line t ≡ false → object_states_of (places t) copying.source ≡ None → object_states_of (places ((by_line moment).after line t)) q ≡ object_states_of (places t) q
  idle_point moment t copying e quiet none = ap (λ (u : Files). object_states_of (places u) q) ((opened moment t copying e quiet).1 ∙ copy_idle moment copying p t (sym (object_state_some (places t copying.source)) ∙ ap is_some none))

  outside_point : (moment : ℕ) (t : Files) → IsShaped (object_states_of (places t)) → (copying : Copying) → action_of line ≡ Copy copying → (by_line moment).is_refused line t ≡ false → (b : ObjectState) → object_states_of (places t) copying.source ≡ Some b → rest_under p q ≡ None
      → object_states_of (places ((by_line moment).after line t)) q ≡ filled (is_prefix q p) (object_states_of (places t) q)
  outside_point moment t shape copying e quiet b f out =
      ap (λ (u : Files). object_states_of (places u) q) (opened moment t copying e quiet).1
      ∙ at_outside moment copying (subst (λ d. list_all is_adjustment (sets_of d) ≡ true) e (sets_adjust line (action_of line) (asked line))) p (copy_path line safe.is copying e).0 (copy_source line safe.is copying e) t shape b f
      (copy_path line safe.is copying e).1 (copy_passes line copying e t (opened moment t copying e quiet).0 (sym (object_state_some (places t copying.source)) ∙ ap is_some f)) q plain out

  source_same : (copying : Copying) → action_of line ≡ Copy copying → object_states_of (places w) copying.source ≡ object_states_of (places v) copying.source
  source_same copying e = ap (object_states_of (places w)) (sym (append-nil copying.source)) ∙ sources copying e [] refl ∙ ap (object_states_of (places v)) (append-nil copying.source)

  -- where all that the line reaches is the same, it leaves the same at a path at which the same stands
  module _ (reached : (r : Path) → has_staging r ≡ false → reaches line r ≡ true → object_states_of (places w) r ≡ object_states_of (places v) r) (here : object_states_of (places w) q ≡ object_states_of (places v) q) where
    module _ (copying : Copying) (e : action_of line ≡ Copy copying) (b : ObjectState) (present : object_states_of (places v) copying.source ≡ Some b) where
      region : (r : Path) → has_staging r ≡ false → is_prefix p r ≡ true → object_states_of (places w) r ≡ object_states_of (places v) r
      region r h under = reached r h (copy_reaches line safe.is copying e r under)

      children : (name : List ℕ) → has_staging (p ++ name ∷ []) ≡ false → object_states_of (places w) (p ++ name ∷ []) ≡ object_states_of (places v) (p ++ name ∷ [])
      children name h = region (p ++ name ∷ []) h (is_prefix-append p (name ∷ []))

      childless : is_childless (view_of w) p ≡ is_childless (view_of v) p
      childless = same_tests (is_childless (view_of w) p) (is_childless (view_of v) p)
          (childless_less w v p (plain_path line safe copying e b) (λ name h there. ap is_some (children name h) ∙ there))
          (childless_less v w p (plain_path line safe copying e b) (λ name h there. ap is_some (sym (children name h)) ∙ there))

      turns : turn_at line safe copying e b w ≡ turn_at line safe copying e b v
      turns =
          turns_same copying (view_of w) (view_of v) p b.body.kind (object_states_of (places w) p) childless (λ rest. sym (same_copy copying v w (plain_source line safe copying e b) (sources copying e) rest))
          ∙ ap (copying_turn copying (view_of v) p b.body.kind) (inside_same p v w (plain_path line safe copying e b) region [])

      inside_point : (rest : Path) → rest_under p q ≡ Some rest → object_states_of (places ((by_line later).after line w)) q ≡ object_states_of (places ((by_line now).after line v)) q
      inside_point rest f = subst (λ (r : Path). object_states_of (places ((by_line later).after line w)) r ≡ object_states_of (places ((by_line now).after line v)) r) (sym is) (
          copy_inside line safe copying e b later w shape_w (source_same copying e ∙ present) quiet_w rest rest_is_plain
          ∙ (λ i. after_turn (turns i) rest (inside_same p v w (plain_path line safe copying e b) region rest i))
          ∙ sym (copy_inside line safe copying e b now v shape_v present quiet_v rest rest_is_plain))
        where
          is : q ≡ p ++ rest
          is = rest_under-Some p q rest f

          rest_is_plain : has_staging rest ≡ false
          rest_is_plain = (or_parts (has_staging p) (has_staging rest) (sym (has_staging-append p rest) ∙ ap has_staging (sym is) ∙ plain)).1

      present_same : object_states_of (places ((by_line later).after line w)) q ≡ object_states_of (places ((by_line now).after line v)) q
      present_same = by (rest_under p q) refl
        where
          by : (r : Option Path) → rest_under p q ≡ r → object_states_of (places ((by_line later).after line w)) q ≡ object_states_of (places ((by_line now).after line v)) q
          by (Some rest) f = inside_point rest f
          by None f =
              outside_point later w shape_w copying e quiet_w b (source_same copying e ∙ present) f
              ∙ ap (filled (is_prefix q p)) here
              ∙ sym (outside_point now v shape_v copying e quiet_v b present f)

    copies_same : (copying : Copying) → action_of line ≡ Copy copying → object_states_of (places ((by_line later).after line w)) q ≡ object_states_of (places ((by_line now).after line v)) q
    copies_same copying e = by (object_states_of (places v) copying.source) refl
      where
        by : (o : Option ObjectState) → object_states_of (places v) copying.source ≡ o → object_states_of (places ((by_line later).after line w)) q ≡ object_states_of (places ((by_line now).after line v)) q
        by None f = idle_point later w copying e quiet_w (source_same copying e ∙ f) ∙ here ∙ sym (idle_point now v copying e quiet_v f)
        by (Some b) f = present_same copying e b f

    pub leaves_same : object_states_of (places ((by_line later).after line w)) q ≡ object_states_of (places ((by_line now).after line v)) q
    leaves_same = copies_or_not line (λ copying e. copies_same copying e) plain_line
      where
        plain_line : copied (action_of line) ≡ None → object_states_of (places ((by_line later).after line w)) q ≡ object_states_of (places ((by_line now).after line v)) q
        plain_line none =
            (line_point later line (line_is_plain line safe.is none) w shape_w quiet_w).point q plain ∙ ap (run (operations line q)) here
            ∙ sym ((line_point now line (line_is_plain line safe.is none) v shape_v quiet_v).point q plain)

  -- above its path it puts a parent, or nothing
  abbrev IsParentAlike : Type 0
  IsParentAlike = (c : Bool) × (object_states_of (places ((by_line now).after line v)) q ≡ filled c (object_states_of (places v) q)) × (object_states_of (places ((by_line later).after line w)) q ≡ filled c (object_states_of (places w) q))

  pub parents_alike : is_creating line ≡ true → is_prefix q p ≡ true → same_path p q ≡ false → IsParentAlike
  parents_alike creates above other = copies_or_not line (λ copying e. by_source copying e (object_states_of (places v) copying.source) refl) plain_line
    where
      no_adjust : is_adjusting_line line ≡ false
      no_adjust = creating_adjusts_none line safe.is (creating_row line safe.is creates)

      not_under : is_prefix p q ≡ false
      not_under = false_from_ne_true _ (λ f. true_not_false (same_path p q) ((same_path-decides p q).1 (is_prefix-antisym p q f above)) other)

      asked_point : copied (action_of line) ≡ None → (c : Bool) → ((b : Option ObjectState) → run (operations line q) b ≡ filled c b) → IsParentAlike
      asked_point none c f = (
        c,
        (line_point now line (line_is_plain line safe.is none) v shape_v quiet_v).point q plain ∙ f (object_states_of (places v) q),
        (line_point later line (line_is_plain line safe.is none) w shape_w quiet_w).point q plain ∙ f (object_states_of (places w) q),
      )

      plain_line : copied (action_of line) ≡ None → IsParentAlike
      plain_line none = at (asked_at line q)
        where
          at : IsAskedAt line q → IsParentAlike
          at (repeated.object making e s f) = absurd (true_not_false (same_path p q) ((same_path-decides p q).1 s) other)
          at (repeated.parent making e s f) = asked_point none true (λ b. ap (λ xs. run xs b) f)
          at (repeated.below making e g d f) = absurd (true_not_false (is_prefix p q) (and_parts (is_prefix p q) (clears_below making) g).0 not_under)
          at (repeated.set adjustment e t f) = impossible (sym no_adjust ∙ adjust_adjusts q line adjustment e)
          at (repeated.nothing f) = asked_point none false (λ b. ap (λ xs. run xs b) f)

      by_source : (copying : Copying) → action_of line ≡ Copy copying → (o : Option ObjectState) → object_states_of (places v) copying.source ≡ o → IsParentAlike
      by_source copying e None f = (false, idle_point now v copying e quiet_v f, idle_point later w copying e quiet_w (source_same copying e ∙ f))
      by_source copying e (Some b) f = (
        is_prefix q p,
        outside_point now v shape_v copying e quiet_v b f (rest_under-None p q not_under),
        outside_point later w shape_w copying e quiet_w b (source_same copying e ∙ f) (rest_under-None p q not_under),
      )

-- ---- two lines

filled_swap : (c d : Bool) (b : Option ObjectState) → filled c (filled d b) ≡ filled d (filled c b)
filled_swap c d b = grind arith

module _ (a b : Line) (is_a : IsLine a) (is_b : IsLine b) (repeatable : IsRepeatable (a ∷ b ∷ [])) (meet_none : AreApart a b) (now later : ℕ) (t : Files) (tree : IsTree t)
    (quiet : one_is_refused (by_line now) (a ∷ b ∷ []) t ≡ false) (again : one_is_refused (by_line later) (b ∷ a ∷ []) t ≡ false) where
  safe_a : IsSafe a
  safe_a = safe_of (a ∷ b ∷ []) (is_a, (is_b, tt)) repeatable (0, a) (record { at = refl; is = is_a })

  safe_b : IsSafe b
  safe_b = safe_of (a ∷ b ∷ []) (is_a, (is_b, tt)) repeatable (1, b) (record { at = refl; is = is_b })

  abbrev after_a : Files
  after_a = (by_line now).after a t

  abbrev after_b : Files
  after_b = (by_line later).after b t

  a_first : ((by_line now).is_refused a t ≡ false) × ((by_line now).is_refused b after_a ≡ false)
  a_first = let two = or_parts ((by_line now).is_refused a t) (one_is_refused (by_line now) (b ∷ []) after_a) quiet in (two.0, (or_parts ((by_line now).is_refused b after_a) false two.1).0)

  b_first : ((by_line later).is_refused b t ≡ false) × ((by_line later).is_refused a after_b ≡ false)
  b_first = let two = or_parts ((by_line later).is_refused b t) (one_is_refused (by_line later) (a ∷ []) after_b) again in (two.0, (or_parts ((by_line later).is_refused a after_b) false two.1).0)

  shape : IsShaped (object_states_of (places t))
  shape = tree_shaped (places t) tree

  shape_a : IsShaped (object_states_of (places after_a))
  shape_a = (line_pointed now a safe_a t shape a_first.0).shape

  shape_b : IsShaped (object_states_of (places after_b))
  shape_b = (line_pointed later b safe_b t shape b_first.0).shape

  a_leaves : (q : Path) → has_staging q ≡ false → governs a q ≡ false → object_states_of (places after_a) q ≡ object_states_of (places t) q
  a_leaves q plain away = (each_kept now a safe_a.is t shape).frame q plain away

  b_leaves : (q : Path) → has_staging q ≡ false → governs b q ≡ false → object_states_of (places after_b) q ≡ object_states_of (places t) q
  b_leaves q plain away = (each_kept later b safe_b.is t shape).frame q plain away

  -- what is copied
  free_b : (copying : Copying) → action_of a ≡ Copy copying → (rest : Path) → has_names (copying.source ++ rest) ≡ true → governs b (copying.source ++ rest) ≡ false
  free_b copying e rest named = false_from_ne_true _ (λ f. repeatable 1 reason.Source (HasReason.source b a 0 copying.source (copying.source ++ rest) refl refl (ap copied e) (is_prefix-append copying.source rest) named f))

  free_a : (copying : Copying) → action_of b ≡ Copy copying → (rest : Path) → has_names (copying.source ++ rest) ≡ true → governs a (copying.source ++ rest) ≡ false
  free_a copying e rest named = false_from_ne_true _ (λ f. repeatable 0 reason.Source (HasReason.source a b 1 copying.source (copying.source ++ rest) refl refl (ap copied e) (is_prefix-append copying.source rest) named f))

  below_source : (source rest : Path) → has_staging source ≡ false → has_staging rest ≡ false → has_staging (source ++ rest) ≡ false
  below_source source rest h g = has_staging-append source rest ∙ ap (λ c. c || has_staging rest) h ∙ g

  sources_a : (copying : Copying) → action_of a ≡ Copy copying → (rest : Path) → has_staging rest ≡ false → object_states_of (places after_b) (copying.source ++ rest) ≡ object_states_of (places t) (copying.source ++ rest)
  sources_a copying e rest h =
      let unstaged = below_source copying.source rest (copy_source a is_a copying e) h in
      same_unnamed (object_states_of (places after_b)) (object_states_of (places t)) shape_b shape (copying.source ++ rest) unstaged (λ named. b_leaves (copying.source ++ rest) unstaged (free_b copying e rest named))

  sources_b : (copying : Copying) → action_of b ≡ Copy copying → (rest : Path) → has_staging rest ≡ false → object_states_of (places after_a) (copying.source ++ rest) ≡ object_states_of (places t) (copying.source ++ rest)
  sources_b copying e rest h =
      let unstaged = below_source copying.source rest (copy_source b is_b copying e) h in
      same_unnamed (object_states_of (places after_a)) (object_states_of (places t)) shape_a shape (copying.source ++ rest) unstaged (λ named. a_leaves (copying.source ++ rest) unstaged (free_a copying e rest named))

  second_false : (c d : Bool) → c ≡ true → (c && d) ≡ false → d ≡ false
  second_false c d e h = grind arith

  first_false : (c d : Bool) → d ≡ true → (c && d) ≡ false → c ≡ false
  first_false c d e h = grind arith

  -- what the one line reaches, the other leaves
  b_leaves_reached : (r : Path) → has_staging r ≡ false → reaches a r ≡ true → object_states_of (places after_b) r ≡ object_states_of (places t) r
  b_leaves_reached r h reached = same_unnamed (object_states_of (places after_b)) (object_states_of (places t)) shape_b shape r h (λ named. b_leaves r h (second_false (reaches a r) (governs b r) reached (meet_none r named).0))

  a_leaves_reached : (r : Path) → has_staging r ≡ false → reaches b r ≡ true → object_states_of (places after_a) r ≡ object_states_of (places t) r
  a_leaves_reached r h reached = same_unnamed (object_states_of (places after_a)) (object_states_of (places t)) shape_a shape r h (λ named. a_leaves r h (second_false (reaches b r) (governs a r) reached (meet_none r named).1))

  shape_ab : IsShaped (object_states_of (places ((by_line now).after b after_a)))
  shape_ab = (line_pointed now b safe_b after_a shape_a a_first.1).shape

  shape_ba : IsShaped (object_states_of (places ((by_line later).after a after_b)))
  shape_ba = (line_pointed later a safe_a after_b shape_b b_first.1).shape

  module _ (q : Path) (plain : has_staging q ≡ false) where
    abbrev IsSwapped : Type 0
    IsSwapped = object_states_of (places ((by_line now).after b after_a)) q ≡ object_states_of (places ((by_line later).after a after_b)) q

    by_a : governs b q ≡ false → IsSwapped
    by_a away =
        (each_kept now b safe_b.is after_a shape_a).frame q plain away
        ∙ sym (leaves_same a safe_a now later t after_b shape shape_b a_first.0 b_first.1 sources_a q plain
        b_leaves_reached (b_leaves q plain away))

    by_b : governs a q ≡ false → IsSwapped
    by_b away =
        leaves_same b safe_b later now t after_a shape shape_a b_first.0 a_first.1 sources_b q plain
        a_leaves_reached (a_leaves q plain away)
        ∙ sym ((each_kept later a safe_a.is after_b shape_b).frame q plain away)

    -- a path that a line makes as a parent, and does not reach
    parent_of : (line : Line) → reaches line q ≡ false → governs line q ≡ true → (is_creating line ≡ true) × (is_prefix q (path_in line.path) ≡ true) × (same_path (path_in line.path) q ≡ false)
    parent_of line none governed = (two.0, two.1, sym (own_name line two.0 q) ∙ (or_parts (names line q) (reaches_below line && names_above line q) none).0)
      where
        two : (is_creating line ≡ true) × (is_prefix q (path_in line.path) ≡ true)
        two = and_parts (is_creating line) (is_prefix q (path_in line.path)) (sym (ap (λ c. c || (is_creating line && is_prefix q (path_in line.path))) none) ∙ governed)

    by_both : has_names q ≡ true → governs a q ≡ true → governs b q ≡ true → IsSwapped
    by_both named in_a in_b =
        of_b.2 ∙ ap (filled of_b.0) of_a.1 ∙ filled_swap of_b.0 of_a.0 (object_states_of (places t) q) ∙ ap (filled of_a.0) (sym of_b.1) ∙ sym of_a.2
      where
        as_a : (is_creating a ≡ true) × (is_prefix q (path_in a.path) ≡ true) × (same_path (path_in a.path) q ≡ false)
        as_a = parent_of a (first_false (reaches a q) (governs b q) in_b (meet_none q named).0) in_a

        as_b : (is_creating b ≡ true) × (is_prefix q (path_in b.path) ≡ true) × (same_path (path_in b.path) q ≡ false)
        as_b = parent_of b (first_false (reaches b q) (governs a q) in_a (meet_none q named).1) in_b

        of_a : (c : Bool) × (object_states_of (places after_a) q ≡ filled c (object_states_of (places t) q)) × (object_states_of (places ((by_line later).after a after_b)) q ≡ filled c (object_states_of (places after_b) q))
        of_a = parents_alike a safe_a now later t after_b shape shape_b a_first.0 b_first.1 sources_a q plain as_a.0 as_a.1 as_a.2

        of_b : (c : Bool) × (object_states_of (places after_b) q ≡ filled c (object_states_of (places t) q)) × (object_states_of (places ((by_line now).after b after_a)) q ≡ filled c (object_states_of (places after_a) q))
        of_b = parents_alike b safe_b later now t after_a shape shape_a b_first.0 a_first.1 sources_b q plain as_b.0 as_b.1 as_b.2

    swapped_here : IsSwapped
    swapped_here = same_unnamed (object_states_of (places ((by_line now).after b after_a))) (object_states_of (places ((by_line later).after a after_b))) shape_ab shape_ba q plain (λ named. by named (governs a q) refl (governs b q) refl)
      where
        by : has_names q ≡ true → (c : Bool) → governs a q ≡ c → (d : Bool) → governs b q ≡ d → IsSwapped
        by named c e false f = by_a f
        by named false e true f = by_b e
        by named true e true f = by_both named e f

  pub lines_commute : Same (after_each (by_line now) (a ∷ b ∷ []) t) (after_each (by_line later) (b ∷ a ∷ []) t)
  lines_commute q plain = object_states-same (places ((by_line now).after b after_a)) (places ((by_line later).after a after_b)) q (swapped_here q plain)
