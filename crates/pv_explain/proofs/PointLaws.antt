-- What a line leaves at some paths depends on the object there alone, where all above them are among them and what it
-- copies is there too.
use Rattle.std.specs.Prelude.{◌≡◌, ◌≢◌, ℕ, Bool, true, false, not, cond, ◌&&◌, ◌||◌, List, [], ◌∷◌, ◌++◌, length, take, map, Option, Some, None, is_some, option_map, unwrap_or}
use Rattle.std.proofs.Common.{refl, sym, ap, subst, ◌∙◌, append_assoc}
use Rattle.std.proofs.lemmas.Bool.{and_parts}
use Rattle.std.proofs.lemmas.List.{append-nil}
use Rattle.std.specs.FinMap as fin
use Rattle.std.specs.List.{filter_map, list_all, list_any, range_with_len}
use Rattle.std.specs.Option.{option_map_or}
use Rattle.std.specs.Ordering.{eq_by_cmp}
use Rattle.pv_walk.specs.declared.object_state.ObjectState.{ObjectState}
use Rattle.pv_walk.specs.declared.operation.Operation.{Operation}
use Rattle.pv_walk.specs.Operations.{run}
use Rattle.pv_laws.proofs.Copies.{decide_some}
use Rattle.pv_laws.proofs.CopyShapes.{IsCopyTurn, puts, becomes, leaves, copy_turns}
use Rattle.pv_laws.proofs.Points.{get-tabulated}
use Rattle.pv_laws.proofs.Sets.{is_adjustment, adjusted_none, adjusted_some, asked, sets_adjust}
use Rattle.pv_lines.specs.declared.line.Line.{Line}
use Rattle.pv_lines.specs.declared.line.LinePath.TheVariants.{Literal}
use Rattle.pv_path.specs.Paths.{Path, path_cmp, same_path, is_prefix, rest_under, has_staging, same_path-decides}
use Rattle.pv_path.proofs.PathLaws.{is_prefix-take, not_prefix_not_same, is_some-rest_under, rest_under-Some, rest_under-None, tied-equal}
use Rattle.pv_path.proofs.Tests.{true_not_false}
use Rattle.pv_steps.proofs.StepLaws.{is_among, among_right, among_left, later_among}
use Rattle.pv_table.specs.declared.action.Copying.{Copying}
use Rattle.pv_table.specs.declared.action.Action.{Action}
use Rattle.pv_table.specs.declared.action.Action.TheVariants.{Create, Copy, Adjust, Idle}
use Rattle.pv_table.specs.declared.action.Making.{Making}
use Rattle.pv_table.specs.declared.action.Adjustment.{Adjustment}
use Rattle.pv_table.specs.ActionTable.{action_of}
use Rattle.pv_table.specs.Pointwise.{ObjectStates, view, parent_object_state, after_turn, at_made, adjusts_path, point, point_paths, pointwise_after, tabulated}
use Rattle.pv_table.specs.Reaching.{names, names_in, names_above, path_in}
use Rattle.pv_table.specs.Repeatable.{sets_of}
use Rattle.pv_table.specs.Turns.{Turn, copy_of, copying_turn, decide, making_turn, topped_by}
use Rattle.pv_walk.specs.Copying.{single}
use Rattle.pv_walk.proofs.CopiedLaws.{among_copied}
use Rattle.pv_walk.proofs.PreparedLaws.{has_some, in_parents, among_first, stands_among}
use Rattle.pv_walk.specs.Preparing.{parents_of}
use Rattle.pv_explain.specs.Following.{IsWithin}

-- ---- the definition, by what a line asks for

point_made : (line : Line) (making : Making) (s : ObjectStates) (q : Path) → action_of line ≡ Create making → point line s q ≡ at_made (Create making) (path_in line.path) s q
point_made line making s q e = rw e

pub point_copy : (line : Line) (copying : Copying) (s : ObjectStates) (q : Path) → action_of line ≡ Copy copying → point line s q ≡ cond (is_some (fin.get s copying.source)) (at_made (Copy copying) (path_in line.path) s q) (fin.get s q)
point_copy line copying s q e = rw e

point_adjust : (line : Line) (adjustment : Adjustment) (s : ObjectStates) (q : Path) → action_of line ≡ Adjust adjustment → point line s q ≡ cond (adjusts_path line adjustment q) (run adjustment.sets (fin.get s q)) (fin.get s q)
point_adjust line adjustment s q e = rw e

point_idle : (line : Line) (s : ObjectStates) (q : Path) → action_of line ≡ Idle → point line s q ≡ fin.get s q
point_idle line s q e = rw e

paths_made : (line : Line) (making : Making) (s : ObjectStates) → action_of line ≡ Create making → point_paths line s ≡ path_in line.path ∷ parents_of (path_in line.path)
paths_made line making s e = rw e

paths_copy : (line : Line) (copying : Copying) (s : ObjectStates) → action_of line ≡ Copy copying
    → point_paths line s ≡ path_in line.path ∷ (parents_of (path_in line.path) ++ map (λ rest. path_in line.path ++ rest) (filter_map (rest_under copying.source) (fin.keys s)))
paths_copy line copying s e = rw e

-- what is done at a path, by where another lies
abbrev pub placed_by : Bool → Option Path → Turn → Option ObjectState → Option ObjectState
placed_by above rest turn b = cond above (Some (unwrap_or b parent_object_state)) (option_map_or (λ (r : Path). after_turn turn r b) rest b)

adjusting : (line : Line) (action : Action) → action_of line ≡ action → list_all is_adjustment (sets_of action) ≡ true
adjusting line action e = subst (λ (d : Action). list_all is_adjustment (sets_of d) ≡ true) e (sets_adjust line (action_of line) (asked line))

root_some : (q : Path) → q ≢ [] → has_some q ≡ true
root_some [] other = absurd (other refl)
root_some (name ∷ q) other = refl

module _ (making : Making) where
  -- nothing comes to stand below what is made
  made_below : (o : Option ObjectState) (name : List ℕ) (rest : Path) → after_turn (making_turn making o) (name ∷ rest) None ≡ None
  made_below None name rest = refl
  made_below (Some b) name rest = by _ _ _
    where
      by : (c d : Bool) (new : ObjectState) → after_turn (cond c (Turn.Put (single new)) (cond d (Turn.Become making.sets) (Turn.Left b.body.kind))) (name ∷ rest) None ≡ None
      by true d new = refl
      by false true new = refl
      by false false new = refl

  -- what stands where something is made is not taken away
  made_there : list_all is_adjustment making.sets ≡ true → (b : ObjectState) → is_some (after_turn (making_turn making (Some b)) [] (Some b)) ≡ true
  made_there adjust b = by _ _ _
    where
      by : (c d : Bool) (new : ObjectState) → is_some (after_turn (cond c (Turn.Put (single new)) (cond d (Turn.Become making.sets) (Turn.Left b.body.kind))) [] (Some b)) ≡ true
      by true d new = refl
      by false true new = ap is_some (adjusted_some making.sets adjust b).1
      by false false new = refl

-- ---- which paths are looked at

module _ (line : Line) (s : ObjectStates) (root : is_some (fin.get s []) ≡ true) (q : Path) where
  keyed : is_some (fin.get s q) ≡ true → is_among q (point_paths line s ++ fin.keys s) ≡ true
  keyed there = among_right q (point_paths line s) (fin.keys s) (sym (fin.contains_key-keys s q) ∙ there)

  module _ (making : Making) (e : action_of line ≡ Create making) where
    abbrev path : Path
    path = path_in line.path

    among_made : is_among q (path ∷ (parents_of path ++ fin.keys s)) ≡ true → is_among q (point_paths line s ++ fin.keys s) ≡ true
    among_made g = ap (λ ps. is_among q (ps ++ fin.keys s)) (paths_made line making s e) ∙ g

    made_listed : is_some (placed_by (is_prefix q path && not (same_path q path)) (rest_under path q) (making_turn making (fin.get s path)) (fin.get s q)) ≡ true → is_among q (point_paths line s ++ fin.keys s) ≡ true
    made_listed h = by (fin.get s q) refl h
      where
        here : path ≡ q → is_among q (point_paths line s ++ fin.keys s) ≡ true
        here same = among_made (subst (λ (p : Path). is_among p (path ∷ (parents_of path ++ fin.keys s)) ≡ true) same (among_first path (parents_of path ++ fin.keys s)))

        parent : q ≢ [] → q ≢ path → is_prefix q path ≡ true → is_among q (point_paths line s ++ fin.keys s) ≡ true
        parent low other high = among_made (later_among path q (parents_of path ++ fin.keys s) (among_left q (parents_of path) (fin.keys s) (stands_among q (parents_of path) (
            in_parents q path other ∙ ap (λ b. b && has_some q) high ∙ root_some q low))))

        below : (r : Option Path) → rest_under path q ≡ r → is_some (option_map_or (λ (rest : Path). after_turn (making_turn making (fin.get s path)) rest None) r None) ≡ true → is_among q (point_paths line s ++ fin.keys s) ≡ true
        below None f g = let no : false ≡ true = g in cc
        below (Some []) f g = here (sym (rest_under-Some path q [] f ∙ append-nil path))
        below (Some (name ∷ rest)) f g = let no : false ≡ true = sym (ap is_some (made_below making (fin.get s path) name rest)) ∙ g in cc

        new : fin.get s q ≡ None → (a : Bool) → is_prefix q path ≡ a → (c : Bool) → same_path q path ≡ c
            → is_some (placed_by (a && not c) (rest_under path q) (making_turn making (fin.get s path)) None) ≡ true
            → is_among q (point_paths line s ++ fin.keys s) ≡ true
        new none true high true same g = here (sym ((same_path-decides q path).0 same))
        new none true high false same g =
            parent (λ at_root. true_not_false (is_some (fin.get s q)) (ap (λ (p : Path). is_some (fin.get s p)) at_root ∙ root) (ap is_some none))
            (λ is. true_not_false (same_path q path) ((same_path-decides q path).1 is) same) high
        new none false high c same g = below (rest_under path q) refl g

        by : (b : Option ObjectState) → fin.get s q ≡ b → is_some (placed_by (is_prefix q path && not (same_path q path)) (rest_under path q) (making_turn making (fin.get s path)) b) ≡ true → is_among q (point_paths line s ++ fin.keys s) ≡ true
        by None f g = new f (is_prefix q path) refl (same_path q path) refl g
        by (Some x) f g = keyed (ap is_some f)

  module _ (copying : Copying) (e : action_of line ≡ Copy copying) where
    abbrev own : Path
    own = path_in line.path

    abbrev copies : List Path
    copies = map (λ rest. own ++ rest) (filter_map (rest_under copying.source) (fin.keys s))

    among_copy : is_among q (own ∷ ((parents_of own ++ copies) ++ fin.keys s)) ≡ true → is_among q (point_paths line s ++ fin.keys s) ≡ true
    among_copy g = ap (λ ps. is_among q (ps ++ fin.keys s)) (paths_copy line copying s e) ∙ g

    copy_here : own ≡ q → is_among q (point_paths line s ++ fin.keys s) ≡ true
    copy_here same = among_copy (subst (λ (p : Path). is_among p (own ∷ ((parents_of own ++ copies) ++ fin.keys s)) ≡ true) same (among_first own ((parents_of own ++ copies) ++ fin.keys s)))

    copy_parent : (p : Path) → q ≡ p → q ≢ own → is_prefix q own ≡ true → is_among q (point_paths line s ++ fin.keys s) ≡ true
    copy_parent [] f other high = keyed (ap (λ (p : Path). is_some (fin.get s p)) f ∙ root)
    copy_parent (name ∷ p) f other high = among_copy (later_among own q ((parents_of own ++ copies) ++ fin.keys s) (
        subst (λ (ps : List Path). is_among q ps ≡ true) (sym (append_assoc (parents_of own) copies (fin.keys s))) (
        among_left q (parents_of own) (copies ++ fin.keys s) (stands_among q (parents_of own) (in_parents q own other ∙ ap (λ b. b && has_some q) high ∙ ap has_some f)))))

    copy_below : (name : List ℕ) (rest : Path) → q ≡ own ++ name ∷ rest → is_some (copy_of copying (view s) (name ∷ rest)) ≡ true → is_among q (point_paths line s ++ fin.keys s) ≡ true
    copy_below name rest f h = by (has_staging (name ∷ rest)) h
      where
        by : (c : Bool) → is_some (cond c None (fin.get s (copying.source ++ name ∷ rest))) ≡ true → is_among q (point_paths line s ++ fin.keys s) ≡ true
        by true g = let no : false ≡ true = g in cc
        by false g = among_copy (later_among own q ((parents_of own ++ copies) ++ fin.keys s) (
            among_left q (parents_of own ++ copies) (fin.keys s) (among_right q (parents_of own) copies (
            subst (λ (p : Path). is_among p copies ≡ true) (sym f) (among_copied copying.source own (name ∷ rest) (fin.keys s) (sym (fin.contains_key-keys s (copying.source ++ name ∷ rest)) ∙ g))))))

    turn_listed : (turn : Turn) → IsCopyTurn copying (view s) turn → (rest : Path) → rest_under own q ≡ Some rest → is_some (after_turn turn rest (fin.get s q)) ≡ true → is_among q (point_paths line s ++ fin.keys s) ≡ true
    turn_listed turn way [] f h = copy_here (sym (rest_under-Some own q [] f ∙ append-nil own))
    turn_listed turn (puts g) (name ∷ rest) f h = copy_below name rest (rest_under-Some own q (name ∷ rest) f) (sym (ap (λ x. is_some (after_turn x (name ∷ rest) (fin.get s q))) g) ∙ h)
    turn_listed turn (becomes g) (name ∷ rest) f h = keyed (sym (ap (λ x. is_some (after_turn x (name ∷ rest) (fin.get s q))) g) ∙ h)
    turn_listed turn (leaves kind g) (name ∷ rest) f h = keyed (sym (ap (λ x. is_some (after_turn x (name ∷ rest) (fin.get s q))) g) ∙ h)

    copy_listed : is_some (cond (is_some (fin.get s copying.source)) (at_made (Copy copying) own s q) (fin.get s q)) ≡ true → is_among q (point_paths line s ++ fin.keys s) ≡ true
    copy_listed h = from (fin.get s copying.source) refl h
      where
        inside : (b : ObjectState) → fin.get s copying.source ≡ Some b → (o : Option Path) → rest_under own q ≡ o
            → is_some (option_map_or (λ rest. after_turn (decide (Copy copying) (view s) own) rest (fin.get s q)) o (fin.get s q)) ≡ true → is_among q (point_paths line s ++ fin.keys s) ≡ true
        inside b f None g k = keyed k
        inside b f (Some rest) g k = turn_listed (copying_turn copying (view s) own b.body.kind (fin.get s own)) (copy_turns copying (view s) own b.body.kind (fin.get s own)) rest g
            (sym (ap (λ turn. is_some (after_turn turn rest (fin.get s q))) (decide_some copying (view s) own b f)) ∙ k)

        by : (b : ObjectState) → fin.get s copying.source ≡ Some b → (a : Bool) → is_prefix q own ≡ a → (c : Bool) → same_path q own ≡ c
            → is_some (placed_by (a && not c) (rest_under own q) (decide (Copy copying) (view s) own) (fin.get s q)) ≡ true
            → is_among q (point_paths line s ++ fin.keys s) ≡ true
        by b f true high true same g = copy_here (sym ((same_path-decides q own).0 same))
        by b f true high false same g = copy_parent q refl (λ is. true_not_false (same_path q own) ((same_path-decides q own).1 is) same) high
        by b f false high c same g = inside b f (rest_under own q) refl g

        from : (o : Option ObjectState) → fin.get s copying.source ≡ o → is_some (cond (is_some o) (at_made (Copy copying) own s q) (fin.get s q)) ≡ true → is_among q (point_paths line s ++ fin.keys s) ≡ true
        from None f g = keyed g
        from (Some b) f g = by b f (is_prefix q own) refl (same_path q own) refl g

  adjust_listed : (adjustment : Adjustment) → action_of line ≡ Adjust adjustment → is_some (cond (adjusts_path line adjustment q) (run adjustment.sets (fin.get s q)) (fin.get s q)) ≡ true → is_among q (point_paths line s ++ fin.keys s) ≡ true
  adjust_listed adjustment e h = by (fin.get s q) refl h
    where
      none : (c : Bool) → is_some (cond c (run adjustment.sets None) None) ≡ true → is_among q (point_paths line s ++ fin.keys s) ≡ true
      none true g = let no : false ≡ true = sym (ap is_some (adjusted_none adjustment.sets (adjusting line (Adjust adjustment) e))) ∙ g in cc
      none false g = let no : false ≡ true = g in cc

      by : (b : Option ObjectState) → fin.get s q ≡ b → is_some (cond (adjusts_path line adjustment q) (run adjustment.sets b) b) ≡ true → is_among q (point_paths line s ++ fin.keys s) ≡ true
      by None f g = none (adjusts_path line adjustment q) g
      by (Some x) f g = keyed (ap is_some f)

  -- what a line leaves at a path, from the object at all
  pub pointed : fin.get (pointwise_after s line) q ≡ point line s q
  pointed = get-tabulated (point_paths line s ++ fin.keys s) (point line s) q (by (action_of line) refl)
    where
      by : (d : Action) → action_of line ≡ d → is_some (point line s q) ≡ true → is_among q (point_paths line s ++ fin.keys s) ≡ true
      by (Create making) e h = made_listed making e (sym (ap is_some (point_made line making s q e)) ∙ h)
      by (Copy copying) e h = copy_listed copying e (sym (ap is_some (point_copy line copying s q e)) ∙ h)
      by (Adjust adjustment) e h = adjust_listed adjustment e (sym (ap is_some (point_adjust line adjustment s q e)) ∙ h)
      by Idle e h = keyed (sym (ap is_some (point_idle line s q e)) ∙ h)

  -- what a line does not change stays
  pub unchanged : point line s q ≡ fin.get s q → fin.get (pointwise_after s line) q ≡ fin.get s q
  unchanged same = get-tabulated (point_paths line s ++ fin.keys s) (point line s) q (λ h. keyed (sym (ap is_some same) ∙ h)) ∙ same

-- ---- the root

root_point : (line : Line) (s : ObjectStates) → is_some (fin.get s []) ≡ true → is_some (point line s []) ≡ true
root_point line s root = by (action_of line) refl
  where
    made : (making : Making) → list_all is_adjustment making.sets ≡ true → (path : Path) → (b : Option ObjectState) → is_some b ≡ true → (path ≡ [] → fin.get s path ≡ b)
        → is_some (placed_by (is_prefix [] path && not (same_path [] path)) (rest_under path []) (making_turn making (fin.get s path)) b) ≡ true
    made making adjust path None there at = let no : false ≡ true = there in cc
    made making adjust [] (Some x) there at = ap (λ (o : Option ObjectState). is_some (after_turn (making_turn making o) [] (Some x))) (at refl) ∙ made_there making adjust x
    made making adjust (name ∷ path) (Some x) there at = refl

    touched : (xs : List Operation) → list_all is_adjustment xs ≡ true → (c : Bool) (b : Option ObjectState) → is_some b ≡ true → is_some (cond c (run xs b) b) ≡ true
    touched xs adjust c None there = let no : false ≡ true = there in cc
    touched xs adjust true (Some x) there = ap is_some (adjusted_some xs adjust x).1
    touched xs adjust false (Some x) there = refl

    turned : (copying : Copying) → list_all is_adjustment copying.sets ≡ true → (turn : Turn) → IsCopyTurn copying (view s) turn → (x : ObjectState) → fin.get s copying.source ≡ Some x → (o : Option ObjectState) → is_some o ≡ true → is_some (after_turn turn [] o) ≡ true
    turned copying adjust turn way x f None there = let no : false ≡ true = there in cc
    turned copying adjust turn (puts g) x f (Some b) there = ap (λ t. is_some (after_turn t [] (Some b))) g ∙ ap (λ (o : Option ObjectState). is_some (option_map (topped_by copying) o)) f
    turned copying adjust turn (becomes g) x f (Some b) there = ap (λ t. is_some (after_turn t [] (Some b))) g ∙ ap is_some (adjusted_some copying.sets adjust b).1
    turned copying adjust turn (leaves kind g) x f (Some b) there = ap (λ t. is_some (after_turn t [] (Some b))) g

    placed : (copying : Copying) → list_all is_adjustment copying.sets ≡ true → (x : ObjectState) → fin.get s copying.source ≡ Some x → (path : Path)
        → is_some (placed_by (is_prefix [] path && not (same_path [] path)) (rest_under path []) (decide (Copy copying) (view s) path) (fin.get s [])) ≡ true
    placed copying adjust x f [] =
        ap (λ turn. is_some (after_turn turn [] (fin.get s []))) (decide_some copying (view s) [] x f)
        ∙ turned copying adjust (copying_turn copying (view s) [] x.body.kind (fin.get s [])) (copy_turns copying (view s) [] x.body.kind (fin.get s [])) x f (fin.get s []) root
    placed copying adjust x f (name ∷ path) = refl

    copying_root : (copying : Copying) → list_all is_adjustment copying.sets ≡ true → (o : Option ObjectState) → fin.get s copying.source ≡ o
        → is_some (cond (is_some o) (at_made (Copy copying) (path_in line.path) s []) (fin.get s [])) ≡ true
    copying_root copying adjust None f = root
    copying_root copying adjust (Some x) f = placed copying adjust x f (path_in line.path)

    by : (d : Action) → action_of line ≡ d → is_some (point line s []) ≡ true
    by (Create making) e = ap is_some (point_made line making s [] e) ∙ made making (adjusting line (Create making) e) (path_in line.path) (fin.get s []) root (λ is. ap (fin.get s) is)
    by (Copy copying) e = ap is_some (point_copy line copying s [] e) ∙ copying_root copying (adjusting line (Copy copying) e) (fin.get s copying.source) refl
    by (Adjust adjustment) e = ap is_some (point_adjust line adjustment s [] e) ∙ touched adjustment.sets (adjusting line (Adjust adjustment) e) (adjusts_path line adjustment []) (fin.get s []) root
    by Idle e = ap is_some (point_idle line s [] e) ∙ root

neither : (a d b c : Bool) → a ≡ false → b ≡ false → (a || (d && b && c)) ≡ false
neither true d b c e f = cc
neither false true true c e f = cc
neither false true false c e f = refl
neither false false b c e f = refl

no_test : (f : ℕ → Bool) (ks : List ℕ) → ((k : ℕ) → f k ≡ false) → list_any f ks ≡ false
no_test f [] h = refl
no_test f (k ∷ ks) h = ap (λ b. b || list_any f ks) (h k) ∙ no_test f ks h

-- ---- some paths, and all above them

module _ (held : Path → Bool) (up : (p q : Path) → is_prefix p q ≡ true → held q ≡ true → held p ≡ true) (line : Line) (r s : ObjectStates) (within : IsWithin held r s) where
  module _ (q : Path) (here : held q ≡ true) where
    -- what a line leaves
    alike : ((copying : Copying) → action_of line ≡ Copy copying → point line r q ≡ point line s q) → point line r q ≡ point line s q
    alike copies = by (action_of line) refl
      where
        rest : (making : Making) (o : Option Path) → rest_under (path_in line.path) q ≡ o
            → option_map_or (λ (r' : Path). after_turn (making_turn making (fin.get r (path_in line.path))) r' (fin.get r q)) o (fin.get r q)
            ≡ option_map_or (λ (r' : Path). after_turn (making_turn making (fin.get s (path_in line.path))) r' (fin.get s q)) o (fin.get s q)
        rest making None f = within.same q here
        rest making (Some r') f =
            ap (λ (o : Option ObjectState). after_turn (making_turn making o) r' (fin.get r q)) (within.same (path_in line.path) (up (path_in line.path) q (sym (is_some-rest_under (path_in line.path) q) ∙ ap is_some f) here))
            ∙ ap (after_turn (making_turn making (fin.get s (path_in line.path))) r') (within.same q here)

        made : (making : Making) → (a : Bool)
            → placed_by a (rest_under (path_in line.path) q) (making_turn making (fin.get r (path_in line.path))) (fin.get r q) ≡ placed_by a (rest_under (path_in line.path) q) (making_turn making (fin.get s (path_in line.path))) (fin.get s q)
        made making true = ap (λ (o : Option ObjectState). Some (unwrap_or o parent_object_state)) (within.same q here)
        made making false = rest making (rest_under (path_in line.path) q) refl

        by : (d : Action) → action_of line ≡ d → point line r q ≡ point line s q
        by (Create making) e = point_made line making r q e ∙ made making (is_prefix q (path_in line.path) && not (same_path q (path_in line.path))) ∙ sym (point_made line making s q e)
        by (Copy copying) e = copies copying e
        by (Adjust adjustment) e = point_adjust line adjustment r q e ∙ ap (λ (o : Option ObjectState). cond (adjusts_path line adjustment q) (run adjustment.sets o) o) (within.same q here) ∙ sym (point_adjust line adjustment s q e)
        by Idle e = point_idle line r q e ∙ within.same q here ∙ sym (point_idle line s q e)

    -- a line of a path that is not among them leaves what there is, where the places above both are there
    aside : ((p : Path) → names line p ≡ same_path (path_in line.path) p) → held (path_in line.path) ≡ false → (is_prefix q (path_in line.path) ≡ true → is_some (fin.get r q) ≡ true) → point line s q ≡ fin.get s q
    aside named apart there = by (action_of line) refl
      where
        filled : (o : Option ObjectState) → is_some o ≡ true → Some (unwrap_or o parent_object_state) ≡ o
        filled None h = let no : false ≡ true = h in cc
        filled (Some x) h = refl

        under : (p : Path) → held p ≡ true → is_prefix (path_in line.path) p ≡ false
        under p inside = at (is_prefix (path_in line.path) p) refl
          where
            at : (b : Bool) → is_prefix (path_in line.path) p ≡ b → b ≡ false
            at false f = refl
            at true f = absurd (true_not_false (held (path_in line.path)) (up (path_in line.path) p f inside) apart)

        unnamed : (p : Path) → held p ≡ true → names line p ≡ false
        unnamed p inside = named p ∙ not_prefix_not_same (path_in line.path) p (under p inside)

        untouched : (adjustment : Adjustment) → adjusts_path line adjustment q ≡ false
        untouched adjustment = neither (names line q) adjustment.deep (names_above line q) (not (has_staging q)) (unnamed q here)
            (no_test (λ k. names line (take k q)) (range_with_len 0 (length q)) (λ k. unnamed (take k q) (up (take k q) q (is_prefix-take k q) here)))

        placed : (turn : Turn) (a : Bool) → is_prefix q (path_in line.path) ≡ a → (c : Bool) → placed_by (a && c) (rest_under (path_in line.path) q) turn (fin.get s q) ≡ fin.get s q
        placed turn true f true = filled (fin.get s q) (sym (ap is_some (within.same q here)) ∙ there f)
        placed turn true f false = ap (λ (o : Option Path). option_map_or (λ (r' : Path). after_turn turn r' (fin.get s q)) o (fin.get s q)) (rest_under-None (path_in line.path) q (under q here))
        placed turn false f c = ap (λ (o : Option Path). option_map_or (λ (r' : Path). after_turn turn r' (fin.get s q)) o (fin.get s q)) (rest_under-None (path_in line.path) q (under q here))

        sourced : (copying : Copying) (b : Bool) → cond b (at_made (Copy copying) (path_in line.path) s q) (fin.get s q) ≡ fin.get s q
        sourced copying true = placed (decide (Copy copying) (view s) (path_in line.path)) (is_prefix q (path_in line.path)) refl (not (same_path q (path_in line.path)))
        sourced copying false = refl

        by : (d : Action) → action_of line ≡ d → point line s q ≡ fin.get s q
        by (Create making) e = point_made line making s q e ∙ placed (decide (Create making) (view s) (path_in line.path)) (is_prefix q (path_in line.path)) refl (not (same_path q (path_in line.path)))
        by (Copy copying) e = point_copy line copying s q e ∙ sourced copying (is_some (fin.get s copying.source))
        by (Adjust adjustment) e = point_adjust line adjustment s q e ∙ ap (λ b. cond b (run adjustment.sets (fin.get s q)) (fin.get s q)) (untouched adjustment)
        by Idle e = point_idle line s q e

  root_there : is_some (fin.get r []) ≡ true
  root_there = ap is_some (within.same [] within.top) ∙ within.root

  -- so it can be carried out on the objects at these paths
  pub within_after : ((copying : Copying) → action_of line ≡ Copy copying → (q : Path) → held q ≡ true → point line r q ≡ point line s q) → IsWithin held (pointwise_after r line) (pointwise_after s line)
  within_after copies = record {
    top = within.top;
    root = ap is_some (pointed line s within.root []) ∙ root_point line s within.root;
    same = λ q here. pointed line r root_there q ∙ alike q here (λ copying e. copies copying e q here) ∙ sym (pointed line s within.root q);
  }

  -- and at places that have all of them
  pub within_at : ((copying : Copying) → action_of line ≡ Copy copying → ⊥) → (paths : List Path) → ((q : Path) → held q ≡ true → is_among q paths ≡ true) → IsWithin held (tabulated paths (point line r)) (pointwise_after s line)
  within_at copies paths all = record {
    top = within.top;
    root = ap is_some (pointed line s within.root []) ∙ root_point line s within.root;
    same = λ q here. get-tabulated paths (point line r) q (λ h. all q here) ∙ alike q here (λ copying e. absurd (copies copying e)) ∙ sym (pointed line s within.root q);
  }

  -- a line aside changes nothing there
  pub within_aside : (own : Path) → line.path ≡ Literal own → held own ≡ false
      → ((q : Path) → held q ≡ true → is_prefix q own ≡ true → is_some (fin.get r q) ≡ true) → IsWithin held r (pointwise_after s line)
  within_aside own e apart there =
      let own_is : path_in line.path ≡ own = ap path_in e in
      let named : (p : Path) → names line p ≡ same_path (path_in line.path) p = λ p. ap (λ x. names_in x p) e ∙ ap (λ (o : Path). same_path o p) (sym own_is) in
      let stays : (q : Path) → held q ≡ true → fin.get (pointwise_after s line) q ≡ fin.get s q = λ q here.
      unchanged line s within.root q (aside q here named (ap held own_is ∙ apart) (λ above. there q here (ap (is_prefix q) (sym own_is) ∙ above))) in
      record {
        top = within.top;
        root = ap is_some (stays [] within.top) ∙ within.root;
        same = λ q here. within.same q here ∙ sym (stays q here);
      }

-- what a test says of some paths it says of each of them
test_first : (f : Path → Bool) (q p : Path) (ps : List Path) → f p ≡ true → (is_among q ps ≡ true → f q ≡ true) → is_among q (p ∷ ps) ≡ true → f q ≡ true
test_first f q p ps first rest g = by (eq_by_cmp path_cmp q p) refl g
  where
    by : (b : Bool) → eq_by_cmp path_cmp q p ≡ b → (b || is_among q ps) ≡ true → f q ≡ true
    by true e k = ap f (tied-equal q p e) ∙ first
    by false e k = rest k

pub test_among : (f : Path → Bool) (q : Path) (ps : List Path) → list_all f ps ≡ true → is_among q ps ≡ true → f q ≡ true
test_among f q [] h g = let no : false ≡ true = g in cc
test_among f q (p ∷ ps) h g = let both = and_parts (f p) (list_all f ps) h in test_first f q p ps both.0 (test_among f q ps both.1) g
