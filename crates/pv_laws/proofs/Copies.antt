-- What a line that copies, and is not refused, leaves at each path by itself, timestamps and staging names aside.
use Rattle.std.specs.Prelude.{◌≡◌, ◌≢◌, ◌⊎◌, ℕ, Bool, true, false, not, cond, ◌&&◌, ◌||◌, List, [], ◌∷◌, ◌++◌, Option, Some, None, is_some, option_map, unwrap_or, if◌then◌else◌}
use Rattle.std.proofs.Common.{refl, sym, ap, subst, ◌∙◌, inl, inr, arith}
use Rattle.std.specs.FinMap as fin
use Rattle.std.specs.List.{list_all}
use Rattle.std.specs.Option.{option_map_or}
use Rattle.std.proofs.lemmas.Bool.{not-true, or_from, false_from_ne_true}
use Rattle.pv_path.specs.Names.{is_staging}
use Rattle.pv_path.specs.Paths.{Path, same_path, is_prefix, rest_under, has_staging, same_path-decides}
use Rattle.pv_path.proofs.PathLaws.{is_prefix-append, is_prefix-trans, is_prefix-antisym, rest_under-self, rest_under-append, is_some-rest_under, has_staging-append, same_path-no}
use Rattle.pv_steps.specs.declared.node.Kind.{Kind}
use Rattle.pv_steps.specs.Objects.{is_directory}
use Rattle.pv_steps.specs.Trees.{Files, places, child_name}
use Rattle.pv_steps.proofs.NameLaws.{child_name-Some}
use Rattle.pv_steps.proofs.StepLaws.{is_among, among_keys, later_among}
use Rattle.pv_walk.specs.declared.object_state.ObjectState.{ObjectState}
use Rattle.pv_walk.specs.Nodes.{object_states_of, same_kind}
use Rattle.pv_walk.proofs.EditLaws.{path_cases}
use Rattle.pv_table.specs.declared.action.Copying.{Copying}
use Rattle.pv_table.specs.declared.action.Action.TheVariants.{Copy}
use Rattle.pv_table.specs.Effects.{turned, prepare, carried_out}
use Rattle.pv_table.specs.Pointwise.{ObjectStates, view, parent_object_state, after_turn, at_made}
use Rattle.pv_table.specs.Turns.{Turn, View, view_of, topped_by, copy_of, is_visible_child, is_childless, copying_turn, decide}
use Rattle.pv_laws.specs.Moments.{Agree}
use Rattle.pv_laws.proofs.Making.{IsShaped, IsDone, left_done, put_done, become_done, ready_here, ready_else}
use Rattle.pv_table.proofs.EffectLaws.{copy_keyed}
use Rattle.pv_walk.proofs.PreparedLaws.{among_first, among_others}
use Rattle.pv_laws.proofs.Prepared.{filled, object_state_some}
use Rattle.pv_laws.proofs.Sets.{impossible, is_adjustment}
use Rattle.pv_path.proofs.Tests.{same_tests, true_not_false}

-- ---- what is done at the path

module _ (now : ℕ) (copying : Copying) (path : Path) (u : Files) where
  copy_done : IsDone now (Copy copying) path u (Turn.Put (copy_of copying (view_of u)))
  copy_done = put_done now (Copy copying) path u (copy_of copying (view_of u)) (copy_keyed copying path u)

  pub copying_done : list_all is_adjustment copying.sets ≡ true → (kind : Kind) (b : Option ObjectState) → IsDone now (Copy copying) path u (copying_turn copying (view_of u) path kind b)
  copying_done adjust kind None = copy_done
  copying_done adjust kind (Some x) = by (same_kind kind x.body.kind) (is_directory kind && is_childless (view_of u) path) copying.renews
    where
      by : (same empty renews : Bool) → IsDone now (Copy copying) path u (if same then (if empty then Turn.Put (copy_of copying (view_of u)) else Turn.Become copying.sets) else if renews then Turn.Put (copy_of copying (view_of u)) else Turn.Left x.body.kind)
      by true true renews = copy_done
      by true false renews = become_done now (Copy copying) path u copying.sets adjust
      by false empty true = copy_done
      by false empty false = left_done now (Copy copying) path u x.body.kind

-- ---- whether a directory is childless

among_all : (f : Path → Bool) (xs : List Path) → ((q : Path) → is_among q xs ≡ true → f q ≡ true) → list_all f xs ≡ true
among_all f [] each = refl
among_all f (x ∷ xs) each = ap (λ b. b && list_all f xs) (each x (among_first x xs)) ∙ among_all f xs (λ q h. each q (later_among x q xs h))

all_among : (f : Path → Bool) (xs : List Path) → list_all f xs ≡ true → (q : Path) → is_among q xs ≡ true → f q ≡ true
all_among f [] all q h = impossible h
all_among f (x ∷ xs) all q h = by (f x) refl all (path_cases x q) (all_among f xs)
  where
    by : (b : Bool) → f x ≡ b → (b && list_all f xs) ≡ true → (x ≡ q) ⊎ (same_path x q ≡ false) → (list_all f xs ≡ true → (r : Path) → is_among r xs ≡ true → f r ≡ true) → f q ≡ true
    by true e g (inl same) later = ap f (sym same) ∙ e
    by true e g (inr other) later = later g q (among_others q x xs other h)
    by false e g s later = impossible g

-- what has the same visible children is childless alike
pub childless_same : (a b : View) (path : Path) → ((q : Path) → is_visible_child path q ≡ true → is_among q a.paths ≡ is_among q b.paths) → is_childless a path ≡ is_childless b path
childless_same a b path same = same_tests (is_childless a path) (is_childless b path)
    (λ h. among_all (λ q. not (is_visible_child path q)) b.paths (λ q g. by a.paths q (is_visible_child path q) refl h (λ v. same q v ∙ g)))
    (λ h. among_all (λ q. not (is_visible_child path q)) a.paths (λ q g. by b.paths q (is_visible_child path q) refl h (λ v. sym (same q v) ∙ g)))
  where
    by : (paths : List Path) (q : Path) (v : Bool) → is_visible_child path q ≡ v → list_all (λ r. not (is_visible_child path r)) paths ≡ true → (v ≡ true → is_among q paths ≡ true) → not (is_visible_child path q) ≡ true
    by paths q true e h there = all_among (λ r. not (is_visible_child path r)) paths h q (there refl)
    by paths q false e h there = ap not e

-- a visible child has no staging name where its directory has none
child_plain : (path q : Path) → has_staging path ≡ false → is_visible_child path q ≡ true → (name : List ℕ) × (q ≡ path ++ name ∷ []) × (has_staging q ≡ false)
child_plain path q plain h = by (child_name path q) refl h
  where
    by : (o : Option (List ℕ)) → child_name path q ≡ o → option_map_or (λ name. not (is_staging name)) o false ≡ true → (name : List ℕ) × (q ≡ path ++ name ∷ []) × (has_staging q ≡ false)
    by None e g = impossible g
    by (Some name) e g =
        let is : q ≡ path ++ name ∷ [] = child_name-Some path q name e in
        (name, is, ap has_staging is ∙ has_staging-append path (name ∷ []) ∙ or_from (has_staging path) (has_staging (name ∷ [])) plain (or_from (is_staging name) false (not-true (is_staging name) g) refl))

-- ---- the whole turn

-- turns over views that agree leave the same
turns_agree : (copying : Copying) (a b : View) (path : Path) (kind : Kind) (old : Option ObjectState) → is_childless a path ≡ is_childless b path → (rest : Path) (c : Option ObjectState) → copy_of copying a rest ≡ copy_of copying b rest
    → after_turn (copying_turn copying a path kind old) rest c ≡ after_turn (copying_turn copying b path kind old) rest c
turns_agree copying a b path kind None empty rest c same = same
turns_agree copying a b path kind (Some x) empty rest c same = by (same_kind kind x.body.kind) (is_directory kind) (is_childless a path) (is_childless b path) copying.renews empty
  where
    at : (one hollow renews : Bool) → after_turn (if one then (if hollow then Turn.Put (copy_of copying a) else Turn.Become copying.sets) else if renews then Turn.Put (copy_of copying a) else Turn.Left x.body.kind) rest c
        ≡ after_turn (if one then (if hollow then Turn.Put (copy_of copying b) else Turn.Become copying.sets) else if renews then Turn.Put (copy_of copying b) else Turn.Left x.body.kind) rest c
    at true true renews = same
    at true false renews = refl
    at false hollow true = same
    at false hollow false = refl

    by : (one dir va vb renews : Bool) → va ≡ vb → after_turn (if one then (if dir && va then Turn.Put (copy_of copying a) else Turn.Become copying.sets) else if renews then Turn.Put (copy_of copying a) else Turn.Left x.body.kind) rest c
        ≡ after_turn (if one then (if dir && vb then Turn.Put (copy_of copying b) else Turn.Become copying.sets) else if renews then Turn.Put (copy_of copying b) else Turn.Left x.body.kind) rest c
    by one dir va vb renews e =
        at one (dir && va) renews
        ∙ ap (λ v. after_turn (if one then (if dir && v then Turn.Put (copy_of copying b) else Turn.Become copying.sets) else if renews then Turn.Put (copy_of copying b) else Turn.Left x.body.kind) rest c) e

-- turns over views that agree everywhere are the same
pub turns_same : (copying : Copying) (a b : View) (path : Path) (kind : Kind) (old : Option ObjectState) → is_childless a path ≡ is_childless b path → ((rest : Path) → copy_of copying a rest ≡ copy_of copying b rest) → copying_turn copying a path kind old ≡ copying_turn copying b path kind old
turns_same copying a b path kind None empty same = λ i. Turn.Put (λ rest. same rest i)
turns_same copying a b path kind (Some x) empty same = λ i.
    if same_kind kind x.body.kind then (if is_directory kind && empty i then Turn.Put (λ rest. same rest i) else Turn.Become copying.sets)
    else if copying.renews then Turn.Put (λ rest. same rest i) else Turn.Left x.body.kind

-- a directory of which each visible child stands in another is childless where that one is
pub childless_less : (a b : Files) (path : Path) → has_staging path ≡ false
    → ((name : List ℕ) → has_staging (path ++ name ∷ []) ≡ false → is_some (object_states_of (places b) (path ++ name ∷ [])) ≡ true → is_some (object_states_of (places a) (path ++ name ∷ [])) ≡ true)
    → is_childless (view_of a) path ≡ true → is_childless (view_of b) path ≡ true
childless_less a b path plain more empty = among_all (λ q. not (is_visible_child path q)) (fin.keys b) (λ q h. by q h (is_visible_child path q) refl)
  where
    by : (q : Path) → is_among q (fin.keys b) ≡ true → (v : Bool) → is_visible_child path q ≡ v → not (is_visible_child path q) ≡ true
    by q h false e = ap not e
    by q h true e =
        let child = child_plain path q plain e in
        let unstaged : has_staging (path ++ child.0 ∷ []) ≡ false = ap has_staging (sym child.1) ∙ child.2 in
        let there : is_some (object_states_of (places b) (path ++ child.0 ∷ [])) ≡ true = ap (λ (r : Path). is_some (object_states_of (places b) r)) (sym child.1) ∙ object_state_some (places b q) ∙ sym (among_keys b q) ∙ h in
        let also : is_among q (fin.keys a) ≡ true = among_keys a q ∙ sym (object_state_some (places a q)) ∙ ap (λ (r : Path). is_some (object_states_of (places a) r)) child.1 ∙ more child.0 unstaged there in
        all_among (λ r. not (is_visible_child path r)) (fin.keys a) empty q also

pub decide_some : (copying : Copying) (v : View) (path : Path) (b : ObjectState) → v.at copying.source ≡ Some b → decide (Copy copying) v path ≡ copying_turn copying v path b.body.kind (v.at path)
decide_some copying v path b e = rw e

module _ (now : ℕ) (copying : Copying) (adjust : list_all is_adjustment copying.sets ≡ true) (path : Path) (unstaged : has_staging path ≡ false) (plain_source : has_staging copying.source ≡ false)
    (t : Files) (shape : IsShaped (object_states_of (places t))) (b : ObjectState) (present : object_states_of (places t) copying.source ≡ Some b) where
  abbrev ready : Files
  ready = prepare now path t

  abbrev left : Path → Option ObjectState
  left q = object_states_of (places (carried_out now (Copy copying) path t)) q

  -- preparing leaves what is copied as it is
  pub source_ready : object_states_of (places ready) copying.source ≡ object_states_of (places t) copying.source
  source_ready = elim (path_cases copying.source path) [
    | inl same ↦ subst (λ (p : Path). object_states_of (places ready) p ≡ object_states_of (places t) p) (sym same) (ready_here now path unstaged t shape)
    | inr d ↦
        ready_else now path unstaged t shape copying.source plain_source (λ same. true_not_false (same_path copying.source path) ((same_path-decides copying.source path).1 same) d)
        ∙ ap (filled (is_prefix copying.source path)) present ∙ by (is_prefix copying.source path) ∙ sym present
  ]
    where
      by : (c : Bool) → filled c (Some b) ≡ Some b
      by c = grind arith

  abbrev copy_turn : Turn
  copy_turn = copying_turn copying (view_of ready) path b.body.kind (object_states_of (places ready) path)

  opened : carried_out now (Copy copying) path t ≡ turned now (Copy copying) path copy_turn ready
  opened =
      ap (λ c. cond c (turned now (Copy copying) path (decide (Copy copying) (view_of ready) path) ready) t) (sym (object_state_some (places t copying.source)) ∙ ap is_some present)
      ∙ ap (λ turn. turned now (Copy copying) path turn ready) (decide_some copying (view_of ready) path b (source_ready ∙ present))

  is_done : IsDone now (Copy copying) path ready copy_turn
  is_done = copying_done now copying path ready adjust b.body.kind (object_states_of (places ready) path)

  pub left_inside : (q rest : Path) → rest_under path q ≡ Some rest → left q ≡ after_turn copy_turn rest (object_states_of (places ready) q)
  left_inside q rest e = ap (λ (u : Files). object_states_of (places u) q) opened ∙ is_done.inside q rest e

  pub left_outside : (q : Path) → rest_under path q ≡ None → left q ≡ object_states_of (places ready) q
  left_outside q e = ap (λ (u : Files). object_states_of (places u) q) opened ∙ is_done.outside q e

  -- at and below the path what stood there was kept till then
  pub below_ready : (q rest : Path) → has_staging q ≡ false → rest_under path q ≡ Some rest → object_states_of (places ready) q ≡ object_states_of (places t) q
  below_ready q rest plain e = elim (path_cases path q) [
    | inl same ↦ subst (λ (p : Path). object_states_of (places ready) p ≡ object_states_of (places t) p) same (ready_here now path unstaged t shape)
    | inr d ↦
        ready_else now path unstaged t shape q plain (λ same. true_not_false (same_path path q) ((same_path-decides path q).1 (sym same)) d)
        ∙ ap (λ c. filled c (object_states_of (places t) q)) (false_from_ne_true _ (λ f. true_not_false (same_path path q) ((same_path-decides path q).1 (is_prefix-antisym path q under f)) d))
  ]
    where
      under : is_prefix path q ≡ true
      under = sym (is_some-rest_under path q) ∙ ap is_some e

  childless_before : is_childless (view_of ready) path ≡ is_childless (view_of t) path
  childless_before = childless_same (view_of ready) (view_of t) path (λ q visible. by q (child_plain path q unstaged visible))
    where
      by : (q : Path) → (name : List ℕ) × (q ≡ path ++ name ∷ []) × (has_staging q ≡ false) → is_among q (fin.keys ready) ≡ is_among q (fin.keys t)
      by q child =
          among_keys ready q ∙ sym (object_state_some (places ready q))
          ∙ ap is_some (below_ready q (child.0 ∷ []) child.2 (ap (rest_under path) child.1 ∙ rest_under-append path (child.0 ∷ [])))
          ∙ object_state_some (places t q) ∙ sym (among_keys t q)

  -- ---- where what is copied does not lie above the path

  module _ (away : is_prefix copying.source path ≡ false) where
    -- preparing leaves what lies below the source as it is
    source_there : (rest : Path) → has_staging rest ≡ false → object_states_of (places ready) (copying.source ++ rest) ≡ object_states_of (places t) (copying.source ++ rest)
    source_there rest plain =
        ready_else now path unstaged t shape (copying.source ++ rest) (has_staging-append copying.source rest ∙ ap (λ c. c || has_staging rest) plain_source ∙ plain)
        (λ e. true_not_false (is_prefix copying.source path) (ap (is_prefix copying.source) (sym e) ∙ is_prefix-append copying.source rest) away)
        ∙ ap (λ c. filled c (object_states_of (places t) (copying.source ++ rest))) (false_from_ne_true _ (λ e. true_not_false (is_prefix copying.source path) (is_prefix-trans copying.source (copying.source ++ rest) path (is_prefix-append copying.source rest) e) away))

    pub copy_there : (rest : Path) → copy_of copying (view_of ready) rest ≡ copy_of copying (view_of t) rest
    copy_there [] = ap (option_map (topped_by copying)) source_ready
    copy_there (name ∷ rest) = by (has_staging (name ∷ rest)) refl
      where
        by : (c : Bool) → has_staging (name ∷ rest) ≡ c → cond c None (object_states_of (places ready) (copying.source ++ name ∷ rest)) ≡ cond c None (object_states_of (places t) (copying.source ++ name ∷ rest))
        by true e = refl
        by false e = source_there (name ∷ rest) e

    -- the turn, by what stood in the tree
    abbrev pub turn_before : Turn
    turn_before = copying_turn copying (view_of t) path b.body.kind (object_states_of (places t) path)

    turn_same : copy_turn ≡ turn_before
    turn_same =
        turns_same copying (view_of ready) (view_of t) path b.body.kind (object_states_of (places ready) path) childless_before copy_there
        ∙ ap (copying_turn copying (view_of t) path b.body.kind) (ready_here now path unstaged t shape)

    pub decided_before : decide (Copy copying) (view_of ready) path ≡ turn_before
    decided_before = decide_some copying (view_of ready) path b (source_ready ∙ present) ∙ turn_same

    pub left_before : (q rest : Path) → has_staging q ≡ false → rest_under path q ≡ Some rest → left q ≡ after_turn turn_before rest (object_states_of (places t) q)
    left_before q rest plain e =
        left_inside q rest e ∙ ap (λ turn. after_turn turn rest (object_states_of (places ready) q)) turn_same ∙ ap (after_turn turn_before rest) (below_ready q rest plain e)

    -- ---- by itself

    module _ (s : ObjectStates) (agree : Agree s t) where
      copy_agrees : (rest : Path) → copy_of copying (view_of ready) rest ≡ copy_of copying (view s) rest
      copy_agrees rest = copy_there rest ∙ at rest
        where
          at : (r : Path) → copy_of copying (view_of t) r ≡ copy_of copying (view s) r
          at [] = ap (option_map (topped_by copying)) (sym (agree copying.source plain_source))
          at (name ∷ r) = by (has_staging (name ∷ r)) refl
            where
              by : (c : Bool) → has_staging (name ∷ r) ≡ c → cond c None (object_states_of (places t) (copying.source ++ name ∷ r)) ≡ cond c None (fin.get s (copying.source ++ name ∷ r))
              by true e = refl
              by false e = sym (agree (copying.source ++ name ∷ r) (has_staging-append copying.source (name ∷ r) ∙ ap (λ c. c || has_staging (name ∷ r)) plain_source ∙ e))

      childless_agrees : is_childless (view_of ready) path ≡ is_childless (view s) path
      childless_agrees = childless_same (view_of ready) (view s) path (λ q visible. by q (child_plain path q unstaged visible))
        where
          by : (q : Path) → (name : List ℕ) × (q ≡ path ++ name ∷ []) × (has_staging q ≡ false) → is_among q (fin.keys ready) ≡ is_among q (fin.keys s)
          by q child =
              among_keys ready q ∙ sym (object_state_some (places ready q))
              ∙ ap is_some (below_ready q (child.0 ∷ []) child.2 (ap (rest_under path) child.1 ∙ rest_under-append path (child.0 ∷ [])) ∙ sym (agree q child.2))
              ∙ fin.contains_key-keys s q

      decided : decide (Copy copying) (view s) path ≡ copying_turn copying (view s) path b.body.kind (fin.get s path)
      decided = decide_some copying (view s) path b (agree copying.source plain_source ∙ present)

      -- what is done at the path is what the map says
      pub decide_agrees : decide (Copy copying) (view s) path ≡ decide (Copy copying) (view_of ready) path
      decide_agrees =
          decided ∙ ap (copying_turn copying (view s) path b.body.kind) (agree path unstaged ∙ sym (ready_here now path unstaged t shape))
          ∙ sym (turns_same copying (view_of ready) (view s) path b.body.kind (object_states_of (places ready) path) childless_agrees copy_agrees)
          ∙ sym (decide_some copying (view_of ready) path b (source_ready ∙ present))

      abbrev given : Path → Bool → Option Path → Option ObjectState
      given q above rest = cond above (Some (unwrap_or (fin.get s q) parent_object_state)) (option_map_or (λ r. after_turn (decide (Copy copying) (view s) path) r (fin.get s q)) rest (fin.get s q))

      inside_agrees : (q rest : Path) → has_staging q ≡ false → rest_under path q ≡ Some rest → left q ≡ after_turn (decide (Copy copying) (view s) path) rest (fin.get s q)
      inside_agrees q rest plain e =
          left_inside q rest e
          ∙ turns_agree copying (view_of ready) (view s) path b.body.kind (object_states_of (places ready) path) childless_agrees rest (object_states_of (places ready) q) (copy_agrees rest)
          ∙ (λ i. after_turn (copying_turn copying (view s) path b.body.kind ((ready_here now path unstaged t shape ∙ sym (agree path unstaged)) i)) rest ((below_ready q rest plain e ∙ sym (agree q plain)) i))
          ∙ ap (λ turn. after_turn turn rest (fin.get s q)) (sym decided)

      not_above : (q rest : Path) → rest_under path q ≡ Some rest → (is_prefix q path && not (same_path q path)) ≡ false
      not_above q rest e = by (same_path q path) refl (is_prefix q path) refl
        where
          by : (c : Bool) → same_path q path ≡ c → (a : Bool) → is_prefix q path ≡ a → (a && not c) ≡ false
          by true f true g = refl
          by true f false g = refl
          by false f false g = refl
          by false f true g = absurd (true_not_false (same_path q path) ((same_path-decides q path).1 (is_prefix-antisym q path g (sym (is_some-rest_under path q) ∙ ap is_some e))) f)

      pub copied_point : (q : Path) → has_staging q ≡ false → left q ≡ at_made (Copy copying) path s q
      copied_point q plain = by (rest_under path q) refl
        where
          filled_in : (c : Option ObjectState) → filled true c ≡ Some (unwrap_or c parent_object_state)
          filled_in c = grind arith

          none_above : (a c : Bool) → a ≡ false → (a && not c) ≡ false
          none_above a c e = grind arith

          outside : rest_under path q ≡ None → (a : Bool) → is_prefix q path ≡ a → object_states_of (places ready) q ≡ filled a (object_states_of (places t) q) → left q ≡ given q (is_prefix q path && not (same_path q path)) (rest_under path q)
          outside e true f g =
              left_outside q e ∙ g ∙ filled_in (object_states_of (places t) q) ∙ ap (λ c. Some (unwrap_or c parent_object_state)) (sym (agree q plain))
              ∙ sym (ap (λ c. given q (is_prefix q path && not c) (rest_under path q)) (same_path-no q path other) ∙ ap (λ c. given q (c && true) (rest_under path q)) f)
            where
              other : q ≢ path
              other same = (let there : Some [] ≡ None = sym (rest_under-self path) ∙ ap (rest_under path) (sym same) ∙ e in cc)
          outside e false f g =
              left_outside q e ∙ g ∙ sym (agree q plain)
              ∙ sym (ap (λ c. given q c (rest_under path q)) (none_above (is_prefix q path) (same_path q path) f) ∙ ap (given q false) e)

          by : (r : Option Path) → rest_under path q ≡ r → left q ≡ given q (is_prefix q path && not (same_path q path)) (rest_under path q)
          by None e = outside e (is_prefix q path) refl (ready_else now path unstaged t shape q plain (λ same. (let there : Some [] ≡ None = sym (rest_under-self path) ∙ ap (rest_under path) (sym same) ∙ e in cc)))
          by (Some rest) e = inside_agrees q rest plain e ∙ sym (ap (λ c. given q c (rest_under path q)) (not_above q rest e) ∙ ap (given q false) e)
