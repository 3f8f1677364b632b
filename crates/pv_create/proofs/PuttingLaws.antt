-- Laws of what is done at a path that is ready: what a line puts there, over what, and what it adjusts.
use Rattle.std.specs.Prelude.{◌≡◌, ◌≢◌, ℕ, nat_le, ◌≤◌, Bool, true, false, not, ◌&&◌, ◌||◌, List, [], ◌∷◌, ◌++◌, length, Option, Some, None, IfSome, is_some, option_map, if◌then◌else◌}
use Rattle.std.specs.FinMap as fin
use Rattle.std.specs.List.{list_all}
use Rattle.std.specs.Option.{option_map_or}
use Rattle.std.proofs.Common.{refl, sym, ap, ◌∙◌, arith}
use Rattle.std.proofs.lemmas.Bool.Decides.{nat_tests}
use Rattle.std.proofs.lemmas.Bool.{and_parts}
use Rattle.pv_create.specs.Sets.{AreSets}
use Rattle.pv_walk.specs.declared.object_state.ObjectState.{ObjectState}
use Rattle.pv_walk.specs.declared.object_state.Body.{Body}
use Rattle.pv_walk.specs.declared.operation.Operation.{Operation}
use Rattle.pv_walk.specs.declared.operation.Test.{Test}
use Rattle.pv_walk.specs.Nodes.{object_state_of, object_states_of, same_kind, same_substance}
use Rattle.pv_walk.specs.Operations.{admits, stays}
use Rattle.pv_lines.specs.declared.line.LineMode.{LineMode}
use Rattle.pv_path.specs.Paths.{Path}
use Rattle.pv_steps.specs.declared.node.Kind.{Kind}
use Rattle.pv_steps.specs.declared.node.Kind.TheVariants.{Directory, File, Link, Fifo, CharDevice, BlockDevice}
use Rattle.pv_steps.specs.declared.object.Object.{Object}
use Rattle.pv_steps.specs.Objects.{object_state, is_directory}
use Rattle.pv_steps.specs.Same.{object_states}
use Rattle.pv_steps.specs.Trees.{Files, places, kind_of, IsTree, IsPresent}
use Rattle.pv_steps.proofs.StepLaws.{is_among}
use Rattle.pv_table.specs.declared.action.Copying.{Copying}
use Rattle.pv_table.specs.declared.action.Action.{Action}
use Rattle.pv_table.specs.declared.action.Action.TheVariants.{Create, Copy, Adjust, Idle}
use Rattle.pv_table.specs.declared.action.Making.{Making}
use Rattle.pv_table.specs.declared.action.Adjustment.{Adjustment}
use Rattle.pv_table.specs.ActionTable.{mode_for_new}
use Rattle.pv_table.specs.Effects.{put_paths, turned}
use Rattle.pv_table.specs.Repeatable.{sets_of}
use Rattle.pv_table.specs.Turns.{Turn, copy_of, copying_turn, decide, is_childless, making_turn, top_of, topped_by, adjustment_turn, view_of}
use Rattle.pv_table.proofs.EffectLaws.{place-put, put_is, copy_keyed, single_keyed}
use Rattle.pv_walk.specs.declared.copying.TopNode.{TopNode}
use Rattle.pv_walk.specs.Copying.{IsTopNode, Subtree, copy_from, single, topped, with_subtree}
use Rattle.pv_walk.specs.Putting.{put_over}
use Rattle.pv_walk.specs.Staging.{can_stage, new_kind, new_object}
use Rattle.pv_walk.proofs.CopyingLaws.{object_states_with}
use Rattle.pv_walk.proofs.PuttingOverLaws.{put_single}
use Rattle.pv_create.specs.Deciding.{subtree_of}
use Rattle.pv_create.specs.Actions.{IsCopying, IsAction, IsMaking}
use Rattle.pv_create.proofs.DecidingLaws.{decided, turn_is}
use Rattle.pv_create.proofs.TableLaws.{mode_fits}

-- ---- a line that makes something

-- a directory stays where one is wanted
stays_directory : (test : Test) (new old : Body) → new.kind ≡ Directory → old.kind ≡ Directory → test.exact ≡ false → stays test new old ≡ true
stays_directory test new old e f h = λ i. (same_kind (e i) (f i) && (not (h i) || same_substance new old)) || (test.spares_directories && is_directory old.kind)

module _ (making : Making) (path : Path) (u : Files) where
  -- what is adjusted stands there
  pub making_stands : (operations : List Operation) → decide (Create making) (view_of u) path ≡ Turn.Become operations → IsPresent u path
  making_stands operations e = by (places u path) refl e
    where
      by : (o : Option Object) → places u path ≡ o → making_turn making (option_map object_state_of (places u path)) ≡ Turn.Become operations → is_some (places u path) ≡ true
      by None is f = absurd (let no : Turn.Put (single (object_state_of (new_object making.new 0))) ≡ Turn.Become operations = sym (ap (λ (v : Option Object). making_turn making (option_map object_state_of v)) is) ∙ f in cc)
      by (Some x) is f = ap is_some is

  -- at the root nothing is put: a directory stands there, and stays where a directory is wanted
  pub put_nonroot : IsTree u → IsMaking path making → (subtree : _) → decide (Create making) (view_of u) path ≡ Turn.Put subtree → path ≢ []
  put_nonroot tree is subtree e root = by (places u path) refl
    where
      fits : (new_kind making.new.what ≡ Directory) × (option_map_or (λ (test : Test). test.exact) making.renew false ≡ false)
      fits = is.root root

      there : kind_of (places u path) ≡ Some Directory
      there = ap (λ (p : Path). kind_of (places u p)) root ∙ tree.root

      by : (o : Option Object) → places u path ≡ o → ⊥
      by None f = let no : None ≡ Some Directory = sym (ap kind_of f) ∙ there in cc
      by (Some x) f = kept (some_kind (sym (ap kind_of f) ∙ there)) (sym (ap (λ (v : Option Object). making_turn making (option_map object_state_of v)) f) ∙ e)
        where
          some_kind : Some x.node.kind ≡ Some Directory → x.node.kind ≡ Directory
          some_kind h = cc

          clash : (b : Bool) → (if b then Turn.Become making.sets else Turn.Left x.node.kind) ≡ Turn.Put subtree → ⊥
          clash true h = let no : Turn.Become making.sets ≡ Turn.Put subtree = h in cc
          clash false h = let no : Turn.Left x.node.kind ≡ Turn.Put subtree = h in cc

          stays_here : (renew : Option Test) → option_map_or (λ (test : Test). test.exact) renew false ≡ false → x.node.kind ≡ Directory
              → option_map_or (λ (test : Test). stays test (object_state_of (new_object making.new 0)).body (object_state_of x).body) renew true ≡ true
          stays_here None h kind = refl
          stays_here (Some test) h kind = stays_directory test (object_state_of (new_object making.new 0)).body (object_state_of x).body fits.0 kind h

          kept : x.node.kind ≡ Directory → making_turn making (Some (object_state_of x)) ≡ Turn.Put subtree → ⊥
          kept kind turn = clash (same_kind (new_kind making.new.what) x.node.kind)
              (sym (ap (λ b. if not b then Turn.Put (single (object_state_of (new_object making.new 0))) else if same_kind (new_kind making.new.what) x.node.kind then Turn.Become making.sets else Turn.Left x.node.kind)
              (stays_here making.renew fits.1 kind)) ∙ turn)

  -- what is put is the one new object
  pub put_new_object : (x : Option ObjectState) (subtree : Subtree) → making_turn making x ≡ Turn.Put subtree → making_turn making x ≡ Turn.Put (single (object_state_of (new_object making.new 0)))
  put_new_object None subtree e = refl
  put_new_object (Some b) subtree e =
      by (not (option_map_or (λ (test : Test). stays test (object_state_of (new_object making.new 0)).body b.body) making.renew true)) (same_kind (new_kind making.new.what) b.body.kind) e
    where
      by : (gives_way same : Bool) → (if gives_way then Turn.Put (single (object_state_of (new_object making.new 0))) else if same then Turn.Become making.sets else Turn.Left b.body.kind) ≡ Turn.Put subtree
          → (if gives_way then Turn.Put (single (object_state_of (new_object making.new 0))) else if same then Turn.Become making.sets else Turn.Left b.body.kind) ≡ Turn.Put (single (object_state_of (new_object making.new 0)))
      by true same h = refl
      by false true h = absurd (let no : Turn.Become making.sets ≡ Turn.Put subtree = h in cc)
      by false false h = absurd (let no : Turn.Left b.body.kind ≡ Turn.Put subtree = h in cc)

-- ---- a line that copies

-- what the top gets is a mode and owners
pub top_fits : (path : Path) (copying : Copying) (directory : Bool) → IsCopying path copying → IsTopNode (top_of copying directory)
top_fits path copying directory is = record { mode = by copying.mode is.mode; uid = is.uid; gid = is.gid }
  where
    by : (field : Option LineMode) → IfSome field (λ mode. mode.value ≤ 0o7777) → IfSome (option_map (λ mode. mode_for_new (Some mode) directory) field) (λ mode. mode ≤ 0o7777)
    by None h = tt
    by (Some mode) h = mode_fits (Some mode) directory h

-- the copy is the one that the table says
pub copy_same : (copying : Copying) (directory : Bool) (u : Files) → ((o : Object) → places u copying.source ≡ Some o → directory ≡ is_directory o.node.kind)
    → copy_from (topped (top_of copying directory)) copying.source (object_states_of (places u)) ≡ copy_of copying (view_of u)
copy_same copying directory u kind = λ i rest. at rest i
  where
    top : (o : Option Object) → places u copying.source ≡ o → option_map (topped (top_of copying directory)) (option_map object_state_of o) ≡ option_map (topped_by copying) (option_map object_state_of o)
    top None e = refl
    top (Some o) e = ap (λ d. Some (topped (top_of copying d) (object_state_of o))) (kind o e)

    at : (rest : Path) → copy_from (topped (top_of copying directory)) copying.source (object_states_of (places u)) rest ≡ copy_of copying (view_of u) rest
    at [] = top (places u copying.source) refl
    at (name ∷ rest) = refl

pub directory_is : (b : Bool) (v : Option Object) → (b ≡ true → kind_of v ≡ Some Directory) → (kind_of v ≡ Some Directory → b ≡ true) → (o : Object) → v ≡ Some o → b ≡ is_directory o.node.kind
directory_is true v f g o e = (let both : Some o.node.kind ≡ Some Directory = sym (ap kind_of e) ∙ f refl in let is : o.node.kind ≡ Directory = cc in sym (ap is_directory is))
directory_is false v f g o e = by o.node.kind refl
  where
    by : (kind : Kind) → o.node.kind ≡ kind → false ≡ is_directory kind
    by Directory k = absurd (let no : false ≡ true = g (ap kind_of e ∙ ap Some k) in cc)
    by File k = refl
    by Link k = refl
    by Fifo k = refl
    by CharDevice k = refl
    by BlockDevice k = refl

module _ (copying : Copying) (path : Path) (u : Files) where
  -- what is put is the copy
  put_by : (kind : Kind) (o : Option ObjectState) (s : Subtree) → copying_turn copying (view_of u) path kind o ≡ Turn.Put s → s ≡ copy_of copying (view_of u)
  put_by kind None s e = (let it : s ≡ copy_of copying (view_of u) = cc in it)
  put_by kind (Some b) s e = by (same_kind kind b.body.kind) (is_directory kind && is_childless (view_of u) path) copying.renews e
    where
      by : (same empty renews : Bool) → (if same then (if empty then Turn.Put (copy_of copying (view_of u)) else Turn.Become copying.sets) else if renews then Turn.Put (copy_of copying (view_of u)) else Turn.Left b.body.kind) ≡ Turn.Put s → s ≡ copy_of copying (view_of u)
      by true true renews h = (let it : s ≡ copy_of copying (view_of u) = cc in it)
      by true false renews h = absurd (let no : Turn.Become copying.sets ≡ Turn.Put s = h in cc)
      by false empty true h = (let it : s ≡ copy_of copying (view_of u) = cc in it)
      by false empty false h = absurd (let no : Turn.Left b.body.kind ≡ Turn.Put s = h in cc)

  pub put_is_copy : (s : Subtree) → decide (Copy copying) (view_of u) path ≡ Turn.Put s → (s ≡ copy_of copying (view_of u)) × (is_some (places u copying.source) ≡ true)
  put_is_copy s e = by (places u copying.source) refl (sym (turn_is copying path u) ∙ e)
    where
      by : (o : Option Object) → places u copying.source ≡ o → decided copying path u o ≡ Turn.Put s → (s ≡ copy_of copying (view_of u)) × (is_some (places u copying.source) ≡ true)
      by None is h = absurd (let no : Turn.Nothing ≡ Turn.Put s = h in cc)
      by (Some x) is h = (put_by x.node.kind (object_states_of (places u) path) s h, ap is_some is)

  -- what is adjusted stands there
  become_by : (kind : Kind) (o : Option ObjectState) (operations : List Operation) → copying_turn copying (view_of u) path kind o ≡ Turn.Become operations → is_some o ≡ true
  become_by kind None operations e = absurd (let no : Turn.Put (copy_of copying (view_of u)) ≡ Turn.Become operations = e in cc)
  become_by kind (Some b) operations e = refl

  some_object_state : (o : Option Object) → is_some (option_map object_state_of o) ≡ true → is_some o ≡ true
  some_object_state None h = h
  some_object_state (Some x) h = refl

  pub copying_stands : (operations : List Operation) → decide (Copy copying) (view_of u) path ≡ Turn.Become operations → is_some (places u path) ≡ true
  copying_stands operations e = by (places u copying.source) (sym (turn_is copying path u) ∙ e)
    where
      by : (o : Option Object) → decided copying path u o ≡ Turn.Become operations → is_some (places u path) ≡ true
      by None h = absurd (let no : Turn.Nothing ≡ Turn.Become operations = h in cc)
      by (Some x) h = some_object_state (places u path) (become_by x.node.kind (object_states_of (places u) path) operations h)

-- ---- any line

-- a line that only adjusts puts nothing
pub never_put : (adjustment : Adjustment) (path : Path) (u : Files) (s : Subtree) → decide (Adjust adjustment) (view_of u) path ≡ Turn.Put s → ⊥
never_put adjustment path u s e = by (object_states_of (places u) path) e
  where
    clash : (b : Bool) (kind : Kind) → (if b then Turn.Become adjustment.sets else Turn.Left kind) ≡ Turn.Put s → ⊥
    clash true kind h = (let no : Turn.Become adjustment.sets ≡ Turn.Put s = h in cc)
    clash false kind h = (let no : Turn.Left kind ≡ Turn.Put s = h in cc)

    by : (o : Option ObjectState) → adjustment_turn adjustment o ≡ Turn.Put s → ⊥
    by None h = (let no : Turn.Nothing ≡ Turn.Put s = h in cc)
    by (Some b) h = clash (admits adjustment.wanted b.body.kind) b.body.kind h

-- what is put is what the line makes or copies
pub put_is_subtree : (action : Action) (path : Path) (u : Files) (s : Subtree) → decide action (view_of u) path ≡ Turn.Put s → s ≡ subtree_of action (view_of u)
put_is_subtree (Create making) path u s e =
    (let both : Turn.Put (single (object_state_of (new_object making.new 0))) ≡ Turn.Put s = sym (put_new_object making path u (object_states_of (places u) path) s e) ∙ e in
    let it : s ≡ single (object_state_of (new_object making.new 0)) = cc in it)
put_is_subtree (Copy copying) path u s e = (put_is_copy copying path u s e).0
put_is_subtree (Adjust adjustment) path u s e = absurd (never_put adjustment path u s e)
put_is_subtree Idle path u s e = absurd (let no : Turn.Nothing ≡ Turn.Put s = e in cc)

-- it has something only at paths at which the line may put something
pub keyed : (action : Action) (path : Path) (u : Files) (rest : Path) → is_some (subtree_of action (view_of u) rest) ≡ true → is_among (path ++ rest) (put_paths action path u ++ fin.keys u) ≡ true
keyed (Create making) path u rest h = single_keyed making path u (object_state_of (new_object making.new 0)) rest h
keyed (Copy copying) path u rest h = copy_keyed copying path u rest h
keyed (Adjust adjustment) path u rest h = absurd (let no : false ≡ true = h in cc)
keyed Idle path u rest h = absurd (let no : false ≡ true = h in cc)

-- it stands at the path, timestamps aside
pub put_object_states : (now : ℕ) (action : Action) (path : Path) (u : Files) (s : Subtree) → decide action (view_of u) path ≡ Turn.Put s → (q : Path)
    → object_states (places (turned now action path (Turn.Put s) u)) q ≡ object_states (with_subtree 0 path s (places u)) q
put_object_states now action path u s e q =
    let same = put_is_subtree action path u s e in
    ap (λ (v : Subtree). object_states (places (turned now action path (Turn.Put v) u)) q) same
    ∙ ap (option_map object_state) (place-put now action path u (subtree_of action (view_of u)) (keyed action path u) q)
    ∙ object_states_with path (subtree_of action (view_of u)) (places u) now 0 q
    ∙ sym (ap (λ (v : Subtree). object_states (with_subtree 0 path v (places u)) q) same)

-- a tree that has it is the tree after the turn
pub put_tree : (now : ℕ) (action : Action) (path : Path) (u v : Files) → places v ≡ with_subtree now path (subtree_of action (view_of u)) (places u)
    → v ≡ turned now action path (Turn.Put (subtree_of action (view_of u))) u
put_tree now action path u v is = put_is now action path u (subtree_of action (view_of u)) (keyed action path u) v is

-- so with the new object, and with the copy
pub new_tree : (now : ℕ) (path : Path) (making : Making) (u v : Files) → places v ≡ put_over now path making.new (places u)
    → v ≡ turned now (Create making) path (Turn.Put (subtree_of (Create making) (view_of u))) u
new_tree now path making u v is = put_tree now (Create making) path u v (is ∙ sym (λ i q. put_single now path making.new (places u) q i))

module _ (now : ℕ) (path : Path) (copying : Copying) (u : Files) (directory : Bool) (same : (o : Object) → places u copying.source ≡ Some o → directory ≡ is_directory o.node.kind)
    (top : TopNode) (is : top ≡ top_of copying directory) where
  pub copied_is : copy_from (topped top) copying.source (object_states_of (places u)) ≡ copy_of copying (view_of u)
  copied_is = ap (λ (t : TopNode). copy_from (topped t) copying.source (object_states_of (places u))) is ∙ copy_same copying directory u same

  pub copied_tree : (v : Files) → places v ≡ with_subtree now path (copy_from (topped top) copying.source (object_states_of (places u))) (places u)
      → v ≡ turned now (Copy copying) path (Turn.Put (subtree_of (Copy copying) (view_of u))) u
  copied_tree v e = put_tree now (Copy copying) path u v (e ∙ ap (λ (s : Subtree). with_subtree now path s (places u)) copied_is)

-- what is adjusted stands there
pub stands : (action : Action) (path : Path) (u : Files) (operations : List Operation) → decide action (view_of u) path ≡ Turn.Become operations → IsPresent u path
stands (Create making) path u operations e = making_stands making path u operations e
stands (Copy copying) path u operations e = copying_stands copying path u operations e
stands (Adjust adjustment) path u operations e = by (places u path) refl
  where
    by : (o : Option Object) → places u path ≡ o → is_some (places u path) ≡ true
    by None is = absurd (let no : Turn.Nothing ≡ Turn.Become operations = sym (ap (λ (v : Option Object). adjustment_turn adjustment (option_map object_state_of v)) is) ∙ e in cc)
    by (Some x) is = ap is_some is
stands Idle path u operations e = absurd (let no : Turn.Nothing ≡ Turn.Become operations = e in cc)

-- what is set of it
pub sets_fit : (action : Action) (path : Path) → IsAction path action → AreSets (sets_of action)
sets_fit (Create making) path h = h.1.sets
sets_fit (Copy copying) path h = h.1.sets
sets_fit (Adjust adjustment) path h = h
sets_fit Idle path h = absurd h

-- ---- paths of lines

-- a path of a line can be staged
pub stageable : (path : Path) → list_all (λ name. nat_le (length name) 240) path ≡ true → can_stage path ≡ true
stageable [] h = refl
stageable (name ∷ path) h =
    let parts = and_parts (nat_le (length name) 240) (list_all (λ n. nat_le (length n) 240) path) h in
    let short : nat_le (length name) 240 ≡ true = parts.0 in
    let one : nat_le (length name) 250 ≡ true = grind (arith, nat_tests) in
    let rest = stageable path parts.1 in
    (λ i. one i && rest i)
