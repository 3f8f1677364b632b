-- Laws of what is decided at a path, by the object there.
use Rattle.std.specs.Prelude.{◌≡◌, ℕ, Bool, true, false, not, ◌&&◌, List, [], ◌∷◌, filter_map, Option, Some, None, option_map, if◌then◌else◌}
use Rattle.std.specs.List.{cons_option, list_all}
use Rattle.std.specs.Option.{option_map_or}
use Rattle.std.proofs.Common.{refl, sym, ap, ◌∙◌}
use Rattle.std.proofs.Math.Bool.{not-not}
use Rattle.pv_walk.specs.declared.operation.Test.{Test}
use Rattle.pv_walk.specs.Nodes.{object_state_of, object_states_of, same_kind}
use Rattle.pv_walk.specs.Operations.{stays}
use Rattle.pv_path.specs.Names.{is_staging}
use Rattle.pv_path.specs.Paths.{Path}
use Rattle.pv_steps.specs.declared.node.Kind.{Kind}
use Rattle.pv_steps.specs.declared.node.Kind.TheVariants.{Directory, File, Link, Fifo, CharDevice, BlockDevice}
use Rattle.pv_steps.specs.declared.node.Node.{Node}
use Rattle.pv_steps.specs.declared.object.Object.{Object}
use Rattle.pv_steps.specs.Objects.{is_directory}
use Rattle.pv_steps.specs.Trees.{Files, places, node_at, kind_of, child_name}
use Rattle.pv_table.specs.declared.action.Copying.{Copying}
use Rattle.pv_table.specs.declared.action.Action.TheVariants.{Create, Copy}
use Rattle.pv_table.specs.declared.action.Making.{Making}
use Rattle.pv_table.specs.Turns.{Turn, copy_of, copying_turn, decide, is_childless, is_visible_child, making_turn, view_of}
use Rattle.pv_walk.specs.Copying.{single}
use Rattle.pv_walk.specs.Staging.{new_kind, new_object}
use Rattle.pv_create.specs.declared.deciding.Turn.TheVariants as answer
use Rattle.pv_create.specs.Deciding.{meant, kept_turn, kept_copy}

-- ---- a line that makes something

-- where a node is, an object stands
pub record StandsThere (t : Files) (path : Path) (node : Node) : Type 0 where
  pub object : Object
  pub is : places t path ≡ Some object
  pub same : object.node ≡ node

node_there : (t : Files) (path : Path) (node : Node) → Some node ≡ node_at t path → StandsThere t path node
node_there t path node e = by (places t path) refl
  where
    some_node : (x : Object) → Some node ≡ Some x.node → x.node ≡ node
    some_node x h = cc

    by : (o : Option Object) → places t path ≡ o → StandsThere t path node
    by None is = absurd (let no : Some node ≡ None = e ∙ ap (λ (v : Option Object). option_map (λ (x : Object). x.node) v) is in cc)
    by (Some x) is = record { object = x; is = is; same = some_node x (e ∙ ap (λ (v : Option Object). option_map (λ (x : Object). x.node) v) is) }

module _ (making : Making) (path : Path) (t : Files) (node : Node) (there : Some node ≡ node_at t path) (stay : Bool)
    (is : (o : Object) → places t path ≡ Some o → stay ≡ option_map_or (λ (test : Test). stays test (object_state_of (new_object making.new 0)).body (object_state_of o).body) making.renew true) where
  abbrev by_flags : Bool → Kind → Turn
  by_flags stays kind =
      if not stays then Turn.Put (single (object_state_of (new_object making.new 0)))
      else if same_kind (new_kind making.new.what) kind then Turn.Become making.sets
      else Turn.Left kind

  turn_by : decide (Create making) (view_of t) path ≡ by_flags stay node.kind
  turn_by =
      let o = node_there t path node there in
      ap (λ (v : Option Object). making_turn making (option_map object_state_of v)) o.is
      ∙ ap (λ b. by_flags b o.object.node.kind) (sym (is o.object o.is))
      ∙ ap (λ (n : Node). by_flags stay n.kind) o.same

  pub decided_put : stay ≡ false → meant (Create making) (view_of t) answer.Put ≡ decide (Create making) (view_of t) path
  decided_put e = sym (turn_by ∙ ap (λ b. by_flags b node.kind) e)

  pub decided_kept : stay ≡ true → meant (Create making) (view_of t) (kept_turn (new_kind making.new.what) node.kind) ≡ decide (Create making) (view_of t) path
  decided_kept e = by (same_kind (new_kind making.new.what) node.kind) ∙ sym (turn_by ∙ ap (λ b. by_flags b node.kind) e)
    where
      by : (b : Bool) → meant (Create making) (view_of t) (if b then answer.Become else answer.Left node.kind) ≡ (if b then Turn.Become making.sets else Turn.Left node.kind)
      by true = refl
      by false = refl

-- ---- a directory that holds nothing

pub childless : (path : Path) (ks : List Path) → list_all is_staging (filter_map (child_name path) ks) ≡ list_all (λ q. not (is_visible_child path q)) ks
childless path [] = refl
childless path (k ∷ ks) = by (child_name path k) (childless path ks)
  where
    by : (o : Option (List ℕ)) → list_all is_staging (filter_map (child_name path) ks) ≡ list_all (λ q. not (is_visible_child path q)) ks
        → list_all is_staging (cons_option o (filter_map (child_name path) ks)) ≡ (not (option_map_or (λ name. not (is_staging name)) o false) && list_all (λ q. not (is_visible_child path q)) ks)
    by None e = e
    by (Some n) e = ap (λ b. is_staging n && b) e ∙ ap (λ b. b && list_all (λ q. not (is_visible_child path q)) ks) (sym (not-not (is_staging n)))

-- ---- a line that copies

module _ (copying : Copying) (path : Path) (u : Files) where
  abbrev pub decided : Option Object → Turn
  decided None = Turn.Nothing
  decided (Some x) = copying_turn copying (view_of u) path x.node.kind (object_states_of (places u) path)

  pub turn_is : decide (Copy copying) (view_of u) path ≡ decided (places u copying.source)
  turn_is = by (places u copying.source) refl
    where
      by : (o : Option Object) → places u copying.source ≡ o → decide (Copy copying) (view_of u) path ≡ decided o
      by None e = rw e refl
      by (Some x) e = rw e refl

  some_object' : (o : Option Object) (kind : Kind) → kind_of o ≡ Some kind → (x : Object) × ((o ≡ Some x) × (x.node.kind ≡ kind))
  some_object' None kind h = absurd (let no : None ≡ Some kind = h in cc)
  some_object' (Some x) kind h = (x, (refl, (let both : Some x.node.kind ≡ Some kind = h in let it : x.node.kind ≡ kind = cc in it)))

  both_directories : (kind there : Kind) (childless : Bool) → same_kind kind there ≡ true → (is_directory kind && (is_directory there && childless)) ≡ (is_directory kind && childless)
  both_directories Directory Directory c e = refl
  both_directories Directory File c e = absurd (let no : false ≡ true = e in cc)
  both_directories Directory Link c e = absurd (let no : false ≡ true = e in cc)
  both_directories Directory Fifo c e = absurd (let no : false ≡ true = e in cc)
  both_directories Directory CharDevice c e = absurd (let no : false ≡ true = e in cc)
  both_directories Directory BlockDevice c e = absurd (let no : false ≡ true = e in cc)
  both_directories File there c e = refl
  both_directories Link there c e = refl
  both_directories Fifo there c e = refl
  both_directories CharDevice there c e = refl
  both_directories BlockDevice there c e = refl

  pub copy_over : (kind there : Kind) (empty : Bool) → kind_of (places u copying.source) ≡ Some kind → kind_of (places u path) ≡ Some there
      → empty ≡ (is_directory kind && (is_directory there && is_childless (view_of u) path)) → meant (Copy copying) (view_of u) (kept_copy copying kind there empty) ≡ decide (Copy copying) (view_of u) path
  copy_over kind there empty e f g =
      let x = some_object' (places u copying.source) kind e in
      let y = some_object' (places u path) there f in
      by (same_kind kind there) refl
      ∙ sym (turn_is ∙ ap decided x.1.0 ∙ ap (λ (o : Option Object). copying_turn copying (view_of u) path x.0.node.kind (option_map object_state_of o)) y.1.0
      ∙ ap (λ (k : Kind). copying_turn copying (view_of u) path k (Some (object_state_of y.0))) x.1.1
      ∙ ap (λ (k : Kind). over kind k (is_directory kind && is_childless (view_of u) path)) y.1.1)
    where
      over : Kind → Kind → Bool → Turn
      over kind there empty = if same_kind kind there then (if empty then Turn.Put (copy_of copying (view_of u)) else Turn.Become copying.sets) else if copying.renews then Turn.Put (copy_of copying (view_of u)) else Turn.Left there

      pushed : (same empty renews : Bool) → meant (Copy copying) (view_of u) (if same then (if empty then answer.Put else answer.Become) else if renews then answer.Put else answer.Left there)
          ≡ (if same then (if empty then Turn.Put (copy_of copying (view_of u)) else Turn.Become copying.sets) else if renews then Turn.Put (copy_of copying (view_of u)) else Turn.Left there)
      pushed true true renews = refl
      pushed true false renews = refl
      pushed false empty true = refl
      pushed false empty false = refl

      by : (same : Bool) → same_kind kind there ≡ same → meant (Copy copying) (view_of u) (kept_copy copying kind there empty) ≡ over kind there (is_directory kind && is_childless (view_of u) path)
      by true s = pushed (same_kind kind there) empty copying.renews ∙ ap (λ (b : Bool). over kind there b) (g ∙ both_directories kind there (is_childless (view_of u) path) s)
      by false s = pushed (same_kind kind there) empty copying.renews
          ∙ ap (λ (b : Bool). if b then (if empty then Turn.Put (copy_of copying (view_of u)) else Turn.Become copying.sets) else if copying.renews then Turn.Put (copy_of copying (view_of u)) else Turn.Left there) s
          ∙ sym (ap (λ (b : Bool). if b then (if is_directory kind && is_childless (view_of u) path then Turn.Put (copy_of copying (view_of u)) else Turn.Become copying.sets) else if copying.renews then Turn.Put (copy_of copying (view_of u)) else Turn.Left there) s)
