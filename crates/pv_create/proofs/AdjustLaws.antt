-- Laws of adjusting the object at a path of a tree: what the steps have left at each moment, and when all is set.
use Rattle.std.specs.Prelude.{◌≡◌, ◌⊎◌, ℕ, ◌+◌, ◌≤◌, Bool, true, false, List, [], take, fold, Option, Some, None, is_some, option_map, IfSome, Result, Ok, Err, OnOk, if◌then◌else◌, cond}
use Rattle.std.proofs.Common.{zero, suc, refl, sym, ap, subst, ◌∙◌, inl, inr, arith}
use Rattle.std.proofs.Math.Seq.{take-nil}
use Rattle.std.proofs.lemmas.Option.{same_Some}
use Rattle.pv_path.specs.Names.{same_bytes}
use Rattle.pv_path.specs.Paths.{Path, same_path}
use Rattle.pv_path.proofs.PathLaws.{same_bytes-decides, same_path-refl}
use Rattle.pv_steps.specs.declared.node.Kind.TheVariants.{File}
use Rattle.pv_steps.specs.declared.node.Node.{Node}
use Rattle.pv_steps.specs.declared.object.Object.{Object}
use Rattle.pv_steps.specs.declared.step.Step.{Step}
use Rattle.pv_steps.specs.declared.tree.Tree.{Ghosts}
use Rattle.pv_steps.specs.declared.tree.TreeFault.{TreeFault}
use Rattle.pv_steps.specs.Counting.{refused, faults_after}
use Rattle.pv_steps.specs.Acting.{asked, Acted}
use Rattle.pv_steps.specs.Objects.{object_state, changed, modified, with_content, IsObject}
use Rattle.pv_steps.specs.Runs.{Ran}
use Rattle.pv_steps.specs.Same.{object_states}
use Rattle.pv_steps.proofs.ActingLaws.{Moves, ran-length}
use Rattle.pv_steps.proofs.RunLaws.{ran_then, ran_weaken}
use Rattle.pv_steps.specs.Steps.{on_at, put_at}
use Rattle.pv_steps.specs.Trees.{Files, Places, places, kind_of, node_at, IsKind, IsPresent, IsTree}
use Rattle.pv_walk.specs.declared.object_state.ObjectState.{ObjectState}
use Rattle.pv_walk.specs.declared.object_state.Metadata.{Metadata}
use Rattle.pv_walk.specs.declared.operation.Operation.{Operation}
use Rattle.pv_walk.specs.Dividing.{parts}
use Rattle.pv_walk.specs.SettingMetadata.{IsMetadata, CanSetMetadata, with_metadata, with_attrs_of, with_first_changes, with_letters_of, SettingMetadata, GivesMetadata, IsChanged, IsKeptBy, ChangedAt, Lacks}
use Rattle.pv_walk.specs.Nodes.{object_state_of, object_states_of, is_file}
use Rattle.pv_walk.specs.Operations.{run}
use Rattle.pv_walk.specs.Changing.{Changing, with_access_of}
use Rattle.pv_walk.proofs.EditLaws.{path_cases, on_at-put, put_at-else, put_at-here, put_at-same, put_at-twice}
use Rattle.pv_walk.proofs.OperationLaws.{object_states_of-same}
use Rattle.pv_table.specs.Created.{change_work, most_changed}
use Rattle.pv_table.specs.Effects.{same_object_state, as_object_state, restamped, become}
use Rattle.pv_create.specs.declared.wanted.Wanted.{Wanted}
use Rattle.pv_create.specs.Sets.{AreSets, writes}
use Rattle.pv_create.specs.Adjusting.{Adjusting, GivesBytes, GivesSet, GivesWanted, IsWanted, holding, written}
use Rattle.pv_create.proofs.Making.{with_payload}
use Rattle.pv_create.proofs.SetLaws.{Front, IsSet, Kept, worn, set_of, front_none}
use Rattle.pv_create.proofs.Unwritten.{unwritten}
use Rattle.pv_create.proofs.Becoming.{becomes}
use Rattle.pv_table.proofs.Restamping.{object_state_cases, bytes_cases, object_state_restamped, restamped-same, restamped-changed, restamped-modified, restamped_then}

-- ---- one object

-- the metadata of an object is one for its kind
pub own_metadata : (o : Object) → IsObject o → IsMetadata o.node.kind (object_state_of o).metadata
own_metadata o whole = record { owner = whole.owner; special = whole.special; acl = whole.acl; fits = whole.kind_acl; attrs = whole.attrs; letters = whole.letters }

-- what metadata has given, without timestamps
object_state_worn : (k : ℕ) (d : Metadata) (o : Object) → object_state_of (with_first_changes k d o) ≡ worn k d (object_state_of o)
object_state_worn zero d o = refl
object_state_worn (suc zero) d o = refl
object_state_worn (suc (suc zero)) d o = refl
object_state_worn (suc (suc (suc zero))) d o = refl
object_state_worn (suc (suc (suc (suc zero)))) d o = refl
object_state_worn (suc (suc (suc (suc (suc k))))) d o =
    subst (λ (xs : List (Object → Object)). object_state_of (fold (λ x change. change x) (with_first_changes 5 d o) xs) ≡ record (object_state_of o) { metadata = d }) (sym (take-nil k)) refl

-- a part that bytes leave as they are
part_written : {A : Type 0} (part : Object → A) → ((p : List ℕ) (now : ℕ) (x : Object) → part (with_content p now x) ≡ part x) → (now : ℕ) (bytes : Option (List ℕ)) (o : Object) → part (written now bytes o) ≡ part o
part_written part past now None o = refl
part_written part past now (Some p) o = by (same_bytes p o.payload)
  where
    by : (s : Bool) → part (if s then o else with_content p now o) ≡ part o
    by true = refl
    by false = past p now o

-- ---- an object at a path, and what is set of it

module _ (path : Path) (sets : List Operation) (are : AreSets sets) (t : Files) (tree : IsTree t) (o : Object) (there : places t path ≡ Some o) (wanted : Wanted) (is : IsWanted sets o wanted) (now : ℕ) where
  whole : IsObject o
  whole = tree.objects path o there

  set : IsSet sets (object_state_of o)
  set = set_of sets are (object_state_of o) (own_metadata o whole)

  abbrev new : ObjectState
  new = set.new

  wanted_new : is.new ≡ new
  wanted_new = same_Some is.new new (sym is.is ∙ set.is)

  wanted_metadata : wanted.metadata ≡ new.metadata
  wanted_metadata = is.metadata ∙ ap (λ (b : ObjectState). b.metadata) wanted_new

  wanted_bytes : (holding wanted.bytes o).payload ≡ new.body.payload
  wanted_bytes = is.bytes ∙ ap (λ (b : ObjectState). b.body.payload) wanted_new

  -- the object with its new bytes
  abbrev first : ObjectState
  first = record (object_state_of o) { body = new.body }

  first_is : first ≡ with_payload new.body.payload (object_state_of o)
  first_is = ap (λ b. record (object_state_of o) { body = b }) set.body

  abbrev second : Object
  second = written now wanted.bytes o

  held : (bytes : Option (List ℕ)) → (holding bytes o).payload ≡ new.body.payload → object_state_of (holding bytes o) ≡ first
  held None e = ap (λ (p : List ℕ). with_payload p (object_state_of o)) e ∙ sym first_is
  held (Some p) e = ap (λ (p : List ℕ). with_payload p (object_state_of o)) e ∙ sym first_is

  restamped_first : (bytes : Option (List ℕ)) → (holding bytes o).payload ≡ new.body.payload → written now bytes o ≡ restamped now first o
  restamped_first None e = sym (restamped-same now first o (sym (held None e)))
  restamped_first (Some p) e = elim (bytes_cases p o.payload) [
    | inl same ↦ ap (λ s. if s then o else with_content p now o) (same_yes same) ∙ sym (restamped-same now first o (sym (held (Some p) e) ∙ ap (λ (q : List ℕ). with_payload q (object_state_of o)) same))
    | inr other ↦ ap (λ s. if s then o else with_content p now o) other
        ∙ sym (restamped-modified now first o (ap (λ (q : List ℕ). same_bytes q o.payload) (sym e) ∙ other) ∙ ap (λ (b : ObjectState). modified now (as_object_state b o)) (sym (held (Some p) e)))
  ]
    where
      same_yes : p ≡ o.payload → same_bytes p o.payload ≡ true
      same_yes same = (same_bytes-decides p o.payload).1 same

  second_is : second ≡ restamped now first o
  second_is = restamped_first wanted.bytes wanted_bytes

  object_state_second : object_state_of second ≡ first
  object_state_second = ap object_state_of second_is ∙ object_state_restamped now first o

  second_kind : second.node.kind ≡ o.node.kind
  second_kind = part_written (λ x. x.node.kind) (λ p now x. refl) now wanted.bytes o

  -- ---- the tree after the bytes are written

  module _ (u : Files) (wrote : places u ≡ on_at path (written now wanted.bytes) (places t)) where
    puts : (q : Path) → places u q ≡ put_at path (Some second) (places t) q
    puts q = ap (λ (p : Places). p q) wrote ∙ on_at-put path (written now wanted.bytes) o (places t) there q

    there_now : places u path ≡ Some second
    there_now = puts path ∙ put_at-here path (Some second) (places t)

    pub can_wear : CanSetMetadata u path wanted.metadata
    can_wear = record {
      kind = o.node.kind;
      there = ap kind_of there_now ∙ ap Some second_kind;
      metadata = subst (λ (d : Metadata). IsMetadata o.node.kind d) (sym wanted_metadata) set.metadata;
    }

    -- ---- the tree when all is set

    -- what the metadata makes of the object with its new bytes
    worn_new : object_state_of (with_metadata wanted.metadata second) ≡ new
    worn_new = (λ i. record { body = (object_state_second i).body; metadata = wanted_metadata i })

    with_metadata_is : (x : Object) → IsChanged (with_metadata wanted.metadata) now second x → x ≡ restamped now new second
    with_metadata_is x (inl h) = h.1 ∙ sym (restamped-same now new second (sym worn_new ∙ ap object_state_of h.0))
    with_metadata_is x (inr h) =
        let differs : same_object_state new (object_state_of second) ≡ false = elim (object_state_cases new (object_state_of second)) [
          | inl e ↦ absurd (h.0 (ap (λ (b : ObjectState). as_object_state b second) (worn_new ∙ e)))
          | inr e ↦ e
        ] in
        h.1 ∙ ap (λ (b : ObjectState). changed now (as_object_state b second)) worn_new
        ∙ sym (restamped-changed now new second differs (ap (λ (b : ObjectState). b.body.payload) (sym object_state_second)))

    becomes_new : (x : Object) → IsChanged (with_metadata wanted.metadata) now second x → x ≡ become now sets o
    becomes_new x h =
        with_metadata_is x h ∙ ap (restamped now new) second_is
        ∙ restamped_then now first new o (λ e. ap (λ (b : ObjectState). record (object_state_of o) { body = b.body }) e) refl
        ∙ sym (becomes now sets are o new set.is)

    pub adjusted_ok : (v : Files) → ChangedAt (with_metadata wanted.metadata) path now u v → places v ≡ on_at path (become now sets) (places t)
    adjusted_ok v h =
        let same : h.old ≡ second = same_Some h.old second (sym h.there ∙ there_now) in
        let change : IsChanged (with_metadata wanted.metadata) now second h.object = subst (λ x. IsChanged (with_metadata wanted.metadata) now x h.object) same h.is in
        λ j q.
        (ap (λ (p : Places). p q) h.left ∙ ap (λ (v : Option Object). cond (same_path path q) (Some h.object) v) (puts q)
        ∙ put_at-twice path (Some second) (Some h.object) (places t) q
        ∙ ap (λ x. put_at path (Some x) (places t) q) (becomes_new h.object change)
        ∙ sym (on_at-put path (become now sets) o (places t) there q)) j

    pub adjusted_on : (r : Result (Unit {0}) TreeFault) (v : Files) → OnOk r (ChangedAt (with_metadata wanted.metadata) path now u v) → OnOk r (places v ≡ on_at path (become now sets) (places t))
    adjusted_on (Ok x) v h = adjusted_ok v h
    adjusted_on (Err e) v h = tt

  -- ---- on the way

  adjusting_as : (u : Files) (x : Object) → Front (parts sets) (object_state_of o) (object_state_of x) → ((q : Path) → object_states (places u) q ≡ object_states (put_at path (Some x) (places t)) q) → Adjusting path sets t u
  adjusting_as u x front same = (
    front.k,
    λ q. elim (path_cases path q) [
      | inl e ↦ subst (λ q. object_states_of (places u) q ≡ (if same_path path q then run (take front.k (parts sets)) (object_states_of (places t) q) else object_states_of (places t) q)) e here
      | inr e ↦
          object_states_of-same (places u) (put_at path (Some x) (places t)) q (same q) ∙ ap (option_map object_state_of) (put_at-else path q (Some x) (places t) e)
          ∙ ap (λ s. if s then run (take front.k (parts sets)) (object_states_of (places t) q) else object_states_of (places t) q) (sym e)
    ],
  )
    where
      here : object_states_of (places u) path ≡ (if same_path path path then run (take front.k (parts sets)) (object_states_of (places t) path) else object_states_of (places t) path)
      here =
          object_states_of-same (places u) (put_at path (Some x) (places t)) path (same path) ∙ ap (option_map object_state_of) (put_at-here path (Some x) (places t))
          ∙ sym (
          ap (λ s. if s then run (take front.k (parts sets)) (object_states_of (places t) path) else object_states_of (places t) path) (same_path-refl path)
          ∙ ap (λ v. run (take front.k (parts sets)) (option_map object_state_of v)) there ∙ front.is
          )

  pub writing : (u : Files) → Changing path (holding wanted.bytes) t u → Adjusting path sets t u
  writing u (inl h) = adjusting_as u o (front_none (parts sets) (object_state_of o)) (λ q. h q ∙ ap (option_map object_state) (sym (put_at-same path (Some o) (places t) there q)))
  writing u (inr h) =
      adjusting_as u (holding wanted.bytes o) (subst (λ b. Front (parts sets) (object_state_of o) b) (sym (held wanted.bytes wanted_bytes)) (set.front 0))
      (λ q. h q ∙ ap (option_map object_state) (on_at-put path (holding wanted.bytes) o (places t) there q))

  module _ (u : Files) (wrote : places u ≡ on_at path (written now wanted.bytes) (places t)) where
    pub setting_metadata : (v : Files) → SettingMetadata path wanted.metadata u v → Adjusting path sets t v
    setting_metadata v h =
        let k = h.0 in
        let x = with_first_changes k wanted.metadata second in
        let object_state_x : object_state_of x ≡ worn k new.metadata first = object_state_worn k wanted.metadata second ∙ (λ i. worn k (wanted_metadata i) (object_state_second i)) in
        adjusting_as v x (subst (λ b. Front (parts sets) (object_state_of o) b) (sym object_state_x) (set.front k))
        (λ q. h.1 q ∙ ap (option_map object_state)
        (on_at-put path (with_first_changes k wanted.metadata) second (places u) (there_now u wrote) q
        ∙ ap (λ (v : Option Object). cond (same_path path q) (Some x) v) (puts u wrote q) ∙ put_at-twice path (Some second) (Some x) (places t) q))

    -- ---- each step

    lacks : {A : Type 0} (part : Object → A) (given : A) → part second ≡ part o → Lacks part given path u → Lacks part given path t
    lacks part given same other x e h =
        other second (there_now u wrote) (same ∙ ap part (same_Some o x (sym there ∙ e)) ∙ h)

    gives_metadata : (s : Step) → GivesMetadata path wanted.metadata u s → GivesMetadata path wanted.metadata t s
    gives_metadata s (inl e) = inl e
    gives_metadata s (inr (inl e)) = inr (inl e)
    gives_metadata s (inr (inr (inl e))) = inr (inr (inl (e.0, lacks (λ x. (with_first_changes 2 wanted.metadata x).node.acl) wanted.metadata.acl (part_written (λ x. (with_first_changes 2 wanted.metadata x).node.acl) (λ p now x. refl) now wanted.bytes o) e.1)))
    gives_metadata s (inr (inr (inr (inl e)))) = inr (inr (inr (inl (e.0, lacks (λ x. x.node.attrs) wanted.metadata.attrs (part_written (λ x. x.node.attrs) (λ p now x. refl) now wanted.bytes o) e.1))))
    gives_metadata s (inr (inr (inr (inr e)))) = inr (inr (inr (inr (e.0, lacks (λ x. x.node.letters) wanted.metadata.letters (part_written (λ x. x.node.letters) (λ p now x. refl) now wanted.bytes o) e.1))))

    pub metadata_gives : (s : Step) → GivesMetadata path wanted.metadata u s → GivesSet path sets t s
    metadata_gives s h = record {
      new = new;
      is = ap (λ v. run sets (option_map object_state_of v)) there ∙ set.is;
      gives = inr (subst (λ d. GivesMetadata path d t s) wanted_metadata (gives_metadata s h));
    }

  pub bytes_give : (s : Step) → GivesWanted path wanted.bytes t s → GivesSet path sets t s
  bytes_give s h = record { new = new; is = ap (λ v. run sets (option_map object_state_of v)) there ∙ set.is; gives = inl (by wanted.bytes wanted_bytes h) }
    where
      by : (bytes : Option (List ℕ)) → (holding bytes o).payload ≡ new.body.payload → GivesWanted path bytes t s → GivesBytes path new.body.payload t s
      by None e h = absurd h
      by (Some p) e h = subst (λ (q : List ℕ). GivesBytes path q t s) e h

  -- ---- the most steps

  work_is : change_work sets (places t path) ≡ (if same_object_state new (object_state_of o) then 0 else most_changed)
  work_is =
      ap (change_work sets) there
      ∙ ap (λ (b : ObjectState). if same_object_state b (object_state_of o) then 0 else most_changed) (ap object_state_of (becomes 0 sets are o new set.is) ∙ object_state_restamped 0 new o)

  kept_now : (change : Object → Object) → change o ≡ o → IsKeptBy change path t
  kept_now change e x at = subst (λ y. change y ≡ y) (same_Some o x (sym there ∙ at)) e

  -- nothing is written where the bytes stay
  holds : (bytes : Option (List ℕ)) → (holding bytes o).payload ≡ new.body.payload → new.body.payload ≡ o.payload → holding bytes o ≡ o
  holds None e same = refl
  holds (Some p) e same = ap (λ (q : List ℕ). record o { payload = q }) (e ∙ same)

  bytes_kept : new.body.payload ≡ o.payload → IsKeptBy (holding wanted.bytes) path t
  bytes_kept same = kept_now (holding wanted.bytes) (holds wanted.bytes wanted_bytes same)

  pub few_writes : (r : Result (Unit {0}) TreeFault) (h k : List Step) → asked r h k ≤ 1 → (IsKeptBy (holding wanted.bytes) path t → asked r h k ≡ 0) → asked r h k ≤ change_work sets (places t path)
  few_writes r h k most idle = subst (λ n. asked r h k ≤ n) (sym work_is) (elim (object_state_cases new (object_state_of o)) [
    | inl e ↦ let none = idle (bytes_kept (ap (λ (b : ObjectState). b.body.payload) e)) in omega (arith, none)
    | inr e ↦ subst (λ s. asked r h k ≤ (if s then 0 else most_changed)) (sym e) (omega (arith, most))
  ])

  module _ (u : Files) (wrote : places u ≡ on_at path (written now wanted.bytes) (places t)) where
    kept_then : (change : Object → Object) → change second ≡ second → IsKeptBy change path u
    kept_then change e x at = subst (λ y. change y ≡ y) (same_Some second x (sym (there_now u wrote) ∙ at)) e

    object_state_metadata : (object_state_of second).metadata ≡ (object_state_of o).metadata
    object_state_metadata = ap (λ (b : ObjectState). b.metadata) object_state_second

    sets_metadata_all : new ≡ object_state_of o → with_metadata wanted.metadata second ≡ second
    sets_metadata_all e = ap (λ (d : Metadata). with_metadata d second) (wanted_metadata ∙ ap (λ (b : ObjectState). b.metadata) e ∙ sym object_state_metadata)

    sets_metadata_others : new.metadata.attrs ≡ (object_state_of o).metadata.attrs → with_attrs_of wanted.metadata second ≡ second
    sets_metadata_others e = ap (λ v. record second { node = record second.node { attrs = v } }) (ap (λ (d : Metadata). d.attrs) wanted_metadata ∙ e ∙ sym (ap (λ (d : Metadata). d.attrs) object_state_metadata))

    sets_metadata_letters : new.metadata.letters ≡ (object_state_of o).metadata.letters → with_letters_of wanted.metadata second ≡ second
    sets_metadata_letters e = ap (λ v. record second { node = record second.node { letters = v } }) (ap (λ (d : Metadata). d.letters) wanted_metadata ∙ e ∙ sym (ap (λ (d : Metadata). d.letters) object_state_metadata))

    sets_metadata_access : new ≡ record (object_state_of o) { metadata = record (object_state_of o).metadata { attrs = new.metadata.attrs; letters = new.metadata.letters } } → with_access_of wanted.metadata second ≡ second
    sets_metadata_access e =
        ap (λ (d : Metadata). with_access_of d second) wanted_metadata ∙ ap (λ (b : ObjectState). with_access_of b.metadata second) e ∙ ap (λ (d : Metadata). with_access_of d second) (sym object_state_metadata)

    module _ (r : Result (Unit {0}) TreeFault) (n : ℕ) (wrote_few : n ≤ 1) (wrote_none : IsKeptBy (holding wanted.bytes) path t → n ≡ 0) (h k : List Step)
        (few : IsKeptBy (with_attrs_of wanted.metadata) path u → IsKeptBy (with_letters_of wanted.metadata) path u → asked r h k ≤ 3)
        (two : IsKeptBy (with_access_of wanted.metadata) path u → asked r h k ≤ 2)
        (idle : IsKeptBy (with_metadata wanted.metadata) path u → asked r h k ≡ 0) where
      at_most : Kept (object_state_of o) new → n + asked r h k ≤ 4
      at_most (Kept.stays a l) = let most = few (kept_then (with_attrs_of wanted.metadata) (sets_metadata_others a)) (kept_then (with_letters_of wanted.metadata) (sets_metadata_letters l)) in omega (arith, most, wrote_few)
      at_most (Kept.only e) =
          let none = wrote_none (bytes_kept (ap (λ (b : ObjectState). b.body.payload) e)) in
          let most = two (kept_then (with_access_of wanted.metadata) (sets_metadata_access e)) in
          omega (arith, most, none)

      pub few_steps : n + asked r h k ≤ change_work sets (places t path)
      few_steps = subst (λ m. n + asked r h k ≤ m) (sym work_is) (elim (object_state_cases new (object_state_of o)) [
        | inl e ↦
            let none = wrote_none (bytes_kept (ap (λ (b : ObjectState). b.body.payload) e)) in
            let idle = idle (kept_then (with_metadata wanted.metadata) (sets_metadata_all e)) in
            omega (arith, none, idle)
        | inr e ↦ subst (λ s. n + asked r h k ≤ (if s then 0 else most_changed)) (sym e) (at_most set.kept)
      ])

-- the object at a path where something does
pub standing : (t : Files) (path : Path) → IsPresent t path → (o : Object) × (places t path ≡ Some o)
standing t path present = by (places t path) refl present
  where
    by : (v : Option Object) → places t path ≡ v → is_some v ≡ true → (o : Object) × (places t path ≡ Some o)
    by None e h = let wrong : false ≡ true = h in cc
    by (Some o) e h = (o, e)

-- ---- calls that adjust

module _ {S : Type 0} (tree : Ghosts S) (moves : Moves tree) (path : Path) (sets : List Operation) (are : AreSets sets) (a b : S) (whole : IsTree (tree.state a)) (o : Object) (there : places (tree.state a) path ≡ Some o) (wanted : Wanted) (is : IsWanted sets o wanted) (now : ℕ) where
  abbrev t : Files
  t = tree.state a

  pub bytes_acted : (r : Result (Unit {0}) TreeFault) → Acted tree (Changing path (holding wanted.bytes) t) (GivesWanted path wanted.bytes t) 1 now a b r
      → (IsKeptBy (holding wanted.bytes) path t → asked r (tree.steps a) (tree.steps b) ≡ 0)
      → Acted tree (Adjusting path sets t) (GivesSet path sets t) (change_work sets (places t path)) now a b r
  bytes_acted r acted idle = record {
    ran = ran_weaken (Changing path (holding wanted.bytes) t) (Adjusting path sets t) (GivesWanted path wanted.bytes t) (GivesSet path sets t) now
        (writing path sets are t whole o there wanted is now) (bytes_give path sets are t whole o there wanted is now) acted.ran;
    bound = few_writes path sets are t whole o there wanted is now r (tree.steps a) (tree.steps b) acted.bound idle;
    reaches = acted.reaches;
    counted = acted.counted;
    last = acted.last;
  }

  module _ (c : S) (wrote : places (tree.state b) ≡ on_at path (written now wanted.bytes) (places t)) (x : Unit {0}) (first : Acted tree (Changing path (holding wanted.bytes) t) (GivesWanted path wanted.bytes t) 1 now a b (Ok x))
      (idle : IsKeptBy (holding wanted.bytes) path t → asked {A = Unit {0}} (Ok x) (tree.steps a) (tree.steps b) ≡ 0) where
    pub all_acted : (r : Result (Unit {0}) TreeFault) → Acted tree (SettingMetadata path wanted.metadata (tree.state b)) (GivesMetadata path wanted.metadata (tree.state b)) 5 now b c r
        → (IsKeptBy (with_attrs_of wanted.metadata) path (tree.state b) → IsKeptBy (with_letters_of wanted.metadata) path (tree.state b) → asked r (tree.steps b) (tree.steps c) ≤ 3)
        → (IsKeptBy (with_access_of wanted.metadata) path (tree.state b) → asked r (tree.steps b) (tree.steps c) ≤ 2)
        → (IsKeptBy (with_metadata wanted.metadata) path (tree.state b) → asked r (tree.steps b) (tree.steps c) ≡ 0)
        → Acted tree (Adjusting path sets t) (GivesSet path sets t) (change_work sets (places t path)) now a c r
    all_acted r last few two none =
        let before = bytes_acted (Ok x) first idle in
        let after : Ran (Adjusting path sets t) (GivesSet path sets t) now (tree.state b) (tree.steps b) (tree.state c) (tree.steps c) =
        ran_weaken (SettingMetadata path wanted.metadata (tree.state b)) (Adjusting path sets t) (GivesMetadata path wanted.metadata (tree.state b)) (GivesSet path sets t) now
        (setting_metadata path sets are t whole o there wanted is now (tree.state b) wrote) (metadata_gives path sets are t whole o there wanted is now (tree.state b) wrote) last.ran in
        let one = ran-length (Adjusting path sets t) (GivesSet path sets t) now before.ran in
        let more = ran-length (Adjusting path sets t) (GivesSet path sets t) now after in
        let most = few_steps path sets are t whole o there wanted is now (tree.state b) wrote r (asked {A = Unit {0}} (Ok x) (tree.steps a) (tree.steps b)) first.bound idle (tree.steps b) (tree.steps c) few two none in
        record {
          ran = ran_then (Adjusting path sets t) (GivesSet path sets t) now before.ran after;
          bound = omega (arith, one, more, most);
          reaches = moves.goes_on a b c first.reaches last.reaches;
          counted = last.counted ∙ ap (λ n. faults_after (refused r) n) first.counted;
          last = last.last;
        }

-- ---- where a call begins

-- nothing is done
pub adjusting_start : (path : Path) (sets : List Operation) (t : Files) → Adjusting path sets t t
adjusting_start path sets t = (0, λ q. by (same_path path q) q)
  where
    by : (s : Bool) (q : Path) → object_states_of (places t) q ≡ (if s then run (take 0 (parts sets)) (object_states_of (places t) q) else object_states_of (places t) q)
    by true q = refl
    by false q = refl

-- where bytes are wanted a file stands
pub file_wanted : (path : Path) (t : Files) (sets : List Operation) (o : Object) → places t path ≡ Some o → (wanted : Wanted) → IsWanted sets o wanted → IfSome wanted.bytes (λ bytes. IsKind File t path)
file_wanted path t sets o there wanted is = by wanted.bytes is.file
  where
    by : (bytes : Option (List ℕ)) → (bytes ≡ None) ⊎ (o.node.kind ≡ File) → IfSome bytes (λ bytes. IsKind File t path)
    by None h = tt
    by (Some bytes) (inl e) = let wrong : Some bytes ≡ None = e in cc
    by (Some bytes) (inr e) = ap kind_of there ∙ ap Some e

-- sets that write no bytes, or bytes of what is not a file
pub wanted_without : (path : Path) (t : Files) (sets : List Operation) → AreSets sets → (node : Node) → Some node ≡ node_at t path → (writes sets ≡ false) ⊎ (is_file node.kind ≡ false)
    → (made : ObjectState) → run sets (Some (object_state_of (record { node = node; payload = [] }))) ≡ Some made → (o : Object) → places t path ≡ Some o → IsWanted sets o (record { bytes = None; metadata = made.metadata })
wanted_without path t sets are node seen none made e o there = record {
  new = with_payload o.payload made;
  is = subst (λ (n : Node). run sets (Some (object_state_of (record o { node = n }))) ≡ Some (with_payload o.payload made)) same
      (unwritten sets are (object_state_of (record { node = node; payload = o.payload })) [] none made e);
  metadata = refl;
  bytes = refl;
  file = inl refl;
}
  where
    same : node ≡ o.node
    same = same_Some node o.node (seen ∙ ap (option_map (λ (x : Object). x.node)) there)
