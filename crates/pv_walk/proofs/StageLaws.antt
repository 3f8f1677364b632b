-- Laws of new objects that are made at a path: what each step leaves, and that no other path changes.
use Rattle.std.specs.Prelude.{◌≡◌, ◌≢◌, ℕ, ◌≤◌, ◌⊎◌, true, false, nat_le, fold, List, [], ◌∷◌, ◌++◌, length, Some, None, option_map, Result, Ok, Err, OnOk}
use Rattle.std.proofs.Common.{refl, sym, ap, subst, ◌∙◌, inl, inr, arith, zero, suc}
use Rattle.std.specs.List.{list_all}
use Rattle.std.proofs.Math.Seq.{take-nil}
use Rattle.std.proofs.lemmas.Bool.Decides.{nat_tests}
use Rattle.std.proofs.lemmas.List.Folds.{list_all-append}
use Rattle.std.proofs.lemmas.Bool.{and_parts}
use Rattle.pv_path.specs.Paths.{Path, is_prefix, same_path, last_name, parent_of, staging_of}
use Rattle.pv_path.proofs.PathLaws.{path_parts, parent_of-staging_of, not_prefix_not_same}
use Rattle.pv_acl.specs.Parts.{special_of, mode_of, part_of_mode, with_mode as part_with_mode}
use Rattle.pv_acl.specs.declared.part.Part.{Part}
use Rattle.pv_steps.specs.declared.node.Kind.TheVariants.{Directory, File, Link, Fifo, CharDevice, BlockDevice}
use Rattle.pv_steps.specs.declared.object.Object.{Object}
use Rattle.pv_steps.specs.declared.step.Step.{Step}
use Rattle.pv_steps.specs.declared.step.Step.TheVariants.{Write}
use Rattle.pv_steps.specs.declared.tree.TreeFault.{TreeFault}
use Rattle.pv_steps.specs.Objects.{object_state, with_content}
use Rattle.pv_steps.specs.Trees.{Files, Places, places, kind_of, IsKindIn, IsAbsentIn}
use Rattle.pv_steps.specs.Steps.{Can, HasRoom, after, after_at, on_at, made}
use Rattle.pv_steps.proofs.StepLaws.{at_after}
use Rattle.pv_steps.specs.Same.{object_states, Differ}
use Rattle.pv_steps.specs.Runs.{HasEffect}
use Rattle.pv_steps.proofs.ActingLaws.{Asks}
use Rattle.pv_walk.specs.Edits.{SameOutside}
use Rattle.pv_walk.specs.SettingMetadata.{with_metadata, with_first_changes, SettingMetadata}
use Rattle.pv_walk.specs.declared.object_state.ObjectState.{ObjectState}
use Rattle.pv_walk.specs.declared.object_state.Metadata.{Metadata}
use Rattle.pv_walk.specs.Nodes.{object_state_of, object_states_of}
use Rattle.pv_walk.proofs.OperationLaws.{object_state-same, object_states_of-same}
use Rattle.pv_walk.proofs.EditLaws.{on_at-here, on_at-else, made-here, on_at-made, object_states-made, object_states-put_else}
use Rattle.pv_walk.specs.declared.new_file.NewFile.{NewFile}
use Rattle.pv_walk.specs.declared.new_file.NewKind.{NewKind}
use Rattle.pv_walk.specs.declared.new_file.NewKind.TheVariants as new
use Rattle.pv_walk.specs.Staging.{new_kind, IsNewFile, HasTarget, GivesNew}
use Rattle.pv_walk.specs.Making.{make_step, content_of, first_payload, first_object, held_object, IsBegun, Beginning, BeginsNew}
use Rattle.pv_walk.specs.Pieces.{what_of}
use Rattle.pv_walk.specs.Stages.{IsStage, IsAtStage, made_directory}

-- ---- objects

held_empty : (what : NewKind) (now : ℕ) → content_of what ≡ None → first_object what now ≡ held_object what now
held_empty new.Directory now e = refl
held_empty (new.File []) now e = refl
held_empty (new.File (b ∷ bytes)) now e = cc
held_empty (new.Link target) now e = refl
held_empty new.Fifo now e = refl
held_empty (new.Device block major minor) now e = refl

record Held (what : NewKind) (now : ℕ) (content : List ℕ) : Type 0 where
  kind : new_kind what ≡ File
  empty : first_payload what ≡ []
  some : content ≢ []
  is : what ≡ new.File content
  object : with_content content now (first_object what now) ≡ held_object what now

held_content : (what : NewKind) (now : ℕ) (content : List ℕ) → Some content ≡ content_of what → Held what now content
held_content new.Directory now content e = cc
held_content (new.File []) now content e = cc
held_content (new.File (b ∷ bytes)) now content e =
    let same : content ≡ b ∷ bytes = cc in
    record { kind = refl; empty = refl; some = λ none. (let no : b ∷ bytes ≡ [] = sym same ∙ none in cc); is = ap new.File (sym same); object = ap (λ c. with_content c now (first_object (new.File (b ∷ bytes)) now)) same }
held_content (new.Link target) now content e = cc
held_content new.Fifo now content e = cc
held_content (new.Device block major minor) now content e = cc

-- ---- the step that makes the object

gives_make : (path : Path) (file : NewFile) (what : NewKind) → file.what ≡ what → GivesNew path file (make_step path what)
gives_make path file new.Directory e = (refl, e)
gives_make path file (new.File content) e = (refl, ap new_kind e)
gives_make path file (new.Link target) e = (refl, e)
gives_make path file new.Fifo e = (refl, e)
gives_make path file (new.Device block major minor) e = (refl, e)

-- what begins a new object gives it a part of what it is to have
pub begins_gives : (path : Path) (file : NewFile) (step : Step) → BeginsNew path file.what step → GivesNew path file step
begins_gives path file step (inl e) = subst (GivesNew path file) (sym e) (gives_make path file file.what refl)
begins_gives path file step (inr (content, (e, is))) = subst (GivesNew path file) (sym e) (refl, is)

module _ (path : Path) (nonempty : path ≢ []) (now : ℕ) (t : Files) (room : HasRoom (places t) path) where
  make_leaves : (what : NewKind) → after_at (places t) (make_step path what) now ≡ made now path (first_object what now) (places t)
  make_leaves new.Directory = refl
  make_leaves (new.File content) = refl
  make_leaves (new.Link target) = refl
  make_leaves new.Fifo = refl
  make_leaves (new.Device block major minor) = refl

  after_make : (what : NewKind) (u : Files) → u ≡ after t (make_step path what) now → places u ≡ made now path (first_object what now) (places t)
  after_make what u is = ap places is ∙ at_after t (make_step path what) now ∙ make_leaves what

  made_differs : (what : NewKind) → Differ t (after t (make_step path what) now)
  made_differs what = (path, λ e. (let no : None ≡ Some (object_state (first_object what now)) = sym (ap (option_map object_state) room.0) ∙ e ∙ ap (λ p. object_states p path) (after_make what (after t (make_step path what) now) refl) ∙ ap (option_map object_state) (made-here now path (places t) nonempty (first_object what now)) in cc))

  make_busy : (what : NewKind) → HasEffect t (make_step path what) now
  make_busy new.Directory = made_differs new.Directory
  make_busy (new.File content) = made_differs (new.File content)
  make_busy (new.Link target) = made_differs (new.Link target)
  make_busy new.Fifo = made_differs new.Fifo
  make_busy (new.Device block major minor) = made_differs (new.Device block major minor)

  outside_made : (o : Object) (u : Files) → places u ≡ made now path o (places t) → SameOutside (same_path path) t u
  outside_made o u is = λ q e. ap (λ p. object_states p q) is ∙ object_states-made now path o (places t) q ∙ object_states-put_else path q (Some o) (places t) e

  -- nothing is made yet
  pub begun_start : (what : NewKind) → Beginning path what t t
  begun_start what = record { outside = λ q e. refl; here = inl (ap (option_map object_state_of) room.0) }

  begun_made : (what : NewKind) (u : Files) → places u ≡ made now path (first_object what now) (places t) → Beginning path what t u
  begun_made what u is = record {
    outside = outside_made (first_object what now) u is;
    here = inr (object_state_of (first_object what 0), (ap (λ (p : Places). object_states_of p path) is ∙ ap (option_map object_state_of) (made-here now path (places t) nonempty (first_object what now)), inl refl));
  }

  can_make : (what : NewKind) → HasTarget what → Can (places t) (make_step path what)
  can_make new.Directory target = room
  can_make (new.File content) target = room
  can_make (new.Link bytes) target = (room, target)
  can_make new.Fifo target = room
  can_make (new.Device block major minor) target = room

  module _ (what : NewKind) (target : HasTarget what) where
    pub begin_asks : Asks (Beginning path what t) (BeginsNew path what) t (make_step path what) now
    begin_asks = record {
      start = begun_start what;
      can = can_make what target;
      busy = make_busy what;
      there = λ u is. begun_made what u (after_make what u is);
      gives = inl refl;
    }

  module _ (what : NewKind) (u : Files) where
    pub begin_holds : u ≡ after t (make_step path what) now → content_of what ≡ None → places u ≡ made now path (held_object what now) (places t)
    begin_holds is none = after_make what u is ∙ ap (λ o. made now path o (places t)) (held_empty what now none)

    -- ---- the content that is written

    module _ (is : u ≡ after t (make_step path what) now) (content : List ℕ) (some : Some content ≡ content_of what) where
      abbrev first : Object
      first = first_object what now

      held : Held what now content
      held = held_content what now content some

      there : places u path ≡ Some first
      there = ap (λ p. p path) (after_make what u is) ∙ made-here now path (places t) nonempty first

      pub can_write : Can (places u) (Write path content)
      can_write = ap kind_of there ∙ ap Some held.kind

      write_busy : Differ u (after u (Write path content) now)
      write_busy = (
        path,
        λ e.
            (let both : Some (object_state first) ≡ Some (object_state (with_content content now first)) =
            sym (ap (option_map object_state) there) ∙ e ∙ ap (λ p. object_states p path) (at_after u (Write path content) now)
            ∙ ap (option_map object_state) (on_at-here path (with_content content now) (places u) ∙ ap (option_map (with_content content now)) there) in
            let same : object_state first ≡ object_state (with_content content now first) = cc in
            held.some (sym (sym held.empty ∙ ap (λ o. o.payload) same))),
      )

      written_outside : (v : Files) → v ≡ after u (Write path content) now → SameOutside (same_path path) t v
      written_outside v wrote = λ q e.
          ap (λ p. object_states p q) (ap places wrote ∙ at_after u (Write path content) now) ∙ ap (option_map object_state) (on_at-else path q (with_content content now) (places u) e)
          ∙ outside_made first u (after_make what u is) q e

      written_here : (v : Files) → v ≡ after u (Write path content) now → object_states_of (places v) path ≡ Some (object_state_of (held_object what 0))
      written_here v wrote =
          ap (λ (p : Places). object_states_of p path) (ap places wrote ∙ at_after u (Write path content) now)
          ∙ ap (option_map object_state_of) (on_at-here path (with_content content now) (places u) ∙ ap (option_map (with_content content now)) there ∙ ap Some held.object)

      -- after the step that makes the object
      pub write_asks : Asks (Beginning path what t) (BeginsNew path what) u (Write path content) now
      write_asks = record {
        start = begun_made what u (after_make what u is);
        can = can_write;
        busy = write_busy;
        there = λ v wrote. record { outside = written_outside v wrote; here = inr (object_state_of (held_object what 0), (written_here v wrote, inr refl)) };
        gives = inr (content, (refl, held.is));
      }

      pub write_holds : (r : Result (Unit {0}) TreeFault) (v : Files) → OnOk r (v ≡ after u (Write path content) now) → OnOk r (places v ≡ made now path (held_object what now) (places t))
      write_holds (Err e) v done = tt
      write_holds (Ok x) v done =
          ap places done ∙ at_after u (Write path content) now ∙ ap (on_at path (with_content content now)) (after_make what u is)
          ∙ (λ j q. on_at-made now path (places t) nonempty (with_content content now) first q j) ∙ ap (λ o. made now path o (places t)) held.object

  -- a new object is begun
  module _ (file : NewFile) (is_new : IsNewFile file) where
    pub make_asks : Asks (SameOutside (is_prefix path) t) (GivesNew path file) t (make_step path file.what) now
    make_asks =
        let begins = begin_asks file.what is_new.target in
        record {
          start = λ q e. refl;
          can = begins.can;
          busy = begins.busy;
          there = λ u is q e. (begins.there u is).outside q (not_prefix_not_same path q e);
          gives = begins_gives path file (make_step path file.what) begins.gives;
        }

    pub make_holds : (u : Files) → u ≡ after t (make_step path file.what) now → content_of file.what ≡ None → places u ≡ made now path (held_object file.what now) (places t)
    make_holds u = begin_holds file.what u

-- ---- stages

-- the changes of metadata do not look at timestamps
first_object_state : (k : ℕ) (new : Metadata) (o : Object) → object_state (with_first_changes k new o) ≡ with_first_changes k new (object_state o)
first_object_state zero new o = refl
first_object_state (suc zero) new o = refl
first_object_state (suc (suc zero)) new o = refl
first_object_state (suc (suc (suc zero))) new o = refl
first_object_state (suc (suc (suc (suc zero)))) new o = refl
first_object_state (suc (suc (suc (suc (suc k))))) new o =
    ap (λ (changes : List (Object → Object)). object_state (fold (λ x change. change x) (with_metadata new o) changes)) (take-nil k)
    ∙ sym (ap (λ (changes : List (Object → Object)). fold (λ x change. change x) (with_metadata new (object_state o)) changes) (take-nil k))

first_alike : (k : ℕ) (new : Metadata) (a b : Object) → object_state_of a ≡ object_state_of b → object_state_of (with_first_changes k new a) ≡ object_state_of (with_first_changes k new b)
first_alike k new a b e = ap object_state_of (first_object_state k new a ∙ ap (with_first_changes k new) (object_state-same a b e) ∙ sym (first_object_state k new b))

-- the object at a path while it gets metadata
metadata_here : (path : Path) (new : Metadata) (o : Object) (u v : Files) → places u path ≡ Some o → (h : SettingMetadata path new u v) → object_states_of (places v) path ≡ Some (object_state_of (with_first_changes h.0 new o))
metadata_here path new o u v there h =
    object_states_of-same (places v) (on_at path (with_first_changes h.0 new) (places u)) path (h.1 path)
    ∙ ap (option_map object_state_of) (on_at-here path (with_first_changes h.0 new) (places u) ∙ ap (option_map (with_first_changes h.0 new)) there)

-- an object with all it holds gets its metadata
pub setting_metadata_stage : (path : Path) (b : ObjectState) (new : Metadata) (o : Object) (u v : Files) → new ≡ b.metadata → places u path ≡ Some o → object_state_of o ≡ object_state_of (held_object (what_of b.body) 0)
    → SettingMetadata path new u v → IsAtStage (Some b) (object_states_of (places v) path)
setting_metadata_stage path b new o u v same there plain h = IsAtStage.stage b (object_state_of (with_first_changes h.0 new o)) refl (metadata_here path new o u v there h)
    (IsStage.setting_metadata h.0 (first_alike h.0 new o (held_object (what_of b.body) 0) plain ∙ ap (λ d. object_state_of (with_first_changes h.0 d (held_object (what_of b.body) 0))) same))

-- what is begun is at a stage
pub begun_stage : (path : Path) (what : NewKind) (b : ObjectState) (t u : Files) → what ≡ what_of b.body → Beginning path what t u → IsAtStage (Some b) (object_states_of (places u) path)
begun_stage path what b t u same h = by h.here
  where
    by : (object_states_of (places u) path ≡ None) ⊎ ((there : ObjectState) × ((object_states_of (places u) path ≡ Some there) × IsBegun what there)) → IsAtStage (Some b) (object_states_of (places u) path)
    by (inl none) = IsAtStage.none none
    by (inr (there, (is, begun))) = IsAtStage.stage b there refl is (IsStage.begun (subst (λ (w : NewKind). IsBegun w there) same begun))

-- ---- directories

-- what is first made as a directory, with all it holds, is as its Make step leaves it
pub held_directory : (what : NewKind) → (object_state_of (held_object what 0)).body.kind ≡ Directory → object_state_of (held_object what 0) ≡ made_directory
held_directory new.Directory e = refl
held_directory (new.File content) e = let no : File ≡ Directory = e in cc
held_directory (new.Link target) e = let no : Link ≡ Directory = e in cc
held_directory new.Fifo e = let no : Fifo ≡ Directory = e in cc
held_directory (new.Device true major minor) e = let no : BlockDevice ≡ Directory = e in cc
held_directory (new.Device false major minor) e = let no : CharDevice ≡ Directory = e in cc

-- so it is while it is made
pub begun_directory : (path : Path) (what : NewKind) (t u : Files) (found : ObjectState) → Beginning path what t u → object_states_of (places u) path ≡ Some found → found.body.kind ≡ Directory → found ≡ made_directory
begun_directory path what t u found h is dir = by h.here
  where
    first : (w : NewKind) → (object_state_of (first_object w 0)).body.kind ≡ Directory → object_state_of (first_object w 0) ≡ made_directory
    first new.Directory e = refl
    first (new.File content) e = let no : File ≡ Directory = e in cc
    first (new.Link target) e = let no : Link ≡ Directory = e in cc
    first new.Fifo e = let no : Fifo ≡ Directory = e in cc
    first (new.Device true major minor) e = let no : BlockDevice ≡ Directory = e in cc
    first (new.Device false major minor) e = let no : CharDevice ≡ Directory = e in cc

    by : (object_states_of (places u) path ≡ None) ⊎ ((there : ObjectState) × ((object_states_of (places u) path ≡ Some there) × IsBegun what there)) → found ≡ made_directory
    by (inl none) = absurd (let no : None ≡ Some found = sym none ∙ is in cc)
    by (inr (begun_object, (e, begun))) =
        let same : found ≡ begun_object = (let both : Some found ≡ Some begun_object = sym is ∙ e in cc) in
        elim begun [
          | inl b ↦ same ∙ b ∙ first what (ap (λ (x : ObjectState). x.body.kind) (sym (same ∙ b)) ∙ dir)
          | inr b ↦ same ∙ b ∙ held_directory what (ap (λ (x : ObjectState). x.body.kind) (sym (same ∙ b)) ∙ dir)
        ]

-- an object keeps the metadata that it has already
changes_kept : (k : ℕ) (o : Object) → part_with_mode (mode_of o.node.special o.node.acl.access) o.node.acl.access ≡ o.node.acl.access → object_state_of (with_first_changes k (object_state_of o).metadata o) ≡ object_state_of o
changes_kept zero o e = refl
changes_kept (suc zero) o e = refl
changes_kept (suc (suc zero)) o e = ap (λ (part : Part). object_state_of (record o { node = record o.node { acl = record o.node.acl { access = part } } })) e
changes_kept (suc (suc (suc zero))) o e = refl
changes_kept (suc (suc (suc (suc zero)))) o e = refl
changes_kept (suc (suc (suc (suc (suc k))))) o e =
    ap (λ (changes : List (Object → Object)). object_state_of (fold (λ x change. change x) (with_metadata (object_state_of o).metadata o) changes)) (take-nil k)

plain_kept : (k : ℕ) (what : NewKind) → object_state_of (with_first_changes k (object_state_of (held_object what 0)).metadata (held_object what 0)) ≡ object_state_of (held_object what 0)
plain_kept k new.Directory = changes_kept k (held_object new.Directory 0) refl
plain_kept k (new.File content) = changes_kept k (held_object (new.File content) 0) refl
plain_kept k (new.Link target) = changes_kept k (held_object (new.Link target) 0) refl
plain_kept k new.Fifo = changes_kept k (held_object new.Fifo 0) refl
plain_kept k (new.Device block major minor) = changes_kept k (held_object (new.Device block major minor) 0) refl

-- an object that is as it is to be once it has all it holds is so while it gets its metadata
pub setting_metadata_kept : (path : Path) (b : ObjectState) (new : Metadata) (o : Object) (u v : Files) → new ≡ b.metadata → places u path ≡ Some o → object_state_of o ≡ object_state_of (held_object (what_of b.body) 0)
    → object_state_of (held_object (what_of b.body) 0) ≡ b → SettingMetadata path new u v → object_states_of (places v) path ≡ Some b
setting_metadata_kept path b new o u v same there plain whole h =
    metadata_here path new o u v there h
    ∙ ap Some (first_alike h.0 new o (held_object (what_of b.body) 0) plain
    ∙ ap (λ (d : Metadata). object_state_of (with_first_changes h.0 d (held_object (what_of b.body) 0))) (same ∙ ap (λ (x : ObjectState). x.metadata) (sym whole))
    ∙ plain_kept h.0 (what_of b.body) ∙ whole)

-- ---- modes

pub mode_again : (mode : ℕ) → mode_of (special_of mode) (part_of_mode mode) ≡ mode
mode_again mode = omega arith

-- ---- staging names

pub short_last : (path : Path) (n : List ℕ) → list_all (λ name. nat_le (length name) 250) path ≡ true → last_name path ≡ Some n → length n ≤ 250
short_last path n h e =
    let parts : list_all (λ name. nat_le (length name) 250) (parent_of path ++ n ∷ []) ≡ true = ap (list_all (λ name. nat_le (length name) 250)) (sym (path_parts path n e)) ∙ h in
    let last = (and_parts (list_all (λ name. nat_le (length name) 250) (parent_of path)) _ (sym (list_all-append (λ name. nat_le (length name) 250) (parent_of path) (n ∷ [])) ∙ parts)).1 in
    let fits = (and_parts (nat_le (length n) 250) true last).0 in
    grind (arith, nat_tests)

pub staged_room : (t : Places) (path : Path) → IsKindIn Directory t (parent_of path) → IsAbsentIn t (staging_of path) → HasRoom t (staging_of path)
staged_room t path dir free = (free, ap (λ p. kind_of (t p)) (parent_of-staging_of path) ∙ dir)
