-- Laws of new objects as subtrees of one object: the pieces of work that make one, and the steps that they give.
use Rattle.std.specs.Prelude.{◌≡◌, ℕ, ◌<◌, ◌≤◌, Bool, true, false, List, [], ◌∷◌, ◌++◌, length, Option, Some, None, is_some}
use Rattle.std.proofs.Common.{refl, sym, ap, subst, ◌∙◌, inl, inr, arith, lit≤}
use Rattle.std.proofs.lemmas.List.{append-nil}
use Rattle.std.specs.List.{IsDistinct}
use Rattle.pv_acl.specs.Parts.{is_acl, acl_of_mode, special_of}
use Rattle.pv_walk.specs.declared.object_state.ObjectState.{ObjectState}
use Rattle.pv_walk.specs.Nodes.{object_state_of}
use Rattle.pv_path.specs.Paths.{Path, staging_of}
use Rattle.pv_steps.specs.declared.node.Kind.{Kind}
use Rattle.pv_steps.specs.declared.node.Kind.TheVariants.{Directory, File, Link, Fifo, CharDevice, BlockDevice}
use Rattle.pv_steps.specs.declared.step.Step.{Step}
use Rattle.pv_steps.specs.declared.step.Step.TheVariants.{MakeDir, MakeFile, MakeFifo, MakeDevice, MakeLink, Write, SetMode, SetOwner, SetAcl, SetAttrs, SetLetters, SetStamps, Rename, Unlink, RemoveDir}
use Rattle.pv_steps.specs.Objects.{AclFits}
use Rattle.pv_steps.specs.Steps.{device_kind}
use Rattle.pv_steps.proofs.ObjectLaws.{IsObject-fresh, no_attrs, no_letters, small_special}
use Rattle.pv_walk.specs.declared.listing.Piece.{Piece}
use Rattle.pv_walk.specs.declared.listing.Piece.TheVariants.{Make, Give}
use Rattle.pv_walk.specs.declared.new_file.NewFile.{NewFile}
use Rattle.pv_walk.specs.declared.new_file.NewKind.{NewKind}
use Rattle.pv_walk.specs.declared.new_file.NewKind.TheVariants as new
use Rattle.pv_walk.specs.Copying.{single, GivesObjectState, GivesPart, IsNeeded, IsCopyStep}
use Rattle.pv_walk.specs.Making.{held_object, new_metadata}
use Rattle.pv_walk.specs.Pieces.{IsPlan, IsWhole, cost_of, made_of, what_of}
use Rattle.pv_walk.specs.Putting.{IsPutStep}
use Rattle.pv_walk.specs.Replacing.{new_subtree}
use Rattle.pv_walk.specs.Staging.{new_kind, new_payload, new_major, new_minor, new_mode, new_object, most_staged, GivesNew, IsNewFile, HasTarget}
use Rattle.pv_walk.proofs.CopyListing.{listed_end}
use Rattle.pv_walk.proofs.PlanLaws.{IsSubtree}
use Rattle.pv_walk.proofs.StageLaws.{mode_again}

-- ---- a new object is whole

new_mode_bound : (what : NewKind) (mode : ℕ) → mode ≤ 4095 → new_mode what mode ≤ 4095
new_mode_bound new.Directory mode h = h
new_mode_bound (new.File content) mode h = h
new_mode_bound (new.Link target) mode h = lit≤ tt
new_mode_bound new.Fifo mode h = h
new_mode_bound (new.Device block major minor) mode h = h

is_acl-of_mode : (mode : ℕ) → mode ≤ 4095 → is_acl (acl_of_mode mode) ≡ true
is_acl-of_mode mode small = (IsObject-fresh Directory mode [] 0 0 0 (lit≤ tt) small refl refl (refl, refl) tt).acl

fits_new : (what : NewKind) (mode : ℕ) → AclFits (new_kind what) (special_of (new_mode what mode)) (acl_of_mode (new_mode what mode))
fits_new new.Directory mode = tt
fits_new (new.File content) mode = refl
fits_new (new.Link target) mode = (refl, refl)
fits_new new.Fifo mode = refl
fits_new (new.Device true major minor) mode = refl
fits_new (new.Device false major minor) mode = refl

-- the body of a new object tells what it is
pub what_again : (what : NewKind) → what ≡ what_of (record { kind = new_kind what; payload = new_payload what; major = new_major what; minor = new_minor what })
what_again new.Directory = refl
what_again (new.File content) = refl
what_again (new.Link target) = refl
what_again new.Fifo = refl
what_again (new.Device true major minor) = refl
what_again (new.Device false major minor) = refl

pub new_whole : (file : NewFile) → IsNewFile file → IsWhole (object_state_of (new_object file 0))
new_whole file is_new = record {
  target = subst HasTarget (what_again file.what) is_new.target;
  body = ap (λ (what : NewKind). (object_state_of (held_object what 0)).body) (sym (what_again file.what));
  metadata = record {
    owner = is_new.owner;
    special = small_special (new_mode file.what file.mode) (new_mode_bound file.what file.mode is_new.mode);
    acl = is_acl-of_mode (new_mode file.what file.mode) (new_mode_bound file.what file.mode is_new.mode);
    fits = fits_new file.what file.mode;
    attrs = no_attrs (new_kind file.what);
    letters = no_letters (new_kind file.what);
  };
}

-- ---- its pieces of work

-- one object with nothing below it
module _ (b : ObjectState) (whole : IsWhole b) where
  nothing : (r : Path) (n : List ℕ) (x : Path) → is_some (single b (r ++ n ∷ x)) ≡ true → ⊥
  nothing [] n x h = let no : false ≡ true = h in cc
  nothing (m ∷ r) n x h = let no : false ≡ true = h in cc

  alone : (r : Path) (c : ObjectState) → single b r ≡ Some c → IsWhole c
  alone [] c e = let same : b ≡ c = (let both : Some b ≡ Some c = e in cc) in subst IsWhole same whole
  alone (n ∷ r) c e = let no : None ≡ Some c = e in cc

  shallow : (q : Path) → is_some (single b q) ≡ true → length q < 1
  shallow [] h = omega arith
  shallow (n ∷ q) h = let no : false ≡ true = h in cc

  is_subtree : IsSubtree (single b) (λ r. [])
  unfolding IsDistinct
  is_subtree = record { closed = λ r n x h. absurd (nothing r n x h); fits = alone; covers = λ r n x h. absurd (nothing r n x h); distinct = λ r. tt }

  pub one_planned : (pieces : List Piece) → pieces ≡ Give [] b.metadata ∷ Make [] (what_of b.body) ∷ [] → IsPlan pieces × (made_of pieces ≡ single b)
  one_planned pieces is =
      let end = listed_end (single b) (λ r. []) 1 shallow is_subtree pieces (append-nil pieces ∙ is) in
      (end.0, end.1.0)

module _ (file : NewFile) (is_new : IsNewFile file) (pieces : List Piece) (is : pieces ≡ Give [] (new_metadata file) ∷ Make [] file.what ∷ []) where
  pub new_planned : IsPlan pieces × (made_of pieces ≡ new_subtree file)
  new_planned =
      one_planned (object_state_of (new_object file 0)) (new_whole file is_new) pieces
      (is ∙ ap (λ (what : NewKind). Give [] (new_metadata file) ∷ Make [] what ∷ []) (what_again file.what))

  pub new_top : is_some (made_of pieces []) ≡ true
  new_top = ap (λ (s : Path → Option ObjectState). is_some (s [])) new_planned.1

  pub new_cost : cost_of pieces ≡ most_staged
  new_cost = ap cost_of is

-- ---- its steps

module _ (file : NewFile) where
  -- what it is follows from its kind
  what_by : (kind : Kind) → new_kind file.what ≡ kind → file.what ≡ what_of (record (object_state_of (new_object file 0)).body { kind = kind })
  what_by kind e = what_again file.what ∙ ap (λ (k : Kind). what_of (record (object_state_of (new_object file 0)).body { kind = k })) e

  device_by : (block : Bool) → new_kind file.what ≡ device_kind block → file.what ≡ new.Device block (new_major file.what) (new_minor file.what)
  device_by true e = what_by BlockDevice e
  device_by false e = what_by CharDevice e

  object_state_new : (path : Path) (step : Step) → GivesObjectState path (object_state_of (new_object file 0)) step → IsNeeded (object_state_of (new_object file 0)) step → GivesNew path file step
  object_state_new path (MakeDir at) h n = (h.0, what_by Directory h.1)
  object_state_new path (MakeFile at) h n = h
  object_state_new path (MakeFifo at) h n = (h.0, what_by Fifo h.1)
  object_state_new path (MakeDevice at block major minor) h n = (h.0, device_by block h.1.0 ∙ (λ i. new.Device block (h.1.1.0 i) (h.1.1.1 i)))
  object_state_new path (MakeLink at target) h n = (h.0, what_by Link h.1.0 ∙ ap new.Link h.1.1)
  object_state_new path (Write at content) h n = (h.0, what_by File h.1.0 ∙ ap new.File h.1.1)
  object_state_new path (SetOwner at uid gid) h n = h
  object_state_new path (SetMode at mode) h n = (h.0, h.1 ∙ mode_again (new_mode file.what file.mode))
  object_state_new path (SetAcl at acl) h n = absurd (n (ap acl_of_mode (mode_again (new_mode file.what file.mode))))
  object_state_new path (SetAttrs at attrs) h n = absurd (n refl)
  object_state_new path (SetLetters at letters) h n = absurd (n refl)
  object_state_new path (SetStamps at access modify) h n = absurd h
  object_state_new path (Rename from to) h n = absurd h
  object_state_new path (Unlink at) h n = absurd h
  object_state_new path (RemoveDir at) h n = absurd h

  -- what gives the subtree a part gives the new object one
  pub part_new : (path : Path) (step : Step) → GivesPart path (new_subtree file) step → GivesNew path file step
  part_new path step h = by h.rest h.object h.is h.gives h.needed
    where
      by : (rest : Path) (object : ObjectState) → new_subtree file rest ≡ Some object → GivesObjectState (path ++ rest) object step → IsNeeded object step → GivesNew path file step
      by [] object e gives needed =
          let same : object ≡ object_state_of (new_object file 0) = (let both : Some (object_state_of (new_object file 0)) ≡ Some object = e in cc) in
          object_state_new path step (subst (λ (o : ObjectState). GivesObjectState path o step) same (subst (λ (p : Path). GivesObjectState p object step) (append-nil path) gives)) (subst (λ (o : ObjectState). IsNeeded o step) same needed)
      by (n ∷ rest) object e gives needed = let no : None ≡ Some object = e in cc

  pub put_new_step : (path : Path) (step : Step) → IsCopyStep path (new_subtree file) step → IsPutStep path file step
  put_new_step path step (inl h) = inl (part_new (staging_of path) step h)
  put_new_step path step (inr h) = inr h
