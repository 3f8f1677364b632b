-- What the calls say of the way of a line is what the laws of lines say of it, whatever is refused.
use Rattle.std.specs.Prelude.{⊤, ◌≡◌, ◌≢◌, ◌⊎◌, ℕ, ◌+◌, ◌≤◌, Bool, true, false, cond, ◌&&◌, ◌||◌, List, [], ◌∷◌, ◌++◌, length, take, filter, Option, Some, None, unwrap_or, is_some, if◌then◌else◌}
use Rattle.std.proofs.Common.{zero, suc, refl, sym, ap, subst, ◌∙◌, arith, inl, inr}
use Rattle.std.proofs.Math.Seq.{take-length}
use Rattle.std.specs.FinMap as fin
use Rattle.std.specs.List.{list_any, list_all, AllByRecursion}
use Rattle.pv_acl.specs.declared.line.AclLine.{AclLine}
use Rattle.pv_acl.specs.declared.line.Entry.{Entry}
use Rattle.pv_acl.specs.declared.line.How.{How}
use Rattle.pv_acl.specs.declared.line.How.TheVariants.{Add}
use Rattle.pv_acl.specs.declared.part.Acl.{Acl}
use Rattle.pv_acl.specs.declared.part.Part.{Part}
use Rattle.pv_acl.specs.Applying.{part_after, default_after, acl_after}
use Rattle.pv_path.specs.Paths.{Path, same_path, is_prefix, has_staging, same_path-decides}
use Rattle.pv_path.proofs.PathLaws.{same_path-refl, is_prefix-antisym}
use Rattle.pv_path.proofs.Tests.{true_not_false}
use Rattle.pv_steps.specs.Objects.{is_directory}
use Rattle.pv_steps.specs.Same.{Same}
use Rattle.pv_steps.specs.Trees.{Files, places}
use Rattle.pv_walk.specs.declared.object_state.ObjectState.{ObjectState}
use Rattle.pv_walk.specs.declared.operation.Change.TheVariants.{Owner, Mode, Entries, Attrs, Letters}
use Rattle.pv_walk.specs.declared.operation.Guard.{Guard}
use Rattle.pv_walk.specs.declared.operation.Guard.TheVariants.{NoLink}
use Rattle.pv_walk.specs.declared.operation.Operation.{Operation}
use Rattle.pv_walk.specs.declared.operation.Operation.TheVariants.{Make, Renew, Erase, Apply}
use Rattle.pv_walk.specs.declared.operation.Test.{Test}
use Rattle.pv_walk.specs.Dividing.{base_line, parts_of, parts}
use Rattle.pv_walk.specs.Nodes.{object_state_of, object_states_of, same_kind}
use Rattle.pv_walk.specs.Operations.{admits, with_mode, changed, done, run}
use Rattle.pv_walk.specs.Reasons.{is_base, is_make, IsRepeatable as HasNoReason}
use Rattle.pv_walk.proofs.Dividing.{base_first, run-parts}
use Rattle.pv_walk.proofs.EditLaws.{path_cases}
use Rattle.pv_walk.proofs.OperationLaws.{object_states_of-same, object_states-same, run-twice}
use Rattle.pv_walk.proofs.PartChanges.{plain_twice, plain-part_after}
use Rattle.pv_lines.specs.declared.line.Argument.{Argument}
use Rattle.pv_lines.specs.declared.line.Argument.TheVariants as argument
use Rattle.pv_lines.specs.declared.line.Line.{Line}
use Rattle.pv_lines.specs.declared.line.LineMode.{LineMode}
use Rattle.pv_lines.specs.Lines.{IsLine}
use Rattle.pv_walk.specs.Copying.{Subtree}
use Rattle.pv_walk.specs.Listing.{times}
use Rattle.pv_walk.specs.Preparing.{IsAbove}
use Rattle.pv_walk.specs.Staging.{new_object, new_kind}
use Rattle.pv_walk.proofs.CountLaws.{same_or_not}
use Rattle.pv_table.specs.declared.action.Copying.{Copying}
use Rattle.pv_table.specs.declared.action.Action.{Action}
use Rattle.pv_table.specs.declared.action.Action.TheVariants.{Create, Copy, Adjust, Idle}
use Rattle.pv_table.specs.declared.action.Making.{Making}
use Rattle.pv_table.specs.declared.action.Adjustment.{Adjustment}
use Rattle.pv_table.specs.Asked.{first_of, clears_below, operations}
use Rattle.pv_table.specs.ActionTable.{id_to_set, without_links, mode_to_set, owners_and_mode, set_by, making as making_action, copying as copying_action, action_of}
use Rattle.pv_table.specs.Created.{by_turn, by_line}
use Rattle.pv_steps.specs.Doing.{after_each}
use Rattle.pv_table.specs.Effects.{carried_out, is_adjusted, turn_after, turns}
use Rattle.pv_table.specs.Pointwise.{parent_object_state, after_turn}
use Rattle.pv_table.specs.Reaching.{names, path_in, is_deep}
use Rattle.pv_table.specs.Repeatable.{sets_of}
use Rattle.pv_table.specs.Saying.{found}
use Rattle.pv_table.specs.Turns.{Turn, View, Refused, view_of, copied, has_something, decide, making_turn, copying_turn, refused_at}
use Rattle.pv_steps.specs.Courses.{Course, Partway}
use Rattle.pv_create.specs.Reached.{IsPartSet}
use Rattle.pv_create.specs.OnTheWay.{OnWay, IsMidway, IsClearing, turn_at, sets_at, puts_parents, turn_course, LineWay, lines_course}
use Rattle.pv_laws.specs.Copying.{IsCopyMidway, turn_of, OnWayOf, PartwayOf}
use Rattle.pv_laws.specs.Stopping as stopping
use Rattle.pv_laws.specs.Stopping.{IsRenewal}
use Rattle.pv_laws.proofs.AllFrames.{each_kept}
use Rattle.pv_laws.proofs.AllPoints.{turns_copy, copy_idle}
use Rattle.pv_laws.proofs.Copies.{decide_some}
use Rattle.pv_laws.proofs.CopyShapes.{IsCopyTurn, copy_turns}
use Rattle.pv_laws.proofs.Frames.{turn_refused}
use Rattle.pv_laws.proofs.Lines.{line_is_plain, turns_adjust, asked_made, asked_adjustment}
use Rattle.pv_laws.proofs.Making.{is_dir, IsShaped, does_stay, turn_by, IsPlainDirectory, first_on_some, below_after, asked_here, asked_above, asked_else, made_point, ready_here}
use Rattle.pv_laws.proofs.Repeated.{first_makes}
use Rattle.pv_laws.proofs.Sets.{impossible, is_adjustment, IsAsked, IsMaking, line_is_making, asked, sets_adjust, deep_repeatable}
use Rattle.pv_laws.proofs.Adjustment.{turn_open, adjust_point, own_path, once_named, to_adjusts}
use Rattle.pv_create.proofs.LineWays.{WayOf, adjustment_course, way_of}

-- ---- operations, whole and in front parts

pub none_done : (k : ℕ) (b : Option ObjectState) → run (take k []) b ≡ b
none_done zero b = refl
none_done (suc k) b = refl

whole_front : (xs : List Operation) (b : Option ObjectState) → run (take (length (parts xs)) (parts xs)) b ≡ run xs b
whole_front xs b = ap (λ ys. run ys b) (take-length (parts xs)) ∙ run-parts xs b

-- a prefix of one operation, or of two, leaves what neither changes
one_kept : (x : Operation) (b : Option ObjectState) → run (x ∷ []) b ≡ b → (k : ℕ) → run (take k (x ∷ [])) b ≡ b
one_kept x b whole zero = refl
one_kept x b whole (suc zero) = whole
one_kept x b whole (suc (suc k)) = whole

two_kept : (x y : Operation) (b : Option ObjectState) → done x b ≡ b → run (x ∷ y ∷ []) b ≡ b → (k : ℕ) → run (take k (x ∷ y ∷ [])) b ≡ b
two_kept x y b first whole zero = refl
two_kept x y b first whole (suc zero) = first
two_kept x y b first whole (suc (suc zero)) = whole
two_kept x y b first whole (suc (suc (suc k))) = whole

-- a prefix of operations in parts leaves what all of them left
abbrev KeepsEnd : List Operation → Type 0
KeepsEnd xs = (k : ℕ) (b : Option ObjectState) → run (take k (parts xs)) (run xs b) ≡ run xs b

-- ---- owners and mode

unwrap_twice : (o : Option ℕ) (n : ℕ) → unwrap_or o (unwrap_or o n) ≡ unwrap_or o n
unwrap_twice None n = refl
unwrap_twice (Some m) n = refl

module _ (guard : Guard) (uid gid : Option ℕ) where
  abbrev owned : Bool → ObjectState → ObjectState
  owned s b = cond s (record b { metadata = record b.metadata { uid = unwrap_or uid b.metadata.uid; gid = unwrap_or gid b.metadata.gid } }) b

  owned_body : (s : Bool) (b : ObjectState) → (owned s b).body ≡ b.body
  owned_body true b = refl
  owned_body false b = refl

  module _ (other : Guard) (mode : ℕ) (masked : Bool) where
    abbrev moded : Bool → ObjectState → ObjectState
    moded s b = cond s (record b { metadata = with_mode b.body.kind mode masked b.metadata }) b

    moded_body : (s : Bool) (b : ObjectState) → (moded s b).body ≡ b.body
    moded_body true b = refl
    moded_body false b = refl

    moded_uid : (s : Bool) (b : ObjectState) → (moded s b).metadata.uid ≡ b.metadata.uid
    moded_uid true b = by masked
      where
        by : (m : Bool) → (with_mode b.body.kind mode m b.metadata).uid ≡ b.metadata.uid
        by true = refl
        by false = refl
    moded_uid false b = refl

    moded_gid : (s : Bool) (b : ObjectState) → (moded s b).metadata.gid ≡ b.metadata.gid
    moded_gid true b = by masked
      where
        by : (m : Bool) → (with_mode b.body.kind mode m b.metadata).gid ≡ b.metadata.gid
        by true = refl
        by false = refl
    moded_gid false b = refl

    owned_again : (s r : Bool) (b : ObjectState) → owned s (moded r (owned s b)) ≡ moded r (owned s b)
    owned_again false r b = refl
    owned_again true r b =
        let u : unwrap_or uid (moded r (owned true b)).metadata.uid ≡ (moded r (owned true b)).metadata.uid = ap (unwrap_or uid) (moded_uid r (owned true b)) ∙ unwrap_twice uid b.metadata.uid ∙ sym (moded_uid r (owned true b)) in
        let g : unwrap_or gid (moded r (owned true b)).metadata.gid ≡ (moded r (owned true b)).metadata.gid = ap (unwrap_or gid) (moded_gid r (owned true b)) ∙ unwrap_twice gid b.metadata.gid ∙ sym (moded_gid r (owned true b)) in
        λ i. record (moded r (owned true b)) { metadata = record (moded r (owned true b)).metadata { uid = u i; gid = g i } }

    -- the owners stay as they are when they are set again after the mode
    owners_again : (b : Option ObjectState) → done (Apply guard (Owner uid gid)) (run (Apply guard (Owner uid gid) ∷ Apply other (Mode mode masked) ∷ []) b) ≡ run (Apply guard (Owner uid gid) ∷ Apply other (Mode mode masked) ∷ []) b
    owners_again None = refl
    owners_again (Some b) =
        let first = owned (admits guard b.body.kind) b in
        let last = moded (admits other first.body.kind) first in
        let same : last.body ≡ b.body = moded_body (admits other first.body.kind) first ∙ owned_body (admits guard b.body.kind) b in
        ap (λ body. Some (owned (admits guard body.kind) last)) same
        ∙ ap Some (owned_again (admits guard b.body.kind) (admits other first.body.kind) b)

  mode_or_none : (m : Option LineMode) (g : Option Guard) → (mode_to_set m g ≡ []) ⊎ ((other : Guard) × (mode : ℕ) × (masked : Bool) × (mode_to_set m g ≡ Apply other (Mode mode masked) ∷ []))
  mode_or_none None g = inl refl
  mode_or_none (Some mode) None = inl refl
  mode_or_none (Some mode) (Some other) = elim mode.new_only as (λ b. (cond b [] (Apply other (Mode mode.value mode.masked) ∷ []) ≡ []) ⊎ ((o : Guard) × (n : ℕ) × (masked : Bool) × (cond b [] (Apply other (Mode mode.value mode.masked) ∷ []) ≡ Apply o (Mode n masked) ∷ []))) [
    | true ↦ inl refl
    | false ↦ inr (other, mode.value, mode.masked, refl)
  ]

  owners_keep : (m : Option LineMode) (g : Option Guard) → HasNoReason (Apply guard (Owner uid gid) ∷ mode_to_set m g) → KeepsEnd (Apply guard (Owner uid gid) ∷ mode_to_set m g)
  owners_keep m g = by (mode_or_none m g)
    where
      by : (mode_to_set m g ≡ []) ⊎ ((other : Guard) × (mode : ℕ) × (masked : Bool) × (mode_to_set m g ≡ Apply other (Mode mode masked) ∷ []))
          → HasNoReason (Apply guard (Owner uid gid) ∷ mode_to_set m g) → KeepsEnd (Apply guard (Owner uid gid) ∷ mode_to_set m g)
      by (inl e) = subst (λ (xs : List Operation). HasNoReason (Apply guard (Owner uid gid) ∷ xs) → KeepsEnd (Apply guard (Owner uid gid) ∷ xs)) (sym e) (λ once k b.
          one_kept (Apply guard (Owner uid gid)) (run (Apply guard (Owner uid gid) ∷ []) b) (run-twice (Apply guard (Owner uid gid) ∷ []) once b) k)
      by (inr f) = subst (λ (xs : List Operation). HasNoReason (Apply guard (Owner uid gid) ∷ xs) → KeepsEnd (Apply guard (Owner uid gid) ∷ xs)) (sym f.3) (λ once k b.
          two_kept (Apply guard (Owner uid gid)) (Apply f.0 (Mode f.1 f.2)) (run (Apply guard (Owner uid gid) ∷ Apply f.0 (Mode f.1 f.2) ∷ []) b)
          (owners_again f.0 f.1 f.2 b) (run-twice (Apply guard (Owner uid gid) ∷ Apply f.0 (Mode f.1 f.2) ∷ []) once b) k)

-- ---- entries of an ACL

-- the base entries of a line change nothing after all its entries
base_again : (how : How) (es : List Entry) (p : Part) → part_after Add (part_after how p es) (filter is_base es) ≡ part_after how p es
base_again how es p =
    base_first how es (part_after how p es)
    ∙ (λ i. record (part_after how p es) { owner = (once i).owner; group = (once i).group; other = (once i).other })
  where
    once : part_after how (part_after how p es) es ≡ part_after how p es
    once = plain_twice (λ x. part_after how x es) (plain-part_after how es) p

acl_again : (acl : Acl) (line : AclLine) (how : How) (directory : Bool) → acl_after (acl_after acl line how directory) (base_line line) Add directory ≡ acl_after acl line how directory
acl_again acl line how directory = λ i. record {
  access = base_again how line.access acl.access i;
  default_part = kept directory (acl_after acl line how directory).default_part i;
}
  where
    kept : (b : Bool) (d : Option Part) → (if b then default_after Add (acl_after acl line how directory).access d [] else d) ≡ d
    kept true d = refl
    kept false d = refl

entries_again : (guard : Guard) (line : AclLine) (how : How) (b : Option ObjectState)
    → done (Apply guard (Entries (base_line line) Add)) (run (Apply guard (Entries line how) ∷ []) b) ≡ run (Apply guard (Entries line how) ∷ []) b
entries_again guard line how None = refl
entries_again guard line how (Some b) = by (admits guard b.body.kind) refl
  where
    by : (t : Bool) → admits guard b.body.kind ≡ t
        → done (Apply guard (Entries (base_line line) Add)) (Some (if t then changed b.body.kind (Entries line how) b else b)) ≡ Some (if t then changed b.body.kind (Entries line how) b else b)
    by true e =
        ap (λ s. Some (if s then changed b.body.kind (Entries (base_line line) Add) (changed b.body.kind (Entries line how) b) else changed b.body.kind (Entries line how) b)) e
        ∙ ap (λ (acl : Acl). Some (record b { metadata = record b.metadata { acl = acl } })) (acl_again b.metadata.acl line how (is_directory b.body.kind))
    by false e = ap (λ s. Some (if s then changed b.body.kind (Entries (base_line line) Add) b else b)) e

-- entries with base entries among them are two parts
abbrev divided : AclLine → How → Bool → List Operation
divided line how t = (if t then Apply NoLink (Entries (base_line line) Add) ∷ Apply NoLink (Entries line how) ∷ [] else Apply NoLink (Entries line how) ∷ []) ++ []

entries_keep : (line : AclLine) (how : How) → HasNoReason (Apply NoLink (Entries line how) ∷ []) → KeepsEnd (Apply NoLink (Entries line how) ∷ [])
entries_keep line how once k b = by (list_any is_base line.access) (run-parts (Apply NoLink (Entries line how) ∷ []) end)
  where
    end : Option ObjectState
    end = run (Apply NoLink (Entries line how) ∷ []) b

    twice : run (Apply NoLink (Entries line how) ∷ []) end ≡ end
    twice = run-twice (Apply NoLink (Entries line how) ∷ []) once b

    by : (t : Bool) → run (divided line how t) end ≡ run (Apply NoLink (Entries line how) ∷ []) end → run (take k (divided line how t)) end ≡ end
    by true same = two_kept (Apply NoLink (Entries (base_line line) Add)) (Apply NoLink (Entries line how)) end (entries_again NoLink line how b) (same ∙ twice) k
    by false same = one_kept (Apply NoLink (Entries line how)) end twice k

-- ---- what is set of all below a path

argument_keeps : (plus : Bool) (a : Argument) → HasNoReason (set_by plus a) → KeepsEnd (set_by plus a)
argument_keeps plus (argument.FileBytes bytes) once k b = none_done k b
argument_keeps plus (argument.WriteBytes bytes) once k b = none_done k b
argument_keeps plus (argument.Target target) once k b = none_done k b
argument_keeps plus (argument.Source source) once k b = none_done k b
argument_keeps plus (argument.Device major minor) once k b = none_done k b
argument_keeps plus (argument.Entries line) once k b = entries_keep line _ once k b
argument_keeps plus (argument.Attrs attrs) once k b = one_kept (Apply NoLink (Attrs attrs)) (run (Apply NoLink (Attrs attrs) ∷ []) b) (run-twice (Apply NoLink (Attrs attrs) ∷ []) once b) k
argument_keeps plus (argument.Letters how letters) once k b = one_kept (Apply NoLink (Letters how letters)) (run (Apply NoLink (Letters how letters) ∷ []) b) (run-twice (Apply NoLink (Letters how letters) ∷ []) once b) k
argument_keeps plus argument.Ignored once k b = none_done k b

deep_keeps : (line : Line) (adjustment : Adjustment) → action_of line ≡ Adjust adjustment → adjustment.deep ≡ true → KeepsEnd adjustment.sets
deep_keeps line adjustment e deep = by (asked line)
  where
    once : HasNoReason adjustment.sets
    once = deep_repeatable line adjustment e deep

    by : IsAsked line (action_of line) → KeepsEnd adjustment.sets
    by (IsAsked.makes what file is) = absurd (let no : Adjust adjustment ≡ making_action what line = sym e ∙ is in cc)
    by (IsAsked.copies is) = absurd (let no : Adjust adjustment ≡ copying_action line = sym e ∙ is in cc)
    by (IsAsked.adjusts d wanted guard is) =
        let same : adjustment.sets ≡ owners_and_mode guard line = ap sets_of (sym e ∙ is) in
        subst KeepsEnd (sym same) (owners_keep guard (id_to_set line.user) (id_to_set line.group) line.mode (without_links guard) (subst HasNoReason same once))
    by (IsAsked.writes is) = impossible (sym (ap is_deep (sym e ∙ is)) ∙ deep)
    by (IsAsked.sets d is) =
        let same : adjustment.sets ≡ set_by line.plus line.argument = ap sets_of (sym e ∙ is) in
        subst KeepsEnd (sym same) (argument_keeps line.plus line.argument (subst HasNoReason same once))
    by (IsAsked.idle is) = absurd (let no : Adjust adjustment ≡ Idle = sym e ∙ is in cc)

-- ---- a line that adjusts what is there

-- of the object at a path nothing is set, or a prefix of the sets, where some turn reaches the path
abbrev IsFront : List Operation → Option ObjectState → Option ObjectState → Type 0
IsFront xs old new = (k : ℕ) × (new ≡ run (take k (parts xs)) old)

-- also where one more turn may reach it
front_more : (xs : List Operation) (reached more : Bool) (old new : Option ObjectState) → IsFront (cond more xs []) old new → IsFront (cond (reached || more) xs []) old new
front_more xs false more old new front = front
front_more xs true true old new front = front
front_more xs true false old new front = (zero, front.1 ∙ none_done front.0 old)

-- what is set after a turn that reached it is a prefix of what is set from its start
front_on : (xs : List Operation) (more : Bool) (old mid new : Option ObjectState) → (more ≡ true → KeepsEnd xs) → mid ≡ run xs old → IsFront (cond more xs []) mid new → IsFront xs old new
front_on xs false old mid new keeps e front = (length (parts xs), front.1 ∙ none_done front.0 mid ∙ e ∙ sym (whole_front xs old))
front_on xs true old mid new keeps e front = (length (parts xs), front.1 ∙ ap (run (take front.0 (parts xs))) e ∙ keeps refl front.0 old ∙ sym (whole_front xs old))

module _ (now : ℕ) (line : Line) (adjustment : Adjustment) (e : action_of line ≡ Adjust adjustment) where
  adjust : list_all is_adjustment adjustment.sets ≡ true
  adjust = subst (λ d. list_all is_adjustment (sets_of d) ≡ true) e (sets_adjust line (action_of line) (asked line))

  -- whether a turn at one of some paths reaches a path
  abbrev is_reached : List Path → Path → Bool
  is_reached paths q = list_any (λ p. is_adjusted adjustment p q) paths

  -- a turn leaves what stood at the path, or has set it
  turned : (p : Path) (t : Files) (q : Path) → (object_states_of (places (turn_after now line p t)) q ≡ object_states_of (places t) q)
      ⊎ ((is_adjusted adjustment p q ≡ true) × (object_states_of (places (turn_after now line p t)) q ≡ run adjustment.sets (object_states_of (places t) q)))
  turned p t q = by (refused_at line p (places t)) refl
    where
      at : (b : Bool) → is_adjusted adjustment p q ≡ b → object_states_of (places (turn_after now line p t)) q ≡ cond b (run adjustment.sets (object_states_of (places t) q)) (object_states_of (places t) q)
          → (object_states_of (places (turn_after now line p t)) q ≡ object_states_of (places t) q)
          ⊎ ((is_adjusted adjustment p q ≡ true) × (object_states_of (places (turn_after now line p t)) q ≡ run adjustment.sets (object_states_of (places t) q)))
      at true r f = inr (r, f)
      at false r f = inl f

      by : (r : Option Refused) → refused_at line p (places t) ≡ r → (object_states_of (places (turn_after now line p t)) q ≡ object_states_of (places t) q)
          ⊎ ((is_adjusted adjustment p q ≡ true) × (object_states_of (places (turn_after now line p t)) q ≡ run adjustment.sets (object_states_of (places t) q)))
      by None free = at (is_adjusted adjustment p q) refl (
          ap (λ (u : Files). object_states_of (places u) q) (turn_open now line p t free ∙ ap (λ (d : Action). carried_out now d p t) e)
          ∙ adjust_point now adjustment adjust p t q)
      by (Some place) refused = inl (ap (λ (u : Files). object_states_of (places u) q) (turn_refused now line p t place refused))

  -- a path that does not stand among some is reached at none, where each turn reaches its own path alone
  never_reached : adjustment.deep ≡ false → (q : Path) (paths : List Path) → times q paths ≡ 0 → is_reached paths q ≡ false
  never_reached shallow q [] none = refl
  never_reached shallow q (p ∷ paths) none = elim (same_or_not p q) [
    | inl s ↦ absurd (let n = ap (λ c. cond c 1 0 + times q paths) s.1 in omega (arith, none, n))
    | inr d ↦
        ap (λ b. b || is_reached paths q) (own_path now adjustment adjust shallow p q ∙ d)
        ∙ never_reached shallow q paths (let n = ap (λ c. cond c 1 0 + times q paths) d in omega (arith, none, n))
  ]

  -- each turn reaches its own path alone, and a path stands once among those left; or sets that were set to the end stay
  abbrev IsOnce : Path → List Path → Type 0
  IsOnce q paths = (adjustment.deep ≡ true) ⊎ ((adjustment.deep ≡ false) × (times q paths ≤ 1))

  once_later : (q p : Path) (paths : List Path) → IsOnce q (p ∷ paths) → IsOnce q paths
  once_later q p paths (inl deep) = inl deep
  once_later q p paths (inr few) = inr (few.0, (let n = few.1 in omega (arith, n)))

  once_keeps : (q p : Path) (paths : List Path) → IsOnce q (p ∷ paths) → is_adjusted adjustment p q ≡ true → is_reached paths q ≡ true → KeepsEnd adjustment.sets
  once_keeps q p paths (inl deep) here there = deep_keeps line adjustment e deep
  once_keeps q p paths (inr few) here there = absurd (
      let n = ap (λ c. cond c 1 0 + times q paths) (sym (own_path now adjustment adjust few.0 p q) ∙ here) in
      let less = few.1 in
      true_not_false (is_reached paths q) there (never_reached few.0 q paths (omega (arith, less, n))))

  turns_front : (q : Path) → has_staging q ≡ false → (paths : List Path) (t u : Files) → IsOnce q paths
      → Partway (adjustment_course now line adjustment) paths t u → IsFront (cond (is_reached paths q) adjustment.sets []) (object_states_of (places t) q) (object_states_of (places u) q)
  turns_front q plain [] t u once same = (zero, sym (object_states_of-same (places t) (places u) q (same q plain)))
  turns_front q plain (p ∷ paths) t u once (inl way) = by (way.each q)
    where
      by : IsPartSet (is_adjusted adjustment p q) adjustment.sets (object_states_of (places t) q) (object_states_of (places u) q) → IsFront (cond (is_reached (p ∷ paths) q) adjustment.sets []) (object_states_of (places t) q) (object_states_of (places u) q)
      by (IsPartSet.kept same) = (zero, same)
      by (IsPartSet.set k reached part) = (k, part ∙ sym (ap (λ b. run (take k (parts (cond (b || is_reached paths q) adjustment.sets []))) (object_states_of (places t) q)) reached))
  turns_front q plain (p ∷ paths) t u once (inr later) = by (turned p t q) (turns_front q plain paths (turn_after now line p t) u (once_later q p paths once) later)
    where
      by : (object_states_of (places (turn_after now line p t)) q ≡ object_states_of (places t) q)
          ⊎ ((is_adjusted adjustment p q ≡ true) × (object_states_of (places (turn_after now line p t)) q ≡ run adjustment.sets (object_states_of (places t) q)))
          → IsFront (cond (is_reached paths q) adjustment.sets []) (object_states_of (places (turn_after now line p t)) q) (object_states_of (places u) q)
          → IsFront (cond (is_adjusted adjustment p q || is_reached paths q) adjustment.sets []) (object_states_of (places t) q) (object_states_of (places u) q)
      by (inl same) front =
          front_more adjustment.sets (is_adjusted adjustment p q) (is_reached paths q) (object_states_of (places t) q) (object_states_of (places u) q)
          (subst (λ (b : Option ObjectState). IsFront (cond (is_reached paths q) adjustment.sets []) b (object_states_of (places u) q)) same front)
      by (inr set) front = subst (λ b. IsFront (cond (b || is_reached paths q) adjustment.sets []) (object_states_of (places t) q) (object_states_of (places u) q)) (sym set.0) (
          front_on adjustment.sets (is_reached paths q) (object_states_of (places t) q) (object_states_of (places (turn_after now line p t)) q) (object_states_of (places u) q) (once_keeps q p paths once set.0) set.1 front)

  module _ (t u : Files) (shape : IsShaped (object_states_of (places t))) (q : Path) (plain : has_staging q ≡ false) where
    -- the paths at which it is carried out
    abbrev named : List Path
    named = filter (names line) (fin.keys t)

    once_there : IsOnce q named
    once_there = by adjustment.deep refl
      where
        at : (a b : Bool) → times q named ≡ cond a (cond b 1 0) 0 → times q named ≤ 1
        at true true n = omega (arith, n)
        at true false n = omega (arith, n)
        at false b n = omega (arith, n)

        by : (d : Bool) → adjustment.deep ≡ d → IsOnce q named
        by true deep = inl deep
        by false shallow = inr (shallow, at (names line q) (is_some (places t q)) (once_named now line adjustment e t shape q))

    adjustment_piece : Partway (adjustment_course now line adjustment) named t u → stopping.IsMidway line q (object_states_of (places t) q) (object_states_of (places u) q)
    adjustment_piece way = by (is_reached named q) refl (turns_front q plain named t u once_there way)
      where
        by : (b : Bool) → is_reached named q ≡ b → IsFront (cond b adjustment.sets []) (object_states_of (places t) q) (object_states_of (places u) q) → stopping.IsMidway line q (object_states_of (places t) q) (object_states_of (places u) q)
        by false h front = stopping.IsMidway.piece zero (front.1 ∙ none_done front.0 (object_states_of (places t) q))
        by true h front = stopping.IsMidway.piece front.0 (
            front.1 ∙ sym (ap (λ xs. run (take front.0 (parts xs)) (object_states_of (places t) q)) (
            asked_adjustment line adjustment q e ∙ ap (λ b. cond b adjustment.sets []) (to_adjusts now line adjustment e t shape q plain h))))

-- ---- a line that makes or copies something

-- the object at one path while it is at work: the same, or a parent; what the first of the sets, in parts, make of it, at
-- the path of the line; or nothing yet, where something is put
data IsAtWork (now : ℕ) (line : Line) (t : Files) (q : Path) (old new : Option ObjectState) : Type 0 where
  kept : new ≡ old → IsAtWork now line t q old new
  parent : puts_parents (places t) (action_of line) ≡ true → IsAbove q (path_in line.path) → old ≡ None → new ≡ Some parent_object_state → IsAtWork now line t q old new
  some_set : (k : ℕ) (xs : List Operation) → path_in line.path ≡ q → turn_at now line (path_in line.path) t ≡ Turn.Become xs → new ≡ run (take k (parts xs)) old → IsAtWork now line t q old new
  gone : (subtree : Subtree) → is_prefix (path_in line.path) q ≡ true → turn_at now line (path_in line.path) t ≡ Turn.Put subtree → new ≡ None → IsAtWork now line t q old new

abbrev Puts : Action → Type 0
Puts (Create making) = ⊤
Puts (Copy copying) = ⊤
Puts action = ⊥

-- it sets the object at its path alone
abbrev set_alone : Turn → Bool → List Operation
set_alone (Turn.Become xs) here = if here then xs else []
set_alone turn here = []

sets_alone : (d : Action) → Puts d → (turn : Turn) (path q : Path) → sets_at d turn path q ≡ set_alone turn (same_path path q)
sets_alone (Create making) puts Turn.Nothing path q = refl
sets_alone (Create making) puts (Turn.Left kind) path q = refl
sets_alone (Create making) puts (Turn.Put subtree) path q = refl
sets_alone (Create making) puts (Turn.Become xs) path q = refl
sets_alone (Copy copying) puts Turn.Nothing path q = refl
sets_alone (Copy copying) puts (Turn.Left kind) path q = refl
sets_alone (Copy copying) puts (Turn.Put subtree) path q = refl
sets_alone (Copy copying) puts (Turn.Become xs) path q = refl
sets_alone (Adjust adjustment) puts turn path q = absurd puts
sets_alone Idle puts turn path q = absurd puts

module _ (now : ℕ) (line : Line) (puts : Puts (action_of line)) (t : Files) where
  midway_work : (q : Path) (old new : Option ObjectState) → IsMidway now line (path_in line.path) t q old new → IsAtWork now line t q old new
  midway_work q old new (IsMidway.parent some above none f) = parent some above none f
  midway_work q old new (IsMidway.set k f) =
      by (turn_at now line (path_in line.path) t) refl (same_path (path_in line.path) q) refl
      (f ∙ ap (λ xs. run (take k (parts xs)) old) (sets_alone (action_of line) puts (turn_at now line (path_in line.path) t) (path_in line.path) q))
    where
      by : (turn : Turn) → turn_at now line (path_in line.path) t ≡ turn → (here : Bool) → same_path (path_in line.path) q ≡ here → new ≡ run (take k (parts (set_alone turn here))) old → IsAtWork now line t q old new
      by Turn.Nothing g here h i = kept (i ∙ none_done k old)
      by (Turn.Left kind) g here h i = kept (i ∙ none_done k old)
      by (Turn.Put subtree) g here h i = kept (i ∙ none_done k old)
      by (Turn.Become xs) g true h i = some_set k xs ((same_path-decides (path_in line.path) q).0 h) g i
      by (Turn.Become xs) g false h i = kept (i ∙ none_done k old)

  clearing_work : (subtree : Subtree) → turn_at now line (path_in line.path) t ≡ Turn.Put subtree → (q : Path) (old new : Option ObjectState) → IsClearing now line (path_in line.path) t q old new → IsAtWork now line t q old new
  clearing_work subtree put q old new (IsClearing.midway m) = midway_work q old new m
  clearing_work subtree put q old new (IsClearing.gone below none) = gone subtree below put none

  -- it is at work at each path, or done
  way_work : (u : Files) → OnWay now line (path_in line.path) t u
      → ((q : Path) → has_staging q ≡ false → IsAtWork now line t q (object_states_of (places t) q) (object_states_of (places u) q)) ⊎ Same (turn_after now line (path_in line.path) t) u
  way_work u (OnWay.before same) = inl (λ q plain. kept (sym (object_states_of-same (places t) (places u) q (same q plain))))
  way_work u (OnWay.midway free at) = inl (λ q plain. midway_work q (object_states_of (places t) q) (object_states_of (places u) q) (at q plain))
  way_work u (OnWay.making_way subtree free put staged needed stays at) = inl (λ q plain. clearing_work subtree put q (object_states_of (places t) q) (object_states_of (places u) q) (at q plain))
  way_work u (OnWay.whole same) = inr same

-- ---- a line that makes something

-- the first operation of a making is one part
make_alone : (x : Operation) → is_make x ≡ true → parts_of x ≡ x ∷ []
make_alone (Make new) h = refl
make_alone (Renew test new) h = refl
make_alone Erase h = impossible h
make_alone (Apply guard change) h = impossible h

module _ (now : ℕ) (line : Line) (making : Making) (e : action_of line ≡ Create making) (unstaged : has_staging (path_in line.path) ≡ false) (t : Files) (shape : IsShaped (object_states_of (places t))) where
  abbrev path : Path
  path = path_in line.path

  made : IsMaking making
  made = line_is_making line making e

  pub turn_is : turn_at now line path t ≡ making_turn making (object_states_of (places t) path)
  turn_is =
      ap (λ (d : Action). if has_something (places t) d then decide d (view_of (found now d path t)) path else Turn.Nothing) e
      ∙ ap (making_turn making) (ready_here now path unstaged t shape)

  -- ---- at the path

  asked_at_it : parts (operations line path) ≡ first_of making ∷ parts making.sets
  asked_at_it =
      ap parts (asked_made line making path e ∙ asked_here making path path (same_path-refl path))
      ∙ ap (λ xs. xs ++ parts making.sets) (make_alone (first_of making) (first_makes making made).0)

  -- the first operation leaves what stays
  after_first : (b : ObjectState) → does_stay making made making.renew b ≡ true → (k : ℕ) → run (take (suc k) (parts (operations line path))) (Some b) ≡ run (take k (parts making.sets)) (Some b)
  after_first b stay k =
      ap (λ xs. run (take (suc k) xs) (Some b)) asked_at_it
      ∙ ap (run (take k (parts making.sets))) (first_on_some making made b ∙ ap (λ s. Some (cond s b (object_state_of (new_object making.new 0)))) stay)

  set_here : (k : ℕ) (xs : List Operation) (old new : Option ObjectState) → making_turn making old ≡ Turn.Become xs → new ≡ run (take k (parts xs)) old → stopping.IsMidway line path old new
  set_here k xs None new becomes f = absurd (let no : Turn.Put _ ≡ Turn.Become xs = becomes in cc)
  set_here k xs (Some b) new becomes f = by (does_stay making made making.renew b) (same_kind (new_kind making.new.what) b.body.kind) refl becomes
    where
      own : Turn.Become making.sets ≡ Turn.Become xs → xs ≡ making.sets
      own g = cc

      by : (stay same : Bool) → does_stay making made making.renew b ≡ stay → turn_by making made stay same b ≡ Turn.Become xs → stopping.IsMidway line path (Some b) new
      by false same s g = absurd (let no : Turn.Put _ ≡ Turn.Become xs = g in cc)
      by true false s g = absurd (let no : Turn.Left b.body.kind ≡ Turn.Become xs = g in cc)
      by true true s g = stopping.IsMidway.piece (suc k) (f ∙ ap (λ ys. run (take k (parts ys)) (Some b)) (own g) ∙ sym (after_first b s k))

  -- what gives way to the line's own object
  renewal_of : (b : ObjectState) → does_stay making made making.renew b ≡ false → IsRenewal line path b
  renewal_of b goes = by making.renew refl goes
    where
      by : (r : Option Test) → making.renew ≡ r → does_stay making made r b ≡ false → IsRenewal line path b
      by None f g = impossible (sym g)
      by (Some test) f g = record { making = making; test = test; makes = e; at = refl; renews = f; fails = g }

  gone_here : (subtree : Subtree) (old new : Option ObjectState) → making_turn making old ≡ Turn.Put subtree → new ≡ None → stopping.IsMidway line path old new
  gone_here subtree None new put none = stopping.IsMidway.piece zero none
  gone_here subtree (Some b) new put none = by (does_stay making made making.renew b) (same_kind (new_kind making.new.what) b.body.kind) refl put
    where
      by : (stay same : Bool) → does_stay making made making.renew b ≡ stay → turn_by making made stay same b ≡ Turn.Put subtree → stopping.IsMidway line path (Some b) new
      by false same s g = stopping.IsMidway.gap b refl (renewal_of b s) none
      by true true s g = absurd (let no : Turn.Become making.sets ≡ Turn.Put subtree = g in cc)
      by true false s g = absurd (let no : Turn.Left b.body.kind ≡ Turn.Put subtree = g in cc)

  -- ---- elsewhere

  -- a subtree that is put has nothing below the path
  nothing_below : (subtree : Subtree) (old b : Option ObjectState) → making_turn making old ≡ Turn.Put subtree → after_turn (making_turn making old) ([] ∷ []) b ≡ None
  nothing_below subtree None b put = refl
  nothing_below subtree (Some x) b put = by (does_stay making made making.renew x) (same_kind (new_kind making.new.what) x.body.kind) put
    where
      by : (stay same : Bool) → turn_by making made stay same x ≡ Turn.Put subtree → after_turn (turn_by making made stay same x) ([] ∷ []) b ≡ None
      by false same g = refl
      by true true g = absurd (let no : Turn.Become making.sets ≡ Turn.Put subtree = g in cc)
      by true false g = absurd (let no : Turn.Left x.body.kind ≡ Turn.Put subtree = g in cc)

  module _ (q : Path) (plain : has_staging q ≡ false) (below : is_prefix path q ≡ true) (other : same_path path q ≡ false) where
    differ : path ≢ q
    differ s = true_not_false (same_path path q) ((same_path-decides path q).1 s) other

    not_above : (b : Bool) → is_prefix q path ≡ b → is_prefix q path ≡ false
    not_above true above = absurd (differ (is_prefix-antisym path q below above))
    not_above false above = above

    asked_below : operations line q ≡ cond (clears_below making) (Erase ∷ []) []
    asked_below =
        asked_made line making q e ∙ asked_else making path q other (not_above (is_prefix q path) refl)
        ∙ ap (λ b. cond (b && clears_below making) (Erase ∷ []) []) below

    -- below what is not a directory nothing stands
    none_below : is_dir (object_states_of (places t) path) ≡ false → object_states_of (places t) q ≡ None
    none_below h = by (object_states_of (places t) q) refl
      where
        by : (b : Option ObjectState) → object_states_of (places t) q ≡ b → b ≡ None
        by None f = refl
        by (Some x) f = absurd (true_not_false (is_dir (object_states_of (places t) path)) (shape.above path q plain below differ (ap is_some f)) h)

    plain_directory : (x : ObjectState) → object_states_of (places t) path ≡ Some x → is_directory x.body.kind ≡ true → IsPlainDirectory making made x
    plain_directory x f h = let numbers = shape.plain path x unstaged f h in (h, numbers.0, numbers.1)

    gone_below : (subtree : Subtree) (new : Option ObjectState) → making_turn making (object_states_of (places t) path) ≡ Turn.Put subtree → new ≡ None → stopping.IsMidway line q (object_states_of (places t) q) new
    gone_below subtree new put none = stopping.IsMidway.piece (length (parts (operations line q))) (
        none ∙ sym (nothing_below subtree (object_states_of (places t) path) (object_states_of (places t) q) put)
        ∙ below_after making made (object_states_of (places t) path) (object_states_of (places t) q) plain_directory none_below [] []
        ∙ sym (ap (λ xs. run xs (object_states_of (places t) q)) asked_below) ∙ sym (whole_front (operations line q) (object_states_of (places t) q)))

  -- ---- at each path

  pub gone_at : (subtree : Subtree) → turn_at now line path t ≡ Turn.Put subtree → (q : Path) → has_staging q ≡ false → is_prefix path q ≡ true → (new : Option ObjectState) → new ≡ None → stopping.IsMidway line q (object_states_of (places t) q) new
  gone_at subtree put q plain below new none = elim (path_cases path q) [
    | inl same ↦ subst (λ (p : Path). stopping.IsMidway line p (object_states_of (places t) p) new) same (gone_here subtree (object_states_of (places t) path) new (sym turn_is ∙ put) none)
    | inr other ↦ gone_below q plain below other subtree new (sym turn_is ∙ put) none
  ]

  making_at : (q : Path) → has_staging q ≡ false → (new : Option ObjectState) → IsAtWork now line t q (object_states_of (places t) q) new → stopping.IsMidway line q (object_states_of (places t) q) new
  making_at q plain new (kept f) = stopping.IsMidway.piece zero f
  making_at q plain new (parent some above absent f) = stopping.IsMidway.piece 1 (
      f ∙ sym (
      ap (λ xs. run (take 1 (parts xs)) (object_states_of (places t) q)) (asked_made line making q e ∙ asked_above making path q (by (path_cases path q)) above.0)
      ∙ ap (run (Make parent_object_state ∷ [])) absent))
    where
      by : (path ≡ q) ⊎ (same_path path q ≡ false) → same_path path q ≡ false
      by (inl same) = absurd (above.1 (sym same))
      by (inr other) = other
  making_at q plain new (some_set k xs same becomes f) =
      subst (λ (p : Path). new ≡ run (take k (parts xs)) (object_states_of (places t) p) → stopping.IsMidway line p (object_states_of (places t) p) new) same
      (set_here k xs (object_states_of (places t) path) new (sym turn_is ∙ becomes)) f
  making_at q plain new (gone subtree below put none) = gone_at subtree put q plain below new none

  -- or when it is done
  whole_at : (q : Path) → has_staging q ≡ false → (new : Option ObjectState) → new ≡ object_states_of (places (turn_after now line path t)) q → stopping.IsMidway line q (object_states_of (places t) q) new
  whole_at q plain new f = by (refused_at line path (places t)) refl
    where
      by : (r : Option Refused) → refused_at line path (places t) ≡ r → stopping.IsMidway line q (object_states_of (places t) q) new
      by None free = stopping.IsMidway.piece (length (parts (operations line q))) (
          f ∙ ap (λ (u : Files). object_states_of (places u) q) (turn_open now line path t free ∙ ap (λ (d : Action). carried_out now d path t) e)
          ∙ made_point now making made path unstaged t shape q plain
          ∙ ap (λ xs. run xs (object_states_of (places t) q)) (sym (asked_made line making q e)) ∙ sym (whole_front (operations line q) (object_states_of (places t) q)))
      by (Some place) refused = stopping.IsMidway.piece zero (f ∙ ap (λ (u : Files). object_states_of (places u) q) (turn_refused now line path t place refused))

  making_piece : (u : Files) → ((q : Path) → has_staging q ≡ false → IsAtWork now line t q (object_states_of (places t) q) (object_states_of (places u) q)) ⊎ Same (turn_after now line path t) u → stopping.OnWay line t u
  making_piece u (inl at) q plain = making_at q plain (object_states_of (places u) q) (at q plain)
  making_piece u (inr same) q plain = whole_at q plain (object_states_of (places u) q) (sym (object_states_of-same (places (turn_after now line path t)) (places u) q (same q plain)))

-- ---- a line that copies

-- what a line that copies becomes of the object there is what it sets
become_sets : (copying : Copying) (v : View) (path : Path) (xs : List Operation) → decide (Copy copying) v path ≡ Turn.Become xs → xs ≡ copying.sets
become_sets copying v path xs e = by (v.at copying.source) refl
  where
    same : (ys : List Operation) → Turn.Become xs ≡ Turn.Become ys → xs ≡ ys
    same ys f = cc

    at : (b : ObjectState) → v.at copying.source ≡ Some b → IsCopyTurn copying v (copying_turn copying v path b.body.kind (v.at path)) → xs ≡ copying.sets
    at b f (IsCopyTurn.puts g) = absurd (let no : Turn.Become xs ≡ _ = sym e ∙ decide_some copying v path b f ∙ g in cc)
    at b f (IsCopyTurn.becomes g) = same copying.sets (sym e ∙ decide_some copying v path b f ∙ g)
    at b f (IsCopyTurn.leaves kind g) = absurd (let no : Turn.Become xs ≡ Turn.Left kind = sym e ∙ decide_some copying v path b f ∙ g in cc)

    nothing : v.at copying.source ≡ None → decide (Copy copying) v path ≡ Turn.Nothing
    nothing f = rw f

    by : (b : Option ObjectState) → v.at copying.source ≡ b → xs ≡ copying.sets
    by None f = absurd (let no : Turn.Become xs ≡ Turn.Nothing = sym e ∙ nothing f in cc)
    by (Some b) f = at b f (copy_turns copying v path b.body.kind (v.at path))

module _ (now : ℕ) (line : Line) (copying : Copying) (e : action_of line ≡ Copy copying) (t : Files) where
  copy_turn : turn_at now line (path_in line.path) t ≡ (if has_something (places t) (Copy copying) then turn_of line copying now t else Turn.Nothing)
  copy_turn = ap (λ (d : Action). if has_something (places t) d then decide d (view_of (found now d (path_in line.path) t)) (path_in line.path) else Turn.Nothing) e

  -- where what it copies is there
  module _ (there : is_some (places t copying.source) ≡ true) where
    turn_there : turn_at now line (path_in line.path) t ≡ turn_of line copying now t
    turn_there = copy_turn ∙ ap (λ b. if b then turn_of line copying now t else Turn.Nothing) there

    copy_at : (q : Path) (old new : Option ObjectState) → IsAtWork now line t q old new → IsCopyMidway (path_in line.path) copying (turn_of line copying now t) q old new
    copy_at q old new (kept f) = IsCopyMidway.kept f
    copy_at q old new (parent some above none f) = IsCopyMidway.parent above.0 above.1 none f
    copy_at q old new (some_set k xs same becomes f) =
        IsCopyMidway.some_set k (sym same) (sym turn_there ∙ becomes ∙ ap (λ ys. Turn.Become ys) own) (f ∙ ap (λ ys. run (take k (parts ys)) old) own)
      where
        own : xs ≡ copying.sets
        own = become_sets copying (view_of (found now (Copy copying) (path_in line.path) t)) (path_in line.path) xs (sym turn_there ∙ becomes)
    copy_at q old new (gone subtree below put none) = IsCopyMidway.gone subtree below (sym turn_there ∙ put) none

  -- if it is absent
  module _ (none : is_some (places t copying.source) ≡ false) where
    idle_turn : turn_at now line (path_in line.path) t ≡ Turn.Nothing
    idle_turn = copy_turn ∙ ap (λ b. if b then turn_of line copying now t else Turn.Nothing) none

    idle_at : (q : Path) (old new : Option ObjectState) → IsAtWork now line t q old new → new ≡ old
    idle_at q old new (kept f) = f
    idle_at q old new (parent some above absent f) = impossible (sym none ∙ sym (ap (puts_parents (places t)) e) ∙ some)
    idle_at q old new (some_set k xs same becomes f) = absurd (let no : Turn.Nothing ≡ Turn.Become xs = sym idle_turn ∙ becomes in cc)
    idle_at q old new (gone subtree below put f) = absurd (let no : Turn.Nothing ≡ Turn.Put subtree = sym idle_turn ∙ put in cc)

    after_idle : turn_after now line (path_in line.path) t ≡ t
    after_idle = by (refused_at line (path_in line.path) (places t)) refl
      where
        by : (r : Option Refused) → refused_at line (path_in line.path) (places t) ≡ r → turn_after now line (path_in line.path) t ≡ t
        by None free = turn_open now line (path_in line.path) t free ∙ ap (λ (d : Action). carried_out now d (path_in line.path) t) e ∙ copy_idle now copying (path_in line.path) t none
        by (Some place) refused = turn_refused now line (path_in line.path) t place refused

  done_way : (u : Files) → Same (turn_after now line (path_in line.path) t) u → OnWayOf line now t u
  done_way u same = OnWayOf.copy_done copying e (subst (λ (v : Files). Same v u) (sym (ap (λ paths. after_each (by_turn now line) paths t) (turns_copy line copying t e))) same)

  copy_way : (u : Files) → ((q : Path) → has_staging q ≡ false → IsAtWork now line t q (object_states_of (places t) q) (object_states_of (places u) q)) ⊎ Same (turn_after now line (path_in line.path) t) u → OnWayOf line now t u
  copy_way u (inr same) = done_way u same
  copy_way u (inl at) = by (is_some (places t copying.source)) refl
    where
      by : (b : Bool) → is_some (places t copying.source) ≡ b → OnWayOf line now t u
      by true there = OnWayOf.copy_before copying e (there, λ q plain. copy_at there q (object_states_of (places t) q) (object_states_of (places u) q) (at q plain))
      by false none = done_way u (subst (λ (v : Files). Same v u) (sym (after_idle none)) (λ q plain.
          object_states-same (places t) (places u) q (sym (idle_at none q (object_states_of (places t) q) (object_states_of (places u) q) (at q plain)))))

-- ---- each line

-- what a call says of its way is on the way of the line
pub line_way : (now : ℕ) (line : Line) (t u : Files) → IsLine line → IsShaped (object_states_of (places t)) → LineWay now line t u → OnWayOf line now t u
line_way now line t u is shape way = by (action_of line) refl (way_of now line t u way)
  where
    work : (d : Action) → action_of line ≡ d → Puts d → OnWay now line (path_in line.path) t u
        → ((q : Path) → has_staging q ≡ false → IsAtWork now line t q (object_states_of (places t) q) (object_states_of (places u) q)) ⊎ Same (turn_after now line (path_in line.path) t) u
    work d e puts = way_work now line (subst Puts (sym e) puts) t u

    by : (d : Action) → action_of line ≡ d → WayOf d now line t u → OnWayOf line now t u
    by (Create making) e on = OnWayOf.other (ap copied e) (making_piece now line making e (line_is_plain line is (ap copied e)).unstaged t shape u (work (Create making) e tt on))
    by (Copy copying) e on = copy_way now line copying e t u (work (Copy copying) e tt on)
    by (Adjust adjustment) e on = OnWayOf.other (ap copied e) (λ q plain. adjustment_piece now line adjustment e t u shape q plain (
        subst (λ (paths : List Path). Partway (adjustment_course now line adjustment) paths t u) (turns_adjust line adjustment t e) on))
    by Idle e same = OnWayOf.other (ap copied e) (λ q plain. stopping.IsMidway.piece zero (sym (object_states_of-same (places t) (places u) q (same q plain))))

-- what is whole is on its way
pub partway_whole : {A : Type 0} (c : Course A) (xs : List A) (t u : Files) → Same (after_each c.whole xs t) u → Partway c xs t u
partway_whole c [] t u same = same
partway_whole c (x ∷ xs) t u same = inr (partway_whole c xs (c.whole.after x t) u same)

pub line_whole : (now : ℕ) (line : Line) (t : Files) → IsLine line → IsShaped (object_states_of (places t)) → OnWayOf line now t ((by_line now).after line t)
line_whole now line t is shape = line_way now line t ((by_line now).after line t) is shape (
    partway_whole (turn_course now line) (turns line t) t ((by_line now).after line t) (λ q plain. refl))

-- so at each moment of lines one after the other
pub run_way : (now : ℕ) (lines : List Line) (t u : Files) → AllByRecursion IsLine lines → IsShaped (object_states_of (places t)) → Partway (lines_course now) lines t u → PartwayOf lines now t u
run_way now [] t u are shape same = same
run_way now (line ∷ lines) t u are shape (inl way) = inl (line_way now line t u are.0 shape way)
run_way now (line ∷ lines) t u are shape (inr later) = inr (run_way now lines ((by_line now).after line t) u are.1 (each_kept now line are.0 t shape).shape later)
