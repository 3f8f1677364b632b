-- What lines set of an object that is there: adjustments alone, which change nothing of the object that the line itself
-- makes.
use Rattle.std.specs.Prelude.{◌≡◌, ℕ, ◌/◌, ◌%◌, ◌==◌, Bool, true, false, not, cond, ◌&&◌, ◌||◌, List, [], ◌∷◌, ◌++◌, find, Option, Some, None, unwrap_or}
use Rattle.std.proofs.Common.{refl, sym, ap, subst, ◌∙◌, arith}
use Rattle.std.specs.List.{list_any, list_all, AllByRecursion}
use Rattle.std.specs.Option.{option_map_or}
use Rattle.std.proofs.lemmas.List.Folds.{list_any-append, list_all-append}
use Rattle.pv_acl.specs.Parts.{part_of_mode, special_of}
use Rattle.pv_steps.specs.declared.node.Kind.{Kind}
use Rattle.pv_steps.specs.declared.node.Kind.TheVariants.{Directory, File}
use Rattle.pv_steps.specs.Objects.{is_directory}
use Rattle.pv_walk.specs.declared.object_state.ObjectState.{ObjectState}
use Rattle.pv_walk.specs.declared.operation.Change.TheVariants.{Write, Append, Owner, Mode}
use Rattle.pv_walk.specs.declared.operation.Guard.{Guard}
use Rattle.pv_walk.specs.declared.operation.Guard.TheVariants.{Every, NoLink, Only}
use Rattle.pv_walk.specs.declared.operation.Operation.{Operation}
use Rattle.pv_walk.specs.declared.operation.Operation.TheVariants.{Make, Renew, Erase, Apply}
use Rattle.pv_walk.specs.Masks.{with_masked}
use Rattle.pv_walk.specs.Nodes.{object_state_of, is_file, is_link, same_kind}
use Rattle.pv_walk.specs.Operations.{admits, changed, run}
use Rattle.pv_walk.specs.Reasons.{is_adjusting, is_masked, gives_base, is_make, is_renewal, is_erasure, sets_nothing, has_append, has_mixed_mask, makes_late, IsRepeatable}
use Rattle.pv_walk.proofs.Absorbing.{with_masked-own}
use Rattle.pv_walk.proofs.OperationLaws.{run-append}
use Rattle.pv_lines.specs.declared.line.Argument.{Argument}
use Rattle.pv_lines.specs.declared.line.Argument.TheVariants as argument
use Rattle.pv_lines.specs.declared.line.Line.{Line}
use Rattle.pv_lines.specs.declared.line.LineId.{LineId}
use Rattle.pv_lines.specs.declared.line.LineMode.{LineMode}
use Rattle.pv_walk.specs.declared.new_file.NewKind.{NewKind}
use Rattle.pv_walk.specs.declared.new_file.NewKind.TheVariants as new
use Rattle.pv_walk.specs.Staging.{new_kind, new_payload, new_object}
use Rattle.pv_table.specs.declared.action.Action.{Action}
use Rattle.pv_table.specs.declared.action.Action.TheVariants.{Create, Adjust, Idle}
use Rattle.pv_table.specs.declared.action.Making.{Making}
use Rattle.pv_table.specs.declared.action.Adjustment.{Adjustment}
use Rattle.pv_table.specs.ActionTable.{id_for_new, id_to_set, mode_for_new, renewal, without_links, mode_to_set, owners_and_mode, bytes_of, link_to, device, contents_to_set, making, copying, adjustment, writing, set_by, actions, action_of}
use Rattle.pv_table.specs.Reaching.{is_deep}
use Rattle.pv_table.specs.Repeatable.{sets_of, has_masked_mode}
use Rattle.pv_walk.proofs.Repeating.{same_kind-refl}

-- ---- the table of what lines ask for, in six cases

-- what a line may ask for
pub data IsAsked (line : Line) (action : Action) : Type 0 where
  makes : (what : NewKind) → (is_file (new_kind what) ≡ true → new_payload what ≡ bytes_of line.argument) → action ≡ making what line → IsAsked line action
  copies : action ≡ copying line → IsAsked line action
  adjusts : (deep : Bool) (wanted guard : Guard) → action ≡ adjustment deep wanted (owners_and_mode guard line) → IsAsked line action
  writes : action ≡ writing line → IsAsked line action
  sets : (deep : Bool) → action ≡ adjustment deep Every (set_by line.plus line.argument) → IsAsked line action
  idle : action ≡ Idle → IsAsked line action

pub impossible : {A : Type 0} → ◌≡◌ {A = Bool} false true → A
impossible e = absurd (let no : false ≡ true = e in cc)

find_row : (P : Action → Type 0) (line : Line) (f : ℕ × (Line → Action) → Bool) (rows : List (ℕ × (Line → Action))) → AllByRecursion (λ row. P (row.1 line)) rows → P Idle
    → P (option_map_or (λ row. row.1 line) (find f rows) Idle)
find_row P line f [] each none = none
find_row P line f (row ∷ rows) each none =
    elim (f row) as (λ b. P (option_map_or (λ (r : ℕ × (Line → Action)). r.1 line) (cond b (Some row) (find f rows)) Idle)) [
      | true ↦ each.0
      | false ↦ find_row P line f rows each.1 none
    ]

link_is_no_file : (a : Argument) → is_file (new_kind (link_to a)) ≡ false
link_is_no_file a = grind arith

numbered_is_no_file : (block : Bool) (major minor : ℕ) → is_file (new_kind (new.Device block major minor)) ≡ false
numbered_is_no_file block major minor = grind arith

device_is_no_file : (block : Bool) (a : Argument) → is_file (new_kind (device block a)) ≡ false
device_is_no_file block (argument.FileBytes bytes) = numbered_is_no_file block 0 0
device_is_no_file block (argument.WriteBytes bytes) = numbered_is_no_file block 0 0
device_is_no_file block (argument.Target target) = numbered_is_no_file block 0 0
device_is_no_file block (argument.Source source) = numbered_is_no_file block 0 0
device_is_no_file block (argument.Device major minor) = numbered_is_no_file block major minor
device_is_no_file block (argument.Entries entries) = numbered_is_no_file block 0 0
device_is_no_file block (argument.Attrs attrs) = numbered_is_no_file block 0 0
device_is_no_file block (argument.Letters how letters) = numbered_is_no_file block 0 0
device_is_no_file block argument.Ignored = numbered_is_no_file block 0 0

-- each line asks for one of them
pub asked : (line : Line) → IsAsked line (action_of line)
asked line = find_row (IsAsked line) line (λ row. row.0 == line.letter) actions (
  makes (new.File (bytes_of line.argument)) (λ e. refl) refl,
  (
    directory,
    (
      directory,
      (
        directory,
        (
          directory,
          (
            directory,
            (
              makes new.Fifo (λ e. impossible e) refl,
              (
                makes (link_to line.argument) (λ e. impossible (sym (link_is_no_file line.argument) ∙ e)) refl,
                (
                  makes (device false line.argument) (λ e. impossible (sym (device_is_no_file false line.argument) ∙ e)) refl,
                  (
                    makes (device true line.argument) (λ e. impossible (sym (device_is_no_file true line.argument) ∙ e)) refl,
                    (
                      copies refl,
                      (
                        writes refl,
                        (
                          adjusts false (Only Directory) (Only Directory) refl,
                          (
                            adjusts false Every Every refl,
                            (
                              adjusts true Every Every refl,
                              (sets false refl, (sets true refl, (sets false refl, (sets true refl, (sets false refl, (sets true refl, tt)))))),
                            ),
                          ),
                        ),
                      ),
                    ),
                  ),
                ),
              ),
            ),
          ),
        ),
      ),
    ),
  ),
) (idle refl)
  where
    directory : IsAsked line (making new.Directory line)
    directory = makes new.Directory (λ e. impossible e) refl

-- ---- adjustments alone

-- whether an operation adjusts
abbrev pub is_adjustment : Operation → Bool
is_adjustment (Apply guard change) = true
is_adjustment operation = false

both_all : (xs ys : List Operation) → list_all is_adjustment xs ≡ true → list_all is_adjustment ys ≡ true → list_all is_adjustment (xs ++ ys) ≡ true
both_all xs ys h g = list_all-append is_adjustment xs ys ∙ ap (λ b. b && list_all is_adjustment ys) h ∙ g

mode_adjusts : (mode : Option LineMode) (guard : Option Guard) → list_all is_adjustment (mode_to_set mode guard) ≡ true
mode_adjusts None guard = refl
mode_adjusts (Some mode) None = refl
mode_adjusts (Some mode) (Some guard) = elim mode.new_only as (λ b. list_all is_adjustment (cond b [] (Apply guard (Mode mode.value mode.masked) ∷ [])) ≡ true) [ true ↦ refl | false ↦ refl ]

owners_adjust : (guard : Guard) (line : Line) → list_all is_adjustment (owners_and_mode guard line) ≡ true
owners_adjust guard line = mode_adjusts line.mode (without_links guard)

contents_adjust : (line : Line) (kind : Kind) → list_all is_adjustment (contents_to_set line kind) ≡ true
contents_adjust line kind =
    elim (line.plus && is_file kind) as (λ b. list_all is_adjustment (cond b (Apply (Only File) (Write (bytes_of line.argument)) ∷ []) []) ≡ true) [ true ↦ refl | false ↦ refl ]

argument_adjusts : (plus : Bool) (a : Argument) → list_all is_adjustment (set_by plus a) ≡ true
argument_adjusts plus a = grind arith

-- what a line sets, it adjusts
pub sets_adjust : (line : Line) (action : Action) → IsAsked line action → list_all is_adjustment (sets_of action) ≡ true
sets_adjust line action (makes what file e) = subst (λ d. list_all is_adjustment (sets_of d) ≡ true) (sym e)
    (both_all (contents_to_set line (new_kind what)) (owners_and_mode (Only (new_kind what)) line) (contents_adjust line (new_kind what)) (owners_adjust (Only (new_kind what)) line))
sets_adjust line action (copies e) = subst (λ d. list_all is_adjustment (sets_of d) ≡ true) (sym e) (owners_adjust Every line)
sets_adjust line action (adjusts deep wanted guard e) = subst (λ d. list_all is_adjustment (sets_of d) ≡ true) (sym e) (owners_adjust guard line)
sets_adjust line action (writes e) = subst (λ d. list_all is_adjustment (sets_of d) ≡ true) (sym e) refl
sets_adjust line action (sets deep e) = subst (λ d. list_all is_adjustment (sets_of d) ≡ true) (sym e) (argument_adjusts line.plus line.argument)
sets_adjust line action (idle e) = subst (λ d. list_all is_adjustment (sets_of d) ≡ true) (sym e) refl

-- adjustments make, renew and erase nothing
pub adjustments_make_none : (xs : List Operation) → list_all is_adjustment xs ≡ true → list_any is_make xs ≡ false
adjustments_make_none [] h = refl
adjustments_make_none (x ∷ xs) h = grind (arith, adjustments_make_none xs)

pub adjustments_renew_none : (xs : List Operation) → list_all is_adjustment xs ≡ true → list_any is_renewal xs ≡ false
adjustments_renew_none [] h = refl
adjustments_renew_none (x ∷ xs) h = grind (arith, adjustments_renew_none xs)

-- and none of them comes late
pub adjustments_timely : (xs : List Operation) → list_all is_adjustment xs ≡ true → makes_late xs ≡ false
adjustments_timely [] h = refl
adjustments_timely (Make b ∷ xs) h = impossible h
adjustments_timely (Renew test b ∷ xs) h = impossible h
adjustments_timely (Erase ∷ xs) h = impossible h
adjustments_timely (Apply guard change ∷ xs) h =
    elim (sets_nothing change) as (λ b. cond b (makes_late xs) (list_any is_make xs) ≡ false) [ true ↦ adjustments_timely xs h | false ↦ adjustments_make_none xs h ]

-- nothing stays nothing
pub adjusted_none : (xs : List Operation) → list_all is_adjustment xs ≡ true → run xs None ≡ None
adjusted_none [] h = refl
adjusted_none (x ∷ xs) h = grind (arith, adjusted_none xs)

-- an object stays one
pub adjusted_some : (xs : List Operation) → list_all is_adjustment xs ≡ true → (b : ObjectState) → (c : ObjectState) × (run xs (Some b) ≡ Some c)
adjusted_some [] h b = (b, refl)
adjusted_some (Make n ∷ xs) h b = impossible h
adjusted_some (Renew test n ∷ xs) h b = impossible h
adjusted_some (Erase ∷ xs) h b = impossible h
adjusted_some (Apply guard change ∷ xs) h b = adjusted_some xs h (cond (admits guard b.body.kind) (changed b.body.kind change b) b)

-- ---- what is set of an object of one kind

-- an adjustment of objects of a kind alone
abbrev pub IsOnly : Kind → Operation → Type 0
IsOnly kind (Apply (Only own) change) = own ≡ kind
IsOnly kind operation = ⊥

only_append : (kind : Kind) (xs ys : List Operation) → AllByRecursion (IsOnly kind) xs → AllByRecursion (IsOnly kind) ys → AllByRecursion (IsOnly kind) (xs ++ ys)
only_append kind [] ys h g = g
only_append kind (x ∷ xs) ys h g = (h.0, only_append kind xs ys h.1 g)

-- leaves one of another kind
pub left_alone : (kind : Kind) (xs : List Operation) → AllByRecursion (IsOnly kind) xs → (b : ObjectState) → same_kind kind b.body.kind ≡ false → run xs (Some b) ≡ Some b
left_alone kind [] h b d = refl
left_alone kind (Make n ∷ xs) h b d = absurd h.0
left_alone kind (Renew test n ∷ xs) h b d = absurd h.0
left_alone kind (Erase ∷ xs) h b d = absurd h.0
left_alone kind (Apply Every change ∷ xs) h b d = absurd h.0
left_alone kind (Apply NoLink change ∷ xs) h b d = absurd h.0
left_alone kind (Apply (Only own) change ∷ xs) h b d =
    ap (λ (t : Bool). run xs (Some (cond t (changed b.body.kind change b) b))) (ap (λ (k : Kind). same_kind k b.body.kind) h.0 ∙ d)
    ∙ left_alone kind xs h.1 b d

pub only_adjusts : (kind : Kind) (xs : List Operation) → AllByRecursion (IsOnly kind) xs → list_all is_adjustment xs ≡ true
only_adjusts kind [] h = refl
only_adjusts kind (x ∷ xs) h = grind (arith, only_adjusts kind xs)

only_contents : (line : Line) (what : NewKind) → AllByRecursion (IsOnly (new_kind what)) (contents_to_set line (new_kind what))
only_contents line what = grind arith

only_mode : (mode : Option LineMode) (kind : Kind) → AllByRecursion (IsOnly kind) (mode_to_set mode (without_links (Only kind)))
only_mode None kind = tt
only_mode (Some mode) kind = by (is_link kind) mode.new_only
  where
    by : (link new_only : Bool) → AllByRecursion (IsOnly kind) (mode_to_set (Some (record mode { new_only = new_only })) (cond link None (Some (Only kind))))
    by true b = tt
    by false true = tt
    by false false = (refl, tt)

-- ---- what is set of the line's own new object

-- a new object as such a line makes it
abbrev own_object : NewKind → ℕ → ℕ → ℕ → ObjectState
own_object what mode uid gid = object_state_of (new_object (record { what = what; mode = mode; uid = uid; gid = gid }) 0)

own_contents : (line : Line) (what : NewKind) (mode uid gid : ℕ) → (is_file (new_kind what) ≡ true → new_payload what ≡ bytes_of line.argument)
    → run (contents_to_set line (new_kind what)) (Some (own_object what mode uid gid)) ≡ Some (own_object what mode uid gid)
own_contents line what mode uid gid file = by what line.plus file
  where
    by : (w : NewKind) (plus : Bool) → (is_file (new_kind w) ≡ true → new_payload w ≡ bytes_of line.argument)
        → run (cond (plus && is_file (new_kind w)) (Apply (Only File) (Write (bytes_of line.argument)) ∷ []) []) (Some (own_object w mode uid gid)) ≡ Some (own_object w mode uid gid)
    by w false h = refl
    by new.Directory true h = refl
    by (new.File content) true h = λ i. Some (record (own_object (new.File content) mode uid gid) { body = record (own_object (new.File content) mode uid gid).body { payload = sym (h refl) i } })
    by (new.Link target) true h = refl
    by new.Fifo true h = refl
    by (new.Device true major minor) true h = refl
    by (new.Device false major minor) true h = refl

pub own_owner : (field : Option LineId) (d : ℕ) → unwrap_or (id_to_set field) (unwrap_or (id_for_new field) d) ≡ unwrap_or (id_for_new field) d
own_owner None d = refl
own_owner (Some owner) d = elim owner.new_only as (λ b. unwrap_or (cond b None (Some owner.id)) owner.id ≡ owner.id) [ true ↦ refl | false ↦ refl ]

module _ (value : ℕ) where
  low_part : part_of_mode (value % 512) ≡ part_of_mode value
  low_part = λ i. record { owner = owner i; group = group i; other = other i; named = []; mask = None }
    where
      owner : value % 512 / 64 % 8 ≡ value / 64 % 8
      owner = omega arith

      group : value % 512 / 8 % 8 ≡ value / 8 % 8
      group = omega arith

      other : value % 512 % 8 ≡ value % 8
      other = omega arith

  pub masked_low : with_masked value (part_of_mode (value % 512)) ≡ part_of_mode (value % 512)
  masked_low = ap (with_masked value) low_part ∙ with_masked-own value ∙ sym low_part

  pub no_special : special_of (value % 512) ≡ 0
  no_special = omega arith

  -- a masked mode set of a new object with what is left of this mode
  low_again : (b : ObjectState) → b.metadata.special ≡ special_of (value % 512) → b.metadata.acl.access ≡ part_of_mode (value % 512)
      → record b { metadata = record b.metadata { special = 0; acl = record b.metadata.acl { access = with_masked value b.metadata.acl.access } } } ≡ b
  low_again b s a = λ i. record b {
    metadata = record b.metadata {
      special = (sym no_special ∙ sym s) i;
      acl = record b.metadata.acl { access = (ap (with_masked value) a ∙ masked_low ∙ sym a) i };
    };
  }

  -- and of a new directory with this mode
  whole_again : (b : ObjectState) → b.metadata.special ≡ special_of value → b.metadata.acl.access ≡ part_of_mode value
      → record b { metadata = record b.metadata { special = special_of value; acl = record b.metadata.acl { access = with_masked value b.metadata.acl.access } } } ≡ b
  whole_again b s a = λ i. record b {
    metadata = record b.metadata {
      special = sym s i;
      acl = record b.metadata.acl { access = (ap (with_masked value) a ∙ with_masked-own value ∙ sym a) i };
    };
  }

abbrev pub mode_of_line : ℕ → Bool → Bool → LineMode
mode_of_line value new_only masked = record { value = value; masked = masked; new_only = new_only }

abbrev IsOwnMode : Option LineMode → NewKind → ℕ → ℕ → Type 0
IsOwnMode mode what uid gid =
    run (mode_to_set mode (without_links (Only (new_kind what)))) (Some (own_object what (mode_for_new mode (is_directory (new_kind what))) uid gid))
    ≡ Some (own_object what (mode_for_new mode (is_directory (new_kind what))) uid gid)

own_mode : (mode : Option LineMode) (what : NewKind) (uid gid : ℕ) → IsOwnMode mode what uid gid
own_mode None what uid gid = refl
own_mode (Some mode) what uid gid = by what mode.new_only mode.masked
  where
    by : (w : NewKind) (new_only masked : Bool) → IsOwnMode (Some (mode_of_line mode.value new_only masked)) w uid gid
    by (new.Link target) b c = refl
    by new.Directory true c = refl
    by (new.File content) true c = refl
    by new.Fifo true c = refl
    by (new.Device true major minor) true c = refl
    by (new.Device false major minor) true c = refl
    by new.Directory false false = refl
    by (new.File content) false false = refl
    by new.Fifo false false = refl
    by (new.Device true major minor) false false = refl
    by (new.Device false major minor) false false = refl
    by new.Directory false true = ap (λ (b : ObjectState). Some b) (whole_again mode.value (own_object new.Directory mode.value uid gid) refl refl)
    by (new.File content) false true = ap (λ (b : ObjectState). Some b) (low_again mode.value (own_object (new.File content) (mode.value % 512) uid gid) refl refl)
    by new.Fifo false true = ap (λ (b : ObjectState). Some b) (low_again mode.value (own_object new.Fifo (mode.value % 512) uid gid) refl refl)
    by (new.Device true major minor) false true = ap (λ (b : ObjectState). Some b) (low_again mode.value (own_object (new.Device true major minor) (mode.value % 512) uid gid) refl refl)
    by (new.Device false major minor) false true = ap (λ (b : ObjectState). Some b) (low_again mode.value (own_object (new.Device false major minor) (mode.value % 512) uid gid) refl refl)

own_owners : (what : NewKind) (mode : ℕ) (user group : Option LineId) (xs : List Operation)
    → run (Apply (Only (new_kind what)) (Owner (id_to_set user) (id_to_set group)) ∷ xs) (Some (own_object what mode (unwrap_or (id_for_new user) 0) (unwrap_or (id_for_new group) 0)))
    ≡ run xs (Some (own_object what mode (unwrap_or (id_for_new user) 0) (unwrap_or (id_for_new group) 0)))
own_owners what mode user group xs =
    ap (λ (t : Bool). run xs (Some (cond t (changed (new_kind what) (Owner (id_to_set user) (id_to_set group)) own) own))) (same_kind-refl (new_kind what))
    ∙ (λ i. run xs (Some (record own { metadata = record own.metadata { uid = own_owner user 0 i; gid = own_owner group 0 i } })))
  where
    own : ObjectState
    own = own_object what mode (unwrap_or (id_for_new user) 0) (unwrap_or (id_for_new group) 0)

-- what an object that a line makes needs: its sets are for its kind alone, and change nothing of it when it is new
pub record IsMaking (making : Making) : Type 0 where
  pub only : AllByRecursion (IsOnly (new_kind making.new.what)) making.sets
  pub once : run making.sets (Some (object_state_of (new_object making.new 0))) ≡ Some (object_state_of (new_object making.new 0))

-- what a line makes
abbrev pub made_by : NewKind → Line → Making
made_by what line = record {
  new = record {
    what = what;
    mode = mode_for_new line.mode (is_directory (new_kind what));
    uid = unwrap_or (id_for_new line.user) 0;
    gid = unwrap_or (id_for_new line.group) 0;
  };
  renew = renewal line (new_kind what);
  sets = contents_to_set line (new_kind what) ++ owners_and_mode (Only (new_kind what)) line;
}

made_is_making : (line : Line) (what : NewKind) → (is_file (new_kind what) ≡ true → new_payload what ≡ bytes_of line.argument) → IsMaking (made_by what line)
made_is_making line what file = record {
  only = only_append (new_kind what) (contents_to_set line (new_kind what)) (owners_and_mode (Only (new_kind what)) line) (only_contents line what) (refl, only_mode line.mode (new_kind what));
  once =
      run-append (contents_to_set line (new_kind what)) (owners_and_mode (Only (new_kind what)) line) (Some own)
      ∙ ap (run (owners_and_mode (Only (new_kind what)) line)) (own_contents line what mode uid gid file)
      ∙ own_owners what mode line.user line.group (mode_to_set line.mode (without_links (Only (new_kind what))))
      ∙ own_mode line.mode what uid gid;
}
  where
    mode : ℕ
    mode = mode_for_new line.mode (is_directory (new_kind what))

    uid : ℕ
    uid = unwrap_or (id_for_new line.user) 0

    gid : ℕ
    gid = unwrap_or (id_for_new line.group) 0

    own : ObjectState
    own = own_object what mode uid gid

making_is : (a b : Making) → Create a ≡ Create b → a ≡ b
making_is a b e = cc

-- so it is with each line that makes an object
pub line_is_making : (line : Line) (making : Making) → action_of line ≡ Create making → IsMaking making
line_is_making line making e = by (asked line)
  where
    by : IsAsked line (action_of line) → IsMaking making
    by (makes what file is) = subst IsMaking (making_is (made_by what line) making (sym is ∙ e)) (made_is_making line what file)
    by (copies is) = absurd (let no : Create making ≡ copying line = sym e ∙ is in cc)
    by (adjusts deep wanted guard is) = absurd (let no : Create making ≡ adjustment deep wanted (owners_and_mode guard line) = sym e ∙ is in cc)
    by (writes is) = absurd (let no : Create making ≡ writing line = sym e ∙ is in cc)
    by (sets deep is) = absurd (let no : Create making ≡ adjustment deep Every (set_by line.plus line.argument) = sym e ∙ is in cc)
    by (idle is) = absurd (let no : Create making ≡ Idle = sym e ∙ is in cc)

-- ---- what is said against the sets of one line

-- adjustments that append nothing and mix no masked mode with base entries are repeatable
pub adjustments_repeatable : (xs : List Operation) → list_all is_adjustment xs ≡ true → has_append xs ≡ false → has_mixed_mask xs ≡ false → IsRepeatable xs
adjustments_repeatable xs h append mask = record {
  append = append;
  mask = mask;
  make = elim (not (list_any is_erasure xs)) as (λ b. (b && makes_late xs) ≡ false) [ true ↦ adjustments_timely xs h | false ↦ refl ];
}

mode_gives_none : (mode : Option LineMode) (guard : Option Guard) → (list_any (is_adjusting gives_base) (mode_to_set mode guard) ≡ false) × (has_append (mode_to_set mode guard) ≡ false)
mode_gives_none None guard = (refl, refl)
mode_gives_none (Some mode) None = (refl, refl)
mode_gives_none (Some mode) (Some guard) =
    elim mode.new_only as (λ b. (list_any (is_adjusting gives_base) (cond b [] (Apply guard (Mode mode.value mode.masked) ∷ [])) ≡ false) × (has_append (cond b [] (Apply guard (Mode mode.value mode.masked) ∷ [])) ≡ false)) [
      | true ↦ (refl, refl)
      | false ↦ (refl, refl)
    ]

contents_give_none : (line : Line) (kind : Kind) → (list_any (is_adjusting gives_base) (contents_to_set line kind) ≡ false) × (list_any (is_adjusting is_masked) (contents_to_set line kind) ≡ false)
contents_give_none line kind =
    elim (line.plus && is_file kind) as (λ b. (list_any (is_adjusting gives_base) (cond b (Apply (Only File) (Write (bytes_of line.argument)) ∷ []) []) ≡ false) × (list_any (is_adjusting is_masked) (cond b (Apply (Only File) (Write (bytes_of line.argument)) ∷ []) []) ≡ false)) [
      | true ↦ (refl, refl)
      | false ↦ (refl, refl)
    ]

owners_give_none : (guard : Guard) (line : Line) → list_any (is_adjusting gives_base) (owners_and_mode guard line) ≡ false
owners_give_none guard line = (mode_gives_none line.mode (without_links guard)).0

argument_masks_none : (plus : Bool) (a : Argument) → (list_any (is_adjusting is_masked) (set_by plus a) ≡ false) × (has_append (set_by plus a) ≡ false)
argument_masks_none plus a = grind arith

unmixed_by_base : (xs : List Operation) → list_any (is_adjusting gives_base) xs ≡ false → has_mixed_mask xs ≡ false
unmixed_by_base xs h = ap (λ b. list_any (is_adjusting is_masked) xs && b) h ∙ elim (list_any (is_adjusting is_masked) xs) as (λ b. (b && false) ≡ false) [ true ↦ refl | false ↦ refl ]

unmixed_by_mask : (xs : List Operation) → list_any (is_adjusting is_masked) xs ≡ false → has_mixed_mask xs ≡ false
unmixed_by_mask xs h = ap (λ b. b && list_any (is_adjusting gives_base) xs) h

-- no line sets both a masked mode and base entries
pub sets_unmixed : (line : Line) (action : Action) → IsAsked line action → has_mixed_mask (sets_of action) ≡ false
sets_unmixed line action (makes what file e) = subst (λ d. has_mixed_mask (sets_of d) ≡ false) (sym e) (
    unmixed_by_base (contents_to_set line (new_kind what) ++ owners_and_mode (Only (new_kind what)) line) (
    list_any-append (is_adjusting gives_base) (contents_to_set line (new_kind what)) (owners_and_mode (Only (new_kind what)) line)
    ∙ ap (λ b. b || list_any (is_adjusting gives_base) (owners_and_mode (Only (new_kind what)) line)) (contents_give_none line (new_kind what)).0
    ∙ owners_give_none (Only (new_kind what)) line))
sets_unmixed line action (copies e) = subst (λ d. has_mixed_mask (sets_of d) ≡ false) (sym e) (unmixed_by_base (owners_and_mode Every line) (owners_give_none Every line))
sets_unmixed line action (adjusts deep wanted guard e) = subst (λ d. has_mixed_mask (sets_of d) ≡ false) (sym e) (unmixed_by_base (owners_and_mode guard line) (owners_give_none guard line))
sets_unmixed line action (writes e) = subst (λ d. has_mixed_mask (sets_of d) ≡ false) (sym e) (by line.plus)
  where
    by : (plus : Bool) → has_mixed_mask (Apply (Only File) (cond plus (Append (bytes_of line.argument)) (Write (bytes_of line.argument))) ∷ []) ≡ false
    by true = refl
    by false = refl
sets_unmixed line action (sets deep e) = subst (λ d. has_mixed_mask (sets_of d) ≡ false) (sym e) (unmixed_by_mask (set_by line.plus line.argument) (argument_masks_none line.plus line.argument).0)
sets_unmixed line action (idle e) = subst (λ d. has_mixed_mask (sets_of d) ≡ false) (sym e) refl

-- a masked mode is set only if the line has one
mode_masked : (line : Line) (mode : Option LineMode) (guard : Option Guard) → list_any (is_adjusting is_masked) (mode_to_set mode guard) ≡ true → has_masked_mode (record line { mode = mode }) ≡ true
mode_masked line None guard h = impossible h
mode_masked line (Some mode) None h = impossible h
mode_masked line (Some mode) (Some guard) h = by mode.new_only mode.masked h
  where
    by : (new_only masked : Bool) → list_any (is_adjusting is_masked) (cond new_only [] (Apply guard (Mode mode.value masked) ∷ [])) ≡ true → masked ≡ true
    by true masked g = impossible g
    by false true g = refl
    by false false g = impossible g

owners_masked : (line : Line) (guard : Guard) → list_any (is_adjusting is_masked) (owners_and_mode guard line) ≡ true → has_masked_mode line ≡ true
owners_masked line guard h = mode_masked line line.mode (without_links guard) h

pub sets_masked : (line : Line) (action : Action) → IsAsked line action → list_any (is_adjusting is_masked) (sets_of action) ≡ true → has_masked_mode line ≡ true
sets_masked line action (makes what file e) h = owners_masked line (Only (new_kind what)) (
    sym (ap (λ b. b || list_any (is_adjusting is_masked) (owners_and_mode (Only (new_kind what)) line)) (contents_give_none line (new_kind what)).1)
    ∙ sym (list_any-append (is_adjusting is_masked) (contents_to_set line (new_kind what)) (owners_and_mode (Only (new_kind what)) line))
    ∙ ap (λ (d : Action). list_any (is_adjusting is_masked) (sets_of d)) (sym e) ∙ h)
sets_masked line action (copies e) h = owners_masked line Every (ap (λ (d : Action). list_any (is_adjusting is_masked) (sets_of d)) (sym e) ∙ h)
sets_masked line action (adjusts deep wanted guard e) h = owners_masked line guard (ap (λ (d : Action). list_any (is_adjusting is_masked) (sets_of d)) (sym e) ∙ h)
sets_masked line action (writes e) h = impossible (by line.plus ∙ ap (λ (d : Action). list_any (is_adjusting is_masked) (sets_of d)) (sym e) ∙ h)
  where
    by : (plus : Bool) → false ≡ list_any (is_adjusting is_masked) (Apply (Only File) (cond plus (Append (bytes_of line.argument)) (Write (bytes_of line.argument))) ∷ [])
    by true = refl
    by false = refl
sets_masked line action (sets deep e) h = impossible (sym (argument_masks_none line.plus line.argument).0 ∙ ap (λ (d : Action). list_any (is_adjusting is_masked) (sets_of d)) (sym e) ∙ h)
sets_masked line action (idle e) h = impossible (ap (λ (d : Action). list_any (is_adjusting is_masked) (sets_of d)) (sym e) ∙ h)

-- ---- lines that reach what lies below

-- what is set of all below a path may be set twice
pub deep_repeatable : (line : Line) (adjustment : Adjustment) → action_of line ≡ Adjust adjustment → adjustment.deep ≡ true → IsRepeatable adjustment.sets
deep_repeatable line adjustment e deep = adjustments_repeatable adjustment.sets adjust append unmixed
  where
    adjust : list_all is_adjustment adjustment.sets ≡ true
    adjust = subst (λ d. list_all is_adjustment (sets_of d) ≡ true) e (sets_adjust line (action_of line) (asked line))

    unmixed : has_mixed_mask adjustment.sets ≡ false
    unmixed = subst (λ d. has_mixed_mask (sets_of d) ≡ false) e (sets_unmixed line (action_of line) (asked line))

    by : IsAsked line (action_of line) → has_append adjustment.sets ≡ false
    by (makes what file is) = absurd (let no : Adjust adjustment ≡ making what line = sym e ∙ is in cc)
    by (copies is) = absurd (let no : Adjust adjustment ≡ copying line = sym e ∙ is in cc)
    by (adjusts d wanted guard is) = ap (λ (x : Action). has_append (sets_of x)) (sym e ∙ is) ∙ (mode_gives_none line.mode (without_links guard)).1
    by (writes is) = impossible (sym (ap (λ (x : Action). is_deep x) (sym e ∙ is)) ∙ deep)
    by (sets d is) = ap (λ (x : Action). has_append (sets_of x)) (sym e ∙ is) ∙ (argument_masks_none line.plus line.argument).1
    by (idle is) = absurd (let no : Adjust adjustment ≡ Idle = sym e ∙ is in cc)

    append : has_append adjustment.sets ≡ false
    append = by (asked line)
