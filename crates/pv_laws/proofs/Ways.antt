-- On the way of a line that copies nothing each path has the kind and the owner that it has before the line or after it.
use Rattle.std.specs.Prelude.{⊤, ◌≡◌, ◌⊎◌, ℕ, Bool, true, false, not, cond, ◌&&◌, ◌||◌, List, [], ◌∷◌, ◌++◌, take, Option, Some, None, if◌then◌else◌}
use Rattle.std.proofs.Common.{zero, suc, refl, sym, ap, subst, ◌∙◌, inl, inr, arith}
use Rattle.std.specs.FinMap as fin
use Rattle.std.specs.List.{list_any, list_all}
use Rattle.std.specs.Option.{option_map_or}
use Rattle.std.proofs.lemmas.List.Folds.{list_all-append}
use Rattle.std.proofs.lemmas.Bool.{or_parts, and_parts, and_from}
use Rattle.std.proofs.lemmas.Option.{same_Some}
use Rattle.pv_path.specs.Paths.{Path, is_prefix}
use Rattle.pv_path.proofs.PathLaws.{is_prefix-refl}
use Rattle.pv_acl.specs.declared.line.How.TheVariants.{Replace, Add}
use Rattle.pv_walk.specs.declared.object_state.ObjectState.{ObjectState}
use Rattle.pv_walk.specs.declared.operation.Change.{Change}
use Rattle.pv_walk.specs.declared.operation.Change.TheVariants.{Write, Append, Owner, Mode, Entries, Attrs, Letters}
use Rattle.pv_walk.specs.declared.operation.Guard.{Guard}
use Rattle.pv_walk.specs.declared.operation.Guard.TheVariants.{Every, NoLink, Only}
use Rattle.pv_walk.specs.declared.operation.Operation.{Operation}
use Rattle.pv_walk.specs.declared.operation.Operation.TheVariants.{Make, Renew, Erase, Apply}
use Rattle.pv_walk.specs.declared.operation.Test.{Test}
use Rattle.pv_walk.specs.Dividing.{base_line, parts_of, parts}
use Rattle.pv_walk.specs.Nodes.{object_state_of, is_file, is_link, same_kind, carries_letters}
use Rattle.pv_walk.specs.Operations.{admits, changed, stays, done, run}
use Rattle.pv_walk.specs.Reasons.{is_adjusting, is_base, is_make}
use Rattle.pv_walk.proofs.Dividing.{run-parts}
use Rattle.pv_lines.specs.declared.line.Argument.{Argument}
use Rattle.pv_lines.specs.declared.line.Argument.TheVariants as argument
use Rattle.pv_lines.specs.declared.line.Line.{Line}
use Rattle.pv_lines.specs.declared.line.LineMode.{LineMode}
use Rattle.pv_steps.specs.declared.node.Kind.{Kind}
use Rattle.pv_steps.specs.declared.node.Kind.TheVariants.{File}
use Rattle.pv_steps.specs.Attributes.{put_attrs}
use Rattle.pv_steps.specs.Letters.{letters_after}
use Rattle.pv_walk.specs.Staging.{new_object, new_kind}
use Rattle.pv_table.specs.declared.action.Action.{Action}
use Rattle.pv_table.specs.declared.action.Action.TheVariants.{Create}
use Rattle.pv_table.specs.declared.action.Making.{Making}
use Rattle.pv_table.specs.Asked.{first_of, operations}
use Rattle.pv_table.specs.ActionTable.{mode_to_set, without_links, owners_and_mode, contents_to_set, making, adjustment, set_by, bytes_of, action_of}
use Rattle.pv_table.specs.Pointwise.{ObjectStates, view, parent_object_state}
use Rattle.pv_table.specs.Repeatable.{sets_of}
use Rattle.pv_table.specs.Turns.{Turn, decide, making_turn}
use Rattle.pv_walk.specs.Copying.{single}
use Rattle.pv_laws.specs.Between.{IsAkin, Replaces, IsBetween}
use Rattle.pv_laws.specs.Stopping.{IsRenewal, IsMidway}
use Rattle.pv_laws.proofs.Making.{does_stay, first_on_none, first_on_some}
use Rattle.pv_laws.proofs.Repeated.{IsAskedAt, object, parent, below, set, nothing, asked_at, first_makes}
use Rattle.pv_laws.proofs.Sets.{impossible, IsAsked, makes, copies, adjusts, writes, sets, idle, asked, is_adjustment, IsMaking, line_is_making, only_adjusts, adjusted_none, sets_adjust}
use Rattle.pv_laws.proofs.Shapes.{IsLike, adjusted_like}

-- ---- one operation sets owners

-- whether a change sets owners
abbrev pub sets_owner : Change → Bool
sets_owner (Owner uid gid) = true
sets_owner change = false

-- at most one operation of a list does
abbrev pub SetsOwnerOnce : List Operation → Type 0
SetsOwnerOnce [] = ⊤
SetsOwnerOnce (x ∷ xs) = ((is_adjusting sets_owner x ≡ false) × SetsOwnerOnce xs) ⊎ (list_any (is_adjusting sets_owner) xs ≡ false)

none_once : (xs : List Operation) → list_any (is_adjusting sets_owner) xs ≡ false → SetsOwnerOnce xs
none_once [] h = tt
none_once (x ∷ xs) h = inr (or_parts (is_adjusting sets_owner x) (list_any (is_adjusting sets_owner) xs) h).1

mode_sets_none : (mode : Option LineMode) (guard : Option Guard) → list_any (is_adjusting sets_owner) (parts (mode_to_set mode guard)) ≡ false
mode_sets_none None guard = refl
mode_sets_none (Some mode) None = refl
mode_sets_none (Some mode) (Some guard) = elim mode.new_only as (λ b. list_any (is_adjusting sets_owner) (parts (cond b [] (Apply guard (Mode mode.value mode.masked) ∷ []))) ≡ false) [ true ↦ refl | false ↦ refl ]

owners_once : (guard : Guard) (line : Line) → SetsOwnerOnce (parts (owners_and_mode guard line))
owners_once guard line = inr (mode_sets_none line.mode (without_links guard))

made_once : (line : Line) (kind : Kind) (guard : Guard) → SetsOwnerOnce (parts (contents_to_set line kind ++ owners_and_mode guard line))
made_once line kind guard =
    elim (line.plus && is_file kind) as (λ b. SetsOwnerOnce (parts (cond b (Apply (Only File) (Write (bytes_of line.argument)) ∷ []) [] ++ owners_and_mode guard line))) [
      | true ↦ inl (refl, owners_once guard line)
      | false ↦ owners_once guard line
    ]

argument_sets_none : (plus : Bool) (a : Argument) → list_any (is_adjusting sets_owner) (parts (set_by plus a)) ≡ false
argument_sets_none plus (argument.FileBytes bytes) = refl
argument_sets_none plus (argument.WriteBytes bytes) = refl
argument_sets_none plus (argument.Target target) = refl
argument_sets_none plus (argument.Source source) = refl
argument_sets_none plus (argument.Device major minor) = refl
argument_sets_none plus (argument.Entries entries) = by (list_any is_base entries.access)
  where
    by : (b : Bool) → list_any (is_adjusting sets_owner) (cond b (Apply NoLink (Entries (base_line entries) Add) ∷ Apply NoLink (Entries entries (cond plus Add Replace)) ∷ []) (Apply NoLink (Entries entries (cond plus Add Replace)) ∷ []) ++ []) ≡ false
    by true = refl
    by false = refl
argument_sets_none plus (argument.Attrs attrs) = refl
argument_sets_none plus (argument.Letters how letters) = refl
argument_sets_none plus argument.Ignored = refl

pub sets_once : (line : Line) (action : Action) → IsAsked line action → SetsOwnerOnce (parts (sets_of action))
sets_once line action (makes what file e) = subst (λ d. SetsOwnerOnce (parts (sets_of d))) (sym e) (made_once line (new_kind what) (Only (new_kind what)))
sets_once line action (copies e) = subst (λ d. SetsOwnerOnce (parts (sets_of d))) (sym e) (owners_once Every line)
sets_once line action (adjusts deep wanted guard e) = subst (λ d. SetsOwnerOnce (parts (sets_of d))) (sym e) (owners_once guard line)
sets_once line action (writes e) = subst (λ d. SetsOwnerOnce (parts (sets_of d))) (sym e) (by line.plus)
  where
    by : (plus : Bool) → SetsOwnerOnce (parts (Apply (Only File) (cond plus (Append (bytes_of line.argument)) (Write (bytes_of line.argument))) ∷ []))
    by true = inr refl
    by false = inr refl
sets_once line action (sets deep e) = subst (λ d. SetsOwnerOnce (parts (sets_of d))) (sym e) (none_once (parts (set_by line.plus line.argument)) (argument_sets_none line.plus line.argument))
sets_once line action (idle e) = subst (λ d. SetsOwnerOnce (parts (sets_of d))) (sym e) tt

-- ---- the first of some adjustments

pub parts_adjust : (xs : List Operation) → list_all is_adjustment xs ≡ true → list_all is_adjustment (parts xs) ≡ true
parts_adjust [] h = refl
parts_adjust (Make b ∷ xs) h = impossible h
parts_adjust (Renew test b ∷ xs) h = impossible h
parts_adjust (Erase ∷ xs) h = impossible h
parts_adjust (Apply guard change ∷ xs) h = list_all-append is_adjustment (parts_of (Apply guard change)) (parts xs) ∙ ap (λ b. b && list_all is_adjustment (parts xs)) (one change) ∙ parts_adjust xs h
  where
    one : (c : Change) → list_all is_adjustment (parts_of (Apply guard c)) ≡ true
    one (Write bytes) = refl
    one (Append bytes) = refl
    one (Owner uid gid) = refl
    one (Mode mode masked) = refl
    one (Entries line how) = elim (list_any is_base line.access) as (λ b. list_all is_adjustment (cond b (Apply guard (Entries (base_line line) Add) ∷ Apply guard (Entries line how) ∷ []) (Apply guard (Entries line how) ∷ [])) ≡ true) [ true ↦ refl | false ↦ refl ]
    one (Attrs attrs) = refl
    one (Letters how letters) = refl

pub all_take : (p : Operation → Bool) (k : ℕ) (xs : List Operation) → list_all p xs ≡ true → list_all p (take k xs) ≡ true
all_take p zero xs h = refl
all_take p (suc k) [] h = refl
all_take p (suc k) (x ∷ xs) h = let two = and_parts (p x) (list_all p xs) h in and_from (p x) (list_all p (take k xs)) two.0 (all_take p k xs two.1)

none_take : (p : Operation → Bool) (k : ℕ) (xs : List Operation) → list_any p xs ≡ false → list_any p (take k xs) ≡ false
none_take p zero xs h = refl
none_take p (suc k) [] h = refl
none_take p (suc k) (x ∷ xs) h = let two = or_parts (p x) (list_any p xs) h in ap (λ b. b || list_any p (take k xs)) two.0 ∙ none_take p k xs two.1

change_uid : (kind : Kind) (change : Change) (b : ObjectState) → sets_owner change ≡ false → (changed kind change b).metadata.uid ≡ b.metadata.uid
change_uid kind (Write bytes) b h = elim (is_file kind) as (λ t. (cond t (record b { body = record b.body { payload = bytes } }) b).metadata.uid ≡ b.metadata.uid) [ true ↦ refl | false ↦ refl ]
change_uid kind (Append bytes) b h = elim (is_file kind) as (λ t. (cond t (record b { body = record b.body { payload = b.body.payload ++ bytes } }) b).metadata.uid ≡ b.metadata.uid) [ true ↦ refl | false ↦ refl ]
change_uid kind (Owner uid gid) b h = impossible (sym h)
change_uid kind (Mode mode true) b h = refl
change_uid kind (Mode mode false) b h = refl
change_uid kind (Entries line how) b h = refl
change_uid kind (Attrs attrs) b h = elim (is_link kind) as (λ t. (cond t b (record b { metadata = record b.metadata { attrs = put_attrs attrs b.metadata.attrs } })).metadata.uid ≡ b.metadata.uid) [ true ↦ refl | false ↦ refl ]
change_uid kind (Letters how letters) b h = elim (carries_letters kind) as (λ t. (cond t (record b { metadata = record b.metadata { letters = letters_after how letters b.metadata.letters } }) b).metadata.uid ≡ b.metadata.uid) [ true ↦ refl | false ↦ refl ]

adjust_uid : (guard : Guard) (change : Change) (b : ObjectState) → sets_owner change ≡ false → (cond (admits guard b.body.kind) (changed b.body.kind change b) b).metadata.uid ≡ b.metadata.uid
adjust_uid guard change b h = elim (admits guard b.body.kind) as (λ t. (cond t (changed b.body.kind change b) b).metadata.uid ≡ b.metadata.uid) [ true ↦ change_uid b.body.kind change b h | false ↦ refl ]

-- where none sets owners, the owner stays
uid_stays : (xs : List Operation) → list_all is_adjustment xs ≡ true → list_any (is_adjusting sets_owner) xs ≡ false → (b c : ObjectState) → run xs (Some b) ≡ Some c → c.metadata.uid ≡ b.metadata.uid
uid_stays [] h none b c e = ap (λ (x : ObjectState). x.metadata.uid) (same_Some c b (sym e))
uid_stays (Make n ∷ xs) h none b c e = impossible h
uid_stays (Renew test n ∷ xs) h none b c e = impossible h
uid_stays (Erase ∷ xs) h none b c e = impossible h
uid_stays (Apply guard change ∷ xs) h none b c e =
    let two = or_parts (sets_owner change) (list_any (is_adjusting sets_owner) xs) none in
    uid_stays xs h two.1 (cond (admits guard b.body.kind) (changed b.body.kind change b) b) c e ∙ adjust_uid guard change b two.0

-- after the first of them the owner is that of the start or of the end
front_uid : (xs : List Operation) → list_all is_adjustment xs ≡ true → SetsOwnerOnce xs → (k : ℕ) (b y z : ObjectState) → run (take k xs) (Some b) ≡ Some y → run xs (Some b) ≡ Some z → (y.metadata.uid ≡ b.metadata.uid) ⊎ (y.metadata.uid ≡ z.metadata.uid)
front_uid xs h once zero b y z e f = inl (ap (λ (x : ObjectState). x.metadata.uid) (same_Some y b (sym e)))
front_uid [] h once (suc k) b y z e f = inl (ap (λ (x : ObjectState). x.metadata.uid) (same_Some y b (sym e)))
front_uid (Make n ∷ xs) h once (suc k) b y z e f = impossible h
front_uid (Renew test n ∷ xs) h once (suc k) b y z e f = impossible h
front_uid (Erase ∷ xs) h once (suc k) b y z e f = impossible h
front_uid (Apply guard change ∷ xs) h once (suc k) b y z e f = by once (λ later. front_uid xs h later k (cond (admits guard b.body.kind) (changed b.body.kind change b) b) y z e f)
  where
    shifted : sets_owner change ≡ false → (y.metadata.uid ≡ (cond (admits guard b.body.kind) (changed b.body.kind change b) b).metadata.uid) ⊎ (y.metadata.uid ≡ z.metadata.uid) → (y.metadata.uid ≡ b.metadata.uid) ⊎ (y.metadata.uid ≡ z.metadata.uid)
    shifted none (inl g) = inl (g ∙ adjust_uid guard change b none)
    shifted none (inr g) = inr g

    by : ((sets_owner change ≡ false) × SetsOwnerOnce xs) ⊎ (list_any (is_adjusting sets_owner) xs ≡ false)
        → (SetsOwnerOnce xs → (y.metadata.uid ≡ (cond (admits guard b.body.kind) (changed b.body.kind change b) b).metadata.uid) ⊎ (y.metadata.uid ≡ z.metadata.uid))
        → (y.metadata.uid ≡ b.metadata.uid) ⊎ (y.metadata.uid ≡ z.metadata.uid)
    by (inl two) rest = shifted two.0 (rest two.1)
    by (inr none) rest = inr (
        uid_stays (take k xs) (all_take is_adjustment k xs h) (none_take (is_adjusting sets_owner) k xs none) (cond (admits guard b.body.kind) (changed b.body.kind change b) b) y e
        ∙ sym (uid_stays xs h none (cond (admits guard b.body.kind) (changed b.body.kind change b) b) z f))

-- ---- one line at work

-- the object at a path on the way of a line, by what stood there and what comes there
pub data IsAmid (line : Line) (s : ObjectStates) (q : Path) (old next here : Option ObjectState) : Type 0 where
  akin : (x y : ObjectState) → here ≡ Some x → (old ≡ Some y) ⊎ (next ≡ Some y) → IsAkin x y → IsAmid line s q old next here
  absent : here ≡ None → (old ≡ None) ⊎ (next ≡ None) → IsAmid line s q old next here
  gap : (path : Path) → here ≡ None → is_prefix path q ≡ true → Replaces line s path → IsAmid line s q old next here

module _ (line : Line) (s : ObjectStates) (q : Path) where
  -- where maps have what stood there and what comes there
  pub amid_between : (after : ObjectStates) (old next here : Option ObjectState) → fin.get s q ≡ old → fin.get after q ≡ next → IsAmid line s q old next here → IsBetween line s after q here
  amid_between after old next here e f (akin x y g there same) = IsBetween.akin x y g (by there) same
    where
      by : (old ≡ Some y) ⊎ (next ≡ Some y) → (fin.get s q ≡ Some y) ⊎ (fin.get after q ≡ Some y)
      by (inl h) = inl (e ∙ h)
      by (inr h) = inr (f ∙ h)
  amid_between after old next here e f (absent g none) = IsBetween.absent g (by none)
    where
      by : (old ≡ None) ⊎ (next ≡ None) → (fin.get s q ≡ None) ⊎ (fin.get after q ≡ None)
      by (inl h) = inl (e ∙ h)
      by (inr h) = inr (f ∙ h)
  amid_between after old next here e f (gap path g low replaces) = IsBetween.gap path g low replaces

  pub at_start : (old next here : Option ObjectState) → here ≡ old → IsAmid line s q old next here
  at_start None next here e = absent e (inl refl)
  at_start (Some y) next here e = akin y y e (inl refl) (record { kind = refl; uid = refl })

  pub at_end : (old next here : Option ObjectState) → here ≡ next → IsAmid line s q old next here
  at_end old None here e = absent e (inr refl)
  at_end old (Some y) here e = akin y y e (inr refl) (record { kind = refl; uid = refl })

  -- some of what is set is set, of an object that stood there, or that is the new one
  pub set_between : (xs : List Operation) → list_all is_adjustment xs ≡ true → SetsOwnerOnce xs → (k : ℕ) (old next here : Option ObjectState) (z : ObjectState) → (old ≡ Some z) ⊎ (next ≡ Some z) → next ≡ run xs (Some z) → here ≡ run (take k xs) (Some z) → IsAmid line s q old next here
  set_between xs adjust once k old next here z stood after e = by stood (front_uid xs adjust once k z y.0 last.0 y.1 last.1)
    where
      y : (c : ObjectState) × (run (take k xs) (Some z) ≡ Some c) × IsLike z c
      y = adjusted_like (take k xs) (all_take is_adjustment k xs adjust) z

      last : (c : ObjectState) × (run xs (Some z) ≡ Some c) × IsLike z c
      last = adjusted_like xs adjust z

      by : (old ≡ Some z) ⊎ (next ≡ Some z) → (y.0.metadata.uid ≡ z.metadata.uid) ⊎ (y.0.metadata.uid ≡ last.0.metadata.uid) → IsAmid line s q old next here
      by there (inl u) = akin y.0 z (e ∙ y.1) there (record { kind = y.2.kind; uid = u })
      by there (inr u) = akin y.0 last.0 (e ∙ y.1) (inr (after ∙ last.1)) (record { kind = y.2.kind ∙ sym last.2.kind; uid = u })

  make_alone : (x : Operation) → is_make x ≡ true → parts_of x ≡ x ∷ []
  make_alone x h = grind arith

  object_between : (making : Making) → action_of line ≡ Create making → operations line q ≡ first_of making ∷ making.sets → (k : ℕ) (old here : Option ObjectState) → here ≡ run (take k (parts (operations line q))) old → IsAmid line s q old (run (operations line q) old) here
  object_between making e f k old here g = by k (g ∙ ap (λ xs. run (take k xs) old) listed)
    where
      is : IsMaking making
      is = line_is_making line making e

      own : ObjectState
      own = object_state_of (new_object making.new 0)

      adjust : list_all is_adjustment making.sets ≡ true
      adjust = only_adjusts (new_kind making.new.what) making.sets is.only

      once : SetsOwnerOnce (parts making.sets)
      once = subst (λ d. SetsOwnerOnce (parts (sets_of d))) e (sets_once line (action_of line) (asked line))

      listed : parts (operations line q) ≡ first_of making ∷ parts making.sets
      listed = ap parts f ∙ ap (λ xs. xs ++ parts making.sets) (make_alone (first_of making) (first_makes making is).0)

      whole : (z : ObjectState) → done (first_of making) old ≡ Some z → run (operations line q) old ≡ run (parts making.sets) (Some z)
      whole z s = ap (λ xs. run xs old) f ∙ ap (run making.sets) s ∙ sym (run-parts making.sets (Some z))

      from : (n : ℕ) (z : ObjectState) → done (first_of making) old ≡ Some z → (old ≡ Some z) ⊎ (run (operations line q) old ≡ Some z) → here ≡ run (take n (parts making.sets)) (done (first_of making) old) → IsAmid line s q old (run (operations line q) old) here
      from n z s there h = set_between (parts making.sets) (parts_adjust making.sets adjust) once n old (run (operations line q) old) here z there (whole z s) (h ∙ ap (run (take n (parts making.sets))) s)

      new_there : done (first_of making) old ≡ Some own → run (operations line q) old ≡ Some own
      new_there s = ap (λ xs. run xs old) f ∙ ap (run making.sets) s ∙ is.once

      start : (b : Option ObjectState) → old ≡ b → (n : ℕ) → here ≡ run (take n (parts making.sets)) (done (first_of making) old) → IsAmid line s q old (run (operations line q) old) here
      start None s n h = let new = ap (done (first_of making)) s ∙ first_on_none making is in from n own new (inr (new_there new)) h
      start (Some x) there n h = stay (does_stay making is making.renew x) (ap (done (first_of making)) there ∙ first_on_some making is x)
        where
          stay : (b : Bool) → done (first_of making) old ≡ Some (cond b x own) → IsAmid line s q old (run (operations line q) old) here
          stay true r = from n x r (inl there) h
          stay false r = from n own r (inr (new_there r)) h

      by : (n : ℕ) → here ≡ run (take n (first_of making ∷ parts making.sets)) old → IsAmid line s q old (run (operations line q) old) here
      by zero h = at_start old (run (operations line q) old) here h
      by (suc n) h = start old refl n h

  -- an object that gives way to a line's own is replaced
  renewal_replaces : (b : ObjectState) → fin.get s q ≡ Some b → IsRenewal line q b → Replaces line s q
  renewal_replaces b there renewal = record {
    object = b;
    subtree = single own;
    at = renewal.at;
    there = there;
    puts = ap (λ action. decide action (view s) q) renewal.makes ∙ ap (making_turn renewal.making) there ∙ ap (λ r. turn_of r) renewal.renews ∙ ap (λ c. turn_by_stay c) renewal.fails;
  }
    where
      own : ObjectState
      own = object_state_of (new_object renewal.making.new 0)

      turn_by_stay : Bool → Turn
      turn_by_stay stay = if not stay then Turn.Put (single own) else if same_kind own.body.kind b.body.kind then Turn.Become renewal.making.sets else Turn.Left b.body.kind

      turn_of : Option Test → Turn
      turn_of renew = turn_by_stay (option_map_or (λ test. stays test own.body b.body) renew true)

  pub midway_between : (old here : Option ObjectState) → fin.get s q ≡ old → IsMidway line q old here → IsAmid line s q old (run (operations line q) old) here
  midway_between old here before (IsMidway.gap b there renewal none) = gap q none (is_prefix-refl q) (renewal_replaces b (before ∙ there) renewal)
  midway_between old here before (IsMidway.piece k e) = by (asked_at line q)
    where
      one : (x : Operation) (n : ℕ) → parts_of x ≡ x ∷ [] → operations line q ≡ x ∷ [] → here ≡ run (take n (parts (operations line q))) old → IsAmid line s q old (run (operations line q) old) here
      one x zero p f g = at_start old (run (operations line q) old) here g
      one x (suc n) p f g = at_end old (run (operations line q) old) here (g ∙ ap (λ xs. run (take (suc n) (parts xs)) old) f ∙ ap (λ xs. run (take (suc n) (xs ++ [])) old) p ∙ rest n ∙ sym (ap (λ xs. run xs old) f))
        where
          rest : (m : ℕ) → run (take (suc m) (x ∷ [])) old ≡ run (x ∷ []) old
          rest zero = refl
          rest (suc m) = refl

      by : IsAskedAt line q → IsAmid line s q old (run (operations line q) old) here
      by (object making a s f) = object_between making a f k old here e
      by (parent making a s f) = one (Make parent_object_state) k refl f e
      by (below making a g d f) = one Erase k refl f e
      by (set adjustment a t f) = start old refl
        where
          adjust : list_all is_adjustment adjustment.sets ≡ true
          adjust = subst (λ d. list_all is_adjustment (sets_of d) ≡ true) a (sets_adjust line (action_of line) (asked line))

          once : SetsOwnerOnce (parts adjustment.sets)
          once = subst (λ d. SetsOwnerOnce (parts (sets_of d))) a (sets_once line (action_of line) (asked line))

          start : (b : Option ObjectState) → old ≡ b → IsAmid line s q old (run (operations line q) old) here
          start None s = at_start old (run (operations line q) old) here (
              e ∙ ap (λ xs. run (take k (parts xs)) old) f ∙ ap (run (take k (parts adjustment.sets))) s
              ∙ adjusted_none (take k (parts adjustment.sets)) (all_take is_adjustment k (parts adjustment.sets) (parts_adjust adjustment.sets adjust)) ∙ sym s)
          start (Some x) s = set_between (parts adjustment.sets) (parts_adjust adjustment.sets adjust) once k old (run (operations line q) old) here x (inl s)
              (ap (λ xs. run xs old) f ∙ ap (run adjustment.sets) s ∙ sym (run-parts adjustment.sets (Some x)))
              (e ∙ ap (λ xs. run (take k (parts xs)) old) f ∙ ap (run (take k (parts adjustment.sets))) s)
      by (nothing f) = at_start old (run (operations line q) old) here (e ∙ ap (λ xs. run (take k (parts xs)) old) f ∙ none k)
        where
          none : (n : ℕ) → run (take n []) old ≡ old
          none zero = refl
          none (suc n) = refl
