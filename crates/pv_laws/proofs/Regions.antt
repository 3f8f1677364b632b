-- Lines that are carried out before one that copies leave all at and below its path as it is.
use Rattle.std.specs.Prelude.{◌≡◌, ◌≢◌, ◌⊎◌, ℕ, Bool, true, false, not, cond, ◌&&◌, ◌||◌, List, [], ◌∷◌, ◌++◌, take, Option, Some, None, is_some}
use Rattle.std.proofs.Common.{zero, suc, refl, sym, ap, subst, ◌∙◌, inl, inr, arith}
use Rattle.std.specs.List.{list_all, AllByRecursion}
use Rattle.std.proofs.lemmas.Bool.{or_parts, and_parts, false_from_ne_true}
use Rattle.pv_path.specs.Paths.{Path, is_prefix, has_staging}
use Rattle.pv_path.proofs.PathLaws.{same_path-refl, is_prefix-refl, is_prefix-trans, prefixes_compare, rest_under-None}
use Rattle.pv_steps.specs.Trees.{Files, places}
use Rattle.pv_steps.specs.Objects.{is_directory}
use Rattle.pv_walk.specs.declared.object_state.ObjectState.{ObjectState}
use Rattle.pv_walk.specs.declared.operation.Operation.TheVariants.{Make}
use Rattle.pv_walk.specs.declared.operation.Test.{Test}
use Rattle.pv_walk.specs.Dividing.{parts}
use Rattle.pv_walk.specs.Nodes.{object_state_of, object_states_of, same_kind, same_substance}
use Rattle.pv_walk.specs.Operations.{run}
use Rattle.pv_walk.proofs.OperationLaws.{object_states_of-same}
use Rattle.pv_lines.specs.declared.line.Line.{Line}
use Rattle.pv_walk.specs.Staging.{new_object, new_kind}
use Rattle.pv_table.specs.declared.action.Copying.{Copying}
use Rattle.pv_table.specs.declared.action.Action.{Action}
use Rattle.pv_table.specs.declared.action.Action.TheVariants.{Create, Copy, Adjust}
use Rattle.pv_table.specs.declared.action.Making.{Making}
use Rattle.pv_table.specs.declared.action.Adjustment.{Adjustment}
use Rattle.pv_table.specs.Active.{is_adjusting_line}
use Rattle.pv_table.specs.Asked.{first_of, clears_below, operations}
use Rattle.pv_table.specs.ActionTable.{action_of}
use Rattle.pv_table.specs.Created.{by_turn, by_line}
use Rattle.pv_steps.specs.Doing.{after_each, one_is_refused}
use Rattle.pv_table.specs.Effects.{carried_out}
use Rattle.pv_table.specs.Pointwise.{parent_object_state}
use Rattle.pv_table.specs.Reaching.{path_in}
use Rattle.pv_table.specs.Repeatable.{sets_of}
use Rattle.pv_table.specs.Turns.{copied, refused_at}
use Rattle.pv_laws.specs.Copying.{IsCopyMidway, kept, parent, some_set, gone, turn_of, OnWayOf, copy_before, copy_done, other, PartwayOf}
use Rattle.pv_laws.specs.Stopping.{IsMidway}
use Rattle.pv_laws.proofs.AllPoints.{IsSafe, line_pointed, turns_copy, copy_idle, copy_passes}
use Rattle.pv_laws.proofs.CopyShapes.{at_outside}
use Rattle.pv_laws.proofs.Lines.{line_is_plain, line_point, copy_path, copy_source, IsPlain, asked_made, copies_or_not}
use Rattle.pv_laws.proofs.Making.{is_dir, IsShaped, does_stay, clears_none, first_on_none, first_on_some, asked_here}
use Rattle.pv_laws.proofs.Prepared.{object_state_some, filled}
use Rattle.pv_laws.proofs.Repeated as repeated
use Rattle.pv_laws.proofs.Repeated.{IsAskedAt, asked_at}
use Rattle.pv_laws.proofs.Sets.{impossible, is_adjustment, IsMaking, line_is_making, only_adjusts, asked, sets_adjust}
use Rattle.pv_laws.proofs.Shapes.{adjusted_like}
use Rattle.pv_laws.proofs.Adjustment.{turn_open, first_turn}
use Rattle.pv_steps.specs.declared.node.Kind.{Kind}
use Rattle.pv_table.proofs.Restamping.{same_kind-true}
use Rattle.pv_laws.proofs.Orders.{Pairwise}
use Rattle.pv_path.proofs.Tests.{true_not_false}

-- ---- copies outside of a path

-- a copy that lies neither at a path, nor above it, nor below it leaves the object there; one below it leaves it, or makes
-- it a parent
module _ (now : ℕ) (line : Line) (safe : IsSafe line) (copying : Copying) (e : action_of line ≡ Copy copying) (t : Files) (shape : IsShaped (object_states_of (places t))) (quiet : (by_line now).is_refused line t ≡ false) (q : Path) (plain : has_staging q ≡ false)
    (outside : is_prefix (path_in line.path) q ≡ false) where
  pub copy_leaves : (object_states_of (places ((by_line now).after line t)) q ≡ object_states_of (places t) q) ⊎ (object_states_of (places ((by_line now).after line t)) q ≡ filled (is_prefix q (path_in line.path)) (object_states_of (places t) q))
  copy_leaves = by (object_states_of (places t) copying.source) refl
    where
      open_path : refused_at line (path_in line.path) (places t) ≡ None
      open_path = (first_turn now line (path_in line.path) [] t (ap (λ paths. one_is_refused (by_turn now line) paths t) (sym (turns_copy line copying t e)) ∙ quiet)).0

      opened : (by_line now).after line t ≡ carried_out now (Copy copying) (path_in line.path) t
      opened = ap (λ paths. after_each (by_turn now line) paths t) (turns_copy line copying t e) ∙ turn_open now line (path_in line.path) t open_path ∙ ap (λ (d : Action). carried_out now d (path_in line.path) t) e

      by : (b : Option ObjectState) → object_states_of (places t) copying.source ≡ b → (object_states_of (places ((by_line now).after line t)) q ≡ object_states_of (places t) q) ⊎ (object_states_of (places ((by_line now).after line t)) q ≡ filled (is_prefix q (path_in line.path)) (object_states_of (places t) q))
      by None f = inl (ap (λ (u : Files). object_states_of (places u) q) (opened ∙ copy_idle now copying (path_in line.path) t (sym (object_state_some (places t copying.source)) ∙ ap is_some f)))
      by (Some b) f = inr (
          ap (λ (u : Files). object_states_of (places u) q) opened
          ∙ at_outside now copying (subst (λ d. list_all is_adjustment (sets_of d) ≡ true) e (sets_adjust line (action_of line) (asked line))) (path_in line.path) (copy_path line safe.is copying e).0 (copy_source line safe.is copying e) t shape b f
          (copy_path line safe.is copying e).1 (copy_passes line copying e t open_path (sym (object_state_some (places t copying.source)) ∙ ap is_some f)) q plain (rest_under-None (path_in line.path) q outside))

-- ---- an object that is not a directory

-- something stands there that is not a directory
pub record IsStuck (b : Option ObjectState) : Type 0 where
  pub there : is_some b ≡ true
  pub no_dir : is_dir b ≡ false

stuck_filled : (above : Bool) (b : Option ObjectState) → IsStuck b → IsStuck (filled above b)
stuck_filled true None h = impossible h.there
stuck_filled true (Some x) h = h
stuck_filled false b h = h

-- a line that makes an object and is neither at a path nor above it leaves it there
stuck_step : (now : ℕ) (line : Line) → IsSafe line → is_adjusting_line line ≡ false → (t : Files) → IsShaped (object_states_of (places t)) → (by_line now).is_refused line t ≡ false → (p : Path) → has_staging p ≡ false → is_prefix (path_in line.path) p ≡ false
    → IsStuck (object_states_of (places t) p) → IsStuck (object_states_of (places ((by_line now).after line t)) p)
stuck_step now line safe makes t shape quiet p plain outside stuck = copies_or_not line (λ copying e. by_copy (copy_leaves now line safe copying e t shape quiet p plain outside)) plain_line
  where
    by_copy : (object_states_of (places ((by_line now).after line t)) p ≡ object_states_of (places t) p) ⊎ (object_states_of (places ((by_line now).after line t)) p ≡ filled (is_prefix p (path_in line.path)) (object_states_of (places t) p)) → IsStuck (object_states_of (places ((by_line now).after line t)) p)
    by_copy (inl same) = subst IsStuck (sym same) stuck
    by_copy (inr same) = subst IsStuck (sym same) (stuck_filled (is_prefix p (path_in line.path)) (object_states_of (places t) p) stuck)

    adjust_adjusts : (adjustment : Adjustment) → action_of line ≡ Adjust adjustment → is_adjusting_line line ≡ true
    adjust_adjusts adjustment e = rw e

    parent_kept : (b : Option ObjectState) → IsStuck b → run (Make parent_object_state ∷ []) b ≡ b
    parent_kept None h = impossible h.there
    parent_kept (Some x) h = refl

    asks_no_more : IsAskedAt line p → run (operations line p) (object_states_of (places t) p) ≡ object_states_of (places t) p
    asks_no_more (repeated.object making e s f) = absurd (true_not_false (is_prefix (path_in line.path) p) (ap (is_prefix (path_in line.path)) (sym s) ∙ is_prefix-refl (path_in line.path)) outside)
    asks_no_more (repeated.parent making e s f) = ap (λ xs. run xs (object_states_of (places t) p)) f ∙ parent_kept (object_states_of (places t) p) stuck
    asks_no_more (repeated.below making e g d f) = absurd (true_not_false (is_prefix (path_in line.path) p) (and_parts (is_prefix (path_in line.path) p) (clears_below making) g).0 outside)
    asks_no_more (repeated.set adjustment e g f) = impossible (sym makes ∙ adjust_adjusts adjustment e)
    asks_no_more (repeated.nothing f) = ap (λ xs. run xs (object_states_of (places t) p)) f

    plain_line : copied (action_of line) ≡ None → IsStuck (object_states_of (places ((by_line now).after line t)) p)
    plain_line none = subst IsStuck (sym ((line_point now line (line_is_plain line safe.is none) t shape quiet).point p plain ∙ asks_no_more (asked_at line p))) stuck

-- where what lies below is to go, no directory is left
module _ (making : Making) (is : IsMaking making) (clears : clears_below making ≡ true) where
  own_no_dir : (test : Test) → making.renew ≡ Some test → (test.spares_directories ≡ false) × (is_directory (new_kind making.new.what) ≡ false)
  own_no_dir test e = grind arith

  same_no_dir : (own kind : Kind) → is_directory own ≡ false → same_kind own kind ≡ true → is_directory kind ≡ false
  same_no_dir own kind h s = sym (ap is_directory (same_kind-true own kind s)) ∙ h

  abbrev own : ObjectState
  own = object_state_of (new_object making.new 0)

  stayer_no_dir : (r : Option Test) → making.renew ≡ r → (x : ObjectState) → does_stay making is r x ≡ true → is_directory x.body.kind ≡ false
  stayer_no_dir None e x h = impossible (sym (clears_none making is e) ∙ clears)
  stayer_no_dir (Some test) e x h = by (same_kind (new_kind making.new.what) x.body.kind) refl (sym (ap (λ b. (same_kind (new_kind making.new.what) x.body.kind && (not test.exact || same_substance own.body x.body)) || (b && is_directory x.body.kind)) (own_no_dir test e).0) ∙ h)
    where
      by : (b : Bool) → same_kind (new_kind making.new.what) x.body.kind ≡ b → ((same_kind (new_kind making.new.what) x.body.kind && (not test.exact || same_substance own.body x.body)) || false) ≡ true → is_directory x.body.kind ≡ false
      by true f g = same_no_dir (new_kind making.new.what) x.body.kind (own_no_dir test e).1 f
      by false f g = impossible (sym (ap (λ b. (b && (not test.exact || same_substance own.body x.body)) || false) f) ∙ g)

  new_no_dir : is_directory (new_kind making.new.what) ≡ false
  new_no_dir = by making.renew refl
    where
      by : (r : Option Test) → making.renew ≡ r → is_directory (new_kind making.new.what) ≡ false
      by None e = impossible (sym (clears_none making is e) ∙ clears)
      by (Some test) e = (own_no_dir test e).1

  set_stuck : (x : ObjectState) → is_directory x.body.kind ≡ false → IsStuck (run making.sets (Some x))
  set_stuck x h =
      let like = adjusted_like making.sets (only_adjusts (new_kind making.new.what) making.sets is.only) x in
      subst IsStuck (sym like.1) (record { there = refl; no_dir = ap is_directory like.2.kind ∙ h })

  pub cleared_stuck : (b : Option ObjectState) → IsStuck (run (first_of making ∷ making.sets) b)
  cleared_stuck None = subst (λ c. IsStuck (run making.sets c)) (sym (first_on_none making is)) (set_stuck own new_no_dir)
  cleared_stuck (Some x) = subst (λ c. IsStuck (run making.sets c)) (sym (first_on_some making is x)) (by (does_stay making is making.renew x) refl)
    where
      by : (stay : Bool) → does_stay making is making.renew x ≡ stay → IsStuck (run making.sets (Some (cond stay x own)))
      by true e = set_stuck x (stayer_no_dir making.renew refl x e)
      by false e = set_stuck own new_no_dir

-- ---- lines beside a path

-- a line makes or copies an object neither at a path nor below it, and copies none above it
pub record IsBeside (p : Path) (line : Line) : Type 0 where
  pub low : is_prefix p (path_in line.path) ≡ false
  pub copies : (copying : Copying) → action_of line ≡ Copy copying → is_prefix (path_in line.path) p ≡ false
  pub makes : is_adjusting_line line ≡ false

-- a line clears what lies below an object above a path
pub record IsClearing (p : Path) (line : Line) : Type 0 where
  pub making : Making
  pub makes : action_of line ≡ Create making
  pub clears : clears_below making ≡ true
  pub above : is_prefix (path_in line.path) p ≡ true

module _ (p : Path) (line : Line) (beside : IsBeside p line) (q : Path) (under : is_prefix p q ≡ true) where
  pub not_lower : is_prefix q (path_in line.path) ≡ false
  not_lower = false_from_ne_true _ (λ e. true_not_false (is_prefix p (path_in line.path)) (is_prefix-trans p q (path_in line.path) under e) beside.low)

  pub not_there : path_in line.path ≢ q
  not_there e = true_not_false (is_prefix p (path_in line.path)) (ap (is_prefix p) e ∙ under) beside.low

  pub higher : is_prefix (path_in line.path) q ≡ true → is_prefix (path_in line.path) p ≡ true
  higher e = by (prefixes_compare p (path_in line.path) q under e)
    where
      by : (is_prefix p (path_in line.path) ≡ true) ⊎ (is_prefix (path_in line.path) p ≡ true) → is_prefix (path_in line.path) p ≡ true
      by (inl f) = absurd (true_not_false (is_prefix p (path_in line.path)) f beside.low)
      by (inr f) = f

  pub copy_outside : (copying : Copying) → action_of line ≡ Copy copying → is_prefix (path_in line.path) q ≡ false
  copy_outside copying e = false_from_ne_true _ (λ f. true_not_false (is_prefix (path_in line.path) p) (higher f) (beside.copies copying e))

  adjust_makes : (adjustment : Adjustment) → action_of line ≡ Adjust adjustment → is_adjusting_line line ≡ true
  adjust_makes adjustment e = rw e

  pub asks_there : (operations line q ≡ []) ⊎ IsClearing p line
  asks_there = by (asked_at line q)
    where
      by : IsAskedAt line q → (operations line q ≡ []) ⊎ IsClearing p line
      by (repeated.object making e s f) = absurd (not_there s)
      by (repeated.parent making e s f) = absurd (true_not_false (is_prefix q (path_in line.path)) s not_lower)
      by (repeated.below making e g d f) =
          let two = and_parts (is_prefix (path_in line.path) q) (clears_below making) g in
          inr (record { making = making; makes = e; clears = two.1; above = higher two.0 })
      by (repeated.set adjustment e g f) = impossible (sym beside.makes ∙ adjust_makes adjustment e)
      by (repeated.nothing f) = inl f

module _ (now : ℕ) (p : Path) (line : Line) (safe : IsSafe line) (beside : IsBeside p line) (t : Files) (shape : IsShaped (object_states_of (places t))) (quiet : (by_line now).is_refused line t ≡ false) (q : Path) (plain : has_staging q ≡ false) (under : is_prefix p q ≡ true) where
  pub beside_after : (object_states_of (places ((by_line now).after line t)) q ≡ object_states_of (places t) q) ⊎ IsClearing p line
  beside_after = copies_or_not line (λ copying e. of_copy (copy_leaves now line safe copying e t shape quiet q plain (copy_outside p line beside q under copying e))) plain_line
    where
      plain_line : copied (action_of line) ≡ None → (object_states_of (places ((by_line now).after line t)) q ≡ object_states_of (places t) q) ⊎ IsClearing p line
      plain_line none = at (asks_there p line beside q under)
        where
          at : (operations line q ≡ []) ⊎ IsClearing p line → (object_states_of (places ((by_line now).after line t)) q ≡ object_states_of (places t) q) ⊎ IsClearing p line
          at (inl e) = inl ((line_point now line (line_is_plain line safe.is none) t shape quiet).point q plain ∙ ap (λ xs. run xs (object_states_of (places t) q)) e)
          at (inr clearing) = inr clearing

      of_copy : (object_states_of (places ((by_line now).after line t)) q ≡ object_states_of (places t) q) ⊎ (object_states_of (places ((by_line now).after line t)) q ≡ filled (is_prefix q (path_in line.path)) (object_states_of (places t) q)) → (object_states_of (places ((by_line now).after line t)) q ≡ object_states_of (places t) q) ⊎ IsClearing p line
      of_copy (inl e) = inl e
      of_copy (inr e) = inl (e ∙ ap (λ b. filled b (object_states_of (places t) q)) (not_lower p line beside q under))

  pub beside_way : (u : Files) → OnWayOf line now t u → (object_states_of (places u) q ≡ object_states_of (places t) q) ⊎ IsClearing p line
  beside_way u (copy_before copying e before) = inl (by (before.1 q plain))
    where
      by : IsCopyMidway (path_in line.path) copying (turn_of line copying now t) q (object_states_of (places t) q) (object_states_of (places u) q) → object_states_of (places u) q ≡ object_states_of (places t) q
      by (kept f) = f
      by (parent high differ none f) = absurd (true_not_false (is_prefix q (path_in line.path)) high (not_lower p line beside q under))
      by (some_set k same turn f) = absurd (not_there p line beside q under (sym same))
      by (gone subtree low turn f) = absurd (true_not_false (is_prefix (path_in line.path) q) low (copy_outside p line beside q under copying e))
  beside_way u (copy_done copying e whole) = by beside_after
    where
      by : (object_states_of (places ((by_line now).after line t)) q ≡ object_states_of (places t) q) ⊎ IsClearing p line → (object_states_of (places u) q ≡ object_states_of (places t) q) ⊎ IsClearing p line
      by (inl f) = inl (sym (object_states_of-same (places ((by_line now).after line t)) (places u) q (whole q plain)) ∙ f)
      by (inr clearing) = inr clearing
  beside_way u (other none way) = by (asks_there p line beside q under) (way q plain)
    where
      none_done : (k : ℕ) (b : Option ObjectState) → run (take k []) b ≡ b
      none_done zero b = refl
      none_done (suc k) b = refl

      by : (operations line q ≡ []) ⊎ IsClearing p line → IsMidway line q (object_states_of (places t) q) (object_states_of (places u) q) → (object_states_of (places u) q ≡ object_states_of (places t) q) ⊎ IsClearing p line
      by (inl e) (IsMidway.piece k f) = inl (f ∙ ap (λ xs. run (take k (parts xs)) (object_states_of (places t) q)) e ∙ none_done k (object_states_of (places t) q))
      by (inl e) (IsMidway.gap b s renewal f) = absurd (not_there p line beside q under renewal.at)
      by (inr clearing) way_there = inr clearing

-- ---- lines one after the other

-- the path of the second line is not above that of the first, nor the same
abbrev pub Before : Line → Line → Type 0
Before a b = is_prefix (path_in b.path) (path_in a.path) ≡ false

module _ (now : ℕ) where
  stuck_all : (x : Path) → has_staging x ≡ false → (lines : List Line) → AllByRecursion IsSafe lines → AllByRecursion (λ line. is_adjusting_line line ≡ false) lines → AllByRecursion (λ line. is_prefix (path_in line.path) x ≡ false) lines
      → (t : Files) → IsShaped (object_states_of (places t)) → one_is_refused (by_line now) lines t ≡ false → IsStuck (object_states_of (places t) x) → IsStuck (object_states_of (places (after_each (by_line now) lines t)) x)
  stuck_all x plain [] safe makes outside t shape quiet stuck = stuck
  stuck_all x plain (line ∷ lines) safe makes outside t shape quiet stuck =
      let two = or_parts ((by_line now).is_refused line t) (one_is_refused (by_line now) lines ((by_line now).after line t)) quiet in
      stuck_all x plain lines safe.1 makes.1 outside.1 ((by_line now).after line t) (line_pointed now line safe.0 t shape two.0).shape two.1
      (stuck_step now line safe.0 makes.0 t shape two.0 x plain outside.0 stuck)

  module _ (p : Path) where
    all_make : (lines : List Line) → AllByRecursion (IsBeside p) lines → AllByRecursion (λ line. is_adjusting_line line ≡ false) lines
    all_make [] h = tt
    all_make (line ∷ lines) h = (h.0.makes, all_make lines h.1)

    -- each present place above the path is a directory
    abbrev pub Passes : Files → Type 0
    Passes u = (x : Path) → is_prefix x p ≡ true → x ≢ p → is_some (object_states_of (places u) x) ≡ true → is_dir (object_states_of (places u) x) ≡ true

    -- where the path can be walked to in the end, nothing was cleared above it
    pub never_clears : (line : Line) (lines : List Line) → IsSafe line → IsBeside p line → AllByRecursion IsSafe lines → AllByRecursion (IsBeside p) lines → AllByRecursion (Before line) lines → (t : Files) → IsShaped (object_states_of (places t))
        → one_is_refused (by_line now) (line ∷ lines) t ≡ false → Passes (after_each (by_line now) (line ∷ lines) t) → IsClearing p line → ⊥
    never_clears line lines safe beside safe_all beside_all before t shape quiet passes clearing =
        true_not_false (is_dir (object_states_of (places (after_each (by_line now) (line ∷ lines) t)) (path_in line.path))) (passes (path_in line.path) clearing.above other stuck.there) stuck.no_dir
      where
        two : ((by_line now).is_refused line t ≡ false) × (one_is_refused (by_line now) lines ((by_line now).after line t) ≡ false)
        two = or_parts ((by_line now).is_refused line t) (one_is_refused (by_line now) lines ((by_line now).after line t)) quiet

        plain : IsPlain line
        plain = line_is_plain line safe.is (ap copied clearing.makes)

        asks_it : operations line (path_in line.path) ≡ first_of clearing.making ∷ clearing.making.sets
        asks_it = asked_made line clearing.making (path_in line.path) clearing.makes ∙ asked_here clearing.making (path_in line.path) (path_in line.path) (same_path-refl (path_in line.path))

        begun : IsStuck (object_states_of (places ((by_line now).after line t)) (path_in line.path))
        begun = subst IsStuck (sym ((line_point now line plain t shape two.0).point (path_in line.path) plain.unstaged ∙ ap (λ xs. run xs (object_states_of (places t) (path_in line.path))) asks_it))
            (cleared_stuck clearing.making (line_is_making line clearing.making clearing.makes) clearing.clears (object_states_of (places t) (path_in line.path)))

        stuck : IsStuck (object_states_of (places (after_each (by_line now) (line ∷ lines) t)) (path_in line.path))
        stuck = stuck_all (path_in line.path) plain.unstaged lines safe_all (all_make lines beside_all) before ((by_line now).after line t) (line_pointed now line safe t shape two.0).shape two.1 begun

        other : path_in line.path ≢ p
        other e = true_not_false (is_prefix p (path_in line.path)) (ap (is_prefix p) e ∙ is_prefix-refl p) beside.low

    -- what lies at and below the path stays
    pub region_after : (lines : List Line) → AllByRecursion IsSafe lines → AllByRecursion (IsBeside p) lines → Pairwise Before lines → (t : Files) → IsShaped (object_states_of (places t)) → one_is_refused (by_line now) lines t ≡ false → Passes (after_each (by_line now) lines t)
        → (q : Path) → has_staging q ≡ false → is_prefix p q ≡ true → object_states_of (places (after_each (by_line now) lines t)) q ≡ object_states_of (places t) q
    region_after [] safe beside before t shape quiet passes q plain under = refl
    region_after (line ∷ lines) safe beside before t shape quiet passes q plain under =
        by (beside_after now p line safe.0 beside.0 t shape two.0 q plain under)
        (region_after lines safe.1 beside.1 before.1 ((by_line now).after line t) (line_pointed now line safe.0 t shape two.0).shape two.1 passes q plain under)
      where
        two : ((by_line now).is_refused line t ≡ false) × (one_is_refused (by_line now) lines ((by_line now).after line t) ≡ false)
        two = or_parts ((by_line now).is_refused line t) (one_is_refused (by_line now) lines ((by_line now).after line t)) quiet

        by : (object_states_of (places ((by_line now).after line t)) q ≡ object_states_of (places t) q) ⊎ IsClearing p line → object_states_of (places (after_each (by_line now) lines ((by_line now).after line t))) q ≡ object_states_of (places ((by_line now).after line t)) q
            → object_states_of (places (after_each (by_line now) (line ∷ lines) t)) q ≡ object_states_of (places t) q
        by (inl e) rest = rest ∙ e
        by (inr clearing) rest = absurd (never_clears line lines safe.0 beside.0 safe.1 beside.1 before.0 t shape quiet passes clearing)

    -- also where a run is on its way among these lines; otherwise they are done
    pub region_partway : (lines rest : List Line) → AllByRecursion IsSafe lines → AllByRecursion (IsBeside p) lines → Pairwise Before lines → (t u : Files) → IsShaped (object_states_of (places t)) → one_is_refused (by_line now) lines t ≡ false → Passes (after_each (by_line now) lines t)
        → PartwayOf (lines ++ rest) now t u
        → ((q : Path) → has_staging q ≡ false → is_prefix p q ≡ true → object_states_of (places u) q ≡ object_states_of (places t) q) ⊎ PartwayOf rest now (after_each (by_line now) lines t) u
    region_partway [] rest safe beside before t u shape quiet passes way = inr way
    region_partway (line ∷ lines) rest safe beside before t u shape quiet passes (inl way) = inl (λ q plain under. by q (beside_way now p line safe.0 beside.0 t shape two.0 q plain under u way))
      where
        two : ((by_line now).is_refused line t ≡ false) × (one_is_refused (by_line now) lines ((by_line now).after line t) ≡ false)
        two = or_parts ((by_line now).is_refused line t) (one_is_refused (by_line now) lines ((by_line now).after line t)) quiet

        by : (q : Path) → (object_states_of (places u) q ≡ object_states_of (places t) q) ⊎ IsClearing p line → object_states_of (places u) q ≡ object_states_of (places t) q
        by q (inl e) = e
        by q (inr clearing) = absurd (never_clears line lines safe.0 beside.0 safe.1 beside.1 before.0 t shape quiet passes clearing)
    region_partway (line ∷ lines) rest safe beside before t u shape quiet passes (inr later) =
        by (region_partway lines rest safe.1 beside.1 before.1 ((by_line now).after line t) u (line_pointed now line safe.0 t shape two.0).shape two.1 passes later)
      where
        two : ((by_line now).is_refused line t ≡ false) × (one_is_refused (by_line now) lines ((by_line now).after line t) ≡ false)
        two = or_parts ((by_line now).is_refused line t) (one_is_refused (by_line now) lines ((by_line now).after line t)) quiet

        first_same : (q : Path) → has_staging q ≡ false → is_prefix p q ≡ true → object_states_of (places ((by_line now).after line t)) q ≡ object_states_of (places t) q
        first_same q plain under = at (beside_after now p line safe.0 beside.0 t shape two.0 q plain under)
          where
            at : (object_states_of (places ((by_line now).after line t)) q ≡ object_states_of (places t) q) ⊎ IsClearing p line → object_states_of (places ((by_line now).after line t)) q ≡ object_states_of (places t) q
            at (inl e) = e
            at (inr clearing) = absurd (never_clears line lines safe.0 beside.0 safe.1 beside.1 before.0 t shape quiet passes clearing)

        by : ((q : Path) → has_staging q ≡ false → is_prefix p q ≡ true → object_states_of (places u) q ≡ object_states_of (places ((by_line now).after line t)) q) ⊎ PartwayOf rest now (after_each (by_line now) (line ∷ lines) t) u
            → ((q : Path) → has_staging q ≡ false → is_prefix p q ≡ true → object_states_of (places u) q ≡ object_states_of (places t) q) ⊎ PartwayOf rest now (after_each (by_line now) (line ∷ lines) t) u
        by (inl same) = inl (λ q plain under. same q plain under ∙ first_same q plain under)
        by (inr way) = inr way
