-- What a line that copies nothing does not govern stays as it is, whatever is refused, and on its way.
use Rattle.std.specs.Prelude.{◌≡◌, ◌⊎◌, ℕ, Bool, true, false, not, cond, ◌&&◌, ◌||◌, List, [], ◌∷◌, take, filter, Option, Some, None, is_some}
use Rattle.std.proofs.Common.{zero, suc, refl, sym, ap, subst, ◌∙◌, inl, inr}
use Rattle.std.specs.FinMap as fin
use Rattle.std.specs.List.{list_all, AllByRecursion}
use Rattle.std.proofs.lemmas.Bool.{or_parts, and_parts}
use Rattle.pv_path.specs.Paths.{Path, same_path, is_prefix, has_staging, same_path-decides}
use Rattle.pv_steps.specs.Trees.{Files, places}
use Rattle.pv_walk.specs.declared.object_state.ObjectState.{ObjectState}
use Rattle.pv_walk.specs.declared.operation.Test.{Test}
use Rattle.pv_walk.specs.Dividing.{parts}
use Rattle.pv_walk.specs.Nodes.{object_states_of}
use Rattle.pv_walk.specs.Operations.{run}
use Rattle.pv_lines.specs.declared.line.Line.{Line}
use Rattle.pv_lines.specs.declared.line.LinePath.{LinePath}
use Rattle.pv_lines.specs.Lines.{IsLine}
use Rattle.pv_table.specs.declared.action.Action.{Action}
use Rattle.pv_table.specs.declared.action.Action.TheVariants.{Create, Copy, Adjust, Idle}
use Rattle.pv_table.specs.declared.action.Making.{Making}
use Rattle.pv_table.specs.declared.action.Adjustment.{Adjustment}
use Rattle.pv_table.specs.Asked.{clears_below, made_at, operations}
use Rattle.pv_table.specs.ActionTable.{action_of}
use Rattle.pv_table.specs.Created.{by_turn, by_line}
use Rattle.pv_steps.specs.Doing.{after_each}
use Rattle.pv_table.specs.Effects.{carried_out, is_adjusted, turn_after}
use Rattle.pv_table.specs.Pointwise.{adjusts_path}
use Rattle.pv_table.specs.Reaching.{names, names_above, path_in, is_creating, is_deep, reaches_below, reaches, governs}
use Rattle.pv_table.specs.Turns.{Refused, copied, refused_at}
use Rattle.pv_laws.specs.Stopping.{IsMidway}
use Rattle.pv_laws.proofs.Lines.{IsPlain, made_literal, made_passes, turns_made, turns_adjust, turns_idle, asked_made}
use Rattle.pv_laws.proofs.Making.{IsShaped, clears_none, made_point}
use Rattle.pv_table.proofs.ListedLaws.{all_tests}
use Rattle.pv_laws.proofs.Repeated.{deep_reaches, IsAskedAt, object, parent, below, set, nothing, asked_at}
use Rattle.pv_laws.proofs.Sets.{impossible, is_adjustment, IsMaking, line_is_making, adjusted_none}
use Rattle.pv_laws.proofs.Shapes.{IsLike, adjusted_like, made_shaped, shape_same, shaped_like}
use Rattle.pv_laws.proofs.Adjustment.{named_above, turn_open, adjust_point, adjusts}
use Rattle.pv_path.proofs.Tests.{true_not_false}

-- ---- what a line does not govern it asks nothing of

-- a line does not govern a path: it does not name it, reaches nothing below what it names above it, and makes it no parent
pub record IsFree (line : Line) (q : Path) : Type 0 where
  pub unnamed : names line q ≡ false
  pub unreached : (reaches_below line && names_above line q) ≡ false
  pub no_parent : (is_creating line && is_prefix q (path_in line.path)) ≡ false

pub ungoverned : (line : Line) (q : Path) → governs line q ≡ false → IsFree line q
ungoverned line q h =
    let two = or_parts (reaches line q) (is_creating line && is_prefix q (path_in line.path)) h in
    let one = or_parts (names line q) (reaches_below line && names_above line q) two.0 in
    record { unnamed = one.0; unreached = one.1; no_parent = two.1 }

module _ (line : Line) (is : IsLine line) (q : Path) (free : IsFree line q) where
  pub names_literal : (making : Making) → action_of line ≡ Create making → (p : Path) → names line p ≡ same_path (path_in line.path) p
  names_literal making e p = ap (λ (path : LinePath). names (record line { path = path }) p) (made_literal line is making e)

  pub creates : (making : Making) → action_of line ≡ Create making → is_creating line ≡ true
  creates making e = ap (λ (path : LinePath). is_creating (record line { path = path })) (made_literal line is making e)

  pub not_reached : (p : Path) (d : Action) → action_of line ≡ d → is_deep d ≡ true → names line p ≡ true → is_prefix p q ≡ true → same_path p q ≡ false → ⊥
  not_reached p d e deep named above other =
      true_not_false (reaches_below line && names_above line q) (ap (λ b. b && names_above line q) (deep_reaches line d e deep) ∙ named_above line p q named above other) free.unreached

  not_touched : (adjustment : Adjustment) → action_of line ≡ Adjust adjustment → adjusts_path line adjustment q ≡ true → ⊥
  not_touched adjustment e t = by (names line q) refl adjustment.deep refl (names_above line q) refl t
    where
      by : (a : Bool) → names line q ≡ a → (d : Bool) → adjustment.deep ≡ d → (n : Bool) → names_above line q ≡ n → (a || (d && n && not (has_staging q))) ≡ true → ⊥
      by true f d g n k t = true_not_false (names line q) f free.unnamed
      by false f true g true k t = true_not_false (reaches_below line && names_above line q) (ap (λ b. b && names_above line q) (deep_reaches line (Adjust adjustment) e g) ∙ k) free.unreached
      by false f true g false k t = absurd (let no : false ≡ true = t in cc)
      by false f false g n k t = absurd (let no : false ≡ true = t in cc)

  renewing : (making : Making) → action_of line ≡ Create making → clears_below making ≡ true → is_deep (Create making) ≡ true
  renewing making e h = by making.renew refl
    where
      by : (r : Option Test) → making.renew ≡ r → is_some making.renew ≡ true
      by None f = impossible (sym (clears_none making (line_is_making line making e) f) ∙ h)
      by (Some test) f = ap is_some f

  own_named : (making : Making) → action_of line ≡ Create making → names line (path_in line.path) ≡ true
  own_named making e = names_literal making e (path_in line.path) ∙ (same_path-decides (path_in line.path) (path_in line.path)).1 refl

  pub asks_nothing : operations line q ≡ []
  asks_nothing = by (asked_at line q)
    where
      by : IsAskedAt line q → operations line q ≡ []
      by (object making e s f) = absurd (true_not_false (names line q) (names_literal making e q ∙ (same_path-decides (path_in line.path) q).1 s) free.unnamed)
      by (parent making e s f) = absurd (true_not_false (is_creating line && is_prefix q (path_in line.path)) (ap (λ b. b && is_prefix q (path_in line.path)) (creates making e) ∙ s) free.no_parent)
      by (below making e g d f) =
          let two = and_parts (is_prefix (path_in line.path) q) (clears_below making) g in
          absurd (not_reached (path_in line.path) (Create making) e (renewing making e two.1) (own_named making e) two.0 d)
      by (set adjustment e t f) = absurd (not_touched adjustment e t)
      by (nothing f) = f

  -- a turn at a path that the line names does not reach it
  pub turn_away : (adjustment : Adjustment) → action_of line ≡ Adjust adjustment → (p : Path) → names line p ≡ true → is_adjusted adjustment p q ≡ false
  turn_away adjustment e p named = by (same_path p q) refl adjustment.deep refl (is_prefix p q) refl
    where
      by : (a : Bool) → same_path p q ≡ a → (d : Bool) → adjustment.deep ≡ d → (b : Bool) → is_prefix p q ≡ b → (a || (d && b && not (has_staging q))) ≡ false
      by true f d g b k = absurd (true_not_false (names line q) (sym (ap (names line) ((same_path-decides p q).0 f)) ∙ named) free.unnamed)
      by false f true g true k = absurd (not_reached p (Adjust adjustment) e g named k f)
      by false f true g false k = refl
      by false f false g b k = refl

-- ---- one turn

-- the shape is kept, and what the line does not govern
pub record IsKept (line : Line) (t u : Files) : Type 0 where
  pub shape : IsShaped (object_states_of (places u))
  pub frame : (q : Path) → has_staging q ≡ false → governs line q ≡ false → object_states_of (places u) q ≡ object_states_of (places t) q

pub kept_same : (line : Line) (t : Files) → IsShaped (object_states_of (places t)) → IsKept line t t
kept_same line t shape = record { shape = shape; frame = λ q plain free. refl }

kept_then : (line : Line) (t u v : Files) → IsKept line t u → IsKept line u v → IsKept line t v
kept_then line t u v a b = record { shape = b.shape; frame = λ q plain free. b.frame q plain free ∙ a.frame q plain free }

pub turn_refused : (now : ℕ) (line : Line) (path : Path) (t : Files) (place : Refused) → refused_at line path (places t) ≡ Some place → turn_after now line path t ≡ t
turn_refused now line path t place e = rw e

-- where a turn is not refused, it is enough to look at what is carried out
pub turn_kept : (now : ℕ) (line : Line) (path : Path) (t : Files) → IsShaped (object_states_of (places t)) → (refused_at line path (places t) ≡ None → IsKept line t (carried_out now (action_of line) path t)) → IsKept line t (turn_after now line path t)
turn_kept now line path t shape done = by (refused_at line path (places t)) refl
  where
    by : (r : Option Refused) → refused_at line path (places t) ≡ r → IsKept line t (turn_after now line path t)
    by None e = subst (IsKept line t) (sym (turn_open now line path t e)) (done e)
    by (Some place) e = subst (IsKept line t) (sym (turn_refused now line path t place e)) (kept_same line t shape)

module _ (now : ℕ) (line : Line) (is : IsLine line) (plain_line : IsPlain line) where
  made_kept : (making : Making) → action_of line ≡ Create making → (t : Files) → IsShaped (object_states_of (places t)) → IsKept line t (turn_after now line (path_in line.path) t)
  made_kept making e t shape = turn_kept now line (path_in line.path) t shape (λ free. subst (λ (d : Action). IsKept line t (carried_out now d (path_in line.path) t)) (sym e) (kept free))
    where
      is_making : IsMaking making
      is_making = line_is_making line making e

      point : (q : Path) → has_staging q ≡ false → object_states_of (places (carried_out now (Create making) (path_in line.path) t)) q ≡ run (made_at making (path_in line.path) q) (object_states_of (places t) q)
      point q plain = made_point now making is_making (path_in line.path) plain_line.unstaged t shape q plain

      kept : refused_at line (path_in line.path) (places t) ≡ None → IsKept line t (carried_out now (Create making) (path_in line.path) t)
      kept free = record {
        shape = shape_same (λ q. run (made_at making (path_in line.path) q) (object_states_of (places t) q)) (object_states_of (places (carried_out now (Create making) (path_in line.path) t))) point (
            made_shaped making is_making (path_in line.path) plain_line.unstaged (object_states_of (places t)) shape (plain_line.rooted making e) (made_passes line making e (path_in line.path) t free) plain_line.named);
        frame = λ q plain away. point q plain ∙ ap (λ xs. run xs (object_states_of (places t) q)) (sym (asked_made line making q e) ∙ asks_nothing line is q (ungoverned line q away));
      }

  pub adjust_kept : (adjustment : Adjustment) → action_of line ≡ Adjust adjustment → (path : Path) → names line path ≡ true → (t : Files) → IsShaped (object_states_of (places t)) → IsKept line t (turn_after now line path t)
  adjust_kept adjustment e path named t shape = turn_kept now line path t shape (λ free. subst (λ (d : Action). IsKept line t (carried_out now d path t)) (sym e) kept)
    where
      adjust : list_all is_adjustment adjustment.sets ≡ true
      adjust = adjusts now line adjustment e t shape

      left : Path → Option ObjectState
      left q = object_states_of (places (carried_out now (Adjust adjustment) path t)) q

      like : (q : Path) → has_staging q ≡ false → (object_states_of (places (carried_out now (Adjust adjustment) path t)) q ≡ object_states_of (places t) q)
          ⊎ ((x : ObjectState) × (y : ObjectState) × (object_states_of (places t) q ≡ Some x) × (object_states_of (places (carried_out now (Adjust adjustment) path t)) q ≡ Some y) × IsLike x y)
      like q plain = by (is_adjusted adjustment path q) (object_states_of (places t) q) refl (adjust_point now adjustment adjust path t q)
        where
          by : (b : Bool) (o : Option ObjectState) → object_states_of (places t) q ≡ o → object_states_of (places (carried_out now (Adjust adjustment) path t)) q ≡ cond b (run adjustment.sets (object_states_of (places t) q)) (object_states_of (places t) q)
              → (object_states_of (places (carried_out now (Adjust adjustment) path t)) q ≡ object_states_of (places t) q)
              ⊎ ((x : ObjectState) × (y : ObjectState) × (object_states_of (places t) q ≡ Some x) × (object_states_of (places (carried_out now (Adjust adjustment) path t)) q ≡ Some y) × IsLike x y)
          by false o f g = inl g
          by true None f g = inl (g ∙ ap (run adjustment.sets) f ∙ adjusted_none adjustment.sets adjust ∙ sym f)
          by true (Some x) f g = let same = adjusted_like adjustment.sets adjust x in inr (x, same.0, f, g ∙ ap (run adjustment.sets) f ∙ same.1, same.2)

      kept : IsKept line t (carried_out now (Adjust adjustment) path t)
      kept = record {
        shape = shaped_like (object_states_of (places t)) (object_states_of (places (carried_out now (Adjust adjustment) path t))) like shape;
        frame = λ q plain away.
            adjust_point now adjustment adjust path t q
            ∙ ap (λ b. cond b (run adjustment.sets (object_states_of (places t) q)) (object_states_of (places t) q)) (turn_away line is q (ungoverned line q away) adjustment e path named);
      }

  adjusts_kept : (adjustment : Adjustment) → action_of line ≡ Adjust adjustment → (paths : List Path) → AllByRecursion (λ p. names line p ≡ true) paths → (t : Files) → IsShaped (object_states_of (places t)) → IsKept line t (after_each (by_turn now line) paths t)
  adjusts_kept adjustment e [] named t shape = kept_same line t shape
  adjusts_kept adjustment e (p ∷ ps) named t shape =
      let one = adjust_kept adjustment e p named.0 t shape in
      kept_then line t (turn_after now line p t) (after_each (by_turn now line) ps (turn_after now line p t)) one (adjusts_kept adjustment e ps named.1 (turn_after now line p t) one.shape)

  -- a whole line
  pub line_kept : (t : Files) → IsShaped (object_states_of (places t)) → IsKept line t ((by_line now).after line t)
  line_kept t shape = by (action_of line) refl
    where
      by : (d : Action) → action_of line ≡ d → IsKept line t ((by_line now).after line t)
      by (Create making) e = subst (λ paths. IsKept line t (after_each (by_turn now line) paths t)) (sym (turns_made line making t e)) (made_kept making e t shape)
      by (Copy copying) e = absurd (let no : Some copying.source ≡ None = sym (ap copied e) ∙ plain_line.no_copy in cc)
      by (Adjust adjustment) e = subst (λ paths. IsKept line t (after_each (by_turn now line) paths t)) (sym (turns_adjust line adjustment t e))
          (adjusts_kept adjustment e (filter (names line) (fin.keys t)) (all_tests (names line) (fin.keys t)) t shape)
      by Idle e = subst (λ paths. IsKept line t (after_each (by_turn now line) paths t)) (sym (turns_idle line t e)) (kept_same line t shape)

-- ---- on its way

pub midway_frame : (line : Line) → IsLine line → (q : Path) → has_staging q ≡ false → governs line q ≡ false → (old new : Option ObjectState) → IsMidway line q old new → new ≡ old
midway_frame line is q plain away old new (IsMidway.piece k e) = e ∙ ap (λ xs. run (take k (parts xs)) old) (asks_nothing line is q (ungoverned line q away)) ∙ by k
  where
    by : (n : ℕ) → run (take n []) old ≡ old
    by zero = refl
    by (suc n) = refl
midway_frame line is q plain away old new (IsMidway.gap b s renewal none) = absurd (
    true_not_false (names line q) (names_literal line is q free renewal.making renewal.makes q ∙ (same_path-decides (path_in line.path) q).1 renewal.at) free.unnamed)
  where
    free : IsFree line q
    free = ungoverned line q away
